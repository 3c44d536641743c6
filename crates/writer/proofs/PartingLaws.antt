-- A chain on its way into two, as `table::part` goes along it. `Parting` is what the loop keeps: in the words as they are, the cells from x on
-- are a chain that ends, the last cells k and g of the two new chains stand in it no more, and from here the words become what they have to
-- (`part_words`). So what a turn writes is behind k or g, and the rest of the chain is read as it was (`link_next`).
use mathlib.Core.Path.{◌≡◌, refl, sym, ap, ◌∙◌}
use mathlib.Core.Logic.{⊎_elim}
use mathlib.Core.Bool.{true, false}
use mathlib.Core.List.{List}
use Prim.Native.Nat.{ℕ, suc, ◌+◌, ◌-◌, ◌≤◌, ◌<◌}
use native.Mathlib.Omega.{arith}
use lib.Dec.{lit<}
use lib.ListN.{length, set}
use lib.Seq.{get_or-set_other}
use Rattle.rules.proofs.Tests.{eq?}
use Rattle.model.specs.Shape.{Shape, top_of, card_width}
use Rattle.model.specs.Layout.{to_next, cards_at, follow, card_word}
use Rattle.model.specs.Meaning.{next_card, bucket_word}
use Rattle.model.specs.Words.{card_at, link_at, moves_at, part_words}
use Rattle.model.proofs.Sums.{count}
use Rattle.model.proofs.Places.{cell_at_from, cell_at_cell}
use Rattle.model.proofs.Shapes.{in_card}
use Rattle.model.proofs.Split.{part_none, part_goes, part_stays}
use Rattle.reads.specs.declared.header.Header.{Header}
use Rattle.reads.specs.Cells.{shape_in, Sized}
use Rattle.reads.specs.Chains.{Ends}
use Rattle.writer.specs.Table.{MaySplit}
use Rattle.reads.proofs.AlongLaws.{follow_length}
use Rattle.reads.proofs.CellLaws.{sized_set}
use Rattle.writer.proofs.WriteLaws.{link_bucket, link_card}
use Rattle.reads.proofs.EndsLaws.{ends_in, ends_zero, ends_frame, ends_on, ends_here, ends_less, ends_apart}

-- a link is written

-- it is no next word of another cell
link_other : (sh : Shape) (b j i : ℕ) → b < top_of sh → 1 ≤ i → (i ≡ j → ⊥) → card_at sh i to_next ≡ link_at sh b j → ⊥
unfolding cards_at
link_other sh b j i low a d e =
    ⊎_elim (λ (z : j ≡ 0). omega (arith, link_bucket sh b z, cell_at_from (cards_at sh) (card_width sh) i 0))
    (λ (z : j ≡ 0 → ⊥). cell_at_cell (cards_at sh) (card_width sh) i j 0 0 a (omega arith) (in_card sh (lit< tt)) (in_card sh (lit< tt)) d (e ∙ sym (link_card sh b z))) (eq? j 0)

link_next : (sh : Shape) (w : List ℕ) (b j v : ℕ) → b < top_of sh → (i : ℕ) → 1 ≤ i → (i ≡ j → ⊥) → next_card sh (set w (link_at sh b j) v) i ≡ next_card sh w i
unfolding card_word
link_next sh w b j v low i a d = get_or-set_other w (link_at sh b j) (card_at sh i to_next) v 0 (link_other sh b j i low a d)

-- a chain is parted

pub record Parting (h : Header) (w₀ w : List ℕ) (x k g : ℕ) : Type 0 where
  pub sized : Sized w h
  pub chain : Ends h.cards (next_card (shape_in h) w) x
  pub apart_k : count k (follow h.cards (next_card (shape_in h) w) x) ≡ 0
  pub apart_g : count g (follow h.cards (next_card (shape_in h) w) x) ≡ 0
  pub low_k : k ≤ h.cards
  pub low_g : g ≤ h.cards
  pub fuel : ℕ
  pub enough : length (follow h.cards (next_card (shape_in h) w) x) ≤ fuel
  pub same : part_words fuel (shape_in h) h.maxp h.p w k g x ≡ part_words h.cards (shape_in h) h.maxp h.p w₀ 0 0 (bucket_word (shape_in h) w₀ h.p)

module _ {h : Header} {w₀ : List ℕ} (pre : MaySplit w₀ h) where
  abbrev sh : Shape
  sh = shape_in h

  abbrev c : ℕ
  c = h.cards

  abbrev m : ℕ
  m = h.maxp

  abbrev p : ℕ
  p = h.p

  room : h.maxp + h.p < top_of (shape_in h)
  room = omega (arith, pre.room, pre.read.sized.top)

  pub part_start : {x : ℕ} → x ≡ bucket_word (shape_in h) w₀ h.p → Parting h w₀ w₀ x 0 0
  part_start e =
      rw e
      (record {
        sized = pre.read.sized;
        chain = pre.chain;
        apart_k = ends_zero pre.chain;
        apart_g = ends_zero pre.chain;
        low_k = omega arith;
        low_g = omega arith;
        fuel = c;
        enough = follow_length c (next_card sh w₀) (bucket_word sh w₀ p);
        same = refl;
      })

  module _ {w : List ℕ} {x k g : ℕ} (r : Parting h w₀ w x k g) where
    pub part_long : length w ≡ length w₀
    part_long = r.sized.long ∙ sym pre.read.sized.long

    pub part_end : x ≡ 0 → set (set w (link_at (shape_in h) h.p k) 0) (link_at (shape_in h) (h.maxp + h.p) g) 0 ≡ part_words h.cards (shape_in h) h.maxp h.p w₀ 0 0 (bucket_word (shape_in h) w₀ h.p)
    part_end z = sym (ap (part_words r.fuel sh m p w k g) z ∙ part_none r.fuel sh m p w k g) ∙ r.same

    -- in a turn cell x is a card's, and the cells behind it are a chain that x stands in no more
    module _ (some : x ≡ 0 → ⊥) where
      pub part_cell : (1 ≤ x) × (x ≤ h.cards)
      part_cell = ends_here r.chain some

      -- what is left of the fuel
      record Left : Type 0 where
        pub fuel : ℕ
        pub is : r.fuel ≡ suc fuel
        pub enough : length (follow c (next_card sh w) (next_card sh w x)) ≤ fuel

      left : Left
      left = let l = ends_less r.chain some in let e = r.enough in record { fuel = r.fuel - 1; is = omega arith; enough = omega arith }

      behind : (i : ℕ) → count i (follow c (next_card sh w) (next_card sh w x)) ≤ count i (follow c (next_card sh w) x)
      behind i = omega (arith, ap (count i) (ends_on r.chain some).0)

      -- behind a cell j that stands in the chain no more, x is linked
      module _ (b j : ℕ) (low : b < top_of (shape_in h)) (apart : count j (follow h.cards (next_card (shape_in h) w) x) ≡ 0) where
        new : List ℕ
        new = set w (link_at sh b j) x

        framed : (follow c (next_card sh new) (next_card sh w x) ≡ follow c (next_card sh w) (next_card sh w x)) × Ends c (next_card sh new) (next_card sh w x)
        unfolding new
        framed =
            let e = (ends_on r.chain some).1 in
            ends_frame e (next_card sh new)
            (λ i h. link_next sh w b j x low i (ends_in e i h).0 (λ d. omega (arith, ap (λ (n : ℕ). count n (follow c (next_card sh w) x)) d, behind i)))

        linked : (k₁ g₁ : ℕ) → count k₁ (follow c (next_card sh w) (next_card sh w x)) ≡ 0 → count g₁ (follow c (next_card sh w) (next_card sh w x)) ≡ 0 → k₁ ≤ c → g₁ ≤ c
            → part_words left.fuel sh m p new k₁ g₁ (next_card sh w x) ≡ part_words (suc left.fuel) sh m p w k g x → Parting h w₀ new (next_card sh w x) k₁ g₁
        unfolding new
        linked k₁ g₁ off_k off_g low_k low_g e =
            let z = sym left.is in
            record {
              sized = sized_set r.sized (link_at sh b j) x refl;
              chain = framed.1;
              apart_k = rw framed.0 off_k;
              apart_g = rw framed.0 off_g;
              low_k = low_k;
              low_g = low_g;
              fuel = left.fuel;
              enough = rw framed.0 left.enough;
              same = e ∙ ap (λ (n : ℕ). part_words n sh m p w k g x) z ∙ r.same;
            }

      -- the same, of what the code reads and writes
      module _ {w₁ : List ℕ} {y : ℕ} (next : y ≡ card_word (shape_in h) w x to_next) where
        less : (b j : ℕ) → b < top_of sh → count j (follow c (next_card sh w) x) ≡ 0 → w₁ ≡ set w (link_at sh b j) x → length (follow c (next_card sh w₁) y) < length (follow c (next_card sh w) x)
        unfolding new
        less b j low apart e = rw (e, next, (framed b j low apart).0) (ends_less r.chain some)

        pub go_less : w₁ ≡ set w (link_at (shape_in h) (h.maxp + h.p) g) x → length (follow h.cards (next_card (shape_in h) w₁) y) < length (follow h.cards (next_card (shape_in h) w) x)
        go_less e = less (m + p) g room r.apart_g e

        pub stay_less : w₁ ≡ set w (link_at (shape_in h) h.p k) x → length (follow h.cards (next_card (shape_in h) w₁) y) < length (follow h.cards (next_card (shape_in h) w) x)
        stay_less e = less p k (omega (arith, room)) r.apart_k e

        pub part_go : moves_at (shape_in h) w h.maxp h.p x ≡ true → w₁ ≡ set w (link_at (shape_in h) (h.maxp + h.p) g) x → Parting h w₀ w₁ y k x
        unfolding new
        part_go t e =
            rw (e, next)
            (linked (m + p) g room r.apart_g k x (omega (arith, behind k, r.apart_k)) (ends_apart r.chain some) r.low_k part_cell.1
            (sym (part_goes left.fuel sh m p w k g x part_cell.0 t)))

        pub part_stay : moves_at (shape_in h) w h.maxp h.p x ≡ false → w₁ ≡ set w (link_at (shape_in h) h.p k) x → Parting h w₀ w₁ y x g
        unfolding new
        part_stay t e =
            rw (e, next)
            (linked p k (omega (arith, room)) r.apart_k x g (ends_apart r.chain some) (omega (arith, behind g, r.apart_g)) part_cell.1 r.low_g
            (sym (part_stays left.fuel sh m p w k g x part_cell.0 t)))
