-- The writes of a contraction (`rep_contract`). The end of the chain that the last bucket was split from, its last cell's next word or the
-- bucket's word, leads to the last bucket's first cell, so that the two chains are one; the last bucket's word becomes 0, and with it goes
-- the directory entry of a segment that it alone used. The state gets its former value.
use mathlib.Core.Path.{◌≡◌, refl, sym, ap, ◌∙◌, subst}
use mathlib.Core.Logic.{◌⊎◌, inl, inr, ⊎_elim}
use mathlib.Core.List.{List, [], ◌∷◌, ◌++◌, map, append-nil}
use mathlib.Core.Bool.{Bool, true, false, cond}
use Prim.Native.Nat.{ℕ, zero, suc, ◌+◌, ◌-◌, ◌/◌, ◌%◌, ◌≤◌, ◌<◌}
use native.Mathlib.Omega.{arith}
use lib.Dec.{eqb, ltb}
use lib.ListN.{length, get_or, set, take, length-set, length-map, get_or-map, get_or-eq_default}
use lib.Seq.{get_or-set_same, get_or-set_other}
use borrow.Author.Tests.{eqb-true, eqb-false, ltb-true, ltb-false}
use Rattle.rules.specs.Table.{least, contracts, low_maxp, low_p}
use Rattle.rules.proofs.Tests.{by_cases, eq?}
use Rattle.rules.proofs.States.{state_of}
use Rattle.rules.proofs.Loads.{contracts_true}
use Rattle.rules.proofs.Addresses.{shrink_ok, shrink_count}
use Rattle.model.specs.Lists.{join, total}
use Rattle.model.specs.Shape.{segment_size, top_of, card_width}
use Rattle.model.specs.Model.{Store, Card, cards, held, faults_held, size, under, bucket, cells_of, contract, shrunk}
use Rattle.model.specs.Layout.{maxp_at, p_at, held_at, to_next, Cell, head_or, chained, fault_width, directory_at, segments_at, cards_at, faults_at, card_cell, free_cell, card_chains, fault_chains, header, directory, segments, front, first, last}
use Rattle.model.specs.Meaning.{buckets_in, bucket_word, bucket_cells}
use Rattle.model.specs.Words.{card_at, link_at, close_words, join_words, shrink_words}
use Rattle.model.proofs.Lists.{get_d_front, map_append, Every, every_append, every_join, join_every, every_set}
use Rattle.model.proofs.Sums.{bit, bit_same, total_append, total_set, total_one, length_total}
use Rattle.model.proofs.Each.{many}
use Rattle.model.proofs.Chains.{Stand}
use Rattle.model.proofs.Part.{cell_in, Held}
use Rattle.model.proofs.Writes.{Apart}
use Rattle.model.proofs.Fair.{one, filings, Fair, host_state, faults_total}
use Rattle.model.proofs.Rep.{Rep, directory_length, segments_length, size_top}
use Rattle.model.proofs.Decode.{cards_at_lem, head_cards}
use Rattle.model.proofs.Readings.{maxp_at_lem, p_at_lem, held_at_lem, bucket_at, chain_at}
use Rattle.model.proofs.Growth.{contract_at, contract_size, contract_total, contract_fair}
use Rattle.model.proofs.Segments.{entries_for, segment_kept, segment_closed, segment_word, segments_by_word}
use Rattle.model.proofs.Whole.{Whole, rep_whole, whole_rep, each_apart, apart_less, front_write, card_chain, card_cut, fronted, fronted_bucket, fronted_entry, Recorded, held_recorded, recorded_held, ends, link_none, link_last}

module _ (w : List ℕ) (s : Store) (r : Rep w s) (more : least < size s) where
  -- the bucket that is joined, and the one that goes
  abbrev q : ℕ
  q = low_p s.maxp s.p

  abbrev e : ℕ
  e = size s - 1

  inside : q < e
  inside = omega (arith, shrink_count s.maxp s.p (host_state s r.fair) more, (state_of (top_of s.shape) (low_maxp s.maxp s.p) q (shrink_ok (top_of s.shape) s.maxp s.p r.fair.state more)).below)

  number : length s.buckets ≡ e + 1
  number = omega (arith, r.fair.number)

  tops : e < top_of s.shape
  tops = omega (arith, size_top s r.fair)

  fair : Fair (contract s)
  fair = contract_fair s r.fair more

  abbrev both : List Card
  both = bucket s q ++ bucket s e

  -- the chain that goes is seen in no place

  abbrev less : List (List Cell)
  less = set (card_chains s) (suc e) []

  length_chains : length (card_chains s) ≡ suc (e + 1)
  length_chains = omega (arith, number, length-map s.buckets (map card_cell))

  chain_e : get_or (card_chains s) (suc e) [] ≡ map card_cell (bucket s e)
  chain_e = cards_at_lem w s r e

  chain_q : get_or less (suc q) [] ≡ map card_cell (bucket s q)
  chain_q = get_or-set_other (card_chains s) (suc e) (suc q) [] [] (omega (arith, inside)) ∙ cards_at_lem w s r q

  stand_e : Stand (cell_in w (cards_at s.shape) (card_width s.shape)) (card_width s.shape) (chained 0 (map card_cell (bucket s e)))
  stand_e = subst (λ (l : List Cell). Stand (cell_in w (cards_at s.shape) (card_width s.shape)) (card_width s.shape) (chained 0 l)) chain_e (r.cards (suc e))

  less_count : (x : ℕ) → many x (join less) + many x (map card_cell (bucket s e)) ≡ many x (join (card_chains s))
  less_count x =
      let f : Cell → ℕ = λ c. bit (eqb x c.at) in
      omega (arith, total_set f (card_chains s) (suc e) [] (omega (arith, length_chains)), ap (total f) chain_e)

  less_whole : Whole w s.shape (front s) less (fault_chains s)
  less_whole =
      card_chain w s.shape (front s) (card_chains s) (fault_chains s) (rep_whole r) (suc e) [] (omega (arith, length_chains))
      (apart_less (λ i. omega (arith, less_count i)) (each_apart r.fair.cells)) tt

  -- the two chains are one
  abbrev now : List (List Cell)
  now = set less (suc q) (map card_cell both)

  below_q : suc q < length less
  below_q = omega (arith, length-set (card_chains s) (suc e) [], length_chains, inside)

  now_apart : Apart s.shape.limit (join now)
  now_apart =
      apart_less (λ x. let f : Cell → ℕ = λ c. bit (eqb x c.at) in
      omega (
        arith,
        less_count x,
        total_set f less (suc q) (map card_cell both) below_q,
        ap (total f) chain_q,
        ap (total f) (map_append card_cell (bucket s q) (bucket s e)),
        total_append f (map card_cell (bucket s q)) (map card_cell (bucket s e)),
      )) (each_apart r.fair.cells)

  abbrev fronts : ℕ → ℕ → List ℕ → List ℕ → List ℕ
  fronts m p dir g = fronted s.shape m p (held s) (faults_held s) (first s.free) (first s.free_faults) dir g

  -- what is known of the segments once they are linked
  record Linked (u g : List ℕ) : Type 0 where
    whole : Whole u s.shape (fronts s.maxp s.p (directory s) g) now (fault_chains s)
    long : length g ≡ top_of s.shape
    head : get_or g q 0 ≡ first (cells_of both)
    same : (b : ℕ) → (b ≡ q → ⊥) → get_or g b 0 ≡ get_or (segments s) b 0

  abbrev v : ℕ
  v = first (cells_of (bucket s e))

  linked_first : bucket s q ≡ [] → Linked (set w (segments_at s.shape + q) v) (set (segments s) q v)
  unfolding front header cards_at directory
  linked_first z = record {
    whole = subst (λ (fr : List ℕ). Whole (set w (segments_at s.shape + q) v) s.shape fr now (fault_chains s))
        (fronted_bucket _ _ _ _ _ _ _ (directory s) (segments s) q v (directory_length s))
        (front_write w s.shape (front s) now (fault_chains s)
        (card_chain w s.shape (front s) less (fault_chains s) less_whole (suc q) (map card_cell both) below_q now_apart
        (subst (λ (l : List Card). Stand (cell_in w (cards_at s.shape) (card_width s.shape)) (card_width s.shape) (chained 0 (map card_cell (l ++ bucket s e)))) (sym z) stand_e))
        (segments_at s.shape + q) v (omega (arith, inside, tops)));
    long = length-set (segments s) q v ∙ segments_length s r.fair;
    head = get_or-set_same (segments s) q v 0 (omega (arith, inside, tops, segments_length s r.fair)) ∙ ap (λ (l : List Card). first (cells_of (l ++ bucket s e))) (sym z);
    same = λ b n. get_or-set_other (segments s) q b v 0 n;
  }

  linked_behind : (xs : List Card) (x : Card) → bucket s q ≡ xs ++ (x ∷ []) → (1 ≤ x.at) × Linked (set w (card_at s.shape x.at to_next) v) (segments s)
  unfolding front header card_cell
  linked_behind xs x z =
      let zs = map card_cell (bucket s e) in
      let old : map card_cell (bucket s q) ≡ map card_cell xs ++ (card_cell x ∷ []) = ap (map card_cell) z ∙ map_append card_cell xs (x ∷ []) in
      let g : get_or less (suc q) [] ≡ map card_cell xs ++ (card_cell x ∷ []) ++ [] = chain_q ∙ old ∙ sym (append-nil (map card_cell xs ++ (card_cell x ∷ []))) in
      let ch : map card_cell xs ++ (card_cell x ∷ []) ++ zs ≡ map card_cell both = ap (λ (l : List Cell). l ++ zs) (sym old) ∙ sym (map_append card_cell (bucket s q) (bucket s e)) in
      let f : Cell → ℕ = λ c. bit (eqb x.at c.at) in
      let here : 0 < many x.at (join less) = omega (
        arith,
        total_one f less (suc q),
        ap (total f) (chain_q ∙ old),
        total_append f (map card_cell xs) (card_cell x ∷ []),
        bit_same x.at x.at refl,
      ) in (
        (r.fair.cells.inside x.at (omega (arith, less_count x.at))).0,
        record {
          whole = subst (λ (i : ℕ). Whole (set w (card_at s.shape x.at to_next) i) s.shape (front s) now (fault_chains s)) (sym (head_cards (bucket s e)))
              (subst (λ (l : List Cell). Whole (set w (card_at s.shape x.at to_next) (head_or 0 zs)) s.shape (front s) (set less (suc q) l) (fault_chains s)) ch
              (card_cut w s.shape (front s) less (fault_chains s) less_whole (suc q) (map card_cell xs) (card_cell x) [] below_q g zs
              (λ i h. (r.fair.cells.inside i (omega (arith, less_count i))).0) (omega (arith, less_count x.at, r.fair.cells.once x.at)) stand_e
              (subst (λ (l : List Cell). Apart s.shape.limit (join (set less (suc q) l))) (sym ch) now_apart)));
          long = segments_length s r.fair;
          head = segment_word s r.fair q (omega (arith, inside, tops)) ∙ ap (λ (l : List Card). first (cells_of l)) z ∙ keeps xs ∙ ap (λ (l : List Card). first (cells_of (l ++ bucket s e))) (sym z);
          same = λ b n. refl;
        },
      )
    where
      keeps : (l : List Card) → first (cells_of (l ++ (x ∷ []))) ≡ first (cells_of (l ++ (x ∷ []) ++ bucket s e))
      keeps [] = refl
      keeps (c ∷ cs) = refl

  abbrev w₁ : List ℕ
  w₁ = set w (link_at s.shape q (last (cells_of (bucket s q)))) v

  linked : (g : List ℕ) × Linked w₁ g
  linked = go (ends (bucket s q))
    where
      go : (bucket s q ≡ []) ⊎ ((xs : List Card) × (x : Card) × (bucket s q ≡ xs ++ (x ∷ []))) → (g : List ℕ) × Linked w₁ g
      go (inl z) = (set (segments s) q v, subst (λ (i : ℕ). Linked (set w i v) (set (segments s) q v)) (sym (link_none (λ (c : Card). c.at) (bucket s q) s.shape q z)) (linked_first z))
      go (inr (xs, x, z)) =
          let h = linked_behind xs x z in
          (segments s, subst (λ (i : ℕ). Linked (set w i v) (segments s)) (sym (link_last (λ (c : Card). c.at) (bucket s q) s.shape q xs x z h.0)) h.1)

  -- the last bucket's word becomes 0

  w₂ : List ℕ
  w₂ = set w₁ (segments_at s.shape + e) 0

  -- of each bucket after the contraction: the joined one, those before the one that goes, and past it none
  each_bucket : (P : ℕ → List Card → Type 0) → P q both → ((b : ℕ) → (b ≡ q → ⊥) → b < e → P b (bucket s b)) → ((b : ℕ) → e ≤ b → P b []) → (b : ℕ) → P b (bucket (contract s) b)
  each_bucket P x y z b =
      subst (P b) (sym (contract_at s r.fair more b))
      (by_cases (eqb b q)
      (λ f. rw (f, eqb-true b q f) x)
      (λ f. rw f (by_cases (ltb b e) (λ h. rw h (y b (eqb-false b q f) (ltb-true b e h))) (λ h. rw h (z b (ltb-false b e h))))))

  emptied : Whole w₂ s.shape (fronts s.maxp s.p (directory s) (set linked.0 e 0)) now (fault_chains s)
  unfolding w₂ cards_at directory
  emptied =
      subst (λ (fr : List ℕ). Whole w₂ s.shape fr now (fault_chains s)) (fronted_bucket _ _ _ _ _ _ _ (directory s) linked.0 e 0 (directory_length s))
      (front_write w₁ s.shape _ now (fault_chains s) linked.1.whole (segments_at s.shape + e) 0 (omega (arith, tops)))

  held_now : Held w₂ (cards_at s.shape) (card_width s.shape) (card_chains (contract s))
  unfolding contract
  held_now zero = emptied.cards 0
  held_now (suc b) =
      let S : List Cell → Type 0 = λ l. Stand (cell_in w₂ (cards_at s.shape) (card_width s.shape)) (card_width s.shape) (chained 0 l) in
      subst S (sym (get_or-map (map card_cell) (contract s).buckets b []))
      (each_bucket (λ b l. S (map card_cell l)) (subst S (get_or-set_same less (suc q) (map card_cell both) [] below_q) (emptied.cards (suc q)))
      (λ b x y. subst S (get_or-set_other less (suc q) (suc b) (map card_cell both) [] (λ z. x (omega arith)) ∙ get_or-set_other (card_chains s) (suc e) (suc b) [] [] (omega arith) ∙ cards_at_lem w s r b) (emptied.cards (suc b)))
      (λ b x. tt) b)

  segments_now : set linked.0 e 0 ≡ segments (contract s)
  unfolding contract
  segments_now =
      let g = linked.0 in
      let word : (b : ℕ) → (b ≡ q → ⊥) → b < top_of s.shape → get_or g b 0 ≡ first (cells_of (bucket s b)) = λ b n t. linked.1.same b n ∙ segment_word s r.fair b t in
      segments_by_word (contract s) fair (set g e 0) (length-set g e 0 ∙ linked.1.long)
      (each_bucket (λ b l. b < top_of s.shape → get_or (set g e 0) b 0 ≡ first (cells_of l)) (λ t. get_or-set_other g e q 0 0 (omega (arith, inside)) ∙ linked.1.head)
      (λ b x y t. get_or-set_other g e b 0 0 (omega arith) ∙ word b x t)
      (λ b x t. ⊎_elim (λ (z : b ≡ e). ap (λ (i : ℕ). get_or (set g e 0) i 0) z ∙ get_or-set_same g e 0 0 (omega (arith, linked.1.long, tops)))
      (λ (z : b ≡ e → ⊥). get_or-set_other g e b 0 0 z ∙ word b (omega (arith, inside)) t ∙ ap (λ (l : List Card). first (cells_of l)) (get_or-eq_default s.buckets [] {n = b} (omega (arith, number)))) (eq? b e)))

  -- the directory and the state

  emptied_whole : Whole w₂ s.shape (fronts s.maxp s.p (directory s) (segments (contract s))) (card_chains (contract s)) (fault_chains s)
  unfolding contract
  emptied_whole = record {
    long = emptied.long;
    front = emptied.front ∙ ap (fronts s.maxp s.p (directory s)) segments_now;
    cards_apart = each_apart fair.cells;
    cards = held_now;
    faults_apart = emptied.faults_apart;
    faults = emptied.faults;
  }

  directory_now : directory (contract s) ≡ entries_for s.shape e
  unfolding directory contract
  directory_now = let n : size (contract s) ≡ e = omega (arith, contract_size s r.fair more) in ap (entries_for s.shape) n

  directory_was : directory s ≡ entries_for s.shape (e + 1)
  unfolding directory
  directory_was = let n : size s ≡ e + 1 = omega arith in ap (entries_for s.shape) n

  closed : Whole (close_words s.shape w₂ e) s.shape (fronts s.maxp s.p (directory (contract s)) (segments (contract s))) (card_chains (contract s)) (fault_chains s)
  unfolding close_words cards_at
  closed = go (eqb (e % segment_size) 0) refl
    where
      Now : List ℕ → List ℕ → Type 0
      Now u dir = Whole u s.shape (fronts s.maxp s.p dir (segments (contract s))) (card_chains (contract s)) (fault_chains s)

      go : (t : Bool) → eqb (e % segment_size) 0 ≡ t → Now (cond t (set w₂ (directory_at + e / segment_size) 0) w₂) (directory (contract s))
      go true z =
          let n = eqb-true (e % segment_size) 0 z in
          let b : e / segment_size < length (directory s) = omega (arith, tops, directory_length s) in
          subst (Now (set w₂ (directory_at + e / segment_size) 0)) (ap (λ (l : List ℕ). set l (e / segment_size) 0) directory_was ∙ sym (directory_now ∙ segment_closed s.shape e tops n))
          (subst (λ (fr : List ℕ). Whole (set w₂ (directory_at + e / segment_size) 0) s.shape fr (card_chains (contract s)) (fault_chains s))
          (fronted_entry _ _ _ _ _ _ _ (directory s) (segments (contract s)) (e / segment_size) 0 b)
          (front_write w₂ s.shape _ _ _ emptied_whole (directory_at + e / segment_size) 0 (omega (arith, tops))))
      go false z = subst (Now w₂) (directory_was ∙ segment_kept s.shape e (eqb-false (e % segment_size) 0 z) ∙ sym directory_now) emptied_whole

  -- the counts stay, and the histories are the same ones

  held_contract : held s ≡ held (contract s)
  held_contract = omega (arith, length_total (cards (contract s)), length_total (cards s), contract_total s r.fair more one)

  faults_contract : faults_held s ≡ faults_held (contract s)
  faults_contract = omega (arith, faults_total (cards (contract s)), faults_total (cards s), contract_total s r.fair more filings)

  recorded_contract : (u : List ℕ) → Held u (faults_at s.shape) fault_width (fault_chains s) → Held u (faults_at s.shape) fault_width (fault_chains (contract s))
  unfolding contract
  recorded_contract u h =
      let P = Recorded u s.shape in
      let old = every_join P s.buckets (held_recorded u s.shape (map (free_cell fault_width) s.free_faults) (cards s) h) in
      recorded_held u s.shape (map (free_cell fault_width) s.free_faults) (cards (contract s)) (h 0)
      (every_set P (take e s.buckets) q both
      (join_every P (take e s.buckets) (λ j. subst (Every P) (sym (get_d_front s.buckets e j [])) (by_cases (ltb j e) (λ t. rw t (old j)) (λ t. rw t tt))))
      (every_append P (bucket s q) (bucket s e) (old q) (old e)))

  written : join_words s.shape w (last (cells_of (bucket s q))) ≡ set (set (close_words s.shape w₂ e) maxp_at (low_maxp s.maxp s.p)) p_at q
  unfolding join_words w₂
  written =
      let m = maxp_at_lem w s r in
      let p = p_at_lem w s r in
      let b : bucket_word s.shape w (get_or w maxp_at 0 + get_or w p_at 0 - 1) ≡ v = (λ t. bucket_word s.shape w (m t + p t - 1)) ∙ bucket_at w s r e (omega (arith, number)) in
      λ t. set (set (close_words s.shape (set (set w (link_at s.shape (low_p (m t) (p t)) (last (cells_of (bucket s q)))) (b t)) (segments_at s.shape + (m t + p t - 1)) 0) (m t + p t - 1)) maxp_at (low_maxp (m t) (p t))) p_at (low_p (m t) (p t))

  pub rep_contract : Rep (join_words s.shape w (last (cells_of (bucket s q)))) (contract s)
  unfolding contract front header cards_at
  rep_contract =
      let u = close_words s.shape w₂ e in
      let x = set u maxp_at (low_maxp s.maxp s.p) in
      subst (λ (u : List ℕ). Rep u (contract s)) (sym written)
      (whole_rep fair
      (λ t. fronted s.shape (low_maxp s.maxp s.p) q (held_contract t) (faults_contract t) (first s.free) (first s.free_faults) (directory (contract s)) (segments (contract s)))
      refl (recorded_contract (set x p_at q))
      (front_write x s.shape _ _ _ (front_write u s.shape _ _ _ closed maxp_at (low_maxp s.maxp s.p) (omega arith)) p_at q (omega arith)))

-- and if the load asks for it
pub rep_shrunk : (w : List ℕ) (s : Store) → Rep w s → Rep (shrink_words s.shape w) (shrunk s)
unfolding shrink_words shrunk
rep_shrunk w s r =
    let n : contracts s.shape.lower (get_or w held_at 0) (buckets_in w) ≡ under s = λ t. contracts s.shape.lower (held_at_lem w s r t) (maxp_at_lem w s r t + p_at_lem w s r t) in
    by_cases (under s) (λ e. rw (n, e) (joined (contracts_true s.shape.lower (held s) (size s) e).1)) (λ e. rw (n, e) r)
  where
    joined : least < size s → Rep (join_words s.shape w (last (bucket_cells s.shape w (low_p (get_or w maxp_at 0) (get_or w p_at 0))))) (contract s)
    joined more =
        let k : bucket_cells s.shape w (low_p (get_or w maxp_at 0) (get_or w p_at 0)) ≡ cells_of (bucket s (low_p s.maxp s.p)) =
        (λ t. bucket_cells s.shape w (low_p (maxp_at_lem w s r t) (p_at_lem w s r t))) ∙ chain_at w s r (low_p s.maxp s.p) (omega (arith, inside w s r more, number w s r more)) in
        subst (λ (l : List ℕ). Rep (join_words s.shape w (last l)) (contract s)) (sym k) (rep_contract w s r more)
