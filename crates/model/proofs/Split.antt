-- The writes of a split (`rep_split`). One pass over the chain of bucket p strings each cell behind bucket p or behind the new bucket, by
-- the code of its serial, so that both chains keep the order (`parted`); each cell's words but the next one stay, and so do the other
-- chains. A new segment gets its directory entry, and the state its next value.
use mathlib.Core.Path.{◌≡◌, refl, sym, ap, ◌∙◌, subst, subst₃}
use mathlib.Core.List.{List, [], ◌∷◌, ◌++◌, map, append-nil}
use mathlib.Core.Bool.{Bool, true, false, not, cond}
use Prim.Native.Nat.{ℕ, zero, suc, ◌+◌, ◌*◌, ◌/◌, ◌%◌, ◌≤◌, ◌<◌}
use native.Mathlib.Omega.{arith}
use lib.Dec.{eqb, lit<}
use lib.ListN.{length, get_or, set, length-map, get_or-map}
use lib.Seq.{append_snoc, get_or-set_other}
use borrow.Author.Tests.{eqb-true, eqb-false, ne_eqb}
use Rattle.rules.specs.Code.{code_of}
use Rattle.rules.specs.Table.{splits, high_maxp, high_p}
use Rattle.rules.proofs.Tests.{by_cases, both}
use Rattle.rules.proofs.States.{state_of}
use Rattle.model.specs.Lists.{all, keep, join, total}
use Rattle.model.specs.Serial.{serial_ok}
use Rattle.model.specs.Shape.{Shape, segment_size, entries, top_of, card_width}
use Rattle.model.specs.Model.{Store, Card, cards, held, faults_held, size, over, bucket, cells_of, moves, moving, staying, split, grown}
use Rattle.model.specs.Layout.{maxp_at, p_at, held_at, to_next, Cell, head_or, chained, ats_of, fault_width, directory_at, segments_at, cards_at, faults_at, card_cell, free_cell, card_chains, fault_chains, header, directory, segments, front, first, last, card_word, good_card}
use Rattle.model.specs.Meaning.{buckets_in, bucket_word}
use Rattle.model.specs.Words.{link_at, open_words, moves_at, part_words, split_words, grow_words}
use Rattle.model.proofs.Lists.{join_append, map_append, Every, every_append, every_keep, every_join, every_set}
use Rattle.model.proofs.Sums.{bit, bit_same, total_set, total_one, length_total}
use Rattle.model.proofs.Each.{many}
use Rattle.model.proofs.Chains.{Stand}
use Rattle.model.proofs.Part.{cell_in, Held}
use Rattle.model.proofs.Shapes.{in_card}
use Rattle.model.proofs.Fair.{one, filings, Fair, card_count, faults_total}
use Rattle.model.proofs.Rep.{Rep, directory_length, segments_length}
use Rattle.model.proofs.Decode.{cards_at_lem, head_cards}
use Rattle.model.proofs.Readings.{held_at_lem, maxp_at_lem, p_at_lem, bucket_at, serial_stands}
use Rattle.model.proofs.Whole.{Whole, rep_whole, each_apart, apart_less, whole_rep, front_write, card_chain, fronted, fronted_entry, Recorded, held_recorded, recorded_held, last_at}
use Rattle.model.proofs.Growth.{split_at, split_size, split_total, split_fair, split_room}
use Rattle.model.proofs.Segments.{entries_for, segment_kept, segment_opened, segment_word, segments_by_word}
use Rattle.model.proofs.Parting.{Parting, turned, cell_over, end_set}

-- the machine, step by step

pub part_none : (fuel : ℕ) (sh : Shape) (m p : ℕ) (w : List ℕ) (k g : ℕ) → part_words fuel sh m p w k g 0 ≡ set (set w (link_at sh p k) 0) (link_at sh (m + p) g) 0
unfolding part_words
part_none zero sh m p w k g = refl
part_none (suc fuel) sh m p w k g = refl

pub part_goes : (fuel : ℕ) (sh : Shape) (m p : ℕ) (w : List ℕ) (k g x : ℕ) → 1 ≤ x → moves_at sh w m p x ≡ true
    → part_words (suc fuel) sh m p w k g x ≡ part_words fuel sh m p (set w (link_at sh (m + p) g) x) k x (card_word sh w x to_next)
unfolding part_words
part_goes fuel sh m p w k g x h e = rw (ne_eqb x 0 (omega arith), e)

pub part_stays : (fuel : ℕ) (sh : Shape) (m p : ℕ) (w : List ℕ) (k g x : ℕ) → 1 ≤ x → moves_at sh w m p x ≡ false
    → part_words (suc fuel) sh m p w k g x ≡ part_words fuel sh m p (set w (link_at sh p k) x) x g (card_word sh w x to_next)
unfolding part_words
part_stays fuel sh m p w k g x h e = rw (ne_eqb x 0 (omega arith), e)

pub ats_cards : (l : List Card) → ats_of (map card_cell l) ≡ cells_of l
unfolding card_cell
ats_cards [] = refl
ats_cards (c ∷ cs) = ap (λ (l : List ℕ). c.at ∷ l) (ats_cards cs)

last_card : (l : List Card) (x : Card) → last (cells_of (l ++ (x ∷ []))) ≡ x.at
last_card l x = last_at (λ (c : Card). c.at) (l ++ (x ∷ [])) l x refl

module _ (w₀ : List ℕ) (s : Store) (r : Rep w₀ s) (more : size s < top_of s.shape) where
  abbrev p : ℕ
  p = s.p

  abbrev d : ℕ
  d = s.maxp + s.p

  -- the other chains
  others : List (List Cell)
  others = set (card_chains s) (suc s.p) []

  entered : length (directory s) ≡ entries s.shape
  entered = directory_length s

  abbrev Parted : (b e : ℕ) (w g : List ℕ) (K G X : List Cell) (t u : ℕ) → Type 0
  Parted b e w g K G X t u =
      Parting s.shape s.maxp s.p (held s) (faults_held s) (first s.free) (first s.free_faults) (directory s) entered others (fault_chains s) (segments s) b e w g K G X t u

  two : s.p ≡ d → ⊥
  two e = omega (arith, (state_of (top_of s.shape) s.maxp s.p r.fair.state).below)

  low : s.p < top_of s.shape
  low = omega arith

  -- the two strings turned round, and a cell that goes over
  turn : {b e : ℕ} {w g : List ℕ} {K G X : List Cell} {t u : ℕ} → Parted b e w g K G X t u → Parted e b w g G K X u t
  turn q = turned _ _ _ _ _ _ _ _ entered others (fault_chains s) (segments s) q

  gone_over : {b e : ℕ} {w g : List ℕ} {K G X : List Cell} {u : ℕ} (x : Cell) → Parted b e w g K G (x ∷ X) x.at u → Parted b e w g (K ++ (x ∷ [])) G X (head_or 0 X) u
  gone_over x q = cell_over _ _ _ _ _ _ _ _ entered others (fault_chains s) (segments s) x q

  -- the open end of the one set, and of the other
  end₁ : {w g : List ℕ} {K G X : List Cell} {t u : ℕ} (v : ℕ) → Parted p d w g K G X t u → (h : List ℕ) × Parted p d (set w (link_at s.shape p (last (ats_of K))) v) h K G X v u
  end₁ v q = end_set _ _ _ _ _ _ _ _ entered others (fault_chains s) (segments s) p d two low _ _ _ _ _ _ _ q v

  end₂ : {w g : List ℕ} {K G X : List Cell} {t u : ℕ} (v : ℕ) → Parted p d w g K G X t u → (h : List ℕ) × Parted p d (set w (link_at s.shape d (last (ats_of G))) v) h K G X t v
  end₂ v q =
      let e = end_set _ _ _ _ _ _ _ _ entered others (fault_chains s) (segments s) d p (λ z. two (sym z)) more _ _ _ _ _ _ _ (turn q) v in
      (e.0, turn e.1)

  -- one pass
  abbrev Done : List ℕ → List Card → List Card → Type 0
  Done w K G = (h : List ℕ) × Parted p d w h (map card_cell K) (map card_cell G) [] 0 0

  ended : {w g : List ℕ} {t u : ℕ} (K G : List Card) → Parted p d w g (map card_cell K) (map card_cell G) [] t u
      → Done (set (set w (link_at s.shape p (last (cells_of K))) 0) (link_at s.shape d (last (cells_of G))) 0) K G
  ended {w} K G q =
      let e = end₁ 0 q in
      let f = end₂ 0 e.1 in
      subst (λ (u : List ℕ). Done u K G) (λ i. set (set w (link_at s.shape p (last (ats_cards K i))) 0) (link_at s.shape d (last (ats_cards G i))) 0) (f.0, f.1)

  moves_read : {w g : List ℕ} {K G X : List Cell} {t u : ℕ} (x : Card) → serial_ok x.serial ≡ true → Parted p d w g K G (card_cell x ∷ X) t u
      → (1 ≤ x.at) × (moves_at s.shape w s.maxp s.p x.at ≡ moves s x) × (card_word s.shape w x.at to_next ≡ head_or 0 X)
  unfolding moves_at card_word card_cell
  moves_read {w} x v q = (
    (q.inside x.at (omega (arith, bit_same x.at x.at refl))).0,
    ap (λ (y : List ℕ). eqb (code_of y % (2 * s.maxp)) (s.maxp + s.p)) (serial_stands s.shape w _ x v q.cells_x.0),
    q.cells_x.0 to_next (in_card s.shape (lit< tt)),
  )

  parted : (fuel : ℕ) (X K G : List Card) (w g : List ℕ) (t u : ℕ) → length X ≤ fuel → Every (λ c. serial_ok c.serial ≡ true) X
      → Parted p d w g (map card_cell K) (map card_cell G) (map card_cell X) t u
      → Done (part_words fuel s.shape s.maxp s.p w (last (cells_of K)) (last (cells_of G)) (first (cells_of X))) (K ++ keep (λ c. not (moves s c)) X) (G ++ keep (moves s) X)
  unfolding card_cell
  parted fuel [] K G w g t u l v q =
      subst₃ Done (sym (part_none fuel s.shape s.maxp s.p w (last (cells_of K)) (last (cells_of G)))) (sym (append-nil K)) (sym (append-nil G)) (ended K G q)
  parted zero (x ∷ X) K G w g t u l v q = absurd (omega arith)
  parted (suc fuel) (x ∷ X) K G w g t u l v q =
      let (i, mv, nx) = moves_read x v.0 q in
      let next = nx ∙ sym (head_cards X) in
      by_cases (moves s x)
      (λ e. let z = end₂ x.at q in
      subst₃ Done
      (sym (part_goes fuel s.shape s.maxp s.p w (last (cells_of K)) (last (cells_of G)) x.at i (mv ∙ e)
      ∙ (λ o. part_words fuel s.shape s.maxp s.p (set w (link_at s.shape d (last (sym (ats_cards G) o))) x.at) (last (cells_of K)) (sym (last_card G x) o) (next o))))
      (ap (λ (t : Bool). K ++ cond (not t) (x ∷ keep (λ c. not (moves s c)) X) (keep (λ c. not (moves s c)) X)) (sym e))
      (append_snoc G x (keep (moves s) X) ∙ ap (λ (t : Bool). G ++ cond t (x ∷ keep (moves s) X) (keep (moves s) X)) (sym e))
      (parted fuel X K (G ++ (x ∷ [])) (set w (link_at s.shape d (last (ats_of (map card_cell G)))) x.at) z.0 t (head_or 0 (map card_cell X)) (omega arith) v.1
      (subst (λ (L : List Cell). Parted p d (set w (link_at s.shape d (last (ats_of (map card_cell G)))) x.at) z.0 (map card_cell K) L (map card_cell X) t (head_or 0 (map card_cell X)))
      (sym (map_append card_cell G (x ∷ []))) (turn (gone_over (card_cell x) (turn z.1))))))
      (λ e. let z = end₁ x.at q in
      subst₃ Done
      (sym (part_stays fuel s.shape s.maxp s.p w (last (cells_of K)) (last (cells_of G)) x.at i (mv ∙ e)
      ∙ (λ o. part_words fuel s.shape s.maxp s.p (set w (link_at s.shape p (last (sym (ats_cards K) o))) x.at) (sym (last_card K x) o) (last (cells_of G)) (next o))))
      (append_snoc K x (keep (λ c. not (moves s c)) X) ∙ ap (λ (t : Bool). K ++ cond (not t) (x ∷ keep (λ c. not (moves s c)) X) (keep (λ c. not (moves s c)) X)) (sym e))
      (ap (λ (t : Bool). G ++ cond t (x ∷ keep (moves s) X) (keep (moves s) X)) (sym e))
      (parted fuel X (K ++ (x ∷ [])) G (set w (link_at s.shape p (last (ats_of (map card_cell K)))) x.at) z.0 (head_or 0 (map card_cell X)) u (omega arith) v.1
      (subst (λ (L : List Cell). Parted p d (set w (link_at s.shape p (last (ats_of (map card_cell K)))) x.at) z.0 L (map card_cell G) (map card_cell X) (head_or 0 (map card_cell X)) u)
      (sym (map_append card_cell K (x ∷ []))) (gone_over (card_cell x) z.1))))

  -- from the words of the store

  below : suc s.p < length (card_chains s)
  below = omega (arith, r.fair.number, two, length-map s.buckets (map card_cell))

  chain_is : get_or (card_chains s) (suc s.p) [] ≡ map card_cell (bucket s s.p)
  chain_is = cards_at_lem w₀ s r s.p

  others_count : (x : ℕ) → many x (join others) + many x (map card_cell (bucket s s.p)) ≡ many x (join (card_chains s))
  unfolding others
  others_count x =
      let f : Cell → ℕ = λ c. bit (eqb x c.at) in
      omega (arith, total_set f (card_chains s) (suc s.p) [] below, ap (total f) chain_is)

  start : Parted p d w₀ (segments s) [] [] (map card_cell (bucket s s.p)) (get_or (segments s) s.p 0) (get_or (segments s) d 0)
  unfolding others front header
  start = record {
    whole = card_chain w₀ s.shape (front s) (card_chains s) (fault_chains s) (rep_whole r) (suc s.p) [] below (apart_less (λ i. omega (arith, others_count i)) (each_apart r.fair.cells)) tt;
    long = segments_length s r.fair;
    same = λ e x y. refl;
    head_k = refl;
    cells_k = tt;
    head_g = refl;
    cells_g = tt;
    cells_x = subst (λ (l : List Cell). Stand (cell_in w₀ (cards_at s.shape) (card_width s.shape)) (card_width s.shape) (chained 0 l)) chain_is (r.cards (suc s.p));
    once = λ x. omega (arith, others_count x, r.fair.cells.once x);
    inside = λ x h. r.fair.cells.inside x (omega (arith, others_count x));
  }

  serials : Every (λ c. serial_ok c.serial ≡ true) (bucket s s.p)
  unfolding good_card
  serials = go (bucket s s.p) (r.fair.addressed s.p)
    where
      go : (l : List Card) → all (good_card s.maxp s.p s.p) l ≡ true → Every (λ c. serial_ok c.serial ≡ true) l
      go [] e = tt
      go (c ∷ l) e =
          let h = both (good_card s.maxp s.p s.p c) (all (good_card s.maxp s.p s.p) l) e in
          ((both (serial_ok c.serial) _ h.0).0, go l h.1)

  within : length (bucket s s.p) ≤ s.shape.limit
  within =
      omega (
        arith,
        r.fair.cells.count,
        card_count s,
        length_total (bucket s s.p),
        length_total (cards s),
        total_one (λ (c : Card). 1) s.buckets s.p,
      )

  abbrev w₁ : List ℕ
  w₁ = part_words s.shape.limit s.shape s.maxp s.p w₀ 0 0 (first (cells_of (bucket s s.p)))

  done : Done w₁ (staying s) (moving s)
  unfolding last
  done = parted s.shape.limit (bucket s s.p) [] [] w₀ (segments s) _ _ within serials start

  -- the chains and the front

  fair : Fair (split s)
  fair = split_fair s r.fair more

  -- of each bucket after the split: the new one, bucket p, and the others
  each_bucket : (P : ℕ → List Card → Type 0) → P d (moving s) → P p (staying s) → ((b : ℕ) → (b ≡ p → ⊥) → (b ≡ d → ⊥) → P b (bucket s b)) → (b : ℕ) → P b (bucket (split s) b)
  each_bucket P x y z b =
      subst (P b) (sym (split_at s r.fair more b))
      (by_cases (eqb b d)
      (λ e. rw (e, eqb-true b d e) x)
      (λ e. rw e (by_cases (eqb b p) (λ f. rw (f, eqb-true b p f) y) (λ f. rw f (z b (eqb-false b p f) (eqb-false b d e))))))

  held_now : Held w₁ (cards_at s.shape) (card_width s.shape) (card_chains (split s))
  unfolding split others
  held_now zero = done.1.whole.cards 0
  held_now (suc b) =
      let S : List Cell → Type 0 = λ l. Stand (cell_in w₁ (cards_at s.shape) (card_width s.shape)) (card_width s.shape) (chained 0 l) in
      subst S (sym (get_or-map (map card_cell) (split s).buckets b []))
      (each_bucket (λ b l. S (map card_cell l)) done.1.cells_g done.1.cells_k
      (λ b x y. subst S (get_or-set_other (card_chains s) (suc s.p) (suc b) [] [] (λ e. x (omega arith)) ∙ cards_at_lem w₀ s r b) (done.1.whole.cards (suc b))) b)

  segments_now : done.0 ≡ segments (split s)
  unfolding split
  segments_now =
      segments_by_word (split s) fair done.0 done.1.long
      (each_bucket (λ b l. b < top_of s.shape → get_or done.0 b 0 ≡ first (cells_of l)) (λ t. done.1.head_g ∙ sym (head_cards (moving s))) (λ t. done.1.head_k ∙ sym (head_cards (staying s)))
      (λ b x y t. done.1.same b x y ∙ segment_word s r.fair b t))

  -- the directory and the state

  abbrev fronts : ℕ → ℕ → List ℕ → List ℕ
  fronts m q dir = fronted s.shape m q (held s) (faults_held s) (first s.free) (first s.free_faults) dir (segments (split s))

  parted_whole : Whole w₁ s.shape (fronts s.maxp s.p (directory s)) (card_chains (split s)) (fault_chains s)
  unfolding split
  parted_whole =
      let q = done.1.whole in
      record {
        long = q.long;
        front = q.front ∙ ap (fronted s.shape s.maxp s.p (held s) (faults_held s) (first s.free) (first s.free_faults) (directory s)) segments_now;
        cards_apart = each_apart fair.cells;
        cards = held_now;
        faults_apart = q.faults_apart;
        faults = q.faults;
      }

  directory_now : directory (split s) ≡ entries_for s.shape (d + 1)
  unfolding directory split
  directory_now = ap (entries_for s.shape) (split_size s r.fair more)

  entries_now : directory s ≡ entries_for s.shape d
  unfolding directory
  entries_now = refl

  opened : Whole (open_words s.shape w₁ d) s.shape (fronts s.maxp s.p (directory (split s))) (card_chains (split s)) (fault_chains s)
  unfolding open_words cards_at
  opened = go (eqb (d % segment_size) 0) refl
    where
      Now : List ℕ → List ℕ → Type 0
      Now u dir = Whole u s.shape (fronts s.maxp s.p dir) (card_chains (split s)) (fault_chains s)

      go : (t : Bool) → eqb (d % segment_size) 0 ≡ t → Now (cond t (set w₁ (directory_at + d / segment_size) (segments_at s.shape + d)) w₁) (directory (split s))
      go true e =
          let z = eqb-true (d % segment_size) 0 e in
          let b : d / segment_size < length (directory s) = omega (arith, entered) in
          subst (Now (set w₁ (directory_at + d / segment_size) (segments_at s.shape + d)))
          (ap (λ (l : List ℕ). set l (d / segment_size) (segments_at s.shape + d)) entries_now ∙ sym (directory_now ∙ segment_opened s.shape d more z))
          (subst (λ (fr : List ℕ). Whole (set w₁ (directory_at + d / segment_size) (segments_at s.shape + d)) s.shape fr (card_chains (split s)) (fault_chains s))
          (fronted_entry _ _ _ _ _ _ _ (directory s) (segments (split s)) (d / segment_size) (segments_at s.shape + d) b)
          (front_write w₁ s.shape _ _ _ parted_whole (directory_at + d / segment_size) (segments_at s.shape + d) (omega arith)))
      go false e = subst (Now w₁) (entries_now ∙ sym (directory_now ∙ segment_kept s.shape d (eqb-false (d % segment_size) 0 e))) parted_whole

  -- the counts stay, and the histories are the same ones

  held_split : held s ≡ held (split s)
  held_split = omega (arith, length_total (cards (split s)), length_total (cards s), split_total s r.fair more one)

  faults_split : faults_held s ≡ faults_held (split s)
  faults_split = omega (arith, faults_total (cards (split s)), faults_total (cards s), split_total s r.fair more filings)

  recorded_split : (u : List ℕ) → Held u (faults_at s.shape) fault_width (fault_chains s) → Held u (faults_at s.shape) fault_width (fault_chains (split s))
  unfolding split
  recorded_split u h =
      let P = Recorded u s.shape in
      let old = held_recorded u s.shape (map (free_cell fault_width) s.free_faults) (cards s) h in
      let chain = every_join P s.buckets old s.p in
      recorded_held u s.shape (map (free_cell fault_width) s.free_faults) (cards (split s)) (h 0)
      (subst (Every P) (sym (join_append (set s.buckets s.p (staying s)) (moving s ∷ [])))
      (every_append P (join (set s.buckets s.p (staying s))) (moving s ++ [])
      (every_set P s.buckets s.p (staying s) old (every_keep P (λ c. not (moves s c)) (bucket s s.p) chain))
      (every_append P (moving s) [] (every_keep P (moves s) (bucket s s.p) chain) tt)))

  written : split_words s.shape w₀ ≡ set (set (open_words s.shape w₁ d) maxp_at (high_maxp s.maxp s.p)) p_at (high_p s.maxp s.p)
  unfolding split_words
  written =
      let m = maxp_at_lem w₀ s r in
      let q = p_at_lem w₀ s r in
      let b = ap (bucket_word s.shape w₀) q ∙ bucket_at w₀ s r s.p (omega (arith, below, length-map s.buckets (map card_cell))) in
      λ t. set (set (open_words s.shape (part_words s.shape.limit s.shape (m t) (q t) w₀ 0 0 (b t)) (m t + q t)) maxp_at (high_maxp (m t) (q t))) p_at (high_p (m t) (q t))

  pub rep_split : Rep (split_words s.shape w₀) (split s)
  unfolding split front header cards_at
  rep_split =
      let u = open_words s.shape w₁ d in
      let v = set u maxp_at (high_maxp s.maxp s.p) in
      subst (λ (u : List ℕ). Rep u (split s)) (sym written)
      (whole_rep fair
      (λ t. fronted s.shape (high_maxp s.maxp s.p) (high_p s.maxp s.p) (held_split t) (faults_split t) (first s.free) (first s.free_faults) (directory (split s)) (segments (split s)))
      refl (recorded_split (set v p_at (high_p s.maxp s.p)))
      (front_write v s.shape _ _ _ (front_write u s.shape _ _ _ opened maxp_at (high_maxp s.maxp s.p) (omega arith)) p_at (high_p s.maxp s.p) (omega arith)))

-- and if the load asks for it
pub rep_grown : (w : List ℕ) (s : Store) → Rep w s → Rep (grow_words s.shape w) (grown s)
unfolding grow_words grown
rep_grown w s r =
    let n : splits (top_of s.shape) s.shape.upper (get_or w held_at 0) (buckets_in w) ≡ over s = λ t. splits (top_of s.shape) s.shape.upper (held_at_lem w s r t) (maxp_at_lem w s r t + p_at_lem w s r t) in
    by_cases (over s) (λ e. rw (n, e) (rep_split w s r (split_room s r.fair e))) (λ e. rw (n, e) r)
