-- A bucket split and two buckets joined, and when the load rules do so. A split parts bucket p in two by the rule that the new state
-- addresses by, each part in the order that it had (`split_keeps_order`), and a contraction joins the last bucket behind the one it was
-- split from; every other bucket stays. So nothing that is held changes: not the sums over the cards (`X-total`), not the card of any
-- serial (`X-look`), and each card stands at its new address (`X-fair`). `grown` and `shrunk` do that or nothing, and bring the load back
-- within its bounds (`grown_good`, `shrunk_good`).
use Prim.Native.Nat.{ℕ, ◌+◌, ◌-◌, ◌*◌, ◌%◌, ◌≤◌, ◌<◌}
use mathlib.Core.Path.{◌≡◌, refl, sym, ◌∙◌}
use mathlib.Core.Logic.{◌⊎◌, inl, inr, ⊎_elim}
use mathlib.Core.List.{List, [], ◌∷◌, ◌++◌, append-nil, Sublistᴰ}
use mathlib.Core.Bool.{true, not, cond}
use native.Mathlib.Nat.{mul-le-mul_left}
use native.Mathlib.Omega.{arith}
use lib.Dec.{eqb, ltb}
use lib.ListN.{length, take, set, length-append, length-set}
use lib.Seq.{get_or-take, length-take-le}
use borrow.Author.Tests.{eq-eqb, ne_eqb, eqb-true, eqb-false, not-true, ltb-true, lt-ltb}
use Rattle.rules.specs.Code.{code_of}
use Rattle.rules.specs.Table.{least, top, low_maxp, low_p}
use Rattle.rules.proofs.Tests.{by_cases, eq?}
use Rattle.rules.proofs.States.{state_of}
use Rattle.rules.proofs.Addresses.{grow_count, grow_ok, grow_moves, grow_two, grow_stays, shrink_ok, shrink_count, shrink_joins, shrink_stays}
use Rattle.rules.proofs.Loads.{splits_true, splits_false, contracts_true, contracts_false}
use Rattle.model.specs.Lists.{all, keep, join, total}
use Rattle.model.specs.Shape.{top_of}
use Rattle.model.specs.Model.{Card, Store, cards, held, size, over, under, bucket, address_in, is, moves, moving, staying, split, grown, contract, shrunk}
use Rattle.model.specs.Layout.{good_card}
use Rattle.model.proofs.Lists.{same_eq, keep_append, keep_order, keep_keep, all_append, all_imp, all_kept, join_append, get_d_set, get_d_snoc, get_d_front}
use Rattle.model.proofs.Sums.{total_append, total_set, total_last, total_keep, length_total}
use Rattle.model.proofs.Shapes.{top_most, BoundsMean, shaped}
use Rattle.model.proofs.Fair.{one, named, Fair, Good, host_state, fault_weight, cells_moved, fault_cells_moved, size_least}
use Rattle.model.proofs.Look.{look, card_address, card_moved, address_in_lem, elsewhere}

-- growth by one bucket

module _ (s : Store) (r : Fair s) (more : size s < top_of s.shape) where
  -- there is room for one bucket more by the address rule too
  room : size s < top
  room = omega (arith, top_most s.shape)

  -- the buckets after the split
  pub split_at : (b : ℕ) → bucket (split s) b ≡ cond (eqb b (size s)) (moving s) (cond (eqb b s.p) (staying s) (bucket s b))
  unfolding split
  split_at b =
      rw (
        get_d_snoc (set s.buckets s.p (staying s)) (moving s) [] b,
        length-set s.buckets s.p (staying s),
        r.number,
        get_d_set s.buckets s.p b (staying s) [] (omega (arith, r.number, (state_of (top_of s.shape) s.maxp s.p r.state).below)),
      )

  -- both chains that a bucket is parted in keep the relative order of its cards
  pub split_keeps_order : Sublistᴰ (bucket (split s) s.p) (bucket s s.p) × Sublistᴰ (bucket (split s) (size s)) (bucket s s.p)
  split_keeps_order =
      let l = bucket s s.p in (
        rw (split_at s.p, ne_eqb s.p (size s) (omega (arith, (state_of (top_of s.shape) s.maxp s.p r.state).below)), eq-eqb s.p s.p refl)
            (keep_order (λ c. not (moves s c)) l),
        rw (split_at (size s), eq-eqb (size s) (size s) refl) (keep_order (moves s) l),
      )

  pub split_total : (w : Card → ℕ) → total w (cards (split s)) ≡ total w (cards s)
  unfolding split
  split_total w =
      rw (join_append (set s.buckets s.p (staying s)) (moving s ∷ []), append-nil (moving s))
      (omega (
        arith,
        total_append w (join (set s.buckets s.p (staying s))) (moving s),
        total_set w s.buckets s.p (staying s) (omega (arith, r.number, (state_of (top_of s.shape) s.maxp s.p r.state).below)),
        total_keep w (moves s) (bucket s s.p),
      ))

  -- the address of a serial after the split
  moved : (x : List ℕ) → address_in s x ≡ s.p → address_in (split s) x ≡ code_of x % (2 * s.maxp)
  unfolding split
  moved x e = grow_moves (code_of x) s.maxp s.p (host_state s r) room e

  halved : (x : List ℕ) → address_in s x ≡ s.p → (code_of x % (2 * s.maxp) ≡ s.p) ⊎ (code_of x % (2 * s.maxp) ≡ size s)
  halved x e = grow_two (code_of x) s.maxp s.p (host_state s r) room e

  kept : (x : List ℕ) → (address_in s x ≡ s.p → ⊥) → address_in (split s) x ≡ address_in s x
  unfolding split
  kept x n = grow_stays (code_of x) s.maxp s.p (host_state s r) room n

  pub split_look : (x : List ℕ) → look (split s) x ≡ look s x
  split_look x = go (eq? (address_in s x) s.p)
    where
      half : address_in s x ≡ s.p → (code_of x % (2 * s.maxp) ≡ s.p) ⊎ (code_of x % (2 * s.maxp) ≡ size s) → look (split s) x ≡ look s x
      half e (inl d) =
          rw (moved x e, d, split_at s.p, ne_eqb s.p (size s) (omega (arith, (state_of (top_of s.shape) s.maxp s.p r.state).below)), eq-eqb s.p s.p refl, e)
          (keep_keep (is x) (λ c. not (moves s c)) (bucket s s.p)
          (λ c t. rw (← (same_eq x c.serial t), ne_eqb (code_of x % (2 * s.maxp)) (size s) (omega (arith, (state_of (top_of s.shape) s.maxp s.p r.state).below)))))
      half e (inr d) =
          rw (moved x e, d, split_at (size s), eq-eqb (size s) (size s) refl, e)
          (keep_keep (is x) (moves s) (bucket s s.p) (λ c t. rw (← (same_eq x c.serial t)) (eq-eqb (code_of x % (2 * s.maxp)) (size s) d)))

      go : (address_in s x ≡ s.p) ⊎ (address_in s x ≡ s.p → ⊥) → look (split s) x ≡ look s x
      go (inl e) = half e (halved x e)
      go (inr n) =
          rw (kept x n, split_at (address_in s x), ne_eqb (address_in s x) (size s) (omega (arith, address_in_lem s r x, r.number)), ne_eqb (address_in s x) s.p n)

  split_home : (b : ℕ) → all (good_card (split s).maxp (split s).p b) (bucket (split s) b) ≡ true
  split_home b =
      rw (split_at b)
      (by_cases (eqb b (size s))
      (λ e. rw (e, eqb-true b (size s) e)
      (all_kept (good_card s.maxp s.p s.p) (moves s) _ (bucket s s.p)
      (λ c t g. card_moved _ _ s.p _ _ _ c (moved c.serial (card_address _ _ s.p c g) ∙ eqb-true _ _ t) g)
      (r.addressed s.p)))
      (λ e. rw e (by_cases (eqb b s.p)
      (λ f. rw (f, eqb-true b s.p f)
      (all_kept (good_card s.maxp s.p s.p) (λ c. not (moves s c)) _ (bucket s s.p)
      (λ c t g. let a = card_address _ _ s.p c g in
      card_moved _ _ s.p _ _ _ c
      (moved c.serial a ∙ ⊎_elim (λ d. d) (λ d. absurd (eqb-false _ _ (not-true (moves s c) t) d)) (halved c.serial a)) g)
      (r.addressed s.p)))
      (λ f. rw f
      (all_imp (good_card s.maxp s.p b) _ (bucket s b)
      (λ c g. let a = card_address _ _ b c g in
      card_moved _ _ b _ _ _ c (kept c.serial (λ d. eqb-false b s.p f (sym a ∙ d)) ∙ a) g)
      (r.addressed b))))))

  pub split_size : size (split s) ≡ size s + 1
  unfolding split
  split_size = grow_count s.maxp s.p

  pub split_fair : Fair (split s)
  unfolding split
  split_fair =
      record {
        shape = r.shape;
        state = grow_ok (top_of s.shape) s.maxp s.p (top_most s.shape) r.state more;
        number = omega (arith, r.number, split_size, length-append (set s.buckets s.p (staying s)) (moving s ∷ []), length-set s.buckets s.p (staying s));
        cells = cells_moved s (split s) (λ w. omega (arith, split_total (λ c. w c.at))) r.cells;
        fault_cells = fault_cells_moved s (split s) (λ w. omega (arith, split_total (fault_weight w))) r.fault_cells;
        addressed = split_home;
        different = λ x. omega (arith, split_total (named x), r.different x);
      }

-- contraction by one bucket

-- the bucket that goes, and the one that it is joined behind
abbrev pub going : Store → ℕ
going s = size s - 1

abbrev pub joined : Store → ℕ
joined s = low_p s.maxp s.p

module _ (s : Store) (r : Fair s) (more : least < size s) where
  last : low_maxp s.maxp s.p + joined s ≡ going s
  last = omega (arith, shrink_count s.maxp s.p (host_state s r) more)

  inside : joined s < going s
  inside = omega (arith, last, (state_of (top_of s.shape) (low_maxp s.maxp s.p) (joined s) (shrink_ok (top_of s.shape) s.maxp s.p r.state more)).below)

  front : length (take (going s) s.buckets) ≡ going s
  front = length-take-le (going s) s.buckets (omega (arith, r.number))

  pub contract_total : (w : Card → ℕ) → total w (cards (contract s)) ≡ total w (cards s)
  unfolding contract
  contract_total w =
      omega (
        arith,
        rw (get_or-take (going s) s.buckets (joined s) [] inside) at
            (total_set w (take (going s) s.buckets) (joined s) (bucket s (joined s) ++ bucket s (going s)) (omega (arith, front, inside))),
        total_append w (bucket s (joined s)) (bucket s (going s)),
        total_last w s.buckets (going s) (omega (arith, r.number)),
      )

  -- the buckets after the contraction
  pub contract_at : (b : ℕ) → bucket (contract s) b ≡ cond (eqb b (joined s)) (bucket s (joined s) ++ bucket s (going s)) (cond (ltb b (going s)) (bucket s b) [])
  unfolding contract
  contract_at b =
      rw (get_d_set (take (going s) s.buckets) (joined s) b (bucket s (joined s) ++ bucket s (going s)) [] (omega (arith, front, inside)), get_d_front s.buckets (going s) b [])

  -- the address of a serial after the contraction
  joins : (x : List ℕ) → address_in s x ≡ going s → address_in (contract s) x ≡ joined s
  unfolding contract
  joins x e = shrink_joins s.maxp s.p (host_state s r) more (code_of x) (e ∙ sym last)

  remains : (x : List ℕ) → (address_in s x ≡ going s → ⊥) → address_in (contract s) x ≡ address_in s x
  unfolding contract
  remains x n = shrink_stays s.maxp s.p (host_state s r) more (code_of x) (λ e. n (e ∙ last))

  pub contract_look : (x : List ℕ) → look (contract s) x ≡ look s x
  contract_look x = go (eq? (address_in s x) (going s)) (eq? (address_in s x) (joined s))
    where
      go : (address_in s x ≡ going s) ⊎ (address_in s x ≡ going s → ⊥) → (address_in s x ≡ joined s) ⊎ (address_in s x ≡ joined s → ⊥) → look (contract s) x ≡ look s x
      go (inl e) d =
          rw (
            joins x e,
            contract_at (joined s),
            eq-eqb (joined s) (joined s) refl,
            keep_append (is x) (bucket s (joined s)) (bucket s (going s)),
            elsewhere s r x (joined s) (omega (arith, inside)),
            e,
          )
      go (inr n) (inl e) =
          rw (
            remains x n,
            e,
            contract_at (joined s),
            eq-eqb (joined s) (joined s) refl,
            keep_append (is x) (bucket s (joined s)) (bucket s (going s)),
            elsewhere s r x (going s) n,
            append-nil (keep (is x) (bucket s (joined s))),
          )
      go (inr n) (inr d) =
          rw (remains x n, contract_at (address_in s x), ne_eqb (address_in s x) (joined s) d, lt-ltb (address_in s x) (going s) (omega (arith, address_in_lem s r x, r.number)))

  contract_home : (b : ℕ) → all (good_card (contract s).maxp (contract s).p b) (bucket (contract s) b) ≡ true
  contract_home b =
      rw (contract_at b)
      (by_cases (eqb b (joined s))
      (λ e. rw (e, eqb-true b (joined s) e)
      (all_append _ (bucket s (joined s)) (bucket s (going s))
      (stays (joined s) inside)
      (all_imp (good_card s.maxp s.p (going s)) _ (bucket s (going s))
      (λ c g. card_moved _ _ (going s) _ _ _ c (joins c.serial (card_address _ _ (going s) c g)) g) (r.addressed (going s)))))
      (λ e. rw e (by_cases (ltb b (going s)) (λ f. rw f (stays b (ltb-true b (going s) f))) (λ f. rw f))))
    where
      stays : (b : ℕ) → b < going s → all (good_card (contract s).maxp (contract s).p b) (bucket s b) ≡ true
      stays b h =
          all_imp (good_card s.maxp s.p b) _ (bucket s b)
          (λ c g. let a = card_address _ _ b c g in
          card_moved _ _ b _ _ _ c (remains c.serial (omega arith) ∙ a) g) (r.addressed b)

  pub contract_size : size (contract s) + 1 ≡ size s
  unfolding contract
  contract_size = shrink_count s.maxp s.p (host_state s r) more

  pub contract_fair : Fair (contract s)
  unfolding contract
  contract_fair =
      record {
        shape = r.shape;
        state = shrink_ok (top_of s.shape) s.maxp s.p r.state more;
        number = length-set (take (going s) s.buckets) (joined s) _ ∙ front ∙ sym last;
        cells = cells_moved s (contract s) (λ w. omega (arith, contract_total (λ c. w c.at))) r.cells;
        fault_cells = fault_cells_moved s (contract s) (λ w. omega (arith, contract_total (fault_weight w))) r.fault_cells;
        addressed = contract_home;
        different = λ x. omega (arith, contract_total (named x), r.different x);
      }

-- the shape stays

split_shape : (s : Store) → (split s).shape ≡ s.shape
unfolding split
split_shape s = refl

contract_shape : (s : Store) → (contract s).shape ≡ s.shape
unfolding contract
contract_shape s = refl

-- the load rules

module _ (s : Store) (r : Fair s) where
  -- where it must split, there is a bucket to be had
  pub split_room : over s ≡ true → size s < top_of s.shape
  split_room e = (splits_true (top_of s.shape) s.shape.upper _ (size s) e).1

  pub grown_total : (w : Card → ℕ) → total w (cards (grown s)) ≡ total w (cards s)
  unfolding grown
  grown_total w = by_cases (over s) (λ e. rw e (split_total s r (split_room e) w)) (λ e. rw e)

  pub grown_look : (x : List ℕ) → look (grown s) x ≡ look s x
  unfolding grown
  grown_look x = by_cases (over s) (λ e. rw e (split_look s r (split_room e) x)) (λ e. rw e)

  pub grown_fair : Fair (grown s)
  unfolding grown
  grown_fair = by_cases (over s) (λ e. rw e (split_fair s r (split_room e))) (λ e. rw e r)

  pub shrunk_total : (w : Card → ℕ) → total w (cards (shrunk s)) ≡ total w (cards s)
  unfolding shrunk
  shrunk_total w = by_cases (under s) (λ e. rw e (contract_total s r (contracts_true s.shape.lower (held s) (size s) e).1 w)) (λ e. rw e)

  pub shrunk_look : (x : List ℕ) → look (shrunk s) x ≡ look s x
  unfolding shrunk
  shrunk_look x = by_cases (under s) (λ e. rw e (contract_look s r (contracts_true s.shape.lower (held s) (size s) e).1 x)) (λ e. rw e)

  pub shrunk_fair : Fair (shrunk s)
  unfolding shrunk
  shrunk_fair = by_cases (under s) (λ e. rw e (contract_fair s r (contracts_true s.shape.lower (held s) (size s) e).1)) (λ e. rw e r)

  -- U and L over the buckets: a bucket counts for L at least, and twice L is at most U
  bounds : BoundsMean s.shape.upper s.shape.lower
  bounds = (shaped s.shape r.shape).bounds

  halved_load : 2 * (s.shape.lower * size s) ≤ s.shape.upper * size s
  halved_load = let h : size s * (2 * s.shape.lower) ≤ size s * s.shape.upper = mul-le-mul_left (size s) bounds.half in omega arith

  some_load : least * s.shape.lower ≤ s.shape.lower * size s
  some_load = let h : s.shape.lower * least ≤ s.shape.lower * size s = mul-le-mul_left s.shape.lower (size_least s r) in omega arith

  -- one card too many is mended by one bucket more, one card too few by one bucket less
  pub grown_good : (size s < top_of s.shape → held s ≤ s.shape.upper * size s + 1) → (least < size s → s.shape.lower * size s ≤ held s) → Good (grown s)
  unfolding grown
  grown_good hi lo =
      by_cases (over s)
      (λ e. let m = split_room e in
      let n : held (split s) ≡ held s = length_total (cards (split s)) ∙ split_total s r m one ∙ sym (length_total (cards s)) in
      let z = split_size s r m in
      let f = (splits_true (top_of s.shape) s.shape.upper (held s) (size s) e).0 in
      let u : (split s).shape.upper * size (split s) ≡ s.shape.upper * size s + s.shape.upper = (λ i. (split_shape s i).upper * z i) ∙ omega arith in
      let l : (split s).shape.lower * size (split s) ≡ s.shape.lower * size s + s.shape.lower = (λ i. (split_shape s i).lower * z i) ∙ omega arith in
      rw e (record { fair = split_fair s r m; high = λ k. omega (arith, hi m, bounds.two); low = λ k. omega (arith, halved_load, some_load, bounds.one) }))
      (λ e. rw e (record { fair = r; high = λ m. ⊎_elim (λ l. l) (λ l. absurd (omega arith)) (splits_false (top_of s.shape) s.shape.upper (held s) (size s) e); low = lo }))

  pub shrunk_good : (size s < top_of s.shape → held s ≤ s.shape.upper * size s) → (least < size s → s.shape.lower * size s ≤ held s + 1) → Good (shrunk s)
  unfolding shrunk
  shrunk_good hi lo =
      by_cases (under s)
      (λ e. let f = contracts_true s.shape.lower (held s) (size s) e in
      let n : held (contract s) ≡ held s = length_total (cards (contract s)) ∙ contract_total s r f.1 one ∙ sym (length_total (cards s)) in
      let z = contract_size s r f.1 in
      let l = lo f.1 in
      let c : s.shape.upper * size s ≡ (contract s).shape.upper * size (contract s) + (contract s).shape.upper = (λ i. (sym (contract_shape s) i).upper * sym z i) ∙ omega arith in
      let d : s.shape.lower * size s ≡ (contract s).shape.lower * size (contract s) + (contract s).shape.lower = (λ i. (sym (contract_shape s) i).lower * sym z i) ∙ omega arith in
      let u : s.shape.upper * least ≤ s.shape.upper * size s = mul-le-mul_left s.shape.upper (size_least s r) in
      let v : (contract s).shape.upper ≡ s.shape.upper = (λ i. (contract_shape s i).upper) in
      let v' : (contract s).shape.lower ≡ s.shape.lower = (λ i. (contract_shape s i).lower) in
      rw e (record { fair = contract_fair s r f.1; high = λ k. omega (arith, f.0, halved_load); low = λ h. omega (arith, bounds.one) }))
      (λ e. rw e (record { fair = r; high = hi; low = λ h. ⊎_elim (λ l. l) (λ l. absurd (omega arith)) (contracts_false s.shape.lower (held s) (size s) e) }))
