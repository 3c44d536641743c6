-- Laws of the lists that the definitions use: equality of serials, keep, all, map, join, a table read by its index, and a fact of
-- each element. None of them knows of cards.
use Prim.Native.Nat.{ℕ, zero, suc, ◌+◌, ◌≤◌, ◌<◌}
use mathlib.Core.Path.{◌≡◌, refl, ap, ◌∙◌}
use mathlib.Core.Logic.{◌≢◌, ◌↔◌}
use mathlib.Core.List.{List, [], ◌∷◌, ◌++◌, map, append-nil, append_assoc, Sublistᴰ}
use mathlib.Core.Bool.{Bool, true, false, not, cond, false≢true}
use native.Mathlib.Nat.{zero-add, suc-add}
use native.Mathlib.Numerals.{add-one}
use native.Mathlib.Omega.{arith}
use lib.Dec.{ltb, leb, eqb, eqb-suc-suc}
use lib.ListN.{length, take, drop, get_or, set, length-take, drop_of_length-le, get_or-eq_default}
use lib.Seq.{drop-cons, take-suc, set_at, length-take-le, get_or-take, get_or-set_same, get_or-set_other}
use borrow.Author.Tests.{eq-eqb, ne_eqb, eqb-true, eqb-false, ltb-true, ltb-false, leb-true, le-leb}
use Rattle.rules.proofs.Tests.{by_cases, not_both, both, all_of}
use Rattle.model.specs.Lists.{between, all, same, keep, join, from}

pub between_is : (lo hi x : ℕ) → (between lo hi x ≡ true) ↔ ((lo ≤ x) × (x ≤ hi))
unfolding between
between_is lo hi x =
    (λ e. let h = both (leb lo x) (leb x hi) e in (leb-true lo x h.0, leb-true x hi h.1), λ h. all_of (le-leb lo x h.0) (le-leb x hi h.1))

-- equality of lists of numbers

pub same_refl : (x : List ℕ) → same x x ≡ true
same_refl [] = refl
same_refl (x ∷ xs) = rw (eq-eqb x x refl) (same_refl xs)

pub same_eq : (x y : List ℕ) → same x y ≡ true → x ≡ y
same_eq [] [] t = refl
same_eq [] (y ∷ ys) t = absurd (false≢true t)
same_eq (x ∷ xs) [] t = absurd (false≢true t)
same_eq (x ∷ xs) (y ∷ ys) t =
    let h = both (eqb x y) (same xs ys) t in
    let e = eqb-true x y h.0 in
    let f = same_eq xs ys h.1 in
    cc

pub same_is : (x y : List ℕ) → (same x y ≡ true) ↔ (x ≡ y)
same_is x y = (same_eq x y, λ e. rw e (same_refl y))

pub same_meet : (x y z : List ℕ) → same x z ≡ true → same y z ≡ true → same x y ≡ true
same_meet x y z e f = rw (same_eq x z e, same_eq y z f) (same_refl z)

pub same_sym : (x y : List ℕ) → same x y ≡ same y x
same_sym x y =
    by_cases (same x y)
    (λ e. rw (same_eq x y e))
    (λ e. by_cases (same y x) (λ f. not_both (rw (same_eq y x f) (same_refl x)) e) (λ f. rw (e, f)))

-- keep, all, join
module _ {A : Type 0} where
  pub keep_append : (f : A → Bool) (a b : List A) → keep f (a ++ b) ≡ keep f a ++ keep f b
  keep_append f [] b = refl
  keep_append f (x ∷ a) b = by_cases (f x) (λ e. rw (e, keep_append f a b)) (λ e. rw (e, keep_append f a b))

  -- what is kept stands in the order that it had
  pub keep_order : (f : A → Bool) (l : List A) → Sublistᴰ (keep f l) l
  keep_order f [] = Sublistᴰ.slnil
  keep_order f (x ∷ l) = by_cases (f x) (λ e. rw e (Sublistᴰ.cons-cons refl (keep_order f l))) (λ e. rw e (Sublistᴰ.cons (keep_order f l)))

  -- nothing is kept where f fails; where f goes with g, keeping g first changes nothing, and where against g, leaves nothing
  pub keep_none : (f g : A → Bool) (l : List A) → ((x : A) → g x ≡ true → f x ≡ false) → all g l ≡ true → keep f l ≡ []
  keep_none f g [] h t = refl
  keep_none f g (x ∷ l) h t = let b = both (g x) (all g l) t in rw (h x b.0, keep_none f g l h b.1)

  pub keep_keep : (f g : A → Bool) (l : List A) → ((x : A) → f x ≡ true → g x ≡ true) → keep f (keep g l) ≡ keep f l
  keep_keep f g [] h = refl
  keep_keep f g (x ∷ l) h =
      by_cases (g x)
      (λ e. rw e (by_cases (f x) (λ k. rw (k, keep_keep f g l h)) (λ k. rw (k, keep_keep f g l h))))
      (λ e. rw e (by_cases (f x) (λ k. not_both (h x k) e) (λ k. rw (k, keep_keep f g l h))))

  pub keep_drop : (f g : A → Bool) (l : List A) → ((x : A) → f x ≡ true → g x ≡ false) → keep f (keep g l) ≡ []
  keep_drop f g [] h = refl
  keep_drop f g (x ∷ l) h =
      by_cases (g x)
      (λ e. rw e (by_cases (f x) (λ k. not_both e (h x k)) (λ k. rw (k, keep_drop f g l h))))
      (λ e. rw (e, keep_drop f g l h))

  pub all_append : (f : A → Bool) (a b : List A) → all f a ≡ true → all f b ≡ true → all f (a ++ b) ≡ true
  all_append f [] b s t = t
  all_append f (x ∷ a) b s t = let h = both (f x) (all f a) s in all_of h.0 (all_append f a b h.1 t)

  pub all_parts : (f : A → Bool) (a b : List A) → all f (a ++ b) ≡ true → (all f a ≡ true) × (all f b ≡ true)
  all_parts f [] b t = (refl, t)
  all_parts f (x ∷ a) b t =
      let h = both (f x) (all f (a ++ b)) t in
      let r = all_parts f a b h.1 in
      (all_of h.0 r.0, r.1)

  pub all_keep : (f g : A → Bool) (l : List A) → all f l ≡ true → all f (keep g l) ≡ true
  all_keep f g [] t = refl
  all_keep f g (x ∷ l) t =
      let h = both (f x) (all f l) t in
      by_cases (g x) (λ e. rw e (all_of h.0 (all_keep f g l h.1))) (λ e. rw e (all_keep f g l h.1))

  -- from one test to another on each element, with what keep tells
  pub all_imp : (f g : A → Bool) (l : List A) → ((x : A) → f x ≡ true → g x ≡ true) → all f l ≡ true → all g l ≡ true
  all_imp f g [] h t = refl
  all_imp f g (x ∷ l) h t = let k = both (f x) (all f l) t in all_of (h x k.0) (all_imp f g l h k.1)

  pub all_kept : (f g h : A → Bool) (l : List A) → ((x : A) → g x ≡ true → f x ≡ true → h x ≡ true) → all f l ≡ true → all h (keep g l) ≡ true
  all_kept f g h [] k t = refl
  all_kept f g h (x ∷ l) k t =
      let b = both (f x) (all f l) t in
      by_cases (g x) (λ e. rw e (all_of (k x e b.0) (all_kept f g h l k b.1))) (λ e. rw e (all_kept f g h l k b.1))

  pub length_none : (l : List A) → length l ≡ 0 → l ≡ []
  length_none [] e = refl
  length_none (x ∷ l) e = absurd (omega arith)

  pub join_append : (a b : List (List A)) → join (a ++ b) ≡ join a ++ join b
  join_append [] b = refl
  join_append (x ∷ a) b = rw (join_append a b, append_assoc)

  -- one list of many, replaced
  pub join_set : (bs : List (List A)) (a : ℕ) (c : List A) → a < length bs → join (set bs a c) ≡ join (take a bs) ++ (c ++ join (drop (suc a) bs))
  join_set [] a c h = absurd (omega arith)
  join_set (b ∷ bs) zero c h = refl
  join_set (b ∷ bs) (suc a) c h = rw (join_set bs a c (omega arith), append_assoc)

  -- where all lists but one keep nothing, the join keeps what that one keeps
  pub keep_join_none : (f : A → Bool) (bs : List (List A)) → ((b : ℕ) → keep f (get_or bs b []) ≡ []) → keep f (join bs) ≡ []
  keep_join_none f [] h = refl
  keep_join_none f (x ∷ bs) h = rw (keep_append f x (join bs), h 0, keep_join_none f bs (λ b. h (suc b)))

  pub keep_join : (f : A → Bool) (bs : List (List A)) (a : ℕ) → ((b : ℕ) → b ≢ a → keep f (get_or bs b []) ≡ []) → keep f (join bs) ≡ keep f (get_or bs a [])
  keep_join f [] a h = refl
  keep_join f (x ∷ bs) zero h = rw (keep_append f x (join bs), keep_join_none f bs (λ b. h (suc b) (omega arith)), append-nil (keep f x))
  keep_join f (x ∷ bs) (suc a) h = rw (keep_append f x (join bs), h 0 (omega arith)) (keep_join f bs a (λ b n. h (suc b) (omega arith)))

  -- a list read at any index: with one element replaced, one behind it, its front
  pub get_d_set : (l : List A) (a i : ℕ) (x d : A) → a < length l → get_or (set l a x) i d ≡ cond (eqb i a) x (get_or l i d)
  get_d_set l a i x d h =
      by_cases (eqb i a)
      (λ e. rw (e, eqb-true i a e, get_or-set_same l a x d h))
      (λ e. rw (e, get_or-set_other l a i x d (eqb-false i a e)))

  pub get_d_snoc : (l : List A) (x d : A) (b : ℕ) → get_or (l ++ (x ∷ [])) b d ≡ cond (eqb b (length l)) x (get_or l b d)
  get_d_snoc [] x d zero = refl
  get_d_snoc [] x d (suc b) = rw (ne_eqb (suc b) 0 (omega arith))
  get_d_snoc (y ∷ l) x d zero = rw (ne_eqb 0 (suc (length l)) (omega arith))
  get_d_snoc (y ∷ l) x d (suc b) = rw (eqb-suc-suc b (length l)) (get_d_snoc l x d b)

  pub get_d_front : (l : List A) (n b : ℕ) (d : A) → get_or (take n l) b d ≡ cond (ltb b n) (get_or l b d) d
  get_d_front l n b d =
      by_cases (ltb b n)
      (λ e. rw e (get_or-take n l b d (ltb-true b n e)))
      (λ e. let h = ltb-false b n e in
      let t = length-take n l in
      rw e (get_or-eq_default (take n l) d {n = b} (omega arith)))

  pub set_append_add : (xs ys : List A) (i : ℕ) (v : A) → set (xs ++ ys) (length xs + i) v ≡ xs ++ set ys i v
  set_append_add [] ys i v = ap (λ (m : ℕ). set ys m v) (zero-add i)
  set_append_add (x ∷ xs) ys i v =
      ap (λ (m : ℕ). set (x ∷ (xs ++ ys)) m v) (suc-add (length xs) i) ∙ ap (λ (l : List A). x ∷ l) (set_append_add xs ys i v)

-- map

pub map_append : {A B : Type 0} (f : A → B) (a b : List A) → map f (a ++ b) ≡ map f a ++ map f b
map_append f [] b = refl
map_append f (x ∷ a) b = rw (map_append f a b)

pub map_set : {A B : Type 0} (f : A → B) (l : List A) (i : ℕ) (x : A) → map f (set l i x) ≡ set (map f l) i (f x)
map_set f [] i x = refl
map_set f (y ∷ ys) zero x = refl
map_set f (y ∷ ys) (suc i) x = rw (map_set f ys i x)

pub all_map : {A B : Type 0} (f : A → Bool) (g : B → Bool) (u : A → B) (l : List A) → ((x : A) → f x ≡ true → g (u x) ≡ true) → all f l ≡ true → all g (map u l) ≡ true
all_map f g u [] h t = refl
all_map f g u (x ∷ l) h t = let k = both (f x) (all f l) t in all_of (h x k.0) (all_map f g u l h k.1)

pub keep_map : {A B : Type 0} (f : B → Bool) (u : A → B) (l : List A) → keep f (map u l) ≡ map u (keep (λ x. f (u x)) l)
keep_map f u [] = refl
keep_map f u (x ∷ l) = by_cases (f (u x)) (λ e. rw (e, keep_map f u l)) (λ e. rw (e, keep_map f u l))

-- all over a run of numbers is a fact of each of them
pub all_from : (f : ℕ → Bool) (a n : ℕ) → all f (from a n) ≡ true → (x : ℕ) → a ≤ x → x < a + n → f x ≡ true
all_from f a zero t x l h = absurd (omega arith)
all_from f a (suc n) t x l h =
    let b = both (f a) (all f (from (suc a) n)) t in
    by_cases (eqb a x)
    (λ e. rw (← (eqb-true a x e)) b.0)
    (λ e. let ne = eqb-false a x e in
    all_from f (suc a) n b.1 x (omega arith) (omega arith))

pub from_all : (f : ℕ → Bool) (a n : ℕ) → ((x : ℕ) → a ≤ x → x < a + n → f x ≡ true) → all f (from a n) ≡ true
from_all f a zero h = refl
from_all f a (suc n) h = all_of (h a (omega arith) (omega arith)) (from_all f (suc a) n (λ x l k. h x (omega arith) (omega arith)))

-- what is listed under a name: an update that keeps the name, and removal
module _ {A : Type 0} (key : A → List ℕ) where
  pub keep_update : (upd : A → A) → ((a : A) → key (upd a) ≡ key a) → (x y : List ℕ) (l : List A)
      → keep (λ a. same x (key a)) (map (λ a. cond (same y (key a)) (upd a) a) l)
      ≡ cond (same y x) (map upd (keep (λ a. same x (key a)) l)) (keep (λ a. same x (key a)) l)
  keep_update upd h x y l =
      by_cases (same y x)
      (λ e. rw (e, same_eq y x e) (hit l))
      (λ e. rw e (miss e l))
    where
      hit : (l : List A) → keep (λ a. same x (key a)) (map (λ a. cond (same x (key a)) (upd a) a) l) ≡ map upd (keep (λ a. same x (key a)) l)
      hit [] = refl
      hit (a ∷ l) = by_cases (same x (key a)) (λ e. rw (e, h a, e, hit l)) (λ e. rw (e, e, hit l))

      miss : same y x ≡ false → (l : List A) → keep (λ a. same x (key a)) (map (λ a. cond (same y (key a)) (upd a) a) l) ≡ keep (λ a. same x (key a)) l
      miss n [] = refl
      miss n (a ∷ l) =
          by_cases (same y (key a))
          (λ e. rw (e, h a) (by_cases (same x (key a)) (λ k. not_both (same_meet y x (key a) e k) n) (λ k. rw (k, miss n l))))
          (λ e. rw e (by_cases (same x (key a)) (λ k. rw (k, miss n l)) (λ k. rw (k, miss n l))))

  pub keep_remove : (x y : List ℕ) (l : List A)
      → keep (λ a. same x (key a)) (keep (λ a. not (same y (key a))) l) ≡ cond (same y x) [] (keep (λ a. same x (key a)) l)
  keep_remove x y l =
      by_cases (same y x)
      (λ e. rw (e, same_eq y x e) (keep_drop (λ a. same x (key a)) (λ a. not (same x (key a))) l (λ a t. rw t)))
      (λ e. rw e (keep_keep (λ a. same x (key a)) (λ a. not (same y (key a))) l
      (λ a t. by_cases (same y (key a)) (λ f. not_both (same_meet y x (key a) f t) e) (λ f. rw f))))

-- a fact of each element, by the elements and by their places

abbrev pub Every {ℓ} : {A : Type ℓ} → (A → Type 0) → List A → Type 0
Every P [] = Unit {0}
Every P (x ∷ xs) = P x × Every P xs

module _ {A : Type 0} (P : A → Type 0) where
  pub every_append : (xs ys : List A) → Every P xs → Every P ys → Every P (xs ++ ys)
  every_append [] ys p q = q
  every_append (x ∷ xs) ys p q = (p.0, every_append xs ys p.1 q)

  pub every_parts : (xs ys : List A) → Every P (xs ++ ys) → Every P xs × Every P ys
  every_parts [] ys p = (tt, p)
  every_parts (x ∷ xs) ys p = let r = every_parts xs ys p.1 in ((p.0, r.0), r.1)

  pub every_keep : (f : A → Bool) (l : List A) → Every P l → Every P (keep f l)
  every_keep f [] r = tt
  every_keep f (x ∷ l) r = by_cases (f x) (λ e. rw e (r.0, every_keep f l r.1)) (λ e. rw e (every_keep f l r.1))

  pub every_join : (bs : List (List A)) → Every P (join bs) → (j : ℕ) → Every P (get_or bs j [])
  every_join [] r j = tt
  every_join (b ∷ bs) r zero = (every_parts b (join bs) r).0
  every_join (b ∷ bs) r (suc j) = every_join bs (every_parts b (join bs) r).1 j

  pub join_every : (bs : List (List A)) → ((j : ℕ) → Every P (get_or bs j [])) → Every P (join bs)
  join_every [] h = tt
  join_every (b ∷ bs) h = every_append b (join bs) (h 0) (join_every bs (λ j. h (suc j)))

  -- one list of a list of lists is replaced
  pub every_set : (bs : List (List A)) (a : ℕ) (c : List A) → Every P (join bs) → Every P c → Every P (join (set bs a c))
  every_set [] a c r q = r
  every_set (b ∷ bs) zero c r q = every_append c (join bs) q (every_parts b (join bs) r).1
  every_set (b ∷ bs) (suc a) c r q =
      let h = every_parts b (join bs) r in
      every_append b (join (set bs a c)) h.0 (every_set bs a c h.1 q)

  pub every_at : (l : List A) (d : A) → P d → Every P l → (j : ℕ) → P (get_or l j d)
  every_at [] d z r j = z
  every_at (x ∷ xs) d z r zero = r.0
  every_at (x ∷ xs) d z r (suc j) = every_at xs d z r.1 j

  pub at_every : (l : List A) (d : A) → ((j : ℕ) → P (get_or l j d)) → Every P l
  at_every [] d f = tt
  at_every (x ∷ xs) d f = (f 0, at_every xs d (λ j. f (suc j)))

pub every_imp : {A : Type 0} (P Q : A → Type 0) (l : List A) → ((x : A) → P x → Q x) → Every P l → Every Q l
every_imp P Q [] f r = tt
every_imp P Q (x ∷ l) f r = (f x r.0, every_imp P Q l f r.1)

pub every_map : {A B : Type 0} (P : B → Type 0) (g : A → B) (l : List A) → Every P (map g l) → Every (λ x. P (g x)) l
every_map P g [] r = tt
every_map P g (x ∷ xs) r = (r.0, every_map P g xs r.1)

pub map_every : {A B : Type 0} (P : B → Type 0) (g : A → B) (l : List A) → Every (λ x. P (g x)) l → Every P (map g l)
map_every P g [] r = tt
map_every P g (x ∷ xs) r = (r.0, map_every P g xs r.1)

-- a test of each element, from a place on: what a loop over the elements goes by
module _ (p : ℕ → Bool) (l : List ℕ) (i : ℕ) where
  pub all_stop : i < length l → p (get_or l i 0) ≡ false → all p (drop i l) ≡ false
  all_stop h e = rw (drop-cons l i 0 h, e)

  pub all_on : i < length l → p (get_or l i 0) ≡ true → all p (drop (i + 1) l) ≡ all p (drop i l)
  all_on h e = rw (drop-cons l i 0 h, e, add-one i)

  pub all_end : length l ≤ i → all p (drop i l) ≡ true
  all_end h = rw (drop_of_length-le l h)

-- a list copied over another, one element more
pub copy_more : (s d : List ℕ) (i : ℕ) → i < length s → i < length d → set (take i s ++ drop i d) i (get_or s i 0) ≡ take (i + 1) s ++ drop (i + 1) d
copy_more s d i h l =
    rw (add-one i, drop-cons d i 0 l, take-suc s i 0 h, append_assoc (take i s) (get_or s i 0 ∷ []) (drop (suc i) d))
    (set_at (take i s) (get_or d i 0) (drop (suc i) d) (get_or s i 0) i (length-take-le i s (omega arith)))
