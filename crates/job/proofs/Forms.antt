-- The forms of a line by the tests that the code makes: its length, its first field, how many fields it has. Assumes nothing.
use Prim.Native.Nat.{ℕ, ◌+◌, ◌≤◌, ◌<◌}
use mathlib.Core.Path.{◌≡◌, refl, sym, ap, ◌∙◌}
use mathlib.Core.List.{List, [], ◌∷◌, ◌++◌}
use mathlib.Core.Logic.{⊎_elim}
use mathlib.Core.Bool.{Bool, true, false, ◌&&◌}
use native.Mathlib.Omega.{arith}
use lib.ListN.{length, take, drop, get_or}
use borrow.Author.Tests.{lt-ltb, le-ltb, ne_eqb}
use Rattle.rules.proofs.Tests.{by_cases}
use Rattle.model.specs.Lists.{same, between, all}
use Rattle.model.specs.Text.{fields, is_number, value_from}
use Rattle.model.specs.Job.{Line, bad, enter, show, withdraw, file, two, four, from_fields, line_of}
use Rattle.model.proofs.Lists.{same_eq}
use Rattle.std.proofs.Common.{Option, None}
use Rattle.text.specs.Pieces.{Parts}
use Rattle.job.specs.Told.{Told, request_in}
use Rattle.job.specs.declared.fields.Request.{Request}
use Rattle.text.proofs.PieceLaws.{fields_some, whole_or_parts}

-- what is told of a line is told of any line that it equals
pub told_as : (l m : Line) {r : Option Request} → l ≡ m → Told m r → Told l r
told_as l m e t = rw e t

pub told_none : (l : Line) {r : Option Request} → l ≡ bad → r ≡ None → Told l r
unfolding request_in
told_none l e n = rw e n

-- two fields, and four

module _ (op : ℕ) (f : List ℕ) where
  pub two_enter : op ≡ 69 → two (op ∷ []) f ≡ enter f
  unfolding two
  two_enter e = rw e

  pub two_withdraw : op ≡ 87 → two (op ∷ []) f ≡ withdraw f
  unfolding two
  two_withdraw e = rw e

  pub two_show : op ≡ 83 → two (op ∷ []) f ≡ show f
  unfolding two
  two_show e = rw e

  pub two_other : (op ≡ 69 → ⊥) → (op ≡ 87 → ⊥) → (op ≡ 83 → ⊥) → two (op ∷ []) f ≡ bad
  unfolding two
  two_other e w s = simp (ne_eqb op 69 e, ne_eqb op 87 w, ne_eqb op 83 s)

module _ (op : ℕ) (f d c : List ℕ) where
  pub four_other : (op ≡ 70 → ⊥) → four (op ∷ []) f d c ≡ bad
  unfolding four
  four_other n = simp (ne_eqb op 70 n)

  pub four_no_day : op ≡ 70 → is_number d ≡ false → four (op ∷ []) f d c ≡ bad
  unfolding four
  four_no_day e n = rw (e, n)

  pub four_no_code : op ≡ 70 → is_number d ≡ true → is_number c ≡ false → four (op ∷ []) f d c ≡ bad
  unfolding four
  four_no_code e t n = rw (e, t, n)

  pub four_file : op ≡ 70 → is_number d ≡ true → is_number c ≡ true → four (op ∷ []) f d c ≡ file f (value_from 0 d) (value_from 0 c)
  unfolding four
  four_file e t u = rw (e, t, u)

-- a first field that is not one byte

not_one : (f : List ℕ) (x : ℕ) → (length f ≡ 1 → ⊥) → same f (x ∷ []) ≡ false
not_one f x n = by_cases (same f (x ∷ [])) (λ e. absurd (n (ap length (same_eq f (x ∷ []) e)))) (λ e. e)

pub first_bad : (f : List ℕ) (fs : List (List ℕ)) → (length f ≡ 1 → ⊥) → from_fields (f ∷ fs) ≡ bad
unfolding from_fields two four
first_bad f [] n = refl
first_bad f (a ∷ []) n = rw (not_one f 69 n, not_one f 83 n, not_one f 87 n)
first_bad f (a ∷ b ∷ []) n = refl
first_bad f (a ∷ b ∷ c ∷ []) n = rw (not_one f 70 n)
first_bad f (a ∷ b ∷ c ∷ d ∷ fs) n = refl

-- the line by its length

pub line_long : (l : List ℕ) → 64 < length l → line_of l ≡ bad
unfolding line_of
line_long l h = rw (lt-ltb 64 (length l) h)

pub line_short : (l : List ℕ) → length l ≤ 64 → line_of l ≡ from_fields (fields 32 l)
unfolding line_of
line_short l h = rw (le-ltb 64 (length l) h)

-- a line by its first separator: one field, one of two fields, and one of more

one_byte : (f : List ℕ) → length f ≡ 1 → f ≡ get_or f 0 0 ∷ []
one_byte [] h = absurd (omega arith)
one_byte (b ∷ []) h = refl
one_byte (b ∷ c ∷ f) h = absurd (omega arith)

module _ (l : List ℕ) where
  pub line_one : fields 32 l ≡ l ∷ [] → from_fields (fields 32 l) ≡ bad
  unfolding from_fields
  line_one e = rw e

  module _ (f rest : List ℕ) (p : Parts 32 l f rest) where
    pub line_first : (length f ≡ 1 → ⊥) → from_fields (fields 32 l) ≡ bad
    line_first n = rw p.first (first_bad f (fields 32 rest) n)

    module _ (o : length f ≡ 1) where
      start : fields 32 l ≡ (get_or f 0 0 ∷ []) ∷ fields 32 rest
      start = p.first ∙ ap (λ (x : List ℕ). x ∷ fields 32 rest) (one_byte f o)

      pub line_two : fields 32 rest ≡ rest ∷ [] → from_fields (fields 32 l) ≡ two (get_or f 0 0 ∷ []) rest
      unfolding from_fields
      line_two e = rw (start, e)

      pub line_more : (serial more : List ℕ) → Parts 32 rest serial more → from_fields (fields 32 l) ≡ from_fields ((get_or f 0 0 ∷ []) ∷ serial ∷ fields 32 more)
      line_more serial more q = rw (start, q.first)

-- what stands behind the serial: one field, or a day with the rest behind it, where that is no number if it is more than one field

pub behind_one : (f s t : List ℕ) → fields 32 t ≡ t ∷ [] → from_fields (f ∷ s ∷ fields 32 t) ≡ bad
unfolding from_fields
behind_one f s t e = rw e

no_number : (c x rest : List ℕ) → Parts 32 c x rest → is_number c ≡ false
unfolding is_number between
no_number c x rest p = rw (p.joined) (ends (between 1 9 (length (x ++ 32 ∷ rest))) (breaks x rest))
  where
    breaks : (x rest : List ℕ) → all (between 48 57) (x ++ 32 ∷ rest) ≡ false
    breaks [] rest = refl
    breaks (b ∷ x) rest = by_cases (between 48 57 b) (λ e. rw (e, breaks x rest)) (λ e. rw e)

    ends : (a : Bool) {b : Bool} → b ≡ false → (a && b) ≡ false
    ends true e = e
    ends false e = refl

over_four : (f s d c : List ℕ) (fs : List (List ℕ)) → 0 < length fs → from_fields (f ∷ s ∷ d ∷ c ∷ fs) ≡ bad
unfolding from_fields
over_four f s d c [] h = absurd (omega arith)
over_four f s d c (x ∷ fs) h = refl

four_no_number : (f s d c : List ℕ) → is_number c ≡ false → four f s d c ≡ bad
unfolding four
four_no_number f s d c e =
    by_cases (same f (70 ∷ [])) (λ a. by_cases (is_number d) (λ b. rw (a, b, e)) (λ b. rw (a, b))) (λ a. rw a)

pub behind_two : (f s t d c : List ℕ) → Parts 32 t d c → from_fields (f ∷ s ∷ fields 32 t) ≡ four f s d c
unfolding from_fields
behind_two f s t d c p =
    rw p.first
    (⊎_elim (λ (e : fields 32 c ≡ c ∷ []). rw e)
    (λ (q : (i : ℕ) × Parts 32 c (take i c) (drop (i + 1) c)).
    rw q.1.first (over_four f s d (take q.0 c) (fields 32 (drop (q.0 + 1) c)) (fields_some 32 (drop (q.0 + 1) c)))
    ∙ sym (four_no_number f s d c (no_number c (take q.0 c) (drop (q.0 + 1) c) q.1)))
    (whole_or_parts 32 c))
