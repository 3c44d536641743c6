-- A text taken apart at its first separator, and the lines that this gives. Assumes nothing.
use Rattle.std.proofs.Common.{Option, ◌⊎◌, inl, inr, ◌≡◌, ℕ, suc, ◌+◌, ◌≤◌, ◌<◌, List, [], ◌∷◌, ◌++◌, length, take, drop, get_or, Bool, Some, None, subst, position, refl, sym, ap, ◌∙◌, arith, drop-cons, add-one}
use Rattle.std.specs.List.{position_or_len, slice_split, onto_first}
use lib.Dec.{eqb, ltb}
use Rattle.std.proofs.lemmas.List.{take-append-drop}
use Rattle.std.proofs.lemmas.List.Splits.{slice_split_first}
use Rattle.std.proofs.lemmas.List.Sums.{passes_at_first}
use borrow.Author.Tests.{eqb-true, ltb-true, ltb-false}
use Rattle.rules.proofs.Tests.{by_cases}
use Rattle.model.specs.Text.{onto, fields, lines_of, drop_empty_last}
use Rattle.text.specs.Pieces.{Parts}

-- the model's fields are what `split` of std gives
fields_split : (sep : ℕ) (t : List ℕ) → fields sep t ≡ slice_split (λ b. eqb b sep) t
unfolding fields onto
fields_split sep [] = refl
fields_split sep (b ∷ bs) = by_cases (eqb b sep) (λ e. rw (e, fields_split sep bs)) (λ e. rw (e, fields_split sep bs) (go (slice_split (λ c. eqb c sep) bs)))
  where
    go : (fs : List (List ℕ)) → onto b fs ≡ onto_first b fs
    go [] = refl
    go (f ∷ fs) = refl

-- a text without a separator is one field
one_field : (sep : ℕ) (t : List ℕ) → length t ≤ position_or_len (λ b. eqb b sep) t → fields sep t ≡ t ∷ []
unfolding fields onto
one_field sep [] = λ h. refl
one_field sep (b ∷ bs) = by_cases (eqb b sep) (λ e. rw e (λ h. absurd (omega arith))) (λ e. rw e (λ h. rw (one_field sep bs (omega arith))))

not_none : {A : Type 0} (x : A) → Some x ≡ None → ⊥
not_none x e = cc

pub none_found : (sep : ℕ) (t : List ℕ) → position (λ b. eqb b sep) t ≡ None → fields sep t ≡ t ∷ []
none_found sep t e =
    let n = position_or_len (λ b. eqb b sep) t in
    by_cases (ltb n (length t)) (λ h. absurd (not_none n (rw h at e))) (λ h. one_field sep t (ltb-false n (length t) h))

not_some : {A : Type 0} (x : A) → None ≡ Some x → ⊥
not_some x e = cc

some_same : {A : Type 0} {x y : A} → Some x ≡ Some y → x ≡ y
some_same e = cc

-- the first separator
pub one_found : (sep : ℕ) (t : List ℕ) (i : ℕ) → position (λ b. eqb b sep) t ≡ Some i → Parts sep t (take i t) (drop (i + 1) t)
one_found sep t i e =
    let p : ℕ → Bool = λ b. eqb b sep in
    let n = position_or_len p t in
    by_cases (ltb n (length t))
    (λ h.
    let l = ltb-true n (length t) h in
    let same : n ≡ i = some_same (rw h at e) in
    subst (λ (k : ℕ). Parts sep t (take k t) (drop (k + 1) t)) same (record {
      joined = sym (take-append-drop n t) ∙ ap (λ (k : List ℕ). take n t ++ k) (drop-cons t n 0 l ∙ ap (λ (x : ℕ). x ∷ drop (suc n) t) (eqb-true (get_or t n 0) sep (passes_at_first p t 0 l)) ∙ ap (λ (k : ℕ). sep ∷ drop k t) (sym (add-one n)));
      first = fields_split sep t ∙ slice_split_first p t 0 l ∙ ap (λ (fs : List (List ℕ)). take n t ∷ fs) (sym (fields_split sep (drop (n + 1) t)));
    }))
    (λ h. absurd (not_some i (rw h at e)))

-- so a text is one field, or has a first separator
pub whole_or_parts : (sep : ℕ) (t : List ℕ) → (fields sep t ≡ t ∷ []) ⊎ ((i : ℕ) × Parts sep t (take i t) (drop (i + 1) t))
whole_or_parts sep t = go (position (λ b. eqb b sep) t) refl
  where
    go : (r : Option ℕ) → position (λ b. eqb b sep) t ≡ r → (fields sep t ≡ t ∷ []) ⊎ ((i : ℕ) × Parts sep t (take i t) (drop (i + 1) t))
    go None e = inl (none_found sep t e)
    go (Some i) e = inr (i, one_found sep t i e)

-- the lines of a text: its first piece is a line where the text is not empty, and the lines of what stands behind the LF follow
pub fields_some : (sep : ℕ) (t : List ℕ) → 0 < length (fields sep t)
unfolding fields onto
fields_some sep [] = omega arith
fields_some sep (b ∷ bs) = by_cases (eqb b sep) (λ e. rw e (omega arith)) (λ e. rw e (go (fields sep bs)))
  where
    go : (fs : List (List ℕ)) → 0 < length (onto b fs)
    go [] = omega arith
    go (f ∷ fs) = omega arith

not_last : (l : List ℕ) (fs : List (List ℕ)) → 0 < length fs → drop_empty_last (l ∷ fs) ≡ l ∷ drop_empty_last fs
unfolding drop_empty_last
not_last l [] h = absurd (omega arith)
not_last [] (f ∷ fs) h = refl
not_last (b ∷ l) (f ∷ fs) h = refl

last_kept : (l : List ℕ) → 0 < length l → drop_empty_last (l ∷ []) ≡ l ∷ []
unfolding drop_empty_last
last_kept [] h = absurd (omega arith)
last_kept (b ∷ l) h = refl

pub no_lines : (t : List ℕ) → length t ≡ 0 → lines_of t ≡ []
unfolding lines_of fields drop_empty_last
no_lines [] e = refl
no_lines (b ∷ t) e = absurd (omega arith)

pub last_line : (t : List ℕ) → 0 < length t → fields 10 t ≡ t ∷ [] → lines_of t ≡ t ∷ lines_of []
unfolding lines_of drop_empty_last
last_line t h e = rw (e, no_lines [] refl) (last_kept t h)

pub first_line : (t line rest : List ℕ) → Parts 10 t line rest → lines_of t ≡ line ∷ lines_of rest
unfolding lines_of
first_line t line rest p = rw p.first (not_last line (fields 10 rest) (fields_some 10 rest))
