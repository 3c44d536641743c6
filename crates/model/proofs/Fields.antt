-- A text cut at a separator. Its fields are exactly the pieces without a separator that make the text, with one separator between them
-- (`fields_mean`); its lines are exactly the pieces without an LF that stand before one, and a last piece that is not empty (`lines_mean`).
use mathlib.Core.Path.{◌≡◌, refl, sym, ap, ◌∙◌, subst}
use mathlib.Core.Logic.{◌↔◌}
use mathlib.Core.List.{List, [], ◌∷◌, ◌++◌, append_assoc, append-nil}
use Prim.Native.Nat.{ℕ, ◌≤◌}
use native.Mathlib.Omega.{arith}
use lib.Dec.{eqb}
use lib.ListN.{length}
use borrow.Author.Tests.{eqb-true, eqb-false, eq-eqb, ne_eqb}
use Rattle.rules.proofs.Tests.{by_cases}
use Rattle.model.specs.Text.{onto, fields, drop_empty_last, lines_of}
use Rattle.model.proofs.Lists.{Every}

-- b stands nowhere in l
abbrev pub Without : ℕ → List ℕ → Type 0
Without b l = Every (λ x. x ≡ b → ⊥) l

-- pieces, with a separator between each two
abbrev pub glued : ℕ → List (List ℕ) → List ℕ
glued sep [] = []
glued sep (f ∷ []) = f
glued sep (f ∷ g ∷ fs) = f ++ (sep ∷ glued sep (g ∷ fs))

-- pieces, one or more, none with a separator in it, that make the text
pub record FieldsMean (sep : ℕ) (text : List ℕ) (fs : List (List ℕ)) : Type 0 where
  pub some : 1 ≤ length fs
  pub whole : Every (Without sep) fs
  pub text_is : text ≡ glued sep fs

module _ (sep : ℕ) where
  -- one byte more in front

  next_field : (b : ℕ) (text : List ℕ) (fs : List (List ℕ)) → b ≡ sep → FieldsMean sep text fs → FieldsMean sep (b ∷ text) ([] ∷ fs)
  next_field b text [] e m = absurd (omega (arith, m.some))
  next_field b text (f ∷ fs) e m = record { some = omega arith; whole = (tt, m.whole); text_is = cc m.text_is }

  same_field : (b : ℕ) (text : List ℕ) (fs : List (List ℕ)) → (b ≡ sep → ⊥) → FieldsMean sep text fs → FieldsMean sep (b ∷ text) (onto b fs)
  unfolding onto
  same_field b text [] n m = absurd (omega (arith, m.some))
  same_field b text (f ∷ []) n m = record { some = omega arith; whole = ((n, m.whole.0), tt); text_is = cc m.text_is }
  same_field b text (f ∷ g ∷ fs) n m = record { some = omega arith; whole = ((n, m.whole.0), m.whole.1); text_is = cc m.text_is }

  pub fields_are : (text : List ℕ) → FieldsMean sep text (fields sep text)
  unfolding fields
  fields_are [] = record { some = omega arith; whole = (tt, tt); text_is = refl }
  fields_are (b ∷ text) =
      by_cases (eqb b sep)
      (λ e. rw e (next_field b text (fields sep text) (eqb-true b sep e) (fields_are text)))
      (λ e. rw e (same_field b text (fields sep text) (eqb-false b sep e) (fields_are text)))

  -- a text with no separator is one field; what stands before the first separator is the first

  fields_one : (f : List ℕ) → Without sep f → fields sep f ≡ f ∷ []
  unfolding fields onto
  fields_one [] w = refl
  fields_one (x ∷ f) w = rw (ne_eqb x sep w.0, fields_one f w.1)

  fields_cut : (f text : List ℕ) → Without sep f → fields sep (f ++ (sep ∷ text)) ≡ f ∷ fields sep text
  unfolding fields onto
  fields_cut [] text w = rw (eq-eqb sep sep refl)
  fields_cut (x ∷ f) text w = rw (ne_eqb x sep w.0, fields_cut f text w.1)

  fields_glued : (fs : List (List ℕ)) → 1 ≤ length fs → Every (Without sep) fs → fields sep (glued sep fs) ≡ fs
  fields_glued [] s w = absurd (omega arith)
  fields_glued (f ∷ []) s w = fields_one f w.0
  fields_glued (f ∷ g ∷ fs) s w = fields_cut f (glued sep (g ∷ fs)) w.0 ∙ ap (λ (l : List (List ℕ)). f ∷ l) (fields_glued (g ∷ fs) (omega arith) w.1)

  pub fields_mean : (text : List ℕ) (fs : List (List ℕ)) → (fields sep text ≡ fs) ↔ FieldsMean sep text fs
  fields_mean text fs = (λ e. subst (FieldsMean sep text) e (fields_are text), λ m. ap (fields sep) m.text_is ∙ fields_glued fs m.some m.whole)

-- lines, with an LF behind each
abbrev pub ended : List (List ℕ) → List ℕ
ended [] = []
ended (l ∷ ls) = l ++ (10 ∷ ended ls)

-- the lines that end with LF, and what stands behind the last LF: a line if it is not empty
pub record LinesMean (text : List ℕ) (lines : List (List ℕ)) : Type 0 where
  pub before : List (List ℕ)
  pub last : List ℕ
  pub text_is : text ≡ ended before ++ last
  pub before_whole : Every (Without 10) before
  pub last_whole : Without 10 last
  pub last_empty : length last ≡ 0 → lines ≡ before
  pub last_counts : 1 ≤ length last → lines ≡ before ++ (last ∷ [])

-- one line more in front
pub more_lines : (l text : List ℕ) (ls : List (List ℕ)) → Without 10 l → LinesMean text ls → LinesMean (l ++ (10 ∷ text)) (l ∷ ls)
more_lines l text ls w m =
    record {
      before = l ∷ m.before;
      last = m.last;
      text_is = ap (λ (t : List ℕ). l ++ (10 ∷ t)) m.text_is ∙ sym (append_assoc l (10 ∷ ended m.before) m.last);
      before_whole = (w, m.before_whole);
      last_whole = m.last_whole;
      last_empty = λ e. ap (λ (ls : List (List ℕ)). l ∷ ls) (m.last_empty e);
      last_counts = λ h. ap (λ (ls : List (List ℕ)). l ∷ ls) (m.last_counts h);
    }

lines_are : (fs : List (List ℕ)) → 1 ≤ length fs → Every (Without 10) fs → LinesMean (glued 10 fs) (drop_empty_last fs)
unfolding drop_empty_last
lines_are [] s w = absurd (omega arith)
lines_are ([] ∷ []) s w =
    record { before = []; last = []; text_is = refl; before_whole = tt; last_whole = tt; last_empty = λ e. refl; last_counts = λ h. absurd (omega arith) }
lines_are ((b ∷ bs) ∷ []) s w =
    record { before = []; last = b ∷ bs; text_is = refl; before_whole = tt; last_whole = w.0; last_empty = λ e. absurd (omega arith); last_counts = λ h. refl }
lines_are (l ∷ k ∷ fs) s w = more_lines l (glued 10 (k ∷ fs)) (drop_empty_last (k ∷ fs)) w.0 (lines_are (k ∷ fs) (omega arith) w.1)

not_last : (l : List ℕ) (fs : List (List ℕ)) → 1 ≤ length fs → drop_empty_last (l ∷ fs) ≡ l ∷ drop_empty_last fs
unfolding drop_empty_last
not_last l [] h = absurd (omega arith)
not_last l (k ∷ fs) h = refl

are_lines : (before : List (List ℕ)) (last : List ℕ) → Every (Without 10) before → lines_of (ended before ++ last) ≡ before ++ lines_of last
unfolding lines_of
are_lines [] last w = refl
are_lines (l ∷ before) last w =
    rw (append_assoc l (10 ∷ ended before) last, fields_cut 10 l (ended before ++ last) w.0, not_last l (fields 10 (ended before ++ last)) (fields_are 10 (ended before ++ last)).some)
    (ap (λ (ls : List (List ℕ)). l ∷ ls) (are_lines before last w.1))

means_lines : (text : List ℕ) (lines : List (List ℕ)) → LinesMean text lines → lines_of text ≡ lines
unfolding lines_of fields drop_empty_last
means_lines text lines m =
    ap lines_of m.text_is ∙ are_lines m.before m.last m.before_whole ∙ go m.last m.last_whole m.last_empty m.last_counts
  where
    go : (l : List ℕ) → Without 10 l → (length l ≡ 0 → lines ≡ m.before) → (1 ≤ length l → lines ≡ m.before ++ (l ∷ [])) → m.before ++ lines_of l ≡ lines
    go [] w e c = append-nil m.before ∙ sym (e refl)
    go (b ∷ l) w e c = ap (λ (fs : List (List ℕ)). m.before ++ drop_empty_last fs) (fields_one 10 (b ∷ l) w) ∙ sym (c (omega arith))

pub lines_mean : (text : List ℕ) (lines : List (List ℕ)) → (lines_of text ≡ lines) ↔ LinesMean text lines
unfolding lines_of
lines_mean text lines = (
  λ e. let f = fields_are 10 text in
      subst (LinesMean text) e (rw (← f.text_is) at (lines_are (fields 10 text) f.some f.whole)),
  means_lines text lines,
)
