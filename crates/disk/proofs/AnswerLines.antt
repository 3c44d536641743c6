-- A job writes as many answer lines as it answers lines (`said_count`): an answer ends with the one LF that stands in it (`answer_line_lem`). And what is heard of
-- lines goes by as many of them as have an answer line (`heard_few`).
use Prim.Native.Nat.{ℕ, zero, suc}
use mathlib.Core.Path.{◌≡◌, refl, ap, ◌∙◌}
use mathlib.Core.List.{List, [], ◌∷◌, ◌++◌, append_assoc}
use native.Mathlib.Omega.{arith}
use lib.ListN.{length, take}
use Rattle.model.specs.Calls.{Step}
use Rattle.model.specs.Runs.{run}
use Rattle.model.specs.Layout.{shape_of}
use Rattle.model.specs.Text.{fields, drop_empty_last, lines_of, decimal}
use Rattle.model.specs.Job.{Line, line_of, pair_text, listed, answer_text}
use Rattle.model.specs.Deeds.{acts_of, calls_by, step_by, said_by, said}
use Rattle.model.specs.Heard.{heard_in}
use Rattle.model.proofs.Lists.{every_append}
use Rattle.model.proofs.Fields.{Without, more_lines, lines_mean}
use Rattle.model.proofs.Decimals.{decimal_without}

numeral : (n : ℕ) → Without 10 (decimal n)
numeral n = decimal_without n 10 (λ d. omega (arith, d.0))

joined : (a b : List ℕ) → Without 10 a → Without 10 b → Without 10 (a ++ b)
joined a b = every_append (λ (x : ℕ). x ≡ 10 → ⊥) a b

pairs_whole : (k : ℕ) (room : List ℕ) → Without 10 (pair_text k room)
unfolding pair_text
pairs_whole zero room = tt
pairs_whole (suc k) [] = tt
pairs_whole (suc k) (d ∷ []) = tt
pairs_whole (suc k) (d ∷ c ∷ rest) =
    (λ e. omega (arith, e), joined (decimal d) (58 ∷ (decimal c ++ pair_text k rest)) (numeral d) (λ e. omega (arith, e), joined (decimal c) (pair_text k rest) (numeral c) (pairs_whole k rest)))

-- an answer: a line without LF, and LF
record Ends (text : List ℕ) : Type 0 where
  pub line : List ℕ
  pub text_is : text ≡ line ++ (10 ∷ [])
  pub whole : Without 10 line

answer_line_lem : (l : Line) (r : Step) → Ends (answer_text l r)
unfolding answer_text
answer_line_lem l r =
    let a = r.answer in
    let ps = pair_text (listed l a) r.room in
    let w₄ = joined (decimal a.faults) ps (numeral a.faults) (pairs_whole (listed l a) r.room) in
    let w₃ = joined (decimal a.scanned) (32 ∷ (decimal a.faults ++ ps)) (numeral a.scanned) (λ e. omega (arith, e), w₄) in
    let w₂ = joined (decimal a.comparisons) (32 ∷ (decimal a.scanned ++ (32 ∷ (decimal a.faults ++ ps)))) (numeral a.comparisons) (λ e. omega (arith, e), w₃) in
    record {
      line = decimal a.number ++ (32 ∷ (decimal a.comparisons ++ (32 ∷ (decimal a.scanned ++ (32 ∷ (decimal a.faults ++ ps))))));
      text_is = simp append_assoc;
      whole = joined (decimal a.number) (32 ∷ (decimal a.comparisons ++ (32 ∷ (decimal a.scanned ++ (32 ∷ (decimal a.faults ++ ps)))))) (numeral a.number) (λ e. omega (arith, e), w₂);
    }

first_line : (y text : List ℕ) → Without 10 y → lines_of (y ++ (10 ∷ text)) ≡ y ∷ lines_of text
first_line y text h = (lines_mean (y ++ (10 ∷ text)) (y ∷ lines_of text)).1 (more_lines y text (lines_of text) h ((lines_mean text (lines_of text)).0 refl))

pub said_count : (xs : List (List ℕ)) (w : List ℕ) → length (lines_of (said w xs)) ≡ length xs
unfolding lines_of fields drop_empty_last
said_count [] w = refl
said_count (x ∷ xs) w =
    let next = run w (calls_by (shape_of w) x) in
    let q = answer_line_lem (line_of x) (step_by w (acts_of (line_of x))) in
    let e : said_by w x ++ said next xs ≡ q.line ++ (10 ∷ said next xs) = ap (λ (t : List ℕ). t ++ said next xs) q.text_is ∙ append_assoc q.line (10 ∷ []) (said next xs) in
    ap (λ (t : List ℕ). length (lines_of t)) e ∙ ap length (first_line q.line (said next xs) q.whole) ∙ ap suc (said_count xs next)

pub heard_few : (xs ys : List (List ℕ)) → heard_in (take (length ys) xs) ys ≡ heard_in xs ys
heard_few [] [] = refl
heard_few [] (y ∷ ys) = refl
heard_few (x ∷ xs) [] = refl
heard_few (x ∷ xs) (y ∷ ys) = rw (heard_few xs ys)
