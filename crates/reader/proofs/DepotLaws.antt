-- What `depot` writes, told without the buffers: an input over 16,384 bytes gives `13 0 0 0` alone (`depot_long`); any other gives the answers of its lines on
-- a fresh store with 16,384 bytes of output, and behind them nothing or `10 0 0 0` (`depot_lines`, `depot_closes`).
use Prim.Native.Nat.{ℕ, ◌≤◌, ◌<◌}
use mathlib.Core.Path.{◌≡◌, refl, ◌∙◌}
use mathlib.Core.Bool.{true}
use mathlib.Core.Logic.{◌⊎◌, inl, inr}
use mathlib.Core.List.{List, [], ◌∷◌, ◌++◌}
use native.Mathlib.Omega.{arith}
use lib.ListN.{length, length-replicate}
use borrow.Author.Tests.{lt-ltb, le-ltb}
use Rattle.model.specs.Shape.{need}
use Rattle.model.specs.Model.{fresh}
use Rattle.model.specs.Layout.{shape_of, decode, sound}
use Rattle.model.specs.Text.{digits, decimal, lines_of}
use Rattle.model.specs.Job.{Run, run_lines, started, most_text}
use Rattle.model.proofs.Fresh.{fair_fresh, fresh_sound}
use Rattle.model.proofs.Outcomes.{read_back}
use Rattle.model.proofs.Jobs.{AllAnswered, Stopped, lines_end}
use Rattle.reader.specs.Depot.{depot_shape, opened, output_size, blank, nothing, closing, depot_text}
use Rattle.reader.proofs.Opening.{shape}
use Rattle.reader.proofs.Wholes.{lines_text, text_in, whole_text_lem}

-- the buffers are long enough and the store is sound
out_long : length (blank output_size) ≡ output_size
unfolding blank
out_long = length-replicate {A = ℕ} output_size 0

opened_sound : sound opened ≡ true
unfolding opened
opened_sound = fresh_sound depot_shape shape

opened_back : decode opened ≡ fresh depot_shape
unfolding opened
opened_back = read_back (fresh depot_shape) (fair_fresh depot_shape shape)

scratch_long : need (shape_of opened) ≤ length (blank (need (shape_of opened)))
unfolding blank
scratch_long = omega (arith, length-replicate {A = ℕ} (need (shape_of opened)) 0)

pub depot_long : (input : List ℕ) → most_text < length input → depot_text input ≡ 49 ∷ 51 ∷ 32 ∷ 48 ∷ 32 ∷ 48 ∷ 32 ∷ 48 ∷ 10 ∷ []
unfolding depot_text text_in closing decimal digits
depot_long input h =
    whole_text_lem opened (blank (need (shape_of opened))) input (blank output_size) nothing
    ∙ rw (le-ltb (length (blank (need (shape_of opened)))) (need (shape_of opened)) scratch_long, lt-ltb most_text (length input) h)

-- the lines of an input, run
abbrev pub ran : List ℕ → Run
ran input = run_lines (lines_of input) output_size (started (fresh depot_shape) nothing)

pub depot_lines : (input : List ℕ) → length input ≤ most_text → depot_text input ≡ (ran input).text ++ closing (ran input).number
unfolding depot_text text_in lines_text
depot_lines input h =
    whole_text_lem opened (blank (need (shape_of opened))) input (blank output_size) nothing
    ∙ rw (le-ltb (length (blank (need (shape_of opened)))) (need (shape_of opened)) scratch_long, le-ltb most_text (length input) h, opened_sound, opened_back, out_long)

pub depot_closes : (input : List ℕ) → (closing (ran input).number ≡ []) ⊎ (closing (ran input).number ≡ 49 ∷ 48 ∷ 32 ∷ 48 ∷ 32 ∷ 48 ∷ 32 ∷ 48 ∷ 10 ∷ [])
unfolding closing decimal digits
depot_closes input = go (lines_end (lines_of input) output_size (started (fresh depot_shape) nothing) refl)
  where
    go : AllAnswered (lines_of input) (started (fresh depot_shape) nothing) (ran input) ⊎ Stopped (lines_of input) output_size (started (fresh depot_shape) nothing) (ran input)
        → (closing (ran input).number ≡ []) ⊎ (closing (ran input).number ≡ 49 ∷ 48 ∷ 32 ∷ 48 ∷ 32 ∷ 48 ∷ 32 ∷ 48 ∷ 10 ∷ [])
    go (inl a) = inl (rw a.number)
    go (inr s) = inr (rw s.number)
