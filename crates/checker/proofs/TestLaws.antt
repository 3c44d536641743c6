-- Laws of the words before the cells and of free cells: a test of all words of a part, or of all numbers of a range, is the test that the
-- definitions ask for.
use mathlib.Core.Path.{◌≡◌, refl, ap, ◌∙◌}
use mathlib.Core.Bool.{Bool, true, false, cond, ◌&&◌}
use mathlib.Core.List.{List}
use Prim.Native.Nat.{ℕ, zero, suc, ◌+◌, ◌-◌, ◌*◌, ◌≤◌, ◌<◌}
use native.Mathlib.Omega.{arith}
use native.Mathlib.Numerals.{add-one}
use lib.Dec.{eqb}
use lib.ListN.{length, get_or, take, drop}
use lib.Seq.{drop-cons}
use Rattle.std.specs.List.{list_all, range_with_len}
use Rattle.model.specs.Lists.{all, from}
use Rattle.model.specs.Shape.{Shape, entries, top_of}
use Rattle.model.specs.Layout.{directory_at, segments_at, cell_at, card_word, fault_word}
use Rattle.reads.specs.declared.header.Header.{Header}
use Rattle.reads.specs.Cells.{shape_in, Sized, width_of, cell_word}
use Rattle.checker.specs.Fits.{free_fits}
use Rattle.checker.specs.Checker.{entry_for, directory_fits, rest_fits}

-- the n words behind word a + b
pub slice_all : (f : ℕ → Bool) (w : List ℕ) (a b n : ℕ) → a + b + n ≤ length w → list_all f (take n (drop (a + b) w)) ≡ all (λ k. f (get_or w (a + k) 0)) (from b n)
slice_all f w a b zero h = refl
slice_all f w a b (suc n) h =
    let e : a + suc b ≡ suc (a + b) = omega arith in
    let l : a + b < length w = omega arith in
    let r = rw e at (slice_all f w a (suc b) n (omega arith)) in
    rw (drop-cons w (a + b) 0 l) (ap (λ (t : Bool). f (get_or w (a + b) 0) && t) r)

-- the words from a up to b
abbrev pub words_in : List ℕ → ℕ → ℕ → List ℕ
words_in w a b = take (b - a) (drop a w)

-- the n numbers from a on
pub range_all : (f : ℕ → Bool) (a n : ℕ) → list_all f (range_with_len a n) ≡ all f (from a n)
range_all f a zero = refl
range_all f a (suc n) = rw add-one (ap (λ (t : Bool). f a && t) (range_all f (suc a) n))

-- a word is zero
abbrev pub is_zero : ℕ → Bool
is_zero x = eqb x 0

-- a directory word is right
abbrev pub entry_at : ℕ → List ℕ → ℕ → ℕ → Bool
entry_at segments w b k = eqb (get_or w (directory_at + k) 0) (entry_for segments b k)

pub directory_all : (sh : Shape) (w : List ℕ) (b : ℕ) {segments n : ℕ} → segments ≡ segments_at sh → n ≡ entries sh → list_all (entry_at segments w b) (range_with_len 0 n) ≡ directory_fits sh w b
unfolding directory_fits
directory_all sh w b {segments} {n} g e = range_all (entry_at segments w b) 0 n ∙ rw (g, e)

-- the bucket words past the last bucket
pub rest_all : (sh : Shape) (w : List ℕ) (b : ℕ) {segments top : ℕ} → segments ≡ segments_at sh → top ≡ top_of sh → b ≤ top → segments + top ≤ length w
    → list_all is_zero (words_in w (segments + b) (segments + top)) ≡ rest_fits sh w b
unfolding rest_fits
rest_all sh w b {segments} {top} g e l h =
    let z : segments + top - (segments + b) ≡ top - b = omega arith in
    rw z (slice_all is_zero w segments b (top - b) (omega arith) ∙ rw (g, e))

-- the words of a cell behind its next word
pub free_all : {w : List ℕ} {h : Header} → Sized w h → (faults : Bool) (i : ℕ) {start width : ℕ} → start ≡ cond faults h.behind h.base → width ≡ width_of (shape_in h) faults
    → 0 < width → start + width * (i - 1) + width ≤ length w
    → list_all is_zero (words_in w (start + width * (i - 1) + 1) (start + width * (i - 1) + width)) ≡ free_fits (shape_in h) w faults i
unfolding free_fits cell_word card_word fault_word cell_at width_of
free_all {w} s true i {start} {width} p z k l =
    let e : start + width * (i - 1) + width - (start + width * (i - 1) + 1) ≡ width - 1 = omega arith in
    rw e (slice_all is_zero w (start + width * (i - 1)) 1 (width - 1) (omega arith) ∙ rw (z, p, s.behind))
free_all {w} s false i {start} {width} p z k l =
    let e : start + width * (i - 1) + width - (start + width * (i - 1) + 1) ≡ width - 1 = omega arith in
    rw e (slice_all is_zero w (start + width * (i - 1)) 1 (width - 1) (omega arith) ∙ rw (z, p, s.base))
