-- Texts written one behind another: `Left` is what a loop keeps of the text that it still has to write, and
-- `put_front` and `put_rest` say what an output has then before and behind its end.
-- Assumes nothing.
use Prim.Native.Nat.{ℕ, suc, ◌+◌, ◌≤◌}
use mathlib.Core.Path.{◌≡◌, refl, sym, ap, ◌∙◌}
use mathlib.Core.List.{List, [], ◌∷◌, ◌++◌}
use native.Mathlib.Omega.{arith}
use lib.ListN.{length, set, take, drop, length-append}
use lib.Seq.{sets, length-sets, sets-eq, set_comm, length-take-le, take_at, drop_at, drop-drop}
use Rattle.text.specs.Decimals.{Puts}
use Rattle.text.specs.Writing.{sets_append}

-- a store behind the run can come first or last
sets_past : (vs l : List ℕ) (i j v : ℕ) → i + length vs ≤ j → sets (set l j v) i vs ≡ set (sets l i vs) j v
sets_past [] l i j v h = refl
sets_past (x ∷ vs) l i j v h =
    let n : j ≡ i → ⊥ = λ e. omega arith in
    ap (λ (m : List ℕ). sets m (suc i) vs) (set_comm l j i v x n) ∙ sets_past vs (set l i x) (suc i) j v (omega arith)

-- the last byte of a text is written first
pub sets_last : (vs l : List ℕ) (i j v : ℕ) → j ≡ i + length vs → sets (set l j v) i vs ≡ sets l i (vs ++ (v ∷ []))
sets_last vs l i j v e =
    sets_past vs l i j v (omega arith) ∙ ap (λ (k : ℕ). set (sets l i vs) k v) e ∙ sym (sets_append vs (v ∷ []) l i)

-- the output keeps its length
pub puts_length : {out left : List ℕ} {at end : ℕ} (text : List ℕ) → Puts out at text end left → length left ≡ length out
puts_length {out} {left} {at} text p = ap length p.out_is ∙ length-sets out at text

-- room for both is room for the first, and, once it is written, for the second
pub room_first : (at : ℕ) {n : ℕ} (a b : List ℕ) → at + length (a ++ b) ≤ n → at + length a ≤ n
room_first at a b h = omega (arith, length-append a b)

pub room_then : {out mid : List ℕ} {at here : ℕ} (a b : List ℕ) → Puts out at a here mid → at + length (a ++ b) ≤ length out → here + length b ≤ length mid
room_then a b p h = omega (arith, length-append a b, puts_length a p)

-- the text that is left to write at `end` makes, of what is written so far, the whole text at `at`
pub record Left (out : List ℕ) (at : ℕ) (whole : List ℕ) (now : List ℕ) (end : ℕ) (text : List ℕ) : Type 0 where
  pub same : sets now end text ≡ sets out at whole
  pub ends : end + length text ≡ at + length whole
  pub long : length now ≡ length out

pub left_all : {out : List ℕ} {at : ℕ} {text : List ℕ} → Left out at text out at text
left_all = record { same = refl; ends = refl; long = refl }

pub left_less : {out whole now new : List ℕ} {at end next : ℕ} (a b : List ℕ) → Left out at whole now end (a ++ b) → Puts now end a next new → Left out at whole new next b
left_less {out} {whole} {now} {new} {at} {end} {next} a b l p =
    record { same = rw (p.out_is, p.end_is, ← (sets_append a b now end)) l.same; ends = omega (arith, length-append a b); long = puts_length a p ∙ l.long }

pub left_room : {out whole now : List ℕ} {at end : ℕ} (text : List ℕ) → Left out at whole now end text → at + length whole ≤ length out → end + length text ≤ length now
left_room text l h = omega arith

pub left_none : {out whole now : List ℕ} {at end : ℕ} → Left out at whole now end [] → Puts out at whole end now
left_none {out} {whole} {now} {at} {end} l = record { out_is = l.same; end_is = omega arith }

-- a text at the front of the output with an answer behind it
pub put_front : (out answer : List ℕ) (at : ℕ) → at + length answer ≤ length out → take (at + length answer) (sets out at answer) ≡ take at out ++ answer
put_front out answer at h =
    let e : length (take at out ++ answer) ≡ at + length answer = length-append (take at out) answer ∙ ap (λ (n : ℕ). n + length answer) (length-take-le at out (omega arith)) in
    rw (sets-eq answer out at h) (take_at (take at out ++ answer) _ (at + length answer) e)

-- and what stands behind both
pub put_rest : (out out₀ answer : List ℕ) (at : ℕ) → at + length answer ≤ length out → drop at out ≡ drop at out₀
    → drop (at + length answer) (sets out at answer) ≡ drop (at + length answer) out₀
put_rest out out₀ answer at h e =
    let n = at + length answer in
    let l : length (take at out ++ answer) ≡ n = length-append (take at out) answer ∙ ap (λ (k : ℕ). k + length answer) (length-take-le at out (omega arith)) in
    rw (sets-eq answer out at h) (drop_at (take at out ++ answer) (drop n out) n l)
    ∙ sym (drop-drop (length answer) at out) ∙ ap (drop (length answer)) e ∙ drop-drop (length answer) at out₀
