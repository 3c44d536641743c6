-- A job on a file: what is read, worked, compared and written gives what is stated (`serves_in`), and a file of a length that no store has stays
-- (`serves_none`).
use Prim.Native.Nat.{ℕ, ◌+◌, ◌≤◌}
use mathlib.Core.Path.{◌≡◌, refl, ap, ◌∙◌}
use mathlib.Core.Bool.{Bool, true, false, not}
use mathlib.Core.List.{List, []}
use native.Mathlib.Omega.{arith}
use lib.ListN.{length}
use lib.Seq.{sets-eq}
use Rattle.model.specs.Lists.{same}
use Rattle.text.specs.Decimals.{Puts}
use Rattle.reader.specs.Depot.{job_on, Writes, Answers}
use Rattle.disk.specs.Bytes.{words_of, file_of, WrittenAs}
use Rattle.disk.specs.Desk.{sized, after, untouched, desk_job, Serves}

-- a text put at the front
pub puts_front : {out left : List ℕ} {r : ℕ} (text : List ℕ) → length text ≤ length out → Puts out 0 text r left → Writes text out r left
puts_front {out} {left} {r} text h p =
    let z : 0 + length text ≡ length text = omega arith in
    record { out_is = p.out_is ∙ sets-eq text out 0 (omega arith) ∙ rw z; len_is = p.end_is ∙ z }

module _ (file text out : List ℕ) where
  pub serves_in : {w w' file' out' : List ℕ} {number len : ℕ} {save : Bool} → w ≡ words_of file → Answers (job_on w text) out number len w' out'
      → save ≡ not (same w' (words_of file)) → WrittenAs w' file' → Serves (after (words_of file) (job_on (words_of file) text)) out number len save file' out'
  unfolding after
  serves_in {w} {w'} {file'} {out'} {number} {len} {save} r e d f =
      let e' : Answers (job_on (words_of file) text) out number len w' out' = rw r at e in
      record {
        number_is = e'.number_is;
        save_is = d ∙ ap (λ (x : List ℕ). not (same x (words_of file))) e'.words_are;
        file_is = f.are ∙ ap file_of e'.words_are;
        back_are = f.back ∙ e'.words_are;
        text_is = e'.text_is;
      }

  pub serves_none : {w w' out' : List ℕ} {number len : ℕ} → w ≡ [] → sized (length file) ≡ false → Answers (job_on w text) out number len w' out'
      → Serves (desk_job file text) out number len false file out'
  unfolding desk_job untouched
  serves_none {w} {w'} {out'} {number} {len} n s e =
      let e' : Answers (job_on [] text) out number len w' out' = rw n at e in
      rw s (record { number_is = e'.number_is; save_is = refl; file_is = refl; back_are = refl; text_is = e'.text_is })

  pub serves_some : {number len : ℕ} {save : Bool} {file' out' : List ℕ} → sized (length file) ≡ true
      → Serves (after (words_of file) (job_on (words_of file) text)) out number len save file' out' → Serves (desk_job file text) out number len save file' out'
  unfolding desk_job
  serves_some s e = rw s e
