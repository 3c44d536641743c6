-- A line that is refused by what its plan says, and what a `?` on its parts tells. Assumes nothing.
use Rattle.std.proofs.Common.{◌≡◌, ℕ, List, Some, None, Result, Ok, Err, refl, arith}
use Rattle.std.specs.Result.{IsErrAnd}
use Rattle.model.specs.Layout.{decode}
use Rattle.model.specs.Job.{Line, bad, enter, show, withdraw, file, line_of, step_of}
use Rattle.store.specs.Leaves.{refused_answer}
use Rattle.store.specs.Plans.{Refuses}
use Rattle.store.specs.declared.answer.Answer.{Answer}
use Rattle.job.specs.Told.{Told, request_in}
use Rattle.job.specs.Turns.{PlansLine}
use Rattle.job.specs.declared.turn.Ahead.{Ahead}

-- an error that a call gave is the one that it was given
pub same_err : {A E : Type 0} (r : Result A E) (x e : E) → r ≡ Err x → r ≡ Err e → x ≡ e
same_err r x e h k = cc

-- what is refused
pub refuses_line : (w x : List ℕ) (r : Result Ahead Answer) (a : Answer) → IsErrAnd r (λ b. b ≡ a) → Refuses (step_of (decode w) (line_of x)).answer a → PlansLine w x r
refuses_line w x (Ok b) a e p = absurd e
refuses_line w x (Err b) a e p = rw e p

no_some : {A : Type 0} (x : A) → None ≡ Some x → ⊥
no_some x e = cc

-- a line that tells nothing is 12
told_nothing : (l : Line) → Told l None → l ≡ bad
unfolding request_in
told_nothing bad t = refl
told_nothing (enter f) t = absurd (no_some _ t)
told_nothing (show f) t = absurd (no_some _ t)
told_nothing (withdraw f) t = absurd (no_some _ t)
told_nothing (file f day code) t = absurd (no_some _ t)

pub refuses_bad : (w x : List ℕ) → Told (line_of x) None → Refuses (step_of (decode w) (line_of x)).answer (refused_answer 12)
unfolding step_of
refuses_bad w x t = rw (told_nothing (line_of x) t) (record { answer = record { number_is = refl; comparisons_are = refl; scanned_is = refl; faults_are = refl }; refused = λ z. absurd (omega arith) })
