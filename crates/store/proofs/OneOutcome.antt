-- The contract of each call admits one outcome only: all that it speaks of is fixed by equations, so two programs that meet it give the same
-- numbers and leave the same words, room and scratch.
use mathlib.Core.Path.{◌≡◌, sym, ◌∙◌}
use mathlib.Core.List.{List}
use Prim.Native.Nat.{ℕ}
use Rattle.model.specs.Calls.{Opened}
use Rattle.model.specs.Runs.{Act, Call.acting}
use Rattle.store.specs.Leaves.{Opens}
use Rattle.store.specs.Sequences.{Given, Meets}

-- Enter, File, Show and Withdraw
pub one_outcome : (w scratch : List ℕ) (act : Act) (a b : Given) → Meets w (acting scratch act) a → Meets w (acting scratch act) b → a ≡ b
one_outcome w scratch act a b p q = λ i.
    record {
      answer = record {
        number = (p.answer.number_is ∙ sym q.answer.number_is) i;
        comparisons = (p.answer.comparisons_are ∙ sym q.answer.comparisons_are) i;
        scanned = (p.answer.scanned_is ∙ sym q.answer.scanned_is) i;
        faults = (p.answer.faults_are ∙ sym q.answer.faults_are) i;
      };
      words = (p.words_are ∙ sym q.words_are) i;
      room = (p.room_is ∙ sym q.room_is) i;
      scratch = (p.scratch_is ∙ sym q.scratch_is) i;
    }

-- Open
pub one_opening : (o : Opened) {m n : ℕ} {v w : List ℕ} → Opens o m v → Opens o n w → (m ≡ n) × (v ≡ w)
one_opening o p q = (p.number_is ∙ sym q.number_is, p.words_are ∙ sym q.words_are)
