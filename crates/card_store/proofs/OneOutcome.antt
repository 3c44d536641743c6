-- One outcome only, gathered for every export: two programs that meet its contract give the same and leave the same, on every input.
-- Each contract is a set of equations with the definitions, so two that meet it are equal to one thing.
use mathlib.Core.Path.{◌≡◌, sym, ◌∙◌}
use mathlib.Core.Bool.{Bool}
use mathlib.Core.List.{List}
use Prim.Native.Nat.{ℕ}
use Rattle.rules.specs.Code.{code_of}
use Rattle.rules.specs.Table.{address_of}
use Rattle.model.specs.Shape.{need}
use Rattle.model.specs.Layout.{shape_of, sound}
use Rattle.model.specs.Calls.{Terms, cleaned, open_call}
use Rattle.model.specs.Runs.{Act, Call.acting}
use Rattle.model.specs.Job.{padded}
use Rattle.model.specs.Report.{report_call}
use Rattle.store.specs.Leaves.{Opens, Admits}
use Rattle.store.specs.Sequences.{Given, Meets}
use Rattle.store.specs.declared.answer.Wrote.{Wrote}
use Rattle.store.proofs.OneOutcome as Store
use Rattle.job.specs.Sequences.{Left, Works}
use Rattle.job.specs.declared.tally.Tally.{Tally}
use Rattle.job.proofs.OneOutcome as Job
use Rattle.report.specs.Reports.{Reports}
use Rattle.report.proofs.OneOutcome as Report

-- `reader_code` and `reader_address`
pub one_code : (bytes : List ℕ) (a b : ℕ) → a ≡ code_of bytes → b ≡ code_of bytes → a ≡ b
one_code bytes a b p q = p ∙ sym q

pub one_address : (code maxp p a b : ℕ) → a ≡ address_of code maxp p → b ≡ address_of code maxp p → a ≡ b
one_address code maxp p a b e f = e ∙ sym f

-- `reader_pad`
pub one_padding : (label a b : List ℕ) → a ≡ padded label → b ≡ padded label → a ≡ b
one_padding label a b p q = p ∙ sym q

-- `reader_open`
pub one_opening : (w : List ℕ) (t : Terms) (m n : ℕ) (u v : List ℕ) → Opens (open_call w t) m u → Opens (open_call w t) n v → (m ≡ n) × (u ≡ v)
one_opening w t m n u v p q = Store.one_opening (open_call w t) p q

-- `reader_check`, with which each of the four calls begins, and `check`, which asks for the scratch and answers yes or no
pub one_admission : (w scratch : List ℕ) (m n : ℕ) (a b : List ℕ) → Admits w scratch m a → Admits w scratch n b → (m ≡ n) × (a ≡ b)
one_admission w scratch m n a b p q = (p.number_is ∙ sym q.number_is, p.scratch_is ∙ sym q.scratch_is)

pub one_verdict : (w scratch : List ℕ) (m n : Bool) (a b : List ℕ) → (m ≡ sound w) × (a ≡ cleaned (need (shape_of w)) scratch) → (n ≡ sound w) × (b ≡ cleaned (need (shape_of w)) scratch) → (m ≡ n) × (a ≡ b)
one_verdict w scratch m n a b p q = (p.0 ∙ sym q.0, p.1 ∙ sym q.1)

-- `reader_enter`, `reader_file`, `reader_show` and `reader_withdraw`
pub one_call : (w scratch : List ℕ) (act : Act) (a b : Given) → Meets w (acting scratch act) a → Meets w (acting scratch act) b → a ≡ b
one_call = Store.one_outcome

-- `reader_job`
pub one_job : (w scratch text out : List ℕ) (t : Tally) (a b : Left) → Works w scratch text out t a → Works w scratch text out t b → a ≡ b
one_job = Job.one_outcome

-- `reader_report`
pub one_report : (run lengths scratch out : List ℕ) (a b : Wrote) (o o' s s' : List ℕ) → Reports (report_call run lengths scratch out) a o s → Reports (report_call run lengths scratch out) b o' s' → (a ≡ b) × (o ≡ o') × (s ≡ s')
one_report run lengths scratch out = Report.one_report (report_call run lengths scratch out)
