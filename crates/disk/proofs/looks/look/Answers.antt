-- `disk::looks::look` meets its contract: what the file tells is written.
use mathlib.Core.Path.{◌≡◌, refl, ap, ◌∙◌}
use Rattle.std.specs.Option.{is_some}
use Rattle.std.specs.Prelude.{Option, Some, None}
use Rattle.disk.specs.declared.looks.Seen as Given
use Rattle.disk.specs.Check.{Seen, seen_in, check_text, number_for}
use native.Mathlib.Omega.{arith}
use Rattle.disk.proofs.Served.{puts_front}
use Rattle.disk.proofs.Telling.{told_most}
use Rattle.disk.proofs.looks.look.Goals as goal

number_is : (seen : Option Given.Seen) → number_for (is_some seen) ≡ (seen_in seen).number
number_is (Some s) = refl
number_is None = refl

pub returns : goal.returns
returns c =
    let e = c.see-seen.ensures in
    let t = seen_in c.see-seen.result in
    record { number_is = ap number_for c.is_some.ensures ∙ number_is c.see-seen.result ∙ ap (λ (s : Seen). s.number) e; text_is = rw (← e) (puts_front (check_text t) (omega (arith, c.requires, told_most t)) c.write_seen.ensures) }
