-- `disk::opens::fresh` meets its contract: the file is made for the arguments, and its number is written.
use Rattle.disk.specs.Desk.{terms_from, number_line, fresh_for, desk_new, made_number, made_len, Files}
use native.Mathlib.Omega.{arith}
use Rattle.disk.proofs.Making.{fresh_said}
use Rattle.disk.proofs.Served.{puts_front}
use Rattle.disk.proofs.Telling.{line_most}
use Rattle.disk.proofs.opens.fresh.Goals as goal

pub returns : goal.returns
unfolding desk_new
returns c =
    let s = c.args in
    let t = terms_from s.fields.cards.now s.fields.faults.now s.fields.upper.now s.fields.lower.now in
    let r = c.fresh_for-made in
    let m : Files (fresh_for t) s.file.now (made_number r.result) (made_len r.result) r.new.file = rw c.into.ensures at r.ensures in
    let n = made_number r.result in
    let puts = rw c.number_of.ensures at c.write_line.ensures in
    record { made = m; text_is = rw (fresh_said t, ← m.number_is) (puts_front (number_line n) (omega (arith, c.requires, line_most n)) puts) }
