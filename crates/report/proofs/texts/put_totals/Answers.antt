-- `report::texts::put_totals` meets its contract: three texts, one behind another.
use Rattle.std.proofs.Common.{[], ◌∷◌, ◌++◌}
use Rattle.model.specs.Report.{numbers_line, rate_line, total_lines}
use Rattle.text.proofs.Sinking.{room_first, room_then, takes_then}
use Rattle.report.proofs.texts.put_totals.Goals as goal

pub put_line-requires : goal.put_line-requires
unfolding total_lines
put_line-requires g c =
    let t = c.args.t in
    room_first (numbers_line (t.cards ∷ [])) (numbers_line (t.entries ∷ []) ++ rate_line t.cards t.entries) c.requires

pub put_line-requires-2 : goal.put_line-requires-2
unfolding total_lines
put_line-requires-2 g c =
    let t = c.args.t in
    room_first (numbers_line (t.entries ∷ [])) (rate_line t.cards t.entries)
    (room_then g.met.S.Sink.laws (numbers_line (t.cards ∷ [])) (numbers_line (t.entries ∷ []) ++ rate_line t.cards t.entries) c.put_line.ensures c.requires)

pub put_rate-requires : goal.put_rate-requires
unfolding total_lines
put_rate-requires g c =
    let t = c.args.t in
    room_then g.met.S.Sink.laws (numbers_line (t.entries ∷ [])) (rate_line t.cards t.entries) c.put_line-2.ensures
    (room_then g.met.S.Sink.laws (numbers_line (t.cards ∷ [])) (numbers_line (t.entries ∷ []) ++ rate_line t.cards t.entries) c.put_line.ensures c.requires)

pub returns : goal.returns
unfolding total_lines
returns g c =
    let t = c.args.t in
    takes_then g.met.S.Sink.laws (numbers_line (t.cards ∷ [])) (numbers_line (t.entries ∷ []) ++ rate_line t.cards t.entries) c.put_line.ensures
    (takes_then g.met.S.Sink.laws (numbers_line (t.entries ∷ [])) (rate_line t.cards t.entries) c.put_line-2.ensures c.put_rate.ensures)
