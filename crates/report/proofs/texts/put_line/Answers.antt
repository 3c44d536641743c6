-- `report::texts::put_line` meets its contract: the first number, the others with a space before each, and LF.
use Rattle.std.proofs.Common.{◌≡◌, ℕ, suc, ◌<◌, ◌≤◌, List, [], ◌∷◌, ◌++◌, length, drop, get_or, arith, ap, ◌∙◌, append_assoc, drop-cons, drop_of_length-le, add-one}
use Rattle.model.specs.Text.{lf, space, decimal}
use Rattle.text.specs.Decimals.{marked}
use Rattle.text.proofs.Sinking.{room_first, room_then, takes_then, left_less, left_room, left_none}
use Rattle.report.proofs.TextLaws.{marks, line_parts}
use Rattle.report.proofs.texts.put_line.Goals as goal

-- what is left before a turn
turn : (ns : List ℕ) (i : ℕ) → i < length ns → marks (drop i ns) ++ (lf ∷ []) ≡ marked space (get_or ns i 0) ++ (marks (drop (suc i) ns) ++ (lf ∷ []))
unfolding marks
turn ns i h =
    ap (λ (l : List ℕ). marks l ++ (lf ∷ [])) (drop-cons ns i 0 h) ∙ append_assoc (marked space (get_or ns i 0)) (marks (drop (suc i) ns)) (lf ∷ [])

pub put_decimal-requires : goal.put_decimal-requires
put_decimal-requires g c =
    let t = c.args in
    room_first (decimal t.first) (marks t.others.now ++ (lf ∷ [])) (rw (line_parts t.first t.others.now) at c.requires)

pub put_marked-requires : goal.put_marked-requires
put_marked-requires g c =
    let ns = c.args.others.now in
    let i = c.loop-number.number-index in
    room_first (marked space (get_or ns i 0)) (marks (drop (suc i) ns) ++ (lf ∷ []))
    (left_room g.met.S.Sink.laws (marked space (get_or ns i 0) ++ (marks (drop (suc i) ns) ++ (lf ∷ []))) (rw (turn ns i c.loop-number-test.true) at c.loop-number.invariant)
    (room_then g.met.S.Sink.laws (decimal c.args.first) (marks ns ++ (lf ∷ [])) c.put_decimal.ensures (rw (line_parts c.args.first ns) at c.requires)))

pub loop-number-preserved : goal.loop-number-preserved
loop-number-preserved g c =
    let ns = c.args.others.now in
    let i = c.loop-number.number-index in
    rw (add-one i)
    (left_less g.met.S.Sink.laws (marked space (get_or ns i 0)) (marks (drop (suc i) ns) ++ (lf ∷ [])) (rw (turn ns i c.loop-number-test.true) at c.loop-number.invariant) c.put_marked.ensures)

-- LF alone is left behind the others
last : (ns : List ℕ) (i : ℕ) → length ns ≤ i → marks (drop i ns) ++ (lf ∷ []) ≡ (lf ∷ []) ++ []
unfolding marks
last ns i h = ap (λ (l : List ℕ). marks l ++ (lf ∷ [])) (drop_of_length-le ns h)

pub put_byte-requires : goal.put_byte-requires
put_byte-requires g c =
    let ns = c.args.others.now in
    let i = c.loop-number.number-index in
    omega (
      arith,
      left_room g.met.S.Sink.laws ((lf ∷ []) ++ []) (rw (last ns i c.loop-number-test.false) at c.loop-number.invariant)
          (room_then g.met.S.Sink.laws (decimal c.args.first) (marks ns ++ (lf ∷ [])) c.put_decimal.ensures (rw (line_parts c.args.first ns) at c.requires)),
    )

pub returns : goal.returns
returns g c =
    let ns = c.args.others.now in
    let i = c.loop-number.number-index in
    rw (line_parts c.args.first ns)
    (takes_then g.met.S.Sink.laws (decimal c.args.first) (marks ns ++ (lf ∷ [])) c.put_decimal.ensures
    (left_none g.met.S.Sink.laws (left_less g.met.S.Sink.laws (lf ∷ []) [] (rw (last ns i c.loop-number-test.false) at c.loop-number.invariant) c.put_byte.ensures)))
