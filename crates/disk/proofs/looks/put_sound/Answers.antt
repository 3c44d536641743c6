-- `disk::looks::put_sound` meets its contract: the lines, one behind another.
use Rattle.std.proofs.Common.{ℕ, List, [], ◌∷◌, ◌++◌}
use Rattle.text.proofs.Sinking.{room_first, room_then, takes_then}
use Rattle.disk.specs.Desk.{number_line}
use Rattle.disk.specs.Check.{Seen, cards_word, faults_word, buckets_word, bounds_word, of_word, sound_line, pair_line, sound_text, told_in}
use Rattle.disk.proofs.looks.put_sound.Goals as goal

-- the lines behind the first, and from each of them on
abbrev cards : Seen → List ℕ
cards x = pair_line cards_word x.held of_word x.limit

abbrev faults : Seen → List ℕ
faults x = pair_line faults_word x.faults of_word x.fault_limit

abbrev buckets : Seen → List ℕ
buckets x = buckets_word ++ number_line x.buckets

abbrev bounds : Seen → List ℕ
bounds x = pair_line bounds_word x.upper (32 ∷ []) x.lower

abbrev from_buckets : Seen → List ℕ
from_buckets x = buckets x ++ bounds x

abbrev from_faults : Seen → List ℕ
from_faults x = faults x ++ from_buckets x

abbrev from_cards : Seen → List ℕ
from_cards x = cards x ++ from_faults x

pub put_text-requires : goal.put_text-requires
unfolding sound_text
put_text-requires g c = let x = told_in c.args.s in room_first sound_line (from_cards x) c.requires

pub put_pair-requires : goal.put_pair-requires
unfolding sound_text
put_pair-requires g c =
    let x = told_in c.args.s in
    room_first (cards x) (from_faults x) (room_then g.met.S.Sink.laws sound_line (from_cards x) c.put_text.ensures c.requires)

pub put_pair-requires-2 : goal.put_pair-requires-2
unfolding sound_text
put_pair-requires-2 g c =
    let x = told_in c.args.s in
    room_first (faults x) (from_buckets x)
    (room_then g.met.S.Sink.laws (cards x) (from_faults x) c.put_pair.ensures (room_then g.met.S.Sink.laws sound_line (from_cards x) c.put_text.ensures c.requires))

pub put_text-requires-2 : goal.put_text-requires-2
unfolding sound_text
put_text-requires-2 g c =
    let x = told_in c.args.s in
    room_first buckets_word (number_line x.buckets) (room_first (buckets x) (bounds x)
    (room_then g.met.S.Sink.laws (faults x) (from_buckets x) c.put_pair-2.ensures
    (room_then g.met.S.Sink.laws (cards x) (from_faults x) c.put_pair.ensures (room_then g.met.S.Sink.laws sound_line (from_cards x) c.put_text.ensures c.requires))))

pub put_line-requires : goal.put_line-requires
unfolding sound_text
put_line-requires g c =
    let x = told_in c.args.s in
    room_then g.met.S.Sink.laws buckets_word (number_line x.buckets) c.put_text-2.ensures (room_first (buckets x) (bounds x)
    (room_then g.met.S.Sink.laws (faults x) (from_buckets x) c.put_pair-2.ensures
    (room_then g.met.S.Sink.laws (cards x) (from_faults x) c.put_pair.ensures (room_then g.met.S.Sink.laws sound_line (from_cards x) c.put_text.ensures c.requires))))

pub put_pair-requires-3 : goal.put_pair-requires-3
unfolding sound_text
put_pair-requires-3 g c =
    let x = told_in c.args.s in
    room_then g.met.S.Sink.laws (buckets x) (bounds x) (takes_then g.met.S.Sink.laws buckets_word (number_line x.buckets) c.put_text-2.ensures c.put_line.ensures)
    (room_then g.met.S.Sink.laws (faults x) (from_buckets x) c.put_pair-2.ensures
    (room_then g.met.S.Sink.laws (cards x) (from_faults x) c.put_pair.ensures (room_then g.met.S.Sink.laws sound_line (from_cards x) c.put_text.ensures c.requires)))

pub returns : goal.returns
unfolding sound_text
returns g c =
    let x = told_in c.args.s in
    takes_then g.met.S.Sink.laws sound_line (from_cards x) c.put_text.ensures (takes_then g.met.S.Sink.laws (cards x) (from_faults x) c.put_pair.ensures (takes_then g.met.S.Sink.laws (faults x) (from_buckets x) c.put_pair-2.ensures
    (takes_then g.met.S.Sink.laws (buckets x) (bounds x) (takes_then g.met.S.Sink.laws buckets_word (number_line x.buckets) c.put_text-2.ensures c.put_line.ensures) c.put_pair-3.ensures)))
