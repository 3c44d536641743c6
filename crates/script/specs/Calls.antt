-- The call that a `Call` asks the store for. Assumes nothing.
use Rattle.std.specs.Prelude.{ℕ, List, []}
use Rattle.model.specs.Runs.{Act}
use Rattle.script.specs.declared.calls.Call.{Call}
use Rattle.script.specs.declared.calls.Kind.{Kind}
use Rattle.script.specs.declared.calls.Kind.TheVariants.{Enter, File, Show, Withdraw}

abbrev act_by : Kind → Call → List ℕ → Act
act_by Enter c room = Act.enter c.serial.bytes c.serial.len
act_by File c room = Act.file c.serial.bytes c.serial.len c.day c.code
act_by Show c room = Act.show c.serial.bytes c.serial.len room
act_by Withdraw c room = Act.withdraw c.serial.bytes c.serial.len room

-- the call, with the room that it is lent
abbrev pub act_of : Call → List ℕ → Act
act_of c room = act_by c.kind c room

-- what the call is lent of a room: Enter and File have none
abbrev pub room_for : Kind → List ℕ → List ℕ
room_for Enter room = []
room_for File room = []
room_for Show room = room
room_for Withdraw room = room
