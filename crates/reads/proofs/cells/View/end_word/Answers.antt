-- `View::end_word` meets its contract: the cells of the words from there on lie as the card cells do, so the place of a cell is that of the word.
use native.Mathlib.Omega.{arith}
use borrow.Author.Rules.{rules}
use Prim.Native.Nat.{◌<◌, ◌+◌, ◌*◌, ◌-◌}
use lib.ListN.{length}
use Rattle.model.specs.Layout.{to_serial}
use Rattle.reads.proofs.CellLaws.{card_in, end_is}
use Rattle.reads.proofs.cells.View.end_word.Goals.{Start}
use Rattle.reads.proofs.cells.View.end_word.Goals as goal

-- the word is there, and a cell has it
has : (c : Start) → c.args.last + to_serial < c.args.self.now.header.width
has c = omega (arith, c.args.self.now.sized.room)

inside : (c : Start) → c.args.self.now.header.base + c.args.self.now.header.width * (c.args.i - 1) + (c.args.last + to_serial) < length c.args.self.now.words.now
inside c = card_in c.args.self.now.sized _ _ c.requires.0 c.requires.1 (has c)

pub slice_bounds-ends-count : goal.slice_bounds-ends-count
slice_bounds-ends-count c = omega (arith, inside (goal.at.slice_bounds-ends-count c).Start)

pub slice_bounds-ends-start : goal.slice_bounds-ends-start
slice_bounds-ends-start c = let z = inside (goal.at.slice_bounds-ends-start c).Start in search rules

pub overflow_mul-result : goal.overflow_mul-result
overflow_mul-result c = omega (arith, inside (goal.at.overflow_mul-result c).Start, c.args.self.now.sized.room)

pub offset_bounds-ends-self : goal.offset_bounds-ends-self
offset_bounds-ends-self c = omega (arith, inside (goal.at.offset_bounds-ends-self c).Start, c.args.self.now.sized.room)

pub bounds-ends-self : goal.bounds-ends-self
bounds-ends-self c = omega (arith, inside (goal.at.bounds-ends-self c).Start)

pub returns : goal.returns
returns c = end_is c.args.self.now.sized _ _ c.requires.0 c.requires.1 (has (goal.at.returns c).Start)
