-- `writes::put` meets its contract: the part ends within the words, and cell i stands whole in it.
use native.Mathlib.Omega.{arith}
use Rattle.writer.proofs.WriteLaws.{part_end, word_lent}
use Rattle.writer.proofs.writes.put.Goals as goal

pub overflow_mul-end : goal.overflow_mul-end
overflow_mul-end g c =
    omega (arith, part_end c.requires.0 _ c.start-start.ensures c.width-width.ensures c.limit.ensures, c.requires.0.room)

pub overflow_add-end : goal.overflow_add-end
overflow_add-end g c =
    omega (arith, part_end c.requires.0 _ c.start-start.ensures c.width-width.ensures c.limit.ensures, c.requires.0.room)

pub slice_bounds-set_word-end : goal.slice_bounds-set_word-end
slice_bounds-set_word-end g c = part_end c.requires.0 _ c.start-start.ensures c.width-width.ensures c.limit.ensures

pub returns : goal.returns
returns g c =
    let p = c.requires in
    word_lent p.0 _ c.start-start.ensures c.width-width.ensures c.limit.ensures _ _ p.1 p.2 _ _ p.3 c.set_word.ensures
