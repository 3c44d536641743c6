-- `layout::bounds_word` meets its contract: none in format 1, else U and L, which fit a word since U is at most 10.
use native.Mathlib.Omega.{arith}
use Rattle.model.proofs.Shapes.{shaped}
use Rattle.reads.proofs.layout.bounds_word.Goals as goal

pub overflow_mul-result : goal.overflow_mul-result
overflow_mul-result c = let m = (shaped _ c.requires).bounds in omega (arith, m.ten, m.half)

pub overflow_add-result : goal.overflow_add-result
overflow_add-result c = let m = (shaped _ c.requires).bounds in omega (arith, m.ten, m.half)
