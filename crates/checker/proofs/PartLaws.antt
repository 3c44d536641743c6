-- The walks of a part of the checker. Cards have the numbers from 0 on and faults those behind them, and within the limits both have
-- their bits in the bytes that are asked for (`part_marks`); so a part changes no byte behind those and no mark of the other part
-- (`kept_part`).
use mathlib.Core.Path.{◌≡◌}
use mathlib.Core.Bool.{Bool, true, false, cond}
use mathlib.Core.List.{List, map}
use Prim.Native.Nat.{ℕ, ◌+◌, ◌*◌, ◌≤◌}
use native.Mathlib.Omega.{arith}
use lib.ListN.{length, get_or}
use Rattle.rules.proofs.Tests.{by_cases}
use Rattle.model.specs.Shape.{Shape, need}
use Rattle.model.specs.Lists.{from}
use Rattle.model.specs.Layout.{free_at, free_faults_at, shape_ok}
use Rattle.model.proofs.Shapes.{shaped}
use Rattle.checker.specs.declared.fits.Chain.TheVariants.{Free}
use Rattle.reads.specs.Cells.{limit_of}
use Rattle.checker.specs.Fits.{cell_fits}
use Rattle.checker.specs.Checker.{start_of, next_in, base_of, chain_count, chains_of, free_of, part_of}
use Rattle.checker.proofs.WalkLaws.{Kept, kept_both, kept_walk, kept_walks}

pub part_marks : (sh : Shape) (faults : Bool) → shape_ok sh ≡ true → base_of sh faults + limit_of sh faults ≤ 8 * need sh
unfolding base_of limit_of
part_marks sh true h = omega (arith, (shaped sh h).marks)
part_marks sh false h = omega (arith, (shaped sh h).marks)

module _ (sh : Shape) (w : List ℕ) (faults : Bool) (bytes : List ℕ) (marks : base_of sh faults + limit_of sh faults ≤ 8 * need sh) (scratch : need sh ≤ length bytes) where
  pub kept_free : Kept (need sh) (base_of sh faults) (limit_of sh faults) bytes (free_of sh w faults bytes).bytes
  unfolding free_of
  kept_free = kept_walk (need sh) (base_of sh faults) (limit_of sh faults) marks (cell_fits sh w faults Free) (next_in sh w faults) bytes (get_or w (cond faults free_faults_at free_at) 0) scratch

  pub kept_chains : (n : ℕ) → Kept (need sh) (base_of sh faults) (limit_of sh faults) bytes (chains_of sh w faults n bytes).bytes
  unfolding chains_of
  kept_chains n = kept_walks (next_in sh w faults) (base_of sh faults) (limit_of sh faults) (need sh) marks (map (start_of sh w faults) (from 0 n)) bytes 0 scratch

pub kept_part : (sh : Shape) (w : List ℕ) (faults : Bool) (bytes : List ℕ) → base_of sh faults + limit_of sh faults ≤ 8 * need sh → need sh ≤ length bytes
    → Kept (need sh) (base_of sh faults) (limit_of sh faults) bytes (part_of sh w faults bytes).bytes
unfolding part_of
kept_part sh w faults bytes marks scratch =
    let free = free_of sh w faults bytes in
    let k = kept_free sh w faults bytes marks scratch in
    by_cases free.ok
    (λ e. rw e (kept_both (need sh) (base_of sh faults) (limit_of sh faults) bytes free.bytes _ k (kept_chains sh w faults free.bytes marks (omega arith) (chain_count sh w faults))))
    (λ e. rw e k)
