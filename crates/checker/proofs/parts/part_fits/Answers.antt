-- `parts::part_fits` meets its contract: the walk of the free chain is `free_of`, the walks of the others are `chains_of`, and the answer is
-- the `and` of the tests that `part_of` names.
use mathlib.Core.Path.{refl, sym, ◌∙◌}
use mathlib.Core.Bool.{false}
use native.Mathlib.Omega.{arith}
use borrow.Author.Tests.{eq-eqb, ne_eqb}
use Rattle.reads.proofs.Rows.{and_rest, and_fails}
use Rattle.checker.proofs.PartRuns.{chains_reach, did_free, did_chains, part_stops, part_runs}
use Rattle.checker.proofs.parts.part_fits.Goals as goal

pub returns-in_default : goal.returns-in_default
returns-in_default g c = part_stops _ _ _ _ (did_free c.requires.0 _ _ c.free_word-first.ensures c.in_default.ensures) refl

pub walk_all-requires : goal.walk_all-requires
walk_all-requires g c =
    let p = c.requires in
    (record { read = p.0; scratch = omega (arith, p.2, c.walk.auto.scratch) }, omega (arith, chains_reach p.0 g.P.Part.faults p.1, c.chain_count.ensures))

pub returns-in_default-walk_all : goal.returns-in_default-walk_all
returns-in_default-walk_all g c =
    let r = c.requires.0 in
    part_runs _ _ _ _ (did_free r _ _ c.free_word-first.ensures c.in-Some.ensures) refl (did_chains r _ _ c.chain_count.ensures c.in_default-walk_all.ensures) false refl

pub returns-then-held-held_word : goal.returns-then-held-held_word
returns-then-held-held_word g c =
    let r = c.requires.0 in
    part_runs _ _ _ _ (did_free r _ _ c.free_word-first.ensures c.in-Some.ensures) refl (did_chains r _ _ c.chain_count.ensures c.in-Some-walk_all.ensures) _
    (rw (c.from.ensures, c.from-then-held-held_word.ensures, c.from-then-held-held_word-2.ensures, c.limit.ensures)
    (sym (and_rest _ (eq-eqb _ _ (c.if-held-held_word.true ∙ c.held_word.ensures)))))

pub returns-else-held-held_word : goal.returns-else-held-held_word
returns-else-held-held_word g c =
    let r = c.requires.0 in
    let d = c.if-held-held_word.false in
    part_runs _ _ _ _ (did_free r _ _ c.free_word-first.ensures c.in-Some.ensures) refl (did_chains r _ _ c.chain_count.ensures c.in-Some-walk_all.ensures) _
    (ne_eqb _ _ d ∙ sym (and_fails _ (ne_eqb _ _ (λ e. d (e ∙ sym c.held_word.ensures)))))
