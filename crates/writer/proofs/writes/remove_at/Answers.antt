-- `writes::remove_at` meets its contract: its writes are those of `remove_words`, in that order.
use mathlib.Core.Path.{◌≡◌, refl, ◌∙◌}
use native.Mathlib.Omega.{arith}
use lib.Dec.{lit<}
use lib.ListN.{length, length-set}
use Rattle.model.specs.Layout.{held_at, faults_held_at, free_at, to_next, to_first, to_last, to_count}
use Rattle.reads.specs.Cells.{shape_in}
use Rattle.reads.proofs.CellLaws.{head_in_lem, word_in, sized_same}
use Rattle.writer.proofs.WriteLaws.{remove_is}
use Rattle.writer.proofs.writes.remove_at.Goals.{After-free_card}
use Rattle.writer.proofs.writes.remove_at.Goals as goal

pub give_back-requires : goal.give_back-requires
give_back-requires c =
    let p = c.requires in
    (p.sized, rw c.card_word-first.ensures p.ends, c.card_word-last.ensures ∙ rw c.card_word-first.ensures p.last_is)

pub link-requires : goal.link-requires
link-requires c =
    let p = c.requires in
    (sized_same p.sized c.give_back.auto.w, p.bucket, p.behind)

pub free_card-requires : goal.free_card-requires
free_card-requires c =
    let p = c.requires in
    (sized_same p.sized (c.link.auto.w ∙ c.give_back.auto.w), p.card, p.inside)

-- all words are as many as before when the cell is free
kept : (c : After-free_card) → length c.free_card.new.w ≡ length c.args.w.now
kept c = c.free_card.auto.w ∙ c.link.auto.w ∙ c.give_back.auto.w

pub bounds-w-5 : goal.bounds-w-5
bounds-w-5 c = head_in_lem c.requires.sized held_at (lit< tt) (kept (goal.at.bounds-w-5 c).After-free_card)

pub bounds-w-6 : goal.bounds-w-6
bounds-w-6 c = head_in_lem c.requires.sized faults_held_at (lit< tt) (length-set c.free_card.new.w held_at _ ∙ kept (goal.at.bounds-w-6 c).After-free_card)

pub shape_of-w : goal.shape_of-w
shape_of-w c = simp length-set (kept (goal.at.shape_of-w c).After-free_card)

pub returns : goal.returns
returns c =
    let a = c.args in
    remove_is (shape_in a.h) a.w.now a.b a.prev a.cell c.card_word-next.ensures c.card_word-first.ensures c.card_word-last.ensures c.card_word-count.ensures
    c.give_back.ensures c.link.ensures c.free_card.ensures

pub card_word-next-requires : goal.card_word-next-requires
card_word-next-requires c = let p = c.requires in (p.card, p.inside, word_in p.sized to_next (lit< tt))

pub card_word-first-requires : goal.card_word-first-requires
card_word-first-requires c = let p = c.requires in (p.card, p.inside, word_in p.sized to_first (lit< tt))

pub card_word-last-requires : goal.card_word-last-requires
card_word-last-requires c = let p = c.requires in (p.card, p.inside, word_in p.sized to_last (lit< tt))

pub card_word-count-requires : goal.card_word-count-requires
card_word-count-requires c = let p = c.requires in (p.card, p.inside, word_in p.sized to_count (lit< tt))

pub bounds-old-7 : goal.bounds-old-7
bounds-old-7 c = head_in_lem c.requires.sized free_at (lit< tt) refl

pub bounds-old-5 : goal.bounds-old-5
bounds-old-5 c = head_in_lem c.requires.sized held_at (lit< tt) refl

pub overflow_sub-cards : goal.overflow_sub-cards
overflow_sub-cards c = c.requires.held

pub bounds-old-6 : goal.bounds-old-6
bounds-old-6 c = head_in_lem c.requires.sized faults_held_at (lit< tt) refl

pub overflow_sub-faults : goal.overflow_sub-faults
overflow_sub-faults c = omega (arith, c.card_word-count.ensures, c.requires.filed)
