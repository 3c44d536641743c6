-- `disk::opens::fresh_for` meets its contract: too many words are limits out of range; else Open says the number, and its words are written.
use native.Mathlib.Omega.{arith}
use Prim.Native.Nat.{ℕ, ◌*◌}
use mathlib.Core.Path.{◌≡◌, refl, sym, ap, ◌∙◌}
use mathlib.Core.List.{◌++◌}
use lib.ListN.{take, drop, length-append}
use lib.Seq.{length-take-le, take_at}
use Rattle.std.proofs.lemmas.Result.{err_from_is_err_and}
use Rattle.model.specs.Calls.{Terms, asked}
use Rattle.store.proofs.CallLaws.{refusal_some}
use Rattle.disk.proofs.Lengths.{most_words_lem}
use Rattle.disk.proofs.Making.{limits_over, none_made, refused_made, fresh_made, opened_long}
use Rattle.disk.proofs.opens.fresh_for.Goals.{Start}
use Rattle.disk.proofs.opens.fresh_for.Goals as goal

-- what Open is asked for
abbrev terms : Start → Terms
terms s = asked s.args.terms.cards s.args.terms.faults s.args.terms.upper s.args.terms.lower

pub returns-then-n-gt-WORDS : goal.returns-then-n-gt-WORDS
returns-then-n-gt-WORDS c =
    let t = terms (goal.at.returns-then-n-gt-WORDS c).Start in
    none_made t c.args.file.now (limits_over t (omega (arith, most_words_lem, c.length_for-n.ensures, c.if-n-gt-WORDS.true)))

pub slice_bounds-space-end : goal.slice_bounds-space-end
slice_bounds-space-end c = omega (arith, most_words_lem, c.room-space.ensures, c.if-n-gt-WORDS.false)

pub slice_bounds-open-end : goal.slice_bounds-open-end
slice_bounds-open-end c = let r = c.room-space in sym (length-take-le _ r.result (omega (arith, most_words_lem, r.ensures, c.if-n-gt-WORDS.false)))

pub returns-in_err-open : goal.returns-in_err-open
returns-in_err-open c =
    let t = terms (goal.at.returns-in_err-open c).Start in
    let n = c.length_for-n in
    let r = c.room-space in
    let refusal = c.in_err-open.field-0.0 in
    let (y, e, q) = err_from_is_err_and {Q = λ y. y ≡ refusal} c.from_residual.result c.from_residual.ensures.1 in
    rw (e, q)
    (refused_made t c.args.file.now (take n.result r.result) (length-take-le n.result r.result (omega (arith, most_words_lem, r.ensures, c.if-n-gt-WORDS.false)) ∙ n.ensures) c.in_err-open.ensures.number_is (refusal_some refusal))

pub slice_bounds-space-end-2 : goal.slice_bounds-space-end-2
slice_bounds-space-end-2 c =
    let t = terms (goal.at.slice_bounds-space-end-2 c).Start in
    let n = c.length_for-n in
    let r = c.room-space in
    let o = c.in_ok-open.ensures in
    omega (arith, n.ensures, opened_long (take n.result r.result) t refl o.number_is o.words_are, length-append c.open.new.words (drop n.result r.result))

pub slice_bounds-write-end : goal.slice_bounds-write-end
slice_bounds-write-end c =
    let t = terms (goal.at.slice_bounds-write-end c).Start in
    let n = c.length_for-n in
    let r = c.room-space in
    let o = c.in_ok-open.ensures in
    let l = opened_long (take n.result r.result) t refl o.number_is o.words_are in
    sym (length-take-le n.result (c.open.new.words ++ drop n.result r.result) (omega (arith, n.ensures, l, length-append c.open.new.words (drop n.result r.result))))

pub slice_bounds-write-end-2 : goal.slice_bounds-write-end-2
slice_bounds-write-end-2 c = omega (arith, most_words_lem, c.requires, c.if-n-gt-WORDS.false)

pub slice_bounds-write-end-3 : goal.slice_bounds-write-end-3
slice_bounds-write-end-3 c = let n = c.length_for-n in sym (length-take-le (4 * n.result) c.args.file.now (omega (arith, most_words_lem, c.requires, n.ensures, c.if-n-gt-WORDS.false)))

pub write-requires : goal.write-requires
write-requires c =
    let t = terms (goal.at.write-requires c).Start in
    let n = c.length_for-n in
    let r = c.room-space in
    let o = c.in_ok-open.ensures in
    let l = opened_long (take n.result r.result) t refl o.number_is o.words_are in
    length-take-le (4 * n.result) c.args.file.now (omega (arith, most_words_lem, c.requires, n.ensures, c.if-n-gt-WORDS.false))
    ∙ ap (λ (k : ℕ). 4 * k) (sym (length-take-le n.result (c.open.new.words ++ drop n.result r.result) (omega (arith, n.ensures, l, length-append c.open.new.words (drop n.result r.result)))))

pub returns : goal.returns
returns c =
    let t = terms (goal.at.returns c).Start in
    let n = c.length_for-n in
    let r = c.room-space in
    let o = c.in_ok-open.ensures in
    let l = opened_long (take n.result r.result) t refl o.number_is o.words_are in
    let e = take_at c.open.new.words (drop n.result r.result) n.result (l ∙ sym n.ensures) in
    rw n.ensures
    (fresh_made t c.args.file.now (take n.result r.result) (length-take-le n.result r.result (omega (arith, most_words_lem, r.ensures, c.if-n-gt-WORDS.false)) ∙ n.ensures)
    refl o.number_is o.words_are (rw e at c.write.ensures))
