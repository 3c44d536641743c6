-- `open` meets its contract: the three tests of `open_call` in its order, and the words of a fresh store where all pass.
use mathlib.Core.Path.{◌≡◌, refl, sym, ap, ◌∙◌}
use mathlib.Core.Bool.{true, false}
use borrow.Author.Tests.{ne_eqb, eq-eqb}
use lib.Dec.{eqb}
use lib.ListN.{length}
use Rattle.model.specs.Shape.{Shape}
use Rattle.model.specs.Model.{fresh}
use Rattle.model.specs.Layout.{limits_ok, bounds_ok, length_for, shape_ok, encode}
use Rattle.model.specs.Calls.{shape_for, open_call, asked}
use Rattle.model.proofs.Outcomes.{terms_ok}
use Rattle.store.proofs.open.Goals.{Else-not-bounds_ok, Else-not-limits_ok, Else-words-length_for}
use Rattle.store.proofs.open.Goals as goal

pub returns-then-not-limits_ok : goal.returns-then-not-limits_ok
unfolding open_call
returns-then-not-limits_ok c =
    let e : limits_ok (shape_for (asked c.args.cards c.args.faults c.args.upper c.args.lower)) ≡ false = sym (c.limits_ok.ensures ∙ ap limits_ok c.shape_for-s.ensures) ∙ c.if-not-limits_ok.true in
    rw e (record { number_is = refl; words_are = refl })

-- past the first test the limits are right, past the second the bounds; both are those of the shape that Open makes
limits : (c : Else-not-limits_ok) → limits_ok (shape_for (asked c.args.cards c.args.faults c.args.upper c.args.lower)) ≡ true
limits c = sym (c.limits_ok.ensures ∙ ap limits_ok c.shape_for-s.ensures) ∙ c.if-not-limits_ok.false

pub returns-then-not-bounds_ok : goal.returns-then-not-bounds_ok
unfolding open_call
returns-then-not-bounds_ok c =
    let e : bounds_ok (shape_for (asked c.args.cards c.args.faults c.args.upper c.args.lower)) ≡ false = sym (c.bounds_ok.ensures ∙ ap bounds_ok c.shape_for-s.ensures) ∙ c.if-not-bounds_ok.true in
    rw (limits (goal.at.returns-then-not-bounds_ok c).Else-not-limits_ok, e) (record { number_is = refl; words_are = refl })

bounds : (c : Else-not-bounds_ok) → bounds_ok (shape_for (asked c.args.cards c.args.faults c.args.upper c.args.lower)) ≡ true
bounds c = sym (c.bounds_ok.ensures ∙ ap bounds_ok c.shape_for-s.ensures) ∙ c.if-not-bounds_ok.false

pub returns-then-words-length_for : goal.returns-then-words-length_for
unfolding open_call
returns-then-words-length_for c =
    let at = goal.at.returns-then-words-length_for c in
    let e : eqb (length c.args.words.now) (length_for (shape_for (asked c.args.cards c.args.faults c.args.upper c.args.lower))) ≡ false =
    ne_eqb _ _ (λ e. c.if-words-length_for.true (e ∙ sym (c.length_for.ensures ∙ ap length_for c.shape_for-s.ensures))) in
    rw (limits at.Else-not-limits_ok, bounds at.Else-not-bounds_ok, e) (record { number_is = refl; words_are = refl })

-- and past the third the length is
long : (c : Else-words-length_for) → length c.args.words.now ≡ length_for (shape_for (asked c.args.cards c.args.faults c.args.upper c.args.lower))
long c = c.if-words-length_for.false ∙ c.length_for.ensures ∙ ap length_for c.shape_for-s.ensures

pub fill-requires : goal.fill-requires
fill-requires c =
    let at = goal.at.fill-requires c in
    (ap shape_ok c.shape_for-s.ensures ∙ terms_ok _ (limits at.Else-not-limits_ok) (bounds at.Else-not-bounds_ok), long at.Else-words-length_for ∙ sym (ap length_for c.shape_for-s.ensures))

pub returns : goal.returns
unfolding open_call
returns c =
    let at = goal.at.returns c in
    rw (limits at.Else-not-limits_ok, bounds at.Else-not-bounds_ok, eq-eqb _ _ (long at.Else-words-length_for))
    (record { number_is = refl; words_are = c.fill.ensures ∙ ap (λ (sh : Shape). encode (fresh sh)) c.shape_for-s.ensures })
