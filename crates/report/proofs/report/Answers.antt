-- `report::report` meets its contract: its tests are the model's, in the model's order, and past them the text is written as the model has it.
use mathlib.Core.Bool.{true}
use mathlib.Core.Path.{◌≡◌, sym, ap, ◌∙◌}
use Prim.Native.Nat.{ℕ, ◌≤◌}
use lib.ListN.{length}
use Rattle.model.specs.Calls.{cleaned}
use Rattle.model.specs.Report.{most_stores, need_of}
use Rattle.model.specs.Lists.{between}
use Rattle.model.proofs.Lists.{between_is}
use Rattle.report.proofs.ReportCases.{cleaned_clean, report_short, report_stores, report_unsound, report_text_lem, counted}
use Rattle.report.proofs.report.Goals.{After-clear, After-contains}
use Rattle.report.proofs.report.Goals as goal

-- enough scratch, which is clean then
enough : (c : After-clear) → let s = c.args in need_of s.words.now s.lengths.now ≤ length s.scratch.now
enough c = rw (← c.need_of-n.ensures) c.if-scratch-n.false

clean : (c : After-clear) → let s = c.args in c.clear.new.scratch ≡ cleaned (need_of s.words.now s.lengths.now) s.scratch.now
clean c = c.clear.ensures ∙ ap (λ (n : ℕ). cleaned n c.args.scratch.now) c.need_of-n.ensures

pub returns-then-scratch-n : goal.returns-then-scratch-n
returns-then-scratch-n c = report_short _ _ _ _ (rw (← c.need_of-n.ensures) c.if-scratch-n.true)

-- the count of stores is told as the model tells it
told : (c : After-contains) → c.contains.result ≡ between 1 most_stores (length c.args.lengths.now)
told c = let r = c.new.ensures in counted _ c.contains.ensures.value r.start r.end r.exhausted

pub returns-then-not-contains : goal.returns-then-not-contains
returns-then-not-contains c =
    let at = goal.at.returns-then-not-contains c in
    report_stores _ _ _ _ (enough at.After-clear) (clean at.After-clear) (sym (told at.After-contains) ∙ c.if-not-contains.true)

-- it is one to eight
some : (c : After-contains) → c.contains.result ≡ true → between 1 most_stores (length c.args.lengths.now) ≡ true
some c e = sym (told c) ∙ e

few : (c : After-contains) → c.contains.result ≡ true → length c.args.lengths.now ≤ most_stores
few c e = ((between_is 1 most_stores (length c.args.lengths.now)).0 (some c e)).1

pub all_sound-requires : goal.all_sound-requires
all_sound-requires c =
    let at = goal.at.all_sound-requires c in
    (few at.After-contains c.if-not-contains.false, cleaned_clean _ _ (enough at.After-clear) (clean at.After-clear))

pub returns-then-not-all_sound : goal.returns-then-not-all_sound
returns-then-not-all_sound c =
    let at = goal.at.returns-then-not-all_sound c in
    let s = c.all_sound.ensures in
    report_unsound _ _ _ _ (enough at.After-clear) (s.1 ∙ clean at.After-clear) (some at.After-contains c.if-not-contains.false) (sym s.0 ∙ c.if-not-all_sound.true)

pub returns : goal.returns
returns c =
    let at = goal.at.returns c in
    let s = c.all_sound.ensures in
    report_text_lem _ _ _ _ (enough at.After-clear) (s.1 ∙ clean at.After-clear) (some at.After-contains c.if-not-contains.false) (sym s.0 ∙ c.if-not-all_sound.false) c.report_sound.ensures
