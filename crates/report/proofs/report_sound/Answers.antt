-- `report::report_sound` meets its contract: the rows of all histories say what the report says of each code, and the totals are its totals.
use mathlib.Core.Path.{refl, subst}
use mathlib.Core.List.{List}
use Prim.Native.Nat.{ℕ}
use native.Mathlib.Omega.{arith}
use Rattle.model.specs.Report.{pieces, all_histories}
use Rattle.store.specs.Leaves.{wrote_of}
use Rattle.report.specs.Rows.{blank}
use Rattle.report.specs.Texts.{PutsReport}
use Rattle.report.proofs.RowsSay.{text_is_report}
use Rattle.report.proofs.SoundRuns.{run_codes}
use Rattle.report.proofs.RunLaws.{stores_sound, bounded}
use Rattle.report.proofs.report_sound.Goals as goal

pub note_all-t-requires : goal.note_all-t-requires
unfolding blank
note_all-t-requires c = (c.requires.0, c.requires.1, refl)

pub put_report-requires : goal.put_report-requires
put_report-requires c =
    let n = c.note_all-t.ensures in
    omega (arith, n.entries_are, (bounded _ _ c.requires.0 c.requires.1).entries)

pub returns : goal.returns
returns c =
    let n = c.note_all-t.ensures in
    let hs = all_histories (pieces c.args.words.now c.args.lengths.now) in
    subst (λ (text : List ℕ). PutsReport text c.args.out.now (wrote_of c.put_report.result) c.put_report.new.out)
    (text_is_report hs _ _ (run_codes _ (stores_sound _ _ c.requires.0)) n.rows_are n.cards_are n.entries_are) c.put_report.ensures
