-- What the definitions compute: document 01's worked job, its examples that run, late slips, and outside job vectors.
-- Written by tools/computed.py; each claim holds by computation alone. Assumes nothing.
use Prim.Native.Nat.{ℕ}
use mathlib.Core.Path.{◌≡◌, refl}
use mathlib.Core.Bool.{true, false}
use mathlib.Core.List.{List, [], ◌∷◌, ◌++◌, map}
use lib.ListN.{set, replicate}
use Rattle.rules.specs.Code as Code
use Rattle.rules.specs.Table as Table
use Rattle.model.specs.Lists as Lists
use Rattle.model.specs.Serial as Serial
use Rattle.model.specs.Shape as Shape
use Rattle.model.specs.Model as Model
use Rattle.model.specs.Layout as Layout
use Rattle.model.specs.Meaning as Meaning
use Rattle.model.specs.Words as Words
use Rattle.model.specs.Calls as Calls
use Rattle.model.specs.Plain as Plain
use Rattle.model.specs.Text as Text
use Rattle.model.specs.Job as Job
use Rattle.model.specs.Deeds as Deeds
use Rattle.model.specs.Heard as Heard
use Rattle.model.specs.Report as Report
use Rattle.model.specs.ReportSays as ReportSays

-- to unfold this is to unfold every definition of the rules and the model
open_all : List ℕ → List ℕ
unfolding Code.code_from Code.code_of Table.size_ok Table.state_ok Table.bucket_of Table.address_of Table.splits Table.contracts Table.load_fits Table.high_maxp Table.high_p Table.low_maxp Table.low_p Lists.between Lists.earlier Lists.by_day Serial.allowed Serial.serial_ok Serial.valid_serial Serial.valid_fault Shape.entries Shape.card_width Shape.most_cards Shape.most_faults Shape.need Model.comparisons Model.fresh Model.split Model.grown Model.split_scan Model.contract Model.shrunk Model.contract_scan Model.placed Model.entered Model.filed Model.removed Model.withdrawn Layout.cards_at Layout.faults_at Layout.length_for Layout.limits_ok Layout.bounds_ok Layout.format_ok Layout.bounds_word Layout.rule_word Layout.shape_ok Layout.shape_of Layout.cell_at Layout.last Layout.packed Layout.card_cell Layout.fault_cell Layout.free_cell Layout.part Layout.header Layout.directory Layout.segments Layout.front Layout.encode Layout.follow Layout.bytes_of Layout.card_word Layout.fault_word Layout.read_fault Layout.read_card Layout.read_chain Layout.decode_as Layout.each_once Layout.good_card Layout.good_buckets Layout.cells_ok Layout.serials_ok Layout.load_ok Layout.fair Layout.good Layout.sound Meaning.bucket_cells Meaning.free_cells Meaning.history_cells Meaning.free_fault_cells Meaning.held_cells Meaning.filed_cells Meaning.bytes_in Meaning.serial_in Words.link_at Words.new_words Words.place_words Words.file_words Words.clear_words Words.give_words Words.remove_words Words.open_words Words.close_words Words.moves_at Words.part_words Words.split_words Words.grow_words Words.join_words Words.shrink_words Calls.cleaned Calls.enter_step Calls.file_step Calls.show_step Calls.withdraw_step Calls.admission Calls.swept Calls.call Calls.shape_for Calls.open_call Plain.book_open Plain.book_enter Plain.book_file Plain.book_show Plain.book_withdraw Text.onto Text.fields Text.drop_empty_last Text.lines_of Text.is_number Text.value_from Text.digits Text.decimal Job.padded Job.two Job.four Job.from_fields Job.line_of Job.enough Job.step_of Job.pair_text Job.listed Job.answer_text Job.tally_top Job.plus Job.one Job.entering Job.withdrawing Job.filing Job.counted Job.run_lines Job.most_text Job.job Deeds.tidy Heard.number_in Heard.faults_in Heard.pairs_in Report.pieces Report.run_sound Report.most_need Report.need_of Report.all_histories Report.entries_of Report.cards_with Report.lowest Report.highest Report.earliest Report.latest Report.codes_in Report.numbers_line Report.code_line Report.rate_line Report.total_lines Report.report_text Report.report_call ReportSays.numbers_of
open_all x = x

tallied : ℕ → ℕ → ℕ → ℕ → ℕ → ℕ → Job.Tally
tallied e w f s c k = record { entries = e; withdrawals = w; filings = f; splits = s; contractions = c; comparisons = k }

-- the shape that Open makes with 4 and 2
usual : ℕ → ℕ → Shape.Shape
usual c f = Calls.shape_for (record { cards = c; faults = f; upper = 4; lower = 2 })

-- the answers to a text on a fresh store with these limits, and the tally of a job that begins with none
ran : ℕ → ℕ → List ℕ → Job.Run
unfolding tallied usual
ran c f text = Job.run_lines (Text.lines_of text) 16384 (Job.started (Model.fresh (usual c f)) (tallied 0 0 0 0 0 0))

answers : ℕ → ℕ → List ℕ → List ℕ
unfolding open_all ran tallied usual
answers c f text = (ran c f text).text

-- `E 7⏎E 007⏎F 007 100 12⏎S 7⏎S 007⏎E 7⏎W 007⏎S 007⏎F 7 0 5⏎`
worked_in : List ℕ
worked_in = (69 ∷ 32 ∷ 55 ∷ 10 ∷ 69 ∷ 32 ∷ 48 ∷ 48 ∷ 55 ∷ 10 ∷ 70 ∷ 32 ∷ 48 ∷ 48 ∷ 55 ∷ 32 ∷ 49 ∷ 48 ∷ 48 ∷ 32 ∷ 49 ∷ 50 ∷ 10 ∷ 83 ∷ 32 ∷ 55 ∷ 10 ∷ 83 ∷ 32 ∷ 48 ∷ 48 ∷ 55 ∷ 10 ∷ 69 ∷ 32 ∷ 55 ∷ 10 ∷ 87 ∷ 32 ∷ 48 ∷ 48 ∷ 55 ∷ 10 ∷ 83 ∷ 32 ∷ 48 ∷ 48 ∷ 55 ∷ 10 ∷ 70 ∷ 32 ∷ 55 ∷ 32 ∷ 48 ∷ 32 ∷ 53 ∷ 10 ∷ [])

-- `0 0 0 0⏎0 1 0 0⏎0 2 0 1⏎0 1 0 0⏎0 2 0 1 100:12⏎6 1 0 0⏎0 2 0 1 100:12⏎7 1 0 0⏎5 0 0 0⏎`
worked_out : List ℕ
worked_out = (48 ∷ 32 ∷ 48 ∷ 32 ∷ 48 ∷ 32 ∷ 48 ∷ 10 ∷ 48 ∷ 32 ∷ 49 ∷ 32 ∷ 48 ∷ 32 ∷ 48 ∷ 10 ∷ 48 ∷ 32 ∷ 50 ∷ 32 ∷ 48 ∷ 32 ∷ 49 ∷ 10 ∷ 48 ∷ 32 ∷ 49 ∷ 32 ∷ 48 ∷ 32 ∷ 48 ∷ 10 ∷ 48 ∷ 32 ∷ 50 ∷ 32 ∷ 48 ∷ 32 ∷ 49 ∷ 32 ∷ 49 ∷ 48 ∷ 48 ∷ 58 ∷ 49 ∷ 50 ∷ 10 ∷ 54 ∷ 32 ∷ 49 ∷ 32 ∷ 48 ∷ 32 ∷ 48 ∷ 10 ∷ 48 ∷ 32 ∷ 50 ∷ 32 ∷ 48 ∷ 32 ∷ 49 ∷ 32 ∷ 49 ∷ 48 ∷ 48 ∷ 58 ∷ 49 ∷ 50 ∷ 10 ∷ 55 ∷ 32 ∷ 49 ∷ 32 ∷ 48 ∷ 32 ∷ 48 ∷ 10 ∷ 53 ∷ 32 ∷ 48 ∷ 32 ∷ 48 ∷ 32 ∷ 48 ∷ 10 ∷ [])

-- document 01's worked job, on depot's limits
worked : answers 256 512 worked_in ≡ worked_out
unfolding answers worked_in worked_out
worked = refl

worked_tally : (ran 256 512 worked_in).tally ≡ tallied 2 1 1 0 0 10
unfolding answers ran tallied worked_in
worked_tally = refl

-- the words of a fresh store of 8 cards and 8 faults, and after the worked job
before : List ℕ
before = (2 ∷ 8 ∷ 8 ∷ 16 ∷ 0 ∷ 0 ∷ 0 ∷ 1 ∷ 1 ∷ 16 ∷ 32 ∷ 288 ∷ 360 ∷ 384 ∷ 1026 ∷ 0 ∷ 32 ∷ 0 ∷ 0 ∷ 0 ∷ 0 ∷ 0 ∷ 0 ∷ 0 ∷ 0 ∷ 0 ∷ 0 ∷ 0 ∷ 0 ∷ 0 ∷ 0 ∷ 0 ∷ 0 ∷ 0 ∷ 0 ∷ 0 ∷ 0 ∷ 0 ∷ 0 ∷ 0 ∷ 0 ∷ 0 ∷ 0 ∷ 0 ∷ 0 ∷ 0 ∷ 0 ∷ 0 ∷ 0 ∷ 0 ∷ 0 ∷ 0 ∷ 0 ∷ 0 ∷ 0 ∷ 0 ∷ 0 ∷ 0 ∷ 0 ∷ 0 ∷ 0 ∷ 0 ∷ 0 ∷ 0 ∷ 0 ∷ 0 ∷ 0 ∷ 0 ∷ 0 ∷ 0 ∷ 0 ∷ 0 ∷ 0 ∷ 0 ∷ 0 ∷ 0 ∷ 0 ∷ 0 ∷ 0 ∷ 0 ∷ 0 ∷ 0 ∷ 0 ∷ 0 ∷ 0 ∷ 0 ∷ 0 ∷ 0 ∷ 0 ∷ 0 ∷ 0 ∷ 0 ∷ 0 ∷ 0 ∷ 0 ∷ 0 ∷ 0 ∷ 0 ∷ 0 ∷ 0 ∷ 0 ∷ 0 ∷ 0 ∷ 0 ∷ 0 ∷ 0 ∷ 0 ∷ 0 ∷ 0 ∷ 0 ∷ 0 ∷ 0 ∷ 0 ∷ 0 ∷ 0 ∷ 0 ∷ 0 ∷ 0 ∷ 0 ∷ 0 ∷ 0 ∷ 0 ∷ 0 ∷ 0 ∷ 0 ∷ 0 ∷ 0 ∷ 0 ∷ 0 ∷ 0 ∷ 0 ∷ 0 ∷ 0 ∷ 0 ∷ 0 ∷ 0 ∷ 0 ∷ 0 ∷ 0 ∷ 0 ∷ 0 ∷ 0 ∷ 0 ∷ 0 ∷ 0 ∷ 0 ∷ 0 ∷ 0 ∷ 0 ∷ 0 ∷ 0 ∷ 0 ∷ 0 ∷ 0 ∷ 0 ∷ 0 ∷ 0 ∷ 0 ∷ 0 ∷ 0 ∷ 0 ∷ 0 ∷ 0 ∷ 0 ∷ 0 ∷ 0 ∷ 0 ∷ 0 ∷ 0 ∷ 0 ∷ 0 ∷ 0 ∷ 0 ∷ 0 ∷ 0 ∷ 0 ∷ 0 ∷ 0 ∷ 0 ∷ 0 ∷ 0 ∷ 0 ∷ 0 ∷ 0 ∷ 0 ∷ 0 ∷ 0 ∷ 0 ∷ 0 ∷ 0 ∷ 0 ∷ 0 ∷ 0 ∷ 0 ∷ 0 ∷ 0 ∷ 0 ∷ 0 ∷ 0 ∷ 0 ∷ 0 ∷ 0 ∷ 0 ∷ 0 ∷ 0 ∷ 0 ∷ 0 ∷ 0 ∷ 0 ∷ 0 ∷ 0 ∷ 0 ∷ 0 ∷ 0 ∷ 0 ∷ 0 ∷ 0 ∷ 0 ∷ 0 ∷ 0 ∷ 0 ∷ 0 ∷ 0 ∷ 0 ∷ 0 ∷ 0 ∷ 0 ∷ 0 ∷ 0 ∷ 0 ∷ 0 ∷ 0 ∷ 0 ∷ 0 ∷ 0 ∷ 0 ∷ 0 ∷ 0 ∷ 0 ∷ 0 ∷ 0 ∷ 0 ∷ 0 ∷ 0 ∷ 0 ∷ 0 ∷ 0 ∷ 0 ∷ 0 ∷ 0 ∷ 0 ∷ 0 ∷ 0 ∷ 0 ∷ 0 ∷ 0 ∷ 0 ∷ 0 ∷ 0 ∷ 0 ∷ 0 ∷ 0 ∷ 0 ∷ 0 ∷ 0 ∷ 0 ∷ 0 ∷ 0 ∷ 0 ∷ 0 ∷ 0 ∷ 0 ∷ 0 ∷ 0 ∷ 0 ∷ 0 ∷ 0 ∷ 0 ∷ 0 ∷ 0 ∷ 0 ∷ 0 ∷ 0 ∷ 0 ∷ 0 ∷ 0 ∷ 0 ∷ 0 ∷ 2 ∷ 0 ∷ 0 ∷ 0 ∷ 0 ∷ 0 ∷ 0 ∷ 0 ∷ 0 ∷ 3 ∷ 0 ∷ 0 ∷ 0 ∷ 0 ∷ 0 ∷ 0 ∷ 0 ∷ 0 ∷ 4 ∷ 0 ∷ 0 ∷ 0 ∷ 0 ∷ 0 ∷ 0 ∷ 0 ∷ 0 ∷ 5 ∷ 0 ∷ 0 ∷ 0 ∷ 0 ∷ 0 ∷ 0 ∷ 0 ∷ 0 ∷ 6 ∷ 0 ∷ 0 ∷ 0 ∷ 0 ∷ 0 ∷ 0 ∷ 0 ∷ 0 ∷ 7 ∷ 0 ∷ 0 ∷ 0 ∷ 0 ∷ 0 ∷ 0 ∷ 0 ∷ 0 ∷ 8 ∷ 0 ∷ 0 ∷ 0 ∷ 0 ∷ 0 ∷ 0 ∷ 0 ∷ 0 ∷ 0 ∷ 0 ∷ 0 ∷ 0 ∷ 0 ∷ 0 ∷ 0 ∷ 0 ∷ 0 ∷ 2 ∷ 0 ∷ 0 ∷ 3 ∷ 0 ∷ 0 ∷ 4 ∷ 0 ∷ 0 ∷ 5 ∷ 0 ∷ 0 ∷ 6 ∷ 0 ∷ 0 ∷ 7 ∷ 0 ∷ 0 ∷ 8 ∷ 0 ∷ 0 ∷ 0 ∷ 0 ∷ 0 ∷ [])

after : List ℕ
after = (2 ∷ 8 ∷ 8 ∷ 16 ∷ 0 ∷ 1 ∷ 0 ∷ 2 ∷ 1 ∷ 16 ∷ 32 ∷ 288 ∷ 360 ∷ 384 ∷ 1026 ∷ 0 ∷ 32 ∷ 0 ∷ 0 ∷ 0 ∷ 0 ∷ 0 ∷ 0 ∷ 0 ∷ 0 ∷ 0 ∷ 0 ∷ 0 ∷ 0 ∷ 0 ∷ 0 ∷ 0 ∷ 0 ∷ 0 ∷ 0 ∷ 0 ∷ 0 ∷ 0 ∷ 0 ∷ 1 ∷ 0 ∷ 0 ∷ 0 ∷ 0 ∷ 0 ∷ 0 ∷ 0 ∷ 0 ∷ 0 ∷ 0 ∷ 0 ∷ 0 ∷ 0 ∷ 0 ∷ 0 ∷ 0 ∷ 0 ∷ 0 ∷ 0 ∷ 0 ∷ 0 ∷ 0 ∷ 0 ∷ 0 ∷ 0 ∷ 0 ∷ 0 ∷ 0 ∷ 0 ∷ 0 ∷ 0 ∷ 0 ∷ 0 ∷ 0 ∷ 0 ∷ 0 ∷ 0 ∷ 0 ∷ 0 ∷ 0 ∷ 0 ∷ 0 ∷ 0 ∷ 0 ∷ 0 ∷ 0 ∷ 0 ∷ 0 ∷ 0 ∷ 0 ∷ 0 ∷ 0 ∷ 0 ∷ 0 ∷ 0 ∷ 0 ∷ 0 ∷ 0 ∷ 0 ∷ 0 ∷ 0 ∷ 0 ∷ 0 ∷ 0 ∷ 0 ∷ 0 ∷ 0 ∷ 0 ∷ 0 ∷ 0 ∷ 0 ∷ 0 ∷ 0 ∷ 0 ∷ 0 ∷ 0 ∷ 0 ∷ 0 ∷ 0 ∷ 0 ∷ 0 ∷ 0 ∷ 0 ∷ 0 ∷ 0 ∷ 0 ∷ 0 ∷ 0 ∷ 0 ∷ 0 ∷ 0 ∷ 0 ∷ 0 ∷ 0 ∷ 0 ∷ 0 ∷ 0 ∷ 0 ∷ 0 ∷ 0 ∷ 0 ∷ 0 ∷ 0 ∷ 0 ∷ 0 ∷ 0 ∷ 0 ∷ 0 ∷ 0 ∷ 0 ∷ 0 ∷ 0 ∷ 0 ∷ 0 ∷ 0 ∷ 0 ∷ 0 ∷ 0 ∷ 0 ∷ 0 ∷ 0 ∷ 0 ∷ 0 ∷ 0 ∷ 0 ∷ 0 ∷ 0 ∷ 0 ∷ 0 ∷ 0 ∷ 0 ∷ 0 ∷ 0 ∷ 0 ∷ 0 ∷ 0 ∷ 0 ∷ 0 ∷ 0 ∷ 0 ∷ 0 ∷ 0 ∷ 0 ∷ 0 ∷ 0 ∷ 0 ∷ 0 ∷ 0 ∷ 0 ∷ 0 ∷ 0 ∷ 0 ∷ 0 ∷ 0 ∷ 0 ∷ 0 ∷ 0 ∷ 0 ∷ 0 ∷ 0 ∷ 0 ∷ 0 ∷ 0 ∷ 0 ∷ 0 ∷ 0 ∷ 0 ∷ 0 ∷ 0 ∷ 0 ∷ 0 ∷ 0 ∷ 0 ∷ 0 ∷ 0 ∷ 0 ∷ 0 ∷ 0 ∷ 0 ∷ 0 ∷ 0 ∷ 0 ∷ 0 ∷ 0 ∷ 0 ∷ 0 ∷ 0 ∷ 0 ∷ 0 ∷ 0 ∷ 0 ∷ 0 ∷ 0 ∷ 0 ∷ 0 ∷ 0 ∷ 0 ∷ 0 ∷ 0 ∷ 0 ∷ 0 ∷ 0 ∷ 0 ∷ 0 ∷ 0 ∷ 0 ∷ 0 ∷ 0 ∷ 0 ∷ 0 ∷ 0 ∷ 0 ∷ 0 ∷ 0 ∷ 0 ∷ 0 ∷ 0 ∷ 0 ∷ 0 ∷ 0 ∷ 0 ∷ 0 ∷ 0 ∷ 0 ∷ 0 ∷ 0 ∷ 0 ∷ 0 ∷ 0 ∷ 0 ∷ 0 ∷ 0 ∷ 0 ∷ 0 ∷ 0 ∷ 0 ∷ 0 ∷ 0 ∷ 0 ∷ 0 ∷ 0 ∷ 0 ∷ 0 ∷ 0 ∷ 0 ∷ 0 ∷ 0 ∷ 0 ∷ 0 ∷ 1 ∷ 922746880 ∷ 0 ∷ 0 ∷ 0 ∷ 0 ∷ 0 ∷ 0 ∷ 3 ∷ 0 ∷ 0 ∷ 0 ∷ 0 ∷ 0 ∷ 0 ∷ 0 ∷ 0 ∷ 4 ∷ 0 ∷ 0 ∷ 0 ∷ 0 ∷ 0 ∷ 0 ∷ 0 ∷ 0 ∷ 5 ∷ 0 ∷ 0 ∷ 0 ∷ 0 ∷ 0 ∷ 0 ∷ 0 ∷ 0 ∷ 6 ∷ 0 ∷ 0 ∷ 0 ∷ 0 ∷ 0 ∷ 0 ∷ 0 ∷ 0 ∷ 7 ∷ 0 ∷ 0 ∷ 0 ∷ 0 ∷ 0 ∷ 0 ∷ 0 ∷ 0 ∷ 8 ∷ 0 ∷ 0 ∷ 0 ∷ 0 ∷ 0 ∷ 0 ∷ 0 ∷ 0 ∷ 0 ∷ 0 ∷ 0 ∷ 0 ∷ 0 ∷ 0 ∷ 0 ∷ 0 ∷ 0 ∷ 2 ∷ 0 ∷ 0 ∷ 3 ∷ 0 ∷ 0 ∷ 4 ∷ 0 ∷ 0 ∷ 5 ∷ 0 ∷ 0 ∷ 6 ∷ 0 ∷ 0 ∷ 7 ∷ 0 ∷ 0 ∷ 8 ∷ 0 ∷ 0 ∷ 0 ∷ 0 ∷ 0 ∷ [])

opened : Calls.open_call (replicate 384 5) (record { cards = 8; faults = 8; upper = 4; lower = 2 }) ≡ (record { number = 0; words = before })
unfolding open_all before
opened = refl

-- Open refuses by 1, then by 15, then by 2: limits, bounds and length wrong; bounds and length; the length alone
limits_first : (Calls.open_call (5 ∷ []) (record { cards = 0; faults = 8; upper = 1; lower = 1 })).number ≡ 1
unfolding open_all
limits_first = refl

bounds_next : (Calls.open_call (5 ∷ []) (record { cards = 8; faults = 8; upper = 3; lower = 2 })).number ≡ 15
unfolding open_all
bounds_next = refl

length_last : (Calls.open_call (5 ∷ []) (record { cards = 8; faults = 8; upper = 10; lower = 5 })).number ≡ 2
unfolding open_all
length_last = refl

-- the job on words: scratch of other content, output with room past the bytes written
whole : Job.job before (replicate 400 7) worked_in (replicate 300 1) (tallied 1 1 1 1 1 1) ≡ (record { number = 0; lines = 9; bytes = 86; words = after; out = worked_out ++ replicate 214 1; scratch = replicate 384 0 ++ replicate 16 7; tally = tallied 3 2 2 1 1 11 })
unfolding open_all tallied worked_in worked_out before after
whole = refl

-- the same store in format 1 is sound with word 14 zero alone, and the job leaves it in format 1
first_before : List ℕ
first_before = (1 ∷ 8 ∷ 8 ∷ 16 ∷ 0 ∷ 0 ∷ 0 ∷ 1 ∷ 1 ∷ 16 ∷ 32 ∷ 288 ∷ 360 ∷ 384 ∷ 0 ∷ 0 ∷ 32 ∷ 0 ∷ 0 ∷ 0 ∷ 0 ∷ 0 ∷ 0 ∷ 0 ∷ 0 ∷ 0 ∷ 0 ∷ 0 ∷ 0 ∷ 0 ∷ 0 ∷ 0 ∷ 0 ∷ 0 ∷ 0 ∷ 0 ∷ 0 ∷ 0 ∷ 0 ∷ 0 ∷ 0 ∷ 0 ∷ 0 ∷ 0 ∷ 0 ∷ 0 ∷ 0 ∷ 0 ∷ 0 ∷ 0 ∷ 0 ∷ 0 ∷ 0 ∷ 0 ∷ 0 ∷ 0 ∷ 0 ∷ 0 ∷ 0 ∷ 0 ∷ 0 ∷ 0 ∷ 0 ∷ 0 ∷ 0 ∷ 0 ∷ 0 ∷ 0 ∷ 0 ∷ 0 ∷ 0 ∷ 0 ∷ 0 ∷ 0 ∷ 0 ∷ 0 ∷ 0 ∷ 0 ∷ 0 ∷ 0 ∷ 0 ∷ 0 ∷ 0 ∷ 0 ∷ 0 ∷ 0 ∷ 0 ∷ 0 ∷ 0 ∷ 0 ∷ 0 ∷ 0 ∷ 0 ∷ 0 ∷ 0 ∷ 0 ∷ 0 ∷ 0 ∷ 0 ∷ 0 ∷ 0 ∷ 0 ∷ 0 ∷ 0 ∷ 0 ∷ 0 ∷ 0 ∷ 0 ∷ 0 ∷ 0 ∷ 0 ∷ 0 ∷ 0 ∷ 0 ∷ 0 ∷ 0 ∷ 0 ∷ 0 ∷ 0 ∷ 0 ∷ 0 ∷ 0 ∷ 0 ∷ 0 ∷ 0 ∷ 0 ∷ 0 ∷ 0 ∷ 0 ∷ 0 ∷ 0 ∷ 0 ∷ 0 ∷ 0 ∷ 0 ∷ 0 ∷ 0 ∷ 0 ∷ 0 ∷ 0 ∷ 0 ∷ 0 ∷ 0 ∷ 0 ∷ 0 ∷ 0 ∷ 0 ∷ 0 ∷ 0 ∷ 0 ∷ 0 ∷ 0 ∷ 0 ∷ 0 ∷ 0 ∷ 0 ∷ 0 ∷ 0 ∷ 0 ∷ 0 ∷ 0 ∷ 0 ∷ 0 ∷ 0 ∷ 0 ∷ 0 ∷ 0 ∷ 0 ∷ 0 ∷ 0 ∷ 0 ∷ 0 ∷ 0 ∷ 0 ∷ 0 ∷ 0 ∷ 0 ∷ 0 ∷ 0 ∷ 0 ∷ 0 ∷ 0 ∷ 0 ∷ 0 ∷ 0 ∷ 0 ∷ 0 ∷ 0 ∷ 0 ∷ 0 ∷ 0 ∷ 0 ∷ 0 ∷ 0 ∷ 0 ∷ 0 ∷ 0 ∷ 0 ∷ 0 ∷ 0 ∷ 0 ∷ 0 ∷ 0 ∷ 0 ∷ 0 ∷ 0 ∷ 0 ∷ 0 ∷ 0 ∷ 0 ∷ 0 ∷ 0 ∷ 0 ∷ 0 ∷ 0 ∷ 0 ∷ 0 ∷ 0 ∷ 0 ∷ 0 ∷ 0 ∷ 0 ∷ 0 ∷ 0 ∷ 0 ∷ 0 ∷ 0 ∷ 0 ∷ 0 ∷ 0 ∷ 0 ∷ 0 ∷ 0 ∷ 0 ∷ 0 ∷ 0 ∷ 0 ∷ 0 ∷ 0 ∷ 0 ∷ 0 ∷ 0 ∷ 0 ∷ 0 ∷ 0 ∷ 0 ∷ 0 ∷ 0 ∷ 0 ∷ 0 ∷ 0 ∷ 0 ∷ 0 ∷ 0 ∷ 0 ∷ 0 ∷ 0 ∷ 0 ∷ 0 ∷ 0 ∷ 0 ∷ 0 ∷ 0 ∷ 0 ∷ 0 ∷ 0 ∷ 0 ∷ 0 ∷ 0 ∷ 0 ∷ 0 ∷ 0 ∷ 0 ∷ 0 ∷ 0 ∷ 0 ∷ 0 ∷ 0 ∷ 0 ∷ 0 ∷ 0 ∷ 0 ∷ 0 ∷ 0 ∷ 0 ∷ 0 ∷ 0 ∷ 0 ∷ 2 ∷ 0 ∷ 0 ∷ 0 ∷ 0 ∷ 0 ∷ 0 ∷ 0 ∷ 0 ∷ 3 ∷ 0 ∷ 0 ∷ 0 ∷ 0 ∷ 0 ∷ 0 ∷ 0 ∷ 0 ∷ 4 ∷ 0 ∷ 0 ∷ 0 ∷ 0 ∷ 0 ∷ 0 ∷ 0 ∷ 0 ∷ 5 ∷ 0 ∷ 0 ∷ 0 ∷ 0 ∷ 0 ∷ 0 ∷ 0 ∷ 0 ∷ 6 ∷ 0 ∷ 0 ∷ 0 ∷ 0 ∷ 0 ∷ 0 ∷ 0 ∷ 0 ∷ 7 ∷ 0 ∷ 0 ∷ 0 ∷ 0 ∷ 0 ∷ 0 ∷ 0 ∷ 0 ∷ 8 ∷ 0 ∷ 0 ∷ 0 ∷ 0 ∷ 0 ∷ 0 ∷ 0 ∷ 0 ∷ 0 ∷ 0 ∷ 0 ∷ 0 ∷ 0 ∷ 0 ∷ 0 ∷ 0 ∷ 0 ∷ 2 ∷ 0 ∷ 0 ∷ 3 ∷ 0 ∷ 0 ∷ 4 ∷ 0 ∷ 0 ∷ 5 ∷ 0 ∷ 0 ∷ 6 ∷ 0 ∷ 0 ∷ 7 ∷ 0 ∷ 0 ∷ 8 ∷ 0 ∷ 0 ∷ 0 ∷ 0 ∷ 0 ∷ [])

first_after : List ℕ
first_after = (1 ∷ 8 ∷ 8 ∷ 16 ∷ 0 ∷ 1 ∷ 0 ∷ 2 ∷ 1 ∷ 16 ∷ 32 ∷ 288 ∷ 360 ∷ 384 ∷ 0 ∷ 0 ∷ 32 ∷ 0 ∷ 0 ∷ 0 ∷ 0 ∷ 0 ∷ 0 ∷ 0 ∷ 0 ∷ 0 ∷ 0 ∷ 0 ∷ 0 ∷ 0 ∷ 0 ∷ 0 ∷ 0 ∷ 0 ∷ 0 ∷ 0 ∷ 0 ∷ 0 ∷ 0 ∷ 1 ∷ 0 ∷ 0 ∷ 0 ∷ 0 ∷ 0 ∷ 0 ∷ 0 ∷ 0 ∷ 0 ∷ 0 ∷ 0 ∷ 0 ∷ 0 ∷ 0 ∷ 0 ∷ 0 ∷ 0 ∷ 0 ∷ 0 ∷ 0 ∷ 0 ∷ 0 ∷ 0 ∷ 0 ∷ 0 ∷ 0 ∷ 0 ∷ 0 ∷ 0 ∷ 0 ∷ 0 ∷ 0 ∷ 0 ∷ 0 ∷ 0 ∷ 0 ∷ 0 ∷ 0 ∷ 0 ∷ 0 ∷ 0 ∷ 0 ∷ 0 ∷ 0 ∷ 0 ∷ 0 ∷ 0 ∷ 0 ∷ 0 ∷ 0 ∷ 0 ∷ 0 ∷ 0 ∷ 0 ∷ 0 ∷ 0 ∷ 0 ∷ 0 ∷ 0 ∷ 0 ∷ 0 ∷ 0 ∷ 0 ∷ 0 ∷ 0 ∷ 0 ∷ 0 ∷ 0 ∷ 0 ∷ 0 ∷ 0 ∷ 0 ∷ 0 ∷ 0 ∷ 0 ∷ 0 ∷ 0 ∷ 0 ∷ 0 ∷ 0 ∷ 0 ∷ 0 ∷ 0 ∷ 0 ∷ 0 ∷ 0 ∷ 0 ∷ 0 ∷ 0 ∷ 0 ∷ 0 ∷ 0 ∷ 0 ∷ 0 ∷ 0 ∷ 0 ∷ 0 ∷ 0 ∷ 0 ∷ 0 ∷ 0 ∷ 0 ∷ 0 ∷ 0 ∷ 0 ∷ 0 ∷ 0 ∷ 0 ∷ 0 ∷ 0 ∷ 0 ∷ 0 ∷ 0 ∷ 0 ∷ 0 ∷ 0 ∷ 0 ∷ 0 ∷ 0 ∷ 0 ∷ 0 ∷ 0 ∷ 0 ∷ 0 ∷ 0 ∷ 0 ∷ 0 ∷ 0 ∷ 0 ∷ 0 ∷ 0 ∷ 0 ∷ 0 ∷ 0 ∷ 0 ∷ 0 ∷ 0 ∷ 0 ∷ 0 ∷ 0 ∷ 0 ∷ 0 ∷ 0 ∷ 0 ∷ 0 ∷ 0 ∷ 0 ∷ 0 ∷ 0 ∷ 0 ∷ 0 ∷ 0 ∷ 0 ∷ 0 ∷ 0 ∷ 0 ∷ 0 ∷ 0 ∷ 0 ∷ 0 ∷ 0 ∷ 0 ∷ 0 ∷ 0 ∷ 0 ∷ 0 ∷ 0 ∷ 0 ∷ 0 ∷ 0 ∷ 0 ∷ 0 ∷ 0 ∷ 0 ∷ 0 ∷ 0 ∷ 0 ∷ 0 ∷ 0 ∷ 0 ∷ 0 ∷ 0 ∷ 0 ∷ 0 ∷ 0 ∷ 0 ∷ 0 ∷ 0 ∷ 0 ∷ 0 ∷ 0 ∷ 0 ∷ 0 ∷ 0 ∷ 0 ∷ 0 ∷ 0 ∷ 0 ∷ 0 ∷ 0 ∷ 0 ∷ 0 ∷ 0 ∷ 0 ∷ 0 ∷ 0 ∷ 0 ∷ 0 ∷ 0 ∷ 0 ∷ 0 ∷ 0 ∷ 0 ∷ 0 ∷ 0 ∷ 0 ∷ 0 ∷ 0 ∷ 0 ∷ 0 ∷ 0 ∷ 0 ∷ 0 ∷ 0 ∷ 0 ∷ 0 ∷ 0 ∷ 0 ∷ 0 ∷ 0 ∷ 0 ∷ 0 ∷ 0 ∷ 0 ∷ 0 ∷ 0 ∷ 0 ∷ 0 ∷ 0 ∷ 0 ∷ 0 ∷ 0 ∷ 0 ∷ 0 ∷ 0 ∷ 0 ∷ 0 ∷ 0 ∷ 0 ∷ 1 ∷ 922746880 ∷ 0 ∷ 0 ∷ 0 ∷ 0 ∷ 0 ∷ 0 ∷ 3 ∷ 0 ∷ 0 ∷ 0 ∷ 0 ∷ 0 ∷ 0 ∷ 0 ∷ 0 ∷ 4 ∷ 0 ∷ 0 ∷ 0 ∷ 0 ∷ 0 ∷ 0 ∷ 0 ∷ 0 ∷ 5 ∷ 0 ∷ 0 ∷ 0 ∷ 0 ∷ 0 ∷ 0 ∷ 0 ∷ 0 ∷ 6 ∷ 0 ∷ 0 ∷ 0 ∷ 0 ∷ 0 ∷ 0 ∷ 0 ∷ 0 ∷ 7 ∷ 0 ∷ 0 ∷ 0 ∷ 0 ∷ 0 ∷ 0 ∷ 0 ∷ 0 ∷ 8 ∷ 0 ∷ 0 ∷ 0 ∷ 0 ∷ 0 ∷ 0 ∷ 0 ∷ 0 ∷ 0 ∷ 0 ∷ 0 ∷ 0 ∷ 0 ∷ 0 ∷ 0 ∷ 0 ∷ 0 ∷ 2 ∷ 0 ∷ 0 ∷ 3 ∷ 0 ∷ 0 ∷ 4 ∷ 0 ∷ 0 ∷ 5 ∷ 0 ∷ 0 ∷ 6 ∷ 0 ∷ 0 ∷ 7 ∷ 0 ∷ 0 ∷ 8 ∷ 0 ∷ 0 ∷ 0 ∷ 0 ∷ 0 ∷ [])

first_sound : Layout.sound first_before ≡ true
unfolding open_all first_before
first_sound = refl

first_with_bounds : Layout.sound (set first_before 14 1026) ≡ false
unfolding open_all first_before
first_with_bounds = refl

first_whole : Job.job first_before (replicate 384 7) worked_in (replicate 86 1) (tallied 0 0 0 0 0 0) ≡ (record { number = 0; lines = 9; bytes = 86; words = first_after; out = worked_out; scratch = replicate 384 0; tally = tallied 2 1 1 0 0 10 })
unfolding open_all tallied worked_in worked_out first_before first_after
first_whole = refl

-- stopped by 10 before its third line: two lines stand, and the output past them stays
two_lines : List ℕ
two_lines = (2 ∷ 8 ∷ 8 ∷ 16 ∷ 0 ∷ 2 ∷ 0 ∷ 3 ∷ 1 ∷ 16 ∷ 32 ∷ 288 ∷ 360 ∷ 384 ∷ 1026 ∷ 0 ∷ 32 ∷ 0 ∷ 0 ∷ 0 ∷ 0 ∷ 0 ∷ 0 ∷ 0 ∷ 0 ∷ 0 ∷ 0 ∷ 0 ∷ 0 ∷ 0 ∷ 0 ∷ 0 ∷ 0 ∷ 0 ∷ 0 ∷ 0 ∷ 0 ∷ 0 ∷ 0 ∷ 1 ∷ 0 ∷ 0 ∷ 0 ∷ 0 ∷ 0 ∷ 0 ∷ 0 ∷ 0 ∷ 0 ∷ 0 ∷ 0 ∷ 0 ∷ 0 ∷ 0 ∷ 0 ∷ 0 ∷ 0 ∷ 0 ∷ 0 ∷ 0 ∷ 0 ∷ 0 ∷ 0 ∷ 0 ∷ 0 ∷ 0 ∷ 0 ∷ 0 ∷ 0 ∷ 0 ∷ 0 ∷ 0 ∷ 0 ∷ 0 ∷ 0 ∷ 0 ∷ 0 ∷ 0 ∷ 0 ∷ 0 ∷ 0 ∷ 0 ∷ 0 ∷ 0 ∷ 0 ∷ 0 ∷ 0 ∷ 0 ∷ 0 ∷ 0 ∷ 0 ∷ 0 ∷ 0 ∷ 0 ∷ 0 ∷ 0 ∷ 0 ∷ 0 ∷ 0 ∷ 0 ∷ 0 ∷ 0 ∷ 0 ∷ 0 ∷ 0 ∷ 0 ∷ 0 ∷ 0 ∷ 0 ∷ 0 ∷ 0 ∷ 0 ∷ 0 ∷ 0 ∷ 0 ∷ 0 ∷ 0 ∷ 0 ∷ 0 ∷ 0 ∷ 0 ∷ 0 ∷ 0 ∷ 0 ∷ 0 ∷ 0 ∷ 0 ∷ 0 ∷ 0 ∷ 0 ∷ 0 ∷ 0 ∷ 0 ∷ 0 ∷ 0 ∷ 0 ∷ 0 ∷ 0 ∷ 0 ∷ 0 ∷ 0 ∷ 0 ∷ 0 ∷ 0 ∷ 0 ∷ 0 ∷ 0 ∷ 0 ∷ 0 ∷ 0 ∷ 0 ∷ 0 ∷ 0 ∷ 0 ∷ 0 ∷ 0 ∷ 0 ∷ 0 ∷ 0 ∷ 0 ∷ 0 ∷ 0 ∷ 0 ∷ 0 ∷ 0 ∷ 0 ∷ 0 ∷ 0 ∷ 0 ∷ 0 ∷ 0 ∷ 0 ∷ 0 ∷ 0 ∷ 0 ∷ 0 ∷ 0 ∷ 0 ∷ 0 ∷ 0 ∷ 0 ∷ 0 ∷ 0 ∷ 0 ∷ 0 ∷ 0 ∷ 0 ∷ 0 ∷ 0 ∷ 0 ∷ 0 ∷ 0 ∷ 0 ∷ 0 ∷ 0 ∷ 0 ∷ 0 ∷ 0 ∷ 0 ∷ 0 ∷ 0 ∷ 0 ∷ 0 ∷ 0 ∷ 0 ∷ 0 ∷ 0 ∷ 0 ∷ 0 ∷ 0 ∷ 0 ∷ 0 ∷ 0 ∷ 0 ∷ 0 ∷ 0 ∷ 0 ∷ 0 ∷ 0 ∷ 0 ∷ 0 ∷ 0 ∷ 0 ∷ 0 ∷ 0 ∷ 0 ∷ 0 ∷ 0 ∷ 0 ∷ 0 ∷ 0 ∷ 0 ∷ 0 ∷ 0 ∷ 0 ∷ 0 ∷ 0 ∷ 0 ∷ 0 ∷ 0 ∷ 0 ∷ 0 ∷ 0 ∷ 0 ∷ 0 ∷ 0 ∷ 0 ∷ 0 ∷ 0 ∷ 0 ∷ 0 ∷ 0 ∷ 0 ∷ 0 ∷ 0 ∷ 0 ∷ 0 ∷ 0 ∷ 0 ∷ 0 ∷ 0 ∷ 0 ∷ 0 ∷ 0 ∷ 0 ∷ 0 ∷ 0 ∷ 0 ∷ 0 ∷ 0 ∷ 0 ∷ 0 ∷ 0 ∷ 0 ∷ 0 ∷ 0 ∷ 0 ∷ 0 ∷ 0 ∷ 0 ∷ 0 ∷ 0 ∷ 0 ∷ 0 ∷ 0 ∷ 0 ∷ 0 ∷ 0 ∷ 2 ∷ 1 ∷ 922746880 ∷ 0 ∷ 0 ∷ 0 ∷ 0 ∷ 0 ∷ 0 ∷ 0 ∷ 3 ∷ 808466176 ∷ 0 ∷ 0 ∷ 0 ∷ 0 ∷ 0 ∷ 0 ∷ 4 ∷ 0 ∷ 0 ∷ 0 ∷ 0 ∷ 0 ∷ 0 ∷ 0 ∷ 0 ∷ 5 ∷ 0 ∷ 0 ∷ 0 ∷ 0 ∷ 0 ∷ 0 ∷ 0 ∷ 0 ∷ 6 ∷ 0 ∷ 0 ∷ 0 ∷ 0 ∷ 0 ∷ 0 ∷ 0 ∷ 0 ∷ 7 ∷ 0 ∷ 0 ∷ 0 ∷ 0 ∷ 0 ∷ 0 ∷ 0 ∷ 0 ∷ 8 ∷ 0 ∷ 0 ∷ 0 ∷ 0 ∷ 0 ∷ 0 ∷ 0 ∷ 0 ∷ 0 ∷ 0 ∷ 0 ∷ 0 ∷ 0 ∷ 0 ∷ 0 ∷ 0 ∷ 0 ∷ 2 ∷ 0 ∷ 0 ∷ 3 ∷ 0 ∷ 0 ∷ 4 ∷ 0 ∷ 0 ∷ 5 ∷ 0 ∷ 0 ∷ 6 ∷ 0 ∷ 0 ∷ 7 ∷ 0 ∷ 0 ∷ 8 ∷ 0 ∷ 0 ∷ 0 ∷ 0 ∷ 0 ∷ [])

stopped : Job.job before (replicate 384 7) worked_in (replicate 23 1) (tallied 0 0 0 0 0 0) ≡ (record { number = 10; lines = 2; bytes = 16; words = two_lines; out = (48 ∷ 32 ∷ 48 ∷ 32 ∷ 48 ∷ 32 ∷ 48 ∷ 10 ∷ 48 ∷ 32 ∷ 49 ∷ 32 ∷ 48 ∷ 32 ∷ 48 ∷ 10 ∷ []) ++ replicate 7 1; scratch = replicate 384 0; tally = tallied 2 0 0 0 0 1 })
unfolding open_all tallied worked_in before two_lines
stopped = refl

-- 11 leaves all as it was; 3 and 13 clean the scratch, and 13 comes before 3; an empty text has no line
no_scratch : Job.job before (replicate 383 7) worked_in (replicate 30 1) (tallied 1 0 0 0 0 0) ≡ (record { number = 11; lines = 0; bytes = 0; words = before; out = replicate 30 1; scratch = replicate 383 7; tally = tallied 1 0 0 0 0 0 })
unfolding open_all tallied worked_in before
no_scratch = refl

not_sound_lem : Job.job (set before 14 1) (replicate 385 7) worked_in (replicate 30 1) (tallied 1 0 0 0 0 0) ≡ (record { number = 3; lines = 0; bytes = 0; words = set before 14 1; out = replicate 30 1; scratch = replicate 384 0 ++ (7 ∷ []); tally = tallied 1 0 0 0 0 0 })
unfolding open_all tallied worked_in before
not_sound_lem = refl

too_long : Job.job (set before 14 1) (replicate 384 7) (replicate 16385 88) (replicate 30 1) (tallied 1 0 0 0 0 0) ≡ (record { number = 13; lines = 0; bytes = 0; words = set before 14 1; out = replicate 30 1; scratch = replicate 384 0; tally = tallied 1 0 0 0 0 0 })
unfolding open_all tallied before
too_long = refl

no_lines : Job.job before (replicate 384 7) [] [] (tallied 1 0 0 0 0 0) ≡ (record { number = 0; lines = 0; bytes = 0; words = before; out = []; scratch = replicate 384 0; tally = tallied 1 0 0 0 0 0 })
unfolding open_all tallied before
no_lines = refl

-- `E 7⏎F 7 20 9⏎F 7 10 5⏎F 7 20 8⏎F 7 10 4⏎S 7⏎`
late_in : List ℕ
late_in = (69 ∷ 32 ∷ 55 ∷ 10 ∷ 70 ∷ 32 ∷ 55 ∷ 32 ∷ 50 ∷ 48 ∷ 32 ∷ 57 ∷ 10 ∷ 70 ∷ 32 ∷ 55 ∷ 32 ∷ 49 ∷ 48 ∷ 32 ∷ 53 ∷ 10 ∷ 70 ∷ 32 ∷ 55 ∷ 32 ∷ 50 ∷ 48 ∷ 32 ∷ 56 ∷ 10 ∷ 70 ∷ 32 ∷ 55 ∷ 32 ∷ 49 ∷ 48 ∷ 32 ∷ 52 ∷ 10 ∷ 83 ∷ 32 ∷ 55 ∷ 10 ∷ [])

-- late slips are listed by rising day, equal days as filed, and stand in the words as filed
late_words : List ℕ
late_words = (2 ∷ 8 ∷ 8 ∷ 16 ∷ 0 ∷ 1 ∷ 4 ∷ 2 ∷ 5 ∷ 16 ∷ 32 ∷ 288 ∷ 360 ∷ 384 ∷ 1026 ∷ 0 ∷ 32 ∷ 0 ∷ 0 ∷ 0 ∷ 0 ∷ 0 ∷ 0 ∷ 0 ∷ 0 ∷ 0 ∷ 0 ∷ 0 ∷ 0 ∷ 0 ∷ 0 ∷ 0 ∷ 0 ∷ 0 ∷ 0 ∷ 0 ∷ 0 ∷ 0 ∷ 0 ∷ 1 ∷ 0 ∷ 0 ∷ 0 ∷ 0 ∷ 0 ∷ 0 ∷ 0 ∷ 0 ∷ 0 ∷ 0 ∷ 0 ∷ 0 ∷ 0 ∷ 0 ∷ 0 ∷ 0 ∷ 0 ∷ 0 ∷ 0 ∷ 0 ∷ 0 ∷ 0 ∷ 0 ∷ 0 ∷ 0 ∷ 0 ∷ 0 ∷ 0 ∷ 0 ∷ 0 ∷ 0 ∷ 0 ∷ 0 ∷ 0 ∷ 0 ∷ 0 ∷ 0 ∷ 0 ∷ 0 ∷ 0 ∷ 0 ∷ 0 ∷ 0 ∷ 0 ∷ 0 ∷ 0 ∷ 0 ∷ 0 ∷ 0 ∷ 0 ∷ 0 ∷ 0 ∷ 0 ∷ 0 ∷ 0 ∷ 0 ∷ 0 ∷ 0 ∷ 0 ∷ 0 ∷ 0 ∷ 0 ∷ 0 ∷ 0 ∷ 0 ∷ 0 ∷ 0 ∷ 0 ∷ 0 ∷ 0 ∷ 0 ∷ 0 ∷ 0 ∷ 0 ∷ 0 ∷ 0 ∷ 0 ∷ 0 ∷ 0 ∷ 0 ∷ 0 ∷ 0 ∷ 0 ∷ 0 ∷ 0 ∷ 0 ∷ 0 ∷ 0 ∷ 0 ∷ 0 ∷ 0 ∷ 0 ∷ 0 ∷ 0 ∷ 0 ∷ 0 ∷ 0 ∷ 0 ∷ 0 ∷ 0 ∷ 0 ∷ 0 ∷ 0 ∷ 0 ∷ 0 ∷ 0 ∷ 0 ∷ 0 ∷ 0 ∷ 0 ∷ 0 ∷ 0 ∷ 0 ∷ 0 ∷ 0 ∷ 0 ∷ 0 ∷ 0 ∷ 0 ∷ 0 ∷ 0 ∷ 0 ∷ 0 ∷ 0 ∷ 0 ∷ 0 ∷ 0 ∷ 0 ∷ 0 ∷ 0 ∷ 0 ∷ 0 ∷ 0 ∷ 0 ∷ 0 ∷ 0 ∷ 0 ∷ 0 ∷ 0 ∷ 0 ∷ 0 ∷ 0 ∷ 0 ∷ 0 ∷ 0 ∷ 0 ∷ 0 ∷ 0 ∷ 0 ∷ 0 ∷ 0 ∷ 0 ∷ 0 ∷ 0 ∷ 0 ∷ 0 ∷ 0 ∷ 0 ∷ 0 ∷ 0 ∷ 0 ∷ 0 ∷ 0 ∷ 0 ∷ 0 ∷ 0 ∷ 0 ∷ 0 ∷ 0 ∷ 0 ∷ 0 ∷ 0 ∷ 0 ∷ 0 ∷ 0 ∷ 0 ∷ 0 ∷ 0 ∷ 0 ∷ 0 ∷ 0 ∷ 0 ∷ 0 ∷ 0 ∷ 0 ∷ 0 ∷ 0 ∷ 0 ∷ 0 ∷ 0 ∷ 0 ∷ 0 ∷ 0 ∷ 0 ∷ 0 ∷ 0 ∷ 0 ∷ 0 ∷ 0 ∷ 0 ∷ 0 ∷ 0 ∷ 0 ∷ 0 ∷ 0 ∷ 0 ∷ 0 ∷ 0 ∷ 0 ∷ 0 ∷ 0 ∷ 0 ∷ 0 ∷ 0 ∷ 0 ∷ 0 ∷ 0 ∷ 0 ∷ 0 ∷ 0 ∷ 0 ∷ 0 ∷ 0 ∷ 0 ∷ 0 ∷ 0 ∷ 0 ∷ 0 ∷ 0 ∷ 0 ∷ 0 ∷ 0 ∷ 0 ∷ 0 ∷ 0 ∷ 0 ∷ 0 ∷ 0 ∷ 0 ∷ 0 ∷ 0 ∷ 0 ∷ 0 ∷ 0 ∷ 0 ∷ 0 ∷ 0 ∷ 0 ∷ 0 ∷ 1 ∷ 922746880 ∷ 0 ∷ 0 ∷ 0 ∷ 1 ∷ 4 ∷ 4 ∷ 3 ∷ 0 ∷ 0 ∷ 0 ∷ 0 ∷ 0 ∷ 0 ∷ 0 ∷ 0 ∷ 4 ∷ 0 ∷ 0 ∷ 0 ∷ 0 ∷ 0 ∷ 0 ∷ 0 ∷ 0 ∷ 5 ∷ 0 ∷ 0 ∷ 0 ∷ 0 ∷ 0 ∷ 0 ∷ 0 ∷ 0 ∷ 6 ∷ 0 ∷ 0 ∷ 0 ∷ 0 ∷ 0 ∷ 0 ∷ 0 ∷ 0 ∷ 7 ∷ 0 ∷ 0 ∷ 0 ∷ 0 ∷ 0 ∷ 0 ∷ 0 ∷ 0 ∷ 8 ∷ 0 ∷ 0 ∷ 0 ∷ 0 ∷ 0 ∷ 0 ∷ 0 ∷ 0 ∷ 0 ∷ 0 ∷ 0 ∷ 0 ∷ 0 ∷ 0 ∷ 0 ∷ 0 ∷ 0 ∷ 2 ∷ 20 ∷ 9 ∷ 3 ∷ 10 ∷ 5 ∷ 4 ∷ 20 ∷ 8 ∷ 0 ∷ 10 ∷ 4 ∷ 6 ∷ 0 ∷ 0 ∷ 7 ∷ 0 ∷ 0 ∷ 8 ∷ 0 ∷ 0 ∷ 0 ∷ 0 ∷ 0 ∷ [])

late : Job.job before (replicate 384 7) late_in (replicate 90 1) (tallied 0 0 0 0 0 0) ≡ (record { number = 0; lines = 6; bytes = 68; words = late_words; out = (48 ∷ 32 ∷ 48 ∷ 32 ∷ 48 ∷ 32 ∷ 48 ∷ 10 ∷ 48 ∷ 32 ∷ 49 ∷ 32 ∷ 48 ∷ 32 ∷ 49 ∷ 10 ∷ 48 ∷ 32 ∷ 49 ∷ 32 ∷ 48 ∷ 32 ∷ 50 ∷ 10 ∷ 48 ∷ 32 ∷ 49 ∷ 32 ∷ 48 ∷ 32 ∷ 51 ∷ 10 ∷ 48 ∷ 32 ∷ 49 ∷ 32 ∷ 48 ∷ 32 ∷ 52 ∷ 10 ∷ 48 ∷ 32 ∷ 49 ∷ 32 ∷ 48 ∷ 32 ∷ 52 ∷ 32 ∷ 49 ∷ 48 ∷ 58 ∷ 53 ∷ 32 ∷ 49 ∷ 48 ∷ 58 ∷ 52 ∷ 32 ∷ 50 ∷ 48 ∷ 58 ∷ 57 ∷ 32 ∷ 50 ∷ 48 ∷ 58 ∷ 56 ∷ 10 ∷ []) ++ replicate 22 1; scratch = replicate 384 0; tally = tallied 1 0 4 0 0 5 })
unfolding open_all tallied late_in before late_words
late = refl

-- `7`, `07`, `007` in bucket 7 of a (16, 7) table: split to `07` and `7`, `007`, and joined again
card : List ℕ → Model.Card
card y = record { at = 1; serial = y; faults = [] }

seven : Model.Store
unfolding card usual
seven = record { shape = usual 8 8; maxp = 16; p = 7; buckets = set (replicate 23 []) 7 (card (55 ∷ []) ∷ card (48 ∷ 55 ∷ []) ∷ card (48 ∷ 48 ∷ 55 ∷ []) ∷ []); free = []; free_faults = [] }

serials : Model.Store → ℕ → List (List ℕ)
serials s b = map (λ c. c.serial) (Model.bucket s b)

split_stay : serials (Model.split seven) 7 ≡ ((48 ∷ 55 ∷ []) ∷ [])
unfolding open_all card seven serials
split_stay = refl

split_go : serials (Model.split seven) 23 ≡ ((55 ∷ []) ∷ (48 ∷ 48 ∷ 55 ∷ []) ∷ [])
unfolding open_all card seven serials
split_go = refl

split_state : (Model.split seven).p ≡ 8
unfolding open_all card seven serials
split_state = refl

joined : serials (Model.contract (Model.split seven)) 7 ≡ ((48 ∷ 55 ∷ []) ∷ (55 ∷ []) ∷ (48 ∷ 48 ∷ 55 ∷ []) ∷ [])
unfolding open_all card seven serials
joined = refl

joined_size : Model.size (Model.contract (Model.split seven)) ≡ 23
unfolding open_all card seven serials
joined_size = refl

-- 17 cards in a (16, 1) table of the bounds 2 and 1: three stand in its last bucket; with `4` withdrawn from bucket 4 they go behind the one of bucket 0
seventeen : Model.Store
unfolding card
seventeen = record { shape = Calls.shape_for (record { cards = 17; faults = 1; upper = 2; lower = 1 }); maxp = 16; p = 1; buckets = ((card (48 ∷ 48 ∷ []) ∷ []) ∷ (card (49 ∷ []) ∷ card (65 ∷ []) ∷ []) ∷ (card (50 ∷ []) ∷ card (66 ∷ []) ∷ []) ∷ (card (51 ∷ []) ∷ card (67 ∷ []) ∷ []) ∷ (card (68 ∷ []) ∷ card (52 ∷ []) ∷ []) ∷ (card (53 ∷ []) ∷ []) ∷ (card (54 ∷ []) ∷ []) ∷ (card (55 ∷ []) ∷ []) ∷ (card (56 ∷ []) ∷ []) ∷ (card (57 ∷ []) ∷ []) ∷ ([]) ∷ ([]) ∷ ([]) ∷ ([]) ∷ ([]) ∷ ([]) ∷ (card (48 ∷ []) ∷ card (80 ∷ []) ∷ card (65 ∷ 79 ∷ []) ∷ []) ∷ []); free = []; free_faults = [] }

contracted : (Calls.withdraw_step seventeen (52 ∷ 0 ∷ 0 ∷ 0 ∷ 0 ∷ 0 ∷ 0 ∷ 0 ∷ 0 ∷ 0 ∷ 0 ∷ 0 ∷ 0 ∷ 0 ∷ 0 ∷ 0 ∷ []) 1 []).answer ≡ (record { number = 0; comparisons = 2; scanned = 3; faults = 0 })
unfolding open_all card seventeen serials
contracted = refl

contracted_size : Model.size (Calls.withdraw_step seventeen (52 ∷ 0 ∷ 0 ∷ 0 ∷ 0 ∷ 0 ∷ 0 ∷ 0 ∷ 0 ∷ 0 ∷ 0 ∷ 0 ∷ 0 ∷ 0 ∷ 0 ∷ 0 ∷ []) 1 []).store ≡ 16
unfolding open_all card seventeen serials
contracted_size = refl

contracted_bucket : serials (Calls.withdraw_step seventeen (52 ∷ 0 ∷ 0 ∷ 0 ∷ 0 ∷ 0 ∷ 0 ∷ 0 ∷ 0 ∷ 0 ∷ 0 ∷ 0 ∷ 0 ∷ 0 ∷ 0 ∷ 0 ∷ []) 1 []).store 0 ≡ ((48 ∷ 48 ∷ []) ∷ (48 ∷ []) ∷ (80 ∷ []) ∷ (65 ∷ 79 ∷ []) ∷ [])
unfolding open_all card seventeen serials
contracted_bucket = refl

-- C = 1: a second card 8, the same card 6, a new card after withdrawal 0; F = 1: a second fault 9, and 0 after withdrawal and entry

-- `E 7⏎E 8⏎E 7⏎W 7⏎E 8⏎`
one_card_in : List ℕ
one_card_in = (69 ∷ 32 ∷ 55 ∷ 10 ∷ 69 ∷ 32 ∷ 56 ∷ 10 ∷ 69 ∷ 32 ∷ 55 ∷ 10 ∷ 87 ∷ 32 ∷ 55 ∷ 10 ∷ 69 ∷ 32 ∷ 56 ∷ 10 ∷ [])

one_card : answers 1 1 one_card_in ≡ (48 ∷ 32 ∷ 48 ∷ 32 ∷ 48 ∷ 32 ∷ 48 ∷ 10 ∷ 56 ∷ 32 ∷ 48 ∷ 32 ∷ 48 ∷ 32 ∷ 48 ∷ 10 ∷ 54 ∷ 32 ∷ 49 ∷ 32 ∷ 48 ∷ 32 ∷ 48 ∷ 10 ∷ 48 ∷ 32 ∷ 49 ∷ 32 ∷ 48 ∷ 32 ∷ 48 ∷ 10 ∷ 48 ∷ 32 ∷ 48 ∷ 32 ∷ 48 ∷ 32 ∷ 48 ∷ 10 ∷ [])
unfolding answers one_card_in
one_card = refl

-- `E 7⏎F 7 1 1⏎F 7 2 2⏎W 7⏎E 7⏎F 7 3 3⏎S 7⏎`
one_fault_in : List ℕ
one_fault_in = (69 ∷ 32 ∷ 55 ∷ 10 ∷ 70 ∷ 32 ∷ 55 ∷ 32 ∷ 49 ∷ 32 ∷ 49 ∷ 10 ∷ 70 ∷ 32 ∷ 55 ∷ 32 ∷ 50 ∷ 32 ∷ 50 ∷ 10 ∷ 87 ∷ 32 ∷ 55 ∷ 10 ∷ 69 ∷ 32 ∷ 55 ∷ 10 ∷ 70 ∷ 32 ∷ 55 ∷ 32 ∷ 51 ∷ 32 ∷ 51 ∷ 10 ∷ 83 ∷ 32 ∷ 55 ∷ 10 ∷ [])

one_fault : answers 1 1 one_fault_in ≡ (48 ∷ 32 ∷ 48 ∷ 32 ∷ 48 ∷ 32 ∷ 48 ∷ 10 ∷ 48 ∷ 32 ∷ 49 ∷ 32 ∷ 48 ∷ 32 ∷ 49 ∷ 10 ∷ 57 ∷ 32 ∷ 49 ∷ 32 ∷ 48 ∷ 32 ∷ 48 ∷ 10 ∷ 48 ∷ 32 ∷ 49 ∷ 32 ∷ 48 ∷ 32 ∷ 49 ∷ 32 ∷ 49 ∷ 58 ∷ 49 ∷ 10 ∷ 48 ∷ 32 ∷ 48 ∷ 32 ∷ 48 ∷ 32 ∷ 48 ∷ 10 ∷ 48 ∷ 32 ∷ 49 ∷ 32 ∷ 48 ∷ 32 ∷ 49 ∷ 10 ∷ 48 ∷ 32 ∷ 49 ∷ 32 ∷ 48 ∷ 32 ∷ 49 ∷ 32 ∷ 51 ∷ 58 ∷ 51 ∷ 10 ∷ [])
unfolding answers one_fault_in
one_fault = refl

-- outside job vectors, on depot's limits

-- `E 7⏎S 7`
in_004 : List ℕ
in_004 = (69 ∷ 32 ∷ 55 ∷ 10 ∷ 83 ∷ 32 ∷ 55 ∷ [])

vector_004 : answers 256 512 in_004 ≡ (48 ∷ 32 ∷ 48 ∷ 32 ∷ 48 ∷ 32 ∷ 48 ∷ 10 ∷ 48 ∷ 32 ∷ 49 ∷ 32 ∷ 48 ∷ 32 ∷ 48 ∷ 10 ∷ [])
unfolding answers in_004
vector_004 = refl

-- `E 7⏎ `
in_007 : List ℕ
in_007 = (69 ∷ 32 ∷ 55 ∷ 10 ∷ 32 ∷ [])

vector_007 : answers 256 512 in_007 ≡ (48 ∷ 32 ∷ 48 ∷ 32 ∷ 48 ∷ 32 ∷ 48 ∷ 10 ∷ 49 ∷ 50 ∷ 32 ∷ 48 ∷ 32 ∷ 48 ∷ 32 ∷ 48 ∷ 10 ∷ [])
unfolding answers in_007
vector_007 = refl

-- `E\r7⏎E \r7⏎E 7⏎S 7\r`
in_010 : List ℕ
in_010 = (69 ∷ 13 ∷ 55 ∷ 10 ∷ 69 ∷ 32 ∷ 13 ∷ 55 ∷ 10 ∷ 69 ∷ 32 ∷ 55 ∷ 10 ∷ 83 ∷ 32 ∷ 55 ∷ 13 ∷ [])

vector_010 : answers 256 512 in_010 ≡ (49 ∷ 50 ∷ 32 ∷ 48 ∷ 32 ∷ 48 ∷ 32 ∷ 48 ∷ 10 ∷ 52 ∷ 32 ∷ 48 ∷ 32 ∷ 48 ∷ 32 ∷ 48 ∷ 10 ∷ 48 ∷ 32 ∷ 48 ∷ 32 ∷ 48 ∷ 32 ∷ 48 ∷ 10 ∷ 52 ∷ 32 ∷ 48 ∷ 32 ∷ 48 ∷ 32 ∷ 48 ∷ 10 ∷ [])
unfolding answers in_010
vector_010 = refl

-- `E\t7⏎E,7⏎E 7\t⏎F\t7\t1\t1⏎E\x0b7⏎E 7,1⏎`
in_013 : List ℕ
in_013 = (69 ∷ 9 ∷ 55 ∷ 10 ∷ 69 ∷ 44 ∷ 55 ∷ 10 ∷ 69 ∷ 32 ∷ 55 ∷ 9 ∷ 10 ∷ 70 ∷ 9 ∷ 55 ∷ 9 ∷ 49 ∷ 9 ∷ 49 ∷ 10 ∷ 69 ∷ 11 ∷ 55 ∷ 10 ∷ 69 ∷ 32 ∷ 55 ∷ 44 ∷ 49 ∷ 10 ∷ [])

vector_013 : answers 256 512 in_013 ≡ (49 ∷ 50 ∷ 32 ∷ 48 ∷ 32 ∷ 48 ∷ 32 ∷ 48 ∷ 10 ∷ 49 ∷ 50 ∷ 32 ∷ 48 ∷ 32 ∷ 48 ∷ 32 ∷ 48 ∷ 10 ∷ 52 ∷ 32 ∷ 48 ∷ 32 ∷ 48 ∷ 32 ∷ 48 ∷ 10 ∷ 49 ∷ 50 ∷ 32 ∷ 48 ∷ 32 ∷ 48 ∷ 32 ∷ 48 ∷ 10 ∷ 49 ∷ 50 ∷ 32 ∷ 48 ∷ 32 ∷ 48 ∷ 32 ∷ 48 ∷ 10 ∷ 52 ∷ 32 ∷ 48 ∷ 32 ∷ 48 ∷ 32 ∷ 48 ∷ 10 ∷ [])
unfolding answers in_013
vector_013 = refl

-- `E⏎S⏎W⏎F⏎E 7 8⏎S 7 8⏎W 7 8⏎F 7⏎F 7 1⏎F 7 1 1 1⏎E 7⏎F 7 1 1⏎S 7⏎`
in_016 : List ℕ
in_016 = (69 ∷ 10 ∷ 83 ∷ 10 ∷ 87 ∷ 10 ∷ 70 ∷ 10 ∷ 69 ∷ 32 ∷ 55 ∷ 32 ∷ 56 ∷ 10 ∷ 83 ∷ 32 ∷ 55 ∷ 32 ∷ 56 ∷ 10 ∷ 87 ∷ 32 ∷ 55 ∷ 32 ∷ 56 ∷ 10 ∷ 70 ∷ 32 ∷ 55 ∷ 10 ∷ 70 ∷ 32 ∷ 55 ∷ 32 ∷ 49 ∷ 10 ∷ 70 ∷ 32 ∷ 55 ∷ 32 ∷ 49 ∷ 32 ∷ 49 ∷ 32 ∷ 49 ∷ 10 ∷ 69 ∷ 32 ∷ 55 ∷ 10 ∷ 70 ∷ 32 ∷ 55 ∷ 32 ∷ 49 ∷ 32 ∷ 49 ∷ 10 ∷ 83 ∷ 32 ∷ 55 ∷ 10 ∷ [])

vector_016 : answers 256 512 in_016 ≡ (49 ∷ 50 ∷ 32 ∷ 48 ∷ 32 ∷ 48 ∷ 32 ∷ 48 ∷ 10 ∷ 49 ∷ 50 ∷ 32 ∷ 48 ∷ 32 ∷ 48 ∷ 32 ∷ 48 ∷ 10 ∷ 49 ∷ 50 ∷ 32 ∷ 48 ∷ 32 ∷ 48 ∷ 32 ∷ 48 ∷ 10 ∷ 49 ∷ 50 ∷ 32 ∷ 48 ∷ 32 ∷ 48 ∷ 32 ∷ 48 ∷ 10 ∷ 49 ∷ 50 ∷ 32 ∷ 48 ∷ 32 ∷ 48 ∷ 32 ∷ 48 ∷ 10 ∷ 49 ∷ 50 ∷ 32 ∷ 48 ∷ 32 ∷ 48 ∷ 32 ∷ 48 ∷ 10 ∷ 49 ∷ 50 ∷ 32 ∷ 48 ∷ 32 ∷ 48 ∷ 32 ∷ 48 ∷ 10 ∷ 49 ∷ 50 ∷ 32 ∷ 48 ∷ 32 ∷ 48 ∷ 32 ∷ 48 ∷ 10 ∷ 49 ∷ 50 ∷ 32 ∷ 48 ∷ 32 ∷ 48 ∷ 32 ∷ 48 ∷ 10 ∷ 49 ∷ 50 ∷ 32 ∷ 48 ∷ 32 ∷ 48 ∷ 32 ∷ 48 ∷ 10 ∷ 48 ∷ 32 ∷ 48 ∷ 32 ∷ 48 ∷ 32 ∷ 48 ∷ 10 ∷ 48 ∷ 32 ∷ 49 ∷ 32 ∷ 48 ∷ 32 ∷ 49 ∷ 10 ∷ 48 ∷ 32 ∷ 49 ∷ 32 ∷ 48 ∷ 32 ∷ 49 ∷ 32 ∷ 49 ∷ 58 ∷ 49 ∷ 10 ∷ [])
unfolding answers in_016
vector_016 = refl

-- `E 0123456789ABCDEF⏎S 0123456789ABCDEF⏎E 0123456789ABCDEFG⏎S 0123456789ABCDEFG⏎W 0123456789ABCDEFG⏎F 0123456789ABCDEF` ..
in_019 : List ℕ
in_019 = (69 ∷ 32 ∷ 48 ∷ 49 ∷ 50 ∷ 51 ∷ 52 ∷ 53 ∷ 54 ∷ 55 ∷ 56 ∷ 57 ∷ 65 ∷ 66 ∷ 67 ∷ 68 ∷ 69 ∷ 70 ∷ 10 ∷ 83 ∷ 32 ∷ 48 ∷ 49 ∷ 50 ∷ 51 ∷ 52 ∷ 53 ∷ 54 ∷ 55 ∷ 56 ∷ 57 ∷ 65 ∷ 66 ∷ 67 ∷ 68 ∷ 69 ∷ 70 ∷ 10 ∷ 69 ∷ 32 ∷ 48 ∷ 49 ∷ 50 ∷ 51 ∷ 52 ∷ 53 ∷ 54 ∷ 55 ∷ 56 ∷ 57 ∷ 65 ∷ 66 ∷ 67 ∷ 68 ∷ 69 ∷ 70 ∷ 71 ∷ 10 ∷ 83 ∷ 32 ∷ 48 ∷ 49 ∷ 50 ∷ 51 ∷ 52 ∷ 53 ∷ 54 ∷ 55 ∷ 56 ∷ 57 ∷ 65 ∷ 66 ∷ 67 ∷ 68 ∷ 69 ∷ 70 ∷ 71 ∷ 10 ∷ 87 ∷ 32 ∷ 48 ∷ 49 ∷ 50 ∷ 51 ∷ 52 ∷ 53 ∷ 54 ∷ 55 ∷ 56 ∷ 57 ∷ 65 ∷ 66 ∷ 67 ∷ 68 ∷ 69 ∷ 70 ∷ 71 ∷ 10 ∷ 70 ∷ 32 ∷ 48 ∷ 49 ∷ 50 ∷ 51 ∷ 52 ∷ 53 ∷ 54 ∷ 55 ∷ 56 ∷ 57 ∷ 65 ∷ 66 ∷ 67 ∷ 68 ∷ 69 ∷ 70 ∷ 71 ∷ 32 ∷ 49 ∷ 32 ∷ 49 ∷ 10 ∷ 70 ∷ 32 ∷ 48 ∷ 49 ∷ 50 ∷ 51 ∷ 52 ∷ 53 ∷ 54 ∷ 55 ∷ 56 ∷ 57 ∷ 65 ∷ 66 ∷ 67 ∷ 68 ∷ 69 ∷ 70 ∷ 32 ∷ 49 ∷ 32 ∷ 49 ∷ 10 ∷ 87 ∷ 32 ∷ 48 ∷ 49 ∷ 50 ∷ 51 ∷ 52 ∷ 53 ∷ 54 ∷ 55 ∷ 56 ∷ 57 ∷ 65 ∷ 66 ∷ 67 ∷ 68 ∷ 69 ∷ 70 ∷ 10 ∷ [])

vector_019 : answers 256 512 in_019 ≡ (48 ∷ 32 ∷ 48 ∷ 32 ∷ 48 ∷ 32 ∷ 48 ∷ 10 ∷ 48 ∷ 32 ∷ 49 ∷ 32 ∷ 48 ∷ 32 ∷ 48 ∷ 10 ∷ 52 ∷ 32 ∷ 48 ∷ 32 ∷ 48 ∷ 32 ∷ 48 ∷ 10 ∷ 52 ∷ 32 ∷ 48 ∷ 32 ∷ 48 ∷ 32 ∷ 48 ∷ 10 ∷ 52 ∷ 32 ∷ 48 ∷ 32 ∷ 48 ∷ 32 ∷ 48 ∷ 10 ∷ 52 ∷ 32 ∷ 48 ∷ 32 ∷ 48 ∷ 32 ∷ 48 ∷ 10 ∷ 48 ∷ 32 ∷ 49 ∷ 32 ∷ 48 ∷ 32 ∷ 49 ∷ 10 ∷ 48 ∷ 32 ∷ 49 ∷ 32 ∷ 48 ∷ 32 ∷ 49 ∷ 32 ∷ 49 ∷ 58 ∷ 49 ∷ 10 ∷ [])
unfolding answers in_019
vector_019 = refl

-- `E AAAAAAAAAAAAAAAAAAAAAAAAAAAAAAAAAAAAAAAAAAAAAAAAAAAAAAAAAAAAAA⏎E AAAAAAAAAAAAAAAAAAAAAAAAAAAAAAAAAAAAAAAAAAAAAAAAA` ..
in_022 : List ℕ
in_022 = (69 ∷ 32 ∷ 65 ∷ 65 ∷ 65 ∷ 65 ∷ 65 ∷ 65 ∷ 65 ∷ 65 ∷ 65 ∷ 65 ∷ 65 ∷ 65 ∷ 65 ∷ 65 ∷ 65 ∷ 65 ∷ 65 ∷ 65 ∷ 65 ∷ 65 ∷ 65 ∷ 65 ∷ 65 ∷ 65 ∷ 65 ∷ 65 ∷ 65 ∷ 65 ∷ 65 ∷ 65 ∷ 65 ∷ 65 ∷ 65 ∷ 65 ∷ 65 ∷ 65 ∷ 65 ∷ 65 ∷ 65 ∷ 65 ∷ 65 ∷ 65 ∷ 65 ∷ 65 ∷ 65 ∷ 65 ∷ 65 ∷ 65 ∷ 65 ∷ 65 ∷ 65 ∷ 65 ∷ 65 ∷ 65 ∷ 65 ∷ 65 ∷ 65 ∷ 65 ∷ 65 ∷ 65 ∷ 65 ∷ 65 ∷ 10 ∷ 69 ∷ 32 ∷ 65 ∷ 65 ∷ 65 ∷ 65 ∷ 65 ∷ 65 ∷ 65 ∷ 65 ∷ 65 ∷ 65 ∷ 65 ∷ 65 ∷ 65 ∷ 65 ∷ 65 ∷ 65 ∷ 65 ∷ 65 ∷ 65 ∷ 65 ∷ 65 ∷ 65 ∷ 65 ∷ 65 ∷ 65 ∷ 65 ∷ 65 ∷ 65 ∷ 65 ∷ 65 ∷ 65 ∷ 65 ∷ 65 ∷ 65 ∷ 65 ∷ 65 ∷ 65 ∷ 65 ∷ 65 ∷ 65 ∷ 65 ∷ 65 ∷ 65 ∷ 65 ∷ 65 ∷ 65 ∷ 65 ∷ 65 ∷ 65 ∷ 65 ∷ 65 ∷ 65 ∷ 65 ∷ 65 ∷ 65 ∷ 65 ∷ 65 ∷ 65 ∷ 65 ∷ 65 ∷ 65 ∷ 65 ∷ 65 ∷ 10 ∷ 88 ∷ 88 ∷ 88 ∷ 88 ∷ 88 ∷ 88 ∷ 88 ∷ 88 ∷ 88 ∷ 88 ∷ 88 ∷ 88 ∷ 88 ∷ 88 ∷ 88 ∷ 88 ∷ 88 ∷ 88 ∷ 88 ∷ 88 ∷ 88 ∷ 88 ∷ 88 ∷ 88 ∷ 88 ∷ 88 ∷ 88 ∷ 88 ∷ 88 ∷ 88 ∷ 88 ∷ 88 ∷ 88 ∷ 88 ∷ 88 ∷ 88 ∷ 88 ∷ 88 ∷ 88 ∷ 88 ∷ 88 ∷ 88 ∷ 88 ∷ 88 ∷ 88 ∷ 88 ∷ 88 ∷ 88 ∷ 88 ∷ 88 ∷ 88 ∷ 88 ∷ 88 ∷ 88 ∷ 88 ∷ 88 ∷ 88 ∷ 88 ∷ 88 ∷ 88 ∷ 88 ∷ 88 ∷ 88 ∷ 88 ∷ 10 ∷ 88 ∷ 88 ∷ 88 ∷ 88 ∷ 88 ∷ 88 ∷ 88 ∷ 88 ∷ 88 ∷ 88 ∷ 88 ∷ 88 ∷ 88 ∷ 88 ∷ 88 ∷ 88 ∷ 88 ∷ 88 ∷ 88 ∷ 88 ∷ 88 ∷ 88 ∷ 88 ∷ 88 ∷ 88 ∷ 88 ∷ 88 ∷ 88 ∷ 88 ∷ 88 ∷ 88 ∷ 88 ∷ 88 ∷ 88 ∷ 88 ∷ 88 ∷ 88 ∷ 88 ∷ 88 ∷ 88 ∷ 88 ∷ 88 ∷ 88 ∷ 88 ∷ 88 ∷ 88 ∷ 88 ∷ 88 ∷ 88 ∷ 88 ∷ 88 ∷ 88 ∷ 88 ∷ 88 ∷ 88 ∷ 88 ∷ 88 ∷ 88 ∷ 88 ∷ 88 ∷ 88 ∷ 88 ∷ 88 ∷ 88 ∷ 88 ∷ 10 ∷ 70 ∷ 32 ∷ 65 ∷ 65 ∷ 65 ∷ 65 ∷ 65 ∷ 65 ∷ 65 ∷ 65 ∷ 65 ∷ 65 ∷ 65 ∷ 65 ∷ 65 ∷ 65 ∷ 65 ∷ 65 ∷ 65 ∷ 65 ∷ 65 ∷ 65 ∷ 65 ∷ 65 ∷ 65 ∷ 65 ∷ 65 ∷ 65 ∷ 65 ∷ 65 ∷ 65 ∷ 65 ∷ 65 ∷ 65 ∷ 65 ∷ 65 ∷ 65 ∷ 65 ∷ 65 ∷ 65 ∷ 65 ∷ 65 ∷ 65 ∷ 65 ∷ 65 ∷ 65 ∷ 65 ∷ 65 ∷ 65 ∷ 65 ∷ 65 ∷ 65 ∷ 65 ∷ 65 ∷ 65 ∷ 65 ∷ 65 ∷ 65 ∷ 65 ∷ 65 ∷ 32 ∷ 49 ∷ 32 ∷ 49 ∷ 10 ∷ 70 ∷ 32 ∷ 65 ∷ 65 ∷ 65 ∷ 65 ∷ 65 ∷ 65 ∷ 65 ∷ 65 ∷ 65 ∷ 65 ∷ 65 ∷ 65 ∷ 65 ∷ 65 ∷ 65 ∷ 65 ∷ 65 ∷ 65 ∷ 65 ∷ 65 ∷ 65 ∷ 65 ∷ 65 ∷ 65 ∷ 65 ∷ 65 ∷ 65 ∷ 65 ∷ 65 ∷ 65 ∷ 65 ∷ 65 ∷ 65 ∷ 65 ∷ 65 ∷ 65 ∷ 65 ∷ 65 ∷ 65 ∷ 65 ∷ 65 ∷ 65 ∷ 65 ∷ 65 ∷ 65 ∷ 65 ∷ 65 ∷ 65 ∷ 65 ∷ 65 ∷ 65 ∷ 65 ∷ 65 ∷ 65 ∷ 65 ∷ 65 ∷ 65 ∷ 65 ∷ 65 ∷ 32 ∷ 49 ∷ 32 ∷ 49 ∷ 10 ∷ 65 ∷ 65 ∷ 65 ∷ 65 ∷ 65 ∷ 65 ∷ 65 ∷ 65 ∷ 65 ∷ 65 ∷ 65 ∷ 65 ∷ 65 ∷ 65 ∷ 65 ∷ 65 ∷ 65 ∷ 65 ∷ 65 ∷ 65 ∷ 65 ∷ 65 ∷ 65 ∷ 65 ∷ 65 ∷ 65 ∷ 65 ∷ 65 ∷ 65 ∷ 65 ∷ 65 ∷ 65 ∷ 65 ∷ 65 ∷ 65 ∷ 65 ∷ 65 ∷ 65 ∷ 65 ∷ 65 ∷ 65 ∷ 65 ∷ 65 ∷ 65 ∷ 65 ∷ 65 ∷ 65 ∷ 65 ∷ 65 ∷ 65 ∷ 65 ∷ 65 ∷ 65 ∷ 65 ∷ 65 ∷ 65 ∷ 65 ∷ 65 ∷ 65 ∷ 65 ∷ 65 ∷ 65 ∷ 65 ∷ 65 ∷ 65 ∷ 65 ∷ 65 ∷ 65 ∷ 65 ∷ 65 ∷ 65 ∷ 65 ∷ 65 ∷ 65 ∷ 65 ∷ 65 ∷ 65 ∷ 65 ∷ 65 ∷ 65 ∷ 65 ∷ 65 ∷ 65 ∷ 65 ∷ 65 ∷ 65 ∷ 65 ∷ 65 ∷ 65 ∷ 65 ∷ 65 ∷ 65 ∷ 65 ∷ 65 ∷ 65 ∷ 65 ∷ 65 ∷ 65 ∷ 65 ∷ 65 ∷ 65 ∷ 65 ∷ 65 ∷ 65 ∷ 65 ∷ 65 ∷ 65 ∷ 65 ∷ 65 ∷ 65 ∷ 65 ∷ 65 ∷ 65 ∷ 65 ∷ 65 ∷ 65 ∷ 65 ∷ 65 ∷ 65 ∷ 65 ∷ 65 ∷ 65 ∷ 65 ∷ 65 ∷ 65 ∷ 65 ∷ 65 ∷ 65 ∷ 65 ∷ 65 ∷ 65 ∷ 65 ∷ 65 ∷ 65 ∷ 65 ∷ 65 ∷ 65 ∷ 65 ∷ 65 ∷ 65 ∷ 65 ∷ 65 ∷ 65 ∷ 65 ∷ 65 ∷ 65 ∷ 65 ∷ 65 ∷ 65 ∷ 65 ∷ 65 ∷ 65 ∷ 65 ∷ 65 ∷ 65 ∷ 65 ∷ 65 ∷ 65 ∷ 65 ∷ 65 ∷ 65 ∷ 65 ∷ 65 ∷ 65 ∷ 65 ∷ 65 ∷ 65 ∷ 65 ∷ 65 ∷ 65 ∷ 65 ∷ 65 ∷ 65 ∷ 65 ∷ 65 ∷ 65 ∷ 65 ∷ 65 ∷ 65 ∷ 65 ∷ 65 ∷ 65 ∷ 65 ∷ 65 ∷ 65 ∷ 65 ∷ 65 ∷ 65 ∷ 65 ∷ 65 ∷ 65 ∷ 65 ∷ 65 ∷ 65 ∷ 65 ∷ 65 ∷ 65 ∷ 65 ∷ 65 ∷ 65 ∷ 65 ∷ 65 ∷ 65 ∷ 65 ∷ 65 ∷ 65 ∷ 65 ∷ 65 ∷ 65 ∷ 65 ∷ 65 ∷ 65 ∷ 65 ∷ 65 ∷ 65 ∷ 65 ∷ 65 ∷ 65 ∷ 65 ∷ 65 ∷ 65 ∷ 65 ∷ 65 ∷ 65 ∷ 65 ∷ 65 ∷ 65 ∷ 65 ∷ 65 ∷ 65 ∷ 65 ∷ 65 ∷ 65 ∷ 65 ∷ 65 ∷ 65 ∷ 65 ∷ 65 ∷ 65 ∷ 65 ∷ 65 ∷ 65 ∷ 65 ∷ 65 ∷ 65 ∷ 65 ∷ 65 ∷ 65 ∷ 65 ∷ 65 ∷ 65 ∷ 65 ∷ 65 ∷ 65 ∷ 65 ∷ 65 ∷ 65 ∷ 65 ∷ 65 ∷ 65 ∷ 65 ∷ 65 ∷ 65 ∷ 65 ∷ 65 ∷ 65 ∷ 65 ∷ 65 ∷ 65 ∷ 65 ∷ 65 ∷ 65 ∷ 65 ∷ 65 ∷ 65 ∷ 65 ∷ 65 ∷ 65 ∷ 65 ∷ 65 ∷ 65 ∷ 65 ∷ 65 ∷ 65 ∷ 65 ∷ 65 ∷ 65 ∷ 65 ∷ 65 ∷ 65 ∷ 65 ∷ 65 ∷ 65 ∷ 65 ∷ 65 ∷ 65 ∷ 65 ∷ 65 ∷ 65 ∷ 65 ∷ 65 ∷ 65 ∷ 65 ∷ 65 ∷ 65 ∷ 65 ∷ 65 ∷ 65 ∷ 65 ∷ 65 ∷ 65 ∷ 65 ∷ 65 ∷ 65 ∷ 65 ∷ 65 ∷ 65 ∷ 65 ∷ 65 ∷ 65 ∷ 65 ∷ 65 ∷ 65 ∷ 65 ∷ 65 ∷ 65 ∷ 65 ∷ 65 ∷ 65 ∷ 65 ∷ 65 ∷ 65 ∷ 65 ∷ 65 ∷ 65 ∷ 65 ∷ 65 ∷ 65 ∷ 65 ∷ 65 ∷ 65 ∷ 65 ∷ 65 ∷ 65 ∷ 65 ∷ 65 ∷ 65 ∷ 65 ∷ 65 ∷ 65 ∷ 65 ∷ 65 ∷ 65 ∷ 65 ∷ 65 ∷ 65 ∷ 65 ∷ 65 ∷ 65 ∷ 65 ∷ 65 ∷ 65 ∷ 65 ∷ 65 ∷ 65 ∷ 65 ∷ 65 ∷ 65 ∷ 65 ∷ 65 ∷ 65 ∷ 65 ∷ 65 ∷ 65 ∷ 65 ∷ 65 ∷ 65 ∷ 65 ∷ 65 ∷ 65 ∷ 65 ∷ 65 ∷ 65 ∷ 65 ∷ 65 ∷ 65 ∷ 65 ∷ 65 ∷ 65 ∷ 65 ∷ 65 ∷ 65 ∷ 65 ∷ 65 ∷ 65 ∷ 65 ∷ 65 ∷ 65 ∷ 65 ∷ 65 ∷ 65 ∷ 65 ∷ 65 ∷ 65 ∷ 65 ∷ 65 ∷ 65 ∷ 65 ∷ 65 ∷ 65 ∷ 65 ∷ 65 ∷ 65 ∷ 65 ∷ 65 ∷ 65 ∷ 65 ∷ 65 ∷ 65 ∷ 65 ∷ 65 ∷ 65 ∷ 65 ∷ 65 ∷ 65 ∷ 65 ∷ 65 ∷ 65 ∷ 65 ∷ 65 ∷ 65 ∷ 65 ∷ 65 ∷ 65 ∷ 65 ∷ 65 ∷ 65 ∷ 65 ∷ 65 ∷ 65 ∷ 65 ∷ 65 ∷ 65 ∷ 65 ∷ 65 ∷ 65 ∷ 65 ∷ 65 ∷ 65 ∷ 65 ∷ 65 ∷ 65 ∷ 65 ∷ 65 ∷ 65 ∷ 65 ∷ 65 ∷ 65 ∷ 65 ∷ 65 ∷ 65 ∷ 65 ∷ 65 ∷ 65 ∷ 65 ∷ 65 ∷ 65 ∷ 65 ∷ 65 ∷ 65 ∷ 65 ∷ 65 ∷ 65 ∷ 65 ∷ 65 ∷ 65 ∷ 65 ∷ 65 ∷ 65 ∷ 65 ∷ 65 ∷ 65 ∷ 65 ∷ 65 ∷ 65 ∷ 65 ∷ 65 ∷ 65 ∷ 65 ∷ 65 ∷ 65 ∷ 65 ∷ 65 ∷ 65 ∷ 65 ∷ 65 ∷ 65 ∷ 65 ∷ 65 ∷ 65 ∷ 65 ∷ 65 ∷ 65 ∷ 65 ∷ 65 ∷ 65 ∷ 65 ∷ 65 ∷ 65 ∷ 65 ∷ 65 ∷ 65 ∷ 65 ∷ 65 ∷ 65 ∷ 65 ∷ 65 ∷ 65 ∷ 65 ∷ 65 ∷ 65 ∷ 65 ∷ 65 ∷ 65 ∷ 65 ∷ 65 ∷ 65 ∷ 65 ∷ 65 ∷ 65 ∷ 65 ∷ 65 ∷ 65 ∷ 65 ∷ 65 ∷ 65 ∷ 65 ∷ 65 ∷ 65 ∷ 65 ∷ 65 ∷ 65 ∷ 65 ∷ 65 ∷ 65 ∷ 65 ∷ 65 ∷ 65 ∷ 65 ∷ 65 ∷ 65 ∷ 65 ∷ 65 ∷ 65 ∷ 65 ∷ 65 ∷ 65 ∷ 65 ∷ 65 ∷ 65 ∷ 65 ∷ 65 ∷ 65 ∷ 65 ∷ 65 ∷ 65 ∷ 65 ∷ 65 ∷ 65 ∷ 65 ∷ 65 ∷ 65 ∷ 65 ∷ 65 ∷ 65 ∷ 65 ∷ 65 ∷ 65 ∷ 65 ∷ 65 ∷ 65 ∷ 65 ∷ 65 ∷ 65 ∷ 65 ∷ 65 ∷ 65 ∷ 65 ∷ 65 ∷ 65 ∷ 65 ∷ 65 ∷ 65 ∷ 65 ∷ 65 ∷ 65 ∷ 65 ∷ 65 ∷ 65 ∷ 65 ∷ 65 ∷ 65 ∷ 65 ∷ 65 ∷ 65 ∷ 65 ∷ 65 ∷ 65 ∷ 65 ∷ 65 ∷ 65 ∷ 65 ∷ 65 ∷ 65 ∷ 65 ∷ 65 ∷ 65 ∷ 65 ∷ 65 ∷ 65 ∷ 65 ∷ 65 ∷ 65 ∷ 65 ∷ 65 ∷ 65 ∷ 65 ∷ 65 ∷ 65 ∷ 65 ∷ 65 ∷ 65 ∷ 65 ∷ 65 ∷ 65 ∷ 65 ∷ 65 ∷ 65 ∷ 65 ∷ 65 ∷ 65 ∷ 65 ∷ 65 ∷ 65 ∷ 65 ∷ 65 ∷ 65 ∷ 65 ∷ 65 ∷ 65 ∷ 65 ∷ 65 ∷ 65 ∷ 65 ∷ 65 ∷ 65 ∷ 65 ∷ 65 ∷ 65 ∷ 65 ∷ 65 ∷ 65 ∷ 65 ∷ 65 ∷ 65 ∷ 65 ∷ 65 ∷ 65 ∷ 65 ∷ 65 ∷ 65 ∷ 65 ∷ 65 ∷ 65 ∷ 65 ∷ 65 ∷ 65 ∷ 65 ∷ 65 ∷ 65 ∷ 65 ∷ 65 ∷ 65 ∷ 65 ∷ 65 ∷ 65 ∷ 65 ∷ 65 ∷ 65 ∷ 65 ∷ 65 ∷ 65 ∷ 65 ∷ 65 ∷ 65 ∷ 65 ∷ 65 ∷ 65 ∷ 65 ∷ 65 ∷ 65 ∷ 65 ∷ 65 ∷ 65 ∷ 65 ∷ 65 ∷ 65 ∷ 65 ∷ 65 ∷ 65 ∷ 65 ∷ 65 ∷ 65 ∷ 65 ∷ 65 ∷ 65 ∷ 65 ∷ 65 ∷ 65 ∷ 65 ∷ 65 ∷ 65 ∷ 65 ∷ 65 ∷ 65 ∷ 65 ∷ 65 ∷ 65 ∷ 65 ∷ 65 ∷ 65 ∷ 65 ∷ 65 ∷ 65 ∷ 65 ∷ 65 ∷ 65 ∷ 65 ∷ 65 ∷ 65 ∷ 65 ∷ 65 ∷ 65 ∷ 65 ∷ 65 ∷ 65 ∷ 65 ∷ 65 ∷ 65 ∷ 65 ∷ 65 ∷ 65 ∷ 65 ∷ 65 ∷ 65 ∷ 65 ∷ 65 ∷ 65 ∷ 65 ∷ 65 ∷ 65 ∷ 65 ∷ 65 ∷ 65 ∷ 65 ∷ 65 ∷ 65 ∷ 65 ∷ 65 ∷ 65 ∷ 65 ∷ 65 ∷ 65 ∷ 65 ∷ 65 ∷ 65 ∷ 65 ∷ 65 ∷ 65 ∷ 65 ∷ 65 ∷ 65 ∷ 65 ∷ 65 ∷ 65 ∷ 65 ∷ 65 ∷ 65 ∷ 65 ∷ 65 ∷ 65 ∷ 65 ∷ 65 ∷ 65 ∷ 65 ∷ 65 ∷ 65 ∷ 65 ∷ 65 ∷ 65 ∷ 65 ∷ 65 ∷ 65 ∷ 65 ∷ 65 ∷ 65 ∷ 65 ∷ 65 ∷ 65 ∷ 65 ∷ 65 ∷ 65 ∷ 65 ∷ 65 ∷ 65 ∷ 65 ∷ 65 ∷ 65 ∷ 65 ∷ 65 ∷ 65 ∷ 65 ∷ 65 ∷ 65 ∷ 65 ∷ 65 ∷ 65 ∷ 65 ∷ 65 ∷ 65 ∷ 65 ∷ 65 ∷ 65 ∷ 65 ∷ 65 ∷ 65 ∷ 65 ∷ 65 ∷ 65 ∷ 65 ∷ 65 ∷ 65 ∷ 65 ∷ 65 ∷ 65 ∷ 65 ∷ 65 ∷ 65 ∷ 65 ∷ 65 ∷ 65 ∷ 65 ∷ 65 ∷ 65 ∷ 65 ∷ 65 ∷ 65 ∷ 65 ∷ 65 ∷ 65 ∷ 65 ∷ 65 ∷ 65 ∷ 65 ∷ 65 ∷ 65 ∷ 65 ∷ 65 ∷ 65 ∷ 65 ∷ 65 ∷ 65 ∷ 65 ∷ 65 ∷ 65 ∷ 65 ∷ 65 ∷ 65 ∷ 65 ∷ 65 ∷ 65 ∷ 65 ∷ 65 ∷ 65 ∷ 65 ∷ 65 ∷ 65 ∷ 65 ∷ 65 ∷ 65 ∷ 65 ∷ 65 ∷ 65 ∷ 65 ∷ 65 ∷ 65 ∷ 65 ∷ 65 ∷ 65 ∷ 65 ∷ 65 ∷ 65 ∷ 65 ∷ 65 ∷ 65 ∷ 65 ∷ 65 ∷ 65 ∷ 65 ∷ 65 ∷ 65 ∷ 65 ∷ 65 ∷ 65 ∷ 65 ∷ 65 ∷ 65 ∷ 65 ∷ 65 ∷ 65 ∷ 65 ∷ 65 ∷ 65 ∷ 65 ∷ 65 ∷ 65 ∷ 65 ∷ 65 ∷ 65 ∷ 65 ∷ 65 ∷ 65 ∷ 65 ∷ 65 ∷ 65 ∷ 65 ∷ 65 ∷ 65 ∷ 65 ∷ 65 ∷ 65 ∷ 65 ∷ 65 ∷ 65 ∷ 65 ∷ 65 ∷ 65 ∷ 65 ∷ 65 ∷ 65 ∷ 65 ∷ 65 ∷ 65 ∷ 65 ∷ 65 ∷ 65 ∷ 65 ∷ 65 ∷ 65 ∷ 65 ∷ 65 ∷ 65 ∷ 65 ∷ 65 ∷ 65 ∷ 65 ∷ 65 ∷ 65 ∷ 65 ∷ 65 ∷ 65 ∷ 65 ∷ 65 ∷ 65 ∷ 65 ∷ 65 ∷ 65 ∷ 65 ∷ 65 ∷ 65 ∷ 65 ∷ 65 ∷ 65 ∷ 65 ∷ 65 ∷ 65 ∷ 65 ∷ 65 ∷ 65 ∷ 65 ∷ 65 ∷ 65 ∷ 65 ∷ 65 ∷ 65 ∷ 65 ∷ 65 ∷ 65 ∷ 65 ∷ 65 ∷ 10 ∷ 69 ∷ 32 ∷ 65 ∷ 10 ∷ [])

vector_022 : answers 256 512 in_022 ≡ (52 ∷ 32 ∷ 48 ∷ 32 ∷ 48 ∷ 32 ∷ 48 ∷ 10 ∷ 49 ∷ 50 ∷ 32 ∷ 48 ∷ 32 ∷ 48 ∷ 32 ∷ 48 ∷ 10 ∷ 49 ∷ 50 ∷ 32 ∷ 48 ∷ 32 ∷ 48 ∷ 32 ∷ 48 ∷ 10 ∷ 49 ∷ 50 ∷ 32 ∷ 48 ∷ 32 ∷ 48 ∷ 32 ∷ 48 ∷ 10 ∷ 52 ∷ 32 ∷ 48 ∷ 32 ∷ 48 ∷ 32 ∷ 48 ∷ 10 ∷ 49 ∷ 50 ∷ 32 ∷ 48 ∷ 32 ∷ 48 ∷ 32 ∷ 48 ∷ 10 ∷ 49 ∷ 50 ∷ 32 ∷ 48 ∷ 32 ∷ 48 ∷ 32 ∷ 48 ∷ 10 ∷ 48 ∷ 32 ∷ 48 ∷ 32 ∷ 48 ∷ 32 ∷ 48 ∷ 10 ∷ [])
unfolding answers in_022
vector_022 = refl

-- `F 77777777777777777777777777777777777777777777777777777 000001 1⏎F 7777777777777777777777777777777777777777777777777` ..
in_025 : List ℕ
in_025 = (70 ∷ 32 ∷ 55 ∷ 55 ∷ 55 ∷ 55 ∷ 55 ∷ 55 ∷ 55 ∷ 55 ∷ 55 ∷ 55 ∷ 55 ∷ 55 ∷ 55 ∷ 55 ∷ 55 ∷ 55 ∷ 55 ∷ 55 ∷ 55 ∷ 55 ∷ 55 ∷ 55 ∷ 55 ∷ 55 ∷ 55 ∷ 55 ∷ 55 ∷ 55 ∷ 55 ∷ 55 ∷ 55 ∷ 55 ∷ 55 ∷ 55 ∷ 55 ∷ 55 ∷ 55 ∷ 55 ∷ 55 ∷ 55 ∷ 55 ∷ 55 ∷ 55 ∷ 55 ∷ 55 ∷ 55 ∷ 55 ∷ 55 ∷ 55 ∷ 55 ∷ 55 ∷ 55 ∷ 55 ∷ 32 ∷ 48 ∷ 48 ∷ 48 ∷ 48 ∷ 48 ∷ 49 ∷ 32 ∷ 49 ∷ 10 ∷ 70 ∷ 32 ∷ 55 ∷ 55 ∷ 55 ∷ 55 ∷ 55 ∷ 55 ∷ 55 ∷ 55 ∷ 55 ∷ 55 ∷ 55 ∷ 55 ∷ 55 ∷ 55 ∷ 55 ∷ 55 ∷ 55 ∷ 55 ∷ 55 ∷ 55 ∷ 55 ∷ 55 ∷ 55 ∷ 55 ∷ 55 ∷ 55 ∷ 55 ∷ 55 ∷ 55 ∷ 55 ∷ 55 ∷ 55 ∷ 55 ∷ 55 ∷ 55 ∷ 55 ∷ 55 ∷ 55 ∷ 55 ∷ 55 ∷ 55 ∷ 55 ∷ 55 ∷ 55 ∷ 55 ∷ 55 ∷ 55 ∷ 55 ∷ 55 ∷ 55 ∷ 55 ∷ 55 ∷ 55 ∷ 55 ∷ 32 ∷ 48 ∷ 48 ∷ 48 ∷ 48 ∷ 48 ∷ 49 ∷ 32 ∷ 49 ∷ 10 ∷ [])

vector_025 : answers 256 512 in_025 ≡ (52 ∷ 32 ∷ 48 ∷ 32 ∷ 48 ∷ 32 ∷ 48 ∷ 10 ∷ 49 ∷ 50 ∷ 32 ∷ 48 ∷ 32 ∷ 48 ∷ 32 ∷ 48 ∷ 10 ∷ [])
unfolding answers in_025
vector_025 = refl

-- `\xef\xbb\xbfE 7⏎E 7⏎`
in_028 : List ℕ
in_028 = (239 ∷ 187 ∷ 191 ∷ 69 ∷ 32 ∷ 55 ∷ 10 ∷ 69 ∷ 32 ∷ 55 ∷ 10 ∷ [])

vector_028 : answers 256 512 in_028 ≡ (49 ∷ 50 ∷ 32 ∷ 48 ∷ 32 ∷ 48 ∷ 32 ∷ 48 ∷ 10 ∷ 48 ∷ 32 ∷ 48 ∷ 32 ∷ 48 ∷ 32 ∷ 48 ∷ 10 ∷ [])
unfolding answers in_028
vector_028 = refl

-- `E 7⏎F 7 00001 00001⏎F 7 000000001 000000001⏎F 7 065535 09999⏎F 7 000000000 1⏎F 7 1 000000000⏎S 7⏎`
in_031 : List ℕ
in_031 = (69 ∷ 32 ∷ 55 ∷ 10 ∷ 70 ∷ 32 ∷ 55 ∷ 32 ∷ 48 ∷ 48 ∷ 48 ∷ 48 ∷ 49 ∷ 32 ∷ 48 ∷ 48 ∷ 48 ∷ 48 ∷ 49 ∷ 10 ∷ 70 ∷ 32 ∷ 55 ∷ 32 ∷ 48 ∷ 48 ∷ 48 ∷ 48 ∷ 48 ∷ 48 ∷ 48 ∷ 48 ∷ 49 ∷ 32 ∷ 48 ∷ 48 ∷ 48 ∷ 48 ∷ 48 ∷ 48 ∷ 48 ∷ 48 ∷ 49 ∷ 10 ∷ 70 ∷ 32 ∷ 55 ∷ 32 ∷ 48 ∷ 54 ∷ 53 ∷ 53 ∷ 51 ∷ 53 ∷ 32 ∷ 48 ∷ 57 ∷ 57 ∷ 57 ∷ 57 ∷ 10 ∷ 70 ∷ 32 ∷ 55 ∷ 32 ∷ 48 ∷ 48 ∷ 48 ∷ 48 ∷ 48 ∷ 48 ∷ 48 ∷ 48 ∷ 48 ∷ 32 ∷ 49 ∷ 10 ∷ 70 ∷ 32 ∷ 55 ∷ 32 ∷ 49 ∷ 32 ∷ 48 ∷ 48 ∷ 48 ∷ 48 ∷ 48 ∷ 48 ∷ 48 ∷ 48 ∷ 48 ∷ 10 ∷ 83 ∷ 32 ∷ 55 ∷ 10 ∷ [])

vector_031 : answers 256 512 in_031 ≡ (48 ∷ 32 ∷ 48 ∷ 32 ∷ 48 ∷ 32 ∷ 48 ∷ 10 ∷ 48 ∷ 32 ∷ 49 ∷ 32 ∷ 48 ∷ 32 ∷ 49 ∷ 10 ∷ 48 ∷ 32 ∷ 49 ∷ 32 ∷ 48 ∷ 32 ∷ 50 ∷ 10 ∷ 48 ∷ 32 ∷ 49 ∷ 32 ∷ 48 ∷ 32 ∷ 51 ∷ 10 ∷ 53 ∷ 32 ∷ 48 ∷ 32 ∷ 48 ∷ 32 ∷ 48 ∷ 10 ∷ 53 ∷ 32 ∷ 48 ∷ 32 ∷ 48 ∷ 32 ∷ 48 ∷ 10 ∷ 48 ∷ 32 ∷ 49 ∷ 32 ∷ 48 ∷ 32 ∷ 51 ∷ 32 ∷ 49 ∷ 58 ∷ 49 ∷ 32 ∷ 49 ∷ 58 ∷ 49 ∷ 32 ∷ 54 ∷ 53 ∷ 53 ∷ 51 ∷ 53 ∷ 58 ∷ 57 ∷ 57 ∷ 57 ∷ 57 ∷ 10 ∷ [])
unfolding answers in_031
vector_031 = refl

-- `E 7⏎F 7 0 1⏎F 7 1 0⏎F 7 1 1⏎F 7 65535 9999⏎F 7 65536 1⏎F 7 1 10000⏎F 7 0 0⏎F 7 65536 10000⏎S 7⏎W 7⏎`
in_034 : List ℕ
in_034 = (69 ∷ 32 ∷ 55 ∷ 10 ∷ 70 ∷ 32 ∷ 55 ∷ 32 ∷ 48 ∷ 32 ∷ 49 ∷ 10 ∷ 70 ∷ 32 ∷ 55 ∷ 32 ∷ 49 ∷ 32 ∷ 48 ∷ 10 ∷ 70 ∷ 32 ∷ 55 ∷ 32 ∷ 49 ∷ 32 ∷ 49 ∷ 10 ∷ 70 ∷ 32 ∷ 55 ∷ 32 ∷ 54 ∷ 53 ∷ 53 ∷ 51 ∷ 53 ∷ 32 ∷ 57 ∷ 57 ∷ 57 ∷ 57 ∷ 10 ∷ 70 ∷ 32 ∷ 55 ∷ 32 ∷ 54 ∷ 53 ∷ 53 ∷ 51 ∷ 54 ∷ 32 ∷ 49 ∷ 10 ∷ 70 ∷ 32 ∷ 55 ∷ 32 ∷ 49 ∷ 32 ∷ 49 ∷ 48 ∷ 48 ∷ 48 ∷ 48 ∷ 10 ∷ 70 ∷ 32 ∷ 55 ∷ 32 ∷ 48 ∷ 32 ∷ 48 ∷ 10 ∷ 70 ∷ 32 ∷ 55 ∷ 32 ∷ 54 ∷ 53 ∷ 53 ∷ 51 ∷ 54 ∷ 32 ∷ 49 ∷ 48 ∷ 48 ∷ 48 ∷ 48 ∷ 10 ∷ 83 ∷ 32 ∷ 55 ∷ 10 ∷ 87 ∷ 32 ∷ 55 ∷ 10 ∷ [])

vector_034 : answers 256 512 in_034 ≡ (48 ∷ 32 ∷ 48 ∷ 32 ∷ 48 ∷ 32 ∷ 48 ∷ 10 ∷ 53 ∷ 32 ∷ 48 ∷ 32 ∷ 48 ∷ 32 ∷ 48 ∷ 10 ∷ 53 ∷ 32 ∷ 48 ∷ 32 ∷ 48 ∷ 32 ∷ 48 ∷ 10 ∷ 48 ∷ 32 ∷ 49 ∷ 32 ∷ 48 ∷ 32 ∷ 49 ∷ 10 ∷ 48 ∷ 32 ∷ 49 ∷ 32 ∷ 48 ∷ 32 ∷ 50 ∷ 10 ∷ 53 ∷ 32 ∷ 48 ∷ 32 ∷ 48 ∷ 32 ∷ 48 ∷ 10 ∷ 53 ∷ 32 ∷ 48 ∷ 32 ∷ 48 ∷ 32 ∷ 48 ∷ 10 ∷ 53 ∷ 32 ∷ 48 ∷ 32 ∷ 48 ∷ 32 ∷ 48 ∷ 10 ∷ 53 ∷ 32 ∷ 48 ∷ 32 ∷ 48 ∷ 32 ∷ 48 ∷ 10 ∷ 48 ∷ 32 ∷ 49 ∷ 32 ∷ 48 ∷ 32 ∷ 50 ∷ 32 ∷ 49 ∷ 58 ∷ 49 ∷ 32 ∷ 54 ∷ 53 ∷ 53 ∷ 51 ∷ 53 ∷ 58 ∷ 57 ∷ 57 ∷ 57 ∷ 57 ∷ 10 ∷ 48 ∷ 32 ∷ 49 ∷ 32 ∷ 48 ∷ 32 ∷ 50 ∷ 32 ∷ 49 ∷ 58 ∷ 49 ∷ 32 ∷ 54 ∷ 53 ∷ 53 ∷ 51 ∷ 53 ∷ 58 ∷ 57 ∷ 57 ∷ 57 ∷ 57 ∷ 10 ∷ [])
unfolding answers in_034
vector_034 = refl

-- `E 7⏎F 7 1 1⏎F 7 2 2⏎W 7⏎S 7⏎E 7⏎S 7⏎F 7 3 3⏎S 7⏎`
in_037 : List ℕ
in_037 = (69 ∷ 32 ∷ 55 ∷ 10 ∷ 70 ∷ 32 ∷ 55 ∷ 32 ∷ 49 ∷ 32 ∷ 49 ∷ 10 ∷ 70 ∷ 32 ∷ 55 ∷ 32 ∷ 50 ∷ 32 ∷ 50 ∷ 10 ∷ 87 ∷ 32 ∷ 55 ∷ 10 ∷ 83 ∷ 32 ∷ 55 ∷ 10 ∷ 69 ∷ 32 ∷ 55 ∷ 10 ∷ 83 ∷ 32 ∷ 55 ∷ 10 ∷ 70 ∷ 32 ∷ 55 ∷ 32 ∷ 51 ∷ 32 ∷ 51 ∷ 10 ∷ 83 ∷ 32 ∷ 55 ∷ 10 ∷ [])

vector_037 : answers 256 512 in_037 ≡ (48 ∷ 32 ∷ 48 ∷ 32 ∷ 48 ∷ 32 ∷ 48 ∷ 10 ∷ 48 ∷ 32 ∷ 49 ∷ 32 ∷ 48 ∷ 32 ∷ 49 ∷ 10 ∷ 48 ∷ 32 ∷ 49 ∷ 32 ∷ 48 ∷ 32 ∷ 50 ∷ 10 ∷ 48 ∷ 32 ∷ 49 ∷ 32 ∷ 48 ∷ 32 ∷ 50 ∷ 32 ∷ 49 ∷ 58 ∷ 49 ∷ 32 ∷ 50 ∷ 58 ∷ 50 ∷ 10 ∷ 55 ∷ 32 ∷ 48 ∷ 32 ∷ 48 ∷ 32 ∷ 48 ∷ 10 ∷ 48 ∷ 32 ∷ 48 ∷ 32 ∷ 48 ∷ 32 ∷ 48 ∷ 10 ∷ 48 ∷ 32 ∷ 49 ∷ 32 ∷ 48 ∷ 32 ∷ 48 ∷ 10 ∷ 48 ∷ 32 ∷ 49 ∷ 32 ∷ 48 ∷ 32 ∷ 49 ∷ 10 ∷ 48 ∷ 32 ∷ 49 ∷ 32 ∷ 48 ∷ 32 ∷ 49 ∷ 32 ∷ 51 ∷ 58 ∷ 51 ∷ 10 ∷ [])
unfolding answers in_037
vector_037 = refl

-- `E C0⏎E C1⏎E C2⏎E C3⏎E C4⏎E C5⏎E C6⏎E C7⏎E C8⏎E C9⏎E C10⏎E C11⏎E C12⏎E C13⏎E C14⏎E C15⏎E C16⏎E C17⏎E C18⏎E C19⏎E C20⏎` ..
in_046 : List ℕ
in_046 = (69 ∷ 32 ∷ 67 ∷ 48 ∷ 10 ∷ 69 ∷ 32 ∷ 67 ∷ 49 ∷ 10 ∷ 69 ∷ 32 ∷ 67 ∷ 50 ∷ 10 ∷ 69 ∷ 32 ∷ 67 ∷ 51 ∷ 10 ∷ 69 ∷ 32 ∷ 67 ∷ 52 ∷ 10 ∷ 69 ∷ 32 ∷ 67 ∷ 53 ∷ 10 ∷ 69 ∷ 32 ∷ 67 ∷ 54 ∷ 10 ∷ 69 ∷ 32 ∷ 67 ∷ 55 ∷ 10 ∷ 69 ∷ 32 ∷ 67 ∷ 56 ∷ 10 ∷ 69 ∷ 32 ∷ 67 ∷ 57 ∷ 10 ∷ 69 ∷ 32 ∷ 67 ∷ 49 ∷ 48 ∷ 10 ∷ 69 ∷ 32 ∷ 67 ∷ 49 ∷ 49 ∷ 10 ∷ 69 ∷ 32 ∷ 67 ∷ 49 ∷ 50 ∷ 10 ∷ 69 ∷ 32 ∷ 67 ∷ 49 ∷ 51 ∷ 10 ∷ 69 ∷ 32 ∷ 67 ∷ 49 ∷ 52 ∷ 10 ∷ 69 ∷ 32 ∷ 67 ∷ 49 ∷ 53 ∷ 10 ∷ 69 ∷ 32 ∷ 67 ∷ 49 ∷ 54 ∷ 10 ∷ 69 ∷ 32 ∷ 67 ∷ 49 ∷ 55 ∷ 10 ∷ 69 ∷ 32 ∷ 67 ∷ 49 ∷ 56 ∷ 10 ∷ 69 ∷ 32 ∷ 67 ∷ 49 ∷ 57 ∷ 10 ∷ 69 ∷ 32 ∷ 67 ∷ 50 ∷ 48 ∷ 10 ∷ 69 ∷ 32 ∷ 67 ∷ 50 ∷ 49 ∷ 10 ∷ 69 ∷ 32 ∷ 67 ∷ 50 ∷ 50 ∷ 10 ∷ 69 ∷ 32 ∷ 67 ∷ 50 ∷ 51 ∷ 10 ∷ 69 ∷ 32 ∷ 67 ∷ 50 ∷ 52 ∷ 10 ∷ 69 ∷ 32 ∷ 67 ∷ 50 ∷ 53 ∷ 10 ∷ 69 ∷ 32 ∷ 67 ∷ 50 ∷ 54 ∷ 10 ∷ 69 ∷ 32 ∷ 67 ∷ 50 ∷ 55 ∷ 10 ∷ 69 ∷ 32 ∷ 67 ∷ 50 ∷ 56 ∷ 10 ∷ 69 ∷ 32 ∷ 67 ∷ 50 ∷ 57 ∷ 10 ∷ 69 ∷ 32 ∷ 67 ∷ 51 ∷ 48 ∷ 10 ∷ 69 ∷ 32 ∷ 67 ∷ 51 ∷ 49 ∷ 10 ∷ 69 ∷ 32 ∷ 67 ∷ 51 ∷ 50 ∷ 10 ∷ 69 ∷ 32 ∷ 67 ∷ 51 ∷ 51 ∷ 10 ∷ 69 ∷ 32 ∷ 67 ∷ 51 ∷ 52 ∷ 10 ∷ 69 ∷ 32 ∷ 67 ∷ 51 ∷ 53 ∷ 10 ∷ 69 ∷ 32 ∷ 67 ∷ 51 ∷ 54 ∷ 10 ∷ 69 ∷ 32 ∷ 67 ∷ 51 ∷ 55 ∷ 10 ∷ 69 ∷ 32 ∷ 67 ∷ 51 ∷ 56 ∷ 10 ∷ 69 ∷ 32 ∷ 67 ∷ 51 ∷ 57 ∷ 10 ∷ 69 ∷ 32 ∷ 67 ∷ 52 ∷ 48 ∷ 10 ∷ 69 ∷ 32 ∷ 67 ∷ 52 ∷ 49 ∷ 10 ∷ 69 ∷ 32 ∷ 67 ∷ 52 ∷ 50 ∷ 10 ∷ 69 ∷ 32 ∷ 67 ∷ 52 ∷ 51 ∷ 10 ∷ 69 ∷ 32 ∷ 67 ∷ 52 ∷ 52 ∷ 10 ∷ 69 ∷ 32 ∷ 67 ∷ 52 ∷ 53 ∷ 10 ∷ 69 ∷ 32 ∷ 67 ∷ 52 ∷ 54 ∷ 10 ∷ 69 ∷ 32 ∷ 67 ∷ 52 ∷ 55 ∷ 10 ∷ 69 ∷ 32 ∷ 67 ∷ 52 ∷ 56 ∷ 10 ∷ 69 ∷ 32 ∷ 67 ∷ 52 ∷ 57 ∷ 10 ∷ 69 ∷ 32 ∷ 67 ∷ 53 ∷ 48 ∷ 10 ∷ 69 ∷ 32 ∷ 67 ∷ 53 ∷ 49 ∷ 10 ∷ 69 ∷ 32 ∷ 67 ∷ 53 ∷ 50 ∷ 10 ∷ 69 ∷ 32 ∷ 67 ∷ 53 ∷ 51 ∷ 10 ∷ 69 ∷ 32 ∷ 67 ∷ 53 ∷ 52 ∷ 10 ∷ 69 ∷ 32 ∷ 67 ∷ 53 ∷ 53 ∷ 10 ∷ 69 ∷ 32 ∷ 67 ∷ 53 ∷ 54 ∷ 10 ∷ 69 ∷ 32 ∷ 67 ∷ 53 ∷ 55 ∷ 10 ∷ 69 ∷ 32 ∷ 67 ∷ 53 ∷ 56 ∷ 10 ∷ 69 ∷ 32 ∷ 67 ∷ 53 ∷ 57 ∷ 10 ∷ 69 ∷ 32 ∷ 67 ∷ 54 ∷ 48 ∷ 10 ∷ 69 ∷ 32 ∷ 67 ∷ 54 ∷ 49 ∷ 10 ∷ 69 ∷ 32 ∷ 67 ∷ 54 ∷ 50 ∷ 10 ∷ 69 ∷ 32 ∷ 67 ∷ 54 ∷ 51 ∷ 10 ∷ 83 ∷ 32 ∷ 67 ∷ 48 ∷ 10 ∷ 83 ∷ 32 ∷ 67 ∷ 49 ∷ 10 ∷ 83 ∷ 32 ∷ 67 ∷ 50 ∷ 10 ∷ 83 ∷ 32 ∷ 67 ∷ 51 ∷ 10 ∷ 83 ∷ 32 ∷ 67 ∷ 52 ∷ 10 ∷ 83 ∷ 32 ∷ 67 ∷ 53 ∷ 10 ∷ 83 ∷ 32 ∷ 67 ∷ 54 ∷ 10 ∷ 83 ∷ 32 ∷ 67 ∷ 55 ∷ 10 ∷ 83 ∷ 32 ∷ 67 ∷ 56 ∷ 10 ∷ 83 ∷ 32 ∷ 67 ∷ 57 ∷ 10 ∷ 83 ∷ 32 ∷ 67 ∷ 49 ∷ 48 ∷ 10 ∷ 83 ∷ 32 ∷ 67 ∷ 49 ∷ 49 ∷ 10 ∷ 83 ∷ 32 ∷ 67 ∷ 49 ∷ 50 ∷ 10 ∷ 83 ∷ 32 ∷ 67 ∷ 49 ∷ 51 ∷ 10 ∷ 83 ∷ 32 ∷ 67 ∷ 49 ∷ 52 ∷ 10 ∷ 83 ∷ 32 ∷ 67 ∷ 49 ∷ 53 ∷ 10 ∷ 83 ∷ 32 ∷ 67 ∷ 49 ∷ 54 ∷ 10 ∷ 83 ∷ 32 ∷ 67 ∷ 49 ∷ 55 ∷ 10 ∷ 83 ∷ 32 ∷ 67 ∷ 49 ∷ 56 ∷ 10 ∷ 83 ∷ 32 ∷ 67 ∷ 49 ∷ 57 ∷ 10 ∷ 83 ∷ 32 ∷ 67 ∷ 50 ∷ 48 ∷ 10 ∷ 83 ∷ 32 ∷ 67 ∷ 50 ∷ 49 ∷ 10 ∷ 83 ∷ 32 ∷ 67 ∷ 50 ∷ 50 ∷ 10 ∷ 83 ∷ 32 ∷ 67 ∷ 50 ∷ 51 ∷ 10 ∷ 83 ∷ 32 ∷ 67 ∷ 50 ∷ 52 ∷ 10 ∷ 83 ∷ 32 ∷ 67 ∷ 50 ∷ 53 ∷ 10 ∷ 83 ∷ 32 ∷ 67 ∷ 50 ∷ 54 ∷ 10 ∷ 83 ∷ 32 ∷ 67 ∷ 50 ∷ 55 ∷ 10 ∷ 83 ∷ 32 ∷ 67 ∷ 50 ∷ 56 ∷ 10 ∷ 83 ∷ 32 ∷ 67 ∷ 50 ∷ 57 ∷ 10 ∷ 83 ∷ 32 ∷ 67 ∷ 51 ∷ 48 ∷ 10 ∷ 83 ∷ 32 ∷ 67 ∷ 51 ∷ 49 ∷ 10 ∷ 83 ∷ 32 ∷ 67 ∷ 51 ∷ 50 ∷ 10 ∷ 83 ∷ 32 ∷ 67 ∷ 51 ∷ 51 ∷ 10 ∷ 83 ∷ 32 ∷ 67 ∷ 51 ∷ 52 ∷ 10 ∷ 83 ∷ 32 ∷ 67 ∷ 51 ∷ 53 ∷ 10 ∷ 83 ∷ 32 ∷ 67 ∷ 51 ∷ 54 ∷ 10 ∷ 83 ∷ 32 ∷ 67 ∷ 51 ∷ 55 ∷ 10 ∷ 83 ∷ 32 ∷ 67 ∷ 51 ∷ 56 ∷ 10 ∷ 83 ∷ 32 ∷ 67 ∷ 51 ∷ 57 ∷ 10 ∷ 83 ∷ 32 ∷ 67 ∷ 52 ∷ 48 ∷ 10 ∷ 83 ∷ 32 ∷ 67 ∷ 52 ∷ 49 ∷ 10 ∷ 83 ∷ 32 ∷ 67 ∷ 52 ∷ 50 ∷ 10 ∷ 83 ∷ 32 ∷ 67 ∷ 52 ∷ 51 ∷ 10 ∷ 83 ∷ 32 ∷ 67 ∷ 52 ∷ 52 ∷ 10 ∷ 83 ∷ 32 ∷ 67 ∷ 52 ∷ 53 ∷ 10 ∷ 83 ∷ 32 ∷ 67 ∷ 52 ∷ 54 ∷ 10 ∷ 83 ∷ 32 ∷ 67 ∷ 52 ∷ 55 ∷ 10 ∷ 83 ∷ 32 ∷ 67 ∷ 52 ∷ 56 ∷ 10 ∷ 83 ∷ 32 ∷ 67 ∷ 52 ∷ 57 ∷ 10 ∷ 83 ∷ 32 ∷ 67 ∷ 53 ∷ 48 ∷ 10 ∷ 83 ∷ 32 ∷ 67 ∷ 53 ∷ 49 ∷ 10 ∷ 83 ∷ 32 ∷ 67 ∷ 53 ∷ 50 ∷ 10 ∷ 83 ∷ 32 ∷ 67 ∷ 53 ∷ 51 ∷ 10 ∷ 83 ∷ 32 ∷ 67 ∷ 53 ∷ 52 ∷ 10 ∷ 83 ∷ 32 ∷ 67 ∷ 53 ∷ 53 ∷ 10 ∷ 83 ∷ 32 ∷ 67 ∷ 53 ∷ 54 ∷ 10 ∷ 83 ∷ 32 ∷ 67 ∷ 53 ∷ 55 ∷ 10 ∷ 83 ∷ 32 ∷ 67 ∷ 53 ∷ 56 ∷ 10 ∷ 83 ∷ 32 ∷ 67 ∷ 53 ∷ 57 ∷ 10 ∷ 83 ∷ 32 ∷ 67 ∷ 54 ∷ 48 ∷ 10 ∷ 83 ∷ 32 ∷ 67 ∷ 54 ∷ 49 ∷ 10 ∷ 83 ∷ 32 ∷ 67 ∷ 54 ∷ 50 ∷ 10 ∷ 83 ∷ 32 ∷ 67 ∷ 54 ∷ 51 ∷ 10 ∷ [])

vector_046 : answers 256 512 in_046 ≡ (48 ∷ 32 ∷ 48 ∷ 32 ∷ 48 ∷ 32 ∷ 48 ∷ 10 ∷ 48 ∷ 32 ∷ 48 ∷ 32 ∷ 48 ∷ 32 ∷ 48 ∷ 10 ∷ 48 ∷ 32 ∷ 48 ∷ 32 ∷ 48 ∷ 32 ∷ 48 ∷ 10 ∷ 48 ∷ 32 ∷ 48 ∷ 32 ∷ 48 ∷ 32 ∷ 48 ∷ 10 ∷ 48 ∷ 32 ∷ 48 ∷ 32 ∷ 48 ∷ 32 ∷ 48 ∷ 10 ∷ 48 ∷ 32 ∷ 48 ∷ 32 ∷ 48 ∷ 32 ∷ 48 ∷ 10 ∷ 48 ∷ 32 ∷ 48 ∷ 32 ∷ 48 ∷ 32 ∷ 48 ∷ 10 ∷ 48 ∷ 32 ∷ 48 ∷ 32 ∷ 48 ∷ 32 ∷ 48 ∷ 10 ∷ 48 ∷ 32 ∷ 48 ∷ 32 ∷ 48 ∷ 32 ∷ 48 ∷ 10 ∷ 48 ∷ 32 ∷ 48 ∷ 32 ∷ 48 ∷ 32 ∷ 48 ∷ 10 ∷ 48 ∷ 32 ∷ 49 ∷ 32 ∷ 48 ∷ 32 ∷ 48 ∷ 10 ∷ 48 ∷ 32 ∷ 49 ∷ 32 ∷ 48 ∷ 32 ∷ 48 ∷ 10 ∷ 48 ∷ 32 ∷ 49 ∷ 32 ∷ 48 ∷ 32 ∷ 48 ∷ 10 ∷ 48 ∷ 32 ∷ 49 ∷ 32 ∷ 48 ∷ 32 ∷ 48 ∷ 10 ∷ 48 ∷ 32 ∷ 49 ∷ 32 ∷ 48 ∷ 32 ∷ 48 ∷ 10 ∷ 48 ∷ 32 ∷ 49 ∷ 32 ∷ 48 ∷ 32 ∷ 48 ∷ 10 ∷ 48 ∷ 32 ∷ 49 ∷ 32 ∷ 48 ∷ 32 ∷ 48 ∷ 10 ∷ 48 ∷ 32 ∷ 49 ∷ 32 ∷ 48 ∷ 32 ∷ 48 ∷ 10 ∷ 48 ∷ 32 ∷ 49 ∷ 32 ∷ 48 ∷ 32 ∷ 48 ∷ 10 ∷ 48 ∷ 32 ∷ 48 ∷ 32 ∷ 48 ∷ 32 ∷ 48 ∷ 10 ∷ 48 ∷ 32 ∷ 50 ∷ 32 ∷ 48 ∷ 32 ∷ 48 ∷ 10 ∷ 48 ∷ 32 ∷ 50 ∷ 32 ∷ 48 ∷ 32 ∷ 48 ∷ 10 ∷ 48 ∷ 32 ∷ 50 ∷ 32 ∷ 48 ∷ 32 ∷ 48 ∷ 10 ∷ 48 ∷ 32 ∷ 50 ∷ 32 ∷ 48 ∷ 32 ∷ 48 ∷ 10 ∷ 48 ∷ 32 ∷ 50 ∷ 32 ∷ 48 ∷ 32 ∷ 48 ∷ 10 ∷ 48 ∷ 32 ∷ 50 ∷ 32 ∷ 48 ∷ 32 ∷ 48 ∷ 10 ∷ 48 ∷ 32 ∷ 50 ∷ 32 ∷ 48 ∷ 32 ∷ 48 ∷ 10 ∷ 48 ∷ 32 ∷ 50 ∷ 32 ∷ 48 ∷ 32 ∷ 48 ∷ 10 ∷ 48 ∷ 32 ∷ 49 ∷ 32 ∷ 48 ∷ 32 ∷ 48 ∷ 10 ∷ 48 ∷ 32 ∷ 48 ∷ 32 ∷ 48 ∷ 32 ∷ 48 ∷ 10 ∷ 48 ∷ 32 ∷ 51 ∷ 32 ∷ 48 ∷ 32 ∷ 48 ∷ 10 ∷ 48 ∷ 32 ∷ 51 ∷ 32 ∷ 48 ∷ 32 ∷ 48 ∷ 10 ∷ 48 ∷ 32 ∷ 51 ∷ 32 ∷ 48 ∷ 32 ∷ 48 ∷ 10 ∷ 48 ∷ 32 ∷ 51 ∷ 32 ∷ 48 ∷ 32 ∷ 48 ∷ 10 ∷ 48 ∷ 32 ∷ 51 ∷ 32 ∷ 48 ∷ 32 ∷ 48 ∷ 10 ∷ 48 ∷ 32 ∷ 51 ∷ 32 ∷ 48 ∷ 32 ∷ 48 ∷ 10 ∷ 48 ∷ 32 ∷ 51 ∷ 32 ∷ 48 ∷ 32 ∷ 48 ∷ 10 ∷ 48 ∷ 32 ∷ 50 ∷ 32 ∷ 48 ∷ 32 ∷ 48 ∷ 10 ∷ 48 ∷ 32 ∷ 49 ∷ 32 ∷ 48 ∷ 32 ∷ 48 ∷ 10 ∷ 48 ∷ 32 ∷ 48 ∷ 32 ∷ 48 ∷ 32 ∷ 48 ∷ 10 ∷ 48 ∷ 32 ∷ 52 ∷ 32 ∷ 48 ∷ 32 ∷ 48 ∷ 10 ∷ 48 ∷ 32 ∷ 52 ∷ 32 ∷ 48 ∷ 32 ∷ 48 ∷ 10 ∷ 48 ∷ 32 ∷ 52 ∷ 32 ∷ 48 ∷ 32 ∷ 48 ∷ 10 ∷ 48 ∷ 32 ∷ 52 ∷ 32 ∷ 48 ∷ 32 ∷ 48 ∷ 10 ∷ 48 ∷ 32 ∷ 52 ∷ 32 ∷ 48 ∷ 32 ∷ 48 ∷ 10 ∷ 48 ∷ 32 ∷ 52 ∷ 32 ∷ 48 ∷ 32 ∷ 48 ∷ 10 ∷ 48 ∷ 32 ∷ 51 ∷ 32 ∷ 48 ∷ 32 ∷ 48 ∷ 10 ∷ 48 ∷ 32 ∷ 50 ∷ 32 ∷ 48 ∷ 32 ∷ 48 ∷ 10 ∷ 48 ∷ 32 ∷ 49 ∷ 32 ∷ 48 ∷ 32 ∷ 48 ∷ 10 ∷ 48 ∷ 32 ∷ 48 ∷ 32 ∷ 48 ∷ 32 ∷ 48 ∷ 10 ∷ 48 ∷ 32 ∷ 53 ∷ 32 ∷ 48 ∷ 32 ∷ 48 ∷ 10 ∷ 48 ∷ 32 ∷ 53 ∷ 32 ∷ 48 ∷ 32 ∷ 48 ∷ 10 ∷ 48 ∷ 32 ∷ 53 ∷ 32 ∷ 48 ∷ 32 ∷ 48 ∷ 10 ∷ 48 ∷ 32 ∷ 53 ∷ 32 ∷ 48 ∷ 32 ∷ 48 ∷ 10 ∷ 48 ∷ 32 ∷ 53 ∷ 32 ∷ 48 ∷ 32 ∷ 48 ∷ 10 ∷ 48 ∷ 32 ∷ 52 ∷ 32 ∷ 48 ∷ 32 ∷ 48 ∷ 10 ∷ 48 ∷ 32 ∷ 51 ∷ 32 ∷ 48 ∷ 32 ∷ 48 ∷ 10 ∷ 48 ∷ 32 ∷ 50 ∷ 32 ∷ 48 ∷ 32 ∷ 48 ∷ 10 ∷ 48 ∷ 32 ∷ 49 ∷ 32 ∷ 48 ∷ 32 ∷ 48 ∷ 10 ∷ 48 ∷ 32 ∷ 48 ∷ 32 ∷ 48 ∷ 32 ∷ 48 ∷ 10 ∷ 48 ∷ 32 ∷ 54 ∷ 32 ∷ 48 ∷ 32 ∷ 48 ∷ 10 ∷ 48 ∷ 32 ∷ 54 ∷ 32 ∷ 48 ∷ 32 ∷ 48 ∷ 10 ∷ 48 ∷ 32 ∷ 54 ∷ 32 ∷ 48 ∷ 32 ∷ 48 ∷ 10 ∷ 48 ∷ 32 ∷ 54 ∷ 32 ∷ 48 ∷ 32 ∷ 48 ∷ 10 ∷ 48 ∷ 32 ∷ 49 ∷ 32 ∷ 48 ∷ 32 ∷ 48 ∷ 10 ∷ 48 ∷ 32 ∷ 49 ∷ 32 ∷ 48 ∷ 32 ∷ 48 ∷ 10 ∷ 48 ∷ 32 ∷ 49 ∷ 32 ∷ 48 ∷ 32 ∷ 48 ∷ 10 ∷ 48 ∷ 32 ∷ 49 ∷ 32 ∷ 48 ∷ 32 ∷ 48 ∷ 10 ∷ 48 ∷ 32 ∷ 49 ∷ 32 ∷ 48 ∷ 32 ∷ 48 ∷ 10 ∷ 48 ∷ 32 ∷ 49 ∷ 32 ∷ 48 ∷ 32 ∷ 48 ∷ 10 ∷ 48 ∷ 32 ∷ 49 ∷ 32 ∷ 48 ∷ 32 ∷ 48 ∷ 10 ∷ 48 ∷ 32 ∷ 49 ∷ 32 ∷ 48 ∷ 32 ∷ 48 ∷ 10 ∷ 48 ∷ 32 ∷ 49 ∷ 32 ∷ 48 ∷ 32 ∷ 48 ∷ 10 ∷ 48 ∷ 32 ∷ 49 ∷ 32 ∷ 48 ∷ 32 ∷ 48 ∷ 10 ∷ 48 ∷ 32 ∷ 50 ∷ 32 ∷ 48 ∷ 32 ∷ 48 ∷ 10 ∷ 48 ∷ 32 ∷ 50 ∷ 32 ∷ 48 ∷ 32 ∷ 48 ∷ 10 ∷ 48 ∷ 32 ∷ 50 ∷ 32 ∷ 48 ∷ 32 ∷ 48 ∷ 10 ∷ 48 ∷ 32 ∷ 50 ∷ 32 ∷ 48 ∷ 32 ∷ 48 ∷ 10 ∷ 48 ∷ 32 ∷ 50 ∷ 32 ∷ 48 ∷ 32 ∷ 48 ∷ 10 ∷ 48 ∷ 32 ∷ 50 ∷ 32 ∷ 48 ∷ 32 ∷ 48 ∷ 10 ∷ 48 ∷ 32 ∷ 50 ∷ 32 ∷ 48 ∷ 32 ∷ 48 ∷ 10 ∷ 48 ∷ 32 ∷ 50 ∷ 32 ∷ 48 ∷ 32 ∷ 48 ∷ 10 ∷ 48 ∷ 32 ∷ 50 ∷ 32 ∷ 48 ∷ 32 ∷ 48 ∷ 10 ∷ 48 ∷ 32 ∷ 49 ∷ 32 ∷ 48 ∷ 32 ∷ 48 ∷ 10 ∷ 48 ∷ 32 ∷ 51 ∷ 32 ∷ 48 ∷ 32 ∷ 48 ∷ 10 ∷ 48 ∷ 32 ∷ 51 ∷ 32 ∷ 48 ∷ 32 ∷ 48 ∷ 10 ∷ 48 ∷ 32 ∷ 51 ∷ 32 ∷ 48 ∷ 32 ∷ 48 ∷ 10 ∷ 48 ∷ 32 ∷ 51 ∷ 32 ∷ 48 ∷ 32 ∷ 48 ∷ 10 ∷ 48 ∷ 32 ∷ 51 ∷ 32 ∷ 48 ∷ 32 ∷ 48 ∷ 10 ∷ 48 ∷ 32 ∷ 51 ∷ 32 ∷ 48 ∷ 32 ∷ 48 ∷ 10 ∷ 48 ∷ 32 ∷ 51 ∷ 32 ∷ 48 ∷ 32 ∷ 48 ∷ 10 ∷ 48 ∷ 32 ∷ 51 ∷ 32 ∷ 48 ∷ 32 ∷ 48 ∷ 10 ∷ 48 ∷ 32 ∷ 50 ∷ 32 ∷ 48 ∷ 32 ∷ 48 ∷ 10 ∷ 48 ∷ 32 ∷ 49 ∷ 32 ∷ 48 ∷ 32 ∷ 48 ∷ 10 ∷ 48 ∷ 32 ∷ 52 ∷ 32 ∷ 48 ∷ 32 ∷ 48 ∷ 10 ∷ 48 ∷ 32 ∷ 52 ∷ 32 ∷ 48 ∷ 32 ∷ 48 ∷ 10 ∷ 48 ∷ 32 ∷ 52 ∷ 32 ∷ 48 ∷ 32 ∷ 48 ∷ 10 ∷ 48 ∷ 32 ∷ 52 ∷ 32 ∷ 48 ∷ 32 ∷ 48 ∷ 10 ∷ 48 ∷ 32 ∷ 52 ∷ 32 ∷ 48 ∷ 32 ∷ 48 ∷ 10 ∷ 48 ∷ 32 ∷ 52 ∷ 32 ∷ 48 ∷ 32 ∷ 48 ∷ 10 ∷ 48 ∷ 32 ∷ 52 ∷ 32 ∷ 48 ∷ 32 ∷ 48 ∷ 10 ∷ 48 ∷ 32 ∷ 51 ∷ 32 ∷ 48 ∷ 32 ∷ 48 ∷ 10 ∷ 48 ∷ 32 ∷ 50 ∷ 32 ∷ 48 ∷ 32 ∷ 48 ∷ 10 ∷ 48 ∷ 32 ∷ 49 ∷ 32 ∷ 48 ∷ 32 ∷ 48 ∷ 10 ∷ 48 ∷ 32 ∷ 53 ∷ 32 ∷ 48 ∷ 32 ∷ 48 ∷ 10 ∷ 48 ∷ 32 ∷ 53 ∷ 32 ∷ 48 ∷ 32 ∷ 48 ∷ 10 ∷ 48 ∷ 32 ∷ 53 ∷ 32 ∷ 48 ∷ 32 ∷ 48 ∷ 10 ∷ 48 ∷ 32 ∷ 53 ∷ 32 ∷ 48 ∷ 32 ∷ 48 ∷ 10 ∷ 48 ∷ 32 ∷ 53 ∷ 32 ∷ 48 ∷ 32 ∷ 48 ∷ 10 ∷ 48 ∷ 32 ∷ 53 ∷ 32 ∷ 48 ∷ 32 ∷ 48 ∷ 10 ∷ 48 ∷ 32 ∷ 52 ∷ 32 ∷ 48 ∷ 32 ∷ 48 ∷ 10 ∷ 48 ∷ 32 ∷ 51 ∷ 32 ∷ 48 ∷ 32 ∷ 48 ∷ 10 ∷ 48 ∷ 32 ∷ 50 ∷ 32 ∷ 48 ∷ 32 ∷ 48 ∷ 10 ∷ 48 ∷ 32 ∷ 49 ∷ 32 ∷ 48 ∷ 32 ∷ 48 ∷ 10 ∷ 48 ∷ 32 ∷ 54 ∷ 32 ∷ 48 ∷ 32 ∷ 48 ∷ 10 ∷ 48 ∷ 32 ∷ 54 ∷ 32 ∷ 48 ∷ 32 ∷ 48 ∷ 10 ∷ 48 ∷ 32 ∷ 54 ∷ 32 ∷ 48 ∷ 32 ∷ 48 ∷ 10 ∷ 48 ∷ 32 ∷ 54 ∷ 32 ∷ 48 ∷ 32 ∷ 48 ∷ 10 ∷ 48 ∷ 32 ∷ 54 ∷ 32 ∷ 48 ∷ 32 ∷ 48 ∷ 10 ∷ 48 ∷ 32 ∷ 53 ∷ 32 ∷ 48 ∷ 32 ∷ 48 ∷ 10 ∷ 48 ∷ 32 ∷ 52 ∷ 32 ∷ 48 ∷ 32 ∷ 48 ∷ 10 ∷ 48 ∷ 32 ∷ 51 ∷ 32 ∷ 48 ∷ 32 ∷ 48 ∷ 10 ∷ 48 ∷ 32 ∷ 50 ∷ 32 ∷ 48 ∷ 32 ∷ 48 ∷ 10 ∷ 48 ∷ 32 ∷ 49 ∷ 32 ∷ 48 ∷ 32 ∷ 48 ∷ 10 ∷ 48 ∷ 32 ∷ 55 ∷ 32 ∷ 48 ∷ 32 ∷ 48 ∷ 10 ∷ 48 ∷ 32 ∷ 55 ∷ 32 ∷ 48 ∷ 32 ∷ 48 ∷ 10 ∷ 48 ∷ 32 ∷ 55 ∷ 32 ∷ 48 ∷ 32 ∷ 48 ∷ 10 ∷ 48 ∷ 32 ∷ 55 ∷ 32 ∷ 48 ∷ 32 ∷ 48 ∷ 10 ∷ [])
unfolding answers in_046
vector_046 = refl

-- `E N0⏎E N1⏎E N3⏎E N4⏎E N5⏎E N6⏎E N7⏎E N8⏎E N9⏎E N10⏎E N12⏎E N13⏎E N14⏎E N15⏎E N16⏎E N17⏎E N18⏎E N19⏎E N21⏎E N22⏎E N23` ..
in_055 : List ℕ
in_055 = (69 ∷ 32 ∷ 78 ∷ 48 ∷ 10 ∷ 69 ∷ 32 ∷ 78 ∷ 49 ∷ 10 ∷ 69 ∷ 32 ∷ 78 ∷ 51 ∷ 10 ∷ 69 ∷ 32 ∷ 78 ∷ 52 ∷ 10 ∷ 69 ∷ 32 ∷ 78 ∷ 53 ∷ 10 ∷ 69 ∷ 32 ∷ 78 ∷ 54 ∷ 10 ∷ 69 ∷ 32 ∷ 78 ∷ 55 ∷ 10 ∷ 69 ∷ 32 ∷ 78 ∷ 56 ∷ 10 ∷ 69 ∷ 32 ∷ 78 ∷ 57 ∷ 10 ∷ 69 ∷ 32 ∷ 78 ∷ 49 ∷ 48 ∷ 10 ∷ 69 ∷ 32 ∷ 78 ∷ 49 ∷ 50 ∷ 10 ∷ 69 ∷ 32 ∷ 78 ∷ 49 ∷ 51 ∷ 10 ∷ 69 ∷ 32 ∷ 78 ∷ 49 ∷ 52 ∷ 10 ∷ 69 ∷ 32 ∷ 78 ∷ 49 ∷ 53 ∷ 10 ∷ 69 ∷ 32 ∷ 78 ∷ 49 ∷ 54 ∷ 10 ∷ 69 ∷ 32 ∷ 78 ∷ 49 ∷ 55 ∷ 10 ∷ 69 ∷ 32 ∷ 78 ∷ 49 ∷ 56 ∷ 10 ∷ 69 ∷ 32 ∷ 78 ∷ 49 ∷ 57 ∷ 10 ∷ 69 ∷ 32 ∷ 78 ∷ 50 ∷ 49 ∷ 10 ∷ 69 ∷ 32 ∷ 78 ∷ 50 ∷ 50 ∷ 10 ∷ 69 ∷ 32 ∷ 78 ∷ 50 ∷ 51 ∷ 10 ∷ 69 ∷ 32 ∷ 78 ∷ 50 ∷ 52 ∷ 10 ∷ 69 ∷ 32 ∷ 78 ∷ 50 ∷ 53 ∷ 10 ∷ 69 ∷ 32 ∷ 78 ∷ 50 ∷ 54 ∷ 10 ∷ 69 ∷ 32 ∷ 78 ∷ 50 ∷ 55 ∷ 10 ∷ 69 ∷ 32 ∷ 78 ∷ 50 ∷ 56 ∷ 10 ∷ 69 ∷ 32 ∷ 78 ∷ 50 ∷ 57 ∷ 10 ∷ 69 ∷ 32 ∷ 78 ∷ 51 ∷ 48 ∷ 10 ∷ 69 ∷ 32 ∷ 78 ∷ 51 ∷ 49 ∷ 10 ∷ 69 ∷ 32 ∷ 78 ∷ 51 ∷ 50 ∷ 10 ∷ 69 ∷ 32 ∷ 78 ∷ 51 ∷ 51 ∷ 10 ∷ 69 ∷ 32 ∷ 78 ∷ 51 ∷ 52 ∷ 10 ∷ 69 ∷ 32 ∷ 78 ∷ 51 ∷ 53 ∷ 10 ∷ 69 ∷ 32 ∷ 78 ∷ 51 ∷ 54 ∷ 10 ∷ 69 ∷ 32 ∷ 78 ∷ 51 ∷ 55 ∷ 10 ∷ 69 ∷ 32 ∷ 78 ∷ 51 ∷ 56 ∷ 10 ∷ 69 ∷ 32 ∷ 78 ∷ 51 ∷ 57 ∷ 10 ∷ 69 ∷ 32 ∷ 78 ∷ 52 ∷ 48 ∷ 10 ∷ 69 ∷ 32 ∷ 78 ∷ 52 ∷ 49 ∷ 10 ∷ 69 ∷ 32 ∷ 78 ∷ 52 ∷ 50 ∷ 10 ∷ 69 ∷ 32 ∷ 78 ∷ 52 ∷ 51 ∷ 10 ∷ 69 ∷ 32 ∷ 78 ∷ 52 ∷ 52 ∷ 10 ∷ 69 ∷ 32 ∷ 78 ∷ 52 ∷ 53 ∷ 10 ∷ 69 ∷ 32 ∷ 78 ∷ 52 ∷ 54 ∷ 10 ∷ 69 ∷ 32 ∷ 78 ∷ 52 ∷ 55 ∷ 10 ∷ 69 ∷ 32 ∷ 78 ∷ 52 ∷ 56 ∷ 10 ∷ 69 ∷ 32 ∷ 78 ∷ 52 ∷ 57 ∷ 10 ∷ 69 ∷ 32 ∷ 78 ∷ 53 ∷ 48 ∷ 10 ∷ 69 ∷ 32 ∷ 78 ∷ 53 ∷ 49 ∷ 10 ∷ 69 ∷ 32 ∷ 78 ∷ 53 ∷ 50 ∷ 10 ∷ 69 ∷ 32 ∷ 78 ∷ 53 ∷ 51 ∷ 10 ∷ 69 ∷ 32 ∷ 78 ∷ 53 ∷ 52 ∷ 10 ∷ 69 ∷ 32 ∷ 78 ∷ 53 ∷ 53 ∷ 10 ∷ 69 ∷ 32 ∷ 78 ∷ 53 ∷ 54 ∷ 10 ∷ 69 ∷ 32 ∷ 78 ∷ 53 ∷ 55 ∷ 10 ∷ 69 ∷ 32 ∷ 78 ∷ 53 ∷ 56 ∷ 10 ∷ 69 ∷ 32 ∷ 78 ∷ 53 ∷ 57 ∷ 10 ∷ 69 ∷ 32 ∷ 78 ∷ 54 ∷ 48 ∷ 10 ∷ 69 ∷ 32 ∷ 78 ∷ 54 ∷ 49 ∷ 10 ∷ 69 ∷ 32 ∷ 78 ∷ 54 ∷ 50 ∷ 10 ∷ 69 ∷ 32 ∷ 78 ∷ 54 ∷ 51 ∷ 10 ∷ 69 ∷ 32 ∷ 78 ∷ 54 ∷ 52 ∷ 10 ∷ 69 ∷ 32 ∷ 78 ∷ 54 ∷ 53 ∷ 10 ∷ 69 ∷ 32 ∷ 78 ∷ 54 ∷ 54 ∷ 10 ∷ 69 ∷ 32 ∷ 78 ∷ 54 ∷ 55 ∷ 10 ∷ 69 ∷ 32 ∷ 78 ∷ 54 ∷ 56 ∷ 10 ∷ 69 ∷ 32 ∷ 78 ∷ 54 ∷ 57 ∷ 10 ∷ 69 ∷ 32 ∷ 78 ∷ 55 ∷ 48 ∷ 10 ∷ 69 ∷ 32 ∷ 78 ∷ 55 ∷ 49 ∷ 10 ∷ 69 ∷ 32 ∷ 78 ∷ 55 ∷ 50 ∷ 10 ∷ [])

vector_055 : answers 256 512 in_055 ≡ (48 ∷ 32 ∷ 48 ∷ 32 ∷ 48 ∷ 32 ∷ 48 ∷ 10 ∷ 48 ∷ 32 ∷ 48 ∷ 32 ∷ 48 ∷ 32 ∷ 48 ∷ 10 ∷ 48 ∷ 32 ∷ 48 ∷ 32 ∷ 48 ∷ 32 ∷ 48 ∷ 10 ∷ 48 ∷ 32 ∷ 48 ∷ 32 ∷ 48 ∷ 32 ∷ 48 ∷ 10 ∷ 48 ∷ 32 ∷ 48 ∷ 32 ∷ 48 ∷ 32 ∷ 48 ∷ 10 ∷ 48 ∷ 32 ∷ 48 ∷ 32 ∷ 48 ∷ 32 ∷ 48 ∷ 10 ∷ 48 ∷ 32 ∷ 48 ∷ 32 ∷ 48 ∷ 32 ∷ 48 ∷ 10 ∷ 48 ∷ 32 ∷ 48 ∷ 32 ∷ 48 ∷ 32 ∷ 48 ∷ 10 ∷ 48 ∷ 32 ∷ 48 ∷ 32 ∷ 48 ∷ 32 ∷ 48 ∷ 10 ∷ 48 ∷ 32 ∷ 49 ∷ 32 ∷ 48 ∷ 32 ∷ 48 ∷ 10 ∷ 48 ∷ 32 ∷ 49 ∷ 32 ∷ 48 ∷ 32 ∷ 48 ∷ 10 ∷ 48 ∷ 32 ∷ 49 ∷ 32 ∷ 48 ∷ 32 ∷ 48 ∷ 10 ∷ 48 ∷ 32 ∷ 49 ∷ 32 ∷ 48 ∷ 32 ∷ 48 ∷ 10 ∷ 48 ∷ 32 ∷ 49 ∷ 32 ∷ 48 ∷ 32 ∷ 48 ∷ 10 ∷ 48 ∷ 32 ∷ 49 ∷ 32 ∷ 48 ∷ 32 ∷ 48 ∷ 10 ∷ 48 ∷ 32 ∷ 49 ∷ 32 ∷ 48 ∷ 32 ∷ 48 ∷ 10 ∷ 48 ∷ 32 ∷ 49 ∷ 32 ∷ 48 ∷ 32 ∷ 48 ∷ 10 ∷ 48 ∷ 32 ∷ 48 ∷ 32 ∷ 48 ∷ 32 ∷ 48 ∷ 10 ∷ 48 ∷ 32 ∷ 50 ∷ 32 ∷ 48 ∷ 32 ∷ 48 ∷ 10 ∷ 48 ∷ 32 ∷ 50 ∷ 32 ∷ 48 ∷ 32 ∷ 48 ∷ 10 ∷ 48 ∷ 32 ∷ 50 ∷ 32 ∷ 48 ∷ 32 ∷ 48 ∷ 10 ∷ 48 ∷ 32 ∷ 50 ∷ 32 ∷ 48 ∷ 32 ∷ 48 ∷ 10 ∷ 48 ∷ 32 ∷ 50 ∷ 32 ∷ 48 ∷ 32 ∷ 48 ∷ 10 ∷ 48 ∷ 32 ∷ 50 ∷ 32 ∷ 48 ∷ 32 ∷ 48 ∷ 10 ∷ 48 ∷ 32 ∷ 50 ∷ 32 ∷ 48 ∷ 32 ∷ 48 ∷ 10 ∷ 48 ∷ 32 ∷ 49 ∷ 32 ∷ 48 ∷ 32 ∷ 48 ∷ 10 ∷ 48 ∷ 32 ∷ 48 ∷ 32 ∷ 48 ∷ 32 ∷ 48 ∷ 10 ∷ 48 ∷ 32 ∷ 51 ∷ 32 ∷ 48 ∷ 32 ∷ 48 ∷ 10 ∷ 48 ∷ 32 ∷ 51 ∷ 32 ∷ 48 ∷ 32 ∷ 48 ∷ 10 ∷ 48 ∷ 32 ∷ 51 ∷ 32 ∷ 48 ∷ 32 ∷ 48 ∷ 10 ∷ 48 ∷ 32 ∷ 51 ∷ 32 ∷ 48 ∷ 32 ∷ 48 ∷ 10 ∷ 48 ∷ 32 ∷ 51 ∷ 32 ∷ 48 ∷ 32 ∷ 48 ∷ 10 ∷ 48 ∷ 32 ∷ 51 ∷ 32 ∷ 48 ∷ 32 ∷ 48 ∷ 10 ∷ 48 ∷ 32 ∷ 51 ∷ 32 ∷ 48 ∷ 32 ∷ 48 ∷ 10 ∷ 48 ∷ 32 ∷ 50 ∷ 32 ∷ 48 ∷ 32 ∷ 48 ∷ 10 ∷ 48 ∷ 32 ∷ 49 ∷ 32 ∷ 48 ∷ 32 ∷ 48 ∷ 10 ∷ 48 ∷ 32 ∷ 48 ∷ 32 ∷ 48 ∷ 32 ∷ 48 ∷ 10 ∷ 48 ∷ 32 ∷ 52 ∷ 32 ∷ 48 ∷ 32 ∷ 48 ∷ 10 ∷ 48 ∷ 32 ∷ 52 ∷ 32 ∷ 48 ∷ 32 ∷ 48 ∷ 10 ∷ 48 ∷ 32 ∷ 52 ∷ 32 ∷ 48 ∷ 32 ∷ 48 ∷ 10 ∷ 48 ∷ 32 ∷ 52 ∷ 32 ∷ 48 ∷ 32 ∷ 48 ∷ 10 ∷ 48 ∷ 32 ∷ 52 ∷ 32 ∷ 48 ∷ 32 ∷ 48 ∷ 10 ∷ 48 ∷ 32 ∷ 52 ∷ 32 ∷ 48 ∷ 32 ∷ 48 ∷ 10 ∷ 48 ∷ 32 ∷ 51 ∷ 32 ∷ 48 ∷ 32 ∷ 48 ∷ 10 ∷ 48 ∷ 32 ∷ 50 ∷ 32 ∷ 48 ∷ 32 ∷ 48 ∷ 10 ∷ 48 ∷ 32 ∷ 49 ∷ 32 ∷ 48 ∷ 32 ∷ 48 ∷ 10 ∷ 48 ∷ 32 ∷ 48 ∷ 32 ∷ 48 ∷ 32 ∷ 48 ∷ 10 ∷ 48 ∷ 32 ∷ 53 ∷ 32 ∷ 48 ∷ 32 ∷ 48 ∷ 10 ∷ 48 ∷ 32 ∷ 53 ∷ 32 ∷ 48 ∷ 32 ∷ 48 ∷ 10 ∷ 48 ∷ 32 ∷ 53 ∷ 32 ∷ 48 ∷ 32 ∷ 48 ∷ 10 ∷ 48 ∷ 32 ∷ 53 ∷ 32 ∷ 48 ∷ 32 ∷ 48 ∷ 10 ∷ 48 ∷ 32 ∷ 53 ∷ 32 ∷ 48 ∷ 32 ∷ 48 ∷ 10 ∷ 48 ∷ 32 ∷ 52 ∷ 32 ∷ 48 ∷ 32 ∷ 48 ∷ 10 ∷ 48 ∷ 32 ∷ 51 ∷ 32 ∷ 48 ∷ 32 ∷ 48 ∷ 10 ∷ 48 ∷ 32 ∷ 50 ∷ 32 ∷ 48 ∷ 32 ∷ 48 ∷ 10 ∷ 48 ∷ 32 ∷ 49 ∷ 32 ∷ 48 ∷ 32 ∷ 48 ∷ 10 ∷ 48 ∷ 32 ∷ 48 ∷ 32 ∷ 48 ∷ 32 ∷ 48 ∷ 10 ∷ 48 ∷ 32 ∷ 54 ∷ 32 ∷ 48 ∷ 32 ∷ 48 ∷ 10 ∷ 48 ∷ 32 ∷ 54 ∷ 32 ∷ 48 ∷ 32 ∷ 48 ∷ 10 ∷ 48 ∷ 32 ∷ 54 ∷ 32 ∷ 48 ∷ 32 ∷ 48 ∷ 10 ∷ 48 ∷ 32 ∷ 54 ∷ 32 ∷ 48 ∷ 32 ∷ 48 ∷ 10 ∷ 48 ∷ 32 ∷ 53 ∷ 32 ∷ 48 ∷ 32 ∷ 48 ∷ 10 ∷ 48 ∷ 32 ∷ 52 ∷ 32 ∷ 48 ∷ 32 ∷ 48 ∷ 10 ∷ 48 ∷ 32 ∷ 51 ∷ 32 ∷ 48 ∷ 32 ∷ 48 ∷ 10 ∷ 48 ∷ 32 ∷ 50 ∷ 32 ∷ 48 ∷ 32 ∷ 48 ∷ 10 ∷ 48 ∷ 32 ∷ 49 ∷ 32 ∷ 48 ∷ 32 ∷ 48 ∷ 10 ∷ 48 ∷ 32 ∷ 48 ∷ 32 ∷ 48 ∷ 32 ∷ 48 ∷ 10 ∷ 48 ∷ 32 ∷ 55 ∷ 32 ∷ 48 ∷ 32 ∷ 48 ∷ 10 ∷ 48 ∷ 32 ∷ 55 ∷ 32 ∷ 52 ∷ 32 ∷ 48 ∷ 10 ∷ 48 ∷ 32 ∷ 55 ∷ 32 ∷ 48 ∷ 32 ∷ 48 ∷ 10 ∷ [])
unfolding answers in_055
vector_055 = refl

-- `E N0⏎E N1⏎E N3⏎E N4⏎E N5⏎E N6⏎E N7⏎E N8⏎E N9⏎E N10⏎E N12⏎E N13⏎E N14⏎E N15⏎E N16⏎E N17⏎E N18⏎E N19⏎E N21⏎E N22⏎E N23` ..
in_061 : List ℕ
in_061 = (69 ∷ 32 ∷ 78 ∷ 48 ∷ 10 ∷ 69 ∷ 32 ∷ 78 ∷ 49 ∷ 10 ∷ 69 ∷ 32 ∷ 78 ∷ 51 ∷ 10 ∷ 69 ∷ 32 ∷ 78 ∷ 52 ∷ 10 ∷ 69 ∷ 32 ∷ 78 ∷ 53 ∷ 10 ∷ 69 ∷ 32 ∷ 78 ∷ 54 ∷ 10 ∷ 69 ∷ 32 ∷ 78 ∷ 55 ∷ 10 ∷ 69 ∷ 32 ∷ 78 ∷ 56 ∷ 10 ∷ 69 ∷ 32 ∷ 78 ∷ 57 ∷ 10 ∷ 69 ∷ 32 ∷ 78 ∷ 49 ∷ 48 ∷ 10 ∷ 69 ∷ 32 ∷ 78 ∷ 49 ∷ 50 ∷ 10 ∷ 69 ∷ 32 ∷ 78 ∷ 49 ∷ 51 ∷ 10 ∷ 69 ∷ 32 ∷ 78 ∷ 49 ∷ 52 ∷ 10 ∷ 69 ∷ 32 ∷ 78 ∷ 49 ∷ 53 ∷ 10 ∷ 69 ∷ 32 ∷ 78 ∷ 49 ∷ 54 ∷ 10 ∷ 69 ∷ 32 ∷ 78 ∷ 49 ∷ 55 ∷ 10 ∷ 69 ∷ 32 ∷ 78 ∷ 49 ∷ 56 ∷ 10 ∷ 69 ∷ 32 ∷ 78 ∷ 49 ∷ 57 ∷ 10 ∷ 69 ∷ 32 ∷ 78 ∷ 50 ∷ 49 ∷ 10 ∷ 69 ∷ 32 ∷ 78 ∷ 50 ∷ 50 ∷ 10 ∷ 69 ∷ 32 ∷ 78 ∷ 50 ∷ 51 ∷ 10 ∷ 69 ∷ 32 ∷ 78 ∷ 50 ∷ 52 ∷ 10 ∷ 69 ∷ 32 ∷ 78 ∷ 50 ∷ 53 ∷ 10 ∷ 69 ∷ 32 ∷ 78 ∷ 50 ∷ 54 ∷ 10 ∷ 69 ∷ 32 ∷ 78 ∷ 50 ∷ 55 ∷ 10 ∷ 69 ∷ 32 ∷ 78 ∷ 50 ∷ 56 ∷ 10 ∷ 69 ∷ 32 ∷ 78 ∷ 50 ∷ 57 ∷ 10 ∷ 69 ∷ 32 ∷ 78 ∷ 51 ∷ 48 ∷ 10 ∷ 69 ∷ 32 ∷ 78 ∷ 51 ∷ 49 ∷ 10 ∷ 69 ∷ 32 ∷ 78 ∷ 51 ∷ 50 ∷ 10 ∷ 69 ∷ 32 ∷ 78 ∷ 51 ∷ 51 ∷ 10 ∷ 69 ∷ 32 ∷ 78 ∷ 51 ∷ 52 ∷ 10 ∷ 69 ∷ 32 ∷ 78 ∷ 51 ∷ 53 ∷ 10 ∷ 69 ∷ 32 ∷ 78 ∷ 51 ∷ 54 ∷ 10 ∷ 69 ∷ 32 ∷ 78 ∷ 51 ∷ 55 ∷ 10 ∷ 69 ∷ 32 ∷ 78 ∷ 51 ∷ 56 ∷ 10 ∷ 69 ∷ 32 ∷ 78 ∷ 51 ∷ 57 ∷ 10 ∷ 69 ∷ 32 ∷ 78 ∷ 52 ∷ 48 ∷ 10 ∷ 69 ∷ 32 ∷ 78 ∷ 52 ∷ 49 ∷ 10 ∷ 69 ∷ 32 ∷ 78 ∷ 52 ∷ 50 ∷ 10 ∷ 69 ∷ 32 ∷ 78 ∷ 52 ∷ 51 ∷ 10 ∷ 69 ∷ 32 ∷ 78 ∷ 52 ∷ 52 ∷ 10 ∷ 69 ∷ 32 ∷ 78 ∷ 52 ∷ 53 ∷ 10 ∷ 69 ∷ 32 ∷ 78 ∷ 52 ∷ 54 ∷ 10 ∷ 69 ∷ 32 ∷ 78 ∷ 52 ∷ 55 ∷ 10 ∷ 69 ∷ 32 ∷ 78 ∷ 52 ∷ 56 ∷ 10 ∷ 69 ∷ 32 ∷ 78 ∷ 52 ∷ 57 ∷ 10 ∷ 69 ∷ 32 ∷ 78 ∷ 53 ∷ 48 ∷ 10 ∷ 69 ∷ 32 ∷ 78 ∷ 53 ∷ 49 ∷ 10 ∷ 69 ∷ 32 ∷ 78 ∷ 53 ∷ 50 ∷ 10 ∷ 69 ∷ 32 ∷ 78 ∷ 53 ∷ 51 ∷ 10 ∷ 69 ∷ 32 ∷ 78 ∷ 53 ∷ 52 ∷ 10 ∷ 69 ∷ 32 ∷ 78 ∷ 53 ∷ 53 ∷ 10 ∷ 69 ∷ 32 ∷ 78 ∷ 53 ∷ 54 ∷ 10 ∷ 69 ∷ 32 ∷ 78 ∷ 53 ∷ 55 ∷ 10 ∷ 69 ∷ 32 ∷ 78 ∷ 53 ∷ 56 ∷ 10 ∷ 69 ∷ 32 ∷ 78 ∷ 53 ∷ 57 ∷ 10 ∷ 69 ∷ 32 ∷ 78 ∷ 54 ∷ 48 ∷ 10 ∷ 69 ∷ 32 ∷ 78 ∷ 54 ∷ 49 ∷ 10 ∷ 69 ∷ 32 ∷ 78 ∷ 54 ∷ 50 ∷ 10 ∷ 69 ∷ 32 ∷ 78 ∷ 54 ∷ 51 ∷ 10 ∷ 69 ∷ 32 ∷ 78 ∷ 54 ∷ 52 ∷ 10 ∷ 69 ∷ 32 ∷ 78 ∷ 54 ∷ 53 ∷ 10 ∷ 69 ∷ 32 ∷ 78 ∷ 54 ∷ 54 ∷ 10 ∷ 69 ∷ 32 ∷ 78 ∷ 54 ∷ 55 ∷ 10 ∷ 69 ∷ 32 ∷ 78 ∷ 54 ∷ 56 ∷ 10 ∷ 87 ∷ 32 ∷ 78 ∷ 48 ∷ 10 ∷ 87 ∷ 32 ∷ 78 ∷ 49 ∷ 10 ∷ 87 ∷ 32 ∷ 78 ∷ 51 ∷ 10 ∷ 87 ∷ 32 ∷ 78 ∷ 52 ∷ 10 ∷ 87 ∷ 32 ∷ 78 ∷ 53 ∷ 10 ∷ 87 ∷ 32 ∷ 78 ∷ 54 ∷ 10 ∷ 87 ∷ 32 ∷ 78 ∷ 55 ∷ 10 ∷ 87 ∷ 32 ∷ 78 ∷ 56 ∷ 10 ∷ 87 ∷ 32 ∷ 78 ∷ 57 ∷ 10 ∷ 87 ∷ 32 ∷ 78 ∷ 49 ∷ 48 ∷ 10 ∷ 87 ∷ 32 ∷ 78 ∷ 49 ∷ 50 ∷ 10 ∷ 87 ∷ 32 ∷ 78 ∷ 49 ∷ 51 ∷ 10 ∷ 87 ∷ 32 ∷ 78 ∷ 49 ∷ 52 ∷ 10 ∷ 87 ∷ 32 ∷ 78 ∷ 49 ∷ 53 ∷ 10 ∷ 87 ∷ 32 ∷ 78 ∷ 49 ∷ 54 ∷ 10 ∷ 87 ∷ 32 ∷ 78 ∷ 49 ∷ 55 ∷ 10 ∷ 87 ∷ 32 ∷ 78 ∷ 49 ∷ 56 ∷ 10 ∷ 87 ∷ 32 ∷ 78 ∷ 49 ∷ 57 ∷ 10 ∷ 87 ∷ 32 ∷ 78 ∷ 50 ∷ 49 ∷ 10 ∷ 87 ∷ 32 ∷ 78 ∷ 50 ∷ 50 ∷ 10 ∷ 87 ∷ 32 ∷ 78 ∷ 50 ∷ 51 ∷ 10 ∷ 87 ∷ 32 ∷ 78 ∷ 50 ∷ 52 ∷ 10 ∷ 87 ∷ 32 ∷ 78 ∷ 50 ∷ 53 ∷ 10 ∷ 87 ∷ 32 ∷ 78 ∷ 50 ∷ 54 ∷ 10 ∷ 87 ∷ 32 ∷ 78 ∷ 50 ∷ 55 ∷ 10 ∷ 87 ∷ 32 ∷ 78 ∷ 50 ∷ 56 ∷ 10 ∷ 87 ∷ 32 ∷ 78 ∷ 50 ∷ 57 ∷ 10 ∷ 87 ∷ 32 ∷ 78 ∷ 51 ∷ 48 ∷ 10 ∷ 87 ∷ 32 ∷ 78 ∷ 51 ∷ 49 ∷ 10 ∷ 87 ∷ 32 ∷ 78 ∷ 51 ∷ 50 ∷ 10 ∷ 87 ∷ 32 ∷ 78 ∷ 51 ∷ 51 ∷ 10 ∷ 87 ∷ 32 ∷ 78 ∷ 51 ∷ 52 ∷ 10 ∷ 87 ∷ 32 ∷ 78 ∷ 51 ∷ 53 ∷ 10 ∷ 87 ∷ 32 ∷ 78 ∷ 51 ∷ 54 ∷ 10 ∷ 87 ∷ 32 ∷ 78 ∷ 51 ∷ 55 ∷ 10 ∷ 87 ∷ 32 ∷ 78 ∷ 51 ∷ 56 ∷ 10 ∷ 87 ∷ 32 ∷ 78 ∷ 51 ∷ 57 ∷ 10 ∷ 87 ∷ 32 ∷ 78 ∷ 52 ∷ 48 ∷ 10 ∷ 87 ∷ 32 ∷ 78 ∷ 52 ∷ 49 ∷ 10 ∷ 87 ∷ 32 ∷ 78 ∷ 52 ∷ 50 ∷ 10 ∷ 87 ∷ 32 ∷ 78 ∷ 52 ∷ 51 ∷ 10 ∷ 87 ∷ 32 ∷ 78 ∷ 52 ∷ 52 ∷ 10 ∷ 87 ∷ 32 ∷ 78 ∷ 52 ∷ 53 ∷ 10 ∷ 87 ∷ 32 ∷ 78 ∷ 52 ∷ 54 ∷ 10 ∷ 87 ∷ 32 ∷ 78 ∷ 52 ∷ 55 ∷ 10 ∷ 87 ∷ 32 ∷ 78 ∷ 52 ∷ 56 ∷ 10 ∷ 87 ∷ 32 ∷ 78 ∷ 52 ∷ 57 ∷ 10 ∷ 87 ∷ 32 ∷ 78 ∷ 53 ∷ 48 ∷ 10 ∷ 87 ∷ 32 ∷ 78 ∷ 53 ∷ 49 ∷ 10 ∷ 87 ∷ 32 ∷ 78 ∷ 53 ∷ 50 ∷ 10 ∷ 87 ∷ 32 ∷ 78 ∷ 53 ∷ 51 ∷ 10 ∷ 87 ∷ 32 ∷ 78 ∷ 53 ∷ 52 ∷ 10 ∷ 87 ∷ 32 ∷ 78 ∷ 53 ∷ 53 ∷ 10 ∷ 87 ∷ 32 ∷ 78 ∷ 53 ∷ 54 ∷ 10 ∷ 87 ∷ 32 ∷ 78 ∷ 53 ∷ 55 ∷ 10 ∷ 87 ∷ 32 ∷ 78 ∷ 53 ∷ 56 ∷ 10 ∷ 87 ∷ 32 ∷ 78 ∷ 53 ∷ 57 ∷ 10 ∷ 87 ∷ 32 ∷ 78 ∷ 54 ∷ 48 ∷ 10 ∷ 87 ∷ 32 ∷ 78 ∷ 54 ∷ 49 ∷ 10 ∷ 87 ∷ 32 ∷ 78 ∷ 54 ∷ 50 ∷ 10 ∷ 87 ∷ 32 ∷ 78 ∷ 54 ∷ 51 ∷ 10 ∷ 87 ∷ 32 ∷ 78 ∷ 54 ∷ 52 ∷ 10 ∷ 87 ∷ 32 ∷ 78 ∷ 54 ∷ 53 ∷ 10 ∷ 87 ∷ 32 ∷ 78 ∷ 54 ∷ 54 ∷ 10 ∷ 87 ∷ 32 ∷ 78 ∷ 54 ∷ 55 ∷ 10 ∷ 87 ∷ 32 ∷ 78 ∷ 54 ∷ 56 ∷ 10 ∷ [])

vector_061 : answers 256 512 in_061 ≡ (48 ∷ 32 ∷ 48 ∷ 32 ∷ 48 ∷ 32 ∷ 48 ∷ 10 ∷ 48 ∷ 32 ∷ 48 ∷ 32 ∷ 48 ∷ 32 ∷ 48 ∷ 10 ∷ 48 ∷ 32 ∷ 48 ∷ 32 ∷ 48 ∷ 32 ∷ 48 ∷ 10 ∷ 48 ∷ 32 ∷ 48 ∷ 32 ∷ 48 ∷ 32 ∷ 48 ∷ 10 ∷ 48 ∷ 32 ∷ 48 ∷ 32 ∷ 48 ∷ 32 ∷ 48 ∷ 10 ∷ 48 ∷ 32 ∷ 48 ∷ 32 ∷ 48 ∷ 32 ∷ 48 ∷ 10 ∷ 48 ∷ 32 ∷ 48 ∷ 32 ∷ 48 ∷ 32 ∷ 48 ∷ 10 ∷ 48 ∷ 32 ∷ 48 ∷ 32 ∷ 48 ∷ 32 ∷ 48 ∷ 10 ∷ 48 ∷ 32 ∷ 48 ∷ 32 ∷ 48 ∷ 32 ∷ 48 ∷ 10 ∷ 48 ∷ 32 ∷ 49 ∷ 32 ∷ 48 ∷ 32 ∷ 48 ∷ 10 ∷ 48 ∷ 32 ∷ 49 ∷ 32 ∷ 48 ∷ 32 ∷ 48 ∷ 10 ∷ 48 ∷ 32 ∷ 49 ∷ 32 ∷ 48 ∷ 32 ∷ 48 ∷ 10 ∷ 48 ∷ 32 ∷ 49 ∷ 32 ∷ 48 ∷ 32 ∷ 48 ∷ 10 ∷ 48 ∷ 32 ∷ 49 ∷ 32 ∷ 48 ∷ 32 ∷ 48 ∷ 10 ∷ 48 ∷ 32 ∷ 49 ∷ 32 ∷ 48 ∷ 32 ∷ 48 ∷ 10 ∷ 48 ∷ 32 ∷ 49 ∷ 32 ∷ 48 ∷ 32 ∷ 48 ∷ 10 ∷ 48 ∷ 32 ∷ 49 ∷ 32 ∷ 48 ∷ 32 ∷ 48 ∷ 10 ∷ 48 ∷ 32 ∷ 48 ∷ 32 ∷ 48 ∷ 32 ∷ 48 ∷ 10 ∷ 48 ∷ 32 ∷ 50 ∷ 32 ∷ 48 ∷ 32 ∷ 48 ∷ 10 ∷ 48 ∷ 32 ∷ 50 ∷ 32 ∷ 48 ∷ 32 ∷ 48 ∷ 10 ∷ 48 ∷ 32 ∷ 50 ∷ 32 ∷ 48 ∷ 32 ∷ 48 ∷ 10 ∷ 48 ∷ 32 ∷ 50 ∷ 32 ∷ 48 ∷ 32 ∷ 48 ∷ 10 ∷ 48 ∷ 32 ∷ 50 ∷ 32 ∷ 48 ∷ 32 ∷ 48 ∷ 10 ∷ 48 ∷ 32 ∷ 50 ∷ 32 ∷ 48 ∷ 32 ∷ 48 ∷ 10 ∷ 48 ∷ 32 ∷ 50 ∷ 32 ∷ 48 ∷ 32 ∷ 48 ∷ 10 ∷ 48 ∷ 32 ∷ 49 ∷ 32 ∷ 48 ∷ 32 ∷ 48 ∷ 10 ∷ 48 ∷ 32 ∷ 48 ∷ 32 ∷ 48 ∷ 32 ∷ 48 ∷ 10 ∷ 48 ∷ 32 ∷ 51 ∷ 32 ∷ 48 ∷ 32 ∷ 48 ∷ 10 ∷ 48 ∷ 32 ∷ 51 ∷ 32 ∷ 48 ∷ 32 ∷ 48 ∷ 10 ∷ 48 ∷ 32 ∷ 51 ∷ 32 ∷ 48 ∷ 32 ∷ 48 ∷ 10 ∷ 48 ∷ 32 ∷ 51 ∷ 32 ∷ 48 ∷ 32 ∷ 48 ∷ 10 ∷ 48 ∷ 32 ∷ 51 ∷ 32 ∷ 48 ∷ 32 ∷ 48 ∷ 10 ∷ 48 ∷ 32 ∷ 51 ∷ 32 ∷ 48 ∷ 32 ∷ 48 ∷ 10 ∷ 48 ∷ 32 ∷ 51 ∷ 32 ∷ 48 ∷ 32 ∷ 48 ∷ 10 ∷ 48 ∷ 32 ∷ 50 ∷ 32 ∷ 48 ∷ 32 ∷ 48 ∷ 10 ∷ 48 ∷ 32 ∷ 49 ∷ 32 ∷ 48 ∷ 32 ∷ 48 ∷ 10 ∷ 48 ∷ 32 ∷ 48 ∷ 32 ∷ 48 ∷ 32 ∷ 48 ∷ 10 ∷ 48 ∷ 32 ∷ 52 ∷ 32 ∷ 48 ∷ 32 ∷ 48 ∷ 10 ∷ 48 ∷ 32 ∷ 52 ∷ 32 ∷ 48 ∷ 32 ∷ 48 ∷ 10 ∷ 48 ∷ 32 ∷ 52 ∷ 32 ∷ 48 ∷ 32 ∷ 48 ∷ 10 ∷ 48 ∷ 32 ∷ 52 ∷ 32 ∷ 48 ∷ 32 ∷ 48 ∷ 10 ∷ 48 ∷ 32 ∷ 52 ∷ 32 ∷ 48 ∷ 32 ∷ 48 ∷ 10 ∷ 48 ∷ 32 ∷ 52 ∷ 32 ∷ 48 ∷ 32 ∷ 48 ∷ 10 ∷ 48 ∷ 32 ∷ 51 ∷ 32 ∷ 48 ∷ 32 ∷ 48 ∷ 10 ∷ 48 ∷ 32 ∷ 50 ∷ 32 ∷ 48 ∷ 32 ∷ 48 ∷ 10 ∷ 48 ∷ 32 ∷ 49 ∷ 32 ∷ 48 ∷ 32 ∷ 48 ∷ 10 ∷ 48 ∷ 32 ∷ 48 ∷ 32 ∷ 48 ∷ 32 ∷ 48 ∷ 10 ∷ 48 ∷ 32 ∷ 53 ∷ 32 ∷ 48 ∷ 32 ∷ 48 ∷ 10 ∷ 48 ∷ 32 ∷ 53 ∷ 32 ∷ 48 ∷ 32 ∷ 48 ∷ 10 ∷ 48 ∷ 32 ∷ 53 ∷ 32 ∷ 48 ∷ 32 ∷ 48 ∷ 10 ∷ 48 ∷ 32 ∷ 53 ∷ 32 ∷ 48 ∷ 32 ∷ 48 ∷ 10 ∷ 48 ∷ 32 ∷ 53 ∷ 32 ∷ 48 ∷ 32 ∷ 48 ∷ 10 ∷ 48 ∷ 32 ∷ 52 ∷ 32 ∷ 48 ∷ 32 ∷ 48 ∷ 10 ∷ 48 ∷ 32 ∷ 51 ∷ 32 ∷ 48 ∷ 32 ∷ 48 ∷ 10 ∷ 48 ∷ 32 ∷ 50 ∷ 32 ∷ 48 ∷ 32 ∷ 48 ∷ 10 ∷ 48 ∷ 32 ∷ 49 ∷ 32 ∷ 48 ∷ 32 ∷ 48 ∷ 10 ∷ 48 ∷ 32 ∷ 48 ∷ 32 ∷ 48 ∷ 32 ∷ 48 ∷ 10 ∷ 48 ∷ 32 ∷ 54 ∷ 32 ∷ 48 ∷ 32 ∷ 48 ∷ 10 ∷ 48 ∷ 32 ∷ 54 ∷ 32 ∷ 48 ∷ 32 ∷ 48 ∷ 10 ∷ 48 ∷ 32 ∷ 54 ∷ 32 ∷ 48 ∷ 32 ∷ 48 ∷ 10 ∷ 48 ∷ 32 ∷ 54 ∷ 32 ∷ 48 ∷ 32 ∷ 48 ∷ 10 ∷ 48 ∷ 32 ∷ 53 ∷ 32 ∷ 48 ∷ 32 ∷ 48 ∷ 10 ∷ 48 ∷ 32 ∷ 52 ∷ 32 ∷ 48 ∷ 32 ∷ 48 ∷ 10 ∷ 48 ∷ 32 ∷ 51 ∷ 32 ∷ 48 ∷ 32 ∷ 48 ∷ 10 ∷ 48 ∷ 32 ∷ 50 ∷ 32 ∷ 48 ∷ 32 ∷ 48 ∷ 10 ∷ 48 ∷ 32 ∷ 49 ∷ 32 ∷ 48 ∷ 32 ∷ 48 ∷ 10 ∷ 48 ∷ 32 ∷ 49 ∷ 32 ∷ 48 ∷ 32 ∷ 48 ∷ 10 ∷ 48 ∷ 32 ∷ 49 ∷ 32 ∷ 48 ∷ 32 ∷ 48 ∷ 10 ∷ 48 ∷ 32 ∷ 49 ∷ 32 ∷ 48 ∷ 32 ∷ 48 ∷ 10 ∷ 48 ∷ 32 ∷ 49 ∷ 32 ∷ 48 ∷ 32 ∷ 48 ∷ 10 ∷ 48 ∷ 32 ∷ 49 ∷ 32 ∷ 48 ∷ 32 ∷ 48 ∷ 10 ∷ 48 ∷ 32 ∷ 49 ∷ 32 ∷ 48 ∷ 32 ∷ 48 ∷ 10 ∷ 48 ∷ 32 ∷ 49 ∷ 32 ∷ 48 ∷ 32 ∷ 48 ∷ 10 ∷ 48 ∷ 32 ∷ 49 ∷ 32 ∷ 48 ∷ 32 ∷ 48 ∷ 10 ∷ 48 ∷ 32 ∷ 49 ∷ 32 ∷ 48 ∷ 32 ∷ 48 ∷ 10 ∷ 48 ∷ 32 ∷ 49 ∷ 32 ∷ 48 ∷ 32 ∷ 48 ∷ 10 ∷ 48 ∷ 32 ∷ 49 ∷ 32 ∷ 48 ∷ 32 ∷ 48 ∷ 10 ∷ 48 ∷ 32 ∷ 49 ∷ 32 ∷ 48 ∷ 32 ∷ 48 ∷ 10 ∷ 48 ∷ 32 ∷ 49 ∷ 32 ∷ 48 ∷ 32 ∷ 48 ∷ 10 ∷ 48 ∷ 32 ∷ 49 ∷ 32 ∷ 48 ∷ 32 ∷ 48 ∷ 10 ∷ 48 ∷ 32 ∷ 49 ∷ 32 ∷ 48 ∷ 32 ∷ 48 ∷ 10 ∷ 48 ∷ 32 ∷ 49 ∷ 32 ∷ 48 ∷ 32 ∷ 48 ∷ 10 ∷ 48 ∷ 32 ∷ 49 ∷ 32 ∷ 48 ∷ 32 ∷ 48 ∷ 10 ∷ 48 ∷ 32 ∷ 49 ∷ 32 ∷ 48 ∷ 32 ∷ 48 ∷ 10 ∷ 48 ∷ 32 ∷ 49 ∷ 32 ∷ 48 ∷ 32 ∷ 48 ∷ 10 ∷ 48 ∷ 32 ∷ 49 ∷ 32 ∷ 48 ∷ 32 ∷ 48 ∷ 10 ∷ 48 ∷ 32 ∷ 49 ∷ 32 ∷ 48 ∷ 32 ∷ 48 ∷ 10 ∷ 48 ∷ 32 ∷ 49 ∷ 32 ∷ 48 ∷ 32 ∷ 48 ∷ 10 ∷ 48 ∷ 32 ∷ 49 ∷ 32 ∷ 48 ∷ 32 ∷ 48 ∷ 10 ∷ 48 ∷ 32 ∷ 49 ∷ 32 ∷ 48 ∷ 32 ∷ 48 ∷ 10 ∷ 48 ∷ 32 ∷ 49 ∷ 32 ∷ 48 ∷ 32 ∷ 48 ∷ 10 ∷ 48 ∷ 32 ∷ 49 ∷ 32 ∷ 48 ∷ 32 ∷ 48 ∷ 10 ∷ 48 ∷ 32 ∷ 49 ∷ 32 ∷ 48 ∷ 32 ∷ 48 ∷ 10 ∷ 48 ∷ 32 ∷ 49 ∷ 32 ∷ 48 ∷ 32 ∷ 48 ∷ 10 ∷ 48 ∷ 32 ∷ 49 ∷ 32 ∷ 48 ∷ 32 ∷ 48 ∷ 10 ∷ 48 ∷ 32 ∷ 49 ∷ 32 ∷ 48 ∷ 32 ∷ 48 ∷ 10 ∷ 48 ∷ 32 ∷ 49 ∷ 32 ∷ 48 ∷ 32 ∷ 48 ∷ 10 ∷ 48 ∷ 32 ∷ 49 ∷ 32 ∷ 48 ∷ 32 ∷ 48 ∷ 10 ∷ 48 ∷ 32 ∷ 49 ∷ 32 ∷ 48 ∷ 32 ∷ 48 ∷ 10 ∷ 48 ∷ 32 ∷ 49 ∷ 32 ∷ 48 ∷ 32 ∷ 48 ∷ 10 ∷ 48 ∷ 32 ∷ 49 ∷ 32 ∷ 48 ∷ 32 ∷ 48 ∷ 10 ∷ 48 ∷ 32 ∷ 49 ∷ 32 ∷ 48 ∷ 32 ∷ 48 ∷ 10 ∷ 48 ∷ 32 ∷ 49 ∷ 32 ∷ 48 ∷ 32 ∷ 48 ∷ 10 ∷ 48 ∷ 32 ∷ 49 ∷ 32 ∷ 48 ∷ 32 ∷ 48 ∷ 10 ∷ 48 ∷ 32 ∷ 49 ∷ 32 ∷ 48 ∷ 32 ∷ 48 ∷ 10 ∷ 48 ∷ 32 ∷ 49 ∷ 32 ∷ 48 ∷ 32 ∷ 48 ∷ 10 ∷ 48 ∷ 32 ∷ 49 ∷ 32 ∷ 48 ∷ 32 ∷ 48 ∷ 10 ∷ 48 ∷ 32 ∷ 49 ∷ 32 ∷ 48 ∷ 32 ∷ 48 ∷ 10 ∷ 48 ∷ 32 ∷ 49 ∷ 32 ∷ 48 ∷ 32 ∷ 48 ∷ 10 ∷ 48 ∷ 32 ∷ 49 ∷ 32 ∷ 48 ∷ 32 ∷ 48 ∷ 10 ∷ 48 ∷ 32 ∷ 49 ∷ 32 ∷ 48 ∷ 32 ∷ 48 ∷ 10 ∷ 48 ∷ 32 ∷ 49 ∷ 32 ∷ 48 ∷ 32 ∷ 48 ∷ 10 ∷ 48 ∷ 32 ∷ 49 ∷ 32 ∷ 48 ∷ 32 ∷ 48 ∷ 10 ∷ 48 ∷ 32 ∷ 49 ∷ 32 ∷ 48 ∷ 32 ∷ 48 ∷ 10 ∷ 48 ∷ 32 ∷ 49 ∷ 32 ∷ 48 ∷ 32 ∷ 48 ∷ 10 ∷ 48 ∷ 32 ∷ 49 ∷ 32 ∷ 48 ∷ 32 ∷ 48 ∷ 10 ∷ 48 ∷ 32 ∷ 49 ∷ 32 ∷ 48 ∷ 32 ∷ 48 ∷ 10 ∷ 48 ∷ 32 ∷ 49 ∷ 32 ∷ 48 ∷ 32 ∷ 48 ∷ 10 ∷ 48 ∷ 32 ∷ 49 ∷ 32 ∷ 48 ∷ 32 ∷ 48 ∷ 10 ∷ 48 ∷ 32 ∷ 49 ∷ 32 ∷ 48 ∷ 32 ∷ 48 ∷ 10 ∷ 48 ∷ 32 ∷ 49 ∷ 32 ∷ 48 ∷ 32 ∷ 48 ∷ 10 ∷ 48 ∷ 32 ∷ 49 ∷ 32 ∷ 48 ∷ 32 ∷ 48 ∷ 10 ∷ 48 ∷ 32 ∷ 49 ∷ 32 ∷ 48 ∷ 32 ∷ 48 ∷ 10 ∷ 48 ∷ 32 ∷ 49 ∷ 32 ∷ 48 ∷ 32 ∷ 48 ∷ 10 ∷ 48 ∷ 32 ∷ 49 ∷ 32 ∷ 48 ∷ 32 ∷ 48 ∷ 10 ∷ 48 ∷ 32 ∷ 49 ∷ 32 ∷ 48 ∷ 32 ∷ 48 ∷ 10 ∷ 48 ∷ 32 ∷ 49 ∷ 32 ∷ 48 ∷ 32 ∷ 48 ∷ 10 ∷ 48 ∷ 32 ∷ 49 ∷ 32 ∷ 48 ∷ 32 ∷ 48 ∷ 10 ∷ 48 ∷ 32 ∷ 49 ∷ 32 ∷ 48 ∷ 32 ∷ 48 ∷ 10 ∷ 48 ∷ 32 ∷ 49 ∷ 32 ∷ 48 ∷ 32 ∷ 48 ∷ 10 ∷ 48 ∷ 32 ∷ 49 ∷ 32 ∷ 48 ∷ 32 ∷ 48 ∷ 10 ∷ 48 ∷ 32 ∷ 49 ∷ 32 ∷ 48 ∷ 32 ∷ 48 ∷ 10 ∷ [])
unfolding answers in_061
vector_061 = refl
