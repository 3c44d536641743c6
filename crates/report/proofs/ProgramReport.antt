-- What the model's theorems say of a report, said of what the program gave and wrote: all that it gives and leaves is what the model's report has
-- (`gave_is`), and the bytes that it wrote, read as lines of numbers, say what the rules ask for (`program_read`). And over stores that were opened fresh and changed by calls and jobs only: by demand 3 each is sound, so no report over them is refused by 3
-- (`never_unsound`), and the entries that it wrote are the faults accepted less the faults gone, added up over the stores (`totals_written`, `totals_read`).
use mathlib.Core.Path.{◌≡◌, refl, sym, ap, ◌∙◌}
use mathlib.Core.Bool.{true}
use mathlib.Core.List.{List, [], ◌∷◌, ◌++◌, map}
use Prim.Native.Nat.{ℕ}
use native.Mathlib.Omega.{arith}
use borrow.Author.Tests.{eq-eqb}
use lib.ListN.{length, take, length-append}
use lib.Seq.{take-append_seam, drop-append_seam}
use Rattle.rules.proofs.Tests.{all_of, not_both}
use Rattle.model.specs.Lists.{all, join, total}
use Rattle.model.specs.Layout.{sound, decode}
use Rattle.model.specs.Model.{held, faults_held}
use Rattle.model.specs.Calls.{cleaned}
use Rattle.model.specs.Report.{Reported, pieces, run_sound, need_of, all_histories, codes_in, code_line, total_lines, report_text, report_call}
use Rattle.model.specs.ReportSays.{numbers_of, code_says, totals_say, report_says}
use Rattle.model.proofs.Lists.{Every}
use Rattle.model.proofs.Walks.{every_all}
use Rattle.model.proofs.Demands.{Demand3}
use Rattle.model.proofs.Sums.{total_map}
use Rattle.model.proofs.Reports.{report_cards, report_entries, stores_faults}
use Rattle.model.proofs.ReportRead.{report_read}
use Rattle.model.proofs.ReportCalls.{pieces_count, run_sound_means, ReportNumbers, report_numbers, refused_report_lem, report_scratch, Written, report_written}
use Rattle.store.specs.declared.answer.Wrote.{Wrote}
use Rattle.job.specs.Sequences.{seen_of}
use Rattle.job.proofs.ProgramDemands.{program_demand3}
use Rattle.report.specs.Reports.{Reports}
use Rattle.report.specs.Stories.{Story, Lived, words_now, faults_kept}
use Rattle.report.proofs.SoundRuns.{run_cards, run_faults}

-- a call of the program that met its contract
module _ (run ns scratch out : List ℕ) (r : Wrote) (out' scratch' : List ℕ) (p : Reports (report_call run ns scratch out) r out' scratch') where
  -- all that it gave and left
  abbrev pub gave : Reported
  gave = record { number = r.number; count = r.count; out = out'; scratch = scratch' }

  gave_is : gave ≡ report_call run ns scratch out
  gave_is = λ i. record { number = p.answer.number_is i; count = p.answer.count_is i; out = p.out_is i; scratch = p.scratch_is i }

  -- each number exactly when
  pub program_numbers : ReportNumbers run ns scratch out r.number
  program_numbers = rw p.answer.number_is (report_numbers run ns scratch out)

  -- the text at the front of the output, and what stands behind it as it was
  pub program_written : r.number ≡ 0 → Written (report_text (all_histories (pieces run ns))) out gave
  program_written z = rw gave_is (report_written run ns scratch out (sym p.answer.number_is ∙ z))

  -- the bytes written, read as lines of numbers: the codes that occur, each with its entries, its cards and its days, and then the totals
  pub program_read : r.number ≡ 0 → numbers_of (take r.count out') ≡ report_says (all_histories (pieces run ns))
  program_read z =
      let ws = pieces run ns in
      let d = (program_numbers.done.0 z).0 in
      let each = ((run_sound_means run ns).0 d.1).each in
      let ok = every_all sound ws each in
      let few = pieces_count run ns in
      ap numbers_of (program_written z).text_is
      ∙ report_read (all_histories ws) (stores_faults ws each) (omega (arith, d.0.2, few, run_cards ws ok)) (omega (arith, d.0.2, few, run_faults ws ok))

  -- refused, nothing is written
  pub program_refused : (r.number ≡ 0 → ⊥) → (out' ≡ out) × (r.count ≡ 0)
  program_refused n = let q = refused_report_lem run ns scratch out (λ e. n (p.answer.number_is ∙ e)) in (p.out_is ∙ q.0, p.answer.count_is ∙ q.1)

  -- the scratch stays under 11, and else its first bytes are zero
  pub program_scratch : (r.number ≡ 11 → scratch' ≡ scratch) × ((r.number ≡ 11 → ⊥) → scratch' ≡ cleaned (need_of run ns) scratch)
  program_scratch =
      let q = report_scratch run ns scratch out in
      (λ e. p.scratch_is ∙ q.0 (sym p.answer.number_is ∙ e), λ n. p.scratch_is ∙ q.1 (λ e. n (p.answer.number_is ∙ e)))

-- stores one behind another, cut by their own lengths

pieces_back : (ws : List (List ℕ)) → pieces (join ws) (map length ws) ≡ ws
unfolding pieces
pieces_back [] = refl
pieces_back (w ∷ ws) =
    (λ i. take-append_seam w (join ws) i ∷ pieces (drop-append_seam w (join ws) i) (map length ws)) ∙ ap (λ (l : List (List ℕ)). w ∷ l) (pieces_back ws)

lengths_sum : (ws : List (List ℕ)) → total (λ n. n) (map length ws) ≡ length (join ws)
lengths_sum [] = refl
lengths_sum (w ∷ ws) = omega (arith, lengths_sum ws, length-append w (join ws))

-- the stores of some stories, as a run and its lengths
abbrev pub stores_of : List Story → List (List ℕ)
stores_of ss = map words_now ss

abbrev pub run_of : List Story → List ℕ
run_of ss = join (stores_of ss)

abbrev pub lengths_of : List Story → List ℕ
lengths_of ss = map length (stores_of ss)

-- demand 3 of one store
kept : (s : Story) → Lived s → Demand3 (words_now s) (seen_of s.made)
kept s l = program_demand3 s.before s.fresh s.asked l.opens s.made l.meets

all_sound : (ss : List Story) → Every Lived ss → all sound (stores_of ss) ≡ true
all_sound [] l = refl
all_sound (s ∷ ss) l = all_of (kept s l.0).stays_sound (all_sound ss l.1)

-- they are sound, each as it stands in the run
pub stories_sound : (ss : List Story) → Every Lived ss → run_sound (run_of ss) (lengths_of ss) ≡ true
unfolding run_sound
stories_sound ss l = all_of (eq-eqb _ _ (lengths_sum (stores_of ss))) (rw (pieces_back (stores_of ss)) (all_sound ss l))

faults_kept_lem : (ss : List Story) → Every Lived ss → total (λ w. faults_held (decode w)) (stores_of ss) ≡ total faults_kept ss
faults_kept_lem [] l = refl
faults_kept_lem (s ∷ ss) l = omega (arith, faults_kept_lem ss l.1, (kept s l.0).conserved)

-- the entries of their report are the faults accepted less the faults gone, summed over them
pub stories_entries : (ss : List Story) → Every Lived ss → total length (all_histories (stores_of ss)) ≡ total faults_kept ss
stories_entries ss l = report_entries (stores_of ss) ∙ faults_kept_lem ss l

-- their report, as the program gave and wrote it
module _ (ss : List Story) (l : Every Lived ss) (scratch out : List ℕ) (r : Wrote) (out' scratch' : List ℕ)
    (p : Reports (report_call (run_of ss) (lengths_of ss) scratch out) r out' scratch') where
  -- it is never refused by 3
  pub never_unsound : r.number ≡ 3 → ⊥
  never_unsound e = not_both (stories_sound ss l) ((program_numbers (run_of ss) (lengths_of ss) scratch out r out' scratch' p).unsound.0 e).1

  cards_are : length (all_histories (stores_of ss)) ≡ total (λ s. held (decode (words_now s))) ss
  cards_are = report_cards (stores_of ss) ∙ total_map (λ w. held (decode w)) words_now ss

  -- done, it wrote the lines of the codes and then the totals: the cards held in all stores, and the faults accepted less the faults gone of all stores
  pub totals_written : r.number ≡ 0
      → take r.count out'
      ≡ join (map (code_line (all_histories (stores_of ss))) (codes_in (all_histories (stores_of ss)))) ++ total_lines (total (λ s. held (decode (words_now s))) ss) (total faults_kept ss)
  unfolding report_text
  totals_written z =
      (program_written (run_of ss) (lengths_of ss) scratch out r out' scratch' p z).text_is
      ∙ ap (λ (ws : List (List ℕ)). report_text (all_histories ws)) (pieces_back (stores_of ss))
      ∙ (λ i. join (map (code_line (all_histories (stores_of ss))) (codes_in (all_histories (stores_of ss)))) ++ total_lines (cards_are i) (stories_entries ss l i))

  -- and these are the numbers that are read off the bytes
  pub totals_read : r.number ≡ 0
      → let hs = all_histories (stores_of ss) in
      numbers_of (take r.count out') ≡ map (code_says hs) (codes_in hs) ++ totals_say (total (λ s. held (decode (words_now s))) ss) (total faults_kept ss)
  totals_read z =
      let hs = all_histories (stores_of ss) in
      program_read (run_of ss) (lengths_of ss) scratch out r out' scratch' p z
      ∙ ap (λ (ws : List (List ℕ)). report_says (all_histories ws)) (pieces_back (stores_of ss))
      ∙ (λ i. map (code_says hs) (codes_in hs) ++ totals_say (cards_are i) (stories_entries ss l i))
