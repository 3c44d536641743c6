-- The report by its numbers, over every run, every list of lengths, every scratch and every output. Its tests come one after the other (`report_cases`), so each number is
-- given exactly when its condition holds and those before it fail (`report_numbers`). The run is cut without loss (`pieces_join`) and its pieces are sound stores where the run
-- is (`run_sound_means`); no words at all are not sound, so no length is 0 (`no_empty_store`). A refused report writes nothing (`refused_report_lem`), one that is done
-- writes its text and no byte behind it (`report_written`), and the scratch ends clean in all cases but 11 (`report_scratch`).
use Prim.Native.Nat.{ℕ, zero, suc, ◌≤◌, ◌<◌}
use mathlib.Core.Path.{◌≡◌, refl, ap}
use mathlib.Core.Logic.{◌⊎◌, inl, inr, ◌↔◌}
use mathlib.Core.List.{List, [], ◌∷◌, ◌++◌, map, Memᴰ}
use mathlib.Core.Bool.{true, false}
use native.Mathlib.Omega.{arith}
use lib.Dec.{ltb, eqb}
use lib.ListN.{length, take, drop, length-append, length-drop, take-append-drop}
use lib.Seq.{length-take-le, take-append_seam, drop-append_seam}
use borrow.Author.Tests.{ltb-true, ltb-false, eqb-true, eq-eqb}
use Rattle.rules.proofs.Tests.{by_cases, not_both, both, all_of}
use Rattle.model.specs.Lists.{between, all, join, total}
use Rattle.model.specs.Shape.{Shape, most_cards, most_faults, need}
use Rattle.model.specs.Layout.{cards_at, faults_at, length_for, shape_of, sound}
use Rattle.model.specs.Calls.{cleaned}
use Rattle.model.specs.Meaning.{In}
use Rattle.model.specs.Report.{most_stores, pieces, run_sound, most_need, need_of, all_histories, entries_of, codes_in, report_text, Reported, refused_report, report_call}
use Rattle.model.proofs.Lists.{between_is, Every}
use Rattle.model.proofs.Walks.{every_in, every_all, all_every}
use Rattle.model.proofs.Meaning.{sound_means}
use Rattle.model.proofs.Numbers.{hit, miss}
use Rattle.model.proofs.Reports.{stores_faults, lines_add_up}

-- the run

pub pieces_count : (run ns : List ℕ) → length (pieces run ns) ≡ length ns
unfolding pieces
pieces_count run [] = refl
pieces_count run (n ∷ ns) = ap suc (pieces_count (drop n run) ns)

-- where the lengths add up to the run, the pieces one behind another are the run, and each is as long as its length
pub pieces_join : (run ns : List ℕ) → total (λ n. n) ns ≡ length run → (join (pieces run ns) ≡ run) × (map length (pieces run ns) ≡ ns)
unfolding pieces
pieces_join [] [] e = (refl, refl)
pieces_join (x ∷ run) [] e = absurd (omega arith)
pieces_join run (n ∷ ns) e =
    let r = pieces_join (drop n run) ns (omega (arith, length-drop n run)) in
    (rw r.0 (take-append-drop n run), rw (length-take-le n run (omega arith), r.1))

-- a run of sound stores
pub record RunSound (run ns : List ℕ) : Type 0 where
  pub sum : total (λ n. n) ns ≡ length run
  pub each : Every (λ w. sound w ≡ true) (pieces run ns)

pub run_sound_means : (run ns : List ℕ) → (run_sound run ns ≡ true) ↔ RunSound run ns
unfolding run_sound
run_sound_means run ns = (
  λ e. let h = both (eqb (total (λ n. n) ns) (length run)) (all sound (pieces run ns)) e in
      record { sum = eqb-true (total (λ n. n) ns) (length run) h.0; each = all_every sound (pieces run ns) h.1 },
  λ m. all_of (eq-eqb (total (λ n. n) ns) (length run) m.sum) (every_all sound (pieces run ns) m.each),
)

-- no words at all are no store
none_unsound : sound [] ≡ true → ⊥
unfolding length_for faults_at cards_at
none_unsound e = omega (arith, ((sound_means []).0 e).whole_length)

some_words : (run ns : List ℕ) → Every (λ w. sound w ≡ true) (pieces run ns) → Every (λ n. 0 < n) ns
unfolding pieces
some_words run [] r = tt
some_words run (zero ∷ ns) r = absurd (none_unsound r.0)
some_words run (suc n ∷ ns) r = (omega arith, some_words (drop (suc n) run) ns r.1)

pub no_empty_store : (run ns : List ℕ) → run_sound run ns ≡ true → Every (λ n. 0 < n) ns
no_empty_store run ns e = some_words run ns ((run_sound_means run ns).0 e).each

-- over a run of sound stores the lines add up to all its faults
pub run_adds_up : (run ns : List ℕ) → run_sound run ns ≡ true
    → total (λ k. entries_of k (all_histories (pieces run ns))) (codes_in (all_histories (pieces run ns))) ≡ total length (all_histories (pieces run ns))
run_adds_up run ns e = lines_add_up (all_histories (pieces run ns)) (stores_faults (pieces run ns) ((run_sound_means run ns).0 e).each)

-- the scratch

-- all shapes take the same
need_same : (a b : Shape) → need a ≡ need b
unfolding need most_cards most_faults
need_same a b = refl

most_same : (ws : List (List ℕ)) → most_need ws ≡ need (shape_of [])
unfolding most_need
most_same [] = refl
most_same (w ∷ ws) = omega (arith, need_same (shape_of w) (shape_of []), most_same ws)

pub need_of_all : (run ns : List ℕ) → need_of run ns ≡ need (shape_of [])
unfolding need_of
need_of_all run ns = most_same (pieces run (take most_stores ns))

-- the numbers

-- one store to eight, and scratch enough
abbrev pub Counted : List ℕ → List ℕ → List ℕ → Type 0
Counted run ns scratch = (need_of run ns ≤ length scratch) × (1 ≤ length ns) × (length ns ≤ most_stores)

-- a report that comes to its text
abbrev pub Reached : List ℕ → List ℕ → List ℕ → Type 0
Reached run ns scratch = Counted run ns scratch × (run_sound run ns ≡ true)

-- the text of the report over a run
abbrev pub text_for : List ℕ → List ℕ → List ℕ
text_for run ns = report_text (all_histories (pieces run ns))

module _ (run ns scratch out : List ℕ) where
  abbrev clean : List ℕ
  clean = cleaned (need_of run ns) scratch

  abbrev done_report : Reported
  done_report = record { number = 0; count = length (text_for run ns); out = text_for run ns ++ drop (length (text_for run ns)) out; scratch = clean }

  pub report_cases : (P : Reported → Type 0)
      → (length scratch < need_of run ns → P (refused_report 11 out scratch))
      → (need_of run ns ≤ length scratch → (length ns ≡ 0) ⊎ (most_stores < length ns) → P (refused_report 14 out clean))
      → (Counted run ns scratch → run_sound run ns ≡ false → P (refused_report 3 out clean))
      → (Reached run ns scratch → length out < length (text_for run ns) → P (refused_report 10 out clean))
      → (Reached run ns scratch → length (text_for run ns) ≤ length out → P done_report)
      → P (report_call run ns scratch out)
  unfolding report_call
  report_cases P short stores unsound small written =
      by_cases (ltb (length scratch) (need_of run ns))
      (λ e. rw e (short (ltb-true (length scratch) (need_of run ns) e)))
      (λ e. let a = ltb-false (length scratch) (need_of run ns) e in
      rw e (by_cases (between 1 most_stores (length ns))
      (λ b. let c = (between_is 1 most_stores (length ns)).0 b in
      rw b (by_cases (run_sound run ns)
      (λ ok. rw ok (by_cases (ltb (length out) (length (text_for run ns)))
      (λ t. rw t (small ((a, c.0, c.1), ok) (ltb-true (length out) (length (text_for run ns)) t)))
      (λ t. rw t (written ((a, c.0, c.1), ok) (ltb-false (length out) (length (text_for run ns)) t)))))
      (λ no. rw no (unsound (a, c.0, c.1) no))))
      (λ b. rw b (stores a (outside (length ns) b)))))
    where
      outside : (n : ℕ) → between 1 most_stores n ≡ false → (n ≡ 0) ⊎ (most_stores < n)
      outside n b =
          by_cases (ltb most_stores n)
          (λ e. inr (ltb-true most_stores n e))
          (λ e. by_cases (ltb 0 n)
          (λ f. not_both ((between_is 1 most_stores n).1 (ltb-true 0 n f, ltb-false most_stores n e)) b)
          (λ f. inl (omega (arith, ltb-false 0 n f))))

-- one to eight are neither none nor more than eight
inside : (n : ℕ) → 1 ≤ n → n ≤ most_stores → (n ≡ 0) ⊎ (most_stores < n) → ⊥
inside n l m (inl e) = omega arith
inside n l m (inr h) = omega arith

pub record ReportNumbers (run ns scratch out : List ℕ) (k : ℕ) : Type 0 where
  pub short : (k ≡ 11) ↔ (length scratch < need_of run ns)
  pub stores : (k ≡ 14) ↔ ((need_of run ns ≤ length scratch) × ((length ns ≡ 0) ⊎ (most_stores < length ns)))
  pub unsound : (k ≡ 3) ↔ (Counted run ns scratch × (run_sound run ns ≡ false))
  pub small : (k ≡ 10) ↔ (Reached run ns scratch × (length out < length (text_for run ns)))
  pub done : (k ≡ 0) ↔ (Reached run ns scratch × (length (text_for run ns) ≤ length out))
  pub none_else : Memᴰ k (11 ∷ 14 ∷ 3 ∷ 10 ∷ 0 ∷ [])

module _ (run ns scratch out : List ℕ) where
  pub report_numbers : ReportNumbers run ns scratch out (report_call run ns scratch out).number
  report_numbers =
      report_cases run ns scratch out (λ r. ReportNumbers run ns scratch out r.number)
      (λ a. record {
        short = hit refl a;
        stores = miss (omega arith) (λ c. omega (arith, c.0));
        unsound = miss (omega arith) (λ c. omega (arith, c.0.0));
        small = miss (omega arith) (λ c. omega (arith, c.0.0.0));
        done = miss (omega arith) (λ c. omega (arith, c.0.0.0));
        none_else = Memᴰ.head refl;
      })
      (λ a o. record {
        short = miss (omega arith) (omega arith);
        stores = hit refl (a, o);
        unsound = miss (omega arith) (λ c. inside (length ns) c.0.1 c.0.2 o);
        small = miss (omega arith) (λ c. inside (length ns) c.0.0.1 c.0.0.2 o);
        done = miss (omega arith) (λ c. inside (length ns) c.0.0.1 c.0.0.2 o);
        none_else = Memᴰ.tail (Memᴰ.head refl);
      })
      (λ a no. record {
        short = miss (omega arith) (omega arith);
        stores = miss (omega arith) (λ c. inside (length ns) a.1 a.2 c.1);
        unsound = hit refl (a, no);
        small = miss (omega arith) (λ c. not_both c.0.1 no);
        done = miss (omega arith) (λ c. not_both c.0.1 no);
        none_else = Memᴰ.tail (Memᴰ.tail (Memᴰ.head refl));
      })
      (λ a t. record {
        short = miss (omega arith) (omega arith);
        stores = miss (omega arith) (λ c. inside (length ns) a.0.1 a.0.2 c.1);
        unsound = miss (omega arith) (λ c. not_both a.1 c.1);
        small = hit refl (a, t);
        done = miss (omega arith) (λ c. omega arith);
        none_else = Memᴰ.tail (Memᴰ.tail (Memᴰ.tail (Memᴰ.head refl)));
      })
      (λ a t. record {
        short = miss (omega arith) (omega arith);
        stores = miss (omega arith) (λ c. inside (length ns) a.0.1 a.0.2 c.1);
        unsound = miss (omega arith) (λ c. not_both a.1 c.1);
        small = miss (omega arith) (λ c. omega arith);
        done = hit refl (a, t);
        none_else = Memᴰ.tail (Memᴰ.tail (Memᴰ.tail (Memᴰ.tail (Memᴰ.head refl))));
      })

  -- a length of 0 among one to eight
  pub empty_store_is_3 : Counted run ns scratch → In 0 ns → (report_call run ns scratch out).number ≡ 3
  empty_store_is_3 c i =
      report_numbers.unsound.1
      (c, by_cases (run_sound run ns) (λ ok. let h = every_in (λ n. 0 < n) ns (no_empty_store run ns ok) 0 i in absurd (omega arith)) (λ no. no))

  -- nine lengths or more, whatever they are
  pub nine_is_14 : need_of run ns ≤ length scratch → most_stores < length ns → (report_call run ns scratch out).number ≡ 14
  nine_is_14 a h = report_numbers.stores.1 (a, inr h)

  pub refused_report_lem : ((report_call run ns scratch out).number ≡ 0 → ⊥) → ((report_call run ns scratch out).out ≡ out) × ((report_call run ns scratch out).count ≡ 0)
  refused_report_lem =
      report_cases run ns scratch out (λ r. (r.number ≡ 0 → ⊥) → (r.out ≡ out) × (r.count ≡ 0))
      (λ a h. (refl, refl)) (λ a o h. (refl, refl)) (λ a no h. (refl, refl)) (λ a t h. (refl, refl)) (λ a t h. absurd (h refl))

  -- under 11 the scratch is untouched; else its first bytes end zero and the rest stays, whatever the number
  pub report_scratch : ((report_call run ns scratch out).number ≡ 11 → (report_call run ns scratch out).scratch ≡ scratch)
      × (((report_call run ns scratch out).number ≡ 11 → ⊥) → (report_call run ns scratch out).scratch ≡ cleaned (need_of run ns) scratch)
  report_scratch =
      report_cases run ns scratch out (λ r. (r.number ≡ 11 → r.scratch ≡ scratch) × ((r.number ≡ 11 → ⊥) → r.scratch ≡ cleaned (need_of run ns) scratch))
      (λ a. (λ e. refl, λ h. absurd (h refl))) (λ a o. (λ e. absurd (omega arith), λ h. refl)) (λ a no. (λ e. absurd (omega arith), λ h. refl))
      (λ a t. (λ e. absurd (omega arith), λ h. refl)) (λ a t. (λ e. absurd (omega arith), λ h. refl))

-- a report that is done: the text in front, and the output behind it as it was
pub record Written (text out : List ℕ) (r : Reported) : Type 0 where
  pub count_is : r.count ≡ length text
  pub text_is : take r.count r.out ≡ text
  pub rest : drop r.count r.out ≡ drop r.count out
  pub long : length r.out ≡ length out

pub report_written : (run ns scratch out : List ℕ) → (report_call run ns scratch out).number ≡ 0 → Written (text_for run ns) out (report_call run ns scratch out)
report_written run ns scratch out =
    report_cases run ns scratch out (λ r. r.number ≡ 0 → Written (text_for run ns) out r)
    (λ a e. absurd (omega arith)) (λ a o e. absurd (omega arith)) (λ a no e. absurd (omega arith)) (λ a t e. absurd (omega arith))
    (λ a t e. let text = text_for run ns in
    let rest = drop (length text) out in
    record {
      count_is = refl;
      text_is = take-append_seam text rest;
      rest = drop-append_seam text rest;
      long = omega (arith, length-append text rest, length-drop (length text) out);
    })

-- no store at all, whatever the run
pub no_store_is_14 : (run scratch out : List ℕ) → need_of run [] ≤ length scratch → (report_call run [] scratch out).number ≡ 14
no_store_is_14 run scratch out a = (report_numbers run [] scratch out).stores.1 (a, inl refl)
