-- The sizes of files, one after another. The model's words for their test and their sum (`all_is`, `sum_is`). Sizes that are stores' and add up have room
-- (`sizes_room`); a report takes as much scratch whatever the stores (`need_all`), and what it writes lies within the output (`report_within`).
use Prim.Native.Nat.{ℕ, ◌+◌, ◌*◌, ◌/◌, ◌≤◌}
use mathlib.Core.Path.{◌≡◌, refl, ap, ◌∙◌}
use mathlib.Core.Bool.{Bool, true}
use mathlib.Core.List.{List, [], ◌∷◌, map}
use native.Mathlib.Nat.{mod-add-div}
use native.Mathlib.Omega.{arith}
use lib.Dec.{ltb, eqb}
use Rattle.std.specs.List.{list_all, sum}
use Rattle.std.proofs.lemmas.List.Sums.{sum_by-cons}
use lib.ListN.{length, take, drop, length-append}
use borrow.Author.Tests.{eqb-true}
use Rattle.rules.proofs.Tests.{by_cases, both}
use Rattle.model.specs.Lists.{between, all, total}
use Rattle.model.specs.Shape.{most_cards, most_faults, need}
use Rattle.model.specs.Report.{most_stores, pieces, run_sound, all_histories, report_text, most_need, need_of, refused_report, report_call}
use Rattle.store.specs.declared.answer.Wrote.{Wrote}
use Rattle.disk.specs.Bytes.{words_of}
use Rattle.disk.specs.Desk.{most_words, sized}
use Rattle.disk.specs.Report.{words_in, sizes_ok, desk_report, Reports}
use Rattle.disk.proofs.Lengths.{most_words_lem, sized_is}

-- the model's words for what an iterator tells of all elements, and of their sum
pub all_is : (f : ℕ → Bool) (l : List ℕ) → list_all f l ≡ all f l
all_is f [] = refl
all_is f (x ∷ l) = rw (all_is f l)

pub sum_is : (l : List ℕ) → sum l ≡ total (λ k. k) l
sum_is [] = refl
sum_is (x ∷ l) = sum_by-cons (λ (k : ℕ). k) x l ∙ ap (λ (n : ℕ). x + n) (sum_is l)

sized_words : (ns : List ℕ) → all sized ns ≡ true → (total (λ k. k) ns ≡ 4 * total words_in ns) × (total words_in ns ≤ 15648 * length ns)
sized_words [] e = (refl, omega arith)
sized_words (n ∷ ns) e =
    let a = both (sized n) (all sized ns) e in
    let z = sized_is n a.0 in
    let r = sized_words ns a.1 in
    (omega (arith, z.1, r.0), omega (arith, most_words_lem, z.0, r.1))

pub sizes_room : (n : ℕ) (ns : List ℕ) → sizes_ok n ns ≡ true → length ns ≤ most_stores → (n / 4 ≤ most_stores * most_words) × (n ≡ 4 * (n / 4))
unfolding sizes_ok
sizes_room n ns e h =
    let a = both (all sized ns) (eqb (total (λ k. k) ns) n) e in
    let s = eqb-true (total (λ k. k) ns) n a.1 in
    let r = sized_words ns a.0 in
    (omega (arith, most_words_lem, s, r.0, r.1, mod-add-div n 4), omega (arith, s, r.0, mod-add-div n 4))

need_any : (ws : List (List ℕ)) → most_need ws ≡ 384
unfolding most_need need most_cards most_faults
need_any [] = refl
need_any (w ∷ ws) = rw (need_any ws)

pub need_all : (run ns : List ℕ) → need_of run ns ≡ 384
unfolding need_of
need_all run ns = need_any (pieces run (take most_stores ns))

pub refused : {number : ℕ} {out : List ℕ} → Reports (refused_report number out []) (record { number = number; count = 0 }) out
refused = record { answer = record { number_is = refl; count_is = refl }; out_is = refl }

-- what a report writes lies within the output
call_within : (run ns scratch out : List ℕ) → (report_call run ns scratch out).count ≤ length (report_call run ns scratch out).out
unfolding report_call
call_within run ns scratch out =
    let text = report_text (all_histories (pieces run ns)) in
    by_cases (ltb (length scratch) (need_of run ns)) (λ e. rw e (omega arith))
    (λ e. rw e (by_cases (between 1 most_stores (length ns)) (λ f. rw f (by_cases (run_sound run ns)
    (λ g. rw g (by_cases (ltb (length out) (length text)) (λ h. rw h (omega arith)) (λ h. rw h (omega (arith, length-append text (drop (length text) out))))))
    (λ g. rw g (omega arith)))) (λ f. rw f (omega arith))))

desk_within : (files sizes out : List ℕ) → (desk_report files sizes out).count ≤ length (desk_report files sizes out).out
unfolding desk_report
desk_within files sizes out =
    by_cases (between 1 most_stores (length sizes)) (λ a. rw a (by_cases (sizes_ok (length files) sizes)
    (λ b. rw b (call_within (words_of files) (map words_in sizes) _ out)) (λ b. rw b (omega arith)))) (λ a. rw a (omega arith))

pub report_within : (files sizes out : List ℕ) {r : Wrote} {out' : List ℕ} → Reports (desk_report files sizes out) r out' → r.count ≤ length out'
report_within files sizes out e = rw (e.answer.count_is, e.out_is) (desk_within files sizes out)
