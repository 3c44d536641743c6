-- A fresh file: limits that take too many words are out of range (`limits_over`), Open goes by the number of words alone (`opens_alike`), and the three
-- ways in which a file is made or not (`none_made`, `refused_made`, `fresh_made`).
use Prim.Native.Nat.{ℕ, ◌*◌, ◌≤◌, ◌<◌}
use mathlib.Core.Path.{◌≡◌, refl, sym, ap, ◌∙◌}
use mathlib.Core.Bool.{true, false}
use mathlib.Core.List.{List, [], ◌∷◌, ◌++◌}
use native.Mathlib.Omega.{arith}
use lib.Dec.{eqb}
use lib.ListN.{length, drop, length-replicate}
use borrow.Author.Tests.{ne_eqb}
use Rattle.rules.proofs.Tests.{by_cases, both}
use Rattle.model.specs.Bounds.{cards_ever}
use Rattle.model.specs.Lists.{between}
use Rattle.model.specs.Shape.{faults_ever, Shape, entries, card_width, most_cards, most_faults}
use Rattle.model.specs.Layout.{cards_at, faults_at, length_for, limits_ok, bounds_ok, encode}
use Rattle.model.specs.Model.{fresh}
use Rattle.model.specs.Calls.{Terms, shape_for, Opened, open_call}
use Rattle.model.proofs.Lists.{between_is}
use Rattle.model.proofs.Rep.{rep_encode}
use Rattle.model.proofs.Fresh.{fair_fresh}
use Rattle.model.proofs.Outcomes.{opened_fresh}
use Rattle.reader.specs.Depot.{blank}
use Rattle.disk.specs.Bytes.{words_of, four, file_of, WrittenAs}
use Rattle.disk.specs.Desk.{most_words, number_line, file_from, fresh_for, Files}
use Rattle.disk.proofs.Lengths.{most_words_lem}

pub file_length : (w : List ℕ) → length (file_of w) ≡ 4 * length w
unfolding file_of four
file_length [] = refl
file_length (x ∷ w) = omega (arith, file_length w)

limits_are : (sh : Shape) → limits_ok sh ≡ true → (sh.limit ≤ cards_ever) × (sh.fault_limit ≤ faults_ever)
unfolding limits_ok most_cards most_faults
limits_are sh e =
    let a = both (between 1 (most_cards sh) sh.limit) (between 1 (most_faults sh) sh.fault_limit) e in
    (((between_is 1 (most_cards sh) sh.limit).0 a.0).1, ((between_is 1 (most_faults sh) sh.fault_limit).0 a.1).1)

pub limits_over : (t : Terms) → most_words < length_for (shape_for t) → limits_ok (shape_for t) ≡ false
unfolding length_for faults_at cards_at card_width entries shape_for
limits_over t h = by_cases (limits_ok (shape_for t)) (λ e. absurd (omega (arith, most_words_lem, limits_are (shape_for t) e))) (λ e. e)

opens_alike : (w v : List ℕ) (t : Terms) → length w ≡ length v → (open_call w t).number ≡ (open_call v t).number
unfolding open_call
opens_alike w v t l =
    by_cases (limits_ok (shape_for t)) (λ a. rw a (by_cases (bounds_ok (shape_for t))
    (λ b. rw (b, l) (by_cases (eqb (length v) (length_for (shape_for t))) (λ e. rw e) (λ e. rw e))) (λ b. rw b))) (λ a. rw a)

refused_one : (w : List ℕ) (t : Terms) → limits_ok (shape_for t) ≡ false → (open_call w t).number ≡ 1
unfolding open_call
refused_one w t v = rw v

fresh_long : (t : Terms) (w : List ℕ) → (open_call w t).number ≡ 0 → length (encode (fresh (shape_for t))) ≡ length_for (shape_for t)
unfolding fresh
fresh_long t w e = (rep_encode (fresh (shape_for t)) (fair_fresh (shape_for t) (opened_fresh w t e).0)).long

pub opened_long : (w : List ℕ) (t : Terms) {number : ℕ} {w' : List ℕ} → number ≡ 0 → number ≡ (open_call w t).number → w' ≡ (open_call w t).words → length w' ≡ length_for (shape_for t)
opened_long w t z e u = ap length (u ∙ (opened_fresh w t (sym e ∙ z)).1) ∙ fresh_long t w (sym e ∙ z)

pub fresh_said : (t : Terms) → (fresh_for t).text ≡ number_line (fresh_for t).number
unfolding fresh_for file_from
fresh_said t = refl

-- a file that is not made
not_made : (o : Opened) (file : List ℕ) {number : ℕ} → number ≡ o.number → (o.number ≡ 0 → ⊥) → Files (file_from o) file number 0 file
unfolding file_from words_of
not_made o file e n = rw (ne_eqb o.number 0 n) (record { number_is = e; file_is = record { out_is = refl; len_is = refl }; back_are = refl })

module _ (t : Terms) (file : List ℕ) where
  abbrev room : List ℕ
  room = blank (length_for (shape_for t))

  room_long : length room ≡ length_for (shape_for t)
  unfolding blank
  room_long = length-replicate {A = ℕ} (length_for (shape_for t)) 0

  pub none_made : limits_ok (shape_for t) ≡ false → Files (fresh_for t) file 1 0 file
  unfolding fresh_for
  none_made v = let e = refused_one room t v in not_made (open_call room t) file (sym e) (λ z. omega (arith, e, z))

  pub refused_made : (w : List ℕ) {number : ℕ} → length w ≡ length_for (shape_for t) → number ≡ (open_call w t).number → (number ≡ 0 → ⊥) → Files (fresh_for t) file number 0 file
  unfolding fresh_for
  refused_made w {number} l e n =
      let s = opens_alike w room t (l ∙ sym room_long) in
      not_made (open_call room t) file (e ∙ s) (λ z. n (e ∙ s ∙ z))

  pub fresh_made : (w : List ℕ) {number : ℕ} {w' file' : List ℕ} → length w ≡ length_for (shape_for t) → number ≡ 0 → number ≡ (open_call w t).number → w' ≡ (open_call w t).words
      → WrittenAs w' file' → Files (fresh_for t) file 0 (4 * length_for (shape_for t)) (file' ++ drop (4 * length_for (shape_for t)) file)
  unfolding fresh_for file_from
  fresh_made w {number} {w'} {file'} l z e u b =
      let o = opened_fresh w t (sym e ∙ z) in
      let k : (open_call room t).number ≡ 0 = sym (opens_alike w room t (l ∙ sym room_long)) ∙ sym e ∙ z in
      let r = opened_fresh room t k in
      let f : file' ≡ file_of (encode (fresh (shape_for t))) = b.are ∙ ap file_of (u ∙ o.1) in
      let n : length (file_of (encode (fresh (shape_for t)))) ≡ 4 * length_for (shape_for t) = file_length (encode (fresh (shape_for t))) ∙ ap (λ (k : ℕ). 4 * k) (fresh_long t w (sym e ∙ z)) in
      rw (k, r.1) (record { number_is = refl; file_is = record { out_is = rw (f, n); len_is = sym n }; back_are = ap words_of (sym f) ∙ b.back ∙ u ∙ o.1 })
