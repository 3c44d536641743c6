-- A history noted fault by fault: at each turn, what is left of it makes of the rows so far what the whole history makes of the first rows
-- (`Noting`), since a chain that ends goes on behind its first cell.
use mathlib.Core.Path.{◌≡◌, sym, ap, ◌∙◌}
use mathlib.Core.Bool.{true}
use mathlib.Core.List.{List, ◌∷◌, map}
use Prim.Native.Nat.{ℕ, suc, ◌≤◌}
use native.Mathlib.Omega.{arith}
use borrow.Author.Tests.{leb-true}
use lib.Dec.{leb}
use lib.ListN.{length}
use Rattle.rules.proofs.Tests.{both}
use Rattle.model.specs.Serial.{most_code}
use Rattle.model.specs.Shape.{Shape}
use Rattle.model.specs.Layout.{to_day, to_code, fault_word, read_fault}
use Rattle.model.specs.Meaning.{next_fault}
use Rattle.model.specs.Plain.{slip}
use Rattle.model.proofs.Chains.{follow_none}
use Rattle.reads.specs.Chains.{Ends, faults_from}
use Rattle.reads.proofs.EndsLaws.{ends_on}
use Rattle.report.specs.declared.rows.Row.{Row}
use Rattle.report.specs.Rows.{slip_of, slips_from, noted, note_history, codes_fit, Takes}
use Rattle.report.proofs.RowLaws.{takes_noted, takes_less}

-- the history from a cell on, cell by cell
slips_on : (sh : Shape) (w : List ℕ) {i : ℕ} → Ends sh.fault_limit (next_fault sh w) i → (i ≡ 0 → ⊥)
    → slips_from sh w i ≡ slip_of (fault_word sh w i to_day) (fault_word sh w i to_code) ∷ slips_from sh w (next_fault sh w i)
unfolding slips_from faults_from read_fault
slips_on sh w e some = ap (λ (l : List ℕ). map (λ f. slip_of f.day f.code) (map (read_fault sh w) l)) (ends_on e some).0

-- at cell i, with these rows
pub record Noting (sh : Shape) (w : List ℕ) (n : ℕ) (rows₀ : List Row) (first : ℕ) (rows : List Row) (i : ℕ) : Type 0 where
  pub ends : Ends sh.fault_limit (next_fault sh w) i
  pub codes : codes_fit (slips_from sh w i) ≡ true
  pub takes : Takes rows (length (slips_from sh w i))
  pub same : note_history rows n (slips_from sh w i) ≡ note_history rows₀ n (slips_from sh w first)

pub noting_end : {sh : Shape} {w : List ℕ} {rows₀ rows : List Row} {n first i : ℕ} → Noting sh w n rows₀ first rows i → i ≡ 0 → rows ≡ note_history rows₀ n (slips_from sh w first)
unfolding slips_from faults_from note_history
noting_end {sh} {w} {rows₀} {rows} {n} {first} {i} a z =
    sym (ap (λ (l : List ℕ). note_history rows n (map slip (map (read_fault sh w) l))) (follow_none sh.fault_limit (next_fault sh w) i z)) ∙ a.same

module _ {sh : Shape} {w : List ℕ} {rows₀ rows : List Row} {n first i : ℕ} (a : Noting sh w n rows₀ first rows i) (some : i ≡ 0 → ⊥) where
  -- the code in cell i has a row, and that row can take it
  left_codes : (leb (fault_word sh w i to_code) most_code ≡ true) × (codes_fit (slips_from sh w (next_fault sh w i)) ≡ true)
  unfolding codes_fit
  left_codes = both (leb (fault_word sh w i to_code) most_code) (codes_fit (slips_from sh w (next_fault sh w i))) (rw (slips_on sh w a.ends some) at a.codes)

  left_takes : Takes rows (suc (length (slips_from sh w (next_fault sh w i))))
  left_takes = rw (slips_on sh w a.ends some) at a.takes

  pub noting_code : fault_word sh w i to_code ≤ most_code
  noting_code = leb-true _ _ left_codes.0

  pub noting_takes : Takes rows 1
  noting_takes = takes_less rows (suc (length (slips_from sh w (next_fault sh w i)))) 1 left_takes (omega arith)

  pub noting_next : {day code next : ℕ} {rows' : List Row} → day ≡ fault_word sh w i to_day → code ≡ fault_word sh w i to_code → next ≡ next_fault sh w i
      → rows' ≡ noted rows n (slip_of day code) → Noting sh w n rows₀ first rows' next
  unfolding note_history
  noting_next {day} {code} {next} {rows'} ed ec en er =
      let e : rows' ≡ noted rows n (slip_of (fault_word sh w i to_day) (fault_word sh w i to_code)) = er ∙ (λ j. noted rows n (slip_of (ed j) (ec j))) in
      record {
        ends = rw en (ends_on a.ends some).1;
        codes = rw en left_codes.1;
        takes = rw (en, e) (takes_noted rows n (length (slips_from sh w (next_fault sh w i))) _ left_takes noting_code);
        same = rw (en, e) (sym (ap (note_history rows n) (slips_on sh w a.ends some)) ∙ a.same);
      }
