-- What a cell has to be by itself, by the chain that it stands in.
use Rattle.std.specs.Prelude.{◌≡◌, Bool, true, false, ◌&&◌, cond, List, ℕ, zero, suc, ◌+◌, ◌-◌, ◌<◌, eqb, take, get_or}
use Rattle.rules.specs.Code.{code_of}
use Rattle.rules.specs.Table.{address_of}
use Rattle.model.specs.Lists.{between, all, from}
use Rattle.model.specs.Shape.{Shape}
use Rattle.model.specs.Serial.{valid_serial, valid_fault}
use Rattle.model.specs.Layout.{maxp_at, p_at, to_next, to_length, to_day, to_code, segments_at, card_word, fault_word}
use Rattle.reads.specs.declared.header.Header.{Header}
use Rattle.checker.specs.declared.fits.Chain.{Chain}
use Rattle.checker.specs.declared.fits.Chain.TheVariants.{Free, Bucket, History}
use Rattle.reads.specs.Cells.{cell_word, width_of, bytes_at, same_key}

-- from cell j on, cell i is met before any other card with its key, and within `fuel` cells
unfoldable pub met_first : ℕ → Shape → List ℕ → ℕ → ℕ → Bool
met_first zero sh w j i = false
met_first (suc fuel) sh w j i =
    let rest = met_first fuel sh w (card_word sh w j to_next) i in
    cond (eqb j i) true (cond (between 1 sh.limit j) (cond (same_key sh w j i) false rest) false)

-- what a cell has to be by itself: in the free chain, in a history, in bucket b
unfoldable pub free_fits : Shape → List ℕ → Bool → ℕ → Bool
free_fits sh w faults i = all (λ k. eqb (cell_word sh w faults i k) 0) (from 1 (width_of sh faults - 1))

unfoldable pub fault_fits : Shape → List ℕ → ℕ → Bool
fault_fits sh w i = valid_fault (fault_word sh w i to_day) (fault_word sh w i to_code)

unfoldable pub card_fits : Shape → List ℕ → ℕ → ℕ → Bool
card_fits sh w b i =
    valid_serial (bytes_at sh w i) (card_word sh w i to_length)
    && (eqb (address_of (code_of (take (card_word sh w i to_length) (bytes_at sh w i))) (get_or w maxp_at 0) (get_or w p_at 0)) b
    && met_first sh.limit sh w (get_or w (segments_at sh + b) 0) i)

-- the chain is one of its part: the free chain of either, a bucket of the cards, a history of the faults
abbrev pub Suits : Header → Bool → Chain → Type 0
Suits h faults Free = Unit {0}
Suits h faults (Bucket b) = (faults ≡ false) × (b < h.top)
Suits h faults History = faults ≡ true

-- and by the chain that it stands in
unfoldable pub cell_fits : Shape → List ℕ → Bool → Chain → ℕ → Bool
cell_fits sh w faults Free i = free_fits sh w faults i
cell_fits sh w faults (Bucket b) i = card_fits sh w b i
cell_fits sh w faults History i = fault_fits sh w i
