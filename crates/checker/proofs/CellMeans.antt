-- What a cell has to be, test by test: a free cell is zero behind its next word (`free_is`, `is_free`), a cell of a bucket has a serial of
-- its length, valid, padded with zero bytes and addressed there, and is met first in its chain among the cards with its five words
-- (`card_is`, `is_card`). Two cards with one serial have the same five words, since a serial and its zero bytes pack to them
-- (`serial_key`); so of two cards with one serial in one chain both cannot be met first (`met_one`), and where each serial stands once
-- each card is met first (`met_first_lem`).
use mathlib.Core.Path.{◌≡◌, refl, sym, ap, ◌∙◌}
use mathlib.Core.Logic.{⊎_elim}
use mathlib.Core.Bool.{Bool, true, false, cond, false≢true}
use mathlib.Core.List.{List, [], ◌∷◌}
use Prim.Native.Nat.{ℕ, zero, suc, ◌+◌, ◌-◌, ◌≤◌, ◌<◌}
use native.Mathlib.Omega.{arith}
use borrow.Author.Tests.{eqb-true, eq-eqb, ne_eqb}
use lib.Dec.{eqb}
use lib.ListN.{length, take, drop, get_or}
use Rattle.rules.specs.Code.{code_of}
use Rattle.rules.specs.Table.{address_of}
use Rattle.rules.proofs.Tests.{by_cases, not_both, both, all_of, eq?}
use Rattle.model.specs.Shape.{Shape}
use Rattle.model.specs.Lists.{all, between}
use Rattle.model.specs.Serial.{serial_ok, valid_serial, valid_fault}
use Rattle.model.specs.Layout.{maxp_at, p_at, to_length, to_serial, to_day, to_code, packed, card_word, fault_word}
use Rattle.model.specs.Meaning.{In, Leads, bucket_word, next_card, bytes_in, serial_in}
use Rattle.model.proofs.Lists.{between_is, all_from, from_all}
use Rattle.model.proofs.Sums.{bit_same, bit_other}
use Rattle.model.proofs.Serials.{words_back}
use Rattle.model.proofs.Walks.{times_count}
use Rattle.checker.specs.declared.fits.Chain.TheVariants.{Free, Bucket, History}
use Rattle.reads.specs.Cells.{bytes_at, cell_word, width_of, same_key}
use Rattle.checker.specs.Fits.{met_first, free_fits, fault_fits, card_fits, cell_fits}

-- free cells

module _ (sh : Shape) (w : List ℕ) (faults : Bool) (i : ℕ) where
  zero_word : ℕ → Bool
  zero_word k = eqb (cell_word sh w faults i k) 0

  pub free_is : cell_fits sh w faults Free i ≡ true → (k : ℕ) → 1 ≤ k → k < width_of sh faults → cell_word sh w faults i k ≡ 0
  unfolding cell_fits free_fits zero_word
  free_is e k a b = eqb-true (cell_word sh w faults i k) 0 (all_from zero_word 1 (width_of sh faults - 1) e k a (omega arith))

  pub is_free : ((k : ℕ) → 1 ≤ k → k < width_of sh faults → cell_word sh w faults i k ≡ 0) → cell_fits sh w faults Free i ≡ true
  unfolding cell_fits free_fits zero_word
  is_free z = from_all zero_word 1 (width_of sh faults - 1) (λ k a b. eq-eqb (cell_word sh w faults i k) 0 (z k a (omega arith)))

-- a cell of a history
pub fault_fits_lem : (sh : Shape) (w : List ℕ) (i : ℕ) → cell_fits sh w true History i ≡ valid_fault (fault_word sh w i to_day) (fault_word sh w i to_code)
unfolding cell_fits fault_fits
fault_fits_lem sh w i = refl

-- a cell of bucket b

pub record CardFits (sh : Shape) (w : List ℕ) (b i : ℕ) : Type 0 where
  pub long : card_word sh w i to_length ≡ length (serial_in sh w i)
  pub valid : serial_ok (serial_in sh w i) ≡ true
  pub padding : all (eqb 0) (drop (card_word sh w i to_length) (bytes_in sh w i)) ≡ true
  pub addressed : address_of (code_of (serial_in sh w i)) (get_or w maxp_at 0) (get_or w p_at 0) ≡ b
  pub first : met_first sh.limit sh w (bucket_word sh w b) i ≡ true

pub card_is : (sh : Shape) (w : List ℕ) (b i : ℕ) → cell_fits sh w false (Bucket b) i ≡ true → CardFits sh w b i
unfolding cell_fits card_fits valid_serial bytes_at bytes_in serial_in
card_is sh w b i e =
    let n = card_word sh w i to_length in
    let a = address_of (code_of (serial_in sh w i)) (get_or w maxp_at 0) (get_or w p_at 0) in
    let (s, r) = both (valid_serial (bytes_at sh w i) n) _ e in
    let (at, first) = both (eqb a b) (met_first sh.limit sh w (bucket_word sh w b) i) r in
    let (l, v) = both (eqb (length (take n (bytes_in sh w i))) n) _ s in
    let (ok, zeros) = both (serial_ok (take n (bytes_in sh w i))) (all (eqb 0) (drop n (bytes_in sh w i))) v in
    record { long = sym (eqb-true (length (take n (bytes_in sh w i))) n l); valid = ok; padding = zeros; addressed = eqb-true a b at; first = first }

pub is_card : (sh : Shape) (w : List ℕ) (b i : ℕ) → CardFits sh w b i → cell_fits sh w false (Bucket b) i ≡ true
unfolding cell_fits card_fits valid_serial bytes_at bytes_in serial_in
is_card sh w b i c =
    all_of (all_of (eq-eqb (length (serial_in sh w i)) (card_word sh w i to_length) (sym c.long)) (all_of c.valid c.padding))
    (all_of (eq-eqb (address_of (code_of (serial_in sh w i)) (get_or w maxp_at 0) (get_or w p_at 0)) b c.addressed) c.first)

-- the five words of a card

pub key_serial : (sh : Shape) (w : List ℕ) (i j : ℕ) → same_key sh w i j ≡ true → serial_in sh w i ≡ serial_in sh w j
unfolding same_key serial_in bytes_in
key_serial sh w i j e =
    let (a, e₁) = both (eqb (card_word sh w i to_length) (card_word sh w j to_length)) _ e in
    let (b, e₂) = both (eqb (card_word sh w i to_serial) (card_word sh w j to_serial)) _ e₁ in
    let (c, e₃) = both (eqb (card_word sh w i (to_serial + 1)) (card_word sh w j (to_serial + 1))) _ e₂ in
    let (d, f) = both (eqb (card_word sh w i (to_serial + 2)) (card_word sh w j (to_serial + 2))) (eqb (card_word sh w i (to_serial + 3)) (card_word sh w j (to_serial + 3))) e₃ in
    rw (
      eqb-true (card_word sh w i to_length) (card_word sh w j to_length) a,
      eqb-true (card_word sh w i to_serial) (card_word sh w j to_serial) b,
      eqb-true (card_word sh w i (to_serial + 1)) (card_word sh w j (to_serial + 1)) c,
      eqb-true (card_word sh w i (to_serial + 2)) (card_word sh w j (to_serial + 2)) d,
      eqb-true (card_word sh w i (to_serial + 3)) (card_word sh w j (to_serial + 3)) f,
    )

pub serial_key : (sh : Shape) (w : List ℕ) (a b i j : ℕ) → CardFits sh w a i → CardFits sh w b j → serial_in sh w i ≡ serial_in sh w j → same_key sh w i j ≡ true
unfolding same_key serial_in bytes_in
serial_key sh w a b i j p q e =
    let u = words_back (card_word sh w i to_length) (card_word sh w i to_serial) (card_word sh w i (to_serial + 1)) (card_word sh w i (to_serial + 2)) (card_word sh w i (to_serial + 3)) p.padding in
    let v = words_back (card_word sh w j to_length) (card_word sh w j to_serial) (card_word sh w j (to_serial + 1)) (card_word sh w j (to_serial + 2)) (card_word sh w j (to_serial + 3)) q.padding in
    let packs : (k : ℕ) → packed (serial_in sh w i) k ≡ packed (serial_in sh w j) k = λ k. ap (λ (s : List ℕ). packed s k) e in
    all_of (eq-eqb (card_word sh w i to_length) (card_word sh w j to_length) (p.long ∙ ap length e ∙ sym q.long))
    (all_of (eq-eqb (card_word sh w i to_serial) (card_word sh w j to_serial) (sym u.0 ∙ packs 0 ∙ v.0))
    (all_of (eq-eqb (card_word sh w i (to_serial + 1)) (card_word sh w j (to_serial + 1)) (sym u.1 ∙ packs 4 ∙ v.1))
    (all_of (eq-eqb (card_word sh w i (to_serial + 2)) (card_word sh w j (to_serial + 2)) (sym u.2 ∙ packs 8 ∙ v.2))
    (eq-eqb (card_word sh w i (to_serial + 3)) (card_word sh w j (to_serial + 3)) (sym u.3 ∙ packs 12 ∙ v.3)))))

-- met first in a chain

module _ (f : ℕ) (sh : Shape) (w : List ℕ) (h i : ℕ) where
  met_here : h ≡ i → met_first (suc f) sh w h i ≡ true
  unfolding met_first
  met_here e = rw (eq-eqb h i e)

  met_on : (h ≡ i → ⊥) → between 1 sh.limit h ≡ true → same_key sh w h i ≡ false → met_first (suc f) sh w h i ≡ met_first f sh w (next_card sh w h) i
  unfolding met_first
  met_on n b k = rw (ne_eqb h i n, b, k)

  met_behind : (h ≡ i → ⊥) → met_first (suc f) sh w h i ≡ true → (same_key sh w h i ≡ false) × (met_first f sh w (next_card sh w h) i ≡ true)
  unfolding met_first
  met_behind n e = go (between 1 sh.limit h) (same_key sh w h i) (rw (ne_eqb h i n) at e)
    where
      go : (b k : Bool) → cond b (cond k false (met_first f sh w (next_card sh w h) i)) false ≡ true → (k ≡ false) × (met_first f sh w (next_card sh w h) i ≡ true)
      go false k e = absurd (false≢true e)
      go true true e = absurd (false≢true e)
      go true false e = (refl, e)

-- of two cards with the same words, one is met before the other
pub met_one : (f : ℕ) (sh : Shape) (w : List ℕ) (h i j : ℕ) → same_key sh w i j ≡ true → same_key sh w j i ≡ true → met_first f sh w h i ≡ true → met_first f sh w h j ≡ true → i ≡ j
unfolding met_first
met_one zero sh w h i j k l p q = absurd (false≢true p)
met_one (suc f) sh w h i j k l p q =
    ⊎_elim (λ (e : h ≡ i). ⊎_elim (λ (d : h ≡ j). sym e ∙ d) (λ (d : h ≡ j → ⊥). not_both (ap (λ (x : ℕ). same_key sh w x j) e ∙ k) (met_behind f sh w h j d q).0) (eq? h j))
    (λ (e : h ≡ i → ⊥). ⊎_elim (λ (d : h ≡ j). not_both (ap (λ (x : ℕ). same_key sh w x i) d ∙ l) (met_behind f sh w h i e p).0)
    (λ (d : h ≡ j → ⊥). met_one f sh w (next_card sh w h) i j k l (met_behind f sh w h i e p).1 (met_behind f sh w h j d q).1) (eq? h j)) (eq? h i)

-- a card of a chain in which no other has its words
pub met_first_lem : (f : ℕ) (sh : Shape) (w : List ℕ) (h i : ℕ) (l : List ℕ) → Leads (next_card sh w) h l → length l ≤ f → ((j : ℕ) → In j l → (1 ≤ j) × (j ≤ sh.limit))
    → ((j : ℕ) → In j l → same_key sh w j i ≡ true → j ≡ i) → In i l → met_first f sh w h i ≡ true
met_first_lem f sh w h i [] r b inside one p = absurd (omega arith)
met_first_lem zero sh w h i (x ∷ l) r b inside one p = absurd (omega arith)
met_first_lem (suc f) sh w h i (x ∷ l) r b inside one p =
    let later : (j : ℕ) → In j l → In j (x ∷ l) = λ j q. omega (arith, times_count j l, times_count j (x ∷ l)) in
    ⊎_elim (λ (e : h ≡ i). met_here f sh w h i e)
    (λ (d : h ≡ i → ⊥). let here : In h (x ∷ l) = omega (arith, times_count h (x ∷ l), bit_same h x r.0) in
    met_on f sh w h i d ((between_is 1 sh.limit h).1 (inside h here)) (by_cases (same_key sh w h i) (λ k. absurd (d (one h here k))) (λ k. k))
    ∙ met_first_lem f sh w (next_card sh w h) i l (rw r.0 r.1) (omega arith) (λ j q. inside j (later j q)) (λ j q. one j (later j q))
    (omega (arith, times_count i l, times_count i (x ∷ l), bit_other i x (λ e. d (r.0 ∙ sym e))))) (eq? h i)
