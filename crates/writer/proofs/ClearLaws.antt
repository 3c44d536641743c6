-- A history that is cleared cell by cell: at each turn, clearing what is left gives what clearing the whole gives (`Clearing`), since no
-- next word is written. Cleared, it is put before the free cells (`give_is`).
use mathlib.Core.Path.{◌≡◌, refl, sym, ap, ◌∙◌}
use mathlib.Core.List.{List}
use Prim.Native.Nat.{ℕ, zero, suc, ◌≤◌, ◌<◌}
use native.Mathlib.Omega.{arith}
use borrow.Author.Tests.{eq-eqb, ne_eqb}
use lib.ListN.{length, get_or, set}
use lib.Seq.{get_or-set_other}
use Rattle.model.specs.Shape.{Shape}
use Rattle.model.specs.Layout.{free_faults_at, to_next, to_day, to_code, cell_at, follow, fault_word}
use Rattle.model.specs.Meaning.{next_fault}
use Rattle.model.specs.Words.{fault_at, clear_words, give_words}
use Rattle.model.proofs.Give.{clear_none, clear_step}
use Rattle.reads.specs.declared.header.Header.{Header}
use Rattle.reads.specs.Cells.{shape_in, Sized}
use Rattle.reads.specs.Chains.{Ends}
use Rattle.reads.proofs.AlongLaws.{follow_length}
use Rattle.reads.proofs.EndsLaws.{ends_on, ends_frame, ends_less}
use Rattle.reads.proofs.CellLaws.{sized_set}

pub record Clearing (h : Header) (w₀ : List ℕ) (first : ℕ) (w : List ℕ) (i : ℕ) : Type 0 where
  pub sized : Sized w h
  pub ends : Ends h.faults (next_fault (shape_in h) w) i
  pub fuel : ℕ
  pub enough : length (follow h.faults (next_fault (shape_in h) w) i) ≤ fuel
  pub same : clear_words fuel (shape_in h) w i ≡ clear_words h.faults (shape_in h) w₀ first

pub clear_start : {w : List ℕ} {h : Header} {first : ℕ} → Sized w h → Ends h.faults (next_fault (shape_in h) w) first → Clearing h w first w first
clear_start {w} {h} {first} s e = record { sized = s; ends = e; fuel = h.faults; enough = follow_length h.faults (next_fault (shape_in h) w) first; same = refl }

module _ {h : Header} {w₀ : List ℕ} {first : ℕ} {w : List ℕ} {i : ℕ} (a : Clearing h w₀ first w i) where
  abbrev sh : Shape
  sh = shape_in h

  abbrev f : ℕ
  f = h.faults

  pub clear_end : i ≡ 0 → w ≡ clear_words h.faults (shape_in h) w₀ first
  clear_end z = sym (clear_none a.fuel sh w) ∙ ap (clear_words a.fuel sh w) (sym z) ∙ a.same

  module _ (ne : i ≡ 0 → ⊥) {next : ℕ} {u v : List ℕ} (n : next ≡ fault_word (shape_in h) w i to_next) (e₁ : u ≡ set w (fault_at (shape_in h) i to_day) 0) (e₂ : v ≡ set u (fault_at (shape_in h) i to_code) 0) where
    sized : Sized v h
    sized = sized_set (sized_set a.sized (fault_at sh i to_day) 0 e₁) (fault_at sh i to_code) 0 e₂

    -- no next word is written
    agree : (k : ℕ) → next_fault sh v k ≡ next_fault sh w k
    unfolding fault_word cell_at
    agree k =
        ap (λ (l : List ℕ). get_or l (fault_at sh k to_next) 0) e₂ ∙ get_or-set_other u (fault_at sh i to_code) (fault_at sh k to_next) 0 0 (omega arith)
        ∙ ap (λ (l : List ℕ). get_or l (fault_at sh k to_next) 0) e₁ ∙ get_or-set_other w (fault_at sh i to_day) (fault_at sh k to_next) 0 0 (omega arith)

    behind : (follow f (next_fault sh v) next ≡ follow f (next_fault sh w) (next_fault sh w i)) × Ends f (next_fault sh v) next
    behind = rw n (ends_frame (ends_on a.ends ne).1 (next_fault sh v) (λ k p. agree k))

    pub clear_less : length (follow h.faults (next_fault (shape_in h) v) next) < length (follow h.faults (next_fault (shape_in h) w) i)
    clear_less = omega (arith, ap length behind.0, ends_less a.ends ne)

    -- the next word, as it stands among the words
    next_is : next ≡ get_or w (fault_at sh i to_next) 0
    unfolding fault_word
    next_is = n

    pub clear_next : Clearing h w₀ first v next
    clear_next = go a.fuel a.enough a.same
      where
        go : (fuel : ℕ) → length (follow f (next_fault sh w) i) ≤ fuel → clear_words fuel sh w i ≡ clear_words f sh w₀ first → Clearing h w₀ first v next
        go zero b s = absurd (omega (arith, clear_less))
        go (suc fuel) b s =
            record {
              sized = sized;
              ends = behind.1;
              fuel = fuel;
              enough = omega (arith, clear_less);
              same = rw (e₂, e₁, next_is) (sym (clear_step fuel sh w i (omega arith)) ∙ s);
            }

-- a history given back: none, or its cells cleared and put before the free ones

pub give_none : (sh : Shape) (w : List ℕ) (i j : ℕ) → i ≡ 0 → w ≡ give_words sh w i j
unfolding give_words
give_none sh w i j z = rw (eq-eqb i 0 z)

pub give_is : {w : List ℕ} {h : Header} → Sized w h → (i j : ℕ) → (i ≡ 0 → ⊥) → {w₁ w₂ : List ℕ} → w₁ ≡ clear_words h.faults (shape_in h) w i
    → w₂ ≡ set w₁ (fault_at (shape_in h) j to_next) (get_or w free_faults_at 0) → set w₂ free_faults_at i ≡ give_words (shape_in h) w i j
unfolding give_words
give_is s i j ne e₁ e₂ = rw (e₂, e₁, ne_eqb i 0 ne)
