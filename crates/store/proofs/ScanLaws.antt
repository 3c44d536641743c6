-- The scan of a split or of a contraction, read off the store before the change: the new card, or the withdrawn one, counts where its bucket
-- is the one that is scanned (`grow_scan_lem`, `shrink_scan_lem`).
use mathlib.Core.Path.{◌≡◌, refl, sym}
use mathlib.Core.Bool.{cond}
use mathlib.Core.Logic.{⊎_elim}
use mathlib.Core.List.{List, [], ◌∷◌, ◌++◌}
use Prim.Native.Nat.{ℕ, ◌+◌, ◌-◌}
use native.Mathlib.Omega.{arith}
use borrow.Author.Tests.{eq-eqb, ne_eqb}
use lib.Dec.{eqb}
use lib.ListN.{length, length-append}
use Rattle.rules.proofs.Tests.{eq?}
use Rattle.model.specs.Model.{Store, cards, held, size, bucket, address_in, chain_for, is, new_card, placed, removed, without, split_scan, contract_scan}
use Rattle.model.proofs.Lists.{get_d_set}
use Rattle.model.proofs.Sums.{length_total, total_keep}
use Rattle.model.proofs.Fair.{Fair, one}
use Rattle.model.proofs.Look.{look, address_in_lem}
use Rattle.model.proofs.Steps.{placed_total, removed_total}
use Rattle.store.specs.Plans.{grow_scan, shrink_scan}

module _ (s : Store) (r : Fair s) (y : List ℕ) where
  placed_held : held (placed s y) ≡ held s + 1
  placed_held = omega (arith, length_total (cards (placed s y)), length_total (cards s), placed_total s r y one)

  placed_bucket : (b : ℕ) → length (bucket (placed s y) b) ≡ length (bucket s b) + cond (eqb (address_in s y) b) 1 0
  unfolding placed
  placed_bucket b =
      rw (get_d_set s.buckets (address_in s y) b (chain_for s y ++ (new_card s y ∷ [])) [] (address_in_lem s r y))
      (⊎_elim
      (λ (e : b ≡ address_in s y). rw (eq-eqb b (address_in s y) e, eq-eqb (address_in s y) b (sym e), e) (length-append (chain_for s y) (new_card s y ∷ [])))
      (λ (d : b ≡ address_in s y → ⊥). rw (ne_eqb b (address_in s y) d, ne_eqb (address_in s y) b (λ e. d (sym e))) (omega arith))
      (eq? b (address_in s y)))

  placed_shape : (placed s y).shape ≡ s.shape
  unfolding placed
  placed_shape = refl

  placed_state : (size (placed s y) ≡ size s) × ((placed s y).p ≡ s.p)
  unfolding placed
  placed_state = (refl, refl)

  pub grow_scan_lem : split_scan (placed s y) ≡ grow_scan s (address_in s y)
  unfolding split_scan grow_scan
  grow_scan_lem = rw (placed_held, placed_shape, placed_state.0, placed_state.1, placed_bucket s.p)

  module _ (one_held : length (look s y) ≡ 1) where
    removed_held : held (removed s y) ≡ held s - 1
    removed_held =
        omega (arith, length_total (cards (removed s y)), length_total (cards s), length_total (look s y), removed_total s r y one)

    kept : length (without y (chain_for s y)) ≡ length (chain_for s y) - 1
    kept =
        omega (arith, length_total (without y (chain_for s y)), length_total (chain_for s y), length_total (look s y), total_keep one (is y) (chain_for s y))

    removed_bucket : (b : ℕ) → length (bucket (removed s y) b) ≡ length (bucket s b) - cond (eqb (address_in s y) b) 1 0
    unfolding removed
    removed_bucket b =
        rw (get_d_set s.buckets (address_in s y) b (without y (chain_for s y)) [] (address_in_lem s r y))
        (⊎_elim
        (λ (e : b ≡ address_in s y). rw (eq-eqb b (address_in s y) e, eq-eqb (address_in s y) b (sym e), e) kept)
        (λ (d : b ≡ address_in s y → ⊥). rw (ne_eqb b (address_in s y) d, ne_eqb (address_in s y) b (λ e. d (sym e))) (omega arith))
        (eq? b (address_in s y)))

    removed_shape : (removed s y).shape ≡ s.shape
    unfolding removed
    removed_shape = refl

    removed_size : size (removed s y) ≡ size s
    unfolding removed
    removed_size = refl

    pub shrink_scan_lem : contract_scan (removed s y) ≡ shrink_scan s (address_in s y)
    unfolding contract_scan shrink_scan
    shrink_scan_lem = rw (removed_held, removed_shape, removed_size, removed_bucket (size s - 1))
