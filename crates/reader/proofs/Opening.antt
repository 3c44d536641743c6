-- The store that `depot` opens: its limits and bounds are in range and its length is right, so Open gives a fresh store (`opens_fresh`) and no refusal (`opens_done`).
use Prim.Native.Nat.{ℕ}
use mathlib.Core.Path.{◌≡◌, refl}
use mathlib.Core.Bool.{true}
use mathlib.Core.List.{List}
use native.Mathlib.Omega.{arith}
use lib.ListN.{length}
use Rattle.rules.proofs.Tests.{not_both}
use Rattle.model.specs.Layout.{length_for, limits_ok, bounds_ok, shape_ok, encode}
use Rattle.model.specs.Model.{fresh}
use Rattle.model.specs.Calls.{shape_for, open_call}
use Rattle.model.proofs.Shapes.{limits_fit_lem, bounds_fit}
use Rattle.model.proofs.Outcomes.{terms_ok, open_cases}
use Rattle.std.proofs.Common.{Result, Ok, Err, IsOk, ◌∙◌}
use Rattle.store.specs.Numbers.{number_in}
use Rattle.store.specs.declared.numbers.Refusal.{Refusal}
use Rattle.store.proofs.CallLaws.{refusal_some}
use Rattle.reader.specs.Depot.{depot_terms, depot_shape, opened}

limits : limits_ok depot_shape ≡ true
unfolding shape_for
limits = limits_fit_lem depot_shape (omega arith) (omega arith) (omega arith) (omega arith)

bounds : bounds_ok depot_shape ≡ true
unfolding shape_for
bounds = bounds_fit depot_shape (omega arith) (omega arith) (omega arith) (omega arith)

pub shape : shape_ok depot_shape ≡ true
shape = terms_ok depot_terms limits bounds

pub opens_fresh : (w : List ℕ) → length w ≡ length_for depot_shape → (open_call w depot_terms).words ≡ opened
unfolding opened
opens_fresh w l = open_cases w depot_terms (λ r. r.words ≡ encode (fresh depot_shape)) (λ v. not_both limits v) (λ v u. not_both bounds u) (λ o v n. absurd (n l)) (λ o v e. refl)

-- and it gives no refusal
pub opens_done : (w : List ℕ) → length w ≡ length_for depot_shape → (r : Result (Unit {0}) Refusal) → number_in r ≡ (open_call w depot_terms).number → IsOk r
opens_done w l r e = done r (e ∙ open_cases w depot_terms (λ r. r.number ≡ 0) (λ v. not_both limits v) (λ v u. not_both bounds u) (λ o v n. absurd (n l)) (λ o v e. refl))
  where
    done : (r : Result (Unit {0}) Refusal) → number_in r ≡ 0 → IsOk r
    done (Ok u) z = refl
    done (Err f) z = absurd (refusal_some f z)
