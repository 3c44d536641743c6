-- The twelve marked examples hold of the written rules: one claim about the whole table, and the law that takes it to each line. Assumes nothing.
use Rattle.std.proofs.Common.{◌≡◌, ℕ, zero, suc, ◌<◌, true, not, List, [], ◌∷◌, length, get_or, refl, arith, eqb-true}
use borrow.Author.Tests.{not-true}
use Rattle.rules.specs.Code.{code_from, code_of}
use Rattle.rules.specs.Table.{top, size_ok, state_ok, bucket_of, address_of, splits, contracts}
use Rattle.rules.specs.Examples.{Example, code_is, address_is, no_state, split_from, contracts_from, Says, holds, all_hold, marked}
use Rattle.rules.proofs.Tests.{both}
use Rattle.rules.proofs.Addresses.{address_bad}

-- the claim
pub marked_hold : all_hold marked ≡ true
unfolding all_hold holds marked code_of code_from address_of bucket_of state_ok size_ok splits contracts
marked_hold = refl

-- the test shows what the line says
says : (e : Example) → holds e ≡ true → Says e
unfolding holds
says (code_is bytes code) h = eqb-true _ _ h
says (address_is code maxp p a) h = eqb-true _ _ h
says (no_state maxp p) h = λ code. address_bad code maxp p (not-true _ h)
says (split_from b n k) h = let t = both (not (splits top 4 n b)) (splits top 4 k b) h in (not-true _ t.0, t.1)
says (contracts_from b n k) h = let t = both (not (contracts 2 n b)) (contracts 2 k b) h in (not-true _ t.0, t.1)

each : (es : List Example) → all_hold es ≡ true → (k : ℕ) (d : Example) → k < length es → Says (get_or es k d)
unfolding all_hold
each [] h k d l = absurd (omega arith)
each (e ∷ es) h zero d l = says e (both (holds e) (all_hold es) h).0
each (e ∷ es) h (suc k) d l = each es (both (holds e) (all_hold es) h).1 k d (omega arith)

-- what line k of the table says, counted from 0
pub marked_say : (k : ℕ) → k < 12 → Says (get_or marked k (no_state 0 0))
unfolding marked
marked_say k l = each marked marked_hold k (no_state 0 0) l
