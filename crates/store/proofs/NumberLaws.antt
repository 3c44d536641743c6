-- The number of an outcome tells it from every other: fifteen refusals have fifteen numbers, and none of them is 0. So two outcomes with one
-- number are one outcome, and so are two with one struct as the C interface has it.
use Rattle.std.proofs.Common.{◌≡◌, refl, sym, ◌∙◌, ap, ℕ, cond, nat_eq, List, [], ◌∷◌, Result, Ok, Err}
use Rattle.store.specs.Numbers.{number_of, number_in}
use Rattle.store.specs.Leaves.{wrote_of}
use Rattle.store.specs.declared.answer.Wrote.{Wrote}
use Rattle.store.specs.declared.numbers.Refusal.{Refusal}
use Rattle.store.specs.declared.numbers.Refusal.TheVariants.{BadLimits, BadLength, NotSound, BadSerial, BadFault, AlreadyHeld, NotHeld, CardsFull, FaultsFull, ShortRoom, ShortScratch, BadLine, LongText, BadStores, BadBounds}

-- the refusal of a number: the first of those that are left, from the first on, whose number it is
among : ℕ → List Refusal → Refusal
among n [] = BadBounds
among n (r ∷ rs) = cond (nat_eq n (number_of r)) r (among n rs)

refusal_of : ℕ → Refusal
refusal_of n = among n (BadLimits ∷ BadLength ∷ NotSound ∷ BadSerial ∷ BadFault ∷ AlreadyHeld ∷ NotHeld ∷ CardsFull ∷ FaultsFull ∷ ShortRoom ∷ ShortScratch ∷ BadLine ∷ LongText ∷ BadStores ∷ [])

-- the outcome of a number, with what was written where it is done
outcome_of : {A : Type 0} → A → ℕ → Result A Refusal
outcome_of a n = cond (nat_eq n 0) (Ok a) (Err (refusal_of n))

refusal_back : {A : Type 0} (a : A) (r : Refusal) → outcome_of a (number_of r) ≡ Err r
unfolding outcome_of refusal_of among
refusal_back a BadLimits = refl
refusal_back a BadLength = refl
refusal_back a NotSound = refl
refusal_back a BadSerial = refl
refusal_back a BadFault = refl
refusal_back a AlreadyHeld = refl
refusal_back a NotHeld = refl
refusal_back a CardsFull = refl
refusal_back a FaultsFull = refl
refusal_back a ShortRoom = refl
refusal_back a ShortScratch = refl
refusal_back a BadLine = refl
refusal_back a LongText = refl
refusal_back a BadStores = refl
refusal_back a BadBounds = refl

in_back : (o : Result (Unit {0}) Refusal) → outcome_of tt (number_in o) ≡ o
unfolding outcome_of
in_back (Ok u) = refl
in_back (Err r) = refusal_back tt r

wrote_back : (o : Result ℕ Refusal) → outcome_of (wrote_of o).count (wrote_of o).number ≡ o
unfolding outcome_of
wrote_back (Ok n) = refl
wrote_back (Err r) = refusal_back 0 r

pub number_tells : (a b : Result (Unit {0}) Refusal) → number_in a ≡ number_in b → a ≡ b
number_tells a b e = sym (in_back a) ∙ ap (outcome_of tt) e ∙ in_back b

pub wrote_tells : (a b : Result ℕ Refusal) → wrote_of a ≡ wrote_of b → a ≡ b
wrote_tells a b e = sym (wrote_back a) ∙ ap (λ (w : Wrote). outcome_of w.count w.number) e ∙ wrote_back b
