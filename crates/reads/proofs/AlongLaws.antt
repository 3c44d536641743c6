-- A loop that goes along a chain that ends (`Ends`). What it keeps is one record, `Along`: the cells that are left lead on from here, and what
-- they give is what the whole chain gives. Each turn is `along_next`, or `along_stop` where the loop returns; `along_end` is the end. A loop
-- that keeps the last cell starts with 0, for none (`last_after_none`).
use mathlib.Core.Path.{◌≡◌, refl, sym, ◌∙◌}
use mathlib.Core.Bool.{true}
use mathlib.Core.List.{List, [], ◌∷◌}
use Prim.Native.Nat.{ℕ, zero, suc, ◌+◌, ◌≤◌, ◌<◌}
use native.Mathlib.Omega.{arith}
use lib.Dec.{eqb}
use lib.ListN.{length}
use Rattle.rules.proofs.Tests.{by_cases, both}
use Rattle.model.specs.Lists.{between, all}
use Rattle.model.specs.Layout.{last, follow}
use Rattle.model.specs.Meaning.{Leads}
use Rattle.model.proofs.Lists.{between_is}
use Rattle.reads.specs.Chains.{Ends}

-- at cell i, with n cells behind: `left` says what the cells that are left give, which is the answer
pub record Along {A : Type 0} (limit : ℕ) (next : ℕ → ℕ) (first : ℕ) (answer : A) (i n : ℕ) (left : List ℕ → A) : Type 0 where
  pub rest : List ℕ
  pub leads : Leads next i rest
  pub inside : all (between 1 limit) rest ≡ true
  pub count : n + length rest ≡ length (follow limit next first)
  pub same : left rest ≡ answer

pub follow_length : (limit : ℕ) (next : ℕ → ℕ) (h : ℕ) → length (follow limit next h) ≤ limit
unfolding follow
follow_length zero next h = omega arith
follow_length (suc limit) next h = by_cases (eqb h 0) (λ e. rw e (omega arith)) (λ e. rw e (omega (arith, follow_length limit next (next h))))

-- the last of some cells, and of the same behind none
pub last_after_none : (l : List ℕ) → last (0 ∷ l) ≡ last l
unfolding last
last_after_none [] = refl
last_after_none (x ∷ l) = refl

pub last_inside : (n : ℕ) (l : List ℕ) → all (between 1 n) l ≡ true → last l ≤ n
unfolding last
last_inside n [] h = omega arith
last_inside n (x ∷ []) h = ((between_is 1 n x).0 (both (between 1 n x) true h).0).1
last_inside n (x ∷ y ∷ l) h = last_inside n (y ∷ l) (both (between 1 n x) (all (between 1 n) (y ∷ l)) h).1

pub along_start : {A : Type 0} {limit : ℕ} {next : ℕ → ℕ} {first : ℕ} {answer : A} (left : List ℕ → A) → Ends limit next first → left (follow limit next first) ≡ answer
    → Along limit next first answer first 0 left
along_start {limit = limit} {next = next} {first = first} left e s =
    record { rest = follow limit next first; leads = e.leads; inside = e.inside; count = omega arith; same = s }

module _ {A : Type 0} {limit : ℕ} {next : ℕ → ℕ} {first : ℕ} {answer : A} {i n : ℕ} {left : List ℕ → A} (a : Along limit next first answer i n left) where
  pub along_end : i ≡ 0 → left [] ≡ answer
  along_end z = go a.rest a.leads a.inside a.same
    where
      go : (l : List ℕ) → Leads next i l → all (between 1 limit) l ≡ true → left l ≡ answer → left [] ≡ answer
      go [] h b s = s
      go (x ∷ l) h b s = absurd (omega (arith, h.0, (between_is 1 limit x).0 (both (between 1 limit x) (all (between 1 limit) l) b).0))

  module _ (ne : i ≡ 0 → ⊥) where
    -- the cells that are left, cell i first
    record Opened : Type 0 where
      pub tail : List ℕ
      pub leads : Leads next (next i) tail
      pub here : between 1 limit i ≡ true
      pub inside : all (between 1 limit) tail ≡ true
      pub count : n + suc (length tail) ≡ length (follow limit next first)
      pub same : left (i ∷ tail) ≡ answer

    opened : Opened
    opened = go a.rest a.leads a.inside a.count a.same
      where
        go : (l : List ℕ) → Leads next i l → all (between 1 limit) l ≡ true → n + length l ≡ length (follow limit next first) → left l ≡ answer → Opened
        go [] h b c s = absurd (ne h)
        go (x ∷ l) h b c s =
            let d = both (between 1 limit x) (all (between 1 limit) l) b in
            record {
              tail = l;
              leads = rw h.0 h.1;
              here = rw h.0 d.0;
              inside = d.1;
              count = c;
              same = rw h.0 s;
            }

    pub along_from : 1 ≤ i
    along_from = ((between_is 1 limit i).0 opened.here).0

    pub along_to : i ≤ limit
    along_to = ((between_is 1 limit i).0 opened.here).1

    -- the measure: fewer cells are behind than the chain has
    pub along_less : n < length (follow limit next first)
    along_less = omega (arith, opened.count)

    pub along_below : n < limit
    along_below = omega (arith, along_less, follow_length limit next first)

    pub along_stop : (b : A) → ((l : List ℕ) → left (i ∷ l) ≡ b) → b ≡ answer
    along_stop b f = sym (f opened.tail) ∙ opened.same

    pub along_next : (on : List ℕ → A) → ((l : List ℕ) → left (i ∷ l) ≡ on l) → Along limit next first answer (next i) (n + 1) on
    along_next on f =
        record { rest = opened.tail; leads = opened.leads; inside = opened.inside; count = omega (arith, opened.count); same = sym (f opened.tail) ∙ opened.same }
