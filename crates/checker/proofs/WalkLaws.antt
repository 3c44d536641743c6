-- Laws of walks over marks. A walk marks each cell it meets and meets no marked one, so each step takes one of the numbers that are
-- left (`room`): the walk ends within the limit, whatever words it reads, and what it counts is what it takes (`room_walk`). What a
-- loop keeps is one equation: the walk answers from here what it answers from the start (`Going`; `Holding` for walks one after the
-- other). Whatever a walk answers, it changes no byte behind those of its marks and no mark outside its own numbers (`Kept`).
use mathlib.Core.Path.{◌≡◌, refl, sym, ap, subst, ◌∙◌}
use mathlib.Core.Bool.{Bool, true, false, cond, not, ◌&&◌, false≢true}
use mathlib.Core.Logic.{◌⊎◌, inl, inr, ⊎_elim}
use mathlib.Core.List.{List, [], ◌∷◌, map}
use Prim.Native.Nat.{ℕ, zero, suc, ◌+◌, ◌-◌, ◌*◌, ◌/◌, ◌<◌, ◌≤◌}
use native.Mathlib.Omega.{arith}
use borrow.Author.Tests.{eq-eqb, ne_eqb, lt-leb, le-leb, leb-true, not-true}
use lib.Dec.{leb}
use lib.ListN.{length, drop}
use Rattle.rules.proofs.Tests.{by_cases, both, eq?}
use Rattle.model.specs.Lists.{from}
use Rattle.checker.specs.Marks.{mark_at, marked_at}
use Rattle.checker.specs.Walk.{number_of, may_come, Out, accept, refuse, walk_from, walk_of, Start, Tot, walk_on, walks_from, Did, DidAll}
use Rattle.checker.proofs.MarkLaws.{length_marked, rest_marked, marked_same, marked_other}

-- how many of the numbers base .. base + l - 1 are not marked
abbrev pub room : ℕ → ℕ → List ℕ → ℕ
room base zero bytes = zero
room base (suc l) bytes = cond (mark_at bytes (base + l)) 0 1 + room base l bytes

one_le : (b : Bool) → cond {A = ℕ} b 0 1 ≤ 1
one_le true = omega arith
one_le false = omega arith

pub room_le : (base l : ℕ) (bytes : List ℕ) → room base l bytes ≤ l
room_le base zero bytes = omega arith
room_le base (suc l) bytes = omega (arith, one_le (mark_at bytes (base + l)), room_le base l bytes)

room_same : (base l j : ℕ) (bytes : List ℕ) → (base + j) / 8 < length bytes → l ≤ j → room base l (marked_at bytes (base + j)) ≡ room base l bytes
room_same base zero j bytes h le = refl
room_same base (suc l) j bytes h le =
    rw (marked_other bytes (base + j) h (base + l) (λ e. omega arith), room_same base l j bytes h (omega arith))

-- a mark takes one
pub room_mark : (base l j : ℕ) (bytes : List ℕ) → (base + j) / 8 < length bytes → j < l → mark_at bytes (base + j) ≡ false
    → room base l bytes ≡ suc (room base l (marked_at bytes (base + j)))
room_mark base zero j bytes h lt new = absurd (omega arith)
room_mark base (suc l) j bytes h lt new = ⊎_elim last (λ (ne : l ≡ j → ⊥). before ne (room_mark base l j bytes h (omega arith) new)) (eq? l j)
  where
    last : l ≡ j → room base (suc l) bytes ≡ suc (room base (suc l) (marked_at bytes (base + j)))
    last e = rw (e, new, marked_same bytes (base + j) h, room_same base j j bytes h (omega arith)) (omega arith)

    before : (l ≡ j → ⊥) → room base l bytes ≡ suc (room base l (marked_at bytes (base + j))) → room base (suc l) bytes ≡ suc (room base (suc l) (marked_at bytes (base + j)))
    before ne r = rw (marked_other bytes (base + j) h (base + l) (λ e. ne (omega arith)), r) (omega arith)

-- the tests of a cell

module _ (good : ℕ → Bool) (base limit : ℕ) (bytes : List ℕ) (i : ℕ) where
  may_parts : may_come good bytes base limit i ≡ true → (leb i limit ≡ true) × (not (mark_at bytes (number_of base i)) ≡ true) × (good i ≡ true)
  unfolding may_come
  may_parts e =
      let a = both (leb i limit) (not (mark_at bytes (number_of base i)) && good i) e in
      let b = both (not (mark_at bytes (number_of base i))) (good i) a.1 in
      (a.0, b.0, b.1)

  -- what a passed test tells
  pub may_in : may_come good bytes base limit i ≡ true → i ≤ limit
  may_in e = leb-true i limit (may_parts e).0

  pub may_new : may_come good bytes base limit i ≡ true → mark_at bytes (number_of base i) ≡ false
  may_new e = not-true (mark_at bytes (number_of base i)) (may_parts e).1

  pub may_good : may_come good bytes base limit i ≡ true → good i ≡ true
  may_good e = (may_parts e).2

  -- what a function that tests a cell answers at each of its returns
  pub over : limit < i → false ≡ may_come good bytes base limit i
  unfolding may_come
  over h = rw (lt-leb i limit h)

  pub marked : i ≤ limit → true ≡ mark_at bytes (number_of base i) → false ≡ may_come good bytes base limit i
  unfolding may_come
  marked h m = rw (le-leb i limit h, ← m)

  pub tested : i ≤ limit → false ≡ mark_at bytes (number_of base i) → good i ≡ may_come good bytes base limit i
  unfolding may_come
  tested h m = rw (le-leb i limit h, ← m)

-- one walk by its steps

module _ (good : ℕ → Bool) (next : ℕ → ℕ) (base limit : ℕ) (bytes : List ℕ) (i n l : ℕ) where
  pub walk_end : (f : ℕ) → i ≡ 0 → walk_from f good next base limit bytes i n l ≡ accept n l bytes
  unfolding walk_from
  walk_end zero e = rw (eq-eqb i 0 e)
  walk_end (suc f) e = rw (eq-eqb i 0 e)

  pub walk_out : (i ≡ 0 → ⊥) → walk_from 0 good next base limit bytes i n l ≡ refuse bytes
  unfolding walk_from
  walk_out ne = rw (ne_eqb i 0 ne)

  pub walk_bad : (f : ℕ) → (i ≡ 0 → ⊥) → may_come good bytes base limit i ≡ false → walk_from f good next base limit bytes i n l ≡ refuse bytes
  unfolding walk_from
  walk_bad zero ne bad = rw (ne_eqb i 0 ne)
  walk_bad (suc f) ne bad = rw (ne_eqb i 0 ne, bad)

  pub walk_step : (f : ℕ) → (i ≡ 0 → ⊥) → may_come good bytes base limit i ≡ true
      → walk_from (suc f) good next base limit bytes i n l ≡ walk_from f good next base limit (marked_at bytes (number_of base i)) (next i) (n + 1) i
  unfolding walk_from
  walk_step f ne ok = rw (ne_eqb i 0 ne, ok)

-- what a loop that walks keeps: what the walk answers from here is what it answers from the start
pub record Going (good : ℕ → Bool) (next : ℕ → ℕ) (bytes₀ : List ℕ) (base limit first : ℕ) (bytes : List ℕ) (i n l : ℕ) : Type 0 where
  pub long : length bytes ≡ length bytes₀
  pub left : n + room base limit bytes ≤ limit
  pub same : walk_from (limit - n) good next base limit bytes i n l ≡ walk_of good next base limit bytes₀ first

pub start : (good : ℕ → Bool) (next : ℕ → ℕ) (bytes : List ℕ) (base limit first : ℕ) → Going good next bytes base limit first bytes first 0 0
unfolding walk_of
start good next bytes base limit first =
    record {
      long = refl;
      left = omega (arith, room_le base limit bytes);
      same = ap (λ (f : ℕ). walk_from f good next base limit bytes first 0 0) (let e : limit - 0 ≡ limit = omega arith in e);
    }

module _ (good : ℕ → Bool) (next : ℕ → ℕ) (bytes₀ : List ℕ) (base limit first : ℕ) (bytes : List ℕ) (i n l : ℕ) (g : Going good next bytes₀ base limit first bytes i n l) where
  -- where the walk answers, that is what it answers from the start
  pub answers : (ok : Bool) (count last : ℕ) → walk_from (limit - n) good next base limit bytes i n l ≡ record { ok = ok; count = count; last = last; bytes = bytes }
      → Did (walk_of good next base limit bytes₀ first) ok count last bytes
  answers ok count last e =
      let e' = sym g.same ∙ e in
      record { ok_is = sym (ap (λ (o : Out). o.ok) e'); count_is = sym (ap (λ (o : Out). o.count) e'); last_is = sym (ap (λ (o : Out). o.last) e'); left_is = sym (ap (λ (o : Out). o.bytes) e') }

  module _ {reach : ℕ} (marks : base + limit ≤ 8 * reach) (scratch : reach ≤ length bytes₀) (ne : i ≡ 0 → ⊥) (ok : may_come good bytes base limit i ≡ true) where
    taken : room base limit bytes ≡ suc (room base limit (marked_at bytes (number_of base i)))
    taken = room_mark base limit (i - 1) bytes (omega (arith, may_in good base limit bytes i ok)) (omega (arith, may_in good base limit bytes i ok)) (may_new good base limit bytes i ok)

    -- the measure: at each cell that may come, fewer than the limit are behind
    pub below : n < limit
    below = omega (arith, taken)

    pub goes_on : Going good next bytes₀ base limit first (marked_at bytes (number_of base i)) (next i) (n + 1) i
    goes_on =
        record {
          long = length_marked bytes (number_of base i) ∙ g.long;
          left = omega (arith, taken);
          same = sym (walk_step good next base limit bytes i n l (limit - (n + 1)) ne ok) ∙ ap (λ (f : ℕ). walk_from f good next base limit bytes i n l) (let e : suc (limit - (n + 1)) ≡ limit - n = omega (arith, below) in e) ∙ g.same;
        }

-- a fact of a walk with f cells at most before it, by its steps: where it ends, where it stops, and where a cell came and the walk behind
-- it has the fact
pub walk_all {ℓ} : (P : ℕ → List ℕ → ℕ → ℕ → ℕ → Out → Type ℓ) (good : ℕ → Bool) (next : ℕ → ℕ) (base limit : ℕ)
    → ((f : ℕ) (bytes : List ℕ) (i n l : ℕ) → i ≡ 0 → P f bytes i n l (accept n l bytes))
    → ((f : ℕ) (bytes : List ℕ) (i n l : ℕ) → P f bytes i n l (refuse bytes))
    → ((f : ℕ) (bytes : List ℕ) (i n l : ℕ) (o : Out) → (i ≡ 0 → ⊥) → may_come good bytes base limit i ≡ true → P f (marked_at bytes (number_of base i)) (next i) (n + 1) i o → P (suc f) bytes i n l o)
    → (f : ℕ) (bytes : List ℕ) (i n l : ℕ) → P f bytes i n l (walk_from f good next base limit bytes i n l)
walk_all P good next base limit ends stops goes zero bytes i n l =
    ⊎_elim (λ (z : i ≡ 0). subst (P zero bytes i n l) (sym (walk_end good next base limit bytes i n l zero z)) (ends zero bytes i n l z))
    (λ (ne : i ≡ 0 → ⊥). subst (P zero bytes i n l) (sym (walk_out good next base limit bytes i n l ne)) (stops zero bytes i n l)) (eq? i 0)
walk_all P good next base limit ends stops goes (suc f) bytes i n l =
    let rest = walk_all P good next base limit ends stops goes f (marked_at bytes (number_of base i)) (next i) (n + 1) i in
    ⊎_elim (λ (z : i ≡ 0). subst (P (suc f) bytes i n l) (sym (walk_end good next base limit bytes i n l (suc f) z)) (ends (suc f) bytes i n l z))
    (λ (ne : i ≡ 0 → ⊥). by_cases (may_come good bytes base limit i)
    (λ ok. subst (P (suc f) bytes i n l) (sym (walk_step good next base limit bytes i n l f ne ok)) (goes f bytes i n l _ ne ok rest))
    (λ bad. subst (P (suc f) bytes i n l) (sym (walk_bad good next base limit bytes i n l (suc f) ne bad)) (stops (suc f) bytes i n l))) (eq? i 0)

-- what a walk whose marks stand in the first `reach` bytes keeps, whatever it answers
pub record Kept (reach base limit : ℕ) (bytes left : List ℕ) : Type 0 where
  pub long : length left ≡ length bytes
  pub rest : drop reach left ≡ drop reach bytes
  pub apart : (k : ℕ) → (k < base) ⊎ (base + limit ≤ k) → mark_at left k ≡ mark_at bytes k

pub kept_none : (reach base limit : ℕ) (bytes : List ℕ) → Kept reach base limit bytes bytes
kept_none reach base limit bytes = record { long = refl; rest = refl; apart = λ k h. refl }

pub kept_both : (reach base limit : ℕ) (a b c : List ℕ) → Kept reach base limit a b → Kept reach base limit b c → Kept reach base limit a c
kept_both reach base limit a b c p q = record { long = q.long ∙ p.long; rest = q.rest ∙ p.rest; apart = λ k h. q.apart k h ∙ p.apart k h }

module _ (reach base limit : ℕ) (marks : base + limit ≤ 8 * reach) where
  kept_mark : (bytes : List ℕ) (i : ℕ) → reach ≤ length bytes → (i ≡ 0 → ⊥) → i ≤ limit → Kept reach base limit bytes (marked_at bytes (number_of base i))
  kept_mark bytes i scratch ne h =
      record {
        long = length_marked bytes (number_of base i);
        rest = rest_marked bytes (number_of base i) reach (omega arith);
        apart = λ k out. marked_other bytes (number_of base i) (omega arith) k (λ e. outside k e out);
      }
    where
      outside : (k : ℕ) → k ≡ number_of base i → (k < base) ⊎ (base + limit ≤ k) → ⊥
      outside k e (inl a) = omega arith
      outside k e (inr a) = omega arith

  module _ (good : ℕ → Bool) (next : ℕ → ℕ) where
    pub kept_walk : (bytes : List ℕ) (first : ℕ) → reach ≤ length bytes → Kept reach base limit bytes (walk_of good next base limit bytes first).bytes
    unfolding walk_of
    kept_walk bytes first =
        walk_all (λ f bytes i n l o. reach ≤ length bytes → Kept reach base limit bytes o.bytes) good next base limit
        (λ f bytes i n l z scratch. kept_none reach base limit bytes)
        (λ f bytes i n l scratch. kept_none reach base limit bytes)
        (λ f bytes i n l o ne ok rest scratch.
        let h = kept_mark bytes i scratch ne (may_in good base limit bytes i ok) in
        kept_both reach base limit bytes (marked_at bytes (number_of base i)) o.bytes h (rest (omega arith)))
        limit bytes first 0 0

    -- a walk that accepts takes as many of the numbers as it counts
    pub room_walk : (bytes : List ℕ) (first : ℕ) → reach ≤ length bytes → (walk_of good next base limit bytes first).ok ≡ true
        → room base limit bytes ≡ (walk_of good next base limit bytes first).count + room base limit (walk_of good next base limit bytes first).bytes
    unfolding walk_of
    room_walk bytes first scratch ok =
        let r =
        walk_all (λ f bytes i n l o. reach ≤ length bytes → o.ok ≡ true → n + room base limit bytes ≡ o.count + room base limit o.bytes) good next base limit
        (λ f bytes i n l z scratch ok. refl)
        (λ f bytes i n l scratch ok. absurd (false≢true ok))
        (λ f bytes i n l o ne ok rest scratch e.
        let b = may_in good base limit bytes i ok in
        omega (arith, room_mark base limit (i - 1) bytes (omega arith) (omega arith) (may_new good base limit bytes i ok), rest (omega (arith, length_marked bytes (number_of base i))) e))
        limit bytes first 0 0 scratch ok in
        omega arith

-- walks one after the other

module _ (next : ℕ → ℕ) (base limit : ℕ) where
  module _ (s : Start) (ss : List Start) (bytes : List ℕ) (n : ℕ) where
    pub walks_bad : ((walk_on next base limit bytes s).ok && s.fits (walk_on next base limit bytes s).count (walk_on next base limit bytes s).last) ≡ false
        → walks_from next base limit (s ∷ ss) bytes n ≡ record { ok = false; total = 0; bytes = (walk_on next base limit bytes s).bytes }
    unfolding walks_from
    walks_bad e = rw e

    pub walks_step : ((walk_on next base limit bytes s).ok && s.fits (walk_on next base limit bytes s).count (walk_on next base limit bytes s).last) ≡ true
        → walks_from next base limit (s ∷ ss) bytes n ≡ walks_from next base limit ss (walk_on next base limit bytes s).bytes (n + (walk_on next base limit bytes s).count)
    unfolding walks_from
    walks_step e = rw e

  pub walks_end : (bytes : List ℕ) (n : ℕ) → walks_from next base limit [] bytes n ≡ record { ok = true; total = n; bytes = bytes }
  unfolding walks_from
  walks_end bytes n = refl

  -- whatever they answer, walks keep what one keeps
  pub kept_walks : (reach : ℕ) → base + limit ≤ 8 * reach → (ss : List Start) (bytes : List ℕ) (n : ℕ) → reach ≤ length bytes → Kept reach base limit bytes (walks_from next base limit ss bytes n).bytes
  kept_walks reach marks [] bytes n scratch = rw (walks_end bytes n) (kept_none reach base limit bytes)
  kept_walks reach marks (s ∷ ss) bytes n scratch =
      let o = walk_on next base limit bytes s in
      let k = kept_walk reach base limit marks s.good next bytes s.first scratch in
      by_cases (o.ok && s.fits o.count o.last)
      (λ e. rw (walks_step s ss bytes n e) (kept_both reach base limit bytes o.bytes _ k (kept_walks reach marks ss o.bytes (n + o.count) (omega arith))))
      (λ e. rw (walks_bad s ss bytes n e) k)

-- what a loop over the chains start j, start (j + 1), .. keeps: what the walks answer from here is what they answer from the start
pub record Holding (chain : ℕ → Start) (next : ℕ → ℕ) (bytes₀ : List ℕ) (base limit held : ℕ) (bytes : List ℕ) (j total : ℕ) : Type 0 where
  pub within : j ≤ held
  pub long : length bytes ≡ length bytes₀
  pub left : total + room base limit bytes ≤ limit
  pub same : walks_from next base limit (map chain (from j (held - j))) bytes total ≡ walks_from next base limit (map chain (from 0 held)) bytes₀ 0

pub begins : (chain : ℕ → Start) (next : ℕ → ℕ) (bytes : List ℕ) (base limit held : ℕ) → Holding chain next bytes base limit held bytes 0 0
begins chain next bytes base limit held =
    record {
      within = omega arith;
      long = refl;
      left = omega (arith, room_le base limit bytes);
      same = ap (λ (f : ℕ). walks_from next base limit (map chain (from 0 f)) bytes 0) (let e : held - 0 ≡ held = omega arith in e);
    }

module _ (chain : ℕ → Start) (next : ℕ → ℕ) (bytes₀ : List ℕ) (base limit held : ℕ) (bytes : List ℕ) (j total : ℕ) (g : Holding chain next bytes₀ base limit held bytes j total) where
  told : (ok : Bool) (n : ℕ) (left : List ℕ) → walks_from next base limit (map chain (from j (held - j))) bytes total ≡ record { ok = ok; total = n; bytes = left }
      → DidAll (walks_from next base limit (map chain (from 0 held)) bytes₀ 0) ok n left
  told ok n left e =
      let e' = sym g.same ∙ e in
      record { ok_is = sym (ap (λ (o : Tot). o.ok) e'); total_is = sym (ap (λ (o : Tot). o.total) e'); left_is = sym (ap (λ (o : Tot). o.bytes) e') }

  pub ends : held ≤ j → DidAll (walks_from next base limit (map chain (from 0 held)) bytes₀ 0) true total bytes
  ends h =
      told true total bytes
      (ap (λ (f : ℕ). walks_from next base limit (map chain (from j f)) bytes total) (let e : held - j ≡ 0 = omega arith in e) ∙ walks_end next base limit bytes total)

  module _ (lt : j < held) (ok : Bool) (n l : ℕ) (left : List ℕ) (d : Did (walk_on next base limit bytes (chain j)) ok n l left) where
    one_more : walks_from next base limit (map chain (from j (suc (held - (j + 1))))) bytes total ≡ walks_from next base limit (map chain (from j (held - j))) bytes total
    one_more = ap (λ (f : ℕ). walks_from next base limit (map chain (from j f)) bytes total) (let e : suc (held - (j + 1)) ≡ held - j = omega arith in e)

    -- what the program has of a walk, for what the definition has
    same_fits : (b : Bool) → (ok && (chain j).fits n l) ≡ b
        → ((walk_on next base limit bytes (chain j)).ok && (chain j).fits (walk_on next base limit bytes (chain j)).count (walk_on next base limit bytes (chain j)).last) ≡ b
    same_fits b e = (λ i. sym d.ok_is i && (chain j).fits (sym d.count_is i) (sym d.last_is i)) ∙ e

    pub refuses : (ok && (chain j).fits n l) ≡ false → DidAll (walks_from next base limit (map chain (from 0 held)) bytes₀ 0) false 0 left
    refuses e =
        told false 0 left
        (sym one_more ∙ walks_bad next base limit (chain j) (map chain (from (suc j) (held - (j + 1)))) bytes total (same_fits false e)
        ∙ ap (λ (b : List ℕ). record { ok = false; total = 0; bytes = b }) (sym d.left_is))

    module _ {reach : ℕ} (marks : base + limit ≤ 8 * reach) (scratch : reach ≤ length bytes₀) where
      pub kept_long : length left ≡ length bytes₀
      kept_long = ap length d.left_is ∙ (kept_walk reach base limit marks (chain j).good next bytes (chain j).first (omega arith)).long ∙ g.long

      module _ (e : (ok && (chain j).fits n l) ≡ true) where
        spent : room base limit bytes ≡ n + room base limit left
        spent =
            rw (d.count_is, d.left_is)
            (room_walk reach base limit marks (chain j).good next bytes (chain j).first (omega arith) (sym d.ok_is ∙ (both ok ((chain j).fits n l) e).0))

        pub total_le : total + n ≤ limit
        total_le = omega (arith, spent)

        pub carries_on : Holding chain next bytes₀ base limit held left (j + 1) (total + n)
        carries_on =
            record {
              within = omega arith;
              long = kept_long;
              left = omega (arith, spent);
              same =
                  rw (d.left_is, d.count_is)
                  (ap (λ (k : ℕ). walks_from next base limit (map chain (from k (held - (j + 1)))) (walk_on next base limit bytes (chain j)).bytes (total + (walk_on next base limit bytes (chain j)).count)) (let e : j + 1 ≡ suc j = omega arith in e)
                  ∙ sym (walks_step next base limit (chain j) (map chain (from (suc j) (held - (j + 1)))) bytes total (same_fits true e)) ∙ one_more ∙ g.same);
            }
