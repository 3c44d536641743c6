-- What a walk that accepts means, and walks one after the other. `follow` reads the cells of a chain without marks. Where the marked
-- cells are those of a list `seen`, each standing once in it, a walk accepts exactly where the chain that is read leads to 0, its
-- cells are within the limit and good, and none stands twice in the chain and `seen` together: a cell is refused for its mark exactly
-- where it was met before (`accepted`, `accepts`). Then it counts the chain and names its last cell. So do walks one after the other,
-- over the join of their chains (`walks_accepted`, `walks_accept`).
use mathlib.Core.Path.{◌≡◌, refl, sym, ap, subst, ◌∙◌}
use mathlib.Core.Bool.{Bool, true, false, ◌&&◌, false≢true}
use mathlib.Core.Logic.{⊎_elim}
use mathlib.Core.List.{List, [], ◌∷◌, ◌++◌, map}
use Prim.Native.Nat.{ℕ, zero, suc, ◌+◌, ◌*◌, ◌≤◌}
use native.Mathlib.Omega.{arith}
use lib.Dec.{eqb}
use lib.ListN.{length, length-append}
use Rattle.rules.proofs.Tests.{by_cases, both, all_of, eq?}
use Rattle.model.specs.Lists.{join}
use Rattle.model.specs.Layout.{follow, last}
use Rattle.model.specs.Meaning.{Leads}
use Rattle.model.proofs.Chains.{follow_none, follow_step}
use Rattle.model.proofs.Lists.{Every}
use Rattle.model.proofs.Sums.{bit, bit_le, bit_same, bit_other, count, total_append}
use Rattle.checker.specs.Marks.{mark_at, marked_at}
use Rattle.checker.specs.Walk.{number_of, may_come, Out, accept, walk_from, walk_of, Start, Tot, walk_on, walks_from}
use Rattle.reads.proofs.AlongLaws.{last_after_none}
use Rattle.checker.proofs.MarkLaws.{length_marked, marked_same, marked_other}
use Rattle.checker.proofs.WalkLaws.{may_in, may_new, may_good, tested, walk_end, walk_step, walk_all, kept_walk, walks_end, walks_bad, walks_step}

-- from cell i on, the next words lead through the cells l, which are within the limit and good
pub record Runs (good : ℕ → Bool) (next : ℕ → ℕ) (limit i : ℕ) (l : List ℕ) : Type 0 where
  pub leads : Leads next i l
  pub inside : Every (λ c. (1 ≤ c) × (c ≤ limit)) l
  pub fine : Every (λ c. good c ≡ true) l

-- no cell within the limit stands twice in two lists together
abbrev pub Apart : ℕ → List ℕ → List ℕ → Type 0
Apart limit l seen = (x : ℕ) → 1 ≤ x → x ≤ limit → count x l + count x seen ≤ 1

-- the marked cells are those of a list, each standing once in it
abbrev pub Seen : ℕ → ℕ → List ℕ → List ℕ → Type 0
Seen base limit bytes seen = (x : ℕ) → 1 ≤ x → x ≤ limit → count x seen ≡ bit (mark_at bytes (number_of base x))

module _ (next : ℕ → ℕ) (reach base limit : ℕ) (marks : base + limit ≤ 8 * reach) where
  -- a cell that is marked now is one more of the list
  seen_more : (bytes seen : List ℕ) (i : ℕ) → reach ≤ length bytes → 1 ≤ i → i ≤ limit → mark_at bytes (number_of base i) ≡ false
      → Seen base limit bytes seen → Seen base limit (marked_at bytes (number_of base i)) (i ∷ seen)
  seen_more bytes seen i long a b new s x x₁ xₗ =
      ⊎_elim (λ (e : x ≡ i). here e)
      (λ (d : x ≡ i → ⊥). omega (arith, bit_other x i d, s x x₁ xₗ, ap bit (marked_other bytes (number_of base i) (omega arith) (number_of base x) (λ e. d (omega arith))))) (eq? x i)
    where
      here : x ≡ i → count x (i ∷ seen) ≡ bit (mark_at (marked_at bytes (number_of base i)) (number_of base x))
      here e =
          let m : mark_at bytes (number_of base x) ≡ false = rw e new in
          let n : mark_at (marked_at bytes (number_of base i)) (number_of base x) ≡ true = rw e (marked_same bytes (number_of base i) (omega arith)) in
          omega (arith, bit_same x i e, s x x₁ xₗ, ap bit m, ap bit n)

  -- what a walk that accepts has met, with n cells behind it and l the last
  pub record Met (good : ℕ → Bool) (i n l : ℕ) (cells seen : List ℕ) (o : Out) : Type 0 where
    pub runs : Runs good next limit i cells
    pub apart : Apart limit cells seen
    pub counted : o.count ≡ n + length cells
    pub ended : o.last ≡ last (l ∷ cells)
    pub left : Seen base limit o.bytes (cells ++ seen)

  module _ (good : ℕ → Bool) where
    met_none : (bytes seen : List ℕ) (i n l : ℕ) → i ≡ 0 → Seen base limit bytes seen → Met good i n l [] seen (accept n l bytes)
    unfolding last
    met_none bytes seen i n l z s =
        record {
          runs = record { leads = z; inside = tt; fine = tt };
          apart = λ x a b. omega (arith, s x a b, bit_le (mark_at bytes (number_of base x)));
          counted = omega arith;
          ended = refl;
          left = s;
        }

    met_more : (bytes seen : List ℕ) (i n l : ℕ) (cells : List ℕ) (o : Out) → (i ≡ 0 → ⊥) → may_come good bytes base limit i ≡ true
        → Met good (next i) (n + 1) i cells (i ∷ seen) o → Met good i n l (i ∷ cells) seen o
    unfolding last
    met_more bytes seen i n l cells o ne ok m =
        record {
          runs = record { leads = (refl, m.runs.leads); inside = ((omega arith, may_in good base limit bytes i ok), m.runs.inside); fine = (may_good good base limit bytes i ok, m.runs.fine) };
          apart = λ x a b. omega (arith, m.apart x a b);
          counted = omega (arith, m.counted);
          ended = m.ended;
          left =
              λ x a b. omega (arith, m.left x a b, total_append (λ (y : ℕ). bit (eqb x y)) cells (i ∷ seen), total_append (λ (y : ℕ). bit (eqb x y)) cells seen);
        }

    accepted_from : (f : ℕ) (bytes : List ℕ) (i n l : ℕ) (seen : List ℕ) → reach ≤ length bytes → Seen base limit bytes seen
        → (walk_from f good next base limit bytes i n l).ok ≡ true → Met good i n l (follow f next i) seen (walk_from f good next base limit bytes i n l)
    accepted_from =
        walk_all (λ f bytes i n l o. (seen : List ℕ) → reach ≤ length bytes → Seen base limit bytes seen → o.ok ≡ true → Met good i n l (follow f next i) seen o) good next base limit
        (λ f bytes i n l z seen long s ok. rw (follow_none f next i z) (met_none bytes seen i n l z s))
        (λ f bytes i n l seen long s ok. absurd (false≢true ok))
        (λ f bytes i n l o ne may rest seen long s ok. rw (follow_step f next i ne)
        (met_more bytes seen i n l (follow f next (next i)) o ne may
        (rest (i ∷ seen) (omega (arith, length_marked bytes (number_of base i))) (seen_more bytes seen i long (omega arith) (may_in good base limit bytes i may) (may_new good base limit bytes i may) s) ok)))

    accepts_from : (f : ℕ) (bytes : List ℕ) (i n l : ℕ) (seen : List ℕ) → reach ≤ length bytes → Seen base limit bytes seen
        → Runs good next limit i (follow f next i) → Apart limit (follow f next i) seen → (walk_from f good next base limit bytes i n l).ok ≡ true
    unfolding follow
    accepts_from zero bytes i n l seen long s r a = rw (walk_end good next base limit bytes i n l zero r.leads)
    accepts_from (suc f) bytes i n l seen long s r a =
        ⊎_elim (λ (z : i ≡ 0). ap (λ (o : Out). o.ok) (walk_end good next base limit bytes i n l (suc f) z))
        (λ (ne : i ≡ 0 → ⊥). go ne (subst (Runs good next limit i) (follow_step f next i ne) r) (subst (λ (l : List ℕ). Apart limit l seen) (follow_step f next i ne) a)
        (accepts_from f (marked_at bytes (number_of base i)) (next i) (n + 1) i (i ∷ seen))) (eq? i 0)
      where
        unmarked : (t : Bool) → bit t ≡ 0 → t ≡ false
        unmarked true e = absurd (omega arith)
        unmarked false e = refl

        go : (i ≡ 0 → ⊥) → Runs good next limit i (i ∷ follow f next (next i)) → Apart limit (i ∷ follow f next (next i)) seen
            → (reach ≤ length (marked_at bytes (number_of base i)) → Seen base limit (marked_at bytes (number_of base i)) (i ∷ seen)
            → Runs good next limit (next i) (follow f next (next i)) → Apart limit (follow f next (next i)) (i ∷ seen)
            → (walk_from f good next base limit (marked_at bytes (number_of base i)) (next i) (n + 1) i).ok ≡ true)
            → (walk_from (suc f) good next base limit bytes i n l).ok ≡ true
        go ne r a rest =
            let (i₁, iₗ) = r.inside.0 in
            let new : mark_at bytes (number_of base i) ≡ false = unmarked (mark_at bytes (number_of base i)) (omega (arith, a i i₁ iₗ, s i i₁ iₗ, bit_same i i refl)) in
            let may : may_come good bytes base limit i ≡ true = sym (tested good base limit bytes i iₗ (sym new)) ∙ r.fine.0 in
            ap (λ (o : Out). o.ok) (walk_step good next base limit bytes i n l f ne may)
            ∙ rest (omega (arith, length_marked bytes (number_of base i))) (seen_more bytes seen i long i₁ iₗ new s)
            (record { leads = r.leads.1; inside = r.inside.1; fine = r.fine.1 }) (λ x p q. omega (arith, a x p q))

    -- a walk that accepts met the cells that are read from its first one, and no other
    pub accepted : (bytes : List ℕ) (first : ℕ) (seen : List ℕ) → reach ≤ length bytes → Seen base limit bytes seen → (walk_of good next base limit bytes first).ok ≡ true
        → Met good first 0 0 (follow limit next first) seen (walk_of good next base limit bytes first)
    unfolding walk_of
    accepted bytes first seen long s ok = accepted_from limit bytes first 0 0 seen long s ok

    pub accepts : (bytes : List ℕ) (first : ℕ) (seen : List ℕ) → reach ≤ length bytes → Seen base limit bytes seen
        → Runs good next limit first (follow limit next first) → Apart limit (follow limit next first) seen → (walk_of good next base limit bytes first).ok ≡ true
    unfolding walk_of
    accepts bytes first seen long s r a = accepts_from limit bytes first 0 0 seen long s r a

-- the cells of a chain to walk, and what they have to be
abbrev pub read : (ℕ → ℕ) → ℕ → Start → List ℕ
read next limit s = follow limit next s.first

pub record Right (next : ℕ → ℕ) (limit : ℕ) (s : Start) : Type 0 where
  pub runs : Runs s.good next limit s.first (read next limit s)
  pub fits : s.fits (length (read next limit s)) (last (read next limit s)) ≡ true

module _ (next : ℕ → ℕ) (reach base limit : ℕ) (marks : base + limit ≤ 8 * reach) where
  -- the test behind a walk, of what the walk answers and of what is read
  fits_is : (bytes : List ℕ) (s : Start) (seen : List ℕ) → Met next reach base limit marks s.good s.first 0 0 (read next limit s) seen (walk_on next base limit bytes s)
      → s.fits (walk_on next base limit bytes s).count (walk_on next base limit bytes s).last ≡ s.fits (length (read next limit s)) (last (read next limit s))
  fits_is bytes s seen m =
      let c : (walk_on next base limit bytes s).count ≡ length (read next limit s) = omega (arith, m.counted) in
      let l : (walk_on next base limit bytes s).last ≡ last (read next limit s) = m.ended ∙ last_after_none (read next limit s) in
      λ i. s.fits (c i) (l i)

  pub walks_accepted : (ss : List Start) (bytes : List ℕ) (n : ℕ) (seen : List ℕ) → reach ≤ length bytes → Seen base limit bytes seen → (walks_from next base limit ss bytes n).ok ≡ true
      → Every (Right next limit) ss × Apart limit (join (map (read next limit) ss)) seen × ((walks_from next base limit ss bytes n).total ≡ n + length (join (map (read next limit) ss)))
  walks_accepted [] bytes n seen long s ok =
      (tt, λ x a b. omega (arith, s x a b, bit_le (mark_at bytes (number_of base x))), ap (λ (t : Tot). t.total) (walks_end next base limit bytes n) ∙ omega arith)
  walks_accepted (c ∷ cs) bytes n seen long s ok =
      let o = walk_on next base limit bytes c in
      by_cases (o.ok && c.fits o.count o.last)
      (λ e.
      let t = both o.ok (c.fits o.count o.last) e in
      let m = accepted next reach base limit marks c.good bytes c.first seen long s t.0 in
      let step = walks_step next base limit c cs bytes n e in
      let r = walks_accepted cs o.bytes (n + o.count) (read next limit c ++ seen) (omega (arith, kept_walk reach base limit marks c.good next bytes c.first long)) m.left
      (sym (ap (λ (t : Tot). t.ok) step) ∙ ok) in (
        (record { runs = m.runs; fits = sym (fits_is bytes c seen m) ∙ t.1 }, r.0),
        λ x a b. omega (arith, r.1 x a b, total_append (λ (y : ℕ). bit (eqb x y)) (read next limit c) seen, total_append (λ (y : ℕ). bit (eqb x y)) (read next limit c) (join (map (read next limit) cs))),
        ap (λ (t : Tot). t.total) step ∙ omega (arith, r.2, m.counted, length-append (read next limit c) (join (map (read next limit) cs))),
      ))
      (λ e. absurd (false≢true (sym (ap (λ (t : Tot). t.ok) (walks_bad next base limit c cs bytes n e)) ∙ ok)))

  pub walks_accept : (ss : List Start) (bytes : List ℕ) (n : ℕ) (seen : List ℕ) → reach ≤ length bytes → Seen base limit bytes seen
      → Every (Right next limit) ss → Apart limit (join (map (read next limit) ss)) seen → (walks_from next base limit ss bytes n).ok ≡ true
  walks_accept [] bytes n seen long s r a = ap (λ (t : Tot). t.ok) (walks_end next base limit bytes n)
  walks_accept (c ∷ cs) bytes n seen long s r a =
      let o = walk_on next base limit bytes c in
      let here : (x : ℕ) → count x (read next limit c ++ join (map (read next limit) cs)) ≡ count x (read next limit c) + count x (join (map (read next limit) cs)) =
      λ x. total_append (λ (y : ℕ). bit (eqb x y)) (read next limit c) (join (map (read next limit) cs)) in
      let ok = accepts next reach base limit marks c.good bytes c.first seen long s r.0.runs (λ x p q. omega (arith, a x p q, here x)) in
      let m = accepted next reach base limit marks c.good bytes c.first seen long s ok in
      ap (λ (t : Tot). t.ok) (walks_step next base limit c cs bytes n (all_of ok (fits_is bytes c seen m ∙ r.0.fits)))
      ∙ walks_accept cs o.bytes (n + o.count) (read next limit c ++ seen) (omega (arith, kept_walk reach base limit marks c.good next bytes c.first long)) m.left r.1
      (λ x p q. omega (arith, a x p q, here x, total_append (λ (y : ℕ). bit (eqb x y)) (read next limit c) seen))
