-- What a part of the checker finds right (`part_is`, `is_part`), for marks with none set among the part's own numbers: its free chain and
-- its other chains lead to 0 through cells that fit, each cell of the part stands in exactly one of them, and the cells of the other chains
-- are as many as the header says. It is `Walking` said of the checker's chains: the walks test that cells are within the limit and that
-- none comes twice, and as they count as many as there are, each comes once.
use mathlib.Core.Path.{◌≡◌, sym, ap, subst, ◌∙◌}
use mathlib.Core.Bool.{Bool, true, false, cond, ◌&&◌}
use mathlib.Core.Logic.{⊎_elim}
use mathlib.Core.List.{List, [], ◌++◌, map, map-map, append-nil}
use Prim.Native.Nat.{ℕ, zero, suc, ◌+◌, ◌*◌, ◌<◌, ◌≤◌}
use native.Mathlib.Omega.{arith}
use borrow.Author.Tests.{eqb-true, eq-eqb}
use lib.Dec.{eqb}
use lib.ListN.{length, get_or, length-append}
use Rattle.rules.proofs.Tests.{both, all_of, eq?, lt?}
use Rattle.model.specs.Shape.{Shape, need}
use Rattle.model.specs.Lists.{join, from}
use Rattle.model.specs.Layout.{free_at, free_faults_at, follow, last}
use Rattle.model.specs.Meaning.{times, In, ExactlyOnce, Leads}
use Rattle.model.proofs.Lists.{Every, every_map, map_every}
use Rattle.model.proofs.Sums.{bit, count, total_append}
use Rattle.model.proofs.Walks.{times_count, every_in, in_every, in_one, one_in, marked_once}
use Rattle.checker.specs.Marks.{mark_at}
use Rattle.checker.specs.Walk.{number_of, Out, Start, Tot}
use Rattle.checker.specs.declared.fits.Chain.TheVariants.{Free}
use Rattle.reads.specs.Cells.{limit_of}
use Rattle.checker.specs.Fits.{cell_fits}
use Rattle.checker.specs.Checker.{first_of, end_fits, chain_of, start_of, next_in, base_of, chains_of, free_of, chain_count, held_word, part_of}
use Rattle.checker.proofs.Walking.{Runs, Apart, Seen, Met, Right, read, accepted, accepts, walks_accepted, walks_accept}
use Rattle.checker.proofs.PartLaws.{kept_free}
use Rattle.checker.proofs.OnceLaws.{once_length}

-- the cells of chain j of a part, of all its chains, and of its free chain
abbrev pub chain_in : Shape → List ℕ → Bool → ℕ → List ℕ
chain_in sh w faults j = follow (limit_of sh faults) (next_in sh w faults) (first_of sh w faults j)

abbrev pub chains_in : Shape → List ℕ → Bool → List ℕ
chains_in sh w faults = join (map (chain_in sh w faults) (from 0 (chain_count sh w faults)))

abbrev pub free_head : List ℕ → Bool → ℕ
free_head w faults = get_or w (cond faults free_faults_at free_at) 0

abbrev pub free_in : Shape → List ℕ → Bool → List ℕ
free_in sh w faults = follow (limit_of sh faults) (next_in sh w faults) (free_head w faults)

pub record Part (sh : Shape) (w : List ℕ) (faults : Bool) : Type 0 where
  pub free_chain : Leads (next_in sh w faults) (free_head w faults) (free_in sh w faults)
  pub chain : (j : ℕ) → j < chain_count sh w faults → Leads (next_in sh w faults) (first_of sh w faults j) (chain_in sh w faults j)
  pub cells : ExactlyOnce (limit_of sh faults) (free_in sh w faults ++ chains_in sh w faults)
  pub free_good : (i : ℕ) → In i (free_in sh w faults) → cell_fits sh w faults Free i ≡ true
  pub good : (j i : ℕ) → j < chain_count sh w faults → In i (chain_in sh w faults j) → cell_fits sh w faults (chain_of faults j) i ≡ true
  pub ends : (j : ℕ) → j < chain_count sh w faults → end_fits sh w faults j (length (chain_in sh w faults j)) (last (chain_in sh w faults j)) ≡ true
  pub held : length (chains_in sh w faults) ≡ held_word w faults

-- the same as the walks find it
record Found (sh : Shape) (w : List ℕ) (faults : Bool) : Type 0 where
  free : Runs (cell_fits sh w faults Free) (next_in sh w faults) (limit_of sh faults) (free_head w faults) (free_in sh w faults)
  chains : (j : ℕ) → j < chain_count sh w faults → Right (next_in sh w faults) (limit_of sh faults) (start_of sh w faults j)
  apart : Apart (limit_of sh faults) (chains_in sh w faults) (free_in sh w faults)
  held : length (chains_in sh w faults) ≡ held_word w faults
  full : length (free_in sh w faults) + length (chains_in sh w faults) ≡ limit_of sh faults

module _ (sh : Shape) (w : List ℕ) (faults : Bool) where
  Inside : ℕ → Type 0
  Inside i = (1 ≤ i) × (i ≤ limit_of sh faults)

  -- how often a cell stands in all chains
  times_in : (i : ℕ) → times i (free_in sh w faults ++ chains_in sh w faults) ≡ count i (free_in sh w faults) + count i (chains_in sh w faults)
  times_in i = times_count i (free_in sh w faults ++ chains_in sh w faults) ∙ total_append (λ (x : ℕ). bit (eqb i x)) (free_in sh w faults) (chains_in sh w faults)

  found_part : Found sh w faults → Part sh w faults
  unfolding Inside
  found_part f =
      record {
        free_chain = f.free.leads;
        chain = λ j h. (f.chains j h).runs.leads;
        cells = marked_once (limit_of sh faults) (free_in sh w faults ++ chains_in sh w faults) inside once (length-append (free_in sh w faults) (chains_in sh w faults) ∙ f.full);
        free_good = every_in (λ i. cell_fits sh w faults Free i ≡ true) (free_in sh w faults) f.free.fine;
        good = λ j i h. every_in (λ i. cell_fits sh w faults (chain_of faults j) i ≡ true) (chain_in sh w faults j) (f.chains j h).runs.fine i;
        ends = λ j h. (f.chains j h).fits;
        held = f.held;
      }
    where
      inside : (i : ℕ) → In i (free_in sh w faults ++ chains_in sh w faults) → Inside i
      inside i h =
          ⊎_elim (λ (p : 0 < count i (free_in sh w faults)). every_in Inside (free_in sh w faults) f.free.inside i (omega (arith, times_count i (free_in sh w faults))))
          (λ (p : count i (free_in sh w faults) ≤ 0).
          let (j, l, q) = one_in (chain_in sh w faults) (chain_count sh w faults) i (omega (arith, times_in i, times_count i (chains_in sh w faults))) in
          every_in Inside (chain_in sh w faults j) (f.chains j l).runs.inside i q) (lt? 0 (count i (free_in sh w faults)))

      once : (i : ℕ) → times i (free_in sh w faults ++ chains_in sh w faults) ≤ 1
      once i =
          ⊎_elim (λ (p : 0 < times i (free_in sh w faults ++ chains_in sh w faults)). let (a, b) = inside i p in omega (arith, f.apart i a b, times_in i))
          (λ (p : times i (free_in sh w faults ++ chains_in sh w faults) ≤ 0). omega arith) (lt? 0 (times i (free_in sh w faults ++ chains_in sh w faults)))

  part_found : Part sh w faults → Found sh w faults
  unfolding Inside
  part_found p =
      let in_free : (i : ℕ) → In i (free_in sh w faults) → Inside i =
      λ i q. p.cells.cells i (omega (arith, times_in i, times_count i (free_in sh w faults))) in
      let in_chain : (j i : ℕ) → j < chain_count sh w faults → In i (chain_in sh w faults j) → Inside i =
      λ j i h q. p.cells.cells i (omega (arith, times_in i, times_count i (chains_in sh w faults), in_one (chain_in sh w faults) (chain_count sh w faults) j i h q)) in
      record {
        free = record { leads = p.free_chain; inside = in_every Inside (free_in sh w faults) in_free; fine = in_every _ (free_in sh w faults) p.free_good };
        chains = λ j h. record {
          runs = record {
            leads = p.chain j h;
            inside = in_every Inside (chain_in sh w faults j) (λ i. in_chain j i h);
            fine = in_every _ (chain_in sh w faults j) (λ i. p.good j i h);
          };
          fits = p.ends j h;
        };
        apart = λ x a b. omega (arith, p.cells.once x a b, times_in x);
        held = p.held;
        full = sym (length-append (free_in sh w faults) (chains_in sh w faults)) ∙ once_length (limit_of sh faults) (free_in sh w faults ++ chains_in sh w faults) p.cells;
      }

-- a fact of each number of a run
every_from : (P : ℕ → Type 0) (a n : ℕ) → Every P (from a n) → (j : ℕ) → a ≤ j → j < a + n → P j
every_from P a zero r j l h = absurd (omega arith)
every_from P a (suc n) r j l h =
    ⊎_elim (λ (e : a ≡ j). subst P e r.0) (λ (d : a ≡ j → ⊥). every_from P (suc a) n r.1 j (omega arith) (omega arith)) (eq? a j)

from_every : (P : ℕ → Type 0) (a n : ℕ) → ((j : ℕ) → a ≤ j → j < a + n → P j) → Every P (from a n)
from_every P a zero f = tt
from_every P a (suc n) f = (f a (omega arith) (omega arith), from_every P (suc a) n (λ j l h. f j (omega arith) (omega arith)))

module _ (sh : Shape) (w : List ℕ) (faults : Bool) (bytes : List ℕ) (marks : base_of sh faults + limit_of sh faults ≤ 8 * need sh) (long : need sh ≤ length bytes)
    (none : (k : ℕ) → base_of sh faults ≤ k → k < base_of sh faults + limit_of sh faults → mark_at bytes k ≡ false) where
  abbrev base : ℕ
  base = base_of sh faults

  abbrev limit : ℕ
  limit = limit_of sh faults

  abbrev next : ℕ → ℕ
  next = next_in sh w faults

  abbrev starts : List Start
  starts = map (start_of sh w faults) (from 0 (chain_count sh w faults))

  -- the cells of the starts are those of the chains
  cells_are : join (map (read next limit) starts) ≡ chains_in sh w faults
  cells_are = ap join (map-map (read next limit) (start_of sh w faults) (from 0 (chain_count sh w faults)))

  fresh : Seen base limit bytes []
  fresh x a b = sym (ap bit (none (number_of base x) (omega arith) (omega arith)))

  abbrev free : Out
  free = free_of sh w faults bytes

  abbrev rest : Tot
  rest = chains_of sh w faults (chain_count sh w faults) free.bytes

  free_long : need sh ≤ length free.bytes
  free_long = omega (arith, kept_free sh w faults bytes marks long)

  met : free.ok ≡ true → Met next (need sh) base limit marks (cell_fits sh w faults Free) (free_head w faults) 0 0 (free_in sh w faults) [] free
  unfolding free_of
  met ok = accepted next (need sh) base limit marks (cell_fits sh w faults Free) bytes (free_head w faults) [] long fresh ok

  behind : free.ok ≡ true → Seen base limit free.bytes (free_in sh w faults)
  behind ok = subst (Seen base limit free.bytes) (append-nil (free_in sh w faults)) (met ok).left

  walked : (f : free.ok ≡ true) → rest.ok ≡ true
      → Every (Right next limit) starts × Apart limit (join (map (read next limit) starts)) (free_in sh w faults) × (rest.total ≡ 0 + length (join (map (read next limit) starts)))
  unfolding chains_of
  walked f ok = walks_accepted next (need sh) base limit marks starts free.bytes 0 (free_in sh w faults) free_long (behind f) ok

  found_is : (part_of sh w faults bytes).ok ≡ true → Found sh w faults
  unfolding part_of
  found_is e =
      let a = both free.ok (rest.ok && (eqb rest.total (held_word w faults) && eqb (free.count + rest.total) (limit_of sh faults))) e in
      let b = both rest.ok (eqb rest.total (held_word w faults) && eqb (free.count + rest.total) (limit_of sh faults)) a.1 in
      let c = both (eqb rest.total (held_word w faults)) (eqb (free.count + rest.total) (limit_of sh faults)) b.1 in
      let m = met a.0 in
      let r = walked a.0 b.0 in
      let t : rest.total ≡ length (chains_in sh w faults) = r.2 ∙ omega (arith, ap length cells_are) in
      record {
        free = m.runs;
        chains = λ j h. every_from (λ j. Right next limit (start_of sh w faults j)) 0 (chain_count sh w faults) (every_map (Right next limit) (start_of sh w faults) (from 0 (chain_count sh w faults)) r.0) j (omega arith) (omega arith);
        apart = subst (λ (l : List ℕ). Apart limit l (free_in sh w faults)) cells_are r.1;
        held = sym t ∙ eqb-true rest.total (held_word w faults) c.0;
        full = omega (arith, t, m.counted, eqb-true (free.count + rest.total) (limit_of sh faults) c.1);
      }

  -- and back

  free_ok : Found sh w faults → free.ok ≡ true
  unfolding free_of
  free_ok p = accepts next (need sh) base limit marks (cell_fits sh w faults Free) bytes (free_head w faults) [] long fresh p.free (λ x a b. omega (arith, p.apart x a b))

  rest_ok : Found sh w faults → rest.ok ≡ true
  unfolding chains_of
  rest_ok p =
      walks_accept next (need sh) base limit marks starts free.bytes 0 (free_in sh w faults) free_long (behind (free_ok p))
      (map_every (Right next limit) (start_of sh w faults) (from 0 (chain_count sh w faults)) (from_every (λ j. Right next limit (start_of sh w faults j)) 0 (chain_count sh w faults) (λ j a b. p.chains j (omega arith))))
      (subst (λ (l : List ℕ). Apart limit l (free_in sh w faults)) (sym cells_are) p.apart)

  is_found : Found sh w faults → (part_of sh w faults bytes).ok ≡ true
  unfolding part_of
  is_found p =
      let t : rest.total ≡ length (chains_in sh w faults) = (walked (free_ok p) (rest_ok p)).2 ∙ omega (arith, ap length cells_are) in
      all_of (free_ok p)
      (all_of (rest_ok p)
      (all_of (eq-eqb rest.total (held_word w faults) (t ∙ p.held))
      (eq-eqb (free.count + rest.total) (limit_of sh faults) (omega (arith, t, (met (free_ok p)).counted, p.full)))))

  pub part_is : (part_of sh w faults bytes).ok ≡ true → Part sh w faults
  part_is e = found_part sh w faults (found_is e)

  pub is_part : Part sh w faults → (part_of sh w faults bytes).ok ≡ true
  is_part p = is_found (part_found sh w faults p)
