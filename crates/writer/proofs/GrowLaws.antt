-- The words of a fair store are those that stand for it (`fairly_rep`, `rep_fairly`). So their header is right, where the load asks for a
-- split or a contraction it may be made (`may_split`, `may_join`), and the words then are those of the store grown or shrunk (`grow_yes`, `grow_no`,
-- `shrink_yes`, `shrink_no`).
use mathlib.Core.Path.{◌≡◌, sym, ap, subst, ◌∙◌}
use mathlib.Core.Bool.{true, false}
use mathlib.Core.List.{List}
use Prim.Native.Nat.{ℕ, ◌+◌, ◌≤◌, ◌<◌}
use native.Mathlib.Omega.{arith}
use lib.ListN.{get_or}
use Rattle.rules.specs.Table.{splits, contracts, low_p}
use Rattle.rules.proofs.Loads.{splits_true}
use Rattle.rules.proofs.States.{State, state_of, size_low}
use Rattle.model.specs.Shape.{Shape}
use Rattle.model.specs.Model.{Store, grown, shrunk}
use Rattle.model.specs.Layout.{held_at, fair, encode, decode}
use Rattle.model.specs.Meaning.{next_card, bucket_word}
use Rattle.model.specs.Words.{split_words, join_words, grow_words, shrink_words}
use Rattle.model.proofs.Fair.{fair_is, is_fair}
use Rattle.model.proofs.Rep.{Rep, rep_encode, rep_words}
use Rattle.model.proofs.Decode.{rep_decode}
use Rattle.model.proofs.Split.{rep_grown}
use Rattle.model.proofs.Join.{rep_shrunk}
use Rattle.reads.specs.declared.header.Header.{Header}
use Rattle.reads.specs.Cells.{shape_in, Read}
use Rattle.reads.specs.Chains.{Ends}
use Rattle.writer.specs.Table.{MaySplit, MayJoin, last_of, Fairly}
use Rattle.reads.proofs.StoredLaws.{bucket_ends, read_store}
use Rattle.writer.proofs.TableLaws.{low_below}

pub fairly_rep : {w : List ℕ} → Fairly w → Rep w (decode w)
fairly_rep {w} a = subst (λ (v : List ℕ). Rep v (decode w)) a.words (rep_encode (decode w) (fair_is (decode w) a.store))

pub rep_fairly : {w : List ℕ} {s : Store} → Rep w s → Fairly w
rep_fairly {w} {s} r =
    let e = rep_decode w s r in
    record { store = ap fair e ∙ is_fair s r.fair; words = ap encode e ∙ sym (rep_words w s r) }

module _ {w : List ℕ} {h : Header} (a : Fairly w) (q : Read w h) where
  r : Rep w (decode w)
  r = fairly_rep a

  -- the shape in the header is the store's
  e : (decode w).shape ≡ shape_in h
  e = (read_store q).0

  state : State h.top h.maxp h.p
  state =
      let z = read_store q in
      state_of h.top h.maxp h.p (rw (q.sized.top, ← e, ← z.1, ← z.2) r.fair.state)

  pub fairly_room : h.maxp + h.p ≤ h.top
  fairly_room = state.room

  -- the chain of a bucket ends
  chain : (b : ℕ) → b < h.maxp + h.p → Ends h.cards (next_card (shape_in h) w) (bucket_word (shape_in h) w b)
  chain b l =
      let z = read_store q in
      subst (λ (sh : Shape). Ends sh.limit (next_card sh w) (bucket_word sh w b)) e (bucket_ends r b (omega (arith, r.fair.number, z.1, z.2)))

  pub may_join : MayJoin w h
  may_join =
      let two : 2 ≤ h.maxp = omega (arith, size_low state.size) in
      record { read = q; some = two; room = state.room; chain = chain (low_p h.maxp h.p) (omega (arith, low_below h.maxp h.p two)) }

  -- the load is that of the store
  module _ {n : ℕ} (is : n ≡ get_or w held_at 0) where
    pub may_split : splits h.top h.upper n (h.maxp + h.p) ≡ true → MaySplit w h
    may_split t = record {
      read = q;
      some = omega (arith, size_low state.size);
      room = (splits_true h.top h.upper n (h.maxp + h.p) t).1;
      chain = chain h.p (omega (arith, size_low state.size));
    }

    pub grow_yes : splits h.top h.upper n (h.maxp + h.p) ≡ true → {v : List ℕ} → v ≡ split_words (shape_in h) w → v ≡ encode (grown (decode w))
    unfolding grow_words
    grow_yes t g =
        let z : grow_words (shape_in h) w ≡ split_words (shape_in h) w = rw (← is, q.maxp, q.state, ← q.sized.top, t) in
        g ∙ sym z ∙ ap (λ (sh : Shape). grow_words sh w) (sym e) ∙ rep_words (grow_words (decode w).shape w) (grown (decode w)) (rep_grown w (decode w) r)

    pub grow_no : splits h.top h.upper n (h.maxp + h.p) ≡ false → w ≡ encode (grown (decode w))
    unfolding grow_words
    grow_no t =
        let z : grow_words (shape_in h) w ≡ w = rw (← is, q.maxp, q.state, ← q.sized.top, t) in
        sym z ∙ ap (λ (sh : Shape). grow_words sh w) (sym e) ∙ rep_words (grow_words (decode w).shape w) (grown (decode w)) (rep_grown w (decode w) r)

    pub shrink_yes : contracts h.lower n (h.maxp + h.p) ≡ true → {v : List ℕ} → v ≡ join_words (shape_in h) w (last_of (shape_in h) w (low_p h.maxp h.p)) → v ≡ encode (shrunk (decode w))
    unfolding shrink_words last_of
    shrink_yes t g =
        let z : shrink_words (shape_in h) w ≡ join_words (shape_in h) w (last_of (shape_in h) w (low_p h.maxp h.p)) = rw (← is, q.maxp, q.state, t) in
        g ∙ sym z ∙ ap (λ (sh : Shape). shrink_words sh w) (sym e) ∙ rep_words (shrink_words (decode w).shape w) (shrunk (decode w)) (rep_shrunk w (decode w) r)

    pub shrink_no : contracts h.lower n (h.maxp + h.p) ≡ false → w ≡ encode (shrunk (decode w))
    unfolding shrink_words
    shrink_no t =
        let z : shrink_words (shape_in h) w ≡ w = rw (← is, q.maxp, q.state, t) in
        sym z ∙ ap (λ (sh : Shape). shrink_words sh w) (sym e) ∙ rep_words (shrink_words (decode w).shape w) (shrunk (decode w)) (rep_shrunk w (decode w) r)
