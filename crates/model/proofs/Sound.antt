-- Sound words are those that stand for a store whose load is right (`sound_is`, `is_sound`): `rep_decode` and `rep_words` say that such words are
-- the encoding of what is read from them. So the encoding of a good store is sound (`good_sound`), and sound words are the encoding of
-- a good store (`sound_good`).
use mathlib.Core.Path.{◌≡◌, sym, ap, ◌∙◌, subst}
use mathlib.Core.List.{List}
use mathlib.Core.Bool.{Bool, true, false, ◌&&◌, false≢true}
use Prim.Native.Nat.{ℕ}
use lib.Dec.{lit<}
use lib.ListN.{get_or}
use Rattle.rules.specs.Table.{state_ok}
use Rattle.rules.proofs.Tests.{both, all_of}
use Rattle.model.specs.Lists.{same}
use Rattle.model.specs.Shape.{top_of}
use Rattle.model.specs.Model.{Store}
use Rattle.model.specs.Layout.{maxp_at, p_at}
use Rattle.model.specs.Layout.{cards_at, header, front, encode, decode, shape_ok, shape_of, load_ok, fair, good, sound_if, sound}
use Rattle.model.proofs.Lists.{same_is}
use Rattle.model.proofs.Fair.{Good, fair_is, is_fair, load_is, is_load}
use Rattle.model.proofs.Rep.{Rep, rep_head, rep_encode, rep_words}
use Rattle.model.proofs.Decode.{shape_at, rep_decode}

-- a store is known by its words
pub rep_store : (w : List ℕ) (s t : Store) → Rep w s → Rep w t → s ≡ t
rep_store w s t p q = sym (rep_decode w s p) ∙ rep_decode w t q

pub is_sound : (w : List ℕ) (s : Store) → Rep w s → load_ok s ≡ true → sound w ≡ true
unfolding sound good front header cards_at
is_sound w s r l =
    let e : (state_ok (top_of (shape_of w)) (get_or w maxp_at 0) (get_or w p_at 0) && shape_ok (shape_of w)) ≡ true =
    (λ i. state_ok (top_of (shape_at w s r i)) (rep_head r maxp_at (lit< tt) i) (rep_head r p_at (lit< tt) i) && shape_ok (shape_at w s r i)) ∙ all_of r.fair.state r.fair.shape in
    ap (λ (t : Bool). sound_if t w) e
    ∙ rw (rep_decode w s r) (all_of (all_of l (is_fair s r.fair)) ((same_is (encode s) w).1 (sym (rep_words w s r))))

pub sound_is : (w : List ℕ) → sound w ≡ true → Rep w (decode w) × (load_ok (decode w) ≡ true)
unfolding sound good
sound_is w e = go (state_ok (top_of (shape_of w)) (get_or w maxp_at 0) (get_or w p_at 0) && shape_ok (shape_of w)) e
  where
    go : (t : Bool) → sound_if t w ≡ true → Rep w (decode w) × (load_ok (decode w) ≡ true)
    go true e =
        let a = both (good (decode w)) (same (encode (decode w)) w) e in
        let b = both (load_ok (decode w)) (fair (decode w)) a.0 in
        (subst (λ (v : List ℕ). Rep v (decode w)) ((same_is (encode (decode w)) w).0 a.1) (rep_encode (decode w) (fair_is (decode w) b.1)), b.0)
    go false e = absurd (false≢true e)

-- the encoding of a good store is sound, and sound words are one
pub good_sound : (s : Store) → Good s → sound (encode s) ≡ true
good_sound s g = is_sound (encode s) s (rep_encode s g.fair) (is_load s g)

pub sound_good : (w : List ℕ) → sound w ≡ true → Good (decode w) × (encode (decode w) ≡ w)
sound_good w e =
    let h = sound_is w e in
    let l = load_is (decode w) h.0.fair h.1 in
    (record { fair = h.0.fair; high = l.0; low = l.1 }, sym (rep_words w (decode w) h.0))

-- and a store that stays has the same words
pub words_stay : (w : List ℕ) → sound w ≡ true → {s : Store} → s ≡ decode w → w ≡ encode s
words_stay w ok e = sym (sound_good w ok).1 ∙ ap encode (sym e)
