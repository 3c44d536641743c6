-- A call on words by cases: with short scratch nothing happens, and on sound words the call is the act on the store that the words
-- stand for, written back (`call_cases`); Open by its four answers (`open_cases`). Since the words of a fair store are read back as
-- that store (`read_back`), sound words stay sound under every call (`sound_call`) and every run of calls (`sound_run`), and no act changes
-- the shape that they tell (`shape_call`).
-- What the scratch holds afterwards is said byte by byte (`scratch_after`, `cleaned_means`).
-- The numbers of a call that come before its act, and those of Open, are given exactly when the rules say (`call_numbers`, `open_numbers`).
use Prim.Native.Nat.{ℕ, ◌+◌, ◌-◌, ◌≤◌, ◌<◌}
use mathlib.Core.Path.{◌≡◌, refl, ap, ◌∙◌}
use mathlib.Core.Logic.{◌↔◌}
use mathlib.Core.List.{List, [], ◌∷◌, ◌++◌}
use mathlib.Core.Bool.{true, false, cond}
use native.Mathlib.Omega.{arith}
use lib.Dec.{ltb, eqb}
use lib.ListN.{length, get_or, drop, replicate, length-append, length-drop, length-replicate, get_or-replicate, get_or-append}
use lib.Seq.{get_or-append-add, get_or-drop}
use borrow.Author.Tests.{eqb-true, eqb-false, ltb-true, ltb-false}
use Rattle.rules.proofs.Tests.{by_cases, not_both, all_of}
use Rattle.model.specs.Model.{Store, fresh}
use Rattle.model.specs.Shape.{need}
use Rattle.model.specs.Layout.{limits_ok, bounds_ok, format_ok, shape_ok, shape_of, length_for, encode, decode_as, decode, sound}
use Rattle.model.specs.Calls.{Outcome, Terms, shape_for, Opened, refused, cleaned, admission, swept, call, open_call}
use Rattle.model.specs.Runs.{Act, room_of, perform, Call, Call.opening, Call.acting, outcome, words_after, run}
use Rattle.model.proofs.Fair.{Fair}
use Rattle.model.proofs.Rep.{rep_encode}
use Rattle.model.proofs.Decode.{shape_at, rep_decode}
use Rattle.model.proofs.Sound.{good_sound, sound_good}
use Rattle.model.proofs.Fresh.{fresh_sound}
use Rattle.model.proofs.Numbers.{hit, miss, act_numbers}
use Rattle.model.proofs.Demand3.{good_act, shape_act}

pub read_back : (s : Store) → Fair s → decode (encode s) ≡ s
read_back s r = rep_decode (encode s) s (rep_encode s r)

-- terms in range make a shape
pub terms_ok : (t : Terms) → limits_ok (shape_for t) ≡ true → bounds_ok (shape_for t) ≡ true → shape_ok (shape_for t) ≡ true
unfolding shape_for shape_ok format_ok
terms_ok t l b = all_of {a = limits_ok (shape_for t)} {b = bounds_ok (shape_for t)} l b

-- the terms that Open takes, whatever the length of the words
pub record InRange (t : Terms) : Type 0 where
  pub limits : limits_ok (shape_for t) ≡ true
  pub bounds : bounds_ok (shape_for t) ≡ true

pub open_cases : (w : List ℕ) (t : Terms) (P : Opened → Type 0)
    → (limits_ok (shape_for t) ≡ false → P (record { number = 1; words = w }))
    → (limits_ok (shape_for t) ≡ true → bounds_ok (shape_for t) ≡ false → P (record { number = 15; words = w }))
    → (shape_ok (shape_for t) ≡ true → InRange t → (length w ≡ length_for (shape_for t) → ⊥) → P (record { number = 2; words = w }))
    → (shape_ok (shape_for t) ≡ true → InRange t → length w ≡ length_for (shape_for t) → P (record { number = 0; words = encode (fresh (shape_for t)) }))
    → P (open_call w t)
unfolding open_call
open_cases w t P limits bounds long done =
    by_cases (limits_ok (shape_for t))
    (λ v. rw v (by_cases (bounds_ok (shape_for t))
    (λ u. let within : InRange t = record { limits = v; bounds = u } in
    rw u (by_cases (eqb (length w) (length_for (shape_for t)))
    (λ e. rw e (done (terms_ok t v u) within (eqb-true (length w) (length_for (shape_for t)) e)))
    (λ e. rw e (long (terms_ok t v u) within (eqb-false (length w) (length_for (shape_for t)) e)))))
    (λ u. rw u (bounds v u))))
    (λ v. rw v (limits v))

-- what is admitted has scratch enough and is sound
pub admitted : (w scratch : List ℕ) → admission w scratch ≡ 0 → (need (shape_of w) ≤ length scratch) × (sound w ≡ true)
unfolding admission
admitted w scratch =
    by_cases (ltb (length scratch) (need (shape_of w))) (λ e. rw e (λ k. absurd (omega arith)))
    (λ e. rw e (by_cases (sound w) (λ ok. rw ok (λ k. (ltb-false (length scratch) (need (shape_of w)) e, refl))) (λ no. rw no (λ k. absurd (omega arith)))))

pub call_cases : (w scratch : List ℕ) (a : Act) → sound w ≡ true → (P : Outcome → Type 0)
    → (length scratch < need (shape_of w) → P (record { answer = refused 11; words = w; room = room_of a; scratch = scratch }))
    → (need (shape_of w) ≤ length scratch
    → P (record { answer = (perform (decode w) a).answer; words = encode (perform (decode w) a).store; room = (perform (decode w) a).room; scratch = cleaned (need (shape_of w)) scratch }))
    → P (outcome w scratch a)
unfolding call admission swept
call_cases w scratch a ok P short done =
    by_cases (ltb (length scratch) (need (shape_of w)))
    (λ e. rw e (short (ltb-true (length scratch) (need (shape_of w)) e)))
    (λ e. rw (e, ok) (done (ltb-false (length scratch) (need (shape_of w)) e)))

-- an accepted Open leaves the words of a fresh store
pub opened_fresh : (w : List ℕ) (t : Terms) → (open_call w t).number ≡ 0 → (shape_ok (shape_for t) ≡ true) × ((open_call w t).words ≡ encode (fresh (shape_for t)))
opened_fresh w t = open_cases w t (λ r. r.number ≡ 0 → (shape_ok (shape_for t) ≡ true) × (r.words ≡ encode (fresh (shape_for t))))
    (λ v e. absurd (omega arith)) (λ v u e. absurd (omega arith)) (λ ok v n e. absurd (omega arith)) (λ ok v l e. (ok, refl))

-- every call leaves sound words sound
pub sound_call : (w : List ℕ) → sound w ≡ true → (c : Call) → sound (words_after w c) ≡ true
sound_call w ok (opening t) = open_cases w t (λ r. sound r.words ≡ true) (λ v. ok) (λ v u. ok) (λ k v n. ok) (λ k v l. fresh_sound (shape_for t) k)
sound_call w ok (acting scratch a) =
    call_cases w scratch a ok (λ r. sound r.words ≡ true) (λ h. ok) (λ h. good_sound (perform (decode w) a).store (good_act (decode w) (sound_good w ok).0 a))

-- no act changes the shape that they tell
pub shape_call : (w : List ℕ) → sound w ≡ true → (scratch : List ℕ) (a : Act) → shape_of (outcome w scratch a).words ≡ shape_of w
unfolding decode_as
shape_call w ok scratch a =
    let g = (sound_good w ok).0 in
    let s = (perform (decode w) a).store in
    call_cases w scratch a ok (λ r. shape_of r.words ≡ shape_of w)
    (λ h. refl) (λ h. shape_at (encode s) s (rep_encode s (good_act (decode w) g a).fair) ∙ shape_act (decode w) g a)

pub sound_run : (w : List ℕ) → sound w ≡ true → (cs : List Call) → sound (run w cs) ≡ true
sound_run w ok [] = ok
sound_run w ok (c ∷ cs) = sound_run (words_after w c) (sound_call w ok c) cs

-- cleaned scratch, byte by byte: as long as it was, the first n bytes zero, the rest as they were
pub record Cleaned (n : ℕ) (before after : List ℕ) : Type 0 where
  pub long : length after ≡ length before
  pub zeros : (i : ℕ) → i < n → get_or after i 0 ≡ 0
  pub rest : (i : ℕ) → n ≤ i → get_or after i 0 ≡ get_or before i 0

pub cleaned_means : (n : ℕ) (scratch : List ℕ) → n ≤ length scratch → Cleaned n scratch (cleaned n scratch)
unfolding cleaned
cleaned_means n scratch h =
    let zeros : List ℕ = replicate n 0 in
    let z = length-replicate {A = ℕ} n 0 in
    record {
      long = omega (arith, z, length-append zeros (drop n scratch), length-drop n scratch);
      zeros = λ i l. get_or-append zeros (drop n scratch) 0 i (omega (arith, z)) ∙ get_or-replicate {A = ℕ} n i 0 0 l;
      rest = λ i l. let k : i ≡ length zeros + (i - n) = omega (arith, z) in
          ap (λ (j : ℕ). get_or (zeros ++ drop n scratch) j 0) k ∙ get_or-append-add zeros (drop n scratch) (i - n) 0 ∙ get_or-drop n scratch (i - n) 0 ∙ ap (λ (j : ℕ). get_or scratch j 0) (omega arith);
    }

-- under 11 the scratch is untouched; else its first bytes end zero and the rest stays, whatever the number
pub scratch_after : (w scratch : List ℕ) (a : Act) → (outcome w scratch a).scratch ≡ cond (ltb (length scratch) (need (shape_of w))) scratch (cleaned (need (shape_of w)) scratch)
unfolding call swept
scratch_after w scratch a = by_cases (eqb (admission w scratch) 0) (λ e. rw e) (λ e. rw e)

-- the numbers that are given before the act: 11, then 3; and those of Open. With enough scratch and sound words the number is the act's,
-- by `call_cases`, and `Numbers` has its conditions.

pub record CallNumbers (w scratch : List ℕ) (k : ℕ) : Type 0 where
  pub short : (k ≡ 11) ↔ (length scratch < need (shape_of w))
  pub unsound : (k ≡ 3) ↔ ((need (shape_of w) ≤ length scratch) × (sound w ≡ false))

pub call_numbers : (w scratch : List ℕ) (a : Act) → CallNumbers w scratch (outcome w scratch a).answer.number
unfolding call admission swept
call_numbers w scratch a =
    by_cases (ltb (length scratch) (need (shape_of w)))
    (λ e. let h = ltb-true (length scratch) (need (shape_of w)) e in
    rw e (record { short = hit refl h; unsound = miss (omega arith) (λ c. omega arith) }))
    (λ e. let h = ltb-false (length scratch) (need (shape_of w)) e in
    rw e (by_cases (sound w)
    (λ t. let n = act_numbers (decode w) (sound_good w t).0 a in
    rw t (record { short = miss n.1 (omega arith); unsound = miss n.0 (λ c. not_both t c.1) }))
    (λ t. rw t (record { short = miss (omega arith) (omega arith); unsound = hit refl (h, t) }))))

pub record OpenNumbers (w : List ℕ) (t : Terms) (k : ℕ) : Type 0 where
  pub limits : (k ≡ 1) ↔ (limits_ok (shape_for t) ≡ false)
  pub bounds : (k ≡ 15) ↔ ((limits_ok (shape_for t) ≡ true) × (bounds_ok (shape_for t) ≡ false))
  pub long : (k ≡ 2) ↔ (InRange t × (length w ≡ length_for (shape_for t) → ⊥))
  pub done : (k ≡ 0) ↔ (InRange t × (length w ≡ length_for (shape_for t)))

pub open_numbers : (w : List ℕ) (t : Terms) → OpenNumbers w t (open_call w t).number
open_numbers w t =
    open_cases w t (λ r. OpenNumbers w t r.number)
    (λ v. record {
      limits = hit refl v;
      bounds = miss (omega arith) (λ c. not_both c.0 v);
      long = miss (omega arith) (λ c. not_both c.0.limits v);
      done = miss (omega arith) (λ c. not_both c.0.limits v);
    })
    (λ v u. record {
      limits = miss (omega arith) (λ c. not_both v c);
      bounds = hit refl (v, u);
      long = miss (omega arith) (λ c. not_both c.0.bounds u);
      done = miss (omega arith) (λ c. not_both c.0.bounds u);
    })
    (λ ok v n. record {
      limits = miss (omega arith) (λ c. not_both v.limits c);
      bounds = miss (omega arith) (λ c. not_both v.bounds c.1);
      long = hit refl (v, n);
      done = miss (omega arith) (λ c. n c.1);
    })
    (λ ok v l. record {
      limits = miss (omega arith) (λ c. not_both v.limits c);
      bounds = miss (omega arith) (λ c. not_both v.bounds c.1);
      long = miss (omega arith) (λ c. c.1 l);
      done = hit refl (v, l);
    })
