-- The laws of the address rule, of a split and of a contraction, that the store's proofs cite. They hold at every good state, and most at any size above 0. Assumes nothing.
use Rattle.std.proofs.Common.{◌≡◌, ℕ, zero, suc, ◌+◌, ◌-◌, ◌*◌, ◌/◌, ◌%◌, ◌<◌, ◌≤◌, Bool, true, false, cond, ltb, ◌⊎◌, sym, refl, ◌∙◌, inl, inr, ⊎_elim, mod-lt, arith, ltb-false, ltb-true, le-ltb, lt-ltb, eq-eqb, ne_eqb}
use lib.Arith.{mod-mul}
use Rattle.rules.specs.Table.{top, state_ok, bucket_of, address_of, high_maxp, high_p, low_maxp, low_p}
use Rattle.rules.proofs.Tests.{by_cases, eq?}
use Rattle.rules.proofs.States.{State, state_of, state_ok_lem, size_low, size_double, size_half}

-- the address rule where the state is good, and where it is not
pub address_good : (c m p : ℕ) → state_ok top m p ≡ true → address_of c m p ≡ bucket_of c m p
unfolding address_of
address_good c m p h = simp h

pub address_bad : (c m p : ℕ) → state_ok top m p ≡ false → address_of c m p ≡ 4294967295
unfolding address_of
address_bad c m p h = simp h

pub bucket_moved : (c m p : ℕ) → c % m < p → bucket_of c m p ≡ c % (2 * m)
unfolding bucket_of
bucket_moved c m p h = simp (lt-ltb _ _ h)

pub bucket_kept : (c m p : ℕ) → p ≤ c % m → bucket_of c m p ≡ c % m
unfolding bucket_of
bucket_kept c m p h = simp (le-ltb _ _ h)

-- the two halves of a bucket: modulo 2 m a number is where it is modulo m, or m further
pub halves : (c m : ℕ) → 0 < m → (c % (2 * m) ≡ c % m) ⊎ (c % (2 * m) ≡ m + c % m)
halves c m h = go (c / m % 2) (mod-lt (c / m) (omega arith)) (mod-mul c {m = 2} {c = m} (omega arith) h)
  where
    go : (k : ℕ) → k < 2 → c % (2 * m) ≡ k * m + c % m → (c % (2 * m) ≡ c % m) ⊎ (c % (2 * m) ≡ m + c % m)
    go zero hk e = inl (omega arith)
    go (suc zero) hk e = inr (omega arith)
    go (suc (suc k)) hk e = absurd (omega arith)

-- an address is one of the buckets
pub bucket_below : (c m p : ℕ) → 0 < m → bucket_of c m p < m + p
unfolding bucket_of
bucket_below c m p h =
    by_cases (ltb (c % m) p)
    (λ e. rw e (⊎_elim (λ q. omega (arith, ltb-true)) (λ q. omega (arith, ltb-true)) (halves c m h)))
    (λ e. rw e (omega (arith, mod-lt c h)))

pub address_below : (c m p : ℕ) → state_ok top m p ≡ true → address_of c m p < m + p
address_below c m p h = rw (address_good c m p h) (bucket_below c m p (omega (arith, size_low (state_of top m p h).size)))

-- which code has the address p, the bucket that is split next
pub bucket_at : (c m p : ℕ) → 0 < m → p < m → bucket_of c m p ≡ p → c % m ≡ p
unfolding bucket_of
bucket_at c m p h hp = go (ltb (c % m) p) refl
  where
    go : (b : Bool) → ltb (c % m) p ≡ b → cond b (c % (2 * m)) (c % m) ≡ p → c % m ≡ p
    go true e q = ⊎_elim (λ r. omega (arith, ltb-true)) (λ r. omega (arith, ltb-true)) (halves c m h)
    go false e q = q

-- p one more: the codes of bucket p go by 2 m, the others stay
pub bucket_moves : (c m p : ℕ) → 0 < m → p < m → bucket_of c m p ≡ p → bucket_of c m (p + 1) ≡ c % (2 * m)
bucket_moves c m p h hp e = bucket_moved c m (p + 1) (omega (arith, bucket_at c m p h hp e))

pub bucket_stays : (c m p : ℕ) → (bucket_of c m p ≡ p → ⊥) → bucket_of c m (p + 1) ≡ bucket_of c m p
unfolding bucket_of
bucket_stays c m p = go (ltb (c % m) p) refl
  where
    go : (b : Bool) → ltb (c % m) p ≡ b → (cond b (c % (2 * m)) (c % m) ≡ p → ⊥) → bucket_of c m (p + 1) ≡ cond b (c % (2 * m)) (c % m)
    go true e n = bucket_moved c m (p + 1) (omega (arith, ltb-true))
    go false e n = bucket_kept c m (p + 1) (omega (arith, ltb-false))

-- at p = m the size doubles and p is 0, and no address changes
pub bucket_doubled : (c m : ℕ) → 0 < m → bucket_of c (2 * m) 0 ≡ bucket_of c m m
bucket_doubled c m h = bucket_kept c (2 * m) 0 (omega arith) ∙ sym (bucket_moved c m m (mod-lt c h))

-- the state after a split, by its two cases
pub grown_on : (m p : ℕ) → (p + 1 ≡ m → ⊥) → (high_maxp m p ≡ m) × (high_p m p ≡ p + 1)
unfolding high_maxp high_p
grown_on m p n = (simp (ne_eqb _ _ n), simp (ne_eqb _ _ n))

pub grown_over : (m p : ℕ) → p + 1 ≡ m → (high_maxp m p ≡ 2 * m) × (high_p m p ≡ 0)
unfolding high_maxp high_p
grown_over m p e = (simp (eq-eqb _ _ e), simp (eq-eqb _ _ e))

-- a split gives a good state with one bucket more
pub grow_count : (m p : ℕ) → high_maxp m p + high_p m p ≡ m + p + 1
grow_count m p = ⊎_elim (λ e. omega (arith, grown_over m p e)) (λ n. omega (arith, grown_on m p n)) (eq? (p + 1) m)

pub grow_ok : (t m p : ℕ) → t ≤ top → state_ok t m p ≡ true → m + p < t → state_ok t (high_maxp m p) (high_p m p) ≡ true
grow_ok t m p most h room = state_ok_lem (go (eq? (p + 1) m))
  where
    g : State t m p
    g = state_of t m p h

    go : (p + 1 ≡ m) ⊎ (p + 1 ≡ m → ⊥) → State t (high_maxp m p) (high_p m p)
    go (inl e) =
        rw ((grown_over m p e).0, (grown_over m p e).1)
        (record { size = size_double g.size (omega arith); below = omega (arith, size_low g.size); room = omega arith })
    go (inr n) =
        rw ((grown_on m p n).0, (grown_on m p n).1) (record { size = g.size; below = omega (arith, g.below); room = omega arith })

-- the addresses after a split are those of p + 1
pub bucket_grown : (c m p : ℕ) → 0 < m → bucket_of c (high_maxp m p) (high_p m p) ≡ bucket_of c m (p + 1)
bucket_grown c m p h = go (eq? (p + 1) m)
  where
    go : (p + 1 ≡ m) ⊎ (p + 1 ≡ m → ⊥) → bucket_of c (high_maxp m p) (high_p m p) ≡ bucket_of c m (p + 1)
    go (inl e) = rw ((grown_over m p e).0, (grown_over m p e).1, e) (bucket_doubled c m h)
    go (inr n) = rw ((grown_on m p n).0, (grown_on m p n).1)

low : (m p : ℕ) → state_ok top m p ≡ true → 0 < m
low m p h = omega (arith, size_low (state_of top m p h).size)

-- a split: a card of bucket p goes to bucket p or to the new bucket m + p, by its code modulo 2 m, and every other card keeps its address
module _ (c m p : ℕ) (ok : state_ok top m p ≡ true) (room : m + p < top) where
  grown : address_of c (high_maxp m p) (high_p m p) ≡ bucket_of c m (p + 1)
  grown = address_good c _ _ (grow_ok top m p (omega arith) ok room) ∙ bucket_grown c m p (low m p ok)

  pub grow_moves : address_of c m p ≡ p → address_of c (high_maxp m p) (high_p m p) ≡ c % (2 * m)
  grow_moves e = grown ∙ bucket_moves c m p (low m p ok) (state_of top m p ok).below (sym (address_good c m p ok) ∙ e)

  pub grow_two : address_of c m p ≡ p → (c % (2 * m) ≡ p) ⊎ (c % (2 * m) ≡ m + p)
  grow_two e = go (halves c m (low m p ok)) (bucket_at c m p (low m p ok) (state_of top m p ok).below (sym (address_good c m p ok) ∙ e))
    where
      go : (c % (2 * m) ≡ c % m) ⊎ (c % (2 * m) ≡ m + c % m) → c % m ≡ p → (c % (2 * m) ≡ p) ⊎ (c % (2 * m) ≡ m + p)
      go (inl q) r = inl (q ∙ r)
      go (inr q) r = inr (omega arith)

  pub grow_stays : (address_of c m p ≡ p → ⊥) → address_of c (high_maxp m p) (high_p m p) ≡ address_of c m p
  grow_stays n =
      grown ∙ bucket_stays c m p (λ e. n (address_good c m p ok ∙ e)) ∙ sym (address_good c m p ok)

  -- the same from the state after it: a card of the new bucket was in bucket p, and every other card is where it was
  same : (address_of c m p ≡ p) ⊎ (address_of c m p ≡ p → ⊥)
  same = eq? (address_of c m p) p

  pub grow_new : address_of c (high_maxp m p) (high_p m p) ≡ m + p → address_of c m p ≡ p
  grow_new e = ⊎_elim (λ q. q) (λ n. absurd (omega (arith, grow_stays n, address_below c m p ok))) same

  pub grow_old : (address_of c (high_maxp m p) (high_p m p) ≡ m + p → ⊥) → address_of c (high_maxp m p) (high_p m p) ≡ address_of c m p
  grow_old n = ⊎_elim (λ q. ⊎_elim (λ r. omega (arith, grow_moves q)) (λ r. absurd (n (grow_moves q ∙ r))) (grow_two q)) grow_stays same

-- the state after a contraction, by its two cases
pub shrunk_on : (m p : ℕ) → (p ≡ 0 → ⊥) → (low_maxp m p ≡ m) × (low_p m p ≡ p - 1)
unfolding low_maxp low_p
shrunk_on m p n = (simp (ne_eqb _ _ n), simp (ne_eqb _ _ n))

pub shrunk_over : (m p : ℕ) → p ≡ 0 → (low_maxp m p ≡ m / 2) × (low_p m p ≡ m / 2 - 1)
unfolding low_maxp low_p
shrunk_over m p e = (simp (eq-eqb _ _ e), simp (eq-eqb _ _ e))

-- a contraction gives a good state with one bucket less, of which a split makes the state again
pub shrink_ok : (t m p : ℕ) → state_ok t m p ≡ true → 16 < m + p → state_ok t (low_maxp m p) (low_p m p) ≡ true
shrink_ok t m p ok more = state_ok_lem (go (eq? p 0))
  where
    g : State t m p
    g = state_of t m p ok

    go : (p ≡ 0) ⊎ (p ≡ 0 → ⊥) → State t (low_maxp m p) (low_p m p)
    go (inl e) =
        let k = size_half g.size (omega arith) in
        rw ((shrunk_over m p e).0, (shrunk_over m p e).1)
        (record { size = k.0; below = omega (arith, size_low k.0); room = omega (arith, g.room) })
    go (inr n) =
        rw ((shrunk_on m p n).0, (shrunk_on m p n).1)
        (record { size = g.size; below = omega (arith, g.below); room = omega (arith, g.room) })

module _ (m p : ℕ) (ok : state_ok top m p ≡ true) (more : 16 < m + p) where
  pub shrink_grow : (high_maxp (low_maxp m p) (low_p m p) ≡ m) × (high_p (low_maxp m p) (low_p m p) ≡ p)
  shrink_grow = go (eq? p 0)
    where
      g : State top m p
      g = state_of top m p ok

      go : (p ≡ 0) ⊎ (p ≡ 0 → ⊥) → (high_maxp (low_maxp m p) (low_p m p) ≡ m) × (high_p (low_maxp m p) (low_p m p) ≡ p)
      go (inl e) =
          let k = size_half g.size (omega arith) in
          let q = grown_over (m / 2) (m / 2 - 1) (omega (arith, size_low k.0)) in
          rw ((shrunk_over m p e).0, (shrunk_over m p e).1) (q.0 ∙ k.1, q.1 ∙ sym e)
      go (inr n) =
          let q = grown_on m (p - 1) (omega (arith, g.below)) in
          rw ((shrunk_on m p n).0, (shrunk_on m p n).1) (q.0, omega (arith, q.1))

  pub shrink_count : low_maxp m p + low_p m p + 1 ≡ m + p
  shrink_count = omega (arith, grow_count (low_maxp m p) (low_p m p), shrink_grow.0, shrink_grow.1)

  -- what a split of the smaller state does to an address
  back : (c : ℕ) → address_of c (high_maxp (low_maxp m p) (low_p m p)) (high_p (low_maxp m p) (low_p m p)) ≡ address_of c m p
  back c = rw (shrink_grow.0, shrink_grow.1)

  -- a contraction: the cards of the last bucket go to bucket p of the state after it, and every other card keeps its address
  pub shrink_joins : (c : ℕ) → address_of c m p ≡ low_maxp m p + low_p m p → address_of c (low_maxp m p) (low_p m p) ≡ low_p m p
  shrink_joins c e = grow_new c _ _ (shrink_ok top m p ok more) (omega (arith, shrink_count, (state_of top m p ok).room)) (back c ∙ e)

  pub shrink_stays : (c : ℕ) → (address_of c m p ≡ low_maxp m p + low_p m p → ⊥) → address_of c (low_maxp m p) (low_p m p) ≡ address_of c m p
  shrink_stays c n =
      sym (grow_old c _ _ (shrink_ok top m p ok more) (omega (arith, shrink_count, (state_of top m p ok).room)) (λ e. n (sym (back c) ∙ e))) ∙ back c

-- a contraction takes a split back
pub grow_shrink : (m p : ℕ) → 0 < m → (low_maxp (high_maxp m p) (high_p m p) ≡ m) × (low_p (high_maxp m p) (high_p m p) ≡ p)
grow_shrink m p h = go (eq? (p + 1) m)
  where
    go : (p + 1 ≡ m) ⊎ (p + 1 ≡ m → ⊥) → (low_maxp (high_maxp m p) (high_p m p) ≡ m) × (low_p (high_maxp m p) (high_p m p) ≡ p)
    go (inl e) =
        let q = shrunk_over (2 * m) 0 refl in
        rw ((grown_over m p e).0, (grown_over m p e).1) (omega (arith, q.0), omega (arith, q.1))
    go (inr n) =
        let q = shrunk_on m (p + 1) (omega arith) in
        rw ((grown_on m p n).0, (grown_on m p n).1) (q.0, omega (arith, q.1))
