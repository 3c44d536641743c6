-- Plans of calls on sound words. The header's words and the buckets' chains are what the store has (`size_room`, `held_word_lem`, `bucket_length`
-- ..), so a scan read off the words is the store's (`grow_none`, `grow_some`, `shrink_none`, `shrink_some`); and each way out of a plan gives
-- the numbers of its step: `enter-..`, `file-..`, `pairs-..` for Show, and `withdraw-..`, which go by the plan of Show.
use mathlib.Core.Path.{◌≡◌, refl, sym, ap, subst, ◌∙◌}
use mathlib.Core.Bool.{true, false, cond}
use mathlib.Core.List.{List}
use Prim.Native.Nat.{ℕ, suc, ◌+◌, ◌-◌, ◌*◌, ◌≤◌, ◌<◌}
use native.Mathlib.Omega.{arith}
use lib.Dec.{eqb, ltb}
use lib.ListN.{length, take, get_or, replicate, length-map, length-replicate}
use borrow.Author.Tests.{eq-eqb, ne_eqb, lt-ltb, le-ltb}
use Rattle.rules.specs.Table.{least, splits, contracts}
use Rattle.rules.proofs.Tests.{by_cases}
use Rattle.rules.proofs.States.{State, state_of, size_low}
use Rattle.std.proofs.Common.{Some, None, Ok, Err}
use Rattle.model.specs.Numbers.{bad_serial, bad_fault}
use Rattle.model.specs.Bounds.{cards_ever}
use Rattle.model.specs.Shape.{Shape, top_of, faults_ever}
use Rattle.model.specs.Serial.{valid_serial, valid_fault}
use Rattle.model.specs.Model.{Store, Card, held, faults_held, bucket, chain_for, found, history_in, removed, contract_scan}
use Rattle.model.specs.Layout.{held_at, faults_held_at, to_first, segments_at, follow, card_word, decode, sound}
use Rattle.model.specs.Meaning.{next_card, next_fault}
use Rattle.model.specs.Calls.{Answer, Step, gives, enter_step, file_step, show_step, withdraw_step}
use Rattle.model.proofs.Readings.{held_at_lem, faults_held_at_lem}
use Rattle.model.proofs.Sound.{sound_is, sound_good}
use Rattle.model.proofs.Fair.{Good}
use Rattle.model.proofs.Cases.{cards_fit}
use Rattle.model.proofs.Numbers.{show_numbers}
use Rattle.reads.specs.declared.header.Header.{Header}
use Rattle.reads.specs.Cells.{shape_in, Read}
use Rattle.reads.specs.Chains.{Ends}
use Rattle.store.specs.Search.{Finds}
use Rattle.store.specs.Leaves.{refused_answer}
use Rattle.store.specs.Plans.{grow_scan, shrink_scan, refused_after, accepted_plan, Refuses, Planned, PlansFor}
use Rattle.store.specs.declared.answer.Answer as given
use Rattle.store.specs.declared.plans.Plan.{Plan}
use Rattle.store.specs.declared.search.Spot.{Spot}
use Rattle.reads.proofs.AlongLaws.{follow_length}
use Rattle.reads.proofs.StoredLaws.{bucket_ends, bucket_cells_lem, read_store}
use Rattle.store.proofs.ScanLaws.{grow_scan_lem, shrink_scan_lem}
use Rattle.store.proofs.FindLaws.{not_held_lem, is_held, HeldCell}
use Rattle.store.proofs.ShowLaws.{faults_long}

module _ {w : List ℕ} (e : sound w ≡ true) {h : Header} (q : Read w h) where
  -- the header

  shape_is : (decode w).shape ≡ shape_in h
  shape_is = (read_store q).0

  top_is : top_of (decode w).shape ≡ h.top
  top_is = ap top_of shape_is ∙ sym q.sized.top

  state_is : State h.top h.maxp h.p
  state_is = state_of h.top h.maxp h.p (rw (top_is, (read_store q).1, (read_store q).2) at (sound_is w e).0.fair.state)

  pub size_room : (least ≤ h.maxp + h.p) × (h.maxp + h.p ≤ h.top) × (h.p < h.maxp)
  size_room = (omega (arith, size_low state_is.size), state_is.room, state_is.below)

  pub held_word_lem : get_or w held_at 0 ≡ held (decode w)
  held_word_lem = held_at_lem w (decode w) (sound_is w e).0

  pub filed_word : get_or w faults_held_at 0 ≡ faults_held (decode w)
  filed_word = faults_held_at_lem w (decode w) (sound_is w e).0

  pub held_room : get_or w held_at 0 ≤ cards_ever
  held_room = omega (arith, held_word_lem, cards_fit (decode w) (sound_good w e).0, ap (λ (sh : Shape). sh.limit) shape_is, q.sized.room)

  -- a bucket

  module _ {b : ℕ} (k : b < h.maxp + h.p) where
    within : b < length (decode w).buckets
    within = omega (arith, (sound_is w e).0.fair.number, (read_store q).1, (read_store q).2)

    pub bucket_below : b < h.top
    bucket_below = omega (arith, size_room.1)

    pub bucket_chain : Ends h.cards (next_card (shape_in h) w) (get_or w (segments_at (shape_in h) + b) 0)
    bucket_chain = subst (λ (sh : Shape). Ends sh.limit (next_card sh w) (get_or w (segments_at sh + b) 0)) shape_is (bucket_ends (sound_is w e).0 b within)

    pub bucket_length : length (follow h.cards (next_card (shape_in h) w) (get_or w (segments_at (shape_in h) + b) 0)) ≡ length (bucket (decode w) b)
    bucket_length =
        ap (λ (sh : Shape). length (follow sh.limit (next_card sh w) (get_or w (segments_at sh + b) 0))) (sym shape_is)
        ∙ ap length (bucket_cells_lem (sound_is w e).0 b within) ∙ length-map (bucket (decode w) b) (λ (x : Card). x.at)

    pub bucket_room : length (bucket (decode w) b) ≤ cards_ever
    bucket_room = omega (arith, bucket_length, follow_length h.cards (next_card (shape_in h) w) (get_or w (segments_at (shape_in h) + b) 0), q.sized.room)

  -- a card that is held

  pub held_history : {y : List ℕ} {i : ℕ} → HeldCell w y h i → length (history_in (decode w) y) ≤ faults_ever
  held_history {y} {i} k =
      omega (arith, ap length k.history, faults_long (shape_in h) w (card_word (shape_in h) w i to_first), follow_length h.faults (next_fault (shape_in h) w) (card_word (shape_in h) w i to_first), q.sized.room)

  -- the scans

  upper_is : (decode w).shape.upper ≡ h.upper
  upper_is = ap (λ (sh : Shape). sh.upper) shape_is

  lower_is : (decode w).shape.lower ≡ h.lower
  lower_is = ap (λ (sh : Shape). sh.lower) shape_is

  module _ (b : ℕ) where
    pub grow_none : splits h.top h.upper (get_or w held_at 0 + 1) (h.maxp + h.p) ≡ false → 0 ≡ grow_scan (decode w) b
    unfolding grow_scan
    grow_none t = rw (← held_word_lem, top_is, upper_is, (read_store q).1, (read_store q).2, t)

    pub grow_some : splits h.top h.upper (get_or w held_at 0 + 1) (h.maxp + h.p) ≡ true → length (bucket (decode w) h.p) + cond (eqb b h.p) 1 0 ≡ grow_scan (decode w) b
    unfolding grow_scan
    grow_some t = rw (← held_word_lem, top_is, upper_is, (read_store q).1, (read_store q).2, t)

    pub shrink_none : contracts h.lower (get_or w held_at 0 - 1) (h.maxp + h.p) ≡ false → 0 ≡ shrink_scan (decode w) b
    unfolding shrink_scan
    shrink_none t = rw (← held_word_lem, lower_is, (read_store q).1, (read_store q).2, t)

    pub shrink_some : contracts h.lower (get_or w held_at 0 - 1) (h.maxp + h.p) ≡ true
        → length (bucket (decode w) (h.maxp + h.p - 1)) - cond (eqb b (h.maxp + h.p - 1)) 1 0 ≡ shrink_scan (decode w) b
    unfolding shrink_scan
    shrink_some t = rw (← held_word_lem, lower_is, (read_store q).1, (read_store q).2, t)

-- the two kinds of plans

plan_refused : {a : Answer} (k place faults : ℕ) → a ≡ gives (suc k) place 0 faults → Refuses a (refused_after (suc k) place faults)
plan_refused k place faults g =
    rw g (record { answer = record { number_is = refl; comparisons_are = refl; scanned_is = refl; faults_are = refl }; refused = λ z. absurd (omega arith) })

plan_accepted : {w : List ℕ} {h : Header} → Read w h → (bytes : List ℕ) (n : ℕ) → valid_serial bytes n ≡ true → {o : Spot} → Finds (decode w) (take n bytes) o
    → {a : Answer} (scan faults : ℕ) → a ≡ gives 0 o.found.place scan faults → Planned a w bytes n (accepted_plan h o scan faults)
plan_accepted q bytes n v f scan faults g =
    rw g (record {
      answer = record { number_is = refl; comparisons_are = refl; scanned_is = refl; faults_are = refl };
      done = refl;
      header = q;
      places = record { valid = v; bucket_is = f.bucket_is; cell_is = f.cell_is; prev_is = f.prev_is };
    })

-- the header of a plan for any room of so many words
pub plans_header : {step : List ℕ → Step} {room : ℕ} {w bytes : List ℕ} {n : ℕ} {r : Plan} → PlansFor step room w bytes n (Ok r) → Read w r.header
plans_header {room = room} p = (p.with_room (replicate room 0) (length-replicate {A = ℕ} room 0)).header

-- the ways out of each plan

-- 4 and 5
module _ (w : List ℕ) (bytes : List ℕ) (n : ℕ) where
  module _ (v : valid_serial bytes n ≡ false) where
    pub enter_invalid : Refuses (enter_step (decode w) bytes n).answer (refused_answer bad_serial)
    unfolding enter_step
    enter_invalid = plan_refused 3 0 0 (rw v)

    pub file_invalid : (day code : ℕ) → Refuses (file_step (decode w) bytes n day code).answer (refused_answer bad_serial)
    unfolding file_step
    file_invalid day code = plan_refused 3 0 0 (rw v)

    pub pairs_invalid : (room : ℕ) → PlansFor (show_step (decode w) bytes n) room w bytes n (Err (refused_answer bad_serial))
    unfolding show_step
    pairs_invalid room = record { with_room = λ given l. plan_refused 3 0 0 (rw v) }

    pub withdraw_invalid : (room : ℕ) → PlansFor (withdraw_step (decode w) bytes n) room w bytes n (Err (refused_answer bad_serial))
    unfolding withdraw_step
    withdraw_invalid room = record { with_room = λ given l. plan_refused 3 0 0 (rw v) }

  pub file_bad : valid_serial bytes n ≡ true → (day code : ℕ) → valid_fault day code ≡ false → Refuses (file_step (decode w) bytes n day code).answer (refused_answer bad_fault)
  unfolding file_step
  file_bad v day code u = plan_refused 4 0 0 (rw (v, u))

-- behind the search
module _ (w : List ℕ) (e : sound w ≡ true) {h : Header} (q : Read w h) (bytes : List ℕ) (n : ℕ) where
  module _ (v : valid_serial bytes n ≡ true) where
    module _ {o : Spot} (f : Finds (decode w) (take n bytes) o) where
      -- no card has the serial
      module _ (z : o.found.cell ≡ None) where
        none : length (found (take n bytes) (chain_for (decode w) (take n bytes))) ≡ 0
        none = ap length (not_held_lem (sound_is w e).0 (take n bytes) f z).absent.none

        pub enter_full : held (decode w) ≡ (decode w).shape.limit → Refuses (enter_step (decode w) bytes n).answer (refused_after 8 o.found.place 0)
        unfolding enter_step
        enter_full k = plan_refused 7 o.found.place 0 (rw (v, none, f.place_is, eq-eqb (held (decode w)) (decode w).shape.limit k))

        pub enter_accepted : (held (decode w) ≡ (decode w).shape.limit → ⊥)
            → Planned (enter_step (decode w) bytes n).answer w bytes n (accepted_plan h o (grow_scan (decode w) o.bucket) 0)
        unfolding enter_step
        enter_accepted k =
            plan_accepted q bytes n v f (grow_scan (decode w) o.bucket) 0
            (rw (v, none, f.place_is, f.bucket_is, grow_scan_lem (decode w) (sound_is w e).0.fair (take n bytes), ne_eqb (held (decode w)) (decode w).shape.limit k))

        pub file_missing : (day code : ℕ) → valid_fault day code ≡ true → Refuses (file_step (decode w) bytes n day code).answer (refused_after 7 o.found.place 0)
        unfolding file_step
        file_missing day code u = plan_refused 6 o.found.place 0 (rw (v, u, none, f.place_is))

        pub pairs_missing : (room : ℕ) → PlansFor (show_step (decode w) bytes n) room w bytes n (Err (refused_after 7 o.found.place 0))
        unfolding show_step
        pairs_missing room = record { with_room = λ given l. plan_refused 6 o.found.place 0 (rw (v, none, f.place_is)) }

      -- one has it
      module _ {i : ℕ} (z : o.found.cell ≡ Some i) where
        one : length (found (take n bytes) (chain_for (decode w) (take n bytes))) ≡ 1
        one = ap length (is_held (sound_is w e).0 (take n bytes) f z).present.only

        pub enter_held : Refuses (enter_step (decode w) bytes n).answer (refused_after 6 o.found.place 0)
        unfolding enter_step
        enter_held = plan_refused 5 o.found.place 0 (rw (v, one, f.place_is))

        module _ (day code : ℕ) (u : valid_fault day code ≡ true) where
          pub file_full : faults_held (decode w) ≡ (decode w).shape.fault_limit → Refuses (file_step (decode w) bytes n day code).answer (refused_after 9 o.found.place 0)
          unfolding file_step
          file_full k = plan_refused 8 o.found.place 0 (rw (v, u, one, f.place_is, eq-eqb (faults_held (decode w)) (decode w).shape.fault_limit k))

          pub file_accepted : (faults_held (decode w) ≡ (decode w).shape.fault_limit → ⊥) → (count : ℕ) → count ≡ length (history_in (decode w) (take n bytes))
              → Planned (file_step (decode w) bytes n day code).answer w bytes n (accepted_plan h o 0 (count + 1))
          unfolding file_step
          file_accepted k count l =
              plan_accepted q bytes n v f 0 (count + 1) (rw (v, u, one, f.place_is, l, ne_eqb (faults_held (decode w)) (decode w).shape.fault_limit k))

        module _ (room count : ℕ) (l : count ≡ length (history_in (decode w) (take n bytes))) where
          pub pairs_small : room < 2 * count → PlansFor (show_step (decode w) bytes n) room w bytes n (Err (refused_after 10 o.found.place count))
          unfolding show_step
          pairs_small b =
              record { with_room = λ given k. plan_refused 9 o.found.place count (rw (v, one, f.place_is, l, lt-ltb (length given) (2 * length (history_in (decode w) (take n bytes))) (omega arith))) }

          pub pairs_accepted : 2 * count ≤ room → PlansFor (show_step (decode w) bytes n) room w bytes n (Ok (accepted_plan h o 0 count))
          unfolding show_step
          pairs_accepted b =
              record { with_room = λ given k. plan_accepted q bytes n v f 0 count (rw (v, one, f.place_is, l, le-ltb (length given) (2 * length (history_in (decode w) (take n bytes))) (omega arith))) }

-- Withdraw by the plan of Show
module _ (s : Store) (bytes : List ℕ) (n : ℕ) (room : List ℕ) where
  same_refused : ((show_step s bytes n room).answer.number ≡ 0 → ⊥) → (withdraw_step s bytes n room).answer ≡ (show_step s bytes n room).answer
  unfolding show_step withdraw_step
  same_refused z =
      let y = take n bytes in
      by_cases (valid_serial bytes n)
      (λ v. by_cases (eqb (length (found y (chain_for s y))) 0)
      (λ k. rw (v, k))
      (λ k. by_cases (ltb (length room) (2 * length (history_in s y))) (λ b. rw (v, k, b)) (λ b. absurd (z (rw (v, k, b))))))
      (λ v. rw v)

  same_done : Good s → (show_step s bytes n room).answer.number ≡ 0
      → ((withdraw_step s bytes n room).answer ≡ gives 0 (show_step s bytes n room).answer.comparisons (contract_scan (removed s (take n bytes))) (show_step s bytes n room).answer.faults)
      × (length (found (take n bytes) (chain_for s (take n bytes))) ≡ 1)
  unfolding show_step withdraw_step
  same_done g z =
      let (v, l, b) = (show_numbers s bytes n room g).done.0 z in
      (rw (v, l, le-ltb (length room) (2 * length (history_in s (take n bytes))) b), l)

module _ (w : List ℕ) (e : sound w ≡ true) (bytes : List ℕ) (n room : ℕ) where
  pub withdraw_refused : (r : given.Answer) → PlansFor (show_step (decode w) bytes n) room w bytes n (Err r) → PlansFor (withdraw_step (decode w) bytes n) room w bytes n (Err r)
  withdraw_refused r p =
      record { with_room = λ given l. let q = p.with_room given l in rw (same_refused (decode w) bytes n given (λ k. q.refused (q.answer.number_is ∙ k))) q }

  pub withdraw_accepted : (r : Plan) → PlansFor (show_step (decode w) bytes n) room w bytes n (Ok r) → (scan : ℕ) → scan ≡ shrink_scan (decode w) r.spot.bucket
      → PlansFor (withdraw_step (decode w) bytes n) room w bytes n
      (Ok (record { answer = record { number = r.answer.number; comparisons = r.answer.comparisons; scanned = scan; faults = r.answer.faults }; spot = r.spot; header = r.header }))
  withdraw_accepted r p scan k = record { with_room = λ given l. go given (p.with_room given l) }
    where
      go : (given : List ℕ) → Planned (show_step (decode w) bytes n given).answer w bytes n r → Planned (withdraw_step (decode w) bytes n given).answer w bytes n
          (record { answer = record { number = r.answer.number; comparisons = r.answer.comparisons; scanned = scan; faults = r.answer.faults }; spot = r.spot; header = r.header })
      go given q =
          let d = same_done (decode w) bytes n given (sound_good w e).0 (sym q.answer.number_is ∙ q.done) in
          rw d.0 (record {
            answer = record {
              number_is = q.done;
              comparisons_are = q.answer.comparisons_are;
              scanned_is = k ∙ ap (shrink_scan (decode w)) q.places.bucket_is ∙ sym (shrink_scan_lem (decode w) (sound_is w e).0.fair (take n bytes) d.1);
              faults_are = q.answer.faults_are;
            };
            done = q.done;
            header = q.header;
            places = q.places;
          })
