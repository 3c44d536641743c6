-- What the checker finds right before the cells: header, load, directory and bucket words from B on, each test as the clause of `Sound` that
-- it decides (`front_is`, `is_front`). The header's words are tested to be there first; that follows from the shape and the length.
use mathlib.Core.Path.{◌≡◌, refl, sym, ◌∙◌}
use mathlib.Core.Logic.{◌⊎◌, inl, inr, ⊎_elim}
use mathlib.Core.Bool.{Bool, true, ◌||◌}
use mathlib.Core.List.{List}
use Prim.Native.Nat.{ℕ, ◌+◌, ◌-◌, ◌*◌, ◌≤◌, ◌<◌}
use native.Mathlib.Omega.{arith}
use borrow.Author.Tests.{eqb-true, eq-eqb, leb-true, le-leb, ltb-true, ltb-false, lt-ltb, le-ltb}
use lib.Dec.{eqb, leb, ltb}
use lib.ListN.{length, get_or}
use Rattle.rules.specs.Table.{least, state_ok, load_fits}
use Rattle.rules.proofs.Tests.{by_cases, both, all_of, either}
use Rattle.rules.proofs.States.{state_of}
use Rattle.model.specs.Shape.{Shape, segment_size, entries, top_of}
use Rattle.model.specs.Layout.{format_at, limit_at, fault_limit_at, maxp_at, p_at, held_at, directory_offset_at, segments_offset_at, cards_offset_at, faults_offset_at, whole_length_at, bounds_at, rule_at, directory_at, segments_at, cards_at, faults_at, length_for, bounds_word, rule_word, shape_ok, shape_of}
use Rattle.model.specs.Meaning.{buckets_in, bucket_word, Sound}
use Rattle.model.proofs.Lists.{all_from, from_all}
use Rattle.reads.specs.Front.{limits_fit, offsets_fit, ends_fit}
use Rattle.checker.specs.Checker.{entry_for, directory_fits, rest_fits, front_fits}
use Rattle.reads.proofs.FrontLaws.{fit_is, offsets_are, head_fits}

-- the clauses of `Sound` that tell of the words before the cells
pub record Front (sh : Shape) (w : List ℕ) : Type 0 where
  pub format_word : get_or w format_at 0 ≡ sh.format
  pub limit_word : get_or w limit_at 0 ≡ sh.limit
  pub fault_limit_word : get_or w fault_limit_at 0 ≡ sh.fault_limit
  pub shape : shape_ok sh ≡ true
  pub state : state_ok (top_of sh) (get_or w maxp_at 0) (get_or w p_at 0) ≡ true
  pub directory_offset : get_or w directory_offset_at 0 ≡ directory_at
  pub segments_offset : get_or w segments_offset_at 0 ≡ segments_at sh
  pub cards_offset : get_or w cards_offset_at 0 ≡ cards_at sh
  pub faults_offset : get_or w faults_offset_at 0 ≡ faults_at sh
  pub length_word : get_or w whole_length_at 0 ≡ length_for sh
  pub bounds : get_or w bounds_at 0 ≡ bounds_word sh
  pub rule : get_or w rule_at 0 ≡ rule_word sh
  pub whole_length : length w ≡ length_for sh
  pub directory_used : (k : ℕ) → k < entries sh → segment_size * k < buckets_in w → get_or w (directory_at + k) 0 ≡ segments_at sh + segment_size * k
  pub directory_unused : (k : ℕ) → k < entries sh → buckets_in w ≤ segment_size * k → get_or w (directory_at + k) 0 ≡ 0
  pub not_over : (buckets_in w ≡ top_of sh) ⊎ (get_or w held_at 0 ≤ sh.upper * buckets_in w)
  pub not_under : (buckets_in w ≡ least) ⊎ (sh.lower * buckets_in w ≤ get_or w held_at 0)
  pub unused_zero : (b : ℕ) → buckets_in w ≤ b → b < top_of sh → bucket_word sh w b ≡ 0

entry_used : (segments b k : ℕ) → segment_size * k < b → entry_for segments b k ≡ segments + segment_size * k
unfolding entry_for
entry_used segments b k h = rw (lt-ltb (segment_size * k) b h)

entry_unused : (segments b k : ℕ) → b ≤ segment_size * k → entry_for segments b k ≡ 0
unfolding entry_for
entry_unused segments b k h = rw (le-ltb (segment_size * k) b h)

module _ (w : List ℕ) where
  abbrev sh : Shape
  sh = shape_of w

  abbrev b : ℕ
  b = buckets_in w

  abbrev n : ℕ
  n = get_or w held_at 0

  entry_right : ℕ → Bool
  entry_right k = eqb (get_or w (directory_at + k) 0) (entry_for (segments_at sh) b k)

  bucket_empty : ℕ → Bool
  bucket_empty j = eqb (get_or w (segments_at sh + j) 0) 0

  pub front_is : front_fits w ≡ true → Front (shape_of w) w
  unfolding front_fits load_fits directory_fits rest_fits entry_right bucket_empty shape_of
  front_is e =
      let (limits, e₁) = both (limits_fit w) _ e in
      let (offsets, e₂) = both (offsets_fit w) _ e₁ in
      let (state, e₃) = both (state_ok (top_of sh) (get_or w maxp_at 0) (get_or w p_at 0)) _ e₂ in
      let (load, e₄) = both (load_fits (top_of sh) sh.upper sh.lower n b) _ e₃ in
      let (entries_ok, rest) = both (directory_fits sh w b) (rest_fits sh w b) e₄ in
      let fit = fit_is w limits in
      let at = offsets_are w offsets in
      let room = (state_of (top_of sh) (get_or w maxp_at 0) (get_or w p_at 0) state).room in
      let (n₁, n₂) = both (eqb b (top_of sh) || leb n (sh.upper * b)) (eqb b least || leb (sh.lower * b) n) load in
      let entry : (k : ℕ) → k < entries sh → get_or w (directory_at + k) 0 ≡ entry_for (segments_at sh) b k =
      λ k h. eqb-true (get_or w (directory_at + k) 0) (entry_for (segments_at sh) b k) (all_from entry_right 0 (entries sh) entries_ok k (omega arith) (omega arith)) in
      record {
        format_word = refl;
        limit_word = refl;
        fault_limit_word = refl;
        shape = fit.ok;
        state = state;
        directory_offset = at.directory;
        segments_offset = at.segments;
        cards_offset = at.base;
        faults_offset = at.behind;
        length_word = at.whole;
        bounds = at.bounds;
        rule = at.rule;
        whole_length = fit.long;
        directory_used = λ k h u. entry k h ∙ entry_used (segments_at sh) b k u;
        directory_unused = λ k h u. entry k h ∙ entry_unused (segments_at sh) b k u;
        not_over = ⊎_elim (λ t. inl (eqb-true b (top_of sh) t)) (λ t. inr (leb-true n (sh.upper * b) t)) (either (eqb b (top_of sh)) (leb n (sh.upper * b)) n₁);
        not_under = ⊎_elim (λ t. inl (eqb-true b least t)) (λ t. inr (leb-true (sh.lower * b) n t)) (either (eqb b least) (leb (sh.lower * b) n) n₂);
        unused_zero = λ j l h. eqb-true (get_or w (segments_at sh + j) 0) 0 (all_from bucket_empty b (top_of sh - b) rest j l (omega arith));
      }

  pub is_front : Sound w → front_fits w ≡ true
  unfolding front_fits limits_fit offsets_fit ends_fit load_fits directory_fits rest_fits entry_right bucket_empty
  is_front s =
      all_of (all_of (le-leb directory_at (length w) (omega (arith, s.whole_length, head_fits sh))) (all_of s.shape (eq-eqb (length w) (length_for sh) s.whole_length)))
      (all_of (all_of (eq-eqb (get_or w directory_offset_at 0) directory_at s.directory_offset)
      (all_of (eq-eqb (get_or w segments_offset_at 0) (segments_at sh) s.segments_offset)
      (all_of (eq-eqb (get_or w cards_offset_at 0) (cards_at sh) s.cards_offset)
      (all_of (eq-eqb (get_or w faults_offset_at 0) (faults_at sh) s.faults_offset)
      (all_of (eq-eqb (get_or w whole_length_at 0) (length_for sh) s.length_word) (all_of (eq-eqb (get_or w bounds_at 0) (bounds_word sh) s.bounds) (eq-eqb (get_or w rule_at 0) (rule_word sh) s.rule)))))))
      (all_of s.state
      (all_of (all_of (over s.not_over) (under s.not_under))
      (all_of (from_all entry_right 0 (entries sh) (λ k l h. eq-eqb (get_or w (directory_at + k) 0) (entry_for (segments_at sh) b k) (entry k (omega arith))))
      (from_all bucket_empty b (top_of sh - b) (λ j l h. eq-eqb (get_or w (segments_at sh + j) 0) 0 (s.unused_zero j l (omega (arith, (state_of (top_of sh) (get_or w maxp_at 0) (get_or w p_at 0) s.state).room)))))))))
    where
      over : (b ≡ top_of sh) ⊎ (n ≤ sh.upper * b) → (eqb b (top_of sh) || leb n (sh.upper * b)) ≡ true
      over (inl e) = rw (eq-eqb b (top_of sh) e)
      over (inr h) = by_cases (eqb b (top_of sh)) (λ e. rw e) (λ e. rw e (le-leb n (sh.upper * b) h))

      under : (b ≡ least) ⊎ (sh.lower * b ≤ n) → (eqb b least || leb (sh.lower * b) n) ≡ true
      under (inl e) = rw (eq-eqb b least e)
      under (inr h) = by_cases (eqb b least) (λ e. rw e) (λ e. rw e (le-leb (sh.lower * b) n h))

      entry : (k : ℕ) → k < entries sh → get_or w (directory_at + k) 0 ≡ entry_for (segments_at sh) b k
      entry k h =
          by_cases (ltb (segment_size * k) b)
          (λ t. s.directory_used k h (ltb-true (segment_size * k) b t) ∙ sym (entry_used (segments_at sh) b k (ltb-true (segment_size * k) b t)))
          (λ t. s.directory_unused k h (ltb-false (segment_size * k) b t) ∙ sym (entry_unused (segments_at sh) b k (ltb-false (segment_size * k) b t)))
