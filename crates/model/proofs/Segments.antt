-- The directory and the segments of a store. A bucket more or less changes the directory's entry of its segment where the bucket is the
-- segment's first, and no other (`segment_opened`, `segment_closed`); a bucket's word names its chain's first cell, past the last bucket 0
-- (`segment_word`), and segments are known by their words (`segments_by_word`).
use mathlib.Core.Path.{◌≡◌, sym, ap, ◌∙◌}
use mathlib.Core.Logic.{⊎_elim}
use mathlib.Core.List.{List, [], map}
use mathlib.Core.Bool.{cond}
use Prim.Native.Nat.{ℕ, ◌+◌, ◌*◌, ◌/◌, ◌%◌, ◌≤◌, ◌<◌}
use native.Mathlib.Nat.{zero-add}
use native.Mathlib.Omega.{arith}
use lib.Dec.{ltb}
use lib.ListN.{length, get_or, set, length-set, get_or-eq_default}
use lib.Seq.{get_or-set_same, get_or-set_other, set-set, set-get_or, ext_get_or}
use borrow.Author.Tests.{ltb-true, ltb-false, lt-ltb, le-ltb}
use Rattle.rules.proofs.Tests.{by_cases, eq?, lt?}
use Rattle.model.specs.Lists.{from}
use Rattle.model.specs.Shape.{Shape, segment_size, entries, top_of}
use Rattle.model.specs.Model.{Store, Card, bucket, cells_of}
use Rattle.model.specs.Layout.{segments_at, first, segments}
use Rattle.model.proofs.Tables.{length_table, table_at, table_is}
use Rattle.model.proofs.Fair.{Fair}
use Rattle.model.proofs.Rep.{segments_length}
use Rattle.model.proofs.Decode.{head_cards, segments_from, segment_at, segment_past}

-- entry k of a store with n buckets
abbrev pub entry_for : Shape → ℕ → ℕ → ℕ
entry_for sh n k = cond (ltb (segment_size * k) n) (segments_at sh + segment_size * k) 0

abbrev pub entries_for : Shape → ℕ → List ℕ
entries_for sh n = map (entry_for sh n) (from 0 (entries sh))

entry_kept : (sh : Shape) (n k : ℕ) → (segment_size * k ≡ n → ⊥) → entry_for sh (n + 1) k ≡ entry_for sh n k
entry_kept sh n k d =
    by_cases (ltb (segment_size * k) n)
    (λ e. rw (e, lt-ltb (segment_size * k) (n + 1) (omega (arith, ltb-true (segment_size * k) n e))))
    (λ e. rw (e, le-ltb (segment_size * k) (n + 1) (omega (arith, ltb-false (segment_size * k) n e))))

entry_at : (sh : Shape) (n k : ℕ) → k < entries sh → get_or (entries_for sh n) k 0 ≡ entry_for sh n k
entry_at sh n k h = table_at (entry_for sh n) 0 (entries sh) 0 k h ∙ ap (entry_for sh n) (zero-add k)

pub segment_kept : (sh : Shape) (n : ℕ) → (n % segment_size ≡ 0 → ⊥) → entries_for sh (n + 1) ≡ entries_for sh n
segment_kept sh n d =
    table_is (entry_for sh (n + 1)) (entries sh) 0 (entries_for sh n) (length_table (entry_for sh n) 0 (entries sh))
    (λ k h. entry_kept sh n k (λ e. d (omega arith)) ∙ sym (entry_at sh n k h))

module _ (sh : Shape) (n : ℕ) (h : n < top_of sh) (z : n % segment_size ≡ 0) where
  pub segment_opened : entries_for sh (n + 1) ≡ set (entries_for sh n) (n / segment_size) (segments_at sh + n)
  segment_opened =
      table_is (entry_for sh (n + 1)) (entries sh) 0 (set (entries_for sh n) (n / segment_size) (segments_at sh + n))
      (length-set (entries_for sh n) (n / segment_size) (segments_at sh + n) ∙ length_table (entry_for sh n) 0 (entries sh)) λ k l.
      ⊎_elim (λ (e : k ≡ n / segment_size). let d : segment_size * k ≡ n = omega arith in
      rw (lt-ltb (segment_size * k) (n + 1) (omega arith)) (ap (λ (i : ℕ). segments_at sh + i) d)
      ∙ sym (ap (λ (i : ℕ). get_or (set (entries_for sh n) (n / segment_size) (segments_at sh + n)) i 0) e ∙ get_or-set_same (entries_for sh n) (n / segment_size) (segments_at sh + n) 0 (omega (arith, length_table (entry_for sh n) 0 (entries sh)))))
      (λ (e : k ≡ n / segment_size → ⊥). entry_kept sh n k (λ d. e (omega arith)) ∙ sym (get_or-set_other (entries_for sh n) (n / segment_size) k (segments_at sh + n) 0 e ∙ entry_at sh n k l))
      (eq? k (n / segment_size))

  pub segment_closed : entries_for sh n ≡ set (entries_for sh (n + 1)) (n / segment_size) 0
  segment_closed =
      let o : entry_for sh n (n / segment_size) ≡ 0 = rw (le-ltb (segment_size * (n / segment_size)) n (omega arith)) in
      sym (ap (λ (l : List ℕ). set l (n / segment_size) 0) segment_opened
      ∙ set-set (entries_for sh n) (n / segment_size) (segments_at sh + n) 0
      ∙ ap (set (entries_for sh n) (n / segment_size)) (sym (entry_at sh n (n / segment_size) (omega arith) ∙ o)) ∙ set-get_or (entries_for sh n) (n / segment_size) 0)

-- the word of any bucket
pub segment_word : (s : Store) → Fair s → (b : ℕ) → b < top_of s.shape → get_or (segments s) b 0 ≡ first (cells_of (bucket s b))
segment_word s r b t =
    ⊎_elim (λ (h : b < length s.buckets). sym (segments_from s b) ∙ segment_at s b h ∙ sym (head_cards (bucket s b)))
    (λ (h : length s.buckets ≤ b). sym (segments_from s b) ∙ segment_past s b r (omega (arith, r.number)) t
    ∙ sym (ap (λ (l : List Card). first (cells_of l)) (get_or-eq_default s.buckets [] {n = b} h))) (lt? b (length s.buckets))

pub segments_by_word : (s : Store) → Fair s → (g : List ℕ) → length g ≡ top_of s.shape → ((b : ℕ) → b < top_of s.shape → get_or g b 0 ≡ first (cells_of (bucket s b))) → g ≡ segments s
segments_by_word s r g l f = ext_get_or 0 g (segments s) (l ∙ sym (segments_length s r)) (λ b h. f b (omega arith) ∙ sym (segment_word s r b (omega arith)))
