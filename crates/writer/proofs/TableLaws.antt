-- The split and the contraction as the runs of writes that their code makes (`split_words_lem`, `join_words_lem`), and the numbers that they go by.
use mathlib.Core.Path.{◌≡◌}
use mathlib.Core.Logic.{⊎_elim}
use mathlib.Core.List.{List}
use Prim.Native.Nat.{ℕ, ◌+◌, ◌-◌, ◌≤◌, ◌<◌}
use native.Mathlib.Omega.{arith}
use lib.ListN.{set}
use Rattle.rules.specs.Table.{high_maxp, high_p, low_maxp, low_p}
use Rattle.rules.proofs.Tests.{eq?}
use Rattle.rules.proofs.Addresses.{shrunk_on, shrunk_over}
use Rattle.model.specs.Layout.{maxp_at, p_at, segments_at}
use Rattle.model.specs.Meaning.{bucket_word, bucket_cells}
use Rattle.model.specs.Words.{link_at, open_words, close_words, part_words, split_words, join_words}
use Rattle.reads.specs.declared.header.Header.{Header}
use Rattle.reads.specs.Cells.{shape_in, Read}
use Rattle.writer.specs.Table.{MayJoin, segment_set, last_from, last_of}
use Rattle.reads.proofs.AlongLaws.{last_inside}

pub split_words_lem : {w w₁ w₂ w₃ : List ℕ} {h : Header} {m₁ p₁ : ℕ} → Read w h
    → w₁ ≡ part_words h.cards (shape_in h) h.maxp h.p w 0 0 (bucket_word (shape_in h) w h.p)
    → w₂ ≡ segment_set w₁ (h.maxp + h.p) (h.segments + (h.maxp + h.p))
    → m₁ ≡ high_maxp h.maxp h.p → p₁ ≡ high_p h.maxp h.p
    → w₃ ≡ set (set w₂ maxp_at m₁) p_at p₁
    → w₃ ≡ split_words (shape_in h) w
unfolding split_words open_words
split_words_lem r e₁ e₂ a b e₃ = rw (e₃, e₂, e₁, a, b, r.maxp, r.state, r.sized.segments)

-- the bucket that is joined is one of the table
pub low_below : (m p : ℕ) → 2 ≤ m → low_p m p + 1 < m + p
low_below m p h = ⊎_elim (λ (z : p ≡ 0). omega (arith, shrunk_over m p z)) (λ (z : p ≡ 0 → ⊥). omega (arith, shrunk_on m p z)) (eq? p 0)

module _ {w : List ℕ} {h : Header} {b k : ℕ} (pre : MayJoin w h) (low : b ≡ low_p h.maxp h.p) (end : k ≡ last_from (shape_in h) w (bucket_word (shape_in h) w b)) where
  pub join_end : k ≤ h.cards
  unfolding last_from
  join_end = rw (end, low) (last_inside _ _ pre.chain.inside)

  pub join_words_lem : {w₁ w₂ w₃ w₄ : List ℕ} {q m₁ : ℕ}
      → q ≡ bucket_word (shape_in h) w (h.maxp + h.p - 1)
      → w₁ ≡ set w (link_at (shape_in h) b k) q
      → w₂ ≡ set w₁ (segments_at (shape_in h) + (h.maxp + h.p - 1)) 0
      → w₃ ≡ segment_set w₂ (h.maxp + h.p - 1) 0
      → m₁ ≡ low_maxp h.maxp h.p
      → w₄ ≡ set (set w₃ maxp_at m₁) p_at b
      → w₄ ≡ join_words (shape_in h) w (last_of (shape_in h) w (low_p h.maxp h.p))
  unfolding join_words close_words last_of bucket_cells last_from
  join_words_lem d e₁ e₂ e₃ a e₄ = let r = pre.read in rw (e₄, e₃, e₂, e₁, d, a, end, low, r.maxp, r.state)
