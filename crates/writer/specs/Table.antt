-- What a split and a contraction ask of the words that they write, and what they write into the directory.
use Rattle.std.specs.Prelude.{◌≡◌, true, cond, List, ℕ, ◌+◌, ◌/◌, ◌%◌, ◌≤◌, ◌<◌, eqb, set}
use Rattle.rules.specs.Table.{low_p}
use Rattle.model.specs.Shape.{segment_size, Shape}
use Rattle.model.specs.Layout.{directory_at, last, follow, fair, encode, decode}
use Rattle.model.specs.Meaning.{next_card, bucket_word, bucket_cells}
use Rattle.reads.specs.Cells.{shape_in, Read}
use Rattle.reads.specs.Chains.{Ends}
use Rattle.reads.specs.declared.header.Header.{Header}

-- one bucket more: there is room for it, and the chain of bucket p comes to its end
pub record MaySplit (w : List ℕ) (h : Header) : Type 0 where
  pub read : Read w h
  pub some : 1 ≤ h.maxp
  pub room : h.maxp + h.p < h.top
  pub chain : Ends h.cards (next_card (shape_in h) w) (bucket_word (shape_in h) w h.p)

-- one bucket less: there are two at least, and the chain that the last one goes behind comes to its end
pub record MayJoin (w : List ℕ) (h : Header) : Type 0 where
  pub read : Read w h
  pub some : 2 ≤ h.maxp
  pub room : h.maxp + h.p ≤ h.top
  pub chain : Ends h.cards (next_card (shape_in h) w) (bucket_word (shape_in h) w (low_p h.maxp h.p))

-- where bucket n is the first of its segment, the directory's word for that becomes v
abbrev pub segment_set : List ℕ → ℕ → ℕ → List ℕ
segment_set w n v = cond (eqb (n % segment_size) 0) (set w (directory_at + n / segment_size) v) w

-- the last cell of the chain from cell h on, and of bucket b's chain; 0 for none
unfoldable pub last_from : Shape → List ℕ → ℕ → ℕ
last_from sh w h = last (follow sh.limit (next_card sh w) h)

unfoldable pub last_of : Shape → List ℕ → ℕ → ℕ
last_of sh w b = last (bucket_cells sh w b)

-- the words of a store that is sound but for its load, which an entry or a withdrawal may just have broken
pub record Fairly (w : List ℕ) : Type 0 where
  pub store : fair (decode w) ≡ true
  pub words : encode (decode w) ≡ w
