-- Where a word of a cell stands, and what each change asks of the words that it writes: that all cells it names are there.
use Rattle.std.specs.Prelude.{◌≡◌, Bool, true, false, List, ℕ, ◌≤◌, ◌<◌, get_or}
use Rattle.model.specs.Shape.{Shape}
use Rattle.model.specs.Words.{card_at, fault_at}
use Rattle.model.specs.Layout.{held_at, faults_held_at, free_at, free_faults_at, to_first, to_last, to_count, last, follow, card_word}
use Rattle.model.specs.Meaning.{next_fault}
use Rattle.reads.specs.Cells.{shape_in, Sized}
use Rattle.reads.specs.Chains.{Ends}
use Rattle.reads.specs.declared.header.Header.{Header}

-- where word k of cell i of the faults or of the cards stands
abbrev pub place_at : Shape → Bool → ℕ → ℕ → ℕ
place_at sh true i k = fault_at sh i k
place_at sh false i k = card_at sh i k

-- a new card: there is a free cell, and i is a cell of the chain of bucket b or 0
pub record MayPlace (w : List ℕ) (h : Header) (b i : ℕ) : Type 0 where
  pub sized : Sized w h
  pub bucket : b < h.top
  pub behind : i ≤ h.cards
  pub free : 1 ≤ get_or w free_at 0
  pub within : get_or w free_at 0 ≤ h.cards
  pub held : get_or w held_at 0 ≤ h.cards

-- a new fault of the card in cell i: there is a free cell, and the card's last fault is a fault cell or 0
pub record MayFile (w : List ℕ) (h : Header) (i : ℕ) : Type 0 where
  pub sized : Sized w h
  pub card : 1 ≤ i
  pub inside : i ≤ h.cards
  pub free : 1 ≤ get_or w free_faults_at 0
  pub within : get_or w free_faults_at 0 ≤ h.faults
  pub last : card_word (shape_in h) w i to_last ≤ h.faults
  pub count : card_word (shape_in h) w i to_count ≤ h.faults
  pub held : get_or w faults_held_at 0 ≤ h.faults

-- a card taken out: it stands in cell i behind cell j of bucket b's chain, or first where j is 0; its history ends, and the card's words and
-- the counts say so
pub record MayRemove (w : List ℕ) (h : Header) (b j i : ℕ) : Type 0 where
  pub sized : Sized w h
  pub bucket : b < h.top
  pub behind : j ≤ h.cards
  pub card : 1 ≤ i
  pub inside : i ≤ h.cards
  pub held : 1 ≤ get_or w held_at 0
  pub filed : card_word (shape_in h) w i to_count ≤ get_or w faults_held_at 0
  pub ends : Ends h.faults (next_fault (shape_in h) w) (card_word (shape_in h) w i to_first)
  pub last_is : card_word (shape_in h) w i to_last ≡ last (follow h.faults (next_fault (shape_in h) w) (card_word (shape_in h) w i to_first))
