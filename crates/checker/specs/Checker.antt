-- The checker as a function of the words and the marks, in the order in which the code goes.
use Rattle.std.specs.Prelude.{◌≡◌, Bool, true, false, cond, ◌&&◌, List, map, ℕ, ◌+◌, ◌-◌, ◌*◌, ◌≤◌, eqb, ltb, length, drop, get_or}
use Rattle.rules.specs.Table.{state_ok, load_fits}
use Rattle.model.specs.Lists.{all, from}
use Rattle.model.specs.Shape.{Shape, segment_size, entries, top_of, need}
use Rattle.model.specs.Layout.{maxp_at, p_at, held_at, faults_held_at, free_at, free_faults_at, to_next, to_first, to_last, to_count, directory_at, segments_at, shape_of, card_word}
use Rattle.reads.specs.Cells.{shape_in, Read, cell_word, limit_of}
use Rattle.checker.specs.Fits.{cell_fits}
use Rattle.reads.specs.declared.header.Header.{Header}
use Rattle.checker.specs.declared.fits.Chain.{Chain}
use Rattle.checker.specs.declared.fits.Chain.TheVariants.{Free, Bucket, History}
use Rattle.reads.specs.Front.{limits_fit, offsets_fit}
use Rattle.checker.specs.Walk.{Out, Start, Tot, walk_of, walks_from}

-- the directory word of segment k with b buckets, where the segments begin at `segments`
unfoldable pub entry_for : ℕ → ℕ → ℕ → ℕ
entry_for segments b k = cond (ltb (segment_size * k) b) (segments + segment_size * k) 0

unfoldable pub directory_fits : Shape → List ℕ → ℕ → Bool
directory_fits sh w b = all (λ k. eqb (get_or w (directory_at + k) 0) (entry_for (segments_at sh) b k)) (from 0 (entries sh))

-- bucket words from b on
unfoldable pub rest_fits : Shape → List ℕ → ℕ → Bool
rest_fits sh w b = all (λ j. eqb (get_or w (segments_at sh + j) 0) 0) (from b (top_of sh - b))

-- the load of the cards that word 5 says are held, the directory and the bucket words past b buckets
abbrev pub table_fits : Shape → List ℕ → ℕ → Bool
table_fits sh w b = load_fits (top_of sh) sh.upper sh.lower (get_or w held_at 0) b && (directory_fits sh w b && rest_fits sh w b)

-- all words before the cells but the chains' first cells
unfoldable pub front_fits : List ℕ → Bool
front_fits w =
    let sh = shape_of w in
    let b = get_or w maxp_at 0 + get_or w p_at 0 in
    limits_fit w && (offsets_fit w && (state_ok (top_of sh) (get_or w maxp_at 0) (get_or w p_at 0) && table_fits sh w b))

-- the chains of a part beside the free one: bucket j, or the history of card j + 1 with its count and last fault
unfoldable pub first_of : Shape → List ℕ → Bool → ℕ → ℕ
first_of sh w faults j = cond faults (card_word sh w (j + 1) to_first) (get_or w (segments_at sh + j) 0)

unfoldable pub end_fits : Shape → List ℕ → Bool → ℕ → ℕ → ℕ → Bool
end_fits sh w faults j count last = cond faults (eqb count (card_word sh w (j + 1) to_count) && eqb last (card_word sh w (j + 1) to_last)) true

abbrev pub chain_of : Bool → ℕ → Chain
chain_of faults j = cond faults History (Bucket j)

abbrev pub start_of : Shape → List ℕ → Bool → ℕ → Start
start_of sh w faults j = record { first = first_of sh w faults j; good = cell_fits sh w faults (chain_of faults j); fits = end_fits sh w faults j }

abbrev pub next_in : Shape → List ℕ → Bool → ℕ → ℕ
next_in sh w faults i = cell_word sh w faults i to_next

-- the numbers that mark the cells of a part begin at 0 for cards and behind them for faults
unfoldable pub base_of : Shape → Bool → ℕ
base_of sh faults = cond faults sh.limit 0

-- how many such chains there can be
unfoldable pub reach_of : Shape → Bool → ℕ
reach_of sh faults = cond faults sh.limit (top_of sh)

-- what a walk asks: the header is read, and the scratch has a mark for each cell
pub record Walkable (w bytes : List ℕ) (h : Header) : Type 0 where
  pub read : Read w h
  pub scratch : need (shape_in h) ≤ length bytes

-- the walk of one chain of a part
abbrev pub walk_in : Shape → List ℕ → Bool → Chain → List ℕ → ℕ → Out
walk_in sh w faults chain bytes first = walk_of (cell_fits sh w faults chain) (next_in sh w faults) (base_of sh faults) (limit_of sh faults) bytes first

-- the walks of the first n such chains
unfoldable pub chains_of : Shape → List ℕ → Bool → ℕ → List ℕ → Tot
chains_of sh w faults n bytes = walks_from (next_in sh w faults) (base_of sh faults) (limit_of sh faults) (map (start_of sh w faults) (from 0 n)) bytes 0

-- the walk of the free chain
unfoldable pub free_of : Shape → List ℕ → Bool → List ℕ → Out
free_of sh w faults bytes = walk_of (cell_fits sh w faults Free) (next_in sh w faults) (base_of sh faults) (limit_of sh faults) bytes (get_or w (cond faults free_faults_at free_at) 0)

-- how many chains there are, and the word that says how many cells stand in them
unfoldable pub chain_count : Shape → List ℕ → Bool → ℕ
chain_count sh w faults = cond faults sh.limit (get_or w maxp_at 0 + get_or w p_at 0)

unfoldable pub held_word : List ℕ → Bool → ℕ
held_word w faults = get_or w (cond faults faults_held_at held_at) 0

-- a part is right where its chains are, the held cells are as many as the header says, and all cells stand in a chain
pub record Checked : Type 0 where
  pub ok : Bool
  pub bytes : List ℕ

-- what a function that checks a part answers and leaves is what `part_of` says
pub record DidPart (o : Checked) (ok : Bool) (left : List ℕ) : Type 0 where
  pub ok_is : ok ≡ o.ok
  pub left_is : left ≡ o.bytes

unfoldable pub part_of : Shape → List ℕ → Bool → List ℕ → Checked
part_of sh w faults bytes =
    let free = free_of sh w faults bytes in
    let held = chains_of sh w faults (chain_count sh w faults) free.bytes in
    record {
      ok = free.ok && (held.ok && (eqb held.total (held_word w faults) && eqb (free.count + held.total) (limit_of sh faults)));
      bytes = cond free.ok held.bytes free.bytes;
    }

-- the words are those of a sound store: the front, then the cards, then the faults
unfoldable pub checked : List ℕ → List ℕ → Bool
checked w bytes =
    let sh = shape_of w in
    front_fits w && ((part_of sh w false bytes).ok && (part_of sh w true (part_of sh w false bytes).bytes).ok)

-- what the program answers is `checked`, and no byte behind the marks has changed
pub record DidCheck (w bytes : List ℕ) (ok : Bool) (left : List ℕ) : Type 0 where
  pub ok_is : ok ≡ checked w bytes
  pub rest : drop (need (shape_of w)) left ≡ drop (need (shape_of w)) bytes
