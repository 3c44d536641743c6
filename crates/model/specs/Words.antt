-- What the accepted calls write, as functions on the words: runs of single writes in the order in which code makes them. Where nothing
-- else is said they read the words as they were found. That each leaves the words of the changed store is shown in proofs/ (Place, File,
-- Remove, Split, Join).
use Rattle.std.specs.Prelude.{ℕ, zero, suc, ◌+◌, ◌-◌, ◌*◌, ◌/◌, ◌%◌, List, [], ◌∷◌, Bool, cond, eqb, length, get_or, set, replicate}
use Rattle.std.proofs.lemmas.List.Edits.{sets}
use Rattle.rules.specs.Code.{code_of}
use Rattle.rules.specs.Table.{splits, contracts, high_maxp, high_p, low_maxp, low_p}
use Rattle.model.specs.Shape.{Shape, segment_size, top_of, card_width}
use Rattle.model.specs.Layout.{maxp_at, p_at, held_at, faults_held_at, free_at, free_faults_at, to_next, to_first, to_last, to_count, to_day, to_code}
use Rattle.model.specs.Layout.{directory_at, segments_at, fault_width, cards_at, faults_at, last, packed, cell_at, card_word, fault_word}
use Rattle.model.specs.Meaning.{buckets_in, bucket_word, bucket_cells, serial_in}

-- where word k of a card cell stands, and of a fault cell
abbrev pub card_at : Shape → ℕ → ℕ → ℕ
card_at sh i k = cell_at (cards_at sh) (card_width sh) i k

abbrev pub fault_at : Shape → ℕ → ℕ → ℕ
fault_at sh i k = cell_at (faults_at sh) fault_width i k

-- where the cell behind cell i of bucket b's chain is named: in the next word of i, or in the bucket's word if i is 0
unfoldable pub link_at : Shape → ℕ → ℕ → ℕ
link_at sh b i = cond (eqb i 0) (segments_at sh + b) (card_at sh i to_next)

-- the words of a new card at its chain's end
unfoldable pub new_words : List ℕ → List ℕ
new_words y = 0 ∷ length y ∷ packed y 0 ∷ packed y 4 ∷ packed y 8 ∷ packed y 12 ∷ 0 ∷ 0 ∷ 0 ∷ []

-- a new card in the first free cell, behind the last cell i of bucket b's chain
unfoldable pub place_words : Shape → List ℕ → ℕ → ℕ → List ℕ → List ℕ
place_words sh w b i y =
    let new = get_or w free_at 0 in
    let taken = set w free_at (card_word sh w new to_next) in
    let filled = sets taken (card_at sh new to_next) (new_words y) in
    let linked = set filled (link_at sh b i) new in
    set linked held_at (get_or w held_at 0 + 1)

-- a fault in the first free fault cell, behind the last fault of the card in cell i
unfoldable pub file_words : Shape → List ℕ → ℕ → ℕ → ℕ → List ℕ
file_words sh w i day code =
    let new = get_or w free_faults_at 0 in
    let end = card_word sh w i to_last in
    let taken = set w free_faults_at (fault_word sh w new to_next) in
    let filled = sets taken (fault_at sh new to_next) (0 ∷ day ∷ code ∷ []) in
    let linked = set filled (cond (eqb end 0) (card_at sh i to_first) (fault_at sh end to_next)) new in
    let ended = set linked (card_at sh i to_last) new in
    let counted = set ended (card_at sh i to_count) (card_word sh w i to_count + 1) in
    set counted faults_held_at (get_or w faults_held_at 0 + 1)

-- the cells of a history, from cell i on: each zero but for its next word
unfoldable pub clear_words : ℕ → Shape → List ℕ → ℕ → List ℕ
clear_words zero sh w i = w
clear_words (suc fuel) sh w i =
    let rest = clear_words fuel sh (set (set w (fault_at sh i to_day) 0) (fault_at sh i to_code) 0) (get_or w (fault_at sh i to_next) 0) in
    cond (eqb i 0) w rest

-- a history given back, in its order, to the front of the free fault cells: its first cell i, its last one j
unfoldable pub give_words : Shape → List ℕ → ℕ → ℕ → List ℕ
give_words sh w i j =
    let cleared = clear_words sh.fault_limit sh w i in
    let joined = set cleared (fault_at sh j to_next) (get_or w free_faults_at 0) in
    cond (eqb i 0) w (set joined free_faults_at i)

-- the card in cell i, behind cell h of bucket b's chain, taken out, its faults given back, its cell put before the free ones
unfoldable pub remove_words : Shape → List ℕ → ℕ → ℕ → ℕ → List ℕ
remove_words sh w b h i =
    let given = give_words sh w (card_word sh w i to_first) (card_word sh w i to_last) in
    let unlinked = set given (link_at sh b h) (card_word sh w i to_next) in
    let emptied = sets unlinked (card_at sh i to_next) (get_or w free_at 0 ∷ replicate (card_width sh - 1) 0) in
    let freed = set emptied free_at i in
    let counted = set freed held_at (get_or w held_at 0 - 1) in
    set counted faults_held_at (get_or w faults_held_at 0 - card_word sh w i to_count)

-- bucket n appears, and goes: its segment is taken, and freed, with its first bucket
unfoldable pub open_words : Shape → List ℕ → ℕ → List ℕ
open_words sh w n = cond (eqb (n % segment_size) 0) (set w (directory_at + n / segment_size) (segments_at sh + n)) w

unfoldable pub close_words : Shape → List ℕ → ℕ → List ℕ
close_words sh w n = cond (eqb (n % segment_size) 0) (set w (directory_at + n / segment_size) 0) w

-- the card in cell i goes to the new bucket maxp + p
unfoldable pub moves_at : Shape → List ℕ → ℕ → ℕ → ℕ → Bool
moves_at sh w maxp p i = eqb (code_of (serial_in sh w i) % (2 * maxp)) (maxp + p)

-- the cells from x on go one by one behind the last cell k of bucket p's chain, or g of the new one's; then both chains are ended.
-- Each step reads the words as the steps before it left them
unfoldable pub part_words : ℕ → Shape → ℕ → ℕ → List ℕ → ℕ → ℕ → ℕ → List ℕ
part_words zero sh maxp p w k g x = set (set w (link_at sh p k) 0) (link_at sh (maxp + p) g) 0
part_words (suc fuel) sh maxp p w k g x =
    let ended = set (set w (link_at sh p k) 0) (link_at sh (maxp + p) g) 0 in
    let goes = part_words fuel sh maxp p (set w (link_at sh (maxp + p) g) x) k x (card_word sh w x to_next) in
    let stays = part_words fuel sh maxp p (set w (link_at sh p k) x) x g (card_word sh w x to_next) in
    cond (eqb x 0) ended (cond (moves_at sh w maxp p x) goes stays)

-- one bucket more
unfoldable pub split_words : Shape → List ℕ → List ℕ
split_words sh w =
    let maxp = get_or w maxp_at 0 in
    let p = get_or w p_at 0 in
    let parted = part_words sh.limit sh maxp p w 0 0 (bucket_word sh w p) in
    let opened = open_words sh parted (maxp + p) in
    let sized = set opened maxp_at (high_maxp maxp p) in
    set sized p_at (high_p maxp p)

-- one bucket more if the load asks for it
unfoldable pub grow_words : Shape → List ℕ → List ℕ
grow_words sh w = cond (splits (top_of sh) sh.upper (get_or w held_at 0) (buckets_in w)) (split_words sh w) w

-- one bucket less: the last bucket's chain goes behind the last cell k of the chain that it was split from
unfoldable pub join_words : Shape → List ℕ → ℕ → List ℕ
join_words sh w k =
    let maxp = get_or w maxp_at 0 in
    let p = get_or w p_at 0 in
    let going = maxp + p - 1 in
    let joined = set w (link_at sh (low_p maxp p) k) (bucket_word sh w going) in
    let emptied = set joined (segments_at sh + going) 0 in
    let closed = close_words sh emptied going in
    let sized = set closed maxp_at (low_maxp maxp p) in
    set sized p_at (low_p maxp p)

-- one bucket less if the load asks for it
unfoldable pub shrink_words : Shape → List ℕ → List ℕ
shrink_words sh w = cond (contracts sh.lower (get_or w held_at 0) (buckets_in w)) (join_words sh w (last (bucket_cells sh w (low_p (get_or w maxp_at 0) (get_or w p_at 0))))) w
