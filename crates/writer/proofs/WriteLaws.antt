-- What a narrow writer did to a part that was lent on, said of the whole words: `word_lent` for one word of a cell (`card_lent` and
-- `fault_lent` in the two parts), `words_lent` for the first words of one, `bucket_lent` for a bucket's word.
-- The writes of a change, in a row, are the model's function on words (`place_is`, `file_is`, `remove_is`).
use mathlib.Core.Path.{◌≡◌, refl, sym, ap, subst, ◌∙◌}
use mathlib.Core.Bool.{Bool, true, false, cond}
use mathlib.Core.List.{List, [], ◌∷◌, ◌++◌, append_assoc}
use Prim.Native.Nat.{ℕ, suc, ◌+◌, ◌-◌, ◌*◌, ◌≤◌, ◌<◌}
use native.Mathlib.Nat.{mul-le-mul_left}
use native.Mathlib.Omega.{arith}
use lib.Dec.{eqb}
use lib.ListN.{length, get_or, set, take, drop, replicate, length-set}
use lib.Seq.{sets, sets-eq, drop-drop, take-set-le, take-set-lt, drop-set-lt, drop-set-add}
use borrow.Author.Tests.{eq-eqb, ne_eqb}
use borrow.Rule.Slice.PartMut.{mid_of, put_mid, mid_len, put_same, set_mid_at}
use Rattle.model.specs.Bounds.{least_width}
use Rattle.model.specs.Shape.{Shape, card_width}
use Rattle.model.specs.Layout.{held_at, faults_held_at, free_at, free_faults_at, to_next, to_first, to_last, to_count, segments_at, fault_width, faults_at, cell_at, packed, card_word, fault_word}
use Rattle.model.specs.Serial.{valid_serial}
use Rattle.model.specs.Words.{card_at, fault_at, link_at, new_words, place_words, file_words, give_words, remove_words}
use Rattle.reads.specs.declared.header.Header.{Header}
use Rattle.reads.specs.Cells.{shape_in, Sized, width_of, limit_of}
use Rattle.writer.specs.Writes.{place_at}
use Rattle.reads.proofs.SerialLaws.{valid_length, valid_packed}

-- a part from a to e

pub lent_set : (w ys : List ℕ) (a e j v : ℕ) → e ≤ length w → ys ≡ set (mid_of a (e - a) w) j v → j < e - a → put_mid a (e - a) w ys ≡ set w (a + j) v
lent_set w ys a e j v l is b = ap (put_mid a (e - a) w) is ∙ set_mid_at a (e - a) j w v (omega (arith, mid_len a e w l))

lent_sets : (w ys : List ℕ) (a e j : ℕ) (vs : List ℕ) → e ≤ length w → ys ≡ sets (mid_of a (e - a) w) j vs → j + length vs ≤ e - a
    → put_mid a (e - a) w ys ≡ sets w (a + j) vs
lent_sets w ys a e j [] l is b = ap (put_mid a (e - a) w) is ∙ put_same a (e - a) w
lent_sets w ys a e j (v ∷ vs) l is b =
    let u = set w (a + j) v in
    let k = e - a in
    let mid : mid_of a k u ≡ set (mid_of a k w) j v = ap (take k) (drop-set-add a w j v) ∙ take-set-lt k (drop a w) j v (omega arith) in
    let start : take a u ≡ take a w = take-set-le a w (a + j) v (omega arith) in
    let end : drop k (drop a u) ≡ drop k (drop a w) = ap (drop k) (drop-set-add a w j v) ∙ drop-set-lt k (drop a w) j v (omega arith) in
    let next : a + suc j ≡ suc (a + j) = omega arith in
    (λ i. sym start i ++ (ys ++ sym end i))
    ∙ lent_sets u ys a e (suc j) vs (omega (arith, length-set w (a + j) v)) (is ∙ ap (λ (x : List ℕ). sets x (suc j) vs) (sym mid)) (omega arith)
    ∙ ap (λ (m : ℕ). sets u m vs) next

-- cell i, in a part that has it whole, and word k of it
pub cell_whole : (width i n : ℕ) → 1 ≤ i → width * i ≤ n → width * (i - 1) + width ≤ n
cell_whole width i n a b =
    let e : width * (i - 1 + 1) ≡ width * i = ap (λ (m : ℕ). width * m) (let d : i - 1 + 1 ≡ i = omega arith in d) in
    omega arith

pub cell_within : (width i k n : ℕ) → 1 ≤ i → width * i ≤ n → k < width → width * (i - 1) + k < n
cell_within width i k n a b l = omega (arith, cell_whole width i n a b)

-- words written one behind another, and the words before and behind them
pub written_over : (l vs : List ℕ) (a : ℕ) → a + length vs ≤ length l → take a l ++ (vs ++ drop (a + length vs - a) (drop a l)) ≡ sets l a vs
written_over l vs a h =
    let k : a + length vs - a ≡ length vs = omega arith in
    rw (k, drop-drop (length vs) a l) (sym (append_assoc (take a l) vs (drop (a + length vs) l)) ∙ sym (sets-eq vs l a h))

-- the parts of a store, from where its header says

module _ {w : List ℕ} {h : Header} (s : Sized w h) where
  pub bucket_lent : (ys : List ℕ) (b v : ℕ) → b < h.top → ys ≡ set (mid_of h.segments (h.base - h.segments) w) b v
      → put_mid h.segments (h.base - h.segments) w ys ≡ set w (segments_at (shape_in h) + b) v
  bucket_lent ys b v l r = let m = s.room in lent_set w ys h.segments h.base b v (omega arith) r (omega arith) ∙ ap (λ (n : ℕ). set w (n + b) v) s.segments

  -- what it takes to write a word of a cell, and its first words
  module _ {i : ℕ} (low : 1 ≤ i) where
    module _ (high : i ≤ h.cards) where
      pub card_put : (k : ℕ) → k < least_width → Sized w h × (1 ≤ i) × (i ≤ limit_of (shape_in h) false) × (k < width_of (shape_in h) false)
      unfolding limit_of width_of
      card_put k l = (s, low, high, omega (arith, s.width, s.room.wide))

      pub card_cell_put : (n : ℕ) → n ≤ least_width → Sized w h × (1 ≤ i) × (i ≤ limit_of (shape_in h) false) × (n ≤ width_of (shape_in h) false)
      unfolding limit_of width_of
      card_cell_put n l = (s, low, high, omega (arith, s.width, s.room.wide))

    module _ (high : i ≤ h.faults) where
      pub fault_put : (k : ℕ) → k < fault_width → Sized w h × (1 ≤ i) × (i ≤ limit_of (shape_in h) true) × (k < width_of (shape_in h) true)
      unfolding limit_of width_of
      fault_put k l = (s, low, high, l)

      pub fault_cell_put : (n : ℕ) → n ≤ fault_width → Sized w h × (1 ≤ i) × (i ≤ limit_of (shape_in h) true) × (n ≤ width_of (shape_in h) true)
      unfolding limit_of width_of
      fault_cell_put n l = (s, low, high, l)

  -- a part ends within the words
  pub part_end : (faults : Bool) {start width limit : ℕ} → start ≡ cond faults h.behind h.base → width ≡ width_of (shape_in h) faults → limit ≡ limit_of (shape_in h) faults
      → start + width * limit ≤ length w
  unfolding width_of limit_of faults_at
  part_end true {start} {width} {limit} p z l = let r = s.room in let e : width * limit ≡ fault_width * h.faults = λ t. z t * l t in omega (arith, p, e, r.whole)
  part_end false {start} {width} {limit} p z l = let r = s.room in let e : width * limit ≡ card_width (shape_in h) * h.cards = λ t. z t * l t in omega (arith, p, e, s.base, s.behind, r.whole)

  -- where word k of its cell i stands
  place_in : (faults : Bool) {start width : ℕ} → start ≡ cond faults h.behind h.base → width ≡ width_of (shape_in h) faults → (i k : ℕ)
      → start + (width * (i - 1) + k) ≡ place_at (shape_in h) faults i k
  unfolding width_of cell_at
  place_in true p z i k = (λ t. (p ∙ s.behind) t + (z t * (i - 1) + k)) ∙ omega arith
  place_in false p z i k = (λ t. (p ∙ s.base) t + (z t * (i - 1) + k)) ∙ omega arith

  -- a word of a cell, and the first words of one, written in the part
  module _ (faults : Bool) {start width limit : ℕ} (p : start ≡ cond faults h.behind h.base) (z : width ≡ width_of (shape_in h) faults) (l : limit ≡ limit_of (shape_in h) faults) where
    part_long : length (mid_of start (start + width * limit - start) w) ≡ width * limit
    part_long = mid_len start (start + width * limit) w (part_end faults p z l) ∙ omega arith

    pub cell_room : (i : ℕ) → i ≤ limit_of (shape_in h) faults → width * i ≤ length (mid_of start (start + width * limit - start) w)
    cell_room i b = let e : width * i ≤ width * limit = mul-le-mul_left width (omega (arith, l)) in omega (arith, part_long)

    module _ (ys : List ℕ) (i : ℕ) (low : 1 ≤ i) (high : i ≤ limit_of (shape_in h) faults) where
      pub word_lent : (k v : ℕ) → k < width_of (shape_in h) faults → ys ≡ set (mid_of start (start + width * limit - start) w) (width * (i - 1) + k) v
          → put_mid start (start + width * limit - start) w ys ≡ set w (place_at (shape_in h) faults i k) v
      word_lent k v b r =
          let c = cell_within width i k (width * limit) low (omega (arith, cell_room i high, part_long)) (omega (arith, z)) in
          lent_set w ys start (start + width * limit) (width * (i - 1) + k) v (part_end faults p z l) r (omega arith) ∙ ap (λ (n : ℕ). set w n v) (place_in faults p z i k)

      pub words_lent : (vs : List ℕ) → length vs ≤ width_of (shape_in h) faults → ys ≡ sets (mid_of start (start + width * limit - start) w) (width * (i - 1)) vs
          → put_mid start (start + width * limit - start) w ys ≡ sets w (place_at (shape_in h) faults i to_next) vs
      words_lent vs b r =
          let e = cell_whole width i (length (mid_of start (start + width * limit - start) w)) low (cell_room i high) in
          lent_sets w ys start (start + width * limit) (width * (i - 1)) vs (part_end faults p z l) r (omega (arith, part_long, z))
          ∙ ap (λ (n : ℕ). sets w n vs) (omega (arith, place_in faults p z i to_next))

-- the same of each of the two parts, from where the header says
module _ {w : List ℕ} {h : Header} (s : Sized w h) (ys : List ℕ) (i : ℕ) (low : 1 ≤ i) (k v : ℕ) where
  pub card_lent : i ≤ h.cards → k < h.width → ys ≡ set (mid_of h.base (h.behind - h.base) w) (h.width * (i - 1) + k) v
      → put_mid h.base (h.behind - h.base) w ys ≡ set w (card_at (shape_in h) i k) v
  unfolding limit_of width_of faults_at
  card_lent b l r =
      let e : h.width * h.cards ≡ card_width (shape_in h) * h.cards = ap (λ (n : ℕ). n * h.cards) s.width in
      let n : h.base + h.width * h.cards - h.base ≡ h.behind - h.base = omega (arith, e, s.base, s.behind) in
      subst (λ (n : ℕ). put_mid h.base n w ys ≡ set w (card_at (shape_in h) i k) v) n
      (word_lent s false refl s.width refl ys i low b k v (omega (arith, s.width)) (r ∙ ap (λ (n : ℕ). set (mid_of h.base n w) (h.width * (i - 1) + k) v) (sym n)))

  pub fault_lent : i ≤ h.faults → k < fault_width → ys ≡ set (mid_of h.behind (length w - h.behind) w) (fault_width * (i - 1) + k) v
      → put_mid h.behind (length w - h.behind) w ys ≡ set w (fault_at (shape_in h) i k) v
  unfolding limit_of width_of
  fault_lent b l r =
      let m = s.room in
      let n : h.behind + fault_width * h.faults - h.behind ≡ length w - h.behind = omega (arith, m.whole) in
      subst (λ (n : ℕ). put_mid h.behind n w ys ≡ set w (fault_at (shape_in h) i k) v) n
      (word_lent s true refl refl refl ys i low b k v l (r ∙ ap (λ (n : ℕ). set (mid_of h.behind n w) (fault_width * (i - 1) + k) v) (sym n)))

-- the next word of a cell of a chain, or the bucket's word
pub link_bucket : (sh : Shape) (b : ℕ) {i : ℕ} → i ≡ 0 → segments_at sh + b ≡ link_at sh b i
unfolding link_at
link_bucket sh b {i} e = rw (eq-eqb i 0 e)

pub link_card : (sh : Shape) (b : ℕ) {i : ℕ} → (i ≡ 0 → ⊥) → card_at sh i to_next ≡ link_at sh b i
unfolding link_at
link_card sh b {i} e = rw (ne_eqb i 0 e)

-- a new card's words, of all sixteen bytes that its serial travels in
pub new_words_lem : (bytes : List ℕ) (n : ℕ) → valid_serial bytes n ≡ true
    → new_words (take n bytes) ≡ 0 ∷ n ∷ packed bytes 0 ∷ packed bytes 4 ∷ packed bytes 8 ∷ packed bytes 12 ∷ 0 ∷ 0 ∷ 0 ∷ []
unfolding new_words
new_words_lem bytes n v =
    rw (valid_length bytes n v, valid_packed bytes n v 0, valid_packed bytes n v 4, valid_packed bytes n v 8, valid_packed bytes n v 12)

-- The changes, by the equations that their code goes through

pub place_is : (sh : Shape) (w : List ℕ) (b i : ℕ) (bytes : List ℕ) (n : ℕ) → {next : ℕ} {ws w₁ w₂ : List ℕ} → let new = get_or w free_at 0 in
    next ≡ card_word sh w new to_next → ws ≡ new_words (take n bytes) → w₁ ≡ sets (set w free_at next) (card_at sh new to_next) ws
    → w₂ ≡ set w₁ (link_at sh b i) new → set w₂ held_at (get_or w held_at 0 + 1) ≡ place_words sh w b i (take n bytes)
unfolding place_words
place_is sh w b i bytes n next ws e₁ e₂ = rw (e₂, e₁, ws, next)

pub file_is : (sh : Shape) (w : List ℕ) (i day code : ℕ) → {next last count : ℕ} {w₁ w₂ w₃ : List ℕ} → let new = get_or w free_faults_at 0 in
    next ≡ fault_word sh w new to_next → last ≡ card_word sh w i to_last → count ≡ card_word sh w i to_count
    → w₁ ≡ sets (set w free_faults_at next) (fault_at sh new to_next) (0 ∷ day ∷ code ∷ []) → w₂ ≡ set w₁ (cond (eqb last 0) (card_at sh i to_first) (fault_at sh last to_next)) new
    → w₃ ≡ set (set (set w₂ (card_at sh i to_last) new) (card_at sh i to_count) (count + 1)) faults_held_at (get_or w faults_held_at 0 + 1) → w₃ ≡ file_words sh w i day code
unfolding file_words
file_is sh w i day code next last count e₁ e₂ e₃ = rw (e₃, e₂, e₁, count, last, next)

pub remove_is : (sh : Shape) (w : List ℕ) (b h i : ℕ) {next first last count : ℕ} {w₁ w₂ w₃ : List ℕ} → next ≡ card_word sh w i to_next → first ≡ card_word sh w i to_first
    → last ≡ card_word sh w i to_last → count ≡ card_word sh w i to_count → w₁ ≡ give_words sh w first last → w₂ ≡ set w₁ (link_at sh b h) next
    → w₃ ≡ set (sets w₂ (card_at sh i to_next) (get_or w free_at 0 ∷ replicate (card_width sh - 1) 0)) free_at i
    → set (set w₃ held_at (get_or w held_at 0 - 1)) faults_held_at (get_or w faults_held_at 0 - count) ≡ remove_words sh w b h i
unfolding remove_words
remove_is sh w b h i next first last count e₁ e₂ e₃ = rw (e₃, e₂, e₁, count, last, first, next)
