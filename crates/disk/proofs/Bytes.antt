-- Bytes and words. What `u32::from_le_bytes` reads of each chunk of four bytes are the words (`words_are`), and words are others than those of the chunks
-- where one differs (`differs_are`); one word more is written behind the others (`write_more`, `write_end`). And both ways round: the bytes of words are read
-- back as these words (`words_back`), and the words of whole bytes are written back as these bytes (`bytes_back`).
use Prim.Native.Nat.{ℕ, zero, suc, ◌+◌, ◌*◌, ◌/◌, ◌%◌, ◌-◌, ◌≤◌, ◌<◌}
use mathlib.Core.Path.{◌≡◌, refl, sym, ◌∙◌}
use mathlib.Core.Bool.{not}
use mathlib.Core.List.{List, [], ◌∷◌, ◌++◌, map, append_assoc, append-nil}
use native.Mathlib.Nat.{mod-add-div}
use native.Mathlib.Numerals.{add-one}
use native.Mathlib.Omega.{arith}
use borrow.Rule.Slice.PartMut.{put_mid}
use lib.Dec.{eqb}
use lib.ListN.{length, take, drop, get_or, drop_of_length-le}
use lib.Seq.{take_all, drop-cons}
use Rattle.std.specs.Int.{w32, from_le_bytes, to_le_bytes}
use Rattle.std.specs.List.{list_any, zip}
use Rattle.std.specs.Simd.{first_chunks}
use Rattle.std.proofs.lemmas.Slice.{take-put_mid}
use Rattle.rules.proofs.Tests.{by_cases}
use Rattle.model.specs.Lists.{same}
use Rattle.model.proofs.Lists.{Every}
use Rattle.disk.specs.Bytes.{word_of, words_of, four, file_of}

word_is : (a b c d : ℕ) → from_le_bytes w32 (a ∷ b ∷ c ∷ d ∷ []) ≡ word_of a b c d
unfolding word_of
word_is a b c d = omega arith

pub words_are : (b : List ℕ) (k : ℕ) → length b ≡ 4 * k → map (from_le_bytes w32) (first_chunks 4 k b) ≡ words_of b
unfolding words_of
words_are [] zero l = refl
words_are [] (suc k) l = absurd (omega arith)
words_are (a ∷ b) zero l = absurd (omega arith)
words_are (a ∷ []) (suc k) l = absurd (omega arith)
words_are (a ∷ b ∷ []) (suc k) l = absurd (omega arith)
words_are (a ∷ b ∷ c ∷ []) (suc k) l = absurd (omega arith)
words_are (a ∷ b ∷ c ∷ d ∷ bs) (suc k) l = rw (word_is a b c d, words_are bs k (omega arith))

pub differs_are : (f : List ℕ → ℕ) (w : List ℕ) (cs : List (List ℕ)) → length w ≡ length cs
    → list_any (λ (p : ℕ × List ℕ). not (eqb p.0 (f p.1))) (zip w cs) ≡ not (same w (map f cs))
differs_are f [] [] l = refl
differs_are f [] (c ∷ cs) l = absurd (omega arith)
differs_are f (x ∷ w) [] l = absurd (omega arith)
differs_are f (x ∷ w) (c ∷ cs) l =
    by_cases (eqb x (f c)) (λ e. rw e (differs_are f w cs (omega arith))) (λ e. rw e)

pub four_is : (w : ℕ) → to_le_bytes w32 w ≡ four w
unfolding four
four_is w =
    let e₂ : w / 256 / 256 ≡ w / 65536 = omega arith in
    let e₃ : w / 256 / 256 / 256 ≡ w / 16777216 = omega arith in
    rw (e₃, e₂)

file_on : (w : List ℕ) (i : ℕ) → i < length w → file_of (drop i w) ≡ four (get_or w i 0) ++ file_of (drop (i + 1) w)
unfolding file_of
file_on w i h = rw (drop-cons w i 0 h, add-one i)

pub write_more : (w b whole v : List ℕ) (i k : ℕ) → i < length w → 4 * i + 4 ≤ length b → v ≡ to_le_bytes w32 (get_or w i 0)
    → take (4 * i) b ++ file_of (drop i w) ≡ whole → take (4 * (i + 1)) (put_mid (4 * i) k b v) ++ file_of (drop (i + 1) w) ≡ whole
unfolding four
write_more w b whole v i k h fits e old =
    let is : v ≡ four (get_or w i 0) = e ∙ four_is (get_or w i 0) in
    let long : length v ≡ 4 = rw is refl in
    let front = take-put_mid (4 * i) k b v (4 * (i + 1)) (omega arith) (omega arith) in
    rw (front, append_assoc (take (4 * i) b) v (file_of (drop (i + 1) w)), is, ← (file_on w i h)) old

pub write_end : (w b whole : List ℕ) (i : ℕ) → length w ≤ i → length b ≤ 4 * i → take (4 * i) b ++ file_of (drop i w) ≡ whole → b ≡ whole
unfolding file_of
write_end w b whole i h k old = sym (append-nil b) ∙ (rw (drop_of_length-le w h, take_all (4 * i) b k) at old)

-- both ways round
pub four_back : (w : ℕ) → w < 4294967296 → word_of (w % 256) (w / 256 % 256) (w / 256 / 256 % 256) (w / 256 / 256 / 256 % 256) ≡ w
unfolding word_of
four_back w h = omega (arith, mod-add-div w 256, mod-add-div (w / 256) 256, mod-add-div (w / 256 / 256) 256, mod-add-div (w / 256 / 256 / 256) 256)

pub words_back : (ws : List ℕ) → Every (λ w. w < 4294967296) ws → words_of (file_of ws) ≡ ws
unfolding words_of file_of four
words_back [] h = refl
words_back (w ∷ ws) h = rw (four_back w h.0, words_back ws h.1)

low_back : (a r : ℕ) → a < 256 → ((a + 256 * r) % 256 ≡ a) × ((a + 256 * r) / 256 ≡ r)
low_back a r h = (omega (arith, mod-add-div (a + 256 * r) 256), omega (arith, mod-add-div (a + 256 * r) 256))

word_back : (a b c d : ℕ) → a < 256 → b < 256 → c < 256 → d < 256 → four (word_of a b c d) ≡ a ∷ b ∷ c ∷ d ∷ []
unfolding four word_of
word_back a b c d ha hb hc hd =
    let x = low_back a (b + 256 * (c + 256 * d)) ha in
    let y = low_back b (c + 256 * d) hb in
    let z = low_back c d hc in
    let e : d % 256 ≡ d = omega (arith, mod-add-div d 256) in
    rw (x.0, x.1, y.0, y.1, z.0, z.1, e)

pub bytes_back : (bs : List ℕ) (k : ℕ) → length bs ≡ 4 * k → Every (λ b. b < 256) bs → file_of (words_of bs) ≡ bs
unfolding words_of file_of
bytes_back [] k l h = refl
bytes_back (a ∷ []) k l h = absurd (omega arith)
bytes_back (a ∷ b ∷ []) k l h = absurd (omega arith)
bytes_back (a ∷ b ∷ c ∷ []) k l h = absurd (omega arith)
bytes_back (a ∷ b ∷ c ∷ d ∷ bs) k l h =
    rw (word_back a b c d h.0 h.1.0 h.1.1.0 h.1.1.1.0, bytes_back bs (k - 1) (omega arith) h.1.1.1.1)
