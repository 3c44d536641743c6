-- What `desk check` says of a file: whether it is a sound store, what that holds, and its terms.
use Rattle.std.specs.Prelude.{ℕ, ◌≡◌, Bool, true, false, cond, Option, Some, None, List, [], ◌∷◌, ◌++◌, eqb, length}
use Rattle.model.specs.Model.{held, faults_held, size}
use Rattle.model.specs.Layout.{shape_of, decode, sound}
use Rattle.model.specs.Numbers.{not_sound}
use Rattle.model.specs.Text.{lf, space, decimal}
use Rattle.reader.specs.Depot.{Writes}
use Rattle.disk.specs.Bytes.{words_of}
use Rattle.disk.specs.Desk.{sized, number_line}
use Rattle.disk.specs.declared.looks.Seen as Given

-- 0 and what a sound store tells; 3 where the file is none
pub record Seen : Type 0 where
  pub number : ℕ
  pub limit : ℕ
  pub fault_limit : ℕ
  pub upper : ℕ
  pub lower : ℕ
  pub held : ℕ
  pub faults : ℕ
  pub buckets : ℕ

abbrev pub unseen : Seen
unseen = record { number = not_sound; limit = 0; fault_limit = 0; upper = 0; lower = 0; held = 0; faults = 0; buckets = 0 }

abbrev pub told : List ℕ → Seen
told w =
    let sh = shape_of w in
    let s = decode w in
    record { number = 0; limit = sh.limit; fault_limit = sh.fault_limit; upper = sh.upper; lower = sh.lower; held = held s; faults = faults_held s; buckets = size s }

unfoldable pub seen_by : List ℕ → Seen
seen_by w = cond (sound w) (told w) unseen

unfoldable pub desk_check : List ℕ → Seen
desk_check file = cond (sized (length file)) (seen_by (words_of file)) unseen

-- `sound`, `not sound`, each with LF
abbrev pub sound_line : List ℕ
sound_line = 115 ∷ 111 ∷ 117 ∷ 110 ∷ 100 ∷ lf ∷ []

abbrev pub not_sound_line : List ℕ
not_sound_line = 110 ∷ 111 ∷ 116 ∷ space ∷ 115 ∷ 111 ∷ 117 ∷ 110 ∷ 100 ∷ lf ∷ []

-- `cards `, `faults `, `buckets `, `bounds `, ` of `
abbrev pub cards_word : List ℕ
cards_word = 99 ∷ 97 ∷ 114 ∷ 100 ∷ 115 ∷ space ∷ []

abbrev pub faults_word : List ℕ
faults_word = 102 ∷ 97 ∷ 117 ∷ 108 ∷ 116 ∷ 115 ∷ space ∷ []

abbrev pub buckets_word : List ℕ
buckets_word = 98 ∷ 117 ∷ 99 ∷ 107 ∷ 101 ∷ 116 ∷ 115 ∷ space ∷ []

abbrev pub bounds_word : List ℕ
bounds_word = 98 ∷ 111 ∷ 117 ∷ 110 ∷ 100 ∷ 115 ∷ space ∷ []

abbrev pub of_word : List ℕ
of_word = space ∷ 111 ∷ 102 ∷ space ∷ []

-- a line of two numbers: a word, the first, what stands between, the second, LF
unfoldable pub pair_line : List ℕ → ℕ → List ℕ → ℕ → List ℕ
pair_line word a between b = word ++ (decimal a ++ (between ++ number_line b))

-- five lines: `sound`, `cards 133 of 256`, `faults 133 of 512`, `buckets 33`, `bounds 4 2`
unfoldable pub sound_text : Seen → List ℕ
sound_text s =
    sound_line ++ (pair_line cards_word s.held of_word s.limit ++ (pair_line faults_word s.faults of_word s.fault_limit
    ++ ((buckets_word ++ number_line s.buckets) ++ pair_line bounds_word s.upper (space ∷ []) s.lower)))

-- the very bytes that `desk check` writes
unfoldable pub check_text : Seen → List ℕ
check_text s = cond (eqb s.number 0) (sound_text s) not_sound_line

-- room for them, whatever the numbers
abbrev pub check_size : ℕ
check_size = 256

-- what the program holds of a sound store, and of any file
abbrev pub told_in : Given.Seen → Seen
told_in s =
    record {
      number = 0;
      limit = s.cards;
      fault_limit = s.faults;
      upper = s.upper;
      lower = s.lower;
      held = s.held;
      faults = s.filed;
      buckets = s.buckets;
    }

abbrev pub seen_in : Option Given.Seen → Seen
seen_in (Some s) = told_in s
seen_in None = unseen

-- a sound store has the number 0
abbrev pub number_for : Bool → ℕ
number_for true = 0
number_for false = not_sound

-- what it gives and writes
pub record Looks (s : Seen) (out : List ℕ) (number len : ℕ) (out' : List ℕ) : Type 0 where
  pub number_is : number ≡ s.number
  pub text_is : Writes (check_text s) out len out'
