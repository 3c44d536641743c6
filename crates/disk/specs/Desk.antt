-- What `desk` makes of a file: a job on it, and a fresh one.
use Rattle.std.specs.Prelude.{ℕ, ◌-◌, ◌*◌, ◌%◌, ◌≡◌, Bool, false, not, ◌&&◌, cond, List, [], ◌∷◌, ◌++◌, eqb, length, Result, Ok, Err}
use Rattle.model.specs.Lists.{same, between}
use Rattle.model.specs.Bounds.{cards_ever}
use Rattle.model.specs.Shape.{faults_ever}
use Rattle.model.specs.Layout.{first_upper, first_lower, fault_width, length_for}
use Rattle.model.specs.Calls.{Terms, shape_for, Opened, open_call}
use Rattle.model.specs.Text.{lf, is_number, value_from, decimal}
use Rattle.model.specs.Job.{Finished}
use Rattle.store.specs.Numbers.{number_of}
use Rattle.store.specs.declared.numbers.Refusal.{Refusal}
use Rattle.reader.specs.Depot.{blank, whole_text, job_on, Writes}
use Rattle.disk.specs.Bytes.{words_of, file_of}

-- the words of a store with these limits
abbrev pub words_for : ℕ → ℕ → ℕ
words_for cards faults = length_for (shape_for (record { cards = cards; faults = faults; upper = first_upper; lower = first_lower }))

-- the shortest store and the longest, in words and in bytes: those with the lowest and the highest limits
unfoldable pub least_words : ℕ
least_words = words_for 1 1

unfoldable pub most_words : ℕ
most_words = words_for cards_ever faults_ever

abbrev pub least_bytes : ℕ
least_bytes = 4 * least_words

abbrev pub most_bytes : ℕ
most_bytes = 4 * most_words

-- a length that a store's file can have: a card takes as many words as three faults, so from the shortest store to the longest each fault more makes one
abbrev pub fault_bytes : ℕ
fault_bytes = 4 * fault_width

unfoldable pub sized : ℕ → Bool
sized n = between least_bytes most_bytes n && eqb ((n - least_bytes) % fault_bytes) 0

-- what comes of a file: a number, the words and the bytes of the file afterwards, what is written, and whether the file is to be saved
pub record Desk : Type 0 where
  pub number : ℕ
  pub words : List ℕ
  pub file : List ℕ
  pub text : List ℕ
  pub save : Bool

-- a job on words that has ended: it is saved exactly where a word changed
unfoldable pub after : List ℕ → Finished → Desk
after w f = record { number = f.number; words = f.words; file = file_of f.words; text = whole_text f; save = not (same f.words w) }

-- a file of a length that no store has: the job finds no words, which are not those of a sound store, and the file stays as it is
unfoldable pub untouched : List ℕ → Finished → Desk
untouched file f = record { number = f.number; words = words_of file; file = file; text = whole_text f; save = false }

-- a job on a file
unfoldable pub desk_job : List ℕ → List ℕ → Desk
desk_job file text = cond (sized (length file)) (after (words_of file) (job_on (words_of file) text)) (untouched file (job_on [] text))

-- what the program gives and leaves, held to it; the bytes left are read back as the words
pub record Serves (d : Desk) (out : List ℕ) (number len : ℕ) (save : Bool) (file' out' : List ℕ) : Type 0 where
  pub number_is : number ≡ d.number
  pub save_is : save ≡ d.save
  pub file_is : file' ≡ d.file
  pub back_are : words_of file' ≡ d.words
  pub text_is : Writes d.text out len out'

-- an argument's value; what is no number of 1 to 9 digits counts as 0, which no limit and no bound may be
unfoldable pub argument : List ℕ → ℕ
argument a = cond (is_number a) (value_from 0 a) 0

-- what Open is asked for by four arguments
abbrev pub terms_from : List ℕ → List ℕ → List ℕ → List ℕ → Terms
terms_from cards faults upper lower = record { cards = argument cards; faults = argument faults; upper = argument upper; lower = argument lower }

-- a number as a line of its own
unfoldable pub number_line : ℕ → List ℕ
number_line n = decimal n ++ (lf ∷ [])

-- a store that was opened, as a file, where Open gave 0; the number is written as a line
unfoldable pub file_from : Opened → Desk
file_from o =
    let done = eqb o.number 0 in
    record { number = o.number; words = cond done o.words []; file = cond done (file_of o.words) []; text = number_line o.number; save = done }

-- a fresh file for these terms: Open on as many words as they ask for
unfoldable pub fresh_for : Terms → Desk
fresh_for t = file_from (open_call (blank (length_for (shape_for t))) t)

unfoldable pub desk_new : List ℕ → List ℕ → List ℕ → List ℕ → Desk
desk_new cards faults upper lower = fresh_for (terms_from cards faults upper lower)

-- room for its text: any number and LF
abbrev pub new_size : ℕ
new_size = 21

-- the number of a file that is made or not, and its bytes, none where it is not made
abbrev pub made_number : Result ℕ Refusal → ℕ
made_number (Ok len) = 0
made_number (Err refusal) = number_of refusal

abbrev pub made_len : Result ℕ Refusal → ℕ
made_len (Ok len) = len
made_len (Err refusal) = 0

-- what the program gives and leaves, held to it: the file's bytes at the front of a buffer, read back as the words
pub record Files (d : Desk) (before : List ℕ) (number len : ℕ) (file' : List ℕ) : Type 0 where
  pub number_is : number ≡ d.number
  pub file_is : Writes d.file before len file'
  pub back_are : words_of d.file ≡ d.words

-- and the text at the front of another
pub record Makes (d : Desk) (before out : List ℕ) (number len said : ℕ) (file' out' : List ℕ) : Type 0 where
  pub made : Files d before number len file'
  pub text_is : Writes d.text out said out'
