-- The number of each refusal, by the names that the model gives the numbers; and of what was done or refused.
use Rattle.std.specs.Prelude.{ℕ, Result, Ok, Err}
use Rattle.model.specs.Numbers.{bad_limits, bad_length, not_sound, bad_serial, bad_fault, already_held, not_held, cards_full, faults_full, short_room, short_scratch, bad_line, long_text, bad_stores, bad_bounds}
use Rattle.store.specs.declared.numbers.Refusal.{Refusal}
use Rattle.store.specs.declared.numbers.Refusal.TheVariants.{BadLimits, BadLength, NotSound, BadSerial, BadFault, AlreadyHeld, NotHeld, CardsFull, FaultsFull, ShortRoom, ShortScratch, BadLine, LongText, BadStores, BadBounds}

abbrev pub number_of : Refusal → ℕ
number_of BadLimits = bad_limits
number_of BadLength = bad_length
number_of NotSound = not_sound
number_of BadSerial = bad_serial
number_of BadFault = bad_fault
number_of AlreadyHeld = already_held
number_of NotHeld = not_held
number_of CardsFull = cards_full
number_of FaultsFull = faults_full
number_of ShortRoom = short_room
number_of ShortScratch = short_scratch
number_of BadLine = bad_line
number_of LongText = long_text
number_of BadStores = bad_stores
number_of BadBounds = bad_bounds

-- what is done answers 0
abbrev pub number_in : Result (Unit {0}) Refusal → ℕ
number_in (Ok _) = 0
number_in (Err refusal) = number_of refusal
