-- The numbers of refusals, by name. What is done answers 0.
use Rattle.std.specs.Prelude.{ℕ}

-- Open: the limits are out of range; the words are not as many as they ask for
abbrev pub bad_limits : ℕ
bad_limits = 1

abbrev pub bad_length : ℕ
bad_length = 2

-- the words are not those of a sound store
abbrev pub not_sound : ℕ
not_sound = 3

-- the serial, and the day or the code of a fault, are not valid
abbrev pub bad_serial : ℕ
bad_serial = 4

abbrev pub bad_fault : ℕ
bad_fault = 5

-- a card has the serial; no card has it
abbrev pub already_held : ℕ
already_held = 6

abbrev pub not_held : ℕ
not_held = 7

-- as many cards, or faults, are held as the limit allows
abbrev pub cards_full : ℕ
cards_full = 8

abbrev pub faults_full : ℕ
faults_full = 9

-- the room, or the output, is too short for the answer; the scratch is too short
abbrev pub short_room : ℕ
short_room = 10

abbrev pub short_scratch : ℕ
short_scratch = 11

-- a line is not well formed; a text is too long
abbrev pub bad_line : ℕ
bad_line = 12

abbrev pub long_text : ℕ
long_text = 13

-- a report is asked over no store, or over more than eight
abbrev pub bad_stores : ℕ
bad_stores = 14

-- Open: the load bounds are out of range
abbrev pub bad_bounds : ℕ
bad_bounds = 15
