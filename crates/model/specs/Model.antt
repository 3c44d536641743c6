-- The store as lists: buckets of cards with their histories, and the free cells. What each accepted call does to it.
use Rattle.std.specs.Prelude.{ℕ, ◌+◌, ◌-◌, ◌*◌, ◌%◌, List, [], ◌∷◌, ◌++◌, map, Bool, not, cond, eqb, length, take, drop, get_or, set, replicate}
use Rattle.model.specs.Lists.{same, keep, join, from}
use Rattle.model.specs.Shape.{Shape, top_of}
use Rattle.rules.specs.Code.{code_of}
use Rattle.rules.specs.Table.{least, address_of, splits, contracts, high_maxp, high_p, low_maxp, low_p}

-- a fault and the cell it stands in
pub record Fault : Type 0 where
  pub at : ℕ
  pub day : ℕ
  pub code : ℕ

-- a card, the cell it stands in, and its history in filing order
pub record Card : Type 0 where
  pub at : ℕ
  pub serial : List ℕ
  pub faults : List Fault

pub record Store : Type 0 where
  pub shape : Shape
  pub maxp : ℕ
  pub p : ℕ
  pub buckets : List (List Card)
  pub free : List ℕ
  pub free_faults : List ℕ

-- what is read off a store

abbrev pub cards : Store → List Card
cards s = join s.buckets

abbrev pub histories : List Card → List Fault
histories [] = []
histories (c ∷ cs) = c.faults ++ histories cs

abbrev pub held : Store → ℕ
held s = length (cards s)

abbrev pub faults_held : Store → ℕ
faults_held s = length (histories (cards s))

abbrev pub size : Store → ℕ
size s = s.maxp + s.p

abbrev pub bucket : Store → ℕ → List Card
bucket s a = get_or s.buckets a []

abbrev pub address_in : Store → List ℕ → ℕ
address_in s serial = address_of (code_of serial) s.maxp s.p

abbrev pub chain_for : Store → List ℕ → List Card
chain_for s serial = bucket s (address_in s serial)

-- a card has this serial: lengths and all bytes are equal
abbrev pub is : List ℕ → Card → Bool
is serial c = same serial c.serial

-- the card of a serial in a chain, if it is there (no sound store has two), and the cards before it
abbrev pub found : List ℕ → List Card → List Card
found serial chain = keep (is serial) chain

abbrev pub before : List ℕ → List Card → List Card
before serial [] = []
before serial (c ∷ cs) = cond (is serial c) [] (c ∷ before serial cs)

-- the place in the chain, from 1, if held; else the chain's length
unfoldable pub comparisons : List ℕ → List Card → ℕ
comparisons serial chain = length (before serial chain) + length (found serial chain)

-- changes

abbrev pub with_buckets : Store → ℕ → ℕ → List (List Card) → Store
with_buckets s m q bs = record { shape = s.shape; maxp = m; p = q; buckets = bs; free = s.free; free_faults = s.free_faults }

abbrev pub with_chain : Store → ℕ → List Card → Store
with_chain s a chain = with_buckets s s.maxp s.p (set s.buckets a chain)

abbrev pub with_free : Store → List ℕ → List ℕ → Store
with_free s fc ff = record { shape = s.shape; maxp = s.maxp; p = s.p; buckets = s.buckets; free = fc; free_faults = ff }

unfoldable pub fresh : Shape → Store
fresh sh = record { shape = sh; maxp = least; p = 0; buckets = replicate least []; free = from 1 sh.limit; free_faults = from 1 sh.fault_limit }

-- growth by one bucket

abbrev pub moves : Store → Card → Bool
moves s c = eqb (code_of c.serial % (2 * s.maxp)) (s.maxp + s.p)

abbrev pub moving : Store → List Card
moving s = keep (moves s) (bucket s s.p)

abbrev pub staying : Store → List Card
staying s = keep (λ c. not (moves s c)) (bucket s s.p)

-- the store has too many cards for its buckets, or too few
abbrev pub over : Store → Bool
over s = splits (top_of s.shape) s.shape.upper (held s) (size s)

abbrev pub under : Store → Bool
under s = contracts s.shape.lower (held s) (size s)

unfoldable pub split : Store → Store
split s =
    with_buckets s (high_maxp s.maxp s.p) (high_p s.maxp s.p)
    (set s.buckets s.p (staying s) ++ (moving s ∷ []))

unfoldable pub grown : Store → Store
grown s = cond (over s) (split s) s

unfoldable pub split_scan : Store → ℕ
split_scan s = cond (over s) (length (bucket s s.p)) 0

-- contraction by one bucket

unfoldable pub contract : Store → Store
contract s =
    let p = low_p s.maxp s.p in
    with_buckets s (low_maxp s.maxp s.p) p (set (take (size s - 1) s.buckets) p (bucket s p ++ bucket s (size s - 1)))

unfoldable pub shrunk : Store → Store
shrunk s = cond (under s) (contract s) s

unfoldable pub contract_scan : Store → ℕ
contract_scan s = cond (under s) (length (bucket s (size s - 1))) 0

-- the four calls, where they are accepted

-- a new card or fault takes the first free cell
abbrev pub new_card : Store → List ℕ → Card
new_card s serial = record { at = get_or s.free 0 0; serial = serial; faults = [] }

abbrev pub new_fault : Store → ℕ → ℕ → Fault
new_fault s day code = record { at = get_or s.free_faults 0 0; day = day; code = code }

unfoldable pub placed : Store → List ℕ → Store
placed s serial = with_free (with_chain s (address_in s serial) (chain_for s serial ++ (new_card s serial ∷ []))) (drop 1 s.free) s.free_faults

unfoldable pub entered : Store → List ℕ → Store
entered s serial = grown (placed s serial)

abbrev pub with_fault : Fault → Card → Card
with_fault f c = record { at = c.at; serial = c.serial; faults = c.faults ++ (f ∷ []) }

abbrev pub noted : Fault → List ℕ → List Card → List Card
noted f serial chain = map (λ c. cond (is serial c) (with_fault f c) c) chain

unfoldable pub filed : Store → List ℕ → ℕ → ℕ → Store
filed s serial day code =
    with_free (with_chain s (address_in s serial) (noted (new_fault s day code) serial (chain_for s serial))) s.free (drop 1 s.free_faults)

abbrev pub history_in : Store → List ℕ → List Fault
history_in s serial = histories (found serial (chain_for s serial))

abbrev pub without : List ℕ → List Card → List Card
without serial chain = keep (λ c. not (is serial c)) chain

abbrev pub cells_of : List Card → List ℕ
cells_of = map (λ c. c.at)

abbrev pub fault_cells_of : List Fault → List ℕ
fault_cells_of = map (λ f. f.at)

unfoldable pub removed : Store → List ℕ → Store
removed s serial =
    let chain = chain_for s serial in
    with_free (with_chain s (address_in s serial) (without serial chain))
    (cells_of (found serial chain) ++ s.free)
    (fault_cells_of (history_in s serial) ++ s.free_faults)

unfoldable pub withdrawn : Store → List ℕ → Store
withdrawn s serial = shrunk (removed s serial)
