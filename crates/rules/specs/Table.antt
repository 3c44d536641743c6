-- The table's state, the address of a code in it, and when it grows and contracts: Larson's rules, source document 000. Assumes nothing.
use Rattle.std.specs.Prelude.{ℕ, ◌+◌, ◌-◌, ◌*◌, ◌/◌, ◌%◌, Bool, cond, ◌&&◌, ◌||◌, ◌==◌, nat_le, nat_lt}

-- the fewest buckets of a table, and the most that any has
abbrev pub least : ℕ
least = 16

abbrev pub top : ℕ
top = 256

-- the address rule's answer where (maxp, p) is no state
abbrev pub no_address : ℕ
no_address = 4294967295

-- maxp is one of 16, 32, 64, 128, 256
unfoldable pub size_ok : ℕ → Bool
size_ok maxp = maxp == 16 || maxp == 32 || maxp == 64 || maxp == 128 || maxp == 256

-- (maxp, p) is a state of a table of at most t buckets: it has maxp + p
unfoldable pub state_ok : ℕ → ℕ → ℕ → Bool
state_ok t maxp p = size_ok maxp && (nat_lt p maxp && nat_le (maxp + p) t)

-- the bucket of a code: code mod maxp, or, if that is below p, code mod 2 maxp
unfoldable pub bucket_of : ℕ → ℕ → ℕ → ℕ
bucket_of code maxp p = cond (nat_lt (code % maxp) p) (code % (2 * maxp)) (code % maxp)

-- the address rule, for any three numbers
unfoldable pub address_of : ℕ → ℕ → ℕ → ℕ
address_of code maxp p = cond (state_ok top maxp p) (bucket_of code maxp p) no_address

-- n cards in b buckets are too many, more than u a bucket, and there are fewer than t buckets: one is split
unfoldable pub splits : ℕ → ℕ → ℕ → ℕ → Bool
splits t u n b = nat_lt (u * b) n && nat_lt b t

-- n cards in b buckets are too few, fewer than l a bucket: two buckets are joined
unfoldable pub contracts : ℕ → ℕ → ℕ → Bool
contracts l n b = nat_lt n (l * b) && nat_lt least b

-- a table keeps n cards in b buckets: at most u a bucket or all t buckets, and at least l a bucket or the fewest
unfoldable pub load_fits : ℕ → ℕ → ℕ → ℕ → ℕ → Bool
load_fits t u l n b = (b == t || nat_le n (u * b)) && (b == least || nat_le (l * b) n)

-- the state with one bucket more: p grows by 1; if p = maxp, maxp doubles and p is 0
unfoldable pub high_maxp : ℕ → ℕ → ℕ
high_maxp maxp p = cond (p + 1 == maxp) (2 * maxp) maxp

unfoldable pub high_p : ℕ → ℕ → ℕ
high_p maxp p = cond (p + 1 == maxp) 0 (p + 1)

-- the state with one bucket less: p falls by 1; if it was 0, maxp halves and p is the new maxp - 1
unfoldable pub low_maxp : ℕ → ℕ → ℕ
low_maxp maxp p = cond (p == 0) (maxp / 2) maxp

unfoldable pub low_p : ℕ → ℕ → ℕ
low_p maxp p = cond (p == 0) (maxp / 2 - 1) (p - 1)
