-- `text::decimals::decimal_len` meets its contract: a number that is not below one power of ten and below the next has the digits of the first. Assumes
-- nothing.
use Rattle.std.proofs.Common.{ℕ, suc, ◌^◌, ◌≤◌, ◌<◌, sym, arith}
use Rattle.text.specs.Decimals.{Digits}
use Rattle.text.proofs.DecimalLaws.{decimal_one, decimal_long}
use Rattle.text.proofs.decimals.decimal_len.Goals as goal

has : (k n : ℕ) → 10 ^ k ≤ n → n < 10 ^ suc k → n < 2 ^ 32 → k ≤ 9 → Digits n (suc k)
has k n l h b m = record { is = sym (decimal_long k n l h (omega arith)); most = omega arith }

pub returns-then-n-lt10 : goal.returns-then-n-lt10
returns-then-n-lt10 c = record { is = sym (decimal_one c.args.n (omega arith)); most = omega arith }

pub returns-in-0-to-99 : goal.returns-in-0-to-99
returns-in-0-to-99 c = has 1 c.args.n (omega arith) (omega arith) (omega arith) (omega arith)

pub returns-in-100-to-999 : goal.returns-in-100-to-999
returns-in-100-to-999 c = has 2 c.args.n (omega arith) (omega arith) (omega arith) (omega arith)

pub returns-in-1000-to-9999 : goal.returns-in-1000-to-9999
returns-in-1000-to-9999 c = has 3 c.args.n (omega arith) (omega arith) (omega arith) (omega arith)

pub returns-in-10000-to-99999 : goal.returns-in-10000-to-99999
returns-in-10000-to-99999 c = has 4 c.args.n (omega arith) (omega arith) (omega arith) (omega arith)

pub returns-in-100000-to-999999 : goal.returns-in-100000-to-999999
returns-in-100000-to-999999 c = has 5 c.args.n (omega arith) (omega arith) (omega arith) (omega arith)

pub returns-in-1000000-to-9999999 : goal.returns-in-1000000-to-9999999
returns-in-1000000-to-9999999 c = has 6 c.args.n (omega arith) (omega arith) (omega arith) (omega arith)

pub returns-in-10000000-to-99999999 : goal.returns-in-10000000-to-99999999
returns-in-10000000-to-99999999 c = has 7 c.args.n (omega arith) (omega arith) (omega arith) (omega arith)

pub returns-in-100000000-to-999999999 : goal.returns-in-100000000-to-999999999
returns-in-100000000-to-999999999 c = has 8 c.args.n (omega arith) (omega arith) (omega arith) (omega arith)

pub returns-in_default : goal.returns-in_default
returns-in_default c = has 9 c.args.n (omega arith) (omega arith) (omega arith) (omega arith)
