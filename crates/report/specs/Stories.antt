-- The story of a store from an accepted Open on: the calls and jobs of the program since then, each with what it was given, what it gave and what it left.
use Rattle.std.specs.Prelude.{List, ℕ, ◌-◌}
use Rattle.model.specs.Calls.{Terms, open_call}
use Rattle.model.specs.Runs.{taken, gone, since}
use Rattle.store.specs.Leaves.{Opens}
use Rattle.job.specs.Sequences.{Made, AllMeet, end_words, seen_of}

-- the words before Open and what it was asked for, the words that it left, and what was made since
pub record Story : Type 0 where
  pub before : List ℕ
  pub asked : Terms
  pub fresh : List ℕ
  pub made : List Made

-- Open was accepted, and each of its calls and jobs met its contract
pub record Lived (s : Story) : Type 0 where
  pub opens : Opens (open_call s.before s.asked) 0 s.fresh
  pub meets : AllMeet s.fresh s.made

-- the words that it has now
abbrev pub words_now : Story → List ℕ
words_now s = end_words s.fresh s.made

-- faults accepted less faults gone, by the calls and the numbers given and by the lines of the jobs and what was written for them
abbrev pub faults_kept : Story → ℕ
faults_kept s = since taken (seen_of s.made) 0 - since gone (seen_of s.made) 0
