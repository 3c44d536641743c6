-- The contract of `work` and of `run` admits one outcome only: all that it speaks of is fixed by equations, so two programs that meet it give the same number,
-- lines and bytes and leave the same tally, words, scratch and output.
use mathlib.Core.Path.{◌≡◌, sym, ◌∙◌}
use mathlib.Core.List.{List}
use Prim.Native.Nat.{ℕ}
use Rattle.job.specs.Counts.{tally_of}
use Rattle.job.specs.Sequences.{Left, Works}
use Rattle.job.specs.declared.tally.Tally.{Tally}

-- the code's tally is known by the model's
same_tally : (t u : Tally) → tally_of t ≡ tally_of u → t ≡ u
same_tally t u e = λ i.
    record {
      entries = (e i).entries;
      withdrawals = (e i).withdrawals;
      filings = (e i).filings;
      splits = (e i).splits;
      contractions = (e i).contractions;
      comparisons = (e i).comparisons;
    }

pub one_outcome : (words scratch text out : List ℕ) (t : Tally) (a b : Left) → Works words scratch text out t a → Works words scratch text out t b → a ≡ b
one_outcome words scratch text out t a b p q = λ i.
    record {
      done =
          record {
            number = (p.number_is ∙ sym q.number_is) i;
            lines = (p.lines_are ∙ sym q.lines_are) i;
            bytes = (p.bytes_are ∙ sym q.bytes_are) i;
          };
      tally = same_tally a.tally b.tally (p.tally_is ∙ sym q.tally_is) i;
      words = (p.words_are ∙ sym q.words_are) i;
      scratch = (p.scratch_is ∙ sym q.scratch_is) i;
      out = (p.out_is ∙ sym q.out_is) i;
    }
