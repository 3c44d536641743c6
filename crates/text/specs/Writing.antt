-- What it is to write a text into an output, behind what is written.
use Rattle.std.specs.Prelude.{◌≡◌, List, [], ◌∷◌, ◌++◌, ℕ, suc, ◌+◌, ◌-◌, length, refl}
use Rattle.std.proofs.Common.{arith, length-append, sym, ap, ◌∙◌, add-zero, set}
use Rattle.std.proofs.lemmas.List.Edits.{sets}
use Rattle.std.proofs.Math.Seq.{length-sets}
use Rattle.text.specs.Decimals.{Puts}
use Rattle.text.specs.SinkLaws.{SinkLaws}
use Rattle.text.specs.declared.sink.Writer.{Writer}

-- an output takes what fits behind what is written
abbrev pub write_room : Writer → ℕ
write_room s = length s.out.now - s.at

-- the text stands behind what was written, in the same output
pub record Writes (s : Writer) (text : List ℕ) (t : Writer) : Type 0 where
  pub puts : Puts s.out.now s.at text t.at t.out.now
  pub same_output : t.out.ghost_name ≡ s.out.ghost_name

-- a run of stores, taken apart
pub sets_append : (a b l : List ℕ) (i : ℕ) → sets l i (a ++ b) ≡ sets (sets l i a) (i + length a) b
sets_append [] b l i = ap (λ (n : ℕ). sets l n b) (sym (add-zero i))
sets_append (x ∷ a) b l i =
    let e : suc i + length a ≡ i + suc (length a) = omega arith in
    sets_append a b (set l i x) (suc i) ∙ ap (λ (n : ℕ). sets (sets (set l i x) (suc i) a) n b) e

-- a text behind another
pub puts_then : {out mid left : List ℕ} {at here end : ℕ} (a b : List ℕ) → Puts out at a here mid → Puts mid here b end left → Puts out at (a ++ b) end left
puts_then {out} {mid} {left} {at} {here} {end} a b p q =
    record { out_is = rw (sets_append a b out at, ← p.out_is, ← p.end_is) q.out_is; end_is = omega (arith, length-append a b) }

pub write_laws : SinkLaws write_room Writes
write_laws = record {
  nothing = λ s. record { puts = record { out_is = refl; end_is = omega arith }; same_output = refl };
  together = λ s t u a b p q. record { puts = puts_then a b p.puts q.puts; same_output = q.same_output ∙ p.same_output };
  room_after = λ s t a p. omega (arith, ap length p.puts.out_is ∙ length-sets s.out.now s.at a);
}
