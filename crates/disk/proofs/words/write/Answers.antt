-- `disk::words::write` meets its contract: each word's bytes stand behind those before, and every word is below 2 ^ 32, so the way back holds.
use Rattle.std.proofs.Common.{ℕ, ◌+◌, ◌-◌, ◌*◌, ◌<◌, ◌∙◌, ap, arith}
use Rattle.model.proofs.Lists.{Every, at_every}
use Rattle.disk.specs.Bytes.{words_of, file_of}
use Rattle.disk.proofs.Bytes.{write_more, write_end, words_back}
use Rattle.disk.proofs.words.write.Goals as goal

pub loop-i-preserved : goal.loop-i-preserved
loop-i-preserved c =
    let words = c.args.words.now in
    let j = c.loop-i in
    let v = c.copy_from_slice.new.self in
    let e = c.copy_from_slice.ensures.after ∙ c.to_le_bytes.ensures in
    write_more words j.bytes (file_of words) v j.i (4 * j.i + 4 - 4 * j.i) (omega arith) (omega arith) e j.invariant

pub returns : goal.returns
returns c =
    let words = c.args.words.now in
    let j = c.loop-i in
    let e = write_end words j.bytes (file_of words) j.i (omega arith) (omega arith) j.invariant in
    let small : Every (λ (x : ℕ). x < 4294967296) words = at_every (λ (x : ℕ). x < 4294967296) words 0 (λ i. omega (arith, c.type_inv.words i)) in
    record { are = e; back = ap words_of e ∙ words_back words small }
