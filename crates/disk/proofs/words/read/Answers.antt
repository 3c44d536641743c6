-- `disk::words::read` meets its contract: what is read of the chunks of four bytes are the file's words, and every byte is below 256, so the way back holds.
use Rattle.std.proofs.Common.{◌≡◌, ℕ, ◌*◌, ◌/◌, ◌<◌, ◌∙◌, ap, length, arith}
use Rattle.model.proofs.Lists.{Every, at_every}
use Rattle.disk.specs.Bytes.{file_of}
use Rattle.std.specs.Int.{w32, from_le_bytes}
use Rattle.disk.proofs.Bytes.{words_are, bytes_back}
use Rattle.disk.proofs.Filling.{filled_end}
use Rattle.disk.proofs.words.read.Goals as goal

pub returns : goal.returns
returns c =
    let bytes = c.args.bytes.now in
    let j = c.loop-i in
    let fours = c.as_chunks.result.0.now in
    let far : length bytes ≡ 4 * (length bytes / 4) = omega arith in
    let whole = filled_end (from_le_bytes w32) fours j.words j.i (omega arith) (omega arith) j.invariant in
    let e = (rw c.as_chunks.ensures.front at whole) ∙ words_are bytes (length bytes / 4) far in
    let small : Every (λ (x : ℕ). x < 256) bytes = at_every (λ (x : ℕ). x < 256) bytes 0 (λ i. omega (arith, c.type_inv.bytes i)) in
    record { are = e; back = ap file_of e ∙ bytes_back bytes (length c.args.words.now) c.requires small }
