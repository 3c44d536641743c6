-- `disk::words::differ` meets its contract: the chunks of four bytes are the file's words, and each is compared with its own.
use Rattle.std.proofs.Common.{rules, ◌≡◌, ℕ, ◌*◌, ◌/◌, List, not, ◌∙◌, length, arith}
use lib.Dec.{eqb}
use Rattle.std.specs.Int.{w32, from_le_bytes}
use Rattle.std.specs.List.{list_any, zip}
use borrow.Author.Tests.{tests}
use Rattle.std.proofs.lemmas.Iterator.{YieldsList-from_slice, YieldsList-from_zip}
use Rattle.std.proofs.lemmas.Iterator.Search.{any_from_yields_List}
use Rattle.disk.proofs.Bytes.{words_are, differs_are}
use Rattle.disk.proofs.words.differ.Goals as goal

pub returns : goal.returns
returns c =
    let words = c.args.words.now in
    let bytes = c.args.bytes.now in
    let fours = c.as_chunks.result.0.now in
    let tested : c.any.result ≡ list_any (λ (p : ℕ × List ℕ). not (eqb p.0 (from_le_bytes w32 p.1))) (zip words fours) = any_from_yields_List {s = c.zip.result} _ c.any.new.self c.any.new.f c.any.result c.any.ensures.ran
    (YieldsList-from_zip {s = c.zip.result} (YieldsList-from_slice words cc) (YieldsList-from_slice fours cc)) (λ x b q k. search (rules, tests)) in
    let far : length bytes ≡ 4 * (length bytes / 4) = omega arith in
    let e = c.as_chunks.ensures.front in
    rw (← (words_are bytes (length bytes / 4) far), ← e) (tested ∙ differs_are (from_le_bytes w32) words fours (omega arith))
