-- `disk::lasts::belongs` meets its contract: the head stands first, and the file's bytes behind it.
use Rattle.std.proofs.Common.{sym, ◌∙◌, drop}
use Rattle.std.proofs.lemmas.List.{take_rest}
use Rattle.disk.specs.Last.{head_size, belongs}
use Rattle.disk.proofs.Keeping.{starts_is}
use Rattle.disk.proofs.lasts.belongs.Goals as goal

pub returns-then-starts_with : goal.returns-then-starts_with
unfolding belongs
returns-then-starts_with c =
    let last = c.args.last.now in
    let head = sym (starts_is last c.head.result) ∙ sym c.starts_with.ensures.value ∙ c.if-starts_with.true in
    rw (← c.head.ensures, head) ((rw (take_rest last head_size) at c.starts_with-then-starts_with.ensures.value) ∙ starts_is (drop head_size last) c.args.file.now)

pub returns-else-starts_with : goal.returns-else-starts_with
unfolding belongs
returns-else-starts_with c =
    let head = sym (starts_is c.args.last.now c.head.result) ∙ sym c.starts_with.ensures.value ∙ c.if-starts_with.false in
    rw (← c.head.ensures, head) c.if-starts_with.false
