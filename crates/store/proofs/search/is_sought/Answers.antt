-- `search::is_sought` meets its contract: one word that differs decides, else the whole key is compared.
use mathlib.Core.Path.{sym, ◌∙◌}
use borrow.Author.Tests.{ne_eqb}
use Rattle.reads.proofs.KeyLaws.{key_differs}
use Rattle.store.proofs.search.is_sought.Goals as goal

pub returns-else-end_word-end : goal.returns-else-end_word-end
returns-else-end_word-end c =
    let p = c.requires in
    let d = c.if-end_word-end.false in
    ne_eqb _ _ d ∙ sym (key_differs _ _ _ _ _ _ p.2 (λ e. d (c.end_word.ensures ∙ e ∙ sym p.3)))
