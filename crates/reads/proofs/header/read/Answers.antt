-- `header::read` meets its contract: the words that it reads are there, and they are the header's numbers.
use mathlib.Core.Path.{ap, ◌∙◌}
use Rattle.model.specs.Shape.{top_of, card_width}
use Rattle.reads.proofs.FrontLaws.{fit_read}
use Rattle.reads.proofs.header.read.Goals.{Start}
use Rattle.reads.proofs.header.read.Goals as goal

pub returns : goal.returns
returns c =
    let e = c.shape_of-s.ensures in
    fit_read c.args.w.now _ c.requires.0 c.requires.1 e (c.top_of.ensures ∙ ap top_of e) c.wide_word.ensures c.wide_word-2.ensures
    (c.card_width.ensures ∙ ap card_width e) c.wide_word-3.ensures c.word.ensures c.word-2.ensures
