-- `disk::serve_in` meets its contract: read, worked, compared and written.
use Rattle.disk.proofs.Served.{serves_in}
use borrow.Author.Rules.{rules}
use Rattle.disk.proofs.serve_in.Goals as goal

pub read-requires : goal.read-requires
read-requires c = search rules

pub answer_on-e-requires : goal.answer_on-e-requires
answer_on-e-requires c = search rules

pub differ-save-requires : goal.differ-save-requires
differ-save-requires c = search rules

pub write-requires : goal.write-requires
write-requires c = search rules

pub shape_of-file : goal.shape_of-file
shape_of-file c = search rules

pub shape_of-words : goal.shape_of-words
shape_of-words c = search rules

pub shape_of-out : goal.shape_of-out
shape_of-out c = search rules

pub returns : goal.returns
returns c = serves_in _ _ _ c.read.ensures.are c.answer_on-e.ensures c.differ-save.ensures c.write.ensures
