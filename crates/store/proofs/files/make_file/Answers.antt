-- `files::make_file` meets its contract: the plan's cell is that of the card, and the words written are those of the store with the fault filed.
use Rattle.store.proofs.MakeLaws.{file_some, may_file, made_file}
use Rattle.store.proofs.files.make_file.Goals as goal

pub unwrap-cell-requires : goal.unwrap-cell-requires
unwrap-cell-requires c =
    let p = c.requires.1 in
    file_some _ c.requires.0 p.bytes p.n _ _ p.plan

pub file_at-requires : goal.file_at-requires
file_at-requires c =
    let p = c.requires.1 in
    may_file _ c.requires.0 p.bytes p.n _ _ p.plan c.unwrap-cell.ensures

pub returns : goal.returns
returns c =
    record { leaves = λ bytes n room q. made_file _ c.requires.0 bytes n _ _ q c.unwrap-cell.ensures c.file_at.ensures }
