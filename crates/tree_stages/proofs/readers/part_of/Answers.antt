use Rattle.std.proofs.Common.{sym}
use Rattle.tree_stages.proofs.ReaderLaws.{ReaderThere, reader_there, part_fits, given_is}
use Rattle.tree_stages.proofs.readers.part_of.Goals as goal

pub move_on-requires : goal.move_on-requires
move_on-requires c =
    let at : ReaderThere c.args.readers.now.items c.in-Some.index c.index.result.now = reader_there _ _ _ _ c.requires c.deref.ensures.value c.in-Some.ensures.within c.index.ensures in
    rw c.len.ensures (part_fits c.args.room c.args.readers.now.items c.in-Some.index _ _ _ at c.index_mut.ensures.value c.in_ok-part.ensures)

pub returns-clause-ok : goal.returns-clause-ok
returns-clause-ok c =
    let at : ReaderThere c.args.readers.now.items c.in-Some.index c.index.result.now = reader_there _ _ _ _ c.requires c.deref.ensures.value c.in-Some.ensures.within c.index.ensures in
    given_is c.args.room c.args.number c.args.readers.now.items _ _ _ _ _ _ at c.deref.ensures.value (sym c.in-Some.ensures.index) c.index_mut.ensures.value c.in_ok-part.ensures (rw (← c.len.ensures) c.move_on.ensures)
