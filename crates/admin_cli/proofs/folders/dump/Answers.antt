use Rattle.std.proofs.Common.{inl, inr, refl}
use Rattle.admin_cli.proofs.RunLaws.{refuses}
use Rattle.admin_cli.proofs.FolderLaws.{does_dump, dumps_by}
use Rattle.admin_cli.proofs.folders.dump.Goals as goal

pub returns-in-Err : goal.returns-in-Err
returns-in-Err g c = λ line bytes path read asked is.
    let refused = c.in-Err.ensures.refused in
    inr (refuses _ _ c.args.disk c.in-Err.disk line bytes _ read _ _ refused.0 c.in-Err.note asked is refused.1 refused.2, refl)

pub returns : goal.returns
returns g c = λ line bytes path read asked is.
    inl (does_dump c.args.disk c.in-Ok.store c.into_store-store.result c.in-Ok.ensures.opened c.in-Ok.ensures.counted c.in-Ok.ensures.listed c.in-Ok.ensures.ready
    g.F.Folder line bytes _ path read _ _ _ _ _ _ _ _ _ _ _ _ g.met.F.Folder.is_tree is c.new-port.ensures c.into_store-store.ensures c.close.ensures
    c.is_halted-halted.ensures c.args.kind _ asked
    (dumps_by _ _ _ _ _ _ _ _ _ c.dump_folder-dumped.ensures.ok c.dump_folder-dumped.ensures.err) c.dump_folder-dumped.ensures.cause
    c.dump_folder-dumped.ensures.same c.dump_folder-dumped.ensures.counted (rw c.text_of_dump.ensures at c.say-failed.ensures) c.note_of_dump.ensures)
