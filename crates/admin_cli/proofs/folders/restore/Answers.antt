use Rattle.std.proofs.Common.{inl, inr, refl}
use Rattle.admin_cli.proofs.RunLaws.{refuses}
use Rattle.admin_cli.proofs.FolderLaws.{does_restore, restores_by}
use Rattle.admin_cli.proofs.folders.restore.Goals as goal

pub returns-in-Err : goal.returns-in-Err
returns-in-Err g c = λ line bytes path read moments asked is.
    let refused = c.in-Err.ensures.refused in
    inr (refuses _ _ c.args.disk c.in-Err.disk line bytes _ read _ moments refused.0 c.in-Err.note asked is refused.1 refused.2, refl)

pub returns : goal.returns
returns g c = λ line bytes path read moments asked is.
    inl (does_restore c.args.disk c.in-Ok.store c.into_store-store.result c.in-Ok.ensures.opened c.in-Ok.ensures.counted c.in-Ok.ensures.listed c.in-Ok.ensures.ready
    g.F.Folder line bytes _ path read _ _ _ _ _ _ moments moments _ _ _ _ g.met.F.Folder.is_tree is c.new-port.ensures c.into_store-store.ensures c.close.ensures
    c.is_halted-halted.ensures c.args.number _ asked
    (restores_by _ _ _ _ _ _ _ _ c.restore_folder-restored.ensures.ok c.restore_folder-restored.ensures.err)
    c.restore_folder-restored.ensures.not_empty c.restore_folder-restored.ensures.looked_at c.restore_folder-restored.ensures.counted (rw c.text_of_restore.ensures at c.say-failed.ensures) c.note_of_restore.ensures)
