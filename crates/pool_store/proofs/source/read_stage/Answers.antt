use Rattle.std.proofs.Common.{sym, ◌∙◌, refl, Some, None}
use Rattle.pool_store.proofs.Sourcing.{stage_piece, lost_by}
use Rattle.pool_store.proofs.source.read_stage.Goals as goal

pub returns-then-len-room-clause-lost : goal.returns-then-len-room-clause-lost
returns-then-len-room-clause-lost g c =
    lost_by (g.D.Disk.files c.args.journal.now.disk) c.args.number c.args.size c.args.from c.args.room c.in-Ok-Some.field-0 (Some c.in-Ok-Some.found)
    c.in-Ok-Some.field-0-is c.in-Ok-Some.ensures.found c.requires.within (λ e. absurd (c.if-len-room.true (c.len.ensures ∙ e)))

pub returns-in-Ok-None-clause-lost : goal.returns-in-Ok-None-clause-lost
returns-in-Ok-None-clause-lost g c =
    lost_by (g.D.Disk.files c.args.journal.now.disk) c.args.number c.args.size c.args.from c.args.room c.in-Ok-None.field-0 None
    c.in-Ok-None.field-0-is c.in-Ok-None.ensures.found c.requires.within (λ e. refl)

pub returns-else-len-room-clause-found : goal.returns-else-len-room-clause-found
returns-else-len-room-clause-found g c = λ all content told staged.
    let e = sym c.in-Ok-Some.field-0-is ∙ stage_piece (g.D.Disk.files c.args.journal.now.disk) c.args.number c.args.size c.args.from c.args.room c.in-Ok-Some.field-0 all content
    c.in-Ok-Some.ensures.found told staged in cc
