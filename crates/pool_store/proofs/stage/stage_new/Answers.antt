use Rattle.std.proofs.Common.{ap}
use Rattle.pool_changes.specs.Kept.{slots_of}
use Rattle.pool_changes.specs.Slots.{is_live}
use Rattle.pool_store.proofs.Imaging.{certain_rewritten, images_rewritten}
use Rattle.pool_store.proofs.stage.stage_new.Goals as goal

pub returns-in-Ok-write_to-clause-certain : goal.returns-in-Ok-write_to-clause-certain
returns-in-Ok-write_to-clause-certain g c =
    certain_rewritten c.args.journal.now c.write_to.new.journal (slots_of c.args.names.now) c.args.id c.write_to.ensures.rewrites (ap is_live c.requires.unused)

pub returns-in-Ok-write_to-clause-any_moment : goal.returns-in-Ok-write_to-clause-any_moment
returns-in-Ok-write_to-clause-any_moment g c = λ all told certain.
    images_rewritten c.args.journal.now c.write_to.new.journal (slots_of c.args.names.now) all c.args.id g.met.D.Disk.only_now c.requires.ready
    c.write_to.ensures.rewrites told (ap is_live c.requires.unused) certain

pub returns-in-Err-write_to-clause-certain : goal.returns-in-Err-write_to-clause-certain
returns-in-Err-write_to-clause-certain g c =
    certain_rewritten c.args.journal.now c.write_to.new.journal (slots_of c.args.names.now) c.args.id c.write_to.ensures.rewrites (ap is_live c.requires.unused)

pub returns-in-Err-write_to-clause-any_moment : goal.returns-in-Err-write_to-clause-any_moment
returns-in-Err-write_to-clause-any_moment g c = λ all told certain.
    images_rewritten c.args.journal.now c.write_to.new.journal (slots_of c.args.names.now) all c.args.id g.met.D.Disk.only_now c.requires.ready
    c.write_to.ensures.rewrites told (ap is_live c.requires.unused) certain
