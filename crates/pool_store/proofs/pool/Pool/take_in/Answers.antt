use Rattle.std.proofs.Common.{◌∙◌, rules}
use Rattle.disk_trait.specs.ImagesLaws.{only_then}
use Rattle.pool_changes.specs.Kept.{slots_of}
use Rattle.pool_store.proofs.Missing.{missed}
use Rattle.pool_store.proofs.Sourcing.{never_damaged}
use Rattle.pool_store.proofs.pool.Pool.take_in.Goals as goal

pub returns-in-Err-clause-undamaged : goal.returns-in-Err-clause-undamaged
returns-in-Err-clause-undamaged g c = never_damaged c.in-Err.fault c.in-Err.ensures.fault

pub returns-in-Err-stage_new-clause-undamaged : goal.returns-in-Err-stage_new-clause-undamaged
returns-in-Err-stage_new-clause-undamaged g c = never_damaged c.in-Err-stage_new.fault c.in-Err-stage_new.ensures.fault

pub returns-in-Err-stage_new-clause-misses : goal.returns-in-Err-stage_new-clause-misses
returns-in-Err-stage_new-clause-misses g c = λ bytes is same.
    missed g.N.Namer.digest_of (slots_of c.args.self.now.names) (slots_of c.stage_new.new.names) (g.D.Disk.files c.args.journal.now.disk)
    (g.D.Disk.files c.find_place.new.journal.disk) (g.D.Disk.files c.stage_new.new.journal.disk) c.args.digest c.in-Ok-Free.field-0
    c.in-Ok-Free.extension bytes c.in-Err-stage_new.fault (search rules) same c.find_place.ensures.told c.in-Ok-Free.field-0-is
    (c.in-Ok-Free.ensures.met bytes is) c.in-Err-stage_new.ensures.unstaged c.in-Err-stage_new.ensures.fault

pub returns-in-Err-stage_new-clause-any_moment : goal.returns-in-Err-stage_new-clause-any_moment
returns-in-Err-stage_new-clause-any_moment g c = λ all told certain.
    only_then (c.find_place.ensures.any_moment all told certain) (c.stage_new.ensures.any_moment all (c.find_place.ensures.told ∙ told) (c.find_place.ensures.certain certain))
