use Rattle.std.proofs.Common.{◌≡◌, Option, Some, inr, ◌∙◌, subst}
use Rattle.disk_trait.specs.Files.{Files}
use Rattle.disk_trait.specs.Images.{FileSet, nothing, IsWithin, MayLeave, Leaves}
use Rattle.disk_trait.specs.ImagesLaws.{leaves_then, leaves_wider, leaves_only}
use Rattle.intent_journal.specs.Overlay.{ComesTo, IsForeign, Looks, Recovers}
use Rattle.intent_journal.proofs.CommitLaws.{certain_image, found_recoverable, looks_then, looks_durably, found_none, found_some}
use Rattle.intent_journal.proofs.recovery.recover.Goals as goal

-- a disk that was synced, looked at, and then only recovered
recovers : {D : Type 0} {told : D → Option Files} {uncertain : D → FileSet} {moment : D → _} {left_since : D → _ → Files → Type 0}
    {old synced found new : D} (all files : Files)
    → ((disk : D) (image : Files) → left_since disk (moment disk) image → MayLeave (told disk) (uncertain disk) image)
    → told old ≡ Some all → ComesTo files nothing all
    → Looks told uncertain moment left_since old synced → IsWithin (uncertain synced) nothing
    → Looks told uncertain moment left_since synced found
    → Leaves moment left_since found new (ComesTo files nothing)
    → Recovers told uncertain moment left_since old new files
recovers {synced = synced} all files now is comes first durable look then =
    let there = first.same ∙ is in
    record {
      synced = synced;
      up_to = first.any_moment;
      from_then = leaves_only
          (leaves_then (leaves_wider look.any_moment (λ image may. certain_image _ _ all files image there durable comes may)) then)
          (λ image left. certain_image _ _ all files image there durable comes (now synced image left));
    }

pub returns-in-Err-find_changes-clause-foreign : goal.returns-in-Err-find_changes-clause-foreign
returns-in-Err-find_changes-clause-foreign g c = λ file found is.
    let foreign = c.in-Err-find_changes.ensures.foreign file found is in
    (foreign.0, subst (λ (t : Option Files). IsForeign t found) c.settle.ensures.looks.same foreign.1)

pub returns-in-Ok-replay_found-clause-recovered : goal.returns-in-Ok-replay_found-clause-recovered
returns-in-Ok-replay_found-clause-recovered g c = λ all files told comes.
    let settled = c.settle.ensures.looks.same ∙ told in
    let found = c.find_changes.ensures.looks.same ∙ settled in
    recovers all files g.met.D.Disk.only_now told comes c.settle.ensures.looks c.in-Ok.ensures.durable c.find_changes.ensures.looks
    (c.replay_found.ensures.any_moment all files found (c.in-Ok-find_changes.ensures.found all settled) comes)

pub returns-in-Ok-replay_found-clause-any_moment : goal.returns-in-Ok-replay_found-clause-any_moment
returns-in-Ok-replay_found-clause-any_moment g c = λ all files told comes.
    let settled = c.settle.ensures.looks.same ∙ told in
    let found = c.find_changes.ensures.looks.same ∙ settled in
    inr (recovers all files g.met.D.Disk.only_now told comes c.settle.ensures.looks c.in-Ok.ensures.durable c.find_changes.ensures.looks
    (c.replay_found.ensures.any_moment all files found (c.in-Ok-find_changes.ensures.found all settled) comes))

pub returns-clause-any_moment : goal.returns-clause-any_moment
returns-clause-any_moment g c = λ all files told comes.
    let settled = c.settle.ensures.looks.same ∙ told in
    let found = c.find_changes.ensures.looks.same ∙ settled in
    inr (recovers all files g.met.D.Disk.only_now told comes c.settle.ensures.looks c.in-Ok.ensures.durable c.find_changes.ensures.looks
    (c.replay_found.ensures.any_moment all files found (c.in-Ok-find_changes.ensures.found all settled) comes))

pub returns-in-Ok-replay_found-clause-recoverable : goal.returns-in-Ok-replay_found-clause-recoverable
returns-in-Ok-replay_found-clause-recoverable g c = λ all told.
    found_recoverable all _ (c.in-Ok-find_changes.ensures.found all (c.settle.ensures.looks.same ∙ told))

pub returns-in-Err-find_changes-clause-unwritten : goal.returns-in-Err-find_changes-clause-unwritten
returns-in-Err-find_changes-clause-unwritten g c = λ _. looks_then c.settle.ensures.looks c.find_changes.ensures.looks

pub returns-in-Ok-replay_found-clause-shut : goal.returns-in-Ok-replay_found-clause-shut
returns-in-Ok-replay_found-clause-shut g c = λ all told shut.
    let found = c.in-Ok-find_changes.ensures.found all (c.settle.ensures.looks.same ∙ told) in
    looks_durably c.settle.ensures.looks c.in-Ok.ensures.durable c.find_changes.ensures.looks
    (c.replay_found.ensures.unwritten (found_none all _ shut found))

pub returns-in-Ok-replay_found-clause-emptied : goal.returns-in-Ok-replay_found-clause-emptied
returns-in-Ok-replay_found-clause-emptied g c = λ all told gate.
    let found = c.in-Ok-find_changes.ensures.found all (c.settle.ensures.looks.same ∙ told) in
    c.in-Ok-replay_found.ensures.emptied (found_some all _ gate found)
