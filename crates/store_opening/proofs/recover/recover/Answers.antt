use Rattle.std.proofs.Common.{inl, inr, ◌∙◌}
use Rattle.journal_view.specs.ViewLaws.{Quiet-then}
use Rattle.store_opening.proofs.Recovering.{recovered_by, stray_known}
use Rattle.store_opening.proofs.Unlisting.{unlisting_known}
use Rattle.store_opening.proofs.MissingTables.{missing_known}
use Rattle.pool_changes.specs.Kept.{slots_of}
use Rattle.store_opening.proofs.Whole.{opened_told, whole_of}
use Rattle.store_opening.proofs.recover.recover.Goals as goal

pub returns-in-Ok-refuse_unlisted-clause-recovers : goal.returns-in-Ok-refuse_unlisted-clause-recovers
returns-in-Ok-refuse_unlisted-clause-recovers g c = λ a b holds.
    recovered_by c.args.journal.now _ c.in-Ok.found a b c.requires
    (Quiet-then c.args.journal.now c.read_parts.new.journal _ c.in-Ok.ensures.quiet
    (Quiet-then c.read_parts.new.journal c.refuse_strays.new.journal _ c.in-Ok-refuse_strays.ensures.quiet
    c.in-Ok-refuse_unlisted.ensures.quiet))
    holds c.in-Ok.ensures.opened c.in-Ok.ensures.fresh c.in-Ok.ensures.catalog c.in-Ok.ensures.counts c.in-Ok.ensures.partials

pub returns-in-Ok-refuse_unlisted-clause-whole : goal.returns-in-Ok-refuse_unlisted-clause-whole
returns-in-Ok-refuse_unlisted-clause-whole g c = λ all is.
    whole_of (g.D.Disk.files c.args.journal.now.disk) c.in-Ok.found.pool.in_one_file (slots_of c.in-Ok.found.pool.names)
    c.in-Ok.found.catalog c.in-Ok.found.counts c.in-Ok.found.partials all is c.in-Ok.ensures.opened (c.in-Ok.ensures.catalog all is)
    (c.in-Ok.ensures.counts all is) (c.in-Ok.ensures.partials all is) (c.in-Ok-refuse_strays.ensures.none all (c.in-Ok.ensures.quiet.told_same ∙ is))
    c.in-Ok-refuse_unlisted.ensures.listed
    (c.in-Ok-refuse_gaps.ensures.none all (c.in-Ok-refuse_strays.ensures.seen all (c.in-Ok.ensures.quiet.told_same ∙ is)))

pub returns-in-Ok-refuse_unlisted-clause-listed : goal.returns-in-Ok-refuse_unlisted-clause-listed
returns-in-Ok-refuse_unlisted-clause-listed g c = λ all is. (c.in-Ok.ensures.opened all is).used

pub returns-in-Ok-refuse_unlisted-clause-quiet : goal.returns-in-Ok-refuse_unlisted-clause-quiet
returns-in-Ok-refuse_unlisted-clause-quiet g c =
    Quiet-then c.args.journal.now c.read_parts.new.journal _ c.in-Ok.ensures.quiet
    (Quiet-then c.read_parts.new.journal c.refuse_strays.new.journal _ c.in-Ok-refuse_strays.ensures.quiet
    c.in-Ok-refuse_unlisted.ensures.quiet)

pub returns-in-Err-refuse_unlisted-clause-quiet : goal.returns-in-Err-refuse_unlisted-clause-quiet
returns-in-Err-refuse_unlisted-clause-quiet g c =
    Quiet-then c.args.journal.now c.read_parts.new.journal _ c.in-Ok.ensures.quiet
    (Quiet-then c.read_parts.new.journal c.refuse_strays.new.journal _ c.in-Ok-refuse_strays.ensures.quiet
    c.in-Err-refuse_unlisted.ensures.quiet)

pub returns-in-Err-refuse_unlisted-clause-foreign : goal.returns-in-Err-refuse_unlisted-clause-foreign
returns-in-Err-refuse_unlisted-clause-foreign g c = λ file found e.
    inr (inr (inr (inr (inl (λ all is.
    let mid = c.in-Ok.ensures.quiet.told_same ∙ is in
    c.in-Err-refuse_unlisted.ensures.unlisting file found e all (c.in-Ok-refuse_strays.ensures.quiet.told_same ∙ mid)
    (c.in-Ok-refuse_strays.ensures.seen all mid)
    (opened_told (g.D.Disk.files c.args.journal.now.disk) _ _ all is c.in-Ok.ensures.opened) (c.in-Ok.ensures.catalog all is)
    (c.in-Ok.ensures.counts all is))))))

pub returns-in-Err-refuse_unlisted-clause-known : goal.returns-in-Err-refuse_unlisted-clause-known
returns-in-Err-refuse_unlisted-clause-known g c = λ a b holds file found e.
    unlisting_known _ _ a b holds file found (λ all is.
    let mid = c.in-Ok.ensures.quiet.told_same ∙ is in
    c.in-Err-refuse_unlisted.ensures.unlisting file found e all (c.in-Ok-refuse_strays.ensures.quiet.told_same ∙ mid)
    (c.in-Ok-refuse_strays.ensures.seen all mid)
    (opened_told (g.D.Disk.files c.args.journal.now.disk) _ _ all is c.in-Ok.ensures.opened) (c.in-Ok.ensures.catalog all is)
    (c.in-Ok.ensures.counts all is))

pub returns-in-Err-refuse_strays-clause-quiet : goal.returns-in-Err-refuse_strays-clause-quiet
returns-in-Err-refuse_strays-clause-quiet g c = Quiet-then c.args.journal.now c.read_parts.new.journal _ c.in-Ok.ensures.quiet
    c.in-Err-refuse_strays.ensures.quiet

pub returns-in-Err-refuse_strays-clause-foreign : goal.returns-in-Err-refuse_strays-clause-foreign
returns-in-Err-refuse_strays-clause-foreign g c = λ file found e.
    inr (inr (inr (inl (λ all is. c.in-Err-refuse_strays.ensures.stray file found e all (c.in-Ok.ensures.quiet.told_same
    ∙ is) (c.in-Ok.ensures.catalog all is)))))

pub returns-in-Err-refuse_strays-clause-known : goal.returns-in-Err-refuse_strays-clause-known
returns-in-Err-refuse_strays-clause-known g c = λ a b holds file found e.
    stray_known _ _ a b holds file found (λ all is.
    c.in-Err-refuse_strays.ensures.stray file found e all (c.in-Ok.ensures.quiet.told_same ∙ is) (c.in-Ok.ensures.catalog all is))

pub returns-in-Err-refuse_gaps-clause-quiet : goal.returns-in-Err-refuse_gaps-clause-quiet
returns-in-Err-refuse_gaps-clause-quiet g c = Quiet-then c.args.journal.now c.read_parts.new.journal _ c.in-Ok.ensures.quiet
    c.in-Ok-refuse_strays.ensures.quiet

pub returns-in-Err-refuse_gaps-clause-foreign : goal.returns-in-Err-refuse_gaps-clause-foreign
returns-in-Err-refuse_gaps-clause-foreign g c = λ file found e.
    inr (inr (inr (inr (inr (λ all is.
    c.in-Err-refuse_gaps.ensures.missing file found e all (c.in-Ok-refuse_strays.ensures.seen all (c.in-Ok.ensures.quiet.told_same ∙ is))
    (c.in-Ok.ensures.catalog all is))))))

pub returns-in-Err-refuse_gaps-clause-known : goal.returns-in-Err-refuse_gaps-clause-known
returns-in-Err-refuse_gaps-clause-known g c = λ a b holds file found e.
    missing_known _ _ a b holds file found (λ all is.
    c.in-Err-refuse_gaps.ensures.missing file found e all (c.in-Ok-refuse_strays.ensures.seen all (c.in-Ok.ensures.quiet.told_same ∙ is))
    (c.in-Ok.ensures.catalog all is))
