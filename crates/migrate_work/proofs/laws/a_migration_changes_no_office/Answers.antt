use Rattle.migrate_work.specs.KeepingLaws.{of_migration, office_kept, none_left}
use Rattle.office_model.specs.History.{calls_of}
use Rattle.office_model.specs.Step.{Running}
use Rattle.std.proofs.Common.{refl}
use Rattle.migrate_work.proofs.laws.a_migration_changes_no_office.Goals as goal

pub returns-clause-kept : goal.returns-clause-kept
returns-clause-kept c = λ end office names faults entries legal ends.
    office_kept office (Running office names) faults entries refl legal (of_migration end (calls_of entries) ends)

pub returns-clause-none_left : goal.returns-clause-none_left
returns-clause-none_left c = λ office names faults entries count sound legal ends place host at.
    none_left office sound.hosts.differ place host at names faults entries count legal ends
