use Rattle.office_model.specs.laws.OldTableLaws.{none_joins, none_joins_later, migrated_is_none}
use Rattle.office_model.proofs.laws.old_hosts_become_fewer.Goals as goal

pub returns-clause-joins : goal.returns-clause-joins
returns-clause-joins c = none_joins

pub returns-clause-joins_later : goal.returns-clause-joins_later
returns-clause-joins_later c = none_joins_later

pub returns-clause-migrated : goal.returns-clause-migrated
returns-clause-migrated c = migrated_is_none
