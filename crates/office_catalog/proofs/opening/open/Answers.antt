use Rattle.office_catalog.proofs.Opens.{head_told, none_told, opened_of, foreign_of, nothing_read}
use Rattle.office_catalog.proofs.opening.open.Goals as goal

pub returns-in-Ok-Some-clause-opened : goal.returns-in-Ok-Some-clause-opened
returns-in-Ok-Some-clause-opened g c =
    opened_of _ _ c.in-Ok-Some.head c.read_hosts.result c.in-Ok-Some.ensures.quiet.told_same (head_told _ c.in-Ok-Some.head c.in-Ok-Some.field-0 c.in-Ok-Some.field-0-is c.in-Ok-Some.ensures.head)
    c.read_hosts.ensures.opened

pub returns-in-Ok-Some-clause-foreign : goal.returns-in-Ok-Some-clause-foreign
returns-in-Ok-Some-clause-foreign g c =
    foreign_of _ _ c.in-Ok-Some.head c.read_hosts.result c.in-Ok-Some.ensures.quiet.told_same (head_told _ c.in-Ok-Some.head c.in-Ok-Some.field-0 c.in-Ok-Some.field-0-is c.in-Ok-Some.ensures.head)
    c.read_hosts.ensures.foreign

pub returns-in_ok-with_epoch-in-Ok-None-clause-opened : goal.returns-in_ok-with_epoch-in-Ok-None-clause-opened
returns-in_ok-with_epoch-in-Ok-None-clause-opened g c =
    nothing_read _ _ c.in_ok-with_epoch-in-Ok-None.ensures (none_told _ c.in-Ok-None.field-0 c.in-Ok-None.field-0-is c.in-Ok-None.ensures.head)
