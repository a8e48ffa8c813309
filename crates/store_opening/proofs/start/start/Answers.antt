use Rattle.store_opening.specs.KeptTablesLaws.{tables_closed}
use Rattle.store_opening.proofs.Running.{started_of, tables_parts, at_work}
use Rattle.store_opening.proofs.Reopening.{left_of, left_at, closed_foreign}
use Rattle.store_opening.proofs.Settling.{closed_one}
use Rattle.store_opening.proofs.Whole.{whole_parts, buckets_parts, listed_parts, spent_closed}
use Rattle.store_opening.proofs.start.start.Goals as goal

pub returns-in-Err-clause-left : goal.returns-in-Err-clause-left
returns-in-Err-clause-left g c = λ a b holds.
    left_at g.D.Disk g.N.Namer.digest_of a b c.in-Err.refusal c.begin.new.journal.disk c.close.result c.close.ensures
    (left_of g.N.Namer c.begin.new.journal a b c.in-Err.refusal (c.in-Err.ensures.begins a b holds))

pub returns-in-Err-clause-foreign : goal.returns-in-Err-clause-foreign
returns-in-Err-clause-foreign g c = λ file found e.
    closed_foreign c.args.journal c.begin.new.journal c.close.result file found c.in-Err.refusal c.close.ensures e c.in-Err.ensures.quiet
    c.in-Err.ensures.foreign

pub returns-in-Ok-clause-whole : goal.returns-in-Ok-clause-whole
returns-in-Ok-clause-whole g c =
    whole_parts c.parts_of.result c.in-Ok.found c.parts_of.ensures.is c.begin.new.journal c.parts_of.ensures.journal c.in-Ok.ensures.whole

pub returns-in-Ok-clause-buckets : goal.returns-in-Ok-clause-buckets
returns-in-Ok-clause-buckets g c =
    buckets_parts c.parts_of.result c.in-Ok.found c.parts_of.ensures.is c.begin.new.journal c.parts_of.ensures.journal
    c.in-Ok.ensures.buckets

pub returns-in-Ok-clause-listed : goal.returns-in-Ok-clause-listed
returns-in-Ok-clause-listed g c =
    listed_parts c.parts_of.result c.in-Ok.found c.parts_of.ensures.is (g.D.Disk.files c.args.journal.disk) c.in-Ok.ensures.listed

pub returns-in-Err-clause-spent : goal.returns-in-Err-clause-spent
returns-in-Err-clause-spent g c = spent_closed c.begin.new.journal c.close.result c.in-Err.refusal c.close.ensures c.in-Err.ensures.spent

pub returns-in-Ok-clause-opened : goal.returns-in-Ok-clause-opened
returns-in-Ok-clause-opened g c = λ a b holds.
    started_of c.args.journal.disk c.parts_of.result c.begin.new.journal c.in-Ok.found a b (c.in-Ok.ensures.ends a b holds)
    c.parts_of.ensures.is c.parts_of.ensures.journal

pub returns-in-Err-clause-left_one : goal.returns-in-Err-clause-left_one
returns-in-Err-clause-left_one g c = λ a b holds.
    closed_one g.D.Disk g.N.Namer.digest_of c.args.journal.disk c.begin.new.journal.disk c.close.result a b c.close.ensures
    (c.in-Err.ensures.ends a b holds)

pub returns-in-Ok-clause-tables : goal.returns-in-Ok-clause-tables
returns-in-Ok-clause-tables g c = λ all is.
    tables_parts c.parts_of.result c.begin.new.journal c.parts_of.ensures.journal all (c.begin.ensures.tables all is)

pub returns-in-Err-clause-left_tables : goal.returns-in-Err-clause-left_tables
returns-in-Err-clause-left_tables g c = λ all is.
    tables_closed c.begin.new.journal c.close.result c.close.ensures all (c.begin.ensures.tables all is)

pub returns-in-Ok-clause-ready : goal.returns-in-Ok-clause-ready
returns-in-Ok-clause-ready g c =
    at_work c.parts_of.result c.begin.new.journal c.in-Ok.found 0 0 c.in-Ok.ensures.ready c.parts_of.ensures.is c.parts_of.ensures.journal
