use Rattle.std.proofs.Common.{inl, inr}
use Rattle.store_opening.specs.KeptTablesLaws.{tables_can, tables_then}
use Rattle.store_opening.proofs.Reopening.{again_holds, failed_each, unknown_never, left_unopened, told_files, openable}
use Rattle.store_opening.proofs.Settling.{settles_then, stops_then, stops_unopened}
use Rattle.store_opening.proofs.Whole.{listed_before}
use Rattle.store_opening.proofs.start.open.Goals as goal

pub returns-in-Err-clause-left : goal.returns-in-Err-clause-left
returns-in-Err-clause-left g c = λ a b is.
    left_unopened _ _ _ a b c.in-Err.refused.1
    (λ file found e. unknown_never g.D.Disk _ c.args.disk a b is.each (told_files _ is.tells)
    (λ all told opens. c.in-Err.ensures.known all file found e told opens)) c.in-Err.ensures.kind
    (record {
      each = failed_each g.D.Disk _ c.args.disk a b is.each (told_files _ is.tells) c.in-Err.refused.0 c.in-Err.ensures.failed;
      tells = g.met.D.Disk.tells c.args.disk c.in-Err.refused.0 is.tells;
    })

pub returns-in-Err-clause-foreign : goal.returns-in-Err-clause-foreign
returns-in-Err-clause-foreign g c = λ file found e. inl (c.in-Err.ensures.foreign file found e)

pub returns-in-Err-start-clause-foreign : goal.returns-in-Err-start-clause-foreign
returns-in-Err-start-clause-foreign g c = λ file found e. inr (c.in-Err-start.ensures.foreign file found e)

pub returns-in-Err-start-clause-left : goal.returns-in-Err-start-clause-left
returns-in-Err-start-clause-left g c = λ a b is.
    c.in-Err-start.ensures.left a b
    (again_holds g.D.Disk _ c.args.disk a b is.each (told_files _ is.tells) c.in-Ok.journal c.in-Ok.ensures.done)

pub returns-in-Err-clause-spent : goal.returns-in-Err-clause-spent
returns-in-Err-clause-spent g c = λ e. absurd (c.in-Err.ensures.kind e)

pub returns-in-Ok-start-clause-listed : goal.returns-in-Ok-start-clause-listed
returns-in-Ok-start-clause-listed g c =
    listed_before (g.D.Disk.files c.args.disk) (g.D.Disk.files c.in-Ok.journal.disk) _ c.in-Ok.ensures.keeps c.in-Ok-start.ensures.listed

pub returns-in-Err-clause-stops : goal.returns-in-Err-clause-stops
returns-in-Err-clause-stops g c = λ a b is.
    stops_unopened g.D.Disk _ c.args.disk a b is.each c.in-Err.refused.0
    (c.in-Err.ensures.stopped (told_files _ is.tells).0 (told_files _ is.tells).1
    (openable g.D.Disk _ c.args.disk a b is.each (told_files _ is.tells)))

pub returns-in-Ok-start-clause-opened : goal.returns-in-Ok-start-clause-opened
returns-in-Ok-start-clause-opened g c = λ a b is.
    let raw = told_files _ is.tells in
    let w = c.in-Ok-start.ensures.opened a b (again_holds g.D.Disk _ c.args.disk a b is.each raw c.in-Ok.journal c.in-Ok.ensures.done) in
    (w.0, settles_then g.D.Disk _ c.args.disk a b is.each c.in-Ok.journal.disk _ w.0.office (c.in-Ok.ensures.synced raw.0 raw.1) w.1)

pub returns-in-Err-start-clause-stops : goal.returns-in-Err-start-clause-stops
returns-in-Err-start-clause-stops g c = λ a b is.
    let raw = told_files _ is.tells in
    let w = c.in-Err-start.ensures.left_one a b (again_holds g.D.Disk _ c.args.disk a b is.each raw c.in-Ok.journal c.in-Ok.ensures.done) in
    stops_then g.D.Disk _ c.args.disk a b is.each c.in-Ok.journal.disk _ (c.in-Ok.ensures.synced raw.0 raw.1) w

pub returns-in-Err-clause-left_tables : goal.returns-in-Err-clause-left_tables
returns-in-Err-clause-left_tables g c = λ a b is.
    let raw = told_files _ is.tells in
    tables_can _ _ _ _ (c.in-Err.ensures.failed raw.0 raw.1 (openable g.D.Disk _ c.args.disk a b is.each raw)).1

pub returns-in-Ok-start-clause-tables : goal.returns-in-Ok-start-clause-tables
returns-in-Ok-start-clause-tables g c = λ a b is.
    let raw = told_files _ is.tells in
    let mid = c.in-Ok.ensures.done raw.0 raw.1 (openable g.D.Disk _ c.args.disk a b is.each raw) in
    tables_then _ _ _ _ mid.found mid.has (c.in-Ok-start.ensures.tables mid.found mid.told_is)

pub returns-in-Err-start-clause-left_tables : goal.returns-in-Err-start-clause-left_tables
returns-in-Err-start-clause-left_tables g c = λ a b is.
    let raw = told_files _ is.tells in
    let mid = c.in-Ok.ensures.done raw.0 raw.1 (openable g.D.Disk _ c.args.disk a b is.each raw) in
    tables_then _ _ _ _ mid.found mid.has (c.in-Err-start.ensures.left_tables mid.found mid.told_is)
