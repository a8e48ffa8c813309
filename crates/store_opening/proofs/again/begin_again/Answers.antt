use Rattle.std.proofs.Common.{◌∙◌, inl, inr}
use Rattle.journal_view.specs.ViewLaws.{FindsOnly-then, Quiet-then, seen_some}
use Rattle.store_opening.specs.Begins.{MayLeave}
use Rattle.store_opening.specs.KeptTablesLaws.{tables_can, tables_then}
use Rattle.store_opening.proofs.Reopening.{openable, again_holds, again_crash, failed_each, failed_crash, some_files, seen_tells, plain_not, still_foreign, unknown_never, begins_unopened, plain_memory}
use Rattle.store_opening.proofs.Settling.{settles_then, stops_then, stops_unopened}
use Rattle.store_opening.proofs.Whole.{listed_before}
use Rattle.store_opening.proofs.again.begin_again.Goals as goal

pub returns-in-Err-clause-begins : goal.returns-in-Err-clause-begins
returns-in-Err-clause-begins g c = λ a b may.
    begins_unopened g.N.Namer c.reopen_journal.new.journal a b c.in-Err.refusal
    (λ file found e. unknown_never g.D.Disk _ c.args.journal.now.disk a b may.each (some_files _ may.tells)
    (λ all is opens. c.in-Err.ensures.known all file found e is opens)) c.in-Err.ensures.kind
    (record {
      each = failed_each g.D.Disk _ c.args.journal.now.disk a b may.each (some_files _ may.tells) c.reopen_journal.new.journal.disk
          c.in-Err.ensures.failed;
      tells = seen_tells _ (g.met.D.Disk.tells c.args.journal.now.disk c.reopen_journal.new.journal.disk (seen_some _ may.tells));
    })

pub returns-in-Err-clause-crash : goal.returns-in-Err-clause-crash
returns-in-Err-clause-crash g c = λ a b may.
    failed_crash g.D.Disk _ c.args.journal.now.disk a b may.each (some_files _ may.tells) c.reopen_journal.new.journal.disk
    c.in-Err.ensures.failed

pub returns-in-Err-clause-quiet : goal.returns-in-Err-clause-quiet
returns-in-Err-clause-quiet g c = λ plain ready tells.
    c.in-Err.ensures.memory (plain_memory c.in-Err.refusal c.in-Err.ensures.kind plain) ready

pub returns-in-Err-clause-foreign : goal.returns-in-Err-clause-foreign
returns-in-Err-clause-foreign g c = λ file found e. inl (c.in-Err.ensures.foreign file found e)

pub returns-in-Err-begin-clause-foreign : goal.returns-in-Err-begin-clause-foreign
returns-in-Err-begin-clause-foreign g c = λ file found e. inr
    (still_foreign _ _ file found c.in-Err-begin.refusal e c.in-Err-begin.ensures.quiet c.in-Err-begin.ensures.foreign)

pub returns-in-Ok-begin-clause-begins : goal.returns-in-Ok-begin-clause-begins
returns-in-Ok-begin-clause-begins g c = λ a b may.
    c.in-Ok-begin.ensures.begins a b (again_holds g.D.Disk _ c.args.journal.now.disk a b may.each
    (some_files _ may.tells) c.reopen_journal.new.journal c.in-Ok.ensures.done)

pub returns-in-Ok-begin-clause-crash : goal.returns-in-Ok-begin-clause-crash
returns-in-Ok-begin-clause-crash g c = λ a b may.
    FindsOnly-then (MayLeave g.N.Namer.digest_of a b) c.args.journal.now c.reopen_journal.new.journal c.begin.new.journal
    (again_crash g.D.Disk _ c.args.journal.now.disk a b may.each (some_files _ may.tells) c.reopen_journal.new.journal c.in-Ok.ensures.done)
    (c.in-Ok-begin.ensures.crash a b (again_holds g.D.Disk _ c.args.journal.now.disk a b may.each
    (some_files _ may.tells) c.reopen_journal.new.journal c.in-Ok.ensures.done))

pub returns-in-Err-begin-clause-begins : goal.returns-in-Err-begin-clause-begins
returns-in-Err-begin-clause-begins g c = λ a b may.
    c.in-Err-begin.ensures.begins a b (again_holds g.D.Disk _ c.args.journal.now.disk a b may.each
    (some_files _ may.tells) c.reopen_journal.new.journal c.in-Ok.ensures.done)

pub returns-in-Err-begin-clause-crash : goal.returns-in-Err-begin-clause-crash
returns-in-Err-begin-clause-crash g c = λ a b may.
    FindsOnly-then (MayLeave g.N.Namer.digest_of a b) c.args.journal.now c.reopen_journal.new.journal c.begin.new.journal
    (again_crash g.D.Disk _ c.args.journal.now.disk a b may.each (some_files _ may.tells) c.reopen_journal.new.journal c.in-Ok.ensures.done)
    (c.in-Err-begin.ensures.crash a b (again_holds g.D.Disk _ c.args.journal.now.disk a b may.each
    (some_files _ may.tells) c.reopen_journal.new.journal c.in-Ok.ensures.done))

pub returns-in-Err-begin-clause-quiet : goal.returns-in-Err-begin-clause-quiet
returns-in-Err-begin-clause-quiet g c = λ plain ready tells.
    Quiet-then c.args.journal.now c.reopen_journal.new.journal c.begin.new.journal (c.in-Ok.ensures.running ready tells)
    (c.in-Err-begin.ensures.quiet (plain_not _ plain))

pub returns-in-Err-clause-spent : goal.returns-in-Err-clause-spent
returns-in-Err-clause-spent g c = λ e. absurd (c.in-Err.ensures.kind e)

pub returns-in-Ok-begin-clause-listed : goal.returns-in-Ok-begin-clause-listed
returns-in-Ok-begin-clause-listed g c =
    listed_before (g.D.Disk.files c.args.journal.now.disk) (g.D.Disk.files c.reopen_journal.new.journal.disk) _ c.in-Ok.ensures.keeps
    c.in-Ok-begin.ensures.listed

pub returns-in-Err-clause-settles : goal.returns-in-Err-clause-settles
returns-in-Err-clause-settles g c = λ a b may.
    let raw = some_files _ may.tells in
    stops_unopened g.D.Disk _ c.args.journal.now.disk a b may.each c.reopen_journal.new.journal.disk
    (c.in-Err.ensures.stopped raw.0 raw.1 (openable g.D.Disk _ c.args.journal.now.disk a b may.each raw))

pub returns-in-Ok-begin-clause-settles : goal.returns-in-Ok-begin-clause-settles
returns-in-Ok-begin-clause-settles g c = λ a b may.
    let raw = some_files _ may.tells in
    let w = c.in-Ok-begin.ensures.ends a b
    (again_holds g.D.Disk _ c.args.journal.now.disk a b may.each raw c.reopen_journal.new.journal c.in-Ok.ensures.done) in (
      w.0,
      settles_then g.D.Disk _ c.args.journal.now.disk a b may.each c.reopen_journal.new.journal.disk c.begin.new.journal.disk w.0.office
          (c.in-Ok.ensures.synced raw.0 raw.1) w.1,
    )

pub returns-in-Err-begin-clause-settles : goal.returns-in-Err-begin-clause-settles
returns-in-Err-begin-clause-settles g c = λ a b may.
    let raw = some_files _ may.tells in
    stops_then g.D.Disk _ c.args.journal.now.disk a b may.each c.reopen_journal.new.journal.disk c.begin.new.journal.disk
    (c.in-Ok.ensures.synced raw.0 raw.1)
    (c.in-Err-begin.ensures.ends a b
    (again_holds g.D.Disk _ c.args.journal.now.disk a b may.each raw c.reopen_journal.new.journal c.in-Ok.ensures.done))

pub returns-in-Err-clause-tables : goal.returns-in-Err-clause-tables
returns-in-Err-clause-tables g c = λ a b may.
    let raw = some_files _ may.tells in
    tables_can _ _ _ _ (c.in-Err.ensures.failed raw.0 raw.1 (openable g.D.Disk _ c.args.journal.now.disk a b may.each raw)).1

pub returns-in-Ok-begin-clause-tables : goal.returns-in-Ok-begin-clause-tables
returns-in-Ok-begin-clause-tables g c = λ a b may.
    let raw = some_files _ may.tells in
    let mid = c.in-Ok.ensures.done raw.0 raw.1 (openable g.D.Disk _ c.args.journal.now.disk a b may.each raw) in
    tables_then _ _ _ _ mid.found mid.has (c.begin.ensures.tables mid.found mid.told_is)

pub returns-in-Err-begin-clause-tables : goal.returns-in-Err-begin-clause-tables
returns-in-Err-begin-clause-tables g c = λ a b may.
    let raw = some_files _ may.tells in
    let mid = c.in-Ok.ensures.done raw.0 raw.1 (openable g.D.Disk _ c.args.journal.now.disk a b may.each raw) in
    tables_then _ _ _ _ mid.found mid.has (c.begin.ensures.tables mid.found mid.told_is)

pub returns-in-Err-clause-stays : goal.returns-in-Err-clause-stays
returns-in-Err-clause-stays g c = λ plain ready.
    (c.in-Err.ensures.memory (plain_memory c.in-Err.refusal c.in-Err.ensures.kind plain) ready).halted_same ∙ ready

pub returns-in-Err-begin-clause-stays : goal.returns-in-Err-begin-clause-stays
returns-in-Err-begin-clause-stays g c = λ plain ready.
    (c.in-Err-begin.ensures.quiet (plain_not _ plain)).halted_same ∙ c.in-Ok.ensures.ready
