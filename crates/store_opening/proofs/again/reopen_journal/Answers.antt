use Rattle.journal_view.specs.Found.{CanFind}
use Rattle.journal_view.specs.FoundLaws.{openable}
use Rattle.journal_view.specs.OpeningLaws.{reopened_of, refused_of, refused_known, refused_quietly, reopened_quietly, now_of}
use Rattle.store_opening.proofs.Settling.{synced_of, stopped_of}
use Rattle.store_opening.proofs.Whole.{keeps_data}
use Rattle.store_opening.proofs.again.reopen_journal.Goals as goal

pub returns-in-Ok-clause-done : goal.returns-in-Ok-clause-done
returns-in-Ok-clause-done g c = λ all is opens.
    let old = c.args.journal.now.disk in
    reopened_of g.met.D.Disk.counts_now g.met.D.Disk.only_now (CanFind (g.D.Disk.files old) (g.D.Disk.uncertain old)) old
    c.reopen.new.self all is
    (openable (g.D.Disk.files old) (g.D.Disk.uncertain old) opens) c.in-Ok.ensures.done

pub returns-in-Ok-clause-running : goal.returns-in-Ok-clause-running
returns-in-Ok-clause-running g c = λ run tells. reopened_quietly c.args.journal.now c.reopen.new.self run tells c.in-Ok.ensures.done

pub returns-in-Err-clause-failed : goal.returns-in-Err-clause-failed
returns-in-Err-clause-failed g c = λ all is opens.
    let old = c.args.journal.now.disk in
    let start = openable (g.D.Disk.files old) (g.D.Disk.uncertain old) opens in
    let crash = refused_of (CanFind (g.D.Disk.files old) (g.D.Disk.uncertain old)) old c.reopen.new.self.disk _ all is start
    c.in-Err.ensures.refused in (
      crash,
      now_of g.D.Disk.files g.D.Disk.uncertain g.D.Disk.moment g.D.Disk.left_since g.met.D.Disk.counts_now g.met.D.Disk.only_now
          (CanFind (g.D.Disk.files old) (g.D.Disk.uncertain old)) old c.reopen.new.self.disk start crash,
    )

pub returns-in-Err-clause-known : goal.returns-in-Err-clause-known
returns-in-Err-clause-known g c = λ all file found foreign is opens.
    refused_known c.args.journal.now.disk c.reopen.new.self.disk _ all file found
    (c.open_refusal.ensures.foreign file found foreign) is opens
    c.in-Err.ensures.refused

pub returns-in-Err-clause-foreign : goal.returns-in-Err-clause-foreign
returns-in-Err-clause-foreign g c = λ file found foreign.
    c.in-Err.ensures.refused.foreign file found (c.open_refusal.ensures.foreign file found foreign)

pub returns-in-Err-clause-memory : goal.returns-in-Err-clause-memory
returns-in-Err-clause-memory g c = λ none run.
    let memory = c.open_refusal.ensures.memory.0 none in
    refused_quietly c.args.journal.now c.reopen.new.self _ memory run (c.in-Err.ensures.stopped.0 memory) c.in-Err.ensures.refused

pub returns-in-Ok-clause-keeps : goal.returns-in-Ok-clause-keeps
returns-in-Ok-clause-keeps g c = keeps_data c.args.journal.now.disk c.reopen.new.self c.in-Ok.ensures.done

pub returns-in-Ok-clause-synced : goal.returns-in-Ok-clause-synced
returns-in-Ok-clause-synced g c = λ all is. synced_of c.args.journal.now.disk c.reopen.new.self all is c.in-Ok.ensures.done

pub returns-in-Err-clause-stopped : goal.returns-in-Err-clause-stopped
returns-in-Err-clause-stopped g c = λ all is opens.
    stopped_of c.args.journal.now.disk c.reopen.new.self.disk _ all is opens c.in-Err.ensures.refused
