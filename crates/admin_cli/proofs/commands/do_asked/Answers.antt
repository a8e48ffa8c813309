use Rattle.std.proofs.Common.{◌≡◌, Option, refl, subst, inl, inr}
use Rattle.command_line.specs.declared.line.Work.{Work}
use Rattle.command_line.specs.Line.{Line, task_of}
use Rattle.admin_cli.specs.Command.{AsksFor}
use Rattle.admin_cli.proofs.HeadlineLaws.{runs_refused, runs_pipe, runs_night, runs_migration, runs_demo, runs_pull, runs_dump, runs_restore, runs_doors}
use Rattle.admin_cli.proofs.NightLaws.{some_period}
use Rattle.admin_cli.proofs.RunLaws.{refuses_early}
use Rattle.admin_cli.proofs.commands.do_asked.Goals as goal

asks : (asked work : Work) (line : Option Line) → asked ≡ work → AsksFor (task_of asked) line → AsksFor (task_of work) line
asks asked work line is asks_for = subst (λ (w : Work). AsksFor (task_of w) line) is asks_for

pub returns-in-Err : goal.returns-in-Err
returns-in-Err g c =
    rw c.new.ensures (inl (runs_refused _ _ _ _ _ _ _ _ _ _ _ _ _ _ (refuses_early _ _ _ _ _ _ _ _ c.in-Err.ensures.err) refl, refl))

pub run_night-requires-after_bounds : goal.run_night-requires-after_bounds
run_night-requires-after_bounds g c κs within = some_period _ _ c.in-Ok.ensures.ok.settings_are

pub returns-in-Pipe : goal.returns-in-Pipe
returns-in-Pipe g c =
    rw c.with_workers.ensures (inl (
      runs_pipe _ _ _ _ _ _ _ _ _ _ _ _ _ _
          (c.serve_pipe.ensures _ _ (asks _ _ _ c.in-Pipe.is c.in-Ok.ensures.ok.work) c.in-Ok.ensures.ok.settings_are) refl,
      refl,
    ))

pub returns-in-Night : goal.returns-in-Night
returns-in-Night g c =
    rw c.with_workers-in-Night.ensures (inl (
      runs_night _ _ _ _ _ _ _ _ _ _ _ _ _ _
          (c.run_night.ensures _ _ (asks _ _ _ c.in-Night.is c.in-Ok.ensures.ok.work) c.in-Ok.ensures.ok.settings_are) refl,
      refl,
    ))

pub returns-in-Migrate : goal.returns-in-Migrate
returns-in-Migrate g c =
    rw c.with_workers-in-Migrate.ensures (inl (
      runs_migration _ _ _ _ _ _ _ _ _ _ _ _ _ _
          (c.run_migration.ensures _ _ _ _ (asks _ _ _ c.in-Migrate.is c.in-Ok.ensures.ok.work) c.in-Ok.ensures.ok.settings_are) refl,
      refl,
    ))

pub returns-in-DumpFolder : goal.returns-in-DumpFolder
returns-in-DumpFolder g c =
    rw c.with_workers-in-DumpFolder.ensures (inl (
      runs_dump _ _ _ _ _ _ _ _ _ _ _ _ _ _
          (c.dump.ensures _ _ _ _ (asks _ _ _ c.in-DumpFolder.is c.in-Ok.ensures.ok.work) c.in-Ok.ensures.ok.settings_are),
      refl,
    ))

pub returns-in-RestoreFolder : goal.returns-in-RestoreFolder
returns-in-RestoreFolder g c =
    rw c.with_workers-in-RestoreFolder.ensures (inl (
      runs_restore _ _ _ _ _ _ _ _ _ _ _ _ _ _
          (c.restore.ensures _ _ _ _ _ (asks _ _ _ c.in-RestoreFolder.is c.in-Ok.ensures.ok.work) c.in-Ok.ensures.ok.settings_are),
      refl,
    ))

pub returns-in-Demo : goal.returns-in-Demo
returns-in-Demo g c =
    rw c.with_workers-in-Demo.ensures (inl (
      runs_demo _ _ _ _ _ _ _ _ _ _ _ _ _ _
          (c.run_demo.ensures _ _ _ _ (asks _ _ _ c.in-Demo.is c.in-Ok.ensures.ok.work) c.in-Ok.ensures.ok.settings_are) refl,
      refl,
    ))

pub returns-in-Pull : goal.returns-in-Pull
returns-in-Pull g c =
    rw c.with_workers-in-Pull.ensures (inl (
      runs_pull _ _ _ _ _ _ _ _ _ _ _ _ _ _
          (c.run_pull.ensures _ _ _ (asks _ _ _ c.in-Pull.is c.in-Ok.ensures.ok.work) c.in-Ok.ensures.ok.settings_are) refl,
      refl,
    ))

pub returns-in-Serve : goal.returns-in-Serve
returns-in-Serve g c =
    rw c.with_link.ensures
    (runs_doors _ _ _ _ _ _ _ _ _ _ _ _ _ _ _ _ _ _ _ _ _
    (c.serve_store.ensures _ _ _ _ (asks _ _ _ c.in-Serve.is c.in-Ok.ensures.ok.work) c.in-Ok.ensures.ok.settings_are) refl refl refl)
