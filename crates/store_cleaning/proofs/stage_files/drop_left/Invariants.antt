use Rattle.std.proofs.Common.{◌≡◌, drop, Some}
use Rattle.std.specs.Option.{option_map}
use Rattle.disk_trait.specs.Files.{Files}
use Rattle.journal_view.specs.View.{told}
use Rattle.store_cleaning.specs.StageFiles.{is_left, without, Drops}
use Rattle.store_cleaning.proofs.stage_files.drop_left.Given as goal

abbrev pub invariant-loop-file : goal.invariant-loop-file
invariant-loop-file g l = record {
  halted : l.journal.halted ≡ l.fn.journal.halted;
  still : g.D.Disk.fault_count l.journal.disk ≡ g.D.Disk.fault_count l.fn.journal.disk;
  drops : (all : Files) → told l.fn.journal ≡ Some all → Drops l.fn.journal (is_left l.sessions.stages.items.items) all l.journal;
  dropped : option_map (without (is_left l.sessions.stages.items.items) (drop l.file-index l.files)) (told l.journal)
      ≡ option_map (without (is_left l.sessions.stages.items.items) l.files) (told l.fn.journal);
}
