-- Runs of calls of the journal that change one content or stage.
--     Rewrites old file new      the metadata and the other contents and stages stay, in each image too
use Rattle.std.specs.Prelude.{◌≡◌, false, Some}
use Rattle.disk_trait.specs.declared.ids.FileId.{FileId}
use Rattle.disk_trait.specs.declared.disk.Disk.{Ghosts}
use Rattle.disk_trait.specs.Files.{Files, SameButOne}
use Rattle.disk_trait.specs.Images.{also, IsWithin, Leaves}
use Rattle.intent_journal.specs.declared.journal.Journal.{Journal}
use Rattle.intent_journal.specs.Overlay.{ComesTo}

pub record Rewrites {D : Type 0} {d : Ghosts D} (old : Journal D d) (file : FileId) (new : Journal D d) : Type 0 where
  pub stays : new.halted ≡ old.halted
  pub others : SameButOne file (d.files old.disk) (d.files new.disk)
  pub certain : IsWithin (d.uncertain new.disk) (also (d.uncertain old.disk) file)
  pub any_moment : old.halted ≡ false → (all : Files) → d.files old.disk ≡ Some all
      → Leaves d.moment d.left_since old.disk new.disk (ComesTo all (also (d.uncertain old.disk) file))
