-- What the program promises of a run, whatever it was.
--     RunsAlone      of one over the disk and the link alone, or without a store
--     RunsOnLink      of one over the one link
--     Runs      of any
use Rattle.std.specs.Prelude.{◌≡◌, ℕ, List, Option, ◌⊎◌}
use Rattle.disk_trait.specs.declared.disk.Disk.{Ghosts as DiskGhosts}
use Rattle.stream_traits.specs.declared.link.Faults.{Ghosts}
use Rattle.stream_traits.specs.Seen.{LinkSeen}
use Rattle.folder_trait.specs.declared.folder.Folder.{Ghosts as FolderGhosts}
use Rattle.door_server.specs.declared.worker.Worker.{Worker}
use Rattle.command_line.specs.Line.{Line}
use Rattle.admin_cli.specs.declared.note.Note.{Note}
use Rattle.admin_cli.specs.Run.{Serves, Refuses}
use Rattle.admin_cli.specs.Nights.{DoesNight}
use Rattle.admin_cli.specs.Migrations.{DoesMigration}
use Rattle.admin_cli.specs.Demos.{DoesDemo}
use Rattle.admin_cli.specs.Pulls.{DoesPull}
use Rattle.admin_cli.specs.Folders.{DumpsFolder, RestoresFolder}
use Rattle.admin_cli.specs.Servers.{ServesStore}

module _ {D F : Type 0} (d : DiskGhosts D) (f : FolderGhosts F) (digest_of : List ℕ → List ℕ) where
  -- `pipe`, `night`, `migrate`, `demo` or `pull` was carried out, or no store was opened
  abbrev pub RunsAlone : (disk disk' : D) → Option Line → (settings : List ℕ) → (link link' : LinkSeen)
      → (moments moments' : Option (List ℕ)) → Note → Type 0
  RunsAlone disk disk' line settings link link' moments moments' note =
      Serves d digest_of disk disk' line settings link link' moments moments' note
      ⊎ (DoesNight d digest_of disk disk' line settings link link' moments moments' note
      ⊎ (DoesMigration d digest_of disk disk' line settings link link' moments moments' note
      ⊎ (DoesDemo d digest_of disk disk' line settings link link' moments moments' note
      ⊎ (DoesPull d digest_of disk disk' line settings link link' moments moments' note
      ⊎ Refuses d digest_of disk disk' line settings link link' moments moments' note))))

  -- so it was, and the folder was left alone; or a folder was dumped, or a backup restored
  abbrev pub RunsOnLink : (disk disk' : D) → Option Line → (settings : List ℕ) → (link link' : LinkSeen)
      → (moments moments' : Option (List ℕ)) → (folder folder' : F) → Note → Type 0
  RunsOnLink disk disk' line settings link link' moments moments' folder folder' note =
      (RunsAlone disk disk' line settings link link' moments moments' note × (folder' ≡ folder))
      ⊎ (DumpsFolder d digest_of f disk disk' line settings link link' moments moments' folder folder' note
      ⊎ RestoresFolder d digest_of f disk disk' line settings link link' moments moments' folder folder' note)

  module _ {T C G L : Type 0} (l : Ghosts L) (coming given_back : T → Option (List L)) (faults : T → ℕ)
      (moments_of : C → Option (List ℕ)) where
    -- the command was carried out over the one link, or no store was opened, and the workers are as they were; or the workers served the
    -- store, and nothing happened to the link and the folder, and the clock wasn't asked
    abbrev pub Runs : (disk disk' : D) → Option Line → (settings : List ℕ) → (link link' : LinkSeen)
        → (moments moments' : Option (List ℕ)) → (folder folder' : F) → (before after : List (Worker T C G)) → Note → Type 0
    Runs disk disk' line settings link link' moments moments' folder folder' before after note =
        (RunsOnLink disk disk' line settings link link' moments moments' folder folder' note × (after ≡ before))
        ⊎ (ServesStore d digest_of l coming given_back faults moments_of disk disk' line settings before after note
        × (link' ≡ link) × (moments' ≡ moments) × (folder' ≡ folder))
