-- What a run promises, whatever it was.
--     runs_pipe, runs_night, runs_migration, runs_demo, runs_pull, runs_dump, runs_restore, runs_doors, complete, tells
use Rattle.std.specs.Prelude.{◌⊎◌}
use Rattle.std.proofs.Common.{◌≡◌, ℕ, List, Option, inl, inr, refl}
use Rattle.disk_trait.specs.declared.disk.Disk.{Ghosts as DiskGhosts}
use Rattle.stream_traits.specs.declared.link.Faults.{Ghosts}
use Rattle.stream_traits.specs.Seen.{LinkSeen}
use Rattle.folder_trait.specs.declared.folder.Folder.{Ghosts as FolderGhosts}
use Rattle.door_server.specs.declared.worker.Worker.{Worker}
use Rattle.admin_cli.specs.declared.note.Note.{Note}
use Rattle.command_line.specs.Line.{Line, Pipe, Serve, Night, Migrate, DumpFolder, RestoreFolder, Demo, Pull}
use Rattle.admin_cli.specs.Asked.{TellsRefusals}
use Rattle.admin_cli.specs.Nights.{DoesNight}
use Rattle.admin_cli.specs.Migrations.{DoesMigration}
use Rattle.admin_cli.specs.Demos.{DoesDemo}
use Rattle.admin_cli.specs.Pulls.{DoesPull}
use Rattle.admin_cli.specs.Folders.{DumpsFolder, RestoresFolder}
use Rattle.admin_cli.specs.Run.{Serves, IsCause, Refuses, IsComplete}
use Rattle.admin_cli.specs.Servers.{counts_of, has_risen, ServesStore}
use Rattle.admin_cli.specs.Runs.{RunsAlone, RunsOnLink, Runs}
use Rattle.admin_cli.proofs.RefusalLaws.{said_task, tells_served, tells_night, tells_migration, tells_demo, tells_pull, tells_dump, tells_restore, tells_doors, tells_nobody}
use Rattle.admin_cli.proofs.RunLaws.{serves_complete, refused_complete, refused_tells}
use Rattle.admin_cli.proofs.NightLaws.{night_complete}
use Rattle.admin_cli.proofs.MigrationLaws.{migration_complete}
use Rattle.admin_cli.proofs.DemoLaws.{demo_complete}
use Rattle.admin_cli.proofs.PullLaws.{pull_complete}
use Rattle.admin_cli.proofs.FolderLaws.{dump_complete, restore_complete}
use Rattle.admin_cli.proofs.ServerLaws.{doors_complete, nobody_complete}

module _ {D F : Type 0} (d : DiskGhosts D) (f : FolderGhosts F) (digest_of : List ℕ → List ℕ) (disk disk' : D) (note : Note)
    (line : Option Line) (settings : List ℕ) (link link' : LinkSeen) (moments moments' : Option (List ℕ)) (folder folder' : F) where
  -- ---- each command

  pub runs_refused : Refuses d digest_of disk disk' line settings link link' moments moments' note → folder' ≡ folder
      → RunsOnLink d f digest_of disk disk' line settings link link' moments moments' folder folder' note
  runs_refused r same = inl (inr (inr (inr (inr (inr r)))), same)

  pub runs_pipe : Serves d digest_of disk disk' line settings link link' moments moments' note
      ⊎ Refuses d digest_of disk disk' line settings link link' moments moments' note → folder' ≡ folder
      → RunsOnLink d f digest_of disk disk' line settings link link' moments moments' folder folder' note
  runs_pipe (inl s) same = inl (inl s, same)
  runs_pipe (inr r) same = runs_refused r same

  pub runs_night : DoesNight d digest_of disk disk' line settings link link' moments moments' note
      ⊎ Refuses d digest_of disk disk' line settings link link' moments moments' note → folder' ≡ folder
      → RunsOnLink d f digest_of disk disk' line settings link link' moments moments' folder folder' note
  runs_night (inl s) same = inl (inr (inl s), same)
  runs_night (inr r) same = runs_refused r same

  pub runs_migration : DoesMigration d digest_of disk disk' line settings link link' moments moments' note
      ⊎ Refuses d digest_of disk disk' line settings link link' moments moments' note → folder' ≡ folder
      → RunsOnLink d f digest_of disk disk' line settings link link' moments moments' folder folder' note
  runs_migration (inl s) same = inl (inr (inr (inl s)), same)
  runs_migration (inr r) same = runs_refused r same

  pub runs_demo : DoesDemo d digest_of disk disk' line settings link link' moments moments' note
      ⊎ Refuses d digest_of disk disk' line settings link link' moments moments' note → folder' ≡ folder
      → RunsOnLink d f digest_of disk disk' line settings link link' moments moments' folder folder' note
  runs_demo (inl s) same = inl (inr (inr (inr (inl s))), same)
  runs_demo (inr r) same = runs_refused r same

  pub runs_pull : DoesPull d digest_of disk disk' line settings link link' moments moments' note
      ⊎ Refuses d digest_of disk disk' line settings link link' moments moments' note → folder' ≡ folder
      → RunsOnLink d f digest_of disk disk' line settings link link' moments moments' folder folder' note
  runs_pull (inl s) same = inl (inr (inr (inr (inr (inl s)))), same)
  runs_pull (inr r) same = runs_refused r same

  pub runs_dump : DumpsFolder d digest_of f disk disk' line settings link link' moments moments' folder folder' note
      ⊎ (Refuses d digest_of disk disk' line settings link link' moments moments' note × (folder' ≡ folder))
      → RunsOnLink d f digest_of disk disk' line settings link link' moments moments' folder folder' note
  runs_dump (inl s) = inr (inl s)
  runs_dump (inr r) = runs_refused r.0 r.1

  pub runs_restore : RestoresFolder d digest_of f disk disk' line settings link link' moments moments' folder folder' note
      ⊎ (Refuses d digest_of disk disk' line settings link link' moments moments' note × (folder' ≡ folder))
      → RunsOnLink d f digest_of disk disk' line settings link link' moments moments' folder folder' note
  runs_restore (inl s) = inr (inr s)
  runs_restore (inr r) = runs_refused r.0 r.1

  -- ---- over the one link

  alone_complete : (linked linked' : ℕ) (doors doors' : List ℕ) (entered entered' : ℕ)
      → RunsAlone d f digest_of disk disk' line settings link link' moments moments' note → link.faults ≡ linked → link'.faults ≡ linked'
      → IsComplete d digest_of disk disk' line settings linked linked' doors doors' entered entered' note
  alone_complete linked linked' doors doors' entered entered' (inl s) is is' =
      serves_complete d digest_of disk disk' linked linked' note doors doors' entered entered' line settings link link' moments moments' s is is'
  alone_complete linked linked' doors doors' entered entered' (inr (inl s)) is is' =
      night_complete d digest_of disk disk' linked linked' note doors doors' entered entered' line settings link link' moments moments' s is is'
  alone_complete linked linked' doors doors' entered entered' (inr (inr (inl s))) is is' =
      migration_complete d digest_of disk disk' linked linked' note doors doors' entered entered' line settings link link' moments moments' s is is'
  alone_complete linked linked' doors doors' entered entered' (inr (inr (inr (inl s)))) is is' =
      demo_complete d digest_of disk disk' linked linked' note doors doors' entered entered' line settings link link' moments moments' s is is'
  alone_complete linked linked' doors doors' entered entered' (inr (inr (inr (inr (inl s))))) is is' =
      pull_complete d digest_of disk disk' linked linked' note doors doors' entered entered' line settings link link' moments moments' s is is'
  alone_complete linked linked' doors doors' entered entered' (inr (inr (inr (inr (inr r))))) is is' =
      refused_complete d digest_of disk disk' linked linked' note doors doors' entered entered' line settings r.cause

  link_complete : (linked linked' : ℕ) (doors doors' : List ℕ)
      → RunsOnLink d f digest_of disk disk' line settings link link' moments moments' folder folder' note → link.faults ≡ linked
      → link'.faults ≡ linked'
      → IsComplete d digest_of disk disk' line settings linked linked' doors doors' (f.fault_count folder) (f.fault_count folder') note
  link_complete linked linked' doors doors' (inl s) is is' =
      alone_complete linked linked' doors doors' (f.fault_count folder) (f.fault_count folder') s.0 is is'
  link_complete linked linked' doors doors' (inr (inl s)) is is' =
      dump_complete d f digest_of disk disk' linked linked' doors doors' folder folder' note line settings link link' moments moments' is is' s
  link_complete linked linked' doors doors' (inr (inr s)) is is' =
      restore_complete d f digest_of disk disk' linked linked' doors doors' folder folder' note line settings link link' moments moments' is is' s

  alone_tells : RunsAlone d f digest_of disk disk' line settings link link' moments moments' note → TellsRefusals line settings note
  alone_tells (inl s) = tells_served line settings s.read note s.end s.halted (said_task line Pipe s.asked) s.is_read s.note_is
  alone_tells (inr (inl s)) =
      tells_night line settings s.read note s.end s.failed s.halted (said_task line (Night s.scheduled) s.asked) s.is_read s.note_is
  alone_tells (inr (inr (inl s))) =
      tells_migration line settings note s.end s.failed s.halted (said_task line Migrate s.asked) s.read s.note_is
  alone_tells (inr (inr (inr (inl s)))) =
      tells_demo line settings note s.end s.failed s.halted (said_task line (Demo s.number) s.asked) s.read s.note_is
  alone_tells (inr (inr (inr (inr (inl s))))) =
      tells_pull line settings s.read note s.host s.end s.halted (said_task line (Pull s.host s.from) s.asked) s.is_read s.note_is
  alone_tells (inr (inr (inr (inr (inr r))))) = refused_tells d digest_of disk disk' 0 0 note line settings r.cause

  link_tells : RunsOnLink d f digest_of disk disk' line settings link link' moments moments' folder folder' note → TellsRefusals line settings note
  link_tells (inl s) = alone_tells s.0
  link_tells (inr (inl s)) =
      tells_dump line settings note s.result s.failed s.halted (said_task line (DumpFolder s.host s.kind s.path) s.asked) s.read s.note_is
  link_tells (inr (inr s)) =
      tells_restore line settings note s.result s.failed s.halted (said_task line (RestoreFolder s.host s.number s.path) s.asked) s.read s.note_is

  -- ---- any run

  module _ {T C G L : Type 0} (l : Ghosts L) (coming given_back : T → Option (List L)) (faults : T → ℕ)
      (moments_of : C → Option (List ℕ)) (before after : List (Worker T C G)) where
    pub runs_doors : ServesStore d digest_of l coming given_back faults moments_of disk disk' line settings before after note
        ⊎ (IsCause d digest_of disk disk' line settings note × (after ≡ before)) → link' ≡ link → moments' ≡ moments → folder' ≡ folder
        → Runs d f digest_of l coming given_back faults moments_of disk disk' line settings link link' moments moments' folder folder' before after
        note
    runs_doors (inl s) untouched unasked same = inr (s, untouched, unasked, same)
    runs_doors (inr r) untouched unasked same =
        inl (runs_refused (record { cause = r.0; untouched = untouched; unasked = unasked }) same, r.1)

    pub complete : (linked linked' : ℕ)
        → Runs d f digest_of l coming given_back faults moments_of disk disk' line settings link link' moments moments' folder folder' before after
        note → link.faults ≡ linked → link'.faults ≡ linked'
        → IsComplete d digest_of disk disk' line settings linked linked' (counts_of faults before) (counts_of faults after)
        (f.fault_count folder) (f.fault_count folder') note
    complete linked linked' (inl s) is is' =
        link_complete linked linked' (counts_of faults before) (counts_of faults after) s.0 is is'
    complete linked linked' (inr (inl s, untouched, unasked, same)) is is' =
        doors_complete d digest_of disk disk' linked linked' note l coming given_back faults moments_of line settings before after
        (f.fault_count folder) (f.fault_count folder') s
    complete linked linked' (inr (inr s, untouched, unasked, same)) is is' =
        nobody_complete d digest_of disk disk' linked linked' note l coming given_back faults moments_of line settings before after
        (f.fault_count folder) (f.fault_count folder') s

    pub tells : Runs d f digest_of l coming given_back faults moments_of disk disk' line settings link link' moments moments' folder folder' before after
        note → TellsRefusals line settings note
    tells (inl s) = link_tells s.0
    tells (inr (inl s, untouched, unasked, same)) = tells_doors line settings s.read note (has_risen (counts_of faults before) (counts_of faults after)) s.halted
        (said_task line (Serve s.listen s.connections) s.asked) s.is_read s.note_is
    tells (inr (inr s, untouched, unasked, same)) =
        tells_nobody line settings s.read note (said_task line (Serve s.listen s.connections) s.asked) s.is_read s.note_is
