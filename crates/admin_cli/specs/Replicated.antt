-- What a pull makes of the disk, if the bytes that came were another server's responses to what was written.
--     HearsPeer      they were: in a legal history of that server
--     HasBrought      an office whose backups of the host are those before, and behind them a beginning of those to be brought
--     BringsOnDisk      the disk handed back has such a one, and so has whatever a crash meanwhile leaves
--     MakesReplica      so it is if a backup that both servers had with one number, times and kind had one tree; and then no frame is foreign
--     IsRefusedBy      it ended by a refusal of the other server
use Rattle.std.specs.Prelude.{◌≡◌, ◌⊎◌, ℕ, List, ◌++◌, length, Some}
use Rattle.disk_trait.specs.declared.disk.Disk.{Ghosts as DiskGhosts}
use Rattle.disk_trait.specs.Images.{Leaves, LeavesOnly}
use Rattle.stream_traits.specs.Seen.{LinkSeen}
use Rattle.journal_view.specs.Found.{Finds}
use Rattle.office_files.specs.Stands.{StandsFor}
use Rattle.office_model.specs.Office.{Office, Durable, Host, Names}
use Rattle.office_model.specs.Step.{IsPicked}
use Rattle.store_parts.specs.Held.{IsEither}
use Rattle.pull_work.specs.declared.ends.PullEnd.{PullEnd}
use Rattle.pull_work.specs.declared.ends.PullEnd.TheVariants.{Done, PeerForeign}
use Rattle.pull_work.specs.Runs.{Taken, steps_of}
use Rattle.replicas.specs.Foreign.{ReadsAll}
use Rattle.replicas.specs.Replicas.{IsReplica, Brings, own_in, shown_in, wanted}
use Rattle.replica_talks.specs.Peers.{IsPeer, IsRefusedThere, EndsEarly}
use Rattle.admin_cli.specs.Run.{StandsForEither}

-- the other server began in this office, and what was written since the first view of the link and what came to it are of its talk
pub record HearsPeer (link link' : LinkSeen) (first : Office) (names : Names) : Type 0 where
  pub input : List ℕ
  pub came : link.left ≡ Some input
  pub before : List ℕ
  pub written : link.written ≡ Some before
  pub wrote : List ℕ
  pub written_now : link'.written ≡ Some (before ++ wrote)
  pub peer : IsPeer first names wrote input

-- the last event that was asked for was refused there with a refusal of this status, or the other server had no memory
abbrev pub IsRefusedBy : {link link' : LinkSeen} {first : Office} {names : Names} → HearsPeer link link' first names → (host : List ℕ)
    → List Taken → (status : ℕ) → Type 0
IsRefusedBy hears host turns status = (status ≡ 507) ⊎ IsRefusedThere host (steps_of turns) (own_in hears.peer.marked) status

-- the host's backups are the old ones and then a beginning of the other server's from the old next number on, with their numbers, times,
-- kinds and trees; no other host changed, and what both servers have agrees
pub record HasBrought (old first : List Host) (host : List ℕ) (kept : Durable) : Type 0 where
  pub brings : Brings old (wanted old first host) host kept.hosts
  pub replica : IsReplica kept.hosts first host

module _ {D : Type 0} (d : DiskGhosts D) (digest_of : List ℕ → List ℕ) where
  -- The disk handed back stands for an office that has so, or for one of two that have. A crash up to the first sync leaves one of the
  -- two that the disk stood for, as that of any command, and since then one that has so. A pull that ended well brought all, and says
  -- how many.
  pub record BringsOnDisk (disk disk' : D) (a b : Durable) (old first : List Host) (host : List ℕ) (end : PullEnd) : Type 0 where
    pub before : Durable
    pub next : Durable
    pub left : StandsForEither d digest_of disk' before next
    pub first_has : HasBrought old first host before
    pub second_has : HasBrought old first host next
    pub synced : D
    pub up_to : Leaves d.moment d.left_since disk synced (Finds (IsEither digest_of a b))
    pub crash : LeavesOnly d.moment d.left_since synced disk'
        (Finds (λ found. (kept : Durable) × StandsFor digest_of found kept × HasBrought old first host kept))
    pub all : (count : ℕ) → end ≡ Done count
        → (count ≡ length (wanted old first host)) × (next ≡ before)
        × (shown_in before.hosts host ≡ shown_in old host ++ wanted old first host)

  -- The disk stood for one of two offices, and for this one. An answer is foreign only if what came ended before it was whole, or behind
  -- as many frames of a restore as none has.
  pub record MakesReplica (disk disk' : D) (a b : Durable) (first : List Host) (host : List ℕ) (turns : List Taken) (input : List ℕ)
      (end : PullEnd) : Type 0 where
    pub old : Durable
    pub is_one : IsPicked a b old
    pub brings : IsReplica old.hosts first host → BringsOnDisk disk disk' a b old.hosts first host end
    pub foreign : IsReplica old.hosts first host → end ≡ PeerForeign → EndsEarly host (steps_of turns) input ⊎ ReadsAll turns
