-- What a crash leaves of a run of several events.
--     moves_left      what an opening finds in what a crash since its start left;  moves_next      and on a disk that starts from that
use Rattle.std.proofs.Common.{◌≡◌, List, inl, inr}
use Rattle.disk_trait.specs.declared.disk.Disk.{Ghosts as DiskGhosts}
use Rattle.disk_trait.specs.Files.{Files}
use Rattle.pool_name.specs.declared.namer.Namer.{Ghosts as NamerGhosts}
use Rattle.journal_view.specs.Found.{Finds, FindsAll}
use Rattle.journal_view.specs.Chain.{Crashed}
use Rattle.journal_view.specs.ChainLaws.{crash_then}
use Rattle.journal_view.specs.View.{OnlyNow, moment, FindsNow, FindsOnly}
use Rattle.journal_view.specs.ViewLaws.{FindsNow-each, FindsOnly-each}
use Rattle.office_model.specs.Step.{Call, State, IsSoundState}
use Rattle.store_parts.specs.Held.{IsEither}
use Rattle.store_parts.specs.States.{InState}
use Rattle.store_opening.specs.Reopens.{first_of, second_of}
use Rattle.office_store.specs.declared.store.Store.{Store}
use Rattle.office_store.specs.Moves.{MayRecoverIn, MayRecoverSince, Moves}
use Rattle.office_store.specs.ServesLaws.{found_since, found_either}

module _ {D N S : Type 0} {d : DiskGhosts D} {n : NamerGhosts N S} (old new : Store D N S d n) (calls : List Call) (moves : Moves old calls new)
    (only : OnlyNow d) (state : State) (at : InState old.parts state) (sound : IsSoundState state) where
  abbrev Left : Files → Type 0
  Left = MayRecoverSince n.digest_of state (d.fault_count old.parts.journal.disk) calls

  start : FindsNow old.parts.journal Left
  start = FindsNow-each (IsEither n.digest_of (first_of state) (second_of state)) Left old.parts.journal (λ found e. inl e) (found_either old state at)

  during : FindsOnly old.parts.journal new.parts.journal Left
  during = FindsOnly-each (MayRecoverIn n.digest_of state (d.fault_count old.parts.journal.disk) calls) Left old.parts.journal new.parts.journal
      (λ found may. inr may) (moves.goes state at sound).crash

  pub moves_left : (image : Files) → d.left_since new.parts.journal.disk (moment old.parts.journal) image → Finds Left image
  moves_left = found_since old.parts.journal new.parts.journal Left only start during

  pub moves_next : (next : D) → Crashed d old.parts.journal.disk new.parts.journal.disk next → FindsAll (d.files next) (d.uncertain next) Left
  moves_next next crashed =
      crash_then d only Left old.parts.journal.disk new.parts.journal.disk next crashed.image crashed.all start during crashed.left crashed.told
      crashed.same crashed.certain
