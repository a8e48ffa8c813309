-- What a commit of an open dump is to the model, and the files that stand for the office after it.
--     office_after      the office after the commit, but for the ids
--     named_by rows contents office      the office with the names of rows among its ids
--     EndsAs parts event name place line      the event ends the open dump at a place as the backup of this line
--     IsMeant, meant      the dump of the model that an open dump at a place is, and its host, which has no receipt of its token
--     IsStoredAfter      files that stand for an office after changes, by what parts at work hold
use Rattle.std.specs.Prelude.{◌≡◌, ℕ, ◌<◌, false, List, Some, Ok, slice_get, slice_set}
use Rattle.std.specs.List.{remove}
use Rattle.disk_trait.specs.declared.ids.PoolId.{PoolId}
use Rattle.disk_trait.specs.declared.disk.Disk.{Ghosts as DiskGhosts}
use Rattle.disk_trait.specs.Files.{Files}
use Rattle.pool_name.specs.declared.namer.Namer.{Ghosts as NamerGhosts}
use Rattle.intent_journal.specs.declared.changes.Change.{Change}
use Rattle.intent_journal.specs.Changes.{applied}
use Rattle.backup_rules.specs.declared.lines.Line.{Line}
use Rattle.backup_index.specs.Index.{Index}
use Rattle.pool_index.specs.Index.{TellsIn}
use Rattle.pool_changes.specs.Listed.{index_of}
use Rattle.merge_view.specs.Views.{Rows}
use Rattle.ref_counts.specs.Numbers.{Items}
use Rattle.ref_counts.specs.Stored.{StoredHost}
use Rattle.open_sessions.specs.declared.sessions.OpenDump.{OpenDump}
use Rattle.open_sessions.specs.Opened.{IsDump}
use Rattle.receipts.specs.declared.session.SessionName.{SessionName}
use Rattle.office_model.specs.declared.event.Event.{Event}
use Rattle.office_model.specs.Office.{Office, Host, Dump, Names, IsUnspent, number_limit, with_dumps, with_hosts, with_ids, with_pool, with_stages, stages_left}
use Rattle.office_model.specs.Pool.{with_tree}
use Rattle.office_model.specs.Step.{meaning_of}
use Rattle.office_model.specs.events.Commit.{Ending, with_commit, ends}
use Rattle.office_files.specs.Pooled.{contents_of}
use Rattle.office_files.specs.Stands.{Stands}
use Rattle.office_changes.specs.IdLaws.{ids_with}
use Rattle.store_parts.specs.declared.parts.StoreParts.{StoreParts}
use Rattle.store_parts.specs.Held.{given, AreCountsOf, IsKeptView}
use Rattle.store_parts.specs.States.{slots, IsRunning}
use Rattle.store_commits.specs.AcceptLaws.{with_added}
use Rattle.store_commits.specs.Tables.{place_of}

-- the dump at a place becomes its host's newest backup, and the stages of a dump of this name end
abbrev pub office_ended : SessionName → Office → ℕ → Dump → Host → Line → Office
office_ended session office place dump host line =
    with_stages (with_dumps (with_pool (with_hosts office (slice_set office.hosts dump.host (with_commit host dump line)))
    (with_tree office.pool dump.tree)) (remove office.dumps place)) (stages_left session office.stages)

-- its own name
abbrev pub office_after : Office → ℕ → Dump → Host → Line → Office
office_after office place dump host line = office_ended dump.name office place dump host line

-- with the names of rows among its ids, each with its content
abbrev pub named_by : Rows → (PoolId → List ℕ) → Office → Office
named_by rows contents office = with_ids office (ids_with rows contents office.ids)

module _ {D N S : Type 0} {d : DiskGhosts D} {n : NamerGhosts N S} where
  -- The event ends the open dump of a name, which is at this place; and to what the dump and its host are in the model the ending gives
  -- this line.
  pub record EndsAs (parts : StoreParts D N S d n) (event : Event) (name : SessionName) (place : ℕ) (line : Line) : Type 0 where
    pub ending : Ending
    pub means : meaning_of event ≡ ends name ending
    pub found : Some place ≡ place_of parts.sessions.dumps.items name
    pub gives : (session : OpenDump) (index : Index) → slice_get parts.sessions.dumps.items place ≡ Some session
        → slice_get parts.catalog.hosts session.host ≡ Some index → (host : Host) (dump : Dump) → index.next ≡ host.next
        → session.start ≡ dump.start → session.kind ≡ dump.kind → ending host dump ≡ Ok line

  -- the dump of the model that an open dump at a place is, and its host, which has a number left
  pub record IsMeant (parts : StoreParts D N S d n) (place : ℕ) (session : OpenDump) (office : Office) (names : Names)
      (at : IsRunning parts office names) : Type 0 where
    pub dump : Dump
    pub there : slice_get office.dumps place ≡ Some dump
    pub is : IsDump (given (slots parts)) (contents_of at.all) dump session
    pub host : Host
    pub here : slice_get office.hosts dump.host ≡ Some host
    pub number : host.next < number_limit
    pub unspent : IsUnspent host.receipts dump.token

  -- After the changes the files stand for the office, by the pool's index with these names in it, and what is kept is still a
  -- view; these are the counts of what is stored.
  pub record IsStoredAfter (parts : StoreParts D N S d n) (all : Files) (ids : List PoolId) (changes : List Change)
      (counts : List Items) (after : Office) : Type 0 where
    pub shown : List StoredHost
    pub stands : Stands n.digest_of (index_of (with_added ids (slots parts))) shown (applied changes all) after.durable
    pub tells : TellsIn false (index_of (with_added ids (slots parts))) (applied changes all)
    pub counted : AreCountsOf counts shown
    pub view : IsKeptView parts.views.kept after.hosts shown
