-- What an answer says of the files that its event called for, over any disk that tells its files.
--     IsStill none old reply new      an event that finds nothing to be done reads and writes nothing
--     IsThere old event reply      Ok and Damaged are said only of a host, a restore or a reader that is there
--     NextSays, PartSays, PutSays, SweepSays, ListSays, ReopeningSays      of a restore's next frame, of a reader's next part, of a put, of a
--         sweep, of a listing of the pool and of a reopening
--     SaysOfFiles old event reply new      Ok is said only if they were there, each in its grammar or with its digest; Damaged names one
--         that wasn't, with what was found of it
--     TellsDamage old event reply new      both, if the store didn't answer that it is halted
--     WritesNoFile event      an abort, and what opens a restore or gives its next frame
--     LeavesTold old event reply new      what the disk tells is as before behind such an event, and behind one that found a damaged file, but for
--         a reopening and the put of a stage
use Rattle.std.specs.Prelude.{⊤, ◌≡◌, ℕ, [], ◌∷◌, Some, Ok, Err, IfOk, OnOk, slice_get}
use Rattle.disk_trait.specs.Files.{Files}
use Rattle.disk_trait.specs.declared.disk.Disk.{Ghosts as DiskGhosts}
use Rattle.pool_name.specs.declared.namer.Namer.{Ghosts as NamerGhosts}
use Rattle.backup_index.specs.Index.{Index}
use Rattle.journal_view.specs.View.{told}
use Rattle.office_catalog.specs.Known.{host_named, names_of}
use Rattle.pool_changes.specs.Listed.{index_of}
use Rattle.office_model.specs.declared.answer.Answer.{Answer}
use Rattle.office_model.specs.declared.answer.Answer.TheVariants.{Cleaned, Expired}
use Rattle.office_model.specs.declared.event.Event.{Event}
use Rattle.office_model.specs.declared.event.Event.TheVariants as E
use Rattle.office_model.specs.declared.event.PutItem.{PutItem}
use Rattle.office_model.specs.declared.event.PutItem.TheVariants.{Whole, Staged}
use Rattle.office_model.specs.declared.refusal.Refusal.TheVariants as R
use Rattle.receipts.specs.declared.session.SessionName.{SessionName}
use Rattle.office_model.specs.Meaning.{Reply}
use Rattle.office_model.specs.History.{IsUndamaged}
use Rattle.open_sessions.specs.declared.readers.OpenReader.{OpenReader}
use Rattle.open_sessions.specs.declared.sessions.OpenRestore.{OpenRestore}
use Rattle.open_sessions.specs.Places.{next_in}
use Rattle.store_parts.specs.declared.parts.StoreParts.{StoreParts}
use Rattle.store_parts.specs.FoundLaws.{reader_place}
use Rattle.store_parts.specs.Runs.{CopiesNone}
use Rattle.store_parts.specs.States.{slots}
use Rattle.store_dumps.specs.Opening.{OpensDump}
use Rattle.store_dumps.specs.Resuming.{ResumesDump}
use Rattle.store_partials.specs.Heeding.{HeedsPartial, IsKnownFor, IsKnownNamed}
use Rattle.store_stages.specs.Losing.{NamesLost}
use Rattle.store_reads.specs.Told.{ReadsTree, HasDamagedTable, IsReadReply, ListsRows, SaysNode, GivesFile}
use Rattle.store_restores.specs.Finding.{place_of, HasRestore}
use Rattle.store_restores.specs.Giving.{GivesNext}
use Rattle.store_restores.specs.Opening.{SaysOpened}
use Rattle.store_readers.specs.Finding.{HasReader}
use Rattle.store_readers.specs.Giving.{GivesPart}
use Rattle.store_readers.specs.Opening.{OpensFile}
use Rattle.store_checks.specs.Giving.{GivesPiece}
use Rattle.store_checks.specs.Listing.{ListsPart}
use Rattle.store_cleaning.specs.StageFiles.{OnlyOpen}
use Rattle.store_commits.specs.Tables.{HeedsTables, HeedsAdopted}
use Rattle.store_deletions.specs.Called.{SaysOfTables, HasHost}
use Rattle.store_deletions.specs.Shortens.{named_numbers}
use Rattle.store_migrations.specs.Called.{SaysOfMigration}
use Rattle.store_opening.specs.Recovers.{IsForeignTo}
use Rattle.store_opening.specs.Whole.{HasAllOf}

abbrev pub WritesNoFile : Event → Type 0
WritesNoFile (E.Abort session) = ⊤
WritesNoFile (E.OpenRead host number base) = ⊤
WritesNoFile (E.ReadNext restore) = ⊤
WritesNoFile event = ⊥

module _ {D N S : Type 0} {d : DiskGhosts D} {n : NamerGhosts N S} where
  -- the look-ups of the other events are in what they say of the files
  abbrev pub IsThere : StoreParts D N S d n → Event → Reply → Type 0
  IsThere old (E.ReadNext restore) reply = HasRestore old restore reply
  IsThere old (E.ReadPart number) reply = HasReader old number reply
  IsThere old (E.Delete host number) reply = HasHost old host reply
  IsThere old (E.Expire host now) reply = HasHost old host reply
  IsThere old event reply = ⊤

  -- of the restore of this name, at its place in memory
  abbrev pub NextSays : StoreParts D N S d n → SessionName → Reply → StoreParts D N S d n → Type 0
  NextSays old restore reply new = (at : ℕ) (session : OpenRestore S) → Some at ≡ place_of old.sessions.restores.items restore
      → slice_get old.sessions.restores.items at ≡ Some session
      → GivesNext (next_in session.removed session.rows session.place) old at session reply new

  -- of the reader of this number, at its place in memory
  abbrev pub PartSays : StoreParts D N S d n → ℕ → Reply → StoreParts D N S d n → Type 0
  PartSays old number reply new = (at : ℕ) (reader : OpenReader S) → Some at ≡ reader_place old number
      → slice_get old.sessions.readers.items.items at ≡ Some reader → GivesPart old at reader reply new

  -- a put calls for the file of a stage alone
  abbrev pub PutSays : StoreParts D N S d n → PutItem → Reply → Type 0
  PutSays old (Whole item) reply = IsUndamaged reply
  PutSays old (Staged file) reply = NamesLost old file.stage reply

  -- after Ok no stage has a file but those that are open, as they were
  abbrev pub SweepSays : StoreParts D N S d n → Reply → StoreParts D N S d n → Type 0
  SweepSays old reply new = IsUndamaged reply
      × OnOk reply ((all : Files) → told old.journal ≡ Some all → OnlyOpen old.sessions.stages.items.items all (told new.journal))

  -- a listing of a part of the pool calls for no file: it is that of the index in memory
  abbrev pub ListSays : StoreParts D N S d n → ℕ → Reply → Type 0
  ListSays old part reply = IsUndamaged reply × IfOk reply (ListsPart (index_of (slots old)) part)

  -- after Ok the parts have what the files hold, and no other file is there
  abbrev pub ReopeningSays : StoreParts D N S d n → Reply → StoreParts D N S d n → Type 0
  ReopeningSays old (Ok answer) new = HasAllOf new
  ReopeningSays old (Err (R.Damaged file found)) new = IsForeignTo (d.files old.journal.disk) (d.files new.journal.disk) file found
  ReopeningSays old (Err refusal) new = ⊤

  -- if this was answered, that nothing was to be done, the parts are as they were, and so is the disk: no call was made of it
  abbrev pub IsStill : Answer → StoreParts D N S d n → Reply → StoreParts D N S d n → Type 0
  IsStill none old reply new = reply ≡ Ok none → new ≡ old

  -- of a store at work, or one that was reopened; the other events call for no file, and say of none that it is damaged
  abbrev pub SaysOfFiles : StoreParts D N S d n → Event → Reply → StoreParts D N S d n → Type 0
  SaysOfFiles old (E.List host number directory) reply new =
      IsReadReply (ReadsTree old host number) (HasDamagedTable old host number) (ListsRows directory) reply
  SaysOfFiles old (E.Lookup host number path) reply new =
      IsReadReply (ReadsTree old host number) (HasDamagedTable old host number) (SaysNode path) reply
  SaysOfFiles old (E.ReadFile host number path) reply new =
      IsReadReply (ReadsTree old host number) (HasDamagedTable old host number) (GivesFile n.digest_of (told old.journal) path) reply
  SaysOfFiles old (E.OpenFile host number path) reply new = IsReadReply (ReadsTree old host number) (HasDamagedTable old host number)
      (λ rows answer. OpensFile n.holds old.sessions path rows answer new.sessions) reply
  SaysOfFiles old (E.ReadPart number) reply new = PartSays old number reply new
  SaysOfFiles old (E.Put session path item token) reply new = PutSays old item reply
  SaysOfFiles old E.Sweep reply new = SweepSays old reply new
  SaysOfFiles old (E.OpenDump host kind now token) reply new = OpensDump old host kind now token reply new
  SaysOfFiles old (E.Resume host) reply new = ResumesDump old host reply new
  SaysOfFiles old (E.Commit session now) reply new = HeedsTables old session reply new
  SaysOfFiles old (E.Adopt session number start end kind) reply new = HeedsAdopted number old session reply new
  SaysOfFiles old (E.Park session) reply new = HeedsPartial old (IsKnownFor old session) reply new
  SaysOfFiles old (E.DropPartial host) reply new = HeedsPartial old (IsKnownNamed old host) reply new
  SaysOfFiles old (E.OpenRead host number base) reply new = SaysOpened old host number base reply new
  SaysOfFiles old (E.ReadNext restore) reply new = NextSays old restore reply new
  SaysOfFiles old (E.Delete host number) reply new =
      (place : ℕ) → Some place ≡ host_named (names_of old.catalog.hosts) host → SaysOfTables old new place (number ∷ []) reply
  SaysOfFiles old (E.Expire host now) reply new =
      ((place : ℕ) (index : Index) → Some place ≡ host_named (names_of old.catalog.hosts) host
      → slice_get old.catalog.hosts place ≡ Some index
      → SaysOfTables old new place (named_numbers index.rules now index.lines) reply)
      × IsStill (Expired 0) old reply new
  SaysOfFiles old (E.Migrate host) reply new = SaysOfMigration old host reply new
  SaysOfFiles old (E.Clean bucket) reply new = IsUndamaged reply × IsStill (Cleaned 0 0 0) old reply new
  SaysOfFiles old (E.PoolList part) reply new = ListSays old part reply
  SaysOfFiles old (E.PoolPiece id from) reply new = GivesPiece old id from reply
  SaysOfFiles old E.Reopen reply new = ReopeningSays old reply new
  SaysOfFiles old event reply new = IsUndamaged reply

  abbrev pub TellsDamage : StoreParts D N S d n → Event → Reply → StoreParts D N S d n → Type 0
  TellsDamage old event (Err R.Halted) new = ⊤
  TellsDamage old event reply new = IsThere old event reply × SaysOfFiles old event reply new

  -- a reopening may have brought a commit to its end before it finds a file that isn't the store's, and the put of a stage have copied a
  -- part of the stage's file before that ends
  pub record LeavesTold (old : StoreParts D N S d n) (event : Event) (reply : Reply) (new : StoreParts D N S d n) : Type 0 where
    pub still : WritesNoFile event → told new.journal ≡ told old.journal
    pub undone : (event ≡ E.Reopen → ⊥) → CopiesNone event → (IsUndamaged reply → ⊥) → told new.journal ≡ told old.journal
