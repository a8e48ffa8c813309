-- A further open restore.
--     IsOpened old epoch whole removed rows name new      the sessions have one restore more, which gave nothing
--     HasOpened old whole removed rows name new      so have the parts of a store, and its whole rows claim their contents
--     OpensRestore old epoch rows older reply new      an answer opened it, of what leads from older rows to these
--     SaysOpened old host number base reply new      an answer opened it by rows that the files tell of the backup and of its base; a damaged
--         file is a table that one of the two calls for
--     HasKept old new      the same is open, and claims the same
use Rattle.std.specs.Prelude.{◌≡◌, ◌⊎◌, ℕ, ◌+◌, ◌<◌, true, List, [], ◌∷◌, ◌++◌, Option, Ok, Err}
use Rattle.disk_trait.specs.declared.ids.PoolId.{PoolId}
use Rattle.disk_trait.specs.declared.disk.Disk.{Ghosts as DiskGhosts}
use Rattle.pool_name.specs.declared.namer.Namer.{Ghosts as NamerGhosts}
use Rattle.journal_view.specs.View.{Quiet}
use Rattle.merge_view.specs.Views.{Rows}
use Rattle.stored_trees.specs.Occurrences.{occurrences}
use Rattle.pool_changes.specs.Slots.{is_given}
use Rattle.pool_changes.specs.Kept.{IsSame}
use Rattle.office_model.specs.declared.answer.Answer.TheVariants.{Restore}
use Rattle.receipts.specs.declared.session.SessionName.{SessionName}
use Rattle.office_model.specs.Meaning.{Reply}
use Rattle.open_sessions.specs.declared.sessions.Sessions.{Sessions}
use Rattle.open_sessions.specs.Opened.{BesideRestores, AreAlike}
use Rattle.open_sessions.specs.Places.{fresh}
use Rattle.store_parts.specs.declared.parts.StoreParts.{StoreParts}
use Rattle.store_parts.specs.States.{slots}
use Rattle.store_dumps.specs.Claims.{Gains}
use Rattle.store_reads.specs.Told.{TellsBackup, HasDamagedTable, IsReadReply}
use Rattle.store_restores.specs.Since.{removed_since, rows_since, TellsBase, HasDamagedBase}

abbrev pub session_of : ℕ → ℕ → SessionName
session_of epoch sequence = record { epoch = epoch; sequence = sequence }

pub record IsOpened {S : Type 0} (old : Sessions S) (epoch : ℕ) (whole removed rows : Rows) (name : SessionName) (new : Sessions S)
    : Type 0 where
  pub name_is : name ≡ session_of epoch old.sequence
  pub restores : new.restores.items ≡ old.restores.items ++ fresh name whole removed rows ∷ []
  pub beside : BesideRestores old new
  pub sequence : new.sequence ≡ old.sequence + 1

abbrev pub OpensRestore : {S : Type 0} → Sessions S → ℕ → Rows → Option Rows → Reply → Sessions S → Type 0
OpensRestore old epoch rows older (Ok answer) new = (name : SessionName) × (answer ≡ Restore name)
    × IsOpened old epoch rows (removed_since older rows) (rows_since older rows) name new
OpensRestore old epoch rows older (Err refusal) new = ⊥

module _ {D N S : Type 0} {d : DiskGhosts D} {n : NamerGhosts N S} where
  -- the contents are claimed if their names are given ones
  pub record HasOpened (old : StoreParts D N S d n) (whole removed rows : Rows) (name : SessionName) (new : StoreParts D N S d n)
      : Type 0 where
    pub quiet : Quiet old.journal new.journal
    pub catalog : new.catalog ≡ old.catalog
    pub counts : new.counts ≡ old.counts
    pub partials : new.partials ≡ old.partials
    pub views : new.views ≡ old.views
    pub halted : new.halted ≡ old.halted
    pub form : new.pool.in_one_file ≡ old.pool.in_one_file
    pub sessions : IsOpened old.sessions old.catalog.epoch whole removed rows name new.sessions
    pub claims : ((id : PoolId) → 0 < occurrences id whole → is_given (slots old id) ≡ true)
        → Gains (λ id. occurrences id whole) (slots old) (slots new)

  abbrev pub SaysOpened : StoreParts D N S d n → List ℕ → ℕ → Option ℕ → Reply → StoreParts D N S d n → Type 0
  SaysOpened old host number base reply new = IsReadReply (TellsBackup old host number)
      (λ file found. HasDamagedTable old host number file found ⊎ HasDamagedBase old host base file found)
      (λ rows answer. (older : Option Rows) × TellsBase old host base older
      × OpensRestore old.sessions old.catalog.epoch rows older answer new.sessions) reply

  pub record HasKept (old new : StoreParts D N S d n) : Type 0 where
    pub quiet : Quiet old.journal new.journal
    pub catalog : new.catalog ≡ old.catalog
    pub counts : new.counts ≡ old.counts
    pub partials : new.partials ≡ old.partials
    pub views : new.views ≡ old.views
    pub halted : new.halted ≡ old.halted
    pub form : new.pool.in_one_file ≡ old.pool.in_one_file
    pub sessions : AreAlike old.sessions new.sessions
    pub names : IsSame (slots old) (slots new)
