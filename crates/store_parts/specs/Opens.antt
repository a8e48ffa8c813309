-- What an event promises that changes what is open, and no file.
--     AreNear old new      the names of a pool are what they were, but for their claims
--     AreNamedAlike old new      contents are named as before; the next stage and the next reader may have other numbers
--     Stays old new      parts are as they were, but for what is open and its claims
--     Opens old event answer office names at new      the event breaks no rule, and what is open then is that of the office after it
use Rattle.std.specs.Prelude.{◌≡◌, ◌<◌, true, Option, Ok, is_some}
use Rattle.disk_trait.specs.declared.ids.PoolId.{PoolId}
use Rattle.disk_trait.specs.declared.disk.Disk.{Ghosts as DiskGhosts}
use Rattle.pool_name.specs.declared.namer.Namer.{Ghosts as NamerGhosts}
use Rattle.journal_view.specs.View.{Quiet}
use Rattle.pool_changes.specs.declared.slot.Slot.{Slot}
use Rattle.pool_changes.specs.Slots.{Slots, is_given, size_of, claims_of}
use Rattle.pool_changes.specs.Listed.{item_of}
use Rattle.open_sessions.specs.Opened.{AreSessions, claims_in}
use Rattle.office_model.specs.declared.answer.Answer.{Answer}
use Rattle.office_model.specs.declared.event.Event.{Event}
use Rattle.office_model.specs.Office.{Office, Volatile, Names}
use Rattle.office_model.specs.Step.{IsMade, meaning_of}
use Rattle.office_model.specs.UsedNames.{AreNamesAfter}
use Rattle.office_files.specs.Pooled.{contents_of}
use Rattle.store_parts.specs.declared.parts.StoreParts.{StoreParts}
use Rattle.store_parts.specs.Held.{given}
use Rattle.store_parts.specs.States.{slots, staging_of, IsRunning}

-- A name of which at most the claims have changed: what is given was given, with the same size; what was given and is still claimed is
-- given; live and used names are the same.
pub record IsNear (id : PoolId) (old new : Option Slot) : Type 0 where
  pub was_given : is_given new ≡ true → is_given old ≡ true
  pub size : is_given new ≡ true → size_of new ≡ size_of old
  pub given : is_given old ≡ true → 0 < claims_of new → is_given new ≡ true
  pub live : item_of id new ≡ item_of id old
  pub used : is_some new ≡ is_some old

abbrev pub AreNear : Slots → Slots → Type 0
AreNear old new = (id : PoolId) → IsNear id (old id) (new id)

pub record AreNamedAlike (old new : Names) : Type 0 where
  pub used : new.used ≡ old.used
  pub digest_of : new.digest_of ≡ old.digest_of
  pub old_hosts : new.old_hosts ≡ old.old_hosts

-- an office of which this is open
abbrev pub with_open : Office → Volatile → Office
with_open office now = record office { volatile = now }

module _ {D N S : Type 0} {d : DiskGhosts D} {n : NamerGhosts N S} where
  pub record Stays (old new : StoreParts D N S d n) : Type 0 where
    pub quiet : Quiet old.journal new.journal
    pub catalog_same : new.catalog ≡ old.catalog
    pub counts_same : new.counts ≡ old.counts
    pub partials_same : new.partials ≡ old.partials
    pub views_same : new.views ≡ old.views
    pub halted_same : new.halted ≡ old.halted
    pub form_same : new.pool.in_one_file ≡ old.pool.in_one_file
    pub names : AreNear (slots old) (slots new)

  -- the sessions are those of the office after it, by the names that were given, and each name has the claims that they have
  pub record Opens (old : StoreParts D N S d n) (event : Event) (answer : Answer) (office : Office) (names : Names)
      (at : IsRunning old office names) (new : StoreParts D N S d n) : Type 0 where
    pub now : Volatile
    pub names' : Names
    pub judged : IsMade (meaning_of event).pools names office ((meaning_of event).carried office names) answer (with_open office now)
    pub renamed : AreNamesAfter office names (meaning_of event) (Ok answer) names'
    pub alike : AreNamedAlike names names'
    pub sessions : AreSessions n.holds (given (slots old)) (contents_of at.all) (staging_of at.all names') now new.sessions
    pub claimed : (id : PoolId) → claims_of (slots new id) ≡ claims_in new.sessions id
