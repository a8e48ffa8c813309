-- The model finds the restore that memory finds.
use Rattle.std.specs.Prelude.{◌≡◌, ℕ, Option, Some, Ok, slice_get}
use Rattle.std.proofs.Common.{sym, ◌∙◌}
use Rattle.disk_trait.specs.declared.disk.Disk.{Ghosts as DiskGhosts}
use Rattle.pool_name.specs.declared.namer.Namer.{Ghosts as NamerGhosts}
use Rattle.open_sessions.specs.declared.sessions.OpenRestore.{OpenRestore}
use Rattle.open_sessions.specs.Opened.{IsRestore}
use Rattle.open_sessions.specs.SessionLaws.{restore_index-sessions}
use Rattle.receipts.specs.declared.session.SessionName.{SessionName}
use Rattle.office_model.specs.declared.refusal.BrokenRule.TheVariants.{NoSession}
use Rattle.office_model.specs.Office.{Office, Restore, Names, restore_index}
use Rattle.office_model.specs.Parts.{restore_at}
use Rattle.office_model.specs.laws.Judging.{at_found}
use Rattle.office_model.specs.PairsLaws.{other_at}
use Rattle.office_files.specs.Pooled.{contents_of}
use Rattle.store_parts.specs.declared.parts.StoreParts.{StoreParts}
use Rattle.store_parts.specs.Held.{given}
use Rattle.store_parts.specs.States.{slots, IsRunning}
use Rattle.store_restores.specs.Finding.{place_of}

module _ {D N S : Type 0} {d : DiskGhosts D} {n : NamerGhosts N S} (old : StoreParts D N S d n) (session : SessionName) where
  place_is : (place : Option ℕ) → place ≡ place_of old.sessions.restores.items session
      → (office : Office) (names : Names) → IsRunning old office names → restore_index office.restores session ≡ place
  place_is place e office names at =
      restore_index-sessions (given (slots old)) (contents_of at.all) n.holds office.restores old.sessions.restores.items
      at.sessions.restores session ∙ sym e

  -- the restore of the model that an open one is
  pub record IsFound (index : ℕ) (restore : OpenRestore S) (office : Office) (names : Names) (at : IsRunning old office names) : Type 0 where
    pub value : Restore
    pub there : slice_get office.restores index ≡ Some value
    pub is_at : restore_at office.restores session ≡ Ok (record { index = index; value = value })
    pub is : IsRestore n.holds (given (slots old)) (contents_of at.all) value restore

  pub restore_found : (index : ℕ) (restore : OpenRestore S) → Some index ≡ place_of old.sessions.restores.items session
      → slice_get old.sessions.restores.items index ≡ Some restore
      → (office : Office) (names : Names) (at : IsRunning old office names) → IsFound index restore office names at
  restore_found index restore e there office names at =
      let w = other_at old.sessions.restores.items office.restores index restore (sym at.sessions.restores.counted) there in
      record {
        value = w.0;
        there = w.1;
        is_at = at_found NoSession office.restores (restore_index office.restores session) index w.0
            (place_is (Some index) e office names at) w.1;
        is = at.sessions.restores.each index w.0 restore w.1 there;
      }
