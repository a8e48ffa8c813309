-- The view that is kept is still the tree of the backup that it says.
--     kept_after      after a host has other backups, of which those that were there show what they did
use Rattle.std.specs.Prelude.{◌≡◌, ◌≢◌, ◌==◌, ℕ, List, Option, Some, None, slice_get, slice_set}
use Rattle.std.proofs.Common.{sym, ap, ◌∙◌, inl, inr}
use Rattle.std.proofs.lemmas.Bool.{false≢true, eq-eqb, eqb-true}
use Rattle.std.proofs.lemmas.Option.{slice_get_within}
use Rattle.intent_journal.specs.ChangesLaws.{either}
use Rattle.backup_views.specs.declared.kept.KeptView.{KeptView}
use Rattle.ref_counts.specs.Stored.{Backup as StoredBackup, StoredHost}
use Rattle.office_model.specs.Office.{Host, Backup}
use Rattle.office_model.specs.PlacesLaws.{slice_get-set_same, slice_get-set_other}
use Rattle.store_parts.specs.Held.{IsViewOf, IsKeptView}
use Rattle.store_commits.specs.HostAfterLaws.{AreStill}

module _ (hosts : List Host) (backups : List StoredHost) (p : ℕ) (host new : Host) (shown after : StoredHost)
    (here : slice_get hosts p ≡ Some host) (there : slice_get backups p ≡ Some shown)
    (still : AreStill host.backups shown.backups new.backups after.backups) where
  -- of this host
  view_after : (kept : KeptView) → kept.host ≡ p → (index : ℕ) (backup : Backup) (stored : StoredBackup) → backup.line.number ≡ kept.number
      → slice_get host.backups index ≡ Some backup → slice_get shown.backups index ≡ Some stored → kept.rows ≡ stored.rows
      → IsViewOf kept (slice_set hosts p new) (slice_set backups p after)
  view_after kept is index backup stored number was is_stored rows =
      let next = still index backup stored was is_stored in
      record {
        host = new;
        of = after;
        index = index;
        backup = next.0.now;
        stored = next.1.now;
        is_host = ap (slice_get (slice_set hosts p new)) is ∙ slice_get-set_same hosts p new (slice_get_within hosts p host here);
        is_shown = ap (slice_get (slice_set backups p after)) is
            ∙ slice_get-set_same backups p after (slice_get_within backups p shown there);
        is_backup = next.0.is;
        is_stored = next.1.is;
        number = next.0.same ∙ number;
        rows = rows ∙ sym next.1.same;
      }

  view_of_it : (kept : KeptView) → kept.host ≡ p → (view : IsViewOf kept hosts backups)
      → IsViewOf kept (slice_set hosts p new) (slice_set backups p after)
  view_of_it kept is view =
      view_after kept is view.index view.backup view.stored view.number
      (ap (λ (h : Host). slice_get h.backups view.index) (sym host_is) ∙ view.is_backup)
      (ap (λ (s : StoredHost). slice_get s.backups view.index) (sym shown_is) ∙ view.is_stored) view.rows
    where
      host_is : view.host ≡ host
      host_is = let w : Some view.host ≡ Some host = sym view.is_host ∙ ap (slice_get hosts) is ∙ here in cc

      shown_is : view.of ≡ shown
      shown_is = let w : Some view.of ≡ Some shown = sym view.is_shown ∙ ap (slice_get backups) is ∙ there in cc

  -- of another
  view_of_other : (kept : KeptView) → kept.host ≢ p → IsViewOf kept hosts backups
      → IsViewOf kept (slice_set hosts p new) (slice_set backups p after)
  view_of_other kept apart view = record {
    host = view.host;
    of = view.of;
    index = view.index;
    backup = view.backup;
    stored = view.stored;
    is_host = slice_get-set_other hosts p kept.host new apart ∙ view.is_host;
    is_shown = slice_get-set_other backups p kept.host after apart ∙ view.is_shown;
    is_backup = view.is_backup;
    is_stored = view.is_stored;
    number = view.number;
    rows = view.rows;
  }

  pub kept_after : (kept : Option KeptView) → IsKeptView kept hosts backups → IsKeptView kept (slice_set hosts p new) (slice_set backups p after)
  kept_after None view = tt
  kept_after (Some kept) view = elim (either (kept.host == p)) [
    | inl same ↦ view_of_it kept (eqb-true kept.host p same) view
    | inr other ↦ view_of_other kept (λ e. false≢true (sym other ∙ eq-eqb kept.host p e)) view
  ]
