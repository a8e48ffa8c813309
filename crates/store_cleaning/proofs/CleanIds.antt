-- The ids of an office after a cleaning of a bucket.
--     ids_still      none leaves
--     ids_cleaned      those that are left are of the names that stay listed
use Rattle.std.specs.Prelude.{◌≡◌, Bool, true, ℕ, List, Option, Some, None, is_some}
use Rattle.std.proofs.Common.{refl, sym, ap, ◌∙◌, subst}
use Rattle.std.proofs.lemmas.Bool.{false≢true}
use Rattle.disk_trait.specs.declared.ids.PoolId.{PoolId}
use Rattle.disk_trait.specs.Files.{Files}
use Rattle.pool_index.specs.Index.{Index}
use Rattle.ref_counts.specs.Stored.{StoredHost}
use Rattle.office_model.specs.Office.{Office, Durable, Names}
use Rattle.office_model.specs.Pool.{mark_of, is_pooled}
use Rattle.office_model.specs.UsedNames.{Among, AreIdsAfter, AreSound}
use Rattle.office_files.specs.Pooled.{contents_of, IsListed}
use Rattle.office_files.specs.Stands.{Stands}
use Rattle.office_changes.specs.CleanLaws.{IsCleanedIndex, cleaned_listed}
use Rattle.office_changes.specs.IdLaws.{ids_moved}

-- where nothing changes, all stay
pub ids_still : (office : Office) (names : Names) → AreSound office names → AreIdsAfter names office.durable office.durable
ids_still office names sound = record {
  stay = λ id content at pooled. at;
  given = λ id content at fresh. absurd (false≢true (sym fresh ∙ sound.ids.pooled id content at));
  same = λ alike. refl;
  are = sound.ids;
}

-- where the index is cleaned, those of listed names stay, if each of these is in use
pub ids_cleaned : (names : Names) (inside protected : List ℕ → Bool) (index next : Index) (shown : List StoredHost) (files image : Files)
    (old new : Durable) → Stands names.digest_of index shown files old → Stands names.digest_of next shown image new
    → IsCleanedIndex inside protected (contents_of files) index next → ((id : PoolId) → contents_of files id ≡ contents_of image id)
    → ((id : PoolId) → IsListed index id → Among names.used id) → AreIdsAfter names old new
ids_cleaned names inside protected index next shown files image old new was is clean same used =
    ids_moved names index next shown shown files image old new was is (λ id listed there. same id) stays (λ id listed. used id (fewer id listed))
  where
    fewer : (id : PoolId) → IsListed next id → IsListed index id
    fewer id listed = cleaned_listed inside protected (contents_of files) index next clean id listed

    stays : (id : PoolId) → IsListed index id → is_pooled new.pool (contents_of files id) ≡ true → IsListed next id
    stays id listed pooled = step (mark_of new.pool (contents_of files id)) refl pooled
      where
        step : (mark : Option Bool) → mark_of new.pool (contents_of files id) ≡ mark → is_some mark ≡ true → IsListed next id
        step None e f = absurd (false≢true f)
        step (Some mark) e f =
            let w = is.pool.listed (contents_of files id) mark e in
            let there : IsListed next w.0 = ap is_some w.2 in
            subst (IsListed next) (was.one.one w.0 id (fewer w.0 there) listed (same w.0 ∙ w.3)) there
