-- What memory holds of an office of which a host has another partial, or none.
--     catalog_same      the catalog is the same
--     view_same      and the view that is kept
use Rattle.std.specs.Prelude.{◌≡◌, ℕ, zero, suc, List, [], ◌∷◌, Option, Some, slice_get, slice_set}
use Rattle.std.proofs.Common.{refl, ap}
use Rattle.backup_index.specs.Index.{Index}
use Rattle.backup_views.specs.declared.kept.KeptView.{KeptView}
use Rattle.merge_view.specs.Views.{Rows}
use Rattle.ref_counts.specs.Stored.{StoredHost}
use Rattle.office_model.specs.Office.{Host, Partial}
use Rattle.office_model.specs.events.Park.{with_partial}
use Rattle.office_files.specs.Hosts.{index_of_host}
use Rattle.store_parts.specs.KnownOffice.{indices_from}
use Rattle.store_parts.specs.Held.{IsKeptView}
use Rattle.store_commits.specs.KeptLaws.{kept_after}

same_from : (n : ℕ) (hosts : List Host) (i : ℕ) (host : Host) (partial : Option Partial) → slice_get hosts i ≡ Some host
    → indices_from n (slice_set hosts i (with_partial host partial)) ≡ indices_from n hosts
same_from n [] i host partial e = absurd cc
same_from n (h ∷ hosts) zero host partial e =
    let same : host ≡ h = cc in ap (λ (h : Host). index_of_host n h ∷ indices_from (suc n) hosts) same
same_from n (h ∷ hosts) (suc i) host partial e =
    ap (λ (l : List Index). index_of_host n h ∷ l) (same_from (suc n) hosts i host partial e)

pub catalog_same : (hosts : List Host) (i : ℕ) (host : Host) (partial : Option Partial) → slice_get hosts i ≡ Some host
    → indices_from 0 (slice_set hosts i (with_partial host partial)) ≡ indices_from 0 hosts
catalog_same hosts i host partial e = same_from 0 hosts i host partial e

pub view_same : (hosts : List Host) (shown : List StoredHost) (i : ℕ) (host : Host) (of : StoredHost) (partial : Option Partial)
    (rows : Option Rows) → slice_get hosts i ≡ Some host → slice_get shown i ≡ Some of → (kept : Option KeptView) → IsKeptView kept hosts shown
    → IsKeptView kept (slice_set hosts i (with_partial host partial)) (slice_set shown i (record of { partial = rows }))
view_same hosts shown i host of partial rows here there kept view =
    kept_after hosts shown i host (with_partial host partial) of (record of { partial = rows }) here there
    (λ j b s e f. (record { now = b; is = e; same = refl }, record { now = s; is = f; same = refl })) kept view
