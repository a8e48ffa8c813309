-- The catalog's indices are those of its office's hosts.
--     host_of, index_named      the host of an index, and the index of a host
--     index_read      the index that was read at a place
use Rattle.std.specs.Prelude.{◌≡◌, ◌<◌, length, ℕ, List, Some, slice_get}
use Rattle.std.proofs.Common.{refl, sym, ap, ◌∙◌, get_or}
use Rattle.std.proofs.lemmas.Option.{slice_get_read}
use Rattle.backup_index.specs.Index.{Index}
use Rattle.office_catalog.specs.Known.{Known}
use Rattle.office_model.specs.Office.{Durable, Host}
use Rattle.office_files.specs.Hosts.{index_of_host}
use Rattle.store_parts.specs.KnownOffice.{index_found, known_of_office, index_at}

-- the index that was read
pub index_read : (hosts found : List Index) (place : ℕ) (index : Index) → found ≡ hosts → place < length hosts
    → index ≡ get_or found place index
    → slice_get hosts place ≡ Some index
index_read hosts found place index same within is =
    slice_get_read hosts (length hosts) place index refl within (is ∙ ap (λ (l : List Index). get_or l place index) same)

module _ (office : Durable) (known : Known) (is : known ≡ known_of_office office) where
  -- the host of an index
  pub host_of : (place : ℕ) (index : Index) → slice_get known.hosts place ≡ Some index
      → (host : Host) × (slice_get office.hosts place ≡ Some host)
  host_of place index e =
      let w = index_at 0 office.hosts place index (sym (ap (λ (k : Known). slice_get k.hosts place) is) ∙ e) in (w.0, w.1)

  -- what the index at the host's place says
  pub index_named : (place : ℕ) (host : Host) (index : Index) → slice_get office.hosts place ≡ Some host
      → slice_get known.hosts place ≡ Some index → index ≡ index_of_host place host
  index_named place host index here e =
      index_found office.hosts place host index here (sym (ap (λ (k : Known). slice_get k.hosts place) is) ∙ e)
