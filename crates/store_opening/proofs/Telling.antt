-- What is foreign to a pool, in the files as a store sees them.
use Rattle.std.specs.Prelude.{is_some, option_map, ◌⊎◌}
use Rattle.std.proofs.Common.{◌≡◌, ℕ, ◌<◌, true, List, Option, None, Some, refl, sym, ap, ◌∙◌, inl, inr}
use Rattle.disk_trait.specs.declared.ids.FileId.{FileId}
use Rattle.disk_trait.specs.declared.ids.FileId.TheVariants as F
use Rattle.disk_trait.specs.Files.{Files}
use Rattle.journal_view.specs.Found.{seen, is_seen}
use Rattle.journal_view.specs.FoundLaws.{seen_there}
use Rattle.pool_index.specs.Index.{Index, index_id, TellsIndex}
use Rattle.pool_store.specs.Opened.{IsBroken, IsBeside, IsAbsent, IsListed, IsForeign}
use Rattle.office_files.specs.KeptLaws.{tells_kept}

index_seen : (byte : Option ℕ) → is_seen (index_id byte) ≡ true
index_seen None = refl
index_seen (Some byte) = refl

why_seen : (told : Option Files) (file : FileId) (found : Option (List ℕ))
    → IsBroken file found ⊎ (IsBeside told file found ⊎ IsAbsent told file found)
    → is_seen file ≡ true
why_seen told file found (inl broken) = ap is_seen broken.file_is ∙ index_seen broken.byte
why_seen told file found (inr (inl beside)) = ap is_seen beside.file_is
why_seen told file found (inr (inr absent)) = ap is_seen absent.file_is

module _ (raw all : Files) (same : seen raw ≡ all) where
  at : (file : FileId) → is_seen file ≡ true → raw file ≡ all file
  at file e = sym (seen_there raw file e) ∙ ap (λ (f : Files). f file) same

  listed_seen : (id : _) → IsListed raw id → IsListed all id
  listed_seen id listed = record {
    byte = listed.byte;
    items = listed.items;
    are = listed.are;
    file_is = sym (at (index_id listed.byte) (index_seen listed.byte)) ∙ listed.file_is;
    there = listed.there;
  }

  index_raw : (index : Index) → TellsIndex index all → TellsIndex index raw
  index_raw index tells = tells_kept all raw (at F.PoolIndex refl) (λ byte. at (F.PoolBucket byte) refl) index tells

  bucket_seen : (w : (byte : ℕ) × (byte < 256) × (is_some (raw (F.PoolBucket byte)) ≡ true))
      → (byte : ℕ) × (byte < 256) × (is_some (all (F.PoolBucket byte)) ≡ true)
  bucket_seen w = (w.0, w.1, ap is_some (sym (at (F.PoolBucket w.0) refl)) ∙ w.2)

why_told : (raw : Files) (file : FileId) (found : Option (List ℕ))
    → IsBroken file found ⊎ (IsBeside (Some raw) file found ⊎ IsAbsent (Some raw) file found)
    → IsBroken file found ⊎ (IsBeside (Some (seen raw)) file found ⊎ IsAbsent (Some (seen raw)) file found)
why_told raw file found (inl broken) = inl broken
why_told raw file found (inr (inl beside)) = inr (inl (record {
  file_is = beside.file_is;
  there = beside.there;
  beside = λ all is. let same : seen raw ≡ all = cc in bucket_seen raw all same (beside.beside raw refl);
}))
why_told raw file found (inr (inr absent)) = inr (inr (record {
  id = absent.id;
  file_is = absent.file_is;
  none = absent.none;
  listed = λ all is. let same : seen raw ≡ all = cc in listed_seen raw all same absent.id (absent.listed raw refl);
  known = λ all index is tells. let same : seen raw ≡ all = cc in absent.known raw index refl (index_raw raw all same index tells);
}))

why_untold : (file : FileId) (found : Option (List ℕ)) → IsBroken file found ⊎ (IsBeside None file found ⊎ IsAbsent None file found)
    → IsBroken file found ⊎ (IsBeside (option_map seen None) file found ⊎ IsAbsent (option_map seen None) file found)
why_untold file found why = why

pub pool_told : (raw : Option Files) (file : FileId) (found : Option (List ℕ)) → IsForeign raw file found
    → IsForeign (option_map seen raw) file found
pool_told None file found foreign = record { there = λ all is. absurd cc; why = why_untold file found foreign.why }
pool_told (Some raw) file found foreign = record {
  there = λ all is.
      let same : seen raw ≡ all = cc in foreign.there raw refl ∙ at raw all same file (why_seen (Some raw) file found foreign.why);
  why = why_told raw file found foreign.why;
}
