-- What the pool's calls did, as a store sees the files.
use Rattle.std.proofs.Common.{◌≡◌, ◌⊎◌, ℕ, false, List, Option, Some, refl, sym, ap, ◌∙◌, subst, inl, inr, if◌then◌else◌}
use Rattle.std.specs.Prelude.{None, option_map}
use Rattle.disk_trait.specs.declared.ids.PoolId.{PoolId}
use Rattle.disk_trait.specs.declared.ids.FileId.{FileId}
use Rattle.disk_trait.specs.declared.ids.FileId.TheVariants.{Pool as PoolFile}
use Rattle.disk_trait.specs.Names.{is_same_file}
use Rattle.disk_trait.specs.Files.{Files, SameButOne}
use Rattle.journal_view.specs.Found.{seen, is_seen}
use Rattle.journal_view.specs.FoundLaws.{told_raw, seen_there}
use Rattle.journal_view.specs.ViewLaws.{seen_changed}
use Rattle.pool_changes.specs.Slots.{Slots}
use Rattle.pool_store.specs.Chains.{AreOthers}
use Rattle.pool_store.specs.Pools.{Matches, Adds}
use Rattle.store_dumps.specs.Putting.{TakesName}

others_seen : (old : Slots) (raw : Option Files) (digest content : List ℕ) (bound : ℕ)
    → ((all : Files) → raw ≡ Some all → AreOthers old digest all content bound)
    → (all : Files) → option_map seen raw ≡ Some all → AreOthers old digest all content bound
others_seen old raw digest content bound others all e =
    let w = told_raw raw all e in
    λ extension within given is.
    others w.0 w.1 extension within given
    (sym (seen_there w.0 _ refl) ∙ ap (λ (f : Files). f (PoolFile (record { digest = digest; extension = extension }))) w.2 ∙ is)

module _ (digest_of : List ℕ → List ℕ) (old new : Slots) (raw raw' : Option Files) where
  pub takes_seen : (id : PoolId) (content : List ℕ) → TakesName digest_of old new raw raw' id content
      → TakesName digest_of old new (option_map seen raw) (option_map seen raw') id content
  takes_seen id content takes = step takes
    where
      step : Matches old new raw raw' id content ⊎ (Adds old new raw raw' id content × (id.digest ≡ digest_of content))
          → Matches old new (option_map seen raw) (option_map seen raw') id content
          ⊎ (Adds old new (option_map seen raw) (option_map seen raw') id content × (id.digest ≡ digest_of content))
      step (inl m) = inl (record {
        given = m.given;
        holds = λ all e.
            let w = told_raw raw all e in
            sym (ap (λ (f : Files). f (PoolFile id)) w.2) ∙ seen_there w.0 (PoolFile id) refl ∙ m.holds w.0 w.1;
        set = m.set;
        same = ap (option_map seen) m.same;
      })
      step (inr (a, digest)) = inr (
        record {
          near = a.near;
          free = a.free;
          others = others_seen old raw id.digest content 65536 a.others;
          set = a.set;
          told_is = ap (option_map seen) a.told_is ∙ seen_changed raw (PoolFile id) (Some content) refl;
        },
        digest,
      )

  pub misses_others : (digest content : List ℕ) → ((all : Files) → raw ≡ Some all → AreOthers old digest all content 65536)
      → (all : Files) → option_map seen raw ≡ Some all → AreOthers old digest all content 65536
  misses_others digest content others = others_seen old raw digest content 65536 others

-- the files as seen, but for one
pub record SeenButOne (file : FileId) (all : Files) (told : Option Files) : Type 0 where
  pub now : Files
  pub is : told ≡ Some now
  pub others : (asked : FileId) → is_same_file asked file ≡ false → now asked ≡ all asked

but_one : (file : FileId) (raw : Files) (raw' : Option Files) → SameButOne file (Some raw) raw'
    → SeenButOne file (seen raw) (option_map seen raw')
but_one file raw raw' same = record {
  now = seen same.0;
  is = ap (option_map seen) same.1;
  others = λ asked other. ap (λ (bytes : Option (List ℕ)). if is_seen asked then bytes else None) (same.2 asked other);
}

pub one_seen : (file : FileId) (raw raw' : Option Files) (all : Files) → option_map seen raw ≡ Some all → SameButOne file raw raw'
    → SeenButOne file all (option_map seen raw')
one_seen file raw raw' all e same =
    let w = told_raw raw all e in
    subst (λ (f : Files). SeenButOne file f (option_map seen raw')) w.2
    (but_one file w.0 raw' (subst (λ (r : Option Files). SameButOne file r raw') w.1 same))
