-- The partial of a host, in memory and in its file.
--     parked_of      what was read are its rows
--     head_there      what is known of the partial of a host
--     head_within, none_cleared      a host of which a partial is known is there; without one nothing is to be cleared
--     parked_stored, none_parked      the rows that were read are the stored ones; without such there is no file
--     parked_few      they are few
--     parked_there      a partial that is known has its file
use Rattle.std.specs.Prelude.{◌≡◌, ◌<◌, ℕ, zero, suc, true, false, List, [], ◌∷◌, length, Option, Some, None, is_some, slice_get, slice_set}
use Rattle.std.specs.Option.{option_map}
use Rattle.std.proofs.Common.{refl, sym, ap, ◌∙◌, subst, arith}
use Rattle.disk_trait.specs.declared.ids.PoolId.{PoolId}
use Rattle.disk_trait.specs.declared.ids.FileId.TheVariants.{Partial as PartialOf}
use Rattle.disk_trait.specs.Files.{Files}
use Rattle.merge_view.specs.Views.{Rows}
use Rattle.partial_files.specs.declared.partial.PartialFile.{PartialFile}
use Rattle.host_partials.specs.declared.held.PartialHead.{PartialHead}
use Rattle.host_partials.specs.Held.{HasPartial, head_at}
use Rattle.office_model.specs.Office.{Host, Partial}
use Rattle.office_files.specs.Hosts.{StandsPartial}
use Rattle.office_files.specs.OneLaws.{one_partial_file}
use Rattle.store_parts.specs.Held.{head_of, heads_of}
use Rattle.store_parts.specs.Parked.{IsParkedAs}
use Rattle.store_commits.specs.Parked.{AreParked}
use Rattle.store_commits.specs.CountsLaws.{AreFewParked}

-- ---- what was read

abbrev pub rows_in : Option PartialFile → Option Rows
rows_in parked = option_map (λ file. file.rows) parked

pub parked_of : (told : Option Files) (head : Option PartialHead) (host : ℕ) (parked : Option PartialFile) (rows : Option Rows)
    → rows ≡ rows_in parked → is_some parked ≡ is_some head
    → ((all : Files) → told ≡ Some all → IsParkedAs head host parked (all (PartialOf host))) → AreParked told head host rows
parked_of told None host None rows is known says = is
parked_of told None host (Some file) rows is known says = absurd cc
parked_of told (Some head) host None rows is known says = absurd cc
parked_of told (Some head) host (Some file) rows is known says = subst (AreParked told (Some head) host) (sym is) (record {
  file = file;
  rows_are = refl;
  there = says;
})

-- ---- in memory

pub head_there : (hosts : List Host) (i : ℕ) (host : Host) → slice_get hosts i ≡ Some host
    → head_at (heads_of hosts) i ≡ option_map head_of host.partial
head_there [] i host e = absurd cc
head_there (h ∷ hosts) zero host e = let same : h ≡ host = cc in ap (λ (h : Host). option_map head_of h.partial) same
head_there (h ∷ hosts) (suc i) host e = head_there hosts i host e

pub head_within : (heads : List (Option PartialHead)) (i : ℕ) → is_some (head_at heads i) ≡ true → i < length heads
head_within [] i e = absurd cc
head_within (head ∷ heads) zero e = omega arith
head_within (head ∷ heads) (suc i) e = let rest = head_within heads i e in omega (arith, rest)

head_cleared : (heads : List (Option PartialHead)) (i : ℕ) → head_at heads i ≡ None → heads ≡ slice_set heads i None
head_cleared [] i e = refl
head_cleared (head ∷ heads) zero e = ap (λ (h : Option PartialHead). h ∷ heads) e
head_cleared (head ∷ heads) (suc i) e = ap (λ hs. head ∷ hs) (head_cleared heads i e)

pub none_cleared : (heads : List (Option PartialHead)) (i : ℕ) (found : Option PartialHead) → found ≡ head_at heads i → is_some found ≡ false
    → heads ≡ slice_set heads i None
none_cleared heads i None is none = head_cleared heads i (sym is)
none_cleared heads i (Some head) is none = absurd cc

-- ---- in the file

pub parked_few : (told : Option Files) (head : Option PartialHead) (host : ℕ) (all : Files) (rows : Option Rows) → told ≡ Some all
    → AreParked told head host rows → AreFewParked rows
parked_few told head host all None is are = tt
parked_few told None host all (Some rows) is are = absurd cc
parked_few told (Some head) host all (Some rows) is are =
    subst (λ (r : Rows). length r < 4294967296) (sym are.rows_are) (are.there all is).0.table.count

module _ (given : PoolId → Type 0) (contents : PoolId → List ℕ) (number : ℕ) where
  pub parked_stored : (partial : Option Partial) (of : Option Rows) (told : Option Files) (all : Files) (rows : Option Rows) → told ≡ Some all
      → StandsPartial given contents number partial of (all (PartialOf number)) → AreParked told (option_map head_of partial) number rows
      → rows ≡ of
  parked_stored None None told all rows is stands are = are
  parked_stored None (Some known) told all rows is stands are = absurd stands
  parked_stored (Some partial) None told all rows is stands are = absurd stands
  parked_stored (Some partial) (Some known) told all None is stands are = absurd are
  parked_stored (Some partial) (Some known) told all (Some rows) is stands are =
      let has = are.there all is in
      let same = one_partial_file number are.file.kind partial.kind are.file.start partial.start are.file.rows known (all (PartialOf number))
      (record { fits = has.0; is = has.1 }) stands.file in
      ap (λ (r : Rows). Some r) (are.rows_are ∙ ap (λ (f : PartialFile). f.rows) same)

  pub none_parked : (partial : Option Partial) (of : Option Rows) (found : Option (List ℕ)) → StandsPartial given contents number partial of found
      → of ≡ None → found ≡ None
  none_parked None None found stands e = stands
  none_parked None (Some known) found stands e = absurd stands
  none_parked (Some partial) None found stands e = absurd stands
  none_parked (Some partial) (Some known) found stands e = absurd cc

  pub parked_there : (partial : Option Partial) (of : Option Rows) (found : Option (List ℕ)) → StandsPartial given contents number partial of found
      → (head : PartialHead) → option_map head_of partial ≡ Some head → (file : PartialFile) × HasPartial number (Some file) found
  parked_there None None found stands head e = absurd cc
  parked_there None (Some known) found stands head e = absurd stands
  parked_there (Some partial) None found stands head e = absurd stands
  parked_there (Some partial) (Some known) found stands head e =
      (record { kind = partial.kind; start = partial.start; rows = known }, (stands.file.fits, stands.file.is))
