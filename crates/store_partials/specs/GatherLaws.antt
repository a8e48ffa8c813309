-- What was read of a host's partial, or why it wasn't.
--     read_gathers, counts_gather      a refusal of reading, and want of counts, are refusals of gathering
--     read_heeds, parked_there      what is said of the partial that is known
--     parked_known      of one that is known, something was read
use Rattle.std.specs.Prelude.{◌≡◌, ℕ, true, List, Option, Some, None, is_some, slice_get}
use Rattle.std.proofs.Common.{refl, sym, ap, ◌∙◌, subst, inl, inr}
use Rattle.std.proofs.lemmas.Bool.{false≢true}
use Rattle.disk_trait.specs.declared.ids.FileId.TheVariants.{Partial as PartialOf}
use Rattle.disk_trait.specs.Files.{Files}
use Rattle.partial_files.specs.declared.partial.PartialFile.{PartialFile}
use Rattle.ref_counts.specs.Numbers.{Items}
use Rattle.host_partials.specs.declared.held.PartialHead.{PartialHead}
use Rattle.host_partials.specs.Held.{HasPartial}
use Rattle.office_model.specs.declared.refusal.Refusal.{Refusal}
use Rattle.office_model.specs.declared.refusal.Refusal.TheVariants as R
use Rattle.store_parts.specs.Parked.{IsParkedAs, IsParkedFault, HoldsNone}
use Rattle.store_partials.specs.Heeding.{AreThere, IsHeededBy, IsKnown}
use Rattle.store_partials.specs.Parked.{IsGatherFault}

pub read_gathers : (told : Option Files) (head : Option PartialHead) (host : ℕ) (counts : List Items) (place : ℕ) (refusal : Refusal)
    → IsParkedFault told head host refusal → IsGatherFault told head host counts place refusal
read_gathers told None host counts place refusal fault all e is = absurd fault
read_gathers told (Some head) host counts place R.DiskFault fault all e is = inl refl
read_gathers told (Some head) host counts place R.Memory fault all e is = inr refl
read_gathers told (Some head) host counts place (R.Damaged file found) fault all e is =
    let w = is.partial in
    absurd (subst (HoldsNone host) (fault.is all e ∙ ap all fault.is_file ∙ w.1.1) fault.none w.0 w.1.0 refl)
read_gathers told (Some head) host counts place (R.Broken rule) fault all e is = absurd fault
read_gathers told (Some head) host counts place R.Halted fault all e is = absurd fault

-- the host's counts aren't in memory
pub counts_gather : (told : Option Files) (head : Option PartialHead) (host : ℕ) (counts : List Items) (place : ℕ) (refusal : Refusal)
    → None ≡ slice_get counts place → IsGatherFault told head host counts place refusal
counts_gather told head host counts place refusal none all e is = absurd (apart (none ∙ is.has))
  where
    apart : None ≡ Some is.items → ⊥
    apart e = cc

pub read_heeds : (told : Option Files) (head : Option PartialHead) (host : ℕ) (refusal : Refusal) → IsParkedFault told head host refusal
    → IsHeededBy told (IsKnown head host) refusal
read_heeds told None host refusal fault = absurd fault
read_heeds told (Some head) host R.DiskFault fault = tt
read_heeds told (Some head) host R.Memory fault = tt
read_heeds told (Some head) host (R.Damaged file found) fault = record { host = host; calls = (refl, refl); none = fault }
read_heeds told (Some head) host (R.Broken rule) fault = absurd fault
read_heeds told (Some head) host R.Halted fault = absurd fault

has_partial : (head : Option PartialHead) (host : ℕ) (parked : Option PartialFile) (found : Option (List ℕ)) → IsParkedAs head host parked found
    → is_some head ≡ true → (partial : PartialFile) × HasPartial host (Some partial) found
has_partial None host parked found is known = absurd (false≢true known)
has_partial (Some head) host None found is known = absurd is
has_partial (Some head) host (Some partial) found is known = (partial, is)

pub parked_there : (told : Option Files) (head : Option PartialHead) (host : ℕ) (parked : Option PartialFile)
    → ((all : Files) → told ≡ Some all → IsParkedAs head host parked (all (PartialOf host))) → AreThere told (IsKnown head host)
parked_there told head host parked is all asked e calls =
    subst (λ (h : ℕ). (partial : PartialFile) × HasPartial h (Some partial) (all (PartialOf h))) (sym calls.0)
    (has_partial head host parked (all (PartialOf host)) (is all e) calls.1)

pub parked_known : (head : Option PartialHead) (parked : Option PartialFile) → is_some head ≡ true → is_some parked ≡ is_some head
    → parked ≡ None → ⊥
parked_known head parked known same none = false≢true (sym (ap is_some none) ∙ same ∙ known)
