-- The image of a disk in memory at a moment, by what its uncertain files hold.
use Rattle.std.specs.Prelude.{◌≡◌, ℕ, List, [], ◌∷◌, ◌++◌, length, Option, Some, None, if◌then◌else◌}
use Rattle.disk_trait.specs.declared.ids.FileId.{FileId}
use Rattle.disk_trait.specs.declared.log.Span.{Span}
use Rattle.disk_trait.specs.declared.log.Entry.{Entry}
use Rattle.disk_trait.specs.declared.log.Entry.TheVariants as E
use Rattle.disk_trait.specs.declared.image.Choice.{Choice}
use Rattle.disk_trait.specs.declared.image.Choice.TheVariants.{Written, Absent, One}
use Rattle.disk_trait.specs.Files.{Files}
use Rattle.disk_trait.specs.Images.{nothing}
use Rattle.disk_trait.specs.Log.{Call, files_after, uncertain_after}

-- what an uncertain file holds
abbrev pub chosen : Choice → Option (List ℕ) → Option (List ℕ)
chosen Written bytes = bytes
chosen Absent bytes = None
chosen (One byte) bytes = Some (byte ∷ [])

-- the image after these calls
abbrev pub image_after : Files → List Call → Choice → Files
image_after start calls choice asked =
    if uncertain_after nothing calls asked then chosen choice (files_after start calls asked) else files_after start calls asked

-- no bytes, or this one
abbrev pub of_byte : Option ℕ → Option (List ℕ)
of_byte None = None
of_byte (Some byte) = Some (byte ∷ [])

-- the files after these calls, those that are uncertain with these bytes
abbrev pub with_uncertain : Option (List ℕ) → Files → List Call → Files
with_uncertain bytes start calls asked = if uncertain_after nothing calls asked then bytes else files_after start calls asked

-- the entry that makes a span's bytes the file, or takes the file away
abbrev pub override_of : FileId → Option Span → Entry
override_of file (Some span) = E.Written file span
override_of file None = E.Removed file

-- overrides of the files that are uncertain after one entry more
abbrev pub over_with : Option Span → List Entry → Entry → List Entry
over_with span over (E.Written file at) = over ++ override_of file span ∷ []
over_with span over (E.Extended file at) = over ++ override_of file span ∷ []
over_with span over (E.Removed file) = over ++ override_of file span ∷ []
over_with span over (E.Missed file) = over ++ override_of file span ∷ []
over_with span over E.Synced = []

abbrev pub over_after : Option Span → List Entry → List Entry → List Entry
over_after span over [] = over
over_after span over (entry ∷ later) = over_after span (over_with span over entry) later

-- The span holds the byte, if there is one, which was put behind the others.
abbrev pub IsLaid : Option ℕ → List ℕ → Option Span → List ℕ → Type 0
IsLaid None old span new = (span ≡ None) × (new ≡ old)
IsLaid (Some byte) old span new = (span ≡ Some (record { from = length old; count = 1 })) × (new ≡ old ++ byte ∷ [])
