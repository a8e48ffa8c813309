-- Files that no store leaves, though each may be in its layout.
--     is_stray hosts headed file      neither a head nor the index of a host calls for it, or it is of a pool without a head
--     first_stray      the first of a list;  HasNoStray      none of these is there;  IsStray      one is
use Rattle.std.specs.Prelude.{◌≡◌, ◌<◌, ℕ, Bool, true, false, ◌&&◌, ◌||◌, not, if◌then◌else◌, List, [], ◌∷◌, Option, Some, None, is_some, slice_get}
use Rattle.disk_trait.specs.declared.ids.FileId.{FileId}
use Rattle.disk_trait.specs.declared.ids.FileId.TheVariants as F
use Rattle.disk_trait.specs.Files.{Files}
use Rattle.backup_index.specs.Index.{Index}
use Rattle.office_files.specs.declared.owner.Owner.{Owner}
use Rattle.office_files.specs.declared.owner.Owner.TheVariants as O
use Rattle.office_files.specs.Owners.{owner_of}
use Rattle.office_changes.specs.ChangeLaws.{is_of_index}
use Rattle.office_catalog.specs.Known.{Known, line_numbered}
use Rattle.office_catalog.specs.Held.{HoldsCatalog}

-- the host is known, and has a line of this number
abbrev pub has_line : Option Index → ℕ → Bool
has_line None number = false
has_line (Some index) number = is_some (line_numbered index.lines number)

abbrev pub is_known : List Index → Owner → Bool
is_known hosts O.Store = true
is_known hosts (O.Host host) = is_some (slice_get hosts host)
is_known hosts (O.Backup host number) = has_line (slice_get hosts host) number

-- the file isn't called for, or is of the index of a pool without a head
abbrev pub is_stray : List Index → Bool → FileId → Bool
is_stray hosts headed file = not (is_known hosts (owner_of file)) || (is_of_index file && not headed)

-- the first of the files that is a stray
abbrev pub first_stray : List Index → Bool → List FileId → Option FileId
first_stray hosts headed [] = None
first_stray hosts headed (file ∷ files) = if is_stray hosts headed file then Some file else first_stray hosts headed files

-- no file of files that hold a catalog is a stray
abbrev pub HasNoStray : Known → Files → Type 0
HasNoStray known files =
    (file : FileId) → is_some (files file) ≡ true → is_stray known.hosts (is_some (files F.Head)) file ≡ false

-- a byte that names a file is one
abbrev pub IsNamedByByte : FileId → Type 0
IsNamedByByte (F.PoolBucket byte) = byte < 256
IsNamedByByte file = Unit {0}

-- the file is a stray, of which this was found
pub record IsStray (files : Files) (file : FileId) (found : Option (List ℕ)) : Type 0 where
  pub known : Known
  pub holds : HoldsCatalog files known
  pub is : found ≡ files file
  pub there : is_some found ≡ true
  pub named : IsNamedByByte file
  pub stray : is_stray known.hosts (is_some (files F.Head)) file ≡ true
