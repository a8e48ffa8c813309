-- The files that an opening finds in an image.
--     seen      files as a store sees them: all but Intent and Gate
--     IsFoundIn      what an opening finds in an image: one thing at most
--     Finds      an opening finds something in the image, and it has a property
--     FindsAll      so in each image of now
--     IsAlikeBut      files are as others, but for contents and stages of a set
use Rattle.std.specs.Prelude.{◌≡◌, ⊤, ℕ, Bool, true, false, ◌||◌, List, Option, Some, None, option_map, is_some, if◌then◌else◌}
use Rattle.disk_trait.specs.declared.ids.FileId.{FileId}
use Rattle.disk_trait.specs.Names.{is_metadata, is_data}
use Rattle.disk_trait.specs.Files.{Files, lists, IsListedOnce}
use Rattle.disk_trait.specs.Images.{FileSet, nothing, IsWithin, MayLeave, Leaves}
use Rattle.intent_journal.specs.Overlay.{ComesTo, intent_alone}

-- a file that a store knows of
abbrev pub is_seen : FileId → Bool
is_seen file = is_metadata file || is_data file

-- the files as a store sees them
abbrev pub seen : Files → Files
seen files asked = if is_seen asked then files asked else None

-- a list of the files that are there, each once, as a store sees them
pub record ListsSeen (list : List FileId) (files : Files) : Type 0 where
  pub once : IsListedOnce list
  pub each : (file : FileId) → is_seen file ≡ true → lists list file ≡ is_some (files file)

-- what an opening finds in the image
pub record IsFoundIn (image found : Files) : Type 0 where
  pub files : Files
  pub comes : ComesTo files nothing image
  pub is : found ≡ seen files

-- an opening finds something in the image, and it has P
pub record Finds (P : Files → Type 0) (image : Files) : Type 0 where
  pub found : Files
  pub in_image : IsFoundIn image found
  pub has : P found

-- what an opening may find after a crash now
pub record CanFind (told : Option Files) (uncertain : FileSet) (found : Files) : Type 0 where
  pub image : Files
  pub left : MayLeave told uncertain image
  pub in_image : IsFoundIn image found

-- whatever a crash leaves now, an opening finds something, and it has P
abbrev pub FindsAll : Option Files → FileSet → (Files → Type 0) → Type 0
FindsAll told uncertain P = (image : Files) → MayLeave told uncertain image → Finds P image

-- whatever a crash leaves now, it can be opened
abbrev pub IsOpenable : Option Files → FileSet → Type 0
IsOpenable told uncertain = FindsAll told uncertain (λ found. ⊤)

-- found files are as these: their metadata, and each content and stage that isn't uncertain
pub record IsAlikeBut (files : Files) (uncertain : FileSet) (found : Files) : Type 0 where
  pub metadata : (asked : FileId) → is_metadata asked ≡ true → found asked ≡ files asked
  pub contents : (asked : FileId) → is_data asked ≡ true → uncertain asked ≡ false → found asked ≡ files asked

-- A disk was opened, on files that have P, and every file that a store sees is durable; a crash meanwhile, or now, left such
-- as an opening finds.
pub record Reopened {D : Type 0} (told : D → Option Files) (uncertain : D → FileSet) (moment : D → ℕ)
    (left_since : D → ℕ → Files → Type 0) (P : Files → Type 0) (old new : D) : Type 0 where
  pub found : Files
  pub has : P found
  pub told_is : option_map seen (told new) ≡ Some found
  pub certain : IsWithin (uncertain new) intent_alone
  pub crash : Leaves moment left_since old new (Finds P)
  pub now : FindsAll (told new) (uncertain new) P
