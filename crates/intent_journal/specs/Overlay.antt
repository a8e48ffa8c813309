-- What an image comes to, with the changes of Intent laid over it where Gate is open.
--     ComesTo         the files that an image comes to
--     IsSettled       between commits: Gate is closed, and only contents, stages and Intent are uncertain
--     IsAtRest        after a commit or an opening: Gate is closed, and only Intent is uncertain
--     IsEmptied       Intent holds no bytes, so no changes stand on the disk a second time
--     Recovers        what an opening does to the images
--     SyncsStages     what a commit does to contents and stages
--     Looks           a call that writes nothing
use Rattle.std.specs.Prelude.{◌≡◌, ◌⊎◌, ℕ, true, false, List, [], Option, Some, None}
use Rattle.disk_trait.specs.declared.ids.FileId.{FileId}
use Rattle.disk_trait.specs.declared.ids.FileId.TheVariants.{Intent, Gate}
use Rattle.disk_trait.specs.Names.{is_metadata, is_data}
use Rattle.disk_trait.specs.Files.{Files}
use Rattle.disk_trait.specs.Images.{FileSet, nothing, IsWithin, MayLeave, Leaves, LeavesOnly}
use Rattle.intent_journal.specs.declared.changes.Change.{Change}
use Rattle.intent_journal.specs.Changes.{applied, IsIntent}
use Rattle.intent_journal.specs.Layout.{intent_file, is_open}

-- Intent holds changes, and with them laid over it the image has this metadata
pub record Overlaid (image files : Files) : Type 0 where
  pub changes : List Change
  pub are : IsIntent changes
  pub intent : image Intent ≡ Some (intent_file changes)
  pub each : (asked : FileId) → is_metadata asked ≡ true → applied changes image asked ≡ files asked

-- The image comes to these files: their metadata, with the changes of Intent laid over it where Gate is open, and each
-- content and stage that isn't uncertain.
pub record ComesTo (files : Files) (uncertain : FileSet) (image : Files) : Type 0 where
  pub closed : is_open (image Gate) ≡ false → (asked : FileId) → is_metadata asked ≡ true → image asked ≡ files asked
  pub opened : is_open (image Gate) ≡ true → Overlaid image files
  pub contents : (asked : FileId) → is_data asked ≡ true → uncertain asked ≡ false → image asked ≡ files asked

-- an opening brings this image to some files
pub record IsRecoverable (image : Files) : Type 0 where
  pub files : Files
  pub comes : ComesTo files nothing image

-- the same metadata, contents and stages
pub record IsAlike (files others : Files) : Type 0 where
  pub metadata : (asked : FileId) → is_metadata asked ≡ true → files asked ≡ others asked
  pub contents : (asked : FileId) → is_data asked ≡ true → files asked ≡ others asked

-- Intent alone, which nothing reads while Gate is closed
abbrev pub intent_alone : FileSet
intent_alone Intent = true
intent_alone file = false

-- Gate is closed, and only contents, stages and Intent are uncertain
pub record IsSettled (told : Option Files) (uncertain : FileSet) : Type 0 where
  pub certain : (asked : FileId) → is_data asked ≡ false → intent_alone asked ≡ false → uncertain asked ≡ false
  pub closed : (all : Files) → told ≡ Some all → is_open (all Gate) ≡ false

-- Gate is open over these changes
pub record IsOpenOver (files : Files) (changes : List Change) : Type 0 where
  pub gate : is_open (files Gate) ≡ true
  pub intent : files Intent ≡ Some (intent_file changes)
  pub are : IsIntent changes

-- The disk tells these metadata files, contents and stages, all of them durable, and Gate is closed, durably. Of Intent nothing is said.
pub record IsAtRest (told : Option Files) (uncertain : FileSet) (files : Files) : Type 0 where
  pub now : Files
  pub is : told ≡ Some now
  pub alike : IsAlike now files
  pub certain : IsWithin uncertain intent_alone
  pub closed : is_open (now Gate) ≡ false

-- Intent is there without bytes, where the files are told
abbrev pub IsEmptied : Option Files → Type 0
IsEmptied told = (all : Files) → told ≡ Some all → all Intent ≡ Some []

-- the files before a commit, with what is uncertain of contents and stages, or those after it
abbrev pub IsBeforeOrAfter : Files → FileSet → List Change → Files → Type 0
IsBeforeOrAfter files uncertain changes image = ComesTo files uncertain image ⊎ ComesTo (applied changes files) nothing image

-- A disk was recovered: up to the first sync that succeeded a crash left what it might have left at the start, and from
-- then on nothing but what comes to these files.
pub record Recovers {D : Type 0} (told : D → Option Files) (uncertain : D → FileSet) (moment : D → ℕ)
    (left_since : D → ℕ → Files → Type 0) (old new : D) (files : Files) : Type 0 where
  pub synced : D
  pub up_to : Leaves moment left_since old synced (MayLeave (told old) (uncertain old))
  pub from_then : LeavesOnly moment left_since synced new (ComesTo files nothing)

-- The first sync of a commit was done: up to it a crash left the files before, and from then on those before or those
-- after, with every content and stage as it was staged.
pub record SyncsStages {D : Type 0} (moment : D → ℕ) (left_since : D → ℕ → Files → Type 0) (old new : D) (files : Files)
    (uncertain : FileSet) (changes : List Change) : Type 0 where
  pub synced : D
  pub up_to : LeavesOnly moment left_since old synced (ComesTo files uncertain)
  pub from_then : LeavesOnly moment left_since synced new (IsBeforeOrAfter files nothing changes)

-- A call that looks at a disk: the files stay, and a crash leaves what it might have left at the start.
pub record Looks {D : Type 0} (told : D → Option Files) (uncertain : D → FileSet) (moment : D → ℕ)
    (left_since : D → ℕ → Files → Type 0) (old new : D) : Type 0 where
  pub same : told new ≡ told old
  pub certain : IsWithin (uncertain new) (uncertain old)
  pub any_moment : Leaves moment left_since old new (MayLeave (told old) (uncertain old))

-- the same, and all files are durable
pub record LooksDurably {D : Type 0} (told : D → Option Files) (uncertain : D → FileSet) (moment : D → ℕ)
    (left_since : D → ℕ → Files → Type 0) (old new : D) : Type 0 where
  pub looks : Looks told uncertain moment left_since old new
  pub durable : IsWithin (uncertain new) nothing

-- Intent, which an open Gate makes count, holds no changes
pub record IsForeign (told : Option Files) (found : Option (List ℕ)) : Type 0 where
  pub is : (all : Files) → told ≡ Some all → (found ≡ all Intent) × (is_open (all Gate) ≡ true)
  pub none : (changes : List Change) → IsIntent changes → found ≡ Some (intent_file changes) → ⊥

-- the same, and no others stand in Intent
pub record IsFoundOver (all : Files) (changes : List Change) : Type 0 where
  pub over : IsOpenOver all changes
  pub only : (others : List Change) → IsIntent others → all Intent ≡ Some (intent_file others) → others ≡ changes

-- what an opening finds: a closed Gate, or the changes that an open one makes count
abbrev pub IsFound : Files → Option (List Change) → Type 0
IsFound all None = is_open (all Gate) ≡ false
IsFound all (Some changes) = IsFoundOver all changes
