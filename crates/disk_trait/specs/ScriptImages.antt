-- The images of a disk in memory, one after the other: those of moment 0 with each choice, then those of moment 1, and so on.
use Rattle.std.specs.Prelude.{◌≡◌, ◌⊎◌, ℕ, ◌+◌, ◌<◌, ◌≤◌, List, length, get_or}
use Rattle.disk_trait.specs.declared.ids.FileId.{FileId}
use Rattle.disk_trait.specs.declared.image.Choice.{Choice}
use Rattle.disk_trait.specs.declared.memory.MemoryDisk.{MemoryDisk}
use Rattle.disk_trait.specs.declared.script_images.ScriptImage.{ScriptImage}
use Rattle.disk_trait.specs.declared.script_images.ScriptImages.{ScriptImages}
use Rattle.disk_trait.specs.Log.{log_files}
use Rattle.disk_trait.specs.Memory.{moment_of, image_at}

-- the images of this disk with these choices, the first of them next
pub record IsFirst (disk : MemoryDisk) (choices : List Choice) (images : ScriptImages) : Type 0 where
  pub disk_is : images.disk.now ≡ disk
  pub choices_are : images.choices.now ≡ choices
  pub moment_is : images.moment ≡ 0
  pub place_is : images.place ≡ 0

-- none is left
abbrev pub IsPastLast : ScriptImages → Type 0
IsPastLast images = (moment_of images.disk.now < images.moment) ⊎ (length images.choices.now ≤ images.place)

-- the next image
pub record IsNext (images : ScriptImages) (image : ScriptImage) : Type 0 where
  pub moment_is : image.moment ≡ images.moment
  pub choice_is : image.choice ≡ get_or images.choices.now images.place image.choice
  pub files_are : (asked : FileId) → log_files image.disk.log asked ≡ image_at images.disk.now images.moment image.choice asked

-- one image was given: the next one is of the next choice, and behind the last choice of the next moment
pub record HasStepped (old new : ScriptImages) : Type 0 where
  pub disk_stays : new.disk ≡ old.disk
  pub choices_stay : new.choices ≡ old.choices
  pub choice : old.place + 1 < length old.choices.now → (new.moment ≡ old.moment) × (new.place ≡ old.place + 1)
  pub moment : length old.choices.now ≤ old.place + 1 → (new.moment ≡ old.moment + 1) × (new.place ≡ 0)
