-- The disk in memory: its room, and which of its calls fail.
use Rattle.std.specs.Prelude.{◌≡◌, ◌⊎◌, ℕ, ◌+◌, ◌-◌, ◌^◌, ◌<◌, ◌≤◌, List, take, Option, Some, Contains, min, true, is_some, refl}
use Rattle.disk_trait.specs.declared.memory.DiskRoom.{DiskRoom}
use Rattle.disk_trait.specs.declared.memory.MemoryDisk.{MemoryDisk}
use Rattle.disk_trait.specs.Files.{Files}
use Rattle.disk_trait.specs.Images.{FileSet, MayLeave}
use Rattle.disk_trait.specs.declared.image.Choice.{Choice}
use Rattle.disk_trait.specs.Image.{image_after}
use Rattle.disk_trait.specs.Log.{log_start, log_calls, log_files, log_uncertain, log_moment, log_left}
use Rattle.disk_trait.specs.LogLaws.{log_counts, log_only}

-- the files, which the disk tells
abbrev pub told_files : MemoryDisk → Option Files
told_files disk = Some (log_files disk.log)

abbrev pub uncertain_files : MemoryDisk → FileSet
uncertain_files disk = log_uncertain disk.log

abbrev pub moment_of : MemoryDisk → ℕ
moment_of disk = log_moment disk.log

abbrev pub left_of : MemoryDisk → ℕ → Files → Type 0
left_of disk t image = log_left disk.log t image

-- the image at a moment
abbrev pub image_at : MemoryDisk → ℕ → Choice → Files
image_at disk moment choice = image_after (log_start disk.log) (take moment (log_calls disk.log)) choice

-- how many calls failed
abbrev pub failures : MemoryDisk → ℕ
failures disk = disk.faults

-- the next call is one of those that are to fail
abbrev pub IsListed : MemoryDisk → Type 0
IsListed disk = Contains disk.fails.items disk.calls

-- a change of so many bytes is past the room that is left
abbrev pub IsPastRoom : MemoryDisk → ℕ → Type 0
IsPastRoom disk count = (disk.log.room.changes ≡ 0) ⊎ (disk.log.room.bytes < count)

pub memory_counts : (disk : MemoryDisk) (t : ℕ) (image : Files) → t ≤ moment_of disk → MayLeave (told_files disk) (uncertain_files disk) image → left_of disk t image
memory_counts disk t image le may = log_counts disk.log t image le may

pub memory_only : (disk : MemoryDisk) (image : Files) → left_of disk (moment_of disk) image → MayLeave (told_files disk) (uncertain_files disk) image
memory_only disk image left = log_only disk.log image left

pub memory_tells : (disk other : MemoryDisk) → is_some (told_files disk) ≡ true → is_some (told_files other) ≡ true
memory_tells disk other told = refl

-- a disk that was made with these calls to fail and this room, before its first call
pub record IsFresh (fails : List ℕ) (room : DiskRoom) (disk : MemoryDisk) : Type 0 where
  pub fails_are : disk.fails.items ≡ fails
  pub calls_are : disk.calls ≡ 0
  pub room_is : disk.log.room ≡ room
  pub whole_is : disk.whole ≡ room

-- one call led from one to the other, and took so many changes and bytes of the room
pub record Took (changes bytes : ℕ) (old new : MemoryDisk) : Type 0 where
  pub fails_stay : new.fails ≡ old.fails
  pub called : new.calls ≡ min (old.calls + 1) (2 ^ 64 - 1)
  pub changes_taken : new.log.room.changes + changes ≡ old.log.room.changes
  pub bytes_taken : new.log.room.bytes + bytes ≡ old.log.room.bytes
