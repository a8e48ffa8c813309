-- The calls of a disk in memory, by those of its record.
use Rattle.std.proofs.Common.{◌≡◌, ℕ, ◌≤◌, List, length, take, Some, inl, refl, sym, ◌∙◌, subst, arith}
use Rattle.disk_trait.specs.declared.ids.FileId.{FileId}
use Rattle.disk_trait.specs.declared.log.Log.{Log}
use Rattle.disk_trait.specs.declared.memory.MemoryDisk.{MemoryDisk}
use Rattle.disk_trait.specs.declared.image.Choice.{Choice}
use Rattle.disk_trait.specs.Files.{Files}
use Rattle.disk_trait.specs.Images.{MayLeave, Elapses}
use Rattle.disk_trait.specs.Log.{Call, WasLeft, LogElapses}
use Rattle.disk_trait.specs.Image.{image_after}
use Rattle.disk_trait.specs.Memory.{told_files, uncertain_files, moment_of, left_of}

by_log : (old new : MemoryDisk) → LogElapses old.log new.log → Elapses moment_of left_of old new (MayLeave (told_files new) (uncertain_files new))
by_log old new time = record { later = time.later; nothing_else = time.nothing_else; keeps = time.keeps }

-- a call that its record knows nothing of
pub still : (old new : MemoryDisk) → new.log ≡ old.log → Elapses moment_of left_of old new (MayLeave (told_files new) (uncertain_files new))
still old new same = by_log old new (subst (λ (log : Log). LogElapses old.log log) (sym same) (record {
  later = omega arith;
  nothing_else = λ t image le left. inl left;
  keeps = λ t image le left. left;
}))

-- a call of its record
pub elapses : (old new : MemoryDisk) (before : Log) → before ≡ old.log → LogElapses before new.log → Elapses moment_of left_of old new (MayLeave (told_files new) (uncertain_files new))
elapses old new before same time = by_log old new (subst (λ (log : Log). LogElapses log new.log) same time)

-- what is found of the files that are told
pub told_one : (files all : Files) (P : Files → Type 0) → Some files ≡ Some all → P files → P all
told_one files all P e found = let one : files ≡ all = cc (e) in subst P one found

-- an image was left at its moment
pub left_at : (start : Files) (calls : List Call) (moment since : ℕ) (choice : Choice) (image : Files) → since ≤ moment → moment ≤ length calls
    → ((asked : FileId) → image asked ≡ image_after start (take moment calls) choice asked) → WasLeft start calls since image
left_at start calls moment since choice image before within is = record {
  at = moment;
  from = before;
  within = within;
  image_of = record { each = λ asked out. is asked ∙ rw out refl };
}
