-- The record of a disk in memory: what it began with, and its changes and syncs, the oldest first.
--     Call         what is kept of a call, with its bytes
--     call_of      the call of an entry, whose bytes lie among all that the disk was given
--     files_after  the files after calls; uncertain_after the files that are uncertain then
--     WasLeft      what a crash at one of the moments from one on might have left
--     IsWhole      a record with room for the changes that it still takes
use Rattle.std.specs.Prelude.{◌≡◌, ℕ, ◌+◌, ◌≤◌, ⊤, List, [], ◌∷◌, ◌++◌, length, take, drop, map, Option, Some, None, vec_len, vec_capacity}
use Rattle.disk_trait.specs.declared.ids.FileId.{FileId}
use Rattle.disk_trait.specs.declared.log.Span.{Span}
use Rattle.disk_trait.specs.declared.log.Entry.{Entry}
use Rattle.disk_trait.specs.declared.log.Entry.TheVariants as E
use Rattle.disk_trait.specs.declared.log.Log.{Log}
use Rattle.disk_trait.specs.declared.map.FileMap.{FileMap}
use Rattle.disk_trait.specs.Maps.{files_of}
use Rattle.disk_trait.specs.Files.{Files, no_files, with_bytes, with_more}
use Rattle.disk_trait.specs.Images.{FileSet, nothing, also, IsImage, MayLeave, Elapses}

pub data Call : Type 0 where
  -- a write or a removal: the file then held this
  Changed : FileId → Option (List ℕ) → Call
  -- an append of these bytes
  Extended : FileId → List ℕ → Call
  -- a change that failed
  Missed : FileId → Call
  Synced : Call

-- the bytes of a span
abbrev pub spanned : List ℕ → Span → List ℕ
spanned bytes span = take span.count (drop span.from bytes)

-- the call of an entry
abbrev pub call_of : List ℕ → Entry → Call
call_of bytes (E.Written file span) = Changed file (Some (spanned bytes span))
call_of bytes (E.Extended file span) = Extended file (spanned bytes span)
call_of bytes (E.Removed file) = Changed file None
call_of bytes (E.Missed file) = Missed file
call_of bytes E.Synced = Synced

abbrev pub calls_of : List ℕ → List Entry → List Call
calls_of bytes entries = map (call_of bytes) entries

-- the bytes of an entry lie within these
abbrev pub IsKept : ℕ → Entry → Type 0
IsKept count (E.Written file span) = span.from + span.count ≤ count
IsKept count (E.Extended file span) = span.from + span.count ≤ count
IsKept count (E.Removed file) = ⊤
IsKept count (E.Missed file) = ⊤
IsKept count E.Synced = ⊤

abbrev pub AreKept : ℕ → List Entry → Type 0
AreKept count [] = ⊤
AreKept count (entry ∷ later) = IsKept count entry × AreKept count later

-- the files after a call
abbrev pub files_with : Files → Call → Files
files_with files (Changed file bytes) = with_bytes files file bytes
files_with files (Extended file more) = with_more files file more
files_with files (Missed file) = files
files_with files Synced = files

abbrev pub files_after : Files → List Call → Files
files_after files [] = files
files_after files (call ∷ later) = files_after (files_with files call) later

-- the uncertain files after a call: a change names one more, and after a sync there is none
abbrev pub uncertain_with : FileSet → Call → FileSet
uncertain_with set (Changed file bytes) = also set file
uncertain_with set (Extended file more) = also set file
uncertain_with set (Missed file) = also set file
uncertain_with set Synced = nothing

abbrev pub uncertain_after : FileSet → List Call → FileSet
uncertain_after set [] = set
uncertain_after set (call ∷ later) = uncertain_after (uncertain_with set call) later

-- what a crash at one of the moments from one on might have left
pub record WasLeft (start : Files) (calls : List Call) (since : ℕ) (image : Files) : Type 0 where
  pub at : ℕ
  pub from : since ≤ at
  pub within : at ≤ length calls
  pub image_of : IsImage (files_after start (take at calls)) (uncertain_after nothing (take at calls)) image

-- the files that it began with
abbrev pub log_start : Log → Files
log_start log = files_after no_files (calls_of log.bytes.items log.start.items)

abbrev pub log_calls : Log → List Call
log_calls log = calls_of log.bytes.items log.past.items

abbrev pub log_files : Log → Files
log_files log = files_after (log_start log) (log_calls log)

abbrev pub log_uncertain : Log → FileSet
log_uncertain log = uncertain_after nothing (log_calls log)

abbrev pub log_moment : Log → ℕ
log_moment log = length (log_calls log)

abbrev pub log_left : Log → ℕ → Files → Type 0
log_left log since image = WasLeft (log_start log) (log_calls log) since image

-- time goes on by one call at most
abbrev pub LogElapses : Log → Log → Type 0
LogElapses old new = Elapses log_moment log_left old new (MayLeave (Some (log_files new)) (log_uncertain new))

-- All entries have their bytes, the changes that it still takes have their room, and the index has its files.
pub record IsWhole (log : Log) : Type 0 where
  pub start_kept : AreKept (length log.bytes.items) log.start.items
  pub past_kept : AreKept (length log.bytes.items) log.past.items
  pub changes : vec_len log.past + log.room.changes ≤ vec_capacity log.past
  pub bytes : vec_len log.bytes + log.room.bytes ≤ vec_capacity log.bytes
  pub index : (files : FileMap) → log.index ≡ Some files → files_of files ≡ log_files log

-- One call was kept, and took so many changes and bytes of the room.
pub record Kept (call : Call) (changes bytes : ℕ) (old new : Log) : Type 0 where
  pub start_same : log_start new ≡ log_start old
  pub calls_more : log_calls new ≡ log_calls old ++ call ∷ []
  pub changes_taken : new.room.changes + changes ≡ old.room.changes
  pub bytes_taken : new.room.bytes + bytes ≡ old.room.bytes
  pub whole : IsWhole new

-- Bytes were taken, and the span has them.
pub record Laid (more : List ℕ) (span : Span) (old new : Log) : Type 0 where
  pub start_same : log_start new ≡ log_start old
  pub calls_same : log_calls new ≡ log_calls old
  pub within : span.from + span.count ≤ length new.bytes.items
  pub held : spanned new.bytes.items span ≡ more
  pub changes_same : new.room.changes ≡ old.room.changes
  pub bytes_taken : new.room.bytes + length more ≡ old.room.bytes
  pub whole : IsWhole new

-- the new files are those of the index after the call
pub record Follows (call : Call) (index : Option FileMap) (new : FileMap) : Type 0 where
  pub old : FileMap
  pub was : index ≡ Some old
  pub are : files_of new ≡ files_with (files_of old) call
