-- Short bodies are JSON.
use Rattle.std.specs.Prelude.{◌≡◌, ◌<◌, ◌^◌, true, List, Some, All}
use Rattle.attr_records.specs.Names.{is_host_name}
use Rattle.disk_trait.specs.declared.ids.FileId.{FileId}
use Rattle.disk_trait.specs.declared.ids.FileId.TheVariants as F
use Rattle.receipts.specs.declared.session.SessionName.{SessionName}
use Rattle.office_model.specs.declared.event.Event.{Event}
use Rattle.office_model.specs.declared.event.Event.TheVariants as E
use Rattle.office_model.specs.declared.answer.Answer.{Answer}
use Rattle.office_model.specs.declared.answer.Answer.TheVariants as A
use Rattle.office_model.specs.declared.refusal.Refusal.{Refusal}
use Rattle.office_model.specs.declared.refusal.Refusal.TheVariants.{Damaged}
use Rattle.reply_bodies.specs.Objects.{Field, json_text, object_of, object_text}
use Rattle.reply_bodies.specs.Replies.{short_fields, refusal_fields}

-- both numbers have 64 bits
abbrev pub IsSession : SessionName → Type 0
IsSession name = (name.epoch < 2 ^ 64) × (name.sequence < 2 ^ 64)

-- the host of an added host is a name
abbrev pub NamesHost : Event → Type 0
NamesHost (E.AddHost host rules) = is_host_name host ≡ true
NamesHost _ = Unit {0}

-- the session that an answer names is one
abbrev pub NamesSession : Answer → Type 0
NamesSession (A.Dump name) = IsSession name
NamesSession (A.Restore name) = IsSession name
NamesSession _ = Unit {0}

-- a short answer is the text of its members as JSON
abbrev pub ShortRepliesAreJson : Type 0
ShortRepliesAreJson = (event : Event) (answer : Answer) (fields : List Field) → NamesHost event → NamesSession answer
    → short_fields event answer ≡ Some fields → object_text fields ≡ json_text (object_of fields)

-- each number of a file has its bits
abbrev pub IsFile : FileId → Type 0
IsFile F.Head = Unit {0}
IsFile F.Intent = Unit {0}
IsFile F.Gate = Unit {0}
IsFile (F.Host host) = host < 2 ^ 32
IsFile (F.Table host number) = (host < 2 ^ 32) × (number < 2 ^ 32)
IsFile (F.Counts host) = host < 2 ^ 32
IsFile F.PoolIndex = Unit {0}
IsFile (F.PoolBucket byte) = byte < 256
IsFile (F.Partial host) = host < 2 ^ 32
IsFile (F.Pool id) = (id.extension < 2 ^ 16) × All (λ b. b < 256) id.digest
IsFile (F.Stage number) = number < 2 ^ 64

-- the file that a refusal names is one
abbrev pub NamesFile : Refusal → Type 0
NamesFile (Damaged file found) = IsFile file
NamesFile _ = Unit {0}

-- so is what says why an event was refused
abbrev pub RefusalsAreJson : Type 0
RefusalsAreJson = (refusal : Refusal) → NamesFile refusal
    → object_text (refusal_fields refusal) ≡ json_text (object_of (refusal_fields refusal))
