-- What is written of an answer is read back.
use Rattle.std.specs.Prelude.{◌≡◌, ℕ, ◌<◌, ◌^◌, List, Option, Some, option_and_then}
use Rattle.std.specs.List.{AllByRecursion}
use Rattle.backup_rules.specs.declared.lines.Line.{Line}
use Rattle.receipts.specs.declared.session.SessionName.{SessionName}
use Rattle.office_model.specs.declared.event.Event.{Event}
use Rattle.office_model.specs.declared.answer.Answer.TheVariants as A
use Rattle.reply_bodies.specs.Laws.{IsSession}
use Rattle.reply_bodies.specs.Objects.{object_text}
use Rattle.reply_bodies.specs.Replies.{long_body, short_fields}
use Rattle.listing_back.specs.Listings.{listing_of, opened_of}

-- its numbers have their bits
pub record IsRanged (line : Line) : Type 0 where
  pub number : line.number < 2 ^ 32
  pub start : line.start < 2 ^ 64
  pub end : line.end < 2 ^ 64

-- the session, if there is one, has numbers of 64 bits
abbrev pub MaybeSession : Option SessionName → Type 0
MaybeSession dump = (name : SessionName) → dump ≡ Some name → IsSession name

-- the body of a listing is read as its lines, its next number and its open dump
abbrev pub ListingsReadBack : Type 0
ListingsReadBack =
    (lines : List Line) (next : ℕ) (dump : Option SessionName) → AllByRecursion IsRanged lines → next < 2 ^ 64 → MaybeSession dump
    → option_and_then listing_of (long_body (A.Backups lines next dump)) ≡ Some (record { lines = lines; next = next; dump = dump })

-- the body that tells that a restore was opened is read as its name
abbrev pub OpenedReadBack : Type 0
OpenedReadBack =
    (event : Event) (name : SessionName) → IsSession name
    → option_and_then (λ fields. opened_of (object_text fields)) (short_fields event (A.Restore name)) ≡ Some name
