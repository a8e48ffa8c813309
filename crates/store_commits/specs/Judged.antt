-- The lines of a commit.
--     line_now      the line of the backup that an open dump becomes at a time, with its host's next number
--     IsLineNow hosts session now line      this is that line, and the host has a number left
--     IsFree next number      a backup of this number may be the next
--     IsThere hosts session number      one of this number may be the next of the dump's host
--     receipt_by      the receipt, if the dump was opened with a token
--     IsJudged hosts session line lines      the lines of a commit of an open dump as the backup of this line
use Rattle.std.specs.Prelude.{◌≡◌, ◌<◌, ◌≤◌, ℕ, true, false, List, Option, None, Some, slice_get}
use Rattle.receipts.specs.declared.receipt.Receipt.{Receipt}
use Rattle.receipts.specs.declared.session.SessionName.{SessionName}
use Rattle.receipts.specs.declared.session.Token.{Token}
use Rattle.backup_rules.specs.declared.lines.Line.{Line}
use Rattle.backup_index.specs.Index.{Index}
use Rattle.backup_index.specs.Lines.{IsSound}
use Rattle.open_sessions.specs.declared.sessions.OpenDump.{OpenDump}
use Rattle.store_commits.specs.declared.judge.Lines.{Lines}
use Rattle.store_commits.specs.Former.{dropped_of}

abbrev pub line_now : Index → OpenDump → ℕ → Line
line_now index session now =
    record { number = index.next; start = session.start; end = now; kind = session.kind; filled = true; keep = false }

pub record IsLineNow (hosts : List Index) (session : OpenDump) (now : ℕ) (line : Line) : Type 0 where
  pub index : Index
  pub here : slice_get hosts session.host ≡ Some index
  pub number : index.next < 4294967296
  pub is : line ≡ line_now index session now

-- not below the host's next number
abbrev pub IsFree : ℕ → ℕ → Type 0
IsFree next number = next ≤ number

pub record IsThere (hosts : List Index) (session : OpenDump) (number : ℕ) : Type 0 where
  pub index : Index
  pub here : slice_get hosts session.host ≡ Some index
  pub free : IsFree index.next number

abbrev pub receipt_by : Option Token → SessionName → ℕ → Option Receipt
receipt_by None name number = None
receipt_by (Some token) name number = Some (record { token = token; name = name; number = number })

pub record IsJudged (hosts : List Index) (session : OpenDump) (line : Line) (lines : Lines) : Type 0 where
  pub index : Index
  pub here : slice_get hosts session.host ≡ Some index
  pub sound : IsSound index.next index.lines
  pub free : index.next ≤ line.number
  pub filled : line.filled ≡ true
  pub file : lines.file ≡ session.host
  pub is : lines.line ≡ line
  pub dropped : lines.dropped ≡ dropped_of index.rules index.lines
  pub receipt : lines.receipt ≡ receipt_by session.token session.name line.number
