-- A retry never doubles a backup: what tokens promise of requests that are tried again.
--     ReceiptsDiffer      in every legal history no two receipts of a host have one token
--     Repeats      an event is Ok, and leaves the office as it was
--     OpeningByReceipt, OpeningByDump, CommitByReceipt      so do openings and commits that repeat one, and say which backup or dump it is
--     PutByToken, RemoveByToken      a put or a removal with a token that its dump keeps is Done, and leaves all but a named stage
--     OkRepeats      so in every legal history an Ok of what repeats another is that one's answer, and leaves the office as it was
--     FirstAlone      of those of one open dump with one token only the first Ok changes a tree
use Rattle.std.specs.Prelude.{◌≡◌, ℕ, List, [], ◌∷◌, ◌++◌, Some, Ok, slice_get}
use Rattle.backup_rules.specs.declared.lines.Kind.{Kind}
use Rattle.receipts.specs.declared.session.SessionName.{SessionName}
use Rattle.receipts.specs.declared.session.Token.{Token}
use Rattle.office_model.specs.declared.answer.Answer.{Answer}
use Rattle.office_model.specs.declared.answer.Answer.TheVariants.{Done, Already, Committed, Dump as Opened}
use Rattle.office_model.specs.declared.event.Event.{Event}
use Rattle.office_model.specs.declared.event.Event.TheVariants.{OpenDump, Put, Remove, Commit}
use Rattle.office_model.specs.declared.event.PutItem.{PutItem}
use Rattle.office_model.specs.Places.{AtEach, Differ}
use Rattle.receipts.specs.declared.receipt.Receipt.{Receipt}
use Rattle.office_model.specs.Office.{Office, Host, Dump, Names, StandsAt}
use Rattle.office_model.specs.Parts.{At, host_at, dump_at}
use Rattle.office_model.specs.UsedNames.{AreSound}
use Rattle.office_model.specs.Step.{State, Running, Halted, IsSoundState, meaning_of}
use Rattle.office_model.specs.History.{Entry, IsHistory, last_state}
use Rattle.office_model.specs.events.Put as PutEvent

-- ---- receipts

abbrev pub TokensDiffer : List Host → Type 0
TokensDiffer hosts = AtEach (λ (host : Host). Differ (λ (receipt : Receipt). receipt.token) host.receipts) hosts

-- of a halted office in each of the two that its disk may have
abbrev pub DifferIn : State → Type 0
DifferIn (Running office names) = TokensDiffer office.hosts
DifferIn (Halted before next names) = TokensDiffer before.hosts × TokensDiffer next.hosts

abbrev pub ReceiptsDiffer : Type 0
ReceiptsDiffer = (state : State) (faults : ℕ) (entries : List Entry) → IsSoundState state → IsHistory state faults entries
    → DifferIn (last_state state entries)

-- ---- openings and commits

-- the event is Ok with this answer, and the office is as it was
abbrev pub Repeats : Office → Names → Event → Answer → Type 0
Repeats office names event answer = (meaning_of event).carried office names ≡ Ok (record { answer = answer; after = office })

-- of the token of a receipt of the host
abbrev pub OpeningByReceipt : Type 0
OpeningByReceipt = (office : Office) (names : Names) (name : List ℕ) (kind : Kind) (now : ℕ) (host : At Host) (n : ℕ) (receipt : Receipt)
    → AreSound office names → host_at office.hosts name ≡ Ok host → slice_get host.value.receipts n ≡ Some receipt
    → Repeats office names (OpenDump name kind now (Some receipt.token)) (Already receipt.number)

-- of the token that the host's open dump was opened with
abbrev pub OpeningByDump : Type 0
OpeningByDump = (office : Office) (names : Names) (name : List ℕ) (kind : Kind) (now : ℕ) (host : At Host) (i : ℕ) (dump : Dump)
    (token : Token) → AreSound office names → host_at office.hosts name ≡ Ok host → slice_get office.dumps i ≡ Some dump
    → dump.host ≡ host.index → dump.token ≡ Some token
    → Repeats office names (OpenDump name kind now (Some token)) (Opened dump.name)

-- of a name in a receipt of any host
abbrev pub CommitByReceipt : Type 0
CommitByReceipt = (office : Office) (names : Names) (now i n : ℕ) (receipt : Receipt) → AreSound office names
    → StandsAt office.hosts i n receipt → Repeats office names (Commit receipt.name now) (Committed receipt.number)

-- behind every legal history an Ok of such an event is that answer, and leaves the office as it was
abbrev pub OkRepeats : Type 0
OkRepeats = (state : State) (faults : ℕ) (entries : List Entry) (entry : Entry) (office : Office) (names : Names) (first given : Answer)
    → IsHistory state faults (entries ++ entry ∷ []) → last_state state entries ≡ Running office names
    → Repeats office names entry.event first → entry.reply ≡ Ok given
    → (given ≡ first) × (left : Names) × (entry.state ≡ Running office left)

-- ---- puts and removals

-- the dump of this name is open and keeps the token
pub record Keeps (office : Office) (session : SessionName) (token : Token) : Type 0 where
  pub dump : At Dump
  pub is_dump : dump_at office.dumps session ≡ Ok dump
  pub place : ℕ
  pub is_kept : slice_get dump.value.kept place ≡ Some token

abbrev pub PutByToken : Type 0
PutByToken = (office : Office) (names : Names) (session : SessionName) (path : List ℕ) (item : PutItem) (token : Token)
    → Keeps office session token
    → (meaning_of (Put session path item (Some token))).carried office names
    ≡ Ok (record { answer = Done; after = PutEvent.repeated session item office })

abbrev pub RemoveByToken : Type 0
RemoveByToken = (office : Office) (names : Names) (session : SessionName) (path : List ℕ) (token : Token) → Keeps office session token
    → Repeats office names (Remove session path (Some token)) Done

-- a put or a removal of this dump with this token
abbrev pub IsEdit : Event → SessionName → Token → Type 0
IsEdit (Put dump path item (Some own)) session token = (dump ≡ session) × (own ≡ token)
IsEdit (Remove dump path (Some own)) session token = (dump ≡ session) × (own ≡ token)
IsEdit event session token = ⊥

-- no tree of an open dump changed
abbrev pub SameDumps : State → State → Type 0
SameDumps (Running old names) (Running new names') = new.dumps ≡ old.dumps
SameDumps old new = ⊥

-- whatever came between two Oks of one dump and one token, the second changes none
abbrev pub FirstAlone : Type 0
FirstAlone = (state : State) (faults : ℕ) (first : Entry) (entries : List Entry) (second : Entry) (session : SessionName) (token : Token)
    (a b : Answer) → IsSoundState state → IsHistory state faults (first ∷ (entries ++ second ∷ []))
    → IsEdit first.event session token → first.reply ≡ Ok a → IsEdit second.event session token → second.reply ≡ Ok b
    → SameDumps (last_state first.state entries) second.state
