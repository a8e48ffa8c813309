-- Calls of a pull that adopt no dump change nothing that the disk keeps.
use Rattle.std.specs.Prelude.{◌≡◌, ℕ, Bool, List, [], ◌∷◌, ◌++◌, length, Option, Some, None, Ok, Err, nat_le, if◌then◌else◌, ◌⊎◌, false}
use Rattle.std.proofs.Common.{refl, sym, ap, ◌∙◌, subst, inl, inr}
use Rattle.attr_records.specs.Items.{is_large, content_of}
use Rattle.backup_rules.specs.declared.lines.Kind.{Kind}
use Rattle.receipts.specs.declared.session.SessionName.{SessionName}
use Rattle.receipts.specs.declared.session.Token.{Token}
use Rattle.office_model.specs.declared.answer.Answer.{Answer}
use Rattle.office_model.specs.declared.answer.Answer.TheVariants.{Done}
use Rattle.office_model.specs.declared.event.Event.{Event}
use Rattle.office_model.specs.declared.event.Event.TheVariants as E
use Rattle.office_model.specs.declared.event.PutItem.{PutItem}
use Rattle.office_model.specs.declared.event.PutItem.TheVariants.{Whole, Staged}
use Rattle.office_model.specs.declared.refusal.BrokenRule.TheVariants.{TokensFull}
use Rattle.office_model.specs.declared.refusal.Refusal.TheVariants.{Broken, Halted as HaltedReply, DiskFault, Damaged, Memory}
use Rattle.office_model.specs.Office.{Office, Dump, Names, Durable, token_limit, stage_content}
use Rattle.office_model.specs.Meaning.{Carried, Judged, Reply}
use Rattle.office_model.specs.Parts.{At, dump_at, host_at}
use Rattle.office_model.specs.Repeats.{again, keeps, keeping, once}
use Rattle.office_model.specs.Step.{Call, State, Running, Halted, IsMade, MayHalt, IsReply, IsHaltedReply, IsStay, IsStep, meaning_of}
use Rattle.office_model.specs.History.{Entry, IsUndamaged, IsHistory, last_state, calls_of}
use Rattle.office_model.specs.events.OpenDump as OpenDumpEvent
use Rattle.office_model.specs.events.Put as PutEvent
use Rattle.office_model.specs.events.Remove as RemoveEvent
use Rattle.office_model.specs.events.StageOpen as StageOpenEvent
use Rattle.office_model.specs.events.StagePiece as StagePieceEvent
use Rattle.office_model.specs.events.Abort as AbortEvent
use Rattle.office_model.specs.events.Backups as BackupsEvent
use Rattle.office_model.specs.laws.Judging.{bound, passed}
use Rattle.office_model.specs.laws.Lawful.{judged}
use Rattle.office_model.specs.laws.RepeatLaws.{given_as, again_is}
use Rattle.office_model.specs.laws.StepLaws.{faulted_is}
use Rattle.adopted_dumps.specs.Adopted.{IsPart, IsRefused, AdoptsNone, AdoptNone, IsUnchanged, PartsChangeNothing}

-- ---- where an event is carried out

-- what the disk keeps is what it kept
abbrev Keeps : Office → Carried → Type 0
Keeps office c = c.after.durable ≡ office.durable

made_keeps : (office : Office) (made c : Carried) → judged made ≡ judged c → Keeps office made → Keeps office c
made_keeps office made c e keep = let same : made ≡ c = cc in ap (λ (x : Carried). x.after.durable) (sym same) ∙ keep

again_keeps : (office : Office) (given : Option Answer) (rest : Judged Carried) (c : Carried) → (rest ≡ Ok c → Keeps office c)
    → again office given rest ≡ Ok c → Keeps office c
again_keeps office given rest c keep e = step (again_is office given rest c e)
  where
    step : ((answer : Answer) × (given ≡ Some answer) × (judged (given_as answer office) ≡ judged c)) ⊎ ((given ≡ None) × (rest ≡ Ok c)) → Keeps office c
    step (inl f) = made_keeps office (given_as f.0 office) c f.2 refl
    step (inr f) = keep f.1

once_keeps : (session : SessionName) (token : Option Token) (office left : Office) (rest : Judged Carried) (c : Carried)
    → left.durable ≡ office.durable → ((made : Carried) → rest ≡ Ok made → Keeps office made)
    → once session token office.dumps left rest ≡ Ok c → Keeps office c
once_keeps session None office left rest c same keep e = keep c e
once_keeps session (Some token) office left rest c same keep e =
    let a = bound (dump_at office.dumps session) _ c e in
    step a.0 (again_is left (if keeps token a.0.value then Some Done else None) (keeping a.0 token rest) c a.2)
  where
    kept : (dump : At Dump) → keeping dump token rest ≡ Ok c → Keeps office c
    kept dump f =
        let a = passed TokensFull (nat_le token_limit (length dump.value.kept)) _ c f in
        let b = bound rest _ c a.1 in
        made_keeps office _ c b.2 (keep b.0 b.1)

    step : (dump : At Dump)
        → ((answer : Answer) × ((if keeps token dump.value then Some Done else None) ≡ Some answer) × (judged (given_as answer left) ≡ judged c))
        ⊎ (((if keeps token dump.value then Some Done else None) ≡ None) × (keeping dump token rest ≡ Ok c)) → Keeps office c
    step dump (inl f) = made_keeps office (given_as f.0 left) c f.2 same
    step dump (inr f) = kept dump f.1

opened_keeps : (name : List ℕ) (kind : Kind) (now : ℕ) (token : Option Token) (office : Office) (c : Carried)
    → OpenDumpEvent.opened name kind now token office ≡ Ok c → Keeps office c
opened_keeps name kind now token office c e =
    let a = bound (OpenDumpEvent.with_dump name kind now token (OpenDumpEvent.next_session office) office.hosts office.dumps) _ c e in
    made_keeps office _ c a.2 refl

open_keeps : (name : List ℕ) (kind : Kind) (now : ℕ) (token : Option Token) (office : Office) (c : Carried)
    → OpenDumpEvent.carried name kind now token office ≡ Ok c → Keeps office c
open_keeps name kind now None office c e = opened_keeps name kind now None office c e
open_keeps name kind now (Some token) office c e =
    let a = bound (host_at office.hosts name) _ c e in
    again_keeps office (OpenDumpEvent.repeated token a.0 office.dumps) (OpenDumpEvent.opened name kind now (Some token) office) c
    (opened_keeps name kind now (Some token) office c) a.2

put_keeps : (session : SessionName) (path : List ℕ) (item : PutItem) (office : Office) (names : Names) (c : Carried)
    → PutEvent.put session path item office names ≡ Ok c → Keeps office c
put_keeps session path (Whole item) office names c e =
    let full : Bool = PutEvent.is_chain_full office.pool office.dumps names (content_of item) in
    let a = bound (PutEvent.with_put is_large session path item full office.dumps) _ c e in
    made_keeps office _ c a.2 refl
put_keeps session path (Staged file) office names c e =
    let full : Bool = PutEvent.is_chain_full office.pool office.dumps names (stage_content office.stages file.stage) in
    let a = bound (PutEvent.with_staged session path file full office.dumps office.stages) _ c e in
    made_keeps office _ c a.2 refl

repeated_keeps : (session : SessionName) (item : PutItem) (office : Office) → (PutEvent.repeated session item office).durable ≡ office.durable
repeated_keeps session (Whole item) office = refl
repeated_keeps session (Staged file) office = refl

remove_keeps : (session : SessionName) (path : List ℕ) (office : Office) (c : Carried) → RemoveEvent.removed session path office ≡ Ok c
    → Keeps office c
remove_keeps session path office c e =
    let a = bound (RemoveEvent.without_path session path office.dumps) _ c e in made_keeps office _ c a.2 refl

pub part_keeps : (event : Event) → IsPart event → (office : Office) (names : Names) (c : Carried)
    → (meaning_of event).carried office names ≡ Ok c → c.after.durable ≡ office.durable
part_keeps (E.OpenDump name kind now token) part office names c e = open_keeps name kind now token office c e
part_keeps (E.Put session path item token) part office names c e =
    once_keeps session token office (PutEvent.repeated session item office) (PutEvent.put session path item office names) c
    (repeated_keeps session item office) (λ made is. put_keeps session path item office names made is) e
part_keeps (E.Remove session path token) part office names c e =
    once_keeps session token office office (RemoveEvent.removed session path office) c refl (λ made is. remove_keeps session path office made is) e
part_keeps (E.StageOpen session) part office names c e =
    let a = bound (StageOpenEvent.with_stage session names.next_stage office.dumps office.stages) _ c e in made_keeps office _ c a.2 refl
part_keeps (E.StagePiece number bytes) part office names c e =
    let a = bound (StagePieceEvent.with_piece number bytes office.stages) _ c e in made_keeps office _ c a.2 refl
part_keeps (E.Abort session) part office names c e =
    let a = bound (AbortEvent.without_dump session office.dumps) _ c e in made_keeps office _ c a.2 refl
part_keeps (E.Backups name) part office names c e =
    let a = bound (BackupsEvent.overview name office.hosts office.dumps) _ c e in made_keeps office _ c a.2 refl
part_keeps event part office names c e = absurd part

-- no content joins or leaves the pool by it
part_plain : (event : Event) → IsPart event → (meaning_of event).pools ≡ false
part_plain (E.OpenDump name kind now token) part = refl
part_plain (E.Put session path item token) part = refl
part_plain (E.Remove session path token) part = refl
part_plain (E.StageOpen session) part = refl
part_plain (E.StagePiece number bytes) part = refl
part_plain (E.Abort session) part = refl
part_plain (E.Backups name) part = refl
part_plain event part = absurd part

-- ---- replies of an office at work

-- no fault of the disk halts it
never_halts : (event : Event) → IsPart event → (old : Office) (names : Names) (judged : Judged Carried) (before next : Durable)
    → MayHalt ((meaning_of event).touches old names) (meaning_of event).pools names old judged before next → ⊥
never_halts (E.OpenDump name kind now token) part old names judged before next may = may
never_halts (E.Put session path item token) part old names judged before next may = may
never_halts (E.Remove session path token) part old names judged before next may = may
never_halts (E.StageOpen session) part old names judged before next may = may
never_halts (E.StagePiece number bytes) part old names judged before next may = may
never_halts (E.Abort session) part old names judged before next may = may
never_halts (E.Backups name) part old names judged before next may = may
never_halts event part old names judged before next may = part

-- a fault of the disk that leaves it at work leaves what the disk keeps
faulted_keeps : (event : Event) (office : Office) → ((meaning_of event).faulted office).durable ≡ office.durable
faulted_keeps event office = let w = faulted_is event office in ap (λ (o : Office). o.durable) w.1

pub part_replied : (event : Event) → IsPart event → (old : Office) (names : Names) (reply : Reply) (new : State) → IsUndamaged reply
    → IsReply old names (meaning_of event) reply new → IsUnchanged (Running old names) new
part_replied event part old names (Ok answer) (Running new n) fine is =
    part_keeps event part old names (record { answer = answer; after = new })
    (subst (λ (pools : Bool). IsMade pools names old ((meaning_of event).carried old names) answer new) (part_plain event part) is)
part_replied event part old names (Ok answer) (Halted before next n) fine is = is
part_replied event part old names (Err (Broken rule)) (Running new n) fine is = ap (λ (o : Office). o.durable) is.1
part_replied event part old names (Err (Broken rule)) (Halted before next n) fine is = is
part_replied event part old names (Err HaltedReply) new fine is = absurd is
part_replied event part old names (Err DiskFault) (Running new n) fine is = ap (λ (o : Office). o.durable) is.2 ∙ faulted_keeps event old
part_replied event part old names (Err DiskFault) (Halted before next n) fine is =
    never_halts event part old names ((meaning_of event).carried old names) before next is
part_replied event part old names (Err (Damaged file found)) new fine is = absurd fine
part_replied event part old names (Err Memory) (Running new n) fine is = ap (λ (o : Office). o.durable) is
part_replied event part old names (Err Memory) (Halted before next n) fine is = is

-- an event that was refused, and by no fault of the disk
refused_replied : (event : Event) (old : Office) (names : Names) (reply : Reply) → IsRefused reply → (new : State) → IsUndamaged reply
    → IsReply old names (meaning_of event) reply new → IsUnchanged (Running old names) new
refused_replied event old names (Ok answer) refused new fine is = absurd refused
refused_replied event old names (Err (Broken rule)) refused (Running new n) fine is = ap (λ (o : Office). o.durable) is.1
refused_replied event old names (Err (Broken rule)) refused (Halted before next n) fine is = is
refused_replied event old names (Err HaltedReply) refused new fine is = absurd is
refused_replied event old names (Err DiskFault) refused new fine is = absurd refused
refused_replied event old names (Err (Damaged file found)) refused new fine is = absurd fine
refused_replied event old names (Err Memory) refused (Running new n) fine is = ap (λ (o : Office). o.durable) is
refused_replied event old names (Err Memory) refused (Halted before next n) fine is = is

-- ---- of a halted one

named_stay : (before next : Durable) (content : Option (List ℕ)) (reply : Reply) (new : State)
    → IsHaltedReply before next (PutEvent.name_change content) reply new → IsStay before next reply new
named_stay before next None reply new is = is
named_stay before next (Some content) reply new is = is

put_stay : (before next : Durable) (item : PutItem) (reply : Reply) (new : State) → IsHaltedReply before next (PutEvent.change_of item) reply new
    → IsStay before next reply new
put_stay before next (Whole item) reply new is = named_stay before next (content_of item) reply new is
put_stay before next (Staged file) reply new is = is

stay_unchanged : (before next : Durable) (names : Names) (reply : Reply) (new : State) → IsStay before next reply new
    → IsUnchanged (Halted before next names) new
stay_unchanged before next names reply (Running new n) stay = stay
stay_unchanged before next names reply (Halted before' next' n) stay = (stay.1, stay.2)

-- it stays
stays : (event : Event) (reply : Reply) → AdoptsNone event reply → (before next : Durable) (new : State)
    → IsHaltedReply before next (meaning_of event).renames reply new → IsStay before next reply new
stays (E.Adopt session number start end kind) reply none before next new is = is
stays (E.OpenDump name kind now token) reply none before next new is = is
stays (E.Put session path item token) reply none before next new is = put_stay before next item reply new is
stays (E.Remove session path token) reply none before next new is = is
stays (E.StageOpen session) reply none before next new is = is
stays (E.StagePiece number bytes) reply none before next new is = is
stays (E.Abort session) reply none before next new is = is
stays (E.Backups name) reply none before next new is = is
stays event reply none before next new is = absurd none

-- ---- calls, one after the other

at_work : (event : Event) (reply : Reply) → AdoptsNone event reply → (old : Office) (names : Names) (new : State) → IsUndamaged reply
    → IsReply old names (meaning_of event) reply new → IsUnchanged (Running old names) new
at_work (E.Adopt session number start end kind) reply none old names new fine is =
    refused_replied (E.Adopt session number start end kind) old names reply none new fine is
at_work (E.OpenDump name kind now token) reply none old names new fine is = part_replied (E.OpenDump name kind now token) tt old names reply new fine is
at_work (E.Put session path item token) reply none old names new fine is = part_replied (E.Put session path item token) tt old names reply new fine is
at_work (E.Remove session path token) reply none old names new fine is = part_replied (E.Remove session path token) tt old names reply new fine is
at_work (E.StageOpen session) reply none old names new fine is = part_replied (E.StageOpen session) tt old names reply new fine is
at_work (E.StagePiece number bytes) reply none old names new fine is = part_replied (E.StagePiece number bytes) tt old names reply new fine is
at_work (E.Abort session) reply none old names new fine is = part_replied (E.Abort session) tt old names reply new fine is
at_work (E.Backups name) reply none old names new fine is = part_replied (E.Backups name) tt old names reply new fine is
at_work event reply none old names new fine is = absurd none

step_unchanged : (state : State) (event : Event) (reply : Reply) (new : State) → AdoptsNone event reply → IsUndamaged reply
    → IsStep state event reply new → IsUnchanged state new
step_unchanged (Running old names) event reply new none fine step = at_work event reply none old names new fine step.0
step_unchanged (Halted before next names) event reply new none fine step =
    stay_unchanged before next names reply new (stays event reply none before next new step.0)

unchanged_itself : (state : State) → IsUnchanged state state
unchanged_itself (Running office names) = refl
unchanged_itself (Halted before next names) = (refl, refl)

unchanged_both : (a b c : State) → IsUnchanged a b → IsUnchanged b c → IsUnchanged a c
unchanged_both (Running a m) (Running b n) (Running c o) e f = f ∙ e
unchanged_both (Running a m) (Running b n) (Halted c c' o) e f = f
unchanged_both (Running a m) (Halted b b' n) c e f = absurd e
unchanged_both (Halted a a' m) (Running b n) c e f = absurd e
unchanged_both (Halted a a' m) (Halted b b' n) (Running c o) e f = f
unchanged_both (Halted a a' m) (Halted b b' n) (Halted c c' o) e f = (f.0 ∙ e.0, f.1 ∙ e.1)

entries_unchanged : (entries : List Entry) (state : State) (faults : ℕ) → IsHistory state faults entries → AdoptNone (calls_of entries)
    → IsUnchanged state (last_state state entries)
entries_unchanged [] state faults legal none = unchanged_itself state
entries_unchanged (entry ∷ entries) state faults legal none =
    unchanged_both state entry.state (last_state entry.state entries)
    (step_unchanged state entry.event entry.reply entry.state none.0 legal.0.undamaged legal.0.step)
    (entries_unchanged entries entry.state entry.faults legal.1 none.1)

pub parts_change_nothing : PartsChangeNothing
parts_change_nothing state faults calls state' faults' leads none =
    subst (IsUnchanged state) (sym leads.state_is)
    (entries_unchanged leads.entries state faults leads.legal (subst AdoptNone leads.calls_are none))

-- ---- lists of such calls

pub AdoptNone-append : (xs ys : List Call) → AdoptNone xs → AdoptNone ys → AdoptNone (xs ++ ys)
AdoptNone-append [] ys a b = b
AdoptNone-append (x ∷ xs) ys a b = (a.0, AdoptNone-append xs ys a.1 b)
