-- A host's partial stays until a dump of the host is committed or parked, or the partial is dropped.
use Rattle.std.specs.Prelude.{◌≡◌, ℕ, zero, suc, ◌+◌, Bool, true, false, cond, if◌then◌else◌, List, [], ◌∷◌, ◌++◌, None, Some, Ok, Err, nat_le, is_some, is_none, length, bytes_eq, slice_get, slice_set, Option, ◌⊎◌}
use Rattle.std.specs.List.{position_from}
use Rattle.std.specs.Option.{option_map}
use Rattle.std.proofs.Common.{refl, sym, ap, ◌∙◌, subst, inl, inr}
use Rattle.receipts.specs.declared.session.SessionName.{SessionName}
use Rattle.receipts.specs.declared.session.Token.{Token}
use Rattle.office_model.specs.declared.answer.Answer.{Answer}
use Rattle.office_model.specs.declared.answer.Answer.TheVariants.{Done, Reopened, Dump as Opened}
use Rattle.backup_rules.specs.declared.lines.Kind.{Kind}
use Rattle.office_model.specs.declared.event.Event.{Event}
use Rattle.office_model.specs.declared.event.Event.TheVariants.{AddHost, SetRules, OpenDump, Put, Remove, StageOpen, StagePiece, StageDrop, Commit, Adopt, Abort, Park, Resume, DropPartial, PartialInfo, List as ListEvent, Lookup, ReadFile, OpenFile, ReadPart, CloseFile, OpenRead, ReadNext, CloseRead, Keep, Delete, Expire, Migrate, Contact, Due, Clean, Sweep, Stats, Hosts, Backups, PoolList, PoolPiece, Reopen}
use Rattle.office_model.specs.declared.event.PutItem.TheVariants.{Whole, Staged}
use Rattle.office_model.specs.declared.refusal.BrokenRule.TheVariants.{NoHost, NoBackup, NoSession, NoPartial, NumbersSpent, BadBucket, NoContent, TokensFull}
use Rattle.office_model.specs.declared.refusal.Refusal.TheVariants.{Broken, Halted as HaltedReply, DiskFault, Damaged, Memory}
use Rattle.attr_records.specs.Items.{content_of, is_large}
use Rattle.backup_rules.specs.Values.{RuleSet, RuleChanges}
use Rattle.office_model.specs.declared.event.PutItem.{PutItem}
use Rattle.office_model.specs.Places.{Differ}
use Rattle.office_model.specs.PlacesLaws.{slice_get-longer}
use Rattle.office_model.specs.Ids.{content_at}
use Rattle.office_model.specs.Office.{Office, Host, Backup, Partial, Dump, Durable, Names, host_index, backup_index, host_limit, with_ids, last_sequence, piece_limit, token_limit, stage_content, raised, reopened, with_dumps, numbered}
use Rattle.office_model.specs.Meaning.{Meaning, Carried, Judged, Reply, Touch, Nothing, Reads, Stages, Removes, Commits, ReadsAndCommits, Reopens, NameChange, Renews, ◌>>=◌, found}
use Rattle.office_model.specs.Repeats.{again, keeps as keeps_token, keeping, once}
use Rattle.office_model.specs.laws.RepeatLaws.{given_as, again_is}
use Rattle.office_model.specs.Parts.{At, at as looked_up, host_at, dump_at, backup_at, backup_of}
use Rattle.office_model.specs.Step.{State, Running, Halted, IsSoundState, IsNext, MayHalt, IsReply, meaning_of, IsPicked, IsLeft, IsHaltedReopen, IsHaltedReply, IsStay, IsStep}
use Rattle.office_model.specs.Partials.{IsDumpOf, MayPart, MayPartIn, HasPartial, PartialsStay, ParkedIsPartial, ResumedIsPartial, ParkedReads}
use Rattle.office_model.specs.events
use Rattle.office_model.specs.events.PartialInfo.{partial_at}
use Rattle.office_model.specs.events.OpenDump.{next_session, new_dump}
use Rattle.office_model.specs.events.Park.{Parking, with_partial, partial_of}
use Rattle.office_model.specs.events.Put.{is_chain_full}
use Rattle.office_model.specs.laws.Judging.{bound, passed, found_is, at_is, at_found}
use Rattle.office_model.specs.laws.Lookups.{host_index-found, host_index-at}
use Rattle.office_model.specs.laws.DurableLaws.{set_finds}
use Rattle.office_model.specs.laws.Lawful.{judged}
use Rattle.office_model.specs.laws.PartialLaws.{parking_of, is_parked, IsSound-parked, may_resume}
use Rattle.office_model.specs.laws.StepLaws.{faulted_is, IsSound-carried}
use Rattle.office_model.specs.laws.IdLaws.{made_as, next_as}

-- ---- hosts at their places

-- a host is there still, with its name and its partial
record SameHost (hosts : List Host) (i : ℕ) (was : Host) : Type 0 where
  pub host : Host
  pub is_host : slice_get hosts i ≡ Some host
  pub name : host.name ≡ was.name
  pub partial : host.partial ≡ was.partial

same_host : (hosts : List Host) (i : ℕ) (host : Host) → slice_get hosts i ≡ Some host → SameHost hosts i host
same_host hosts i host at = record { host = host; is_host = at; name = refl; partial = refl }

-- what was made is what was given
made_keeps : {A : Type 0} (P : A → Type 0) (made given : A) → judged made ≡ judged given → P made → P given
made_keeps P made given e has = let same : made ≡ given = cc in subst P same has

kept_by : {A : Type 0} (hosts_of : A → List Host) (made given : A) → judged made ≡ judged given → (i : ℕ) (host : Host)
    → SameHost (hosts_of made) i host → SameHost (hosts_of given) i host
kept_by hosts_of made given e i host has = made_keeps (λ x. SameHost (hosts_of x) i host) made given e has

-- an event that leaves the hosts
stays : (made c : Carried) → judged made ≡ judged c → (i : ℕ) (host : Host) → slice_get made.after.hosts i ≡ Some host
    → SameHost c.after.hosts i host
stays made c e i host at = kept_by (λ (x : Carried). x.after.hosts) made c e i host (same_host made.after.hosts i host at)

-- the host that was found at a place is the one that is there
same_there : (hosts : List Host) (p i : ℕ) (old host : Host) → slice_get hosts p ≡ Some old → slice_get hosts i ≡ Some host → i ≡ p → old ≡ host
same_there hosts p i old host was at same = let f = ap (slice_get hosts) same in cc

-- a host changes at its place, and keeps its name and its partial
set_same : (hosts : List Host) (p : ℕ) (old new : Host) (i : ℕ) (host : Host) → slice_get hosts p ≡ Some old → new.name ≡ old.name
    → new.partial ≡ old.partial → slice_get hosts i ≡ Some host → SameHost (slice_set hosts p new) i host
set_same hosts p old new i host was name partial at = step (set_finds hosts p i new host at)
  where
    step : (slice_get (slice_set hosts p new) i ≡ Some host) ⊎ ((i ≡ p) × (slice_get (slice_set hosts p new) i ≡ Some new)) → SameHost (slice_set hosts p new) i host
    step (inl f) = same_host (slice_set hosts p new) i host f
    step (inr f) =
        let same : old ≡ host = same_there hosts p i old host was at f.0 in
        record { host = new; is_host = f.1; name = name ∙ ap (λ (h : Host). h.name) same; partial = partial ∙ ap (λ (h : Host). h.partial) same }

-- a host changes, and this is another one
set_other : (hosts : List Host) (p : ℕ) (old new : Host) (i : ℕ) (host : Host) → slice_get hosts p ≡ Some old
    → (old ≡ host → ⊥) → slice_get hosts i ≡ Some host → SameHost (slice_set hosts p new) i host
set_other hosts p old new i host was other at = step (set_finds hosts p i new host at)
  where
    step : (slice_get (slice_set hosts p new) i ≡ Some host) ⊎ ((i ≡ p) × (slice_get (slice_set hosts p new) i ≡ Some new)) → SameHost (slice_set hosts p new) i host
    step (inl f) = same_host (slice_set hosts p new) i host f
    step (inr f) = absurd (other (same_there hosts p i old host was at f.0))

-- ---- events

-- a host that an event doesn't part from its partial
abbrev Keeps : Office → Event → List Host → Type 0
Keeps office event hosts = (i : ℕ) (host : Host) → slice_get office.hosts i ≡ Some host → (MayPart office event host.name → ⊥) → SameHost hosts i host

add_keeps : (name : List ℕ) (rules : RuleSet) (hosts added : List Host) → events.AddHost.with_host name rules hosts ≡ Ok added
    → (i : ℕ) (host : Host) → slice_get hosts i ≡ Some host → SameHost added i host
add_keeps name rules hosts added e i host at =
    let a : (is_some (host_index hosts name) ≡ false) × (_ ≡ Ok added) = passed _ _ _ _ e in
    let b : (nat_le host_limit (length hosts) ≡ false) × (Ok (hosts ++ events.AddHost.new_host name rules ∷ []) ≡ Ok added) = passed _ _ _ _ a.1 in
    kept_by (λ (hs : List Host). hs) (hosts ++ events.AddHost.new_host name rules ∷ []) added b.1 i host
    (same_host (hosts ++ events.AddHost.new_host name rules ∷ []) i host (slice_get-longer hosts (events.AddHost.new_host name rules) i host at))

rules_keep : (name : List ℕ) (change : RuleChanges) (hosts changed : List Host) → events.SetRules.with_rules name change hosts ≡ Ok changed
    → (i : ℕ) (host : Host) → slice_get hosts i ≡ Some host → SameHost changed i host
rules_keep name change hosts changed e i host at =
    let a = bound (host_at hosts name) _ changed e in
    kept_by (λ (hs : List Host). hs) _ changed a.2 i host
    (set_same hosts a.0.index a.0.value (events.SetRules.with_change a.0.value change) i host (at_is _ hosts _ a.0 a.1).1 refl refl at)

keep_keeps : (name : List ℕ) (number : ℕ) (on : Bool) (hosts changed : List Host) → events.Keep.with_kept name number on hosts ≡ Ok changed
    → (i : ℕ) (host : Host) → slice_get hosts i ≡ Some host → SameHost changed i host
keep_keeps name number on hosts changed e i host at =
    let a = bound (host_at hosts name) _ changed e in
    let b = bound (backup_at a.0.value number) _ changed a.2 in
    kept_by (λ (hs : List Host). hs) _ changed b.2 i host
    (set_same hosts a.0.index a.0.value (events.Keep.with_backup a.0.value b.0.index (events.Keep.kept_as on b.0.value)) i host (at_is _ hosts _ a.0 a.1).1 refl refl at)

delete_keeps : (name : List ℕ) (number : ℕ) (hosts changed : List Host) → events.Delete.without name number hosts ≡ Ok changed
    → (i : ℕ) (host : Host) → slice_get hosts i ≡ Some host → SameHost changed i host
delete_keeps name number hosts changed e i host at =
    let a = bound (host_at hosts name) _ changed e in
    let b = bound (events.Delete.deletable a.0.value number) _ changed a.2 in
    kept_by (λ (hs : List Host). hs) _ changed b.2 i host
    (set_same hosts a.0.index a.0.value (events.Delete.without_backup a.0.value b.0) i host (at_is _ hosts _ a.0 a.1).1 refl refl at)

expire_keeps : (name : List ℕ) (now : ℕ) (hosts : List Host) (made : events.Expire.Expiring) → events.Expire.expired name now hosts ≡ Ok made
    → (i : ℕ) (host : Host) → slice_get hosts i ≡ Some host → SameHost made.hosts i host
expire_keeps name now hosts made e i host at =
    let a = bound (host_at hosts name) _ made e in
    kept_by (λ (x : events.Expire.Expiring). x.hosts) _ made a.2 i host
    (set_same hosts a.0.index a.0.value (events.Expire.without_named now a.0.value) i host (at_is _ hosts _ a.0 a.1).1 refl refl at)

contact_same : (host : Host) (good : Bool) → ((events.Contact.with_contact host good).name ≡ host.name) × ((events.Contact.with_contact host good).partial ≡ host.partial)
contact_same host true = (refl, refl)
contact_same host false = (refl, refl)

contact_keeps : (name : List ℕ) (good : Bool) (hosts : List Host) (made : events.Contact.Contacted) → events.Contact.contacted name good hosts ≡ Ok made
    → (i : ℕ) (host : Host) → slice_get hosts i ≡ Some host → SameHost made.hosts i host
contact_keeps name good hosts made e i host at =
    let a = bound (host_at hosts name) _ made e in
    let same = contact_same a.0.value good in
    kept_by (λ (x : events.Contact.Contacted). x.hosts) _ made a.2 i host
    (set_same hosts a.0.index a.0.value (events.Contact.with_contact a.0.value good) i host (at_is _ hosts _ a.0 a.1).1 same.0 same.1 at)

commit_keeps : (office : Office) (session : SessionName) (ending : events.Commit.Ending) (parts : events.Commit.Committing)
    → events.Commit.committed session ending office.hosts office.pool office.dumps ≡ Ok parts → (i : ℕ) (host : Host)
    → slice_get office.hosts i ≡ Some host → (IsDumpOf office session host.name → ⊥) → SameHost parts.hosts i host
commit_keeps office session ending parts e i host at other =
    let a = bound (dump_at office.dumps session) _ parts e in
    let b = bound (found NoSession (slice_get office.hosts a.0.value.host)) _ parts a.2 in
    let is_host : slice_get office.hosts a.0.value.host ≡ Some b.0 = found_is _ _ _ b.1 in
    let l = bound (ending b.0 a.0.value) _ parts b.2 in
    kept_by (λ (x : events.Commit.Committing). x.hosts) _ parts l.2 i host
    (set_other office.hosts a.0.value.host b.0 (events.Commit.with_commit b.0 a.0.value l.0) i host is_host
    (λ same. other (record { dump = a.0; is_dump = a.1; host = b.0; is_host = is_host; named = ap (λ (h : Host). h.name) same })) at)

commit_step : (office : Office) (session : SessionName) (ending : events.Commit.Ending) (c : Carried) (i : ℕ) (host : Host) → slice_get office.hosts i ≡ Some host
    → (IsDumpOf office session host.name → ⊥)
    → ((answer : Answer) × (events.Commit.repeated session office.hosts office.dumps ≡ Some answer) × (judged (given_as answer office) ≡ judged c))
    ⊎ ((events.Commit.repeated session office.hosts office.dumps ≡ None) × (events.Commit.ended session ending office ≡ Ok c))
    → SameHost c.after.hosts i host
commit_step office session ending c i host at other (inl f) = stays (given_as f.0 office) c f.2 i host at
commit_step office session ending c i host at other (inr f) =
    let a = bound (events.Commit.committed session ending office.hosts office.pool office.dumps) _ c f.1 in
    kept_by (λ (x : Carried). x.after.hosts) _ c a.2 i host (commit_keeps office session ending a.0 a.1 i host at other)

ending_keeps : (office : Office) (session : SessionName) (ending : events.Commit.Ending) (c : Carried) → events.Commit.carried session ending office ≡ Ok c
    → (i : ℕ) (host : Host) → slice_get office.hosts i ≡ Some host → (IsDumpOf office session host.name → ⊥) → SameHost c.after.hosts i host
ending_keeps office session ending c e i host at other =
    commit_step office session ending c i host at other
    (again_is office (events.Commit.repeated session office.hosts office.dumps) (events.Commit.ended session ending office) c e)

park_keeps : (office : Office) (session : SessionName) (parts : Parking)
    → events.Park.parked session office.hosts office.pool office.dumps ≡ Ok parts → (i : ℕ) (host : Host)
    → slice_get office.hosts i ≡ Some host → (IsDumpOf office session host.name → ⊥) → SameHost parts.hosts i host
park_keeps office session parts e i host at other =
    let a = bound (dump_at office.dumps session) _ parts e in
    let b = bound (found NoSession (slice_get office.hosts a.0.value.host)) _ parts a.2 in
    let is_host : slice_get office.hosts a.0.value.host ≡ Some b.0 = found_is _ _ _ b.1 in
    kept_by (λ (x : Parking). x.hosts) _ parts b.2 i host
    (set_other office.hosts a.0.value.host b.0 (with_partial b.0 (Some (partial_of a.0.value))) i host is_host
    (λ same. other (record { dump = a.0; is_dump = a.1; host = b.0; is_host = is_host; named = ap (λ (h : Host). h.name) same })) at)

drop_keeps : (name : List ℕ) (hosts changed : List Host) → events.DropPartial.without_partial name hosts ≡ Ok changed
    → (i : ℕ) (host : Host) → slice_get hosts i ≡ Some host → (name ≡ host.name → ⊥) → SameHost changed i host
drop_keeps name hosts changed e i host at other =
    let a = bound (host_at hosts name) _ changed e in
    let there = at_is _ hosts _ a.0 a.1 in
    let w = host_index-found hosts name a.0.index there.0 in
    let same : w.0 ≡ a.0.value = let f = w.1 in let g = there.1 in cc in
    let b : (is_none a.0.value.partial ≡ false) × (Ok (slice_set hosts a.0.index (with_partial a.0.value None)) ≡ Ok changed) = passed _ _ _ _ a.2 in
    kept_by (λ (hs : List Host). hs) _ changed b.1 i host
    (set_other hosts a.0.index a.0.value (with_partial a.0.value None) i host there.1
    (λ is. other (sym w.2 ∙ ap (λ (h : Host). h.name) (same ∙ is))) at)

-- hosts that stay, each with its name and its partial
abbrev Stay : Office → List Host → Type 0
Stay office hosts = (i : ℕ) (host : Host) → slice_get office.hosts i ≡ Some host → SameHost hosts i host

-- a request with an answer that was given
again_stays : (left : Office) (repeated : Option Answer) (rest : Judged Carried) (c : Carried) (office : Office) → Stay office left.hosts
    → (rest ≡ Ok c → Stay office c.after.hosts) → again left repeated rest ≡ Ok c → Stay office c.after.hosts
again_stays left repeated rest c office was stay e = step (again_is left repeated rest c e)
  where
    step : ((answer : Answer) × (repeated ≡ Some answer) × (judged (given_as answer left) ≡ judged c)) ⊎ ((repeated ≡ None) × (rest ≡ Ok c))
        → Stay office c.after.hosts
    step (inl f) = λ i host at. kept_by (λ (x : Carried). x.after.hosts) (given_as f.0 left) c f.2 i host (was i host at)
    step (inr f) = stay f.1

once_stays : (session : SessionName) (token : Option Token) (repeated : Office) (rest : Judged Carried) (c : Carried) (office : Office)
    → Stay office repeated.hosts → ((made : Carried) → rest ≡ Ok made → Stay office made.after.hosts)
    → once session token office.dumps repeated rest ≡ Ok c → Stay office c.after.hosts
once_stays session None repeated rest c office was stay e = stay c e
once_stays session (Some token) repeated rest c office was stay e =
    let a = bound (dump_at office.dumps session) _ c e in
    again_stays repeated (if keeps_token token a.0.value then Some Done else None) (keeping a.0 token rest) c office was (kept a.0) a.2
  where
    kept : (dump : At Dump) → keeping dump token rest ≡ Ok c → Stay office c.after.hosts
    kept dump f i host at =
        let a = passed TokensFull (nat_le token_limit (length dump.value.kept)) _ c f in
        let b = bound rest _ c a.1 in
        kept_by (λ (x : Carried). x.after.hosts) _ c b.2 i host (stay b.0 b.1 i host at)

opening_stays : (name : List ℕ) (kind : Kind) (now : ℕ) (token : Option Token) (office : Office) (c : Carried)
    → events.OpenDump.opened name kind now token office ≡ Ok c → Stay office c.after.hosts
opening_stays name kind now token office c e i host at =
    let a = bound (events.OpenDump.with_dump name kind now token (next_session office) office.hosts office.dumps) _ c e in stays _ c a.2 i host at

open_stays : (name : List ℕ) (kind : Kind) (now : ℕ) (token : Option Token) (office : Office) (c : Carried)
    → events.OpenDump.carried name kind now token office ≡ Ok c → Stay office c.after.hosts
open_stays name kind now None office c e = opening_stays name kind now None office c e
open_stays name kind now (Some token) office c e =
    let a = bound (host_at office.hosts name) _ c e in
    again_stays office (events.OpenDump.repeated token a.0 office.dumps) (events.OpenDump.opened name kind now (Some token) office) c office
    (λ i host at. same_host office.hosts i host at) (opening_stays name kind now (Some token) office c) a.2

repeat_stays : (session : SessionName) (item : PutItem) (office : Office) → Stay office (events.Put.repeated session item office).hosts
repeat_stays session (Whole item) office i host at = same_host office.hosts i host at
repeat_stays session (Staged file) office i host at = same_host office.hosts i host at

remove_stays : (session : SessionName) (path : List ℕ) (office : Office) (c : Carried) → events.Remove.removed session path office ≡ Ok c
    → Stay office c.after.hosts
remove_stays session path office c e i host at =
    let a = bound (events.Remove.without_path session path office.dumps) _ c e in stays _ c a.2 i host at

put_keeps : (session : SessionName) (path : List ℕ) (item : PutItem) (office : Office) (names : Names) (c : Carried)
    → events.Put.put session path item office names ≡ Ok c → (i : ℕ) (host : Host) → slice_get office.hosts i ≡ Some host
    → SameHost c.after.hosts i host
put_keeps session path (Whole item) office names c e i host at =
    let a = bound (events.Put.with_put is_large session path item (is_chain_full office.pool office.dumps names (content_of item)) office.dumps) _ c e in
    stays _ c a.2 i host at
put_keeps session path (Staged file) office names c e i host at =
    let a = bound (events.Put.with_staged session path file (is_chain_full office.pool office.dumps names (stage_content office.stages file.stage)) office.dumps office.stages) _ c e in
    stays _ c a.2 i host at

keeps : (event : Event) (office : Office) (names : Names) (c : Carried) → (meaning_of event).carried office names ≡ Ok c → Keeps office event c.after.hosts
keeps (AddHost name rules) office names c e i host at other =
    let a = bound (events.AddHost.with_host name rules office.hosts) _ c e in
    kept_by (λ (x : Carried). x.after.hosts) _ c a.2 i host (add_keeps name rules office.hosts a.0 a.1 i host at)
keeps (SetRules name change) office names c e i host at other =
    let a = bound (events.SetRules.with_rules name change office.hosts) _ c e in
    kept_by (λ (x : Carried). x.after.hosts) _ c a.2 i host (rules_keep name change office.hosts a.0 a.1 i host at)
keeps (OpenDump name kind now token) office names c e i host at other = open_stays name kind now token office c e i host at
keeps (Put session path item token) office names c e i host at other =
    once_stays session token (events.Put.repeated session item office) (events.Put.put session path item office names) c office
    (repeat_stays session item office) (λ made is. put_keeps session path item office names made is) e i host at
keeps (Remove session path token) office names c e i host at other =
    once_stays session token office (events.Remove.removed session path office) c office
    (λ j h there. same_host office.hosts j h there) (λ made is. remove_stays session path office made is) e i host at
keeps (StageOpen session) office names c e i host at other =
    let a = bound (events.StageOpen.with_stage session names.next_stage office.dumps office.stages) _ c e in stays _ c a.2 i host at
keeps (StagePiece number bytes) office names c e i host at other =
    let a = bound (events.StagePiece.with_piece number bytes office.stages) _ c e in stays _ c a.2 i host at
keeps (StageDrop number) office names c e i host at other =
    let a = bound (events.StageDrop.without_stage number office.stages) _ c e in stays _ c a.2 i host at
keeps (Commit session now) office names c e i host at other =
    ending_keeps office session (events.Commit.at_time now) c e i host at other
keeps (Adopt session number start end kind) office names c e i host at other =
    ending_keeps office session (events.Adopt.as_there (events.Adopt.adopted_line number start end kind)) c e i host at other
keeps (Abort session) office names c e i host at other =
    let a = bound (events.Abort.without_dump session office.dumps) _ c e in stays _ c a.2 i host at
keeps (Park session) office names c e i host at other =
    let a = bound (events.Park.parked session office.hosts office.pool office.dumps) _ c e in
    kept_by (λ (x : Carried). x.after.hosts) _ c a.2 i host (park_keeps office session a.0 a.1 i host at other)
keeps (Resume name) office names c e i host at other =
    let a = bound (events.Resume.with_resumed name (next_session office) office.hosts office.dumps) _ c e in stays _ c a.2 i host at
keeps (DropPartial name) office names c e i host at other =
    let a = bound (events.DropPartial.without_partial name office.hosts) _ c e in
    kept_by (λ (x : Carried). x.after.hosts) _ c a.2 i host (drop_keeps name office.hosts a.0 a.1 i host at other)
keeps (PartialInfo name) office names c e i host at other =
    let a = bound (partial_at name office.hosts) _ c e in stays _ c a.2 i host at
keeps (ListEvent name number directory) office names c e i host at other =
    let a = bound (events.List.entries_of office.hosts name number directory) _ c e in stays _ c a.2 i host at
keeps (Lookup name number path) office names c e i host at other =
    let a = bound (events.Lookup.node_of_path office.hosts name number path) _ c e in stays _ c a.2 i host at
keeps (ReadFile name number path) office names c e i host at other =
    let a = bound (events.ReadFile.read_of office.hosts name number path) _ c e in stays _ c a.2 i host at
keeps (OpenFile name number path) office names c e i host at other =
    let a = bound (events.OpenFile.opening name number path names.next_reader office.hosts office.readers) _ c e in stays _ c a.2 i host at
keeps (ReadPart number) office names c e i host at other =
    let a = bound (events.ReadPart.given piece_limit number office.readers) _ c e in stays _ c a.2 i host at
keeps (CloseFile number) office names c e i host at other =
    let a = bound (events.CloseFile.without_reader number office.readers) _ c e in stays _ c a.2 i host at
keeps (OpenRead name number base) office names c e i host at other =
    let a = bound (events.OpenRead.with_restore name number base (next_session office) office.hosts office.restores) _ c e in stays _ c a.2 i host at
keeps (ReadNext session) office names c e i host at other =
    let a = bound (events.ReadNext.given session office.restores) _ c e in stays _ c a.2 i host at
keeps (CloseRead session) office names c e i host at other =
    let a = bound (events.CloseRead.without_restore session office.restores) _ c e in stays _ c a.2 i host at
keeps (Keep name number on) office names c e i host at other =
    let a = bound (events.Keep.with_kept name number on office.hosts) _ c e in
    kept_by (λ (x : Carried). x.after.hosts) _ c a.2 i host (keep_keeps name number on office.hosts a.0 a.1 i host at)
keeps (Delete name number) office names c e i host at other =
    let a = bound (events.Delete.without name number office.hosts) _ c e in
    kept_by (λ (x : Carried). x.after.hosts) _ c a.2 i host (delete_keeps name number office.hosts a.0 a.1 i host at)
keeps (Expire name now) office names c e i host at other =
    let a = bound (events.Expire.expired name now office.hosts) _ c e in
    kept_by (λ (x : Carried). x.after.hosts) _ c a.2 i host (expire_keeps name now office.hosts a.0 a.1 i host at)
keeps (Migrate name) office names c e i host at other =
    let a = bound (host_at office.hosts name) _ c e in stays _ c a.2 i host at
keeps (Contact name good) office names c e i host at other =
    let a = bound (events.Contact.contacted name good office.hosts) _ c e in
    kept_by (λ (x : Carried). x.after.hosts) _ c a.2 i host (contact_keeps name good office.hosts a.0 a.1 i host at)
keeps (Due name now local) office names c e i host at other =
    let a = bound (events.Due.due_dump name now local office.hosts) _ c e in stays _ c a.2 i host at
keeps (Clean bucket) office names c e i host at other =
    let a = passed BadBucket (nat_le 16 bucket) _ c e in stays _ c a.1 i host at
keeps Sweep office names c e i host at other = stays _ c e i host at
keeps Stats office names c e i host at other = stays _ c e i host at
keeps Hosts office names c e i host at other = stays _ c e i host at
keeps (Backups name) office names c e i host at other =
    let a = bound (events.Backups.overview name office.hosts office.dumps) _ c e in stays _ c a.2 i host at
keeps (PoolList part) office names c e i host at other = stays _ c e i host at
keeps (PoolPiece id from) office names c e i host at other =
    let a = bound (found NoContent (content_at office.ids id)) _ c e in stays _ c a.2 i host at
keeps Reopen office names c e i host at other =
    let a = passed NumbersSpent (nat_le last_sequence office.epoch) _ c e in stays _ c a.1 i host at

-- ---- the partial of a name

-- what it says that a host of this name has this partial
record HostNamed (hosts : List Host) (name : List ℕ) (partial : Partial) : Type 0 where
  pub place : ℕ
  pub host : Host
  pub is_host : slice_get hosts place ≡ Some host
  pub named : host.name ≡ name
  pub is_partial : host.partial ≡ Some partial

host_named : (hosts : List Host) (name : List ℕ) (partial : Partial) → partial_at name hosts ≡ Ok partial → HostNamed hosts name partial
host_named hosts name partial e =
    let a = bound (host_at hosts name) _ partial e in
    let there = at_is _ hosts _ a.0 a.1 in
    let w = host_index-found hosts name a.0.index there.0 in
    let same : w.0 ≡ a.0.value = let f = w.1 in let g = there.1 in cc in
    record { place = a.0.index; host = a.0.value; is_host = there.1; named = ap (λ (h : Host). h.name) (sym same) ∙ w.2; is_partial = found_is _ _ _ a.2 }

partial_named : (hosts : List Host) (name : List ℕ) (partial : Partial) → Differ (λ (h : Host). h.name) hosts → HostNamed hosts name partial
    → partial_at name hosts ≡ Ok partial
partial_named hosts name partial differ is =
    let first : host_at hosts name ≡ Ok (record { index = is.place; value = is.host }) =
    at_found NoHost hosts (host_index hosts name) is.place is.host (host_index-at hosts name is.place is.host differ is.is_host is.named) is.is_host in
    ap (λ (r : Judged (At Host)). r >>= λ (h : At Host). found NoPartial h.value.partial) first ∙ ap (found NoPartial) is.is_partial

-- an event that may not part the host from its partial doesn't
partial_kept : (office : Office) (event : Event) (hosts : List Host) (name : List ℕ) (partial : Partial) → Differ (λ (h : Host). h.name) hosts
    → Keeps office event hosts → (MayPart office event name → ⊥) → partial_at name office.hosts ≡ Ok partial → partial_at name hosts ≡ Ok partial
partial_kept office event hosts name partial differ keep other has =
    let w = host_named office.hosts name partial has in
    let s = keep w.place w.host w.is_host (λ may. other (subst (MayPart office event) w.named may)) in
    partial_named hosts name partial differ (record {
      place = w.place;
      host = s.host;
      is_host = s.is_host;
      named = s.name ∙ w.named;
      is_partial = s.partial ∙ w.is_partial;
    })

-- ---- states

-- the partial of a name stays where an event is carried out
abbrev Carries : Office → Names → Meaning → List ℕ → Partial → Type 0
Carries old names meaning name partial = (c : Carried) → meaning.carried old names ≡ Ok c → partial_at name c.after.hosts ≡ Ok partial

moved : (before after : Office) (name : List ℕ) (partial : Partial) → after ≡ before → partial_at name before.hosts ≡ Ok partial → partial_at name after.hosts ≡ Ok partial
moved before after name partial same has = subst (λ (o : Office). partial_at name o.hosts ≡ Ok partial) (sym same) has

moved_kept : (before after : Durable) (name : List ℕ) (partial : Partial) → after ≡ before → partial_at name before.hosts ≡ Ok partial → partial_at name after.hosts ≡ Ok partial
moved_kept before after name partial same has = subst (λ (o : Durable). partial_at name o.hosts ≡ Ok partial) (sym same) has

-- what the disk would have is what was made, but for the ids
next_kept : (pools : Bool) (names : Names) (old made next : Durable) (name : List ℕ) (partial : Partial) → IsNext pools names old made next
    → partial_at name made.hosts ≡ Ok partial → partial_at name next.hosts ≡ Ok partial
next_kept pools names old made next name partial is has =
    let w = next_as pools names old made next is in moved_kept made (record next { ids = w.0 }) name partial w.1 has

between : (pools : Bool) (names : Names) (old : Office) (before next : Durable) (touch : Touch) (judged : Judged Carried) (name : List ℕ) (partial : Partial)
    → partial_at name old.hosts ≡ Ok partial → ((c : Carried) → judged ≡ Ok c → partial_at name c.after.hosts ≡ Ok partial)
    → MayHalt touch pools names old judged before next → (partial_at name before.hosts ≡ Ok partial) × (partial_at name next.hosts ≡ Ok partial)
between pools names old before next Nothing judged name partial has carries may = absurd may
between pools names old before next Reads judged name partial has carries may = absurd may
between pools names old before next Stages judged name partial has carries may = absurd may
between pools names old before next Removes judged name partial has carries may = absurd may
between pools names old before next Commits (Ok c) name partial has carries may =
    (moved_kept old.durable before name partial may.0 has, next_kept pools names old.durable c.after.durable next name partial may.1 (carries c refl))
between pools names old before next Commits (Err rule) name partial has carries may = absurd may
between pools names old before next ReadsAndCommits (Ok c) name partial has carries may =
    (moved_kept old.durable before name partial may.0 has, next_kept pools names old.durable c.after.durable next name partial may.1 (carries c refl))
between pools names old before next ReadsAndCommits (Err rule) name partial has carries may = absurd may
between pools names old before next Reopens judged name partial has carries may = (moved_kept old.durable before name partial may.0 has, step may.1)
  where
    step : (next ≡ old.durable) ⊎ (next ≡ raised old.durable) → partial_at name next.hosts ≡ Ok partial
    step (inl e) = moved_kept old.durable next name partial e has
    step (inr e) = moved_kept (raised old.durable) next name partial e has

kept_reply : (old : Office) (names : Names) (meaning : Meaning) (reply : Reply) (new : State) (name : List ℕ) (partial : Partial)
    → partial_at name old.hosts ≡ Ok partial → partial_at name (meaning.faulted old).hosts ≡ Ok partial → Carries old names meaning name partial
    → IsReply old names meaning reply new → HasPartial new name partial
kept_reply old names meaning (Ok answer) (Running new n) name partial has fault carries is =
    let w = made_as meaning.pools names old (meaning.carried old names) answer new is in carries (record { answer = answer; after = with_ids new w.0 }) w.1
kept_reply old names meaning (Ok answer) (Halted before next n) name partial has fault carries is = absurd is
kept_reply old names meaning (Err (Broken rule)) (Running new n) name partial has fault carries is = moved old new name partial is.1 has
kept_reply old names meaning (Err (Broken rule)) (Halted before next n) name partial has fault carries is = absurd is
kept_reply old names meaning (Err HaltedReply) new name partial has fault carries is = absurd is
kept_reply old names meaning (Err DiskFault) (Running new n) name partial has fault carries is = moved (meaning.faulted old) new name partial is.2 fault
kept_reply old names meaning (Err DiskFault) (Halted before next n) name partial has fault carries is =
    between meaning.pools names old before next (meaning.touches old names) (meaning.carried old names) name partial has carries is
kept_reply old names meaning (Err (Damaged file bytes)) (Running new n) name partial has fault carries is = moved old new name partial is.2 has
kept_reply old names meaning (Err (Damaged file bytes)) (Halted before next n) name partial has fault carries is =
    between meaning.pools names old before next Reopens (meaning.carried old names) name partial has carries is.1
kept_reply old names meaning (Err Memory) (Running new n) name partial has fault carries is = moved old new name partial is has
kept_reply old names meaning (Err Memory) (Halted before next n) name partial has fault carries is = absurd is

module _ (before next : Durable) (name : List ℕ) (partial : Partial) (a : partial_at name before.hosts ≡ Ok partial) (b : partial_at name next.hosts ≡ Ok partial) where
  picked_has : (picked : Durable) → IsPicked before next picked → partial_at name picked.hosts ≡ Ok partial
  picked_has picked (inl e) = moved_kept before picked name partial e a
  picked_has picked (inr e) = moved_kept next picked name partial e b

  left_has : (before' next' : Durable) → IsLeft before next before' next'
      → (partial_at name before'.hosts ≡ Ok partial) × (partial_at name next'.hosts ≡ Ok partial)
  left_has before' next' (inl e) = (moved_kept before before' name partial e.0 a, moved_kept next next' name partial e.1 b)
  left_has before' next' (inr e) =
      let has = picked_has before' e.0 in (has, moved_kept (raised before') next' name partial e.1 has)

  stay_has : (before' next' : Durable) → before' ≡ before → next' ≡ next
      → (partial_at name before'.hosts ≡ Ok partial) × (partial_at name next'.hosts ≡ Ok partial)
  stay_has before' next' e f = (moved_kept before before' name partial e a, moved_kept next next' name partial f b)

  reopened_has : (picked : Durable) (c : Carried) → events.Reopen.carried picked ≡ Ok c → partial_at name picked.hosts ≡ Ok partial
      → partial_at name c.after.hosts ≡ Ok partial
  reopened_has picked c e has =
      let w = passed NumbersSpent (nat_le last_sequence picked.epoch) _ c e in
      let same : record { answer = Reopened (picked.epoch + 1); after = reopened picked } ≡ c = let f = w.1 in cc in
      subst (λ (x : Carried). partial_at name x.after.hosts ≡ Ok partial) same has

  halted_reopen : (reply : Reply) (new : State) → IsHaltedReopen before next reply new → HasPartial new name partial
  halted_reopen (Ok answer) (Running new n) is = reopened_has is.0 (record { answer = answer; after = new }) is.2 (picked_has is.0 is.1)
  halted_reopen (Ok answer) (Halted before' next' n) is = absurd is
  halted_reopen (Err (Broken rule)) (Running new n) is = absurd is
  halted_reopen (Err (Broken rule)) (Halted before' next' n) is = stay_has before' next' is.1 is.2
  halted_reopen (Err HaltedReply) new is = absurd is
  halted_reopen (Err DiskFault) (Running new n) is = absurd is
  halted_reopen (Err DiskFault) (Halted before' next' n) is = left_has before' next' is
  halted_reopen (Err (Damaged file bytes)) (Running new n) is = absurd is
  halted_reopen (Err (Damaged file bytes)) (Halted before' next' n) is = left_has before' next' is
  halted_reopen (Err Memory) (Running new n) is = absurd is
  halted_reopen (Err Memory) (Halted before' next' n) is = stay_has before' next' is.0 is.1

  halted_stay : (reply : Reply) (new : State) → IsStay before next reply new → HasPartial new name partial
  halted_stay reply (Running new n) is = absurd is
  halted_stay reply (Halted before' next' n) is = stay_has before' next' is.1 is.2

  halted_reply : (change : NameChange) (reply : Reply) (new : State) → IsHaltedReply before next change reply new → HasPartial new name partial
  halted_reply Renews reply new is = halted_reopen reply new is
  halted_reply change reply new is = halted_stay reply new is

pub partial_step : (state : State) (event : Event) (reply : Reply) (new : State) (name : List ℕ) (partial : Partial) → IsSoundState state
    → IsStep state event reply new → (MayPartIn state event name → ⊥) → HasPartial state name partial → HasPartial new name partial
partial_step (Running old names) event reply new name partial sound step other has =
    let w = faulted_is event old in
    kept_reply old names (meaning_of event) reply new name partial has
    (subst (λ (o : Office). partial_at name o.hosts ≡ Ok partial) (sym w.1) has)
    (λ c e. partial_kept old event c.after.hosts name partial (IsSound-carried old names event c sound e).hosts.differ (keeps event old names c e) other has) step.0
partial_step (Halted before next names) event reply new name partial sound step other has =
    halted_reply before next name partial has.0 has.1 (meaning_of event).renames reply new step.0

pub partials_stay : PartialsStay
partials_stay state faults [] name partial sound legal leaves has = has
partials_stay state faults (entry ∷ entries) name partial sound legal leaves has =
    partials_stay entry.state entry.faults entries name partial legal.0.sound legal.1 leaves.1
    (partial_step state entry.event entry.reply entry.state name partial sound legal.0.step leaves.0 has)

-- ---- what is parked, and what is resumed

set_there : (hosts : List Host) (p : ℕ) (new old : Host) → slice_get hosts p ≡ Some old → slice_get (slice_set hosts p new) p ≡ Some new
set_there [] p new old e = absurd (cc)
set_there (host ∷ hosts) zero new old e = refl
set_there (host ∷ hosts) (suc p) new old e = set_there hosts p new old e

pub parked_is_partial : ParkedIsPartial
parked_is_partial office names session name c sound of e =
    let w = bound (events.Park.parked session office.hosts office.pool office.dumps) _ c e in
    let a = bound (dump_at office.dumps session) _ w.0 w.1 in
    let same_dump : a.0 ≡ of.dump = let f = a.1 in let g = of.is_dump in cc in
    let b = bound (found NoSession (slice_get office.hosts a.0.value.host)) _ w.0 a.2 in
    let is_host : slice_get office.hosts a.0.value.host ≡ Some b.0 = found_is _ _ _ b.1 in
    let same_place : slice_get office.hosts a.0.value.host ≡ Some of.host =
    ap (λ (d : At Dump). slice_get office.hosts d.value.host) same_dump ∙ of.is_host in
    let same_name : b.0.name ≡ name = let f : b.0 ≡ of.host = let h = is_host in let g = same_place in cc in ap (λ (h : Host). h.name) f ∙ of.named in
    let new : Host = with_partial b.0 (Some (partial_of a.0.value)) in
    let made : Parking = parking_of office.hosts office.pool a.0.value b.0 in
    let made_is : made ≡ w.0 = let f = b.2 in cc in
    let has : partial_at name made.hosts ≡ Ok (partial_of a.0.value) = partial_named made.hosts name (partial_of a.0.value)
    (subst (λ (x : Parking). Differ (λ (h : Host). h.name) x.hosts) (sym made_is) (IsSound-parked office session w.0 sound.office w.1).hosts.differ)
    (record {
      place = a.0.value.host;
      host = new;
      is_host = set_there office.hosts a.0.value.host new b.0 is_host;
      named = same_name;
      is_partial = refl;
    }) in
    let after : partial_at name w.0.hosts ≡ Ok (partial_of a.0.value) = subst (λ (x : Parking). partial_at name x.hosts ≡ Ok (partial_of a.0.value)) made_is has in
    made_keeps (λ (x : Carried). partial_at name x.after.hosts ≡ judged (partial_of of.dump.value)) _ c w.2
    (after ∙ ap (λ (d : At Dump). judged (partial_of d.value)) same_dump)

pub resumed_is_partial : ResumedIsPartial
resumed_is_partial office name partial c has e =
    let w = bound (events.Resume.with_resumed name (next_session office) office.hosts office.dumps) _ c e in
    let may = may_resume name (next_session office) office.hosts office.dumps w.0 w.1 in
    let there : partial_at name office.hosts ≡ Ok may.partial =
    ap (λ (r : Judged (At Host)). r >>= λ (h : At Host). found NoPartial h.value.partial) may.is_found ∙ ap (found NoPartial) may.is_partial in
    let same : may.partial ≡ partial = let f = has in cc in
    let made : Carried = record { answer = Opened (next_session office); after = numbered (with_dumps office w.0) } in
    let made_is : made ≡ c = let f = w.2 in cc in (
      may.host.index,
      ap (λ (x : Carried). x.after.dumps) (sym made_is) ∙ sym may.new_is
          ∙ ap (λ (p : Partial). office.dumps ++ new_dump (next_session office) may.host.index p.kind p.start p.tree ∷ []) same,
    )

-- ---- no read of a backup shows a partial

index_set : (n : ℕ) (hosts : List Host) (p : ℕ) (old new : Host) (name : List ℕ) → slice_get hosts p ≡ Some old → new.name ≡ old.name
    → position_from (λ (h : Host). bytes_eq h.name name) n (slice_set hosts p new) ≡ position_from (λ (h : Host). bytes_eq h.name name) n hosts
index_set n [] p old new name e same = absurd (cc)
index_set n (host ∷ hosts) zero old new name e same =
    let is : host ≡ old = cc in
    ap (λ b. cond b (Some n) (position_from (λ (h : Host). bytes_eq h.name name) (n + 1) hosts))
    (ap (λ text. bytes_eq text name) (same ∙ ap (λ (h : Host). h.name) (sym is)))
index_set n (host ∷ hosts) (suc p) old new name e same =
    ap (λ r. cond (bytes_eq host.name name) (Some n) r) (index_set (n + 1) hosts p old new name e same)

backups_set : (hosts : List Host) (p : ℕ) (old new : Host) (i : ℕ) → slice_get hosts p ≡ Some old → new.backups ≡ old.backups
    → option_map (λ (h : Host). h.backups) (slice_get (slice_set hosts p new) i) ≡ option_map (λ (h : Host). h.backups) (slice_get hosts i)
backups_set [] p old new i e same = absurd (cc)
backups_set (host ∷ hosts) zero old new zero e same = let is : host ≡ old = cc in ap Some (same ∙ ap (λ (h : Host). h.backups) (sym is))
backups_set (host ∷ hosts) zero old new (suc i) e same = refl
backups_set (host ∷ hosts) (suc p) old new zero e same = refl
backups_set (host ∷ hosts) (suc p) old new (suc i) e same = backups_set hosts p old new i e same

-- a backup of a host that was found, or not
abbrev of_found : Option Host → ℕ → Judged Backup
of_found there number = found NoHost there >>= λ (host : Host). looked_up NoBackup host.backups (backup_index host.backups number) >>= λ (backup : At Backup). Ok backup.value

same_backups : (a b : Option Host) (number : ℕ) → option_map (λ (h : Host). h.backups) a ≡ option_map (λ (h : Host). h.backups) b
    → of_found a number ≡ of_found b number
same_backups None None number e = refl
same_backups None (Some b) number e = absurd (cc)
same_backups (Some a) None number e = absurd (cc)
same_backups (Some a) (Some b) number e =
    let same : a.backups ≡ b.backups = cc in
    ap (λ bs. looked_up NoBackup bs (backup_index bs number) >>= λ (backup : At Backup). Ok backup.value) same

-- the look-up goes by the place of the name, and by what is there
backup_by : (hosts : List Host) (place : Option ℕ) (number : ℕ) → (looked_up NoHost hosts place >>= λ (host : At Host). backup_at host.value number >>= λ (backup : At Backup). Ok backup.value)
    ≡ (found NoHost place >>= λ index. of_found (slice_get hosts index) number)
backup_by hosts None number = refl
backup_by hosts (Some index) number = step (slice_get hosts index)
  where
    step : (there : Option Host)
        → ((found NoHost there >>= λ value. Ok (record { index = index; value = value })) >>= λ (host : At Host). backup_at host.value number >>= λ (backup : At Backup). Ok backup.value)
        ≡ (found NoHost there >>= λ (host : Host). looked_up NoBackup host.backups (backup_index host.backups number) >>= λ (backup : At Backup). Ok backup.value)
    step None = refl
    step (Some host) = refl

backup_set : (hosts : List Host) (p : ℕ) (old new : Host) (name : List ℕ) (number : ℕ) → slice_get hosts p ≡ Some old → new.name ≡ old.name
    → new.backups ≡ old.backups → backup_of (slice_set hosts p new) name number ≡ backup_of hosts name number
backup_set hosts p old new name number was same_name same =
    backup_by (slice_set hosts p new) (host_index (slice_set hosts p new) name) number
    ∙ ap (λ (place : Option ℕ). found NoHost place >>= λ index. of_found (slice_get (slice_set hosts p new) index) number) (index_set 0 hosts p old new name was same_name)
    ∙ each (host_index hosts name)
    ∙ sym (backup_by hosts (host_index hosts name) number)
  where
    each : (place : Option ℕ) → (found NoHost place >>= λ index. of_found (slice_get (slice_set hosts p new) index) number)
        ≡ (found NoHost place >>= λ index. of_found (slice_get hosts index) number)
    each None = refl
    each (Some index) = same_backups (slice_get (slice_set hosts p new) index) (slice_get hosts index) number (backups_set hosts p old new index was same)

pub parked_reads : ParkedReads
parked_reads office session c name number e =
    let w = bound (events.Park.parked session office.hosts office.pool office.dumps) _ c e in
    let is = is_parked session office.hosts office.pool office.dumps w.0 w.1 in
    made_keeps (λ (x : Carried). backup_of x.after.hosts name number ≡ backup_of office.hosts name number) _ c w.2
    (subst (λ (x : Parking). backup_of x.hosts name number ≡ backup_of office.hosts name number) is.made_is
    (backup_set office.hosts is.dump.host is.host (with_partial is.host (Some (partial_of is.dump))) name number is.is_host refl refl))
