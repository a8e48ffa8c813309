-- What a dump kept of its puts and removals it keeps while it is open: so of those with one token the first Ok alone changes it.
use Rattle.std.specs.Prelude.{◌≡◌, ◌≢◌, ◌<◌, ◌≤◌, ℕ, ◌+◌, Bool, true, false, not, List, [], ◌∷◌, ◌++◌, length, Option, Some, None, Ok, Err, nat_le, is_some, slice_get, slice_set, if◌then◌else◌, ◌⊎◌}
use Rattle.std.specs.List.{remove}
use Rattle.std.specs.Option.{option_map_or}
use Rattle.std.proofs.Common.{refl, sym, ap, ◌∙◌, subst, inl, inr, arith}
use Rattle.attr_records.specs.Items.{content_of, is_large}
use Rattle.receipts.specs.declared.session.SessionName.{SessionName}
use Rattle.receipts.specs.declared.session.Token.{Token}
use Rattle.office_model.specs.declared.answer.Answer.{Answer}
use Rattle.office_model.specs.declared.answer.Answer.TheVariants.{Done, Reopened}
use Rattle.office_model.specs.declared.event.Event.{Event}
use Rattle.office_model.specs.declared.event.Event.TheVariants.{AddHost, SetRules, OpenDump, Put, Remove, StageOpen, StagePiece, StageDrop, Commit, Adopt, Abort, Park, Resume, DropPartial, PartialInfo, List as ListEvent, Lookup, ReadFile, OpenFile, ReadPart, CloseFile, OpenRead, ReadNext, CloseRead, Keep, Delete, Expire, Migrate, Contact, Due, Clean, Sweep, Stats, Hosts, Backups, PoolList, PoolPiece, Reopen}
use Rattle.office_model.specs.declared.event.PutItem.{PutItem}
use Rattle.office_model.specs.declared.event.PutItem.TheVariants.{Whole, Staged}
use Rattle.office_model.specs.declared.refusal.BrokenRule.TheVariants.{BadBucket, NumbersSpent, NoSession, NoContent, TokensFull}
use Rattle.office_model.specs.declared.refusal.Refusal.TheVariants.{Broken, Halted as HaltedReply, DiskFault, Damaged, Memory}
use Rattle.attr_records.specs.Trees.{node_at}
use Rattle.backup_rules.specs.declared.lines.Kind.{Kind}
use Rattle.office_model.specs.Places.{place_before}
use Rattle.office_model.specs.PlacesLaws.{in_longer, in_set, slice_get-remove, slice_get-longer}
use Rattle.office_model.specs.Ids.{content_at}
use Rattle.office_model.specs.Office.{Office, Dump, Names, Durable, raised, reopened, with_ids, stage_content, last_sequence, piece_limit, token_limit}
use Rattle.office_model.specs.Meaning.{Meaning, Carried, Judged, Reply, Touch, Nothing, Reads, Stages, Removes, Commits, ReadsAndCommits, Reopens, NameChange, Renews, found}
use Rattle.office_model.specs.Parts.{At, dump_at, host_at}
use Rattle.office_model.specs.UsedNames.{Among}
use Rattle.office_model.specs.Repeats.{again, keeps, with_token, kept_at, keeping, once}
use Rattle.office_model.specs.events
use Rattle.office_model.specs.events.PartialInfo.{partial_at}
use Rattle.office_model.specs.events.OpenDump.{next_session, new_dump, bearing}
use Rattle.office_model.specs.events.Put.{is_chain_full, name_change}
use Rattle.office_model.specs.Step.{State, Running, Halted, IsNext, MayHalt, IsReply, meaning_of, IsPicked, IsLeft, IsHaltedReopen, IsHaltedReply, IsStay, IsStep}
use Rattle.office_model.specs.History.{Entry, IsHistory, last_state}
use Rattle.office_model.specs.Tokens.{IsEdit, SameDumps}
use Rattle.office_model.specs.laws.Judging.{bound, passed, at_is}
use Rattle.office_model.specs.laws.Lookups.{named}
use Rattle.office_model.specs.laws.StepLaws.{faulted_is}
use Rattle.office_model.specs.laws.IdLaws.{made_as, next_as}
use Rattle.office_model.specs.laws.TokenLaws.{once_repeats}
use Rattle.office_model.specs.laws.Lawful.{judged}
use Rattle.office_model.specs.laws.OpenDumpLaws.{may_open}
use Rattle.office_model.specs.laws.PartialLaws.{may_resume}
use Rattle.office_model.specs.laws.PutLaws.{may_put, may_put_stage}
use Rattle.office_model.specs.laws.RepeatLaws.{given_as, again_is}

-- ---- what becomes of a dump

-- a dump is one of before, with its name and the tokens that it kept
pub record WasThere (old : List Dump) (dump : Dump) : Type 0 where
  pub place : ℕ
  pub was : Dump
  pub is_was : slice_get old place ≡ Some was
  pub name : dump.name ≡ was.name
  pub keeps : (token : Token) → Among was.kept token → Among dump.kept token

-- each dump is one of before, or has the name that was next
abbrev pub FollowDumps : SessionName → List Dump → List Dump → Type 0
FollowDumps next old new = (i : ℕ) (dump : Dump) → slice_get new i ≡ Some dump → WasThere old dump ⊎ (dump.name ≡ next)

-- an office in the same epoch, with such dumps
pub record Follows (old new : Office) : Type 0 where
  pub epoch : new.epoch ≡ old.epoch
  pub sequence : old.sequence ≤ new.sequence
  pub dumps : FollowDumps (next_session old) old.dumps new.dumps

same_dump : (old : List Dump) (i : ℕ) (dump : Dump) → slice_get old i ≡ Some dump → WasThere old dump
same_dump old i dump at = record { place = i; was = dump; is_was = at; name = refl; keeps = λ token h. h }

follow_same : (next : SessionName) (dumps : List Dump) → FollowDumps next dumps dumps
follow_same next dumps i dump at = inl (same_dump dumps i dump at)

follow_longer : (next : SessionName) (dumps : List Dump) (new : Dump) → new.name ≡ next → FollowDumps next dumps (dumps ++ new ∷ [])
follow_longer next dumps new name i dump at = step (in_longer dumps new i dump at)
  where
    step : (slice_get dumps i ≡ Some dump) ⊎ ((i ≡ length dumps) × (dump ≡ new)) → WasThere dumps dump ⊎ (dump.name ≡ next)
    step (inl f) = inl (same_dump dumps i dump f)
    step (inr f) = inr (ap (λ (d : Dump). d.name) f.1 ∙ name)

follow_set : (next : SessionName) (dumps : List Dump) (p : ℕ) (old new : Dump) → slice_get dumps p ≡ Some old → new.name ≡ old.name
    → ((token : Token) → Among old.kept token → Among new.kept token) → FollowDumps next dumps (slice_set dumps p new)
follow_set next dumps p old new was name more i dump at = step (in_set dumps p new i dump at)
  where
    step : ((i ≢ p) × (slice_get dumps i ≡ Some dump)) ⊎ ((i ≡ p) × (dump ≡ new) × (p < length dumps)) → WasThere dumps dump ⊎ (dump.name ≡ next)
    step (inl f) = inl (same_dump dumps i dump f.1)
    step (inr f) = inl (record {
      place = p;
      was = old;
      is_was = was;
      name = ap (λ (d : Dump). d.name) f.1 ∙ name;
      keeps = λ token h. subst (λ (d : Dump). Among d.kept token) (sym f.1) (more token h);
    })

follow_removed : (next : SessionName) (dumps : List Dump) (p : ℕ) → FollowDumps next dumps (remove dumps p)
follow_removed next dumps p i dump at = inl (same_dump dumps (place_before p i) dump (sym (slice_get-remove dumps p i) ∙ at))

-- one change behind another that leaves no new name
follow_then : (next : SessionName) (a b c : List Dump) → FollowDumps next a b
    → ((i : ℕ) (dump : Dump) → slice_get c i ≡ Some dump → WasThere b dump) → FollowDumps next a c
follow_then next a b c first more i dump at =
    let w = more i dump at in step w (first w.place w.was w.is_was)
  where
    step : (w : WasThere b dump) → WasThere a w.was ⊎ (w.was.name ≡ next) → WasThere a dump ⊎ (dump.name ≡ next)
    step w (inl v) = inl (record { place = v.place; was = v.was; is_was = v.is_was; name = w.name ∙ v.name; keeps = λ token h. w.keeps token (v.keeps token h) })
    step w (inr e) = inr (w.name ∙ e)

among_more : (token last : Token) (kept : List Token) → Among kept token → Among (kept ++ last ∷ []) token
among_more token last kept w = (w.0, slice_get-longer kept last w.0 token w.1)

kept_there : (dumps : List Dump) (p : ℕ) (token : Token) (i : ℕ) (dump : Dump) → slice_get (kept_at p token dumps) i ≡ Some dump → WasThere dumps dump
kept_there dumps p token i dump at = step (slice_get dumps p) refl at
  where
    found : (old : Dump) → slice_get dumps p ≡ Some old
        → ((i ≢ p) × (slice_get dumps i ≡ Some dump)) ⊎ ((i ≡ p) × (dump ≡ with_token token old) × (p < length dumps)) → WasThere dumps dump
    found old was (inl f) = same_dump dumps i dump f.1
    found old was (inr f) = record {
      place = p;
      was = old;
      is_was = was;
      name = ap (λ (d : Dump). d.name) f.1;
      keeps = λ t h. subst (λ (d : Dump). Among d.kept t) (sym f.1) (among_more t token old.kept h);
    }

    step : (r : Option Dump) → slice_get dumps p ≡ r
        → slice_get (option_map_or (λ (d : Dump). slice_set dumps p (with_token token d)) r dumps) i ≡ Some dump → WasThere dumps dump
    step None is f = same_dump dumps i dump f
    step (Some old) is f = found old is (in_set dumps p (with_token token old) i dump f)

-- ---- what was made is what was carried out

follows_as : (old : Office) (made c : Carried) → judged made ≡ judged c → Follows old made.after → Follows old c.after
follows_as old made c e f = let same : made ≡ c = cc in subst (λ (x : Carried). Follows old x.after) same f

-- what is open stays, but for restores, stages and readers
alike : (old : Office) (made c : Carried) → judged made ≡ judged c → made.after.epoch ≡ old.epoch → old.sequence ≤ made.after.sequence
    → made.after.dumps ≡ old.dumps → Follows old c.after
alike old made c e epoch sequence dumps = follows_as old made c e (record {
  epoch = epoch;
  sequence = sequence;
  dumps = subst (FollowDumps (next_session old) old.dumps) (sym dumps) (follow_same (next_session old) old.dumps);
})

no_less : (n : ℕ) → n ≤ n
no_less n = omega arith

one_more : (n : ℕ) → n ≤ n + 1
one_more n = omega arith

-- ---- puts and removals, once

put_follows : (session : SessionName) (path : List ℕ) (item : PutItem) (office : Office) (names : Names) (c : Carried)
    → events.Put.put session path item office names ≡ Ok c → Follows office c.after
put_follows session path (Whole item) office names c e =
    let full : Bool = is_chain_full office.pool office.dumps names (content_of item) in
    let a = bound (events.Put.with_put is_large session path item (is_chain_full office.pool office.dumps names (content_of item)) office.dumps) _ c e in
    let may = may_put is_large session path item full office.dumps a.0 a.1 in
    follows_as office _ c a.2 (record {
      epoch = refl;
      sequence = no_less office.sequence;
      dumps = subst (FollowDumps (next_session office) office.dumps) may.new_is
          (follow_set (next_session office) office.dumps may.index may.dump (events.Put.with_item may.dump path item) may.is_dump refl (λ token h. h));
    })
put_follows session path (Staged file) office names c e =
    let full : Bool = is_chain_full office.pool office.dumps names (stage_content office.stages file.stage) in
    let a = bound (events.Put.with_staged session path file (is_chain_full office.pool office.dumps names (stage_content office.stages file.stage)) office.dumps office.stages) _ c e in
    let by = may_put_stage session path file full office.dumps office.stages a.0 a.1 in
    let item = events.Put.staged_item file by.stage.bytes in
    let may = may_put events.Put.is_over session path (events.Put.staged_item file by.stage.bytes) full office.dumps a.0.dumps by.put in
    follows_as office _ c a.2 (record {
      epoch = refl;
      sequence = no_less office.sequence;
      dumps = subst (FollowDumps (next_session office) office.dumps) may.new_is
          (follow_set (next_session office) office.dumps may.index may.dump (events.Put.with_item may.dump path (events.Put.staged_item file by.stage.bytes)) may.is_dump refl (λ token h. h));
    })

once_follows : (session : SessionName) (token : Option Token) (office left : Office) (rest : Judged Carried) (c : Carried) → Follows office left
    → ((made : Carried) → rest ≡ Ok made → Follows office made.after) → once session token office.dumps left rest ≡ Ok c → Follows office c.after
once_follows session None office left rest c was follow e = follow c e
once_follows session (Some token) office left rest c was follow e =
    let a = bound (dump_at office.dumps session) _ c e in
    step a.0 (again_is left (if keeps token a.0.value then Some Done else None) (keeping a.0 token rest) c a.2)
  where
    kept : (dump : At Dump) → keeping dump token rest ≡ Ok c → Follows office c.after
    kept dump f =
        let a = passed TokensFull (nat_le token_limit (length dump.value.kept)) _ c f in
        let b = bound rest _ c a.1 in
        let first : Follows office b.0.after = follow b.0 b.1 in
        follows_as office _ c b.2 (record {
          epoch = first.epoch;
          sequence = first.sequence;
          dumps = follow_then (next_session office) office.dumps b.0.after.dumps (kept_at dump.index token b.0.after.dumps) first.dumps
              (kept_there b.0.after.dumps dump.index token);
        })

    step : (dump : At Dump) → ((answer : Answer) × ((if keeps token dump.value then Some Done else None) ≡ Some answer) × (judged (given_as answer left) ≡ judged c))
        ⊎ (((if keeps token dump.value then Some Done else None) ≡ None) × (keeping dump token rest ≡ Ok c)) → Follows office c.after
    step dump (inl f) = follows_as office _ c f.2 was
    step dump (inr f) = kept dump f.1

-- ---- events

opened_follows : (name : List ℕ) (kind : Kind) (now : ℕ) (token : Option Token) (office : Office) (c : Carried)
    → events.OpenDump.opened name kind now token office ≡ Ok c → Follows office c.after
opened_follows name kind now token office c e =
    let a = bound (events.OpenDump.with_dump name kind now token (next_session office) office.hosts office.dumps) _ c e in
    let may = may_open name kind now token (next_session office) office.hosts office.dumps a.0 a.1 in
    follows_as office _ c a.2 (record {
      epoch = refl;
      sequence = one_more office.sequence;
      dumps = subst (FollowDumps (next_session office) office.dumps) may.new_is
          (follow_longer (next_session office) office.dumps (bearing token (new_dump (next_session office) may.host.index kind now may.base)) refl);
    })

again_follows : (office : Office) (given : Option Answer) (rest : Judged Carried) (c : Carried) → (rest ≡ Ok c → Follows office c.after)
    → again office given rest ≡ Ok c → Follows office c.after
again_follows office given rest c follow e = step (again_is office given rest c e)
  where
    step : ((answer : Answer) × (given ≡ Some answer) × (judged (given_as answer office) ≡ judged c)) ⊎ ((given ≡ None) × (rest ≡ Ok c)) → Follows office c.after
    step (inl f) = alike office (given_as f.0 office) c f.2 refl (no_less office.sequence) refl
    step (inr f) = follow f.1

open_follows : (name : List ℕ) (kind : Kind) (now : ℕ) (token : Option Token) (office : Office) (c : Carried)
    → events.OpenDump.carried name kind now token office ≡ Ok c → Follows office c.after
open_follows name kind now None office c e = opened_follows name kind now None office c e
open_follows name kind now (Some token) office c e =
    let a = bound (host_at office.hosts name) _ c e in
    again_follows office (events.OpenDump.repeated token a.0 office.dumps) (events.OpenDump.opened name kind now (Some token) office) c
    (opened_follows name kind now (Some token) office c) a.2

remove_follows : (session : SessionName) (path : List ℕ) (office : Office) (c : Carried) → events.Remove.removed session path office ≡ Ok c
    → Follows office c.after
remove_follows session path office c e =
    let a = bound (events.Remove.without_path session path office.dumps) _ c e in
    let b = bound (dump_at office.dumps session) _ a.0 a.1 in
    let was : slice_get office.dumps b.0.index ≡ Some b.0.value = (at_is _ office.dumps _ b.0 b.1).1 in
    let d : (not (is_some (node_at b.0.value.tree path)) ≡ false) × (Ok (slice_set office.dumps b.0.index (events.Remove.with_removed b.0.value path)) ≡ Ok a.0) = passed _ _ _ _ b.2 in
    let new_is : slice_set office.dumps b.0.index (events.Remove.with_removed b.0.value path) ≡ a.0 = let g = d.1 in cc in
    follows_as office _ c a.2 (record {
      epoch = refl;
      sequence = no_less office.sequence;
      dumps = subst (FollowDumps (next_session office) office.dumps) new_is
          (follow_set (next_session office) office.dumps b.0.index b.0.value (events.Remove.with_removed b.0.value path) was refl (λ token h. h));
    })

ended_follows : (session : SessionName) (ending : events.Commit.Ending) (office : Office) (c : Carried) → events.Commit.ended session ending office ≡ Ok c
    → Follows office c.after
ended_follows session ending office c e =
    let a = bound (events.Commit.committed session ending office.hosts office.pool office.dumps) _ c e in
    let b = bound (dump_at office.dumps session) _ a.0 a.1 in
    let d = bound (found NoSession (slice_get office.hosts b.0.value.host)) _ a.0 b.2 in
    let l = bound (ending d.0 b.0.value) _ a.0 d.2 in
    let dumps_are : remove office.dumps b.0.index ≡ a.0.dumps = let f = l.2 in cc in
    follows_as office _ c a.2 (record {
      epoch = refl;
      sequence = no_less office.sequence;
      dumps = subst (FollowDumps (next_session office) office.dumps) dumps_are (follow_removed (next_session office) office.dumps b.0.index);
    })

abort_follows : (session : SessionName) (office : Office) (c : Carried) → events.Abort.carried session office ≡ Ok c → Follows office c.after
abort_follows session office c e =
    let a = bound (events.Abort.without_dump session office.dumps) _ c e in
    let b = bound (dump_at office.dumps session) _ a.0 a.1 in
    let dumps_are : remove office.dumps b.0.index ≡ a.0 = let f = b.2 in cc in
    follows_as office _ c a.2 (record {
      epoch = refl;
      sequence = no_less office.sequence;
      dumps = subst (FollowDumps (next_session office) office.dumps) dumps_are (follow_removed (next_session office) office.dumps b.0.index);
    })

resume_follows : (name : List ℕ) (office : Office) (c : Carried) → events.Resume.carried name office ≡ Ok c → Follows office c.after
resume_follows name office c e =
    let a = bound (events.Resume.with_resumed name (next_session office) office.hosts office.dumps) _ c e in
    let may = may_resume name (next_session office) office.hosts office.dumps a.0 a.1 in
    follows_as office _ c a.2 (record {
      epoch = refl;
      sequence = one_more office.sequence;
      dumps = subst (FollowDumps (next_session office) office.dumps) may.new_is
          (follow_longer (next_session office) office.dumps (new_dump (next_session office) may.host.index may.partial.kind may.partial.start may.partial.tree) refl);
    })

itself : (office : Office) → Follows office office
itself office = record { epoch = refl; sequence = no_less office.sequence; dumps = follow_same (next_session office) office.dumps }

repeat_follows : (session : SessionName) (item : PutItem) (office : Office) → Follows office (events.Put.repeated session item office)
repeat_follows session (Whole item) office = itself office
repeat_follows session (Staged file) office = record { epoch = refl; sequence = no_less office.sequence; dumps = follow_same (next_session office) office.dumps }

ending_follows : (session : SessionName) (ending : events.Commit.Ending) (office : Office) (c : Carried) → events.Commit.carried session ending office ≡ Ok c
    → Follows office c.after
ending_follows session ending office c e =
    again_follows office (events.Commit.repeated session office.hosts office.dumps) (events.Commit.ended session ending office) c (ended_follows session ending office c) e

abbrev is_reopen : Event → Bool
is_reopen Reopen = true
is_reopen event = false

pub follows : (event : Event) (office : Office) (names : Names) (c : Carried) → is_reopen event ≡ false
    → (meaning_of event).carried office names ≡ Ok c → Follows office c.after
follows (AddHost name rules) office names c reopen e =
    let a = bound (events.AddHost.with_host name rules office.hosts) _ c e in alike office _ c a.2 refl (no_less office.sequence) refl
follows (SetRules name change) office names c reopen e =
    let a = bound (events.SetRules.with_rules name change office.hosts) _ c e in alike office _ c a.2 refl (no_less office.sequence) refl
follows (OpenDump name kind now token) office names c reopen e = open_follows name kind now token office c e
follows (Put session path item token) office names c reopen e =
    once_follows session token office (events.Put.repeated session item office) (events.Put.put session path item office names) c
    (repeat_follows session item office) (λ made is. put_follows session path item office names made is) e
follows (Remove session path token) office names c reopen e =
    once_follows session token office office (events.Remove.removed session path office) c (itself office) (λ made is. remove_follows session path office made is) e
follows (StageOpen session) office names c reopen e =
    let a = bound (events.StageOpen.with_stage session names.next_stage office.dumps office.stages) _ c e in alike office _ c a.2 refl (no_less office.sequence) refl
follows (StagePiece number bytes) office names c reopen e =
    let a = bound (events.StagePiece.with_piece number bytes office.stages) _ c e in alike office _ c a.2 refl (no_less office.sequence) refl
follows (StageDrop number) office names c reopen e =
    let a = bound (events.StageDrop.without_stage number office.stages) _ c e in alike office _ c a.2 refl (no_less office.sequence) refl
follows (Commit session now) office names c reopen e =
    ending_follows session (events.Commit.at_time now) office c e
follows (Adopt session number start end kind) office names c reopen e =
    ending_follows session (events.Adopt.as_there (events.Adopt.adopted_line number start end kind)) office c e
follows (Abort session) office names c reopen e = abort_follows session office c e
follows (Park session) office names c reopen e =
    let a = bound (events.Park.parked session office.hosts office.pool office.dumps) _ c e in alike office _ c a.2 refl (no_less office.sequence) refl
follows (Resume name) office names c reopen e = resume_follows name office c e
follows (DropPartial name) office names c reopen e =
    let a = bound (events.DropPartial.without_partial name office.hosts) _ c e in alike office _ c a.2 refl (no_less office.sequence) refl
follows (PartialInfo name) office names c reopen e =
    let a = bound (partial_at name office.hosts) _ c e in alike office _ c a.2 refl (no_less office.sequence) refl
follows (ListEvent name number directory) office names c reopen e =
    let a = bound (events.List.entries_of office.hosts name number directory) _ c e in alike office _ c a.2 refl (no_less office.sequence) refl
follows (Lookup name number path) office names c reopen e =
    let a = bound (events.Lookup.node_of_path office.hosts name number path) _ c e in alike office _ c a.2 refl (no_less office.sequence) refl
follows (ReadFile name number path) office names c reopen e =
    let a = bound (events.ReadFile.read_of office.hosts name number path) _ c e in alike office _ c a.2 refl (no_less office.sequence) refl
follows (OpenFile name number path) office names c reopen e =
    let a = bound (events.OpenFile.opening name number path names.next_reader office.hosts office.readers) _ c e in alike office _ c a.2 refl (no_less office.sequence) refl
follows (ReadPart number) office names c reopen e =
    let a = bound (events.ReadPart.given piece_limit number office.readers) _ c e in alike office _ c a.2 refl (no_less office.sequence) refl
follows (CloseFile number) office names c reopen e =
    let a = bound (events.CloseFile.without_reader number office.readers) _ c e in alike office _ c a.2 refl (no_less office.sequence) refl
follows (OpenRead name number base) office names c reopen e =
    let a = bound (events.OpenRead.with_restore name number base (next_session office) office.hosts office.restores) _ c e in alike office _ c a.2 refl (one_more office.sequence) refl
follows (ReadNext session) office names c reopen e =
    let a = bound (events.ReadNext.given session office.restores) _ c e in alike office _ c a.2 refl (no_less office.sequence) refl
follows (CloseRead session) office names c reopen e =
    let a = bound (events.CloseRead.without_restore session office.restores) _ c e in alike office _ c a.2 refl (no_less office.sequence) refl
follows (Keep name number on) office names c reopen e =
    let a = bound (events.Keep.with_kept name number on office.hosts) _ c e in alike office _ c a.2 refl (no_less office.sequence) refl
follows (Delete name number) office names c reopen e =
    let a = bound (events.Delete.without name number office.hosts) _ c e in alike office _ c a.2 refl (no_less office.sequence) refl
follows (Expire name now) office names c reopen e =
    let a = bound (events.Expire.expired name now office.hosts) _ c e in alike office _ c a.2 refl (no_less office.sequence) refl
follows (Migrate name) office names c reopen e =
    let a = bound (host_at office.hosts name) _ c e in alike office _ c a.2 refl (no_less office.sequence) refl
follows (Contact name good) office names c reopen e =
    let a = bound (events.Contact.contacted name good office.hosts) _ c e in alike office _ c a.2 refl (no_less office.sequence) refl
follows (Due name now local) office names c reopen e =
    let a = bound (events.Due.due_dump name now local office.hosts) _ c e in alike office _ c a.2 refl (no_less office.sequence) refl
follows (Clean bucket) office names c reopen e =
    let a = passed BadBucket (nat_le 16 bucket) _ c e in alike office _ c a.1 refl (no_less office.sequence) refl
follows Sweep office names c reopen e = alike office _ c e refl (no_less office.sequence) refl
follows Stats office names c reopen e = alike office _ c e refl (no_less office.sequence) refl
follows Hosts office names c reopen e = alike office _ c e refl (no_less office.sequence) refl
follows (Backups name) office names c reopen e =
    let a = bound (events.Backups.overview name office.hosts office.dumps) _ c e in alike office _ c a.2 refl (no_less office.sequence) refl
follows (PoolList part) office names c reopen e = alike office _ c e refl (no_less office.sequence) refl
follows (PoolPiece id from) office names c reopen e =
    let a = bound (found NoContent (content_at office.ids id)) _ c e in alike office _ c a.2 refl (no_less office.sequence) refl
follows Reopen office names c reopen e = absurd (cc)

-- ---- states

-- the session was given out, and its dump, if it is open, keeps the token
pub record IsSpent (epoch sequence : ℕ) (dumps : List Dump) (session : SessionName) (token : Token) : Type 0 where
  pub past : session.epoch ≤ epoch
  pub given : session.epoch ≡ epoch → session.sequence < sequence
  pub kept : (i : ℕ) (dump : Dump) → slice_get dumps i ≡ Some dump → dump.name ≡ session → Among dump.kept token

-- of a halted office, whose next epoch is a later one
abbrev pub SpentIn : State → SessionName → Token → Type 0
SpentIn (Running office names) session token = IsSpent office.epoch office.sequence office.dumps session token
SpentIn (Halted before next names) session token = (session.epoch ≤ before.epoch) × (session.epoch ≤ next.epoch)

spent_follows : (old new : Office) (session : SessionName) (token : Token) → Follows old new
    → IsSpent old.epoch old.sequence old.dumps session token → IsSpent new.epoch new.sequence new.dumps session token
spent_follows old new session token f was = record {
  past = subst (λ (n : ℕ). session.epoch ≤ n) (sym f.epoch) was.past;
  given = λ e. let less : session.sequence < old.sequence = was.given (e ∙ f.epoch) in let more = f.sequence in omega arith;
  kept = λ i dump at name. step i dump name (f.dumps i dump at);
}
  where
    step : (i : ℕ) (dump : Dump) → dump.name ≡ session → WasThere old.dumps dump ⊎ (dump.name ≡ next_session old) → Among dump.kept token
    step i dump name (inl w) = w.keeps token (was.kept w.place w.was w.is_was (sym w.name ∙ name))
    step i dump name (inr e) =
        let same : session ≡ next_session old = sym name ∙ e in
        let less : session.sequence < old.sequence = was.given (ap (λ (n : SessionName). n.epoch) same) in
        let its : session.sequence ≡ old.sequence = ap (λ (n : SessionName). n.sequence) same in absurd (omega arith)

reopened_spent : (picked : Durable) (c : Carried) (session : SessionName) (token : Token) → session.epoch ≤ picked.epoch
    → events.Reopen.carried picked ≡ Ok c → IsSpent c.after.epoch c.after.sequence c.after.dumps session token
reopened_spent picked c session token past e =
    let w = passed NumbersSpent (nat_le last_sequence picked.epoch) _ c e in
    let same : record { answer = Reopened (picked.epoch + 1); after = reopened picked } ≡ c = let f = w.1 in cc in
    subst (λ (x : Carried). IsSpent x.after.epoch x.after.sequence x.after.dumps session token) same (record {
      past = omega arith;
      given = λ same_epoch. absurd (omega arith);
      kept = λ i dump at name. absurd (cc);
    })

pub put_left : (session : SessionName) (item : PutItem) (office : Office) → (events.Put.repeated session item office).dumps ≡ office.dumps
put_left session (Whole item) office = refl
put_left session (Staged file) office = refl

-- an Ok of a token that the dump keeps is that of a repeated one
again_same : (own : Token) (name : SessionName) (office left : Office) (rest : Judged Carried) (c : Carried) (session : SessionName) (token : Token)
    → name ≡ session → own ≡ token → IsSpent office.epoch office.sequence office.dumps session token → left.dumps ≡ office.dumps
    → once name (Some own) office.dumps left rest ≡ Ok c → c.after.dumps ≡ office.dumps
again_same own name office left rest c session token is its has same e =
    let a = bound (dump_at office.dumps name) _ c e in
    let there = at_is _ office.dumps _ a.0 a.1 in
    let named_so : a.0.value.name ≡ session = named office.dumps name a.0.index a.0.value there.0 there.1 ∙ is in
    let kept : Among a.0.value.kept token = has.kept a.0.index a.0.value there.1 named_so in
    let repeated : once name (Some own) office.dumps left rest ≡ Ok (given_as Done left) =
    once_repeats name own office.dumps left rest a.0 kept.0 a.1 (kept.1 ∙ ap Some (sym its)) in
    let one : given_as Done left ≡ c = let f = e in let g = repeated in cc in
    ap (λ (x : Carried). x.after.dumps) (sym one) ∙ same

module _ (session : SessionName) (token : Token) where
  -- an office, and what a disk keeps, of which this is so
  abbrev OfOffice : Office → Type 0
  OfOffice office = IsSpent office.epoch office.sequence office.dumps session token

  abbrev OfKept : Durable → Type 0
  OfKept kept = session.epoch ≤ kept.epoch

  later_kept : (kept : Durable) → OfKept kept → OfKept (raised kept)
  later_kept kept past = let le : session.epoch ≤ kept.epoch = past in omega arith

  moved : (before after : Office) → after ≡ before → OfOffice before → OfOffice after
  moved before after same has = subst OfOffice (sym same) has

  moved_kept : (before after : Durable) → after ≡ before → OfKept before → OfKept after
  moved_kept before after same has = subst OfKept (sym same) has

  -- what the disk would have is what was made, but for the ids
  next_kept : (pools : Bool) (names : Names) (old made next : Durable) → IsNext pools names old made next → OfKept made → OfKept next
  next_kept pools names old made next is has = let w = next_as pools names old made next is in moved_kept made (record next { ids = w.0 }) w.1 has

  between : (pools : Bool) (names : Names) (old : Office) (before next : Durable) (touch : Touch) (carried : Judged Carried) → OfKept old.durable
      → ((c : Carried) → carried ≡ Ok c → OfKept c.after.durable) → MayHalt touch pools names old carried before next → OfKept before × OfKept next
  between pools names old before next Nothing carried has carries may = absurd may
  between pools names old before next Reads carried has carries may = absurd may
  between pools names old before next Stages carried has carries may = absurd may
  between pools names old before next Removes carried has carries may = absurd may
  between pools names old before next Commits (Ok c) has carries may =
      (moved_kept old.durable before may.0 has, next_kept pools names old.durable c.after.durable next may.1 (carries c refl))
  between pools names old before next Commits (Err rule) has carries may = absurd may
  between pools names old before next ReadsAndCommits (Ok c) has carries may =
      (moved_kept old.durable before may.0 has, next_kept pools names old.durable c.after.durable next may.1 (carries c refl))
  between pools names old before next ReadsAndCommits (Err rule) has carries may = absurd may
  between pools names old before next Reopens carried has carries may = (moved_kept old.durable before may.0 has, step may.1)
    where
      step : (next ≡ old.durable) ⊎ (next ≡ raised old.durable) → OfKept next
      step (inl e) = moved_kept old.durable next e has
      step (inr e) = moved_kept (raised old.durable) next e (later_kept old.durable has)

  spent_reply : (old : Office) (names : Names) (meaning : Meaning) (reply : Reply) (new : State) → OfOffice old → OfOffice (meaning.faulted old)
      → ((c : Carried) → meaning.carried old names ≡ Ok c → OfOffice c.after) → IsReply old names meaning reply new → SpentIn new session token
  spent_reply old names meaning (Ok answer) (Running new n) has fault carries is =
      let w = made_as meaning.pools names old (meaning.carried old names) answer new is in carries (given_as answer (with_ids new w.0)) w.1
  spent_reply old names meaning (Ok answer) (Halted before next n) has fault carries is = absurd is
  spent_reply old names meaning (Err (Broken rule)) (Running new n) has fault carries is = moved old new is.1 has
  spent_reply old names meaning (Err (Broken rule)) (Halted before next n) has fault carries is = absurd is
  spent_reply old names meaning (Err HaltedReply) new has fault carries is = absurd is
  spent_reply old names meaning (Err DiskFault) (Running new n) has fault carries is = moved (meaning.faulted old) new is.2 fault
  spent_reply old names meaning (Err DiskFault) (Halted before next n) has fault carries is =
      between meaning.pools names old before next (meaning.touches old names) (meaning.carried old names) has.past (λ c e. (carries c e).past) is
  spent_reply old names meaning (Err (Damaged file bytes)) (Running new n) has fault carries is = moved old new is.2 has
  spent_reply old names meaning (Err (Damaged file bytes)) (Halted before next n) has fault carries is =
      between meaning.pools names old before next Reopens (meaning.carried old names) has.past (λ c e. (carries c e).past) is.1
  spent_reply old names meaning (Err Memory) (Running new n) has fault carries is = moved old new is has
  spent_reply old names meaning (Err Memory) (Halted before next n) has fault carries is = absurd is

  carried_spent : (event : Event) (office : Office) (names : Names) (c : Carried) → OfOffice office
      → (meaning_of event).carried office names ≡ Ok c → OfOffice c.after
  carried_spent Reopen office names c has e = reopened_spent office.durable c session token has.past e
  carried_spent event office names c has e = spent_follows office c.after session token (follows event office names c refl e) has

  -- ---- a halted office

  picked_kept : (before next picked : Durable) → OfKept before → OfKept next → IsPicked before next picked → OfKept picked
  picked_kept before next picked a b (inl e) = moved_kept before picked e a
  picked_kept before next picked a b (inr e) = moved_kept next picked e b

  left_kept : (before next before' next' : Durable) → OfKept before → OfKept next → IsLeft before next before' next' → OfKept before' × OfKept next'
  left_kept before next before' next' a b (inl e) = (moved_kept before before' e.0 a, moved_kept next next' e.1 b)
  left_kept before next before' next' a b (inr e) =
      let has : OfKept before' = picked_kept before next before' a b e.0 in (has, moved_kept (raised before') next' e.1 (later_kept before' has))

  halted_reopen : (before next : Durable) (reply : Reply) (new : State) → OfKept before → OfKept next → IsHaltedReopen before next reply new
      → SpentIn new session token
  halted_reopen before next (Ok answer) (Running new n) a b is = reopened_spent is.0 (given_as answer new) session token (picked_kept before next is.0 a b is.1) is.2
  halted_reopen before next (Ok answer) (Halted before' next' n) a b is = absurd is
  halted_reopen before next (Err (Broken rule)) (Running new n) a b is = absurd is
  halted_reopen before next (Err (Broken rule)) (Halted before' next' n) a b is = (moved_kept before before' is.1 a, moved_kept next next' is.2 b)
  halted_reopen before next (Err HaltedReply) new a b is = absurd is
  halted_reopen before next (Err DiskFault) (Running new n) a b is = absurd is
  halted_reopen before next (Err DiskFault) (Halted before' next' n) a b is = left_kept before next before' next' a b is
  halted_reopen before next (Err (Damaged file bytes)) (Running new n) a b is = absurd is
  halted_reopen before next (Err (Damaged file bytes)) (Halted before' next' n) a b is = left_kept before next before' next' a b is
  halted_reopen before next (Err Memory) (Running new n) a b is = absurd is
  halted_reopen before next (Err Memory) (Halted before' next' n) a b is = (moved_kept before before' is.0 a, moved_kept next next' is.1 b)

  halted_stay : (before next : Durable) (reply : Reply) (new : State) → OfKept before → OfKept next → IsStay before next reply new → SpentIn new session token
  halted_stay before next reply (Running new n) a b is = absurd is
  halted_stay before next reply (Halted before' next' n) a b is = (moved_kept before before' is.1 a, moved_kept next next' is.2 b)

  halted_spent : (before next : Durable) (change : NameChange) (reply : Reply) (new : State) → OfKept before → OfKept next
      → IsHaltedReply before next change reply new → SpentIn new session token
  halted_spent before next Renews reply new a b is = halted_reopen before next reply new a b is
  halted_spent before next change reply new a b is = halted_stay before next reply new a b is

  spent_step : (state : State) (event : Event) (reply : Reply) (new : State) → IsStep state event reply new → SpentIn state session token
      → SpentIn new session token
  spent_step (Running old names) event reply new step has =
      let w = faulted_is event old in
      spent_reply old names (meaning_of event) reply new has (subst OfOffice (sym w.1) has) (λ c e. carried_spent event old names c has e) step.0
  spent_step (Halted before next names) event reply new step has = halted_spent before next (meaning_of event).renames reply new has.0 has.1 step.0

  -- ---- the second Ok

  edit_same : (event : Event) (office : Office) (names : Names) (c : Carried) → IsEdit event session token
      → (meaning_of event).carried office names ≡ Ok c → OfOffice office → c.after.dumps ≡ office.dumps
  edit_same (Put dump path item (Some own)) office names c edit e has =
      again_same own dump office (events.Put.repeated dump item office) (events.Put.put dump path item office names) c session token edit.0 edit.1 has (put_left dump item office) e
  edit_same (Remove dump path (Some own)) office names c edit e has =
      again_same own dump office office (events.Remove.removed dump path office) c session token edit.0 edit.1 has refl e
  edit_same event office names c edit e has = absurd edit

  pub not_renewing : (change : NameChange) (before next : Durable) (reply : Reply) (new : State) → (change ≡ Renews → ⊥)
      → IsHaltedReply before next change reply new → IsStay before next reply new
  not_renewing Renews before next reply new other is = absurd (other refl)
  not_renewing change before next reply new other is = is

  no_content_renews : (held : Option (List ℕ)) → name_change held ≡ Renews → ⊥
  no_content_renews None e = cc
  no_content_renews (Some content) e = cc

  pub edit_renames : (event : Event) → IsEdit event session token → (meaning_of event).renames ≡ Renews → ⊥
  edit_renames (Put dump path (Whole item) own) edit e = no_content_renews (content_of item) e
  edit_renames (Put dump path (Staged file) own) edit e = cc
  edit_renames (Remove dump path own) edit e = cc
  edit_renames event edit e = absurd edit

  pub stay_fails : (before next : Durable) (reply : Reply) (new : State) (answer : Answer) → reply ≡ Ok answer → IsStay before next reply new → ⊥
  stay_fails before next reply (Running new n) answer ok is = is
  stay_fails before next reply (Halted before' next' n) answer ok is = let e = is.0 in cc

  second_same : (state : State) (event : Event) (reply : Reply) (new : State) (answer : Answer) → IsEdit event session token → reply ≡ Ok answer
      → IsStep state event reply new → SpentIn state session token → SameDumps state new
  second_same (Running old names) event (Ok given) (Running new n) answer edit ok step has =
      let w = made_as (meaning_of event).pools names old ((meaning_of event).carried old names) given new step.0 in
      edit_same event old names (given_as given (with_ids new w.0)) edit w.1 has
  second_same (Running old names) event (Ok given) (Halted before next n) answer edit ok step has = absurd step.0
  second_same (Running old names) event (Err refusal) new answer edit ok step has = absurd (cc)
  second_same (Halted before next names) event reply new answer edit ok step has =
      absurd (stay_fails before next reply new answer ok
      (not_renewing (meaning_of event).renames before next reply new (λ e. edit_renames event edit e) step.0))

  -- behind a state in which the dump, if it is open, keeps the token, an Ok with it changes no dump
  pub alone : (state : State) (faults : ℕ) (entries : List Entry) (second : Entry) (answer : Answer) → SpentIn state session token
      → IsHistory state faults (entries ++ second ∷ []) → IsEdit second.event session token → second.reply ≡ Ok answer
      → SameDumps (last_state state entries) second.state
  alone state faults [] second answer has legal edit ok = second_same state second.event second.reply second.state answer edit ok legal.0.step has
  alone state faults (entry ∷ entries) second answer has legal edit ok =
      alone entry.state entry.faults entries second answer (spent_step state entry.event entry.reply entry.state legal.0.step has) legal.1 edit ok
