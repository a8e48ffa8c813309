-- What an event leaves of hosts with their backups, and of restores.
use Rattle.std.specs.Prelude.{◌≡◌, ◌≤◌, ◌&&◌, ℕ, Bool, true, false, not, List, [], ◌∷◌, ◌++◌, length, Option, Some, None, Ok, nat_le, nat_lt, is_none, is_some, slice_get, slice_set, if◌then◌else◌, ◌⊎◌}
use Rattle.std.specs.List.{remove}
use Rattle.std.proofs.Common.{refl, sym, ap, ◌∙◌, subst, inl, inr, arith}
use Rattle.std.proofs.lemmas.Bool.{leb-true}
use Rattle.attr_records.specs.Items.{Tree, content_of, is_large}
use Rattle.backup_rules.specs.Fill.{stays_filled}
use Rattle.backup_rules.specs.Values.{RuleSet, RuleChanges}
use Rattle.backup_rules.specs.declared.lines.Kind.{Kind}
use Rattle.backup_rules.specs.declared.lines.Line.{Line}
use Rattle.receipts.specs.declared.session.SessionName.{SessionName}
use Rattle.receipts.specs.declared.session.Token.{Token}
use Rattle.office_model.specs.declared.answer.Answer.{Answer}
use Rattle.office_model.specs.declared.answer.Answer.TheVariants.{Done}
use Rattle.office_model.specs.declared.event.Event.{Event}
use Rattle.office_model.specs.declared.event.Event.TheVariants.{AddHost, SetRules, OpenDump, Put, Remove, StageOpen, StagePiece, StageDrop, Commit, Adopt, Abort, Park, Resume, DropPartial, PartialInfo, List as ListEvent, Lookup, ReadFile, OpenFile, ReadPart, CloseFile, OpenRead, ReadNext, CloseRead, Keep, Delete, Expire, Migrate, Contact, Due, Clean, Sweep, Stats, Hosts, Backups, PoolList, PoolPiece, Reopen}
use Rattle.office_model.specs.declared.event.PutItem.{PutItem}
use Rattle.office_model.specs.declared.event.PutItem.TheVariants.{Whole, Staged}
use Rattle.office_model.specs.declared.refusal.BrokenRule.TheVariants.{BadBucket, NumbersSpent, NoSession, NoContent, NumberBehind, TokensFull}
use Rattle.office_model.specs.Places.{place_before}
use Rattle.office_model.specs.PlacesLaws.{in_longer, slice_get-remove, slice_get-longer}
use Rattle.office_model.specs.Pool.{with_tree}
use Rattle.office_model.specs.Ids.{content_at}
use Rattle.office_model.specs.Office.{Office, Host, Backup, Dump, Restore, Names, host_index, host_limit, number_limit, stage_content, last_sequence, piece_limit, token_limit}
use Rattle.office_model.specs.Meaning.{Carried, Judged, found}
use Rattle.office_model.specs.Parts.{At, host_at, backup_at, backup_of, dump_at, restore_at, with_last, filled_as}
use Rattle.office_model.specs.Repeats.{again, keeps, keeping, once}
use Rattle.office_model.specs.Step.{meaning_of}
use Rattle.office_model.specs.events
use Rattle.office_model.specs.events.PartialInfo.{partial_at}
use Rattle.office_model.specs.events.OpenDump.{next_session}
use Rattle.office_model.specs.events.Park.{with_partial, partial_of}
use Rattle.office_model.specs.events.Put.{is_chain_full}
use Rattle.office_model.specs.laws.Judging.{bound, passed, at_is, found_is}
use Rattle.office_model.specs.laws.Lawful.{judged}
use Rattle.office_model.specs.laws.BackupLaws.{with_last-at}
use Rattle.office_model.specs.laws.DurableLaws.{set_finds, kept_key}
use Rattle.office_model.specs.laws.ExpireLaws.{unflagged_at}
use Rattle.office_model.specs.laws.RepeatLaws.{given_as, again_is}
use Rattle.restore_histories.specs.Listed.{shown_of}

-- ---- hosts

-- a backup is one of before, but for its flags
pub record WasThere (old : List Backup) (backup : Backup) : Type 0 where
  pub place : ℕ
  pub was : Backup
  pub is_was : slice_get old place ≡ Some was
  pub same : shown_of backup ≡ shown_of was

-- a host has its name, its next number is no lower, and each of its backups is one of before, or has a number that was not given then
pub record HostFollows (old new : Host) : Type 0 where
  pub name : new.name ≡ old.name
  pub next : old.next ≤ new.next
  pub backups : (i : ℕ) (backup : Backup) → slice_get new.backups i ≡ Some backup
      → WasThere old.backups backup ⊎ (old.next ≤ backup.line.number)

-- what became of the host at a place
pub record HostAt (hosts : List Host) (i : ℕ) (old : Host) : Type 0 where
  pub host : Host
  pub is_host : slice_get hosts i ≡ Some host
  pub follows : HostFollows old host

abbrev pub FollowHosts : List Host → List Host → Type 0
FollowHosts old new = (i : ℕ) (host : Host) → slice_get old i ≡ Some host → HostAt new i host

no_less : (n : ℕ) → n ≤ n
no_less n = omega arith

same_backup : (old : List Backup) (i : ℕ) (backup : Backup) → slice_get old i ≡ Some backup → WasThere old backup
same_backup old i backup at = record { place = i; was = backup; is_was = at; same = refl }

-- a host that keeps its next number and its backups
host_alike : (old new : Host) → new.name ≡ old.name → new.next ≡ old.next → new.backups ≡ old.backups → HostFollows old new
host_alike old new name next backups = record {
  name = name;
  next = subst (λ (n : ℕ). old.next ≤ n) (sym next) (no_less old.next);
  backups = λ i backup at. inl (same_backup old.backups i backup (ap (λ (bs : List Backup). slice_get bs i) (sym backups) ∙ at));
}

host_same : (hosts : List Host) (i : ℕ) (host : Host) → slice_get hosts i ≡ Some host → HostAt hosts i host
host_same hosts i host at = record { host = host; is_host = at; follows = host_alike host host refl refl refl }

follow_same : (hosts : List Host) → FollowHosts hosts hosts
follow_same hosts i host at = host_same hosts i host at

follow_longer : (hosts : List Host) (new : Host) → FollowHosts hosts (hosts ++ new ∷ [])
follow_longer hosts new i host at = host_same (hosts ++ new ∷ []) i host (slice_get-longer hosts new i host at)

follow_set : (hosts : List Host) (p : ℕ) (old new : Host) → slice_get hosts p ≡ Some old → HostFollows old new
    → FollowHosts hosts (slice_set hosts p new)
follow_set hosts p old new was follows i host at = step (set_finds hosts p i new host at)
  where
    step : (slice_get (slice_set hosts p new) i ≡ Some host) ⊎ ((i ≡ p) × (slice_get (slice_set hosts p new) i ≡ Some new))
        → HostAt (slice_set hosts p new) i host
    step (inl f) = host_same (slice_set hosts p new) i host f
    step (inr f) =
        let same : old ≡ host = let g = ap (slice_get hosts) f.0 in cc in
        record { host = new; is_host = f.1; follows = subst (λ (h : Host). HostFollows h new) same follows }

-- ---- restores

-- each restore is one of before, or has the name that was next
abbrev pub FollowRestores : SessionName → List Restore → List Restore → Type 0
FollowRestores next old new = (i : ℕ) (restore : Restore) → slice_get new i ≡ Some restore
    → ((place : ℕ) × (slice_get old place ≡ Some restore)) ⊎ (restore.name ≡ next)

restores_same : (next : SessionName) (restores : List Restore) → FollowRestores next restores restores
restores_same next restores i restore at = inl (i, at)

restores_longer : (next : SessionName) (restores : List Restore) (new : Restore) → new.name ≡ next
    → FollowRestores next restores (restores ++ new ∷ [])
restores_longer next restores new name i restore at = step (in_longer restores new i restore at)
  where
    step : (slice_get restores i ≡ Some restore) ⊎ ((i ≡ length restores) × (restore ≡ new))
        → ((place : ℕ) × (slice_get restores place ≡ Some restore)) ⊎ (restore.name ≡ next)
    step (inl f) = inl (i, f)
    step (inr f) = inr (ap (λ (r : Restore). r.name) f.1 ∙ name)

restores_removed : (next : SessionName) (restores : List Restore) (p : ℕ) → FollowRestores next restores (remove restores p)
restores_removed next restores p i restore at = inl (place_before p i, sym (slice_get-remove restores p i) ∙ at)

-- ---- events

-- what an event leaves of both
pub record Leaves (old new : Office) : Type 0 where
  pub hosts : FollowHosts old.hosts new.hosts
  pub restores : FollowRestores (next_session old) old.restores new.restores

-- what was made is what was carried out
leaves_as : (old : Office) (made c : Carried) → judged made ≡ judged c → Leaves old made.after → Leaves old c.after
leaves_as old made c e f = let same : made ≡ c = cc in subst (λ (x : Carried). Leaves old x.after) same f

-- an event that leaves restores
hosts_change : (old : Office) (made c : Carried) → judged made ≡ judged c → FollowHosts old.hosts made.after.hosts
    → made.after.restores ≡ old.restores → Leaves old c.after
hosts_change old made c e hosts restores = leaves_as old made c e (record {
  hosts = hosts;
  restores = subst (FollowRestores (next_session old) old.restores) (sym restores) (restores_same (next_session old) old.restores);
})

-- an event that leaves both
alike : (old : Office) (made c : Carried) → judged made ≡ judged c → made.after.hosts ≡ old.hosts → made.after.restores ≡ old.restores
    → Leaves old c.after
alike old made c e hosts restores = hosts_change old made c e (subst (FollowHosts old.hosts) (sym hosts) (follow_same old.hosts)) restores

-- an event that leaves hosts
restores_change : (old : Office) (made c : Carried) → judged made ≡ judged c → made.after.hosts ≡ old.hosts
    → FollowRestores (next_session old) old.restores made.after.restores → Leaves old c.after
restores_change old made c e hosts restores = leaves_as old made c e (record {
  hosts = subst (FollowHosts old.hosts) (sym hosts) (follow_same old.hosts);
  restores = restores;
})

itself : (office : Office) → Leaves office office
itself office = record { hosts = follow_same office.hosts; restores = restores_same (next_session office) office.restores }

-- hosts that were made are those that were given
follow_made : {A : Type 0} (hosts_of : A → List Host) (old : List Host) (made given : A) → judged made ≡ judged given
    → FollowHosts old (hosts_of made) → FollowHosts old (hosts_of given)
follow_made hosts_of old made given e follow = let same : made ≡ given = cc in subst (λ x. FollowHosts old (hosts_of x)) same follow

-- a host of this name that changes
host_changes : {A : Type 0} (hosts_of : A → List Host) (name : List ℕ) (hosts : List Host) (a : At Host) (new : Host) (made given : A)
    → host_at hosts name ≡ Ok a → hosts_of made ≡ slice_set hosts a.index new → judged made ≡ judged given → HostFollows a.value new
    → FollowHosts hosts (hosts_of given)
host_changes hosts_of name hosts a new made given found is e follows =
    follow_made hosts_of hosts made given e
    (subst (FollowHosts hosts) (sym is) (follow_set hosts a.index a.value new (at_is _ hosts _ a found).1 follows))

-- ---- hosts and backups that change

add_follows : (name : List ℕ) (rules : RuleSet) (hosts added : List Host) → events.AddHost.with_host name rules hosts ≡ Ok added
    → FollowHosts hosts added
add_follows name rules hosts added e =
    let a : (is_some (host_index hosts name) ≡ false) × (_ ≡ Ok added) = passed _ _ _ _ e in
    let b : (nat_le host_limit (length hosts) ≡ false) × (Ok (hosts ++ events.AddHost.new_host name rules ∷ []) ≡ Ok added) = passed _ _ _ _ a.1 in
    follow_made (λ (hs : List Host). hs) hosts (hosts ++ events.AddHost.new_host name rules ∷ []) added b.1
    (follow_longer hosts (events.AddHost.new_host name rules))

rules_follow : (name : List ℕ) (change : RuleChanges) (hosts changed : List Host) → events.SetRules.with_rules name change hosts ≡ Ok changed
    → FollowHosts hosts changed
rules_follow name change hosts changed e =
    let a = bound (host_at hosts name) _ changed e in
    host_changes (λ (hs : List Host). hs) name hosts a.0 (events.SetRules.with_change a.0.value change) _ changed a.1 refl a.2
    (host_alike a.0.value (events.SetRules.with_change a.0.value change) refl refl refl)

drop_follows : (name : List ℕ) (hosts changed : List Host) → events.DropPartial.without_partial name hosts ≡ Ok changed
    → FollowHosts hosts changed
drop_follows name hosts changed e =
    let a = bound (host_at hosts name) _ changed e in
    let b : (is_none a.0.value.partial ≡ false) × (Ok (slice_set hosts a.0.index (with_partial a.0.value None)) ≡ Ok changed) = passed _ _ _ _ a.2 in
    host_changes (λ (hs : List Host). hs) name hosts a.0 (with_partial a.0.value None) _ changed a.1 refl b.1
    (host_alike a.0.value (with_partial a.0.value None) refl refl refl)

contact_alike : (host : Host) (good : Bool) → HostFollows host (events.Contact.with_contact host good)
contact_alike host true = host_alike host (events.Contact.with_contact host true) refl refl refl
contact_alike host false = host_alike host (events.Contact.with_contact host false) refl refl refl

contact_follows : (name : List ℕ) (good : Bool) (hosts : List Host) (made : events.Contact.Contacted)
    → events.Contact.contacted name good hosts ≡ Ok made → FollowHosts hosts made.hosts
contact_follows name good hosts made e =
    let a = bound (host_at hosts name) _ made e in
    host_changes (λ (x : events.Contact.Contacted). x.hosts) name hosts a.0 (events.Contact.with_contact a.0.value good) _ made a.1 refl a.2
    (contact_alike a.0.value good)

park_follows : (office : Office) (session : SessionName) (parts : events.Park.Parking)
    → events.Park.parked session office.hosts office.pool office.dumps ≡ Ok parts → FollowHosts office.hosts parts.hosts
park_follows office session parts e =
    let a = bound (dump_at office.dumps session) _ parts e in
    let b = bound (found NoSession (slice_get office.hosts a.0.value.host)) _ parts a.2 in
    let new : Host = with_partial b.0 (Some (partial_of a.0.value)) in
    follow_made (λ (x : events.Park.Parking). x.hosts) office.hosts _ parts b.2
    (follow_set office.hosts a.0.value.host b.0 new (found_is _ _ _ b.1) (host_alike b.0 new refl refl refl))

-- the flag of one backup
kept_follows : (host : Host) (p : ℕ) (backup : Backup) (on : Bool) → slice_get host.backups p ≡ Some backup
    → HostFollows host (events.Keep.with_backup host p (events.Keep.kept_as on backup))
kept_follows host p backup on was = record {
  name = refl;
  next = no_less host.next;
  backups = λ i b at.
      let w = kept_key shown_of host.backups p i backup (events.Keep.kept_as on backup) b was refl at in
      inl (record { place = i; was = w.0; is_was = w.1; same = w.2 });
}

keep_follows : (name : List ℕ) (number : ℕ) (on : Bool) (hosts changed : List Host) → events.Keep.with_kept name number on hosts ≡ Ok changed
    → FollowHosts hosts changed
keep_follows name number on hosts changed e =
    let a = bound (host_at hosts name) _ changed e in
    let b = bound (backup_at a.0.value number) _ changed a.2 in
    host_changes (λ (hs : List Host). hs) name hosts a.0 (events.Keep.with_backup a.0.value b.0.index (events.Keep.kept_as on b.0.value)) _ changed a.1 refl b.2
    (kept_follows a.0.value b.0.index b.0.value on (at_is _ a.0.value.backups _ b.0 b.1).1)

-- one leaves
without_follows : (host : Host) (p : ℕ) → HostFollows host (events.Delete.without_backup host p)
without_follows host p = record {
  name = refl;
  next = no_less host.next;
  backups = λ i b at.
      let w = with_last-at shown_of (filled_as true) (λ last. refl) (remove host.backups p) i b at in
      inl (record { place = place_before p i; was = w.0; is_was = sym (slice_get-remove host.backups p i) ∙ w.1; same = w.2 });
}

delete_follows : (name : List ℕ) (number : ℕ) (hosts changed : List Host) → events.Delete.without name number hosts ≡ Ok changed
    → FollowHosts hosts changed
delete_follows name number hosts changed e =
    let a = bound (host_at hosts name) _ changed e in
    let b = bound (events.Delete.deletable a.0.value number) _ changed a.2 in
    host_changes (λ (hs : List Host). hs) name hosts a.0 (events.Delete.without_backup a.0.value b.0) _ changed a.1 refl b.2
    (without_follows a.0.value b.0)

-- those that the rules name leave
unnamed_follows : (now : ℕ) (host : Host) → HostFollows host (events.Expire.without_named now host)
unnamed_follows now host = record {
  name = refl;
  next = no_less host.next;
  backups = λ i b at.
      let w = unflagged_at (events.Expire.named_of now host) host.backups i b at in inl (same_backup host.backups w.0 b w.1);
}

expire_follows : (name : List ℕ) (now : ℕ) (hosts : List Host) (made : events.Expire.Expiring) → events.Expire.expired name now hosts ≡ Ok made
    → FollowHosts hosts made.hosts
expire_follows name now hosts made e =
    let a = bound (host_at hosts name) _ made e in
    host_changes (λ (x : events.Expire.Expiring). x.hosts) name hosts a.0 (events.Expire.without_named now a.0.value) _ made a.1 refl a.2
    (unnamed_follows now a.0.value)

-- ---- commits

-- a number that the host has not given
abbrev EndsAbove : events.Commit.Ending → Type 0
EndsAbove ending = (host : Host) (dump : Dump) (line : Line) → ending host dump ≡ Ok line → host.next ≤ line.number

at_time_above : (now : ℕ) → EndsAbove (events.Commit.at_time now)
at_time_above now host dump line e =
    let same : events.Commit.new_line host dump now ≡ line = cc in subst (λ (l : Line). host.next ≤ l.number) same (no_less host.next)

as_there_above : (there : Line) → EndsAbove (events.Adopt.as_there there)
as_there_above there host dump line e =
    let a = passed NumberBehind (not (events.Adopt.is_free host.next there.number)) (Ok there) line e in
    let same : there ≡ line = let f = a.1 in cc in
    subst (λ (l : Line). host.next ≤ l.number) same (free (nat_le host.next there.number) (nat_lt there.number number_limit) refl a.0)
  where
    free : (a b : Bool) → nat_le host.next there.number ≡ a → not (a && b) ≡ false → host.next ≤ there.number
    free true b e g = leb-true host.next there.number e
    free false b e g = absurd (cc)

-- the backups of a host that a commit finds, the last of them filled as the rules say
abbrev older_of : Host → List Backup
older_of host = with_last (λ last. filled_as (stays_filled host.rules last.line) last) host.backups

commit_follows : (host : Host) (dump : Dump) (line : Line) → host.next ≤ line.number → HostFollows host (events.Commit.with_commit host dump line)
commit_follows host dump line free = record {
  name = refl;
  next = omega arith;
  backups = λ i b at. step i b (in_longer (older_of host) (events.Commit.new_backup dump line) i b at);
}
  where
    step : (i : ℕ) (b : Backup) → (slice_get (older_of host) i ≡ Some b) ⊎ ((i ≡ length (older_of host)) × (b ≡ events.Commit.new_backup dump line))
        → WasThere host.backups b ⊎ (host.next ≤ b.line.number)
    step i b (inl f) =
        let w = with_last-at shown_of (λ last. filled_as (stays_filled host.rules last.line) last) (λ last. refl) host.backups i b f in
        inl (record { place = i; was = w.0; is_was = w.1; same = w.2 })
    step i b (inr f) = inr (subst (λ (x : Backup). host.next ≤ x.line.number) (sym f.1) free)

ended_leaves : (session : SessionName) (ending : events.Commit.Ending) (office : Office) (c : Carried) → EndsAbove ending
    → events.Commit.ended session ending office ≡ Ok c → Leaves office c.after
ended_leaves session ending office c above e =
    let a = bound (events.Commit.committed session ending office.hosts office.pool office.dumps) _ c e in
    let b = bound (dump_at office.dumps session) _ a.0 a.1 in
    let d = bound (found NoSession (slice_get office.hosts b.0.value.host)) _ a.0 b.2 in
    let l = bound (ending d.0 b.0.value) _ a.0 d.2 in
    let new : Host = events.Commit.with_commit d.0 b.0.value l.0 in
    let made : events.Commit.Committing = record {
      number = l.0.number;
      hosts = slice_set office.hosts b.0.value.host new;
      pool = with_tree office.pool b.0.value.tree;
      dumps = remove office.dumps b.0.index;
    } in
    hosts_change office _ c a.2
    (follow_made (λ (x : events.Commit.Committing). x.hosts) office.hosts made a.0 l.2
    (follow_set office.hosts b.0.value.host d.0 new (found_is _ _ _ d.1)
    (commit_follows d.0 b.0.value l.0 (above d.0 b.0.value l.0 l.1)))) refl

-- ---- requests that repeat another

again_leaves : (office left : Office) (given : Option Answer) (rest : Judged Carried) (c : Carried) → Leaves office left
    → (rest ≡ Ok c → Leaves office c.after) → again left given rest ≡ Ok c → Leaves office c.after
again_leaves office left given rest c was leaves e = step (again_is left given rest c e)
  where
    step : ((answer : Answer) × (given ≡ Some answer) × (judged (given_as answer left) ≡ judged c)) ⊎ ((given ≡ None) × (rest ≡ Ok c))
        → Leaves office c.after
    step (inl f) = leaves_as office (given_as f.0 left) c f.2 was
    step (inr f) = leaves f.1

once_leaves : (session : SessionName) (token : Option Token) (office left : Office) (rest : Judged Carried) (c : Carried) → Leaves office left
    → ((made : Carried) → rest ≡ Ok made → Leaves office made.after) → once session token office.dumps left rest ≡ Ok c → Leaves office c.after
once_leaves session None office left rest c was leaves e = leaves c e
once_leaves session (Some token) office left rest c was leaves e =
    let a = bound (dump_at office.dumps session) _ c e in
    again_leaves office left (if keeps token a.0.value then Some Done else None) (keeping a.0 token rest) c was (kept a.0) a.2
  where
    kept : (dump : At Dump) → keeping dump token rest ≡ Ok c → Leaves office c.after
    kept dump f =
        let a = passed TokensFull (nat_le token_limit (length dump.value.kept)) _ c f in
        let b = bound rest _ c a.1 in
        let first : Leaves office b.0.after = leaves b.0 b.1 in
        leaves_as office _ c b.2 (record { hosts = first.hosts; restores = first.restores })

put_leaves : (session : SessionName) (path : List ℕ) (item : PutItem) (office : Office) (names : Names) (c : Carried)
    → events.Put.put session path item office names ≡ Ok c → Leaves office c.after
put_leaves session path (Whole item) office names c e =
    let a = bound (events.Put.with_put is_large session path item (is_chain_full office.pool office.dumps names (content_of item)) office.dumps) _ c e in
    alike office _ c a.2 refl refl
put_leaves session path (Staged file) office names c e =
    let a = bound (events.Put.with_staged session path file (is_chain_full office.pool office.dumps names (stage_content office.stages file.stage)) office.dumps office.stages) _ c e in
    alike office _ c a.2 refl refl

repeat_leaves : (session : SessionName) (item : PutItem) (office : Office) → Leaves office (events.Put.repeated session item office)
repeat_leaves session (Whole item) office = itself office
repeat_leaves session (Staged file) office = record { hosts = follow_same office.hosts; restores = restores_same (next_session office) office.restores }

remove_leaves : (session : SessionName) (path : List ℕ) (office : Office) (c : Carried) → events.Remove.removed session path office ≡ Ok c
    → Leaves office c.after
remove_leaves session path office c e =
    let a = bound (events.Remove.without_path session path office.dumps) _ c e in alike office _ c a.2 refl refl

opened_leaves : (name : List ℕ) (kind : Kind) (now : ℕ) (token : Option Token) (office : Office) (c : Carried)
    → events.OpenDump.opened name kind now token office ≡ Ok c → Leaves office c.after
opened_leaves name kind now token office c e =
    let a = bound (events.OpenDump.with_dump name kind now token (next_session office) office.hosts office.dumps) _ c e in
    alike office _ c a.2 refl refl

open_leaves : (name : List ℕ) (kind : Kind) (now : ℕ) (token : Option Token) (office : Office) (c : Carried)
    → events.OpenDump.carried name kind now token office ≡ Ok c → Leaves office c.after
open_leaves name kind now None office c e = opened_leaves name kind now None office c e
open_leaves name kind now (Some token) office c e =
    let a = bound (host_at office.hosts name) _ c e in
    again_leaves office office (events.OpenDump.repeated token a.0 office.dumps) (events.OpenDump.opened name kind now (Some token) office) c
    (itself office) (opened_leaves name kind now (Some token) office c) a.2

ending_leaves : (session : SessionName) (ending : events.Commit.Ending) (office : Office) (c : Carried) → EndsAbove ending
    → events.Commit.carried session ending office ≡ Ok c → Leaves office c.after
ending_leaves session ending office c above e =
    again_leaves office office (events.Commit.repeated session office.hosts office.dumps) (events.Commit.ended session ending office) c
    (itself office) (ended_leaves session ending office c above) e

-- ---- restores that change

-- a restore that an OpenRead opened
pub record IsOpened (office : Office) (name : List ℕ) (number : ℕ) (base : Option ℕ) (restores : List Restore) : Type 0 where
  pub backup : Backup
  pub is_backup : backup_of office.hosts name number ≡ Ok backup
  pub base_tree : Option Tree
  pub is_base : events.OpenRead.base_of office.hosts name base ≡ Ok base_tree
  pub restores_are : office.restores ++ events.OpenRead.new_restore (next_session office) backup.tree base_tree ∷ [] ≡ restores

pub read_opened : (office : Office) (name : List ℕ) (number : ℕ) (base : Option ℕ) (restores : List Restore)
    → events.OpenRead.with_restore name number base (next_session office) office.hosts office.restores ≡ Ok restores
    → IsOpened office name number base restores
read_opened office name number base restores e =
    let a = bound (backup_of office.hosts name number) _ restores e in
    let b = bound (events.OpenRead.base_of office.hosts name base) _ restores a.2 in
    let new : Restore = events.OpenRead.new_restore (next_session office) a.0.tree b.0 in
    let c : (nat_le last_sequence office.sequence ≡ false) × (Ok (office.restores ++ new ∷ []) ≡ Ok restores) = passed _ _ _ _ b.2 in
    let same : office.restores ++ new ∷ [] ≡ restores = let f = c.1 in cc in
    record { backup = a.0; is_backup = a.1; base_tree = b.0; is_base = b.1; restores_are = same }

close_follows : (next : SessionName) (session : SessionName) (old restores : List Restore)
    → events.CloseRead.without_restore session old ≡ Ok restores → FollowRestores next old restores
close_follows next session old restores e =
    let a = bound (restore_at old session) _ restores e in
    let same : remove old a.0.index ≡ restores = let f = a.2 in cc in
    subst (FollowRestores next old) same (restores_removed next old a.0.index)

-- ---- all events but two

-- whether it is a Reopen, or a ReadNext
abbrev pub is_apart : Event → Bool
is_apart Reopen = true
is_apart (ReadNext session) = true
is_apart event = false

pub leaves : (event : Event) (office : Office) (names : Names) (c : Carried) → is_apart event ≡ false
    → (meaning_of event).carried office names ≡ Ok c → Leaves office c.after
leaves (AddHost name rules) office names c apart e =
    let a = bound (events.AddHost.with_host name rules office.hosts) _ c e in hosts_change office _ c a.2 (add_follows name rules office.hosts a.0 a.1) refl
leaves (SetRules name change) office names c apart e =
    let a = bound (events.SetRules.with_rules name change office.hosts) _ c e in hosts_change office _ c a.2 (rules_follow name change office.hosts a.0 a.1) refl
leaves (OpenDump name kind now token) office names c apart e = open_leaves name kind now token office c e
leaves (Put session path item token) office names c apart e =
    once_leaves session token office (events.Put.repeated session item office) (events.Put.put session path item office names) c
    (repeat_leaves session item office) (λ made is. put_leaves session path item office names made is) e
leaves (Remove session path token) office names c apart e =
    once_leaves session token office office (events.Remove.removed session path office) c (itself office) (λ made is. remove_leaves session path office made is) e
leaves (StageOpen session) office names c apart e =
    let a = bound (events.StageOpen.with_stage session names.next_stage office.dumps office.stages) _ c e in alike office _ c a.2 refl refl
leaves (StagePiece number bytes) office names c apart e =
    let a = bound (events.StagePiece.with_piece number bytes office.stages) _ c e in alike office _ c a.2 refl refl
leaves (StageDrop number) office names c apart e =
    let a = bound (events.StageDrop.without_stage number office.stages) _ c e in alike office _ c a.2 refl refl
leaves (Commit session now) office names c apart e =
    ending_leaves session (events.Commit.at_time now) office c (at_time_above now) e
leaves (Adopt session number start end kind) office names c apart e =
    ending_leaves session (events.Adopt.as_there (events.Adopt.adopted_line number start end kind)) office c
    (as_there_above (events.Adopt.adopted_line number start end kind)) e
leaves (Abort session) office names c apart e =
    let a = bound (events.Abort.without_dump session office.dumps) _ c e in alike office _ c a.2 refl refl
leaves (Park session) office names c apart e =
    let a = bound (events.Park.parked session office.hosts office.pool office.dumps) _ c e in hosts_change office _ c a.2 (park_follows office session a.0 a.1) refl
leaves (Resume name) office names c apart e =
    let a = bound (events.Resume.with_resumed name (next_session office) office.hosts office.dumps) _ c e in alike office _ c a.2 refl refl
leaves (DropPartial name) office names c apart e =
    let a = bound (events.DropPartial.without_partial name office.hosts) _ c e in hosts_change office _ c a.2 (drop_follows name office.hosts a.0 a.1) refl
leaves (PartialInfo name) office names c apart e =
    let a = bound (partial_at name office.hosts) _ c e in alike office _ c a.2 refl refl
leaves (ListEvent name number directory) office names c apart e =
    let a = bound (events.List.entries_of office.hosts name number directory) _ c e in alike office _ c a.2 refl refl
leaves (Lookup name number path) office names c apart e =
    let a = bound (events.Lookup.node_of_path office.hosts name number path) _ c e in alike office _ c a.2 refl refl
leaves (ReadFile name number path) office names c apart e =
    let a = bound (events.ReadFile.read_of office.hosts name number path) _ c e in alike office _ c a.2 refl refl
leaves (OpenFile name number path) office names c apart e =
    let a = bound (events.OpenFile.opening name number path names.next_reader office.hosts office.readers) _ c e in alike office _ c a.2 refl refl
leaves (ReadPart number) office names c apart e =
    let a = bound (events.ReadPart.given piece_limit number office.readers) _ c e in alike office _ c a.2 refl refl
leaves (CloseFile number) office names c apart e =
    let a = bound (events.CloseFile.without_reader number office.readers) _ c e in alike office _ c a.2 refl refl
leaves (OpenRead name number base) office names c apart e =
    let a = bound (events.OpenRead.with_restore name number base (next_session office) office.hosts office.restores) _ c e in
    let opened = read_opened office name number base a.0 a.1 in
    restores_change office _ c a.2 refl
    (subst (FollowRestores (next_session office) office.restores) opened.restores_are
    (restores_longer (next_session office) office.restores (events.OpenRead.new_restore (next_session office) opened.backup.tree opened.base_tree) refl))
leaves (ReadNext session) office names c apart e = absurd (cc)
leaves (CloseRead session) office names c apart e =
    let a = bound (events.CloseRead.without_restore session office.restores) _ c e in
    restores_change office _ c a.2 refl (close_follows (next_session office) session office.restores a.0 a.1)
leaves (Keep name number on) office names c apart e =
    let a = bound (events.Keep.with_kept name number on office.hosts) _ c e in hosts_change office _ c a.2 (keep_follows name number on office.hosts a.0 a.1) refl
leaves (Delete name number) office names c apart e =
    let a = bound (events.Delete.without name number office.hosts) _ c e in hosts_change office _ c a.2 (delete_follows name number office.hosts a.0 a.1) refl
leaves (Expire name now) office names c apart e =
    let a = bound (events.Expire.expired name now office.hosts) _ c e in hosts_change office _ c a.2 (expire_follows name now office.hosts a.0 a.1) refl
leaves (Migrate name) office names c apart e =
    let a = bound (host_at office.hosts name) _ c e in alike office _ c a.2 refl refl
leaves (Contact name good) office names c apart e =
    let a = bound (events.Contact.contacted name good office.hosts) _ c e in hosts_change office _ c a.2 (contact_follows name good office.hosts a.0 a.1) refl
leaves (Due name now local) office names c apart e =
    let a = bound (events.Due.due_dump name now local office.hosts) _ c e in alike office _ c a.2 refl refl
leaves (Clean bucket) office names c apart e =
    let a = passed BadBucket (nat_le 16 bucket) _ c e in alike office _ c a.1 refl refl
leaves Sweep office names c apart e = alike office _ c e refl refl
leaves Stats office names c apart e = alike office _ c e refl refl
leaves Hosts office names c apart e = alike office _ c e refl refl
leaves (Backups name) office names c apart e =
    let a = bound (events.Backups.overview name office.hosts office.dumps) _ c e in alike office _ c a.2 refl refl
leaves (PoolList part) office names c apart e = alike office _ c e refl refl
leaves (PoolPiece id from) office names c apart e =
    let a = bound (found NoContent (content_at office.ids id)) _ c e in alike office _ c a.2 refl refl
leaves Reopen office names c apart e = absurd (cc)

-- ---- hosts, whatever the event

read_hosts : (session : SessionName) (office : Office) (c : Carried) → events.ReadNext.carried session office ≡ Ok c
    → FollowHosts office.hosts c.after.hosts
read_hosts session office c e =
    let a = bound (events.ReadNext.given session office.restores) _ c e in
    follow_made (λ (x : Carried). x.after.hosts) office.hosts _ c a.2 (follow_same office.hosts)

reopen_hosts : (office : Office) (c : Carried) → events.Reopen.carried office.durable ≡ Ok c → FollowHosts office.hosts c.after.hosts
reopen_hosts office c e =
    let a = passed NumbersSpent (nat_le last_sequence office.epoch) _ c e in
    follow_made (λ (x : Carried). x.after.hosts) office.hosts _ c a.1 (follow_same office.hosts)

pub hosts_follow : (event : Event) (office : Office) (names : Names) (c : Carried) → (meaning_of event).carried office names ≡ Ok c
    → FollowHosts office.hosts c.after.hosts
hosts_follow Reopen office names c e = reopen_hosts office c e
hosts_follow (ReadNext session) office names c e = read_hosts session office c e
hosts_follow event office names c e = (leaves event office names c refl e).hosts
