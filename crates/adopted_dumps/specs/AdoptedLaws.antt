-- In each legal history a dump that was opened, filled and adopted is its host's newest backup.
use Rattle.std.specs.Prelude.{◌≡◌, ℕ, List, [], ◌∷◌, ◌++◌, Some, None, Ok, Err, true}
use Rattle.std.specs.Option.{option_map}
use Rattle.std.proofs.Common.{refl, sym, ap, ◌∙◌, subst, inl, inr}
use Rattle.attr_records.specs.Items.{Tree, is_dir}
use Rattle.attr_records.specs.Trees.{IsTree}
use Rattle.backup_rules.specs.declared.lines.Kind.{Kind}
use Rattle.backup_rules.specs.declared.lines.Kind.TheVariants.{Full, Incr}
use Rattle.backup_rules.specs.declared.lines.Line.{Line}
use Rattle.receipts.specs.declared.session.SessionName.{SessionName}
use Rattle.office_model.specs.declared.event.Event.{Event}
use Rattle.office_model.specs.declared.event.Event.TheVariants as E
use Rattle.office_model.specs.declared.answer.Answer.TheVariants as A
use Rattle.office_model.specs.declared.refusal.BrokenRule.TheVariants.{NoBackup}
use Rattle.office_model.specs.declared.refusal.Refusal.TheVariants.{DiskFault, Halted as HaltedReply}
use Rattle.office_model.specs.Pool.{is_pooled}
use Rattle.office_model.specs.Ids.{Ids}
use Rattle.office_model.specs.UsedNames.{AreIdsAfter}
use Rattle.office_model.specs.Office.{Office, Durable, Host, Backup, Names, IsSound, with_ids}
use Rattle.office_model.specs.Meaning.{Carried, Judged, Reply, ReadsAndCommits}
use Rattle.office_model.specs.Parts.{At, host_at, newest}
use Rattle.office_model.specs.Step.{Call, State, Running, Halted, IsSoundState, MayHalt, IsReply, IsStep, meaning_of}
use Rattle.office_model.specs.History.{Leads}
use Rattle.office_model.specs.events.OpenDump as OpenDumpEvent
use Rattle.office_model.specs.laws.HistoryLaws.{IsSoundState-last}
use Rattle.office_model.specs.laws.Judging.{at_is, found_is}
use Rattle.call_scripts.specs.FirstCalls.{answered, none_left}
use Rattle.folder_laws.specs.OfficeLaws.{HasDump, some_is, opened}
use Rattle.restore_histories.specs.Listed.{Shown, shown_as}
use Rattle.adopted_dumps.specs.Adopted.{shows_of, host_named, Gains, tree_of, base_of, IsFilled, adopt_event, adopt_call, IsLaidOpen, MayGain, IsUnchanged, MayGainAny, IsLeftBy, DumpIsAdopted, DumpMayBeAdopted, FaultMayGain}
use Rattle.adopted_dumps.specs.SplitLaws.{split, first_call}
use Rattle.adopted_dumps.specs.PartLaws.{part_keeps, parts_change_nothing}
use Rattle.adopted_dumps.specs.FillLaws.{dump_is_filled}
use Rattle.adopted_dumps.specs.GainLaws.{newest_shown, host_there, adopt_gains, adopts_some}

-- ---- a dump is opened and filled

pub named_at : (hosts : List Host) (name : List ℕ) (a : At Host) → host_at hosts name ≡ Ok a → host_named hosts name ≡ Some a.value
named_at hosts name a e = let at = at_is _ hosts _ a e in host_there hosts name a.index a.value at.0 at.1

pub base_is : (kind : Kind) (backups : List Backup) (base : Tree) → OpenDumpEvent.base_of kind backups ≡ Ok base
    → base ≡ tree_of (base_of kind backups)
base_is Full backups base e = sym (bare base e)
  where
    bare : (base : Tree) → (let none : Judged Tree = Ok [] in none ≡ Ok base) → [] ≡ base
    bare base e = cc
base_is Incr backups base e =
    let is : option_map (λ (backup : Backup). backup.tree) (newest backups) ≡ Some base = found_is NoBackup _ base e in
    sym (ap tree_of is)

-- a dump begins with the tree of what it is laid since
based : (hosts : List Host) (name : List ℕ) (kind : Kind) (found : At Host) (host : Host) (base : Tree) → host_at hosts name ≡ Ok found
    → host_named hosts name ≡ Some host → OpenDumpEvent.base_of kind found.value.backups ≡ Ok base → base ≡ tree_of (base_of kind host.backups)
based hosts name kind found host base at is e =
    let same : found.value ≡ host = some_is found.value host (sym (named_at hosts name found at) ∙ is) in
    base_is kind found.value.backups base e ∙ ap (λ (h : Host). tree_of (base_of kind h.backups)) same

-- an office that keeps what one keeps that keeps what another kept
kept_so : (old mid : Office) (dump : SessionName) (name : List ℕ) (tree : Tree) (more : List Call) (state' : State) (faults' : ℕ)
    → mid.durable ≡ old.durable → IsFilled mid dump name tree more state' faults' → IsFilled old dump name tree more state' faults'
kept_so old mid dump name tree more state' faults' same filled = record {
  office = filled.office;
  names = filled.names;
  faults = filled.faults;
  sound = filled.sound;
  kept = filled.kept ∙ same;
  has = filled.has;
  rest = filled.rest;
}

opened_filled : (office : Office) (names : Names) (faults : ℕ) (name : List ℕ) (kind : Kind) (dump : SessionName) (tree : Tree)
    (calls more : List Call) (state' : State) (faults' : ℕ) → IsTree is_dir tree → IsLaidOpen office name kind dump tree calls
    → Leads (Running office names) faults (calls ++ more) state' faults' → IsFilled office dump name tree more state' faults'
opened_filled office names faults name kind dump tree calls more state' faults' is_tree o leads =
    let a = answered office names faults (E.OpenDump name kind o.start None) (A.Dump dump) (o.laid ++ more) state' faults'
    (subst (λ cs. Leads (Running office names) faults (cs ++ more) state' faults') o.calls_are leads) in
    let b = opened office name kind o.start dump a.after a.carried in
    let from : b.1 ≡ tree_of (base_of kind o.host.backups) = based office.hosts name kind b.0 o.host b.1 b.2 o.is_host b.3 in
    let kept : a.after.durable ≡ office.durable =
    part_keeps (E.OpenDump name kind o.start None) tt office names (record { answer = A.Dump dump; after = a.after }) a.carried in
    kept_so office a.after dump name tree more state' faults' kept
    (dump_is_filled a.after a.after_names a.faults dump name (base_of kind o.host.backups) tree o.laid more state' faults' a.sound
    (subst (HasDump a.after dump name) from b.4) is_tree o.is_laid a.rest)

-- ---- and adopted

pub dump_is_adopted : DumpIsAdopted
dump_is_adopted office names faults name kind dump line tree calls more state' faults' is_tree o leads =
    let f = opened_filled office names faults name kind dump tree calls (adopt_call dump line ∷ more) state' faults' is_tree o leads in
    let a = answered f.office f.names f.faults (adopt_event dump line) (A.Committed line.number) more state' faults' f.rest in
    let gains : Gains f.office.hosts a.after.hosts name (shown_as line tree) =
    adopt_gains f.office dump name tree line (record { answer = A.Committed line.number; after = with_ids a.after f.office.ids }) f.sound f.has a.carried.0 in
    record {
      office = a.after;
      names = a.after_names;
      faults = a.faults;
      sound = a.sound;
      gains = subst (λ (kept : Durable). Gains kept.hosts a.after.hosts name (shown_as line tree)) f.kept gains;
      rest = a.rest;
    }

-- ---- or it may be

fault_leaves : (office : Office) (names : Names) (dump : SessionName) (name : List ℕ) (tree : Tree) (line : Line) (new : State) → IsSound office
    → HasDump office dump name tree → IsReply office names (meaning_of (adopt_event dump line)) (Err DiskFault) new
    → MayGain office name (shown_as line tree) new
fault_leaves office names dump name tree line (Running new n) sound has is = ap (λ (o : Office). o.durable) is.2
fault_leaves office names dump name tree line (Halted before next n) sound has is = step ((meaning_of (adopt_event dump line)).carried office names) refl is
  where
    step : (judged : Judged Carried) → (meaning_of (adopt_event dump line)).carried office names ≡ judged
        → MayHalt ReadsAndCommits true names office judged before next → (before ≡ office.durable) × Gains office.hosts next.hosts name (shown_as line tree)
    step (Ok c) e may = (
      may.0,
      subst (λ (kept : Durable). Gains office.hosts kept.hosts name (shown_as line tree)) (sym may.1.0)
          (adopt_gains office dump name tree line c sound has e),
    )
    step (Err rule) e may = absurd may

moved : (old mid : Office) (name : List ℕ) (shown : Shown) (state : State) → mid.durable ≡ old.durable → MayGain mid name shown state
    → MayGain old name shown state
moved old mid name shown (Running new n) same may = may ∙ same
moved old mid name shown (Halted before next n) same may =
    (may.0 ∙ same, subst (λ (kept : Durable). Gains kept.hosts next.hosts name shown) same may.1)

pub dump_may_be_adopted : DumpMayBeAdopted
dump_may_be_adopted office names faults name kind dump line tree calls more state' faults' is_tree o leads =
    let f = opened_filled office names faults name kind dump tree calls ((adopt_event dump line, Err DiskFault) ∷ more) state' faults' is_tree o leads in
    let a = first_call (Running f.office f.names) f.faults (adopt_event dump line, Err DiskFault) more state' faults' f.rest in
    let step : IsStep (Running f.office f.names) (adopt_event dump line) (Err DiskFault) a.entry.state =
    subst (λ (reply : Reply). IsStep (Running f.office f.names) (adopt_event dump line) reply a.entry.state) a.reply_is
    (subst (λ (event : Event). IsStep (Running f.office f.names) event a.entry.reply a.entry.state) a.event_is a.goes.step) in
    record {
      state = a.entry.state;
      faults = a.entry.faults;
      sound = a.goes.sound;
      may = moved office f.office name (shown_as line tree) a.entry.state f.kept
          (fault_leaves f.office f.names dump name tree line a.entry.state f.sound f.has step.0);
      rest = a.rest;
    }

-- ---- what a host gained is the base of its next dump

pub base_gained : (old new : List Host) (name : List ℕ) (shown : Shown) (gains : Gains old new name shown)
    → base_of Incr gains.after.backups ≡ Some shown.tree
base_gained old new name shown gains = newest_shown gains.after.backups (shows_of gains.before.backups) shown gains.shows

-- ---- any adoption at which the disk failed

-- what a disk may have but for its ids: where nothing was gained, the ids are the same, too
but_ids : (names : Names) (old next : Durable) → AreIdsAfter names old next → MayGainAny old (record next { ids = old.ids }) → MayGainAny old next
but_ids names old next after (inl e) =
    inl (ap (λ (ids : Ids). record next { ids = ids }) (after.same (λ content. ap (λ (kept : Durable). is_pooled kept.pool content) e)) ∙ e)
but_ids names old next after (inr gains) = inr gains

any_fault : (office : Office) (names : Names) (dump : SessionName) (line : Line) (new : State) → IsSound office
    → IsReply office names (meaning_of (adopt_event dump line)) (Err DiskFault) new → IsLeftBy (Running office names) new
any_fault office names dump line (Running new n) sound is = ap (λ (o : Office). o.durable) is.2
any_fault office names dump line (Halted before next n) sound is = step ((meaning_of (adopt_event dump line)).carried office names) refl is
  where
    step : (judged : Judged Carried) → (meaning_of (adopt_event dump line)).carried office names ≡ judged
        → MayHalt ReadsAndCommits true names office judged before next → (before ≡ office.durable) × MayGainAny office.durable next
    step (Ok c) e may =
        (may.0, but_ids names office.durable next may.1.1 (subst (MayGainAny office.durable) (sym may.1.0) (adopts_some office dump line c sound e)))
    step (Err rule) e may = absurd may

fault_step : (state : State) (dump : SessionName) (line : Line) (new : State) → IsSoundState state
    → IsStep state (adopt_event dump line) (Err DiskFault) new → IsLeftBy state new
fault_step (Running office names) dump line new sound step = any_fault office names dump line new sound.office step.0
fault_step (Halted before next names) dump line (Running new n) sound step = step.0
fault_step (Halted before next names) dump line (Halted before' next' n) sound step = other step.0.0
  where
    other : (let reply : Reply = Err DiskFault in reply ≡ Err HaltedReply) → ⊥
    other e = cc

left_behind : (old mid new : State) → IsUnchanged old mid → IsLeftBy mid new → IsLeftBy old new
left_behind (Running old a) (Running mid b) (Running new n) same left = left ∙ same
left_behind (Running old a) (Running mid b) (Halted before next n) same left =
    (left.0 ∙ same, subst (λ (kept : Durable). MayGainAny kept next) same left.1)
left_behind (Running old a) (Halted before next b) new same left = absurd same
left_behind (Halted before next a) (Running mid b) new same left = absurd same
left_behind (Halted before next a) (Halted before' next' b) new same left = absurd left

pub fault_may_gain : FaultMayGain
fault_may_gain state faults calls dump line state' faults' sound leads none =
    let s = split calls state faults ((adopt_event dump line, Err DiskFault) ∷ []) state' faults' leads in
    let a = first_call s.mid s.mid_faults (adopt_event dump line, Err DiskFault) [] state' faults' s.rest in
    let step : IsStep s.mid (adopt_event dump line) (Err DiskFault) a.entry.state =
    subst (λ (reply : Reply). IsStep s.mid (adopt_event dump line) reply a.entry.state) a.reply_is
    (subst (λ (event : Event). IsStep s.mid event a.entry.reply a.entry.state) a.event_is a.goes.step) in
    let mid_sound : IsSoundState s.mid =
    subst IsSoundState (sym s.first.state_is) (IsSoundState-last state faults s.first.entries sound s.first.legal) in
    let same : IsUnchanged state s.mid = parts_change_nothing state faults calls s.mid s.mid_faults s.first none in
    subst (IsLeftBy state) (sym (none_left a.entry.state a.entry.faults state' faults' a.rest))
    (left_behind state s.mid a.entry.state same (fault_step s.mid dump line a.entry.state mid_sound step))
