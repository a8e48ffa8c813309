-- The answer to an adoption of a dump that is open is the number that it is adopted with.
use Rattle.std.specs.Prelude.{◌≡◌, ℕ, not, List, ◌∷◌, ◌++◌, None, Ok, slice_get, slice_set, if◌then◌else◌}
use Rattle.std.specs.List.{remove}
use Rattle.std.proofs.Common.{refl, sym, ap, ◌∙◌, subst}
use Rattle.attr_records.specs.Items.{Tree, is_dir}
use Rattle.attr_records.specs.Trees.{IsTree}
use Rattle.backup_rules.specs.declared.lines.Kind.{Kind}
use Rattle.backup_rules.specs.declared.lines.Line.{Line}
use Rattle.receipts.specs.declared.session.SessionName.{SessionName}
use Rattle.office_model.specs.declared.event.Event.TheVariants as E
use Rattle.office_model.specs.declared.answer.Answer.{Answer}
use Rattle.office_model.specs.declared.answer.Answer.TheVariants as A
use Rattle.office_model.specs.declared.refusal.BrokenRule.TheVariants.{NoSession, NumberBehind}
use Rattle.office_model.specs.Office.{Office, Host, Names, IsSound, with_ids}
use Rattle.office_model.specs.Meaning.{Carried, found}
use Rattle.office_model.specs.Pool.{with_tree}
use Rattle.office_model.specs.Parts.{dump_at}
use Rattle.office_model.specs.Step.{Call, State, Running}
use Rattle.office_model.specs.History.{Leads}
use Rattle.office_model.specs.events.Commit as CommitEvent
use Rattle.office_model.specs.events.Adopt as AdoptEvent
use Rattle.office_model.specs.laws.Judging.{bound, passed}
use Rattle.office_model.specs.laws.Lawful.{judged}
use Rattle.office_model.specs.laws.Lookups.{dump_index-at}
use Rattle.call_scripts.specs.FirstCalls.{answered}
use Rattle.folder_laws.specs.OfficeLaws.{HasDump, some_is, opened}
use Rattle.adopted_dumps.specs.Adopted.{tree_of, base_of, adopt_event, IsLaidOpen}
use Rattle.adopted_dumps.specs.FillLaws.{dump_is_filled}
use Rattle.adopted_dumps.specs.GainLaws.{unrepeated}
use Rattle.adopted_dumps.specs.AdoptedLaws.{base_is, named_at}

ok_is : {A : Type 0} (x y : A) → judged x ≡ judged y → x ≡ y
ok_is x y e = cc

abbrev there : Line → Line
there line = AdoptEvent.adopted_line line.number line.start line.end line.kind

answer_by : (c done : Carried) (a b number : ℕ) → done ≡ c → done.answer ≡ A.Committed a → b ≡ a → number ≡ b → c.answer ≡ A.Committed number
answer_by c done a b number e is f g = ap (λ (x : Carried). x.answer) (sym e) ∙ is ∙ ap A.Committed (sym (g ∙ f))

adopted_answer : (office : Office) (session : SessionName) (name : List ℕ) (tree : Tree) (line : Line) (c : Carried) → IsSound office
    → HasDump office session name tree → CommitEvent.carried session (AdoptEvent.as_there (there line)) office ≡ Ok c
    → c.answer ≡ A.Committed line.number
adopted_answer office session name tree line c sound has e =
    let at_index = dump_index-at office.dumps session has.index has.dump sound.sessions.dumps_differ has.is_dump has.name_is in
    let w = bound (CommitEvent.committed session (AdoptEvent.as_there (there line)) office.hosts office.pool office.dumps)
    (λ parts. Ok (record { answer = A.Committed parts.number; after = CommitEvent.after session office parts })) c
    (sym (unrepeated session (AdoptEvent.as_there (there line)) has.index office at_index) ∙ e) in
    let a = bound (dump_at office.dumps session) _ w.0 w.1 in
    let b = bound (found NoSession (slice_get office.hosts a.0.value.host)) _ w.0 a.2 in
    let l = bound (AdoptEvent.as_there (there line) b.0 a.0.value) _ w.0 b.2 in
    let p = passed NumberBehind (not (AdoptEvent.is_free b.0.next (there line).number)) (Ok (there line)) l.0 l.1 in
    let line_is : there line ≡ l.0 = ok_is (there line) l.0 p.1 in
    let made : CommitEvent.Committing = record {
      number = l.0.number;
      hosts = slice_set office.hosts a.0.value.host (CommitEvent.with_commit b.0 a.0.value l.0);
      pool = with_tree office.pool a.0.value.tree;
      dumps = remove office.dumps a.0.index;
    } in
    let made_is : made ≡ w.0 = ok_is made w.0 l.2 in
    let done : Carried = record { answer = A.Committed w.0.number; after = CommitEvent.after session office w.0 } in
    answer_by c done w.0.number l.0.number line.number (ok_is done c w.2) refl (ap (λ (m : CommitEvent.Committing). m.number) {x = made} {y = w.0} made_is)
    (ap (λ (x : Line). x.number) {x = there line} {y = l.0} line_is)

pub adopt_answer : (office : Office) (names : Names) (faults : ℕ) (name : List ℕ) (kind : Kind) (dump : SessionName) (line : Line) (tree : Tree)
    (answer : Answer) (calls more : List Call) (state' : State) (faults' : ℕ) → IsTree is_dir tree → IsLaidOpen office name kind dump tree calls
    → Leads (Running office names) faults (calls ++ (adopt_event dump line, Ok answer) ∷ more) state' faults' → answer ≡ A.Committed line.number
adopt_answer office names faults name kind dump line tree answer calls more state' faults' is_tree o leads =
    let rest : List Call = (adopt_event dump line, Ok answer) ∷ more in
    let a = answered office names faults (E.OpenDump name kind o.start None) (A.Dump dump) (o.laid ++ rest) state' faults'
    (subst (λ cs. Leads (Running office names) faults (cs ++ rest) state' faults') o.calls_are leads) in
    let b = opened office name kind o.start dump a.after a.carried in
    let host_is : b.0.value ≡ o.host = some_is b.0.value o.host (sym (named_at office.hosts name b.0 b.2) ∙ o.is_host) in
    let from : b.1 ≡ tree_of (base_of kind o.host.backups) =
    base_is kind b.0.value.backups b.1 b.3 ∙ ap (λ (h : Host). tree_of (base_of kind h.backups)) host_is in
    let f = dump_is_filled a.after a.after_names a.faults dump name (base_of kind o.host.backups) tree o.laid rest state' faults' a.sound
    (subst (HasDump a.after dump name) from b.4) is_tree o.is_laid a.rest in
    let c = answered f.office f.names f.faults (adopt_event dump line) answer more state' faults' f.rest in
    adopted_answer f.office dump name tree line (record { answer = answer; after = with_ids c.after f.office.ids }) f.sound f.has c.carried.0
