-- In each legal history of its calls a dump of a tree becomes a backup that is this tree.
use Rattle.std.specs.Prelude.{◌≡◌, ℕ, List, [], ◌∷◌, ◌++◌, None, Ok}
use Rattle.std.proofs.Common.{sym, ap, ◌∙◌, subst, append_assoc}
use Rattle.attr_records.specs.Items.{Tree}
use Rattle.backup_rules.specs.declared.lines.Kind.{Kind}
use Rattle.backup_rules.specs.declared.lines.Kind.TheVariants.{Full}
use Rattle.receipts.specs.declared.session.SessionName.{SessionName}
use Rattle.office_model.specs.declared.event.Event.TheVariants as E
use Rattle.office_model.specs.declared.answer.Answer.TheVariants as A
use Rattle.office_model.specs.Office.{Office, Dump, Names, IsSound, with_dumps, numbered, with_ids}
use Rattle.office_model.specs.Step.{Call, State, Running}
use Rattle.office_model.specs.History.{Leads}
use Rattle.office_model.specs.Meaning.{Judged}
use Rattle.office_model.specs.events.OpenDump.{with_dump, next_session}
use Rattle.office_model.specs.laws.Judging.{bound}
use Rattle.office_model.specs.laws.IdLaws.{IsSound-ids}
use Rattle.call_scripts.specs.FirstCalls.{answered, none_left}
use Rattle.folder_laws.specs.Calls.{open_call, already_call, item_calls, ArePuts, commit_call}
use Rattle.folder_laws.specs.Replays.{with_all}
use Rattle.folder_laws.specs.OfficeLaws.{HasDump, Shows, answer_of, opened, commit_step}
use Rattle.folder_laws.specs.StagingLaws.{AfterPuts, after_item}

-- ---- puts

pub after_puts : (rows : Tree) (office : Office) (names : Names) (faults : ℕ) (dump : SessionName) (name : List ℕ) (tree : Tree) (calls more : List Call)
    (state' : State) (faults' : ℕ) → IsSound office → HasDump office dump name tree → ArePuts dump rows calls
    → Leads (Running office names) faults (calls ++ more) state' faults'
    → AfterPuts dump name (with_all tree rows) more state' faults'
after_puts [] office names faults dump name tree calls more state' faults' sound has are leads = record {
  office = office;
  names = names;
  faults = faults;
  sound = sound;
  has = has;
  rest = subst (λ cs. Leads (Running office names) faults (cs ++ more) state' faults') are leads;
}
after_puts (row ∷ rows) office names faults dump name tree calls more state' faults' sound has are leads =
    let stage : ℕ = are.2.0 in
    let split : calls ++ more ≡ item_calls dump row.0 row.1 stage ++ (are.1 ++ more) =
    ap (λ cs. cs ++ more) are.3 ∙ append_assoc are.0 are.1 more ∙ ap (λ cs. cs ++ (are.1 ++ more)) are.2.1 in
    let a = after_item office names faults dump name tree row.0 (are.1 ++ more) state' faults' sound has row.1 stage
    (subst (λ cs. Leads (Running office names) faults cs state' faults') split leads) in
    after_puts rows a.office a.names a.faults dump name _ are.1 more state' faults' a.sound a.has are.4 a.rest

-- ---- a full dump

-- the host has a backup of this number with this tree, in an office at work
pub record Committed (name : List ℕ) (number : ℕ) (tree : Tree) (state : State) : Type 0 where
  pub office : Office
  pub names : Names
  pub is : state ≡ Running office names
  pub shows : Shows office name number tree

pub committed : (office : Office) (names : Names) (faults : ℕ) (dump : SessionName) (name : List ℕ) (tree : Tree) (now number : ℕ) (state' : State) (faults' : ℕ)
    → IsSound office → HasDump office dump name tree
    → Leads (Running office names) faults (commit_call dump now number ∷ []) state' faults' → Committed name number tree state'
committed office names faults dump name tree now number state' faults' sound has leads =
    let a = answered office names faults (E.Commit dump now) (A.Committed number) [] state' faults' leads in
    let shown = commit_step office dump name tree now number (with_ids a.after office.ids) sound
    (IsSound-ids (with_ids a.after office.ids) a.after.ids a.sound) has a.carried.0 in
    record {
      office = a.after;
      names = a.after_names;
      is = none_left (Running a.after a.after_names) a.faults state' faults' a.rest;
      shows = record { backup = shown.backup; found = shown.found; tree_is = shown.tree_is };
    }

empty_base : (base : Tree) → (let none : Judged Tree = Ok [] in none ≡ Ok base) → [] ≡ base
empty_base base e = cc

-- what leads from the opening of a full dump to its puts
pub opened_full : (office : Office) (names : Names) (faults : ℕ) (host : List ℕ) (now : ℕ) (dump : SessionName) (more : List Call)
    (state' : State) (faults' : ℕ)
    → Leads (Running office names) faults (open_call host Full now dump ∷ more) state' faults' → AfterPuts dump host [] more state' faults'
opened_full office names faults host now dump more state' faults' leads =
    let a = answered office names faults (E.OpenDump host Full now None) (A.Dump dump) more state' faults' leads in
    let b = opened office host Full now dump a.after a.carried in
    let base : [] ≡ b.1 = empty_base b.1 b.3 in
    record {
      office = a.after;
      names = a.after_names;
      faults = a.faults;
      sound = a.sound;
      has = subst (λ t. HasDump a.after dump host t) (sym base) b.4;
      rest = a.rest;
    }

-- no opening without a token is answered with the number of a backup
pub not_already : (office : Office) (names : Names) (faults : ℕ) (host : List ℕ) (kind : Kind) (now number : ℕ) (more : List Call)
    (state' : State) (faults' : ℕ) → Leads (Running office names) faults (already_call host kind now number ∷ more) state' faults' → ⊥
not_already office names faults host kind now number more state' faults' leads =
    let a = answered office names faults (E.OpenDump host kind now None) (A.Already number) more state' faults' leads in
    let w = bound (with_dump host kind now None (next_session office) office.hosts office.dumps)
    (λ (dumps : List Dump). Ok (record { answer = A.Dump (next_session office); after = numbered (with_dumps office dumps) })) _ a.carried in
    let same : A.Dump (next_session office) ≡ A.Already number = answer_of _ (A.Already number) _ a.after w.2 in
    absurd (cc)

-- puts of a tree that replace all of a dump's tree, and a commit
pub filled : (office : Office) (names : Names) (faults : ℕ) (host : List ℕ) (dump : SessionName) (base tree : Tree) (puts : List Call)
    (later number : ℕ) (state' : State) (faults' : ℕ) → IsSound office → HasDump office dump host base → ArePuts dump tree puts
    → with_all base tree ≡ tree → Leads (Running office names) faults (puts ++ commit_call dump later number ∷ []) state' faults'
    → Committed host number tree state'
filled office names faults host dump base tree puts later number state' faults' sound has are whole leads =
    let p = after_puts tree office names faults dump host base puts (commit_call dump later number ∷ []) state' faults' sound has are leads in
    committed p.office p.names p.faults dump host tree later number state' faults' p.sound
    (subst (λ t. HasDump p.office dump host t) whole p.has) p.rest
