-- In each legal history of its calls a dump of a folder becomes a backup that is the folder's tree.
use Rattle.std.specs.Prelude.{◌≡◌, ℕ, List, [], ◌∷◌, ◌++◌, Option, Some, None}
use Rattle.std.proofs.Common.{refl, sym, ap, ◌∙◌, subst, append_assoc}
use Rattle.attr_records.specs.Items.{Tree, is_dir}
use Rattle.attr_records.specs.Trees.{IsTree}
use Rattle.backup_rules.specs.declared.lines.Line.{Line}
use Rattle.backup_rules.specs.declared.lines.Kind.{Kind}
use Rattle.backup_rules.specs.declared.lines.Kind.TheVariants.{Full, Incr}
use Rattle.receipts.specs.declared.session.SessionName.{SessionName}
use Rattle.office_model.specs.Office.{Office, Names, IsSound}
use Rattle.office_model.specs.History.{Leads}
use Rattle.office_model.specs.Step.{Call, State, Running}
use Rattle.folder_laws.specs.Calls.{open_call, ArePuts, remove_calls, commit_call, dump_calls}
use Rattle.folder_laws.specs.Replays.{without_all}
use Rattle.folder_laws.specs.ReplayLaws.{replayed}
use Rattle.folder_laws.specs.Compares.{root}
use Rattle.folder_laws.specs.CompareLaws.{replayed_dump}
use Rattle.folder_laws.specs.Lists.{last_line, AreLists, AreRemovals, IsBase}
use Rattle.folder_laws.specs.DumpLaws.{Committed, opened_full, filled}
use Rattle.folder_laws.specs.IncrLaws.{OpenedIncr, opened_incr, after_lists, after_removes}

module _ (host : List ℕ) (later : ℕ) (dump : SessionName) (number : ℕ) (tree : Tree) (puts : List Call) (are_puts : ArePuts dump tree puts)
    (state' : State) (faults' : ℕ) (is_tree : IsTree is_dir tree) where
  -- the calls behind the base
  abbrev ending : List Call
  ending = puts ++ commit_call dump later number ∷ []

  -- the lists of the backup of this line
  abbrev AreListed : Option Line → List Call → List (List ℕ) → Type 0
  AreListed None lists gone = ⊥
  AreListed (Some line) lists gone = AreLists tree host line.number (root ∷ []) [] lists [] gone

  -- an incremental dump that is open
  removed : (lines : List Line) (more : List Call) (at : OpenedIncr dump host lines (more ++ ending) state' faults') (found : Option Line)
      → last_line lines ≡ found → AreRemovals tree host dump found more → Committed host number tree state'
  removed lines more at None none are = absurd (cc)
  removed lines more at (Some line) is are =
      let same : Some line ≡ Some at.backup.line = sym is ∙ at.line_is in
      let lists : List Call = are.0 in
      let gone : List (List ℕ) = are.1 in
      let listed : AreLists tree host at.backup.line.number (root ∷ []) [] lists [] gone =
      subst (λ (l : Option Line). AreListed l lists gone) same are.2 in
      let calls_are : more ++ ending ≡ lists ++ (remove_calls dump gone ++ ending) =
      ap (λ calls. calls ++ ending) are.3 ∙ append_assoc lists (remove_calls dump gone) ending in
      let l = after_lists lists at.office at.names at.faults tree host at.backup.line.number at.backup (root ∷ []) [] gone
      (remove_calls dump gone ++ ending) state' faults' at.found listed
      (subst (λ calls. Leads (Running at.office at.names) at.faults calls state' faults') calls_are at.rest) in
      let r = after_removes gone at.office l.names l.faults dump host at.backup.tree ending state' faults' at.sound at.has l.rest in
      filled r.office r.names r.faults host dump (without_all at.backup.tree gone) tree puts later number state' faults' r.sound r.has are_puts
      (replayed_dump tree at.backup.tree at.base_is l.visits gone is_tree l.compares) r.rest

  -- a dump of either kind
  pub dump_shows : (kind : Kind) (now : ℕ) (base : List Call) (office : Office) (names : Names) (faults : ℕ) → IsSound office
      → IsBase kind tree host dump base → Leads (Running office names) faults (dump_calls host kind now later dump number base puts) state' faults'
      → Committed host number tree state'
  dump_shows Full now base office names faults sound is leads =
      let o = opened_full office names faults host now dump ending state' faults'
      (subst (λ calls. Leads (Running office names) faults (open_call host Full now dump ∷ (calls ++ ending)) state' faults') is leads) in
      filled o.office o.names o.faults host dump [] tree puts later number state' faults' o.sound o.has are_puts
      (replayed [] tree tt is_tree.in_order (λ q none. refl)) o.rest
  dump_shows Incr now base office names faults sound is leads =
      let o = opened_incr office names faults host now dump is.0 is.1 is.2 (is.3 ++ ending) state' faults' sound
      (subst (λ calls. Leads (Running office names) faults (open_call host Incr now dump ∷ (calls ++ ending)) state' faults') is.5 leads) in
      removed is.0 is.3 o (last_line is.0) refl is.4
