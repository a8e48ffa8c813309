-- What lies in a directory by the rows that are kept is what lies there by the backup's tree.
use Rattle.std.specs.Prelude.{◌≡◌, ℕ, Bool, true, false, cond, List, [], ◌∷◌, map, Option, Some, None, Result, Ok, Err, IfOk, option_map}
use Rattle.std.proofs.Common.{refl, sym, ap, ◌∙◌}
use Rattle.std.proofs.lemmas.Bool.{true≢false}
use Rattle.fault_counts.specs.Counts.{Counted}
use Rattle.disk_trait.specs.declared.ids.PoolId.{PoolId}
use Rattle.disk_trait.specs.declared.disk.Disk.{Ghosts as DiskGhosts}
use Rattle.pool_name.specs.declared.namer.Namer.{Ghosts as NamerGhosts}
use Rattle.attr_records.specs.Items.{Tree}
use Rattle.attr_records.specs.Trees.{node_at}
use Rattle.attr_tables.specs.declared.records.Record.{Record}
use Rattle.attr_tables.specs.declared.records.Record.TheVariants.{File, Dir, Link, Deleted}
use Rattle.merge_view.specs.Runs.{is_child, children, within_rows}
use Rattle.merge_view.specs.RunLaws.{children-within}
use Rattle.merge_view.specs.Views.{Rows, is_mark, is_marked, HasNoMarks}
use Rattle.merge_view.specs.ViewLaws.{unmarked}
use Rattle.pool_changes.specs.Listed.{index_of}
use Rattle.stored_trees.specs.Resolved.{resolved, resolved_item, IsTold, AreTold}
use Rattle.stored_trees.specs.ResolvedLaws.{node_at-resolved}
use Rattle.office_model.specs.declared.answer.Answer.TheVariants.{Entries}
use Rattle.office_model.specs.declared.answer.NamedNode.{NamedNode}
use Rattle.office_model.specs.declared.event.Event.TheVariants.{List as ListEvent}
use Rattle.tree_frames.specs.declared.nodes.Node.TheVariants as N
use Rattle.office_model.specs.declared.refusal.BrokenRule.{BrokenRule}
use Rattle.office_model.specs.declared.refusal.Refusal.{Refusal}
use Rattle.office_model.specs.declared.refusal.Refusal.TheVariants.{Broken, Memory}
use Rattle.office_model.specs.Office.{Office, Host, Backup, Names}
use Rattle.office_model.specs.Meaning.{Judged, ◌>>=◌, ◌>>◌}
use Rattle.office_model.specs.Parts.{backup_of}
use Rattle.office_model.specs.events.List as E
use Rattle.office_files.specs.Pooled.{contents_of, IsListed}
use Rattle.store_parts.specs.declared.parts.StoreParts.{StoreParts}
use Rattle.store_parts.specs.States.{slots, IsRunning}
use Rattle.store_parts.specs.Runs.{Reads, Runs}
use Rattle.store_parts.specs.RunLaws.{counted_fine}
use Rattle.store_reads.specs.Shown.{directory_told, list_told, entry_told, pushed, entries_in, entries_told, ShowsBackup, IsLoaded, IsRefusal}
use Rattle.store_reads.specs.ShownLaws.{size_told}
use Rattle.store_reads.proofs.Answering.{Failed, refused_later, runs_ok, runs_err}

-- ---- rows

-- of a directory it's enough to look at its rows
pub entries_within : (directory : Option (List ℕ)) (path : List ℕ) (rows read : Rows) → directory ≡ Some path → read ≡ within_rows path rows
    → entries_told directory read ≡ entries_told directory rows
entries_within directory path rows read is same =
    (λ i. entries_told (is i) (same i)) ∙ ap (entries_in (Some path)) (children-within path rows)
    ∙ ap (λ (d : Option (List ℕ)). entries_told d rows) (sym is)

pub if_ok : {A F : Type 0} {P Q : A → Type 0} (result : Result A F) → ((x : A) → P x → Q x) → IfOk result P → IfOk result Q
if_ok (Ok x) f p = f x p
if_ok (Err e) f p = tt

module _ (given : PoolId → Type 0) (contents : PoolId → List ℕ) where
  entry_shown : (directory : Option (List ℕ)) (path : List ℕ) (stored : Record) (rest : List NamedNode) → is_mark stored ≡ false
      → IsTold given contents stored
      → E.entry_of directory path (resolved_item contents stored) ∷ rest ≡ pushed (entry_told directory (path, stored)) rest
  entry_shown directory path (File file) rest clean told =
      ap (λ (size : ℕ). record {
        name = E.name_in directory path;
        node = N.File
            (record { attr = file.attr; group = file.group; size = size });
      } ∷ rest)
      (size_told given contents file.size file.content told)
  entry_shown directory path (Dir dir) rest clean told = refl
  entry_shown directory path (Link link) rest clean told = refl
  entry_shown directory path Deleted rest clean told = absurd (true≢false clean)

  listed_shown : (directory : Option (List ℕ)) (rows : Rows) → HasNoMarks rows → AreTold given contents rows
      → E.listed (resolved contents rows) directory ≡ entries_told directory rows
  listed_shown directory [] clean told = refl
  listed_shown directory (row ∷ rows) clean told = step (is_child directory row.0) (listed_shown directory rows clean.1 told.1)
    where
      step : (b : Bool) → E.listed (resolved contents rows) directory ≡ entries_told directory rows
          → map (λ row. E.entry_of directory row.0 row.1)
          (cond b ((row.0, resolved_item contents row.1) ∷ children directory (resolved contents rows))
          (children directory (resolved contents rows)))
          ≡ entries_in directory (cond b (row ∷ children directory rows) (children directory rows))
      step true rest =
          ap (λ (es : List NamedNode). E.entry_of directory row.0 (resolved_item contents row.1) ∷ es) rest
          ∙ entry_shown directory row.0 row.1 (entries_told directory rows) clean.0 told.0
      step false rest = rest

  directory_shown : (stored : Option Record) → is_marked stored ≡ false
      → E.directory_rule (option_map (resolved_item contents) stored) ≡ directory_told stored
  directory_shown None clean = refl
  directory_shown (Some (File file)) clean = refl
  directory_shown (Some (Dir dir)) clean = refl
  directory_shown (Some (Link link)) clean = refl
  directory_shown (Some Deleted) clean = absurd (true≢false clean)

  rule_shown : (rows : Rows) (directory : Option (List ℕ)) → HasNoMarks rows
      → E.list_rule (resolved contents rows) directory ≡ list_told rows directory
  rule_shown rows None clean = refl
  rule_shown rows (Some directory) clean =
      ap E.directory_rule (node_at-resolved contents rows directory)
      ∙ directory_shown (node_at rows directory) (unmarked rows clean directory)

  pub entries_shown : (hosts : List Host) (name : List ℕ) (number : ℕ) (rows : Rows) → ShowsBackup given contents hosts name number rows
      → (directory : Option (List ℕ))
      → E.entries_of hosts name number directory ≡ (list_told rows directory >> Ok (entries_told directory rows))
  entries_shown hosts name number rows shows directory =
      ap (λ (j : Judged Backup). j >>= λ backup. E.list_rule backup.tree directory >> Ok (E.listed backup.tree directory)) shows.is
      ∙ ap (λ (tree : Tree). E.list_rule tree directory >> Ok (E.listed tree directory)) shows.tree
      ∙ (λ i. rule_shown rows directory shows.whole.no_marks i >> Ok (listed_shown directory rows shows.whole.no_marks shows.told i))

-- ---- the event

module _ {D N S : Type 0} {d : DiskGhosts D} {n : NamerGhosts N S} where
  module _ (old new : StoreParts D N S d n) (name : List ℕ) (number : ℕ) (directory : Option (List ℕ)) (reads : Reads old new) where
    pub list_refused : (refusal : Refusal) → IsRefusal old (λ office. backup_of office.hosts name number) refusal
        → Counted (d.fault_count old.journal.disk) (d.fault_count new.journal.disk) (Failed {T = Unit {0}} (Err refusal))
        → Runs old (ListEvent name number directory) (Err refusal) new
    list_refused refusal is counted =
        runs_err old (ListEvent name number directory) (λ office. E.entries_of office.hosts name number directory) Entries
        (λ office names. refl) (λ office names. refl) (λ office names answer. refl) (λ x. refl) refl new refusal reads
        (refused_later old (λ office. backup_of office.hosts name number)
        (λ backup. E.list_rule backup.tree directory >> Ok (E.listed backup.tree directory)) refusal is) counted

    module _ (rows : Rows) (loaded : IsLoaded old name number rows) {failed : Type 0}
        (counted : Counted (d.fault_count old.journal.disk) (d.fault_count new.journal.disk) failed) (fine : failed → ⊥) where
      list_is : (office : Office) (names : Names) → IsRunning old office names
          → E.entries_of office.hosts name number directory ≡ (list_told rows directory >> Ok (entries_told directory rows))
      list_is office names at =
          entries_shown (IsListed (index_of (slots old))) (contents_of at.all) office.hosts name number rows
          (loaded office names at) directory

      pub list_rule : (rule : BrokenRule) → list_told rows directory ≡ Some rule
          → Runs old (ListEvent name number directory) (Err (Broken rule)) new
      list_rule rule e =
          runs_err old (ListEvent name number directory) (λ office. E.entries_of office.hosts name number directory) Entries
          (λ office names. refl) (λ office names. refl) (λ office names answer. refl) (λ x. refl) refl {T = Unit {0}} new (Broken rule) reads
          (λ office names at. list_is office names at ∙ ap (λ o. o >> Ok (entries_told directory rows)) e)
          (counted_fine counted fine (λ e. cc))

      pub list_memory : Runs old (ListEvent name number directory) (Err Memory) new
      list_memory =
          runs_err old (ListEvent name number directory) (λ office. E.entries_of office.hosts name number directory) Entries
          (λ office names. refl) (λ office names. refl) (λ office names answer. refl) (λ x. refl) refl {T = Unit {0}} new Memory reads tt
          (counted_fine counted fine (λ e. cc))

      pub list_ok : (entries : List NamedNode) → list_told rows directory ≡ None → entries ≡ entries_told directory rows
          → Runs old (ListEvent name number directory) (Ok (Entries entries)) new
      list_ok entries e is =
          runs_ok old (ListEvent name number directory) (λ office. E.entries_of office.hosts name number directory) Entries
          (λ office names. refl) (λ office names. refl) (λ office names answer. refl) (λ x. refl) refl new entries reads
          (λ office names at. list_is office names at ∙ ap (λ o. o >> Ok (entries_told directory rows)) e
          ∙ ap (λ (es : List NamedNode). Ok es) (sym is))
          counted fine
