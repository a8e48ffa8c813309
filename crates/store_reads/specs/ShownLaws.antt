-- What rows say of a path is what the model judges of it in the backup whose tree is that of the rows.
--     size_told      the size of a content is the number of its bytes
--     node_shown      what Lookup says
--     file_shown, file_told_is      the file at a path, and its content
--     content_shown, given_shown      the bytes that ReadFile gives, and the name of their content
use Rattle.std.specs.Prelude.{◌≡◌, ℕ, Bool, true, false, nat_lt, List, length, Option, Some, None, Ok, Err, option_map, if◌then◌else◌}
use Rattle.std.proofs.Common.{refl, sym, ap, ◌∙◌, subst}
use Rattle.std.proofs.lemmas.Bool.{true≢false}
use Rattle.disk_trait.specs.declared.ids.PoolId.{PoolId}
use Rattle.attr_records.specs.Items.{Tree}
use Rattle.attr_records.specs.Paths.{path_cmp}
use Rattle.attr_records.specs.Trees.{node_at}
use Rattle.attr_records.specs.declared.nodes.Item.{Item}
use Rattle.attr_records.specs.declared.trees.PutRule.TheVariants.{FileTooLarge}
use Rattle.attr_tables.specs.declared.records.Record.{Record}
use Rattle.attr_tables.specs.declared.records.Record.TheVariants.{File, Dir, Link, Deleted}
use Rattle.attr_tables.specs.declared.records.StoredFile.{StoredFile}
use Rattle.merge_view.specs.Views.{Rows, is_marked}
use Rattle.merge_view.specs.ViewLaws.{unmarked}
use Rattle.stored_trees.specs.Resolved.{bytes_of, resolved_item, IsTold, IsToldContent}
use Rattle.stored_trees.specs.ResolvedLaws.{node_at-resolved}
use Rattle.stored_trees.specs.Values.{IfFound}
use Rattle.stored_trees.specs.ValueLaws.{AllValues-find}
use Rattle.tree_frames.specs.declared.nodes.Node.TheVariants as N
use Rattle.tree_frames.specs.Frames.{node_of}
use Rattle.office_model.specs.declared.refusal.BrokenRule.TheVariants.{NoPath, Put as PutRule}
use Rattle.office_model.specs.Office.{Host, Backup, answer_limit}
use Rattle.office_model.specs.Meaning.{Judged, ◌>>=◌, ◌>>◌, found, breaks}
use Rattle.office_model.specs.Parts.{backup_of}
use Rattle.office_model.specs.events.Lookup as LookupEvent
use Rattle.office_model.specs.events.ReadFile as ReadFileEvent
use Rattle.store_reads.specs.Shown.{node_told, file_told, content_told, ShowsBackup, IsGivenContent}

-- ---- one record

module _ (given : PoolId → Type 0) (contents : PoolId → List ℕ) where
  pub size_told : (size : ℕ) (content : Option PoolId) → IsToldContent given contents size content
      → length (bytes_of contents content) ≡ size
  size_told size None told = sym told
  size_told size (Some id) told = sym told.1

  node_of_record : (record_at : Option Record) → is_marked record_at ≡ false → IfFound (IsTold given contents) record_at
      → (found NoPath (option_map (resolved_item contents) record_at) >>= λ item. Ok (node_of item)) ≡ node_told record_at
  node_of_record None clean told = refl
  node_of_record (Some (File file)) clean told =
      ap (λ (size : ℕ). Ok (N.File (record { attr = file.attr; group = file.group; size = size }))) (size_told file.size file.content told)
  node_of_record (Some (Dir dir)) clean told = refl
  node_of_record (Some (Link link)) clean told = refl
  node_of_record (Some Deleted) clean told = absurd (true≢false clean)

  bytes_of_record : (record_at : Option Record) → is_marked record_at ≡ false
      → (found NoPath (option_map (resolved_item contents) record_at) >>= ReadFileEvent.file_bytes)
      ≡ (file_told record_at >>= λ file. Ok (bytes_of contents file.content))
  bytes_of_record None clean = refl
  bytes_of_record (Some (File file)) clean = refl
  bytes_of_record (Some (Dir dir)) clean = refl
  bytes_of_record (Some (Link link)) clean = refl
  bytes_of_record (Some Deleted) clean = absurd (true≢false clean)

  -- a file is too large by its record if it is so by its bytes
  within_record : (record_at : Option Record) → IfFound (IsTold given contents) record_at
      → ((file_told record_at >>= λ file. Ok (bytes_of contents file.content))
      >>= λ bytes. breaks (PutRule FileTooLarge) (nat_lt answer_limit (length bytes)) >> Ok bytes)
      ≡ (content_told record_at >>= λ content. Ok (bytes_of contents content))
  within_record None told = refl
  within_record (Some (Dir dir)) told = refl
  within_record (Some (Link link)) told = refl
  within_record (Some Deleted) told = refl
  within_record (Some (File file)) told =
      ap (λ (n : ℕ). breaks (PutRule FileTooLarge) (nat_lt answer_limit n) >> Ok (bytes_of contents file.content))
      (size_told file.size file.content told)
      ∙ step (nat_lt answer_limit file.size)
    where
      step : (large : Bool) → (breaks (PutRule FileTooLarge) large >> Ok (bytes_of contents file.content))
          ≡ ((if large then Err (PutRule FileTooLarge) else Ok file.content) >>= λ content. Ok (bytes_of contents content))
      step true = refl
      step false = refl

  -- the content of a record that is told
  file_is_told : (record_at : Option Record) (file : StoredFile) → IfFound (IsTold given contents) record_at → file_told record_at ≡ Ok file
      → IsToldContent given contents file.size file.content
  file_is_told None file told e = absurd cc
  file_is_told (Some (Dir dir)) file told e = absurd cc
  file_is_told (Some (Link link)) file told e = absurd cc
  file_is_told (Some Deleted) file told e = absurd cc
  file_is_told (Some (File here)) file told e =
      let same : here ≡ file = cc in subst (λ (f : StoredFile). IsToldContent given contents f.size f.content) same told

  is_given_id : (size : ℕ) (content : Option PoolId) → IsToldContent given contents size content → IsGivenContent given content
  is_given_id size None told = tt
  is_given_id size (Some id) told = told.0

  content_given : (record_at : Option Record) (content : Option PoolId) → IfFound (IsTold given contents) record_at
      → content_told record_at ≡ Ok content → IsGivenContent given content
  content_given None content told e = absurd cc
  content_given (Some (Dir dir)) content told e = absurd cc
  content_given (Some (Link link)) content told e = absurd cc
  content_given (Some Deleted) content told e = absurd cc
  content_given (Some (File file)) content told e = step (nat_lt answer_limit file.size) e
    where
      step : (large : Bool) → (if large then Err (PutRule FileTooLarge) else Ok file.content) ≡ Ok content → IsGivenContent given content
      step true f = absurd cc
      step false f =
          let same : file.content ≡ content = cc in subst (IsGivenContent given) same (is_given_id file.size file.content told)

  -- ---- a backup

  module _ (hosts : List Host) (name : List ℕ) (number : ℕ) (rows : Rows) (shows : ShowsBackup given contents hosts name number rows)
      (path : List ℕ) where
    -- what is judged of the node at a path
    judged_at : {A : Type 0} (judge : Item → Judged A)
        → (backup_of hosts name number >>= λ backup. found NoPath (node_at backup.tree path) >>= judge)
        ≡ (found NoPath (option_map (resolved_item contents) (node_at rows path)) >>= judge)
    judged_at {A} judge =
        ap (λ (j : Judged Backup). j >>= λ backup. found NoPath (node_at backup.tree path) >>= judge) shows.is
        ∙ ap (λ (tree : Tree). found NoPath (node_at tree path) >>= judge) shows.tree
        ∙ ap (λ (o : Option Item). found NoPath o >>= judge) (node_at-resolved contents rows path)

    clean : is_marked (node_at rows path) ≡ false
    clean = unmarked rows shows.whole.no_marks path

    told_at : IfFound (IsTold given contents) (node_at rows path)
    told_at = AllValues-find (IsTold given contents) path_cmp path rows shows.told

    pub node_shown : LookupEvent.node_of_path hosts name number path ≡ node_told (node_at rows path)
    node_shown = judged_at (λ item. Ok (node_of item)) ∙ node_of_record (node_at rows path) clean told_at

    pub file_shown : ReadFileEvent.file_of hosts name number path
        ≡ (file_told (node_at rows path) >>= λ file. Ok (bytes_of contents file.content))
    file_shown = judged_at ReadFileEvent.file_bytes ∙ bytes_of_record (node_at rows path) clean

    pub file_told_is : (file : StoredFile) → file_told (node_at rows path) ≡ Ok file → IsToldContent given contents file.size file.content
    file_told_is file e = file_is_told (node_at rows path) file told_at e

    pub content_shown : ReadFileEvent.read_of hosts name number path
        ≡ (content_told (node_at rows path) >>= λ content. Ok (bytes_of contents content))
    content_shown =
        ap (λ (j : Judged (List ℕ)). j >>= λ bytes. breaks (PutRule FileTooLarge) (nat_lt answer_limit (length bytes)) >> Ok bytes) file_shown
        ∙ within_record (node_at rows path) told_at

    pub given_shown : (content : Option PoolId) → content_told (node_at rows path) ≡ Ok content → IsGivenContent given content
    given_shown content e = content_given (node_at rows path) content told_at e
