-- What a put of a stage leaves.
--     no_stage_put, no_dump_put, put_broken      a rule that it breaks
--     runs_staged      the node was put, and the stage ended
--     runs_staged_back, runs_staged_missed      the tree took no node, and the pool gave no name
use Rattle.std.specs.Prelude.{◌≡◌, ◌<◌, ◌≤◌, ◌+◌, ℕ, nat_lt, Bool, true, false, not, List, length, Option, Some, None, Ok, Err, slice_get, slice_set, IsErrOf, ◌==◌}
use Rattle.std.specs.List.{remove}
use Rattle.std.proofs.Common.{refl, sym, ap, ◌∙◌, subst, arith}
use Rattle.std.proofs.lemmas.Bool.Decides.{nat_tests}
use Rattle.fault_counts.specs.Counts.{Counted}
use Rattle.disk_trait.specs.declared.ids.PoolId.{PoolId}
use Rattle.disk_trait.specs.declared.ids.FileId.TheVariants as F
use Rattle.disk_trait.specs.declared.disk.Disk.{Ghosts as DiskGhosts}
use Rattle.disk_trait.specs.Files.{Files}
use Rattle.disk_trait.specs.Images.{Leaves}
use Rattle.pool_name.specs.declared.namer.Namer.{Ghosts as NamerGhosts}
use Rattle.intent_journal.specs.Overlay.{ComesTo}
use Rattle.intent_journal.specs.declared.journal.Journal.{Journal}
use Rattle.journal_view.specs.View.{told, uncertain}
use Rattle.attr_records.specs.declared.nodes.Item.{Item}
use Rattle.attr_records.specs.declared.trees.PutRule.{PutRule}
use Rattle.attr_records.specs.Items.{is_dir as is_dir_item, some_bytes}
use Rattle.attr_records.specs.Trees.{node_at, IsTree, broken_rule, broken_put}
use Rattle.attr_tables.specs.declared.records.Record.{Record}
use Rattle.attr_tables.specs.declared.records.Record.TheVariants.{File as FileRecord}
use Rattle.attr_tables.specs.Records.{IsContentOf, is_dir}
use Rattle.pool_changes.specs.Slots.{claims_of, unlisted}
use Rattle.pool_store.specs.declared.fault.PoolFault.{PoolFault}
use Rattle.pool_store.specs.declared.fault.PoolFault.TheVariants as P
use Rattle.pool_store.specs.declared.pool.Pool.{Pool}
use Rattle.pool_store.specs.Pools.{IsCertain, Misses}
use Rattle.pool_store.specs.Sources.{SaysStageLost}
use Rattle.dump_session.specs.declared.session.PutFault.{PutFault}
use Rattle.dump_session.specs.declared.session.PutFault.TheVariants as PF
use Rattle.open_sessions.specs.declared.sessions.OpenDump.{OpenDump}
use Rattle.open_sessions.specs.declared.sessions.Sessions.{Sessions}
use Rattle.open_sessions.specs.declared.stages.OpenStage.{OpenStage}
use Rattle.open_sessions.specs.Opened.{IsStage, OnlyDumps, OnlyStages, AreAlike}
use Rattle.open_sessions.specs.SessionLaws.{stage_index-sessions, dump_index-sessions, broken_rule-resolved, IsTree-rows, claims_in-stages}
use Rattle.open_sessions.specs.StageCallLaws.{AreSessions-stage_taken}
use Rattle.office_model.specs.declared.answer.Answer.TheVariants.{Done}
use Rattle.office_model.specs.declared.event.Event.{Event}
use Rattle.office_model.specs.declared.event.Event.TheVariants.{Put}
use Rattle.office_model.specs.declared.event.PutItem.TheVariants.{Staged}
use Rattle.office_model.specs.declared.event.StagedFile.{StagedFile}
use Rattle.office_model.specs.declared.refusal.BrokenRule.TheVariants.{NoSession, Put as PutBroken, ChainFull, TokensFull}
use Rattle.receipts.specs.declared.session.SessionName.{SessionName}
use Rattle.receipts.specs.declared.session.Token.{Token}
use Rattle.receipts.specs.Session.{is_same_session}
use Rattle.office_model.specs.Meaning.{Judged, Carried, Reply, ◌>>=◌, ◌>>◌, breaks, found as find}
use Rattle.office_model.specs.Parts.{At, at as stage_in, dump_at}
use Rattle.office_model.specs.Office.{Office, Dump, Stage, Names, dump_index, stage_index, stage_content, content_limit, with_dumps}
use Rattle.office_model.specs.Office as O
use Rattle.office_model.specs.PlacesLaws.{position-found}
use Rattle.office_model.specs.UsedNames.{IsRenamed, IsNamedIf, OnlyUsed}
use Rattle.office_model.specs.laws.PutLaws.{stage_content_is}
use Rattle.office_model.specs.events.Put as PutEvent
use Rattle.office_model.specs.events.Put.{name_change, staged_item}
use Rattle.office_model.specs.PairsLaws.{other_at}
use Rattle.office_files.specs.Pooled.{contents_of}
use Rattle.store_parts.specs.declared.parts.StoreParts.{StoreParts}
use Rattle.store_parts.specs.Held.{given}
use Rattle.store_parts.specs.States.{slots, staging_of, IsRunning}
use Rattle.store_parts.specs.Refusals.{refusal_of_pool}
use Rattle.store_parts.specs.Runs.{Runs}
use Rattle.store_parts.specs.FoundLaws.{dump_place, stage_place, IsStageFound, stage_found}
use Rattle.store_parts.specs.StagingLaws.{with_used}
use Rattle.store_dumps.specs.Claims.{LetsGo, claims_of_content}
use Rattle.store_dumps.specs.Putting.{record_for, content_found, TakesIn, refused_put}
use Rattle.store_dumps.specs.DumpLaws.{IsFound, dump_found}
use Rattle.store_dumps.specs.declared.tokens.EditToken.TheVariants.{Fresh, Full}
use Rattle.store_dumps.specs.Tokens.{judged_token}
use Rattle.store_dumps.specs.TokenLaws.{behind, carried_first, carried_full, once_missing, behind_set, fresh_for}
use Rattle.store_dumps.specs.NodeLaws.{with_record}
use Rattle.store_dumps.specs.StagedLaws.{staged_as}
use Rattle.store_dumps.specs.PutLaws as PutLaws
use Rattle.store_dumps.specs.PutLaws.{IsPut, IsTaken, dumps_with}
use Rattle.store_stages.proofs.StageFiles.{not_lost}

-- ---- what the model says

none_some : (rule : PutRule) → None ≡ Some rule → ⊥
none_some rule e = cc

not_over : (limit size : ℕ) → size ≤ limit → nat_lt limit size ≡ false
not_over limit size h = grind (arith, nat_tests)

-- the names of a put are those of a put of the stage's bytes
named_if : (office : Office) (names : Names) (judged : Judged Carried) (reply : Reply) (held : Option (List ℕ)) (used' : _)
    → IsRenamed (name_change held) office names judged reply (with_used names used')
    → OnlyUsed names (with_used names used') × IsNamedIf office names judged held used'
named_if office names judged reply None used' same = (refl, ap (λ (n : Names). n.used) same)
named_if office names judged reply (Some content) used' named = named

-- no dump has the name
module _ (session : SessionName) (path : List ℕ) (file : StagedFile) (token : Option Token) (office : Office) (names : Names)
    (none : dump_at office.dumps session ≡ Err NoSession) where
  abbrev full : Bool
  full = PutEvent.is_chain_full office.pool office.dumps names (stage_content office.stages file.stage)

  abbrev own : At Stage → Judged (At Stage)
  own stage = breaks NoSession (not (is_same_session stage.value.dump session)) >> Ok stage

  abbrev staged_by : At Stage → Judged PutEvent.Putting
  staged_by stage = PutEvent.with_put PutEvent.is_over session path (staged_item file stage.value.bytes) full office.dumps
      >>= λ dumps. Ok (record { dumps = dumps; stages = remove office.stages stage.index })

  abbrev done_by : PutEvent.Putting → Judged Carried
  done_by made = Ok (record { answer = Done; after = O.with_stages (with_dumps office made.dumps) made.stages })

  -- by the stage that was found
  abbrev put_at : Judged (At Stage) → Judged Carried
  put_at stage = ((stage >>= own) >>= staged_by) >>= done_by

  by_same : (index : ℕ) (stage : Stage) (same : Bool) → is_same_session stage.dump session ≡ same
      → put_at (Ok (record { index = index; value = stage })) ≡ Err NoSession
  by_same index stage true is = rw (is, none) refl
  by_same index stage false is = rw is refl

  abbrev stage_as : ℕ → Stage → Judged (At Stage)
  stage_as index value = Ok (record { index = index; value = value })

  by_value : (index : ℕ) (value : Option Stage)
      → put_at (find NoSession value >>= stage_as index) ≡ Err NoSession
  by_value index None = refl
  by_value index (Some stage) = by_same index stage (is_same_session stage.dump session) refl

  by_place : (place : Option ℕ) → put_at (stage_in NoSession office.stages place) ≡ Err NoSession
  by_place None = refl
  by_place (Some index) = by_value index (slice_get office.stages index)

  pub no_dump_put : PutEvent.carried session path (Staged file) token office names ≡ Err NoSession
  no_dump_put =
      once_missing session token office.dumps (PutEvent.repeated session (Staged file) office)
      (PutEvent.put session path (Staged file) office names) none (by_place (stage_index office.stages file.stage))

module _ {D N S : Type 0} {d : DiskGhosts D} {n : NamerGhosts N S} where
  module _ (old : StoreParts D N S d n) (session : SessionName) (path : List ℕ) (file : StagedFile) (token : Option Token) where
    abbrev put_of : Office → Names → Judged Carried
    put_of office names = PutEvent.put session path (Staged file) office names

    -- ---- what the dump's tokens say

    module _ (index : ℕ) (dump : OpenDump) (e : Some index ≡ dump_place old session)
        (there : slice_get old.sessions.dumps.items index ≡ Some dump) where
      -- what it makes, with the token kept
      first_made : judged_token dump.kept token ≡ Fresh → (office : Office) (names : Names) → IsRunning old office names
          → (made : Judged Carried) → put_of office names ≡ made
          → PutEvent.carried session path (Staged file) token office names ≡ (made >>= λ made. Ok (behind index token made))
      first_made first office names at made is = carried_first old session token index dump e there office names at
          (PutEvent.repeated session (Staged file) office) (put_of office names) first made is

      -- there is no room for it
      pub put_full : judged_token dump.kept token ≡ Full → (office : Office) (names : Names) → IsRunning old office names
          → PutEvent.carried session path (Staged file) token office names ≡ Err TokensFull
      put_full full office names at = carried_full old session token index dump e there office names at
          (PutEvent.repeated session (Staged file) office) (put_of office names) full

    -- the open stage in memory at the place that was found
    held_there : (office : Office) (names : Names) (at : IsRunning old office names) (p : ℕ) → Some p ≡ stage_place old file.stage
        → (held : OpenStage S) × (slice_get old.sessions.stages.items.items p ≡ Some held)
    held_there office names at p e =
        let found : stage_index office.stages file.stage ≡ Some p =
        stage_index-sessions n.holds (staging_of at.all names).staged office.stages old.sessions.stages.items.items
        at.sessions.stages file.stage ∙ sym e in
        let value = position-found (λ (stage : Stage). stage.number == file.stage) office.stages p found in
        other_at office.stages old.sessions.stages.items.items p value.0 at.sessions.stages.counted value.1

    -- no stage of the dump has the number
    no_stage : ((index : ℕ) (held : OpenStage S) → Some index ≡ stage_place old file.stage
        → slice_get old.sessions.stages.items.items index ≡ Some held → is_same_session held.dump session ≡ false)
        → (office : Office) (names : Names) → IsRunning old office names
        → put_of office names ≡ Err NoSession
    no_stage none office names at = step (stage_index office.stages file.stage) refl
      where
        step : (place : Option ℕ) → stage_index office.stages file.stage ≡ place
            → put_of office names ≡ Err NoSession
        step None e = rw e refl
        step (Some index) e =
            let there : Some index ≡ stage_place old file.stage =
            sym e ∙ stage_index-sessions n.holds (staging_of at.all names).staged office.stages old.sessions.stages.items.items
            at.sessions.stages file.stage in
            let held = held_there office names at index there in
            let f = stage_found old office names at file.stage index held.0 there held.1 in
            let other : is_same_session f.value.dump session ≡ false =
            ap (λ (s : SessionName). is_same_session s session) (sym f.is.dump) ∙ none index held.0 there held.1 in
            rw (f.is_at, other) refl

    pub no_stage_put : (index : ℕ) → Some index ≡ dump_place old session
        → ((dump : OpenDump) → slice_get old.sessions.dumps.items index ≡ Some dump → judged_token dump.kept token ≡ Fresh)
        → ((index : ℕ) (held : OpenStage S) → Some index ≡ stage_place old file.stage
        → slice_get old.sessions.stages.items.items index ≡ Some held → is_same_session held.dump session ≡ false)
        → (office : Office) (names : Names) → IsRunning old office names
        → PutEvent.carried session path (Staged file) token office names ≡ Err NoSession
    no_stage_put index e first none office names at =
        let there : dump_index office.dumps session ≡ Some index =
        dump_index-sessions (given (slots old)) (contents_of at.all) office.dumps old.sessions.dumps.items at.sessions.dumps session ∙ sym e in
        let value = position-found (λ (dump : Dump). is_same_session dump.name session) office.dumps index there in
        let dump = other_at office.dumps old.sessions.dumps.items index value.0 at.sessions.dumps.counted value.1 in
        first_made index dump.0 e dump.1 (first dump.0 dump.1) office names at (Err NoSession) (no_stage none office names at)

    module _ (p : ℕ) (held : OpenStage S) (e_stage : Some p ≡ stage_place old file.stage)
        (stage_there : slice_get old.sessions.stages.items.items p ≡ Some held) (of_dump : is_same_session held.dump session ≡ true) where
      module _ (office : Office) (names : Names) (at : IsRunning old office names) where
        abbrev stage : IsStageFound old office names at file.stage p held
        stage = stage_found old office names at file.stage p held e_stage stage_there

        abbrev node : Item
        node = staged_item file stage.value.bytes

        same_dump : is_same_session stage.value.dump session ≡ true
        same_dump = ap (λ (s : SessionName). is_same_session s session) (sym stage.is.dump) ∙ of_dump

        judged_where : (is_full : Bool) → PutEvent.is_chain_full office.pool office.dumps names (some_bytes stage.value.bytes) ≡ is_full
            → put_of office names ≡ PutEvent.staged_where session path file is_full office
        judged_where is_full is =
            ap (λ (b : Bool). PutEvent.staged_where session path file b office)
            (ap (PutEvent.is_chain_full office.pool office.dumps names)
            (stage_content_is office.stages file.stage p stage.value stage.place stage.there) ∙ is)

      module _ (index : ℕ) (dump : OpenDump) (e : Some index ≡ dump_place old session)
          (there : slice_get old.sessions.dumps.items index ≡ Some dump) (first : judged_token dump.kept token ≡ Fresh) where
        abbrev RuleIs : Option PutRule → Type 0
        RuleIs rule = IsTree is_dir dump.tree → broken_rule is_dir dump.tree path false false ≡ rule

        module _ (office : Office) (names : Names) (at : IsRunning old office names) where
          abbrev found : IsFound old session index dump office names at
          found = dump_found old session index dump e there office names at

          -- the rows are a tree
          tree_is : IsTree is_dir dump.tree
          tree_is = IsTree-rows (contents_of at.all) dump.tree found.is.tree_rows.whole
              (subst (IsTree is_dir_item) found.is.tree (at.sound.dumps.trees index found.value found.there).paths)

          -- no stage has too many bytes
          fits : nat_lt content_limit (length (stage office names at).value.bytes) ≡ false
          fits = not_over content_limit (length (stage office names at).value.bytes)
              (at.sound.office.now.stages.fit p (stage office names at).value (stage office names at).there)

          rule_is : (rule : Option PutRule) → RuleIs rule
              → broken_put is_dir_item PutEvent.is_over found.value.tree path (node office names at) ≡ rule
          rule_is rule is =
              ap (λ t. broken_put is_dir_item PutEvent.is_over t path (node office names at)) found.is.tree
              ∙ broken_rule-resolved (contents_of at.all) dump.tree found.is.tree_rows.whole.no_marks path false
              (nat_lt content_limit (length (stage office names at).value.bytes))
              ∙ ap (λ (large : Bool). broken_rule is_dir dump.tree path false large) fits ∙ is tree_is

          abbrev next : Office
          next = O.with_stages (with_dumps office (dumps_with office index found.value path (node office names at) token)) (remove office.stages p)

          put_judged : RuleIs None → PutEvent.is_chain_full office.pool office.dumps names (some_bytes (stage office names at).value.bytes) ≡ false
              → PutEvent.carried session path (Staged file) token office names ≡ Ok (record { answer = Done; after = next })
          put_judged rule free =
              first_made index dump e there first office names at (Ok (record {
                answer = Done;
                after = O.with_stages
                    (with_dumps office (slice_set office.dumps index (PutEvent.with_item found.value path (node office names at))))
                    (remove office.stages p);
              }))
              (judged_where office names at false free
              ∙ rw ((stage office names at).is_at, same_dump office names at, found.is_at, rule_is None rule) refl)
              ∙ ap Ok (behind_set office index token found.value (PutEvent.with_item found.value path (node office names at))
              (remove office.stages p) Done found.there)

          -- a put that breaks no rule
          put_is : RuleIs None → IsPut session path (Staged file) token office names (stage office names at).value.bytes
          put_is rule = record {
            full = λ full.
                first_made index dump e there first office names at (Err ChainFull)
                (judged_where office names at true full
                ∙ rw ((stage office names at).is_at, same_dump office names at, found.is_at, rule_is None rule) refl);
            named = λ used' free named reply.
                let c : Carried = record { answer = Done; after = next } in
                subst (λ (j : Judged Carried). OnlyUsed names (with_used names used')
                × IsNamedIf office names j (stage_content office.stages file.stage) used')
                (sym (put_judged rule free))
                (subst (λ (held : Option (List ℕ)). OnlyUsed names (with_used names used') × IsNamedIf office names (Ok c) held used')
                (sym (stage_content_is office.stages file.stage p (stage office names at).value (stage office names at).place
                (stage office names at).there))
                (named_if office names (Ok c) reply (some_bytes (stage office names at).value.bytes) used' (named c reply)));
          }

        broken_at : (rule : PutRule) → RuleIs (Some rule) → (office : Office) (names : Names) → IsRunning old office names
            → PutEvent.carried session path (Staged file) token office names ≡ Err (PutBroken rule)
        broken_at rule is office names at = first_made index dump e there first office names at (Err (PutBroken rule))
            (rw ((stage office names at).is_at, same_dump office names at, (found office names at).is_at, rule_is office names at (Some rule) is) refl)

        -- ---- the answers, behind the pool's

        module _ (journal : Journal D d) (pool : Pool N S n) (rule : RuleIs None) (form : pool.in_one_file ≡ old.pool.in_one_file)
            (stays : journal.halted ≡ old.journal.halted)
            (certain : IsCertain (slots old) (uncertain old.journal) → IsCertain (slots old) (uncertain journal))
            (crash : (all : Files) → d.files old.journal.disk ≡ Some all → IsCertain (slots old) (d.uncertain old.journal.disk)
            → Leaves d.moment d.left_since old.journal.disk journal.disk (ComesTo all (unlisted (slots old)))) where
          abbrev event : Event
          event = Put session path (Staged file) token

          abbrev mid : StoreParts D N S d n
          mid = record old { journal = journal; pool = pool }

          -- what is known of the stage's bytes
          abbrev OfStage : (List ℕ → Type 0) → Type 0
          OfStage P = (all : Files) (value : Stage) → told old.journal ≡ Some all → IsStage n.holds (λ k. all (F.Stage k)) value held
              → P value.bytes

          module _ (content : Option PoolId) (shape : IsContentOf held.size content)
              (takes : OfStage (TakesIn n.digest_of (slots old) (slots mid) (d.files old.journal.disk) (d.files journal.disk) content)) where
            abbrev row : Record
            row = FileRecord (record { attr = file.attr; group = file.group; size = held.size; content = content })

            taken : (office : Office) (names : Names) (at : IsRunning old office names)
                → IsTaken old session path (Staged file) token journal pool form stays certain crash content office names at (node office names at)
            taken office names at =
                let f = stage office names at in
                let shape_is : IsContentOf (length f.value.bytes) content = subst (λ (k : ℕ). IsContentOf k content) f.is.size shape in
                record {
                  put = put_is office names at rule;
                  shape = shape_is;
                  staged = staged_as old mid office names at (certain at.fits.certain) content f.value.bytes shape_is
                      (takes at.all f.value at.told_is f.is);
                }

            row_is : (office : Office) (names : Names) (at : IsRunning old office names) → row ≡ record_for (node office names at) content
            row_is office names at =
                ap (λ (k : ℕ). FileRecord (record { attr = file.attr; group = file.group; size = k; content = content })) (stage office names at).is.size

            -- the row was put, and the stage ended
            pub runs_staged : (new : StoreParts D N S d n) (edited : Sessions S) {failed : Type 0} → new.journal ≡ journal
                → new.catalog ≡ old.catalog → new.counts ≡ old.counts → new.partials ≡ old.partials → new.views ≡ old.views
                → new.halted ≡ old.halted
                → (((id : PoolId) → claims_of_content (content_found (node_at dump.tree path)) id ≤ claims_of (slots mid id))
                → LetsGo (λ id. claims_of_content (content_found (node_at dump.tree path)) id) (slots mid) (slots new))
                → new.pool.in_one_file ≡ pool.in_one_file
                → edited.dumps.items ≡ slice_set old.sessions.dumps.items index (with_record dump path row token)
                → OnlyDumps old.sessions edited → OnlyStages edited new.sessions
                → new.sessions.stages.items.items ≡ remove edited.stages.items.items p → new.sessions.stages.next ≡ edited.stages.next
                → Counted (d.fault_count old.journal.disk) (d.fault_count journal.disk) failed → (failed → ⊥) → Runs old event (Ok Done) new
            runs_staged new edited same catalog counts partials views halted go kept dumps only ends items next_stage counted fine =
                PutLaws.runs_put old session path (Staged file) token journal pool form stays certain crash content new same catalog counts partials views halted
                kept counted fine index dump e there go
                (λ office names at.
                let t = taken office names at in
                let dumps_are : edited.dumps.items ≡ slice_set old.sessions.dumps.items index
                (with_record dump path (record_for (node office names at) content) token) =
                dumps ∙ ap (λ (r : Record). slice_set old.sessions.dumps.items index (with_record dump path r token)) (row_is office names at) in
                record {
                  node = node office names at;
                  taken = t;
                  now = (next office names at).volatile;
                  judged = put_judged office names at rule t.staged.free;
                  sessions = AreSessions-stage_taken edited new.sessions ends n.holds (given (slots mid)) (contents_of t.staged.has.all')
                      (staging_of t.staged.has.all' (with_used names t.staged.has.used'))
                      (record office.volatile { dumps = dumps_with office index (found office names at).value path (node office names at) token })
                      (PutLaws.sessions_edited old session path (Staged file) token journal pool form stays certain crash content office names at
                      (node office names at) t index dump e there edited dumps_are only (fresh_for dump.kept token first)) p items next_stage;
                  claims = λ id.
                      ap (λ (k : ℕ). k + claims_of_content (content_found (node_at dump.tree path)) id)
                      (claims_in-stages edited new.sessions ends id)
                      ∙ PutLaws.claims_edited old session path (Staged file) token journal pool form stays certain crash content office names at
                      (node office names at) t index dump e there edited dumps_are only (fresh_for dump.kept token first) id;
                })

            -- it was not, and the claim is let go
            pub runs_staged_back : (new : StoreParts D N S d n) {failed : Type 0} (fault : PutFault)
                → ((broken : PutRule) → fault ≡ PF.Broken broken → IsTree is_dir dump.tree
                → broken_rule is_dir dump.tree path false false ≡ Some broken)
                → new.journal ≡ journal → new.catalog ≡ old.catalog → new.counts ≡ old.counts → new.partials ≡ old.partials
                → new.views ≡ old.views → new.halted ≡ old.halted
                → (((id : PoolId) → claims_of_content content id ≤ claims_of (slots mid id))
                → LetsGo (λ id. claims_of_content content id) (slots mid) (slots new))
                → new.pool.in_one_file ≡ pool.in_one_file → AreAlike old.sessions new.sessions
                → Counted (d.fault_count old.journal.disk) (d.fault_count journal.disk) failed → (failed → ⊥)
                → Runs old event (Err (refused_put fault)) new
            runs_staged_back new fault says same catalog counts partials views halted go kept alike counted fine =
                PutLaws.runs_put_back old session path (Staged file) token journal pool form stays certain crash content new same catalog counts partials views
                halted kept counted fine fault
                (λ office names at broken is.
                let tree = tree_is office names at in none_some broken (sym (rule tree) ∙ says broken is tree))
                go alike (λ office names at. (node office names at, taken office names at))

          -- the pool gave no name
          pub runs_staged_missed : (fault : PoolFault) → 0 < held.size
              → OfStage (λ bytes. Misses n.digest_of (slots old) (slots mid) (d.files old.journal.disk) (d.files journal.disk) bytes fault)
              → SaysStageLost held.number held.size (d.files old.journal.disk) fault
              → ((id : PoolId) (found : Option (List ℕ)) → fault ≡ P.Damaged id found → ⊥)
              → Counted (d.fault_count old.journal.disk) (d.fault_count journal.disk) (IsErrOf {T = Option PoolId} (Err fault) P.Disk)
              → Runs old event (Err (refusal_of_pool fault)) mid
          runs_staged_missed fault some misses lost undamaged counted =
              PutLaws.runs_missed old session path (Staged file) token journal pool form stays certain crash fault undamaged
              (λ none. absurd none)
              (λ office names at.
              let f = stage office names at in
              record {
                bytes = f.value.bytes;
                put = put_is office names at rule;
                some = subst (λ (k : ℕ). 0 < k) f.is.size some;
                misses = misses at.all f.value at.told_is f.is;
                known = not_lost n.holds old.journal at.all f.value held at.told_is f.is some fault lost;
              }) counted

    pub put_broken : (p : ℕ) (e_stage : Some p ≡ stage_place old file.stage)
        → ((held : OpenStage S) → slice_get old.sessions.stages.items.items p ≡ Some held → is_same_session held.dump session ≡ true)
        → (index : ℕ) (dump : OpenDump) → Some index ≡ dump_place old session → slice_get old.sessions.dumps.items index ≡ Some dump
        → judged_token dump.kept token ≡ Fresh → (rule : PutRule) → (IsTree is_dir dump.tree → broken_rule is_dir dump.tree path false false ≡ Some rule)
        → (office : Office) (names : Names) → IsRunning old office names
        → PutEvent.carried session path (Staged file) token office names ≡ Err (PutBroken rule)
    put_broken p e_stage of_dump index dump e there first rule is office names at =
        let held = held_there office names at p e_stage in
        broken_at p held.0 e_stage held.1 (of_dump held.0 held.1) index dump e there first rule is office names at
