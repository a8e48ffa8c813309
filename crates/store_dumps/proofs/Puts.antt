-- What a put leaves of an item with its bytes.
--     no_dump_put, put_full, put_broken      a rule that it breaks
--     runs_put_again      it repeats an earlier one
--     runs_put, runs_put_back, runs_missed      the node was put; the tree took none; the pool gave no name
use Rattle.std.specs.Prelude.{◌≡◌, ◌<◌, ◌≤◌, ℕ, Bool, true, false, not, ◌&&◌, nat_le, List, length, Option, Some, None, Ok, Err, is_some, slice_get, slice_set, IsErrOf, if◌then◌else◌}
use Rattle.std.proofs.Common.{refl, sym, ap, ◌∙◌, subst}
use Rattle.fault_counts.specs.Counts.{Counted}
use Rattle.disk_trait.specs.declared.ids.PoolId.{PoolId}
use Rattle.disk_trait.specs.declared.disk.Disk.{Ghosts as DiskGhosts}
use Rattle.disk_trait.specs.Files.{Files}
use Rattle.disk_trait.specs.Images.{Leaves}
use Rattle.pool_name.specs.declared.namer.Namer.{Ghosts as NamerGhosts}
use Rattle.intent_journal.specs.Overlay.{ComesTo}
use Rattle.intent_journal.specs.declared.journal.Journal.{Journal}
use Rattle.journal_view.specs.View.{uncertain}
use Rattle.attr_records.specs.declared.nodes.Item.{Item}
use Rattle.attr_records.specs.declared.trees.PutRule.{PutRule}
use Rattle.attr_records.specs.declared.trees.PutRule.TheVariants.{NoParent, IsDirectory, TooManyEntries, FileTooLarge}
use Rattle.attr_records.specs.Items.{is_dir as is_dir_item, is_large, some_bytes, content_of}
use Rattle.attr_records.specs.Paths.{parent}
use Rattle.attr_records.specs.Trees.{node_at, IsTree, broken_rule, broken_put, is_parent_in, is_dir_at}
use Rattle.attr_tables.specs.Records.{IsContentOf, is_dir}
use Rattle.merge_view.specs.Views.{Rows}
use Rattle.pool_changes.specs.Slots.{claims_of, unlisted}
use Rattle.pool_store.specs.declared.fault.PoolFault.{PoolFault}
use Rattle.pool_store.specs.declared.fault.PoolFault.TheVariants as P
use Rattle.pool_store.specs.declared.pool.Pool.{Pool}
use Rattle.pool_store.specs.Pools.{IsCertain, IsNotForeign, Misses}
use Rattle.dump_session.specs.declared.session.PutFault.{PutFault}
use Rattle.dump_session.specs.declared.session.PutFault.TheVariants as PF
use Rattle.open_sessions.specs.declared.sessions.OpenDump.{OpenDump}
use Rattle.open_sessions.specs.Opened.{OnlyDumps, AreAlike}
use Rattle.open_sessions.specs.SessionLaws.{broken_rule-resolved, IsTree-rows}
use Rattle.office_model.specs.declared.answer.Answer.TheVariants.{Done}
use Rattle.office_model.specs.declared.event.Event.{Event}
use Rattle.office_model.specs.declared.event.Event.TheVariants.{Put}
use Rattle.office_model.specs.declared.event.PutItem.TheVariants.{Whole}
use Rattle.office_model.specs.declared.refusal.BrokenRule.TheVariants.{NoSession, Put as PutBroken, ChainFull, TokensFull}
use Rattle.receipts.specs.declared.session.SessionName.{SessionName}
use Rattle.receipts.specs.declared.session.Token.{Token}
use Rattle.tree_frames.specs.Frames.{bytes_of as item_bytes}
use Rattle.office_model.specs.Meaning.{Judged, Carried, ◌>>=◌}
use Rattle.office_model.specs.Office.{Office, Names, with_dumps}
use Rattle.office_model.specs.Parts.{dump_at}
use Rattle.office_model.specs.UsedNames.{IsRenamed}
use Rattle.office_model.specs.events.Put as PutEvent
use Rattle.office_model.specs.events.Put.{name_change}
use Rattle.office_files.specs.Pooled.{contents_of}
use Rattle.store_parts.specs.declared.parts.StoreParts.{StoreParts}
use Rattle.store_parts.specs.States.{slots, IsRunning}
use Rattle.store_parts.specs.Refusals.{refusal_of_pool}
use Rattle.store_parts.specs.Runs.{Runs}
use Rattle.store_parts.specs.StagingLaws.{with_used}
use Rattle.store_dumps.specs.Claims.{LetsGo, claims_of_content}
use Rattle.store_dumps.specs.Putting.{record_for, content_found, TakesIn, refused_put}
use Rattle.store_dumps.specs.DumpLaws.{place_of, IsFound, dump_found}
use Rattle.store_dumps.specs.declared.tokens.EditToken.TheVariants.{Fresh, Kept, Full}
use Rattle.store_dumps.specs.Tokens.{judged_token}
use Rattle.store_dumps.specs.TokenLaws.{behind, carried_first, carried_kept, carried_full, once_missing, behind_set, fresh_for, still_renamed}
use Rattle.store_dumps.specs.RunningLaws.{runs_kept}
use Rattle.store_dumps.specs.NodeLaws.{content_is, with_record}
use Rattle.store_dumps.specs.StagedLaws.{staged_as}
use Rattle.store_dumps.specs.PutLaws as PutLaws
use Rattle.store_dumps.specs.PutLaws.{IsPut, IsTaken, dumps_with}

none_some : (rule : PutRule) → None ≡ Some rule → ⊥
none_some rule e = cc

-- a rule that is broken whatever the size is broken first
large_later : (rows : Rows) (path : List ℕ) (dir large : Bool) (rule : PutRule) → broken_rule is_dir rows path dir false ≡ Some rule
    → broken_rule is_dir rows path dir large ≡ Some rule
large_later rows path dir large rule e =
    step (not (is_parent_in is_dir rows (parent path))) (is_dir_at is_dir rows path && not dir)
    (nat_le 1048576 (length rows) && not (is_some (node_at rows path))) e
  where
    step : (a b c : Bool) → (if a then Some NoParent else (if b then Some IsDirectory else (if c then Some TooManyEntries else None)))
        ≡ Some rule
        → (if a then Some NoParent else
        (if b then Some IsDirectory else (if c then Some TooManyEntries else (if large then Some FileTooLarge else None))))
        ≡ Some rule
    step true b c e = e
    step false true c e = e
    step false false true e = e
    step false false false e = absurd (none_some rule e)

-- there is no such dump
pub no_dump_put : (session : SessionName) (path : List ℕ) (item : Item) (token : Option Token) (office : Office) (names : Names)
    → dump_at office.dumps session ≡ Err NoSession → PutEvent.carried session path (Whole item) token office names ≡ Err NoSession
no_dump_put session path item token office names e =
    once_missing session token office.dumps office (PutEvent.put session path (Whole item) office names) e (rw e refl)

module _ {D N S : Type 0} {d : DiskGhosts D} {n : NamerGhosts N S} where
  module _ (old : StoreParts D N S d n) (session : SessionName) (path : List ℕ) (item : Item) (token : Option Token) where
    -- ---- what the dump's tokens say

    module _ (index : ℕ) (dump : OpenDump) (e : Some index ≡ place_of old.sessions.dumps.items session)
        (there : slice_get old.sessions.dumps.items index ≡ Some dump) where
      -- an earlier put or removal had its token
      pub runs_put_again : judged_token dump.kept token ≡ Kept → Runs old (Put session path (Whole item) token) (Ok Done) old
      runs_put_again kept = runs_kept old old (Put session path (Whole item) token) Done refl refl
          (λ office names at. record {
            next = office;
            made = carried_kept old session token index dump e there office names at office
                (PutEvent.put session path (Whole item) office names) kept;
            running = at;
          })
          (λ office names.
          still_renamed office names (PutEvent.carried session path (Whole item) token office names) (Ok Done) (content_of item)) refl

      -- there is no room for it
      pub put_full : judged_token dump.kept token ≡ Full → (office : Office) (names : Names) → IsRunning old office names
          → PutEvent.carried session path (Whole item) token office names ≡ Err TokensFull
      put_full full office names at =
          carried_full old session token index dump e there office names at office (PutEvent.put session path (Whole item) office names) full

    -- ---- the rules

    module _ (index : ℕ) (dump : OpenDump) (e : Some index ≡ place_of old.sessions.dumps.items session)
        (there : slice_get old.sessions.dumps.items index ≡ Some dump) (first : judged_token dump.kept token ≡ Fresh) where
      abbrev RuleIs : Option PutRule → Type 0
      RuleIs rule = IsTree is_dir dump.tree → rule ≡ broken_rule is_dir dump.tree path (is_dir_item item) (is_large item)

      module _ (office : Office) (names : Names) (at : IsRunning old office names) where
        abbrev found : IsFound old session index dump office names at
        found = dump_found old session index dump e there office names at

        -- the rows are a tree
        tree_is : IsTree is_dir dump.tree
        tree_is = IsTree-rows (contents_of at.all) dump.tree found.is.tree_rows.whole
            (subst (IsTree is_dir_item) found.is.tree (at.sound.dumps.trees index found.value found.there).paths)

        rule_is : (rule : Option PutRule) → RuleIs rule → broken_put is_dir_item is_large found.value.tree path item ≡ rule
        rule_is rule is =
            ap (λ t. broken_put is_dir_item is_large t path item) found.is.tree
            ∙ broken_rule-resolved (contents_of at.all) dump.tree found.is.tree_rows.whole.no_marks path (is_dir_item item) (is_large item)
            ∙ sym (is tree_is)

        abbrev next : Office
        next = with_dumps office (dumps_with office index found.value path item token)

        -- what it makes, with the token kept
        first_made : (made : Judged Carried) → PutEvent.put session path (Whole item) office names ≡ made
            → PutEvent.carried session path (Whole item) token office names ≡ (made >>= λ made. Ok (behind index token made))
        first_made made is = carried_first old session token index dump e there office names at office
            (PutEvent.put session path (Whole item) office names) first made is

        judged_where : (full : Bool) → PutEvent.is_chain_full office.pool office.dumps names (content_of item) ≡ full
            → PutEvent.put session path (Whole item) office names ≡ PutEvent.carried_where session path item full office
        judged_where full is = ap (λ (b : Bool). PutEvent.carried_where session path item b office) is

        put_judged : RuleIs None → PutEvent.is_chain_full office.pool office.dumps names (some_bytes (item_bytes item)) ≡ false
            → PutEvent.carried session path (Whole item) token office names ≡ Ok (record { answer = Done; after = next })
        put_judged rule free =
            first_made (Ok (record { answer = Done; after = with_dumps office (slice_set office.dumps index (PutEvent.with_item found.value path item)) }))
            (judged_where false (ap (PutEvent.is_chain_full office.pool office.dumps names) (content_is item) ∙ free)
            ∙ rw (found.is_at, rule_is None rule) refl)
            ∙ ap Ok (behind_set office index token found.value (PutEvent.with_item found.value path item) office.stages Done found.there)

        -- a put that breaks no rule
        put_is : RuleIs None → IsPut session path (Whole item) token office names (item_bytes item)
        put_is rule = record {
          full = λ full.
              first_made (Err ChainFull)
              (judged_where true (ap (PutEvent.is_chain_full office.pool office.dumps names) (content_is item) ∙ full)
              ∙ rw (found.is_at, rule_is None rule) refl);
          named = λ used' free named reply.
              subst (λ (j : Judged Carried). IsRenamed (name_change (content_of item)) office names j reply (with_used names used'))
              (sym (put_judged rule free))
              (subst (λ (c : Option (List ℕ)).
              IsRenamed (name_change c) office names (Ok (record { answer = Done; after = next })) reply (with_used names used'))
              (sym (content_is item)) (named (record { answer = Done; after = next }) reply));
        }

      pub put_broken : (rule : PutRule) → RuleIs (Some rule)
          → (office : Office) (names : Names) → IsRunning old office names
          → PutEvent.carried session path (Whole item) token office names ≡ Err (PutBroken rule)
      put_broken rule is office names at = first_made office names at (Err (PutBroken rule))
          (rw ((found office names at).is_at, rule_is office names at (Some rule) is) refl)

      -- ---- the answers, behind the pool's

      module _ (journal : Journal D d) (pool : Pool N S n) (rule : RuleIs None) (form : pool.in_one_file ≡ old.pool.in_one_file)
          (stays : journal.halted ≡ old.journal.halted)
          (certain : IsCertain (slots old) (uncertain old.journal) → IsCertain (slots old) (uncertain journal))
          (crash : (all : Files) → d.files old.journal.disk ≡ Some all → IsCertain (slots old) (d.uncertain old.journal.disk)
          → Leaves d.moment d.left_since old.journal.disk journal.disk (ComesTo all (unlisted (slots old)))) where
        abbrev event : Event
        event = Put session path (Whole item) token

        abbrev mid : StoreParts D N S d n
        mid = record old { journal = journal; pool = pool }

        module _ (content : Option PoolId) (shape : IsContentOf (length (item_bytes item)) content)
            (takes : TakesIn n.digest_of (slots old) (slots mid) (d.files old.journal.disk) (d.files journal.disk) content
            (item_bytes item)) where
          taken : (office : Office) (names : Names) (at : IsRunning old office names)
              → IsTaken old session path (Whole item) token journal pool form stays certain crash content office names at item
          taken office names at = record {
            put = put_is office names at rule;
            shape = shape;
            staged = staged_as old mid office names at (certain at.fits.certain) content (item_bytes item) shape takes;
          }

          -- the row was put
          pub runs_put : (new : StoreParts D N S d n) {failed : Type 0} → new.journal ≡ journal → new.catalog ≡ old.catalog
              → new.counts ≡ old.counts → new.partials ≡ old.partials → new.views ≡ old.views
              → new.halted ≡ old.halted
              → (((id : PoolId) → claims_of_content (content_found (node_at dump.tree path)) id ≤ claims_of (slots mid id))
              → LetsGo (λ id. claims_of_content (content_found (node_at dump.tree path)) id) (slots mid) (slots new))
              → new.pool.in_one_file ≡ pool.in_one_file
              → new.sessions.dumps.items ≡ slice_set old.sessions.dumps.items index (with_record dump path (record_for item content) token)
              → OnlyDumps old.sessions new.sessions
              → Counted (d.fault_count old.journal.disk) (d.fault_count journal.disk) failed → (failed → ⊥) → Runs old event (Ok Done) new
          runs_put new same catalog counts partials views halted go kept dumps only counted fine =
              PutLaws.runs_put old session path (Whole item) token journal pool form stays certain crash content new same catalog counts partials views halted
              kept counted fine index dump e there go
              (λ office names at.
              let t = taken office names at in
              record {
                node = item;
                taken = t;
                now = (next office names at).volatile;
                judged = put_judged office names at rule t.staged.free;
                sessions = PutLaws.sessions_edited old session path (Whole item) token journal pool form stays certain crash content office names at
                    item t index dump e there new.sessions dumps only (fresh_for dump.kept token first);
                claims = PutLaws.claims_edited old session path (Whole item) token journal pool form stays certain crash content office names at
                    item t index dump e there new.sessions dumps only (fresh_for dump.kept token first);
              })

          -- it was not, and the claim is let go
          pub runs_put_back : (new : StoreParts D N S d n) {failed : Type 0} (fault : PutFault)
              → ((broken : PutRule) → fault ≡ PF.Broken broken → IsTree is_dir dump.tree
              → broken_rule is_dir dump.tree path (is_dir_item item) false ≡ Some broken)
              → new.journal ≡ journal → new.catalog ≡ old.catalog → new.counts ≡ old.counts → new.partials ≡ old.partials → new.views ≡ old.views
              → new.halted ≡ old.halted
              → (((id : PoolId) → claims_of_content content id ≤ claims_of (slots mid id))
              → LetsGo (λ id. claims_of_content content id) (slots mid) (slots new))
              → new.pool.in_one_file ≡ pool.in_one_file → AreAlike old.sessions new.sessions
              → Counted (d.fault_count old.journal.disk) (d.fault_count journal.disk) failed → (failed → ⊥)
              → Runs old event (Err (refused_put fault)) new
          runs_put_back new fault says same catalog counts partials views halted go kept alike counted fine =
              PutLaws.runs_put_back old session path (Whole item) token journal pool form stays certain crash content new same catalog counts partials views
              halted kept counted fine fault
              (λ office names at broken is.
              let tree = tree_is office names at in
              none_some broken (rule tree
              ∙ large_later dump.tree path (is_dir_item item) (is_large item) broken (says broken is tree)))
              go alike (λ office names at. (item, taken office names at))

        -- the pool gave no name
        pub runs_missed : (fault : PoolFault) → 0 < length (item_bytes item)
            → Misses n.digest_of (slots old) (slots mid) (d.files old.journal.disk) (d.files journal.disk) (item_bytes item) fault
            → ((id : PoolId) (found : Option (List ℕ)) → fault ≡ P.Damaged id found → ⊥) → IsNotForeign fault
            → Counted (d.fault_count old.journal.disk) (d.fault_count journal.disk) (IsErrOf {T = Option PoolId} (Err fault) P.Disk)
            → Runs old event (Err (refusal_of_pool fault)) mid
        runs_missed fault some misses undamaged known counted =
            PutLaws.runs_missed old session path (Whole item) token journal pool form stays certain crash fault undamaged (λ none. known)
            (λ office names at. record {
              bytes = item_bytes item;
              put = put_is office names at rule;
              some = some;
              misses = misses;
              known = known;
            }) counted
