-- What a removal leaves.
--     no_dump_remove, remove_full, no_path      a rule that it breaks
--     runs_remove_again      it repeats an earlier one
--     runs_removed      the path was removed
use Rattle.std.specs.Prelude.{◌≡◌, ◌≤◌, ℕ, Bool, true, false, not, cond, List, [], ◌∷◌, Option, Some, None, Ok, Err, is_some, slice_get, slice_set}
use Rattle.std.proofs.Common.{refl, sym, ap, ◌∙◌, subst, arith}
use Rattle.disk_trait.specs.declared.ids.PoolId.{PoolId}
use Rattle.disk_trait.specs.declared.disk.Disk.{Ghosts as DiskGhosts}
use Rattle.pool_name.specs.declared.namer.Namer.{Ghosts as NamerGhosts}
use Rattle.pool_changes.specs.Slots.{Slots, claims_of}
use Rattle.ordered_lists.specs.OrderLaws.{IsInOrder-where_key}
use Rattle.attr_records.specs.Paths.{path_cmp, is_within}
use Rattle.attr_records.specs.Trees.{node_at, without}
use Rattle.merge_view.specs.Views.{Rows, HasNoMarks}
use Rattle.merge_view.specs.Runs.{within_rows}
use Rattle.stored_trees.specs.Resolved.{AreTold}
use Rattle.stored_trees.specs.ResolvedLaws.{without-resolved}
use Rattle.stored_trees.specs.Occurrences.{occurrences}
use Rattle.open_sessions.specs.declared.sessions.OpenDump.{OpenDump}
use Rattle.open_sessions.specs.Opened.{AreRowsOf, IsDump, edited, keeping_behind, IsFreshFor, claims_in, OnlyDumps}
use Rattle.open_sessions.specs.EditLaws.{IsDump-keeping}
use Rattle.open_sessions.specs.CallLaws.{AreSessions-dump_edited, claims_in-dump_edited}
use Rattle.open_sessions.specs.SessionLaws.{claims_in_dumps-remove, occurrences-without, is_some-resolved}
use Rattle.office_model.specs.declared.answer.Answer.TheVariants.{Done}
use Rattle.office_model.specs.declared.event.Event.TheVariants.{Remove}
use Rattle.office_model.specs.declared.refusal.BrokenRule.TheVariants.{NoSession, NoPath, TokensFull}
use Rattle.receipts.specs.declared.session.SessionName.{SessionName}
use Rattle.receipts.specs.declared.session.Token.{Token}
use Rattle.office_model.specs.Office.{Office, Dump, Names, with_dumps}
use Rattle.office_model.specs.Meaning.{Carried, Judged, ◌>>=◌}
use Rattle.office_model.specs.Parts.{dump_at}
use Rattle.office_model.specs.laws.StateLaws.{AreSound-carried}
use Rattle.office_model.specs.events.Remove as RemoveEvent
use Rattle.office_files.specs.Pooled.{contents_of}
use Rattle.store_parts.specs.declared.parts.StoreParts.{StoreParts}
use Rattle.store_parts.specs.Held.{given}
use Rattle.store_parts.specs.States.{slots, IsRunning, staging_of}
use Rattle.store_parts.specs.Runs.{Runs}
use Rattle.store_dumps.specs.Claims.{LetsGo}
use Rattle.store_dumps.specs.DumpLaws.{place_of, dump_found}
use Rattle.store_dumps.specs.declared.tokens.EditToken.TheVariants.{Fresh, Kept, Full}
use Rattle.store_dumps.specs.Tokens.{judged_token}
use Rattle.store_dumps.specs.TokenLaws.{behind, carried_first, carried_kept, carried_full, once_missing, behind_set, fresh_for}
use Rattle.store_dumps.specs.RunningLaws.{running_let_go, runs_kept}

-- ---- rows without a path

told_without : (given : PoolId → Type 0) (contents : PoolId → List ℕ) (rows : Rows) (path : List ℕ) → AreTold given contents rows
    → AreTold given contents (without rows path)
told_without given contents [] path told = told
told_without given contents (row ∷ rows) path told = step (is_within path row.0) (told_without given contents rows path told.1)
  where
    step : (b : Bool) → AreTold given contents (without rows path)
        → AreTold given contents (cond (not b) (row ∷ without rows path) (without rows path))
    step true rest = rest
    step false rest = (told.0, rest)

clean_without : (rows : Rows) (path : List ℕ) → HasNoMarks rows → HasNoMarks (without rows path)
clean_without [] path clean = clean
clean_without (row ∷ rows) path clean = step (is_within path row.0) (clean_without rows path clean.1)
  where
    step : (b : Bool) → HasNoMarks (without rows path) → HasNoMarks (cond (not b) (row ∷ without rows path) (without rows path))
    step true rest = rest
    step false rest = (clean.0, rest)

rows_without : (given : PoolId → Type 0) (contents : PoolId → List ℕ) (rows : Rows) (path : List ℕ) → AreRowsOf given contents rows
    → AreRowsOf given contents (without rows path)
rows_without given contents rows path of = record {
  whole = record {
    in_order = IsInOrder-where_key path_cmp (λ p. not (is_within path p)) rows of.whole.in_order;
    no_marks = clean_without rows path of.whole.no_marks;
  };
  told = told_without given contents rows path of.told;
}

pub go_alike : (old new : Slots) (rows rows' : Rows) → rows ≡ rows'
    → (((id : PoolId) → occurrences id rows ≤ claims_of (old id)) → LetsGo (λ id. occurrences id rows) old new)
    → ((id : PoolId) → occurrences id rows' ≤ claims_of (old id)) → LetsGo (λ id. occurrences id rows') old new
go_alike old new rows rows' same go =
    subst (λ (r : Rows). ((id : PoolId) → occurrences id r ≤ claims_of (old id)) → LetsGo (λ id. occurrences id r) old new) same go

-- a dump without a path, which keeps the token, if there is one
abbrev pub removed : OpenDump → List ℕ → Option Token → OpenDump
removed dump path token = edited dump (without dump.tree path) token

dump_without : (given : PoolId → Type 0) (contents : PoolId → List ℕ) (value : Dump) (dump : OpenDump) (path : List ℕ)
    (token : Option Token) → IsFreshFor dump.kept token → IsDump given contents value dump
    → IsDump given contents (keeping_behind token (RemoveEvent.with_removed value path)) (removed dump path token)
dump_without given contents value dump path token fresh is =
    IsDump-keeping given contents (RemoveEvent.with_removed value path) (record dump { tree = without dump.tree path }) (record {
      name = is.name;
      host = is.host;
      kind = is.kind;
      start = is.start;
      base = is.base;
      base_rows = is.base_rows;
      tree = ap (λ t. without t path) is.tree ∙ sym (without-resolved contents dump.tree path);
      tree_rows = rows_without given contents dump.tree path is.tree_rows;
      token = is.token;
      kept = is.kept;
    }) token fresh

-- there is no such dump
pub no_dump_remove : (session : SessionName) (path : List ℕ) (token : Option Token) (office : Office) (names : Names)
    → dump_at office.dumps session ≡ Err NoSession → RemoveEvent.carried session path token office ≡ Err NoSession
no_dump_remove session path token office names e =
    once_missing session token office.dumps office (RemoveEvent.removed session path office) e (rw e refl)

module _ {D N S : Type 0} {d : DiskGhosts D} {n : NamerGhosts N S} where
  module _ (old : StoreParts D N S d n) (session : SessionName) (path : List ℕ) (token : Option Token) where
    module _ (index : ℕ) (dump : OpenDump) (e : Some index ≡ place_of old.sessions.dumps.items session)
        (there : slice_get old.sessions.dumps.items index ≡ Some dump) where
      -- an earlier put or removal had its token
      pub runs_remove_again : judged_token dump.kept token ≡ Kept → Runs old (Remove session path token) (Ok Done) old
      runs_remove_again kept = runs_kept old old (Remove session path token) Done refl refl
          (λ office names at. record {
            next = office;
            made = carried_kept old session token index dump e there office names at office (RemoveEvent.removed session path office) kept;
            running = at;
          })
          (λ office names. refl) refl

      -- there is no room for it
      pub remove_full : judged_token dump.kept token ≡ Full → (office : Office) (names : Names) → IsRunning old office names
          → RemoveEvent.carried session path token office ≡ Err TokensFull
      remove_full full office names at =
          carried_full old session token index dump e there office names at office (RemoveEvent.removed session path office) full

      -- what it makes, with the token kept
      first_made : judged_token dump.kept token ≡ Fresh → (office : Office) (names : Names) → IsRunning old office names
          → (made : Judged Carried) → RemoveEvent.removed session path office ≡ made
          → RemoveEvent.carried session path token office ≡ (made >>= λ made. Ok (behind index token made))
      first_made first office names at made is =
          carried_first old session token index dump e there office names at office (RemoveEvent.removed session path office) first made is

      path_is : (office : Office) (names : Names) (at : IsRunning old office names)
          → is_some (node_at (dump_found old session index dump e there office names at).value.tree path) ≡ is_some (node_at dump.tree path)
      path_is office names at =
          let found = dump_found old session index dump e there office names at in
          ap (λ t. is_some (node_at t path)) found.is.tree ∙ is_some-resolved (contents_of at.all) dump.tree path

      pub no_path : judged_token dump.kept token ≡ Fresh → node_at dump.tree path ≡ None
          → (office : Office) (names : Names) → IsRunning old office names → RemoveEvent.carried session path token office ≡ Err NoPath
      no_path first nothing office names at =
          let found = dump_found old session index dump e there office names at in
          let none : is_some (node_at found.value.tree path) ≡ false = path_is office names at ∙ ap is_some nothing in
          first_made first office names at (Err NoPath) (rw (found.is_at, none) refl)

      enough : (office : Office) (names : Names) → IsRunning old office names → (id : PoolId)
          → occurrences id (within_rows path dump.tree) ≤ claims_of (slots old id)
      enough office names at id =
          omega (
            arith,
            at.claimed id,
            claims_in_dumps-remove old.sessions.dumps.items id index dump there,
            occurrences-without id dump.tree path,
          )

      pub runs_removed : judged_token dump.kept token ≡ Fresh → (new : StoreParts D N S d n) → is_some (node_at dump.tree path) ≡ true → new.journal ≡ old.journal
          → new.catalog ≡ old.catalog → new.counts ≡ old.counts → new.partials ≡ old.partials → new.views ≡ old.views → new.halted ≡ old.halted
          → (((id : PoolId) → occurrences id (within_rows path dump.tree) ≤ claims_of (slots old id))
          → LetsGo (λ id. occurrences id (within_rows path dump.tree)) (slots old) (slots new))
          → new.pool.in_one_file ≡ old.pool.in_one_file
          → new.sessions.dumps.items ≡ slice_set old.sessions.dumps.items index (removed dump path token)
          → OnlyDumps old.sessions new.sessions → Runs old (Remove session path token) (Ok Done) new
      runs_removed first new some journal catalog counts partials views halted go form dumps only =
          runs_kept old new (Remove session path token) Done journal halted
          (λ office names at.
          let found = dump_found old session index dump e there office names at in
          let next : Office = with_dumps office (slice_set office.dumps index (keeping_behind token (RemoveEvent.with_removed found.value path))) in
          let is : is_some (node_at found.value.tree path) ≡ true = path_is office names at ∙ some in
          let judged : RemoveEvent.carried session path token office ≡ Ok (record { answer = Done; after = next }) =
          first_made first office names at
          (Ok (record { answer = Done; after = with_dumps office (slice_set office.dumps index (RemoveEvent.with_removed found.value path)) }))
          (rw (found.is_at, is) refl)
          ∙ ap Ok (behind_set office index token found.value (RemoveEvent.with_removed found.value path) office.stages Done found.there) in
          record {
            next = next;
            made = judged;
            running = running_let_go old new office next names (λ id. occurrences id (within_rows path dump.tree))
                (claims_in old.sessions) at.working at.claimed journal catalog counts partials views halted
                (go (enough office names at)) form
                (λ id. omega (
                  arith,
                  claims_in-dump_edited old.sessions new.sessions only.beside id index dump (removed dump path token) there dumps,
                  occurrences-without id dump.tree path,
                ))
                (AreSessions-dump_edited old.sessions new.sessions only.beside n.holds (given (slots old)) (contents_of at.all)
                (staging_of at.all names) office.volatile at.sessions index (keeping_behind token (RemoveEvent.with_removed found.value path)) (removed dump path token)
                (dump_without (given (slots old)) (contents_of at.all) found.value dump path token (fresh_for dump.kept token first) found.is) dumps only.sequence)
                refl refl (AreSound-carried office names (Remove session path token) Done next names at.sound judged refl);
          })
          (λ office names. refl) refl
