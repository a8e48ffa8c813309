-- What a frame that is given leaves.
use Rattle.std.specs.Prelude.{◌≡◌, ◌<◌, ◌≤◌, ◌+◌, ◌-◌, min, unwrap_or, ℕ, zero, suc, List, [], ◌∷◌, Option, Some, None, Ok, Err, length, take, drop, slice_get, slice_set}
use Rattle.std.proofs.Common.{refl, sym, ap, ◌∙◌, subst, arith}
use Rattle.std.proofs.lemmas.List.{length-set}
use Rattle.std.proofs.lemmas.Option.{slice_get_within}
use Rattle.fault_counts.specs.Counts.{Counted}
use Rattle.disk_trait.specs.declared.ids.PoolId.{PoolId}
use Rattle.disk_trait.specs.declared.disk.Disk.{Ghosts as DiskGhosts}
use Rattle.disk_trait.specs.Files.{Files, bytes_of}
use Rattle.pool_name.specs.declared.namer.Namer.{Ghosts as NamerGhosts}
use Rattle.intent_journal.specs.declared.journal.Journal.{Journal}
use Rattle.journal_view.specs.View.{told, Quiet}
use Rattle.journal_view.specs.ViewLaws.{Quiet-still}
use Rattle.pool_changes.specs.Slots.{is_given, claims_of}
use Rattle.pool_changes.specs.Kept.{slots_of, IsSame}
use Rattle.pool_store.specs.declared.pool.Pool.{Pool}
use Rattle.attr_records.specs.Items.{Tree}
use Rattle.stored_trees.specs.Resolved.{resolved}
use Rattle.office_model.specs.declared.answer.Answer.TheVariants.{Next as NextAnswer}
use Rattle.office_model.specs.declared.event.Event.TheVariants.{ReadNext}
use Rattle.tree_frames.specs.declared.nodes.Frame.{Frame}
use Rattle.tree_frames.specs.declared.nodes.Frame.TheVariants as F
use Rattle.tree_frames.specs.Frames.{entries_of}
use Rattle.office_model.specs.declared.refusal.BrokenRule.TheVariants.{NoSession}
use Rattle.office_model.specs.declared.refusal.Refusal.{Refusal}
use Rattle.office_model.specs.declared.refusal.Refusal.TheVariants.{Broken, Halted, DiskFault, Damaged, Memory}
use Rattle.receipts.specs.declared.session.SessionName.{SessionName}
use Rattle.office_model.specs.Meaning.{Reply}
use Rattle.office_model.specs.Office.{Office, Restore, Names, with_restores}
use Rattle.office_model.specs.Parts.{restore_at}
use Rattle.office_model.specs.UsedNames.{AreSound}
use Rattle.office_model.specs.laws.StateLaws.{AreSound-carried}
use Rattle.office_model.specs.events.ReadNext.{moved_on, frame_of}
use Rattle.office_model.specs.events.ReadNext as ReadNextEvent
use Rattle.office_files.specs.Pooled.{contents_of}
use Rattle.open_sessions.specs.declared.sessions.Asked.{Asked}
use Rattle.open_sessions.specs.declared.sessions.Next.{Next as NextOf}
use Rattle.open_sessions.specs.declared.sessions.Next.TheVariants as Next
use Rattle.open_sessions.specs.declared.sessions.OpenRestore.{OpenRestore}
use Rattle.open_sessions.specs.declared.sessions.Place.{Place}
use Rattle.open_sessions.specs.declared.sessions.Place.TheVariants.{Removal, Entry, Content, Piece, Wrong}
use Rattle.open_sessions.specs.declared.sessions.Sessions.{Sessions}
use Rattle.open_sessions.specs.Opened.{OnlyRestores}
use Rattle.open_sessions.specs.SessionLaws.{OnlyRestores-then}
use Rattle.open_sessions.specs.Places.{IsAt, next_in, at_removal, behind_entry}
use Rattle.open_sessions.specs.PlaceLaws as PlaceLaws
use Rattle.open_sessions.specs.EditLaws.{IsRestore-moved}
use Rattle.open_sessions.specs.CallLaws.{AreSessions-restore_moved, claims_in-restore_moved}
use Rattle.store_parts.specs.declared.parts.StoreParts.{StoreParts}
use Rattle.store_parts.specs.Held.{given}
use Rattle.store_parts.specs.States.{slots, IsRunning, staging_of}
use Rattle.store_parts.specs.Runs.{Runs}
use Rattle.store_parts.specs.RunLaws.{counted_fine, works_same, runs_reads, runs_memory, runs_read_fault}
use Rattle.store_reads.specs.Shown.{Looks}
use Rattle.store_reads.specs.Pieces.{IsPieceFault}
use Rattle.store_reads.specs.PiecesLaws.{piece_not_damaged}
use Rattle.store_restores.specs.Finding.{place_of}
use Rattle.store_restores.specs.Giving.{removal_in, entry_in, room_of, IsBehind, wrong_in, IsDamagedOr, MovesTo, GivesNext}
use Rattle.store_restores.proofs.Found.{IsFound, restore_found}
use Rattle.store_restores.proofs.Behind.{looks_still, reads_of}
use Rattle.store_restores.proofs.Opens.{Failed}
use Rattle.store_restores.proofs.Running.{count_of, near_same, sessions_given, Stays, running_stays, runs_ok}
use Rattle.store_restores.proofs.Steps.{length_shown, is_removal, is_entry, is_piece, not_wrong, removal_gives, entry_gives, piece_gives, room_fits, never_wrong, IsPiece}

module _ {A : Type 0} where
  set_twice : (xs : List A) (i : ℕ) (x y : A) → slice_set (slice_set xs i x) i y ≡ slice_set xs i y
  set_twice [] i x y = refl
  set_twice (z ∷ xs) zero x y = refl
  set_twice (z ∷ xs) (suc i) x y = ap (λ rest. z ∷ rest) (set_twice xs i x y)

  set_at : (xs : List A) (i : ℕ) (x y : A) → slice_get xs i ≡ Some x → slice_get (slice_set xs i y) i ≡ Some y
  set_at [] i x y e = absurd cc
  set_at (z ∷ xs) zero x y e = refl
  set_at (z ∷ xs) (suc i) x y e = set_at xs i x y e

-- there is no such restore
pub no_restore_next : (session : SessionName) (office : Office) (names : Names) → restore_at office.restores session ≡ Err NoSession
    → ReadNextEvent.carried session office ≡ Err NoSession
no_restore_next session office names e = rw e refl

pub none_found : {A : Type 0} {x : A} {o : Option A} → None ≡ o → Some x ≡ o → ⊥
none_found none some = cc

-- a count over no call
counted_none : (count : ℕ) → Counted count count ⊥
counted_none count = record { later = omega arith; rose = λ e. absurd e; stays = λ e. refl }

pub there_is : {A : Type 0} (xs : List A) (i : ℕ) → i < length xs → (x : A) × (slice_get xs i ≡ Some x)
there_is [] i h = absurd (omega arith)
there_is (x ∷ xs) zero h = (x, refl)
there_is (x ∷ xs) (suc i) h = there_is xs i (omega arith)

-- sessions that moved twice
moved_twice : {S : Type 0} (old mid new : Sessions S) (at : ℕ) (restore : OpenRestore S) (place next : Place S)
    → MovesTo old at restore place mid → MovesTo mid at (record restore { place = place }) next new → MovesTo old at restore next new
moved_twice {S} old mid new at restore place next first second = record {
  restores = second.restores
      ∙ ap (λ (items : List (OpenRestore S)). slice_set items at (record restore { place = next })) first.restores
      ∙ set_twice old.restores.items at (record restore { place = place }) (record restore { place = next });
  only = OnlyRestores-then old mid new first.only second.only;
}

module _ {D N S : Type 0} {d : DiskGhosts D} {n : NamerGhosts N S} where
  -- all but sessions is the same
  pub record IsSameBut (old new : StoreParts D N S d n) : Type 0 where
    pub journal : new.journal ≡ old.journal
    pub pool : new.pool ≡ old.pool
    pub catalog : new.catalog ≡ old.catalog
    pub counts : new.counts ≡ old.counts
    pub partials : new.partials ≡ old.partials
    pub views : new.views ≡ old.views
    pub halted : new.halted ≡ old.halted

  same_parts : (parts : StoreParts D N S d n) → IsSameBut parts parts
  same_parts parts = record { journal = refl; pool = refl; catalog = refl; counts = refl; partials = refl; views = refl; halted = refl }

  -- a restore that was put at another place for a while
  module _ (old mid : StoreParts D N S d n) (looks : Looks old mid) (index : ℕ) (restore : OpenRestore S)
      (there : slice_get old.sessions.restores.items index ≡ Some restore) where
    abbrev between : OpenRestore S
    between = record restore { place = Entry 0 }

    pub mid_there : slice_get mid.sessions.restores.items index ≡ Some restore
    mid_there = ap (λ (s : Sessions S). slice_get s.restores.items index) looks.sessions_same ∙ there

    module _ (first : Sessions S) (set : (r : OpenRestore S) → slice_get mid.sessions.restores.items index ≡ Some r
        → first.restores.items ≡ slice_set mid.sessions.restores.items index (record r { place = Entry 0 })) where
      pub stays_within : index < length first.restores.items
      stays_within =
          let long = ap length (set restore mid_there) ∙ length-set mid.sessions.restores.items index between in
          let within = slice_get_within mid.sessions.restores.items index restore mid_there in
          omega (arith, long, within)

      first_there : slice_get first.restores.items index ≡ Some between
      first_there =
          ap (λ (items : List (OpenRestore S)). slice_get items index) (set restore mid_there)
          ∙ set_at mid.sessions.restores.items index restore between mid_there

      pub moves_back : OnlyRestores mid.sessions first
          → (place : Place S) (new : Sessions S)
          → ((r : OpenRestore S) → slice_get first.restores.items index ≡ Some r
          → new.restores.items ≡ slice_set first.restores.items index (record r { place = place }))
          → OnlyRestores first new → MovesTo old.sessions index restore place new
      moves_back only place new again only' =
          moved_twice old.sessions first new index restore (Entry 0) place
          (record {
            restores = set restore mid_there
                ∙ ap (λ (s : Sessions S). slice_set s.restores.items index between) looks.sessions_same;
            only = subst (λ (s : Sessions S). OnlyRestores s first) looks.sessions_same only;
          })
          (record { restores = again between first_there; only = only' })

  -- what is given next, of the restore that was found
  pub gives_found : (old new : StoreParts D N S d n) (session : SessionName) (at : ℕ)
      → Some at ≡ place_of old.sessions.restores.items session → (next : NextOf) (reply : Reply)
      → ((restore : OpenRestore S) → slice_get old.sessions.restores.items at ≡ Some restore → next ≡ next_in restore.removed restore.rows restore.place)
      → ((restore : OpenRestore S) → slice_get old.sessions.restores.items at ≡ Some restore → GivesNext next old at restore reply new)
      → (at' : ℕ) (restore : OpenRestore S) → Some at' ≡ place_of old.sessions.restores.items session
      → slice_get old.sessions.restores.items at' ≡ Some restore
      → GivesNext (next_in restore.removed restore.rows restore.place) old at' restore reply new
  gives_found old new session at is next reply next_is gives at' restore found there =
      let same : at ≡ at' = cc in
      let here : slice_get old.sessions.restores.items at ≡ Some restore
      = ap (slice_get old.sessions.restores.items) same ∙ there in
      subst (λ (k : ℕ). GivesNext (next_in restore.removed restore.rows restore.place) old k restore reply new) same
      (subst (λ (m : NextOf). GivesNext m old at restore reply new) (next_is restore here) (gives restore here))

  module _ (old : StoreParts D N S d n) (session : SessionName) where
    -- memory is wanting for an entry
    pub next_memory : (new : StoreParts D N S d n) → IsSameBut old new → new.sessions ≡ old.sessions → Runs old (ReadNext session) (Err Memory) new
    next_memory new same sessions =
        runs_memory old new (ReadNext session)
        (reads_of old new (record {
          quiet = subst (λ (j : Journal D d). Quiet old.journal j) (sym same.journal) (Quiet-still old.journal);
          pool_same = same.pool;
          catalog_same = same.catalog;
          counts_same = same.counts;
          partials_same = same.partials;
          sessions_same = sessions;
          halted_same = same.halted;
          views_same = same.views;
        }))
        (subst (λ (j : Journal D d). Counted (count_of old) (d.fault_count j.disk) ⊥) (sym same.journal) (counted_none (count_of old)))

    module _ (index : ℕ) (restore : OpenRestore S) (e : Some index ≡ place_of old.sessions.restores.items session)
        (there : slice_get old.sessions.restores.items index ≡ Some restore) where
      found : (office : Office) (names : Names) (at : IsRunning old office names) → IsFound old session index restore office names at
      found = restore_found old session index restore e there

      abbrev with_value : Office → Restore → Office
      with_value office value = with_restores office (slice_set office.restores index value)

      module _ (office : Office) (names : Names) (at : IsRunning old office names) where
        abbrev value : Restore
        value = (found office names at).value

        abbrev contents : PoolId → List ℕ
        contents = contents_of at.all

        abbrev tree : Tree
        tree = resolved contents restore.rows

        shown_at : IsAt n.holds restore.removed tree value.position restore.place
        shown_at = (found office names at).is.place

        few : length restore.rows ≤ 4294967295
        few =
            let small = (at.sound.restores index value (found office names at).there).few in
            let lengths = length_shown contents restore.whole in
            let trees = ap length (found office names at).is.tree in
            let fewer = (found office names at).is.part.fewer in
            omega (arith, small, lengths, trees, fewer)

        -- what the restore gives is what is told of the rows
        abbrev Gives : Frame → Place S → Type 0
        Gives frame next = PlaceLaws.Gives n.holds restore.removed tree value.position frame next

        frame_given : (frame : Frame) (next : Place S) → Gives frame next → frame_of value ≡ frame
        frame_given frame next g =
            ap (λ (fs : List Frame). unwrap_or (slice_get fs value.position) (F.End (length (entries_of value.base value.tree))))
            (found office names at).is.frames
            ∙ g.frame_is (F.End (length (entries_of value.base value.tree)))

        moves_on : (frame : Frame) (next : Place S) → Gives frame next → IsAt n.holds restore.removed tree (moved_on value).position next
        moves_on frame next g =
            subst (λ (fs : List Frame). IsAt n.holds restore.removed tree (min (value.position + 1) (length fs - 1)) next)
            (sym (found office names at).is.frames) g.at

        -- a live or staged content has the digest in its name
        named : (id : PoolId) → given (slots old) id → id.digest ≡ n.digest_of (contents id)
        named id is_given =
            let held = at.fits.held id is_given in
            sym held.digest ∙ ap n.digest_of (sym (ap bytes_of held.is))

        piece_at : (asked : Asked) → Next.Piece asked ≡ next_in restore.removed restore.rows restore.place
            → IsPiece contents (given (slots old)) restore.removed restore.rows (found office names at).is.rows n restore.place asked
        piece_at asked next =
            is_piece contents (given (slots old)) restore.removed restore.rows (found office names at).is.rows n restore.place asked shown_at.within next

      -- the restore stands at another place, and nothing else has changed
      running_moved : (new : StoreParts D N S d n) (office : Office) (names : Names) (at : IsRunning old office names) (position : ℕ)
          (place : Place S) → Stays old new → IsSame (slots old) (slots new) → MovesTo old.sessions index restore place new.sessions
          → IsAt n.holds restore.removed (resolved (contents_of at.all) restore.rows) position place
          → AreSound (with_value office (record (found office names at).value { position = position })) names
          → IsRunning new (with_value office (record (found office names at).value { position = position })) names
      running_moved new office names at position place stays same moves is sound =
          running_stays old new office next names at stays
          (sessions_given old new office names at next.volatile (λ id g. ap is_given (same id) ∙ g)
          (AreSessions-restore_moved old.sessions new.sessions moves.only.beside n.holds (given (slots old)) (contents_of at.all)
          (staging_of at.all names) office.volatile at.sessions index
          (record (found office names at).value { position = position }) (record restore { place = place })
          (IsRestore-moved n.holds (given (slots old)) (contents_of at.all) (found office names at).value restore position place is
          (found office names at).is) moves.restores moves.only.sequence))
          (λ id. ap claims_of (same id) ∙ at.claimed id
          ∙ sym (claims_in-restore_moved old.sessions new.sessions moves.only.beside id index restore place there moves.restores))
          refl refl sound
        where
          next : Office
          next = with_value office (record (found office names at).value { position = position })

      -- ---- a frame

      module _ (mid new : StoreParts D N S d n) (looks : Looks old mid) (same : IsSameBut mid new) {failed : Type 0}
          (counted : Counted (count_of old) (count_of mid) failed) (fine : failed → ⊥) where
        names_same : IsSame (slots old) (slots new)
        names_same = λ id. ap (λ (p : Pool N S n). slots_of p.names id) (same.pool ∙ looks.pool_same)

        stays : Stays old new
        stays = record {
          quiet = subst (λ (j : Journal D d). Quiet old.journal j) (sym same.journal) looks.quiet;
          catalog = same.catalog ∙ looks.catalog_same;
          counts = same.counts ∙ looks.counts_same;
          partials = same.partials ∙ looks.partials_same;
          views = same.views ∙ looks.views_same;
          halted = same.halted ∙ looks.halted_same;
          form = ap (λ (p : Pool N S n). p.in_one_file) (same.pool ∙ looks.pool_same);
          names = near_same (slots old) (slots new) names_same;
        }

        counted_new : Counted (count_of old) (count_of new) failed
        counted_new = subst (λ (j : Journal D d). Counted (count_of old) (d.fault_count j.disk) failed) (sym same.journal) counted

        -- the restore gave it and moved on
        given_next : (frame : Frame) (place : Place S) → MovesTo old.sessions index restore place new.sessions
            → ((office : Office) (names : Names) (at : IsRunning old office names) → Gives office names at frame place)
            → Runs old (ReadNext session) (Ok (NextAnswer frame)) new
        given_next frame place moves gives =
            runs_ok old new (ReadNext session) stays.quiet stays.halted counted_new fine (NextAnswer frame)
            (λ office names at.
            let g = gives office names at in
            let after : Office = with_value office (moved_on (value office names at)) in
            let judged : ReadNextEvent.carried session office ≡ Ok (record { answer = NextAnswer frame; after = after })
            = rw (found office names at).is_at
            (ap (λ (f : Frame). Ok (record { answer = NextAnswer f; after = after })) (frame_given office names at frame place g)) in
            record {
              next = after;
              judged = judged;
              running = running_moved new office names at (moved_on (value office names at)).position place stays names_same moves
                  (moves_on office names at frame place g)
                  (AreSound-carried office names (ReadNext session) (NextAnswer frame) after names at.sound judged refl);
            })
            (λ office names. refl) refl

        -- what can't be, of a store at work, is refused for a damaged file or for want of memory
        never_refused : (content : PoolId) (digest : List ℕ) (refusal : Refusal) → IsDamagedOr content digest refusal
            → ((office : Office) (names : Names) → IsRunning old office names → ⊥) → Runs old (ReadNext session) (Err refusal) new
        never_refused content digest (Broken rule) kind never = absurd kind
        never_refused content digest Halted kind never = absurd kind
        never_refused content digest DiskFault kind never = absurd kind
        never_refused content digest Memory kind never = record {
          steps = λ office names at. absurd (never office names at);
          crash = λ office names at. absurd (never office names at);
          in_kind = tt;
          awake = λ e. absurd cc;
          halts = λ not. works_same old new stays.halted stays.quiet.halted_same;
          counted = counted_fine counted_new fine (λ e. cc);
          untouched = λ none damage. stays.quiet.told_same;
        }
        never_refused content digest (Damaged file found) kind never = record {
          steps = λ office names at. absurd (never office names at);
          crash = λ office names at. absurd (never office names at);
          in_kind = tt;
          awake = λ e. absurd cc;
          halts = λ not. works_same old new stays.halted stays.quiet.halted_same;
          counted = counted_fine counted_new fine (λ e. cc);
          untouched = λ none damage. stays.quiet.told_same;
        }

        -- ---- a piece that was read

        module _ (asked : Asked) (next : Next.Piece asked ≡ next_in restore.removed restore.rows restore.place) (piece : List ℕ)
            (piece_is : (all : Files) → told old.journal ≡ Some all
            → piece ≡ take (room_of asked) (drop asked.from (contents_of all asked.content)))
            (place : Place S) (behind : IsBehind n.holds n.digest_of restore.place asked piece place) where
          pub next_piece : MovesTo old.sessions index restore place new.sessions → Runs old (ReadNext session) (Ok (NextAnswer (F.Piece piece))) new
          next_piece moves =
              given_next (F.Piece piece) place moves
              (λ office names at.
              let p = piece_at office names at asked next in
              piece_gives (contents_of at.all) (given (slots old)) restore.removed restore.rows (found office names at).is.rows n restore.place asked p
              piece (piece_is at.all at.told_is) (value office names at).position (shown_at office names at)
              (named office names at asked.content p.is_asked.is_given) place behind)

          pub next_wrong : (digest : List ℕ) → Some digest ≡ wrong_in place → (refusal : Refusal) → IsDamagedOr asked.content digest refusal
              → Runs old (ReadNext session) (Err refusal) new
          next_wrong digest wrong refusal kind =
              never_refused asked.content digest refusal kind
              (λ office names at.
              let p = piece_at office names at asked next in
              step office names at p place behind wrong)
            where
              step : (office : Office) (names : Names) (at : IsRunning old office names)
                  → (p : IsPiece (contents_of at.all) (given (slots old)) restore.removed restore.rows (found office names at).is.rows n restore.place asked)
                  → (at_place : Place S) → IsBehind n.holds n.digest_of restore.place asked piece at_place → Some digest ≡ wrong_in at_place → ⊥
              step office names at p (Removal row) b e = cc
              step office names at p (Entry row) b e = cc
              step office names at p (Content row) b e = cc
              step office names at p (Piece row given' digest') b e = cc
              step office names at p (Wrong content' digest') b e =
                  never_wrong (contents_of at.all) (given (slots old)) restore.removed restore.rows (found office names at).is.rows n restore.place asked p piece
                  (piece_is at.all at.told_is) (named office names at asked.content p.is_asked.is_given) content' digest' b

      -- ---- a removal and an entry

      module _ (new : StoreParts D N S d n) (same : IsSameBut old new) where
        pub next_removal : (row : ℕ) → Next.Removal row ≡ next_in restore.removed restore.rows restore.place
            → MovesTo old.sessions index restore (at_removal (row + 1) (slice_get restore.removed (row + 1))) new.sessions
            → (frame : Frame) → frame ≡ removal_in restore.removed row → Runs old (ReadNext session) (Ok (NextAnswer frame)) new
        next_removal row next moves frame is =
            given_next old new (looks_still old) same (counted_none (count_of old)) (λ e. e) frame
            (at_removal (row + 1) (slice_get restore.removed (row + 1))) moves
            (λ office names at.
            let here = is_removal restore.removed restore.rows restore.place row next in
            subst (λ (f : Frame). Gives office names at f (at_removal (row + 1) (slice_get restore.removed (row + 1)))) (sym is)
            (removal_gives (contents_of at.all) (given (slots old)) restore.removed restore.rows (found office names at).is.rows n
            (value office names at).position row
            (subst (IsAt n.holds restore.removed (tree office names at) (value office names at).position) here.here (shown_at office names at))
            here.found here.there))

        pub next_entry : (row : ℕ) → Next.Entry row ≡ next_in restore.removed restore.rows restore.place
            → MovesTo old.sessions index restore (behind_entry row (slice_get restore.rows row)) new.sessions
            → (frame : Frame) → frame ≡ entry_in restore.rows row → Runs old (ReadNext session) (Ok (NextAnswer frame)) new
        next_entry row next moves frame is =
            given_next old new (looks_still old) same (counted_none (count_of old)) (λ e. e) frame (behind_entry row (slice_get restore.rows row)) moves
            (λ office names at.
            let here = is_entry (contents_of at.all) (given (slots old)) restore.removed restore.rows (found office names at).is.rows n restore.place row
            (shown_at office names at).within next in
            subst (λ (f : Frame). Gives office names at f (behind_entry row (slice_get restore.rows row))) (sym is)
            (entry_gives (contents_of at.all) (given (slots old)) restore.removed restore.rows (found office names at).is.rows n
            (value office names at).position (few office names at) row
            (subst (IsAt n.holds restore.removed (tree office names at) (value office names at).position) here (shown_at office names at))))

      -- ---- a content that is known to be wrong

      pub next_known : (content : PoolId) (digest : List ℕ) → Next.Wrong content digest ≡ next_in restore.removed restore.rows restore.place
          → (refusal : Refusal) → IsDamagedOr content digest refusal → Runs old (ReadNext session) (Err refusal) old
      next_known content digest next refusal kind =
          never_refused old old (looks_still old) (same_parts old) (counted_none (count_of old)) (λ e. e) content digest refusal kind
          (λ office names at.
          not_wrong (contents_of at.all) (given (slots old)) restore.removed restore.rows (found office names at).is.rows n restore.place content digest
          (shown_at office names at).within next)

      -- ---- a piece that couldn't be read

      module _ (mid : StoreParts D N S d n) (looks : Looks old mid) (asked : Asked)
          (next : Next.Piece asked ≡ next_in restore.removed restore.rows restore.place) where
        pub next_fault : {T : Type 0} (refusal : Refusal) → IsPieceFault old asked.content asked.from (room_of asked) refusal
            → Counted (count_of old) (count_of mid) (Failed {T = T} (Err refusal)) → Runs old (ReadNext session) (Err refusal) mid
        next_fault (Broken rule) fault counted = absurd fault
        next_fault Halted fault counted = absurd fault
        next_fault Memory fault counted =
            runs_memory old mid (ReadNext session) (reads_of old mid looks) (counted_fine counted (λ e. cc) (λ e. e))
        next_fault DiskFault fault counted =
            runs_read_fault old mid (ReadNext session) (reads_of old mid looks) (λ office names. refl) counted refl
        next_fault (Damaged file content) fault counted =
            runs_reads old mid (ReadNext session) (Err (Damaged file content)) (reads_of old mid looks)
            (λ office names at. absurd (never office names at)) (λ office names at. absurd (never office names at)) tt
            (λ e. absurd cc) (counted_fine counted (λ e. cc) (λ e. cc))
          where
            never : (office : Office) (names : Names) → IsRunning old office names → ⊥
            never office names at =
                let p = piece_at office names at asked next in
                piece_not_damaged old asked.content asked.from (room_of asked) file content fault office names at p.is_asked.is_given
                (room_fits (contents_of at.all) (given (slots old)) restore.removed restore.rows (found office names at).is.rows n restore.place asked p
                (take (room_of asked) (drop asked.from (contents_of at.all asked.content))) refl)
