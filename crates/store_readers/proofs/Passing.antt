-- What a part that is given leaves.
use Rattle.std.specs.Prelude.{◌≡◌, ◌⊎◌, ◌<◌, ◌+◌, ◌^◌, ℕ, zero, suc, List, [], ◌∷◌, ◌++◌, Option, Some, None, Result, Ok, Err, length, take, drop, slice_get, slice_set}
use Rattle.std.proofs.Common.{refl, sym, ap, ◌∙◌, subst, inl, inr, arith}
use Rattle.std.proofs.lemmas.List.{length-set}
use Rattle.fault_counts.specs.Counts.{Counted}
use Rattle.disk_trait.specs.declared.ids.PoolId.{PoolId}
use Rattle.disk_trait.specs.declared.ids.FileId.TheVariants.{Pool as PoolFile}
use Rattle.disk_trait.specs.declared.disk.Disk.{Ghosts as DiskGhosts}
use Rattle.disk_trait.specs.Files.{Files, piece as piece_of}
use Rattle.pool_name.specs.declared.namer.Namer.{Ghosts as NamerGhosts}
use Rattle.intent_journal.specs.declared.journal.Journal.{Journal}
use Rattle.journal_view.specs.View.{told, Quiet}
use Rattle.pool_changes.specs.Slots.{claims_of}
use Rattle.pool_changes.specs.Kept.{slots_of}
use Rattle.pool_store.specs.declared.pool.Pool.{Pool}
use Rattle.backup_views.specs.declared.kept.Views.{Views}
use Rattle.stored_trees.specs.Resolved.{bytes_of, IsToldContent}
use Rattle.office_model.specs.declared.answer.Answer.TheVariants.{Part}
use Rattle.office_model.specs.declared.event.Event.TheVariants.{ReadPart}
use Rattle.office_model.specs.declared.refusal.BrokenRule.TheVariants.{NoSession}
use Rattle.office_model.specs.declared.refusal.Refusal.{Refusal}
use Rattle.office_model.specs.declared.refusal.Refusal.TheVariants.{Broken, Halted, DiskFault, Damaged, Memory}
use Rattle.office_model.specs.Meaning.{Reply, ◌>>=◌}
use Rattle.office_model.specs.Office.{Office, Names, piece_limit, with_readers}
use Rattle.office_model.specs.Parts.{reader_at}
use Rattle.office_model.specs.events.ReadPart as ReadPartEvent
use Rattle.office_files.specs.Pooled.{contents_of}
use Rattle.open_sessions.specs.declared.readers.OpenReader.{OpenReader}
use Rattle.open_sessions.specs.declared.sessions.Sessions.{Sessions}
use Rattle.open_sessions.specs.Giving.{IsWrong, IsFurther, IsStopped, IsPassed}
use Rattle.open_sessions.specs.Opened.{OnlyReaders}
use Rattle.store_parts.specs.declared.parts.StoreParts.{StoreParts}
use Rattle.store_parts.specs.Held.{given, IsKeptView}
use Rattle.store_parts.specs.States.{slots, IsRunning}
use Rattle.store_parts.specs.Runs.{Reads, Runs}
use Rattle.store_parts.specs.RunLaws.{counted_still, counted_fine, runs_reads, runs_memory, runs_read_fault, reads_still, works_reads}
use Rattle.store_parts.specs.FoundLaws.{reader_place, IsReaderFound, reader_found}
use Rattle.store_parts.specs.Opens.{Stays}
use Rattle.store_parts.specs.OpenLaws.{near_same, runs_never, works_stays}
use Rattle.store_parts.specs.ReaderLaws.{runs_part_given, part_not_wrong}
use Rattle.store_reads.specs.Shown.{Looks}
use Rattle.store_reads.specs.Pieces.{IsPieceFault}
use Rattle.store_reads.specs.PiecesLaws.{piece_read, piece_not_damaged}
use Rattle.store_readers.specs.declared.next_part.Asked.{Asked}
use Rattle.store_readers.specs.declared.next_part.NextPart.{NextPart}
use Rattle.store_readers.specs.declared.next_part.NextPart.TheVariants.{End, Piece, Wrong}
use Rattle.store_readers.specs.Giving.{next_of, IsDamagedOr, PassesPart, GivesNext, GivesPart}
use Rattle.store_readers.proofs.Parting.{IsAsked, is_asked, never_wrong, end_gives, part_given, part_within, part_gives}
use Rattle.store_readers.proofs.Running.{count_of}

-- ---- lists

module _ {A : Type 0} where
  set_at : (xs : List A) (i : ℕ) (x y : A) → slice_get xs i ≡ Some x → slice_get (slice_set xs i y) i ≡ Some y
  set_at [] i x y e = absurd cc
  set_at (z ∷ xs) zero x y e = refl
  set_at (z ∷ xs) (suc i) x y e = set_at xs i x y e

  pub there_is : (xs : List A) (i : ℕ) → i < length xs → (x : A) × (slice_get xs i ≡ Some x)
  there_is [] i h = absurd (omega arith)
  there_is (x ∷ xs) zero h = (x, refl)
  there_is (x ∷ xs) (suc i) h = there_is xs i (omega arith)

  pub none_found : {x : A} {o : Option A} → None ≡ o → Some x ≡ o → ⊥
  none_found none some = cc

-- ---- refusals

-- there is no such reader
pub no_reader_read : (number : ℕ) (office : Office) (names : Names) → reader_at office.readers number ≡ Err NoSession
    → ReadPartEvent.carried number office ≡ Err NoSession
no_reader_read number office names e = rw e refl

abbrev pub Failed : {T : Type 0} → Result T Refusal → Type 0
Failed {T} reply = reply ≡ Err DiskFault

pub not_failed : {T : Type 0} (x : T) → Failed (Ok x) → ⊥
not_failed x e = cc

damaged_fine : {T : Type 0} (content : PoolId) (digest : List ℕ) (refusal : Refusal) → IsDamagedOr content digest refusal
    → Failed {T = T} (Err refusal) → ⊥
damaged_fine content digest (Broken rule) kind e = kind
damaged_fine content digest Halted kind e = kind
damaged_fine content digest DiskFault kind e = kind
damaged_fine content digest Memory kind e = cc
damaged_fine content digest (Damaged file found) kind e = cc

damaged_awake : (content : PoolId) (digest : List ℕ) (refusal : Refusal) → IsDamagedOr content digest refusal → refusal ≡ Halted → ⊥
damaged_awake content digest (Broken rule) kind e = kind
damaged_awake content digest Halted kind e = kind
damaged_awake content digest DiskFault kind e = kind
damaged_awake content digest Memory kind e = cc
damaged_awake content digest (Damaged file found) kind e = cc

-- ---- the reader behind a part

module _ {S : Type 0} (holds : S → List ℕ → Type 0) (digest_of : List ℕ → List ℕ) (reader : OpenReader S) (part : List ℕ) where
  -- it isn't stopped without a wrong digest
  pub goes_on : (next : OpenReader S) → (IsFurther holds digest_of reader part next ⊎ IsStopped holds digest_of reader part next)
      → next.wrong ≡ None → (bytes : List ℕ) → holds reader.digest bytes → IsFurther holds digest_of reader part next
  goes_on next (inl further) none bytes h = further
  goes_on next (inr stopped) none bytes h = absurd (step reader.content (stopped.wrong bytes h))
    where
      step : (content : Option PoolId) → IsWrong holds digest_of content (bytes ++ part) next.wrong → ⊥
      step None wrong = wrong
      step (Some id) wrong = let found = wrong.0 in cc

  -- it is still there
  pub passed_within : (old new : List (OpenReader S)) (index : ℕ) → index < length old → IsPassed holds digest_of reader part old index new
      → index < length new
  passed_within old new index within passed =
      let same = ap length passed.items ∙ length-set old index passed.next in omega (arith, within, same)

-- the number of bytes that were given stays one of 64 bits
pub room_fits : {S : Type 0} (reader : OpenReader S) (asked : Asked) → Piece asked ≡ next_of reader → asked.from + asked.room < 2 ^ 64
    → (bytes part : List ℕ) → bytes ≡ part → length part ≡ asked.room → reader.given + length bytes < 2 ^ 64
room_fits reader asked next fits bytes part same count =
    let from = (is_asked reader asked next).from in
    let long = ap length same in
    omega (arith, from, long, count, fits)

module _ {D N S : Type 0} {d : DiskGhosts D} {n : NamerGhosts N S} where
  pub reads_of : (old mid : StoreParts D N S d n) → Looks old mid → Reads old mid
  reads_of old mid looks = record {
    quiet = looks.quiet;
    pool_same = looks.pool_same;
    catalog_same = looks.catalog_same;
    counts_same = looks.counts_same;
    partials_same = looks.partials_same;
    sessions_same = looks.sessions_same;
    halted_same = looks.halted_same;
    view = λ office names at.
        subst (λ (views : Views). IsKeptView views.kept office.hosts at.shown) (sym looks.views_same) at.view;
  }

  -- all but readers is the same
  pub record IsSameBut (old new : StoreParts D N S d n) : Type 0 where
    pub journal : new.journal ≡ old.journal
    pub pool : new.pool ≡ old.pool
    pub catalog : new.catalog ≡ old.catalog
    pub counts : new.counts ≡ old.counts
    pub partials : new.partials ≡ old.partials
    pub views : new.views ≡ old.views
    pub halted : new.halted ≡ old.halted
    pub sessions : OnlyReaders old.sessions new.sessions

  -- ---- a part that was read

  pub old_there : (old mid : StoreParts D N S d n) → Looks old mid → (index : ℕ) (reader : OpenReader S)
      → slice_get mid.sessions.readers.items.items index ≡ Some reader → slice_get old.sessions.readers.items.items index ≡ Some reader
  old_there old mid looks index reader there =
      ap (λ (s : Sessions S). slice_get s.readers.items.items index) (sym looks.sessions_same) ∙ there

  pub mid_within : (old mid : StoreParts D N S d n) → Looks old mid → (index : ℕ) → index < length old.sessions.readers.items.items
      → index < length mid.sessions.readers.items.items
  mid_within old mid looks index within =
      subst (λ (s : Sessions S). index < length s.readers.items.items) (sym looks.sessions_same) within

  module _ (old mid : StoreParts D N S d n) (looks : Looks old mid) (index : ℕ) (reader : OpenReader S)
      (there : slice_get old.sessions.readers.items.items index ≡ Some reader) where
    pub mid_there : slice_get mid.sessions.readers.items.items index ≡ Some reader
    mid_there = ap (λ (s : Sessions S). slice_get s.readers.items.items index) looks.sessions_same ∙ there

    pub passes_part : (asked : Asked) (part : List ℕ)
        → ((all : Files) → told old.journal ≡ Some all → piece_of (all (PoolFile asked.content)) asked.from asked.room ≡ Some part)
        → length part ≡ asked.room → (new : StoreParts D N S d n) → OnlyReaders mid.sessions new.sessions → (bytes : List ℕ)
        → bytes ≡ part
        → ((r : OpenReader S) → slice_get mid.sessions.readers.items.items index ≡ Some r
        → IsPassed n.holds n.digest_of r bytes mid.sessions.readers.items.items index new.sessions.readers.items.items)
        → new.sessions.readers.next ≡ mid.sessions.readers.next → PassesPart old index reader asked part new
    passes_part asked part piece whole new only bytes bytes_are passed next = record {
      there = piece;
      whole = whole;
      passed = subst (λ (s : Sessions S). IsPassed n.holds n.digest_of reader part s.readers.items.items index new.sessions.readers.items.items)
          looks.sessions_same
          (subst (λ (b : List ℕ). IsPassed n.holds n.digest_of reader b mid.sessions.readers.items.items index new.sessions.readers.items.items)
          bytes_are (passed reader mid_there));
      next = next ∙ ap (λ (s : Sessions S). s.readers.next) looks.sessions_same;
      only = subst (λ (s : Sessions S). OnlyReaders s new.sessions) looks.sessions_same only;
    }

  module _ (old new : StoreParts D N S d n) (index : ℕ) (reader : OpenReader S)
      (there : slice_get old.sessions.readers.items.items index ≡ Some reader) (asked : Asked) (part : List ℕ)
      (passes : PassesPart old index reader asked part new) where
    -- the reader behind the part
    pub behind_there : slice_get new.sessions.readers.items.items index ≡ Some passes.passed.next
    behind_there =
        ap (λ (items : List (OpenReader S)). slice_get items index) passes.passed.items
        ∙ set_at old.sessions.readers.items.items index reader passes.passed.next there

    pub gives_part : ((r : OpenReader S) → slice_get new.sessions.readers.items.items index ≡ Some r → None ≡ r.wrong)
        → GivesNext (Piece asked) old index reader (Ok (Part part)) new
    gives_part none = (
      part,
      refl,
      (
        passes,
        goes_on n.holds n.digest_of reader part passes.passed.next passes.passed.where_it_is (sym (none passes.passed.next behind_there)),
      ),
    )

    pub finds_wrong : (digest : List ℕ)
        → ((r : OpenReader S) → slice_get new.sessions.readers.items.items index ≡ Some r → Some digest ≡ r.wrong) → (refusal : Refusal)
        → IsDamagedOr asked.content digest refusal → GivesNext (Piece asked) old index reader (Err refusal) new
    finds_wrong digest wrong refusal kind = inr (record {
      part = part;
      passes = passes;
      digest = digest;
      is = sym (wrong passes.passed.next behind_there);
      refused = kind;
    })

  -- what is given next, of the reader that was found
  pub gives_found : (old new : StoreParts D N S d n) (number at : ℕ)
      → Some at ≡ reader_place old number → (next : NextPart) (reply : Reply)
      → ((reader : OpenReader S) → slice_get old.sessions.readers.items.items at ≡ Some reader → next ≡ next_of reader)
      → ((reader : OpenReader S) → slice_get old.sessions.readers.items.items at ≡ Some reader → GivesNext next old at reader reply new)
      → (at' : ℕ) (reader : OpenReader S) → Some at' ≡ reader_place old number
      → slice_get old.sessions.readers.items.items at' ≡ Some reader → GivesPart old at' reader reply new
  gives_found old new number at is next reply next_is gives at' reader found there =
      let same : at ≡ at' = cc in
      let here : slice_get old.sessions.readers.items.items at ≡ Some reader
      = ap (slice_get old.sessions.readers.items.items) same ∙ there in
      subst (λ (k : ℕ). GivesNext (next_of reader) old k reader reply new) same
      (subst (λ (m : NextPart). GivesNext m old at reader reply new) (next_is reader here) (gives reader here))

  -- ---- a reader that was found

  module _ (old : StoreParts D N S d n) (number index : ℕ) (reader : OpenReader S)
      (e : Some index ≡ reader_place old number)
      (there : slice_get old.sessions.readers.items.items index ≡ Some reader) where
    found : (office : Office) (names : Names) (at : IsRunning old office names) → IsReaderFound old office names at number index reader
    found office names at = reader_found old office names at number index reader e there

    -- nothing is left
    pub part_end : End ≡ next_of reader → (part : List ℕ) → part ≡ [] → Runs old (ReadPart number) (Ok (Part part)) old
    part_end end part none =
        runs_reads old old (ReadPart number) (Ok (Part part)) (reads_still old)
        (λ office names at. (judged office names at, refl)) (λ office names at. tt) refl (λ e. absurd cc)
        (counted_fine (counted_still (count_of old) ⊥ (λ e. e)) (λ e. e) (λ e. absurd cc))
      where
        judged : (office : Office) (names : Names) → IsRunning old office names
            → ReadPartEvent.carried number office ≡ Ok (record { answer = Part part; after = office })
        judged office names at =
            let f = found office names at in
            ap (λ g. g >>= λ next. Ok (record { answer = Part next.part; after = with_readers office next.readers }))
            (end_gives n.holds (given (slots old)) (contents_of at.all) f.value reader f.is end number index office.readers f.is_at f.there)
            ∙ ap (λ (p : List ℕ). Ok (record { answer = Part p; after = office })) (sym none)

    -- a digest that was found wrong before
    pub part_known : (content : PoolId) (digest : List ℕ) → Wrong content digest ≡ next_of reader → (refusal : Refusal)
        → IsDamagedOr content digest refusal → Runs old (ReadPart number) (Err refusal) old
    part_known content digest wrong refusal kind =
        runs_never old old (ReadPart number) (Err refusal)
        (λ office names at.
        let f = found office names at in
        never_wrong n.holds (given (slots old)) (contents_of at.all) f.value reader f.is content digest wrong) tt
        (λ e. damaged_awake content digest refusal kind (let same : refusal ≡ Halted = cc in same)) (works_reads old old (reads_still old))
        refl (counted_fine (counted_still (count_of old) ⊥ (λ e. e)) (λ e. e) (damaged_fine content digest refusal kind))

    module _ (asked : Asked) (is_next : Piece asked ≡ next_of reader) where
      abbrev asked_is : IsAsked reader asked
      asked_is = is_asked reader asked is_next

      told_is : (office : Office) (names : Names) (at : IsRunning old office names)
          → IsToldContent (given (slots old)) (contents_of at.all) reader.size reader.content
      told_is office names at = (found office names at).is.told

      -- ---- a part that couldn't be read

      pub part_fault : {T : Type 0} (mid : StoreParts D N S d n) (looks : Looks old mid) (refusal : Refusal)
          → IsPieceFault old asked.content asked.from asked.room refusal
          → Counted (count_of old) (count_of mid) (Failed {T = T} (Err refusal)) → Runs old (ReadPart number) (Err refusal) mid
      part_fault mid looks (Broken rule) fault counted = absurd fault
      part_fault mid looks Halted fault counted = absurd fault
      part_fault mid looks Memory fault counted =
          runs_memory old mid (ReadPart number) (reads_of old mid looks) (counted_fine counted (λ e. cc) (λ e. e))
      part_fault mid looks DiskFault fault counted =
          runs_read_fault old mid (ReadPart number) (reads_of old mid looks) (λ office names. refl) counted refl
      part_fault mid looks (Damaged file content) fault counted =
          runs_never old mid (ReadPart number) (Err (Damaged file content)) never tt (λ e. absurd cc) (works_reads old mid (reads_of old mid looks))
          looks.quiet.told_same (counted_fine counted (λ e. cc) (λ e. cc))
        where
          never : (office : Office) (names : Names) → IsRunning old office names → ⊥
          never office names at =
              let told_here = told_is office names at in
              piece_not_damaged old asked.content asked.from asked.room file content fault office names at
              (part_given (given (slots old)) (contents_of at.all) reader told_here asked asked_is)
              (part_within (given (slots old)) (contents_of at.all) reader told_here asked asked_is)

      -- ---- a part that was read

      module _ (mid new : StoreParts D N S d n) (looks : Looks old mid) (same : IsSameBut mid new) {failed : Type 0}
          (counted : Counted (count_of old) (count_of mid) failed) (fine : failed → ⊥) (part : List ℕ)
          (passes : PassesPart old index reader asked part new) where
        stays : Stays old new
        stays = record {
          quiet = subst (λ (j : Journal D d). Quiet old.journal j) (sym same.journal) looks.quiet;
          catalog_same = same.catalog ∙ looks.catalog_same;
          counts_same = same.counts ∙ looks.counts_same;
          partials_same = same.partials ∙ looks.partials_same;
          views_same = same.views ∙ looks.views_same;
          halted_same = same.halted ∙ looks.halted_same;
          form_same = ap (λ (p : Pool N S n). p.in_one_file) (same.pool ∙ looks.pool_same);
          names = near_same (slots old) (slots new) (λ id. ap (λ (p : Pool N S n). slots_of p.names id) (same.pool ∙ looks.pool_same));
        }

        counted_new : Counted (count_of old) (count_of new) failed
        counted_new = subst (λ (j : Journal D d). Counted (count_of old) (d.fault_count j.disk) failed) (sym same.journal) counted

        claims_same : (id : PoolId) → claims_of (slots new id) ≡ claims_of (slots old id)
        claims_same id = ap (λ (p : Pool N S n). claims_of (slots_of p.names id)) (same.pool ∙ looks.pool_same)

        next_part : (office : Office) (names : Names) (at : IsRunning old office names)
            → part ≡ take piece_limit (drop reader.given (bytes_of (contents_of at.all) reader.content))
        next_part office names at =
            part_gives (given (slots old)) (contents_of at.all) reader (told_is office names at) asked asked_is part
            (piece_read (at.all (PoolFile asked.content)) asked.from asked.room part (sym (passes.there at.all at.told_is)))

        -- no digest was found wrong
        never_found : (office : Office) (names : Names) → IsRunning old office names → passes.passed.next.wrong ≡ None
        never_found office names at = step passes.passed.where_it_is
          where
            step : IsFurther n.holds n.digest_of reader part passes.passed.next ⊎ IsStopped n.holds n.digest_of reader part passes.passed.next
                → passes.passed.next.wrong ≡ None
            step (inl further) = further.wrong ∙ (found office names at).is.right
            step (inr stopped) = absurd (part_not_wrong old number index reader e there new stays passes.only counted_new fine part next_part
                passes.passed.next stopped office names at)

        -- the reader gave it and moved on
        pub part_made : Runs old (ReadPart number) (Ok (Part part)) new
        part_made = runs_part_given old number index reader e there new stays passes.only counted_new fine part next_part claims_same
            passes.passed passes.next

        -- the digest of all can't be wrong
        pub part_wrong : (digest : List ℕ)
            → ((r : OpenReader S) → slice_get new.sessions.readers.items.items index ≡ Some r → Some digest ≡ r.wrong) → (refusal : Refusal)
            → IsDamagedOr asked.content digest refusal → Runs old (ReadPart number) (Err refusal) new
        part_wrong digest wrong refusal kind =
            runs_never old new (ReadPart number) (Err refusal)
            (λ office names at.
            let is = wrong passes.passed.next (behind_there old new index reader there asked part passes) in
            let none = never_found office names at in
            let never : ⊥ = cc in never) tt (λ e. damaged_awake asked.content digest refusal kind (let same : refusal ≡ Halted = cc in same))
            (works_stays old new stays) stays.quiet.told_same
            (counted_fine counted_new fine (damaged_fine asked.content digest refusal kind))
