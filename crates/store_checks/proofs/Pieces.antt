-- A piece of a content is what the model answers.
--     piece_refused      the index lists no content of the name
--     piece_past, piece_given, piece_failed      a piece past the end, one that was read, and one that couldn't be
--     gives_past, gives_read, gives_failed      and what is said of the files, whatever they hold
use Rattle.std.specs.Prelude.{◌≡◌, ◌<◌, ◌≤◌, ◌+◌, ◌-◌, ℕ, zero, suc, min, true, List, [], ◌∷◌, take, drop, length, Option, Some, None, is_some, Result, Ok, Err, option_map}
use Rattle.std.proofs.Common.{refl, sym, ap, ◌∙◌, subst, arith}
use Rattle.std.proofs.lemmas.List.{length-drop, take_min}
use Rattle.fault_counts.specs.Counts.{Counted}
use Rattle.disk_trait.specs.declared.ids.PoolId.{PoolId}
use Rattle.disk_trait.specs.declared.ids.FileId.TheVariants.{Pool as PoolFile}
use Rattle.disk_trait.specs.declared.disk.Disk.{Ghosts as DiskGhosts}
use Rattle.disk_trait.specs.Files.{Files, piece}
use Rattle.pool_name.specs.declared.namer.Namer.{Ghosts as NamerGhosts}
use Rattle.journal_view.specs.View.{told}
use Rattle.pool_index.specs.declared.item.IndexItem.{IndexItem}
use Rattle.pool_changes.specs.declared.slot.Slot.{Slot}
use Rattle.pool_changes.specs.declared.slot.Slot.TheVariants.{Live, Staged, Doomed}
use Rattle.pool_changes.specs.Slots.{is_live, is_given}
use Rattle.pool_changes.specs.Listed.{index_of}
use Rattle.backup_views.specs.declared.kept.Views.{Views}
use Rattle.office_model.specs.declared.answer.Answer.TheVariants.{Part}
use Rattle.office_model.specs.declared.event.Event.TheVariants.{PoolPiece}
use Rattle.office_model.specs.declared.refusal.BrokenRule.TheVariants.{NoContent}
use Rattle.office_model.specs.declared.refusal.Refusal.{Refusal}
use Rattle.office_model.specs.declared.refusal.Refusal.TheVariants.{Broken, Halted, DiskFault, Damaged, Memory}
use Rattle.office_model.specs.Ids.{content_at}
use Rattle.office_model.specs.Meaning.{◌>>=◌, found}
use Rattle.office_model.specs.Office.{Office, Names, piece_limit}
use Rattle.office_model.specs.events.PoolPiece as PoolPieceEvent
use Rattle.office_files.specs.Pooled.{contents_of}
use Rattle.store_parts.specs.declared.parts.StoreParts.{StoreParts}
use Rattle.store_parts.specs.Held.{given, IsKeptView}
use Rattle.store_parts.specs.States.{slots, IsRunning}
use Rattle.store_parts.specs.StoredLaws.{listed_live}
use Rattle.store_parts.specs.Runs.{Reads, Runs}
use Rattle.store_parts.specs.RunLaws.{counted_still, counted_fine, reads_still, runs_reads, runs_memory, runs_read_fault, works_reads}
use Rattle.store_parts.specs.RefusedLaws.{runs_broken}
use Rattle.store_parts.specs.OpenLaws.{runs_never}
use Rattle.store_reads.specs.Shown.{Looks}
use Rattle.store_reads.specs.Pieces.{IsPieceFault}
use Rattle.store_reads.specs.PiecesLaws.{piece_read, piece_not_damaged}
use Rattle.store_checks.specs.Giving.{size_at, room_of, IsSized, GivesPiece}

-- ---- lists and slots

none_taken : (n : ℕ) (xs : List ℕ) → length xs ≡ 0 → take n xs ≡ []
none_taken zero [] e = refl
none_taken (suc n) [] e = refl
none_taken n (x ∷ xs) e = absurd (omega (arith, e))

-- past the end there is nothing
past_end : (limit from : ℕ) (bytes : List ℕ) → length bytes ≤ from → take limit (drop from bytes) ≡ []
past_end limit from bytes past = let rest = length-drop from bytes in none_taken limit (drop from bytes) (omega (arith, rest, past))

-- a live name is a given one
live_given : (slot : Option Slot) → is_live slot ≡ true → is_given slot ≡ true
live_given None e = e
live_given (Some (Live size mark claims)) e = refl
live_given (Some (Staged size claims)) e = refl
live_given (Some Doomed) e = e

sized_item : (item : Option IndexItem) (size : ℕ) → option_map (λ (item : IndexItem). item.size) item ≡ Some size
    → (is : IndexItem) × (item ≡ Some is) × (is.size ≡ size)
sized_item None size e = absurd (cc)
sized_item (Some item) size e = (item, refl, cc)

unsized_item : (item : Option IndexItem) → option_map (λ (item : IndexItem). item.size) item ≡ None → item ≡ None
unsized_item None e = refl
unsized_item (Some item) e = absurd (cc)

-- a call failed by a fault of the disk
abbrev pub Failed : {T : Type 0} → Result T Refusal → Type 0
Failed {T} reply = reply ≡ Err DiskFault

pub not_failed : {T : Type 0} (x : T) → Failed (Ok x) → ⊥
not_failed x e = cc

module _ {D N S : Type 0} {d : DiskGhosts D} {n : NamerGhosts N S} where
  abbrev count_of : StoreParts D N S d n → ℕ
  count_of parts = d.fault_count parts.journal.disk

  reads_of : (old mid : StoreParts D N S d n) → Looks old mid → Reads old mid
  reads_of old mid looks = record {
    quiet = looks.quiet;
    pool_same = looks.pool_same;
    catalog_same = looks.catalog_same;
    counts_same = looks.counts_same;
    partials_same = looks.partials_same;
    sessions_same = looks.sessions_same;
    halted_same = looks.halted_same;
    view = λ office names at.
        subst (λ (views : Views). IsKeptView views.kept office.hosts at.shown) (sym looks.views_same) at.view;
  }

  module _ (old : StoreParts D N S d n) (id : PoolId) (from : ℕ) where
    -- ---- no content of the name

    pub piece_refused : size_at (index_of (slots old)) id ≡ None → Runs old (PoolPiece id from) (Err (Broken NoContent)) old
    piece_refused none = runs_broken old (PoolPiece id from) NoContent (λ office names at.
        let absent : content_at office.ids id ≡ None =
        at.stands.ids.each id ∙ ap (option_map (λ (item : IndexItem). contents_of at.all id)) (unsized_item (index_of (slots old) id) none) in
        ap (λ (c : Option (List ℕ)). found NoContent c
        >>= λ content. Ok (record { answer = Part (PoolPieceEvent.piece_of piece_limit from content); after = office })) absent)

    -- ---- a listed content

    module _ (size : ℕ) (sized : IsSized old id size) where
      abbrev item : (item : IndexItem) × (index_of (slots old) id ≡ Some item) × (item.size ≡ size)
      item = sized_item (index_of (slots old) id) size sized

      size_is : (office : Office) (names : Names) (at : IsRunning old office names) → size ≡ length (contents_of at.all id)
      size_is office names at = sym item.2 ∙ (at.stands.pool.pooled id item.0 item.1).size

      is_given_id : given (slots old) id
      is_given_id = live_given (slots old id) (listed_live (slots old) id (ap is_some item.1))

      -- what the model answers, if this is the piece of the content
      judged : (office : Office) (names : Names) (at : IsRunning old office names) (part : List ℕ)
          → part ≡ take piece_limit (drop from (contents_of at.all id))
          → PoolPieceEvent.carried id from office ≡ Ok (record { answer = Part part; after = office })
      judged office names at part is =
          ap (λ (c : Option (List ℕ)). found NoContent c
          >>= λ content. Ok (record { answer = Part (PoolPieceEvent.piece_of piece_limit from content); after = office }))
          (at.stands.ids.each id ∙ ap (option_map (λ (item : IndexItem). contents_of at.all id)) item.1)
          ∙ ap (λ (p : List ℕ). Ok (record { answer = Part p; after = office })) (sym is)

      -- ---- past its end

      pub piece_past : size ≤ from → (part : List ℕ) → part ≡ [] → Runs old (PoolPiece id from) (Ok (Part part)) old
      piece_past past part none =
          runs_reads old old (PoolPiece id from) (Ok (Part part)) (reads_still old)
          (λ office names at.
          let long = size_is office names at in
          (judged office names at part (none ∙ sym (past_end piece_limit from (contents_of at.all id) (omega (arith, past, long)))), refl))
          (λ office names at. tt) refl (λ e. absurd cc)
          (counted_fine (counted_still (count_of old) ⊥ (λ e. e)) (λ e. e) (λ e. absurd cc))

      pub gives_past : size ≤ from → (part : List ℕ) → part ≡ [] → GivesPiece old id from (Ok (Part part))
      gives_past past part none = (
        size,
        sized,
        part,
        refl,
        record {
          whole = let long = ap length none in omega (arith, past, long);
          there = λ less. absurd (omega (arith, past, less));
        },
      )

      -- ---- within it

      module _ (less : from < size) (room : ℕ) (room_is : room ≡ room_of size from) where
        within : (office : Office) (names : Names) (at : IsRunning old office names)
            → from + room ≤ length (contents_of at.all id)
        within office names at = let long = size_is office names at in omega (arith, less, long, room_is)

        module _ (mid : StoreParts D N S d n) (looks : Looks old mid) where
          pub piece_given : {failed : Type 0} → Counted (count_of old) (count_of mid) failed → (failed → ⊥) → (part : List ℕ)
              → ((all : Files) → told old.journal ≡ Some all → piece (all (PoolFile id)) from room ≡ Some part)
              → Runs old (PoolPiece id from) (Ok (Part part)) mid
          piece_given counted fine part there =
              runs_reads old mid (PoolPiece id from) (Ok (Part part)) (reads_of old mid looks)
              (λ office names at. (judged office names at part (is office names at), refl)) (λ office names at. tt) refl (λ e. absurd cc)
              (counted_fine counted fine (λ e. absurd cc))
            where
              is : (office : Office) (names : Names) (at : IsRunning old office names)
                  → part ≡ take piece_limit (drop from (contents_of at.all id))
              is office names at =
                  let long = size_is office names at in
                  let rest = length-drop from (contents_of at.all id) in
                  let left : size - from ≡ length (drop from (contents_of at.all id)) = omega (arith, rest, long) in
                  piece_read (at.all (PoolFile id)) from room part (sym (there at.all at.told_is))
                  ∙ ap (λ (k : ℕ). take k (drop from (contents_of at.all id))) room_is
                  ∙ ap (λ (k : ℕ). take (min piece_limit k) (drop from (contents_of at.all id))) left
                  ∙ take_min piece_limit (drop from (contents_of at.all id))

          pub piece_failed : {T : Type 0} (refusal : Refusal) → IsPieceFault old id from room refusal
              → Counted (count_of old) (count_of mid) (Failed {T = T} (Err refusal)) → Runs old (PoolPiece id from) (Err refusal) mid
          piece_failed (Broken rule) fault counted = absurd fault
          piece_failed Halted fault counted = absurd fault
          piece_failed Memory fault counted =
              runs_memory old mid (PoolPiece id from) (reads_of old mid looks) (counted_fine counted (λ e. cc) (λ e. e))
          piece_failed DiskFault fault counted =
              runs_read_fault old mid (PoolPiece id from) (reads_of old mid looks) (λ office names. refl) counted refl
          piece_failed (Damaged file content) fault counted =
              runs_never old mid (PoolPiece id from) (Err (Damaged file content))
              (λ office names at.
              piece_not_damaged old id from room file content fault office names at is_given_id (within office names at)) tt
              (λ e. absurd cc) (works_reads old mid (reads_of old mid looks)) looks.quiet.told_same (counted_fine counted (λ e. cc) (λ e. cc))

        pub gives_read : (part : List ℕ) → length part ≡ room
            → ((all : Files) → told old.journal ≡ Some all → piece (all (PoolFile id)) from room ≡ Some part)
            → GivesPiece old id from (Ok (Part part))
        gives_read part whole there = (
          size,
          sized,
          part,
          refl,
          record {
            whole = whole ∙ room_is;
            there = λ before all told_is.
                subst (λ (k : ℕ). piece (all (PoolFile id)) from k ≡ Some part) room_is (there all told_is);
          },
        )

        pub gives_failed : (refusal : Refusal) → IsPieceFault old id from room refusal → GivesPiece old id from (Err refusal)
        gives_failed refusal fault = step refusal (subst (λ (k : ℕ). IsPieceFault old id from k refusal) room_is fault)
          where
            step : (refusal : Refusal) → IsPieceFault old id from (room_of size from) refusal → GivesPiece old id from (Err refusal)
            step (Broken rule) fault = absurd fault
            step Halted fault = absurd fault
            step Memory fault = (size, sized, less, fault)
            step DiskFault fault = (size, sized, less, fault)
            step (Damaged file content) fault = (size, sized, less, fault)
