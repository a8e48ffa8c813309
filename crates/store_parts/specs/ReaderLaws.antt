-- Events of readers, by what memory does.
--     runs_file_opened, runs_file_spent      a reader is opened, which claims its content; no number is left
--     runs_file_closed      a reader is dropped, and its claim let go
--     runs_part_given      a reader gives its next part
--     part_right, part_not_wrong      no content of a store at work has another digest than its name
use Rattle.std.specs.Prelude.{◌≡◌, ◌<◌, ◌≤◌, ◌+◌, ◌-◌, ◌^◌, ℕ, Bool, true, false, List, [], ◌∷◌, ◌++◌, length, take, drop, nat_le, Option, Some, None, Ok, Err, slice_get, slice_set, if◌then◌else◌}
use Rattle.std.specs.List.{remove}
use Rattle.std.proofs.Common.{refl, sym, ap, ◌∙◌, subst, arith}
use Rattle.std.proofs.lemmas.Bool.Decides.{nat_tests}
use Rattle.fault_counts.specs.Counts.{Counted}
use Rattle.disk_trait.specs.declared.ids.PoolId.{PoolId}
use Rattle.disk_trait.specs.declared.disk.Disk.{Ghosts as DiskGhosts}
use Rattle.disk_trait.specs.Files.{bytes_of as file_bytes}
use Rattle.pool_name.specs.declared.namer.Namer.{Ghosts as NamerGhosts}
use Rattle.pool_changes.specs.Slots.{claims_of}
use Rattle.stored_trees.specs.Resolved.{bytes_of, IsToldContent}
use Rattle.stored_trees.specs.Occurrences.{is_content}
use Rattle.open_sessions.specs.declared.readers.OpenReader.{OpenReader}
use Rattle.open_sessions.specs.Giving.{IsPassed, IsStopped}
use Rattle.open_sessions.specs.Opened.{claims_of_reader, OnlyReaders}
use Rattle.open_sessions.specs.ReaderCallLaws.{AreSessions-reader_opened, AreSessions-reader_passed, AreSessions-reader_taken, claims_in-reader_opened, claims_in-reader_passed, claims_in-reader_taken, not_stopped}
use Rattle.office_model.specs.declared.answer.Answer.TheVariants.{Done, Opened, Part}
use Rattle.office_model.specs.declared.event.Event.TheVariants.{OpenFile, ReadPart, CloseFile}
use Rattle.office_model.specs.declared.refusal.BrokenRule.TheVariants.{NumbersSpent}
use Rattle.office_model.specs.declared.refusal.Refusal.TheVariants.{Broken}
use Rattle.office_model.specs.Office.{Office, Reader, Names, last_sequence, piece_limit, with_readers}
use Rattle.office_model.specs.Parts.{At, reader_at}
use Rattle.office_model.specs.Meaning.{Carried, Judged, ◌>>=◌, ◌>>◌, breaks}
use Rattle.office_model.specs.events.ReadFile.{file_of}
use Rattle.office_model.specs.events.OpenFile as OpenFileEvent
use Rattle.office_model.specs.events.ReadPart as ReadPartEvent
use Rattle.office_model.specs.events.CloseFile as CloseFileEvent
use Rattle.office_files.specs.Pooled.{contents_of}
use Rattle.store_parts.specs.declared.parts.StoreParts.{StoreParts}
use Rattle.store_parts.specs.Held.{given}
use Rattle.store_parts.specs.States.{slots, staging_of, IsRunning}
use Rattle.store_parts.specs.Runs.{Runs, Reads}
use Rattle.store_parts.specs.RunLaws.{runs_refused}
use Rattle.store_parts.specs.FoundLaws.{reader_place, reader_found}
use Rattle.store_parts.specs.Opens.{Stays}
use Rattle.store_parts.specs.OpenLaws.{alike_still, runs_opened}

-- ---- numbers

spent : (next : ℕ) → 2 ^ 64 - 1 ≤ next → nat_le last_sequence next ≡ true
spent next h = grind (arith, nat_tests)

unspent : (next : ℕ) → next < 2 ^ 64 - 1 → nat_le last_sequence next ≡ false
unspent next h = grind (arith, nat_tests)

-- ---- the model

module _ (office : Office) (name : List ℕ) (number : ℕ) (path bytes : List ℕ) (next : ℕ)
    (is : file_of office.hosts name number path ≡ Ok bytes) where
  abbrev with_opened : Office
  with_opened = with_readers office (office.readers ++ OpenFileEvent.new_reader next bytes ∷ [])

  abbrev made_of : List ℕ → OpenFileEvent.Opening
  made_of content = record { size = length content; readers = office.readers ++ OpenFileEvent.new_reader next content ∷ [] }

  abbrev opened_by : OpenFileEvent.Opening → Judged Carried
  opened_by made = Ok (record { answer = Opened next made.size; after = with_readers office made.readers })

  -- if no number is left, or one is
  abbrev opened_if : Bool → Judged Carried
  opened_if no_number = (breaks NumbersSpent no_number >> Ok (made_of bytes)) >>= opened_by

  open_judged : (no_number : Bool) → nat_le last_sequence next ≡ no_number
      → OpenFileEvent.carried name number path next office ≡ opened_if no_number
  open_judged no_number e =
      ap (λ (j : Judged (List ℕ)). (j >>= λ content. breaks NumbersSpent (nat_le last_sequence next) >> Ok (made_of content))
      >>= opened_by) is
      ∙ ap opened_if e

module _ (office : Office) (number : ℕ) (reader : At Reader) (is_at : reader_at office.readers number ≡ Ok reader) where
  close_judged : CloseFileEvent.carried number office
      ≡ Ok (record { answer = Done; after = with_readers office (remove office.readers reader.index) })
  close_judged =
      ap (λ (j : Judged (At Reader)). (j >>= λ reader. Ok (remove office.readers reader.index))
      >>= λ readers. Ok (record { answer = Done; after = with_readers office readers })) is_at

  abbrev given_by : At Reader → ReadPartEvent.Given
  given_by reader = record {
    part = ReadPartEvent.part_of piece_limit reader.value;
    readers = slice_set office.readers reader.index (ReadPartEvent.moved_on piece_limit reader.value);
  }

  part_judged : ReadPartEvent.carried number office
      ≡ Ok (record { answer = Part (given_by reader).part; after = with_readers office (given_by reader).readers })
  part_judged =
      ap (λ (j : Judged (At Reader)). (j >>= λ reader. Ok (given_by reader))
      >>= λ next. Ok (record { answer = Part next.part; after = with_readers office next.readers })) is_at

-- the size of a told content
size_told : (given : PoolId → Type 0) (contents : PoolId → List ℕ) (size : ℕ) (content : Option PoolId)
    → IsToldContent given contents size content → size ≡ length (bytes_of contents content)
size_told given contents size None told = told
size_told given contents size (Some id) told = told.1

module _ {D N S : Type 0} {d : DiskGhosts D} {n : NamerGhosts N S} where
  -- a live or staged content has the digest in its name
  pub named : (parts : StoreParts D N S d n) (office : Office) (names : Names) (at : IsRunning parts office names) (id : PoolId)
      → given (slots parts) id → n.digest_of (contents_of at.all id) ≡ id.digest
  named parts office names at id g = let held = at.fits.held id g in ap (λ found. n.digest_of (file_bytes found)) held.is ∙ held.digest

  -- the file of a backup at a path is told by this content
  pub record IsFileFound (parts : StoreParts D N S d n) (name : List ℕ) (number : ℕ) (path : List ℕ) (content : Option PoolId) (size : ℕ)
      (office : Office) (names : Names) (at : IsRunning parts office names) : Type 0 where
    pub is : file_of office.hosts name number path ≡ Ok (bytes_of (contents_of at.all) content)
    pub told : IsToldContent (given (slots parts)) (contents_of at.all) size content

  -- ---- a reader is opened

  module _ (old : StoreParts D N S d n) (name : List ℕ) (number : ℕ) (path : List ℕ) (content : Option PoolId) (size : ℕ)
      (file : (office : Office) (names : Names) (at : IsRunning old office names)
      → IsFileFound old name number path content size office names at)
    where
      pub runs_file_opened : (new : StoreParts D N S d n) → Stays old new → OnlyReaders old.sessions new.sessions → {failed : Type 0}
          → Counted (d.fault_count old.journal.disk) (d.fault_count new.journal.disk) failed → (failed → ⊥)
          → ((id : PoolId) → claims_of (slots new id) ≡ claims_of (slots old id) + (if is_content id content then 1 else 0))
          → old.sessions.readers.next < 2 ^ 64 - 1 → (digest : S) → n.holds digest []
          → new.sessions.readers.items.items ≡ old.sessions.readers.items.items
          ++ record { number = old.sessions.readers.next; content = content; size = size; given = 0; digest = digest; wrong = None } ∷ []
          → new.sessions.readers.next ≡ old.sessions.readers.next + 1 → (reader : ℕ) → reader ≡ old.sessions.readers.next
          → Runs old (OpenFile name number path) (Ok (Opened reader size)) new
      runs_file_opened new stays same counted fine claims room digest none items next reader reader_is =
          runs_opened old new (OpenFile name number path) stays counted fine (Opened reader size)
          (λ office names at.
          let found = file office names at in
          let bytes : List ℕ = bytes_of (contents_of at.all) content in
          record {
            now = record office.volatile { readers = office.readers ++ OpenFileEvent.new_reader names.next_reader bytes ∷ [] };
            names' = record names { next_reader = names.next_reader + 1 };
            judged =
                open_judged office name number path bytes names.next_reader found.is false
                (unspent names.next_reader (subst (λ (k : ℕ). k < 2 ^ 64 - 1) at.sessions.numbers.reader room))
                ∙ ap (λ (k : ℕ). Ok (record {
                  answer = Opened k (length bytes);
                  after = with_opened office name number path bytes names.next_reader found.is;
                })) (sym (reader_is ∙ at.sessions.numbers.reader))
                ∙ ap (λ (k : ℕ). Ok (record {
                  answer = Opened reader k;
                  after = with_opened office name number path bytes names.next_reader found.is;
                })) (sym (size_told (given (slots old)) (contents_of at.all) size content found.told));
            renamed = refl;
            alike = record { used = refl; digest_of = refl; old_hosts = refl };
            sessions = AreSessions-reader_opened old.sessions new.sessions same n.holds (given (slots old)) (contents_of at.all)
                (staging_of at.all names) office.volatile at.sessions content size digest none found.told items next;
            claimed = λ id.
                claims id ∙ ap (λ (k : ℕ). k + (if is_content id content then 1 else 0)) (at.claimed id)
                ∙ sym (claims_in-reader_opened old.sessions new.sessions same id _ items);
          }) refl

      -- no number is left; files were read at most
      pub runs_file_spent : (mid : StoreParts D N S d n) → Reads old mid → 2 ^ 64 - 1 ≤ old.sessions.readers.next
          → Counted (d.fault_count old.journal.disk) (d.fault_count mid.journal.disk) ⊥
          → Runs old (OpenFile name number path) (Err (Broken NumbersSpent)) mid
      runs_file_spent mid reads none counted = runs_refused old mid (OpenFile name number path) NumbersSpent reads
          (λ office names at.
          open_judged office name number path (bytes_of (contents_of at.all) content) names.next_reader (file office names at).is true
          (spent names.next_reader (subst (λ (k : ℕ). 2 ^ 64 - 1 ≤ k) at.sessions.numbers.reader none))) counted

  -- ---- an open reader

  module _ (old : StoreParts D N S d n) (number index : ℕ) (held : OpenReader S) (e : Some index ≡ reader_place old number)
      (there : slice_get old.sessions.readers.items.items index ≡ Some held) where
    module _ (new : StoreParts D N S d n) (stays : Stays old new) (same : OnlyReaders old.sessions new.sessions) {failed : Type 0}
        (counted : Counted (d.fault_count old.journal.disk) (d.fault_count new.journal.disk) failed) (fine : failed → ⊥) where
      pub runs_file_closed : ((id : PoolId) → claims_of (slots new id) + claims_of_reader held id ≡ claims_of (slots old id))
          → new.sessions.readers.items.items ≡ remove old.sessions.readers.items.items index
          → new.sessions.readers.next ≡ old.sessions.readers.next → Runs old (CloseFile number) (Ok Done) new
      runs_file_closed claims items next =
          runs_opened old new (CloseFile number) stays counted fine Done
          (λ office names at.
          let found = reader_found old office names at number index held e there in
          record {
            now = record office.volatile { readers = remove office.readers index };
            names' = names;
            judged = close_judged office number (record { index = index; value = found.value }) found.is_at;
            renamed = refl;
            alike = alike_still names;
            sessions = AreSessions-reader_taken old.sessions new.sessions same n.holds (given (slots old)) (contents_of at.all)
                (staging_of at.all names) office.volatile at.sessions index items next;
            claimed = λ id.
                let taken = claims_in-reader_taken old.sessions new.sessions same id index held there items in
                omega (arith, claims id, at.claimed id, taken);
          }) refl

      -- the part that it gives is the next one of its content
      module _ (part : List ℕ) (next_part : (office : Office) (names : Names) (at : IsRunning old office names)
          → part ≡ take piece_limit (drop held.given (bytes_of (contents_of at.all) held.content))) where
        part_is : (office : Office) (names : Names) (at : IsRunning old office names)
            → part ≡ ReadPartEvent.part_of piece_limit (reader_found old office names at number index held e there).value
        part_is office names at =
            let found = reader_found old office names at number index held e there in
            next_part office names at
            ∙ (λ i. take piece_limit (drop (found.is.given_is i) (sym found.is.content i)))

        pub runs_part_given : ((id : PoolId) → claims_of (slots new id) ≡ claims_of (slots old id))
            → IsPassed n.holds n.digest_of held part old.sessions.readers.items.items index new.sessions.readers.items.items
            → new.sessions.readers.next ≡ old.sessions.readers.next → Runs old (ReadPart number) (Ok (Part part)) new
        runs_part_given claims passed next =
            runs_opened old new (ReadPart number) stays counted fine (Part part)
            (λ office names at.
            let found = reader_found old office names at number index held e there in
            let readers : List Reader = slice_set office.readers index (ReadPartEvent.moved_on piece_limit found.value) in
            record {
              now = record office.volatile { readers = readers };
              names' = names;
              judged =
                  part_judged office number (record { index = index; value = found.value }) found.is_at
                  ∙ ap (λ (p : List ℕ). Ok (record { answer = Part p; after = with_readers office readers }))
                  (sym (part_is office names at));
              renamed = refl;
              alike = alike_still names;
              sessions = AreSessions-reader_passed old.sessions new.sessions same n.holds (given (slots old)) (contents_of at.all)
                  (staging_of at.all names) office.volatile at.sessions n.digest_of
                  (named old office names at) index piece_limit found.value held
                  part found.there there (part_is office names at) passed next;
              claimed = λ id.
                  claims id ∙ at.claimed id
                  ∙ sym (claims_in-reader_passed old.sessions new.sessions same id n.holds n.digest_of index held part there passed);
            }) refl

        -- at work no reader is stopped by the digest of its content
        pub part_not_wrong : (after : OpenReader S) → IsStopped n.holds n.digest_of held part after
            → (office : Office) (names : Names) → IsRunning old office names → ⊥
        part_not_wrong after stopped office names at =
            let found = reader_found old office names at number index held e there in
            not_stopped n.holds (given (slots old)) (contents_of at.all) n.digest_of piece_limit found.value held after part
            (part_is office names at) found.is (named old office names at) stopped

    -- and none was
    pub part_right : (digest : List ℕ) → held.wrong ≡ Some digest → (office : Office) (names : Names) → IsRunning old office names → ⊥
    part_right digest wrong office names at =
        let right = (reader_found old office names at number index held e there).is.right in
        let both : None ≡ Some digest = sym right ∙ wrong in cc
