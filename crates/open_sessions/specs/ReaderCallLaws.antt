-- All open sessions after a call on readers, and their claims.
--     AreSessions-readers_kept      the same ones are open
--     AreSessions-reader_opened, -reader_passed, -reader_taken      with a further reader, with one behind its next part, without one
--     AreSessions-readers_none      without any
--     claims_in-readers_kept, -reader_opened, -reader_passed, -reader_taken, -readers_none
--     not_stopped      a reader of a content that has the digest of its name isn't stopped
--     nothing_left, readers_unmoved      a reader at its end has an empty part, and stays where it is
use Rattle.std.specs.Prelude.{◌≡◌, ℕ, zero, suc, ◌+◌, ◌≤◌, List, [], ◌∷◌, ◌++◌, length, take, drop, Option, Some, None, slice_get, slice_set, if◌then◌else◌}
use Rattle.std.specs.List.{remove}
use Rattle.std.proofs.Common.{refl, sym, ap, ◌∙◌, subst, inl, inr, arith, ◌⊎◌}
use Rattle.std.proofs.lemmas.List.{take-append-drop, take-take, drop-take, take_all, drop_all}
use Rattle.disk_trait.specs.declared.ids.PoolId.{PoolId}
use Rattle.stored_trees.specs.Resolved.{bytes_of, IsToldContent}
use Rattle.stored_trees.specs.Occurrences.{is_content}
use Rattle.office_model.specs.Office.{Volatile, Reader}
use Rattle.office_model.specs.events.OpenFile.{new_reader}
use Rattle.office_model.specs.events.ReadPart.{part_of, moved_on}
use Rattle.office_model.specs.Pairs.{AtEachPair}
use Rattle.office_model.specs.PairsLaws.{pairs_push, no_pairs}
use Rattle.open_sessions.specs.declared.sessions.Sessions.{Sessions}
use Rattle.open_sessions.specs.declared.readers.OpenReader.{OpenReader}
use Rattle.open_sessions.specs.Giving.{IsWrong, Passes, IsFurther, IsStopped, IsPassed}
use Rattle.open_sessions.specs.Opened.{IsReader, Staging, AreSessions, claims_of_reader, claims_in_readers, claims_in, OnlyReaders}
use Rattle.open_sessions.specs.SessionLaws.{pairs_set, pairs_remove, AreSessions-readers, claims_in-readers, claims_in_readers-push, claims_in_readers-set, claims_in_readers-remove}

take_split : (n m : ℕ) (xs : List ℕ) → take (n + m) xs ≡ take n xs ++ take m (drop n xs)
take_split n m xs =
    sym (take-append-drop n (take (n + m) xs))
    ∙ ap (λ (front : List ℕ). front ++ drop n (take (n + m) xs)) (take-take n (n + m) xs (omega arith))
    ∙ ap (λ (rest : List ℕ). take n xs ++ rest) (drop-take n m xs)

-- what was taken is as many
take_own : (room : ℕ) (xs : List ℕ) → take (length (take room xs)) xs ≡ take room xs
take_own zero xs = refl
take_own (suc room) [] = refl
take_own (suc room) (x ∷ xs) = ap (λ (rest : List ℕ). x ∷ rest) (take_own room xs)

-- ---- a reader at its end

pub nothing_left : (room : ℕ) (reader : Reader) → length reader.content ≤ reader.position → part_of room reader ≡ []
nothing_left room reader end = ap (take room) (drop_all reader.position reader.content end) ∙ none room
  where
    none : (room : ℕ) → take {A = ℕ} room [] ≡ []
    none zero = refl
    none (suc room) = refl

pub readers_unmoved : (readers : List Reader) (i room : ℕ) (reader : Reader) → slice_get readers i ≡ Some reader
    → length reader.content ≤ reader.position → slice_set readers i (moved_on room reader) ≡ readers
readers_unmoved readers i room reader there end =
    let still : reader.position + length (part_of room reader) ≡ reader.position
    = ap (λ (part : List ℕ). reader.position + length part) (nothing_left room reader end) ∙ omega arith in
    ap (λ (n : ℕ). slice_set readers i (record reader { position = n })) still ∙ written_again readers i there
  where
    written_again : (readers : List Reader) (i : ℕ) → slice_get readers i ≡ Some reader → slice_set readers i reader ≡ readers
    written_again [] i e = absurd cc
    written_again (x ∷ xs) zero e = let same : x ≡ reader = cc in ap (λ (r : Reader). r ∷ xs) (sym same)
    written_again (x ∷ xs) (suc i) e = ap (λ (rest : List Reader). x ∷ rest) (written_again xs i e)

-- ---- one reader

module _ {S : Type 0} (holds : S → List ℕ → Type 0) (given : PoolId → Type 0) (contents : PoolId → List ℕ) where
  pub IsReader-opened : (number : ℕ) (held : OpenReader S) → held.number ≡ number → held.given ≡ 0 → held.wrong ≡ None
      → holds held.digest []
      → IsToldContent given contents held.size held.content
      → IsReader holds given contents (new_reader number (bytes_of contents held.content)) held
  IsReader-opened number held is start right none told =
      record { number = is; content = refl; told = told; given_is = start; digest = none; right = right }

  -- the size of a told content
  size_told : (size : ℕ) (content : Option PoolId) → IsToldContent given contents size content → size ≡ length (bytes_of contents content)
  size_told size None told = told
  size_told size (Some id) told = told.1

  module _ (digest_of : List ℕ → List ℕ) (room : ℕ) (reader : Reader) (held next : OpenReader S) (part : List ℕ)
      (part_is : part ≡ part_of room reader)
      (is : IsReader holds given contents reader held) where
    -- what was given, and the part behind it
    behind_part : take reader.position reader.content ++ part ≡ take (reader.position + length part) reader.content
    behind_part =
        let own : take (length part) (drop reader.position reader.content) ≡ part
        = ap (λ (p : List ℕ). take (length p) (drop reader.position reader.content)) part_is
        ∙ take_own room (drop reader.position reader.content) ∙ sym part_is in
        ap (λ (rest : List ℕ). take reader.position reader.content ++ rest) (sym own)
        ∙ sym (take_split reader.position (length part) reader.content)

    pub IsReader-further : Passes holds digest_of held part next → IsFurther holds digest_of held part next
        → IsReader holds given contents (moved_on room reader) next
    IsReader-further passes further = record {
      number = passes.number ∙ is.number;
      content = is.content ∙ ap (bytes_of contents) (sym passes.content);
      told = subst (λ (size : ℕ). IsToldContent given contents size next.content) (sym passes.size)
          (subst (IsToldContent given contents held.size) (sym passes.content) is.told);
      given_is = further.given ∙ (λ i. is.given_is i + length (part_is i));
      digest = subst (holds next.digest) (behind_part ∙ ap (λ (p : List ℕ). take (reader.position + length p) reader.content) part_is)
          (passes.took (take reader.position reader.content) is.digest);
      right = further.wrong ∙ is.right;
    }

    pub not_stopped : ((id : PoolId) → given id → digest_of (contents id) ≡ id.digest) → IsStopped holds digest_of held part next → ⊥
    not_stopped named stopped =
        wrong held.content is.told is.content (subst (λ whole. IsWrong holds digest_of held.content whole next.wrong) whole
        (stopped.wrong (take reader.position reader.content) is.digest))
      where
        whole : take reader.position reader.content ++ part ≡ reader.content
        whole =
            let size : held.size ≡ length reader.content = size_told held.size held.content is.told ∙ ap length (sym is.content) in
            behind_part ∙ take_all (reader.position + length part) reader.content (omega (arith, size, stopped.last, is.given_is))

        wrong : (content : Option PoolId) → IsToldContent given contents held.size content → reader.content ≡ bytes_of contents content
            → IsWrong holds digest_of content reader.content next.wrong → ⊥
        wrong None told same h = h
        wrong (Some id) told same h = h.1 (ap digest_of same ∙ named id told.0)

-- ---- all of them

module _ {S : Type 0} (old new : Sessions S) (same : OnlyReaders old new) where
  module _ (holds : S → List ℕ → Type 0) (given : PoolId → Type 0) (contents : PoolId → List ℕ) (staging : Staging)
      (office : Volatile) (at : AreSessions holds given contents staging office old) where
    readers_are : (readers : List Reader) (next : ℕ) (items : List (OpenReader S))
        → AtEachPair (λ i. IsReader holds given contents) readers items
        → new.readers.items.items ≡ items → new.readers.next ≡ next
        → AreSessions holds given contents (record staging { next_reader = next }) (record office { readers = readers }) new
    readers_are readers next items pairs is number = AreSessions-readers holds given contents staging office old new at same readers next
        (subst (AtEachPair (λ i. IsReader holds given contents) readers) (sym is) pairs) number

    pub AreSessions-readers_kept : new.readers.items.items ≡ old.readers.items.items → new.readers.next ≡ old.readers.next
        → AreSessions holds given contents staging office new
    AreSessions-readers_kept items next =
        readers_are office.readers staging.next_reader old.readers.items.items at.readers items (next ∙ at.numbers.reader)

    pub AreSessions-reader_opened : (content : Option PoolId) (size : ℕ) (digest : S) → holds digest []
        → IsToldContent given contents size content
        → new.readers.items.items ≡ old.readers.items.items
        ++ record { number = old.readers.next; content = content; size = size; given = 0; digest = digest; wrong = None } ∷ []
        → new.readers.next ≡ old.readers.next + 1
        → AreSessions holds given contents (record staging { next_reader = staging.next_reader + 1 })
        (record office { readers = office.readers ++ new_reader staging.next_reader (bytes_of contents content) ∷ [] }) new
    AreSessions-reader_opened content size digest none told items next =
        let fresh : OpenReader S
        = record { number = old.readers.next; content = content; size = size; given = 0; digest = digest; wrong = None } in
        let reader : Reader = new_reader staging.next_reader (bytes_of contents content) in
        readers_are (office.readers ++ reader ∷ []) (staging.next_reader + 1) (old.readers.items.items ++ fresh ∷ [])
        (pairs_push (IsReader holds given contents) office.readers old.readers.items.items at.readers reader fresh
        (IsReader-opened holds given contents staging.next_reader fresh at.numbers.reader refl refl none told)) items
        (next ∙ ap (λ n. n + 1) at.numbers.reader)

    -- where given contents have the digests of their names
    pub AreSessions-reader_passed : (digest_of : List ℕ → List ℕ) → ((id : PoolId) → given id → digest_of (contents id) ≡ id.digest)
        → (i room : ℕ) (reader : Reader) (held : OpenReader S) (part : List ℕ) → slice_get office.readers i ≡ Some reader
        → slice_get old.readers.items.items i ≡ Some held → part ≡ part_of room reader
        → IsPassed holds digest_of held part old.readers.items.items i new.readers.items.items → new.readers.next ≡ old.readers.next
        → AreSessions holds given contents staging (record office { readers = slice_set office.readers i (moved_on room reader) }) new
    AreSessions-reader_passed digest_of named i room reader held part there held_there part_is passed next =
        readers_are (slice_set office.readers i (moved_on room reader)) staging.next_reader
        (slice_set old.readers.items.items i passed.next)
        (pairs_set (IsReader holds given contents) office.readers old.readers.items.items at.readers i (moved_on room reader) passed.next
        (step passed.where_it_is)) passed.items (next ∙ at.numbers.reader)
      where
        was : IsReader holds given contents reader held
        was = at.readers.each i reader held there held_there

        step : IsFurther holds digest_of held part passed.next ⊎ IsStopped holds digest_of held part passed.next
            → IsReader holds given contents (moved_on room reader) passed.next
        step (inl further) =
            IsReader-further holds given contents digest_of room reader held passed.next part part_is was passed.passes further
        step (inr stopped) =
            absurd (not_stopped holds given contents digest_of room reader held passed.next part part_is was named stopped)

    pub AreSessions-reader_taken : (i : ℕ) → new.readers.items.items ≡ remove old.readers.items.items i
        → new.readers.next ≡ old.readers.next
        → AreSessions holds given contents staging (record office { readers = remove office.readers i }) new
    AreSessions-reader_taken i items next =
        readers_are (remove office.readers i) staging.next_reader (remove old.readers.items.items i)
        (pairs_remove (IsReader holds given contents) office.readers old.readers.items.items at.readers i) items (next ∙ at.numbers.reader)

    pub AreSessions-readers_none : new.readers.items.items ≡ [] → new.readers.next ≡ old.readers.next
        → AreSessions holds given contents staging (record office { readers = [] }) new
    AreSessions-readers_none items next =
        readers_are [] staging.next_reader [] (no_pairs (λ i. IsReader holds given contents)) items (next ∙ at.numbers.reader)

  module _ (id : PoolId) where
    pub claims_in-readers_kept : new.readers.items.items ≡ old.readers.items.items → claims_in new id ≡ claims_in old id
    claims_in-readers_kept items =
        let e = ap (λ readers. claims_in_readers readers id) items in
        omega (arith, claims_in-readers old new same id, e)

    pub claims_in-reader_opened : (reader : OpenReader S) → new.readers.items.items ≡ old.readers.items.items ++ reader ∷ []
        → claims_in new id ≡ claims_in old id + claims_of_reader reader id
    claims_in-reader_opened reader items =
        let e = ap (λ readers. claims_in_readers readers id) items in
        omega (arith, claims_in-readers old new same id, e, claims_in_readers-push old.readers.items.items id reader)

    pub claims_in-reader_passed : (holds : S → List ℕ → Type 0) (digest_of : List ℕ → List ℕ) (i : ℕ) (held : OpenReader S) (part : List ℕ)
        → slice_get old.readers.items.items i ≡ Some held
        → IsPassed holds digest_of held part old.readers.items.items i new.readers.items.items → claims_in new id ≡ claims_in old id
    claims_in-reader_passed holds digest_of i held part there passed =
        let e = ap (λ readers. claims_in_readers readers id) passed.items in
        let one : claims_of_reader passed.next id ≡ claims_of_reader held id
        = ap (λ content. if is_content id content then 1 else 0) passed.passes.content in
        omega (arith, claims_in-readers old new same id, e, claims_in_readers-set old.readers.items.items id i held passed.next there, one)

    pub claims_in-reader_taken : (i : ℕ) (reader : OpenReader S) → slice_get old.readers.items.items i ≡ Some reader
        → new.readers.items.items ≡ remove old.readers.items.items i → claims_in new id + claims_of_reader reader id ≡ claims_in old id
    claims_in-reader_taken i reader there items =
        let e = ap (λ readers. claims_in_readers readers id) items in
        omega (arith, claims_in-readers old new same id, e, claims_in_readers-remove old.readers.items.items id i reader there)

    pub claims_in-readers_none : new.readers.items.items ≡ []
        → claims_in new id + claims_in_readers old.readers.items.items id ≡ claims_in old id
    claims_in-readers_none items =
        let e = ap (λ readers. claims_in_readers readers id) items in
        omega (arith, claims_in-readers old new same id, e)
