-- Open readers stay sound where one is opened, gives a part, and is dropped.
use Rattle.std.specs.Prelude.{◌≡◌, ◌<◌, ◌≤◌, ℕ, ◌+◌, false, true, Bool, cond, ◌||◌, List, [], ◌∷◌, ◌++◌, length, take, drop, Some, Ok, nat_le, slice_get, slice_set}
use Rattle.std.specs.List.{remove}
use Rattle.std.specs.Ordering.{eq_by_cmp}
use Rattle.std.proofs.Common.{refl, ap, ◌∙◌, subst, arith, length-take, length-drop}
use Rattle.std.proofs.lemmas.Slice.Eq.{bytes_eq-Decides}
use Rattle.attr_records.specs.declared.nodes.Item.{Item}
use Rattle.attr_records.specs.declared.nodes.Item.TheVariants.{File, Dir, Link}
use Rattle.attr_records.specs.Items.{Tree, some_bytes}
use Rattle.attr_records.specs.Paths.{path_cmp}
use Rattle.attr_records.specs.Trees.{node_at}
use Rattle.office_model.specs.declared.answer.Answer.TheVariants as A
use Rattle.office_model.specs.declared.refusal.BrokenRule.TheVariants.{NoPath, NumbersSpent}
use Rattle.office_model.specs.Places.{AtEach}
use Rattle.office_model.specs.PlacesLaws.{AtEach-longer, AtEach-set, AtEach-remove, Differ-longer, Differ-set, Differ-remove}
use Rattle.office_model.specs.Pool.{is_pooled, is_content, is_same_content, holds}
use Rattle.office_model.specs.Office.{Office, Host, Reader, last_sequence, piece_limit, with_readers, IsSound, AreReaders, IsPooledReader}
use Rattle.office_model.specs.Meaning.{found}
use Rattle.office_model.specs.Parts.{backup_of, reader_at}
use Rattle.office_model.specs.events.ReadFile.{file_of, file_bytes}
use Rattle.office_model.specs.events.OpenFile as OpenFile
use Rattle.office_model.specs.events.ReadPart as ReadPart
use Rattle.office_model.specs.events.CloseFile as CloseFile
use Rattle.office_model.specs.laws.Judging.{bound, passed, at_is, found_is}
use Rattle.office_model.specs.laws.RestoreLaws.{backup_found}
use Rattle.office_model.specs.laws.Lawful.{IsLawful, does, does_readers}

-- ---- readers by themselves

module _ (readers : List Reader) (are : AreReaders readers) where
  pub reader_added : (next : ℕ) (reader : Reader) → AtEach (λ (r : Reader). r.number < next) readers → reader.number ≡ next
      → reader.position ≤ length reader.content → AreReaders (readers ++ reader ∷ [])
  reader_added next reader below number place = record {
    numbers_differ = Differ-longer (λ (r : Reader). r.number) readers reader are.numbers_differ
        (λ i r at same. let less = below i r at in omega (arith, same, number));
    places = AtEach-longer (λ (r : Reader). r.position ≤ length r.content) readers reader are.places place;
  }

  pub reader_set : (p : ℕ) (old new : Reader) → slice_get readers p ≡ Some old → new.number ≡ old.number
      → new.position ≤ length new.content → AreReaders (slice_set readers p new)
  reader_set p old new was number place = record {
    numbers_differ = Differ-set (λ (r : Reader). r.number) readers p old new was number are.numbers_differ;
    places = AtEach-set (λ (r : Reader). r.position ≤ length r.content) readers p new are.places place;
  }

  pub reader_removed : (p : ℕ) → AreReaders (remove readers p)
  reader_removed p = record {
    numbers_differ = Differ-remove (λ (r : Reader). r.number) readers p are.numbers_differ;
    places = AtEach-remove (λ (r : Reader). r.position ≤ length r.content) readers p are.places;
  }

-- an office with other readers
pub IsSound-readers : (office : Office) (readers : List Reader) → IsSound office → AreReaders readers
    → AtEach (IsPooledReader office.pool) readers → IsSound (with_readers office readers)
IsSound-readers office readers sound are pooled = record {
  kept = sound.kept;
  now = record { sessions = sound.sessions; dumps = sound.dumps; restores = sound.restores; stages = sound.stages; readers = are };
  tied = record {
    hosted = sound.hosted;
    over = sound.over;
    pooled = record { of_bases = sound.of_bases; of_restores = sound.of_restores; of_readers = pooled };
  };
}

-- ---- a file's bytes are a content of its tree

left : (a b : Bool) → a ≡ true → (a || b) ≡ true
left true b h = refl
left false b h = absurd (cc)

right : (a b : Bool) → b ≡ true → (a || b) ≡ true
right true b h = refl
right false b h = h

found_held : (content path : List ℕ) (item : Item) (tree : Tree) → node_at tree path ≡ Some item → is_content item content ≡ true
    → holds tree content ≡ true
found_held content path item [] e h = absurd (cc)
found_held content path item (row ∷ tree) e h = step (eq_by_cmp path_cmp path row.0) (λ f. found_held content path item tree f h) e
  where
    step : (b : Bool) → (node_at tree path ≡ Some item → holds tree content ≡ true) → cond b (Some row.1) (node_at tree path) ≡ Some item
        → holds (row ∷ tree) content ≡ true
    step true rest f = let same : row.1 ≡ item = cc in left (is_content row.1 content) (holds tree content) (ap (λ (x : Item). is_content x content) same ∙ h)
    step false rest f = right (is_content row.1 content) (holds tree content) (rest f)

bytes_content : (item : Item) (bytes content : List ℕ) → file_bytes item ≡ Ok bytes → some_bytes bytes ≡ Some content
    → is_content item content ≡ true
bytes_content (File file) bytes content e h =
    let same : file.bytes ≡ bytes = cc in
    ap (is_same_content content) (ap some_bytes same ∙ h) ∙ (bytes_eq-Decides content content).1 refl
bytes_content (Dir dir) bytes content e h = absurd (cc)
bytes_content (Link link) bytes content e h = absurd (cc)

-- the bytes of a backup's file are in the pool
pub pooled_file : (office : Office) (name : List ℕ) (number : ℕ) (path bytes : List ℕ) → IsSound office
    → file_of office.hosts name number path ≡ Ok bytes → (content : List ℕ) → some_bytes bytes ≡ Some content
    → is_pooled office.pool content ≡ true
pooled_file office name number path bytes sound e content h =
    let a = bound (backup_of office.hosts name number) _ bytes e in
    let at = backup_found office.hosts name number a.0 a.1 in
    let b = bound (found NoPath (node_at a.0.tree path)) _ bytes a.2 in
    let there : node_at a.0.tree path ≡ Some b.0 = found_is _ _ _ b.1 in
    sound.of_backups at.place at.host at.is_host at.index a.0 at.is_backup content
    (found_held content path b.0 a.0.tree there (bytes_content b.0 bytes content b.2 h))

-- ---- a reader is opened

-- what it says that a reader may be opened
record MayRead (name : List ℕ) (number : ℕ) (path : List ℕ) (next : ℕ) (hosts : List Host) (readers : List Reader) (made : OpenFile.Opening) : Type 0 where
  pub bytes : List ℕ
  pub is_file : file_of hosts name number path ≡ Ok bytes
  pub readers_are : readers ++ OpenFile.new_reader next bytes ∷ [] ≡ made.readers

may_read : (name : List ℕ) (number : ℕ) (path : List ℕ) (next : ℕ) (hosts : List Host) (readers : List Reader) (made : OpenFile.Opening)
    → OpenFile.opening name number path next hosts readers ≡ Ok made → MayRead name number path next hosts readers made
may_read name number path next hosts readers made e =
    let a = bound (file_of hosts name number path) _ made e in
    let opened : OpenFile.Opening = record { size = length a.0; readers = readers ++ OpenFile.new_reader next a.0 ∷ [] } in
    let b : (nat_le last_sequence next ≡ false) × (Ok opened ≡ Ok made) = passed NumbersSpent (nat_le last_sequence next) _ made a.2 in
    let same : opened ≡ made = let f = b.1 in cc in
    record { bytes = a.0; is_file = a.1; readers_are = ap (λ (x : OpenFile.Opening). x.readers) same }

pub IsSound-opening : (office : Office) (name : List ℕ) (number : ℕ) (path : List ℕ) (next : ℕ) (made : OpenFile.Opening) → IsSound office
    → AtEach (λ (r : Reader). r.number < next) office.readers
    → OpenFile.opening name number path next office.hosts office.readers ≡ Ok made → IsSound (with_readers office made.readers)
IsSound-opening office name number path next made sound below e =
    let may : MayRead name number path next office.hosts office.readers made = may_read name number path next office.hosts office.readers made e in
    subst (λ rs. IsSound (with_readers office rs)) may.readers_are
    (IsSound-readers office (office.readers ++ OpenFile.new_reader next may.bytes ∷ []) sound
    (reader_added office.readers sound.readers next (OpenFile.new_reader next may.bytes) below refl (omega arith))
    (AtEach-longer (IsPooledReader office.pool) office.readers (OpenFile.new_reader next may.bytes) sound.of_readers
    (λ content h. pooled_file office name number path may.bytes sound may.is_file content h)))

below_next : (name : List ℕ) (number : ℕ) (path : List ℕ) (next : ℕ) (hosts : List Host) (readers : List Reader) (made : OpenFile.Opening)
    → AtEach (λ (r : Reader). r.number < next) readers → OpenFile.opening name number path next hosts readers ≡ Ok made
    → AtEach (λ (r : Reader). r.number < next + 1) made.readers
below_next name number path next hosts readers made below e =
    let may : MayRead name number path next hosts readers made = may_read name number path next hosts readers made e in
    subst (AtEach (λ (r : Reader). r.number < next + 1)) may.readers_are
    (AtEach-longer (λ (r : Reader). r.number < next + 1) readers (OpenFile.new_reader next may.bytes)
    (λ i r at. let less = below i r at in omega arith) (omega arith))

pub open_file : (name : List ℕ) (number : ℕ) (path : List ℕ) → IsLawful (OpenFile.meaning name number path)
open_file name number path office names c sound e =
    let next : ℕ = names.next_reader in
    let a = bound (OpenFile.opening name number path names.next_reader office.hosts office.readers) _ c e in
    does _ office names sound _ c a.2 (does_readers _ office names sound a.0.readers (A.Opened names.next_reader a.0.size) refl
    (below_next name number path next office.hosts office.readers a.0 sound.names.given.readers a.1)
    (IsSound-opening office name number path next a.0 sound.office sound.names.given.readers a.1))

-- ---- a reader gives a part

-- what is left behind a place is no more than all behind it
part_within : (room : ℕ) (content : List ℕ) (position : ℕ) → position ≤ length content
    → position + length (take room (drop position content)) ≤ length content
part_within room content position place =
    let part = length-take room (drop position content) in
    let rest = length-drop position content in
    omega (arith, part, rest, place)

pub given_is : (room number : ℕ) (readers : List Reader) (next : ReadPart.Given) → ReadPart.given room number readers ≡ Ok next
    → (i : ℕ) × (old : Reader) × (slice_get readers i ≡ Some old) × (slice_set readers i (ReadPart.moved_on room old) ≡ next.readers)
given_is room number readers next e =
    let a = bound (reader_at readers number) _ next e in
    let made : ReadPart.Given = record { part = ReadPart.part_of room a.0.value; readers = slice_set readers a.0.index (ReadPart.moved_on room a.0.value) } in
    let same : made ≡ next = let f = a.2 in cc in
    (a.0.index, a.0.value, (at_is _ readers _ a.0 a.1).1, ap (λ (x : ReadPart.Given). x.readers) same)

pub IsSound-given : (office : Office) (room number : ℕ) (next : ReadPart.Given) → IsSound office
    → ReadPart.given room number office.readers ≡ Ok next → IsSound (with_readers office next.readers)
IsSound-given office room number next sound e =
    let w = given_is room number office.readers next e in
    let old : Reader = w.1 in
    subst (λ rs. IsSound (with_readers office rs)) w.3
    (IsSound-readers office (slice_set office.readers w.0 (ReadPart.moved_on room old)) sound
    (reader_set office.readers sound.readers w.0 old (ReadPart.moved_on room old) w.2 refl (part_within room old.content old.position (sound.readers.places w.0 old w.2)))
    (AtEach-set (IsPooledReader office.pool) office.readers w.0 (ReadPart.moved_on room old) sound.of_readers (sound.of_readers w.0 old w.2)))

still_below : (bound room number : ℕ) (readers : List Reader) (next : ReadPart.Given) → AtEach (λ (r : Reader). r.number < bound) readers
    → ReadPart.given room number readers ≡ Ok next → AtEach (λ (r : Reader). r.number < bound) next.readers
still_below bound room number readers next below e =
    let w = given_is room number readers next e in
    subst (AtEach (λ (r : Reader). r.number < bound)) w.3
    (AtEach-set (λ (r : Reader). r.number < bound) readers w.0 (ReadPart.moved_on room w.1) below (below w.0 w.1 w.2))

pub read_part : (number : ℕ) → IsLawful (ReadPart.meaning number)
read_part number office names c sound e =
    let a = bound (ReadPart.given piece_limit number office.readers) _ c e in
    does _ office names sound _ c a.2 (does_readers _ office names sound a.0.readers (A.Part a.0.part) refl
    (still_below names.next_reader piece_limit number office.readers a.0 sound.names.given.readers a.1)
    (IsSound-given office piece_limit number a.0 sound.office a.1))

-- ---- a reader is dropped

without_is : (number : ℕ) (readers new : List Reader) → CloseFile.without_reader number readers ≡ Ok new
    → (i : ℕ) × (remove readers i ≡ new)
without_is number readers new e =
    let a = bound (reader_at readers number) (λ reader. Ok (remove readers reader.index)) new e in
    (a.0.index, let f = a.2 in cc)

pub IsSound-without_reader : (office : Office) (number : ℕ) (readers : List Reader) → IsSound office
    → CloseFile.without_reader number office.readers ≡ Ok readers → IsSound (with_readers office readers)
IsSound-without_reader office number readers sound e =
    let w = without_is number office.readers readers e in
    subst (λ rs. IsSound (with_readers office rs)) w.1
    (IsSound-readers office (remove office.readers w.0) sound (reader_removed office.readers sound.readers w.0)
    (AtEach-remove (IsPooledReader office.pool) office.readers w.0 sound.of_readers))

pub close_file : (number : ℕ) → IsLawful (CloseFile.meaning number)
close_file number office names c sound e =
    let a = bound (CloseFile.without_reader number office.readers) _ c e in
    let w = without_is number office.readers a.0 a.1 in
    does _ office names sound _ c a.2 (does_readers _ office names sound a.0 A.Done refl
    (subst (AtEach (λ (r : Reader). r.number < names.next_reader)) w.1
    (AtEach-remove (λ (r : Reader). r.number < names.next_reader) office.readers w.0 sound.names.given.readers))
    (IsSound-without_reader office number a.0 sound.office a.1))
