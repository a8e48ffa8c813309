-- Contents piece by piece.
use Rattle.std.specs.Option.{ForSome}
use Rattle.std.specs.Prelude.{is_some}
use Rattle.std.proofs.Common.{◌≡◌, ◌⊎◌, ◌↔◌, ℕ, zero, suc, ◌+◌, ◌<◌, ◌≤◌, Bool, true, false, List, ◌++◌, length, take, drop, Option, Some, None, if◌then◌else◌, refl, sym, ap, ◌∙◌, subst, inl, inr, arith, length-take, length-drop}
use Rattle.std.proofs.lemmas.List.{length-take-le, take-append-drop, take-take, drop-take, take_all}
use Rattle.std.proofs.lemmas.Bool.{false≢true}
use Rattle.disk_trait.specs.declared.ids.FileId.{FileId}
use Rattle.disk_trait.specs.declared.ids.FileId.TheVariants.{Pool as PoolFile, Stage as StageFile}
use Rattle.disk_trait.specs.declared.ids.PoolId.{PoolId}
use Rattle.disk_trait.specs.Names.{is_same_file}
use Rattle.disk_trait.specs.NamesLaws.{is_same_file-itself}
use Rattle.disk_trait.specs.Files.{Files, piece, bytes_of, with_bytes, changed, SameButOne}
use Rattle.intent_journal.specs.ChangesLaws.{with_bytes_there, with_bytes_other}
use Rattle.pool_changes.specs.StepLaws.{lt_or_le}
use Rattle.pool_store.specs.declared.fault.PoolFault.{PoolFault}
use Rattle.pool_store.specs.declared.fault.PoolFault.TheVariants.{Foreign, Disk, Memory, Damaged, ChainFull}
use Rattle.pool_store.specs.declared.source.Source.{Source}
use Rattle.pool_store.specs.declared.source.Source.TheVariants.{Bytes, Stage}
use Rattle.pool_store.specs.Pools.{IsNotForeign}
use Rattle.pool_store.specs.Sources.{length_of, IsStaged, IsSource, SaysLost, SaysStageLost, OfPiece}

-- ---- sources

pub source_length : (source : Source) (told : Option Files) (content : List ℕ) → IsSource source told content → length content ≡ length_of source
source_length (Bytes bytes) told content is = ap length (sym is)
source_length (Stage number size) told content is = is.size_is

pub staged_told : (number size : ℕ) (told told' : Option Files) (content : List ℕ) → told' ≡ told → IsStaged told number size content → IsStaged told' number size content
staged_told number size told told' content same is = record { there = λ all e. is.there all (sym same ∙ e); size_is = is.size_is }

pub source_told : (source : Source) (told told' : Option Files) (content : List ℕ) → told' ≡ told → IsSource source told content → IsSource source told' content
source_told (Bytes bytes) told told' content same is = is
source_told (Stage number size) told told' content same is = staged_told number size told told' content same is

pub in_memory : (source : Source) (bytes : _) (told : Option Files) (content : List ℕ) → source ≡ Bytes bytes → IsSource source told content → bytes.now ≡ content
in_memory source bytes told content e is = subst (λ (s : Source). IsSource s told content) e is

pub not_foreign : (bytes : _) (told : Option Files) (fault : PoolFault) → SaysLost (Bytes bytes) told fault → IsNotForeign fault
not_foreign bytes told (Foreign file found) says = says file found refl
not_foreign bytes told Disk says = tt
not_foreign bytes told Memory says = tt
not_foreign bytes told (Damaged id found) says = tt
not_foreign bytes told ChainFull says = tt

pub of_memory : (bytes : _) (told : Option Files) (fault : PoolFault) → OfPiece fault → SaysLost (Bytes bytes) told fault
    → (fault ≡ Disk) ⊎ (fault ≡ Memory)
of_memory bytes told (Foreign file found) of says = absurd (says file found refl)
of_memory bytes told Disk of says = inl refl
of_memory bytes told Memory of says = inr refl
of_memory bytes told (Damaged id found) of says = absurd of
of_memory bytes told ChainFull of says = absurd of

pub never_damaged : (fault : PoolFault) → OfPiece fault → (other : PoolId) (found : Option (List ℕ)) → fault ≡ Damaged other found → ⊥
never_damaged (Foreign file found) of other found' e = cc
never_damaged Disk of other found e = cc
never_damaged Memory of other found e = cc
never_damaged (Damaged id found) of other found' e = absurd of
never_damaged ChainFull of other found e = cc

-- ---- pieces

pub take_split : (n m : ℕ) (xs : List ℕ) → take (n + m) xs ≡ take n xs ++ take m (drop n xs)
take_split n m xs =
    sym (take-append-drop n (take (n + m) xs))
    ∙ ap (λ (front : List ℕ). front ++ drop n (take (n + m) xs)) (take-take n (n + m) xs (omega arith))
    ∙ ap (λ (rest : List ℕ). take n xs ++ rest) (drop-take n m xs)

-- what is at a piece's place of a file that has the content, where it is asked for more at the end alone
more_there : (content : List ℕ) (from room more : ℕ) → from + room ≤ length content → (from + room < length content → more ≡ 0)
    → take (room + more) (drop from content) ≡ take room (drop from content)
more_there content from room more within few = elim (lt_or_le (from + room) (length content)) [
  | inl before ↦ ap (λ (n : ℕ). take n (drop from content)) (omega (arith, few before))
  | inr end ↦
      let left : length (drop from content) ≤ room = omega (arith, length-drop from content, end, within) in
      take_all (room + more) (drop from content) (omega (arith, left)) ∙ sym (take_all room (drop from content) left)
]

pub agrees_there : (found : Option (List ℕ)) (content : List ℕ) (from room more : ℕ) → from + room ≤ length content → (from + room < length content → more ≡ 0)
    → found ≡ Some content → piece found from (room + more) ≡ Some (take room (drop from content))
agrees_there found content from room more within few e =
    ap (λ (f : Option (List ℕ)). piece f from (room + more)) e ∙ ap Some (more_there content from room more within few)

-- a piece that has no more bytes than it was asked for
no_more : (rest : List ℕ) (room more : ℕ) (front : List ℕ) → take (room + more) rest ≡ front → length front ≡ room → take room rest ≡ front
no_more rest room more front e count =
    sym (take-take room (room + more) rest (omega arith)) ∙ ap (take room) e ∙ take_all room front (omega (arith, count))

-- a piece more agrees
pub agrees_more : (found : Option (List ℕ)) (content : List ℕ) (from room more : ℕ) → from + room ≤ length content
    → take from (bytes_of found) ≡ take from content → piece found from (room + more) ≡ Some (take room (drop from content))
    → take (from + room) (bytes_of found) ≡ take (from + room) content
agrees_more None content from room more within before e = absurd (cc)
agrees_more (Some bytes) content from room more within before e =
    let front = take room (drop from content) in
    let count : length front ≡ room = length-take-le room (drop from content) (omega (arith, length-drop from content, within)) in
    let here : take (room + more) (drop from bytes) ≡ front = cc in
    take_split from room bytes
    ∙ ap (λ (front : List ℕ). front ++ take room (drop from bytes)) before
    ∙ ap (λ (rest : List ℕ). take from content ++ rest) (no_more (drop from bytes) room more front here count)
    ∙ sym (take_split from room content)

-- all of it agreed, and the file ends there
pub agrees_all : (found : Option (List ℕ)) (content : List ℕ) (from room more : ℕ) → from + room ≡ length content → more ≡ 1
    → take from (bytes_of found) ≡ take from content → piece found from (room + more) ≡ Some (take room (drop from content)) → found ≡ Some content
agrees_all None content from room more end one before e = absurd (cc)
agrees_all (Some bytes) content from room more end one before e =
    let front = take room (drop from content) in
    let count : length front ≡ room = length-take-le room (drop from content) (omega (arith, length-drop from content, end)) in
    let here : take (room + more) (drop from bytes) ≡ front = cc in
    let left : length (drop from bytes) ≤ room = omega (arith, ap length here, length-take (room + more) (drop from bytes), count, one) in
    ap Some (
    sym (take-append-drop from bytes)
    ∙ ap (λ (front : List ℕ). front ++ drop from bytes) before
    ∙ ap (λ (rest : List ℕ). take from content ++ rest)
    (sym (take_all (room + more) (drop from bytes) (omega (arith, left))) ∙ here
    ∙ take_all room (drop from content) (omega (arith, length-drop from content, end)))
    ∙ take-append-drop from content
    )

-- a file is asked for one byte, where there are none to agree with
pub agrees_none : (found : Option (List ℕ)) (content : List ℕ) (same : Bool) → length content ≡ 0
    → ((same ≡ true) ↔ (piece found 0 1 ≡ Some (take 0 (drop 0 content)))) → ((same ≡ true) ↔ (found ≡ Some content))
agrees_none found content same none here = (
  λ t. agrees_all found content 0 0 1 (sym none) refl refl (here.0 t),
  λ e. here.1 (agrees_there found content 0 0 1 (omega arith) (λ before. absurd (omega (arith, none, before))) e),
)

-- ---- copies

-- the files with so many bytes copied to one
abbrev pub so_far : Files → FileId → ℕ → List ℕ → Files
so_far all file zero bytes = all
so_far all file (suc n) bytes = with_bytes all file (Some bytes)

pub so_far_other : (all : Files) (file : FileId) (n : ℕ) (bytes : List ℕ) (asked : FileId) → is_same_file asked file ≡ false → so_far all file n bytes asked ≡ all asked
so_far_other all file zero bytes asked other = refl
so_far_other all file (suc n) bytes asked other = with_bytes_other all file (Some bytes) asked other

pub so_far_there : (all : Files) (file : FileId) (n : ℕ) (bytes : List ℕ) → 0 < n → so_far all file n bytes file ≡ Some bytes
so_far_there all file zero bytes some = absurd (omega (arith, some))
so_far_there all file (suc n) bytes some = with_bytes_there all file (Some bytes) file (is_same_file-itself file)

so_far_some : (all : Files) (file : FileId) (n : ℕ) (bytes : List ℕ) → 0 < n → so_far all file n bytes ≡ with_bytes all file (Some bytes)
so_far_some all file zero bytes some = absurd (omega (arith, some))
so_far_some all file (suc n) bytes some = refl

twice : (b : Bool) (x y z : Option (List ℕ)) → (if b then y else (if b then x else z)) ≡ (if b then y else z)
twice true x y z = refl
twice false x y z = refl

over_so_far : (all : Files) (file : FileId) (n : ℕ) (bytes more : List ℕ) → with_bytes (so_far all file n bytes) file (Some more) ≡ with_bytes all file (Some more)
over_so_far all file zero bytes more = refl
over_so_far all file (suc n) bytes more = λ i asked. twice (is_same_file asked file) (Some bytes) (Some more) (all asked) i

pub copied_more : (all : Files) (file : FileId) (told : Option Files) (content bytes : List ℕ) (from room : ℕ) → 0 < room → bytes ≡ take room (drop from content)
    → told ≡ Some (with_bytes (so_far all file from (take from content)) file (Some (take from content ++ bytes)))
    → told ≡ Some (so_far all file (from + room) (take (from + room) content))
copied_more all file told content bytes from room some is e =
    e
    ∙ ap Some (over_so_far all file from (take from content) (take from content ++ bytes))
    ∙ ap (λ (b : List ℕ). Some (with_bytes all file (Some b))) (ap (λ (rest : List ℕ). take from content ++ rest) is ∙ sym (take_split from room content))
    ∙ ap Some (sym (so_far_some all file (from + room) (take (from + room) content) (omega (arith, some))))

pub copied_all : (all : Files) (file : FileId) (told : Option Files) (content : List ℕ) (size from : ℕ) → 0 < size → length content ≡ size → size ≤ from → from ≤ size
    → told ≡ Some (so_far all file from (take from content)) → told ≡ Some (with_bytes all file (Some content))
copied_all all file told content size from some is low high e =
    e
    ∙ ap Some (so_far_some all file from (take from content) (omega (arith, some, low)))
    ∙ ap (λ (b : List ℕ). Some (with_bytes all file (Some b))) (take_all from content (omega (arith, is, low)))

pub stage_apart : (number : ℕ) (id : PoolId) → is_same_file (StageFile number) (PoolFile id) ≡ false
unfolding is_same_file
stage_apart number id = refl

-- a change of told files, from what it is where they are told
pub changed_told : (told told' : Option Files) (file : FileId) (content : List ℕ) → SameButOne file told told'
    → ((all : Files) → told ≡ Some all → told' ≡ Some (with_bytes all file (Some content))) → told' ≡ changed told file (Some content)
changed_told None told' file content same is = same
changed_told (Some all) told' file content same is = is all refl

-- ---- reads of a stage

pub stage_piece : (told : Option Files) (number size from room : ℕ) (found : Option (List ℕ)) (all : Files) (content : List ℕ)
    → ForSome told (λ all. found ≡ piece (all (StageFile number)) from room) → told ≡ Some all → IsStaged told number size content
    → found ≡ Some (take room (drop from content))
stage_piece told number size from room found all content read is staged =
    read all is ∙ ap (λ (f : Option (List ℕ)). piece f from room) (staged.there all is)

pub lost_by : (told : Option Files) (number size from room : ℕ) (field found : Option (List ℕ)) → field ≡ found
    → ForSome told (λ all. field ≡ piece (all (StageFile number)) from room) → from + room ≤ size → (length (bytes_of found) ≡ room → is_some found ≡ false) → SaysStageLost number size told (Foreign (StageFile number) found)
lost_by told number size from room field found is_found read within short file found' e = record {
  is = cc;
  never = λ all content is staged.
      let here = sym is_found ∙ stage_piece told number size from room field all content read is staged in
      let count : length (bytes_of found) ≡ room =
      ap (λ (f : Option (List ℕ)). length (bytes_of f)) here ∙ length-take-le room (drop from content)
      (omega (arith, within, staged.size_is, length-drop from content)) in
      false≢true (sym (short count) ∙ ap is_some here);
}

-- the stage still reads so, with part of it copied
pub staged_copied : (number size : ℕ) (id : PoolId) (n : ℕ) (bytes content : List ℕ) (all : Files) (told told' : Option Files) → told ≡ Some all
    → told' ≡ Some (so_far all (PoolFile id) n bytes) → IsStaged told number size content → IsStaged told' number size content
staged_copied number size id n bytes content all told told' is is' staged = record {
  there = λ all' e.
      let same : all' ≡ so_far all (PoolFile id) n bytes = cc in
      ap (λ (f : Files). f (StageFile number)) same ∙ so_far_other all (PoolFile id) n bytes (StageFile number) (stage_apart number id) ∙ staged.there all is;
  size_is = staged.size_is;
}
