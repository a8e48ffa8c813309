-- Reading changes one after the other.
use Rattle.std.proofs.Common.{◌≡◌, ℕ, ◌+◌, ◌<◌, true, false, List, [], ◌∷◌, ◌++◌, length, take, drop, get_or, None, refl, sym, ap, ◌∙◌, subst, arith, append_assoc}
use Rattle.std.proofs.lemmas.List.{append-nil, take-append-drop, drop_more, take_more, length_push, length-append}
use Rattle.wire_bytes.specs.Reading.{Reading, left, Passes}
use Rattle.disk_trait.specs.declared.ids.FileId.{FileId}
use Rattle.disk_trait.specs.declared.ids.FileId.TheVariants.{Head}
use Rattle.disk_trait.specs.Names.{is_same_file, is_metadata}
use Rattle.intent_journal.specs.declared.changes.Change.{Change}
use Rattle.intent_journal.specs.declared.intent.IntentFault.{IntentFault}
use Rattle.intent_journal.specs.declared.intent.IntentFault.TheVariants.{Memory}
use Rattle.intent_journal.specs.Changes.{names, AreChanges, AreInRange, IsInRange, IsShort}
use Rattle.intent_journal.specs.RawChanges.{IsChange}
use Rattle.intent_journal.specs.Layout.{change_bytes, changes_bytes}
use Rattle.intent_journal.specs.ChangesLaws.{out_of_next, sym_other, in_names, are_more}

-- ---- changes that differ

-- in a list that doesn't name the file, none of the parts does
other_than : (xs : List Change) (change : Change) (ys : List Change) (asked : FileId) → names (xs ++ change ∷ ys) asked ≡ false
    → is_same_file asked change.file ≡ false
other_than [] change ys asked out = (out_of_next change ys asked out).0
other_than (x ∷ xs) change ys asked out = other_than xs change ys asked (out_of_next x (xs ++ change ∷ ys) asked out).1

not_named_before : (xs : List Change) (change : Change) (ys : List Change) → AreChanges (xs ++ change ∷ ys) → names xs change.file ≡ false
not_named_before [] change ys are = refl
not_named_before (x ∷ xs) change ys are =
    in_names x xs change.file (sym_other x.file change.file (other_than xs change ys x.file are.1)) (not_named_before xs change ys are.2)

metadata_there : (xs : List Change) (change : Change) (ys : List Change) → AreChanges (xs ++ change ∷ ys) → is_metadata change.file ≡ true
metadata_there [] change ys are = are.0
metadata_there (x ∷ xs) change ys are = metadata_there xs change ys are.2

in_range_there : (xs : List Change) (change : Change) (ys : List Change) → AreInRange (xs ++ change ∷ ys)
    → IsInRange change.file × IsShort change.bytes
in_range_there [] change ys are = (are.0, are.1)
in_range_there (x ∷ xs) change ys are = in_range_there xs change ys are.2

pub in_range_more : (xs : List Change) (change : Change) → AreInRange xs → IsInRange change.file × IsShort change.bytes
    → AreInRange (xs ++ change ∷ [])
in_range_more [] change are here = (here.0, here.1, tt)
in_range_more (x ∷ xs) change are here = (are.0, are.1, in_range_more xs change are.2 here)

pub changes_bytes-append : (xs ys : List Change) → changes_bytes (xs ++ ys) ≡ changes_bytes xs ++ changes_bytes ys
changes_bytes-append [] ys = refl
changes_bytes-append (x ∷ xs) ys =
    ap (λ (b : List ℕ). change_bytes x ++ b) (changes_bytes-append xs ys)
    ∙ sym (append_assoc (change_bytes x) (changes_bytes xs) (changes_bytes ys))

-- ---- one after the other

pub passes_both : (old middle new : Reading) (a b : List ℕ) → Passes old middle a → Passes middle new b → Passes old new (a ++ b)
passes_both old middle new a b p q = record {
  whole = q.whole ∙ p.whole;
  offset = omega (arith, p.offset, q.offset, length-append a b);
  parts = p.parts ∙ ap (λ (bytes : List ℕ). a ++ bytes) q.parts ∙ sym (append_assoc a b (left new));
}

-- i changes were read
pub record ChangesRead (first at : Reading) (changes : List Change) (i count : ℕ) : Type 0 where
  pub are : AreChanges changes
  pub in_range : AreInRange changes
  pub counted : length changes ≡ i
  pub passed : Passes first at (changes_bytes changes)
  pub back : (all : List Change) (more : List ℕ) → AreChanges all → AreInRange all → length all ≡ count
      → left first ≡ changes_bytes all ++ more
      → (changes ≡ take i all) × (left at ≡ changes_bytes (drop i all) ++ more)

none : Change
none = record { file = Head; bytes = None }

-- what the next change of a list of them is
record Next (all : List Change) (i : ℕ) (changes : List Change) (bytes more : List ℕ) : Type 0 where
  change : Change
  fits : IsChange change
  fresh : names changes change.file ≡ false
  here : bytes ≡ change_bytes change ++ (changes_bytes (drop (i + 1) all) ++ more)
  take_one : take (i + 1) all ≡ take i all ++ change ∷ []

next_of_all : (all changes : List Change) (bytes more : List ℕ) (i : ℕ) → AreChanges all → AreInRange all → i < length all
    → changes ≡ take i all
    → bytes ≡ changes_bytes (drop i all) ++ more → Next all i changes bytes more
next_of_all all changes bytes more i are in_range within so_far is =
    let change = get_or all i none in
    let parts : all ≡ take i all ++ change ∷ drop (i + 1) all =
    sym (take-append-drop i all) ∙ ap (λ (rs : List Change). take i all ++ rs) (drop_more all i none within) in
    let are_parts = subst AreChanges parts are in
    let range_parts = subst AreInRange parts in_range in
    let range = in_range_there (take i all) change (drop (i + 1) all) range_parts in
    record {
      change = change;
      fits = ((metadata_there (take i all) change (drop (i + 1) all) are_parts, range.0), range.1);
      fresh = ap (λ (cs : List Change). names cs change.file) so_far ∙ not_named_before (take i all) change (drop (i + 1) all) are_parts;
      here = is ∙ ap (λ (rs : List Change). changes_bytes rs ++ more) (drop_more all i none within)
          ∙ append_assoc (change_bytes change) (changes_bytes (drop (i + 1) all)) more;
      take_one = take_more all i none within;
    }

passed_more : (first at new : Reading) (changes : List Change) (change : Change) → Passes first at (changes_bytes changes)
    → Passes at new (change_bytes change) → Passes first new (changes_bytes (changes ++ change ∷ []))
passed_more first at new changes change before here =
    let same : changes_bytes changes ++ change_bytes change ≡ changes_bytes (changes ++ change ∷ []) =
    ap (λ (b : List ℕ). changes_bytes changes ++ b) (sym (append-nil (change_bytes change)))
    ∙ sym (changes_bytes-append changes (change ∷ [])) in
    subst (λ (b : List ℕ). Passes first new b) same (passes_both first at new (changes_bytes changes) (change_bytes change) before here)

pub changes_read_more : (first at new : Reading) (changes changes' : List Change) (i count : ℕ) → i < count
    → ChangesRead first at changes i count
    → ((change : Change) × IsChange change × (names changes change.file ≡ false) × (changes' ≡ changes ++ change ∷ [])
    × Passes at new (change_bytes change))
    → ((change : Change) (more : List ℕ) → IsChange change → names changes change.file ≡ false → left at ≡ change_bytes change ++ more
    → (changes' ≡ changes ++ change ∷ []) × (left new ≡ more))
    → ChangesRead first new changes' (i + 1) count
changes_read_more first at new changes changes' i count within so_far found back = record {
  are = subst AreChanges (sym found.3) (are_more changes found.0 so_far.are found.1.0.0 found.2);
  in_range = subst AreInRange (sym found.3) (in_range_more changes found.0 so_far.in_range (found.1.0.1, found.1.1));
  counted = ap length found.3 ∙ length_push changes found.0 ∙ ap (λ (n : ℕ). n + 1) so_far.counted;
  passed = subst (λ (cs : List Change). Passes first new (changes_bytes cs)) (sym found.3)
      (passed_more first at new changes found.0 so_far.passed found.4);
  back = λ all more are in_range counted is.
      let here : (changes ≡ take i all) × (left at ≡ changes_bytes (drop i all) ++ more) = so_far.back all more are in_range counted is in
      let inside : i < length all = omega arith in
      let next = next_of_all all changes (left at) more i are in_range inside here.0 here.1 in
      let gone = back next.change (changes_bytes (drop (i + 1) all) ++ more) next.fits next.fresh next.here in
      (gone.0 ∙ ap (λ (cs : List Change). cs ++ next.change ∷ []) here.0 ∙ sym next.take_one, gone.1);
}

pub no_changes : (first at : Reading) (changes : List Change) (i count : ℕ) (fault : IntentFault) → i < count
    → ChangesRead first at changes i count
    → ((change : Change) (more : List ℕ) → IsChange change → names changes change.file ≡ false → left at ≡ change_bytes change ++ more
    → fault ≡ Memory)
    → (all : List Change) (more : List ℕ) → AreChanges all → AreInRange all → length all ≡ count → left first ≡ changes_bytes all ++ more
    → fault ≡ Memory
no_changes first at changes i count fault within so_far back all more are in_range counted is =
    let here : (changes ≡ take i all) × (left at ≡ changes_bytes (drop i all) ++ more) = so_far.back all more are in_range counted is in
    let inside : i < length all = omega arith in
    let next = next_of_all all changes (left at) more i are in_range inside here.0 here.1 in
    back next.change (changes_bytes (drop (i + 1) all) ++ more) next.fits next.fresh next.here

-- ---- writing them

pub written_more : (xs : List Change) (i : ℕ) (x : Change) (first before now : List ℕ) → i < length xs → x ≡ get_or xs i x
    → before ≡ first ++ changes_bytes (take i xs) → now ≡ before ++ change_bytes x → now ≡ first ++ changes_bytes (take (i + 1) xs)
written_more xs i x first before now within is so_far put =
    let more : take (i + 1) xs ≡ take i xs ++ x ∷ [] = take_more xs i x within ∙ ap (λ (r : Change). take i xs ++ r ∷ []) (sym is) in
    put ∙ ap (λ (b : List ℕ). b ++ change_bytes x) so_far ∙ append_assoc first (changes_bytes (take i xs)) (change_bytes x)
    ∙ ap (λ (b : List ℕ). first ++ (changes_bytes (take i xs) ++ b)) (sym (append-nil (change_bytes x)))
    ∙ ap (λ (b : List ℕ). first ++ b) (sym (changes_bytes-append (take i xs) (x ∷ [])))
    ∙ ap (λ (rs : List Change). first ++ changes_bytes rs) (sym more)

pub fits_more : (xs : List Change) (i : ℕ) (x : Change) → i < length xs → x ≡ get_or xs i x → AreInRange (take i xs)
    → IsInRange x.file × IsShort x.bytes → AreInRange (take (i + 1) xs)
fits_more xs i x within is so_far here =
    let more : take (i + 1) xs ≡ take i xs ++ x ∷ [] = take_more xs i x within ∙ ap (λ (r : Change). take i xs ++ r ∷ []) (sym is) in
    subst AreInRange (sym more) (in_range_more (take i xs) x so_far here)
