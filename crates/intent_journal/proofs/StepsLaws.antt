-- How changes go on, one after the other.
use Rattle.std.proofs.Common.{◌≡◌, ℕ, suc, ◌+◌, ◌<◌, ◌≤◌, false, List, [], ◌∷◌, length, drop, get_or, Option, Some, refl, sym, ap, ◌∙◌, subst, add-one, drop-cons, arith}
use Rattle.std.proofs.lemmas.List.{drop_all}
use Rattle.disk_trait.specs.declared.ids.FileId.{FileId}
use Rattle.disk_trait.specs.Files.{Files, with_bytes, changed, SameButOne}
use Rattle.disk_trait.specs.Images.{FileSet, nothing, also, IsWithin, IsImage, MayLeave}
use Rattle.intent_journal.specs.declared.changes.Change.{Change}
use Rattle.intent_journal.specs.Changes.{applied, names}
use Rattle.intent_journal.specs.Steps.{Touched, Underway}
use Rattle.intent_journal.specs.ChangesLaws.{with_bytes_other, out_of_next}

-- an image of a disk on which files of a set are changed
pub touched_image : (told : Option Files) (uncertain : FileSet) (all : Files) (set : FileSet) (image : Files)
    → Touched told uncertain all set → MayLeave told uncertain image → IsImage all set image
touched_image told uncertain all set image touched may = record {
  each = λ asked out.
      let one : may.all ≡ touched.now = cc (may.is, touched.is) in
      may.image_of.each asked (touched.within.each asked out) ∙ ap (λ (files : Files). files asked) one ∙ touched.same asked out;
}

-- before the first change
pub underway_start : (told : Option Files) (uncertain : FileSet) (all : Files) (changes : List Change) → told ≡ Some all
    → IsWithin uncertain nothing → Underway told uncertain all changes changes
underway_start told uncertain all changes is within = record {
  touched = record {
    now = all;
    is = is;
    same = λ asked out. refl;
    within = record { each = λ asked out. within.each asked refl };
  };
  goal = refl;
  part = λ asked out. out;
}

-- the set has the next change's file
next_within : (uncertain uncertain' : FileSet) (changes : List Change) (change : Change) (rest : List Change)
    → ((asked : FileId) → names changes asked ≡ false → names (change ∷ rest) asked ≡ false)
    → IsWithin uncertain (names changes) → IsWithin uncertain' (also uncertain change.file) → IsWithin uncertain' (names changes)
next_within uncertain uncertain' changes change rest part old new = record {
  each = λ asked out.
      let next = out_of_next change rest asked (part asked out) in
      new.each asked (rw next.0 (old.each asked out));
}

-- a change that was made
pub underway_next : (told told' : Option Files) (uncertain uncertain' : FileSet) (all : Files) (changes xs : List Change)
    (change : Change) (rest : List Change)
    → xs ≡ change ∷ rest → Underway told uncertain all changes xs → told' ≡ changed told change.file change.bytes
    → IsWithin uncertain' (also uncertain change.file)
    → Underway told' uncertain' all changes rest
underway_next told told' uncertain uncertain' all changes xs change rest e old is within =
    let was = subst (λ (l : List Change). Underway told uncertain all changes l) e old in
    record {
      touched = record {
        now = with_bytes was.touched.now change.file change.bytes;
        is = is ∙ ap (λ (t : Option Files). changed t change.file change.bytes) was.touched.is;
        same = λ asked out.
            let next = out_of_next change rest asked (was.part asked out) in
            with_bytes_other was.touched.now change.file change.bytes asked next.0 ∙ was.touched.same asked out;
        within = next_within uncertain uncertain' changes change rest was.part was.touched.within within;
      };
      goal = was.goal;
      part = λ asked out. (out_of_next change rest asked (was.part asked out)).1;
    }

-- a change that failed
pub underway_failed : (told told' : Option Files) (uncertain uncertain' : FileSet) (all : Files) (changes xs : List Change)
    (change : Change) (rest : List Change)
    → xs ≡ change ∷ rest → Underway told uncertain all changes xs → SameButOne change.file told told'
    → IsWithin uncertain' (also uncertain change.file)
    → Touched told' uncertain' all (names changes)
underway_failed told told' uncertain uncertain' all changes xs change rest e old failed within =
    let was = subst (λ (l : List Change). Underway told uncertain all changes l) e old in
    let one = subst (λ (t : Option Files). SameButOne change.file t told') was.touched.is failed in
    record {
      now = one.0;
      is = one.1;
      same = λ asked out.
          let next = out_of_next change rest asked (was.part asked out) in
          one.2 asked next.0 ∙ was.touched.same asked out;
      within = next_within uncertain uncertain' changes change rest was.part was.touched.within within;
    }

-- the item of a loop is the first of what is left
pub next_of : {A : Type 0} (xs : List A) (i : ℕ) (x : A) → i < length xs → x ≡ get_or xs i x → drop i xs ≡ x ∷ drop (i + 1) xs
next_of xs i x lt is = rw (add-one, drop-cons xs i x) (ap (λ (y : _). y ∷ drop (suc i) xs) (sym is))

-- all of them were made
pub underway_done : (told : Option Files) (uncertain : FileSet) (all : Files) (changes : List Change) (i : ℕ) → length changes ≤ i
    → Underway told uncertain all changes (drop i changes) → told ≡ Some (applied changes all)
underway_done told uncertain all changes i le under =
    let none : drop i changes ≡ [] = drop_all i changes (omega arith) in
    let goal : applied [] under.touched.now ≡ applied changes all =
    subst (λ (l : List Change). applied l under.touched.now ≡ applied changes all) none under.goal in
    under.touched.is ∙ ap (λ (files : Files). Some files) goal

-- a call that changes no file and makes none uncertain
pub touched_look : (told told' : Option Files) (uncertain uncertain' : FileSet) (all : Files) (set : FileSet)
    → Touched told uncertain all set → told' ≡ told → IsWithin uncertain' uncertain → Touched told' uncertain' all set
touched_look told told' uncertain uncertain' all set touched same within = record {
  now = touched.now;
  is = same ∙ touched.is;
  same = touched.same;
  within = record { each = λ asked out. within.each asked (touched.within.each asked out) };
}
