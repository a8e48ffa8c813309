-- A disk without files.
use Rattle.std.proofs.Common.{◌≡◌, ℕ, List, None, Some, refl, sym, ap, ◌∙◌, subst, inl, inr}
use Rattle.std.proofs.lemmas.Bool.{false≢true}
use Rattle.disk_trait.specs.declared.ids.FileId.{FileId}
use Rattle.disk_trait.specs.Files.{Files, no_files}
use Rattle.disk_trait.specs.Images.{FileSet, nothing, IsWithin, MayLeave}
use Rattle.intent_journal.specs.ChangesLaws.{either}
use Rattle.journal_view.specs.Found.{seen, is_seen, Finds}
use Rattle.journal_view.specs.FoundLaws.{seen_there, seen_none}
use Rattle.office_model.specs.Office.{blank}
use Rattle.office_files.specs.BlankLaws.{blank_stands_for}
use Rattle.office_files.specs.Stands.{StandsFor}
use Rattle.store_parts.specs.Held.{IsEither}
use Rattle.store_opening.specs.Opens.{IsOf}

nothing_seen : seen no_files ≡ no_files
nothing_seen = λ i asked. at asked i
  where
    at : (asked : FileId) → seen no_files asked ≡ None
    at asked = elim (either (is_seen asked)) [
      | inl e ↦ seen_there no_files asked e
      | inr e ↦ seen_none no_files asked e
    ]

-- nothing is found in an image without files
nothing_found : (digest_of : List ℕ → List ℕ) → Finds (IsEither digest_of blank blank) no_files
nothing_found digest_of = record {
  found = seen no_files;
  in_image = record {
    files = no_files;
    comes = record { closed = λ e asked kind. refl; opened = λ e. absurd (false≢true e); contents = λ asked kind out. refl };
    is = refl;
  };
  has = inl (subst (λ (f : Files). StandsFor digest_of f blank) (sym nothing_seen) (blank_stands_for digest_of));
}

left_nothing : (uncertain : FileSet) → IsWithin uncertain nothing → (image : Files) → MayLeave (Some no_files) uncertain image
    → image ≡ no_files
left_nothing uncertain certain image left = λ i asked. at asked i
  where
    all_is : left.all ≡ no_files
    all_is = let e : Some no_files ≡ Some left.all = left.is in cc

    at : (asked : FileId) → image asked ≡ None
    at asked = left.image_of.each asked (certain.each asked refl) ∙ ap (λ (f : Files). f asked) all_is

pub blank_of : (digest_of : List ℕ → List ℕ) (uncertain : FileSet) → IsWithin uncertain nothing
    → IsOf digest_of (Some no_files) uncertain blank blank
blank_of digest_of uncertain certain = record {
  each = λ image left.
      subst (Finds (IsEither digest_of blank blank)) (sym (left_nothing uncertain certain image left))
      (nothing_found digest_of);
  tells = refl;
}
