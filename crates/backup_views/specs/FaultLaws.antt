-- Laws of faults of reading a backup.
use Rattle.std.specs.Prelude.{◌≡◌, ◌⊎◌, ◌<◌, ℕ, zero, suc, List, [], ◌∷◌, length, take, Option, Some, slice_get, get_or}
use Rattle.std.proofs.Common.{inl, inr, sym, ap, subst, ◌∙◌}
use Rattle.std.proofs.lemmas.Option.{slice_get-get_or}
use Rattle.disk_trait.specs.declared.ids.FileId.TheVariants.{Table}
use Rattle.merge_view.specs.Views.{Rows}
use Rattle.backup_views.specs.declared.fault.ViewFault.TheVariants.{Memory, Damaged}
use Rattle.backup_views.specs.Stored.{IsTableFile}
use Rattle.disk_trait.specs.Files.{Files}
use Rattle.backup_rules.specs.declared.lines.Line.{Line}
use Rattle.backup_views.specs.declared.fault.ViewFault.{ViewFault}
use Rattle.backup_views.specs.Faults.{IsNoTable, SaysDamaged, IsDamaged, SaysOneDamaged}

-- what was found is no table's
pub decoded_damaged : (told : Option Files) (host number : ℕ) (fault : ViewFault) (seen : Option (List ℕ))
    → ((all : Files) → told ≡ Some all → seen ≡ all (Table host number))
    → (fault ≡ Memory) ⊎ ((fault ≡ Damaged (Table host number) seen) × ((rows : Rows) → IsTableFile rows seen → ⊥)) → SaysDamaged told host number fault
decoded_damaged told host number fault seen at (inl none) file found is = absurd (apart (sym none ∙ is))
  where
    apart : Memory ≡ Damaged file found → ⊥
    apart e = cc
decoded_damaged told host number fault seen at (inr damaged) file found is = (
  sym (same_file (sym damaged.0 ∙ is)),
  record {
    there = λ all is_told. sym (same_found (sym damaged.0 ∙ is)) ∙ at all is_told ∙ ap all (same_file (sym damaged.0 ∙ is));
    none = λ rows table. damaged.1 rows (subst (λ (x : Option (List ℕ)). IsTableFile rows x) (sym (same_found (sym damaged.0 ∙ is))) table);
  },
)
  where
    same_file : Damaged (Table host number) seen ≡ Damaged file found → Table host number ≡ file
    same_file e = cc

    same_found : Damaged (Table host number) seen ≡ Damaged file found → seen ≡ found
    same_found e = cc

-- of one of the lines
pub one_damaged : (old told : Option Files) (host : ℕ) (lines : List Line) (i : ℕ) (d : Line) (fault : ViewFault) → told ≡ old
    → i < length lines → SaysDamaged told host (get_or lines i d).number fault → SaysOneDamaged old host lines fault
one_damaged old told host lines i d fault same inside says file found is = let said = says file found is in record {
  index = i;
  line = get_or lines i d;
  is_line = slice_get-get_or lines i d inside;
  file_is = said.0;
  no_table = subst (λ (t : Option Files). IsNoTable t file found) same said.1;
}

get-take : {A : Type 0} (n i : ℕ) (xs : List A) (x : A) → slice_get (take n xs) i ≡ Some x → slice_get xs i ≡ Some x
get-take zero i xs x e = absurd cc
get-take (suc n) i [] x e = e
get-take (suc n) zero (y ∷ xs) x e = e
get-take (suc n) (suc i) (y ∷ xs) x e = get-take n i xs x e

-- of the first of them
pub first_damaged : (told : Option Files) (host : ℕ) (n : ℕ) (lines : List Line) (fault : ViewFault)
    → SaysOneDamaged told host (take n lines) fault → SaysOneDamaged told host lines fault
first_damaged told host n lines fault says file found is = let said = says file found is in record {
  index = said.index;
  line = said.line;
  is_line = get-take n said.index lines said.line said.is_line;
  file_is = said.file_is;
  no_table = said.no_table;
}
