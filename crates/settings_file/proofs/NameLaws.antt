-- The names of a table's keys.
use Rattle.std.proofs.Common.{◌≡◌, ℕ, List, [], ◌∷◌, map, String, Global, string_bytes, refl, ap}
use Rattle.std.specs.Map.{keys_of}
use Rattle.toml.specs.declared.value.Value.{Value}
use Rattle.toml.specs.View.{members_view}
use Rattle.settings_file.specs.Document.{names_of}

pub names_of-entries : (entries : List (String Global × Value)) → names_of (members_view entries) ≡ map string_bytes (keys_of entries)
names_of-entries [] = refl
names_of-entries (entry ∷ entries) = ap (λ (l : List (List ℕ)). string_bytes entry.0 ∷ l) (names_of-entries entries)
