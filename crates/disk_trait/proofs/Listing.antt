-- A map of names: what a change leaves, and its names as a list.
use Rattle.std.proofs.Common.{◌≡◌, ℕ, Bool, true, false, cond, List, [], ◌∷◌, Option, Some, refl, sym, ap, ◌∙◌, subst, is_some, if◌then◌else◌}
use Rattle.std.specs.List.{AllByRecursion, IsDistinct}
use Rattle.std.specs.Map.{keys_of, lookup}
use Rattle.std.specs.BTreeMap.{get, keys, is_at, IsOrdered}
use Rattle.std.proofs.lemmas.Map.Keys.{IsDistinct-from_sorted, IsDistinct-head, IsDistinct-tail}
use Rattle.disk_trait.specs.declared.ids.FileId.{FileId}
use Rattle.disk_trait.specs.declared.map.FileMap.{FileMap}
use Rattle.disk_trait.specs.Names.{is_same_file}
use Rattle.disk_trait.specs.Order.{file_cmp, file_eq}
use Rattle.disk_trait.specs.OrderLaws.{file_eq_equiv, file_eq_same}
use Rattle.disk_trait.specs.Files.{Files, with_bytes, lists, IsListedOnce, IsListing}
use Rattle.disk_trait.specs.Maps.{files_of}

same_either_way : (file asked : FileId) → file_eq file asked ≡ is_same_file asked file
same_either_way file asked = file_eq_equiv.symm file asked ∙ file_eq_same asked file

-- a map in which one name was given bytes, or taken out
pub updated : (old new : FileMap) (file : FileId) (bytes : Option (List ℕ))
    → ((asked : FileId) → get file_cmp new.inner asked ≡ cond (is_at (file_cmp file) asked) bytes (get file_cmp old.inner asked))
    → files_of new ≡ with_bytes (files_of old) file bytes
updated old new file bytes updates = λ i asked. at asked i
  where
    at : (asked : FileId) → files_of new asked ≡ with_bytes (files_of old) file bytes asked
    at asked = updates asked ∙ ap (λ (same : Bool). cond same bytes (files_of old asked)) (same_either_way file asked)

-- a name that is changed twice
pub changed_twice : (files : Files) (file : FileId) (first second : Option (List ℕ)) → with_bytes (with_bytes files file first) file second ≡ with_bytes files file second
changed_twice files file first second = λ i asked. by_test (is_same_file asked file) (files asked) i
  where
    by_test : (same : Bool) (held : Option (List ℕ)) → (if same then second else if same then first else held) ≡ (if same then second else held)
    by_test true held = refl
    by_test false held = refl

module _ {X : Type 0} where
  -- a name is listed where the map has it
  lists_keys : (entries : List (FileId × X)) (asked : FileId) → lists (keys_of entries) asked ≡ is_some (lookup (file_eq asked) entries)
  lists_keys [] asked = refl
  lists_keys (entry ∷ entries) asked =
      ap (λ (same : Bool). if same then true else lists (keys_of entries) asked) (sym (file_eq_same asked entry.0))
      ∙ by_test (file_eq asked entry.0) (lists_keys entries asked)
    where
      by_test : (same : Bool) → lists (keys_of entries) asked ≡ is_some (lookup (file_eq asked) entries)
          → (if same then true else lists (keys_of entries) asked) ≡ is_some (cond same (Some entry.1) (lookup (file_eq asked) entries))
      by_test true later = refl
      by_test false later = later

-- a name that differs from each of a list isn't listed
not_listed : (names : List FileId) (file : FileId) → AllByRecursion (λ other. file_eq file other ≡ false) names → lists names file ≡ false
not_listed [] file all = refl
not_listed (name ∷ names) file all =
    ap (λ (same : Bool). if same then true else lists names file) (sym (file_eq_same file name) ∙ all.0) ∙ not_listed names file all.1

once : (names : List FileId) → IsDistinct file_eq names → IsListedOnce names
once [] distinct = tt
once (name ∷ names) distinct = (not_listed names name (IsDistinct-head file_eq name names distinct), once names (IsDistinct-tail file_eq name names distinct))

-- the names of a map list its files
pub names_list : (files : FileMap) (names list : List FileId) → IsOrdered file_cmp files.inner → names ≡ keys files.inner → list ≡ names → IsListing list (files_of files)
names_list files names list ordered are is = subst (λ (l : List FileId). IsListing l (files_of files)) (sym (is ∙ are)) (record {
  once = once (keys files.inner) (IsDistinct-from_sorted file_cmp (keys files.inner) ordered);
  each = lists_keys files.inner.entries;
})
