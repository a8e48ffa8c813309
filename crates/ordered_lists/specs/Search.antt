-- What a search for a key tells of entries in the order of their keys.
--     without_key R key entries      the entries of the other keys
--     IsSearched R entries key answer      at Ok the index of its entry, at Err the index at which it would be put
use Rattle.std.specs.Prelude.{◌≡◌, ℕ, ◌+◌, ◌<◌, ◌≤◌, not, List, ◌∷◌, ◌++◌, length, take, drop, Some, None, slice_index_or}
use Rattle.std.specs.declared.cmp.Ordering.{Ordering}
use Rattle.std.specs.declared.result.Result.{Result}
use Rattle.std.specs.declared.result.Result.TheVariants.{Ok, Err}
use Rattle.std.specs.Ordering.{eq_by_cmp}
use Rattle.std.specs.FinMap.Entries.{find, put, where_key}

module _ {K X : Type 0} (R : K → K → Ordering) where
  abbrev pub without_key : K → List (K × X) → List (K × X)
  without_key key entries = where_key R (λ k. not (eq_by_cmp R key k)) entries

  module _ (entries : List (K × X)) (key : K) where
    -- the entry at the index has the key
    pub record IsThere (index : ℕ) : Type 0 where
      pub within : index < length entries
      pub found : (d : K × X) → find R key entries ≡ Some (slice_index_or entries index d).1
      pub put_is : (d : K × X) (value : X)
          → put R key value entries ≡ take index entries ++ ((slice_index_or entries index d).0, value) ∷ drop (index + 1) entries
      pub others_are : without_key key entries ≡ take index entries ++ drop (index + 1) entries

    -- no entry has the key, and a new one would be put at the index
    pub record IsAbsent (index : ℕ) : Type 0 where
      pub within : index ≤ length entries
      pub none : find R key entries ≡ None
      pub put_is : (value : X) → put R key value entries ≡ take index entries ++ (key, value) ∷ drop index entries
      pub others_are : without_key key entries ≡ entries

    abbrev pub IsSearched : Result ℕ ℕ → Type 0
    IsSearched (Ok index) = IsThere index
    IsSearched (Err index) = IsAbsent index
