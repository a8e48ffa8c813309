-- The names of hosts: lists of names that differ.
--     has_name      whether a name is among others
--     AreNames      at most so many names, no two of which are one
--     IsFreshName      a name that may stand behind others
use Rattle.std.specs.Prelude.{◌≡◌, ℕ, ◌≤◌, Bool, true, false, List, length, bytes_eq}
use Rattle.std.specs.List.{list_any, IsDistinct}
use Rattle.attr_records.specs.Names.{is_host_name}

-- the name is one of these
abbrev pub has_name : List (List ℕ) → List ℕ → Bool
has_name names name = list_any (λ other. bytes_eq other name) names

-- no two names are one
abbrev pub Differ : List (List ℕ) → Type 0
Differ names = IsDistinct bytes_eq names

pub record AreNames (names : List (List ℕ)) : Type 0 where
  pub few : length names ≤ 1024
  pub differ : Differ names

-- the name of a host
abbrev pub IsHostName : List ℕ → Type 0
IsHostName name = is_host_name name ≡ true

-- the name of a host, and none of these
pub record IsFreshName (before : List (List ℕ)) (name : List ℕ) : Type 0 where
  pub kept : IsHostName name
  pub fresh : has_name before name ≡ false
