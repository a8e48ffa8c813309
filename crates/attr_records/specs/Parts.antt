-- What a scan of the components of a path has left.
use Rattle.std.specs.Prelude.{ℕ, ◌+◌, List, [], length, Option, Some, None}
use Rattle.attr_records.specs.Paths.{components}

-- the components of what follows a slash, where there is one
abbrev pub other_components : Option (List ℕ) → List (List ℕ)
other_components None = []
other_components (Some path) = components path

-- how much is left to scan
abbrev pub left_to_scan : Option (List ℕ) → ℕ
left_to_scan None = 0
left_to_scan (Some path) = length path + 1
