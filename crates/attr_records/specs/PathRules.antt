-- The rules of paths, in the order in which they are judged.
use Rattle.std.specs.Prelude.{◌≡◌, ℕ, ◌==◌, nat_lt, Bool, true, false, ◌&&◌, not, List, [], ◌∷◌, length, Option, Some, None, if◌then◌else◌}
use Rattle.std.specs.List.{list_any}
use Rattle.std.specs.Str.{is_utf8}
use Rattle.attr_records.specs.declared.paths.BadPath.{BadPath}
use Rattle.attr_records.specs.declared.paths.BadPath.TheVariants.{NotUtf8, Empty, TooLong, Nul, EmptyComponent, Dot, LongComponent}
use Rattle.attr_records.specs.Paths.{components}

-- a byte 0 stands in the text
abbrev pub has_nul : List ℕ → Bool
has_nul bytes = list_any (λ byte. byte == 0) bytes

-- the empty component: before a leading slash, behind a trailing one, or between two
abbrev pub is_empty_component : List ℕ → Bool
is_empty_component [] = true
is_empty_component (byte ∷ more) = false

-- the component . or ..
abbrev pub is_dot_component : List ℕ → Bool
is_dot_component [] = false
is_dot_component (a ∷ []) = a == 46
is_dot_component (a ∷ b ∷ []) = (a == 46) && (b == 46)
is_dot_component (a ∷ b ∷ c ∷ more) = false

-- a component of more than 255 bytes
abbrev pub is_long_component : List ℕ → Bool
is_long_component component = nat_lt 255 (length component)

-- the first rule that the components break
abbrev pub broken_component_rule : List (List ℕ) → Option BadPath
broken_component_rule cs =
    if list_any is_empty_component cs then Some EmptyComponent
    else (if list_any is_dot_component cs then Some Dot
    else (if list_any is_long_component cs then Some LongComponent
    else None))

-- the first rule of paths that the bytes break
unfoldable pub broken_path_rule : List ℕ → Option BadPath
broken_path_rule bytes =
    if not (is_utf8 bytes) then Some NotUtf8
    else (if is_empty_component bytes then Some Empty
    else (if nat_lt 4096 (length bytes) then Some TooLong
    else (if has_nul bytes then Some Nul
    else broken_component_rule (components bytes))))

-- the bytes keep each rule of paths
pub record KeepsRules (bytes : List ℕ) : Type 0 where
  pub text : is_utf8 bytes ≡ true
  pub some : is_empty_component bytes ≡ false
  pub short : nat_lt 4096 (length bytes) ≡ false
  pub no_nul : has_nul bytes ≡ false
  pub no_empty : list_any is_empty_component (components bytes) ≡ false
  pub no_dot : list_any is_dot_component (components bytes) ≡ false
  pub no_long : list_any is_long_component (components bytes) ≡ false
