-- The names of hosts, and the targets of links.
use Rattle.std.specs.Prelude.{ℕ, ◌==◌, nat_le, Bool, false, ◌&&◌, ◌||◌, not, List, [], ◌∷◌, length}
use Rattle.std.specs.List.{list_all}
use Rattle.std.specs.Str.{is_utf8}
use Rattle.attr_records.specs.PathRules.{has_nul, is_empty_component}

-- a to z, 0 to 9
abbrev pub is_letter_or_digit : ℕ → Bool
is_letter_or_digit byte = (nat_le 97 byte && nat_le byte 122) || (nat_le 48 byte && nat_le byte 57)

-- a to z, 0 to 9, the dot, the underscore, the hyphen
abbrev pub is_host_byte : ℕ → Bool
is_host_byte byte = is_letter_or_digit byte || (byte == 46) || (byte == 95) || (byte == 45)

abbrev pub begins_with_letter_or_digit : List ℕ → Bool
begins_with_letter_or_digit [] = false
begins_with_letter_or_digit (byte ∷ text) = is_letter_or_digit byte

-- 1 to 64 bytes of host names, the first a letter or a digit
unfoldable pub is_host_name : List ℕ → Bool
is_host_name text = begins_with_letter_or_digit text && (nat_le (length text) 64 && list_all is_host_byte text)

-- 1 to 4,096 bytes of UTF-8 without a byte 0
unfoldable pub is_link_target : List ℕ → Bool
is_link_target text = not (is_empty_component text) && (nat_le (length text) 4096 && (is_utf8 text && not (has_nul text)))
