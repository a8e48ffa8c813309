-- The values of a query.
--     value_in, value_or      the value of a key in a form, which must be there, or stands for another where it is absent
--     token_in      the token of the request, if it has one
--     base_in      the number of the base, if it has one
--     path_in, place_in      the path that the query names;  the same, or the root
use Rattle.std.specs.Prelude.{ℕ, ◌-◌, ◌^◌, Bool, true, false, List, codes, Option, Some, None, Result, Ok, Err, bytes_eq, if◌then◌else◌}
use Rattle.std.specs.Option.{option_map, option_map_or}
use Rattle.attr_records.specs.PathRules.{broken_path_rule}
use Rattle.attr_records.specs.declared.paths.BadPath.{BadPath}
use Rattle.backup_rules.specs.declared.lines.Kind.{Kind}
use Rattle.backup_rules.specs.declared.lines.Kind.TheVariants.{Full, Incr}
use Rattle.hex.specs.Hex.{encode_lower, decode_sized}
use Rattle.hex.specs.declared.error.FromHexError.{FromHexError}
use Rattle.http_query.specs.declared.keys.QueryRule.TheVariants.{Missing, Value}
use Rattle.http_query.specs.Numbers.{number_of}
use Rattle.http_query.specs.Query.{Pair, value_of}
use Rattle.receipts.specs.declared.session.Token.{Token}
use Rattle.request_events.specs.declared.refusal.RequestRefusal.TheVariants.{BadQuery, BadPath as RefusedPath}
use Rattle.request_events.specs.Said.{Said, ◌>>=◌, or_refuse}

-- the value of a key that must be there
abbrev pub text_in : List ℕ → List Pair → Said (List ℕ)
text_in key pairs = or_refuse (BadQuery Missing) (value_of key pairs)

-- the value of a key in a form
abbrev pub value_in : {A : Type 0} → (List ℕ → Option A) → List ℕ → List Pair → Said A
value_in form key pairs = text_in key pairs >>= λ text. or_refuse (BadQuery Value) (form text)

-- the value of a key in a form, or what stands for it where the key is absent
abbrev pub value_or : {A : Type 0} → (List ℕ → Option A) → A → List ℕ → List Pair → Option A
value_or form default key pairs = option_map_or form (value_of key pairs) (Some default)

abbrev pub dump_kind_of : List ℕ → Option Kind
dump_kind_of text = if bytes_eq text (codes "full") then Some Full else if bytes_eq text (codes "incr") then Some Incr else None

-- 0 or 1
abbrev pub flag_of : List ℕ → Option Bool
flag_of text = if bytes_eq text (codes "0") then Some false else if bytes_eq text (codes "1") then Some true else None

-- 0 to 255
abbrev pub bucket_of : List ℕ → Option ℕ
bucket_of text = number_of 255 text

-- the token of these bytes, if the text is their lower-case hexadecimal digits
abbrev pub lower_token : List ℕ → List ℕ → Option Token
lower_token text bytes = if bytes_eq text (encode_lower bytes) then Some (record { bytes = bytes }) else None

abbrev pub token_read : List ℕ → Result (List ℕ) FromHexError → Option Token
token_read text (Ok bytes) = lower_token text bytes
token_read text (Err fault) = None

-- the token that a text writes: 32 lower-case hexadecimal digits
unfoldable pub token_of : List ℕ → Option Token
token_of text = token_read text (decode_sized text 16)

-- None where the key is absent
abbrev pub token_in : List Pair → Said (Option Token)
token_in pairs = or_refuse (BadQuery Value) (value_or (λ text. option_map Some (token_of text)) None (codes "token") pairs)

-- 0 to 4,294,967,295
abbrev pub base_of : List ℕ → Option ℕ
base_of text = number_of (2 ^ 32 - 1) text

-- None where the key is absent
abbrev pub base_in : List Pair → Said (Option ℕ)
base_in pairs = or_refuse (BadQuery Value) (value_or (λ text. option_map Some (base_of text)) None (codes "base") pairs)

-- a text as a path, refused for the first rule of paths that it breaks
abbrev pub path_or : List ℕ → Option BadPath → Said (List ℕ)
path_or text None = Ok text
path_or text (Some rule) = Err (RefusedPath rule)

abbrev pub path_of_text : List ℕ → Said (List ℕ)
path_of_text text = path_or text (broken_path_rule text)

-- the path that the query names
abbrev pub path_in : List Pair → Said (List ℕ)
path_in pairs = text_in (codes "path") pairs >>= path_of_text

-- a path, or the root where there is none
abbrev pub place_of_text : Option (List ℕ) → Said (Option (List ℕ))
place_of_text None = Ok None
place_of_text (Some text) = path_of_text text >>= λ path. Ok (Some path)

abbrev pub place_in : List Pair → Said (Option (List ℕ))
place_in pairs = place_of_text (value_of (codes "path") pairs)
