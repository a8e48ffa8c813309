-- The pairs of a query, and the first rule that they break.
use Rattle.std.specs.Prelude.{ℕ, Bool, false, ◌&&◌, ◌||◌, not, List, [], ◌∷◌, map, Option, Some, None, String, string_bytes, bytes_eq, if◌then◌else◌, nat_eq}
use Rattle.std.specs.List.{list_any, starts_with}
use Rattle.std.specs.Str.Lossy.{utf8_lossy}
use Rattle.form_urlencoded.specs.Form.{decode, raw_pairs}
use Rattle.http_query.specs.declared.keys.QueryRule.{QueryRule}
use Rattle.http_query.specs.declared.keys.QueryRule.TheVariants.{Utf8, Unknown, Repeated, Missing}

-- a key and its value
abbrev pub Pair : Type 0
Pair = List ℕ × List ℕ

-- the text that a key or a value stands for: what is not UTF-8 becomes U+FFFD
abbrev pub text_of : List ℕ → List ℕ
text_of bytes = utf8_lossy (decode bytes)

abbrev pub texts_of : Pair → Pair
texts_of (key, value) = (text_of key, text_of value)

-- the decoded pairs of a query, in order
abbrev pub query_pairs : List ℕ → List Pair
query_pairs query = map texts_of (raw_pairs query)

-- the texts of a pair that the program holds
abbrev pub pair_text : {Z : Type 0} → String Z × String Z → Pair
pair_text p = (string_bytes p.0, string_bytes p.1)

-- U+FFFD
abbrev pub replacement : List ℕ
replacement = 0xEF ∷ 0xBF ∷ 0xBD ∷ []

-- U+FFFD stands in the text
abbrev pub holds_replacement : List ℕ → Bool
holds_replacement [] = false
holds_replacement (byte ∷ text) = starts_with nat_eq (byte ∷ text) replacement || holds_replacement text

abbrev pub is_bad_pair : Pair → Bool
is_bad_pair pair = holds_replacement pair.0 || holds_replacement pair.1

-- the value of the first pair with this key
abbrev pub value_of : List ℕ → List Pair → Option (List ℕ)
value_of key [] = None
value_of key (pair ∷ pairs) = if bytes_eq pair.0 key then Some pair.1 else value_of key pairs

-- a pair has this key
abbrev pub has_key : List ℕ → List Pair → Bool
has_key key pairs = list_any (λ pair. bytes_eq pair.0 key) pairs

-- two pairs have one key
abbrev pub has_repeated : List Pair → Bool
has_repeated [] = false
has_repeated (pair ∷ pairs) = has_key pair.0 pairs || has_repeated pairs

-- a key that a route takes, and whether it must be there
pub record KeyRow : Type 0 where
  pub name : List ℕ
  pub needed : Bool

-- the key is one of these
abbrev pub is_known : List KeyRow → List ℕ → Bool
is_known keys name = list_any (λ (key : KeyRow). bytes_eq key.name name) keys

-- a needed key is absent
abbrev pub is_lacking : List Pair → KeyRow → Bool
is_lacking pairs key = key.needed && not (has_key key.name pairs)

-- the first rule that the pairs break where these keys are taken
abbrev pub broken_query_rule : List KeyRow → List Pair → Option QueryRule
broken_query_rule keys pairs =
    if list_any is_bad_pair pairs then Some Utf8
    else if list_any (λ pair. not (is_known keys pair.0)) pairs then Some Unknown
    else if has_repeated pairs then Some Repeated
    else if list_any (is_lacking pairs) keys then Some Missing
    else None
