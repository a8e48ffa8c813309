-- Sets of tokens.
--     Tokens      those of a set, each once, in order
--     token_cmp      the order
--     has, count      whether a token is there, and how many there are
--     no_tokens, with_token, without_token      the empty set, one more, one less
--     IsSetOf      the set of the tokens of a list
use Rattle.std.specs.Prelude.{◌≡◌, ℕ, Bool, List, [], length}
use Rattle.std.specs.List.{list_any}
use Rattle.std.specs.declared.cmp.Ordering.{Ordering}
use Rattle.std.specs.Ordering.{nat_cmp}
use Rattle.std.specs.Cmp.Lexicographic.{slice_cmp}
use Rattle.std.specs.BTreeMap.{is_at}
use Rattle.std.specs.BTreeSet.{insert_key}
use Rattle.std.specs.Set.{remove_key}
use Rattle.receipts.specs.declared.session.Token.{Token}
use Rattle.receipts.specs.Session.{is_same_token}

abbrev pub Tokens : Type 0
Tokens = List Token

-- as their bytes stand
abbrev pub token_cmp : Token → Token → Ordering
token_cmp a b = slice_cmp nat_cmp a.bytes b.bytes

abbrev pub has : Tokens → Token → Bool
has tokens token = list_any (is_at (token_cmp token)) tokens

abbrev pub count : Tokens → ℕ
count tokens = length tokens

abbrev pub no_tokens : Tokens
no_tokens = []

-- one more, at its place
abbrev pub with_token : Tokens → Token → Tokens
with_token tokens token = insert_key token_cmp tokens token

-- one less
abbrev pub without_token : Tokens → Token → Tokens
without_token tokens token = remove_key (is_at (token_cmp token)) tokens

-- those of a list, in whatever order
pub record IsSetOf (list : List Token) (tokens : Tokens) : Type 0 where
  pub has : (token : Token) → has tokens token ≡ list_any (λ kept. is_same_token kept token) list
  pub count : count tokens ≡ length list
