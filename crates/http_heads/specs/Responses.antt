-- What bytes say of the response that they begin with: a head within the limits that names the length of a body in decimal.
use Rattle.std.specs.Prelude.{◌≡◌, ℕ, Bool, ◌||◌, ◌==◌, nat_lt, ◌<◌, ◌≤◌, ◌⊎◌, List, [], ◌∷◌, ◌++◌, length, drop, map, Option, Some, None, if◌then◌else◌}
use Rattle.std.specs.Str.Parse.{digits_value}
use Rattle.httparse.specs.Grammar.{ResponseHead, print_response, ReadsResponse, status_code, HasNoResponse, MayBecomeResponse}
use Rattle.httparse.specs.Spans.{name_and_value}
use Rattle.http_heads.specs.declared.response.ResponseParts.{ResponseParts}
use Rattle.http_heads.specs.declared.response.ResponseFront.{ResponseFront}
use Rattle.http_heads.specs.declared.response.ResponseFront.TheVariants.{Whole, TooLong, Foreign, Unfinished}
use Rattle.http_heads.specs.Fields.{FieldList, length_texts, is_number, has_transfer_encoding, body_limit}
use Rattle.http_heads.specs.Fronts.{head_limit, field_limit, IsBlank}

-- a response of this status ends with its head, whatever its fields say (RFC 9112, section 6.3)
abbrev pub ends_at_head : ℕ → Bool
ends_at_head status = nat_lt status 200 || (status == 204) || (status == 304)

-- the one text, if it is a number
abbrev pub one_number : List (List ℕ) → Option (List ℕ)
one_number [] = None
one_number (text ∷ []) = if is_number text then Some text else None
one_number (text ∷ other ∷ texts) = None

-- the digits of the length of a response's body, if there is a body, it comes as it is, and one field names its length
abbrev pub length_text : ℕ → FieldList → Option (List ℕ)
length_text status fields = if ends_at_head status || has_transfer_encoding fields then None else one_number (length_texts fields)

abbrev pub response_fields : ResponseHead → FieldList
response_fields h = map name_and_value h.fields

-- the bytes begin with the head of a response, within the limits, that says these parts, and then comes rest
pub record HasResponseHead (bytes : List ℕ) (parts : ResponseParts) (rest : List ℕ) : Type 0 where
  pub head : ResponseHead
  pub reads : ReadsResponse bytes head rest
  pub short : length (print_response head) ≤ head_limit
  pub few : length head.fields ≤ field_limit
  pub status : parts.status ≡ status_code head
  pub text : List ℕ
  pub names : length_text (status_code head) (response_fields head) ≡ Some text
  pub size : parts.length ≡ digits_value 10 text

-- whatever follows, they begin with none
abbrev pub NeverResponds : List ℕ → Type 0
NeverResponds bytes = (more : List ℕ) (parts : ResponseParts) (rest : List ℕ) → HasResponseHead (bytes ++ more) parts rest → ⊥

-- no whole head yet, and one may come
pub record IsUnfinishedResponse (bytes : List ℕ) : Type 0 where
  pub short : length bytes < head_limit
  pub none : HasNoResponse bytes
  pub may : MayBecomeResponse bytes

-- a whole head in the first len of the bytes
pub record IsWholeResponse (bytes : List ℕ) (len : ℕ) (parts : ResponseParts) : Type 0 where
  pub within : len ≤ length bytes
  pub short : len ≤ head_limit
  pub few : parts.length ≤ body_limit
  pub whole : HasResponseHead bytes parts (drop len bytes)

-- a whole head, of a body of more bytes than these
pub record IsLongResponse (bytes : List ℕ) (most : ℕ) : Type 0 where
  pub parts : ResponseParts
  pub rest : List ℕ
  pub whole : HasResponseHead bytes parts rest
  pub many : most < parts.length

-- what is said of the bytes read so far
abbrev pub IsResponseFront : List ℕ → ResponseFront → Type 0
IsResponseFront bytes (Whole len parts) = IsWholeResponse bytes len parts
IsResponseFront bytes TooLong = IsLongResponse bytes body_limit
IsResponseFront bytes Foreign = NeverResponds bytes
IsResponseFront bytes Unfinished = IsUnfinishedResponse bytes

-- the input begins with a response, whole: its head, its body, and then comes rest
abbrev pub HasResponse : List ℕ → ℕ → List ℕ → List ℕ → Type 0
HasResponse input status body rest = HasResponseHead input (record { status = status; length = length body }) (body ++ rest)

-- the input ends inside a body
pub record EndsInBody (input : List ℕ) : Type 0 where
  pub parts : ResponseParts
  pub part : List ℕ
  pub head : HasResponseHead input parts part
  pub short : length part < parts.length

-- what a whole input comes to: the status and the body of a response, and what follows it; or why there is none
pub data ResponseOutcome : Type 0 where
  Read : ℕ → List ℕ → List ℕ → ResponseOutcome
  IsForeign IsEnded IsTruncated : ResponseOutcome

abbrev pub IsResponseRead : List ℕ → ResponseOutcome → Type 0
IsResponseRead input (Read status body rest) = HasResponse input status body rest
IsResponseRead input IsForeign = NeverResponds input
IsResponseRead input IsEnded = IsBlank input × (length input < head_limit)
IsResponseRead input IsTruncated = (IsUnfinishedResponse input × ¬ (IsBlank input)) ⊎ EndsInBody input
