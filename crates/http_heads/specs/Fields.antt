-- What the fields of a head say. A field is a name and a value without the blanks around it; names count in any case.
use Rattle.std.specs.Prelude.{ℕ, Bool, ◌&&◌, ◌||◌, not, nat_lt, ◌==◌, List, [], ◌∷◌, length, Option, Some, None, codes, if◌then◌else◌}
use Rattle.std.specs.Char.{is_ascii_digit}
use Rattle.std.specs.List.{filter_map, list_all, list_any, slice_split}
use Rattle.std.specs.Str.{str_eq_ignore_ascii_case}
use Rattle.std.specs.Str.Parse.{digits_value}
use Rattle.httparse.specs.Ascii.{comma}
use Rattle.httparse.specs.Grammar.{trim_ows}
use Rattle.http_heads.specs.declared.refusal.HeadRefusal.{HeadRefusal}
use Rattle.http_heads.specs.declared.refusal.HeadRefusal.TheVariants.{BadHead, NoLength, FileTooLarge}

abbrev pub FieldList : Type 0
FieldList = List (List ℕ × List ℕ)

-- the values of the fields of a name, in order
abbrev pub values_of : List ℕ → FieldList → List (List ℕ)
values_of name fields = filter_map (λ field. if str_eq_ignore_ascii_case field.0 name then Some field.1 else None) fields

-- a field of the name has a value that passes the test
abbrev pub has_value : List ℕ → (List ℕ → Bool) → FieldList → Bool
has_value name test fields = list_any (λ field. str_eq_ignore_ascii_case field.0 name && test field.1) fields

-- the texts of the lengths that a head announces
abbrev pub length_texts : FieldList → List (List ℕ)
length_texts fields = values_of (codes "Content-Length") fields

-- one decimal digit or more, and nothing else
abbrev pub is_number : List ℕ → Bool
is_number text = nat_lt 0 (length text) && list_all is_ascii_digit text

-- the most bytes of a body
abbrev pub body_limit : ℕ
body_limit = 1099511627775

-- the digits write a number above it
abbrev pub is_too_large : List ℕ → Bool
is_too_large text = nat_lt body_limit (digits_value 10 text)

abbrev pub has_one_host : FieldList → Bool
has_one_host fields = length (values_of (codes "Host") fields) == 1

-- the encodings in which a body comes
abbrev pub encodings : FieldList → List (List ℕ)
encodings fields = values_of (codes "Transfer-Encoding") fields

abbrev pub has_transfer_encoding : FieldList → Bool
has_transfer_encoding fields = nat_lt 0 (length (encodings fields))

-- there is one, and it is that of chunks
abbrev pub names_chunked : FieldList → Bool
names_chunked fields =
    (length (encodings fields) == 1) && list_all (λ text. str_eq_ignore_ascii_case text (codes "chunked")) (encodings fields)

-- the first rule that these lengths break, where the body comes in chunks, in an encoding or as it is: a head names one
-- length at most, and that is a number; chunks come in version 1.1, and without a length; no body comes in another encoding;
-- none is larger than the limit
unfoldable pub broken_length_rule : ℕ → List (List ℕ) → Bool → Bool → Option HeadRefusal
broken_length_rule minor texts chunked encoded =
    if nat_lt 1 (length texts) then Some BadHead
    else if not (list_all is_number texts) then Some BadHead
    else if chunked then (if (minor == 0) || nat_lt 0 (length texts) then Some BadHead else None)
    else if encoded then Some NoLength
    else if list_any is_too_large texts then Some FileTooLarge
    else None

-- the first rule that the fields of a head of version 1.MINOR break: one of version 1.1 names one host
unfoldable pub broken_field_rule : ℕ → FieldList → Option HeadRefusal
broken_field_rule minor fields =
    if (minor == 1) && not (has_one_host fields) then Some BadHead
    else broken_length_rule minor (length_texts fields) (names_chunked fields) (has_transfer_encoding fields)

-- the number that the first text writes
abbrev pub first_number : List (List ℕ) → Option ℕ
first_number [] = None
first_number (text ∷ others) = Some (digits_value 10 text)

-- the length of the body, where the head names one
abbrev pub content_length : FieldList → Option ℕ
content_length fields = first_number (length_texts fields)

-- a token stands in a list of tokens between commas, with or without blanks around it
abbrev pub has_token : List ℕ → List ℕ → Bool
has_token token value =
    list_any (λ part. str_eq_ignore_ascii_case (trim_ows part) token) (slice_split (λ byte. byte == comma) value)

-- the client waits for `100 Continue` before it sends a body
abbrev pub has_expectation : FieldList → Bool
has_expectation fields = has_value (codes "Expect") (λ value. str_eq_ignore_ascii_case value (codes "100-continue")) fields

-- the client closes the connection after this request
abbrev pub has_close : FieldList → Bool
has_close fields = has_value (codes "Connection") (λ value. has_token (codes "close") value) fields
