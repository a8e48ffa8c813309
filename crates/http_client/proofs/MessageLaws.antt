-- What a server writes is a response.
use Rattle.std.proofs.Common.{◌≡◌, ℕ, ◌+◌, ◌*◌, ◌/◌, ◌%◌, ◌<◌, ◌≤◌, ◌^◌, Bool, true, false, ◌&&◌, ◌||◌, if◌then◌else◌, List, [], ◌∷◌, ◌++◌, length, map, Option, Some, None, IfSome, refl, sym, ap, subst, ◌∙◌, arith, codes, decimal, append_assoc, append-nil, length-append}
use Rattle.std.specs.Char.{digit_value, is_ascii_digit}
use Rattle.std.specs.List.{flat_map, list_all, AllByRecursion}
use Rattle.std.specs.Str.Parse.{digits_value}
use Rattle.std.proofs.lemmas.Bool.Decides.{nat_tests}
use Rattle.std.proofs.lemmas.Fmt.{length-decimal-le}
use Rattle.std.proofs.lemmas.List.Sums.{AllPass-from_list_all}
use Rattle.http.specs.StatusCode.{code_digits}
use Rattle.httparse.specs.Grammar.{crlf, Field, print_field, IsField, is_value_byte, print_section, ResponseHead, print_response, IsResponseHead, status_code}
use Rattle.httparse.specs.Spans.{name_and_value}
use Rattle.httparse.proofs.OnLiterals.{httparse_on_literals}
use Rattle.http_heads.specs.Fields.{length_texts, has_transfer_encoding}
use Rattle.http_heads.specs.Fronts.{head_limit}
use Rattle.http_heads.specs.Responses.{ends_at_head, one_number, length_text, response_fields, HasResponseHead}
use Rattle.http_wire.specs.Message.{Message, phrase, status_line, field_line, length_line, allow_line, close_line, bytes_head, response_head, response_bytes, line_end}
use Rattle.http_client.specs.Plain.{is_value, IsPlainMessage}
use Rattle.http_client.specs.Laws.{MessagesAreResponses, BytesAreResponses, NoMemoryIsAResponse, ShortTextsMakeShortHeads}
use Rattle.http_client.proofs.FieldLaws.{field, field-prints, is_field, are_fields, type_token, length_token, allow_token, connection_token, trim_decimal, is_number_decimal, value_decimal, is_value_decimal}

-- ---- the head of a message as the grammar has it

-- the fields behind the length
abbrev last_fields : Option (List ℕ) → Bool → List Field
last_fields None false = []
last_fields None true = field (codes "Connection") (codes "close") ∷ []
last_fields (Some methods) false = field (codes "Allow") methods ∷ []
last_fields (Some methods) true = field (codes "Allow") methods ∷ field (codes "Connection") (codes "close") ∷ []

abbrev all_fields : Message → List Field
all_fields m =
    field (codes "Content-Type") m.content_type ∷ field (codes "Content-Length") (decimal (length m.body)) ∷ last_fields m.allow m.closes

abbrev head_of : Message → ResponseHead
head_of m = record {
  blank = [];
  minor = 1;
  digits = code_digits m.status;
  reason = Some (phrase m.status);
  line_end = crlf;
  fields = all_fields m;
  last = crlf;
}

last-prints : (allow : Option (List ℕ)) (closes : Bool) → flat_map print_field (last_fields allow closes) ≡ allow_line allow ++ close_line closes
unfolding allow_line close_line
last-prints None false = refl
last-prints None true = append-nil _ ∙ field-prints (codes "Connection") (codes "close")
last-prints (Some methods) false = ap (λ xs. xs ++ []) (field-prints (codes "Allow") methods)
last-prints (Some methods) true =
    (λ i. field-prints (codes "Allow") methods i ++ (append-nil (field-prints (codes "Connection") (codes "close") i) i))

section-prints : (m : Message) → print_section (all_fields m) crlf
    ≡ field_line (codes "Content-Type") m.content_type ++ (length_line (length m.body) ++ (allow_line m.allow ++ (close_line m.closes ++ line_end)))
unfolding length_line
section-prints m =
    (λ i. (field-prints (codes "Content-Type") m.content_type i
    ++ (field-prints (codes "Content-Length") (decimal (length m.body)) i ++ last-prints m.allow m.closes i)) ++ line_end)
    ∙ simp append_assoc

message-prints : (m : Message) → print_response (head_of m) ≡ response_head m
unfolding print_response response_head status_line
message-prints m =
    ap (λ xs. ((((codes "HTTP/1.1 " ++ code_digits m.status) ++ (32 ∷ phrase m.status)) ++ line_end) ++ xs)) (section-prints m)
    ∙ simp append_assoc

-- ---- its parts

digit_test : (k : ℕ) → k < 10 → is_ascii_digit (48 + k) ≡ true
digit_test k h = grind (arith, nat_tests)

digit_is : (k : ℕ) → k < 10 → digit_value (48 + k) ≡ k
digit_is k h = grind (arith, nat_tests)

both_true : (a b : Bool) → a ≡ true → b ≡ true → (a && b) ≡ true
both_true a b e f = λ i. e i && f i

code-digits : (n : ℕ) → n < 1000 → list_all is_ascii_digit (code_digits n) ≡ true
code-digits n small =
    both_true _ _ (digit_test (n / 100) (omega arith))
    (both_true _ _ (digit_test (n / 10 % 10) (omega arith)) (both_true _ _ (digit_test (n % 10) (omega arith)) refl))

code-value : (n : ℕ) → n < 1000 → digits_value 10 (code_digits n) ≡ n
code-value n small =
    (λ i. ((0 * 10 + digit_is (n / 100) (omega arith) i) * 10 + digit_is (n / 10 % 10) (omega arith) i) * 10 + digit_is (n % 10) (omega arith) i)
    ∙ omega arith

last-few : (allow : Option (List ℕ)) (closes : Bool) → length (last_fields allow closes) ≤ 2
last-few None false = omega arith
last-few None true = omega arith
last-few (Some methods) false = omega arith
last-few (Some methods) true = omega arith

last-are : (allow : Option (List ℕ)) (closes : Bool) → IfSome allow (λ methods. is_value methods ≡ true)
    → AllByRecursion IsField (last_fields allow closes)
last-are None false h = tt
last-are None true h = (is_field (codes "Connection") (codes "close") connection_token refl, tt)
last-are (Some methods) false h = (is_field (codes "Allow") methods allow_token h, tt)
last-are (Some methods) true h =
    (is_field (codes "Allow") methods allow_token h, (is_field (codes "Connection") (codes "close") connection_token refl, tt))

last-texts : (allow : Option (List ℕ)) (closes : Bool) → length_texts (map name_and_value (last_fields allow closes)) ≡ []
last-texts None false = refl
last-texts None true = refl
last-texts (Some methods) false = refl
last-texts (Some methods) true = refl

message-texts : (m : Message) → length m.body < 2 ^ 64 → length_texts (response_fields (head_of m)) ≡ decimal (length m.body) ∷ []
message-texts m size = λ i. trim_decimal (length m.body) size i ∷ last-texts m.allow m.closes i

-- its body comes as it is
plain-coding : (content_type length : List ℕ) (allow : Option (List ℕ)) (closes : Bool)
    → has_transfer_encoding (map name_and_value
    (field (codes "Content-Type") content_type ∷ field (codes "Content-Length") length ∷ last_fields allow closes)) ≡ false
plain-coding content_type length None false = refl
plain-coding content_type length None true = refl
plain-coding content_type length (Some methods) false = refl
plain-coding content_type length (Some methods) true = refl

one-decimal : (n : ℕ) → n < 2 ^ 64 → one_number (decimal n ∷ []) ≡ Some (decimal n)
one-decimal n fits = ap (λ b. if b then Some (decimal n) else None) (is_number_decimal n fits)

message-names : (m : Message) → IsPlainMessage m
    → length_text (status_code (head_of m)) (response_fields (head_of m)) ≡ Some (decimal (length m.body))
message-names m plain =
    (λ i. if ends_at_head (code-value m.status plain.status i) || plain-coding m.content_type (decimal (length m.body)) m.allow m.closes i
    then None else one_number (message-texts m plain.size i))
    ∙ ap (λ b. if b || false then None else one_number (decimal (length m.body) ∷ [])) plain.has_body
    ∙ one-decimal (length m.body) plain.size

message-is : (m : Message) → IsPlainMessage m → IsResponseHead (head_of m)
message-is m plain = record {
  minor = omega arith;
  digits = (refl, AllPass-from_list_all is_ascii_digit (code_digits m.status) (code-digits m.status plain.status));
  reason = AllPass-from_list_all is_value_byte (phrase m.status) plain.phrase;
  fields = are_fields (all_fields m) (
    is_field (codes "Content-Type") m.content_type type_token plain.content_type,
    (
      is_field (codes "Content-Length") (decimal (length m.body)) length_token (is_value_decimal (length m.body) plain.size),
      last-are m.allow m.closes plain.allow,
    ),
  );
}

bytes-are : (m : Message) → m.is_head ≡ false → (rest : List ℕ) → response_bytes m ++ rest ≡ print_response (head_of m) ++ (m.body ++ rest)
bytes-are m whole rest =
    ap (λ b. (response_head m ++ (if b then [] else m.body)) ++ rest) whole
    ∙ append_assoc (response_head m) m.body rest
    ∙ ap (λ xs. xs ++ (m.body ++ rest)) (sym (message-prints m))

pub message-responds : MessagesAreResponses
message-responds m plain rest = record {
  head = head_of m;
  reads = (message-is m plain, bytes-are m plain.whole rest);
  short = subst (λ (xs : List ℕ). length xs ≤ head_limit) (sym (message-prints m)) plain.short;
  few = omega (arith, last-few m.allow m.closes);
  status = sym (code-value m.status plain.status);
  text = decimal (length m.body);
  names = message-names m plain;
  size = sym (value_decimal (length m.body) plain.size);
}

-- ---- short heads

field-length : (name value : List ℕ) → length (field_line name value) ≡ length name + length value + 4
unfolding field_line
field-length name value = omega (arith, length-append {A = ℕ})

allow-length : (allow : Option (List ℕ)) → IfSome allow (λ methods. length methods ≤ 64) → length (allow_line allow) ≤ 80
unfolding allow_line
allow-length None h = omega arith
allow-length (Some methods) h = omega (arith, h, field-length (codes "Allow") methods)

close-length : (closes : Bool) → length (close_line closes) ≤ 32
unfolding close_line
close-length true = omega (arith, field-length (codes "Connection") (codes "close"))
close-length false = omega arith

status-length : (status : ℕ) → length (phrase status) ≤ 64 → length (status_line status) ≤ 96
unfolding status_line
status-length status h = omega (arith, h, length-append (phrase status) line_end)

size-length : (size : ℕ) → size < 2 ^ 64 → length (length_line size) ≤ 64
unfolding length_line
size-length size h =
    omega (arith, field-length (codes "Content-Length") (decimal size), length-decimal-le 20 size (omega arith) (omega (arith, h)) h)

pub short-heads : ShortTextsMakeShortHeads
unfolding response_head
short-heads m texts type allow size =
    omega (
      arith,
      status-length m.status texts,
      field-length (codes "Content-Type") m.content_type,
      type,
      size-length (length m.body) size,
      allow-length m.allow allow,
      close-length m.closes,
      length-append {A = ℕ},
    )

-- ---- the head of bytes

-- the message that it begins
abbrev bytes_message : List ℕ → Bool → Message
bytes_message body closes =
    record { status = 200; content_type = codes "application/octet-stream"; body = body; allow = None; closes = closes; is_head = false }

bytes-head : (body : List ℕ) (closes : Bool) → response_head (bytes_message body closes) ≡ bytes_head (length body) closes
unfolding response_head bytes_head allow_line
bytes-head body closes = simp append-nil

ok-short : length (phrase 200) ≤ 64
unfolding phrase
ok-short = omega arith

bytes-short : (body : List ℕ) (closes : Bool) → length body < 2 ^ 64 → length (response_head (bytes_message body closes)) ≤ head_limit
bytes-short body closes size =
    omega (arith, short-heads (bytes_message body closes) ok-short (omega arith) tt size)

ok-phrase : is_value (phrase 200) ≡ true
unfolding phrase
ok-phrase = refl

pub bytes-respond : BytesAreResponses
bytes-respond body closes size rest =
    subst (λ (xs : List ℕ). HasResponseHead xs (record { status = 200; length = length body }) (body ++ rest))
    (append_assoc (response_head (bytes_message body closes)) body rest ∙ ap (λ xs. xs ++ (body ++ rest)) (bytes-head body closes))
    (message-responds (bytes_message body closes) plain rest)
  where
    plain : IsPlainMessage (bytes_message body closes)
    plain = record {
      status = omega arith;
      has_body = refl;
      phrase = ok-phrase;
      content_type = refl;
      allow = tt;
      short = bytes-short body closes size;
      size = size;
      whole = refl;
    }

-- ---- the response to want of memory

pub no_memory-responds : NoMemoryIsAResponse
unfolding httparse_on_literals
no_memory-responds rest = record {
  head = record {
    blank = [];
    minor = 1;
    digits = codes "507";
    reason = Some (codes "Insufficient Storage");
    line_end = crlf;
    fields = field (codes "Content-Length") (codes "0") ∷ field (codes "Connection") (codes "close") ∷ [];
    last = crlf;
  };
  reads = (
    record {
      minor = omega arith;
      digits = (refl, AllPass-from_list_all is_ascii_digit (codes "507") refl);
      reason = AllPass-from_list_all is_value_byte (codes "Insufficient Storage") refl;
      fields = are_fields (field (codes "Content-Length") (codes "0") ∷ field (codes "Connection") (codes "close") ∷ [])
          (is_field (codes "Content-Length") (codes "0") length_token refl, (is_field (codes "Connection") (codes "close") connection_token refl, tt));
    },
    refl,
  );
  short = omega arith;
  few = omega arith;
  status = refl;
  text = codes "0";
  names = refl;
  size = refl;
}
