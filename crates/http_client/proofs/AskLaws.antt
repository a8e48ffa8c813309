-- What this client writes is a head that a server reads.
use Rattle.std.proofs.Common.{◌≡◌, ℕ, ◌<◌, ◌≤◌, ◌^◌, Bool, true, false, not, ◌&&◌, ◌||◌, nat_lt, if◌then◌else◌, List, [], ◌∷◌, ◌++◌, length, map, Option, Some, None, IfSome, unwrap_or, refl, sym, ap, subst, ◌∙◌, arith, codes, decimal, append_assoc, append-nil, ◌+◌, length-append, nat_le}
use Rattle.std.specs.Prelude.{IsUtf8}
use Rattle.std.specs.Cmp.{first_so, second_so}
use Rattle.std.specs.List.{flat_map, list_all, AllByRecursion}
use Rattle.std.specs.Str.Parse.{digits_value}
use Rattle.std.proofs.lemmas.Bool.{leb-true, ltb-true}
use Rattle.std.proofs.lemmas.Bool.Decides.{nat_tests}
use Rattle.std.proofs.lemmas.List.Sums.{AllPass-from_list_all}
use Rattle.httparse.specs.Grammar.{crlf, Field, print_field, IsField, is_uri_byte, trim_ows, RequestHead, print_request, IsRequestHead, is_token, is_token_byte, IsToken, AllPass}
use Rattle.httparse.specs.Spans.{name_and_value}
use Rattle.http_heads.specs.declared.refusal.HeadRefusal.TheVariants.{BadHead, FileTooLarge}
use Rattle.http_heads.specs.declared.version.Version.TheVariants.{Http11}
use Rattle.http_heads.specs.Fields.{is_number, body_limit, is_too_large, broken_field_rule, broken_length_rule}
use Rattle.http_heads.specs.Fronts.{head_limit, field_limit}
use Rattle.http_heads.specs.Heads.{names_bytes, head_parts}
use Rattle.http_wire.specs.Message.{field_line, length_line, line_end}
use Rattle.http_client.specs.Requests.{Ask, length_part, request_head}
use Rattle.http_client.specs.Plain.{is_target, is_value, has_fitting_body, is_plain}
use Rattle.http_client.specs.Laws.{parts_asked, RequestsAreHeads}
use Rattle.http_client.proofs.FieldLaws.{field, field-prints, is_field, are_fields, token_from, length_token, host_token, trim_decimal, is_number_decimal, value_decimal, is_value_decimal}

-- ---- the head of a request as the grammar has it

abbrev length_fields : Option (List ℕ) → List Field
length_fields None = []
length_fields (Some body) = field (codes "Content-Length") (decimal (length body)) ∷ []

abbrev ask_fields : List ℕ → Option (List ℕ) → List Field
ask_fields host body = field (codes "Host") host ∷ length_fields body

abbrev head_asked : Ask → RequestHead
head_asked ask = record {
  blank = [];
  method = ask.method;
  target = ask.target;
  minor = 1;
  line_end = crlf;
  fields = ask_fields ask.host ask.body;
  last = crlf;
}

length-prints : (body : Option (List ℕ)) → flat_map print_field (length_fields body) ≡ length_part body
unfolding length_line
length-prints None = refl
length-prints (Some body) = append-nil _ ∙ field-prints (codes "Content-Length") (decimal (length body))

request-prints : (ask : Ask) → print_request (head_asked ask) ≡ request_head ask
unfolding print_request request_head field_line
request-prints ask =
    (λ i. (((ask.method ++ (32 ∷ ask.target)) ++ codes " HTTP/1.1") ++ line_end)
    ++ ((field-prints (codes "Host") ask.host i ++ length-prints ask.body i) ++ line_end))
    ∙ simp append_assoc

length-are : (body : Option (List ℕ)) → IfSome body (λ bytes. length bytes ≤ body_limit) → AllByRecursion IsField (length_fields body)
length-are None h = tt
length-are (Some bytes) h =
    (is_field (codes "Content-Length") (decimal (length bytes)) length_token (is_value_decimal (length bytes) (omega (arith, h))), tt)

-- ---- what is plain

module _ (ask : Ask) (plain : is_plain ask ≡ true) where
  up_to_host : (is_token ask.method && is_target ask.target && is_value ask.host) ≡ true
  up_to_host = first_so (is_token ask.method && is_target ask.target && is_value ask.host) (nat_le (length (request_head ask)) head_limit)
      (first_so _ (has_fitting_body ask.body) plain)

  plain-short : length (request_head ask) ≤ head_limit
  plain-short = leb-true (length (request_head ask)) head_limit
      (second_so (is_token ask.method && is_target ask.target && is_value ask.host) (nat_le (length (request_head ask)) head_limit)
      (first_so _ (has_fitting_body ask.body) plain))

  up_to_target : (is_token ask.method && is_target ask.target) ≡ true
  up_to_target = first_so (is_token ask.method && is_target ask.target) (is_value ask.host) up_to_host

  plain-host : is_value ask.host ≡ true
  plain-host = second_so (is_token ask.method && is_target ask.target) (is_value ask.host) up_to_host

  plain-method : IsToken ask.method
  plain-method =
      let token = first_so (is_token ask.method) (is_target ask.target) up_to_target in
      token_from ask.method (ltb-true 0 (length ask.method) (first_so (nat_lt 0 (length ask.method)) (list_all is_token_byte ask.method) token))
      (second_so (nat_lt 0 (length ask.method)) (list_all is_token_byte ask.method) token)

  plain-target : (0 < length ask.target) × AllPass is_uri_byte ask.target
  plain-target =
      let target = second_so (is_token ask.method) (is_target ask.target) up_to_target in (
        ltb-true 0 (length ask.target) (first_so (nat_lt 0 (length ask.target)) (list_all is_uri_byte ask.target) target),
        AllPass-from_list_all is_uri_byte ask.target (second_so (nat_lt 0 (length ask.target)) (list_all is_uri_byte ask.target) target),
      )

  plain-size : IfSome ask.body (λ body. length body ≤ body_limit)
  plain-size = fitting ask.body (second_so _ (has_fitting_body ask.body) plain)
    where
      fitting : (body : Option (List ℕ)) → has_fitting_body body ≡ true → IfSome body (λ bytes. length bytes ≤ body_limit)
      fitting None e = tt
      fitting (Some bytes) e = leb-true (length bytes) body_limit e

request-is : (ask : Ask) → is_plain ask ≡ true → IsUtf8 ask.target → IsRequestHead (head_asked ask)
request-is ask plain text = record {
  method = plain-method ask plain;
  target = plain-target ask plain;
  target_text = text;
  minor = omega arith;
  fields = are_fields (ask_fields ask.host ask.body)
      (is_field (codes "Host") ask.host host_token (plain-host ask plain), length-are ask.body (plain-size ask plain));
}

-- how many bytes the head has
pub head_size : (ask : Ask)
    → length (request_head ask) ≡ length ask.method + length ask.target + length ask.host + length (length_part ask.body) + 22
unfolding request_head
head_size ask = omega (arith, length-append {A = ℕ})

-- ---- its parts

not_larger : (n : ℕ) → n ≤ body_limit → nat_lt body_limit n ≡ false
not_larger n h = grind (arith, nat_tests)

-- its fields break no rule
fields-sound : (host : List ℕ) (body : Option (List ℕ)) → IfSome body (λ bytes. length bytes ≤ body_limit)
    → broken_field_rule 1 (map name_and_value (ask_fields host body)) ≡ None
unfolding broken_field_rule broken_length_rule
fields-sound host None h = refl
fields-sound host (Some bytes) h =
    let fits : length bytes < 2 ^ 64 = omega (arith, h) in
    ap (λ text. if not (is_number text && true) then Some BadHead else if is_too_large text || false then Some FileTooLarge else None)
    (trim_decimal (length bytes) fits)
    ∙ ap (λ b. if not (b && true) then Some BadHead else if is_too_large (decimal (length bytes)) || false then Some FileTooLarge else None)
    (is_number_decimal (length bytes) fits)
    ∙ ap (λ n. if nat_lt body_limit n || false then Some FileTooLarge else None) (value_decimal (length bytes) fits)
    ∙ ap (λ b. if b || false then Some FileTooLarge else None) (not_larger (length bytes) h)

second_false : (a : Bool) → (a && false) ≡ false
second_false true = refl
second_false false = refl

-- what they say
fields-say : (method target host : List ℕ) (body : Option (List ℕ)) → IfSome body (λ bytes. length bytes ≤ body_limit)
    → parts_asked (record { method = method; target = target; host = host; body = body })
    ≡ head_parts (head_asked (record { method = method; target = target; host = host; body = body }))
fields-say method target host None h = refl
fields-say method target host (Some bytes) h =
    let fits : length bytes < 2 ^ 64 = omega (arith, h) in
    let value : length bytes ≡ digits_value 10 (trim_ows (32 ∷ decimal (length bytes))) =
    sym (value_decimal (length bytes) fits) ∙ ap (digits_value 10) (sym (trim_decimal (length bytes) fits)) in
    λ i. record {
      method = method;
      target = target;
      version = Http11;
      content_length = Some (value i);
      chunked = false;
      expects_continue = sym (second_false (names_bytes (Some (digits_value 10 (trim_ows (32 ∷ decimal (length bytes))))))) i;
      closes = false;
    }

few-fields : (host : List ℕ) (body : Option (List ℕ)) → length (ask_fields host body) ≤ field_limit
few-fields host None = omega arith
few-fields host (Some bytes) = omega arith

pub request-asks : RequestsAreHeads
request-asks ask plain text rest = record {
  head = head_asked ask;
  fits = record {
    reads = (
      request-is ask plain text,
      append_assoc (request_head ask) (unwrap_or ask.body []) rest
          ∙ ap (λ xs. xs ++ (unwrap_or ask.body [] ++ rest)) (sym (request-prints ask)),
    );
    short = subst (λ (xs : List ℕ). length xs ≤ head_limit) (sym (request-prints ask)) (plain-short ask plain);
    few = few-fields ask.host ask.body;
  };
  sound = fields-sound ask.host ask.body (plain-size ask plain);
  says = fields-say ask.method ask.target ask.host ask.body (plain-size ask plain);
}
