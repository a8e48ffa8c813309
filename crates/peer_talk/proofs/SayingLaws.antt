-- The responses of this server are read as they are said.
use Rattle.std.proofs.Common.{◌≡◌, ℕ, ◌-◌, ◌<◌, ◌≤◌, ◌^◌, ◌==◌, Bool, true, false, ◌&&◌, not, nat_lt, nat_le, List, [], ◌∷◌, ◌++◌, length, Option, Some, None, Ok, Err, IfSome, if◌then◌else◌, replicate, refl, sym, ap, ◌∙◌, subst, arith, append_assoc, append-nil, length-append}
use Rattle.std.specs.Cmp.{first_so, second_so}
use Rattle.std.proofs.lemmas.Bool.{leb-true, ltb-true}
use Rattle.std.proofs.lemmas.List.{length-replicate}
use Rattle.std.proofs.lemmas.Bool.Decides.{nat_tests}
use Rattle.http_heads.specs.Responses.{ends_at_head, HasResponse}
use Rattle.http_heads.proofs.ResponseLemmas.{same-response}
use Rattle.http_wire.specs.Message.{Message, phrase, bytes_head, response_bytes}
use Rattle.http_client.specs.Plain.{is_value}
use Rattle.http_client.proofs.MessageLaws.{message-responds, bytes-respond, no_memory-responds, short-heads}
use Rattle.office_model.specs.declared.event.Event.{Event}
use Rattle.office_model.specs.declared.event.Event.TheVariants as E
use Rattle.office_model.specs.declared.answer.Answer.{Answer}
use Rattle.office_model.specs.declared.answer.Answer.TheVariants as A
use Rattle.office_model.specs.declared.refusal.Refusal.TheVariants as R
use Rattle.office_model.specs.Meaning.{Reply}
use Rattle.office_model.specs.Step.{Call}
use Rattle.restore_stream.specs.Layouts.{frame_bytes}
use Rattle.reply_bodies.specs.Objects.{object_text}
use Rattle.reply_bodies.specs.Replies.{refused, refusal_fields}
use Rattle.request_events.specs.declared.refusal.RequestRefusal.{RequestRefusal}
use Rattle.request_events.specs.declared.refusal.RequestRefusal.TheVariants as Q
use Rattle.request_events.specs.Asked.{Asked, One, InStages}
use Rattle.http_replies.specs.Messages.{request_refusal_name, request_refusal_status, refusal_status, allowed_by, refused_response, json_message, bytes_message, answer_status, answer_json, answer_message, reply_response}
use Rattle.browse_http.specs.Scripts.{answering, FileRead, file_read, response_by}
use Rattle.browse_http.specs.Talk as T
use Rattle.peer_talk.specs.Mirror.{no_memory, IsReadAs}
use Rattle.peer_talk.specs.Sayings.{message_said, reply_said, file_said, said_by, says, IsFileOf}
use Rattle.peer_talk.specs.Laws.{ResponsesAreReadable}
use Rattle.peer_talk.proofs.MirrorLaws.{response-append}
use Rattle.peer_talk.proofs.StatusLaws.{is_plain_text, is_plain_status, refusal-plain, request-plain, bytes-plain, answer-plain, allow-plain}

-- ---- messages

plain-value : (text : List ℕ) → is_plain_text text ≡ true → is_value text ≡ true
plain-value text e = first_so (is_value text) (nat_le (length text) 64) e

plain-short : (text : List ℕ) → is_plain_text text ≡ true → length text ≤ 64
plain-short text e = leb-true (length text) 64 (second_so (is_value text) (nat_le (length text) 64) e)

allow-value : (allow : Option (List ℕ)) → IfSome allow (λ methods. is_plain_text methods ≡ true) → IfSome allow (λ methods. is_value methods ≡ true)
allow-value None e = tt
allow-value (Some methods) e = plain-value methods e

allow-short : (allow : Option (List ℕ)) → IfSome allow (λ methods. is_plain_text methods ≡ true) → IfSome allow (λ methods. length methods ≤ 64)
allow-short None e = tt
allow-short (Some methods) e = plain-short methods e

not_true : (b : Bool) → not b ≡ true → b ≡ false
not_true true e = sym e
not_true false e = refl

-- a message of plain texts is read as it is said
message-read : (m : Message) → is_plain_status m.status ≡ true → is_plain_text m.content_type ≡ true
    → IfSome m.allow (λ methods. is_plain_text methods ≡ true) → length m.body < 2 ^ 64 → m.is_head ≡ false
    → IsReadAs (Some (message_said m)) (response_bytes m)
message-read m status type allow size whole =
    let few = nat_lt m.status 1000 in
    let has = not (ends_at_head m.status) in
    let front : (few && has) ≡ true = first_so (few && has) (is_plain_text (phrase m.status)) status in
    let text : is_plain_text (phrase m.status) ≡ true = second_so (few && has) (is_plain_text (phrase m.status)) status in
    let head = short-heads m (plain-short (phrase m.status) text) (plain-short m.content_type type) (allow-short m.allow allow) size in
    message-responds m (record {
      status = ltb-true m.status 1000 (first_so few has front);
      has_body = not_true (ends_at_head m.status) (second_so few has front);
      phrase = plain-value (phrase m.status) text;
      content_type = plain-value m.content_type type;
      allow = allow-value m.allow allow;
      short = omega (arith, head);
      size = size;
      whole = whole;
    })

json-read : (status : ℕ) (body : List ℕ) (allow : Option (List ℕ)) (closes : Bool) → is_plain_status status ≡ true
    → IfSome allow (λ methods. is_plain_text methods ≡ true) → length body < 2 ^ 64
    → IsReadAs (Some (record { status = status; body = body })) (response_bytes (json_message status body allow closes false))
json-read status body allow closes plain methods size = message-read (json_message status body allow closes false) plain refl methods size refl

octets-read : (body : List ℕ) (closes : Bool) → length body < 2 ^ 64
    → IsReadAs (Some (record { status = 200; body = body })) (response_bytes (bytes_message body closes false))
octets-read body closes size = message-read (bytes_message body closes false) bytes-plain refl tt size refl

-- ---- replies

answer-read : (event : Event) (answer : Answer) (closes : Bool) → length (answer_message event answer false false).body < 2 ^ 64
    → IsReadAs (Some (message_said (answer_message event answer false false))) (response_bytes (answer_message event answer closes false))
answer-read event (A.Content bytes) closes size = octets-read bytes closes size
answer-read event (A.Part bytes) closes size = octets-read bytes closes size
answer-read event (A.Next frame) closes size = octets-read (frame_bytes frame) closes size
answer-read event answer closes size =
    json-read (answer_status event answer) (answer_json event answer) None closes (answer-plain event answer) tt size

reply-read : (event : Event) (reply : Reply) (closes : Bool) → length (reply_said event reply).body < 2 ^ 64
    → IsReadAs (Some (reply_said event reply)) (reply_response event reply closes false)
unfolding reply_response
reply-read event (Ok answer) closes size = answer-read event answer closes size
reply-read event (Err R.Memory) closes size = no_memory-responds
reply-read event (Err refusal) closes size =
    json-read (refusal_status refusal) (object_text (refusal_fields refusal)) None closes (refusal-plain refusal) tt size

methods-plain : (refusal : RequestRefusal) → IfSome (allowed_by refusal) (λ methods. is_plain_text methods ≡ true)
methods-plain (Q.NoMethod route) = allow-plain route
methods-plain refusal = tt

refused-read : (refusal : RequestRefusal) (closes : Bool) → length (object_text (refused (request_refusal_name refusal))) < 2 ^ 64
    → IsReadAs (says (T.Refused refusal)) (refused_response refusal closes false)
unfolding refused_response
refused-read refusal closes size =
    json-read (request_refusal_status refusal) (object_text (refused (request_refusal_name refusal))) (allowed_by refusal) closes
    (request-plain refusal) (methods-plain refusal) size

-- ---- files

-- all bytes came
whole-read : (file : FileRead) (closes : Bool) → file.size < 2 ^ 64 → length file.bytes ≡ file.size
    → IsReadAs (Some (record { status = 200; body = file.bytes })) (bytes_head file.size closes ++ file.bytes)
whole-read file closes size all rest =
    subst (λ (t : List ℕ). HasResponse t 200 file.bytes rest)
    (ap (λ (n : ℕ). bytes_head n closes ++ (file.bytes ++ rest)) all ∙ sym (append_assoc (bytes_head file.size closes) file.bytes rest))
    (bytes-respond file.bytes closes (omega (arith, size, all)) rest)

some_behind : (xs ys : List ℕ) → 0 < length ys → xs ++ ys ≡ [] → ⊥
some_behind xs ys some e = omega (arith, some, ap length e, length-append xs ys)

-- some didn't
cut-unread : (file : FileRead) (closes : Bool) → file.size < 2 ^ 64 → length file.bytes < file.size
    → IsReadAs None (bytes_head file.size closes ++ file.bytes)
cut-unread file closes size short status body rest has =
    some_behind rest pad (omega (arith, pads, short)) (same-response ((bytes_head file.size closes ++ file.bytes) ++ pad) status 200 body (file.bytes ++ pad) (rest ++ pad) []
    (response-append (bytes_head file.size closes ++ file.bytes) pad status body rest has) padded).2
  where
    pad : List ℕ
    pad = replicate (file.size - length file.bytes) 0

    pads : length pad ≡ file.size - length file.bytes
    pads = length-replicate (file.size - length file.bytes) 0

    all : length (file.bytes ++ pad) ≡ file.size
    all = omega (arith, length-append file.bytes pad, pads, short)

    padded : HasResponse ((bytes_head file.size closes ++ file.bytes) ++ pad) 200 (file.bytes ++ pad) []
    padded =
        subst (λ (t : List ℕ). HasResponse t 200 (file.bytes ++ pad) [])
        (ap (λ (n : ℕ). bytes_head n closes ++ ((file.bytes ++ pad) ++ [])) all
        ∙ ap (λ (t : List ℕ). bytes_head file.size closes ++ t) (append-nil (file.bytes ++ pad))
        ∙ sym (append_assoc (bytes_head file.size closes) file.bytes pad))
        (bytes-respond (file.bytes ++ pad) closes (omega (arith, size, all)) [])

same_sizes : (a b : ℕ) → (a == b) ≡ true → a ≡ b
same_sizes a b e = grind (arith, nat_tests)

other_sizes : (a b : ℕ) → a ≤ b → (a == b) ≡ false → a < b
other_sizes a b few e = grind (arith, nat_tests)

-- what is said of a file is so
file-read : (outcome : T.Outcome) (file : FileRead) (closes : Bool) → IsFileOf outcome file
    → IsReadAs (file_said file) (bytes_head file.size closes ++ file.bytes)
file-read outcome file closes is = by (length file.bytes == file.size) refl
  where
    by : (all : Bool) → (length file.bytes == file.size) ≡ all
        → IsReadAs (if all then Some (record { status = 200; body = file.bytes }) else None) (bytes_head file.size closes ++ file.bytes)
    by true e = whole-read file closes is.size (same_sizes (length file.bytes) file.size e)
    by false e = cut-unread file closes is.size (other_sizes (length file.bytes) file.size is.few e)

same_test : (n : ℕ) → (n == n) ≡ true
same_test n = grind (arith, nat_tests)

none-some : {A : Type 0} (a : A) → None ≡ Some a → ⊥
none-some a e = cc

-- it is cut off only where the connection ends with it
file-cut : (outcome : T.Outcome) (file : FileRead) → IsFileOf outcome file → file_said file ≡ None → T.is_fine (T.outcome_fate outcome) ≡ false
file-cut outcome file is none = by (T.is_fine (T.outcome_fate outcome)) refl
  where
    by : (fine : Bool) → T.is_fine (T.outcome_fate outcome) ≡ fine → fine ≡ false
    by false e = refl
    by true e =
        let same : (length file.bytes == file.size) ≡ true = ap (λ (n : ℕ). n == file.size) (is.whole e) ∙ same_test file.size in
        absurd (none-some (record { status = 200; body = file.bytes })
        (sym none ∙ ap (λ (all : Bool). if all then Some (record { status = 200; body = file.bytes }) else None) same))

-- ---- calls

-- some call is answered
answers : (call : Call) (calls : List Call) → answering (call ∷ calls) ≡ None → ⊥
answers (event, Err refusal) calls none = none-some (event, Err refusal) (sym none)
answers (event, Ok answer) [] none = none-some (event, Ok answer) (sym none)
answers (event, Ok answer) (call ∷ calls) none = answers call calls none

calls-read : (outcome : T.Outcome) (file : Option FileRead) (answered : Option Call) (closes : Bool) → (answered ≡ None → ⊥)
    → IfSome (said_by file answered) (λ a. length a.body < 2 ^ 64) → IfSome file (IsFileOf outcome)
    → IsReadAs (said_by file answered) (response_by file answered closes false)
calls-read outcome (Some file) answered closes some size is = file-read outcome file closes is
calls-read outcome None (Some call) closes some size is = reply-read call.0 call.1 closes size
calls-read outcome None None closes some size is = absurd (some refl)

calls-cut : (outcome : T.Outcome) (file : Option FileRead) (answered : Option Call) → (answered ≡ None → ⊥) → IfSome file (IsFileOf outcome)
    → said_by file answered ≡ None → T.is_fine (T.outcome_fate outcome) ≡ false
calls-cut outcome (Some file) answered some is none = file-cut outcome file is none
calls-cut outcome None (Some call) some is none = absurd (none-some (reply_said call.0 call.1) (sym none))
calls-cut outcome None None some is none = absurd (some refl)

-- a request that was read makes a call
some-made : (what : Asked) (body : List ℕ) (failed : Option ℕ) (calls : List Call) → T.Makes what body failed calls → answering calls ≡ None → ⊥
some-made what body failed (call ∷ calls) makes none = answers call calls none
some-made (One (E.OpenFile host number path)) body failed [] makes none = none-some (E.OpenFile host number path) (sym makes)
some-made (One event) body failed [] makes none = none-some event (sym makes)
some-made (InStages put) body failed [] makes none = none-some (E.StageOpen put.dump) (sym makes.run)

pub responses-readable : ResponsesAreReadable
responses-readable said body (T.Refused refusal) is fits = record {
  reads = λ closes. refused-read refusal closes fits.body;
  cut = λ none. absurd (none-some _ (sym none));
}
responses-readable said body (T.Called calls) (what, has, makes) fits =
    let some = some-made what body None calls makes in
    record {
      reads = λ closes. calls-read (T.Called calls) (file_read calls) (answering calls) closes some fits.body fits.file;
      cut = λ none. calls-cut (T.Called calls) (file_read calls) (answering calls) some fits.file none;
    }
responses-readable said body (T.Stopped count calls) (what, has, makes) fits =
    let some = some-made what body (Some count) calls makes in
    record {
      reads = λ closes. calls-read (T.Stopped count calls) (file_read calls) (answering calls) closes some fits.body fits.file;
      cut = λ none. refl;
    }
responses-readable said body (T.Unsaid calls) is fits = record {
  reads = λ closes. no_memory-responds;
  cut = λ none. absurd (none-some no_memory (sym none));
}
responses-readable said body T.Lost is fits = record {
  reads = λ closes. no_memory-responds;
  cut = λ none. absurd (none-some no_memory (sym none));
}
