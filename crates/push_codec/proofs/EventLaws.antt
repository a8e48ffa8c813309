-- A server reads each request of a push as its event.
use Rattle.std.proofs.Common.{◌≡◌, ℕ, ◌<◌, ◌≤◌, Bool, true, false, not, ◌&&◌, nat_lt, nat_le, List, [], ◌++◌, length, Option, Some, None, Ok, IfSome, unwrap_or, if◌then◌else◌, refl, sym, ap, ◌∙◌, subst, arith, codes, decimal, length-append}
use Rattle.std.proofs.lemmas.Bool.{true≢false}
use Rattle.std.proofs.lemmas.Bool.Decides.{nat_tests}
use Rattle.std.proofs.lemmas.Fmt.{length-decimal-le}
use Rattle.attr_records.specs.declared.nodes.Item.TheVariants.{File}
use Rattle.office_model.specs.Office.{piece_limit}
use Rattle.office_model.specs.declared.event.Event.{Event}
use Rattle.office_model.specs.declared.event.Event.TheVariants as E
use Rattle.office_model.specs.declared.event.PutItem.TheVariants.{Whole}
use Rattle.http_heads.specs.Fronts.{head_limit}
use Rattle.http_wire.specs.Message.{line_end, length_line, field_line}
use Rattle.http_client.specs.Requests.{length_part, request_head}
use Rattle.http_client.specs.Plain.{has_fitting_body, is_plain}
use Rattle.http_client.specs.Laws.{parts_asked, size_of as size_read}
use Rattle.request_events.specs.declared.defaults.Defaults.{Defaults}
use Rattle.request_events.specs.Asked.{Asked, One, asked}
use Rattle.peer_talk.specs.Mirror.{IsRequest}
use Rattle.push_texts.specs.Requests.{PushTexts}
use Rattle.push_texts.specs.Laws.{asked_for, size_of, IsHeadOf, IsPlainRequest}
use Rattle.push_texts.proofs.PlainLemmas.{pushes-are-plain}
use Rattle.push_texts.proofs.ReadBack.{pushes-read-back}
use Rattle.push_codec.specs.Codec.{may, no_texts, ask_with, request_of, at, is_one, may_one}
use Rattle.push_codec.specs.Laws.{RequestsAreRead, PushesAreRequests}
use Rattle.push_codec.proofs.RangeLemmas.{both, pushed}

-- ---- reading

size-same : (body : Option (List ℕ)) → size_read body ≡ size_of body
size-same None = refl
size-same (Some bytes) = refl

head-is : (texts : PushTexts) → IsHeadOf texts (parts_asked (ask_with texts))
head-is texts = record { method = refl; target = refl; length = size-same texts.body; chunked = refl }

pub requests-read : RequestsAreRead
requests-read event moment defaults e =
    let p = pushed event e in
    subst (λ (found : Option PushTexts). asked (parts_asked (ask_with (unwrap_or found no_texts))) (unwrap_or (ask_with (unwrap_or found no_texts)).body []) moment defaults
    ≡ Ok (asked_for moment event)) (sym p.has)
    (pushes-read-back event p.texts p.has p.range (parts_asked (ask_with p.texts)) (head-is p.texts) moment defaults)

-- one call is read as one event
one-asked : (event : Event) (moment : ℕ) → is_one event ≡ true → asked_for moment event ≡ One (at moment event)
one-asked (E.Put dump path (Whole (File file)) token) moment e = step (nat_lt piece_limit (length file.bytes)) _ _ e
  where
    step : (long : Bool) (x y : Asked) → not long ≡ true → (if long then x else y) ≡ y
    step true x y h = absurd (true≢false (sym h))
    step false x y h = refl
one-asked event moment e = refl

pub one-read : (defaults : Defaults) (event : Event) (moment : ℕ) → may_one event ≡ true
    → asked (parts_asked (request_of event)) (unwrap_or (request_of event).body []) moment defaults ≡ Ok (One (at moment event))
one-read defaults event moment e =
    let p = both (may event) (is_one event) e in
    requests-read event moment defaults p.0 ∙ ap (λ (a : Asked). Ok a) (one-asked event moment p.1)

-- ---- requests

few-length : (body : Option (List ℕ)) → IfSome body (λ bytes. length bytes ≤ 67108864) → length (length_part body) ≤ 64
unfolding length_line field_line
few-length None small = omega arith
few-length (Some bytes) small =
    omega (
      arith,
      length-decimal-le 20 (length bytes) (omega arith) (omega (arith, small)) (omega (arith, small)),
      length-append (decimal (length bytes)) line_end,
    )

body-fits : (body : Option (List ℕ)) → IfSome body (λ bytes. length bytes ≤ 67108864) → has_fitting_body body ≡ true
body-fits None small = refl
body-fits (Some bytes) small = within (length bytes) small
  where
    within : (n : ℕ) → n ≤ 67108864 → nat_le n 1099511627775 ≡ true
    within n h = grind (arith, nat_tests)

less : (a b : ℕ) → a < b → nat_lt a b ≡ true
less a b h = grind (arith, nat_tests)

most : (a b : ℕ) → a ≤ b → nat_le a b ≡ true
most a b h = grind (arith, nat_tests)

short-head : (texts : PushTexts) → IsPlainRequest texts → length (request_head (ask_with texts)) ≤ head_limit
unfolding request_head
short-head texts p =
    let line = length_part texts.body in
    let front = texts.method ++ codes " " ++ texts.target ++ codes " HTTP/1.1" ++ line_end ++ codes "Host: " ++ codes "b" ++ line_end in
    omega (
      arith,
      p.few,
      p.short,
      few-length texts.body p.body,
      length-append (front ++ line) (line_end),
      length-append front line,
      length-append (texts.method ++ codes " " ++ texts.target ++ codes " HTTP/1.1" ++ line_end ++ codes "Host: " ++ codes "b") (line_end),
      length-append (texts.method ++ codes " " ++ texts.target ++ codes " HTTP/1.1" ++ line_end ++ codes "Host: ") (codes "b"),
      length-append (texts.method ++ codes " " ++ texts.target ++ codes " HTTP/1.1" ++ line_end) (codes "Host: "),
      length-append (texts.method ++ codes " " ++ texts.target ++ codes " HTTP/1.1") (line_end),
      length-append (texts.method ++ codes " " ++ texts.target) (codes " HTTP/1.1"),
      length-append (texts.method ++ codes " ") texts.target,
      length-append texts.method (codes " "),
    )

plain-ask : (texts : PushTexts) → IsPlainRequest texts → is_plain (ask_with texts) ≡ true
plain-ask texts p = λ i.
    p.method i && (less 0 (length texts.target) p.some i && p.target i) && true && most (length (request_head (ask_with texts))) head_limit (short-head texts p) i
    && body-fits texts.body p.body i

request-is : (texts : PushTexts) → IsPlainRequest texts → IsRequest (ask_with texts)
request-is texts p = record { plain = plain-ask texts p; text = p.text; wants_body = p.no_head }

pub requests-are : PushesAreRequests
requests-are event e =
    let p = pushed event e in
    subst (λ (found : Option PushTexts). IsRequest (ask_with (unwrap_or found no_texts))) (sym p.has)
    (request-is p.texts (pushes-are-plain event p.texts p.has p.range))
