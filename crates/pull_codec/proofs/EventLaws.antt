-- A server reads each request of a pull as its event.
use Rattle.std.proofs.Common.{◌≡◌, ℕ, ◌+◌, ◌<◌, ◌≤◌, ◌^◌, Bool, true, false, ◌&&◌, nat_lt, nat_le, List, [], ◌++◌, length, Option, Some, None, Ok, IfSome, IsUtf8, bytes_eq, unwrap_or, if◌then◌else◌, refl, sym, ap, ◌∙◌, arith, codes, decimal, length-append}
use Rattle.std.specs.Cmp.{first_so, second_so}
use Rattle.std.proofs.lemmas.Bool.{ltb-true, true≢false}
use Rattle.std.proofs.lemmas.Bool.Decides.{nat_tests}
use Rattle.std.proofs.lemmas.Fmt.{IsAscii-decimal, length-decimal-le}
use Rattle.std.proofs.lemmas.Str.{IsUtf8-append, IsUtf8-from_ascii}
use Rattle.json.proofs.Printed.Utf8.{IsUtf8-are_ascii}
use Rattle.attr_records.specs.Names.{is_host_name}
use Rattle.receipts.specs.declared.session.SessionName.{SessionName}
use Rattle.receipts.specs.Session.{session_text}
use Rattle.office_model.specs.declared.event.Event.{Event}
use Rattle.office_model.specs.declared.event.Event.TheVariants as E
use Rattle.call_scripts.specs.Scripts.{one_call}
use Rattle.http_heads.specs.Fronts.{head_limit}
use Rattle.http_wire.specs.Message.{line_end, length_line, field_line}
use Rattle.http_client.specs.Requests.{length_part, request_head}
use Rattle.http_client.specs.Plain.{has_fitting_body, is_plain}
use Rattle.http_client.specs.Laws.{parts_asked}
use Rattle.request_events.specs.declared.defaults.Defaults.{Defaults}
use Rattle.request_events.specs.Asked.{One, asked}
use Rattle.event_texts.specs.Requests.{RequestTexts, backups_target, restores_path, restores_target, restore_target, next_target, request_of as texts_of}
use Rattle.event_texts.specs.Laws.{IsSession, IsInRange, IsPlainRequest}
use Rattle.event_texts.proofs.NameLemmas.{host_is_text}
use Rattle.event_texts.proofs.PlainLemmas.{requests-are-plain}
use Rattle.event_texts.proofs.ReadBack.{requests-read-back}
use Rattle.listing_back.proofs.SessionLaws.{session-utf8}
use Rattle.browse_http.specs.Scripts.{event_script}
use Rattle.browse_http.specs.Talk as T
use Rattle.peer_asks.specs.Asks.{body_for, ask_with}
use Rattle.pull_codec.specs.Codec.{is_session, is_base, may, no_texts, request_of, at}
use Rattle.pull_codec.specs.Laws.{PullsAreRequests}

-- ---- events

session-in : (name : SessionName) → is_session name ≡ true → IsSession name
session-in name e =
    let epoch = nat_lt name.epoch (2 ^ 64) in
    let sequence = nat_lt name.sequence (2 ^ 64) in
    (ltb-true name.epoch (2 ^ 64) (first_so epoch sequence e), ltb-true name.sequence (2 ^ 64) (second_so epoch sequence e))

base-in : (base : Option ℕ) → is_base base ≡ true → IfSome base (λ other. other < 2 ^ 32)
base-in None e = tt
base-in (Some number) e = ltb-true number (2 ^ 32) e

-- an event of a pull has texts, and is in its range
pub record IsPulled (event : Event) : Type 0 where
  pub texts : RequestTexts
  pub has : texts_of event ≡ Some texts
  pub range : IsInRange event

pub pulled : (event : Event) → may event ≡ true → IsPulled event
pulled (E.Backups host) e = record { texts = record { method = codes "GET"; target = backups_target host }; has = refl; range = e }
pulled (E.OpenRead host number base) e =
    let behind : (nat_lt number (2 ^ 32) && is_base base) ≡ true = second_so (is_host_name host) (nat_lt number (2 ^ 32) && is_base base) e in
    record {
      texts = record { method = codes "POST"; target = restores_target host number base };
      has = refl;
      range = (
        first_so (is_host_name host) (nat_lt number (2 ^ 32) && is_base base) e,
        ltb-true number (2 ^ 32) (first_so (nat_lt number (2 ^ 32)) (is_base base) behind),
        base-in base (second_so (nat_lt number (2 ^ 32)) (is_base base) behind),
      );
    }
pulled (E.ReadNext restore) e =
    record { texts = record { method = codes "GET"; target = next_target restore }; has = refl; range = session-in restore e }
pulled (E.CloseRead restore) e =
    record { texts = record { method = codes "DELETE"; target = restore_target restore }; has = refl; range = session-in restore e }
pulled event e = absurd (true≢false (sym e))

pub asks-read : (defaults : Defaults) (event : Event) (moment : ℕ) → may event ≡ true
    → asked (parts_asked (request_of event)) (unwrap_or (request_of event).body []) moment defaults ≡ Ok (One (at moment event))
asks-read defaults event moment e =
    let p = pulled event e in
    requests-read-back event p.texts p.has p.range (parts_asked (request_of event))
    (ap (λ (texts : Option RequestTexts). (unwrap_or texts no_texts).method) p.has)
    (ap (λ (texts : Option RequestTexts). (unwrap_or texts no_texts).target) p.has) (unwrap_or (request_of event).body []) moment defaults

pub one-script : (event : Event) (moment : ℕ) (failed : Option ℕ) → may event ≡ true
    → event_script (at moment event) failed ≡ one_call (at moment event)
one-script (E.Backups host) moment failed e = refl
one-script (E.OpenRead host number base) moment failed e = refl
one-script (E.ReadNext restore) moment failed e = refl
one-script (E.CloseRead restore) moment failed e = refl
one-script event moment failed e = absurd (true≢false (sym e))

-- ---- requests

host-text : (host : List ℕ) → is_host_name host ≡ true → IsUtf8 host
host-text host named = host_is_text host named

number-text : (n : ℕ) → n < 2 ^ 32 → IsUtf8 (decimal n)
number-text n small = IsUtf8-from_ascii (decimal n) (IsAscii-decimal n (omega (arith, small)))

path-text : (host : List ℕ) (number : ℕ) → is_host_name host ≡ true → number < 2 ^ 32 → IsUtf8 (restores_path host number)
path-text host number named small =
    IsUtf8-append (codes "/hosts/") (host ++ (codes "/backups/" ++ (decimal number ++ codes "/restores"))) (IsUtf8-are_ascii _ refl)
    (IsUtf8-append host (codes "/backups/" ++ (decimal number ++ codes "/restores")) (host-text host named)
    (IsUtf8-append (codes "/backups/") (decimal number ++ codes "/restores") (IsUtf8-are_ascii _ refl)
    (IsUtf8-append (decimal number) (codes "/restores") (number-text number small) (IsUtf8-are_ascii _ refl))))

restores-text : (host : List ℕ) (number : ℕ) (base : Option ℕ) → is_host_name host ≡ true → number < 2 ^ 32 → IfSome base (λ other. other < 2 ^ 32)
    → IsUtf8 (restores_target host number base)
restores-text host number None named small ranged = path-text host number named small
restores-text host number (Some base) named small ranged =
    IsUtf8-append (restores_path host number) (codes "?base=" ++ decimal base) (path-text host number named small)
    (IsUtf8-append (codes "?base=") (decimal base) (IsUtf8-are_ascii _ refl) (number-text base ranged))

target-text : (event : Event) → may event ≡ true → IsInRange event → IsUtf8 (request_of event).target
target-text (E.Backups host) e range =
    IsUtf8-append (codes "/hosts/") (host ++ codes "/backups") (IsUtf8-are_ascii _ refl)
    (IsUtf8-append host (codes "/backups") (host-text host range) (IsUtf8-are_ascii _ refl))
target-text (E.OpenRead host number base) e range = restores-text host number base range.0 range.1 range.2
target-text (E.ReadNext restore) e range =
    IsUtf8-append (codes "/restores/") (session_text restore ++ codes "/next") (IsUtf8-are_ascii _ refl)
    (IsUtf8-append (session_text restore) (codes "/next") (session-utf8 restore range) (IsUtf8-are_ascii _ refl))
target-text (E.CloseRead restore) e range =
    IsUtf8-append (codes "/restores/") (session_text restore) (IsUtf8-are_ascii _ refl) (session-utf8 restore range)
target-text event e range = absurd (true≢false (sym e))

no-head : (event : Event) → may event ≡ true → T.asks_head (parts_asked (request_of event)) ≡ false
no-head (E.Backups host) e = refl
no-head (E.OpenRead host number base) e = refl
no-head (E.ReadNext restore) e = refl
no-head (E.CloseRead restore) e = refl
no-head event e = absurd (true≢false (sym e))

body-fits : (get : Bool) → has_fitting_body (if get then None else Some []) ≡ true
body-fits true = refl
body-fits false = refl

few-length : (get : Bool) → length (length_part (if get then None else Some [])) ≤ 64
unfolding length_line field_line
few-length true = omega arith
few-length false =
    omega (arith, length-decimal-le 20 0 (omega arith) (omega arith) (omega arith), length-append (decimal 0) line_end)

less : (a b : ℕ) → a < b → nat_lt a b ≡ true
less a b h = grind (arith, nat_tests)

most : (a b : ℕ) → a ≤ b → nat_le a b ≡ true
most a b h = grind (arith, nat_tests)

short-head : (texts : RequestTexts) → length texts.method + length texts.target ≤ 128 → length (request_head (ask_with texts)) ≤ head_limit
unfolding request_head
short-head texts short =
    let line = length_part (body_for texts.method) in
    let front = texts.method ++ codes " " ++ texts.target ++ codes " HTTP/1.1" ++ line_end ++ codes "Host: " ++ codes "b" ++ line_end in
    omega (
      arith,
      short,
      few-length (bytes_eq texts.method (codes "GET")),
      length-append (front ++ line) (line_end),
      length-append front line,
      length-append (texts.method ++ codes " " ++ texts.target ++ codes " HTTP/1.1" ++ line_end ++ codes "Host: " ++ codes "b") (line_end),
      length-append (texts.method ++ codes " " ++ texts.target ++ codes " HTTP/1.1" ++ line_end ++ codes "Host: ") (codes "b"),
      length-append (texts.method ++ codes " " ++ texts.target ++ codes " HTTP/1.1" ++ line_end) (codes "Host: "),
      length-append (texts.method ++ codes " " ++ texts.target ++ codes " HTTP/1.1") (line_end),
      length-append (texts.method ++ codes " " ++ texts.target) (codes " HTTP/1.1"),
      length-append (texts.method ++ codes " ") texts.target,
      length-append texts.method (codes " "),
    )

plain-ask : (texts : RequestTexts) → IsPlainRequest texts → is_plain (ask_with texts) ≡ true
plain-ask texts p = λ i.
    p.method i && (less 0 (length texts.target) p.some i && p.target i) && true && most (length (request_head (ask_with texts))) head_limit (short-head texts p.short) i
    && body-fits (bytes_eq texts.method (codes "GET")) i

pub requests-are : PullsAreRequests
requests-are event e =
    let p = pulled event e in
    record {
      plain = ap (λ (texts : Option RequestTexts). is_plain (ask_with (unwrap_or texts no_texts))) p.has
          ∙ plain-ask p.texts (requests-are-plain event p.texts p.has p.range);
      text = target-text event e p.range;
      wants_body = no-head event e;
    }
