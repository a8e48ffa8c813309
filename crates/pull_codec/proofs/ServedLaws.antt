-- With a codec by relations, the calls that a client heard are its server's.
use Rattle.std.proofs.Common.{◌≡◌, ℕ, ◌<◌, ◌^◌, Bool, true, List, [], ◌∷◌, ◌++◌, length, Option, Some, None, Ok, Err, IfSome, refl, sym, ap, ◌∙◌, subst, arith}
use Rattle.http_client.specs.Requests.{Ask}
use Rattle.office_model.specs.declared.event.Event.{Event}
use Rattle.office_model.specs.declared.event.Event.TheVariants as E
use Rattle.office_model.specs.declared.answer.Answer.TheVariants as A
use Rattle.office_model.specs.Meaning.{Reply}
use Rattle.office_model.specs.Step.{Call}
use Rattle.call_scripts.specs.Scripts.{one_call}
use Rattle.request_events.specs.declared.defaults.Defaults.{Defaults}
use Rattle.request_events.specs.declared.refusal.RequestRefusal.{RequestRefusal}
use Rattle.request_events.specs.Said.{Said}
use Rattle.request_events.specs.Asked.{Asked, One, asked}
use Rattle.browse_http.specs.Scripts.{IsRunOf, event_script, answering, FileRead, file_read}
use Rattle.browse_http.specs.declared.end.End.{End}
use Rattle.browse_http.specs.Talk as T
use Rattle.peer_talk.specs.Mirror.{Response, no_memory, AreReadable, AreRequests, written_for, AreResponses, IsTalkBetween, IsAsked, AreAsked, AreAnswered}
use Rattle.peer_talk.specs.Sayings.{reply_said, said_by, says, IsFileOf, IsFitting}
use Rattle.peer_talk.proofs.SayingLaws.{responses-readable}
use Rattle.peer_talk.proofs.MirrorLaws.{talk-asked, talk-mirrored}
use Rattle.peer_calls.specs.Calls.{Heard, requests_of, responses_of, AreServed}
use Rattle.pull_codec.specs.Relations.{IsCodec, AreHeard, AreInRange}

none-some : {A : Type 0} (a : A) → None ≡ Some a → ⊥
none-some a e = cc

pub same-some : {A : Type 0} (a b : A) → Some a ≡ Some b → a ≡ b
same-some a b e = cc

same-ok : (said : Said Asked) (a b : Asked) → said ≡ Ok a → said ≡ Ok b → a ≡ b
same-ok said a b e f = cc

pub not-refused : (said : Said Asked) (a : Asked) (refusal : RequestRefusal) → said ≡ Ok a → said ≡ Err refusal → ⊥
not-refused said a refusal e f = cc

-- ---- one call

-- the calls of the script of one event
one-run : (event : Event) (calls : List Call) → IsRunOf (one_call event) calls → (reply : Reply) × (calls ≡ (event, reply) ∷ [])
one-run event [] run = absurd (none-some event (sym run))
one-run event (call ∷ []) run =
    let same : event ≡ call.0 = same-some event call.0 run.0 in
    (call.1, λ i. (sym same i, call.1) ∷ [])
one-run event (call ∷ next ∷ calls) run = absurd (none-some next.0 run.1.0)

-- one call is no file in parts
one-file : (event : Event) (reply : Reply) → file_read ((event, reply) ∷ []) ≡ None
one-file (E.OpenFile host number path) (Ok (A.Opened reader size)) = refl
one-file event reply = refl

one-answering : (event : Event) (reply : Reply) → answering ((event, reply) ∷ []) ≡ Some (event, reply)
one-answering event (Ok answer) = refl
one-answering event (Err refusal) = refl

-- what is said of one call
pub one-said : (event : Event) (reply : Reply) → says (T.Called ((event, reply) ∷ [])) ≡ Some (reply_said event reply)
one-said event reply = λ i. said_by (one-file event reply i) (one-answering event reply i)

-- a body of so few bytes is that of what is said of the call, and there is no file
one-fits : (outcome : T.Outcome) (event : Event) (reply : Reply) → T.calls_in outcome ≡ (event, reply) ∷ []
    → says outcome ≡ says (T.Called (T.calls_in outcome)) → length (reply_said event reply).body < 2 ^ 64 → IsFitting outcome
one-fits outcome event reply calls_are same few = record {
  body = subst (λ (said : Option Response). IfSome said (λ a. length a.body < 2 ^ 64))
      (sym (same ∙ ap (λ (calls : List Call). says (T.Called calls)) calls_are ∙ one-said event reply)) few;
  file = subst (λ (file : Option FileRead). IfSome file (IsFileOf outcome)) (sym (ap file_read calls_are ∙ one-file event reply)) tt;
}

no-memory-fits : (outcome : T.Outcome) → file_read (T.calls_in outcome) ≡ None → says outcome ≡ Some no_memory → IsFitting outcome
no-memory-fits outcome none same = record {
  body = subst (λ (said : Option Response). IfSome said (λ a. length a.body < 2 ^ 64)) (sym same) (omega arith);
  file = subst (λ (file : Option FileRead). IfSome file (IsFileOf outcome)) (sym none) tt;
}

-- ---- all

module _ (may : Event → Bool) (InRange : Event → Reply → Type 0) (request_of : Event → Ask) (Says : Event → Response → Reply → Type 0)
    (at : ℕ → Event → Event) (defaults : Defaults) (codec : IsCodec may InRange request_of Says at defaults) where
  -- the replies to the one call are in their ranges
  abbrev pub IsWithin : List Call → Type 0
  IsWithin calls = (event : Event) (reply : Reply) → calls ≡ (event, reply) ∷ [] → InRange event reply

  -- what the server read is the event
  pub asked-is : (event : Event) (x : T.Exchange) → may event ≡ true → IsAsked (request_of event) x
      → asked x.parts x.body x.moment defaults ≡ Ok (One (at x.moment event))
  asked-is event x fits a = (λ i. asked (a.parts i) (a.body i) x.moment defaults) ∙ codec.asks event x.moment fits

  -- what it called is this one call
  pub one-made : (event : Event) (moment : ℕ) (said : Said Asked) (what : Asked) (body : List ℕ) (failed : Option ℕ) (calls : List Call)
      → may event ≡ true → said ≡ Ok (One (at moment event)) → said ≡ Ok what → T.Makes what body failed calls
      → (reply : Reply) × (calls ≡ (at moment event, reply) ∷ [])
  one-made event moment said what body failed calls fits is has makes =
      let run : IsRunOf (event_script (at moment event) failed) calls =
      subst (λ (w : Asked). T.Makes w body failed calls) (same-ok said what (One (at moment event)) has is) makes in
      one-run (at moment event) calls (subst (λ s. IsRunOf s calls) (codec.single event moment failed fits) run)

  call-fits : (outcome : T.Outcome) (event : Event) (moment : ℕ) → may event ≡ true → IsWithin (T.calls_in outcome)
      → (reply : Reply) × (T.calls_in outcome ≡ (at moment event, reply) ∷ []) → says outcome ≡ says (T.Called (T.calls_in outcome))
      → IsFitting outcome
  call-fits outcome event moment fits within (reply, calls_are) same =
      one-fits outcome (at moment event) reply calls_are same
      (codec.fits event moment reply fits (within (at moment event) reply calls_are))

  -- the response to what came of the request is read as it is said
  pub outcome-fits : (event : Event) (moment : ℕ) (said : Said Asked) (body : List ℕ) (outcome : T.Outcome) → may event ≡ true
      → IsWithin (T.calls_in outcome) → said ≡ Ok (One (at moment event)) → T.IsOutcome said body outcome → IsFitting outcome
  outcome-fits event moment said body (T.Refused refusal) fits within is o =
      absurd (not-refused said (One (at moment event)) refusal is o)
  outcome-fits event moment said body (T.Called calls) fits within is (what, has, makes) =
      call-fits (T.Called calls) event moment fits within (one-made event moment said what body None calls fits is has makes) refl
  outcome-fits event moment said body (T.Stopped count calls) fits within is (what, has, makes) =
      call-fits (T.Stopped count calls) event moment fits within (one-made event moment said what body (Some count) calls fits is has makes) refl
  outcome-fits event moment said body (T.Unsaid calls) fits within is (what, has, makes, once) =
      let one = one-made event moment said what body None calls fits is has makes in
      no-memory-fits (T.Unsaid calls) (ap file_read one.1 ∙ one-file (at moment event) one.0) refl
  outcome-fits event moment said body T.Lost fits within is o = no-memory-fits T.Lost refl refl

  readable : (heard : List Heard) (later : List Ask) (xs : List T.Exchange) → AreHeard may Says heard → T.AreExchanges defaults xs
      → AreInRange InRange xs → AreAsked (requests_of request_of heard ++ later) xs → AreReadable says xs (responses_of heard)
  readable [] later xs said are within asks = tt
  readable (h ∷ hs) later [] said are within asks = tt
  readable (h ∷ hs) later (x ∷ xs) said are within asks =
      let is = asked-is h.event x said.0.0 asks.0 in (
        responses-readable (asked x.parts x.body x.moment defaults) x.body x.outcome are.0.outcome
            (outcome-fits h.event x.moment (asked x.parts x.body x.moment defaults) x.body x.outcome said.0.0 within.0 is are.0.outcome),
        readable hs later xs said.1 are.1 within.1 asks.1,
      )

  -- the reply that was heard is the reply to the call
  heard-is : (h : Heard) (moment : ℕ) (calls : List Call) → may h.event ≡ true → Says h.event h.response h.reply → IsWithin calls
      → (reply : Reply) × (calls ≡ (at moment h.event, reply) ∷ []) → says (T.Called calls) ≡ Some h.response
      → calls ≡ (at moment h.event, h.reply) ∷ []
  heard-is h moment calls fits heard within (reply, calls_are) is =
      let response : h.response ≡ reply_said (at moment h.event) reply =
      same-some h.response (reply_said (at moment h.event) reply)
      (sym is ∙ ap (λ (cs : List Call). says (T.Called cs)) calls_are ∙ one-said (at moment h.event) reply) in
      let same : h.reply ≡ reply =
      codec.reads h.event moment reply h.reply fits (within (at moment h.event) reply calls_are)
      (subst (λ (a : Response). Says h.event a h.reply) response heard) in
      calls_are ∙ ap (λ (r : Reply). (at moment h.event, r) ∷ []) (sym same)

  -- want of memory says no reply
  not-silent : (h : Heard) → Says h.event h.response h.reply → Some no_memory ≡ Some h.response → ⊥
  not-silent h heard none =
      codec.silent h.event h.reply
      (subst (λ (a : Response). Says h.event a h.reply) (sym (same-some no_memory h.response none)) heard)

  served-one : (h : Heard) (moment : ℕ) (said : Said Asked) (body : List ℕ) (outcome : T.Outcome) → may h.event ≡ true
      → Says h.event h.response h.reply → IsWithin (T.calls_in outcome) → said ≡ Ok (One (at moment h.event)) → T.IsOutcome said body outcome
      → says outcome ≡ Some h.response → T.calls_in outcome ≡ (at moment h.event, h.reply) ∷ []
  served-one h moment said body (T.Refused refusal) fits heard within is o answers =
      absurd (not-refused said (One (at moment h.event)) refusal is o)
  served-one h moment said body (T.Called calls) fits heard within is (what, has, makes) answers =
      heard-is h moment calls fits heard within (one-made h.event moment said what body None calls fits is has makes) answers
  served-one h moment said body (T.Stopped count calls) fits heard within is (what, has, makes) answers =
      heard-is h moment calls fits heard within (one-made h.event moment said what body (Some count) calls fits is has makes) answers
  served-one h moment said body (T.Unsaid calls) fits heard within is o answers = absurd (not-silent h heard answers)
  served-one h moment said body T.Lost fits heard within is o answers = absurd (not-silent h heard answers)

  pub answered-served : (heard : List Heard) (later : List Ask) (xs : List T.Exchange) → AreHeard may Says heard → T.AreExchanges defaults xs
      → AreInRange InRange xs → AreAnswered says (requests_of request_of heard ++ later) xs (responses_of heard) → AreServed at heard xs
  answered-served [] later xs said are within answered = tt
  answered-served (h ∷ hs) later [] said are within answered = not-silent h said.0.1 (ap (λ (r : Response). Some r) (sym answered.0))
  answered-served (h ∷ hs) later (x ∷ xs) said are within answered = (
    served-one h x.moment (asked x.parts x.body x.moment defaults) x.body x.outcome said.0.0 said.0.1 within.0
        (asked-is h.event x said.0.0 answered.0.asked) are.0.outcome answered.0.says,
    answered-served hs later xs said.1 are.1 within.1 answered.1,
  )

  -- of what a client wrote and read, and a server's talk of it
  pub codec-served : (heard : List Heard) (later : List Ask) (xs : List T.Exchange) (made : List Call) (end : End) (read rest : List ℕ)
      → AreHeard may Says heard → AreRequests (requests_of request_of heard ++ later) → T.AreExchanges defaults xs → AreInRange InRange xs
      → IsTalkBetween (written_for (requests_of request_of heard ++ later)) read xs made end
      → AreResponses read (responses_of heard) rest → AreServed at heard xs
  codec-served heard later xs made end read rest said plain are within between parsed =
      let asks = requests_of request_of heard ++ later in
      let first : AreAsked asks xs = talk-asked defaults asks xs made end read plain are between in
      let fine = readable heard later xs said are within first in
      answered-served heard later xs said are within
      (talk-mirrored says defaults asks xs made end read (responses_of heard) rest plain are fine between parsed)
