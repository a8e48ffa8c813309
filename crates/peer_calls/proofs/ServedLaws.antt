-- The calls that a client heard are those that its server made.
use Rattle.std.proofs.Common.{◌≡◌, ℕ, Bool, true, false, List, [], ◌∷◌, ◌++◌, Option, Some, None, Ok, Err, refl, sym, ap, ◌∙◌, subst}
use Rattle.http_client.specs.Requests.{Ask}
use Rattle.http_client.proofs.MessageLaws.{no_memory-responds}
use Rattle.office_model.specs.declared.event.Event.{Event}
use Rattle.office_model.specs.Meaning.{Reply}
use Rattle.office_model.specs.Step.{Call}
use Rattle.call_scripts.specs.Scripts.{one_call}
use Rattle.request_events.specs.declared.defaults.Defaults.{Defaults}
use Rattle.request_events.specs.declared.refusal.RequestRefusal.{RequestRefusal}
use Rattle.request_events.specs.Said.{Said}
use Rattle.request_events.specs.Asked.{Asked, One, asked}
use Rattle.browse_http.specs.Scripts.{IsRunOf, event_script}
use Rattle.browse_http.specs.Talk as T
use Rattle.peer_talk.specs.Mirror.{Response, no_memory, Saying, IsReadAs, IsReadable, AreReadable, IsAsked, AreAsked, AreAnswered}
use Rattle.peer_talk.proofs.MirrorLaws.{talk-asked, talk-mirrored}
use Rattle.peer_calls.specs.Calls.{Heard, requests_of, responses_of, AreSaid, IsFaithful, IsLegible, AreRanged, AreServed}
use Rattle.peer_calls.specs.Laws.{CallsAreServed, TalksAreServed}

none-some : {A : Type 0} (a : A) → None ≡ Some a → ⊥
none-some a e = cc

same-some : {A : Type 0} (a b : A) → Some a ≡ Some b → a ≡ b
same-some a b e = cc

same-ok : (said : Said Asked) (a b : Asked) → said ≡ Ok a → said ≡ Ok b → a ≡ b
same-ok said a b e f = cc

not-refused : (said : Said Asked) (a : Asked) (refusal : RequestRefusal) → said ≡ Ok a → said ≡ Err refusal → ⊥
not-refused said a refusal e f = cc

-- the calls of the script of one event
one-run : (event : Event) (calls : List Call) → IsRunOf (one_call event) calls → (reply : Reply) × (calls ≡ (event, reply) ∷ [])
one-run event [] run = absurd (none-some event (sym run))
one-run event (call ∷ []) run =
    let same : event ≡ call.0 = same-some event call.0 run.0 in
    (call.1, λ i. (sym same i, call.1) ∷ [])
one-run event (call ∷ next ∷ calls) run = absurd (none-some next.0 run.1.0)

module _ (may : Event → Bool) (ranged : Reply → Bool) (request_of : Event → Ask) (reply_of : Event → Response → Option Reply)
    (at : ℕ → Event → Event) (saying : Saying) (defaults : Defaults)
    (faithful : IsFaithful may ranged request_of reply_of at saying defaults) where
  -- what the server read is the event
  asked-is : (event : Event) (x : T.Exchange) → may event ≡ true → IsAsked (request_of event) x
      → asked x.parts x.body x.moment defaults ≡ Ok (One (at x.moment event))
  asked-is event x fits a = (λ i. asked (a.parts i) (a.body i) x.moment defaults) ∙ faithful.asks event x.moment fits

  -- what it called is this one call
  one-made : (event : Event) (moment : ℕ) (said : Said Asked) (what : Asked) (body : List ℕ) (failed : Option ℕ) (calls : List Call)
      → may event ≡ true → said ≡ Ok (One (at moment event)) → said ≡ Ok what → T.Makes what body failed calls
      → (reply : Reply) × (calls ≡ (at moment event, reply) ∷ [])
  one-made event moment said what body failed calls fits is has makes =
      let run : IsRunOf (event_script (at moment event) failed) calls =
      subst (λ (w : Asked). T.Makes w body failed calls) (same-ok said what (One (at moment event)) has is) makes in
      one-run (at moment event) calls (subst (λ s. IsRunOf s calls) (faithful.single event moment failed fits) run)

  -- the reply that was heard is the reply to it
  reply-is : (h : Heard) (moment : ℕ) (calls : List Call) → may h.event ≡ true → reply_of h.event h.response ≡ Some h.reply
      → ((event : Event) (reply : Reply) → calls ≡ (event, reply) ∷ [] → ranged reply ≡ true)
      → (reply : Reply) × (calls ≡ (at moment h.event, reply) ∷ []) → saying (T.Called calls) ≡ Some h.response
      → calls ≡ (at moment h.event, h.reply) ∷ []
  reply-is h moment calls fits heard within (reply, calls_are) says =
      let same : h.reply ≡ reply =
      faithful.reads h.event moment reply h.reply h.response fits (within (at moment h.event) reply calls_are)
      (ap (λ (cs : List Call). saying (T.Called cs)) (sym calls_are) ∙ says) heard in
      calls_are ∙ ap (λ (r : Reply). (at moment h.event, r) ∷ []) (sym same)

  -- want of memory says no reply
  not-silent : (h : Heard) → reply_of h.event h.response ≡ Some h.reply → Some no_memory ≡ Some h.response → ⊥
  not-silent h heard none =
      none-some h.reply (sym (faithful.silent h.event) ∙ ap (reply_of h.event) (same-some no_memory h.response none) ∙ heard)

  served-one : (h : Heard) (moment : ℕ) (said : Said Asked) (body : List ℕ) (outcome : T.Outcome) → may h.event ≡ true
      → reply_of h.event h.response ≡ Some h.reply
      → ((event : Event) (reply : Reply) → T.calls_in outcome ≡ (event, reply) ∷ [] → ranged reply ≡ true)
      → said ≡ Ok (One (at moment h.event)) → T.IsOutcome said body outcome → saying outcome ≡ Some h.response
      → T.calls_in outcome ≡ (at moment h.event, h.reply) ∷ []
  served-one h moment said body (T.Refused refusal) fits heard within is o says = absurd (not-refused said (One (at moment h.event)) refusal is o)
  served-one h moment said body (T.Called calls) fits heard within is (what, has, makes) says =
      reply-is h moment calls fits heard within (one-made h.event moment said what body None calls fits is has makes) says
  served-one h moment said body (T.Stopped count calls) fits heard within is (what, has, makes) says =
      reply-is h moment calls fits heard within (one-made h.event moment said what body (Some count) calls fits is has makes)
      (sym (faithful.stopped count calls) ∙ says)
  served-one h moment said body (T.Unsaid calls) fits heard within is o says = absurd (not-silent h heard (sym (faithful.unsaid calls) ∙ says))
  served-one h moment said body T.Lost fits heard within is o says = absurd (not-silent h heard (sym faithful.lost ∙ says))

  served : (heard : List Heard) (later : List Ask) (xs : List T.Exchange) → AreSaid may reply_of heard → T.AreExchanges defaults xs
      → AreRanged ranged xs → AreAnswered saying (requests_of request_of heard ++ later) xs (responses_of heard) → AreServed at heard xs
  served [] later xs said are within answered = tt
  served (h ∷ hs) later [] said are within answered = not-silent h said.0.1 (ap (λ (r : Response). Some r) (sym answered.0))
  served (h ∷ hs) later (x ∷ xs) said are within answered = (
    served-one h x.moment (asked x.parts x.body x.moment defaults) x.body x.outcome said.0.0 said.0.1 within.0
        (asked-is h.event x said.0.0 answered.0.asked) are.0.outcome answered.0.says,
    served hs later xs said.1 are.1 within.1 answered.1,
  )

  -- ---- what is said is read

  memory-readable : (outcome : T.Outcome) → saying outcome ≡ Some no_memory
      → ((closes : Bool) → IsReadAs (Some no_memory) (T.response_of outcome closes false)) → IsReadable saying outcome
  memory-readable outcome says reads = record {
    reads = λ closes. subst (λ (s : Option Response). IsReadAs s (T.response_of outcome closes false)) (sym says) (reads closes);
    cut = λ none. absurd (none-some no_memory (sym none ∙ says));
  }

  call-readable : IsLegible may ranged at saying → (event : Event) (moment : ℕ) (calls : List Call) → may event ≡ true
      → ((event : Event) (reply : Reply) → calls ≡ (event, reply) ∷ [] → ranged reply ≡ true)
      → (reply : Reply) × (calls ≡ (at moment event, reply) ∷ []) → IsReadable saying (T.Called calls)
  call-readable legible event moment calls fits within (reply, calls_are) =
      subst (λ (cs : List Call). IsReadable saying (T.Called cs)) (sym calls_are)
      (legible event moment reply fits (within (at moment event) reply calls_are))

  readable-one : IsLegible may ranged at saying → (event : Event) (moment : ℕ) (said : Said Asked) (body : List ℕ) (outcome : T.Outcome)
      → may event ≡ true → ((event : Event) (reply : Reply) → T.calls_in outcome ≡ (event, reply) ∷ [] → ranged reply ≡ true)
      → said ≡ Ok (One (at moment event)) → T.IsOutcome said body outcome → IsReadable saying outcome
  readable-one legible event moment said body (T.Refused refusal) fits within is o =
      absurd (not-refused said (One (at moment event)) refusal is o)
  readable-one legible event moment said body (T.Called calls) fits within is (what, has, makes) =
      call-readable legible event moment calls fits within (one-made event moment said what body None calls fits is has makes)
  readable-one legible event moment said body (T.Stopped count calls) fits within is (what, has, makes) =
      let r = call-readable legible event moment calls fits within (one-made event moment said what body (Some count) calls fits is has makes) in
      record {
        reads = λ closes. subst (λ (s : Option Response). IsReadAs s (T.response_of (T.Called calls) closes false)) (sym (faithful.stopped count calls))
            (r.reads closes);
        cut = λ none. refl;
      }
  readable-one legible event moment said body (T.Unsaid calls) fits within is o =
      memory-readable (T.Unsaid calls) (faithful.unsaid calls) (λ closes. no_memory-responds)
  readable-one legible event moment said body T.Lost fits within is o = memory-readable T.Lost faithful.lost (λ closes. no_memory-responds)

  readable : IsLegible may ranged at saying → (heard : List Heard) (later : List Ask) (xs : List T.Exchange) → AreSaid may reply_of heard
      → T.AreExchanges defaults xs → AreRanged ranged xs → AreAsked (requests_of request_of heard ++ later) xs
      → AreReadable saying xs (responses_of heard)
  readable legible [] later xs said are within asks = tt
  readable legible (h ∷ hs) later [] said are within asks = tt
  readable legible (h ∷ hs) later (x ∷ xs) said are within asks = (
    readable-one legible h.event x.moment (asked x.parts x.body x.moment defaults) x.body x.outcome said.0.0 within.0
        (asked-is h.event x said.0.0 asks.0) are.0.outcome,
    readable legible hs later xs said.1 are.1 within.1 asks.1,
  )

pub calls-served : CallsAreServed
calls-served may ranged request_of reply_of at saying defaults faithful heard later xs said are within answered =
    served may ranged request_of reply_of at saying defaults faithful heard later xs said are within answered

pub talks-served : TalksAreServed
talks-served may ranged request_of reply_of at saying defaults faithful legible heard later xs made end read rest plain said are within between parsed =
    let asks = requests_of request_of heard ++ later in
    let first : AreAsked asks xs = talk-asked defaults asks xs made end read plain are between in
    let legibly = readable may ranged request_of reply_of at saying defaults faithful legible heard later xs said are within first in
    served may ranged request_of reply_of at saying defaults faithful heard later xs said are within
    (talk-mirrored saying defaults asks xs made end read (responses_of heard) rest plain are legibly between parsed)
