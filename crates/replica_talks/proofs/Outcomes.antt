-- What the response says to a request of a pull that came behind those that were heard.
use Rattle.std.proofs.Common.{◌≡◌, ◌⊎◌, ℕ, true, List, [], ◌∷◌, ◌++◌, Some, None, Ok, refl, sym, ap, ◌∙◌, subst, inl, inr}
use Rattle.http_client.specs.Requests.{Ask}
use Rattle.office_model.specs.declared.event.Event.{Event}
use Rattle.office_model.specs.Meaning.{Reply}
use Rattle.office_model.specs.Step.{Call}
use Rattle.request_events.specs.declared.defaults.Defaults.{Defaults}
use Rattle.request_events.specs.Said.{Said}
use Rattle.request_events.specs.Asked.{Asked, One, asked}
use Rattle.browse_http.specs.declared.end.End.{End}
use Rattle.browse_http.specs.Talk as T
use Rattle.peer_talk.specs.Mirror.{Response, no_memory, AreRequests, written_for, AreResponses, IsReadable, AreReadable, IsTalkBetween, IsAsked, AreAsked, IsAnswered, AreAnswered}
use Rattle.peer_talk.specs.Sayings.{reply_said, says}
use Rattle.peer_talk.proofs.SayingLaws.{responses-readable}
use Rattle.peer_talk.proofs.MirrorLaws.{talk-asked, talk-mirrored}
use Rattle.peer_calls.specs.Calls.{Heard, requests_of, responses_of, AreServed}
use Rattle.pull_codec.specs.Codec.{may, request_of, at, Says, InRange}
use Rattle.pull_codec.specs.Relations.{AreHeard, AreInRange}
use Rattle.pull_codec.proofs.EventLaws.{requests-are}
use Rattle.pull_codec.proofs.PullLaws.{pulls-coded, all-requests}
use Rattle.pull_codec.proofs.ServedLaws.{same-some, not-refused, one-said, asked-is, one-made, outcome-fits}
use Rattle.replica_talks.proofs.Served.{behind_heard}

-- ---- what came of one request of a pull

-- there was no memory, or the one call was replied to, and the response says so
abbrev pub IsSaid : Event → List Call → Response → Type 0
IsSaid event calls a = (a ≡ no_memory) ⊎ ((reply : Reply) × (calls ≡ (event, reply) ∷ []) × (a ≡ reply_said event reply))

one_is : (event : Event) (calls : List Call) (a : Response) → (reply : Reply) × (calls ≡ (event, reply) ∷ []) → says (T.Called calls) ≡ Some a
    → IsSaid event calls a
one_is event calls a (reply, are) is =
    inr (
      reply,
      are,
      same-some a (reply_said event reply)
          (sym is ∙ ap (λ (cs : List Call). says (T.Called cs)) are ∙ one-said event reply),
    )

outcome_said : (defaults : Defaults) (event : Event) (said : Said Asked) (body : List ℕ) (outcome : T.Outcome) (a : Response)
    → may event ≡ true → said ≡ Ok (One event) → T.IsOutcome said body outcome → says outcome ≡ Some a
    → IsSaid event (T.calls_in outcome) a
outcome_said defaults event said body (T.Refused refusal) a fits is o answers = absurd (not-refused said (One event) refusal is o)
outcome_said defaults event said body (T.Called calls) a fits is (what, has, makes) answers =
    one_is event calls a
    (one-made may InRange request_of Says at defaults (pulls-coded defaults) event 0 said what body None calls fits is has makes) answers
outcome_said defaults event said body (T.Stopped count calls) a fits is (what, has, makes) answers =
    one_is event calls a
    (one-made may InRange request_of Says at defaults (pulls-coded defaults) event 0 said what body (Some count) calls fits is has makes)
    answers
outcome_said defaults event said body (T.Unsaid calls) a fits is o answers = inl (sym (same-some no_memory a answers))
outcome_said defaults event said body T.Lost a fits is o answers = inl (sym (same-some no_memory a answers))

-- ---- behind the calls that were heard

-- what a whole response says that was read behind those
pub record IsNext (xs : List T.Exchange) (event : Event) (a : Response) : Type 0 where
  pub reply : Reply
  pub more : List Call
  pub calls : T.calls_of xs ≡ (event, reply) ∷ more
  pub is : a ≡ reply_said event reply
  pub within : AreInRange InRange xs → InRange event reply

module _ (defaults : Defaults) where
  pub one_readable : (event : Event) (x : T.Exchange) → may event ≡ true
      → ((e : Event) (reply : Reply) → T.calls_in x.outcome ≡ (e, reply) ∷ [] → InRange e reply) → T.IsExchange defaults x
      → IsAsked (request_of event) x → IsReadable says x.outcome
  one_readable event x fits within are asks =
      let codec = pulls-coded defaults in
      let is = asked-is may InRange request_of Says at defaults codec event x fits asks in
      responses-readable (asked x.parts x.body x.moment defaults) x.body x.outcome are.outcome
      (outcome-fits may InRange request_of Says at defaults codec event x.moment (asked x.parts x.body x.moment defaults) x.body x.outcome
      fits within is are.outcome)

  more_readable : (heard : List Heard) (event : Event) (a : Response) (xs : List T.Exchange) → AreHeard may Says heard → may event ≡ true
      → T.AreExchanges defaults xs → AreInRange InRange xs → AreAsked (requests_of request_of heard ++ request_of event ∷ []) xs
      → AreReadable says xs (responses_of heard ++ a ∷ [])
  more_readable [] event a [] said fits are within asks = tt
  more_readable [] event a (x ∷ xs) said fits are within asks = (one_readable event x fits within.0 are.0 asks.0, none_readable xs)
    where
      none_readable : (ys : List T.Exchange) → AreReadable says ys []
      none_readable [] = tt
      none_readable (y ∷ ys) = tt
  more_readable (h ∷ hs) event a [] said fits are within asks = tt
  more_readable (h ∷ hs) event a (x ∷ xs) said fits are within asks =
      (one_readable h.event x said.0.0 within.0 are.0 asks.0, more_readable hs event a xs said.1 fits are.1 within.1 asks.1)

  -- the response is the one to the exchange at that place, or the last one says that there is no memory
  abbrev IsBehind : List T.Exchange → Ask → Response → Type 0
  IsBehind xs ask a =
      (a ≡ no_memory) ⊎ ((x : T.Exchange) × (more : List T.Exchange) × (xs ≡ x ∷ more) × IsAnswered says ask x a × T.IsExchange defaults x)

  answered_behind : (heard : List Heard) (ask : Ask) (xs : List T.Exchange) (a : Response) → AreServed at heard xs
      → T.AreExchanges defaults xs → AreAnswered says (requests_of request_of heard ++ ask ∷ []) xs (responses_of heard ++ a ∷ [])
      → IsBehind (behind_heard heard xs) ask a
  answered_behind [] ask [] a served are answered = inl answered.0
  answered_behind [] ask (x ∷ xs) a served are answered = inr (x, xs, refl, answered.0, are.0)
  answered_behind (h ∷ hs) ask [] a served are answered = absurd served
  answered_behind (h ∷ hs) ask (x ∷ xs) a served are answered = answered_behind hs ask xs a served.1 are.1 answered.1

  next_is : (event : Event) (xs : List T.Exchange) (a : Response) → may event ≡ true → IsBehind xs (request_of event) a
      → (a ≡ no_memory) ⊎ IsNext xs event a
  next_is event xs a fits (inl none) = inl none
  next_is event xs a fits (inr (x, more, are, answered, exchange)) =
      let is = asked-is may InRange request_of Says at defaults (pulls-coded defaults) event x fits answered.asked in
      by (outcome_said defaults event (asked x.parts x.body x.moment defaults) x.body x.outcome a fits is exchange.outcome answered.says)
    where
      by : IsSaid event (T.calls_in x.outcome) a → (a ≡ no_memory) ⊎ IsNext xs event a
      by (inl none) = inl none
      by (inr (reply, calls, said)) = inr (record {
        reply = reply;
        more = T.calls_of more;
        calls = ap T.calls_of are ∙ (λ i. calls i ++ T.calls_of more);
        is = said;
        within = λ ranges. (subst (λ (ys : List T.Exchange). AreInRange InRange ys) are ranges).0 event reply calls;
      })

  pub behind_is : (heard : List Heard) (event : Event) (a : Response) (xs : List T.Exchange) (cut : List Call) (end : End)
      (read rest : List ℕ) → AreHeard may Says heard → may event ≡ true → T.AreExchanges defaults xs → AreInRange InRange xs
      → IsTalkBetween (written_for (requests_of request_of heard ++ request_of event ∷ [])) read xs cut end
      → AreServed at heard xs → AreResponses read (responses_of heard ++ a ∷ []) rest
      → (a ≡ no_memory) ⊎ IsNext (behind_heard heard xs) event a
  behind_is heard event a xs cut end read rest said fits are within between served parsed =
      let all = requests_of request_of heard ++ request_of event ∷ [] in
      let plain : AreRequests all = all-requests heard (request_of event ∷ []) said (requests-are event fits, tt) in
      let asks : AreAsked all xs = talk-asked defaults all xs cut end read plain are between in
      let answered = talk-mirrored says defaults all xs cut end read (responses_of heard ++ a ∷ []) rest plain are
      (more_readable heard event a xs said fits are within asks) between parsed in
      next_is event (behind_heard heard xs) a fits (answered_behind heard (request_of event) xs a served are answered)
