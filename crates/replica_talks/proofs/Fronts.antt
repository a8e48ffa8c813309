-- What a pull reads behind the responses that it heard is never foreign: it is a front of what its server says.
use Rattle.std.proofs.Common.{◌≡◌, ℕ, ◌+◌, Bool, true, false, List, [], ◌∷◌, ◌++◌, length, Option, Some, None, Ok, refl, sym, ap, ◌∙◌, subst, inl, inr, append_assoc, append-nil}
use Rattle.http_heads.specs.Responses.{NeverResponds, HasResponse}
use Rattle.http_wire.specs.Message.{no_memory_response}
use Rattle.http_client.proofs.MessageLaws.{no_memory-responds}
use Rattle.office_model.specs.declared.event.Event.{Event}
use Rattle.office_model.specs.Meaning.{Reply}
use Rattle.office_model.specs.Step.{Call}
use Rattle.request_events.specs.declared.defaults.Defaults.{Defaults}
use Rattle.request_events.specs.Said.{Said}
use Rattle.request_events.specs.Asked.{Asked, One, asked}
use Rattle.browse_http.specs.declared.end.End.{End}
use Rattle.browse_http.specs.Talk as T
use Rattle.peer_talk.specs.Mirror.{Response, no_memory, AreRequests, written_for, AreResponses, IsReadAs, IsTalkBetween, IsAsked, AreAsked}
use Rattle.peer_talk.specs.Sayings.{reply_said, says}
use Rattle.peer_talk.proofs.MirrorLaws.{EndsSo, read-first, plainly-said, never-cut, talk-ends, talk-asked}
use Rattle.peer_talk.proofs.WordLaws.{nil_front, IsLast}
use Rattle.peer_calls.specs.Calls.{Heard, requests_of, responses_of, AreServed}
use Rattle.pull_codec.specs.Codec.{may, request_of, at, Says, InRange}
use Rattle.pull_codec.specs.Relations.{AreHeard, AreInRange}
use Rattle.pull_codec.proofs.EventLaws.{requests-are}
use Rattle.pull_codec.proofs.PullLaws.{pulls-coded, all-requests}
use Rattle.pull_codec.proofs.ServedLaws.{not-refused, one-said, asked-is, one-made}
use Rattle.replica_talks.proofs.Outcomes.{one_readable}

abbrev pub MayRespond : List ℕ → Type 0
MayRespond rest = NeverResponds rest → ⊥

-- ---- what is said of one outcome

-- each outcome of a request of a pull has a response
one_says : (event : Event) (calls : List Call) → (reply : Reply) × (calls ≡ (event, reply) ∷ [])
    → (a : Response) × (says (T.Called calls) ≡ Some a)
one_says event calls (reply, are) =
    (reply_said event reply, ap (λ (cs : List Call). says (T.Called cs)) are ∙ one-said event reply)

outcome_says : (defaults : Defaults) (event : Event) (said : Said Asked) (body : List ℕ) (outcome : T.Outcome) → may event ≡ true
    → said ≡ Ok (One event) → T.IsOutcome said body outcome → (a : Response) × (says outcome ≡ Some a)
outcome_says defaults event said body (T.Refused refusal) fits is o = absurd (not-refused said (One event) refusal is o)
outcome_says defaults event said body (T.Called calls) fits is (what, has, makes) =
    one_says event calls
    (one-made may InRange request_of Says at defaults (pulls-coded defaults) event 0 said what body None calls fits is has makes)
outcome_says defaults event said body (T.Stopped count calls) fits is (what, has, makes) =
    one_says event calls
    (one-made may InRange request_of Says at defaults (pulls-coded defaults) event 0 said what body (Some count) calls fits is has makes)
outcome_says defaults event said body (T.Unsaid calls) fits is o = (no_memory, refl)
outcome_says defaults event said body T.Lost fits is o = (no_memory, refl)

-- ---- a front of what is said

-- a front of the last word
word_may : (rest lacks word : List ℕ) → IsLast word → rest ++ lacks ≡ word → MayRespond rest
word_may rest lacks word (inl empty) e never =
    let whole : no_memory_response ++ [] ≡ rest ++ no_memory_response =
    append-nil no_memory_response ∙ ap (λ (t : List ℕ). t ++ no_memory_response) (sym (nil_front rest lacks (e ∙ empty))) in
    never no_memory_response _ _ (subst (λ (t : List ℕ). HasResponse t 507 [] []) whole (no_memory-responds []))
word_may rest lacks word (inr text) e never =
    never lacks _ _
    (subst (λ (t : List ℕ). HasResponse t 507 [] []) (append-nil no_memory_response ∙ sym text ∙ sym e) (no_memory-responds []))

-- a front of a response and of what follows it
said_may : (response behind rest lacks : List ℕ) (a : Response) → IsReadAs (Some a) response → rest ++ lacks ≡ response ++ behind
    → MayRespond rest
said_may response behind rest lacks a reads e never =
    never lacks _ _ (subst (λ (t : List ℕ). HasResponse t a.status a.body behind) (sym e) (reads behind))

module _ (defaults : Defaults) (final : Option T.Exchange) (word lacks : List ℕ) (ends : EndsSo final word) where
  exchange_may : (event : Event) (x : T.Exchange) (closes : Bool) (behind rest : List ℕ) → may event ≡ true
      → ((e : Event) (reply : Reply) → T.calls_in x.outcome ≡ (e, reply) ∷ [] → InRange e reply) → T.IsExchange defaults x
      → IsAsked (request_of event) x → rest ++ lacks ≡ T.response_of x.outcome closes false ++ behind → MayRespond rest
  exchange_may event x closes behind rest fits within are asks e =
      let is = asked-is may InRange request_of Says at defaults (pulls-coded defaults) event x fits asks in
      let w = outcome_says defaults event (asked x.parts x.body x.moment defaults) x.body x.outcome fits is are.outcome in
      let readable = one_readable defaults event x fits within are asks in
      said_may (T.response_of x.outcome closes false) behind rest lacks w.0
      (subst (λ (s : Option Response). IsReadAs s (T.response_of x.outcome closes false)) w.1 (readable.reads closes)) e

  -- behind the exchanges after each of which the connection went on
  final_may : (end : Option T.Exchange) (heard : List Heard) (event : Event) (read rest : List ℕ) → EndsSo end word
      → AreHeard may Says heard → may event ≡ true → AreAsked (requests_of request_of heard ++ request_of event ∷ []) (T.final_list end)
      → T.AreExchanges defaults (T.final_list end) → AreInRange InRange (T.final_list end) → AreServed at heard (T.final_list end)
      → read ++ lacks ≡ word → AreResponses read (responses_of heard) rest → MayRespond rest
  final_may None [] event read rest last said fits asks are within served e parsed =
      word_may rest lacks word last (ap (λ (t : List ℕ). t ++ lacks) (sym parsed) ∙ e)
  final_may None (h ∷ hs) event read rest last said fits asks are within served e parsed = absurd served
  final_may (Some x) [] event read rest (closes, is) said fits asks are within served e parsed =
      exchange_may event x closes [] rest fits within.0 are.0 asks.0
      (ap (λ (t : List ℕ). t ++ lacks) (sym parsed) ∙ e ∙ is
      ∙ plainly-said (request_of event) x closes asks.0 (requests-are event fits).wants_body
      ∙ sym (append-nil (T.response_of x.outcome closes false)))
  final_may (Some x) (h ∷ []) event read rest (closes, is) said fits asks are within served e (after, has, parsed) =
      let response = T.response_of x.outcome closes false in
      let readable = one_readable defaults h.event x said.0.0 within.0 are.0 asks.0 in
      let text : read ++ lacks ≡ response ++ [] =
      e ∙ is ∙ plainly-said (request_of h.event) x closes asks.0 (requests-are h.event said.0.0).wants_body ∙ sym (append-nil response) in
      let first : (says x.outcome ≡ Some h.response) × (after ++ lacks ≡ []) =
      read-first (says x.outcome) response [] read lacks h.response after (readable.reads closes) (λ none. refl) text has in
      word_may rest lacks [] (inl refl) (ap (λ (t : List ℕ). t ++ lacks) (sym parsed) ∙ first.1)
  final_may (Some x) (h ∷ g ∷ hs) event read rest last said fits asks are within served e parsed = absurd served.1

  earlier_may : (index : ℕ) (heard : List Heard) (event : Event) (xs : List T.Exchange) (read rest : List ℕ)
      → AreHeard may Says heard → may event ≡ true
      → AreAsked (requests_of request_of heard ++ request_of event ∷ []) (xs ++ T.final_list final) → T.GoOn index xs
      → T.AreExchanges defaults (xs ++ T.final_list final) → AreInRange InRange (xs ++ T.final_list final)
      → AreServed at heard (xs ++ T.final_list final) → read ++ lacks ≡ T.said index xs ++ word
      → AreResponses read (responses_of heard) rest → MayRespond rest
  earlier_may index heard event [] read rest said fits asks on are within served e parsed =
      final_may final heard event read rest ends said fits asks are within served e parsed
  earlier_may index [] event (x ∷ xs) read rest said fits asks on are within served e parsed =
      let closes = T.is_last index x.parts in
      let behind = T.said (index + 1) xs ++ word in
      exchange_may event x closes behind rest fits within.0 are.0 asks.0
      (ap (λ (t : List ℕ). t ++ lacks) (sym parsed) ∙ e ∙ append_assoc (T.said_at index x) (T.said (index + 1) xs) word
      ∙ ap (λ (t : List ℕ). t ++ behind) (plainly-said (request_of event) x closes asks.0 (requests-are event fits).wants_body))
  earlier_may index (h ∷ hs) event (x ∷ xs) read rest said fits asks on are within served e (after, has, parsed) =
      let closes = T.is_last index x.parts in
      let behind = T.said (index + 1) xs ++ word in
      let readable = one_readable defaults h.event x said.0.0 within.0 are.0 asks.0 in
      let text : read ++ lacks ≡ T.response_of x.outcome closes false ++ behind =
      e ∙ append_assoc (T.said_at index x) (T.said (index + 1) xs) word
      ∙ ap (λ (t : List ℕ). t ++ behind)
      (plainly-said (request_of h.event) x closes asks.0 (requests-are h.event said.0.0).wants_body) in
      let first : (says x.outcome ≡ Some h.response) × (after ++ lacks ≡ behind) =
      read-first (says x.outcome) (T.response_of x.outcome closes false) behind read lacks h.response after (readable.reads closes)
      (never-cut says index x behind on.0 readable.cut) text has in
      earlier_may (index + 1) hs event xs after rest said.1 fits asks.1 on.1 are.1 within.1 served.1 first.1 parsed

-- ---- all

pub talk_may : (defaults : Defaults) (heard : List Heard) (event : Event) (xs : List T.Exchange) (cut : List Call) (end : End)
    (read rest : List ℕ) → AreHeard may Says heard → may event ≡ true → T.AreExchanges defaults xs → AreInRange InRange xs
    → IsTalkBetween (written_for (requests_of request_of heard ++ request_of event ∷ [])) read xs cut end → AreServed at heard xs
    → AreResponses read (responses_of heard) rest → MayRespond rest
talk_may defaults heard event xs cut end read rest said fits are within between served parsed =
    let asks = requests_of request_of heard ++ request_of event ∷ [] in
    let plain : AreRequests asks = all-requests heard (request_of event ∷ []) said (requests-are event fits, tt) in
    let t = between.talk in
    let ends : (lacks : List ℕ) × EndsSo t.final (t.word ++ lacks) =
    talk-ends defaults asks xs cut end read plain are between t.final (length t.earlier) t.word t.stops in
    let text : read ++ (between.unseen ++ ends.0) ≡ T.said 0 t.earlier ++ (t.word ++ ends.0) =
    sym (append_assoc read between.unseen ends.0) ∙ ap (λ (u : List ℕ). u ++ ends.0) (sym between.came ∙ t.says)
    ∙ append_assoc (T.said 0 t.earlier) t.word ends.0 in
    earlier_may defaults t.final (t.word ++ ends.0) (between.unseen ++ ends.0) ends.1 0 heard event t.earlier read rest said fits
    (subst (AreAsked asks) t.exchanges_are (talk-asked defaults asks xs cut end read plain are between)) t.go_on
    (subst (T.AreExchanges defaults) t.exchanges_are are) (subst (AreInRange InRange) t.exchanges_are within)
    (subst (AreServed at heard) t.exchanges_are served) text parsed
