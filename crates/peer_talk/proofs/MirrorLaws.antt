-- What a client reads is what its server answered, one response after the other.
use Rattle.std.proofs.Common.{◌≡◌, ℕ, ◌+◌, Bool, true, false, ◌||◌, not, List, [], ◌∷◌, ◌++◌, length, Option, Some, None, refl, sym, ap, ◌∙◌, subst, inl, inr, arith, append_assoc, append-nil, length-append}
use Rattle.std.specs.List.{AllByRecursion}
use Rattle.std.proofs.lemmas.Bool.{true≢false}
use Rattle.httparse.specs.Grammar.{ResponseHead, print_response}
use Rattle.http_heads.specs.Responses.{HasResponseHead, HasResponse}
use Rattle.http_heads.proofs.ResponseLemmas.{response_head-append, same-response}
use Rattle.http_wire.specs.HeadReads.{continue_due}
use Rattle.http_wire.specs.Message.{no_memory_response}
use Rattle.http_client.specs.Requests.{Ask}
use Rattle.http_client.specs.Laws.{parts_asked}
use Rattle.http_client.proofs.MessageLaws.{no_memory-responds}
use Rattle.office_model.specs.Step.{Call}
use Rattle.request_events.specs.declared.defaults.Defaults.{Defaults}
use Rattle.browse_http.specs.declared.end.End.{End}
use Rattle.browse_http.specs.Talk as T
use Rattle.peer_talk.specs.Mirror.{IsRequest, AreRequests, written_for, Response, AreResponses, Saying, IsReadAs, AreReadable, IsTalkBetween, IsAsked, AreAsked, AreAnswered}
use Rattle.peer_talk.specs.Laws.{ServerTalksAreAsked, ServerTalksAreMirrored, ShortRequestsCallWhole}
use Rattle.peer_talk.proofs.AskedLaws.{unasked, AreFirst, are-first, all-later}
use Rattle.peer_talk.proofs.WordLaws.{nil_front, IsLast, uncalled-last, called-last, IsShort, uncalled-calls}

-- ---- responses

pub response-append : (input more : List ℕ) (status : ℕ) (body rest : List ℕ) → HasResponse input status body rest
    → HasResponse (input ++ more) status body (rest ++ more)
response-append input more status body rest x =
    subst (λ (t : List ℕ). HasResponseHead (input ++ more) (record { status = status; length = length body }) t) (append_assoc body rest more)
    (response_head-append input more (record { status = status; length = length body }) (body ++ rest) x)

some-print : (h : ResponseHead) (rest : List ℕ) → print_response h ++ rest ≡ [] → ⊥
unfolding print_response
some-print h rest e = omega (arith, ap length e, length-append {A = ℕ})

no-response : (input : List ℕ) (status : ℕ) (body rest : List ℕ) → input ≡ [] → HasResponse input status body rest → ⊥
no-response input status body rest empty x = some-print x.head (body ++ rest) (sym x.reads.1 ∙ empty)

-- the response that is read first is the one that was said first; one that was cut off isn't read
pub read-first : (said : Option Response) (response behind read lacks : List ℕ) (a : Response) (after : List ℕ) → IsReadAs said response
    → (said ≡ None → behind ≡ []) → read ++ lacks ≡ response ++ behind → HasResponse read a.status a.body after
    → (said ≡ Some a) × (after ++ lacks ≡ behind)
read-first None response behind read lacks a after reads last e has =
    absurd (reads a.status a.body (after ++ lacks)
    (subst (λ (t : List ℕ). HasResponse t a.status a.body (after ++ lacks))
    (e ∙ ap (λ (t : List ℕ). response ++ t) (last refl) ∙ append-nil response) (response-append read lacks a.status a.body after has)))
read-first (Some b) response behind read lacks a after reads last e has =
    let same : (b.status ≡ a.status) × (b.body ≡ a.body) × (behind ≡ after ++ lacks) =
    same-response (read ++ lacks) b.status a.status b.body a.body behind (after ++ lacks)
    (subst (λ (t : List ℕ). HasResponse t b.status b.body behind) (sym e) (reads behind))
    (response-append read lacks a.status a.body after has) in
    ((λ i. Some (record { status = same.0 i; body = same.1 i })), sym same.2)

-- ---- behind the responses

-- nothing more is read, but that there is no memory
last-read : (saying : Saying) (asks : List Ask) (word lacks read : List ℕ) (answers : List Response) (rest : List ℕ) → IsLast word
    → read ++ lacks ≡ word → AreResponses read answers rest → AreAnswered saying asks [] answers
last-read saying asks word lacks read [] rest last e parsed = tt
last-read saying asks word lacks read (a ∷ answers) rest (inl empty) e (after, has, parsed) =
    absurd (no-response read a.status a.body after (nil_front read lacks (e ∙ empty)) has)
last-read saying asks word lacks read (a ∷ answers) rest (inr text) e (after, has, parsed) =
    ((λ i. record { status = same.0 i; body = same.1 i }), none answers parsed)
  where
    same : (a.status ≡ 507) × (a.body ≡ []) × (after ++ lacks ≡ [])
    same =
        same-response (read ++ lacks) a.status 507 a.body [] (after ++ lacks) [] (response-append read lacks a.status a.body after has)
        (subst (λ (t : List ℕ). HasResponse t 507 [] []) (append-nil no_memory_response ∙ sym text ∙ sym e) (no_memory-responds []))

    none : (later : List Response) → AreResponses after later rest → later ≡ []
    none [] h = refl
    none (b ∷ later) (more, h, hs) = absurd (no-response after b.status b.body more (nil_front after lacks same.2) h)

-- what is said last: behind all exchanges, or for the final one
abbrev pub EndsSo : Option T.Exchange → List ℕ → Type 0
EndsSo None word = IsLast word
EndsSo (Some x) word = (closes : Bool) × (word ≡ continue_due x.parts ++ T.response_of x.outcome closes (T.asks_head x.parts))

-- ---- all exchanges

-- what is said for the request of a client
pub plainly-said : (ask : Ask) (x : T.Exchange) (closes : Bool) → IsAsked ask x → T.asks_head (parts_asked ask) ≡ false
    → continue_due x.parts ++ T.response_of x.outcome closes (T.asks_head x.parts) ≡ T.response_of x.outcome closes false
plainly-said ask x closes asked wants =
    (λ i. unasked ask x.parts asked.parts i ++ T.response_of x.outcome closes ((ap T.asks_head asked.parts ∙ wants) i))

fine : (last is_fine : Bool) → not (last || not is_fine) ≡ true → is_fine ≡ true
fine true is_fine e = absurd (true≢false (sym e))
fine false true e = refl
fine false false e = e

pub never-cut : (saying : Saying) (index : ℕ) (x : T.Exchange) (behind : List ℕ) → T.goes_on index x ≡ true
    → (saying x.outcome ≡ None → T.is_fine (T.outcome_fate x.outcome) ≡ false) → saying x.outcome ≡ None → behind ≡ []
never-cut saying index x behind on cut none =
    absurd (true≢false (sym (fine (T.is_last index x.parts) (T.is_fine (T.outcome_fate x.outcome)) on) ∙ cut none))

module _ (saying : Saying) (final : Option T.Exchange) (word lacks : List ℕ) (ends : EndsSo final word) where
  last-exchange : (end : Option T.Exchange) (asks : List Ask) (read : List ℕ) (answers : List Response) (rest : List ℕ) → EndsSo end word
      → AreRequests asks → AreAsked asks (T.final_list end) → AreReadable saying (T.final_list end) answers → read ++ lacks ≡ word
      → AreResponses read answers rest → AreAnswered saying asks (T.final_list end) answers
  last-exchange None asks read answers rest last are asked readable e parsed = last-read saying asks word lacks read answers rest last e parsed
  last-exchange (Some x) asks read [] rest last are asked readable e parsed = tt
  last-exchange (Some x) [] read (a ∷ answers) rest last are asked readable e parsed = absurd asked
  last-exchange (Some x) (ask ∷ asks) read (a ∷ answers) rest (closes, is) are asked readable e (after, has, parsed) =
      let text = e ∙ is ∙ plainly-said ask x closes asked.0 are.0.wants_body ∙ sym (append-nil (T.response_of x.outcome closes false)) in
      let first : (saying x.outcome ≡ Some a) × (after ++ lacks ≡ []) =
      read-first (saying x.outcome) (T.response_of x.outcome closes false) [] read lacks a after (readable.0.reads closes) (λ none. refl) text has in
      (record { asked = asked.0; says = first.0 }, last-read saying asks [] lacks after answers rest (inl refl) first.1 parsed)

  mirrored : (index : ℕ) (asks : List Ask) (xs : List T.Exchange) (read : List ℕ) (answers : List Response) (rest : List ℕ)
      → AreRequests asks → AreAsked asks (xs ++ T.final_list final) → T.GoOn index xs → AreReadable saying (xs ++ T.final_list final) answers
      → read ++ lacks ≡ T.said index xs ++ word → AreResponses read answers rest → AreAnswered saying asks (xs ++ T.final_list final) answers
  mirrored index asks [] read answers rest are asked on readable e parsed = last-exchange final asks read answers rest ends are asked readable e parsed
  mirrored index asks (x ∷ xs) read [] rest are asked on readable e parsed = tt
  mirrored index [] (x ∷ xs) read (a ∷ answers) rest are asked on readable e parsed = absurd asked
  mirrored index (ask ∷ asks) (x ∷ xs) read (a ∷ answers) rest are asked on readable e (after, has, parsed) =
      let closes = T.is_last index x.parts in
      let behind = T.said (index + 1) xs ++ word in
      let text : read ++ lacks ≡ T.response_of x.outcome closes false ++ behind =
      e ∙ append_assoc (T.said_at index x) (T.said (index + 1) xs) word
      ∙ ap (λ (t : List ℕ). t ++ behind) (plainly-said ask x closes asked.0 are.0.wants_body) in
      let first : (saying x.outcome ≡ Some a) × (after ++ lacks ≡ behind) =
      read-first (saying x.outcome) (T.response_of x.outcome closes false) behind read lacks a after (readable.0.reads closes)
      (never-cut saying index x behind on.0 readable.0.cut) text has in (
        record { asked = asked.0; says = first.0 },
        mirrored (index + 1) asks xs after answers rest are.1 asked.1 on.1 readable.1 first.1 parsed,
      )

-- ---- talks

module _ (defaults : Defaults) (asks : List Ask) (xs : List T.Exchange) (made : List Call) (end : End) (read : List ℕ) (are : AreRequests asks)
    (exchanges : T.AreExchanges defaults xs) (between : IsTalkBetween (written_for asks) read xs made end) where
  talk-first : AreFirst asks xs (between.talk.rest ++ between.unread)
  talk-first =
      are-first defaults asks xs (between.talk.rest ++ between.unread) are exchanges
      (between.reached ∙ ap (λ (t : List ℕ). t ++ between.unread) between.talk.reads
      ∙ append_assoc (T.requests xs) between.talk.rest between.unread)

  later-are : AreRequests talk-first.later
  later-are = all-later IsRequest talk-first.earlier talk-first.later (subst AreRequests talk-first.asks_are are)

  -- what was said last, and what it lacks
  pub talk-ends : (final : Option T.Exchange) (index : ℕ) (word : List ℕ) → T.Stops end between.talk.rest index final made word
      → (lacks : List ℕ) × EndsSo final (word ++ lacks)
  talk-ends None index word stops =
      uncalled-last talk-first.later between.talk.rest between.unread made later-are talk-first.rest_is end word stops
  talk-ends (Some x) index word (none, (response, is, stops)) =
      let said = called-last end x.outcome (T.is_last index x.parts) (T.asks_head x.parts) response stops in (
        said.0,
        (
          T.is_last index x.parts,
          ap (λ (t : List ℕ). t ++ said.0) is ∙ append_assoc (continue_due x.parts) response said.0
              ∙ ap (λ (t : List ℕ). continue_due x.parts ++ t) said.1,
        ),
      )

  talk-calls : (final : Option T.Exchange) (index : ℕ) (word : List ℕ) → AllByRecursion IsShort asks
      → T.Stops end between.talk.rest index final made word → made ≡ []
  talk-calls None index word short stops =
      uncalled-calls talk-first.later between.talk.rest between.unread made later-are
      (all-later IsShort talk-first.earlier talk-first.later (subst (AllByRecursion IsShort) talk-first.asks_are short))
      talk-first.rest_is end word stops
  talk-calls (Some x) index word short (none, (response, is, stops)) = none

pub talk-asked : ServerTalksAreAsked
talk-asked defaults asks xs made end read are exchanges between =
    (talk-first defaults asks xs made end read are exchanges between).asked

pub short-whole : ShortRequestsCallWhole
short-whole asks xs made end read defaults are short exchanges between =
    let t = between.talk in
    talk-calls defaults asks xs made end read are exchanges between t.final (length t.earlier) t.word short t.stops

pub talk-mirrored : ServerTalksAreMirrored
talk-mirrored saying defaults asks xs made end read answers rest are exchanges readable between parsed =
    let t = between.talk in
    let ends : (lacks : List ℕ) × EndsSo t.final (t.word ++ lacks) =
    talk-ends defaults asks xs made end read are exchanges between t.final (length t.earlier) t.word t.stops in
    let asked : AreAsked asks (t.earlier ++ T.final_list t.final) =
    subst (AreAsked asks) t.exchanges_are (talk-asked defaults asks xs made end read are exchanges between) in
    let text : read ++ (between.unseen ++ ends.0) ≡ T.said 0 t.earlier ++ (t.word ++ ends.0) =
    sym (append_assoc read between.unseen ends.0) ∙ ap (λ (u : List ℕ). u ++ ends.0) (sym between.came ∙ t.says)
    ∙ append_assoc (T.said 0 t.earlier) t.word ends.0 in
    subst (λ (es : List T.Exchange). AreAnswered saying asks es answers) (sym t.exchanges_are)
    (mirrored saying t.final (t.word ++ ends.0) (between.unseen ++ ends.0) ends.1 0 asks t.earlier read answers rest are asked t.go_on
    (subst (λ (es : List T.Exchange). AreReadable saying es answers) t.exchanges_are readable) text parsed)
