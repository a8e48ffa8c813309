-- The calls that a port heard are its server's.
use Rattle.std.specs.Prelude.{◌≡◌, ℕ, Bool, List, [], ◌∷◌, ◌++◌, map, take, drop, Option, Some, None, refl}
use Rattle.std.specs.List.{AllByRecursion}
use Rattle.std.proofs.Common.{inl, inr, sym, ap, subst, ◌∙◌, append_assoc, append-nil}
use Rattle.std.proofs.lemmas.List.{append_cancel_left, take-append-drop}
use Rattle.stream_traits.specs.Seen.{LinkSeen}
use Rattle.stream_traits.specs.Told.{behind, WroteFront}
use Rattle.stream_traits.specs.ToldLaws.{behind_nil, behind_append, WroteFront-all, WroteFront-none}
use Rattle.http_client.specs.Requests.{Ask, request_bytes}
use Rattle.office_model.specs.declared.event.Event.{Event}
use Rattle.office_model.specs.declared.refusal.Refusal.{Refusal}
use Rattle.office_model.specs.Meaning.{Reply}
use Rattle.office_model.specs.Step.{Call}
use Rattle.request_events.specs.declared.defaults.Defaults.{Defaults}
use Rattle.browse_http.specs.declared.end.End.{End}
use Rattle.browse_http.specs.Talk as T
use Rattle.peer_exchange.specs.Exchanges.{foreign, ended, cut, unasked, unread, too_long, Sends}
use Rattle.peer_exchange.specs.Several.{asked, HasResponses}
use Rattle.peer_exchange.specs.SeveralLaws.{TakesResponses-told}
use Rattle.peer_talk.specs.Mirror.{AreRequests, written_for, AreResponses, Response, AreReadable, IsTalkBetween, AreAnswered, Saying}
use Rattle.peer_talk.proofs.MirrorLaws.{talk-mirrored}
use Rattle.peer_calls.specs.Calls.{Heard, requests_of, responses_of, AreServed}
use Rattle.pull_codec.specs.Relations.{AreHeard}
use Rattle.pull_codec.proofs.ServedLaws.{codec-served}
use Rattle.remote_port.specs.declared.end.PortEnd.{PortEnd}
use Rattle.remote_port.specs.declared.end.PortEnd.TheVariants as P
use Rattle.remote_port.specs.Hearing.{most, EndsBy}
use Rattle.remote_port.specs.Speaks.{Connection, Turn, heard, unasked, barred, heard_in, IsTurn, exchange_of, EndsWith, Speaks}
use Rattle.remote_port.specs.Laws.{IsTalkOf, AreAsks, AllHeard, HeardCallsAreAnswered, HeardCallsAreServed}

-- of a request a front was written
pub record Fronts (old new : LinkSeen) (later : List Ask) : Type 0 where
  pub word : List ℕ
  pub more : List ℕ
  pub front : word ++ more ≡ written_for later
  pub wrote : new.written ≡ behind old.written word

fronts-none : (old new : LinkSeen) → new ≡ old → Fronts old new []
fronts-none old new same = record {
  word = [];
  more = [];
  front = refl;
  wrote = ap (λ (s : LinkSeen). s.written) same ∙ sym (behind_nil old.written);
}

fronts-one : (old new : LinkSeen) (ask : Ask) → WroteFront old.written new.written (request_bytes ask) → Fronts old new (ask ∷ [])
fronts-one old new ask front = record {
  word = take front.count (request_bytes ask);
  more = drop front.count (request_bytes ask);
  front = take-append-drop front.count (request_bytes ask) ∙ sym (append-nil (request_bytes ask));
  wrote = front.wrote;
}

fronts-sent : (old new : LinkSeen) (ask : Ask) → Sends old new ask → WroteFront old.written new.written (request_bytes ask)
fronts-sent old new ask sends = WroteFront-all old.written new.written (request_bytes ask) sends.wrote

written-append : (xs ys : List Ask) → written_for (xs ++ ys) ≡ written_for xs ++ written_for ys
written-append [] ys = refl
written-append (x ∷ xs) ys =
    ap (λ bytes. request_bytes x ++ bytes) (written-append xs ys) ∙ sym (append_assoc (request_bytes x) (written_for xs) (written_for ys))

same-told : (a b : List ℕ) → Some a ≡ Some b → a ≡ b
same-told a b e = cc

some-none : {A : Type 0} (a : A) → Some a ≡ None → ⊥
some-none a e = cc

module _ (may : Event → Bool) (request_of : Event → Ask) (refusal_of : Event → Refusal) (Says : Event → Response → Reply → Type 0)
    (InRange : Event → Reply → Type 0) (at : ℕ → Event → Event) where
  -- however the call ended the port, of its request a front was written
  ends-front : (old new : LinkSeen) (event : Event) (end : PortEnd) → EndsBy request_of Says old new event end
      → WroteFront old.written new.written (request_bytes (request_of event))
  ends-front old new event P.Foreign (foreign sends none) = fronts-sent old new (request_of event) sends
  ends-front old new event P.Foreign (ended sends none) = fronts-sent old new (request_of event) sends
  ends-front old new event P.Foreign (cut sends reads) = fronts-sent old new (request_of event) sends
  ends-front old new event (P.Silent status) x = fronts-sent old new (request_of event) x.answers.sends
  ends-front old new event P.Link x = x.wrote
  ends-front old new event P.Memory (inl (unasked same)) =
      subst (λ (s : LinkSeen). WroteFront old.written s.written (request_bytes (request_of event))) (sym same)
      (WroteFront-none old.written (request_bytes (request_of event)))
  ends-front old new event P.Memory (inl (unread sends took)) = fronts-sent old new (request_of event) sends
  ends-front old new event P.Memory (inl (too_long sends none)) = fronts-sent old new (request_of event) sends
  ends-front old new event P.Memory (inr x) = fronts-sent old new (request_of event) x.answers.sends

  -- what was written behind the calls that were heard
  pub record IsLater (old new : LinkSeen) (later : List Ask) : Type 0 where
    pub fronts : Fronts old new later
    pub are : AreAsks may request_of refusal_of Says InRange at → AreRequests later

  later : (old new : LinkSeen) (lost : List Event) (end : Option PortEnd) → EndsWith may request_of refusal_of Says old new lost end
      → (asks : List Ask) × IsLater old new asks
  later old new [] None same = ([], record { fronts = fronts-none old new same; are = λ _. tt })
  later old new [] (Some end) none = absurd none
  later old new (event ∷ events) None none = absurd none
  later old new (event ∷ events) (Some end) (fits, ends) = (
    request_of event ∷ [],
    record {
      fronts = fronts-one old new (request_of event) (ends-front old new event end ends);
      are = λ asks. (asks event fits, tt);
    },
  )

  said : (turns : List Turn) → AllByRecursion (IsTurn may request_of refusal_of Says) turns → AreHeard may Says (heard_in turns)
  said [] are = tt
  said (heard h ∷ turns) are = (are.0, said turns are.1)
  said (unasked event ∷ turns) are = said turns are.1
  said (barred event ∷ turns) are = said turns are.1

  plain : AreAsks may request_of refusal_of Says InRange at → (heard : List Heard) → AreHeard may Says heard → (asks : List Ask)
      → AreRequests asks → AreRequests (requests_of request_of heard ++ asks)
  plain are [] fits asks more = more
  plain are (h ∷ hs) fits asks more = (are h.event fits.0.0, plain are hs fits.1 asks more)

  few-said : (few : Event → Bool) (heard : List Heard) → AllHeard may request_of refusal_of Says InRange at few heard → AreHeard may Says heard
      → AreHeard few Says heard
  few-said few [] all fits = tt
  few-said few (h ∷ hs) all fits = ((all.0, fits.0.1), few-said few hs all.1 fits.1)

  same-requests : (heard : List Heard)
      → asked (map (exchange_of may request_of refusal_of Says) heard) ≡ written_for (requests_of request_of heard)
  same-requests [] = refl
  same-requests (h ∷ hs) = ap (λ (bytes : List ℕ). request_bytes (request_of h.event) ++ bytes) (same-requests hs)

  same-responses : (heard : List Heard) (input rest : List ℕ) → HasResponses input (map (exchange_of may request_of refusal_of Says) heard) rest
      → AreResponses input (responses_of heard) rest
  same-responses [] input rest has = has
  same-responses (h ∷ hs) input rest has = (has.0, has.1, same-responses hs has.0 rest has.2)

  -- a talk of the requests that were heard and of what was asked behind them
  pub record IsHeardTalk (heard : List Heard) (xs : List T.Exchange) : Type 0 where
    pub asks : List Ask
    pub input : List ℕ
    pub rest : List ℕ
    pub made : List Call
    pub end : End
    pub plain : AreAsks may request_of refusal_of Says InRange at → AreRequests (requests_of request_of heard ++ asks)
    pub between : IsTalkBetween (written_for (requests_of request_of heard ++ asks)) input xs made end
    pub parsed : AreResponses input (responses_of heard) rest

  -- more that was never written
  longer : (wrote more all input : List ℕ) (xs : List T.Exchange) (made : List Call) (end : End) → wrote ++ more ≡ all
      → IsTalkBetween wrote input xs made end → IsTalkBetween all input xs made end
  longer wrote more all input xs made end is t = record {
    input = t.input;
    unread = t.unread ++ more;
    reached = sym is ∙ ap (λ (w : List ℕ). w ++ more) t.reached ∙ append_assoc t.input t.unread more;
    output = t.output;
    unseen = t.unseen;
    came = t.came;
    talk = t.talk;
  }

  module _ (p q : Connection) (calls : List Call) (s : Speaks may request_of refusal_of Says p q calls) (xs : List T.Exchange)
      (defaults : Defaults) (t : IsTalkOf p q defaults xs) where
    abbrev hs : List Heard
    hs = heard_in s.turns

    open-talk : p.end ≡ None → IsHeardTalk hs xs
    open-talk goes =
        let l : (asks : List Ask) × IsLater s.mid q.seen asks = later s.mid q.seen s.lost q.end (s.ends goes) in
        let f = l.1.fronts in
        let has : (rest : List ℕ) × (s.mid.left ≡ Some rest)
        × HasResponses t.input (map (exchange_of may request_of refusal_of Says) hs) rest =
        TakesResponses-told most p.seen.left s.mid.left (map (exchange_of may request_of refusal_of Says) hs) s.exchanged.took t.input t.left in
        let bytes : List ℕ = written_for (requests_of request_of hs) in
        let told : q.seen.written ≡ Some (t.before ++ (bytes ++ f.word)) =
        f.wrote ∙ ap (λ w. behind w f.word) s.exchanged.wrote
        ∙ sym (behind_append p.seen.written (asked (map (exchange_of may request_of refusal_of Says) hs)) f.word)
        ∙ ap (λ b. behind p.seen.written (b ++ f.word)) (same-requests hs) ∙ ap (λ w. behind w (bytes ++ f.word)) t.written in
        let wrote : t.wrote ≡ bytes ++ f.word =
        append_cancel_left t.before t.wrote (bytes ++ f.word)
        (same-told (t.before ++ t.wrote) (t.before ++ (bytes ++ f.word)) (sym t.writes ∙ told)) in
        record {
          asks = l.0;
          input = t.input;
          rest = has.0;
          made = t.made;
          end = t.end;
          plain = λ are. plain are hs (said s.turns s.are) l.0 (l.1.are are);
          between = longer t.wrote f.more (written_for (requests_of request_of hs ++ l.0)) t.input xs t.made t.end
              (ap (λ (w : List ℕ). w ++ f.more) wrote ∙ append_assoc bytes f.word f.more ∙ ap (λ (w : List ℕ). bytes ++ w) f.front
              ∙ sym (written-append (requests_of request_of hs) l.0)) t.between;
          parsed = same-responses hs t.input has.0 has.2;
        }

  answered-in : (saying : Saying) (defaults : Defaults) (hs : List Heard) (xs : List T.Exchange) → AreAsks may request_of refusal_of Says InRange at
      → T.AreExchanges defaults xs → AreReadable saying xs (responses_of hs) → IsHeardTalk hs xs
      → (later : List Ask) × AreAnswered saying (requests_of request_of hs ++ later) xs (responses_of hs)
  answered-in saying defaults hs xs asks are fine h = (
    h.asks,
    talk-mirrored saying defaults (requests_of request_of hs ++ h.asks) xs h.made h.end h.input (responses_of hs) h.rest
        (h.plain asks) are fine h.between h.parsed,
  )

  pub answered : HeardCallsAreAnswered may request_of refusal_of Says InRange at
  answered asks saying defaults p q calls s xs t fine = by p.end refl
    where
      by : (end : Option PortEnd) → p.end ≡ end
          → (later : List Ask) × AreAnswered saying (requests_of request_of (heard_in s.turns) ++ later) xs (responses_of (heard_in s.turns))
      by None is =
          answered-in saying defaults (heard_in s.turns) xs asks t.are fine (open-talk p q calls s xs defaults t is)
      by (Some end) is =
          subst (λ (ts : List Turn). (later : List Ask) × AreAnswered saying (requests_of request_of (heard_in ts) ++ later) xs (responses_of (heard_in ts)))
          (sym (s.silent end is).1) ([], tt)

  pub served : HeardCallsAreServed may request_of refusal_of Says InRange at
  served asks few defaults codec p q calls s all xs t within = by p.end refl
    where
      by : (end : Option PortEnd) → p.end ≡ end → AreServed at (heard_in s.turns) xs
      by None is =
          let h = open-talk p q calls s xs defaults t is in
          codec-served few InRange request_of Says at defaults codec (heard_in s.turns) h.asks xs h.made h.end h.input h.rest
          (few-said few (heard_in s.turns) all (said s.turns s.are)) (h.plain asks) t.are within h.between h.parsed
      by (Some end) is = subst (λ (ts : List Turn). AreServed at (heard_in ts) xs) (sym (s.silent end is).1) tt
