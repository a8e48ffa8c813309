-- Calls that were heard over a wire.
use Rattle.std.proofs.Common.{◌≡◌, ℕ, true, List, [], ◌∷◌, ◌++◌, map, refl, ap, ◌∙◌, sym, subst}
use Rattle.stream_traits.specs.Seen.{LinkSeen}
use Rattle.stream_traits.specs.Told.{behind}
use Rattle.http_client.specs.Requests.{request_bytes}
use Rattle.office_model.specs.declared.event.Event.{Event}
use Rattle.office_model.specs.Meaning.{Reply}
use Rattle.peer_exchange.specs.Exchanges.{Answers}
use Rattle.peer_exchange.specs.Several.{Exchange, asked, AreExchanged, HasResponses}
use Rattle.peer_exchange.specs.SeveralLaws.{AreExchanged-one, AreExchanged-joined, TakesResponses-told}
use Rattle.peer_asks.specs.Asks.{most}
use Rattle.peer_talk.specs.Mirror.{Response, written_for, AreResponses}
use Rattle.peer_calls.specs.Calls.{Heard, requests_of, responses_of}
use Rattle.pull_codec.specs.Codec.{may, request_of, wanted, IsRead, Says}
use Rattle.pull_codec.specs.Relations.{AreHeard}
use Rattle.pull_codec.specs.Calls.{exchange_of, HasHeardOne}
use Rattle.pull_codec.specs.CallLaws.{CallsAreHeard, RunsAreHeard, RunsAreRead, RunsAreServed}
use Rattle.pull_codec.proofs.PullLaws.{pulls-served}

-- a whole answer that reads as the reply
one-heard : (old new : LinkSeen) (event : Event) (reply : Reply) (body : List ℕ) → may event ≡ true
    → Answers old new (request_of event) most (wanted event) body → IsRead event body reply → HasHeardOne old new event reply
one-heard old new event reply body fits answers read =
    let response : Response = record { status = wanted event; body = body } in
    record {
      response = response;
      heard = record {
        said = ((fits, (refl, read)), tt);
        exchanged = AreExchanged-one most old new (record { ask = request_of event; status = wanted event; body = body }) answers;
      };
    }

pub calls-heard : CallsAreHeard
calls-heard = record {
  listing = λ old new host listing fits x. one-heard old new _ _ x.body fits x.answers x.reads;
  opened = λ old new host number base restore fits x. one-heard old new _ _ x.body fits x.answers x.reads;
  next = λ old new restore frame fits x. one-heard old new _ _ x.body fits x.answers x.reads;
  closed = λ old new restore fits x. one-heard old new _ _ x.body fits x.answers tt;
}

said-append : (xs ys : List Heard) → AreHeard may Says xs → AreHeard may Says ys → AreHeard may Says (xs ++ ys)
said-append [] ys a b = b
said-append (x ∷ xs) ys a b = (a.0, said-append xs ys a.1 b)

map-append : (xs ys : List Heard) → map exchange_of (xs ++ ys) ≡ map exchange_of xs ++ map exchange_of ys
map-append [] ys = refl
map-append (x ∷ xs) ys = ap (λ (es : List Exchange). exchange_of x ∷ es) (map-append xs ys)

pub runs-heard : RunsAreHeard
runs-heard old mid new xs ys a b = record {
  said = said-append xs ys a.said b.said;
  exchanged = subst (λ (es : List Exchange). AreExchanged most old new es) (sym (map-append xs ys))
      (AreExchanged-joined most old mid new (map exchange_of xs) (map exchange_of ys) a.exchanged b.exchanged);
}

same-requests : (heard : List Heard) → asked (map exchange_of heard) ≡ written_for (requests_of request_of heard)
same-requests [] = refl
same-requests (h ∷ hs) = ap (λ (bytes : List ℕ). request_bytes (request_of h.event) ++ bytes) (same-requests hs)

same-responses : (heard : List Heard) (input rest : List ℕ) → HasResponses input (map exchange_of heard) rest
    → AreResponses input (responses_of heard) rest
same-responses [] input rest has = has
same-responses (h ∷ hs) input rest has = (has.0, has.1, same-responses hs has.0 rest has.2)

pub runs-read : RunsAreRead
runs-read old new heard input h left =
    let told = TakesResponses-told most old.left new.left (map exchange_of heard) h.exchanged.took input left in
    record {
      wrote = h.exchanged.wrote ∙ ap (behind old.written) (same-requests heard);
      rest = told.0;
      left = told.1;
      responses = same-responses heard input told.0 told.2;
    }

pub runs-served : RunsAreServed
runs-served defaults old new heard later xs made end input h left plain are within between =
    let r = runs-read old new heard input h left in
    pulls-served defaults heard later xs made end input r.rest h.said plain are within between r.responses
