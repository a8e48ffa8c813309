-- The requests that a server read are those that its client wrote.
use Rattle.std.proofs.Common.{◌≡◌, ℕ, List, [], ◌∷◌, ◌++◌, length, Option, Some, None, unwrap_or, refl, sym, ap, ◌∙◌, subst, append_assoc}
use Rattle.std.specs.List.{AllByRecursion}
use Rattle.httparse.specs.Grammar.{ReadsRequest}
use Rattle.httparse.proofs.GrammarLemmas.{request_unique}
use Rattle.http_heads.specs.Heads.{HeadParts, head_parts}
use Rattle.http_heads.specs.Fronts.{HasWholeHead}
use Rattle.http_heads.proofs.BlankLemmas.{blank-none}
use Rattle.http_wire.specs.HeadReads.{continue_due}
use Rattle.http_bodies.specs.Bodies.{OfLength, IsBody}
use Rattle.http_bodies.specs.Laws.{bodies_are_one}
use Rattle.http_client.specs.Requests.{Ask}
use Rattle.http_client.specs.Laws.{size_of, parts_asked}
use Rattle.http_client.proofs.AskLaws.{request-asks}
use Rattle.request_events.specs.declared.defaults.Defaults.{Defaults}
use Rattle.browse_http.specs.Talk as T
use Rattle.peer_talk.specs.Mirror.{IsRequest, AreRequests, written_for, IsAsked, AreAsked}

-- ---- heads

-- one input, one head
same-head : (input : List ℕ) (p q : HeadParts) (r s : List ℕ) → HasWholeHead input p r → HasWholeHead input q s → (p ≡ q) × (r ≡ s)
same-head input p q r s x y =
    let same = request_unique input x.head y.head r s x.fits.reads y.fits.reads in
    (x.says ∙ ap head_parts same.0 ∙ sym y.says, same.1)

-- no head in nothing
no-head : (input : List ℕ) (p : HeadParts) (r : List ℕ) → input ≡ [] → HasWholeHead input p r → ⊥
no-head input p r empty x = blank-none [] x.head r (subst (λ (t : List ℕ). ReadsRequest t x.head r) empty x.fits.reads)

-- what a client writes begins with the head of its first request
pub first-head : (ask : Ask) (asks : List Ask) → IsRequest ask
    → HasWholeHead (written_for (ask ∷ asks)) (parts_asked ask) (unwrap_or ask.body [] ++ written_for asks)
first-head ask asks is = request-asks ask is.plain is.text (written_for asks)

-- a head that the server read first is this one
head-first : (ask : Ask) (asks : List Ask) (head : List ℕ) (parts : HeadParts) (more : List ℕ) → IsRequest ask → T.IsHead head parts
    → written_for (ask ∷ asks) ≡ head ++ more → (parts ≡ parts_asked ask) × (more ≡ unwrap_or ask.body [] ++ written_for asks)
head-first ask asks head parts more is reads e =
    same-head (written_for (ask ∷ asks)) parts (parts_asked ask) more (unwrap_or ask.body [] ++ written_for asks)
    (subst (λ (t : List ℕ). HasWholeHead t parts more) (sym e) (reads more)) (first-head ask asks is)

-- where no request was written, no head was read
no-first : (head : List ℕ) (parts : HeadParts) (more : List ℕ) → T.IsHead head parts → [] ≡ head ++ more → ⊥
no-first head parts more reads e = no-head (head ++ more) parts more (sym e) (reads more)

-- the parts of a head that the server read first are those of the first request
pub record OfFirst (asks : List Ask) (parts : HeadParts) : Type 0 where
  pub ask : Ask
  pub others : List Ask
  pub asks_are : asks ≡ ask ∷ others
  pub parts_are : parts ≡ parts_asked ask

pub of-first : (asks : List Ask) (head : List ℕ) (parts : HeadParts) (more : List ℕ) → AreRequests asks → T.IsHead head parts
    → written_for asks ≡ head ++ more → OfFirst asks parts
of-first [] head parts more are reads e = absurd (no-first head parts more reads e)
of-first (ask ∷ asks) head parts more are reads e = record {
  ask = ask;
  others = asks;
  asks_are = refl;
  parts_are = (head-first ask asks head parts more are.0 reads e).0;
}

-- a client that doesn't wait isn't asked for its body
pub unasked : (ask : Ask) (parts : HeadParts) → parts ≡ parts_asked ask → continue_due parts ≡ []
unasked ask parts same = ap continue_due same

-- ---- exchanges

-- a request that was read is the first, and what follows it was written for the others
pub record IsFirst (ask : Ask) (asks : List Ask) (x : T.Exchange) (input : List ℕ) : Type 0 where
  pub asked : IsAsked ask x
  pub others : written_for asks ≡ input

sized : (body : Option (List ℕ)) → length (unwrap_or body []) ≡ unwrap_or (size_of body) 0
sized None = refl
sized (Some bytes) = refl

is-first : (defaults : Defaults) (ask : Ask) (asks : List Ask) (x : T.Exchange) (input : List ℕ) → IsRequest ask → T.IsExchange defaults x
    → written_for (ask ∷ asks) ≡ (x.head ++ x.raw) ++ input → IsFirst ask asks x input
is-first defaults ask asks x input is exchange e =
    let first : (x.parts ≡ parts_asked ask) × (x.raw ++ input ≡ unwrap_or ask.body [] ++ written_for asks) =
    head-first ask asks x.head x.parts (x.raw ++ input) is exchange.head (e ∙ append_assoc x.head x.raw input) in
    let body : IsBody (OfLength (unwrap_or (size_of ask.body) 0)) x.raw x.body =
    subst (λ (p : HeadParts). IsBody (T.coding_of p) x.raw x.body) first.0 exchange.body in
    let same = bodies_are_one (OfLength (unwrap_or (size_of ask.body) 0)) x.raw (unwrap_or ask.body []) x.body (unwrap_or ask.body [])
    input (written_for asks) body (refl, sized ask.body) first.1 in
    record { asked = record { parts = first.0; body = same.1 }; others = sym same.2 }

-- the exchanges are of the first requests, and what follows them was written for the later ones
pub record AreFirst (asks : List Ask) (xs : List T.Exchange) (rest : List ℕ) : Type 0 where
  pub asked : AreAsked asks xs
  pub earlier : List Ask
  pub later : List Ask
  pub asks_are : asks ≡ earlier ++ later
  pub rest_is : written_for later ≡ rest

pub are-first : (defaults : Defaults) (asks : List Ask) (xs : List T.Exchange) (rest : List ℕ) → AreRequests asks → T.AreExchanges defaults xs
    → written_for asks ≡ T.requests xs ++ rest → AreFirst asks xs rest
are-first defaults asks [] rest are exchanges e = record { asked = tt; earlier = []; later = asks; asks_are = refl; rest_is = e }
are-first defaults [] (x ∷ xs) rest are exchanges e =
    absurd (no-first x.head x.parts (x.raw ++ (T.requests xs ++ rest)) exchanges.0.head (e ∙ append_assoc (x.head ++ x.raw) (T.requests xs) rest ∙ append_assoc x.head x.raw (T.requests xs ++ rest)))
are-first defaults (ask ∷ asks) (x ∷ xs) rest are exchanges e =
    let first = is-first defaults ask asks x (T.requests xs ++ rest) are.0 exchanges.0 (e ∙ append_assoc (x.head ++ x.raw) (T.requests xs) rest) in
    let more : AreFirst asks xs rest = are-first defaults asks xs rest are.1 exchanges.1 first.others in
    record {
      asked = (first.asked, more.asked);
      earlier = ask ∷ more.earlier;
      later = more.later;
      asks_are = ap (λ (t : List Ask). ask ∷ t) more.asks_are;
      rest_is = more.rest_is;
    }

-- what is so of all requests is so of the later ones
pub all-later : (P : Ask → Type 0) (earlier later : List Ask) → AllByRecursion P (earlier ++ later) → AllByRecursion P later
all-later P [] later all = all
all-later P (ask ∷ earlier) later all = all-later P earlier later all.1
