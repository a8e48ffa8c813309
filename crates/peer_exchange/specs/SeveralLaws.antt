-- Laws of exchanges, for the loops of the crates above.
use Rattle.std.specs.Prelude.{◌≡◌, ℕ, ◌≤◌, List, [], ◌∷◌, ◌++◌, Option, Some, None, Result, Ok, Err, refl}
use Rattle.std.specs.Global.{Vec}
use Rattle.std.proofs.Common.{sym, ap, subst, ◌∙◌, arith, append_assoc, append-nil}
use Rattle.stream_traits.specs.Seen.{LinkSeen}
use Rattle.stream_traits.specs.Told.{before, behind, WroteFront}
use Rattle.stream_traits.specs.ToldLaws.{before_nil, before_append, behind_nil, behind_append, WroteFront-all, WroteFront-none, WroteFront-after}
use Rattle.http_heads.specs.Responses.{HasResponse}
use Rattle.http_client.specs.Requests.{Ask, request_bytes}
use Rattle.http_client.specs.ResponseReads.{TookSome}
use Rattle.peer_exchange.specs.declared.fault.PeerFault.{PeerFault}
use Rattle.peer_exchange.specs.declared.fault.PeerFault.TheVariants.{Refused, Foreign, Link, Memory}
use Rattle.peer_exchange.specs.Exchanges.{Sends, Answers, foreign, ended, cut, unasked, unread, too_long, Breaks, Exchanges}
use Rattle.peer_exchange.specs.Several.{Exchange, asked, AreSent, TakesResponses, AreExchanged, HasResponses}

-- ---- one

-- nothing was taken
took_none : (left left' : Option (List ℕ)) → left' ≡ left → TookSome left left'
took_none left left' same = record { taken = []; took = sym same ∙ sym (before_nil left') }

breaks : (old new : LinkSeen) (ask : Ask) → Sends old new ask → TookSome old.left new.left → Breaks old new ask
breaks old new ask sends took =
    record { wrote = WroteFront-all old.written new.written (request_bytes ask) sends.wrote; took = took }

-- whatever an exchange comes to, a front of the request was written, and a front of the input taken
pub Exchanges-breaks : (old new : LinkSeen) (ask : Ask) (wanted most : ℕ) (outcome : Result (Vec ℕ) PeerFault)
    → Exchanges old new ask wanted most outcome → Breaks old new ask
Exchanges-breaks old new ask wanted most (Ok body) a =
    breaks old new ask a.sends (record { taken = a.took.head ++ body.items; took = a.took.took })
Exchanges-breaks old new ask wanted most (Err (Refused status)) x =
    let a = x.answers in breaks old new ask a.sends (record { taken = a.took.head ++ x.body; took = a.took.took })
Exchanges-breaks old new ask wanted most (Err Foreign) (foreign sends none) =
    breaks old new ask sends (took_none old.left new.left none.same)
Exchanges-breaks old new ask wanted most (Err Foreign) (ended sends none) =
    breaks old new ask sends (took_none old.left new.left none.same)
Exchanges-breaks old new ask wanted most (Err Foreign) (cut sends reads) = breaks old new ask sends reads.some
Exchanges-breaks old new ask wanted most (Err Link) x = x
Exchanges-breaks old new ask wanted most (Err Memory) (unasked same) = record {
  wrote = subst (λ (seen : LinkSeen). WroteFront old.written seen.written (request_bytes ask)) (sym same)
      (WroteFront-none old.written (request_bytes ask));
  took = took_none old.left new.left (ap (λ (seen : LinkSeen). seen.left) same);
}
Exchanges-breaks old new ask wanted most (Err Memory) (unread sends took) = breaks old new ask sends took
Exchanges-breaks old new ask wanted most (Err Memory) (too_long sends none) =
    breaks old new ask sends (took_none old.left new.left none.same)

-- ---- several

-- none
pub AreExchanged-none : (most : ℕ) (seen : LinkSeen) → AreExchanged most seen seen []
AreExchanged-none most seen = record { wrote = sym (behind_nil seen.written); sent = refl; took = refl }

-- one that was answered
pub AreExchanged-one : (most : ℕ) (old new : LinkSeen) (x : Exchange) → Answers old new x.ask most x.status x.body
    → AreExchanged most old new (x ∷ [])
AreExchanged-one most old new x a = record {
  wrote = a.sends.wrote ∙ ap (behind old.written) (sym (append-nil (request_bytes x.ask)));
  sent = a.sends.sent;
  took = (new.left, a.took, refl);
}

pub asked-append : (xs ys : List Exchange) → asked (xs ++ ys) ≡ asked xs ++ asked ys
asked-append [] ys = refl
asked-append (x ∷ xs) ys =
    ap (λ bytes. request_bytes x.ask ++ bytes) (asked-append xs ys) ∙ sym (append_assoc (request_bytes x.ask) (asked xs) (asked ys))

took-append : (most : ℕ) (left mid left' : Option (List ℕ)) (xs ys : List Exchange) → TakesResponses most left mid xs
    → TakesResponses most mid left' ys → TakesResponses most left left' (xs ++ ys)
took-append most left mid left' [] ys here later = subst (λ (l : Option (List ℕ)). TakesResponses most l left' ys) here later
took-append most left mid left' (x ∷ xs) ys here later = (here.0, here.1, took-append most here.0 mid left' xs ys here.2 later)

sent-append : (old mid new : LinkSeen) (xs ys : List Exchange) → AreSent old mid xs → AreSent mid new ys
    → new.written ≡ behind mid.written (asked ys) → AreSent old new (xs ++ ys)
sent-append old mid new [] [] here later wrote = later ∙ here
sent-append old mid new [] (y ∷ ys) here later wrote = later
sent-append old mid new (x ∷ xs) [] here later wrote = later ∙ here ∙ sym (wrote ∙ behind_nil mid.written)
sent-append old mid new (x ∷ xs) (y ∷ ys) here later wrote = later

-- some, and then others
pub AreExchanged-joined : (most : ℕ) (old mid new : LinkSeen) (xs ys : List Exchange) → AreExchanged most old mid xs
    → AreExchanged most mid new ys → AreExchanged most old new (xs ++ ys)
AreExchanged-joined most old mid new xs ys here later = record {
  wrote = later.wrote ∙ ap (λ written. behind written (asked ys)) here.wrote ∙ sym (behind_append old.written (asked xs) (asked ys))
      ∙ ap (behind old.written) (sym (asked-append xs ys));
  sent = sent-append old mid new xs ys here.sent later.sent later.wrote;
  took = took-append most old.left mid.left new.left xs ys here.took later.took;
}

raised : (most more : ℕ) (left left' : Option (List ℕ)) (xs : List Exchange) → most ≤ more → TakesResponses most left left' xs
    → TakesResponses more left left' xs
raised most more left left' [] fits took = took
raised most more left left' (x ∷ xs) fits took =
    let t = took.1 in (
      took.0,
      record { head = t.head; took = t.took; few = omega (arith, t.few, fits); whole = t.whole },
      raised most more took.0 left' xs fits took.2,
    )

-- longer bodies might have been taken
pub AreExchanged-raised : (most more : ℕ) (old new : LinkSeen) (xs : List Exchange) → most ≤ more → AreExchanged most old new xs
    → AreExchanged more old new xs
AreExchanged-raised most more old new xs fits x =
    record { wrote = x.wrote; sent = x.sent; took = raised most more old.left new.left xs fits x.took }

-- ---- the input

took-some : (most : ℕ) (left left' : Option (List ℕ)) (xs : List Exchange) → TakesResponses most left left' xs → TookSome left left'
took-some most left left' [] took = took_none left left' took
took-some most left left' (x ∷ xs) took =
    let later = took-some most took.0 left' xs took.2 in
    let bytes = took.1.head ++ x.body in
    record { taken = bytes ++ later.taken; took = took.1.took ∙ ap (before bytes) later.took ∙ sym (before_append bytes later.taken left') }

-- some, and then one that breaks off
pub AreExchanged-breaks : (most : ℕ) (old mid new : LinkSeen) (xs : List Exchange) (ask : Ask) → AreExchanged most old mid xs
    → Breaks mid new ask → WroteFront old.written new.written (asked xs ++ request_bytes ask) × TookSome old.left new.left
AreExchanged-breaks most old mid new xs ask here last =
    let earlier = took-some most old.left mid.left xs here.took in (
      WroteFront-after old.written mid.written new.written (asked xs) (request_bytes ask) here.wrote last.wrote,
      record {
        taken = earlier.taken ++ last.took.taken;
        took = earlier.took ∙ ap (before earlier.taken) last.took.took
            ∙ sym (before_append earlier.taken last.took.taken new.left);
      },
    )

told-behind : (left : Option (List ℕ)) (bytes input : List ℕ) → before bytes left ≡ Some input
    → (rest : List ℕ) × (left ≡ Some rest) × (input ≡ bytes ++ rest)
told-behind None bytes input is = let no : ⊥ = cc (is) in absurd no
told-behind (Some rest) bytes input is = let all : bytes ++ rest ≡ input = cc (is) in (rest, refl, sym all)

-- where it is told, it begins with the responses in order, and what follows them is left
pub TakesResponses-told : (most : ℕ) (left left' : Option (List ℕ)) (xs : List Exchange) → TakesResponses most left left' xs
    → (input : List ℕ) → left ≡ Some input → (rest : List ℕ) × (left' ≡ Some rest) × HasResponses input xs rest
TakesResponses-told most left left' [] took input is = (input, took ∙ is, refl)
TakesResponses-told most left left' (x ∷ xs) took input is =
    let t = took.1 in
    let w : (next : List ℕ) × (took.0 ≡ Some next) × (input ≡ (t.head ++ x.body) ++ next) =
    told-behind took.0 (t.head ++ x.body) input (sym t.took ∙ is) in
    let later = TakesResponses-told most took.0 left' xs took.2 w.0 w.1 in
    let same : input ≡ t.head ++ (x.body ++ w.0) = w.2 ∙ append_assoc t.head x.body w.0 in (
      later.0,
      later.1,
      (w.0, subst (λ (bytes : List ℕ). HasResponse bytes x.status x.body w.0) (sym same) (t.whole w.0), later.2),
    )
