-- What a server says last, behind its responses, and what it called of a request that it didn't read whole.
use Rattle.std.proofs.Common.{◌≡◌, ℕ, ◌≤◌, ◌⊎◌, Bool, false, nat_lt, List, [], ◌∷◌, ◌++◌, length, drop, Option, Some, None, Ok, Err, IfSome, unwrap_or, if◌then◌else◌, refl, sym, ap, ◌∙◌, subst, inl, inr, arith, append_assoc, append-nil}
use Rattle.std.specs.List.{AllByRecursion}
use Rattle.std.proofs.lemmas.List.{take-append-drop}
use Rattle.std.proofs.lemmas.Bool.Decides.{nat_tests}
use Rattle.http_heads.specs.declared.refusal.HeadRefusal.{HeadRefusal}
use Rattle.http_heads.specs.Heads.{HeadParts}
use Rattle.http_heads.specs.Fronts.{Read, Bad, Ended as IsEnded, HasWholeHead, IsRefused}
use Rattle.http_heads.proofs.FrontLaws.{refused_front-decides, head-decides, blank_input-ends}
use Rattle.http_wire.specs.Message.{no_memory_response}
use Rattle.http_bodies.specs.declared.body.Place.{Place}
use Rattle.http_bodies.specs.declared.body.Place.TheVariants.{Counted, Line, InChunk, Trailer, Done}
use Rattle.http_bodies.specs.declared.stop.BodyStop.{BodyStop}
use Rattle.http_bodies.specs.declared.stop.BodyStop.TheVariants as S
use Rattle.http_bodies.specs.Bodies.{OfLength, IsAtPlace, IsLined}
use Rattle.http_client.specs.Requests.{Ask}
use Rattle.http_client.specs.Laws.{size_of, parts_asked}
use Rattle.office_model.specs.Office.{piece_limit}
use Rattle.office_model.specs.Step.{Call}
use Rattle.request_events.specs.declared.plan.FilePut.{FilePut}
use Rattle.request_events.specs.declared.plan.Plan.{Plan}
use Rattle.request_events.specs.declared.plan.Plan.TheVariants as P
use Rattle.request_events.specs.Said.{Said}
use Rattle.request_events.specs.Plans.{planned}
use Rattle.request_events.specs.Asked.{goes_by_stages, staged_by}
use Rattle.http_replies.specs.declared.body_refusal.BodyRefusal.{BodyRefusal}
use Rattle.http_replies.specs.declared.body_refusal.BodyRefusal.TheVariants.{BadChunk, FileTooLarge}
use Rattle.browse_http.specs.declared.end.End.{End}
use Rattle.browse_http.specs.declared.end.End.TheVariants.{Ended, Truncated, BadRequest, LinkFault, Memory, Cut}
use Rattle.browse_http.specs.Talk as T
use Rattle.peer_talk.specs.Mirror.{AreRequests, written_for}
use Rattle.peer_talk.proofs.AskedLaws.{first-head, OfFirst, of-first, unasked}

-- ---- heads

pub nil_front : (xs ys : List ℕ) → xs ++ ys ≡ [] → xs ≡ []
nil_front [] ys e = refl
nil_front (x ∷ xs) ys e = cc

-- an input with a head that is taken isn't refused
not-refused : (input : List ℕ) (p : HeadParts) (r : List ℕ) (refusal : HeadRefusal) → HasWholeHead input p r → IsRefused input refusal → ⊥
not-refused input p r refusal x y =
    let a = head-decides input x.head r (Read p r) x.fits.reads x in
    let b = head-decides input x.head r (Bad refusal) x.fits.reads y in
    let e : Read p r ≡ Bad refusal = a ∙ sym b in
    cc

not-refused-nil : (input : List ℕ) (refusal : HeadRefusal) → input ≡ [] → IsRefused input refusal → ⊥
not-refused-nil input refusal empty x =
    let e : Bad refusal ≡ IsEnded =
    blank_input-ends [] (Bad refusal) ([], refl) (omega arith) (subst (λ (t : List ℕ). IsRefused t refusal) empty x) in
    cc

-- no head of a client is refused
none-refused : (asks : List Ask) (rest unread : List ℕ) (refusal : HeadRefusal) → AreRequests asks → written_for asks ≡ rest ++ unread
    → IsRefused rest refusal → ⊥
none-refused [] rest unread refusal are e is = not-refused-nil rest refusal (nil_front rest unread (sym e)) is
none-refused (ask ∷ asks) rest unread refusal are e is =
    not-refused (rest ++ unread) (parts_asked ask) (unwrap_or ask.body [] ++ written_for asks) refusal
    (subst (λ (t : List ℕ). HasWholeHead t (parts_asked ask) (unwrap_or ask.body [] ++ written_for asks)) e (first-head ask asks are.0))
    (refused_front-decides rest unread refusal is)

-- ---- bodies

-- a body of a length has no chunk that could be refused
not-lined : (count room : ℕ) (place : Place) (raw got : List ℕ) → IsAtPlace (OfLength count) place room raw got → IsLined place → ⊥
not-lined count room (Counted left) raw got at lined = lined
not-lined count room Line raw got at lined = at
not-lined count room (InChunk left) raw got at lined = at
not-lined count room Trailer raw got at lined = at
not-lined count room Done raw got at lined = at

not-at_line : (count room : ℕ) (place : Place) (raw got : List ℕ) → IsAtPlace (OfLength count) place room raw got → place ≡ Line → ⊥
not-at_line count room (Counted left) raw got at is = cc
not-at_line count room Line raw got at is = at
not-at_line count room (InChunk left) raw got at is = at
not-at_line count room Trailer raw got at is = at
not-at_line count room Done raw got at is = at

-- the request in whose body the reading stopped is the first
in-first : (asks : List Ask) (stop : BodyStop) (rest unread : List ℕ) (made : List Call) (prefix : List ℕ) → AreRequests asks
    → written_for asks ≡ rest ++ unread → (s : T.StopsInBody stop rest made prefix) → OfFirst asks s.parts
in-first asks stop rest unread made prefix are e s =
    of-first asks s.head s.parts ((s.raw ++ s.more) ++ unread) are s.is_head
    (e ∙ ap (λ (t : List ℕ). t ++ unread) s.rest_is ∙ append_assoc s.head (s.raw ++ s.more) unread)

-- no body of a client is refused
body-sound : (asks : List Ask) (refusal : BodyRefusal) (rest unread : List ℕ) (made : List Call) (prefix : List ℕ) → AreRequests asks
    → written_for asks ≡ rest ++ unread → T.StopsInBody (T.stop_of refusal) rest made prefix → ⊥
body-sound asks refusal rest unread made prefix are e s =
    let first = in-first asks (T.stop_of refusal) rest unread made prefix are e s in
    let count = unwrap_or (size_of first.ask.body) 0 in
    by refusal count s (subst (λ (p : HeadParts). IsAtPlace (T.coding_of p) s.place.place s.place.room s.raw s.got) first.parts_are s.at)
  where
    by : (why : BodyRefusal) (count : ℕ) (t : T.StopsInBody (T.stop_of why) rest made prefix)
        → IsAtPlace (OfLength count) t.place.place t.place.room t.raw t.got → ⊥
    by BadChunk count t at = not-lined count t.place.room t.place.place t.raw t.got at t.cause.0
    by FileTooLarge count t at = not-at_line count t.place.room t.place.place t.raw t.got at t.cause.at_line

-- no client waits to be asked for its body
quiet : (asks : List Ask) (stop : BodyStop) (rest unread : List ℕ) (made : List Call) (prefix : List ℕ) → AreRequests asks
    → written_for asks ≡ rest ++ unread → T.StopsInBody stop rest made prefix → prefix ≡ []
quiet asks stop rest unread made prefix are e s =
    let first = in-first asks stop rest unread made prefix are e s in
    s.prefix_is ∙ unasked first.ask s.parts first.parts_are

-- ---- the last word

-- nothing, or that there is no memory
abbrev pub IsLast : List ℕ → Type 0
IsLast word = (word ≡ []) ⊎ (word ≡ no_memory_response)

module _ (asks : List Ask) (rest unread : List ℕ) (made : List Call) (are : AreRequests asks) (e : written_for asks ≡ rest ++ unread) where
  asked-last : (prefix : List ℕ) → T.MayAsk rest made prefix → prefix ≡ []
  asked-last prefix (inl none) = none.1
  asked-last prefix (inr s) = quiet asks S.Memory rest unread made prefix are e s

  memory-last : (word : List ℕ) → T.SaysNoMemory rest made word → IsLast word
  memory-last word says = inr (says.word_is ∙ ap (λ (t : List ℕ). t ++ no_memory_response) (asked-last says.prefix says.may))

  head-last : (word : List ℕ) → T.RefusesHead rest made word → ⊥
  head-last word refuses = none-refused asks rest unread refuses.refusal are e refuses.refused.whole

  body-last : (word : List ℕ) → T.RefusesBody rest made word → ⊥
  body-last word refuses = body-sound asks refuses.refusal rest unread made refuses.prefix are e refuses.body

  said-last : (word : List ℕ) → T.MaySay rest made word → IsLast word
  said-last word (inl refuses) = absurd (head-last word refuses)
  said-last word (inr (inl refuses)) = absurd (body-last word refuses)
  said-last word (inr (inr says)) = memory-last word says

  -- what is said last is a front of that
  pub uncalled-last : (end : End) (word : List ℕ) → T.StopsUncalled end rest made word → (lacks : List ℕ) × IsLast (word ++ lacks)
  uncalled-last Ended word stops = ([], inl (append-nil word ∙ stops.2))
  uncalled-last Truncated word (inl stops) = ([], inl (append-nil word ∙ stops.2))
  uncalled-last Truncated word (inr s) = ([], inl (append-nil word ∙ quiet asks S.Truncated rest unread made word are e s))
  uncalled-last BadRequest word (inl refuses) = absurd (head-last word refuses)
  uncalled-last BadRequest word (inr refuses) = absurd (body-last word refuses)
  uncalled-last Memory word says = ([], subst IsLast (sym (append-nil word)) (memory-last word says))
  uncalled-last LinkFault word (full, n, may, is) =
      (drop n full, subst IsLast (sym (take-append-drop n full) ∙ ap (λ (t : List ℕ). t ++ drop n full) (sym is)) (said-last full may))
  uncalled-last (Cut refusal) word stops = absurd stops

-- a response that was said last is a front of what is said of its outcome
pub called-last : (end : End) (outcome : T.Outcome) (closes is_head : Bool) (word : List ℕ) → T.StopsCalled end outcome closes is_head word
    → (lacks : List ℕ) × (word ++ lacks ≡ T.response_of outcome closes is_head)
called-last Ended outcome closes is_head word stops = ([], append-nil word ∙ stops.2)
called-last Truncated outcome closes is_head word stops = absurd stops
called-last BadRequest outcome closes is_head word stops = absurd stops
called-last Memory outcome closes is_head word stops = ([], append-nil word ∙ stops.1)
called-last (Cut refusal) outcome closes is_head word stops = ([], append-nil word ∙ stops.1)
called-last LinkFault outcome closes is_head word (n, is) = (
  drop n (T.response_of outcome closes is_head),
  ap (λ (t : List ℕ). t ++ drop n (T.response_of outcome closes is_head)) is ∙ take-append-drop n (T.response_of outcome closes is_head),
)

-- ---- what was called of a request that wasn't read whole

abbrev pub IsShort : Ask → Type 0
IsShort ask = IfSome ask.body (λ body. length body ≤ piece_limit)

not_more : (n : ℕ) → n ≤ piece_limit → nat_lt piece_limit n ≡ false
unfolding piece_limit
not_more n few = grind (arith, nat_tests)

none_more : nat_lt piece_limit 0 ≡ false
unfolding piece_limit
none_more = refl

no_stage : (body : Option (List ℕ)) → IfSome body (λ bytes. length bytes ≤ piece_limit) → nat_lt piece_limit (unwrap_or (size_of body) 0) ≡ false
no_stage None short = none_more
no_stage (Some bytes) short = not_more (length bytes) short

none-staged : (by_stages : Bool) (plan : Plan) → by_stages ≡ false → staged_by by_stages plan ≡ None
none-staged by_stages (P.PutFile put) e = ap (λ (b : Bool). if b then Some put else None) e
none-staged by_stages plan e = refl

none-staged_of : (parts : HeadParts) (said : Said Plan) → goes_by_stages parts ≡ false → T.staged_of parts said ≡ None
none-staged_of parts (Ok plan) e = none-staged (goes_by_stages parts) plan e
none-staged_of parts (Err refusal) e = refl

none-called : (stop : BodyStop) (got : List ℕ) (made : List Call) → T.CallsOf stop None got made → made ≡ []
none-called S.LinkFault got made (inl none) = none
none-called S.LinkFault got made (inr none) = none
none-called S.Memory got made (inl none) = none
none-called S.Memory got made (inr none) = none
none-called S.Truncated got made none = none
none-called S.BadChunk got made none = none
none-called S.TooLarge got made none = none

module _ (asks : List Ask) (rest unread : List ℕ) (made : List Call) (are : AreRequests asks) (short : AllByRecursion IsShort asks)
    (e : written_for asks ≡ rest ++ unread) where
  body-calls : (stop : BodyStop) (prefix : List ℕ) → T.StopsInBody stop rest made prefix → made ≡ []
  body-calls stop prefix s =
      let first = in-first asks stop rest unread made prefix are e s in
      let small : AllByRecursion IsShort (first.ask ∷ first.others) = subst (AllByRecursion IsShort) first.asks_are short in
      let whole = ap goes_by_stages first.parts_are ∙ no_stage first.ask.body small.0 in
      none-called stop s.got made
      (subst (λ (staged : Option FilePut). T.CallsOf stop staged s.got made) (none-staged_of s.parts (planned s.parts) whole) s.calls)

  memory-calls : (word : List ℕ) → T.SaysNoMemory rest made word → made ≡ []
  memory-calls word says = by says.prefix says.may
    where
      by : (prefix : List ℕ) → T.MayAsk rest made prefix → made ≡ []
      by prefix (inl none) = none.0
      by prefix (inr s) = body-calls S.Memory prefix s

  said-calls : (word : List ℕ) → T.MaySay rest made word → made ≡ []
  said-calls word (inl refuses) = refuses.none
  said-calls word (inr (inl refuses)) = body-calls (T.stop_of refuses.refusal) refuses.prefix refuses.body
  said-calls word (inr (inr says)) = memory-calls word says

  -- nothing was called of it
  pub uncalled-calls : (end : End) (word : List ℕ) → T.StopsUncalled end rest made word → made ≡ []
  uncalled-calls Ended word stops = stops.1
  uncalled-calls Truncated word (inl stops) = stops.1
  uncalled-calls Truncated word (inr s) = body-calls S.Truncated word s
  uncalled-calls BadRequest word (inl refuses) = refuses.none
  uncalled-calls BadRequest word (inr refuses) = body-calls (T.stop_of refuses.refusal) refuses.prefix refuses.body
  uncalled-calls Memory word says = memory-calls word says
  uncalled-calls LinkFault word (full, n, may, is) = said-calls full may
  uncalled-calls (Cut refusal) word stops = absurd stops
