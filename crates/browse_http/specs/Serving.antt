-- What the steps of a connection give: what came of a request, an exchange, the exchanges so far.
use Rattle.std.specs.Prelude.{◌≡◌, ◌⊎◌, ℕ, ◌<◌, Bool, true, false, List, [], ◌∷◌, ◌++◌, length, Option, Some, None, Result, Ok, Err}
use Rattle.stream_traits.specs.Told.{before, behind, WroteFront}
use Rattle.office_model.specs.declared.event.Event.{Event}
use Rattle.office_model.specs.declared.event.Event.TheVariants as E
use Rattle.office_model.specs.Step.{Call}
use Rattle.call_scripts.specs.Moments.{Gave}
use Rattle.http_heads.specs.Heads.{HeadParts}
use Rattle.http_wire.specs.Message.{no_memory_response}
use Rattle.http_bodies.specs.declared.body.Body.{Body}
use Rattle.http_bodies.specs.declared.stop.BodyStop.{BodyStop}
use Rattle.http_bodies.specs.Bodies.{is_done}
use Rattle.http_bodies.specs.Reads.{Reads, StopsAt}
use Rattle.request_events.specs.declared.defaults.Defaults.{Defaults}
use Rattle.request_events.specs.declared.refusal.RequestFault.{RequestFault}
use Rattle.request_events.specs.declared.refusal.RequestFault.TheVariants.{Refused as RefusedAs, Memory as NoMemoryFor}
use Rattle.request_events.specs.Plans.{planned}
use Rattle.request_events.specs.Asked.{asked}
use Rattle.http_replies.specs.Messages.{reply_response}
use Rattle.browse_http.specs.declared.end.End.{End}
use Rattle.browse_http.specs.declared.end.End.TheVariants.{Ended, Memory, LinkFault}
use Rattle.browse_http.specs.Scripts.{IsRunOf, event_script, file_script, Fine, NoMemory, reply_fate, ReadOnce}
use Rattle.browse_http.specs.Talk.{Outcome, Refused, Called, Stopped, Unsaid, Lost, Exchange, IsOutcome, staged_of, CallsOf, IsExchange, AreExchanges, IsBegun, GoOn, requests, said, said_at, calls_in, calls_of, moments_of, goes_on, outcome_fate, response_of, request_limit, final_list, takes_nothing, Stops, StopsCalled}
use Rattle.browse_http.specs.Reading.{SaysLast, EndsBody}
use Rattle.browse_http.specs.Staging.{Lacks}

-- ---- responses

-- the connection ended by the response to what came of a request
pub record EndsCalled (written written' : Option (List ℕ)) (outcome : Outcome) (closes is_head : Bool) (end : End) : Type 0 where
  pub response : List ℕ
  pub wrote : written' ≡ behind written response
  pub stops : StopsCalled end outcome closes is_head response

-- the response to what came of a request went out, and the connection goes on
pub record Responds (written written' : Option (List ℕ)) (outcome : Outcome) (closes is_head : Bool) : Type 0 where
  pub wrote : written' ≡ behind written (response_of outcome closes is_head)
  pub stays_open : closes ≡ false
  pub fine : outcome_fate outcome ≡ Fine

-- the response to one call went out, and the connection goes on
pub record Answers (written written' : Option (List ℕ)) (call : Call) (closes is_head : Bool) : Type 0 where
  pub wrote : written' ≡ behind written (reply_response call.0 call.1 closes is_head)
  pub stays_open : closes ≡ false
  pub fine : reply_fate call.1 ≡ Fine

-- or the connection ended by it
abbrev pub AnswersLast : Option (List ℕ) → Option (List ℕ) → Call → Bool → Bool → End → Type 0
AnswersLast written written' call closes is_head Ended =
    (closes ≡ true) × (reply_fate call.1 ≡ Fine) × (written' ≡ behind written (reply_response call.0 call.1 closes is_head))
AnswersLast written written' call closes is_head Memory =
    (reply_fate call.1 ≡ NoMemory) × (written' ≡ behind written (reply_response call.0 call.1 closes is_head))
AnswersLast written written' call closes is_head LinkFault = WroteFront written written' (reply_response call.0 call.1 closes is_head)
AnswersLast written written' call closes is_head end = ⊥

-- or there was no memory for it
abbrev pub Unanswered : Option (List ℕ) → Option (List ℕ) → Call → End → Type 0
Unanswered written written' call end = Lacks call.1 × SaysLast no_memory_response Memory written written' end

abbrev pub EndsReply : Option (List ℕ) → Option (List ℕ) → Call → Bool → Bool → End → Type 0
EndsReply written written' call closes is_head end =
    AnswersLast written written' call closes is_head end ⊎ Unanswered written written' call end

-- ---- what came of an event

-- what came of a file in parts
abbrev pub IsFile : Event → Outcome → Type 0
IsFile event (Called calls) = IsRunOf (file_script event None) calls
IsFile event (Stopped count calls) = IsRunOf (file_script event (Some count)) calls
IsFile event outcome = ⊥

-- whatever the port was before this call
abbrev pub Behind : {P : Type 0} (moves : P → List Call → P → Type 0) → Call → P → (P → Type 0) → Type 0
Behind {P = P} moves call now goes = (before : P) → moves before (call ∷ []) now → goes before

abbrev pub is_open : Event → Bool
is_open (E.OpenFile host number path) = true
is_open event = false

-- what came of an event, or of its want
abbrev pub IsOf : Result Event RequestFault → Outcome → Type 0
IsOf (Ok event) (Called calls) = IsRunOf (event_script event None) calls
IsOf (Ok event) (Stopped count calls) = IsRunOf (event_script event (Some count)) calls
IsOf (Ok event) (Unsaid calls) = IsRunOf (event_script event None) calls × ReadOnce calls
IsOf (Err (RefusedAs refusal)) (Refused named) = named ≡ refusal
IsOf (Err NoMemoryFor) Lost = Unit {0}
IsOf judged outcome = ⊥

-- an outcome that has this property, its calls and its response, and the connection goes on
pub record CarriesOut (is : Outcome → Type 0) {P : Type 0} (moves : P → List Call → P → Type 0) (old new : P)
    (written written' : Option (List ℕ)) (closes is_head : Bool) : Type 0 where
  pub outcome : Outcome
  pub is_of : is outcome
  pub moved : moves old (calls_in outcome) new
  pub responds : Responds written written' outcome closes is_head

-- the same if the connection ended by the response
pub record CarriesOutLast (is : Outcome → Type 0) {P : Type 0} (moves : P → List Call → P → Type 0) (old new : P)
    (written written' : Option (List ℕ)) (closes is_head : Bool) (end : End) : Type 0 where
  pub outcome : Outcome
  pub is_of : is outcome
  pub moved : moves old (calls_in outcome) new
  pub ends : EndsCalled written written' outcome closes is_head end

-- ---- a request whose head was read

-- its body was read to its end, and what came of it
pub record Attended (defaults : Defaults) (parts : HeadParts) {P : Type 0} (moves : P → List Call → P → Type 0) (old new : P) (body : Body)
    (left left' moments moments' : Option (List ℕ)) : Type 0 where
  pub last : Body
  pub got : List ℕ
  pub reads : Reads body last left left' got
  pub done : is_done last ≡ true
  pub moment : ℕ
  pub clock : Gave moments (moment ∷ []) moments'
  pub outcome : Outcome
  pub is_of : IsOutcome (asked parts got moment defaults) got outcome
  pub moved : moves old (calls_in outcome) new

-- it was carried out, and the connection goes on
pub record Attends (defaults : Defaults) (parts : HeadParts) {P : Type 0} (moves : P → List Call → P → Type 0) (old new : P) (body : Body)
    (left left' written written' moments moments' : Option (List ℕ)) (closes is_head : Bool) : Type 0 where
  pub attended : Attended defaults parts moves old new body left left' moments moments'
  pub responds : Responds written written' attended.outcome closes is_head

-- it was, and the connection ended by the response
pub record AttendsEnd (defaults : Defaults) (parts : HeadParts) {P : Type 0} (moves : P → List Call → P → Type 0) (old new : P)
    (body : Body) (left left' written written' moments moments' : Option (List ℕ)) (closes is_head : Bool) (end : End) : Type 0 where
  pub attended : Attended defaults parts moves old new body left left' moments moments'
  pub ends : EndsCalled written written' attended.outcome closes is_head end

-- the reading of the body stopped
pub record AttendsPart (parts : HeadParts) {P : Type 0} (moves : P → List Call → P → Type 0) (old new : P) (body : Body)
    (left left' written written' moments moments' : Option (List ℕ)) (is_head : Bool) (end : End) : Type 0 where
  pub stop : BodyStop
  pub place : Body
  pub got : List ℕ
  pub reads : Reads body place left left' got
  pub cause : (more : List ℕ) → left' ≡ Some more → StopsAt stop place more
  pub made : List Call
  pub moved : moves old made new
  pub calls : CallsOf stop (staged_of parts (planned parts)) got made
  pub ends : EndsBody stop is_head written written' end
  pub clock : moments' ≡ moments

abbrev pub AttendsLast : (defaults : Defaults) (parts : HeadParts) {P : Type 0} (moves : P → List Call → P → Type 0) (old new : P)
    (body : Body) (left left' written written' moments moments' : Option (List ℕ)) (closes is_head : Bool) (end : End) → Type 0
AttendsLast defaults parts moves old new body left left' written written' moments moments' closes is_head end =
    AttendsEnd defaults parts moves old new body left left' written written' moments moments' closes is_head end
    ⊎ AttendsPart parts moves old new body left left' written written' moments moments' is_head end

-- a port that calls nothing
abbrev pub CallsNothing : Unit {0} → List Call → Unit {0} → Type 0
CallsNothing old calls new = calls ≡ []

-- ---- a connection

-- one exchange at this index, after which the connection goes on
pub record GoesOn (defaults : Defaults) {P : Type 0} (moves : P → List Call → P → Type 0) (old new : P)
    (left left' written written' moments moments' : Option (List ℕ)) (index : ℕ) : Type 0 where
  pub x : Exchange
  pub is_exchange : IsExchange defaults x
  pub moved : moves old (calls_in x.outcome) new
  pub clock : Gave moments (x.moment ∷ []) moments'
  pub goes : goes_on index x ≡ true
  pub reads : left ≡ before (x.head ++ x.raw) left'
  pub writes : written' ≡ behind written (said_at index x)

-- the connection ends at this index, with a last exchange or with the calls of a request that wasn't read whole
pub record EndsAt (defaults : Defaults) {P : Type 0} (moves : P → List Call → P → Type 0) (old new : P)
    (left left' written written' moments moments' : Option (List ℕ)) (index : ℕ) (end : End) : Type 0 where
  pub final : Option Exchange
  pub made : List Call
  pub taken : List ℕ
  pub left_is : left ≡ before (requests (final_list final) ++ taken) left'
  pub quiet : takes_nothing end ≡ true → taken ≡ []
  pub begun : (taken ≡ []) ⊎ IsBegun taken
  pub are : AreExchanges defaults (final_list final)
  pub moved : moves old (calls_of (final_list final) ++ made) new
  pub clock : Gave moments (moments_of (final_list final)) moments'
  pub word : List ℕ
  pub wrote : written' ≡ behind written word
  pub stops : (input : List ℕ) → left ≡ Some input
      → (rest : List ℕ) × (input ≡ requests (final_list final) ++ rest) × Stops end rest index final made word

-- the exchanges so far, after each of which the connection went on
pub record SoFar (defaults : Defaults) {P : Type 0} (moves : P → List Call → P → Type 0) (old new : P)
    (left left' written written' moments moments' : Option (List ℕ)) (count : ℕ) : Type 0 where
  pub exchanges : List Exchange
  pub are : AreExchanges defaults exchanges
  pub count_is : length exchanges ≡ count
  pub few : count < request_limit
  pub moved : moves old (calls_of exchanges) new
  pub clock : Gave moments (moments_of exchanges) moments'
  pub go_on : GoOn 0 exchanges
  pub reads : left ≡ before (requests exchanges) left'
  pub writes : written' ≡ behind written (said 0 exchanges)
