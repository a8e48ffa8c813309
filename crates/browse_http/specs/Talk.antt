-- What is said on one connection: the requests that were read, what came of each, the calls of one that wasn't read whole, the output,
-- and the end.
use Rattle.std.specs.Prelude.{◌≡◌, ℕ, ◌+◌, ◌≤◌, Bool, true, false, ◌||◌, not, ◌==◌, List, [], ◌∷◌, ◌++◌, length, take, Option, Some, None, Ok, Err, ◌⊎◌, codes, bytes_eq, unwrap_or, if◌then◌else◌}
use Rattle.fault_counts.specs.Counts.{Counted}
use Rattle.stream_traits.specs.Seen.{LinkSeen}
use Rattle.stream_traits.specs.Told.{before}
use Rattle.office_model.specs.Step.{Call}
use Rattle.call_scripts.specs.Moments.{Gave}
use Rattle.http_heads.specs.declared.refusal.HeadRefusal.{HeadRefusal}
use Rattle.http_heads.specs.Heads.{HeadParts}
use Rattle.http_heads.specs.Fronts.{Read, Ended as IsEnded, Truncated as IsTruncated, IsHeadRead, IsRefusedFor}
use Rattle.http_wire.specs.HeadReads.{continue_due}
use Rattle.http_wire.specs.Message.{no_memory_response}
use Rattle.http_bodies.specs.declared.body.Body.{Body}
use Rattle.http_bodies.specs.declared.stop.BodyStop.{BodyStop}
use Rattle.http_bodies.specs.declared.stop.BodyStop.TheVariants as S
use Rattle.http_bodies.specs.Bodies.{Coding, OfLength, Chunked, IsBody, IsAt}
use Rattle.http_bodies.specs.Reads.{StopsAt}
use Rattle.request_events.specs.declared.defaults.Defaults.{Defaults}
use Rattle.request_events.specs.declared.plan.FilePut.{FilePut}
use Rattle.request_events.specs.declared.plan.Plan.{Plan}
use Rattle.request_events.specs.declared.refusal.RequestRefusal.{RequestRefusal}
use Rattle.request_events.specs.Said.{Said}
use Rattle.request_events.specs.Plans.{planned}
use Rattle.request_events.specs.Asked.{Asked, One, InStages, goes_by_stages, staged_by, asked}
use Rattle.http_replies.specs.declared.body_refusal.BodyRefusal.{BodyRefusal}
use Rattle.http_replies.specs.declared.body_refusal.BodyRefusal.TheVariants.{BadChunk, FileTooLarge}
use Rattle.http_replies.specs.Messages.{bad_response, broken_response, refused_response}
use Rattle.browse_http.specs.declared.end.End.{End}
use Rattle.browse_http.specs.declared.end.End.TheVariants.{Ended, Truncated, BadRequest, LinkFault, Memory, Cut}
use Rattle.browse_http.specs.Pieces.{IsCutUp}
use Rattle.browse_http.specs.Scripts.{IsRunOf, event_script, stage_script, calls_response, Fate, Fine, NoMemory, Failed, CutOff, calls_fate, ReadOnce}

-- ---- a request that was read, and what came of it

-- What came of a request that was read: it was refused; it made these calls; it made them, and the link failed behind the first part of
-- a file and so many others; it made them, and there was no memory for its response; or there was none for its event.
pub data Outcome : Type 0 where
  Refused : RequestRefusal → Outcome
  Called : List Call → Outcome
  Stopped : ℕ → List Call → Outcome
  Unsaid : List Call → Outcome
  Lost : Outcome

-- a request that was read: the bytes of its head and what they say, those of its body and what they carry, the moment after it, and
-- what came of it
pub record Exchange : Type 0 where
  pub head : List ℕ
  pub parts : HeadParts
  pub raw : List ℕ
  pub body : List ℕ
  pub moment : ℕ
  pub outcome : Outcome

-- the head's bytes are a head that says this, whatever follows it
abbrev pub IsHead : List ℕ → HeadParts → Type 0
IsHead head parts = (rest : List ℕ) → IsHeadRead (head ++ rest) (Read parts rest)

-- how its body comes: in chunks, or with its length, without which it is empty
abbrev pub coding_of : HeadParts → Coding
coding_of parts = if parts.chunked then Chunked else OfLength (unwrap_or parts.content_length 0)

-- these are the calls of a file in stages with this body, or with what came of it
pub record PutsInStages (put : FilePut) (body : List ℕ) (whole : Bool) (calls : List Call) : Type 0 where
  pub pieces : List (List ℕ)
  pub cut : IsCutUp whole pieces body
  pub run : IsRunOf (stage_script put pieces whole) calls

-- the calls are those of what is asked for; perhaps the link failed behind the first part of a file and so many others
abbrev pub Makes : Asked → List ℕ → Option ℕ → List Call → Type 0
Makes (One event) body failed calls = IsRunOf (event_script event failed) calls
Makes (InStages put) body failed calls = PutsInStages put body true calls

-- What came of a request is what it asks for: the refusal, or the calls; without memory for the response nothing was changed but the
-- place of a restore.
abbrev pub IsOutcome : Said Asked → List ℕ → Outcome → Type 0
IsOutcome said body (Refused refusal) = said ≡ Err refusal
IsOutcome said body (Called calls) = (what : Asked) × (said ≡ Ok what) × Makes what body None calls
IsOutcome said body (Stopped count calls) = (what : Asked) × (said ≡ Ok what) × Makes what body (Some count) calls
IsOutcome said body (Unsaid calls) = (what : Asked) × (said ≡ Ok what) × Makes what body None calls × ReadOnce calls
IsOutcome said body Lost = Unit {0}

-- an exchange under these settings
pub record IsExchange (defaults : Defaults) (x : Exchange) : Type 0 where
  pub head : IsHead x.head x.parts
  pub body : IsBody (coding_of x.parts) x.raw x.body
  pub outcome : IsOutcome (asked x.parts x.body x.moment defaults) x.body x.outcome

abbrev pub AreExchanges : Defaults → List Exchange → Type 0
AreExchanges defaults [] = Unit {0}
AreExchanges defaults (x ∷ xs) = IsExchange defaults x × AreExchanges defaults xs

-- the bytes of the requests, one after the other
abbrev pub requests : List Exchange → List ℕ
requests [] = []
requests (x ∷ xs) = (x.head ++ x.raw) ++ requests xs

abbrev pub calls_in : Outcome → List Call
calls_in (Refused refusal) = []
calls_in (Called calls) = calls
calls_in (Stopped count calls) = calls
calls_in (Unsaid calls) = calls
calls_in Lost = []

-- the calls of the requests, in order
abbrev pub calls_of : List Exchange → List Call
calls_of [] = []
calls_of (x ∷ xs) = calls_in x.outcome ++ calls_of xs

abbrev pub moments_of : List Exchange → List ℕ
moments_of [] = []
moments_of (x ∷ xs) = x.moment ∷ moments_of xs

-- the most requests of a connection
abbrev pub request_limit : ℕ
request_limit = 1000000

-- the response to the request at this index is the connection's last: the request asks for it, or it is the last that is taken
abbrev pub is_last : ℕ → HeadParts → Bool
is_last index parts = parts.closes || (index + 1 == request_limit)

-- the request asks for no body
abbrev pub asks_head : HeadParts → Bool
asks_head parts = bytes_eq parts.method (codes "HEAD")

-- how the connection goes on behind the response
abbrev pub outcome_fate : Outcome → Fate
outcome_fate (Refused refusal) = Fine
outcome_fate (Called calls) = calls_fate calls
outcome_fate (Stopped count calls) = Failed
outcome_fate (Unsaid calls) = NoMemory
outcome_fate Lost = NoMemory

abbrev pub is_fine : Fate → Bool
is_fine Fine = true
is_fine fate = false

-- the response to what came of a request
abbrev pub response_of : Outcome → Bool → Bool → List ℕ
response_of (Refused refusal) closes is_head = refused_response refusal closes is_head
response_of (Called calls) closes is_head = calls_response calls closes is_head
response_of (Stopped count calls) closes is_head = calls_response calls closes is_head
response_of (Unsaid calls) closes is_head = no_memory_response
response_of Lost closes is_head = no_memory_response

abbrev pub response_at : ℕ → Exchange → List ℕ
response_at index x = response_of x.outcome (is_last index x.parts) (asks_head x.parts)

-- what is written for an exchange: `100 Continue` if it is due, and the response
abbrev pub said_at : ℕ → Exchange → List ℕ
said_at index x = continue_due x.parts ++ response_at index x

abbrev pub said : ℕ → List Exchange → List ℕ
said index [] = []
said index (x ∷ xs) = said_at index x ++ said (index + 1) xs

-- the connection goes on after this exchange
abbrev pub goes_on : ℕ → Exchange → Bool
goes_on index x = not (is_last index x.parts || not (is_fine (outcome_fate x.outcome)))

abbrev pub GoOn : ℕ → List Exchange → Type 0
GoOn index [] = Unit {0}
GoOn index (x ∷ xs) = (goes_on index x ≡ true) × GoOn (index + 1) xs

-- ---- ends behind which no request was read whole

-- the put of a file that goes by stages, if a head asks for one
abbrev pub staged_of : HeadParts → Said Plan → Option FilePut
staged_of parts (Ok plan) = staged_by (goes_by_stages parts) plan
staged_of parts (Err refusal) = None

-- the calls of a request whose body didn't come whole: those of a file in stages as far as it came, none of another request
abbrev pub CallsBy : Option FilePut → List ℕ → List Call → Type 0
CallsBy None got made = made ≡ []
CallsBy (Some put) got made = PutsInStages put got false made

-- without memory, or if the link failed, the body may not have been begun
abbrev pub CallsOf : BodyStop → Option FilePut → List ℕ → List Call → Type 0
CallsOf S.LinkFault staged got made = (made ≡ []) ⊎ CallsBy staged got made
CallsOf S.Memory staged got made = (made ≡ []) ⊎ CallsBy staged got made
CallsOf stop staged got made = CallsBy staged got made

-- the input begins with a whole head, for whose body the client was asked if it waits for that; then the reading stopped within the
-- body, after these calls
pub record StopsInBody (stop : BodyStop) (rest : List ℕ) (made : List Call) (prefix : List ℕ) : Type 0 where
  pub head : List ℕ
  pub parts : HeadParts
  pub raw : List ℕ
  pub got : List ℕ
  pub more : List ℕ
  pub place : Body
  pub is_head : IsHead head parts
  pub rest_is : rest ≡ head ++ (raw ++ more)
  pub at : IsAt (coding_of parts) place raw got
  pub cause : StopsAt stop place more
  pub calls : CallsOf stop (staged_of parts (planned parts)) got made
  pub prefix_is : prefix ≡ continue_due parts

-- what may have been called and written before the end of a request that wasn't read whole
abbrev pub MayAsk : List ℕ → List Call → List ℕ → Type 0
MayAsk rest made prefix = ((made ≡ []) × (prefix ≡ [])) ⊎ StopsInBody S.Memory rest made prefix

-- the response to a head that is refused
pub record RefusesHead (rest : List ℕ) (made : List Call) (word : List ℕ) : Type 0 where
  pub refusal : HeadRefusal
  pub for_head : Bool
  pub refused : IsRefusedFor rest refusal for_head
  pub none : made ≡ []
  pub word_is : word ≡ bad_response refusal for_head

-- what stops the reading of a body that is refused so
abbrev pub stop_of : BodyRefusal → BodyStop
stop_of BadChunk = S.BadChunk
stop_of FileTooLarge = S.TooLarge

-- the response to a body that is refused while it is read
pub record RefusesBody (rest : List ℕ) (made : List Call) (word : List ℕ) : Type 0 where
  pub refusal : BodyRefusal
  pub prefix : List ℕ
  pub body : StopsInBody (stop_of refusal) rest made prefix
  pub word_is : word ≡ prefix ++ broken_response refusal (asks_head body.parts)

-- the response to want of memory
pub record SaysNoMemory (rest : List ℕ) (made : List Call) (word : List ℕ) : Type 0 where
  pub prefix : List ℕ
  pub may : MayAsk rest made prefix
  pub word_is : word ≡ prefix ++ no_memory_response

-- what may be written last
abbrev pub MaySay : List ℕ → List Call → List ℕ → Type 0
MaySay rest made word = RefusesHead rest made word ⊎ RefusesBody rest made word ⊎ SaysNoMemory rest made word

-- How a connection ends if no request was read whole last: `rest` is the input behind the requests, `made` what was called and `word`
-- what was written last.
abbrev pub StopsUncalled : End → List ℕ → List Call → List ℕ → Type 0
StopsUncalled Ended rest made word = IsHeadRead rest IsEnded × (made ≡ []) × (word ≡ [])
StopsUncalled Truncated rest made word =
    (IsHeadRead rest IsTruncated × (made ≡ []) × (word ≡ [])) ⊎ StopsInBody S.Truncated rest made word
StopsUncalled BadRequest rest made word = RefusesHead rest made word ⊎ RefusesBody rest made word
StopsUncalled Memory rest made word = SaysNoMemory rest made word
-- the link failed: what was to be said lacks its end
StopsUncalled LinkFault rest made word = (full : List ℕ) × (n : ℕ) × MaySay rest made full × (word ≡ take n full)
StopsUncalled (Cut refusal) rest made word = ⊥

-- How it ends by the response to what came of a request; `closes` if that was to be the last.
abbrev pub StopsCalled : End → Outcome → Bool → Bool → List ℕ → Type 0
-- the response was the connection's last
StopsCalled Ended outcome closes is_head word =
    (closes ≡ true) × (outcome_fate outcome ≡ Fine) × (word ≡ response_of outcome closes is_head)
StopsCalled Truncated outcome closes is_head word = ⊥
StopsCalled BadRequest outcome closes is_head word = ⊥
-- no memory for the event, to carry it out, for the response, or for a part of a file
StopsCalled Memory outcome closes is_head word = (outcome_fate outcome ≡ NoMemory) × (word ≡ response_of outcome closes is_head)
-- a part was refused behind the head of the response
StopsCalled (Cut refusal) outcome closes is_head word =
    (outcome_fate outcome ≡ CutOff refusal) × (word ≡ response_of outcome closes is_head)
-- the link failed: the response lacks its end
StopsCalled LinkFault outcome closes is_head word = (n : ℕ) × (word ≡ take n (response_of outcome closes is_head))

-- the exchange that came last, after which the connection didn't go on
abbrev pub final_list : Option Exchange → List Exchange
final_list None = []
final_list (Some x) = x ∷ []

-- what was called and written last, after `index` exchanges after each of which the connection went on
abbrev pub Stops : End → List ℕ → ℕ → Option Exchange → List Call → List ℕ → Type 0
Stops end rest index None made word = StopsUncalled end rest made word
Stops end rest index (Some x) made word =
    (made ≡ []) × ((response : List ℕ) × (word ≡ continue_due x.parts ++ response)
    × StopsCalled end x.outcome (is_last index x.parts) (asks_head x.parts) response)

-- the input, the exchanges, the calls of a request that wasn't read whole, the output and the end of a connection fit together
pub record Talk (input : List ℕ) (exchanges : List Exchange) (made : List Call) (output : List ℕ) (end : End) : Type 0 where
  pub earlier : List Exchange
  pub final : Option Exchange
  pub rest : List ℕ
  pub word : List ℕ
  pub exchanges_are : exchanges ≡ earlier ++ final_list final
  pub go_on : GoOn 0 earlier
  pub reads : input ≡ requests exchanges ++ rest
  pub stops : Stops end rest (length earlier) final made word
  pub says : output ≡ said 0 earlier ++ word

-- after these ends nothing was taken of the input but the requests
abbrev pub takes_nothing : End → Bool
takes_nothing Ended = true
takes_nothing Truncated = false
takes_nothing BadRequest = false
takes_nothing LinkFault = false
takes_nothing Memory = false
takes_nothing (Cut refusal) = true

-- the bytes of a head, and perhaps some of its body
pub record IsBegun (taken : List ℕ) : Type 0 where
  pub head : List ℕ
  pub parts : HeadParts
  pub raw : List ℕ
  pub is_head : IsHead head parts
  pub taken_is : taken ≡ head ++ raw

-- A connection over a port under these settings: the calls of its exchanges, and those of a request that wasn't read whole, lead from
-- the port's state before to that after, each once and in order, the moments are the clock's, of the input the requests were taken and
-- perhaps a head with the beginning of its body, and if the link tells its bytes, they and the end fit the exchanges.
pub record Converses (defaults : Defaults) {P : Type 0} (moves : P → List Call → P → Type 0) (old new : P)
    (left left' written written' : Option (List ℕ)) (moments moments' : Option (List ℕ)) (end : End) : Type 0 where
  pub exchanges : List Exchange
  pub are : AreExchanges defaults exchanges
  pub made : List Call
  pub moved : moves old (calls_of exchanges ++ made) new
  pub clock : Gave moments (moments_of exchanges) moments'
  pub taken : List ℕ
  pub left_is : left ≡ before (requests exchanges ++ taken) left'
  pub quiet : takes_nothing end ≡ true → taken ≡ []
  pub begun : (taken ≡ []) ⊎ IsBegun taken
  pub talk : (input above : List ℕ) → left ≡ Some input → written ≡ Some above
      → (output : List ℕ) × (written' ≡ Some (above ++ output)) × Talk input exchanges made output end

-- A connection over a link: what is said of it, at most 49,152 bytes that were read ahead, what was sent, and the faults.
pub record ServesLink (defaults : Defaults) {P : Type 0} (moves : P → List Call → P → Type 0) (old new : P) (link link' : LinkSeen)
    (moments moments' : Option (List ℕ)) (end : End) : Type 0 where
  pub unread : Option (List ℕ)
  pub talk : Converses defaults moves old new link.left unread link.written link'.written moments moments' end
  pub ahead : List ℕ
  pub ahead_is : unread ≡ before ahead link'.left
  pub few : length ahead ≤ 49152
  pub sent : (end ≡ LinkFault → ⊥) → link'.sent ≡ link'.written
  pub counted : Counted link.faults link'.faults (end ≡ LinkFault)
