-- Both ends of one connection: what a client wrote and read, by the talk of its server.
--     IsTalkBetween      the bytes that a client wrote and read are of this talk
--     AreAsked      the requests that the server read are the client's, each at its place
--     Saying, IsReadable      what the response to an outcome says, and that its bytes are read so
--     AreAnswered      the responses that the client read are the server's, each to the request at its place
use Rattle.std.specs.Prelude.{◌≡◌, ℕ, Bool, true, false, List, [], ◌∷◌, ◌++◌, Option, Some, None, IsUtf8, unwrap_or}
use Rattle.std.specs.List.{AllByRecursion, flat_map}
use Rattle.http_heads.specs.Responses.{HasResponse}
use Rattle.http_client.specs.Requests.{Ask, request_bytes}
use Rattle.http_client.specs.Plain.{is_plain}
use Rattle.http_client.specs.Laws.{parts_asked}
use Rattle.office_model.specs.Step.{Call}
use Rattle.browse_http.specs.declared.end.End.{End}
use Rattle.browse_http.specs.Talk as T

-- ---- the client's end

-- a server reads it as it is, and has a body behind the head of its response
pub record IsRequest (ask : Ask) : Type 0 where
  pub plain : is_plain ask ≡ true
  pub text : IsUtf8 ask.target
  pub wants_body : T.asks_head (parts_asked ask) ≡ false

abbrev pub AreRequests : List Ask → Type 0
AreRequests asks = AllByRecursion IsRequest asks

-- what is written for requests, one after the other
abbrev pub written_for : List Ask → List ℕ
written_for asks = flat_map request_bytes asks

-- a response as it is read
pub record Response : Type 0 where
  pub status : ℕ
  pub body : List ℕ

-- the bytes are these responses, one after the other, and then a rest
abbrev pub AreResponses : List ℕ → List Response → List ℕ → Type 0
AreResponses bytes [] rest = bytes ≡ rest
AreResponses bytes (a ∷ answers) rest = (after : List ℕ) × HasResponse bytes a.status a.body after × AreResponses after answers rest

-- the response to want of memory
abbrev pub no_memory : Response
no_memory = record { status = 507; body = [] }

-- ---- the server's end

-- what the response to what came of a request says; None if it is cut off
abbrev pub Saying : Type 0
Saying = T.Outcome → Option Response

-- the bytes are this response, whatever follows them; or none is whole in them
abbrev pub IsReadAs : Option Response → List ℕ → Type 0
IsReadAs (Some a) bytes = (rest : List ℕ) → HasResponse (bytes ++ rest) a.status a.body rest
IsReadAs None bytes = (status : ℕ) (body rest : List ℕ) → HasResponse bytes status body rest → ⊥

-- the response to this outcome is read as it is said; it is cut off only where the connection ends with it
pub record IsReadable (saying : Saying) (outcome : T.Outcome) : Type 0 where
  pub reads : (closes : Bool) → IsReadAs (saying outcome) (T.response_of outcome closes false)
  pub cut : saying outcome ≡ None → T.is_fine (T.outcome_fate outcome) ≡ false

-- so are those of as many exchanges as there are answers
abbrev pub AreReadable : Saying → List T.Exchange → List Response → Type 0
AreReadable saying xs [] = Unit {0}
AreReadable saying [] (a ∷ answers) = Unit {0}
AreReadable saying (x ∷ xs) (a ∷ answers) = IsReadable saying x.outcome × AreReadable saying xs answers

-- ---- both

-- What a client wrote reached the server as far as its input, of what the server said the client read a front, and the server's talk is
-- this. Either way the connection may be cut at any byte.
pub record IsTalkBetween (wrote read : List ℕ) (exchanges : List T.Exchange) (made : List Call) (end : End) : Type 0 where
  pub input : List ℕ
  pub unread : List ℕ
  pub reached : wrote ≡ input ++ unread
  pub output : List ℕ
  pub unseen : List ℕ
  pub came : output ≡ read ++ unseen
  pub talk : T.Talk input exchanges made output end

-- the exchange is of this request
pub record IsAsked (ask : Ask) (x : T.Exchange) : Type 0 where
  pub parts : x.parts ≡ parts_asked ask
  pub body : x.body ≡ unwrap_or ask.body []

-- each exchange is of the request at its place
abbrev pub AreAsked : List Ask → List T.Exchange → Type 0
AreAsked asks [] = Unit {0}
AreAsked [] (x ∷ xs) = ⊥
AreAsked (ask ∷ asks) (x ∷ xs) = IsAsked ask x × AreAsked asks xs

-- the response that was read is the one to this request
pub record IsAnswered (saying : Saying) (ask : Ask) (x : T.Exchange) (a : Response) : Type 0 where
  pub asked : IsAsked ask x
  pub says : saying x.outcome ≡ Some a

-- each response that was read is the one to the request at its place; behind the last exchange one more may say that there is no memory
abbrev pub AreAnswered : Saying → List Ask → List T.Exchange → List Response → Type 0
AreAnswered saying asks xs [] = Unit {0}
AreAnswered saying asks [] (a ∷ answers) = (a ≡ no_memory) × (answers ≡ [])
AreAnswered saying [] (x ∷ xs) (a ∷ answers) = ⊥
AreAnswered saying (ask ∷ asks) (x ∷ xs) (a ∷ answers) = IsAnswered saying ask x a × AreAnswered saying asks xs answers
