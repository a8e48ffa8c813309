-- What reading a request gives: its head, its body, and what is said if it isn't read whole.
use Rattle.std.specs.Prelude.{◌≡◌, ◌⊎◌, ℕ, Bool, true, false, List, [], Option, Some}
use Rattle.stream_traits.specs.Told.{before, behind, WroteFront}
use Rattle.office_model.specs.Step.{Call}
use Rattle.http_heads.specs.Heads.{HeadParts}
use Rattle.http_wire.specs.HeadReads.{continue_due}
use Rattle.http_wire.specs.Message.{no_memory_response}
use Rattle.http_bodies.specs.declared.body.Body.{Body}
use Rattle.http_bodies.specs.declared.stop.BodyStop.{BodyStop}
use Rattle.http_bodies.specs.declared.stop.BodyStop.TheVariants as S
use Rattle.http_bodies.specs.Bodies.{IsAt, is_done}
use Rattle.http_bodies.specs.Reads.{Reads, StopsAt}
use Rattle.http_replies.specs.declared.body_refusal.BodyRefusal.TheVariants.{BadChunk, FileTooLarge}
use Rattle.http_replies.specs.Messages.{broken_response}
use Rattle.browse_http.specs.declared.end.End.{End}
use Rattle.browse_http.specs.declared.end.End.TheVariants.{Truncated, BadRequest, LinkFault, Memory}
use Rattle.browse_http.specs.declared.heads.Request.{Request}
use Rattle.browse_http.specs.Pieces.{IsCutUp}
use Rattle.browse_http.specs.Talk.{IsHead, coding_of, is_last, asks_head, IsBegun, takes_nothing, StopsUncalled}

-- a head was read, its client asked for the body if it waits for that
pub record ReadsHead (left left' written written' : Option (List ℕ)) (parts : HeadParts) : Type 0 where
  pub head : List ℕ
  pub is_head : IsHead head parts
  pub reads : left ≡ before head left'
  pub asks : written' ≡ behind written (continue_due parts)

-- the request at this index with this head, of whose body nothing was read
pub record IsRequest (index : ℕ) (parts : HeadParts) (request : Request) : Type 0 where
  pub head : request.head ≡ parts
  pub body : IsAt (coding_of request.head) request.body [] []
  pub closes : request.closes ≡ is_last index parts
  pub is_head : request.is_head ≡ asks_head parts

-- a text was said last, and the connection ended so; or the link failed within the text
abbrev pub SaysLast : List ℕ → End → Option (List ℕ) → Option (List ℕ) → End → Type 0
SaysLast text wanted written written' end =
    ((end ≡ wanted) × (written' ≡ behind written text)) ⊎ ((end ≡ LinkFault) × WroteFront written written' text)

-- the connection ended by a request that wasn't read whole, after these calls
pub record EndsUncalled (made : List Call) (left left' written written' : Option (List ℕ)) (end : End) : Type 0 where
  pub taken : List ℕ
  pub left_is : left ≡ before taken left'
  pub quiet : takes_nothing end ≡ true → taken ≡ []
  pub begun : (taken ≡ []) ⊎ IsBegun taken
  pub word : List ℕ
  pub wrote : written' ≡ behind written word
  pub stops : (input : List ℕ) → left ≡ Some input → StopsUncalled end input made word

-- what is said if the reading of a body stopped
abbrev pub EndsBody : BodyStop → Bool → Option (List ℕ) → Option (List ℕ) → End → Type 0
EndsBody S.Truncated is_head written written' end = (end ≡ Truncated) × (written' ≡ written)
EndsBody S.BadChunk is_head written written' end = SaysLast (broken_response BadChunk is_head) BadRequest written written' end
EndsBody S.TooLarge is_head written written' end = SaysLast (broken_response FileTooLarge is_head) BadRequest written written' end
EndsBody S.LinkFault is_head written written' end = (end ≡ LinkFault) × (written' ≡ written)
EndsBody S.Memory is_head written written' end = SaysLast no_memory_response Memory written written' end

-- a body was read to its end, in these pieces
pub record ReadsAll (body body' : Body) (left left' : Option (List ℕ)) (got : List ℕ) : Type 0 where
  pub pieces : List (List ℕ)
  pub cut : IsCutUp true pieces got
  pub reads : Reads body body' left left' got
  pub done : is_done body' ≡ true

-- its reading stopped behind these pieces
pub record ReadsSome (body : Body) (left left' : Option (List ℕ)) (stop : BodyStop) : Type 0 where
  pub place : Body
  pub got : List ℕ
  pub pieces : List (List ℕ)
  pub cut : IsCutUp false pieces got
  pub reads : Reads body place left left' got
  pub cause : (more : List ℕ) → left' ≡ Some more → StopsAt stop place more
