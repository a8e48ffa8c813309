-- What reading a response gives, by what is told of the input that is left, before and after.
use Rattle.std.specs.Prelude.{◌≡◌, ◌≤◌, ◌<◌, ℕ, List, [], ◌++◌, length, Option, Some}
use Rattle.stream_traits.specs.Told.{before}
use Rattle.http_heads.specs.declared.response.ResponseParts.{ResponseParts}
use Rattle.http_heads.specs.Responses.{HasResponseHead, IsLongResponse, ResponseOutcome, Read, IsForeign, IsEnded, IsTruncated, IsResponseRead}
use Rattle.http_wire.specs.Bodies.{AddsBytes, TookFewer}
use Rattle.http_client.specs.declared.responses.ResponseRead.{ResponseRead}
use Rattle.http_client.specs.declared.responses.ResponseRead.TheVariants as R
use Rattle.http_client.specs.declared.responses.ResponseHeadRead.{ResponseHeadRead}
use Rattle.http_client.specs.declared.responses.ResponseHeadRead.TheVariants as H

-- exactly a response's bytes were taken, with a body of at most so many: an input that begins with them has this response,
-- whatever follows it
pub record TakesResponse (most : ℕ) (left left' : Option (List ℕ)) (status : ℕ) (body : List ℕ) : Type 0 where
  pub head : List ℕ
  pub took : left ≡ before (head ++ body) left'
  pub few : length body ≤ most
  pub whole : (rest : List ℕ) → IsResponseRead (head ++ (body ++ rest)) (Read status body rest)

-- nothing was taken, and where the input is told, this is so of it
pub record TookNone (left left' : Option (List ℕ)) (What : List ℕ → Type 0) : Type 0 where
  pub same : left' ≡ left
  pub told : (input : List ℕ) → left ≡ Some input → What input

-- a front was taken
pub record TookSome (left left' : Option (List ℕ)) : Type 0 where
  pub taken : List ℕ
  pub took : left ≡ before taken left'

-- a front was taken, and where the input is told, it ends inside a response
pub record CutsResponse (left left' : Option (List ℕ)) : Type 0 where
  pub some : TookSome left left'
  pub told : (input : List ℕ) → left ≡ Some input → IsResponseRead input IsTruncated

-- the input comes to this
abbrev pub ComesTo : ResponseOutcome → List ℕ → Type 0
ComesTo outcome input = IsResponseRead input outcome

-- it begins with the head of a response whose body has more bytes than these
abbrev pub IsLonger : ℕ → List ℕ → Type 0
IsLonger most input = IsLongResponse input most

-- what each answer says of the input
abbrev pub ReadsResponse : ℕ → Option (List ℕ) → Option (List ℕ) → ResponseRead → Type 0
ReadsResponse most left left' (R.Response status body) = TakesResponse most left left' status body.items
ReadsResponse most left left' R.Ended = TookNone left left' (ComesTo IsEnded)
ReadsResponse most left left' R.Truncated = CutsResponse left left'
ReadsResponse most left left' R.Foreign = TookNone left left' (ComesTo IsForeign)
ReadsResponse most left left' R.TooLong = TookNone left left' (IsLonger most)
ReadsResponse most left left' R.LinkFault = TookSome left left'
ReadsResponse most left left' R.Memory = TookSome left left'

-- exactly a head's bytes were taken: an input that begins with them has this head, whatever follows it
pub record TakesResponseHead (most : ℕ) (left left' : Option (List ℕ)) (parts : ResponseParts) : Type 0 where
  pub bytes : List ℕ
  pub took : left ≡ before bytes left'
  pub few : parts.length ≤ most
  pub whole : (rest : List ℕ) → HasResponseHead (bytes ++ rest) parts rest

abbrev pub ReadsResponseHead : ℕ → Option (List ℕ) → Option (List ℕ) → ResponseHeadRead → Type 0
ReadsResponseHead most left left' (H.Whole parts) = TakesResponseHead most left left' parts
ReadsResponseHead most left left' H.Ended = TookNone left left' (ComesTo IsEnded)
ReadsResponseHead most left left' H.Truncated = TookNone left left' (ComesTo IsTruncated)
ReadsResponseHead most left left' H.Foreign = TookNone left left' (ComesTo IsForeign)
ReadsResponseHead most left left' H.TooLong = TookNone left left' (IsLonger most)
ReadsResponseHead most left left' H.LinkFault = left' ≡ left
ReadsResponseHead most left left' H.Memory = left' ≡ left

-- the input ends inside the body: fewer bytes than it has were left, and all were taken
pub record CutsBody (left left' : Option (List ℕ)) (count : ℕ) : Type 0 where
  pub some : TookFewer left left' count
  pub short : (rest : List ℕ) → left ≡ Some rest → length rest < count

-- what each answer says of the body behind a head
abbrev pub ReadsBody : ResponseParts → Option (List ℕ) → Option (List ℕ) → ResponseRead → Type 0
ReadsBody parts left left' (R.Response status body) = (status ≡ parts.status) × AddsBytes [] body.items left left' parts.length
ReadsBody parts left left' R.Truncated = CutsBody left left' parts.length
ReadsBody parts left left' R.LinkFault = TookFewer left left' parts.length
ReadsBody parts left left' R.Memory = TookFewer left left' parts.length
ReadsBody parts left left' R.Ended = ⊥
ReadsBody parts left left' R.Foreign = ⊥
ReadsBody parts left left' R.TooLong = ⊥

-- what the end of the input makes of the bytes before it
abbrev pub EndsResponsesAs : List ℕ → ResponseHeadRead → Type 0
EndsResponsesAs bytes H.Ended = IsResponseRead bytes IsEnded
EndsResponsesAs bytes H.Truncated = IsResponseRead bytes IsTruncated
EndsResponsesAs bytes (H.Whole parts) = ⊥
EndsResponsesAs bytes H.Foreign = ⊥
EndsResponsesAs bytes H.TooLong = ⊥
EndsResponsesAs bytes H.LinkFault = ⊥
EndsResponsesAs bytes H.Memory = ⊥
