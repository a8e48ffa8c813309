-- Exchanges, one after the other.
use Rattle.std.specs.Prelude.{◌≡◌, ℕ, List, [], ◌∷◌, ◌++◌, Option}
use Rattle.stream_traits.specs.Seen.{LinkSeen}
use Rattle.stream_traits.specs.Told.{behind}
use Rattle.http_heads.specs.Responses.{HasResponse}
use Rattle.http_client.specs.Requests.{Ask, request_bytes}
use Rattle.http_client.specs.ResponseReads.{TakesResponse}

-- a request, and the status and the body of its response
pub record Exchange : Type 0 where
  pub ask : Ask
  pub status : ℕ
  pub body : List ℕ

-- the bytes of the requests, one after the other
abbrev pub asked : List Exchange → List ℕ
asked [] = []
asked (x ∷ xs) = request_bytes x.ask ++ asked xs

-- if anything was asked, what was written was sent
abbrev pub AreSent : LinkSeen → LinkSeen → List Exchange → Type 0
AreSent old new [] = new.sent ≡ old.sent
AreSent old new (x ∷ xs) = new.sent ≡ new.written

-- the responses were taken from the input in order, each with a body of at most so many bytes
abbrev pub TakesResponses : ℕ → Option (List ℕ) → Option (List ℕ) → List Exchange → Type 0
TakesResponses most left left' [] = left' ≡ left
TakesResponses most left left' (x ∷ xs) =
    (next : Option (List ℕ)) × TakesResponse most left next x.status x.body × TakesResponses most next left' xs

-- the requests were written, one after the other, behind what was, and their responses taken in order
pub record AreExchanged (most : ℕ) (old new : LinkSeen) (xs : List Exchange) : Type 0 where
  pub wrote : new.written ≡ behind old.written (asked xs)
  pub sent : AreSent old new xs
  pub took : TakesResponses most old.left new.left xs

-- the input begins with the responses in order, each whole, and then comes rest
abbrev pub HasResponses : List ℕ → List Exchange → List ℕ → Type 0
HasResponses input [] rest = input ≡ rest
HasResponses input (x ∷ xs) rest = (next : List ℕ) × HasResponse input x.status x.body next × HasResponses next xs rest
