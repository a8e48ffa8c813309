-- Laws of fronts and inputs that begin with responses.
use Rattle.std.specs.Prelude.{◌≡◌, ◌≢◌, ℕ, List, [], ◌++◌}
use Rattle.http_heads.specs.declared.response.ResponseParts.{ResponseParts}
use Rattle.http_heads.specs.Fronts.{IsBlank}
use Rattle.http_heads.specs.Responses.{HasResponseHead, NeverResponds, HasResponse, ResponseOutcome, Read, IsTruncated, IsResponseRead}

-- a whole head at a front is the head of the input, and what follows it is left
abbrev pub ResponseHeadsDecide : Type 0
ResponseHeadsDecide =
    (front more : List ℕ) (parts : ResponseParts) (rest : List ℕ)
    → HasResponseHead front parts rest → HasResponseHead (front ++ more) parts (rest ++ more)

-- what is foreign at a front is foreign in the input
abbrev pub ForeignFrontsDecide : Type 0
ForeignFrontsDecide = (front more : List ℕ) → NeverResponds front → NeverResponds (front ++ more)

-- an input that begins with a response comes to that, and to nothing else
abbrev pub ResponsesDecide : Type 0
ResponsesDecide =
    (input : List ℕ) (status : ℕ) (body rest : List ℕ) (outcome : ResponseOutcome)
    → HasResponse input status body rest → IsResponseRead input outcome → outcome ≡ Read status body rest

-- an input that ends inside a response is cut short
abbrev pub CutResponsesAreTruncated : Type 0
CutResponsesAreTruncated =
    (input more : List ℕ) (status : ℕ) (body : List ℕ) (outcome : ResponseOutcome)
    → HasResponse (input ++ more) status body [] → more ≢ [] → ¬ (IsBlank input) → IsResponseRead input outcome → outcome ≡ IsTruncated
