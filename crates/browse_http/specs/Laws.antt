-- An input has one reading as requests.
use Rattle.std.specs.Prelude.{◌≡◌, List, ◌++◌, ℕ}
use Rattle.request_events.specs.declared.defaults.Defaults.{Defaults}
use Rattle.browse_http.specs.Talk.{Exchange, IsExchange}

-- Two requests at the front of one input have the same head and body: what the next request of an input is, and what follows it, is
-- fixed by its bytes. What they ask for is then fixed by their moments.
abbrev pub RequestsAreOne : Type 0
RequestsAreOne =
    (defaults : Defaults) (x y : Exchange) (rest rest' : List ℕ) → IsExchange defaults x → IsExchange defaults y
    → (x.head ++ x.raw) ++ rest ≡ (y.head ++ y.raw) ++ rest'
    → (x.head ≡ y.head) × (x.parts ≡ y.parts) × (x.raw ≡ y.raw) × (x.body ≡ y.body) × (rest ≡ rest')
