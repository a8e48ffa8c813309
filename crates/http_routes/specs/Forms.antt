-- The forms of paths: which path has which route, by the texts of the table.
--     IsPiece      what stands between two slashes
--     tokens_of      a text without the names of its pieces
--     Takes      the path has the form of these tokens
--     HasForm      the path has the form of the route
use Rattle.std.specs.Prelude.{◌≡◌, ◌≢◌, ◌⊎◌, ℕ, ◌<◌, ◌==◌, Bool, true, false, List, [], ◌∷◌, ◌++◌, length, All, if◌then◌else◌}
use Rattle.matchit.specs.Rows.{RowsOf}
use Rattle.http_routes.specs.Table.{routes}
use Rattle.http_routes.specs.declared.route.Route.{Route}

-- none of the bytes is a slash
abbrev pub IsWhole : List ℕ → Type 0
IsWhole piece = All (λ b. b ≢ 47) piece

-- a piece of a path: one byte or more, none of them a slash
abbrev pub IsPiece : List ℕ → Type 0
IsPiece piece = (0 < length piece) × IsWhole piece

-- the tokens of a text, in a name or outside: 256 for each `{name}`, and each byte outside for itself
abbrev pub tokens_in : Bool → List ℕ → List ℕ
tokens_in in_name [] = []
tokens_in false (b ∷ text) = if b == 123 then 256 ∷ tokens_in true text else b ∷ tokens_in false text
tokens_in true (b ∷ text) = tokens_in (if b == 125 then false else true) text

abbrev pub tokens_of : List ℕ → List ℕ
tokens_of text = tokens_in false text

-- the tokens take the path: each byte stands for itself, a parameter (256) for a piece, and a catch-all (257) for the rest
pub data Takes : List ℕ → List ℕ → Type 0 where
  done : Takes [] []
  byte : {b : ℕ} {t path : List ℕ} → Takes t path → Takes (b ∷ t) (b ∷ path)
  param : {t path : List ℕ} (piece after : List ℕ) → IsPiece piece → path ≡ piece ++ after → Takes t after
      → Takes (256 ∷ t) path
  rest : {b : ℕ} {path : List ℕ} → Takes (257 ∷ []) (b ∷ path)

-- the rows have this text, or these tokens, with this key
abbrev pub Has : {K : Type 0} → List ℕ → K → RowsOf K → Type 0
Has t k [] = ⊥
Has t k ((u, l) ∷ rows) = ((u ≡ t) × (l ≡ k)) ⊎ Has t k rows

-- the path has the form of the route: the table has a text of this name, whose tokens take the path
abbrev pub HasForm : Route → List ℕ → Type 0
HasForm route path = (text : List ℕ) × Has text route routes × Takes (tokens_of text) path
