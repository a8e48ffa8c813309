-- The rows of the router as tokens: the texts of the table, each put in its place.
use Rattle.std.proofs.Common.{◌≡◌, ◌⊎◌, inl, inr, List, [], ◌∷◌, ℕ, Bool, true, false, cond, refl, sym, ap, ◌∙◌}
use Rattle.matchit.specs.Rows.{RowsOf, comes_before}
use Rattle.matchit.specs.Order.{placed}
use Rattle.matchit.specs.Router.{rename, map_key}
use Rattle.matchit.specs.Seek.{first}
use Rattle.matchit.proofs.RenameLemmas.{first-rename}
use Rattle.matchit.proofs.OnLiterals.{matchit_on_literals}
use Rattle.http_routes.specs.declared.route.Route.{Route}
use Rattle.http_routes.specs.Table.{Named, routes, table}
use Rattle.http_routes.specs.Forms.{Has, tokens_of}

-- the rows of these texts as tokens
abbrev tokens_rows : List Named → RowsOf Route
tokens_rows [] = []
tokens_rows ((text, route) ∷ named) = (tokens_of text, route) ∷ tokens_rows named

-- rows put in one after another
abbrev placed_all : {K : Type 0} → RowsOf K → RowsOf K → RowsOf K
placed_all rows [] = rows
placed_all rows ((t, k) ∷ more) = placed_all (placed (t, k) rows) more

abbrev pub patterns : RowsOf Route
patterns = placed_all [] (tokens_rows routes)

-- the rows of the router are the patterns
rows-patterns : rename (λ r. r.value) table ≡ patterns
unfolding table matchit_on_literals
rows-patterns = refl

-- the router's answer is the search over the patterns
pub first-patterns : (path : List ℕ) → map_key (λ r. r.value) (first table path) ≡ first patterns path
first-patterns path = sym (first-rename (λ r. r.value) table path) ∙ ap (λ rs. first rs path) rows-patterns

module _ {K : Type 0} where
  -- a row that is put in has a place, and the others stay
  placed-has : (u : List ℕ) (l : K) (rows : RowsOf K) (t : List ℕ) (k : K) → Has t k (placed (u, l) rows) → Has t k ((u, l) ∷ rows)
  placed-has u l [] t k h = h
  placed-has u l ((v, m) ∷ rows) t k h = by (comes_before u v) (placed-has u l rows t k) h
    where
      by : (w : Bool) → (Has t k (placed (u, l) rows) → Has t k ((u, l) ∷ rows))
          → Has t k (cond w ((u, l) ∷ (v, m) ∷ rows) ((v, m) ∷ placed (u, l) rows)) → Has t k ((u, l) ∷ (v, m) ∷ rows)
      by true more h = h
      by false more (inl same) = inr (inl same)
      by false more (inr h) = elim (more h) [ inl same ↦ inl same | inr has ↦ inr (inr has) ]

  has-placed : (u : List ℕ) (l : K) (rows : RowsOf K) (t : List ℕ) (k : K) → Has t k ((u, l) ∷ rows) → Has t k (placed (u, l) rows)
  has-placed u l [] t k h = h
  has-placed u l ((v, m) ∷ rows) t k h = by (comes_before u v) (has-placed u l rows t k) h
    where
      by : (w : Bool) → (Has t k ((u, l) ∷ rows) → Has t k (placed (u, l) rows))
          → Has t k ((u, l) ∷ (v, m) ∷ rows) → Has t k (cond w ((u, l) ∷ (v, m) ∷ rows) ((v, m) ∷ placed (u, l) rows))
      by true more h = h
      by false more (inl same) = inr (more (inl same))
      by false more (inr (inl same)) = inl same
      by false more (inr (inr has)) = inr (more (inr has))

  placed_all-has : (rows more : RowsOf K) (t : List ℕ) (k : K) → Has t k (placed_all rows more) → Has t k rows ⊎ Has t k more
  placed_all-has rows [] t k h = inl h
  placed_all-has rows ((u, l) ∷ more) t k h =
      elim (placed_all-has (placed (u, l) rows) more t k h) [
        | inl early ↦ elim (placed-has u l rows t k early) [ inl same ↦ inr (inl same) | inr has ↦ inl has ]
        | inr late ↦ inr (inr late)
      ]

  has-placed_all : (rows more : RowsOf K) (t : List ℕ) (k : K) → Has t k rows ⊎ Has t k more → Has t k (placed_all rows more)
  has-placed_all rows [] t k (inl h) = h
  has-placed_all rows [] t k (inr h) = absurd h
  has-placed_all rows ((u, l) ∷ more) t k (inl h) = has-placed_all (placed (u, l) rows) more t k (inl (has-placed u l rows t k (inr h)))
  has-placed_all rows ((u, l) ∷ more) t k (inr (inl same)) =
      has-placed_all (placed (u, l) rows) more t k (inl (has-placed u l rows t k (inl same)))
  has-placed_all rows ((u, l) ∷ more) t k (inr (inr h)) = has-placed_all (placed (u, l) rows) more t k (inr h)

tokens-text : (named : List Named) (t : List ℕ) (route : Route) → Has t route (tokens_rows named)
    → (text : List ℕ) × Has text route named × (tokens_of text ≡ t)
tokens-text [] t route h = absurd h
tokens-text ((text, r) ∷ named) t route (inl same) = (text, inl (refl, same.1), same.0)
tokens-text ((text, r) ∷ named) t route (inr h) = let x = tokens-text named t route h in (x.0, inr x.1, x.2)

text-tokens : (named : List Named) (text : List ℕ) (route : Route) → Has text route named → Has (tokens_of text) route (tokens_rows named)
text-tokens [] text route h = h
text-tokens ((u, r) ∷ named) text route (inl same) = inl (ap tokens_of same.0, same.1)
text-tokens ((u, r) ∷ named) text route (inr h) = inr (text-tokens named text route h)

-- a pattern is the tokens of a text of its route, and each text of the table has its pattern
pub pattern-text : (t : List ℕ) (route : Route) → Has t route patterns → (text : List ℕ) × Has text route routes × (tokens_of text ≡ t)
pattern-text t route h =
    elim (placed_all-has [] (tokens_rows routes) t route h) [ inl none ↦ absurd none | inr has ↦ tokens-text routes t route has ]

pub text-pattern : (text : List ℕ) (route : Route) → Has text route routes → Has (tokens_of text) route patterns
text-pattern text route h = has-placed_all [] (tokens_rows routes) (tokens_of text) route (inr (text-tokens routes text route h))
