-- What tokens take, from their first on.
use Rattle.std.proofs.Common.{◌≡◌, ◌≢◌, ◌⊎◌, inl, inr, ℕ, ◌<◌, List, [], ◌∷◌, ◌++◌, length, Bool, true, false, ◌==◌, ◌&&◌, ◌||◌, ltb, refl, sym, ap, ◌∙◌, arith, length-append}
use Rattle.std.proofs.lemmas.Bool.{ltb-true, eqb-true, and_parts}
use Rattle.std.proofs.lemmas.List.Elements.{All-cons, All-nil}
use Rattle.http_routes.specs.Forms.{IsPiece, Takes, done, byte, param, rest}

pub takes_byte : (b : ℕ) (t path : List ℕ) → b < 256 → Takes (b ∷ t) path → (p : List ℕ) × (path ≡ b ∷ p) × Takes t p
takes_byte b t path small (byte {path = p} h) = (p, refl, h)
takes_byte b t path small (param piece after ok e h) = absurd (omega (arith, small))
takes_byte b t path small rest = absurd (omega (arith, small))

pub takes_piece : (t path : List ℕ) → Takes (256 ∷ t) path
    → (piece : List ℕ) × (after : List ℕ) × IsPiece piece × (path ≡ piece ++ after) × Takes t after
takes_piece t path (byte {path = p} h) =
    (256 ∷ [], p, (omega arith, All-cons (λ c. c ≢ 47) 256 [] (λ e. omega (arith, e)) (All-nil (λ c. c ≢ 47))), refl, h)
takes_piece t path (param piece after ok e h) = (piece, after, ok, e, h)

pub takes_none : (path : List ℕ) → Takes [] path → path ≡ []
takes_none path done = refl

pub takes_some : (b : ℕ) (t path : List ℕ) → Takes (b ∷ t) path → path ≡ [] → ⊥
takes_some b t path (byte h) e = cc e
takes_some b t path (param piece after ok is h) e =
    let none = ap length (sym is ∙ e) in omega (arith, none, ok.0, length-append piece after)
takes_some b t path rest e = cc e

-- the tokens end, or go on with a slash
abbrev pub at_end : List ℕ → Bool
at_end [] = true
at_end (b ∷ t) = b == 47

-- each token is a byte, or a parameter behind which a slash or the end comes
abbrev pub is_cut : List ℕ → Bool
is_cut [] = true
is_cut (b ∷ t) = (ltb b 256 || (b == 256 && at_end t)) && is_cut t

pub cut_tail : (b : ℕ) (t : List ℕ) → is_cut (b ∷ t) ≡ true → is_cut t ≡ true
cut_tail b t e = (and_parts (ltb b 256 || (b == 256 && at_end t)) (is_cut t) e).1

pub cut_end : (t : List ℕ) → is_cut (256 ∷ t) ≡ true → at_end t ≡ true
cut_end t e = (and_parts (at_end t) (is_cut t) e).0

either : (a b : Bool) → (a || b) ≡ true → (a ≡ true) ⊎ (b ≡ true)
either true b e = inl refl
either false b e = inr e

pub token_is : (b : ℕ) (t : List ℕ) → is_cut (b ∷ t) ≡ true → (b < 256) ⊎ (b ≡ 256)
token_is b t e =
    elim (either (ltb b 256) (b == 256 && at_end t) (and_parts (ltb b 256 || (b == 256 && at_end t)) (is_cut t) e).0) [
      | inl small ↦ inl (ltb-true b 256 small)
      | inr is ↦ inr (eqb-true b 256 (and_parts (b == 256) (at_end t) is).0)
    ]
