-- A token that is kept with an edit, and forgotten again.
--     has_kept      it is among those that are kept then
--     forgotten      without it these are those that were kept before
use Rattle.std.proofs.Common.{◌≡◌, Bool, true, false, ◌||◌, [], ◌∷◌, Option, Some, None, IfSome, refl, ap, ◌∙◌}
use Rattle.std.specs.declared.cmp.Ordering.{Ordering}
use Rattle.std.specs.declared.cmp.Ordering.TheVariants.{Less, Equal, Greater}
use Rattle.std.specs.Ordering.{is_eq, match_ordering}
use Rattle.std.specs.Cmp.Lexicographic.{nat_list_cmp_total}
use Rattle.std.proofs.lemmas.Cmp.{tied_itself}
use Rattle.receipts.specs.declared.session.Token.{Token}
use Rattle.receipts.specs.TokenSets.{Tokens, token_cmp, has, with_token, without_token}
use Rattle.receipts.specs.TokenLaws.{without_with}
use Rattle.open_sessions.specs.Opened.{kept_behind, IsFreshFor}

itself : (token : Token) → is_eq (token_cmp token token) ≡ true
itself token = ap is_eq (tied_itself nat_list_cmp_total token.bytes)

or_later : (a b : Bool) → b ≡ true → (a || b) ≡ true
or_later true b e = refl
or_later false b e = e

has_with : (tokens : Tokens) (token : Token) → has (with_token tokens token) token ≡ true
has_with [] token = ap (λ (b : Bool). b || false) (itself token)
has_with (first ∷ rest) token = step (token_cmp token first) refl (has_with rest token)
  where
    step : (r : Ordering) → token_cmp token first ≡ r → has (with_token rest token) token ≡ true
        → has (match_ordering r (token ∷ first ∷ rest) (first ∷ rest) (first ∷ with_token rest token)) token ≡ true
    step Less is later = ap (λ (b : Bool). b || has (first ∷ rest) token) (itself token)
    step Equal is later = ap (λ (b : Ordering). is_eq b || has rest token) is
    step Greater is later = or_later (is_eq (token_cmp token first)) (has (with_token rest token) token) later

pub has_kept : (was now : Tokens) (token : Option Token) → now ≡ kept_behind token was
    → IfSome token (λ (token : Token). has now token ≡ true)
has_kept was now None is = tt
has_kept was now (Some token) is = ap (λ (ts : Tokens). has ts token) is ∙ has_with was token

pub forgotten : (was kept now : Tokens) (token : Option Token) (given : Token) → token ≡ Some given → now ≡ without_token kept given
    → IsFreshFor was token → kept ≡ kept_behind token was → now ≡ was
forgotten was kept now None given some is fresh kept_is = absurd (cc)
forgotten was kept now (Some token) given some is fresh kept_is =
    let one : given ≡ token = cc in
    is ∙ (λ i. without_token (kept_is i) (one i)) ∙ without_with was token fresh
