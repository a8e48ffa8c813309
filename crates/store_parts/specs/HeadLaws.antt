-- What is known of the partials of hosts, one of which is another, or behind which is a further one.
--     heads-set, heads-stay      another host in a place, of any partial;  of the same
--     heads-longer      a further host
--     length-heads      there are as many as hosts
use Rattle.std.specs.Prelude.{◌≡◌, ℕ, zero, suc, List, [], ◌∷◌, ◌++◌, length, Option, Some, slice_get, slice_set}
use Rattle.std.specs.Option.{option_map}
use Rattle.std.proofs.Common.{refl, sym, ap, ◌∙◌}
use Rattle.office_model.specs.Office.{Host, Partial}
use Rattle.store_parts.specs.Held.{head_of, heads_of}

pub heads-set : (hosts : List Host) (p : ℕ) (new : Host) → heads_of (slice_set hosts p new) ≡ slice_set (heads_of hosts) p (option_map head_of new.partial)
heads-set [] p new = refl
heads-set (host ∷ hosts) zero new = refl
heads-set (host ∷ hosts) (suc p) new = ap (λ heads. option_map head_of host.partial ∷ heads) (heads-set hosts p new)

pub heads-stay : (hosts : List Host) (p : ℕ) (host new : Host) → slice_get hosts p ≡ Some host → new.partial ≡ host.partial
    → heads_of (slice_set hosts p new) ≡ heads_of hosts
heads-stay [] p host new here same = refl
heads-stay (h ∷ hosts) zero host new here same =
    let is : h ≡ host = cc in
    ap (λ (partial : Option Partial). option_map head_of partial ∷ heads_of hosts) (same ∙ ap (λ (x : Host). x.partial) (sym is))
heads-stay (h ∷ hosts) (suc p) host new here same =
    ap (λ heads. option_map head_of h.partial ∷ heads) (heads-stay hosts p host new here same)

pub heads-longer : (hosts : List Host) (new : Host) → heads_of (hosts ++ new ∷ []) ≡ heads_of hosts ++ option_map head_of new.partial ∷ []
heads-longer [] new = refl
heads-longer (host ∷ hosts) new = ap (λ heads. option_map head_of host.partial ∷ heads) (heads-longer hosts new)

pub length-heads : (hosts : List Host) → length (heads_of hosts) ≡ length hosts
length-heads [] = refl
length-heads (host ∷ hosts) = ap suc (length-heads hosts)
