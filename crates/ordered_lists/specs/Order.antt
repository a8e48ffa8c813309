-- Lists of entries in the order of their keys; R is the order of the keys.
--     IsInOrder R entries      the keys strictly rise
--     is_after R entries key      the key comes after that of the last entry
use Rattle.std.specs.Prelude.{◌≡◌, Bool, true, List, [], ◌∷◌}
use Rattle.std.specs.declared.cmp.Ordering.{Ordering}
use Rattle.std.specs.declared.cmp.Ordering.TheVariants.{Less}
use Rattle.std.specs.Ordering.{is_lt}

module _ {K X : Type 0} (R : K → K → Ordering) where
  -- the key comes before that of each entry
  abbrev pub IsBelowAll : K → List (K × X) → Type 0
  IsBelowAll k [] = Unit {0}
  IsBelowAll k (e ∷ es) = (R k e.0 ≡ Less) × IsBelowAll k es

  -- the keys strictly rise
  abbrev pub IsInOrder : List (K × X) → Type 0
  IsInOrder [] = Unit {0}
  IsInOrder (e ∷ es) = IsBelowAll e.0 es × IsInOrder es

  -- the key comes after that of the last entry, if there is one
  abbrev pub is_after : List (K × X) → K → Bool
  is_after [] q = true
  is_after (e ∷ []) q = is_lt (R e.0 q)
  is_after (e ∷ f ∷ es) q = is_after (f ∷ es) q
