-- Laws of the order of names.
use Rattle.std.proofs.Common.{◌≡◌, ◌<◌, ◌≤◌, ℕ, zero, suc, Bool, true, false, cond, List, [], ◌∷◌, length, replicate, Option, Some, None, is_some, Result, Ok, Err, OnOk, OnErr, refl, sym, ap, ◌∙◌, subst, arith}
use Rattle.std.specs.declared.cmp.Ordering.{Ordering}
use Rattle.std.specs.declared.cmp.Ordering.TheVariants.{Less, Equal, Greater}
use Rattle.std.specs.Ordering.{nat_cmp, ordering_then, is_eq, is_gt, ordering_reverse, MatchOrdering}
use Rattle.std.specs.BTreeMap.{BTreeMap, Updates}
use Rattle.std.specs.Map.{lookup}
use Rattle.std.specs.Cmp.{ranked, nat_cmp_is}
use Rattle.std.proofs.lemmas.Cmp.{tied_itself}
use Rattle.std.specs.Cmp.Lexicographic.{slice_cmp, nat_list_cmp_total}
use Rattle.std.specs.FinMap.{nat_cmp-IsAntisymmetric, slice_cmp-IsAntisymmetric}
use Rattle.std.proofs.lemmas.Bool.{false≢true}
use Rattle.disk_trait.specs.declared.ids.PoolId.{PoolId}
use Rattle.pool_index.specs.Items.{id_cmp}
use Rattle.pool_index.specs.ItemLaws.{id_total}
use Rattle.pool_changes.specs.declared.slot.Slot.{Slot}
use Rattle.pool_changes.specs.Slots.{Slots, slots_in, id_of, is_given, size_of, least_of}
use Rattle.pool_changes.specs.SlotsLaws.{same_id, equal_of}
use Rattle.pool_changes.specs.Named.{IsName, AreNames, AreSized}

pub le_not_gt : (a b : ℕ) → a ≤ b → is_gt (nat_cmp a b) ≡ false
le_not_gt a b le = step (nat_cmp a b) (ranked a b (nat_cmp a b) refl)
  where
    step : (r : Ordering) → MatchOrdering r (a < b) (a ≡ b) (b < a) → is_gt r ≡ false
    step Less is = refl
    step Equal is = refl
    step Greater is = absurd (omega (arith, is, le))

zeros_least : (n : ℕ) (xs : List ℕ) → length xs ≡ n → is_gt (slice_cmp nat_cmp (replicate n 0) xs) ≡ false
zeros_least zero [] e = refl
zeros_least zero (x ∷ xs) e = absurd (omega (arith, e))
zeros_least (suc n) [] e = absurd (omega (arith, e))
zeros_least (suc n) (zero ∷ xs) e = zeros_least n xs (omega (arith, e))
zeros_least (suc n) (suc x ∷ xs) e = ap (λ (r : Ordering). is_gt (ordering_then r (slice_cmp nat_cmp (replicate n 0) xs))) (sym (nat_cmp_is 0 (suc x) Less (omega arith)))

-- what comes before the least name isn't one
pub none_before_least : (id : PoolId) → IsName id → id_cmp id (least_of 0) ≡ Less → ⊥
none_before_least id name less =
    let back : id_cmp (least_of 0) id ≡ Greater = id_total.antisymm (least_of 0) id ∙ ap ordering_reverse less in
    false≢true (sym (least_first id name) ∙ ap is_gt back)
  where
    then_zero : (r : Ordering) (x : ℕ) → is_gt r ≡ false → is_gt (ordering_then r (nat_cmp 0 x)) ≡ false
    then_zero Less x e = refl
    then_zero Equal x e = le_not_gt 0 x (omega arith)
    then_zero Greater x e = absurd (false≢true (sym e))

    least_first : (id : PoolId) → IsName id → is_gt (id_cmp (least_of 0) id) ≡ false
    least_first id name = then_zero (slice_cmp nat_cmp (replicate 16 0) id.digest) id.extension (zeros_least 16 id.digest name.digest)
