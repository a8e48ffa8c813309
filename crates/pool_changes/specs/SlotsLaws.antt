-- Laws of specs/Slots.
use Rattle.std.specs.Prelude.{◌≡◌, ℕ, ◌-◌, Bool, true, false, List, if◌then◌else◌}
use Rattle.std.specs.declared.cmp.Ordering.{Ordering}
use Rattle.std.specs.declared.cmp.Ordering.TheVariants.{Less, Equal, Greater}
use Rattle.std.specs.Ordering.{nat_cmp, ordering_then, is_eq}
use Rattle.std.specs.FinMap.{nat_cmp-IsAntisymmetric, slice_cmp-IsAntisymmetric}
use Rattle.std.proofs.lemmas.Map.Text.{is_eq-slice_cmp}
use Rattle.std.specs.Cmp.{nat_cmp_is}
use Rattle.std.proofs.Common.{refl, sym, ap, ◌∙◌, inl, inr, subst}
use Rattle.std.proofs.lemmas.Bool.{false≢true}
use Rattle.std.specs.Cmp.Lexicographic.{bytes_decides}
use Rattle.intent_journal.specs.ChangesLaws.{either}
use Rattle.std.specs.Cmp.Lexicographic.{slice_cmp}
use Rattle.disk_trait.specs.declared.ids.PoolId.{PoolId}
use Rattle.disk_trait.specs.declared.ids.FileId.TheVariants.{Pool}
use Rattle.disk_trait.specs.NamesLaws.{is_same_file-itself}
use Rattle.pool_index.specs.Items.{id_cmp, is_same_id}
use Rattle.pool_index.specs.ItemLaws.{one_id}
use Rattle.pool_changes.specs.Slots.{id_of}

-- one name
pub same_id : (a b : PoolId) → id_cmp a b ≡ Equal → a ≡ b
same_id a b e = step (slice_cmp nat_cmp a.digest b.digest) refl e
  where
    step : (r : Ordering) → slice_cmp nat_cmp a.digest b.digest ≡ r → ordering_then r (nat_cmp a.extension b.extension) ≡ Equal → a ≡ b
    step Less is e = absurd (cc)
    step Greater is e = absurd (cc)
    step Equal is e =
        let digests : a.digest ≡ b.digest = slice_cmp-IsAntisymmetric nat_cmp-IsAntisymmetric a.digest b.digest is in
        let extensions : a.extension ≡ b.extension = nat_cmp-IsAntisymmetric a.extension b.extension e in
        ap (λ (d : List ℕ). id_of d a.extension) digests ∙ ap (λ (x : ℕ). id_of b.digest x) extensions

pub id_itself : (a : PoolId) → is_eq (id_cmp a a) ≡ true
id_itself a = step (slice_cmp nat_cmp a.digest a.digest) (is_eq-slice_cmp a.digest a.digest ∙ (bytes_decides a.digest a.digest).1 refl)
  where
    step : (r : Ordering) → is_eq r ≡ true → is_eq (ordering_then r (nat_cmp a.extension a.extension)) ≡ true
    step Less e = absurd (cc)
    step Greater e = absurd (cc)
    step Equal e = ap is_eq (sym (nat_cmp_is a.extension a.extension Equal refl))

pub equal_of : (r : Ordering) → is_eq r ≡ true → r ≡ Equal
equal_of Less e = absurd (cc)
equal_of Greater e = absurd (cc)
equal_of Equal e = refl

pub same_names : (a b : PoolId) → is_eq (id_cmp a b) ≡ is_same_id b a
same_names a b = elim (either (is_eq (id_cmp a b))) [
  | inl same ↦
      let one : a ≡ b = same_id a b (equal_of (id_cmp a b) same) in
      same ∙ sym (subst (λ (x : PoolId). is_same_id b x ≡ true) (sym one) (is_same_file-itself (Pool b)))
  | inr other ↦ elim (either (is_same_id b a)) [
    | inl same ↦
        let one : b ≡ a = one_id b a same in
        absurd (false≢true (sym other ∙ subst (λ (x : PoolId). is_eq (id_cmp a x) ≡ true) (sym one) (id_itself a)))
    | inr none ↦ other ∙ sym none
  ]
]

-- a look-up behind an update, as the map says it and as a test of names does
pub set_at : {X : Type 0} (a b : PoolId) (slot old : X) → (if is_eq (id_cmp a b) then slot else old) ≡ (if is_same_id b a then slot else old)
set_at a b slot old = ap (λ (t : Bool). if t then slot else old) (same_names a b)
