-- Laws of specs/OneWay.
--     peel      a field at the front, and what stands behind it
--     narrow_once      a layout of fewer values
--     field_once, then_once, seen_once, items_once, counted_once      each way in which grammars are put together
--     sealed_once      no two values have one sealed file
use Rattle.std.specs.Prelude.{◌≡◌, ℕ, List, [], ◌∷◌, ◌++◌, length}
use Rattle.std.specs.Int.{Width}
use Rattle.std.proofs.Common.{refl, sym, ap, subst, ◌∙◌, append_assoc, arith}
use Rattle.wire_bytes.specs.Kind.{IsReadOneWay}
use Rattle.wire_bytes.specs.Seal.{sealed}
use Rattle.wire_bytes.specs.SealLaws.{same_from_sealed}
use Rattle.wire_bytes.specs.Breaks.{items_bytes, AreItems}
use Rattle.wire_bytes.specs.Grammar.{Grammar, field, number, followed_by, Sees, seen_as, items_of, counted, sees_counted}
use Rattle.one_way_layouts.specs.OneWay.{IsOneWay}

-- a field at the front of two lists of bytes that are one, and what stands behind it
pub peel : {V : Type 0} {Fits : V → Type 0} (print : V → List ℕ) → IsReadOneWay Fits print → (a b : V) (x y u v : List ℕ)
    → Fits a → Fits b → (print a ++ x) ++ u ≡ (print b ++ y) ++ v → (a ≡ b) × (x ++ u ≡ y ++ v)
peel {V} {Fits} print one a b x y u v fits_a fits_b same =
    one a b (x ++ u) (y ++ v) fits_a fits_b (sym (append_assoc (print a) x u) ∙ same ∙ append_assoc (print b) y v)

pub narrow_once : {V : Type 0} {Fits Wide : V → Type 0} (print : V → List ℕ) → ((value : V) → Fits value → Wide value)
    → IsReadOneWay Wide print → IsReadOneWay Fits print
narrow_once print wide one = λ a b x y fits_a fits_b same. one a b x y (wide a fits_a) (wide b fits_b) same

pub field_once : {V : Type 0} (Fits : V → Type 0) (print : V → List ℕ) → IsReadOneWay Fits print → IsOneWay (field Fits print)
unfolding field
field_once Fits print one = one

pub then_once : {A B : Type 0} (first : Grammar A) (next : A → Grammar B) → IsOneWay first → ((a : A) → first.Fits a → IsOneWay (next a))
    → IsOneWay (followed_by first next)
unfolding followed_by
then_once {A} {B} first next one others = λ p q x y fits_p fits_q same.
    let front = peel first.print one p.0 q.0 ((next p.0).print p.1) ((next q.0).print q.1) x y fits_p.0 fits_q.0 same in
    let fits : (next p.0).Fits q.1 = subst (λ (a : A). (next a).Fits q.1) (sym front.0) fits_q.1 in
    let behind = others p.0 fits_p.0 p.1 q.1 x y fits_p.1 fits
    (front.1 ∙ ap (λ (a : A). (next a).print q.1 ++ y) (sym front.0)) in
    ((λ i. (front.0 i, behind.0 i)), behind.1)

pub seen_once : {A W : Type 0} (grammar : Grammar A) (Fits : W → Type 0) (parts : W → A) (make : A → W)
    (sees : Sees grammar Fits parts make) → IsOneWay grammar → IsOneWay (seen_as grammar Fits parts make sees)
unfolding seen_as
seen_once grammar Fits parts make sees one = λ v w x y fits_v fits_w same.
    let r = one (parts v) (parts w) x y (sees.fits v fits_v) (sees.fits w fits_w) same in
    (sym (sees.made v fits_v) ∙ ap make r.0 ∙ sees.made w fits_w, r.1)

module _ {V : Type 0} (Fits : List V → V → Type 0) (print : V → List ℕ) (each : (before : List V) → IsReadOneWay (Fits before) print) where
  items_in_turn : (before xs ys : List V) (x y : List ℕ) → AreItems Fits before xs → AreItems Fits before ys → length xs ≡ length ys
      → items_bytes print xs ++ x ≡ items_bytes print ys ++ y → (xs ≡ ys) × (x ≡ y)
  items_in_turn before [] [] x y f g count same = (refl, same)
  items_in_turn before [] (b ∷ ys) x y f g count same = absurd (omega (arith, count))
  items_in_turn before (a ∷ xs) [] x y f g count same = absurd (omega (arith, count))
  items_in_turn before (a ∷ xs) (b ∷ ys) x y f g count same =
      let front = peel print (each before) a b (items_bytes print xs) (items_bytes print ys) x y f.0 g.0 same in
      let rest : AreItems Fits (before ++ a ∷ []) ys = subst (λ (v : V). AreItems Fits (before ++ v ∷ []) ys) (sym front.0) g.1 in
      let behind = items_in_turn (before ++ a ∷ []) xs ys x y f.1 rest (omega (arith, count)) front.1 in
      ((λ i. front.0 i ∷ behind.0 i), behind.1)

  pub items_once : (count : ℕ) → IsOneWay (items_of Fits print count)
  unfolding items_of
  items_once count = λ xs ys x y f g same. items_in_turn [] xs ys x y f.0 g.0 (f.1 ∙ sym g.1) same

  pub counted_once : (w : Width) (IsCount : ℕ → Type 0) → IsOneWay (number w IsCount) → IsOneWay (counted w IsCount Fits print)
  counted_once w IsCount one =
      seen_once (followed_by (number w IsCount) (items_of Fits print)) _ (λ xs. (length xs, xs)) (λ p. p.1) (sees_counted w IsCount Fits print)
      (then_once (number w IsCount) (items_of Fits print) one (λ count fits. items_once count))

-- no two values have one sealed file
pub sealed_once : {V : Type 0} (grammar : Grammar V) → IsOneWay grammar → (a b : V) → grammar.Fits a → grammar.Fits b
    → sealed (grammar.print a) ≡ sealed (grammar.print b) → a ≡ b
sealed_once grammar one a b fits_a fits_b same =
    (one a b [] [] fits_a fits_b (ap (λ (bytes : List ℕ). bytes ++ []) (same_from_sealed (grammar.print a) (grammar.print b) same))).0
