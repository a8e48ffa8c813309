-- Layouts that are read from a stream, which may end too early.
--     Layout      which values fit, the print of each, and what is said of bytes where no print stands
--     field      one field, of the values of a width of which some fit
--     followed_by      a layout behind another; `shift` is how much further on its offsets begin
--     seen_as      the same bytes for values of another type
--     nothing, chosen      no bytes at all; one of two layouts
use Rattle.std.specs.Prelude.{◌≡◌, ℕ, ◌+◌, Bool, true, false, List, [], ◌++◌, Option, Some, None, ◌⊎◌}
use Rattle.std.proofs.Common.{refl, sym, ap, subst, ◌∙◌, append_assoc, inl, inr}
use Rattle.wire_bytes.specs.Kind.{IsReadOneWay}
use Rattle.wire_bytes.specs.Breaks.{NoneStands}

-- The values that fit, and their prints. Bytes are Broken if a whole field breaks the layout, told by the offset of its frame. They
-- are Cut if they end in or before a field, and all before it holds. No print begins another; and bytes are one of the three at most.
pub record Layout (V : Type 0) : Type 1 where
  pub Fits : V → Type 0
  pub print : V → List ℕ
  pub Broken : List ℕ → ℕ → Type 0
  pub Cut : List ℕ → Type 0
  pub one_way : IsReadOneWay Fits print
  pub not_broken : (value : V) (rest : List ℕ) (offset : ℕ) → Fits value → Broken (print value ++ rest) offset → ⊥
  pub not_cut : (value : V) (rest : List ℕ) → Fits value → Cut (print value ++ rest) → ⊥
  pub not_both : (bytes : List ℕ) (offset : ℕ) → Broken bytes offset → Cut bytes → ⊥
  pub one_offset : (bytes : List ℕ) (m n : ℕ) → Broken bytes m → Broken bytes n → m ≡ n

-- ---- one field

-- a value of the width stands at the front, and it doesn't fit
pub record Misfits {V : Type 0} (Is Fits : V → Type 0) (print : V → List ℕ) (bytes : List ℕ) : Type 0 where
  pub value : V
  pub rest : List ℕ
  pub is : Is value
  pub misfit : Fits value → ⊥
  pub parts : bytes ≡ print value ++ rest

unfoldable pub field : {V : Type 0} (Is Fits : V → Type 0) (print : V → List ℕ) → IsReadOneWay Is print
    → ((value : V) → Fits value → Is value) → Layout V
field {V} Is Fits print one wide = record {
  Fits = Fits;
  print = print;
  Broken = λ bytes offset. (offset ≡ 0) × Misfits Is Fits print bytes;
  Cut = NoneStands Is print;
  one_way = λ a b x y fits_a fits_b e. one a b x y (wide a fits_a) (wide b fits_b) e;
  not_broken = λ value rest offset fits b.
      b.1.misfit (subst Fits (one value b.1.value rest b.1.rest (wide value fits) b.1.is b.1.parts).0 fits);
  not_cut = λ value rest fits cut. cut.none value rest (wide value fits) refl;
  not_both = λ bytes offset b cut. cut.none b.1.value b.1.rest b.1.is b.1.parts;
  one_offset = λ bytes m n a b. a.0 ∙ sym b.0;
}

-- no bytes, for one value
unfoldable pub nothing : {V : Type 0} → V → Layout V
nothing {V} the = record {
  Fits = λ value. value ≡ the;
  print = λ value. [];
  Broken = λ bytes offset. ⊥;
  Cut = λ bytes. ⊥;
  one_way = λ a b x y fits_a fits_b e. (fits_a ∙ sym fits_b, e);
  not_broken = λ value rest offset fits b. b;
  not_cut = λ value rest fits cut. cut;
  not_both = λ bytes offset b cut. b;
  one_offset = λ bytes m n a b. absurd a;
}

abbrev pub chosen : {V : Type 0} → Bool → Layout V → Layout V → Layout V
chosen true a b = a
chosen false a b = b

-- ---- one behind another

-- a value stands at the front, and what follows it is broken
pub record BrokenBehind {A B : Type 0} (shift : A → ℕ) (first : Layout A) (next : A → Layout B) (bytes : List ℕ) (offset : ℕ) : Type 0 where
  pub value : A
  pub rest : List ℕ
  pub behind : ℕ
  pub fits : first.Fits value
  pub parts : bytes ≡ first.print value ++ rest
  pub here : offset ≡ shift value + behind
  pub why : (next value).Broken rest behind

-- a value stands at the front, and what follows it is cut
pub record CutBehind {A B : Type 0} (first : Layout A) (next : A → Layout B) (bytes : List ℕ) : Type 0 where
  pub value : A
  pub rest : List ℕ
  pub fits : first.Fits value
  pub parts : bytes ≡ first.print value ++ rest
  pub why : (next value).Cut rest

module _ {A B : Type 0} (shift : A → ℕ) (first : Layout A) (next : A → Layout B) where
  abbrev pub both_fit : A × B → Type 0
  both_fit p = first.Fits p.0 × (next p.0).Fits p.1

  abbrev pub both_print : A × B → List ℕ
  both_print p = first.print p.0 ++ (next p.0).print p.1

  abbrev pub either_broken : List ℕ → ℕ → Type 0
  either_broken bytes offset = first.Broken bytes offset ⊎ BrokenBehind shift first next bytes offset

  abbrev pub either_cut : List ℕ → Type 0
  either_cut bytes = first.Cut bytes ⊎ CutBehind first next bytes

  moved_broken : (a v : A) (x y : List ℕ) (k : ℕ) → a ≡ v → x ≡ y → (next v).Broken y k → (next a).Broken x k
  moved_broken a v x y k p q why = subst (λ (c : A). (next c).Broken x k) (sym p) (subst (λ (r : List ℕ). (next v).Broken r k) (sym q) why)

  moved_cut : (a v : A) (x y : List ℕ) → a ≡ v → x ≡ y → (next v).Cut y → (next a).Cut x
  moved_cut a v x y p q why = subst (λ (c : A). (next c).Cut x) (sym p) (subst (λ (r : List ℕ). (next v).Cut r) (sym q) why)

  pub both_one_way : IsReadOneWay both_fit both_print
  both_one_way = λ a b x y fits_a fits_b e.
      let parts : first.print a.0 ++ ((next a.0).print a.1 ++ x) ≡ first.print b.0 ++ ((next b.0).print b.1 ++ y) =
      sym (append_assoc (first.print a.0) ((next a.0).print a.1) x) ∙ e ∙ append_assoc (first.print b.0) ((next b.0).print b.1) y in
      let h = first.one_way a.0 b.0 _ _ fits_a.0 fits_b.0 parts in
      subst (λ (c : A). (d : B) → (next c).Fits d → (next a.0).print a.1 ++ x ≡ (next c).print d ++ y → (a ≡ (c, d)) × (x ≡ y)) h.0
      (λ d fits same. let r = (next a.0).one_way a.1 d x y fits_a.1 fits same in (ap (λ (z : B). (a.0, z)) r.0, r.1)) b.1 fits_b.1 h.1

  pub both_not_broken : (p : A × B) (rest : List ℕ) (offset : ℕ) → both_fit p → either_broken (both_print p ++ rest) offset → ⊥
  both_not_broken p rest offset fits (inl why) =
      first.not_broken p.0 ((next p.0).print p.1 ++ rest) offset fits.0
      (subst (λ (bytes : List ℕ). first.Broken bytes offset) (append_assoc (first.print p.0) ((next p.0).print p.1) rest) why)
  both_not_broken p rest offset fits (inr b) =
      let h = first.one_way p.0 b.value ((next p.0).print p.1 ++ rest) b.rest fits.0 b.fits
      (sym (append_assoc (first.print p.0) ((next p.0).print p.1) rest) ∙ b.parts) in
      (next p.0).not_broken p.1 rest b.behind fits.1 (moved_broken p.0 b.value _ b.rest b.behind h.0 h.1 b.why)

  pub both_not_cut : (p : A × B) (rest : List ℕ) → both_fit p → either_cut (both_print p ++ rest) → ⊥
  both_not_cut p rest fits (inl why) =
      first.not_cut p.0 ((next p.0).print p.1 ++ rest) fits.0
      (subst first.Cut (append_assoc (first.print p.0) ((next p.0).print p.1) rest) why)
  both_not_cut p rest fits (inr c) =
      let h = first.one_way p.0 c.value ((next p.0).print p.1 ++ rest) c.rest fits.0 c.fits
      (sym (append_assoc (first.print p.0) ((next p.0).print p.1) rest) ∙ c.parts) in
      (next p.0).not_cut p.1 rest fits.1 (moved_cut p.0 c.value _ c.rest h.0 h.1 c.why)

  pub broken_or_cut : (bytes : List ℕ) (offset : ℕ) → either_broken bytes offset → either_cut bytes → ⊥
  broken_or_cut bytes offset (inl b) (inl c) = first.not_both bytes offset b c
  broken_or_cut bytes offset (inl b) (inr c) =
      first.not_broken c.value c.rest offset c.fits (subst (λ (r : List ℕ). first.Broken r offset) c.parts b)
  broken_or_cut bytes offset (inr b) (inl c) = first.not_cut b.value b.rest b.fits (subst first.Cut b.parts c)
  broken_or_cut bytes offset (inr b) (inr c) =
      let h = first.one_way b.value c.value b.rest c.rest b.fits c.fits (sym b.parts ∙ c.parts) in
      (next b.value).not_both b.rest b.behind b.why (moved_cut b.value c.value b.rest c.rest h.0 h.1 c.why)

  pub broken_once : (bytes : List ℕ) (m n : ℕ) → either_broken bytes m → either_broken bytes n → m ≡ n
  broken_once bytes m n (inl a) (inl b) = first.one_offset bytes m n a b
  broken_once bytes m n (inl a) (inr b) =
      absurd (first.not_broken b.value b.rest m b.fits (subst (λ (r : List ℕ). first.Broken r m) b.parts a))
  broken_once bytes m n (inr a) (inl b) =
      absurd (first.not_broken a.value a.rest n a.fits (subst (λ (r : List ℕ). first.Broken r n) a.parts b))
  broken_once bytes m n (inr a) (inr b) =
      let h = first.one_way a.value b.value a.rest b.rest a.fits b.fits (sym a.parts ∙ b.parts) in
      let k = (next a.value).one_offset a.rest a.behind b.behind a.why
      (moved_broken a.value b.value a.rest b.rest b.behind h.0 h.1 b.why) in
      a.here ∙ ap (λ (v : A). shift v + a.behind) h.0 ∙ ap (λ (j : ℕ). shift b.value + j) k ∙ sym b.here

-- a value, and behind it one whose layout it tells
unfoldable pub followed_by : {A B : Type 0} → (A → ℕ) → Layout A → (A → Layout B) → Layout (A × B)
followed_by {A} {B} shift first next = record {
  Fits = both_fit shift first next;
  print = both_print shift first next;
  Broken = either_broken shift first next;
  Cut = either_cut shift first next;
  one_way = both_one_way shift first next;
  not_broken = both_not_broken shift first next;
  not_cut = both_not_cut shift first next;
  not_both = broken_or_cut shift first next;
  one_offset = broken_once shift first next;
}

-- ---- values of another type

abbrev pub FitsAs : {A : Type 0} → (A → Type 0) → Option A → Type 0
FitsAs Fits None = ⊥
FitsAs Fits (Some a) = Fits a

abbrev pub print_as : {A : Type 0} → (A → List ℕ) → Option A → List ℕ
print_as print None = []
print_as print (Some a) = print a

module _ {A W : Type 0} (layout : Layout A) (part : W → Option A) (make : A → W)
    (made : (w : W) (a : A) → part w ≡ Some a → w ≡ make a) where
  pub seen_one_way : (w v : W) (x y : List ℕ) (m n : Option A) → part w ≡ m → part v ≡ n → FitsAs layout.Fits m → FitsAs layout.Fits n
      → print_as layout.print m ++ x ≡ print_as layout.print n ++ y → (w ≡ v) × (x ≡ y)
  seen_one_way w v x y None n p q fits_w fits_v e = absurd fits_w
  seen_one_way w v x y (Some a) None p q fits_w fits_v e = absurd fits_v
  seen_one_way w v x y (Some a) (Some b) p q fits_w fits_v e =
      let h = layout.one_way a b x y fits_w fits_v e in (made w a p ∙ ap make h.0 ∙ sym (made v b q), h.1)

  pub seen_not_broken : (m : Option A) (rest : List ℕ) (offset : ℕ) → FitsAs layout.Fits m
      → layout.Broken (print_as layout.print m ++ rest) offset → ⊥
  seen_not_broken None rest offset fits why = fits
  seen_not_broken (Some a) rest offset fits why = layout.not_broken a rest offset fits why

  pub seen_not_cut : (m : Option A) (rest : List ℕ) → FitsAs layout.Fits m → layout.Cut (print_as layout.print m ++ rest) → ⊥
  seen_not_cut None rest fits why = fits
  seen_not_cut (Some a) rest fits why = layout.not_cut a rest fits why

-- the same bytes for values that have a part which fits
unfoldable pub seen_as : {A W : Type 0} (layout : Layout A) (part : W → Option A) (make : A → W)
    → ((w : W) (a : A) → part w ≡ Some a → w ≡ make a) → Layout W
seen_as {A} {W} layout part make made = record {
  Fits = λ w. FitsAs layout.Fits (part w);
  print = λ w. print_as layout.print (part w);
  Broken = layout.Broken;
  Cut = layout.Cut;
  one_way = λ w v x y fits_w fits_v e. seen_one_way layout part make made w v x y (part w) (part v) refl refl fits_w fits_v e;
  not_broken = λ w rest offset fits why. seen_not_broken layout part make made (part w) rest offset fits why;
  not_cut = λ w rest fits why. seen_not_cut layout part make made (part w) rest fits why;
  not_both = layout.not_both;
  one_offset = layout.one_offset;
}
