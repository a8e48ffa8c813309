-- Grammars: what fits a layout, its print, and where bytes break it. A layout is said by one, and read and written by it.
--     field, whole      one field; a grammar that is told as one
--     followed_by      one grammar behind another, which may depend on the value before
--     seen_as      the same bytes for values of another type
--     items_of, counted      items of a list; the same behind their number
--     choice      by a first byte
use Rattle.std.specs.Prelude.{⊤, ◌≡◌, ℕ, ◌+◌, List, [], ◌++◌, length}
use Rattle.std.specs.Int.{Width, w8}
use Rattle.std.proofs.Common.{refl, sym, subst, append_assoc, length-append, arith}
use Rattle.wire_bytes.specs.Layout.{number_bytes}
use Rattle.wire_bytes.specs.Breaks.{Behind, FieldBreaks, ItemsBreak, items_bytes, AreItems, AreCounted}
use Rattle.wire_bytes.specs.BreakLaws.{field_goes_on, field_wider, items_go_on, items_wider}

-- The values that fit, the bytes of each, and where bytes break, by how what follows breaks. Behind a print the bytes break
-- where what follows breaks; and they break too where less is asked of what follows.
pub record Grammar (V : Type 0) : Type 1 where
  pub Fits : V → Type 0
  pub print : V → List ℕ
  pub Breaks : Behind V → List ℕ → ℕ → Type 0
  pub goes_on : (more : Behind V) (value : V) (rest : List ℕ) (offset : ℕ) → Fits value → more value rest offset
      → Breaks more (print value ++ rest) (length (print value) + offset)
  pub wider : (more more' : Behind V) → ((value : V) (rest : List ℕ) (offset : ℕ) → more value rest offset → more' value rest offset)
      → (bytes : List ℕ) (offset : ℕ) → Breaks more bytes offset → Breaks more' bytes offset

-- one field, which breaks at its first byte
unfoldable pub field : {V : Type 0} → (V → Type 0) → (V → List ℕ) → Grammar V
field Fits print = record {
  Fits = Fits;
  print = print;
  Breaks = FieldBreaks Fits print;
  goes_on = field_goes_on Fits print;
  wider = field_wider Fits print;
}

-- a number of this width that is one of these
abbrev pub number : Width → (ℕ → Type 0) → Grammar ℕ
number w Fits = field Fits (number_bytes w)

-- these bytes and no others
abbrev pub magic : List ℕ → Grammar (Unit {0})
magic bytes = field (λ _. ⊤) (λ _. bytes)

-- the same layout, told as one: wherever it breaks, it does so at its first byte
abbrev pub whole : {V : Type 0} → Grammar V → Grammar V
whole grammar = field grammar.Fits grammar.print

-- a value, and behind it one whose grammar it tells
unfoldable pub followed_by : {A B : Type 0} → Grammar A → (A → Grammar B) → Grammar (A × B)
followed_by {A} {B} first next = record {
  Fits = λ p. first.Fits p.0 × (next p.0).Fits p.1;
  print = λ p. first.print p.0 ++ (next p.0).print p.1;
  Breaks = λ more. first.Breaks (λ a. (next a).Breaks (λ b. more (a, b)));
  goes_on = λ more p rest offset fits why.
      let a = first.print p.0 in
      let b = (next p.0).print p.1 in
      let later = (next p.0).goes_on (λ b. more (p.0, b)) p.1 rest offset fits.1 why in
      let all = first.goes_on (λ a. (next a).Breaks (λ b. more (a, b))) p.0 (b ++ rest) (length b + offset) fits.0 later in
      subst (λ (bytes : List ℕ). first.Breaks (λ a. (next a).Breaks (λ b. more (a, b))) bytes (length (a ++ b) + offset))
      (sym (append_assoc a b rest))
      (subst (λ (n : ℕ). first.Breaks (λ a. (next a).Breaks (λ b. more (a, b))) (a ++ (b ++ rest)) n) (sums a b offset) all);
  wider = λ more more' f bytes offset why.
      first.wider (λ a. (next a).Breaks (λ b. more (a, b))) (λ a. (next a).Breaks (λ b. more' (a, b)))
      (λ a rest behind w. (next a).wider (λ b. more (a, b)) (λ b. more' (a, b)) (λ b. f (a, b)) rest behind w) bytes offset why;
}
  where
    sums : (m n : List ℕ) (behind : ℕ) → length m + (length n + behind) ≡ length (m ++ n) + behind
    sums m n behind = omega (arith, length-append m n)

-- values of another type that go to and fro between those of a grammar
pub record Sees {A W : Type 0} (grammar : Grammar A) (Fits : W → Type 0) (parts : W → A) (make : A → W) : Type 0 where
  pub fits : (value : W) → Fits value → grammar.Fits (parts value)
  pub made : (value : W) → Fits value → make (parts value) ≡ value
  pub makes : (a : A) → grammar.Fits a → Fits (make a)
  pub parted : (a : A) → grammar.Fits a → parts (make a) ≡ a

-- the same bytes for the other values
unfoldable pub seen_as : {A W : Type 0} (grammar : Grammar A) (Fits : W → Type 0) (parts : W → A) (make : A → W)
    → Sees grammar Fits parts make → Grammar W
seen_as {A} {W} grammar Fits parts make sees = record {
  Fits = Fits;
  print = λ w. grammar.print (parts w);
  Breaks = λ more. grammar.Breaks (λ a. more (make a));
  goes_on = λ more w rest offset fits why.
      grammar.goes_on (λ a. more (make a)) (parts w) rest offset (sees.fits w fits)
      (subst (λ (v : W). more v rest offset) (sym (sees.made w fits)) why);
  wider = λ more more' f bytes offset why. grammar.wider (λ a. more (make a)) (λ a. more' (make a)) (λ a. f (make a)) bytes offset why;
}

-- this number of items, each of which breaks at its first byte; which fit depends on those before
unfoldable pub items_of : {V : Type 0} → (List V → V → Type 0) → (V → List ℕ) → ℕ → Grammar (List V)
items_of Fits print count = record {
  Fits = AreCounted Fits count;
  print = items_bytes print;
  Breaks = λ more. ItemsBreak Fits print more count [];
  goes_on = items_go_on Fits print count;
  wider = λ more more' f bytes offset why. items_wider Fits print more more' f count [] bytes offset why;
}

-- the number of items, and the items
pub sees_counted : {V : Type 0} (w : Width) (IsCount : ℕ → Type 0) (Fits : List V → V → Type 0) (print : V → List ℕ)
    → Sees (followed_by (number w IsCount) (items_of Fits print)) (λ xs. IsCount (length xs) × AreItems Fits [] xs) (λ xs. (length xs, xs))
    (λ p. p.1)
unfolding field followed_by items_of
sees_counted w IsCount Fits print = record {
  fits = λ xs are. (are.0, (are.1, refl));
  made = λ xs are. refl;
  makes = λ p are. (subst IsCount (sym are.1.1) are.0, are.1.0);
  parted = λ p are i. (are.1.1 i, p.1);
}

-- items behind their number, which is one of these
abbrev pub counted : {V : Type 0} → Width → (ℕ → Type 0) → (List V → V → Type 0) → (V → List ℕ) → Grammar (List V)
counted w IsCount Fits print =
    seen_as (followed_by (number w IsCount) (items_of Fits print)) (λ xs. IsCount (length xs) × AreItems Fits [] xs) (λ xs. (length xs, xs))
    (λ p. p.1) (sees_counted w IsCount Fits print)

-- Each value has a kind, which its first byte tells: those that fit the grammar of a kind are of this kind.
abbrev pub Tells : {V : Type 0} → (V → ℕ) → (ℕ → Grammar V) → Type 0
Tells {V} kind_of of_kind = (kind : ℕ) (value : V) → (of_kind kind).Fits value → kind_of value ≡ kind

pub sees_choice : {V : Type 0} (IsKind : ℕ → Type 0) (kind_of : V → ℕ) (of_kind : ℕ → Grammar V) → Tells kind_of of_kind
    → Sees (followed_by (number w8 IsKind) of_kind) (λ v. IsKind (kind_of v) × (of_kind (kind_of v)).Fits v) (λ v. (kind_of v, v))
    (λ p. p.1)
unfolding field followed_by
sees_choice IsKind kind_of of_kind tells = record {
  fits = λ v fits. fits;
  made = λ v fits. refl;
  makes = λ p fits. subst (λ (kind : ℕ). IsKind kind × (of_kind kind).Fits p.1) (sym (tells p.0 p.1 fits.1)) fits;
  parted = λ p fits i. (tells p.0 p.1 fits.1 i, p.1);
}

-- a kind, and behind it a value of that kind
abbrev pub choice : {V : Type 0} (IsKind : ℕ → Type 0) (kind_of : V → ℕ) (of_kind : ℕ → Grammar V) → Tells kind_of of_kind → Grammar V
choice IsKind kind_of of_kind tells =
    seen_as (followed_by (number w8 IsKind) of_kind) (λ v. IsKind (kind_of v) × (of_kind (kind_of v)).Fits v) (λ v. (kind_of v, v))
    (λ p. p.1) (sees_choice IsKind kind_of of_kind tells)
