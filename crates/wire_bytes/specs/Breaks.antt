-- The first offset at which bytes break a layout, counted from their first byte.
--     FieldBreaks      a field, and then what follows it
--     ItemsBreak      a number of items of a list, and then what follows them
--     TooMuch      nothing, where nothing may follow
-- What may follow is given by `more`: how what stands behind a value breaks, by the value.
use Rattle.std.specs.Prelude.{◌≡◌, ◌≢◌, ℕ, zero, suc, ◌+◌, List, [], ◌∷◌, ◌++◌, length, ◌⊎◌}

-- how what stands behind a value breaks: the value, the bytes behind it, the offset in them
abbrev pub Behind : Type 0 → Type 1
Behind V = V → List ℕ → ℕ → Type 0

-- the bytes don't begin with the print of a value that fits
pub record NoneStands {V : Type 0} (Fits : V → Type 0) (print : V → List ℕ) (bytes : List ℕ) : Type 0 where
  pub none : (value : V) (rest : List ℕ) → Fits value → bytes ≡ print value ++ rest → ⊥

-- the bytes begin with the print of a value that fits, and what follows it breaks
pub record BreaksBehind {V : Type 0} (Fits : V → Type 0) (print : V → List ℕ) (more : Behind V) (bytes : List ℕ) (offset : ℕ) : Type 0 where
  pub value : V
  pub rest : List ℕ
  pub behind : ℕ
  pub fits : Fits value
  pub parts : bytes ≡ print value ++ rest
  pub here : offset ≡ length (print value) + behind
  pub why : more value rest behind

-- the bytes break at a field, so at its first byte, or behind it
abbrev pub FieldBreaks : {V : Type 0} → (V → Type 0) → (V → List ℕ) → Behind V → List ℕ → ℕ → Type 0
FieldBreaks Fits print more bytes offset = ((offset ≡ 0) × NoneStands Fits print bytes) ⊎ BreaksBehind Fits print more bytes offset

-- The bytes break at one of a number of items, so at its first byte, or behind them. Which items fit depends on those before.
abbrev pub ItemsBreak : {V : Type 0} → (List V → V → Type 0) → (V → List ℕ) → Behind (List V) → ℕ → List V → List ℕ → ℕ → Type 0
ItemsBreak Fits print more zero before = more before
ItemsBreak Fits print more (suc n) before = FieldBreaks (Fits before) print (λ item. ItemsBreak Fits print more n (before ++ item ∷ []))

-- the prints of items, one behind the other
abbrev pub items_bytes : {V : Type 0} → (V → List ℕ) → List V → List ℕ
items_bytes print [] = []
items_bytes print (item ∷ items) = print item ++ items_bytes print items

-- each item fits behind those before it
abbrev pub AreItems : {V : Type 0} → (List V → V → Type 0) → List V → List V → Type 0
AreItems Fits before [] = Unit {0}
AreItems Fits before (item ∷ items) = Fits before item × AreItems Fits (before ++ item ∷ []) items

-- the same, of this number of items
abbrev pub AreCounted : {V : Type 0} → (List V → V → Type 0) → ℕ → List V → Type 0
AreCounted Fits count items = AreItems Fits [] items × (length items ≡ count)

-- nothing may stand here, and something does
abbrev pub TooMuch : List ℕ → ℕ → Type 0
TooMuch bytes offset = (bytes ≢ []) × (offset ≡ 0)

-- nothing breaks behind
abbrev pub Nothing : {V : Type 0} → Behind V
Nothing value rest offset = ⊥
