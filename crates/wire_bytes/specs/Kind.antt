-- What holds for each kind of field. A kind is given by which values fit it, and the layout of each of them.
use Rattle.std.specs.Prelude.{◌≡◌, ℕ, ◌<◌, List, ◌++◌, length, Result, Err, IfOk, IsOkAnd, ◌↔◌}
use Rattle.wire_bytes.specs.declared.fault.FieldFault.{FieldFault}
use Rattle.wire_bytes.specs.declared.fault.FieldFault.TheVariants.{Ended}
use Rattle.wire_bytes.specs.Reading.{Reading, left, Passes}

-- these bytes lack only an end to be a layout of the kind
pub record IsCut {V : Type 0} (Fits : V → Type 0) (layout : V → List ℕ) (bytes : List ℕ) : Type 0 where
  pub value : V
  pub fits : Fits value
  pub end : List ℕ
  pub lacks : 0 < length end
  pub whole : layout value ≡ bytes ++ end

-- A call that reads a value by its layout. Of the value that it gives it went past the layout, and no further. Each
-- layout is read, whatever follows it. So it fails only where no layout stands.
pub record Reads {X V E : Type 0} (view : X → V) (Fits : V → Type 0) (layout : V → List ℕ) (old : Reading) (result : Result X E)
    (new : Reading) : Type 0 where
  pub found : IfOk result (λ x. Fits (view x) × Passes old new (layout (view x)))
  pub back : (value : V) (rest : List ℕ) → Fits value → left old ≡ layout value ++ rest
      → IsOkAnd result (λ x. (view x ≡ value) × (left new ≡ rest))

-- A call that reads a field of a kind: `Ended` comes exactly where the end cuts a layout off.
pub record ReadsField {X V : Type 0} (view : X → V) (Fits : V → Type 0) (layout : V → List ℕ) (old : Reading) (result : Result X FieldFault)
    (new : Reading) : Type 0 where
  pub reads : Reads view Fits layout old result new
  pub ended : (result ≡ Err (Ended old.offset)) ↔ IsCut Fits layout (left old)

-- No layout of the kind begins another, and no two values have one layout.
abbrev pub IsReadOneWay : {V : Type 0} → (V → Type 0) → (V → List ℕ) → Type 0
IsReadOneWay {V} Fits layout = (a b : V) (x y : List ℕ) → Fits a → Fits b → layout a ++ x ≡ layout b ++ y → (a ≡ b) × (x ≡ y)
