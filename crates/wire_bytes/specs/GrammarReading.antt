-- Calls that read by a grammar.
--     Finds, Refuses      a value was read, or not
--     ReadsOrBreaks      the two as one, of a call's result
--     FileBreaks, ReadsSealed      the same of a whole file: the seal first, then its body, and nothing behind it
use Rattle.std.specs.Prelude.{◌≡◌, ℕ, ◌+◌, ◌-◌, List, ◌++◌, length, Option, Some, None, Result, ◌⊎◌, IfOk, IfErr, IfSome, MatchResult}
use Rattle.wire_bytes.specs.declared.fault.FieldFault.{FieldFault}
use Rattle.wire_bytes.specs.declared.fault.FieldFault.TheVariants.{Ended, Foreign}
use Rattle.wire_bytes.specs.Reading.{Reading, left, Passes}
use Rattle.wire_bytes.specs.Seal.{sealed}
use Rattle.wire_bytes.specs.Breaks.{TooMuch, Nothing}
use Rattle.wire_bytes.specs.Grammar.{Grammar}

-- Of the value that was read the reader went past the print, and no further; and no other value's print stands there.
pub record Finds {V : Type 0} (grammar : Grammar V) (old : Reading) (value : V) (new : Reading) : Type 0 where
  pub fits : grammar.Fits value
  pub passed : Passes old new (grammar.print value)
  pub back : (other : V) (rest : List ℕ) → grammar.Fits other → left old ≡ grammar.print other ++ rest → (value ≡ other) × (left new ≡ rest)

-- what was left breaks the grammar itself, and not what follows it, at this offset of the whole
abbrev pub BreaksAt : {V : Type 0} → Grammar V → Reading → ℕ → Type 0
BreaksAt grammar old offset = (behind : ℕ) × (offset ≡ old.offset + behind) × grammar.Breaks Nothing (left old) behind

-- A fault tells where the bytes break the grammar, or is want of memory and tells no offset. So no value's print stands
-- there, or there is no memory.
pub record Refuses {E V : Type 0} (offset_of : E → Option ℕ) (grammar : Grammar V) (old : Reading) (fault : E) : Type 0 where
  pub back : (value : V) (rest : List ℕ) → grammar.Fits value → left old ≡ grammar.print value ++ rest → offset_of fault ≡ None
  pub why : IfSome (offset_of fault) (BreaksAt grammar old)

-- the offset that a reader of bytes tells
abbrev pub fault_offset : FieldFault → Option ℕ
fault_offset (Ended offset) = Some offset
fault_offset (Foreign offset) = Some offset

-- what a call returned that reads a value by a grammar, and where its reader stands then
abbrev pub ReadsOrBreaks : {X V E : Type 0} → (E → Option ℕ) → (X → V) → Grammar V → Reading → Result X E → Reading → Type 0
ReadsOrBreaks offset_of view grammar old result new = MatchResult result (λ x. Finds grammar old (view x) new)
    (λ fault. Refuses offset_of grammar old fault)

-- the file is no sealed one: it breaks at its seal, or at its first byte where it is too short for one
pub record NotSealed (file : List ℕ) (offset : ℕ) : Type 0 where
  pub here : offset ≡ length file - 16
  pub none : (body : List ℕ) → file ≡ sealed body → ⊥

-- a reader at the first byte of the body of a sealed file
pub record Opens (file : List ℕ) (at : Reading) : Type 0 where
  pub whole : file ≡ sealed at.whole
  pub first : at.offset ≡ 0

-- the first offset at which a file breaks a grammar: its seal, which is judged first, or an offset in its body
abbrev pub FileBreaks : {V : Type 0} → Grammar V → List ℕ → ℕ → Type 0
FileBreaks grammar file offset = NotSealed file offset ⊎ ((body : List ℕ) × (file ≡ sealed body) × grammar.Breaks (λ _. TooMuch) body
    offset)

-- What a call returned that reads a sealed file: the file is that of the value that is given; the file of each value is
-- read, or there is no memory; and a fault tells where the file breaks the grammar.
pub record ReadsSealed {X V E : Type 0} (offset_of : E → Option ℕ) (view : X → V) (grammar : Grammar V) (file : List ℕ)
    (result : Result X E) : Type 0 where
  pub found : IfOk result (λ x. grammar.Fits (view x) × (file ≡ sealed (grammar.print (view x))))
  pub back : (value : V) → grammar.Fits value → file ≡ sealed (grammar.print value) → MatchResult result (λ x. view x ≡ value)
      (λ fault. offset_of fault ≡ None)
  pub why : IfErr result (λ fault. IfSome (offset_of fault) (FileBreaks grammar file))
