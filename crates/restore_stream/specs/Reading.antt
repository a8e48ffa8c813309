-- Reading from a source of which it is told what is left, or not.
--     Finds, Refuses      a value was read, or not
--     Reads      the two as one, of a call's result
use Rattle.std.specs.Prelude.{◌≡◌, ℕ, ◌+◌, List, [], ◌++◌, Option, Some, None, Result, MatchResult}
use Rattle.stream_traits.specs.Told.{before}
use Rattle.stream_traits.specs.declared.reading.ReadFault.{ReadFault}
use Rattle.stream_traits.specs.declared.reading.ReadFault.TheVariants as R
use Rattle.restore_stream.specs.declared.faults.ReadStreamFault.{ReadStreamFault}
use Rattle.restore_stream.specs.declared.faults.ReadStreamFault.TheVariants as F
use Rattle.restore_stream.specs.Cuts.{Layout}
use Rattle.restore_stream.specs.Sequences.{AreItems, items_print}

-- P of the bytes that are left, if they are told
abbrev pub IfTold : Option (List ℕ) → (List ℕ → Type 0) → Type 0
IfTold None P = Unit {0}
IfTold (Some bytes) P = P bytes

-- Of the value that was read the source went past the print, and no further.
pub record Finds {V : Type 0} (layout : Layout V) (old : Option (List ℕ)) (value : V) (new : Option (List ℕ)) : Type 0 where
  pub fits : layout.Fits value
  pub took : old ≡ before (layout.print value) new

-- the bytes, of which the first stands at `start`, break the layout at this offset
pub record IsBroken {V : Type 0} (layout : Layout V) (start : ℕ) (offset : ℕ) (bytes : List ℕ) : Type 0 where
  pub behind : ℕ
  pub here : offset ≡ start + behind
  pub why : layout.Broken bytes behind

-- what a fault says of the bytes that were left
abbrev pub IsTold : {V : Type 0} → Layout V → ℕ → Option (List ℕ) → ReadStreamFault → Type 0
IsTold layout start old (F.BadStream offset) = IfTold old (IsBroken layout start offset)
IsTold layout start old F.Ended = IfTold old layout.Cut
IsTold layout start old F.ReadFault = Unit {0}
IsTold layout start old F.Memory = Unit {0}

-- A fault tells that the bytes break the layout, or are cut off, or nothing of them.
pub record Refuses {V : Type 0} (layout : Layout V) (start : ℕ) (old : Option (List ℕ)) (fault : ReadStreamFault) : Type 0 where
  pub why : IsTold layout start old fault

abbrev pub Reads : {X V : Type 0} → Layout V → ℕ → (X → V) → Option (List ℕ) → Result X ReadStreamFault → Option (List ℕ) → Type 0
Reads layout start view old result new = MatchResult result (λ x. Finds layout old (view x) new) (λ fault. Refuses layout start old fault)

-- what a fault of reading bytes is to the reader of a stream
abbrev pub same_fault : ReadFault → ReadStreamFault
same_fault R.Ended = F.Ended
same_fault R.Failed = F.ReadFault
same_fault R.Memory = F.Memory

-- the fault tells nothing of the layout but that the source ended
abbrev pub IsNoBreak : ReadStreamFault → Type 0
IsNoBreak (F.BadStream offset) = ⊥
IsNoBreak F.Ended = Unit {0}
IsNoBreak F.ReadFault = Unit {0}
IsNoBreak F.Memory = Unit {0}

-- items of a sequence that were read so far
pub record ReadSoFar {A : Type 0} (step : List A → Layout (Option A)) (old now : Option (List ℕ)) (items : List A) : Type 0 where
  pub are : AreItems step [] items
  pub took : old ≡ before (items_print step [] items) now

-- no fault but of the source itself, or want of memory
abbrev pub IsOther : ReadStreamFault → Type 0
IsOther (F.BadStream offset) = ⊥
IsOther F.Ended = ⊥
IsOther F.ReadFault = Unit {0}
IsOther F.Memory = Unit {0}

abbrev pub IsBadAt : ℕ → ReadStreamFault → Type 0
IsBadAt place (F.BadStream offset) = offset ≡ place
IsBadAt place F.Ended = ⊥
IsBadAt place F.ReadFault = Unit {0}
IsBadAt place F.Memory = Unit {0}

abbrev pub IsEnded : ReadStreamFault → Type 0
IsEnded (F.BadStream offset) = ⊥
IsEnded F.Ended = Unit {0}
IsEnded F.ReadFault = Unit {0}
IsEnded F.Memory = Unit {0}

-- If it is told what is left, and no read fails and there is memory: each print is read, bytes that are broken are told with their
-- offset, and bytes that are cut off as ended.
pub record ReadsExactly {X V : Type 0} (layout : Layout V) (view : X → V) (old : Option (List ℕ)) (result : Result X ReadStreamFault)
    (new : Option (List ℕ)) : Type 0 where
  pub back : (value : V) (rest : List ℕ) → layout.Fits value → old ≡ Some (layout.print value ++ rest)
      → MatchResult result (λ x. (view x ≡ value) × (new ≡ Some rest)) IsOther
  pub broken : (bytes : List ℕ) (offset : ℕ) → old ≡ Some bytes → layout.Broken bytes offset → MatchResult result (λ x. ⊥) (IsBadAt offset)
  pub cut : (bytes : List ℕ) → old ≡ Some bytes → layout.Cut bytes → MatchResult result (λ x. ⊥) IsEnded
