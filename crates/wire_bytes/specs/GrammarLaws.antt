-- Reading by grammars that go together: a law for each exit of a reader.
--     field_finds, field_fits, none_refuses, field_refuses      a field that a method of a reader of bytes reads or refuses
--     refused_by, refused_again      the exits of `?`
--     narrow_finds, narrow_refuses, misfit_refuses      a field of which fewer values fit
--     memory_refuses, other_refuses      want of memory, whatever is read;  a fault of another type
--     then_finds, then_refuses, first_refuses      a value, and what stands behind it
--     seen_finds, seen_refuses      values of another type
--     whole_finds, whole_refuses      a grammar that is told as one
use Rattle.std.specs.Prelude.{◌≡◌, ℕ, ◌+◌, List, ◌++◌, length, Option, Some, None, Result, Ok, Err, IfSome, IsErrAnd}
use Rattle.std.proofs.Common.{refl, sym, ap, subst, ◌∙◌, append_assoc, inl, inr, arith}
use Rattle.wire_bytes.specs.Reading.{Reading, left, Passes}
use Rattle.wire_bytes.specs.ReadingLaws.{passes_both}
use Rattle.wire_bytes.specs.Kind.{Reads}
use Rattle.wire_bytes.specs.Breaks.{Behind, Nothing}
use Rattle.wire_bytes.specs.Grammar.{Grammar, field, whole, followed_by, Sees, seen_as}
use Rattle.wire_bytes.specs.GrammarReading.{Finds, BreaksAt, Refuses, ReadsOrBreaks}

-- ---- single fields

module _ {V : Type 0} (Fits : V → Type 0) (print : V → List ℕ) where
  finds_field : {X E : Type 0} (view : X → V) (old new : Reading) (x : X) → Reads {E = E} view Fits print old (Ok x) new
      → Finds (field Fits print) old (view x) new
  unfolding field
  finds_field view old new x reads = record { fits = reads.found.0; passed = reads.found.1; back = reads.back }

  refuses_field : {E : Type 0} (offset_of : E → Option ℕ) (old : Reading) (fault : E)
      → ((value : V) (rest : List ℕ) → Fits value → left old ≡ print value ++ rest → ⊥)
      → offset_of fault ≡ Some old.offset → Refuses offset_of (field Fits print) old fault
  unfolding field
  refuses_field offset_of old fault none tells = record {
    back = λ value rest fits e. absurd (none value rest fits e);
    why = subst (λ (o : Option ℕ). IfSome o (BreaksAt (field Fits print) old)) (sym tells)
        (0, omega arith, inl (refl, record { none = none }));
  }

  -- what was read fits
  pub field_fits : {old new : Reading} {value : V} → Finds (field Fits print) old value new → Fits value
  unfolding field
  field_fits found = found.fits

module _ {V : Type 0} {Fits : V → Type 0} where
  -- a field that was read
  pub field_finds : {print : V → List ℕ} {X E : Type 0} {view : X → V} {old new : Reading} {x : X}
      → Reads {E = E} view Fits print old (Ok x) new → Finds (field Fits print) old (view x) new
  field_finds reads = finds_field _ _ _ _ _ _ reads

  -- a fault that tells the offset of a field where none stands
  pub none_refuses : {E : Type 0} {offset_of : E → Option ℕ} {old : Reading} {fault : E} (print : V → List ℕ)
      → ((value : V) (rest : List ℕ) → Fits value → left old ≡ print value ++ rest → ⊥)
      → offset_of fault ≡ Some old.offset → Refuses offset_of (field Fits print) old fault
  none_refuses print none tells = refuses_field _ print _ _ _ none tells

  -- the same where a reader of bytes refused
  pub field_refuses : {print : V → List ℕ} {X E E' : Type 0} {offset_of : E' → Option ℕ} {view : X → V} {old new : Reading} {e : E}
      {fault : E'} → Reads view Fits print old (Err e) new
      → offset_of fault ≡ Some old.offset → Refuses offset_of (field Fits print) old fault
  field_refuses reads tells = refuses_field _ _ _ _ _ (λ value rest fits e. reads.back value rest fits e) tells

-- ---- the exits of `?`

module _ {X V E : Type 0} {offset_of : E → Option ℕ} {grammar : Grammar V} {old : Reading} (view : X → V) (new : Reading) where
  -- a fault that was made of another
  pub refused_by : {Q : E → Type 0} (result : Result X E) → IsErrAnd result Q
      → ((fault : E) → Q fault → Refuses offset_of grammar old fault) → ReadsOrBreaks offset_of view grammar old result new
  refused_by (Ok x) is refuses = absurd is
  refused_by (Err fault) is refuses = refuses fault is

  -- the same fault
  pub refused_again : {fault : E} (result : Result X E) → IsErrAnd result (λ e. e ≡ fault) → Refuses offset_of grammar old fault
      → ReadsOrBreaks offset_of view grammar old result new
  refused_again (Ok x) is refused = absurd is
  refused_again (Err e) is refused = subst (λ (f : E). Refuses offset_of grammar old f) (sym is) refused

-- ---- fields of which fewer values fit

module _ {V : Type 0} (Wide Fits : V → Type 0) (print : V → List ℕ) (wide : (value : V) → Fits value → Wide value) (old : Reading) where
  finds_narrow : (value : V) (new : Reading) → Finds (field Wide print) old value new → Fits value → Finds (field Fits print) old value new
  unfolding field
  finds_narrow value new found fits = record {
    fits = fits;
    passed = found.passed;
    back = λ other rest fits_other e. found.back other rest
        (wide other fits_other) e;
  }

  fewer : (offset : ℕ) → (field Wide print).Breaks Nothing (left old) offset → (field Fits print).Breaks Nothing (left old) offset
  unfolding field
  fewer offset (inl none) = inl (none.0, record { none = λ value rest fits e. none.1.none value rest (wide value fits) e })
  fewer offset (inr b) = absurd b.why

  fewer_at : (o : Option ℕ) → IfSome o (BreaksAt (field Wide print) old) → IfSome o (BreaksAt (field Fits print) old)
  fewer_at None tells = tt
  fewer_at (Some offset) tells = (tells.0, tells.1, fewer tells.0 tells.2)

  refuses_narrow : {E : Type 0} (offset_of : E → Option ℕ) (fault : E) → Refuses offset_of (field Wide print) old fault
      → Refuses offset_of (field Fits print) old fault
  unfolding field
  refuses_narrow offset_of fault refused = record {
    back = λ value rest fits e. refused.back value rest (wide value fits) e;
    why = fewer_at (offset_of fault) refused.why;
  }

  none_fits : (value : V) (new : Reading) → Finds (field Wide print) old value new → (Fits value → ⊥) → (other : V) (rest : List ℕ)
      → Fits other → left old ≡ print other ++ rest → ⊥
  unfolding field
  none_fits value new found misfit other rest fits e = misfit (subst Fits (sym (found.back other rest (wide other fits) e).0) fits)

module _ {V : Type 0} {Wide : V → Type 0} {old : Reading} (Fits : V → Type 0) (print : V → List ℕ)
    (wide : (value : V) → Fits value → Wide value) where
  pub narrow_finds : {value : V} {new : Reading} → Finds (field Wide print) old value new → Fits value
      → Finds (field Fits print) old value new
  narrow_finds found fits = finds_narrow Wide Fits print wide old _ _ found fits

  pub narrow_refuses : {E : Type 0} {offset_of : E → Option ℕ} {fault : E} → Refuses offset_of (field Wide print) old fault
      → Refuses offset_of (field Fits print) old fault
  narrow_refuses refused = refuses_narrow Wide Fits print wide old _ _ refused

  -- a value was read that doesn't fit
  pub misfit_refuses : {value : V} {new : Reading} {E : Type 0} {offset_of : E → Option ℕ} {fault : E}
      → Finds (field Wide print) old value new → (Fits value → ⊥) → offset_of fault ≡ Some old.offset
      → Refuses offset_of (field Fits print) old fault
  misfit_refuses found misfit tells = none_refuses print (none_fits Wide Fits print wide old _ _ found misfit) tells

-- ---- faults

module _ {V E : Type 0} {offset_of : E → Option ℕ} {grammar : Grammar V} {old : Reading} where
  -- want of memory, whatever is read
  pub memory_refuses : {fault : E} → offset_of fault ≡ None → Refuses offset_of grammar old fault
  memory_refuses tells = record {
    back = λ value rest fits e. tells;
    why = subst (λ (o : Option ℕ). IfSome o (BreaksAt grammar old))
        (sym tells) tt;
  }

  -- a fault of another type that tells the same
  pub other_refuses : {E' : Type 0} {offset_of' : E' → Option ℕ} {fault : E} {fault' : E'} → Refuses offset_of grammar old fault
      → offset_of' fault' ≡ offset_of fault → Refuses offset_of' grammar old fault'
  other_refuses refused same = record {
    back = λ value rest fits e. same ∙ refused.back value rest fits e;
    why = subst (λ (o : Option ℕ). IfSome o (BreaksAt grammar old)) (sym same) refused.why;
  }

-- ---- a value, and what stands behind it

module _ {A B : Type 0} (first : Grammar A) (next : A → Grammar B) (old middle : Reading) where
  abbrev both : Behind A
  both a = (next a).Breaks Nothing

  -- where the print of two values stands, that of the first stands, and then that of the second
  both_back : (a : A) → Finds first old a middle → (other : A × B) (rest : List ℕ) → first.Fits other.0 → (next other.0).Fits other.1
      → left old ≡ (first.print other.0 ++ (next other.0).print other.1) ++ rest
      → (a ≡ other.0) × (next a).Fits other.1 × (left middle ≡ (next a).print other.1 ++ rest)
  both_back a found other rest fits fits' e =
      let one = found.back other.0 ((next other.0).print other.1 ++ rest) fits
      (e ∙ append_assoc (first.print other.0) ((next other.0).print other.1) rest) in
      let same : other.0 ≡ a = sym one.0 in
      (one.0, subst (λ (x : A). (next x).Fits other.1) same fits', one.1 ∙ ap (λ (x : A). (next x).print other.1 ++ rest) same)

  finds_both : (a : A) (b : B) (new : Reading) → Finds first old a middle → Finds (next a) middle b new
      → Finds (followed_by first next) old (a, b) new
  unfolding followed_by
  finds_both a b new found rest = record {
    fits = (found.fits, rest.fits);
    passed = passes_both old middle new (first.print a) ((next a).print b) found.passed rest.passed;
    back = λ other bytes fits e.
        let one = both_back a found other bytes fits.0 fits.1 e in
        let two = rest.back other.1 bytes one.1 one.2 in
        ((λ i. (one.0 i, two.0 i)), two.1);
  }

  module _ {E : Type 0} (offset_of : E → Option ℕ) (fault : E) where
    then_breaks : (a : A) → Finds first old a middle → (o : Option ℕ) → IfSome o (BreaksAt (next a) middle)
        → IfSome o (BreaksAt (followed_by first next) old)
    unfolding followed_by
    then_breaks a found None tells = tt
    then_breaks a found (Some offset) tells = (
      length (first.print a) + tells.0,
      omega (arith, tells.1, found.passed.offset),
      subst (λ (bytes : List ℕ). first.Breaks both bytes (length (first.print a) + tells.0)) (sym found.passed.parts)
          (first.goes_on both a (left middle) tells.0 found.fits tells.2),
    )

    refuses_then : (a : A) → Finds first old a middle → Refuses offset_of (next a) middle fault
        → Refuses offset_of (followed_by first next) old fault
    unfolding followed_by
    refuses_then a found rest = record {
      back = λ other bytes fits e. let one = both_back a found other bytes fits.0 fits.1 e in rest.back other.1 bytes one.1 one.2;
      why = then_breaks a found (offset_of fault) rest.why;
    }

    first_breaks : (o : Option ℕ) → IfSome o (BreaksAt first old) → IfSome o (BreaksAt (followed_by first next) old)
    unfolding followed_by
    first_breaks None tells = tt
    first_breaks (Some offset) tells = (
      tells.0,
      tells.1,
      first.wider Nothing both (λ a rest behind never. absurd never) (left old) tells.0
          tells.2,
    )

    refuses_first : Refuses offset_of first old fault → Refuses offset_of (followed_by first next) old fault
    unfolding followed_by
    refuses_first refused = record {
      back = λ other bytes fits e. refused.back other.0 ((next other.0).print other.1 ++ bytes) fits.0
          (e ∙ append_assoc (first.print other.0) ((next other.0).print other.1) bytes);
      why = first_breaks (offset_of fault) refused.why;
    }

module _ {A B : Type 0} {first : Grammar A} {old : Reading} (next : A → Grammar B) where
  pub then_finds : {middle new : Reading} {a : A} {b : B} → Finds first old a middle → Finds (next a) middle b new
      → Finds (followed_by first next) old (a, b) new
  then_finds found rest = finds_both _ next _ _ _ _ _ found rest

  pub then_refuses : {E : Type 0} {offset_of : E → Option ℕ} {fault : E} {middle : Reading} {a : A} → Finds first old a middle
      → Refuses offset_of (next a) middle fault
      → Refuses offset_of (followed_by first next) old fault
  then_refuses found rest = refuses_then _ next _ _ _ _ _ found rest

  pub first_refuses : {E : Type 0} {offset_of : E → Option ℕ} {fault : E} → Refuses offset_of first old fault
      → Refuses offset_of (followed_by first next) old fault
  first_refuses refused = refuses_first _ next _ old _ _ refused

-- ---- values of another type

module _ {A W : Type 0} (grammar : Grammar A) (Fits : W → Type 0) (parts : W → A) (make : A → W) (sees : Sees grammar Fits parts make)
    (old : Reading) where
  finds_seen : (a : A) (new : Reading) → Finds grammar old a new → Finds (seen_as grammar Fits parts make sees) old (make a) new
  unfolding seen_as
  finds_seen a new found = record {
    fits = sees.makes a found.fits;
    passed = subst (λ (x : A). Passes old new (grammar.print x)) (sym (sees.parted a found.fits)) found.passed;
    back = λ other bytes fits e.
        let one = found.back (parts other) bytes (sees.fits other fits) e in
        (ap make one.0 ∙ sees.made other fits, one.1);
  }

  seen_breaks : (o : Option ℕ) → IfSome o (BreaksAt grammar old) → IfSome o (BreaksAt (seen_as grammar Fits parts make sees) old)
  unfolding seen_as
  seen_breaks None tells = tt
  seen_breaks (Some offset) tells = (
    tells.0,
    tells.1,
    grammar.wider Nothing (λ a rest behind. ⊥) (λ a rest behind never. never) (left old)
        tells.0 tells.2,
  )

  refuses_seen : {E : Type 0} (offset_of : E → Option ℕ) (fault : E) → Refuses offset_of grammar old fault
      → Refuses offset_of (seen_as grammar Fits parts make sees) old fault
  unfolding seen_as
  refuses_seen offset_of fault refused = record {
    back = λ other bytes fits e. refused.back (parts other) bytes (sees.fits other fits) e;
    why = seen_breaks (offset_of fault) refused.why;
  }

module _ {A W : Type 0} {grammar : Grammar A} {Fits : W → Type 0} {parts : W → A} {make : A → W} (sees : Sees grammar Fits parts make)
    {old : Reading} where
  pub seen_finds : {a : A} {new : Reading} → Finds grammar old a new → Finds (seen_as grammar Fits parts make sees) old (make a) new
  seen_finds found = finds_seen _ _ _ _ sees _ _ _ found

  pub seen_refuses : {E : Type 0} {offset_of : E → Option ℕ} {fault : E} → Refuses offset_of grammar old fault
      → Refuses offset_of (seen_as grammar Fits parts make sees) old fault
  seen_refuses refused = refuses_seen _ _ _ _ sees _ _ _ refused

-- ---- grammars that are told as one

module _ {V : Type 0} (grammar : Grammar V) (old : Reading) where
  finds_whole : (value : V) (new : Reading) → Finds grammar old value new → Finds (whole grammar) old value new
  unfolding field
  finds_whole value new found = record { fits = found.fits; passed = found.passed; back = found.back }

module _ {V : Type 0} {grammar : Grammar V} {old : Reading} where
  pub whole_finds : {value : V} {new : Reading} → Finds grammar old value new → Finds (whole grammar) old value new
  whole_finds found = finds_whole _ _ _ _ found

  -- a fault that told an offset, and another that tells that of the first byte
  pub whole_refuses : {E E' : Type 0} {offset_of : E → Option ℕ} {offset_of' : E' → Option ℕ} {fault : E} {fault' : E'} {offset : ℕ}
      → Refuses offset_of grammar old fault → offset_of fault ≡ Some offset → offset_of' fault' ≡ Some old.offset
      → Refuses offset_of' (whole grammar) old fault'
  whole_refuses {E} {E'} {offset_of} {offset_of'} {fault} {fault'} {offset} refused told tells =
      none_refuses grammar.print (λ value rest fits e. no_some (sym told ∙ refused.back value rest fits e)) tells
    where
      no_some : Some offset ≡ None → ⊥
      no_some e = cc
