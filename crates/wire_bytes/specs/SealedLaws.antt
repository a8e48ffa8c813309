-- Reading a sealed file: a law for each exit of a reader of whole files.
--     seal_refuses, body_refuses, more_refuses      its seal, its body, and what stands behind the body
--     sealed_by, sealed_again      the exits of `?`
--     sealed_finds      all of it was read
use Rattle.std.specs.Prelude.{◌≡◌, ◌≢◌, ℕ, ◌+◌, List, [], ◌++◌, length, Option, Some, None, Result, Ok, Err, IfSome, IsErrAnd}
use Rattle.std.proofs.Common.{refl, sym, ap, subst, ◌∙◌, inl, inr, zero-add, arith}
use Rattle.std.proofs.lemmas.List.{append-nil}
use Rattle.wire_bytes.specs.Reading.{Reading, left}
use Rattle.wire_bytes.specs.Seal.{sealed}
use Rattle.wire_bytes.specs.SealLaws.{same_from_sealed}
use Rattle.wire_bytes.specs.Breaks.{Nothing, TooMuch}
use Rattle.wire_bytes.specs.Grammar.{Grammar}
use Rattle.wire_bytes.specs.GrammarReading.{Finds, BreaksAt, Refuses, NotSealed, Opens, FileBreaks, ReadsSealed}

module _ {V : Type 0} (grammar : Grammar V) (file : List ℕ) where
  told : {E : Type 0} (offset_of : E → Option ℕ) {fault : E} {offset : ℕ} → offset_of fault ≡ Some offset → FileBreaks grammar file offset
      → IfSome (offset_of fault) (FileBreaks grammar file)
  told offset_of tells breaks = subst (λ (o : Option ℕ). IfSome o (FileBreaks grammar file)) (sym tells) breaks

  module _ (first : Reading) (opens : Opens file first) where
    at_first : left first ≡ first.whole
    at_first = ap (λ (n : ℕ). left (record { whole = first.whole; offset = n })) opens.first

    -- the body of a value's file is its print
    the_body : (value : V) → file ≡ sealed (grammar.print value) → left first ≡ grammar.print value ++ []
    the_body value e = at_first ∙ same_from_sealed first.whole (grammar.print value) (sym opens.whole ∙ e) ∙ sym
        (append-nil (grammar.print value))

    body_breaks : (o : Option ℕ) → IfSome o (BreaksAt grammar first) → IfSome o (FileBreaks grammar file)
    body_breaks None tells = tt
    body_breaks (Some offset) tells =
        let here : offset ≡ tells.0 = tells.1 ∙ ap (λ (n : ℕ). n + tells.0) opens.first ∙ zero-add tells.0 in
        let breaks = grammar.wider Nothing (λ _. TooMuch) (λ a rest behind never. absurd never) (left first) tells.0 tells.2 in
        inr (
          first.whole,
          opens.whole,
          subst (λ (n : ℕ). grammar.Breaks (λ _. TooMuch) first.whole n) (sym here)
              (subst (λ (bytes : List ℕ). grammar.Breaks (λ _. TooMuch) bytes tells.0) at_first breaks),
        )

    more_breaks : (value : V) (last : Reading) → Finds grammar first value last → left last ≢ [] → FileBreaks grammar file last.offset
    more_breaks value last found more =
        let here : last.offset ≡ length (grammar.print value) + 0 = omega (arith, found.passed.offset, opens.first) in
        let breaks = grammar.goes_on (λ _. TooMuch) value (left last) 0 found.fits (more, refl) in
        let all : grammar.print value ++ left last ≡ first.whole = sym found.passed.parts ∙ at_first in
        inr (
          first.whole,
          opens.whole,
          subst (λ (n : ℕ). grammar.Breaks (λ _. TooMuch) first.whole n) (sym here)
              (subst (λ (bytes : List ℕ). grammar.Breaks (λ _. TooMuch) bytes (length (grammar.print value) + 0)) all breaks),
        )

module _ {X V E : Type 0} {offset_of : E → Option ℕ} {view : X → V} {grammar : Grammar V} {file : List ℕ} where
  -- the seal is wrong or missing
  pub seal_refuses : {fault : E} {offset : ℕ} → NotSealed file offset → offset_of fault ≡ Some offset
      → ReadsSealed offset_of view grammar file (Err fault)
  seal_refuses not tells = record {
    found = tt;
    back = λ value fits e. absurd (not.none (grammar.print value) e);
    why = told grammar file
        offset_of tells (inl not);
  }

  -- the body doesn't begin with a print
  pub body_refuses : {fault : E} {first : Reading} → Opens file first → Refuses offset_of grammar first fault
      → ReadsSealed offset_of view grammar file (Err fault)
  body_refuses {fault} {first} opens refused = record {
    found = tt;
    back = λ value fits e. refused.back value [] fits (the_body grammar file first opens value e);
    why = body_breaks grammar file first opens (offset_of fault) refused.why;
  }

  -- something stands behind the print
  pub more_refuses : {fault : E} {first last : Reading} {value : V} → Opens file first → Finds grammar first value last → left last ≢ []
      → offset_of fault ≡ Some last.offset
      → ReadsSealed offset_of view grammar file (Err fault)
  more_refuses {fault} {first} {last} {value} opens found more tells = record {
    found = tt;
    back = λ other fits e. absurd (more (found.back other [] fits (the_body grammar file first opens other e)).1);
    why = told grammar file offset_of tells (more_breaks grammar file first opens value last found more);
  }

  -- nothing does
  pub sealed_finds : {x : X} {first last : Reading} {value : V} → Opens file first → Finds grammar first value last → left last ≡ []
      → view x ≡ value → ReadsSealed offset_of view grammar file (Ok x)
  sealed_finds {x} {first} {last} {value} opens found end is =
      let all : first.whole ≡ grammar.print value =
      sym (at_first grammar file first opens) ∙ found.passed.parts ∙ ap (λ (bytes : List ℕ). grammar.print value ++ bytes) end ∙ append-nil
      (grammar.print value) in
      record {
        found = subst (λ (v : V). grammar.Fits v × (file ≡ sealed (grammar.print v))) (sym is) (found.fits, opens.whole ∙ ap sealed all);
        back = λ other fits e. is ∙ (found.back other [] fits (the_body grammar file first opens other e)).0;
        why = tt;
      }

  -- the exits of `?`: a fault that was made of another, and the same fault
  pub sealed_by : {Q : E → Type 0} (result : Result X E) → IsErrAnd result Q
      → ((fault : E) → Q fault → ReadsSealed offset_of view grammar file (Err fault)) → ReadsSealed offset_of view grammar file result
  sealed_by (Ok x) is refuses = absurd is
  sealed_by (Err fault) is refuses = refuses fault is

  pub sealed_again : {fault : E} (result : Result X E) → IsErrAnd result (λ e. e ≡ fault)
      → ReadsSealed offset_of view grammar file (Err fault) → ReadsSealed offset_of view grammar file result
  sealed_again (Ok x) is refused = absurd is
  sealed_again (Err e) is refused = subst (λ (f : E). ReadsSealed offset_of view grammar file (Err f)) (sym is) refused
