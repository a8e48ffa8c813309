-- Reading from a source: a law for each exit of a reader.
use Rattle.std.specs.Prelude.{⊤, ◌≡◌, ℕ, ◌+◌, List, ◌++◌, Option, Some, None, Result, Ok, Err, IsErrAnd}
use Rattle.std.proofs.Common.{refl, sym, ap, subst, ◌∙◌, inl, inr, arith}
use Rattle.wire_bytes.specs.Kind.{IsReadOneWay}
use Rattle.stream_traits.specs.Told.{before}
use Rattle.stream_traits.specs.ToldLaws.{before_append}
use Rattle.restore_stream.specs.declared.faults.ReadStreamFault.{ReadStreamFault}
use Rattle.restore_stream.specs.declared.faults.ReadStreamFault.TheVariants.{BadStream, Ended, ReadFault, Memory}
use Rattle.restore_stream.specs.Cuts.{Layout, field, followed_by, seen_as, FitsAs, print_as}
use Rattle.restore_stream.specs.Streams.{limited}
use Rattle.restore_stream.specs.Reading.{IfTold, Finds, IsBroken, IsTold, Refuses, Reads}

-- the bytes that were taken stand at the front of what was left
pub taken : (P : List ℕ → Type 0) (old new : Option (List ℕ)) (bytes : List ℕ) → old ≡ before bytes new
    → ((rest : List ℕ) → new ≡ Some rest → P (bytes ++ rest)) → IfTold old P
taken P None new bytes took then_p = tt
taken P (Some all) None bytes took then_p = absurd (let never : Some all ≡ None = took in cc)
taken P (Some all) (Some rest) bytes took then_p =
    let same : Some all ≡ Some (bytes ++ rest) = took in
    let is : all ≡ bytes ++ rest = cc in
    subst P (sym is) (then_p rest refl)

pub told : (P : List ℕ → Type 0) (new : Option (List ℕ)) (rest : List ℕ) → new ≡ Some rest → IfTold new P → P rest
told P new rest e h = subst (λ (o : Option (List ℕ)). IfTold o P) e h

-- ---- fields

module _ {V : Type 0} (Is : V → Type 0) (print : V → List ℕ) (one : IsReadOneWay Is print) (P : V → Type 0) where
  -- a field that came whole and fits
  pub limited_finds : {old new : Option (List ℕ)} {value : V} → Finds (limited Is print one (λ _. ⊤)) old value new → P value
      → Finds (limited Is print one P) old value new
  unfolding limited field
  limited_finds found p = record { fits = (found.fits.0, p); took = found.took }

  -- one that doesn't fit
  pub misfit_refuses : {start : ℕ} {old new : Option (List ℕ)} {value : V} → Finds (limited Is print one (λ _. ⊤)) old value new
      → (P value → ⊥)
      → Refuses (limited Is print one P) start old (BadStream start)
  unfolding limited field
  misfit_refuses {start} {old} {new} {value} found misfit = record {
    why = taken (IsBroken (limited Is print one P) start start) old new (print value) found.took (λ rest e. record {
      behind = 0;
      here = omega arith;
      why = (refl, record { value = value; rest = rest; is = found.fits.0; misfit = λ fits. misfit fits.1; parts = refl });
    });
  }

  limited_refused : (start start' : ℕ) (old : Option (List ℕ)) (fault : ReadStreamFault)
      → IsTold (limited Is print one (λ _. ⊤)) start' old fault → IsTold (limited Is print one P) start old fault
  unfolding limited field
  limited_refused start start' None (BadStream offset) refused = tt
  limited_refused start start' (Some bytes) (BadStream offset) refused = absurd (refused.why.1.misfit (refused.why.1.is, tt))
  limited_refused start start' old Ended refused = refused
  limited_refused start start' old ReadFault refused = tt
  limited_refused start start' old Memory refused = tt

  -- one that didn't come
  pub limited_refuses : {start start' : ℕ} {old : Option (List ℕ)} {fault : ReadStreamFault}
      → Refuses (limited Is print one (λ _. ⊤)) start' old fault → Refuses (limited Is print one P) start old fault
  limited_refuses {start} {start'} {old} {fault} refused = record { why = limited_refused start start' old fault refused.why }

  -- what was read fits
  pub limited_fits : {old new : Option (List ℕ)} {value : V} → Finds (limited Is print one P) old value new → Is value × P value
  unfolding limited field
  limited_fits found = found.fits

  pub limited_took : {old new : Option (List ℕ)} {value : V} → Finds (limited Is print one P) old value new → old ≡ before (print value) new
  unfolding limited field
  limited_took found = found.took

-- ---- the exits of `?`

pub reads_again : {X V : Type 0} (layout : Layout V) (start : ℕ) (old new : Option (List ℕ)) (view : X → V) (fault : ReadStreamFault)
    (result : Result X ReadStreamFault) → IsErrAnd result (λ e. e ≡ fault) → Refuses layout start old fault
    → Reads layout start view old result new
reads_again layout start old new view fault (Ok x) is refused = absurd is
reads_again layout start old new view fault (Err e) is refused = subst (λ (f : ReadStreamFault). Refuses layout start old f)
    (sym is) refused

-- a fault that tells nothing of the layout
pub other_refuses : {V : Type 0} (layout : Layout V) (start : ℕ) (old : Option (List ℕ)) → Refuses layout start old Memory
other_refuses layout start old = record { why = tt }

-- ---- one behind another

module _ {A B : Type 0} (shift : A → ℕ) (first : Layout A) (next : A → Layout B) where
  first_refused : (start : ℕ) (old : Option (List ℕ)) (fault : ReadStreamFault) → IsTold first start old fault
      → IsTold (followed_by shift first next) start old fault
  unfolding followed_by
  first_refused start None (BadStream offset) refused = tt
  first_refused start (Some bytes)
      (BadStream offset) refused = record { behind = refused.behind; here = refused.here; why = inl refused.why }
  first_refused start None Ended refused = tt
  first_refused start (Some bytes) Ended refused = inl refused
  first_refused start old ReadFault refused = tt
  first_refused start old Memory refused = tt

  next_refused : (start start' : ℕ) (old middle : Option (List ℕ)) (a : A) (fault : ReadStreamFault) → Finds first old a middle
      → start' ≡ start + shift a → IsTold (next a) start' middle fault → IsTold (followed_by shift first next) start old fault
  unfolding followed_by
  next_refused start start' old middle a (BadStream offset) f here refused =
      taken (IsBroken (followed_by shift first next) start offset) old middle (first.print a) f.took (λ rest e.
      let b : IsBroken (next a) start' offset rest = told (IsBroken (next a) start' offset) middle rest e refused in
      record {
        behind = shift a + b.behind;
        here = omega (arith, b.here, here);
        why = inr (record { value = a; rest = rest; behind = b.behind; fits = f.fits; parts = refl; here = refl; why = b.why });
      })
  next_refused start start' old middle a Ended f here refused =
      taken (followed_by shift first next).Cut old middle (first.print a) f.took (λ rest e.
      inr (record { value = a; rest = rest; fits = f.fits; parts = refl; why = told (next a).Cut middle rest e refused }))
  next_refused start start' old middle a ReadFault f here refused = tt
  next_refused start start' old middle a Memory f here refused = tt

module _ {A B : Type 0} (shift : A → ℕ) (next : A → Layout B) {first : Layout A} where
  pub then_finds : {old middle new : Option (List ℕ)} {a : A} {b : B} → Finds first old a middle → Finds (next a) middle b new
      → Finds (followed_by shift first next) old (a, b) new
  unfolding followed_by
  then_finds {old} {middle} {new} {a} {b} f g = record {
    fits = (f.fits, g.fits);
    took = f.took ∙ ap (before (first.print a)) g.took ∙ sym (before_append (first.print a) ((next a).print b) new);
  }

  pub first_refuses : {start : ℕ} {old : Option (List ℕ)} {fault : ReadStreamFault} → Refuses first start old fault
      → Refuses (followed_by shift first next) start old fault
  first_refuses {start} {old} {fault} refused = record { why = first_refused shift first next start old fault refused.why }

  pub then_refuses : {start start' : ℕ} {old middle : Option (List ℕ)} {a : A} {fault : ReadStreamFault} → Finds first old a middle
      → start' ≡ start + shift a → Refuses (next a) start' middle fault → Refuses (followed_by shift first next) start old fault
  then_refuses {start} {start'} {old} {middle} {a} {fault} f here refused =
      record { why = next_refused shift first next start start' old middle a fault f here refused.why }

-- ---- values of another type

module _ {A W : Type 0} (layout : Layout A) (part : W → Option A) (make : A → W)
    (made : (w : W) (a : A) → part w ≡ Some a → w ≡ make a) where
  seen_refused : (start : ℕ) (old : Option (List ℕ)) (fault : ReadStreamFault) → IsTold layout start old fault
      → IsTold (seen_as layout part make made) start old fault
  unfolding seen_as
  seen_refused start None (BadStream offset) refused = tt
  seen_refused start (Some bytes) (BadStream offset) refused = record { behind = refused.behind; here = refused.here; why = refused.why }
  seen_refused start old Ended refused = refused
  seen_refused start old ReadFault refused = tt
  seen_refused start old Memory refused = tt

module _ {A W : Type 0} (part : W → Option A) (make : A → W)
    (made : (w : W) (a : A) → part w ≡ Some a → w ≡ make a) {layout : Layout A} where
  pub seen_finds : {old new : Option (List ℕ)} {a : A} (w : W) → part w ≡ Some a → Finds layout old a new
      → Finds (seen_as layout part make made) old w new
  unfolding seen_as
  seen_finds {old} {new} {a} w e f = record {
    fits = subst (FitsAs layout.Fits) (sym e) f.fits;
    took = f.took ∙ ap (λ (m : Option A). before (print_as layout.print m) new) (sym e);
  }

  pub seen_refuses : {start : ℕ} {old : Option (List ℕ)} {fault : ReadStreamFault} → Refuses layout start old fault
      → Refuses (seen_as layout part make made) start old fault
  seen_refuses {start} {old} {fault} refused = record { why = seen_refused layout part make made start old fault refused.why }
