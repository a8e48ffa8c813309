-- Numbers and texts that came from a source, and those that didn't.
use Rattle.std.specs.Prelude.{⊤, ◌≡◌, ℕ, ◌+◌, ◌≤◌, ℤ, List, ◌++◌, length, Option, Some, None, FitsSigned}
use Rattle.std.specs.Int.{Width, w16, w64, byte_len, cast_signed, cast_unsigned}
use Rattle.std.proofs.Common.{◌-◌, min, take, drop, refl, sym, ap, subst, ◌∙◌, append_assoc, length-append, arith}
use Rattle.std.proofs.Math.Seq.{take-append-add}
use Rattle.std.proofs.lemmas.List.{length-take, length-drop, take-append-le}
use borrow.Rule.Slice.PartMut.{put_mid, post_of}
use Rattle.std.proofs.lemmas.Int.{of_z-to_z}
use mir.Facts.{sfits_to_z, Fits-of_z}
use Rattle.wire_bytes.specs.Reading.{AreBytes}
use Rattle.wire_bytes.specs.Layout.{IsFieldWidth, number_bytes, number_of, signed_bytes, text_bytes, IsNumber, IsText, HasLength}
use Rattle.wire_bytes.specs.Breaks.{NoneStands}
use Rattle.wire_bytes.proofs.Numbers.{wide}
use Rattle.stream_traits.specs.Told.{before, IsShort}
use Rattle.stream_traits.specs.ToldLaws.{before_append}
use Rattle.stream_traits.specs.declared.reading.ReadFault.{ReadFault}
use Rattle.stream_traits.specs.declared.reading.ReadFault.TheVariants as R
use Rattle.restore_stream.specs.declared.faults.ReadStreamFault.{ReadStreamFault}
use Rattle.restore_stream.specs.declared.faults.ReadStreamFault.TheVariants as F
use Rattle.restore_stream.specs.Cuts.{Layout, field}
use Rattle.restore_stream.specs.Streams.{limited, number_once, signed_once, text_once, bytes_once}
use Rattle.restore_stream.specs.Reading.{IfTold, Finds, IsTold, Refuses, IsNoBreak, same_fault}
use Rattle.restore_stream.proofs.ReadingLaws.{taken, told}

-- so few bytes are left that no print of a longer one stands there
pub none_short : {V : Type 0} (Is : V → Type 0) (print : V → List ℕ) (count : ℕ) (old : Option (List ℕ))
    → ((value : V) → Is value → count ≤ length (print value))
    → IsShort old count → IfTold old (NoneStands Is print)
none_short Is print count None long short = tt
none_short Is print count (Some bytes) long short = record {
  none = λ value rest is e.
      let n : length bytes ≡ length (print value) + length rest = ap length e ∙ length-append (print value) rest in
      let m : count ≤ length (print value) = long value is in
      omega (arith, n, m, short);
}

-- a fault of reading bytes: the source ended, or it tells nothing
pub no_break : {V : Type 0} (layout : Layout V) (start : ℕ) (old : Option (List ℕ)) (fault : ReadStreamFault) → IsNoBreak fault
    → (fault ≡ F.Ended → IfTold old layout.Cut) → Refuses layout start old fault
no_break layout start old (F.BadStream offset) none cut = absurd none
no_break layout start old F.Ended none cut = record { why = cut refl }
no_break layout start old F.ReadFault none cut = record { why = tt }
no_break layout start old F.Memory none cut = record { why = tt }

-- ---- numbers

module _ (w : Width) (is : IsFieldWidth w) where
  pub number_came : (old new : Option (List ℕ)) (room : List ℕ) (n : ℕ) → length room ≡ byte_len w → AreBytes room → n ≡ number_of w room
      → old ≡ before room new → Finds (limited (IsNumber w) (number_bytes w) (number_once w is) (λ _. ⊤)) old n new
  unfolding limited field
  number_came old new room n len are n_is took = record {
    fits = (subst (IsNumber w) (sym n_is) ((wide w is).below room are), tt);
    took = took ∙ ap (λ (bytes : List ℕ). before bytes new) (sym (ap (number_bytes w) n_is ∙ (wide w is).back room len are));
  }

  pub number_short : (start : ℕ) (old : Option (List ℕ)) (fault : ReadStreamFault) → IsNoBreak fault
      → (fault ≡ F.Ended → IsShort old (byte_len w))
      → Refuses (limited (IsNumber w) (number_bytes w) (number_once w is) (λ _. ⊤)) start old fault
  unfolding limited field
  number_short start old fault none short =
      no_break (limited (IsNumber w) (number_bytes w) (number_once w is) (λ _. ⊤)) start old fault none
      (λ e. none_short (IsNumber w) (number_bytes w) (byte_len w) old (λ value fits. let n = (wide w is).len value in omega (arith, n))
      (short e))

-- ---- signed numbers

pub signed_came : (old new : Option (List ℕ)) (n : ℕ) (z : ℤ) → z ≡ cast_signed w64 n
    → Finds (limited (IsNumber w64) (number_bytes w64) (number_once w64 tt) (λ _. ⊤)) old n new
    → Finds (limited (FitsSigned w64) (signed_bytes w64) (signed_once w64 tt) (λ _. ⊤)) old z new
unfolding limited field
signed_came old new n z z_is found =
    let back : cast_unsigned w64 (cast_signed w64 n) ≡ n = of_z-to_z w64 n found.fits.0 in
    record {
      fits = (subst (FitsSigned w64) (sym z_is) (sfits_to_z {w = w64} {n = n} (record { fits = found.fits.0 })), tt);
      took = found.took ∙ ap (λ (m : ℕ). before (number_bytes w64 m) new) (sym (ap (cast_unsigned w64) z_is ∙ back));
    }

none_signed : (bytes : List ℕ) → NoneStands (IsNumber w64) (number_bytes w64) bytes → NoneStands (FitsSigned w64) (signed_bytes w64) bytes
none_signed bytes none = record {
  none = λ z rest fits e. none.none (cast_unsigned w64 z) rest (Fits-of_z {w = w64} {z = z} fits).fits e;
}

none_told : {V W : Type 0} (Is : V → Type 0) (print : V → List ℕ) (Is' : W → Type 0) (print' : W → List ℕ)
    → ((bytes : List ℕ) → NoneStands Is print bytes → NoneStands Is' print' bytes) → (old : Option (List ℕ))
    → IfTold old (NoneStands Is print)
    → IfTold old (NoneStands Is' print')
none_told Is print Is' print' f None none = tt
none_told Is print Is' print' f (Some bytes) none = f bytes none

signed_told : (start : ℕ) (old : Option (List ℕ)) (fault : ReadStreamFault)
    → IsTold (limited (IsNumber w64) (number_bytes w64) (number_once w64 tt) (λ _. ⊤)) start old fault
    → IsTold (limited (FitsSigned w64) (signed_bytes w64) (signed_once w64 tt) (λ _. ⊤)) start old fault
unfolding limited field
signed_told start None (F.BadStream offset) refused = tt
signed_told start (Some bytes) (F.BadStream offset) refused = absurd (refused.why.1.misfit (refused.why.1.is, tt))
signed_told start old F.Ended refused = none_told (IsNumber w64) (number_bytes w64) (FitsSigned w64)
    (signed_bytes w64) none_signed old refused
signed_told start old F.ReadFault refused = tt
signed_told start old F.Memory refused = tt

pub signed_refuses : (start : ℕ) (old : Option (List ℕ)) (fault : ReadStreamFault)
    → Refuses (limited (IsNumber w64) (number_bytes w64) (number_once w64 tt) (λ _. ⊤)) start old fault
    → Refuses (limited (FitsSigned w64) (signed_bytes w64) (signed_once w64 tt) (λ _. ⊤)) start old fault
signed_refuses start old fault refused = record { why = signed_told start old fault refused.why }

-- ---- bytes

pub bytes_came : (count : ℕ) (old new : Option (List ℕ)) (bytes : List ℕ) → length bytes ≡ count → old ≡ before bytes new
    → Finds (limited (HasLength count) (λ bytes. bytes) (bytes_once count) (λ _. ⊤)) old bytes new
unfolding limited field
bytes_came count old new bytes len took = record { fits = (len, tt); took = took }

pub bytes_short : (count start : ℕ) (old : Option (List ℕ)) (fault : ReadFault) (told_as : ReadStreamFault) → told_as ≡ same_fault fault
    → (fault ≡ R.Ended → IsShort old count)
    → Refuses (limited (HasLength count) (λ bytes. bytes) (bytes_once count) (λ _. ⊤)) start old told_as
unfolding limited field
bytes_short count start old R.Ended told_as is short =
    subst (λ (f : ReadStreamFault). Refuses (limited (HasLength count) (λ bytes. bytes) (bytes_once count) (λ _. ⊤)) start old f) (sym is)
    (record { why = none_short (HasLength count) (λ bytes. bytes) count old (λ value len. omega (arith, len)) (short refl) })
bytes_short count start old R.Failed told_as is short =
    subst (λ (f : ReadStreamFault). Refuses (limited (HasLength count) (λ bytes. bytes) (bytes_once count) (λ _. ⊤)) start old f) (sym is)
    (record { why = tt })
bytes_short count start old R.Memory told_as is short =
    subst (λ (f : ReadStreamFault). Refuses (limited (HasLength count) (λ bytes. bytes) (bytes_once count) (λ _. ⊤)) start old f) (sym is)
    (record { why = tt })

-- ---- texts

abbrev number16 : Layout ℕ
number16 = limited (IsNumber w16) (number_bytes w16) (number_once w16 tt) (λ _. ⊤)

abbrev bytes_of_length : ℕ → Layout (List ℕ)
bytes_of_length count = limited (HasLength count) (λ bytes. bytes) (bytes_once count) (λ _. ⊤)

abbrev text16 : Layout (List ℕ)
text16 = limited (IsText w16) (text_bytes w16) (text_once w16 tt) (λ _. ⊤)

pub text_came : (old middle new : Option (List ℕ)) (count n : ℕ) (text : List ℕ) → n ≡ count → Finds number16 old count middle
    → Finds (bytes_of_length n) middle text new → Finds text16 old text new
unfolding limited field
text_came old middle new count n text same f h =
    let g : Finds (bytes_of_length count) middle text new = subst (λ (m : ℕ). Finds (bytes_of_length m) middle text new) same h in record {
      fits = (subst (IsNumber w16) (sym g.fits.0) f.fits.0, tt);
      took = f.took ∙ ap (before (number_bytes w16 count)) g.took ∙ sym (before_append (number_bytes w16 count) text new)
          ∙ ap (λ (n : ℕ). before (number_bytes w16 n ++ text) new) (sym g.fits.0);
    }

none_text : (bytes : List ℕ) → NoneStands (IsNumber w16) (number_bytes w16) bytes → NoneStands (IsText w16) (text_bytes w16) bytes
none_text bytes none = record {
  none = λ text rest fits e. none.none (length text) (text ++ rest) fits (e ∙ append_assoc (number_bytes w16 (length text)) text rest);
}

length_told : (start : ℕ) (old : Option (List ℕ)) (fault : ReadStreamFault) → IsTold number16 start old fault
    → IsTold text16 start old fault
unfolding limited field
length_told start None (F.BadStream offset) refused = tt
length_told start (Some bytes) (F.BadStream offset) refused = absurd (refused.why.1.misfit (refused.why.1.is, tt))
length_told start old F.Ended refused = none_told (IsNumber w16) (number_bytes w16) (IsText w16) (text_bytes w16) none_text old refused
length_told start old F.ReadFault refused = tt
length_told start old F.Memory refused = tt

pub length_refuses : (start : ℕ) (old : Option (List ℕ)) (fault : ReadStreamFault) → Refuses number16 start old fault
    → Refuses text16 start old fault
length_refuses start old fault refused = record { why = length_told start old fault refused.why }

text_told : (start : ℕ) (old middle : Option (List ℕ)) (count : ℕ) (fault : ReadStreamFault) → Finds number16 old count middle
    → IsTold (bytes_of_length count) start middle fault → IsTold text16 start old fault
unfolding limited field
text_told start None middle count (F.BadStream offset) f refused = tt
text_told start (Some bytes) middle count (F.BadStream offset) f refused =
    taken (λ (all : List ℕ). IsTold text16 start (Some all) (F.BadStream offset)) (Some bytes) middle (number_bytes w16 count) f.took
    (λ rest e.
    let b = told (λ (all : List ℕ). IsTold (bytes_of_length count) start (Some all) (F.BadStream offset)) middle rest e
    (again middle refused) in
    absurd (b.why.1.misfit (b.why.1.is, tt)))
  where
    again : (o : Option (List ℕ)) → IsTold (bytes_of_length count) start o (F.BadStream offset)
        → IfTold o (λ (all : List ℕ). IsTold (bytes_of_length count) start (Some all) (F.BadStream offset))
    again None h = tt
    again (Some all) h = h
text_told start old middle count F.Ended f refused =
    taken (NoneStands (IsText w16) (text_bytes w16)) old middle (number_bytes w16 count) f.took (λ rest e.
    let none = told (NoneStands (HasLength count) (λ bytes. bytes)) middle rest e refused in
    record {
      none = λ text more fits same.
          let h = number_once w16 tt count (length text) rest (text ++ more) f.fits.0 fits
          (same ∙ append_assoc (number_bytes w16 (length text)) text more) in
          none.none text more (sym h.0) h.1;
    })
text_told start old middle count F.ReadFault f refused = tt
text_told start old middle count F.Memory f refused = tt

pub text_refuses : (start : ℕ) (old middle : Option (List ℕ)) (count n : ℕ) (fault : ReadStreamFault) → n ≡ count
    → Finds number16 old count middle
    → Refuses (bytes_of_length n) start middle fault → Refuses text16 start old fault
text_refuses start old middle count n fault same f refused =
    let r = subst (λ (m : ℕ). Refuses (bytes_of_length m) start middle fault) same refused in
    record { why = text_told start old middle count fault f r.why }

-- ---- a room that is filled

pub filled_len : (done : ℕ) (room piece : List ℕ) → done ≤ length room → length piece ≡ length room - done
    → length (put_mid done (length room - done) room piece) ≡ length room
filled_len done room piece within len =
    let a : length (take done room) ≡ min done (length room) = length-take done room in
    let a' : length (drop done room) ≡ length room - done = length-drop done room in
    let b : length (post_of done (length room - done) room) ≡ length (drop done room) - (length room - done) = length-drop
    (length room - done) (drop done room) in
    let c = length-append piece (post_of done (length room - done) room) in
    let d = length-append (take done room) (piece ++ post_of done (length room - done) room) in
    omega (arith, a, a', b, c, d, within, len)

pub filled_more : (done count : ℕ) (room piece : List ℕ) (old now new : Option (List ℕ)) → done ≤ length room
    → length piece ≡ length room - done → count ≤ length piece → old ≡ before (take done room) now → now ≡ before (take count piece) new
    → old ≡ before (take (done + count) (put_mid done (length room - done) room piece)) new
filled_more done count room piece old now new within len fits so_far more =
    so_far ∙ ap (before (take done room)) more ∙ sym (before_append (take done room) (take count piece) new)
    ∙ ap (λ (bytes : List ℕ). before bytes new) (sym (front done count room piece within fits))
  where
    front : (done count : ℕ) (room piece : List ℕ) → done ≤ length room → count ≤ length piece
        → take (done + count) (put_mid done (length room - done) room piece) ≡ take done room ++ take count piece
    front done count room piece within fits =
        let n : length (take done room) ≡ done = omega (arith, length-take done room) in
        ap (λ (m : ℕ). take (m + count) (put_mid done (length room - done) room piece)) (sym n)
        ∙ take-append-add (take done room) (piece ++ post_of done (length room - done) room) count
        ∙ ap (λ (bytes : List ℕ). take done room ++ bytes) (take-append-le count piece (post_of done (length room - done) room) fits)

pub front_short : (count start : ℕ) (old : Option (List ℕ)) (fault : ReadStreamFault) → IsNoBreak fault
    → (fault ≡ F.Ended → IsShort old count)
    → Refuses (bytes_of_length count) start old fault
unfolding limited field
front_short count start old fault none short =
    no_break (bytes_of_length count) start old fault none
    (λ e. none_short (HasLength count) (λ bytes. bytes) count old (λ value len. omega (arith, len)) (short e))
