-- Signed numbers: those of their two's complement.
use Rattle.std.proofs.Common.{◌≡◌, ℕ, ℤ, ◌^◌, Result, Ok, Err, refl, sym, ap, subst, ◌∙◌, inl, inr}
use Rattle.std.specs.Prelude.{FitsSigned}
use Rattle.std.specs.Int.{Width, w8, w16, w32, w64, w128, byte_len, cast_signed, cast_unsigned}
use Rattle.std.proofs.lemmas.Int.{to_z-of_z, of_z-to_z}
use mir.Facts.{sfits_to_z, Fits-of_z}
use mir.Val.{bits}
use Rattle.wire_bytes.specs.declared.fault.FieldFault.{FieldFault}
use Rattle.wire_bytes.specs.declared.fault.FieldFault.TheVariants.{Ended}
use Rattle.wire_bytes.specs.Reading.{Reading, left, Passes}
use Rattle.wire_bytes.specs.Layout.{IsFieldWidth, number_bytes, signed_bytes, IsNumber}
use Rattle.wire_bytes.specs.Kind.{IsCut}
use Rattle.wire_bytes.specs.Fields.{number_at, signed_at}
use Rattle.wire_bytes.proofs.Steps.{bind_ok, bind_err, ok_is}
use Rattle.wire_bytes.proofs.Field.{IsField}
use Rattle.wire_bytes.proofs.Numbers.{number_field}

abbrev read : Width → ℕ × Reading → Result (ℤ × Reading) FieldFault
read w n = Ok (cast_signed w n.0, n.1)

-- a width is one of whole bytes
limit : (w : Width) → IsFieldWidth w → 256 ^ byte_len w ≡ 2 ^ bits w
limit w8 is = refl
limit w16 is = refl
limit w32 is = refl
limit w64 is = refl
limit w128 is = absurd is

fits_unsigned : (w : Width) → IsFieldWidth w → (z : ℤ) → FitsSigned w z → IsNumber w (cast_unsigned w z)
fits_unsigned w is z fits = rw (limit w is) (Fits-of_z {w = w} {z = z} fits).fits

fits_signed : (w : Width) → IsFieldWidth w → (n : ℕ) → IsNumber w n → FitsSigned w (cast_signed w n)
fits_signed w is n fits = sfits_to_z {w = w} {n = n} (record { fits = rw (← limit w is) fits })

back : (w : Width) → IsFieldWidth w → (n : ℕ) → IsNumber w n → cast_unsigned w (cast_signed w n) ≡ n
back w is n fits = of_z-to_z w n (rw (← limit w is) fits)

pub signed_field : (w : Width) → IsFieldWidth w → IsField (signed_at w) (FitsSigned w) (signed_bytes w)
unfolding signed_at
signed_field w is = record {
  reads = record {
    takes = λ from to value are e.
        let b = bind_ok (number_at w from) (read w) (value, to) e in
        let t = (number_field w is).reads.takes from b.0.1 b.0.0 are b.1 in
        subst (λ (p : ℤ × Reading). FitsSigned w p.0 × Passes from p.1 (signed_bytes w p.0)) (ok_is _ _ b.2)
        (fits_signed w is b.0.0 t.0, subst (λ (n : ℕ). Passes from b.0.1 (number_bytes w n)) (sym (back w is b.0.0 t.0)) t.1);
    again = λ from value rest fits e.
        let n = (number_field w is).reads.again from (cast_unsigned w value) rest (fits_unsigned w is value fits) e in
        rw (n, to_z-of_z w value fits) refl;
  };
  cut = λ from are e.
      let number : number_at w from ≡ Err (Ended from.offset) = elim (bind_err (number_at w from) (read w) (Ended from.offset) e) [
        | inl fails ↦ fails
        | inr then ↦ absurd (let never = then.2 in cc)
      ] in
      let cut = (number_field w is).cut from are number in
      record {
        value = cast_signed w cut.value;
        fits = fits_signed w is cut.value cut.fits;
        end = cut.end;
        lacks = cut.lacks;
        whole = ap (number_bytes w) (back w is cut.value cut.fits) ∙ cut.whole;
      };
  cut_again = λ from are cut.
      let number : IsCut (IsNumber w) (number_bytes w) (left from) = record {
        value = cast_unsigned w cut.value;
        fits = fits_unsigned w is cut.value cut.fits;
        end = cut.end;
        lacks = cut.lacks;
        whole = cut.whole;
      } in
      rw ((number_field w is).cut_again from are number) refl;
}
