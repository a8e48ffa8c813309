-- Numbers, over their width.
use Rattle.std.proofs.Common.{◌≡◌, ℕ, ◌-◌, ◌<◌, List, [], ◌∷◌, ◌++◌, length, get_or, replicate, Result, Ok, Err, refl, sym, ap, subst, ◌∙◌, arith, inl, inr}
use Rattle.std.specs.Int.{Width, w8, w16, w32, w64, w128, byte_len}
use Rattle.std.proofs.lemmas.Nat.{be_bytes_2, be_bytes_4, be_bytes_8, from_be_bytes-to_be_bytes_2, from_be_bytes-to_be_bytes_4, from_be_bytes-to_be_bytes_8}
use Rattle.std.proofs.lemmas.List.{length-append, length-replicate}
use Rattle.wire_bytes.specs.declared.fault.FieldFault.{FieldFault}
use Rattle.wire_bytes.specs.declared.fault.FieldFault.TheVariants.{Ended}
use Rattle.wire_bytes.specs.Reading.{Reading, left, further, AreBytes, Passes}
use Rattle.wire_bytes.specs.Layout.{IsFieldWidth, number_bytes, number_of, IsNumber}
use Rattle.wire_bytes.specs.Kind.{IsCut}
use Rattle.wire_bytes.specs.Fields.{bytes_at, number_at}
use Rattle.wire_bytes.proofs.Steps.{AreBytes-front, AreBytes-append, AreBytes-zeros, AreBytes-left, bind_ok, bind_err, ok_is}
use Rattle.wire_bytes.proofs.Field.{IsField, bytes_field, bytes_short, bytes_ended}

-- what is said of a width once, for all that follows
pub record IsWide (w : Width) : Type 0 where
  pub len : (n : ℕ) → length (number_bytes w n) ≡ byte_len w
  pub back : (bytes : List ℕ) → length bytes ≡ byte_len w → AreBytes bytes → number_bytes w (number_of w bytes) ≡ bytes
  pub again : (n : ℕ) → IsNumber w n → number_of w (number_bytes w n) ≡ n
  pub below : (bytes : List ℕ) → AreBytes bytes → IsNumber w (number_of w bytes)

one_byte : (bytes : List ℕ) → length bytes ≡ 1 → AreBytes bytes → get_or bytes 0 0 ∷ [] ≡ bytes
one_byte [] len are = absurd (omega arith)
one_byte (b ∷ []) len are = refl
one_byte (b ∷ c ∷ bytes) len are = absurd (omega arith)

wide8 : IsWide w8
unfolding number_bytes number_of
wide8 = record {
  len = λ n. refl;
  back = λ bytes len are. ap (λ (b : ℕ). b ∷ []) (omega (arith, are.below 0)) ∙ one_byte bytes len are;
  again = λ n fits. omega arith;
  below = λ bytes are. are.below 0;
}

wide16 : IsWide w16
unfolding number_bytes number_of
wide16 = record {
  len = λ n. refl;
  back = λ bytes len are. be_bytes_2 bytes _ len are.below refl;
  again = λ n fits. from_be_bytes-to_be_bytes_2 n fits;
  below = λ bytes are. omega (arith, are.below 0, are.below 1);
}

wide32 : IsWide w32
unfolding number_bytes number_of
wide32 = record {
  len = λ n. refl;
  back = λ bytes len are. be_bytes_4 bytes _ len are.below refl;
  again = λ n fits. from_be_bytes-to_be_bytes_4 n fits;
  below = λ bytes are. omega (arith, are.below 0, are.below 1, are.below 2, are.below 3);
}

wide64 : IsWide w64
unfolding number_bytes number_of
wide64 = record {
  len = λ n. refl;
  back = λ bytes len are. be_bytes_8 bytes _ len are.below refl;
  again = λ n fits. from_be_bytes-to_be_bytes_8 n fits;
  below = λ bytes are. omega (arith, are.below 0, are.below 1, are.below 2, are.below 3, are.below 4, are.below 5, are.below 6, are.below 7);
}

pub wide : (w : Width) → IsFieldWidth w → IsWide w
wide w8 is = wide8
wide w16 is = wide16
wide w32 is = wide32
wide w64 is = wide64
wide w128 is = absurd is

-- how long the layout of a number is
pub length-number_bytes : (w : Width) → IsFieldWidth w → (n : ℕ) → length (number_bytes w n) ≡ byte_len w
length-number_bytes w is n = (wide w is).len n

-- ---- the field

abbrev read : Width → List ℕ × Reading → Result (ℕ × Reading) FieldFault
read w front = Ok (number_of w front.0, front.1)

number_takes : (w : Width) → IsFieldWidth w → (from to : Reading) (value : ℕ) → AreBytes from.whole → number_at w from ≡ Ok (value, to) → IsNumber w value × Passes from to (number_bytes w value)
unfolding number_at
number_takes w is from to value are e =
    let b = bind_ok (bytes_at (byte_len w) from) (read w) (value, to) e in
    let t = (bytes_field (byte_len w)).reads.takes from b.0.1 b.0.0 are b.1 in
    let front : AreBytes b.0.0 = AreBytes-front b.0.0 (left b.0.1) (subst AreBytes t.1.parts (AreBytes-left from are)) in
    let layout : number_bytes w (number_of w b.0.0) ≡ b.0.0 = (wide w is).back b.0.0 t.0 front in
    subst (λ (p : ℕ × Reading). IsNumber w p.0 × Passes from p.1 (number_bytes w p.0)) (ok_is _ _ b.2)
    ((wide w is).below b.0.0 front, subst (Passes from b.0.1) (sym layout) t.1)

number_again : (w : Width) → IsFieldWidth w → (from : Reading) (value : ℕ) (rest : List ℕ) → IsNumber w value → left from ≡ number_bytes w value ++ rest
    → number_at w from ≡ Ok (value, further from (length (number_bytes w value)))
unfolding number_at
number_again w is from value rest fits e =
    let b = (bytes_field (byte_len w)).reads.again from (number_bytes w value) rest ((wide w is).len value) e in
    rw (b, (wide w is).again value fits) refl

-- a number fails to be read only at the end
pub number_ended : (w : Width) (from : Reading) (d : FieldFault) → number_at w from ≡ Err d → (length (left from) < byte_len w) × (d ≡ Ended from.offset)
unfolding number_at
number_ended w from d e =
    elim (bind_err (bytes_at (byte_len w) from) (read w) d e) [
      | inl fails ↦ bytes_ended (byte_len w) from d fails
      | inr then ↦ absurd (let never = then.2 in cc)
    ]

pub number_short : (w : Width) (from : Reading) → length (left from) < byte_len w → number_at w from ≡ Err (Ended from.offset)
unfolding number_at
number_short w from short = rw (bytes_short (byte_len w) from short) refl

number_cut : (w : Width) → IsFieldWidth w → (from : Reading) → AreBytes from.whole → length (left from) < byte_len w → IsCut (IsNumber w) (number_bytes w) (left from)
number_cut w is from are short =
    let end = replicate (byte_len w - length (left from)) 0 in
    let len : length end ≡ byte_len w - length (left from) = length-replicate _ 0 in
    let all : AreBytes (left from ++ end) = AreBytes-append (left from) end (AreBytes-left from are) (AreBytes-zeros _) in
    record {
      value = number_of w (left from ++ end);
      fits = (wide w is).below _ all;
      end = end;
      lacks = omega (arith, len);
      whole = (wide w is).back (left from ++ end) (omega (arith, length-append (left from) end, len)) all;
    }

pub number_field : (w : Width) → IsFieldWidth w → IsField (number_at w) (IsNumber w) (number_bytes w)
number_field w is = record {
  reads = record { takes = number_takes w is; again = number_again w is };
  cut = λ from are e. number_cut w is from are (number_ended w from (Ended from.offset) e).0;
  cut_again = λ from are cut. number_short w from (omega (arith, (wide w is).len cut.value, cut.lacks, ap length cut.whole, length-append (left from) cut.end));
}
