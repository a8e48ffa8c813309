-- Counted texts, over the width of their length.
use Rattle.std.proofs.Common.{◌≡◌, ℕ, ◌+◌, ◌-◌, ◌<◌, ◌≤◌, ltb, false, cond, List, ◌++◌, length, take, drop, replicate, Result, Ok, Err, refl, sym, ap, subst, ◌∙◌, append_assoc, arith, inl, inr}
use Rattle.std.specs.Int.{Width, byte_len}
use Rattle.std.proofs.lemmas.Bool.{ltb-false, ltb-true, le-ltb}
use Rattle.std.proofs.lemmas.List.{take_at, take-append-drop, length-append, length-take, length-replicate}
use Rattle.wire_bytes.specs.declared.fault.FieldFault.{FieldFault}
use Rattle.wire_bytes.specs.declared.fault.FieldFault.TheVariants.{Ended}
use Rattle.wire_bytes.specs.Reading.{Reading, left, further, AreBytes, Passes}
use Rattle.wire_bytes.specs.Layout.{IsFieldWidth, number_bytes, IsNumber, text_bytes, IsText}
use Rattle.wire_bytes.specs.Kind.{IsCut}
use Rattle.wire_bytes.specs.Fields.{number_at, text_at}
use Rattle.wire_bytes.specs.ReadingLaws.{passes_both}
use Rattle.wire_bytes.proofs.Steps.{further-left, further-passes, bind_ok, bind_err, guard_ok, guard_err}
use Rattle.wire_bytes.proofs.Field.{IsField, from_ended}
use Rattle.wire_bytes.proofs.Numbers.{length-number_bytes, number_field, number_ended}

-- how long the layout of a text is
pub length-text_bytes : (w : Width) → IsFieldWidth w → (text : List ℕ) → length (text_bytes w text) ≡ byte_len w + length text
length-text_bytes w is text = omega (arith, length-append (number_bytes w (length text)) text, length-number_bytes w is (length text))

-- a length was read, and the text behind it is next
abbrev read : Reading → ℕ × Reading → Result (List ℕ × Reading) FieldFault
read from count = cond (ltb (length (left count.1)) count.0) (Err (Ended from.offset)) (Ok (take count.0 (left count.1), further count.1 count.0))

text_takes : (w : Width) → IsFieldWidth w → (from to : Reading) (value : List ℕ) → AreBytes from.whole → text_at w from ≡ Ok (value, to) → IsText w value × Passes from to (text_bytes w value)
unfolding text_at
text_takes w is from to value are e =
    let b = bind_ok (number_at w from) (read from) (value, to) e in
    let count = b.0 in
    let text = take count.0 (left count.1) in
    let t = (number_field w is).reads.takes from count.1 count.0 are b.1 in
    let g = guard_ok (ltb (length (left count.1)) count.0) (Ended from.offset) (text, further count.1 count.0) (value, to) b.2 in
    let long : count.0 ≤ length (left count.1) = ltb-false _ _ g.0 in
    let len : length text ≡ count.0 = omega (arith, length-take count.0 (left count.1)) in
    let second = further-passes count.1 text (drop count.0 (left count.1)) (sym (take-append-drop count.0 (left count.1))) in
    let both = passes_both from count.1 (further count.1 (length text)) (number_bytes w count.0) text t.1 second in
    let whole : IsText w text × Passes from (further count.1 count.0) (text_bytes w text) =
    (subst (IsNumber w) (sym len) t.0, subst (λ (n : ℕ). Passes from (further count.1 n) (text_bytes w text)) len (subst (λ (n : ℕ). Passes from (further count.1 (length text)) (number_bytes w n ++ text)) (sym len) both)) in
    subst (λ (p : List ℕ × Reading). IsText w p.0 × Passes from p.1 (text_bytes w p.0)) g.1 whole

text_again : (w : Width) → IsFieldWidth w → (from : Reading) (value : List ℕ) (rest : List ℕ) → IsText w value → left from ≡ text_bytes w value ++ rest
    → text_at w from ≡ Ok (value, further from (length (text_bytes w value)))
unfolding text_at
text_again w is from value rest fits e =
    let front = number_bytes w (length value) in
    let parts : left from ≡ front ++ (value ++ rest) = e ∙ append_assoc front value rest in
    let count = (number_field w is).reads.again from (length value) (value ++ rest) fits parts in
    let behind = further-left from front (value ++ rest) parts in
    let long : ltb (length (left (further from (length front)))) (length value) ≡ false = rw behind (le-ltb _ _ (omega (arith, length-append value rest))) in
    let text : take (length value) (left (further from (length front))) ≡ value = ap (take (length value)) behind ∙ take_at value rest (length value) refl in
    let place : (from.offset + length front) + length value ≡ from.offset + length (front ++ value) = omega (arith, length-append front value) in
    rw (count, long, text, place) refl

-- a text fails to be read only at the end
text_ended : (w : Width) (from : Reading) (d : FieldFault) → text_at w from ≡ Err d → d ≡ Ended from.offset
unfolding text_at
text_ended w from d e =
    elim (bind_err (number_at w from) (read from) d e) [
      | inl fails ↦ (number_ended w from d fails).1
      | inr then ↦
          let count = then.0 in
          sym (guard_err (ltb (length (left count.1)) count.0) (Ended from.offset) d (take count.0 (left count.1), further count.1 count.0) then.2).1
    ]

text_cut : (w : Width) → IsFieldWidth w → (from : Reading) → AreBytes from.whole → text_at w from ≡ Err (Ended from.offset) → IsCut (IsText w) (text_bytes w) (left from)
unfolding text_at
text_cut w is from are e =
    elim (bind_err (number_at w from) (read from) (Ended from.offset) e) [
      | inl fails ↦
          let cut = (number_field w is).cut from are fails in
          let text = replicate cut.value 0 in
          let len : length text ≡ cut.value = length-replicate cut.value 0 in
          record {
            value = text;
            fits = subst (IsNumber w) (sym len) cut.fits;
            end = cut.end ++ text;
            lacks = omega (arith, cut.lacks, length-append cut.end text);
            whole = ap (λ (n : ℕ). number_bytes w n ++ text) len ∙ ap (λ (xs : List ℕ). xs ++ text) cut.whole ∙ append_assoc (left from) cut.end text;
          }
      | inr then ↦
          let count = then.0 in
          let t = (number_field w is).reads.takes from count.1 count.0 are then.1 in
          let g = guard_err (ltb (length (left count.1)) count.0) (Ended from.offset) (Ended from.offset) (take count.0 (left count.1), further count.1 count.0) then.2 in
          let short : length (left count.1) < count.0 = ltb-true _ _ g.0 in
          let end = replicate (count.0 - length (left count.1)) 0 in
          let text = left count.1 ++ end in
          let len : length text ≡ count.0 = omega (arith, length-append (left count.1) end, length-replicate {A = ℕ} (count.0 - length (left count.1)) 0) in
          record {
            value = text;
            fits = subst (IsNumber w) (sym len) t.0;
            end = end;
            lacks = omega (arith, length-replicate {A = ℕ} (count.0 - length (left count.1)) 0);
            whole = ap (λ (n : ℕ). number_bytes w n ++ text) len ∙ sym (append_assoc (number_bytes w count.0) (left count.1) end) ∙ ap (λ (xs : List ℕ). xs ++ end) (sym t.1.parts);
          }
    ]

pub text_field : (w : Width) → IsFieldWidth w → IsField (text_at w) (IsText w) (text_bytes w)
text_field w is =
    from_ended (text_at w) (IsText w) (text_bytes w) (record { takes = text_takes w is; again = text_again w is }) (text_cut w is) (text_ended w)
