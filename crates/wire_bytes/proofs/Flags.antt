-- Flags, and fixed bytes.
use Rattle.std.proofs.Common.{◌≡◌, ℕ, ◌<◌, Bool, true, false, eqb, cond, List, [], ◌∷◌, ◌++◌, length, drop, Result, Ok, Err, refl, sym, ap, subst, ◌∙◌, arith, inl, inr, ◌⊎◌}
use Rattle.std.specs.Prelude.{⊤, nat_eq}
use Rattle.std.specs.List.{starts_with}
use Rattle.std.specs.Int.{w8}
use Rattle.std.proofs.lemmas.Bool.{cases_Bool, cases_lt, eqb-true}
use Rattle.std.proofs.lemmas.Bool.Decides.{Decides-eqb}
use Rattle.std.proofs.lemmas.List.{length-append, append-nil, nil_from_length}
use Rattle.std.proofs.lemmas.Slice.Eq.{starts_is}
use Rattle.wire_bytes.specs.declared.fault.FieldFault.{FieldFault}
use Rattle.wire_bytes.specs.declared.fault.FieldFault.TheVariants.{Ended, Foreign}
use Rattle.wire_bytes.specs.Reading.{Reading, left, further, Passes}
use Rattle.wire_bytes.specs.Layout.{number_bytes, flag_bytes}
use Rattle.wire_bytes.specs.Kind.{IsCut}
use Rattle.wire_bytes.specs.Fields.{number_at, flag_at, magic_at}
use Rattle.wire_bytes.proofs.Steps.{further-passes, bind_ok, bind_err, ok_is}
use Rattle.wire_bytes.proofs.Field.{IsField}
use Rattle.wire_bytes.proofs.Numbers.{number_field, number_ended, number_short}

-- ---- flags

-- what a test chose
chosen : {A : Type 0} (b : Bool) (x y z : A) → cond b x y ≡ z → ((b ≡ true) × (x ≡ z)) ⊎ ((b ≡ false) × (y ≡ z))
chosen true x y z e = inl (refl, e)
chosen false x y z e = inr (refl, e)

abbrev not_0 : Reading → ℕ × Reading → Result (Bool × Reading) FieldFault
not_0 from byte = cond (eqb byte.0 1) (Ok (true, byte.1)) (Err (Foreign from.offset))

-- the flag that a byte is
abbrev flag_of : Reading → ℕ × Reading → Result (Bool × Reading) FieldFault
flag_of from byte = cond (eqb byte.0 0) (Ok (false, byte.1)) (not_0 from byte)

flag_of_byte : (from to : Reading) (n : ℕ) (x : Bool × Reading) → flag_of from (n, to) ≡ Ok x → (number_bytes w8 n ≡ flag_bytes x.0) × (to ≡ x.1)
unfolding number_bytes
flag_of_byte from to n x e =
    elim (chosen (eqb n 0) (Ok (false, to)) (not_0 from (n, to)) (Ok x) e) [
      | inl is_0 ↦
          let is = ok_is (false, to) x is_0.1 in
          (ap (number_bytes w8) (eqb-true n 0 is_0.0) ∙ ap (λ (p : Bool × Reading). flag_bytes p.0) is, ap (λ (p : Bool × Reading). p.1) is)
      | inr other ↦ elim (chosen (eqb n 1) (Ok (true, to)) (Err (Foreign from.offset)) (Ok x) other.1) [
        | inl is_1 ↦
            let is = ok_is (true, to) x is_1.1 in
            (ap (number_bytes w8) (eqb-true n 1 is_1.0) ∙ ap (λ (p : Bool × Reading). flag_bytes p.0) is, ap (λ (p : Bool × Reading). p.1) is)
        | inr foreign ↦ absurd (let never = foreign.1 in cc)
      ]
    ]

no_flag : (from to : Reading) (n : ℕ) → flag_of from (n, to) ≡ Err (Ended from.offset) → ⊥
no_flag from to n e =
    elim (chosen (eqb n 0) (Ok (false, to)) (not_0 from (n, to)) (Err (Ended from.offset)) e) [
      | inl is_0 ↦ absurd (let never = is_0.1 in cc)
      | inr other ↦ elim (chosen (eqb n 1) (Ok (true, to)) (Err (Foreign from.offset)) (Err (Ended from.offset)) other.1) [
        | inl is_1 ↦ absurd (let never = is_1.1 in cc)
        | inr foreign ↦ absurd (let never = foreign.1 in cc)
      ]
    ]

flag_again : (from : Reading) (value : Bool) (rest : List ℕ) → left from ≡ flag_bytes value ++ rest → flag_at from ≡ Ok (value, further from 1)
unfolding flag_at number_bytes
flag_again from false rest e = rw ((number_field w8 tt).reads.again from 0 rest (omega arith) e) refl
flag_again from true rest e = rw ((number_field w8 tt).reads.again from 1 rest (omega arith) e) refl

pub length-flag_bytes : (flag : Bool) → length (flag_bytes flag) ≡ 1
length-flag_bytes false = refl
length-flag_bytes true = refl

pub flag_field : IsField flag_at (λ _. ⊤) flag_bytes
unfolding flag_at
flag_field = record {
  reads = record {
    takes = λ from to value are e.
        let b = bind_ok (number_at w8 from) (flag_of from) (value, to) e in
        let t = (number_field w8 tt).reads.takes from b.0.1 b.0.0 are b.1 in
        let is = flag_of_byte from b.0.1 b.0.0 (value, to) b.2 in
        (tt, subst (λ (at : Reading). Passes from at (flag_bytes value)) is.1 (subst (Passes from b.0.1) is.0 t.1));
    again = λ from value rest fits e. flag_again from value rest e ∙ ap (λ (n : ℕ). Ok (value, further from n)) (sym (length-flag_bytes value));
  };
  cut = λ from are e.
      elim (bind_err (number_at w8 from) (flag_of from) (Ended from.offset) e) [
        | inl fails ↦
            let short = (number_ended w8 from (Ended from.offset) fails).0 in
            let nothing : left from ≡ [] = nil_from_length (left from) (omega arith) in
            record { value = false; fits = tt; end = 0 ∷ []; lacks = omega arith; whole = ap (λ (xs : List ℕ). xs ++ 0 ∷ []) (sym nothing) }
        | inr then ↦ absurd (no_flag from then.0.1 then.0.0 then.2)
      ];
  cut_again = λ from are cut.
      rw (number_short w8 from (omega (arith, length-flag_bytes cut.value, cut.lacks, ap length cut.whole, length-append (left from) cut.end))) refl;
}

-- ---- fixed bytes

-- xs begins with front, as the test says
begins : (xs front : List ℕ) → starts_with nat_eq xs front ≡ true → xs ≡ front ++ drop (length front) xs
begins xs front test = (starts_is Decides-eqb xs front _ refl).0 test

begins_again : (xs front rest : List ℕ) → xs ≡ front ++ rest → starts_with nat_eq xs front ≡ true
begins_again xs front rest e = (starts_is Decides-eqb xs front _ refl).1 rest e

-- a list that is longer doesn't stand at the front
longer : (xs front : List ℕ) → length xs < length front → starts_with nat_eq xs front ≡ false
longer xs front lt = elim (cases_Bool (starts_with nat_eq xs front)) [
  | inl test ↦ absurd (omega (arith, ap length (begins xs front test), length-append front (drop (length front) xs)))
  | inr test ↦ test
]

abbrev found : List ℕ → Reading → Result (Unit {0} × Reading) FieldFault
found magic from = Ok (tt, further from (length magic))

-- what is said where the magic isn't there
abbrev missed : List ℕ → Reading → Result (Unit {0} × Reading) FieldFault
missed magic from = cond (starts_with nat_eq magic (left from)) (Err (Ended from.offset)) (Err (Foreign from.offset))

never_found : (magic : List ℕ) (from : Reading) (x : Unit {0} × Reading) → missed magic from ≡ Ok x → ⊥
never_found magic from x e = elim (chosen (starts_with nat_eq magic (left from)) _ _ _ e) [ inl a ↦ absurd (let never = a.1 in cc) | inr b ↦ absurd (let never = b.1 in cc) ]

ended_inside : (magic : List ℕ) (from : Reading) → missed magic from ≡ Err (Ended from.offset) → starts_with nat_eq magic (left from) ≡ true
ended_inside magic from e = elim (chosen (starts_with nat_eq magic (left from)) _ _ _ e) [ inl a ↦ a.0 | inr b ↦ absurd (let never = b.1 in cc) ]

-- the front of the magic is left, and not all of it
magic_cut : (magic : List ℕ) (from : Reading) → starts_with nat_eq (left from) magic ≡ false → starts_with nat_eq magic (left from) ≡ true → IsCut {V = Unit {0}} (λ _. ⊤) (λ _. magic) (left from)
magic_cut magic from no_whole inside =
    let end = drop (length (left from)) magic in
    let whole : magic ≡ left from ++ end = begins magic (left from) inside in
    record {
      value = tt;
      fits = tt;
      end = end;
      lacks = elim (cases_lt 0 (length end)) [
        | inl lt ↦ lt
        | inr le ↦
            let nothing : end ≡ [] = nil_from_length end (omega arith) in
            let all : left from ≡ magic ++ [] = sym (append-nil (left from)) ∙ ap (λ (xs : List ℕ). left from ++ xs) (sym nothing) ∙ sym whole ∙ sym (append-nil magic) in
            absurd (let both = sym no_whole ∙ begins_again (left from) magic [] all in cc)
      ];
      whole = whole;
    }

pub magic_field : (magic : List ℕ) → IsField (magic_at magic) (λ _. ⊤) (λ _. magic)
unfolding magic_at
magic_field magic = record {
  reads = record {
    takes = λ from to value are e.
        elim (chosen (starts_with nat_eq (left from) magic) (found magic from) (missed magic from) (Ok (value, to)) e) [
          | inl there ↦
              let at : further from (length magic) ≡ to = ap (λ (p : Unit {0} × Reading). p.1) (ok_is (tt, further from (length magic)) (value, to) there.1) in
              (tt, subst (λ (r : Reading). Passes from r magic) at (further-passes from magic (drop (length magic) (left from)) (begins (left from) magic there.0)))
          | inr missing ↦ absurd (never_found magic from (value, to) missing.1)
        ];
    again = λ from value rest fits e. rw (begins_again (left from) magic rest e) refl;
  };
  cut = λ from are e.
      elim (chosen (starts_with nat_eq (left from) magic) (found magic from) (missed magic from) (Err (Ended from.offset)) e) [
        | inl there ↦ absurd (let never = there.1 in cc)
        | inr missing ↦ magic_cut magic from missing.0 (ended_inside magic from missing.1)
      ];
  cut_again = λ from are cut.
      let short : length (left from) < length magic = omega (arith, ap length cut.whole, length-append (left from) cut.end, cut.lacks) in
      rw (longer (left from) magic short, begins_again magic (left from) cut.end cut.whole) refl;
}
