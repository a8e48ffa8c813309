-- The laws of a layout and of a kind of field, from which what readers promise follows; layouts one behind another; and
-- the field of so many bytes.
use Rattle.std.proofs.Common.{◌≡◌, ℕ, ◌+◌, ◌-◌, ◌<◌, ◌≤◌, ltb, false, List, [], ◌++◌, length, take, drop, replicate, Result, Ok, Err, refl, sym, ap, subst, ◌∙◌, append_assoc, arith}
use Rattle.std.proofs.lemmas.Bool.{ltb-false, ltb-true, le-ltb, lt-ltb}
use Rattle.std.proofs.lemmas.List.{take_at, take-append-drop, length-append, length-take, length-replicate, append-nil}
use Rattle.wire_bytes.specs.declared.fault.FieldFault.{FieldFault}
use Rattle.wire_bytes.specs.declared.fault.FieldFault.TheVariants.{Ended}
use Rattle.wire_bytes.specs.Reading.{Reading, left, further, AreBytes, Passes}
use Rattle.wire_bytes.specs.Layout.{HasLength}
use Rattle.wire_bytes.specs.Kind.{IsCut, Reads, ReadsField, IsReadOneWay}
use Rattle.wire_bytes.specs.Fields.{◌>>=◌, Gives, bytes_at}
use Rattle.wire_bytes.specs.ReadingLaws.{passes_both}
use Rattle.wire_bytes.proofs.Steps.{further-left, further-passes, Passes-none, bind_ok, ok_is, err_is, guard_ok, guard_err}

-- at reads values by this layout
pub record IsLayout {V : Type 0} (at : Reading → Result (V × Reading) FieldFault) (Fits : V → Type 0) (layout : V → List ℕ) : Type 0 where
  -- what is read is the layout of the value
  pub takes : (from to : Reading) (value : V) → AreBytes from.whole → at from ≡ Ok (value, to) → Fits value × Passes from to (layout value)
  -- each layout is read, whatever follows it
  pub again : (from : Reading) (value : V) (rest : List ℕ) → Fits value → left from ≡ layout value ++ rest → at from ≡ Ok (value, further from (length (layout value)))

-- at reads the fields of a kind
pub record IsField {V : Type 0} (at : Reading → Result (V × Reading) FieldFault) (Fits : V → Type 0) (layout : V → List ℕ) : Type 0 where
  pub reads : IsLayout at Fits layout
  -- the end cuts a layout off exactly where that is what is wrong
  pub cut : (from : Reading) → AreBytes from.whole → at from ≡ Err (Ended from.offset) → IsCut Fits layout (left from)
  pub cut_again : (from : Reading) → AreBytes from.whole → IsCut Fits layout (left from) → at from ≡ Err (Ended from.offset)

abbrev given : {V : Type 0} → V → Reading → Result (V × Reading) FieldFault
given value to = Ok (value, to)

given_is : {V : Type 0} (a b : V) (x y : Reading) → given a x ≡ given b y → (a ≡ b) × (x ≡ y)
given_is a b x y e = let pair = ok_is (a, x) (b, y) e in (ap (λ p. p.0) pair, ap (λ p. p.1) pair)

-- ---- what follows for each kind

-- no layout begins another
pub read_one_way : {V : Type 0} {at : Reading → Result (V × Reading) FieldFault} {Fits : V → Type 0} {layout : V → List ℕ} → IsLayout at Fits layout → IsReadOneWay Fits layout
read_one_way {V} {at} {Fits} {layout} is = λ a b x y fits_a fits_b same.
    let from : Reading = record { whole = layout a ++ x; offset = 0 } in
    let both = given_is a b _ _ (sym (is.again from a x fits_a refl) ∙ is.again from b y fits_b same) in
    (both.0, sym (further-left from (layout a) x refl) ∙ ap left both.1 ∙ further-left from (layout b) y same)

-- what a call promises that gives what reading gives
pub reads_from : {X V : Type 0} (view : X → V) {at : Reading → Result (V × Reading) FieldFault} {Fits : V → Type 0} {layout : V → List ℕ} → IsLayout at Fits layout
    → (old new : Reading) (result : Result X FieldFault) → AreBytes old.whole → Gives view result new (at old) → Reads view Fits layout old result new
reads_from view is old new (Ok x) are gives = record {
  found = is.takes old new (view x) are gives;
  back = λ value rest fits e.
      let one = given_is (view x) value _ _ (sym gives ∙ is.again old value rest fits e) in
      (one.0, ap left one.1 ∙ further-left old _ rest e);
}
reads_from view is old new (Err d) are gives = record {
  found = tt;
  back = λ value rest fits e. let read = is.again old value rest fits e in absurd cc;
}

pub field_from : {X V : Type 0} (view : X → V) {at : Reading → Result (V × Reading) FieldFault} {Fits : V → Type 0} {layout : V → List ℕ} → IsField at Fits layout
    → (old new : Reading) (result : Result X FieldFault) → AreBytes old.whole → Gives view result new (at old) → ReadsField view Fits layout old result new
field_from view is old new (Ok x) are gives = record {
  reads = reads_from view is.reads old new (Ok x) are gives;
  ended = (λ e. absurd cc, λ cut. absurd (let e = is.cut_again old are cut in cc));
}
field_from view is old new (Err d) are gives = record {
  reads = reads_from view is.reads old new (Err d) are gives;
  ended = (
    λ e. is.cut old are (gives ∙ ap (λ (f : FieldFault). Err f) (err_is d (Ended old.offset) e)),
    λ cut. ap (λ (f : FieldFault). Err f) (err_is d (Ended old.offset) (sym gives ∙ is.cut_again old are cut)),
  );
}

cut_again_at : {V : Type 0} (at : Reading → Result (V × Reading) FieldFault) (Fits : V → Type 0) (layout : V → List ℕ) → IsLayout at Fits layout
    → ((from : Reading) (d : FieldFault) → at from ≡ Err d → d ≡ Ended from.offset)
    → (from : Reading) → AreBytes from.whole → IsCut Fits layout (left from) → (r : Result (V × Reading) FieldFault) → at from ≡ r → at from ≡ Err (Ended from.offset)
cut_again_at {V} at Fits layout is ended from are is_cut (Err d) e = e ∙ ap (λ (f : FieldFault). Err f) (ended from d e)
cut_again_at {V} at Fits layout is ended from are is_cut (Ok x) e =
    let t = is.takes from x.1 x.0 are e in
    let parts : layout is_cut.value ++ [] ≡ layout x.0 ++ (left x.1 ++ is_cut.end) =
    append-nil (layout is_cut.value) ∙ is_cut.whole ∙ ap (λ (xs : List ℕ). xs ++ is_cut.end) t.1.parts ∙ append_assoc (layout x.0) (left x.1) is_cut.end in
    let nothing = (read_one_way is is_cut.value x.0 [] (left x.1 ++ is_cut.end) is_cut.fits t.0 parts).1 in
    absurd (omega (arith, ap length nothing, length-append (left x.1) is_cut.end, is_cut.lacks))

-- a kind of which a field fails to be read only at the end
pub from_ended : {V : Type 0} (at : Reading → Result (V × Reading) FieldFault) (Fits : V → Type 0) (layout : V → List ℕ) → IsLayout at Fits layout
    → ((from : Reading) → AreBytes from.whole → at from ≡ Err (Ended from.offset) → IsCut Fits layout (left from))
    → ((from : Reading) (d : FieldFault) → at from ≡ Err d → d ≡ Ended from.offset)
    → IsField at Fits layout
from_ended {V} at Fits layout is cut ended = record {
  reads = is;
  cut = cut;
  cut_again = λ from are is_cut. cut_again_at at Fits layout is ended from are is_cut (at from) refl;
}

-- ---- one layout behind another

-- Nothing is read: the value is made of what was read before.
pub done_layout : {V : Type 0} {Fits : V → Type 0} (value : V) → Fits value → ((x : V) → Fits x → value ≡ x) → IsLayout (λ from. Ok (value, from)) Fits (λ _. [])
done_layout {V} {Fits} value fits only = record {
  takes = λ from to x are e.
      let is = given_is value x from to e in
      (subst Fits is.0 fits, subst (λ (at : Reading). Passes from at []) is.1 (Passes-none from));
  again = λ from x rest fits_x e.
      ap (λ (v : V). given v from) (only x fits_x) ∙ ap (λ (o : ℕ). given x (record { whole = from.whole; offset = o })) (omega arith);
}

-- First a part is read, which key tells of a value, and then the rest of the value, which may depend on that part.
pub then_layout : {A B : Type 0} {first : Reading → Result (A × Reading) FieldFault} {FitsA : A → Type 0} {front : A → List ℕ}
    {Fits : B → Type 0} {back : B → List ℕ}
    (rest : A × Reading → Result (B × Reading) FieldFault) (key : B → A) → IsLayout first FitsA front → ((b : B) → Fits b → FitsA (key b))
    → ((a : A) → FitsA a → IsLayout (λ from. rest (a, from)) (λ b. (key b ≡ a) × Fits b) back)
    → IsLayout (λ from. first from >>= rest) Fits (λ b. front (key b) ++ back b)
then_layout {A} {B} {first} {FitsA} {front} {Fits} {back} rest key one part_fits others = record {
  takes = λ from to b are e.
      let a = bind_ok (first from) rest (b, to) e in
      let t = one.takes from a.0.1 a.0.0 are a.1 in
      let u = (others a.0.0 t.0).takes a.0.1 to b (subst AreBytes (sym t.1.whole) are) a.2 in
      (u.0.1, subst (λ (x : A). Passes from to (front x ++ back b)) (sym u.0.0) (passes_both from a.0.1 to (front a.0.0) (back b) t.1 u.1));
  again = λ from b behind fits e.
      let parts : left from ≡ front (key b) ++ (back b ++ behind) = e ∙ append_assoc (front (key b)) (back b) behind in
      let a = one.again from (key b) (back b ++ behind) (part_fits b fits) parts in
      let after = further from (length (front (key b))) in
      let last = (others (key b) (part_fits b fits)).again after b behind (refl, fits) (further-left from (front (key b)) (back b ++ behind) parts) in
      let place : (from.offset + length (front (key b))) + length (back b) ≡ from.offset + length (front (key b) ++ back b) = omega (arith, length-append (front (key b)) (back b)) in
      ap (λ r. r >>= rest) a ∙ last ∙ ap (λ (o : ℕ). given b (record { whole = from.whole; offset = o })) place;
}

-- the same layout, written otherwise
pub same_layout : {V : Type 0} {at : Reading → Result (V × Reading) FieldFault} {Fits : V → Type 0} {layout layout' : V → List ℕ} → IsLayout at Fits layout
    → ((value : V) → layout value ≡ layout' value) → IsLayout at Fits layout'
same_layout is same = record {
  takes = λ from to value are e. let t = is.takes from to value are e in (t.0, subst (Passes from to) (same value) t.1);
  again = λ from value rest fits e. is.again from value rest fits (e ∙ ap (λ (xs : List ℕ). xs ++ rest) (sym (same value))) ∙ ap (λ (xs : List ℕ). given value (further from (length xs))) (same value);
}

-- ---- so many bytes

pub bytes_short : (count : ℕ) (from : Reading) → length (left from) < count → bytes_at count from ≡ Err (Ended from.offset)
unfolding bytes_at
bytes_short count from short = rw (lt-ltb _ _ short) refl

pub bytes_ended : (count : ℕ) (from : Reading) (d : FieldFault) → bytes_at count from ≡ Err d → (length (left from) < count) × (d ≡ Ended from.offset)
unfolding bytes_at
bytes_ended count from d e =
    let g = guard_err (ltb (length (left from)) count) (Ended from.offset) d (take count (left from), further from count) e in
    (ltb-true _ _ g.0, sym g.1)

pub bytes_field : (count : ℕ) → IsField (bytes_at count) (HasLength count) (λ bytes. bytes)
unfolding bytes_at
bytes_field count = record {
  reads = record {
    takes = λ from to value are e.
        let g = guard_ok (ltb (length (left from)) count) (Ended from.offset) (take count (left from), further from count) (value, to) e in
        let long : count ≤ length (left from) = ltb-false _ _ g.0 in
        let len : length (take count (left from)) ≡ count = omega (arith, length-take count (left from)) in
        let passes = further-passes from (take count (left from)) (drop count (left from)) (sym (take-append-drop count (left from))) in
        subst (λ (p : List ℕ × Reading). HasLength count p.0 × Passes from p.1 p.0) g.1 (len, subst (λ (n : ℕ). Passes from (further from n) (take count (left from))) len passes);
    again = λ from value rest fits e.
        let long : ltb (length (left from)) count ≡ false = le-ltb _ _ (omega (arith, fits, ap length e, length-append value rest)) in
        let front : take count (left from) ≡ value = ap (take count) e ∙ take_at value rest count fits in
        rw (long, front, fits) refl;
  };
  cut = λ from are e.
      let short = (bytes_ended count from (Ended from.offset) e).0 in
      let end = replicate (count - length (left from)) 0 in
      let len : length end ≡ count - length (left from) = length-replicate _ 0 in
      record { value = left from ++ end; fits = omega (arith, length-append (left from) end, len); end = end; lacks = omega (arith, len); whole = refl };
  cut_again = λ from are cut.
      bytes_short count from (omega (arith, cut.fits, cut.lacks, ap length cut.whole, length-append (left from) cut.end));
}
