-- Bytes that a reader goes past, and steps that may fail.
use Rattle.std.proofs.Common.{◌≡◌, ℕ, ◌+◌, Bool, true, false, cond, List, [], ◌++◌, length, drop, replicate, Result, Ok, Err, refl, sym, ap, ◌∙◌, arith, inl, inr, ◌⊎◌}
use Rattle.std.proofs.lemmas.Bool.{cases_lt}
use Rattle.std.proofs.lemmas.List.{drop-drop, drop_at, length-replicate, get_or-drop, get_or_past, get_or_append_left, get_or-append_right, get_or-replicate}
use Rattle.wire_bytes.specs.declared.fault.FieldFault.{FieldFault}
use Rattle.wire_bytes.specs.Reading.{Reading, left, further, AreBytes, Passes}
use Rattle.wire_bytes.specs.Fields.{◌>>=◌}

-- ---- bytes

pub AreBytes-front : (front rest : List ℕ) → AreBytes (front ++ rest) → AreBytes front
AreBytes-front front rest are = record {
  below = λ i. elim (cases_lt i (length front)) [
    | inl lt ↦ rw (← get_or_append_left front rest 0 i lt) (are.below i)
    | inr le ↦ rw (get_or_past front i 0 le) (omega arith)
  ];
}

pub AreBytes-append : (front rest : List ℕ) → AreBytes front → AreBytes rest → AreBytes (front ++ rest)
AreBytes-append front rest a b = record {
  below = λ i. elim (cases_lt i (length front)) [
    | inl lt ↦ rw (get_or_append_left front rest 0 i lt) (a.below i)
    | inr le ↦ rw (get_or-append_right front rest (length front) i 0 refl le) (b.below _)
  ];
}

pub AreBytes-zeros : (n : ℕ) → AreBytes (replicate n 0)
AreBytes-zeros n = record {
  below = λ i. elim (cases_lt i n) [
    | inl lt ↦ rw (get_or-replicate {A = ℕ} n i 0 0 lt) (omega arith)
    | inr le ↦ rw (get_or_past {X = ℕ} (replicate n 0) i 0 (omega (arith, length-replicate {A = ℕ} n 0))) (omega arith)
  ];
}

pub AreBytes-left : (at : Reading) → AreBytes at.whole → AreBytes (left at)
AreBytes-left at are = record { below = λ i. rw get_or-drop (are.below (at.offset + i)) }

-- ---- what a reader goes past

pub further-left : (from : Reading) (front rest : List ℕ) → left from ≡ front ++ rest → left (further from (length front)) ≡ rest
further-left from front rest e =
    sym (drop-drop (length front) from.offset from.whole) ∙ ap (drop (length front)) e ∙ drop_at front rest (length front) refl

pub further-passes : (from : Reading) (front rest : List ℕ) → left from ≡ front ++ rest → Passes from (further from (length front)) front
further-passes from front rest e = record {
  whole = refl;
  offset = refl;
  parts = e ∙ ap (λ (r : List ℕ). front ++ r) (sym (further-left from front rest e));
}

-- nothing was gone past
pub Passes-none : (at : Reading) → Passes at at []
Passes-none at = record { whole = refl; offset = omega arith; parts = refl }

-- what was gone past tells where the reader stands
pub Passes-further : (a b : Reading) (xs : List ℕ) → Passes a b xs → b ≡ further a (length xs)
Passes-further a b xs p =
    let by_whole : b ≡ record { whole = a.whole; offset = b.offset } = ap (λ (w : List ℕ). record { whole = w; offset = b.offset }) p.whole in
    by_whole ∙ ap (λ (o : ℕ). record { whole = a.whole; offset = o }) p.offset

-- ---- steps that may fail

-- a step that did not fail, and what came of its value
pub bind_ok : {A B : Type 0} (r : Result A FieldFault) (f : A → Result B FieldFault) (y : B) → (r >>= f) ≡ Ok y → (x : A) × (r ≡ Ok x) × (f x ≡ Ok y)
bind_ok (Ok x) f y e = (x, refl, e)
bind_ok (Err d) f y e = absurd cc

-- where two steps fail, the first does, or the second on what the first gives
pub bind_err : {A B : Type 0} (r : Result A FieldFault) (f : A → Result B FieldFault) (d : FieldFault) → (r >>= f) ≡ Err d → (r ≡ Err d) ⊎ ((x : A) × (r ≡ Ok x) × (f x ≡ Err d))
bind_err (Ok x) f d e = inr (x, refl, e)
bind_err (Err d') f d e = inl (cc)

abbrev done : {A : Type 0} → A → Result A FieldFault
done x = Ok x

abbrev failed : (A : Type 0) → FieldFault → Result A FieldFault
failed A d = Err d

pub ok_is : {A : Type 0} (x y : A) → done x ≡ done y → x ≡ y
ok_is x y e = cc

pub err_is : {A : Type 0} (d e : FieldFault) → failed A d ≡ failed A e → d ≡ e
err_is d e h = cc

-- a test that let its step go on, or that stopped it
pub guard_ok : {A : Type 0} (b : Bool) (d : FieldFault) (x y : A) → cond b (failed A d) (Ok x) ≡ Ok y → (b ≡ false) × (x ≡ y)
guard_ok true d x y e = absurd cc
guard_ok false d x y e = (refl, cc)

pub guard_err : {A : Type 0} (b : Bool) (d d' : FieldFault) (x : A) → cond b (failed A d) (Ok x) ≡ Err d' → (b ≡ true) × (d ≡ d')
guard_err true d d' x e = (refl, cc)
guard_err false d d' x e = absurd cc
