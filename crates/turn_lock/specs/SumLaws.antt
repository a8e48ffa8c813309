-- One more call of the object of the tests.
use Rattle.std.proofs.Common.{◌≡◌, ℕ, ◌+◌, ◌%◌, ◌^◌, ◌&&◌, List, [], ◌∷◌, ◌++◌, Bool, true, false, true≢false, refl, sym, ap, ◌∙◌, eqb}
use Rattle.std.proofs.Common.{eq-eqb, eqb-true}
use Rattle.turn_lock.specs.declared.object.Entry.{Entry}
use Rattle.turn_lock.specs.History.{entry}
use Rattle.turn_lock.specs.Sums.{sums}

pub sums_none : (n : ℕ) → sums n n [] ≡ true
sums_none n = eq-eqb n n refl

and_more : (x y z : Bool) → (x && y) ≡ true → (y ≡ true → z ≡ true) → (x && z) ≡ true
and_more true y z e f = f e
and_more false y z e f = absurd (true≢false (sym e))

pub sums_more : (from to ask answer : ℕ) (by : List ℕ) (log : List (Entry ℕ ℕ)) → sums from to log ≡ true → answer ≡ (to + ask) % 2 ^ 64
    → sums from answer (log ++ entry by ask answer ∷ []) ≡ true
sums_more from to ask answer by [] is e =
    let same : from ≡ to = eqb-true from to is in
    rw (eq-eqb answer ((from + ask) % 2 ^ 64) (e ∙ ap (λ n. (n + ask) % 2 ^ 64) (sym same)), eq-eqb answer answer refl) refl
sums_more from to ask answer by (x ∷ log) is e =
    and_more (eqb x.answer ((from + x.ask) % 2 ^ 64)) _ _ is (λ rest. sums_more x.answer to ask answer by log rest e)
