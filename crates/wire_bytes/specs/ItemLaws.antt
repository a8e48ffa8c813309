-- Reading and writing the items of a list, one behind the other.
--     items_bytes-append, items_bytes-snoc, AreItems-snoc      one list behind another, and one item behind others
--     AreItems-from_all, AllByRecursion-from_items      items that each fit for themselves
--     items_put_more      one item is written behind others
--     ItemsRead      what was read so far, and what it tells of any items that the bytes may be
--     items_read_none, items_read_more      before the first item, and behind a further one
--     items_refuse, items_find      where there is no further one, and where all were read
use Rattle.std.specs.Prelude.{◌≡◌, ℕ, zero, suc, ◌+◌, ◌-◌, ◌<◌, ◌≤◌, List, [], ◌∷◌, ◌++◌, length, take, drop, Option, Some, None, IfSome}
use Rattle.std.specs.List.{AllByRecursion}
use Rattle.std.proofs.Common.{refl, sym, ap, subst, ◌∙◌, append_assoc, length-append, get_or, inl, inr, arith}
use Rattle.std.proofs.lemmas.List.{append-nil, take_all, drop_all, take_more}
use Rattle.wire_bytes.specs.Reading.{Reading, left, Passes}
use Rattle.wire_bytes.specs.ReadingLaws.{passes_both}
use Rattle.wire_bytes.specs.Breaks.{ItemsBreak, items_bytes, AreItems, Nothing}
use Rattle.wire_bytes.specs.BreakLaws.{items_later}
use Rattle.wire_bytes.specs.Grammar.{field, items_of}
use Rattle.wire_bytes.specs.GrammarReading.{Finds, BreaksAt, Refuses}

-- ---- lists

-- the item at an index, by the lists before and behind it
pub item_at : {V : Type 0} (i : ℕ) (xs : List V) → i < length xs
    → (x : V) × (drop i xs ≡ x ∷ drop (suc i) xs) × (take (suc i) xs ≡ take i xs ++ x ∷ [])
item_at i [] within = absurd (omega arith)
item_at zero (x ∷ xs) within = (x, refl, refl)
item_at (suc i) (x ∷ xs) within = let at = item_at i xs (omega arith) in (at.0, at.1, ap (λ l. x ∷ l) at.2)

pub items_bytes-append : {V : Type 0} (print : V → List ℕ) (xs ys : List V)
    → items_bytes print (xs ++ ys) ≡ items_bytes print xs ++ items_bytes print ys
items_bytes-append print [] ys = refl
items_bytes-append print (x ∷ xs) ys = ap (λ bytes. print x ++ bytes) (items_bytes-append print xs ys) ∙ sym
    (append_assoc (print x) (items_bytes print xs) (items_bytes print ys))

-- the same of one item more
pub items_bytes-snoc : {V : Type 0} (print : V → List ℕ) (xs : List V) (x : V)
    → items_bytes print (xs ++ x ∷ []) ≡ items_bytes print xs ++ print x
items_bytes-snoc print xs x = items_bytes-append print xs (x ∷ []) ∙ ap (λ bytes. items_bytes print xs ++ bytes) (append-nil (print x))

-- one more item is written behind those before it
pub items_put_more : {V : Type 0} (print : V → List ℕ) (xs : List V) (i : ℕ) (x d : V) (first before now : List ℕ) → i < length xs
    → x ≡ get_or xs i d
    → before ≡ first ++ items_bytes print (take i xs) → now ≡ before ++ print x → now ≡ first ++ items_bytes print (take (i + 1) xs)
items_put_more print xs i x d first before now within is so_far put =
    put ∙ ap (λ bytes. bytes ++ print x) so_far ∙ append_assoc first (items_bytes print (take i xs)) (print x)
    ∙ ap (λ bytes. first ++ bytes) (sym (items_bytes-snoc print (take i xs) x) ∙ ap (items_bytes print)
    (ap (λ y. take i xs ++ y ∷ []) is ∙ sym (take_more xs i d within)))

-- items that each fit for themselves
pub AreItems-from_all : {V : Type 0} (P : V → Type 0) (before xs : List V) → AllByRecursion P xs → AreItems (λ _. P) before xs
AreItems-from_all P before [] all = tt
AreItems-from_all P before (x ∷ xs) all = (all.0, AreItems-from_all P (before ++ x ∷ []) xs all.1)

pub AllByRecursion-from_items : {V : Type 0} (P : V → Type 0) (before xs : List V) → AreItems (λ _. P) before xs → AllByRecursion P xs
AllByRecursion-from_items P before [] are = tt
AllByRecursion-from_items P before (x ∷ xs) are = (are.0, AllByRecursion-from_items P (before ++ x ∷ []) xs are.1)

module _ {V : Type 0} (Fits : List V → V → Type 0) where
  -- an item that fits behind the others
  pub AreItems-snoc : (before xs : List V) (x : V) → AreItems Fits before xs → Fits (before ++ xs) x → AreItems Fits before (xs ++ x ∷ [])
  AreItems-snoc before [] x are fits = (subst (λ (l : List V). Fits l x) (append-nil before) fits, tt)
  AreItems-snoc before (y ∷ ys) x are fits = (
    are.0,
    AreItems-snoc (before ++ y ∷ []) ys x are.1
        (subst (λ (l : List V). Fits l x) (sym (append_assoc before (y ∷ []) ys)) fits),
  )

  -- an item of items fits behind those before it
  pub fits_at : (i : ℕ) (before xs : List V) (x : V) (more : List V) → AreItems Fits before xs → drop i xs ≡ x ∷ more
      → Fits (before ++ take i xs) x
  fits_at zero before [] x more are is = absurd cc
  fits_at (suc i) before [] x more are is = absurd cc
  fits_at zero before (y ∷ ys) x more are is =
      let same : y ≡ x = cc in
      subst (λ (l : List V). Fits l x) (sym (append-nil before)) (subst (Fits before) same are.0)
  fits_at (suc i) before (y ∷ ys) x more are is = subst (λ (l : List V). Fits l x) (append_assoc before (y ∷ []) (take i ys))
      (fits_at i (before ++ y ∷ []) ys x more are.1 is)

-- ---- reading items

-- i of a number of items were read
pub record ItemsRead {V : Type 0} (Fits : List V → V → Type 0) (print : V → List ℕ) (first at : Reading) (items : List V) (i count : ℕ) :
    Type 0 where
  pub are : AreItems Fits [] items
  pub some : length items ≡ i
  pub passed : Passes first at (items_bytes print items)
  pub back : (xs : List V) (rest : List ℕ) → AreItems Fits [] xs → length xs ≡ count → left first ≡ items_bytes print xs ++ rest
      → (items ≡ take i xs) × (left at ≡ items_bytes print (drop i xs) ++ rest)

module _ {V : Type 0} (Fits : List V → V → Type 0) (print : V → List ℕ) where
  none_read : (first : Reading) (count : ℕ) → ItemsRead Fits print first first [] 0 count
  none_read first count = record {
    are = tt;
    some = refl;
    passed = record { whole = refl; offset = omega arith; parts = refl };
    back = λ xs rest are some is. (refl, is);
  }

  -- the item that items have at an index stands next
  next_item : (xs items : List V) (bytes rest : List ℕ) (i : ℕ) → AreItems Fits [] xs → i < length xs → items ≡ take i xs
      → bytes ≡ items_bytes print (drop i xs) ++ rest
      → (x : V) × Fits items x × (bytes ≡ print x ++ (items_bytes print (drop (suc i) xs) ++ rest)) ×
      (take (suc i) xs ≡ take i xs ++ x ∷ [])
  next_item xs items bytes rest i are within so_far is =
      let here = item_at i xs within in (
        here.0,
        subst (λ (l : List V). Fits l here.0) (sym so_far) (fits_at Fits i [] xs here.0 (drop (suc i) xs) are here.1),
        is ∙ ap (λ l. items_bytes print l ++ rest) here.1 ∙ append_assoc (print here.0) (items_bytes print (drop (suc i) xs)) rest,
        here.2,
      )

  module _ (first at : Reading) (items : List V) (i count : ℕ) where
    one_more : (x : V) (new : Reading) → i < count → ItemsRead Fits print first at items i count → Finds (field (Fits items) print) at x new
        → ItemsRead Fits print first new (items ++ x ∷ []) (i + 1) count
    unfolding field
    one_more x new within so_far found =
        let next : i + 1 ≡ suc i = omega arith in record {
          are = AreItems-snoc Fits [] items x so_far.are found.fits;
          some = let n : length items ≡ i = so_far.some in omega (arith, length-append items (x ∷ []));
          passed = subst (Passes first new) (sym (items_bytes-snoc print items x))
              (passes_both first at new (items_bytes print items) (print x) so_far.passed found.passed);
          back = λ xs rest are some is.
              let here = so_far.back xs rest are some is in
              let inside : i < length xs = omega arith in
              let item = next_item xs items (left at) rest i are inside here.0 here.1 in
              let gone = found.back item.0 (items_bytes print (drop (suc i) xs) ++ rest) item.1 item.2 in (
                ap (λ l. l ++ x ∷ []) here.0 ∙ ap (λ y. take i xs ++ y ∷ []) gone.0 ∙ sym item.3 ∙ ap (λ n. take n xs) (sym next),
                gone.1 ∙ ap (λ n. items_bytes print (drop n xs) ++ rest) (sym next),
              );
        }

    module _ {E : Type 0} (offset_of : E → Option ℕ) (fault : E) where
      wide : (behind : ℕ) → (field (Fits items) print).Breaks Nothing (left at) behind
          → ItemsBreak Fits print Nothing (suc (count - suc i)) items (left at) behind
      unfolding field
      wide behind (inl none) = inl none
      wide behind (inr b) = absurd b.why

      items_breaks : i < count → ItemsRead Fits print first at items i count → (o : Option ℕ)
          → IfSome o (BreaksAt (field (Fits items) print) at) → IfSome o (BreaksAt (items_of Fits print count) first)
      unfolding items_of
      items_breaks within so_far None tells = tt
      items_breaks within so_far (Some offset) tells =
          let n : length items ≡ i = so_far.some in
          let lacks : count ≡ length items + suc (count - suc i) = omega arith in
          let breaks : ItemsBreak Fits print Nothing count [] (items_bytes print items ++ left at)
          (length (items_bytes print items) + tells.0) =
          items_later Fits print Nothing count (suc (count - suc i)) [] items (left at) tells.0 so_far.are lacks (wide tells.0 tells.2) in (
            length (items_bytes print items) + tells.0,
            omega (arith, tells.1, so_far.passed.offset),
            subst (λ (bytes : List ℕ). ItemsBreak Fits print Nothing count [] bytes (length (items_bytes print items) + tells.0))
                (sym so_far.passed.parts) breaks,
          )

      none_more : i < count → ItemsRead Fits print first at items i count → Refuses offset_of (field (Fits items) print) at fault
          → Refuses offset_of (items_of Fits print count) first fault
      unfolding field items_of
      none_more within so_far refused = record {
        back = λ xs rest are is.
            let here = so_far.back xs rest are.0 are.1 is in
            let some : length xs ≡ count = are.1 in
            let inside : i < length xs = omega arith in
            let item = next_item xs items (left at) rest i are.0 inside here.0 here.1 in
            refused.back item.0 (items_bytes print (drop (suc i) xs) ++ rest) item.1 item.2;
        why = items_breaks within so_far (offset_of fault) refused.why;
      }

    all_read : count ≤ i → i ≤ count → ItemsRead Fits print first at items i count → Finds (items_of Fits print count) first items at
    unfolding items_of
    all_read all within so_far = record {
      fits = (so_far.are, let n : length items ≡ i = so_far.some in omega arith);
      passed = so_far.passed;
      back = λ xs rest are is.
          let here = so_far.back xs rest are.0 are.1 is in
          let n : length xs ≡ count = are.1 in (
            here.0 ∙ take_all i xs (omega arith),
            here.1 ∙ ap (λ l. items_bytes print l ++ rest) (drop_all i xs (omega arith)),
          );
    }

module _ {V : Type 0} {Fits : List V → V → Type 0} {print : V → List ℕ} {first : Reading} {count : ℕ} where
  pub items_read_none : ItemsRead Fits print first first [] 0 count
  items_read_none = none_read Fits print first count

  module _ {at : Reading} {items : List V} {i : ℕ} where
    -- one more item was read
    pub items_read_more : {x : V} {new : Reading} → i < count → ItemsRead Fits print first at items i count
        → Finds (field (Fits items) print) at x new → ItemsRead Fits print first new (items ++ x ∷ []) (i + 1) count
    items_read_more within so_far found = one_more _ _ _ _ _ _ _ _ _ within so_far found

    -- no further item was read
    pub items_refuse : {E : Type 0} {offset_of : E → Option ℕ} {fault : E} → i < count → ItemsRead Fits print first at items i count
        → Refuses offset_of (field (Fits items) print) at fault
        → Refuses offset_of (items_of Fits print count) first fault
    items_refuse within so_far refused = none_more _ _ _ _ _ _ _ _ _ within so_far refused

    -- all items were read
    pub items_find : count ≤ i → i ≤ count → ItemsRead Fits print first at items i count → Finds (items_of Fits print count) first items at
    items_find all within so_far = all_read _ _ _ _ _ _ _ all within so_far
