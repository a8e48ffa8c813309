-- How fields and items break: behind a print where what follows breaks, and also where less is asked of what follows.
use Rattle.std.specs.Prelude.{◌≡◌, ℕ, zero, suc, ◌+◌, List, [], ◌∷◌, ◌++◌, length}
use Rattle.std.proofs.Common.{refl, sym, subst, append_assoc, length-append, zero-add, inl, inr, arith}
use Rattle.std.proofs.lemmas.List.{append-nil}
use Rattle.wire_bytes.specs.Breaks.{Behind, FieldBreaks, ItemsBreak, items_bytes, AreItems, AreCounted}

module _ {V : Type 0} (Fits : V → Type 0) (print : V → List ℕ) where
  pub field_goes_on : (more : Behind V) (value : V) (rest : List ℕ) (offset : ℕ) → Fits value → more value rest offset
      → FieldBreaks Fits print more (print value ++ rest) (length (print value) + offset)
  field_goes_on more value rest offset fits why =
      inr (record { value = value; rest = rest; behind = offset; fits = fits; parts = refl; here = refl; why = why })

  pub field_wider : (more more' : Behind V) → ((value : V) (rest : List ℕ) (offset : ℕ) → more value rest offset → more' value rest offset)
      → (bytes : List ℕ) (offset : ℕ) → FieldBreaks Fits print more bytes offset → FieldBreaks Fits print more' bytes offset
  field_wider more more' f bytes offset (inl none) = inl none
  field_wider more more' f bytes offset (inr b) = inr (record {
    value = b.value;
    rest = b.rest;
    behind = b.behind;
    fits = b.fits;
    parts = b.parts;
    here = b.here;
    why = f b.value b.rest b.behind b.why;
  })

module _ {V : Type 0} (Fits : List V → V → Type 0) (print : V → List ℕ) where
  sum_of : (m : List ℕ) (n : List ℕ) (behind : ℕ) → length (m ++ n) + behind ≡ length m + (length n + behind)
  sum_of m n behind = omega (arith, length-append m n)

  -- behind some items the bytes break where they break for the items that are left
  pub items_later : (more : Behind (List V)) (n k : ℕ) (before items : List V) (bytes : List ℕ) (offset : ℕ) → AreItems Fits before items
      → n ≡ length items + k
      → ItemsBreak Fits print more k (before ++ items) bytes offset
      → ItemsBreak Fits print more n before (items_bytes print items ++ bytes) (length (items_bytes print items) + offset)
  items_later more n k before [] bytes offset are count why =
      let here : ItemsBreak Fits print more k before bytes offset = subst (λ (l : List V). ItemsBreak Fits print more k l bytes offset)
      (append-nil before) why in
      let counted : k ≡ n = omega arith in
      subst (λ (p : ℕ). ItemsBreak Fits print more n before bytes p) (sym (zero-add offset))
      (subst (λ (m : ℕ). ItemsBreak Fits print more m before bytes offset) counted here)
  items_later more zero k before (item ∷ items) bytes offset are count why = absurd (omega arith)
  items_later more (suc n) k before (item ∷ items) bytes offset are count why =
      let counted : n ≡ length items + k = omega arith in
      let next = subst (λ (l : List V). ItemsBreak Fits print more k l bytes offset) (sym (append_assoc before (item ∷ []) items)) why in
      inr (record {
        value = item;
        rest = items_bytes print items ++ bytes;
        behind = length (items_bytes print items) + offset;
        fits = are.0;
        parts = append_assoc (print item) (items_bytes print items) bytes;
        here = sum_of (print item) (items_bytes print items) offset;
        why = items_later more n k (before ++ item ∷ []) items bytes offset are.1 counted next;
      })

  pub items_wider : (more more' : Behind (List V))
      → ((value : List V) (rest : List ℕ) (offset : ℕ) → more value rest offset → more' value rest offset)
      → (n : ℕ) (before : List V) (bytes : List ℕ) (offset : ℕ) → ItemsBreak Fits print more n before bytes offset
      → ItemsBreak Fits print more' n before bytes offset
  items_wider more more' f zero before bytes offset why = f before bytes offset why
  items_wider more more' f (suc n) before bytes offset (inl none) = inl none
  items_wider more more' f (suc n) before bytes offset (inr b) = inr (record {
    value = b.value;
    rest = b.rest;
    behind = b.behind;
    fits = b.fits;
    parts = b.parts;
    here = b.here;
    why = items_wider more more' f n (before ++ b.value ∷ []) b.rest b.behind b.why;
  })

  -- behind all of the items
  pub items_go_on : (n : ℕ) (more : Behind (List V)) (items : List V) (rest : List ℕ) (offset : ℕ) → AreCounted Fits n items
      → more items rest offset
      → ItemsBreak Fits print more n [] (items_bytes print items ++ rest) (length (items_bytes print items) + offset)
  items_go_on n more items rest offset are why = items_later more n 0 [] items rest offset are.0
      (let e : length items ≡ n = are.1 in omega arith) why
