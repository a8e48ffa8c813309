-- Reading a sequence item by item.
use Rattle.std.specs.Prelude.{◌≡◌, ℕ, ◌+◌, List, [], ◌∷◌, ◌++◌, length, Option, Some, None}
use Rattle.std.proofs.Common.{refl, sym, ap, subst, ◌∙◌, append_assoc, arith}
use Rattle.std.proofs.lemmas.List.{append-nil}
use Rattle.stream_traits.specs.Told.{before}
use Rattle.stream_traits.specs.ToldLaws.{before_nil, before_append}
use Rattle.restore_stream.specs.declared.faults.ReadStreamFault.{ReadStreamFault}
use Rattle.restore_stream.specs.declared.faults.ReadStreamFault.TheVariants.{BadStream, Ended, ReadFault, Memory}
use Rattle.restore_stream.specs.Cuts.{Layout}
use Rattle.restore_stream.specs.Sequences.{AreItems, items_print, AreAll, all_print, sequence}
use Rattle.restore_stream.specs.Reading.{Finds, IsBroken, IsTold, Refuses, ReadSoFar}
use Rattle.restore_stream.proofs.ReadingLaws.{taken, told}

module _ {A : Type 0} (step : List A → Layout (Option A)) where
  AreItems-snoc : (front items : List A) (x : A) → AreItems step front items → (step (front ++ items)).Fits (Some x)
      → AreItems step front (items ++ x ∷ [])
  AreItems-snoc front [] x are fits = (subst (λ (l : List A). (step l).Fits (Some x)) (append-nil front) fits, tt)
  AreItems-snoc front (i ∷ is) x are fits = (
    are.0,
    AreItems-snoc (front ++ i ∷ []) is x are.1
        (subst (λ (l : List A). (step l).Fits (Some x)) (sym (append_assoc front (i ∷ []) is)) fits),
  )

  pub print-snoc : (front items : List A) (x : A)
      → items_print step front (items ++ x ∷ []) ≡ items_print step front items ++ (step (front ++ items)).print (Some x)
  print-snoc front [] x = append-nil ((step front).print (Some x)) ∙ ap (λ l. (step l).print (Some x)) (sym (append-nil front))
  print-snoc front (i ∷ is) x =
      ap (λ bytes. (step front).print (Some i) ++ bytes) (print-snoc (front ++ i ∷ []) is x)
      ∙ sym (append_assoc ((step front).print (Some i)) (items_print step (front ++ i ∷ []) is) _)
      ∙ ap (λ l. ((step front).print (Some i) ++ items_print step (front ++ i ∷ []) is) ++ (step l).print (Some x))
      (append_assoc front (i ∷ []) is)

  AreAll-from : (front items : List A) → AreItems step front items → (step (front ++ items)).Fits None → AreAll step front items
  AreAll-from front [] are fits = subst (λ (l : List A). (step l).Fits None) (append-nil front) fits
  AreAll-from front (i ∷ is) are fits = (
    are.0,
    AreAll-from (front ++ i ∷ []) is are.1
        (subst (λ (l : List A). (step l).Fits None) (sym (append_assoc front (i ∷ []) is)) fits),
  )

  pub all_print-from : (front items : List A)
      → all_print step front items ≡ items_print step front items ++ (step (front ++ items)).print None
  all_print-from front [] = ap (λ l. (step l).print None) (sym (append-nil front))
  all_print-from front (i ∷ is) =
      ap (λ bytes. (step front).print (Some i) ++ bytes) (all_print-from (front ++ i ∷ []) is)
      ∙ sym (append_assoc ((step front).print (Some i)) (items_print step (front ++ i ∷ []) is) _)
      ∙ ap (λ l. ((step front).print (Some i) ++ items_print step (front ++ i ∷ []) is) ++ (step l).print None)
      (append_assoc front (i ∷ []) is)

  pub none_read : (told_left : Option (List ℕ)) → ReadSoFar step told_left told_left []
  none_read told_left = record { are = tt; took = sym (before_nil told_left) }

  -- one more item was read
  pub more_read : {old now new : Option (List ℕ)} (items : List A) (x : A) → ReadSoFar step old now items
      → Finds (step items) now (Some x) new
      → ReadSoFar step old new (items ++ x ∷ [])
  more_read {old} {now} {new} items x so_far f = record {
    are = AreItems-snoc [] items x so_far.are f.fits;
    took = so_far.took ∙ ap (before (items_print step [] items)) f.took
        ∙ sym (before_append (items_print step [] items) ((step items).print (Some x)) new)
        ∙ ap (λ bytes. before bytes new) (sym (print-snoc [] items x));
  }

  -- the item that ends them was read
  pub all_read : {old now new : Option (List ℕ)} (items : List A) → ReadSoFar step old now items → Finds (step items) now None new
      → Finds (sequence step) old items new
  unfolding sequence
  all_read {old} {now} {new} items so_far f = record {
    fits = AreAll-from [] items so_far.are f.fits;
    took = so_far.took ∙ ap (before (items_print step [] items)) f.took
        ∙ sym (before_append (items_print step [] items) ((step items).print None) new)
        ∙ ap (λ bytes. before bytes new) (sym (all_print-from [] items));
  }

  stop_told : (start place : ℕ) (old now : Option (List ℕ)) (items : List A) (fault : ReadStreamFault) → ReadSoFar step old now items
      → place ≡ start + length (items_print step [] items) → IsTold (step items) place now fault → IsTold (sequence step) start old fault
  unfolding sequence
  stop_told start place old now items (BadStream offset) so_far here refused =
      taken (IsBroken (sequence step) start offset) old now (items_print step [] items) so_far.took (λ rest e.
      let b : IsBroken (step items) place offset rest = told (IsBroken (step items) place offset) now rest e refused in
      record {
        behind = length (items_print step [] items) + b.behind;
        here = omega (arith, b.here, here);
        why = record {
          behind = b.behind;
          stop = record { items = items; rest = rest; are = so_far.are; parts = refl; why = b.why };
          here = refl;
        };
      })
  stop_told start place old now items Ended so_far here refused =
      taken (sequence step).Cut old now (items_print step [] items) so_far.took (λ rest e.
      record { items = items; rest = rest; are = so_far.are; parts = refl; why = told (step items).Cut now rest e refused })
  stop_told start place old now items ReadFault so_far here refused = tt
  stop_told start place old now items Memory so_far here refused = tt

  -- no further item was read
  pub stop_refuses : {start place : ℕ} {old now : Option (List ℕ)} (items : List A) {fault : ReadStreamFault} → ReadSoFar step old now items
      → place ≡ start + length (items_print step [] items) → Refuses (step items) place now fault → Refuses (sequence step) start old fault
  stop_refuses {start} {place} {old} {now} items {fault} so_far here refused =
      record { why = stop_told start place old now items fault so_far here refused.why }
