-- What an edit of the dump at a place says of any dump there.
--     set_name      the dump has its name, and stays in turn
--     at_ok, set_ok, at_err      what its Ok and its Err say
--     at_set      what it keeps
use Rattle.std.proofs.Common.{◌≡◌, ◌≢◌, ◌⊎◌, ℕ, ◌<◌, List, length, Option, Some, Result, Ok, Err, IfErr, OnOk, OnErr, slice_get, slice_set, refl, sym, ap, ◌∙◌, subst, inl, inr}
use Rattle.attr_records.specs.declared.trees.PutRule.{PutRule}
use Rattle.merge_view.specs.Views.{Rows}
use Rattle.dump_session.specs.declared.session.PutFault.{PutFault}
use Rattle.dump_session.specs.declared.session.PutFault.TheVariants.{Broken}
use Rattle.receipts.specs.declared.session.Token.{Token}
use Rattle.office_model.specs.PlacesLaws.{in_set}
use Rattle.open_sessions.specs.declared.sessions.OpenDump.{OpenDump}
use Rattle.open_sessions.specs.InTurn.{AreInTurn}
use Rattle.open_sessions.specs.Opened.{edited}
use Rattle.open_sessions.proofs.Turns.{set_in_turn}

abbrev sequence_of : OpenDump → ℕ
sequence_of dump = dump.name.sequence

same_sequence : {T E : Type 0} (result : Result T E) (was now : OpenDump) (tree : Rows) (token : Option Token)
    → OnOk result (now ≡ edited was tree token) → OnErr result (now ≡ was) → sequence_of now ≡ sequence_of was
same_sequence (Ok done) was now tree token ok err = ap sequence_of ok
same_sequence (Err fault) was now tree token ok err = ap sequence_of err

module _ (dumps : List OpenDump) (index : ℕ) (was : OpenDump) (there : slice_get dumps index ≡ Some was) where
  pub set_name : {T E : Type 0} (next : ℕ) → AreInTurn sequence_of next dumps → (result : Result T E) (now : OpenDump) (tree : Rows)
      (token : Option Token) → OnOk result (now ≡ edited was tree token) → OnErr result (now ≡ was)
      → AreInTurn sequence_of next (slice_set dumps index now)
  set_name next turn result now tree token ok err = set_in_turn sequence_of next dumps turn index was now there
      (same_sequence result was now tree token ok err)

  one : (dump : OpenDump) → slice_get dumps index ≡ Some dump → was ≡ dump
  one dump at = let e : Some was ≡ Some dump = sym there ∙ at in cc

  pub at_ok : {T E : Type 0} (result : Result T E) (P : OpenDump → Type 0) → OnOk result (P was)
      → OnOk result ((dump : OpenDump) → slice_get dumps index ≡ Some dump → P dump)
  at_ok (Ok done) P h = λ dump at. subst P (one dump at) h
  at_ok (Err fault) P h = tt

  -- the list with it
  pub set_ok : {T E : Type 0} (result : Result T E) (now : OpenDump) (made : OpenDump → OpenDump) → OnOk result (now ≡ made was)
      → OnOk result ((dump : OpenDump) → slice_get dumps index ≡ Some dump → slice_set dumps index now ≡ slice_set dumps index (made dump))
  set_ok (Ok done) now made h = λ dump at. ap (slice_set dumps index) (h ∙ ap made (one dump at))
  set_ok (Err fault) now made h = tt

  pub at_err : {T : Type 0} (result : Result T PutFault) (P : PutRule → OpenDump → Type 0)
      → IfErr result (λ fault. (rule : PutRule) → fault ≡ Broken rule → P rule was)
      → IfErr result (λ fault. (rule : PutRule) (dump : OpenDump) → fault ≡ Broken rule → slice_get dumps index ≡ Some dump → P rule dump)
  at_err (Ok done) P h = tt
  at_err (Err fault) P h = λ rule dump is at. subst (P rule) (one dump at) (h rule is)

  pub at_set : (P : OpenDump → Type 0) (now : OpenDump) → (P was → P now) → (dump changed : OpenDump) → slice_get dumps index ≡ Some dump
      → slice_get (slice_set dumps index now) index ≡ Some changed → P dump → P changed
  at_set P now keeps dump changed at at_now h = step (in_set dumps index now index changed at_now)
    where
      step : ((index ≢ index) × (slice_get dumps index ≡ Some changed)) ⊎ ((index ≡ index) × (changed ≡ now) × (index < length dumps))
          → P changed
      step (inl other) = absurd (other.0 refl)
      step (inr here) = subst P (sym here.1) (keeps (subst P (sym (one dump at)) h))
