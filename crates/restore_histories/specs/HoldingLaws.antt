-- What a step keeps of an office at work, and of each of the two that the disk of a halted one may have.
use Rattle.std.specs.Prelude.{◌≡◌, ◌+◌, Bool, Ok, Err, nat_le, ◌⊎◌}
use Rattle.std.proofs.Common.{refl, sym, subst, inl, inr}
use Rattle.office_model.specs.declared.refusal.Refusal.{Refusal}
use Rattle.office_model.specs.declared.refusal.Refusal.TheVariants.{Broken, Halted as HaltedReply, DiskFault, Damaged, Memory}
use Rattle.office_model.specs.declared.refusal.BrokenRule.TheVariants.{NumbersSpent}
use Rattle.office_model.specs.declared.answer.Answer.TheVariants.{Reopened}
use Rattle.office_model.specs.Ids.{Ids}
use Rattle.office_model.specs.Office.{Office, Durable, Names, with_ids, raised, reopened, last_sequence}
use Rattle.office_model.specs.Meaning.{Meaning, Carried, Judged, Reply, Touch, Nothing, Reads, Stages, Removes, Commits, ReadsAndCommits, Reopens, NameChange, Renews}
use Rattle.office_model.specs.Step.{State, Running, Halted, IsNext, MayHalt, IsReply, IsPicked, IsLeft, IsHaltedReopen, IsHaltedReply, IsStay}
use Rattle.office_model.specs.events
use Rattle.office_model.specs.laws.Judging.{passed}
use Rattle.office_model.specs.laws.RepeatLaws.{given_as}
use Rattle.office_model.specs.laws.IdLaws.{made_as, next_as}

-- of an office at work, or of both that a disk may have
abbrev pub HoldsIn : (Office → Type 0) → (Durable → Type 0) → State → Type 0
HoldsIn OfOffice OfKept (Running office names) = OfOffice office
HoldsIn OfOffice OfKept (Halted before next names) = OfKept before × OfKept next

-- what holds of an office asks for no ids
module _ (OfOffice : Office → Type 0) (OfKept : Durable → Type 0) (raises : (kept : Durable) → OfKept kept → OfKept (raised kept))
    (any_ids : (office : Office) (ids : Ids) → OfOffice (with_ids office ids) → OfOffice office)
    (any_kept : (kept : Durable) (ids : Ids) → OfKept (record kept { ids = ids }) → OfKept kept) where
  moved : (before after : Office) → after ≡ before → OfOffice before → OfOffice after
  moved before after same has = subst OfOffice (sym same) has

  moved_kept : (before after : Durable) → after ≡ before → OfKept before → OfKept after
  moved_kept before after same has = subst OfKept (sym same) has

  -- ---- an office at work

  next_kept : (pools : Bool) (names : Names) (old made next : Durable) → IsNext pools names old made next → OfKept made → OfKept next
  next_kept pools names old made next is has =
      let w = next_as pools names old made next is in any_kept next w.0 (moved_kept made (record next { ids = w.0 }) w.1 has)

  between : (pools : Bool) (names : Names) (old : Office) (before next : Durable) (touch : Touch) (carried : Judged Carried) → OfKept old.durable
      → ((c : Carried) → carried ≡ Ok c → OfKept c.after.durable) → MayHalt touch pools names old carried before next → OfKept before × OfKept next
  between pools names old before next Nothing carried has commits may = absurd may
  between pools names old before next Reads carried has commits may = absurd may
  between pools names old before next Stages carried has commits may = absurd may
  between pools names old before next Removes carried has commits may = absurd may
  between pools names old before next Commits (Ok c) has commits may =
      (moved_kept old.durable before may.0 has, next_kept pools names old.durable c.after.durable next may.1 (commits c refl))
  between pools names old before next Commits (Err rule) has commits may = absurd may
  between pools names old before next ReadsAndCommits (Ok c) has commits may =
      (moved_kept old.durable before may.0 has, next_kept pools names old.durable c.after.durable next may.1 (commits c refl))
  between pools names old before next ReadsAndCommits (Err rule) has commits may = absurd may
  between pools names old before next Reopens carried has commits may = (moved_kept old.durable before may.0 has, step may.1)
    where
      step : (next ≡ old.durable) ⊎ (next ≡ raised old.durable) → OfKept next
      step (inl e) = moved_kept old.durable next e has
      step (inr e) = moved_kept (raised old.durable) next e (raises old.durable has)

  -- what a refusal leaves, what a fault that halts nothing leaves, what an answer leaves, and what the disk may have then
  pub holds_reply : (old : Office) (names : Names) (meaning : Meaning) (reply : Reply) (new : State) → OfKept old.durable
      → ((refusal : Refusal) → reply ≡ Err refusal → OfOffice old × OfOffice (meaning.faulted old))
      → ((c : Carried) → meaning.carried old names ≡ Ok c → reply ≡ Ok c.answer → OfOffice c.after)
      → ((c : Carried) → meaning.carried old names ≡ Ok c → OfKept c.after.durable)
      → IsReply old names meaning reply new → HoldsIn OfOffice OfKept new
  holds_reply old names meaning (Ok answer) (Running new n) has stays answers commits is =
      let w = made_as meaning.pools names old (meaning.carried old names) answer new is in
      any_ids new w.0 (answers (given_as answer (with_ids new w.0)) w.1 refl)
  holds_reply old names meaning (Ok answer) (Halted before next n) has stays answers commits is = absurd is
  holds_reply old names meaning (Err (Broken rule)) (Running new n) has stays answers commits is =
      moved old new is.1 (stays (Broken rule) refl).0
  holds_reply old names meaning (Err (Broken rule)) (Halted before next n) has stays answers commits is = absurd is
  holds_reply old names meaning (Err HaltedReply) new has stays answers commits is = absurd is
  holds_reply old names meaning (Err DiskFault) (Running new n) has stays answers commits is =
      moved (meaning.faulted old) new is.2 (stays DiskFault refl).1
  holds_reply old names meaning (Err DiskFault) (Halted before next n) has stays answers commits is =
      between meaning.pools names old before next (meaning.touches old names) (meaning.carried old names) has commits is
  holds_reply old names meaning (Err (Damaged file bytes)) (Running new n) has stays answers commits is =
      moved old new is.2 (stays (Damaged file bytes) refl).0
  holds_reply old names meaning (Err (Damaged file bytes)) (Halted before next n) has stays answers commits is =
      between meaning.pools names old before next Reopens (meaning.carried old names) has commits is.1
  holds_reply old names meaning (Err Memory) (Running new n) has stays answers commits is = moved old new is (stays Memory refl).0
  holds_reply old names meaning (Err Memory) (Halted before next n) has stays answers commits is = absurd is

  -- ---- a halted office

  module _ (opens : (kept : Durable) → OfKept kept → OfOffice (reopened kept)) where
    pub holds_reopened : (picked : Durable) (c : Carried) → OfKept picked → events.Reopen.carried picked ≡ Ok c → OfOffice c.after
    holds_reopened picked c has e =
        let w = passed NumbersSpent (nat_le last_sequence picked.epoch) _ c e in
        let same : record { answer = Reopened (picked.epoch + 1); after = reopened picked } ≡ c = let f = w.1 in cc in
        subst (λ (x : Carried). OfOffice x.after) same (opens picked has)

    picked_kept : (before next picked : Durable) → OfKept before → OfKept next → IsPicked before next picked → OfKept picked
    picked_kept before next picked a b (inl e) = moved_kept before picked e a
    picked_kept before next picked a b (inr e) = moved_kept next picked e b

    left_kept : (before next before' next' : Durable) → OfKept before → OfKept next → IsLeft before next before' next'
        → OfKept before' × OfKept next'
    left_kept before next before' next' a b (inl e) = (moved_kept before before' e.0 a, moved_kept next next' e.1 b)
    left_kept before next before' next' a b (inr e) =
        let has : OfKept before' = picked_kept before next before' a b e.0 in
        (has, moved_kept (raised before') next' e.1 (raises before' has))

    halted_reopen : (before next : Durable) (reply : Reply) (new : State) → OfKept before → OfKept next
        → IsHaltedReopen before next reply new → HoldsIn OfOffice OfKept new
    halted_reopen before next (Ok answer) (Running new n) a b is =
        holds_reopened is.0 (given_as answer new) (picked_kept before next is.0 a b is.1) is.2
    halted_reopen before next (Ok answer) (Halted before' next' n) a b is = absurd is
    halted_reopen before next (Err (Broken rule)) (Running new n) a b is = absurd is
    halted_reopen before next (Err (Broken rule)) (Halted before' next' n) a b is =
        (moved_kept before before' is.1 a, moved_kept next next' is.2 b)
    halted_reopen before next (Err HaltedReply) new a b is = absurd is
    halted_reopen before next (Err DiskFault) (Running new n) a b is = absurd is
    halted_reopen before next (Err DiskFault) (Halted before' next' n) a b is = left_kept before next before' next' a b is
    halted_reopen before next (Err (Damaged file bytes)) (Running new n) a b is = absurd is
    halted_reopen before next (Err (Damaged file bytes)) (Halted before' next' n) a b is = left_kept before next before' next' a b is
    halted_reopen before next (Err Memory) (Running new n) a b is = absurd is
    halted_reopen before next (Err Memory) (Halted before' next' n) a b is =
        (moved_kept before before' is.0 a, moved_kept next next' is.1 b)

    halted_stay : (before next : Durable) (reply : Reply) (new : State) → OfKept before → OfKept next → IsStay before next reply new
        → HoldsIn OfOffice OfKept new
    halted_stay before next reply (Running new n) a b is = absurd is
    halted_stay before next reply (Halted before' next' n) a b is = (moved_kept before before' is.1 a, moved_kept next next' is.2 b)

    pub holds_halted : (before next : Durable) (change : NameChange) (reply : Reply) (new : State) → OfKept before → OfKept next
        → IsHaltedReply before next change reply new → HoldsIn OfOffice OfKept new
    holds_halted before next Renews reply new a b is = halted_reopen before next reply new a b is
    holds_halted before next change reply new a b is = halted_stay before next reply new a b is
