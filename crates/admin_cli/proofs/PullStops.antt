-- Why a pull over a store at work stops: each call before the one that was refused was answered, or the host wasn't there, so the office
-- was at work then.
--     pull_stops
use Rattle.std.proofs.Common.{◌≡◌, ℕ, List, [], ◌∷◌, ◌++◌, Ok, Err, sym, ap, ◌∙◌, subst, arith}
use Rattle.office_model.specs.Office.{Office, Names}
use Rattle.office_model.specs.declared.event.Event.{Event}
use Rattle.office_model.specs.declared.refusal.Refusal.{Refusal}
use Rattle.office_model.specs.declared.refusal.Refusal.TheVariants as R
use Rattle.office_model.specs.Meaning.{Reply}
use Rattle.office_model.specs.Step.{Call, State, Running, Halted, IsStep}
use Rattle.office_model.specs.History.{Entry, IsUndamaged, IsHistory, calls_of, last_faults}
use Rattle.admin_cli.specs.Folders.{IsCauseAtWork}
use Rattle.admin_cli.proofs.FolderStops.{later_than, wider, at_work, same_head, same_tail}
use Rattle.admin_cli.proofs.PullCalls.{IsPassed, ArePassed}

same_reply : (a b : Call) → a ≡ b → a.1 ≡ b.1
same_reply a b e = ap (λ (call : Call). call.1) e

-- the calls up to the one that was refused, and what was called behind it
pub pull_stops : (old : Office) (names : Names) (faults : ℕ) (entries : List Entry) (before behind : List Call) (event : Event) (refusal : Refusal)
    → IsHistory (Running old names) faults entries → calls_of entries ≡ before ++ (event, Err refusal) ∷ behind → ArePassed before
    → IsCauseAtWork refusal faults (last_faults faults entries)
pull_stops old names faults [] [] behind event refusal legal are passed = let no : ⊥ = cc (are) in absurd no
pull_stops old names faults [] (call ∷ before) behind event refusal legal are passed = let no : ⊥ = cc (are) in absurd no
pull_stops old names faults (entry ∷ entries) [] behind event refusal legal are passed =
    wider refusal faults faults entry.faults (last_faults entry.faults entries) (omega arith)
    (later_than entry.state entry.faults entries legal.1)
    (at_work old names entry.event refusal entry.state faults entry.faults
    (subst (λ (reply : Reply). IsStep (Running old names) entry.event reply entry.state) is legal.0.step)
    (subst IsUndamaged is legal.0.undamaged)
    (λ e. legal.0.cause (is ∙ ap (λ (told : Refusal). Err told) e)))
  where
    is : entry.reply ≡ Err refusal
    is = same_reply (entry.event, entry.reply) (event, Err refusal)
        (sym (same_head (entry.event, entry.reply) (event, Err refusal) (calls_of entries) behind are))
pull_stops old names faults (entry ∷ entries) (call ∷ before) behind event refusal legal are passed =
    by entry.reply entry.state legal.0.step legal.1
    (subst (λ (c : Call). IsPassed c.1)
    (same_head (entry.event, entry.reply) call (calls_of entries) (before ++ (event, Err refusal) ∷ behind) are) passed.0)
    (λ office' names' rest. pull_stops office' names' entry.faults entries before behind event refusal rest
    (same_tail (entry.event, entry.reply) call (calls_of entries) (before ++ (event, Err refusal) ∷ behind) are) passed.1)
  where
    by : (reply : Reply) (state : State) → IsStep (Running old names) entry.event reply state → IsHistory state entry.faults entries
        → IsPassed reply
        → ((office' : Office) (names' : Names) → IsHistory (Running office' names') entry.faults entries
        → IsCauseAtWork refusal entry.faults (last_faults entry.faults entries))
        → IsCauseAtWork refusal faults (last_faults entry.faults entries)
    by (Ok answer) (Running office' names') step rest goes later =
        wider refusal faults entry.faults (last_faults entry.faults entries) (last_faults entry.faults entries) legal.0.later (omega arith)
        (later office' names' rest)
    by (Ok answer) (Halted a b names') step rest goes later = absurd step.0
    by (Err (R.Broken rule)) (Running office' names') step rest goes later =
        wider refusal faults entry.faults (last_faults entry.faults entries) (last_faults entry.faults entries) legal.0.later (omega arith)
        (later office' names' rest)
    by (Err (R.Broken rule)) (Halted a b names') step rest goes later = absurd step.0
    by (Err R.Halted) state step rest goes later = let no : ⊥ = cc (goes) in absurd no
    by (Err R.DiskFault) state step rest goes later = let no : ⊥ = cc (goes) in absurd no
    by (Err (R.Damaged file found)) state step rest goes later = let no : ⊥ = cc (goes) in absurd no
    by (Err R.Memory) state step rest goes later = let no : ⊥ = cc (goes) in absurd no
