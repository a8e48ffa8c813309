-- Why a folder command of a store at work stops: the calls before the one that was refused were answered, so the office was at work then.
--     wider, at_work      why one call is refused
--     refused_at_work
use Rattle.std.proofs.Common.{◌≡◌, ℕ, ◌≤◌, List, [], ◌∷◌, ◌++◌, Ok, Err, refl, sym, ap, ◌∙◌, subst, arith}
use Rattle.fault_counts.specs.Counts.{Rose}
use Rattle.office_model.specs.Office.{Office, Names}
use Rattle.office_model.specs.declared.event.Event.{Event}
use Rattle.office_model.specs.declared.refusal.Refusal.{Refusal}
use Rattle.office_model.specs.declared.refusal.Refusal.TheVariants as R
use Rattle.office_model.specs.Meaning.{Reply}
use Rattle.office_model.specs.Step.{Call, State, Running, Halted, IsStep}
use Rattle.office_model.specs.History.{Entry, IsUndamaged, IsHistory, calls_of, last_faults}
use Rattle.call_scripts.specs.Scripts.{EndRefused}
use Rattle.admin_cli.specs.Folders.{IsCauseAtWork}

pub later_than : (state : State) (faults : ℕ) (entries : List Entry) → IsHistory state faults entries → faults ≤ last_faults faults entries
later_than state faults [] legal = omega arith
later_than state faults (entry ∷ entries) legal =
    let first = legal.0.later in
    let rest = later_than entry.state entry.faults entries legal.1 in
    omega (arith, first, rest)

-- the count may rise further
pub wider : (refusal : Refusal) (a b c k : ℕ) → a ≤ b → c ≤ k → IsCauseAtWork refusal b c → IsCauseAtWork refusal a k
wider (R.Broken rule) a b c k le more why = tt
wider R.Halted a b c k le more why = why
wider R.DiskFault a b c k le more why = omega (arith, le, more, why)
wider (R.Damaged file found) a b c k le more why = why
wider R.Memory a b c k le more why = tt

pub at_work : (old : Office) (names : Names) (event : Event) (named : Refusal) (state : State) (faults faults' : ℕ)
    → IsStep (Running old names) event (Err named) state → IsUndamaged (Err named) → (named ≡ R.DiskFault → Rose faults faults')
    → IsCauseAtWork named faults faults'
at_work old names event (R.Broken rule) state faults faults' step undamaged cause = tt
at_work old names event R.Halted state faults faults' step undamaged cause = absurd step.0
at_work old names event R.DiskFault state faults faults' step undamaged cause = cause refl
at_work old names event (R.Damaged file found) state faults faults' step undamaged cause = absurd undamaged
at_work old names event R.Memory state faults faults' step undamaged cause = tt

-- the first entry of a list is that of its calls
pub same_head : (a b : Call) (more others : List Call) → a ∷ more ≡ b ∷ others → b ≡ a
same_head a b more others e = cc (e)

pub same_tail : (a b : Call) (more others : List Call) → a ∷ more ≡ b ∷ others → more ≡ others
same_tail a b more others e = cc (e)

-- the calls up to one that was refused, and what was called behind it
pub refused_at_work : (old : Office) (names : Names) (faults : ℕ) (entries : List Entry) (calls more : List Call) (refusal : Refusal)
    → IsHistory (Running old names) faults entries → calls_of entries ≡ calls ++ more → EndRefused refusal calls
    → IsCauseAtWork refusal faults (last_faults faults entries)
refused_at_work old names faults entries [] more refusal legal are ended = absurd ended
refused_at_work old names faults [] (call ∷ calls) more refusal legal are ended = let no : ⊥ = cc (are) in absurd no
refused_at_work old names faults (entry ∷ entries) (call ∷ calls) more refusal legal are ended =
    by entry.reply entry.state legal.0.step legal.0.undamaged legal.0.cause legal.1
    (subst (λ (c : Call). EndRefused refusal (c ∷ calls)) (same_head (entry.event, entry.reply) call (calls_of entries) (calls ++ more) are) ended)
    (λ office' names' rest last. refused_at_work office' names' entry.faults entries calls more refusal rest
    (same_tail (entry.event, entry.reply) call (calls_of entries) (calls ++ more) are) last)
  where
    by : (reply : Reply) (state : State) → IsStep (Running old names) entry.event reply state → IsUndamaged reply
        → (reply ≡ Err R.DiskFault → Rose faults entry.faults) → IsHistory state entry.faults entries
        → EndRefused refusal ((entry.event, reply) ∷ calls)
        → ((office' : Office) (names' : Names) → IsHistory (Running office' names') entry.faults entries → EndRefused refusal calls
        → IsCauseAtWork refusal entry.faults (last_faults entry.faults entries))
        → IsCauseAtWork refusal faults (last_faults entry.faults entries)
    by (Ok answer) (Running office' names') step undamaged cause rest ended' later =
        wider refusal faults entry.faults (last_faults entry.faults entries) (last_faults entry.faults entries) legal.0.later (omega arith)
        (later office' names' rest ended')
    by (Ok answer) (Halted a b names') step undamaged cause rest ended' later = absurd step.0
    by (Err named) state step undamaged cause rest ended' later =
        subst (λ (told : Refusal). IsCauseAtWork told faults (last_faults entry.faults entries)) ended'.0
        (wider named faults faults entry.faults (last_faults entry.faults entries) (omega arith)
        (later_than state entry.faults entries rest)
        (at_work old names entry.event named state faults entry.faults step undamaged
        (λ e. cause (ap (λ (told : Refusal). Err told) e))))
