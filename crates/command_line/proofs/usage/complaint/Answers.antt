use Rattle.std.specs.Prelude.{[], map}
use Rattle.std.specs.String.{string_bytes}
use Rattle.std.proofs.Common.{◌≡◌, subst, sym}
use Rattle.clap.specs.Simple.{App}
use Rattle.clap.specs.Faults.{fault_of}
use Rattle.command_line.proofs.UsageLemmas.{usage_last, usage_alone}
use Rattle.command_line.proofs.usage.complaint.Goals as goal

pub returns-clause-usage : goal.returns-clause-usage
returns-clause-usage c =
    usage_last (λ text. string_bytes text) (string_bytes c.in_ok-message.message) c.with_usage.result c.with_usage.ensures

pub returns-clause-taken : goal.returns-clause-taken
returns-clause-taken c = λ none.
    usage_alone (λ text. string_bytes text) (string_bytes c.in_ok-message.message) c.with_usage.result
    (c.in_ok-message.ensures (subst (λ (a : App). fault_of a (map string_bytes c.args.words.now) ≡ []) (sym c.in_ok-program.ensures.0) none))
    c.with_usage.ensures
