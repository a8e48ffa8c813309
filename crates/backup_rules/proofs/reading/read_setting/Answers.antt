-- A number out of the setting's range.
use Rattle.std.proofs.Common.{ℕ, Some, ap}
use Rattle.std.specs.Int.{w32}
use Rattle.std.proofs.lemmas.Bool.{false≢true}
use Rattle.wire_bytes.specs.Layout.{number_bytes}
use Rattle.wire_bytes.specs.GrammarLaws.{field_finds, misfit_refuses}
use Rattle.backup_rules.specs.Ranges.{IsOf}
use Rattle.backup_rules.proofs.RunSteps.{setting_number}
use Rattle.backup_rules.proofs.reading.read_setting.Goals as goal

pub returns-in_default : goal.returns-in_default
returns-in_default c =
    misfit_refuses (IsOf c.args.setting) (number_bytes w32) (setting_number c.args.setting) (field_finds c.in-Ok.ensures.field.reads) (λ is. false≢true (c.if-takes.ensures.1 is))
    (ap (λ (n : ℕ). Some n) c.offset-start.ensures.value)
