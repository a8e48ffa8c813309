-- A name is a counted text of fewer kinds.
use Rattle.std.proofs.Common.{◌≡◌, ℕ, Some, sym, ◌∙◌, ap}
use Rattle.std.specs.Int.{w8}
use Rattle.std.proofs.lemmas.Bool.{false≢true}
use Rattle.wire_bytes.specs.Layout.{text_bytes}
use Rattle.wire_bytes.specs.GrammarLaws.{field_finds, field_refuses, narrow_finds, narrow_refuses, misfit_refuses}
use Rattle.attr_records.specs.declared.names.BadHostName.{BadHostName}
use Rattle.attr_records.specs.declared.names.BadHostName.TheVariants.{BadName, Memory}
use Rattle.backup_index.specs.Names.{IsHostName}
use Rattle.backup_index.specs.NameLaws.{counted_name}
use Rattle.backup_index.proofs.Founds.{found_as}
use Rattle.backup_index.proofs.fields.read_name.Goals as goal

pub returns-in-Err : goal.returns-in-Err
returns-in-Err c = narrow_refuses IsHostName (text_bytes w8) counted_name (field_refuses c.in-Err.ensures.field.reads (ap (λ (n : ℕ). Some n) c.offset-start.ensures.value))

pub returns-in-Ok-read : goal.returns-in-Ok-read
returns-in-Ok-read c =
    found_as (sym c.in-Ok-read.ensures.ok.0) (narrow_finds IsHostName (text_bytes w8) counted_name (field_finds c.in-Ok.ensures.field.reads) c.in-Ok-read.ensures.ok.1)

other : (fault : BadHostName) → fault ≡ BadName → fault ≡ Memory → ⊥
other fault is e = let same : BadName ≡ Memory = sym is ∙ e in cc

pub returns-in-Err-BadName : goal.returns-in-Err-BadName
returns-in-Err-BadName c =
    misfit_refuses IsHostName (text_bytes w8) counted_name (field_finds c.in-Ok.ensures.field.reads)
    (λ fits. false≢true (sym (c.in-Err-BadName.ensures.bad (other _ c.in-Err-BadName.field-0-is)) ∙ fits)) (ap (λ (n : ℕ). Some n) c.offset-start.ensures.value)
