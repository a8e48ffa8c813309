-- A line that follows, or one that doesn't.
use Rattle.std.proofs.Common.{◌≡◌, ℕ, Bool, Some, None, sym, ◌∙◌, ap}
use Rattle.wire_bytes.specs.GrammarLaws.{field_finds, field_refuses, narrow_finds, narrow_refuses, misfit_refuses}
use Rattle.backup_rules.specs.declared.lines.Line.{Line}
use Rattle.backup_rules.specs.Layout.{line_bytes}
use Rattle.backup_index.specs.declared.lines.IndexRule.{IndexRule}
use Rattle.backup_index.specs.Lines.{broken_line, IsKeptLine}
use Rattle.backup_index.specs.LinesLaws.{follows_from_none, none_from_follows}
use Rattle.backup_index.proofs.index_reading.read_next_line.Goals as goal

pub returns-in-Err : goal.returns-in-Err
returns-in-Err c =
    narrow_refuses (IsKeptLine c.args.low c.args.next c.args.is_last) line_bytes (λ line is. is.is) (field_refuses c.in-Err.ensures.line (ap (λ (n : ℕ). Some n) c.offset-start.ensures.value))

pub returns-in-None : goal.returns-in-None
returns-in-None c =
    narrow_finds (IsKeptLine c.args.low c.args.next c.args.is_last) line_bytes (λ line is. is.is) (field_finds c.in-Ok.ensures.line)
    (record { is = c.in-Ok.ensures.line.found.0; follows = follows_from_none c.args.low c.args.next c.args.is_last c.in-Ok.line (sym c.in-None.ensures) })

other : (low next : ℕ) (is_last : Bool) (line : Line) (rule : IndexRule) → Some rule ≡ broken_line low next is_last line → IsKeptLine low next is_last line → ⊥
other low next is_last line rule is fits = let same : Some rule ≡ None = is ∙ none_from_follows low next is_last line fits.follows in cc

pub returns-in-Some : goal.returns-in-Some
returns-in-Some c =
    misfit_refuses (IsKeptLine c.args.low c.args.next c.args.is_last) line_bytes (λ line is. is.is) (field_finds c.in-Ok.ensures.line)
    (other c.args.low c.args.next c.args.is_last c.in-Ok.line c.in-Some.field-0 c.in-Some.ensures) (ap (λ (n : ℕ). Some n) c.offset-start.ensures.value)
