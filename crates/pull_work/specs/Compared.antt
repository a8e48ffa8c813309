-- Which backups of another server are brought, and from which base on.
--     base_in      the number of the newest backup at home, if it is there, too
--     new_lines      the lines from a number on
use Rattle.std.specs.Prelude.{ℕ, ◌-◌, ◌==◌, ◌&&◌, nat_le, Bool, true, false, if◌then◌else◌, List, length, slice_get, Option, Some, None, option_and_then}
use Rattle.std.specs.List.{filter, list_any}
use Rattle.backup_rules.specs.declared.lines.Kind.{Kind}
use Rattle.backup_rules.specs.declared.lines.Kind.TheVariants.{Full, Incr}
use Rattle.backup_rules.specs.declared.lines.Line.{Line}

abbrev pub is_same_kind : Kind → Kind → Bool
is_same_kind Full Full = true
is_same_kind Full Incr = false
is_same_kind Incr Full = false
is_same_kind Incr Incr = true

-- the same backup: number, times and kind
abbrev pub is_same_backup : (own there : Line) → Bool
is_same_backup own there =
    own.number == there.number && (own.start == there.start && (own.end == there.end && is_same_kind own.kind there.kind))

-- the last line
abbrev pub newest_of : List Line → Option Line
newest_of lines = slice_get lines (length lines - 1)

-- the number of the newest backup at home, if the other server has the same one
abbrev pub base_in : (own there : List Line) → Option ℕ
base_in own there =
    option_and_then (λ newest. if list_any (is_same_backup newest) there then Some newest.number else None) (newest_of own)

-- the lines whose number isn't below home's next one
abbrev pub new_lines : (next : ℕ) → List Line → List Line
new_lines next there = filter (λ line. nat_le next line.number) there
