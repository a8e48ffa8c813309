-- An open dump becomes a backup with the number, the times and the kind that it has on another server; else as a commit. The host's next
-- number is the one behind it.
use Rattle.std.specs.Prelude.{ℕ, Bool, true, false, not, ◌&&◌, Ok, nat_le, nat_lt}
use Rattle.backup_rules.specs.declared.lines.Kind.{Kind}
use Rattle.backup_rules.specs.declared.lines.Line.{Line}
use Rattle.receipts.specs.declared.session.SessionName.{SessionName}
use Rattle.office_model.specs.declared.refusal.BrokenRule.TheVariants.{NumberBehind}
use Rattle.office_model.specs.Office.{Host, Dump, number_limit}
use Rattle.office_model.specs.Meaning.{Meaning, Judged, ◌>>◌, breaks}
use Rattle.office_model.specs.events.Commit.{Ending, ends}

abbrev pub adopted_line : ℕ → ℕ → ℕ → Kind → Line
adopted_line number start end kind = record { number = number; start = start; end = end; kind = kind; filled = true; keep = false }

-- not below the next one; each number of 32 bits is below the limit
abbrev pub is_free : ℕ → ℕ → Bool
is_free next number = nat_le next number && nat_lt number number_limit

-- as it is on the other server
abbrev pub as_there : Line → Ending
as_there line host dump = breaks NumberBehind (not (is_free host.next line.number)) >> Ok line

abbrev pub meaning : SessionName → ℕ → ℕ → ℕ → Kind → Meaning
meaning session number start end kind = ends session (as_there (adopted_line number start end kind))
