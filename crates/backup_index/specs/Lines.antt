-- The lines of a host's backups: their numbers strictly rise, each is below the next one to be given, and the last line is
-- filled.
--     Follows      what a line keeps to, by the least number that it may have and by whether it is the last
--     LinesFrom, IsSound      the same of lines, and with the bound of the next number
--     broken_line, broken_lines, broken_index      the first rule that they break;  follows_from_none, sound_from_none and
--         none_from_sound say that they decide this
--     free_number      the least number that may stand behind lines
--     IsKeptLine, LineFits      what a line of a file keeps to, and behind others
use Rattle.std.specs.Prelude.{◌≡◌, ℕ, ◌+◌, ◌<◌, ◌≤◌, ◌==◌, nat_lt, nat_le, Bool, true, false, not, ◌&&◌, if◌then◌else◌, List, [], ◌∷◌, length, Option, Some, None}
use Rattle.backup_rules.specs.declared.lines.Line.{Line}
use Rattle.backup_rules.specs.Layout.{IsLine}
use Rattle.backup_index.specs.declared.lines.IndexRule.{IndexRule}
use Rattle.backup_index.specs.declared.lines.IndexRule.TheVariants.{NextTooLarge, NotRising, NotBelowNext, LastNotFilled}

pub record Follows (low next : ℕ) (is_last : Bool) (line : Line) : Type 0 where
  pub rising : low ≤ line.number
  pub below : line.number < next
  pub filled : is_last ≡ true → line.filled ≡ true

abbrev pub is_none : List Line → Bool
is_none [] = true
is_none (line ∷ lines) = false

abbrev pub LinesFrom : ℕ → ℕ → List Line → Type 0
LinesFrom low next [] = Unit {0}
LinesFrom low next (line ∷ lines) = Follows low next (is_none lines) line × LinesFrom (line.number + 1) next lines

pub record IsSound (next : ℕ) (lines : List Line) : Type 0 where
  pub bound : next ≤ 4294967296
  pub in_turn : LinesFrom 0 next lines

abbrev pub broken_line : ℕ → ℕ → Bool → Line → Option IndexRule
broken_line low next is_last line =
    if nat_lt line.number low then Some NotRising
    else (if nat_le next line.number then Some NotBelowNext
    else (if is_last && not line.filled then Some LastNotFilled else None))

-- the first of these rules, or else the first of those
abbrev pub or_else : Option IndexRule → Option IndexRule → Option IndexRule
or_else None rule = rule
or_else (Some rule) other = Some rule

abbrev pub broken_lines : ℕ → ℕ → List Line → Option IndexRule
broken_lines low next [] = None
broken_lines low next (line ∷ lines) = or_else (broken_line low next (is_none lines) line) (broken_lines (line.number + 1) next lines)

abbrev pub broken_index : ℕ → List Line → Option IndexRule
broken_index next lines = if nat_lt 4294967296 next then Some NextTooLarge else broken_lines 0 next lines

-- one more than the number of the last line
abbrev pub free_number : List Line → ℕ
free_number [] = 0
free_number (line ∷ []) = line.number + 1
free_number (line ∷ other ∷ lines) = free_number (other ∷ lines)

pub record IsKeptLine (low next : ℕ) (is_last : Bool) (line : Line) : Type 0 where
  pub is : IsLine line
  pub follows : Follows low next is_last line

-- of so many lines, behind those before it
abbrev pub LineFits : ℕ → ℕ → List Line → Line → Type 0
LineFits next count before line = IsKeptLine (free_number before) next (length before + 1 == count) line
