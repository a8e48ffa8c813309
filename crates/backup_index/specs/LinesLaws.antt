-- Laws of specs/Lines.
use Rattle.std.specs.Prelude.{◌≡◌, ℕ, ◌+◌, nat_lt, nat_le, Bool, true, false, not, ◌&&◌, if◌then◌else◌, List, [], ◌∷◌, Option, Some, None}
use Rattle.std.proofs.Common.{cond, refl, ap, ◌∙◌}
use Rattle.std.proofs.lemmas.Bool.{ltb-false, leb-false, le-ltb, lt-leb, false≢true}
use Rattle.backup_rules.specs.declared.lines.Line.{Line}
use Rattle.backup_index.specs.declared.lines.IndexRule.{IndexRule}
use Rattle.backup_index.specs.declared.lines.IndexRule.TheVariants.{NextTooLarge, NotRising, NotBelowNext, LastNotFilled}
use Rattle.backup_index.specs.Lines.{Follows, IsSound, LinesFrom, broken_index, broken_line, broken_lines, is_none, or_else}

last_filled : (is_last filled : Bool) → cond (is_last && not filled) (Some LastNotFilled) None ≡ None → is_last ≡ true → filled ≡ true
last_filled false filled is last = absurd (false≢true last)
last_filled true false is last = cc
last_filled true true is last = refl

pub follows_from_none : (low next : ℕ) (is_last : Bool) (line : Line) → broken_line low next is_last line ≡ None → Follows low next is_last line
follows_from_none low next is_last line is = step (nat_lt line.number low) (nat_le next line.number) refl refl is
  where
    step : (a b : Bool) → nat_lt line.number low ≡ a → nat_le next line.number ≡ b
        → cond a (Some NotRising) (cond b (Some NotBelowNext) (cond (is_last && not line.filled) (Some LastNotFilled) None)) ≡ None → Follows low next is_last line
    step true b e f is = cc
    step false true e f is = cc
    step false false e f is = record { rising = ltb-false line.number low e; below = leb-false next line.number f; filled = last_filled is_last line.filled is }

filled_last : (is_last filled : Bool) → (is_last ≡ true → filled ≡ true) → cond (is_last && not filled) (Some LastNotFilled) None ≡ None
filled_last false filled is = refl
filled_last true false is = absurd (false≢true (is refl))
filled_last true true is = refl

pub none_from_follows : (low next : ℕ) (is_last : Bool) (line : Line) → Follows low next is_last line → broken_line low next is_last line ≡ None
none_from_follows low next is_last line is =
    ap (λ b. cond b (Some NotRising) (cond (nat_le next line.number) (Some NotBelowNext) (cond (is_last && not line.filled) (Some LastNotFilled) None))) (le-ltb line.number low is.rising)
    ∙ ap (λ b. cond b (Some NotBelowNext) (cond (is_last && not line.filled) (Some LastNotFilled) None)) (lt-leb next line.number is.below)
    ∙ filled_last is_last line.filled is.filled

or_else-none : (a b : Option IndexRule) → or_else a b ≡ None → (a ≡ None) × (b ≡ None)
or_else-none None b is = (refl, is)
or_else-none (Some rule) b is = cc

pub lines_from_none : (low next : ℕ) (lines : List Line) → broken_lines low next lines ≡ None → LinesFrom low next lines
lines_from_none low next [] is = tt
lines_from_none low next (line ∷ lines) is =
    let parts = or_else-none (broken_line low next (is_none lines) line) (broken_lines (line.number + 1) next lines) is in
    (follows_from_none low next (is_none lines) line parts.0, lines_from_none (line.number + 1) next lines parts.1)

pub none_from_lines : (low next : ℕ) (lines : List Line) → LinesFrom low next lines → broken_lines low next lines ≡ None
none_from_lines low next [] is = refl
none_from_lines low next (line ∷ lines) is =
    ap (λ r. or_else r (broken_lines (line.number + 1) next lines)) (none_from_follows low next (is_none lines) line is.0) ∙ none_from_lines (line.number + 1) next lines is.1

pub sound_from_none : (next : ℕ) (lines : List Line) → broken_index next lines ≡ None → IsSound next lines
sound_from_none next lines is = step (nat_lt 4294967296 next) refl is
  where
    step : (b : Bool) → nat_lt 4294967296 next ≡ b → cond b (Some NextTooLarge) (broken_lines 0 next lines) ≡ None → IsSound next lines
    step true e is = cc
    step false e is = record { bound = ltb-false 4294967296 next e; in_turn = lines_from_none 0 next lines is }

pub none_from_sound : (next : ℕ) (lines : List Line) → IsSound next lines → broken_index next lines ≡ None
none_from_sound next lines is =
    ap (λ b. cond b (Some NextTooLarge) (broken_lines 0 next lines)) (le-ltb 4294967296 next is.bound) ∙ none_from_lines 0 next lines is.in_turn
