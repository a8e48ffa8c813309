-- How far apart the filled backups stand that the counts keep, and which they keep.
--     gap_of      2^j * C - C/2 for the least j with c0 + .. + cj above the number of newer ones that are kept
--     is_kept      whether a filled backup is kept, by that number and the start of the next older filled one
--     next_older, kept_count, kept_at      the next older one, how many are kept, and whether one is, by recursion
use Rattle.std.specs.Prelude.{ℕ, ◌+◌, ◌-◌, ◌*◌, ◌/◌, nat_lt, nat_le, Bool, true, false, ◌&&◌, if◌then◌else◌, cond, List, [], ◌∷◌, Option, Some, None}
use Rattle.backup_rules.specs.declared.lines.Line.{Line}
use Rattle.backup_rules.specs.Values.{RuleSet}
use Rattle.keep_rules.specs.declared.groups.Group.{Group}
use Rattle.keep_rules.specs.Groups.{is_filled_in, counts_of, cycle_of}

-- the span doubles with each count that is used up
abbrev pub gap_from : ℕ → ℕ → List ℕ → ℕ → Option ℕ
gap_from half span [] kept = None
gap_from half span (count ∷ counts) kept = if nat_lt kept count then Some (span - half) else gap_from half (span * 2) counts (kept - count)

abbrev pub gap_of : ℕ → List ℕ → ℕ → Option ℕ
gap_of cycle counts kept = gap_from (cycle / 2) cycle counts kept

-- this far apart, if there is an older one: start - older >= gap, for signed numbers
abbrev pub is_apart : Option ℕ → ℕ → Option ℕ → Bool
is_apart None start older = false
is_apart (Some gap) start None = true
is_apart (Some gap) start (Some older) = nat_le (older + gap) start

unfoldable pub is_kept : RuleSet → Group → ℕ → ℕ → Option ℕ → Bool
is_kept rules group kept start older = is_apart (gap_of (cycle_of rules) (counts_of rules group) kept) start older

module _ (rules : RuleSet) (now : ℕ) (group : Group) where
  -- the start of this one, if it is a filled one of the group, or else of the one before it
  abbrev pub nearer : Option ℕ → Line → Option ℕ
  nearer older line = if is_filled_in rules now group line then Some line.start else older

  -- the start of the last filled one of the group, or of the one before these lines
  abbrev pub last_from : Option ℕ → List Line → Option ℕ
  last_from older [] = older
  last_from older (line ∷ lines) = last_from (nearer older line) lines

  abbrev pub next_older : List Line → Option ℕ
  next_older lines = last_from None lines

  -- how many of these are kept, if a filled one of this start stands before them
  abbrev pub kept_count : Option ℕ → List Line → ℕ
  kept_count older [] = 0
  kept_count older (line ∷ newer) =
      cond (is_filled_in rules now group line && is_kept rules group (kept_count (nearer older line) newer) line.start older) 1 0
      + kept_count (nearer older line) newer

  -- whether the counts keep a filled one, by the start of the next older one and by the newer lines
  abbrev pub kept_at : Option ℕ → Line → List Line → Bool
  kept_at older line newer = is_kept rules group (kept_count (nearer older line) newer) line.start older
