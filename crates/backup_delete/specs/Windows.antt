-- The part of a host's backups, the oldest first, that a deletion is computed from and that it changes.
--     part first end xs      the items from an index on and before another
--     any_gone numbers lines      one of the backups is deleted
--     IsFilledStay numbers lines      the first of the backups is filled and stays
--     IsWindow      every table that changes, and every table that the changes are computed from, lies in the part
--     IsNarrow      it is no longer than to the neighbours of those that are deleted
use Rattle.std.specs.Prelude.{◌≡◌, ℕ, ◌+◌, ◌-◌, ◌<◌, ◌≤◌, Bool, true, false, ◌||◌, List, [], ◌∷◌, length, take, drop}
use Rattle.backup_rules.specs.declared.lines.Line.{Line}
use Rattle.backup_delete.specs.Trees.{is_first_filled, is_gone, is_next_gone}
use Rattle.backup_delete.specs.Towers.{folds}

-- the items from an index on and before another
abbrev pub part : {A : Type 0} → ℕ → ℕ → List A → List A
part first end xs = take (end - first) (drop first xs)

-- one of the backups is deleted
abbrev pub any_gone : List ℕ → List Line → Bool
any_gone numbers [] = false
any_gone numbers (line ∷ lines) = is_gone numbers line.number || any_gone numbers lines

-- The first of the backups is filled and stays.
pub record IsFilledStay (numbers : List ℕ) (lines : List Line) : Type 0 where
  pub filled : is_first_filled lines ≡ true
  pub stays : is_next_gone numbers lines ≡ false

-- The backups from `first` on and before `end`: none before them and none behind them is deleted. Unless they begin with the
-- oldest of all, their first one stays, or the one before it is filled: so no table before it is relative to a deleted backup.
-- Unless they end with the newest of all, or none of them gets a new table, their last one is filled and stays: so its table is
-- its tree, and no tree of theirs is computed from a table behind it.
pub record IsWindow (numbers : List ℕ) (lines : List Line) (first end : ℕ) : Type 0 where
  pub within : end ≤ length lines
  pub before : any_gone numbers (take first lines) ≡ false
  pub behind : any_gone numbers (drop end lines) ≡ false
  pub rises : first ≤ end
  pub oldest : 0 < first → is_next_gone numbers (drop first lines) ≡ true → is_first_filled (drop (first - 1) lines) ≡ true
  pub newest : end < length lines → 0 < folds numbers (part first end lines) → IsFilledStay numbers (drop (end - 1) lines)

-- If a backup is deleted, one of the first two backups is the oldest of these, and behind the newest of these none but the last
-- backup is filled.
pub record IsNarrow (numbers : List ℕ) (lines : List Line) (first end : ℕ) : Type 0 where
  pub near : any_gone numbers lines ≡ true → any_gone numbers (take (first + 2) lines) ≡ true
  pub unfilled : any_gone numbers lines ≡ true → (i : ℕ) → any_gone numbers (drop i lines) ≡ false → i + 1 < end
      → is_first_filled (drop i lines) ≡ false
