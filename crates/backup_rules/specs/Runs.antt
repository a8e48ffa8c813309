-- Settings that are one number, one behind the other.
--     run      a number of them, from one setting on
--     RunFits, IsRun      each of them is in the range of its setting
use Rattle.std.specs.Prelude.{ℕ, ◌+◌, List, length, take, drop}
use Rattle.wire_bytes.specs.Breaks.{AreCounted}
use Rattle.backup_rules.specs.Settings.{setting_at}
use Rattle.backup_rules.specs.Ranges.{IsOf}

abbrev pub run : ℕ → ℕ → List ℕ → List ℕ
run first count numbers = take count (drop first numbers)

-- a number for the setting that is so many behind this one
abbrev pub RunFits : ℕ → List ℕ → ℕ → Type 0
RunFits first before n = IsOf (setting_at (first + length before)) n

abbrev pub IsRun : ℕ → ℕ → List ℕ → Type 0
IsRun first count numbers = AreCounted (RunFits first) count numbers
