-- What a merge has still to read of the puts.
use Rattle.std.specs.Prelude.{ℕ, List, [], ◌∷◌, Option, Some, None}
use Rattle.std.specs.Borrow.{Bor}
use Rattle.attr_tables.specs.declared.records.Record.{Record}
use Rattle.merge_view.specs.Views.{Rows}

-- the entry that was read, and those behind it
abbrev pub waiting : Option (Bor (List ℕ) × Bor Record) → Rows → Rows
waiting None rest = []
waiting (Some entry) rest = (entry.0.now, entry.1.now) ∷ rest
