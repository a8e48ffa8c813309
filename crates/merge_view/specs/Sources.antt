-- Sources of rows: one table, or two sources laid over each other.
--     rows_of source      the rows that a source still gives
use Rattle.std.specs.Prelude.{List, [], ◌∷◌, ℕ, Option, Some, None}
use Rattle.std.specs.declared.cmp.Ordering.{Ordering}
use Rattle.std.specs.declared.cmp.Ordering.TheVariants.{Less, Greater}
use Rattle.std.specs.Option.{option_copied}
use Rattle.attr_records.specs.Paths.{path_cmp}
use Rattle.attr_tables.specs.declared.records.Record.{Record}
use Rattle.merge_view.specs.Views.{Rows, stacked}
use Rattle.merge_view.specs.Tables.{fronted}
use Rattle.merge_view.specs.declared.sources.Source.{Source, One, Two'}
use Rattle.merge_view.specs.declared.sources.Ahead.{Ahead}

-- which of two rows comes first; no row is after each
abbrev pub first_of : Option (List ℕ × Record) → Option (List ℕ × Record) → Ordering
first_of None None = Less
first_of None (Some lower) = Greater
first_of (Some upper) None = Less
first_of (Some upper) (Some lower) = path_cmp upper.0 lower.0

-- the rows of a source
abbrev pub rows_of : Source → Rows
rows_of (One rows) = rows.now
rows_of (Two' p older older_rest newer newer_rest) =
    stacked (fronted (option_copied older) (rows_of older_rest)) (fronted (option_copied newer) (rows_of newer_rest))

-- the same of a source with its first row
abbrev pub rows_ahead : Ahead → Rows
rows_ahead ahead = fronted (option_copied ahead.head) (rows_of ahead.rest)
