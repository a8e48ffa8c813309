-- What a choice takes of two sides.
use Rattle.std.specs.Prelude.{Option, Some, None}
use Rattle.attr_tables.specs.declared.records.Record.{Record}
use Rattle.attr_tables.specs.declared.records.Record.TheVariants.{Deleted}
use Rattle.merge_view.specs.declared.rules.Choice.{Choice}
use Rattle.merge_view.specs.declared.rules.Choice.TheVariants.{Nothing, Left, Right, Mark}

-- what is at a path by a choice, of what the left and the right have there
abbrev pub chosen : Choice → Option Record → Option Record → Option Record
chosen Nothing left right = None
chosen Left left right = left
chosen Right left right = right
chosen Mark left right = Some Deleted
