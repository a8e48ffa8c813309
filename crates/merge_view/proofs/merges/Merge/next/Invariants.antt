use Rattle.std.proofs.Common.{◌≡◌, length}
use Rattle.merge_view.specs.Sources.{rows_of}
use Rattle.merge_view.specs.Views.{without_marks}
use Rattle.merge_view.proofs.merges.Merge.next.Given as goal

abbrev pub invariant-marks : goal.invariant-marks
invariant-marks l = without_marks (rows_of l.self-inside.rows) ≡ without_marks (rows_of l.initial.self-inside.rows)

abbrev pub decreases-marks : goal.decreases-marks
decreases-marks l = length (rows_of l.self-inside.rows)
