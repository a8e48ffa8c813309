use Rattle.frame_puts.specs.RunLaws.{lays_tree, fits_tree}
use Rattle.frame_puts.proofs.laws.frames_of_a_tree_are_laid.Goals as goal

pub returns-clause-lays : goal.returns-clause-lays
returns-clause-lays c = lays_tree

pub returns-clause-fits : goal.returns-clause-fits
returns-clause-fits c = fits_tree
