-- The ends of dumps, as the model has them.
use Rattle.office_model.specs.events.Commit.{Ending, at_time}
use Rattle.office_model.specs.events.Adopt.{adopted_line, as_there}
use Rattle.tree_parts.specs.declared.endings.Ending.{Ending as EndingValue}
use Rattle.tree_parts.specs.declared.endings.Ending.TheVariants.{AtTime, AsThere}

abbrev pub ending_of : EndingValue → Ending
ending_of (AtTime now) = at_time now
ending_of (AsThere number start end kind) = as_there (adopted_line number start end kind)
