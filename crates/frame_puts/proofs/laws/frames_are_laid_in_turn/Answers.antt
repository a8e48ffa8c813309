use Rattle.frame_puts.specs.RunLaws.{lays_more, fits_next}
use Rattle.frame_puts.proofs.laws.frames_are_laid_in_turn.Goals as goal

pub returns-clause-more : goal.returns-clause-more
returns-clause-more c = lays_more

pub returns-clause-next : goal.returns-clause-next
returns-clause-next c = fits_next
