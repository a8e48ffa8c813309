use Rattle.adopted_dumps.specs.FillLaws.{dump_is_filled}
use Rattle.adopted_dumps.specs.AdoptedLaws.{dump_is_adopted, dump_may_be_adopted}
use Rattle.adopted_dumps.proofs.laws.a_laid_dump_is_adopted.Goals as goal

pub returns-clause-filled : goal.returns-clause-filled
returns-clause-filled c = dump_is_filled

pub returns-clause-adopted : goal.returns-clause-adopted
returns-clause-adopted c = dump_is_adopted

pub returns-clause-maybe : goal.returns-clause-maybe
returns-clause-maybe c = dump_may_be_adopted
