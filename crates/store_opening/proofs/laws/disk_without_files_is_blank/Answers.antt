use Rattle.store_opening.proofs.Blank.{blank_of}
use Rattle.store_opening.proofs.laws.disk_without_files_is_blank.Goals as goal

pub returns : goal.returns
returns c = blank_of
