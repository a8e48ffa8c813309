use Rattle.office_files.specs.Pooled.{contents_of, IsListed}
use Rattle.office_changes.specs.ChangeLaws.{partial_changed}
use Rattle.office_changes.proofs.laws.host_with_another_partial.Goals as goal

pub returns : goal.returns
returns c = λ index next files image number host of partial rows same.
    partial_changed (IsListed index) (IsListed next) (contents_of files) (contents_of image) same files image number host of partial rows
