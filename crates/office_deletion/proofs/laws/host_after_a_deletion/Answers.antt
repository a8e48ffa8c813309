use Rattle.office_files.specs.Pooled.{contents_of, IsListed}
use Rattle.office_deletion.specs.DeletionLaws.{host_shortened, beyond_deletion}
use Rattle.office_deletion.proofs.laws.host_after_a_deletion.Goals as goal

pub returns-clause-stands : goal.returns-clause-stands
returns-clause-stands c = λ index numbers files image number host new shown same.
    host_shortened (IsListed index) (IsListed index) (contents_of files) (contents_of image) (λ id g. (g, same id g)) numbers files image number host new shown

pub returns-clause-beyond : goal.returns-clause-beyond
returns-clause-beyond c = λ index numbers files image number host new shown same.
    beyond_deletion (IsListed index) (IsListed index) (contents_of files) (contents_of image) (λ id g. (g, same id g)) numbers files image number host new shown
