use Rattle.office_files.specs.Pooled.{contents_of}
use Rattle.office_files.specs.IdLaws.{are_ids}
use Rattle.office_files.proofs.laws.ids_are_the_listed_names.Goals as goal

pub returns : goal.returns
returns c = λ digest_of index shown files office stands.
    are_ids digest_of index (contents_of files) office.pool office.ids stands.one stands.pool stands.ids
