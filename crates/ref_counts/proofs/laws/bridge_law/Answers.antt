use Rattle.std.proofs.Common.{◌≡◌, true}
use Rattle.ref_counts.specs.StoredLaws.{named_in_from_total, total_from_named_in, held_in_from_named, named_in_from_held}
use Rattle.ref_counts.proofs.laws.bridge_law.Goals as goal

pub returns-clause-named : goal.returns-clause-named
returns-clause-named c = λ id host whole. (named_in_from_total id host whole, total_from_named_in id host whole)

pub returns-clause-held : goal.returns-clause-held
returns-clause-held c = λ given told one id host g h whole. (
  λ n. held_in_from_named (λ id. given id ≡ true) told one id host g h (named_in_from_total id host whole n),
  λ w. total_from_named_in id host whole (named_in_from_held (λ id. given id ≡ true) told one id host g h w),
)
