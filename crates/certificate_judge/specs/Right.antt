-- Certificates of which all goes together.
use Rattle.std.specs.Prelude.{◌≡◌, ℕ, ◌<◌, List, take}
use Rattle.std.specs.List.{AllByRecursion}
use Rattle.certificates.specs.Certificate.{Id, HostPart, PoolFile, Certificate}
use Rattle.certificates.specs.Layout.{certificate_grammar, certificate_file}
use Rattle.certificate_judge.specs.Faults.{number_of, occurrences, ids_of_items, ids_of_files}

-- each count is how often the host's lists name its id, and each id that they name has a count and a file in the pool
pub record IsRightHost (pool : List PoolFile) (host : HostPart) : Type 0 where
  pub counts : AllByRecursion (λ item. item.count ≡ occurrences host item.id) host.items
  pub counted : (id : Id) → 0 < occurrences host id → 0 < number_of id (ids_of_items host.items)
  pub pooled : (id : Id) → 0 < occurrences host id → 0 < number_of id (ids_of_files pool)

-- the digest of the bytes that were found in a file is the one that it is named by
abbrev pub IsRightFile : PoolFile → Type 0
IsRightFile file = take 16 file.id ≡ file.found

pub record IsRight (c : Certificate) : Type 0 where
  pub hosts : AllByRecursion (IsRightHost c.pool) c.hosts
  pub files : AllByRecursion IsRightFile c.pool

-- the bytes are those of a certificate that is right, and of no other
pub record TellsRight (bytes : List ℕ) : Type 0 where
  pub certificate : Certificate
  pub fits : certificate_grammar.Fits certificate
  pub is : bytes ≡ certificate_file certificate
  pub only : (other : Certificate) → certificate_grammar.Fits other → bytes ≡ certificate_file other → certificate ≡ other
  pub right : IsRight certificate
