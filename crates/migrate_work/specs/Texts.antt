-- What is said of a migration.
use Rattle.std.specs.Prelude.{ℕ, List, ◌++◌, codes, decimal, Option, Some, None}
use Rattle.migrate_work.specs.declared.ends.MigrationEnd.{MigrationEnd}
use Rattle.migrate_work.specs.declared.ends.MigrationEnd.TheVariants.{Done, Refused, Memory}

unfoldable pub migrated_line : ℕ → List ℕ
migrated_line count = codes "migrated " ++ decimal count ++ codes "\n"

-- nothing is said of a migration that was cut off
abbrev pub text_of : MigrationEnd → Option (List ℕ)
text_of (Done count) = Some (migrated_line count)
text_of (Refused refusal) = None
text_of Memory = None
