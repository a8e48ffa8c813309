-- The order of names of files: by their kinds, and then by what tells files of one kind apart.
use Rattle.std.specs.Prelude.{Bool}
use Rattle.std.specs.Ordering.{nat_cmp, on, eq_by_cmp}
use Rattle.std.specs.declared.cmp.Ordering.{Ordering}
use Rattle.std.specs.Cmp.Lexicographic.{slice_cmp}
use Rattle.disk_trait.specs.declared.ids.FileId.{FileId}
use Rattle.disk_trait.specs.Names.{file_key}

abbrev pub file_cmp : FileId → FileId → Ordering
file_cmp = on file_key (slice_cmp nat_cmp)

-- whether the order doesn't tell them apart
abbrev pub file_eq : FileId → FileId → Bool
file_eq = eq_by_cmp file_cmp
