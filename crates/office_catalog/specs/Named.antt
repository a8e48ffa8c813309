-- Hosts in the order of their names.
--     name_cmp      which of two names comes first: by their bytes
--     entry_of      a host's name, and its number under it
use Rattle.std.specs.Prelude.{ℕ, List}
use Rattle.std.specs.declared.cmp.Ordering.{Ordering}
use Rattle.std.specs.Cmp.Lexicographic.{slice_cmp}
use Rattle.std.specs.Ordering.{nat_cmp}
use Rattle.office_catalog.specs.declared.named.NamedHost.{NamedHost}

abbrev pub name_cmp : List ℕ → List ℕ → Ordering
name_cmp = slice_cmp nat_cmp

abbrev pub entry_of : NamedHost → List ℕ × ℕ
entry_of named = (named.name, named.number)
