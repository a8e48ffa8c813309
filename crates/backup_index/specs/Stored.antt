-- The index of a host as it is stored, in one layout or another.
use Rattle.std.specs.Prelude.{◌++◌}
use Rattle.wire_bytes.specs.Grammar.{Grammar, seen_as}
use Rattle.backup_index.specs.declared.layouts.IndexLayout.{IndexLayout}
use Rattle.backup_index.specs.declared.parts.HostParts.{HostParts}
use Rattle.backup_index.specs.Index.{Index, index_of, IsStored, index_parts, parts_of_index, index_from}
use Rattle.backup_index.specs.IndexLaws.{sees_index}

abbrev pub index_grammar : Grammar (IndexLayout × Index)
index_grammar = seen_as index_parts IsStored parts_of_index index_from sees_index

-- the index whose parts these are
abbrev pub index_of_parts : HostParts → Index
index_of_parts p = index_of p.host p.name.now p.rules.now p.good p.bad p.next p.receipts.now (p.lines.now ++ p.more.now)
