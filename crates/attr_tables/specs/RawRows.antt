-- Rows as they stand in a file, and the rows that they are.
use Rattle.std.specs.Prelude.{◌≡◌, ℕ, List}
use Rattle.attr_tables.specs.declared.layouts.TableLayout.{TableLayout}
use Rattle.attr_tables.specs.declared.records.Record.{Record}
use Rattle.attr_tables.specs.declared.records.Record.TheVariants.{File, Dir, Link, Deleted}
use Rattle.attr_tables.specs.declared.reading.RawNode.{RawNode}
use Rattle.attr_tables.specs.declared.reading.RawNode.TheVariants.{File as RawFile, Dir as RawDir, Link as RawLink, Deleted as RawDeleted}
use Rattle.attr_tables.specs.declared.reading.RawRow.{RawRow}
use Rattle.attr_tables.specs.Layout.{kind_of, IsNode}

-- what is said of the path
abbrev pub node_of : RawNode → Record
node_of (RawFile file) = File file
node_of (RawDir dir) = Dir dir
node_of (RawLink link) = Link (record { attr = link.attr; target = link.target.now })
node_of RawDeleted = Deleted

abbrev pub row_of : RawRow → List ℕ × Record
row_of raw = (raw.path.now, node_of raw.node)

-- a record of a kind, in its ranges
abbrev pub IsNodeOf : TableLayout → ℕ → Record → Type 0
IsNodeOf layout kind node = IsNode layout node × (kind_of node ≡ kind)
