-- No two values have one file: heads, indices of hosts in each layout, tables in either layout, partial dumps, files of the pool's index.
use Rattle.std.specs.Prelude.{◌≡◌, List, Option, ℕ}
use Rattle.wire_bytes.specs.Seal.{sealed}
use Rattle.wire_bytes.specs.Grammar.{seen_as}
use Rattle.backup_index.specs.declared.head.HeadFile.{HeadFile}
use Rattle.backup_index.specs.declared.layouts.IndexLayout.{IndexLayout}
use Rattle.backup_index.specs.Head.{IsHead, head_grammar}
use Rattle.backup_index.specs.Index.{Index, IsStored}
use Rattle.backup_index.specs.Stored.{index_grammar}
use Rattle.attr_tables.specs.declared.file.TableFile.{TableFile}
use Rattle.attr_tables.specs.Layout.{IsTable}
use Rattle.attr_tables.specs.Tables.{table_grammar, table_file}
use Rattle.partial_files.specs.declared.partial.PartialFile.{PartialFile}
use Rattle.partial_files.specs.Layout.{IsPartial}
use Rattle.partial_files.specs.Partials.{partial_grammar, partial_file}
use Rattle.pool_index.specs.declared.item.IndexItem.{IndexItem}
use Rattle.pool_index.specs.Layout.{IsIndex, index_file, index_grammar as pool_grammar}
use Rattle.pool_index.specs.LayoutLaws.{fits_index}
use Rattle.one_way_layouts.specs.OneWayLaws.{sealed_once}
use Rattle.one_way_layouts.specs.HostLaws.{head_once, index_once}
use Rattle.one_way_layouts.specs.TableLaws.{table_once}
use Rattle.one_way_layouts.specs.PartialLaws.{partial_once}
use Rattle.one_way_layouts.specs.PoolLaws.{pool_index_once}

-- the file of a head
abbrev pub head_file : HeadFile → List ℕ
head_file head = sealed (head_grammar.print head)

-- the file of a host's index, in a layout
abbrev pub host_file : IndexLayout → Index → List ℕ
host_file layout index = sealed (index_grammar.print (layout, index))

pub one_head : (a b : HeadFile) → IsHead a → IsHead b → head_file a ≡ head_file b → a ≡ b
unfolding seen_as
one_head a b is_a is_b same = sealed_once head_grammar head_once a b is_a is_b same

pub one_index : (a b : IndexLayout × Index) → IsStored a → IsStored b → host_file a.0 a.1 ≡ host_file b.0 b.1 → a ≡ b
unfolding seen_as
one_index a b is_a is_b same = sealed_once index_grammar index_once a b is_a is_b same

pub one_table : (a b : TableFile) → IsTable a.layout a.table → IsTable b.layout b.table
    → table_file a.layout a.table ≡ table_file b.layout b.table → a ≡ b
unfolding seen_as
one_table a b is_a is_b same = sealed_once table_grammar table_once a b is_a is_b same

pub one_partial : (host : ℕ) (a b : PartialFile) → IsPartial a → IsPartial b → partial_file host a ≡ partial_file host b → a ≡ b
unfolding seen_as partial_grammar
one_partial host a b is_a is_b same = sealed_once (partial_grammar host) (partial_once host) a b is_a is_b same

pub one_pool_index : (byte : Option ℕ) (a b : List IndexItem) → IsIndex byte a → IsIndex byte b → index_file byte a ≡ index_file byte b
    → a ≡ b
one_pool_index byte a b is_a is_b same = sealed_once (pool_grammar byte) (pool_index_once byte) a b (fits_index byte a is_a) (fits_index byte b is_b) same
