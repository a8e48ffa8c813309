-- Rows as they stand in a file, and what holds of the rows that they are.
use Rattle.std.specs.Prelude.{ℕ, ◌<◌, ◌≤◌, List, length, Option, Some, None}
use Rattle.std.specs.Int.{w8, w16}
use Rattle.std.proofs.Common.{arith}
use Rattle.wire_bytes.specs.Layout.{IsNumber, IsText}
use Rattle.disk_trait.specs.declared.ids.PoolId.{PoolId}
use Rattle.attr_records.specs.PathRuleLaws.{short_path}
use Rattle.attr_records.specs.NameLaws.{short_target}
use Rattle.attr_tables.specs.declared.layouts.TableLayout.{TableLayout}
use Rattle.attr_tables.specs.declared.records.Record.{Record}
use Rattle.attr_tables.specs.declared.records.Record.TheVariants.{File, Dir, Link, Deleted}
use Rattle.attr_tables.specs.Records.{IsContentOf, IsSound}
use Rattle.attr_tables.specs.Layout.{kind_of, IsContent, IsPath, IsTarget, IsNode}
use Rattle.attr_tables.specs.RawRows.{IsNodeOf}

-- a path and a target are short enough to be counted in two bytes
pub counted_path : (path : List ℕ) → IsPath path → IsText w16 path
counted_path path kept = let n : length path ≤ 4096 = short_path path kept in omega arith

pub counted_target : (target : List ℕ) → IsTarget target → IsText w16 target
counted_target target kept = let n : length target ≤ 4096 = short_target target kept in omega arith

pub small_kind : (node : Record) → IsNumber w8 (kind_of node)
small_kind (File file) = omega arith
small_kind (Dir dir) = omega arith
small_kind (Link link) = omega arith
small_kind Deleted = omega arith

-- a record in its ranges has a content exactly where its size isn't 0
pub sound_node : (layout : TableLayout) (node : Record) → IsNode layout node → IsSound node
sound_node layout (File file) h = step file.content h.3
  where
    step : (c : Option PoolId) → IsContent file.size c → IsContentOf file.size c
    step None e = e
    step (Some id) e = e.0
sound_node layout (Dir dir) h = tt
sound_node layout (Link link) h = tt
sound_node layout Deleted h = tt

pub no_other_kind : (layout : TableLayout) (kind : ℕ) (node : Record) → 3 < kind → IsNodeOf layout kind node → ⊥
no_other_kind layout kind (File file) big h = omega arith
no_other_kind layout kind (Dir dir) big h = omega arith
no_other_kind layout kind (Link link) big h = omega arith
no_other_kind layout kind Deleted big h = omega arith
