-- What is written of a directory is read back.
use Rattle.std.specs.Prelude.{◌≡◌, ℕ, ℤ, pos, negsuc, ◌<◌, ◌≤◌, ◌^◌, true, List, None, Some}
use Rattle.std.specs.List.{AllByRecursion}
use Rattle.attr_records.specs.Attributes.{Attributes}
use Rattle.attr_records.specs.Names.{is_link_target}
use Rattle.attr_records.specs.PathRules.{broken_path_rule}
use Rattle.tree_frames.specs.declared.nodes.Node.{Node}
use Rattle.tree_frames.specs.declared.nodes.Node.TheVariants.{File, Dir, Link}
use Rattle.office_model.specs.declared.answer.NamedNode.{NamedNode}
use Rattle.reply_bodies.specs.Objects.{json_text}
use Rattle.reply_bodies.specs.Replies.{entries_data}
use Rattle.entries_back.specs.Entries.{entries_of}

-- 64 bits, with a sign
abbrev pub IsLong : ℤ → Type 0
IsLong (pos n) = n < 2 ^ 63
IsLong (negsuc n) = n < 2 ^ 63

pub record AreAttributes (attr : Attributes) : Type 0 where
  pub mode : attr.mode ≤ 4095
  pub uid : attr.uid < 2 ^ 32
  pub gid : attr.gid < 2 ^ 32
  pub mtime : IsLong attr.mtime
  pub nanos : attr.nanos ≤ 999999999

abbrev pub IsNode : Node → Type 0
IsNode (File file) = AreAttributes file.attr × (file.group < 2 ^ 32) × (file.size < 2 ^ 64)
IsNode (Dir dir) = AreAttributes dir.attr
IsNode (Link link) = AreAttributes link.attr × (is_link_target link.target ≡ true)

abbrev pub IsEntry : NamedNode → Type 0
IsEntry entry = (broken_path_rule entry.name ≡ None) × IsNode entry.node

-- the body of a directory's listing is read as its entries
abbrev pub EntriesReadBack : Type 0
EntriesReadBack = (entries : List NamedNode) → AllByRecursion IsEntry entries → entries_of (json_text (entries_data entries)) ≡ Some entries
