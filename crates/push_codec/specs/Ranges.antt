-- The ranges of a push's events, as tests: what the program's types hold.
--     is_ranged      an event's numbers have their bits, and its names keep their rules
use Rattle.std.specs.Prelude.{ℕ, ℤ, pos, negsuc, ◌^◌, nat_lt, nat_le, Bool, true, ◌&&◌, List, Option, Some, None, is_none}
use Rattle.attr_records.specs.Attributes.{Attributes}
use Rattle.attr_records.specs.Names.{is_host_name, is_link_target}
use Rattle.attr_records.specs.PathRules.{broken_path_rule}
use Rattle.attr_records.specs.declared.nodes.Item.{Item}
use Rattle.attr_records.specs.declared.nodes.Item.TheVariants.{File, Dir, Link}
use Rattle.office_model.specs.declared.event.Event.{Event}
use Rattle.office_model.specs.declared.event.Event.TheVariants as E
use Rattle.office_model.specs.declared.event.PutItem.{PutItem}
use Rattle.office_model.specs.declared.event.PutItem.TheVariants.{Whole, Staged}
use Rattle.pull_codec.specs.Codec.{is_session}

-- 64 bits, with a sign
abbrev pub is_long : ℤ → Bool
is_long (pos n) = nat_lt n (2 ^ 63)
is_long (negsuc n) = nat_lt n (2 ^ 63)

abbrev pub are_attributes : Attributes → Bool
are_attributes attr =
    nat_le attr.mode 4095 && (nat_lt attr.uid (2 ^ 32) && (nat_lt attr.gid (2 ^ 32) && (is_long attr.mtime && nat_le attr.nanos 999999999)))

abbrev pub is_item : Item → Bool
is_item (File file) = are_attributes file.attr && nat_lt file.group (2 ^ 32)
is_item (Dir dir) = are_attributes dir.attr
is_item (Link link) = are_attributes link.attr && is_link_target link.target

abbrev pub is_path : List ℕ → Bool
is_path path = is_none (broken_path_rule path)

-- the path of a directory, or the root
abbrev pub is_place : Option (List ℕ) → Bool
is_place None = true
is_place (Some path) = is_path path

-- what is put; of what a stage holds nothing is asked
abbrev pub is_put : PutItem → Bool
is_put (Whole item) = is_item item
is_put (Staged file) = true

abbrev pub is_ranged : Event → Bool
is_ranged (E.OpenDump host kind now token) = is_host_name host
is_ranged (E.Put dump path item token) = is_session dump && (is_path path && is_put item)
is_ranged (E.Remove dump path token) = is_session dump && is_path path
is_ranged (E.Commit dump now) = is_session dump
is_ranged (E.Abort dump) = is_session dump
is_ranged (E.Backups host) = is_host_name host
is_ranged (E.List host number directory) = is_host_name host && (nat_lt number (2 ^ 32) && is_place directory)
is_ranged event = true
