-- What the query of a put says of its item.
--     item_kind_of      its kind
--     attributes_in, group_in      its attributes, and the group of a file
use Rattle.std.specs.Prelude.{ℕ, pos, ◌-◌, ◌^◌, List, codes, Option, Some, None, bytes_eq, if◌then◌else◌, option_and_then}
use Rattle.std.specs.Option.{option_map}
use Rattle.attr_records.specs.Attributes.{Attributes}
use Rattle.http_query.specs.declared.keys.QueryRule.TheVariants.{Value}
use Rattle.http_query.specs.Numbers.{number_of, mode_of, seconds_of}
use Rattle.http_query.specs.Query.{Pair}
use Rattle.request_events.specs.declared.refusal.RequestRefusal.TheVariants.{BadQuery}
use Rattle.request_events.specs.declared.items.ItemKind.{ItemKind}
use Rattle.request_events.specs.declared.items.ItemKind.TheVariants.{File, Dir, Link}
use Rattle.request_events.specs.Said.{Said, or_refuse}
use Rattle.request_events.specs.Values.{value_or}

abbrev pub item_kind_of : List ℕ → Option ItemKind
item_kind_of text =
    if bytes_eq text (codes "file") then Some File
    else if bytes_eq text (codes "dir") then Some Dir
    else if bytes_eq text (codes "link") then Some Link
    else None

-- a number of 32 bits, or 0
abbrev pub number_or : List ℕ → List Pair → Option ℕ
number_or key pairs = value_or (number_of (2 ^ 32 - 1)) 0 key pairs

-- nanoseconds of a second, or 0
abbrev pub nanos_or : List Pair → Option ℕ
nanos_or pairs = value_or (number_of 999999999) 0 (codes "nanos") pairs

-- 0644, 0755, 0777
abbrev pub default_mode : ItemKind → ℕ
default_mode File = 420
default_mode Dir = 493
default_mode Link = 511

-- each attribute has its default where its key is absent
unfoldable pub attributes_of : ItemKind → List Pair → Option Attributes
attributes_of kind pairs =
    option_and_then (λ mode. option_and_then (λ uid. option_and_then (λ gid. option_and_then (λ mtime. option_map
    (λ nanos. record { mode = mode; uid = uid; gid = gid; mtime = mtime; nanos = nanos })
    (nanos_or pairs))
    (value_or seconds_of (pos 0) (codes "mtime") pairs))
    (number_or (codes "gid") pairs))
    (number_or (codes "uid") pairs))
    (value_or mode_of (default_mode kind) (codes "mode") pairs)

abbrev pub attributes_in : ItemKind → List Pair → Said Attributes
attributes_in kind pairs = or_refuse (BadQuery Value) (attributes_of kind pairs)

-- the group of a file; no other kind has the key
abbrev pub group_in : List Pair → Said ℕ
group_in pairs = or_refuse (BadQuery Value) (number_or (codes "group") pairs)
