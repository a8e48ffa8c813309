-- What a catalog keeps in memory beside the indices of its hosts.
use Rattle.std.specs.Prelude.{◌≡◌, ◌≤◌, ℕ, List, length, map, vec_capacity}
use Rattle.std.specs.Global.{Vec}
use Rattle.std.specs.FinMap.Entries.{find}
use Rattle.ordered_lists.specs.Order.{IsInOrder}
use Rattle.backup_index.specs.Index.{Index}
use Rattle.office_catalog.specs.declared.named.NamedHost.{NamedHost}
use Rattle.office_catalog.specs.Known.{IsCatalog, names_of, host_named}
use Rattle.office_catalog.specs.Named.{name_cmp, entry_of}

-- the hosts in the order of their names tell the number of each name
pub record AreByName (names : List (List ℕ)) (entries : List (List ℕ × ℕ)) : Type 0 where
  pub in_order : IsInOrder name_cmp entries
  pub finds : (name : List ℕ) → find name_cmp name entries ≡ host_named names name
  pub counted : length entries ≡ length names

pub record IsKept (hosts : Vec Index) (named : Vec NamedHost) : Type 0 where
  pub are : IsCatalog hosts.items
  pub by_name : AreByName (names_of hosts.items) (map entry_of named.items)
  pub room : 1024 ≤ vec_capacity hosts
  pub room_for_names : 1024 ≤ vec_capacity named
