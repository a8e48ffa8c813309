-- What is wrong with a certificate: the offsets of the fields that don't hold, in the order of the bytes. These are
--     the count of an item, where it isn't how often the lists of its host name its id
--     an id in a list, where its host has no item of it, or the pool no file
--     a digest that was found, where it isn't the one that its file is named by
use Rattle.std.specs.Prelude.{ℕ, ◌+◌, ◌*◌, ◌==◌, Bool, not, ◌||◌, List, [], ◌∷◌, ◌++◌, length, take, map, nat_eq, if◌then◌else◌}
use Rattle.std.specs.Cmp.Lexicographic.{pointwise}
use Rattle.std.specs.Int.{w8}
use Rattle.wire_bytes.specs.Layout.{text_bytes}
use Rattle.wire_bytes.specs.Breaks.{items_bytes}
use Rattle.certificates.specs.Certificate.{Id, Table, Item, HostPart, PoolFile, Certificate}
use Rattle.certificates.specs.Layout.{table_grammar, host_grammar}

-- whether two lists of bytes are one
abbrev pub is_same : List ℕ → List ℕ → Bool
is_same = pointwise nat_eq

-- how often ids have an id among them
abbrev pub number_of : Id → List Id → ℕ
number_of id [] = 0
number_of id (x ∷ xs) = (if is_same id x then 1 else 0) + number_of id xs

-- how often tables name an id
abbrev pub number_in : Id → List Table → ℕ
number_in id [] = 0
number_in id (table ∷ tables) = number_of id table.ids + number_in id tables

-- how often the lists of a host name an id
abbrev pub occurrences : HostPart → Id → ℕ
occurrences host id = number_in id host.tables + number_of id host.partial

abbrev pub ids_of_items : List Item → List Id
ids_of_items items = map (λ item. item.id) items

abbrev pub ids_of_files : List PoolFile → List Id
ids_of_files files = map (λ file. file.id) files

-- an id that isn't among those of a host's items, or not among those of the pool
abbrev pub is_unknown : List Id → List Id → Id → Bool
is_unknown items pool id = (number_of id items == 0) || (number_of id pool == 0)

-- an item whose count isn't the number of its id
abbrev pub is_miscounted : (Id → ℕ) → Item → Bool
is_miscounted numbers item = not (item.count == numbers item.id)

-- a file that is named by another digest than was found in it
abbrev pub is_misfound : PoolFile → Bool
is_misfound file = not (is_same (take 16 file.id) file.found)

-- The offsets at which the things of a list are wrong: the first stands at an offset, and each other so many bytes behind the one before it.
abbrev pub wrong : {A : Type 0} → (A → Bool) → ℕ → ℕ → List A → List ℕ
wrong is_wrong size at [] = []
wrong is_wrong size at (x ∷ xs) =
    if is_wrong x then at ∷ wrong is_wrong size (at + size) xs else wrong is_wrong size (at + size) xs

-- those of the ids of tables; a table's ids stand behind its number and theirs
abbrev pub tables_faults : (Id → Bool) → ℕ → List Table → List ℕ
tables_faults is_wrong at [] = []
tables_faults is_wrong at (table ∷ tables) =
    wrong is_wrong 18 (at + 8) table.ids ++ tables_faults is_wrong (at + length (table_grammar.print table)) tables

-- where the tables, the partial's ids and the items of a host begin that stands at an offset: each behind a number
abbrev pub tables_at : ℕ → HostPart → ℕ
tables_at at host = at + length (text_bytes w8 host.name) + 8

abbrev pub partial_at : ℕ → HostPart → ℕ
partial_at at host = tables_at at host + length (items_bytes table_grammar.print host.tables) + 4

abbrev pub items_at : ℕ → HostPart → ℕ
items_at at host = partial_at at host + 18 * length host.partial + 8

-- those of a host that stands at an offset; an item's count stands behind its id
abbrev pub host_faults : List Id → ℕ → HostPart → List ℕ
host_faults pool at host =
    tables_faults (is_unknown (ids_of_items host.items) pool) (tables_at at host) host.tables
    ++ (wrong (is_unknown (ids_of_items host.items) pool) 18 (partial_at at host) host.partial
    ++ wrong (is_miscounted (occurrences host)) 26 (items_at at host + 18) host.items)

abbrev pub hosts_faults : List Id → ℕ → List HostPart → List ℕ
hosts_faults pool at [] = []
hosts_faults pool at (host ∷ hosts) = host_faults pool at host ++ hosts_faults pool (at + length (host_grammar.print host)) hosts

-- The hosts stand behind the magic, the epoch and their number; the pool's files behind the hosts and their number; what was found in a
-- file behind its id and its size.
abbrev pub pool_at : Certificate → ℕ
pool_at c = 16 + length (items_bytes host_grammar.print c.hosts) + 8

abbrev pub faults : Certificate → List ℕ
faults c = hosts_faults (ids_of_files c.pool) 16 c.hosts ++ wrong is_misfound 43 (pool_at c + 26) c.pool
