-- What the calls that write a certificate leave in a buffer, in the order in which they are made.
use Rattle.std.specs.Prelude.{ℕ, List, [], ◌∷◌, ◌++◌, length}
use Rattle.std.specs.Int.{w8, w32, w64}
use Rattle.wire_bytes.specs.Layout.{number_bytes, text_bytes}
use Rattle.wire_bytes.specs.Seal.{sealed}
use Rattle.certificates.specs.Certificate.{Table, Item, HostPart, PoolFile, Certificate}
use Rattle.certificates.specs.Layout.{certificate_magic, ids_bytes, item_bytes, file_bytes}

-- one thing of a list after the other
abbrev pub each_put : {A : Type 0} → (List ℕ → A → List ℕ) → List ℕ → List A → List ℕ
each_put put out [] = out
each_put put out (x ∷ xs) = each_put put (put out x) xs

-- put_head
abbrev pub head_put : List ℕ → ℕ → ℕ → List ℕ
head_put out epoch hosts = out ++ (certificate_magic ++ (number_bytes w64 epoch ++ number_bytes w32 hosts))

-- put_u64
abbrev pub count_put : List ℕ → ℕ → List ℕ
count_put out count = out ++ number_bytes w64 count

-- put_table
abbrev pub table_put : List ℕ → Table → List ℕ
table_put out table = out ++ (number_bytes w32 table.number ++ ids_bytes table.ids)

-- put_item
abbrev pub item_put : List ℕ → Item → List ℕ
item_put out item = out ++ item_bytes item

-- put_file
abbrev pub file_put : List ℕ → PoolFile → List ℕ
file_put out file = out ++ file_bytes file

-- put_text8, put_u64, the tables
abbrev pub tables_put : List ℕ → HostPart → List ℕ
tables_put out host = each_put table_put (count_put (out ++ text_bytes w8 host.name) (length host.tables)) host.tables

-- these, put_ids, put_u64, the items
abbrev pub host_put : List ℕ → HostPart → List ℕ
host_put out host = each_put item_put (count_put (tables_put out host ++ ids_bytes host.partial) (length host.items)) host.items

-- put_head, the hosts
abbrev pub hosts_put : List ℕ → Certificate → List ℕ
hosts_put out c = each_put host_put (head_put out c.epoch (length c.hosts)) c.hosts

-- these, put_u64, the files
abbrev pub certificate_put : List ℕ → Certificate → List ℕ
certificate_put out c = each_put file_put (count_put (hosts_put out c) (length c.pool)) c.pool

-- all of them, and the seal
abbrev pub written : Certificate → List ℕ
written c = sealed (certificate_put [] c)
