-- The layout of a certificate: `RCK1`, the epoch, the hosts behind their number, the pool's files behind their number. Tables rise by
-- number, items and the pool's files by id.
use Rattle.std.specs.Prelude.{◌≡◌, ℕ, Bool, true, List, [], ◌∷◌, ◌++◌, length, Option, Some, None}
use Rattle.std.specs.declared.cmp.Ordering.{Ordering}
use Rattle.std.specs.Ordering.{nat_cmp, is_lt}
use Rattle.std.specs.Cmp.Lexicographic.{slice_cmp}
use Rattle.std.specs.Int.{w8, w32, w64}
use Rattle.std.specs.List.{AllByRecursion}
use Rattle.std.proofs.Common.{refl}
use Rattle.wire_bytes.specs.Layout.{number_bytes, IsNumber, text_bytes, IsText, flag_bytes, HasLength}
use Rattle.wire_bytes.specs.Seal.{sealed}
use Rattle.wire_bytes.specs.Breaks.{items_bytes}
use Rattle.wire_bytes.specs.Grammar.{Grammar, field, number, magic, followed_by, Sees, seen_as, counted}
use Rattle.certificates.specs.Certificate.{Id, Table, Item, HostPart, PoolFile, Certificate}

-- the key of the last of a list, if there is one
abbrev pub last_key : {A K : Type 0} → (A → K) → List A → Option K
last_key key [] = None
last_key key (x ∷ []) = Some (key x)
last_key key (x ∷ y ∷ xs) = last_key key (y ∷ xs)

-- whether a key comes after another, if there is one
abbrev pub is_after : {K : Type 0} → (K → K → Ordering) → Option K → K → Bool
is_after cmp None key = true
is_after cmp (Some last) key = is_lt (cmp last key)

-- a thing that fits behind others: one that fits, with a key above the last one's
pub record IsNext {A K : Type 0} (Fits : A → Type 0) (cmp : K → K → Ordering) (key : A → K) (before : List A) (x : A) : Type 0 where
  pub is : Fits x
  pub next : is_after cmp (last_key key before) (key x) ≡ true

-- the order of ids: byte by byte
abbrev pub id_cmp : Id → Id → Ordering
id_cmp = slice_cmp nat_cmp

-- ---- ids

abbrev pub one_id_bytes : Id → List ℕ
one_id_bytes id = id

abbrev pub ids_bytes : List Id → List ℕ
ids_bytes ids = number_bytes w32 (length ids) ++ items_bytes one_id_bytes ids

pub record AreIds (ids : List Id) : Type 0 where
  pub count : IsNumber w32 (length ids)
  pub each : AllByRecursion (HasLength 18) ids

-- ---- tables

abbrev pub table_parts : Grammar (ℕ × List Id)
table_parts = followed_by (number w32 (IsNumber w32)) (λ _. field AreIds ids_bytes)

pub table_sees : Sees table_parts (λ (t : Table). table_parts.Fits (t.number, t.ids)) (λ t. (t.number, t.ids))
    (λ p. record { number = p.0; ids = p.1 })
table_sees = record { fits = λ t fits. fits; made = λ t fits. refl; makes = λ p fits. fits; parted = λ p fits. refl }

-- number u32, number of ids u32, the ids
unfoldable pub table_grammar : Grammar Table
table_grammar = seen_as table_parts (λ t. table_parts.Fits (t.number, t.ids)) (λ t. (t.number, t.ids)) (λ p. record { number = p.0; ids = p.1 })
    table_sees

abbrev pub IsNextTable : List Table → Table → Type 0
IsNextTable = IsNext table_grammar.Fits nat_cmp (λ t. t.number)

-- ---- items

-- id, count u64
unfoldable pub item_bytes : Item → List ℕ
item_bytes item = item.id ++ number_bytes w64 item.count

pub record IsItem (item : Item) : Type 0 where
  pub id : HasLength 18 item.id
  pub count : IsNumber w64 item.count

abbrev pub IsNextItem : List Item → Item → Type 0
IsNextItem = IsNext IsItem id_cmp (λ item. item.id)

-- ---- hosts

abbrev pub tables_grammar : Grammar (List Table)
tables_grammar = counted w64 (IsNumber w64) IsNextTable table_grammar.print

abbrev pub items_grammar : Grammar (List Item)
items_grammar = counted w64 (IsNumber w64) IsNextItem item_bytes

abbrev pub host_parts : Grammar (List ℕ × (List Table × (List Id × List Item)))
host_parts = followed_by (field (IsText w8) (text_bytes w8)) (λ _. followed_by tables_grammar (λ _. followed_by (field AreIds ids_bytes)
    (λ _. items_grammar)))

abbrev pub parts_of_host : HostPart → List ℕ × (List Table × (List Id × List Item))
parts_of_host host = (host.name, (host.tables, (host.partial, host.items)))

abbrev pub host_of_parts : List ℕ × (List Table × (List Id × List Item)) → HostPart
host_of_parts p = record { name = p.0; tables = p.1.0; partial = p.1.1.0; items = p.1.1.1 }

pub host_sees : Sees host_parts (λ host. host_parts.Fits (parts_of_host host)) parts_of_host host_of_parts
host_sees = record { fits = λ h fits. fits; made = λ h fits. refl; makes = λ p fits. fits; parted = λ p fits. refl }

-- name t8, the tables behind their number u64, the partial's ids behind theirs u32, the items behind theirs u64
unfoldable pub host_grammar : Grammar HostPart
host_grammar = seen_as host_parts (λ host. host_parts.Fits (parts_of_host host)) parts_of_host host_of_parts host_sees

-- ---- files of the pool

-- id, size u64, the digest that was found, mark flag
unfoldable pub file_bytes : PoolFile → List ℕ
file_bytes file = file.id ++ (number_bytes w64 file.size ++ (file.found ++ flag_bytes file.mark))

pub record IsFile (file : PoolFile) : Type 0 where
  pub id : HasLength 18 file.id
  pub size : IsNumber w64 file.size
  pub found : HasLength 16 file.found

abbrev pub IsNextFile : List PoolFile → PoolFile → Type 0
IsNextFile = IsNext IsFile id_cmp (λ file. file.id)

-- ---- the whole

-- RCK1
abbrev pub certificate_magic : List ℕ
certificate_magic = 82 ∷ 67 ∷ 75 ∷ 49 ∷ []

abbrev pub hosts_grammar : Grammar (List HostPart)
hosts_grammar = counted w32 (IsNumber w32) (λ _. host_grammar.Fits) host_grammar.print

abbrev pub pool_grammar : Grammar (List PoolFile)
pool_grammar = counted w64 (IsNumber w64) IsNextFile file_bytes

abbrev pub certificate_parts : Grammar (Unit {0} × (ℕ × (List HostPart × List PoolFile)))
certificate_parts = followed_by (magic certificate_magic) (λ _. followed_by (number w64 (IsNumber w64)) (λ _. followed_by hosts_grammar
    (λ _. pool_grammar)))

abbrev pub parts_of : Certificate → Unit {0} × (ℕ × (List HostPart × List PoolFile))
parts_of c = (tt, (c.epoch, (c.hosts, c.pool)))

abbrev pub of_parts : Unit {0} × (ℕ × (List HostPart × List PoolFile)) → Certificate
of_parts p = record { epoch = p.1.0; hosts = p.1.1.0; pool = p.1.1.1 }

pub certificate_sees : Sees certificate_parts (λ c. certificate_parts.Fits (parts_of c)) parts_of of_parts
certificate_sees = record { fits = λ c fits. fits; made = λ c fits. refl; makes = λ p fits. fits; parted = λ p fits. refl }

-- the body of a certificate
unfoldable pub certificate_grammar : Grammar Certificate
certificate_grammar = seen_as certificate_parts (λ c. certificate_parts.Fits (parts_of c)) parts_of of_parts certificate_sees

-- the bytes of a certificate
abbrev pub certificate_file : Certificate → List ℕ
certificate_file c = sealed (certificate_grammar.print c)
