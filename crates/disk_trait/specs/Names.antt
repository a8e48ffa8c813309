-- Names of files: which are one, which kind each is of, and what each is called.
use Rattle.std.specs.Prelude.{ℕ, Bool, true, false, List, [], ◌∷◌, ◌++◌, if◌then◌else◌, ◌==◌, bytes_eq, slice_index, drop, codes}
use Rattle.std.specs.Fmt.{decimal}
use Rattle.hex.specs.Hex.{encode_lower}
use Rattle.disk_trait.specs.declared.ids.PoolId.{PoolId}
use Rattle.disk_trait.specs.declared.ids.FileId.{FileId}
use Rattle.disk_trait.specs.declared.ids.FileId.TheVariants.{Head, Intent, Gate, Host, Table, Counts, PoolIndex, PoolBucket, Partial, Pool, Stage}

-- a file's name as numbers: its kind, then what tells files of that kind apart
abbrev pub file_key : FileId → List ℕ
file_key Head = 1 ∷ []
file_key Intent = 2 ∷ []
file_key Gate = 3 ∷ []
file_key (Host host) = 4 ∷ host ∷ []
file_key (Table host number) = 5 ∷ host ∷ number ∷ []
file_key (Counts host) = 6 ∷ host ∷ []
file_key PoolIndex = 7 ∷ []
file_key (PoolBucket byte) = 8 ∷ byte ∷ []
file_key (Partial host) = 9 ∷ host ∷ []
file_key (Pool id) = 10 ∷ id.extension ∷ id.digest
file_key (Stage number) = 11 ∷ number ∷ []

abbrev pool_id : ℕ → List ℕ → PoolId
pool_id extension digest = record { digest = digest; extension = extension }

-- the file of these numbers
abbrev pub file_at : List ℕ → FileId
file_at key =
    if slice_index key 0 == 2 then Intent
    else if slice_index key 0 == 3 then Gate
    else if slice_index key 0 == 4 then Host (slice_index key 1)
    else if slice_index key 0 == 5 then Table (slice_index key 1) (slice_index key 2)
    else if slice_index key 0 == 6 then Counts (slice_index key 1)
    else if slice_index key 0 == 7 then PoolIndex
    else if slice_index key 0 == 8 then PoolBucket (slice_index key 1)
    else if slice_index key 0 == 9 then Partial (slice_index key 1)
    else if slice_index key 0 == 10 then Pool (pool_id (slice_index key 1) (drop 2 key))
    else if slice_index key 0 == 11 then Stage (slice_index key 1)
    else Head

-- contents of the pool and stages, which are not part of what a commit writes
abbrev pub is_data : FileId → Bool
is_data Head = false
is_data Intent = false
is_data Gate = false
is_data (Host host) = false
is_data (Table host number) = false
is_data (Counts host) = false
is_data PoolIndex = false
is_data (PoolBucket byte) = false
is_data (Partial host) = false
is_data (Pool id) = true
is_data (Stage number) = true

-- the files that say what a store keeps, which a commit writes
abbrev pub is_metadata : FileId → Bool
is_metadata Head = true
is_metadata Intent = false
is_metadata Gate = false
is_metadata (Host host) = true
is_metadata (Table host number) = true
is_metadata (Counts host) = true
is_metadata PoolIndex = true
is_metadata (PoolBucket byte) = true
is_metadata (Partial host) = true
is_metadata (Pool id) = false
is_metadata (Stage number) = false

-- a content's name: its digest in lower-case hexadecimal digits, and its extension in decimal
abbrev pub content_name : PoolId → List ℕ
content_name id = encode_lower id.digest ++ (codes "-" ++ decimal id.extension)

-- a file's real name
abbrev pub real_name : FileId → List ℕ
real_name Head = codes "head"
real_name Intent = codes "intent"
real_name Gate = codes "gate"
real_name (Host host) = codes "host-" ++ decimal host
real_name (Table host number) = codes "table-" ++ (decimal host ++ (codes "-" ++ decimal number))
real_name (Counts host) = codes "counts-" ++ decimal host
real_name PoolIndex = codes "pool-index"
real_name (PoolBucket byte) = codes "pool-index-" ++ decimal byte
real_name (Partial host) = codes "partial-" ++ decimal host
real_name (Pool id) = codes "pool-" ++ content_name id
real_name (Stage number) = codes "stage-" ++ decimal number

-- whether two names are one
unfoldable pub is_same_file : FileId → FileId → Bool
is_same_file a b = bytes_eq (file_key a) (file_key b)
