-- The file of a real name.
use Rattle.std.specs.Prelude.{◌≡◌, ℕ, ◌-◌, ◌^◌, ◌<◌, ⊤, List, take, drop, length, Option, Some, None, Ok, Err, Result, codes, if◌then◌else◌, bytes_eq, option_and_then}
use Rattle.std.specs.Option.{option_map, option_map_or}
use Rattle.hex.specs.Hex.{encode_lower, decode_sized, IsBytes}
use Rattle.hex.specs.declared.error.FromHexError.{FromHexError}
use Rattle.disk_trait.specs.declared.ids.PoolId.{PoolId}
use Rattle.disk_trait.specs.declared.ids.FileId.{FileId}
use Rattle.disk_trait.specs.declared.ids.FileId.TheVariants.{Head, Intent, Gate, Host, Table, Counts, PoolIndex, PoolBucket, Partial, Pool, Stage}
use Rattle.file_names.specs.Words.{stripped, field, number_of, ◌>>=◌}

-- numbers that fit their types, and a digest of 16 bytes
abbrev pub IsFile : FileId → Type 0
IsFile Head = ⊤
IsFile Intent = ⊤
IsFile Gate = ⊤
IsFile (Host host) = host < 2 ^ 32
IsFile (Table host number) = (host < 2 ^ 32) × (number < 2 ^ 32)
IsFile (Counts host) = host < 2 ^ 32
IsFile PoolIndex = ⊤
IsFile (PoolBucket byte) = byte < 2 ^ 8
IsFile (Partial host) = host < 2 ^ 32
IsFile (Pool id) = (length id.digest ≡ 16) × IsBytes id.digest × (id.extension < 2 ^ 16)
IsFile (Stage number) = number < 2 ^ 64

-- a digest, if these are its lower-case hexadecimal digits
abbrev pub lower_of : List ℕ → List ℕ → Option (List ℕ)
lower_of digits digest = if bytes_eq digits (encode_lower digest) then Some digest else None

abbrev pub digest_read : List ℕ → Result (List ℕ) FromHexError → Option (List ℕ)
digest_read digits (Ok digest) = lower_of digits digest
digest_read digits (Err fault) = None

-- the bytes that 32 lower-case hexadecimal digits write
unfoldable pub digest_of : List ℕ → Option (List ℕ)
digest_of digits = digest_read digits (decode_sized digits 16)

-- the content of a digest and an extension behind `-`
unfoldable pub extended : List ℕ → List ℕ → Option FileId
extended digest text = do
  rest ← stripped (codes "-") text
  extension ← number_of (2 ^ 16 - 1) rest
  Some (Pool (record { digest = digest; extension = extension }))

-- the content of a digest in 32 digits, `-`, and an extension
unfoldable pub content_of : List ℕ → Option FileId
content_of text = do
  digest ← digest_of (take 32 text)
  extended digest (drop 32 text)

-- the table of a host and a number
unfoldable pub table_of : List ℕ → Option FileId
table_of text = do
  parts ← field (codes "-") text
  host ← number_of (2 ^ 32 - 1) parts.0
  number ← number_of (2 ^ 32 - 1) parts.1
  Some (Table host number)

-- the file of a prefix and what follows it, or else another
abbrev pub by_prefix : List ℕ → (List ℕ → Option FileId) → Option FileId → List ℕ → Option FileId
by_prefix prefix read other name = option_map_or read (stripped prefix name) other

-- the files of one number
abbrev pub numbered : ℕ → (ℕ → FileId) → List ℕ → Option FileId
numbered most file text = option_map file (number_of most text)

-- a file of the pool
unfoldable pub pool_file_of : List ℕ → Option FileId
pool_file_of name =
    if bytes_eq name (codes "index") then Some PoolIndex
    else by_prefix (codes "index-") (numbered (2 ^ 8 - 1) PoolBucket) (content_of name) name

-- a partial dump of a host, or a stage
unfoldable pub other_file_of : List ℕ → Option FileId
other_file_of name =
    by_prefix (codes "partial-") (numbered (2 ^ 32 - 1) Partial) (by_prefix (codes "stage-") (numbered (2 ^ 64 - 1) Stage) None name) name

-- a file of one host, or another of one number
unfoldable pub host_file_of : List ℕ → Option FileId
host_file_of name =
    by_prefix (codes "host-") (numbered (2 ^ 32 - 1) Host) (by_prefix (codes "counts-") (numbered (2 ^ 32 - 1) Counts) (other_file_of name) name) name

-- the file of a real name, None where no file has it
unfoldable pub file_of : List ℕ → Option FileId
file_of name =
    if bytes_eq name (codes "head") then Some Head
    else if bytes_eq name (codes "intent") then Some Intent
    else if bytes_eq name (codes "gate") then Some Gate
    else by_prefix (codes "table-") table_of (by_prefix (codes "pool-") pool_file_of (host_file_of name) name) name
