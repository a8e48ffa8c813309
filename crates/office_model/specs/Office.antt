-- The office: hosts with their backups, the pool, the open dumps, restores, stages and readers. Trees are whole.
use Rattle.std.specs.Prelude.{◌≡◌, ◌≢◌, ℕ, ◌+◌, ◌-◌, ◌<◌, ◌≤◌, ◌^◌, Bool, true, false, not, List, [], length, Option, Some, IfSome, ◌==◌, ◌||◌, slice_get, bytes_eq}
use Rattle.std.specs.List.{position_from, list_any, filter}
use Rattle.std.specs.Option.{option_and_then, option_map_or}
use Rattle.attr_records.specs.Items.{Tree, is_dir, some_bytes}
use Rattle.attr_records.specs.Trees as Trees
use Rattle.ordered_lists.specs.Order.{IsInOrder}
use Rattle.backup_rules.specs.declared.lines.Kind.{Kind}
use Rattle.backup_rules.specs.declared.lines.Line.{Line}
use Rattle.backup_rules.specs.Values.{RuleSet}
use Rattle.disk_trait.specs.declared.ids.PoolId.{PoolId}
use Rattle.receipts.specs.declared.session.SessionName.{SessionName}
use Rattle.receipts.specs.declared.session.Token.{Token}
use Rattle.receipts.specs.declared.receipt.Receipt.{Receipt}
use Rattle.receipts.specs.Receipts.{receipt_limit}
use Rattle.receipts.specs.Session.{is_same_session}
use Rattle.office_model.specs.Places.{AtEach, Differ}
use Rattle.office_model.specs.Pool.{Pool, byte_cmp, is_pooled, is_same_content, holds}
use Rattle.office_model.specs.Ids.{Ids}

pub record Backup : Type 0 where
  pub line : Line
  pub tree : Tree

-- a dump that may be gone on with: its kind, its start and its tree
pub record Partial : Type 0 where
  pub kind : Kind
  pub start : ℕ
  pub tree : Tree

-- good and bad count contacts; next is the number of the next backup; receipts are those of the last 256 commits that gave one, the
-- oldest first, and outlive the backups
pub record Host : Type 0 where
  pub name : List ℕ
  pub rules : RuleSet
  pub good : ℕ
  pub bad : ℕ
  pub next : ℕ
  pub backups : List Backup
  pub partial : Option Partial
  pub receipts : List Receipt

-- an open dump of the host at this index in order of adding, which began with the tree base: the token that it was opened with, if it was
-- with one, and those of its puts and removals, in the order of these
pub record Dump : Type 0 where
  pub name : SessionName
  pub host : ℕ
  pub kind : Kind
  pub start : ℕ
  pub base : Tree
  pub tree : Tree
  pub token : Option Token
  pub kept : List Token

-- an open restore, of what leads from the base, if it has one, to the tree; its position is the number of frames that were given
pub record Restore : Type 0 where
  pub name : SessionName
  pub tree : Tree
  pub base : Option Tree
  pub position : ℕ

-- an open stage of the open dump of this name, with the bytes that came
pub record Stage : Type 0 where
  pub number : ℕ
  pub dump : SessionName
  pub bytes : List ℕ

-- an open reader of a file's bytes; its position is the number of bytes that were given
pub record Reader : Type 0 where
  pub number : ℕ
  pub content : List ℕ
  pub position : ℕ

-- what the disk keeps: hosts in order of adding, the pool, and the ids of its contents
pub record Durable : Type 0 where
  pub epoch : ℕ
  pub hosts : List Host
  pub pool : Pool
  pub ids : Ids

-- what is open in this epoch: dumps, restores, stages and readers in order of opening, and the number of the next session
pub record Volatile : Type 0 where
  pub dumps : List Dump
  pub restores : List Restore
  pub stages : List Stage
  pub readers : List Reader
  pub sequence : ℕ

pub record Office : Type 0 where
  pub durable : Durable
  pub open durable use *
  pub volatile : Volatile
  pub open volatile use *

-- how contents are named: the digest of each, and the names of pool files that are in use; the numbers of the next stage and of the
-- next reader, which no epoch sets back; and the hosts, by their indexes, that may have tables of the first layout
pub record Names : Type 0 where
  pub digest_of : List ℕ → List ℕ
  pub used : List PoolId
  pub next_stage : ℕ
  pub next_reader : ℕ
  pub old_hosts : List ℕ

abbrev pub blank : Durable
blank = record { epoch = 0; hosts = []; pool = []; ids = [] }

abbrev pub nothing_open : Volatile
nothing_open = record { dumps = []; restores = []; stages = []; readers = []; sequence = 0 }

-- in the next epoch
abbrev pub raised : Durable → Durable
raised kept = record kept { epoch = kept.epoch + 1 }

-- the office at the beginning of the next epoch
abbrev pub reopened : Durable → Office
reopened kept = record { durable = raised kept; volatile = nothing_open }

-- ---- an office with another part

abbrev pub with_hosts : Office → List Host → Office
with_hosts office hosts = record office { durable = record office.durable { hosts = hosts } }

abbrev pub with_pool : Office → Pool → Office
with_pool office pool = record office { durable = record office.durable { pool = pool } }

abbrev pub with_ids : Office → Ids → Office
with_ids office ids = record office { durable = record office.durable { ids = ids } }

abbrev pub with_dumps : Office → List Dump → Office
with_dumps office dumps = record office { volatile = record office.volatile { dumps = dumps } }

abbrev pub with_restores : Office → List Restore → Office
with_restores office restores = record office { volatile = record office.volatile { restores = restores } }

abbrev pub with_stages : Office → List Stage → Office
with_stages office stages = record office { volatile = record office.volatile { stages = stages } }

abbrev pub with_readers : Office → List Reader → Office
with_readers office readers = record office { volatile = record office.volatile { readers = readers } }

-- stages end with their dump
abbrev pub stages_left : SessionName → List Stage → List Stage
stages_left session stages = filter (λ stage. not (is_same_session stage.dump session)) stages

abbrev pub numbered_as : Office → ℕ → Office
numbered_as office sequence = record office { volatile = record office.volatile { sequence = sequence } }

-- the number of the next session rises
abbrev pub numbered : Office → Office
numbered office = numbered_as office (office.sequence + 1)

-- ---- look-ups

abbrev pub host_index : List Host → List ℕ → Option ℕ
host_index hosts name = position_from (λ host. bytes_eq host.name name) 0 hosts

abbrev pub dump_index : List Dump → SessionName → Option ℕ
dump_index dumps name = position_from (λ dump. is_same_session dump.name name) 0 dumps

abbrev pub dump_index_of_host : List Dump → ℕ → Option ℕ
dump_index_of_host dumps host = position_from (λ dump. dump.host == host) 0 dumps

abbrev pub restore_index : List Restore → SessionName → Option ℕ
restore_index restores name = position_from (λ restore. is_same_session restore.name name) 0 restores

abbrev pub stage_index : List Stage → ℕ → Option ℕ
stage_index stages number = position_from (λ stage. stage.number == number) 0 stages

abbrev pub reader_index : List Reader → ℕ → Option ℕ
reader_index readers number = position_from (λ reader. reader.number == number) 0 readers

abbrev pub backup_index : List Backup → ℕ → Option ℕ
backup_index backups number = position_from (λ backup. backup.line.number == number) 0 backups

-- ---- protected contents

abbrev pub partial_holds : Option Partial → List ℕ → Bool
partial_holds partial content = option_map_or (λ p. holds p.tree content) partial false

abbrev pub host_holds : Host → List ℕ → Bool
host_holds host content = list_any (λ backup. holds backup.tree content) host.backups || partial_holds host.partial content

abbrev pub in_hosts : List Host → List ℕ → Bool
in_hosts hosts content = list_any (λ host. host_holds host content) hosts

abbrev pub in_dumps : List Dump → List ℕ → Bool
in_dumps dumps content = list_any (λ dump. holds dump.tree content) dumps

abbrev pub in_bases : List Dump → List ℕ → Bool
in_bases dumps content = list_any (λ dump. holds dump.base content) dumps

abbrev pub in_restores : List Restore → List ℕ → Bool
in_restores restores content = list_any (λ restore. holds restore.tree content) restores

abbrev pub in_readers : List Reader → List ℕ → Bool
in_readers readers content = list_any (λ reader. is_same_content content (some_bytes reader.content)) readers

-- the pool or an open dump's tree has it
abbrev pub is_held : Pool → List Dump → List ℕ → Bool
is_held pool dumps content = is_pooled pool content || in_dumps dumps content

-- the bytes of a stage, if it is there and has some
abbrev pub stage_content : List Stage → ℕ → Option (List ℕ)
stage_content stages number = option_and_then (λ stage. some_bytes stage.bytes) (option_and_then (slice_get stages) (stage_index stages number))

-- ---- limits

abbrev pub number_limit : ℕ
number_limit = 2 ^ 32

abbrev pub host_limit : ℕ
host_limit = 1024

abbrev pub last_sequence : ℕ
last_sequence = 2 ^ 64 - 1

-- the most tokens that a dump keeps
abbrev pub token_limit : ℕ
token_limit = 1048576

-- the most bytes of one content
abbrev pub content_limit : ℕ
content_limit = 1099511627775

-- the most bytes of a file that one answer holds
abbrev pub answer_limit : ℕ
answer_limit = 67108864

-- the most bytes of a piece of a stage, and those of a part of a reader
unfoldable pub piece_limit : ℕ
piece_limit = 65536

-- ---- soundness, part by part

pub record IsTree (tree : Tree) : Type 0 where
  pub paths : Trees.IsTree is_dir tree
  pub few : length tree ≤ 1048576

-- numbers rise, and stay below the next one
pub record AreNumbered (next : ℕ) (backups : List Backup) : Type 0 where
  pub rise : (i j : ℕ) (a b : Backup) → i < j → slice_get backups i ≡ Some a → slice_get backups j ≡ Some b → a.line.number < b.line.number
  pub below : AtEach (λ (backup : Backup). backup.line.number < next) backups
  pub trees : AtEach (λ (backup : Backup). IsTree backup.tree) backups

-- and the newest is filled
pub record AreBackups (next : ℕ) (backups : List Backup) : Type 0 where
  pub numbered : AreNumbered next backups
  pub last_filled : (last : Backup) → slice_get backups (length backups - 1) ≡ Some last → last.line.filled ≡ true

-- at most 256 receipts of different tokens
pub record AreReceipts (receipts : List Receipt) : Type 0 where
  pub few : length receipts ≤ receipt_limit
  pub tokens_differ : Differ (λ (receipt : Receipt). receipt.token) receipts

pub record IsSoundHost (host : Host) : Type 0 where
  pub numbers : host.next ≤ number_limit
  pub backups : AreBackups host.next host.backups
  pub partial : IfSome host.partial (λ (partial : Partial). IsTree partial.tree)
  pub receipts : AreReceipts host.receipts

-- at most 1,024 hosts of different names
pub record AreHosts (hosts : List Host) : Type 0 where
  pub few : length hosts ≤ host_limit
  pub differ : Differ (λ (host : Host). host.name) hosts
  pub each : AtEach IsSoundHost hosts

-- a receipt that stands at this place among those of the host at this place
abbrev pub StandsAt : List Host → ℕ → ℕ → Receipt → Type 0
StandsAt hosts i n receipt = (host : Host) × (slice_get hosts i ≡ Some host) × (slice_get host.receipts n ≡ Some receipt)

-- what holds of each receipt of each host
abbrev pub AtEachReceipt : (Receipt → Type 0) → List Host → Type 0
AtEachReceipt P hosts = (i n : ℕ) (receipt : Receipt) → StandsAt hosts i n receipt → P receipt

-- the names in receipts, of one host or of two, differ, and none is of a later epoch
pub record AreEnded (epoch : ℕ) (hosts : List Host) : Type 0 where
  pub differ : (i j m n : ℕ) (a b : Receipt) → StandsAt hosts i m a → StandsAt hosts j n b → a.name ≡ b.name → (i ≡ j) × (m ≡ n)
  pub up_to_now : AtEachReceipt (λ (receipt : Receipt). receipt.name.epoch ≤ epoch) hosts

-- a session of this epoch that was given out
pub record IsGiven (epoch sequence : ℕ) (name : SessionName) : Type 0 where
  pub this_epoch : name.epoch ≡ epoch
  pub given_out : name.sequence < sequence

-- the names of all open sessions differ, and each was given out
pub record AreSessions (epoch sequence : ℕ) (dumps : List Dump) (restores : List Restore) : Type 0 where
  pub dumps_given : AtEach (λ (dump : Dump). IsGiven epoch sequence dump.name) dumps
  pub restores_given : AtEach (λ (restore : Restore). IsGiven epoch sequence restore.name) restores
  pub dumps_differ : Differ (λ (dump : Dump). dump.name) dumps
  pub restores_differ : Differ (λ (restore : Restore). restore.name) restores
  pub apart : (i j : ℕ) (dump : Dump) (restore : Restore) → slice_get dumps i ≡ Some dump → slice_get restores j ≡ Some restore
      → dump.name ≡ restore.name → ⊥

-- a name in a receipt is no open session's, and, of this epoch, was given out
pub record IsOver (epoch sequence : ℕ) (dumps : List Dump) (restores : List Restore) (receipt : Receipt) : Type 0 where
  pub given : receipt.name.epoch ≡ epoch → receipt.name.sequence < sequence
  pub no_dump : AtEach (λ (dump : Dump). dump.name ≢ receipt.name) dumps
  pub no_restore : AtEach (λ (restore : Restore). restore.name ≢ receipt.name) restores

-- no receipt has this token
abbrev pub IsUnspent : List Receipt → Option Token → Type 0
IsUnspent receipts token = IfSome token (λ (token : Token). AtEach (λ (receipt : Receipt). receipt.token ≢ token) receipts)

-- an open dump's host is there, has a number left, and no receipt of the dump's token
pub record HasHost (hosts : List Host) (dump : Dump) : Type 0 where
  pub host : Host
  pub is_host : slice_get hosts dump.host ≡ Some host
  pub has_number : host.next < number_limit
  pub unspent : IsUnspent host.receipts dump.token

-- the contents of a tree are in the pool
abbrev pub IsPooledTree : Pool → Tree → Type 0
IsPooledTree pool tree = (content : List ℕ) → holds tree content ≡ true → is_pooled pool content ≡ true

abbrev pub ArePooledHosts : Pool → List Host → Type 0
ArePooledHosts pool hosts = AtEach (λ (host : Host). AtEach (λ (backup : Backup). IsPooledTree pool backup.tree) host.backups) hosts

abbrev pub IsPooledPartial : Pool → Host → Type 0
IsPooledPartial pool host = IfSome host.partial (λ (partial : Partial). IsPooledTree pool partial.tree)

-- what the disk keeps: its hosts with their receipts, and a pool that has the contents of their backups and partials
pub record IsSoundDurable (kept : Durable) : Type 0 where
  pub hosts : AreHosts kept.hosts
  pub pool_order : IsInOrder byte_cmp kept.pool
  pub of_backups : ArePooledHosts kept.pool kept.hosts
  pub of_partials : AtEach (IsPooledPartial kept.pool) kept.hosts
  pub ended : AreEnded kept.epoch kept.hosts

-- at most 1,048,576 tokens that differ
pub record AreKept (kept : List Token) : Type 0 where
  pub few : length kept ≤ token_limit
  pub differ : Differ (λ (token : Token). token) kept

-- open dumps by themselves: at most one of a host
pub record AreDumps (dumps : List Dump) : Type 0 where
  pub one_a_host : Differ (λ (dump : Dump). dump.host) dumps
  pub bases : AtEach (λ (dump : Dump). IsTree dump.base) dumps
  pub trees : AtEach (λ (dump : Dump). IsTree dump.tree) dumps
  pub tokens : AtEach (λ (dump : Dump). AreKept dump.kept) dumps

abbrev pub AreRestores : List Restore → Type 0
AreRestores restores = AtEach (λ (restore : Restore). IsTree restore.tree) restores

-- a stage's dump is open
pub record HasDump (dumps : List Dump) (stage : Stage) : Type 0 where
  pub index : ℕ
  pub dump : Dump
  pub is_dump : slice_get dumps index ≡ Some dump
  pub name : dump.name ≡ stage.dump

-- open stages are of open dumps, differ in their numbers, and have no more bytes than a content
pub record AreStages (dumps : List Dump) (stages : List Stage) : Type 0 where
  pub of_dumps : AtEach (HasDump dumps) stages
  pub numbers_differ : Differ (λ (stage : Stage). stage.number) stages
  pub fit : AtEach (λ (stage : Stage). length stage.bytes ≤ content_limit) stages

-- open readers differ in their numbers, and none gave more than there is
pub record AreReaders (readers : List Reader) : Type 0 where
  pub numbers_differ : Differ (λ (reader : Reader). reader.number) readers
  pub places : AtEach (λ (reader : Reader). reader.position ≤ length reader.content) readers

-- the numbers of open stages and readers were given out
pub record AreGivenOut (next_stage next_reader : ℕ) (now : Volatile) : Type 0 where
  pub stages : AtEach (λ (stage : Stage). stage.number < next_stage) now.stages
  pub readers : AtEach (λ (reader : Reader). reader.number < next_reader) now.readers

-- what is open, by itself
pub record IsSoundVolatile (epoch : ℕ) (now : Volatile) : Type 0 where
  pub sessions : AreSessions epoch now.sequence now.dumps now.restores
  pub dumps : AreDumps now.dumps
  pub restores : AreRestores now.restores
  pub stages : AreStages now.dumps now.stages
  pub readers : AreReaders now.readers

-- what a reader gives is in the pool, if it is not empty
abbrev pub IsPooledReader : Pool → Reader → Type 0
IsPooledReader pool reader = (content : List ℕ) → some_bytes reader.content ≡ Some content → is_pooled pool content ≡ true

-- the pool has the contents of bases, restores and readers
pub record IsPooledOpen (pool : Pool) (now : Volatile) : Type 0 where
  pub of_bases : AtEach (λ (dump : Dump). IsPooledTree pool dump.base) now.dumps
  pub of_restores : AtEach (λ (restore : Restore). IsPooledTree pool restore.tree) now.restores
  pub of_readers : AtEach (IsPooledReader pool) now.readers

-- what ties both: open dumps have their hosts, what is open is in the pool, and what has a receipt isn't open
pub record AreTied (kept : Durable) (now : Volatile) : Type 0 where
  pub hosted : AtEach (HasHost kept.hosts) now.dumps
  pub over : AtEachReceipt (IsOver kept.epoch now.sequence now.dumps now.restores) kept.hosts
  pub pooled : IsPooledOpen kept.pool now
  pub open pooled use *

pub record IsSound (office : Office) : Type 0 where
  pub kept : IsSoundDurable office.durable
  pub open kept use *
  pub now : IsSoundVolatile office.epoch office.volatile
  pub open now use *
  pub tied : AreTied office.durable office.volatile
  pub open tied use *
