-- What a catalog knows: the epoch, and the index of each host in the order of adding.
--     names_of, head_of      the names of the hosts, and the head file that says them
--     IsCatalog      few hosts with different names, and the index of host h has the number h
--     host_named, line_numbered      where the host of a name and the line of a number stand
--     receipt_named      the receipt of the commit of a dump of this name, of any host
--     with_host, with_change, with_epoch      one host more, one index changed, another epoch
use Rattle.std.specs.Prelude.{◌≡◌, ◌==◌, ℕ, zero, suc, ◌+◌, Bool, List, [], ◌∷◌, ◌++◌, map, Option, None, Some, slice_get, bytes_eq}
use Rattle.std.specs.List.{position_from}
use Rattle.std.specs.Option.{option_or}
use Rattle.receipts.specs.declared.receipt.Receipt.{Receipt}
use Rattle.receipts.specs.declared.session.SessionName.{SessionName}
use Rattle.receipts.specs.Receipts.{receipt_of, kept_with}
use Rattle.backup_rules.specs.declared.lines.Line.{Line}
use Rattle.backup_rules.specs.Values.{RuleSet}
use Rattle.backup_index.specs.declared.head.HeadFile.{HeadFile}
use Rattle.backup_index.specs.Index.{Index, index_of}
use Rattle.backup_index.specs.Lines.{IsSound}
use Rattle.backup_index.specs.Names.{AreNames}

pub record Known : Type 0 where
  pub epoch : ℕ
  pub hosts : List Index

abbrev pub known_of : ℕ → List Index → Known
known_of epoch hosts = record { epoch = epoch; hosts = hosts }

-- a store without hosts that was never opened
abbrev pub nothing_known : Known
nothing_known = known_of 0 []

abbrev pub names_of : List Index → List (List ℕ)
names_of hosts = map (λ index. index.name) hosts

-- the head file of what is known
abbrev pub head_of : Known → HeadFile
head_of known = record { epoch = known.epoch; names = names_of known.hosts }

-- the index of the host of this number
pub record IsHost (host : ℕ) (index : Index) : Type 0 where
  pub number : index.host ≡ host
  pub sound : IsSound index.next index.lines

pub record IsCatalog (hosts : List Index) : Type 0 where
  pub names : AreNames (names_of hosts)
  pub each : (host : ℕ) (index : Index) → slice_get hosts host ≡ Some index → IsHost host index

-- ---- look-ups

-- the number of the host of this name
abbrev pub host_named : List (List ℕ) → List ℕ → Option ℕ
host_named names name = position_from (λ other. bytes_eq other name) 0 names

-- where the line of the backup of this number stands
abbrev pub line_numbered : List Line → ℕ → Option ℕ
line_numbered lines number = position_from (λ line. line.number == number) 0 lines

abbrev pub receipt_named : List Index → SessionName → Option Receipt
receipt_named [] name = None
receipt_named (index ∷ hosts) name = option_or (receipt_of index.receipts name) (receipt_named hosts name)

-- ---- edits

abbrev pub with_host : Known → Index → Known
with_host known index = known_of known.epoch (known.hosts ++ index ∷ [])

abbrev pub with_epoch : Known → ℕ → Known
with_epoch known epoch = known_of epoch known.hosts

-- the index of a host as f makes it
abbrev pub changed_at : (Index → Index) → ℕ → List Index → List Index
changed_at f host [] = []
changed_at f zero (index ∷ hosts) = f index ∷ hosts
changed_at f (suc host) (index ∷ hosts) = index ∷ changed_at f host hosts

abbrev pub with_change : Known → ℕ → (Index → Index) → Known
with_change known host f = known_of known.epoch (changed_at f host known.hosts)

-- a host of which nothing is known but its number, name and rules
abbrev pub new_host : ℕ → List ℕ → RuleSet → Index
new_host host name rules = index_of host name rules 0 0 0 [] []

abbrev pub given_rules : RuleSet → Index → Index
given_rules rules index = record index { rules = rules }

abbrev pub given_contacts : ℕ → ℕ → Index → Index
given_contacts good bad index = record index { good = good; bad = bad }

abbrev pub given_lines : ℕ → List Line → Index → Index
given_lines next lines index = record index { next = next; lines = lines }

abbrev pub given_filled : Bool → Line → Line
given_filled filled line = record line { filled = filled }

abbrev pub given_keep : Bool → Line → Line
given_keep keep line = record line { keep = keep }

-- the last line filled so, the others as they are
abbrev pub last_filled : Bool → List Line → List Line
last_filled filled [] = []
last_filled filled (line ∷ []) = given_filled filled line ∷ []
last_filled filled (line ∷ other ∷ lines) = line ∷ last_filled filled (other ∷ lines)

-- one line kept so, the others as they are
abbrev pub kept_at : Bool → ℕ → List Line → List Line
kept_at keep index [] = []
kept_at keep zero (line ∷ lines) = given_keep keep line ∷ lines
kept_at keep (suc index) (line ∷ lines) = line ∷ kept_at keep index lines

abbrev pub given_commit : ℕ → List Receipt → List Line → Index → Index
given_commit next receipts lines index = record index { next = next; receipts = receipts; lines = lines }

-- with a receipt more, if there is one
abbrev pub with_given : Option Receipt → List Receipt → List Receipt
with_given None receipts = receipts
with_given (Some receipt) receipts = kept_with receipts receipt

-- a further backup: its line is the last, the former newest is filled so, the next number is the one above it, and the commit's
-- receipt is kept, if it has one
abbrev pub with_line : Line → Bool → Option Receipt → Index → Index
with_line line filled receipt index =
    given_commit (line.number + 1) (with_given receipt index.receipts) (last_filled filled index.lines ++ line ∷ []) index

abbrev pub with_keep : ℕ → Bool → Index → Index
with_keep line keep index = given_lines index.next (kept_at keep line index.lines) index
