-- The refusals that responses name.
--     refusal_of      the refusal that a body names as JSON
use Rattle.std.specs.Prelude.{ℕ, List, Option, Some, None, option_map, option_and_then, bytes_eq, codes, if◌then◌else◌}
use Rattle.attr_records.specs.declared.trees.PutRule.{PutRule}
use Rattle.attr_records.specs.declared.trees.PutRule.TheVariants as T
use Rattle.office_model.specs.declared.refusal.BrokenRule.{BrokenRule}
use Rattle.office_model.specs.declared.refusal.BrokenRule.TheVariants as B
use Rattle.office_model.specs.declared.refusal.Refusal.{Refusal}
use Rattle.office_model.specs.declared.refusal.Refusal.TheVariants as R
use Rattle.serde_json.specs.Data.{Data}
use Rattle.json_back.specs.Reading.{data_of}
use Rattle.listing_back.specs.Members.{text_at}

-- a rule of trees
abbrev pub put_rule_named : List ℕ → Option PutRule
put_rule_named name =
    if bytes_eq name (codes "NoParent") then Some T.NoParent
    else if bytes_eq name (codes "IsDirectory") then Some T.IsDirectory
    else if bytes_eq name (codes "TooManyEntries") then Some T.TooManyEntries
    else if bytes_eq name (codes "FileTooLarge") then Some T.FileTooLarge
    else None

-- a rule that isn't of what is there or not there
abbrev pub limit_named : List ℕ → Option BrokenRule
limit_named name =
    if bytes_eq name (codes "HostsFull") then Some B.HostsFull
    else if bytes_eq name (codes "NumbersSpent") then Some B.NumbersSpent
    else if bytes_eq name (codes "ChainFull") then Some B.ChainFull
    else if bytes_eq name (codes "TokensFull") then Some B.TokensFull
    else if bytes_eq name (codes "NumberBehind") then Some B.NumberBehind
    else if bytes_eq name (codes "BadBucket") then Some B.BadBucket
    else if bytes_eq name (codes "BadPiece") then Some B.BadPiece
    else option_map (λ rule. B.Put rule) (put_rule_named name)

abbrev pub rule_named : List ℕ → Option BrokenRule
rule_named name =
    if bytes_eq name (codes "HostExists") then Some B.HostExists
    else if bytes_eq name (codes "NoHost") then Some B.NoHost
    else if bytes_eq name (codes "NoBackup") then Some B.NoBackup
    else if bytes_eq name (codes "NoPartial") then Some B.NoPartial
    else if bytes_eq name (codes "SessionOpen") then Some B.SessionOpen
    else if bytes_eq name (codes "NoSession") then Some B.NoSession
    else if bytes_eq name (codes "NoPath") then Some B.NoPath
    else if bytes_eq name (codes "NoContent") then Some B.NoContent
    else if bytes_eq name (codes "NotAFile") then Some B.NotAFile
    else if bytes_eq name (codes "NotADirectory") then Some B.NotADirectory
    else if bytes_eq name (codes "Kept") then Some B.Kept
    else limit_named name

-- a refusal that has a name alone
abbrev pub refusal_named : List ℕ → Option Refusal
refusal_named name =
    if bytes_eq name (codes "Halted") then Some R.Halted
    else if bytes_eq name (codes "DiskFault") then Some R.DiskFault
    else option_map (λ rule. R.Broken rule) (rule_named name)

abbrev pub refusal_in : Data → Option Refusal
refusal_in value = option_and_then refusal_named (text_at (codes "refused") value)

abbrev pub refusal_of : List ℕ → Option Refusal
refusal_of bytes = option_and_then refusal_in (data_of bytes)
