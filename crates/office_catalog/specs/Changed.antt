-- Changes of a catalog: what is known after them, and the files that change.
--     after      what an edit makes of what is known
--     IsFor      an edit that may be made of it
--     Leads      changes that lead from files that hold one catalog to files that hold another
use Rattle.std.specs.Prelude.{⊤, ◌≡◌, ◌<◌, false, List, length, map}
use Rattle.disk_trait.specs.declared.ids.FileId.{FileId}
use Rattle.disk_trait.specs.Files.{Files}
use Rattle.intent_journal.specs.declared.changes.Change.{Change}
use Rattle.intent_journal.specs.Changes.{applied, AreChanges}
use Rattle.backup_index.specs.Index.{Index}
use Rattle.backup_index.specs.Names.{has_name}
use Rattle.backup_index.specs.Lines.{IsSound}
use Rattle.office_catalog.specs.declared.named.NamedHost.{NamedHost}
use Rattle.office_catalog.specs.declared.edits.CatalogEdit.{CatalogEdit}
use Rattle.office_catalog.specs.declared.edits.CatalogEdit.TheVariants.{AddHost, SetRules, SetContacts, SetLines, SetCommit, SetEpoch}
use Rattle.office_catalog.specs.declared.edits.CatalogChange.{CatalogChange}
use Rattle.office_catalog.specs.Known.{Known, IsHost, names_of, with_host, with_change, with_epoch, given_rules, given_contacts, given_lines, given_commit}
use Rattle.office_catalog.specs.Held.{HoldsCatalog}

abbrev pub edited : CatalogEdit → Known → Known
edited (AddHost named index) known = with_host known index
edited (SetRules host rules) known = with_change known host (given_rules rules)
edited (SetContacts host good bad) known = with_change known host (given_contacts good bad)
edited (SetLines host next lines) known = with_change known host (given_lines next lines)
edited (SetCommit host next receipts lines) known = with_change known host (given_commit next receipts lines)
edited (SetEpoch epoch) known = with_epoch known epoch

-- what is known after the change
abbrev pub after : CatalogChange → Known → Known
after change known = edited change.edit known

-- one host more: there is room for it, no other has its name, and it has the next number
pub record IsNewHost (known : Known) (named : NamedHost) (index : Index) : Type 0 where
  pub room : length known.hosts < 1024
  pub fresh : has_name (names_of known.hosts) index.name ≡ false
  pub host : IsHost (length known.hosts) index
  pub name_is : named.name ≡ index.name
  pub number_is : named.number ≡ length known.hosts

abbrev pub IsEditOf : Known → CatalogEdit → Type 0
IsEditOf known (AddHost named index) = IsNewHost known named index
IsEditOf known (SetRules host rules) = host < length known.hosts
IsEditOf known (SetContacts host good bad) = host < length known.hosts
IsEditOf known (SetLines host next lines) = (host < length known.hosts) × IsSound next lines
IsEditOf known (SetCommit host next receipts lines) = (host < length known.hosts) × IsSound next lines
IsEditOf known (SetEpoch epoch) = ⊤

-- a change that may be made of what is known
abbrev pub IsFor : Known → CatalogChange → Type 0
IsFor known change = IsEditOf known change.edit

-- a commit of these changes, which are of these files, leads from files that hold one catalog to files that hold the other
pub record Leads (old new : Known) (files : List FileId) (changes : List Change) : Type 0 where
  pub are : AreChanges changes
  pub named : map (λ change. change.file) changes ≡ files
  pub leads : (all : Files) → HoldsCatalog all old → HoldsCatalog (applied changes all) new

-- the change leads to what is new, and changes these files
pub record Proposes (old new : Known) (files : List FileId) (change : CatalogChange) : Type 0 where
  pub after_is : after change old ≡ new
  pub leads : Leads old new files change.changes
