-- Why a folder is refused: what it lists.
--     IsDumpCause      of a whole dump: the folder's tree has what is named
--     IsRowCause, IsListFault, IsRowsFault, IsRowFault      of a row, a listing, its rows, and one of them
use Rattle.std.specs.Prelude.{◌≡◌, ℕ, ◌<◌, List, ◌∷◌, length, Option, Some, None, false, ⊤}
use Rattle.std.specs.Option.{ForSome}
use Rattle.attr_records.specs.declared.nodes.Item.{Item}
use Rattle.attr_records.specs.declared.nodes.Item.TheVariants as I
use Rattle.attr_records.specs.declared.nodes.File.{File}
use Rattle.attr_records.specs.declared.nodes.Link.{Link}
use Rattle.attr_records.specs.declared.paths.BadPath.{BadPath}
use Rattle.attr_records.specs.Items.{Tree}
use Rattle.attr_records.specs.Names.{is_link_target}
use Rattle.attr_records.specs.PathRules.{broken_path_rule}
use Rattle.folder_trait.specs.declared.found.FoundNode.{FoundNode}
use Rattle.folder_trait.specs.declared.found.FoundNode.TheVariants as N
use Rattle.folder_trait.specs.declared.found.FoundFile.{FoundFile}
use Rattle.folder_trait.specs.declared.found.FoundLink.{FoundLink}
use Rattle.office_model.specs.declared.refusal.Refusal.{Refusal}
use Rattle.folder_laws.specs.CompareLaws.{Stands}
use Rattle.folder_walk.specs.declared.rows.Row.{Row}
use Rattle.folder_walk.specs.declared.refusals.DumpRefusal.{DumpRefusal}
use Rattle.folder_walk.specs.declared.refusals.DumpRefusal.TheVariants as D

-- the refusal of a call, if that is what it was
abbrev pub refusal_of : DumpRefusal → Option Refusal
refusal_of (D.Refused refusal) = Some refusal
refusal_of (D.BadPath rule) = None
refusal_of D.BadTarget = None
refusal_of D.FileTooLarge = None
refusal_of D.Folder = None
refusal_of D.Memory = None

-- no call was refused
abbrev pub IsNoRefusal : DumpRefusal → Type 0
IsNoRefusal fault = refusal_of fault ≡ None

-- a path of the tree breaks this rule first
pub record HasBadPath (rule : BadPath) (tree : Tree) : Type 0 where
  pub row : List ℕ × Item
  pub stands : Stands tree row
  pub broken : broken_path_rule row.0 ≡ Some rule

-- a link of the tree has a target that is none
pub record HasBadTarget (tree : Tree) : Type 0 where
  pub path : List ℕ
  pub link : Link
  pub stands : Stands tree (path, I.Link link)
  pub broken : is_link_target link.target ≡ false

-- a file of the tree has more bytes than a content may have
pub record HasLargeFile (tree : Tree) : Type 0 where
  pub path : List ℕ
  pub file : File
  pub stands : Stands tree (path, I.File file)
  pub large : 1099511627775 < length file.bytes

-- a row has a path that breaks this rule first
pub record HasBadRow (rule : BadPath) (rows : List Row) : Type 0 where
  pub row : Row
  pub stands : Stands rows row
  pub broken : broken_path_rule row.path ≡ Some rule

-- why a row can't be made of a path
abbrev pub IsRowFault : List ℕ → DumpRefusal → Type 0
IsRowFault path (D.Refused refusal) = ⊥
IsRowFault path (D.BadPath rule) = broken_path_rule path ≡ Some rule
IsRowFault path D.BadTarget = ⊥
IsRowFault path D.FileTooLarge = ⊥
IsRowFault path D.Folder = ⊥
IsRowFault path D.Memory = ⊤

-- why these rows can't be made
abbrev pub IsRowsFault : List Row → DumpRefusal → Type 0
IsRowsFault rows (D.Refused refusal) = ⊥
IsRowsFault rows (D.BadPath rule) = HasBadRow rule rows
IsRowsFault rows D.BadTarget = ⊥
IsRowsFault rows D.FileTooLarge = ⊥
IsRowsFault rows D.Folder = ⊥
IsRowsFault rows D.Memory = ⊤

-- why a directory can't be listed
abbrev pub IsListFault : Option Tree → DumpRefusal → Type 0
IsListFault told (D.Refused refusal) = ⊥
IsListFault told (D.BadPath rule) = ForSome told (HasBadPath rule)
IsListFault told D.BadTarget = ⊥
IsListFault told D.FileTooLarge = ⊥
IsListFault told D.Folder = ⊤
IsListFault told D.Memory = ⊤

-- why a row isn't put, or what lies in it isn't listed
abbrev pub IsRowCause : Option Tree → FoundNode → DumpRefusal → Type 0
IsRowCause told node (D.Refused refusal) = ⊤
IsRowCause told node (D.BadPath rule) = ForSome told (HasBadPath rule)
IsRowCause told node D.BadTarget = (link : FoundLink) × (node ≡ N.Link link) × (is_link_target link.target ≡ false)
IsRowCause told node D.FileTooLarge = (file : FoundFile) × (node ≡ N.File file) × (1099511627775 < file.size)
IsRowCause told node D.Folder = ⊤
IsRowCause told node D.Memory = ⊤

-- what is refused, the tree has: a path, a target, a file
abbrev pub IsCauseIn : Tree → DumpRefusal → Type 0
IsCauseIn tree (D.Refused refusal) = ⊤
IsCauseIn tree (D.BadPath rule) = HasBadPath rule tree
IsCauseIn tree D.BadTarget = HasBadTarget tree
IsCauseIn tree D.FileTooLarge = HasLargeFile tree
IsCauseIn tree D.Folder = ⊤
IsCauseIn tree D.Memory = ⊤

-- where the folder tells its tree, that has what is refused
abbrev pub IsDumpCause : Option Tree → DumpRefusal → Type 0
IsDumpCause told fault = ForSome told (λ tree. IsCauseIn tree fault)
