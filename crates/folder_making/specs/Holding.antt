-- What was made of the frames so far.
--     IsComing, Comes      the file whose pieces come, and what the folder shows of it
--     Awaits      what has to be known of the next row
--     Holds      all of it
--     IsBegun, Extends      a file was begun in the folder, a piece came
use Rattle.std.specs.Prelude.{◌≡◌, ℕ, List, [], ◌∷◌, Option, Some, None}
use Rattle.attr_records.specs.declared.nodes.Item.{Item}
use Rattle.attr_records.specs.Items.{Tree}
use Rattle.tree_frames.specs.declared.nodes.FileNode.{FileNode}
use Rattle.folder_trait.specs.Folders.{with_made}
use Rattle.folder_making.specs.declared.dirs.OpenDir.{OpenDir}
use Rattle.folder_making.specs.declared.noted.Noted.{Noted}
use Rattle.folder_making.specs.declared.open_file.Came.{Came}
use Rattle.folder_making.specs.declared.open_file.Came.TheVariants.{Kept, InFolder}
use Rattle.folder_making.specs.declared.open_file.OpenFile.{OpenFile}
use Rattle.folder_making.specs.declared.making.Making.{Making}
use Rattle.folder_making.specs.Made.{Coming, Made, file_of, with_piece}
use Rattle.folder_making.specs.Standing.{Stands}

-- the folder is as it was before, and the bytes so far are kept; or it is as it was, with the file and its bytes so far made in it
abbrev pub AreThere : Came → Coming → (before told : Option Tree) → Type 0
AreThere (Kept bytes) coming before told = (coming.bytes ≡ bytes.items) × (told ≡ before)
AreThere InFolder coming before told = told ≡ with_made before coming.path (file_of coming).1

pub record IsComing (file : OpenFile) (coming : Coming) (before told : Option Tree) : Type 0 where
  pub path : coming.path ≡ file.path
  pub node : coming.node ≡ file.node
  pub bytes : AreThere file.came coming before told

-- the file whose pieces come, if there is one, with what the folder was before it
abbrev pub Comes : Option OpenFile → Option Coming → (before told : Option Tree) → Type 0
Comes None None before told = told ≡ before
Comes None (Some coming) before told = ⊥
Comes (Some file) None before told = ⊥
Comes (Some file) (Some coming) before told = IsComing file coming before told

-- the next row is of this path
pub record IsNext (path : List ℕ) (more : Tree) : Type 0 where
  pub item : Item
  pub later : Tree
  pub is : more ≡ (path, item) ∷ later

-- a file that is in the folder has to be the next row
abbrev pub Awaits : Came → List ℕ → Tree → Type 0
Awaits (Kept bytes) path more = Unit {0}
Awaits InFolder path more = IsNext path more

abbrev pub AwaitsFile : Option OpenFile → Tree → Type 0
AwaitsFile None more = Unit {0}
AwaitsFile (Some file) more = Awaits file.came file.path more

-- these rows stand in the folder, and more are still to come; of a file whose pieces come either its bytes so far are kept, or the folder
-- shows it behind the rows, with its bytes so far
pub record Holds (made : Made) (more : Tree) (told : Option Tree) (making : Making) : Type 0 where
  pub before : Option Tree
  pub comes : Comes making.file made.file before told
  pub stands : AwaitsFile making.file more → Stands made.rows more before making.dirs.items making.noted.items

-- the directories in which a path doesn't lie were finished, and a file without bytes was made there
pub record IsBegun (path : List ℕ) (node : FileNode) (file : OpenFile) (told told' : Option Tree) (dirs dirs' : List OpenDir) : Type 0 where
  pub path_is : file.path ≡ path
  pub node_is : file.node ≡ node
  pub came_is : file.came ≡ InFolder
  pub before : Option Tree
  pub made : told' ≡ with_made before path (file_of (record { path = path; node = node; bytes = [] })).1
  pub stands : (rows later : Tree) (item : Item) (noted : List Noted) → Stands rows ((path, item) ∷ later) told dirs noted
      → Stands rows ((path, item) ∷ later) before dirs' noted

-- a piece of a file came
pub record Extends (file file' : OpenFile) (bytes : List ℕ) (told told' : Option Tree) : Type 0 where
  pub awaits : (more : Tree) → Awaits file'.came file'.path more → Awaits file.came file.path more
  pub comes : (coming : Coming) (before : Option Tree) → IsComing file coming before told
      → IsComing file' (with_piece coming bytes) before told'
