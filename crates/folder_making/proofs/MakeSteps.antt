-- A frame is made.
--     holds_first      nothing was made
--     all_stand      where no file comes, the rows are all that stands there
--     none_ended, kept_ended, made_ended      there was no file, or its bytes were all there
--     begun_next, kept_begun, made_begun, file_begun, row_begun      the next entry
--     none_extended, kept_extends, made_extends, file_extended, piece_taken      a piece came
use Rattle.std.specs.Prelude.{◌≡◌, ℕ, false, List, [], ◌∷◌, ◌++◌, Option, Some, None, is_some}
use Rattle.std.specs.Global.{Vec}
use Rattle.std.proofs.Common.{refl, sym, ap, ◌∙◌, subst, append_assoc}
use Rattle.std.proofs.lemmas.Bool.{true≢false}
use Rattle.attr_records.specs.declared.nodes.Item.{Item}
use Rattle.attr_records.specs.declared.nodes.Item.TheVariants as I
use Rattle.attr_records.specs.Items.{Tree, is_dir}
use Rattle.attr_records.specs.Trees.{IsTree}
use Rattle.tree_frames.specs.declared.nodes.FileNode.{FileNode}
use Rattle.tree_frames.specs.declared.nodes.Node.{Node}
use Rattle.tree_frames.specs.declared.nodes.Node.TheVariants as N
use Rattle.tree_frames.specs.declared.nodes.Frame.{Frame}
use Rattle.tree_frames.specs.declared.nodes.Frame.TheVariants.{Deleted, Piece}
use Rattle.folder_trait.specs.Folders.{with_appended}
use Rattle.folder_making.specs.declared.dirs.OpenDir.{OpenDir}
use Rattle.folder_making.specs.declared.noted.Noted.{Noted}
use Rattle.folder_making.specs.declared.open_file.Came.{Came}
use Rattle.folder_making.specs.declared.open_file.Came.TheVariants.{Kept, InFolder}
use Rattle.folder_making.specs.declared.open_file.OpenFile.{OpenFile}
use Rattle.folder_making.specs.declared.making.Making.{Making}
use Rattle.folder_making.specs.Made.{Coming, Made, nothing_made, file_of, with_file, ended, begun_at, with_piece, extended, taken}
use Rattle.folder_making.specs.MadeLaws.{begun_grows}
use Rattle.folder_making.specs.PieceLaws.{appended_made}
use Rattle.folder_making.specs.Holding.{AreThere, IsComing, Comes, IsNext, Awaits, AwaitsFile, Holds, IsBegun, Extends}
use Rattle.folder_making.specs.Standing.{Stands}
use Rattle.folder_making.specs.StandLaws.{stands_first}
use Rattle.folder_making.proofs.NotedSteps.{file_stands}

-- ---- the file that comes

none_comes : (found : Option OpenFile) (before told : Option Tree) → Comes found None before told → (found ≡ None) × (told ≡ before)
none_comes None before told h = (refl, h)
none_comes (Some file) before told h = absurd h

none_here : (found : Option OpenFile) (coming : Option Coming) (before told : Option Tree) → found ≡ None → Comes found coming before told
    → (coming ≡ None) × (told ≡ before)
none_here None None before told is h = (refl, h)
none_here None (Some coming) before told is h = absurd h
none_here (Some file) coming before told is h = cc

file_here : (found : Option OpenFile) (file : OpenFile) (coming : Option Coming) (before told : Option Tree) → found ≡ Some file
    → Comes found coming before told → (one : Coming) × (coming ≡ Some one) × IsComing file one before told
file_here None file coming before told is h = cc
file_here (Some other) file None before told is h = absurd h
file_here (Some other) file (Some one) before told is h =
    (one, refl, subst (λ (f : OpenFile). IsComing f one before told) (let same : other ≡ file = cc in same) h)

same_stands : (rows rows' more more' : Tree) (told told' : Option Tree) (dirs dirs' : List OpenDir) (noted noted' : List Noted) → rows ≡ rows'
    → more ≡ more' → told ≡ told' → dirs ≡ dirs' → noted ≡ noted' → Stands rows more told dirs noted → Stands rows' more' told' dirs' noted'
same_stands rows rows' more more' told told' dirs dirs' noted noted' a b c d e s =
    subst (λ r. Stands r more' told' dirs' noted') a
    (subst (λ m. Stands rows m told' dirs' noted') b
    (subst (λ t. Stands rows more t dirs' noted') c
    (subst (λ ds. Stands rows more told ds noted') d
    (subst (λ ns. Stands rows more told dirs ns) e s))))

-- where no file comes, the rows are all that stands there
no_file : (rows more : Tree) (told : Option Tree) (making : Making) → making.file ≡ None
    → Stands rows more told making.dirs.items making.noted.items → Holds (record { rows = rows; file = None }) more told making
no_file rows more told making none s = record {
  before = told;
  comes = subst (λ (f : Option OpenFile). Comes f None told told) (sym none) refl;
  stands = λ awaits. s;
}

only_rows : (rows more : Tree) (told : Option Tree) (making : Making) → Holds (record { rows = rows; file = None }) more told making
    → (making.file ≡ None) × Stands rows more told making.dirs.items making.noted.items
only_rows rows more told making h =
    let none = none_comes making.file h.before told h.comes in (
      none.0,
      subst (λ t. Stands rows more t making.dirs.items making.noted.items) (sym none.1)
          (h.stands (subst (λ (f : Option OpenFile). AwaitsFile f more) (sym none.0) tt)),
    )

pub nothing_found : (found : Option OpenFile) → is_some found ≡ false → found ≡ None
nothing_found None e = refl
nothing_found (Some file) e = absurd (true≢false e)

pub all_stand : (made : Made) (more : Tree) (told : Option Tree) (making : Making) → making.file ≡ None → Holds made more told making
    → Stands made.rows more told making.dirs.items making.noted.items
all_stand made more told making none h =
    let there = none_here making.file made.file h.before told none h.comes in
    subst (λ t. Stands made.rows more t making.dirs.items making.noted.items) (sym there.1)
    (h.stands (subst (λ (f : Option OpenFile). AwaitsFile f more) (sym none) tt))

-- in an empty folder nothing was made of a tree
pub holds_first : (making : Making) (tree : Tree) (told : Option Tree) → making.dirs.items ≡ [] → making.file ≡ None → making.noted.items ≡ []
    → IsTree is_dir tree → told ≡ Some [] → Holds nothing_made tree told making
holds_first making tree told dirs file noted is_tree empty =
    no_file [] tree told making file
    (same_stands [] [] tree tree told told [] making.dirs.items [] making.noted.items refl refl refl (sym dirs) (sym noted) (stands_first tree told is_tree empty))

-- ---- what comes next

-- what is still to come behind the same rows is the same
pub more_is : (rows more left : Tree) → rows ++ more ≡ rows ++ left → more ≡ left
more_is [] more left e = e
more_is (row ∷ rows) more left e = more_is rows more left (let rest : rows ++ more ≡ rows ++ left = cc in rest)

-- behind one more row
behind_row : (rows more left : Tree) (row : List ℕ × Item) → rows ++ more ≡ (rows ++ row ∷ []) ++ left → more ≡ row ∷ left
behind_row rows more left row e = more_is rows more (row ∷ left) (e ∙ append_assoc rows (row ∷ []) left)

-- the file that came is the next row
file_next : (made : Made) (more left : Tree) (coming : Coming) → made.file ≡ Some coming → made.rows ++ more ≡ ended made ++ left
    → (more ≡ file_of coming ∷ left) × (ended made ≡ made.rows ++ file_of coming ∷ [])
file_next made more left coming is e =
    let rows : ended made ≡ made.rows ++ file_of coming ∷ [] = ap (with_file made.rows) is in
    (behind_row made.rows more left (file_of coming) (e ∙ ap (λ r. r ++ left) rows), rows)

-- no file came
nothing_next : (made : Made) (more left : Tree) → made.file ≡ None → made.rows ++ more ≡ ended made ++ left
    → (more ≡ left) × (ended made ≡ made.rows)
nothing_next made more left is e =
    let rows : ended made ≡ made.rows = ap (with_file made.rows) is in
    (more_is made.rows more left (e ∙ ap (λ r. r ++ left) rows), rows)

-- the row of a file whose bytes are all there
abbrev pub row_of : OpenFile → List ℕ → List ℕ × Item
row_of file bytes = (file.path, I.File (record { attr = file.node.attr; group = file.node.group; bytes = bytes }))

module _ (made : Made) (more left : Tree) (told told' : Option Tree) (making making' : Making) (h : Holds made more told making) where
  awaits_kept : (file : OpenFile) (bytes : Vec ℕ) → making.file ≡ Some file → file.came ≡ Kept bytes → AwaitsFile making.file more
  awaits_kept file bytes is came =
      subst (λ (f : Option OpenFile). AwaitsFile f more) (sym is) (subst (λ (c : Came). Awaits c file.path more) (sym came) tt)

  awaits_made : (file : OpenFile) → making.file ≡ Some file → file.came ≡ InFolder → IsNext file.path more → AwaitsFile making.file more
  awaits_made file is came next =
      subst (λ (f : Option OpenFile). AwaitsFile f more) (sym is) (subst (λ (c : Came). Awaits c file.path more) (sym came) next)

  -- there was no file
  pub none_ended : told' ≡ told → making.file ≡ None → making'.file ≡ None → making'.dirs.items ≡ making.dirs.items
      → making'.noted.items ≡ making.noted.items → made.rows ++ more ≡ ended made ++ left
      → Holds (record { rows = ended made; file = None }) left told' making'
  none_ended same none none' dirs noted split =
      let there = none_here making.file made.file h.before told none h.comes in
      let next = nothing_next made more left there.0 split in
      no_file (ended made) left told' making' none'
      (same_stands made.rows (ended made) more left h.before told' making.dirs.items making'.dirs.items making.noted.items making'.noted.items
      (sym next.1) next.0 (sym there.1 ∙ sym same) (sym dirs) (sym noted) (h.stands (subst (λ (f : Option OpenFile). AwaitsFile f more) (sym none) tt)))

  -- its bytes were kept, are all there, and it was made
  pub kept_ended : (file : OpenFile) (kept : Vec ℕ) (bytes : List ℕ) → making.file ≡ Some file → file.came ≡ Kept kept → bytes ≡ kept.items
      → making'.file ≡ None
      → ((rows later : Tree) → Stands rows (row_of file bytes ∷ later) told making.dirs.items making.noted.items
      → Stands (rows ++ row_of file bytes ∷ []) later told' making'.dirs.items making'.noted.items)
      → made.rows ++ more ≡ ended made ++ left → Holds (record { rows = ended made; file = None }) left told' making'
  kept_ended file kept bytes is came same none' adds split =
      let it = file_here making.file file made.file h.before told is h.comes in
      let there = subst (λ (c : Came). AreThere c it.0 h.before told) came it.2.bytes in
      let row : file_of it.0 ≡ row_of file bytes =
      (λ i. (it.2.path i, I.File (record { attr = (it.2.node i).attr; group = (it.2.node i).group; bytes = (there.0 ∙ sym same) i }))) in
      let next = file_next made more left it.0 it.1 split in
      let s = same_stands made.rows made.rows more (row_of file bytes ∷ left) h.before told making.dirs.items making.dirs.items making.noted.items
      making.noted.items refl (next.0 ∙ ap (λ r. r ∷ left) row) (sym there.1) refl refl (h.stands (awaits_kept file kept is came)) in
      no_file (ended made) left told' making' none'
      (subst (λ r. Stands r left told' making'.dirs.items making'.noted.items) (sym (next.1 ∙ ap (λ r. made.rows ++ r ∷ []) row)) (adds made.rows left s))

  -- its bytes are all in the folder
  pub made_ended : (file : OpenFile) → making.file ≡ Some file → file.came ≡ InFolder → told' ≡ told → making'.file ≡ None
      → making'.dirs.items ≡ making.dirs.items → making'.noted.items ≡ making.noted.items → made.rows ++ more ≡ ended made ++ left
      → Holds (record { rows = ended made; file = None }) left told' making'
  made_ended file is came same none' dirs noted split =
      let it = file_here making.file file made.file h.before told is h.comes in
      let there = subst (λ (c : Came). AreThere c it.0 h.before told) came it.2.bytes in
      let next = file_next made more left it.0 it.1 split in
      let awaits : IsNext file.path more = record {
        item = (file_of it.0).1;
        later = left;
        is = next.0 ∙ ap (λ p. (p, (file_of it.0).1) ∷ left) it.2.path;
      } in
      let s = subst (λ m. Stands made.rows m h.before making.dirs.items making.noted.items) next.0 (h.stands (awaits_made file is came awaits)) in
      no_file (ended made) left told' making' none'
      (same_stands (made.rows ++ file_of it.0 ∷ []) (ended made) left left told' told' making.dirs.items making'.dirs.items making.noted.items
      making'.noted.items (sym next.1) refl refl (sym dirs) (sym noted)
      (file_stands made.rows left h.before told' making.dirs.items making.noted.items it.0.path
      (record { attr = it.0.node.attr; group = it.0.node.group; bytes = it.0.bytes }) (same ∙ there) s))

  -- a piece came, and there was no file
  pub none_extended : (bytes : List ℕ) → making.file ≡ None → making' ≡ making → told' ≡ told
      → Holds (record { rows = made.rows; file = extended made.file bytes }) more told' making'
  none_extended bytes none same told_same =
      let there = none_here making.file made.file h.before told none h.comes in
      subst (λ (m : Making). Holds (record { rows = made.rows; file = extended made.file bytes }) more told' m) (sym same)
      (subst (λ t. Holds (record { rows = made.rows; file = extended made.file bytes }) more t making) (sym told_same) (record {
        before = h.before;
        comes = subst (λ c. Comes making.file c h.before told) (there.0 ∙ sym (ap (λ f. extended f bytes) there.0)) h.comes;
        stands = h.stands;
      }))

  -- a piece came of a file
  pub file_extended : (bytes : List ℕ) (file file' : OpenFile) → making.file ≡ Some file → making'.file ≡ Some file'
      → Extends file file' bytes told told' → making'.dirs.items ≡ making.dirs.items → making'.noted.items ≡ making.noted.items
      → Holds (record { rows = made.rows; file = extended made.file bytes }) more told' making'
  file_extended bytes file file' is is' extends dirs noted =
      let it = file_here making.file file made.file h.before told is h.comes in
      record {
        before = h.before;
        comes = subst (λ c. Comes making'.file c h.before told') (sym (ap (λ f. extended f bytes) it.1))
            (subst (λ (f : Option OpenFile). Comes f (Some (with_piece it.0 bytes)) h.before told') (sym is') (extends.comes it.0 h.before it.2));
        stands = λ awaits.
            same_stands made.rows made.rows more more h.before h.before making.dirs.items making'.dirs.items making.noted.items making'.noted.items
            refl refl refl (sym dirs) (sym noted)
            (h.stands (subst (λ (f : Option OpenFile). AwaitsFile f more) (sym is)
            (extends.awaits more (subst (λ (f : Option OpenFile). AwaitsFile f more) is' awaits))));
      }

-- a piece was kept
pub kept_extends : (file file' : OpenFile) (kept kept' : Vec ℕ) (bytes : List ℕ) (told told' : Option Tree) → file.came ≡ Kept kept
    → file'.came ≡ Kept kept' → kept'.items ≡ kept.items ++ bytes → file'.path ≡ file.path → file'.node ≡ file.node → told' ≡ told
    → Extends file file' bytes told told'
kept_extends file file' kept kept' bytes told told' came came' items path node same = record {
  awaits = λ more a. subst (λ (c : Came). Awaits c file.path more) (sym came) tt;
  comes = λ coming before it.
      let there = subst (λ (c : Came). AreThere c coming before told) came it.bytes in
      record {
        path = it.path ∙ sym path;
        node = it.node ∙ sym node;
        bytes = subst (λ (c : Came). AreThere c (with_piece coming bytes) before told') (sym came')
            (ap (λ b. b ++ bytes) there.0 ∙ sym items, same ∙ there.1);
      };
}

-- a piece was put at the end of the file in the folder
pub made_extends : (file file' : OpenFile) (bytes : List ℕ) (told told' : Option Tree) → file' ≡ file → file.came ≡ InFolder
    → told' ≡ with_appended told file.path bytes → Extends file file' bytes told told'
made_extends file file' bytes told told' same came is =
    subst (λ (f : OpenFile). Extends file f bytes told told') (sym same) (record {
      awaits = λ more a. a;
      comes = λ coming before it.
          let there = subst (λ (c : Came). AreThere c coming before told) came it.bytes in
          record {
            path = it.path;
            node = it.node;
            bytes = subst (λ (c : Came). AreThere c (with_piece coming bytes) before told') (sym came)
                (is ∙ ap (λ p. with_appended told p bytes) (sym it.path) ∙ ap (λ t. with_appended t coming.path bytes) there
                ∙ appended_made before coming.path (record { attr = coming.node.attr; group = coming.node.group; bytes = coming.bytes }) bytes);
          };
    })

-- a piece was taken
pub piece_taken : (made : Made) (more left : Tree) (told : Option Tree) (making' : Making) (frame : Frame) (bytes : List ℕ) → frame ≡ Piece bytes
    → Holds (taken made (Piece bytes)) more told making' → made.rows ++ more ≡ (taken made frame).rows ++ left
    → Holds (taken made frame) left told making'
piece_taken made more left told making' frame bytes is h =
    subst (λ (f : Frame). made.rows ++ more ≡ (taken made f).rows ++ left → Holds (taken made f) left told making') (sym is)
    (λ split. subst (λ later. Holds (taken made (Piece bytes)) later told making') (more_is made.rows more left split) h)

-- a path that was lost came
pub deleted_taken : (made : Made) (more left : Tree) (told : Option Tree) (making : Making) (frame : Frame) (path : List ℕ) → frame ≡ Deleted path
    → Holds made more told making → made.rows ++ more ≡ (taken made frame).rows ++ left → Holds (taken made frame) left told making
deleted_taken made more left told making frame path is h =
    subst (λ (f : Frame). made.rows ++ more ≡ (taken made f).rows ++ left → Holds (taken made f) left told making) (sym is)
    (λ split. subst (λ later. Holds made later told making) (more_is made.rows more left split) h)

-- what is still to come behind the file whose bytes are all there
pub begun_next : (made : Made) (more left : Tree) (path : List ℕ) (node : Node) → made.rows ++ more ≡ (begun_at (ended made) path node).rows ++ left
    → (later : Tree) × (made.rows ++ more ≡ ended made ++ later) × (ended made ++ later ≡ (begun_at (ended made) path node).rows ++ left)
begun_next made more left path node split =
    let grown = begun_grows (ended made) path node in
    let same : (begun_at (ended made) path node).rows ++ left ≡ ended made ++ (grown.0 ++ left) =
    ap (λ rows. rows ++ left) grown.1 ∙ append_assoc (ended made) grown.0 left in
    (grown.0 ++ left, split ∙ same, sym same)

-- a file begins, whose bytes are kept
pub kept_begun : (rows more : Tree) (told : Option Tree) (making making' : Making) (path : List ℕ) (node : FileNode) (file : OpenFile) (kept : Vec ℕ)
    → making'.file ≡ Some file → file.path ≡ path → file.node ≡ node → file.came ≡ Kept kept → kept.items ≡ [] → making'.dirs.items ≡ making.dirs.items
    → making'.noted.items ≡ making.noted.items → Holds (record { rows = rows; file = None }) more told making
    → Holds (begun_at rows path (N.File node)) more told making'
kept_begun rows more told making making' path node file kept is at named came none dirs noted h =
    let coming : Coming = record { path = path; node = node; bytes = [] } in
    record {
      before = told;
      comes = subst (λ (f : Option OpenFile). Comes f (Some coming) told told) (sym is) (record {
        path = sym at;
        node = sym named;
        bytes = subst (λ (c : Came). AreThere c coming told told) (sym came) (sym none, refl);
      });
      stands = λ awaits.
          same_stands rows rows more more told told making.dirs.items making'.dirs.items making.noted.items making'.noted.items refl refl refl (sym dirs)
          (sym noted) (only_rows rows more told making h).1;
    }

-- a file begins, and was made
pub made_begun : (rows more : Tree) (told told' : Option Tree) (making making' : Making) (path : List ℕ) (node : FileNode) (file : OpenFile)
    → making'.file ≡ Some file → IsBegun path node file told told' making.dirs.items making'.dirs.items → making'.noted.items ≡ making.noted.items
    → Holds (record { rows = rows; file = None }) more told making → Holds (begun_at rows path (N.File node)) more told' making'
made_begun rows more told told' making making' path node file is begun noted h =
    let coming : Coming = record { path = path; node = node; bytes = [] } in
    record {
      before = begun.before;
      comes = subst (λ (f : Option OpenFile). Comes f (Some coming) begun.before told') (sym is) (record {
        path = sym begun.path_is;
        node = sym begun.node_is;
        bytes = subst (λ (c : Came). AreThere c coming begun.before told') (sym begun.came_is) begun.made;
      });
      stands = λ awaits.
          let named_next = subst (λ (c : Came). Awaits c file.path more) begun.came_is (subst (λ (f : Option OpenFile). AwaitsFile f more) is awaits) in
          let next : IsNext path more = subst (λ p. IsNext p more) begun.path_is named_next in
          same_stands rows rows ((path, next.item) ∷ next.later) more begun.before begun.before making'.dirs.items making'.dirs.items making.noted.items
          making'.noted.items refl (sym next.is) refl refl (sym noted)
          (begun.stands rows next.later next.item making.noted.items
          (subst (λ m. Stands rows m told making.dirs.items making.noted.items) next.is (only_rows rows more told making h).1));
    }

-- a file begins
pub file_begun : (rows more left : Tree) (told : Option Tree) (making : Making) (path : List ℕ) (node : Node) (file : FileNode) → node ≡ N.File file
    → Holds (begun_at rows path (N.File file)) more told making → rows ++ more ≡ (begun_at rows path node).rows ++ left
    → Holds (begun_at rows path node) left told making
file_begun rows more left told making path node file is h =
    subst (λ (n : Node). rows ++ more ≡ (begun_at rows path n).rows ++ left → Holds (begun_at rows path n) left told making) (sym is)
    (λ split. subst (λ m. Holds (begun_at rows path (N.File file)) m told making) (more_is rows more left split) h)

-- a directory or a link was made
pub row_begun : (rows more left : Tree) (told told' : Option Tree) (making making' : Making) (row : List ℕ × Item) (made : Made)
    → made ≡ record { rows = rows ++ row ∷ []; file = None } → making.file ≡ making'.file
    → ((later : Tree) → Stands rows (row ∷ later) told making.dirs.items making.noted.items
    → Stands (rows ++ row ∷ []) later told' making'.dirs.items making'.noted.items)
    → Holds (record { rows = rows; file = None }) more told making → rows ++ more ≡ made.rows ++ left → Holds made left told' making'
row_begun rows more left told told' making making' row made begun same adds h split =
    let only = only_rows rows more told making h in
    subst (λ (m : Made). Holds m left told' making') (sym begun)
    (no_file (rows ++ row ∷ []) left told' making' (sym same ∙ only.0)
    (adds left (subst (λ m. Stands rows m told making.dirs.items making.noted.items)
    (behind_row rows more left row (split ∙ ap (λ (m : Made). m.rows ++ left) begun)) only.1)))
