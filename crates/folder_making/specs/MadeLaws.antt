-- Laws of what is made of frames.
--     made_of_frames      of a tree's frames the tree is made
--     first_rows      of its first frames, its first rows
use Rattle.std.specs.Prelude.{◌≡◌, ℕ, zero, suc, ◌-◌, ◌≤◌, List, [], ◌∷◌, ◌++◌, map, length, take, drop, Option, Some, None}
use Rattle.std.specs.List.{flat_map}
use Rattle.std.proofs.Common.{refl, sym, ap, ◌∙◌, arith, append_assoc, append-nil}
use Rattle.std.proofs.lemmas.List.{length-drop, take-append-drop}
use Rattle.attr_records.specs.declared.nodes.Item.{Item}
use Rattle.attr_records.specs.declared.nodes.Item.TheVariants as I
use Rattle.attr_records.specs.Items.{Tree}
use Rattle.tree_frames.specs.declared.nodes.Node.{Node}
use Rattle.tree_frames.specs.declared.nodes.Node.TheVariants as N
use Rattle.tree_frames.specs.declared.nodes.Frame.{Frame}
use Rattle.tree_frames.specs.declared.nodes.Frame.TheVariants.{Deleted, Entry, Piece, End}
use Rattle.tree_frames.specs.Frames.{pieces_of, pieces, row_frames, frames}
use Rattle.folder_making.specs.Made.{Coming, Made, with_file, ended, begun_at, taken, made_from, nothing_made, made_of}

made_append : (made : Made) (xs ys : List Frame) → made_from made (xs ++ ys) ≡ made_from (made_from made xs) ys
made_append made [] ys = refl
made_append made (x ∷ xs) ys = made_append (taken made x) xs ys

-- a file of these rows, with these bytes so far
abbrev come : Tree → Coming → List ℕ → Made
come rows coming bytes = record { rows = rows; file = Some (record { path = coming.path; node = coming.node; bytes = bytes }) }

-- ---- pieces are put together

pieces_made : (rows : Tree) (coming : Coming) (n : ℕ) (front bytes : List ℕ) (behind : List Frame) → length bytes ≤ n
    → made_from (come rows coming front) (map Piece (pieces_of n bytes) ++ behind) ≡ made_from (come rows coming (front ++ bytes)) behind
unfolding pieces_of
pieces_made rows coming zero front [] behind h = ap (λ bytes. made_from (come rows coming bytes) behind) (sym (append-nil front))
pieces_made rows coming zero front (byte ∷ bytes) behind h = absurd (omega arith)
pieces_made rows coming (suc n) front [] behind h = ap (λ bytes. made_from (come rows coming bytes) behind) (sym (append-nil front))
pieces_made rows coming (suc n) front (byte ∷ bytes) behind h =
    let shorter : length (drop 65536 (byte ∷ bytes)) ≡ suc (length bytes) - 65536 = length-drop 65536 (byte ∷ bytes) in
    pieces_made rows coming n (front ++ take 65536 (byte ∷ bytes)) (drop 65536 (byte ∷ bytes)) behind (omega arith)
    ∙ ap (λ whole. made_from (come rows coming whole) behind)
    (append_assoc front (take 65536 (byte ∷ bytes)) (drop 65536 (byte ∷ bytes)) ∙ ap (λ rest. front ++ rest) (take-append-drop 65536 (byte ∷ bytes)))

all_pieces_made : (rows : Tree) (coming : Coming) (bytes : List ℕ) (behind : List Frame)
    → made_from (come rows coming []) (map Piece (pieces bytes) ++ behind) ≡ made_from (come rows coming bytes) behind
all_pieces_made rows coming bytes behind = pieces_made rows coming (length bytes) [] bytes behind (omega arith)

no_pieces : pieces [] ≡ []
unfolding pieces_of
no_pieces = refl

-- ---- the rows of a tree

abbrev done : Tree → Made
done rows = record { rows = rows; file = None }

rows_made : (tree : Tree) (made : Made) (count : ℕ) → made_from made (flat_map row_frames tree ++ End count ∷ []) ≡ done (ended made ++ tree)
rows_made [] made count = ap done (sym (append-nil (ended made)))
rows_made ((path, item) ∷ tree) made count =
    ap (made_from made) (append_assoc (row_frames (path, item)) (flat_map row_frames tree) (End count ∷ []))
    ∙ step item (λ more. rows_made tree more count)
  where
    behind : List Frame
    behind = flat_map row_frames tree ++ End count ∷ []

    joined : (item : Item) → done ((ended made ++ (path, item) ∷ []) ++ tree) ≡ done (ended made ++ (path, item) ∷ tree)
    joined item = ap done (append_assoc (ended made) ((path, item) ∷ []) tree)

    step : (item : Item) → ((more : Made) → made_from more behind ≡ done (ended more ++ tree))
        → made_from made (row_frames (path, item) ++ behind) ≡ done (ended made ++ (path, item) ∷ tree)
    step (I.File file) rest =
        let coming : Coming = record { path = path; node = record { attr = file.attr; group = file.group; size = length file.bytes }; bytes = [] } in
        all_pieces_made (ended made) coming file.bytes behind ∙ rest (come (ended made) coming file.bytes) ∙ joined (I.File file)
    step (I.Dir dir) rest =
        ap (λ list. made_from made (Entry path (N.Dir dir) ∷ (map Piece list ++ behind))) no_pieces
        ∙ rest (done (ended made ++ (path, I.Dir dir) ∷ [])) ∙ joined (I.Dir dir)
    step (I.Link link) rest =
        ap (λ list. made_from made (Entry path (N.Link link) ∷ (map Piece list ++ behind))) no_pieces
        ∙ rest (done (ended made ++ (path, I.Link link) ∷ [])) ∙ joined (I.Link link)

-- of a tree's frames the tree is made
pub made_of_frames : (tree : Tree) → made_of (frames tree) ≡ done tree
unfolding frames
made_of_frames tree = rows_made tree nothing_made (length tree)

-- ---- rows are added at the end

-- an entry leaves the rows before it as they are
pub begun_grows : (rows : Tree) (path : List ℕ) (node : Node) → (more : Tree) × ((begun_at rows path node).rows ≡ rows ++ more)
begun_grows rows path (N.File node) = ([], sym (append-nil rows))
begun_grows rows path (N.Dir dir) = ((path, I.Dir dir) ∷ [], refl)
begun_grows rows path (N.Link link) = ((path, I.Link link) ∷ [], refl)

ended_grows : (rows : Tree) (file : Option Coming) → (more : Tree) × (with_file rows file ≡ rows ++ more)
ended_grows rows None = ([], sym (append-nil rows))
ended_grows rows (Some coming) = (_, refl)

both_grow : (rows middle last : Tree) → ((more : Tree) × (middle ≡ rows ++ more)) → ((more : Tree) × (last ≡ middle ++ more))
    → (more : Tree) × (last ≡ rows ++ more)
both_grow rows middle last first second =
    (first.0 ++ second.0, second.1 ∙ ap (λ r. r ++ second.0) first.1 ∙ append_assoc rows first.0 second.0)

taken_grows : (made : Made) (frame : Frame) → (more : Tree) × ((taken made frame).rows ≡ made.rows ++ more)
taken_grows made (Deleted path) = ([], sym (append-nil made.rows))
taken_grows made (Entry path node) =
    both_grow made.rows (ended made) (begun_at (ended made) path node).rows (ended_grows made.rows made.file) (begun_grows (ended made) path node)
taken_grows made (Piece bytes) = ([], sym (append-nil made.rows))
taken_grows made (End count) = ended_grows made.rows made.file

grows : (made : Made) (list : List Frame) → (more : Tree) × ((made_from made list).rows ≡ made.rows ++ more)
grows made [] = ([], sym (append-nil made.rows))
grows made (frame ∷ list) =
    both_grow made.rows (taken made frame).rows (made_from (taken made frame) list).rows (taken_grows made frame) (grows (taken made frame) list)

-- of a tree's first frames its first rows are made
pub first_rows : (tree : Tree) (list rest : List Frame) → frames tree ≡ list ++ rest → (more : Tree) × (tree ≡ (made_of list).rows ++ more)
first_rows tree list rest are =
    let w = grows (made_of list) rest in
    let whole : done tree ≡ made_from (made_of list) rest = sym (made_of_frames tree) ∙ ap made_of are ∙ made_append nothing_made list rest in
    (w.0, ap (λ (m : Made). m.rows) whole ∙ w.1)

-- one more frame
pub made_of_more : (list : List Frame) (frame : Frame) → made_of (list ++ frame ∷ []) ≡ taken (made_of list) frame
made_of_more list frame = made_append nothing_made list (frame ∷ [])
