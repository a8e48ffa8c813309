-- The frames that are left, piece by piece and path by path.
use Rattle.std.specs.Prelude.{◌≡◌, ℕ, zero, suc, Bool, true, false, nat_le, ◌-◌, ◌<◌, ◌≤◌, min, List, [], ◌∷◌, ◌++◌, map, length, take, drop, get_or}
use Rattle.std.specs.List.{flat_map}
use Rattle.std.proofs.Common.{refl, ap, sym, ◌∙◌, append_assoc, arith}
use Rattle.std.proofs.Math.ListN.{drop_of_length-le}
use Rattle.std.proofs.lemmas.Bool.Decides.{nat_tests}
use Rattle.std.proofs.lemmas.List.{length-drop, length-take}
use Rattle.attr_records.specs.declared.nodes.Item.{Item}
use Rattle.attr_records.specs.Items.{Tree}
use Rattle.tree_frames.specs.declared.nodes.Node.{Node}
use Rattle.tree_frames.specs.declared.nodes.Frame.{Frame}
use Rattle.tree_frames.specs.declared.nodes.Frame.TheVariants.{Entry, Piece, End}
use Rattle.tree_frames.specs.PieceLaws.{pieces_first}
use Rattle.tree_frames.specs.Frames.{node_of, bytes_of, pieces_of, pieces, row_frames, frames, frames_left}

min_cases : (n : ℕ) → (n ≤ 65536 → min n 65536 ≡ n) × (65536 < n → min n 65536 ≡ 65536)
min_cases n = (λ h. omega arith, λ h. omega arith)

pub take_all : {A : Type 0} (n : ℕ) (xs : List A) → length xs ≤ n → take n xs ≡ xs
take_all zero [] h = refl
take_all zero (x ∷ xs) h = absurd (omega arith)
take_all (suc n) [] h = refl
take_all (suc n) (x ∷ xs) h = ap (λ ys. x ∷ ys) (take_all n xs (omega arith))

-- a piece is as many bytes as there are, up to 65,536
pub take_piece : (bytes : List ℕ) → take (min (length bytes) 65536) bytes ≡ take 65536 bytes
take_piece bytes = either (nat_le (length bytes) 65536) refl
  where
    few : length bytes ≤ 65536 → take (min (length bytes) 65536) bytes ≡ take 65536 bytes
    few h = ap (λ n. take n bytes) ((min_cases (length bytes)).0 h) ∙ take_all (length bytes) bytes (omega arith)
        ∙ sym (take_all 65536 bytes h)

    either : (b : Bool) → nat_le (length bytes) 65536 ≡ b → take (min (length bytes) 65536) bytes ≡ take 65536 bytes
    either true e = few (grind (arith, nat_tests))
    either false e = ap (λ n. take n bytes) ((min_cases (length bytes)).1 (grind (arith, nat_tests)))

pub drop_piece : (bytes : List ℕ) → drop (min (length bytes) 65536) bytes ≡ drop 65536 bytes
drop_piece bytes = either (nat_le (length bytes) 65536) refl
  where
    few : length bytes ≤ 65536 → drop (min (length bytes) 65536) bytes ≡ drop 65536 bytes
    few h = ap (λ n. drop n bytes) ((min_cases (length bytes)).0 h)
        ∙ drop_of_length-le bytes {i = length bytes} (omega arith) ∙ sym (drop_of_length-le bytes {i = 65536} h)

    either : (b : Bool) → nat_le (length bytes) 65536 ≡ b → drop (min (length bytes) 65536) bytes ≡ drop 65536 bytes
    either true e = few (grind (arith, nat_tests))
    either false e = ap (λ n. drop n bytes) ((min_cases (length bytes)).1 (grind (arith, nat_tests)))

-- all frames are left before the first was given
pub all_left : (rows : Tree) → frames_left [] rows (length rows) false ≡ frames rows
unfolding frames_left frames pieces_of
all_left rows = refl

-- none is left behind the end
pub none_left : (rest : List ℕ) (rows : Tree) (count : ℕ) → frames_left rest rows count true ≡ []
unfolding frames_left
none_left rest rows count = refl

-- the end comes behind all paths
pub end_left : (rest : List ℕ) (rows : Tree) (count : ℕ) → rest ≡ [] → rows ≡ []
    → frames_left rest rows count false ≡ End count ∷ frames_left rest rows count true
unfolding frames_left pieces_of
end_left rest rows count none last =
    ap (λ r. frames_left r rows count false) none ∙ ap (λ rs. frames_left [] rs count false) last

-- behind a file's pieces comes the next path
pub row_left : (rest : List ℕ) (row : List ℕ × Item) (rows : Tree) (count : ℕ) → rest ≡ []
    → frames_left rest (row ∷ rows) count false ≡ Entry row.0 (node_of row.1) ∷ frames_left (bytes_of row.1) rows count false
unfolding frames_left pieces_of
row_left rest row rows count none =
    ap (λ r. frames_left r (row ∷ rows) count false) none
    ∙ ap (λ fs. Entry row.0 (node_of row.1) ∷ fs)
    (append_assoc (map Piece (pieces (bytes_of row.1))) (flat_map row_frames rows) (End count ∷ []))

-- as long as bytes of a file are left, a piece of them comes next
pub piece_left : (rest : List ℕ) (rows : Tree) (count : ℕ) → 0 < length rest
    → frames_left rest rows count false ≡ Piece (take 65536 rest) ∷ frames_left (drop 65536 rest) rows count false
unfolding frames_left
piece_left rest rows count some = ap (λ ps. map Piece ps ++ (flat_map row_frames rows ++ End count ∷ [])) (pieces_first rest some)

-- ---- what is given of it

pub ended : (rest : List ℕ) (rows : Tree) (count : ℕ) (is_ended : Bool) (all : List Frame) → is_ended ≡ true
    → frames_left rest rows count is_ended ≡ all → all ≡ []
ended rest rows count is_ended all e is = sym is ∙ ap (λ b. frames_left rest rows count b) e ∙ none_left rest rows count

pub piece_given : (rest front behind : List ℕ) (rows : Tree) (count : ℕ) (is_ended : Bool) (all : List Frame) → is_ended ≡ false
    → 0 < length rest → front ≡ take 65536 rest → behind ≡ drop 65536 rest → frames_left rest rows count is_ended ≡ all
    → all ≡ Piece front ∷ frames_left behind rows count is_ended
piece_given rest front behind rows count is_ended all e some front_is behind_is is =
    sym is ∙ ap (λ b. frames_left rest rows count b) e ∙ piece_left rest rows count some
    ∙ ap (λ f. Piece f ∷ frames_left (drop 65536 rest) rows count false) (sym front_is)
    ∙ ap (λ b. Piece front ∷ frames_left b rows count false) (sym behind_is)
    ∙ ap (λ b. Piece front ∷ frames_left behind rows count b) (sym e)

no_rows : {A : Type 0} (xs : List A) → length xs < 1 → xs ≡ []
no_rows [] h = refl
no_rows (x ∷ xs) h = absurd (omega arith)

pub end_given : (rest : List ℕ) (rows : Tree) (count : ℕ) (is_ended : Bool) (all : List Frame) → is_ended ≡ false → rest ≡ []
    → length rows < 1 → frames_left rest rows count is_ended ≡ all → all ≡ End count ∷ frames_left rest rows count true
end_given rest rows count is_ended all e none few is =
    sym is ∙ ap (λ b. frames_left rest rows count b) e ∙ end_left rest rows count none (no_rows rows few)

pub row_given : (rest : List ℕ) (rows later : Tree) (row : List ℕ × Item) (path : List ℕ) (node : Node) (more : List ℕ) (count : ℕ)
    (is_ended : Bool) (all : List Frame) → is_ended ≡ false → rest ≡ [] → 1 ≤ length rows → row ≡ get_or rows 0 row
    → later ≡ take (length rows - 1) (drop 1 rows) → path ≡ row.0 → node ≡ node_of row.1 → more ≡ bytes_of row.1
    → frames_left rest rows count is_ended ≡ all → all ≡ Entry path node ∷ frames_left more later count is_ended
row_given rest [] later row path node more count is_ended all e none some first behind path_is node_is more_is is = absurd (omega arith)
row_given rest (r ∷ rows) later row path node more count is_ended all e none some first behind path_is node_is more_is is =
    let last : later ≡ rows = behind ∙ take_all (suc (length rows) - 1) rows (omega arith) in
    sym is ∙ ap (λ b. frames_left rest (r ∷ rows) count b) e ∙ row_left rest r rows count none
    ∙ ap (λ p. Entry p (node_of r.1) ∷ frames_left (bytes_of r.1) rows count false) (sym (path_is ∙ ap (λ x. x.0) first))
    ∙ ap (λ n. Entry path n ∷ frames_left (bytes_of r.1) rows count false) (sym (node_is ∙ ap (λ x. node_of x.1) first))
    ∙ ap (λ m. Entry path node ∷ frames_left m rows count false) (sym (more_is ∙ ap (λ x. bytes_of x.1) first))
    ∙ ap (λ rs. Entry path node ∷ frames_left more rs count false) (sym last)
    ∙ ap (λ b. Entry path node ∷ frames_left more later count b) (sym e)

-- a piece of some bytes has some, and at most 65,536
pub piece_fits : (rest front : List ℕ) → 0 < length rest → front ≡ take 65536 rest → (0 < length front) × (length front ≤ 65536)
piece_fits rest front some is =
    let n : length front ≡ min 65536 (length rest) = ap length is
    ∙ length-take 65536 rest in (omega (arith, n, some), omega (arith, n, some))

pub no_bytes : (bytes : List ℕ) → length bytes ≤ 0 → bytes ≡ []
no_bytes [] h = refl
no_bytes (byte ∷ bytes) h = absurd (omega arith)
