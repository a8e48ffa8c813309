-- The print of a tree by the layouts is the magic and its frames.
use Rattle.std.specs.Prelude.{◌≡◌, ℕ, zero, suc, ◌+◌, ◌-◌, ◌≤◌, min, List, [], ◌∷◌, ◌++◌, map, length, take, drop, Option, Some, None}
use Rattle.std.specs.Int.{w8, w32}
use Rattle.std.specs.List.{flat_map, concat}
use Rattle.std.proofs.Common.{refl, sym, ap, ◌∙◌, append_assoc, length-append, arith}
use Rattle.std.proofs.lemmas.List.{append-nil, length-take, length-drop}
use Rattle.std.proofs.lemmas.Grind.{flat_map-append}
use Rattle.wire_bytes.specs.Layout.{number_bytes}
use Rattle.attr_records.specs.declared.nodes.Item.{Item}
use Rattle.attr_records.specs.declared.nodes.Item.TheVariants as I
use Rattle.attr_records.specs.Items.{Tree}
use Rattle.tree_frames.specs.declared.nodes.Frame.TheVariants.{Piece, End}
use Rattle.tree_frames.specs.Frames.{node_of, bytes_of, pieces_of, pieces, row_frames, frames}
use Rattle.restore_stream.specs.Layouts.{entry_bytes, frame_bytes, frames_bytes, stream_bytes, magic}
use Rattle.restore_stream.specs.Cuts.{Layout, field, nothing, followed_by, seen_as}
use Rattle.restore_stream.specs.Sequences.{all_print, sequence}
use Rattle.restore_stream.specs.Streams.{limited, piece_layout, piece_step, pieces_layout, size_of, row_layout, row_step, end_layout, rows_layout, stream_layout}
use Rattle.restore_stream.proofs.PieceReading.{step_more, step_done, concat-snoc}
use Rattle.restore_stream.proofs.RowReading.{entry_print}

no_end : (size : ℕ) (done : List (List ℕ)) → size ≤ length (concat done) → (piece_step size done).print None ≡ []
unfolding nothing
no_end size done all = ap (λ (l : Layout (Option (List ℕ))). l.print None) (step_done size done all)

piece_bytes : (size : ℕ) (done : List (List ℕ)) (piece : List ℕ) → length (concat done) + 1 ≤ size
    → (piece_step size done).print (Some piece) ≡ frame_bytes (Piece piece)
unfolding piece_layout seen_as followed_by limited field
piece_bytes size done piece some =
    ap (λ (l : Layout (Option (List ℕ))). l.print (Some piece))
    (step_more size (min 65536 (size - length (concat done))) done (omega (arith, some)) refl)

pub fewer : (m n l : ℕ) → m ≡ suc l - 65536 → suc l ≤ suc n → m ≤ n
fewer m n l e h = omega (arith, e, h)

pub sums : (c d p m l size : ℕ) → c ≡ d + p → p ≡ min 65536 (suc l) → m ≡ suc l - 65536 → d + suc l ≡ size → c + m ≡ size
sums c d p m l size a b e sum = omega (arith, a, b, e, sum)

pub some : (d l size : ℕ) → d + suc l ≡ size → d + 1 ≤ size
some d l size sum = omega (arith, sum)

pieces_bytes_of : (n size : ℕ) (done : List (List ℕ)) (bytes : List ℕ) → length bytes ≤ n → length (concat done) + length bytes ≡ size
    → all_print (piece_step size) done (pieces_of n bytes) ≡ frames_bytes (map Piece (pieces_of n bytes))
unfolding pieces_of
pieces_bytes_of zero size done [] h sum = no_end size done (omega (arith, sum))
pieces_bytes_of zero size done (b ∷ bs) h sum = absurd (omega arith)
pieces_bytes_of (suc n) size done [] h sum = no_end size done (omega (arith, sum))
pieces_bytes_of (suc n) size done (b ∷ bs) h sum =
    let c : length (concat (done ++ take 65536 (b ∷ bs) ∷ [])) ≡ length (concat done) + length (take 65536 (b ∷ bs)) =
    ap length (concat-snoc done (take 65536 (b ∷ bs))) ∙ length-append (concat done) (take 65536 (b ∷ bs)) in
    (λ i. piece_bytes size done (take 65536 (b ∷ bs)) (some (length (concat done)) (length bs) size sum) i
    ++ pieces_bytes_of n size (done ++ take 65536 (b ∷ bs) ∷ []) (drop 65536 (b ∷ bs))
    (fewer _ n (length bs) (length-drop 65536 (b ∷ bs)) h)
    (sums _ _ _ _ (length bs) size c (length-take 65536 (b ∷ bs)) (length-drop 65536 (b ∷ bs)) sum) i)

pieces_bytes : (bytes : List ℕ) → (pieces_layout (length bytes)).print (pieces bytes) ≡ frames_bytes (map Piece (pieces bytes))
unfolding pieces_layout sequence
pieces_bytes bytes = pieces_bytes_of (length bytes) (length bytes) [] bytes (omega arith) (omega arith)

pub size_is : (item : Item) → size_of (node_of item) ≡ length (bytes_of item)
size_is (I.File file) = refl
size_is (I.Dir dir) = refl
size_is (I.Link link) = refl

row_bytes : (front : Tree) (row : List ℕ × Item) → (row_step front).print (Some row) ≡ frames_bytes (row_frames row)
unfolding row_step row_layout seen_as followed_by limited field
row_bytes front row =
    let bytes = bytes_of row.1 in
    let p : (pieces_layout (size_of (node_of row.1))).print (pieces bytes) ≡ frames_bytes (map Piece (pieces bytes)) =
    ap (λ n. (pieces_layout n).print (pieces bytes)) (size_is row.1) ∙ pieces_bytes bytes in
    (λ i. number_bytes w8 69 ++ (entry_print front row.0 (node_of row.1) i ++ p i))
    ∙ sym (append_assoc (number_bytes w8 69) (entry_bytes (row.0, node_of row.1)) (frames_bytes (map Piece (pieces bytes))))

end_bytes : (front : Tree) → (row_step front).print None ≡ frames_bytes (End (length front) ∷ [])
unfolding row_step end_layout seen_as followed_by limited field
end_bytes front = sym (append-nil (number_bytes w8 90 ++ number_bytes w32 (length front)))

rows_bytes : (front rows : Tree)
    → all_print row_step front rows ≡ frames_bytes (flat_map row_frames rows ++ End (length (front ++ rows)) ∷ [])
rows_bytes front [] = end_bytes front ∙ ap (λ (t : Tree). frames_bytes (End (length t) ∷ [])) (sym (append-nil front))
rows_bytes front (row ∷ rows) =
    (λ i. row_bytes front row i ++ rows_bytes (front ++ row ∷ []) rows i)
    ∙ ap (λ (t : Tree). frames_bytes (row_frames row) ++ frames_bytes (flat_map row_frames rows ++ End (length t) ∷ []))
    (append_assoc front (row ∷ []) rows)
    ∙ sym (flat_map-append frame_bytes (row_frames row) (flat_map row_frames rows ++ End (length (front ++ row ∷ rows)) ∷ []))
    ∙ ap frames_bytes (sym (append_assoc (row_frames row) (flat_map row_frames rows) (End (length (front ++ row ∷ rows)) ∷ [])))

-- the stream of a tree is its print
pub stream_print : (tree : Tree) → stream_layout.print tree ≡ stream_bytes tree
unfolding stream_layout rows_layout sequence seen_as followed_by limited field stream_bytes frames
stream_print tree = ap (λ bytes. magic ++ bytes) (rows_bytes [] tree)
