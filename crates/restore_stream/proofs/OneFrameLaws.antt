-- Reading a frame by itself, and what was read.
use Rattle.std.specs.Prelude.{⊤, ◌≡◌, ℕ, ◌<◌, ◌≤◌, ◌==◌, Bool, true, false, List, [], ◌∷◌, ◌++◌, length, Option, Some, None, Ok, Err}
use Rattle.std.specs.Int.{w8}
use Rattle.std.proofs.Common.{refl, sym, ap, subst, ◌∙◌, arith}
use Rattle.std.proofs.lemmas.List.{append-nil}
use borrow.Author.Tests.{eqb-true}
use Rattle.std.proofs.lemmas.Bool.Decides.{nat_tests}
use Rattle.wire_bytes.specs.Layout.{number_bytes}
use Rattle.attr_records.specs.Attributes.{Attributes}
use Rattle.attr_records.specs.PathRuleLaws.{short_path}
use Rattle.attr_records.specs.NameLaws.{short_target}
use Rattle.tree_frames.specs.declared.nodes.Node.{Node}
use Rattle.tree_frames.specs.declared.nodes.Node.TheVariants as N
use Rattle.tree_frames.specs.declared.nodes.Frame.{Frame}
use Rattle.tree_frames.specs.declared.nodes.Frame.TheVariants.{Deleted, Entry, Piece, End}
use Rattle.restore_stream.specs.declared.faults.ReadStreamFault.{ReadStreamFault}
use Rattle.restore_stream.specs.declared.faults.ReadStreamFault.TheVariants as F
use Rattle.restore_stream.specs.Layouts.{kind_of, frame_bytes}
use Rattle.restore_stream.specs.Trees.{IsAttr}
use Rattle.restore_stream.specs.Cuts.{Layout, field, followed_by, seen_as, chosen}
use Rattle.restore_stream.specs.Reading.{Finds, Refuses, Reads, ReadsExactly}
use Rattle.restore_stream.specs.Streams.{limited, u8_field, u32_field, text_field16, bytes_field_of, IsKind, attr_layout, node_layout, entry_of}
use Rattle.restore_stream.specs.OneFrame.{IsPath, IsNodeInRange, IsPieceLength, IsFrameInRange, IsFrameOf, tag_of, IsFrameTag, deleted_layout, entry_frame_layout, piece_frame_layout, end_frame_layout, behind_tag, frame_layout}
use Rattle.restore_stream.proofs.ReadingLaws.{limited_refuses, limited_fits, first_refuses, then_refuses, then_finds, seen_refuses, seen_finds}
use Rattle.restore_stream.proofs.EntryLaws.{same_start, kind_refuses, path_refuses, node_refuses, entry_came}
use Rattle.restore_stream.proofs.RowReading.{print_of_entry}
use Rattle.restore_stream.proofs.FitLaws.{attr_fits}
use Rattle.restore_stream.proofs.StreamLaws.{read_exactly_from}

-- ---- what stands behind the first byte

pub deleted_came : {old new : Option (List ℕ)} {path : List ℕ} → Finds (text_field16 IsPath) old path new
    → Finds deleted_layout old (Deleted path) new
unfolding deleted_layout
deleted_came p = seen_finds _ _ _ _ refl p

pub deleted_refuses : {start : ℕ} {old : Option (List ℕ)} {fault : ReadStreamFault} → Refuses (text_field16 IsPath) start old fault
    → Refuses deleted_layout start old fault
unfolding deleted_layout
deleted_refuses r = seen_refuses _ _ _ r

pub entry_frame_came : {old a b new : Option (List ℕ)} {kind : ℕ} {path : List ℕ} {node : Node} → Finds (u8_field IsKind) old kind a
    → Finds (text_field16 IsPath) a path b → Finds (node_layout kind) b node new → Finds entry_frame_layout old (Entry path node) new
unfolding entry_frame_layout
entry_frame_came k p n = seen_finds _ _ _ _ refl (entry_came IsPath k p n)

pub entry_frame_refuses : {start : ℕ} {old : Option (List ℕ)} {fault : ReadStreamFault} → Refuses (entry_of IsPath) start old fault
    → Refuses entry_frame_layout start old fault
unfolding entry_frame_layout
entry_frame_refuses r = seen_refuses _ _ _ r

pub piece_frame_came : {old a new : Option (List ℕ)} {count : ℕ} {bytes : List ℕ} → Finds (u32_field IsPieceLength) old count a
    → Finds (bytes_field_of count (λ _. ⊤)) a bytes new → Finds piece_frame_layout old (Piece bytes) new
unfolding piece_frame_layout
piece_frame_came {count = count} {bytes = bytes} c b =
    let len : length bytes ≡ count = (limited_fits _ _ _ _ b).0 in
    seen_finds _ _ _ (Piece bytes) (λ i. Some (len i, bytes)) (then_finds _ _ c b)

pub length_refuses : {start : ℕ} {old : Option (List ℕ)} {fault : ReadStreamFault} → Refuses (u32_field IsPieceLength) start old fault
    → Refuses piece_frame_layout start old fault
unfolding piece_frame_layout
length_refuses r = seen_refuses _ _ _ (first_refuses _ _ r)

pub bytes_refuse : {old a : Option (List ℕ)} {fault : ReadStreamFault} {count : ℕ} → Finds (u32_field IsPieceLength) old count a
    → Refuses (bytes_field_of count (λ _. ⊤)) 0 a fault → Refuses piece_frame_layout 0 old fault
unfolding piece_frame_layout
bytes_refuse c r = seen_refuses _ _ _ (then_refuses _ _ c (same_start 0) r)

pub end_came : {old new : Option (List ℕ)} {count : ℕ} → Finds (u32_field (λ _. ⊤)) old count new → Finds end_frame_layout old (End count) new
unfolding end_frame_layout
end_came c = seen_finds _ _ _ _ refl c

pub end_frame_refuses : {start : ℕ} {old : Option (List ℕ)} {fault : ReadStreamFault} → Refuses (u32_field (λ _. ⊤)) start old fault
    → Refuses end_frame_layout start old fault
unfolding end_frame_layout
end_frame_refuses r = seen_refuses _ _ _ r

-- ---- the layout of each first byte

pub behind_deleted : (tag : ℕ) → tag ≡ 88 → behind_tag tag ≡ deleted_layout
unfolding behind_tag
behind_deleted tag e =
    ap (λ t. chosen (t == 88) deleted_layout (chosen (t == 69) entry_frame_layout (chosen (t == 68) piece_frame_layout end_frame_layout))) e

pub behind_entry : (tag : ℕ) → tag ≡ 69 → behind_tag tag ≡ entry_frame_layout
unfolding behind_tag
behind_entry tag e =
    ap (λ t. chosen (t == 88) deleted_layout (chosen (t == 69) entry_frame_layout (chosen (t == 68) piece_frame_layout end_frame_layout))) e

pub behind_piece : (tag : ℕ) → tag ≡ 68 → behind_tag tag ≡ piece_frame_layout
unfolding behind_tag
behind_piece tag e =
    ap (λ t. chosen (t == 88) deleted_layout (chosen (t == 69) entry_frame_layout (chosen (t == 68) piece_frame_layout end_frame_layout))) e

pub behind_end : (tag : ℕ) → (tag == 88) ≡ false → (tag == 69) ≡ false → (tag == 68) ≡ false → behind_tag tag ≡ end_frame_layout
unfolding behind_tag
behind_end tag x e d =
    ap (λ b. chosen b deleted_layout (chosen (tag == 69) entry_frame_layout (chosen (tag == 68) piece_frame_layout end_frame_layout))) x
    ∙ ap (λ b. chosen b entry_frame_layout (chosen (tag == 68) piece_frame_layout end_frame_layout)) e
    ∙ ap (λ b. chosen b piece_frame_layout end_frame_layout) d

deleted_tag : (frame : Frame) → deleted_layout.Fits frame → tag_of frame ≡ 88
unfolding deleted_layout seen_as
deleted_tag (Deleted path) h = refl
deleted_tag (Entry path node) h = absurd h
deleted_tag (Piece bytes) h = absurd h
deleted_tag (End count) h = absurd h

entry_tag : (frame : Frame) → entry_frame_layout.Fits frame → tag_of frame ≡ 69
unfolding entry_frame_layout seen_as
entry_tag (Deleted path) h = absurd h
entry_tag (Entry path node) h = refl
entry_tag (Piece bytes) h = absurd h
entry_tag (End count) h = absurd h

piece_tag : (frame : Frame) → piece_frame_layout.Fits frame → tag_of frame ≡ 68
unfolding piece_frame_layout seen_as
piece_tag (Deleted path) h = absurd h
piece_tag (Entry path node) h = absurd h
piece_tag (Piece bytes) h = refl
piece_tag (End count) h = absurd h

end_tag : (frame : Frame) → end_frame_layout.Fits frame → tag_of frame ≡ 90
unfolding end_frame_layout seen_as
end_tag (Deleted path) h = absurd h
end_tag (Entry path node) h = absurd h
end_tag (Piece bytes) h = absurd h
end_tag (End count) h = refl

last_tag : (tag : ℕ) → IsFrameTag tag → (tag == 88) ≡ false → (tag == 69) ≡ false → (tag == 68) ≡ false → tag ≡ 90
last_tag tag is x e d = grind (arith, nat_tests)

-- a frame that fits behind a first byte begins with it
tag_is : (tag : ℕ) (frame : Frame) → IsFrameTag tag → (behind_tag tag).Fits frame → tag_of frame ≡ tag
tag_is tag frame is fits = step (tag == 88) refl (tag == 69) refl (tag == 68) refl
  where
    moved : (layout : Layout Frame) → behind_tag tag ≡ layout → layout.Fits frame
    moved layout same = subst (λ (l : Layout Frame). l.Fits frame) same fits

    step : (x : Bool) → (tag == 88) ≡ x → (e : Bool) → (tag == 69) ≡ e → (d : Bool) → (tag == 68) ≡ d → tag_of frame ≡ tag
    step true at e other d last =
        let one : tag ≡ 88 = eqb-true tag 88 at in
        deleted_tag frame (moved deleted_layout (behind_deleted tag one)) ∙ sym one
    step false at true other d last =
        let one : tag ≡ 69 = eqb-true tag 69 other in
        entry_tag frame (moved entry_frame_layout (behind_entry tag one)) ∙ sym one
    step false at false other true last =
        let one : tag ≡ 68 = eqb-true tag 68 last in
        piece_tag frame (moved piece_frame_layout (behind_piece tag one)) ∙ sym one
    step false at false other false last =
        end_tag frame (moved end_frame_layout (behind_end tag at other last)) ∙ sym (last_tag tag is at other last)

-- ---- a frame

pub frame_tag_refuses : {start : ℕ} {old : Option (List ℕ)} {fault : ReadStreamFault} → Refuses (u8_field IsFrameTag) start old fault
    → Refuses frame_layout start old fault
unfolding frame_layout
frame_tag_refuses r = seen_refuses _ _ _ (first_refuses _ _ r)

pub behind_refuses : {old a : Option (List ℕ)} {fault : ReadStreamFault} {tag : ℕ} → Finds (u8_field IsFrameTag) old tag a
    → Refuses (behind_tag tag) 0 a fault → Refuses frame_layout 0 old fault
unfolding frame_layout
behind_refuses t r = seen_refuses _ _ _ (then_refuses _ _ t (same_start 0) r)

pub frame_came : {old a new : Option (List ℕ)} {tag : ℕ} {frame : Frame} → Finds (u8_field IsFrameTag) old tag a
    → Finds (behind_tag tag) a frame new → Finds frame_layout old frame new
unfolding frame_layout
frame_came {tag = tag} {frame = frame} t f =
    let is : tag_of frame ≡ tag = tag_is tag frame (limited_fits _ _ _ _ t).1 f.fits in
    seen_finds _ _ _ frame (λ i. Some (is i, frame)) (then_finds _ _ t f)

-- its print
pub frame_print : (frame : Frame) → frame_layout.print frame ≡ frame_bytes frame
unfolding frame_layout behind_tag deleted_layout entry_frame_layout piece_frame_layout end_frame_layout seen_as followed_by limited field
frame_print (Deleted path) = refl
frame_print (Entry path node) = ap (λ bytes. number_bytes w8 69 ++ bytes) (print_of_entry IsPath path node)
frame_print (Piece bytes) = refl
frame_print (End count) = refl

-- ---- ranges

node_fits : (node : Node) → IsNodeInRange node → (node_layout (kind_of node)).Fits node
unfolding node_layout seen_as followed_by limited field
node_fits (N.File file) is = (attr_fits file.attr is.0, ((is.1, tt), (is.2, tt)))
node_fits (N.Dir dir) is = attr_fits dir.attr is
node_fits (N.Link link) is =
    let n : length link.target ≤ 4096 = short_target link.target is.1 in (attr_fits link.attr is.0, (omega (arith, n), is.1))

kind_fits : (node : Node) → (kind_of node < 256) × IsKind (kind_of node)
kind_fits (N.File file) = (omega arith, (omega arith, omega arith))
kind_fits (N.Dir dir) = (omega arith, (omega arith, omega arith))
kind_fits (N.Link link) = (omega arith, (omega arith, omega arith))

entry_fits : (path : List ℕ) (node : Node) → IsPath path → IsNodeInRange node → (entry_of IsPath).Fits (path, node)
unfolding entry_of seen_as followed_by limited field
entry_fits path node is node_is =
    let n : length path ≤ 4096 = short_path path is in
    (kind_fits node, ((omega (arith, n), is), node_fits node node_is))

frame_fits : (frame : Frame) → IsFrameInRange frame → frame_layout.Fits frame
unfolding frame_layout behind_tag deleted_layout entry_frame_layout piece_frame_layout end_frame_layout seen_as followed_by limited field
frame_fits (Deleted path) is =
    let n : length path ≤ 4096 = short_path path is in ((omega arith, refl), (omega (arith, n), is))
frame_fits (Entry path node) is = ((omega arith, refl), entry_fits path node is.0 is.1)
frame_fits (Piece bytes) is = ((omega arith, refl), ((omega (arith, is.1), is), (refl, tt)))
frame_fits (End count) is = ((omega arith, refl), (is, tt))

attr_within : (attr : Attributes) → attr_layout.Fits attr → IsAttr attr
unfolding attr_layout seen_as followed_by limited field
attr_within attr fits = record {
  mode = fits.0.1;
  uid = fits.1.0.0;
  gid = fits.1.1.0.0;
  mtime = fits.1.1.1.0.0;
  nanos = fits.1.1.1.1.1;
}

node_within : (node : Node) → (node_layout (kind_of node)).Fits node → IsNodeInRange node
unfolding node_layout seen_as followed_by limited field
node_within (N.File file) fits = (attr_within file.attr fits.0, fits.1.0.0, fits.1.1.0)
node_within (N.Dir dir) fits = attr_within dir.attr fits
node_within (N.Link link) fits = (attr_within link.attr fits.0, fits.1.1)

entry_within : (path : List ℕ) (node : Node) → (entry_of IsPath).Fits (path, node) → IsPath path × IsNodeInRange node
unfolding entry_of seen_as followed_by limited field
entry_within path node fits = (fits.1.0.1, node_within node fits.1.1)

frame_within : (frame : Frame) → frame_layout.Fits frame → IsFrameInRange frame
unfolding frame_layout behind_tag deleted_layout entry_frame_layout piece_frame_layout end_frame_layout seen_as followed_by limited field
frame_within (Deleted path) fits = fits.1.1
frame_within (Entry path node) fits = entry_within path node fits.1
frame_within (Piece bytes) fits = fits.1.0.1
frame_within (End count) fits = fits.1.0

-- ---- all of the bytes

printed : (bytes : List ℕ) (frame : Frame) → bytes ≡ frame_bytes frame → Some bytes ≡ Some (frame_layout.print frame ++ [])
printed bytes frame e = ap Some (e ∙ sym (frame_print frame) ∙ sym (append-nil (frame_layout.print frame)))

-- nothing is left behind the frame
pub found_frame : (bytes left : List ℕ) (frame : Frame) (old : Option (List ℕ)) → old ≡ Some bytes → left ≡ []
    → Finds frame_layout old frame (Some left) → IsFrameOf bytes (Some frame)
found_frame bytes left frame old here none found =
    let first : Finds frame_layout (Some bytes) frame (Some left) = subst (λ (o : Option (List ℕ)). Finds frame_layout o frame (Some left)) here found in
    let took : Some bytes ≡ Some (frame_layout.print frame ++ left) = first.took in
    let is : bytes ≡ frame_layout.print frame ++ left = cc in
    let exact = read_exactly_from frame_layout (λ (f : Frame). f) (Some bytes) (Some left) (Ok frame) first in (
      frame_within frame first.fits,
      is ∙ ap (λ rest. frame_layout.print frame ++ rest) none ∙ append-nil (frame_layout.print frame) ∙ frame_print frame,
      λ other range e. sym (exact.back other [] (frame_fits other range) (printed bytes other e)).0,
    )

-- something is
pub more_left : (bytes left : List ℕ) (frame : Frame) (old : Option (List ℕ)) → old ≡ Some bytes → (left ≡ [] → ⊥)
    → Finds frame_layout old frame (Some left) → IsFrameOf bytes None
more_left bytes left frame old here some found = λ other range e.
    let exact = read_exactly_from frame_layout (λ (f : Frame). f) old (Some left) (Ok frame) found in
    some (let h : Some left ≡ Some [] = (exact.back other [] (frame_fits other range) (here ∙ printed bytes other e)).1 in cc)

-- no frame stands there
pub none_stands : (bytes : List ℕ) (offset : ℕ) (fault : ReadStreamFault) (old : Option (List ℕ)) → fault ≡ F.BadStream offset
    → old ≡ Some bytes → Refuses frame_layout 0 old fault → IsFrameOf bytes None
none_stands bytes offset fault old is here refused = λ other range e.
    let r : Refuses frame_layout 0 old (F.BadStream offset) = subst (λ (f : ReadStreamFault). Refuses frame_layout 0 old f) is refused in
    let exact = read_exactly_from {X = Frame} frame_layout (λ (f : Frame). f) old old (Err (F.BadStream offset)) r in
    exact.back other [] (frame_fits other range) (here ∙ printed bytes other e)

-- the bytes end in it
pub is_cut : (bytes : List ℕ) (fault : ReadStreamFault) (old : Option (List ℕ)) → fault ≡ F.Ended → old ≡ Some bytes
    → Refuses frame_layout 0 old fault → IsFrameOf bytes None
is_cut bytes fault old is here refused = λ other range e.
    let r : Refuses frame_layout 0 old F.Ended = subst (λ (f : ReadStreamFault). Refuses frame_layout 0 old f) is refused in
    let exact = read_exactly_from {X = Frame} frame_layout (λ (f : Frame). f) old old (Err F.Ended) r in
    exact.back other [] (frame_fits other range) (here ∙ printed bytes other e)
