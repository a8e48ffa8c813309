-- What a frame that fits calls are parts, and behind an End nothing is pending any more.
use Rattle.std.specs.Prelude.{◌≡◌, ◌-◌, ◌==◌, ℕ, min, nat_lt, Bool, true, false, List, [], ◌∷◌, ◌++◌, length, Some, None, if◌then◌else◌}
use Rattle.std.proofs.Common.{refl, subst}
use Rattle.tree_frames.specs.declared.nodes.FileNode.{FileNode}
use Rattle.tree_frames.specs.declared.nodes.Node.TheVariants as N
use Rattle.tree_frames.specs.declared.nodes.Frame.{Frame}
use Rattle.tree_frames.specs.declared.nodes.Frame.TheVariants.{Deleted, Entry, Piece, End}
use Rattle.receipts.specs.declared.session.SessionName.{SessionName}
use Rattle.office_model.specs.declared.event.Event.{Event}
use Rattle.office_model.specs.declared.event.Event.TheVariants as E
use Rattle.office_model.specs.Meaning.{Reply}
use Rattle.office_model.specs.Step.{Call}
use Rattle.folder_laws.specs.OfficeLaws.{some_is}
use Rattle.frame_puts.specs.declared.files.LargeFile.{LargeFile}
use Rattle.frame_puts.specs.declared.laying.Laying.{Laying}
use Rattle.frame_puts.specs.declared.laying.Laying.TheVariants.{Nothing, Small, Large, Ended}
use Rattle.frame_puts.specs.Steps.{Step, file_item, removal_step, whole_step, opening_step, waiting_step, file_step, node_step, end_step, more_step, last_step, piece_step, frame_step}
use Rattle.adopted_dumps.specs.Adopted.{IsPart, AdoptsNone, AdoptNone}

abbrev pub is_end : Frame → Bool
is_end (End count) = true
is_end frame = false

abbrev pub is_ended : Laying → Bool
is_ended Ended = true
is_ended laying = false

-- each is a part of a pull
abbrev pub AreParts : List Call → Type 0
AreParts [] = Unit {0}
AreParts (call ∷ calls) = IsPart call.0 × AreParts calls

pub AreParts-append : (xs ys : List Call) → AreParts xs → AreParts ys → AreParts (xs ++ ys)
AreParts-append [] ys a b = b
AreParts-append (x ∷ xs) ys a b = (a.0, AreParts-append xs ys a.1 b)

pub AreParts-front : (xs ys : List Call) → AreParts (xs ++ ys) → AreParts xs
AreParts-front [] ys a = tt
AreParts-front (x ∷ xs) ys a = (a.0, AreParts-front xs ys a.1)

pub AreParts-back : (xs ys : List Call) → AreParts (xs ++ ys) → AreParts ys
AreParts-back [] ys a = a
AreParts-back (x ∷ xs) ys a = AreParts-back xs ys a.1

pub part_adopts : (event : Event) (reply : Reply) → IsPart event → AdoptsNone event reply
part_adopts (E.Adopt dump number start end kind) reply part = absurd part
part_adopts event reply part = part

pub parts_adopt : (calls : List Call) → AreParts calls → AdoptNone calls
parts_adopt [] parts = tt
parts_adopt (call ∷ calls) parts = (part_adopts call.0 call.1 parts.0, parts_adopt calls parts.1)

pub AdoptNone-append : (xs ys : List Call) → AdoptNone xs → AdoptNone ys → AdoptNone (xs ++ ys)
AdoptNone-append [] ys a b = b
AdoptNone-append (x ∷ xs) ys a b = (a.0, AdoptNone-append xs ys a.1 b)

-- a step of parts, behind which nothing is pending if it is the end
abbrev pub IsFine : Bool → Step → Type 0
IsFine end step = (is_ended step.laying ≡ end) × AreParts step.calls

file_fine : (dump : SessionName) (path : List ℕ) (node : FileNode) (stage : ℕ) → IsFine false (file_step dump path node stage)
file_fine dump path node stage = by (nat_lt 65536 node.size) (nat_lt 0 node.size)
  where
    by : (a b : Bool) → IsFine false (if a then opening_step dump path node stage else if b then waiting_step path node else whole_step dump path (file_item node []))
    by true b = (refl, (tt, tt))
    by false true = (refl, tt)
    by false false = (refl, (tt, tt))

piece_fine : (dump : SessionName) (file : LargeFile) (bytes : List ℕ) (step : Step) → piece_step dump file bytes ≡ Some step → IsFine false step
piece_fine dump file bytes step e = by (length bytes == min 65536 file.left) (nat_lt (length bytes) file.left) e
  where
    by : (a b : Bool) → (if a then Some (if b then more_step file (file.left - length bytes) bytes else last_step dump file bytes) else None) ≡ Some step
        → IsFine false step
    by true true f = subst (IsFine false) (some_is (more_step file (file.left - length bytes) bytes) step f) (refl, (tt, tt))
    by true false f = subst (IsFine false) (some_is (last_step dump file bytes) step f) (refl, (tt, (tt, tt)))
    by false b f = absurd (cc)

pub frame_fine : (dump : SessionName) (laying : Laying) (stage : ℕ) (frame : Frame) (step : Step)
    → frame_step dump laying stage frame ≡ Some step → IsFine (is_end frame) step
frame_fine dump Nothing stage (Deleted path) step e = subst (IsFine false) (some_is (removal_step dump path) step e) (refl, (tt, tt))
frame_fine dump Nothing stage (Entry path (N.File node)) step e =
    subst (IsFine false) (some_is (file_step dump path node stage) step e) (file_fine dump path node stage)
frame_fine dump Nothing stage (Entry path (N.Dir dir)) step e =
    subst (IsFine false) (some_is (node_step dump path (N.Dir dir) stage) step e) (refl, (tt, tt))
frame_fine dump Nothing stage (Entry path (N.Link link)) step e =
    subst (IsFine false) (some_is (node_step dump path (N.Link link) stage) step e) (refl, (tt, tt))
frame_fine dump Nothing stage (Piece bytes) step e = absurd (cc)
frame_fine dump Nothing stage (End count) step e = subst (IsFine true) (some_is end_step step e) (refl, tt)
frame_fine dump (Small file) stage (Piece bytes) step e = by (length bytes == file.node.size) e
  where
    by : (b : Bool) → (if b then Some (whole_step dump file.path (file_item file.node bytes)) else None) ≡ Some step → IsFine false step
    by true f = subst (IsFine false) (some_is (whole_step dump file.path (file_item file.node bytes)) step f) (refl, (tt, tt))
    by false f = absurd (cc)
frame_fine dump (Small file) stage frame step e = absurd (cc)
frame_fine dump (Large file) stage (Piece bytes) step e = piece_fine dump file bytes step e
frame_fine dump (Large file) stage frame step e = absurd (cc)
frame_fine dump Ended stage frame step e = absurd (cc)
