-- The turns of an open restore, of which each makes one frame.
use Rattle.std.specs.Prelude.{◌≡◌, ℕ, List, [], ◌∷◌, ◌++◌, map, Option, Some, None}
use Rattle.attr_records.specs.Items.{Tree, is_dir}
use Rattle.attr_records.specs.Trees.{IsTree}
use Rattle.tree_frames.specs.declared.nodes.Frame.{Frame}
use Rattle.tree_frames.specs.declared.nodes.Frame.TheVariants.{Deleted, Entry, Piece, End}
use Rattle.tree_frames.specs.Frames.{frames}
use Rattle.receipts.specs.declared.session.SessionName.{SessionName}
use Rattle.office_model.specs.Step.{Call}
use Rattle.call_scripts.specs.Scripts.{Begins, EndRefused}
use Rattle.folder_laws.specs.Calls.{next_call, ArePlain}
use Rattle.folder_making.specs.Made.{Made, taken, made_of}
use Rattle.folder_making.specs.Holding.{Holds}
use Rattle.folder_making.specs.declared.making.Making.{Making}
use Rattle.folder_restore.specs.declared.refusals.RestoreRefusal.{RestoreRefusal}
use Rattle.folder_restore.specs.declared.refusals.RestoreRefusal.TheVariants as R
use Rattle.folder_restore.specs.RestoreScript.{read_script}
use Rattle.folder_restore.specs.Restores.{IsCutOff}

-- the number of entries, if a frame is the end
abbrev pub end_of : Frame → Option ℕ
end_of (Deleted path) = None
end_of (Entry path node) = None
end_of (Piece bytes) = None
end_of (End count) = Some count

-- a frame came, and was made
pub record Turned {P : Type 0} (moves : P → List Call → P → Type 0) (old new : P) (restore : SessionName) (told told' : Option Tree)
    (making making' : Making) (end : Option ℕ) : Type 0 where
  pub frame : Frame
  pub end_is : end ≡ end_of frame
  pub moved : moves old (next_call restore frame ∷ []) new
  pub makes : (made : Made) (more left : Tree) → Holds made more told making → made.rows ++ more ≡ (taken made frame).rows ++ left
      → Holds (taken made frame) left told' making'

-- the calls of an open restore that ended early, by what ended it
abbrev pub ReadStops : SessionName → RestoreRefusal → List Call → Type 0
ReadStops restore (R.Refused refusal) calls =
    Begins (read_script restore) calls × EndRefused refusal calls × (read_script restore calls ≡ None)
ReadStops restore R.NotEmpty calls = ⊥
ReadStops restore R.Folder calls = IsCutOff (read_script restore) calls
ReadStops restore R.Memory calls = IsCutOff (read_script restore) calls

-- an open restore ended early
pub record TurnStops {P : Type 0} (moves : P → List Call → P → Type 0) (old new : P) (restore : SessionName) (refusal : RestoreRefusal)
    : Type 0 where
  pub calls : List Call
  pub moved : moves old calls new
  pub stops : ReadStops restore refusal calls

-- so far each frame was made
pub record MakesSoFar {P : Type 0} (moves : P → List Call → P → Type 0) (old new : P) (restore : SessionName) (told told' : Option Tree)
    (making : Making) : Type 0 where
  pub list : List Frame
  pub plain : ArePlain list
  pub moved : moves old (map (next_call restore) list) new
  pub holds : (tree : Tree) (rest : List Frame) → IsTree is_dir tree → frames tree ≡ list ++ rest → told ≡ Some []
      → (more : Tree) × (tree ≡ (made_of list).rows ++ more) × Holds (made_of list) more told' making

-- each frame was made, up to the end
pub record MakesAll {P : Type 0} (moves : P → List Call → P → Type 0) (old new : P) (restore : SessionName) (told told' : Option Tree)
    (count : ℕ) : Type 0 where
  pub list : List Frame
  pub plain : ArePlain list
  pub moved : moves old (map (next_call restore) (list ++ End count ∷ [])) new
  pub whole : (tree : Tree) → IsTree is_dir tree → list ++ End count ∷ [] ≡ frames tree → told ≡ Some [] → told' ≡ Some tree
