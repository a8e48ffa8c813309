-- The calls of many frames, one after the other, and what those of a tree come to.
--     Lays      these calls, each answered, are those of the frames
--     Fits      each of the frames fits
--     AreLaid      rows were put: a file of more than 65,536 bytes by a stage, all else with its bytes
--     LaysTree, FitsTree      what holds of the frames that lead from a base to a tree
use Rattle.std.specs.Prelude.{◌≡◌, ℕ, nat_lt, List, [], ◌∷◌, ◌++◌, length, map, Option, Some}
use Rattle.attr_records.specs.declared.nodes.Item.{Item}
use Rattle.attr_records.specs.declared.nodes.Item.TheVariants as I
use Rattle.attr_records.specs.Items.{Tree}
use Rattle.tree_frames.specs.declared.nodes.Frame.{Frame}
use Rattle.tree_frames.specs.Frames.{removals_of, entries_of, frames_since}
use Rattle.receipts.specs.declared.session.SessionName.{SessionName}
use Rattle.office_model.specs.Step.{Call}
use Rattle.folder_laws.specs.Calls.{put_call, file_calls, remove_calls}
use Rattle.frame_puts.specs.declared.laying.Laying.{Laying}
use Rattle.frame_puts.specs.declared.laying.Laying.TheVariants.{Nothing, Ended}
use Rattle.frame_puts.specs.Steps.{Step, frame_step}

-- these calls are those of the frames, each by some number of a stage, and this is pending behind them
abbrev pub Lays : SessionName → Laying → List Frame → List Call → Laying → Type 0
Lays dump old [] calls new = (calls ≡ []) × (new ≡ old)
Lays dump old (frame ∷ frames) calls new =
    (stage : ℕ) × (step : Step) × (more : List Call) × (frame_step dump old stage frame ≡ Some step) × (calls ≡ step.calls ++ more)
    × Lays dump step.laying frames more new

-- each of the frames fits what is pending behind those before it, whatever numbers stages get
abbrev pub Fits : SessionName → Laying → List Frame → Type 0
Fits dump laying [] = Unit {0}
Fits dump laying (frame ∷ frames) =
    (stage : ℕ) → (step : Step) × (frame_step dump laying stage frame ≡ Some step) × Fits dump step.laying frames

-- the calls of a row, by the number of its stage if it goes by one
abbrev pub row_calls : SessionName → List ℕ → Item → (stage : ℕ) → List Call
row_calls dump path (I.File file) stage = file_calls (nat_lt 65536 (length file.bytes)) dump path file stage
row_calls dump path (I.Dir dir) stage = put_call dump path (I.Dir dir) ∷ []
row_calls dump path (I.Link link) stage = put_call dump path (I.Link link) ∷ []

-- these calls put a row
abbrev pub IsLaid : SessionName → List ℕ × Item → List Call → Type 0
IsLaid dump row calls = (stage : ℕ) × (calls ≡ row_calls dump row.0 row.1 stage)

-- these put rows, one after the other
abbrev pub AreLaid : SessionName → Tree → List Call → Type 0
AreLaid dump [] calls = calls ≡ []
AreLaid dump (row ∷ rows) calls =
    (first : List Call) × (rest : List Call) × IsLaid dump row first × (calls ≡ first ++ rest) × AreLaid dump rows rest

-- the paths of rows
abbrev pub paths_of : Tree → List (List ℕ)
paths_of rows = map (λ row. row.0) rows

-- what leads from a base to a tree was called: each topmost path that was lost is removed, then each row that the base hasn't so is put
pub record LaidSince (dump : SessionName) (base : Option Tree) (tree : Tree) (calls : List Call) : Type 0 where
  pub puts : List Call
  pub are_puts : AreLaid dump (entries_of base tree) puts
  pub calls_are : calls ≡ remove_calls dump (paths_of (removals_of base tree)) ++ puts

-- the frames that lead from a base to a tree call just that, and behind them nothing is pending
abbrev pub LaysTree : Type 0
LaysTree =
    (dump : SessionName) (base : Option Tree) (tree : Tree) (calls : List Call) (new : Laying)
    → Lays dump Nothing (frames_since base tree) calls new → LaidSince dump base tree calls × (new ≡ Ended)

-- none of them is foreign
abbrev pub FitsTree : Type 0
FitsTree = (dump : SessionName) (base : Option Tree) (tree : Tree) → Fits dump Nothing (frames_since base tree)

-- one more frame behind those that were laid
abbrev pub LaysMore : Type 0
LaysMore =
    (dump : SessionName) (old mid : Laying) (frames : List Frame) (frame : Frame) (calls : List Call) (stage : ℕ) (step : Step)
    → Lays dump old frames calls mid → frame_step dump mid stage frame ≡ Some step
    → Lays dump old (frames ++ frame ∷ []) (calls ++ step.calls) step.laying

-- behind the first frames of those that fit the next one fits
abbrev pub FitsNext : Type 0
FitsNext =
    (dump : SessionName) (old mid : Laying) (done : List Frame) (frame : Frame) (rest : List Frame) (calls : List Call)
    → Lays dump old done calls mid → Fits dump old (done ++ frame ∷ rest) → (stage : ℕ)
    → (step : Step) × (frame_step dump mid stage frame ≡ Some step)
