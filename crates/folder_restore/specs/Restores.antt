-- What a restore of a backup into a folder called and made, by how it ended.
--     Restored      it ran to its end
--     Stopped      it ended early
--     IsUncalled      it ended before the first call
use Rattle.std.specs.Prelude.{◌≡◌, ℕ, List, [], ◌∷◌, ◌++◌, true, Option, Some, is_some, Result, Ok, Err}
use Rattle.attr_records.specs.Items.{Tree, is_dir}
use Rattle.attr_records.specs.Trees.{IsTree}
use Rattle.tree_frames.specs.declared.nodes.Frame.{Frame}
use Rattle.tree_frames.specs.declared.nodes.Frame.TheVariants.{End}
use Rattle.tree_frames.specs.Frames.{frames}
use Rattle.receipts.specs.declared.session.SessionName.{SessionName}
use Rattle.office_model.specs.Step.{Call}
use Rattle.call_scripts.specs.Scripts.{Script, Begins, Follows, AreAnswered, EndRefused}
use Rattle.folder_laws.specs.Calls.{restore_calls, ArePlain}
use Rattle.folder_restore.specs.declared.refusals.RestoreRefusal.{RestoreRefusal}
use Rattle.folder_restore.specs.declared.refusals.RestoreRefusal.TheVariants as R
use Rattle.folder_restore.specs.RestoreScript.{restore_script}

-- A backup was made in a folder, with so many entries. The calls are the script to its end, each was answered, and they lead from the
-- port's state before to that after. If the folder tells its tree, and the frames that came are those of a tree, it tells this one then.
pub record Restored {P : Type 0} (moves : P → List Call → P → Type 0) (old new : P) (told told' : Option Tree) (host : List ℕ)
    (number count : ℕ) : Type 0 where
  pub calls : List Call
  pub moved : moves old calls new
  pub follows : Follows (restore_script host number) calls
  pub answered : AreAnswered calls
  pub restore : SessionName
  pub list : List Frame
  pub plain : ArePlain list
  pub calls_are : calls ≡ restore_calls host number restore list count
  pub whole : (tree : Tree) → IsTree is_dir tree → list ++ End count ∷ [] ≡ frames tree → is_some told ≡ true → told' ≡ Some tree

-- the calls begin a script and were answered, and more of it was left
pub record IsCutOff (next : Script) (calls : List Call) : Type 0 where
  pub begins : Begins next calls
  pub answered : AreAnswered calls
  pub left : is_some (next calls) ≡ true

-- the calls of a restore that ended early, by what ended it
abbrev pub StopsSo : List ℕ → ℕ → RestoreRefusal → List Call → Type 0
StopsSo host number (R.Refused refusal) calls = Follows (restore_script host number) calls × EndRefused refusal calls
StopsSo host number R.NotEmpty calls = calls ≡ []
StopsSo host number R.Folder calls = IsCutOff (restore_script host number) calls
StopsSo host number R.Memory calls = IsCutOff (restore_script host number) calls

-- A restore ended early: its calls lead from the port's state before to that after. They are the script up to a refusal, or what was
-- called of it before the folder failed or memory was wanting.
pub record Stopped {P : Type 0} (moves : P → List Call → P → Type 0) (old new : P) (host : List ℕ) (number : ℕ) (refusal : RestoreRefusal)
    : Type 0 where
  pub calls : List Call
  pub moved : moves old calls new
  pub stops : StopsSo host number refusal calls

-- what may be answered before the first call
abbrev pub IsUncalled : Result ℕ RestoreRefusal → Type 0
IsUncalled (Ok count) = ⊥
IsUncalled (Err (R.Refused refusal)) = ⊥
IsUncalled (Err R.NotEmpty) = Unit {0}
IsUncalled (Err R.Folder) = Unit {0}
IsUncalled (Err R.Memory) = Unit {0}
