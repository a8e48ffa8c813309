-- The script of a restore into a folder: which event is called next.
--     read_script      the frames of an open restore are asked for up to the end, and then it is closed
--     restore_script      it is opened first
use Rattle.std.specs.Prelude.{ℕ, List, [], ◌∷◌, Some, None, Ok}
use Rattle.tree_frames.specs.declared.nodes.Frame.TheVariants.{Deleted, Entry, Piece, End}
use Rattle.receipts.specs.declared.session.SessionName.{SessionName}
use Rattle.office_model.specs.declared.event.Event.TheVariants as E
use Rattle.office_model.specs.declared.answer.Answer.TheVariants as A
use Rattle.call_scripts.specs.Scripts.{Script, one_call}

-- an open restore; nothing is called behind a refusal
abbrev pub read_script : SessionName → Script
read_script restore [] = Some (E.ReadNext restore)
read_script restore ((asked, Ok (A.Next (Deleted path))) ∷ calls) = read_script restore calls
read_script restore ((asked, Ok (A.Next (Entry path node))) ∷ calls) = read_script restore calls
read_script restore ((asked, Ok (A.Next (Piece bytes))) ∷ calls) = read_script restore calls
read_script restore ((asked, Ok (A.Next (End count))) ∷ calls) = one_call (E.CloseRead restore) calls
read_script restore (call ∷ calls) = None

-- a restore of a host's backup
abbrev pub restore_script : List ℕ → ℕ → Script
restore_script host number [] = Some (E.OpenRead host number None)
restore_script host number ((asked, Ok (A.Restore restore)) ∷ calls) = read_script restore calls
restore_script host number (call ∷ calls) = None
