-- What the folder commands say on the link.
use Rattle.std.specs.Prelude.{ℕ, List, ◌++◌, codes, decimal, Option, Some, None, Result, Ok, Err}
use Rattle.folder_walk.specs.declared.refusals.DumpRefusal.{DumpRefusal}
use Rattle.folder_restore.specs.declared.refusals.RestoreRefusal.{RestoreRefusal}

unfoldable pub committed_line : (host : List ℕ) (number : ℕ) → List ℕ
committed_line host number = codes "committed " ++ host ++ codes " " ++ decimal number ++ codes "\n"

unfoldable pub restored_line : (host : List ℕ) (number entries : ℕ) → List ℕ
restored_line host number entries =
    codes "restored " ++ host ++ codes " " ++ decimal number ++ codes " " ++ decimal entries ++ codes "\n"

-- nothing is said of a command that was refused
abbrev pub text_of_dump : (host : List ℕ) → Result ℕ DumpRefusal → Option (List ℕ)
text_of_dump host (Ok number) = Some (committed_line host number)
text_of_dump host (Err refusal) = None

abbrev pub text_of_restore : (host : List ℕ) (number : ℕ) → Result ℕ RestoreRefusal → Option (List ℕ)
text_of_restore host number (Ok entries) = Some (restored_line host number entries)
text_of_restore host number (Err refusal) = None
