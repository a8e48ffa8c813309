-- What is said of a demo.
use Rattle.std.specs.Prelude.{ℕ, List, ◌++◌, codes, decimal, Option, Some, None}
use Rattle.hex.specs.Hex.{encode_lower}
use Rattle.demo_work.specs.declared.ends.Summary.{Summary}
use Rattle.demo_work.specs.declared.ends.DemoEnd.{DemoEnd}
use Rattle.demo_work.specs.declared.ends.DemoEnd.TheVariants.{Done, Occupied, Refused, Memory}

unfoldable pub backup_lines : Summary → List ℕ
backup_lines summary =
    codes "demo " ++ decimal summary.number ++ codes "\nhosts 4\n" ++ codes "backups " ++ decimal summary.backups ++ codes " filled "
    ++ decimal summary.filled ++ codes "\n"

unfoldable pub pool_lines : Summary → List ℕ
pool_lines summary =
    codes "pool files " ++ decimal summary.files ++ codes " bytes " ++ decimal summary.bytes ++ codes " marked "
    ++ decimal summary.marked ++ codes "\ncheck " ++ encode_lower summary.check ++ codes "\n"

-- five lines
abbrev pub summary_text : Summary → List ℕ
summary_text summary = backup_lines summary ++ pool_lines summary

-- nothing is said of a demo that wasn't done
abbrev pub text_of : DemoEnd → Option (List ℕ)
text_of (Done summary) = Some (summary_text summary)
text_of Occupied = None
text_of (Refused refusal) = None
text_of Memory = None
