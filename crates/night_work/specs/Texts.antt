-- What is said of a night.
use Rattle.std.specs.Prelude.{ℕ, List, ◌++◌, codes, decimal, Option, Some, None}
use Rattle.std.specs.Fmt.{signed_decimal}
use Rattle.night_work.specs.declared.ends.Night.{Night}
use Rattle.night_work.specs.declared.ends.NightEnd.{NightEnd}
use Rattle.night_work.specs.declared.ends.NightEnd.TheVariants.{Done, NotNow, Refused, Memory}

unfoldable pub night_line : Night → List ℕ
night_line night =
    codes "night " ++ signed_decimal night.day ++ codes ": expired " ++ decimal night.expired ++ codes ", marked " ++ decimal night.marked
    ++ codes ", unmarked " ++ decimal night.unmarked ++ codes ", removed " ++ decimal night.removed ++ codes "\n"

-- nothing is said of a night that was cut off
abbrev pub text_of : NightEnd → Option (List ℕ)
text_of (Done night) = Some (night_line night)
text_of NotNow = Some (codes "not now\n")
text_of (Refused refusal) = None
text_of Memory = None
