-- What is said of a pull.
use Rattle.std.specs.Prelude.{ℕ, List, ◌++◌, codes, decimal, Option, Some, None}
use Rattle.pull_work.specs.declared.ends.PullEnd.{PullEnd}
use Rattle.pull_work.specs.declared.ends.PullEnd.TheVariants.{Done, Refused, PeerRefused, PeerForeign, LinkFault, Memory}

unfoldable pub pulled_line : (host : List ℕ) (count : ℕ) → List ℕ
pulled_line host count = codes "pulled " ++ host ++ codes " " ++ decimal count ++ codes "\n"

-- nothing is said of a pull that was cut off
abbrev pub text_of : (host : List ℕ) → PullEnd → Option (List ℕ)
text_of host (Done count) = Some (pulled_line host count)
text_of host (Refused refusal) = None
text_of host (PeerRefused status) = None
text_of host PeerForeign = None
text_of host LinkFault = None
text_of host Memory = None
