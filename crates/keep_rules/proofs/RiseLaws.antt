-- Numbers rise exactly if the test says so.
use Rattle.std.proofs.Common.{◌≡◌, ◌↔◌, ℕ, ◌+◌, nat_le, Bool, true, List, [], ◌∷◌, refl, sym, ◌∙◌}
use Rattle.std.proofs.lemmas.Bool.{leb-true, le-leb, and_parts, and_from}
use Rattle.backup_rules.specs.declared.lines.Line.{Line}
use Rattle.keep_rules.specs.Named.{RiseFrom, Rise, rise_from}

from_test : (low : ℕ) (lines : List Line) → rise_from low lines ≡ true → RiseFrom low lines
from_test low [] holds = tt
from_test low (line ∷ lines) holds =
    let both = and_parts (nat_le low line.number) (rise_from (line.number + 1) lines) holds in
    (leb-true low line.number both.0, from_test (line.number + 1) lines both.1)

to_test : (low : ℕ) (lines : List Line) → RiseFrom low lines → rise_from low lines ≡ true
to_test low [] rise = refl
to_test low (line ∷ lines) rise =
    and_from (nat_le low line.number) (rise_from (line.number + 1) lines) (le-leb low line.number rise.0) (to_test (line.number + 1) lines rise.1)

pub rise_tested : (lines : List Line) (b : Bool) → b ≡ rise_from 0 lines → (b ≡ true) ↔ Rise lines
rise_tested lines b is = ((λ holds. from_test 0 lines (sym is ∙ holds)), (λ rise. is ∙ to_test 0 lines rise))
