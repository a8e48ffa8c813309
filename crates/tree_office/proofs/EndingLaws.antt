-- However a dump's end is written down, its line is filled, of a number that the host has not used, below the limit.
use Rattle.std.specs.Prelude.{◌≡◌, Bool, true, false, not, ◌&&◌, Ok, nat_le, nat_lt}
use Rattle.std.proofs.Common.{refl, subst, arith}
use Rattle.std.proofs.lemmas.Bool.{leb-true, ltb-true}
use Rattle.backup_rules.specs.declared.lines.Line.{Line}
use Rattle.office_model.specs.declared.refusal.BrokenRule.TheVariants.{NumberBehind}
use Rattle.office_model.specs.Office.{Host, number_limit}
use Rattle.office_model.specs.events.Commit.{new_line}
use Rattle.office_model.specs.events.Adopt.{adopted_line, is_free}
use Rattle.office_model.specs.laws.Judging.{passed}
use Rattle.office_model.specs.laws.CommitLaws.{IsLineOf, EndsWell}
use Rattle.tree_parts.specs.declared.endings.Ending.{Ending as EndingValue}
use Rattle.tree_parts.specs.declared.endings.Ending.TheVariants.{AtTime, AsThere}
use Rattle.tree_parts.specs.Endings.{ending_of}

free : (host : Host) (line : Line) → line.filled ≡ true → (a b : Bool) → nat_le host.next line.number ≡ a → nat_lt line.number number_limit ≡ b
    → not (a && b) ≡ false → IsLineOf host line
free host line filled true true e f g = record { filled = filled; free = leb-true host.next line.number e; below = ltb-true line.number number_limit f }
free host line filled true false e f g = absurd (cc)
free host line filled false b e f g = absurd (cc)

pub ends_well : (ending : EndingValue) → EndsWell (ending_of ending)
ends_well (AtTime now) host dump line room e =
    let same : new_line host dump now ≡ line = cc in
    subst (IsLineOf host) same (record { filled = refl; free = omega arith; below = room })
ends_well (AsThere number start end kind) host dump line room e =
    let there : Line = adopted_line number start end kind in
    let a = passed NumberBehind (not (is_free host.next there.number)) (Ok there) line e in
    let same : there ≡ line = let f = a.1 in cc in
    subst (IsLineOf host) same (free host there refl (nat_le host.next there.number) (nat_lt there.number number_limit) refl refl a.0)
