-- The numbers of lines that the keeping rules name.
--     few_named      fewer are named than there may be numbers
use Rattle.std.specs.Prelude.{◌≡◌, ℕ, zero, suc, ◌+◌, ◌<◌, ◌≤◌, ◌^◌, Bool, true, false, List, [], ◌∷◌, ◌++◌, length, get_or}
use Rattle.std.proofs.Common.{ap, ◌∙◌, arith, length-append}
use Rattle.backup_rules.specs.declared.lines.Line.{Line}
use Rattle.backup_index.specs.Lines.{LinesFrom, IsSound}
use Rattle.backup_rules.specs.Values.{RuleSet}
use Rattle.keep_rules.specs.Flags.{named_flags}
use Rattle.keep_rules.specs.FlagLaws.{newest_stays}
use Rattle.office_model.specs.laws.ExpireLaws.{unsnoc}
use Rattle.office_deletion.specs.ExpiryLaws.{flagged_numbers}
use Rattle.store_deletions.specs.Shortens.{named_numbers}

-- numbers that rise and are below the next one are no more than that
few_lines : (low next : ℕ) (lines : List Line) → low ≤ next → LinesFrom low next lines → low + length lines ≤ next
few_lines low next [] least sound = omega (arith, least)
few_lines low next (line ∷ lines) least sound =
    let below : line.number + 1 ≤ next = omega (arith, sound.0.below) in
    omega (arith, sound.0.rising, few_lines (line.number + 1) next lines below sound.1)

-- where the last line isn't flagged, fewer are flagged than there are
few_flagged : (flags : List Bool) (lines : List Line) (n : ℕ) → length lines ≡ n + 1 → get_or flags n false ≡ false
    → length (flagged_numbers flags lines) ≤ n
few_flagged flags [] n count unset = absurd (omega (arith, count))
few_flagged [] (line ∷ lines) n count unset = omega arith
few_flagged (flag ∷ flags) (line ∷ []) zero count unset =
    let none : length (flagged_numbers (flag ∷ flags) (line ∷ [])) ≡ 0 =
    ap (λ b. length (flagged_numbers (b ∷ flags) (line ∷ []))) unset in omega (arith, none)
few_flagged (flag ∷ flags) (line ∷ []) (suc n) count unset = absurd (omega (arith, count))
few_flagged (flag ∷ flags) (line ∷ other ∷ lines) zero count unset = absurd (omega (arith, count))
few_flagged (flag ∷ flags) (line ∷ other ∷ lines) (suc n) count unset =
    step flag (few_flagged flags (other ∷ lines) n (omega (arith, count)) unset)
  where
    step : (flag : Bool) → length (flagged_numbers flags (other ∷ lines)) ≤ n
        → length (flagged_numbers (flag ∷ flags) (line ∷ other ∷ lines)) ≤ suc n
    step true few = omega (arith, few)
    step false few = omega (arith, few)

pub few_named : (rules : RuleSet) (now next : ℕ) (lines : List Line) → IsSound next lines
    → length (named_numbers rules now lines) < 2 ^ 32
few_named rules now next [] sound = omega arith
few_named rules now next (line ∷ lines) sound = step (unsnoc line lines)
  where
    step : (older : List Line) × (last : Line) × (line ∷ lines ≡ older ++ last ∷ [])
        → length (named_numbers rules now (line ∷ lines)) < 2 ^ 32
    step w =
        let count : length (line ∷ lines) ≡ length w.0 + 1 = ap length w.2 ∙ length-append w.0 (w.1 ∷ []) in
        let unset : get_or (named_flags rules now (line ∷ lines)) (length w.0) false ≡ false =
        ap (λ ls. get_or (named_flags rules now ls) (length w.0) false) w.2 ∙ newest_stays rules now w.0 w.1 in
        let few = few_flagged (named_flags rules now (line ∷ lines)) (line ∷ lines) (length w.0) count unset in
        let all = few_lines 0 next (line ∷ lines) (omega arith) sound.in_turn in
        omega (arith, count, few, all, sound.bound)
