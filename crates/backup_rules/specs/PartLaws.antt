-- Rules, seen as their parts.
--     early_fits, old_fits, parts_fit      the parts fit, and rules of parts that fit are in their ranges
--     sees_first, sees_second      rules of the first layout, and of the second
use Rattle.std.specs.Prelude.{◌≡◌}
use Rattle.std.proofs.Common.{refl, sym, ap, ◌∙◌, arith}
use Rattle.wire_bytes.specs.Grammar.{field, followed_by, seen_as, items_of, Sees}
use Rattle.backup_rules.specs.Values.{RuleSet, rules_from}
use Rattle.backup_rules.specs.Ranges.{IsRules}
use Rattle.backup_rules.specs.RunLaws.{run_fits, runs_fit, first_run, second_run, third_run, fourth_run, runs_joined}
use Rattle.backup_rules.specs.Parts.{Early, early_grammar, Old, old_grammar, none_old, early_of, old_of, rules_of}

-- the rules that have the first layout: no backup is old
abbrev pub IsWithoutOld : RuleSet → Type 0
IsWithoutOld rules = IsRules rules × (old_of rules ≡ none_old)

pub early_fits : (rules : RuleSet) → IsRules rules → (early_grammar).Fits (early_of rules)
unfolding field followed_by items_of seen_as
early_fits rules is = (run_fits 0 3 rules.numbers is.numbers (omega arith), (is.full_keep_cnt, (run_fits 3 7 rules.numbers is.numbers (omega arith), is.blackout_periods)))

pub old_fits : (rules : RuleSet) → IsRules rules → (old_grammar).Fits (old_of rules)
unfolding field followed_by items_of seen_as
old_fits rules is = (run_fits 10 1 rules.numbers is.numbers (omega arith), (is.old_full_keep_cnt, run_fits 11 1 rules.numbers is.numbers (omega arith)))

pub none_old_fits : (old_grammar).Fits none_old
unfolding field followed_by items_of seen_as
none_old_fits = (((((omega arith, omega arith), tt), refl)), (record { some = omega arith; few = omega arith; each = (omega arith, tt) }, (((omega arith, omega arith), tt), refl)))

pub parts_fit : (early : Early) (old : Old) → (early_grammar).Fits early → (old_grammar).Fits old → IsRules (rules_of early old)
unfolding field followed_by items_of seen_as
parts_fit early old e o = record {
  numbers = runs_fit early.0 early.1.1.0 old.0 old.1.1 e.0 e.1.1.0 o.0 o.1.1;
  full_keep_cnt = e.1.0;
  blackout_periods = e.1.1.1;
  old_full_keep_cnt = o.1.0;
}

pub early_again : (early : Early) (old : Old) → (early_grammar).Fits early → early_of (rules_of early old) ≡ early
unfolding field followed_by items_of seen_as
early_again early old e =
    let a = first_run early.0 early.1.1.0 old.0 old.1.1 e.0.1 in
    let b = second_run early.0 early.1.1.0 old.0 old.1.1 e.0.1 e.1.1.0.1 in
    λ i. (a i, (early.1.0, (b i, early.1.1.1)))

pub old_again : (early : Early) (old : Old) → (early_grammar).Fits early → (old_grammar).Fits old → old_of (rules_of early old) ≡ old
unfolding field followed_by items_of seen_as
old_again early old e o =
    let c = third_run early.0 early.1.1.0 old.0 old.1.1 e.0.1 e.1.1.0.1 o.0.1 in
    let d = fourth_run early.0 early.1.1.0 old.0 old.1.1 e.0.1 e.1.1.0.1 o.0.1 o.1.1.1 in
    λ i. (c i, (old.1.0, d i))

pub parts_made : (rules : RuleSet) → IsRules rules → rules_of (early_of rules) (old_of rules) ≡ rules
parts_made rules is = ap (λ numbers. rules_from numbers rules.full_keep_cnt rules.blackout_periods rules.old_full_keep_cnt) (runs_joined rules.numbers is.numbers.counted)

pub sees_first : Sees early_grammar IsWithoutOld early_of (λ early. rules_of early none_old)
sees_first = record {
  fits = λ rules is. early_fits rules is.0;
  made = λ rules is. ap (rules_of (early_of rules)) (sym is.1) ∙ parts_made rules is.0;
  makes = λ early e. (parts_fit early none_old e none_old_fits, old_again early none_old e none_old_fits);
  parted = λ early e. early_again early none_old e;
}

pub sees_second : Sees (followed_by early_grammar (λ _. old_grammar)) IsRules (λ rules. (early_of rules, old_of rules)) (λ p. rules_of p.0 p.1)
unfolding followed_by
sees_second = record {
  fits = λ rules is. (early_fits rules is, old_fits rules is);
  made = λ rules is. parts_made rules is;
  makes = λ p fits. parts_fit p.0 p.1 fits.0 fits.1;
  parted = λ p fits i. (early_again p.0 p.1 fits.0 i, old_again p.0 p.1 fits.0 fits.1 i);
}
