-- Settings that are read one behind the other, into the list of all of them.
--     setting_number      a number in the range of a setting is one of four bytes
--     item_at_setting, run_more, run_before, run_behind      a further setting is read and written
--     found_as      what was found, by an equal value
--     same_run, same_early      runs that a later one leaves as they are
--     first_made, second_made      rules, by the numbers that were read
use Rattle.std.proofs.Common.{◌≡◌, ℕ, ◌+◌, ◌<◌, ◌≤◌, List, [], ◌∷◌, ◌++◌, length, take, drop, sym, ap, subst, ◌∙◌, arith}
use Rattle.std.specs.Prelude.{slice_set}
use Rattle.std.specs.Int.{w32}
use Rattle.std.proofs.lemmas.List.{drop-take, drop-drop, take-take, drop-set-add, drop-set-lt, take-set-le, take_more_set, length-drop}
use Rattle.wire_bytes.specs.Reading.{Reading}
use Rattle.wire_bytes.specs.Layout.{IsNumber}
use Rattle.wire_bytes.specs.Grammar.{Grammar}
use Rattle.wire_bytes.specs.GrammarReading.{Finds}
use Rattle.backup_rules.specs.declared.settings.Setting.{Setting}
use Rattle.backup_rules.specs.declared.settings.Setting.TheVariants.{FillCycle, FullPeriod, IncrPeriod, FullKeepCntMin, FullAgeMax, IncrKeepCnt, IncrKeepCntMin, IncrAgeMax, BlackoutGoodCnt, BlackoutBadPingLimit, OldAge, OldIncrKeepCnt}
use Rattle.backup_rules.specs.Settings.{most, setting_at}
use Rattle.backup_rules.specs.Values.{Span, rules_from}
use Rattle.backup_rules.specs.Ranges.{IsOf}
use Rattle.backup_rules.specs.Changes.{default_counts, default_numbers}
use Rattle.backup_rules.specs.Runs.{run}
use Rattle.backup_rules.specs.RunLaws.{joined, runs_joined}
use Rattle.backup_rules.specs.Parts.{Early, none_old, rules_of}

most_small : (setting : Setting) → most setting ≤ 315360000
most_small FillCycle = omega arith
most_small FullPeriod = omega arith
most_small IncrPeriod = omega arith
most_small FullKeepCntMin = omega arith
most_small FullAgeMax = omega arith
most_small IncrKeepCnt = omega arith
most_small IncrKeepCntMin = omega arith
most_small IncrAgeMax = omega arith
most_small BlackoutGoodCnt = omega arith
most_small BlackoutBadPingLimit = omega arith
most_small OldAge = omega arith
most_small OldIncrKeepCnt = omega arith

pub setting_number : (setting : Setting) (n : ℕ) → IsOf setting n → IsNumber w32 n
setting_number setting n is = small n (most setting) is.1 (most_small setting)
  where
    small : (n high : ℕ) → n ≤ high → high ≤ 315360000 → n < 4294967296
    small n high below few = omega arith

pub item_at_setting : (setting : Setting) (first i : ℕ) (items : List ℕ) → setting ≡ setting_at (first + i) → length items ≡ i → setting ≡ setting_at (first + length items)
item_at_setting setting first i items is counted = is ∙ ap (λ k. setting_at (first + k)) (sym counted)

module _ (first i k n : ℕ) (numbers numbers' : List ℕ) (is : k ≡ first + i) (put : numbers' ≡ slice_set numbers k n) where
  written : numbers' ≡ slice_set numbers (first + i) n
  written = put ∙ ap (λ j. slice_set numbers j n) is

  pub run_more : k < length numbers → run first (i + 1) numbers' ≡ run first i numbers ++ n ∷ []
  run_more within =
      ap (run first (i + 1)) written ∙ ap (take (i + 1)) (drop-set-add first numbers i n) ∙ take_more_set (drop first numbers) i n (omega (arith, length-drop first numbers))

  pub run_before : take first numbers' ≡ take first numbers
  run_before = ap (take first) written ∙ take-set-le first numbers (first + i) n (omega arith)

  pub run_behind : (count : ℕ) → i < count → drop (first + count) numbers' ≡ drop (first + count) numbers
  run_behind count within = ap (drop (first + count)) written ∙ drop-set-lt (first + count) numbers (first + i) n (omega arith)

pub found_as : {V : Type 0} {grammar : Grammar V} {old new : Reading} {v w : V} → v ≡ w → Finds grammar old v new → Finds grammar old w new
found_as {V} {grammar} {old} {new} {v} {w} same found = subst (λ (x : V). Finds grammar old x new) same found

pub same_run : (first count some : ℕ) (a b : List ℕ) → first + count ≤ some → take some a ≡ take some b → run first count a ≡ run first count b
same_run first count some a b within same =
    sym (drop-take first count a) ∙ ap (drop first) (sym (take-take (first + count) some a within) ∙ ap (take (first + count)) same ∙ take-take (first + count) some b within) ∙ drop-take first count b

pub same_early : (a b counts : List ℕ) (periods : List Span) → take 10 a ≡ take 10 b → ◌≡◌ {A = Early} (run 0 3 a, (counts, (run 3 7 a, periods))) (run 0 3 b, (counts, (run 3 7 b, periods)))
same_early a b counts periods same = let times = same_run 0 3 10 a b (omega arith) same in let keeping = same_run 3 7 10 a b (omega arith) same in λ i. (times i, (counts, (keeping i, periods)))

module _ (numbers counts : List ℕ) (periods : List Span) (old_counts : List ℕ) (counted : length numbers ≡ 12) where
  pub second_made : rules_of (run 0 3 numbers, (counts, (run 3 7 numbers, periods))) (run 10 1 numbers, (old_counts, run 11 1 numbers)) ≡ rules_from numbers counts periods old_counts
  second_made = ap (λ ns. rules_from ns counts periods old_counts) (runs_joined numbers counted)

  pub first_made : drop 10 numbers ≡ drop 10 default_numbers → old_counts ≡ default_counts → rules_of (run 0 3 numbers, (counts, (run 3 7 numbers, periods))) none_old ≡ rules_from numbers counts periods old_counts
  first_made behind same =
      let age : run 10 1 numbers ≡ 0 ∷ [] = ap (take 1) behind in
      let kept : run 11 1 numbers ≡ 0 ∷ [] = ap (take 1) (sym (drop-drop 1 10 numbers) ∙ ap (drop 1) behind) in
      let all = runs_joined numbers counted in
      let both : joined (run 0 3 numbers) (run 3 7 numbers) (0 ∷ []) (0 ∷ []) ≡ numbers =
      ap (λ a. joined (run 0 3 numbers) (run 3 7 numbers) a (0 ∷ [])) (sym age) ∙ ap (λ d. joined (run 0 3 numbers) (run 3 7 numbers) (run 10 1 numbers) d) (sym kept) ∙ all in
      let again = sym same in
      λ i. rules_from (both i) counts periods (again i)
