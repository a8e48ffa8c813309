-- Rules and lines are read in one way.
use Rattle.std.specs.Prelude.{⊤, ◌≡◌, ℕ, ◌==◌, ◌+◌, ◌≤◌, ◌++◌, length, if◌then◌else◌}
use Rattle.std.specs.Int.{w8, w16, w32, w64}
use Rattle.std.proofs.Common.{refl, sym, ap, ◌∙◌, arith}
use Rattle.wire_bytes.specs.Layout.{number_bytes, IsNumber}
use Rattle.wire_bytes.specs.Kind.{IsReadOneWay}
use Rattle.wire_bytes.specs.Grammar.{number, followed_by, items_of}
use Rattle.backup_rules.specs.declared.lines.Kind.{Kind}
use Rattle.backup_rules.specs.declared.lines.Kind.TheVariants.{Full, Incr}
use Rattle.backup_rules.specs.declared.layouts.RulesLayout.{RulesLayout}
use Rattle.backup_rules.specs.declared.layouts.RulesLayout.TheVariants.{First, Second}
use Rattle.backup_rules.specs.declared.settings.Setting.{Setting}
use Rattle.backup_rules.specs.declared.settings.Setting.TheVariants.{FillCycle, FullPeriod, IncrPeriod, FullKeepCntMin, FullAgeMax, IncrKeepCnt, IncrKeepCntMin, IncrAgeMax, BlackoutGoodCnt, BlackoutBadPingLimit, OldAge, OldIncrKeepCnt}
use Rattle.backup_rules.specs.Settings.{setting_at}
use Rattle.backup_rules.specs.Ranges.{IsOf, IsWithin, IsKeepCount, IsKeepCounts, IsPeriod, ArePeriods, IsRules}
use Rattle.backup_rules.specs.Runs.{RunFits}
use Rattle.backup_rules.specs.ListLaws.{counts_are, periods_are, sees_list}
use Rattle.backup_rules.specs.Parts.{run_grammar, counts_grammar, period_bytes, periods_grammar, early_grammar, old_grammar, none_old, early_of, old_of, rules_of}
use Rattle.backup_rules.specs.PartLaws.{IsWithoutOld, sees_first, sees_second}
use Rattle.backup_rules.specs.Layout.{rules_grammar, kind_number, kind_bytes, line_bytes, IsLine}
use Rattle.one_way_layouts.specs.OneWay.{IsOneWay}
use Rattle.one_way_layouts.specs.OneWayLaws.{narrow_once, then_once, seen_once, items_once, peel}
use Rattle.one_way_layouts.specs.Fields.{number_once, number_in_once, flag_once}

-- ---- rules

small_setting : (setting : Setting) (n : ℕ) → IsOf setting n → IsNumber w32 n
small_setting FillCycle n is = omega (arith, is.1)
small_setting FullPeriod n is = omega (arith, is.1)
small_setting IncrPeriod n is = omega (arith, is.1)
small_setting FullKeepCntMin n is = omega (arith, is.1)
small_setting FullAgeMax n is = omega (arith, is.1)
small_setting IncrKeepCnt n is = omega (arith, is.1)
small_setting IncrKeepCntMin n is = omega (arith, is.1)
small_setting IncrAgeMax n is = omega (arith, is.1)
small_setting BlackoutGoodCnt n is = omega (arith, is.1)
small_setting BlackoutBadPingLimit n is = omega (arith, is.1)
small_setting OldAge n is = omega (arith, is.1)
small_setting OldIncrKeepCnt n is = omega (arith, is.1)

run_once : (first count : ℕ) → IsOneWay (run_grammar first count)
run_once first count = items_once (RunFits first) (number_bytes w32)
    (λ before. narrow_once _ (λ n fits. small_setting (setting_at (first + length before)) n fits) (number_once w32 tt)) count

small_list : (low n : ℕ) → IsWithin low 16 n → IsNumber w8 n
small_list low n is = omega (arith, is.1)

small_count : (n : ℕ) → IsKeepCount n → IsNumber w32 n
small_count n is = omega (arith, is)

counts_once : IsOneWay counts_grammar
counts_once = seen_once _ IsKeepCounts (λ xs. (length xs, xs)) (λ p. p.1) (sees_list (number_bytes w32) counts_are)
    (then_once (number w8 (IsWithin 1 16)) (items_of (λ _. IsKeepCount) (number_bytes w32)) (number_in_once w8 (IsWithin 1 16) tt (small_list 1))
    (λ count fits. items_once (λ _. IsKeepCount) (number_bytes w32) (λ before. narrow_once _ small_count (number_once w32 tt)) count))

minute : (n : ℕ) → n ≤ 1439 → IsNumber w16 n
minute n is = omega (arith, is)

weekdays : (n : ℕ) → n ≤ 127 → IsNumber w8 n
weekdays n is = omega (arith, is)

period_once : IsReadOneWay IsPeriod period_bytes
unfolding period_bytes
period_once = λ a b x y is_a is_b same.
    let begin = peel _ (number_once w16 tt) a.begin b.begin (number_bytes w16 a.end ++ number_bytes w8 a.weekdays)
    (number_bytes w16 b.end ++ number_bytes w8 b.weekdays) x y (minute a.begin is_a.begin) (minute b.begin is_b.begin) same in
    let end = peel _ (number_once w16 tt) a.end b.end (number_bytes w8 a.weekdays) (number_bytes w8 b.weekdays) x y
    (minute a.end is_a.end) (minute b.end is_b.end) begin.1 in
    let days = number_once w8 tt a.weekdays b.weekdays x y (weekdays a.weekdays is_a.weekdays) (weekdays b.weekdays is_b.weekdays) end.1 in
    ((λ i. record { begin = begin.0 i; end = end.0 i; weekdays = days.0 i }), days.1)

periods_once : IsOneWay periods_grammar
periods_once = seen_once _ ArePeriods (λ xs. (length xs, xs)) (λ p. p.1) (sees_list period_bytes periods_are)
    (then_once (number w8 (IsWithin 0 16)) (items_of (λ _. IsPeriod) period_bytes) (number_in_once w8 (IsWithin 0 16) tt (small_list 0))
    (λ count fits. items_once (λ _. IsPeriod) period_bytes (λ before. period_once) count))

early_once : IsOneWay early_grammar
early_once = then_once _ _ (run_once 0 3) (λ _ fits. then_once _ _ counts_once (λ _ fits. then_once _ _ (run_once 3 7) (λ _ fits. periods_once)))

old_once : IsOneWay old_grammar
old_once = then_once _ _ (run_once 10 1) (λ _ fits. then_once _ _ counts_once (λ _ fits. run_once 11 1))

pub rules_once : (layout : RulesLayout) → IsOneWay (rules_grammar layout)
rules_once First = seen_once early_grammar IsWithoutOld early_of (λ early. rules_of early none_old) sees_first early_once
rules_once Second = seen_once (followed_by early_grammar (λ _. old_grammar)) IsRules (λ rules. (early_of rules, old_of rules)) (λ p. rules_of p.0 p.1)
    sees_second (then_once _ _ early_once (λ _ fits. old_once))

-- ---- lines

kind_at : ℕ → Kind
kind_at n = if n == 1 then Full else Incr

kind_back : (kind : Kind) → kind ≡ kind_at (kind_number kind)
unfolding kind_at
kind_back Full = refl
kind_back Incr = refl

small_kind : (kind : Kind) → IsNumber w8 (kind_number kind)
small_kind Full = omega arith
small_kind Incr = omega arith

pub kind_once : IsReadOneWay (λ _. ⊤) kind_bytes
kind_once = λ a b x y is_a is_b same.
    let n = number_once w8 tt (kind_number a) (kind_number b) x y (small_kind a) (small_kind b) same in
    (kind_back a ∙ ap kind_at n.0 ∙ sym (kind_back b), n.1)

pub line_once : IsReadOneWay IsLine line_bytes
unfolding line_bytes
line_once = λ a b x y is_a is_b same.
    let number = peel _ (number_once w32 tt) a.number b.number _ _ x y is_a.number is_b.number same in
    let start = peel _ (number_once w64 tt) a.start b.start _ _ x y is_a.start is_b.start number.1 in
    let end = peel _ (number_once w64 tt) a.end b.end _ _ x y is_a.end is_b.end start.1 in
    let kind = peel _ kind_once a.kind b.kind _ _ x y tt tt end.1 in
    let filled = peel _ flag_once a.filled b.filled _ _ x y tt tt kind.1 in
    let keep = flag_once a.keep b.keep x y tt tt filled.1 in
    ((λ i. record { number = number.0 i; start = start.0 i; end = end.0 i; kind = kind.0 i; filled = filled.0 i; keep = keep.0 i }), keep.1)
