-- A document of which each part is right.
--     all_right      it has no key of a wrong value
use Rattle.std.proofs.Common.{◌≡◌, ℕ, List, Option, Some, None, Result, Ok, Err, refl, ap, ◌∙◌}
use Rattle.toml.specs.Data.{Members}
use Rattle.backup_rules.specs.Values.{RuleSet, RuleChanges}
use Rattle.settings_file.specs.declared.key.Key.{Key}
use Rattle.settings_file.specs.declared.key.Key.TheVariants.{WakeupSchedule, BackupPCNightlyPeriod}
use Rattle.settings_file.specs.Document.{value_at, schedule_in, nights_in, change_in, AreRulesOf, wrong_in, wrong_zone, wrong_schedule, wrong_nights, wrong_of, or_else, first_wrong}

rules_right : (asked : Result RuleChanges Key) (rules : RuleSet) → AreRulesOf asked rules → wrong_of asked ≡ None
rules_right (Ok change) rules are = refl
rules_right (Err key) rules are = absurd are

pub all_right : (document : Members) (minutes : List ℕ) (nights : ℕ) (rules : RuleSet) → wrong_zone document ≡ None
    → schedule_in (value_at WakeupSchedule document) ≡ Some minutes → nights_in (value_at BackupPCNightlyPeriod document) ≡ Some nights
    → AreRulesOf (change_in document) rules → first_wrong document ≡ None
all_right document minutes nights rules zone schedule night are =
    ap (λ (o : Option Key). or_else o (or_else (wrong_schedule document) (or_else (wrong_nights document) (wrong_of (change_in document))))) zone
    ∙ ap (λ (o : Option (List ℕ)). or_else (wrong_in WakeupSchedule o) (or_else (wrong_nights document) (wrong_of (change_in document)))) schedule
    ∙ ap (λ (o : Option ℕ). or_else (wrong_in BackupPCNightlyPeriod o) (wrong_of (change_in document))) night
    ∙ rules_right (change_in document) rules are
