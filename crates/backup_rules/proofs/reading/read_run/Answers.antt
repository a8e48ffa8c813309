-- A further setting, and where there is none.
use Rattle.std.proofs.Common.{◌≡◌, ℕ, ◌+◌, ◌≤◌, List, ◌∷◌, [], ◌++◌, sym, subst, ◌∙◌, arith}
use Rattle.std.specs.Int.{w32}
use Rattle.wire_bytes.specs.Reading.{Reading}
use Rattle.wire_bytes.specs.Layout.{number_bytes}
use Rattle.wire_bytes.specs.Grammar.{field, number}
use Rattle.wire_bytes.specs.GrammarReading.{Finds, Refuses}
use Rattle.wire_bytes.specs.GrammarLaws.{refused_again}
use Rattle.wire_bytes.specs.ItemLaws.{ItemsRead, items_read_more, items_refuse, items_find}
use Rattle.backup_rules.specs.declared.settings.Setting.{Setting}
use Rattle.backup_rules.specs.declared.faults.RulesFault.{RulesFault}
use Rattle.backup_rules.specs.Ranges.{IsOf}
use Rattle.backup_rules.specs.Runs.{run, RunFits}
use Rattle.backup_rules.specs.Parts.{run_grammar}
use Rattle.backup_rules.specs.Layout.{offset_of}
use Rattle.backup_rules.proofs.RunSteps.{item_at_setting, run_more, run_before, run_behind}
use Rattle.backup_rules.proofs.reading.read_run.Goals as goal

refused_item : (setting s : Setting) (at : Reading) (fault : RulesFault) → setting ≡ s → Refuses offset_of (number w32 (IsOf setting)) at fault → Refuses offset_of (field (λ n. IsOf s n) (number_bytes w32)) at fault
refused_item setting s at fault is refused = subst (λ (x : Setting). Refuses offset_of (field (λ n. IsOf x n) (number_bytes w32)) at fault) is refused

found_item : (setting s : Setting) (at new : Reading) (n : ℕ) → setting ≡ s → Finds (number w32 (IsOf setting)) at n new → Finds (field (λ n. IsOf s n) (number_bytes w32)) at n new
found_item setting s at new n is found = subst (λ (x : Setting). Finds (field (λ n. IsOf x n) (number_bytes w32)) at n new) is found

pub returns-in_err-value-clause-run : goal.returns-in_err-value-clause-run
returns-in_err-value-clause-run c =
    refused_again _ _ _ c.from_residual.ensures.1 (items_refuse c.loop-i-test.true c.loop-i.invariant.read
    (refused_item _ _ _ _ (item_at_setting c.at-setting.result c.args.first c.loop-i.i _ c.at-setting.ensures.setting c.loop-i.invariant.read.some) c.in_err-value.ensures))

pub put-requires : goal.put-requires
unfolding field
put-requires c = c.in_ok-value.ensures.fits

more : (first i count n : ℕ) (items items' : List ℕ) (old at new : Reading) → items' ≡ items ++ n ∷ [] → ItemsRead (RunFits first) (number_bytes w32) old new (items ++ n ∷ []) (i + 1) count → ItemsRead (RunFits first) (number_bytes w32) old new items' (i + 1) count
more first i count n items items' old at new is read = subst (λ (l : List ℕ). ItemsRead (RunFits first) (number_bytes w32) old new l (i + 1) count) (sym is) read

pub loop-i-preserved : goal.loop-i-preserved
loop-i-preserved c = record {
  read = more _ _ _ _ _ _ _ c.loop-i.reader _ (run_more c.args.first c.loop-i.i _ _ _ _ c.at-setting.ensures.back c.put.ensures.value c.put.ensures.within)
      (items_read_more c.loop-i-test.true c.loop-i.invariant.read
      (found_item _ _ _ _ _ (item_at_setting c.at-setting.result c.args.first c.loop-i.i _ c.at-setting.ensures.setting c.loop-i.invariant.read.some) c.in_ok-value.ensures));
  before = run_before c.args.first c.loop-i.i _ _ _ _ c.at-setting.ensures.back c.put.ensures.value ∙ c.loop-i.invariant.before;
  behind = run_behind c.args.first c.loop-i.i _ _ _ _ c.at-setting.ensures.back c.put.ensures.value c.args.count c.loop-i-test.true ∙ c.loop-i.invariant.behind;
  in_range = c.put.ensures.in_range;
}

all : (first i count : ℕ) (numbers : List ℕ) (old new : Reading) → i ≡ count → Finds (run_grammar first count) old (run first i numbers) new → Finds (run_grammar first count) old (run first count numbers) new
all first i count numbers old new is found = subst (λ (k : ℕ). Finds (run_grammar first count) old (run first k numbers) new) is found

ended : (i count : ℕ) → count ≤ i → i ≤ count → i ≡ count
ended i count all within = omega arith

pub returns-clause-run : goal.returns-clause-run
returns-clause-run c = all _ _ _ _ _ _ (ended _ _ c.loop-i-test.false c.loop-i.auto.i-end) (items_find c.loop-i-test.false c.loop-i.auto.i-end c.loop-i.invariant.read)
