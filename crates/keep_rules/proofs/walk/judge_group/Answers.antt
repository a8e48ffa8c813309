use Rattle.std.proofs.Common.{take, drop, sym, ◌∙◌, arith, length-drop}
use Rattle.std.proofs.lemmas.Bool.{and_left}
use Rattle.keep_rules.specs.Groups.{is_filled_in, is_unfilled_in}
use Rattle.keep_rules.specs.Keeping.{next_older}
use Rattle.keep_rules.proofs.StepLaws.{kept_small, count_back, kept_back, kept_in, reached_in, reached_out, none_more, same_more}
use Rattle.keep_rules.proofs.walk.judge_group.Goals as goal

pub judge-requires-clause-kept : goal.judge-requires-clause-kept
judge-requires-clause-kept c =
    omega (
      arith,
      c.loop-index.invariant.kept,
      kept_small c.args.rules.now c.args.now c.args.group (next_older c.args.rules.now c.args.now c.args.group (take c.loop-index.index c.args.lines.now)) (drop c.loop-index.index c.args.lines.now),
      length-drop c.loop-index.index c.args.lines.now,
    )

pub loop-index-preserved-then-has : goal.loop-index-preserved-then-has
loop-index-preserved-then-has c =
    let rules = c.args.rules.now in
    let lines = c.args.lines.now in
    let n = c.loop-index.index in
    let is = c.loop-index.invariant in
    let inside = sym c.has.ensures ∙ c.if-has.true in
    record {
      within = omega arith;
      flags = reached_in rules c.args.now c.args.group lines n _ (omega arith) (omega arith) c.args.out.now c.requires c.loop-index.out c.judge.result
          c.loop-index.newer.kept c.loop-index.newer.filled c.loop-index.newer.unfilled is.flags inside is.kept is.filled is.unfilled c.judge.ensures.named;
      kept = c.judge.ensures.kept
          ∙ kept_in rules c.args.now c.args.group lines n _ (omega arith) (omega arith) c.loop-index.newer.kept inside is.kept;
      filled = c.judge.ensures.filled
          ∙ same_more _ _ _ _ inside is.filled
          ∙ sym (count_back (is_filled_in rules c.args.now c.args.group) lines n _ (omega arith) (omega arith));
      unfilled = c.judge.ensures.unfilled
          ∙ same_more _ _ _ _ inside is.unfilled
          ∙ sym (count_back (is_unfilled_in rules c.args.now c.args.group) lines n _ (omega arith) (omega arith));
    }

pub loop-index-preserved : goal.loop-index-preserved
loop-index-preserved c =
    let rules = c.args.rules.now in
    let lines = c.args.lines.now in
    let n = c.loop-index.index in
    let is = c.loop-index.invariant in
    let outside = sym c.has.ensures ∙ c.if-has.false in
    record {
      within = omega arith;
      flags = reached_out rules c.args.now c.args.group lines n _ (omega arith) (omega arith) c.args.out.now c.requires c.loop-index.out is.flags outside;
      kept = is.kept
          ∙ sym (kept_back rules c.args.now c.args.group lines n _ (omega arith) (omega arith) ∙ none_more _ _ _ (and_left _ _ outside));
      filled = is.filled
          ∙ sym (count_back (is_filled_in rules c.args.now c.args.group) lines n _ (omega arith) (omega arith) ∙ none_more _ _ _ outside);
      unfilled = is.unfilled
          ∙ sym (count_back (is_unfilled_in rules c.args.now c.args.group) lines n _ (omega arith) (omega arith) ∙ none_more _ _ _ outside);
    }
