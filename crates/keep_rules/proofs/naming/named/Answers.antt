use Rattle.std.proofs.Common.{ℕ, false, replicate, None, ap, ◌∙◌, arith}
use Rattle.keep_rules.specs.declared.groups.Group.TheVariants.{Recent, Old}
use Rattle.keep_rules.specs.Walk.{walked}
use Rattle.keep_rules.specs.FlagLaws.{flags_are_named}
use Rattle.keep_rules.proofs.WalkLaws.{named_by_walks, named_nothing}
use Rattle.keep_rules.proofs.naming.named.Goals as goal

pub returns-in_default-clause-flags : goal.returns-in_default-clause-flags
returns-in_default-clause-flags c =
    named_nothing c.args.rules.now c.args.now c.args.lines.now c.fill.new.self c.in_default.ensures.cases
    (omega (arith, c.in_default.ensures.cases, c.fill.ensures.len, c.requires.flags))

pub returns-in_default-clause-named : goal.returns-in_default-clause-named
returns-in_default-clause-named c =
    (flags_are_named c.args.rules.now c.args.now c.args.lines.now c.fill.new.self c.requires.rise).1 (returns-in_default-clause-flags c)

pub returns-clause-flags : goal.returns-clause-flags
returns-clause-flags c =
    let rest = c.in-Some.candidates.now in
    c.judge_group-2.ensures
    ∙ ap (walked c.args.rules.now c.args.now Old None rest)
    (c.judge_group.ensures
    ∙ ap (walked c.args.rules.now c.args.now Recent None rest)
    (c.fill.ensures.after (λ y same. same) ∙ ap (λ (n : ℕ). replicate n false) c.requires.flags))
    ∙ named_by_walks c.args.rules.now c.args.now c.args.lines.now rest c.in-Some._newest.now c.in-Some.ensures.cases.0

pub returns-clause-named : goal.returns-clause-named
returns-clause-named c =
    (flags_are_named c.args.rules.now c.args.now c.args.lines.now c.judge_group-2.new.out c.requires.rise).1 (returns-clause-flags c)
