-- The lines of an index rise.
use Rattle.std.proofs.Common.{sym, ◌∙◌, subst}
use Rattle.keep_rules.specs.Named.{Rise}
use Rattle.store_deletions.specs.PartLaws.{rise_sound}
use Rattle.store_deletions.proofs.judge.named_numbers.Goals as goal

pub named-requires-clause-rise : goal.named-requires-clause-rise
named-requires-clause-rise c =
    subst Rise (sym (c.lines-lines.ensures ∙ c.lines.ensures.lines))
    (rise_sound c.args.index.now.next c.args.index.now.lines c.lines.ensures.sound)
