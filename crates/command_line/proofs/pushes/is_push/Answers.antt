use Rattle.std.specs.Prelude.{bytes_eq, codes}
use Rattle.std.specs.String.{string_bytes}
use Rattle.std.proofs.Common.{◌∙◌, ap}
use Rattle.command_line.proofs.WordLemmas.{second_is}
use Rattle.command_line.proofs.pushes.is_push.Goals as goal

pub returns-in-Some : goal.returns-in-Some
returns-in-Some c = c.eq.ensures ∙ ap (λ text. bytes_eq text (codes "push-folder")) c.as_str.ensures.value
    ∙ second_is string_bytes c.args.words.now c.in-Some.word.now c.in-Some.ensures.lookup.0 c.in-Some.ensures.lookup.1
