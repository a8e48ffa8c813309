use Rattle.std.specs.Prelude.{map}
use Rattle.std.specs.String.{string_bytes}
use Rattle.std.proofs.Common.{rules}
use Rattle.clap.specs.Simple.{app_of}
use Rattle.command_line.proofs.MatchesLemmas.{taken, refused}
use Rattle.command_line.proofs.matches.matches_by.Goals as goal

pub returns-in-Ok-clause-ok : goal.returns-in-Ok-clause-ok
returns-in-Ok-clause-ok c = taken (app_of c.args.command) (map string_bytes c.args.words.now) _ c.requires.simple c.requires.free
    c.in-Ok.ensures.matches c.in-Ok.ensures.kinds

pub returns-clause-none : goal.returns-clause-none
returns-clause-none c = λ _. refused (app_of c.args.command) (map string_bytes c.args.words.now) c.in-Err.e c.requires.free
    c.in-Err.ensures.kinds (λ is. search rules)
