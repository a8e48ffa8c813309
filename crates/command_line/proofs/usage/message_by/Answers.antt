use Rattle.std.specs.Prelude.{map}
use Rattle.std.specs.String.{string_bytes}
use Rattle.std.proofs.Common.{rules}
use Rattle.clap.specs.Simple.{app_of}
use Rattle.command_line.proofs.MatchesLemmas.{refused}
use Rattle.command_line.proofs.usage.message_by.Goals as goal

pub returns : goal.returns
returns c = λ none. absurd (refused (app_of c.args.command) (map string_bytes c.args.words.now) c.in-Err.error c.requires.free
    c.in-Err.ensures.kinds (λ is. search rules) none)
