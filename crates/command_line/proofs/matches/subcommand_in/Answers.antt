use Rattle.std.specs.Box.{box_value}
use Rattle.clap.specs.Matches.{found_of}
use Rattle.clap.specs.Walk.{rows_of}
use Rattle.clap.specs.declared.parser.matches.ArgMatches.TheViews.{out-SubCommand}
use Rattle.command_line.proofs.OptionLemmas.{option_map-both}
use Rattle.command_line.proofs.matches.subcommand_in.Goals as goal

pub returns : goal.returns
returns c = option_map-both (λ p. p.0.now) (λ p. rows_of (found_of p.1.now)) (λ b. (out-SubCommand (box_value b)).name.now)
    (λ b. rows_of (found_of (out-SubCommand (box_value b)).matches)) _ _ c.subcommand.ensures.name c.subcommand.ensures.rows
