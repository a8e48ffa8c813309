use Rattle.std.specs.Prelude.{[], IfOk, IfErr, map}
use Rattle.std.specs.String.{string_bytes}
use Rattle.std.proofs.Common.{◌≡◌, ◌≢◌, subst}
use Rattle.clap.specs.Simple.{App, subcommand_of, subcommand_rows_of}
use Rattle.clap.specs.Faults.{fault_of}
use Rattle.command_line.specs.declared.line.LineFault.TheVariants.{NoParse}
use Rattle.command_line.proofs.matches.matches_of.Goals as goal

pub returns-clause-ok : goal.returns-clause-ok
returns-clause-ok c = subst (λ (a : App). IfOk c.matches_by.result (λ found. (fault_of a (map string_bytes c.args.words.now) ≡ [])
    × (subcommand_of a (map string_bytes c.args.words.now) ≡ subcommand_rows_of found))) c.in-Ok.ensures.0 c.matches_by.ensures.ok

pub returns-clause-none : goal.returns-clause-none
returns-clause-none c = subst (λ (a : App). IfErr c.matches_by.result (λ fault. fault ≡ NoParse
    → fault_of a (map string_bytes c.args.words.now) ≢ [])) c.in-Ok.ensures.0 c.matches_by.ensures.none
