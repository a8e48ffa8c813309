use Rattle.std.specs.Prelude.{◌^◌}
use Rattle.command_line.proofs.NumberLaws.{number_read, number_refused}
use Rattle.command_line.proofs.matches.long_number_of.Goals as goal

pub returns-in-Ok : goal.returns-in-Ok
returns-in-Ok c = number_read (2 ^ 64) c.args.text.now c.in-Ok.number c.in-Ok.ensures.value.0.0 c.in-Ok.ensures.value.0.1

pub returns-in-Err : goal.returns-in-Err
returns-in-Err c = number_refused (2 ^ 64) c.args.text.now c.in-Err.ensures.value.0
