use Rattle.admin_cli.proofs.RefusalLaws.{refused_line}
use Rattle.admin_cli.proofs.asked.read_asked.Goals as goal

pub returns-in-Err-clause-err : goal.returns-in-Err-clause-err
returns-in-Err-clause-err c =
    refused_line _ _ c.in-Err.fault c.note_of_line.result c.in-Err.ensures.none c.note_of_line.ensures.usage c.note_of_line.ensures.memory
