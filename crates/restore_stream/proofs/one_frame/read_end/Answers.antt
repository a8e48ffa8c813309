use Rattle.restore_stream.proofs.OneFrameLaws.{end_came, end_frame_refuses}
use Rattle.restore_stream.proofs.one_frame.read_end.Goals as goal

pub returns-in-Ok-clause-read : goal.returns-in-Ok-clause-read
returns-in-Ok-clause-read g c = end_came c.in-Ok.ensures.read

pub returns-in-Err-clause-read : goal.returns-in-Err-clause-read
returns-in-Err-clause-read g c = end_frame_refuses c.in-Err.ensures.read
