use Rattle.restore_stream.proofs.FrameLaws.{all_left}
use Rattle.restore_stream.proofs.frames.FrameCursor.new.Goals as goal

pub returns : goal.returns
returns c = all_left c.args.rows.now
