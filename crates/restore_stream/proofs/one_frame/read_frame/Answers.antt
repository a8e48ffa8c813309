use Rattle.std.proofs.Common.{refl}
use Rattle.restore_stream.proofs.OneFrameLaws.{found_frame, more_left, none_stands, is_cut}
use Rattle.restore_stream.proofs.one_frame.read_frame.Goals as goal

pub returns-then-is_empty : goal.returns-then-is_empty
returns-then-is_empty c =
    found_frame c.args.bytes.now _ c.in-Ok.frame _ c.new-source.ensures.left (c.if-is_empty.ensures.0 refl) c.in-Ok.ensures.read

pub returns-else-is_empty : goal.returns-else-is_empty
returns-else-is_empty c =
    more_left c.args.bytes.now _ c.in-Ok.frame _ c.new-source.ensures.left
    (λ none. absurd (let e = c.if-is_empty.ensures.1 none in cc)) c.in-Ok.ensures.read

pub returns-in-Err-BadStream : goal.returns-in-Err-BadStream
returns-in-Err-BadStream c =
    none_stands c.args.bytes.now c.in-Err-BadStream.field-0-0 _ _ c.in-Err-BadStream.field-0-is c.new-source.ensures.left
    c.in-Err-BadStream.ensures.read

pub returns-in-Err-Ended : goal.returns-in-Err-Ended
returns-in-Err-Ended c =
    is_cut c.args.bytes.now _ _ c.in-Err-Ended.field-0-is c.new-source.ensures.left c.in-Err-Ended.ensures.read
