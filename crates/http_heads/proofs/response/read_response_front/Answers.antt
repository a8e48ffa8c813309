use Rattle.http_heads.proofs.ResponseLemmas.{judged_response-front, response_overflows-front, partial_response-front}
use Rattle.http_heads.proofs.response.read_response_front.Goals as goal

pub returns-in-Ok-Complete : goal.returns-in-Ok-Complete
returns-in-Ok-Complete c =
    judged_response-front c.args.bytes.now c.min.result c.min.ensures c.read_whole_response.result c.read_whole_response.ensures.whole
    c.read_whole_response.ensures.front

pub returns-in-Ok-Partial : goal.returns-in-Ok-Partial
returns-in-Ok-Partial c =
    let partial = rw c.in-Ok-Partial.field-0-is at c.in-Ok-Partial.ensures.partial in
    let unfinished = rw c.in-Ok-Partial.field-0-is at c.in-Ok-Partial.ensures.unfinished in
    partial_response-front c.args.bytes.now c.min.result c.min.ensures c.unfinished_response.result c.unfinished_response.ensures.short
    c.unfinished_response.ensures.full partial unfinished

pub returns-in-Err : goal.returns-in-Err
returns-in-Err c = response_overflows-front c.args.bytes.now c.min.result c.min.ensures c.in-Err.ensures.no_room
