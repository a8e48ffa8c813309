use Rattle.std.proofs.Common.{rules}
use Rattle.browse_http.proofs.FileLemmas.{SendsRest-failed, SendsRest-sent}
use Rattle.browse_http.proofs.files.send_rest.Goals as goal

pub returns-in-Err-clause-sends : goal.returns-in-Err-clause-sends
returns-in-Err-clause-sends g c =
    SendsRest-failed _ g.met.P.Port.joined c.args.file.reader _ _ _ _ _ _ _ c.close_file.ensures.0 c.in-Err.ensures.front c.close_file.ensures.1

pub returns-clause-sends : goal.returns-clause-sends
returns-clause-sends g c =
    SendsRest-sent _ g.met.P.Port.joined c.args.file.reader _ _ _ _ _ _ _ _ c.send_parts.result (search rules) c.in-Ok.ensures.all
    (rw c.parts_behind.ensures at c.send_parts.ensures.sends)
