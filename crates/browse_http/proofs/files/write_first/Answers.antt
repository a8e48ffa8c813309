use Rattle.stream_traits.specs.ToldLaws.{WroteFront-after}
use Rattle.browse_http.proofs.files.write_first.Goals as goal

pub returns-in-Err-write-clause-front : goal.returns-in-Err-write-clause-front
returns-in-Err-write-clause-front g c = WroteFront-after _ _ _ _ _ c.in-Ok.ensures.all c.in-Err-write.ensures.front
