use Rattle.browse_http.proofs.RequestLaws.{requests-one}
use Rattle.browse_http.proofs.laws.requests_are_one.Goals as goal

pub returns : goal.returns
returns c = requests-one
