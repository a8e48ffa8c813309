use Rattle.http_routes.proofs.FormLemmas.{forms_have_routes}
use Rattle.http_routes.proofs.laws.forms_have_routes.Goals as goal

pub returns : goal.returns
returns c = forms_have_routes
