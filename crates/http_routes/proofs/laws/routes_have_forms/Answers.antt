use Rattle.http_routes.proofs.FormLemmas.{routes_have_forms}
use Rattle.http_routes.proofs.laws.routes_have_forms.Goals as goal

pub returns : goal.returns
returns c = routes_have_forms
