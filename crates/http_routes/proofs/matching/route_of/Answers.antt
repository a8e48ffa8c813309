use Rattle.std.proofs.Common.{sym}
use Rattle.http_routes.proofs.FormLemmas.{form_of_found}
use Rattle.http_routes.proofs.matching.route_of.Goals as goal

pub returns-clause-form : goal.returns-clause-form
returns-clause-form c = form_of_found c.args.path.now c.found_route.result (sym c.found_route.ensures)
