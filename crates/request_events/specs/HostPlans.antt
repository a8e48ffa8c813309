-- What is asked of a host.
use Rattle.std.specs.Prelude.{ℕ, List, Ok, codes}
use Rattle.http_query.specs.Query.{Pair}
use Rattle.http_routes.specs.declared.route.HostAction.{HostAction}
use Rattle.http_routes.specs.declared.route.HostAction.TheVariants as A
use Rattle.office_model.specs.declared.event.Event.TheVariants as E
use Rattle.request_events.specs.declared.plan.Plan.{Plan}
use Rattle.request_events.specs.declared.plan.Plan.TheVariants as P
use Rattle.request_events.specs.Said.{Said, ◌>>=◌}
use Rattle.request_events.specs.Rules.{change_in}
use Rattle.request_events.specs.Values.{value_in, dump_kind_of, flag_of, token_in}

abbrev pub host_plan : HostAction → List ℕ → List Pair → Said Plan
host_plan A.Add host pairs = Ok (P.AddHost host)
host_plan A.SetRules host pairs = change_in pairs >>= λ change. Ok (P.Ready (E.SetRules host change))
host_plan A.OpenDump host pairs =
    value_in dump_kind_of (codes "kind") pairs >>= λ kind. token_in pairs >>= λ token. Ok (P.OpenDump host kind token)
host_plan A.Resume host pairs = Ok (P.Ready (E.Resume host))
host_plan A.DropPartial host pairs = Ok (P.Ready (E.DropPartial host))
host_plan A.PartialInfo host pairs = Ok (P.Ready (E.PartialInfo host))
host_plan A.Backups host pairs = Ok (P.Ready (E.Backups host))
host_plan A.Expire host pairs = Ok (P.Expire host)
host_plan A.Contact host pairs = value_in flag_of (codes "good") pairs >>= λ good. Ok (P.Ready (E.Contact host good))
host_plan A.Due host pairs = Ok (P.Due host)
