-- What is asked of the whole office.
use Rattle.std.specs.Prelude.{List, Ok, codes}
use Rattle.http_query.specs.Query.{Pair}
use Rattle.http_routes.specs.declared.route.OfficeAction.{OfficeAction}
use Rattle.http_routes.specs.declared.route.OfficeAction.TheVariants as A
use Rattle.office_model.specs.declared.event.Event.{Event}
use Rattle.office_model.specs.declared.event.Event.TheVariants as E
use Rattle.request_events.specs.Said.{Said, ◌>>=◌}
use Rattle.request_events.specs.Values.{value_in, bucket_of}

abbrev pub office_event : OfficeAction → List Pair → Said Event
office_event A.Hosts pairs = Ok E.Hosts
office_event A.Clean pairs = value_in bucket_of (codes "bucket") pairs >>= λ bucket. Ok (E.Clean bucket)
office_event A.Sweep pairs = Ok E.Sweep
office_event A.Stats pairs = Ok E.Stats
office_event A.Reopen pairs = Ok E.Reopen
