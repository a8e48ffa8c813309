-- What is asked of a backup of a host.
use Rattle.std.specs.Prelude.{ℕ, List, Ok, codes}
use Rattle.http_query.specs.Query.{Pair}
use Rattle.http_routes.specs.declared.route.BackupAction.{BackupAction}
use Rattle.http_routes.specs.declared.route.BackupAction.TheVariants as A
use Rattle.office_model.specs.declared.event.Event.{Event}
use Rattle.office_model.specs.declared.event.Event.TheVariants as E
use Rattle.request_events.specs.Said.{Said, ◌>>=◌}
use Rattle.request_events.specs.Values.{value_in, flag_of, base_in, path_in, place_in}

abbrev pub backup_event : BackupAction → List ℕ → ℕ → List Pair → Said Event
backup_event A.Delete host number pairs = Ok (E.Delete host number)
backup_event A.List host number pairs = place_in pairs >>= λ place. Ok (E.List host number place)
backup_event A.Lookup host number pairs = path_in pairs >>= λ path. Ok (E.Lookup host number path)
backup_event A.OpenFile host number pairs = path_in pairs >>= λ path. Ok (E.OpenFile host number path)
backup_event A.OpenRead host number pairs = base_in pairs >>= λ base. Ok (E.OpenRead host number base)
backup_event A.Keep host number pairs = value_in flag_of (codes "on") pairs >>= λ on. Ok (E.Keep host number on)
