-- What a push heard is what its server did.
--     PushesAreServed      the law
use Rattle.std.specs.Prelude.{◌≡◌, true, List}
use Rattle.std.specs.List.{AllByRecursion}
use Rattle.office_model.specs.Step.{Call}
use Rattle.request_events.specs.declared.defaults.Defaults.{Defaults}
use Rattle.browse_http.specs.Talk as T
use Rattle.peer_calls.specs.Calls.{AreServed}
use Rattle.pull_codec.specs.Relations.{AreInRange}
use Rattle.remote_port.specs.Speaks.{Connection, heard_in}
use Rattle.remote_port.specs.Laws.{IsTalkOf}
use Rattle.push_codec.specs.Codec.{may_one, at, InRange}
use Rattle.push_work.specs.Pushes.{Asks}

-- Over a connection to a server of this program, each call that was heard is the server's at its place, at its own moment and with that
-- reply: of calls that a server takes as one, which are all but puts of files of more than 65,536 bytes.
abbrev pub PushesAreServed : Type 0
PushesAreServed =
    (defaults : Defaults) (p q : Connection) (calls : List Call) (s : Asks p calls q)
    → AllByRecursion (λ h. may_one h.event ≡ true) (heard_in s.turns) → (xs : List T.Exchange) → IsTalkOf p q defaults xs
    → AreInRange InRange xs → AreServed at (heard_in s.turns) xs
