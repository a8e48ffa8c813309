-- What is asked of an open dump or restore.
--     put_plan      the put of an item at a path
--     session_plan      each request
use Rattle.std.specs.Prelude.{ℕ, List, Option, Ok, codes}
use Rattle.attr_records.specs.Attributes.{Attributes}
use Rattle.attr_records.specs.declared.nodes.Item.TheVariants.{Dir as DirItem}
use Rattle.http_query.specs.Query.{Pair}
use Rattle.http_routes.specs.declared.route.SessionAction.{SessionAction}
use Rattle.http_routes.specs.declared.route.SessionAction.TheVariants as A
use Rattle.office_model.specs.declared.event.Event.TheVariants as E
use Rattle.office_model.specs.declared.event.PutItem.TheVariants.{Whole}
use Rattle.receipts.specs.declared.session.SessionName.{SessionName}
use Rattle.receipts.specs.declared.session.Token.{Token}
use Rattle.request_events.specs.declared.items.ItemKind.{ItemKind}
use Rattle.request_events.specs.declared.items.ItemKind.TheVariants.{File, Dir, Link}
use Rattle.request_events.specs.declared.plan.Plan.{Plan}
use Rattle.request_events.specs.declared.plan.Plan.TheVariants as P
use Rattle.request_events.specs.Said.{Said, ◌>>=◌}
use Rattle.request_events.specs.Items.{item_kind_of, attributes_in, group_in}
use Rattle.request_events.specs.Values.{value_in, token_in, path_in}

-- a directory takes no body; a file's is its bytes, and a link's its target
abbrev pub put_of : ItemKind → SessionName → List ℕ → Attributes → ℕ → Option Token → Plan
put_of File dump path attributes group token =
    P.PutFile (record { dump = dump; path = path; attr = attributes; group = group; token = token })
put_of Dir dump path attributes group token = P.Ready (E.Put dump path (Whole (DirItem (record { attr = attributes }))) token)
put_of Link dump path attributes group token = P.PutLink dump path attributes token

unfoldable pub put_plan : SessionName → List Pair → Said Plan
put_plan dump pairs = do
  kind ← value_in item_kind_of (codes "kind") pairs
  attributes ← attributes_in kind pairs
  group ← group_in pairs
  token ← token_in pairs
  path ← path_in pairs
  Ok (put_of kind dump path attributes group token)

abbrev pub session_plan : SessionAction → SessionName → List Pair → Said Plan
session_plan A.Put session pairs = put_plan session pairs
session_plan A.Remove session pairs = token_in pairs >>= λ token. path_in pairs >>= λ path. Ok (P.Ready (E.Remove session path token))
session_plan A.Commit session pairs = Ok (P.Commit session)
session_plan A.Park session pairs = Ok (P.Ready (E.Park session))
session_plan A.Abort session pairs = Ok (P.Ready (E.Abort session))
session_plan A.ReadNext session pairs = Ok (P.Ready (E.ReadNext session))
session_plan A.CloseRead session pairs = Ok (P.Ready (E.CloseRead session))
