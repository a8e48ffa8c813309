-- The requests of a push: method, target and body, as a client writes them.
--     push_texts      the request of an event of a push
use Rattle.std.specs.Prelude.{ℕ, Bool, false, ◌||◌, List, [], ◌++◌, codes, decimal, Option, Some, None, if◌then◌else◌}
use Rattle.form_urlencoded.specs.Form.{extend_pairs}
use Rattle.attr_records.specs.Items.{is_large}
use Rattle.attr_records.specs.declared.nodes.Item.{Item}
use Rattle.attr_records.specs.declared.nodes.Item.TheVariants.{File, Dir, Link}
use Rattle.backup_rules.specs.declared.lines.Kind.{Kind}
use Rattle.http_query.specs.Query.{Pair, holds_replacement}
use Rattle.receipts.specs.declared.session.SessionName.{SessionName}
use Rattle.receipts.specs.Session.{session_text}
use Rattle.office_model.specs.declared.event.Event.{Event}
use Rattle.office_model.specs.declared.event.Event.TheVariants as E
use Rattle.office_model.specs.declared.event.PutItem.TheVariants.{Whole}
use Rattle.event_texts.specs.Requests.{backups_target}
use Rattle.push_texts.specs.Queries.{kind_pairs, path_pairs, put_pairs}

pub record PushTexts : Type 0 where
  pub method : List ℕ
  pub target : List ℕ
  pub body : Option (List ℕ)

-- ---- targets

-- a path with a query of these pairs, escaped
abbrev pub with_query : List ℕ → List Pair → List ℕ
with_query path pairs = path ++ (codes "?" ++ extend_pairs [] pairs)

-- the dumps of a host
abbrev pub dumps_path : List ℕ → List ℕ
dumps_path host = codes "/hosts/" ++ (host ++ codes "/dumps")

abbrev pub opening_target : List ℕ → Kind → List ℕ
opening_target host kind = with_query (dumps_path host) (kind_pairs kind)

-- a dump
abbrev pub dump_path : SessionName → List ℕ
dump_path dump = codes "/dumps/" ++ session_text dump

-- what it has at its paths
abbrev pub entry_path : SessionName → List ℕ
entry_path dump = codes "/dumps/" ++ (session_text dump ++ codes "/entry")

-- its commit
abbrev pub commit_path : SessionName → List ℕ
commit_path dump = codes "/dumps/" ++ (session_text dump ++ codes "/commit")

abbrev pub put_target : SessionName → List ℕ → Item → List ℕ
put_target dump path item = with_query (entry_path dump) (put_pairs path item)

abbrev pub removal_target : SessionName → List ℕ → List ℕ
removal_target dump path = with_query (entry_path dump) (path_pairs path)

-- the listing of a backup
abbrev pub list_path : List ℕ → ℕ → List ℕ
list_path host number = codes "/hosts/" ++ (host ++ (codes "/backups/" ++ (decimal number ++ codes "/list")))

-- of a directory, or of the root
abbrev pub list_target : List ℕ → ℕ → Option (List ℕ) → List ℕ
list_target host number None = list_path host number
list_target host number (Some directory) = with_query (list_path host number) (path_pairs directory)

-- ---- requests

-- the body that puts an item: the bytes of a file, the target of a link
abbrev pub item_body : Item → List ℕ
item_body (File file) = file.bytes
item_body (Dir dir) = []
item_body (Link link) = link.target

-- a request that has a body, and one that has none
abbrev pub with_body : List ℕ → List ℕ → List ℕ → PushTexts
with_body method target body = record { method = method; target = target; body = Some body }

abbrev pub getting : List ℕ → PushTexts
getting target = record { method = codes "GET"; target = target; body = None }

-- the path holds U+FFFD, which no query may say: it stands for bytes that are no text
abbrev pub is_unsaid : Option (List ℕ) → Bool
is_unsaid None = false
is_unsaid (Some path) = holds_replacement path

-- an item that no request puts at a path: the path holds it, or the item is a file of more than 67,108,864 bytes
abbrev pub is_unput : List ℕ → Item → Bool
is_unput path item = holds_replacement path || is_large item

-- the request, unless it would name such a path, or put such an item
abbrev pub unless_unsaid : Bool → PushTexts → Option PushTexts
unless_unsaid unsaid texts = if unsaid then None else Some texts

-- The request that asks for an event of a push: one without a token, whose path a query may say, and whose item comes whole, with at most
-- 67,108,864 bytes. The others have none, those of stages among them.
abbrev pub push_texts : Event → Option PushTexts
push_texts (E.OpenDump host kind now None) = Some (with_body (codes "POST") (opening_target host kind) [])
push_texts (E.Put dump path (Whole item) None) =
    unless_unsaid (is_unput path item) (with_body (codes "PUT") (put_target dump path item) (item_body item))
push_texts (E.Remove dump path None) = unless_unsaid (holds_replacement path) (with_body (codes "DELETE") (removal_target dump path) [])
push_texts (E.Commit dump now) = Some (with_body (codes "POST") (commit_path dump) [])
push_texts (E.Abort dump) = Some (with_body (codes "DELETE") (dump_path dump) [])
push_texts (E.Backups host) = Some (getting (backups_target host))
push_texts (E.List host number directory) = unless_unsaid (is_unsaid directory) (getting (list_target host number directory))
push_texts event = None
