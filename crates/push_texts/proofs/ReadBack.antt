-- A server reads each event of a push that was asked for.
use Rattle.std.proofs.Common.{◌≡◌, ℕ, ◌-◌, ◌<◌, ◌^◌, nat_lt, Bool, true, false, not, ◌&&◌, ◌||◌, if◌then◌else◌, List, [], ◌∷◌, ◌++◌, map, length, Option, Some, None, Ok, Err, IfSome, IsAscii, IsUtf8, unwrap_or, is_some, refl, sym, ap, ◌∙◌, subst, arith, codes, decimal, lit<}
use Rattle.form_urlencoded.specs.Form.{extend_pairs}
use Rattle.form_urlencoded.proofs.FormLemmas.{raw_pairs-nil}
use Rattle.json.proofs.Printed.Utf8.{are_ascii, IsUtf8-are_ascii}
use Rattle.std.proofs.lemmas.Fmt.{IsAscii-decimal}
use Rattle.std.proofs.lemmas.Str.{IsUtf8-from_ascii, IsUtf8-from_is_utf8}
use Rattle.std.proofs.lemmas.Bool.{true≢false}
use Rattle.attr_records.specs.Attributes.{Attributes}
use Rattle.attr_records.specs.Items.{is_large}
use Rattle.attr_records.specs.Names.{is_host_name, is_link_target}
use Rattle.attr_records.specs.PathRules.{broken_path_rule}
use Rattle.attr_records.specs.declared.nodes.Item.{Item}
use Rattle.attr_records.specs.declared.nodes.Item.TheVariants.{File, Dir, Link}
use Rattle.backup_rules.specs.declared.lines.Kind.{Kind}
use Rattle.backup_rules.specs.declared.lines.Kind.TheVariants.{Full, Incr}
use Rattle.http_heads.specs.Heads.{HeadParts}
use Rattle.http_query.specs.Query.{Pair, texts_of, query_pairs, value_of, holds_replacement}
use Rattle.http_query.specs.declared.keys.QueryRule.TheVariants.{Value}
use Rattle.http_routes.specs.Forms.{HasForm}
use Rattle.http_routes.specs.Targets.{path_of, query_of}
use Rattle.http_routes.specs.Actions.{action_of}
use Rattle.http_routes.specs.declared.route.Route.{Route}
use Rattle.http_routes.specs.declared.route.Route.TheVariants as R
use Rattle.http_routes.specs.declared.route.Action.{Action}
use Rattle.http_routes.specs.declared.route.Action.TheVariants as A
use Rattle.http_routes.specs.declared.route.HostAction.TheVariants as H
use Rattle.http_routes.specs.declared.route.BackupAction.TheVariants as B
use Rattle.http_routes.specs.declared.route.SessionAction.TheVariants as S
use Rattle.office_model.specs.Office.{piece_limit}
use Rattle.office_model.specs.declared.event.Event.{Event}
use Rattle.office_model.specs.declared.event.Event.TheVariants as E
use Rattle.office_model.specs.declared.event.PutItem.TheVariants.{Whole, Staged}
use Rattle.receipts.specs.declared.session.SessionName.{SessionName}
use Rattle.receipts.specs.Session.{session_text}
use Rattle.request_events.specs.declared.defaults.Defaults.{Defaults}
use Rattle.request_events.specs.declared.items.ItemKind.{ItemKind}
use Rattle.request_events.specs.declared.items.ItemKind.TheVariants as K
use Rattle.request_events.specs.declared.plan.FilePut.{FilePut}
use Rattle.request_events.specs.declared.plan.Plan.{Plan}
use Rattle.request_events.specs.declared.plan.Plan.TheVariants as P
use Rattle.request_events.specs.declared.refusal.RequestRefusal.TheVariants.{BadQuery, BadTarget}
use Rattle.request_events.specs.Said.{Said, ◌>>=◌, or_refuse}
use Rattle.request_events.specs.Names.{host_in, number_in, session_in}
use Rattle.request_events.specs.Keys.{needed, optional, entry_keys, file_keys, keys_of, taken}
use Rattle.request_events.specs.Items.{item_kind_of, attributes_in, group_in}
use Rattle.request_events.specs.Values.{value_in, dump_kind_of, token_in, path_or, path_in, place_in}
use Rattle.request_events.specs.HostPlans.{host_plan}
use Rattle.request_events.specs.SessionPlans.{put_of, put_plan, session_plan}
use Rattle.request_events.specs.Plans.{plan_for, has_length, is_file, measured}
use Rattle.request_events.specs.Events.{event_of, file_event, link_event}
use Rattle.request_events.specs.Asked.{Asked, One, InStages, goes_by_stages, staged_by, asked_by, asked}
use Rattle.event_texts.specs.Requests.{backups_target}
use Rattle.event_texts.specs.Laws.{IsSession}
use Rattle.event_texts.proofs.CutLemmas.{NonePass, cut-before, cut-after, whole-before, whole-after}
use Rattle.event_texts.proofs.NameLemmas.{IsName, question, decimal_name, host_name, session_name}
use Rattle.event_texts.proofs.PathLemmas.{first-of-hosts, second-of-hosts, host-in, number-in, session-in}
use Rattle.event_texts.proofs.ReadBack.{requests-read-back}
use Rattle.push_texts.specs.Queries.{attribute_pairs, item_pairs, put_pairs, path_pairs, kind_pairs, kind_text}
use Rattle.push_texts.specs.Requests.{PushTexts, with_query, dumps_path, opening_target, dump_path, entry_path, commit_path, put_target, removal_target, list_path, list_target, item_body, with_body, getting, push_texts, is_unsaid, is_unput, unless_unsaid}
use Rattle.push_texts.specs.Laws.{AreAttributes, IsItem, IsPath, IsInRange, at, asked_for, size_of, IsHeadOf, PushesReadBack}
use Rattle.push_texts.proofs.PairLemmas.{AreSaid, pairs-back, later_rule, taken-is, ascii-said}
use Rattle.push_texts.proofs.PathLemmas.{dumps-form, entry-form, commit-form, dump-form, list-form, dumps-plain, within-plain, dump-plain, list-plain, first-of-dumps, last-of-dumps}
use Rattle.push_texts.proofs.ReadLemmas.{asked-plan}
use Rattle.push_texts.proofs.TextLemmas.{path_is_utf8}
use Rattle.push_texts.proofs.ValueLemmas.{mode-ascii, seconds-ascii, SaysAttributes, number-back, attributes-back}

-- a head of this request is read as this
abbrev Reads : PushTexts → (ℕ → Asked) → Type 0
Reads texts is =
    (head : HeadParts) → IsHeadOf texts head → (moment : ℕ) (defaults : Defaults)
    → asked head (unwrap_or texts.body []) moment defaults ≡ Ok (is moment)

-- ---- pairs that may stand in a query

abbrev IsSaidText : List ℕ → Type 0
IsSaidText text = IsUtf8 text × (holds_replacement text ≡ false)

ascii-text : (text : List ℕ) → IsAscii text → IsSaidText text
ascii-text text ascii = (IsUtf8-from_ascii text ascii, ascii-said text ascii)

number-text : (n : ℕ) → n < 2 ^ 64 → IsSaidText (decimal n)
number-text n fits = ascii-text (decimal n) (IsAscii-decimal n fits)

path-text : (path : List ℕ) → IsPath path → holds_replacement path ≡ false → IsSaidText path
path-text path is said = (IsUtf8-from_is_utf8 path (path_is_utf8 path is), said)

key : (text : List ℕ) → are_ascii text ≡ true → holds_replacement text ≡ false → IsSaidText text
key text ascii said = (IsUtf8-are_ascii text ascii, said)

attributes-said : (attr : Attributes) → AreAttributes attr → AreSaid (attribute_pairs attr)
attributes-said attr h = (
  key (codes "mode") refl refl,
  ascii-text _ (mode-ascii attr.mode),
  (
    key (codes "uid") refl refl,
    number-text attr.uid (omega (arith, h.uid)),
    (
      key (codes "gid") refl refl,
      number-text attr.gid (omega (arith, h.gid)),
      (
        key (codes "mtime") refl refl,
        ascii-text _ (seconds-ascii attr.mtime h.mtime),
        (key (codes "nanos") refl refl, number-text attr.nanos (omega (arith, h.nanos)), tt),
      ),
    ),
  ),
)

item-said : (item : Item) → IsItem item → AreSaid (item_pairs item)
item-said (File file) h = (
  key (codes "kind") refl refl,
  key (codes "file") refl refl,
  (key (codes "group") refl refl, number-text file.group (omega (arith, h.1)), attributes-said file.attr h.0),
)
item-said (Dir dir) h = (key (codes "kind") refl refl, key (codes "dir") refl refl, attributes-said dir.attr h)
item-said (Link link) h = (key (codes "kind") refl refl, key (codes "link") refl refl, attributes-said link.attr h.0)

path-said : (path : List ℕ) → IsPath path → holds_replacement path ≡ false → AreSaid (path_pairs path)
path-said path is said = (key (codes "path") refl refl, path-text path is said, tt)

put-said : (path : List ℕ) (item : Item) → IsPath path → holds_replacement path ≡ false → IsItem item → AreSaid (put_pairs path item)
put-said path item is said h = (key (codes "path") refl refl, path-text path is said, item-said item h)

kind-said : (kind : Kind) → AreSaid (kind_pairs kind)
kind-said Full = (key (codes "kind") refl refl, key (codes "full") refl refl, tt)
kind-said Incr = (key (codes "kind") refl refl, key (codes "incr") refl refl, tt)

-- ---- targets

path-cut : (path target : List ℕ) (pairs : List Pair) → target ≡ with_query path pairs → NonePass question path → path_of target ≡ path
path-cut path target pairs is h = ap path_of is ∙ cut-before question path (extend_pairs [] pairs) 63 h refl

pairs-cut : (path target : List ℕ) (pairs : List Pair) → target ≡ with_query path pairs → NonePass question path → AreSaid pairs
    → query_pairs (query_of target) ≡ pairs
pairs-cut path target pairs is h said =
    ap (λ t. query_pairs (query_of t)) is ∙ ap query_pairs (cut-after question path (extend_pairs [] pairs) 63 h refl) ∙ pairs-back pairs said

path-whole : (path target : List ℕ) → target ≡ path → NonePass question path → path_of target ≡ path
path-whole path target is h = ap path_of is ∙ whole-before question path h

pairs-none : (path target : List ℕ) → target ≡ path → NonePass question path → query_pairs (query_of target) ≡ []
pairs-none path target is h =
    ap (λ t. query_pairs (query_of t)) is ∙ ap query_pairs (whole-after question path h) ∙ ap (map texts_of) raw_pairs-nil

path-in : (path : List ℕ) → IsPath path → path_or path (broken_path_rule path) ≡ Ok path
path-in path is = ap (path_or path) is

-- ---- plans

opening-plan : (host path : List ℕ) (kind : Kind) → host_in path ≡ Ok host
    → plan_for (A.Host H.OpenDump) path (kind_pairs kind) ≡ Ok (P.OpenDump host kind None)
opening-plan host path kind names =
    let takes : taken (needed (codes "kind") ∷ optional (codes "token") ∷ []) (kind_pairs kind) ≡ Ok tt = taken-is (needed (codes "kind") ∷ optional (codes "token") ∷ []) (kind_pairs kind) (kind-said kind) (keys kind) in
    (λ i. names i >>= λ h. takes i >>= λ known. host_plan H.OpenDump h (kind_pairs kind)) ∙ kinds kind
  where
    keys : (kind : Kind) → later_rule (needed (codes "kind") ∷ optional (codes "token") ∷ []) (kind_pairs kind) ≡ None
    keys Full = refl
    keys Incr = refl

    kinds : (kind : Kind) → host_plan H.OpenDump host (kind_pairs kind) ≡ Ok (P.OpenDump host kind None)
    kinds Full = refl
    kinds Incr = refl

removal-plan : (dump : SessionName) (path at : List ℕ) → session_in at ≡ dump → IsPath path → holds_replacement path ≡ false
    → plan_for (A.Session S.Remove) at (path_pairs path) ≡ Ok (P.Ready (E.Remove dump path None))
removal-plan dump path at names is said =
    let takes : taken (needed (codes "path") ∷ optional (codes "token") ∷ []) (path_pairs path) ≡ Ok tt = taken-is (needed (codes "path") ∷ optional (codes "token") ∷ []) (path_pairs path) (path-said path is said) refl in
    λ i. takes i >>= λ known. path-in path is i >>= λ p. Ok (P.Ready (E.Remove (names i) p None))

list-plan : (host : List ℕ) (number : ℕ) (at : List ℕ) → host_in at ≡ Ok host → number_in at ≡ Ok number → (directory : Option (List ℕ)) (pairs : List Pair)
    → taken (optional (codes "path") ∷ []) pairs ≡ Ok tt → place_in pairs ≡ Ok directory
    → plan_for (A.Backup B.List) at pairs ≡ Ok (P.Ready (E.List host number directory))
list-plan host number at names counts directory pairs takes places =
    λ i. names i >>= λ h. counts i >>= λ n. takes i >>= λ known. (places i >>= λ place. Ok (E.List h n place)) >>= λ event. Ok (P.Ready event)

-- the plan of the put of an item
abbrev item_plan : SessionName → List ℕ → Item → Plan
item_plan dump path (File file) = P.PutFile (record { dump = dump; path = path; attr = file.attr; group = file.group; token = None })
item_plan dump path (Dir dir) = P.Ready (E.Put dump path (Whole (Dir dir)) None)
item_plan dump path (Link link) = P.PutLink dump path link.attr None

put-plan-is : (kind : ItemKind) (attr : Attributes) (group : ℕ) (path : List ℕ) (dump : SessionName) (pairs : List Pair)
    → value_in item_kind_of (codes "kind") pairs ≡ Ok kind → attributes_in kind pairs ≡ Ok attr → group_in pairs ≡ Ok group
    → token_in pairs ≡ Ok None → path_in pairs ≡ Ok path → put_plan dump pairs ≡ Ok (put_of kind dump path attr group None)
unfolding put_plan
put-plan-is kind attr group path dump pairs kinds attributes groups tokens paths =
    ap (λ said. said >>= λ k. attributes_in k pairs >>= λ a. group_in pairs >>= λ g. token_in pairs >>= λ t. path_in pairs >>= λ p. Ok (put_of k dump p a g t)) kinds
    ∙ (λ i. attributes i >>= λ a. groups i >>= λ g. tokens i >>= λ t. paths i >>= λ p. Ok (put_of kind dump p a g t))

item-attributes : (kind : ItemKind) (pairs : List Pair) (attr : Attributes) → AreAttributes attr → SaysAttributes attr pairs
    → attributes_in kind pairs ≡ Ok attr
item-attributes kind pairs attr h s = ap (or_refuse (BadQuery Value)) (attributes-back kind pairs attr h s)

item-plan : (dump : SessionName) (path : List ℕ) (item : Item) → IsPath path → IsItem item → put_plan dump (put_pairs path item) ≡ Ok (item_plan dump path item)
item-plan dump path (File file) is h =
    put-plan-is K.File file.attr file.group path dump (put_pairs path (File file)) refl
    (item-attributes K.File (put_pairs path (File file)) file.attr h.0 (record { mode = refl; uid = refl; gid = refl; mtime = refl; nanos = refl }))
    (ap (or_refuse (BadQuery Value)) (number-back (codes "group") (put_pairs path (File file)) file.group h.1 refl)) refl (path-in path is)
item-plan dump path (Dir dir) is h =
    put-plan-is K.Dir dir.attr 0 path dump (put_pairs path (Dir dir)) refl
    (item-attributes K.Dir (put_pairs path (Dir dir)) dir.attr h (record { mode = refl; uid = refl; gid = refl; mtime = refl; nanos = refl }))
    refl refl (path-in path is)
item-plan dump path (Link link) is h =
    put-plan-is K.Link link.attr 0 path dump (put_pairs path (Link link)) refl
    (item-attributes K.Link (put_pairs path (Link link)) link.attr h.0 (record { mode = refl; uid = refl; gid = refl; mtime = refl; nanos = refl }))
    refl refl (path-in path is)

item-taken : (path : List ℕ) (item : Item) → AreSaid (put_pairs path item)
    → taken (keys_of (A.Session S.Put) (put_pairs path item)) (put_pairs path item) ≡ Ok tt
item-taken path (File file) said = taken-is file_keys (put_pairs path (File file)) said refl
item-taken path (Dir dir) said = taken-is entry_keys (put_pairs path (Dir dir)) said refl
item-taken path (Link link) said = taken-is entry_keys (put_pairs path (Link link)) said refl

put-plan : (dump : SessionName) (at path : List ℕ) (item : Item) → session_in at ≡ dump → IsPath path → holds_replacement path ≡ false → IsItem item
    → plan_for (A.Session S.Put) at (put_pairs path item) ≡ Ok (item_plan dump path item)
put-plan dump at path item names is said h =
    (λ i. item-taken path item (put-said path item is said h) i >>= λ known. put_plan (names i) (put_pairs path item)) ∙ item-plan dump path item is h

-- ---- events

opening-back : (host : List ℕ) (kind : Kind) → is_host_name host ≡ true
    → Reads (with_body (codes "POST") (opening_target host kind) []) (λ moment. One (E.OpenDump host kind moment None))
opening-back host kind named head is moment defaults =
    let n = host_name host named in
    let path = dumps_path host in
    let plain = dumps-plain host n.no_question in
    asked-plan path (kind_pairs kind) (codes "POST") R.Dumps (A.Host H.OpenDump) (P.OpenDump host kind None) (dumps-form host n) refl
    (opening-plan host path kind (host-in path host (first-of-hosts host (codes "dumps") n.no_slash) named))
    head is.method (path-cut path head.target (kind_pairs kind) is.target plain) (pairs-cut path head.target (kind_pairs kind) is.target plain (kind-said kind))
    refl [] moment defaults

-- what is asked of a dump
module _ (dump : SessionName) (fits : IsSession dump) where
  text : List ℕ
  text = session_text dump

  named : IsName (session_text dump)
  named = session_name dump fits

  entry_plain : NonePass question (entry_path dump)
  entry_plain = within-plain (session_text dump) (codes "/entry") named.no_question refl

  entry_is : session_in (entry_path dump) ≡ dump
  entry_is = session-in (entry_path dump) dump (first-of-dumps (session_text dump) (codes "entry") named.no_slash) fits

  removal-back : (path : List ℕ) → IsPath path → holds_replacement path ≡ false
      → Reads (with_body (codes "DELETE") (removal_target dump path) []) (λ moment. One (E.Remove dump path None))
  removal-back path is said head h moment defaults =
      asked-plan (entry_path dump) (path_pairs path) (codes "DELETE") R.Entry (A.Session S.Remove) (P.Ready (E.Remove dump path None))
      (entry-form (session_text dump) named) refl (removal-plan dump path (entry_path dump) entry_is is said)
      head h.method (path-cut (entry_path dump) head.target (path_pairs path) h.target entry_plain)
      (pairs-cut (entry_path dump) head.target (path_pairs path) h.target entry_plain (path-said path is said)) refl [] moment defaults

  commit-back : Reads (with_body (codes "POST") (commit_path dump) []) (λ moment. One (E.Commit dump moment))
  commit-back head h moment defaults =
      let path = commit_path dump in
      let plain = within-plain (session_text dump) (codes "/commit") named.no_question refl in
      asked-plan path [] (codes "POST") R.Commit (A.Session S.Commit) (P.Commit dump) (commit-form (session_text dump) named) refl
      (ap (λ session. Ok (P.Commit session)) (session-in path dump (first-of-dumps (session_text dump) (codes "commit") named.no_slash) fits))
      head h.method (path-whole path head.target h.target plain) (pairs-none path head.target h.target plain) refl [] moment defaults

  abort-back : Reads (with_body (codes "DELETE") (dump_path dump) []) (λ moment. One (E.Abort dump))
  abort-back head h moment defaults =
      let path = dump_path dump in
      let plain = dump-plain (session_text dump) named.no_question in
      asked-plan path [] (codes "DELETE") R.Dump (A.Session S.Abort) (P.Ready (E.Abort dump)) (dump-form (session_text dump) named) refl
      (ap (λ session. Ok (P.Ready (E.Abort session))) (session-in path dump (last-of-dumps (session_text dump) named.no_slash) fits))
      head h.method (path-whole path head.target h.target plain) (pairs-none path head.target h.target plain) refl [] moment defaults

  module _ (path : List ℕ) (is : IsPath path) (said : holds_replacement path ≡ false) where
    -- what is asked, whatever the item's plan
    put-asked : (item : Item) → IsItem item → (head : HeadParts) → IsHeadOf (with_body (codes "PUT") (put_target dump path item) (item_body item)) head
        → measured (has_length head) (item_plan dump path item) ≡ Ok (item_plan dump path item) → (moment : ℕ) (defaults : Defaults)
        → asked head (item_body item) moment defaults
        ≡ asked_by (staged_by (goes_by_stages head) (item_plan dump path item)) (event_of (item_plan dump path item) (item_body item) moment defaults)
    put-asked item ranged head h fit moment defaults =
        asked-plan (entry_path dump) (put_pairs path item) (codes "PUT") R.Entry (A.Session S.Put) (item_plan dump path item)
        (entry-form (session_text dump) named) refl (put-plan dump (entry_path dump) path item entry_is is said ranged)
        head h.method (path-cut (entry_path dump) head.target (put_pairs path item) h.target entry_plain)
        (pairs-cut (entry_path dump) head.target (put_pairs path item) h.target entry_plain (put-said path item is said ranged)) fit (item_body item) moment defaults

    file-asked : (put : FilePut) (bytes : List ℕ) (long : Bool)
        → asked_by (staged_by long (P.PutFile put)) (Ok (file_event put bytes)) ≡ Ok (if long then InStages put else One (file_event put bytes))
    file-asked put bytes true = refl
    file-asked put bytes false = refl

    put-back : (item : Item) → IsItem item
        → Reads (with_body (codes "PUT") (put_target dump path item) (item_body item)) (λ moment. asked_for moment (E.Put dump path (Whole item) None))
    put-back (File file) ranged head h moment defaults =
        let put : FilePut = record { dump = dump; path = path; attr = file.attr; group = file.group; token = None } in
        put-asked (File file) ranged head h (ap (λ (n : Option ℕ). measured (is_some n || head.chunked) (P.PutFile put)) h.length) moment defaults
        ∙ (λ i. asked_by (staged_by (h.chunked i || nat_lt piece_limit (unwrap_or (h.length i) 0)) (P.PutFile put)) (Ok (file_event put file.bytes)))
        ∙ file-asked put file.bytes (nat_lt piece_limit (length file.bytes))
    put-back (Dir dir) ranged head h moment defaults = put-asked (Dir dir) ranged head h refl moment defaults
    put-back (Link link) ranged head h moment defaults =
        put-asked (Link link) ranged head h refl moment defaults
        ∙ ap (λ (is_target : Bool). asked_by None (if is_target then Ok (E.Put dump path (Whole (Link link)) None) else Err BadTarget)) ranged.1

list-back : (host : List ℕ) (number : ℕ) (directory : Option (List ℕ)) → is_host_name host ≡ true → number < 2 ^ 32 → IfSome directory IsPath
    → is_unsaid directory ≡ false → Reads (getting (list_target host number directory)) (λ moment. One (E.List host number directory))
list-back host number None named small ranged unsaid head h moment defaults =
    let n = host_name host named in
    let d = decimal_name number (omega (arith, small)) in
    let path = list_path host number in
    let plain = list-plain host (decimal number) n.no_question d.no_question in
    asked-plan path [] (codes "GET") R.BackupList (A.Backup B.List) (P.Ready (E.List host number None)) (list-form host (decimal number) n d) refl
    (list-plan host number path (host-in path host (first-of-hosts host (codes "backups/" ++ (decimal number ++ codes "/list")) n.no_slash) named)
    (number-in path number (second-of-hosts host (decimal number) (codes "list") n.no_slash d.no_slash) small) None [] refl refl)
    head h.method (path-whole path head.target h.target plain) (pairs-none path head.target h.target plain) refl [] moment defaults
list-back host number (Some directory) named small ranged unsaid head h moment defaults =
    let n = host_name host named in
    let d = decimal_name number (omega (arith, small)) in
    let path = list_path host number in
    let plain = list-plain host (decimal number) n.no_question d.no_question in
    let said = path-said directory ranged unsaid in
    let pairs = path_pairs directory in
    asked-plan path pairs (codes "GET") R.BackupList (A.Backup B.List) (P.Ready (E.List host number (Some directory))) (list-form host (decimal number) n d) refl
    (list-plan host number path (host-in path host (first-of-hosts host (codes "backups/" ++ (decimal number ++ codes "/list")) n.no_slash) named)
    (number-in path number (second-of-hosts host (decimal number) (codes "list") n.no_slash d.no_slash) small) (Some directory) pairs
    (taken-is (optional (codes "path") ∷ []) pairs said refl) (ap (λ (place : Said (List ℕ)). place >>= λ p. Ok (Some p)) (path-in directory ranged)))
    head h.method (path-cut path head.target pairs h.target plain) (pairs-cut path head.target pairs h.target plain said) refl [] moment defaults

backups-back : (host : List ℕ) → is_host_name host ≡ true → Reads (getting (backups_target host)) (λ moment. One (E.Backups host))
backups-back host named head h moment defaults =
    requests-read-back (E.Backups host) (record { method = codes "GET"; target = backups_target host }) refl named head h.method h.target [] moment defaults

-- ---- the law

some-is : (x y : PushTexts) → Some x ≡ Some y → x ≡ y
some-is x y e = cc e

-- a request that there is names no path that a query can't say
pub said-is : (unsaid : Bool) (x y : PushTexts) → unless_unsaid unsaid x ≡ Some y → (unsaid ≡ false) × (x ≡ y)
said-is true x y e = absurd (cc e)
said-is false x y e = (refl, some-is x y e)

pub neither-is : (a b : Bool) → (a || b) ≡ false → (a ≡ false) × (b ≡ false)
neither-is true b e = absurd (true≢false e)
neither-is false b e = (refl, e)

read-as : (event : Event) (x texts : PushTexts) → Reads x (λ moment. asked_for moment event) → x ≡ texts → Reads texts (λ moment. asked_for moment event)
read-as event x texts reads is = subst (λ (t : PushTexts). Reads t (λ moment. asked_for moment event)) is reads

pub pushes-read-back : PushesReadBack
pushes-read-back (E.OpenDump host kind now None) texts e range =
    read-as (E.OpenDump host kind now None) _ texts (opening-back host kind range) (some-is _ texts e)
pushes-read-back (E.Put dump path (Whole item) None) texts e range =
    let said = said-is (is_unput path item) (with_body (codes "PUT") (put_target dump path item) (item_body item)) texts e in
    read-as (E.Put dump path (Whole item) None) _ texts (put-back dump range.0 path range.1 (neither-is (holds_replacement path) (is_large item) said.0).0 item range.2) said.1
pushes-read-back (E.Remove dump path None) texts e range =
    let said = said-is (holds_replacement path) (with_body (codes "DELETE") (removal_target dump path) []) texts e in
    read-as (E.Remove dump path None) _ texts (removal-back dump range.0 path range.1 said.0) said.1
pushes-read-back (E.Commit dump now) texts e range = read-as (E.Commit dump now) _ texts (commit-back dump range) (some-is _ texts e)
pushes-read-back (E.Abort dump) texts e range = read-as (E.Abort dump) _ texts (abort-back dump range) (some-is _ texts e)
pushes-read-back (E.Backups host) texts e range = read-as (E.Backups host) _ texts (backups-back host range) (some-is _ texts e)
pushes-read-back (E.List host number directory) texts e range =
    let said = said-is (is_unsaid directory) (getting (list_target host number directory)) texts e in
    read-as (E.List host number directory) _ texts (list-back host number directory range.0 range.1 range.2 said.0) said.1
pushes-read-back event texts e range = absurd (cc e)
