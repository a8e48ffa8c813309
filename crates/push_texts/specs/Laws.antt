-- What a client writes of an event of a push is read as that event.
--     PushesReadBack, PushesArePlain      the laws
use Rattle.std.specs.Prelude.{◌≡◌, ℕ, ℤ, pos, negsuc, ◌<◌, ◌≤◌, ◌^◌, nat_lt, true, false, List, [], length, Option, Some, None, Ok, IfSome, unwrap_or, IsUtf8, bytes_eq, codes, if◌then◌else◌}
use Rattle.std.specs.List.{list_all}
use Rattle.httparse.specs.Grammar.{is_token, is_uri_byte}
use Rattle.attr_records.specs.Attributes.{Attributes}
use Rattle.attr_records.specs.Names.{is_host_name, is_link_target}
use Rattle.attr_records.specs.PathRules.{broken_path_rule}
use Rattle.attr_records.specs.declared.nodes.Item.{Item}
use Rattle.attr_records.specs.declared.nodes.Item.TheVariants.{File, Dir, Link}
use Rattle.office_model.specs.Office.{piece_limit}
use Rattle.office_model.specs.declared.event.Event.{Event}
use Rattle.office_model.specs.declared.event.Event.TheVariants as E
use Rattle.office_model.specs.declared.event.PutItem.TheVariants.{Whole}
use Rattle.http_heads.specs.Heads.{HeadParts}
use Rattle.request_events.specs.declared.defaults.Defaults.{Defaults}
use Rattle.request_events.specs.Asked.{Asked, One, InStages, asked}
use Rattle.event_texts.specs.Laws.{IsSession}
use Rattle.push_texts.specs.Requests.{PushTexts, push_texts}

-- ---- ranges, as the program's types have them

-- 64 bits, with a sign
abbrev pub IsLong : ℤ → Type 0
IsLong (pos n) = n < 2 ^ 63
IsLong (negsuc n) = n < 2 ^ 63

pub record AreAttributes (attr : Attributes) : Type 0 where
  pub mode : attr.mode ≤ 4095
  pub uid : attr.uid < 2 ^ 32
  pub gid : attr.gid < 2 ^ 32
  pub mtime : IsLong attr.mtime
  pub nanos : attr.nanos ≤ 999999999

abbrev pub IsItem : Item → Type 0
IsItem (File file) = AreAttributes file.attr × (file.group < 2 ^ 32)
IsItem (Dir dir) = AreAttributes dir.attr
IsItem (Link link) = AreAttributes link.attr × (is_link_target link.target ≡ true)

abbrev pub IsPath : List ℕ → Type 0
IsPath path = broken_path_rule path ≡ None

abbrev pub IsInRange : Event → Type 0
IsInRange (E.OpenDump host kind now token) = is_host_name host ≡ true
IsInRange (E.Put dump path (Whole item) token) = IsSession dump × IsPath path × IsItem item
IsInRange (E.Remove dump path token) = IsSession dump × IsPath path
IsInRange (E.Commit dump now) = IsSession dump
IsInRange (E.Abort dump) = IsSession dump
IsInRange (E.Backups host) = is_host_name host ≡ true
IsInRange (E.List host number directory) = (is_host_name host ≡ true) × (number < 2 ^ 32) × IfSome directory IsPath
IsInRange event = Unit {0}

-- ---- what a server reads

-- a server has the event as it was asked for, but at its own moment
abbrev pub at : ℕ → Event → Event
at moment (E.OpenDump host kind now token) = E.OpenDump host kind moment token
at moment (E.Commit dump now) = E.Commit dump moment
at moment event = event

-- it has a file of more than a piece by stages, and all else as one event
abbrev pub asked_for : ℕ → Event → Asked
asked_for moment (E.Put dump path (Whole (File file)) token) =
    if nat_lt piece_limit (length file.bytes)
    then InStages (record { dump = dump; path = path; attr = file.attr; group = file.group; token = token })
    else One (E.Put dump path (Whole (File file)) token)
asked_for moment event = One (at moment event)

-- the length of the body, if there is one
abbrev pub size_of : Option (List ℕ) → Option ℕ
size_of None = None
size_of (Some body) = Some (length body)

-- a head that says the request, with the length of its body
pub record IsHeadOf (texts : PushTexts) (head : HeadParts) : Type 0 where
  pub method : head.method ≡ texts.method
  pub target : head.target ≡ texts.target
  pub length : head.content_length ≡ size_of texts.body
  pub chunked : head.chunked ≡ false

-- the head and the body of an event's request ask for it, whatever else the head says
abbrev pub PushesReadBack : Type 0
PushesReadBack =
    (event : Event) (texts : PushTexts) → push_texts event ≡ Some texts → IsInRange event → (head : HeadParts) → IsHeadOf texts head
    → (moment : ℕ) (defaults : Defaults) → asked head (unwrap_or texts.body []) moment defaults ≡ Ok (asked_for moment event)

-- method and target may stand in a head, and are short; the body is within the limit of a tree's files
pub record IsPlainRequest (texts : PushTexts) : Type 0 where
  pub method : is_token texts.method ≡ true
  pub few : length texts.method ≤ 6
  pub no_head : bytes_eq texts.method (codes "HEAD") ≡ false
  pub some : 0 < length texts.target
  pub target : list_all is_uri_byte texts.target ≡ true
  pub short : length texts.target ≤ 13000
  pub text : IsUtf8 texts.target
  pub body : IfSome texts.body (λ bytes. length bytes ≤ 67108864)

abbrev pub PushesArePlain : Type 0
PushesArePlain = (event : Event) (texts : PushTexts) → push_texts event ≡ Some texts → IsInRange event → IsPlainRequest texts
