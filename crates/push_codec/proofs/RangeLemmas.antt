-- The tests of ranges, as facts.
use Rattle.std.proofs.Common.{◌≡◌, ℕ, ℤ, pos, negsuc, ◌^◌, nat_lt, nat_le, Bool, true, ◌&&◌, List, Option, Some, None, IfSome, is_some, is_none, refl, sym}
use Rattle.std.specs.Cmp.{first_so, second_so}
use Rattle.std.proofs.lemmas.Bool.{ltb-true, leb-true, true≢false}
use Rattle.attr_records.specs.Attributes.{Attributes}
use Rattle.attr_records.specs.Names.{is_host_name, is_link_target}
use Rattle.attr_records.specs.PathRules.{broken_path_rule}
use Rattle.attr_records.specs.declared.paths.BadPath.{BadPath}
use Rattle.attr_records.specs.declared.nodes.Item.{Item}
use Rattle.attr_records.specs.declared.nodes.Item.TheVariants.{File, Dir, Link}
use Rattle.office_model.specs.declared.event.Event.{Event}
use Rattle.office_model.specs.declared.event.Event.TheVariants as E
use Rattle.office_model.specs.declared.event.PutItem.TheVariants.{Whole, Staged}
use Rattle.receipts.specs.declared.session.SessionName.{SessionName}
use Rattle.event_texts.specs.Laws.{IsSession}
use Rattle.pull_codec.specs.Codec.{is_session}
use Rattle.push_texts.specs.Requests.{PushTexts, push_texts}
use Rattle.push_texts.specs.Laws.{IsLong, AreAttributes, IsItem, IsPath, IsInRange}
use Rattle.push_codec.specs.Ranges.{is_long, are_attributes, is_item, is_path, is_place, is_ranged}
use Rattle.push_codec.specs.Codec.{may}

pub both : (a b : Bool) → (a && b) ≡ true → (a ≡ true) × (b ≡ true)
both a b e = (first_so a b e, second_so a b e)

session-in : (name : SessionName) → is_session name ≡ true → IsSession name
session-in name e =
    let p = both (nat_lt name.epoch (2 ^ 64)) (nat_lt name.sequence (2 ^ 64)) e in
    (ltb-true name.epoch (2 ^ 64) p.0, ltb-true name.sequence (2 ^ 64) p.1)

long-in : (z : ℤ) → is_long z ≡ true → IsLong z
long-in (pos n) e = ltb-true n (2 ^ 63) e
long-in (negsuc n) e = ltb-true n (2 ^ 63) e

attributes-in : (attr : Attributes) → are_attributes attr ≡ true → AreAttributes attr
attributes-in attr e =
    let last = is_long attr.mtime && nat_le attr.nanos 999999999 in
    let behind = nat_lt attr.gid (2 ^ 32) && last in
    let p = both (nat_le attr.mode 4095) (nat_lt attr.uid (2 ^ 32) && behind) e in
    let q = both (nat_lt attr.uid (2 ^ 32)) behind p.1 in
    let r = both (nat_lt attr.gid (2 ^ 32)) last q.1 in
    let s = both (is_long attr.mtime) (nat_le attr.nanos 999999999) r.1 in
    record {
      mode = leb-true attr.mode 4095 p.0;
      uid = ltb-true attr.uid (2 ^ 32) q.0;
      gid = ltb-true attr.gid (2 ^ 32) r.0;
      mtime = long-in attr.mtime s.0;
      nanos = leb-true attr.nanos 999999999 s.1;
    }

item-in : (item : Item) → is_item item ≡ true → IsItem item
item-in (File file) e =
    let p = both (are_attributes file.attr) (nat_lt file.group (2 ^ 32)) e in (attributes-in file.attr p.0, ltb-true file.group (2 ^ 32) p.1)
item-in (Dir dir) e = attributes-in dir.attr e
item-in (Link link) e =
    let p = both (are_attributes link.attr) (is_link_target link.target) e in (attributes-in link.attr p.0, p.1)

none-in : (rule : Option BadPath) → is_none rule ≡ true → rule ≡ None
none-in None e = refl
none-in (Some rule) e = absurd (true≢false (sym e))

path-in : (path : List ℕ) → is_path path ≡ true → IsPath path
path-in path e = none-in (broken_path_rule path) e

place-in : (directory : Option (List ℕ)) → is_place directory ≡ true → IfSome directory IsPath
place-in None e = tt
place-in (Some path) e = path-in path e

ranged-in : (event : Event) → is_ranged event ≡ true → IsInRange event
ranged-in (E.OpenDump host kind now token) e = e
ranged-in (E.Put dump path (Whole item) token) e =
    let p = both (is_session dump) (is_path path && is_item item) e in
    let q = both (is_path path) (is_item item) p.1 in
    (session-in dump p.0, path-in path q.0, item-in item q.1)
ranged-in (E.Put dump path (Staged file) token) e = tt
ranged-in (E.Remove dump path token) e = let p = both (is_session dump) (is_path path) e in (session-in dump p.0, path-in path p.1)
ranged-in (E.Commit dump now) e = session-in dump e
ranged-in (E.Abort dump) e = session-in dump e
ranged-in (E.Backups host) e = e
ranged-in (E.List host number directory) e =
    let p = both (is_host_name host) (nat_lt number (2 ^ 32) && is_place directory) e in
    let q = both (nat_lt number (2 ^ 32)) (is_place directory) p.1 in
    (p.0, ltb-true number (2 ^ 32) q.0, place-in directory q.1)
ranged-in event e = tt

-- an event of a push has texts, and is in its range
pub record IsPushed (event : Event) : Type 0 where
  pub texts : PushTexts
  pub has : push_texts event ≡ Some texts
  pub range : IsInRange event

pushed-by : (event : Event) (found : Option PushTexts) → push_texts event ≡ found → is_some found ≡ true → IsInRange event → IsPushed event
pushed-by event None is e range = absurd (true≢false (sym e))
pushed-by event (Some texts) is e range = record { texts = texts; has = is; range = range }

pub pushed : (event : Event) → may event ≡ true → IsPushed event
pushed event e =
    let q = both (is_some (push_texts event)) (is_ranged event) e in
    pushed-by event (push_texts event) refl q.0 (ranged-in event q.1)
