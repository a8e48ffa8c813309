-- The bodies of a pull's responses are short: JSON.
use Rattle.std.proofs.Common.{ℕ, ◌+◌, ◌*◌, ◌/◌, ◌%◌, ◌<◌, ◌≤◌, ◌^◌, nat_lt, Bool, true, false, cond, List, [], ◌∷◌, ◌++◌, map, length, Option, Some, None, refl, arith, codes, decimal, length-append}
use Rattle.std.specs.List.{AllByRecursion}
use Rattle.std.specs.Char.{digit_char}
use Rattle.std.proofs.lemmas.Fmt.{length-decimal-le}
use Rattle.json.specs.Print.{escape_letter, escape_byte, escape, quoted}
use Rattle.serde_json.specs.Data.{Data, boolean, string, Members, no_members, member}
use Rattle.serde_json.specs.View.{items_of}
use Rattle.serde_json.specs.Written.{comma_if, compact_text, items_text, members_text}
use Rattle.backup_rules.specs.declared.lines.Kind.{Kind}
use Rattle.backup_rules.specs.declared.lines.Kind.TheVariants.{Full, Incr}
use Rattle.backup_rules.specs.declared.lines.Line.{Line}
use Rattle.receipts.specs.declared.session.SessionName.{SessionName}
use Rattle.receipts.specs.Session.{session_text}
use Rattle.reply_bodies.specs.Laws.{IsSession}
use Rattle.reply_bodies.specs.Objects.{Text, text_field, object_text, json_text, json_list, json_count}
use Rattle.reply_bodies.specs.Replies.{kind_text, line_data, dump_data, backups_data, refused}
use Rattle.listing_back.specs.Laws.{IsRanged, MaybeSession}

-- ---- texts

pub wide-few : (n : ℕ) → n < 2 ^ 64 → length (decimal n) ≤ 20
wide-few n fits = length-decimal-le 20 n (omega arith) (omega (arith, fits)) fits

pub session-few : (name : SessionName) → IsSession name → length (session_text name) ≤ 41
session-few name fits = omega (
  arith,
  wide-few name.epoch fits.0,
  wide-few name.sequence fits.1,
  length-append (decimal name.epoch) (45 ∷ decimal name.sequence),
)

escaped : (a b : Bool) (letter high low x : ℕ)
    → length (cond a (92 ∷ letter ∷ []) (cond b (92 ∷ 117 ∷ 48 ∷ 48 ∷ high ∷ low ∷ []) (x ∷ []))) ≤ 6
escaped true b letter high low x = omega arith
escaped false true letter high low x = omega arith
escaped false false letter high low x = omega arith

byte-few : (x : ℕ) → length (escape_byte x) ≤ 6
unfolding escape_byte
byte-few x = escaped (nat_lt 0 (escape_letter x)) (nat_lt x 32) (escape_letter x) (digit_char (x / 16)) (digit_char (x % 16)) x

escape-few : (s : List ℕ) → length (escape s) ≤ 6 * length s
escape-few [] = omega arith
escape-few (x ∷ s) = omega (arith, byte-few x, escape-few s, length-append (escape_byte x) (escape s))

quoted-few : (s : List ℕ) → length (quoted s) ≤ 6 * length s + 2
quoted-few s = omega (arith, escape-few s, length-append (escape s) (34 ∷ []))

-- ---- objects and lists

comma-few : (later : Bool) → length (comma_if later) ≤ 1
comma-few true = omega arith
comma-few false = omega arith

-- a member with a short key
member-few : (later : Bool) (k : List ℕ) (d : Data) (ms : Members) (b c : ℕ) → length k ≤ 10 → length (compact_text d) ≤ b
    → length (members_text true ms) ≤ c → length (members_text later (member k d ms)) ≤ 64 + b + c
member-few later k d ms b c key value rest = omega (
  arith,
  key,
  value,
  rest,
  comma-few later,
  quoted-few k,
  length-append (comma_if later) (quoted k ++ 58 ∷ (compact_text d ++ members_text true ms)),
  length-append (quoted k) (58 ∷ (compact_text d ++ members_text true ms)),
  length-append (compact_text d) (members_text true ms),
)

flag-few : (b : Bool) → length (compact_text (boolean b)) ≤ 28
flag-few true = omega arith
flag-few false = omega arith

kind-length : (kind : Kind) → length (kind_text kind) ≤ 4
kind-length Full = omega arith
kind-length Incr = omega arith

kind-few : (kind : Kind) → length (compact_text (string (kind_text kind))) ≤ 28
kind-few kind = omega (arith, kind-length kind, quoted-few (kind_text kind))

count-few : (n : ℕ) → n < 2 ^ 64 → length (compact_text (json_count n)) ≤ 28
count-few n fits = omega (arith, wide-few n fits)

-- one of the six members of a line
part-few : (later : Bool) (k : List ℕ) (d : Data) (ms : Members) (c : ℕ) → length k ≤ 10 → length (compact_text d) ≤ 28
    → length (members_text true ms) ≤ c → length (members_text later (member k d ms)) ≤ 92 + c
part-few later k d ms c key value rest = omega (arith, member-few later k d ms 28 c key value rest)

line-few : (line : Line) → IsRanged line → length (compact_text (line_data line)) ≤ 560
line-few line r =
    let one : Members = member (codes "start") (json_count line.start) no_members in
    let two : Members = member (codes "number") (json_count line.number) one in
    let three : Members = member (codes "kind") (string (kind_text line.kind)) two in
    let four : Members = member (codes "keep") (boolean line.keep) three in
    let five : Members = member (codes "filled") (boolean line.filled) four in
    let start = part-few true (codes "start") (json_count line.start) no_members 1 (omega arith) (count-few line.start r.start) (omega arith) in
    let number = part-few true (codes "number") (json_count line.number) one 93 (omega arith) (count-few line.number (omega (arith, r.number))) start in
    let kind = part-few true (codes "kind") (string (kind_text line.kind)) two 185 (omega arith) (kind-few line.kind) number in
    let keep = part-few true (codes "keep") (boolean line.keep) three 277 (omega arith) (flag-few line.keep) kind in
    let filled = part-few true (codes "filled") (boolean line.filled) four 369 (omega arith) (flag-few line.filled) keep in
    let all = part-few false (codes "end") (json_count line.end) five 461 (omega arith) (count-few line.end r.end) filled in
    omega (arith, all)

lines-few : (later : Bool) (lines : List Line) → AllByRecursion IsRanged lines
    → length (items_text later (items_of (map line_data lines))) ≤ 561 * length lines + 1
lines-few later [] h = omega arith
lines-few later (line ∷ lines) h = omega (
  arith,
  comma-few later,
  line-few line h.0,
  lines-few true lines h.1,
  length-append (comma_if later) (compact_text (line_data line) ++ items_text true (items_of (map line_data lines))),
  length-append (compact_text (line_data line)) (items_text true (items_of (map line_data lines))),
)

dump-few : (dump : Option SessionName) → MaybeSession dump → length (compact_text (dump_data dump)) ≤ 248
dump-few None h = omega arith
dump-few (Some name) h = omega (arith, session-few name (h name refl), quoted-few (session_text name))

pub listing-few : (lines : List Line) (next : ℕ) (dump : Option SessionName) → AllByRecursion IsRanged lines → next < 2 ^ 64 → MaybeSession dump
    → length (json_text (backups_data lines next dump)) ≤ 561 * length lines + 600
unfolding json_text
listing-few lines next dump h fits d =
    let one : Members = member (codes "next") (json_count next) no_members in
    let two : Members = member (codes "dump") (dump_data dump) one in
    let last = member-few true (codes "next") (json_count next) no_members 28 1 (omega arith) (count-few next fits) (omega arith) in
    let behind = member-few true (codes "dump") (dump_data dump) one 248 93 (omega arith) (dump-few dump d) last in
    let all = member-few false (codes "backups") (json_list (map line_data lines)) two (561 * length lines + 2) 405 (omega arith)
    (omega (arith, lines-few false lines h)) behind in
    omega (arith, all)

pub opened-few : (name : SessionName) → IsSession name → length (object_text ((codes "restore", Text (session_text name)) ∷ [])) ≤ 60
unfolding object_text text_field
opened-few name fits = omega (
  arith,
  session-few name fits,
  length-append (session_text name ++ 34 ∷ []) (125 ∷ []),
  length-append (session_text name) (34 ∷ []),
)

pub refused-few : (name : List ℕ) → length (object_text (refused name)) ≤ length name + 20
unfolding object_text text_field
refused-few name = omega (arith, length-append (name ++ 34 ∷ []) (125 ∷ []), length-append name (34 ∷ []))

pub damaged-few : (name : List ℕ)
    → length (object_text ((codes "file", Text name) ∷ (codes "refused", Text (codes "Damaged")) ∷ [])) ≤ length name + 40
unfolding object_text text_field
damaged-few name = omega (arith, length-append (name ++ 34 ∷ []) (codes ",\"refused\":\"Damaged\"}"), length-append name (34 ∷ []))
