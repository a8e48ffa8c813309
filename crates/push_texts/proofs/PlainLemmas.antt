-- The texts of a push's requests may stand in heads, and are short.
use Rattle.std.proofs.Common.{◌≡◌, ℕ, zero, suc, ℤ, pos, negsuc, ◌+◌, ◌*◌, ◌<◌, ◌≤◌, ◌^◌, ◌/◌, ◌%◌, ◌==◌, nat_lt, cond, Bool, true, false, not, ◌&&◌, List, [], ◌∷◌, ◌++◌, length, Option, Some, None, IfSome, IsAscii, IsUtf8, All, ◌⊎◌, inl, inr, bytes_eq, refl, sym, ap, ◌∙◌, subst, arith, codes, decimal, length-append}
use Rattle.std.specs.Cmp.{first_so, second_so}
use Rattle.std.specs.Fmt.{signed_decimal}
use Rattle.std.specs.List.{list_all}
use Rattle.std.proofs.lemmas.Bool.{cond_both, ltb-true}
use Rattle.std.proofs.lemmas.Bool.Decides.{nat_tests}
use Rattle.std.proofs.lemmas.Fmt.{length-decimal-le}
use Rattle.std.proofs.lemmas.List.Elements.{All-head, All-tail}
use Rattle.std.proofs.lemmas.Str.{IsUtf8-from_ascii}
use Rattle.std.proofs.lemmas.Str.Ascii.{IsAscii-nil, IsAscii-cons}
use Rattle.httparse.specs.Grammar.{is_token, is_token_byte, is_uri_byte}
use Rattle.percent_encoding.specs.Percent.{percent_encode_byte}
use Rattle.form_urlencoded.specs.Form.{is_unchanged, IsUnchanged, serialize_byte, byte_serialize, serialize_pair, separator, append_pair, extend_pairs, is_nonempty}
use Rattle.form_urlencoded.proofs.FormLemmas.{IsSerializedByte, All-byte_serialize, byte_serialize-nil, byte_serialize-cons}
use Rattle.attr_records.specs.Attributes.{Attributes}
use Rattle.attr_records.specs.Items.{is_large}
use Rattle.attr_records.specs.Names.{is_host_name, is_host_byte}
use Rattle.attr_records.specs.NameLaws.{short_target}
use Rattle.attr_records.specs.PathRuleLaws.{short_path}
use Rattle.attr_records.specs.declared.nodes.Item.{Item}
use Rattle.attr_records.specs.declared.nodes.Item.TheVariants.{File, Dir, Link}
use Rattle.backup_rules.specs.declared.lines.Kind.{Kind}
use Rattle.backup_rules.specs.declared.lines.Kind.TheVariants.{Full, Incr}
use Rattle.http_query.specs.Query.{Pair, holds_replacement}
use Rattle.office_model.specs.declared.event.Event.TheVariants as E
use Rattle.office_model.specs.declared.event.PutItem.TheVariants.{Whole}
use Rattle.receipts.specs.declared.session.SessionName.{SessionName}
use Rattle.receipts.specs.Session.{session_text}
use Rattle.event_texts.specs.Requests.{backups_target}
use Rattle.event_texts.specs.Laws.{IsSession}
use Rattle.event_texts.proofs.CutLemmas.{and_true, all-append}
use Rattle.event_texts.proofs.NameLemmas.{all_decimal, all_of_host, host_is_short}
use Rattle.push_texts.specs.Queries.{mode_text, attribute_pairs, item_pairs, put_pairs, path_pairs, kind_pairs, kind_text}
use Rattle.push_texts.specs.Requests.{PushTexts, with_query, dumps_path, opening_target, dump_path, entry_path, commit_path, put_target, removal_target, list_path, list_target, item_body, with_body, getting, push_texts, is_unsaid, is_unput}
use Rattle.push_texts.specs.Laws.{IsLong, AreAttributes, IsItem, IsPath, IsPlainRequest, PushesArePlain}
use Rattle.push_texts.proofs.ReadBack.{said-is, neither-is}

-- a byte of ASCII that is shown
abbrev is_shown : ℕ → Bool
is_shown b = nat_lt 32 b && nat_lt b 127

-- shown bytes, at most so many
record IsPart (most : ℕ) (text : List ℕ) : Type 0 where
  bytes : list_all is_shown text ≡ true
  few : length text ≤ most

part-append : (m n : ℕ) (a b : List ℕ) → IsPart m a → IsPart n b → IsPart (m + n) (a ++ b)
part-append m n a b p q = record { bytes = all-append is_shown a b p.bytes q.bytes; few = omega (arith, length-append a b, p.few, q.few) }

wider : (m n : ℕ) (text : List ℕ) → m ≤ n → IsPart m text → IsPart n text
wider m n text h p = record { bytes = p.bytes; few = omega (arith, h, p.few) }

-- ---- names and numbers in paths

digit_shown : (c : ℕ) → 48 ≤ c → c ≤ 57 → is_shown c ≡ true
digit_shown c a b = grind (arith, nat_tests)

host_shown : (c : ℕ) → is_host_byte c ≡ true → is_shown c ≡ true
host_shown c h = grind (arith, nat_tests)

host_part : (host : List ℕ) → is_host_name host ≡ true → IsPart 64 host
host_part host h = record { bytes = all_of_host is_shown host_shown host h; few = host_is_short host h }

wide_part : (n : ℕ) → n < 2 ^ 64 → IsPart 20 (decimal n)
wide_part n fits = record {
  bytes = all_decimal is_shown digit_shown n fits;
  few = length-decimal-le 20 n (omega arith) (omega (arith, fits)) fits;
}

session_part : (name : SessionName) → IsSession name → IsPart 41 (session_text name)
session_part name fits =
    part-append 20 21 (decimal name.epoch) (45 ∷ decimal name.sequence) (wide_part name.epoch fits.0)
    (part-append 1 20 (45 ∷ []) (decimal name.sequence) (record { bytes = refl; few = omega arith }) (wide_part name.sequence fits.1))

within_part : (name : SessionName) (rest : List ℕ) → IsSession name → IsPart 10 rest → IsPart 60 (codes "/dumps/" ++ (session_text name ++ rest))
within_part name rest fits r =
    wider 58 60 _ (omega arith) (part-append 7 51 (codes "/dumps/") (session_text name ++ rest) (record { bytes = refl; few = omega arith })
    (part-append 41 10 (session_text name) rest (session_part name fits) r))

dump_part : (name : SessionName) → IsSession name → IsPart 60 (dump_path name)
dump_part name fits =
    wider 48 60 _ (omega arith) (part-append 7 41 (codes "/dumps/") (session_text name) (record { bytes = refl; few = omega arith }) (session_part name fits))

dumps_part : (host : List ℕ) → is_host_name host ≡ true → IsPart 80 (dumps_path host)
dumps_part host named =
    wider 77 80 _ (omega arith) (part-append 7 70 (codes "/hosts/") (host ++ codes "/dumps") (record { bytes = refl; few = omega arith })
    (part-append 64 6 host (codes "/dumps") (host_part host named) (record { bytes = refl; few = omega arith })))

backups_part : (host : List ℕ) → is_host_name host ≡ true → IsPart 80 (backups_target host)
backups_part host named =
    wider 79 80 _ (omega arith) (part-append 7 72 (codes "/hosts/") (host ++ codes "/backups") (record { bytes = refl; few = omega arith })
    (part-append 64 8 host (codes "/backups") (host_part host named) (record { bytes = refl; few = omega arith })))

list_part : (host : List ℕ) (number : ℕ) → is_host_name host ≡ true → number < 2 ^ 32 → IsPart 110 (list_path host number)
list_part host number named small =
    wider 105 110 _ (omega arith)
    (part-append 7 98 (codes "/hosts/") (host ++ (codes "/backups/" ++ (decimal number ++ codes "/list"))) (record { bytes = refl; few = omega arith })
    (part-append 64 34 host (codes "/backups/" ++ (decimal number ++ codes "/list")) (host_part host named)
    (part-append 9 25 (codes "/backups/") (decimal number ++ codes "/list") (record { bytes = refl; few = omega arith })
    (part-append 20 5 (decimal number) (codes "/list") (wide_part number (omega (arith, small))) (record { bytes = refl; few = omega arith })))))

-- ---- queries

unchanged_shown : (b : ℕ) → is_unchanged b ≡ true → is_shown b ≡ true
unchanged_shown b h = grind (arith, nat_tests)

serialized_shown : (b : ℕ) → IsUnchanged b ⊎ ((b ≡ 43) ⊎ (b ≡ 37)) → is_shown b ≡ true
serialized_shown b (inl kept) = unchanged_shown b kept
serialized_shown b (inr (inl is)) = ap is_shown is
serialized_shown b (inr (inr is)) = ap is_shown is

all_shown : (text : List ℕ) → All IsSerializedByte text → list_all is_shown text ≡ true
all_shown [] h = refl
all_shown (b ∷ text) h =
    and_true _ _ (serialized_shown b (All-head IsSerializedByte b text h).allowed) (all_shown text (All-tail IsSerializedByte b text h))

byte_few : (b : ℕ) → length (serialize_byte b) ≤ 3
unfolding percent_encode_byte
byte_few b =
    cond_both (is_unchanged b) (b ∷ []) (cond (b == 32) (43 ∷ []) (percent_encode_byte b)) (λ text. length text ≤ 3)
    (λ _. omega arith)
    (λ _. cond_both (b == 32) (43 ∷ []) (percent_encode_byte b) (λ text. length text ≤ 3) (λ _. omega arith) (λ _. omega arith))

serialized_few : (text : List ℕ) → length (byte_serialize text) ≤ 3 * length text
serialized_few [] = subst (λ (t : List ℕ). length t ≤ 0) (sym byte_serialize-nil) (omega arith)
serialized_few (b ∷ text) =
    subst (λ (t : List ℕ). length t ≤ 3 * suc (length text)) (sym (byte_serialize-cons b text))
    (omega (arith, byte_few b, serialized_few text, length-append (serialize_byte b) (byte_serialize text)))

serialized_part : (most : ℕ) (text : List ℕ) → length text ≤ most → IsPart (3 * most) (byte_serialize text)
serialized_part most text h = record {
  bytes = all_shown (byte_serialize text) (All-byte_serialize text);
  few = omega (arith, h, serialized_few text);
}

separator_part : (form : List ℕ) → IsPart 1 (separator form)
separator_part form = step (is_nonempty form)
  where
    step : (b : Bool) → IsPart 1 (cond b (38 ∷ []) [])
    step true = record { bytes = refl; few = omega arith }
    step false = record { bytes = refl; few = omega arith }

pair_part : (key value : List ℕ) (n : ℕ) → length key ≤ 5 → length value ≤ n → IsPart (16 + 3 * n) (serialize_pair (key, value))
pair_part key value n k v =
    part-append 16 (3 * n) (byte_serialize key ++ 61 ∷ []) (byte_serialize value)
    (part-append 15 1 (byte_serialize key) (61 ∷ []) (serialized_part 5 key k) (record { bytes = refl; few = omega arith })) (serialized_part n value v)

-- one more pair
more_part : (most : ℕ) (form key value : List ℕ) (n : ℕ) → IsPart most form → length key ≤ 5 → length value ≤ n
    → IsPart (most + 17 + 3 * n) (append_pair form key value)
more_part most form key value n p k v =
    let all = part-append (most + 1) (16 + 3 * n) (form ++ separator form) (serialize_pair (key, value))
    (part-append most 1 form (separator form) p (separator_part form)) (pair_part key value n k v) in
    wider (most + 1 + (16 + 3 * n)) (most + 17 + 3 * n) _ (omega arith) all

-- further pairs of short values
abbrev AreShort : List Pair → Type 0
AreShort [] = Unit {0}
AreShort (pair ∷ pairs) = (length pair.0 ≤ 5) × (length pair.1 ≤ 20) × AreShort pairs

short_part : (pairs : List Pair) (most : ℕ) (form : List ℕ) → AreShort pairs → IsPart most form → IsPart (most + 77 * length pairs) (extend_pairs form pairs)
short_part [] most form h p = wider most (most + 0) form (omega arith) p
short_part (pair ∷ pairs) most form h p =
    let one = more_part most form pair.0 pair.1 20 p h.0 h.1 in
    wider (most + 17 + 60 + 77 * length pairs) (most + 77 * suc (length pairs)) _ (omega arith) (short_part pairs (most + 17 + 60) (append_pair form pair.0 pair.1) h.2 one)

number_few : (n : ℕ) → n < 2 ^ 64 → length (decimal n) ≤ 20
number_few n fits = length-decimal-le 20 n (omega arith) (omega (arith, fits)) fits

digit_few : (n : ℕ) → length (decimal (n % 8)) ≤ 1
digit_few n = length-decimal-le 1 (n % 8) (omega arith) (omega arith) (omega arith)

mode_few : (mode : ℕ) → length (mode_text mode) ≤ 20
mode_few mode = omega (
  arith,
  digit_few (mode / 512),
  digit_few (mode / 64),
  digit_few (mode / 8),
  digit_few mode,
  length-append (decimal (mode / 512 % 8)) (decimal (mode / 64 % 8) ++ (decimal (mode / 8 % 8) ++ decimal (mode % 8))),
  length-append (decimal (mode / 64 % 8)) (decimal (mode / 8 % 8) ++ decimal (mode % 8)),
  length-append (decimal (mode / 8 % 8)) (decimal (mode % 8)),
)

time_few : (z : ℤ) → IsLong z → length (signed_decimal z) ≤ 20
time_few (pos n) h = number_few n (omega (arith, h))
time_few (negsuc n) h = omega (arith, length-decimal-le 19 (suc n) (omega arith) (omega (arith, h)) (omega (arith, h)))

attributes_short : (attr : Attributes) → AreAttributes attr → AreShort (attribute_pairs attr)
attributes_short attr h = (
  omega arith,
  mode_few attr.mode,
  (
    omega arith,
    number_few attr.uid (omega (arith, h.uid)),
    (
      omega arith,
      number_few attr.gid (omega (arith, h.gid)),
      (omega arith, time_few attr.mtime h.mtime, (omega arith, number_few attr.nanos (omega (arith, h.nanos)), tt)),
    ),
  ),
)

path_part : (path : List ℕ) → IsPath path → IsPart 12305 (extend_pairs [] (path_pairs path))
path_part path is =
    wider (0 + 17 + 3 * 4096) 12305 _ (omega arith)
    (more_part 0 [] (codes "path") path 4096 (record { bytes = refl; few = omega arith }) (omega arith) (short_path path is))

item_short : (item : Item) → IsItem item → AreShort (item_pairs item)
item_short (File file) h = (omega arith, omega arith, (omega arith, number_few file.group (omega (arith, h.1)), attributes_short file.attr h.0))
item_short (Dir dir) h = (omega arith, omega arith, attributes_short dir.attr h)
item_short (Link link) h = (omega arith, omega arith, attributes_short link.attr h.0)

few_pairs : (item : Item) → length (item_pairs item) ≤ 7
few_pairs (File file) = omega arith
few_pairs (Dir dir) = omega arith
few_pairs (Link link) = omega arith

put_part : (path : List ℕ) (item : Item) → IsPath path → IsItem item → IsPart 12844 (extend_pairs [] (put_pairs path item))
put_part path item is h =
    wider (12305 + 77 * length (item_pairs item)) 12844 _ (omega (arith, few_pairs item))
    (short_part (item_pairs item) 12305 (append_pair [] (codes "path") path) (item_short item h) (path_part path is))

kind_part : (kind : Kind) → IsPart 77 (extend_pairs [] (kind_pairs kind))
kind_part kind =
    wider (0 + 77 * 1) 77 _ (omega arith) (short_part (kind_pairs kind) 0 [] (omega arith, kind_few kind, tt) (record { bytes = refl; few = omega arith }))
  where
    kind_few : (kind : Kind) → length (kind_text kind) ≤ 20
    kind_few Full = omega arith
    kind_few Incr = omega arith

query_part : (m n : ℕ) (path : List ℕ) (pairs : List Pair) → IsPart m path → IsPart n (extend_pairs [] pairs) → m + n + 1 ≤ 13000
    → IsPart 13000 (with_query path pairs)
query_part m n path pairs p q small =
    wider (m + (1 + n)) 13000 _ (omega (arith, small))
    (part-append m (1 + n) path (codes "?" ++ extend_pairs [] pairs) p
    (part-append 1 n (codes "?") (extend_pairs [] pairs) (record { bytes = refl; few = omega arith }) q))

-- ---- requests

shown_uri : (c : ℕ) → is_shown c ≡ true → is_uri_byte c ≡ true
shown_uri c h = grind (arith, nat_tests)

shown_ascii : (c : ℕ) → is_shown c ≡ true → c < 128
shown_ascii c h = grind (arith, nat_tests)

all_uri : (text : List ℕ) → list_all is_shown text ≡ true → list_all is_uri_byte text ≡ true
all_uri [] h = refl
all_uri (c ∷ text) h = and_true _ _ (shown_uri c (first_so _ _ h)) (all_uri text (second_so (is_shown c) (list_all is_shown text) h))

all_ascii : (text : List ℕ) → list_all is_shown text ≡ true → IsAscii text
all_ascii [] h = IsAscii-nil
all_ascii (c ∷ text) h = IsAscii-cons c text (shown_ascii c (first_so _ _ h)) (all_ascii text (second_so (is_shown c) (list_all is_shown text) h))

-- a method that a push has
record IsMethod (method : List ℕ) : Type 0 where
  token : is_token method ≡ true
  few : length method ≤ 6
  no_head : bytes_eq method (codes "HEAD") ≡ false

get_is : IsMethod (codes "GET")
unfolding is_token_byte
get_is = record { token = refl; few = omega arith; no_head = refl }

put_is : IsMethod (codes "PUT")
unfolding is_token_byte
put_is = record { token = refl; few = omega arith; no_head = refl }

post_is : IsMethod (codes "POST")
unfolding is_token_byte
post_is = record { token = refl; few = omega arith; no_head = refl }

delete_is : IsMethod (codes "DELETE")
unfolding is_token_byte
delete_is = record { token = refl; few = omega arith; no_head = refl }

plain : (texts : PushTexts) → IsMethod texts.method → 0 < length texts.target → IsPart 13000 texts.target
    → IfSome texts.body (λ bytes. length bytes ≤ 67108864) → IsPlainRequest texts
plain texts method some part body = record {
  method = method.token;
  few = method.few;
  no_head = method.no_head;
  some = some;
  target = all_uri texts.target part.bytes;
  short = part.few;
  text = IsUtf8-from_ascii texts.target (all_ascii texts.target part.bytes);
  body = body;
}

body_few : (item : Item) → IsItem item → is_large item ≡ false → length (item_body item) ≤ 67108864
body_few (File file) h e = step (length file.bytes) e
  where
    step : (n : ℕ) → nat_lt 67108864 n ≡ false → n ≤ 67108864
    step n small = grind (arith, nat_tests)
body_few (Dir dir) h e = omega arith
body_few (Link link) h e = omega (arith, short_target link.target h.1)

some_query : (path : List ℕ) (pairs : List Pair) → 0 < length path → 0 < length (with_query path pairs)
some_query path pairs h = omega (arith, h, length-append path (codes "?" ++ extend_pairs [] pairs))

same : (x y : PushTexts) → Some x ≡ Some y → x ≡ y
same x y e = cc e

listed : (host : List ℕ) (number : ℕ) (directory : Option (List ℕ)) → is_host_name host ≡ true → number < 2 ^ 32 → IfSome directory IsPath
    → IsPlainRequest (getting (list_target host number directory))
listed host number None named small ranged =
    plain (getting (list_path host number)) get_is (omega arith) (wider 110 13000 _ (omega arith) (list_part host number named small)) tt
listed host number (Some path) named small ranged =
    plain (getting (with_query (list_path host number) (path_pairs path))) get_is (some_query (list_path host number) (path_pairs path) (omega arith))
    (query_part 110 12305 (list_path host number) (path_pairs path) (list_part host number named small) (path_part path ranged) (omega arith)) tt

pub pushes-are-plain : PushesArePlain
pushes-are-plain (E.OpenDump host kind now None) texts e range =
    subst IsPlainRequest (same _ texts e)
    (plain (with_body (codes "POST") (opening_target host kind) []) post_is (some_query (dumps_path host) (kind_pairs kind) (omega arith))
    (query_part 80 77 (dumps_path host) (kind_pairs kind) (dumps_part host range) (kind_part kind) (omega arith)) (omega arith))
pushes-are-plain (E.Put dump path (Whole item) None) texts e range =
    let said = said-is (is_unput path item) (with_body (codes "PUT") (put_target dump path item) (item_body item)) texts e in
    let small = (neither-is (holds_replacement path) (is_large item) said.0).1 in
    subst IsPlainRequest said.1
    (plain (with_body (codes "PUT") (put_target dump path item) (item_body item)) put_is (some_query (entry_path dump) (put_pairs path item) (omega arith))
    (query_part 60 12844 (entry_path dump) (put_pairs path item) (within_part dump (codes "/entry") range.0 (record { bytes = refl; few = omega arith }))
    (put_part path item range.1 range.2) (omega arith)) (body_few item range.2 small))
pushes-are-plain (E.Remove dump path None) texts e range =
    let said = said-is (holds_replacement path) (with_body (codes "DELETE") (removal_target dump path) []) texts e in
    subst IsPlainRequest said.1
    (plain (with_body (codes "DELETE") (removal_target dump path) []) delete_is (some_query (entry_path dump) (path_pairs path) (omega arith))
    (query_part 60 12305 (entry_path dump) (path_pairs path) (within_part dump (codes "/entry") range.0 (record { bytes = refl; few = omega arith }))
    (path_part path range.1) (omega arith)) (omega arith))
pushes-are-plain (E.Commit dump now) texts e range =
    subst IsPlainRequest (same _ texts e)
    (plain (with_body (codes "POST") (commit_path dump) []) post_is (omega arith)
    (wider 60 13000 _ (omega arith) (within_part dump (codes "/commit") range (record { bytes = refl; few = omega arith }))) (omega arith))
pushes-are-plain (E.Abort dump) texts e range =
    subst IsPlainRequest (same _ texts e)
    (plain (with_body (codes "DELETE") (dump_path dump) []) delete_is (omega arith) (wider 60 13000 _ (omega arith) (dump_part dump range)) (omega arith))
pushes-are-plain (E.Backups host) texts e range =
    subst IsPlainRequest (same _ texts e)
    (plain (getting (backups_target host)) get_is (omega arith) (wider 80 13000 _ (omega arith) (backups_part host range)) tt)
pushes-are-plain (E.List host number directory) texts e range =
    let said = said-is (is_unsaid directory) (getting (list_target host number directory)) texts e in
    subst IsPlainRequest said.1 (listed host number directory range.0 range.1 range.2)
pushes-are-plain event texts e range = absurd (cc e)
