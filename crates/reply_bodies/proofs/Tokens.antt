-- The tokens of objects and lists, and what they print.
use Rattle.std.proofs.Common.{◌≡◌, ℕ, ℤ, pos, negsuc, List, [], ◌∷◌, ◌++◌, map, refl, sym, ap, ◌∙◌, append_assoc, append-nil}
use Rattle.std.specs.Prelude.{codes, decimal}
use Rattle.std.specs.Fmt.{signed_decimal}
use Rattle.std.proofs.lemmas.Grind.{flat_map-append}
use Rattle.json.specs.Token.{Token}
use Rattle.json.specs.Print.{print}
use Rattle.json.specs.Tree.{items_tokens, members_tokens}
use Rattle.attr_records.specs.Attributes.{Attributes}
use Rattle.serde_json.specs.Data.{Data, string}
use Rattle.serde_json.specs.View.{items_of}
use Rattle.serde_json.specs.Written.{items_outline, members_outline}
use Rattle.serde_json.proofs.Texts.{print-outline}
use Rattle.reply_bodies.specs.Objects.{Member, members_of, json_object, json_list, json_count, json_integer, json_text, data_tokens, member_tokens, all_members, all_values}
use Rattle.reply_bodies.specs.Replies.{octal, kind_members}

-- what the tokens of a value print
pub printed : (value : Data) → print (data_tokens value) ≡ json_text value
unfolding json_text
printed value = print-outline value

pub integer_tokens : (z : ℤ) → data_tokens (json_integer z) ≡ Token.number (signed_decimal z) ∷ []
integer_tokens (pos n) = refl
integer_tokens (negsuc n) = refl

-- the members of an object, and its closing brace
pub members_are : (ms : List Member) → members_tokens (members_outline (members_of ms)) ≡ all_members ms ++ Token.end_object ∷ []
members_are [] = refl
members_are (m ∷ ms) =
    ap (λ rest. Token.key m.0 ∷ (data_tokens m.1 ++ rest)) (members_are ms)
    ∙ ap (λ rest. Token.key m.0 ∷ rest) (sym (append_assoc (data_tokens m.1) (all_members ms) (Token.end_object ∷ [])))

pub object_tokens : (ms : List Member) → data_tokens (json_object ms) ≡ Token.begin_object ∷ (all_members ms ++ Token.end_object ∷ [])
object_tokens ms = ap (λ rest. Token.begin_object ∷ rest) (members_are ms)

-- the values of a list, and its closing bracket
pub values_are : (values : List Data) → items_tokens (items_outline (items_of values)) ≡ all_values values ++ Token.end_array ∷ []
values_are [] = refl
values_are (value ∷ values) =
    ap (λ rest. data_tokens value ++ rest) (values_are values)
    ∙ sym (append_assoc (data_tokens value) (all_values values) (Token.end_array ∷ []))

pub list_tokens : (values : List Data) → data_tokens (json_list values) ≡ Token.begin_array ∷ (all_values values ++ Token.end_array ∷ [])
list_tokens values = ap (λ rest. Token.begin_array ∷ rest) (values_are values)

-- ---- what was pushed

-- an object whose members were all pushed between its braces
pub object_pushed : (start : List Token) (ms : List Member)
    → ((start ++ Token.begin_object ∷ []) ++ all_members ms) ++ Token.end_object ∷ [] ≡ start ++ data_tokens (json_object ms)
object_pushed start ms =
    append_assoc (start ++ Token.begin_object ∷ []) (all_members ms) (Token.end_object ∷ [])
    ∙ append_assoc start (Token.begin_object ∷ []) (all_members ms ++ Token.end_object ∷ [])
    ∙ ap (λ tokens. start ++ tokens) (sym (object_tokens ms))

both_members : (ms ns : List Member) → all_members (ms ++ ns) ≡ all_members ms ++ all_members ns
both_members ms ns = flat_map-append member_tokens ms ns

-- members, and those of a list behind them
behind : (front : List Token) (m : Member) (ms : List Member) → (front ++ member_tokens m) ++ all_members ms ≡ front ++ all_members (m ∷ ms)
behind front m ms = append_assoc front (member_tokens m) (all_members ms)

alone : (front : List Token) (m : Member) → front ++ member_tokens m ≡ front ++ all_members (m ∷ [])
alone front m = ap (λ tokens. front ++ tokens) (sym (append-nil (member_tokens m)))

pub two_pushed : (start : List Token) (a b : Member) → (start ++ member_tokens a) ++ member_tokens b ≡ start ++ all_members (a ∷ b ∷ [])
two_pushed start a b = alone (start ++ member_tokens a) b ∙ behind start a (b ∷ [])

pub three_pushed : (start : List Token) (a b c : Member)
    → ((start ++ member_tokens a) ++ member_tokens b) ++ member_tokens c ≡ start ++ all_members (a ∷ b ∷ c ∷ [])
three_pushed start a b c = two_pushed (start ++ member_tokens a) b c ∙ behind start a (b ∷ c ∷ [])

-- kind, mode and time, pushed one after the other
pub kind_pushed : (start one two three : List Token) (kind digits : List ℕ) (attr : Attributes)
    → one ≡ start ++ member_tokens (codes "kind", string kind)
    → two ≡ one ++ member_tokens (codes "mode", string digits) → digits ≡ octal attr.mode
    → three ≡ two ++ member_tokens (codes "mtime", json_integer attr.mtime)
    → three ≡ start ++ all_members (kind_members kind attr)
kind_pushed start one two three kind digits attr first second is_octal third =
    let mode : Member = (codes "mode", string (octal attr.mode)) in
    let mtime : Member = (codes "mtime", json_integer attr.mtime) in
    third
    ∙ ap (λ front. front ++ member_tokens mtime)
    (second ∙ ap (λ text. one ++ member_tokens (codes "mode", string text)) is_octal ∙ ap (λ front. front ++ member_tokens mode) first)
    ∙ three_pushed start (codes "kind", string kind) mode mtime

lists_behind : (front : List Token) (ms ns : List Member) → (front ++ all_members ms) ++ all_members ns ≡ front ++ all_members (ms ++ ns)
lists_behind front ms ns = append_assoc front (all_members ms) (all_members ns) ∙ ap (λ tokens. front ++ tokens) (sym (both_members ms ns))

-- kind and name, and what stands behind them
named_behind : (front : List Token) (kind name last : List Member)
    → ((front ++ all_members kind) ++ all_members name) ++ all_members last ≡ front ++ all_members (kind ++ (name ++ last))
named_behind front kind name last = lists_behind (front ++ all_members kind) name last ∙ lists_behind front kind (name ++ last)

pub file_pushed : (start : List Token) (gid group : Member) (kind name : List Member) (nanos size uid : Member)
    → ((((((start ++ member_tokens gid) ++ member_tokens group) ++ all_members kind) ++ all_members name) ++ member_tokens nanos)
    ++ member_tokens size) ++ member_tokens uid
    ≡ start ++ all_members (gid ∷ group ∷ (kind ++ (name ++ nanos ∷ size ∷ uid ∷ [])))
file_pushed start gid group kind name nanos size uid =
    let last = nanos ∷ size ∷ uid ∷ [] in
    let front = (start ++ member_tokens gid) ++ member_tokens group in
    three_pushed ((front ++ all_members kind) ++ all_members name) nanos size uid
    ∙ named_behind front kind name last
    ∙ behind (start ++ member_tokens gid) group (kind ++ (name ++ last))
    ∙ behind start gid (group ∷ (kind ++ (name ++ last)))

pub dir_pushed : (start : List Token) (gid : Member) (kind name : List Member) (nanos uid : Member)
    → ((((start ++ member_tokens gid) ++ all_members kind) ++ all_members name) ++ member_tokens nanos) ++ member_tokens uid
    ≡ start ++ all_members (gid ∷ (kind ++ (name ++ nanos ∷ uid ∷ [])))
dir_pushed start gid kind name nanos uid =
    let last = nanos ∷ uid ∷ [] in
    let front = start ++ member_tokens gid in
    two_pushed ((front ++ all_members kind) ++ all_members name) nanos uid
    ∙ named_behind front kind name last
    ∙ behind start gid (kind ++ (name ++ last))

pub link_pushed : (start : List Token) (gid : Member) (kind name : List Member) (nanos target uid : Member)
    → (((((start ++ member_tokens gid) ++ all_members kind) ++ all_members name) ++ member_tokens nanos) ++ member_tokens target) ++ member_tokens uid
    ≡ start ++ all_members (gid ∷ (kind ++ (name ++ nanos ∷ target ∷ uid ∷ [])))
link_pushed start gid kind name nanos target uid =
    let last = nanos ∷ target ∷ uid ∷ [] in
    let front = start ++ member_tokens gid in
    three_pushed ((front ++ all_members kind) ++ all_members name) nanos target uid
    ∙ named_behind front kind name last
    ∙ behind start gid (kind ++ (name ++ last))

-- a list, a value and a number under three keys
pub backups_pushed : (lines dump : Data) (next : ℕ)
    → ((((((Token.begin_object ∷ []) ++ Token.key (codes "backups") ∷ []) ++ data_tokens lines) ++ Token.key (codes "dump") ∷ [])
    ++ data_tokens dump) ++ member_tokens (codes "next", json_count next)) ++ Token.end_object ∷ []
    ≡ data_tokens (json_object ((codes "backups", lines) ∷ (codes "dump", dump) ∷ (codes "next", json_count next) ∷ []))
backups_pushed lines dump next =
    ap (λ tokens. Token.begin_object ∷ Token.key (codes "backups") ∷ tokens)
    (regroup (data_tokens lines) (Token.key (codes "dump")) (data_tokens dump) (Token.key (codes "next")) (Token.number (decimal next)) Token.end_object)
  where
    regroup : (xs : List Token) (k : Token) (ds : List Token) (a b e : Token)
        → (((xs ++ k ∷ []) ++ ds) ++ a ∷ b ∷ []) ++ e ∷ [] ≡ xs ++ k ∷ (ds ++ a ∷ b ∷ e ∷ [])
    regroup xs k ds a b e =
        append_assoc ((xs ++ k ∷ []) ++ ds) (a ∷ b ∷ []) (e ∷ [])
        ∙ append_assoc (xs ++ k ∷ []) ds (a ∷ b ∷ e ∷ [])
        ∙ append_assoc xs (k ∷ []) (ds ++ a ∷ b ∷ e ∷ [])

-- a list whose values were all pushed, and its closing bracket
pub listed : {A : Type 0} (f : A → Data) (xs rest : List A) (start now new : List Token) → rest ≡ []
    → now ++ all_values (map f rest) ≡ start ++ Token.begin_array ∷ all_values (map f xs)
    → new ≡ now ++ Token.end_array ∷ [] → new ≡ start ++ data_tokens (json_list (map f xs))
listed f xs rest start now new none so_far closed =
    let all : now ≡ start ++ Token.begin_array ∷ all_values (map f xs) =
    sym (append-nil now) ∙ sym (ap (λ left. now ++ all_values (map f left)) none) ∙ so_far in
    closed ∙ ap (λ front. front ++ Token.end_array ∷ []) all
    ∙ append_assoc start (Token.begin_array ∷ all_values (map f xs)) (Token.end_array ∷ [])
    ∙ ap (λ tokens. start ++ tokens) (sym (list_tokens (map f xs)))
