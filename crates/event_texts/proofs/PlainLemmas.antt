-- The texts of requests may stand in heads.
use Rattle.std.proofs.Common.{◌≡◌, ℕ, ◌+◌, ◌<◌, ◌≤◌, ◌^◌, true, List, [], ◌∷◌, ◌++◌, length, Option, Some, None, IfSome, refl, subst, arith, codes, decimal, length-append}
use Rattle.std.specs.List.{list_all}
use Rattle.std.proofs.lemmas.Bool.Decides.{nat_tests}
use Rattle.std.proofs.lemmas.Fmt.{length-decimal-le}
use Rattle.httparse.specs.Grammar.{is_token, is_token_byte, is_uri_byte}
use Rattle.attr_records.specs.Names.{is_host_name, is_host_byte}
use Rattle.office_model.specs.declared.event.Event.TheVariants as E
use Rattle.receipts.specs.declared.session.SessionName.{SessionName}
use Rattle.receipts.specs.Session.{session_text}
use Rattle.event_texts.specs.Requests.{RequestTexts, backups_target, restores_path, restores_target, restore_target, next_target}
use Rattle.event_texts.specs.Laws.{IsSession, IsPlainRequest, RequestsArePlain}
use Rattle.event_texts.proofs.CutLemmas.{all-append}
use Rattle.event_texts.proofs.NameLemmas.{all_decimal, all_of_host, host_is_short}

-- bytes that may stand in a target, at most so many
record IsPart (most : ℕ) (text : List ℕ) : Type 0 where
  bytes : list_all is_uri_byte text ≡ true
  few : length text ≤ most

part-append : (m n : ℕ) (a b : List ℕ) → IsPart m a → IsPart n b → IsPart (m + n) (a ++ b)
part-append m n a b p q = record { bytes = all-append is_uri_byte a b p.bytes q.bytes; few = omega (arith, length-append a b, p.few, q.few) }

digit_uri : (c : ℕ) → 48 ≤ c → c ≤ 57 → is_uri_byte c ≡ true
digit_uri c a b = grind (arith, nat_tests)

host_uri : (c : ℕ) → is_host_byte c ≡ true → is_uri_byte c ≡ true
host_uri c h = grind (arith, nat_tests)

host_part : (host : List ℕ) → is_host_name host ≡ true → IsPart 64 host
host_part host h = record { bytes = all_of_host is_uri_byte host_uri host h; few = host_is_short host h }

number_part : (n : ℕ) → n < 2 ^ 32 → IsPart 10 (decimal n)
number_part n small = record {
  bytes = all_decimal is_uri_byte digit_uri n (omega (arith, small));
  few = length-decimal-le 10 n (omega arith) (omega (arith, small)) (omega (arith, small));
}

wide_part : (n : ℕ) → n < 2 ^ 64 → IsPart 20 (decimal n)
wide_part n fits = record {
  bytes = all_decimal is_uri_byte digit_uri n fits;
  few = length-decimal-le 20 n (omega arith) (omega (arith, fits)) fits;
}

session_part : (name : SessionName) → IsSession name → IsPart 41 (session_text name)
session_part name fits =
    part-append 20 21 (decimal name.epoch) (45 ∷ decimal name.sequence) (wide_part name.epoch fits.0)
    (part-append 1 20 (45 ∷ []) (decimal name.sequence) (record { bytes = refl; few = omega arith }) (wide_part name.sequence fits.1))

backups_part : (host : List ℕ) → is_host_name host ≡ true → IsPart 79 (backups_target host)
backups_part host named =
    part-append 7 72 (codes "/hosts/") (host ++ codes "/backups") (record { bytes = refl; few = omega arith })
    (part-append 64 8 host (codes "/backups") (host_part host named) (record { bytes = refl; few = omega arith }))

path_part : (host : List ℕ) (number : ℕ) → is_host_name host ≡ true → number < 2 ^ 32 → IsPart 99 (restores_path host number)
path_part host number named small =
    part-append 7 92 (codes "/hosts/") (host ++ (codes "/backups/" ++ (decimal number ++ codes "/restores"))) (record { bytes = refl; few = omega arith })
    (part-append 64 28 host (codes "/backups/" ++ (decimal number ++ codes "/restores")) (host_part host named)
    (part-append 9 19 (codes "/backups/") (decimal number ++ codes "/restores") (record { bytes = refl; few = omega arith })
    (part-append 10 9 (decimal number) (codes "/restores") (number_part number small) (record { bytes = refl; few = omega arith }))))

base_part : (base : ℕ) → base < 2 ^ 32 → IsPart 16 (codes "?base=" ++ decimal base)
base_part base small = part-append 6 10 (codes "?base=") (decimal base) (record { bytes = refl; few = omega arith }) (number_part base small)

restores_part : (host : List ℕ) (number : ℕ) (base : Option ℕ) → is_host_name host ≡ true → number < 2 ^ 32 → IfSome base (λ other. other < 2 ^ 32)
    → IsPart 115 (restores_target host number base)
restores_part host number None named small ranged =
    let path = path_part host number named small in record { bytes = path.bytes; few = omega (arith, path.few) }
restores_part host number (Some base) named small ranged =
    part-append 99 16 (restores_path host number) (codes "?base=" ++ decimal base) (path_part host number named small) (base_part base ranged)

restore_part : (restore : SessionName) → IsSession restore → IsPart 51 (restore_target restore)
restore_part restore fits =
    part-append 10 41 (codes "/restores/") (session_text restore) (record { bytes = refl; few = omega arith }) (session_part restore fits)

next_part : (restore : SessionName) → IsSession restore → IsPart 56 (next_target restore)
next_part restore fits =
    part-append 10 46 (codes "/restores/") (session_text restore ++ codes "/next") (record { bytes = refl; few = omega arith })
    (part-append 41 5 (session_text restore) (codes "/next") (session_part restore fits) (record { bytes = refl; few = omega arith }))

-- ---- requests

get_is_token : is_token (codes "GET") ≡ true
unfolding is_token_byte
get_is_token = refl

post_is_token : is_token (codes "POST") ≡ true
unfolding is_token_byte
post_is_token = refl

delete_is_token : is_token (codes "DELETE") ≡ true
unfolding is_token_byte
delete_is_token = refl

plain : (method target : List ℕ) (request : RequestTexts) → is_token method ≡ true → length method ≤ 6 → 0 < length target → IsPart 115 target
    → Some (record { method = method; target = target }) ≡ Some request → IsPlainRequest request
plain method target request token few some part e =
    let same : record { method = method; target = target } ≡ request = cc e in
    subst IsPlainRequest same
    (record { method = token; some = some; target = part.bytes; short = omega (arith, few, part.few) })

wider : (most : ℕ) (text : List ℕ) → most ≤ 115 → IsPart most text → IsPart 115 text
wider most text small part = record { bytes = part.bytes; few = omega (arith, part.few, small) }

some_restores : (host : List ℕ) (number : ℕ) (base : Option ℕ) → 0 < length (restores_target host number base)
some_restores host number None = omega arith
some_restores host number (Some base) = omega arith

pub requests-are-plain : RequestsArePlain
requests-are-plain (E.Backups host) request e ranged =
    plain _ (backups_target host) request get_is_token (omega arith) (omega arith) (wider 79 _ (omega arith) (backups_part host ranged)) e
requests-are-plain (E.OpenRead host number base) request e ranged =
    plain _ (restores_target host number base) request post_is_token (omega arith) (some_restores host number base)
    (restores_part host number base ranged.0 ranged.1 ranged.2) e
requests-are-plain (E.ReadNext restore) request e ranged =
    plain _ (next_target restore) request get_is_token (omega arith) (omega arith) (wider 56 _ (omega arith) (next_part restore ranged)) e
requests-are-plain (E.CloseRead restore) request e ranged =
    plain _ (restore_target restore) request delete_is_token (omega arith) (omega arith) (wider 51 _ (omega arith) (restore_part restore ranged)) e
requests-are-plain event request e ranged = absurd (cc e)
