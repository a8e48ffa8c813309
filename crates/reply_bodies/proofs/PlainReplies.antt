-- Short replies are of plain texts.
use Rattle.std.proofs.Common.{◌≡◌, ℕ, ◌<◌, ◌≤◌, ◌^◌, Bool, true, false, ◌&&◌, List, [], ◌∷◌, ◌++◌, length, Option, Some, None, refl, subst, arith, codes, zero, suc, ◌/◌, ◌%◌, All, slice_index}
use Rattle.std.specs.Prelude.{nat_le, decimal}
use Rattle.std.specs.List.{list_all}
use Rattle.std.specs.Str.Parse.{AllDigits}
use Rattle.std.proofs.lemmas.Bool.Decides.{nat_tests}
use Rattle.std.proofs.lemmas.Grind.{common_steps}
use Rattle.std.proofs.lemmas.Str.Parse.{digit_from_value}
use Rattle.std.proofs.lemmas.Fmt.{decimal_is_IsNumeral}
use Rattle.attr_records.specs.Names.{is_host_name, is_host_byte, begins_with_letter_or_digit}
use Rattle.receipts.specs.declared.session.SessionName.{SessionName}
use Rattle.office_model.specs.declared.event.Event.{Event}
use Rattle.office_model.specs.declared.event.Event.TheVariants as E
use Rattle.office_model.specs.declared.answer.Answer.{Answer}
use Rattle.office_model.specs.declared.answer.Answer.TheVariants as A
use Rattle.reply_bodies.specs.Objects.{Field, is_plain_byte, is_plain_text, are_plain}
use Rattle.reply_bodies.specs.Replies.{done_fields, due_text, short_fields, refusal_fields}
use Rattle.backup_rules.specs.declared.lines.Kind.{Kind}
use Rattle.backup_rules.specs.declared.lines.Kind.TheVariants.{Full, Incr}
use Rattle.receipts.specs.Session.{session_text}
use Rattle.office_model.specs.RuleNames.{rule_name, put_rule_name}
use Rattle.office_model.specs.declared.refusal.BrokenRule.{BrokenRule}
use Rattle.office_model.specs.declared.refusal.BrokenRule.TheVariants as B
use Rattle.office_model.specs.declared.refusal.Refusal.{Refusal}
use Rattle.office_model.specs.declared.refusal.Refusal.TheVariants.{Broken, Halted, DiskFault, Damaged, Memory}
use Rattle.attr_records.specs.declared.trees.PutRule.{PutRule}
use Rattle.attr_records.specs.declared.trees.PutRule.TheVariants.{NoParent, IsDirectory, TooManyEntries, FileTooLarge}
use Rattle.disk_trait.specs.Names.{content_name, real_name}
use Rattle.disk_trait.specs.declared.ids.PoolId.{PoolId}
use Rattle.hex.specs.Hex.{encode_with, encode_lower, lower_digits}
use Rattle.std.proofs.lemmas.List.Elements.{All-head, All-tail}
use Rattle.disk_trait.specs.declared.ids.FileId.{FileId}
use Rattle.disk_trait.specs.declared.ids.FileId.TheVariants as F
use Rattle.reply_bodies.specs.Laws.{IsSession, NamesHost, NamesSession, ShortRepliesAreJson, IsFile, NamesFile, RefusalsAreJson}
use Rattle.reply_bodies.proofs.Plain.{object_is}

host_byte : (b : ℕ) → is_host_byte b ≡ true → is_plain_byte b ≡ true
host_byte b e = grind (arith, common_steps, nat_tests, e)

digit_byte : (b : ℕ) → 48 ≤ b → b ≤ 57 → is_plain_byte b ≡ true
digit_byte b low high = grind (arith, common_steps, nat_tests)

first_and : (a b : Bool) → (a && b) ≡ true → (a ≡ true) × (b ≡ true)
first_and true true e = (refl, refl)
first_and true false e = absurd cc
first_and false b e = absurd cc

host_bytes : (text : List ℕ) → list_all is_host_byte text ≡ true → is_plain_text text ≡ true
host_bytes [] e = refl
host_bytes (b ∷ text) e =
    let p = first_and (is_host_byte b) (list_all is_host_byte text) e in
    rw (host_byte b p.0) (host_bytes text p.1)

third : (a b c : Bool) → (a && (b && c)) ≡ true → c ≡ true
third true true true e = refl
third true true false e = absurd cc
third true false c e = absurd cc
third false b c e = absurd cc

host_plain : (host : List ℕ) → is_host_name host ≡ true → is_plain_text host ≡ true
unfolding is_host_name
host_plain host e = host_bytes host (third (begins_with_letter_or_digit host) (nat_le (length host) 64) (list_all is_host_byte host) e)

digits_plain : (text : List ℕ) → AllDigits 10 text → is_plain_text text ≡ true
digits_plain [] all = refl
digits_plain (b ∷ text) all = let range = digit_from_value b all.0 in rw (digit_byte b (omega (arith, range)) (omega (arith, range))) (digits_plain text all.1)

decimal_plain : (n : ℕ) → n < 2 ^ 64 → is_plain_text (decimal n) ≡ true
decimal_plain n fits = digits_plain (decimal n) (decimal_is_IsNumeral n fits).0.1

append_plain : (a b : List ℕ) → is_plain_text a ≡ true → is_plain_text b ≡ true → is_plain_text (a ++ b) ≡ true
append_plain [] b p q = q
append_plain (x ∷ a) b p q = let h = first_and (is_plain_byte x) (is_plain_text a) p in rw h.0 (append_plain a b h.1 q)

session_plain : (name : SessionName) → IsSession name → is_plain_text (session_text name) ≡ true
session_plain name fits = append_plain (decimal name.epoch) (45 ∷ decimal name.sequence) (decimal_plain name.epoch fits.0) (decimal_plain name.sequence fits.1)

done_plain : (event : Event) → NamesHost event → are_plain (done_fields event) ≡ true
done_plain (E.AddHost host rules) names = rw (host_plain host names) refl
done_plain event names = refl

due_plain : (kind : Option Kind) → is_plain_text (due_text kind) ≡ true
due_plain None = refl
due_plain (Some Full) = refl
due_plain (Some Incr) = refl

-- the members, if there are any, are plain
plain_or_none : Option (List Field) → Bool
plain_or_none None = true
plain_or_none (Some fields) = are_plain fields

short_plain : (event : Event) (answer : Answer) → NamesHost event → NamesSession answer → plain_or_none (short_fields event answer) ≡ true
unfolding plain_or_none
short_plain event A.Done h s = done_plain event h
short_plain event (A.Dump name) h s = rw (session_plain name s) refl
short_plain event (A.Restore name) h s = rw (session_plain name s) refl
short_plain event (A.Partial entries kind start) h s = rw (due_plain (Some kind)) refl
short_plain event (A.Due blackout kind) h s = rw (due_plain kind) refl
short_plain event answer h s = refl

pub short_replies : ShortRepliesAreJson
unfolding plain_or_none
short_replies event answer fields h s e =
    object_is fields (subst (λ found. plain_or_none found ≡ true) e (short_plain event answer h s))

put_rule_plain : (rule : PutRule) → is_plain_text (put_rule_name rule) ≡ true
unfolding put_rule_name
put_rule_plain NoParent = refl
put_rule_plain rule = refl

rule_plain : (rule : BrokenRule) → is_plain_text (rule_name rule) ≡ true
unfolding rule_name
rule_plain (B.Put rule) = put_rule_plain rule
rule_plain rule = refl

-- the digits of a byte
plain_at : (text : List ℕ) (n : ℕ) → is_plain_text text ≡ true → n < length text → is_plain_byte (slice_index text n) ≡ true
plain_at [] n all small = absurd (omega (arith, small))
plain_at (b ∷ text) zero all small = (first_and (is_plain_byte b) (is_plain_text text) all).0
plain_at (b ∷ text) (suc n) all small = plain_at text n (first_and (is_plain_byte b) (is_plain_text text) all).1 (omega (arith, small))

digit_plain : (n : ℕ) → n < 16 → is_plain_byte (slice_index lower_digits n) ≡ true
digit_plain n small = plain_at lower_digits n refl small

digits_plain_hex : (bytes : List ℕ) → All (λ b. b < 256) bytes → is_plain_text (encode_with lower_digits bytes) ≡ true
unfolding encode_with
digits_plain_hex [] all = refl
digits_plain_hex (b ∷ bytes) all =
    let small : b < 256 = All-head (λ c. c < 256) b bytes all in
    rw (digit_plain (b / 16) (omega (arith, small)), digit_plain (b % 16) (omega (arith, small)))
    (digits_plain_hex bytes (All-tail (λ c. c < 256) b bytes all))

content_plain : (id : PoolId) → id.extension < 2 ^ 16 → All (λ b. b < 256) id.digest → is_plain_text (content_name id) ≡ true
content_plain id small digest =
    append_plain (encode_lower id.digest) (codes "-" ++ decimal id.extension) (digits_plain_hex id.digest digest)
    (append_plain (codes "-") (decimal id.extension) refl (decimal_plain id.extension (omega (arith, small))))

word_number : (text : List ℕ) (n : ℕ) → is_plain_text text ≡ true → n < 2 ^ 64 → is_plain_text (text ++ decimal n) ≡ true
word_number text n plain small = append_plain text (decimal n) plain (decimal_plain n small)

file_plain : (file : FileId) → IsFile file → is_plain_text (real_name file) ≡ true
file_plain (F.Host host) fits = word_number (codes "host-") host refl (omega (arith, fits))
file_plain (F.Table host number) fits =
    append_plain (codes "table-") (decimal host ++ (codes "-" ++ decimal number)) refl
    (append_plain (decimal host) (codes "-" ++ decimal number) (decimal_plain host (omega (arith, fits.0)))
    (append_plain (codes "-") (decimal number) refl (decimal_plain number (omega (arith, fits.1)))))
file_plain (F.Counts host) fits = word_number (codes "counts-") host refl (omega (arith, fits))
file_plain (F.PoolBucket byte) fits = word_number (codes "pool-index-") byte refl (omega (arith, fits))
file_plain (F.Partial host) fits = word_number (codes "partial-") host refl (omega (arith, fits))
file_plain (F.Pool id) fits = append_plain (codes "pool-") (content_name id) refl (content_plain id fits.0 fits.1)
file_plain (F.Stage number) fits = word_number (codes "stage-") number refl fits
file_plain file fits = refl

refusal_plain : (refusal : Refusal) → NamesFile refusal → are_plain (refusal_fields refusal) ≡ true
refusal_plain (Broken rule) fits = rw (rule_plain rule) refl
refusal_plain (Damaged file found) fits = rw (file_plain file fits) refl
refusal_plain refusal fits = refl

pub refusals_plain : RefusalsAreJson
refusals_plain refusal fits = object_is (refusal_fields refusal) (refusal_plain refusal fits)
