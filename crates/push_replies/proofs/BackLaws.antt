-- What is read of the response to a reply is that reply.
use Rattle.std.proofs.Common.{◌≡◌, ℕ, ◌<◌, ◌≤◌, ◌^◌, true, false, List, [], ◌∷◌, Option, Some, None, Ok, Err, option_map, option_and_then, if◌then◌else◌, nat_lt, IsUtf8, codes, refl, sym, ap, ◌∙◌, arith}
use Rattle.std.proofs.lemmas.Str.{IsUtf8-from_is_utf8}
use Rattle.json.proofs.Printed.Utf8.{are_ascii, IsUtf8-are_ascii}
use Rattle.attr_records.specs.declared.trees.PutRule.{PutRule}
use Rattle.attr_records.specs.declared.trees.PutRule.TheVariants as T
use Rattle.receipts.specs.declared.session.SessionName.{SessionName}
use Rattle.receipts.specs.Session.{session_text}
use Rattle.office_model.specs.declared.event.Event.{Event}
use Rattle.office_model.specs.declared.event.Event.TheVariants as E
use Rattle.office_model.specs.declared.answer.Answer.{Answer}
use Rattle.office_model.specs.declared.answer.Answer.TheVariants as A
use Rattle.office_model.specs.declared.refusal.BrokenRule.{BrokenRule}
use Rattle.office_model.specs.declared.refusal.BrokenRule.TheVariants as B
use Rattle.office_model.specs.declared.refusal.Refusal.{Refusal}
use Rattle.office_model.specs.declared.refusal.Refusal.TheVariants as R
use Rattle.office_model.specs.RuleNames.{put_rule_name, rule_name}
use Rattle.office_model.specs.Meaning.{Reply}
use Rattle.office_model.specs.Step.{IsAnswerTo}
use Rattle.reply_bodies.specs.Laws.{IsSession, NamesFile}
use Rattle.reply_bodies.specs.Objects.{Field, Text, Count, json_text, object_of, object_text}
use Rattle.reply_bodies.specs.Replies.{refused, refusal_fields}
use Rattle.reply_bodies.proofs.PlainReplies.{short_replies, refusals_plain}
use Rattle.json_back.specs.Reading.{data_of}
use Rattle.json_back.proofs.BackLaws.{bytes-read}
use Rattle.listing_back.specs.Members.{if_small, number_at}
use Rattle.listing_back.specs.Listings.{listing_of}
use Rattle.listing_back.proofs.BackLaws.{listings-back}
use Rattle.listing_back.proofs.SessionLaws.{session-back, session-utf8}
use Rattle.entries_back.proofs.BackLaws.{entries-back}
use Rattle.std.proofs.lemmas.Bool.Decides.{nat_tests}
use Rattle.http_replies.specs.Messages.{put_rule_status, rule_status, refusal_status, answer_message}
use Rattle.push_replies.specs.Refusals.{put_rule_named, limit_named, rule_named, refusal_named, refusal_in, refusal_of}
use Rattle.push_replies.specs.Replies.{dump_in, dump_of, number_of_body, answer_of, reply_in}
use Rattle.push_replies.specs.Laws.{IsAsked, IsAnswer, IsNamed}

key : (text : List ℕ) → are_ascii text ≡ true → IsUtf8 text
key = IsUtf8-are_ascii

-- ---- a dump's name

abbrev dumped : SessionName → List Field
dumped name = (codes "dump", Text (session_text name)) ∷ []

dump-bytes : (name : SessionName) → IsSession name → data_of (object_text (dumped name)) ≡ Some (object_of (dumped name))
unfolding json_text
dump-bytes name fits =
    ap data_of (short_replies E.Stats (A.Dump name) (dumped name) tt fits refl)
    ∙ bytes-read (object_of (dumped name)) (tt, tt, tt) (key (codes "dump") refl, session-utf8 name fits, tt) (omega arith)

dump-back : (name : SessionName) → IsSession name → dump_of (object_text (dumped name)) ≡ Some name
dump-back name fits = ap (option_and_then dump_in) (dump-bytes name fits) ∙ session-back name fits

-- ---- a backup's number

abbrev numbered : ℕ → List Field
numbered number = (codes "number", Count number) ∷ []

small-back : (n : ℕ) → n < 2 ^ 32 → if_small n ≡ Some n
small-back n small = ap (λ b. if b then Some n else None) (within n (2 ^ 32) small)
  where
    within : (a b : ℕ) → a < b → nat_lt a b ≡ true
    within a b h = grind (arith, nat_tests)

number-bytes : (number : ℕ) → number < 2 ^ 32 → data_of (object_text (numbered number)) ≡ Some (object_of (numbered number))
unfolding json_text
number-bytes number small =
    ap data_of (short_replies E.Stats (A.Committed number) (numbered number) tt tt refl)
    ∙ bytes-read (object_of (numbered number)) (tt, omega (arith, small), tt) (key (codes "number") refl, tt, tt) (omega arith)

number-back : (number : ℕ) → number < 2 ^ 32 → number_of_body (object_text (numbered number)) ≡ Some number
number-back number small = ap (option_and_then (number_at (codes "number"))) (number-bytes number small) ∙ small-back number small

-- ---- refusals

refused-bytes : (refusal : Refusal) (name : List ℕ) → refusal_fields refusal ≡ refused name → NamesFile refusal → IsUtf8 name
    → data_of (object_text (refused name)) ≡ Some (object_of (refused name))
unfolding json_text
refused-bytes refusal name is file text =
    ap (λ (fields : List Field). data_of (object_text fields)) (sym is)
    ∙ ap data_of (refusals_plain refusal file)
    ∙ ap (λ (fields : List Field). data_of (json_text (object_of fields))) is
    ∙ bytes-read (object_of (refused name)) (tt, tt, tt) (key (codes "refused") refl, text, tt) (omega arith)

put-rule-utf8 : (rule : PutRule) → are_ascii (put_rule_name rule) ≡ true
unfolding put_rule_name
put-rule-utf8 T.NoParent = refl
put-rule-utf8 T.IsDirectory = refl
put-rule-utf8 T.TooManyEntries = refl
put-rule-utf8 T.FileTooLarge = refl

rule-utf8 : (rule : BrokenRule) → are_ascii (rule_name rule) ≡ true
unfolding rule_name
rule-utf8 (B.Put rule) = put-rule-utf8 rule
rule-utf8 rule = refl

put-rule-back : (rule : PutRule) → refusal_named (put_rule_name rule) ≡ Some (R.Broken (B.Put rule))
unfolding put_rule_name
put-rule-back T.NoParent = refl
put-rule-back T.IsDirectory = refl
put-rule-back T.TooManyEntries = refl
put-rule-back T.FileTooLarge = refl

rule-back : (rule : BrokenRule) → refusal_named (rule_name rule) ≡ Some (R.Broken rule)
unfolding rule_name
rule-back (B.Put rule) = put-rule-back rule
rule-back rule = refl

refusal-named : (refusal : Refusal) (name : List ℕ) → refusal_fields refusal ≡ refused name → NamesFile refusal → IsUtf8 name
    → refusal_named name ≡ Some refusal → refusal_of (object_text (refusal_fields refusal)) ≡ Some refusal
refusal-named refusal name is file text back =
    ap (λ (fields : List Field). refusal_of (object_text fields)) is
    ∙ ap (option_and_then refusal_in) (refused-bytes refusal name is file text) ∙ back

refusal-back : (refusal : Refusal) → IsNamed refusal → refusal_of (object_text (refusal_fields refusal)) ≡ Some refusal
refusal-back (R.Broken rule) is = refusal-named (R.Broken rule) (rule_name rule) refl tt (key (rule_name rule) (rule-utf8 rule)) (rule-back rule)
refusal-back R.Halted is = refusal-named R.Halted (codes "Halted") refl tt (key (codes "Halted") refl) refl
refusal-back R.DiskFault is = refusal-named R.DiskFault (codes "DiskFault") refl tt (key (codes "DiskFault") refl) refl
refusal-back (R.Damaged file found) is = absurd is
refusal-back R.Memory is = absurd is

-- the reply that a refusal's status leads to
abbrev LeadsTo : ℕ → Type 0
LeadsTo status =
    (event : Event) (body : List ℕ) → reply_in event status body ≡ option_map (λ (refusal : Refusal). Err refusal) (refusal_of body)

put-rule-leads : (rule : PutRule) → LeadsTo (put_rule_status rule)
put-rule-leads T.NoParent event body = refl
put-rule-leads T.IsDirectory event body = refl
put-rule-leads T.TooManyEntries event body = refl
put-rule-leads T.FileTooLarge event body = refl

rule-leads : (rule : BrokenRule) → LeadsTo (rule_status rule)
rule-leads (B.Put rule) event body = put-rule-leads rule event body
rule-leads rule event body = refl

refusal-leads : (refusal : Refusal) → IsNamed refusal → LeadsTo (refusal_status refusal)
refusal-leads (R.Broken rule) is event body = rule-leads rule event body
refusal-leads R.Halted is event body = refl
refusal-leads R.DiskFault is event body = refl
refusal-leads (R.Damaged file found) is event body = absurd is
refusal-leads R.Memory is event body = absurd is

pub refusals-back : (event : Event) (refusal : Refusal) → IsNamed refusal
    → reply_in event (refusal_status refusal) (object_text (refusal_fields refusal)) ≡ Some (Err refusal)
refusals-back event refusal is =
    refusal-leads refusal is event (object_text (refusal_fields refusal)) ∙ ap (option_map (λ (r : Refusal). Err r)) (refusal-back refusal is)

-- ---- answers

pub answers-back : (event : Event) (answer : Answer) → IsAsked event → IsAnswerTo event answer → IsAnswer answer
    → reply_in event (answer_message event answer false false).status (answer_message event answer false false).body ≡ Some (Ok answer)
answers-back (E.OpenDump host kind now token) (A.Dump name) asked is range =
    ap (λ (dump : Option SessionName). option_map (λ (answer : Answer). Ok answer) (option_map (λ d. A.Dump d) dump)) (dump-back name range)
answers-back (E.OpenDump host kind now token) (A.Already number) asked is range =
    ap (λ (n : Option ℕ). option_map (λ (answer : Answer). Ok answer) (option_map (λ m. A.Already m) n)) (number-back number range)
answers-back (E.OpenDump host kind now token) answer asked is range = absurd (cc is)
answers-back (E.Put dump path item token) A.Done asked is range = refl
answers-back (E.Put dump path item token) answer asked is range = absurd (cc is)
answers-back (E.Remove dump path token) A.Done asked is range = refl
answers-back (E.Remove dump path token) answer asked is range = absurd (cc is)
answers-back (E.Abort dump) A.Done asked is range = refl
answers-back (E.Abort dump) answer asked is range = absurd (cc is)
answers-back (E.Commit dump now) (A.Committed number) asked is range =
    ap (λ (n : Option ℕ). option_map (λ (answer : Answer). Ok answer) (option_map (λ m. A.Committed m) n)) (number-back number range)
answers-back (E.Commit dump now) answer asked is range = absurd (cc is)
answers-back (E.Backups host) (A.Backups lines next dump) asked is range =
    ap (λ listing. option_map (λ (answer : Answer). Ok answer) (option_map (λ l. A.Backups l.lines l.next l.dump) listing)) (listings-back lines next dump range.0 range.1 range.2)
answers-back (E.Backups host) answer asked is range = absurd (cc is)
answers-back (E.List host number directory) (A.Entries entries) asked is range =
    ap (λ found. option_map (λ (answer : Answer). Ok answer) (option_map (λ es. A.Entries es) found)) (entries-back entries range)
answers-back (E.List host number directory) answer asked is range = absurd (cc is)
answers-back event answer asked is range = absurd asked
