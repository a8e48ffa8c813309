-- What the responses to a push's events say.
--     answer_of      the answer that a status and a body say to an event
--     reply_in      that, or the refusal
use Rattle.std.specs.Prelude.{ℕ, ◌==◌, ◌||◌, List, Option, Some, None, Ok, Err, option_map, option_and_then, codes, if◌then◌else◌}
use Rattle.receipts.specs.declared.session.SessionName.{SessionName}
use Rattle.office_model.specs.declared.event.Event.{Event}
use Rattle.office_model.specs.declared.event.Event.TheVariants as E
use Rattle.office_model.specs.declared.answer.Answer.{Answer}
use Rattle.office_model.specs.declared.answer.Answer.TheVariants as A
use Rattle.office_model.specs.Meaning.{Reply}
use Rattle.serde_json.specs.Data.{Data}
use Rattle.json_back.specs.Reading.{data_of}
use Rattle.listing_back.specs.Members.{number_at, text_at, session_of}
use Rattle.listing_back.specs.Listings.{listing_of}
use Rattle.entries_back.specs.Entries.{entries_of}
use Rattle.push_replies.specs.Refusals.{refusal_of}

-- the dump that an object names, and that bytes name as JSON
abbrev pub dump_in : Data → Option SessionName
dump_in value = option_and_then session_of (text_at (codes "dump") value)

abbrev pub dump_of : List ℕ → Option SessionName
dump_of bytes = option_and_then dump_in (data_of bytes)

-- the number of a backup
abbrev pub number_of_body : List ℕ → Option ℕ
number_of_body bytes = option_and_then (number_at (codes "number")) (data_of bytes)

-- ---- answers

abbrev pub opened_of : ℕ → List ℕ → Option Answer
opened_of status body =
    if status == 201 then option_map (λ dump. A.Dump dump) (dump_of body)
    else option_map (λ number. A.Already number) (number_of_body body)

abbrev pub committed_of : ℕ → List ℕ → Option Answer
committed_of status body = if status == 201 then option_map (λ number. A.Committed number) (number_of_body body) else None

abbrev pub backups_of : ℕ → List ℕ → Option Answer
backups_of status body =
    if status == 200 then option_map (λ listing. A.Backups listing.lines listing.next listing.dump) (listing_of body) else None

abbrev pub entries_at : ℕ → List ℕ → Option Answer
entries_at status body = if status == 200 then option_map (λ entries. A.Entries entries) (entries_of body) else None

-- of what was done nothing is read
abbrev pub done_at : ℕ → Option Answer
done_at status = if status == 200 then Some A.Done else None

abbrev pub answer_of : Event → ℕ → List ℕ → Option Answer
answer_of (E.OpenDump host kind now token) status body = opened_of status body
answer_of (E.Put dump path item token) status body = done_at status
answer_of (E.Remove dump path token) status body = done_at status
answer_of (E.Abort dump) status body = done_at status
answer_of (E.Commit dump now) status body = committed_of status body
answer_of (E.Backups host) status body = backups_of status body
answer_of (E.List host number directory) status body = entries_at status body
answer_of event status body = None

-- The reply that a response says to an event: an answer, if its status is 200 or 201, and else the refusal that it names. 502 is a
-- damaged file, of which it doesn't say what was found, and 507 want of memory: both say nothing.
abbrev pub reply_in : Event → ℕ → List ℕ → Option Reply
reply_in event status body =
    if (status == 200) || (status == 201) then option_map (λ answer. Ok answer) (answer_of event status body)
    else if (status == 502) || (status == 507) then None
    else option_map (λ refusal. Err refusal) (refusal_of body)
