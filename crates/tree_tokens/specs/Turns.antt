-- What a token says of a request, by the parts of an office that it asks.
--     repeated_at      the answer that an opening repeats, if there is one
--     place_for      the place of the dump that is to keep a token; none, if it keeps it already
--     kept_by, turned      what comes of a put or a removal, by this place
--     IsPlace      the dump there has room for the token, which it doesn't keep yet
use Rattle.std.specs.Prelude.{◌≡◌, ◌<◌, ℕ, false, List, length, Option, Some, None, Ok, nat_le, slice_get, if◌then◌else◌}
use Rattle.receipts.specs.declared.session.SessionName.{SessionName}
use Rattle.receipts.specs.declared.session.Token.{Token}
use Rattle.office_model.specs.declared.answer.Answer.{Answer}
use Rattle.office_model.specs.declared.answer.Answer.TheVariants.{Done}
use Rattle.office_model.specs.declared.refusal.BrokenRule.TheVariants.{TokensFull}
use Rattle.office_model.specs.Office.{Office, Host, Dump, token_limit, with_dumps}
use Rattle.office_model.specs.Meaning.{Carried, Judged, ◌>>=◌, ◌>>◌, breaks}
use Rattle.office_model.specs.Parts.{At, host_at, dump_at}
use Rattle.office_model.specs.Repeats.{keeps, kept_at}
use Rattle.office_model.specs.events.OpenDump.{repeated}

abbrev pub repeated_at : List ℕ → Token → List Host → List Dump → Judged (Option Answer)
repeated_at name token hosts dumps = do
  host ← host_at hosts name
  Ok (repeated token host dumps)

abbrev pub place_for : SessionName → Token → List Dump → Judged (Option ℕ)
place_for session token dumps = do
  dump ← dump_at dumps session
  if keeps token dump.value then Ok None else (breaks TokensFull (nat_le token_limit (length dump.value.kept)) >> Ok (Some dump.index))

-- an Ok keeps the token
abbrev pub kept_by : ℕ → Token → Judged Carried → Judged Carried
kept_by index token rest = do
  made ← rest
  Ok (record { answer = made.answer; after = with_dumps made.after (kept_at index token made.after.dumps) })

abbrev pub turned : Office → Token → Judged Carried → Option ℕ → Judged Carried
turned repeated token rest None = Ok (record { answer = Done; after = repeated })
turned repeated token rest (Some index) = kept_by index token rest

pub record IsPlace (token : Token) (dumps : List Dump) (index : ℕ) : Type 0 where
  pub dump : Dump
  pub is_dump : slice_get dumps index ≡ Some dump
  pub is_new : keeps token dump ≡ false
  pub has_room : length dump.kept < token_limit
