-- Requests that repeat an earlier one, as their tokens tell.
--     again      one that repeats another has that one's answer, and is not carried out
--     receipt_named      the receipt of the commit of a dump of this name
--     is_opened_with      whether a dump was opened with a token
--     once      a put or a removal: one that repeats another is Done, and the Ok of any other keeps its token
use Rattle.std.specs.Prelude.{ℕ, Bool, false, List, [], ◌∷◌, ◌++◌, length, Option, Some, None, Ok, nat_le, slice_get, slice_set, if◌then◌else◌}
use Rattle.std.specs.List.{list_any}
use Rattle.std.specs.Option.{option_map_or, option_or}
use Rattle.receipts.specs.declared.session.SessionName.{SessionName}
use Rattle.receipts.specs.declared.session.Token.{Token}
use Rattle.office_model.specs.declared.answer.Answer.{Answer}
use Rattle.office_model.specs.declared.answer.Answer.TheVariants.{Done}
use Rattle.office_model.specs.declared.refusal.BrokenRule.TheVariants.{TokensFull}
use Rattle.receipts.specs.declared.receipt.Receipt.{Receipt}
use Rattle.receipts.specs.Session.{is_same_token}
use Rattle.receipts.specs.Receipts.{receipt_of}
use Rattle.office_model.specs.Office.{Office, Host, Dump, token_limit, with_dumps}
use Rattle.office_model.specs.Meaning.{Carried, Judged, ◌>>=◌, ◌>>◌, breaks}
use Rattle.office_model.specs.Parts.{At, dump_at}

-- a request that repeats another has that one's answer, and leaves this office
abbrev pub again : Office → Option Answer → Judged Carried → Judged Carried
again office None rest = rest
again office (Some answer) rest = Ok (record { answer = answer; after = office })

-- ---- receipts

-- the receipt of a dump of this name, of any host
abbrev pub receipt_named : List Host → SessionName → Option Receipt
receipt_named [] name = None
receipt_named (host ∷ hosts) name = option_or (receipt_of host.receipts name) (receipt_named hosts name)

-- ---- dumps

abbrev pub is_opened_with : Token → Dump → Bool
is_opened_with token dump = option_map_or (λ own. is_same_token own token) dump.token false

abbrev pub keeps : Token → Dump → Bool
keeps token dump = list_any (λ kept. is_same_token kept token) dump.kept

abbrev pub with_token : Token → Dump → Dump
with_token token dump = record dump { kept = dump.kept ++ token ∷ [] }

-- the dump at this place, if there is one, keeps a token more
abbrev pub kept_at : ℕ → Token → List Dump → List Dump
kept_at index token dumps = option_map_or (λ dump. slice_set dumps index (with_token token dump)) (slice_get dumps index) dumps

-- an Ok keeps the token, for which there must be room
abbrev pub keeping : At Dump → Token → Judged Carried → Judged Carried
keeping dump token rest = do
  breaks TokensFull (nat_le token_limit (length dump.value.kept))
  made ← rest
  Ok (record { answer = made.answer; after = with_dumps made.after (kept_at dump.index token made.after.dumps) })

-- a put or a removal of a dump: one that repeats another is Done, and leaves the office `repeated`
abbrev pub once : SessionName → Option Token → List Dump → Office → Judged Carried → Judged Carried
once session None dumps repeated rest = rest
once session (Some token) dumps repeated rest = do
  dump ← dump_at dumps session
  again repeated (if keeps token dump.value then Some Done else None) (keeping dump token rest)
