-- Requests that repeat an earlier one, as memory tells.
--     by_receipt receipts token, by_dump dumps host token      the answer of the commit whose receipt has the token, and of the opening of
--         the host's open dump, if it was opened with it
--     repeated receipts dumps host token      the answer that an opening of the host with this token repeats, if there is one
--     judged_token kept token      what the tokens that a dump keeps say of an edit with this one, or with none
use Rattle.std.specs.Prelude.{ℕ, nat_le, ◌==◌, List, Option, Some, None, slice_get, false, Bool, if◌then◌else◌}
use Rattle.std.specs.List.{position_from}
use Rattle.std.specs.Option.{option_map, option_and_then, option_map_or, option_or}
use Rattle.receipts.specs.declared.receipt.Receipt.{Receipt}
use Rattle.receipts.specs.declared.session.Token.{Token}
use Rattle.receipts.specs.Receipts.{receipt_with}
use Rattle.receipts.specs.Session.{is_same_token}
use Rattle.receipts.specs.TokenSets.{Tokens, has, count}
use Rattle.office_model.specs.declared.answer.Answer.{Answer}
use Rattle.office_model.specs.declared.answer.Answer.TheVariants.{Already, Dump as DumpAnswer}
use Rattle.office_model.specs.Office.{token_limit}
use Rattle.open_sessions.specs.declared.sessions.OpenDump.{OpenDump}
use Rattle.store_dumps.specs.declared.tokens.EditToken.{EditToken}
use Rattle.store_dumps.specs.declared.tokens.EditToken.TheVariants.{Fresh, Kept, Full}

abbrev pub by_receipt : List Receipt → Token → Option Answer
by_receipt receipts token = option_map (λ receipt. Already receipt.number) (receipt_with receipts token)

abbrev pub is_opened_with : Token → OpenDump → Bool
is_opened_with token dump = option_map_or (λ own. is_same_token own token) dump.token false

abbrev pub dump_of_host : List OpenDump → ℕ → Option OpenDump
dump_of_host dumps host = option_and_then (slice_get dumps) (position_from (λ dump. dump.host == host) 0 dumps)

abbrev pub by_dump : List OpenDump → ℕ → Token → Option Answer
by_dump dumps host token =
    option_and_then (λ dump. if is_opened_with token dump then Some (DumpAnswer dump.name) else None) (dump_of_host dumps host)

abbrev pub repeated : List Receipt → List OpenDump → ℕ → Option Token → Option Answer
repeated receipts dumps host None = None
repeated receipts dumps host (Some token) = option_or (by_receipt receipts token) (by_dump dumps host token)

abbrev pub judged_token : Tokens → Option Token → EditToken
judged_token kept None = Fresh
judged_token kept (Some token) = if has kept token then Kept else (if nat_le token_limit (count kept) then Full else Fresh)
