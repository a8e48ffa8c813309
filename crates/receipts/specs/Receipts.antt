-- Receipts of a host's commits.
--     receipt_limit      the most that a host keeps
--     receipt_with, receipt_of      the receipt of a token, and of a dump's name
--     has_token      whether a receipt has this token
--     with_newest      the last 256, with one more behind the others
--     kept_with      so, if no receipt has its token
--     AreReceipts      at most 256, no two of which have one token
use Rattle.std.specs.Prelude.{ℕ, ◌+◌, ◌-◌, ◌≤◌, Bool, List, [], ◌∷◌, ◌++◌, length, drop, Option, slice_get, if◌then◌else◌}
use Rattle.std.specs.List.{list_any, position_from, IsDistinct}
use Rattle.std.specs.Option.{option_and_then}
use Rattle.receipts.specs.declared.session.SessionName.{SessionName}
use Rattle.receipts.specs.declared.session.Token.{Token}
use Rattle.receipts.specs.declared.receipt.Receipt.{Receipt}
use Rattle.receipts.specs.Session.{is_same_session, is_same_token}

abbrev pub receipt_limit : ℕ
receipt_limit = 256

abbrev pub receipt_with : List Receipt → Token → Option Receipt
receipt_with receipts token = option_and_then (slice_get receipts) (position_from (λ receipt. is_same_token receipt.token token) 0 receipts)

abbrev pub receipt_of : List Receipt → SessionName → Option Receipt
receipt_of receipts name = option_and_then (slice_get receipts) (position_from (λ receipt. is_same_session receipt.name name) 0 receipts)

abbrev pub has_token : List Receipt → Token → Bool
has_token receipts token = list_any (λ receipt. is_same_token receipt.token token) receipts

-- the oldest goes if there are 256
abbrev pub with_newest : List Receipt → Receipt → List Receipt
with_newest receipts receipt = drop (length receipts + 1 - receipt_limit) receipts ++ receipt ∷ []

-- a token has one receipt
abbrev pub kept_with : List Receipt → Receipt → List Receipt
kept_with receipts receipt = if has_token receipts receipt.token then receipts else with_newest receipts receipt

abbrev pub HaveOneToken : Receipt → Receipt → Bool
HaveOneToken a b = is_same_token a.token b.token

pub record AreReceipts (receipts : List Receipt) : Type 0 where
  pub few : length receipts ≤ receipt_limit
  pub differ : IsDistinct HaveOneToken receipts
