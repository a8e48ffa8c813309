-- Names of sessions, and their text; and tokens.
use Rattle.std.specs.Prelude.{ℕ, Bool, List, ◌∷◌, ◌++◌, decimal, ◌==◌, ◌&&◌, bytes_eq}
use Rattle.receipts.specs.declared.session.SessionName.{SessionName}
use Rattle.receipts.specs.declared.session.Token.{Token}

-- epoch and sequence in decimal, joined by a dash
abbrev pub session_text : SessionName → List ℕ
session_text name = decimal name.epoch ++ 45 ∷ decimal name.sequence

abbrev pub is_same_session : SessionName → SessionName → Bool
is_same_session a b = (a.epoch == b.epoch) && (a.sequence == b.sequence)

abbrev pub is_same_token : Token → Token → Bool
is_same_token a b = bytes_eq a.bytes b.bytes
