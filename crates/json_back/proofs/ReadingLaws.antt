-- Bytes that are UTF-8, and those that are no value.
use Rattle.std.proofs.Common.{◌≡◌, ℕ, Bool, true, false, if◌then◌else◌, List, Option, None, IsUtf8, refl, ap}
use Rattle.std.specs.Str.{is_utf8}
use Rattle.std.proofs.lemmas.Str.{IsUtf8-from_is_utf8, is_utf8-from_IsUtf8}
use Rattle.serde_json.specs.Data.{Data}
use Rattle.serde_json.specs.Read.{read}
use Rattle.json_back.specs.Reading.{data_of}

pub data-utf8 : (bytes : List ℕ) → IsUtf8 bytes → data_of bytes ≡ read bytes
data-utf8 bytes utf8 = ap (λ b. if b then read bytes else None) (is_utf8-from_IsUtf8 bytes utf8)

either-none : (b : Bool) (found : Option Data) → (b ≡ true → found ≡ None) → (if b then found else None) ≡ None
either-none true found h = h refl
either-none false found h = refl

pub data-none : (bytes : List ℕ) → (IsUtf8 bytes → read bytes ≡ None) → data_of bytes ≡ None
data-none bytes h = either-none (is_utf8 bytes) (read bytes) (λ is. h (IsUtf8-from_is_utf8 bytes is))
