-- Reading from left to right: the value of a field and where its reader stands then, or what is wrong.
use Rattle.std.specs.Prelude.{◌≡◌, ℕ, ℤ, Bool, true, false, List, length, take, Result, Ok, Err, nat_lt, nat_eq, ◌==◌, if◌then◌else◌}
use Rattle.std.specs.List.{starts_with}
use Rattle.std.specs.Int.{Width, w8, byte_len, cast_signed}
use Rattle.wire_bytes.specs.declared.fault.FieldFault.{FieldFault}
use Rattle.wire_bytes.specs.declared.fault.FieldFault.TheVariants.{Ended, Foreign}
use Rattle.wire_bytes.specs.Reading.{Reading, left, further}
use Rattle.wire_bytes.specs.Layout.{number_of}

infixl 10 ◌>>=◌
abbrev pub ◌>>=◌ : {A B : Type 0} → Result A FieldFault → (A → Result B FieldFault) → Result B FieldFault
(Ok x) >>= f = f x
(Err e) >>= f = Err e

-- What a call returned, seen by view, and where its reader stands then, are what reading gives.
abbrev pub Gives : {X V : Type 0} → (X → V) → Result X FieldFault → Reading → Result (V × Reading) FieldFault → Type 0
Gives view (Ok x) new read = read ≡ Ok (view x, new)
Gives view (Err e) new read = read ≡ Err e

-- so many bytes
unfoldable pub bytes_at : ℕ → Reading → Result (List ℕ × Reading) FieldFault
bytes_at count at =
    if nat_lt (length (left at)) count then Err (Ended at.offset)
    else Ok (take count (left at), further at count)

-- a number
unfoldable pub number_at : Width → Reading → Result (ℕ × Reading) FieldFault
number_at w at = do
  front ← bytes_at (byte_len w) at
  Ok (number_of w front.0, front.1)

-- a signed number
unfoldable pub signed_at : Width → Reading → Result (ℤ × Reading) FieldFault
signed_at w at = do
  bits ← number_at w at
  Ok (cast_signed w bits.0, bits.1)

-- a counted text
unfoldable pub text_at : Width → Reading → Result (List ℕ × Reading) FieldFault
text_at w at = do
  count ← number_at w at
  if nat_lt (length (left count.1)) count.0 then Err (Ended at.offset)
      else Ok (take count.0 (left count.1), further count.1 count.0)

-- a flag
unfoldable pub flag_at : Reading → Result (Bool × Reading) FieldFault
flag_at at = do
  byte ← number_at w8 at
  if byte.0 == 0 then Ok (false, byte.1)
      else if byte.0 == 1 then Ok (true, byte.1)
      else Err (Foreign at.offset)

-- these bytes and no others
unfoldable pub magic_at : List ℕ → Reading → Result (Unit {0} × Reading) FieldFault
magic_at magic at =
    if starts_with nat_eq (left at) magic then Ok (tt, further at (length magic))
    else if starts_with nat_eq magic (left at) then Err (Ended at.offset)
    else Err (Foreign at.offset)
