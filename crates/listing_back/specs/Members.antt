-- The members of an object, each read as what it has to be; none, if it isn't there or isn't that.
use Rattle.std.specs.Prelude.{ℕ, ◌-◌, ◌^◌, ◌==◌, nat_lt, Bool, List, Option, Some, None, option_map, option_and_then, bytes_eq, codes, if◌then◌else◌}
use Rattle.std.specs.List.{before_first, after_first}
use Rattle.http_query.specs.Numbers.{number_of}
use Rattle.backup_rules.specs.declared.lines.Kind.{Kind}
use Rattle.backup_rules.specs.declared.lines.Kind.TheVariants.{Full, Incr}
use Rattle.receipts.specs.declared.session.SessionName.{SessionName}
use Rattle.serde_json.specs.Data.{Data, null, boolean, number, string, array, object}
use Rattle.serde_json.specs.Find.{get, as_number, as_u64, as_bool, as_str}

-- a number of 64 bits
abbrev pub count_at : List ℕ → Data → Option ℕ
count_at key value = option_and_then as_u64 (option_and_then as_number (get key value))

abbrev pub if_small : ℕ → Option ℕ
if_small n = if nat_lt n (2 ^ 32) then Some n else None

-- a number of 32 bits
abbrev pub number_at : List ℕ → Data → Option ℕ
number_at key value = option_and_then if_small (count_at key value)

abbrev pub flag_at : List ℕ → Data → Option Bool
flag_at key value = option_and_then as_bool (get key value)

abbrev pub text_at : List ℕ → Data → Option (List ℕ)
text_at key value = option_and_then as_str (get key value)

-- the kind of a backup that a text names
abbrev pub kind_of : List ℕ → Option Kind
kind_of text = if bytes_eq text (codes "full") then Some Full else (if bytes_eq text (codes "incr") then Some Incr else None)

-- the session whose name a text is: two numbers in decimal, joined by a dash
unfoldable pub session_of : List ℕ → Option SessionName
session_of text =
    option_and_then (λ epoch. option_map (λ sequence. record { epoch = epoch; sequence = sequence })
    (number_of (2 ^ 64 - 1) (after_first (λ byte. byte == 45) text)))
    (number_of (2 ^ 64 - 1) (before_first (λ byte. byte == 45) text))

-- the session that a value names; Some None of null, by which none is named
abbrev pub maybe_session_in : Data → Option (Option SessionName)
maybe_session_in null = Some None
maybe_session_in (boolean b) = None
maybe_session_in (number n) = None
maybe_session_in (string text) = option_map (λ name. Some name) (session_of text)
maybe_session_in (array values) = None
maybe_session_in (object fields) = None
