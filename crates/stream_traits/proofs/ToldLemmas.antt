-- Lemmas on told bytes, for loops that write or read in pieces.
use Rattle.std.proofs.Common.{◌≡◌, ℕ, ◌+◌, ◌-◌, List, length, take, drop, Option, sym}
use Rattle.std.proofs.Math.Seq.{take-add}
use Rattle.std.proofs.lemmas.List.{take_rest}
use Rattle.stream_traits.specs.Told.{behind}
use Rattle.stream_traits.specs.ToldLaws.{behind_append}

-- a further piece of the bytes goes behind the front that is out
pub behind-take_more : (first now : Option (List ℕ)) (bytes : List ℕ) (done count : ℕ) → now ≡ behind first (take done bytes)
    → behind now (take count (take (length bytes - done) (drop done bytes))) ≡ behind first (take (done + count) bytes)
behind-take_more first now bytes done count wrote =
    rw (take_rest bytes done, wrote, take-add done count bytes) (sym (behind_append first (take done bytes) (take count (drop done bytes))))
