-- Where a reader stands, and what it goes past.
use Rattle.std.specs.Prelude.{◌≡◌, ℕ, ◌+◌, ◌<◌, List, ◌++◌, length, drop, slice_index}

-- the bytes that are read, and how many of them were read
pub record Reading : Type 0 where
  pub whole : List ℕ
  pub offset : ℕ

-- nothing of the bytes was read
abbrev pub at_front : List ℕ → Reading
at_front bytes = record { whole = bytes; offset = 0 }

-- each number of the list is a byte
pub record AreBytes (bytes : List ℕ) : Type 0 where
  pub below : (i : ℕ) → slice_index bytes i < 256

-- what is left to be read
abbrev pub left : Reading → List ℕ
left at = drop at.offset at.whole

-- the same bytes, so many of them further on
abbrev pub further : Reading → ℕ → Reading
further at count = record { whole = at.whole; offset = at.offset + count }

-- from the first to the second, a reader went past these bytes and no others
pub record Passes (old new : Reading) (bytes : List ℕ) : Type 0 where
  pub whole : new.whole ≡ old.whole
  pub offset : new.offset ≡ old.offset + length bytes
  pub parts : left old ≡ bytes ++ left new
