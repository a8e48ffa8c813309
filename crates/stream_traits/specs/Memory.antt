-- The link in memory: what it has, and what its next call does.
use Rattle.std.specs.Prelude.{◌≡◌, ℕ, Bool, ◌&&◌, ◌||◌, ◌+◌, ◌-◌, ◌^◌, ◌==◌, nat_lt, List, [], length, take, drop, if◌then◌else◌, min}
use Rattle.std.specs.List.{list_any}
use Rattle.stream_traits.specs.declared.memory.MemoryLink.{MemoryLink}

-- the bytes that are left to be read
abbrev pub bytes_left : MemoryLink → List ℕ
bytes_left link = drop link.taken link.input.items

-- the bytes that were written
abbrev pub bytes_written : MemoryLink → List ℕ
bytes_written link = link.output.items

-- those of them that were sent
abbrev pub bytes_sent : MemoryLink → List ℕ
bytes_sent link = take link.sent link.output.items

-- the count of its failed calls
abbrev pub fault_count : MemoryLink → ℕ
fault_count link = link.failed_calls

-- how many more bytes it can hold
abbrev pub spare_room : MemoryLink → ℕ
spare_room link = link.room - length link.output.items

-- whether the next call is among those that fail
abbrev pub fails_next : MemoryLink → Bool
fails_next link = list_any (λ number. number == link.calls) link.fails.items

-- whether a write of these bytes fails: it is among those that fail, or there is no room for any
abbrev pub fails_write : MemoryLink → List ℕ → Bool
fails_write link bytes = fails_next link || (nat_lt 0 (length bytes) && (spare_room link == 0))

-- one more, up to the largest number
abbrev pub one_more : ℕ → ℕ
one_more count = min (count + 1) (2 ^ 64 - 1)

-- a call was made: it is counted, and so is its fault
pub record Calls (old new : MemoryLink) (failed : Bool) : Type 0 where
  pub calls : new.calls ≡ one_more old.calls
  pub failed_calls : new.failed_calls ≡ (if failed then one_more old.failed_calls else old.failed_calls)
  pub fails : new.fails.items ≡ old.fails.items
  pub room : new.room ≡ old.room

-- no call was made, with this room and these calls to fail
pub record IsFresh (link : MemoryLink) (room : ℕ) (fails : List ℕ) : Type 0 where
  pub calls : link.calls ≡ 0
  pub failed_calls : link.failed_calls ≡ 0
  pub fails_is : link.fails.items ≡ fails
  pub room_is : link.room ≡ room
