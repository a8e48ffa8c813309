-- The door over a list: what it has, and what its next call does.
use Rattle.std.specs.Prelude.{◌≡◌, ℕ, ◌+◌, ◌-◌, ◌^◌, ◌<◌, Bool, ◌==◌, List, [], min, if◌then◌else◌, vec_len}
use Rattle.std.specs.List.{list_any}
use Rattle.std.specs.Vec.{vec_capacity}
use Rattle.std.specs.VecDeque.{deque_len}
use Rattle.stream_traits.specs.declared.memory.MemoryLink.{MemoryLink}
use Rattle.caller_doors.specs.declared.list_door.ListDoor.{ListDoor}

-- the links that it has to give
abbrev pub links_left : ListDoor → List MemoryLink
links_left door = door.links.items

-- the links that were given back to it
abbrev pub links_served : ListDoor → List MemoryLink
links_served door = door.served.items

-- how many it has to give
abbrev pub count_left : ListDoor → ℕ
count_left door = deque_len door.links

-- it has room for one link more than those that are to come
abbrev pub has_room : ListDoor → Type 0
has_room door = deque_len door.links + vec_len door.served < vec_capacity door.served

-- the count of its failed calls
abbrev pub fault_count : ListDoor → ℕ
fault_count door = door.failed_calls

-- whether its next call is among those that fail
abbrev pub fails_next : ListDoor → Bool
fails_next door = list_any (λ number. number == door.calls) door.fails.items

-- one more, up to the largest number
abbrev pub one_more : ℕ → ℕ
one_more count = min (count + 1) (2 ^ 64 - 1)

-- a call was made: it is counted, and so is its fault
pub record Calls (old new : ListDoor) (failed : Bool) : Type 0 where
  pub calls : new.calls ≡ one_more old.calls
  pub failed_calls : new.failed_calls ≡ (if failed then one_more old.failed_calls else old.failed_calls)
  pub fails : new.fails.items ≡ old.fails.items

-- no call was made, and these fail
pub record IsFresh (door : ListDoor) (fails : List ℕ) : Type 0 where
  pub calls : door.calls ≡ 0
  pub failed_calls : door.failed_calls ≡ 0
  pub fails_is : door.fails.items ≡ fails

-- no call was made
pub record IsQuiet (old new : ListDoor) : Type 0 where
  pub calls : new.calls ≡ old.calls
  pub failed_calls : new.failed_calls ≡ old.failed_calls
  pub fails : new.fails.items ≡ old.fails.items
