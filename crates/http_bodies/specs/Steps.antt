-- Where the reading of a body stands behind what comes at a place, and what the bytes read ahead say of that.
use Rattle.std.specs.Prelude.{ℕ, ◌≤◌, ◌-◌, ◌==◌, Bool, true, false, List, take, length}
use Rattle.http_bodies.specs.declared.body.Body.{Body}
use Rattle.http_bodies.specs.declared.body.Place.{Place}
use Rattle.http_bodies.specs.declared.body.Place.TheVariants.{Counted, Line, InChunk, Trailer, Done}
use Rattle.http_bodies.specs.declared.items.Judged.{Judged}
use Rattle.http_bodies.specs.declared.items.Judged.TheVariants.{Whole, Broken, Large, Unfinished}
use Rattle.http_bodies.specs.Bodies.{IsItem, NeverHasItem, HasNoItemYet, HasLargeChunk}

-- behind a chunk line, which announces none or so many bytes
abbrev pub behind_by : Bool → ℕ → ℕ → Body
behind_by true room size = record { place = Trailer; room = room }
behind_by false room size = record { place = InChunk size; room = room - size }

abbrev pub behind_line : ℕ → ℕ → Body
behind_line room size = behind_by (size == 0) room size

abbrev pub item_after : Place → ℕ → ℕ → Body
item_after Line room size = behind_line room size
item_after (InChunk left) room size = record { place = Line; room = room }
item_after Trailer room size = record { place = Done; room = room }
item_after (Counted left) room size = record { place = Done; room = room }
item_after Done room size = record { place = Done; room = room }

abbrev pub after_item : Body → ℕ → Body
after_item body size = item_after body.place body.room size

-- in the first len bytes is what comes at this place
pub record IsWholeItem (place : Place) (room : ℕ) (bytes : List ℕ) (len size : ℕ) : Type 0 where
  pub within : len ≤ length bytes
  pub is_item : IsItem place (take len bytes) size
  pub fits : size ≤ room

abbrev pub IsJudged : Place → ℕ → List ℕ → Judged → Type 0
IsJudged place room bytes (Whole len size) = IsWholeItem place room bytes len size
IsJudged place room bytes Broken = NeverHasItem place bytes
IsJudged place room bytes Large = HasLargeChunk place room bytes
IsJudged place room bytes Unfinished = HasNoItemYet place bytes
