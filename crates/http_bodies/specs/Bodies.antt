-- How a body comes: with its length, or in chunks; and where its reading stands.
use Rattle.std.specs.Prelude.{◌≡◌, ◌⊎◌, ℕ, ◌<◌, ◌≤◌, ◌+◌, Bool, true, false, ◌==◌, List, [], ◌∷◌, ◌++◌, length}
use Rattle.httparse.specs.Ascii.{crlf_bytes}
use Rattle.httparse.specs.Grammar.{MayBecomeChunkLine, MayBecomeSection}
use Rattle.http_heads.specs.Fields.{body_limit}
use Rattle.http_bodies.specs.Chunks.{line_limit, trailer_limit, IsLine, IsTrailer, AreWhole, IsChunked}
use Rattle.http_bodies.specs.declared.body.Body.{Body}
use Rattle.http_bodies.specs.declared.body.Place.{Place}
use Rattle.http_bodies.specs.declared.body.Place.TheVariants.{Counted, Line, InChunk, Trailer, Done}

pub data Coding : Type 0 where
  OfLength : ℕ → Coding
  Chunked : Coding

-- these bytes are a whole body as it is sent, which carries those
abbrev pub IsBody : Coding → List ℕ → List ℕ → Type 0
IsBody (OfLength count) raw body = (raw ≡ body) × (length body ≡ count)
IsBody Chunked raw body = IsChunked raw body

-- ---- where the reading of a body stands

-- within a chunk, of whose bytes so many are to come
pub record IsInChunk (raw got : List ℕ) (left : ℕ) : Type 0 where
  pub front : List ℕ
  pub before : List ℕ
  pub whole : AreWhole front before
  pub line : List ℕ
  pub part : List ℕ
  pub is_line : IsLine line (length part + left)
  pub some : 0 < length part + left
  pub raw_is : raw ≡ front ++ (line ++ part)
  pub got_is : got ≡ before ++ part

-- behind the last chunk line
pub record IsAtTrailer (raw got : List ℕ) : Type 0 where
  pub front : List ℕ
  pub whole : AreWhole front got
  pub last : List ℕ
  pub is_last : IsLine last 0
  pub raw_is : raw ≡ front ++ last
  pub few : length got ≤ body_limit

-- these bytes of a body so coded were taken, they carry those, and the reading stands there
abbrev pub IsAtPlace : Coding → Place → ℕ → List ℕ → List ℕ → Type 0
IsAtPlace (OfLength count) (Counted left) room raw got = (raw ≡ got) × (length got + left ≡ count)
IsAtPlace (OfLength count) Line room raw got = ⊥
IsAtPlace (OfLength count) (InChunk left) room raw got = ⊥
IsAtPlace (OfLength count) Trailer room raw got = ⊥
IsAtPlace (OfLength count) Done room raw got = ⊥
IsAtPlace Chunked (Counted left) room raw got = ⊥
IsAtPlace Chunked Line room raw got = AreWhole raw got × (length got + room ≡ body_limit)
IsAtPlace Chunked (InChunk left) room raw got = IsInChunk raw got left × (length got + left + room ≡ body_limit)
IsAtPlace Chunked Trailer room raw got = IsAtTrailer raw got
IsAtPlace Chunked Done room raw got = IsChunked raw got

abbrev pub IsAt : Coding → Body → List ℕ → List ℕ → Type 0
IsAt coding body raw got = IsAtPlace coding body.place body.room raw got

-- these bytes are the front of a body so coded, and they carry those
pub record IsFront (coding : Coding) (raw got : List ℕ) : Type 0 where
  pub body : Body
  pub at : IsAt coding body raw got

-- all was read
abbrev pub is_done_at : Place → Bool
is_done_at (Counted left) = left == 0
is_done_at Line = false
is_done_at (InChunk left) = false
is_done_at Trailer = false
is_done_at Done = true

abbrev pub is_done : Body → Bool
is_done body = is_done_at body.place

-- at most so many bytes that are carried are to come
abbrev pub most_at : Place → ℕ → ℕ
most_at (Counted left) room = left
most_at Line room = room
most_at (InChunk left) room = left + room
most_at Trailer room = 0
most_at Done room = 0

abbrev pub most_left : Body → ℕ
most_left body = most_at body.place body.room

-- ---- the lines between the bytes that are carried

-- these bytes are what comes at this place, which announces so many bytes
abbrev pub IsItem : Place → List ℕ → ℕ → Type 0
IsItem Line item size = IsLine item size
IsItem (InChunk left) item size = (left ≡ 0) × (item ≡ crlf_bytes) × (size ≡ 0)
IsItem Trailer item size = IsTrailer item × (size ≡ 0)
IsItem (Counted left) item size = ⊥
IsItem Done item size = ⊥

-- the most bytes of it
abbrev pub item_limit : Place → ℕ
item_limit Line = line_limit
item_limit (InChunk left) = 2
item_limit Trailer = trailer_limit
item_limit (Counted left) = 0
item_limit Done = 0

-- whatever bytes follow, they don't begin with what comes at this place
abbrev pub NeverHasItem : Place → List ℕ → Type 0
NeverHasItem place bytes = (after item rest : List ℕ) (size : ℕ) → IsItem place item size → bytes ++ after ≡ item ++ rest → ⊥

-- they don't begin with it, and may once more bytes follow
abbrev pub MayBecomeItem : Place → List ℕ → Type 0
MayBecomeItem Line bytes = MayBecomeChunkLine bytes
MayBecomeItem (InChunk left) bytes = (left ≡ 0) × ((bytes ≡ []) ⊎ (bytes ≡ 13 ∷ []))
MayBecomeItem Trailer bytes = MayBecomeSection bytes
MayBecomeItem (Counted left) bytes = ⊥
MayBecomeItem Done bytes = ⊥

pub record HasNoItemYet (place : Place) (bytes : List ℕ) : Type 0 where
  pub short : length bytes < item_limit place
  pub none : (item rest : List ℕ) (size : ℕ) → IsItem place item size → bytes ≡ item ++ rest → ⊥
  pub may : MayBecomeItem place bytes

-- they begin with a chunk line that announces more than may come
pub record HasLargeChunk (place : Place) (room : ℕ) (bytes : List ℕ) : Type 0 where
  pub line : List ℕ
  pub rest : List ℕ
  pub size : ℕ
  pub is_line : IsLine line size
  pub at_line : place ≡ Line
  pub bytes_are : bytes ≡ line ++ rest
  pub large : room < size

-- ---- ends inside a body

-- some bytes that are carried are to come, and none is left
abbrev pub WantsBytes : Place → Type 0
WantsBytes (Counted left) = 0 < left
WantsBytes (InChunk left) = 0 < left
WantsBytes Line = ⊥
WantsBytes Trailer = ⊥
WantsBytes Done = ⊥

-- the input ends there, inside the body
abbrev pub IsCutAt : Body → List ℕ → Type 0
IsCutAt body more = (WantsBytes body.place × (more ≡ [])) ⊎ HasNoItemYet body.place more

-- what is left breaks the grammar of chunks, whatever follows
abbrev pub IsLined : Place → Type 0
IsLined Line = Unit {0}
IsLined (InChunk left) = left ≡ 0
IsLined Trailer = Unit {0}
IsLined (Counted left) = ⊥
IsLined Done = ⊥

abbrev pub IsBrokenAt : Body → List ℕ → Type 0
IsBrokenAt body more = IsLined body.place × NeverHasItem body.place more
