-- Cleaning of one content of the pool. A content is protected if something calls for it; it is marked if nothing did when
-- it was cleaned before.
use Rattle.std.specs.Prelude.{Bool, true, false, Option, Some, None}

-- the mark after a cleaning, None if the content leaves the pool
abbrev pub next_mark : (protected marked : Bool) → Option Bool
next_mark true marked = Some false
next_mark false false = Some true
next_mark false true = None
