-- What is planned from the number alone: sixty days of dumps, expiries and cleanings.
--     drawn, below      the next state of the draws, and a number below a limit
--     each, each_drawn      a part for each number from 0, the second kind with draws
--     edit, dump, day, plan      the parts
-- A part with draws gives its asks and the state after its draws.
use Rattle.std.specs.Prelude.{ℕ, ◌+◌, ◌*◌, ◌/◌, ◌%◌, ◌^◌, ◌==◌, ◌||◌, if◌then◌else◌, List, [], ◌∷◌, ◌++◌, zero, suc}
use Rattle.backup_rules.specs.declared.lines.Kind.{Kind}
use Rattle.backup_rules.specs.declared.lines.Kind.TheVariants.{Full, Incr}
use Rattle.demo_work.specs.declared.asks.Ask.{Ask}
use Rattle.demo_work.specs.declared.asks.Ask.TheVariants as Q

-- ---- draws

unfoldable pub drawn : ℕ → ℕ
drawn state = (state * 6364136223846793005 + 1442695040888963407) % 2 ^ 64

-- what a draw gives that leaves this state
unfoldable pub below : ℕ → ℕ → ℕ
below limit state = state / 2 ^ 33 % limit

-- ---- repetition

unfoldable pub each : (ℕ → List Ask) → ℕ → List Ask
each part zero = []
each part (suc n) = each part n ++ part n

abbrev pub Drawn : Type 0
Drawn = List Ask × ℕ

-- a part behind others
abbrev pub followed_by : Drawn → (ℕ → Drawn) → Drawn
followed_by before part = (before.0 ++ (part before.1).0, (part before.1).1)

unfoldable pub each_drawn : (ℕ → ℕ → Drawn) → ℕ → ℕ → Drawn
each_drawn part zero state = ([], state)
each_drawn part (suc n) state = followed_by (each_drawn part n state) (part n)

-- ---- a dump

-- in a directory, at a file: it is put
abbrev pub put : ℕ → ℕ → ℕ → Drawn
put dir file state =
    let value = drawn state in
    let times = drawn value in (Q.PutFile dir file (below 50 value) (1 + below 100 times) ∷ [], times)

-- in one of four cases it is removed
abbrev pub remove_or_put : ℕ → ℕ → ℕ → ℕ → Drawn
remove_or_put dir file zero state = (Q.Remove dir file ∷ [], state)
remove_or_put dir file (suc choice) state = put dir file state

unfoldable pub edit : ℕ → Drawn
edit state =
    let dir = drawn state in
    let file = drawn dir in
    let choice = drawn file in remove_or_put (below 10 dir) (below 10 file) (below 4 choice) choice

-- one to twenty edits
unfoldable pub edits : ℕ → Drawn
edits state = each_drawn (λ _ at. edit at) (1 + below 20 (drawn state)) (drawn state)

-- A full dump once a week, and where the host has no backup. That is on day 0 alone: each later day has one, since a commit came
-- before, and an expiry leaves the newest.
unfoldable pub kind_of : ℕ → ℕ → Kind
kind_of day host = if (day % 7 == host) || (day == 0) then Full else Incr

unfoldable pub moment_of : ℕ → ℕ → ℕ
moment_of day host = 1700000000 + 86400 * day + 600 * host

abbrev pub dirs : List Ask
dirs = each (λ dir. Q.PutDir dir ∷ []) 10

unfoldable pub opening : ℕ → ℕ → List Ask
opening day host = Q.OpenDump host (kind_of day host) (moment_of day host) ∷ dirs

unfoldable pub closing : ℕ → ℕ → List Ask
closing day host = Q.Commit (moment_of day host + 60) ∷ Q.Expire host (moment_of day host + 120) ∷ []

unfoldable pub dump : ℕ → ℕ → ℕ → Drawn
dump day host state = (opening day host ++ ((edits state).0 ++ closing day host), (edits state).1)

-- ---- the days

-- a quarter of the sixteen buckets
abbrev pub clean : ℕ → ℕ → List Ask
clean day bucket = if bucket % 4 == day % 4 then Q.Clean bucket ∷ [] else []

-- once a week
unfoldable pub sweep : ℕ → List Ask
sweep day = if day % 7 == 6 then Q.Sweep ∷ [] else []

unfoldable pub upkeep : ℕ → List Ask
upkeep day = each (clean day) 16 ++ sweep day

-- a dump of each host, and then the pool's upkeep
unfoldable pub day_of : ℕ → ℕ → Drawn
day_of day state =
    let dumps = each_drawn (dump day) 4 state in (dumps.0 ++ upkeep day, dumps.1)

unfoldable pub days : ℕ → Drawn
days number = each_drawn day_of 60 number

-- four hosts, sixty days, the numbers of the pool, and the backups of each host
unfoldable pub plan : ℕ → List Ask
plan number =
    each (λ host. Q.AddHost host ∷ []) 4 ++ ((days number).0 ++ Q.Stats ∷ each (λ host. Q.Backups host ∷ []) 4)
