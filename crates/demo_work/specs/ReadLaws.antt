-- A demo reads a restore behind its opening, frame by frame.
--     demo_reads
use Rattle.std.specs.Prelude.{◌%◌, if◌then◌else◌}
use Rattle.std.proofs.Common.{◌≡◌, ℕ, ◌+◌, ◌==◌, zero, suc, Bool, true, false, List, [], ◌∷◌, ◌++◌, map, Option, None, Some, Ok, Err, refl, sym, subst}
use Rattle.backup_rules.specs.declared.lines.Line.{Line}
use Rattle.receipts.specs.declared.session.SessionName.{SessionName}
use Rattle.tree_frames.specs.declared.nodes.Frame.{Frame}
use Rattle.tree_frames.specs.declared.nodes.Frame.TheVariants as T
use Rattle.office_model.specs.declared.event.Event.{Event}
use Rattle.office_model.specs.declared.event.Event.TheVariants as E
use Rattle.office_model.specs.declared.answer.Answer.{Answer}
use Rattle.office_model.specs.declared.answer.Answer.TheVariants as A
use Rattle.office_model.specs.Meaning.{Reply}
use Rattle.office_model.specs.Step.{Call}
use Rattle.call_scripts.specs.Scripts.{Script, FollowsAfter, Follows, behind}
use Rattle.demo_work.specs.declared.asks.Ask.{Ask}
use Rattle.demo_work.specs.declared.asks.Ask.TheVariants as Q
use Rattle.demo_work.specs.Asks.{event_of, dump_after, read_behind, more_by, is_passed, lines_in}
use Rattle.demo_work.specs.Plan.{drawn, below, each, Drawn, each_drawn, remove_or_put, edit, edits, opening, closing, dump, clean, sweep, upkeep, day_of, days, plan}
use Rattle.demo_work.specs.Reads.{ready_behind, MayCall, AreRead}
use Rattle.demo_work.specs.Script.{next, no_dump, demo_script}

-- ---- no frame is planned

abbrev ReadsNone : Ask → Type 0
ReadsNone (Q.ReadNext restore) = ⊥
ReadsNone ask = Unit {0}

abbrev ReadNone : List Ask → Type 0
ReadNone [] = Unit {0}
ReadNone (ask ∷ asks) = ReadsNone ask × ReadNone asks

none-append : (xs ys : List Ask) → ReadNone xs → ReadNone ys → ReadNone (xs ++ ys)
none-append [] ys first rest = rest
none-append (x ∷ xs) ys first rest = (first.0, none-append xs ys first.1 rest)

each_none : (part : ℕ → List Ask) → ((n : ℕ) → ReadNone (part n)) → (n : ℕ) → ReadNone (each part n)
unfolding each
each_none part none zero = tt
each_none part none (suc n) = none-append (each part n) (part n) (each_none part none n) (none n)

drawn_none : (part : ℕ → ℕ → Drawn) → ((n state : ℕ) → ReadNone (part n state).0) → (n state : ℕ) → ReadNone (each_drawn part n state).0
unfolding each_drawn
drawn_none part none zero state = tt
drawn_none part none (suc n) state =
    none-append (each_drawn part n state).0 (part n (each_drawn part n state).1).0 (drawn_none part none n state)
    (none n (each_drawn part n state).1)

if_none : (b : Bool) (ask : Ask) → ReadsNone ask → ReadNone (if b then ask ∷ [] else [])
if_none true ask none = (none, tt)
if_none false ask none = tt

choice_none : (dir file choice state : ℕ) → ReadNone (remove_or_put dir file choice state).0
choice_none dir file zero state = (tt, tt)
choice_none dir file (suc choice) state = (tt, tt)

edit_none : (state : ℕ) → ReadNone (edit state).0
unfolding edit
edit_none state =
    choice_none (below 10 (drawn state)) (below 10 (drawn (drawn state))) (below 4 (drawn (drawn (drawn state)))) (drawn (drawn (drawn state)))

edits_none : (state : ℕ) → ReadNone (edits state).0
unfolding edits
edits_none state = drawn_none (λ _ at. edit at) (λ n at. edit_none at) (1 + below 20 (drawn state)) (drawn state)

opening_none : (day host : ℕ) → ReadNone (opening day host)
unfolding opening
opening_none day host = (tt, each_none (λ dir. Q.PutDir dir ∷ []) (λ dir. (tt, tt)) 10)

closing_none : (day host : ℕ) → ReadNone (closing day host)
unfolding closing
closing_none day host = (tt, (tt, tt))

dump_none : (day host state : ℕ) → ReadNone (dump day host state).0
unfolding dump
dump_none day host state =
    none-append (opening day host) ((edits state).0 ++ closing day host) (opening_none day host)
    (none-append (edits state).0 (closing day host) (edits_none state) (closing_none day host))

sweep_none : (day : ℕ) → ReadNone (sweep day)
unfolding sweep
sweep_none day = if_none (day % 7 == 6) Q.Sweep tt

upkeep_none : (day : ℕ) → ReadNone (upkeep day)
unfolding upkeep
upkeep_none day =
    none-append (each (clean day) 16) (sweep day) (each_none (clean day) (λ bucket. if_none (bucket % 4 == day % 4) (Q.Clean bucket) tt) 16)
    (sweep_none day)

day_none : (day state : ℕ) → ReadNone (day_of day state).0
unfolding day_of
day_none day state =
    none-append (each_drawn (dump day) 4 state).0 (upkeep day) (drawn_none (dump day) (dump_none day) 4 state) (upkeep_none day)

days_none : (number : ℕ) → ReadNone (days number).0
unfolding days
days_none number = drawn_none day_of day_none 60 number

plan_none : (number : ℕ) → ReadNone (plan number)
unfolding plan
plan_none number =
    none-append (each (λ host. Q.AddHost host ∷ []) 4) ((days number).0 ++ Q.Stats ∷ each (λ host. Q.Backups host ∷ []) 4)
    (each_none (λ host. Q.AddHost host ∷ []) (λ host. (tt, tt)) 4)
    (none-append (days number).0 (Q.Stats ∷ each (λ host. Q.Backups host ∷ []) 4) (days_none number)
    (tt, each_none (λ host. Q.Backups host ∷ []) (λ host. (tt, tt)) 4))

lines_none : (host : ℕ) (lines : List Line) → ReadNone (map (λ line. Q.OpenRead host line.number) lines)
lines_none host [] = tt
lines_none host (line ∷ lines) = (tt, lines_none host lines)

-- ---- what is left to ask

-- of the frames the next one alone, and that of the restore that is ready
abbrev IsReady : Option SessionName → Ask → Type 0
IsReady ready (Q.ReadNext restore) = ready ≡ Some restore
IsReady ready ask = Unit {0}

abbrev AreReady : Option SessionName → List Ask → Type 0
AreReady ready [] = Unit {0}
AreReady ready (ask ∷ asks) = IsReady ready ask × ReadNone asks

none_ready : (ready : Option SessionName) (ask : Ask) → ReadsNone ask → IsReady ready ask
none_ready ready (Q.ReadNext restore) none = absurd none
none_ready ready ask none = tt

rest_ready : (ready : Option SessionName) (asks : List Ask) → ReadNone asks → AreReady ready asks
rest_ready ready [] none = tt
rest_ready ready (ask ∷ asks) none = (none_ready ready ask none.0, none.1)

may_ask : (ready : Option SessionName) (dump : SessionName) (ask : Ask) → IsReady ready ask → MayCall ready (event_of dump ask)
may_ask ready dump (Q.ReadNext restore) is = is
may_ask ready dump (Q.OpenRead host number) is = refl
may_ask ready dump ask is = tt

frame_ready : (restore : SessionName) (frame : Frame) (asks : List Ask) → ReadNone asks
    → AreReady (Some restore) (read_behind restore frame ∷ asks)
frame_ready restore (T.Deleted path) asks none = (refl, none)
frame_ready restore (T.Entry path node) asks none = (refl, none)
frame_ready restore (T.Piece bytes) asks none = (refl, none)
frame_ready restore (T.End count) asks none = (tt, none)

-- an ask that brings nothing on
plain_ready : (ready : Option SessionName) (ask : Ask) (reply : Reply) (asks : List Ask) → ((answer : Answer) → more_by ask (Ok answer) ≡ [])
    → ReadNone asks → AreReady ready (more_by ask reply ++ asks)
plain_ready ready ask (Ok answer) asks nothing none =
    subst (λ (more : List Ask). AreReady ready (more ++ asks)) (sym (nothing answer)) (rest_ready ready asks none)
plain_ready ready ask (Err refusal) asks nothing none = rest_ready ready asks none

more_ready : (dump : SessionName) (ask : Ask) (reply : Reply) (asks : List Ask) → ReadNone asks
    → AreReady (ready_behind (event_of dump ask, reply)) (more_by ask reply ++ asks)
more_ready dump (Q.ReadNext restore) (Ok (A.Next frame)) asks none = frame_ready restore frame asks none
more_ready dump (Q.ReadNext restore) (Ok answer) asks none = rest_ready _ asks none
more_ready dump (Q.ReadNext restore) (Err refusal) asks none = rest_ready _ asks none
more_ready dump (Q.OpenRead host number) (Ok (A.Restore restore)) asks none = (refl, none)
more_ready dump (Q.OpenRead host number) (Ok answer) asks none = rest_ready _ asks none
more_ready dump (Q.OpenRead host number) (Err refusal) asks none = rest_ready _ asks none
more_ready dump (Q.Backups host) (Ok answer) asks none =
    rest_ready _ (map (λ line. Q.OpenRead host line.number) (lines_in answer) ++ asks)
    (none-append (map (λ line. Q.OpenRead host line.number) (lines_in answer)) asks (lines_none host (lines_in answer)) none)
more_ready dump (Q.Backups host) (Err refusal) asks none = rest_ready _ asks none
more_ready dump ask reply asks none = plain_ready _ ask reply asks (λ answer. refl) none

-- ---- scripts

follows_behind : (script : Script) (call : Call) (made calls : List Call) → FollowsAfter script (call ∷ made) calls
    → FollowsAfter (behind call script) made calls
follows_behind script call made [] follows = follows
follows_behind script call made (more ∷ calls) follows = (follows.0, follows_behind script call (made ++ more ∷ []) calls follows.1)

if_passed : (passed : Bool) (script : Script) (ready : Option SessionName) (calls : List Call)
    → Follows (λ made. if passed then script made else None) calls → (Follows script calls → AreRead ready calls) → AreRead ready calls
if_passed true script ready calls follows reads = reads follows
if_passed false script ready [] follows reads = tt
if_passed false script ready (call ∷ calls) follows reads = let no : ⊥ = cc (follows.0) in absurd no

none_reads : (ready : Option SessionName) (calls : List Call) → Follows (λ made. None) calls → AreRead ready calls
none_reads ready [] follows = tt
none_reads ready (call ∷ calls) follows = let no : ⊥ = cc (follows.0) in absurd no

asks_read : (dump : SessionName) (asks : List Ask) (ready : Option SessionName) (calls : List Call) → Follows (next dump asks) calls
    → AreReady ready asks → AreRead ready calls
asks_read dump asks ready [] follows is = tt
asks_read dump [] ready (call ∷ calls) follows is = let no : ⊥ = cc (follows.0) in absurd no
asks_read dump (ask ∷ asks) ready (call ∷ calls) follows is =
    let asked : event_of dump ask ≡ call.0 = cc (follows.0) in (
      subst (MayCall ready) asked (may_ask ready dump ask is.0),
      if_passed (is_passed call.0 call.1) (next (dump_after dump call.1) (more_by ask call.1 ++ asks)) (ready_behind call) calls
          (follows_behind (next dump (ask ∷ asks)) call [] calls follows.1)
          (λ more. asks_read (dump_after dump call.1) (more_by ask call.1 ++ asks) (ready_behind call) calls more
          (subst (λ (event : Event). AreReady (ready_behind (event, call.1)) (more_by ask call.1 ++ asks)) asked
          (more_ready dump ask call.1 asks is.1))),
    )

pub demo_reads : (number : ℕ) (calls : List Call) → Follows (demo_script number) calls → AreRead None calls
demo_reads number [] follows = tt
demo_reads number ((asked, Ok (A.Hosts [])) ∷ calls) follows =
    let is : E.Hosts ≡ asked = cc (follows.0) in (
      subst (MayCall None) is tt,
      subst (λ (event : Event). AreRead (ready_behind (event, Ok (A.Hosts []))) calls) is
          (asks_read no_dump (plan number) None calls
          (follows_behind (demo_script number) (asked, Ok (A.Hosts [])) [] calls follows.1)
          (rest_ready None (plan number) (plan_none number))),
    )
demo_reads number (call ∷ calls) follows =
    let is : E.Hosts ≡ call.0 = cc (follows.0) in (
      subst (MayCall None) is tt,
      none_reads (ready_behind call) calls (follows_behind (demo_script number) call [] calls follows.1),
    )
