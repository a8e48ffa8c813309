-- A run of `pull`, from what the layers below it say.
--     does_pull, pull_complete
use Rattle.std.specs.Prelude.{◌||◌}
use Rattle.std.proofs.Common.{◌≡◌, ℕ, ◌-◌, ◌^◌, ◌<◌, ◌≤◌, Bool, true, false, List, [], ◌∷◌, length, Option, Some, refl, sym, ap, ◌∙◌, subst, inl, inr, arith}
use Rattle.fault_counts.specs.Counts.{Rose, Counted}
use Rattle.attr_records.specs.Names.{is_host_name}
use Rattle.disk_trait.specs.declared.disk.Disk.{Ghosts as DiskGhosts}
use Rattle.pool_name.specs.declared.namer.Namer.{Ghosts as NamerGhosts}
use Rattle.pool_changes.specs.Kept.{slots_of}
use Rattle.pool_store.specs.Opening.{AreThePoolFiles}
use Rattle.office_model.specs.Office.{Office, Durable, Names, reopened}
use Rattle.office_model.specs.Step.{Call}
use Rattle.store_opening.specs.Opens.{IsOf, Opened}
use Rattle.store_opening.specs.Settles.{ComesToOne}
use Rattle.store_opening.specs.KeptTables.{HasTablesFound}
use Rattle.journal_view.specs.View.{FindsNow}
use Rattle.serve_workers.specs.Stores.{Store, DirectPort, Moves, is_stopped}
use Rattle.stream_traits.specs.Seen.{LinkSeen}
use Rattle.stream_traits.specs.Told.{before}
use Rattle.call_scripts.specs.Moments.{Gave}
use Rattle.settings_file.specs.declared.read.Settings.{Settings}
use Rattle.settings_file.specs.Document.{IsSettings}
use Rattle.pull_work.specs.declared.plan.Plan.{Plan}
use Rattle.pull_work.specs.declared.ends.PullEnd.{PullEnd}
use Rattle.pull_work.specs.declared.ends.PullEnd.TheVariants as E
use Rattle.pull_work.specs.Steps.{calls_in, AreTold}
use Rattle.pull_work.specs.Script.{Asking, Over}
use Rattle.pull_work.specs.Runs.{Goes, Taken, AreTurns, steps_of}
use Rattle.replica_talks.specs.Peers.{Talks}
use Rattle.replica_talks.proofs.Refusals.{refusals_said}
use Rattle.command_line.specs.Line.{Line, Pull}
use Rattle.admin_cli.specs.declared.note.Note.{Note}
use Rattle.admin_cli.specs.declared.note.Note.TheVariants as N
use Rattle.admin_cli.specs.Command.{AsksFor}
use Rattle.admin_cli.specs.Pulls.{note_of_pull, plan_of, HasPullCause, IsBehindWire, DoesPull}
use Rattle.admin_cli.specs.Folders.{IsCauseAtWork}
use Rattle.admin_cli.specs.Replicated.{HearsPeer}
use Rattle.admin_cli.specs.Run.{IsServed, IsComplete}
use Rattle.admin_cli.proofs.ReplicaLaws.{makes_replica}
use Rattle.admin_cli.proofs.PullForeign.{pull_names}
use Rattle.admin_cli.proofs.PullCalls.{EndedBy, pull_ended, pull_others}
use Rattle.admin_cli.proofs.PullStops.{pull_stops}
use Rattle.admin_cli.proofs.EndLaws.{rule_ends, call_ends}
use Rattle.admin_cli.proofs.FolderStops.{wider}
use Rattle.admin_cli.proofs.CauseLaws.{pull_fails}
use Rattle.admin_cli.proofs.RunLaws.{is_served, leads, EndsWell}

-- ---- what is seen of a link

abbrev seen : (left written sent : Option (List ℕ)) (faults : ℕ) → LinkSeen
seen left written sent faults = record { left = left; written = written; sent = sent; faults = faults }

pub same_seen : (a b : LinkSeen) → a.left ≡ b.left → a.written ≡ b.written → a.sent ≡ b.sent → a.faults ≡ b.faults → a ≡ b
same_seen a b left written sent faults =
    ap (λ (told : Option (List ℕ)). seen told a.written a.sent a.faults) left
    ∙ (ap (λ (told : Option (List ℕ)). seen b.left told a.sent a.faults) written
    ∙ (ap (λ (told : Option (List ℕ)). seen b.left b.written told a.faults) sent
    ∙ ap (λ (count : ℕ). seen b.left b.written b.sent count) faults))

pub behind_wire : (ahead : List ℕ) (left : Option (List ℕ)) (wire link : LinkSeen) → length ahead ≤ 49152 → wire.left ≡ before ahead left
    → left ≡ link.left → link.written ≡ wire.written → link.sent ≡ wire.sent → link.faults ≡ wire.faults → IsBehindWire wire link
behind_wire ahead left wire link few left_is same written sent faults = record {
  ahead = ahead;
  few = few;
  left = left_is ∙ ap (before ahead) same;
  written = written;
  sent = sent;
  faults = faults;
}

-- ---- the other server

abbrev talks_of : (host : List ℕ) (read : Settings) (start : ℕ) (first : Office) (names : Names) (turns : List Taken) (end : PullEnd)
    (link link' wire' : LinkSeen) → is_host_name host ≡ true → AreTurns (plan_of host read start) Asking turns (Over end)
    → AreTold host link wire' (steps_of turns) → IsBehindWire wire' link' → (hears : HearsPeer link link' first names)
    → Talks (plan_of host read start) first names turns (Over end) link wire' hears.input hears.wrote
talks_of host read start first names turns end link link' wire' named are told behind hears = record {
  named = named;
  are = are;
  told = told;
  left = hears.came;
  before = hears.before;
  written = hears.written;
  wrote_is = sym behind.written ∙ hears.written_now;
  peer = hears.peer;
}

-- ---- a run that opened its store

has_cause : {D : Type 0} (d : DiskGhosts D) (digest_of : List ℕ → List ℕ) (disk disk' : D) (calls : List Call) (halted : Bool)
    (a b : Durable) (end : PullEnd) → EndedBy end calls → IsServed d digest_of disk disk' calls halted a b
    → HasPullCause end (d.fault_count disk) (d.fault_count disk')
has_cause d digest_of disk disk' calls halted a b (E.Refused refusal) ended served =
    wider refusal (d.fault_count disk) served.opening (d.fault_count disk') (d.fault_count disk') served.since (omega arith)
    (subst (λ (k : ℕ). IsCauseAtWork refusal served.opening k) (sym served.history.faults_is)
    (pull_stops (reopened served.office) served.names served.opening served.history.entries ended.before ended.behind ended.event refusal
    served.history.legal (sym served.history.calls_are ∙ ended.parts) ended.passed))
has_cause d digest_of disk disk' calls halted a b (E.Done count) ended served = tt
has_cause d digest_of disk disk' calls halted a b (E.PeerRefused status) ended served = tt
has_cause d digest_of disk disk' calls halted a b E.PeerForeign ended served = tt
has_cause d digest_of disk disk' calls halted a b E.LinkFault ended served = tt
has_cause d digest_of disk disk' calls halted a b E.Memory ended served = tt

module _ {D N S : Type 0} {d : DiskGhosts D} {n : NamerGhosts N S} (disk : D) (store store' : Store D N S d n)
    (settles : (a b : Durable) → IsOf n.digest_of (d.files disk) (d.uncertain disk) a b
    → (o : Opened a b store.parts) × ComesToOne d n.digest_of disk store.parts.journal.disk a b o.office
    × FindsNow store.parts.journal (HasTablesFound (d.files disk) (d.uncertain disk)))
    (calm : d.fault_count store.parts.journal.disk ≡ d.fault_count disk)
    (listed : AreThePoolFiles (d.files disk) (slots_of store.parts.pool.names))
    (ready : is_stopped store.parts ≡ false) where
  pub does_pull : (host copy from : List ℕ) (line : Option Line) (settings : List ℕ) (read : Settings) (start : ℕ) (plan : Plan)
      (port port' : DirectPort D N S d n) (link link' wire wire' : LinkSeen) (moments moments' : Option (List ℕ)) (end : PullEnd)
      (disk' : D) (halted : Bool) (note : Note)
      → AsksFor (Pull host from) line → IsSettings settings read → Gave moments (start ∷ []) moments'
      → (copy ≡ host) × (is_host_name copy ≡ true)
      → plan ≡ plan_of copy read start → port.store ≡ store
      → Goes (λ (p : DirectPort D N S d n) calls (q : DirectPort D N S d n). Moves p.store calls q.store) plan port port' wire wire' Asking
      (Over end)
      → Counted wire.faults wire'.faults (end ≡ E.LinkFault) → wire ≡ link → IsBehindWire wire' link'
      → store' ≡ port'.store → disk' ≡ store'.parts.journal.disk → halted ≡ (store'.parts.halted || store'.parts.journal.halted)
      → note ≡ note_of_pull plan.host end halted
      → DoesPull d n.digest_of disk disk' line settings link link' moments moments' note
  does_pull host copy from line settings read start plan port port' link link' wire wire' moments moments' end disk' halted note
      asked is_read clock same made_is port_is goes_by counted_by wire_is behind store_is disk_is halted_is note_by =
      let plan_is : plan ≡ plan_of host read start = made_is ∙ ap (λ (h : List ℕ). plan_of h read start) same.0 in
      let named : is_host_name host ≡ true = ap is_host_name (sym same.0) ∙ same.1 in
      let note_is : note ≡ note_of_pull host end halted = subst (λ (p : Plan). note ≡ note_of_pull p.host end halted) plan_is note_by in
      let goes : Goes (λ (p : DirectPort D N S d n) calls (q : DirectPort D N S d n). Moves p.store calls q.store) (plan_of host read start)
      port port' link wire' Asking (Over end) =
      subst (λ (made : Plan). Goes (λ (p : DirectPort D N S d n) calls (q : DirectPort D N S d n). Moves p.store calls q.store) made
      port port' link wire' Asking (Over end)) plan_is
      (subst (λ (told : LinkSeen). Goes (λ (p : DirectPort D N S d n) calls (q : DirectPort D N S d n). Moves p.store calls q.store) plan
      port port' told wire' Asking (Over end)) wire_is goes_by) in
      let moved : Moves store (calls_in (steps_of goes.turns)) store' =
      subst (λ q. Moves store (calls_in (steps_of goes.turns)) q) (sym store_is)
      (subst (λ p. Moves p (calls_in (steps_of goes.turns)) port'.store) port_is goes.moved) in
      let ended : EndedBy end (calls_in (steps_of goes.turns)) = pull_ended (plan_of host read start) end goes.turns goes.are in
      let on_link : Counted link.faults wire'.faults (end ≡ E.LinkFault) =
      subst (λ (told : LinkSeen). Counted told.faults wire'.faults (end ≡ E.LinkFault)) wire_is counted_by in
      rw (note_is, disk_is, halted_is) (record {
        host = host;
        from = from;
        asked = asked;
        read = read;
        is_read = is_read;
        start = start;
        clock = clock;
        end = end;
        halted = store'.parts.halted || store'.parts.journal.halted;
        wire = wire';
        goes = record {
          turns = goes.turns;
          are = goes.are;
          moved = leads disk store store' settles calm listed ready (calls_in (steps_of goes.turns)) moved;
          told = goes.told;
        };
        behind = behind;
        counted = subst (λ (k : ℕ). Counted link.faults k (end ≡ E.LinkFault)) (sym behind.faults) on_link;
        cause = λ a b stands.
            let served = is_served disk store store' settles calm listed ready (calls_in (steps_of goes.turns)) moved a b stands in (
              has_cause d n.digest_of disk store'.parts.journal.disk (calls_in (steps_of goes.turns)) _ a b end ended served,
              served.rose,
            );
        later = omega (arith, calm, moved.later);
        foreign = λ file named.
            pull_names store store' (plan_of host read start) host end goes.turns (store'.parts.halted || store'.parts.journal.halted) file
            goes.are moved named;
        stops = λ is.
            pull_fails d n.digest_of disk store'.parts.journal.disk (store'.parts.halted || store'.parts.journal.halted)
            (calls_in (steps_of goes.turns))
            (leads disk store store' settles calm listed ready (calls_in (steps_of goes.turns)) moved)
            (pull_others (plan_of host read start) Asking (Over end) goes.turns goes.are) host end ended is;
        replica = λ a b first names stands hears.
            makes_replica d n.digest_of disk store'.parts.journal.disk (plan_of host read start) goes.turns end
            (store'.parts.halted || store'.parts.journal.halted) a b first names
            (is_served disk store store' settles calm listed ready (calls_in (steps_of goes.turns)) moved a b stands)
            link wire' hears.input hears.wrote
            (talks_of host read start first names goes.turns end link link' wire' named goes.are goes.told behind hears);
        refused = λ first names status hears is.
            refusals_said (plan_of host read start) first names goes.turns (Over end) link wire' hears.input hears.wrote
            (talks_of host read start first names goes.turns end link link' wire' named goes.are goes.told behind hears) status
            (ap (λ (e : PullEnd). Some e) is);
        note_is = refl;
      })

-- ---- how it ends

module _ {D : Type 0} (d : DiskGhosts D) (digest_of : List ℕ → List ℕ) (disk disk' : D) (linked linked' : ℕ) (note : Note) where
  pull_ends : (a b : Durable) (host : List ℕ) (end : PullEnd) (halted : Bool) → (end ≡ E.LinkFault → Rose linked linked')
      → HasPullCause end (d.fault_count disk) (d.fault_count disk') → (halted ≡ true → Rose (d.fault_count disk) (d.fault_count disk'))
      → d.fault_count disk < 2 ^ 64 - 1 → d.fault_count disk' ≡ d.fault_count disk → linked < 2 ^ 64 - 1 → linked' ≡ linked
      → EndsWell d digest_of disk disk' linked linked' note (note_of_pull host end halted) a b
  pull_ends a b host (E.Done count) halted failed cause stopped m same l same_link =
      rule_ends d digest_of disk disk' linked linked' note a b m same l same_link (N.Pulled host count) halted (inl refl) stopped
  pull_ends a b host (E.Refused refusal) halted failed cause stopped m same l same_link =
      call_ends d digest_of disk disk' linked linked' note a b m same l same_link refusal halted cause stopped
  pull_ends a b host (E.PeerRefused status) halted failed cause stopped m same l same_link =
      rule_ends d digest_of disk disk' linked linked' note a b m same l same_link (N.PeerRefused status) halted (inr (inl refl)) stopped
  pull_ends a b host E.PeerForeign halted failed cause stopped m same l same_link =
      rule_ends d digest_of disk disk' linked linked' note a b m same l same_link N.PeerForeign halted (inr (inl refl)) stopped
  pull_ends a b host E.LinkFault halted failed cause stopped m same l same_link =
      let rose : Rose linked linked' = failed refl in absurd (omega (arith, rose, l, same_link))
  pull_ends a b host E.Memory halted failed cause stopped m same l same_link = inr (inr (inl refl))

  pub pull_complete : (doors doors' : List ℕ) (entered entered' : ℕ) (line : Option Line) (settings : List ℕ) (link link' : LinkSeen)
      (moments moments' : Option (List ℕ)) → DoesPull d digest_of disk disk' line settings link link' moments moments' note
      → link.faults ≡ linked → link'.faults ≡ linked'
      → IsComplete d digest_of disk disk' line settings linked linked' doors doors' entered entered' note
  pull_complete doors doors' entered entered' line settings link link' moments moments' s is is' =
      λ a b stands said file m same l same_link calm g same_folder.
      subst (λ (told : Note). EndsWell d digest_of disk disk' linked linked' note told a b) (sym s.note_is)
      (pull_ends a b s.host s.end s.halted
      (λ e. subst (λ (k : ℕ). Rose k linked') is (subst (λ (k : ℕ). Rose link.faults k) is' (s.counted.rose e)))
      (s.cause a b stands).0 (s.cause a b stands).1 m same l same_link)
