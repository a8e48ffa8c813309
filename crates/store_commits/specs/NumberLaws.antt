-- The line as which an open dump ends: with its host's next number, or with a number of its own.
--     ends_now, free_now, runs_unnumbered, heeds_now      a commit, which takes the host's next number
--     ends_there, free_there, runs_number_behind      an adoption, whose number is its own
--     heeds_refused      a refusal before any file is read
use Rattle.std.specs.Prelude.{◌≡◌, ℕ, ◌<◌, ◌≤◌, Bool, true, false, not, ◌&&◌, List, length, Option, Some, Ok, Err, nat_lt, slice_get}
use Rattle.std.proofs.Common.{refl, sym, ap, ◌∙◌, subst, inl, inr, arith}
use Rattle.std.proofs.lemmas.Bool.{le-leb, lt-leb, lt-ltb}
use Rattle.disk_trait.specs.declared.ids.FileId.{FileId}
use Rattle.disk_trait.specs.declared.disk.Disk.{Ghosts as DiskGhosts}
use Rattle.pool_name.specs.declared.namer.Namer.{Ghosts as NamerGhosts}
use Rattle.journal_view.specs.View.{told}
use Rattle.journal_view.specs.ViewLaws.{Quiet-still}
use Rattle.backup_rules.specs.declared.lines.Kind.{Kind}
use Rattle.backup_rules.specs.declared.lines.Line.{Line}
use Rattle.backup_index.specs.Index.{Index}
use Rattle.open_sessions.specs.declared.sessions.OpenDump.{OpenDump}
use Rattle.receipts.specs.declared.session.SessionName.{SessionName}
use Rattle.office_catalog.specs.Known.{Known}
use Rattle.office_model.specs.declared.answer.Answer.{Answer}
use Rattle.office_model.specs.declared.event.Event.TheVariants.{Commit, Adopt}
use Rattle.office_model.specs.declared.refusal.BrokenRule.{BrokenRule}
use Rattle.office_model.specs.declared.refusal.BrokenRule.TheVariants.{NoSession, NumberBehind}
use Rattle.office_model.specs.declared.refusal.Refusal.{Refusal}
use Rattle.office_model.specs.declared.refusal.Refusal.TheVariants as R
use Rattle.office_model.specs.Meaning.{Judged, Reply, ◌>>◌, breaks}
use Rattle.office_model.specs.Office.{Office, Host, Dump, Names, dump_index, number_limit}
use Rattle.office_model.specs.Parts.{dump_at}
use Rattle.office_model.specs.Repeats.{again}
use Rattle.office_model.specs.laws.Judging.{at_found}
use Rattle.office_model.specs.events.Commit as CommitEvent
use Rattle.office_model.specs.events.Adopt.{adopted_line, as_there}
use Rattle.office_files.specs.Hosts.{index_of_host}
use Rattle.store_parts.specs.declared.parts.StoreParts.{StoreParts}
use Rattle.store_parts.specs.States.{IsRunning}
use Rattle.store_parts.specs.Runs.{Runs}
use Rattle.store_parts.specs.RefusedLaws.{runs_broken}
use Rattle.store_commits.specs.Judged.{line_now, IsLineNow, IsFree, IsThere}
use Rattle.store_commits.specs.Tables.{AreThere, IsLost, IsHeededBy, Heeds, place_of, IsLeft, IsTableForName, IsParkedForName, HeedsEnding, HeedsTables, HeedsAdopted}
use Rattle.store_commits.specs.PlanLaws.{one_there, broken_heeds}
use Rattle.store_commits.specs.Committing.{EndsAs, IsMeant}
use Rattle.store_commits.specs.CommittingLaws.{meant}
use Rattle.store_commits.specs.ReadyLaws.{index_there}
use Rattle.store_commits.specs.EventLaws.{place_is}
use Rattle.store_commits.specs.HoldLaws.{open_repeats_none}
use Rattle.store_commits.specs.HeedLaws.{heeds_not_planned}

some_same : {A : Type 0} (x y : A) → Some x ≡ Some y → x ≡ y
some_same x y e = cc

-- ---- lines

new_line_is : (index : Index) (session : OpenDump) (now : ℕ) (host : Host) (dump : Dump) → index.next ≡ host.next → session.start ≡ dump.start
    → session.kind ≡ dump.kind → line_now index session now ≡ CommitEvent.new_line host dump now
new_line_is index session now host dump next start kind =
    λ i. record { number = next i; start = start i; end = now; kind = kind i; filled = true; keep = false }

-- by whether its number is free
abbrev judged_by : Line → Bool → Judged Line
judged_by line free = breaks NumberBehind (not free) >> Ok line

free_line : (line : Line) (host : Host) (dump : Dump) → host.next ≤ line.number → line.number < number_limit → as_there line host dump ≡ Ok line
free_line line host dump free small =
    λ i. judged_by line (le-leb host.next line.number free i && lt-ltb line.number number_limit small i)

behind_line : (line : Line) (host : Host) (dump : Dump) → line.number < host.next → as_there line host dump ≡ Err NumberBehind
behind_line line host dump behind =
    λ i. judged_by line (lt-leb host.next line.number behind i && nat_lt line.number number_limit)

abbrev adopting : ℕ → ℕ → ℕ → Kind → CommitEvent.Ending
adopting number start end kind = as_there (adopted_line number start end kind)

module _ {D N S : Type 0} {d : DiskGhosts D} {n : NamerGhosts N S} where
  module _ (old : StoreParts D N S d n) (place : ℕ) (session : OpenDump) (there : slice_get old.sessions.dumps.items place ≡ Some session) where
    -- the index of the host of what stands at the place
    one_index : (s : OpenDump) (index other : Index) → slice_get old.sessions.dumps.items place ≡ Some s
        → slice_get old.catalog.hosts s.host ≡ Some index → slice_get old.catalog.hosts session.host ≡ Some other → index ≡ other
    one_index s index other e here is =
        let same : s ≡ session = one_there old.sessions.dumps.items place s session e there in
        one_there old.catalog.hosts session.host index other
        (subst (λ (s : OpenDump). slice_get old.catalog.hosts s.host ≡ Some index) same here) is

    pub free_now : (now : ℕ) (line : Line) → IsLineNow old.catalog.hosts session now line → (s : OpenDump)
        → slice_get old.sessions.dumps.items place ≡ Some s → (index : Index) → slice_get old.catalog.hosts s.host ≡ Some index
        → index.next ≤ line.number
    free_now now line is s e index here =
        omega (arith, ap (λ (i : Index). i.next) (one_index s index is.index e here is.here), ap (λ (l : Line). l.number) is.is)

    pub free_there : (number : ℕ) → IsThere old.catalog.hosts session number → (s : OpenDump)
        → slice_get old.sessions.dumps.items place ≡ Some s → (index : Index) → slice_get old.catalog.hosts s.host ≡ Some index
        → index.next ≤ number
    free_there number is s e index here =
        omega (arith, ap (λ (i : Index). i.next) (one_index s index is.index e here is.here), is.free)

    module _ (name : SessionName) (found : Some place ≡ place_of old.sessions.dumps.items name) where
      pub ends_now : (now : ℕ) (line : Line) → IsLineNow old.catalog.hosts session now line → EndsAs old (Commit name now) name place line
      ends_now now line is = record {
        ending = CommitEvent.at_time now;
        means = refl;
        found = found;
        gives = λ s index e here host dump next start kind.
            let same : s ≡ session = one_there old.sessions.dumps.items place s session e there in
            let one : index ≡ is.index = one_index s index is.index e here is.here in
            ap (λ (l : Line). Ok l)
            (sym (is.is ∙ (λ i. line_now (sym one i) (sym same i) now) ∙ new_line_is index s now host dump next start kind));
      }

      pub ends_there : (number start end : ℕ) (kind : Kind) → number < number_limit → IsThere old.catalog.hosts session number
          → EndsAs old (Adopt name number start end kind) name place (adopted_line number start end kind)
      ends_there number start end kind small is = record {
        ending = as_there (adopted_line number start end kind);
        means = refl;
        found = found;
        gives = λ s index e here host dump next began of_kind.
            free_line (adopted_line number start end kind) host dump
            (let low = free_there number is s e index here in omega (arith, next, low)) small;
      }

      index_here : (office : Office) (names : Names) (at : IsRunning old office names) (m : IsMeant old place session office names at)
          → slice_get old.catalog.hosts session.host ≡ Some (index_of_host m.dump.host m.host)
      index_here office names at m =
          ap (slice_get old.catalog.hosts) m.is.host ∙ ap (λ (k : Known). slice_get k.hosts m.dump.host) at.catalog_is
          ∙ index_there office.hosts m.dump.host m.host m.here

      -- a host in memory has a number left
      pub runs_unnumbered : (now : ℕ) (rule : BrokenRule)
          → ((index : Index) → slice_get old.catalog.hosts session.host ≡ Some index → index.next < 4294967296 → ⊥)
          → Runs old (Commit name now) (Err (R.Broken rule)) old
      runs_unnumbered now rule none =
          runs_broken old (Commit name now) rule (λ office names at. absurd (no_number office names at (meant old place session office names at there)))
        where
          no_number : (office : Office) (names : Names) (at : IsRunning old office names) → IsMeant old place session office names at → ⊥
          no_number office names at m = none (index_of_host m.dump.host m.host) (index_here office names at m) m.number

      -- the number is below the host's next one
      pub runs_number_behind : (number start end : ℕ) (kind : Kind) (rule : BrokenRule)
          → ((index : Index) → slice_get old.catalog.hosts session.host ≡ Some index → (number < index.next) × (rule ≡ NumberBehind))
          → Runs old (Adopt name number start end kind) (Err (R.Broken rule)) old
      runs_number_behind number start end kind rule behind =
          runs_broken old (Adopt name number start end kind) rule
          (λ office names at. broken office names at (meant old place session office names at there))
        where
          broken : (office : Office) (names : Names) (at : IsRunning old office names) → IsMeant old place session office names at
              → CommitEvent.carried name (adopting number start end kind) office ≡ Err rule
          broken office names at m =
              let is = behind (index_of_host m.dump.host m.host) (index_here office names at m) in
              let at_place = place_is old name (Some place) found office names at in
              let is_at : dump_at office.dumps name ≡ Ok (record { index = place; value = m.dump }) =
              at_found NoSession office.dumps (dump_index office.dumps name) place m.dump at_place m.there in
              let refused : adopting number start end kind m.host m.dump ≡ Err NumberBehind = behind_line (adopted_line number start end kind) m.host m.dump is.0 in
              let ended : CommitEvent.ended name (adopting number start end kind) office ≡ Err NumberBehind = rw (is_at, m.here, refused) refl in
              ap (λ (repeated : Option Answer). again office repeated (CommitEvent.ended name (adopting number start end kind) office))
              (open_repeats_none name office place at_place) ∙ ended ∙ ap (λ (r : BrokenRule). Err r) (sym is.1)

      -- ---- the table and the partial that are called for

      pub heeds_refused : (Takes : ℕ → Type 0) (rule : BrokenRule) → place < length old.sessions.dumps.items
          → ((index : Index) → slice_get old.catalog.hosts session.host ≡ Some index → Takes index.next → ⊥)
          → HeedsEnding Takes old name (Err (R.Broken rule)) old
      heeds_refused Takes rule within none =
          heeds_not_planned Takes old name place found within old (R.Broken rule) (Quiet-still old.journal) refl
          (broken_heeds Takes old place session there none)

      -- the host's next number goes with both
      module _ (index : Index) (here : slice_get old.catalog.hosts session.host ≡ Some index) where
        module _ (Takes Other : ℕ → Type 0) (other : Other index.next) where
          takes_other : (p : ℕ) (s : OpenDump) (i : Index) → Some p ≡ place_of old.sessions.dumps.items name
              → slice_get old.sessions.dumps.items p ≡ Some s → slice_get old.catalog.hosts s.host ≡ Some i → Other i.next
          takes_other p s i at e is =
              let same : p ≡ place = some_same p place (at ∙ sym found) in
              subst (λ (i : Index). Other i.next)
              (sym (one_index s i index (subst (λ (p : ℕ). slice_get old.sessions.dumps.items p ≡ Some s) same e) is here)) other

          table_by : (file : FileId) → IsTableForName Takes old name file → IsTableForName Other old name file
          table_by file called = record {
            place = called.place;
            session = called.session;
            found = called.found;
            there = called.there;
            calls = record {
              index = called.calls.index;
              here = called.calls.here;
              takes = takes_other called.place called.session called.calls.index called.found called.there called.calls.here;
              is = called.calls.is;
            };
          }

          parked_by : (host : ℕ) → IsParkedForName Takes old name host → IsParkedForName Other old name host
          parked_by host called = record {
            place = called.place;
            session = called.session;
            found = called.found;
            there = called.there;
            calls = record {
              index = called.calls.index;
              here = called.calls.here;
              takes = takes_other called.place called.session called.calls.index called.found called.there called.calls.here;
              is = called.calls.is;
            };
          }

        module _ (Takes Other : ℕ → Type 0) (takes : Takes index.next) (other : Other index.next) where
          there_by : AreThere (told old.journal) (IsTableForName Takes old name) (IsParkedForName Takes old name)
              → AreThere (told old.journal) (IsTableForName Other old name) (IsParkedForName Other old name)
          there_by are = record {
            tables = λ all file is called. are.tables all file is (table_by Other Takes takes file called);
            partial = λ all host is called. are.partial all host is (parked_by Other Takes takes host called);
          }

          lost_by : (file : FileId) (bytes : Option (List ℕ))
              → IsLost (told old.journal) (IsTableForName Takes old name) (IsParkedForName Takes old name) file bytes
              → IsLost (told old.journal) (IsTableForName Other old name) (IsParkedForName Other old name) file bytes
          lost_by file bytes (inl lost) = inl (table_by Takes Other other file lost.0, lost.1)
          lost_by file bytes (inr lost) = inr (lost.0, parked_by Takes Other other lost.0 lost.1, lost.2)

          refused_by : (refusal : Refusal) → IsHeededBy (told old.journal) (IsTableForName Takes old name) (IsParkedForName Takes old name) refusal
              → IsHeededBy (told old.journal) (IsTableForName Other old name) (IsParkedForName Other old name) refusal
          refused_by (R.Broken rule) heeds = there_by heeds
          refused_by (R.Damaged file bytes) heeds = lost_by file bytes heeds
          refused_by R.DiskFault heeds = tt
          refused_by R.Memory heeds = tt
          refused_by R.Halted heeds = absurd heeds

          reply_by : (reply : Reply) → Heeds (told old.journal) (IsTableForName Takes old name) (IsParkedForName Takes old name) reply
              → Heeds (told old.journal) (IsTableForName Other old name) (IsParkedForName Other old name) reply
          reply_by (Ok answer) heeds = there_by heeds
          reply_by (Err refusal) heeds = refused_by refusal heeds

          heeds_by : (reply : Reply) (new : StoreParts D N S d n) → HeedsEnding Takes old name reply new → HeedsEnding Other old name reply new
          heeds_by reply new heeds = record {
            tables = reply_by reply heeds.tables;
            undone = heeds.undone;
            again = heeds.again;
          }

      pub heeds_now : (now : ℕ) (line : Line) → IsLineNow old.catalog.hosts session now line → (reply : Reply) (new : StoreParts D N S d n)
          → HeedsAdopted line.number old name reply new → HeedsTables old name reply new
      heeds_now now line is reply new heeds =
          heeds_by is.index is.here (λ next. IsFree next line.number) IsLeft
          (free_now now line is session there is.index is.here) is.number reply new heeds
