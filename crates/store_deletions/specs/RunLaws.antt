-- A deletion of backups as an event of a store at work.
--     changes_planned, fits_planned      what a plan changes may be written, and made
--     IsFinished      the parts behind accept
--     runs_unplanned, runs_not_written, runs_shortened      the event's answer at each step
--     runs_still      nothing is to be done
use Rattle.std.specs.Prelude.{◌≡◌, ◌⊎◌, ◌<◌, ℕ, Bool, true, false, List, [], ◌∷◌, length, Option, Some, None, Ok, Err, IsErrOf, slice_get, slice_set, if◌then◌else◌}
use Rattle.std.proofs.Common.{refl, sym, ap, ◌∙◌, subst, inl, inr}
use Rattle.std.proofs.lemmas.Bool.{true≢false}
use Rattle.fault_counts.specs.Counts.{Counted}
use Rattle.disk_trait.specs.declared.ids.FileId.{FileId}
use Rattle.disk_trait.specs.declared.ids.FileId.TheVariants as F
use Rattle.disk_trait.specs.declared.disk.Disk.{Ghosts as DiskGhosts}
use Rattle.disk_trait.specs.Names.{is_same_file}
use Rattle.disk_trait.specs.Files.{Files, with_bytes}
use Rattle.pool_name.specs.declared.namer.Namer.{Ghosts as NamerGhosts}
use Rattle.intent_journal.specs.declared.changes.Change.{Change}
use Rattle.intent_journal.specs.Changes.{applied, names as named_by, AreChanges}
use Rattle.intent_journal.specs.ChangesLaws.{with_bytes_there, applied_other}
use Rattle.journal_view.specs.View.{told}
use Rattle.backup_views.specs.declared.kept.KeptView.{KeptView}
use Rattle.pool_changes.specs.Listed.{index_of}
use Rattle.ref_counts.specs.Numbers.{Items}
use Rattle.office_catalog.specs.Known.{Known}
use Rattle.office_catalog.specs.Changed.{IsFor, after}
use Rattle.office_model.specs.declared.answer.Answer.{Answer}
use Rattle.office_model.specs.declared.event.Event.{Event}
use Rattle.office_model.specs.declared.refusal.Refusal.{Refusal}
use Rattle.office_model.specs.declared.refusal.Refusal.TheVariants as R
use Rattle.office_model.specs.Office.{Office, Names, with_hosts}
use Rattle.office_model.specs.Step.{IsAnswerTo, meaning_of}
use Rattle.office_model.specs.UsedNames.{AreSound, AreNamesAfter}
use Rattle.office_files.specs.TableLayoutLaws.{second_applied}
use Rattle.store_parts.specs.KnownOffice.{known_of_office}
use Rattle.store_parts.specs.declared.parts.StoreParts.{StoreParts}
use Rattle.store_parts.specs.Held.{IsKeptView, AreCountsOf}
use Rattle.store_parts.specs.HeadLaws.{heads-stay}
use Rattle.store_parts.specs.States.{slots, IsRunning}
use Rattle.store_parts.specs.Runs.{Runs, Reads}
use Rattle.store_parts.specs.Writes.{Writes}
use Rattle.store_parts.specs.RunLaws.{runs_reads, reads_still, reads_behind, runs_behind, counted_still}
use Rattle.store_parts.specs.RefusedLaws.{runs_not_planned}
use Rattle.store_parts.specs.StepLaws.{carried_plain}
use Rattle.store_parts.specs.WriteLaws.{LeadsTo, LeavesIndex, Holds, runs_write_refused, runs_written, running_hosts}
use Rattle.store_deletions.specs.declared.plan.DeletionPlan.{DeletionPlan}
use Rattle.store_deletions.specs.Planned.{left_host, IsPlanned, IsPlanFault}
use Rattle.store_deletions.specs.Called.{IsRead}
use Rattle.store_deletions.specs.Shortens.{Shortens, Shortening}
use Rattle.store_deletions.specs.AfterLaws.{IsShortened, shortened, sound_then, within_there, not_damaged, counts_of}

-- ---- the files that changes name

-- a file that is named has the same bytes afterwards, whatever was in it
applied_named : (changes : List Change) (file : FileId) (a b : Files) → named_by changes file ≡ true
    → applied changes a file ≡ applied changes b file
applied_named [] file a b named = absurd (true≢false (sym named))
applied_named (change ∷ changes) file a b named =
    step (is_same_file file change.file) refl (named_by changes file) refl named (applied_named changes file)
  where
    step : (here : Bool) → is_same_file file change.file ≡ here → (later : Bool) → named_by changes file ≡ later
        → (if here then true else later) ≡ true
        → ((a b : Files) → named_by changes file ≡ true → applied changes a file ≡ applied changes b file)
        → applied changes (with_bytes a change.file change.bytes) file ≡ applied changes (with_bytes b change.file change.bytes) file
    step here e true f is rest = rest (with_bytes a change.file change.bytes) (with_bytes b change.file change.bytes) f
    step true e false f is rest =
        applied_other changes (with_bytes a change.file change.bytes) file f ∙ with_bytes_there a change.file change.bytes file e
        ∙ sym (with_bytes_there b change.file change.bytes file e)
        ∙ sym (applied_other changes (with_bytes b change.file change.bytes) file f)
    step false e false f is rest = absurd (true≢false (sym is))

-- a file that stays in all files isn't named
not_named : (changes : List Change) (file : FileId) → ((all : Files) → applied changes all file ≡ all file) → named_by changes file ≡ false
not_named changes file stays = step (named_by changes file) refl
  where
    step : (b : Bool) → named_by changes file ≡ b → b ≡ false
    step false e = refl
    step true e =
        let none : ◌≡◌ {A = Option (List ℕ)} None (Some []) =
        sym (stays (λ f. None)) ∙ applied_named changes file (λ f. None) (λ f. Some []) e ∙ stays (λ f. Some []) in
        absurd cc

-- ---- a plan

module _ (catalog : Known) (told : Option Files) (counts : List Items) (p : ℕ) (numbers : List ℕ) (plan : DeletionPlan)
    (within : p < length counts)
    (planned : (items : Items) → slice_get counts p ≡ Some items → IsPlanned catalog told items p numbers plan) where
  abbrev has_counts : (items : Items) × (slice_get counts p ≡ Some items)
  has_counts = within_there counts p within

  pub changes_planned : AreChanges plan.changes
  changes_planned = (planned has_counts.0 has_counts.1).are

  pub fits_planned : (known : Known) → known ≡ catalog → IsFor known plan.catalog
  fits_planned known is = subst (λ (k : Known). IsFor k plan.catalog) (sym is) (planned has_counts.0 has_counts.1).fits

module _ {D N S : Type 0} {d : DiskGhosts D} {n : NamerGhosts N S} where
  reads_of : (old mid : StoreParts D N S d n) → IsRead old mid → Reads old mid
  reads_of old mid read = reads_behind old mid read.quiet read.others

  -- the parts behind accept
  pub record IsFinished (p : ℕ) (plan : DeletionPlan) (mid new : StoreParts D N S d n) : Type 0 where
    pub catalog : new.catalog ≡ after plan.catalog mid.catalog
    pub counts : new.counts ≡ slice_set mid.counts p plan.counts
    pub partials : new.partials ≡ mid.partials
    pub views : new.views.kept ≡ None
    pub journal : new.journal ≡ mid.journal
    pub pool : new.pool ≡ mid.pool
    pub sessions : new.sessions ≡ mid.sessions
    pub halted : new.halted ≡ mid.halted

  module _ (old : StoreParts D N S d n) (event : Event) (answer : Answer) (p : ℕ) (numbers : List ℕ)
      (shortening : Shortening old.catalog event answer p numbers) where
    shortens : (office : Office) (names : Names) → IsRunning old office names → Shortens event answer office names p numbers
    shortens office names at = shortening.each office names at.catalog_is at.sound

    -- the plan was refused
    pub runs_unplanned : (mid : StoreParts D N S d n) → IsRead old mid → (refusal : Refusal)
        → ((items : Items) → slice_get old.counts p ≡ Some items → IsPlanFault (told old.journal) old.catalog p refusal)
        → (refusal ≡ R.Halted → ⊥)
        → Counted (d.fault_count old.journal.disk) (d.fault_count mid.journal.disk) (IsErrOf {T = DeletionPlan} (Err refusal) R.DiskFault)
        → Runs old event (Err refusal) mid
    runs_unplanned mid read refusal fault awake counted =
        runs_not_planned {Plan = DeletionPlan} old mid event refusal (reads_of old mid read)
        (λ office names at. (shortens office names at).touches) (λ office names at. kind office names at refusal (fault_of office names at))
        awake counted
      where
        fault_of : (office : Office) (names : Names) → IsRunning old office names → IsPlanFault (told old.journal) old.catalog p refusal
        fault_of office names at =
            let s = shortens office names at in
            let items = counts_of old p office names at s.host s.is_host in
            fault items.0 items.1

        kind : (office : Office) (names : Names) → IsRunning old office names → (refusal : Refusal)
            → IsPlanFault (told old.journal) old.catalog p refusal → (refusal ≡ R.DiskFault) ⊎ (refusal ≡ R.Memory)
        kind office names at R.DiskFault fault = inl refl
        kind office names at R.Memory fault = inr refl
        kind office names at (R.Damaged file found) fault =
            let s = shortens office names at in absurd (not_damaged old p office names at s.host s.is_host file found fault)
        kind office names at (R.Broken rule) fault = absurd fault
        kind office names at R.Halted fault = absurd fault

    module _ (items : Items) (plan : DeletionPlan) (has_items : slice_get old.counts p ≡ Some items)
        (planned : IsPlanned old.catalog (told old.journal) items p numbers plan) where
      abbrev office_then : (office : Office) (names : Names) → IsRunning old office names → Office
      office_then office names at = with_hosts office (slice_set office.hosts p (left_host numbers (shortens office names at).host))

      then_is : (office : Office) (names : Names) (at : IsRunning old office names)
          → IsShortened old plan p at.all (office_then office names at)
      then_is office names at = shortened old p numbers items plan has_items planned office names at event answer (shortens office names at)

      abbrev leads : (office : Office) (names : Names) (at : IsRunning old office names)
          → LeadsTo n.digest_of event plan.changes office names at.all
      leads office names at =
          let t = then_is office names at in
          record {
            carried = record { answer = answer; after = office_then office names at };
            judged = carried_plain event office names (record { answer = answer; after = office_then office names at })
                (shortens office names at).plain (shortens office names at).judged;
            stands = record { index = index_of (slots old); shown = t.shown; stands = t.stands };
            second = planned.second;
          }

      pub runs_write_failed : (new : StoreParts D N S d n) (refusal : Refusal) → Writes old plan.changes (Err refusal) new
          → Runs old event (Err refusal) new
      runs_write_failed new refusal w =
          runs_write_refused old new event plan.changes refusal w leads (λ office names at. inr (shortens office names at).touches)

      leaves : LeavesIndex plan.changes
      leaves = record {
        one = not_named plan.changes F.PoolIndex (λ all. planned.others all F.PoolIndex refl);
        each = λ byte. not_named plan.changes (F.PoolBucket byte) (λ all. planned.others all (F.PoolBucket byte) refl);
      }

      module _ (mid new : StoreParts D N S d n) (done : Unit {0}) (w : Writes old plan.changes (Ok done) mid)
          (f : IsFinished p plan mid new) where
        -- the same parts with the view that is kept then
        abbrev forgot : (office : Office) (names : Names) → IsRunning old office names
            → IsRunning (record old { views = new.views }) office names
        forgot office names at = record {
          working = record {
            ready = at.ready;
            stored = at.stored;
            counted = at.counted;
            parked = at.parked;
            sessions = at.sessions;
            view = subst (λ (k : Option KeptView). IsKeptView k office.hosts at.shown) (sym f.views) tt;
            sound = at.sound;
          };
          claimed = at.claimed;
        }

        written : Writes (record old { views = new.views }) plan.changes (Ok done) (record mid { views = new.views })
        written = record {
          committed = w.committed;
          kind = w.kind;
          pool_same = w.pool_same;
          catalog_same = w.catalog_same;
          counts_same = w.counts_same;
          partials_same = w.partials_same;
          sessions_same = w.sessions_same;
          views_same = refl;
          stays = w.stays;
          stops = w.stops;
        }

        running_then : (office : Office) (names : Names) (at : IsRunning old office names)
            → IsRunning new (office_then office names at) names
        running_then office names at =
            let s = shortens office names at in
            let t = then_is office names at in
            running_hosts (record old { views = new.views }) (record mid { views = new.views }) new office
            (slice_set office.hosts p (left_host numbers s.host)) names (forgot office names at) plan.changes done t.shown written
            planned.are leaves t.stands
            (subst (λ (k : Option KeptView). IsKeptView k (slice_set office.hosts p (left_host numbers s.host)) t.shown) (sym f.views) tt)
            (subst (λ (c : List Items). AreCountsOf c t.shown)
            (sym (f.counts ∙ ap (λ (c : List Items). slice_set c p plan.counts) w.counts_same)) t.counted)
            (f.partials ∙ w.partials_same ∙ at.parked ∙ sym (heads-stay office.hosts p s.host (left_host numbers s.host) s.is_host refl))
            (sound_then old p numbers items plan has_items planned office names at event answer s
            (shortening.stay office names (Ok answer)))
            (second_applied names.old_hosts at.all plan.changes planned.second at.second)
            f.journal f.pool (f.catalog ∙ ap (after plan.catalog) w.catalog_same ∙ t.known) f.sessions refl f.halted

        holds_then : (office : Office) (names : Names) (at : IsRunning old office names)
            → Holds event answer plan.changes office names at.all new
        holds_then office names at = record {
          leads = leads office names at;
          answer_is = refl;
          running = running_then office names at;
        }

        pub runs_finished : Runs old event (Ok answer) new
        runs_finished =
            runs_written old mid new event answer plan.changes done w f.journal f.halted holds_then
            (λ office names. shortening.stay office names (Ok answer)) shortening.in_kind

  -- behind the plan
  module _ (old start : StoreParts D N S d n) (event : Event) (answer : Answer) (p : ℕ) (numbers : List ℕ)
      (shortening : Shortening old.catalog event answer p numbers) (plan : DeletionPlan) (within : p < length old.counts)
      (planned : (items : Items) → slice_get old.counts p ≡ Some items
      → IsPlanned old.catalog (told old.journal) items p numbers plan)
      (read : IsRead old start) (same : d.fault_count start.journal.disk ≡ d.fault_count old.journal.disk) where
    abbrev has : (items : Items) × (slice_get old.counts p ≡ Some items)
    has = within_there old.counts p within

    catalog_still : old.catalog ≡ start.catalog
    catalog_still = sym (ap (λ (p : StoreParts D N S d n). p.catalog) read.others)

    shortening_still : Shortening start.catalog event answer p numbers
    shortening_still = subst (λ (k : Known). Shortening k event answer p numbers) catalog_still shortening

    planned_still : IsPlanned start.catalog (told start.journal) has.0 p numbers plan
    planned_still =
        subst (λ (k : Known). IsPlanned k (told start.journal) has.0 p numbers plan) catalog_still
        (subst (λ (t : Option Files). IsPlanned old.catalog t has.0 p numbers plan) (sym read.quiet.told_same) (planned has.0 has.1))

    items_still : slice_get start.counts p ≡ Some has.0
    items_still = ap (λ (q : StoreParts D N S d n). slice_get q.counts p) read.others ∙ has.1

    pub runs_not_written : (new : StoreParts D N S d n) (refusal : Refusal) → Writes start plan.changes (Err refusal) new
        → Runs old event (Err refusal) new
    runs_not_written new refusal w =
        runs_behind old start new event (Err refusal) (reads_of old start read) same
        (runs_write_failed start event answer p numbers shortening_still has.0 plan items_still planned_still new refusal w)

    pub runs_shortened : (mid new : StoreParts D N S d n) (done : Unit {0}) → Writes start plan.changes (Ok done) mid
        → IsFinished p plan mid new → Runs old event (Ok answer) new
    runs_shortened mid new done w f =
        runs_behind old start new event (Ok answer) (reads_of old start read) same
        (runs_finished start event answer p numbers shortening_still has.0 plan items_still planned_still mid new done w f)

  -- nothing is to be done
  pub runs_still : (old : StoreParts D N S d n) (event : Event) (answer : Answer) → (meaning_of event).pools ≡ false
      → ((office : Office) (names : Names) → old.catalog ≡ known_of_office office.durable → AreSound office names
      → (meaning_of event).carried office names ≡ Ok (record { answer = answer; after = office }))
      → ((office : Office) (names : Names) → AreNamesAfter office names (meaning_of event) (Ok answer) names) → IsAnswerTo event answer
      → Runs old event (Ok answer) old
  runs_still old event answer plain carried stay in_kind =
      runs_reads old old event (Ok answer) (reads_still old)
      (λ office names at. (
        carried_plain event office names (record { answer = answer; after = office }) plain (carried office names at.catalog_is at.sound),
        stay office names,
      )) (λ office names at. tt) in_kind (λ e. absurd cc)
      (counted_still (d.fault_count old.journal.disk) _ (λ e. absurd cc))
