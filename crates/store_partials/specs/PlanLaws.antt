-- What a plan of a park, or its refusal, comes to.
--     planned_of      what was gathered and built is the plan
--     no_host_refused, gather_refused, bytes_refused      refusals on the way are those of the plan
--     no_host_heeds, gather_heeds, there_heeds, bytes_heeds      what is said of the partial that is known
--     no_disk_fault      rows that have no file are no fault of the disk
--     drop_planned_of, drop_refused, drop_heeds, drop_there      the same of a drop of a partial
use Rattle.std.specs.Prelude.{◌≡◌, ◌<◌, ℕ, length, List, Option, Some, None, is_some, Result, Err, IsErrOf, slice_get}
use Rattle.std.proofs.Common.{refl, sym, ap, ◌∙◌, subst, inr}
use Rattle.disk_trait.specs.declared.disk.Disk.{Ghosts as DiskGhosts}
use Rattle.disk_trait.specs.Files.{Files}
use Rattle.pool_name.specs.declared.namer.Namer.{Ghosts as NamerGhosts}
use Rattle.intent_journal.specs.declared.journal.Journal.{Journal}
use Rattle.journal_view.specs.View.{told}
use Rattle.merge_view.specs.Views.{Rows}
use Rattle.partial_files.specs.declared.partial.PartialFile.{PartialFile}
use Rattle.partial_files.specs.Layout.{HasNoMark, IsPartial}
use Rattle.partial_files.specs.Partials.{partial_file}
use Rattle.ref_counts.specs.Numbers.{Items}
use Rattle.host_partials.specs.declared.held.PartialHead.{PartialHead}
use Rattle.host_partials.specs.Held.{head_at}
use Rattle.office_model.specs.declared.refusal.Refusal.{Refusal}
use Rattle.office_model.specs.declared.refusal.Refusal.TheVariants as R
use Rattle.open_sessions.specs.declared.sessions.OpenDump.{OpenDump}
use Rattle.store_parts.specs.declared.parts.StoreParts.{StoreParts}
use Rattle.store_commits.specs.ParkedLaws.{head_within}
use Rattle.store_partials.specs.declared.plan.DropPlan.{DropPlan}
use Rattle.store_partials.specs.declared.plan.ParkPlan.{ParkPlan}
use Rattle.store_partials.specs.Heeding.{AreThere, IsHeededBy, IsKnown, IsKnownOf}
use Rattle.store_partials.specs.Parked.{dump_file, IsRecounted, IsTold, IsGatherFault, IsBytesFault, IsBuilt, IsPlanned, IsReady, IsPlanFault, IsDropBuilt, IsDropPlanned, IsDropFault}

-- what stands at a place is one
one_there : {A : Type 0} (xs : List A) (i : ℕ) (x y : A) → slice_get xs i ≡ Some x → slice_get xs i ≡ Some y → x ≡ y
one_there xs i x y e f = let w : Some x ≡ Some y = sym e ∙ f in cc

no_fault : (rows : Rows) (refusal : Refusal) → IsBytesFault rows refusal → refusal ≡ R.DiskFault → ⊥
no_fault rows (R.Broken rule) fault e = cc
no_fault rows R.Memory fault e = cc
no_fault rows R.DiskFault fault e = fault
no_fault rows (R.Damaged file found) fault e = fault
no_fault rows R.Halted fault e = fault

pub no_disk_fault : {T : Type 0} (rows : Rows) (refusal : Refusal) → IsBytesFault rows refusal → IsErrOf {T = T} (Err refusal) R.DiskFault → ⊥
no_disk_fault {T} rows refusal fault e = no_fault rows refusal fault (let same : ◌≡◌ {A = Result T Refusal} (Err refusal) (Err R.DiskFault) = e in cc)

-- by what a plan is made
record Reading : Type 0 where
  pub head : Option PartialHead
  pub file : ℕ
  pub partial : PartialFile

module _ {D N S : Type 0} {d : DiskGhosts D} {n : NamerGhosts N S} where
  -- the journal doesn't count
  built_before : (parts : StoreParts D N S d n) (journal : Journal D d) (place host : ℕ) (partial : PartialFile) (bytes : List ℕ) (counts : Items)
      (plan : ParkPlan) → IsBuilt (record parts { journal = journal }) place host partial bytes counts plan
      → IsBuilt parts place host partial bytes counts plan
  built_before parts journal place host partial bytes counts plan b = record {
    host_is = b.host_is;
    head_is = b.head_is;
    counts_are = b.counts_are;
    fits = b.fits;
    pooled = b.pooled;
    of_ids = b.of_ids;
    leads = b.leads;
    changes = b.changes;
  }

  -- the dump's host isn't there
  module _ (parts : StoreParts D N S d n) (at : ℕ) (dump : OpenDump) (there : slice_get parts.sessions.dumps.items at ≡ Some dump)
      (none : dump.host < length parts.catalog.hosts → dump.host < length parts.partials → ⊥) (session : OpenDump)
      (is : slice_get parts.sessions.dumps.items at ≡ Some session) where
    apart : session.host < length parts.catalog.hosts → session.host < length parts.partials → ⊥
    apart here held =
        let same = ap (λ (s : OpenDump). s.host) (one_there parts.sessions.dumps.items at dump session there is) in
        none (subst (λ (h : ℕ). h < length parts.catalog.hosts) (sym same) here) (subst (λ (h : ℕ). h < length parts.partials) (sym same) held)

    pub no_host_refused : (refusal : Refusal) → IsPlanFault parts session refusal
    no_host_refused refusal all e ready = absurd (apart ready.here ready.held)

    pub no_host_heeds : AreThere (told parts.journal) (IsKnownOf parts session)
    no_host_heeds all asked e calls = absurd (apart calls.here (head_within parts.partials session.host calls.known.1))

  module _ (parts : StoreParts D N S d n) (journal : Journal D d) (at : ℕ) (dump : OpenDump)
      (there : slice_get parts.sessions.dumps.items at ≡ Some dump) (here : dump.host < length parts.catalog.hosts) (held : dump.host < length parts.partials) (file : ℕ)
      (is_file : file ≡ dump.host) (partial : PartialFile) (is_partial : partial ≡ dump_file dump) (head : Option PartialHead)
      (is_head : head ≡ head_at parts.partials dump.host) (session : OpenDump) (is : slice_get parts.sessions.dumps.items at ≡ Some session) where
    parts_are : ◌≡◌ {A = Reading} (record { head = head; file = file; partial = partial })
        (record { head = head_at parts.partials dump.host; file = dump.host; partial = dump_file dump })
    parts_are = λ i. record { head = is_head i; file = is_file i; partial = is_partial i }

    is_dump : dump ≡ session
    is_dump = one_there parts.sessions.dumps.items at dump session there is

    pub planned_of : (bytes : List ℕ) (counts : Items) (plan : ParkPlan)
        → IsRecounted (told parts.journal) head file parts.counts dump.host (Some partial.rows) counts → dump.host < length parts.counts
        → IsPartial partial → bytes ≡ partial_file file partial
        → IsBuilt (record parts { journal = journal }) dump.host file partial bytes counts plan → IsPlanned parts session plan
    planned_of bytes counts plan recounted within fits file_is built =
        subst (λ (s : OpenDump). IsPlanned parts s plan) is_dump (record {
          counts = counts;
          recounted = subst (λ (r : Reading). IsRecounted (told parts.journal) r.head r.file parts.counts dump.host (Some r.partial.rows) counts) parts_are
              recounted;
          within = within;
          held = held;
          fits = subst IsPartial is_partial fits;
          built = subst (λ (r : Reading). IsBuilt parts dump.host r.file r.partial (partial_file r.file r.partial) counts plan) parts_are
              (subst (λ (b : List ℕ). IsBuilt parts dump.host file partial b counts plan) file_is
              (built_before parts journal dump.host file partial bytes counts plan built));
        })

    ready_dump : (all : Files) → IsReady parts session all → IsReady parts dump all
    ready_dump all ready = subst (λ (s : OpenDump). IsReady parts s all) (sym is_dump) ready

    pub gather_refused : (refusal : Refusal) → IsGatherFault (told parts.journal) head file parts.counts dump.host refusal
        → IsPlanFault parts session refusal
    gather_refused refusal fault all e ready =
        fault all e (subst (λ (r : Reading). IsTold all r.head r.file parts.counts dump.host) (sym parts_are) (ready_dump all ready).tells)

    pub bytes_refused : (refusal : Refusal) → IsBytesFault partial.rows refusal → IsPlanFault parts session refusal
    bytes_refused (R.Broken rule) fault all e ready =
        absurd (fault (subst (λ (p : PartialFile). HasNoMark p.rows) (sym is_partial) (ready_dump all ready).no_mark))
    bytes_refused R.Memory fault all e ready = inr refl
    bytes_refused R.DiskFault fault all e ready = absurd fault
    bytes_refused (R.Damaged file' found) fault all e ready = absurd fault
    bytes_refused R.Halted fault all e ready = absurd fault

    -- the partial that is called for is the one that was looked for
    called : (asked : ℕ) → IsKnownOf parts session asked → IsKnown head file asked
    called asked calls = (
      calls.known.0 ∙ ap (λ (s : OpenDump). s.host) (sym is_dump) ∙ sym is_file,
      ap is_some (is_head ∙ ap (λ (s : OpenDump). head_at parts.partials s.host) is_dump) ∙ calls.known.1,
    )

    calls_for : (asked : ℕ) → IsKnown head file asked → IsKnownOf parts session asked
    calls_for asked known =
        subst (λ (s : OpenDump). IsKnownOf parts s asked) is_dump
        (record { here = here; known = (known.0 ∙ is_file, ap is_some (sym is_head) ∙ known.1) })

    pub there_heeds : AreThere (told parts.journal) (IsKnown head file) → AreThere (told parts.journal) (IsKnownOf parts session)
    there_heeds are all asked e calls = are all asked e (called asked calls)

    pub gather_heeds : (refusal : Refusal) → IsHeededBy (told parts.journal) (IsKnown head file) refusal
        → IsHeededBy (told parts.journal) (IsKnownOf parts session) refusal
    gather_heeds (R.Broken rule) heeds = there_heeds heeds
    gather_heeds (R.Damaged file' found) heeds = record { host = heeds.host; calls = calls_for heeds.host heeds.calls; none = heeds.none }
    gather_heeds R.DiskFault heeds = tt
    gather_heeds R.Memory heeds = tt
    gather_heeds R.Halted heeds = absurd heeds

    -- behind the reading
    pub bytes_heeds : (refusal : Refusal) → IsBytesFault partial.rows refusal → AreThere (told parts.journal) (IsKnown head file)
        → IsHeededBy (told parts.journal) (IsKnownOf parts session) refusal
    bytes_heeds (R.Broken rule) fault are = there_heeds are
    bytes_heeds R.Memory fault are = tt
    bytes_heeds R.DiskFault fault are = absurd fault
    bytes_heeds (R.Damaged file' found) fault are = absurd fault
    bytes_heeds R.Halted fault are = absurd fault

  -- a drop of the partial of a host
  module _ (parts : StoreParts D N S d n) (host file : ℕ) (is_file : file ≡ host) (head : Option PartialHead)
      (is_head : head ≡ head_at parts.partials host) where
    pub drop_planned_of : (counts : Items) (plan : DropPlan) → IsRecounted (told parts.journal) head file parts.counts host None counts
        → host < length parts.counts → IsDropBuilt file counts plan → IsDropPlanned parts host plan
    drop_planned_of counts plan recounted within built = record {
      counts = counts;
      recounted = subst (λ (h : Option PartialHead). IsRecounted (told parts.journal) h host parts.counts host None counts) is_head
          (subst (λ (f : ℕ). IsRecounted (told parts.journal) head f parts.counts host None counts) is_file recounted);
      within = within;
      built = subst (λ (f : ℕ). IsDropBuilt f counts plan) is_file built;
    }

    pub drop_refused : (refusal : Refusal) → IsGatherFault (told parts.journal) head file parts.counts host refusal → IsDropFault parts host refusal
    drop_refused refusal fault =
        subst (λ (h : Option PartialHead). IsGatherFault (told parts.journal) h host parts.counts host refusal) is_head
        (subst (λ (f : ℕ). IsGatherFault (told parts.journal) head f parts.counts host refusal) is_file fault)

    pub drop_heeds : (refusal : Refusal) → IsHeededBy (told parts.journal) (IsKnown head file) refusal
        → IsHeededBy (told parts.journal) (IsKnown (head_at parts.partials host) host) refusal
    drop_heeds refusal heeds =
        subst (λ (h : Option PartialHead). IsHeededBy (told parts.journal) (IsKnown h host) refusal) is_head
        (subst (λ (f : ℕ). IsHeededBy (told parts.journal) (IsKnown head f) refusal) is_file heeds)

    pub drop_there : AreThere (told parts.journal) (IsKnown head file) → AreThere (told parts.journal) (IsKnown (head_at parts.partials host) host)
    drop_there are =
        subst (λ (h : Option PartialHead). AreThere (told parts.journal) (IsKnown h host)) is_head
        (subst (λ (f : ℕ). AreThere (told parts.journal) (IsKnown head f)) is_file are)
