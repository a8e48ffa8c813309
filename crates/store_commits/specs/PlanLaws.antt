-- What a plan, or its refusal, comes to.
--     planned_of      what was judged, gathered and built is the plan
--     gather_refused      a refusal of gathering is one of the plan
--     gather_heeds, built_heeds, broken_heeds      what is said of the table and of the partial that are called for
use Rattle.std.specs.Prelude.{◌≡◌, ◌<◌, ℕ, length, List, Option, Some, slice_get}
use Rattle.std.proofs.Common.{sym, ap, ◌∙◌, subst, inl, inr}
use Rattle.disk_trait.specs.declared.ids.FileId.{FileId}
use Rattle.disk_trait.specs.declared.disk.Disk.{Ghosts as DiskGhosts}
use Rattle.disk_trait.specs.Files.{Files}
use Rattle.pool_name.specs.declared.namer.Namer.{Ghosts as NamerGhosts}
use Rattle.intent_journal.specs.declared.journal.Journal.{Journal}
use Rattle.journal_view.specs.View.{told}
use Rattle.backup_rules.specs.declared.lines.Line.{Line}
use Rattle.backup_index.specs.Index.{Index}
use Rattle.merge_view.specs.Views.{Rows}
use Rattle.ref_counts.specs.Numbers.{Items}
use Rattle.host_partials.specs.declared.held.PartialHead.{PartialHead}
use Rattle.host_partials.specs.Held.{head_at}
use Rattle.open_sessions.specs.declared.sessions.OpenDump.{OpenDump}
use Rattle.office_model.specs.declared.refusal.Refusal.{Refusal}
use Rattle.office_model.specs.declared.refusal.Refusal.TheVariants as R
use Rattle.store_parts.specs.declared.parts.StoreParts.{StoreParts}
use Rattle.store_commits.specs.declared.former.Folding.{Folding}
use Rattle.store_commits.specs.declared.judge.Lines.{Lines}
use Rattle.store_commits.specs.declared.plan.Plan.{Plan}
use Rattle.store_commits.specs.Former.{dropped_of, IsFolded}
use Rattle.store_commits.specs.Judged.{IsFree, IsJudged}
use Rattle.store_commits.specs.Parked.{AreParked}
use Rattle.store_commits.specs.Planned.{AreCounted, IsTold, IsGatherFault, IsBuilt, IsPlanned, IsReady, IsPlanFault}
use Rattle.store_commits.specs.Tables.{AreThere, IsLost, IsHeededBy, IsTableOf, IsKnownOf, IsTableFor, IsParkedFor}

some_same : {A : Type 0} (x y : A) → Some x ≡ Some y → x ≡ y
some_same x y e = cc

-- what stands at a place is one
pub one_there : {A : Type 0} (xs : List A) (i : ℕ) (x y : A) → slice_get xs i ≡ Some x → slice_get xs i ≡ Some y → x ≡ y
one_there xs i x y e f = some_same x y (sym e ∙ f)

module _ {D N S : Type 0} {d : DiskGhosts D} {n : NamerGhosts N S} where
  -- the journal doesn't count
  built_before : (parts : StoreParts D N S d n) (journal : Journal D d) (host : ℕ) (lines : Lines) (parked : Option Rows) (folding : Option Folding)
      (counts : Items) (rows : Rows) (plan : Plan) → IsBuilt (record parts { journal = journal }) host lines parked folding counts rows plan
      → IsBuilt parts host lines parked folding counts rows plan
  built_before parts journal host lines parked folding counts rows plan b = record {
    number = b.number;
    host_is = b.host_is;
    rows_are = b.rows_are;
    counts_are = b.counts_are;
    after_is = b.after_is;
    listed = b.listed;
    lists = b.lists;
    fits = b.fits;
    pooled = b.pooled;
    of_ids = b.of_ids;
    leads = b.leads;
    files = b.files;
    changes = b.changes;
    table = b.table;
    former = b.former;
    parked_is = b.parked_is;
    counted = b.counted;
  }

  module _ (parts : StoreParts D N S d n) (journal : Journal D d) (at : ℕ) (line : Line) (dump : OpenDump)
      (there : slice_get parts.sessions.dumps.items at ≡ Some dump) (lines : Lines) (rows : Rows)
      (judged : IsJudged parts.catalog.hosts dump line lines) (rows_are : rows ≡ dump.tree)
      (head : Option PartialHead) (head_is : head ≡ head_at parts.partials dump.host) where
    pub planned_of : (folding : Option Folding) (parked : Option Rows) (counts : Items) (plan : Plan)
        → IsFolded (told parts.journal) lines.file lines.dropped rows folding → AreParked (told parts.journal) head lines.file parked
        → AreCounted parts.counts dump.host parked folding rows counts → dump.host < length parts.counts
        → IsBuilt (record parts { journal = journal }) dump.host lines parked folding counts rows plan
        → (session : OpenDump) → slice_get parts.sessions.dumps.items at ≡ Some session → IsPlanned parts session line plan
    planned_of folding parked counts plan folded are counted within built session e =
        subst (λ (s : OpenDump). IsPlanned parts s line plan) (one_there parts.sessions.dumps.items at dump session there e) (record {
          lines = lines;
          judged = judged;
          folding = folding;
          parked = parked;
          counts = counts;
          folded = subst (λ (r : Rows). IsFolded (told parts.journal) lines.file lines.dropped r folding) rows_are folded;
          are_parked = subst (λ (h : Option PartialHead). AreParked (told parts.journal) h lines.file parked) head_is are;
          are_counted = subst (λ (r : Rows). AreCounted parts.counts dump.host parked folding r counts) rows_are counted;
          within = within;
          built = subst (λ (r : Rows). IsBuilt parts dump.host lines parked folding counts r plan) rows_are
              (built_before parts journal dump.host lines parked folding counts rows plan built);
        })

    -- the host that was judged is the one that is ready
    ready_index : (all : Files) (ready : IsReady parts dump all) → IsTold all parts.counts dump.host lines.file head lines.dropped
    ready_index all ready =
        let same : ready.index ≡ judged.index = one_there parts.catalog.hosts dump.host ready.index judged.index ready.here judged.here in
        subst (λ (h : Option PartialHead). IsTold all parts.counts dump.host lines.file h lines.dropped) (sym head_is)
        (subst (λ (l : Option Line). IsTold all parts.counts dump.host lines.file (head_at parts.partials dump.host) l) (sym judged.dropped)
        (subst (λ (k : ℕ). IsTold all parts.counts dump.host k (head_at parts.partials dump.host)
        (dropped_of judged.index.rules judged.index.lines)) (sym judged.file)
        (subst (λ (i : Index). IsTold all parts.counts dump.host dump.host (head_at parts.partials dump.host) (dropped_of i.rules i.lines)) same
        ready.tells)))

    ready_of : (session : OpenDump) → slice_get parts.sessions.dumps.items at ≡ Some session → (all : Files) → IsReady parts session all
        → IsReady parts dump all
    ready_of session e all ready =
        subst (λ (s : OpenDump). IsReady parts s all) (sym (one_there parts.sessions.dumps.items at dump session there e)) ready

    pub gather_refused : (refusal : Refusal) → IsGatherFault (told parts.journal) parts.counts dump.host lines.file head lines.dropped refusal
        → (session : OpenDump) → slice_get parts.sessions.dumps.items at ≡ Some session → IsPlanFault parts session refusal
    gather_refused refusal fault session e all is ready = fault all is (ready_index all (ready_of session e all ready))

    -- the number of the line goes with the host's next one
    abbrev Takes : ℕ → Type 0
    Takes next = IsFree next line.number

    -- the table that is called for is that of the line that was judged
    table_judged : (file : FileId) → IsTableOf lines.file lines.dropped file → IsTableFor Takes parts dump file
    table_judged file is = record {
      index = judged.index;
      here = judged.here;
      takes = judged.free;
      is = subst (λ (h : ℕ). IsTableOf h (dropped_of judged.index.rules judged.index.lines) file) judged.file
          (subst (λ (l : Option Line). IsTableOf lines.file l file) judged.dropped is);
    }

    judged_table : (session : OpenDump) → slice_get parts.sessions.dumps.items at ≡ Some session → (file : FileId) → IsTableFor Takes parts session file
        → IsTableOf lines.file lines.dropped file
    judged_table session e file calls =
        let same : calls.index ≡ judged.index =
        one_there parts.catalog.hosts dump.host calls.index judged.index
        (subst (λ (s : OpenDump). slice_get parts.catalog.hosts s.host ≡ Some calls.index) (sym (one_there parts.sessions.dumps.items at dump session there e))
        calls.here) judged.here in
        subst (λ (l : Option Line). IsTableOf lines.file l file) (sym judged.dropped)
        (subst (λ (h : ℕ). IsTableOf h (dropped_of judged.index.rules judged.index.lines) file)
        (sym (judged.file ∙ ap (λ (s : OpenDump). s.host) (one_there parts.sessions.dumps.items at dump session there e)))
        (subst (λ (i : Index). IsTableOf session.host (dropped_of i.rules i.lines) file) same calls.is))

    -- and so is the partial
    parked_judged : (host : ℕ) → IsKnownOf lines.file head host → IsParkedFor Takes parts dump host
    parked_judged host is = record {
      index = judged.index;
      here = judged.here;
      takes = judged.free;
      is = subst (λ (h : Option PartialHead). IsKnownOf dump.host h host) head_is
          (subst (λ (k : ℕ). IsKnownOf k head host) judged.file is);
    }

    judged_parked : (session : OpenDump) → slice_get parts.sessions.dumps.items at ≡ Some session → (host : ℕ) → IsParkedFor Takes parts session host
        → IsKnownOf lines.file head host
    judged_parked session e host calls =
        let same : session ≡ dump = one_there parts.sessions.dumps.items at session dump e there in
        subst (λ (k : ℕ). IsKnownOf k head host) (sym judged.file)
        (subst (λ (h : Option PartialHead). IsKnownOf dump.host h host) (sym head_is)
        (subst (λ (s : OpenDump). IsKnownOf s.host (head_at parts.partials s.host) host) same calls.is))

    there_judged : (session : OpenDump) → slice_get parts.sessions.dumps.items at ≡ Some session
        → AreThere (told parts.journal) (IsTableOf lines.file lines.dropped) (IsKnownOf lines.file head)
        → AreThere (told parts.journal) (IsTableFor Takes parts session) (IsParkedFor Takes parts session)
    there_judged session e are = record {
      tables = λ all file is calls. are.tables all file is (judged_table session e file calls);
      partial = λ all host is calls. are.partial all host is (judged_parked session e host calls);
    }

    -- one that is lost is called for
    lost_judged : (file : FileId) (found : Option (List ℕ)) (session : OpenDump) → slice_get parts.sessions.dumps.items at ≡ Some session
        → IsLost (told parts.journal) (IsTableOf lines.file lines.dropped) (IsKnownOf lines.file head) file found
        → IsLost (told parts.journal) (IsTableFor Takes parts session) (IsParkedFor Takes parts session) file found
    lost_judged file found session e (inl lost) =
        let same : dump ≡ session = one_there parts.sessions.dumps.items at dump session there e in
        inl (subst (λ (s : OpenDump). IsTableFor Takes parts s file) same (table_judged file lost.0), lost.1)
    lost_judged file found session e (inr lost) =
        let same : dump ≡ session = one_there parts.sessions.dumps.items at dump session there e in
        inr (lost.0, subst (λ (s : OpenDump). IsParkedFor Takes parts s lost.0) same (parked_judged lost.0 lost.1), lost.2)

    -- what gathering heeds, the plan heeds
    pub gather_heeds : (refusal : Refusal) → IsHeededBy (told parts.journal) (IsTableOf lines.file lines.dropped) (IsKnownOf lines.file head) refusal
        → (session : OpenDump) → slice_get parts.sessions.dumps.items at ≡ Some session
        → IsHeededBy (told parts.journal) (IsTableFor Takes parts session) (IsParkedFor Takes parts session) refusal
    gather_heeds (R.Broken rule) heeds session e = there_judged session e heeds
    gather_heeds (R.Damaged file found) heeds session e = lost_judged file found session e heeds
    gather_heeds R.DiskFault heeds session e = tt
    gather_heeds R.Memory heeds session e = tt
    gather_heeds R.Halted heeds session e = absurd heeds

    -- the plan that was built behind it
    pub built_heeds : AreThere (told parts.journal) (IsTableOf lines.file lines.dropped) (IsKnownOf lines.file head)
        → (session : OpenDump) → slice_get parts.sessions.dumps.items at ≡ Some session
        → AreThere (told parts.journal) (IsTableFor Takes parts session) (IsParkedFor Takes parts session)
    built_heeds are session e = there_judged session e are

-- a dump whose host isn't there calls for no file
pub broken_heeds : {D N S : Type 0} {d : DiskGhosts D} {n : NamerGhosts N S} (Takes : ℕ → Type 0) (parts : StoreParts D N S d n) (at : ℕ)
    (dump : OpenDump) → slice_get parts.sessions.dumps.items at ≡ Some dump
    → ((index : Index) → slice_get parts.catalog.hosts dump.host ≡ Some index → Takes index.next → ⊥)
    → (session : OpenDump) → slice_get parts.sessions.dumps.items at ≡ Some session
    → AreThere (told parts.journal) (IsTableFor Takes parts session) (IsParkedFor Takes parts session)
broken_heeds Takes parts at dump there broken session e = record {
  tables = λ all file is calls. absurd (none calls.index calls.here calls.takes);
  partial = λ all host is calls. absurd (none calls.index calls.here calls.takes);
}
  where
    none : (index : Index) → slice_get parts.catalog.hosts session.host ≡ Some index → Takes index.next → ⊥
    none index here takes =
        broken index
        (subst (λ (s : OpenDump). slice_get parts.catalog.hosts s.host ≡ Some index) (one_there parts.sessions.dumps.items at session dump e there)
        here) takes
