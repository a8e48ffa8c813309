-- Laws of specs/HostRuns.
--     runs_hosts, runs_hosts_refused      the commit was made, or refused
--     runs_known      what is in memory was read
use Rattle.std.specs.Prelude.{◌≡◌, ℕ, List, Option, Ok, Err}
use Rattle.std.proofs.Common.{refl, sym, ◌∙◌, subst}
use Rattle.disk_trait.specs.declared.disk.Disk.{Ghosts as DiskGhosts}
use Rattle.disk_trait.specs.Files.{Files}
use Rattle.pool_name.specs.declared.namer.Namer.{Ghosts as NamerGhosts}
use Rattle.intent_journal.specs.declared.changes.Change.{Change}
use Rattle.intent_journal.specs.Changes.{AreChanges}
use Rattle.pool_index.specs.Index.{Index}
use Rattle.pool_changes.specs.Listed.{index_of}
use Rattle.backup_views.specs.declared.kept.KeptView.{KeptView}
use Rattle.ref_counts.specs.Numbers.{Items}
use Rattle.host_partials.specs.declared.held.PartialHead.{PartialHead}
use Rattle.office_catalog.specs.Known.{Known}
use Rattle.office_model.specs.declared.answer.Answer.{Answer}
use Rattle.office_model.specs.declared.event.Event.{Event}
use Rattle.office_model.specs.declared.refusal.Refusal.{Refusal}
use Rattle.office_model.specs.Office.{Office, Names, with_hosts}
use Rattle.office_model.specs.Step.{IsAnswerTo, meaning_of}
use Rattle.office_model.specs.UsedNames.{AreNamesAfter}
use Rattle.office_model.specs.laws.StateLaws.{AreSound-carried}
use Rattle.office_files.specs.TableLayoutLaws.{second_applied}
use Rattle.store_parts.specs.declared.parts.StoreParts.{StoreParts}
use Rattle.store_parts.specs.Held.{AreCountsOf}
use Rattle.store_parts.specs.States.{slots, IsRunning}
use Rattle.store_parts.specs.Runs.{IsCarried, Runs}
use Rattle.store_parts.specs.Writes.{Writes}
use Rattle.store_parts.specs.StepLaws.{IsCommitting, carried_plain}
use Rattle.store_parts.specs.RunLaws.{reads_still, runs_reads, counted_still}
use Rattle.store_parts.specs.WriteLaws.{LeadsTo, LeavesIndex, runs_write_refused, runs_written, running_hosts}
use Rattle.store_hosts.specs.Made.{IsMade}
use Rattle.store_hosts.specs.HostRuns.{ChangesHosts, Changing}

leads_hosts : (digest_of : List ℕ → List ℕ) (index : Index) (kept : Option KeptView) (event : Event) (answer : Answer)
    (changes : List Change)
    (known : Known) (counts : List Items) (partials : List (Option PartialHead)) (office : Office) (names : Names) (all : Files)
    → ChangesHosts digest_of index kept event answer changes known counts partials office names all
    → LeadsTo digest_of event changes office names all
leads_hosts digest_of index kept event answer changes known counts partials office names all c = record {
  carried = record { answer = answer; after = with_hosts office c.hosts };
  judged = carried_plain event office names (record { answer = answer; after = with_hosts office c.hosts }) c.plain c.judged;
  stands = record { index = index; shown = c.shown; stands = c.stands };
  second = c.second;
}

module _ {D N S : Type 0} {d : DiskGhosts D} {n : NamerGhosts N S} where
  pub runs_hosts : (old new : StoreParts D N S d n) (event : Event) (answer : Answer) (changes : List Change) (known : Known)
      (counts : List Items) (partials : List (Option PartialHead)) → IsMade old changes known counts partials new → AreChanges changes → LeavesIndex changes
      → Changing old event answer changes known counts partials
      → ((office : Office) (names : Names) → AreNamesAfter office names (meaning_of event) (Ok answer) names) → IsAnswerTo event answer
      → Runs old event (Ok answer) new
  unfolding leads_hosts
  runs_hosts old new event answer changes known counts partials made are leaves step stay in_kind =
      runs_written old made.mid new event answer changes tt made.writes made.journal_same made.halted_same (λ office names at.
      let c = step office names at in
      record {
        leads = leads_hosts n.digest_of (index_of (slots old)) old.views.kept event answer changes known counts partials office names at.all c;
        answer_is = refl;
        running = running_hosts old made.mid new office c.hosts names at changes tt c.shown made.writes are leaves c.stands c.view
            (subst (λ (cs : List Items). AreCountsOf cs c.shown) (sym made.counts_are) c.counted) (made.partials_are ∙ c.parked)
            (AreSound-carried office names event answer (with_hosts office c.hosts) names at.sound
            (carried_plain event office names (record { answer = answer; after = with_hosts office c.hosts }) c.plain c.judged) (stay office names))
            (second_applied names.old_hosts at.all changes c.second at.second)
            made.journal_same made.pool_same (made.catalog_is ∙ c.known_is) made.sessions_same made.views_same made.halted_same;
      }) stay in_kind

  pub runs_hosts_refused : (old new : StoreParts D N S d n) (event : Event) (answer : Answer) (changes : List Change) (known : Known)
      (counts : List Items) (partials : List (Option PartialHead)) (refusal : Refusal) → Writes old changes (Err refusal) new → Changing old event answer changes known counts partials
      → ((office : Office) (names : Names) → IsCommitting ((meaning_of event).touches office names)) → Runs old event (Err refusal) new
  runs_hosts_refused old new event answer changes known counts partials refusal writes step touch =
      runs_write_refused old new event changes refusal writes (λ office names at.
      leads_hosts n.digest_of (index_of (slots old)) old.views.kept event answer changes known counts partials office names at.all
      (step office names at)) (λ office names at. touch office names)

  -- an event that reads what is in memory
  pub runs_known : (old : StoreParts D N S d n) (event : Event) (answer : Answer)
      → ((office : Office) (names : Names) → IsRunning old office names
      → IsCarried event office names (record { answer = answer; after = office }))
      → ((office : Office) (names : Names) → AreNamesAfter office names (meaning_of event) (Ok answer) names) → IsAnswerTo event answer
      → Runs old event (Ok answer) old
  runs_known old event answer carried stay in_kind =
      runs_reads old old event (Ok answer) (reads_still old) (λ office names at. (carried office names at, stay office names))
      (λ office names at. tt) in_kind (λ e. absurd cc)
      (counted_still (d.fault_count old.journal.disk) _ (λ e. absurd cc))
