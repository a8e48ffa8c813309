-- A run of `demo`, from what the layers below it say.
--     does_demo, demo_complete
use Rattle.std.specs.Prelude.{◌||◌}
use Rattle.std.proofs.Common.{◌≡◌, ℕ, ◌-◌, ◌^◌, ◌<◌, Bool, true, false, List, Option, refl, sym, ◌∙◌, subst, inl, inr, arith}
use Rattle.fault_counts.specs.Counts.{Rose}
use Rattle.disk_trait.specs.declared.disk.Disk.{Ghosts as DiskGhosts}
use Rattle.pool_name.specs.declared.namer.Namer.{Ghosts as NamerGhosts}
use Rattle.pool_changes.specs.Kept.{slots_of}
use Rattle.pool_store.specs.Opening.{AreThePoolFiles}
use Rattle.office_model.specs.Office.{Durable, reopened}
use Rattle.office_model.specs.Step.{Call}
use Rattle.store_opening.specs.Opens.{IsOf, Opened}
use Rattle.store_opening.specs.Settles.{ComesToOne}
use Rattle.store_opening.specs.KeptTables.{HasTablesFound}
use Rattle.journal_view.specs.View.{FindsNow}
use Rattle.serve_workers.specs.Stores.{Store, DirectPort, Moves, is_stopped}
use Rattle.stream_traits.specs.Seen.{LinkSeen}
use Rattle.settings_file.specs.declared.read.Settings.{Settings}
use Rattle.settings_file.specs.Document.{IsSettings}
use Rattle.demo_work.specs.declared.ends.DemoEnd.{DemoEnd}
use Rattle.demo_work.specs.declared.ends.DemoEnd.TheVariants as E
use Rattle.demo_work.specs.Ends.{Ends, Shows}
use Rattle.demo_work.specs.Texts.{text_of}
use Rattle.command_line.specs.Line.{Line, Demo}
use Rattle.admin_cli.specs.declared.note.Note.{Note}
use Rattle.admin_cli.specs.declared.note.Note.TheVariants as N
use Rattle.admin_cli.specs.Command.{AsksFor}
use Rattle.admin_cli.specs.Demos.{note_of_demo, HasDemoCause, DoesDemo}
use Rattle.admin_cli.specs.Folders.{IsCauseAtWork}
use Rattle.admin_cli.specs.Nights.{Says}
use Rattle.admin_cli.specs.Run.{IsServed, IsComplete}
use Rattle.admin_cli.proofs.DemoForeign.{demo_names}
use Rattle.admin_cli.proofs.DemoStops.{demo_stops}
use Rattle.admin_cli.proofs.EndLaws.{rule_ends, call_ends, all_ends, said_rose}
use Rattle.admin_cli.proofs.FolderStops.{wider}
use Rattle.admin_cli.proofs.RefusalLaws.{file_of}
use Rattle.admin_cli.proofs.CauseLaws.{demo_fails}
use Rattle.admin_cli.proofs.RunLaws.{is_served, leads, EndsWell}

-- ---- a run that opened its store

has_cause : {D : Type 0} (d : DiskGhosts D) (digest_of : List ℕ → List ℕ) (disk disk' : D) (calls : List Call) (halted : Bool)
    (a b : Durable) (number : ℕ) (end : DemoEnd) → Ends number end calls → IsServed d digest_of disk disk' calls halted a b
    → HasDemoCause end (d.fault_count disk) (d.fault_count disk')
has_cause d digest_of disk disk' calls halted a b number (E.Done summary) ends served = tt
has_cause d digest_of disk disk' calls halted a b number E.Occupied ends served = tt
has_cause d digest_of disk disk' calls halted a b number (E.Refused refusal) ends served =
    wider refusal (d.fault_count disk) served.opening (d.fault_count disk') (d.fault_count disk') served.since (omega arith)
    (subst (λ (k : ℕ). IsCauseAtWork refusal served.opening k) (sym served.history.faults_is)
    (demo_stops (reopened served.office) served.names served.opening served.history.entries ends.stopped.before ends.stopped.event refusal
    served.history.legal (sym served.history.calls_are ∙ ends.stopped.parts) ends.stopped.passed))
has_cause d digest_of disk disk' calls halted a b number E.Memory ends served = tt

module _ {D N S : Type 0} {d : DiskGhosts D} {n : NamerGhosts N S} (disk : D) (store store' : Store D N S d n)
    (settles : (a b : Durable) → IsOf n.digest_of (d.files disk) (d.uncertain disk) a b
    → (o : Opened a b store.parts) × ComesToOne d n.digest_of disk store.parts.journal.disk a b o.office
    × FindsNow store.parts.journal (HasTablesFound (d.files disk) (d.uncertain disk)))
    (calm : d.fault_count store.parts.journal.disk ≡ d.fault_count disk)
    (listed : AreThePoolFiles (d.files disk) (slots_of store.parts.pool.names))
    (ready : is_stopped store.parts ≡ false) where
  pub does_demo : (number : ℕ) (line : Option Line) (settings : List ℕ) (read : Settings) (port port' : DirectPort D N S d n)
      (link link' : LinkSeen) (moments : Option (List ℕ)) (end : DemoEnd) (disk' : D) (failed halted : Bool) (note : Note)
      → AsksFor (Demo number) line → IsSettings settings read → port.store ≡ store
      → Shows (λ (p : DirectPort D N S d n) calls (q : DirectPort D N S d n). Moves p.store calls q.store) port port' number end
      → Says (text_of end) link link' failed
      → store' ≡ port'.store → disk' ≡ store'.parts.journal.disk → halted ≡ (store'.parts.halted || store'.parts.journal.halted)
      → note ≡ note_of_demo end failed halted
      → DoesDemo d n.digest_of disk disk' line settings link link' moments moments note
  does_demo number line settings read port port' link link' moments end disk' failed halted note
      asked is_read port_is shows says store_is disk_is halted_is note_is =
      let moved : Moves store shows.calls store' =
      subst (λ q. Moves store shows.calls q) (sym store_is) (subst (λ p. Moves p shows.calls port'.store) port_is shows.moved) in
      rw (note_is, disk_is, halted_is) (record {
        number = number;
        asked = asked;
        read = file_of settings read is_read;
        end = end;
        failed = failed;
        halted = store'.parts.halted || store'.parts.journal.halted;
        shows = record {
          calls = shows.calls;
          moved = leads disk store store' settles calm listed ready shows.calls moved;
          ends = shows.ends;
        };
        says = says;
        cause = λ a b stands.
            let served = is_served disk store store' settles calm listed ready shows.calls moved a b stands in (
              has_cause d n.digest_of disk store'.parts.journal.disk shows.calls _ a b number end shows.ends served,
              served.rose,
            );
        later = omega (arith, calm, moved.later);
        unasked = refl;
        foreign = λ file named.
            demo_names store store' shows.calls number end failed (store'.parts.halted || store'.parts.journal.halted) file moved shows.ends
            named;
        stops = λ is.
            demo_fails d n.digest_of disk store'.parts.journal.disk (store'.parts.halted || store'.parts.journal.halted) shows.calls
            (leads disk store store' settles calm listed ready shows.calls moved) number end failed shows.ends is;
        note_is = refl;
      })

-- ---- how it ends

module _ {D : Type 0} (d : DiskGhosts D) (digest_of : List ℕ → List ℕ) (disk disk' : D) (linked linked' : ℕ) (note : Note) where
  demo_ends : (a b : Durable) (end : DemoEnd) (failed halted : Bool) (link link' : LinkSeen) → link.faults ≡ linked → link'.faults ≡ linked'
      → Says (text_of end) link link' failed → HasDemoCause end (d.fault_count disk) (d.fault_count disk')
      → (halted ≡ true → Rose (d.fault_count disk) (d.fault_count disk'))
      → d.fault_count disk < 2 ^ 64 - 1 → d.fault_count disk' ≡ d.fault_count disk → linked < 2 ^ 64 - 1 → linked' ≡ linked
      → EndsWell d digest_of disk disk' linked linked' note (note_of_demo end failed halted) a b
  demo_ends a b (E.Done summary) failed halted link link' is is' says cause stopped m same l same_link =
      all_ends d digest_of disk disk' linked linked' note a b m same l same_link failed halted
      (said_rose d digest_of disk disk' linked linked' note a b m same l same_link (text_of (E.Done summary)) link link' failed is is' says)
      stopped
  demo_ends a b E.Occupied failed halted link link' is is' says cause stopped m same l same_link =
      rule_ends d digest_of disk disk' linked linked' note a b m same l same_link N.StoreNotEmpty halted (inr (inl refl)) stopped
  demo_ends a b (E.Refused refusal) failed halted link link' is is' says cause stopped m same l same_link =
      call_ends d digest_of disk disk' linked linked' note a b m same l same_link refusal halted cause stopped
  demo_ends a b E.Memory failed halted link link' is is' says cause stopped m same l same_link = inr (inr (inl refl))

  pub demo_complete : (doors doors' : List ℕ) (entered entered' : ℕ) (line : Option Line) (settings : List ℕ) (link link' : LinkSeen)
      (moments moments' : Option (List ℕ)) → DoesDemo d digest_of disk disk' line settings link link' moments moments' note
      → link.faults ≡ linked → link'.faults ≡ linked'
      → IsComplete d digest_of disk disk' line settings linked linked' doors doors' entered entered' note
  demo_complete doors doors' entered entered' line settings link link' moments moments' s is is' =
      λ a b stands said file m same l same_link calm g same_folder.
      subst (λ (told : Note). EndsWell d digest_of disk disk' linked linked' note told a b) (sym s.note_is)
      (demo_ends a b s.end s.failed s.halted link link' is is' s.says (s.cause a b stands).0 (s.cause a b stands).1 m same l same_link)
