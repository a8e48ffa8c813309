-- A run of `pipe`, and one that opened no store, from what the layers below it say.
--     is_served, leads      the calls lead from the disk that came in to that handed back
--     serves, refuses_early, lacks_memory, is_cause, refuses
--     serves_complete, refused_complete, refused_tells      how such runs end
use Rattle.std.specs.Prelude.{IsSome, ◌||◌, ◌⊎◌, ◌++◌}
use Rattle.std.proofs.Common.{◌≡◌, ℕ, ◌-◌, ◌^◌, ◌<◌, Bool, true, false, List, Option, None, Some, refl, sym, ap, ◌∙◌, subst, inl, inr, arith}
use Rattle.fault_counts.specs.Counts.{Rose}
use Rattle.disk_trait.specs.declared.disk.Disk.{Ghosts as DiskGhosts}
use Rattle.disk_trait.specs.Files.{Files}
use Rattle.disk_trait.specs.ImagesLaws.{leaves_wider, only_wider}
use Rattle.pool_name.specs.declared.namer.Namer.{Ghosts as NamerGhosts}
use Rattle.journal_view.specs.FoundLaws.{finds_wider}
use Rattle.pool_changes.specs.Kept.{slots_of}
use Rattle.pool_store.specs.Opening.{AreThePoolFiles}
use Rattle.office_model.specs.Office.{Durable, raised, reopened}
use Rattle.office_model.specs.Step.{Call, Running}
use Rattle.store_opening.specs.declared.fault.OpenRefusal.{OpenRefusal}
use Rattle.store_opening.specs.declared.fault.OpenRefusal.TheVariants as O
use Rattle.store_opening.specs.Opens.{IsOf, HasLast, Opened}
use Rattle.store_parts.specs.Held.{IsEither}
use Rattle.store_opening.specs.Settles.{ComesToOne}
use Rattle.store_opening.specs.KeptTables.{HasTablesFound}
use Rattle.journal_view.specs.View.{FindsNow}
use Rattle.store_opening.specs.SettlesLaws.{only_after}
use Rattle.serve_workers.specs.Stores.{Store, DirectPort, MayRecoverIn, Moves, Goes, is_stopped, HasStopCause, halted_since, failed_since, is_halted, halted_rose, halted_as, left_of, second_left}
use Rattle.store_opening.specs.KeptTablesLaws.{old_found}
use Rattle.stream_traits.specs.Seen.{LinkSeen}
use Rattle.request_events.specs.declared.defaults.Defaults.{Defaults}
use Rattle.settings_file.specs.declared.read.Settings.{Settings}
use Rattle.settings_file.specs.declared.fault.SettingsFault.TheVariants as F
use Rattle.settings_file.specs.Document.{IsSettings}
use Rattle.browse_http.specs.declared.end.End.{End}
use Rattle.browse_http.specs.declared.end.End.TheVariants.{Ended, Truncated, BadRequest, LinkFault, Memory, Cut}
use Rattle.browse_http.specs.Talk.{ServesLink, calls_of}
use Rattle.admin_cli.specs.declared.note.Note.{Note}
use Rattle.admin_cli.specs.declared.note.Note.TheVariants.{EpochsSpent, NoMemory}
use Rattle.admin_cli.specs.Statuses.{status_of}
use Rattle.command_line.specs.Line.{Line, Task, Pipe}
use Rattle.admin_cli.specs.Command.{AsksFor}
use Rattle.admin_cli.specs.Asked.{IsSettingsFile, defaults_of, IsRefused, TellsRefusals}
use Rattle.admin_cli.specs.Run.{note_of, note_of_refusal, StandsForEither, IsServed, LeadsOnDisk, Serves, IsUnopened, IsNotOpened, IsCause, Refuses, IsComplete}
use Rattle.admin_cli.proofs.RefusalLaws.{none_said, said_task, file_of, refused_for_memory, tells_refused, tells_unopened}

module _ {D N S : Type 0} {d : DiskGhosts D} {n : NamerGhosts N S} (disk : D) (store store' : Store D N S d n)
    (settles : (a b : Durable) → IsOf n.digest_of (d.files disk) (d.uncertain disk) a b
    → (o : Opened a b store.parts) × ComesToOne d n.digest_of disk store.parts.journal.disk a b o.office
    × FindsNow store.parts.journal (HasTablesFound (d.files disk) (d.uncertain disk)))
    (calm : d.fault_count store.parts.journal.disk ≡ d.fault_count disk)
    (listed : AreThePoolFiles (d.files disk) (slots_of store.parts.pool.names))
    (ready : is_stopped store.parts ≡ false) where
  pub is_served : (calls : List Call) → Moves store calls store' → (a b : Durable) → StandsForEither d n.digest_of disk a b
      → IsServed d n.digest_of disk store'.parts.journal.disk calls (store'.parts.halted || store'.parts.journal.halted) a b
  is_served calls moved a b stands =
      let w = settles a b stands in
      let o = w.0 in
      let g = moved.goes (Running (reopened o.office) o.names) o.running o.running.sound in
      record {
        office = o.office;
        is_one = o.is_one;
        names = o.names;
        sound = o.running.sound;
        digest = o.running.digest;
        listed = λ all is id. (
          (λ among. sym (listed all is id) ∙ o.running.used.slot id among),
          (λ there. o.running.used.among id (listed all is id ∙ there)),
        );
        older = old_found store.parts.journal o.running.all o.running.journal_ready o.running.told_is o.names.old_hosts (d.files disk)
            (d.uncertain disk) o.older w.2;
        opening = d.fault_count store.parts.journal.disk;
        since = omega (arith, calm);
        last = g.next;
        history = g.leads;
        left = left_of store' g.next g.in_state;
        second = second_left store' g.next g.in_state;
        halted_is = halted_as store' g.next g.in_state;
        rose = λ halted. rose_of o g halted;
        synced = w.1.synced;
        up_to = w.1.up_to;
        crash = only_after
            (only_wider w.1.from_then
            (λ image finds. finds_wider (IsEither n.digest_of o.office (raised o.office)) (during o) image (λ found may. inl may) finds))
            (leaves_wider g.crash (λ image finds. finds_wider (MayRecoverIn n.digest_of
            (Running (reopened o.office) o.names) (d.fault_count store.parts.journal.disk) calls) (during o) image (λ found may. inr may) finds));
      }
    where
      during : Opened a b store.parts → Files → Type 0
      during o found =
          IsEither n.digest_of o.office (raised o.office) found
          ⊎ MayRecoverIn n.digest_of (Running (reopened o.office) o.names) (d.fault_count store.parts.journal.disk) calls found

      rose_of : (o : Opened a b store.parts) (g : Goes store (Running (reopened o.office) o.names) calls store')
          → (store'.parts.halted || store'.parts.journal.halted) ≡ true
          → Rose (d.fault_count disk) (d.fault_count store'.parts.journal.disk)
      rose_of o g halted =
          subst (λ (k : ℕ). Rose k (d.fault_count store'.parts.journal.disk)) calm
          (subst (λ (k : ℕ). Rose (d.fault_count store.parts.journal.disk) k) (sym g.leads.faults_is)
          (halted_rose (Running (reopened o.office) o.names) (d.fault_count store.parts.journal.disk) g.leads.entries g.leads.legal refl
          (ap is_halted (sym g.leads.state_is) ∙ sym (halted_as store' g.next g.in_state) ∙ halted)))

  pub leads : (calls : List Call) → Moves store calls store'
      → LeadsOnDisk d n.digest_of (store'.parts.halted || store'.parts.journal.halted) disk calls store'.parts.journal.disk
  leads calls moved = record {
    served = is_served calls moved;
    stopped = λ halted. cause (halted_since store store' calls moved.each ready halted);
    failed = λ failed. cause (failed_since store store' calls moved.each ready failed);
  }
    where
      cause : HasStopCause (d.fault_count store.parts.journal.disk) (d.fault_count store'.parts.journal.disk) calls
          → HasStopCause (d.fault_count disk) (d.fault_count store'.parts.journal.disk) calls
      cause has = subst (λ (k : ℕ). HasStopCause k (d.fault_count store'.parts.journal.disk) calls) calm has

  pub serves : (defaults : Defaults) (line : Option Line) (settings : List ℕ) (read : Settings) (port port' : DirectPort D N S d n) (link link' : LinkSeen) (moments moments' : Option (List ℕ))
      (end : End) (disk' : D) (halted : Bool) (note : Note)
      → AsksFor Pipe line → IsSettings settings read → defaults ≡ defaults_of read → port.store ≡ store
      → ServesLink defaults (λ (p : DirectPort D N S d n) calls (q : DirectPort D N S d n). Moves p.store calls q.store)
      port port' link link' moments moments' end
      → store' ≡ port'.store → disk' ≡ store'.parts.journal.disk → halted ≡ (store'.parts.halted || store'.parts.journal.halted)
      → note ≡ note_of end halted
      → Serves d n.digest_of disk disk' line settings link link' moments moments' note
  serves defaults line settings read port port' link link' moments moments' end disk' halted note asked is_read defaults_is port_is served_by store_is disk_is halted_is note_is =
      let served : ServesLink (defaults_of read) (λ (p : DirectPort D N S d n) calls (q : DirectPort D N S d n). Moves p.store calls q.store)
      port port' link link' moments moments' end =
      subst (λ (added : Defaults). ServesLink added (λ (p : DirectPort D N S d n) calls (q : DirectPort D N S d n). Moves p.store calls q.store)
      port port' link link' moments moments' end) defaults_is served_by in
      let moved : Moves store (calls_of served.talk.exchanges ++ served.talk.made) store' =
      subst (λ q. Moves store (calls_of served.talk.exchanges ++ served.talk.made) q) (sym store_is)
      (subst (λ p. Moves p (calls_of served.talk.exchanges ++ served.talk.made) port'.store) port_is served.talk.moved) in
      rw (note_is, disk_is, halted_is) (record {
        asked = asked;
        read = read;
        is_read = is_read;
        end = end;
        halted = store'.parts.halted || store'.parts.journal.halted;
        talk = record {
          unread = served.unread;
          talk = record {
            exchanges = served.talk.exchanges;
            are = served.talk.are;
            made = served.talk.made;
            moved = leads (calls_of served.talk.exchanges ++ served.talk.made) moved;
            clock = served.talk.clock;
            taken = served.talk.taken;
            left_is = served.talk.left_is;
            quiet = served.talk.quiet;
            begun = served.talk.begun;
            talk = served.talk.talk;
          };
          ahead = served.ahead;
          ahead_is = served.ahead_is;
          few = served.few;
          sent = served.sent;
          counted = served.counted;
        };
        later = omega (arith, calm, moved.later);
        note_is = refl;
      })

-- the words or the settings were refused
pub refuses_early : {D : Type 0} (d : DiskGhosts D) (digest_of : List ℕ → List ℕ) (disk : D) (line : Option Line) (settings : List ℕ)
    (link : LinkSeen) (moments : Option (List ℕ)) (note : Note) → IsRefused line settings note
    → Refuses d digest_of disk disk line settings link link moments moments note
refuses_early d digest_of disk line settings link moments note is =
    record { cause = inl (is, refl); untouched = refl; unasked = refl }

-- the words and the settings were understood, and there was no memory for what connections are served by
pub lacks_memory : {D : Type 0} (d : DiskGhosts D) (digest_of : List ℕ → List ℕ) (disk : D) (line : Option Line) (settings : List ℕ)
    (task : Task) (note : Note) → AsksFor task line → note ≡ NoMemory → IsCause d digest_of disk disk line settings note
lacks_memory d digest_of disk None settings task note asked is = absurd (none_said (said_task None task asked))
lacks_memory d digest_of disk (Some line) settings task note asked is = inl ((F.Memory, is, tt), refl)

-- no store was opened
pub is_cause : {D : Type 0} (d : DiskGhosts D) (digest_of : List ℕ → List ℕ) (disk disk' : D) (line : Option Line) (settings : List ℕ)
    (task : Task) (read : Settings) (refusal : OpenRefusal) (note : Note)
    → AsksFor task line → IsSettings settings read → note ≡ note_of_refusal refusal
    → IsUnopened d digest_of disk disk' refusal → IsCause d digest_of disk disk' line settings note
is_cause d digest_of disk disk' line settings task read refusal note asked is_read note_is is = inr (record {
  asked = said_task line task asked;
  read = file_of settings read is_read;
  refusal = refusal;
  note_is = note_is;
  unopened = is;
})

pub refuses : {D : Type 0} (d : DiskGhosts D) (digest_of : List ℕ → List ℕ) (disk disk' : D) (line : Option Line) (settings : List ℕ)
    (task : Task) (read : Settings) (link : LinkSeen) (moments : Option (List ℕ)) (refusal : OpenRefusal) (note : Note)
    → AsksFor task line → IsSettings settings read → note ≡ note_of_refusal refusal
    → IsUnopened d digest_of disk disk' refusal → Refuses d digest_of disk disk' line settings link link moments moments note
refuses d digest_of disk disk' line settings task read link moments refusal note asked is_read note_is is = record {
  cause = is_cause d digest_of disk disk' line settings task read refusal note asked is_read note_is is;
  untouched = refl;
  unasked = refl;
}

module _ {D : Type 0} (d : DiskGhosts D) (digest_of : List ℕ → List ℕ) (disk disk' : D) (linked linked' : ℕ) (note : Note) where
  abbrev pub EndsWell : Note → Durable → Durable → Type 0
  EndsWell said a b =
      (status_of said ≡ 0) ⊎ ((status_of said ≡ 1) ⊎ ((status_of said ≡ 6) ⊎ ((said ≡ EpochsSpent) × HasLast a b)))

  served_complete : (a b : Durable) (end : End) (halted : Bool) → (end ≡ LinkFault → Rose linked linked')
      → (halted ≡ true → Rose (d.fault_count disk) (d.fault_count disk'))
      → d.fault_count disk < 2 ^ 64 - 1 → d.fault_count disk' ≡ d.fault_count disk → linked < 2 ^ 64 - 1 → linked' ≡ linked
      → EndsWell (note_of end halted) a b
  served_complete a b Memory halted link stopped m same l same_link = inr (inr (inl refl))
  served_complete a b LinkFault halted link stopped m same l same_link =
      let rose : Rose linked linked' = link refl in absurd (omega (arith, rose, l, same_link))
  served_complete a b Ended true link stopped m same l same_link =
      let rose : Rose (d.fault_count disk) (d.fault_count disk') = stopped refl in absurd (omega (arith, rose, m, same))
  served_complete a b Ended false link stopped m same l same_link = inl refl
  served_complete a b Truncated true link stopped m same l same_link =
      let rose : Rose (d.fault_count disk) (d.fault_count disk') = stopped refl in absurd (omega (arith, rose, m, same))
  served_complete a b Truncated false link stopped m same l same_link = inr (inl refl)
  served_complete a b BadRequest true link stopped m same l same_link =
      let rose : Rose (d.fault_count disk) (d.fault_count disk') = stopped refl in absurd (omega (arith, rose, m, same))
  served_complete a b BadRequest false link stopped m same l same_link = inr (inl refl)
  served_complete a b (Cut refusal) true link stopped m same l same_link =
      let rose : Rose (d.fault_count disk) (d.fault_count disk') = stopped refl in absurd (omega (arith, rose, m, same))
  served_complete a b (Cut refusal) false link stopped m same l same_link = inr (inl refl)

  unopened_complete : (a b : Durable) (refusal : OpenRefusal) → StandsForEither d digest_of disk a b
      → IsUnopened d digest_of disk disk' refusal → d.fault_count disk < 2 ^ 64 - 1 → d.fault_count disk' ≡ d.fault_count disk
      → EndsWell (note_of_refusal refusal) a b
  unopened_complete a b (O.Foreign file found) stands is m same = absurd (is.left a b stands)
  unopened_complete a b O.EpochsSpent stands is m same = inr (inr (inr (refl, (is.left a b stands).0)))
  unopened_complete a b O.DiskFault stands is m same =
      let rose : Rose (d.fault_count disk) (d.fault_count disk') = is.counted.rose refl in absurd (omega (arith, rose, m, same))
  unopened_complete a b O.Memory stands is m same = inr (inr (inl refl))

  early_complete : (a b : Durable) (line : Option Line) (settings : List ℕ) → IsRefused line settings note → IsSome line
      → IsSettingsFile settings → EndsWell note a b
  early_complete a b None settings is said file = absurd (none_said said)
  early_complete a b (Some line) settings is said file =
      inr (inr (inl (ap status_of (is.1 ∙ refused_for_memory settings is.0 file is.2))))

  pub refused_complete : (doors doors' : List ℕ) (entered entered' : ℕ) (line : Option Line) (settings : List ℕ)
      → (IsRefused line settings note × (disk' ≡ disk)) ⊎ IsNotOpened d digest_of disk disk' line settings note
      → IsComplete d digest_of disk disk' line settings linked linked' doors doors' entered entered' note
  refused_complete doors doors' entered entered' line settings (inl early) = λ a b stands said file m same l same_link calm g same_folder.
      early_complete a b line settings early.0 said file
  refused_complete doors doors' entered entered' line settings (inr at) = λ a b stands said file m same l same_link calm g same_folder.
      subst (λ (told : Note). EndsWell told a b) (sym at.note_is) (unopened_complete a b at.refusal stands at.unopened m same)

  pub serves_complete : (doors doors' : List ℕ) (entered entered' : ℕ) (line : Option Line) (settings : List ℕ) (link link' : LinkSeen) (moments moments' : Option (List ℕ))
      → Serves d digest_of disk disk' line settings link link' moments moments' note
      → link.faults ≡ linked → link'.faults ≡ linked' → IsComplete d digest_of disk disk' line settings linked linked' doors doors' entered entered' note
  serves_complete doors doors' entered entered' line settings link link' moments moments' s is is' = λ a b stands said file m same l same_link calm g same_folder.
      subst (λ (told : Note). EndsWell told a b) (sym s.note_is)
      (served_complete a b s.end s.halted
      (λ e. subst (λ (k : ℕ). Rose k linked') is (subst (λ (k : ℕ). Rose link.faults k) is' (s.talk.counted.rose e)))
      (s.talk.talk.moved.served a b stands).rose m same l same_link)

  pub refused_tells : (line : Option Line) (settings : List ℕ)
      → (IsRefused line settings note × (disk' ≡ disk)) ⊎ IsNotOpened d digest_of disk disk' line settings note
      → TellsRefusals line settings note
  refused_tells line settings (inl early) = tells_refused line settings note early.0
  refused_tells line settings (inr at) = tells_unopened line settings note at.refusal at.asked at.read at.note_is
