-- A run of `night`, from what the layers below it say.
--     some_nights      a period of settings isn't 0
--     does_night, night_complete
use Rattle.std.specs.Prelude.{◌||◌, if◌then◌else◌, option_and_then}
use Rattle.std.proofs.Common.{◌≡◌, ℕ, zero, suc, ℤ, ◌-◌, ◌^◌, ◌<◌, Bool, true, false, List, Option, None, Some, refl, sym, subst, inl, inr, arith}
use Rattle.toml.specs.Data.{Data}
use Rattle.fault_counts.specs.Counts.{Rose}
use Rattle.wake_schedule.specs.Clock.{local_of}
use Rattle.wake_schedule.specs.Zones.{ahead_at}
use Rattle.disk_trait.specs.declared.disk.Disk.{Ghosts as DiskGhosts}
use Rattle.pool_name.specs.declared.namer.Namer.{Ghosts as NamerGhosts}
use Rattle.office_model.specs.declared.refusal.Refusal.{Refusal}
use Rattle.office_model.specs.declared.refusal.Refusal.TheVariants as R
use Rattle.pool_changes.specs.Kept.{slots_of}
use Rattle.pool_store.specs.Opening.{AreThePoolFiles}
use Rattle.office_model.specs.Office.{Durable, reopened}
use Rattle.office_model.specs.Step.{Call}
use Rattle.store_opening.specs.Opens.{IsOf, Opened}
use Rattle.store_opening.specs.Settles.{ComesToOne}
use Rattle.store_opening.specs.KeptTables.{HasTablesFound}
use Rattle.journal_view.specs.View.{FindsNow}
use Rattle.serve_workers.specs.Stores.{Store, DirectPort, Moves, is_stopped}
use Rattle.stream_traits.specs.Seen.{LinkSeen}
use Rattle.settings_file.specs.declared.read.Settings.{Settings}
use Rattle.settings_file.specs.Values.{if_nights, number_in}
use Rattle.settings_file.specs.declared.key.Key.TheVariants.{BackupPCNightlyPeriod}
use Rattle.settings_file.specs.Document.{value_at, nights_in, IsSettings}
use Rattle.night_work.specs.declared.ends.NightEnd.{NightEnd}
use Rattle.night_work.specs.declared.ends.NightEnd.TheVariants as N
use Rattle.call_scripts.specs.Scripts.{EndRefused, Follows}
use Rattle.night_work.specs.Script.{night_buckets, night_script}
use Rattle.night_work.specs.Ends.{Ends, Works}
use Rattle.night_work.specs.Texts.{text_of}
use Rattle.admin_cli.specs.declared.note.Note.{Note}
use Rattle.command_line.specs.Line.{Line, Night}
use Rattle.admin_cli.specs.Command.{AsksFor}
use Rattle.admin_cli.specs.Nights.{note_of_all, note_of_refused, note_of_night, IsRefusedFor, HasCause, Says, DoesNight}
use Rattle.admin_cli.specs.Run.{IsServed, IsComplete}
use Rattle.admin_cli.proofs.ForeignLaws.{night_foreign}
use Rattle.admin_cli.proofs.CauseLaws.{night_fails}
use Rattle.admin_cli.proofs.RunLaws.{is_served, leads, EndsWell}
use Rattle.admin_cli.proofs.StopLaws.{later_by, night_stops}

-- ---- the period

if_some : (is : Bool) (n m : ℕ) → (if is then Some n else None) ≡ Some m → n ≡ m
if_some true n m e = let is : n ≡ m = cc (e) in is
if_some false n m e = let no : ⊥ = cc (e) in absurd no

some_of : (n m : ℕ) → if_nights n ≡ Some m → 0 < m
some_of zero m e = let no : ⊥ = cc (e) in absurd no
some_of (suc k) m e = let is : suc k ≡ m = if_some _ (suc k) m e in omega (arith, is)

some_in : (n : Option ℕ) (m : ℕ) → option_and_then if_nights n ≡ Some m → 0 < m
some_in None m e = let no : ⊥ = cc (e) in absurd no
some_in (Some n) m e = some_of n m e

some_nights : (value : Option Data) (m : ℕ) → nights_in value ≡ Some m → 0 < m
some_nights None m e = let is : 1 ≡ m = cc (e) in omega (arith, is)
some_nights (Some value) m e = some_in (number_in 1 16 value) m e

pub some_period : (bytes : List ℕ) (read : Settings) → IsSettings bytes read → 0 < read.period
some_period bytes read is = some_nights (value_at BackupPCNightlyPeriod is.document) read.period is.are.period

-- ---- a run that opened its store

has_cause : {D : Type 0} (d : DiskGhosts D) (digest_of : List ℕ → List ℕ) (disk disk' : D) (calls : List Call) (halted : Bool)
    (a b : Durable) (end : NightEnd) (moment : ℕ) (day : ℤ) (period : ℕ) → Ends moment day period end calls
    → IsServed d digest_of disk disk' calls halted a b → HasCause end (d.fault_count disk) (d.fault_count disk')
has_cause d digest_of disk disk' calls halted a b (N.Done night) moment day period ends served = tt
has_cause d digest_of disk disk' calls halted a b N.NotNow moment day period ends served = tt
has_cause d digest_of disk disk' calls halted a b (N.Refused refusal) moment day period ends served =
    later_by refusal (d.fault_count disk) served.opening (d.fault_count disk') served.since
    (subst (λ (k : ℕ). IsRefusedFor refusal served.opening k) (sym served.history.faults_is)
    (night_stops (reopened served.office) served.names served.opening served.history.entries refusal moment day period served.history.legal
    (subst (λ (made : List Call). Follows (night_script moment (night_buckets day period)) made) served.history.calls_are ends.0)
    (subst (λ (made : List Call). EndRefused refusal made) served.history.calls_are ends.1)))
has_cause d digest_of disk disk' calls halted a b N.Memory moment day period ends served = tt

module _ {D N S : Type 0} {d : DiskGhosts D} {n : NamerGhosts N S} (disk : D) (store store' : Store D N S d n)
    (settles : (a b : Durable) → IsOf n.digest_of (d.files disk) (d.uncertain disk) a b
    → (o : Opened a b store.parts) × ComesToOne d n.digest_of disk store.parts.journal.disk a b o.office
    × FindsNow store.parts.journal (HasTablesFound (d.files disk) (d.uncertain disk)))
    (calm : d.fault_count store.parts.journal.disk ≡ d.fault_count disk)
    (listed : AreThePoolFiles (d.files disk) (slots_of store.parts.pool.names))
    (ready : is_stopped store.parts ≡ false) where
  pub does_night : (scheduled : Bool) (line : Option Line) (settings : List ℕ) (read : Settings) (port port' : DirectPort D N S d n)
      (link link' : LinkSeen) (moments moments' : Option (List ℕ)) (end : NightEnd) (disk' : D) (failed halted : Bool) (note : Note)
      → AsksFor (Night scheduled) line → IsSettings settings read → port.store ≡ store
      → Works (λ (p : DirectPort D N S d n) calls (q : DirectPort D N S d n). Moves p.store calls q.store) port port' moments moments'
      read.zone read.wake.items read.period scheduled end
      → Says (text_of end) link link' failed
      → store' ≡ port'.store → disk' ≡ store'.parts.journal.disk → halted ≡ (store'.parts.halted || store'.parts.journal.halted)
      → note ≡ note_of_night end failed halted
      → DoesNight d n.digest_of disk disk' line settings link link' moments moments' note
  does_night scheduled line settings read port port' link link' moments moments' end disk' failed halted note
      asked is_read port_is works says store_is disk_is halted_is note_is =
      let moved : Moves store works.calls store' =
      subst (λ q. Moves store works.calls q) (sym store_is) (subst (λ p. Moves p works.calls port'.store) port_is works.moved) in
      rw (note_is, disk_is, halted_is) (record {
        scheduled = scheduled;
        asked = asked;
        read = read;
        is_read = is_read;
        end = end;
        failed = failed;
        halted = store'.parts.halted || store'.parts.journal.halted;
        works = record {
          moment = works.moment;
          clock = works.clock;
          due = works.due;
          calls = works.calls;
          moved = leads disk store store' settles calm listed ready works.calls moved;
          ends = works.ends;
        };
        says = says;
        cause = λ a b stands.
            has_cause d n.digest_of disk store'.parts.journal.disk works.calls _ a b end works.moment
            (local_of works.moment (ahead_at read.zone works.moment)).day read.period works.ends
            (is_served disk store store' settles calm listed ready works.calls moved a b stands);
        later = omega (arith, calm, moved.later);
        foreign = λ file is.
            night_foreign store store' works.calls works.moment (local_of works.moment (ahead_at read.zone works.moment)).day read.period end
            failed (store'.parts.halted || store'.parts.journal.halted) file moved works.ends is;
        stops = λ is.
            night_fails d n.digest_of disk store'.parts.journal.disk (store'.parts.halted || store'.parts.journal.halted) works.calls
            (leads disk store store' settles calm listed ready works.calls moved) works.moment
            (local_of works.moment (ahead_at read.zone works.moment)).day read.period end failed works.ends is;
        note_is = refl;
      })

-- ---- how it ends

module _ {D : Type 0} (d : DiskGhosts D) (digest_of : List ℕ → List ℕ) (disk disk' : D) (linked linked' : ℕ) (note : Note) where
  all_complete : (a b : Durable) (failed halted : Bool) → (failed ≡ true → Rose linked linked')
      → (halted ≡ true → Rose (d.fault_count disk) (d.fault_count disk'))
      → d.fault_count disk < 2 ^ 64 - 1 → d.fault_count disk' ≡ d.fault_count disk → linked < 2 ^ 64 - 1 → linked' ≡ linked
      → EndsWell d digest_of disk disk' linked linked' note (note_of_all failed halted) a b
  all_complete a b true halted link stopped m same l same_link =
      let rose : Rose linked linked' = link refl in absurd (omega (arith, rose, l, same_link))
  all_complete a b false true link stopped m same l same_link =
      let rose : Rose (d.fault_count disk) (d.fault_count disk') = stopped refl in absurd (omega (arith, rose, m, same))
  all_complete a b false false link stopped m same l same_link = inl refl

  refused_ends : (a b : Durable) (refusal : Refusal) (halted : Bool) → IsRefusedFor refusal (d.fault_count disk) (d.fault_count disk')
      → d.fault_count disk < 2 ^ 64 - 1 → d.fault_count disk' ≡ d.fault_count disk
      → EndsWell d digest_of disk disk' linked linked' note (note_of_refused refusal halted) a b
  refused_ends a b (R.Broken rule) halted cause m same = absurd cause
  refused_ends a b R.Halted halted cause m same = absurd cause
  refused_ends a b R.DiskFault halted cause m same = absurd (omega (arith, cause, m, same))
  refused_ends a b (R.Damaged file found) halted cause m same = absurd cause
  refused_ends a b R.Memory halted cause m same = inr (inr (inl refl))

  night_ends : (a b : Durable) (end : NightEnd) (failed halted : Bool) (link link' : LinkSeen) → link.faults ≡ linked → link'.faults ≡ linked'
      → Says (text_of end) link link' failed → (halted ≡ true → Rose (d.fault_count disk) (d.fault_count disk'))
      → HasCause end (d.fault_count disk) (d.fault_count disk')
      → d.fault_count disk < 2 ^ 64 - 1 → d.fault_count disk' ≡ d.fault_count disk → linked < 2 ^ 64 - 1 → linked' ≡ linked
      → EndsWell d digest_of disk disk' linked linked' note (note_of_night end failed halted) a b
  night_ends a b (N.Done night) failed halted link link' is is' says rose cause m same l same_link =
      all_complete a b failed halted
      (λ e. subst (λ (k : ℕ). Rose k linked') is (subst (λ (k : ℕ). Rose link.faults k) is' (says.counted.rose e)))
      rose m same l same_link
  night_ends a b N.NotNow failed halted link link' is is' says rose cause m same l same_link =
      all_complete a b failed halted
      (λ e. subst (λ (k : ℕ). Rose k linked') is (subst (λ (k : ℕ). Rose link.faults k) is' (says.counted.rose e)))
      rose m same l same_link
  night_ends a b (N.Refused refusal) failed halted link link' is is' says rose cause m same l same_link =
      refused_ends a b refusal halted cause m same
  night_ends a b N.Memory failed halted link link' is is' says rose cause m same l same_link = inr (inr (inl refl))

  pub night_complete : (doors doors' : List ℕ) (entered entered' : ℕ) (line : Option Line) (settings : List ℕ) (link link' : LinkSeen) (moments moments' : Option (List ℕ))
      → DoesNight d digest_of disk disk' line settings link link' moments moments' note
      → link.faults ≡ linked → link'.faults ≡ linked' → IsComplete d digest_of disk disk' line settings linked linked' doors doors' entered entered' note
  night_complete doors doors' entered entered' line settings link link' moments moments' s is is' = λ a b stands said file m same l same_link calm g same_folder.
      subst (λ (told : Note). EndsWell d digest_of disk disk' linked linked' note told a b) (sym s.note_is)
      (night_ends a b s.end s.failed s.halted link link' is is' s.says (s.works.moved.served a b stands).rose (s.cause a b stands)
      m same l same_link)
