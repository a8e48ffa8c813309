-- A run of `serve`, from what the layers below it say.
--     serves_doors, serves_nobody
--     doors_complete, nobody_complete      how such runs end
use Rattle.std.specs.Prelude.{◌||◌, nat_lt}
use Rattle.std.proofs.Common.{◌≡◌, ℕ, ◌-◌, ◌^◌, ◌<◌, Bool, true, false, List, [], ◌∷◌, Option, refl, sym, subst, inl, inr, arith}
use Rattle.std.proofs.lemmas.Bool.Decides.{nat_tests}
use Rattle.fault_counts.specs.Counts.{Rose}
use Rattle.disk_trait.specs.declared.disk.Disk.{Ghosts as DiskGhosts}
use Rattle.pool_name.specs.declared.namer.Namer.{Ghosts as NamerGhosts}
use Rattle.stream_traits.specs.declared.link.Faults.{Ghosts}
use Rattle.pool_changes.specs.Kept.{slots_of}
use Rattle.pool_store.specs.Opening.{AreThePoolFiles}
use Rattle.office_model.specs.Office.{Durable}
use Rattle.store_opening.specs.Opens.{IsOf, Opened}
use Rattle.store_opening.specs.Settles.{ComesToOne}
use Rattle.store_opening.specs.KeptTables.{HasTablesFound}
use Rattle.journal_view.specs.View.{FindsNow}
use Rattle.serve_workers.specs.Stores.{Store, Moves, is_stopped, calls_in}
use Rattle.request_events.specs.declared.defaults.Defaults.{Defaults}
use Rattle.door_server.specs.declared.worker.Worker.{Worker}
use Rattle.serve_workers.specs.Workers.{ServesAll}
use Rattle.settings_file.specs.declared.read.Settings.{Settings}
use Rattle.settings_file.specs.Document.{IsSettings}
use Rattle.admin_cli.specs.declared.note.Note.{Note}
use Rattle.admin_cli.specs.declared.note.Note.TheVariants.{NoMemory}
use Rattle.command_line.specs.Line.{Line, Serve}
use Rattle.admin_cli.specs.Command.{AsksFor}
use Rattle.admin_cli.specs.Asked.{defaults_of}
use Rattle.admin_cli.specs.Run.{IsComplete}
use Rattle.admin_cli.specs.Servers.{has_risen, note_of_served, counts_of, ServesDoors, ServesNobody}
use Rattle.admin_cli.proofs.RunLaws.{leads, EndsWell}

module _ {D N S : Type 0} {d : DiskGhosts D} {n : NamerGhosts N S} (disk : D) (store store' : Store D N S d n)
    (settles : (a b : Durable) → IsOf n.digest_of (d.files disk) (d.uncertain disk) a b
    → (o : Opened a b store.parts) × ComesToOne d n.digest_of disk store.parts.journal.disk a b o.office
    × FindsNow store.parts.journal (HasTablesFound (d.files disk) (d.uncertain disk)))
    (calm : d.fault_count store.parts.journal.disk ≡ d.fault_count disk)
    (listed : AreThePoolFiles (d.files disk) (slots_of store.parts.pool.names))
    (ready : is_stopped store.parts ≡ false) {T C G L : Type 0} (l : Ghosts L)
    (coming given_back : T → Option (List L)) (faults : T → ℕ) (moments_of : C → Option (List ℕ)) where
  pub serves_doors : (defaults : Defaults) (line : Option Line) (settings listen : List ℕ) (connections : Option ℕ) (read : Settings)
      (before after : List (Worker T C G)) (counts : List ℕ) (disk' : D) (failed halted : Bool) (note : Note)
      → AsksFor (Serve listen connections) line → IsSettings settings read → defaults ≡ defaults_of read
      → ServesAll defaults l coming given_back faults moments_of store store' before after
      → counts ≡ counts_of faults before → failed ≡ has_risen counts (counts_of faults after)
      → disk' ≡ store'.parts.journal.disk → halted ≡ (store'.parts.halted || store'.parts.journal.halted)
      → note ≡ note_of_served failed halted
      → ServesDoors d n.digest_of l coming given_back faults moments_of disk disk' line settings before after note
  serves_doors defaults line settings listen connections read before after counts disk' failed halted note
      asked is_read defaults_is served counts_are failed_is disk_is halted_is note_is =
      let all : ServesAll (defaults_of read) l coming given_back faults moments_of store store' before after =
      subst (λ (added : Defaults). ServesAll added l coming given_back faults moments_of store store' before after) defaults_is served in
      let moved : Moves store (calls_in all.log) store' = all.comes.moves in
      rw (note_is, failed_is, counts_are, disk_is, halted_is) (record {
        listen = listen;
        connections = connections;
        asked = asked;
        read = read;
        is_read = is_read;
        halted = store'.parts.halted || store'.parts.journal.halted;
        log = all.log;
        moved = leads disk store store' settles calm listed ready (calls_in all.log) moved;
        each = all.each;
        only = all.only;
        later = omega (arith, calm, moved.later);
        note_is = refl;
      })

  pub serves_nobody : (line : Option Line) (settings listen : List ℕ) (connections : Option ℕ) (read : Settings)
      (before after : List (Worker T C G)) (disk' : D) (note : Note) → AsksFor (Serve listen connections) line → IsSettings settings read
      → Moves store [] store' → after ≡ before → disk' ≡ store'.parts.journal.disk → note ≡ NoMemory
      → ServesNobody d n.digest_of l coming given_back faults moments_of disk disk' line settings before after note
  serves_nobody line settings listen connections read before after disk' note asked is_read moved same disk_is note_is =
      rw disk_is (record {
        listen = listen;
        connections = connections;
        asked = asked;
        read = read;
        is_read = is_read;
        halted = store'.parts.halted || store'.parts.journal.halted;
        moved = leads disk store store' settles calm listed ready [] moved;
        untouched = same;
        later = omega (arith, calm, moved.later);
        note_is = note_is;
      })

-- ---- how it ends

none_rose : (counts : List ℕ) → has_risen counts counts ≡ false
none_rose [] = refl
none_rose (count ∷ counts) =
    let same : nat_lt count count ≡ false = grind (arith, nat_tests) in rw same (none_rose counts)

module _ {D : Type 0} (d : DiskGhosts D) (digest_of : List ℕ → List ℕ) (disk disk' : D) (linked linked' : ℕ) (note : Note) where
  risen_ends : (a b : Durable) (failed halted : Bool) → failed ≡ false → (halted ≡ true → Rose (d.fault_count disk) (d.fault_count disk'))
      → d.fault_count disk < 2 ^ 64 - 1 → d.fault_count disk' ≡ d.fault_count disk
      → EndsWell d digest_of disk disk' linked linked' note (note_of_served failed halted) a b
  risen_ends a b true halted calm stopped m same = let no : ⊥ = cc (calm) in absurd no
  risen_ends a b false true calm stopped m same =
      let rose : Rose (d.fault_count disk) (d.fault_count disk') = stopped refl in absurd (omega (arith, rose, m, same))
  risen_ends a b false false calm stopped m same = inl refl

  module _ {T C G L : Type 0} (l : Ghosts L) (coming given_back : T → Option (List L)) (faults : T → ℕ)
      (moments_of : C → Option (List ℕ)) (line : Option Line) (settings : List ℕ) (before after : List (Worker T C G)) (entered entered' : ℕ) where
    pub doors_complete : ServesDoors d digest_of l coming given_back faults moments_of disk disk' line settings before after note
        → IsComplete d digest_of disk disk' line settings linked linked' (counts_of faults before) (counts_of faults after) entered entered' note
    doors_complete s = λ a b stands said file m same few same_link calm g same_folder.
        subst (λ (told : Note). EndsWell d digest_of disk disk' linked linked' note told a b) (sym s.note_is)
        (risen_ends a b (has_risen (counts_of faults before) (counts_of faults after)) s.halted (rw calm (none_rose (counts_of faults before)))
        (s.moved.served a b stands).rose m same)

    pub nobody_complete : ServesNobody d digest_of l coming given_back faults moments_of disk disk' line settings before after note
        → IsComplete d digest_of disk disk' line settings linked linked' (counts_of faults before) (counts_of faults after) entered entered' note
    nobody_complete s = λ a b stands said file m same few same_link calm g same_folder.
        subst (λ (told : Note). EndsWell d digest_of disk disk' linked linked' note told a b) (sym s.note_is) (inr (inr (inl refl)))
