-- What is known of a store at the end of a list of calls.
--     is_halted state
--     halted_rose      a store that was at work halts only if the disk's count rose
--     left_of      the images of its disk stand for one of the two offices of its state
--     second_left      no host but its old ones has a table of the first layout in any of them
use Rattle.std.specs.Prelude.{◌≤◌, ◌||◌, Option, Some, None, is_some, option_map}
use Rattle.std.proofs.Common.{◌≡◌, ℕ, Bool, true, false, List, [], ◌∷◌, Ok, Err, refl, sym, ap, ◌∙◌, subst, arith}
use Rattle.std.proofs.lemmas.Bool.{false≢true}
use Rattle.fault_counts.specs.Counts.{Rose}
use Rattle.disk_trait.specs.declared.disk.Disk.{Ghosts as DiskGhosts}
use Rattle.disk_trait.specs.Files.{Files}
use Rattle.pool_name.specs.declared.namer.Namer.{Ghosts as NamerGhosts}
use Rattle.disk_trait.specs.declared.ids.FileId.TheVariants.{Table}
use Rattle.journal_view.specs.Found.{seen, IsAlikeBut}
use Rattle.journal_view.specs.View.{uncertain, FindsNow}
use Rattle.journal_view.specs.ViewLaws.{FindsNow-each, working_finds}
use Rattle.office_files.specs.TableLayouts.{AreSecondBut}
use Rattle.office_files.specs.TableLayoutLaws.{second_alike}
use Rattle.office_model.specs.declared.event.Event.{Event}
use Rattle.office_model.specs.declared.refusal.Refusal.TheVariants.{Broken, Halted as HaltedReply, DiskFault, Damaged, Memory}
use Rattle.office_model.specs.Meaning.{Reply}
use Rattle.office_model.specs.Office.{Office, Durable, Names}
use Rattle.office_model.specs.Step.{State, Running, Halted, IsStep, names_of}
use Rattle.office_model.specs.History.{Entry, GoesOn, IsUndamaged, IsHistory, last_state, last_faults}
use Rattle.store_parts.specs.States.{InState}
use Rattle.store_opening.specs.Opens.{IsOf}
use Rattle.store_opening.specs.Reopens.{first_of, second_of}
use Rattle.office_store.specs.declared.store.Store.{Store}
use Rattle.office_store.specs.ServesLaws.{found_either}

abbrev pub is_halted : State → Bool
is_halted (Running office names) = false
is_halted (Halted before next names) = true

-- an office at work is halted by a fault of the disk alone
halts_by : (old : Office) (names : Names) (event : Event) (reply : Reply) (before next : Durable) (names' : Names)
    → IsStep (Running old names) event reply (Halted before next names') → IsUndamaged reply → reply ≡ Err DiskFault
halts_by old names event (Ok answer) before next names' step undamaged = absurd step.0
halts_by old names event (Err (Broken rule)) before next names' step undamaged = absurd step.0
halts_by old names event (Err HaltedReply) before next names' step undamaged = absurd step.0
halts_by old names event (Err DiskFault) before next names' step undamaged = refl
halts_by old names event (Err (Damaged file found)) before next names' step undamaged = absurd undamaged
halts_by old names event (Err Memory) before next names' step undamaged = absurd step.0

later_faults : (state : State) (faults : ℕ) (entries : List Entry) → IsHistory state faults entries → faults ≤ last_faults faults entries
later_faults state faults [] legal = omega arith
later_faults state faults (entry ∷ entries) legal =
    omega (arith, legal.0.later, later_faults entry.state entry.faults entries legal.1)

pub rose_before : (a b c : ℕ) → a ≤ b → Rose b c → Rose a c
rose_before a b c le rose = omega (arith, le, rose)

pub rose_after : (a b c : ℕ) → Rose a b → b ≤ c → Rose a c
rose_after a b c rose le = omega (arith, rose, le)

pub halted_rose : (state : State) (faults : ℕ) (entries : List Entry) → IsHistory state faults entries → is_halted state ≡ false
    → is_halted (last_state state entries) ≡ true → Rose faults (last_faults faults entries)
halted_rose state faults [] legal working halted = absurd (false≢true (sym working ∙ halted))
halted_rose (Halted before next names) faults (entry ∷ entries) legal working halted = absurd (false≢true (sym working))
halted_rose (Running office names) faults (entry ∷ entries) legal working halted =
    by entry.state legal.0.step legal.1 halted
    (λ state rest working halted. halted_rose state entry.faults entries rest working halted)
  where
    by : (next : State) → IsStep (Running office names) entry.event entry.reply next → IsHistory next entry.faults entries
        → is_halted (last_state next entries) ≡ true
        → ((state : State) → IsHistory state entry.faults entries → is_halted state ≡ false → is_halted (last_state state entries) ≡ true
        → Rose entry.faults (last_faults entry.faults entries)) → Rose faults (last_faults entry.faults entries)
    by (Running after names') step rest halted later =
        rose_before faults entry.faults (last_faults entry.faults entries) legal.0.later (later (Running after names') rest refl halted)
    by (Halted a b names') step rest halted later =
        rose_after faults entry.faults (last_faults entry.faults entries)
        (legal.0.cause (halts_by office names entry.event entry.reply a b names' step legal.0.undamaged))
        (later_faults (Halted a b names') entry.faults entries rest)

-- a disk that tells what a store sees of it tells its files
tells_files : (files : Option Files) (all : Files) → option_map seen files ≡ Some all → is_some files ≡ true
tells_files (Some files) all e = refl
tells_files None all e = absurd cc

seen_tells : (files : Option Files) → is_some (option_map seen files) ≡ true → is_some files ≡ true
seen_tells (Some files) e = refl
seen_tells None e = absurd (false≢true e)

module _ {D N S : Type 0} {d : DiskGhosts D} {n : NamerGhosts N S} where
  pub halted_as : (store : Store D N S d n) (state : State) → InState store.parts state
      → (store.parts.halted || store.parts.journal.halted) ≡ is_halted state
  halted_as store (Running office names) at = λ i. at.ready i || at.journal_ready i
  halted_as store (Halted a b names) at = λ i. at.stuck i || store.parts.journal.halted

  pub left_of : (store : Store D N S d n) (state : State) → InState store.parts state
      → IsOf n.digest_of (d.files store.parts.journal.disk) (d.uncertain store.parts.journal.disk) (first_of state) (second_of state)
  left_of store (Running office names) at =
      record { each = found_either store (Running office names) at; tells = tells_files (d.files store.parts.journal.disk) at.all at.told_is }
  left_of store (Halted a b names) at =
      record { each = found_either store (Halted a b names) at; tells = seen_tells (d.files store.parts.journal.disk) at.may_be.tells }

  pub second_left : (store : Store D N S d n) (state : State) → InState store.parts state
      → FindsNow store.parts.journal (AreSecondBut (names_of state).old_hosts)
  second_left store (Running office names) at =
      FindsNow-each (IsAlikeBut at.all (uncertain store.parts.journal)) (AreSecondBut names.old_hosts) store.parts.journal
      (λ found alike. second_alike names.old_hosts at.all found (λ host number. alike.metadata (Table host number) refl) at.second)
      (working_finds store.parts.journal at.all at.journal_ready at.told_is)
  second_left store (Halted a b names) at = at.second
