-- What the disk tells behind a call that found a damaged file, and behind an abort.
--     split      calls one after the other
--     IsLast, IsAborted      a call was refused so, and it was the last, or an abort came behind it
--     last_damaged, aborted_damaged      it named a file that the disk handed back has damaged
use Rattle.std.proofs.Common.{◌≡◌, ℕ, List, [], ◌∷◌, ◌++◌, Option, Err, refl, sym, ap, ◌∙◌, subst}
use Rattle.disk_trait.specs.declared.ids.FileId.{FileId}
use Rattle.disk_trait.specs.declared.disk.Disk.{Ghosts as DiskGhosts}
use Rattle.pool_name.specs.declared.namer.Namer.{Ghosts as NamerGhosts}
use Rattle.journal_view.specs.View.{told}
use Rattle.receipts.specs.declared.session.SessionName.{SessionName}
use Rattle.office_model.specs.declared.event.Event.{Event}
use Rattle.office_model.specs.declared.event.Event.TheVariants as E
use Rattle.office_model.specs.declared.refusal.Refusal.{Refusal}
use Rattle.office_model.specs.declared.refusal.Refusal.TheVariants as R
use Rattle.office_model.specs.Meaning.{Reply}
use Rattle.office_model.specs.Step.{Call}
use Rattle.serve_workers.specs.Stores.{Store, AreServed, IsDamagedFile, NamesTables, any_damaged, damaged_file}

pub record IsLast (refusal : Refusal) (calls : List Call) : Type 0 where
  pub before : List Call
  pub event : Event
  pub names : NamesTables event
  pub parts : calls ≡ before ++ (event, Err refusal) ∷ []

pub record IsAborted (refusal : Refusal) (calls : List Call) : Type 0 where
  pub made : List Call
  pub last : IsLast refusal made
  pub dump : SessionName
  pub reply : Reply
  pub parts : calls ≡ made ++ (E.Abort dump, reply) ∷ []

module _ {D N S : Type 0} {d : DiskGhosts D} {n : NamerGhosts N S} where
  pub record AreSplit (old : Store D N S d n) (xs ys : List Call) (new : Store D N S d n) : Type 0 where
    pub mid : Store D N S d n
    pub first : AreServed old xs mid
    pub rest : AreServed mid ys new

  pub split : (old new : Store D N S d n) (xs ys : List Call) → AreServed old (xs ++ ys) new → AreSplit old xs ys new
  split old new [] ys served = record { mid = old; first = refl; rest = served }
  split old new (x ∷ xs) ys served =
      let more = split served.0 new xs ys served.2 in
      record { mid = more.mid; first = (served.0, served.1, more.first); rest = more.rest }

  -- an abort leaves what the disk tells
  pub abort_told : (old new : Store D N S d n) (dump : SessionName) (reply : Reply) → AreServed old ((E.Abort dump, reply) ∷ []) new
      → told new.parts.journal ≡ told old.parts.journal
  abort_told old new dump reply served =
      ap (λ (s : Store D N S d n). told s.parts.journal) served.2 ∙ served.1.untouched.still tt

  pub last_damaged : (old new : Store D N S d n) (calls : List Call) (file : FileId) (found : Option (List ℕ)) → AreServed old calls new
      → IsLast (R.Damaged file found) calls → IsDamagedFile (told new.parts.journal) file
  last_damaged old new calls file found served last =
      let parts = split old new last.before ((last.event, Err (R.Damaged file found)) ∷ [])
      (subst (λ (cs : List Call). AreServed old cs new) last.parts served) in
      subst (λ (s : Store D N S d n). IsDamagedFile (told s.parts.journal) file) (sym parts.rest.2)
      (any_damaged last.event (told parts.rest.0.parts.journal) file
      (damaged_file parts.mid parts.rest.0 last.event file found last.names parts.rest.1))

  pub aborted_damaged : (old new : Store D N S d n) (calls : List Call) (file : FileId) (found : Option (List ℕ)) → AreServed old calls new
      → IsAborted (R.Damaged file found) calls → IsDamagedFile (told new.parts.journal) file
  aborted_damaged old new calls file found served aborted =
      let parts = split old new aborted.made ((E.Abort aborted.dump, aborted.reply) ∷ [])
      (subst (λ (cs : List Call). AreServed old cs new) aborted.parts served) in
      subst (λ (seen : Option _). IsDamagedFile seen file) (sym (abort_told parts.mid new aborted.dump aborted.reply parts.rest))
      (last_damaged old parts.mid aborted.made file found parts.first aborted.last)
