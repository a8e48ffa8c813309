-- What a commit answers for the table and the partial that it calls for.
--     heeded_awake      a refusal isn't that the store is halted
--     heeds_again, heeds_not_planned, heeds_not_written, heeds_committed      at each of its answers
use Rattle.std.specs.Prelude.{◌≡◌, ℕ, ◌<◌, List, Option, Some, None, Ok, Err, IsErrOf, length, slice_get}
use Rattle.std.proofs.Common.{refl, sym, ap, ◌∙◌, subst, inl, inr}
use Rattle.disk_trait.specs.declared.ids.FileId.{FileId}
use Rattle.disk_trait.specs.Files.{Files}
use Rattle.disk_trait.specs.declared.disk.Disk.{Ghosts as DiskGhosts}
use Rattle.pool_name.specs.declared.namer.Namer.{Ghosts as NamerGhosts}
use Rattle.intent_journal.specs.declared.changes.Change.{Change}
use Rattle.journal_view.specs.View.{told, Quiet}
use Rattle.open_sessions.specs.declared.sessions.OpenDump.{OpenDump}
use Rattle.office_model.specs.declared.answer.Answer.{Answer}
use Rattle.receipts.specs.declared.receipt.Receipt.{Receipt}
use Rattle.receipts.specs.declared.session.SessionName.{SessionName}
use Rattle.office_catalog.specs.Known.{receipt_named}
use Rattle.office_model.specs.declared.refusal.Refusal.{Refusal}
use Rattle.office_model.specs.declared.refusal.Refusal.TheVariants as R
use Rattle.office_model.specs.Meaning.{Reply}
use Rattle.store_parts.specs.declared.parts.StoreParts.{StoreParts}
use Rattle.store_parts.specs.Writes.{IsWriteFault, Writes}
use Rattle.store_commits.specs.Tables.{AreThere, IsLost, IsHeededBy, IsTableFor, IsParkedFor, place_of, IsTableForName, IsParkedForName, again_of, HeedsEnding}
use Rattle.store_commits.specs.PlanLaws.{one_there}
use Rattle.store_commits.specs.EventLaws.{there_within}

some_same : {A : Type 0} (x y : A) → Some x ≡ Some y → x ≡ y
some_same x y e = cc

not_damaged : (refusal : Refusal) (file : FileId) (found : Option (List ℕ)) → IsWriteFault refusal → refusal ≡ R.Damaged file found → ⊥
not_damaged R.DiskFault file found kind e = cc
not_damaged R.Memory file found kind e = cc
not_damaged (R.Broken rule) file found kind e = kind
not_damaged (R.Damaged other bytes) file found kind e = kind
not_damaged R.Halted file found kind e = kind

pub heeded_awake : (told : Option Files) (Calls : FileId → Type 0) (Parks : ℕ → Type 0) (refusal : Refusal)
    → IsHeededBy told Calls Parks refusal → refusal ≡ R.Halted → ⊥
heeded_awake told Calls Parks (R.Broken rule) heeds e = cc
heeded_awake told Calls Parks (R.Damaged file found) heeds e = cc
heeded_awake told Calls Parks R.DiskFault heeds e = cc
heeded_awake told Calls Parks R.Memory heeds e = cc
heeded_awake told Calls Parks R.Halted heeds e = heeds

not_open : (place : ℕ) → None ≡ Some place → ⊥
not_open place e = cc

refusal_is : (refusal other : Refusal) → IsErrOf {T = Answer} (Err refusal) other → refusal ≡ other
refusal_is refusal other e = cc

module _ {D N S : Type 0} {d : DiskGhosts D} {n : NamerGhosts N S} (Takes : ℕ → Type 0) where
  -- no dump of the name is open, so that none is called for
  module _ (old : StoreParts D N S d n) (name : SessionName) (none : None ≡ place_of old.sessions.dumps.items name) where
    none_called : AreThere (told old.journal) (IsTableForName Takes old name) (IsParkedForName Takes old name)
    none_called = record {
      tables = λ all file is calls. absurd (not_open calls.place (none ∙ sym calls.found));
      partial = λ all host is calls. absurd (not_open calls.place (none ∙ sym calls.found));
    }

    heeds_as : (found : Option Receipt) → receipt_named old.catalog.hosts name ≡ found → HeedsEnding Takes old name (again_of found) old
    heeds_as None is = record {
      tables = none_called;
      undone = λ file bytes e. absurd cc;
      again = λ e. (ap again_of (sym is), refl);
    }
    heeds_as (Some receipt) is = record {
      tables = none_called;
      undone = λ file bytes e. absurd cc;
      again = λ e. (ap again_of (sym is), refl);
    }

    pub heeds_again : (reply : Reply) → reply ≡ again_of (receipt_named old.catalog.hosts name) → HeedsEnding Takes old name reply old
    heeds_again reply is =
        subst (λ (r : Reply). HeedsEnding Takes old name r old) (sym is) (heeds_as (receipt_named old.catalog.hosts name) refl)

  module _ (old : StoreParts D N S d n) (name : SessionName) (place : ℕ) (found : Some place ≡ place_of old.sessions.dumps.items name)
      (within : place < length old.sessions.dumps.items) where
    abbrev session : OpenDump
    session = (there_within old.sessions.dumps.items place within).0

    there : slice_get old.sessions.dumps.items place ≡ Some session
    there = (there_within old.sessions.dumps.items place within).1

    of_name : (file : FileId) → IsTableForName Takes old name file → IsTableFor Takes old session file
    of_name file calls =
        let same : calls.place ≡ place = some_same calls.place place (calls.found ∙ sym found) in
        subst (λ (s : OpenDump). IsTableFor Takes old s file)
        (one_there old.sessions.dumps.items place calls.session session
        (subst (λ (p : ℕ). slice_get old.sessions.dumps.items p ≡ Some calls.session) same calls.there) there) calls.calls

    parked_name : (host : ℕ) → IsParkedForName Takes old name host → IsParkedFor Takes old session host
    parked_name host calls =
        let same : calls.place ≡ place = some_same calls.place place (calls.found ∙ sym found) in
        subst (λ (s : OpenDump). IsParkedFor Takes old s host)
        (one_there old.sessions.dumps.items place calls.session session
        (subst (λ (p : ℕ). slice_get old.sessions.dumps.items p ≡ Some calls.session) same calls.there) there) calls.calls

    named_there : AreThere (told old.journal) (IsTableFor Takes old session) (IsParkedFor Takes old session)
        → AreThere (told old.journal) (IsTableForName Takes old name) (IsParkedForName Takes old name)
    named_there are = record {
      tables = λ all file is calls. are.tables all file is (of_name file calls);
      partial = λ all host is calls. are.partial all host is (parked_name host calls);
    }

    named_lost : (file : FileId) (bytes : Option (List ℕ))
        → IsLost (told old.journal) (IsTableFor Takes old session) (IsParkedFor Takes old session) file bytes
        → IsLost (told old.journal) (IsTableForName Takes old name) (IsParkedForName Takes old name) file bytes
    named_lost file bytes (inl lost) =
        inl (record { place = place; session = session; found = found; there = there; calls = lost.0 }, lost.1)
    named_lost file bytes (inr lost) =
        inr (lost.0, record { place = place; session = session; found = found; there = there; calls = lost.1 }, lost.2)

    named_refused : (refusal : Refusal) → IsHeededBy (told old.journal) (IsTableFor Takes old session) (IsParkedFor Takes old session) refusal
        → IsHeededBy (told old.journal) (IsTableForName Takes old name) (IsParkedForName Takes old name) refusal
    named_refused (R.Broken rule) heeds = named_there heeds
    named_refused (R.Damaged file bytes) heeds = named_lost file bytes heeds
    named_refused R.DiskFault heeds = tt
    named_refused R.Memory heeds = tt
    named_refused R.Halted heeds = absurd heeds

    pub heeds_not_planned : (mid : StoreParts D N S d n) (refusal : Refusal) → Quiet old.journal mid.journal
        → mid ≡ record old { journal = mid.journal }
        → ((session : OpenDump) → slice_get old.sessions.dumps.items place ≡ Some session
        → IsHeededBy (told old.journal) (IsTableFor Takes old session) (IsParkedFor Takes old session) refusal)
        → HeedsEnding Takes old name (Err refusal) mid
    heeds_not_planned mid refusal quiet others heeds = record {
      tables = named_refused refusal (heeds session there);
      undone = λ file bytes e. (quiet, others);
      again = λ none. absurd (not_open place (none ∙ sym found));
    }

    module _ (are : (session : OpenDump) → slice_get old.sessions.dumps.items place ≡ Some session
        → AreThere (told old.journal) (IsTableFor Takes old session) (IsParkedFor Takes old session)) where
      written_refused : (refusal : Refusal) → IsWriteFault refusal
          → IsHeededBy (told old.journal) (IsTableForName Takes old name) (IsParkedForName Takes old name) refusal
      written_refused R.DiskFault kind = tt
      written_refused R.Memory kind = tt
      written_refused (R.Broken rule) kind = absurd kind
      written_refused (R.Damaged file bytes) kind = absurd kind
      written_refused R.Halted kind = absurd kind

      pub heeds_not_written : (start new : StoreParts D N S d n) (changes : List Change) (refusal : Refusal)
          → Writes start changes (Err refusal) new → HeedsEnding Takes old name (Err refusal) new
      heeds_not_written start new changes refusal w = record {
        tables = written_refused refusal w.kind;
        undone = λ file bytes e. absurd (not_damaged refusal file bytes w.kind (refusal_is refusal (R.Damaged file bytes) e));
        again = λ none. absurd (not_open place (none ∙ sym found));
      }

      pub heeds_committed : (answer : Answer) (new : StoreParts D N S d n) → HeedsEnding Takes old name (Ok answer) new
      heeds_committed answer new = record {
        tables = named_there (are session there);
        undone = λ file bytes e. absurd cc;
        again = λ none. absurd (not_open place (none ∙ sym found));
      }
