-- What a park or a drop of a partial answers for the file of the partial that it calls for.
--     heeds_none      none is called for
--     heeds_not_planned, heeds_not_written, heeds_done      refused before the write or by it, and done
--     heeded_awake      a refusal isn't that the store is halted
--     for_name, refused_for_name      of the open dump of a name
--     for_host, refused_for_host      of the host of a name
--     none_for_name, none_for_host, none_known      of no dump or host, and of a host without a partial
use Rattle.std.specs.Prelude.{◌≡◌, ℕ, ◌<◌, List, Option, Some, None, Ok, Err, IsErrOf, is_some, length, slice_get}
use Rattle.std.specs.Result.{IsErrAnd}
use Rattle.std.proofs.Common.{sym, ap, ◌∙◌, subst}
use Rattle.std.proofs.lemmas.Bool.{false≢true}
use Rattle.disk_trait.specs.declared.ids.FileId.{FileId}
use Rattle.disk_trait.specs.declared.disk.Disk.{Ghosts as DiskGhosts}
use Rattle.disk_trait.specs.Files.{Files}
use Rattle.pool_name.specs.declared.namer.Namer.{Ghosts as NamerGhosts}
use Rattle.intent_journal.specs.declared.changes.Change.{Change}
use Rattle.journal_view.specs.View.{told, Quiet}
use Rattle.host_partials.specs.Held.{head_at}
use Rattle.open_sessions.specs.declared.sessions.OpenDump.{OpenDump}
use Rattle.office_catalog.specs.Known.{host_named, names_of}
use Rattle.office_model.specs.declared.answer.Answer.{Answer}
use Rattle.receipts.specs.declared.session.SessionName.{SessionName}
use Rattle.office_model.specs.declared.refusal.BrokenRule.{BrokenRule}
use Rattle.office_model.specs.declared.refusal.Refusal.{Refusal}
use Rattle.office_model.specs.declared.refusal.Refusal.TheVariants as R
use Rattle.office_model.specs.Meaning.{Reply}
use Rattle.store_parts.specs.declared.parts.StoreParts.{StoreParts}
use Rattle.store_parts.specs.Writes.{IsWriteFault, Writes}
use Rattle.store_parts.specs.RefusalLaws.{broken_by}
use Rattle.store_parts.specs.FoundLaws.{dump_place}
use Rattle.store_commits.specs.EventLaws.{there_within}
use Rattle.store_partials.specs.Heeding.{AreThere, IsHeededBy, IsKnown, IsKnownOf, IsKnownFor, IsKnownNamed, HeedsPartial}

some_same : {A : Type 0} (x y : A) → Some x ≡ Some y → x ≡ y
some_same x y e = cc

not_damaged : (refusal : Refusal) (file : FileId) (found : Option (List ℕ)) → IsWriteFault refusal → refusal ≡ R.Damaged file found → ⊥
not_damaged R.DiskFault file found kind e = cc
not_damaged R.Memory file found kind e = cc
not_damaged (R.Broken rule) file found kind e = kind
not_damaged (R.Damaged other bytes) file found kind e = kind
not_damaged R.Halted file found kind e = kind

pub heeded_awake : (told : Option Files) (Calls : ℕ → Type 0) (refusal : Refusal) → IsHeededBy told Calls refusal → refusal ≡ R.Halted → ⊥
heeded_awake told Calls (R.Broken rule) heeds e = cc
heeded_awake told Calls (R.Damaged file found) heeds e = cc
heeded_awake told Calls R.DiskFault heeds e = cc
heeded_awake told Calls R.Memory heeds e = cc
heeded_awake told Calls R.Halted heeds e = heeds

refusal_is : (refusal other : Refusal) → IsErrOf {T = Answer} (Err refusal) other → refusal ≡ other
refusal_is refusal other e = cc

module _ {D N S : Type 0} {d : DiskGhosts D} {n : NamerGhosts N S} where
  module _ (old : StoreParts D N S d n) (Calls : ℕ → Type 0) where
    pub heeds_none : (reply : Reply) (rule known : BrokenRule) → IsErrAnd reply (λ refusal. refusal ≡ R.Broken rule) → rule ≡ known
        → AreThere (told old.journal) Calls → HeedsPartial old Calls reply old
    heeds_none reply rule known is same none =
        subst (λ (r : Reply). HeedsPartial old Calls r old) (sym (broken_by reply rule known is same))
        (record { partial = none; undone = λ file found e. absurd cc })

    pub heeds_not_planned : (mid : StoreParts D N S d n) (refusal : Refusal) → Quiet old.journal mid.journal
        → mid ≡ record old { journal = mid.journal } → IsHeededBy (told old.journal) Calls refusal → HeedsPartial old Calls (Err refusal) mid
    heeds_not_planned mid refusal quiet others heeds = record { partial = heeds; undone = λ file bytes e. (quiet, others) }

    written_refused : (refusal : Refusal) → IsWriteFault refusal → IsHeededBy (told old.journal) Calls refusal
    written_refused R.DiskFault kind = tt
    written_refused R.Memory kind = tt
    written_refused (R.Broken rule) kind = absurd kind
    written_refused (R.Damaged file bytes) kind = absurd kind
    written_refused R.Halted kind = absurd kind

    pub heeds_not_written : (start new : StoreParts D N S d n) (changes : List Change) (refusal : Refusal)
        → Writes start changes (Err refusal) new → HeedsPartial old Calls (Err refusal) new
    heeds_not_written start new changes refusal w = record {
      partial = written_refused refusal w.kind;
      undone = λ file bytes e. absurd (not_damaged refusal file bytes w.kind (refusal_is refusal (R.Damaged file bytes) e));
    }

    pub heeds_done : (answer : Answer) (new : StoreParts D N S d n) → AreThere (told old.journal) Calls → HeedsPartial old Calls (Ok answer) new
    heeds_done answer new are = record { partial = are; undone = λ file bytes e. absurd cc }

  -- ---- the open dump of a name

  pub none_for_name : (old : StoreParts D N S d n) (name : SessionName) → None ≡ dump_place old name
      → AreThere (told old.journal) (IsKnownFor old name)
  none_for_name old name none all asked is calls = absurd (apart calls.place (none ∙ sym calls.found))
    where
      apart : (place : ℕ) → None ≡ Some place → ⊥
      apart place e = cc

  module _ (old : StoreParts D N S d n) (name : SessionName) (place : ℕ) (found : Some place ≡ dump_place old name)
      (within : place < length old.sessions.dumps.items) where
    abbrev session : OpenDump
    session = (there_within old.sessions.dumps.items place within).0

    there : slice_get old.sessions.dumps.items place ≡ Some session
    there = (there_within old.sessions.dumps.items place within).1

    of_name : (asked : ℕ) → IsKnownFor old name asked → IsKnownOf old session asked
    of_name asked calls =
        let same : calls.place ≡ place = some_same calls.place place (calls.found ∙ sym found) in
        subst (λ (s : OpenDump). IsKnownOf old s asked)
        (some_same calls.session session
        (sym (subst (λ (p : ℕ). slice_get old.sessions.dumps.items p ≡ Some calls.session) same calls.there) ∙ there)) calls.calls

    named : (asked : ℕ) → IsKnownOf old session asked → IsKnownFor old name asked
    named asked calls = record { place = place; session = session; found = found; there = there; calls = calls }

    pub for_name : ((session : OpenDump) → slice_get old.sessions.dumps.items place ≡ Some session
        → AreThere (told old.journal) (IsKnownOf old session)) → AreThere (told old.journal) (IsKnownFor old name)
    for_name are all asked is calls = are session there all asked is (of_name asked calls)

    named_refused : (refusal : Refusal) → IsHeededBy (told old.journal) (IsKnownOf old session) refusal
        → IsHeededBy (told old.journal) (IsKnownFor old name) refusal
    named_refused (R.Broken rule) heeds = λ all asked is calls. heeds all asked is (of_name asked calls)
    named_refused (R.Damaged file bytes) heeds = record { host = heeds.host; calls = named heeds.host heeds.calls; none = heeds.none }
    named_refused R.DiskFault heeds = tt
    named_refused R.Memory heeds = tt
    named_refused R.Halted heeds = absurd heeds

    pub refused_for_name : (refusal : Refusal) → ((session : OpenDump) → slice_get old.sessions.dumps.items place ≡ Some session
        → IsHeededBy (told old.journal) (IsKnownOf old session) refusal) → IsHeededBy (told old.journal) (IsKnownFor old name) refusal
    refused_for_name refusal heeds = named_refused refusal (heeds session there)

  -- ---- the host of a name

  pub none_for_host : (old : StoreParts D N S d n) (name : List ℕ) → None ≡ host_named (names_of old.catalog.hosts) name
      → AreThere (told old.journal) (IsKnownNamed old name)
  none_for_host old name none all asked is calls = absurd (apart calls.place (none ∙ sym calls.named))
    where
      apart : (place : ℕ) → None ≡ Some place → ⊥
      apart place e = cc

  module _ (old : StoreParts D N S d n) (name : List ℕ) (place : ℕ) (is_named : Some place ≡ host_named (names_of old.catalog.hosts) name) where
    of_host : (asked : ℕ) → IsKnownNamed old name asked → IsKnown (head_at old.partials place) place asked
    of_host asked calls =
        subst (λ (p : ℕ). IsKnown (head_at old.partials p) p asked) (some_same calls.place place (calls.named ∙ sym is_named)) calls.known

    -- no partial of it is known
    pub none_known : head_at old.partials place ≡ None → AreThere (told old.journal) (IsKnownNamed old name)
    none_known none all asked is calls = absurd (false≢true (sym (ap is_some none) ∙ (of_host asked calls).1))

    pub for_host : AreThere (told old.journal) (IsKnown (head_at old.partials place) place) → AreThere (told old.journal) (IsKnownNamed old name)
    for_host are all asked is calls = are all asked is (of_host asked calls)

    pub refused_for_host : (refusal : Refusal) → IsHeededBy (told old.journal) (IsKnown (head_at old.partials place) place) refusal
        → IsHeededBy (told old.journal) (IsKnownNamed old name) refusal
    refused_for_host (R.Broken rule) heeds = for_host heeds
    refused_for_host (R.Damaged file bytes) heeds = record {
      host = heeds.host;
      calls = record { place = place; named = is_named; known = heeds.calls };
      none = heeds.none;
    }
    refused_for_host R.DiskFault heeds = tt
    refused_for_host R.Memory heeds = tt
    refused_for_host R.Halted heeds = absurd heeds
