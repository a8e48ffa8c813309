-- A stage is opened, takes a piece, and is dropped; and what a fault of the disk leaves.
use Rattle.std.specs.Prelude.{◌≡◌, ◌<◌, ◌≤◌, ℕ, ◌+◌, false, List, [], ◌∷◌, ◌++◌, length, Option, Some, None, Ok, nat_le, nat_lt, slice_get, slice_set}
use Rattle.std.specs.List.{remove}
use Rattle.std.proofs.Common.{refl, sym, subst, arith, length-append}
use Rattle.std.proofs.lemmas.Bool.Decides.{nat_tests}
use Rattle.attr_records.specs.declared.trees.PutRule.TheVariants.{FileTooLarge}
use Rattle.receipts.specs.declared.session.SessionName.{SessionName}
use Rattle.office_model.specs.declared.answer.Answer.TheVariants.{Done, Stage as Opened}
use Rattle.office_model.specs.declared.refusal.BrokenRule.TheVariants.{NumbersSpent, BadPiece, Put as PutRule}
use Rattle.office_model.specs.Places.{AtEach}
use Rattle.office_model.specs.PlacesLaws.{AtEach-longer, AtEach-set, AtEach-remove}
use Rattle.office_model.specs.Office.{Office, Dump, Stage, Names, last_sequence, content_limit, stage_index, with_stages, IsSound, HasDump}
use Rattle.office_model.specs.Parts.{dump_at, stage_at}
use Rattle.office_model.specs.UsedNames.{AreSound}
use Rattle.office_model.specs.events.StageOpen.{new_stage, with_stage, meaning}
use Rattle.office_model.specs.events.StagePiece as StagePiece
use Rattle.office_model.specs.events.StageDrop as StageDrop
use Rattle.office_model.specs.laws.Judging.{bound, passed, at_is}
use Rattle.office_model.specs.laws.Lookups.{named}
use Rattle.office_model.specs.laws.StageLaws.{stage_added, stage_set, IsSound-stages, IsSound-stage_removed}
use Rattle.office_model.specs.laws.Lawful.{IsLawful, does, does_stages}

-- what it says that a stage may be opened
record MayStage (session : SessionName) (number : ℕ) (dumps : List Dump) (stages new : List Stage) : Type 0 where
  pub has : HasDump dumps (new_stage session number)
  pub new_is : stages ++ new_stage session number ∷ [] ≡ new

may_stage : (session : SessionName) (number : ℕ) (dumps : List Dump) (stages new : List Stage)
    → with_stage session number dumps stages ≡ Ok new → MayStage session number dumps stages new
may_stage session number dumps stages new e =
    let a = bound (dump_at dumps session) _ new e in
    let is = at_is _ dumps _ a.0 a.1 in
    let b : (nat_le last_sequence number ≡ false) × (Ok (stages ++ new_stage session number ∷ []) ≡ Ok new) = passed NumbersSpent (nat_le last_sequence number) _ new a.2 in
    record {
      has = record { index = a.0.index; dump = a.0.value; is_dump = is.1; name = named dumps session a.0.index a.0.value is.0 is.1 };
      new_is = let f = b.1 in cc;
    }

pub IsSound-with_stage : (office : Office) (session : SessionName) (number : ℕ) (stages : List Stage) → IsSound office
    → AtEach (λ (s : Stage). s.number < number) office.stages → with_stage session number office.dumps office.stages ≡ Ok stages → IsSound (with_stages office stages)
IsSound-with_stage office session number stages sound below e =
    let may : MayStage session number office.dumps office.stages stages = may_stage session number office.dumps office.stages stages e in
    subst (λ ss. IsSound (with_stages office ss)) may.new_is
    (IsSound-stages office (office.stages ++ new_stage session number ∷ []) sound
    (stage_added office.dumps office.stages sound.stages number (new_stage session number) below refl may.has (omega arith)))

below_next : (session : SessionName) (number : ℕ) (dumps : List Dump) (stages new : List Stage)
    → AtEach (λ (s : Stage). s.number < number) stages → with_stage session number dumps stages ≡ Ok new
    → AtEach (λ (s : Stage). s.number < number + 1) new
below_next session number dumps stages new below e =
    let may : MayStage session number dumps stages new = may_stage session number dumps stages new e in
    subst (AtEach (λ (s : Stage). s.number < number + 1)) may.new_is
    (AtEach-longer (λ (s : Stage). s.number < number + 1) stages (new_stage session number)
    (λ i s at. let less = below i s at in omega arith) (omega arith))

pub opened : (session : SessionName) → IsLawful (meaning session)
opened session office names c sound e =
    let a = bound (with_stage session names.next_stage office.dumps office.stages) _ c e in
    does _ office names sound _ c a.2 (does_stages _ office names sound a.0 (Opened names.next_stage) refl
    (below_next session names.next_stage office.dumps office.stages a.0 sound.names.given.stages a.1)
    (IsSound-with_stage office session names.next_stage a.0 sound.office sound.names.given.stages a.1))

-- ---- a piece

not_over : (limit n : ℕ) → nat_lt limit n ≡ false → n ≤ limit
not_over limit n e = grind (arith, nat_tests)

-- what it says that a stage may take a piece
pub record MayTake (number : ℕ) (bytes : List ℕ) (stages new : List Stage) : Type 0 where
  pub index : ℕ
  pub stage : Stage
  pub is_stage : slice_get stages index ≡ Some stage
  pub fits : length (stage.bytes ++ bytes) ≤ content_limit
  pub new_is : slice_set stages index (StagePiece.with_bytes stage bytes) ≡ new

pub may_take : (number : ℕ) (bytes : List ℕ) (stages new : List Stage) → StagePiece.with_piece number bytes stages ≡ Ok new
    → MayTake number bytes stages new
may_take number bytes stages new e =
    let a = bound (stage_at stages number) _ new e in
    let b : (StagePiece.is_bad_piece bytes ≡ false) × (_ ≡ Ok new) = passed BadPiece (StagePiece.is_bad_piece bytes) _ new a.2 in
    let c : (nat_lt content_limit (length a.0.value.bytes + length bytes) ≡ false) × (Ok (slice_set stages a.0.index (StagePiece.with_bytes a.0.value bytes)) ≡ Ok new)
    = passed (PutRule FileTooLarge) (nat_lt content_limit (length a.0.value.bytes + length bytes)) _ new b.1 in
    record {
      index = a.0.index;
      stage = a.0.value;
      is_stage = (at_is _ stages _ a.0 a.1).1;
      fits = subst (λ n. n ≤ content_limit) (sym (length-append a.0.value.bytes bytes)) (not_over content_limit (length a.0.value.bytes + length bytes) c.0);
      new_is = let f = c.1 in cc;
    }

pub IsSound-with_piece : (office : Office) (number : ℕ) (bytes : List ℕ) (stages : List Stage) → IsSound office
    → StagePiece.with_piece number bytes office.stages ≡ Ok stages → IsSound (with_stages office stages)
IsSound-with_piece office number bytes stages sound e =
    let may : MayTake number bytes office.stages stages = may_take number bytes office.stages stages e in
    subst (λ ss. IsSound (with_stages office ss)) may.new_is
    (IsSound-stages office (slice_set office.stages may.index (StagePiece.with_bytes may.stage bytes)) sound
    (stage_set office.dumps office.stages sound.stages may.index may.stage (StagePiece.with_bytes may.stage bytes) may.is_stage refl refl may.fits))

below_piece : (next number : ℕ) (bytes : List ℕ) (stages new : List Stage) → AtEach (λ (s : Stage). s.number < next) stages
    → StagePiece.with_piece number bytes stages ≡ Ok new → AtEach (λ (s : Stage). s.number < next) new
below_piece next number bytes stages new below e =
    let may : MayTake number bytes stages new = may_take number bytes stages new e in
    subst (AtEach (λ (s : Stage). s.number < next)) may.new_is
    (AtEach-set (λ (s : Stage). s.number < next) stages may.index (StagePiece.with_bytes may.stage bytes) below (below may.index may.stage may.is_stage))

pub piece : (number : ℕ) (bytes : List ℕ) → IsLawful (StagePiece.meaning number bytes)
piece number bytes office names c sound e =
    let a = bound (StagePiece.with_piece number bytes office.stages) _ c e in
    does _ office names sound _ c a.2 (does_stages _ office names sound a.0 Done refl
    (below_piece names.next_stage number bytes office.stages a.0 sound.names.given.stages a.1)
    (IsSound-with_piece office number bytes a.0 sound.office a.1))

-- ---- a stage is dropped

without_is : (number : ℕ) (stages new : List Stage) → StageDrop.without_stage number stages ≡ Ok new → (i : ℕ) × (remove stages i ≡ new)
without_is number stages new e =
    let a = bound (stage_at stages number) (λ stage. Ok (remove stages stage.index)) new e in
    (a.0.index, let f = a.2 in cc)

pub IsSound-without_stage : (office : Office) (number : ℕ) (stages : List Stage) → IsSound office
    → StageDrop.without_stage number office.stages ≡ Ok stages → IsSound (with_stages office stages)
IsSound-without_stage office number stages sound e =
    let w = without_is number office.stages stages e in
    subst (λ ss. IsSound (with_stages office ss)) w.1 (IsSound-stage_removed office w.0 sound)

pub dropped : (number : ℕ) → IsLawful (StageDrop.meaning number)
dropped number office names c sound e =
    let a = bound (StageDrop.without_stage number office.stages) _ c e in
    let w = without_is number office.stages a.0 a.1 in
    does _ office names sound _ c a.2 (does_stages _ office names sound a.0 Done refl
    (subst (AtEach (λ (s : Stage). s.number < names.next_stage)) w.1
    (AtEach-remove (λ (s : Stage). s.number < names.next_stage) office.stages w.0 sound.names.given.stages))
    (IsSound-without_stage office number a.0 sound.office a.1))

-- ---- a fault of the disk, in a piece

AreSound-removed : (office : Office) (names : Names) (p : ℕ) → AreSound office names → AreSound (with_stages office (remove office.stages p)) names
AreSound-removed office names p sound = record {
  office = IsSound-stage_removed office p sound.office;
  ids = sound.ids;
  names = record {
    distinct = sound.names.distinct;
    given = record {
      stages = AtEach-remove (λ (s : Stage). s.number < names.next_stage) office.stages p sound.names.given.stages;
      readers = sound.names.given.readers;
    };
  };
}

pub faulted : (number : ℕ) (office : Office) (names : Names) → AreSound office names → AreSound (StagePiece.faulted number office) names
faulted number office names sound = step (stage_index office.stages number)
  where
    step : (place : Option ℕ) → AreSound (with_stages office (StagePiece.dropped office.stages place)) names
    step None = sound
    step (Some index) = AreSound-removed office names index sound
