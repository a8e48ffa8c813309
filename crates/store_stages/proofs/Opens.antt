-- There is no open dump of the name, or no open stage of the number.
use Rattle.std.specs.Prelude.{◌≡◌, ℕ, List, Err}
use Rattle.std.proofs.Common.{refl}
use Rattle.office_model.specs.declared.refusal.BrokenRule.TheVariants.{NoSession}
use Rattle.receipts.specs.declared.session.SessionName.{SessionName}
use Rattle.office_model.specs.Office.{Office, Names}
use Rattle.office_model.specs.Parts.{dump_at, stage_at}
use Rattle.office_model.specs.events.StageOpen as OpenEvent
use Rattle.office_model.specs.events.StagePiece as PieceEvent
use Rattle.office_model.specs.events.StageDrop as DropEvent

pub no_dump_open : (session : SessionName) (office : Office) (names : Names) → dump_at office.dumps session ≡ Err NoSession
    → OpenEvent.carried session names.next_stage office ≡ Err NoSession
no_dump_open session office names e = rw e refl

pub no_stage_piece : (number : ℕ) (bytes : List ℕ) (office : Office) (names : Names) → stage_at office.stages number ≡ Err NoSession
    → PieceEvent.carried number bytes office ≡ Err NoSession
no_stage_piece number bytes office names e = rw e refl

pub no_stage_drop : (number : ℕ) (office : Office) (names : Names) → stage_at office.stages number ≡ Err NoSession
    → DropEvent.carried number office ≡ Err NoSession
no_stage_drop number office names e = rw e refl
