-- A stage that ends with a put that repeats another.
--     without_stage stages session number      the open stages without the one of this number, if it is one of this dump
use Rattle.std.specs.Prelude.{ℕ, ◌==◌, List, slice_get, if◌then◌else◌}
use Rattle.std.specs.List.{position_from, remove}
use Rattle.std.specs.Option.{option_map_or}
use Rattle.receipts.specs.declared.session.SessionName.{SessionName}
use Rattle.receipts.specs.Session.{is_same_session}
use Rattle.open_sessions.specs.declared.stages.OpenStage.{OpenStage}

module _ {S : Type 0} where
  -- the stages without this one, if it is one of the dump
  abbrev pub without_if : List (OpenStage S) → SessionName → ℕ → OpenStage S → List (OpenStage S)
  without_if stages session at stage = if is_same_session stage.dump session then remove stages at else stages

  abbrev pub without_stage : List (OpenStage S) → SessionName → ℕ → List (OpenStage S)
  without_stage stages session number =
      option_map_or (λ at. option_map_or (without_if stages session at) (slice_get stages at) stages)
      (position_from (λ stage. stage.number == number) 0 stages) stages
