-- What becomes of open stages.
--     without_those_of dump opened      the stages of other dumps
--     IsExtended holds stage bytes old index new      the stage at an index took in these bytes
use Rattle.std.specs.Prelude.{◌≡◌, ◌+◌, ℕ, List, ◌++◌, not, length, slice_set}
use Rattle.std.specs.List.{filter}
use Rattle.receipts.specs.declared.session.SessionName.{SessionName}
use Rattle.receipts.specs.Session.{is_same_session}
use Rattle.open_sessions.specs.declared.stages.OpenStage.{OpenStage}

module _ {S : Type 0} where
  abbrev pub without_those_of : SessionName → List (OpenStage S) → List (OpenStage S)
  without_those_of dump opened = filter (λ stage. not (is_same_session stage.dump dump)) opened

  pub record IsExtended (holds : S → List ℕ → Type 0) (stage : OpenStage S) (bytes : List ℕ) (old : List (OpenStage S)) (index : ℕ)
      (new : List (OpenStage S)) : Type 0 where
    pub digest : S
    pub items : new ≡ slice_set old index (record stage { size = stage.size + length bytes; digest = digest })
    pub took : (content : List ℕ) → holds stage.digest content → holds digest (content ++ bytes)
