-- All open sessions after a call on stages. Stages claim nothing, so the claims are the same (claims_in-stages).
--     AreSessions-stages_kept      the same ones are open
--     AreSessions-stage_opened, -stage_extended, -stage_taken      with a further stage, with more bytes in one, without one
--     AreSessions-stage_dropped      without one whose file may be another
--     AreSessions-stages_ended, -stages_none      without those of a dump, and without any
use Rattle.std.specs.Prelude.{◌≡◌, ◌≢◌, ℕ, ◌+◌, ◌<◌, not, List, [], ◌∷◌, ◌++◌, length, Option, Some, slice_get, slice_set}
use Rattle.std.specs.List.{remove}
use Rattle.std.proofs.Common.{refl, sym, ap, ◌∙◌, subst, arith, length-append}
use Rattle.disk_trait.specs.declared.ids.PoolId.{PoolId}
use Rattle.receipts.specs.declared.session.SessionName.{SessionName}
use Rattle.receipts.specs.Session.{is_same_session}
use Rattle.office_model.specs.Office.{Volatile, Stage, stages_left}
use Rattle.office_model.specs.events.StageOpen.{new_stage}
use Rattle.office_model.specs.events.StagePiece.{with_bytes}
use Rattle.office_model.specs.Pairs.{AtEachPair}
use Rattle.office_model.specs.PairsLaws.{pair_at, pairs_push, no_pairs}
use Rattle.open_sessions.specs.declared.sessions.Sessions.{Sessions}
use Rattle.open_sessions.specs.declared.stages.OpenStage.{OpenStage}
use Rattle.open_sessions.specs.Staging.{without_those_of, IsExtended}
use Rattle.open_sessions.specs.Opened.{IsStage, Staging, AreSessions, OnlyStages}
use Rattle.open_sessions.specs.SessionLaws.{pairs_edit, pairs_remove, pairs_without, pairs_filter, IsStage-kept, AreSessions-stages}

-- other places have other numbers, if numbers rise
apart : (i j a b : ℕ) → i ≢ j → (i < j → a < b) → (j < i → b < a) → a ≢ b
apart i j a b other up down same = grind arith

module _ {S : Type 0} (old new : Sessions S) (same : OnlyStages old new) where
  module _ (holds : S → List ℕ → Type 0) (given : PoolId → Type 0) (contents : PoolId → List ℕ) (staging : Staging)
      (office : Volatile) (at : AreSessions holds given contents staging office old) where
    stages_are : (staged : ℕ → Option (List ℕ)) (stages : List Stage) (next : ℕ) (items : List (OpenStage S))
        → AtEachPair (λ i. IsStage holds staged) stages items → new.stages.items.items ≡ items → new.stages.next ≡ next
        → AreSessions holds given contents (record staging { staged = staged; next_stage = next }) (record office { stages = stages }) new
    stages_are staged stages next items pairs is number =
        AreSessions-stages holds given contents staging office old new at same staged stages next
        (subst (AtEachPair (λ i. IsStage holds staged) stages) (sym is) pairs) number

    pub AreSessions-stages_kept : new.stages.items.items ≡ old.stages.items.items → new.stages.next ≡ old.stages.next
        → AreSessions holds given contents staging office new
    AreSessions-stages_kept items next =
        stages_are staging.staged office.stages staging.next_stage old.stages.items.items at.stages items (next ∙ at.numbers.stage)

    pub AreSessions-stage_opened : (dump : SessionName) (digest : S) → holds digest []
        → new.stages.items.items
        ≡ old.stages.items.items ++ record { number = old.stages.next; dump = dump; size = 0; digest = digest } ∷ []
        → new.stages.next ≡ old.stages.next + 1
        → AreSessions holds given contents (record staging { next_stage = staging.next_stage + 1 })
        (record office { stages = office.stages ++ new_stage dump staging.next_stage ∷ [] }) new
    AreSessions-stage_opened dump digest none items next =
        let fresh : OpenStage S = record { number = old.stages.next; dump = dump; size = 0; digest = digest } in
        let stage : Stage = new_stage dump staging.next_stage in
        let is : IsStage holds staging.staged stage fresh = record {
          number = at.numbers.stage;
          dump = refl;
          size = refl;
          digest = none;
          file = λ some. absurd (omega (arith, some));
        } in
        stages_are staging.staged (office.stages ++ stage ∷ []) (staging.next_stage + 1) (old.stages.items.items ++ fresh ∷ [])
        (pairs_push (IsStage holds staging.staged) office.stages old.stages.items.items at.stages stage fresh is) items
        (next ∙ ap (λ n. n + 1) at.numbers.stage)

    -- open stages have different numbers, since memory numbers them in turn
    other_stage : (i j : ℕ) (x y : Stage) → i ≢ j → slice_get office.stages i ≡ Some x → slice_get office.stages j ≡ Some y
        → x.number ≢ y.number
    other_stage i j x y other at_i at_j =
        let a = pair_at (λ i. IsStage holds staging.staged) office.stages old.stages.items.items at.stages i x at_i in
        let b = pair_at (λ i. IsStage holds staging.staged) office.stages old.stages.items.items at.stages j y at_j in
        apart i j x.number y.number other
        (λ less. let up : a.0.number < b.0.number = old.stages.in_turn.rise i j a.0 b.0 less a.1 b.1 in
        omega (arith, up, a.2.number, b.2.number))
        (λ less. let up : b.0.number < a.0.number = old.stages.in_turn.rise j i b.0 a.0 less b.1 a.1 in
        omega (arith, up, a.2.number, b.2.number))

    -- the stage at an index, whose file alone is another
    module _ (i : ℕ) (stage : Stage) (there : slice_get office.stages i ≡ Some stage) (staged : ℕ → Option (List ℕ))
        (others : (number : ℕ) → number ≢ stage.number → staged number ≡ staging.staged number) where
      others_kept : (j : ℕ) (x : Stage) (y : OpenStage S) → j ≢ i → slice_get office.stages j ≡ Some x
          → slice_get old.stages.items.items j ≡ Some y → IsStage holds staged x y
      others_kept j x y other at_x at_y =
          IsStage-kept holds given contents given contents staging.staged staged x y
          (others x.number (other_stage j i x stage other at_x there)) (at.stages.each j x y at_x at_y)

      pub AreSessions-stage_extended : (held : OpenStage S) (bytes : List ℕ) → slice_get old.stages.items.items i ≡ Some held
          → IsExtended holds held bytes old.stages.items.items i new.stages.items.items → new.stages.next ≡ old.stages.next
          → staged stage.number ≡ Some (stage.bytes ++ bytes)
          → AreSessions holds given contents (record staging { staged = staged })
          (record office { stages = slice_set office.stages i (with_bytes stage bytes) }) new
      AreSessions-stage_extended held bytes held_there extended next file =
          let was = at.stages.each i stage held there held_there in
          let longer : OpenStage S = record held { size = held.size + length bytes; digest = extended.digest } in
          let is : IsStage holds staged (with_bytes stage bytes) longer = record {
            number = was.number;
            dump = was.dump;
            size = ap (λ n. n + length bytes) was.size ∙ sym (length-append stage.bytes bytes);
            digest = extended.took stage.bytes was.digest;
            file = λ some. file;
          } in
          stages_are staged (slice_set office.stages i (with_bytes stage bytes)) staging.next_stage
          (slice_set old.stages.items.items i longer)
          (pairs_edit (IsStage holds staged) office.stages old.stages.items.items at.stages.counted i (with_bytes stage bytes) longer
          others_kept is) extended.items (next ∙ at.numbers.stage)

      pub AreSessions-stage_dropped : new.stages.items.items ≡ remove old.stages.items.items i → new.stages.next ≡ old.stages.next
          → AreSessions holds given contents (record staging { staged = staged }) (record office { stages = remove office.stages i }) new
      AreSessions-stage_dropped items next =
          stages_are staged (remove office.stages i) staging.next_stage (remove old.stages.items.items i)
          (pairs_without (IsStage holds staged) office.stages old.stages.items.items at.stages.counted i others_kept) items
          (next ∙ at.numbers.stage)

    pub AreSessions-stage_taken : (i : ℕ) → new.stages.items.items ≡ remove old.stages.items.items i → new.stages.next ≡ old.stages.next
        → AreSessions holds given contents staging (record office { stages = remove office.stages i }) new
    AreSessions-stage_taken i items next =
        stages_are staging.staged (remove office.stages i) staging.next_stage (remove old.stages.items.items i)
        (pairs_remove (IsStage holds staging.staged) office.stages old.stages.items.items at.stages i) items (next ∙ at.numbers.stage)

    pub AreSessions-stages_ended : (dump : SessionName) → new.stages.items.items ≡ without_those_of dump old.stages.items.items
        → new.stages.next ≡ old.stages.next
        → AreSessions holds given contents staging (record office { stages = stages_left dump office.stages }) new
    AreSessions-stages_ended dump items next =
        stages_are staging.staged (stages_left dump office.stages) staging.next_stage (without_those_of dump old.stages.items.items)
        (pairs_filter (IsStage holds staging.staged) (λ stage. not (is_same_session stage.dump dump))
        (λ held. not (is_same_session held.dump dump))
        (λ x y is. ap (λ n. not (is_same_session n dump)) (sym is.dump)) office.stages old.stages.items.items at.stages) items
        (next ∙ at.numbers.stage)

    pub AreSessions-stages_none : new.stages.items.items ≡ [] → new.stages.next ≡ old.stages.next
        → AreSessions holds given contents staging (record office { stages = [] }) new
    AreSessions-stages_none items next =
        stages_are staging.staged [] staging.next_stage [] (no_pairs (λ i. IsStage holds staging.staged)) items (next ∙ at.numbers.stage)
