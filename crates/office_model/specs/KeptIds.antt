-- A pooled content keeps its name while it is pooled.
use Rattle.std.specs.Prelude.{◌≡◌, ℕ, true, List, Some}
use Rattle.disk_trait.specs.declared.ids.PoolId.{PoolId}
use Rattle.office_model.specs.declared.event.Event.{Event}
use Rattle.office_model.specs.Pool.{is_pooled}
use Rattle.office_model.specs.Ids.{content_at}
use Rattle.office_model.specs.Office.{Office, Names}
use Rattle.office_model.specs.Meaning.{Reply}
use Rattle.office_model.specs.Step.{Running, IsStep}
use Rattle.office_model.specs.UsedNames.{AreSound}

-- whatever an event of an office at work replies, if it is at work afterwards
abbrev pub IdsStay : Type 0
IdsStay = (old new : Office) (names names' : Names) (event : Event) (reply : Reply) (id : PoolId) (content : List ℕ) → AreSound old names
    → IsStep (Running old names) event reply (Running new names') → content_at old.ids id ≡ Some content
    → is_pooled new.pool content ≡ true → content_at new.ids id ≡ Some content
