-- Which restore a demo reads: the one that was opened last, frame by frame.
--     ready_behind call      the restore whose frame may be asked for next
--     MayCall ready event      an event that a demo calls then
--     AreRead ready calls      each call is one
use Rattle.std.specs.Prelude.{◌≡◌, List, [], ◌∷◌, Option, None, Some, Ok}
use Rattle.receipts.specs.declared.session.SessionName.{SessionName}
use Rattle.office_model.specs.declared.event.Event.{Event}
use Rattle.office_model.specs.declared.event.Event.TheVariants as E
use Rattle.office_model.specs.declared.event.PutItem.TheVariants.{Staged}
use Rattle.office_model.specs.declared.answer.Answer.TheVariants as A
use Rattle.office_model.specs.Step.{Call}

abbrev pub ready_behind : Call → Option SessionName
ready_behind (E.OpenRead host number base, Ok (A.Restore restore)) = Some restore
ready_behind (E.ReadNext restore, Ok (A.Next frame)) = Some restore
ready_behind call = None

-- a frame of the restore that is ready; a restore of a whole backup; no stage is put
abbrev pub MayCall : Option SessionName → Event → Type 0
MayCall ready (E.ReadNext restore) = ready ≡ Some restore
MayCall ready (E.OpenRead host number base) = base ≡ None
MayCall ready (E.Put dump path (Staged file) token) = ⊥
MayCall ready event = Unit {0}

abbrev pub AreRead : Option SessionName → List Call → Type 0
AreRead ready [] = Unit {0}
AreRead ready (call ∷ calls) = MayCall ready call.0 × AreRead (ready_behind call) calls
