-- A pooled content keeps its name while it is pooled.
use Rattle.std.specs.Prelude.{◌≡◌, ℕ, Bool, true, false, List, Some, Ok, Err}
use Rattle.std.proofs.Common.{sym, ap, ◌∙◌, subst}
use Rattle.disk_trait.specs.declared.ids.PoolId.{PoolId}
use Rattle.office_model.specs.declared.answer.Answer.{Answer}
use Rattle.office_model.specs.declared.event.Event.{Event}
use Rattle.office_model.specs.declared.refusal.Refusal.TheVariants.{Broken, Halted as HaltedReply, DiskFault, Damaged, Memory}
use Rattle.office_model.specs.Pool.{is_pooled}
use Rattle.office_model.specs.Ids.{Ids, content_at}
use Rattle.office_model.specs.Office.{Office, Names}
use Rattle.office_model.specs.Meaning.{Carried, Judged, Reply}
use Rattle.office_model.specs.Step.{Running, IsMade, IsReply, meaning_of}
use Rattle.office_model.specs.UsedNames.{AreSound}
use Rattle.office_model.specs.KeptIds.{IdsStay}
use Rattle.office_model.specs.laws.StepLaws.{Ids-carried, faulted_is}

module _ (old : Office) (names : Names) (id : PoolId) (content : List ℕ) (at : content_at old.ids id ≡ Some content) where
  abbrev Keeps : Ids → Type 0
  Keeps ids = content_at ids id ≡ Some content

  made_keeps : (pools : Bool) (judged : Judged Carried) (answer : Answer) (new : Office)
      → ((c : Carried) → judged ≡ Ok c → c.after.ids ≡ old.ids) → IsMade pools names old judged answer new
      → is_pooled new.pool content ≡ true → Keeps new.ids
  made_keeps false judged answer new leaves is pooled = subst Keeps (sym (leaves (record { answer = answer; after = new }) is)) at
  made_keeps true judged answer new leaves is pooled = is.1.stay id content at pooled

  same_keeps : (new : Office) → new ≡ old → Keeps new.ids
  same_keeps new same = subst (λ (o : Office). Keeps o.ids) (sym same) at

  faulty_keeps : (event : Event) (new : Office) → new ≡ (meaning_of event).faulted old → Keeps new.ids
  faulty_keeps event new same =
      let w = faulted_is event old in subst (λ (o : Office). Keeps o.ids) (sym (same ∙ w.1)) at

  reply_keeps : (names' : Names) (event : Event) (reply : Reply) (new : Office) → AreSound old names
      → IsReply old names (meaning_of event) reply (Running new names') → is_pooled new.pool content ≡ true → Keeps new.ids
  reply_keeps names' event (Ok answer) new sound is pooled =
      made_keeps (meaning_of event).pools ((meaning_of event).carried old names) answer new (λ c e. Ids-carried old names event c sound e) is pooled
  reply_keeps names' event (Err (Broken rule)) new sound is pooled = same_keeps new is.1
  reply_keeps names' event (Err HaltedReply) new sound is pooled = absurd is
  reply_keeps names' event (Err DiskFault) new sound is pooled = faulty_keeps event new is.2
  reply_keeps names' event (Err (Damaged file found)) new sound is pooled = same_keeps new is.2
  reply_keeps names' event (Err Memory) new sound is pooled = same_keeps new is

pub ids_stay : IdsStay
ids_stay old new names names' event reply id content sound step at pooled =
    reply_keeps old names id content at names' event reply new sound step.0 pooled
