-- A port to a locked store goes into a thread if disk, namer and the namer's states do, and the runtime is shared.
use denote.RattleType.{RattleType}
use denote.Ref.{NamedLft}
use denote.Param.Send.{IsSend, IsSync, sendable}
use Rattle.std.proofs.Crossing.{crosses}
use Rattle.disk_trait.specs.declared.disk.Disk.{Ghosts as DiskGhosts}
use Rattle.pool_name.specs.declared.namer.Namer.{Ghosts as NamerGhosts}
use Rattle.office_model.specs.contracts.answer.Answer as Answer
use Rattle.office_model.specs.contracts.event.Event as Event
use Rattle.office_model.specs.contracts.refusal.Refusal as Refusal
use Rattle.std.specs.contracts.result.Result as Result
use Rattle.atomic_table.specs.declared.shared.TableRule.{Ghosts as RuleGhosts}
use Rattle.turn_lock.specs.declared.lock.Resting.{Ghosts as RestingGhosts}
use Rattle.turn_lock.specs.contracts.steps.Held as Held
use Rattle.turn_port.specs.contracts.locked.LockedStore as LockedStore
use Rattle.turn_port.specs.contracts.port.LockCaller as LockCaller
use Rattle.turn_port.proofs.locked.LockedStore.TheSendSync.{the_field_send as store_send}
use Rattle.turn_port.proofs.port.LockCaller.TheSendSync.{the_send as caller_send}

pub store_goes : (D N S : RattleType) (d : DiskGhosts D.Denot) (n : NamerGhosts N.Denot S.Denot) → IsSend D → IsSend N → IsSend S
    → IsSend (LockedStore.the_row D N S d n)
store_goes D N S d n send_d send_n send_s = search (sendable, crosses, store_send) depth 20

pub held_goes : (L : RattleType) → IsSend L
    → IsSend (Held.the_row L Event.the_row (Result.the_row Answer.the_row Refusal.the_row))
held_goes L send = search (sendable, crosses) depth 20

pub caller_goes : (ℓ : NamedLft) (S V K P L R : RattleType) (h : RestingGhosts L.Denot V.Denot)
    (t : RuleGhosts P.Denot S.Denot V.Denot K.Denot) → IsSend S → IsSync R → IsSend (LockCaller.the_row ℓ S V K P L R h t)
caller_goes ℓ S V K P L R h t send sync = search (sendable, caller_send) depth 10
