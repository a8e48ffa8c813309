-- An office stays sound where a restore is opened, goes on, and is dropped.
use Rattle.std.specs.Prelude.{◌≡◌, ℕ, ◌+◌, false, List, [], ◌∷◌, ◌++◌, Option, Some, Ok, nat_le, slice_get, slice_set}
use Rattle.std.specs.List.{remove}
use Rattle.std.proofs.Common.{refl, ap, ◌∙◌, subst}
use Rattle.receipts.specs.declared.session.SessionName.{SessionName}
use Rattle.office_model.specs.declared.answer.Answer.TheVariants as A
use Rattle.office_model.specs.Office.{Office, Host, Backup, Restore, last_sequence, with_restores, numbered, IsSound, IsSoundHost}
use Rattle.office_model.specs.Parts.{host_at, backup_at, backup_of, restore_at}
use Rattle.office_model.specs.events.OpenDump.{next_session}
use Rattle.office_model.specs.events.OpenRead as OpenRead
use Rattle.office_model.specs.events.ReadNext as ReadNext
use Rattle.office_model.specs.events.CloseRead as CloseRead
use Rattle.office_model.specs.laws.Judging.{bound, passed, at_is}
use Rattle.office_model.specs.laws.VolatileLaws.{restore_added, restore_set, restore_removed, pooled_restore_added, pooled_restore_set, pooled_restore_removed, over_restore_added, over_restore_set, over_restore_removed}
use Rattle.office_model.specs.laws.Lawful.{IsLawful, does, does_restores}

-- a backup that was found, with its host
pub record Found (hosts : List Host) (backup : Backup) : Type 0 where
  pub place : ℕ
  pub host : Host
  pub is_host : slice_get hosts place ≡ Some host
  pub index : ℕ
  pub is_backup : slice_get host.backups index ≡ Some backup

pub backup_found : (hosts : List Host) (name : List ℕ) (number : ℕ) (backup : Backup) → backup_of hosts name number ≡ Ok backup
    → Found hosts backup
backup_found hosts name number backup e =
    let a = bound (host_at hosts name) _ backup e in
    let b = bound (backup_at a.0.value number) _ backup a.2 in
    let same : b.0.value ≡ backup = let f = b.2 in cc in
    record {
      place = a.0.index;
      host = a.0.value;
      is_host = (at_is _ hosts _ a.0 a.1).1;
      index = b.0.index;
      is_backup = (at_is _ a.0.value.backups _ b.0 b.1).1 ∙ ap Some same;
    }

pub IsSound-with_restore : (office : Office) (name : List ℕ) (number : ℕ) (base : Option ℕ) (hosts : List Host) (restores : List Restore) → IsSound office
    → hosts ≡ office.hosts
    → OpenRead.with_restore name number base (next_session office) hosts office.restores ≡ Ok restores
    → IsSound (numbered (with_restores office restores))
IsSound-with_restore office name number base hosts restores sound slice e =
    let e : OpenRead.with_restore name number base (next_session office) office.hosts office.restores ≡ Ok restores = subst (λ hs. OpenRead.with_restore name number base (next_session office) hs office.restores ≡ Ok restores) slice e in
    let a = bound (backup_of office.hosts name number) _ restores e in
    let at = backup_found office.hosts name number a.0 a.1 in
    let b = bound (OpenRead.base_of office.hosts name base) _ restores a.2 in
    let restore : Restore = OpenRead.new_restore (next_session office) a.0.tree b.0 in
    let c : (nat_le last_sequence office.sequence ≡ false) × (Ok (office.restores ++ restore ∷ []) ≡ Ok restores) = passed _ _ _ _ b.2 in
    let same : office.restores ++ restore ∷ [] ≡ restores = let f = c.1 in cc in
    let host : IsSoundHost at.host = sound.hosts.each at.place at.host at.is_host in
    subst (λ rs. IsSound (numbered (with_restores office rs))) same (record {
      kept = sound.kept;
      now = restore_added office.epoch office.volatile sound.now restore refl (host.backups.numbered.trees at.index a.0 at.is_backup);
      tied = record {
        hosted = sound.hosted;
        over = λ i n r at. over_restore_added office.epoch office.sequence office.dumps office.restores r (sound.over i n r at) restore refl;
        pooled = pooled_restore_added office.pool office.volatile sound.pooled restore (office.sequence + 1)
            (sound.of_backups at.place at.host at.is_host at.index a.0 at.is_backup);
      };
    })

pub open_read : (name : List ℕ) (number : ℕ) (base : Option ℕ) → IsLawful (OpenRead.meaning name number base)
open_read name number base office names c sound e =
    let a = bound (OpenRead.with_restore name number base (next_session office) office.hosts office.restores) _ c e in
    does _ office names sound _ c a.2 (does_restores _ office names sound a.0 (office.sequence + 1) (A.Restore (next_session office)) refl (IsSound-with_restore office name number base office.hosts a.0 sound.office refl a.1))

pub IsSound-given : (office : Office) (session : SessionName) (next : ReadNext.Given) → IsSound office
    → ReadNext.given session office.restores ≡ Ok next → IsSound (with_restores office next.restores)
IsSound-given office session next sound e =
    let a = bound (restore_at office.restores session) _ next e in
    let was : slice_get office.restores a.0.index ≡ Some a.0.value = (at_is _ office.restores _ a.0 a.1).1 in
    let new : Restore = ReadNext.moved_on a.0.value in
    let made : ReadNext.Given = record { frame = ReadNext.frame_of a.0.value; restores = slice_set office.restores a.0.index new } in
    let same : made ≡ next = let f = a.2 in cc in
    subst (λ (x : ReadNext.Given). IsSound (with_restores office x.restores)) same (record {
      kept = sound.kept;
      now = restore_set office.epoch office.volatile sound.now a.0.index a.0.value new was refl refl;
      tied = record {
        hosted = sound.hosted;
        over = λ i n r at. over_restore_set office.epoch office.sequence office.dumps office.restores r (sound.over i n r at) a.0.index a.0.value new was refl;
        pooled = pooled_restore_set office.pool office.volatile sound.pooled a.0.index a.0.value new was refl;
      };
    })

pub read_next : (session : SessionName) → IsLawful (ReadNext.meaning session)
read_next session office names c sound e =
    let a = bound (ReadNext.given session office.restores) _ c e in
    does _ office names sound _ c a.2 (does_restores _ office names sound a.0.restores office.sequence (A.Next a.0.frame) refl (IsSound-given office session a.0 sound.office a.1))

pub IsSound-without_restore : (office : Office) (session : SessionName) (restores : List Restore) → IsSound office
    → CloseRead.without_restore session office.restores ≡ Ok restores → IsSound (with_restores office restores)
IsSound-without_restore office session restores sound e =
    let w = bound (restore_at office.restores session) (λ restore. Ok (remove office.restores restore.index)) restores e in
    let same : remove office.restores w.0.index ≡ restores = cc in
    subst (λ rs. IsSound (with_restores office rs)) same (record {
      kept = sound.kept;
      now = restore_removed office.epoch office.volatile sound.now w.0.index;
      tied = record {
        hosted = sound.hosted;
        over = λ i n r at. over_restore_removed office.epoch office.sequence office.dumps office.restores r (sound.over i n r at) w.0.index;
        pooled = pooled_restore_removed office.pool office.volatile sound.pooled w.0.index;
      };
    })

pub close_read : (session : SessionName) → IsLawful (CloseRead.meaning session)
close_read session office names c sound e =
    let a = bound (CloseRead.without_restore session office.restores) _ c e in
    does _ office names sound _ c a.2 (does_restores _ office names sound a.0 office.sequence A.Done refl (IsSound-without_restore office session a.0 sound.office a.1))
