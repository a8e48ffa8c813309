-- The next epoch is sound, and holds no more.
use Rattle.std.specs.Prelude.{◌≡◌, ◌≤◌, ◌+◌, true, false, [], Ok, nat_le}
use Rattle.std.proofs.Common.{refl, sym, ap, subst, arith}
use Rattle.office_model.specs.declared.answer.Answer.TheVariants.{Reopened}
use Rattle.office_model.specs.declared.refusal.BrokenRule.TheVariants.{NumbersSpent}
use Rattle.office_model.specs.Office.{Durable, last_sequence, nothing_open, IsSound, IsSoundDurable, raised, reopened}
use Rattle.office_model.specs.Meaning.{Carried, Renews}
use Rattle.office_model.specs.events.Reopen.{carried, meaning}
use Rattle.office_model.specs.laws.Judging.{passed}
use Rattle.office_model.specs.laws.VolatileLaws.{IsSoundVolatile-nothing, pooled_nothing}
use Rattle.office_model.specs.laws.HeldLaws.{held_by, was_pooled}
use Rattle.office_model.specs.laws.Lawful.{IsLawful, does}

pub IsSoundDurable-raised : (kept : Durable) → IsSoundDurable kept → IsSoundDurable (raised kept)
IsSoundDurable-raised kept sound = record {
  hosts = sound.hosts;
  pool_order = sound.pool_order;
  of_backups = sound.of_backups;
  of_partials = sound.of_partials;
  ended = record {
    differ = sound.ended.differ;
    up_to_now = λ i n r at. let le : r.name.epoch ≤ kept.epoch = sound.ended.up_to_now i n r at in omega arith;
  };
}

pub IsSound-reopened : (kept : Durable) → IsSoundDurable kept → IsSound (reopened kept)
IsSound-reopened kept sound = record {
  kept = IsSoundDurable-raised kept sound;
  now = IsSoundVolatile-nothing (raised kept).epoch;
  tied = record {
    hosted = λ i d at. absurd (cc);
    over = λ i n r at. record {
      given = λ same. let le : r.name.epoch ≤ kept.epoch = sound.ended.up_to_now i n r at in absurd (omega (arith, same));
      no_dump = λ j d there. absurd (cc);
      no_restore = λ j s there. absurd (cc);
    };
    pooled = pooled_nothing kept.pool;
  };
}

-- of what the disk keeps, a Reopen makes a sound office
pub IsSound-carried : (kept : Durable) (c : Carried) → IsSoundDurable kept → carried kept ≡ Ok c → IsSound c.after
IsSound-carried kept c sound e =
    let a = passed NumbersSpent (nat_le last_sequence kept.epoch) _ c e in
    let same : record { answer = Reopened (kept.epoch + 1); after = reopened kept } ≡ c = let f = a.1 in cc in
    subst (λ (x : Carried). IsSound x.after) same (IsSound-reopened kept sound)

-- its pool and ids are those that the disk kept
pub same_ids : (kept : Durable) (c : Carried) → carried kept ≡ Ok c → (c.after.pool ≡ kept.pool) × (c.after.ids ≡ kept.ids)
same_ids kept c e =
    let a = passed NumbersSpent (nat_le last_sequence kept.epoch) _ c e in
    let same : record { answer = Reopened (kept.epoch + 1); after = reopened kept } ≡ c = let f = a.1 in cc in
    (ap (λ (x : Carried). x.after.pool) (sym same), ap (λ (x : Carried). x.after.ids) (sym same))

-- and nothing is open in it
pub nothing_left : (kept : Durable) (c : Carried) → carried kept ≡ Ok c → c.after.volatile ≡ nothing_open
nothing_left kept c e =
    let a = passed NumbersSpent (nat_le last_sequence kept.epoch) _ c e in
    let same : record { answer = Reopened (kept.epoch + 1); after = reopened kept } ≡ c = let f = a.1 in cc in
    ap (λ (x : Carried). x.after.volatile) (sym same)

pub lawful : IsLawful meaning
lawful office names c sound e =
    let a = passed NumbersSpent (nat_le last_sequence office.epoch) _ c e in
    does _ office names sound _ c a.1 (record {
      in_kind = refl;
      sound = IsSound-reopened office.durable sound.office.kept;
      ids = refl;
      contents = λ stays. refl;
      numbers = record { stages = λ i s at. absurd (cc); readers = λ i r at. absurd (cc) };
      held = λ content h. held_by content office Renews office.pool [] (was_pooled content office Renews) (λ (g : false ≡ true). absurd (cc)) h;
    })
