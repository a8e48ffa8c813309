-- An office stays sound where an open dump is dropped.
use Rattle.std.specs.Prelude.{◌≡◌, ◌<◌, ℕ, true, not, List, Ok}
use Rattle.std.specs.List.{remove}
use Rattle.std.proofs.Common.{refl, ap, ◌∙◌, subst}
use Rattle.receipts.specs.declared.session.SessionName.{SessionName}
use Rattle.office_model.specs.PlacesLaws.{AtEach-remove}
use Rattle.receipts.specs.Session.{is_same_session}
use Rattle.office_model.specs.Office.{Office, Dump, Stage, with_dumps, with_stages, stages_left, IsSound, HasHost, in_dumps}
use Rattle.office_model.specs.Meaning.{Same}
use Rattle.office_model.specs.Parts.{dump_at}
use Rattle.office_model.specs.events.Abort.{without_dump, meaning}
use Rattle.office_model.specs.laws.Judging.{bound, at_is}
use Rattle.office_model.specs.laws.VolatileLaws.{dump_removed, over_dump_removed, pooled_dump_removed}
use Rattle.office_model.specs.laws.StageLaws.{AtEach-filter}
use Rattle.office_model.specs.laws.Lookups.{named}
use Rattle.office_model.specs.laws.HeldLaws.{removed_held, held_by, was_pooled, was_in_dumps}
use Rattle.office_model.specs.laws.Lawful.{IsLawful, does}

pub IsSound-without_dump : (office : Office) (session : SessionName) (dumps : List Dump) → IsSound office
    → without_dump session office.dumps ≡ Ok dumps → IsSound (with_stages (with_dumps office dumps) (stages_left session office.stages))
IsSound-without_dump office session dumps sound e =
    let w = bound (dump_at office.dumps session) (λ dump. Ok (remove office.dumps dump.index)) dumps e in
    let is = at_is _ office.dumps _ w.0 w.1 in
    let same : remove office.dumps w.0.index ≡ dumps = let f = w.2 in cc in
    subst (λ ds. IsSound (with_stages (with_dumps office ds) (stages_left session office.stages))) same (record {
      kept = sound.kept;
      now = dump_removed office.epoch office.volatile sound.now w.0.index w.0.value session is.1 (named office.dumps session w.0.index w.0.value is.0 is.1);
      tied = record {
        hosted = AtEach-remove (HasHost office.hosts) office.dumps w.0.index sound.hosted;
        over = λ i n r at. over_dump_removed office.epoch office.sequence office.dumps office.restores r (sound.over i n r at) w.0.index;
        pooled = pooled_dump_removed office.pool office.volatile sound.pooled w.0.index (stages_left session office.stages);
      };
    })

held-without_dump : (content : List ℕ) (office : Office) (session : SessionName) (dumps : List Dump) → without_dump session office.dumps ≡ Ok dumps
    → in_dumps dumps content ≡ true → in_dumps office.dumps content ≡ true
held-without_dump content office session dumps e h =
    let w = bound (dump_at office.dumps session) (λ dump. Ok (remove office.dumps dump.index)) dumps e in
    let same : remove office.dumps w.0.index ≡ dumps = cc in
    removed_held content office.dumps w.0.index (ap (λ ds. in_dumps ds content) same ∙ h)

pub lawful : (session : SessionName) → IsLawful (meaning session)
lawful session office names c sound e =
    let a = bound (without_dump session office.dumps) _ c e in
    does _ office names sound _ c a.2 (record {
      in_kind = refl;
      sound = IsSound-without_dump office session a.0 sound.office a.1;
      ids = refl;
      contents = λ stays. refl;
      numbers = record {
        stages = AtEach-filter (λ (s : Stage). s.number < names.next_stage) (λ (s : Stage). not (is_same_session s.dump session)) office.stages sound.names.given.stages;
        readers = sound.names.given.readers;
      };
      held = λ content h. held_by content office Same office.pool a.0 (was_pooled content office Same)
          (λ g. was_in_dumps content office Same (held-without_dump content office session a.0 a.1 g)) h;
    })
