use Rattle.std.proofs.Common.{refl}
use Rattle.intent_journal.proofs.CallsLaws.{appended_one, one_changed, settled_touch, touches}
use Rattle.intent_journal.proofs.journal.Journal.append.Goals as goal

pub invariant_of-self : goal.invariant_of-self
invariant_of-self g c =
    let one = one_changed c.append.result _ _ _ c.args.file (appended_one _ c.args.file c.args.bytes.now) c.append.ensures.told
    c.append.ensures.failed in
    record { settled = λ run. settled_touch _ _ _ _ c.args.file (c.args.self.now.settled run) c.requires one c.append.ensures.certain }

pub returns-in-Ok : goal.returns-in-Ok
returns-in-Ok g c =
    let one = one_changed c.append.result _ _ _ c.args.file (appended_one _ c.args.file c.args.bytes.now) c.append.ensures.told
    c.append.ensures.failed in
    touches c.args.self.now _ c.args.file _ _ g.met.D.Disk.only_now c.if-self.false refl c.requires (λ e. cc) (λ e. cc)
    c.in-Ok.ensures.told one c.append.ensures.certain c.append.ensures.time
    (record {
      later = c.append.ensures.counted.later;
      rose = λ e. absurd (cc);
      stays = λ _. c.in-Ok.ensures.counted.stays (λ e. absurd (cc));
    })

pub returns-in-Err : goal.returns-in-Err
returns-in-Err g c =
    let one = one_changed c.append.result _ _ _ c.args.file (appended_one _ c.args.file c.args.bytes.now) c.append.ensures.told
    c.append.ensures.failed in
    touches c.args.self.now _ c.args.file _ _ g.met.D.Disk.only_now c.if-self.false refl c.requires (λ e. cc) (λ e. cc) tt one
    c.append.ensures.certain c.append.ensures.time
    (record { later = c.append.ensures.counted.later; rose = λ e. c.in-Err.ensures.counted.rose refl; stays = λ fine. absurd (fine refl) })
