use Rattle.std.proofs.Common.{◌≡◌, ℕ, List, [], ◌∷◌, Option, Some, inr, ap, ◌∙◌}
use Rattle.disk_trait.specs.declared.ids.FileId.TheVariants.{Intent, Gate}
use Rattle.disk_trait.specs.Files.{Files, with_bytes, changed}
use Rattle.disk_trait.specs.ImagesLaws.{leaves_wider, leaves_then}
use Rattle.intent_journal.specs.declared.changes.Change.{Change}
use Rattle.intent_journal.specs.Layout.{intent_file}
use Rattle.intent_journal.proofs.CommitLaws.{only_more, open_files, open_over, open_alike, replay_image, at_rest_alike, applied_keeps_alike}
use Rattle.intent_journal.proofs.steps.carry_out.Goals as goal

-- what the disk tells once Gate is open
opened : (told told' : Option Files) (all : Files) (changes : List Change) (intent : List ℕ) → told ≡ Some all
    → intent ≡ intent_file changes
    → told' ≡ changed (changed told Intent (Some intent)) Gate (Some (79 ∷ [])) → told' ≡ Some (open_files all changes)
opened told told' all changes intent is bytes then =
    then
    ∙ ap (λ (t : Option Files). changed (changed t Intent (Some intent)) Gate (Some (79 ∷ []))) is
    ∙ ap (λ (i : List ℕ). Some (with_bytes (with_bytes all Intent (Some i)) Gate (Some (79 ∷ [])))) bytes

pub returns-in-Err-clause-any_moment : goal.returns-in-Err-clause-any_moment
returns-in-Err-clause-any_moment g c = λ all told.
    c.open_gate.ensures.any_moment all c.args.changes.now told c.requires.settled c.requires.bytes c.requires.changes

pub returns-in-Ok-replay-clause-at_rest : goal.returns-in-Ok-replay-clause-at_rest
returns-in-Ok-replay-clause-at_rest g c = λ all told.
    let is = opened _ _ all c.args.changes.now _ told c.requires.bytes c.in-Ok.ensures.told in
    at_rest_alike _ _ _ _ (c.in-Ok-replay.ensures.at_rest _ is c.in-Ok.ensures.durable)
    (applied_keeps_alike c.args.changes.now (open_files all c.args.changes.now) all (open_alike all c.args.changes.now))

pub returns-in-Ok-replay-clause-any_moment : goal.returns-in-Ok-replay-clause-any_moment
returns-in-Ok-replay-clause-any_moment g c = λ all told.
    let is = opened _ _ all c.args.changes.now _ told c.requires.bytes c.in-Ok.ensures.told in
    leaves_then
    (c.open_gate.ensures.any_moment all c.args.changes.now told c.requires.settled c.requires.bytes c.requires.changes)
    (leaves_wider (c.replay.ensures.any_moment _ is c.in-Ok.ensures.durable (open_over all c.args.changes.now c.requires.changes))
    (λ image comes. inr (replay_image all c.args.changes.now image c.requires.changes comes)))

pub returns-in-Err-replay-clause-any_moment : goal.returns-in-Err-replay-clause-any_moment
returns-in-Err-replay-clause-any_moment g c = λ all told.
    let is = opened _ _ all c.args.changes.now _ told c.requires.bytes c.in-Ok.ensures.told in
    leaves_then
    (c.open_gate.ensures.any_moment all c.args.changes.now told c.requires.settled c.requires.bytes c.requires.changes)
    (leaves_wider (c.replay.ensures.any_moment _ is c.in-Ok.ensures.durable (open_over all c.args.changes.now c.requires.changes))
    (λ image comes. inr (replay_image all c.args.changes.now image c.requires.changes comes)))

pub returns-in-Ok-replay-clause-stages : goal.returns-in-Ok-replay-clause-stages
returns-in-Ok-replay-clause-stages g c = λ all told.
    let is = opened _ _ all c.args.changes.now _ told c.requires.bytes c.in-Ok.ensures.told in
    let first = c.in-Ok.ensures.synced all c.args.changes.now told c.requires.settled c.requires.bytes c.requires.changes in
    inr (record {
      synced = first.synced;
      up_to = first.up_to;
      from_then = only_more first.from_then
          (leaves_wider (c.replay.ensures.any_moment _ is c.in-Ok.ensures.durable (open_over all c.args.changes.now c.requires.changes))
          (λ image comes. inr (replay_image all c.args.changes.now image c.requires.changes comes)));
    })

pub returns-in-Err-replay-clause-stages : goal.returns-in-Err-replay-clause-stages
returns-in-Err-replay-clause-stages g c = λ all told.
    let is = opened _ _ all c.args.changes.now _ told c.requires.bytes c.in-Ok.ensures.told in
    let first = c.in-Ok.ensures.synced all c.args.changes.now told c.requires.settled c.requires.bytes c.requires.changes in
    inr (record {
      synced = first.synced;
      up_to = first.up_to;
      from_then = only_more first.from_then
          (leaves_wider (c.replay.ensures.any_moment _ is c.in-Ok.ensures.durable (open_over all c.args.changes.now c.requires.changes))
          (λ image comes. inr (replay_image all c.args.changes.now image c.requires.changes comes)));
    })

pub returns-in-Err-clause-stages : goal.returns-in-Err-clause-stages
returns-in-Err-clause-stages g c = λ all told.
    c.open_gate.ensures.stages all c.args.changes.now told c.requires.settled c.requires.bytes c.requires.changes
