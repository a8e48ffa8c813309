use Rattle.std.proofs.Common.{◌≡◌, List, Option, Some, sym, subst}
use Rattle.disk_trait.specs.Files.{Files}
use Rattle.disk_trait.specs.ImagesLaws.{leaves_wider}
use Rattle.intent_journal.specs.declared.changes.Change.{Change}
use Rattle.intent_journal.specs.Overlay.{IsFound, IsFoundOver}
use Rattle.intent_journal.proofs.CommitLaws.{alike_of_found, at_rest_alike, same_comes}
use Rattle.intent_journal.proofs.recovery.replay_found.Goals as goal

-- the changes that were found, as they are given to the replay
found_over : (all : Files) (found : Option (List Change)) (changes given : List Change) → found ≡ Some changes → given ≡ changes
    → IsFound all found → IsFoundOver all given
found_over all found changes given is same over =
    let there : IsFoundOver all changes = subst (λ (f : Option (List Change)). IsFound all f) is over in
    subst (λ (cs : List Change). IsFoundOver all cs) (sym same) there

pub returns-in-Ok-clause-at_rest : goal.returns-in-Ok-clause-at_rest
returns-in-Ok-clause-at_rest g c = λ all files told found comes.
    let over = found_over all _ _ _ c.in-Some.is c.as_slice.ensures found in
    at_rest_alike _ _ _ _ (c.in-Ok.ensures.at_rest all told c.requires) (alike_of_found all files _ over comes)

pub returns-in-Ok-clause-any_moment : goal.returns-in-Ok-clause-any_moment
returns-in-Ok-clause-any_moment g c = λ all files told found comes.
    let over = found_over all _ _ _ c.in-Some.is c.as_slice.ensures found in
    leaves_wider (c.replay.ensures.any_moment all told c.requires over.over)
    (λ image to. same_comes _ _ image (alike_of_found all files _ over comes) to)

pub returns-in-Err-clause-any_moment : goal.returns-in-Err-clause-any_moment
returns-in-Err-clause-any_moment g c = λ all files told found comes.
    let over = found_over all _ _ _ c.in-Some.is c.as_slice.ensures found in
    leaves_wider (c.replay.ensures.any_moment all told c.requires over.over)
    (λ image to. same_comes _ _ image (alike_of_found all files _ over comes) to)
