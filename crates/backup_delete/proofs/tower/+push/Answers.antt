-- The block goes before the others, or into one with the last of them.
use Rattle.std.proofs.Common.{ap, ◌∙◌, sym, ◌++◌, ◌∷◌, [], List}
use Rattle.backup_delete.specs.declared.tower.Block.{Block}
use Rattle.backup_delete.proofs.TowerSteps.{pushed, pushed_both}
use Rattle.backup_delete.proofs.tower.+push.Goals as goal

pub returns-then-is_half : goal.returns-then-is_half
returns-then-is_half t c = λ lines tables base end order stack is.
    pushed_both lines tables base c.args.blocks.now.items c.pop.new.self.items c.push-then-is_half.new.blocks.items c.args.block c.in-Some.other
    c.in_ok-both-in-Some.both end c.in-Some.ensures.items c.in_ok-both-in-Some.ensures.start
    (λ near far. c.in_ok-both-in-Some.ensures.one lines tables c.in-Some.other.end order near far)
    (λ front both. c.in_ok-push-in-Some.ensures lines tables base c.in-Some.other.end order front both) stack is

pub returns-in_ok-push-in-Some-3 : goal.returns-in_ok-push-in-Some-3
returns-in_ok-push-in-Some-3 t c = λ lines tables base end order stack is.
    pushed lines tables base c.args.blocks.now.items c.push-in-Some-2.new.self.items c.args.block end
    (c.in_ok-push-in-Some-3.ensures.items
    ∙ ap (λ (blocks : List Block). blocks ++ c.args.block ∷ []) (c.in_ok-push-in-Some-2.ensures.items ∙ sym c.in-Some.ensures.items)) stack is
