use Rattle.std.specs.Prelude.{Some, None, Ok, [], ◌∷◌}
use Rattle.std.proofs.Common.{refl, subst}
use Rattle.office_model.specs.declared.event.Event.TheVariants as E
use Rattle.office_model.specs.declared.event.PutItem.TheVariants.{Whole}
use Rattle.office_model.specs.declared.answer.Answer.TheVariants as A
use Rattle.folder_walk.specs.declared.refusals.DumpRefusal.TheVariants as D
use Rattle.folder_walk.specs.Puts.{IsCallFault}
use Rattle.folder_walk.proofs.PutLaws.{IsItemThere, puts_none, puts_gone, puts_one, puts_refused}
use Rattle.folder_walk.proofs.putting.put_small.Goals as goal

pub returns-in-Err-clause-puts : goal.returns-in-Err-clause-puts
returns-in-Err-clause-puts g c =
    puts_none g.P.Port.moves g.met.P.Port.none c.args.port.now c.args.port.now (g.F.Folder.tree c.args.folder.now) c.args.dump c.args.path.now c.args.node
    c.in-Err.fault c.in-Err.ensures.unrefused

pub returns-in-None-clause-puts : goal.returns-in-None-clause-puts
returns-in-None-clause-puts g c =
    puts_gone g.P.Port.moves g.met.P.Port.none c.args.port.now c.args.port.now (g.F.Folder.tree c.args.folder.now) c.args.dump c.args.path.now c.args.node
    (subst (λ found. IsItemThere (g.F.Folder.tree c.args.folder.now) c.args.path.now c.args.node found) c.in-None.is c.in-Ok.ensures.item)

pub returns-in_default-clause-puts : goal.returns-in_default-clause-puts
returns-in_default-clause-puts g c =
    puts_none g.P.Port.moves g.met.P.Port.none c.args.port.now c.args.port.now (g.F.Folder.tree c.args.folder.now) c.args.dump c.args.path.now c.args.node
    D.Memory refl

pub returns-in-Ok-put_item-clause-puts : goal.returns-in-Ok-put_item-clause-puts
returns-in-Ok-put_item-clause-puts g c =
    puts_one g.P.Port.moves g.met.P.Port.none c.args.port.now c.put_item.new.port (g.F.Folder.tree c.args.folder.now) c.args.dump c.args.path.now c.args.node
    c.requires c.in-Some.item
    (subst (λ path. g.P.Port.moves c.args.port.now ((E.Put c.args.dump path (Whole c.in-Some.item) None, Ok A.Done) ∷ []) c.put_item.new.port) c.in-Ok-copy.ensures
    c.in-Ok-put_item.ensures.ok)
    (subst (λ found. IsItemThere (g.F.Folder.tree c.args.folder.now) c.args.path.now c.args.node found) c.in-Some.is c.in-Ok.ensures.item)

pub returns-in-Err-put_item-clause-puts : goal.returns-in-Err-put_item-clause-puts
returns-in-Err-put_item-clause-puts g c =
    puts_refused g.P.Port.moves g.met.P.Port.none c.args.port.now c.put_item.new.port (g.F.Folder.tree c.args.folder.now) c.args.dump c.args.path.now
    c.args.node c.requires c.in-Some.item c.in-Err-put_item.fault
    (subst (λ path. IsCallFault g.P.Port.moves c.args.port.now c.put_item.new.port (E.Put c.args.dump path (Whole c.in-Some.item) None) c.in-Err-put_item.fault)
    c.in-Ok-copy.ensures c.in-Err-put_item.ensures.err)
    (subst (λ found. IsItemThere (g.F.Folder.tree c.args.folder.now) c.args.path.now c.args.node found) c.in-Some.is c.in-Ok.ensures.item)
