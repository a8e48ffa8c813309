-- What a search answers is what the entries have under the key.
use Rattle.std.proofs.Common.{◌≡◌, ◌<◌, ℕ, map, get_or, List, length, Some, None, sym, ap, ◌∙◌}
use Rattle.std.specs.declared.result.Result.TheVariants.{Ok, Err}
use Rattle.std.specs.declared.cmp.Ordering.{Ordering}
use Rattle.std.specs.FinMap.Entries.{find}
use Rattle.std.proofs.lemmas.List.{get_or-map}
use Rattle.ordered_lists.specs.Search.{IsThere, IsAbsent}
use Rattle.ordered_lists.proofs.SearchSteps.{searched}
use Rattle.ordered_lists.proofs.searches.find.Goals as goal

held_there : {K X E : Type 0} (R : K → K → Ordering) (entry : E → K × X) (es : List E) (q : K) (i : ℕ) (e : E)
    → IsThere R (map entry es) q i → i < length es → e ≡ get_or es i e → Some (entry e).1 ≡ find R q (map entry es)
held_there R entry es q i e there within is =
    ap (λ x. Some (entry x).1) is ∙ ap (λ x. Some x.1) (sym (get_or-map entry es i e (entry e) within)) ∙ sym (there.found (entry e))

pub returns-in-Ok : goal.returns-in-Ok
returns-in-Ok g c = λ key by.
    held_there g.E.Entry.order g.E.Entry.entry c.args.entries.now key _ _
    (searched g.E.Entry.order g.met.E.Entry.total g.E.Entry.entry key c.args.entries.now (Ok c.in-Ok.index) c.requires.in_order c.in-Ok.ensures.bound
    (c.in-Ok.ensures.position (λ e. g.E.Entry.order (g.E.Entry.entry e).0 key) by))
    c.in-Ok.ensures.bound c.index-entries-index.is

pub returns-in-Err : goal.returns-in-Err
returns-in-Err g c = λ key by.
    let absent : IsAbsent g.E.Entry.order (map g.E.Entry.entry c.args.entries.now) key _ =
    searched g.E.Entry.order g.met.E.Entry.total g.E.Entry.entry key c.args.entries.now (Err c.in-Err.field-0) c.requires.in_order c.in-Err.ensures.bound
    (c.in-Err.ensures.position (λ e. g.E.Entry.order (g.E.Entry.entry e).0 key) by) in
    sym absent.none
