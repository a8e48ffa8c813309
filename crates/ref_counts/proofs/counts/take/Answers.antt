use Rattle.std.proofs.Common.{sym, ap, subst, ◌∙◌}
use Rattle.ref_counts.specs.Numbers.{Items, AreCounts, number, less}
use Rattle.ref_counts.specs.NumberLaws.{AreCounts-less, number-less}
use Rattle.ref_counts.proofs.Merged.{merged}
use Rattle.ref_counts.proofs.counts.take.Goals as goal

pub from_items-requires : goal.from_items-requires
from_items-requires c =
    subst (λ (items : Items). AreCounts items) (sym (merged less _ _ _ _ _ c.in_ok-items.ensures c.items.ensures.items c.items-2.ensures.items))
    (AreCounts-less c.args.counts.now c.args.less.now c.items.ensures.are c.items-2.ensures.are)

pub returns : goal.returns
returns c = λ id.
    ap (λ (items : Items). number items id) (c.from_items.ensures ∙ merged less _ _ _ _ _ c.in_ok-items.ensures c.items.ensures.items c.items-2.ensures.items)
    ∙ number-less c.args.counts.now c.args.less.now c.items.ensures.are c.items-2.ensures.are id
