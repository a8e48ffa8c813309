-- The next epoch is proposed, and made.
--     after_none      a change of the index without names leaves all names as they are
--     next_of      what is proposed
use Rattle.std.specs.Prelude.{◌++◌}
use Rattle.std.specs.Global.{Vec}
use Rattle.std.proofs.Common.{◌≡◌, ◌+◌, List, [], ◌∷◌, sym, ap, ◌∙◌, subst}
use Rattle.disk_trait.specs.declared.ids.PoolId.{PoolId}
use Rattle.disk_trait.specs.declared.ids.FileId.TheVariants as F
use Rattle.pool_name.specs.declared.namer.Namer.{Ghosts as NamerGhosts}
use Rattle.intent_journal.specs.declared.changes.Change.{Change}
use Rattle.pool_changes.specs.declared.index.IndexChange.{IndexChange}
use Rattle.pool_changes.specs.Slots.{Slots}
use Rattle.pool_changes.specs.Kept.{slots_of, IsSame}
use Rattle.pool_changes.specs.Listed.{index_of}
use Rattle.pool_changes.specs.Indexed.{after, relisted_by, IsOf}
use Rattle.pool_changes.specs.Written.{LeadsIndex}
use Rattle.pool_store.specs.declared.pool.Pool.{Pool}
use Rattle.office_catalog.specs.declared.edits.CatalogChange.{CatalogChange}
use Rattle.office_catalog.specs.Known.{Known, with_epoch}
use Rattle.office_catalog.specs.Changed.{IsFor, Proposes}
use Rattle.store_opening.specs.Next.{IsNext}

pub after_none : (change : IndexChange) (slots : Slots) → IsOf change [] [] [] [] → after change slots ≡ slots
after_none change slots of = λ i. relisted_by (of.added_are i) (of.marked_are i) (of.unmarked_are i) (of.removed_are i) slots

pub same_names : (change : IndexChange) (old new : Slots) → IsOf change [] [] [] [] → IsSame (after change old) new → IsSame old new
same_names change old new of same id = same id ∙ ap (λ (s : Slots). s id) (after_none change old of)

pub next_of : {N S : Type 0} {n : NamerGhosts N S} (pool : Pool N S n) (catalog : Known) (change : CatalogChange) (listed taken : IndexChange)
    (pooled changes : List Change)
    → Proposes catalog (with_epoch catalog (catalog.epoch + 1)) (F.Head ∷ []) change → IsFor catalog change → IsOf listed [] [] [] []
    → LeadsIndex pool.in_one_file (index_of (slots_of pool.names)) (index_of (after listed (slots_of pool.names))) listed.changes
    → pooled ≡ listed.changes → taken.added ≡ listed.added → taken.marked ≡ listed.marked → taken.unmarked ≡ listed.unmarked
    → taken.removed ≡ listed.removed → changes ≡ pooled ++ change.changes
    → IsNext pool catalog (record { catalog = change; index = taken; changes = changes })
next_of pool catalog change listed taken pooled changes proposes fits of leads same added marked unmarked removed both = record {
  proposes = proposes;
  fits = fits;
  index = record {
    added_are = ap (λ (v : Vec PoolId). v.items) added ∙ of.added_are;
    marked_are = ap (λ (v : Vec PoolId). v.items) marked ∙ of.marked_are;
    unmarked_are = ap (λ (v : Vec PoolId). v.items) unmarked ∙ of.unmarked_are;
    removed_are = ap (λ (v : Vec PoolId). v.items) removed ∙ of.removed_are;
  };
  pooled = pooled;
  leads = subst (λ (c : List Change). LeadsIndex pool.in_one_file (index_of (slots_of pool.names)) (index_of (slots_of pool.names)) c)
      (sym same)
      (subst (λ (s : Slots). LeadsIndex pool.in_one_file (index_of (slots_of pool.names)) (index_of s) listed.changes)
      (after_none listed (slots_of pool.names) of) leads);
  changes_are = both;
}
