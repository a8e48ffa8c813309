-- One more path is taken out.
use Rattle.std.proofs.Common.{◌≡◌, ◌<◌, ◌+◌, ℕ, Bool, true, false, ◌||◌, cond, List, [], ◌∷◌, length, take, get_or, Option, None, refl, sym, ap, ◌∙◌}
use Rattle.std.specs.List.{list_any}
use Rattle.std.specs.Ordering.{eq_by_cmp}
use Rattle.std.proofs.lemmas.List.{take_more}
use Rattle.std.proofs.lemmas.List.Folds.{list_any-append}
use Rattle.attr_records.specs.Paths.{path_cmp}
use Rattle.ordered_lists.specs.OrderLaws.{order_from_keys}
use Rattle.attr_records.specs.TreeLaws.{lookup-node_at}
use Rattle.dump_session.proofs.removed.forget.Goals as goal

one_more : {X : Type 0} (paths : List (List ℕ)) (i : ℕ) (path asked : List ℕ) (old now new : Option X) → i < length paths
    → path ≡ get_or paths i path
    → now ≡ cond (list_any (λ p. eq_by_cmp path_cmp p asked) (take i paths)) None old → new ≡ cond (eq_by_cmp path_cmp path asked) None now
    → new ≡ cond (list_any (λ p. eq_by_cmp path_cmp p asked) (take (i + 1) paths)) None old
one_more paths i path asked old now new within is before e =
    e ∙ ap (cond (eq_by_cmp path_cmp path asked) None) before
    ∙ step (eq_by_cmp path_cmp path asked) (list_any (λ p. eq_by_cmp path_cmp p asked) (take i paths))
    ∙ ap (λ p. cond (list_any (λ p. eq_by_cmp path_cmp p asked) (take i paths) || (eq_by_cmp path_cmp p asked || false)) None old) is
    ∙ ap (λ b. cond b None old) (sym (ap (list_any (λ p. eq_by_cmp path_cmp p asked)) (take_more paths i path within) ∙ list_any-append (λ p. eq_by_cmp path_cmp p asked) (take i paths) (get_or paths i path ∷ [])))
  where
    step : (b c : Bool) → cond b None (cond c None old) ≡ cond (c || (b || false)) None old
    step true true = refl
    step true false = refl
    step false true = refl
    step false false = refl

pub loop-path-preserved : goal.loop-path-preserved
loop-path-preserved g c =
    record {
      in_order = order_from_keys path_cmp c.remove.new.self.entries c.remove.ensures.ordered;
      each = λ asked. one_more c.args.paths.now c.loop-path.path-index c.path-item.result asked _ _ _ c.loop-path-test.true c.path-item.is (c.loop-path.invariant.each asked)
          (sym (lookup-node_at c.remove.new.self.entries asked) ∙ c.remove.ensures.updates.0 asked ∙ ap (cond (eq_by_cmp path_cmp c.path-item.result asked) None) (lookup-node_at c.loop-path.map.entries asked));
    }
