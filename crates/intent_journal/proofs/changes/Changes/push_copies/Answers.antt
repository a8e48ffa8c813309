use Rattle.std.proofs.Common.{◌≡◌, ℕ, ◌+◌, ◌<◌, List, [], ◌∷◌, ◌++◌, length, take, get_or, sym, ap, ◌∙◌, add-one}
use Rattle.std.proofs.lemmas.List.{append_assoc}
use Rattle.std.proofs.Math.Seq.{take-suc}
use Rattle.intent_journal.specs.declared.changes.Change.{Change}
use Rattle.intent_journal.proofs.changes.Changes.push_copies.Goals as goal

-- one more was copied
one_more : (so_far old others : List Change) (i : ℕ) (copy change : Change) → so_far ≡ old ++ take i others → i < length others
    → change ≡ get_or others i change → copy ≡ change → so_far ++ copy ∷ [] ≡ old ++ take (i + 1) others
one_more so_far old others i copy change was lt is same =
    ap (λ (xs : List Change). xs ++ copy ∷ []) was
    ∙ append_assoc old (take i others) (copy ∷ [])
    ∙ ap (λ (xs : List Change). old ++ xs) next
  where
    next : take i others ++ copy ∷ [] ≡ take (i + 1) others
    next = rw add-one (ap (λ (x : Change). take i others ++ x ∷ []) (same ∙ is) ∙ sym (take-suc others i change lt))

pub loop-change-preserved : goal.loop-change-preserved
loop-change-preserved c =
    c.in_ok-push.ensures.ok
    ∙ one_more _ _ _ _ _ _ c.loop-change.invariant c.loop-change-test.true c.change-item.is c.in_ok-copy.ensures
