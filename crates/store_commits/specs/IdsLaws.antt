-- Laws of specs/Ids.
--     among_named      these are the names of the rows
--     are_given, all_given      they are given ones; all, if all that the rows name are
use Rattle.std.specs.Prelude.{◌≡◌, ℕ, Bool, true, false, ◌||◌, List, [], ◌∷◌, Option, Some, None, if◌then◌else◌}
use Rattle.std.proofs.Common.{refl, sym, ap, ◌∙◌, subst}
use Rattle.disk_trait.specs.declared.ids.PoolId.{PoolId}
use Rattle.attr_tables.specs.declared.records.Record.{Record}
use Rattle.attr_tables.specs.declared.records.Record.TheVariants.{File, Dir, Link, Deleted}
use Rattle.pool_changes.specs.Slots.{Slots, is_given}
use Rattle.pool_changes.specs.Indexed.{AreGiven}
use Rattle.merge_view.specs.Views.{Rows}
use Rattle.stored_trees.specs.Occurrences.{names, is_content}
use Rattle.stored_trees.specs.Resolved.{content_in, IsTold, IsToldContent, AreTold}
use Rattle.office_pool.specs.AddedLaws.{is_among}
use Rattle.office_changes.specs.Commits.{is_named}
use Rattle.store_dumps.specs.ClaimLaws.{same_tests}
use Rattle.store_commits.specs.Ids.{given_id, given_in, ids_in, with_id}

pub are_given : (slots : Slots) (rows : Rows) → AreGiven slots (given_in slots rows)
are_given slots [] = tt
are_given slots (row ∷ rows) = step (content_in row.1) (are_given slots rows)
  where
    tested : (id : PoolId) (b : Bool) → is_given (slots id) ≡ b → AreGiven slots (given_in slots rows)
        → AreGiven slots (with_id (if b then Some id else None) (given_in slots rows))
    tested id true e rest = (e, rest)
    tested id false e rest = rest

    step : (held : Option PoolId) → AreGiven slots (given_in slots rows) → AreGiven slots (with_id (given_id slots held) (given_in slots rows))
    step None rest = rest
    step (Some id) rest = tested id (is_given (slots id)) refl rest

pub all_given : (slots : Slots) (rows : Rows) → AreGiven slots (ids_in rows) → given_in slots rows ≡ ids_in rows
all_given slots [] are = refl
all_given slots (row ∷ rows) are = step (content_in row.1) are (λ rest. all_given slots rows rest)
  where
    first : (id : PoolId) → is_given (slots id) ≡ true → given_id slots (Some id) ≡ Some id
    first id e = rw e refl

    step : (held : Option PoolId) → AreGiven slots (with_id held (ids_in rows)) → (AreGiven slots (ids_in rows) → given_in slots rows ≡ ids_in rows)
        → with_id (given_id slots held) (given_in slots rows) ≡ with_id held (ids_in rows)
    step None are rest = rest are
    step (Some id) are rest =
        ap (λ (o : Option PoolId). with_id o (given_in slots rows)) (first id are.0) ∙ ap (λ (ids : List PoolId). id ∷ ids) (rest are.1)

module _ (given : PoolId → Type 0) (contents : PoolId → List ℕ) where
  given_content : (node : Record) → IsTold given contents node → (id : PoolId) → content_in node ≡ Some id → given id
  given_content (File file) told id e = step file.content told e
    where
      step : (held : Option PoolId) → IsToldContent given contents file.size held → held ≡ Some id → given id
      step None told e = absurd cc
      step (Some other) told e = let same : other ≡ id = cc in subst given same told.0
  given_content (Dir dir) told id e = absurd cc
  given_content (Link link) told id e = absurd cc
  given_content Deleted told id e = absurd cc

module _ (slots : Slots) (contents : PoolId → List ℕ) where
  pub given_ids : (rows : Rows) → AreTold (λ id. is_given (slots id) ≡ true) contents rows → AreGiven slots (ids_in rows)
  given_ids [] told = tt
  given_ids (row ∷ rows) told =
      step (content_in row.1) (given_content (λ id. is_given (slots id) ≡ true) contents row.1 told.0) (given_ids rows told.1)
    where
      step : (held : Option PoolId) → ((id : PoolId) → held ≡ Some id → is_given (slots id) ≡ true) → AreGiven slots (ids_in rows)
          → AreGiven slots (with_id held (ids_in rows))
      step None here rest = rest
      step (Some id) here rest = (here id refl, rest)

-- a name is among the ids exactly if a row names it
pub among_named : (rows : Rows) (id : PoolId) → is_among (ids_in rows) id ≡ is_named id rows
among_named [] id = refl
among_named (row ∷ rows) id = step row.1 (among_named rows id)
  where
    held : (content : Option PoolId) → is_among (ids_in rows) id ≡ is_named id rows
        → is_among (with_id content (ids_in rows)) id ≡ (is_content id content || is_named id rows)
    held None rest = rest
    held (Some other) rest = λ i. sym (same_tests other id) i || rest i

    step : (node : Record) → is_among (ids_in rows) id ≡ is_named id rows
        → is_among (with_id (content_in node) (ids_in rows)) id ≡ (names id node || is_named id rows)
    step (File file) rest = held file.content rest
    step (Dir dir) rest = rest
    step (Link link) rest = rest
    step Deleted rest = rest

-- the contents that are listed are given
pub listed_given : (slots : Slots) (ids asked : List PoolId) (rows found : Rows) → ids ≡ given_in slots found → found ≡ rows → asked ≡ ids
    → AreGiven slots asked
listed_given slots ids asked rows found are same again =
    subst (AreGiven slots) (sym (again ∙ are)) (are_given slots found)
