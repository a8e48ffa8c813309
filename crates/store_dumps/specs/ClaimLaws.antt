-- Laws of claims that are let go.
--     lets_go_none, lets_go_same, lets_go_one, lets_go_then, lets_go_alike      none, one, and both of two
--     lets_go_row      those of one row more
--     gains_one, gains_then, gains_alike, gains_row      the same of claims that are added
use Rattle.std.specs.Prelude.{◌≡◌, ◌<◌, ◌≤◌, ℕ, ◌+◌, ◌-◌, ◌==◌, Bool, true, false, List, [], ◌∷◌, ◌++◌, length, take, drop, Option, Some, None, if◌then◌else◌}
use Rattle.std.proofs.Common.{refl, sym, ap, ◌∙◌, subst, arith, get_or}
use Rattle.std.proofs.lemmas.List.{take_more, take-append-drop}
use Rattle.std.proofs.lemmas.Bool.{false≢true}
use Rattle.std.proofs.lemmas.Bool.Decides.{nat_tests}
use Rattle.disk_trait.specs.declared.ids.PoolId.{PoolId}
use Rattle.disk_trait.specs.declared.ids.FileId.TheVariants.{Pool as PoolFile}
use Rattle.disk_trait.specs.NamesLaws.{is_same_file-itself}
use Rattle.pool_index.specs.Items.{is_same_id as is_same_name}
use Rattle.pool_changes.specs.declared.slot.Slot.{Slot}
use Rattle.pool_changes.specs.declared.slot.Slot.TheVariants.{Live, Staged, Doomed}
use Rattle.pool_changes.specs.Slots.{Slots, is_given, claims_of, claimed, let_go, one_id}
use Rattle.pool_changes.specs.Kept.{IsSet, IsSame}
use Rattle.attr_tables.specs.Records.{is_same_id}
use Rattle.attr_tables.specs.RecordLaws.{same_id, id_itself}
use Rattle.attr_tables.specs.declared.records.Record.{Record}
use Rattle.merge_view.specs.Views.{Rows}
use Rattle.stored_trees.specs.Occurrences.{occurrences}
use Rattle.ref_counts.specs.NumberLaws.{occurrences-append}
use Rattle.open_sessions.specs.SessionLaws.{node_occurrences}
use Rattle.store_dumps.specs.Claims.{Loses, LetsGo, Gained, Gains}

-- ---- one name

module _ (id : PoolId) where
  pub loses_none : (slot : Option Slot) → Loses 0 id slot slot
  loses_none slot = record {
    claims = omega arith;
    was_given = λ e. e;
    size = λ e. refl;
    given = λ e some. e;
    live = refl;
    used = refl;
  }

  loses_one : (slot : Option Slot) → 0 < claims_of slot → Loses 1 id slot (let_go slot)
  loses_one None h = absurd (omega (arith, h))
  loses_one (Some (Live size mark claims)) h = record {
    claims = omega (arith, h);
    was_given = λ e. e;
    size = λ e. refl;
    given = λ e some. e;
    live = refl;
    used = refl;
  }
  loses_one (Some (Staged size claims)) h = step (claims == 1) refl
    where
      step : (b : Bool) → (claims == 1) ≡ b
          → Loses 1 id (Some (Staged size claims)) (if b then Some Doomed else Some (Staged size (claims - 1)))
      step true e = record {
        claims = let one : claims ≡ 1 = grind (arith, nat_tests) in omega (arith, one);
        was_given = λ f. refl;
        size = λ f. absurd (false≢true f);
        given = λ f some. absurd (omega (arith, some));
        live = refl;
        used = refl;
      }
      step false e = record {
        claims = omega (arith, h);
        was_given = λ f. refl;
        size = λ f. refl;
        given = λ f some. refl;
        live = refl;
        used = refl;
      }
  loses_one (Some Doomed) h = absurd (omega (arith, h))

  loses_then : (m n : ℕ) (a b c : Option Slot) → Loses m id a b → Loses n id b c → Loses (m + n) id a c
  loses_then m n a b c first second = record {
    claims = omega (arith, first.claims, second.claims);
    was_given = λ e. first.was_given (second.was_given e);
    size = λ e. second.size e ∙ first.size (second.was_given e);
    given = λ e some. second.given (first.given e (omega (arith, some, second.claims))) some;
    live = second.live ∙ first.live;
    used = second.used ∙ first.used;
  }

-- ---- both tests of names

pub same_tests : (a b : PoolId) → is_same_id a b ≡ is_same_name b a
same_tests a b = step (is_same_id a b) refl (is_same_name b a) refl
  where
    step : (s : Bool) → is_same_id a b ≡ s → (t : Bool) → is_same_name b a ≡ t → is_same_id a b ≡ is_same_name b a
    step true e true f = e ∙ sym f
    step false e false f = e ∙ sym f
    step true e false f =
        absurd (false≢true (sym f ∙ subst (λ (x : PoolId). is_same_name b x ≡ true) (sym (same_id a b e))
        (is_same_file-itself (PoolFile b))))
    step false e true f = absurd (false≢true (sym e ∙ subst (λ (x : PoolId). is_same_id a x ≡ true) (sym (one_id b a f)) (id_itself a)))

-- ---- all names

-- 1 for this name
abbrev pub one_of : PoolId → PoolId → ℕ
one_of id other = if is_same_id id other then 1 else 0

module _ (a b : Slots) where
  pub lets_go_none : (f : PoolId → ℕ) → ((id : PoolId) → f id ≡ 0) → LetsGo f a a
  lets_go_none f none id = subst (λ (n : ℕ). Loses n id (a id) (a id)) (sym (none id)) (loses_none id (a id))

  pub lets_go_same : IsSame a b → LetsGo (λ id. 0) a b
  lets_go_same same id = subst (Loses 0 id (a id)) (sym (same id)) (loses_none id (a id))

  pub lets_go_then : (c : Slots) (f g : PoolId → ℕ) → LetsGo f a b → LetsGo g b c → LetsGo (λ id. f id + g id) a c
  lets_go_then c f g first second id = loses_then id (f id) (g id) (a id) (b id) (c id) (first id) (second id)

  pub lets_go_alike : (f g : PoolId → ℕ) → ((id : PoolId) → f id ≡ g id) → LetsGo f a b → LetsGo g a b
  lets_go_alike f g same go id = subst (λ (n : ℕ). Loses n id (a id) (b id)) (same id) (go id)

  pub lets_go_one : (id : PoolId) → 0 < claims_of (a id) → IsSet a b id (let_go (a id)) → LetsGo (one_of id) a b
  lets_go_one id some set other =
      subst (Loses (one_of id other) other (a other)) (sym (set other)) (step (is_same_id id other) refl (is_same_name other id) refl)
    where
      step : (s : Bool) → is_same_id id other ≡ s → (t : Bool) → is_same_name other id ≡ t
          → Loses (if s then 1 else 0) other (a other) (if t then let_go (a id) else a other)
      step true e true f = subst (λ (x : PoolId). Loses 1 x (a x) (let_go (a id))) (same_id id other e) (loses_one id (a id) some)
      step false e false f = loses_none other (a other)
      step true e false f = absurd (false≢true (sym f ∙ sym (same_tests id other) ∙ e))
      step false e true f = absurd (false≢true (sym e ∙ same_tests id other ∙ f))

-- ---- row by row

-- with the first i rows and the next, and all
pub next_row : (id : PoolId) (rows : Rows) (i : ℕ) (row : List ℕ × Record) → i < length rows → row ≡ get_or rows i row
    → occurrences id (take (i + 1) rows) ≡ occurrences id (take i rows) + node_occurrences id row.1
next_row id rows i row within is =
    let more : take (i + 1) rows ≡ take i rows ++ row ∷ [] = take_more rows i row within ∙ ap (λ r. take i rows ++ r ∷ []) (sym is) in
    ap (occurrences id) more ∙ occurrences-append id (take i rows) (row ∷ [])
    ∙ alone (occurrences id (take i rows)) (node_occurrences id row.1)
  where
    alone : (m n : ℕ) → m + (n + 0) ≡ m + n
    alone m n = omega arith

pub front_rows : (id : PoolId) (rows : Rows) (i : ℕ) → occurrences id (take i rows) ≤ occurrences id rows
front_rows id rows i =
    let all : occurrences id (take i rows) + occurrences id (drop i rows) ≡ occurrences id rows
    = sym (occurrences-append id (take i rows) (drop i rows)) ∙ ap (occurrences id) (take-append-drop i rows) in
    omega (arith, all)

pub lets_go_row : (start now next : Slots) (rows : Rows) (i : ℕ) (row : List ℕ × Record) (node : Record) → i < length rows
    → row ≡ get_or rows i row → node ≡ row.1 → ((id : PoolId) → occurrences id rows ≤ claims_of (start id))
    → LetsGo (λ id. occurrences id (take i rows)) start now
    → (((id : PoolId) → node_occurrences id node ≤ claims_of (now id)) → LetsGo (λ id. node_occurrences id node) now next)
    → LetsGo (λ id. occurrences id (take (i + 1) rows)) start next
lets_go_row start now next rows i row node within is node_is enough before step =
    lets_go_alike start next (λ id. occurrences id (take i rows) + node_occurrences id node) (λ id. occurrences id (take (i + 1) rows))
    (λ id. sym (more id))
    (lets_go_then start now next (λ id. occurrences id (take i rows)) (λ id. node_occurrences id node) before
    (step (λ id. omega (arith, more id, front_rows id rows (i + 1), enough id, (before id).claims))))
  where
    more : (id : PoolId) → occurrences id (take (i + 1) rows) ≡ occurrences id (take i rows) + node_occurrences id node
    more id = next_row id rows i row within is ∙ ap (λ (n : Record). occurrences id (take i rows) + node_occurrences id n) (sym node_is)

-- ---- claims that are added

module _ (id : PoolId) where
  pub gained_none : (slot : Option Slot) → Gained 0 id slot slot
  gained_none slot = record { claims = omega arith; given = refl; size = refl; live = refl; used = refl }

  gained_one : (slot : Option Slot) → is_given slot ≡ true → Gained 1 id slot (claimed slot)
  gained_one None e = absurd (false≢true e)
  gained_one (Some (Live size mark claims)) e = record { claims = refl; given = refl; size = refl; live = refl; used = refl }
  gained_one (Some (Staged size claims)) e = record { claims = refl; given = refl; size = refl; live = refl; used = refl }
  gained_one (Some Doomed) e = absurd (false≢true e)

  gained_then : (m n : ℕ) (a b c : Option Slot) → Gained m id a b → Gained n id b c → Gained (m + n) id a c
  gained_then m n a b c first second = record {
    claims = omega (arith, first.claims, second.claims);
    given = second.given ∙ first.given;
    size = second.size ∙ first.size;
    live = second.live ∙ first.live;
    used = second.used ∙ first.used;
  }

module _ (a b : Slots) where
  pub gains_then : (c : Slots) (f g : PoolId → ℕ) → Gains f a b → Gains g b c → Gains (λ id. f id + g id) a c
  gains_then c f g first second id = gained_then id (f id) (g id) (a id) (b id) (c id) (first id) (second id)

  pub gains_alike : (f g : PoolId → ℕ) → ((id : PoolId) → f id ≡ g id) → Gains f a b → Gains g a b
  gains_alike f g same gains id = subst (λ (n : ℕ). Gained n id (a id) (b id)) (same id) (gains id)

  pub gains_one : (id : PoolId) → is_given (a id) ≡ true → IsSet a b id (claimed (a id)) → Gains (one_of id) a b
  gains_one id given set other =
      subst (Gained (one_of id other) other (a other)) (sym (set other)) (step (is_same_id id other) refl (is_same_name other id) refl)
    where
      step : (s : Bool) → is_same_id id other ≡ s → (t : Bool) → is_same_name other id ≡ t
          → Gained (if s then 1 else 0) other (a other) (if t then claimed (a id) else a other)
      step true e true f = subst (λ (x : PoolId). Gained 1 x (a x) (claimed (a id))) (same_id id other e) (gained_one id (a id) given)
      step false e false f = gained_none other (a other)
      step true e false f = absurd (false≢true (sym f ∙ sym (same_tests id other) ∙ e))
      step false e true f = absurd (false≢true (sym e ∙ same_tests id other ∙ f))

pub gains_row : (start now next : Slots) (rows : Rows) (i : ℕ) (row : List ℕ × Record) (node : Record) → i < length rows
    → row ≡ get_or rows i row → node ≡ row.1 → ((id : PoolId) → 0 < occurrences id rows → is_given (start id) ≡ true)
    → Gains (λ id. occurrences id (take i rows)) start now
    → (((id : PoolId) → 0 < node_occurrences id node → is_given (now id) ≡ true) → Gains (λ id. node_occurrences id node) now next)
    → Gains (λ id. occurrences id (take (i + 1) rows)) start next
gains_row start now next rows i row node within is node_is given before step =
    gains_alike start next (λ id. occurrences id (take i rows) + node_occurrences id node) (λ id. occurrences id (take (i + 1) rows))
    (λ id. sym (more id))
    (gains_then start now next (λ id. occurrences id (take i rows)) (λ id. node_occurrences id node) before
    (step (λ id some. (before id).given ∙ given id (omega (arith, some, more id, front_rows id rows (i + 1))))))
  where
    more : (id : PoolId) → occurrences id (take (i + 1) rows) ≡ occurrences id (take i rows) + node_occurrences id node
    more id = next_row id rows i row within is ∙ ap (λ (n : Record). occurrences id (take i rows) + node_occurrences id n) (sym node_is)
