-- Ids stay one for each pooled content, and nothing else of a sound office asks for them.
--     AreIds-same      where pool and ids stay
--     ids_after      what is to be shown of ids that are made anew
--     IsSound-ids      an office is sound whatever its ids are
--     made_as, next_as      what was carried out is what was judged, but for the ids
--     made_plain, next_plain      and just that, of an event that leaves the contents of the pool
--     content_at-id_of, id_of-content_at      a content has the name that leads to it
use Rattle.std.specs.Prelude.{◌≡◌, ℕ, zero, suc, ◌+◌, Bool, true, false, cond, List, [], ◌∷◌, Option, Some, None, Ok, bytes_eq, slice_get}
use Rattle.std.specs.declared.cmp.Ordering.{Ordering}
use Rattle.std.specs.declared.cmp.Ordering.TheVariants.{Less, Equal, Greater}
use Rattle.std.specs.Ordering.{is_eq, ordering_reverse}
use Rattle.std.specs.Option.{option_map, option_and_then}
use Rattle.std.proofs.Common.{refl, sym, ap, ◌∙◌, subst}
use Rattle.std.proofs.lemmas.Cmp.{tied_itself}
use Rattle.std.proofs.lemmas.Slice.Eq.{bytes_eq-Decides}
use Rattle.disk_trait.specs.declared.ids.PoolId.{PoolId}
use Rattle.ordered_lists.specs.Order.{IsInOrder, IsBelowAll}
use Rattle.ordered_lists.specs.OrderLaws.{same_in_order}
use Rattle.pool_index.specs.Items.{id_cmp}
use Rattle.pool_index.specs.ItemLaws.{id_total, id_exact}
use Rattle.office_model.specs.declared.answer.Answer.{Answer}
use Rattle.office_model.specs.PlacesLaws.{position-found, position-some}
use Rattle.office_model.specs.Pool.{Pool, is_pooled}
use Rattle.office_model.specs.Ids.{Ids, content_at, place_of, id_of, AreIds}
use Rattle.office_model.specs.Office.{Office, Durable, Names, IsSound, IsSoundDurable, with_ids}
use Rattle.office_model.specs.Meaning.{Carried, Judged}
use Rattle.office_model.specs.Step.{IsMade, IsNext}
use Rattle.office_model.specs.UsedNames.{Among, AreIdsAfter}

-- where pool and ids stay
pub AreIds-same : (digest_of : List ℕ → List ℕ) (pool pool' : Pool) (ids ids' : Ids) → (pool' ≡ pool) × (ids' ≡ ids) → AreIds digest_of pool ids
    → AreIds digest_of pool' ids'
AreIds-same digest_of pool pool' ids ids' same are =
    subst (λ (p : Pool). AreIds digest_of p ids') (sym same.0) (subst (AreIds digest_of pool) (sym same.1) are)

-- whatever the ids are
pub IsSoundDurable-ids : (kept : Durable) (ids : Ids) → IsSoundDurable (record kept { ids = ids }) → IsSoundDurable kept
IsSoundDurable-ids kept ids s = record { hosts = s.hosts; pool_order = s.pool_order; of_backups = s.of_backups; of_partials = s.of_partials; ended = s.ended }

pub IsSound-ids : (office : Office) (ids : Ids) → IsSound (with_ids office ids) → IsSound office
IsSound-ids office ids s = record {
  kept = IsSoundDurable-ids office.durable ids s.kept;
  now = s.now;
  tied = record { hosted = s.hosted; over = s.over; pooled = s.pooled };
}

-- what was carried out is what was judged, but for the ids
pub made_as : (pools : Bool) (names : Names) (old : Office) (judged : Judged Carried) (answer : Answer) (new : Office)
    → IsMade pools names old judged answer new → (ids : Ids) × (judged ≡ Ok (record { answer = answer; after = with_ids new ids }))
made_as false names old judged answer new is = (new.ids, is)
made_as true names old judged answer new is = (old.ids, is.0)

pub next_as : (pools : Bool) (names : Names) (old made next : Durable) → IsNext pools names old made next
    → (ids : Ids) × (record next { ids = ids } ≡ made)
next_as false names old made next is = (next.ids, is)
next_as true names old made next is = (old.ids, is.0)

-- ids that leave the others as they were are the same ones, where the same contents are pooled
pub ids_after : (names : Names) (old new : Durable) → AreIds names.digest_of old.pool old.ids → AreIds names.digest_of new.pool new.ids
    → ((id : PoolId) (content : List ℕ) → content_at old.ids id ≡ Some content → is_pooled new.pool content ≡ true → content_at new.ids id ≡ Some content)
    → ((id : PoolId) (content : List ℕ) → content_at new.ids id ≡ Some content → is_pooled old.pool content ≡ false → Among names.used id)
    → AreIdsAfter names old new
ids_after names old new was are stay given = record { stay = stay; given = given; same = same; are = are }
  where
    same : ((content : List ℕ) → is_pooled new.pool content ≡ is_pooled old.pool content) → new.ids ≡ old.ids
    same alike = same_in_order id_cmp id_total id_exact new.ids old.ids are.in_order was.in_order each
      where
        back : (id : PoolId) (content : List ℕ) → content_at new.ids id ≡ Some content → content_at old.ids id ≡ Some content
        back id content at =
            let there : is_pooled old.pool content ≡ true = sym (alike content) ∙ are.pooled id content at in
            let w = was.all content there in
            let one : w.0 ≡ id = are.one w.0 id content (stay w.0 content w.1 (alike content ∙ there)) at in
            subst (λ (x : PoolId). content_at old.ids x ≡ Some content) one w.1

        cases : (id : PoolId) (a b : Option (List ℕ)) → content_at new.ids id ≡ a → content_at old.ids id ≡ b → a ≡ b
        cases id None None e f = refl
        cases id (Some content) b e f = sym (back id content e) ∙ f
        cases id None (Some content) e f = sym e ∙ stay id content f (alike content ∙ was.pooled id content f)

        each : (id : PoolId) → content_at new.ids id ≡ content_at old.ids id
        each id = cases id (content_at new.ids id) (content_at old.ids id) refl refl

-- of an event that leaves the contents of the pool it is just what was judged
pub made_plain : (pools : Bool) (names : Names) (old : Office) (judged : Judged Carried) (answer : Answer) (new : Office) → pools ≡ false
    → judged ≡ Ok (record { answer = answer; after = new }) → IsMade pools names old judged answer new
made_plain false names old judged answer new stays is = is
made_plain true names old judged answer new stays is = absurd (cc)

pub next_plain : (pools : Bool) (names : Names) (old made next : Durable) → pools ≡ false → next ≡ made → IsNext pools names old made next
next_plain false names old made next stays is = is
next_plain true names old made next stays is = absurd (cc)

-- ---- a content and its name

at_place : (ids : Ids) (i : ℕ) (entry : PoolId × List ℕ) → IsInOrder id_cmp ids → slice_get ids i ≡ Some entry
    → content_at ids entry.0 ≡ Some entry.1
at_place [] i entry in_order at = absurd (cc)
at_place (first ∷ ids) zero entry in_order at =
    let same : first ≡ entry = cc in
    subst (λ (e : PoolId × List ℕ). content_at (first ∷ ids) e.0 ≡ Some e.1) same
    (ap (λ (r : Ordering). cond (is_eq r) (Some first.1) (content_at ids first.0)) (tied_itself id_total first.0))
at_place (first ∷ ids) (suc i) entry in_order at =
    ap (λ (r : Ordering). cond (is_eq r) (Some first.1) (content_at ids entry.0)) (behind ids i entry in_order.0 at) ∙ at_place ids i entry in_order.1 at
  where
    behind : (rest : Ids) (j : ℕ) (e : PoolId × List ℕ) → IsBelowAll id_cmp first.0 rest → slice_get rest j ≡ Some e → id_cmp e.0 first.0 ≡ Greater
    behind [] j e below there = absurd (cc)
    behind (next ∷ rest) zero e below there =
        let same : next ≡ e = cc in
        ap (λ (x : PoolId × List ℕ). id_cmp x.0 first.0) (sym same) ∙ id_total.antisymm next.0 first.0 ∙ ap ordering_reverse below.0
    behind (next ∷ rest) (suc j) e below there = behind rest j e below.1 there

place_at : (ids : Ids) (id : PoolId) (content : List ℕ) → content_at ids id ≡ Some content
    → (i : ℕ) × (slice_get ids i ≡ Some (id, content))
place_at [] id content at = absurd (cc)
place_at (first ∷ ids) id content at = step (id_cmp id first.0) refl at (place_at ids id content)
  where
    step : (r : Ordering) → id_cmp id first.0 ≡ r → cond (is_eq r) (Some first.1) (content_at ids id) ≡ Some content
        → (content_at ids id ≡ Some content → (i : ℕ) × (slice_get ids i ≡ Some (id, content)))
        → (i : ℕ) × (slice_get (first ∷ ids) i ≡ Some (id, content))
    step Less e f rest = let w = rest f in (suc w.0, w.1)
    step Greater e f rest = let w = rest f in (suc w.0, w.1)
    step Equal e f rest =
        let name : first.0 ≡ id = sym (id_exact id first.0 e) in
        let bytes : first.1 ≡ content = cc in
        (0, λ i. Some (name i, bytes i))

-- the name of a content leads to it
pub content_at-id_of : (digest_of : List ℕ → List ℕ) (pool : Pool) (ids : Ids) (content : List ℕ) (id : PoolId) → AreIds digest_of pool ids
    → id_of ids content ≡ Some id → content_at ids id ≡ Some content
content_at-id_of digest_of pool ids content id are e = step (place_of ids content) refl e
  where
    step : (r : Option ℕ) → place_of ids content ≡ r → option_map (λ entry. entry.0) (option_and_then (slice_get ids) r) ≡ Some id
        → content_at ids id ≡ Some content
    step None is f = absurd (cc)
    step (Some i) is f =
        let w = position-found (λ (entry : PoolId × List ℕ). bytes_eq entry.1 content) ids i is in
        let name : w.0.0 ≡ id = let g = w.1 in cc in
        let bytes : w.0.1 ≡ content = (bytes_eq-Decides w.0.1 content).0 w.2 in
        subst (λ (x : PoolId). content_at ids x ≡ Some content) name
        (at_place ids i w.0 are.in_order w.1 ∙ ap Some bytes)

-- and is the one that does
pub id_of-content_at : (digest_of : List ℕ → List ℕ) (pool : Pool) (ids : Ids) (content : List ℕ) (id : PoolId) → AreIds digest_of pool ids
    → content_at ids id ≡ Some content → id_of ids content ≡ Some id
id_of-content_at digest_of pool ids content id are at =
    let w = place_at ids id content at in
    let found = position-some (λ (entry : PoolId × List ℕ). bytes_eq entry.1 content) ids w.0 (id, content) w.1 ((bytes_eq-Decides content content).1 refl) in
    let there = position-found (λ (entry : PoolId × List ℕ). bytes_eq entry.1 content) ids found.0 found.1 in
    let bytes : there.0.1 ≡ content = (bytes_eq-Decides there.0.1 content).0 there.2 in
    let name : there.0.0 ≡ id = are.one there.0.0 id content (at_place ids found.0 there.0 are.in_order there.1 ∙ ap Some bytes) at in
    ap (λ (r : Option ℕ). option_map (λ entry. entry.0) (option_and_then (slice_get ids) r)) found.1
    ∙ ap (option_map (λ (entry : PoolId × List ℕ). entry.0)) there.1 ∙ ap Some name
