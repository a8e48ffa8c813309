-- Open stages stay sound where a dump is opened, changed at its place, or dropped with its stages; and where a stage is opened, changed
-- at its place, or dropped.
use Rattle.std.specs.Prelude.{◌≡◌, ◌≢◌, ◌<◌, ◌≤◌, ℕ, zero, suc, Bool, true, false, cond, not, List, [], ◌∷◌, ◌++◌, length, Some, slice_get, slice_set, ◌⊎◌}
use Rattle.std.specs.List.{filter, remove}
use Rattle.std.proofs.Common.{refl, sym, ap, ◌∙◌, inl, inr, arith}
use Rattle.std.proofs.lemmas.Bool.{true≢false}
use Rattle.receipts.specs.declared.session.SessionName.{SessionName}
use Rattle.receipts.specs.Session.{is_same_session}
use Rattle.office_model.specs.Places.{AtEach, Differ}
use Rattle.office_model.specs.PlacesLaws.{AtEach-longer, AtEach-set, AtEach-remove, Differ-longer, Differ-set, Differ-remove, slice_get-longer, still_there}
use Rattle.office_model.specs.Office.{Office, IsSound, with_stages, Dump, Stage, HasDump, AreStages, stages_left, content_limit}
use Rattle.office_model.specs.laws.Lookups.{session_itself}
use Rattle.office_model.specs.laws.DurableLaws.{set_finds}

module _ {A : Type 0} where
  -- what a filter leaves was there, and passes
  pub in_filter : (p : A → Bool) (xs : List A) (i : ℕ) (x : A) → slice_get (filter p xs) i ≡ Some x
      → (j : ℕ) × (slice_get xs j ≡ Some x) × (p x ≡ true)
  in_filter p [] i x e = absurd (cc)
  in_filter p (y ∷ xs) i x e = step (p y) refl (λ k. in_filter p xs k x) i e
    where
      step : (b : Bool) → p y ≡ b → ((k : ℕ) → slice_get (filter p xs) k ≡ Some x → (j : ℕ) × (slice_get xs j ≡ Some x) × (p x ≡ true))
          → (i : ℕ) → slice_get (cond b (y ∷ filter p xs) (filter p xs)) i ≡ Some x
          → (j : ℕ) × (slice_get (y ∷ xs) j ≡ Some x) × (p x ≡ true)
      step true passes rest zero f = let same : y ≡ x = cc in (0, f, ap p (sym same) ∙ passes)
      step true passes rest (suc i) f = let w = rest i f in (suc w.0, w.1, w.2)
      step false fails rest i f = let w = rest i f in (suc w.0, w.1, w.2)

  pub AtEach-filter : (P : A → Type 0) (p : A → Bool) (xs : List A) → AtEach P xs → AtEach P (filter p xs)
  AtEach-filter P p xs each i x at = let w = in_filter p xs i x at in each w.0 x w.1

  pub Differ-filter : {K : Type 0} (key : A → K) (p : A → Bool) (xs : List A) → Differ key xs → Differ key (filter p xs)
  Differ-filter key p [] differ = λ i j a b at_i. absurd (cc)
  Differ-filter key p (x ∷ xs) differ = step (p x) (Differ-filter key p xs tail)
    where
      before : (m n : ℕ) → suc m ≡ suc n → m ≡ n
      before m n e = omega arith

      tail : Differ key xs
      tail i j a b at_i at_j same = before i j (differ (suc i) (suc j) a b at_i at_j same)

      first : Differ key (filter p xs) → Differ key (x ∷ filter p xs)
      first rest zero zero a b at_i at_j same = refl
      first rest zero (suc j) a b at_i at_j same =
          let w = in_filter p xs j b at_j in let e = differ 0 (suc w.0) a b at_i w.1 same in absurd (omega arith)
      first rest (suc i) zero a b at_i at_j same =
          let w = in_filter p xs i a at_i in let e = differ (suc w.0) 0 a b w.1 at_j same in absurd (omega arith)
      first rest (suc i) (suc j) a b at_i at_j same = ap suc (rest i j a b at_i at_j same)

      step : (b : Bool) → Differ key (filter p xs) → Differ key (cond b (x ∷ filter p xs) (filter p xs))
      step true rest = first rest
      step false rest = rest

module _ (dumps : List Dump) (stages : List Stage) (are : AreStages dumps stages) where
  pub stages_longer : (dump : Dump) → AreStages (dumps ++ dump ∷ []) stages
  stages_longer dump = record {
    of_dumps = λ i stage at. let has : HasDump dumps stage = are.of_dumps i stage at in
        record { index = has.index; dump = has.dump; is_dump = slice_get-longer dumps dump has.index has.dump has.is_dump; name = has.name };
    numbers_differ = are.numbers_differ;
    fit = are.fit;
  }

  pub stages_set : (p : ℕ) (old new : Dump) → slice_get dumps p ≡ Some old → new.name ≡ old.name → AreStages (slice_set dumps p new) stages
  stages_set p old new was name = record {
    of_dumps = λ i stage at. let has : HasDump dumps stage = are.of_dumps i stage at in
        step stage has (set_finds dumps p has.index new has.dump has.is_dump);
    numbers_differ = are.numbers_differ;
    fit = are.fit;
  }
    where
      step : (stage : Stage) (has : HasDump dumps stage)
          → (slice_get (slice_set dumps p new) has.index ≡ Some has.dump) ⊎ ((has.index ≡ p) × (slice_get (slice_set dumps p new) has.index ≡ Some new))
          → HasDump (slice_set dumps p new) stage
      step stage has (inl f) = record { index = has.index; dump = has.dump; is_dump = f; name = has.name }
      step stage has (inr f) =
          let same : has.dump ≡ old = let a = has.is_dump in let b = ap (slice_get dumps) f.0 in cc in
          record { index = has.index; dump = new; is_dump = f.1; name = name ∙ sym (ap (λ (d : Dump). d.name) same) ∙ has.name }

  -- a dump goes with its stages
  pub stages_removed : (p : ℕ) (dump : Dump) (session : SessionName) → slice_get dumps p ≡ Some dump → dump.name ≡ session
      → AreStages (remove dumps p) (stages_left session stages)
  stages_removed p dump session was name = record {
    of_dumps = λ i stage at.
        let w = in_filter (λ (s : Stage). not (is_same_session s.dump session)) stages i stage at in
        let has : HasDump dumps stage = are.of_dumps w.0 stage w.1 in
        let there = still_there dumps p has.index has.dump (other stage has w.2) has.is_dump in
        record { index = there.0; dump = has.dump; is_dump = there.1; name = has.name };
    numbers_differ = Differ-filter (λ (s : Stage). s.number) (λ (s : Stage). not (is_same_session s.dump session)) stages are.numbers_differ;
    fit = AtEach-filter (λ (s : Stage). length s.bytes ≤ content_limit) (λ (s : Stage). not (is_same_session s.dump session)) stages are.fit;
  }
    where
      other : (stage : Stage) (has : HasDump dumps stage) → not (is_same_session stage.dump session) ≡ true → has.index ≢ p
      other stage has differs same =
          let is : has.dump ≡ dump = let a = has.is_dump in let b = ap (slice_get dumps) same in cc in
          let one : stage.dump ≡ session = sym has.name ∙ ap (λ (d : Dump). d.name) is ∙ name in
          true≢false (sym differs ∙ ap (λ n. not (is_same_session n session)) one ∙ ap not (session_itself session))

  pub stage_added : (next : ℕ) (stage : Stage) → AtEach (λ (s : Stage). s.number < next) stages → stage.number ≡ next → HasDump dumps stage
      → length stage.bytes ≤ content_limit → AreStages dumps (stages ++ stage ∷ [])
  stage_added next stage below number has fits = record {
    of_dumps = AtEach-longer (HasDump dumps) stages stage are.of_dumps has;
    numbers_differ = Differ-longer (λ (s : Stage). s.number) stages stage are.numbers_differ
        (λ i s at same. let less = below i s at in omega (arith, same, number));
    fit = AtEach-longer (λ (s : Stage). length s.bytes ≤ content_limit) stages stage are.fit fits;
  }

  -- a stage at its place with other bytes
  pub stage_set : (p : ℕ) (old new : Stage) → slice_get stages p ≡ Some old → new.number ≡ old.number → new.dump ≡ old.dump
      → length new.bytes ≤ content_limit → AreStages dumps (slice_set stages p new)
  stage_set p old new was number dump fits = record {
    of_dumps = AtEach-set (HasDump dumps) stages p new are.of_dumps
        (let has : HasDump dumps old = are.of_dumps p old was in
        record { index = has.index; dump = has.dump; is_dump = has.is_dump; name = has.name ∙ sym dump });
    numbers_differ = Differ-set (λ (s : Stage). s.number) stages p old new was number are.numbers_differ;
    fit = AtEach-set (λ (s : Stage). length s.bytes ≤ content_limit) stages p new are.fit fits;
  }

  pub stage_removed : (p : ℕ) → AreStages dumps (remove stages p)
  stage_removed p = record {
    of_dumps = AtEach-remove (HasDump dumps) stages p are.of_dumps;
    numbers_differ = Differ-remove (λ (s : Stage). s.number) stages p are.numbers_differ;
    fit = AtEach-remove (λ (s : Stage). length s.bytes ≤ content_limit) stages p are.fit;
  }

-- an office with other stages
pub IsSound-stages : (office : Office) (stages : List Stage) → IsSound office → AreStages office.dumps stages → IsSound (with_stages office stages)
IsSound-stages office stages sound are = record {
  kept = sound.kept;
  now = record { sessions = sound.sessions; dumps = sound.dumps; restores = sound.restores; stages = are; readers = sound.readers };
  tied = record {
    hosted = sound.hosted;
    over = sound.over;
    pooled = record { of_bases = sound.of_bases; of_restores = sound.of_restores; of_readers = sound.of_readers };
  };
}

pub IsSound-stage_removed : (office : Office) (p : ℕ) → IsSound office → IsSound (with_stages office (remove office.stages p))
IsSound-stage_removed office p sound = IsSound-stages office _ sound (stage_removed office.dumps office.stages sound.stages p)
