-- A host that changes at its place keeps an office sound.
use Rattle.std.specs.Prelude.{◌≡◌, ◌≢◌, ◌<◌, ◌≤◌, ℕ, zero, suc, List, [], ◌∷◌, length, Option, None, Some, IfSome, slice_get, slice_set, ◌⊎◌}
use Rattle.std.proofs.Common.{refl, sym, ap, ◌∙◌, subst, inl, inr}
use Rattle.std.proofs.Math.ListN.{length-set}
use Rattle.office_model.specs.Places.{AtEach}
use Rattle.office_model.specs.PlacesLaws.{AtEach-set, Differ-set, in_set}
use Rattle.office_model.specs.Pool.{Pool}
use Rattle.attr_records.specs.Items.{Tree}
use Rattle.receipts.specs.declared.receipt.Receipt.{Receipt}
use Rattle.office_model.specs.Office.{Office, Host, Backup, Partial, Dump, host_limit, with_hosts, IsSound, IsTree, AreHosts, IsSoundHost, AreReceipts, HasHost, IsUnspent, IsPooledTree, IsPooledPartial}
use Rattle.office_model.specs.laws.ReceiptLaws.{set_among, among_ended}

pub AreHosts-set : (hosts : List Host) (p : ℕ) (old new : Host) → slice_get hosts p ≡ Some old → new.name ≡ old.name → IsSoundHost new
    → AreHosts hosts → AreHosts (slice_set hosts p new)
AreHosts-set hosts p old new was name sound are = record {
  few = subst (λ n. n ≤ host_limit) (sym (length-set hosts p new)) are.few;
  differ = Differ-set (λ (h : Host). h.name) hosts p old new was name are.differ;
  each = AtEach-set IsSoundHost hosts p new are.each sound;
}

-- a partial is in a pool that has more
pub partial_more : (pool pool' : Pool) (host : Host) → ((tree : Tree) → IsPooledTree pool tree → IsPooledTree pool' tree)
    → IsPooledPartial pool host → IsPooledPartial pool' host
partial_more pool pool' host more has = step host.partial has
  where
    step : (partial : Option Partial) → IfSome partial (λ (p : Partial). IsPooledTree pool p.tree) → IfSome partial (λ (p : Partial). IsPooledTree pool' p.tree)
    step None has = has
    step (Some partial) has = more partial.tree has

-- what was at a place is there after a write, or was written over
pub set_finds : {A : Type 0} (xs : List A) (p i : ℕ) (new x : A) → slice_get xs i ≡ Some x
    → (slice_get (slice_set xs p new) i ≡ Some x) ⊎ ((i ≡ p) × (slice_get (slice_set xs p new) i ≡ Some new))
set_finds [] p i new x e = absurd (cc)
set_finds (y ∷ ys) zero zero new x e = inr (refl, refl)
set_finds (y ∷ ys) zero (suc i) new x e = inl e
set_finds (y ∷ ys) (suc p) zero new x e = inl e
set_finds (y ∷ ys) (suc p) (suc i) new x e = step (set_finds ys p i new x e)
  where
    step : (slice_get (slice_set ys p new) i ≡ Some x) ⊎ ((i ≡ p) × (slice_get (slice_set ys p new) i ≡ Some new))
        → (slice_get (slice_set ys p new) i ≡ Some x) ⊎ ((suc i ≡ suc p) × (slice_get (slice_set ys p new) i ≡ Some new))
    step (inl f) = inl f
    step (inr f) = inr (ap suc f.0, f.1)

-- open dumps have their hosts where a host changes and keeps its next number and its receipts
pub hosted-set : (hosts : List Host) (dumps : List Dump) (p : ℕ) (old new : Host) → slice_get hosts p ≡ Some old → new.next ≡ old.next
    → new.receipts ≡ old.receipts → AtEach (HasHost hosts) dumps → AtEach (HasHost (slice_set hosts p new)) dumps
hosted-set hosts dumps p old new was next receipts are i dump at = has dump (are i dump at)
  where
    step : (dump : Dump) (h : HasHost hosts dump)
        → (slice_get (slice_set hosts p new) dump.host ≡ Some h.host) ⊎ ((dump.host ≡ p) × (slice_get (slice_set hosts p new) dump.host ≡ Some new)) → HasHost (slice_set hosts p new) dump
    step dump h (inl f) = record { host = h.host; is_host = f; has_number = h.has_number; unspent = h.unspent }
    step dump h (inr f) =
        let same : h.host ≡ old = let a = h.is_host in let b = ap (slice_get hosts) f.0 in cc in
        record {
          host = new;
          is_host = f.1;
          has_number = subst (λ n. n < _) (ap (λ (x : Host). x.next) same ∙ sym next) h.has_number;
          unspent = subst (λ (rs : List Receipt). IsUnspent rs dump.token) (ap (λ (x : Host). x.receipts) same ∙ sym receipts) h.unspent;
        }

    has : (dump : Dump) → HasHost hosts dump → HasHost (slice_set hosts p new) dump
    has dump h = step dump h (set_finds hosts p dump.host new h.host h.is_host)

pub host_set : (office : Office) (p : ℕ) (old new : Host) → IsSound office → slice_get office.hosts p ≡ Some old
    → new.name ≡ old.name → new.next ≡ old.next → new.receipts ≡ old.receipts → IsSoundHost new
    → AtEach (λ (backup : Backup). IsPooledTree office.pool backup.tree) new.backups → IsPooledPartial office.pool new
    → IsSound (with_hosts office (slice_set office.hosts p new))
host_set office p old new sound was name next receipts host pooled partial = record {
  kept = record {
    hosts = AreHosts-set office.hosts p old new was name host sound.hosts;
    pool_order = sound.pool_order;
    of_backups = AtEach-set (λ (h : Host). AtEach (λ (backup : Backup). IsPooledTree office.pool backup.tree) h.backups) office.hosts p new sound.of_backups pooled;
    of_partials = AtEach-set (IsPooledPartial office.pool) office.hosts p new sound.of_partials partial;
    ended = among_ended office.epoch (slice_set office.hosts p new) office.hosts (set_among office.hosts p old new was receipts) sound.ended;
  };
  now = sound.now;
  tied = record {
    hosted = hosted-set office.hosts office.dumps p old new was next receipts sound.hosted;
    over = λ i n r at. sound.over i n r (set_among office.hosts p old new was receipts i n r at);
    pooled = sound.pooled;
  };
}

-- one that keeps its backups, its partial and its receipts
pub host_same : (office : Office) (p : ℕ) (old new : Host) → IsSound office → slice_get office.hosts p ≡ Some old
    → new.name ≡ old.name → new.next ≡ old.next → new.receipts ≡ old.receipts → new.backups ≡ old.backups → new.partial ≡ old.partial
    → IsSound (with_hosts office (slice_set office.hosts p new))
host_same office p old new sound was name next receipts same partial =
    let host : IsSoundHost old = sound.hosts.each p old was in
    host_set office p old new sound was name next receipts
    (record {
      numbers = rw next host.numbers;
      backups = rw (next, same) host.backups;
      partial = subst (λ p. IfSome p (λ (x : Partial). IsTree x.tree)) (sym partial) host.partial;
      receipts = subst AreReceipts (sym receipts) host.receipts;
    })
    (subst (λ bs. AtEach (λ (backup : Backup). IsPooledTree office.pool backup.tree) bs) (sym same) (sound.of_backups p old was))
    (subst (λ p. IfSome p (λ (x : Partial). IsPooledTree office.pool x.tree)) (sym partial) (sound.of_partials p old was))

-- what is at a place after a write that leaves a key
pub kept_key : {A K : Type 0} (key : A → K) (xs : List A) (p i : ℕ) (old new y : A) → slice_get xs p ≡ Some old → key new ≡ key old
    → slice_get (slice_set xs p new) i ≡ Some y → (x : A) × (slice_get xs i ≡ Some x) × (key y ≡ key x)
kept_key {A} {K} key xs p i old new y was same e = step (in_set xs p new i y e)
  where
    step : ((i ≢ p) × (slice_get xs i ≡ Some y)) ⊎ ((i ≡ p) × (y ≡ new) × (p < length xs))
        → (x : A) × (slice_get xs i ≡ Some x) × (key y ≡ key x)
    step (inl f) = (y, f.1, refl)
    step (inr f) = (old, ap (slice_get xs) f.0 ∙ was, ap key f.1 ∙ same)
