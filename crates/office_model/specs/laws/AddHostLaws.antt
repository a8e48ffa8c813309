-- A further host keeps an office sound.
use Rattle.std.specs.Prelude.{◌≡◌, ◌<◌, ℕ, ◌+◌, false, List, [], ◌∷◌, ◌++◌, length, Option, Some, None, Ok, is_some, nat_le}
use Rattle.std.proofs.Common.{refl, subst, arith, length-append}
use Rattle.std.proofs.lemmas.Bool.Decides.{nat_tests}
use Rattle.backup_rules.specs.Values.{RuleSet}
use Rattle.office_model.specs.declared.answer.Answer.TheVariants.{Done}
use Rattle.office_model.specs.Places.{AtEach}
use Rattle.office_model.specs.PlacesLaws.{AtEach-longer, Differ-longer, slice_get-longer}
use Rattle.office_model.specs.Office.{Office, Host, Backup, host_index, host_limit, with_hosts, IsSound, AreHosts, IsSoundHost, HasHost, IsPooledTree, IsPooledPartial}
use Rattle.office_model.specs.events.AddHost.{new_host, with_host, meaning}
use Rattle.office_model.specs.laws.Judging.{bound, passed}
use Rattle.office_model.specs.laws.ReceiptLaws.{added_among, among_ended}
use Rattle.office_model.specs.laws.Lookups.{host_index-none}
use Rattle.office_model.specs.laws.Lawful.{IsLawful, does, does_hosts}

pub is_none : {A : Type 0} (o : Option A) → is_some o ≡ false → o ≡ None
is_none None e = refl
is_none (Some x) e = absurd (cc)

pub below : (a b : ℕ) → nat_le a b ≡ false → b < a
below a b e = grind (arith, nat_tests)

IsSoundHost-new : (name : List ℕ) (rules : RuleSet) → IsSoundHost (new_host name rules)
IsSoundHost-new name rules = record {
  numbers = omega arith;
  backups = record {
    numbered = record { rise = λ i j a b less e f. absurd (cc); below = λ i backup e. absurd (cc); trees = λ i backup e. absurd (cc) };
    last_filled = λ last e. absurd (cc);
  };
  partial = tt;
  receipts = record { few = omega arith; tokens_differ = λ i j a b e. absurd (cc) };
}

AreHosts-added : (hosts : List Host) (name : List ℕ) (rules : RuleSet) → AreHosts hosts → host_index hosts name ≡ None
    → length hosts < host_limit → AreHosts (hosts ++ new_host name rules ∷ [])
AreHosts-added hosts name rules are none room = record {
  few = let more : length (hosts ++ new_host name rules ∷ []) ≡ length hosts + 1 = length-append hosts (new_host name rules ∷ []) in omega arith;
  differ = Differ-longer (λ (h : Host). h.name) hosts (new_host name rules) are.differ (λ i host at. host_index-none hosts name i host none at);
  each = AtEach-longer IsSoundHost hosts (new_host name rules) are.each (IsSoundHost-new name rules);
}

pub IsSound-with_host : (office : Office) (name : List ℕ) (rules : RuleSet) (hosts : List Host) → IsSound office
    → with_host name rules office.hosts ≡ Ok hosts → IsSound (with_hosts office hosts)
IsSound-with_host office name rules hosts sound e =
    let a : (is_some (host_index office.hosts name) ≡ false) × (_ ≡ Ok hosts) = passed _ _ _ _ e in
    let b : (nat_le host_limit (length office.hosts) ≡ false) × (Ok (office.hosts ++ new_host name rules ∷ []) ≡ Ok hosts) = passed _ _ _ _ a.1 in
    let same : office.hosts ++ new_host name rules ∷ [] ≡ hosts = cc in
    subst (λ hs. IsSound (with_hosts office hs)) same (record {
      kept = record {
        hosts = AreHosts-added office.hosts name rules sound.hosts (is_none _ a.0) (below host_limit (length office.hosts) b.0);
        pool_order = sound.pool_order;
        of_backups = AtEach-longer (λ (host : Host). AtEach (λ (backup : Backup). IsPooledTree office.pool backup.tree) host.backups) office.hosts (new_host name rules) sound.of_backups (λ i backup e. absurd (cc));
        of_partials = AtEach-longer (IsPooledPartial office.pool) office.hosts (new_host name rules) sound.of_partials tt;
        ended = among_ended office.epoch (office.hosts ++ new_host name rules ∷ []) office.hosts (added_among office.hosts (new_host name rules) refl) sound.ended;
      };
      now = sound.now;
      tied = record {
        hosted = λ i dump at. let was : HasHost office.hosts dump = sound.hosted i dump at in
            record { host = was.host; is_host = slice_get-longer office.hosts (new_host name rules) dump.host was.host was.is_host; has_number = was.has_number; unspent = was.unspent };
        over = λ i n r at. sound.over i n r (added_among office.hosts (new_host name rules) refl i n r at);
        pooled = sound.pooled;
      };
    })

pub lawful : (name : List ℕ) (rules : RuleSet) → IsLawful (meaning name rules)
lawful name rules office names c sound e =
    let a = bound (with_host name rules office.hosts) _ c e in
    does _ office names sound _ c a.2 (does_hosts _ office names sound a.0 Done refl (IsSound-with_host office name rules a.0 sound.office a.1))
