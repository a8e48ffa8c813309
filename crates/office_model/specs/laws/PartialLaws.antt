-- An office stays sound where a dump is parked, where a partial is resumed, and where it is dropped.
use Rattle.std.specs.Prelude.{◌≡◌, ◌<◌, ℕ, ◌+◌, true, false, List, [], ◌∷◌, ◌++◌, Option, Some, None, Ok, IfSome, is_some, is_none, nat_le, slice_get, slice_set, ◌⊎◌}
use Rattle.std.proofs.Common.{refl, ap, ◌∙◌, subst, inl, inr}
use Rattle.attr_records.specs.Items.{Tree}
use Rattle.receipts.specs.declared.session.SessionName.{SessionName}
use Rattle.office_model.specs.declared.answer.Answer.TheVariants as A
use Rattle.office_model.specs.declared.refusal.BrokenRule.TheVariants.{NoSession, NoPartial}
use Rattle.office_model.specs.Places.{AtEach}
use Rattle.office_model.specs.PlacesLaws.{AtEach-set}
use Rattle.office_model.specs.Pool.{Pool, is_pooled, holds, with_tree}
use Rattle.office_model.specs.Office.{Office, Host, Backup, Partial, Dump, dump_index_of_host, number_limit, last_sequence, with_hosts, with_pool, with_dumps, numbered, IsSound, IsTree, IsSoundHost, IsPooledTree, IsPooledPartial, in_dumps, is_held}
use Rattle.office_model.specs.Meaning.{Same, found}
use Rattle.office_model.specs.Parts.{At, host_at, dump_at}
use Rattle.office_model.specs.events.OpenDump.{next_session, new_dump}
use Rattle.office_model.specs.events.Park as Park
use Rattle.office_model.specs.events.Park.{Parking, parked, partial_of, with_partial}
use Rattle.office_model.specs.events.Resume as Resume
use Rattle.office_model.specs.events.Resume.{with_resumed}
use Rattle.office_model.specs.events.DropPartial as DropPartial
use Rattle.office_model.specs.events.DropPartial.{without_partial}
use Rattle.office_model.specs.events.PartialInfo as PartialInfo
use Rattle.office_model.specs.laws.Judging.{bound, passed, at_is, found_is}
use Rattle.office_model.specs.laws.AddHostLaws.{is_none as nothing, below}
use Rattle.office_model.specs.laws.DurableLaws.{AreHosts-set, hosted-set, host_set, partial_more}
use Rattle.office_model.specs.laws.ReceiptLaws.{set_among, among_ended}
use Rattle.office_model.specs.laws.VolatileLaws.{pooled_more}
use Rattle.office_model.specs.laws.PoolLaws.{tree_keeps, tree_has, tree_order}
use Rattle.office_model.specs.laws.HeldLaws.{Reason, pooled-with_tree, one_holds, longer_held, held_by, was_pooled, was_in_dumps}
use Rattle.office_model.specs.laws.OpenDumpLaws.{IsSound-opened, was_opened}
use Rattle.office_model.specs.laws.Lawful.{IsLawful, does, does_nothing, does_hosts, does_dumps}

-- ---- a dump is parked

-- what comes of a dump that is parked
abbrev pub parking_of : List Host → Pool → Dump → Host → Parking
parking_of hosts pool dump host = record {
  hosts = slice_set hosts dump.host (with_partial host (Some (partial_of dump)));
  pool = with_tree pool dump.tree;
}

-- what it says that a dump was parked
pub record IsParked (session : SessionName) (hosts : List Host) (pool : Pool) (dumps : List Dump) (made : Parking) : Type 0 where
  pub place : ℕ
  pub dump : Dump
  pub is_dump : slice_get dumps place ≡ Some dump
  pub host : Host
  pub is_host : slice_get hosts dump.host ≡ Some host
  pub made_is : parking_of hosts pool dump host ≡ made

pub is_parked : (session : SessionName) (hosts : List Host) (pool : Pool) (dumps : List Dump) (made : Parking)
    → parked session hosts pool dumps ≡ Ok made → IsParked session hosts pool dumps made
is_parked session hosts pool dumps made e =
    let a = bound (dump_at dumps session) _ made e in
    let b = bound (found NoSession (slice_get hosts a.0.value.host)) _ made a.2 in
    let same : parking_of hosts pool a.0.value b.0 ≡ made = let f = b.2 in cc in
    record {
      place = a.0.index;
      dump = a.0.value;
      is_dump = (at_is _ dumps _ a.0 a.1).1;
      host = b.0;
      is_host = found_is _ _ _ b.1;
      made_is = same;
    }

IsSoundHost-parked : (host : Host) (dump : Dump) → IsSoundHost host → IsTree dump.tree → IsSoundHost (with_partial host (Some (partial_of dump)))
IsSoundHost-parked host dump sound tree = record { numbers = sound.numbers; backups = sound.backups; partial = tree; receipts = sound.receipts }

pub IsSound-parked : (office : Office) (session : SessionName) (made : Parking) → IsSound office
    → parked session office.hosts office.pool office.dumps ≡ Ok made → IsSound (with_pool (with_hosts office made.hosts) made.pool)
IsSound-parked office session made sound e =
    let is = is_parked session office.hosts office.pool office.dumps made e in
    let new : Host = with_partial is.host (Some (partial_of is.dump)) in
    let pool' : Pool = with_tree office.pool is.dump.tree in
    let more : (tree : Tree) → IsPooledTree office.pool tree → IsPooledTree pool' tree = λ tree pooled content h. tree_keeps office.pool is.dump.tree content (pooled content h) in
    let each : (h : Host) → AtEach (λ (b : Backup). IsPooledTree office.pool b.tree) h.backups → AtEach (λ (b : Backup). IsPooledTree pool' b.tree) h.backups
    = λ h was n b at. more b.tree (was n b at) in
    subst (λ (p : Parking). IsSound (with_pool (with_hosts office p.hosts) p.pool)) is.made_is (record {
      kept = record {
        hosts = AreHosts-set office.hosts is.dump.host is.host new is.is_host refl
            (IsSoundHost-parked is.host is.dump (sound.hosts.each is.dump.host is.host is.is_host) (sound.dumps.trees is.place is.dump is.is_dump)) sound.hosts;
        pool_order = tree_order office.pool is.dump.tree sound.pool_order;
        of_backups = AtEach-set (λ (h : Host). AtEach (λ (b : Backup). IsPooledTree pool' b.tree) h.backups) office.hosts is.dump.host new
            (λ i h at. each h (sound.of_backups i h at)) (each is.host (sound.of_backups is.dump.host is.host is.is_host));
        of_partials = AtEach-set (IsPooledPartial pool') office.hosts is.dump.host new
            (λ i h at. partial_more office.pool pool' h more (sound.of_partials i h at)) (tree_has office.pool is.dump.tree);
        ended = among_ended office.epoch (slice_set office.hosts is.dump.host new) office.hosts (set_among office.hosts is.dump.host is.host new is.is_host refl) sound.ended;
      };
      now = sound.now;
      tied = record {
        hosted = hosted-set office.hosts office.dumps is.dump.host is.host new is.is_host refl refl sound.hosted;
        over = λ i n r at. sound.over i n r (set_among office.hosts is.dump.host is.host new is.is_host refl i n r at);
        pooled = pooled_more office.pool office.volatile sound.pooled pool' (λ i d at. more d.base) (λ i r at. more r.tree)
            (λ i r at was content h. tree_keeps office.pool is.dump.tree content (was content h));
      };
    })

held-parked : (content : List ℕ) (office : Office) (session : SessionName) (made : Parking)
    → parked session office.hosts office.pool office.dumps ≡ Ok made → is_held made.pool office.dumps content ≡ true → Reason content office Same
held-parked content office session made e h =
    let is = is_parked session office.hosts office.pool office.dumps made e in
    held_by content office Same made.pool office.dumps
    (λ g. step is.place is.dump is.is_dump (pooled-with_tree content office.pool is.dump.tree (ap (λ (p : Parking). is_pooled p.pool content) is.made_is ∙ g)))
    (was_in_dumps content office Same) h
  where
    step : (i : ℕ) (dump : Dump) → slice_get office.dumps i ≡ Some dump
        → (is_pooled office.pool content ≡ true) ⊎ (holds dump.tree content ≡ true) → Reason content office Same
    step i dump at (inl f) = was_pooled content office Same f
    step i dump at (inr f) = was_in_dumps content office Same (one_holds content office.dumps i dump at f)

pub park : (session : SessionName) → IsLawful (Park.meaning session)
park session office names c sound e =
    let a = bound (parked session office.hosts office.pool office.dumps) _ c e in
    does _ office names sound _ c a.2 (record {
      in_kind = refl;
      sound = IsSound-parked office session a.0 sound.office a.1;
      ids = refl;
      contents = λ stays. absurd (cc);
      numbers = record { stages = sound.names.given.stages; readers = sound.names.given.readers };
      held = λ content h. held-parked content office session a.0 a.1 h;
    })

-- ---- a partial is resumed

-- what it says that no rule keeps a host's partial from being resumed
pub record MayResume (name : List ℕ) (session : SessionName) (hosts : List Host) (dumps new : List Dump) : Type 0 where
  pub host : At Host
  pub is_found : host_at hosts name ≡ Ok host
  pub is_host : slice_get hosts host.index ≡ Some host.value
  pub partial : Partial
  pub is_partial : host.value.partial ≡ Some partial
  pub none : dump_index_of_host dumps host.index ≡ None
  pub has_number : host.value.next < number_limit
  pub has_session : session.sequence < last_sequence
  pub new_is : dumps ++ new_dump session host.index partial.kind partial.start partial.tree ∷ [] ≡ new

pub may_resume : (name : List ℕ) (session : SessionName) (hosts : List Host) (dumps new : List Dump)
    → with_resumed name session hosts dumps ≡ Ok new → MayResume name session hosts dumps new
may_resume name session hosts dumps new e =
    let a = bound (host_at hosts name) _ new e in
    let b = bound (found NoPartial a.0.value.partial) _ new a.2 in
    let c : (is_some (dump_index_of_host dumps a.0.index) ≡ false) × (_ ≡ Ok new) = passed _ _ _ _ b.2 in
    let d : (nat_le number_limit a.0.value.next ≡ false) × (_ ≡ Ok new) = passed _ _ _ _ c.1 in
    let f : (nat_le last_sequence session.sequence ≡ false) × (Ok (dumps ++ new_dump session a.0.index b.0.kind b.0.start b.0.tree ∷ []) ≡ Ok new) = passed _ _ _ _ d.1 in
    record {
      host = a.0;
      is_found = a.1;
      is_host = (at_is _ hosts _ a.0 a.1).1;
      partial = b.0;
      is_partial = found_is _ _ _ b.1;
      none = nothing _ c.0;
      has_number = below number_limit a.0.value.next d.0;
      has_session = below last_sequence session.sequence f.0;
      new_is = let g = f.1 in cc;
    }

-- what is said of a partial that is there
abbrev OfPartial : (Tree → Type 0) → Option Partial → Type 0
OfPartial P partial = IfSome partial (λ (p : Partial). P p.tree)

of_partial : (P : Tree → Type 0) (there : Option Partial) (partial : Partial) → there ≡ Some partial → OfPartial P there → P partial.tree
of_partial P there partial is has = subst (OfPartial P) is has

pub IsSound-resumed : (office : Office) (name : List ℕ) (hosts : List Host) (dumps : List Dump) → IsSound office → hosts ≡ office.hosts
    → with_resumed name (next_session office) hosts office.dumps ≡ Ok dumps → IsSound (numbered (with_dumps office dumps))
IsSound-resumed office name hosts dumps sound slice e =
    let e : with_resumed name (next_session office) office.hosts office.dumps ≡ Ok dumps = subst (λ hs. with_resumed name (next_session office) hs office.dumps ≡ Ok dumps) slice e in
    let may : MayResume name (next_session office) office.hosts office.dumps dumps = may_resume name (next_session office) office.hosts office.dumps dumps e in
    let tree : IsTree may.partial.tree = of_partial IsTree may.host.value.partial may.partial may.is_partial (sound.hosts.each may.host.index may.host.value may.is_host).partial in
    let pooled : IsPooledTree office.pool may.partial.tree = of_partial (IsPooledTree office.pool) may.host.value.partial may.partial may.is_partial (sound.of_partials may.host.index may.host.value may.is_host) in
    subst (λ ds. IsSound (numbered (with_dumps office ds))) may.new_is
    (IsSound-opened office may.host.index may.host.value may.partial.kind may.partial.start None may.partial.tree sound may.is_host may.none may.has_number tt tree pooled)

held-resumed : (content : List ℕ) (office : Office) (name : List ℕ) (dumps : List Dump) → IsSound office
    → with_resumed name (next_session office) office.hosts office.dumps ≡ Ok dumps
    → in_dumps dumps content ≡ true → (in_dumps office.dumps content ≡ true) ⊎ (is_pooled office.pool content ≡ true)
held-resumed content office name dumps sound e h =
    let may : MayResume name (next_session office) office.hosts office.dumps dumps = may_resume name (next_session office) office.hosts office.dumps dumps e in
    let pooled : IsPooledTree office.pool may.partial.tree = of_partial (IsPooledTree office.pool) may.host.value.partial may.partial may.is_partial (sound.of_partials may.host.index may.host.value may.is_host) in
    longer_held content (is_pooled office.pool content ≡ true) office.dumps
    (new_dump (next_session office) may.host.index may.partial.kind may.partial.start may.partial.tree)
    (λ g. pooled content g) (ap (λ ds. in_dumps ds content) may.new_is ∙ h)

pub resume : (name : List ℕ) → IsLawful (Resume.meaning name)
resume name office names c sound e =
    let a = bound (with_resumed name (next_session office) office.hosts office.dumps) _ c e in
    does _ office names sound _ c a.2 (does_dumps _ office names sound a.0 (office.sequence + 1) (A.Dump (next_session office)) refl
    (λ content g. was_opened content office (held-resumed content office name a.0 sound.office a.1 g))
    (IsSound-resumed office name office.hosts a.0 sound.office refl a.1))

-- ---- a partial is dropped, or looked at

pub IsSound-without_partial : (office : Office) (name : List ℕ) (hosts : List Host) → IsSound office
    → without_partial name office.hosts ≡ Ok hosts → IsSound (with_hosts office hosts)
IsSound-without_partial office name hosts sound e =
    let a = bound (host_at office.hosts name) _ hosts e in
    let was : slice_get office.hosts a.0.index ≡ Some a.0.value = (at_is _ office.hosts _ a.0 a.1).1 in
    let host : IsSoundHost a.0.value = sound.hosts.each a.0.index a.0.value was in
    let b : (is_none a.0.value.partial ≡ false) × (Ok (slice_set office.hosts a.0.index (with_partial a.0.value None)) ≡ Ok hosts) = passed _ _ _ _ a.2 in
    let same : slice_set office.hosts a.0.index (with_partial a.0.value None) ≡ hosts = let f = b.1 in cc in
    subst (λ hs. IsSound (with_hosts office hs)) same
    (host_set office a.0.index a.0.value (with_partial a.0.value None) sound was refl refl refl
    (record { numbers = host.numbers; backups = host.backups; partial = tt; receipts = host.receipts }) (sound.of_backups a.0.index a.0.value was) tt)

pub drop_partial : (name : List ℕ) → IsLawful (DropPartial.meaning name)
drop_partial name office names c sound e =
    let a = bound (without_partial name office.hosts) _ c e in
    does _ office names sound _ c a.2 (does_hosts _ office names sound a.0 A.Done refl (IsSound-without_partial office name a.0 sound.office a.1))

pub partial_info : (name : List ℕ) → IsLawful (PartialInfo.meaning name)
partial_info name office names c sound e =
    let a = bound (PartialInfo.partial_at name office.hosts) _ c e in does _ office names sound _ c a.2 (does_nothing _ office names sound _ refl)
