-- The pool after cleaning: in order, with all that is protected.
use Rattle.std.specs.Prelude.{◌≡◌, ℕ, Bool, true, false, cond, ◌||◌, List, [], ◌∷◌, Option, Some, None, IfSome, is_some, nat_le, slice_get}
use Rattle.std.specs.declared.cmp.Ordering.TheVariants.{Less}
use Rattle.std.specs.Ordering.{eq_by_cmp}
use Rattle.std.specs.List.{cons_option, list_any}
use Rattle.std.proofs.Common.{refl, sym, ap, ◌∙◌, subst}
use Rattle.std.proofs.lemmas.Slice.Eq.{bytes_eq-Decides}
use Rattle.attr_records.specs.Items.{some_bytes}
use Rattle.ordered_lists.specs.Order.{IsInOrder, IsBelowAll}
use Rattle.office_model.specs.Pool.{Pool, byte_cmp, mark_of, is_pooled, is_same_content, holds, fate, kept_as, cleaned}
use Rattle.pool_fate.specs.Fates.{fate_of, mark_after}
use Rattle.office_model.specs.Office.{Office, Host, Backup, Partial, Dump, Restore, Reader, with_pool, IsSound, IsPooledTree, host_holds, partial_holds, in_hosts, in_dumps, in_bases, in_restores}
use Rattle.office_model.specs.Meaning.{Same}
use Rattle.office_model.specs.events.Clean.{is_protected, in_bucket, meaning}
use Rattle.office_model.specs.laws.Judging.{passed}
use Rattle.office_model.specs.laws.PoolLaws.{byte_exact, any_at}
use Rattle.office_model.specs.laws.HeldLaws.{pooled-cleaned, held_by, was_pooled, was_in_dumps}
use Rattle.office_model.specs.laws.VolatileLaws.{pooled_more}
use Rattle.office_model.specs.laws.Lawful.{IsLawful, does}

-- ---- order

kept_below : (k : List ℕ) (content : List ℕ) (mark : Option Bool) (rest : Pool) → byte_cmp k content ≡ Less → IsBelowAll byte_cmp k rest
    → IsBelowAll byte_cmp k (cons_option (kept_as content mark) rest)
kept_below k content None rest h more = more
kept_below k content (Some mark) rest h more = (h, more)

kept_order : (content : List ℕ) (mark : Option Bool) (rest : Pool) → IsBelowAll byte_cmp content rest → IsInOrder byte_cmp rest
    → IsInOrder byte_cmp (cons_option (kept_as content mark) rest)
kept_order content None rest h more = more
kept_order content (Some mark) rest h more = (h, more)

module _ (inside protected : List ℕ → Bool) where
  below_cleaned : (k : List ℕ) (pool : Pool) → IsBelowAll byte_cmp k pool → IsBelowAll byte_cmp k (cleaned inside protected pool)
  below_cleaned k [] h = tt
  below_cleaned k (entry ∷ pool) h = kept_below k entry.0 (mark_after (fate inside protected entry) entry.1) (cleaned inside protected pool) h.0 (below_cleaned k pool h.1)

  pub cleaned_order : (pool : Pool) → IsInOrder byte_cmp pool → IsInOrder byte_cmp (cleaned inside protected pool)
  cleaned_order [] h = tt
  cleaned_order (entry ∷ pool) h = kept_order entry.0 (mark_after (fate inside protected entry) entry.1) (cleaned inside protected pool) (below_cleaned entry.0 pool h.0) (cleaned_order pool h.1)

  -- ---- what is protected stays

  keeps_mark : (inside marked : Bool) → (mark : Bool) × (mark_after (fate_of inside true marked) marked ≡ Some mark)
  keeps_mark false marked = (marked, refl)
  keeps_mark true true = (false, refl)
  keeps_mark true false = (false, refl)

  pub cleaned_has : (byte_exact : (a b : List ℕ) → eq_by_cmp byte_cmp a b ≡ true → a ≡ b) (pool : Pool) (c : List ℕ) → protected c ≡ true
      → is_pooled pool c ≡ true → is_pooled (cleaned inside protected pool) c ≡ true
  cleaned_has exact [] c safe h = absurd (cc)
  cleaned_has exact (entry ∷ pool) c safe h = step (eq_by_cmp byte_cmp c entry.0) refl h (λ g. cleaned_has exact pool c safe g)
    where
      past : (mark : Option Bool) → is_pooled (cleaned inside protected pool) c ≡ true → eq_by_cmp byte_cmp c entry.0 ≡ false
          → is_pooled (cons_option (kept_as entry.0 mark) (cleaned inside protected pool)) c ≡ true
      past None g other = g
      past (Some mark) g other = ap (λ b. is_some (cond b (Some mark) (mark_of (cleaned inside protected pool) c))) other ∙ g

      here : (mark : Option Bool) → (m : Bool) × (mark ≡ Some m) → eq_by_cmp byte_cmp c entry.0 ≡ true
          → is_pooled (cons_option (kept_as entry.0 mark) (cleaned inside protected pool)) c ≡ true
      here None w same = absurd (let e = w.1 in cc)
      here (Some mark) w same = ap (λ b. is_some (cond b (Some mark) (mark_of (cleaned inside protected pool) c))) same

      step : (b : Bool) → eq_by_cmp byte_cmp c entry.0 ≡ b → is_some (cond b (Some entry.1) (mark_of pool c)) ≡ true
          → (is_pooled pool c ≡ true → is_pooled (cleaned inside protected pool) c ≡ true)
          → is_pooled (cons_option (kept_as entry.0 (mark_after (fate inside protected entry) entry.1)) (cleaned inside protected pool)) c ≡ true
      step true same g rest =
          let safe_entry : protected entry.0 ≡ true = ap protected (sym (exact c entry.0 same)) ∙ safe in
          here (mark_after (fate inside protected entry) entry.1)
          (subst (λ b. (m : Bool) × (mark_after (fate_of (inside entry.0) b entry.1) entry.1 ≡ Some m)) (sym safe_entry) (keeps_mark (inside entry.0) entry.1)) same
      step false other g rest = past (mark_after (fate inside protected entry) entry.1) (rest g) other

-- ---- what a tree of the office holds is protected, and what a reader gives

left : (a b : Bool) → a ≡ true → (a || b) ≡ true
left true b h = refl
left false b h = absurd (cc)

right : (a b : Bool) → b ≡ true → (a || b) ≡ true
right true b h = refl
right false b h = h

its_content : (content : List ℕ) (held : Option (List ℕ)) → held ≡ Some content → is_same_content content held ≡ true
its_content content held h = ap (is_same_content content) h ∙ (bytes_eq-Decides content content).1 refl

module _ (office : Office) (content : List ℕ) where
  pub backup_safe : (i n : ℕ) (host : Host) (backup : Backup) → slice_get office.hosts i ≡ Some host
      → slice_get host.backups n ≡ Some backup → holds backup.tree content ≡ true
      → is_protected office.hosts office.dumps office.restores office.readers content ≡ true
  backup_safe i n host backup at at_backup h =
      left (in_hosts office.hosts content) _ (any_at (λ (host : Host). host_holds host content) office.hosts i host at
      (left (list_any (λ (b : Backup). holds b.tree content) host.backups) _ (any_at (λ (b : Backup). holds b.tree content) host.backups n backup at_backup h)))

  pub partial_safe : (i : ℕ) (host : Host) (partial : Partial) → slice_get office.hosts i ≡ Some host → host.partial ≡ Some partial
      → holds partial.tree content ≡ true
      → is_protected office.hosts office.dumps office.restores office.readers content ≡ true
  partial_safe i host partial at is h =
      left (in_hosts office.hosts content) _ (any_at (λ (host : Host). host_holds host content) office.hosts i host at
      (right (list_any (λ (b : Backup). holds b.tree content) host.backups) _ (ap (λ p. partial_holds p content) is ∙ h)))

  pub base_safe : (i : ℕ) (dump : Dump) → slice_get office.dumps i ≡ Some dump → holds dump.base content ≡ true
      → is_protected office.hosts office.dumps office.restores office.readers content ≡ true
  base_safe i dump at h =
      right (in_hosts office.hosts content) _ (right (in_dumps office.dumps content) _
      (left (in_bases office.dumps content) _ (any_at (λ (d : Dump). holds d.base content) office.dumps i dump at h)))

  pub restore_safe : (i : ℕ) (restore : Restore) → slice_get office.restores i ≡ Some restore → holds restore.tree content ≡ true
      → is_protected office.hosts office.dumps office.restores office.readers content ≡ true
  restore_safe i restore at h =
      right (in_hosts office.hosts content) _ (right (in_dumps office.dumps content) _
      (right (in_bases office.dumps content) _
      (left (in_restores office.restores content) _ (any_at (λ (r : Restore). holds r.tree content) office.restores i restore at h))))

  pub reader_safe : (i : ℕ) (reader : Reader) → slice_get office.readers i ≡ Some reader → some_bytes reader.content ≡ Some content
      → is_protected office.hosts office.dumps office.restores office.readers content ≡ true
  reader_safe i reader at h =
      right (in_hosts office.hosts content) _ (right (in_dumps office.dumps content) _
      (right (in_bases office.dumps content) _ (right (in_restores office.restores content) _
      (any_at (λ (r : Reader). is_same_content content (some_bytes r.content)) office.readers i reader at (its_content content (some_bytes reader.content) h)))))

pub IsSound-cleaned : (office : Office) (inside : List ℕ → Bool) → IsSound office
    → IsSound (with_pool office (cleaned inside (is_protected office.hosts office.dumps office.restores office.readers) office.pool))
IsSound-cleaned office inside sound = record {
  kept = record {
    hosts = sound.hosts;
    pool_order = cleaned_order inside (is_protected office.hosts office.dumps office.restores office.readers) office.pool sound.pool_order;
    of_backups = λ i host at n backup at_backup content h. has content (backup_safe office content i n host backup at at_backup h) (sound.of_backups i host at n backup at_backup content h);
    of_partials = λ i host at. partial_stays i host at host.partial refl (sound.of_partials i host at);
    ended = sound.ended;
  };
  now = sound.now;
  tied = record {
    hosted = sound.hosted;
    over = sound.over;
    pooled = pooled_more office.pool office.volatile sound.pooled (cleaned inside (is_protected office.hosts office.dumps office.restores office.readers) office.pool)
        (λ i dump at was content h. has content (base_safe office content i dump at h) (was content h))
        (λ i restore at was content h. has content (restore_safe office content i restore at h) (was content h))
        (λ i reader at was content h. has content (reader_safe office content i reader at h) (was content h));
  };
}
  where
    has : (content : List ℕ) → is_protected office.hosts office.dumps office.restores office.readers content ≡ true → is_pooled office.pool content ≡ true
        → is_pooled (cleaned inside (is_protected office.hosts office.dumps office.restores office.readers) office.pool) content ≡ true
    has content = cleaned_has inside (is_protected office.hosts office.dumps office.restores office.readers) byte_exact office.pool content

    partial_stays : (i : ℕ) (host : Host) → slice_get office.hosts i ≡ Some host → (partial : Option Partial) → host.partial ≡ partial
        → IfSome partial (λ (p : Partial). IsPooledTree office.pool p.tree)
        → IfSome partial (λ (p : Partial). IsPooledTree (cleaned inside (is_protected office.hosts office.dumps office.restores office.readers) office.pool) p.tree)
    partial_stays i host at None is was = was
    partial_stays i host at (Some partial) is was = λ content h. has content (partial_safe office content i host partial at is h) (was content h)

pub lawful : (bucket : ℕ) → IsLawful (meaning bucket)
lawful bucket office names c sound e =
    let a = passed _ (nat_le 16 bucket) _ c e in
    does _ office names sound _ c a.1 (record {
      in_kind = refl;
      sound = IsSound-cleaned office (in_bucket names.digest_of bucket) sound.office;
      ids = refl;
      contents = λ stays. absurd (cc);
      numbers = sound.names.given;
      held = λ content h. held_by content office Same _ office.dumps
          (λ g. was_pooled content office Same (pooled-cleaned content (in_bucket names.digest_of bucket) (is_protected office.hosts office.dumps office.restores office.readers) office.pool g))
          (was_in_dumps content office Same) h;
    })
