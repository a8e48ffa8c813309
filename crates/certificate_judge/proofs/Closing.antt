-- From the tally of a certificate's faults to the verdict.
use Rattle.std.specs.Prelude.{◌≡◌, ℕ, ◌+◌, ◌*◌, ◌-◌, ◌<◌, ◌≤◌, ◌^◌, min, map, Bool, true, false, List, [], ◌∷◌, ◌++◌, length, Some, None, if◌then◌else◌}
use Rattle.std.specs.List.{AllByRecursion}
use Rattle.std.proofs.Common.{refl, sym, ap, subst, ◌∙◌, length-append, arith}
use Rattle.wire_bytes.specs.Breaks.{items_bytes}
use Rattle.wire_bytes.specs.ItemLaws.{AllByRecursion-from_items}
use Rattle.certificates.specs.Certificate.{Id, Table, HostPart, PoolFile, Certificate}
use Rattle.wire_bytes.specs.SealLaws.{length-sealed}
use Rattle.certificates.specs.Layout.{table_grammar, host_grammar, file_bytes, IsFile, certificate_grammar, certificate_file}
use Rattle.certificates.specs.Telling.{AreIn, IsCertificate}
use Rattle.certificates.specs.declared.bytes.CertificateBytes.{CertificateBytes}
use Rattle.certificates.specs.SizeLaws.{all_fit}
use Rattle.certificates.specs.PrintLaws.{AreRising, rising_ids, host_fits, certificate_fits, length-table, length-host, length-certificate}
use Rattle.certificate_judge.specs.declared.tally.Tally.{Tally}
use Rattle.certificate_judge.specs.Faults.{wrong, tables_faults, host_faults, hosts_faults, faults, is_unknown, is_miscounted, is_misfound, occurrences, ids_of_items, ids_of_files, tables_at, partial_at, items_at, pool_at}
use Rattle.certificate_judge.specs.Judging.{IsTally, first_of, ids_in}
use Rattle.certificate_judge.proofs.Parts.{ids_in-files}
use Rattle.certificate_judge.specs.Verdicts.{HasFaults, HasSome}

-- ---- there are fewer faults than bytes

module _ {A : Type 0} (is_wrong : A → Bool) (size : ℕ) where
  one_at_most : (b : Bool) (at : ℕ) (os : List ℕ) (n : ℕ) → length os ≤ n → length (if b then at ∷ os else os) ≤ 1 + n
  one_at_most true at os n h = omega (arith, h)
  one_at_most false at os n h = omega (arith, h)

  pub wrong_few : (at : ℕ) (xs : List A) → length (wrong is_wrong size at xs) ≤ length xs
  wrong_few at [] = omega arith
  wrong_few at (x ∷ xs) =
      let h = one_at_most (is_wrong x) at (wrong is_wrong size (at + size) xs) (length xs) (wrong_few (at + size) xs) in omega (arith, h)

tables_few : (is_wrong : Id → Bool) (at : ℕ) (ts : List Table) → AllByRecursion table_grammar.Fits ts
    → length (tables_faults is_wrong at ts) ≤ length (items_bytes table_grammar.print ts)
tables_few is_wrong at [] all = omega arith
tables_few is_wrong at (t ∷ ts) all =
    omega (
      arith,
      wrong_few is_wrong 18 (at + 8) t.ids,
      length-table t all.0,
      tables_few is_wrong (at + length (table_grammar.print t)) ts all.1,
      length-append (wrong is_wrong 18 (at + 8) t.ids) (tables_faults is_wrong (at + length (table_grammar.print t)) ts),
      length-append (table_grammar.print t) (items_bytes table_grammar.print ts),
    )

host_few : (pool : List Id) (at : ℕ) (host : HostPart) → host_grammar.Fits host → length (host_faults pool at host) ≤ length (host_grammar.print host)
host_few pool at host fits =
    let u = is_unknown (ids_of_items host.items) pool in
    let m = is_miscounted (occurrences host) in
    omega (
      arith,
      tables_few u (tables_at at host) host.tables (all_fit _ _ _ [] host.tables (host_fits host fits).tables),
      wrong_few u 18 (partial_at at host) host.partial,
      wrong_few m 26 (items_at at host + 18) host.items,
      length-host host fits,
      length-append (tables_faults u (tables_at at host) host.tables) (wrong u 18 (partial_at at host) host.partial ++ wrong m 26 (items_at at host + 18) host.items),
      length-append (wrong u 18 (partial_at at host) host.partial) (wrong m 26 (items_at at host + 18) host.items),
    )

hosts_few : (pool : List Id) (at : ℕ) (hosts : List HostPart) → AllByRecursion host_grammar.Fits hosts
    → length (hosts_faults pool at hosts) ≤ length (items_bytes host_grammar.print hosts)
hosts_few pool at [] all = omega arith
hosts_few pool at (h ∷ hs) all =
    omega (
      arith,
      host_few pool at h all.0,
      hosts_few pool (at + length (host_grammar.print h)) hs all.1,
      length-append (host_faults pool at h) (hosts_faults pool (at + length (host_grammar.print h)) hs),
      length-append (host_grammar.print h) (items_bytes host_grammar.print hs),
    )

pub hosts_fit : (c : Certificate) → certificate_grammar.Fits c → AllByRecursion host_grammar.Fits c.hosts
hosts_fit c fits = AllByRecursion-from_items host_grammar.Fits [] c.hosts (certificate_fits c fits).hosts

pub faults_few : (c : Certificate) → certificate_grammar.Fits c → length (faults c) ≤ length (certificate_grammar.print c)
faults_few c fits =
    omega (
      arith,
      hosts_few (ids_of_files c.pool) 16 c.hosts (hosts_fit c fits),
      wrong_few is_misfound 43 (pool_at c + 26) c.pool,
      length-certificate c fits,
      length-append (hosts_faults (ids_of_files c.pool) 16 c.hosts) (wrong is_misfound 43 (pool_at c + 26) c.pool),
    )

-- ---- all that was judged

pub small_file : (bytes : List ℕ) (c : Certificate) → certificate_grammar.Fits c → bytes ≡ certificate_file c → length bytes < 2 ^ 64
    → length (certificate_grammar.print c) + 16 < 2 ^ 64
small_file bytes c fits is small = let len = length-sealed (certificate_grammar.print c) in omega (arith, ap length is, len, small)

pub judged_all : (c : Certificate) → certificate_grammar.Fits c → (parts : CertificateBytes) → IsCertificate c parts
    → length (certificate_grammar.print c) + 16 < 2 ^ 64 → (first second third : Tally) (at : ℕ)
    → at ≡ min (length parts.hosts.bytes.now + 24) (2 ^ 64 - 1) → IsTally [] first
    → ((os : List ℕ) (hs : List HostPart) → AreIn host_grammar.print hs parts.hosts → AllByRecursion host_grammar.Fits hs
    → AreRising (ids_in parts.pool.now) → 16 + length parts.hosts.bytes.now + 24 < 2 ^ 64
    → IsTally os first → IsTally (os ++ hosts_faults (ids_in parts.pool.now) 16 hs) second)
    → ((os : List ℕ) (fs : List PoolFile) → parts.pool.now ≡ map file_bytes fs → AllByRecursion IsFile fs → at + 43 * length fs < 2 ^ 64
    → IsTally os second → IsTally (os ++ wrong is_misfound 43 (at + 26) fs) third)
    → IsTally (faults c) third
judged_all c fits parts tells small first second third at at_is none hosts files =
    let are = certificate_fits c fits in
    let len = length-certificate c fits in
    let size : length parts.hosts.bytes.now ≡ length (items_bytes host_grammar.print c.hosts) = ap length tells.hosts.bytes in
    let each : AllByRecursion IsFile c.pool = all_fit IsFile _ _ [] c.pool are.pool in
    let ids : ids_in parts.pool.now ≡ ids_of_files c.pool = ap (λ (l : List (List ℕ)). ids_in l) tells.pool ∙ ids_in-files c.pool each in
    let rising : AreRising (ids_in parts.pool.now) = subst AreRising (sym ids) (rising_ids IsFile (λ (f : PoolFile). f.id) c.pool are.pool) in
    let place : at ≡ pool_at c = omega (arith, at_is, size, small, len) in
    let of_hosts = hosts [] c.hosts tells.hosts (hosts_fit c fits) rising (omega (arith, size, small, len)) none in
    let of_files = files ([] ++ hosts_faults (ids_in parts.pool.now) 16 c.hosts) c.pool tells.pool each (omega (arith, place, small, len)) of_hosts in
    subst (λ (xs : List Id). IsTally (hosts_faults xs 16 c.hosts ++ wrong is_misfound 43 (pool_at c + 26) c.pool) third) ids
    (subst (λ (n : ℕ). IsTally (hosts_faults (ids_in parts.pool.now) 16 c.hosts ++ wrong is_misfound 43 (n + 26) c.pool) third) place of_files)

-- ---- the verdict

module _ (bytes : List ℕ) (c : Certificate) (fits : certificate_grammar.Fits c) (is : bytes ≡ certificate_file c)
    (only : (other : Certificate) → certificate_grammar.Fits other → bytes ≡ certificate_file other → c ≡ other) where
  pub none_found : (tally : Tally) → IsTally (faults c) tally → tally.first ≡ None → HasFaults bytes []
  none_found tally are none = record { certificate = c; fits = fits; is = is; only = only; faults_are = empty (faults c) (sym are.first ∙ none) }
    where
      empty : (os : List ℕ) → first_of os ≡ None → os ≡ []
      empty [] e = refl
      empty (o ∷ os) e = cc

  pub some_found : (tally : Tally) (offset : ℕ) → IsTally (faults c) tally → length (faults c) < 2 ^ 64 → tally.first ≡ Some offset
      → HasSome bytes offset tally.number
  some_found tally offset are few first = step (faults c) refl (sym are.first ∙ first) (are.number few)
    where
      step : (os : List ℕ) → faults c ≡ os → first_of os ≡ Some offset → tally.number ≡ length (faults c) → HasSome bytes offset tally.number
      step [] is_os e n = cc
      step (o ∷ os) is_os e n =
          let same : o ≡ offset = cc in
          record {
            more = os;
            has = record { certificate = c; fits = fits; is = is; only = only; faults_are = is_os ∙ ap (λ (k : ℕ). k ∷ os) same };
            number_is = n ∙ ap length is_os;
          }
