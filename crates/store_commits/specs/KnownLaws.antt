-- The catalog of an office whose host has a further backup.
--     index_found      what is found at a host's place is its index
--     catalog_committed      the catalog with the new line is that of the office after the commit
use Rattle.std.specs.Prelude.{◌≡◌, ℕ, zero, suc, ◌+◌, not, List, [], ◌∷◌, Option, Some, is_some, slice_get, slice_set}
use Rattle.std.proofs.Common.{ap, ◌∙◌, subst, arith}
use Rattle.receipts.specs.declared.receipt.Receipt.{Receipt}
use Rattle.backup_rules.specs.declared.lines.Line.{Line}
use Rattle.backup_index.specs.Index.{Index}
use Rattle.office_catalog.specs.Known.{Known, known_of, changed_at, with_change, with_line}
use Rattle.office_model.specs.Office.{Durable, Host, Dump, IsUnspent}
use Rattle.office_model.specs.Parts.{lines_of}
use Rattle.office_model.specs.events.Commit.{with_commit}
use Rattle.office_files.specs.Hosts.{index_of_host}
use Rattle.store_parts.specs.KnownOffice.{indices_from, known_of_office}
use Rattle.store_commits.specs.Former.{dropped_of}
use Rattle.store_commits.specs.Judged.{receipt_by}
use Rattle.store_commits.specs.LineLaws.{index_committed}

there_from : (n : ℕ) (hosts : List Host) (i : ℕ) (host : Host) → slice_get hosts i ≡ Some host
    → slice_get (indices_from n hosts) i ≡ Some (index_of_host (n + i) host)
there_from n [] i host e = absurd cc
there_from n (h ∷ hosts) zero host e =
    let same : h ≡ host = cc in
    let k : n ≡ n + 0 = omega arith in
    ap (λ (h : Host). Some (index_of_host n h)) same ∙ ap (λ (m : ℕ). Some (index_of_host m host)) k
there_from n (h ∷ hosts) (suc i) host e =
    let k : suc n + i ≡ n + suc i = omega arith in
    there_from (suc n) hosts i host e ∙ ap (λ (m : ℕ). Some (index_of_host m host)) k

pub index_found : (hosts : List Host) (i : ℕ) (host : Host) (index : Index) → slice_get hosts i ≡ Some host
    → slice_get (indices_from 0 hosts) i ≡ Some index → index ≡ index_of_host i host
index_found hosts i host index here e =
    let k : 0 + i ≡ i = omega arith in
    let there = there_from 0 hosts i host here ∙ ap (λ (m : ℕ). Some (index_of_host m host)) k in cc

module _ (f : Index → Index) (host new : Host) where
  replaced_from : (n p : ℕ) (hosts : List Host) → slice_get hosts p ≡ Some host → f (index_of_host (n + p) host) ≡ index_of_host (n + p) new
      → changed_at f p (indices_from n hosts) ≡ indices_from n (slice_set hosts p new)
  replaced_from n p [] here is = absurd cc
  replaced_from n zero (h ∷ hosts) here is =
      let same : h ≡ host = cc in
      let k : n + 0 ≡ n = omega arith in
      ap (λ (i : Index). i ∷ indices_from (suc n) hosts)
      (ap (λ (h : Host). f (index_of_host n h)) same ∙ subst (λ (m : ℕ). f (index_of_host m host) ≡ index_of_host m new) k is)
  replaced_from n (suc p) (h ∷ hosts) here is =
      let k : n + suc p ≡ suc n + p = omega arith in
      ap (λ t. index_of_host n h ∷ t)
      (replaced_from (suc n) p hosts here (subst (λ (m : ℕ). f (index_of_host m host) ≡ index_of_host m new) k is))

  host_replaced : (p : ℕ) (hosts : List Host) → slice_get hosts p ≡ Some host → f (index_of_host p host) ≡ index_of_host p new
      → changed_at f p (indices_from 0 hosts) ≡ indices_from 0 (slice_set hosts p new)
  host_replaced p hosts here is =
      let k : p ≡ 0 + p = omega arith in
      replaced_from 0 p hosts here (subst (λ (m : ℕ). f (index_of_host m host) ≡ index_of_host m new) k is)

pub catalog_committed : (known : Known) (office : Durable) (p : ℕ) (host : Host) (dump : Dump) (line written : Line)
    (dropped : Option Line) (receipt : Option Receipt) → known ≡ known_of_office office → slice_get office.hosts p ≡ Some host
    → written ≡ line → dropped ≡ dropped_of host.rules (lines_of host.backups)
    → receipt ≡ receipt_by dump.token dump.name line.number → IsUnspent host.receipts dump.token
    → with_change known p (with_line written (not (is_some dropped)) receipt)
    ≡ known_of office.epoch (indices_from 0 (slice_set office.hosts p (with_commit host dump line)))
catalog_committed known office p host dump line written dropped receipt is here line_is dropped_is receipt_is unspent =
    (λ i. with_change (is i) p (with_line (line_is i) (not (is_some (dropped_is i))) (receipt_is i)))
    ∙ ap (known_of office.epoch)
    (host_replaced (with_line line (not (is_some (dropped_of host.rules (lines_of host.backups))))
    (receipt_by dump.token dump.name line.number)) host (with_commit host dump line) p office.hosts here (index_committed host dump line p unspent))
