-- A commit of an open dump is ready, by parts at work: the host is there with a number left, and its files tell what is read.
--     index_there      the index at the place of a host
--     host_told      a host's counts are in memory, and its files tell the table of the backup that is dropped, and its partial
--     running_ready      what a plan reads is there
use Rattle.std.specs.Prelude.{◌≡◌, ℕ, zero, suc, ◌+◌, ◌-◌, List, [], ◌∷◌, length, Option, Some, slice_get}
use Rattle.std.specs.Option.{option_map}
use Rattle.std.proofs.Common.{refl, sym, ap, ◌∙◌, subst, arith}
use Rattle.disk_trait.specs.declared.ids.PoolId.{PoolId}
use Rattle.disk_trait.specs.declared.ids.FileId.TheVariants.{Table as TableFile, Partial as PartialOf}
use Rattle.disk_trait.specs.declared.disk.Disk.{Ghosts as DiskGhosts}
use Rattle.disk_trait.specs.Files.{Files}
use Rattle.pool_name.specs.declared.namer.Namer.{Ghosts as NamerGhosts}
use Rattle.backup_rules.specs.declared.lines.Line.{Line}
use Rattle.backup_views.specs.Stored.{IsTableFile}
use Rattle.merge_view.specs.Views.{Rows}
use Rattle.pool_changes.specs.Listed.{index_of}
use Rattle.ref_counts.specs.Numbers.{Items}
use Rattle.ref_counts.specs.Stored.{StoredHost, stored}
use Rattle.office_catalog.specs.Known.{Known}
use Rattle.office_model.specs.Office.{Office, Host, Backup, Names}
use Rattle.office_model.specs.Parts.{lines_of}
use Rattle.store_parts.specs.KnownOffice.{indices_from}
use Rattle.office_files.specs.Hosts.{index_of_host, StandsHost}
use Rattle.office_files.specs.Layouts.{IsTableFile as IsOfficeTable}
use Rattle.office_model.specs.PairsLaws.{other_at, pair_at}
use Rattle.office_files.specs.Pooled.{contents_of, IsListed}
use Rattle.host_partials.specs.declared.held.PartialHead.{PartialHead}
use Rattle.host_partials.specs.Held.{head_at}
use Rattle.open_sessions.specs.declared.sessions.OpenDump.{OpenDump}
use Rattle.store_parts.specs.declared.parts.StoreParts.{StoreParts}
use Rattle.store_parts.specs.Held.{head_of}
use Rattle.store_parts.specs.States.{slots, IsRunning}
use Rattle.store_commits.specs.Former.{last_line, dropped_of}
use Rattle.store_commits.specs.ParkedLaws.{head_there, parked_there}
use Rattle.store_commits.specs.Planned.{IsTold, IsReady}
use Rattle.store_commits.specs.CommittedLaws.{if_some}
use Rattle.store_commits.specs.CommittingLaws.{meant}

-- ---- the index of a host

there_from : (n : ℕ) (hosts : List Host) (i : ℕ) (host : Host) → slice_get hosts i ≡ Some host
    → slice_get (indices_from n hosts) i ≡ Some (index_of_host (n + i) host)
there_from n [] i host e = absurd cc
there_from n (h ∷ hosts) zero host e =
    let same : h ≡ host = cc in
    let k : n ≡ n + 0 = omega arith in
    ap (λ (h : Host). Some (index_of_host n h)) same ∙ ap (λ (m : ℕ). Some (index_of_host m host)) k
there_from n (h ∷ hosts) (suc i) host e =
    let k : suc n + i ≡ n + suc i = omega arith in
    there_from (suc n) hosts i host e ∙ ap (λ (m : ℕ). Some (index_of_host m host)) k

pub index_there : (hosts : List Host) (i : ℕ) (host : Host) → slice_get hosts i ≡ Some host
    → slice_get (indices_from 0 hosts) i ≡ Some (index_of_host i host)
index_there hosts i host e =
    let k : 0 + i ≡ i = omega arith in there_from 0 hosts i host e ∙ ap (λ (m : ℕ). Some (index_of_host m host)) k

-- ---- the files of a host

-- the backup at the place of a line
line_there : (backups : List Backup) (i : ℕ) (line : Line) → slice_get (lines_of backups) i ≡ Some line
    → (backup : Backup) × (slice_get backups i ≡ Some backup) × (backup.line ≡ line)
line_there [] i line e = absurd cc
line_there (backup ∷ backups) zero line e = (backup, refl, cc)
line_there (backup ∷ backups) (suc i) line e = line_there backups i line e

module _ (given : PoolId → Type 0) (contents : PoolId → List ℕ) (files : Files) (number : ℕ) (host : Host) (of : StoredHost)
    (stands : StandsHost given contents files number host of) where
  table_at : (i : ℕ) (line : Line) → slice_get (lines_of host.backups) i ≡ Some line
      → (rows : Rows) × IsTableFile rows (files (TableFile number line.number))
  table_at i line e =
      let w = line_there host.backups i line e in
      let pair = pair_at (λ i (backup : Backup) (rows : Rows). IsOfficeTable rows (files (TableFile number backup.line.number)))
      host.backups (stored of.backups) stands.tables i w.0 w.1 in (
        pair.0,
        subst (λ (l : Line). IsTableFile pair.0 (files (TableFile number l.number))) w.2
            (record { layout = pair.2.layout; fits = pair.2.fits; is = pair.2.is }),
      )

  pub host_told : (counts : List Items) (place : ℕ) (items : Items) → slice_get counts place ≡ Some items
      → IsTold files counts place number (option_map head_of host.partial) (dropped_of host.rules (lines_of host.backups))
  host_told counts place items has = record {
    items = items;
    has = has;
    table = λ line e.
        table_at (length (lines_of host.backups) - 1) line (if_some host.rules (last_line (lines_of host.backups)) line e).0;
    parked = parked_there given contents number host.partial of.partial (files (PartialOf number)) stands.partial;
  }

-- ---- parts at work

module _ {D N S : Type 0} {d : DiskGhosts D} {n : NamerGhosts N S} where
  pub running_ready : (parts : StoreParts D N S d n) (place : ℕ) (session : OpenDump) (office : Office) (names : Names)
      (at : IsRunning parts office names) → slice_get parts.sessions.dumps.items place ≡ Some session → IsReady parts session at.all
  running_ready parts place session office names at e =
      let m = meant parts place session office names at e in
      let pair = pair_at (StandsHost (IsListed (index_of (slots parts))) (contents_of at.all) at.all) office.hosts at.shown
      at.stands.hosts m.dump.host m.host m.here in
      let head : head_at parts.partials session.host ≡ option_map head_of m.host.partial =
      (λ j. head_at (at.parked j) (m.is.host j)) ∙ head_there office.hosts m.dump.host m.host m.here in
      let counts = other_at at.shown parts.counts m.dump.host pair.0 (sym at.counted.counted) pair.1 in
      record {
        index = index_of_host m.dump.host m.host;
        here = ap (slice_get parts.catalog.hosts) m.is.host ∙ ap (λ (k : Known). slice_get k.hosts m.dump.host) at.catalog_is
            ∙ index_there office.hosts m.dump.host m.host m.here;
        tells = subst (λ (head : Option PartialHead). IsTold at.all parts.counts session.host session.host head
            (dropped_of m.host.rules (lines_of m.host.backups))) (sym head)
            (subst (λ (h : ℕ). IsTold at.all parts.counts session.host h (option_map head_of m.host.partial)
            (dropped_of m.host.rules (lines_of m.host.backups))) (sym m.is.host)
            (host_told (IsListed (index_of (slots parts))) (contents_of at.all) at.all m.dump.host m.host pair.0 pair.2 parts.counts
            session.host counts.0 (ap (slice_get parts.counts) m.is.host ∙ counts.1)));
      }
