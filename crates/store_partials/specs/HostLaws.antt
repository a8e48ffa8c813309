-- A host of parts at work: what memory and the files say of it and of its partial.
--     found, head_is      what is stored of it, and what is known of its partial
--     counted_then      its counts with other rows in the place of its partial's
--     told_then      what is read of it is there
use Rattle.std.specs.Prelude.{◌≡◌, ℕ, ◌+◌, ◌^◌, ◌<◌, List, Option, Some, IfSome, slice_get}
use Rattle.std.specs.Option.{option_map}
use Rattle.std.proofs.Common.{sym, ap, ◌∙◌, subst, arith}
use Rattle.disk_trait.specs.declared.ids.PoolId.{PoolId}
use Rattle.disk_trait.specs.declared.ids.FileId.TheVariants.{Partial as PartialOf}
use Rattle.disk_trait.specs.declared.disk.Disk.{Ghosts as DiskGhosts}
use Rattle.pool_name.specs.declared.namer.Namer.{Ghosts as NamerGhosts}
use Rattle.journal_view.specs.View.{told}
use Rattle.merge_view.specs.Views.{Rows}
use Rattle.pool_changes.specs.Listed.{index_of}
use Rattle.ref_counts.specs.Numbers.{Items, total}
use Rattle.ref_counts.specs.Stored.{StoredHost, stored}
use Rattle.host_partials.specs.declared.held.PartialHead.{PartialHead}
use Rattle.host_partials.specs.Held.{head_at}
use Rattle.office_model.specs.Office.{Office, Host, Names}
use Rattle.office_files.specs.Hosts.{StandsHost}
use Rattle.office_model.specs.PairsLaws.{other_at, pair_at}
use Rattle.office_files.specs.Pooled.{contents_of, IsListed}
use Rattle.office_changes.specs.BoundLaws.{few_stored}
use Rattle.store_parts.specs.declared.parts.StoreParts.{StoreParts}
use Rattle.store_parts.specs.Held.{AreCounts, head_of}
use Rattle.store_parts.specs.Parked.{IsParkedAs}
use Rattle.store_parts.specs.States.{slots, IsRunning}
use Rattle.store_commits.specs.ParkedLaws.{head_there}
use Rattle.store_partials.specs.Parked.{IsRecounted, IsThere, IsTold}
use Rattle.store_partials.specs.CountLaws.{AreFew, counts_then}
use Rattle.store_partials.specs.AfterLaws.{rows_parked, there_parked, few_parked}

module _ {D N S : Type 0} {d : DiskGhosts D} {n : NamerGhosts N S} where
  module _ (parts : StoreParts D N S d n) (office : Office) (names : Names) (at : IsRunning parts office names) (number : ℕ) (host : Host)
      (here : slice_get office.hosts number ≡ Some host) where
    abbrev pub found : (of : StoredHost) × (slice_get at.shown number ≡ Some of)
        × StandsHost (IsListed (index_of (slots parts))) (contents_of at.all) at.all number host of
    found = pair_at (StandsHost (IsListed (index_of (slots parts))) (contents_of at.all) at.all) office.hosts at.shown at.stands.hosts number
        host here

    pub head_is : head_at parts.partials number ≡ option_map head_of host.partial
    head_is = ap (λ (heads : List (Option PartialHead)). head_at heads number) at.parked ∙ head_there office.hosts number host here

    room : (id : PoolId) → total id (stored found.0.backups) + 4294967296 < 2 ^ 64
    room id =
        let sound = at.sound.hosts.each number host here in
        let few = few_stored (IsListed (index_of (slots parts))) (contents_of at.all) host.next host.backups found.0.backups sound.backups.numbered
        sound.numbers found.2.shown id in
        omega (arith, few)

    pub counted_then : (rows : Option Rows) (items : Items)
        → IsRecounted (told parts.journal) (head_at parts.partials number) number parts.counts number rows items → IfSome rows AreFew
        → AreCounts items (record found.0 { partial = rows })
    counted_then rows items r few =
        counts_then items r.olds r.parked rows found.0 r.each (at.counted.each number r.olds found.0 r.has found.1)
        (rows_parked (IsListed (index_of (slots parts))) (contents_of at.all) number host.partial found.0.partial (at.all (PartialOf number))
        r.parked found.2.partial
        (subst (λ (head : Option PartialHead). IsParkedAs head number r.parked (at.all (PartialOf number))) head_is (r.is at.all at.told_is)))
        (few_parked (head_at parts.partials number) number r.parked (at.all (PartialOf number)) (r.is at.all at.told_is)) few room

    pub told_then : IsTold at.all (head_at parts.partials number) number parts.counts number
    told_then =
        let items = other_at at.shown parts.counts number found.0 (sym at.counted.counted) found.1 in
        record {
          items = items.0;
          has = items.1;
          partial = subst (λ (head : Option PartialHead). IsThere head number (at.all (PartialOf number))) (sym head_is)
              (there_parked (IsListed (index_of (slots parts))) (contents_of at.all) number host.partial found.0.partial
              (at.all (PartialOf number)) found.2.partial);
        }
