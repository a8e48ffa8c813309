-- What a commit writes: no table of the first layout.
--     second_planned      of a plan
use Rattle.std.specs.Prelude.{◌≡◌, ℕ, Bool, true, false, List, Option, Some, None}
use Rattle.std.proofs.Common.{refl, sym, ap, ◌∙◌, subst}
use Rattle.disk_trait.specs.declared.disk.Disk.{Ghosts as DiskGhosts}
use Rattle.pool_name.specs.declared.namer.Namer.{Ghosts as NamerGhosts}
use Rattle.attr_tables.specs.declared.layouts.TableLayout.TheVariants.{Second}
use Rattle.attr_tables.specs.Tables.{table_file}
use Rattle.backup_rules.specs.declared.lines.Line.{Line}
use Rattle.merge_view.specs.Views.{Rows}
use Rattle.open_sessions.specs.declared.sessions.OpenDump.{OpenDump}
use Rattle.office_files.specs.TableLayouts.{is_first_layout, WriteNoFirst}
use Rattle.office_files.specs.TableLayoutLaws.{none_in_both, second_written}
use Rattle.office_changes.specs.LayoutLaws.{second_of_index}
use Rattle.store_parts.specs.declared.parts.StoreParts.{StoreParts}
use Rattle.store_commits.specs.declared.files.Former.{Former}
use Rattle.store_commits.specs.declared.files.HostFiles.{HostFiles}
use Rattle.store_commits.specs.declared.former.Folding.{Folding}
use Rattle.store_commits.specs.declared.plan.Plan.{Plan}
use Rattle.store_commits.specs.Planned.{IsFormerFile, IsPlanned}
use Rattle.store_commits.specs.Written.{former_part, partial_part, host_part}
use Rattle.store_commits.specs.CommittedLaws.{index_listed, changes_are, of_index}

former_second : (host : ℕ) (folding : Option Folding) (former : Option Former) → IsFormerFile folding former → WriteNoFirst (former_part host former)
former_second host None former is = subst (λ (f : Option Former). WriteNoFirst (former_part host f)) (sym is) tt
former_second host (Some folding) former is =
    subst (λ (f : Option Former). WriteNoFirst (former_part host f)) (sym is.1) (second_written folding.entries, tt)

partial_second : (host : ℕ) (parked : Bool) → WriteNoFirst (partial_part host parked)
partial_second host false = tt
partial_second host true = (refl, tt)

-- the files of the host
host_second : (host number : ℕ) (index : Option (List ℕ)) (files : HostFiles) (rows : Rows) (folding : Option Folding)
    → files.table ≡ table_file Second rows → IsFormerFile folding files.former → WriteNoFirst (host_part host number index files)
host_second host number index files rows folding table former = (
  refl,
  (
    ap (λ (bytes : List ℕ). is_first_layout (Some bytes)) table ∙ second_written rows,
    (
      refl,
      none_in_both (former_part host files.former) (partial_part host files.parked) (former_second host folding files.former former)
          (partial_second host files.parked),
    ),
  ),
)

module _ {D N S : Type 0} {d : DiskGhosts D} {n : NamerGhosts N S} where
  pub second_planned : (parts : StoreParts D N S d n) (session : OpenDump) (line : Line) (plan : Plan) → IsPlanned parts session line plan
      → WriteNoFirst plan.changes
  second_planned parts session line plan planned =
      let index = index_listed parts session line plan planned in
      subst WriteNoFirst (sym (changes_are parts session line plan planned))
      (none_in_both planned.built.pooled (host_part session.host planned.lines.line.number index.0 planned.built.files)
      (second_of_index planned.built.pooled (of_index _ _ _ planned.built.pooled planned.built.leads).only)
      (host_second session.host planned.lines.line.number index.0 planned.built.files session.tree planned.folding planned.built.table.1
      planned.built.former))
