-- What a planned commit leads to, for an office that the parts hold.
--     Found      the dump and the host of the model that a plan is of
--     if_some      a line that is dropped is the newest, and does not stay filled
--     index_listed, changes_are      the host's changes among those of a plan
--     planned_changes      the changes of a plan name metadata files, none twice
use Rattle.std.specs.Prelude.{◌≡◌, ℕ, zero, suc, ◌+◌, ◌-◌, ◌<◌, Bool, true, false, List, [], ◌∷◌, ◌++◌, length, Option, Some, None, slice_get, if◌then◌else◌}
use Rattle.std.proofs.Common.{refl, sym, ap, ◌∙◌, subst, inl, inr, arith}
use Rattle.disk_trait.specs.declared.ids.FileId.{FileId}
use Rattle.disk_trait.specs.declared.disk.Disk.{Ghosts as DiskGhosts}
use Rattle.pool_name.specs.declared.namer.Namer.{Ghosts as NamerGhosts}
use Rattle.intent_journal.specs.declared.changes.Change.{Change}
use Rattle.intent_journal.specs.Changes.{AreChanges}
use Rattle.backup_rules.specs.declared.lines.Line.{Line}
use Rattle.backup_rules.specs.Values.{RuleSet}
use Rattle.backup_rules.specs.Fill.{stays_filled}
use Rattle.backup_index.specs.Lines.{IsSound, LinesFrom}
use Rattle.pool_changes.specs.Written.{LeadsIndex, IsIndexFile}
use Rattle.pool_index.specs.Index.{Index}
use Rattle.office_changes.specs.ChangeLaws.{is_of_index}
use Rattle.merge_view.specs.Views.{Rows}
use Rattle.open_sessions.specs.declared.sessions.OpenDump.{OpenDump}
use Rattle.store_parts.specs.declared.parts.StoreParts.{StoreParts}
use Rattle.store_commits.specs.declared.files.Former.{Former}
use Rattle.store_commits.specs.declared.former.Folding.{Folding}
use Rattle.store_commits.specs.declared.plan.Plan.{Plan}
use Rattle.store_commits.specs.Former.{last_line, if_dropped, dropped_of, IsFolded}
use Rattle.store_commits.specs.Planned.{IsFormerFile, IsPlanned}
use Rattle.store_commits.specs.Written.{index_change, host_part, written}
use Rattle.store_commits.specs.WrittenLaws.{IsFormer, AreOfIndex, one_index, written_is, are_written}

-- ---- numbers of lines

line_below : (low next : ℕ) (lines : List Line) → LinesFrom low next lines → (i : ℕ) (line : Line) → slice_get lines i ≡ Some line
    → line.number < next
line_below low next [] sound i line e = absurd cc
line_below low next (l ∷ lines) sound zero line e = let same : l ≡ line = cc in subst (λ (x : Line). x.number < next) same sound.0.below
line_below low next (l ∷ lines) sound (suc i) line e = line_below (l.number + 1) next lines sound.1 i line e

pub if_some : (rules : RuleSet) (newest : Option Line) (line : Line) → if_dropped rules newest ≡ Some line
    → (newest ≡ Some line) × (stays_filled rules line ≡ false)
if_some rules None line e = absurd cc
if_some rules (Some newest) line e = step (stays_filled rules newest) refl e
  where
    step : (b : Bool) → stays_filled rules newest ≡ b → (if b then None else Some newest) ≡ Some line
        → (Some newest ≡ Some line) × (stays_filled rules line ≡ false)
    step true is e = absurd cc
    step false is e = let same : newest ≡ line = cc in (e, subst (λ (l : Line). stays_filled rules l ≡ false) same is)

-- the line that is dropped has a number below the next one
dropped_below : (rules : RuleSet) (next : ℕ) (lines : List Line) (line : Line) → IsSound next lines → dropped_of rules lines ≡ Some line
    → line.number < next
dropped_below rules next lines line sound e =
    line_below 0 next lines sound.in_turn (length lines - 1) line (if_some rules (last_line lines) line e).0

-- ---- the changes of a plan

index_file : (in_one : Bool) (old new : Index) (file : FileId) → IsIndexFile in_one old new file → is_of_index file ≡ true
index_file in_one old new file (inl one) = subst (λ (f : FileId). is_of_index f ≡ true) (sym one.0) refl
index_file in_one old new file (inr bucket) = subst (λ (f : FileId). is_of_index f ≡ true) (sym bucket.2) refl

pub of_index : (in_one : Bool) (old new : Index) (changes : List Change) → LeadsIndex in_one old new changes → AreOfIndex changes
of_index in_one old new changes leads = record {
  are = leads.are;
  only = λ file named. index_file in_one old new file (leads.only file named);
}

former_number : (folding : Option Folding) (former : Option Former) (next : ℕ) → IsFormerFile folding former
    → ((f : Folding) → folding ≡ Some f → f.number < next) → IsFormer next former
former_number None former next is below = subst (IsFormer next) (sym is) tt
former_number (Some f) former next is below = subst (IsFormer next) (sym is.1) (λ e. let b = below f refl in omega (arith, e, b))

folding_number : (told : _) (host : ℕ) (dropped : Option Line) (rows : Rows) (folding : Option Folding) (next : ℕ)
    → IsFolded told host dropped rows folding → ((line : Line) → dropped ≡ Some line → line.number < next)
    → (f : Folding) → folding ≡ Some f → f.number < next
folding_number told host None rows folding next folded below f e = absurd cc
folding_number told host (Some line) rows None next folded below f e = absurd folded
folding_number told host (Some line) rows (Some folding) next folded below f e =
    let same : folding ≡ f = cc in
    subst (λ (x : Folding). x.number < next) same (subst (λ (k : ℕ). k < next) (sym folded.number) (below line refl))

module _ {D N S : Type 0} {d : DiskGhosts D} {n : NamerGhosts N S} where
  module _ (parts : StoreParts D N S d n) (session : OpenDump) (line : Line) (plan : Plan) (planned : IsPlanned parts session line plan) where
    pub number_is : planned.lines.line.number ≡ line.number
    number_is = ap (λ (l : Line). l.number) planned.judged.is

    pub former_is : IsFormer planned.lines.line.number planned.built.files.former
    former_is =
        former_number planned.folding planned.built.files.former planned.lines.line.number planned.built.former
        (folding_number _ planned.lines.file planned.lines.dropped session.tree planned.folding planned.lines.line.number planned.folded below)
      where
        below : (dropped : Line) → planned.lines.dropped ≡ Some dropped → dropped.number < planned.lines.line.number
        below dropped e =
            omega (
              arith,
              number_is,
              planned.judged.free,
              dropped_below planned.judged.index.rules planned.judged.index.next planned.judged.index.lines dropped planned.judged.sound
                  (sym planned.judged.dropped ∙ e),
            )

    -- the change of the host's index
    pub index_listed : (index : Option (List ℕ)) × (planned.built.listed ≡ index_change session.host index ∷ [])
    index_listed = one_index planned.built.listed session.host planned.built.lists.named

    pub changes_are : plan.changes
        ≡ planned.built.pooled ++ host_part session.host planned.lines.line.number index_listed.0 planned.built.files
    changes_are =
        planned.built.changes
        ∙ ap (λ (h : ℕ). written planned.built.pooled planned.built.listed h planned.lines.line.number planned.built.files) planned.judged.file
        ∙ written_is planned.built.pooled planned.built.listed session.host planned.lines.line.number index_listed.0 planned.built.files index_listed.1

    pub planned_changes : AreChanges plan.changes
    planned_changes =
        subst AreChanges (sym changes_are)
        (are_written planned.built.pooled session.host planned.lines.line.number index_listed.0 planned.built.files (λ file. None)
        (of_index _ _ _ planned.built.pooled planned.built.leads) former_is)
