use Rattle.std.proofs.Common.{List, ◌⊎◌, inl, inr, refl, sym, subst, ◌∙◌}
use Rattle.std.proofs.lemmas.Bool.{false≢true}
use Rattle.disk_trait.specs.Images.{LeavesOnly}
use Rattle.disk_trait.specs.ImagesLaws.{leaves_only}
use Rattle.intent_journal.specs.declared.changes.Change.{Change}
use Rattle.intent_journal.specs.Changes.{applied}
use Rattle.intent_journal.specs.Overlay.{ComesTo, IsAtRest, IsBeforeOrAfter, SyncsStages}
use Rattle.intent_journal.specs.OverlayLaws.{start_image}
use Rattle.intent_journal.proofs.CommitLaws.{rest_image}
use Rattle.intent_journal.proofs.journal.Journal.commit.Goals as goal

pub returns : goal.returns
returns g c =
    let run = sym c.halted.ensures ∙ c.if-halted.false in
    let settled = c.args.self.now.settled run in
    record {
      halted = (λ e. absurd (cc), λ h. absurd (false≢true (sym run ∙ h)));
      any_moment = λ _ all told.
          subst (λ (cs : List Change). LeavesOnly g.D.Disk.moment g.D.Disk.left_since c.args.self.now.disk c.carry_out.new.disk
          (IsBeforeOrAfter all (g.D.Disk.uncertain c.args.self.now.disk) cs)) c.as_slice-3.ensures
          (leaves_only (c.carry_out.ensures.any_moment all told)
          (λ image left. inl (start_image _ _ all image told settled (g.met.D.Disk.only_now _ image left))));
      done = (
        refl,
        λ all told.
            subst (λ (cs : List Change). IsAtRest (g.D.Disk.files c.carry_out.new.disk) (g.D.Disk.uncertain c.carry_out.new.disk)
            (applied cs all)) c.as_slice-3.ensures
            (c.in-Ok.ensures.at_rest all told),
      );
      emptied = c.in-Ok.ensures.emptied;
      stages = λ _ all told.
          subst (λ (cs : List Change).
          LeavesOnly g.D.Disk.moment g.D.Disk.left_since c.args.self.now.disk c.carry_out.new.disk
          (ComesTo all (g.D.Disk.uncertain c.args.self.now.disk))
          ⊎ SyncsStages g.D.Disk.moment g.D.Disk.left_since c.args.self.now.disk c.carry_out.new.disk all
          (g.D.Disk.uncertain c.args.self.now.disk) cs)
          c.as_slice-3.ensures (c.carry_out.ensures.stages all told);
      kept = λ all image told left.
          let rest = subst
          (λ (cs : List Change). IsAtRest (g.D.Disk.files c.carry_out.new.disk) (g.D.Disk.uncertain c.carry_out.new.disk)
          (applied cs all)) c.as_slice-3.ensures
          (c.in-Ok.ensures.at_rest all told) in
          rest_image _ _ _ image rest left;
      stopped = λ e. absurd (cc);
      unwritten = λ sum. elim sum [ inl e ↦ absurd (cc) | inr e ↦ absurd (cc) ];
      counted = record {
        later = c.carry_out.ensures.counted.later;
        rose = λ e. absurd (cc);
        stays = λ _. c.in-Ok.ensures.counted.stays (λ e. absurd (cc));
      };
    }
