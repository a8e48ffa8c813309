-- Of the calls that are marked in a history, a beginning alone is marked.
use Rattle.std.proofs.Common.{◌≡◌, true, false, List, [], ◌∷◌, ◌++◌, Some, refl, sym, ap, ◌∙◌}
use Rattle.receipts.specs.declared.session.SessionName.{SessionName}
use Rattle.std.specs.Prelude.{slice_get}
use Rattle.office_model.specs.Step.{Call}
use Rattle.tree_frames.specs.declared.nodes.Frame.{Frame}
use Rattle.restore_histories.specs.Given.{given_in}
use Rattle.replicas.specs.Replicas.{Marked, all_in, own_in, AreAlone}
use Rattle.replicas.specs.ListLaws.{heads}
use Rattle.replicas.specs.HeardLaws.{given_in-append}

-- as many calls stay marked as these are
pub kept : List Call → Marked → Marked
kept calls [] = []
kept calls ((false, call) ∷ marked) = (false, call) ∷ kept calls marked
kept [] ((true, call) ∷ marked) = (false, call) ∷ kept [] marked
kept (first ∷ calls) ((true, call) ∷ marked) = (true, call) ∷ kept calls marked

pub kept_all : (calls : List Call) (marked : Marked) → all_in (kept calls marked) ≡ all_in marked
unfolding kept
kept_all calls [] = refl
kept_all calls ((false, call) ∷ marked) = ap (λ (cs : List Call). call ∷ cs) (kept_all calls marked)
kept_all [] ((true, call) ∷ marked) = ap (λ (cs : List Call). call ∷ cs) (kept_all [] marked)
kept_all (first ∷ calls) ((true, call) ∷ marked) = ap (λ (cs : List Call). call ∷ cs) (kept_all calls marked)

kept_none : (marked : Marked) → own_in (kept [] marked) ≡ []
unfolding kept
kept_none [] = refl
kept_none ((false, call) ∷ marked) = kept_none marked
kept_none ((true, call) ∷ marked) = kept_none marked

pub kept_own : (calls more : List Call) (marked : Marked) → own_in marked ≡ calls ++ more → own_in (kept calls marked) ≡ calls
unfolding kept
kept_own [] more marked e = kept_none marked
kept_own (first ∷ calls) more [] e = absurd (cc)
kept_own (first ∷ calls) more ((false, call) ∷ marked) e = kept_own (first ∷ calls) more marked e
kept_own (first ∷ calls) more ((true, call) ∷ marked) e =
    let w = heads call first (own_in marked) (calls ++ more) e in λ i. w.0 i ∷ kept_own calls more marked w.1 i

-- what a beginning of the calls gets, all of them get
gets : (restore : SessionName) (calls more own : List Call) (frame : Frame) (frames : List Frame) → own ≡ calls ++ more
    → given_in restore calls ≡ frame ∷ frames → given_in restore own ≡ frame ∷ (frames ++ given_in restore more)
gets restore calls more own frame frames are e =
    ap (given_in restore) are ∙ given_in-append restore calls more ∙ ap (λ (fs : List Frame). fs ++ given_in restore more) e

-- where none is marked, none is wanted alone
none_alone : (marked : Marked) → AreAlone (kept [] marked)
unfolding kept
none_alone [] = tt
none_alone ((false, call) ∷ marked) = (
  λ restore frame frames f. let no : [] ≡ frame ∷ frames = ap (given_in restore) (sym (kept_none marked)) ∙ f in absurd (cc),
  none_alone marked,
)
none_alone ((true, call) ∷ marked) = (
  λ restore frame frames f. let no : [] ≡ frame ∷ frames = ap (given_in restore) (sym (kept_none marked)) ∙ f in absurd (cc),
  none_alone marked,
)

pub kept_alone : (calls more : List Call) (marked : Marked) → own_in marked ≡ calls ++ more → AreAlone marked → AreAlone (kept calls marked)
unfolding kept
kept_alone calls more [] e alone = tt
kept_alone calls more ((false, call) ∷ marked) e alone = (
  λ restore frame frames f.
      alone.0 restore frame (frames ++ given_in restore more)
      (gets restore calls more (own_in marked) frame frames e (ap (given_in restore) (sym (kept_own calls more marked e)) ∙ f)),
  kept_alone calls more marked e alone.1,
)
kept_alone [] more ((true, call) ∷ marked) e alone = (
  λ restore frame frames f. let no : [] ≡ frame ∷ frames = ap (given_in restore) (sym (kept_none marked)) ∙ f in absurd (cc),
  none_alone marked,
)
kept_alone (first ∷ calls) more ((true, call) ∷ marked) e alone =
    kept_alone calls more marked (heads call first (own_in marked) (calls ++ more) e).1 alone

pub kept_first : (calls : List Call) (marked : Marked) (call : Call) (more : List Call) → calls ≡ call ∷ more
    → slice_get marked 0 ≡ Some (true, call) → slice_get (kept calls marked) 0 ≡ Some (true, call)
unfolding kept
kept_first calls [] call more e at = at
kept_first calls ((false, own) ∷ marked) call more e at = at
kept_first [] ((true, own) ∷ marked) call more e at = absurd (cc)
kept_first (first ∷ calls) ((true, own) ∷ marked) call more e at = at
