-- An opening, a put or a removal in memory, by what its token says.
use Rattle.std.specs.Prelude.{◌≡◌, ℕ, Bool, List, [], ◌∷◌, ◌++◌, Option, Some, None, Ok, Err, get_or, slice_get}
use Rattle.std.proofs.Common.{sym, ap, ◌∙◌, subst}
use Rattle.std.proofs.lemmas.Option.{get_or_from_slice_get}
use Rattle.attr_records.specs.Items.{is_large}
use Rattle.backup_rules.specs.declared.lines.Kind.{Kind}
use Rattle.receipts.specs.declared.session.SessionName.{SessionName}
use Rattle.receipts.specs.declared.session.Token.{Token}
use Rattle.office_model.specs.declared.answer.Answer.{Answer}
use Rattle.office_model.specs.declared.answer.Answer.TheVariants.{Done}
use Rattle.office_model.specs.declared.event.PutItem.{PutItem}
use Rattle.office_model.specs.declared.event.PutItem.TheVariants.{Whole, Staged}
use Rattle.office_model.specs.declared.refusal.BrokenRule.{BrokenRule}
use Rattle.office_model.specs.Office.{Office, Host, Dump, Stage, with_dumps, with_stages, IsSound}
use Rattle.office_model.specs.Meaning.{Carried, Judged, Reply, ◌>>=◌}
use Rattle.office_model.specs.Parts.{At}
use Rattle.office_model.specs.Repeats.{kept_at, once}
use Rattle.office_model.specs.events.OpenDump.{opened, carried}
use Rattle.office_model.specs.events.Put as PutEvent
use Rattle.office_model.specs.laws.Judging.{bound}
use Rattle.office_model.specs.laws.PutLaws.{may_put_stage, kept-with_put}
use Rattle.office_model.specs.laws.RepeatLaws.{SameKept, IsSound-kept}
use Rattle.office_model.specs.laws.StageLaws.{IsSound-stage_removed}
use Rattle.tree_tokens.specs.Turns.{repeated_at, place_for, kept_by, turned, IsPlace}
use Rattle.tree_tokens.specs.TurnLaws.{opening_turned, opening_broken, once_turned, may_keep, kept_is}
use Rattle.tree_office.specs.Steps.{IsMemoryStep, put_where}

-- ---- openings

pub first_opens : (name : List ℕ) (kind : Kind) (now : ℕ) (token : Token) (old : Office) (reply : Reply) (new : Office)
    → repeated_at name token old.hosts old.dumps ≡ Ok None → IsMemoryStep (opened name kind now (Some token) old) old reply new
    → IsMemoryStep (carried name kind now (Some token) old) old reply new
first_opens name kind now token old reply new first step =
    subst (λ (j : Judged Carried). IsMemoryStep j old reply new) (sym (opening_turned name kind now token old None first)) step

-- what was asked of an office's parts, as it stands whole
pub first_is : (name : List ℕ) (token : Token) (hosts : List Host) (dumps : List Dump) (inside old : Office) (given : Option Answer)
    → hosts ≡ inside.hosts → dumps ≡ inside.dumps → inside ≡ old → given ≡ None → repeated_at name token hosts dumps ≡ Ok given
    → repeated_at name token old.hosts old.dumps ≡ Ok None
first_is name token hosts dumps inside old given h d same none is =
    subst (λ (o : Office). repeated_at name token o.hosts o.dumps ≡ Ok None) same
    (subst (λ (ds : List Dump). repeated_at name token inside.hosts ds ≡ Ok None) d
    (subst (λ (hs : List Host). repeated_at name token hs dumps ≡ Ok None) h
    (subst (λ (g : Option Answer). repeated_at name token hosts dumps ≡ Ok g) none is)))

-- an opening whose token is judged to break a rule breaks it
pub broken_opens : (name : List ℕ) (kind : Kind) (now : ℕ) (given : Option Token) (token : Token) (hosts : List Host) (dumps : List Dump)
    (inside old : Office) (rule : BrokenRule) → given ≡ Some token → hosts ≡ inside.hosts → dumps ≡ inside.dumps → inside ≡ old
    → repeated_at name token hosts dumps ≡ Err rule → carried name kind now given old ≡ Err rule
broken_opens name kind now given token hosts dumps inside old rule some h d same is =
    subst (λ (t : Option Token). carried name kind now t old ≡ Err rule) (sym some) (opening_broken name kind now token old rule
    (subst (λ (o : Office). repeated_at name token o.hosts o.dumps ≡ Err rule) same
    (subst (λ (ds : List Dump). repeated_at name token inside.hosts ds ≡ Err rule) d
    (subst (λ (hs : List Host). repeated_at name token hs dumps ≡ Err rule) h is))))

-- ---- puts and removals

pub place_found : (session : SessionName) (token : Token) (dumps : List Dump) (inside old : Office) (given : Option ℕ) (index : ℕ)
    → dumps ≡ inside.dumps → inside ≡ old → given ≡ Some index → place_for session token dumps ≡ Ok given
    → place_for session token old.dumps ≡ Ok (Some index)
place_found session token dumps inside old given index d same some is =
    subst (λ (o : Office). place_for session token o.dumps ≡ Ok (Some index)) same
    (subst (λ (ds : List Dump). place_for session token ds ≡ Ok (Some index)) d
    (subst (λ (g : Option ℕ). place_for session token dumps ≡ Ok g) some is))

module _ (session : SessionName) (token : Token) (old left : Office) (rest : Judged Carried) where
  pub first_steps : (index : ℕ) (reply : Reply) (new : Office) → place_for session token old.dumps ≡ Ok (Some index)
      → IsMemoryStep (kept_by index token rest) old reply new → IsMemoryStep (once session (Some token) old.dumps left rest) old reply new
  first_steps index reply new place step =
      subst (λ (j : Judged Carried). IsMemoryStep j old reply new)
      (sym (once_turned session token old.dumps left rest ∙ ap (λ (p : Judged (Option ℕ)). p >>= turned left token rest) place)) step

-- what a repeated put drops
pub again_sound : (office : Office) (stage : Judged (At Stage)) (stages : List Stage) → IsSound office
    → stages ≡ PutEvent.without_stage stage office.stages → IsSound (with_stages office stages)
again_sound office (Err rule) stages sound is = subst (λ (ss : List Stage). IsSound (with_stages office ss)) (sym is) sound
again_sound office (Ok stage) stages sound is =
    subst (λ (ss : List Stage). IsSound (with_stages office ss)) (sym is) (IsSound-stage_removed office stage.index sound)

-- the tokens that the dump at its place is to keep
pub more_kept : (was old : Office) (token : Token) (index : ℕ) (dump : Dump) (own kept : List Token) (place : IsPlace token old.dumps index)
    → was ≡ old → dump ≡ get_or was.dumps index dump → own ≡ dump.kept → kept ≡ own ++ token ∷ [] → kept ≡ place.dump.kept ++ token ∷ []
more_kept was old token index dump own kept place same at own_is is =
    let there : slice_get was.dumps index ≡ Some place.dump = ap (λ (o : Office). slice_get o.dumps index) same ∙ place.is_dump in
    let found : dump ≡ place.dump = at ∙ get_or_from_slice_get was.dumps index place.dump dump there in
    is ∙ ap (λ (ks : List Token). ks ++ token ∷ []) (own_is ∙ ap (λ (d : Dump). d.kept) found)

abbrev made_as : Answer → Office → Judged Carried
made_as answer office = Ok (record { answer = answer; after = office })

-- the dump at its place keeps the token after an Ok, which left those that are kept
module _ (old inside mid : Office) (token : Token) (index : ℕ) (kept : List Token) (dumps : List Dump) (same : inside ≡ mid)
    (place : IsPlace token old.dumps index) (same_kept : SameKept old.dumps mid.dumps) (more : kept ≡ place.dump.kept ++ token ∷ [])
    (kept_there : ((dump : Dump) → slice_get inside.dumps index ≡ Some dump → kept ≡ dump.kept ++ token ∷ []) → dumps ≡ kept_at index token inside.dumps)
  where
    same_inside : SameKept old.dumps inside.dumps
    same_inside = subst (λ (o : Office). SameKept old.dumps o.dumps) (sym same) same_kept

    dumps_are : dumps ≡ kept_at index token inside.dumps
    dumps_are = kept_there (kept_is token old.dumps inside.dumps index place same_inside kept more)

    pub keeping_sound : IsSound inside → IsSound (with_dumps inside dumps)
    keeping_sound sound = subst (λ (ds : List Dump). IsSound (with_dumps inside ds)) (sym dumps_are)
        (IsSound-kept inside index token sound (may_keep token old.dumps inside.dumps index place same_inside))

    pub keeping_steps : (rest : Judged Carried) (answer : Answer) → rest ≡ Ok (record { answer = answer; after = mid })
        → kept_by index token rest ≡ Ok (record { answer = answer; after = with_dumps inside dumps })
    keeping_steps rest answer judged = ap (kept_by index token) (judged ∙ ap (made_as answer) (sym same))
        ∙ ap (λ (ds : List Dump). made_as answer (with_dumps inside ds)) (sym dumps_are)

-- what a put leaves of the tokens
pub put_kept : (session : SessionName) (path : List ℕ) (item : PutItem) (full : Bool) (office : Office) (c : Carried)
    → put_where session path item full office ≡ Ok c → SameKept office.dumps c.after.dumps
put_kept session path (Whole item) full office c e =
    let a = bound (PutEvent.with_put is_large session path item full office.dumps) _ c e in
    let made : Carried = record { answer = Done; after = with_dumps office a.0 } in
    let same : made ≡ c = let f = a.2 in cc in
    subst (λ (x : Carried). SameKept office.dumps x.after.dumps) same (kept-with_put is_large session path item full office.dumps a.0 a.1)
put_kept session path (Staged file) full office c e =
    let a = bound (PutEvent.with_staged session path file full office.dumps office.stages) _ c e in
    let may = may_put_stage session path file full office.dumps office.stages a.0 a.1 in
    let made : Carried = record { answer = Done; after = with_stages (with_dumps office a.0.dumps) a.0.stages } in
    let same : made ≡ c = let f = a.2 in cc in
    subst (λ (x : Carried). SameKept office.dumps x.after.dumps) same
    (kept-with_put PutEvent.is_over session path (PutEvent.staged_item file may.stage.bytes) full office.dumps a.0.dumps may.put)
