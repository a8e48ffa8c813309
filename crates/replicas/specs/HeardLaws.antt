-- What of the other server's history a pull heard, one call after the other, and what a restore gave it.
use Rattle.std.specs.Prelude.{◌≡◌, ℕ, Bool, true, false, List, [], ◌∷◌, ◌++◌, Option, Some, None, IfSome, Ok, slice_get, if◌then◌else◌}
use Rattle.std.proofs.Common.{refl, sym, ap, ◌∙◌, subst, append_assoc}
use Rattle.backup_rules.specs.declared.lines.Line.{Line}
use Rattle.receipts.specs.declared.session.SessionName.{SessionName}
use Rattle.tree_frames.specs.declared.nodes.Frame.{Frame}
use Rattle.office_model.specs.declared.event.Event.TheVariants as E
use Rattle.office_model.specs.declared.answer.Answer.TheVariants as A
use Rattle.office_model.specs.Office.{Office, Names}
use Rattle.office_model.specs.UsedNames.{AreSound}
use Rattle.office_model.specs.Step.{Call, State, Running}
use Rattle.office_model.specs.History.{Entry, IsHistory, calls_of}
use Rattle.office_model.specs.laws.Lookups.{session_itself}
use Rattle.restore_histories.specs.Given.{given_by, given_in, GivesBackup, Lists}
use Rattle.restore_histories.specs.OpenedLaws.{opened_is_listed}
use Rattle.replicas.specs.Replicas.{Marked, all_in, own_in, AreAlone}
use Rattle.replicas.specs.ListLaws.{heads}

-- ---- calls and frames of two parts

pub all_in-append : (xs ys : Marked) → all_in (xs ++ ys) ≡ all_in xs ++ all_in ys
all_in-append [] ys = refl
all_in-append (x ∷ xs) ys = ap (λ calls. x.1 ∷ calls) (all_in-append xs ys)

pub given_in-append : (restore : SessionName) (xs ys : List Call) → given_in restore (xs ++ ys) ≡ given_in restore xs ++ given_in restore ys
given_in-append restore [] ys = refl
given_in-append restore (x ∷ xs) ys =
    ap (λ frames. given_by restore x.0 x.1 ++ frames) (given_in-append restore xs ys)
    ∙ sym (append_assoc (given_by restore x.0 x.1) (given_in restore xs) (given_in restore ys))

pub given_one : (restore : SessionName) (frame : Frame) (calls : List Call)
    → given_in restore ((E.ReadNext restore, Ok (A.Next frame)) ∷ calls) ≡ frame ∷ given_in restore calls
given_one restore frame calls = ap (λ (b : Bool). (if b then frame ∷ [] else []) ++ given_in restore calls) (session_itself restore)

-- ---- the next call that was heard

pub record Next (marked : Marked) (call : Call) (own : List Call) : Type 0 where
  pub others : Marked
  pub rest : Marked
  pub are : marked ≡ others ++ (true, call) ∷ rest
  pub own_is : own_in rest ≡ own
  pub alone : AreAlone rest
  pub quiet : (restore : SessionName) (frame : Frame) (more : List Frame) → given_in restore (call ∷ own) ≡ frame ∷ more
      → given_in restore (all_in others) ≡ []

pub next_own : (marked : Marked) (call : Call) (own : List Call) → own_in marked ≡ call ∷ own → AreAlone marked → Next marked call own
next_own [] call own e alone = absurd (cc)
next_own ((true, first) ∷ marked) call own e alone =
    let w = heads first call (own_in marked) own e in
    record {
      others = [];
      rest = marked;
      are = ap (λ (c : Call). (true, c) ∷ marked) w.0;
      own_is = w.1;
      alone = alone;
      quiet = λ restore frame more f. refl;
    }
next_own ((false, first) ∷ marked) call own e alone =
    let n = next_own marked call own e alone.1 in
    record {
      others = (false, first) ∷ n.others;
      rest = n.rest;
      are = ap (λ (m : Marked). (false, first) ∷ m) n.are;
      own_is = n.own_is;
      alone = n.alone;
      quiet = λ restore frame more f.
          let none : given_by restore first.0 first.1 ≡ [] = alone.0 restore frame more (ap (given_in restore) e ∙ f) in
          ap (λ frames. frames ++ given_in restore (all_in n.others)) none ∙ n.quiet restore frame more f;
    }

-- the first one, if none of others comes before it
pub record Begun (marked : Marked) (call : Call) (own : List Call) : Type 0 where
  pub rest : Marked
  pub are : marked ≡ (true, call) ∷ rest
  pub own_is : own_in rest ≡ own
  pub alone : AreAlone rest

is_own : Option (Bool × Call) → Bool
is_own None = true
is_own (Some marked) = marked.0

pub begun : (marked : Marked) (call : Call) (own : List Call) → own_in marked ≡ call ∷ own → AreAlone marked
    → slice_get marked 0 ≡ Some (true, call) → Begun marked call own
unfolding is_own
begun [] call own e alone at = absurd (cc)
begun ((true, first) ∷ marked) call own e alone at =
    let w = heads first call (own_in marked) own e in
    record { rest = marked; are = ap (λ (c : Call). (true, c) ∷ marked) w.0; own_is = w.1; alone = alone }
begun ((false, first) ∷ marked) call own e alone at = let f : false ≡ true = ap is_own at in absurd (cc)

-- ---- a history in parts

record Cut (entries : List Entry) (xs ys : List Call) : Type 0 where
  pub a : List Entry
  pub b : List Entry
  pub are : entries ≡ a ++ b
  pub a_is : calls_of a ≡ xs
  pub b_is : calls_of b ≡ ys

cut : (entries : List Entry) (xs ys : List Call) → calls_of entries ≡ xs ++ ys → Cut entries xs ys
cut entries [] ys e = record { a = []; b = entries; are = refl; a_is = refl; b_is = e }
cut [] (x ∷ xs) ys e = absurd (cc)
cut (entry ∷ entries) (x ∷ xs) ys e =
    let w = heads (entry.event, entry.reply) x (calls_of entries) (xs ++ ys) e in
    let c = cut entries xs ys w.1 in
    record {
      a = entry ∷ c.a;
      b = c.b;
      are = ap (λ (es : List Entry). entry ∷ es) c.are;
      a_is = λ i. w.0 i ∷ c.a_is i;
      b_is = c.b_is;
    }

record CutFirst (entries : List Entry) (x : Call) (xs : List Call) : Type 0 where
  pub first : Entry
  pub rest : List Entry
  pub are : entries ≡ first ∷ rest
  pub call_is : (first.event, first.reply) ≡ x
  pub rest_is : calls_of rest ≡ xs

cut_first : (entries : List Entry) (x : Call) (xs : List Call) → calls_of entries ≡ x ∷ xs → CutFirst entries x xs
cut_first [] x xs e = absurd (cc)
cut_first (entry ∷ entries) x xs e =
    let w = heads (entry.event, entry.reply) x (calls_of entries) xs e in
    record { first = entry; rest = entries; are = refl; call_is = w.0; rest_is = w.1 }

front_legal : (state : State) (faults : ℕ) (xs ys : List Entry) → IsHistory state faults (xs ++ ys) → IsHistory state faults xs
front_legal state faults [] ys legal = tt
front_legal state faults (x ∷ xs) ys legal = (legal.0, front_legal x.state x.faults xs ys legal.1)

whole : (all : List Entry) (x : Entry) (rest xs ys : List Entry) (y : Entry) (zs : List Entry) → all ≡ x ∷ rest → rest ≡ xs ++ ys → ys ≡ y ∷ zs
    → all ≡ x ∷ (xs ++ y ∷ zs)
whole all x rest xs ys y zs a b c = a ∙ ap (λ (es : List Entry). x ∷ es) (b ∙ ap (λ (es : List Entry). xs ++ es) c)

-- what a restore gave that was opened behind the listing is the listed backup
module _ (first : Office) (names : Names) (name : List ℕ) (lines : List Line) (next : ℕ) (dump : Option SessionName) (place : ℕ) (line : Line)
    (base : Option ℕ) (restore : SessionName) where
  abbrev Gives : List Call → Type 0
  Gives since = (gives : GivesBackup first.hosts name line.number base (given_in restore since)) × (gives.backup.line ≡ line)

  gives_by : (faults : ℕ) (all : List Entry) (asking : Entry) (xs : List Entry) (opening : Entry) (ys : List Entry) → AreSound first names
      → IsHistory (Running first names) faults all → all ≡ asking ∷ (xs ++ opening ∷ ys)
      → ◌≡◌ {A = Call} (asking.event, asking.reply) (E.Backups name, Ok (A.Backups lines next dump))
      → ◌≡◌ {A = Call} (opening.event, opening.reply) (E.OpenRead name line.number base, Ok (A.Restore restore))
      → slice_get lines place ≡ Some line → IfSome base (Lists lines) → Gives (calls_of ys)
  gives_by faults all asking xs opening ys sound legal are asked opened at listed =
      opened_is_listed first names faults asking xs opening ys name lines next dump place line base restore sound
      (subst (IsHistory (Running first names) faults) are legal)
      (ap (λ (x : Call). x.0) asked) (ap (λ (x : Call). x.1) asked) at listed (ap (λ (x : Call). x.0) opened) (ap (λ (x : Call). x.1) opened)

  pub opened_gives : (faults : ℕ) (entries : List Entry) (between since more : List Call) → AreSound first names
      → IsHistory (Running first names) faults entries
      → calls_of entries ≡ ((E.Backups name, Ok (A.Backups lines next dump))
      ∷ (between ++ (E.OpenRead name line.number base, Ok (A.Restore restore)) ∷ since)) ++ more
      → slice_get lines place ≡ Some line → IfSome base (Lists lines)
      → (gives : GivesBackup first.hosts name line.number base (given_in restore since)) × (gives.backup.line ≡ line)
  opened_gives faults entries between since more sound legal calls_are at listed =
      let asking : Call = (E.Backups name, Ok (A.Backups lines next dump)) in
      let opening : Call = (E.OpenRead name line.number base, Ok (A.Restore restore)) in
      let w = cut entries (asking ∷ (between ++ opening ∷ since)) more calls_are in
      let a = cut_first w.a asking (between ++ opening ∷ since) w.a_is in
      let b = cut a.rest between (opening ∷ since) a.rest_is in
      let c = cut_first b.b opening since b.b_is in
      subst Gives c.rest_is
      (gives_by faults w.a a.first b.a c.first c.rest sound
      (front_legal (Running first names) faults w.a w.b (subst (IsHistory (Running first names) faults) w.are legal))
      (whole w.a a.first a.rest b.a b.b c.first c.rest a.are b.are c.are) a.call_is c.call_is at listed)
