-- The steps of a dump: its opening, its base, its puts, its commit, and an abort.
use Rattle.std.specs.Prelude.{◌≡◌, ℕ, List, [], ◌∷◌, ◌++◌, Option, Some, None, Ok, Err}
use Rattle.std.proofs.Common.{refl, sym, ap, ◌∙◌, subst, inl, inr, append_assoc}
use Rattle.std.proofs.lemmas.List.{append-nil, map-append}
use Rattle.attr_records.specs.Items.{Tree}
use Rattle.backup_rules.specs.declared.lines.Line.{Line}
use Rattle.backup_rules.specs.declared.lines.Kind.{Kind}
use Rattle.backup_rules.specs.declared.lines.Kind.TheVariants.{Full, Incr}
use Rattle.stream_traits.specs.Moments.{first_moment, after_reading}
use Rattle.receipts.specs.declared.session.SessionName.{SessionName}
use Rattle.office_model.specs.declared.event.Event.TheVariants as E
use Rattle.office_model.specs.declared.answer.Answer.TheVariants as A
use Rattle.office_model.specs.declared.refusal.Refusal.{Refusal}
use Rattle.office_model.specs.Meaning.{Reply}
use Rattle.office_model.specs.Step.{Call}
use Rattle.call_scripts.specs.Scripts.{Script, each_then, each_of, AreAnswered, Begins}
use Rattle.call_scripts.specs.ScriptLaws.{AreAnswered-append, EndRefused-append}
use Rattle.call_scripts.specs.Moments.{Gave}
use Rattle.folder_laws.specs.Calls.{open_call, already_call, ArePuts, remove_call, remove_calls, commit_call}
use Rattle.folder_laws.specs.Compares.{root}
use Rattle.folder_laws.specs.Lists.{AreLists, AreRemovals, backups_call, last_line}
use Rattle.folder_laws.specs.DumpScript.{puts_script, remove_events, list_script, removal_script, base_script}
use Rattle.folder_laws.specs.DumpScriptLaws.{AreAnswered-removes, begins_puts, begins_lists, begins_base}
use Rattle.folder_walk.specs.declared.refusals.DumpRefusal.{DumpRefusal}
use Rattle.folder_walk.specs.declared.refusals.DumpRefusal.TheVariants as D
use Rattle.folder_walk.specs.Causes.{refusal_of}
use Rattle.folder_walk.specs.Events.{AreOfDump}
use Rattle.folder_walk.specs.Puts.{AnsweredOr, IsRefusedCall, IsCallFault, PutsAll}
use Rattle.folder_walk.specs.Bases.{IsFailedWith, IsFailedCall, number_of, LastAsked, ListsDone, ListsStop, RemovesAll, MakesBase}
use Rattle.folder_walk.specs.Dumps.{Fills, Dumped, Stopped}
use Rattle.folder_walk.proofs.EventLaws.{AreOfDump-append, AreOfDump-removes}
use Rattle.folder_walk.proofs.WalkSteps.{AnsweredOr-behind}

-- ---- puts and removals begin their script

-- all puts, and a commit that was refused
begins_commit : (dump : SessionName) (tree : Tree) (puts : List Call) (moment : ℕ) (refusal : Refusal) → ArePuts dump tree puts
    → Begins (puts_script dump tree (each_of (E.Commit dump moment ∷ []))) (puts ++ (E.Commit dump moment, Err refusal) ∷ [])
begins_commit dump tree puts moment refusal are =
    begins_puts dump tree puts (each_of (E.Commit dump moment ∷ [])) ((E.Commit dump moment, Err refusal) ∷ []) are (refl, tt)

-- removals of the first paths, and one that was refused
begins_removes : (dump : SessionName) (done : List (List ℕ)) (path : List ℕ) (more : List (List ℕ)) (refusal : Refusal) (next : Script)
    → Begins (each_then (remove_events dump (done ++ path ∷ more)) next) (remove_calls dump done ++ (E.Remove dump path None, Err refusal) ∷ [])
begins_removes dump [] path more refusal next = (refl, tt)
begins_removes dump (first ∷ done) path more refusal next = (refl, begins_removes dump done path more refusal next)

module _ {P : Type 0} (moves : P → List Call → P → Type 0) (joined : (p q r : P) (xs ys : List Call) → moves p xs q → moves q ys r → moves p (xs ++ ys) r)
    (dump : SessionName) where
  pub removed_more : (old mid new : P) (done : List (List ℕ)) (path : List ℕ) → moves old (remove_calls dump done) mid
      → moves mid (remove_call dump path ∷ []) new → moves old (remove_calls dump (done ++ path ∷ [])) new
  removed_more old mid new done path before one =
      subst (λ cs. moves old cs new) (sym (map-append (remove_call dump) done (path ∷ [])))
      (joined old mid new (remove_calls dump done) (remove_call dump path ∷ []) before one)

  pub removed_all : (old new : P) (gone done rest : List (List ℕ)) → done ++ rest ≡ gone → rest ≡ [] → moves old (remove_calls dump done) new
      → RemovesAll moves old new dump gone (Ok tt)
  removed_all old new gone done rest split bare moved = record {
    calls = remove_calls dump done;
    moved = moved;
    ends = ap (remove_calls dump) (sym (append-nil done) ∙ ap (λ xs. done ++ xs) (sym bare) ∙ split);
  }

  -- the removal of a path was refused
  pub removed_part : (old mid new : P) (gone done : List (List ℕ)) (path : List ℕ) (more : List (List ℕ)) (fault : DumpRefusal)
      → done ++ path ∷ more ≡ gone → moves old (remove_calls dump done) mid → IsCallFault moves mid new (E.Remove dump path None) fault
      → RemovesAll moves old new dump gone (Err fault)
  removed_part old mid new gone done path more fault split before failed = step (refusal_of fault) refl failed
    where
      step : (o : Option Refusal) → refusal_of fault ≡ o → IsRefusedCall moves mid new (E.Remove dump path None) o
          → RemovesAll moves old new dump gone (Err fault)
      step None is refused = absurd refused
      step (Some refusal) is refused = record {
        calls = remove_calls dump done ++ (E.Remove dump path None, Err refusal) ∷ [];
        moved = joined old mid new (remove_calls dump done) ((E.Remove dump path None, Err refusal) ∷ []) before refused;
        ends = (done, path, more, refusal, sym split, is, refl);
      }

-- ---- the base

module _ {P : Type 0} (moves : P → List Call → P → Type 0) (joined : (p q r : P) (xs ys : List Call) → moves p xs q → moves q ys r → moves p (xs ++ ys) r)
    (none : (p : P) → moves p [] p) (told : Option Tree) (host : List ℕ) (dump : SessionName) where
  -- a full one's
  pub base_full : (port : P) → MakesBase moves port port told Full host dump (Ok tt)
  base_full port = record { calls = []; moved = none port; so = tt; of_dump = tt; ends = λ tree is is_tree. refl }

  -- the backups weren't told
  pub base_unasked : (old new : P) (fault : DumpRefusal) → IsFailedCall moves old new (E.Backups host) fault
      → MakesBase moves old new told Incr host dump (Err fault)
  base_unasked old new fault failed = step (refusal_of fault) refl failed
    where
      step : (o : Option Refusal) → refusal_of fault ≡ o → IsFailedWith moves old new (E.Backups host) o
          → MakesBase moves old new told Incr host dump (Err fault)
      step None is moved = record {
        calls = [];
        moved = moved;
        so = subst (λ (r : Option Refusal). AnsweredOr r []) (sym is) tt;
        of_dump = tt;
        ends = λ tree here is_tree next. tt;
      }
      step (Some refusal) is moved = record {
        calls = (E.Backups host, Err refusal) ∷ [];
        moved = moved;
        so = subst (λ (r : Option Refusal). AnsweredOr r ((E.Backups host, Err refusal) ∷ [])) (sym is) (refl, refl);
        of_dump = (tt, tt);
        ends = λ tree here is_tree next. (refl, tt);
      }

  -- there is no last backup
  pub base_bare : (old new : P) → LastAsked moves old new host None → MakesBase moves old new told Incr host dump (Ok tt)
  base_bare old new asked = record {
    calls = backups_call host asked.lines asked.next asked.dump ∷ [];
    moved = asked.moved;
    so = tt;
    of_dump = (tt, tt);
    ends = λ tree is is_tree. (asked.lines, asked.next, asked.dump, [], step tree (last_line asked.lines) asked.last_is, refl);
  }
    where
      step : (tree : Tree) (o : Option Line) → None ≡ number_of o → AreRemovals tree host dump o []
      step tree None e = refl
      step tree (Some line) e = absurd (cc)

  -- what begins the script of a base whose last backup has this number
  begins_asked : (tree : Tree) (lines : List Line) (following : ℕ) (other : Option SessionName) (number : ℕ) (calls : List Call) (next : Script)
      → Some number ≡ number_of (last_line lines)
      → Begins (list_script tree host number dump next (root ∷ []) []) calls
      → Begins (base_script Incr tree host dump next) (backups_call host lines following other ∷ calls)
  begins_asked tree lines following other number calls next is begins = (refl, step (last_line lines) is)
    where
      step : (o : Option Line) → Some number ≡ number_of o → Begins (removal_script tree host dump next o) calls
      step None e = absurd (cc)
      step (Some line) e =
          let same : number ≡ line.number = cc in
          subst (λ n. Begins (list_script tree host n dump next (root ∷ []) []) calls) same begins

  -- the listings stopped
  pub base_unlisted : (old mid new : P) (number : ℕ) (fault : DumpRefusal) → LastAsked moves old mid host (Some number)
      → ListsStop moves mid new told host number fault → MakesBase moves old new told Incr host dump (Err fault)
  base_unlisted old mid new number fault asked stop = record {
    calls = backups_call host asked.lines asked.next asked.dump ∷ stop.calls;
    moved = joined old mid new (backups_call host asked.lines asked.next asked.dump ∷ []) stop.calls asked.moved stop.moved;
    so = AnsweredOr-behind (refusal_of fault) (backups_call host asked.lines asked.next asked.dump ∷ []) stop.calls tt stop.so;
    of_dump = (tt, stop.of_dump);
    ends = λ tree is is_tree next.
        begins_asked tree asked.lines asked.next asked.dump number stop.calls next asked.last_is (stop.begins tree is is_tree dump next);
  }

  pub base_removed : (old mid listed new : P) (number : ℕ) (gone : List (List ℕ)) → LastAsked moves old mid host (Some number)
      → ListsDone moves mid listed told host number gone → RemovesAll moves listed new dump gone (Ok tt)
      → MakesBase moves old new told Incr host dump (Ok tt)
  base_removed old mid listed new number gone asked lists removes = record {
    calls = backups_call host asked.lines asked.next asked.dump ∷ (lists.calls ++ removes.calls);
    moved = joined old mid new (backups_call host asked.lines asked.next asked.dump ∷ []) (lists.calls ++ removes.calls) asked.moved
        (joined mid listed new lists.calls removes.calls lists.moved removes.moved);
    so = AreAnswered-append lists.calls removes.calls lists.answered
        (subst AreAnswered (sym removes.ends) (AreAnswered-removes dump gone));
    of_dump = (
      tt,
      AreOfDump-append lists.calls removes.calls lists.of_dump (subst AreOfDump (sym removes.ends) (AreOfDump-removes dump gone)),
    );
    ends = λ tree is is_tree.
        (asked.lines, asked.next, asked.dump, lists.calls ++ removes.calls, step tree (last_line asked.lines) asked.last_is (lists.are tree is is_tree), refl);
  }
    where
      step : (tree : Tree) (o : Option Line) → Some number ≡ number_of o → AreLists tree host number (root ∷ []) [] lists.calls [] gone
          → AreRemovals tree host dump o (lists.calls ++ removes.calls)
      step tree None e are = absurd (cc)
      step tree (Some line) e are =
          let same : number ≡ line.number = cc in (
            lists.calls,
            gone,
            subst (λ n. AreLists tree host n (root ∷ []) [] lists.calls [] gone) same are,
            ap (λ cs. lists.calls ++ cs) removes.ends,
          )

  pub base_unremoved : (old mid listed new : P) (number : ℕ) (gone : List (List ℕ)) (fault : DumpRefusal) → LastAsked moves old mid host (Some number)
      → ListsDone moves mid listed told host number gone → RemovesAll moves listed new dump gone (Err fault)
      → MakesBase moves old new told Incr host dump (Err fault)
  base_unremoved old mid listed new number gone fault asked lists removes =
      step removes.ends.0 removes.ends.1 removes.ends.2 removes.ends.3 removes.ends.4 removes.ends.5 removes.ends.6
    where
      step : (done : List (List ℕ)) (path : List ℕ) (more : List (List ℕ)) (refusal : Refusal) → gone ≡ done ++ path ∷ more
          → refusal_of fault ≡ Some refusal → removes.calls ≡ remove_calls dump done ++ (E.Remove dump path None, Err refusal) ∷ []
          → MakesBase moves old new told Incr host dump (Err fault)
      step done path more refusal split is calls_are = record {
        calls = backups_call host asked.lines asked.next asked.dump ∷ (lists.calls ++ removes.calls);
        moved = joined old mid new (backups_call host asked.lines asked.next asked.dump ∷ []) (lists.calls ++ removes.calls) asked.moved
            (joined mid listed new lists.calls removes.calls lists.moved removes.moved);
        so = AnsweredOr-behind (refusal_of fault) (backups_call host asked.lines asked.next asked.dump ∷ []) (lists.calls ++ removes.calls) tt
            (AnsweredOr-behind (refusal_of fault) lists.calls removes.calls lists.answered
            (subst (λ (r : Option Refusal). AnsweredOr r removes.calls) (sym is)
            (subst (λ cs. AnsweredOr (Some refusal) cs) (sym calls_are)
            (EndRefused-append (remove_calls dump done) ((E.Remove dump path None, Err refusal) ∷ []) refusal (AreAnswered-removes dump done) (refl, refl)))));
        of_dump = (
          tt,
          AreOfDump-append lists.calls removes.calls lists.of_dump
              (subst AreOfDump (sym calls_are)
              (AreOfDump-append (remove_calls dump done) ((E.Remove dump path None, Err refusal) ∷ []) (AreOfDump-removes dump done) (tt, tt))),
        );
        ends = λ tree here is_tree next.
            begins_asked tree asked.lines asked.next asked.dump number (lists.calls ++ removes.calls) next asked.last_is
            (begins_lists tree host number dump next lists.calls (root ∷ []) [] [] gone removes.calls (lists.are tree here is_tree)
            (subst (λ cs. Begins (each_then (remove_events dump gone) next) cs) (sym calls_are)
            (subst (λ paths. Begins (each_then (remove_events dump paths) next) (remove_calls dump done ++ (E.Remove dump path None, Err refusal) ∷ []))
            (sym split) (begins_removes dump done path more refusal next))));
      }

  -- ---- an open dump

  module _ (kind : Kind) (moments : Option (List ℕ)) where
    pub unbased : (old new : P) (fault : DumpRefusal) → MakesBase moves old new told kind host dump (Err fault)
        → Fills moves old new told moments moments kind host dump (Err fault)
    unbased old new fault base = record {
      later = [];
      calls = base.calls;
      clock = refl;
      moved = base.moved;
      so = base.so;
      of_dump = base.of_dump;
      ends = λ tree is is_tree. base.ends tree is is_tree (puts_script dump tree (each_of []));
    }

    pub unput : (old based new : P) (fault : DumpRefusal) → MakesBase moves old based told kind host dump (Ok tt)
        → PutsAll moves based new told dump (Err fault) → Fills moves old new told moments moments kind host dump (Err fault)
    unput old based new fault base puts = record {
      later = [];
      calls = base.calls ++ puts.calls;
      clock = refl;
      moved = joined old based new base.calls puts.calls base.moved puts.moved;
      so = AnsweredOr-behind (refusal_of fault) base.calls puts.calls base.so puts.so;
      of_dump = AreOfDump-append base.calls puts.calls base.of_dump puts.of_dump;
      ends = λ tree is is_tree.
          begins_base kind tree host dump (puts_script dump tree (each_of [])) base.calls puts.calls (base.ends tree is is_tree)
          (puts.puts tree is is_tree (each_of []));
    }

    pub uncommitted : (old based filled new : P) (moment : ℕ) (moments' : Option (List ℕ)) (fault : DumpRefusal)
        → MakesBase moves old based told kind host dump (Ok tt) → PutsAll moves based filled told dump (Ok tt)
        → Gave moments (moment ∷ []) moments' → IsCallFault moves filled new (E.Commit dump moment) fault
        → Fills moves old new told moments moments' kind host dump (Err fault)
    uncommitted old based filled new moment moments' fault base puts clock failed = step (refusal_of fault) refl failed
      where
        step : (o : Option Refusal) → refusal_of fault ≡ o → IsRefusedCall moves filled new (E.Commit dump moment) o
            → Fills moves old new told moments moments' kind host dump (Err fault)
        step None is refused = absurd refused
        step (Some refusal) is refused = record {
          later = moment ∷ [];
          calls = base.calls ++ (puts.calls ++ (E.Commit dump moment, Err refusal) ∷ []);
          clock = clock;
          moved = joined old based new base.calls (puts.calls ++ (E.Commit dump moment, Err refusal) ∷ []) base.moved
              (joined based filled new puts.calls ((E.Commit dump moment, Err refusal) ∷ []) puts.moved refused);
          so = AnsweredOr-behind (refusal_of fault) base.calls (puts.calls ++ (E.Commit dump moment, Err refusal) ∷ []) base.so
              (AnsweredOr-behind (refusal_of fault) puts.calls ((E.Commit dump moment, Err refusal) ∷ []) puts.so
              (subst (λ (r : Option Refusal). AnsweredOr r ((E.Commit dump moment, Err refusal) ∷ [])) (sym is) (refl, refl)));
          of_dump = AreOfDump-append base.calls (puts.calls ++ (E.Commit dump moment, Err refusal) ∷ []) base.of_dump
              (AreOfDump-append puts.calls ((E.Commit dump moment, Err refusal) ∷ []) puts.of_dump (tt, tt));
          ends = λ tree here is_tree.
              begins_base kind tree host dump (puts_script dump tree (each_of (E.Commit dump moment ∷ []))) base.calls
              (puts.calls ++ (E.Commit dump moment, Err refusal) ∷ []) (base.ends tree here is_tree)
              (begins_commit dump tree puts.calls moment refusal (puts.puts tree here is_tree));
        }

    pub filled_up : (old based filled new : P) (moment number : ℕ) (moments' : Option (List ℕ))
        → MakesBase moves old based told kind host dump (Ok tt) → PutsAll moves based filled told dump (Ok tt)
        → Gave moments (moment ∷ []) moments' → moves filled (commit_call dump moment number ∷ []) new
        → Fills moves old new told moments moments' kind host dump (Ok number)
    filled_up old based filled new moment number moments' base puts clock moved = record {
      later = moment ∷ [];
      calls = base.calls ++ (puts.calls ++ commit_call dump moment number ∷ []);
      clock = clock;
      moved = joined old based new base.calls (puts.calls ++ commit_call dump moment number ∷ []) base.moved
          (joined based filled new puts.calls (commit_call dump moment number ∷ []) puts.moved moved);
      so = AreAnswered-append base.calls (puts.calls ++ commit_call dump moment number ∷ []) base.so
          (AreAnswered-append puts.calls (commit_call dump moment number ∷ []) puts.so tt);
      of_dump = AreOfDump-append base.calls (puts.calls ++ commit_call dump moment number ∷ []) base.of_dump
          (AreOfDump-append puts.calls (commit_call dump moment number ∷ []) puts.of_dump (tt, tt));
      ends = λ tree is is_tree. (base.calls, puts.calls, moment, base.ends tree is is_tree, puts.puts tree is is_tree, refl, refl);
    }

-- ---- the whole

module _ {P : Type 0} (moves : P → List Call → P → Type 0) (joined : (p q r : P) (xs ys : List Call) → moves p xs q → moves q ys r → moves p (xs ++ ys) r)
    (told : Option Tree) (host : List ℕ) (kind : Kind) (now : ℕ) (moments opened_at moments' : Option (List ℕ)) where
  abbrev IsFirst : Type 0
  IsFirst = ((ahead : List ℕ) → moments ≡ Some ahead → now ≡ first_moment ahead) × (opened_at ≡ after_reading moments)

  pub dumped : (old opened new : P) (dump : SessionName) (number : ℕ) → IsFirst → moves old (open_call host kind now dump ∷ []) opened
      → Fills moves opened new told opened_at moments' kind host dump (Ok number) → Dumped moves old new told moments moments' kind host number
  dumped old opened new dump number first open_moved fills = record {
    now = now;
    later = fills.later;
    calls = open_call host kind now dump ∷ fills.calls;
    clock = (first.0, subst (λ m. Gave m fills.later moments') first.1 fills.clock);
    moved = joined old opened new (open_call host kind now dump ∷ []) fills.calls open_moved fills.moved;
    answered = fills.so;
    of_dump = (tt, fills.of_dump);
    whole = λ tree is is_tree.
        let e = fills.ends tree is is_tree in
        inl (record {
          moment = e.2;
          dump = dump;
          base = e.0;
          puts = e.1;
          is_base = e.3;
          are_puts = e.4;
          later_is = e.5;
          calls_are = ap (λ cs. open_call host kind now dump ∷ cs) e.6;
        });
  }

  -- the opening was answered with the number of a backup
  pub known : (old new : P) (number : ℕ) → IsFirst → moments' ≡ opened_at → moves old (already_call host kind now number ∷ []) new
      → Dumped moves old new told moments moments' kind host number
  known old new number first same moved = record {
    now = now;
    later = [];
    calls = already_call host kind now number ∷ [];
    clock = (first.0, same ∙ first.1);
    moved = moved;
    answered = tt;
    of_dump = (tt, tt);
    whole = λ tree is is_tree. inr (record { later_is = refl; calls_are = refl });
  }

  pub stopped : (old opened filled new : P) (dump : SessionName) (fault : DumpRefusal) (reply : Reply) → IsFirst
      → moves old (open_call host kind now dump ∷ []) opened
      → Fills moves opened filled told opened_at moments' kind host dump (Err fault) → moves filled ((E.Abort dump, reply) ∷ []) new
      → Stopped moves old new told moments moments' kind host fault
  stopped old opened filled new dump fault reply first open_moved fills aborted = record {
    now = now;
    later = fills.later;
    calls = open_call host kind now dump ∷ fills.calls;
    aborts = (E.Abort dump, reply) ∷ [];
    clock = (first.0, subst (λ m. Gave m fills.later moments') first.1 fills.clock);
    moved = joined old opened new (open_call host kind now dump ∷ []) (fills.calls ++ (E.Abort dump, reply) ∷ []) open_moved
        (joined opened filled new fills.calls ((E.Abort dump, reply) ∷ []) fills.moved aborted);
    so = AnsweredOr-behind (refusal_of fault) (open_call host kind now dump ∷ []) fills.calls tt fills.so;
    of_dump = (tt, fills.of_dump);
    aborted = (reply, refl);
    begins = λ tree is is_tree. (refl, fills.ends tree is is_tree);
  }

  pub unopened : (old new : P) (fault : DumpRefusal) → IsFirst → moments' ≡ opened_at → IsFailedCall moves old new (E.OpenDump host kind now None) fault
      → Stopped moves old new told moments moments' kind host fault
  unopened old new fault first same failed = step (refusal_of fault) refl failed
    where
      step : (o : Option Refusal) → refusal_of fault ≡ o → IsFailedWith moves old new (E.OpenDump host kind now None) o
          → Stopped moves old new told moments moments' kind host fault
      step None is moved = record {
        now = now;
        later = [];
        calls = [];
        aborts = [];
        clock = (first.0, same ∙ first.1);
        moved = moved;
        so = subst (λ (r : Option Refusal). AnsweredOr r []) (sym is) tt;
        of_dump = tt;
        aborted = refl;
        begins = λ tree here is_tree. tt;
      }
      step (Some refusal) is moved = record {
        now = now;
        later = [];
        calls = (E.OpenDump host kind now None, Err refusal) ∷ [];
        aborts = [];
        clock = (first.0, same ∙ first.1);
        moved = moved;
        so = subst (λ (r : Option Refusal). AnsweredOr r ((E.OpenDump host kind now None, Err refusal) ∷ [])) (sym is) (refl, refl);
        of_dump = (tt, tt);
        aborted = refl;
        begins = λ tree here is_tree. (refl, tt);
      }
