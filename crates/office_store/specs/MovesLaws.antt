-- The laws of `Moves`: no calls, one call, and one list of calls after another.
--     Moves-none, Moves-one, Moves-append
use Rattle.std.specs.Prelude.{◌++◌}
use Rattle.std.proofs.Common.{◌≡◌, ℕ, List, [], ◌∷◌, refl, sym, ap, ◌∙◌, subst, arith}
use Rattle.std.proofs.lemmas.List.{append_assoc}
use Rattle.disk_trait.specs.declared.disk.Disk.{Ghosts as DiskGhosts}
use Rattle.disk_trait.specs.Files.{Files}
use Rattle.pool_name.specs.declared.namer.Namer.{Ghosts as NamerGhosts}
use Rattle.journal_view.specs.ViewLaws.{FindsOnly-still, FindsOnly-then, FindsOnly-each}
use Rattle.office_model.specs.declared.event.Event.{Event}
use Rattle.office_model.specs.Meaning.{Reply}
use Rattle.office_model.specs.Step.{Call, State, IsSoundState}
use Rattle.office_model.specs.History.{Entry, Leads}
use Rattle.office_model.specs.laws.HistoryLaws.{Leads-none, Leads-one, Leads-append}
use Rattle.office_model.specs.laws.StateLaws.{IsSoundState-step}
use Rattle.office_store.specs.declared.store.Store.{Store}
use Rattle.office_store.specs.Serves.{MayRecover, Serves}
use Rattle.office_store.specs.Moves.{AreServed, MayRecoverIn, Goes, Moves}

-- ---- a crash during one of two lists of calls

in_first : (digest_of : List ℕ → List ℕ) (state : State) (faults : ℕ) (xs ys : List Call) (found : Files)
    → MayRecoverIn digest_of state faults xs found → MayRecoverIn digest_of state faults (xs ++ ys) found
in_first digest_of state faults xs ys found r = record {
  before = r.before;
  call = r.call;
  after = r.after ++ ys;
  calls_are = ap (λ calls. calls ++ ys) r.calls_are ∙ append_assoc r.before (r.call ∷ r.after) ys;
  mid = r.mid;
  count = r.count;
  leads = r.leads;
  may = r.may;
}

in_second : (digest_of : List ℕ → List ℕ) (state mid : State) (faults count : ℕ) (xs ys : List Call) (found : Files)
    → Leads state faults xs mid count → MayRecoverIn digest_of mid count ys found → MayRecoverIn digest_of state faults (xs ++ ys) found
in_second digest_of state mid faults count xs ys found leads r = record {
  before = xs ++ r.before;
  call = r.call;
  after = r.after;
  calls_are = ap (λ calls. xs ++ calls) r.calls_are ∙ sym (append_assoc xs r.before (r.call ∷ r.after));
  mid = r.mid;
  count = r.count;
  leads = Leads-append state mid r.mid faults count r.count xs r.before leads r.leads;
  may = r.may;
}

-- ---- moves

module _ {D N S : Type 0} {d : DiskGhosts D} {n : NamerGhosts N S} where
  abbrev faults : Store D N S d n → ℕ
  faults store = d.fault_count store.parts.journal.disk

  pub Moves-none : (store : Store D N S d n) → Moves store [] store
  Moves-none store = record {
    goes = λ state at sound. record {
      next = state;
      leads = Leads-none state (faults store);
      in_state = at;
      sound = sound;
      crash = FindsOnly-still store.parts.journal (MayRecoverIn n.digest_of state (faults store) []);
    };
    later = omega arith;
    each = refl;
  }

  in_one : (old : Store D N S d n) (state : State) (event : Event) (reply : Reply) (found : Files)
      → MayRecover n.digest_of state event found → MayRecoverIn n.digest_of state (faults old) ((event, reply) ∷ []) found
  in_one old state event reply found may = record {
    before = [];
    call = (event, reply);
    after = [];
    calls_are = refl;
    mid = state;
    count = faults old;
    leads = Leads-none state (faults old);
    may = may;
  }

  pub Moves-one : (old new : Store D N S d n) (event : Event) (reply : Reply) → Serves old event reply new
      → Moves old ((event, reply) ∷ []) new
  Moves-one old new event reply serves = record {
    goes = λ state at sound.
        let s = serves.steps state at in
        let after : IsSoundState s.next = IsSoundState-step state event reply s.next sound s.step in
        let entry : Entry = record { event = event; reply = reply; state = s.next; faults = faults new } in
        record {
          next = s.next;
          leads = Leads-one state (faults old) entry (record {
            step = s.step;
            sound = after;
            later = serves.counted.later;
            cause = serves.counted.rose;
            undamaged = s.undamaged;
          });
          in_state = s.in_state;
          sound = after;
          crash = FindsOnly-each (MayRecover n.digest_of state event)
              (MayRecoverIn n.digest_of state (faults old) ((event, reply) ∷ [])) old.parts.journal new.parts.journal
              (in_one old state event reply) (serves.crash state at);
        };
    later = serves.counted.later;
    each = (new, serves, refl);
  }

  served_append : (p q r : Store D N S d n) (xs ys : List Call) → AreServed p xs q → AreServed q ys r → AreServed p (xs ++ ys) r
  served_append p q r [] ys a b = subst (λ (s : Store D N S d n). AreServed s ys r) a b
  served_append p q r (x ∷ xs) ys a b = (a.0, a.1, served_append a.0 q r xs ys a.2 b)

  Goes-append : (p q r : Store D N S d n) (state : State) (xs ys : List Call) (a : Goes p state xs q) → Goes q a.next ys r
      → Goes p state (xs ++ ys) r
  Goes-append p q r state xs ys a b = record {
    next = b.next;
    leads = Leads-append state a.next b.next (faults p) (faults q) (faults r) xs ys a.leads b.leads;
    in_state = b.in_state;
    sound = b.sound;
    crash = FindsOnly-then (MayRecoverIn n.digest_of state (faults p) (xs ++ ys)) p.parts.journal q.parts.journal r.parts.journal
        (FindsOnly-each (MayRecoverIn n.digest_of state (faults p) xs) (MayRecoverIn n.digest_of state (faults p) (xs ++ ys))
        p.parts.journal q.parts.journal (in_first n.digest_of state (faults p) xs ys) a.crash)
        (FindsOnly-each (MayRecoverIn n.digest_of a.next (faults q) ys) (MayRecoverIn n.digest_of state (faults p) (xs ++ ys))
        q.parts.journal r.parts.journal
        (λ found r. in_second n.digest_of state a.next (faults p) (faults q) xs ys found a.leads r) b.crash);
  }

  pub Moves-append : (p q r : Store D N S d n) (xs ys : List Call) → Moves p xs q → Moves q ys r → Moves p (xs ++ ys) r
  Moves-append p q r xs ys a b = record {
    goes = λ state at sound.
        let first = a.goes state at sound in
        Goes-append p q r state xs ys first (b.goes first.next first.in_state first.sound);
    later = omega (arith, a.later, b.later);
    each = served_append p q r xs ys a.each b.each;
  }
