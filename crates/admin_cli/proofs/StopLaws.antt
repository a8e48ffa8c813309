-- Why a night of a store at work stops: no call of it breaks a rule, since its hosts are those of the office, and stay.
--     later_by, night_stops
use Rattle.std.specs.Prelude.{nat_le, bytes_eq, slice_get, slice_set, map, count_by, ◌⊎◌}
use Rattle.std.specs.List.{All, range_with_len}
use Rattle.std.proofs.Common.{◌≡◌, ℕ, zero, suc, ℤ, ◌<◌, ◌≤◌, Bool, true, false, List, [], ◌∷◌, ◌++◌, Some, Ok, Err, refl, sym, ap, ◌∙◌, subst, inl, inr, arith}
use Rattle.std.proofs.lemmas.Bool.Decides.{nat_tests}
use Rattle.std.proofs.lemmas.List.Elements.{All-nil, All-cons, All-head, All-tail, All-append, All-map, All-filter, All-weaker}
use Rattle.std.proofs.lemmas.List.FromFn.{length-range_with_len, get_or-range_with_len}
use Rattle.std.proofs.lemmas.Slice.Eq.{bytes_eq-Decides}
use Rattle.fault_counts.specs.Counts.{Rose}
use Rattle.wake_schedule.specs.Nights.{is_nightly}
use Rattle.office_model.specs.declared.event.Event.{Event}
use Rattle.office_model.specs.declared.event.Event.TheVariants as E
use Rattle.office_model.specs.declared.answer.Answer.{Answer}
use Rattle.office_model.specs.declared.answer.Answer.TheVariants as A
use Rattle.office_model.specs.declared.refusal.Refusal.{Refusal}
use Rattle.office_model.specs.declared.refusal.Refusal.TheVariants as R
use Rattle.office_model.specs.declared.refusal.BrokenRule.TheVariants.{BadBucket}
use Rattle.office_model.specs.Meaning.{Carried, Reply, Judged, breaks, ◌>>◌}
use Rattle.office_model.specs.Office.{Office, Host, Names, with_hosts, with_ids}
use Rattle.office_model.specs.Parts.{host_at}
use Rattle.office_model.specs.PlacesLaws.{position-found, position-some}
use Rattle.office_model.specs.Step.{Call, State, Running, Halted, IsMade, IsStep, meaning_of}
use Rattle.office_model.specs.History.{Entry, IsUndamaged, IsHistory, calls_of, last_faults}
use Rattle.office_model.specs.laws.IdLaws.{made_as}
use Rattle.office_model.specs.events.Hosts.{names as names_in}
use Rattle.office_model.specs.events.Expire.{named_of, without_named}
use Rattle.call_scripts.specs.Scripts.{EndRefused, FollowsAfter, Follows, each_of}
use Rattle.night_work.specs.Script.{events_after, night_buckets, night_script}
use Rattle.admin_cli.specs.Nights.{IsRefusedFor}

-- ---- which events a night may call

abbrev Has : List (List ℕ) → List ℕ → Type 0
Has [] name = ⊥
Has (x ∷ xs) name = (x ≡ name) ⊎ Has xs name

each_has : (xs : List (List ℕ)) → All (Has xs) xs
each_has [] = All-nil (Has [])
each_has (x ∷ xs) =
    All-cons (Has (x ∷ xs)) x xs (inl refl) (All-weaker (Has xs) (Has (x ∷ xs)) (λ y there. inr there) xs (each_has xs))

-- an expiry of one of these hosts, a cleaning of a bucket, a sweep; and the question for the hosts
abbrev May : List (List ℕ) → Event → Type 0
May hosts E.Hosts = Unit {0}
May hosts (E.Expire name now) = Has hosts name
May hosts (E.Clean bucket) = bucket < 16
May hosts E.Sweep = Unit {0}
May hosts _ = ⊥

abbrev EachMay : List (List ℕ) → List Call → Type 0
EachMay hosts [] = Unit {0}
EachMay hosts (call ∷ calls) = May hosts call.0 × EachMay hosts calls

-- ---- such an event breaks no rule, and the hosts stay

found_host : (hosts : List Host) (name : List ℕ) → Has (names_in hosts) name
    → (i : ℕ) × (host : Host) × (slice_get hosts i ≡ Some host) × (host.name ≡ name)
found_host [] name there = absurd there
found_host (host ∷ hosts) name (inl is) = (0, host, refl, is)
found_host (host ∷ hosts) name (inr there) = let f = found_host hosts name there in (suc f.0, f.1, f.2, f.3)

judged : (hosts : List Host) (name : List ℕ) → Has (names_in hosts) name
    → (place : ℕ) × (host : Host) × (slice_get hosts place ≡ Some host) × (host_at hosts name ≡ Ok (record { index = place; value = host }))
judged hosts name there =
    let f = found_host hosts name there in
    let s = position-some (λ (host : Host). bytes_eq host.name name) hosts f.0 f.1 f.2 ((bytes_eq-Decides f.1.name name).1 f.3) in
    let p = position-found (λ (host : Host). bytes_eq host.name name) hosts s.0 s.1 in
    (s.0, p.0, p.1, rw s.1 (rw p.1 refl))

names-set : (hosts : List Host) (i : ℕ) (host new : Host) → slice_get hosts i ≡ Some host → new.name ≡ host.name
    → names_in (slice_set hosts i new) ≡ names_in hosts
names-set [] i host new at same = refl
names-set (x ∷ hosts) zero host new at same =
    let is : x ≡ host = cc (at) in ap (λ name. name ∷ names_in hosts) (same ∙ sym (ap (λ (h : Host). h.name) is))
names-set (x ∷ hosts) (suc i) host new at same = ap (λ names. x.name ∷ names) (names-set hosts i host new at same)

-- the event is carried out, and the names of the hosts stay
record Stays (old : Office) (names : Names) (event : Event) : Type 0 where
  carried : Carried
  is : (meaning_of event).carried old names ≡ Ok carried
  same : names_in carried.after.hosts ≡ names_in old.hosts

below : (bucket : ℕ) → bucket < 16 → nat_le 16 bucket ≡ false
below bucket small = grind (arith, nat_tests)

unbroken : (made : Carried) (is : Bool) → is ≡ false → (breaks BadBucket is >> Ok made) ≡ Ok made
unbroken made false e = refl
unbroken made true e = let no : ⊥ = cc (e) in absurd no

stays : (old : Office) (names : Names) (event : Event) → May (names_in old.hosts) event → Stays old names event
stays old names E.Hosts may = record { carried = record { answer = A.Hosts (names_in old.hosts); after = old }; is = refl; same = refl }
stays old names (E.Expire name now) may =
    let at = judged old.hosts name may in
    record {
      carried = record {
        answer = A.Expired (count_by (λ flag. flag) (named_of now at.1));
        after = with_hosts old (slice_set old.hosts at.0 (without_named now at.1));
      };
      is = rw at.3 refl;
      same = names-set old.hosts at.0 at.1 (without_named now at.1) at.2 refl;
    }
stays old names (E.Clean bucket) may =
    record { carried = _; is = unbroken _ (nat_le 16 bucket) (below bucket may); same = refl }
stays old names E.Sweep may = record { carried = record { answer = A.Done; after = old }; is = refl; same = refl }
stays old names event may = absurd may

-- ---- why they stop

pub later_by : (refusal : Refusal) (a b c : ℕ) → a ≤ b → IsRefusedFor refusal b c → IsRefusedFor refusal a c
later_by (R.Broken rule) a b c le why = why
later_by R.Halted a b c le why = why
later_by R.DiskFault a b c le why = omega (arith, le, why)
later_by (R.Damaged file found) a b c le why = why
later_by R.Memory a b c le why = tt

none_after : (faults : ℕ) (entries : List Entry) → calls_of entries ≡ [] → last_faults faults entries ≡ faults
none_after faults [] e = refl
none_after faults (entry ∷ entries) e = let no : ⊥ = cc (e) in absurd no

refused_for : (old : Office) (names : Names) (event : Event) (named : Refusal) (state : State) (faults faults' : ℕ)
    → Stays old names event → IsStep (Running old names) event (Err named) state → IsUndamaged (Err named)
    → (named ≡ R.DiskFault → Rose faults faults') → IsRefusedFor named faults faults'
refused_for old names event (R.Broken rule) (Running new names') faults faults' goes step undamaged cause =
    let is = goes.is in let broken = step.0.0 in let no : ⊥ = cc (is, broken) in absurd no
refused_for old names event (R.Broken rule) (Halted a b names') faults faults' goes step undamaged cause = absurd step.0
refused_for old names event R.Halted state faults faults' goes step undamaged cause = absurd step.0
refused_for old names event R.DiskFault state faults faults' goes step undamaged cause = cause refl
refused_for old names event (R.Damaged file found) state faults faults' goes step undamaged cause = absurd undamaged
refused_for old names event R.Memory state faults faults' goes step undamaged cause = tt

same_carried : (judged : Judged Carried) (made other : Carried) → judged ≡ Ok made → judged ≡ Ok other → made ≡ other
same_carried judged made other is too = cc (is, too)

same_hosts : (old new : Office) (names : Names) (event : Event) (answer : Answer) → Stays old names event
    → IsMade (meaning_of event).pools names old ((meaning_of event).carried old names) answer new → names_in old.hosts ≡ names_in new.hosts
same_hosts old new names event answer goes made =
    let w = made_as (meaning_of event).pools names old ((meaning_of event).carried old names) answer new made in
    sym goes.same
    ∙ ap (λ (c : Carried). names_in c.after.hosts)
    (same_carried _ goes.carried (record { answer = answer; after = with_ids new w.0 }) goes.is w.1)

stops : (old : Office) (names : Names) (faults : ℕ) (entries : List Entry) (refusal : Refusal)
    → IsHistory (Running old names) faults entries → EndRefused refusal (calls_of entries)
    → EachMay (names_in old.hosts) (calls_of entries) → IsRefusedFor refusal faults (last_faults faults entries)
stops old names faults [] refusal legal ended each = absurd ended
stops old names faults (entry ∷ entries) refusal legal ended each =
    by entry.reply entry.state legal.0.step legal.0.undamaged legal.0.cause legal.1 ended
    (λ office' names' rest last each'. stops office' names' entry.faults entries refusal rest last each')
  where
    goes : Stays old names entry.event
    goes = stays old names entry.event each.0

    by : (reply : Reply) (state : State) → IsStep (Running old names) entry.event reply state → IsUndamaged reply
        → (reply ≡ Err R.DiskFault → Rose faults entry.faults) → IsHistory state entry.faults entries
        → EndRefused refusal ((entry.event, reply) ∷ calls_of entries)
        → ((office' : Office) (names' : Names) → IsHistory (Running office' names') entry.faults entries
        → EndRefused refusal (calls_of entries) → EachMay (names_in office'.hosts) (calls_of entries)
        → IsRefusedFor refusal entry.faults (last_faults entry.faults entries))
        → IsRefusedFor refusal faults (last_faults entry.faults entries)
    by (Ok answer) (Running office' names') step undamaged cause rest ended later =
        later_by refusal faults entry.faults (last_faults entry.faults entries) legal.0.later (later office' names' rest ended
        (subst (λ (hosts : List (List ℕ)). EachMay hosts (calls_of entries))
        (same_hosts old office' names entry.event answer goes step.0) each.1))
    by (Ok answer) (Halted a b names') step undamaged cause rest ended later = absurd step.0
    by (Err named) state step undamaged cause rest ended later =
        subst (λ (told : Refusal). IsRefusedFor told faults (last_faults entry.faults entries)) ended.0
        (subst (λ (k : ℕ). IsRefusedFor named faults k) (sym (none_after entry.faults entries ended.1))
        (refused_for old names entry.event named state faults entry.faults goes step undamaged
        (λ e. cause (ap (λ (told : Refusal). Err told) e))))

-- ---- what its script calls

each_may : (P : Event → Type 0) (events : List Event) (done : List Call) (event : Event) → All P events
    → each_of events done ≡ Some event → P event
each_may P [] done event all is = let no : ⊥ = cc (is) in absurd no
each_may P (next ∷ events) [] event all is = let e : next ≡ event = cc (is) in subst P e (All-head P next events all)
each_may P (next ∷ events) ((asked, Ok answer) ∷ done) event all is = each_may P events done event (All-tail P next events all) is
each_may P (next ∷ events) ((asked, Err refusal) ∷ done) event all is = let no : ⊥ = cc (is) in absurd no

events_may : (hosts : List (List ℕ)) (moment : ℕ) (buckets : List ℕ) → All (λ bucket. bucket < 16) buckets
    → All (May hosts) (events_after moment buckets hosts)
events_may hosts moment buckets small =
    All-append (May hosts) (map (λ host. E.Expire host moment) hosts) (map E.Clean buckets ++ E.Sweep ∷ [])
    (All-map (May hosts) (λ host. E.Expire host moment) hosts (each_has hosts))
    (All-append (May hosts) (map E.Clean buckets) (E.Sweep ∷ []) (All-map (May hosts) E.Clean buckets small)
    (All-cons (May hosts) E.Sweep [] tt (All-nil (May hosts))))

follow_may : (hosts : List (List ℕ)) (moment : ℕ) (buckets : List ℕ) (done calls : List Call)
    → All (May hosts) (events_after moment buckets hosts)
    → FollowsAfter (night_script moment buckets) ((E.Hosts, Ok (A.Hosts hosts)) ∷ done) calls → EachMay hosts calls
follow_may hosts moment buckets done [] all follows = tt
follow_may hosts moment buckets done (call ∷ calls) all follows = (
  each_may (May hosts) (events_after moment buckets hosts) done call.0 all follows.0,
  follow_may hosts moment buckets (done ++ call ∷ []) calls all follows.1,
)

small_buckets : (day : ℤ) (period : ℕ) → All (λ bucket. bucket < 16) (night_buckets day period)
small_buckets day period =
    All-filter (is_nightly day period) (λ bucket. bucket < 16) (range_with_len 0 16) (λ k d lt.
    let within : k < 16 = omega (arith, lt, length-range_with_len 0 16) in
    subst (λ (bucket : ℕ). bucket < 16) (sym (get_or-range_with_len 0 16 k d within)) (omega (arith, within)))

-- the first answer has the names of the office's hosts
first_may : (old : Office) (names : Names) (event : Event) (reply : Reply) (state : State) (refusal : Refusal) (moment : ℕ)
    (buckets : List ℕ) (calls : List Call) → All (λ bucket. bucket < 16) buckets
    → E.Hosts ≡ event → IsStep (Running old names) event reply state → EndRefused refusal ((event, reply) ∷ calls)
    → FollowsAfter (night_script moment buckets) ((event, reply) ∷ []) calls → EachMay (names_in old.hosts) ((event, reply) ∷ calls)
first_may old names event (Ok answer) (Running new names') refusal moment buckets calls small is step ended follows =
    let made : (meaning_of E.Hosts).carried old names ≡ Ok (record { answer = answer; after = new }) =
    subst (λ (asked : Event). IsMade (meaning_of asked).pools names old ((meaning_of asked).carried old names) answer new) (sym is) step.0 in
    let told : A.Hosts (names_in old.hosts) ≡ answer = ap (λ (c : Carried). c.answer) (same_carried ((meaning_of E.Hosts).carried old names)
    (record { answer = A.Hosts (names_in old.hosts); after = old }) (record { answer = answer; after = new }) refl made) in (
      subst (May (names_in old.hosts)) is tt,
      follow_may (names_in old.hosts) moment buckets [] calls (events_may (names_in old.hosts) moment buckets small)
          (subst (λ (given : Answer). FollowsAfter (night_script moment buckets) ((E.Hosts, Ok given) ∷ []) calls) (sym told)
          (subst (λ (asked : Event). FollowsAfter (night_script moment buckets) ((asked, Ok answer) ∷ []) calls) (sym is) follows)),
    )
first_may old names event (Ok answer) (Halted a b names') refusal moment buckets calls small is step ended follows = absurd step.0
first_may old names event (Err named) state refusal moment buckets calls small is step ended follows =
    (subst (May (names_in old.hosts)) is tt, subst (EachMay (names_in old.hosts)) (sym ended.1) tt)

pub night_stops : (old : Office) (names : Names) (faults : ℕ) (entries : List Entry) (refusal : Refusal) (moment : ℕ) (day : ℤ) (period : ℕ)
    → IsHistory (Running old names) faults entries → Follows (night_script moment (night_buckets day period)) (calls_of entries)
    → EndRefused refusal (calls_of entries) → IsRefusedFor refusal faults (last_faults faults entries)
night_stops old names faults [] refusal moment day period legal follows ended = absurd ended
night_stops old names faults (entry ∷ entries) refusal moment day period legal follows ended =
    let is : E.Hosts ≡ entry.event = let first = follows.0 in cc (first) in
    stops old names faults (entry ∷ entries) refusal legal ended
    (first_may old names entry.event entry.reply entry.state refusal moment (night_buckets day period) (calls_of entries)
    (small_buckets day period) is legal.0.step ended follows.1)
