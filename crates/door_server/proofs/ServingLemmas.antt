-- What the steps of a server at a door come to.
use Rattle.std.specs.Prelude.{◌≡◌, ℕ, List, [], ◌∷◌, ◌++◌, Option, None, Some, refl}
use Rattle.fault_counts.specs.Counts.{Counted}
use Rattle.std.proofs.Common.{sym, ap, subst, ◌∙◌, append_assoc, append-nil}
use Rattle.stream_traits.specs.declared.link.Faults.{Ghosts}
use Rattle.stream_traits.specs.Seen.{LinkSeen, seen_of}
use Rattle.office_model.specs.Step.{Call}
use Rattle.request_events.specs.declared.defaults.Defaults.{Defaults}
use Rattle.browse_http.specs.declared.end.End.{End}
use Rattle.browse_http.specs.Talk.{calls_of, ServesLink}
use Rattle.caller_doors.specs.Links.{ahead_of, with_last}
use Rattle.caller_doors.specs.LinksLaws.{ahead_of_nil, ahead_of_append, with_last_nil, with_last_append}
use Rattle.door_server.specs.declared.end.DoorEnd.{DoorEnd}
use Rattle.door_server.specs.declared.end.DoorEnd.TheVariants.{Failed}
use Rattle.door_server.specs.Serving.{Connection, Makes, AreServed, links_of, backs_of, all_calls, ServesDoor}

-- the end that is there, or else another
abbrev end_in : DoorEnd → Option DoorEnd → DoorEnd
end_in other None = other
end_in other (Some end) = end

-- the count stayed until the server left its door
pub Counted-end : (before had now : ℕ) (end : DoorEnd) → had ≡ before → Counted had now (Some end ≡ Some Failed) → Counted before now (end ≡ Failed)
Counted-end before had now end same counted =
    let since : Counted had now (end ≡ Failed) = record {
      later = counted.later;
      rose = λ e. counted.rose (ap Some e);
      stays = λ no. counted.stays (λ e. no (ap (end_in end) e));
    } in
    subst (λ count. Counted count now (end ≡ Failed)) same since

pub links_of-append : {L : Type 0} (front back : List (Connection L)) → links_of (front ++ back) ≡ links_of front ++ links_of back
links_of-append [] back = refl
links_of-append (connection ∷ later) back = ap (λ links. connection.link ∷ links) (links_of-append later back)

pub backs_of-append : {L : Type 0} (front back : List (Connection L)) → backs_of (front ++ back) ≡ backs_of front ++ backs_of back
backs_of-append [] back = refl
backs_of-append (connection ∷ later) back = ap (λ links. connection.back ∷ links) (backs_of-append later back)

pub all_calls-append : {L : Type 0} (front back : List (Connection L)) → all_calls (front ++ back) ≡ all_calls front ++ all_calls back
all_calls-append [] back = refl
all_calls-append (connection ∷ later) back =
    ap (λ calls. connection.calls ++ calls) (all_calls-append later back)
    ∙ sym (append_assoc connection.calls (all_calls later) (all_calls back))

pub AreServed-append : (defaults : Defaults) {L : Type 0} (l : Ghosts L) (moments now moments' : Option (List ℕ))
    (front back : List (Connection L)) → AreServed defaults l moments front now → AreServed defaults l now back moments'
    → AreServed defaults l moments (front ++ back) moments'
AreServed-append defaults l moments now moments' [] back earlier later = subst (λ m. AreServed defaults l m back moments') earlier later
AreServed-append defaults l moments now moments' (connection ∷ rest) back earlier later =
    (earlier.0, earlier.1, AreServed-append defaults l earlier.0 now moments' rest back earlier.2 later)

-- a connection whose calls moved the port is one that made its calls
pub IsServed-made : (defaults : Defaults) {P : Type 0} (moves : P → List Call → P → Type 0) (old new : P) (link back : LinkSeen)
    (moments moments' : Option (List ℕ)) (end : End) (served : ServesLink defaults moves old new link back moments moments' end)
    → ServesLink defaults (Makes (calls_of served.talk.exchanges ++ served.talk.made)) tt tt link back moments moments' end
IsServed-made defaults moves old new link back moments moments' end served = record {
  unread = served.unread;
  talk = record {
    exchanges = served.talk.exchanges;
    are = served.talk.are;
    made = served.talk.made;
    moved = refl;
    clock = served.talk.clock;
    taken = served.talk.taken;
    left_is = served.talk.left_is;
    quiet = served.talk.quiet;
    begun = served.talk.begun;
    talk = served.talk.talk;
  };
  ahead = served.ahead;
  ahead_is = served.ahead_is;
  few = served.few;
  sent = served.sent;
  counted = served.counted;
}

module _ (defaults : Defaults) {P : Type 0} (moves : P → List Call → P → Type 0) {L : Type 0} (l : Ghosts L) where
  -- no link came
  pub ServesDoor-none : (none : (p : P) → moves p [] p) (port : P) (coming coming' given given' : Option (List L))
      (moments : Option (List ℕ)) → coming' ≡ coming → given' ≡ given
      → ServesDoor defaults moves port port l coming coming' given given' moments moments
  ServesDoor-none none port coming coming' given given' moments came gave = record {
    connections = [];
    moved = none port;
    served = refl;
    came = sym came ∙ sym (ahead_of_nil coming');
    gave = gave ∙ sym (with_last_nil given);
  }

  -- one link came, was served and given back
  pub ServesDoor-one : (old new : P) (link back : L) (coming now coming' given now_given given' : Option (List L))
      (moments moments' : Option (List ℕ)) (end : End)
      → ServesLink defaults moves old new (seen_of l link) (seen_of l back) moments moments' end
      → coming ≡ ahead_of (link ∷ []) now → now_given ≡ given → coming' ≡ now → given' ≡ with_last now_given (back ∷ [])
      → ServesDoor defaults moves old new l coming coming' given given' moments moments'
  ServesDoor-one old new link back coming now coming' given now_given given' moments moments' end served came same kept gave = record {
    connections = record { link = link; back = back; calls = calls_of served.talk.exchanges ++ served.talk.made; end = end } ∷ [];
    moved = subst (λ calls. moves old calls new) (sym (append-nil (calls_of served.talk.exchanges ++ served.talk.made))) served.talk.moved;
    served = (moments', IsServed-made defaults moves old new (seen_of l link) (seen_of l back) moments moments' end served, refl);
    came = came ∙ ap (ahead_of (link ∷ [])) (sym kept);
    gave = gave ∙ ap (λ told. with_last told (back ∷ [])) same;
  }

  -- first these connections, then those
  pub ServesDoor-append : (joined : (p q r : P) (xs ys : List Call) → moves p xs q → moves q ys r → moves p (xs ++ ys) r)
      (old now new : P) (coming between coming' given had given' : Option (List L)) (moments middle moments' : Option (List ℕ))
      → ServesDoor defaults moves old now l coming between given had moments middle
      → ServesDoor defaults moves now new l between coming' had given' middle moments'
      → ServesDoor defaults moves old new l coming coming' given given' moments moments'
  ServesDoor-append joined old now new coming between coming' given had given' moments middle moments' earlier later = record {
    connections = earlier.connections ++ later.connections;
    moved = subst (λ calls. moves old calls new) (sym (all_calls-append earlier.connections later.connections))
        (joined old now new (all_calls earlier.connections) (all_calls later.connections) earlier.moved later.moved);
    served = AreServed-append defaults l moments middle moments' earlier.connections later.connections earlier.served later.served;
    came = earlier.came ∙ ap (ahead_of (links_of earlier.connections)) later.came
        ∙ sym (ahead_of_append (links_of earlier.connections) (links_of later.connections) coming')
        ∙ ap (λ links. ahead_of links coming') (sym (links_of-append earlier.connections later.connections));
    gave = later.gave ∙ ap (λ told. with_last told (backs_of later.connections)) earlier.gave
        ∙ sym (with_last_append given (backs_of earlier.connections) (backs_of later.connections))
        ∙ ap (with_last given) (sym (backs_of-append earlier.connections later.connections));
  }
