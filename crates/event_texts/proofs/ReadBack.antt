-- What a client writes of an event is read as that event.
use Rattle.std.proofs.Common.{◌≡◌, ℕ, ◌<◌, ◌^◌, true, List, [], ◌∷◌, ◌++◌, Option, Some, None, Ok, IfSome, refl, sym, ap, ◌∙◌, arith, codes, decimal, append-nil, inl, map}
use Rattle.form_urlencoded.proofs.FormLemmas.{raw_pairs-nil}
use Rattle.attr_records.specs.Names.{is_host_name}
use Rattle.http_heads.specs.Heads.{HeadParts}
use Rattle.http_query.specs.Query.{Pair, texts_of, query_pairs}
use Rattle.http_routes.specs.Forms.{done, param, HasForm}
use Rattle.http_routes.specs.Table.{routes}
use Rattle.http_routes.specs.Targets.{path_of, query_of}
use Rattle.http_routes.specs.declared.route.Route.TheVariants as R
use Rattle.http_routes.specs.declared.route.Action.TheVariants as A
use Rattle.http_routes.specs.declared.route.HostAction.TheVariants as H
use Rattle.http_routes.specs.declared.route.BackupAction.TheVariants as B
use Rattle.http_routes.specs.declared.route.SessionAction.TheVariants as S
use Rattle.office_model.specs.declared.event.Event.{Event}
use Rattle.office_model.specs.declared.event.Event.TheVariants as E
use Rattle.receipts.specs.declared.session.SessionName.{SessionName}
use Rattle.receipts.specs.Session.{session_text}
use Rattle.request_events.specs.declared.defaults.Defaults.{Defaults}
use Rattle.request_events.specs.declared.plan.Plan.TheVariants as P
use Rattle.request_events.specs.Said.{◌>>=◌}
use Rattle.request_events.specs.Keys.{optional, taken}
use Rattle.request_events.specs.Values.{base_in}
use Rattle.request_events.specs.Asked.{One, asked}
use Rattle.event_texts.specs.Requests.{RequestTexts, backups_target, restores_path, restores_target, restore_target, next_target}
use Rattle.event_texts.specs.Laws.{IsSession, RequestsReadBack}
use Rattle.event_texts.proofs.CutLemmas.{NonePass, all-append, cut-before, cut-after, whole-before, whole-after}
use Rattle.event_texts.proofs.NameLemmas.{IsName, question, decimal_name, host_name, session_name, piece_of}
use Rattle.event_texts.proofs.PathLemmas.{first-of-restores, last-of-restores, first-of-hosts, second-of-hosts, host-in, number-in, session-in}
use Rattle.event_texts.proofs.QueryLemmas.{base_text, base_pairs, pairs-of-base, taken-base, base-in}
use Rattle.event_texts.proofs.ReadLemmas.{takes_text, has_at, asked-is}

-- a head with this method and target asks for this event
abbrev Asks : List ℕ → List ℕ → Event → Type 0
Asks method target event =
    (head : HeadParts) → head.method ≡ method → head.target ≡ target
    → (body : List ℕ) (moment : ℕ) (defaults : Defaults) → asked head body moment defaults ≡ Ok (One event)

-- ---- targets without a query

path-plain : (path target : List ℕ) → target ≡ path → NonePass question path → path_of target ≡ path
path-plain path target is h = ap path_of is ∙ whole-before question path h

pairs-plain : (path target : List ℕ) → target ≡ path → NonePass question path → query_pairs (query_of target) ≡ []
pairs-plain path target is h = ap (λ t. query_pairs (query_of t)) is ∙ ap query_pairs (whole-after question path h) ∙ ap (map texts_of) raw_pairs-nil

-- ---- the paths

backups-plain : (host : List ℕ) → NonePass question host → NonePass question (backups_target host)
backups-plain host h = all-append _ (codes "/hosts/") (host ++ codes "/backups") refl (all-append _ host (codes "/backups") h refl)

next-plain : (text : List ℕ) → NonePass question text → NonePass question (codes "/restores/" ++ (text ++ codes "/next"))
next-plain text h = all-append _ (codes "/restores/") (text ++ codes "/next") refl (all-append _ text (codes "/next") h refl)

restores-plain : (host number : List ℕ) → NonePass question host → NonePass question number
    → NonePass question (codes "/hosts/" ++ (host ++ (codes "/backups/" ++ (number ++ codes "/restores"))))
restores-plain host number h k =
    let rest = number ++ codes "/restores" in
    all-append _ (codes "/hosts/") (host ++ (codes "/backups/" ++ rest)) refl
    (all-append _ host (codes "/backups/" ++ rest) h (all-append _ (codes "/backups/") rest refl (all-append _ number (codes "/restores") k refl)))

backups-form : (host : List ℕ) → IsName host → HasForm R.Backups (backups_target host)
backups-form host n = (
  codes "/hosts/{host}/backups",
  has_at (codes "/hosts/{host}/backups") R.Backups 10 routes (inl (refl, refl)),
  takes_text (codes "/hosts/") (param host (codes "/backups") (piece_of host n) refl (takes_text (codes "/backups") done)),
)

restores-form : (host number : List ℕ) → IsName host → IsName number
    → HasForm R.Restores (codes "/hosts/" ++ (host ++ (codes "/backups/" ++ (number ++ codes "/restores"))))
restores-form host number n d = (
  codes "/hosts/{host}/backups/{number}/restores",
  has_at (codes "/hosts/{host}/backups/{number}/restores") R.Restores 15 routes (inl (refl, refl)),
  takes_text (codes "/hosts/") (param host (codes "/backups/" ++ (number ++ codes "/restores")) (piece_of host n) refl
      (takes_text (codes "/backups/") (param number (codes "/restores") (piece_of number d) refl (takes_text (codes "/restores") done)))),
)

next-form : (text : List ℕ) → IsName text → HasForm R.Next (codes "/restores/" ++ (text ++ codes "/next"))
next-form text n = (
  codes "/restores/{restore}/next",
  has_at (codes "/restores/{restore}/next") R.Next 17 routes (inl (refl, refl)),
  takes_text (codes "/restores/") (param text (codes "/next") (piece_of text n) refl (takes_text (codes "/next") done)),
)

restore-form : (text : List ℕ) → IsName text → HasForm R.Restore (codes "/restores/" ++ text)
restore-form text n = (
  codes "/restores/{restore}",
  has_at (codes "/restores/{restore}") R.Restore 18 routes (inl (refl, refl)),
  takes_text (codes "/restores/") (param text [] (piece_of text n) (sym (append-nil text)) done),
)

-- ---- events

backups-back : (host : List ℕ) → is_host_name host ≡ true → Asks (codes "GET") (backups_target host) (E.Backups host)
backups-back host named head says is =
    let n = host_name host named in
    let path = backups_target host in
    asked-is path [] (codes "GET") R.Backups (A.Host H.Backups) (E.Backups host) (backups-form host n) refl
    (ap (λ said. said >>= λ h. Ok (P.Ready (E.Backups h))) (host-in path host (first-of-hosts host (codes "backups") n.no_slash) named))
    head says (path-plain path head.target is (backups-plain host n.no_question)) (pairs-plain path head.target is (backups-plain host n.no_question))

next-back : (restore : SessionName) → IsSession restore → Asks (codes "GET") (next_target restore) (E.ReadNext restore)
next-back restore fits head says is =
    let text = session_text restore in
    let n = session_name restore fits in
    let path = next_target restore in
    asked-is path [] (codes "GET") R.Next (A.Session S.ReadNext) (E.ReadNext restore) (next-form text n) refl
    (ap (λ session. Ok (P.Ready (E.ReadNext session))) (session-in path restore (first-of-restores text (codes "next") n.no_slash) fits))
    head says (path-plain path head.target is (next-plain text n.no_question)) (pairs-plain path head.target is (next-plain text n.no_question))

close-back : (restore : SessionName) → IsSession restore → Asks (codes "DELETE") (restore_target restore) (E.CloseRead restore)
close-back restore fits head says is =
    let text = session_text restore in
    let n = session_name restore fits in
    let path = restore_target restore in
    let plain = all-append _ (codes "/restores/") text refl n.no_question in
    asked-is path [] (codes "DELETE") R.Restore (A.Session S.CloseRead) (E.CloseRead restore) (restore-form text n) refl
    (ap (λ session. Ok (P.Ready (E.CloseRead session))) (session-in path restore (last-of-restores text n.no_slash) fits))
    head says (path-plain path head.target is plain) (pairs-plain path head.target is plain)

-- what a restore's path and pairs that name this base ask for
module _ (host : List ℕ) (number : ℕ) (named : is_host_name host ≡ true) (small : number < 2 ^ 32) where
  host_is : IsName host
  host_is = host_name host named

  number_is : IsName (decimal number)
  number_is = decimal_name number (omega (arith, small))

  path_plain : NonePass question (restores_path host number)
  path_plain = restores-plain host (decimal number) host_is.no_question number_is.no_question

  restore-asked : (pairs : List Pair) (base : Option ℕ) → taken (optional (codes "base") ∷ []) pairs ≡ Ok tt → base_in pairs ≡ Ok base
      → (head : HeadParts) → head.method ≡ codes "POST" → path_of head.target ≡ restores_path host number → query_pairs (query_of head.target) ≡ pairs
      → (body : List ℕ) (moment : ℕ) (defaults : Defaults) → asked head body moment defaults ≡ Ok (One (E.OpenRead host number base))
  restore-asked pairs base takes bases head says names adds =
      let path = restores_path host number in
      asked-is path pairs (codes "POST") R.Restores (A.Backup B.OpenRead) (E.OpenRead host number base)
      (restores-form host (decimal number) host_is number_is) refl
      (λ i. host-in path host (first-of-hosts host (codes "backups/" ++ (decimal number ++ codes "/restores")) host_is.no_slash) named i
      >>= λ h. number-in path number (second-of-hosts host (decimal number) (codes "restores") host_is.no_slash number_is.no_slash) small i
      >>= λ n. takes i >>= λ known. (bases i >>= λ b. Ok (E.OpenRead h n b)) >>= λ event. Ok (P.Ready event))
      head says names adds

  restores-back : (base : Option ℕ) → IfSome base (λ other. other < 2 ^ 32)
      → Asks (codes "POST") (restores_target host number base) (E.OpenRead host number base)
  restores-back None ranged head says is =
      restore-asked [] None refl refl head says (path-plain (restores_path host number) head.target is path_plain)
      (pairs-plain (restores_path host number) head.target is path_plain)
  restores-back (Some base) ranged head says is =
      let path = restores_path host number in
      restore-asked (base_pairs base) (Some base) (taken-base base ranged) (base-in base ranged) head says
      (ap path_of is ∙ cut-before question path (base_text base) 63 path_plain refl)
      (ap (λ t. query_pairs (query_of t)) is ∙ ap query_pairs (cut-after question path (base_text base) 63 path_plain refl) ∙ pairs-of-base base ranged)

-- the request that an event has is the one of its clause
some-is : (X : Type 0) (x y : X) → Some x ≡ Some y → x ≡ y
some-is X x y e = cc e

read-as : (method target : List ℕ) (event : Event) (request : RequestTexts) → Asks method target event
    → Some (record { method = method; target = target }) ≡ Some request → (head : HeadParts) → head.method ≡ request.method → head.target ≡ request.target
    → (body : List ℕ) (moment : ℕ) (defaults : Defaults) → asked head body moment defaults ≡ Ok (One event)
read-as method target event request asks e head says is =
    let same = some-is RequestTexts (record { method = method; target = target }) request e in
    asks head (says ∙ sym (ap (λ r. r.method) same)) (is ∙ sym (ap (λ r. r.target) same))

pub requests-read-back : RequestsReadBack
requests-read-back (E.Backups host) request e ranged = read-as _ _ _ request (backups-back host ranged) e
requests-read-back (E.OpenRead host number base) request e ranged = read-as _ _ _ request (restores-back host number ranged.0 ranged.1 base ranged.2) e
requests-read-back (E.ReadNext restore) request e ranged = read-as _ _ _ request (next-back restore ranged) e
requests-read-back (E.CloseRead restore) request e ranged = read-as _ _ _ request (close-back restore ranged) e
requests-read-back event request e ranged = absurd (cc e)
