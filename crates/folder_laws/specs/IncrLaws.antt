-- In each legal history of its calls an incremental dump of a tree becomes a backup that is this tree.
use Rattle.std.specs.Prelude.{◌≡◌, ℕ, zero, suc, ◌+◌, ◌-◌, Bool, true, false, cond, List, [], ◌∷◌, ◌++◌, length, drop, map, Option, Some, None, Ok, slice_get, slice_set, is_some, not, bytes_eq}
use Rattle.std.specs.List.{filter}
use Rattle.std.specs.Option.{option_eq, option_map}
use Rattle.std.proofs.Common.{refl, sym, ap, ◌∙◌, subst}
use Rattle.std.proofs.lemmas.Bool.{true≢false}
use Rattle.std.proofs.lemmas.Slice.Eq.{bytes_eq-Decides}
use Rattle.std.proofs.Math.Seq.{drop-append-add}
use Rattle.attr_records.specs.declared.nodes.Item.{Item}
use Rattle.attr_records.specs.declared.nodes.Item.TheVariants as I
use Rattle.attr_records.specs.Items.{Tree, is_dir}
use Rattle.attr_records.specs.Paths.{parent}
use Rattle.attr_records.specs.PathLaws.{parent-parts}
use Rattle.attr_records.specs.Trees.{IsTree, node_at, without}
use Rattle.backup_rules.specs.declared.lines.Line.{Line}
use Rattle.backup_rules.specs.declared.lines.Kind.TheVariants.{Incr}
use Rattle.folder_laws.specs.Walks.{is_child}
use Rattle.folder_laws.specs.Lists.{path_in}
use Rattle.receipts.specs.declared.session.SessionName.{SessionName}
use Rattle.office_model.specs.declared.answer.NamedNode.{NamedNode}
use Rattle.office_model.specs.declared.event.Event.TheVariants as E
use Rattle.office_model.specs.declared.answer.Answer.{Answer}
use Rattle.office_model.specs.declared.answer.Answer.TheVariants as A
use Rattle.office_model.specs.declared.refusal.BrokenRule.TheVariants.{NoBackup}
use Rattle.office_model.specs.Office.{Office, Host, Backup, Dump, Names, IsSound, IsSoundHost, with_dumps}
use Rattle.tree_frames.specs.Frames.{node_of}
use Rattle.office_model.specs.Meaning.{Judged, found}
use Rattle.office_model.specs.Parts.{At, dump_at, host_at, backup_of, newest, lines_of}
use Rattle.office_model.specs.History.{Leads}
use Rattle.office_model.specs.Step.{Call, State, Running}
use Rattle.office_model.specs.events.List.{name_in, entry_of, listed, list_rule, entries_of}
use Rattle.office_model.specs.events.List as ListEvent
use Rattle.office_model.specs.events.Backups as BackupsEvent
use Rattle.office_model.specs.events.OpenDump as OpenDumpEvent
use Rattle.office_model.specs.events.Remove as RemoveEvent
use Rattle.office_model.specs.laws.Judging.{bound, passed, kept, at_is}
use Rattle.office_model.specs.laws.Lookups.{host_index-found}
use Rattle.folder_laws.specs.Walks.{children}
use Rattle.folder_laws.specs.Replays.{without_all}
use Rattle.folder_laws.specs.declared.known.Known.{Known}
use Rattle.folder_laws.specs.Compares.{is_gone, gone_in, known_of, known_in, Compares}
use Rattle.folder_laws.specs.Calls.{open_call, remove_calls}
use Rattle.folder_laws.specs.Lists.{is_dir_node, named_in, leaves, known_at, gone_from, known_from, AreLists, backups_call, last_line}
use Rattle.folder_laws.specs.OfficeLaws.{HasDump, opened, retreed, asked_dump, after_of, answer_of, some_is, shown}
use Rattle.call_scripts.specs.FirstCalls.{answered}
use Rattle.folder_laws.specs.StagingLaws.{AfterPuts}

-- ---- a listing of a tree has the paths of the directory

path_back : (directory : Option (List ℕ)) (path : List ℕ) → is_child directory path ≡ true → path_in directory (name_in directory path) ≡ path
path_back None path e = refl
path_back (Some d) path e = step (parent path) refl e
  where
    step : (above : Option (List ℕ)) → parent path ≡ above → option_eq bytes_eq above (Some d) ≡ true → d ++ 47 ∷ drop (length d + 1) path ≡ path
    step None is h = absurd (true≢false (sym h))
    step (Some found) is h =
        let parts = parent-parts path d (is ∙ ap Some ((bytes_eq-Decides found d).0 h)) in
        ap (λ name. d ++ 47 ∷ name) (ap (drop (length d + 1)) parts.1 ∙ drop-append-add d (47 ∷ parts.0) 1) ∙ sym parts.1

kind_back : (item : Item) → is_dir_node (node_of item) ≡ is_dir item
kind_back (I.File file) = refl
kind_back (I.Dir dir) = refl
kind_back (I.Link link) = refl

abbrev kind_row : List ℕ × Item → List ℕ × Bool
kind_row row = (row.0, is_dir row.1)

named_listed : (tree : Tree) (directory : Option (List ℕ)) → map (named_in directory) (listed tree directory) ≡ map kind_row (children tree directory)
named_listed [] directory = refl
named_listed (row ∷ tree) directory = step (is_child directory row.0) refl (named_listed tree directory)
  where
    step : (b : Bool) → is_child directory row.0 ≡ b → map (named_in directory) (listed tree directory) ≡ map kind_row (children tree directory)
        → map (named_in directory) (map (λ (r : List ℕ × Item). entry_of directory r.0 r.1) (cond b (row ∷ children tree directory) (children tree directory)))
        ≡ map kind_row (cond b (row ∷ children tree directory) (children tree directory))
    step true lies rest = λ i. (path_back directory row.0 lies i, kind_back row.1 i) ∷ rest i
    step false lies rest = rest

gone_rows : (seen : Tree) (directory : Option (List ℕ)) (rows : Tree)
    → map (λ (n : List ℕ × Bool). n.0) (filter (leaves seen directory) (map kind_row rows)) ≡ map (λ (r : List ℕ × Item). r.0) (filter (is_gone seen directory) rows)
gone_rows seen directory [] = refl
gone_rows seen directory (row ∷ rows) = step (is_gone seen directory row) (gone_rows seen directory rows)
  where
    step : (b : Bool)
        → map (λ (n : List ℕ × Bool). n.0) (filter (leaves seen directory) (map kind_row rows)) ≡ map (λ (r : List ℕ × Item). r.0) (filter (is_gone seen directory) rows)
        → map (λ (n : List ℕ × Bool). n.0) (cond b (kind_row row ∷ filter (leaves seen directory) (map kind_row rows)) (filter (leaves seen directory) (map kind_row rows)))
        ≡ map (λ (r : List ℕ × Item). r.0) (cond b (row ∷ filter (is_gone seen directory) rows) (filter (is_gone seen directory) rows))
    step true rest = ap (λ paths. row.0 ∷ paths) rest
    step false rest = rest

known_rows : (seen : Tree) (known : Known) (rows : Tree)
    → map (known_at seen known) (filter (λ (n : List ℕ × Bool). n.1) (map kind_row rows)) ≡ map (known_of seen known) (filter (λ (r : List ℕ × Item). is_dir r.1) rows)
known_rows seen known [] = refl
known_rows seen known (row ∷ rows) = step (is_dir row.1) (known_rows seen known rows)
  where
    step : (b : Bool)
        → map (known_at seen known) (filter (λ (n : List ℕ × Bool). n.1) (map kind_row rows)) ≡ map (known_of seen known) (filter (λ (r : List ℕ × Item). is_dir r.1) rows)
        → map (known_at seen known) (cond b ((row.0, is_dir row.1) ∷ filter (λ (n : List ℕ × Bool). n.1) (map kind_row rows)) (filter (λ (n : List ℕ × Bool). n.1) (map kind_row rows)))
        ≡ map (known_of seen known) (cond b (row ∷ filter (λ (r : List ℕ × Item). is_dir r.1) rows) (filter (λ (r : List ℕ × Item). is_dir r.1) rows))
    step true rest = ap (λ ks. known_of seen known row ∷ ks) rest
    step false rest = rest

gone_same : (seen base : Tree) (known : Known) (entries : List NamedNode) → entries ≡ listed base known.directory
    → gone_from seen known entries ≡ gone_in seen base known
gone_same seen base known entries e =
    ap (λ rows. cond known.there (map (λ (n : List ℕ × Bool). n.0) (filter (leaves seen known.directory) rows)) []) (ap (map (named_in known.directory)) e ∙ named_listed base known.directory)
    ∙ ap (λ paths. cond known.there paths []) (gone_rows seen known.directory (children base known.directory))

known_same : (seen base : Tree) (known : Known) (entries : List NamedNode) → entries ≡ listed base known.directory
    → known_from seen known entries ≡ known_in seen base known
known_same seen base known entries e =
    ap (λ rows. map (known_at seen known) (filter (λ (n : List ℕ × Bool). n.1) rows)) (ap (map (named_in known.directory)) e ∙ named_listed base known.directory)
    ∙ known_rows seen known (children base known.directory)

-- ---- questions change nothing

entries_is : (a b : List NamedNode) → A.Entries a ≡ A.Entries b → a ≡ b
entries_is a b e = cc

ok_is : {A : Type 0} (a b : A) → (let x : Judged A = Ok a in x ≡ Ok b) → a ≡ b
ok_is a b e = cc

list_step : (office : Office) (names : Names) (name : List ℕ) (number : ℕ) (directory : Option (List ℕ)) (backup : Backup) (entries : List NamedNode) (after : Office)
    → backup_of office.hosts name number ≡ Ok backup
    → ListEvent.carried name number directory office ≡ Ok (record { answer = A.Entries entries; after = after })
    → (entries ≡ listed backup.tree directory) × (after ≡ office)
list_step office names name number directory backup entries after is e =
    let w = bound (entries_of office.hosts name number directory) (λ es. Ok (record { answer = A.Entries es; after = office })) _ e in
    let a = bound (backup_of office.hosts name number) _ w.0 w.1 in
    let same : a.0 ≡ backup = ok_is a.0 backup (sym a.1 ∙ is) in
    let b : (list_rule a.0.tree directory ≡ None) × (Ok (listed a.0.tree directory) ≡ Ok w.0) = kept (list_rule a.0.tree directory) _ w.0 a.2 in
    let given : w.0 ≡ entries = entries_is w.0 entries (answer_of _ (A.Entries entries) _ after w.2) in (
      sym given ∙ sym (ok_is (listed a.0.tree directory) w.0 b.1) ∙ ap (λ (x : Backup). listed x.tree directory) same,
      sym (after_of (A.Entries w.0) (A.Entries entries) office after w.2),
    )

pub record AfterLists (office : Office) (seen base : Tree) (pending : List Known) (gone all : List (List ℕ)) (more : List Call) (state' : State) (faults' : ℕ) : Type 0 where
  pub visits : List Known
  pub compares : Compares seen base pending gone visits all
  pub names : Names
  pub faults : ℕ
  pub rest : Leads (Running office names) faults more state' faults'

pub after_lists : (lists : List Call) (office : Office) (names : Names) (faults : ℕ) (seen : Tree) (host : List ℕ) (number : ℕ) (backup : Backup)
    (pending : List Known) (gone all : List (List ℕ)) (more : List Call) (state' : State) (faults' : ℕ)
    → backup_of office.hosts host number ≡ Ok backup → AreLists seen host number pending gone lists [] all
    → Leads (Running office names) faults (lists ++ more) state' faults'
    → AfterLists office seen backup.tree pending gone all more state' faults'
after_lists [] office names faults seen host number backup pending gone all more state' faults' is are leads =
    record { visits = []; compares = (are.0, sym are.1); names = names; faults = faults; rest = leads }
after_lists (call ∷ lists) office names faults seen host number backup pending gone all more state' faults' is are leads =
    let known : Known = are.0 in
    let rest : List Known = are.1 in
    let entries : List NamedNode = are.2 in
    let a = answered office names faults (E.List host number known.directory) (A.Entries entries) (lists ++ more) state' faults'
    (subst (λ c. Leads (Running office names) faults (c ∷ (lists ++ more)) state' faults') are.4 leads) in
    let s = list_step office names host number known.directory backup entries a.after is a.carried in
    let same_gone = gone_same seen backup.tree known entries s.0 in
    let same_known = known_same seen backup.tree known entries s.0 in
    let next : AreLists seen host number (known_in seen backup.tree known ++ rest) (gone ++ gone_in seen backup.tree known) lists [] all =
    subst (λ ks. AreLists seen host number (ks ++ rest) (gone ++ gone_in seen backup.tree known) lists [] all) same_known
    (subst (λ paths. AreLists seen host number (known_from seen known entries ++ rest) (gone ++ paths) lists [] all) same_gone are.5) in
    let more_leads : Leads (Running office a.after_names) a.faults (lists ++ more) state' faults' =
    subst (λ (o : Office). Leads (Running o a.after_names) a.faults (lists ++ more) state' faults') s.1 a.rest in
    let later = after_lists lists office a.after_names a.faults seen host number backup _ _ all more state' faults' is next more_leads in
    record { visits = known ∷ later.visits; compares = (rest, are.3, later.compares); names = later.names; faults = later.faults; rest = later.rest }

-- ---- removals

remove_step : (office : Office) (session : SessionName) (name : List ℕ) (tree : Tree) (path : List ℕ) (answer : Answer) (after : Office)
    → IsSound office → HasDump office session name tree
    → RemoveEvent.carried session path None office ≡ Ok (record { answer = answer; after = after })
    → HasDump after session name (without tree path)
remove_step office session name tree path answer after sound has e =
    let w = bound (RemoveEvent.without_path session path office.dumps) (λ dumps. Ok (record { answer = A.Done; after = with_dumps office dumps })) _ e in
    let a = bound (dump_at office.dumps session) _ w.0 w.1 in
    let same = asked_dump office session name tree sound has a.0 a.1 in
    let c : (not (is_some (node_at a.0.value.tree path)) ≡ false) × (Ok (slice_set office.dumps a.0.index (RemoveEvent.with_removed a.0.value path)) ≡ Ok w.0) = passed _ _ _ _ a.2 in
    let dumps_are : slice_set office.dumps a.0.index (RemoveEvent.with_removed a.0.value path) ≡ w.0 = ok_is _ w.0 c.1 in
    let here : slice_set office.dumps has.index (record has.dump { tree = without has.dump.tree path }) ≡ w.0 =
    subst (λ i. slice_set office.dumps i (RemoveEvent.with_removed has.dump path) ≡ w.0) same.0
    (subst (λ (d : Dump). slice_set office.dumps a.0.index (RemoveEvent.with_removed d path) ≡ w.0) same.1 dumps_are) in
    let after_is : with_dumps office w.0 ≡ after = after_of A.Done answer (with_dumps office w.0) after w.2 in
    subst (λ (o : Office). HasDump o session name (without tree path)) after_is
    (subst (λ ds. HasDump (with_dumps office ds) session name (without tree path)) here
    (subst (λ t. HasDump (with_dumps office (slice_set office.dumps has.index (record has.dump { tree = without has.dump.tree path }))) session name (without t path)) has.tree_is
    (retreed office session name tree (without has.dump.tree path) has)))

pub after_removes : (gone : List (List ℕ)) (office : Office) (names : Names) (faults : ℕ) (dump : SessionName) (name : List ℕ) (tree : Tree) (more : List Call)
    (state' : State) (faults' : ℕ) → IsSound office → HasDump office dump name tree
    → Leads (Running office names) faults (remove_calls dump gone ++ more) state' faults'
    → AfterPuts dump name (without_all tree gone) more state' faults'
after_removes [] office names faults dump name tree more state' faults' sound has leads =
    record { office = office; names = names; faults = faults; sound = sound; has = has; rest = leads }
after_removes (path ∷ gone) office names faults dump name tree more state' faults' sound has leads =
    let a = answered office names faults (E.Remove dump path None) A.Done (remove_calls dump gone ++ more) state' faults' leads in
    after_removes gone a.after a.after_names a.faults dump name _ more state' faults' a.sound
    (remove_step office dump name tree path A.Done a.after sound has a.carried) a.rest

-- ---- the last backup

backups_is : (a c : List Line) (m n : ℕ) (o p : Option SessionName) → A.Backups a m o ≡ A.Backups c n p → a ≡ c
backups_is a c m n o p e = cc

backups_step : (office : Office) (name : List ℕ) (host : At Host) (lines : List Line) (next : ℕ) (other : Option SessionName) (after : Office)
    → host_at office.hosts name ≡ Ok host
    → BackupsEvent.carried name office ≡ Ok (record { answer = A.Backups lines next other; after = after })
    → (lines ≡ lines_of host.value.backups) × (after ≡ office)
backups_step office name host lines next other after is e =
    let w = bound (BackupsEvent.overview name office.hosts office.dumps) (λ seen. Ok (record { answer = A.Backups seen.lines seen.next seen.dump; after = office })) _ e in
    let a = bound (host_at office.hosts name) _ w.0 w.1 in
    let same : a.0 ≡ host = ok_is a.0 host (sym a.1 ∙ is) in
    let made : (record { lines = lines_of a.0.value.backups; next = a.0.value.next; dump = BackupsEvent.open_dump_of office.dumps a.0.index }) ≡ w.0 = ok_is _ w.0 a.2 in
    let given : w.0.lines ≡ lines = backups_is _ _ _ _ _ _ (answer_of _ (A.Backups lines next other) _ after w.2) in (
      sym given ∙ sym (ap (λ (o : BackupsEvent.Overview). o.lines) made) ∙ ap (λ (h : At Host). lines_of h.value.backups) same,
      sym (after_of _ (A.Backups lines next other) office after w.2),
    )

-- the line of a backup stands at its place
line_of : (backups : List Backup) (i : ℕ) (backup : Backup) → slice_get backups i ≡ Some backup → slice_get (lines_of backups) i ≡ Some backup.line
line_of [] i backup e = absurd (cc)
line_of (b ∷ backups) zero backup e = ap (λ (x : Backup). Some x.line) (some_is b backup e)
line_of (b ∷ backups) (suc i) backup e = line_of backups i backup e

length-lines : (backups : List Backup) → length (lines_of backups) ≡ length backups
length-lines [] = refl
length-lines (b ∷ backups) = ap (λ n. suc n) (length-lines backups)

pub record Newest (host : Host) (base : Tree) : Type 0 where
  pub backup : Backup
  pub is_newest : newest host.backups ≡ Some backup
  pub tree_is : backup.tree ≡ base

newest_of : (host : Host) (base : Tree) → OpenDumpEvent.base_of Incr host.backups ≡ Ok base → Newest host base
newest_of host base e = step (newest host.backups) refl e
  where
    step : (o : Option Backup) → newest host.backups ≡ o → found NoBackup (option_map (λ (b : Backup). b.tree) o) ≡ Ok base → Newest host base
    step None is h = absurd (cc)
    step (Some b) is h = record { backup = b; is_newest = is; tree_is = ok_is b.tree base h }

-- ---- what an incremental dump begins with

-- the dump is open with the tree of the host's last backup, whose line was asked for
pub record OpenedIncr (dump : SessionName) (host : List ℕ) (lines : List Line) (more : List Call) (state' : State) (faults' : ℕ) : Type 0 where
  pub office : Office
  pub names : Names
  pub faults : ℕ
  pub sound : IsSound office
  pub backup : Backup
  pub base_is : IsTree is_dir backup.tree
  pub found : backup_of office.hosts host backup.line.number ≡ Ok backup
  pub line_is : last_line lines ≡ Some backup.line
  pub has : HasDump office dump host backup.tree
  pub rest : Leads (Running office names) faults more state' faults'

pub opened_incr : (office : Office) (names : Names) (faults : ℕ) (host : List ℕ) (now : ℕ) (dump : SessionName) (lines : List Line)
    (next : ℕ) (other : Option SessionName) (more : List Call) (state' : State) (faults' : ℕ) → IsSound office
    → Leads (Running office names) faults (open_call host Incr now dump ∷ backups_call host lines next other ∷ more) state' faults'
    → OpenedIncr dump host lines more state' faults'
opened_incr office names faults host now dump lines next other more state' faults' sound leads =
    let a = answered office names faults (E.OpenDump host Incr now None) (A.Dump dump) _ state' faults' leads in
    let o = opened office host Incr now dump a.after a.carried in
    let w = newest_of o.0.value o.1 o.3 in
    let at = at_is _ office.hosts _ o.0 o.2 in
    let named = host_index-found office.hosts host o.0.index at.0 in
    let host_is : named.0 ≡ o.0.value = some_is named.0 o.0.value (sym named.1 ∙ at.1) in
    let sound_host : IsSoundHost o.0.value = sound.hosts.each o.0.index o.0.value at.1 in
    let shows : backup_of office.hosts host w.backup.line.number ≡ Ok w.backup =
    shown office host o.0.index (length o.0.value.backups - 1) o.0.value w.backup sound at.1 (ap (λ (h : Host). h.name) (sym host_is) ∙ named.2) w.is_newest in
    let b = answered a.after a.after_names a.faults (E.Backups host) (A.Backups lines next other) _ state' faults' a.rest in
    let s = backups_step a.after host o.0 lines next other b.after (ap (λ hs. host_at hs host) o.5 ∙ o.2) b.carried in
    record {
      office = a.after;
      names = b.after_names;
      faults = b.faults;
      sound = a.sound;
      backup = w.backup;
      base_is = (sound_host.backups.numbered.trees (length o.0.value.backups - 1) w.backup w.is_newest).paths;
      found = ap (λ hs. backup_of hs host w.backup.line.number) o.5 ∙ shows;
      line_is = ap last_line s.0 ∙ ap (λ n. slice_get (lines_of o.0.value.backups) (n - 1)) (length-lines o.0.value.backups)
          ∙ line_of o.0.value.backups (length o.0.value.backups - 1) w.backup w.is_newest;
      has = subst (λ t. HasDump a.after dump host t) (sym w.tree_is) o.4;
      rest = subst (λ (x : Office). Leads (Running x b.after_names) b.faults more state' faults') s.1 b.rest;
    }
