-- What the calls of a dump make of an office: an open dump's tree after puts and removals, and the backup that a commit leaves.
--     HasDump      a dump is open, with this tree
--     Shows      a host has a backup of this number, with this tree
--     opened_full, put_step, commit_step      from one to the other
use Rattle.std.specs.Prelude.{◌≡◌, ◌<◌, ℕ, ◌+◌, ◌==◌, Bool, true, false, List, [], ◌∷◌, ◌++◌, length, Option, Some, None, Ok, slice_get, slice_set, nat_lt, nat_le, is_some, if◌then◌else◌}
use Rattle.std.specs.Option.{option_map}
use Rattle.std.specs.List.{remove, position_from}
use Rattle.std.proofs.lemmas.Bool.Decides.{nat_tests, Decides-eqb}
use Rattle.std.proofs.Common.{refl, sym, ap, ◌∙◌, subst, arith}
use Rattle.std.proofs.lemmas.Option.{slice_get_within}
use Rattle.attr_records.specs.declared.nodes.Item.{Item}
use Rattle.attr_records.specs.Items.{Tree, is_dir, is_large, content_of}
use Rattle.attr_records.specs.Trees.{with_node}
use Rattle.attr_records.specs.Trees as Trees
use Rattle.backup_rules.specs.declared.lines.Kind.{Kind}
use Rattle.receipts.specs.declared.session.SessionName.{SessionName}
use Rattle.receipts.specs.declared.receipt.Receipt.{Receipt}
use Rattle.office_model.specs.declared.event.PutItem.TheVariants.{Whole}
use Rattle.office_model.specs.declared.answer.Answer.{Answer}
use Rattle.office_model.specs.declared.answer.Answer.TheVariants as A
use Rattle.office_model.specs.declared.refusal.BrokenRule.TheVariants.{Put as PutRule, NoSession}
use Rattle.office_model.specs.PlacesLaws.{slice_get-set_same, position-found, position-some}
use Rattle.office_model.specs.Pool.{with_tree}
use Rattle.office_model.specs.Office.{Office, Host, Backup, Dump, Names, IsSound, IsSoundHost, AreNumbered, dump_index, dump_index_of_host, backup_index, number_limit, last_sequence, with_dumps, numbered}
use Rattle.office_model.specs.Meaning.{Carried, Judged, found, ◌>>=◌}
use Rattle.office_model.specs.Repeats.{again, receipt_named}
use Rattle.office_model.specs.Parts.{At, dump_at, host_at, backup_at, backup_of, with_last, filled_as}
use Rattle.backup_rules.specs.Fill.{stays_filled}
use Rattle.office_model.specs.events.OpenDump as OpenDumpEvent
use Rattle.office_model.specs.events.Put as PutEvent
use Rattle.office_model.specs.events.Commit as CommitEvent
use Rattle.office_model.specs.laws.Judging.{bound, passed, kept, at_is, at_found, found_is}
use Rattle.office_model.specs.laws.Lookups.{dump_index-at, host_index-at, host_index-found}

-- a dump is open: its name, its host's, its tree
pub record HasDump (office : Office) (session : SessionName) (name : List ℕ) (tree : Tree) : Type 0 where
  pub index : ℕ
  pub dump : Dump
  pub is_dump : slice_get office.dumps index ≡ Some dump
  pub name_is : dump.name ≡ session
  pub tree_is : dump.tree ≡ tree
  pub host : Host
  pub is_host : slice_get office.hosts dump.host ≡ Some host
  pub host_name : host.name ≡ name

-- a host has a backup of this number, with this tree
pub record Shows (office : Office) (name : List ℕ) (number : ℕ) (tree : Tree) : Type 0 where
  pub backup : Backup
  pub found : backup_of office.hosts name number ≡ Ok backup
  pub tree_is : backup.tree ≡ tree

pub some_is : {A : Type 0} (x y : A) → Some x ≡ Some y → x ≡ y
some_is x y e = cc

pub after_of : (answer answer' : Answer) (after after' : Office)
    → (let made : Judged Carried = Ok (record { answer = answer; after = after }) in made ≡ Ok (record { answer = answer'; after = after' })) → after ≡ after'
after_of answer answer' after after' e =
    let same : (record { answer = answer; after = after }) ≡ (record { answer = answer'; after = after' }) = cc in ap (λ (c : Carried). c.after) same

pub answer_of : (answer answer' : Answer) (after after' : Office)
    → (let made : Judged Carried = Ok (record { answer = answer; after = after }) in made ≡ Ok (record { answer = answer'; after = after' })) → answer ≡ answer'
answer_of answer answer' after after' e =
    let same : (record { answer = answer; after = after }) ≡ (record { answer = answer'; after = after' }) = cc in ap (λ (c : Carried). c.answer) same

-- the dump of a session that is asked for is the one that is open
pub asked_dump : (office : Office) (session : SessionName) (name : List ℕ) (tree : Tree) → IsSound office
    → (has : HasDump office session name tree) → (a : At Dump) → dump_at office.dumps session ≡ Ok a
    → (a.index ≡ has.index) × (a.value ≡ has.dump)
asked_dump office session name tree sound has a e =
    let at = at_is _ office.dumps _ a e in
    let here = dump_index-at office.dumps session has.index has.dump sound.sessions.dumps_differ has.is_dump has.name_is in
    let same : a.index ≡ has.index = some_is a.index has.index (sym at.0 ∙ here) in
    (same, some_is a.value has.dump (sym at.1 ∙ ap (slice_get office.dumps) same ∙ has.is_dump))

-- a dump's tree is changed
pub retreed : (office : Office) (session : SessionName) (name : List ℕ) (tree tree' : Tree) (has : HasDump office session name tree)
    → HasDump (with_dumps office (slice_set office.dumps has.index (record has.dump { tree = tree' }))) session name tree'
retreed office session name tree tree' has = record {
  index = has.index;
  dump = record has.dump { tree = tree' };
  is_dump = slice_get-set_same office.dumps has.index (record has.dump { tree = tree' }) (slice_get_within office.dumps has.index has.dump has.is_dump);
  name_is = has.name_is;
  tree_is = refl;
  host = has.host;
  is_host = has.is_host;
  host_name = has.host_name;
}

-- dumps in one of which an item was put
pub put_dumps : (large : Item → Bool) (full : Bool) (office : Office) (session : SessionName) (name : List ℕ) (tree : Tree) (path : List ℕ)
    (item : Item) (dumps : List Dump) → IsSound office → HasDump office session name tree
    → PutEvent.with_put large session path item full office.dumps ≡ Ok dumps
    → HasDump (with_dumps office dumps) session name (with_node tree path item)
put_dumps large full office session name tree path item dumps sound has e =
    let a = bound (dump_at office.dumps session) _ dumps e in
    let same = asked_dump office session name tree sound has a.0 a.1 in
    let b = kept (option_map PutRule (Trees.broken_put is_dir large a.0.value.tree path item)) _ dumps a.2 in
    let c : (full ≡ false) × (Ok (slice_set office.dumps a.0.index (PutEvent.with_item a.0.value path item)) ≡ Ok dumps) = passed _ _ _ _ b.1 in
    let dumps_are : slice_set office.dumps a.0.index (PutEvent.with_item a.0.value path item) ≡ dumps = let f = c.1 in cc in
    let here : slice_set office.dumps has.index (record has.dump { tree = with_node has.dump.tree path item }) ≡ dumps =
    subst (λ i. slice_set office.dumps i (PutEvent.with_item has.dump path item) ≡ dumps) same.0
    (subst (λ (d : Dump). slice_set office.dumps a.0.index (PutEvent.with_item d path item) ≡ dumps) same.1 dumps_are) in
    subst (λ ds. HasDump (with_dumps office ds) session name (with_node tree path item)) here
    (subst (λ t. HasDump (with_dumps office (slice_set office.dumps has.index (record has.dump { tree = with_node has.dump.tree path item }))) session name (with_node t path item)) has.tree_is
    (retreed office session name tree (with_node has.dump.tree path item) has))

-- a put that was answered
pub put_step : (office : Office) (names : Names) (session : SessionName) (name : List ℕ) (tree : Tree) (path : List ℕ) (item : Item)
    (answer : Answer) (after : Office) → IsSound office → HasDump office session name tree
    → PutEvent.carried session path (Whole item) None office names ≡ Ok (record { answer = answer; after = after })
    → HasDump after session name (with_node tree path item)
put_step office names session name tree path item answer after sound has e =
    let full : Bool = PutEvent.is_chain_full office.pool office.dumps names (content_of item) in
    let w = bound (PutEvent.with_put is_large session path item full office.dumps) (λ dumps. Ok (record { answer = A.Done; after = with_dumps office dumps })) _ e in
    subst (λ (o : Office). HasDump o session name (with_node tree path item)) (after_of A.Done answer (with_dumps office w.0) after w.2)
    (put_dumps is_large full office session name tree path item w.0 sound has w.1)

-- ---- opening

pub at_end : {X : Type 0} (xs : List X) (x : X) → slice_get (xs ++ x ∷ []) (length xs) ≡ Some x
at_end [] x = refl
at_end (y ∷ xs) x = at_end xs x

dump_is : (a b : SessionName) → A.Dump a ≡ A.Dump b → a ≡ b
dump_is a b e = cc

-- what a dump begins with is its base
pub opened : (office : Office) (name : List ℕ) (kind : Kind) (now : ℕ) (session : SessionName) (after : Office)
    → OpenDumpEvent.carried name kind now None office ≡ Ok (record { answer = A.Dump session; after = after })
    → (host : At Host) × (base : Tree) × (host_at office.hosts name ≡ Ok host) × (OpenDumpEvent.base_of kind host.value.backups ≡ Ok base)
    × HasDump after session name base × (after.hosts ≡ office.hosts)
opened office name kind now session after e =
    let w = bound (OpenDumpEvent.with_dump name kind now None (OpenDumpEvent.next_session office) office.hosts office.dumps)
    (λ dumps. Ok (record { answer = A.Dump (OpenDumpEvent.next_session office); after = numbered (with_dumps office dumps) })) _ e in
    let a = bound (host_at office.hosts name) _ w.0 w.1 in
    let b = bound (OpenDumpEvent.base_of kind a.0.value.backups) _ w.0 a.2 in
    let c : (is_some (dump_index_of_host office.dumps a.0.index) ≡ false) × (_ ≡ Ok w.0) = passed _ _ _ _ b.2 in
    let d : (nat_le number_limit a.0.value.next ≡ false) × (_ ≡ Ok w.0) = passed _ _ _ _ c.1 in
    let f : (nat_le last_sequence (OpenDumpEvent.next_session office).sequence ≡ false)
    × (Ok (office.dumps ++ OpenDumpEvent.new_dump (OpenDumpEvent.next_session office) a.0.index kind now b.0 ∷ []) ≡ Ok w.0) = passed _ _ _ _ d.1 in
    let new : Dump = OpenDumpEvent.new_dump (OpenDumpEvent.next_session office) a.0.index kind now b.0 in
    let dumps_are : office.dumps ++ new ∷ [] ≡ w.0 = let g : Ok (office.dumps ++ new ∷ []) ≡ Ok w.0 = f.1 in cc in
    let named : OpenDumpEvent.next_session office ≡ session = dump_is _ _ (answer_of _ (A.Dump session) _ after w.2) in
    let after_is : numbered (with_dumps office w.0) ≡ after = after_of _ (A.Dump session) _ after w.2 in
    let at = at_is _ office.hosts _ a.0 a.1 in
    let host = host_index-found office.hosts name a.0.index at.0 in
    let has : HasDump (numbered (with_dumps office (office.dumps ++ new ∷ []))) (OpenDumpEvent.next_session office) name b.0 = record {
      index = length office.dumps;
      dump = new;
      is_dump = at_end office.dumps new;
      name_is = refl;
      tree_is = refl;
      host = host.0;
      is_host = host.1;
      host_name = host.2;
    } in (
      a.0,
      b.0,
      a.1,
      b.1,
      subst (λ (o : Office). HasDump o session name b.0) after_is
          (subst (λ ds. HasDump (numbered (with_dumps office ds)) session name b.0) dumps_are
          (subst (λ s. HasDump (numbered (with_dumps office (office.dumps ++ new ∷ []))) s name b.0) named has)),
      sym (ap (λ (o : Office). o.hosts) after_is),
    )

-- ---- committing

same_place : (next : ℕ) (backups : List Backup) → AreNumbered next backups → (i j : ℕ) (a b : Backup) → slice_get backups i ≡ Some a
    → slice_get backups j ≡ Some b → a.line.number ≡ b.line.number → i ≡ j
same_place next backups are i j a b at_i at_j same = step (nat_lt i j) refl (nat_lt j i) refl
  where
    step : (x : Bool) → nat_lt i j ≡ x → (y : Bool) → nat_lt j i ≡ y → i ≡ j
    step true e y f = let less : i < j = grind (arith, nat_tests) in let rise = are.rise i j a b less at_i at_j in absurd (omega arith)
    step false e true f = let less : j < i = grind (arith, nat_tests) in let rise = are.rise j i b a less at_j at_i in absurd (omega arith)
    step false e false f = grind (arith, nat_tests)

number_test : (m n : ℕ) → (m == n) ≡ true → m ≡ n
number_test m n e = (Decides-eqb m n).0 e

-- where a backup stands, its number finds it
backup_found_at : (next : ℕ) (backups : List Backup) (i : ℕ) (backup : Backup) → AreNumbered next backups → slice_get backups i ≡ Some backup
    → backup_index backups backup.line.number ≡ Some i
backup_found_at next backups i backup are at =
    step (position-some (λ (b : Backup). b.line.number == backup.line.number) backups i backup at ((Decides-eqb backup.line.number backup.line.number).1 refl))
  where
    step : (j : ℕ) × (position_from (λ (b : Backup). b.line.number == backup.line.number) 0 backups ≡ Some j)
        → position_from (λ (b : Backup). b.line.number == backup.line.number) 0 backups ≡ Some i
    step w = place (position-found (λ (b : Backup). b.line.number == backup.line.number) backups w.0 w.1)
      where
        place : (y : Backup) × (slice_get backups w.0 ≡ Some y) × ((y.line.number == backup.line.number) ≡ true)
            → position_from (λ (b : Backup). b.line.number == backup.line.number) 0 backups ≡ Some i
        place v = w.1 ∙ ap Some (same_place next backups are w.0 i v.0 backup v.1 at (number_test _ _ v.2))

-- a host's backup is found by the host's name and its number
pub shown : (office : Office) (name : List ℕ) (place i : ℕ) (host : Host) (backup : Backup) → IsSound office
    → slice_get office.hosts place ≡ Some host → host.name ≡ name → slice_get host.backups i ≡ Some backup
    → backup_of office.hosts name backup.line.number ≡ Ok backup
shown office name place i host backup sound is_host named is_backup =
    let sound_host : IsSoundHost host = sound.hosts.each place host is_host in
    let index = host_index-at office.hosts name place host sound.hosts.differ is_host named in
    let number = backup_found_at host.next host.backups i backup sound_host.backups.numbered is_backup in
    let first : host_at office.hosts name ≡ Ok (record { index = place; value = host }) = at_found _ office.hosts _ place host index is_host in
    let second : backup_at host backup.line.number ≡ Ok (record { index = i; value = backup }) = at_found _ host.backups _ i backup number is_backup in
    ap (λ (h : Judged (At Host)). h >>= λ (host : At Host). backup_at host.value backup.line.number >>= λ (b : At Backup). Ok b.value) first
    ∙ ap (λ (b : Judged (At Backup)). b >>= λ (b : At Backup). Ok b.value) second

committed_is : (m n : ℕ) → A.Committed m ≡ A.Committed n → m ≡ n
committed_is m n e = cc

-- the commit of an open dump repeats none
unrepeated : (session : SessionName) (now i : ℕ) (office : Office) → dump_index office.dumps session ≡ Some i
    → CommitEvent.carried session (CommitEvent.at_time now) office ≡ CommitEvent.ended session (CommitEvent.at_time now) office
unrepeated session now i office is = ap (λ (place : Option ℕ). again office
    (if is_some place then None else option_map (λ (receipt : Receipt). A.Committed receipt.number) (receipt_named office.hosts session))
    (CommitEvent.ended session (CommitEvent.at_time now) office)) is

pub commit_step : (office : Office) (session : SessionName) (name : List ℕ) (tree : Tree) (now number : ℕ) (after : Office)
    → IsSound office → IsSound after → HasDump office session name tree
    → CommitEvent.carried session (CommitEvent.at_time now) office ≡ Ok (record { answer = A.Committed number; after = after })
    → Shows after name number tree
commit_step office session name tree now number after sound sound' has e =
    let at_index = dump_index-at office.dumps session has.index has.dump sound.sessions.dumps_differ has.is_dump has.name_is in
    let w = bound (CommitEvent.committed session (CommitEvent.at_time now) office.hosts office.pool office.dumps)
    (λ parts. Ok (record { answer = A.Committed parts.number; after = CommitEvent.after session office parts })) _
    (sym (unrepeated session now has.index office at_index) ∙ e) in
    let a = bound (dump_at office.dumps session) _ w.0 w.1 in
    let same = asked_dump office session name tree sound has a.0 a.1 in
    let b = bound (found NoSession (slice_get office.hosts a.0.value.host)) _ w.0 a.2 in
    let is_host : slice_get office.hosts a.0.value.host ≡ Some b.0 = found_is _ _ _ b.1 in
    let place_is : a.0.value.host ≡ has.dump.host = ap (λ (d : Dump). d.host) same.1 in
    let host_is : b.0 ≡ has.host = some_is b.0 has.host (sym is_host ∙ ap (slice_get office.hosts) place_is ∙ has.is_host) in
    let made : CommitEvent.Committing = record {
      number = b.0.next;
      hosts = slice_set office.hosts a.0.value.host (CommitEvent.with_commit b.0 a.0.value (CommitEvent.new_line b.0 a.0.value now));
      pool = with_tree office.pool a.0.value.tree;
      dumps = remove office.dumps a.0.index;
    } in
    let made_is : made ≡ w.0 = let f : Ok made ≡ Ok w.0 = b.2 in cc in
    let after_is : CommitEvent.after session office w.0 ≡ after = after_of _ (A.Committed number) _ after w.2 in
    let number_is : b.0.next ≡ number = ap (λ (c : CommitEvent.Committing). c.number) made_is ∙ committed_is _ _ (answer_of _ (A.Committed number) _ after w.2) in
    let host' : Host = CommitEvent.with_commit b.0 a.0.value (CommitEvent.new_line b.0 a.0.value now) in
    let hosts_are : slice_set office.hosts a.0.value.host host' ≡ after.hosts =
    ap (λ (c : CommitEvent.Committing). c.hosts) made_is ∙ ap (λ (o : Office). o.hosts) after_is in
    let backup : Backup = CommitEvent.new_backup a.0.value (CommitEvent.new_line b.0 a.0.value now) in
    let earlier : List Backup = with_last (λ last. filled_as (stays_filled b.0.rules last.line) last) b.0.backups in
    let is_host' : slice_get after.hosts a.0.value.host ≡ Some host' =
    ap (λ hs. slice_get hs a.0.value.host) (sym hosts_are)
    ∙ slice_get-set_same office.hosts a.0.value.host host' (slice_get_within office.hosts a.0.value.host b.0 is_host) in
    let named : host'.name ≡ name = ap (λ (h : Host). h.name) host_is ∙ has.host_name in
    record {
      backup = backup;
      found = ap (λ n. backup_of after.hosts name n) (sym number_is)
          ∙ shown after name a.0.value.host (length earlier) host' backup sound' is_host' named (at_end earlier backup);
      tree_is = ap (λ (d : Dump). d.tree) same.1 ∙ has.tree_is;
    }
