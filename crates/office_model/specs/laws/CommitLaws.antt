-- A commit, as the parts of an office in memory make it, and that it keeps an office sound.
use Rattle.std.specs.Prelude.{◌≡◌, ◌≢◌, ◌<◌, ◌≤◌, ◌&&◌, nat_le, nat_lt, ℕ, Bool, true, false, not, List, Option, None, Some, Ok, is_some, slice_get, slice_set, if◌then◌else◌, ◌⊎◌}
use Rattle.std.specs.Option.{option_map}
use Rattle.std.specs.List.{remove}
use Rattle.std.proofs.Common.{refl, sym, ap, ◌∙◌, subst, inl, inr, arith}
use Rattle.std.proofs.lemmas.Bool.{leb-true, ltb-true}
use Rattle.attr_records.specs.Items.{Tree}
use Rattle.backup_rules.specs.Values.{RuleSet}
use Rattle.backup_rules.specs.declared.lines.Kind.{Kind}
use Rattle.backup_rules.specs.declared.lines.Line.{Line}
use Rattle.receipts.specs.declared.session.SessionName.{SessionName}
use Rattle.office_model.specs.declared.answer.Answer.{Answer}
use Rattle.office_model.specs.declared.answer.Answer.TheVariants.{Committed}
use Rattle.office_model.specs.declared.answer.AnswerKind.TheVariants as K
use Rattle.office_model.specs.declared.refusal.BrokenRule.TheVariants.{NoSession, NumberBehind}
use Rattle.office_model.specs.Places.{AtEach, place_before}
use Rattle.office_model.specs.PlacesLaws.{AtEach-set, AtEach-longer, slice_get-set_other, slice_get-remove, place_before-other}
use Rattle.office_model.specs.Pool.{Pool, is_pooled, holds, with_tree}
use Rattle.receipts.specs.declared.receipt.Receipt.{Receipt}
use Rattle.office_model.specs.Office.{Office, Host, Backup, Dump, Stage, Names, dump_index, IsOver, IsUnspent, stages_left, number_limit, IsSound, IsTree, IsSoundHost, HasHost, AreDumps, IsPooledTree, IsPooledPartial, is_held}
use Rattle.receipts.specs.Session.{is_same_session}
use Rattle.office_model.specs.Meaning.{Carried, Same, found}
use Rattle.office_model.specs.Step.{kind_of}
use Rattle.office_model.specs.UsedNames.{AreSound}
use Rattle.office_model.specs.Repeats.{receipt_named}
use Rattle.office_model.specs.Parts.{dump_at, with_last, with_newest, filled_as}
use Rattle.backup_rules.specs.Fill.{stays_filled}
use Rattle.office_model.specs.events.Commit.{Ending, new_line, at_time, Committing, committed, after, new_backup, with_commit, ended, repeated, ends, meaning}
use Rattle.office_model.specs.events.Adopt.{adopted_line, is_free, as_there}
use Rattle.office_model.specs.events.Adopt as Adopt
use Rattle.office_model.specs.laws.Judging.{bound, passed, at_is, found_is}
use Rattle.office_model.specs.laws.ReceiptLaws.{AreReceipts-more, AreEnded-more, AtEachReceipt-more}
use Rattle.office_model.specs.laws.RepeatLaws.{given_as, again_is}
use Rattle.office_model.specs.laws.DurableLaws.{AreHosts-set, partial_more}
use Rattle.office_model.specs.laws.VolatileLaws.{dump_removed, over_dump_removed, pooled_dump_removed, pooled_more}
use Rattle.office_model.specs.laws.StageLaws.{AtEach-filter}
use Rattle.office_model.specs.laws.Lookups.{named}
use Rattle.office_model.specs.laws.HeldLaws.{Reason, pooled-with_tree, removed_held, one_holds, held_by, was_pooled, was_in_dumps}
use Rattle.office_model.specs.laws.Lawful.{IsLawful, Does, judged, does, does_nothing}
use Rattle.office_model.specs.laws.PoolLaws.{tree_keeps, tree_has, tree_order}
use Rattle.office_model.specs.laws.BackupLaws.{numbered_refilled, numbered_longer, last_longer, with_last-at}

-- what a soundly ended dump's line is: filled, of a number that the host has not used, below the limit
pub record IsLineOf (host : Host) (line : Line) : Type 0 where
  pub filled : line.filled ≡ true
  pub free : host.next ≤ line.number
  pub below : line.number < number_limit

abbrev pub EndsWell : Ending → Type 0
EndsWell ending = (host : Host) (dump : Dump) (line : Line) → host.next < number_limit → ending host dump ≡ Ok line → IsLineOf host line

at_time_well : (now : ℕ) → EndsWell (at_time now)
at_time_well now host dump line room e =
    let same : new_line host dump now ≡ line = cc in
    subst (IsLineOf host) same (record { filled = refl; free = omega arith; below = room })

as_there_well : (there : Line) → there.filled ≡ true → EndsWell (as_there there)
as_there_well there filled host dump line room e =
    let a = passed NumberBehind (not (is_free host.next there.number)) (Ok there) line e in
    let same : there ≡ line = let f = a.1 in cc in
    subst (IsLineOf host) same (free (nat_le host.next there.number) (nat_lt there.number number_limit) refl refl a.0)
  where
    free : (a b : Bool) → nat_le host.next there.number ≡ a → nat_lt there.number number_limit ≡ b → not (a && b) ≡ false → IsLineOf host there
    free true true e f g = record { filled = filled; free = leb-true host.next there.number e; below = ltb-true there.number number_limit f }
    free true false e f g = absurd (cc)
    free false b e f g = absurd (cc)

IsSoundHost-commit : (host : Host) (dump : Dump) (line : Line) → IsSoundHost host → IsLineOf host line → IsTree dump.tree
    → IsUnspent host.receipts dump.token → IsSoundHost (with_commit host dump line)
IsSoundHost-commit host dump line sound is tree unspent = record {
  numbers = omega (arith, is.below);
  backups = record {
    numbered = numbered_longer host.next _ (new_backup dump line) (numbered_refilled host.next (λ last. stays_filled host.rules last.line) host.backups sound.backups.numbered) is.free tree;
    last_filled = λ last e. ap (λ (x : Backup). x.line.filled) (last_longer (with_last (λ last. filled_as (stays_filled host.rules last.line) last) host.backups) (new_backup dump line) last e) ∙ is.filled;
  };
  partial = tt;
  receipts = AreReceipts-more dump.token dump.name line.number host.receipts sound.receipts unspent;
}

-- another open dump is of another host
other_host : (dumps : List Dump) (p : ℕ) (dump : Dump) → AreDumps dumps → slice_get dumps p ≡ Some dump
    → (i : ℕ) (other : Dump) → slice_get (remove dumps p) i ≡ Some other → other.host ≢ dump.host
other_host dumps p dump are at i other at_other same =
    place_before-other p i (are.one_a_host (place_before p i) p other dump (sym (slice_get-remove dumps p i) ∙ at_other) at same)

-- the other open dumps have their hosts after a commit
hosted-commit : (hosts : List Host) (dumps : List Dump) (p : ℕ) (dump : Dump) (new : Host) → AreDumps dumps → AtEach (HasHost hosts) dumps
    → slice_get dumps p ≡ Some dump → AtEach (HasHost (slice_set hosts dump.host new)) (remove dumps p)
hosted-commit hosts dumps p dump new are hosted at i other at_other =
    let has : HasHost hosts other = hosted (place_before p i) other (sym (slice_get-remove dumps p i) ∙ at_other) in
    record { host = has.host; is_host = slice_get-set_other hosts dump.host other.host new (other_host dumps p dump are at i other at_other) ∙ has.is_host; has_number = has.has_number; unspent = has.unspent }

no_later : (m n : ℕ) → m ≡ n → m ≤ n
no_later m n e = omega arith

-- the name of a dump that was committed is no open session's any more
over_committed : (office : Office) (p : ℕ) (dump : Dump) → IsSound office → slice_get office.dumps p ≡ Some dump
    → (receipt : Receipt) → receipt.name ≡ dump.name → IsOver office.epoch office.sequence (remove office.dumps p) office.restores receipt
over_committed office p dump sound at receipt is = record {
  given = λ e. subst (λ (n : SessionName). n.sequence < office.sequence) (sym is) (sound.sessions.dumps_given p dump at).given_out;
  no_dump = λ i d there same. place_before-other p i
      (sound.sessions.dumps_differ (place_before p i) p d dump (sym (slice_get-remove office.dumps p i) ∙ there) at (same ∙ is));
  no_restore = λ j r there same. sound.sessions.apart p j dump r at there (sym (same ∙ is));
}

pooled_newest : (pool pool' : Pool) (rules : RuleSet) (backups : List Backup) (new : Backup)
    → ((tree : Tree) → IsPooledTree pool tree → IsPooledTree pool' tree)
    → AtEach (λ (backup : Backup). IsPooledTree pool backup.tree) backups → IsPooledTree pool' new.tree
    → AtEach (λ (backup : Backup). IsPooledTree pool' backup.tree) (with_newest rules backups new)
pooled_newest pool pool' rules backups new more each pooled = AtEach-longer (λ (backup : Backup). IsPooledTree pool' backup.tree) _ new refilled pooled
  where
    refilled : AtEach (λ (backup : Backup). IsPooledTree pool' backup.tree) (with_last (λ last. filled_as (stays_filled rules last.line) last) backups)
    refilled i backup at =
        let w = with_last-at (λ (b : Backup). b.tree) (λ last. filled_as (stays_filled rules last.line) last) (λ last. refl) backups i backup at in
        subst (IsPooledTree pool') (sym w.2) (more w.0.tree (each i w.0 w.1))

pub IsSound-committed : (office : Office) (session : SessionName) (ending : Ending) (parts : Committing) → EndsWell ending → IsSound office
    → committed session ending office.hosts office.pool office.dumps ≡ Ok parts
    → IsSound (after session office parts)
IsSound-committed office session ending parts well sound e =
    let a = bound (dump_at office.dumps session) _ parts e in
    let dump : Dump = a.0.value in
    let is_dump : slice_get office.dumps a.0.index ≡ Some dump = (at_is _ office.dumps _ a.0 a.1).1 in
    let b = bound (found NoSession (slice_get office.hosts dump.host)) _ parts a.2 in
    let host : Host = b.0 in
    let is_host : slice_get office.hosts dump.host ≡ Some host = found_is _ _ _ b.1 in
    let has : HasHost office.hosts dump = sound.hosted a.0.index dump is_dump in
    let same_host : has.host ≡ host = let h = has.is_host in cc in
    let room : host.next < number_limit = subst (λ (h : Host). h.next < number_limit) same_host has.has_number in
    let unspent : IsUnspent host.receipts dump.token = subst (λ (h : Host). IsUnspent h.receipts dump.token) same_host has.unspent in
    let l = bound (ending host dump) _ parts b.2 in
    let line : Line = l.0 in
    let more : (tree : Tree) → IsPooledTree office.pool tree → IsPooledTree (with_tree office.pool dump.tree) tree = λ tree pooled content h. tree_keeps office.pool dump.tree content (pooled content h) in
    let made : Committing = record {
      number = line.number;
      hosts = slice_set office.hosts dump.host (with_commit host dump line);
      pool = with_tree office.pool dump.tree;
      dumps = remove office.dumps a.0.index;
    } in
    let same : made ≡ parts = let f = l.2 in cc in
    subst (λ (p : Committing). IsSound (after session office p)) same (record {
      kept = record {
        hosts = AreHosts-set office.hosts dump.host host (with_commit host dump line) is_host refl
            (IsSoundHost-commit host dump line (sound.hosts.each dump.host host is_host) (well host dump line room l.1) (sound.dumps.trees a.0.index dump is_dump) unspent) sound.hosts;
        pool_order = tree_order office.pool dump.tree sound.pool_order;
        of_backups = AtEach-set (λ (h : Host). AtEach (λ (backup : Backup). IsPooledTree (with_tree office.pool dump.tree) backup.tree) h.backups) office.hosts dump.host (with_commit host dump line)
            (λ i h at n backup at_backup. more backup.tree (sound.of_backups i h at n backup at_backup))
            (pooled_newest office.pool (with_tree office.pool dump.tree) host.rules host.backups (new_backup dump line) more (sound.of_backups dump.host host is_host) (tree_has office.pool dump.tree));
        of_partials = AtEach-set (IsPooledPartial (with_tree office.pool dump.tree)) office.hosts dump.host (with_commit host dump line)
            (λ i h at. partial_more office.pool (with_tree office.pool dump.tree) h more (sound.of_partials i h at)) tt;
        ended = AreEnded-more office.hosts dump.host host (with_commit host dump line) dump.token dump.name line.number is_host refl office.epoch sound.ended
            (λ i n r at same. (sound.over i n r at).no_dump a.0.index dump is_dump (sym same))
            (no_later dump.name.epoch office.epoch (sound.sessions.dumps_given a.0.index dump is_dump).this_epoch);
      };
      now = dump_removed office.epoch office.volatile sound.now a.0.index dump session is_dump (named office.dumps session a.0.index dump (at_is _ office.dumps _ a.0 a.1).0 is_dump);
      tied = record {
        hosted = hosted-commit office.hosts office.dumps a.0.index dump (with_commit host dump line) sound.dumps sound.hosted is_dump;
        over = AtEachReceipt-more office.hosts dump.host host (with_commit host dump line) dump.token dump.name line.number is_host refl
            (IsOver office.epoch office.sequence (remove office.dumps a.0.index) office.restores)
            (λ i n r at. over_dump_removed office.epoch office.sequence office.dumps office.restores r (sound.over i n r at) a.0.index)
            (over_committed office a.0.index dump sound is_dump);
        pooled = pooled_dump_removed (with_tree office.pool dump.tree) office.volatile
            (pooled_more office.pool office.volatile sound.pooled (with_tree office.pool dump.tree) (λ i d at. more d.base) (λ i r at. more r.tree)
            (λ i r at was content h. tree_keeps office.pool dump.tree content (was content h))) a.0.index (stages_left session office.stages);
      };
    })

held-committed : (content : List ℕ) (office : Office) (session : SessionName) (ending : Ending) (parts : Committing)
    → committed session ending office.hosts office.pool office.dumps ≡ Ok parts
    → is_held parts.pool parts.dumps content ≡ true → Reason content office Same
held-committed content office session ending parts e h =
    let a = bound (dump_at office.dumps session) _ parts e in
    let was : slice_get office.dumps a.0.index ≡ Some a.0.value = (at_is _ office.dumps _ a.0 a.1).1 in
    let b = bound (found NoSession (slice_get office.hosts a.0.value.host)) _ parts a.2 in
    let l = bound (ending b.0 a.0.value) _ parts b.2 in
    let made : Committing = record {
      number = l.0.number;
      hosts = slice_set office.hosts a.0.value.host (with_commit b.0 a.0.value l.0);
      pool = with_tree office.pool a.0.value.tree;
      dumps = remove office.dumps a.0.index;
    } in
    let same : made ≡ parts = let f = l.2 in cc in
    held_by content office Same (with_tree office.pool a.0.value.tree) (remove office.dumps a.0.index)
    (λ g. step a.0.index a.0.value was (pooled-with_tree content office.pool a.0.value.tree g)) (λ g. was_in_dumps content office Same (removed_held content office.dumps a.0.index g))
    (ap (λ (p : Committing). is_held p.pool p.dumps content) same ∙ h)
  where
    step : (i : ℕ) (dump : Dump) → slice_get office.dumps i ≡ Some dump
        → (is_pooled office.pool content ≡ true) ⊎ (holds dump.tree content ≡ true) → Reason content office Same
    step i dump at (inl f) = was_pooled content office Same f
    step i dump at (inr f) = was_in_dumps content office Same (one_holds content office.dumps i dump at f)

ended_does : (session : SessionName) (ending : Ending) (office : Office) (names : Names) (c : Carried) → EndsWell ending → AreSound office names
    → ended session ending office ≡ Ok c
    → Does (ends session ending) office names c
ended_does session ending office names c well sound e =
    let a = bound (committed session ending office.hosts office.pool office.dumps) _ c e in
    does _ office names sound _ c a.2 (record {
      in_kind = refl;
      sound = IsSound-committed office session ending a.0 well sound.office a.1;
      ids = refl;
      contents = λ stays. absurd (cc);
      numbers = record {
        stages = AtEach-filter (λ (s : Stage). s.number < names.next_stage) (λ (s : Stage). not (is_same_session s.dump session)) office.stages sound.names.given.stages;
        readers = sound.names.given.readers;
      };
      held = λ content h. held-committed content office session ending a.0 a.1 h;
    })

-- ---- repeated

repeated_kind : (session : SessionName) (hosts : List Host) (dumps : List Dump) (answer : Answer) → repeated session hosts dumps ≡ Some answer
    → kind_of answer ≡ K.Committed
repeated_kind session hosts dumps answer e = step (is_some (dump_index dumps session)) (receipt_named hosts session) e
  where
    step : (b : Bool) (r : Option Receipt) → (if b then None else option_map (λ (x : Receipt). Committed x.number) r) ≡ Some answer
        → kind_of answer ≡ K.Committed
    step true r f = absurd (cc)
    step false None f = absurd (cc)
    step false (Some receipt) f = let same : Committed receipt.number ≡ answer = cc in ap kind_of (sym same)

ending_lawful : (session : SessionName) (ending : Ending) → EndsWell ending → IsLawful (ends session ending)
ending_lawful session ending well office names c sound e =
    step (again_is office (repeated session office.hosts office.dumps) (ended session ending office) c e)
  where
    step : ((answer : Answer) × (repeated session office.hosts office.dumps ≡ Some answer) × (judged (given_as answer office) ≡ judged c))
        ⊎ ((repeated session office.hosts office.dumps ≡ None) × (ended session ending office ≡ Ok c)) → Does (ends session ending) office names c
    step (inl f) = does _ office names sound _ c f.2 (does_nothing _ office names sound f.0 (repeated_kind session office.hosts office.dumps f.0 f.1))
    step (inr f) = ended_does session ending office names c well sound f.1

pub lawful : (session : SessionName) (now : ℕ) → IsLawful (meaning session now)
lawful session now = ending_lawful session (at_time now) (at_time_well now)

pub adopt : (session : SessionName) (number start end : ℕ) (kind : Kind) → IsLawful (Adopt.meaning session number start end kind)
adopt session number start end kind = ending_lawful session (as_there (adopted_line number start end kind)) (as_there_well (adopted_line number start end kind) refl)
