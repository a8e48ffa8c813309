-- An open dump's tree with a node more, or without a path, keeps an office sound.
use Rattle.std.specs.Prelude.{◌≡◌, ◌<◌, ℕ, Bool, true, false, not, List, Option, Some, None, Ok, Err, is_some, slice_get, slice_set, ◌⊎◌}
use Rattle.std.specs.List.{remove as remove_at}
use Rattle.std.specs.Option.{option_map, option_and_then}
use Rattle.std.proofs.Common.{refl, sym, ap, ◌∙◌, subst, inl, inr, arith}
use Rattle.attr_records.specs.declared.nodes.Item.{Item}
use Rattle.attr_records.specs.declared.trees.PutRule.{PutRule}
use Rattle.attr_records.specs.Items.{Tree, content_of, is_dir, is_large, some_bytes}
use Rattle.attr_records.specs.Paths.{is_within}
use Rattle.attr_records.specs.Trees as Trees
use Rattle.attr_records.specs.TreeLaws as TreeLaws
use Rattle.receipts.specs.declared.session.SessionName.{SessionName}
use Rattle.receipts.specs.declared.session.Token.{Token}
use Rattle.office_model.specs.declared.event.StagedFile.{StagedFile}
use Rattle.office_model.specs.declared.event.PutItem.{PutItem}
use Rattle.office_model.specs.declared.event.PutItem.TheVariants.{Whole, Staged}
use Rattle.office_model.specs.declared.answer.Answer.TheVariants.{Done}
use Rattle.office_model.specs.declared.refusal.BrokenRule.TheVariants.{Put, NoSession}
use Rattle.office_model.specs.Places.{AtEach}
use Rattle.office_model.specs.PlacesLaws.{AtEach-remove}
use Rattle.office_model.specs.Pool.{is_content}
use Rattle.office_model.specs.Office.{Office, Dump, Stage, stage_index, stage_content, Names, with_dumps, with_stages, IsSound, IsTree, in_dumps}
use Rattle.office_model.specs.Meaning.{Carried, Judged, Same, AddsStage}
use Rattle.receipts.specs.Session.{is_same_session}
use Rattle.office_model.specs.Parts.{At, dump_at, stage_at}
use Rattle.office_model.specs.UsedNames.{AreSound, named_content}
use Rattle.office_model.specs.events.Put as PutEvent
use Rattle.office_model.specs.events.Put.{with_item, with_put, is_chain_full, name_change}
use Rattle.office_model.specs.events.Remove as Remove
use Rattle.office_model.specs.laws.Judging.{bound, passed, kept, at_is}
use Rattle.office_model.specs.laws.DurableLaws.{kept_key}
use Rattle.office_model.specs.laws.RepeatLaws.{IsSound-retreed, SameKept, given_as, once_does}
use Rattle.office_model.specs.laws.StageLaws.{IsSound-stage_removed}
use Rattle.office_model.specs.laws.HeldLaws.{Reason, holds-filter, holds-put, is_its_content, set_held, held_by, was_pooled, was_in_dumps}
use Rattle.office_model.specs.laws.Lawful.{IsLawful, Does, does, does_nothing, does_stages, does_dumps}

-- ---- a node more

module _ (large : Item → Bool) where
  IsTree-put : (tree : Tree) (path : List ℕ) (item : Item) → IsTree tree → Trees.broken_put is_dir large tree path item ≡ None
      → IsTree (Trees.with_node tree path item)
  IsTree-put tree path item was rule = record {
    paths = TreeLaws.IsTree-with_node is_dir large tree path item was.paths rule;
    few = TreeLaws.few-with_node is_dir large tree path item was.paths.in_order was.few rule;
  }

  unbroken : (rule : Option PutRule) → option_map Put rule ≡ None → rule ≡ None
  unbroken None e = refl
  unbroken (Some rule) e = absurd (cc)

  -- what it says that an item may be put
  pub record MayPut (session : SessionName) (path : List ℕ) (item : Item) (full : Bool) (dumps new : List Dump) : Type 0 where
    pub index : ℕ
    pub dump : Dump
    pub is_dump : slice_get dumps index ≡ Some dump
    pub no_rule : Trees.broken_put is_dir large dump.tree path item ≡ None
    pub not_full : full ≡ false
    pub new_is : slice_set dumps index (with_item dump path item) ≡ new

  pub may_put : (session : SessionName) (path : List ℕ) (item : Item) (full : Bool) (dumps new : List Dump)
      → with_put large session path item full dumps ≡ Ok new → MayPut session path item full dumps new
  may_put session path item full dumps new e =
      let a = bound (dump_at dumps session) _ new e in
      let b = kept (option_map Put (Trees.broken_put is_dir large a.0.value.tree path item)) _ new a.2 in
      let c : (full ≡ false) × (Ok (slice_set dumps a.0.index (with_item a.0.value path item)) ≡ Ok new) = passed _ _ _ _ b.1 in
      record {
        index = a.0.index;
        dump = a.0.value;
        is_dump = (at_is _ dumps _ a.0 a.1).1;
        no_rule = unbroken _ b.0;
        not_full = c.0;
        new_is = let g = c.1 in cc;
      }

  pub IsSound-with_put : (office : Office) (session : SessionName) (path : List ℕ) (item : Item) (full : Bool) (dumps : List Dump)
      → IsSound office
      → with_put large session path item full office.dumps ≡ Ok dumps → IsSound (with_dumps office dumps)
  IsSound-with_put office session path item full dumps sound e =
      let may : MayPut session path item full office.dumps dumps = may_put session path item full office.dumps dumps e in
      let tree : IsTree (with_item may.dump path item).tree = IsTree-put may.dump.tree path item (sound.dumps.trees may.index may.dump may.is_dump) may.no_rule in
      subst (λ ds. IsSound (with_dumps office ds)) may.new_is
      (IsSound-retreed office may.index may.dump (with_item may.dump path item) sound may.is_dump (record { name = refl; host = refl; base = refl; token = refl }) tree
      (sound.dumps.tokens may.index may.dump may.is_dump))

  pub kept-with_put : (session : SessionName) (path : List ℕ) (item : Item) (full : Bool) (dumps new : List Dump)
      → with_put large session path item full dumps ≡ Ok new → SameKept dumps new
  kept-with_put session path item full dumps new e i dump at =
      let may : MayPut session path item full dumps new = may_put session path item full dumps new e in
      kept_key (λ (d : Dump). d.kept) dumps may.index i may.dump (with_item may.dump path item) dump may.is_dump refl
      (ap (λ (ds : List Dump). slice_get ds i) may.new_is ∙ at)

  pub held-with_put : (content : List ℕ) (office : Office) (session : SessionName) (path : List ℕ) (item : Item) (full : Bool) (dumps : List Dump)
      → with_put large session path item full office.dumps ≡ Ok dumps → in_dumps dumps content ≡ true
      → (in_dumps office.dumps content ≡ true) ⊎ (content_of item ≡ Some content)
  held-with_put content office session path item full dumps e h =
      let may : MayPut session path item full office.dumps dumps = may_put session path item full office.dumps dumps e in
      set_held content (content_of item ≡ Some content) office.dumps may.index may.dump (with_item may.dump path item) may.is_dump
      (λ g. step (holds-put content path item may.dump.tree g)) (ap (λ ds. in_dumps ds content) may.new_is ∙ h)
    where
      step : {A : Type 0} → A ⊎ (is_content item content ≡ true) → A ⊎ (content_of item ≡ Some content)
      step (inl f) = inl f
      step (inr f) = inr (is_its_content content (content_of item) f)

-- the content of which a put may add the name
pub added : (content : List ℕ) (office : Office) (held : Option (List ℕ)) → named_content (name_change held) office ≡ Some content
    → held ≡ Some content
added content office None e = absurd (cc)
added content office (Some bytes) e = e

was_put : (content : List ℕ) (office : Office) (held : Option (List ℕ)) → (in_dumps office.dumps content ≡ true) ⊎ (held ≡ Some content)
    → Reason content office (name_change held)
was_put content office held (inl f) = was_in_dumps content office (name_change held) f
was_put content office held (inr f) = inr (ap (λ h. named_content (name_change h) office) f)

put_whole : (session : SessionName) (path : List ℕ) (item : Item) (token : Option Token) (office : Office) (names : Names) (c : Carried)
    → AreSound office names → PutEvent.put session path (Whole item) office names ≡ Ok c
    → Does (PutEvent.meaning session path (Whole item) token) office names c
put_whole session path item token office names c sound e =
    let full : Bool = is_chain_full office.pool office.dumps names (content_of item) in
    let a = bound (with_put is_large session path item (is_chain_full office.pool office.dumps names (content_of item)) office.dumps) _ c e in
    does _ office names sound _ c a.2 (does_dumps _ office names sound a.0 office.sequence Done refl
    (λ content g. was_put content office (content_of item) (held-with_put is_large content office session path item full a.0 a.1 g))
    (IsSound-with_put is_large office session path item full a.0 sound.office a.1))

-- ---- of a stage

-- what it says that a stage's bytes may be put
pub record MayPutStage (session : SessionName) (path : List ℕ) (file : StagedFile) (full : Bool) (dumps : List Dump) (stages : List Stage)
    (made : PutEvent.Putting) : Type 0 where
  pub index : ℕ
  pub stage : Stage
  pub found : stage_index stages file.stage ≡ Some index
  pub is_stage : slice_get stages index ≡ Some stage
  pub of_dump : is_same_session stage.dump session ≡ true
  pub put : with_put PutEvent.is_over session path (PutEvent.staged_item file stage.bytes) full dumps ≡ Ok made.dumps
  pub stages_are : remove_at stages index ≡ made.stages

is_true : (b : Bool) → not b ≡ false → b ≡ true
is_true true e = refl
is_true false e = absurd (cc)

pub may_put_stage : (session : SessionName) (path : List ℕ) (file : StagedFile) (full : Bool) (dumps : List Dump) (stages : List Stage)
    (made : PutEvent.Putting) → PutEvent.with_staged session path file full dumps stages ≡ Ok made
    → MayPutStage session path file full dumps stages made
may_put_stage session path file full dumps stages made e =
    let a = bound (PutEvent.stage_of stages session file.stage) _ made e in
    let b = bound (stage_at stages file.stage) _ a.0 a.1 in
    let c : (not (is_same_session b.0.value.dump session) ≡ false) × (Ok b.0 ≡ Ok a.0) = passed NoSession (not (is_same_session b.0.value.dump session)) _ a.0 b.2 in
    let one : b.0 ≡ a.0 = let f = c.1 in cc in
    let is = at_is _ stages _ b.0 b.1 in
    let d = bound (with_put PutEvent.is_over session path (PutEvent.staged_item file a.0.value.bytes) full dumps) _ made a.2 in
    let new : PutEvent.Putting = record { dumps = d.0; stages = remove_at stages a.0.index } in
    let same : new ≡ made = let f = d.2 in cc in
    record {
      index = a.0.index;
      stage = a.0.value;
      found = is.0 ∙ ap (λ (x : At Stage). Some x.index) one;
      is_stage = ap (λ (x : At Stage). slice_get stages x.index) (sym one) ∙ is.1 ∙ ap (λ (x : At Stage). Some x.value) one;
      of_dump = ap (λ (x : At Stage). is_same_session x.value.dump session) (sym one) ∙ is_true (is_same_session b.0.value.dump session) c.0;
      put = d.1 ∙ ap (λ (x : PutEvent.Putting). Ok x.dumps) same;
      stages_are = ap (λ (x : PutEvent.Putting). x.stages) same;
    }

-- the content of the stage that was found
pub stage_content_is : (stages : List Stage) (number index : ℕ) (stage : Stage) → stage_index stages number ≡ Some index
    → slice_get stages index ≡ Some stage → stage_content stages number ≡ some_bytes stage.bytes
stage_content_is stages number index stage found is =
    ap (λ place. option_and_then (λ (s : Stage). some_bytes s.bytes) (option_and_then (slice_get stages) place)) found
    ∙ ap (option_and_then (λ (s : Stage). some_bytes s.bytes)) is

pub IsSound-with_staged : (office : Office) (session : SessionName) (path : List ℕ) (file : StagedFile) (full : Bool) (made : PutEvent.Putting)
    → IsSound office → PutEvent.with_staged session path file full office.dumps office.stages ≡ Ok made
    → IsSound (with_stages (with_dumps office made.dumps) made.stages)
IsSound-with_staged office session path file full made sound e =
    let may : MayPutStage session path file full office.dumps office.stages made = may_put_stage session path file full office.dumps office.stages made e in
    subst (λ ss. IsSound (with_stages (with_dumps office made.dumps) ss)) may.stages_are
    (IsSound-stage_removed (with_dumps office made.dumps) may.index
    (IsSound-with_put PutEvent.is_over office session path (PutEvent.staged_item file may.stage.bytes) full made.dumps sound may.put))

stage_was_put : (content : List ℕ) (office : Office) (number : ℕ) (bytes : List ℕ) → stage_content office.stages number ≡ some_bytes bytes
    → (in_dumps office.dumps content ≡ true) ⊎ (some_bytes bytes ≡ Some content) → Reason content office (AddsStage number)
stage_was_put content office number bytes is (inl f) = was_in_dumps content office (AddsStage number) f
stage_was_put content office number bytes is (inr f) = inr (is ∙ f)

put_staged : (session : SessionName) (path : List ℕ) (file : StagedFile) (token : Option Token) (office : Office) (names : Names) (c : Carried)
    → AreSound office names → PutEvent.put session path (Staged file) office names ≡ Ok c
    → Does (PutEvent.meaning session path (Staged file) token) office names c
put_staged session path file token office names c sound e =
    let full : Bool = is_chain_full office.pool office.dumps names (stage_content office.stages file.stage) in
    let a = bound (PutEvent.with_staged session path file (is_chain_full office.pool office.dumps names (stage_content office.stages file.stage)) office.dumps office.stages) _ c e in
    let may : MayPutStage session path file full office.dumps office.stages a.0 = may_put_stage session path file full office.dumps office.stages a.0 a.1 in
    let is : stage_content office.stages file.stage ≡ some_bytes may.stage.bytes = stage_content_is office.stages file.stage may.index may.stage may.found may.is_stage in
    does _ office names sound _ c a.2 (record {
      in_kind = refl;
      sound = IsSound-with_staged office session path file full a.0 sound.office a.1;
      ids = refl;
      contents = λ stays. refl;
      numbers = record {
        stages = subst (AtEach (λ (s : Stage). s.number < names.next_stage)) may.stages_are
            (AtEach-remove (λ (s : Stage). s.number < names.next_stage) office.stages may.index sound.names.given.stages);
        readers = sound.names.given.readers;
      };
      held = λ content h. held_by content office (AddsStage file.stage) office.pool a.0.dumps (was_pooled content office (AddsStage file.stage))
          (λ g. stage_was_put content office file.stage may.stage.bytes is
          (held-with_put PutEvent.is_over content office session path (PutEvent.staged_item file may.stage.bytes) full a.0.dumps may.put g)) h;
    })

-- ---- once for a token

put_does : (session : SessionName) (path : List ℕ) (item : PutItem) (token : Option Token) (office : Office) (names : Names) (c : Carried)
    → AreSound office names → PutEvent.put session path item office names ≡ Ok c → Does (PutEvent.meaning session path item token) office names c
put_does session path (Whole item) token office names c sound e = put_whole session path item token office names c sound e
put_does session path (Staged file) token office names c sound e = put_staged session path file token office names c sound e

dumps_made : (old made given : List Dump) → made ≡ given → SameKept old made → SameKept old given
dumps_made old made given same kept = subst (SameKept old) same kept

pub put_kept : (session : SessionName) (path : List ℕ) (item : PutItem) (office : Office) (names : Names) (c : Carried)
    → PutEvent.put session path item office names ≡ Ok c → SameKept office.dumps c.after.dumps
put_kept session path (Whole item) office names c e =
    let a = bound (with_put is_large session path item (is_chain_full office.pool office.dumps names (content_of item)) office.dumps) _ c e in
    let made : Carried = record { answer = Done; after = with_dumps office a.0 } in
    let same : made ≡ c = let f = a.2 in cc in
    dumps_made office.dumps a.0 c.after.dumps (ap (λ (x : Carried). x.after.dumps) same)
    (kept-with_put is_large session path item (is_chain_full office.pool office.dumps names (content_of item)) office.dumps a.0 a.1)
put_kept session path (Staged file) office names c e =
    let full : Bool = is_chain_full office.pool office.dumps names (stage_content office.stages file.stage) in
    let a = bound (PutEvent.with_staged session path file (is_chain_full office.pool office.dumps names (stage_content office.stages file.stage)) office.dumps office.stages) _ c e in
    let may : MayPutStage session path file full office.dumps office.stages a.0 = may_put_stage session path file full office.dumps office.stages a.0 a.1 in
    let made : Carried = record { answer = Done; after = with_stages (with_dumps office a.0.dumps) a.0.stages } in
    let same : made ≡ c = let f = a.2 in cc in
    dumps_made office.dumps a.0.dumps c.after.dumps (ap (λ (x : Carried). x.after.dumps) same)
    (kept-with_put PutEvent.is_over session path (PutEvent.staged_item file may.stage.bytes) full office.dumps a.0.dumps may.put)

repeat_does : (session : SessionName) (path : List ℕ) (item : PutItem) (token : Option Token) (office : Office) (names : Names) → AreSound office names
    → Does (PutEvent.meaning session path item token) office names (given_as Done (PutEvent.repeated session item office))
repeat_does session path (Whole item) token office names sound = does_nothing _ office names sound Done refl
repeat_does session path (Staged file) token office names sound = step (PutEvent.stage_of office.stages session file.stage)
  where
    step : (r : Judged (At Stage)) → Does (PutEvent.meaning session path (Staged file) token) office names (given_as Done (with_stages office (PutEvent.without_stage r office.stages)))
    step (Err rule) = does_stages _ office names sound office.stages Done refl sound.names.given.stages sound.office
    step (Ok stage) = does_stages _ office names sound (remove_at office.stages stage.index) Done refl
        (AtEach-remove (λ (s : Stage). s.number < names.next_stage) office.stages stage.index sound.names.given.stages)
        (IsSound-stage_removed office stage.index sound.office)

pub put : (session : SessionName) (path : List ℕ) (item : PutItem) (token : Option Token) → IsLawful (PutEvent.meaning session path item token)
put session path item token office names c sound e =
    once_does (PutEvent.meaning session path item token) office names sound session (PutEvent.repeated session item office) (PutEvent.put session path item office names)
    (λ made is. put_does session path item token office names made sound is) (λ made is. put_kept session path item office names made is)
    (repeat_does session path item token office names sound) token c e

-- ---- without a path

IsTree-without : (tree : Tree) (path : List ℕ) → IsTree tree → IsTree (Trees.without tree path)
IsTree-without tree path was = record { paths = TreeLaws.IsTree-without is_dir tree path was.paths; few = let le = TreeLaws.length_without-le tree path in let few = was.few in omega arith }

pub IsSound-without_path : (office : Office) (session : SessionName) (path : List ℕ) (dumps : List Dump) → IsSound office
    → Remove.without_path session path office.dumps ≡ Ok dumps → IsSound (with_dumps office dumps)
IsSound-without_path office session path dumps sound e =
    let a = bound (dump_at office.dumps session) _ dumps e in
    let was : slice_get office.dumps a.0.index ≡ Some a.0.value = (at_is _ office.dumps _ a.0 a.1).1 in
    let b : (not (is_some (Trees.node_at a.0.value.tree path)) ≡ false) × (Ok (slice_set office.dumps a.0.index (Remove.with_removed a.0.value path)) ≡ Ok dumps) = passed _ _ _ _ a.2 in
    let same : slice_set office.dumps a.0.index (Remove.with_removed a.0.value path) ≡ dumps = let g = b.1 in cc in
    subst (λ ds. IsSound (with_dumps office ds)) same
    (IsSound-retreed office a.0.index a.0.value (Remove.with_removed a.0.value path) sound was (record { name = refl; host = refl; base = refl; token = refl })
    (IsTree-without a.0.value.tree path (sound.dumps.trees a.0.index a.0.value was)) (sound.dumps.tokens a.0.index a.0.value was))

was_removed : (content : List ℕ) (dumps : List Dump) → (in_dumps dumps content ≡ true) ⊎ ⊥ → in_dumps dumps content ≡ true
was_removed content dumps (inl f) = f
was_removed content dumps (inr none) = absurd none

held-without_path : (content : List ℕ) (office : Office) (session : SessionName) (path : List ℕ) (dumps : List Dump)
    → Remove.without_path session path office.dumps ≡ Ok dumps → in_dumps dumps content ≡ true → in_dumps office.dumps content ≡ true
held-without_path content office session path dumps e h =
    let a = bound (dump_at office.dumps session) _ dumps e in
    let was : slice_get office.dumps a.0.index ≡ Some a.0.value = (at_is _ office.dumps _ a.0 a.1).1 in
    let b : (not (is_some (Trees.node_at a.0.value.tree path)) ≡ false) × (Ok (slice_set office.dumps a.0.index (Remove.with_removed a.0.value path)) ≡ Ok dumps) = passed _ _ _ _ a.2 in
    let same : slice_set office.dumps a.0.index (Remove.with_removed a.0.value path) ≡ dumps = let g = b.1 in cc in
    was_removed content office.dumps (set_held content ⊥ office.dumps a.0.index a.0.value (Remove.with_removed a.0.value path) was
    (λ g. inl (holds-filter content (λ p. not (is_within path p)) a.0.value.tree g)) (ap (λ ds. in_dumps ds content) same ∙ h))

remove_does : (session : SessionName) (path : List ℕ) (token : Option Token) (office : Office) (names : Names) (c : Carried) → AreSound office names
    → Remove.removed session path office ≡ Ok c → Does (Remove.meaning session path token) office names c
remove_does session path token office names c sound e =
    let a = bound (Remove.without_path session path office.dumps) _ c e in
    does _ office names sound _ c a.2 (does_dumps _ office names sound a.0 office.sequence Done refl
    (λ content g. was_in_dumps content office Same (held-without_path content office session path a.0 a.1 g))
    (IsSound-without_path office session path a.0 sound.office a.1))

pub remove_kept : (session : SessionName) (path : List ℕ) (office : Office) (c : Carried) → Remove.removed session path office ≡ Ok c
    → SameKept office.dumps c.after.dumps
remove_kept session path office c e i dump at =
    let a = bound (Remove.without_path session path office.dumps) _ c e in
    let b = bound (dump_at office.dumps session) _ a.0 a.1 in
    let was : slice_get office.dumps b.0.index ≡ Some b.0.value = (at_is _ office.dumps _ b.0 b.1).1 in
    let d : (not (is_some (Trees.node_at b.0.value.tree path)) ≡ false) × (Ok (slice_set office.dumps b.0.index (Remove.with_removed b.0.value path)) ≡ Ok a.0) = passed _ _ _ _ b.2 in
    let new_is : slice_set office.dumps b.0.index (Remove.with_removed b.0.value path) ≡ a.0 = let g = d.1 in cc in
    let made : Carried = record { answer = Done; after = with_dumps office a.0 } in
    let same : made ≡ c = let f = a.2 in cc in
    kept_key (λ (x : Dump). x.kept) office.dumps b.0.index i b.0.value (Remove.with_removed b.0.value path) dump was refl
    (ap (λ (ds : List Dump). slice_get ds i) (new_is ∙ ap (λ (x : Carried). x.after.dumps) same) ∙ at)

pub remove : (session : SessionName) (path : List ℕ) (token : Option Token) → IsLawful (Remove.meaning session path token)
remove session path token office names c sound e =
    once_does (Remove.meaning session path token) office names sound session office (Remove.removed session path office)
    (λ made is. remove_does session path token office names made sound is) (λ made is. remove_kept session path office made is)
    (does_nothing _ office names sound Done refl) token c e
