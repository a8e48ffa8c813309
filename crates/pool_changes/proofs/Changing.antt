-- The changes of the index's files, byte by byte.
use Rattle.std.proofs.Common.{◌≡◌, ◌⊎◌, ◌<◌, ℕ, ◌+◌, Bool, true, false, List, [], ◌∷◌, ◌++◌, Option, Some, None, is_some, if◌then◌else◌, refl, sym, ap, ◌∙◌, subst, append-nil, inl, inr, arith}
use Rattle.std.specs.List.{AllByRecursion}
use Rattle.std.specs.Int.{w64}
use Rattle.std.proofs.lemmas.Bool.{false≢true}
use borrow.Author.Tests.{eqb-true}
use Rattle.wire_bytes.specs.Layout.{IsNumber}
use Rattle.disk_trait.specs.declared.ids.PoolId.{PoolId}
use Rattle.disk_trait.specs.declared.ids.FileId.{FileId}
use Rattle.disk_trait.specs.declared.ids.FileId.TheVariants.{PoolIndex, PoolBucket, Pool}
use Rattle.disk_trait.specs.Names.{is_same_file, is_metadata}
use Rattle.disk_trait.specs.NamesLaws.{same_file, is_same_file-itself}
use Rattle.disk_trait.specs.Files.{Files, with_bytes}
use Rattle.intent_journal.specs.declared.changes.Change.{Change}
use Rattle.intent_journal.specs.Changes.{applied, names}
use Rattle.intent_journal.specs.ChangesLaws.{either, with_bytes_there, with_bytes_other, applied_other, are_more}
use Rattle.pool_index.specs.declared.item.IndexItem.{IndexItem}
use Rattle.pool_index.specs.Items.{byte_of, item_at, is_under}
use Rattle.pool_index.specs.Layout.{IsIndex, index_file, bucket_of}
use Rattle.pool_index.specs.Index.{Index, TellsByte, TellsOne, TellsBuckets}
use Rattle.pool_changes.specs.Written.{IsCalled, LeadsIndex}
use Rattle.pool_changes.specs.Writing.{option_list, first_changes, AreUnder, Stays, IsWritten, IsByteChange, IsDone, IsWrittenUpTo, IsFileOf}
use Rattle.pool_changes.specs.StepLaws.{lt_or}

-- ---- one change more

names_snoc : (changes : List Change) (change : Change) (asked : FileId) → names (changes ++ change ∷ []) asked ≡ (if is_same_file asked change.file then true else names changes asked)
names_snoc [] change asked = refl
names_snoc (first ∷ changes) change asked = elim (either (is_same_file asked first.file)) [
  | inl here ↦ rw here (sym (always (is_same_file asked change.file)))
  | inr other ↦ rw other (names_snoc changes change asked)
]
  where
    always : (b : Bool) → (if b then true else true) ≡ true
    always true = refl
    always false = refl

applied_snoc : (changes : List Change) (change : Change) (files : Files) → applied (changes ++ change ∷ []) files ≡ with_bytes (applied changes files) change.file change.bytes
applied_snoc [] change files = refl
applied_snoc (first ∷ changes) change files = applied_snoc changes change (with_bytes files first.file first.bytes)

bucket_byte : (a b : ℕ) → PoolBucket a ≡ PoolBucket b → a ≡ b
bucket_byte a b e = ap (λ (f : FileId). byte_in f a) e
  where
    byte_in : FileId → ℕ → ℕ
    byte_in (PoolBucket byte) d = byte
    byte_in file d = d

other_bucket : (a b : ℕ) → (a ≡ b → ⊥) → is_same_file (PoolBucket a) (PoolBucket b) ≡ false
other_bucket a b apart = elim (either (is_same_file (PoolBucket a) (PoolBucket b))) [
  | inl same ↦ absurd (apart (bucket_byte a b (same_file (PoolBucket a) (PoolBucket b) same)))
  | inr other ↦ other
]

index_apart : (byte : ℕ) → is_same_file PoolIndex (PoolBucket byte) ≡ false
unfolding is_same_file
index_apart byte = refl

module _ (one : Bool) (old new : Index) (changes : List Change) (byte : ℕ) (before : IsWrittenUpTo one old new changes byte) where
  -- no change is of this byte yet
  not_yet : names changes (PoolBucket byte) ≡ false
  not_yet = elim (either (names changes (PoolBucket byte))) [
    | inl named ↦ absurd (none (before.only (PoolBucket byte) named))
    | inr free ↦ free
  ]
    where
      none : ((PoolBucket byte ≡ PoolIndex) × (one ≡ true)) ⊎ ((b : ℕ) × (b < byte) × (PoolBucket byte ≡ PoolBucket b) × IsCalled one old new b) → ⊥
      none (inl index) = false≢true (sym (index_apart byte) ∙ ap (λ (f : FileId). is_same_file PoolIndex f) index.0 ∙ is_same_file-itself PoolIndex)
      none (inr bucket) = let same = bucket_byte byte bucket.0 bucket.2 in let lt : bucket.0 < byte = bucket.1 in absurd (omega (arith, lt, same))

  wider_only : (file : FileId) → names changes file ≡ true → ((file ≡ PoolIndex) × (one ≡ true)) ⊎ ((b : ℕ) × (b < byte + 1) × (file ≡ PoolBucket b) × IsCalled one old new b)
  wider_only file named = elim (before.only file named) [
    | inl index ↦ inl index
    | inr bucket ↦ let lt : bucket.0 < byte = bucket.1 in inr (bucket.0, omega (arith, lt), bucket.2, bucket.3)
  ]

  stays_up : Stays one old new byte → IsWrittenUpTo one old new changes (byte + 1)
  stays_up stays = record {
    are = before.are;
    gone = before.gone;
    each = λ b lt. elim (lt_or b byte lt) [
      | inl less ↦ before.each b less
      | inr same ↦ subst (IsDone one old new changes) (sym same) (inl (not_yet, stays))
    ];
    only = wider_only;
  }

  module _ (change : Change) (written : IsWritten one old new byte change) where
    pushed : List Change
    pushed = changes ++ change ∷ []

    other_names : (asked : FileId) → is_same_file asked (PoolBucket byte) ≡ false → names (changes ++ change ∷ []) asked ≡ names changes asked
    other_names asked other = names_snoc changes change asked ∙ ap (λ (b : Bool). if b then true else names changes asked) (ap (is_same_file asked) written.file_is ∙ other)

    other_files : (asked : FileId) (files : Files) → is_same_file asked (PoolBucket byte) ≡ false → applied (changes ++ change ∷ []) files asked ≡ applied changes files asked
    other_files asked files other =
        ap (λ (f : Files). f asked) (applied_snoc changes change files)
        ∙ with_bytes_other (applied changes files) change.file change.bytes asked (ap (is_same_file asked) written.file_is ∙ other)

    here_file : (files : Files) → applied (changes ++ change ∷ []) files (PoolBucket byte) ≡ change.bytes
    here_file files =
        ap (λ (f : Files). f (PoolBucket byte)) (applied_snoc changes change files)
        ∙ with_bytes_there (applied changes files) change.file change.bytes (PoolBucket byte) (ap (is_same_file (PoolBucket byte)) written.file_is ∙ is_same_file-itself (PoolBucket byte))

    still_done : (b : ℕ) → b < byte → IsDone one old new changes b → IsDone one old new (changes ++ change ∷ []) b
    still_done b lt (inl stays) = inl (other_names (PoolBucket b) (other_bucket b byte (λ e. absurd (omega (arith, lt, e)))) ∙ stays.0, stays.1)
    still_done b lt (inr done) = inr (done.0, done.1, λ files. other_files (PoolBucket b) files (other_bucket b byte (λ e. absurd (omega (arith, lt, e)))) ∙ done.2 files)

    written_up : IsWrittenUpTo one old new (changes ++ change ∷ []) (byte + 1)
    written_up = record {
      are = are_more changes change before.are (ap is_metadata written.file_is) (ap (names changes) written.file_is ∙ not_yet);
      gone = λ is files. other_files PoolIndex files (index_apart byte) ∙ before.gone is files;
      each = λ b lt. elim (lt_or b byte lt) [
        | inl less ↦ still_done b less (before.each b less)
        | inr same ↦ subst (IsDone one old new (changes ++ change ∷ [])) (sym same) (inr (change.bytes, written.tells, here_file))
      ];
      only = λ file named. elim (either (is_same_file file (PoolBucket byte))) [
        | inl same ↦ inr (byte, omega arith, same_file file (PoolBucket byte) same, written.called)
        | inr other ↦ wider_only file (sym (other_names file other) ∙ named)
      ];
    }

  pub change_up : (now : List Change) (change : Option Change) → now ≡ changes ++ option_list change → IsByteChange one old new byte change → IsWrittenUpTo one old new now (byte + 1)
  change_up now None is stays = subst (λ (l : List Change). IsWrittenUpTo one old new l (byte + 1)) (sym (is ∙ append-nil changes)) (stays_up stays)
  change_up now (Some change) is written = subst (λ (l : List Change). IsWrittenUpTo one old new l (byte + 1)) (sym is) (written_up change written)

-- the one file goes first
pub first_written : (one : Bool) (old new : Index) (changes : List Change) → changes ≡ first_changes one → IsWrittenUpTo one old new changes 0
first_written one old new changes is = subst (λ (l : List Change). IsWrittenUpTo one old new l 0) (sym is) (begin one)
  where
    begin : (b : Bool) → IsWrittenUpTo b old new (first_changes b) 0
    begin true = record {
      are = (refl, refl, tt);
      gone = λ e files. with_bytes_there files PoolIndex None PoolIndex (is_same_file-itself PoolIndex);
      each = λ b lt. absurd (omega (arith, lt));
      only = λ file named. elim (either (is_same_file file PoolIndex)) [
        | inl same ↦ inl (same_file file PoolIndex same, refl)
        | inr other ↦ absurd (false≢true (sym (ap (λ (b : Bool). if b then true else false) other) ∙ named))
      ];
    }
    begin false = record {
      are = tt;
      gone = λ e. absurd (false≢true e);
      each = λ b lt. absurd (omega (arith, lt));
      only = λ file named. absurd (false≢true named);
    }

-- ---- all bytes

module _ (old new : Index) (changes : List Change) (within : (id : PoolId) → is_some (new id) ≡ true → byte_of id < 256) where
  from_one : IsWrittenUpTo true old new changes 256 → (files : Files) → TellsOne old files → TellsBuckets new (applied changes files)
  from_one written files tells = record {
    none = written.gone refl files;
    each = λ byte lt. step byte (tells.none byte lt) (written.each byte lt);
    within = within;
  }
    where
      step : (byte : ℕ) → files (PoolBucket byte) ≡ None → IsDone true old new changes byte → TellsByte byte new (applied changes files (PoolBucket byte))
      step byte none (inl stays) = record {
        items = [];
        are = record { count = no_items; each = tt };
        is = applied_other changes files (PoolBucket byte) stays.0 ∙ none;
        each = stays.1;
      }
        where
          no_items : IsNumber w64 0
          no_items = omega arith
      step byte none (inr done) = subst (TellsByte byte new) (sym (done.2 files)) done.1

  from_buckets : IsWrittenUpTo false old new changes 256 → (files : Files) → TellsBuckets old files → TellsBuckets new (applied changes files)
  from_buckets written files tells = record {
    none = applied_other changes files PoolIndex no_index ∙ tells.none;
    each = λ byte lt. step byte (tells.each byte lt) (written.each byte lt);
    within = within;
  }
    where
      step : (byte : ℕ) → TellsByte byte old (files (PoolBucket byte)) → IsDone false old new changes byte → TellsByte byte new (applied changes files (PoolBucket byte))
      step byte before (inl stays) = record {
        items = before.items;
        are = before.are;
        is = applied_other changes files (PoolBucket byte) stays.0 ∙ before.is;
        each = λ id here. sym (stays.1 id here) ∙ before.each id here;
      }
      step byte before (inr done) = subst (TellsByte byte new) (sym (done.2 files)) done.1

      no_index : names changes PoolIndex ≡ false
      no_index = elim (either (names changes PoolIndex)) [
        | inl named ↦ absurd (none (written.only PoolIndex named))
        | inr free ↦ free
      ]
        where
          none : ((PoolIndex ≡ PoolIndex) × (false ≡ true)) ⊎ ((b : ℕ) × (b < 256) × (PoolIndex ≡ PoolBucket b) × IsCalled false old new b) → ⊥
          none (inl index) = false≢true index.1
          none (inr bucket) = false≢true (sym (index_apart bucket.0) ∙ ap (is_same_file PoolIndex) (sym bucket.2) ∙ is_same_file-itself PoolIndex)

  pub leads_all : (one : Bool) → IsWrittenUpTo one old new changes 256 → LeadsIndex one old new changes
  leads_all true written = record { are = written.are; leads = from_one written; only = written.only }
  leads_all false written = record { are = written.are; leads = from_buckets written; only = written.only }

-- ---- the file of one byte

pub no_file : (byte : ℕ) (new : Index) (items : List IndexItem) → AreUnder byte new items → items ≡ [] → IsFileOf byte new None
no_file byte new items under none = record {
  tells = record { items = []; are = record { count = no_items; each = tt }; is = refl; each = absent };
  none = λ e. absent;
  some = λ e. absurd (false≢true e);
}
  where
    no_items : IsNumber w64 0
    no_items = omega arith

    absent : (id : PoolId) → byte_of id ≡ byte → new id ≡ None
    absent id here = under.each id here ∙ ap (λ (l : List IndexItem). item_at l id) none

one_of : (byte : ℕ) (items : List IndexItem) → (items ≡ [] → ⊥) → AllByRecursion (λ item. is_under (Some byte) item.id ≡ true) items
    → (item : IndexItem) × (is_some (item_at items item.id) ≡ true) × (is_under (Some byte) item.id ≡ true)
one_of byte [] some under = absurd (some refl)
one_of byte (item ∷ items) some under = (item, rw (is_same_file-itself (Pool item.id)) refl, under.0)

pub new_file : (byte : ℕ) (new : Index) (items : List IndexItem) (bytes : List ℕ) → AreUnder byte new items → (items ≡ [] → ⊥) → IsIndex (Some byte) items → bytes ≡ index_file (Some byte) items → IsFileOf byte new (Some bytes)
new_file byte new items bytes under some are is = record {
  tells = record { items = items; are = are.are; is = step items refl; each = under.each };
  none = λ e. absurd (cc);
  some = λ e.
      let one = one_of byte items some under.under in
      let here : byte_of one.0.id ≡ byte = eqb-true (byte_of one.0.id) byte one.2 in
      (one.0.id, here, ap is_some (under.each one.0.id here) ∙ one.1);
}
  where
    step : (l : List IndexItem) → items ≡ l → Some bytes ≡ bucket_of byte items
    step [] e = absurd (some e)
    step (item ∷ l) e = ap Some is ∙ ap (λ (k : List IndexItem). Some (index_file (Some byte) k)) e ∙ sym (ap (bucket_of byte) e)

-- the change that gives it to a store with one file, and with buckets
pub first_file : (old new : Index) (byte : ℕ) (file : FileId) (bytes : List ℕ) → file ≡ PoolBucket byte → IsFileOf byte new (Some bytes) → IsWritten true old new byte (record { file = file; bytes = Some bytes })
first_file old new byte file bytes is of =
    let one = of.some refl in
    record { file_is = is; tells = of.tells; called = record { id = one.0; under = one.1; calls = one.2 } }

pub next_file : (old new : Index) (byte : ℕ) (file : FileId) (bytes : Option (List ℕ)) → file ≡ PoolBucket byte → IsFileOf byte new bytes → IsCalled false old new byte → IsWritten false old new byte (record { file = file; bytes = bytes })
next_file old new byte file bytes is of called = record { file_is = is; tells = of.tells; called = called }
