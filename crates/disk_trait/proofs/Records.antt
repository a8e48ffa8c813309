-- Runs of calls: a call more, and bytes that come behind others.
use Rattle.std.proofs.Common.{◌≡◌, ℕ, suc, ◌+◌, ◌≤◌, ◌<◌, zero, List, [], ◌∷◌, ◌++◌, length, take, drop, get_or, drop-cons, Some, vec_len, vec_capacity, refl, sym, ap, ◌∙◌, subst, arith, inl, inr, ◌⊎◌, ⊎_elim}
use Rattle.std.proofs.Math.Seq.{take-length, drop-append_seam}
use Rattle.std.proofs.lemmas.List.{take-append-le, drop-append-le, take_all, length-append, length-drop}
use Rattle.disk_trait.specs.declared.log.Span.{Span}
use Rattle.disk_trait.specs.declared.log.Entry.{Entry}
use Rattle.disk_trait.specs.declared.log.Entry.TheVariants as E
use Rattle.disk_trait.specs.declared.log.Log.{Log}
use Rattle.disk_trait.specs.Files.{Files, no_files}
use Rattle.disk_trait.specs.Images.{FileSet, nothing, MayLeave}
use Rattle.disk_trait.specs.Log.{Call, spanned, call_of, calls_of, IsKept, AreKept, files_with, files_after, uncertain_with, uncertain_after, log_start, log_calls, log_files, log_uncertain, log_left, LogElapses, IsWhole, Kept, Laid, Follows}
use Rattle.disk_trait.specs.declared.map.FileMap.{FileMap}

-- ---- one call more

pub files_more : (files : Files) (calls : List Call) (call : Call) → files_after files (calls ++ call ∷ []) ≡ files_with (files_after files calls) call
files_more files [] call = refl
files_more files (first ∷ calls) call = files_more (files_with files first) calls call

pub uncertain_more : (set : FileSet) (calls : List Call) (call : Call) → uncertain_after set (calls ++ call ∷ []) ≡ uncertain_with (uncertain_after set calls) call
uncertain_more set [] call = refl
uncertain_more set (first ∷ calls) call = uncertain_more (uncertain_with set first) calls call

pub files_join : (files : Files) (first second : List Call) → files_after files (first ++ second) ≡ files_after (files_after files first) second
files_join files [] second = refl
files_join files (call ∷ first) second = files_join (files_with files call) first second

-- ---- bytes behind others

spanned_before : (bytes more : List ℕ) (span : Span) → span.from + span.count ≤ length bytes → spanned (bytes ++ more) span ≡ spanned bytes span
spanned_before bytes more span within = ap (take span.count) (drop-append-le span.from bytes more (omega (arith, within))) ∙ take-append-le span.count (drop span.from bytes) more (omega (arith, within, length-drop span.from bytes))

call_before : (bytes more : List ℕ) (entry : Entry) → IsKept (length bytes) entry → call_of (bytes ++ more) entry ≡ call_of bytes entry
call_before bytes more (E.Written file span) kept = ap (λ (b : List ℕ). Call.Changed file (Some b)) (spanned_before bytes more span kept)
call_before bytes more (E.Extended file span) kept = ap (λ (b : List ℕ). Call.Extended file b) (spanned_before bytes more span kept)
call_before bytes more (E.Removed file) kept = refl
call_before bytes more (E.Missed file) kept = refl
call_before bytes more E.Synced kept = refl

pub calls_before : (bytes more : List ℕ) (entries : List Entry) → AreKept (length bytes) entries → calls_of (bytes ++ more) entries ≡ calls_of bytes entries
calls_before bytes more [] kept = refl
calls_before bytes more (entry ∷ later) kept =
    ap (λ (call : Call). call ∷ calls_of (bytes ++ more) later) (call_before bytes more entry kept.0)
    ∙ ap (λ (calls : List Call). call_of bytes entry ∷ calls) (calls_before bytes more later kept.1)

kept_wider : (count wide : ℕ) (entry : Entry) → count ≤ wide → IsKept count entry → IsKept wide entry
kept_wider count wide (E.Written file span) le kept = omega (arith, le, kept)
kept_wider count wide (E.Extended file span) le kept = omega (arith, le, kept)
kept_wider count wide (E.Removed file) le kept = tt
kept_wider count wide (E.Missed file) le kept = tt
kept_wider count wide E.Synced le kept = tt

pub are_kept_wider : (count wide : ℕ) (entries : List Entry) → count ≤ wide → AreKept count entries → AreKept wide entries
are_kept_wider count wide [] le kept = tt
are_kept_wider count wide (entry ∷ later) le kept = (kept_wider count wide entry le kept.0, are_kept_wider count wide later le kept.1)

pub are_kept_join : (count : ℕ) (first second : List Entry) → AreKept count first → AreKept count second → AreKept count (first ++ second)
are_kept_join count [] second kept later = later
are_kept_join count (entry ∷ first) second kept later = (kept.0, are_kept_join count first second kept.1 later)

pub are_kept_take : (count n : ℕ) (entries : List Entry) → AreKept count entries → AreKept count (take n entries)
are_kept_take count zero entries kept = tt
are_kept_take count (suc n) [] kept = tt
are_kept_take count (suc n) (entry ∷ later) kept = (kept.0, are_kept_take count n later kept.1)

pub are_kept_drop : (count n : ℕ) (entries : List Entry) → AreKept count entries → AreKept count (drop n entries)
are_kept_drop count zero entries kept = kept
are_kept_drop count (suc n) [] kept = tt
are_kept_drop count (suc n) (entry ∷ later) kept = are_kept_drop count n later kept.1

pub calls_join : (bytes : List ℕ) (first second : List Entry) → calls_of bytes (first ++ second) ≡ calls_of bytes first ++ calls_of bytes second
calls_join bytes [] second = refl
calls_join bytes (entry ∷ first) second = ap (λ (calls : List Call). call_of bytes entry ∷ calls) (calls_join bytes first second)

-- ---- what a call that was kept leaves

last_or_before : (at before last : ℕ) → last ≡ before + 1 → (at ≤ before) ⊎ (last ≤ at)
last_or_before zero before last is = inl (omega arith)
last_or_before (suc at) zero last is = inr (omega (arith, is))
last_or_before (suc at) (suc before) zero is = absurd (omega (arith, is))
last_or_before (suc at) (suc before) (suc last) is =
    ⊎_elim (λ (le : at ≤ before). inl (omega (arith, le))) (λ (le : last ≤ at). inr (omega (arith, le))) (last_or_before at before last (omega (arith, is)))

module _ (old new : Log) where
  pub kept_files : (call : Call) → log_start new ≡ log_start old → log_calls new ≡ log_calls old ++ call ∷ [] → log_files new ≡ files_with (log_files old) call
  kept_files call same more =
      ap (λ (start : Files). files_after start (log_calls new)) same ∙ ap (files_after (log_start old)) more ∙ files_more (log_start old) (log_calls old) call

  pub kept_uncertain : (call : Call) → log_calls new ≡ log_calls old ++ call ∷ [] → log_uncertain new ≡ uncertain_with (log_uncertain old) call
  kept_uncertain call more = ap (uncertain_after nothing) more ∙ uncertain_more nothing (log_calls old) call

  -- at a moment that the old record had, both have the same calls
  taken : (call : Call) (at : ℕ) → log_calls new ≡ log_calls old ++ call ∷ [] → at ≤ length (log_calls old) → take at (log_calls new) ≡ take at (log_calls old)
  taken call at more le = ap (take at) more ∙ take-append-le at (log_calls old) (call ∷ []) le

  image_same : (call : Call) (at : ℕ) (image : Files) → log_start new ≡ log_start old → log_calls new ≡ log_calls old ++ call ∷ [] → at ≤ length (log_calls old)
      → (files_after (log_start new) (take at (log_calls new)) ≡ files_after (log_start old) (take at (log_calls old)))
      × (uncertain_after nothing (take at (log_calls new)) ≡ uncertain_after nothing (take at (log_calls old)))
  image_same call at image same more le = (
    ap (λ (start : Files). files_after start (take at (log_calls new))) same ∙ ap (files_after (log_start old)) (taken call at more le),
    ap (uncertain_after nothing) (taken call at more le),
  )

  pub kept_elapses : (call : Call) → log_start new ≡ log_start old → log_calls new ≡ log_calls old ++ call ∷ [] → LogElapses old new
  kept_elapses call same more = record {
    later = omega (arith, longer);
    nothing_else = λ t image le left. ⊎_elim (λ (before : left.at ≤ length (log_calls old)). inl (back t image left before)) (λ (last : length (log_calls new) ≤ left.at). inr (now t image left last)) (last_or_before (left.at) (length (log_calls old)) (length (log_calls new)) longer);
    keeps = λ t image le left.
        let is = image_same call left.at image same more left.within in
        record {
          at = left.at;
          from = left.from;
          within = omega (arith, left.within, longer);
          image_of = record { each = λ asked out. left.image_of.each asked (ap (λ (set : FileSet). set asked) (sym is.1) ∙ out) ∙ ap (λ (files : Files). files asked) (sym is.0) };
        };
  }
    where
      longer : length (log_calls new) ≡ length (log_calls old) + 1
      longer = ap length more ∙ length-append (log_calls old) (call ∷ [])

      back : (t : ℕ) (image : Files) (left : log_left new t image) → left.at ≤ length (log_calls old) → log_left old t image
      back t image left before =
          let is = image_same call left.at image same more before in
          record {
            at = left.at;
            from = left.from;
            within = before;
            image_of = record { each = λ asked out. left.image_of.each asked (ap (λ (set : FileSet). set asked) is.1 ∙ out) ∙ ap (λ (files : Files). files asked) is.0 };
          }

      now : (t : ℕ) (image : Files) (left : log_left new t image) → length (log_calls new) ≤ left.at → MayLeave (Some (log_files new)) (log_uncertain new) image
      now t image left last =
          let all : take left.at (log_calls new) ≡ log_calls new = take_all left.at (log_calls new) last in
          record {
            all = log_files new;
            is = refl;
            image_of = record { each = λ asked out. left.image_of.each asked (ap (λ (calls : List Call). uncertain_after nothing calls asked) all ∙ out) ∙ ap (λ (calls : List Call). files_after (log_start new) calls asked) all };
          }

-- a call that was kept after bytes were taken
pub kept_after : {first mid last : Files} {past mids all : List Call} {call made : Call}
    → mid ≡ first → mids ≡ past → made ≡ call → last ≡ mid → all ≡ mids ++ made ∷ [] → (last ≡ first) × (all ≡ past ++ call ∷ [])
kept_after {past = past} {made = made} a b c d e = (d ∙ a, e ∙ ap (λ (calls : List Call). calls ++ made ∷ []) b ∙ ap (λ (one : Call). past ++ one ∷ []) c)

-- an entry more
pub kept_one : (old new : Log) (entry : Entry) (changes bytes : ℕ) → IsWhole old → IsKept (length old.bytes.items) entry
    → new.bytes.items ≡ old.bytes.items → new.start.items ≡ old.start.items → new.past.items ≡ old.past.items ++ entry ∷ []
    → new.room.changes + changes ≡ old.room.changes → new.room.bytes + bytes ≡ old.room.bytes
    → vec_len new.past + new.room.changes ≤ vec_capacity new.past → vec_len new.bytes + new.room.bytes ≤ vec_capacity new.bytes
    → ((files : FileMap) → new.index ≡ Some files → Follows (call_of old.bytes.items entry) old.index files)
    → Kept (call_of old.bytes.items entry) changes bytes old new
kept_one old new entry changes bytes whole kept same_bytes same_start more changes_taken bytes_taken room_changes room_bytes index = record {
  start_same = start;
  calls_more = calls;
  changes_taken = changes_taken;
  bytes_taken = bytes_taken;
  whole = record {
    start_kept = subst (λ (b : List ℕ). AreKept (length b) new.start.items) (sym same_bytes) (subst (AreKept (length old.bytes.items)) (sym same_start) whole.start_kept);
    past_kept = subst (λ (b : List ℕ). AreKept (length b) new.past.items) (sym same_bytes)
        (subst (AreKept (length old.bytes.items)) (sym more) (are_kept_join (length old.bytes.items) old.past.items (entry ∷ []) whole.past_kept (kept, tt)));
    changes = room_changes;
    bytes = room_bytes;
    index = λ files is.
        let follows = index files is in
        follows.are ∙ ap (λ (f : Files). files_with f (call_of old.bytes.items entry)) (whole.index follows.old follows.was)
        ∙ sym (kept_files old new (call_of old.bytes.items entry) start calls);
  };
}
  where
    start : log_start new ≡ log_start old
    start = ap (λ (b : List ℕ). files_after no_files (calls_of b new.start.items)) same_bytes ∙ ap (λ (entries : List Entry). files_after no_files (calls_of old.bytes.items entries)) same_start

    calls : log_calls new ≡ log_calls old ++ call_of old.bytes.items entry ∷ []
    calls = ap (λ (b : List ℕ). calls_of b new.past.items) same_bytes ∙ ap (calls_of old.bytes.items) more ∙ calls_join old.bytes.items old.past.items (entry ∷ [])

-- bytes behind the others
pub laid : (old new : Log) (more : List ℕ) (from : ℕ) → IsWhole old → from ≡ length old.bytes.items
    → new.bytes.items ≡ old.bytes.items ++ more → new.start.items ≡ old.start.items → new.past.items ≡ old.past.items
    → new.room.changes ≡ old.room.changes → new.room.bytes + length more ≡ old.room.bytes
    → vec_len new.past + new.room.changes ≤ vec_capacity new.past → vec_len new.bytes + new.room.bytes ≤ vec_capacity new.bytes
    → new.index ≡ old.index → Laid more (record { from = from; count = length more }) old new
laid old new more from whole is longer same_start same_past same_changes taken room_changes room_bytes same_index = record {
  start_same = start;
  calls_same = calls;
  within = omega (arith, is, ap length longer, length-append old.bytes.items more);
  held = ap (λ (n : ℕ). take (length more) (drop n new.bytes.items)) is ∙ ap (λ (b : List ℕ). take (length more) (drop (length old.bytes.items) b)) longer
      ∙ ap (take (length more)) (drop-append_seam old.bytes.items more) ∙ take-length more;
  changes_same = same_changes;
  bytes_taken = taken;
  whole = record {
    start_kept = subst (AreKept (length new.bytes.items)) (sym same_start) (are_kept_wider _ _ old.start.items wider whole.start_kept);
    past_kept = subst (AreKept (length new.bytes.items)) (sym same_past) (are_kept_wider _ _ old.past.items wider whole.past_kept);
    changes = room_changes;
    bytes = room_bytes;
    index = λ files was. whole.index files (sym same_index ∙ was) ∙ sym (ap (λ (f : Files). files_after f (log_calls new)) start ∙ ap (files_after (log_start old)) calls);
  };
}
  where
    wider : length old.bytes.items ≤ length new.bytes.items
    wider = omega (arith, ap length longer, length-append old.bytes.items more)

    start : log_start new ≡ log_start old
    start = ap (λ (entries : List Entry). files_after no_files (calls_of new.bytes.items entries)) same_start
        ∙ ap (λ (b : List ℕ). files_after no_files (calls_of b old.start.items)) longer
        ∙ ap (files_after no_files) (calls_before old.bytes.items more old.start.items whole.start_kept)

    calls : log_calls new ≡ log_calls old
    calls = ap (calls_of new.bytes.items) same_past ∙ ap (λ (b : List ℕ). calls_of b old.past.items) longer
        ∙ calls_before old.bytes.items more old.past.items whole.past_kept

-- the entry at an index is kept
pub kept_at : (count i : ℕ) (entries : List Entry) (other : Entry) → AreKept count entries → i < length entries → IsKept count (get_or entries i other)
kept_at count i [] other kept lt = absurd (omega (arith, lt))
kept_at count zero (first ∷ later) other kept lt = kept.0
kept_at count (suc i) (first ∷ later) other kept lt = kept_at count i later other kept.1 (omega (arith, lt))

-- an entry was done again
pub replayed : (bytes : List ℕ) (entries : List Entry) (i : ℕ) (other : Entry) (before after last : Files) → i < length entries
    → files_after before (calls_of bytes (drop i entries)) ≡ last → after ≡ files_with before (call_of bytes (get_or entries i other))
    → files_after after (calls_of bytes (drop (i + 1) entries)) ≡ last
replayed bytes entries i other before after last lt so_far is =
    ap (λ (files : Files). files_after files (calls_of bytes (drop (i + 1) entries))) is
    ∙ sym (ap (λ (l : List Entry). files_after before (calls_of bytes l)) (drop-cons entries i other lt ∙ ap (λ (n : ℕ). get_or entries i other ∷ drop n entries) next))
    ∙ so_far
  where
    next : suc i ≡ i + 1
    next = omega arith

-- the files by doing all again
pub rebuilt_of : {made mid first : Files} {lent bytes : List ℕ} {begins start goes past : List Entry}
    → first ≡ no_files → lent ≡ bytes → begins ≡ start → goes ≡ past → mid ≡ files_after first (calls_of lent begins) → made ≡ files_after mid (calls_of lent goes)
    → made ≡ files_after (files_after no_files (calls_of bytes start)) (calls_of bytes past)
rebuilt_of {mid = mid} {first = first} {lent = lent} {bytes = bytes} {begins = begins} {start = start} {goes = goes} {past = past} none same starts ends before after =
    after
    ∙ ap (λ (files : Files). files_after files (calls_of lent goes)) (before ∙ ap (λ (files : Files). files_after files (calls_of lent begins)) none)
    ∙ ap (λ (l : List ℕ). files_after (files_after no_files (calls_of l begins)) (calls_of l goes)) same
    ∙ ap (λ (l : List Entry). files_after (files_after no_files (calls_of bytes l)) (calls_of bytes goes)) starts
    ∙ ap (λ (l : List Entry). files_after (files_after no_files (calls_of bytes start)) (calls_of bytes l)) ends
