-- No items, or the file of those that are there.
use Rattle.std.proofs.Common.{◌≡◌, ◌<◌, length, List, [], ◌∷◌, true, false, Some, ◌==◌, refl, sym, ap, ◌∙◌, subst, arith}
use Rattle.std.specs.List.{AllByRecursion}
use Rattle.std.proofs.lemmas.Bool.{false≢true}
use borrow.Author.Tests.{eqb-true}
use Rattle.pool_index.specs.declared.item.IndexItem.{IndexItem}
use Rattle.pool_index.specs.Items.{AreRising, is_under}
use Rattle.pool_index.specs.Layout.{IsIndex, index_file}
use Rattle.pool_changes.proofs.Changing.{no_file, new_file}
use Rattle.pool_changes.proofs.writing.bucket_bytes.Goals as goal

some_items : (items : List IndexItem) → (items ≡ [] → ⊥) → 0 < length items
some_items [] some = absurd (some refl)
some_items (item ∷ items) some = omega arith

none_items : (items : List IndexItem) → (length items == 0) ≡ true → items ≡ []
none_items [] e = refl
none_items (item ∷ items) e = let none : length (item ∷ items) ≡ 0 = eqb-true (length (item ∷ items)) 0 e in absurd (omega (arith, none))

not_none : (items : List IndexItem) → false ≡ (length items == 0) → items ≡ [] → ⊥
not_none items e none = false≢true (e ∙ ap (λ (l : List IndexItem). length l == 0) none)

pub returns-then-is_empty : goal.returns-then-is_empty
returns-then-is_empty c = no_file c.args.byte _ c.in-Ok.items.items c.in-Ok.ensures (sym c.as_slice-listed.ensures.value ∙ none_items c.as_slice-listed.result.now (sym c.if-is_empty.ensures))

pub write_bucket-requires : goal.write_bucket-requires
write_bucket-requires c =
    let back = sym c.as_slice-listed.ensures.value in
    record {
      some = some_items c.as_slice-listed.result.now (not_none c.as_slice-listed.result.now c.if-is_empty.ensures);
      rising = subst AreRising back c.in-Ok.ensures.rising;
      under = subst (AllByRecursion (λ (item : IndexItem). is_under (Some c.args.byte) item.id ≡ true)) back c.in-Ok.ensures.under;
      sized = subst (AllByRecursion (λ (item : IndexItem). 0 < item.size)) back c.in-Ok.ensures.sized;
    }

pub returns-in-Ok-write_bucket : goal.returns-in-Ok-write_bucket
returns-in-Ok-write_bucket c =
    let some = λ (e : c.in-Ok.items.items ≡ []). not_none c.as_slice-listed.result.now c.if-is_empty.ensures (c.as_slice-listed.ensures.value ∙ e) in
    new_file c.args.byte _ c.in-Ok.items.items c.from_vec.result c.in-Ok.ensures some
    (subst (IsIndex (Some c.args.byte)) c.as_slice-listed.ensures.value c.in-Ok-write_bucket.ensures.are)
    (c.from_vec.ensures ∙ c.in-Ok-write_bucket.ensures.file ∙ ap (index_file (Some c.args.byte)) c.as_slice-listed.ensures.value)
