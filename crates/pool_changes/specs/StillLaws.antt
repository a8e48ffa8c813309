-- What a change of the index gives was given before it, with the same size.
use Rattle.std.proofs.Common.{◌≡◌, true, List, [], ◌∷◌, inl, inr, refl, sym, ap, ◌∙◌}
use Rattle.disk_trait.specs.declared.ids.PoolId.{PoolId}
use Rattle.intent_journal.specs.ChangesLaws.{either}
use Rattle.pool_index.specs.Items.{is_same_id}
use Rattle.pool_changes.specs.declared.slot.Turn.{Turn}
use Rattle.pool_changes.specs.declared.slot.Turn.TheVariants.{Add, Mark, Unmark, Remove}
use Rattle.pool_changes.specs.Slots.{Slots, is_given, size_of, with_slot, one_id}
use Rattle.pool_changes.specs.Kept.{IsSame}
use Rattle.pool_changes.specs.Relisted.{turned, relisted}
use Rattle.pool_changes.specs.RelistedLaws.{turned_given}
use Rattle.pool_changes.specs.Indexed.{relisted_by}

-- what is given now was, with the same size
abbrev pub AreStill : (old new : Slots) → Type 0
AreStill old new = (asked : PoolId) → is_given (new asked) ≡ true → (is_given (old asked) ≡ true) × (size_of (new asked) ≡ size_of (old asked))

pub still_relisted : (turn : Turn) (ids : List PoolId) (slots : Slots) → AreStill slots (relisted turn ids slots)
still_relisted turn [] slots asked given = (given, refl)
still_relisted turn (id ∷ ids) slots asked given =
    let rest = still_relisted turn ids (with_slot slots id (turned turn (slots id))) asked given in
    elim (either (is_same_id asked id)) [
      | inl same ↦
          let there : with_slot slots id (turned turn (slots id)) asked ≡ turned turn (slots id) = rw same refl in
          let one = turned_given turn (slots id) (sym (ap is_given there) ∙ rest.0) in (
            ap (λ (x : PoolId). is_given (slots x)) (one_id asked id same) ∙ one.0,
            rest.1 ∙ ap size_of there ∙ one.1 ∙ sym (ap (λ (x : PoolId). size_of (slots x)) (one_id asked id same)),
          )
      | inr other ↦
          let there : with_slot slots id (turned turn (slots id)) asked ≡ slots asked = rw other refl in
          (sym (ap is_given there) ∙ rest.0, rest.1 ∙ ap size_of there)
    ]

still_then : (a b c : Slots) → AreStill a b → AreStill b c → AreStill a c
still_then a b c first second asked given =
    let here = second asked given in
    let there = first asked here.0 in
    (there.0, here.1 ∙ there.1)

still_same : (a b c : Slots) → AreStill a b → IsSame b c → AreStill a c
still_same a b c first same asked given =
    let there = first asked (sym (ap is_given (same asked)) ∙ given) in
    (there.0, ap size_of (same asked) ∙ there.1)

pub still_after : (added marked unmarked removed : List PoolId) (old new : Slots) → IsSame (relisted_by added marked unmarked removed old) new → AreStill old new
still_after added marked unmarked removed old new same =
    let one = relisted Add added old in
    let two = relisted Mark marked one in
    let three = relisted Unmark unmarked two in
    still_same old (relisted Remove removed three) new
    (still_then old three (relisted Remove removed three)
    (still_then old two three (still_then old one two (still_relisted Add added old) (still_relisted Mark marked one)) (still_relisted Unmark unmarked two))
    (still_relisted Remove removed three))
    same
