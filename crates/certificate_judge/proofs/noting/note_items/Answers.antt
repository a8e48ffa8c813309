-- One item more, and all of them.
use Rattle.std.proofs.Common.{◌≡◌, ℕ, ◌<◌, ◌++◌, ◌==◌, not, List, [], length, get_or, ap, subst, ◌∙◌, arith}
use Rattle.std.proofs.lemmas.List.{length-map, get_or-map, take_all}
use Rattle.certificates.specs.Certificate.{Id, Item}
use Rattle.certificates.specs.Layout.{item_bytes}
use Rattle.certificate_judge.specs.Faults.{is_miscounted, wrong, ids_of_items}
use Rattle.certificate_judge.specs.Judging.{IsTally, ids_in}
use Rattle.certificate_judge.proofs.Numbers.{number_held}
use Rattle.certificate_judge.proofs.Parts.{at_index, ids_in-items}
use Rattle.certificate_judge.proofs.Wrongs.{noted_more}
use Rattle.certificate_judge.proofs.noting.note_items.Goals as goal

none : Item
none = record { id = []; count = 0 }

pub loop-i-preserved : goal.loop-i-preserved
loop-i-preserved c = record {
  placed = λ below. let here = c.loop-i.invariant.placed below in omega (arith, here, below, c.loop-i-test.true, c.saturating_add-here.ensures);
  noted = λ offsets items numbers are fits held small below before.
      let many : length c.args.block.now ≡ length items = ap length are ∙ length-map items item_bytes in
      let within : c.loop-i.i < length items = omega (arith, many, c.loop-i-test.true) in
      let item : Item = get_or items c.loop-i.i none in
      let ids : ids_in c.args.block.now ≡ ids_of_items items = ap (λ (l : List (List ℕ)). ids_in l) are ∙ ids_in-items items fits in
      let inside : c.loop-i.i < length (ids_in c.args.block.now) = omega (arith, ap length ids, length-map items (λ (x : Item). x.id), within) in
      let id : get_or (ids_in c.args.block.now) c.loop-i.i [] ≡ item.id =
      ap (λ (l : List Id). get_or l c.loop-i.i []) ids ∙ get_or-map (λ (x : Item). x.id) items c.loop-i.i none [] within in
      let number : get_or c.args.counters.now c.loop-i.i 0 ≡ numbers item.id =
      number_held numbers small (ids_in c.args.block.now) c.args.counters.now c.loop-i.i [] 0 held inside ∙ ap numbers id in
      let count : c.count_of.result ≡ item.count =
      c.count_of.ensures item (at_index _ items c.loop-i.i none fits within)
      (ap (λ (l : List (List ℕ)). get_or l c.loop-i.i []) are ∙ get_or-map item_bytes items c.loop-i.i none [] within) in
      noted_more (is_miscounted numbers) 26 offsets c.args.at c.loop-i.i c.loop-i.here items none
      (not (c.count_of.result == get_or c.args.counters.now c.loop-i.i 0)) c.loop-i.now c.and_if-now.result within (λ os is. c.and_if-now.ensures os is)
      (ap (λ (n : ℕ). not (n == get_or c.args.counters.now c.loop-i.i 0)) count ∙ ap (λ (n : ℕ). not (item.count == n)) number)
      (c.loop-i.invariant.placed (omega (arith, below, many)))
      (c.loop-i.invariant.noted offsets items numbers are fits held small below before);
}

pub returns : goal.returns
returns c = λ offsets items numbers are fits held small below before.
    let many : length c.args.block.now ≡ length items = ap length are ∙ length-map items item_bytes in
    subst (λ (l : List Item). IsTally (offsets ++ wrong (is_miscounted numbers) 26 c.args.at l) c.loop-i.now)
    (take_all c.loop-i.i items (omega (arith, many, c.loop-i-test.false)))
    (c.loop-i.invariant.noted offsets items numbers are fits held small below before)
