-- Eight more bytes that both have may be passed over.
use Rattle.std.proofs.Common.{◌≡◌, ◌≤◌, ℕ, ◌+◌, ◌-◌, List, length, take, drop, ap, sym, subst, ◌∙◌, arith}
use Rattle.std.proofs.lemmas.List.{length-drop, take_rest}
use Rattle.attr_records.specs.Paths.{path_cmp}
use Rattle.attr_records.proofs.SharedPrefixes.{shared}
use Rattle.attr_records.proofs.paths.shared_prefix.Goals as goal

within : (bytes : List ℕ) (at : ℕ) → at ≤ length bytes → 8 ≤ length (take (length bytes - at) (drop at bytes)) → at + 8 ≤ length bytes
within bytes at before long =
    let left : 8 ≤ length bytes - at = subst (λ n. 8 ≤ n) (ap length (take_rest bytes at) ∙ length-drop at bytes) long in
    omega arith

further : (a b : List ℕ) (at : ℕ) → take 8 (take (length a - at) (drop at a)) ≡ take 8 (take (length b - at) (drop at b))
    → path_cmp (drop (at + 8) a) (drop (at + 8) b) ≡ path_cmp (drop at a) (drop at b)
further a b at alike = shared a b at 8 (sym (ap (take 8) (take_rest a at)) ∙ alike ∙ ap (take 8) (take_rest b at))

pub loop-prefix-preserved : goal.loop-prefix-preserved
loop-prefix-preserved c = record {
  within_a = within c.args.a.now c.loop-prefix.prefix c.loop-prefix.invariant.within_a (c.begin_alike.ensures.long_a c.loop-prefix-test.true);
  within_b = within c.args.b.now c.loop-prefix.prefix c.loop-prefix.invariant.within_b (c.begin_alike.ensures.long_b c.loop-prefix-test.true);
  same = further c.args.a.now c.args.b.now c.loop-prefix.prefix (c.begin_alike.ensures.alike c.loop-prefix-test.true) ∙ c.loop-prefix.invariant.same;
}
