use Rattle.std.proofs.Common.{◌≡◌, ◌≢◌, ℕ, List, ◌++◌, sym, ap, ◌∙◌, Some, None, Bor}
use Rattle.std.specs.Prelude.{Option}
use Rattle.std.specs.Option.{option_copied, MatchOption}
use Rattle.std.proofs.lemmas.Bool.Decides.{Decides-eqb}
use Rattle.std.proofs.lemmas.Slice.Eq.{strip_prefix_is}
use Rattle.http_query.specs.Numbers.{stripped}
use Rattle.http_query.proofs.ScanLaws.{stripped-append, stripped_none}
use Rattle.http_query.proofs.scan.strip.Goals as goal

is_stripped : (front bytes : List ℕ) (r : Option (Bor (List ℕ))) → MatchOption r ((rest : List ℕ) → bytes ≢ front ++ rest) (λ x. bytes ≡ front ++ x.now) → option_copied r ≡ stripped front bytes
is_stripped front bytes None other = sym (stripped_none front bytes other)
is_stripped front bytes (Some x) e = sym (ap (stripped front) e ∙ stripped-append front x.now)

pub returns : goal.returns
returns c =
    is_stripped c.args.prefix.now c.args.bytes.now c.strip_prefix.result
    (strip_prefix_is Decides-eqb c.args.bytes.now c.args.prefix.now c.strip_prefix.result c.strip_prefix.ensures.cases)
