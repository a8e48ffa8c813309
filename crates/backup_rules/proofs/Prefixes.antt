-- What a writer that fails leaves: the bytes before it, and perhaps more behind them.
use Rattle.std.proofs.Common.{◌≡◌, ℕ, List, ◌++◌, length, take, Result, Ok, Err, sym, ap, ◌∙◌, length-append, arith}
use Rattle.std.specs.Prelude.{OnErr}
use Rattle.std.proofs.lemmas.List.{take-take}
use Rattle.std.proofs.Math.Seq.{take-append_seam}

pub still_prefix : (old middle new more : List ℕ) → middle ≡ old ++ more → take (length middle) new ≡ middle → take (length old) new ≡ old
still_prefix old middle new more is kept =
    sym (take-take (length old) (length middle) new (omega (arith, ap length is, length-append old more))) ∙ ap (take (length old)) (kept ∙ is) ∙ take-append_seam old more

pub on_err : {X E P : Type 0} (result : Result X E) → P → OnErr result P
on_err (Ok x) holds = tt
on_err (Err fault) holds = holds
