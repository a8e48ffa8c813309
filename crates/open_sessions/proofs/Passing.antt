-- A reader behind its next part.
use Rattle.std.specs.Prelude.{◌+◌, ℕ, List, ◌++◌, length, Some, None, slice_set}
use Rattle.std.proofs.Common.{refl, inl, inr}
use Rattle.open_sessions.specs.declared.readers.OpenReader.{OpenReader}
use Rattle.open_sessions.specs.Giving.{IsJudged, IsPassed}

module _ {S : Type 0} (holds : S → List ℕ → Type 0) (digest_of : List ℕ → List ℕ) (reader : OpenReader S) (part : List ℕ)
    (readers : List (OpenReader S)) (index : ℕ) (digest : S)
    (took : (bytes : List ℕ) → holds reader.digest bytes → holds digest (bytes ++ part)) where
  abbrev took_in : OpenReader S
  took_in = record reader { digest = digest }

  -- further on
  pub passed_further : IsJudged holds digest_of took_in (reader.given + length part) None
      → IsPassed holds digest_of reader part readers index (slice_set readers index (record took_in { given = reader.given + length part }))
  passed_further judged = record {
    next = record took_in { given = reader.given + length part };
    items = refl;
    passes = record { number = refl; content = refl; size = refl; took = took };
    where_it_is = inl (record {
      given = refl;
      wrong = refl;
      right = λ last bytes held. judged last (bytes ++ part) (took bytes held);
    });
  }

  -- stopped by a wrong digest
  pub passed_stopped : (wrong : List ℕ) → IsJudged holds digest_of took_in (reader.given + length part) (Some wrong)
      → IsPassed holds digest_of reader part readers index (slice_set readers index (record took_in { wrong = Some wrong }))
  passed_stopped wrong judged = record {
    next = record took_in { wrong = Some wrong };
    items = refl;
    passes = record { number = refl; content = refl; size = refl; took = took };
    where_it_is = inr (record {
      given = refl;
      last = judged.0;
      wrong = λ bytes held. judged.1 (bytes ++ part) (took bytes held);
    });
  }
