-- What becomes of an open reader.
--     IsJudged holds digest_of reader given wrong      what the digest of a reader says, if so many bytes are all
--     IsPassed holds digest_of reader part old index new      the reader at an index is behind its next part
use Rattle.std.specs.Prelude.{◌≡◌, ◌≢◌, ◌⊎◌, ◌+◌, ℕ, List, ◌++◌, length, Option, Some, None, slice_set}
use Rattle.disk_trait.specs.declared.ids.PoolId.{PoolId}
use Rattle.open_sessions.specs.declared.readers.OpenReader.{OpenReader}

module _ {S : Type 0} (holds : S → List ℕ → Type 0) (digest_of : List ℕ → List ℕ) where
  -- all was given, and has the digest of its name, if it has a name
  abbrev pub IsRight : Option PoolId → List ℕ → Type 0
  IsRight None whole = Unit {0}
  IsRight (Some id) whole = id.digest ≡ digest_of whole

  -- it has another digest than its name: this one
  abbrev pub IsWrong : Option PoolId → List ℕ → Option (List ℕ) → Type 0
  IsWrong None whole wrong = ⊥
  IsWrong (Some id) whole wrong = (wrong ≡ Some (digest_of whole)) × (digest_of whole ≢ id.digest)

  -- by the digest of the reader, if so many bytes are all: a digest that isn't the one of the name, or none
  abbrev pub IsJudged : OpenReader S → ℕ → Option (List ℕ) → Type 0
  IsJudged reader given None = given ≡ reader.size → (bytes : List ℕ) → holds reader.digest bytes → IsRight reader.content bytes
  IsJudged reader given (Some wrong) =
      (given ≡ reader.size) × ((bytes : List ℕ) → holds reader.digest bytes → IsWrong reader.content bytes (Some wrong))

  pub record Passes (reader : OpenReader S) (part : List ℕ) (next : OpenReader S) : Type 0 where
    pub number : next.number ≡ reader.number
    pub content : next.content ≡ reader.content
    pub size : next.size ≡ reader.size
    pub took : (bytes : List ℕ) → holds reader.digest bytes → holds next.digest (bytes ++ part)

  -- further on
  pub record IsFurther (reader : OpenReader S) (part : List ℕ) (next : OpenReader S) : Type 0 where
    pub given : next.given ≡ reader.given + length part
    pub wrong : next.wrong ≡ reader.wrong
    pub right : next.given ≡ reader.size → (bytes : List ℕ) → holds reader.digest bytes → IsRight reader.content (bytes ++ part)

  -- where it was, with the digest that was found
  pub record IsStopped (reader : OpenReader S) (part : List ℕ) (next : OpenReader S) : Type 0 where
    pub given : next.given ≡ reader.given
    pub last : reader.given + length part ≡ reader.size
    pub wrong : (bytes : List ℕ) → holds reader.digest bytes → IsWrong reader.content (bytes ++ part) next.wrong

  pub record IsPassed (reader : OpenReader S) (part : List ℕ) (old : List (OpenReader S)) (index : ℕ)
      (new : List (OpenReader S)) : Type 0 where
    pub next : OpenReader S
    pub items : new ≡ slice_set old index next
    pub passes : Passes reader part next
    pub where_it_is : IsFurther reader part next ⊎ IsStopped reader part next
