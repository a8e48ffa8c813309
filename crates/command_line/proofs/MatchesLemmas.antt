-- What a parse of clap's says of a simple command.
use Rattle.std.specs.Prelude.{◌≡◌, ◌≢◌, List, ℕ, true, [], ◌∷◌, refl}
use Rattle.std.proofs.Common.{sym, inl, inr}
use Rattle.clap.specs.Simple.{App, HasMatchesOf, is_simple, subcommand_of, subcommand_rows_of}
use Rattle.clap.specs.Faults.{fault_of, is_simple_and_free}
use Rattle.clap.specs.Kinds.{HasKind, Kinds}
use Rattle.clap.specs.Values.{kind_of}
use Rattle.clap.specs.declared.error.Error.{Error}
use Rattle.clap.specs.declared.error.kind.ErrorKind.TheVariants.{OutOfMemory}
use Rattle.clap.specs.declared.parser.matches.ArgMatches.{ArgMatches}

pub taken : (app : App) (words : List (List ℕ)) (found : ArgMatches) → is_simple app ≡ true → is_simple_and_free app ≡ true
    → HasMatchesOf app words found → (is_simple_and_free app ≡ true → fault_of app words ≡ [])
    → (fault_of app words ≡ []) × (subcommand_of app words ≡ subcommand_rows_of found)
taken app words found simple free has passes = (passes free, sym ((has simple).1))

no_kind : (kinds : Kinds) (e : Error) → HasKind kinds e → kinds ≡ [] → kind_of e ≡ OutOfMemory
no_kind kinds e (inl is) none = is
no_kind [] e (inr among) none = absurd among
no_kind (k ∷ ks) e (inr among) none = cc none

pub refused : (app : App) (words : List (List ℕ)) (e : Error) → is_simple_and_free app ≡ true
    → (is_simple_and_free app ≡ true → HasKind (fault_of app words) e) → ¬ (kind_of e ≡ OutOfMemory) → fault_of app words ≢ []
refused app words e free fails not_memory none = not_memory (no_kind (fault_of app words) e (fails free) none)
