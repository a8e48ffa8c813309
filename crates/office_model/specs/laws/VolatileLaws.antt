-- What is open stays sound where a dump or a restore is opened, changed at its place, or dropped. A further list of what is open has
-- its law here, once for each of these six changes.
use Rattle.std.specs.Prelude.{◌≡◌, ◌≢◌, ◌<◌, ℕ, ◌+◌, List, [], ◌∷◌, ◌++◌, length, None, Some, slice_get, slice_set, ◌⊎◌}
use Rattle.std.specs.List.{remove}
use Rattle.std.proofs.Common.{refl, sym, ap, ◌∙◌, subst, inl, inr, arith}
use Rattle.receipts.specs.declared.session.SessionName.{SessionName}
use Rattle.office_model.specs.Places.{place_before}
use Rattle.office_model.specs.PlacesLaws.{AtEach-longer, AtEach-set, AtEach-remove, Differ-longer, Differ-set, Differ-remove, in_longer, slice_get-remove}
use Rattle.office_model.specs.Pool.{Pool}
use Rattle.receipts.specs.declared.receipt.Receipt.{Receipt}
use Rattle.office_model.specs.Office.{Dump, Restore, Reader, Stage, Volatile, AreKept, IsOver, dump_index_of_host, nothing_open, stages_left, IsTree, IsGiven, IsSoundVolatile, IsPooledTree, IsPooledReader, IsPooledOpen}
use Rattle.office_model.specs.laws.Lookups.{dump_index_of_host-none}
use Rattle.office_model.specs.laws.DurableLaws.{kept_key}
use Rattle.office_model.specs.laws.StageLaws.{stages_longer, stages_set, stages_removed}

later : (epoch sequence : ℕ) (name : SessionName) → IsGiven epoch sequence name → IsGiven epoch (sequence + 1) name
later epoch sequence name given = record { this_epoch = given.this_epoch; given_out = let g = given.given_out in omega arith }

-- the session that comes next
abbrev pub session_of : ℕ → ℕ → SessionName
session_of epoch sequence = record { epoch = epoch; sequence = sequence }

-- no session has its name
not_next : (epoch sequence : ℕ) (name : SessionName) → IsGiven epoch sequence name → name ≡ session_of epoch sequence → ⊥
not_next epoch sequence name given same = let e : name.sequence ≡ sequence = ap (λ (n : SessionName). n.sequence) same in let g = given.given_out in omega arith

next_given : (epoch sequence : ℕ) → IsGiven epoch (sequence + 1) (session_of epoch sequence)
next_given epoch sequence = record { this_epoch = refl; given_out = omega arith }

module _ (epoch : ℕ) (now : Volatile) (are : IsSoundVolatile epoch now) where
  -- ---- dumps

  pub dump_added : (dump : Dump) → dump.name ≡ session_of epoch now.sequence → dump_index_of_host now.dumps dump.host ≡ None
      → IsTree dump.base → IsTree dump.tree → AreKept dump.kept
      → IsSoundVolatile epoch (record now { dumps = now.dumps ++ dump ∷ []; sequence = now.sequence + 1 })
  dump_added dump name_is none base tree kept = record {
    sessions = record {
      dumps_given = AtEach-longer (λ (d : Dump). IsGiven epoch (now.sequence + 1) d.name) now.dumps dump
          (λ i d at. later epoch now.sequence d.name (are.sessions.dumps_given i d at)) (subst (IsGiven epoch (now.sequence + 1)) (sym name_is) (next_given epoch now.sequence));
      restores_given = λ i r at. later epoch now.sequence r.name (are.sessions.restores_given i r at);
      dumps_differ = Differ-longer (λ (d : Dump). d.name) now.dumps dump are.sessions.dumps_differ (λ i d at same. not_next epoch now.sequence d.name (are.sessions.dumps_given i d at) (same ∙ name_is));
      restores_differ = are.sessions.restores_differ;
      apart = λ i j d r at other same. step i j d r other same (in_longer now.dumps dump i d at);
    };
    dumps = record {
      one_a_host = Differ-longer (λ (d : Dump). d.host) now.dumps dump are.dumps.one_a_host (λ i d at. dump_index_of_host-none now.dumps dump.host i d none at);
      bases = AtEach-longer (λ (d : Dump). IsTree d.base) now.dumps dump are.dumps.bases base;
      trees = AtEach-longer (λ (d : Dump). IsTree d.tree) now.dumps dump are.dumps.trees tree;
      tokens = AtEach-longer (λ (d : Dump). AreKept d.kept) now.dumps dump are.dumps.tokens kept;
    };
    restores = are.restores;
    stages = stages_longer now.dumps now.stages are.stages dump;
    readers = are.readers;
  }
    where
      step : (i j : ℕ) (d : Dump) (r : Restore) → slice_get now.restores j ≡ Some r → d.name ≡ r.name
          → (slice_get now.dumps i ≡ Some d) ⊎ ((i ≡ length now.dumps) × (d ≡ dump)) → ⊥
      step i j d r other same (inl f) = are.sessions.apart i j d r f other same
      step i j d r other same (inr f) =
          not_next epoch now.sequence r.name (are.sessions.restores_given j r other) (sym same ∙ ap (λ (x : Dump). x.name) f.1 ∙ name_is)

  -- a dump at its place with another tree or other tokens kept
  pub dump_set : (p : ℕ) (old new : Dump) → slice_get now.dumps p ≡ Some old → new.name ≡ old.name → new.host ≡ old.host
      → new.base ≡ old.base → IsTree new.tree → AreKept new.kept → IsSoundVolatile epoch (record now { dumps = slice_set now.dumps p new })
  dump_set p old new was name host base tree kept = record {
    sessions = record {
      dumps_given = AtEach-set (λ (d : Dump). IsGiven epoch now.sequence d.name) now.dumps p new are.sessions.dumps_given (subst (IsGiven epoch now.sequence) (sym name) (are.sessions.dumps_given p old was));
      restores_given = are.sessions.restores_given;
      dumps_differ = Differ-set (λ (d : Dump). d.name) now.dumps p old new was name are.sessions.dumps_differ;
      restores_differ = are.sessions.restores_differ;
      apart = λ i j d r at other same.
          let w = kept_key (λ (x : Dump). x.name) now.dumps p i old new d was name at in are.sessions.apart i j w.0 r w.1 other (sym w.2 ∙ same);
    };
    dumps = record {
      one_a_host = Differ-set (λ (d : Dump). d.host) now.dumps p old new was host are.dumps.one_a_host;
      bases = AtEach-set (λ (d : Dump). IsTree d.base) now.dumps p new are.dumps.bases (subst IsTree (sym base) (are.dumps.bases p old was));
      trees = AtEach-set (λ (d : Dump). IsTree d.tree) now.dumps p new are.dumps.trees tree;
      tokens = AtEach-set (λ (d : Dump). AreKept d.kept) now.dumps p new are.dumps.tokens kept;
    };
    restores = are.restores;
    stages = stages_set now.dumps now.stages are.stages p old new was name;
    readers = are.readers;
  }

  pub dump_removed : (p : ℕ) (dump : Dump) (session : SessionName) → slice_get now.dumps p ≡ Some dump → dump.name ≡ session
      → IsSoundVolatile epoch (record now { dumps = remove now.dumps p; stages = stages_left session now.stages })
  dump_removed p dump session was name = record {
    sessions = record {
      dumps_given = AtEach-remove (λ (d : Dump). IsGiven epoch now.sequence d.name) now.dumps p are.sessions.dumps_given;
      restores_given = are.sessions.restores_given;
      dumps_differ = Differ-remove (λ (d : Dump). d.name) now.dumps p are.sessions.dumps_differ;
      restores_differ = are.sessions.restores_differ;
      apart = λ i j d r at other. are.sessions.apart (place_before p i) j d r (sym (slice_get-remove now.dumps p i) ∙ at) other;
    };
    dumps = record {
      one_a_host = Differ-remove (λ (d : Dump). d.host) now.dumps p are.dumps.one_a_host;
      bases = AtEach-remove (λ (d : Dump). IsTree d.base) now.dumps p are.dumps.bases;
      trees = AtEach-remove (λ (d : Dump). IsTree d.tree) now.dumps p are.dumps.trees;
      tokens = AtEach-remove (λ (d : Dump). AreKept d.kept) now.dumps p are.dumps.tokens;
    };
    restores = are.restores;
    stages = stages_removed now.dumps now.stages are.stages p dump session was name;
    readers = are.readers;
  }

  -- ---- restores

  pub restore_added : (restore : Restore) → restore.name ≡ session_of epoch now.sequence → IsTree restore.tree
      → IsSoundVolatile epoch (record now { restores = now.restores ++ restore ∷ []; sequence = now.sequence + 1 })
  restore_added restore name_is tree = record {
    sessions = record {
      dumps_given = λ i d at. later epoch now.sequence d.name (are.sessions.dumps_given i d at);
      restores_given = AtEach-longer (λ (r : Restore). IsGiven epoch (now.sequence + 1) r.name) now.restores restore
          (λ i r at. later epoch now.sequence r.name (are.sessions.restores_given i r at)) (subst (IsGiven epoch (now.sequence + 1)) (sym name_is) (next_given epoch now.sequence));
      dumps_differ = are.sessions.dumps_differ;
      restores_differ = Differ-longer (λ (r : Restore). r.name) now.restores restore are.sessions.restores_differ (λ i r at same. not_next epoch now.sequence r.name (are.sessions.restores_given i r at) (same ∙ name_is));
      apart = λ i j d r at other same. step i j d r at same (in_longer now.restores restore j r other);
    };
    dumps = are.dumps;
    restores = AtEach-longer (λ (r : Restore). IsTree r.tree) now.restores restore are.restores tree;
    stages = are.stages;
    readers = are.readers;
  }
    where
      step : (i j : ℕ) (d : Dump) (r : Restore) → slice_get now.dumps i ≡ Some d → d.name ≡ r.name
          → (slice_get now.restores j ≡ Some r) ⊎ ((j ≡ length now.restores) × (r ≡ restore)) → ⊥
      step i j d r at same (inl f) = are.sessions.apart i j d r at f same
      step i j d r at same (inr f) =
          not_next epoch now.sequence d.name (are.sessions.dumps_given i d at) (same ∙ ap (λ (x : Restore). x.name) f.1 ∙ name_is)

  -- a restore at its place at another position
  pub restore_set : (p : ℕ) (old new : Restore) → slice_get now.restores p ≡ Some old → new.name ≡ old.name → new.tree ≡ old.tree
      → IsSoundVolatile epoch (record now { restores = slice_set now.restores p new })
  restore_set p old new was name tree = record {
    sessions = record {
      dumps_given = are.sessions.dumps_given;
      restores_given = AtEach-set (λ (r : Restore). IsGiven epoch now.sequence r.name) now.restores p new are.sessions.restores_given (subst (IsGiven epoch now.sequence) (sym name) (are.sessions.restores_given p old was));
      dumps_differ = are.sessions.dumps_differ;
      restores_differ = Differ-set (λ (r : Restore). r.name) now.restores p old new was name are.sessions.restores_differ;
      apart = λ i j d r at other same. let w = kept_key (λ (x : Restore). x.name) now.restores p j old new r was name other in are.sessions.apart i j d w.0 at w.1 (same ∙ w.2);
    };
    dumps = are.dumps;
    restores = AtEach-set (λ (r : Restore). IsTree r.tree) now.restores p new are.restores (subst IsTree (sym tree) (are.restores p old was));
    stages = are.stages;
    readers = are.readers;
  }

  pub restore_removed : (p : ℕ) → IsSoundVolatile epoch (record now { restores = remove now.restores p })
  restore_removed p = record {
    sessions = record {
      dumps_given = are.sessions.dumps_given;
      restores_given = AtEach-remove (λ (r : Restore). IsGiven epoch now.sequence r.name) now.restores p are.sessions.restores_given;
      dumps_differ = are.sessions.dumps_differ;
      restores_differ = Differ-remove (λ (r : Restore). r.name) now.restores p are.sessions.restores_differ;
      apart = λ i j d r at other. are.sessions.apart i (place_before p j) d r at (sym (slice_get-remove now.restores p j) ∙ other);
    };
    dumps = are.dumps;
    restores = AtEach-remove (λ (r : Restore). IsTree r.tree) now.restores p are.restores;
    stages = are.stages;
    readers = are.readers;
  }

-- ---- what has a receipt isn't open

module _ (epoch sequence : ℕ) (dumps : List Dump) (restores : List Restore) (receipt : Receipt)
    (was : IsOver epoch sequence dumps restores receipt) where
  -- the session that comes next has none
  not_yet : (name : SessionName) → name ≡ session_of epoch sequence → name ≢ receipt.name
  not_yet name is same =
      let e : receipt.name ≡ session_of epoch sequence = sym same ∙ is in
      let less : receipt.name.sequence < sequence = was.given (ap (λ (n : SessionName). n.epoch) e) in
      let s : receipt.name.sequence ≡ sequence = ap (λ (n : SessionName). n.sequence) e in omega arith

  given_later : receipt.name.epoch ≡ epoch → receipt.name.sequence < sequence + 1
  given_later e = let less : receipt.name.sequence < sequence = was.given e in omega arith

  pub over_dump_added : (dump : Dump) → dump.name ≡ session_of epoch sequence
      → IsOver epoch (sequence + 1) (dumps ++ dump ∷ []) restores receipt
  over_dump_added dump name_is = record {
    given = given_later;
    no_dump = AtEach-longer (λ (d : Dump). d.name ≢ receipt.name) dumps dump was.no_dump (not_yet dump.name name_is);
    no_restore = was.no_restore;
  }

  pub over_dump_set : (p : ℕ) (old new : Dump) → slice_get dumps p ≡ Some old → new.name ≡ old.name
      → IsOver epoch sequence (slice_set dumps p new) restores receipt
  over_dump_set p old new at name = record {
    given = was.given;
    no_dump = AtEach-set (λ (d : Dump). d.name ≢ receipt.name) dumps p new was.no_dump (λ same. was.no_dump p old at (sym name ∙ same));
    no_restore = was.no_restore;
  }

  pub over_dump_removed : (p : ℕ) → IsOver epoch sequence (remove dumps p) restores receipt
  over_dump_removed p = record {
    given = was.given;
    no_dump = AtEach-remove (λ (d : Dump). d.name ≢ receipt.name) dumps p was.no_dump;
    no_restore = was.no_restore;
  }

  pub over_restore_added : (restore : Restore) → restore.name ≡ session_of epoch sequence
      → IsOver epoch (sequence + 1) dumps (restores ++ restore ∷ []) receipt
  over_restore_added restore name_is = record {
    given = given_later;
    no_dump = was.no_dump;
    no_restore = AtEach-longer (λ (r : Restore). r.name ≢ receipt.name) restores restore was.no_restore (not_yet restore.name name_is);
  }

  pub over_restore_set : (p : ℕ) (old new : Restore) → slice_get restores p ≡ Some old → new.name ≡ old.name
      → IsOver epoch sequence dumps (slice_set restores p new) receipt
  over_restore_set p old new at name = record {
    given = was.given;
    no_dump = was.no_dump;
    no_restore = AtEach-set (λ (r : Restore). r.name ≢ receipt.name) restores p new was.no_restore (λ same. was.no_restore p old at (sym name ∙ same));
  }

  pub over_restore_removed : (p : ℕ) → IsOver epoch sequence dumps (remove restores p) receipt
  over_restore_removed p = record {
    given = was.given;
    no_dump = was.no_dump;
    no_restore = AtEach-remove (λ (r : Restore). r.name ≢ receipt.name) restores p was.no_restore;
  }

-- no token is kept
pub AreKept-nil : AreKept []
AreKept-nil = record { few = omega arith; differ = λ i j a b at. absurd (cc) }

-- ---- what is open is in the pool

module _ (pool : Pool) (now : Volatile) (are : IsPooledOpen pool now) where
  pub pooled_dump_added : (dump : Dump) (sequence : ℕ) → IsPooledTree pool dump.base
      → IsPooledOpen pool (record now { dumps = now.dumps ++ dump ∷ []; sequence = sequence })
  pooled_dump_added dump sequence base = record {
    of_bases = AtEach-longer (λ (d : Dump). IsPooledTree pool d.base) now.dumps dump are.of_bases base;
    of_restores = are.of_restores;
    of_readers = are.of_readers;
  }

  pub pooled_dump_set : (p : ℕ) (old new : Dump) → slice_get now.dumps p ≡ Some old → new.base ≡ old.base
      → IsPooledOpen pool (record now { dumps = slice_set now.dumps p new })
  pooled_dump_set p old new was base = record {
    of_bases = AtEach-set (λ (d : Dump). IsPooledTree pool d.base) now.dumps p new are.of_bases (subst (IsPooledTree pool) (sym base) (are.of_bases p old was));
    of_restores = are.of_restores;
    of_readers = are.of_readers;
  }

  pub pooled_dump_removed : (p : ℕ) (stages : List Stage) → IsPooledOpen pool (record now { dumps = remove now.dumps p; stages = stages })
  pooled_dump_removed p stages = record {
    of_bases = AtEach-remove (λ (d : Dump). IsPooledTree pool d.base) now.dumps p are.of_bases;
    of_restores = are.of_restores;
    of_readers = are.of_readers;
  }

  pub pooled_restore_added : (restore : Restore) (sequence : ℕ) → IsPooledTree pool restore.tree
      → IsPooledOpen pool (record now { restores = now.restores ++ restore ∷ []; sequence = sequence })
  pooled_restore_added restore sequence tree = record {
    of_bases = are.of_bases;
    of_restores = AtEach-longer (λ (r : Restore). IsPooledTree pool r.tree) now.restores restore are.of_restores tree;
    of_readers = are.of_readers;
  }

  pub pooled_restore_set : (p : ℕ) (old new : Restore) → slice_get now.restores p ≡ Some old → new.tree ≡ old.tree
      → IsPooledOpen pool (record now { restores = slice_set now.restores p new })
  pooled_restore_set p old new was tree = record {
    of_bases = are.of_bases;
    of_restores = AtEach-set (λ (r : Restore). IsPooledTree pool r.tree) now.restores p new are.of_restores (subst (IsPooledTree pool) (sym tree) (are.of_restores p old was));
    of_readers = are.of_readers;
  }

  pub pooled_restore_removed : (p : ℕ) → IsPooledOpen pool (record now { restores = remove now.restores p })
  pooled_restore_removed p = record {
    of_bases = are.of_bases;
    of_restores = AtEach-remove (λ (r : Restore). IsPooledTree pool r.tree) now.restores p are.of_restores;
    of_readers = are.of_readers;
  }

  -- in a pool that has what must stay
  pub pooled_more : (pool' : Pool)
      → ((i : ℕ) (dump : Dump) → slice_get now.dumps i ≡ Some dump → IsPooledTree pool dump.base → IsPooledTree pool' dump.base)
      → ((i : ℕ) (restore : Restore) → slice_get now.restores i ≡ Some restore → IsPooledTree pool restore.tree → IsPooledTree pool' restore.tree)
      → ((i : ℕ) (reader : Reader) → slice_get now.readers i ≡ Some reader → IsPooledReader pool reader → IsPooledReader pool' reader)
      → IsPooledOpen pool' now
  pooled_more pool' bases restores readers = record {
    of_bases = λ i dump at. bases i dump at (are.of_bases i dump at);
    of_restores = λ i restore at. restores i restore at (are.of_restores i restore at);
    of_readers = λ i reader at. readers i reader at (are.of_readers i reader at);
  }

-- with nothing open
pub pooled_nothing : (pool : Pool) → IsPooledOpen pool nothing_open
pooled_nothing pool = record { of_bases = λ i d at. absurd (cc); of_restores = λ i r at. absurd (cc); of_readers = λ i r at. absurd (cc) }

pub IsSoundVolatile-nothing : (epoch : ℕ) → IsSoundVolatile epoch nothing_open
IsSoundVolatile-nothing epoch = record {
  sessions = record {
    dumps_given = λ i d at. absurd (cc);
    restores_given = λ i r at. absurd (cc);
    dumps_differ = λ i j a b at. absurd (cc);
    restores_differ = λ i j a b at. absurd (cc);
    apart = λ i j d r at. absurd (cc);
  };
  dumps = record { one_a_host = λ i j a b at. absurd (cc); bases = λ i d at. absurd (cc); trees = λ i d at. absurd (cc); tokens = λ i d at. absurd (cc) };
  restores = λ i r at. absurd (cc);
  stages = record { of_dumps = λ i s at. absurd (cc); numbers_differ = λ i j a b at. absurd (cc); fit = λ i s at. absurd (cc) };
  readers = record { numbers_differ = λ i j a b at. absurd (cc); places = λ i r at. absurd (cc) };
}
