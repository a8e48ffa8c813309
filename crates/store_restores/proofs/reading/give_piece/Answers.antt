use Rattle.std.proofs.Common.{refl, sym, ap, ◌∙◌, subst, inl, inr, ℕ, List, take, drop}
use Rattle.disk_trait.specs.declared.ids.FileId.TheVariants.{Pool as PoolFile}
use Rattle.disk_trait.specs.Files.{piece as piece_of}
use Rattle.office_files.specs.Pooled.{contents_of}
use Rattle.open_sessions.specs.declared.sessions.Place.{Place}
use Rattle.store_reads.specs.Pieces.{IsPieceFault}
use Rattle.store_reads.specs.PiecesLaws.{piece_read}
use Rattle.store_restores.specs.Giving.{IsBehind}
use Rattle.store_restores.proofs.Opens.{not_failed}
use Rattle.store_restores.proofs.Nexts.{there_is, mid_there, stays_within, moves_back, next_fault, next_piece, next_wrong}
use Rattle.store_restores.proofs.reading.give_piece.Goals as goal

pub returns-in-Err-clause-runs : goal.returns-in-Err-clause-runs
returns-in-Err-clause-runs g c = λ session e.
    let w = there_is c.args.parts.now.sessions.restores.items c.args.at c.requires.there in
    next_fault c.args.parts.now session c.args.at w.0 e w.1 c.read_piece.new.parts c.in-Err.ensures.looks c.args.asked.now
    (c.requires.is w.0 w.1) c.in-Err.refusal
    (subst (λ (k : ℕ). IsPieceFault c.args.parts.now c.args.asked.now.content c.args.asked.now.from k c.in-Err.refusal) c.room_of.ensures
    c.in-Err.ensures.fault)
    c.in-Err.ensures.counted

pub set_place-requires : goal.set_place-requires
set_place-requires g c =
    let w = there_is c.args.parts.now.sessions.restores.items c.args.at c.requires.there in
    stays_within c.args.parts.now c.read_piece.new.parts c.in-Ok.ensures.looks c.args.at w.0 w.1 c.set_place-place.new.self
    c.set_place-place.ensures.set

pub returns-in-None-clause-runs : goal.returns-in-None-clause-runs
returns-in-None-clause-runs g c = λ session e.
    let w = there_is c.args.parts.now.sessions.restores.items c.args.at c.requires.there in
    let mid = mid_there c.args.parts.now c.read_piece.new.parts c.in-Ok.ensures.looks c.args.at w.0 w.1 in
    next_piece c.args.parts.now session c.args.at w.0 e w.1 c.read_piece.new.parts _ c.in-Ok.ensures.looks
    (record { journal = refl; pool = refl; catalog = refl; counts = refl; partials = refl; views = refl; halted = refl })
    c.in-Ok.ensures.counted (not_failed _) c.args.asked.now (c.requires.is w.0 w.1) c.in-Ok.piece
    (λ all told_is. piece_read (all (PoolFile c.args.asked.now.content)) c.args.asked.now.from c.room_of.result c.in-Ok.piece
    (sym (c.in-Ok.ensures.piece all told_is))
    ∙ ap (λ (k : ℕ). take k (drop c.args.asked.now.from (contents_of all c.args.asked.now.content))) c.room_of.ensures)
    c.place_behind-next.result
    (subst (λ (p : Place _). IsBehind g.N.Namer.holds g.N.Namer.digest_of p c.args.asked.now c.in-Ok.piece c.place_behind-next.result) (c.set_place-place.ensures.stood w.0 mid)
    (subst (λ (bytes : List ℕ). IsBehind g.N.Namer.holds g.N.Namer.digest_of c.set_place-place.result c.args.asked.now bytes c.place_behind-next.result) c.as_slice.ensures
    c.place_behind-next.ensures))
    (moves_back c.args.parts.now c.read_piece.new.parts c.in-Ok.ensures.looks c.args.at w.0 w.1 c.set_place-place.new.self
    c.set_place-place.ensures.set c.set_place-place.ensures.only c.place_behind-next.result
    c.set_place.new.self c.set_place.ensures.set c.set_place.ensures.only)

pub returns-in-Some-clause-runs : goal.returns-in-Some-clause-runs
returns-in-Some-clause-runs g c = λ session e.
    let w = there_is c.args.parts.now.sessions.restores.items c.args.at c.requires.there in
    let mid = mid_there c.args.parts.now c.read_piece.new.parts c.in-Ok.ensures.looks c.args.at w.0 w.1 in
    next_wrong c.args.parts.now session c.args.at w.0 e w.1 c.read_piece.new.parts _ c.in-Ok.ensures.looks
    (record { journal = refl; pool = refl; catalog = refl; counts = refl; partials = refl; views = refl; halted = refl })
    c.in-Ok.ensures.counted (not_failed _) c.args.asked.now (c.requires.is w.0 w.1) c.in-Ok.piece
    (λ all told_is. piece_read (all (PoolFile c.args.asked.now.content)) c.args.asked.now.from c.room_of.result c.in-Ok.piece
    (sym (c.in-Ok.ensures.piece all told_is))
    ∙ ap (λ (k : ℕ). take k (drop c.args.asked.now.from (contents_of all c.args.asked.now.content))) c.room_of.ensures)
    c.place_behind-next.result
    (subst (λ (p : Place _). IsBehind g.N.Namer.holds g.N.Namer.digest_of p c.args.asked.now c.in-Ok.piece c.place_behind-next.result) (c.set_place-place.ensures.stood w.0 mid)
    (subst (λ (bytes : List ℕ). IsBehind g.N.Namer.holds g.N.Namer.digest_of c.set_place-place.result c.args.asked.now bytes c.place_behind-next.result) c.as_slice.ensures
    c.place_behind-next.ensures))
    c.in-Some.digest c.in-Some.ensures c.wrong_content.result c.wrong_content.ensures

pub returns-in-Err-clause-gives : goal.returns-in-Err-clause-gives
returns-in-Err-clause-gives g c = λ restore there. inl (
  subst (λ (k : ℕ). IsPieceFault c.args.parts.now c.args.asked.now.content c.args.asked.now.from k c.in-Err.refusal) c.room_of.ensures
      c.in-Err.ensures.fault,
  c.in-Err.ensures.looks.sessions_same,
)

pub returns-in-None-clause-gives : goal.returns-in-None-clause-gives
returns-in-None-clause-gives g c = λ restore there.
    let mid = mid_there c.args.parts.now c.read_piece.new.parts c.in-Ok.ensures.looks c.args.at restore there in (
      c.in-Ok.piece,
      refl,
      (
        record {
          there = λ all told_is.
              ap (λ (k : ℕ). piece_of (all (PoolFile c.args.asked.now.content)) c.args.asked.now.from k) (sym c.room_of.ensures)
              ∙ c.in-Ok.ensures.piece all told_is;
          place = c.place_behind-next.result;
          behind = subst (λ (p : Place _). IsBehind g.N.Namer.holds g.N.Namer.digest_of p c.args.asked.now c.in-Ok.piece c.place_behind-next.result)
              (c.set_place-place.ensures.stood restore mid)
              (subst (λ (bytes : List ℕ). IsBehind g.N.Namer.holds g.N.Namer.digest_of c.set_place-place.result c.args.asked.now bytes
              c.place_behind-next.result) c.as_slice.ensures c.place_behind-next.ensures);
          moves = moves_back c.args.parts.now c.read_piece.new.parts c.in-Ok.ensures.looks c.args.at restore there c.set_place-place.new.self
              c.set_place-place.ensures.set c.set_place-place.ensures.only c.place_behind-next.result
              c.set_place.new.self c.set_place.ensures.set c.set_place.ensures.only;
        },
        sym c.in-None.ensures,
      ),
    )

pub returns-in-Some-clause-gives : goal.returns-in-Some-clause-gives
returns-in-Some-clause-gives g c = λ restore there.
    let mid = mid_there c.args.parts.now c.read_piece.new.parts c.in-Ok.ensures.looks c.args.at restore there in
    inr (record {
      piece = c.in-Ok.piece;
      passes = record {
        there = λ all told_is.
            ap (λ (k : ℕ). piece_of (all (PoolFile c.args.asked.now.content)) c.args.asked.now.from k) (sym c.room_of.ensures)
            ∙ c.in-Ok.ensures.piece all told_is;
        place = c.place_behind-next.result;
        behind = subst (λ (p : Place _). IsBehind g.N.Namer.holds g.N.Namer.digest_of p c.args.asked.now c.in-Ok.piece c.place_behind-next.result)
            (c.set_place-place.ensures.stood restore mid)
            (subst (λ (bytes : List ℕ). IsBehind g.N.Namer.holds g.N.Namer.digest_of c.set_place-place.result c.args.asked.now bytes
            c.place_behind-next.result) c.as_slice.ensures c.place_behind-next.ensures);
        moves = moves_back c.args.parts.now c.read_piece.new.parts c.in-Ok.ensures.looks c.args.at restore there c.set_place-place.new.self
            c.set_place-place.ensures.set c.set_place-place.ensures.only c.place_behind-next.result
            c.set_place.new.self c.set_place.ensures.set c.set_place.ensures.only;
      };
      digest = c.in-Some.digest;
      is = c.in-Some.ensures;
      refused = c.wrong_content.ensures;
    })

pub returns-in-Err-clause-quiet : goal.returns-in-Err-clause-quiet
returns-in-Err-clause-quiet g c = c.in-Err.ensures.looks.quiet.told_same

pub returns-in-None-clause-quiet : goal.returns-in-None-clause-quiet
returns-in-None-clause-quiet g c = c.in-Ok.ensures.looks.quiet.told_same

pub returns-in-Some-clause-quiet : goal.returns-in-Some-clause-quiet
returns-in-Some-clause-quiet g c = c.in-Ok.ensures.looks.quiet.told_same
