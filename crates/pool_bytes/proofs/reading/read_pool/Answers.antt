use Rattle.std.proofs.Common.{◌≡◌, Ok, sym, ap, ◌∙◌, arith}
use Rattle.class_model.specs.Cutting.{pool_at}
use Rattle.pool_bytes.specs.Reading.{rest_at}
use Rattle.pool_bytes.proofs.PoolReads.{has_room, stands, is_spelled, all_asked}
use Rattle.pool_bytes.proofs.reading.read_pool.Goals as goal
use Rattle.pool_bytes.proofs.reading.read_pool.Goals.{In_ok-raw}

taken : (c : In_ok-raw) → pool_at 52 (rest_at c.args.bytes.now c.args.at) ≡ Ok (c.in_ok-raw.raw, c.cut_pool.new.cursor)
taken c = ap (pool_at 52) (sym c.new-cursor.ensures) ∙ c.in_ok-raw.ensures.taken

pub check-requires : goal.check-requires
check-requires c =
    has_room c.a_cut_pool_is_spelled.ensures c.args.bytes.now (λ i. omega (arith, c.type_inv.bytes i)) c.args.at c.in_ok-raw.raw c.cut_pool.new.cursor (taken (goal.at.check-requires c).In_ok-raw) c.at-end.ensures.within

pub returns-clause-told : goal.returns-clause-told
returns-clause-told c =
    let bytes = c.args.bytes.now in
    let cut = taken (goal.at.returns-clause-told c).In_ok-raw in
    rw (c.in_ok-to_pool.ensures, c.at-end.ensures.place) (
      all_asked 52 (rest_at bytes c.args.at) c.cut_pool.new.cursor c.in_ok-raw.raw cut c.in_ok-check.ensures.told.0,
      stands c.a_cut_pool_is_spelled.ensures bytes (λ i. omega (arith, c.type_inv.bytes i)) c.args.at c.in_ok-raw.raw c.cut_pool.new.cursor cut,
    )

pub returns-clause-spelled : goal.returns-clause-spelled
returns-clause-spelled c =
    rw (c.in_ok-to_pool.ensures, c.at-end.ensures.place)
    (is_spelled c.a_cut_pool_is_spelled.ensures c.args.bytes.now (λ i. omega (arith, c.type_inv.bytes i)) c.args.at c.in_ok-raw.raw c.cut_pool.new.cursor (taken (goal.at.returns-clause-spelled c).In_ok-raw))
