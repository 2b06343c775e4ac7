use Rattle.std.proofs.Common.{◌≡◌, ℕ, length, take, arith, rules}
use Rattle.std.proofs.Math.Seq.{take-length}
use Rattle.class_model.specs.Pool.{Constants, IsPool}
use Rattle.class_model.specs.Spelling.{u2}
use Rattle.class_model.specs.Values.{TagsStand}
use Rattle.pool_bytes.specs.Items.{PoolFits}
use Rattle.pool_bytes.specs.ReadBack.{IsReadBackIn}
use Rattle.pool_bytes.proofs.CutBack.{pool_cut, all_newest}
use Rattle.pool_bytes.proofs.Entries.{entries_more, fits_more}
use Rattle.pool_bytes.proofs.writing.push_pool.Goals as goal

pub loop-index-preserved : goal.loop-index-preserved
loop-index-preserved c = record {
  written = entries_more c.args.out.now.items (u2 (length c.args.pool.now)) c.loop-index.out.items c.push_entry.new.out.items c.args.pool.now c.loop-index.index (search rules) c.loop-index.invariant.written c.in_ok-push_entry.ensures.same;
  fits = fits_more c.args.pool.now c.loop-index.index (search rules) c.loop-index.invariant.fits c.in_ok-push_entry.ensures.fits;
}

-- all of it was written
written : (pool : Constants) (index : ℕ) → index ≡ length pool → IsPool pool → PoolFits (take index pool) → (major : ℕ) → TagsStand major pool → IsReadBackIn major pool
written pool index all is fits major tags = (pool_cut major pool is (rw take-length at (rw all at fits)) tags).cut

pub returns-clause-read : goal.returns-clause-read
returns-clause-read c = written c.args.pool.now c.loop-index.index (omega arith) c.count.ensures.pool c.loop-index.invariant.fits 52 (all_newest c.args.pool.now)

pub returns-clause-read_in : goal.returns-clause-read_in
returns-clause-read_in c = written c.args.pool.now c.loop-index.index (omega arith) c.count.ensures.pool c.loop-index.invariant.fits
