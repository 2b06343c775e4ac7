use Rattle.std.proofs.Common.{ℕ, List, ◌++◌, ap, ◌∙◌}
use Rattle.class_model.specs.Spelling.{pool_bytes}
use Rattle.pool_bytes.proofs.CutBack.{stands_alone}
use Rattle.pool_bytes.proofs.writing.write_pool.Goals as goal

pub returns-clause-read : goal.returns-clause-read
returns-clause-read c =
    let pool = c.args.pool.now in
    let written = ap (λ (front : List ℕ). front ++ pool_bytes pool) c.new-out.ensures.items in
    stands_alone c.from_vec.result pool c.in_ok-push_pool.ensures.read (c.from_vec.ensures ∙ c.in_ok-push_pool.ensures.same ∙ written)
