use Rattle.std.proofs.Common.{ℕ, List, ◌++◌, sym, ap, subst, ◌∙◌}
use Rattle.class_model.specs.ClassOf.{ClassOf}
use Rattle.class_model.specs.Spelling.{class_bytes}
use Rattle.class_bytes.proofs.writing.write_class.Goals as goal

pub returns-clause-read : goal.returns-clause-read
returns-clause-read c is =
    let class = c.args.class.now in
    let front = ap (λ (front : List ℕ). front ++ class_bytes class) c.new-out.ensures.items in
    subst (λ (bytes : List ℕ). ClassOf bytes class) (sym (c.from_vec.ensures ∙ c.in_ok-push_class.ensures.ok ∙ front)) (c.in_ok-push_class.ensures.read is)
