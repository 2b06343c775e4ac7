use Rattle.std.proofs.Common.{◌≡◌, ℕ, Bool, false, List, length, replicate, ap, subst, ◌∙◌}
use Rattle.class_tree.specs.Headers.{headers_of}
use Rattle.class_rewrite.proofs.AddedMarks.{marked_all}
use Rattle.class_rewrite.proofs.marked_classes.named_classes.Goals as goal
use Rattle.class_rewrite.specs.Inner.Marking.{IsNamed, Marks}

pub returns : goal.returns
returns c =
    let headers = headers_of c.args.tree.now in
    let count = length c.args.tree.now.folder in
    let long : c.len.result ≡ count = c.len.ensures ∙ ap length c.folder.ensures.same in
    let blank : c.in_ok-marks.marks ≡ replicate count false = c.in_ok-marks.ensures ∙ ap (λ (n : ℕ). replicate n false) long in
    marked_all (IsNamed headers c.args.names.now) count c.mark_named.new.marks
    (subst (λ (marks : List Bool). Marks (IsNamed headers c.args.names.now) marks c.mark_named.new.marks) blank c.mark_named.ensures)
