use Rattle.std.proofs.Common.{◌≡◌, not, true, ap, sym, ◌∙◌, bytes_eq}
use Rattle.std.proofs.lemmas.Bool.{false≢true}
use Rattle.std.proofs.lemmas.Slice.Eq.{bytes_eq-Decides}
use Rattle.class_tree.specs.Headers.{headers_of}
use Rattle.class_tree.specs.Names.{object}
use Rattle.class_rewrite.proofs.AddedMarks.{other_one}
use Rattle.class_rewrite.proofs.marked_classes.mark_other.Goals as goal

pub returns-then-ne : goal.returns-then-ne
returns-then-ne c =
    let test : not (bytes_eq c.bytes.result.now object) ≡ true = sym c.ne.ensures ∙ c.if-ne.true in
    other_one (headers_of c.args.tree.now) c.args.name.now c.args.marks.now c.mark_class.new.marks
    (λ same. false≢true (sym (ap not ((bytes_eq-Decides c.bytes.result.now object).1 (c.bytes.ensures.same ∙ same))) ∙ test))
    c.mark_class.ensures
