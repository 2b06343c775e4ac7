use Rattle.stackmap_emit.proofs.Adding.{adds_class}
use Rattle.stackmap_emit.proofs.classes.add_object.Goals as goal

pub returns-clause-ok : goal.returns-clause-ok
returns-clause-ok c =
    adds_class c.args.pool.now c.add_class.new.pool c.args.noted.now c.note.new.self c.args.name.now c.in_ok-index.index
    c.in_ok-index.ensures.ok c.in_ok-index.ensures.index c.in_ok-note.ensures
