use Rattle.std.proofs.Common.{◌∙◌, Option, ap, sym}
use Rattle.class_model.specs.declared.frame.VType.{VType}
use Rattle.written_frames.proofs.OwnUnits.{changed_next, changed_same}
use Rattle.written_frames.proofs.locals.change_unit.Goals as goal
use Rattle.written_frames.specs.Inner.Types.{type_or}

pub returns-in_ok-set : goal.returns-in_ok-set
returns-in_ok-set c =
    let type = c.in-Some-Some.of.now in
    changed_next c.args.flat.now c.args.types.now c.args.state.now.slots c.args.at c.args.locals.now c.set.new.self type c.in-Some.other c.in-Some-Some.slot
    (sym c.in-Some-Some.ensures) (sym c.in-Some-Some.ensures') c.requires.typed
    (ap (λ (other : Option VType). type_or other type) (sym c.in-Some.is) ∙ c.in_ok-other.ensures)
    c.in_ok-set.ensures.ok c.requires.before

pub returns-in_default-2 : goal.returns-in_default-2
returns-in_default-2 c =
    let type = c.in-Some-Some.of.now in
    changed_same c.args.flat.now c.args.types.now c.args.state.now.slots c.args.at c.args.locals.now type c.in-Some-Some.slot
    (sym c.in-Some-Some.ensures) (sym c.in-Some-Some.ensures') c.requires.typed
    (ap (λ (other : Option VType). type_or other type) (sym c.in_default-2.is) ∙ c.in_ok-other.ensures)
    c.requires.before
