use Rattle.std.proofs.Common.{◌≡◌, Some, None, sym, ◌∙◌, rules}
use Rattle.class_model.specs.Inner.FirstPlaced.{first_placed}
use Rattle.class_model.proofs.FirstAtOffset.{new_told, no_new}
use Rattle.class_model.proofs.code_index.CodeIndex.has_new.Goals as goal

pub returns-then-is_new : goal.returns-then-is_new
returns-then-is_new c =
    let first : Some c.in-Some.placed.now ≡ first_placed c.args.self.now c.args.at = search rules in
    let new = c.is_new.ensures in
    c.if-is_new.true ∙ new_told c.args.self.now c.args.at c.in-Some.placed.now first (sym new ∙ c.if-is_new.true)

pub returns-in-None : goal.returns-in-None
returns-in-None c =
    let none : None ≡ first_placed c.args.self.now c.args.at = search rules in
    no_new c.args.self.now c.args.at none
