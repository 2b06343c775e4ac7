-- The offset, the mnemonic and the operands are the words of the line.
use Rattle.std.proofs.Common.{◌++◌, ℕ, decimal, ap, ◌∙◌, arith}
use Rattle.class_model.specs.Cutting.{Rest}
use Rattle.class_model.specs.Laws.Cuts.{are_bytes}
use Rattle.class_listing.proofs.PlacedTexts.{placed_pushed}
use Rattle.class_listing.proofs.instructions.push_placed.Goals as goal

pub returns : goal.returns
returns c =
    let code = c.args.code.now in
    let one = c.extend_from_slice.new.self.items in
    placed_pushed code c.args.placed.now (are_bytes code (λ i. omega (arith, c.type_inv.code i))) c.requires
    c.args.out.now.items one c.push_number.new.out.items c.push_name.new.out.items c.push_operands.new.out.items c.push.new.self.items c.rest-bytes.result.now
    (c.rest-bytes.ensures ∙ ap (λ (rest : Rest). rest.bytes) c.new.ensures)
    c.in_ok-extend_from_slice.ensures.items
    (c.in_ok-push_number.ensures ∙ ap (λ (n : ℕ). one ++ decimal n) c.from.ensures)
    c.in_ok-push_name.ensures
    c.in_ok-push_operands.ensures
    c.in_ok-push.ensures.items
