use Rattle.std.proofs.Common.{◌∙◌, ap, slice_get, sym}
use Rattle.class_model.specs.declared.header.Header.{Header}
use Rattle.std.specs.Option.{option_copied}
use Rattle.verify_folder.proofs.MethodWalk.{has_member}
use Rattle.verify_folder.proofs.method.verify_by.Goals as goal

pub unreachable-requires : goal.unreachable-requires
unreachable-requires c =
    has_member c.args.tree.now c.args.at c.args.rules.now c.requires
    (ap (λ (header : Header). slice_get header.methods c.args.at.method) (sym c.header.ensures) ∙ sym c.get.ensures ∙ ap option_copied c.in_default.is)
