use Rattle.std.proofs.Common.{◌≡◌, sym, subst}
use Rattle.class_model.specs.declared.instr.Instr.TheVariants.{Goto}
use Rattle.code_layout.specs.Inner.Writing.{spelled_in}
use Rattle.code_layout.specs.Layout.{len_of}
use Rattle.code_layout.specs.declared.form.Form.{Form}
use Rattle.code_layout.proofs.Spellings.{goto-short}
use Rattle.code_layout.proofs.lengths.goto_len.Goals as goal

pub returns-in-Short : goal.returns-in-Short
returns-in-Short c =
    subst (λ (form : Form). 3 ≡ len_of (spelled_in form) c.args.at (Goto c.args.to)) (sym c.in-Short.is) (goto-short c.args.at c.args.to c.requires)
