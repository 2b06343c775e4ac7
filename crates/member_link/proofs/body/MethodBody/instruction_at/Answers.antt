use Rattle.std.proofs.Common.{◌≡◌, ◌∙◌, Ok, ap, subst}
use Rattle.std.specs.Option.{option_copied}
use Rattle.class_model.specs.Instructions.{decoded}
use Rattle.class_model.specs.OffsetIndexes.{number_in}
use Rattle.member_link.specs.CodedMethods.{CodedMethod}
use Rattle.member_link.proofs.FirstAt.{no_instr, instr_found}
use Rattle.member_link.proofs.body.MethodBody.instruction_at.Goals as goal

pub returns-in_err-find : goal.returns-in_err-find
returns-in_err-find c =
    let own = c.self.inside in (
      own.code.instrs,
      subst (λ (m : CodedMethod). decoded m.part.code ≡ Ok own.code.instrs) c.self.view_is c.self.invariant.code_is.instrs_are,
      ap option_copied c.from_residual.ensures ∙ no_instr c.args.at own.code.instrs own.code.index c.self.invariant.code_is.indexed (c.in_err-find.ensures ∙ ap (number_in own.code.index) c.from.ensures),
    )

pub returns : goal.returns
returns c =
    let own = c.self.inside in (
      own.code.instrs,
      subst (λ (m : CodedMethod). decoded m.part.code ≡ Ok own.code.instrs) c.self.view_is c.self.invariant.code_is.instrs_are,
      instr_found c.args.at own.code.instrs own.code.index c.self.invariant.code_is.indexed c.in_ok-find.field-0 _ (c.in_ok-find.ensures ∙ ap (number_in own.code.index) c.from.ensures) c.get.ensures,
    )
