use Rattle.std.proofs.Common.{◌<◌, ℕ, List, length, sym, ap, subst, ◌∙◌}
use Rattle.class_model.specs.Instructions.{decoded}
use Rattle.class_model.specs.Pool.{Constants}
use Rattle.class_model.specs.declared.class_file.CodePart.{CodePart}
use Rattle.class_model.specs.declared.class_file.Handler.{Handler}
use Rattle.class_model.specs.declared.instr.Placed.{Placed}
use Rattle.machine_code.specs.Inner.Preparing.{AreHandlers, AreOps}
use Rattle.machine_code.specs.Inner.Translating.{scope_in}
use Rattle.machine_code.proofs.PreparedCodes.{prepared_code, decoded_are}
use Rattle.machine_code.proofs.translating.methods.prepare_code.Goals as goal

pub returns : goal.returns
returns c =
    let code = c.args.code.now in
    let instrs = c.as_slice-instrs.result.now in
    let ops = c.in_ok-ops_of.field-0.items in
    let handlers = c.in_ok-handlers_of.field-0.items in
    let part = c.part_of-part.ensures in
    let is =
    ap decoded (sym (c.as_slice.ensures ∙ ap (λ (p : CodePart). p.code) part))
    ∙ c.in_ok-instrs.ensures.instrs in
    let same = c.as_slice-instrs.ensures in
    prepared_code code _ instrs
    (same ∙ decoded_are (scope_in code) c.in_ok-instrs.instrs is)
    (subst (λ (all : List Placed). length all < 65536) (sym same) c.in_ok-instrs.ensures.few)
    (ap (λ (p : CodePart). p.max_locals) part)
    (subst (λ (numbers : List ℕ). AreOps code numbers instrs ops) c.in_ok-numbers.ensures c.in_ok-ops_of.ensures)
    c.in_ok-offsets_of.ensures
    (subst (λ (numbers : List ℕ). AreHandlers code.class.pool numbers code.part.handlers handlers) c.in_ok-numbers.ensures
    (subst (λ (pool : Constants). AreHandlers pool c.in_ok-numbers.numbers code.part.handlers handlers) c.pool.ensures
    (subst (λ (all : List Handler). AreHandlers c.pool.result.now c.in_ok-numbers.numbers all handlers) (c.as_slice-2.ensures ∙ ap (λ (p : CodePart). p.handlers) part) c.in_ok-handlers_of.ensures)))
