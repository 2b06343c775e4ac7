use Rattle.std.proofs.Common.{◌∙◌, refl, sym, ap}
use Rattle.class_model.specs.Checks.{AllHold}
use Rattle.class_model.specs.Instructions.{decoded}
use Rattle.class_model.specs.Laws.Codes.{code_has}
use Rattle.class_model.specs.MethodCode.{code_of}
use Rattle.class_model.specs.declared.class_file.CodePart.{CodePart}
use Rattle.class_tree.specs.Headers.{headers_of}
use Rattle.code_bytes.specs.Codes.{HasInstrs, HasOperands, HaveOperands}
use Rattle.code_bytes.specs.Decoding.{decoding_checks}
use Rattle.type_rules.proofs.FittingPools.{instructions_fit}
use Rattle.type_rules.proofs.method_rules.of_method.Goals as goal
use Rattle.member_link.specs.Scope.{Scope}

pub new-requires-clause-code : goal.new-requires-clause-code
new-requires-clause-code c =
    code_has HasInstrs (λ (part : CodePart). AllHold (decoding_checks part.code)) (λ name part h. h) c.args.method.now.attrs c.in-Some.part.now c.requires.read.codes (sym (c.in-Some.ensures ∙ ap code_of c.as_slice.ensures))

pub invariant_of-result : goal.invariant_of-result
invariant_of-result c =
    let class = c.args.class.now in
    let part = c.in-Some.part.now in
    let found = sym (c.in-Some.ensures ∙ ap code_of c.as_slice.ensures) in
    let s : Scope = record { headers = headers_of c.args.tree.now; class = class; method = c.args.method.now; part = part } in
    record {
      headers = refl;
      class_file = c.requires.class_file;
      stands = c.requires.stands;
      header_is = c.requires.header;
      body_is = c.in_ok-body.ensures;
      calls_are = c.in-Ok.ensures;
      fit = instructions_fit s part.max_locals (code_has (HasOperands class.pool class.major) (λ (part : CodePart). HaveOperands class.pool class.major part.max_locals (decoded part.code)) (λ name part h. h) c.args.method.now.attrs part c.requires.operands found);
    }
