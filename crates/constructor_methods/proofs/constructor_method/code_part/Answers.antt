use Rattle.std.proofs.Common.{rules, ◌≡◌, ◌+◌, ◌≤◌, ◌<◌, ℕ, max, sym, ap, ◌∙◌, arith}
use Rattle.std.proofs.lemmas.Grind.{common_steps}
use Rattle.std.specs.Result.{IsErrOf}
use Rattle.class_model.specs.declared.class_file.CodePart.{CodePart}
use Rattle.class_tree.specs.Headers.{headers_of}
use Rattle.flow_code.specs.declared.reason.KeptFault.TheVariants.{Kept}
use Rattle.making_code.specs.ConstructorCode.{bytes_from}
use Rattle.constructor_methods.proofs.ConstructorMethodLaws.{instrs_few, instrs_short, part_of, raised, unraised}
use Rattle.materialise.specs.Laws.DescribedConstructors.{descriptors, descriptors_describe}
use Rattle.constructor_methods.proofs.constructor_method.code_part.Goals as goal
use Rattle.constructor_methods.specs.Inner.ConstructorWords.{units_of_descs}
use Rattle.constructor_methods.proofs.constructor_method.code_part.Goals.{then-call-stores, else-call-stores}

pub returns-in_err-write_constructor_code-clause-full :
    goal.returns-in_err-write_constructor_code-clause-full
returns-in_err-write_constructor_code-clause-full c = λ reason constructor is described.
    let fails : IsErrOf c.write_constructor_code.result (Kept reason) = search rules in
    c.write_constructor_code.ensures.full reason constructor fails described

pub bytes_of-requires-clause-short : goal.bytes_of-requires-clause-short
bytes_of-requires-clause-short c =
    let classes = c.args.constructors.now in
    rw c.as_slice.ensures.value
    (instrs_short (headers_of classes) c.args.header.now c.requires.found c.args.above.now c.requires.above c.requires.few
    (descriptors classes) c.args.pool.now c.write_constructor_code.new.pool c.new-instrs.result.items c.write_constructor_code.new.instrs.items c.new-instrs.ensures.items
    (c.in_ok-write_constructor_code.ensures.ok (descriptors classes) (descriptors_describe classes)))

pub bytes_of-requires-clause-few : goal.bytes_of-requires-clause-few
bytes_of-requires-clause-few c =
    let classes = c.args.constructors.now in
    rw c.as_slice.ensures.value
    (instrs_few (headers_of classes) c.args.header.now c.requires.found c.args.above.now c.requires.above c.requires.few
    (descriptors classes) c.args.pool.now c.write_constructor_code.new.pool c.new-instrs.result.items c.write_constructor_code.new.instrs.items c.new-instrs.ensures.items
    (c.in_ok-write_constructor_code.ensures.ok (descriptors classes) (descriptors_describe classes)))

pub returns-clause-ok : goal.returns-clause-ok
returns-clause-ok c = λ constructor described.
    let headers = headers_of c.args.constructors.now in
    let header = c.args.header.now in
    let call = c.call_depth-call.result in
    let stores = c.stores_depth-stores.result in
    let part : CodePart =
    record {
      max_stack = c.if-call-stores.result;
      max_locals = 2 + c.field_units-units.result + c.own_units.result;
      code = c.in_ok-code.code;
      handlers = c.new.result;
      attrs = c.new-2.result;
    } in
    let greatest : c.if-call-stores.result ≡ max c.call_depth-call.result c.stores_depth-stores.result =
    elim c.if-call-stores.branch [
      | then-call-stores w ↦
          let less : c.call_depth-call.result < c.stores_depth-stores.result = first_of (search rules, grind (arith, common_steps)) in
          w.result-is ∙ sym (raised call stores less)
      | else-call-stores w ↦
          let most : c.stores_depth-stores.result ≤ c.call_depth-call.result = first_of (search rules, grind (arith, common_steps)) in
          w.result-is ∙ sym (unraised call stores most)
    ] in
    let units_are = c.field_units-units.ensures in
    let own_are = c.own_units.ensures in
    part_of headers header c.requires.found c.args.above.now c.requires.above c.requires.few
    constructor c.args.pool.now c.write_constructor_code.new.pool c.new-instrs.result.items c.write_constructor_code.new.instrs.items c.new-instrs.ensures.items
    (c.in_ok-write_constructor_code.ensures.ok constructor described)
    part call stores greatest
    (c.call_depth-call.ensures headers (units_are ∙ ap units_of_descs c.requires.above))
    c.stores_depth-stores.ensures
    (ap (λ (n : ℕ). 2 + n + c.own_units.result) units_are ∙ ap (λ (n : ℕ). 2 + units_of_descs c.args.above.now + n) own_are)
    (c.in_ok-code.ensures ∙ ap (bytes_from 0) c.as_slice.ensures.value)
    c.new.ensures c.new-2.ensures
