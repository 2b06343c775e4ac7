use Rattle.std.proofs.Common.{rules, sym, subst}
use Rattle.std.specs.Result.{IsErrOf}
use Rattle.class_tree.specs.Headers.{headers_of}
use Rattle.field_constructors.specs.Constructors.{IsConstructor}
use Rattle.flow_code.specs.declared.reason.KeptFault.TheVariants.{Kept}
use Rattle.constructor_methods.proofs.ConstructorMethodLaws.{made_so, method_whole, names_full, part_full}
use Rattle.constructor_methods.proofs.constructor_method.write_method.Goals as goal

pub returns-in_err-names-clause-full : goal.returns-in_err-names-clause-full
returns-in_err-names-clause-full c = λ reason constructor is described.
    let class = c.args.header.now.name in
    let fails : IsErrOf c.add_names.result (Kept reason) = search rules in
    let found = subst (IsConstructor c.args.constructors.now class) c.in-Some.is (c.in_ok-desc.ensures c.requires.made.number c.requires.made.of_folder) in
    names_full (headers_of c.args.constructors.now) constructor class c.in-Some.desc (sym (described class c.in-Some.desc found)) c.args.pool.now c.args.pool.now reason
    (c.add_names.ensures.full reason fails)

pub returns-in_err-part-clause-full : goal.returns-in_err-part-clause-full
returns-in_err-part-clause-full c = λ reason constructor is described.
    let class = c.args.header.now.name in
    let fails : IsErrOf c.code_part.result (Kept reason) = search rules in
    let found = subst (IsConstructor c.args.constructors.now class) c.in-Some.is (c.in_ok-desc.ensures c.requires.made.number c.requires.made.of_folder) in
    part_full (headers_of c.args.constructors.now) constructor class c.in-Some.desc (sym (described class c.in-Some.desc found)) c.args.pool.now c.add_names.new.pool reason
    c.in_ok-names.ensures.ok (c.code_part.ensures.full reason constructor fails described)

pub returns-clause-ok : goal.returns-clause-ok
returns-clause-ok c =
    let headers = headers_of c.args.constructors.now in
    let class = c.args.header.now.name in
    let found = subst (IsConstructor c.args.constructors.now class) c.in-Some.is (c.in_ok-desc.ensures c.requires.made.number c.requires.made.of_folder) in
    made_so c.method_of.result c.in_ok-names.names c.in_ok-part.part c.method_of.ensures.flags c.method_of.ensures.names c.method_of.ensures.attrs
    (λ method flags name desc attrs constructor described.
    method_whole headers constructor class c.in-Some.desc (sym (described class c.in-Some.desc found)) c.args.pool.now c.add_names.new.pool c.code_part.new.pool
    c.in_ok-names.names c.in_ok-part.part method c.in_ok-names.ensures.ok c.in_ok-names.ensures.indices (c.in_ok-part.ensures.ok constructor described)
    c.code_part.ensures.more flags name desc attrs)
