use Rattle.std.proofs.Common.{rules, List, refl, sym, subst}
use Rattle.std.specs.Result.{IsErrOf}
use Rattle.class_model.specs.Names.{init}
use Rattle.class_tree.specs.Headers.{headers_of}
use Rattle.field_constructors.specs.Constructors.{IsConstructor}
use Rattle.flow_code.specs.declared.reason.KeptFault.TheVariants.{Kept}
use Rattle.making_code.specs.Constants.{Need}
use Rattle.constructor_methods.proofs.ConstructLaws.{constructs_super, member_full, member_grows, member_index, super_needs, super_written}
use Rattle.constructor_methods.proofs.constructor_code.call_constructor.Goals as goal
use Rattle.materialise.specs.Growing.{IsFull}

pub returns-in_err-index-clause-full : goal.returns-in_err-index-clause-full
returns-in_err-index-clause-full c = λ reason constructor is described.
    let class = c.args.class.now in
    let fails : IsErrOf c.add_member.result (Kept reason) = search rules in
    let found = subst (IsConstructor c.args.constructors.now class) c.in-Some.is (c.in_ok-desc.ensures c.requires.made.number c.requires.made.of_folder) in
    let desc_is = sym (described class c.in-Some.desc found) in
    subst (λ (needs : List Need). IsFull c.args.pool.now needs reason)
    (sym (super_needs constructor (headers_of c.args.constructors.now) class c.args.fields.now c.requires.apart c.requires.fields))
    (member_full class c.in_ok-init.init c.in-Some.desc class init (constructor class) refl c.in_ok-init.ensures desc_is c.args.pool.now reason (c.add_member.ensures.full reason fails))

pub returns-clause-ok : goal.returns-clause-ok
returns-clause-ok c = λ constructor described.
    let class = c.args.class.now in
    let old = c.args.pool.now in
    let new = c.add_member.new.pool in
    let found = subst (IsConstructor c.args.constructors.now class) c.in-Some.is (c.in_ok-desc.ensures c.requires.made.number c.requires.made.of_folder) in
    let desc_is = sym (described class c.in-Some.desc found) in
    let grows = member_grows class c.in_ok-init.init c.in-Some.desc class init (constructor class) refl c.in_ok-init.ensures desc_is old new c.in_ok-index.ensures.ok in
    let known = member_index class c.in_ok-init.init c.in-Some.desc class init (constructor class) refl c.in_ok-init.ensures desc_is new c.in_ok-index.index c.in_ok-index.ensures.index in
    let call = constructs_super constructor old new c.push-2.new.self.items c.push-3.new.self.items class c.in_ok-index.index grows known c.in_ok-push-3.ensures.items in
    super_written constructor (headers_of c.args.constructors.now) class c.args.fields.now old new c.args.instrs.now.items c.push.new.self.items c.load_parameters.new.instrs.items
    c.push-2.new.self.items c.push-3.new.self.items c.in_ok-index.index c.requires.apart c.requires.fields (c.an_edit_goes_back_to_what_it_was.ensures.itself old)
    c.in_ok-push.ensures.items (c.in_ok-load_parameters.ensures constructor) c.in_ok-push-2.ensures.items call c.add_member.ensures.more
