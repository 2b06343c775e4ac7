use Rattle.std.proofs.Common.{rules, [], ◌∷◌, codes}
use Rattle.std.specs.Result.{IsErrOf}
use Rattle.class_model.specs.Names.{init}
use Rattle.class_model.specs.declared.descriptor.Kind.TheVariants as kinds
use Rattle.class_model.specs.declared.instr.Instr.TheVariants.{Load}
use Rattle.class_tree.specs.Names.{object}
use Rattle.flow_code.specs.declared.reason.KeptFault.TheVariants.{Kept}
use Rattle.making_code.specs.FieldConstructor.{calls_object, simple}
use Rattle.constructor_methods.proofs.ConstructLaws.{constructs_both, constructs_call, constructs_simple, member_full, member_grows, member_index}
use Rattle.constructor_methods.proofs.constructor_code.call_object.Goals as goal

pub returns-in_err-index-clause-full : goal.returns-in_err-index-clause-full
returns-in_err-index-clause-full c = λ reason constructor is.
    let fails : IsErrOf c.add_member.result (Kept reason) = search rules in
    member_full c.in_ok-class.class c.in_ok-init.init c.in_ok-desc.desc object init (codes "()V") c.in_ok-class.ensures c.in_ok-init.ensures c.in_ok-desc.ensures
    c.args.pool.now reason (c.add_member.ensures.full reason fails)

pub returns-clause-ok : goal.returns-clause-ok
returns-clause-ok c = λ constructor.
    let old = c.args.pool.now in
    let new = c.add_member.new.pool in
    let grows = member_grows c.in_ok-class.class c.in_ok-init.init c.in_ok-desc.desc object init (codes "()V") c.in_ok-class.ensures c.in_ok-init.ensures c.in_ok-desc.ensures old new c.in_ok-index.ensures.ok in
    let known = member_index c.in_ok-class.class c.in_ok-init.init c.in_ok-desc.desc object init (codes "()V") c.in_ok-class.ensures c.in_ok-init.ensures c.in_ok-desc.ensures new c.in_ok-index.index c.in_ok-index.ensures.index in
    constructs_both constructor old old new c.args.instrs.now.items c.push.new.self.items c.push-2.new.self.items (simple (Load kinds.Ref 0) ∷ []) (calls_object ∷ [])
    (constructs_simple constructor old c.args.instrs.now.items c.push.new.self.items (Load kinds.Ref 0) c.in_ok-push.ensures.items)
    (constructs_call constructor old new c.push.new.self.items c.push-2.new.self.items c.in_ok-index.index grows known c.in_ok-push-2.ensures.items)
    c.add_member.ensures.more
