use Rattle.std.proofs.Common.{◌≡◌, ◌∷◌, ◌++◌, [], ℕ, List, drop, sym, ap, subst, ◌∙◌, rules}
use Rattle.class_model.specs.Descriptors.{type_len}
use Rattle.member_link.proofs.ReadParameters.{Read, read_none, read_more, read_all}
use Rattle.member_link.proofs.descriptors.parameter_kinds.Goals as goal

pub loop-rest-init : goal.loop-rest-init
loop-rest-init c =
    let desc = c.args.desc.now in
    subst (λ (rest : List ℕ). Read desc rest c.new-kinds.result.items) (sym (c.after_first-rest.ensures ∙ ap (drop 1) c.bytes.ensures.same))
    (subst (Read desc (drop 1 desc)) (sym c.new-kinds.ensures.items) (read_none desc))

pub loop-rest-preserved : goal.loop-rest-preserved
loop-rest-preserved c =
    let desc = c.args.desc.now in
    let pushed : c.push.new.self.items ≡ c.loop-rest.kinds.items ++ c.kind_at.result ∷ [] = search rules in
    subst (λ (rest : List ℕ). Read desc rest c.push.new.self.items) (sym c.after_type-rest.ensures)
    (subst (Read desc (drop (type_len c.loop-rest.rest.now) c.loop-rest.rest.now)) (sym pushed)
    (read_more desc c.loop-rest.rest.now c.loop-rest.kinds.items c.kind_at.result (sym c.begins_type.ensures ∙ c.loop-rest-test.true) c.kind_at.ensures c.loop-rest.invariant))

pub returns : goal.returns
returns c = read_all c.args.desc.now c.loop-rest.rest.now c.loop-rest.kinds.items (sym c.begins_type.ensures ∙ c.loop-rest-test.false) c.loop-rest.invariant
