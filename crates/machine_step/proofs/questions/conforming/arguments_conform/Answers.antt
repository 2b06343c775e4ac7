use Rattle.std.proofs.Common.{◌≡◌, ◌==◌, ◌∷◌, Bool, true, false, List, [], ℕ, length, drop, take, sym, ap, subst, ◌∙◌, rules, arith}
use Rattle.std.proofs.lemmas.Grind.{common_steps}
use Rattle.class_model.specs.Descriptors.{type_len, type_of}
use Rattle.machine_values.specs.declared.value.Value.{Value}
use Rattle.member_link.specs.Machine.Acting.{all_conform}
use Rattle.member_link.specs.Machine.Programs.{Program}
use Rattle.member_link.specs.Machine.Shapes.{value_conforms}
use Rattle.member_link.specs.Machine.Worlds.{World}
use Rattle.member_link.specs.Signatures.{begins_type}
use Rattle.member_link.specs.TreePrograms.{IsProgram}
use Rattle.machine_step.proofs.Arguments.{Left, all_left, none_left, not_one, one_more, too_few}
use Rattle.machine_step.proofs.questions.conforming.arguments_conform.Goals as goal

pub loop-types-init : goal.loop-types-init
loop-types-init c =
    subst (λ (rest : List ℕ). Left c.args.tree.now c.args.heap.now c.args.desc.now rest c.args.values.now c.args.values.now)
    (sym (c.after_first-types.ensures ∙ ap (drop 1) c.bytes.ensures.same))
    (all_left c.args.tree.now c.args.heap.now c.args.desc.now c.args.values.now)

pub returns-in_default : goal.returns-in_default
returns-in_default c = λ P w program is.
    let none : c.loop-types.values.now ≡ [] = grind (arith, common_steps) in
    sym (too_few c.args.tree.now c.args.heap.now c.args.desc.now c.args.values.now c.loop-types.types.now
    (sym c.begins_type.ensures ∙ c.loop-types-test.true)
    (subst (Left c.args.tree.now c.args.heap.now c.args.desc.now c.loop-types.types.now c.args.values.now) none c.loop-types.invariant)
    P w program is)

pub returns-then-not-text_conforms : goal.returns-then-not-text_conforms
returns-then-not-text_conforms c = λ P w program is.
    let split : c.loop-types.values.now ≡ c.in-Some.value.now ∷ c.in-Some.rest.now = search rules in
    let differs : (P : Program) → IsProgram c.args.tree.now P → value_conforms P c.args.heap.now (type_of (take (type_len c.loop-types.types.now) c.loop-types.types.now)) c.in-Some.value.now ≡ false =
    λ P program.
    ap (λ (text : List ℕ). value_conforms P c.args.heap.now (type_of text) c.in-Some.value.now) (sym c.first_type.ensures)
    ∙ sym (c.text_conforms.ensures P program)
    ∙ c.if-not-text_conforms.true
    in
    sym (not_one c.args.tree.now c.args.heap.now c.args.desc.now c.args.values.now c.loop-types.types.now c.in-Some.value.now c.in-Some.rest.now
    (sym c.begins_type.ensures ∙ c.loop-types-test.true) differs
    (subst (Left c.args.tree.now c.args.heap.now c.args.desc.now c.loop-types.types.now c.args.values.now) split c.loop-types.invariant)
    P w program is)

pub loop-types-preserved : goal.loop-types-preserved
loop-types-preserved c =
    let split : c.loop-types.values.now ≡ c.in-Some.value.now ∷ c.in-Some.rest.now = search rules in
    let conforms : (P : Program) → IsProgram c.args.tree.now P → value_conforms P c.args.heap.now (type_of (take (type_len c.loop-types.types.now) c.loop-types.types.now)) c.in-Some.value.now ≡ true =
    λ P program.
    ap (λ (text : List ℕ). value_conforms P c.args.heap.now (type_of text) c.in-Some.value.now) (sym c.first_type.ensures)
    ∙ sym (c.text_conforms.ensures P program)
    ∙ c.if-not-text_conforms.false
    in
    subst (λ (rest : List ℕ). Left c.args.tree.now c.args.heap.now c.args.desc.now rest c.args.values.now c.in-Some.rest.now)
    (sym c.after_type-types.ensures)
    (one_more c.args.tree.now c.args.heap.now c.args.desc.now c.args.values.now c.loop-types.types.now c.in-Some.value.now c.in-Some.rest.now
    (sym c.begins_type.ensures ∙ c.loop-types-test.true) conforms
    (subst (Left c.args.tree.now c.args.heap.now c.args.desc.now c.loop-types.types.now c.args.values.now) split c.loop-types.invariant))

pub returns : goal.returns
returns c = λ P w program is.
    by c.loop-types.values.now c.is_empty.result c.is_empty.ensures P w
    ∙ sym (none_left c.args.tree.now c.args.heap.now c.args.desc.now c.args.values.now c.loop-types.types.now c.loop-types.values.now
    (sym c.begins_type.ensures ∙ c.loop-types-test.false) c.loop-types.invariant P w program is)
  where
    by : (values : List Value) (empty : Bool) → empty ≡ (length values == 0) → (P : Program) (w : World) → empty ≡ all_conform P w [] values
    by [] empty is P w = is
    by (value ∷ values) empty is P w = is ∙ (let e : (length (value ∷ values) == 0) ≡ false = grind arith in e)
