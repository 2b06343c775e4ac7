use Rattle.std.proofs.Common.{◌≡◌, ℕ, true, false, List, drop, take, length, bytes_eq, codes, sym, ap, subst, ◌∙◌, rules}
use Rattle.class_model.specs.Descriptors.{field_type_text, type_len, type_of}
use Rattle.member_link.proofs.ResultLens.{Passed, all_passed, none_passed, one_passed, read}
use Rattle.member_link.proofs.descriptors.result_text.Goals as goal

pub loop-types-init : goal.loop-types-init
loop-types-init c =
    let desc = c.args.desc.now in
    subst (λ (types : List ℕ). Passed desc types c.behind-result.result.now) (sym c.after_first-types.ensures)
    (subst (Passed desc (drop 1 desc)) (sym c.behind-result.ensures) (none_passed desc))

pub loop-types-preserved : goal.loop-types-preserved
loop-types-preserved c =
    let desc = c.args.desc.now in
    let types = c.loop-types.types.now in
    let result = c.loop-types.result.now in
    let passed : c.behind_type-result.result.now ≡ drop (length (field_type_text (type_of (take (type_len types) types)))) result =
    c.behind_type-result.ensures ∙ ap (λ (text : List ℕ). drop (length (field_type_text (type_of text))) result) c.first_type.ensures
    in
    subst (λ (left : List ℕ). Passed desc left c.behind_type-result.result.now) (sym c.after_type-types.ensures)
    (subst (Passed desc (drop (type_len types) types)) (sym passed)
    (one_passed desc types result (sym c.begins_type.ensures ∙ c.loop-types-test.true) c.loop-types.invariant))

pub returns-then-eq : goal.returns-then-eq
returns-then-eq c =
    let void : bytes_eq c.loop-types.result.now (codes "V") ≡ true = search rules in
    sym (read c.args.desc.now c.loop-types.result.now true
    (all_passed c.args.desc.now c.loop-types.types.now c.loop-types.result.now (sym c.begins_type.ensures ∙ c.loop-types-test.false) c.loop-types.invariant) void)

pub returns-else-eq : goal.returns-else-eq
returns-else-eq c =
    let void : bytes_eq c.loop-types.result.now (codes "V") ≡ false = search rules in
    sym (read c.args.desc.now c.loop-types.result.now false
    (all_passed c.args.desc.now c.loop-types.types.now c.loop-types.result.now (sym c.begins_type.ensures ∙ c.loop-types-test.false) c.loop-types.invariant) void)
