use Rattle.member_link.specs.Targets.{HasForm}
use Rattle.std.proofs.Common.{List, length, sym, subst, ◌≡◌, true, ◌≤◌}
use Rattle.std.proofs.lemmas.Bool.{eqb-true}
use Rattle.class_model.specs.Instructions.{keys_increase}
use Rattle.class_model.specs.declared.instr.Pair.{Pair}
use Rattle.cases_rewrite.proofs.Forms.{lookup_form, null_form}
use Rattle.cases_rewrite.proofs.emitting.has_form.Goals as goal

pub returns-in-IfNull : goal.returns-in-IfNull
returns-in-IfNull c = λ told. subst HasForm (sym c.in-IfNull.is) (null_form c.in-IfNull.opcode c.in-IfNull.field-1 (eqb-true c.in-IfNull.opcode 199 told))

pub returns-in-Lookup : goal.returns-in-Lookup
returns-in-Lookup c = λ told.
    let few = subst (λ (list : List Pair). length list ≤ 65535) c.as_slice.ensures (c.has_lookup_form.ensures.few told) in
    let increase = subst (λ (list : List Pair). keys_increase list ≡ true) c.as_slice.ensures (c.has_lookup_form.ensures.order told) in
    subst HasForm (sym c.in-Lookup.is) (lookup_form c.in-Lookup.other c.in-Lookup.pairs few increase)
