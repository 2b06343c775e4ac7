use Rattle.std.proofs.Common.{sym, subst, ◌∙◌}
use Rattle.std.proofs.lemmas.Bool.{false≢true}
use Rattle.std.proofs.lemmas.Bool.Decides.{Decides-eqb}
use Rattle.std.proofs.lemmas.Slice.Eq.{strip_suffix_is}
use Rattle.class_tree.specs.Subtype.{IsReferenceComponent, array}
use Rattle.class_tree.proofs.Components.{behind_byte, class_component, no_component}
use Rattle.class_tree.proofs.subtype.component.Goals as goal

pub returns-then-is_array-clause-some : goal.returns-then-is_array-clause-some
returns-then-is_array-clause-some c =
    let outer = behind_byte c.args.array.now 91 c.in_ok-component.component.now c.in_ok-component.ensures.cases.0 c.in_ok-component.ensures.cases.1 in
    subst (λ name. IsReferenceComponent name c.in_ok-component.component.now) (sym outer) (array c.in_ok-component.component.now (c.is_array.ensures.0 c.if-is_array.true))

pub returns-clause-some : goal.returns-clause-some
returns-clause-some c =
    let outer = behind_byte c.args.array.now 91 c.in_ok-component.component.now c.in_ok-component.ensures.cases.0 c.in_ok-component.ensures.cases.1 in
    let inner = behind_byte c.in_ok-component.component.now 76 c.in_ok-strip_prefix.field-0.now c.in_ok-strip_prefix.ensures.cases.0 c.in_ok-strip_prefix.ensures.cases.1 in
    class_component c.args.array.now c.in_ok-component.component.now c.in_ok-strip_prefix.field-0.now outer inner c.strip_suffix.result (strip_suffix_is Decides-eqb _ _ c.strip_suffix.result c.strip_suffix.ensures.cases)

pub returns-clause-none : goal.returns-clause-none
returns-clause-none c =
    let outer = behind_byte c.args.array.now 91 c.in_ok-component.component.now c.in_ok-component.ensures.cases.0 c.in_ok-component.ensures.cases.1 in
    let inner = behind_byte c.in_ok-component.component.now 76 c.in_ok-strip_prefix.field-0.now c.in_ok-strip_prefix.ensures.cases.0 c.in_ok-strip_prefix.ensures.cases.1 in
    no_component c.args.array.now c.in_ok-component.component.now c.in_ok-strip_prefix.field-0.now outer (λ is. false≢true (sym c.if-is_array.false ∙ c.is_array.ensures.1 is)) inner c.strip_suffix.result (strip_suffix_is Decides-eqb _ _ c.strip_suffix.result c.strip_suffix.ensures.cases)
