use Rattle.std.proofs.Common.{◌≡◌, Some, IfSome, Option, List, ℕ, ap, sym, subst, ◌∙◌, ◌∷◌}
use Rattle.std.specs.Option.{option_copied}
use Rattle.class_model.specs.Code.{FitsArray}
use Rattle.class_model.specs.Descriptors.{named_text}
use Rattle.class_model.specs.ModifiedUtf8.{IsText}
use Rattle.class_model.specs.PoolChecks.{class_at}
use Rattle.type_rules.proofs.ArrayTexts.{array_text}
use Rattle.type_rules.proofs.arrays.new_ref_array.Goals as goal
use Rattle.member_link.specs.Scope.{Scope}

pub made-requires : goal.made-requires
made-requires c =
    let name = c.in-Some.name.now in
    let named = sym c.class_name.ensures ∙ ap option_copied c.in-Some.is in
    let of_scope : class_at c.args.step.now.rules.now.class.pool c.args.index ≡ Some name =
    subst (λ (s : Scope). class_at s.class.pool c.args.index ≡ Some name) c.rules.view_is named in
    let fits : FitsArray name = subst (λ (o : Option (List ℕ)). IfSome o FitsArray) of_scope c.requires in
    let text : IsText name = c.bytes.ensures.text in
    let spelled : c.as_slice.result.now ≡ 91 ∷ named_text name = c.as_slice.ensures.value ∙ c.in_ok-array.ensures ∙ ap (λ (n : List ℕ). 91 ∷ named_text n) c.bytes.ensures.same in
    subst IsText (sym spelled) (array_text name text fits)
