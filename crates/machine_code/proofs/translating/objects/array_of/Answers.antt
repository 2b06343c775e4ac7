use Rattle.std.proofs.Common.{◌≡◌, ◌∷◌, List, ℕ, ap, sym, subst, ◌∙◌}
use Rattle.class_model.specs.Descriptors.{named_text}
use Rattle.class_model.specs.ModifiedUtf8.{IsText}
use Rattle.machine_code.proofs.ArrayTexts.{array_text}
use Rattle.machine_code.proofs.translating.objects.array_of.Goals as goal

pub of_text-requires : goal.of_text-requires
of_text-requires c =
    let name = c.args.name.now in
    let spelled : c.as_slice.result.now ≡ 91 ∷ named_text name = c.as_slice.ensures.value ∙ c.in_ok-array.ensures ∙ ap (λ (n : List ℕ). 91 ∷ named_text n) c.bytes.ensures.same in
    subst IsText (sym spelled) (array_text name c.bytes.ensures.text c.requires)
