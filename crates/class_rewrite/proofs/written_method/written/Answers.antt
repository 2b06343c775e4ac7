use Rattle.std.proofs.Common.{rules, ◌≡◌, ◌∙◌, sym, subst}
use Rattle.std.specs.Result.{IsErrOf}
use Rattle.class_model.specs.declared.class_file.MethodAt.{MethodAt}
use Rattle.class_rewrite.proofs.ReadyMethods.{few_units}
use Rattle.class_rewrite.proofs.written_method.written.Goals as goal
use Rattle.class_rewrite.specs.Inner.Meanings.{IsEditOf}
use Rattle.flow_code.specs.declared.reason.KeptFault.TheVariants.{Kept}

pub write_code-requires : goal.write_code-requires
write_code-requires c =
    let of = c.args.setting.now in
    let ready = c.what_is_meant_can_be_written.ensures of c.requires.m c.requires.meant in
    record {
      few_units = few_units of.flat c.requires.meant.flat.4;
      narrow = ready.for_plans.narrow;
      flows = ready.for_plans.flows;
      constructors = ready.made;
      formed = ready.formed;
      valid = c.requires.valid;
    }

pub returns-in_err-code-clause-kept : goal.returns-in_err-code-clause-kept
returns-in_err-code-clause-kept c = λ reason m is meant.
    let of = c.args.setting.now in
    let fails : IsErrOf c.write_code.result (Kept reason) = search rules in
    let own = (c.what_is_meant_can_be_written.ensures of m meant).own in
    let known = (c.what_is_meant_can_be_written.ensures of c.requires.m c.requires.meant).own in
    let edit = subst (λ (at : MethodAt). IsEditOf of.classes at c.args.pool.now) (sym known ∙ own) c.requires.of_class in
    c.what_is_not_written_has_a_reason.ensures of m c.args.pool.now reason meant edit (c.write_code.ensures.kept reason fails)

pub returns-clause-kept : goal.returns-clause-kept
returns-clause-kept c = λ reason m is meant.
    let of = c.args.setting.now in
    let own = (c.what_is_meant_can_be_written.ensures of m meant).own in
    let known = (c.what_is_meant_can_be_written.ensures of c.requires.m c.requires.meant).own in
    let edit = subst (λ (at : MethodAt). IsEditOf of.classes at c.args.pool.now) (sym known ∙ own) c.requires.of_class in
    c.written_of-method.ensures.kept reason m c.args.pool.now is meant edit
    (record { emitted = c.in_ok-code.ensures.ok; starts = c.in_ok-code.ensures.starts })
