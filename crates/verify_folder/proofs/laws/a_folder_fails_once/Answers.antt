use Rattle.type_rules.specs.MethodBodies.{body_of}
use Rattle.verify_folder.proofs.OneFailure.{MethodLaws, classes_fail_none, classes_fail_once}
use Rattle.verify_folder.proofs.laws.a_folder_fails_once.Goals as goal

pub returns-clause-none : goal.returns-clause-none
returns-clause-none c =
    let laws : MethodLaws = record {
      none = λ s. c.a_failing_method_has_no_frames.ensures.none (body_of s);
      one = λ s. c.a_failing_method_has_no_frames.ensures.one (body_of s);
    } in
    classes_fail_none laws

pub returns-clause-one : goal.returns-clause-one
returns-clause-one c =
    let laws : MethodLaws = record {
      none = λ s. c.a_failing_method_has_no_frames.ensures.none (body_of s);
      one = λ s. c.a_failing_method_has_no_frames.ensures.one (body_of s);
    } in
    classes_fail_once laws
