-- Class files that verify with the base library are one hierarchy with it.
use Rattle.std.proofs.Common.{◌≡◌, ◌<◌, ◌≤◌, List, subst, arith}
use Rattle.class_model.specs.Laws.Checks.{all_or_fault}
use Rattle.class_model.specs.declared.class_file.ClassFile.{ClassFile}
use Rattle.class_model.specs.declared.header.Header.{Header}
use Rattle.class_tree.specs.Headers.{Classes, headers_of}
use Rattle.class_tree.specs.Problems.{Problem}
use Rattle.class_tree.specs.Steps.{step_checks}
use Rattle.class_tree.specs.Trees.{IsArranged, IsProblem, IsProblemOf, IsTree, duplicate, step, times}
use Rattle.work_gen.specs.BaseLibrary.{base_headers}
use Rattle.pea_top.specs.Inner.Generating.{IsBaseTree, VerifyWithBase}

pub made_tree : (folder : List ClassFile) (library : List Header) (classes : Classes) → library ≡ base_headers → VerifyWithBase folder → IsArranged folder library classes → IsBaseTree folder classes
made_tree folder library classes same verify arranged =
    let at_base : IsArranged folder base_headers classes = subst (λ (headers : List Header). IsArranged folder headers classes) same arranged in
    record { arranged = at_base; verified = verify classes at_base }

none_first : (classes : Classes) {problem : Problem} → IsTree classes → ¬ IsProblemOf classes problem
none_first classes tree (duplicate name twice first) = absurd (omega (arith, twice, tree.in_order.once name))
none_first classes tree (step problem in_order first) = all_or_fault (step_checks classes) problem tree.holds first

pub no_problem : (folder : List ClassFile) (library : List Header) (problem : Problem) → library ≡ base_headers → VerifyWithBase folder → ¬ IsProblem folder library problem
no_problem folder library problem same verify is =
    let at_base : IsArranged folder base_headers is.classes = subst (λ (headers : List Header). IsArranged folder headers is.classes) same is.arranged in
    none_first is.classes (verify is.classes at_base).tree is.first
