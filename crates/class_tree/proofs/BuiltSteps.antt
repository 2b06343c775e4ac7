-- The steps of building a hierarchy, one after the other.
use Rattle.std.proofs.Common.{◌≡◌, ◌<◌, ◌≤◌, ◌==◌, ℕ, false, List, [], ◌∷◌, map, length, Err, IsTrue, sym, ap, subst, inl, inr, arith}
use Rattle.std.proofs.lemmas.Bool.{true≢false, ne_eqb}
use Rattle.class_model.specs.Checks.{AllHold}
use Rattle.class_model.specs.Header.{header_of}
use Rattle.class_model.specs.Laws.Checks.{Remain, all_remain, remain}
use Rattle.class_model.specs.declared.class_file.ClassFile.{ClassFile}
use Rattle.class_model.specs.declared.header.Header.{Header}
use Rattle.class_tree.specs.Answers.{Answers}
use Rattle.class_tree.specs.Inner.Graphs.{Graph, IsOneOf, IsPath, IsWithin, IsTopological}
use Rattle.class_tree.specs.Headers.{Name, Classes, Headers, headers_of, all_headers}
use Rattle.class_tree.specs.Laws.Links.{refused, answered}
use Rattle.class_tree.specs.Inner.Nodes.{graph_of, IsLinksOf}
use Rattle.class_tree.specs.Problems.{check}
use Rattle.class_tree.specs.Steps.{hierarchy_checks, base_checks, step_checks}
use Rattle.class_tree.specs.Trees.{IsBefore, IsInOrder, IsProblemOf, duplicate, step, times}
use Rattle.class_tree.specs.declared.fault.LinkFault.{LinkFault}
use Rattle.class_tree.specs.declared.fault.LinkFault.TheVariants.{Unlinked, NoMemory}
use Rattle.class_tree.specs.declared.fault.LinkRule.TheVariants.{Duplicate}
use Rattle.class_tree.proofs.Acyclic.{all_are_placed}
use Rattle.class_tree.proofs.ClassHolds.{class_holds}
use Rattle.class_tree.proofs.GraphPaths.{graph_is_within, path_is_below, some_at}
use Rattle.class_tree.proofs.HierarchyChecks.{as_many_nodes}

-- the class files of a folder, and the headers of the library beside theirs
abbrev pub classes_of : List ClassFile → Headers → Classes
classes_of folder headers = record { folder = folder; library = headers.library }

pub same_headers : (folder : List ClassFile) (headers : Headers) → headers.folder ≡ map header_of folder → headers ≡ headers_of (classes_of folder headers)
same_headers folder headers is =
    let with_folder : List Header → Headers = λ list. record { folder = list; library = headers.library } in
    ap with_folder is

-- ---- refusals

-- a name that stands twice
pub duplicate_refused : (classes : Classes) (headers : Headers) (of_folder : List Header) (name : Name) (e : LinkFault) → headers ≡ headers_of classes → 2 ≤ times name headers → ((other : Name) → IsBefore other name → times other headers ≤ 1) → Answers {X = Unit {0}} (check name Duplicate (IsTrue false) ∷ []) (Err e) → IsLinksOf classes of_folder (Err e)
duplicate_refused classes headers of_folder name NoMemory same twice first told = tt
duplicate_refused classes headers of_folder name (Unlinked class member rule) same twice first (inl here) =
    subst (IsProblemOf classes) (sym here.1) (duplicate name (subst (λ (h : Headers). 2 ≤ times name h) same twice) (λ other before. subst (λ (h : Headers). times other h ≤ 1) same (first other before)))
duplicate_refused classes headers of_folder name (Unlinked class member rule) same twice first (inr later) = absurd later.1

-- a check that fails
check_refused : (classes : Classes) (of_folder : List Header) (e : LinkFault) → IsInOrder (headers_of classes) → Answers {X = Unit {0}} (step_checks classes) (Err e) → IsLinksOf classes of_folder (Err e)
check_refused classes of_folder (Unlinked class member rule) in_order told = step _ in_order told
check_refused classes of_folder NoMemory in_order told = tt

pub hierarchy_refused : (folder : List ClassFile) (headers : Headers) (e : LinkFault) → headers.folder ≡ map header_of folder → IsInOrder headers → Answers {X = Unit {0}} (hierarchy_checks headers) (Err e) → IsLinksOf (classes_of folder headers) headers.folder (Err e)
hierarchy_refused folder headers e is in_order told =
    let classes = classes_of folder headers in
    let same = same_headers folder headers is in
    let told = subst (λ (h : Headers). Answers {X = Unit {0}} (hierarchy_checks h) (Err e)) same told in
    check_refused classes headers.folder e (subst IsInOrder same in_order) (refused (hierarchy_checks (headers_of classes)) _ e (all_remain (step_checks classes)) told)

-- the checks of the hierarchy hold, and those of the base are left where the folder has a class
base_remains : (class : ClassFile) (folder : List ClassFile) (headers : Headers) → headers.folder ≡ map header_of (class ∷ folder) → AllHold (hierarchy_checks headers) → Remain (step_checks (classes_of (class ∷ folder) headers)) (base_checks (classes_of (class ∷ folder) headers))
base_remains class folder headers is hold =
    let classes = classes_of (class ∷ folder) headers in
    remain (hierarchy_checks (headers_of classes)) (base_checks classes) (all_remain (step_checks classes)) (subst (λ (h : Headers). AllHold (hierarchy_checks h)) (same_headers (class ∷ folder) headers is) hold)

pub base_refused : (folder : List ClassFile) (headers : Headers) (e : LinkFault) → headers.folder ≡ map header_of folder → IsInOrder headers → AllHold (hierarchy_checks headers) → (length folder == 0) ≡ false → Answers {X = Unit {0}} (base_checks (classes_of folder headers)) (Err e) → IsLinksOf (classes_of folder headers) headers.folder (Err e)
base_refused [] headers e is in_order hold some told = absurd (true≢false some)
base_refused (class ∷ folder) headers e is in_order hold some told =
    let same = same_headers (class ∷ folder) headers is in
    check_refused (classes_of (class ∷ folder) headers) headers.folder e (subst IsInOrder same in_order) (answered (Err e) (base_remains class folder headers is hold) told)

-- ---- where all that is asked holds

pub steps_hold : (folder : List ClassFile) (headers : Headers) → headers.folder ≡ map header_of folder → AllHold (hierarchy_checks headers) → ((length folder == 0) ≡ false → AllHold (base_checks (classes_of folder headers))) → AllHold (step_checks (classes_of folder headers))
steps_hold [] headers is hold base =
    let classes = classes_of [] headers in
    (remain (hierarchy_checks (headers_of classes)) [] (all_remain (step_checks classes)) (subst (λ (h : Headers). AllHold (hierarchy_checks h)) (same_headers [] headers is) hold)).hold tt
steps_hold (class ∷ folder) headers is hold base = (base_remains class folder headers is hold).hold (base (ne_eqb (length (class ∷ folder)) 0 (λ none. omega (arith, none))))

-- each class stands in the order
pub classes_are_placed : (headers : Headers) (graph : Graph) (order : List ℕ) → IsInOrder headers → AllHold (hierarchy_checks headers) → graph ≡ graph_of headers → IsTopological graph order → (node : ℕ) → node < length graph → IsOneOf order node
classes_are_placed headers graph order in_order hold is topological node low =
    all_are_placed graph order (subst IsWithin (sym is) (graph_is_within headers)) topological
    (λ at below path.
    let class = some_at (all_headers headers) at (omega (arith, below, ap length is, as_many_nodes headers)) in
    (class_holds headers hold at class.0 class.1).circle ((path_is_below headers in_order at at class.0 class.0 class.1 class.1).0 (subst (λ (g : Graph). IsPath g at at) is path)))
    node low
