-- The constructors of sites take the fields of their objects.
use Rattle.std.proofs.Common.{◌≡◌, ◌≢◌, ◌≤◌, ◌++◌, ℕ, zero, suc, List, [], ◌∷◌, replicate, slice_get, Some, None, sym, ap, subst, ◌∙◌, arith}
use Rattle.std.specs.List.{AllByRecursion}
use Rattle.std.proofs.lemmas.Option.{none-some, same_Some}
use Rattle.class_model.specs.Checks.{AllHold, Check, asked_each}
use Rattle.class_model.specs.Laws.Checks.{first_holds, others_hold}
use Rattle.class_model.specs.Names.{init}
use Rattle.class_model.specs.declared.class_file.ClassFile.{ClassFile}
use Rattle.class_model.specs.declared.header.Header.{Header}
use Rattle.class_tree.specs.Problems.{Problem}
use Rattle.class_tree.specs.Steps.{base_checks, folder_checks, hierarchy_checks, library_checks}
use Rattle.class_model.specs.Descriptors.{parameters_of}
use Rattle.class_model.specs.declared.descriptor.FieldType.{FieldType}
use Rattle.class_model.specs.declared.descriptor.FieldType.TheVariants.{Named}
use Rattle.class_model.specs.Characters.{boolean_letter, left_bracket}
use Rattle.class_tree.specs.Headers.{Classes, Headers, Name, class_named, headers_of}
use Rattle.class_tree.specs.Hierarchy.{IsHierarchy}
use Rattle.class_tree.specs.Laws.Headers.{own_name}
use Rattle.class_tree.specs.Layouts.{chain}
use Rattle.class_tree.specs.Names.{object}
use Rattle.class_tree.specs.Order.{place_of}
use Rattle.class_tree.specs.Trees.{IsTree}
use Rattle.class_tree.specs.declared.place.Place.TheVariants.{Folder}
use Rattle.expanded_code.specs.Candidates.{HasRoom, IsCandidate}
use Rattle.expanded_code.specs.Laws.SuperChains.{chain_is, has_superclass}
use Rattle.member_link.specs.Laws.FolderClasses.{class_of_folder, folder_index}
use Rattle.member_link.specs.Signatures.{result_of}
use Rattle.expanded_code.specs.CandidateSites.{IsSite}
use Rattle.flow_code.specs.declared.point.Site.{Site}
use Rattle.member_link.specs.DeclaredMembers.{own_method}
use Rattle.member_link.specs.FieldConstructors.{HasFieldConstructor, constructor_descriptor}
use Rattle.written_types.proofs.ConstructorTexts.{ReadsParameters, gives_none, takes}
use Rattle.written_types.proofs.Given.{Given}
use Rattle.written_types.proofs.MakingConstants.{make_constants}
use Rattle.written_types.proofs.MakingPlaces.{MakeConstants, TakesFields}
use Rattle.written_types.proofs.Standing.{all_at}
use Rattle.written_types.proofs.Starts.{scope_headers}
use Rattle.written_types.proofs.WrittenPool.{PoolLaws}
use Rattle.written_types.specs.Writing.{Writing}

-- ---- no class of the folder is java/lang/Object

each_asked : {F X : Type 0} (asks : X → List (Check F)) (xs : List X) (number : ℕ) (x : X) → AllHold (asked_each asks xs)
    → slice_get xs number ≡ Some x
    → AllHold (asks x)
each_asked asks [] number x all is = absurd (none-some x is)
each_asked asks (first ∷ xs) zero x all is =
    subst (λ y. AllHold (asks y)) (same_Some first x is) (first_holds (asks first) (asked_each asks xs) all)
each_asked asks (first ∷ xs) (suc number) x all is =
    each_asked asks xs number x (others_hold (asks first) (asked_each asks xs) all) is

abbrev base_of : Classes → List ClassFile → List (Check Problem)
base_of classes [] = []
base_of classes (class ∷ folder) = base_checks classes

module _ (classes : Classes) (tree : IsTree classes) where
  hierarchy_holds : AllHold (hierarchy_checks (headers_of classes))
  hierarchy_holds = first_holds (hierarchy_checks (headers_of classes)) (base_of classes classes.folder) tree.holds

  not_object : (number : ℕ) (header : Header) → slice_get (headers_of classes).folder number ≡ Some header → header.name ≢ object
  not_object number header is =
      let all = each_asked (folder_checks (headers_of classes)) (headers_of classes).folder number header
      (first_holds (asked_each (folder_checks (headers_of classes)) (headers_of classes).folder)
      (asked_each (library_checks (headers_of classes)) (headers_of classes).library) hierarchy_holds) is in
      all.1.1.1.0.1

-- ---- the constructors of sites

-- a class of the folder is the first of its chain
of_candidate : (classes : Classes) → IsTree classes → IsHierarchy (headers_of classes) → (class : Name) → IsCandidate classes class
    → HasFieldConstructor classes class
of_candidate classes tree hierarchy class candidate = rooms.0.constructor where
  at : (index : ℕ) × (slice_get (headers_of classes).folder index ≡ Some candidate.header) × (place_of (headers_of classes) class ≡ Some (Folder index))
  at = folder_index (headers_of classes) class candidate.header candidate.found

  there : class_named (headers_of classes) class ≡ Some candidate.header
  there = class_of_folder (headers_of classes) class candidate.header candidate.found

  differs : class ≢ object
  differs same = not_object classes tree at.0 candidate.header at.1 (own_name (headers_of classes) class candidate.header there ∙ same)

  above : (high : Name) × (candidate.header.super_name ≡ Some high)
  above = has_superclass (headers_of classes) hierarchy class candidate.header there differs

  rooms : AllByRecursion (HasRoom classes) (class ∷ chain (headers_of classes) above.0)
  rooms =
      subst (λ (names : List Name). AllByRecursion (HasRoom classes) names)
      (chain_is (headers_of classes) hierarchy class candidate.header there differs above.0 above.1) candidate.room

module _ (w : Writing) (given : Given w) (reads : ReadsParameters) where
  pub takes_fields : (number : ℕ) (one : Site) → slice_get w.s.flat.sites number ≡ Some one → TakesFields w one
  takes_fields number one there = record {
    array = replicate constructor.dimensions left_bracket ++ boolean_letter ∷ [];
    parameters =
        ap parameters_of spelled
        ∙ takes w.s.classes given.setting.tree reads one.class constructor.dimensions constructor.has.some few site.candidate.narrow
        ∙ ap (λ (types : List FieldType). types ++ (Named (replicate constructor.dimensions left_bracket ++ boolean_letter ∷ []) ∷ [])) (sym site.fields);
    no_result =
        ap result_of spelled
        ∙ gives_none w.s.classes given.setting.tree reads one.class constructor.dimensions constructor.has.some few site.candidate.narrow;
    free =
        subst (λ (headers : Headers). own_method headers one.class init (w.constructor one.class) ≡ None)
        (sym (scope_headers w.s.classes w.s.flat.host w.host given.setting.ready.host))
        (ap (own_method (headers_of w.s.classes) one.class init) spelled ∙ constructor.has.free.undeclared);
  } where
    site : IsSite w.s.classes w.s.flat one
    site = all_at (IsSite w.s.classes w.s.flat) w.s.flat.sites number one given.setting.sites.sites there

    constructor : HasFieldConstructor w.s.classes one.class
    constructor = of_candidate w.s.classes given.setting.tree given.hierarchy one.class site.candidate

    few : constructor.dimensions ≤ 255
    few = let least = constructor.has.few in omega (arith, least)

    spelled : w.constructor one.class ≡ constructor_descriptor (headers_of w.s.classes) one.class constructor.dimensions
    spelled = given.setting.constructors one.class constructor.dimensions constructor.has

-- what make code names is there
pub constants_there : (w : Writing) → Given w → PoolLaws → ReadsParameters → MakeConstants w
constants_there w given laws reads = make_constants w given laws (takes_fields w given reads)
