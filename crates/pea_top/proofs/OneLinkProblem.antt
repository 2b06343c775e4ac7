-- The first problem of linking is one, and what is linked has none.
use Rattle.std.proofs.Common.{◌≡◌, List, sym, subst, arith}
use Rattle.class_model.specs.Checks.{IsFirstFault}
use Rattle.class_model.specs.Laws.Checks.{one_fault, all_or_fault}
use Rattle.class_model.specs.declared.class_file.ClassFile.{ClassFile}
use Rattle.class_model.specs.declared.header.Header.{Header}
use Rattle.class_tree.specs.Headers.{Classes, headers_of}
use Rattle.class_tree.specs.Problems.{Problem}
use Rattle.class_tree.specs.Trees.{IsArranged, IsInOrder, IsTree, IsProblemOf, duplicate, step, IsProblem}
use Rattle.member_link.specs.Linked.{link_checks, IsLinked}
use Rattle.pea_top.specs.Linking.{IsLinkProblem, of_hierarchy, of_links}

-- a hierarchy has no problem
no_problem_of_tree : {classes : Classes} {problem : Problem} → IsTree classes → ¬ IsProblemOf classes problem
no_problem_of_tree tree (duplicate name twice first) = absurd (omega (arith, tree.in_order.once name))
no_problem_of_tree {classes} tree (step problem in_order first) = all_or_fault _ problem tree.holds first

-- what class_tree says of a folder and its library
pub record TreeLaws : Type 0 where
  pub problem : (folder : List ClassFile) (library : List Header) (one other : Problem) → IsProblem folder library one → IsProblem folder library other → one ≡ other
  pub arranged : (folder : List ClassFile) (library : List Header) (one other : Classes) → IsArranged folder library one → IsInOrder (headers_of one) → IsArranged folder library other → one ≡ other

module _ (laws : TreeLaws) (folder : List ClassFile) (library : List Header) where
  pub tree_no_problem : (classes : Classes) (problem : Problem) → IsArranged folder library classes → IsTree classes → ¬ IsProblem folder library problem
  tree_no_problem classes problem arranged tree h =
      let same : classes ≡ h.classes = laws.arranged folder library classes h.classes arranged tree.in_order h.arranged in
      no_problem_of_tree (subst IsTree same tree) h.first

  -- the same classes are linked in one arrangement
  links_at : (classes other : Classes) (problem : Problem) → IsArranged folder library classes → IsTree classes → IsArranged folder library other → IsFirstFault (link_checks other) problem → IsFirstFault (link_checks classes) problem
  links_at classes other problem arranged tree other_arranged first =
      let same = laws.arranged folder library classes other arranged tree.in_order other_arranged in
      subst (λ (at : Classes). IsFirstFault (link_checks at) problem) (sym same) first

  pub one_link_problem : (one other : Problem) → IsLinkProblem folder library one → IsLinkProblem folder library other → one ≡ other
  one_link_problem one other (of_hierarchy h) (of_hierarchy i) = laws.problem folder library one other h i
  one_link_problem one other (of_hierarchy h) (of_links classes arranged tree first) = absurd (tree_no_problem classes one arranged tree h)
  one_link_problem one other (of_links classes arranged tree first) (of_hierarchy i) = absurd (tree_no_problem classes other arranged tree i)
  one_link_problem one other (of_links classes arranged tree first) (of_links others other_arranged _ other_first) =
      one_fault (link_checks classes) one other first (links_at classes others other arranged tree other_arranged other_first)

  pub linked_no_problem : (classes : Classes) (problem : Problem) → IsArranged folder library classes → IsTree classes → IsLinked classes → ¬ IsLinkProblem folder library problem
  linked_no_problem classes problem arranged tree linked (of_hierarchy h) = tree_no_problem classes problem arranged tree h
  linked_no_problem classes problem arranged tree linked (of_links others other_arranged _ first) =
      all_or_fault (link_checks classes) problem linked (links_at classes others problem arranged tree other_arranged first)
