-- What the look-up of a class's own member answers, where its answer is known by an equation.
use Rattle.std.proofs.Common.{◌≡◌, Option, Some, None, option_map, subst}
use Rattle.class_model.specs.declared.header.Member.{Member}
use Rattle.class_tree.specs.Headers.{Name}
use Rattle.member_link.specs.DeclaredMembers.{Declared, declared_by}
use Rattle.member_link.specs.Found.{AreSame}
use Rattle.member_link.specs.declared.found.Found.{Found}
use Rattle.member_link.proofs.Climbed.{own_some, own_none}

module _ (Is : Found → Declared → Type 0) (class : Name) (result : Option Found) (own : Option Member) (same : AreSame Is result (option_map (declared_by class) own)) where
  pub answers_some : (found : Found) → result ≡ Some found → (member : Member) × (own ≡ Some member) × Is found (declared_by class member)
  answers_some found is = own_some Is class found own (subst (λ (r : Option Found). AreSame Is r (option_map (declared_by class) own)) is same)

  pub answers_none : result ≡ None → own ≡ None
  answers_none is = own_none Is class own (subst (λ (r : Option Found). AreSame Is r (option_map (declared_by class) own)) is same)
