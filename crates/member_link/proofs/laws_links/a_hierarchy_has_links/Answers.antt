use Rattle.member_link.specs.References.{Reference}
use Rattle.member_link.proofs.FieldLinks.{field_found}
use Rattle.member_link.proofs.MethodLinks.{method_found, selected}
use Rattle.member_link.proofs.SpecialStarts.{starts}
use Rattle.member_link.proofs.laws_links.a_hierarchy_has_links.Goals as goal

pub returns-clause-subtypes : goal.returns-clause-subtypes
returns-clause-subtypes c = c.a_hierarchy_decides_subtypes.ensures

pub returns-clause-fields : goal.returns-clause-fields
returns-clause-fields c = λ headers hierarchy. (
  λ (r : Reference). (field_found headers hierarchy r.name r.desc r.class).0,
  λ r. (field_found headers hierarchy r.name r.desc r.class).1,
)

pub returns-clause-methods : goal.returns-clause-methods
returns-clause-methods c = λ headers hierarchy. (
  λ (r : Reference). (method_found headers hierarchy r.class r.name r.desc).0,
  λ r. (method_found headers hierarchy r.class r.name r.desc).1,
)

pub returns-clause-selections : goal.returns-clause-selections
returns-clause-selections c = λ headers hierarchy. (
  λ receiver resolved form. (selected headers hierarchy receiver resolved form).0,
  λ receiver resolved form. (selected headers hierarchy receiver resolved form).1,
)

pub returns-clause-starts : goal.returns-clause-starts
returns-clause-starts c = λ headers hierarchy. (λ current named. (starts headers hierarchy current named).0, λ current named. (starts headers hierarchy current named).1)
