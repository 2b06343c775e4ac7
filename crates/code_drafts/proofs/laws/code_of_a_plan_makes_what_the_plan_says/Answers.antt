use Rattle.std.proofs.Common.{◌++◌, refl, ap, ◌∙◌}
use Rattle.code_drafts.proofs.laws.code_of_a_plan_makes_what_the_plan_says.Goals as goal
use Rattle.code_drafts.specs.CodeOfPlans.{items_in}
use Rattle.code_drafts.specs.ItemPlaces.{enters_of}
use Rattle.code_drafts.specs.Laws.CountedPlaces.{enters_counted, site_objects_counted}
use Rattle.code_drafts.specs.Laws.IndexedPlaces.{indexed_places}

pub returns-clause-places : goal.returns-clause-places
returns-clause-places c = λ s constructor plan routes limit old new more news routed host grown.
    indexed_places c.constants_compare_by_value.ensures s constructor plan routes limit old new (new ++ more) news routed host grown
    (record { more = more; is = refl })

pub returns-clause-enters : goal.returns-clause-enters
returns-clause-enters c = λ s constructor plan routes limit old new more news routed host grown.
    enters_counted (new ++ more) (items_in s constructor (new ++ more) routes)
    ∙ ap enters_of (indexed_places c.constants_compare_by_value.ensures s constructor plan routes limit old new (new ++ more) news routed host grown
    (record { more = more; is = refl }))

pub returns-clause-news : goal.returns-clause-news
returns-clause-news c = λ s plan routes routed. site_objects_counted s plan routes routed
