-- What holds of the code that is written by a plan, in the short form. It is this project's profile.
use Rattle.std.specs.Prelude.{◌≡◌, ◌++◌, ℕ, List, Some}
use Rattle.std.specs.List.{AllByRecursion}
use Rattle.class_model.specs.Pool.{Constants}
use Rattle.class_tree.specs.Headers.{Name}
use Rattle.code_layout.specs.Emitting.{IsEmitted}
use Rattle.code_layout.specs.PlainItems.{plain_items}
use Rattle.code_layout.specs.declared.emitted.EmitItem.{EmitItem}
use Rattle.code_drafts.specs.FlatForms.{AreFormed}
use Rattle.code_drafts.specs.ItemPlaces.{NameNews, enters_of, item_places, objects_of, site_places_of}
use Rattle.making_code.specs.CountedItems.{enters_in, site_news}
use Rattle.making_code.specs.Constants.{Need, grow}
use Rattle.making_code.specs.IndexedItems.{IndexedItem}
use Rattle.making_code.specs.Laws.GrownPools.{Begins}
use Rattle.plan_flow.specs.PlanScope.{PlanScope, pool_of}
use Rattle.plan_flow.specs.Plans.{IsValid, Plan}
use Rattle.plan_flow.specs.Written.Blocks.{blocks_of}
use Rattle.plan_flow.specs.Written.Finish.{Finished, finish}
use Rattle.plan_flow.specs.Written.Places.{places_of}
use Rattle.plan_flow.specs.Written.Routes.{IsRouted, Routes}
use Rattle.plan_flow.specs.Written.WrittenCode.{short, written_items}
use Rattle.plan_flow.specs.Written.WrittenConstants.{code_needs, indexed_items}
use Rattle.written_frames.specs.WideItems.{GoesWide}

abbrev pub finished_blocks : PlanScope → Routes → List Finished
finished_blocks s routes = finish s.flat (blocks_of s routes)

-- the items of a plan's code by the indices of a pool
abbrev pub items_in : PlanScope → (Name → List ℕ) → Constants → Routes → List IndexedItem
items_in s constructor pool routes = indexed_items s constructor pool short (finished_blocks s routes)

-- the constants that they need
abbrev pub needs_in : PlanScope → (Name → List ℕ) → Routes → List Need
needs_in s constructor routes = code_needs s constructor (written_items short (finished_blocks s routes))

-- A valid plan's items are emitted code: there is one, each has its form, and targets and handlers are numbers of items.
abbrev pub AreItemsEmitted : Type 0
AreItemsEmitted =
    (s : PlanScope) (constructor : Name → List ℕ) (pool : Constants) (plan : Plan) (routes : Routes)
    (items : List EmitItem)
    → AreFormed s.flat
    → IsValid s plan
    → IsRouted s plan routes
    → plain_items items ≡ items_in s constructor pool routes
    → IsEmitted items

-- ---- the wide form

-- A valid plan's items are such that the code that is made wide item by item is the definition's.
abbrev pub GoAllWide : Type 0
GoAllWide =
    (s : PlanScope) (constructor : Name → List ℕ) (pool : Constants) (plan : Plan) (routes : Routes)
    → AreFormed s.flat
    → IsValid s plan
    → IsRouted s plan routes
    → AllByRecursion (GoesWide s constructor pool (finished_blocks s routes))
    (written_items short (finished_blocks s routes))

-- ---- what is made and entered

-- In a pool that has grown by what it needs, and maybe by more, a plan's code makes exactly the objects and enters exactly the monitors that its
-- routes say, in their order.
abbrev pub AreItemPlaces : Type 0
AreItemPlaces =
    (s : PlanScope) (constructor : Name → List ℕ) (plan : Plan) (routes : Routes)
    (limit : ℕ) (old new more : Constants)
    → NameNews s
    → IsRouted s plan routes
    → Begins (pool_of s s.flat.host.class) old
    → grow limit old (needs_in s constructor routes) ≡ Some new
    → item_places (new ++ more) (items_in s constructor (new ++ more) routes) ≡ places_of s routes

-- So its monitorenters are as many.
abbrev pub AreEntersCounted : Type 0
AreEntersCounted =
    (s : PlanScope) (constructor : Name → List ℕ) (plan : Plan) (routes : Routes)
    (limit : ℕ) (old new more : Constants)
    → NameNews s
    → IsRouted s plan routes
    → Begins (pool_of s s.flat.host.class) old
    → grow limit old (needs_in s constructor routes) ≡ Some new
    → enters_in (items_in s constructor (new ++ more) routes) ≡ enters_of (places_of s routes)

-- And of objects of sites it makes as many.
abbrev pub AreNewsCounted : Type 0
AreNewsCounted =
    (s : PlanScope) (plan : Plan) (routes : Routes)
    → IsRouted s plan routes
    → site_news (written_items short (finished_blocks s routes))
    ≡ objects_of (site_places_of s routes)
