-- Written code item by item: the body that its items are, in a host and a pool. It is this project's profile.
use Rattle.std.specs.Prelude.{ℕ, zero, List, Option}
use Rattle.class_model.specs.Pool.{Constants}
use Rattle.class_model.specs.declared.frame.Frame.{Frame}
use Rattle.class_tree.specs.Headers.{Name}
use Rattle.making_code.specs.IndexedItems.{IndexedItem}
use Rattle.making_code.specs.Items.{WItem}
use Rattle.member_link.specs.Bodies.{Body, BodyPoint}
use Rattle.member_link.specs.Machine.Replaced.{map_numbered}
use Rattle.member_link.specs.RowScope.{RowScope}
use Rattle.member_link.specs.Scope.{Scope}
use Rattle.class_model.specs.Methods.{entry_of, home_of}
use Rattle.flow_code.specs.WrittenUnits.{written_units}
use Rattle.plan_flow.specs.PlanScope.{PlanScope}
use Rattle.plan_flow.specs.Written.Finish.{Finished}
use Rattle.plan_flow.specs.Written.FramedCode.{body_of_items, item_body, items_scope}
use Rattle.plan_flow.specs.Written.WrittenCode.{Form}
use Rattle.plan_flow.specs.Written.WrittenConstants.{indexed_item, indexed_items}

-- ---- what is written

-- The code that a host runs in place of its own, by its finished blocks, in a form; the constructors' descriptors; and the pool and the
-- depth of the stack that its items are typed by.
pub record Writing : Type 0 where
  pub s : PlanScope
  pub host : Scope
  pub constructor : Name → List ℕ
  pub pool : Constants
  pub form : Form
  pub blocks : List Finished
  pub max_stack : ℕ

abbrev pub items_in : Writing → List IndexedItem
items_in w = indexed_items w.s w.constructor w.pool w.form w.blocks

abbrev pub scope_in : Writing → RowScope
scope_in w = items_scope w.host w.pool w.max_stack (items_in w)

abbrev pub entry_in : Writing → Frame
entry_in w = entry_of (home_of w.host.class) w.host.method
    (record w.host.part { max_locals = written_units w.s.flat })

-- an item as a point of the body
abbrev pub point_in : Writing → ℕ → WItem → BodyPoint
point_in w number one =
    item_body w.pool (scope_in w) number
    (indexed_item w.s w.constructor w.pool w.form w.blocks number one)

abbrev pub points_in : Writing → List BodyPoint
points_in w = map_numbered (item_body w.pool (scope_in w)) zero (items_in w)

-- the body that it is, where frames are stated
abbrev pub body_in : Writing → (ℕ → Option Frame) → Body
body_in w state = body_of_items w.host w.s.flat w.pool w.max_stack (items_in w) state
