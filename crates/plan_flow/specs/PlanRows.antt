-- What an instruction of flat code does to the places of a state, whatever the state: a row of a table. The places are the local
-- units, counted from 0, and behind them the stack entries, the lowest first. It is this project's profile, after Stadler,
-- Würthinger and Mössenböck, "Partial Escape Analysis and Scalar Replacement for Java", CGO 2014.
use Rattle.std.specs.Prelude.{ℕ, List, Option}
use Rattle.class_tree.specs.Headers.{Name}
use Rattle.member_link.specs.References.{Reference}
use Rattle.plan_flow.specs.declared.edge.EdgeKind.{EdgeKind}

-- where the value of a place comes from
pub data Source : Type 0 where
  -- a value, or a reference to an object that was made
  plain_value : Source
  -- what a place holds
  from_place : ℕ → Source
  -- what a field of the virtual object holds that a place holds; a plain value where it holds none
  from_field : ℕ → Reference → Source
  -- the virtual object that the instruction makes
  from_new : Source

-- what becomes of the virtual objects
pub data Change : Type 0 where
  no_change : Change
  -- a new object of a site, whose fields hold plain values and whose monitor is not entered
  new_object : ℕ → Change
  -- a field of the virtual object that a place holds becomes what another place holds
  put_field : ℕ → Reference → ℕ → Change
  -- the monitor of the virtual object that a place holds is entered once more, or left once
  enter_monitor : ℕ → Change
  leave_monitor : ℕ → Change

-- the states in which control may take an edge
pub data Guard : Type 0 where
  in_each_state : Guard
  -- the place holds no virtual object
  where_plain : ℕ → Guard
  -- the two places may hold one reference, or two
  where_may_be_same : ℕ → ℕ → Guard
  where_may_differ : ℕ → ℕ → Guard

-- Where an instruction asks that an object is made.
pub data Position : Type 0 where
  -- the virtual object that a place holds
  any_object : ℕ → Position
  -- the same, where another place holds no virtual object, or one that it is or reaches
  object_put_into : ℕ → ℕ → Position
  -- the same, where it is of a site whose class is not below this one
  object_not_below : ℕ → Name → Position
  -- the same, where its monitor is entered so often
  object_at_depth : ℕ → ℕ → Position
  -- the virtual object of a site
  object_of_site : ℕ → Position

pub record PlanRow : Type 0 where
  -- where it asks that an object is made, besides what its change asks
  pub asks : List Position
  -- what the local units and the stack hold behind the instruction
  pub locals : List Source
  pub stack : List Source
  pub change : Change
  -- where control may fall through or jump, if the instruction does
  pub next : Guard
  pub jump : Guard
  -- where it may throw, if it may
  pub throws : Option Guard

-- an edge of the flat code, with the states in which control may take it
pub record RowEdge : Type 0 where
  pub by : EdgeKind
  pub to : ℕ
  pub guard : Guard
