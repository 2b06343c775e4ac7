-- Words of callees in their places.
use Rattle.std.specs.Prelude.{◌≡◌, ◌+◌, ◌≤◌, ◌<◌, ◌++◌, ℕ, List, length, Option, Some, None}
use Rattle.std.specs.List.{AllByRecursion}
use Rattle.class_model.specs.declared.frame.Frame.{Frame}
use Rattle.class_model.specs.declared.instr.Placed.{Placed}
use Rattle.expanded_code.specs.Expanded.{Setting, callee_setting, own_narrowing, points_before, points_from, points_of, points_of_callee, points_of_entry, units_in}
use Rattle.flow_code.specs.FlatCode.{HasLocal}
use Rattle.flow_code.specs.declared.point.Point.{Point}
use Rattle.inline_expand.specs.Inner.Layouts.{AreLayouts, IsLayout, narrowing_of, replacing, starts_from, units_of_callee}
use Rattle.inline_expand.specs.Inner.Steps.{Callee, IsBody, callee_by, callees_of, expansion_by}
use Rattle.inline_expand.specs.declared.expanded.layouts.Layout.{Layout}
use Rattle.inline_expand.specs.declared.expanded.places.Found.{Found}
use Rattle.inline_expand.specs.declared.expanded.settings.Call.{Call}
use Rattle.inline_expand.specs.declared.expanded.settings.Setting.{Setting as Placing}
use Rattle.inline_expand.specs.declared.expansions.Body.{Body}
use Rattle.inline_expand.specs.declared.expansions.Step.{Step}
use Rattle.member_link.specs.Scope.{Scope, instructions}

-- a callee's own scope
abbrev pub method_by : Option Call → Scope → Option Scope
method_by None s = None
method_by (Some call) s = Some s

abbrev pub method_of : Placing → Option Scope
method_of s = method_by s.call s.body.now.host

-- its results are narrowed as its descriptor says
abbrev pub NarrowsBy : Scope → Option Call → Type 0
NarrowsBy s None = Unit {0}
NarrowsBy s (Some call) = own_narrowing s ≡ narrowing_of call.narrowed

-- A method whose callees are among these has its place: the numbers of its points are known, and these and its local units are
-- numbers of two bytes.
pub record HasPlace (callees : List Callee) (s : Placing) : Type 0 where
  pub body : IsBody s.body.now
  pub narrows : NarrowsBy s.body.now.host s.call
  pub starts : s.starts.now
      ≡ starts_from (method_of s) 0 (instructions s.body.now.host)
      (expansion_by callees s.body.now.steps)
  pub points : s.base
      + points_of (method_of s) (instructions s.body.now.host)
      (expansion_by callees s.body.now.steps)
      ≤ 65535
  pub units : s.unit
      + s.body.now.host.part.max_locals
      + units_in (expansion_by callees s.body.now.steps)
      ≤ 65535

-- bodies and their layouts
pub record AreReady (bodies : List Body) (layouts : List Layout) : Type 0 where
  pub each : AllByRecursion IsBody bodies
  pub laid : AreLayouts (callees_of bodies) layouts

abbrev pub callee_in : Found → Callee
callee_in found = callee_by (callees_of found.bodies.now) found.body.now

-- the callee of a step, with the bodies before it
pub record IsFound (bodies : List Body) (layouts : List Layout) (step : Step) (found : Found)
    : Type 0 where
  pub is : replacing (callees_of bodies) step ≡ Some (callee_in found)
  pub fewer : length found.bodies.now < length bodies
  pub ready : AreReady bodies layouts → AreReady found.bodies.now found.layouts.now
  pub body : AreReady bodies layouts → IsBody found.body.now
  pub layout : AreReady bodies layouts → IsLayout (callee_in found) found.layout.now

-- Its points behind a number, and its local units from one on, are numbers of two bytes.
pub record CanEnter (found : Found) (start unit : ℕ) : Type 0 where
  pub body : IsBody found.body.now
  pub layout : IsLayout (callee_in found) found.layout.now
  pub points : start + points_of_callee (callee_in found).coded (callee_in found).inner ≤ 65535
  pub units : unit + units_of_callee (callee_in found) ≤ 65535

-- where a callee stands behind a number, with its units from one on
pub record StandsFrom (found : Found) (start unit : ℕ) (place : Placing) : Type 0 where
  pub body : place.body.now ≡ found.body.now
  pub base : place.base ≡ start + points_before found.body.now.host
  pub unit_is : place.unit ≡ unit

-- An instruction may stand in its place: its local is a unit of its method, whose units are numbers of two bytes. A callee's results
-- are narrowed as its descriptor says.
pub record CanStay (s : Placing) (placed : Placed) : Type 0 where
  pub local : HasLocal s.body.now.host.part.max_locals placed.instr
  pub units : s.unit + s.body.now.host.part.max_locals ≤ 65535
  pub narrows : NarrowsBy s.body.now.host s.call

-- the points in place of a call at an offset, before which there is a frame
abbrev pub callee_points : Setting → ℕ → Frame → ℕ → ℕ → Callee → List Point
callee_points t at frame number unit callee =
    points_of_entry t at frame callee.coded.scope unit
    ++ points_from (callee_setting t at frame number unit callee.coded callee.inner)
    (number + points_before callee.coded.scope)
    (unit + callee.coded.scope.part.max_locals)
    (instructions callee.coded.scope) callee.coded.frames callee.inner
