-- Words of a host with its callees in place of their calls.
use Rattle.std.specs.Prelude.{◌≡◌, ◌+◌, ◌≤◌, List, map, None}
use Rattle.expanded_code.specs.Expanded.{points_of, units_in}
use Rattle.expanded_code.specs.Expansions.{Expansion}
use Rattle.inline_expand.specs.Inner.Layouts.{AreLayouts, capped, starts_from}
use Rattle.inline_expand.specs.Inner.Steps.{callees_of, expansion_by}
use Rattle.inline_expand.specs.declared.expanded.measures.Measure.{Measure}
use Rattle.inline_expand.specs.declared.expanded.settings.Setting.{Setting as Placing}
use Rattle.inline_expand.specs.declared.expansions.Body.{Body}
use Rattle.member_link.specs.Scope.{instructions}

-- what becomes of the instructions of a host whose callees are among these bodies
abbrev pub host_expansion : List Body → Body → Expansion
host_expansion bodies host = expansion_by (callees_of bodies) host.steps

-- the layouts of the bodies, the numbers of the host's points, how many points there are, and the local units of callees
pub record IsMeasure (bodies : List Body) (host : Body) (measure : Measure) : Type 0 where
  pub laid : AreLayouts (callees_of bodies) measure.layouts.items
  pub starts : measure.starts.items
      ≡ map capped (starts_from None 0 (instructions host.host) (host_expansion bodies host))
  pub points : measure.points
      ≡ capped (points_of None (instructions host.host) (host_expansion bodies host))
  pub units : measure.units ≡ capped (units_in (host_expansion bodies host))

-- its points and its local units are numbers of two bytes
pub record IsSmall (bodies : List Body) (host : Body) : Type 0 where
  pub points : points_of None (instructions host.host) (host_expansion bodies host) ≤ 65535
  pub units : host.host.part.max_locals + units_in (host_expansion bodies host) ≤ 65535

-- a host in its place
pub record StandsFirst (host : Body) (setting : Placing) : Type 0 where
  pub body : setting.body.now ≡ host
  pub base : setting.base ≡ 0
  pub unit : setting.unit ≡ 0
