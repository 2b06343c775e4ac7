-- Words of the candidate sites of a method in its place.
use Rattle.member_link.specs.FieldConstructors.{field_types}
use Rattle.std.specs.Prelude.{◌≡◌, ◌+◌, ◌≤◌, ℕ, Bool, true, false, List, [], ◌∷◌, length, map, Option, Some, None}
use Rattle.class_tree.specs.Headers.{Headers}
use Rattle.expanded_code.specs.Expanded.{points_before, points_of}
use Rattle.flow_code.specs.declared.point.Site.{Site}
use Rattle.inline_expand.specs.Inner.Layouts.{starts_from}
use Rattle.inline_expand.specs.Inner.Steps.{Callee, expansion_by}
use Rattle.inline_expand.specs.declared.expanded.places.Found.{Found}
use Rattle.inline_expand.specs.declared.expanded.sites.NewAt.{NewAt}
use Rattle.inline_expand.specs.declared.expanded.sites.Numbered.{Numbered}
use Rattle.inline_expand.specs.declared.expansions.Step.{Step}
use Rattle.inline_expand.specs.declared.expansions.Step.TheVariants as steps
use Rattle.member_link.specs.Scope.{Scope, instructions}

-- a callee's own scope
abbrev pub method_if : Bool → Scope → Option Scope
method_if false s = None
method_if true s = Some s

abbrev pub method_at : Numbered → Option Scope
method_at method = method_if method.is_callee method.body.now.host

-- a method whose callees are among these, with the numbers of its points, which are numbers of two bytes
pub record HasNumbers (callees : List Callee) (method : Numbered) : Type 0 where
  pub steps : length method.body.now.steps ≡ length (instructions method.body.now.host)
  pub starts : method.starts.now
      ≡ starts_from (method_at method) 0 (instructions method.body.now.host)
      (expansion_by callees method.body.now.steps)
  pub points : method.base
      + points_of (method_at method) (instructions method.body.now.host)
      (expansion_by callees method.body.now.steps)
      ≤ 65535

-- a site with the types of its fields
abbrev pub site_by : Headers → NewAt → Site
site_by headers new = record {
  at = new.at;
  class = new.class;
  fields = field_types headers new.class;
}

abbrev pub sites_by : Headers → List NewAt → List Site
sites_by headers news = map (site_by headers) news

-- the site of a step that no callee stands for
abbrev pub site_of : Headers → ℕ → Step → List Site
site_of headers at (steps.Site class) =
    record { at = at; class = class; fields = field_types headers class } ∷ []
site_of headers at step = []

-- where a callee's points begin behind a number
pub record NumbersBehind (found : Found) (start : ℕ) (method : Numbered) : Type 0 where
  pub is_callee : method.is_callee ≡ true
  pub body : method.body.now ≡ found.body.now
  pub base : method.base ≡ start + points_before found.body.now.host
