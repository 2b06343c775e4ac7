-- Words of the tree of callees, as it is kept: bodies in one list, each behind those of its callees.
use Rattle.std.specs.Prelude.{◌≡◌, ◌≤◌, ℕ, List, [], ◌∷◌, ◌++◌, length, slice_get, Option, Some, None}
use Rattle.class_model.specs.Methods.{units_at_call}
use Rattle.class_model.specs.declared.frame.Frame.{Frame}
use Rattle.code_bytes.specs.Codes.{IsReadMethod}
use Rattle.expanded_code.specs.Expansions.{Coded, Expansion, no_more, replaced, site, stays}
use Rattle.inline_expand.specs.Inner.Hosts.{HasUnits}
use Rattle.inline_expand.specs.declared.expansions.Body.{Body}
use Rattle.inline_expand.specs.declared.expansions.Step.{Step}
use Rattle.inline_expand.specs.declared.expansions.Step.TheVariants.{Replaced, Site, Stays}
use Rattle.member_link.specs.Scope.{Scope, instructions, own_descriptor}
use Rattle.type_rules.specs.Typed.{Typed}

abbrev pub coded_of : Body → Coded
coded_of body = record { at = body.at; scope = body.host; frames = body.frames.now }

-- a callee, and what becomes of its instructions
pub record Callee : Type 0 where
  pub coded : Coded
  pub inner : Expansion

-- An instruction in whose place a callee of this list stands; where the list has none of the number, it stays.
abbrev pub replaced_by : Option Callee → Expansion → Expansion
replaced_by None more = stays more
replaced_by (Some callee) more = replaced callee.coded callee.inner more

-- what becomes of instructions by their steps
abbrev pub expansion_by : List Callee → List Step → Expansion
expansion_by callees [] = no_more
expansion_by callees (Stays ∷ steps) = stays (expansion_by callees steps)
expansion_by callees (Site class ∷ steps) = site class (expansion_by callees steps)
expansion_by callees (Replaced number ∷ steps) =
    replaced_by (slice_get callees number) (expansion_by callees steps)

-- a body, whose callees are among those of a list
abbrev pub callee_by : List Callee → Body → Callee
callee_by callees body = record {
  coded = coded_of body;
  inner = expansion_by callees body.steps;
}

abbrev pub callees_behind : List Callee → List Body → List Callee
callees_behind callees [] = callees
callees_behind callees (body ∷ bodies) =
    callees_behind (callees ++ callee_by callees body ∷ []) bodies

-- the bodies of a list, each with callees among those before it
abbrev pub callees_of : List Body → List Callee
callees_of bodies = callees_behind [] bodies

-- ---- what is known of a body

-- the method was read, and its local units hold its arguments
pub record IsCallable (s : Scope) : Type 0 where
  pub read : IsReadMethod s.class.pool s.method
  pub fits : units_at_call s.method.flags (own_descriptor s) ≤ s.part.max_locals

-- each frame has the local units of the method's code
abbrev pub HaveItsUnits : Scope → List Frame → Type 0
HaveItsUnits s frames =
    (number : ℕ) (frame : Frame)
    → slice_get frames number ≡ Some frame
    → length frame.locals ≡ s.part.max_locals

-- Frames type its code, one for each instruction, with its local units; it has a step for each instruction; its instructions name local units that it
-- has; and it may be called.
pub record IsBody (body : Body) : Type 0 where
  pub typed : Typed body.host body.frames.now
  pub one_each : length body.frames.now ≡ length (instructions body.host)
  pub long : HaveItsUnits body.host body.frames.now
  pub steps : length body.steps ≡ length (instructions body.host)
  pub units : HasUnits body.host
  pub callable : IsCallable body.host
