-- How many points expanded code has, and which numbers are among them.
use Rattle.std.proofs.Common.{◌≡◌, ◌==◌, ◌+◌, ◌<◌, ◌≤◌, ℕ, suc, Bool, true, false, List, [], ◌∷◌, ◌++◌, length, map, reverse, Option, Some, None, inl, inr, if◌then◌else◌, refl, sym, ap, ◌∙◌, arith}
use Rattle.std.proofs.lemmas.Bool.{eq-eqb}
use Rattle.std.proofs.lemmas.List.{length-append, length-map, length-reverse}
use Rattle.std.specs.List.{AllByRecursion}
use Rattle.class_model.specs.Descriptors.{kind_of, parameters_of, units_of}
use Rattle.class_model.specs.Members.{STATIC, has}
use Rattle.class_model.specs.declared.class_file.MethodAt.{MethodAt}
use Rattle.class_model.specs.declared.descriptor.FieldType.{FieldType}
use Rattle.class_model.specs.declared.descriptor.Kind.TheVariants as kinds
use Rattle.class_model.specs.declared.frame.Frame.{Frame}
use Rattle.class_model.specs.declared.instr.Instr.{Instr}
use Rattle.class_model.specs.declared.instr.Instr.TheVariants.{Return}
use Rattle.class_model.specs.declared.instr.Placed.{Placed}
use Rattle.class_tree.specs.Headers.{Classes, Headers}
use Rattle.expanded_code.specs.Candidates.{IsCandidate}
use Rattle.expanded_code.specs.Expanded.{Argument, Narrowing, Setting, arguments, arguments_from, callee_of, callee_setting, frame_behind_stores, frame_stored, instr_points, number_from, own_narrowing, own_points, point_in, points_before, points_from, points_of, points_of_callee, points_of_entry, return_points, set_frame, sites_from, store_points, test_points, tests_receiver, units_in}
use Rattle.expanded_code.specs.Expansions.{Coded, Expands, Expansion, expands_none, expands_replaced, expands_site, expands_stays, no_more, replaced, site, stays}
use Rattle.expanded_code.specs.Sites.{HasFrames}
use Rattle.flow_code.specs.FlatCode.{NamesPoint}
use Rattle.flow_code.specs.TypedFrames.{FolderFrames}
use Rattle.flow_code.specs.declared.point.FlatInstr.TheVariants.{NullTest}
use Rattle.flow_code.specs.declared.point.Point.{Point}
use Rattle.flow_code.specs.declared.point.Site.{Site}
use Rattle.inline_expand.proofs.AloneFlat.{all-append}
use Rattle.inline_expand.proofs.GrownSteps.{own_some}
use Rattle.inline_expand.specs.Inner.TypedMethods.{IsTypedMethod}
use Rattle.member_link.specs.Bodies.{Body}
use Rattle.member_link.specs.BodyTyping.{IsPlaceOf}
use Rattle.member_link.specs.Scope.{Scope, instructions, own_descriptor}
use Rattle.type_rules.specs.MethodBodies.{body_of, point_of}
use Rattle.type_rules.specs.Typed.{AreTyped, Typed}

-- ---- how many points stand in place of an instruction

returned-length : (t : Setting) (at : ℕ) (frame : Frame) (behind : ℕ) → length (return_points t at frame behind) ≡ length (own_narrowing t.coded.scope) + 1
returned-length t at frame behind =
    let narrow = λ (n : Narrowing). point_in t at (record frame { stack = frame.stack ++ n.above }) n.instr in
    let narrowed = own_narrowing t.coded.scope in
    length-append (map narrow narrowed) _ ∙ ap (λ (n : ℕ). n + 1) (length-map narrowed narrow)

own-length : (t : Setting) (placed : Placed) (frame : Frame) → length (instr_points t placed frame) ≡ own_points (callee_of t) placed.instr
own-length t placed frame = by t.behind refl placed.instr refl where
  by : (behind : Option ℕ) → t.behind ≡ behind → (instr : Instr) → placed.instr ≡ instr → length (instr_points t placed frame) ≡ own_points (callee_of t) placed.instr
  by None none instr is = rw none refl
  by (Some behind) some (Return kind) is = rw (some, is) (returned-length t placed.at (set_frame t frame) behind)
  by (Some behind) some instr is = rw (some, is) refl

from-length : (unit : ℕ) (types : List FieldType) → length (arguments_from unit types) ≡ length types
from-length unit [] = refl
from-length unit (type ∷ types) = ap suc (from-length (unit + units_of (kind_of type)) types)

-- it does not matter where the units begin
same-length : (s : Scope) (unit : ℕ) → length (arguments s unit) ≡ length (arguments s 0)
same-length s unit = by (has s.method.flags STATIC) where
  types : List FieldType
  types = parameters_of (own_descriptor s)

  by : (static : Bool)
      → length (if static then arguments_from unit types else record { kind = kinds.Ref; unit = unit } ∷ arguments_from (unit + 1) types)
      ≡ length (if static then arguments_from 0 types else record { kind = kinds.Ref; unit = 0 } ∷ arguments_from (0 + 1) types)
  by true = from-length unit types ∙ sym (from-length 0 types)
  by false = ap suc (from-length (unit + 1) types ∙ sym (from-length (0 + 1) types))

stores-length : (t : Setting) (at : ℕ) (frame : Frame) (arguments : List Argument) → length (store_points t at frame arguments) ≡ length arguments
stores-length t at frame [] = refl
stores-length t at frame (argument ∷ others) = ap suc (stores-length t at (frame_stored frame argument) others)

test-length : (tests : Bool) (point : Point) → length (if tests then point ∷ [] else []) ≡ (if tests then 1 else 0)
test-length true point = refl
test-length false point = refl

entry-length : (t : Setting) (at : ℕ) (frame : Frame) (callee : Scope) (unit : ℕ) → length (points_of_entry t at frame callee unit) ≡ points_before callee
entry-length t at frame callee unit =
    let stores = reverse (arguments callee unit) in
    let both = length-append (store_points t at frame stores) (test_points t at (frame_behind_stores frame stores) callee unit) in
    let tests = test-length (tests_receiver callee) (record { instr = NullTest unit; typed = frame_behind_stores frame stores; handlers = t.handlers at }) in
    omega (arith, both, stores-length t at frame stores, length-reverse (arguments callee unit), same-length callee unit, tests)

-- ---- a typed code has an instruction

some-code : (b : Body) (entry : Frame) (s : Scope) (instrs : List Placed) (frames : List Frame) → AreTyped b (Some entry) (map (point_of s) instrs) frames → 0 < length instrs
some-code b entry s [] [] none = absurd cc
some-code b entry s [] (frame ∷ frames) are = elim are [ ]
some-code b entry s (placed ∷ instrs) frames are = omega arith

pub has-code : (s : Scope) (frames : List Frame) → Typed s frames → 0 < length (instructions s)
has-code s frames typed = some-code (body_of s) (body_of s).entry s (instructions s) frames typed.instrs

-- ---- numbers

by-test : (here : Bool) (number later end : ℕ) → number < end → later < end → (if here then number else later) < end
by-test true number later end first others = first
by-test false number later end first others = others

module _ (classes : Classes) (typed : FolderFrames) (host : MethodAt) (each : (at : MethodAt) (s : Scope) (frames : List Frame) → HasFrames classes typed at s frames → IsTypedMethod s frames) where
  -- where there are instructions, there are points
  pub some-points : (chain : List MethodAt) (from : MethodAt) (instrs : List Placed) (expansion : Expansion) → Expands classes typed host chain from instrs expansion → (callee : Option Scope)
      → 0 < length instrs → 0 < points_of callee instrs expansion
  some-points _ _ _ _ (expands_none chain from) callee some = absurd (omega (arith, some))
  some-points _ _ _ _ (expands_stays chain from placed instrs more not none next) callee some = omega (arith, own_some callee placed.instr)
  some-points _ _ _ _ (expands_site chain from placed instrs class more is next) callee some = omega (arith, own_some callee placed.instr)
  some-points _ _ _ _ (expands_replaced chain from placed instrs g inner more is has within next) callee some =
      omega (arith, some-points (g.at ∷ chain) g.at (instructions g.scope) inner within (Some g.scope) (has-code g.scope g.frames (each g.at g.scope g.frames has).typed))

  pub callee-points : (chain : List MethodAt) (g : Coded) (inner : Expansion) → HasFrames classes typed g.at g.scope g.frames → Expands classes typed host (g.at ∷ chain) g.at (instructions g.scope) inner → 0 < points_of_callee g inner
  callee-points chain g inner has within =
      omega (arith, some-points (g.at ∷ chain) g.at (instructions g.scope) inner within (Some g.scope) (has-code g.scope g.frames (each g.at g.scope g.frames has).typed))

  -- the number of an offset at which an instruction stands
  pub number-inside : (s : Scope) (chain : List MethodAt) (from : MethodAt) (instrs : List Placed) (expansion : Expansion) → Expands classes typed host chain from instrs expansion → (callee : Option Scope) (number at : ℕ)
      → IsPlaceOf (map (point_of s) instrs) at → number_from callee number instrs expansion at < number + points_of callee instrs expansion
  number-inside s _ _ _ _ (expands_none chain from) callee number at is = elim is [ ]
  number-inside s _ _ _ _ (expands_stays chain from placed instrs more not none next) callee number at (inl here) = rw (eq-eqb placed.at at here) (omega (arith, own_some callee placed.instr))
  number-inside s _ _ _ _ (expands_stays chain from placed instrs more not none next) callee number at (inr behind) =
      let width = own_points callee placed.instr in
      by-test (placed.at == at) number (number_from callee (number + width) instrs more at) (number + (width + points_of callee instrs more)) (omega (arith, own_some callee placed.instr))
      (omega (arith, number-inside s chain from instrs more next callee (number + width) at behind))
  number-inside s _ _ _ _ (expands_site chain from placed instrs class more is next) callee number at (inl here) = rw (eq-eqb placed.at at here) (omega (arith, own_some callee placed.instr))
  number-inside s _ _ _ _ (expands_site chain from placed instrs class more is next) callee number at (inr behind) =
      let width = own_points callee placed.instr in
      by-test (placed.at == at) number (number_from callee (number + width) instrs more at) (number + (width + points_of callee instrs more)) (omega (arith, own_some callee placed.instr))
      (omega (arith, number-inside s chain from instrs more next callee (number + width) at behind))
  number-inside s _ _ _ _ (expands_replaced chain from placed instrs g inner more is has within next) callee number at (inl here) =
      rw (eq-eqb placed.at at here) (omega (arith, callee-points chain g inner has within))
  number-inside s _ _ _ _ (expands_replaced chain from placed instrs g inner more is has within next) callee number at (inr behind) =
      let width = points_of_callee g inner in
      by-test (placed.at == at) number (number_from callee (number + width) instrs more at) (number + (width + points_of callee instrs more)) (omega (arith, callee-points chain g inner has within))
      (omega (arith, number-inside s chain from instrs more next callee (number + width) at behind))

  -- ---- how many points there are

  pub points-length : (chain : List MethodAt) (from : MethodAt) (instrs : List Placed) (expansion : Expansion) → Expands classes typed host chain from instrs expansion
      → (t : Setting) (number unit : ℕ) (frames : List Frame) → length frames ≡ length instrs
      → length (points_from t number unit instrs frames expansion) ≡ points_of (callee_of t) instrs expansion
  points-length _ _ _ _ (expands_none chain from) t number unit [] long = refl
  points-length _ _ _ _ (expands_none chain from) t number unit (frame ∷ frames) long = absurd (omega (arith, long))
  points-length _ _ _ _ (expands_stays chain from placed instrs more not none next) t number unit [] long = absurd (omega (arith, long))
  points-length _ _ _ _ (expands_stays chain from placed instrs more not none next) t number unit (frame ∷ frames) long =
      let later = number + own_points (callee_of t) placed.instr in
      let both = length-append (instr_points t placed frame) (points_from t later unit instrs frames more) in
      omega (arith, both, own-length t placed frame, points-length chain from instrs more next t later unit frames (omega (arith, long)))
  points-length _ _ _ _ (expands_site chain from placed instrs class more is next) t number unit [] long = absurd (omega (arith, long))
  points-length _ _ _ _ (expands_site chain from placed instrs class more is next) t number unit (frame ∷ frames) long =
      let later = number + own_points (callee_of t) placed.instr in
      let both = length-append (instr_points t placed frame) (points_from t later unit instrs frames more) in
      omega (arith, both, own-length t placed frame, points-length chain from instrs more next t later unit frames (omega (arith, long)))
  points-length _ _ _ _ (expands_replaced chain from placed instrs g inner more is has within next) t number unit [] long = absurd (omega (arith, long))
  points-length _ _ _ _ (expands_replaced chain from placed instrs g inner more is has within next) t number unit (frame ∷ frames) long =
      let set = set_frame t frame in
      let units = g.scope.part.max_locals in
      let entry = points_of_entry t placed.at set g.scope unit in
      let own = points_from (callee_setting t placed.at set number unit g inner) (number + points_before g.scope) (unit + units) (instructions g.scope) g.frames inner in
      let others = points_from t (number + points_of_callee g inner) (unit + units + units_in inner) instrs frames more in
      omega (
        arith,
        length-append (entry ++ own) others,
        length-append entry own,
        entry-length t placed.at set g.scope unit,
        points-length (g.at ∷ chain) g.at (instructions g.scope) inner within (callee_setting t placed.at set number unit g inner) (number + points_before g.scope) (unit + units) g.frames (each g.at g.scope g.frames has).one_each,
        points-length chain from instrs more next t (number + points_of_callee g inner) (unit + units + units_in inner) frames (omega (arith, long)),
      )

  -- ---- sites

  -- the class of each is a candidate
  pub sites-are-candidates : (headers : Headers) (chain : List MethodAt) (from : MethodAt) (instrs : List Placed) (expansion : Expansion) → Expands classes typed host chain from instrs expansion → (callee : Option Scope) (number : ℕ)
      → AllByRecursion (λ (s : Site). IsCandidate classes s.class) (sites_from headers callee number instrs expansion)
  sites-are-candidates headers _ _ _ _ (expands_none chain from) callee number = tt
  sites-are-candidates headers _ _ _ _ (expands_stays chain from placed instrs more not none next) callee number =
      sites-are-candidates headers chain from instrs more next callee (number + own_points callee placed.instr)
  sites-are-candidates headers _ _ _ _ (expands_site chain from placed instrs class more is next) callee number =
      (is.candidate, sites-are-candidates headers chain from instrs more next callee (number + own_points callee placed.instr))
  sites-are-candidates headers _ _ _ _ (expands_replaced chain from placed instrs g inner more is has within next) callee number =
      all-append (λ (s : Site). IsCandidate classes s.class) _ _
      (sites-are-candidates headers (g.at ∷ chain) g.at (instructions g.scope) inner within (Some g.scope) (number + points_before g.scope))
      (sites-are-candidates headers chain from instrs more next callee (number + points_of_callee g inner))

-- each stands at a point
pub sites-inside : (headers : Headers) (callee : Option Scope) (number : ℕ) (instrs : List Placed) (expansion : Expansion) (end : ℕ) → number + points_of callee instrs expansion ≤ end
    → AllByRecursion (λ (s : Site). NamesPoint end s.at) (sites_from headers callee number instrs expansion)
sites-inside headers callee number [] no_more end fits = tt
sites-inside headers callee number [] (stays more) end fits = tt
sites-inside headers callee number [] (site class more) end fits = tt
sites-inside headers callee number [] (replaced g inner more) end fits = tt
sites-inside headers callee number (placed ∷ instrs) no_more end fits = tt
sites-inside headers callee number (placed ∷ instrs) (stays more) end fits = sites-inside headers callee (number + own_points callee placed.instr) instrs more end (omega (arith, fits))
sites-inside headers callee number (placed ∷ instrs) (site class more) end fits =
    (omega (arith, fits, own_some callee placed.instr), sites-inside headers callee (number + own_points callee placed.instr) instrs more end (omega (arith, fits)))
sites-inside headers callee number (placed ∷ instrs) (replaced g inner more) end fits =
    all-append (λ (s : Site). NamesPoint end s.at) _ _
    (sites-inside headers (Some g.scope) (number + points_before g.scope) (instructions g.scope) inner end (omega (arith, fits)))
    (sites-inside headers callee (number + points_of_callee g inner) instrs more end (omega (arith, fits)))
