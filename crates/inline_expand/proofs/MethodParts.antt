-- The points of a method, one instruction after the other.
use Rattle.std.proofs.Common.{◌≡◌, ◌⊎◌, ◌+◌, ◌<◌, ◌≤◌, ℕ, List, [], ◌∷◌, ◌++◌, drop, get_or, length, slice_get, inl, inr, Option, Some, None, option_map, refl, sym, ap, subst, ◌∙◌, arith, append-nil, append_assoc}
use Rattle.std.proofs.lemmas.List.{drop-drop, drop_all, get_or-drop}
use Rattle.class_model.specs.declared.descriptor.Kind.{Kind}
use Rattle.class_model.specs.declared.frame.Frame.{Frame}
use Rattle.class_model.specs.declared.instr.Instr.{Instr}
use Rattle.class_model.specs.declared.instr.Instr.TheVariants.{Return}
use Rattle.class_model.specs.declared.instr.Placed.{Placed}
use Rattle.expanded_code.specs.Expanded.{Setting, callee_of, callee_setting, instr_points, own_points, points_before, points_from, points_of, points_of_callee, points_of_entry, return_points, set_frame, units_in}
use Rattle.expanded_code.specs.Expansions.{Expansion, no_more, replaced, site, stays}
use Rattle.flow_code.specs.declared.point.Point.{Point}
use Rattle.inline_expand.proofs.LayoutParts.{next-start, next-units, units_by}
use Rattle.inline_expand.proofs.Overlays.{le-cases}
use Rattle.inline_expand.specs.Inner.CalleePlaces.{StandsFrom, callee_in, callee_points, method_of}
use Rattle.inline_expand.specs.Inner.Layouts.{points_by, replacing, starts_from, step_points, units_of_callee}
use Rattle.inline_expand.specs.Inner.Settings.{own_point, setting_of}
use Rattle.inline_expand.specs.Inner.Steps.{Callee, callees_of, expansion_by, replaced_by}
use Rattle.inline_expand.specs.declared.expanded.places.Found.{Found}
use Rattle.inline_expand.specs.declared.expanded.settings.Call.{Call}
use Rattle.inline_expand.specs.declared.expanded.settings.Setting.{Setting as Placing}
use Rattle.inline_expand.specs.declared.expansions.Body.{Body}
use Rattle.inline_expand.specs.declared.expansions.Step.{Step}
use Rattle.inline_expand.specs.declared.expansions.Step.TheVariants.{Replaced, Site, Stays}
use Rattle.member_link.specs.Scope.{Scope, instructions}

-- ---- an instruction that stays

pub own-return : (s : Placing) (placed : Placed) (frame : Frame) (call : Call) (kind : Option Kind) → s.call ≡ Some call → placed.instr ≡ Return kind
    → instr_points (setting_of s) placed frame ≡ return_points (setting_of s) placed.at (set_frame (setting_of s) frame) call.behind
own-return s placed frame call kind is instr = rw (is, instr) refl

no-return : (t : Setting) (placed : Placed) (frame : Frame) (behind : ℕ) → t.behind ≡ Some behind → ((kind : Option Kind) → placed.instr ≡ Return kind → ⊥) → instr_points t placed frame ≡ own_point t placed (set_frame t frame)
no-return t placed frame behind is other = of-instr placed.instr refl where
  of-instr : (instr : Instr) → placed.instr ≡ instr → instr_points t placed frame ≡ own_point t placed (set_frame t frame)
  of-instr (Return kind) same = absurd (other kind same)
  of-instr instr same = rw (is, same) refl

pub own-host : (s : Placing) (placed : Placed) (frame : Frame) → s.call ≡ None → instr_points (setting_of s) placed frame ≡ own_point (setting_of s) placed (set_frame (setting_of s) frame)
own-host s placed frame is = rw is refl

pub own-callee : (s : Placing) (placed : Placed) (frame : Frame) (call : Call) → s.call ≡ Some call → ((kind : Option Kind) → placed.instr ≡ Return kind → ⊥)
    → instr_points (setting_of s) placed frame ≡ own_point (setting_of s) placed (set_frame (setting_of s) frame)
own-callee s placed frame call is other = no-return (setting_of s) placed frame call.behind (ap (option_map (λ (c : Call). c.behind)) is) other

pub method-same : (s : Placing) → callee_of (setting_of s) ≡ method_of s
method-same s = of-call s.call refl where
  of-call : (call : Option Call) → s.call ≡ call → callee_of (setting_of s) ≡ method_of s
  of-call None is = rw is refl
  of-call (Some call) is = rw is refl

-- ---- from one instruction to the next

module _ (t : Setting) (callees : List Callee) (number unit : ℕ) (placed : Placed) (instrs : List Placed) (frame : Frame) (frames : List Frame) (steps : List Step) where
  abbrev rest : ℕ → ℕ → List Point
  rest next units = points_from t next units instrs frames (expansion_by callees steps)

  abbrev replaced-points : Callee → List Point
  replaced-points callee = callee_points t placed.at (set_frame t frame) number unit callee

  pub own-next : (step : Step) → replacing callees step ≡ None
      → points_from t number unit (placed ∷ instrs) (frame ∷ frames) (expansion_by callees (step ∷ steps)) ≡ instr_points t placed frame ++ rest (number + own_points (callee_of t) placed.instr) unit
  own-next Stays none = refl
  own-next (Site class) none = refl
  own-next (Replaced k) none = ap (λ (found : Option Callee). points_from t number unit (placed ∷ instrs) (frame ∷ frames) (replaced_by found (expansion_by callees steps))) none

  pub callee-next : (step : Step) (callee : Callee) → replacing callees step ≡ Some callee
      → points_from t number unit (placed ∷ instrs) (frame ∷ frames) (expansion_by callees (step ∷ steps))
      ≡ replaced-points callee ++ rest (number + points_of_callee callee.coded callee.inner) (unit + callee.coded.scope.part.max_locals + units_in callee.inner)
  callee-next Stays callee some = absurd cc
  callee-next (Site class) callee some = absurd cc
  callee-next (Replaced k) callee some = ap (λ (found : Option Callee). points_from t number unit (placed ∷ instrs) (frame ∷ frames) (replaced_by found (expansion_by callees steps))) some

-- how many points there are
next-points-by : (method : Option Scope) (placed : Placed) (instrs : List Placed) (found : Option Callee) (more : Expansion)
    → points_of method (placed ∷ instrs) (replaced_by found more) ≡ points_by method placed.instr found + points_of method instrs more
next-points-by method placed instrs None more = refl
next-points-by method placed instrs (Some callee) more = refl

pub next-points : (callees : List Callee) (method : Option Scope) (placed : Placed) (instrs : List Placed) (step : Step) (steps : List Step)
    → points_of method (placed ∷ instrs) (expansion_by callees (step ∷ steps)) ≡ step_points callees method placed.instr step + points_of method instrs (expansion_by callees steps)
next-points callees method placed instrs Stays steps = refl
next-points callees method placed instrs (Site class) steps = refl
next-points callees method placed instrs (Replaced k) steps = next-points-by method placed instrs (slice_get callees k) (expansion_by callees steps)

-- ---- numbers

first-start : (method : Option Scope) (number : ℕ) (instrs : List Placed) (expansion : Expansion) → get_or (starts_from method number instrs expansion) 0 0 ≡ number
first-start method number [] expansion = refl
first-start method number (placed ∷ instrs) no_more = refl
first-start method number (placed ∷ instrs) (stays more) = refl
first-start method number (placed ∷ instrs) (site class more) = refl
first-start method number (placed ∷ instrs) (replaced g inner more) = refl

-- the numbers from an instruction on
pub record NumbersFrom (callees : List Callee) (method : Option Scope) (starts : List ℕ) (at : ℕ) (instrs : List Placed) (steps : List Step) : Type 0 where
  pub are : drop at starts ≡ starts_from method (get_or starts at 0) instrs (expansion_by callees steps)

pub numbers-first : (callees : List Callee) (method : Option Scope) (starts : List ℕ) (instrs : List Placed) (steps : List Step) → starts ≡ starts_from method 0 instrs (expansion_by callees steps)
    → (get_or starts 0 0 ≡ 0) × NumbersFrom callees method starts 0 instrs steps
numbers-first callees method starts instrs steps is =
    let zero_is : get_or starts 0 0 ≡ 0 = ap (λ (all : List ℕ). get_or all 0 0) is ∙ first-start method 0 instrs (expansion_by callees steps) in
    (zero_is, record { are = is ∙ ap (λ (n : ℕ). starts_from method n instrs (expansion_by callees steps)) (sym zero_is) })

pub numbers-next : (callees : List Callee) (method : Option Scope) (starts : List ℕ) (at : ℕ) (placed : Placed) (instrs : List Placed) (step : Step) (steps : List Step)
    → NumbersFrom callees method starts at (placed ∷ instrs) (step ∷ steps)
    → (get_or starts (at + 1) 0 ≡ get_or starts at 0 + step_points callees method placed.instr step) × NumbersFrom callees method starts (at + 1) instrs steps
numbers-next callees method starts at placed instrs step steps from =
    let number = get_or starts at 0 in
    let next = number + step_points callees method placed.instr step in
    let cut : drop at starts ≡ number ∷ starts_from method next instrs (expansion_by callees steps) = from.are ∙ next-start callees method number placed instrs step steps in
    let later : drop (at + 1) starts ≡ starts_from method next instrs (expansion_by callees steps) = sym (drop-drop 1 at starts) ∙ ap (drop 1) cut in
    let none : at + 1 + 0 ≡ at + 1 = omega arith in
    let next_is : get_or starts (at + 1) 0 ≡ next =
    ap (λ (n : ℕ). get_or starts n 0) (sym none) ∙ sym (get_or-drop (at + 1) starts 0 0) ∙ ap (λ (all : List ℕ). get_or all 0 0) later ∙ first-start method next instrs (expansion_by callees steps) in
    (next_is, record { are = later ∙ ap (λ (n : ℕ). starts_from method n instrs (expansion_by callees steps)) (sym next_is) })

-- there is a number for each instruction
pub number-there : (callees : List Callee) (method : Option Scope) (starts : List ℕ) (at : ℕ) (instrs : List Placed) (steps : List Step) → NumbersFrom callees method starts at instrs steps → at < length starts
number-there callees method starts at instrs steps from = of-order (le-cases (length starts) at) where
  some : (number : ℕ) (instrs : List Placed) (expansion : Expansion) → 0 < length (starts_from method number instrs expansion)
  some number [] expansion = omega arith
  some number (placed ∷ instrs) no_more = omega arith
  some number (placed ∷ instrs) (stays more) = omega arith
  some number (placed ∷ instrs) (site class more) = omega arith
  some number (placed ∷ instrs) (replaced g inner more) = omega arith

  of-order : (length starts ≤ at) ⊎ (at < length starts) → at < length starts
  of-order (inr less) = less
  of-order (inl behind) =
      let none = ap (λ (all : List ℕ). length all) (sym from.are ∙ drop_all at starts behind) in
      absurd (omega (arith, none, some (get_or starts at 0) instrs (expansion_by callees steps)))

-- ---- what is done

no-points : (t : Setting) (number unit : ℕ) (frames : List Frame) (expansion : Expansion) → points_from t number unit [] frames expansion ≡ []
no-points t number unit frames no_more = refl
no-points t number unit frames (stays more) = refl
no-points t number unit frames (site class more) = refl
no-points t number unit frames (replaced g inner more) = refl

-- The points of the instructions before one are done, and what is left makes the whole of these points.
pub record HasDone (s : Placing) (callees : List Callee) (instrs : List Placed) (frames : List Frame) (steps : List Step) (whole : List Point) (at unit : ℕ) (done : List Point) : Type 0 where
  pub numbers : NumbersFrom callees (method_of s) s.starts.now at (drop at instrs) (drop at steps)
  pub points : done ++ points_from (setting_of s) (s.base + get_or s.starts.now at 0) unit (drop at instrs) (drop at frames) (expansion_by callees (drop at steps)) ≡ whole
  pub total : s.base + get_or s.starts.now at 0 + points_of (method_of s) (drop at instrs) (expansion_by callees (drop at steps)) ≤ 65535
  pub fits : unit + units_in (expansion_by callees (drop at steps)) ≤ 65535

module _ (s : Placing) (callees : List Callee) (instrs : List Placed) (frames : List Frame) (steps : List Step) where
  pub done-first : (done : List Point) (unit : ℕ)
      → s.starts.now ≡ starts_from (method_of s) 0 instrs (expansion_by callees steps)
      → s.base + points_of (method_of s) instrs (expansion_by callees steps) ≤ 65535
      → unit + units_in (expansion_by callees steps) ≤ 65535
      → HasDone s callees instrs frames steps (done ++ points_from (setting_of s) s.base unit instrs frames (expansion_by callees steps)) 0 unit done
  done-first done unit starts few fits =
      let first = numbers-first callees (method_of s) s.starts.now instrs steps starts in
      let base : s.base + get_or s.starts.now 0 0 ≡ s.base = omega (arith, first.0) in
      record {
        numbers = first.1;
        points = ap (λ (n : ℕ). done ++ points_from (setting_of s) n unit instrs frames (expansion_by callees steps)) base;
        total = omega (arith, base, few);
        fits = fits;
      }

  module _ (whole : List Point) (at unit : ℕ) (done : List Point) (has : HasDone s callees instrs frames steps whole at unit done)
      (placed : Placed) (frame : Frame) (step : Step)
      (instrs_are : drop at instrs ≡ placed ∷ drop (at + 1) instrs) (frames_are : drop at frames ≡ frame ∷ drop (at + 1) frames) (steps_are : drop at steps ≡ step ∷ drop (at + 1) steps) where
    abbrev t : Setting
    t = setting_of s

    abbrev number : ℕ
    number = s.base + get_or s.starts.now at 0

    abbrev width : ℕ
    width = step_points callees (method_of s) placed.instr step

    next-numbers : (get_or s.starts.now (at + 1) 0 ≡ get_or s.starts.now at 0 + width) × NumbersFrom callees (method_of s) s.starts.now (at + 1) (drop (at + 1) instrs) (drop (at + 1) steps)
    next-numbers =
        numbers-next callees (method_of s) s.starts.now at placed (drop (at + 1) instrs) step (drop (at + 1) steps)
        (subst (λ (all : List Step). NumbersFrom callees (method_of s) s.starts.now at (placed ∷ drop (at + 1) instrs) all) steps_are
        (subst (λ (all : List Placed). NumbersFrom callees (method_of s) s.starts.now at all (drop at steps)) instrs_are has.numbers))

    total-now : number + (width + points_of (method_of s) (drop (at + 1) instrs) (expansion_by callees (drop (at + 1) steps))) ≤ 65535
    total-now =
        let own = ap (λ (all : List Placed). points_of (method_of s) all (expansion_by callees (drop at steps))) instrs_are
        ∙ ap (λ (all : List Step). points_of (method_of s) (placed ∷ drop (at + 1) instrs) (expansion_by callees all)) steps_are
        ∙ next-points callees (method_of s) placed (drop (at + 1) instrs) step (drop (at + 1) steps) in
        omega (arith, own, has.total)

    units-now : unit + (units_by (replacing callees step) + units_in (expansion_by callees (drop (at + 1) steps))) ≤ 65535
    units-now =
        let own = ap (λ (all : List Step). units_in (expansion_by callees all)) steps_are ∙ next-units callees step (drop (at + 1) steps) in
        omega (arith, own, has.fits)

    points-now : done ++ points_from t number unit (placed ∷ drop (at + 1) instrs) (frame ∷ drop (at + 1) frames) (expansion_by callees (step ∷ drop (at + 1) steps)) ≡ whole
    points-now =
        ap (λ (all : List Placed). done ++ points_from t number unit all (frame ∷ drop (at + 1) frames) (expansion_by callees (step ∷ drop (at + 1) steps))) (sym instrs_are)
        ∙ ap (λ (all : List Frame). done ++ points_from t number unit (drop at instrs) all (expansion_by callees (step ∷ drop (at + 1) steps))) (sym frames_are)
        ∙ ap (λ (all : List Step). done ++ points_from t number unit (drop at instrs) (drop at frames) (expansion_by callees all)) (sym steps_are)
        ∙ has.points

    abbrev left : ℕ → ℕ → List Point
    left next units = points_from t next units (drop (at + 1) instrs) (drop (at + 1) frames) (expansion_by callees (drop (at + 1) steps))

    pub done-own : (more : List Point) → replacing callees step ≡ None → more ≡ done ++ instr_points t placed frame → HasDone s callees instrs frames steps whole (at + 1) unit more
    done-own more none more_is =
        let next = next-numbers in
        let own : own_points (callee_of t) placed.instr ≡ width = ap (λ (method : Option Scope). own_points method placed.instr) (method-same s) ∙ ap (points_by (method_of s) placed.instr) (sym none) in
        let number_is : number + own_points (callee_of t) placed.instr ≡ s.base + get_or s.starts.now (at + 1) 0 = omega (arith, own, next.0) in
        record {
          numbers = next.1;
          points =
              ap (λ (some : List Point). some ++ left (s.base + get_or s.starts.now (at + 1) 0) unit) more_is
              ∙ append_assoc done (instr_points t placed frame) (left (s.base + get_or s.starts.now (at + 1) 0) unit)
              ∙ ap (λ (n : ℕ). done ++ (instr_points t placed frame ++ left n unit)) (sym number_is)
              ∙ ap (λ (some : List Point). done ++ some) (sym (own-next t callees number unit placed (drop (at + 1) instrs) frame (drop (at + 1) frames) (drop (at + 1) steps) step none))
              ∙ points-now;
          total = omega (arith, next.0, total-now);
          fits = omega (arith, units-now);
        }

    pub done-callee : (callee : Callee) (more : List Point) (units : ℕ) → replacing callees step ≡ Some callee → units ≡ unit + units_of_callee callee
        → more ≡ done ++ replaced-points t callees number unit placed (drop (at + 1) instrs) frame (drop (at + 1) frames) (drop (at + 1) steps) callee
        → HasDone s callees instrs frames steps whole (at + 1) units more
    done-callee callee more units some units_is more_is =
        let next = next-numbers in
        let own : points_of_callee callee.coded callee.inner ≡ width = ap (points_by (method_of s) placed.instr) (sym some) in
        let number_is : number + points_of_callee callee.coded callee.inner ≡ s.base + get_or s.starts.now (at + 1) 0 = omega (arith, own, next.0) in
        let unit_is : unit + callee.coded.scope.part.max_locals + units_in callee.inner ≡ units = omega (arith, units_is) in
        let added = replaced-points t callees number unit placed (drop (at + 1) instrs) frame (drop (at + 1) frames) (drop (at + 1) steps) callee in
        record {
          numbers = next.1;
          points =
              ap (λ (points : List Point). points ++ left (s.base + get_or s.starts.now (at + 1) 0) units) more_is
              ∙ append_assoc done added (left (s.base + get_or s.starts.now (at + 1) 0) units)
              ∙ ap (λ (n : ℕ). done ++ (added ++ left n units)) (sym number_is)
              ∙ ap (λ (n : ℕ). done ++ (added ++ left (number + points_of_callee callee.coded callee.inner) n)) (sym unit_is)
              ∙ ap (λ (points : List Point). done ++ points) (sym (callee-next t callees number unit placed (drop (at + 1) instrs) frame (drop (at + 1) frames) (drop (at + 1) steps) step callee some))
              ∙ points-now;
          total = omega (arith, next.0, total-now);
          fits = omega (arith, units_is, ap units_by some, units-now);
        }

    -- what the callee of the step has room for
    pub room-points : (callee : Callee) → replacing callees step ≡ Some callee → number + points_of_callee callee.coded callee.inner ≤ 65535
    room-points callee some = omega (arith, ap (points_by (method_of s) placed.instr) some, total-now)

    pub room-units : (callee : Callee) → replacing callees step ≡ Some callee → unit + units_of_callee callee ≤ 65535
    room-units callee some = omega (arith, ap units_by some, units-now)

  -- all is done
  pub done-all : (whole : List Point) (at unit : ℕ) (done : List Point) → HasDone s callees instrs frames steps whole at unit done → length instrs ≤ at → done ≡ whole
  done-all whole at unit done has behind =
      sym (append-nil done)
      ∙ ap (λ (points : List Point). done ++ points) (sym (no-points (setting_of s) (s.base + get_or s.starts.now at 0) unit (drop at frames) (expansion_by callees (drop at steps))))
      ∙ ap (λ (all : List Placed). done ++ points_from (setting_of s) (s.base + get_or s.starts.now at 0) unit all (drop at frames) (expansion_by callees (drop at steps))) (sym (drop_all at instrs behind))
      ∙ has.points

-- ---- a callee's points

pub callee-done : (found : Found) (start unit : ℕ) (place : Placing) (t : Setting) (at : ℕ) (entry : Frame) (before after pushed : List Point)
    → StandsFrom found start unit place
    → setting_of place ≡ callee_setting t at entry start unit (callee_in found).coded (callee_in found).inner
    → after ≡ before ++ points_of_entry t at entry found.body.now.host unit
    → pushed
    ≡ after
    ++ points_from (setting_of place) place.base (place.unit + place.body.now.host.part.max_locals) (instructions place.body.now.host) place.body.now.frames.now
    (expansion_by (callees_of found.bodies.now) place.body.now.steps)
    → pushed ≡ before ++ callee_points t at entry start unit (callee_in found)
callee-done found start unit place t at entry before after pushed stands setting entered all =
    let callees = callees_of found.bodies.now in
    let body = found.body.now in
    let points = λ (own : Setting) (number units : ℕ) (b : Body). points_from own number (units + b.host.part.max_locals) (instructions b.host) b.frames.now (expansion_by callees b.steps) in
    all
    ∙ ap (λ (some : List Point). some ++ points (setting_of place) place.base place.unit place.body.now) entered
    ∙ append_assoc before (points_of_entry t at entry body.host unit) (points (setting_of place) place.base place.unit place.body.now)
    ∙ ap (λ (b : Body). before ++ (points_of_entry t at entry body.host unit ++ points (setting_of place) place.base place.unit b)) stands.body
    ∙ ap (λ (n : ℕ). before ++ (points_of_entry t at entry body.host unit ++ points (setting_of place) n place.unit body)) stands.base
    ∙ ap (λ (n : ℕ). before ++ (points_of_entry t at entry body.host unit ++ points (setting_of place) (start + points_before body.host) n body)) stands.unit_is
    ∙ ap (λ (own : Setting). before ++ (points_of_entry t at entry body.host unit ++ points own (start + points_before body.host) unit body)) setting
