-- The numbers of points and of local units, counted one after the other.
use Rattle.std.proofs.Common.{◌≡◌, ◌+◌, ◌≤◌, ℕ, zero, suc, List, [], ◌∷◌, ◌++◌, get_or, length, map, slice_get, Option, Some, None, refl, sym, ap, ◌∙◌, arith, append_assoc}
use Rattle.class_model.specs.declared.instr.Instr.{Instr}
use Rattle.class_model.specs.declared.instr.Placed.{Placed}
use Rattle.expanded_code.specs.Expanded.{own_points, points_before, points_of, points_of_callee, units_in}
use Rattle.expanded_code.specs.Expansions.{Expansion, no_more, replaced, site, stays}
use Rattle.inline_expand.specs.Inner.Layouts.{AreLayouts, IsLayout, IsShape, capped, points_by, replacing, starts_from, step_points, units_of_callee}
use Rattle.inline_expand.specs.Inner.Steps.{Callee, callee_by, callees_behind, expansion_by, replaced_by}
use Rattle.inline_expand.specs.declared.expanded.layouts.Layout.{Layout}
use Rattle.inline_expand.specs.declared.expansions.Body.{Body}
use Rattle.inline_expand.specs.declared.expansions.Step.{Step}
use Rattle.inline_expand.specs.declared.expansions.Step.TheVariants.{Replaced, Site, Stays}
use Rattle.member_link.specs.Scope.{Scope, instructions}

-- ---- counts that are capped

pub capped-sum : (a b : ℕ) → capped (capped a + capped b) ≡ capped (a + b)
capped-sum a b = omega arith

pub capped-left : (a b : ℕ) → capped (capped a + b) ≡ capped (a + b)
capped-left a b = omega arith

pub capped-same : (a b c : ℕ) → capped a ≡ capped b → capped (a + c) ≡ capped (b + c)
capped-same a b c same = omega arith

pub capped-few : (a : ℕ) → a ≤ 65535 → capped a ≡ a
capped-few a few = omega arith

-- ---- layouts of callees

-- what is known of the callee of a step
abbrev pub HasLayout : Option Callee → Option Layout → Type 0
HasLayout None None = Unit {0}
HasLayout (Some callee) (Some layout) = IsLayout callee layout
HasLayout callee layout = ⊥

layout-at : (callees : List Callee) (layouts : List Layout) (number : ℕ) → AreLayouts callees layouts → HasLayout (slice_get callees number) (slice_get layouts number)
layout-at [] [] number are = tt
layout-at [] (layout ∷ layouts) number are = elim are [ ]
layout-at (callee ∷ callees) [] number are = elim are [ ]
layout-at (callee ∷ callees) (layout ∷ layouts) zero are = are.0
layout-at (callee ∷ callees) (layout ∷ layouts) (suc number) are = layout-at callees layouts number are.1

pub has-layout : (callees : List Callee) (layouts : List Layout) (step : Step) → AreLayouts callees layouts → HasLayout (replacing callees step) (replacing layouts step)
has-layout callees layouts Stays are = tt
has-layout callees layouts (Site class) are = tt
has-layout callees layouts (Replaced number) are = layout-at callees layouts number are

-- those of a callee, if there is one
abbrev pub units_by : Option Callee → ℕ
units_by None = 0
units_by (Some callee) = units_of_callee callee

pub layout-points : (found : Option Callee) (layout : Layout) (method : Option Scope) (instr : Instr) → HasLayout found (Some layout) → layout.points ≡ capped (points_by method instr found)
layout-points None layout method instr has = elim has [ ]
layout-points (Some callee) layout method instr has = has.points

pub no-points : (found : Option Callee) (method : Option Scope) (instr : Instr) → HasLayout found None → points_by method instr found ≡ own_points method instr
no-points None method instr has = refl
no-points (Some callee) method instr has = elim has [ ]

pub layout-units : (found : Option Callee) (layout : Layout) → HasLayout found (Some layout) → layout.units ≡ capped (units_by found)
layout-units None layout has = elim has [ ]
layout-units (Some callee) layout has = has.units

pub no-units : (found : Option Callee) → HasLayout found None → units_by found ≡ 0
no-units None has = refl
no-units (Some callee) has = elim has [ ]

-- ---- numbers

-- from one number to the next
next-replaced : (method : Option Scope) (number : ℕ) (placed : Placed) (instrs : List Placed) (found : Option Callee) (more : Expansion)
    → starts_from method number (placed ∷ instrs) (replaced_by found more) ≡ number ∷ starts_from method (number + points_by method placed.instr found) instrs more
next-replaced method number placed instrs None more = refl
next-replaced method number placed instrs (Some callee) more = refl

pub next-start : (callees : List Callee) (method : Option Scope) (number : ℕ) (placed : Placed) (instrs : List Placed) (step : Step) (steps : List Step)
    → starts_from method number (placed ∷ instrs) (expansion_by callees (step ∷ steps)) ≡ number ∷ starts_from method (number + step_points callees method placed.instr step) instrs (expansion_by callees steps)
next-start callees method number placed instrs Stays steps = refl
next-start callees method number placed instrs (Site class) steps = refl
next-start callees method number placed instrs (Replaced k) steps = next-replaced method number placed instrs (slice_get callees k) (expansion_by callees steps)

pub capped-starts : (method : Option Scope) (instrs : List Placed) (expansion : Expansion) (m n : ℕ) → capped m ≡ capped n → map capped (starts_from method m instrs expansion) ≡ map capped (starts_from method n instrs expansion)
capped-starts method [] no_more m n same = ap (λ (k : ℕ). k ∷ []) same
capped-starts method [] (stays more) m n same = ap (λ (k : ℕ). k ∷ []) same
capped-starts method [] (site class more) m n same = ap (λ (k : ℕ). k ∷ []) same
capped-starts method [] (replaced g inner more) m n same = ap (λ (k : ℕ). k ∷ []) same
capped-starts method (placed ∷ instrs) no_more m n same = ap (λ (k : ℕ). k ∷ []) same
capped-starts method (placed ∷ instrs) (stays more) m n same =
    let rest = capped-starts method instrs more (m + own_points method placed.instr) (n + own_points method placed.instr) (capped-same m n (own_points method placed.instr) same) in
    λ i. same i ∷ rest i
capped-starts method (placed ∷ instrs) (site class more) m n same =
    let rest = capped-starts method instrs more (m + own_points method placed.instr) (n + own_points method placed.instr) (capped-same m n (own_points method placed.instr) same) in
    λ i. same i ∷ rest i
capped-starts method (placed ∷ instrs) (replaced g inner more) m n same =
    let rest = capped-starts method instrs more (m + points_of_callee g inner) (n + points_of_callee g inner) (capped-same m n (points_of_callee g inner) same) in
    λ i. same i ∷ rest i

-- one number more
pub starts-more : (callees : List Callee) (method : Option Scope) (done : List ℕ) (number next width : ℕ) (placed : Placed) (instrs : List Placed) (step : Step) (steps : List Step) (whole : List ℕ)
    → number ≤ 65535
    → next ≡ capped (number + width)
    → width ≡ capped (step_points callees method placed.instr step)
    → done ++ map capped (starts_from method number (placed ∷ instrs) (expansion_by callees (step ∷ steps))) ≡ whole
    → (done ++ number ∷ []) ++ map capped (starts_from method next instrs (expansion_by callees steps)) ≡ whole
starts-more callees method done number next width placed instrs step steps whole few next_is width_is before =
    let points = step_points callees method placed.instr step in
    let same : capped next ≡ capped (number + points) = omega (arith, next_is, width_is) in
    let rest = capped-starts method instrs (expansion_by callees steps) next (number + points) same in
    append_assoc done (number ∷ []) (map capped (starts_from method next instrs (expansion_by callees steps)))
    ∙ ap (λ (more : List ℕ). done ++ number ∷ more) rest
    ∙ ap (λ (first : ℕ). done ++ first ∷ map capped (starts_from method (number + points) instrs (expansion_by callees steps))) (sym (capped-few number few))
    ∙ ap (λ (all : List ℕ). done ++ map capped all) (sym (next-start callees method number placed instrs step steps))
    ∙ before

-- ---- how many there are

-- what becomes of as many instructions
abbrev pub IsAsLong : List Placed → Expansion → Type 0
IsAsLong [] no_more = Unit {0}
IsAsLong (placed ∷ instrs) (stays more) = IsAsLong instrs more
IsAsLong (placed ∷ instrs) (site class more) = IsAsLong instrs more
IsAsLong (placed ∷ instrs) (replaced g inner more) = IsAsLong instrs more
IsAsLong instrs expansion = ⊥

long-replaced : (placed : Placed) (instrs : List Placed) (found : Option Callee) (more : Expansion) → IsAsLong instrs more → IsAsLong (placed ∷ instrs) (replaced_by found more)
long-replaced placed instrs None more long = long
long-replaced placed instrs (Some callee) more long = long

pub as-long : (callees : List Callee) (instrs : List Placed) (steps : List Step) → length steps ≡ length instrs → IsAsLong instrs (expansion_by callees steps)
as-long callees [] [] same = tt
as-long callees [] (step ∷ steps) same = absurd cc
as-long callees (placed ∷ instrs) [] same = absurd cc
as-long callees (placed ∷ instrs) (Stays ∷ steps) same = as-long callees instrs steps (omega arith)
as-long callees (placed ∷ instrs) (Site class ∷ steps) same = as-long callees instrs steps (omega arith)
as-long callees (placed ∷ instrs) (Replaced k ∷ steps) same = long-replaced placed instrs (slice_get callees k) (expansion_by callees steps) (as-long callees instrs steps (omega arith))

-- the last number is that of what is behind them all
pub last-start : (method : Option Scope) (number : ℕ) (instrs : List Placed) (expansion : Expansion) → IsAsLong instrs expansion
    → get_or (starts_from method number instrs expansion) (length instrs) 0 ≡ number + points_of method instrs expansion
last-start method number [] no_more long = omega arith
last-start method number [] (stays more) long = elim long [ ]
last-start method number [] (site class more) long = elim long [ ]
last-start method number [] (replaced g inner more) long = elim long [ ]
last-start method number (placed ∷ instrs) no_more long = elim long [ ]
last-start method number (placed ∷ instrs) (stays more) long = last-start method (number + own_points method placed.instr) instrs more long ∙ omega arith
last-start method number (placed ∷ instrs) (site class more) long = last-start method (number + own_points method placed.instr) instrs more long ∙ omega arith
last-start method number (placed ∷ instrs) (replaced g inner more) long = last-start method (number + points_of_callee g inner) instrs more long ∙ omega arith

pub capped-item : (items : List ℕ) (at : ℕ) → get_or (map capped items) at 0 ≡ capped (get_or items at 0)
capped-item [] at = refl
capped-item (item ∷ items) zero = refl
capped-item (item ∷ items) (suc at) = capped-item items at

-- ---- local units

next-units-by : (found : Option Callee) (more : Expansion) → units_in (replaced_by found more) ≡ units_by found + units_in more
next-units-by None more = omega arith
next-units-by (Some callee) more = omega arith

pub next-units : (callees : List Callee) (step : Step) (steps : List Step) → units_in (expansion_by callees (step ∷ steps)) ≡ units_by (replacing callees step) + units_in (expansion_by callees steps)
next-units callees Stays steps = omega arith
next-units callees (Site class) steps = omega arith
next-units callees (Replaced k) steps = next-units-by (slice_get callees k) (expansion_by callees steps)

pub units-more : (callees : List Callee) (units next width : ℕ) (step : Step) (steps : List Step) (whole : ℕ)
    → next ≡ capped (units + width)
    → width ≡ capped (units_by (replacing callees step))
    → capped (units + units_in (expansion_by callees (step ∷ steps))) ≡ capped whole
    → capped (next + units_in (expansion_by callees steps)) ≡ capped whole
units-more callees units next width step steps whole next_is width_is before =
    let own = next-units callees step steps in
    omega (arith, next_is, width_is, before, own)

-- ---- layouts one after the other

pub layouts-more : (callees : List Callee) (layouts : List Layout) (callee : Callee) (layout : Layout) → AreLayouts callees layouts → IsLayout callee layout → AreLayouts (callees ++ callee ∷ []) (layouts ++ layout ∷ [])
layouts-more [] [] callee layout are is = (is, tt)
layouts-more [] (first ∷ layouts) callee layout are is = elim are [ ]
layouts-more (own ∷ callees) [] callee layout are is = elim are [ ]
layouts-more (own ∷ callees) (first ∷ layouts) callee layout are is = (are.0, layouts-more callees layouts callee layout are.1 is)

pub behind-more : (callees : List Callee) (bodies : List Body) (body : Body) → callees_behind callees (bodies ++ body ∷ []) ≡ callees_behind callees bodies ++ callee_by (callees_behind callees bodies) body ∷ []
behind-more callees [] body = refl
behind-more callees (first ∷ bodies) body = behind-more (callees ++ callee_by callees first ∷ []) bodies body

-- ---- a layout

pub layout-is : (callee : Callee) (layout : Layout) (before own inner : ℕ)
    → IsShape callee.coded.scope layout.shape
    → layout.starts.items ≡ map capped (starts_from (Some callee.coded.scope) 0 (instructions callee.coded.scope) callee.inner)
    → IsAsLong (instructions callee.coded.scope) callee.inner
    → before ≡ capped (points_before callee.coded.scope)
    → own ≡ get_or layout.starts.items (length (instructions callee.coded.scope)) 0
    → layout.points ≡ capped (before + own)
    → inner ≡ capped (units_in callee.inner)
    → layout.units ≡ capped (callee.coded.scope.part.max_locals + inner)
    → IsLayout callee layout
layout-is callee layout before own inner shape starts long before_is own_is points inner_is units =
    let s = callee.coded.scope in
    let all = starts_from (Some s) 0 (instructions s) callee.inner in
    let last : own ≡ capped (0 + points_of (Some s) (instructions s) callee.inner) =
    own_is ∙ ap (λ (items : List ℕ). get_or items (length (instructions s)) 0) starts ∙ capped-item all (length (instructions s)) ∙ ap capped (last-start (Some s) 0 (instructions s) callee.inner long) in
    record {
      shape = shape;
      starts = starts;
      points = omega (arith, points, before_is, last);
      units = omega (arith, units, inner_is);
    }

-- how many points there are, by the last number
pub points-by : (method : Option Scope) (starts : List ℕ) (instrs : List Placed) (expansion : Expansion) (points : ℕ)
    → starts ≡ map capped (starts_from method 0 instrs expansion)
    → IsAsLong instrs expansion
    → points ≡ get_or starts (length instrs) 0
    → points ≡ capped (points_of method instrs expansion)
points-by method starts instrs expansion points are long is =
    let all = starts_from method 0 instrs expansion in
    let none : 0 + points_of method instrs expansion ≡ points_of method instrs expansion = omega arith in
    is ∙ ap (λ (items : List ℕ). get_or items (length instrs) 0) are ∙ capped-item all (length instrs) ∙ ap capped (last-start method 0 instrs expansion long ∙ none)
