-- The numbers of a callee's points in its place.
use Rattle.std.proofs.Common.{◌≡◌, ◌==◌, ◌+◌, ◌-◌, ◌≤◌, ℕ, zero, suc, Bool, true, false, List, [], ◌∷◌, drop, get_or, length, map, slice_get, Option, Some, None, option_map, refl, sym, ap, ◌∙◌, arith, if◌then◌else◌}
use Rattle.std.proofs.lemmas.List.{length-map}
use Rattle.std.proofs.lemmas.Option.{same_Some}
use Rattle.class_model.specs.declared.frame.VType.{VType}
use Rattle.class_model.specs.declared.frame.VType.TheVariants.{Top}
use Rattle.class_model.specs.declared.instr.Placed.{Placed}
use Rattle.expanded_code.specs.Alone.{number_in}
use Rattle.expanded_code.specs.Expanded.{Argument, arguments, number_from, own_points, points_before, points_of, points_of_callee}
use Rattle.expanded_code.specs.Expansions.{Expansion, no_more, replaced, site, stays}
use Rattle.expanded_code.specs.Laws.NumberedInstrs.{found-instr, number-within, or_behind}
use Rattle.inline_expand.proofs.LayoutParts.{IsAsLong, as-long, capped-few}
use Rattle.inline_expand.specs.Inner.CalleePlaces.{callee_in}
use Rattle.inline_expand.specs.Inner.Layouts.{IsLayout, argument_from, capped, starts_from}
use Rattle.inline_expand.specs.Inner.Numbers.{placed_by}
use Rattle.inline_expand.specs.Inner.Steps.{IsBody, callees_of}
use Rattle.inline_expand.specs.declared.expanded.places.Found.{Found}
use Rattle.member_link.specs.Machine.Programs.{number_of_first}
use Rattle.member_link.specs.Rows.Operands.{lowest_of}
use Rattle.member_link.specs.Scope.{Scope, instructions}

-- ---- the number of an instruction

behind-first : (here : Bool) (found : Option ℕ) (count : ℕ) → or_behind (suc count) (if here then Some zero else option_map suc found) ≡ (if here then zero else suc (or_behind count found))
behind-first true found count = refl
behind-first false None count = refl
behind-first false (Some number) count = refl

number-cons : (placed : Placed) (instrs : List Placed) (at : ℕ) → number_in (placed ∷ instrs) at ≡ (if placed.at == at then zero else suc (number_in instrs at))
number-cons placed instrs at =
    let found = number_of_first (λ (p : Placed). p.at == at) instrs in
    found-instr (placed ∷ instrs) at (if placed.at == at then Some zero else option_map suc found) refl
    ∙ behind-first (placed.at == at) found (length instrs)
    ∙ ap (λ (n : ℕ). if placed.at == at then zero else suc n) (sym (found-instr instrs at found refl))

-- ---- numbers of points

by-test : (here : Bool) (number later k : ℕ) (rest : List ℕ) → later ≡ get_or rest k 0 → (if here then number else later) ≡ get_or (number ∷ rest) (if here then zero else suc k) 0
by-test true number later k rest same = refl
by-test false number later k rest same = same

module _ (method : Option Scope) where
  number-start : (number : ℕ) (instrs : List Placed) (expansion : Expansion) (at : ℕ) → IsAsLong instrs expansion
      → number_from method number instrs expansion at ≡ get_or (starts_from method number instrs expansion) (number_in instrs at) 0
  number-start number [] no_more at long = ap (λ (n : ℕ). get_or (number ∷ []) n 0) (sym (found-instr [] at None refl))
  number-start number [] (stays more) at long = elim long [ ]
  number-start number [] (site class more) at long = elim long [ ]
  number-start number [] (replaced g inner more) at long = elim long [ ]
  number-start number (placed ∷ instrs) no_more at long = elim long [ ]
  number-start number (placed ∷ instrs) (stays more) at long =
      let next = number + own_points method placed.instr in
      by-test (placed.at == at) number (number_from method next instrs more at) (number_in instrs at) (starts_from method next instrs more) (number-start next instrs more at long)
      ∙ ap (λ (n : ℕ). get_or (number ∷ starts_from method next instrs more) n 0) (sym (number-cons placed instrs at))
  number-start number (placed ∷ instrs) (site class more) at long =
      let next = number + own_points method placed.instr in
      by-test (placed.at == at) number (number_from method next instrs more at) (number_in instrs at) (starts_from method next instrs more) (number-start next instrs more at long)
      ∙ ap (λ (n : ℕ). get_or (number ∷ starts_from method next instrs more) n 0) (sym (number-cons placed instrs at))
  number-start number (placed ∷ instrs) (replaced g inner more) at long =
      let next = number + points_of_callee g inner in
      by-test (placed.at == at) number (number_from method next instrs more at) (number_in instrs at) (starts_from method next instrs more) (number-start next instrs more at long)
      ∙ ap (λ (n : ℕ). get_or (number ∷ starts_from method next instrs more) n 0) (sym (number-cons placed instrs at))

  -- behind a base
  shifted : (base number : ℕ) (instrs : List Placed) (expansion : Expansion) (k : ℕ) → IsAsLong instrs expansion → k ≤ length instrs
      → get_or (starts_from method (base + number) instrs expansion) k 0 ≡ base + get_or (starts_from method number instrs expansion) k 0
  shifted base number [] no_more zero long few = refl
  shifted base number [] no_more (suc k) long few = absurd (omega arith)
  shifted base number [] (stays more) k long few = elim long [ ]
  shifted base number [] (site class more) k long few = elim long [ ]
  shifted base number [] (replaced g inner more) k long few = elim long [ ]
  shifted base number (placed ∷ instrs) no_more k long few = elim long [ ]
  shifted base number (placed ∷ instrs) (stays more) zero long few = refl
  shifted base number (placed ∷ instrs) (stays more) (suc k) long few =
      let same : base + number + own_points method placed.instr ≡ base + (number + own_points method placed.instr) = omega arith in
      ap (λ (n : ℕ). get_or (starts_from method n instrs more) k 0) same ∙ shifted base (number + own_points method placed.instr) instrs more k long (omega arith)
  shifted base number (placed ∷ instrs) (site class more) zero long few = refl
  shifted base number (placed ∷ instrs) (site class more) (suc k) long few =
      let same : base + number + own_points method placed.instr ≡ base + (number + own_points method placed.instr) = omega arith in
      ap (λ (n : ℕ). get_or (starts_from method n instrs more) k 0) same ∙ shifted base (number + own_points method placed.instr) instrs more k long (omega arith)
  shifted base number (placed ∷ instrs) (replaced g inner more) zero long few = refl
  shifted base number (placed ∷ instrs) (replaced g inner more) (suc k) long few =
      let same : base + number + points_of_callee g inner ≡ base + (number + points_of_callee g inner) = omega arith in
      ap (λ (n : ℕ). get_or (starts_from method n instrs more) k 0) same ∙ shifted base (number + points_of_callee g inner) instrs more k long (omega arith)

  pub number-placed : (base : ℕ) (instrs : List Placed) (expansion : Expansion) (at : ℕ) → IsAsLong instrs expansion
      → placed_by (starts_from method 0 instrs expansion) base (number_in instrs at) ≡ number_from method base instrs expansion at
  number-placed base instrs expansion at long =
      let none : base + 0 ≡ base = omega arith in
      sym (shifted base 0 instrs expansion (number_in instrs at) long (number-within instrs at))
      ∙ ap (λ (n : ℕ). get_or (starts_from method n instrs expansion) (number_in instrs at) 0) none
      ∙ sym (number-start base instrs expansion at long)

  -- few numbers are not capped
  pub few-starts : (number : ℕ) (instrs : List Placed) (expansion : Expansion) → number + points_of method instrs expansion ≤ 65535
      → map capped (starts_from method number instrs expansion) ≡ starts_from method number instrs expansion
  few-starts number [] no_more few = ap (λ (n : ℕ). n ∷ []) (capped-few number (omega arith))
  few-starts number [] (stays more) few = ap (λ (n : ℕ). n ∷ []) (capped-few number (omega arith))
  few-starts number [] (site class more) few = ap (λ (n : ℕ). n ∷ []) (capped-few number (omega arith))
  few-starts number [] (replaced g inner more) few = ap (λ (n : ℕ). n ∷ []) (capped-few number (omega arith))
  few-starts number (placed ∷ instrs) no_more few = ap (λ (n : ℕ). n ∷ []) (capped-few number (omega arith))
  few-starts number (placed ∷ instrs) (stays more) few =
      let one = capped-few number (omega arith) in
      let rest = few-starts (number + own_points method placed.instr) instrs more (omega arith) in
      λ i. one i ∷ rest i
  few-starts number (placed ∷ instrs) (site class more) few =
      let one = capped-few number (omega arith) in
      let rest = few-starts (number + own_points method placed.instr) instrs more (omega arith) in
      λ i. one i ∷ rest i
  few-starts number (placed ∷ instrs) (replaced g inner more) few =
      let one = capped-few number (omega arith) in
      let rest = few-starts (number + points_of_callee g inner) instrs more (omega arith) in
      λ i. one i ∷ rest i

-- ---- the stack

lowest-of : (at : ℕ) (items : List VType) (item : VType) → slice_get items at ≡ Some item → drop at items ≡ item ∷ drop (suc at) items
lowest-of at [] item is = absurd cc
lowest-of zero (first ∷ items) item is = ap (λ (one : VType). one ∷ items) (same_Some first item is)
lowest-of (suc at) (first ∷ items) item is = lowest-of at items item is

pub lowest-some : (count : ℕ) (stack : List VType) (item : VType) → slice_get stack (length stack - count) ≡ Some item → lowest_of count stack ≡ item
lowest-some count stack item is = rw (lowest-of (length stack - count) stack item is) refl

pub lowest-none : (count : ℕ) (stack : List VType) → drop (length stack - count) stack ≡ [] → lowest_of count stack ≡ Top
lowest-none count stack is = rw is refl

-- ---- a callee's place

module _ (found : Found) (start : ℕ) (body : IsBody found.body.now) (layout : IsLayout (callee_in found) found.layout.now) (few : start + points_of_callee (callee_in found).coded (callee_in found).inner ≤ 65535) where
  abbrev own : Scope
  own = found.body.now.host

  abbrev inner : Expansion
  inner = (callee_in found).inner

  pub exact-starts : found.layout.now.starts.items ≡ starts_from (Some own) 0 (instructions own) inner
  exact-starts = layout.starts ∙ few-starts (Some own) 0 (instructions own) inner (omega (arith, few))

  pub exact-points : found.layout.now.points ≡ points_of_callee (callee_in found).coded inner
  exact-points = layout.points ∙ capped-few (points_of_callee (callee_in found).coded inner) (omega (arith, few))

  pub exact-before : (count : ℕ) → count ≡ capped (points_before own) → count ≡ points_before own
  exact-before count is = is ∙ capped-few (points_before own) (omega (arith, few))

  pub its-number : (starts : List ℕ) (base : ℕ) → starts ≡ found.layout.now.starts.items → base ≡ start + points_before own → (at : ℕ)
      → placed_by starts base (number_in (instructions own) at) ≡ number_from (Some own) (start + points_before own) (instructions own) inner at
  its-number starts base starts_are base_is at =
      ap (λ (all : List ℕ). placed_by all base (number_in (instructions own) at)) (starts_are ∙ exact-starts)
      ∙ ap (λ (n : ℕ). placed_by (starts_from (Some own) 0 (instructions own) inner) n (number_in (instructions own) at)) base_is
      ∙ number-placed (Some own) (start + points_before own) (instructions own) inner at (as-long (callees_of found.bodies.now) (instructions own) found.body.now.steps body.steps)

  pub many-arguments : (unit : ℕ) → length (arguments own unit) ≡ length found.layout.now.shape.parameters.items
  many-arguments unit = ap (λ (all : List Argument). length all) (layout.shape.arguments unit) ∙ length-map found.layout.now.shape.parameters.items (argument_from unit)
