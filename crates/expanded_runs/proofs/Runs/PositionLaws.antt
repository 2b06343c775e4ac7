-- Where the points of each instruction of a method stand in flat code.
use Rattle.std.proofs.Common.{◌≡◌, ◌==◌, ◌+◌, ◌≤◌, ℕ, zero, suc, Bool, true, false, List, [], ◌∷◌, ◌++◌, length, reverse, slice_get, Option, Some, None, option_map, refl, sym, ap, subst, ◌∙◌, arith, if◌then◌else◌}
use Rattle.std.proofs.lemmas.List.{length-append, length-map, length-reverse}
use Rattle.std.proofs.lemmas.Option.{same_Some}
use Rattle.class_model.specs.Descriptors.{kind_of, parameters_of, units_of}
use Rattle.class_model.specs.Members.{has, STATIC}
use Rattle.class_model.specs.declared.descriptor.FieldType.{FieldType}
use Rattle.class_model.specs.declared.frame.Frame.{Frame}
use Rattle.class_model.specs.declared.instr.Instr.{Instr}
use Rattle.class_model.specs.declared.instr.Instr.TheVariants.{Return}
use Rattle.class_model.specs.declared.instr.Placed.{Placed}
use Rattle.class_tree.specs.Headers.{Name}
use Rattle.expanded_code.specs.Alone.{number_in}
use Rattle.expanded_code.specs.Expanded.{Argument, Setting, arguments, arguments_from, callee_of, callee_setting, frame_behind_stores, frame_stored, instr_points, number_from, own_points, points_before, points_from, points_of, points_of_callee, points_of_entry, set_frame, store_points, test_points, tests_receiver, units_in}
use Rattle.expanded_code.specs.Expansions.{Coded, Expansion, no_more, replaced, site, stays}
use Rattle.expanded_code.specs.Laws.NumberedInstrs.{found-instr, or_behind}
use Rattle.expanded_runs.proofs.Runs.Positions.{Becomes, StandsFrom, becomes, block_from, is_none, is_replaced, makes_site, remains, start_from}
use Rattle.flow_code.specs.declared.point.Point.{Point}
use Rattle.member_link.specs.Machine.Programs.{number_of_first}
use Rattle.member_link.specs.Scope.{Scope, instructions, own_descriptor}

-- ---- numbers

-- the points of an instruction, by what becomes of it
abbrev pub width : Option Scope → Placed → Becomes → ℕ
width callee placed remains = own_points callee placed.instr
width callee placed (makes_site class) = own_points callee placed.instr
width callee placed (is_replaced g inner) = points_of_callee g inner
width callee placed is_none = 0

module _ (callee : Option Scope) where
  pub next_start : (number : ℕ) (instrs : List Placed) (e : Expansion) (k : ℕ) (placed : Placed)
      → slice_get instrs k ≡ Some placed
      → start_from callee number instrs e (suc k) ≡ start_from callee number instrs e k + width callee placed (becomes e k)
  next_start number [] e k placed is = absurd cc
  next_start number (first ∷ instrs) no_more zero placed is = omega arith
  next_start number (first ∷ instrs) no_more (suc k) placed is = omega arith
  next_start number (first ∷ instrs) (stays more) zero placed is =
      ap (λ (p : Placed). number + own_points callee p.instr) (same_Some first placed is)
  next_start number (first ∷ instrs) (site class more) zero placed is =
      ap (λ (p : Placed). number + own_points callee p.instr) (same_Some first placed is)
  next_start number (first ∷ instrs) (replaced g inner more) zero placed is = refl
  next_start number (first ∷ instrs) (stays more) (suc k) placed is =
      next_start (number + own_points callee first.instr) instrs more k placed is
  next_start number (first ∷ instrs) (site class more) (suc k) placed is =
      next_start (number + own_points callee first.instr) instrs more k placed is
  next_start number (first ∷ instrs) (replaced g inner more) (suc k) placed is =
      next_start (number + points_of_callee g inner) instrs more k placed is

  -- behind the last instruction
  pub last_start : (number : ℕ) (instrs : List Placed) (e : Expansion)
      → start_from callee number instrs e (length instrs) ≡ number + points_of callee instrs e
  last_start number [] e = omega arith
  last_start number (first ∷ instrs) no_more = omega arith
  last_start number (first ∷ instrs) (stays more) =
      last_start (number + own_points callee first.instr) instrs more ∙ omega arith
  last_start number (first ∷ instrs) (site class more) =
      last_start (number + own_points callee first.instr) instrs more ∙ omega arith
  last_start number (first ∷ instrs) (replaced g inner more) =
      last_start (number + points_of_callee g inner) instrs more ∙ omega arith

  pub start_least : (number : ℕ) (instrs : List Placed) (e : Expansion) (k : ℕ) → number ≤ start_from callee number instrs e k
  start_least number instrs e zero = omega arith
  start_least number [] e (suc k) = omega arith
  start_least number (first ∷ instrs) no_more (suc k) = omega arith
  start_least number (first ∷ instrs) (stays more) (suc k) =
      omega (arith, start_least (number + own_points callee first.instr) instrs more k)
  start_least number (first ∷ instrs) (site class more) (suc k) =
      omega (arith, start_least (number + own_points callee first.instr) instrs more k)
  start_least number (first ∷ instrs) (replaced g inner more) (suc k) =
      omega (arith, start_least (number + points_of_callee g inner) instrs more k)

  pub start_most : (number : ℕ) (instrs : List Placed) (e : Expansion) (k : ℕ)
      → start_from callee number instrs e k ≤ number + points_of callee instrs e
  start_most number instrs e zero = omega arith
  start_most number [] e (suc k) = omega arith
  start_most number (first ∷ instrs) no_more (suc k) = omega arith
  start_most number (first ∷ instrs) (stays more) (suc k) =
      omega (arith, start_most (number + own_points callee first.instr) instrs more k)
  start_most number (first ∷ instrs) (site class more) (suc k) =
      omega (arith, start_most (number + own_points callee first.instr) instrs more k)
  start_most number (first ∷ instrs) (replaced g inner more) (suc k) =
      omega (arith, start_most (number + points_of_callee g inner) instrs more k)

  -- those of an instruction end before what is behind the last
  pub width_within : (number : ℕ) (instrs : List Placed) (e : Expansion) (k : ℕ) (placed : Placed)
      → slice_get instrs k ≡ Some placed
      → start_from callee number instrs e k + width callee placed (becomes e k) ≤ start_from callee number instrs e (length instrs)
  width_within number instrs e k placed is =
      omega (arith, next_start number instrs e k placed is, start_most number instrs e (suc k), last_start number instrs e)

-- ---- numbers of offsets

behind_first : (here : Bool) (found : Option ℕ) (count : ℕ)
    → or_behind (suc count) (if here then Some zero else option_map suc found) ≡ (if here then zero else suc (or_behind count found))
behind_first true found count = refl
behind_first false None count = refl
behind_first false (Some number) count = refl

number_cons : (placed : Placed) (instrs : List Placed) (at : ℕ)
    → number_in (placed ∷ instrs) at ≡ (if placed.at == at then zero else suc (number_in instrs at))
number_cons placed instrs at =
    let found = number_of_first (λ (p : Placed). p.at == at) instrs in
    found-instr (placed ∷ instrs) at (if placed.at == at then Some zero else option_map suc found) refl
    ∙ behind_first (placed.at == at) found (length instrs)
    ∙ ap (λ (n : ℕ). if placed.at == at then zero else suc n) (sym (found-instr instrs at found refl))

module _ (callee : Option Scope) (at : ℕ) where
  by_test : (here : Bool) (number later k : ℕ) (placed : Placed) (instrs : List Placed) (e : Expansion)
      → later ≡ start_from callee number (placed ∷ instrs) e (suc k)
      → (if here then number else later) ≡ start_from callee number (placed ∷ instrs) e (if here then zero else suc k)
  by_test true number later k placed instrs e same = refl
  by_test false number later k placed instrs e same = same

  start_none : (number : ℕ) (instrs : List Placed) (k : ℕ) → start_from callee number instrs no_more k ≡ number
  start_none number instrs zero = refl
  start_none number [] (suc k) = refl
  start_none number (placed ∷ instrs) (suc k) = refl

  -- the point of the instruction at an offset is the first of the instruction of its number
  pub number_start : (number : ℕ) (instrs : List Placed) (e : Expansion)
      → number_from callee number instrs e at ≡ start_from callee number instrs e (number_in instrs at)
  number_start number [] e = ap (start_from callee number [] e) (sym (found-instr [] at None refl))
  number_start number (placed ∷ instrs) no_more = sym (start_none number (placed ∷ instrs) (number_in (placed ∷ instrs) at))
  number_start number (placed ∷ instrs) (stays more) =
      let later = number_from callee (number + own_points callee placed.instr) instrs more at in
      by_test (placed.at == at) number later (number_in instrs at) placed instrs (stays more)
      (number_start (number + own_points callee placed.instr) instrs more)
      ∙ ap (start_from callee number (placed ∷ instrs) (stays more)) (sym (number_cons placed instrs at))
  number_start number (placed ∷ instrs) (site class more) =
      let later = number_from callee (number + own_points callee placed.instr) instrs more at in
      by_test (placed.at == at) number later (number_in instrs at) placed instrs (site class more)
      (number_start (number + own_points callee placed.instr) instrs more)
      ∙ ap (start_from callee number (placed ∷ instrs) (site class more)) (sym (number_cons placed instrs at))
  number_start number (placed ∷ instrs) (replaced g inner more) =
      let later = number_from callee (number + points_of_callee g inner) instrs more at in
      by_test (placed.at == at) number later (number_in instrs at) placed instrs (replaced g inner more)
      (number_start (number + points_of_callee g inner) instrs more)
      ∙ ap (start_from callee number (placed ∷ instrs) (replaced g inner more)) (sym (number_cons placed instrs at))

-- ---- units

pub block_least : (unit : ℕ) (e : Expansion) (k : ℕ) → unit ≤ block_from unit e k
block_least unit e zero = omega arith
block_least unit no_more (suc k) = omega arith
block_least unit (stays more) (suc k) = block_least unit more k
block_least unit (site class more) (suc k) = block_least unit more k
block_least unit (replaced g inner more) (suc k) =
    omega (arith, block_least (unit + g.scope.part.max_locals + units_in inner) more k)

-- the units of a callee, and of those in it
abbrev pub units_by : Becomes → ℕ
units_by (is_replaced g inner) = g.scope.part.max_locals + units_in inner
units_by other = 0

pub block_within : (unit : ℕ) (e : Expansion) (k : ℕ) → block_from unit e k + units_by (becomes e k) ≤ unit + units_in e
block_within unit no_more zero = omega arith
block_within unit (stays more) zero = omega arith
block_within unit (site class more) zero = omega arith
block_within unit (replaced g inner more) zero = omega arith
block_within unit no_more (suc k) = omega arith
block_within unit (stays more) (suc k) = block_within unit more k
block_within unit (site class more) (suc k) = block_within unit more k
block_within unit (replaced g inner more) (suc k) =
    omega (arith, block_within (unit + g.scope.part.max_locals + units_in inner) more k)

-- ---- lists in lists

pub slice_left : {A : Type 0} (ones others : List A) (behind : ℕ) (item : A)
    → slice_get ones behind ≡ Some item
    → slice_get (ones ++ others) behind ≡ Some item
slice_left [] others behind item is = absurd cc
slice_left (one ∷ ones) others zero item is = is
slice_left (one ∷ ones) others (suc behind) item is = slice_left ones others behind item is

pub slice_right : {A : Type 0} (ones others : List A) (behind : ℕ) (item : A)
    → slice_get others behind ≡ Some item
    → slice_get (ones ++ others) (length ones + behind) ≡ Some item
slice_right {A} [] others behind item is =
    let here : behind ≡ 0 + behind = omega arith in
    subst (λ (n : ℕ). slice_get others n ≡ Some item) here is
slice_right {A} (one ∷ ones) others behind item is =
    let here : suc (length ones + behind) ≡ suc (length ones) + behind = omega arith in
    subst (λ (n : ℕ). slice_get (one ∷ ones ++ others) n ≡ Some item) here (slice_right ones others behind item is)

pub stands_left : {A : Type 0} (whole : List A) (number : ℕ) (ones others : List A)
    → StandsFrom whole number (ones ++ others)
    → StandsFrom whole number ones
stands_left whole number ones others stands behind item is = stands behind item (slice_left ones others behind item is)

pub stands_right : {A : Type 0} (whole : List A) (number : ℕ) (ones others : List A)
    → StandsFrom whole number (ones ++ others)
    → StandsFrom whole (number + length ones) others
stands_right {A} whole number ones others stands behind item is =
    let there : number + (length ones + behind) ≡ number + length ones + behind = omega arith in
    subst (λ (n : ℕ). slice_get whole n ≡ Some item) there
    (stands (length ones + behind) item (slice_right ones others behind item is))

-- ---- how many points there are

length_from : (unit : ℕ) (types : List FieldType) → length (arguments_from unit types) ≡ length types
length_from unit [] = refl
length_from unit (type ∷ types) = ap suc (length_from (unit + units_of (kind_of type)) types)

pub length_arguments : (s : Scope) (unit : ℕ) → length (arguments s unit) ≡ length (arguments s 0)
length_arguments s unit = by (has s.method.flags STATIC) refl where
  by : (static : Bool) → has s.method.flags STATIC ≡ static → length (arguments s unit) ≡ length (arguments s 0)
  by true is = rw (is) (length_from unit (parameters_of (own_descriptor s)) ∙ sym (length_from 0 (parameters_of (own_descriptor s))))
  by false is =
      rw (is) (ap suc (length_from (unit + 1) (parameters_of (own_descriptor s))
      ∙ sym (length_from (0 + 1) (parameters_of (own_descriptor s)))))

pub length_stores : (t : Setting) (at : ℕ) (frame : Frame) (all : List Argument) → length (store_points t at frame all) ≡ length all
length_stores t at frame [] = refl
length_stores t at frame (argument ∷ others) = ap suc (length_stores t at (frame_stored frame argument) others)

length_tests : (t : Setting) (at : ℕ) (frame : Frame) (s : Scope) (unit : ℕ)
    → length (test_points t at frame s unit) ≡ (if tests_receiver s then 1 else 0)
length_tests t at frame s unit = by (tests_receiver s) refl where
  by : (tests : Bool) → tests_receiver s ≡ tests → length (test_points t at frame s unit) ≡ (if tests_receiver s then 1 else 0)
  by true is = rw (is) refl
  by false is = rw (is) refl

pub length_entry : (t : Setting) (at : ℕ) (frame : Frame) (s : Scope) (unit : ℕ)
    → length (points_of_entry t at frame s unit) ≡ points_before s
length_entry t at frame s unit =
    let all = reverse (arguments s unit) in
    length-append (store_points t at frame all) (test_points t at (frame_behind_stores frame all) s unit)
    ∙ ap (λ (n : ℕ). n + length (test_points t at (frame_behind_stores frame all) s unit))
    (length_stores t at frame all ∙ length-reverse (arguments s unit) ∙ length_arguments s unit)
    ∙ ap (λ (n : ℕ). length (arguments s 0) + n) (length_tests t at (frame_behind_stores frame all) s unit)

pub length_instr : (t : Setting) (placed : Placed) (frame : Frame)
    → length (instr_points t placed frame) ≡ own_points (callee_of t) placed.instr
length_instr t placed frame = by t.behind refl placed.instr refl where
  by : (behind : Option ℕ) → t.behind ≡ behind → (instr : Instr) → placed.instr ≡ instr
      → length (instr_points t placed frame) ≡ own_points (callee_of t) placed.instr
  by None e instr is = rw (e) refl
  by (Some behind) e (Return kind) is = rw (e, is) (length-append _ _ ∙ ap (λ (n : ℕ). n + 1) (length-map _ _))
  by (Some behind) e instr is = rw (e, is) refl

-- What becomes of the instructions is as long as they are, and so are the frames; and so it is with the callees, which have instructions.
pub data Fits : List Placed → List Frame → Expansion → Type 0 where
  fits_none : Fits [] [] no_more
  fits_stays : {instrs : List Placed} {frames : List Frame} {more : Expansion} (placed : Placed) (frame : Frame)
      → Fits instrs frames more
      → Fits (placed ∷ instrs) (frame ∷ frames) (stays more)
  fits_site : {instrs : List Placed} {frames : List Frame} {more : Expansion} (placed : Placed) (frame : Frame) (class : Name)
      → Fits instrs frames more
      → Fits (placed ∷ instrs) (frame ∷ frames) (site class more)
  fits_replaced : {instrs : List Placed} {frames : List Frame} {inner more : Expansion} (placed : Placed) (frame : Frame) (g : Coded) (start : Placed)
      → slice_get (instructions g.scope) 0 ≡ Some start
      → Fits (instructions g.scope) g.frames inner
      → Fits instrs frames more
      → Fits (placed ∷ instrs) (frame ∷ frames) (replaced g inner more)

pub length_fits : {instrs : List Placed} {frames : List Frame} {e : Expansion} → Fits instrs frames e → length frames ≡ length instrs
length_fits fits_none = refl
length_fits (fits_stays placed frame fits) = ap suc (length_fits fits)
length_fits (fits_site placed frame class fits) = ap suc (length_fits fits)
length_fits (fits_replaced placed frame g start starts within fits) = ap suc (length_fits fits)

pub length_points : (t : Setting) (number unit : ℕ) {instrs : List Placed} {frames : List Frame} {e : Expansion}
    → Fits instrs frames e
    → length (points_from t number unit instrs frames e) ≡ points_of (callee_of t) instrs e
length_points t number unit fits_none = refl
length_points t number unit (fits_stays {instrs = instrs} {frames = frames} {more = more} placed frame fits) =
    let next = number + own_points (callee_of t) placed.instr in
    length-append (instr_points t placed frame) (points_from t next unit instrs frames more)
    ∙ ap (λ (n : ℕ). n + length (points_from t next unit instrs frames more)) (length_instr t placed frame)
    ∙ ap (λ (n : ℕ). own_points (callee_of t) placed.instr + n) (length_points t next unit fits)
length_points t number unit (fits_site {instrs = instrs} {frames = frames} {more = more} placed frame class fits) =
    let next = number + own_points (callee_of t) placed.instr in
    length-append (instr_points t placed frame) (points_from t next unit instrs frames more)
    ∙ ap (λ (n : ℕ). n + length (points_from t next unit instrs frames more)) (length_instr t placed frame)
    ∙ ap (λ (n : ℕ). own_points (callee_of t) placed.instr + n) (length_points t next unit fits)
length_points t number unit (fits_replaced {instrs = instrs} {frames = frames} {inner = inner} {more = more} placed frame g start starts within fits) =
    let entry = points_of_entry t placed.at (set_frame t frame) g.scope unit in
    let own = callee_setting t placed.at (set_frame t frame) number unit g inner in
    let first = number + points_before g.scope in
    let block = unit + g.scope.part.max_locals in
    let body = points_from own first block (instructions g.scope) g.frames inner in
    let rest = points_from t (number + points_of_callee g inner) (block + units_in inner) instrs frames more in
    let one = length_entry t placed.at (set_frame t frame) g.scope unit in
    let two = length_points own first block within in
    let three = length_points t (number + points_of_callee g inner) (block + units_in inner) fits in
    let all = length-append (entry ++ body) rest in
    let both = length-append entry body in
    omega (arith, one, two, three, all, both)

-- ---- the points of each instruction

-- of an instruction, where the first has a number and a callee's locals are units from one on
abbrev pub points_at : Setting → ℕ → ℕ → Placed → Frame → Becomes → List Point
points_at t number unit placed frame remains = instr_points t placed frame
points_at t number unit placed frame (makes_site class) = instr_points t placed frame
points_at t number unit placed frame (is_replaced g inner) =
    points_of_entry t placed.at (set_frame t frame) g.scope unit
    ++ points_from (callee_setting t placed.at (set_frame t frame) number unit g inner)
    (number + points_before g.scope)
    (unit + g.scope.part.max_locals)
    (instructions g.scope) g.frames inner
points_at t number unit placed frame is_none = []

module _ (whole : List Point) where
  -- behind the points of an instruction that stays
  rest_stands : (t : Setting) (number unit : ℕ) (instrs : List Placed) (frames : List Frame) (more : Expansion) (placed : Placed) (frame : Frame)
      → StandsFrom whole number
      (instr_points t placed frame ++ points_from t (number + own_points (callee_of t) placed.instr) unit instrs frames more)
      → StandsFrom whole (number + own_points (callee_of t) placed.instr)
      (points_from t (number + own_points (callee_of t) placed.instr) unit instrs frames more)
  rest_stands t number unit instrs frames more placed frame stands =
      let rest = points_from t (number + own_points (callee_of t) placed.instr) unit instrs frames more in
      subst (λ (n : ℕ). StandsFrom whole (number + n) rest) (length_instr t placed frame)
      (stands_right whole number (instr_points t placed frame) rest stands)

  -- The points of the instruction of a number stand at its first number.
  pub part_stands : (t : Setting) (number unit : ℕ) {instrs : List Placed} {frames : List Frame} {e : Expansion}
      → Fits instrs frames e
      → (k : ℕ) (placed : Placed) (frame : Frame)
      → slice_get instrs k ≡ Some placed
      → slice_get frames k ≡ Some frame
      → StandsFrom whole number (points_from t number unit instrs frames e)
      → StandsFrom whole (start_from (callee_of t) number instrs e k)
      (points_at t (start_from (callee_of t) number instrs e k) (block_from unit e k) placed frame (becomes e k))
  part_stands t number unit fits_none k placed frame is has stands = absurd cc
  part_stands t number unit (fits_stays {instrs = instrs} {frames = frames} {more = more} first typed fits) zero placed frame is has stands =
      subst (λ (p : Placed). StandsFrom whole number (instr_points t p frame)) (same_Some first placed is)
      (subst (λ (f : Frame). StandsFrom whole number (instr_points t first f)) (same_Some typed frame has)
      (stands_left whole number (instr_points t first typed)
      (points_from t (number + own_points (callee_of t) first.instr) unit instrs frames more) stands))
  part_stands t number unit (fits_site {instrs = instrs} {frames = frames} {more = more} first typed class fits) zero placed frame is has stands
      =
      subst (λ (p : Placed). StandsFrom whole number (instr_points t p frame)) (same_Some first placed is)
      (subst (λ (f : Frame). StandsFrom whole number (instr_points t first f)) (same_Some typed frame has)
      (stands_left whole number (instr_points t first typed)
      (points_from t (number + own_points (callee_of t) first.instr) unit instrs frames more) stands))
  part_stands t number unit (fits_replaced {instrs = instrs} {frames = frames} {inner = inner} {more = more} first typed g start starts within fits) zero placed
      frame is has stands
      =
      subst (λ (p : Placed). StandsFrom whole number (points_at t number unit p frame (is_replaced g inner))) (same_Some first placed is)
      (subst (λ (f : Frame). StandsFrom whole number (points_at t number unit first f (is_replaced g inner))) (same_Some typed frame has)
      (stands_left whole number (points_at t number unit first typed (is_replaced g inner))
      (points_from t (number + points_of_callee g inner) (unit + g.scope.part.max_locals + units_in inner) instrs frames more)
      stands))
  part_stands t number unit (fits_stays {instrs = instrs} {frames = frames} {more = more} first typed fits) (suc k) placed frame is has stands =
      part_stands t (number + own_points (callee_of t) first.instr) unit fits k placed frame is has
      (rest_stands t number unit instrs frames more first typed stands)
  part_stands t number unit (fits_site {instrs = instrs} {frames = frames} {more = more} first typed class fits) (suc k) placed frame is has stands
      =
      part_stands t (number + own_points (callee_of t) first.instr) unit fits k placed frame is has
      (rest_stands t number unit instrs frames more first typed stands)
  part_stands t number unit (fits_replaced {instrs = instrs} {frames = frames} {inner = inner} {more = more} first typed g start starts within fits) (suc k)
      placed frame is has stands
      =
      let next = number + points_of_callee g inner in
      let block = unit + g.scope.part.max_locals in
      let own = callee_setting t first.at (set_frame t typed) number unit g inner in
      let entry = points_of_entry t first.at (set_frame t typed) g.scope unit in
      let body = points_from own (number + points_before g.scope) block (instructions g.scope) g.frames inner in
      let rest = points_from t next (block + units_in inner) instrs frames more in
      let one = length_entry t first.at (set_frame t typed) g.scope unit in
      let two = length_points own (number + points_before g.scope) block within in
      let both = length-append entry body in
      let count : number + length (entry ++ body) ≡ next = omega (arith, one, two, both) in
      part_stands t next (block + units_in inner) fits k placed frame is has
      (subst (λ (n : ℕ). StandsFrom whole n rest) count (stands_right whole number (entry ++ body) rest stands))
