-- The flat code of a typed method by itself is well formed.
use Rattle.std.proofs.Common.{◌≡◌, ◌==◌, ◌<◌, inl, inr, ℕ, zero, suc, Bool, true, false, List, [], ◌∷◌, ◌++◌, length, map, Option, Some, None, option_map, refl, sym, ap, subst, arith, if◌then◌else◌}
use Rattle.std.proofs.lemmas.Bool.{eq-eqb}
use Rattle.std.specs.List.{AllByRecursion, flat_map}
use Rattle.class_model.specs.Instructions.{targets}
use Rattle.class_model.specs.Laws.Lists.{AllByRecursion-weaker}
use Rattle.class_model.specs.PoolChecks.{class_at}
use Rattle.class_model.specs.declared.class_file.Handler.{Handler}
use Rattle.class_model.specs.declared.class_file.MethodAt.{MethodAt}
use Rattle.class_model.specs.declared.frame.Frame.{Frame}
use Rattle.class_model.specs.declared.instr.Instr.{Instr}
use Rattle.class_model.specs.declared.instr.Instr.TheVariants.{If, If2, IfSame, IfNull, Goto, Table, Lookup}
use Rattle.class_model.specs.declared.instr.Pair.{Pair}
use Rattle.class_model.specs.declared.instr.Placed.{Placed}
use Rattle.class_tree.specs.Headers.{Name}
use Rattle.expanded_code.specs.Alone.{alone_point, alone_points, flat_alone, handler_of, number_at}
use Rattle.expanded_code.specs.Laws.NumberedInstrs.{found-instr, length-alone, or_behind}
use Rattle.flow_code.specs.FlatCode.{HasLocal, IsFlat, IsPoint, NamesPoint}
use Rattle.flow_code.specs.declared.handlers.FlatHandler.{FlatHandler}
use Rattle.inline_expand.specs.Inner.Hosts.{HasUnits}
use Rattle.member_link.specs.Bodies.{BodyCatch, catch_frame, frame_behind}
use Rattle.member_link.specs.BodyTyping.{GoesInto, GoesToStated, IsPlaceOf, StatesAtPoints}
use Rattle.member_link.specs.Machine.Codes.{covers}
use Rattle.member_link.specs.Machine.Programs.{number_of_first}
use Rattle.member_link.specs.Scope.{Scope, instructions}
use Rattle.member_link.specs.Targets.{pair_to, with_targets}
use Rattle.type_rules.specs.Handlers.{catch_of, catches_at}
use Rattle.type_rules.specs.MethodBodies.{body_of, point_of}

-- ---- lists

pub all-append : {A : Type 0} (P : A → Type 0) (ones others : List A) → AllByRecursion P ones → AllByRecursion P others → AllByRecursion P (ones ++ others)
all-append P [] others all also = also
all-append P (one ∷ ones) others all also = (all.0, all-append P ones others all.1 also)

pub all-mapped : {A B : Type 0} (P : B → Type 0) (f : A → B) (items : List A) → AllByRecursion (λ (item : A). P (f item)) items → AllByRecursion P (map f items)
all-mapped P f [] all = tt
all-mapped P f (item ∷ items) all = (all.0, all-mapped P f items all.1)

-- ---- instructions with other targets

pairs-to : (place : ℕ → ℕ) (pairs : List Pair) → map (λ (p : Pair). p.to) (map (pair_to place) pairs) ≡ map place (map (λ (p : Pair). p.to) pairs)
pairs-to place [] = refl
pairs-to place (pair ∷ pairs) = ap (λ (rest : List ℕ). place pair.to ∷ rest) (pairs-to place pairs)

pub targets-to : (place : ℕ → ℕ) (instr : Instr) → targets (with_targets place instr) ≡ map place (targets instr)
targets-to place (If opcode to) = refl
targets-to place (If2 opcode to) = refl
targets-to place (IfSame opcode to) = refl
targets-to place (IfNull opcode to) = refl
targets-to place (Goto to) = refl
targets-to place (Table low other to) = refl
targets-to place (Lookup other pairs) = ap (λ (rest : List ℕ). place other ∷ rest) (pairs-to place pairs)
targets-to place instr = refl

pub local-kept : (place : ℕ → ℕ) (locals : ℕ) (instr : Instr) → HasLocal locals instr → HasLocal locals (with_targets place instr)
local-kept place locals (If opcode to) has = tt
local-kept place locals (If2 opcode to) has = tt
local-kept place locals (IfSame opcode to) has = tt
local-kept place locals (IfNull opcode to) has = tt
local-kept place locals (Goto to) has = tt
local-kept place locals (Table low other to) has = tt
local-kept place locals (Lookup other pairs) has = tt
local-kept place locals instr has = has

-- ---- places of points

module _ (s : Scope) where
  -- an offset at which an instruction starts has a number
  found-within : (instrs : List Placed) (place : ℕ) → IsPlaceOf (map (point_of s) instrs) place → or_behind (length instrs) (number_of_first (λ (placed : Placed). placed.at == place) instrs) < length instrs
  found-within [] place is = absurd is
  found-within (placed ∷ instrs) place (inl here) = rw (eq-eqb placed.at place here) (omega arith)
  found-within (placed ∷ instrs) place (inr behind) = more (placed.at == place) (number_of_first (λ (placed : Placed). placed.at == place) instrs) (found-within instrs place behind) where
    more : (here : Bool) (found : Option ℕ) → or_behind (length instrs) found < length instrs → or_behind (suc (length instrs)) (if here then Some zero else option_map suc found) < suc (length instrs)
    more true found within = omega arith
    more false None within = omega (arith, within)
    more false (Some number) within = omega (arith, within)

  pub place-within : (place : ℕ) → IsPlaceOf (body_of s).points place → number_at s place < length (instructions s)
  place-within place is =
      let found = number_of_first (λ (placed : Placed). placed.at == place) (instructions s) in
      subst (λ (n : ℕ). n < length (instructions s)) (sym (found-instr (instructions s) place found refl)) (found-within (instructions s) place is)

-- ---- points

abbrev handlers-in : Scope → ℕ → List Handler → List FlatHandler
handlers-in s at handlers = flat_map (λ (handler : Handler). if covers handler at then handler_of s handler else []) handlers

module _ (s : Scope) (n : ℕ) (within : (place : ℕ) → IsPlaceOf (body_of s).points place → number_at s place < n) (states : StatesAtPoints (body_of s)) (frames : List Frame) where
  -- a place into whose frame something goes
  goes-within : (goes : Option Frame) (place : ℕ) → GoesInto (body_of s) frames goes place → number_at s place < n
  goes-within goes place is = within place (states place is.stated is.is_stated)

  abbrev BeginsWithin : FlatHandler → Type 0
  BeginsWithin handler = NamesPoint n handler.to

  begins-within : (handler : Handler) → number_at s handler.at < n → AllByRecursion BeginsWithin (handler_of s handler)
  begins-within handler less = of-type (handler.catch_type == 0) refl (class_at s.class.pool handler.catch_type) refl where
    of-type : (any : Bool) → (handler.catch_type == 0) ≡ any → (class : Option Name) → class_at s.class.pool handler.catch_type ≡ class → AllByRecursion BeginsWithin (handler_of s handler)
    of-type true any class is = rw any (less, tt)
    of-type false any None is = rw (any, is) tt
    of-type false any (Some class) is = rw (any, is) (less, tt)

  around-within : (at : ℕ) (handlers : List Handler) → AllByRecursion (λ (catch : BodyCatch). number_at s catch.to < n) (catches_at s at handlers)
      → AllByRecursion BeginsWithin (handlers-in s at handlers)
  around-within at [] all = tt
  around-within at (handler ∷ handlers) all = of-range (covers handler at) all (around-within at handlers) where
    of-range : (around : Bool)
        → AllByRecursion (λ (catch : BodyCatch). number_at s catch.to < n) (if around then catch_of s handler ∷ catches_at s at handlers else catches_at s at handlers)
        → (AllByRecursion (λ (catch : BodyCatch). number_at s catch.to < n) (catches_at s at handlers) → AllByRecursion BeginsWithin (handlers-in s at handlers))
        → AllByRecursion BeginsWithin ((if around then handler_of s handler else []) ++ handlers-in s at handlers)
    of-range true all others = all-append BeginsWithin (handler_of s handler) (handlers-in s at handlers) (begins-within handler all.0) (others all.1)
    of-range false all others = others all

  point-fits : (class : ℕ) (placed : Placed) (frame : Frame) → GoesToStated (body_of s) frames (point_of s placed) → HasLocal s.part.max_locals placed.instr → IsPoint n s.part.max_locals (alone_point s class placed frame)
  point-fits class placed frame goes local =
      let point = point_of s placed in
      let place = number_at s in
      let names = AllByRecursion-weaker (GoesInto (body_of s) frames (frame_behind point goes.frame)) (λ (to : ℕ). place to < n) (goes-within (frame_behind point goes.frame)) (targets placed.instr) goes.targets in
      let caught = AllByRecursion-weaker (λ (catch : BodyCatch). GoesInto (body_of s) frames (Some (catch_frame goes.frame catch.class)) catch.to) (λ (catch : BodyCatch). place catch.to < n)
      (λ catch into. goes-within (Some (catch_frame goes.frame catch.class)) catch.to into) point.catches goes.handlers in
      record {
        instr = (
          subst (AllByRecursion (NamesPoint n)) (sym (targets-to place placed.instr)) (all-mapped (NamesPoint n) place (targets placed.instr) names),
          local-kept place s.part.max_locals placed.instr local,
        );
        handlers = around-within placed.at s.part.handlers caught;
      }

  points-fit : (class : ℕ) (instrs : List Placed) (types : List Frame) → AllByRecursion (GoesToStated (body_of s) frames) (map (point_of s) instrs)
      → AllByRecursion (λ (placed : Placed). HasLocal s.part.max_locals placed.instr) instrs → AllByRecursion (IsPoint n s.part.max_locals) (alone_points s class instrs types)
  points-fit class [] types goes units = tt
  points-fit class (placed ∷ instrs) [] goes units = tt
  points-fit class (placed ∷ instrs) (frame ∷ types) goes units = (point-fits class placed frame goes.0 units.0, points-fit class instrs types goes.1 units.1)

pub alone-is-flat : (s : Scope) (at : MethodAt) (frames : List Frame) → length frames ≡ length (instructions s) → StatesAtPoints (body_of s) → AllByRecursion (GoesToStated (body_of s) frames) (body_of s).points → HasUnits s
    → IsFlat (flat_alone s at frames)
alone-is-flat s at frames one-each states goes units =
    let n = length (alone_points s at.class (instructions s) frames) in
    let long : n ≡ length (instructions s) = length-alone s at.class (instructions s) frames one-each in
    let within : (place : ℕ) → IsPlaceOf (body_of s).points place → number_at s place < n = λ place is. subst (λ (m : ℕ). number_at s place < m) (sym long) (place-within s place is) in
    record { points = points-fit s n within states frames at.class (instructions s) frames goes units; sites = tt }
