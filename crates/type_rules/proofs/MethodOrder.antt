-- The points of a method's body stand in order, and frames are stated at points only.
use Rattle.std.proofs.Common.{◌≡◌, inl, inr, ℕ, ◌+◌, Bool, true, false, ◌||◌, List, [], ◌∷◌, length, map, Result, Ok, Err, IsTrue, refl, sym, subst, arith}
use Rattle.std.specs.Prelude.{◌==◌}
use Rattle.std.proofs.lemmas.Bool.{eqb-true}
use Rattle.class_model.specs.Checks.{Fault}
use Rattle.class_model.specs.Instructions.{decoded, is_start}
use Rattle.class_model.specs.declared.instr.Placed.{Placed}
use Rattle.code_bytes.specs.Consecutive.{AreConsecutive}
use Rattle.member_link.specs.Bodies.{BodyPoint}
use Rattle.member_link.specs.BodyTyping.{AreConsecutivePoints, AreInOrder, BeginAt, IsPlaceOf}
use Rattle.member_link.specs.Scope.{Scope, instructions}
use Rattle.type_rules.specs.MethodBodies.{body_of, point_of}

consecutive_points : (s : Scope) (from : ℕ) (instrs : List Placed) (to : ℕ) → AreConsecutive from instrs to → AreConsecutivePoints from (map (point_of s) instrs) to
consecutive_points s from [] to are = are
consecutive_points s from (placed ∷ instrs) to are = (are.0, omega (arith, are.1), consecutive_points s (placed.at + placed.len) instrs to are.2)

begins_in_order : (from : ℕ) (points : List BodyPoint) (to : ℕ) → AreConsecutivePoints from points to → BeginAt from points × AreInOrder points
begins_in_order from [] to are = (tt, tt)
begins_in_order from (point ∷ points) to are =
    let rest = begins_in_order point.next points to are.2 in
    (are.0, (are.1, rest.0, rest.1))

-- the instructions that a code has
instrs_are : (s : Scope) (instrs : List Placed) → decoded s.part.code ≡ Ok instrs → instructions s ≡ instrs
instrs_are s instrs read = rw read refl

none_read : (s : Scope) (fault : Fault) → decoded s.part.code ≡ Err fault → instructions s ≡ []
none_read s fault read = rw read refl

pub consecutive_from : (s : Scope) (instrs : List Placed) → decoded s.part.code ≡ Ok instrs → AreConsecutive 0 instrs (length s.part.code) → AreConsecutivePoints 0 (body_of s).points (body_of s).end
consecutive_from s instrs read are =
    subst (λ (all : List Placed). AreConsecutivePoints 0 (map (point_of s) all) (length s.part.code)) (sym (instrs_are s instrs read)) (consecutive_points s 0 instrs (length s.part.code) are)

pub in_order : (s : Scope) → ((instrs : List Placed) → decoded s.part.code ≡ Ok instrs → AreConsecutivePoints 0 (body_of s).points (body_of s).end) → AreInOrder (body_of s).points
in_order s are = by (decoded s.part.code) refl where
  by : (read : Result (List Placed) Fault) → decoded s.part.code ≡ read → AreInOrder (body_of s).points
  by (Ok instrs) is = (begins_in_order 0 (body_of s).points (body_of s).end (are instrs is)).1
  by (Err fault) is = subst (λ (all : List Placed). AreInOrder (map (point_of s) all)) (sym (none_read s fault is)) tt

start_is_place : (s : Scope) (instrs : List Placed) (at : ℕ) → IsTrue (is_start instrs at) → IsPlaceOf (map (point_of s) instrs) at
start_is_place s [] at starts = absurd cc
start_is_place s (placed ∷ instrs) at starts = by (placed.at == at) refl starts (start_is_place s instrs at) where
  by : (here : Bool) → (placed.at == at) ≡ here → IsTrue (here || is_start instrs at) → (IsTrue (is_start instrs at) → IsPlaceOf (map (point_of s) instrs) at) → IsPlaceOf (map (point_of s) (placed ∷ instrs)) at
  by true e found below = inl (eqb-true placed.at at e)
  by false e found below = inr (below found)

pub stated_at_point : (s : Scope) (at : ℕ) (instrs : List Placed) → decoded s.part.code ≡ Ok instrs → IsTrue (is_start instrs at) → IsPlaceOf (body_of s).points at
stated_at_point s at instrs read starts = subst (λ (all : List Placed). IsPlaceOf (map (point_of s) all) at) (sym (instrs_are s instrs read)) (start_is_place s instrs at starts)
