-- The points of a method's code, and what is prepared of them.
use Rattle.std.proofs.Common.{◌≡◌, ◌==◌, ◌+◌, ◌<◌, ◌≤◌, ltb, ℕ, zero, suc, List, [], ◌∷◌, ◌++◌, length, map, take, get_or, All, Option, Some, None, Result, Ok, Err, IfOk, refl, sym, ap, subst, ◌∙◌, arith}
use Rattle.std.proofs.lemmas.Bool.{and_parts, ltb-true}
use Rattle.std.proofs.lemmas.List.{map-append, length-map, take_more}
use Rattle.std.proofs.lemmas.List.Elements.{All-append}
use Rattle.class_model.specs.Checks.{AllHold}
use Rattle.class_model.specs.Instructions.{decoded}
use Rattle.class_model.specs.OffsetIndexes.{first_at}
use Rattle.class_model.specs.declared.instr.Placed.{Placed}
use Rattle.class_model.specs.declared.memory.NoMemory.{NoMemory}
use Rattle.code_bytes.specs.Consecutive.{AreConsecutive}
use Rattle.code_bytes.specs.Decoding.{decoding_checks}
use Rattle.member_link.specs.Machine.Codes.{CodePoint, catches_at, code_points, instr_op, item_op, method_code, number_at, code_point, renumbered, run_point}
use Rattle.member_link.specs.Bodies.{item_instr}
use Rattle.member_link.specs.Machine.Programs.{Catch, Links, Point, number_of_first}
use Rattle.member_link.specs.Scope.{Scope, instructions, row_scope}
use Rattle.machine_code.specs.Inner.Preparing.{AreHandlers, AreOps, IsPreparedIn, placed_op}
use Rattle.machine_code.specs.Inner.Translating.{CodeIn, IsOp, OpIsResolved, number_of, offsets_of, or_count, scope_in}
use Rattle.machine_code.specs.Prepared.{catches_around, catches_at_point, op_at}
use Rattle.member_link.specs.RunOps.{IsResolved, op_of}
use Rattle.machine_code.specs.declared.prepared_method.PreparedMethod.{PreparedMethod}
use Rattle.member_link.specs.declared.run_op.RunOp.{RunOp}
use mathlib.Core.Path.{fun_ext}

-- ---- lengths

consecutive_few :
    (from to : ℕ) (instrs : List Placed)
    → AreConsecutive from instrs to
    → from + length instrs ≤ to
consecutive_few from to [] are = let same : from ≡ to = are in omega arith
consecutive_few from to (placed ∷ others) are =
    let rest = consecutive_few (placed.at + placed.len) to others are.2 in
    let at : placed.at ≡ from = are.0 in
    let some : 0 < placed.len = are.1 in
    omega arith

-- the instructions of a code that was read are fewer than its bytes may be
pub few_decoded :
    (code : List ℕ) (result : Result (List Placed) NoMemory)
    → AllHold (decoding_checks code)
    → ((instrs : List Placed) → decoded code ≡ Ok instrs → AreConsecutive 0 instrs (length code))
    → IfOk result (λ instrs. decoded code ≡ Ok instrs)
    → IfOk result (λ instrs. length instrs < 65536)
few_decoded code (Ok instrs) checked consecutive is =
    let below = ltb-true (length code) 65536 (and_parts (ltb 0 (length code)) (ltb (length code) 65536) checked.0).1 in
    let inside = consecutive_few 0 (length code) instrs (consecutive instrs is) in
    omega (arith, below, inside)
few_decoded code (Err fault) checked consecutive is = tt

-- ---- numbers

-- the number of the first among mapped items is that among their places
module _ {A B : Type 0} (place : B → ℕ) (made : A → B) (at : A → ℕ) (same : (x : A) → place (made x) ≡ at x) where
  first_of :
      (items : List A) (wanted : ℕ)
      → number_of_first (λ (item : B). place item == wanted) (map made items)
      ≡ first_at (map at items) wanted
  first_of [] wanted = refl
  first_of (item ∷ items) wanted = rw (same item, first_of items wanted) refl

module _ {A B C : Type 0} where
  map_twice : (f : B → C) (g : A → B) (xs : List A) → map f (map g xs) ≡ map (λ (x : A). f (g x)) xs
  map_twice f g [] = refl
  map_twice f g (x ∷ xs) = ap (λ (rest : List C). f (g x) ∷ rest) (map_twice f g xs)

map_same : {A B : Type 0} (f g : A → B) (xs : List A) → ((x : A) → f x ≡ g x) → map f xs ≡ map g xs
map_same f g [] same = refl
map_same f g (x ∷ xs) same = rw (same x) (ap (λ rest. g x ∷ rest) (map_same f g xs same))

abbrev run_placed : Links → (ℕ → ℕ) → Scope → Placed → Point
run_placed links number s placed = run_point links number (code_point s placed)

module _ (s : Scope) where
  number_is : (place : ℕ) → number_at (code_points s) place ≡ number_of (offsets_of (instructions s)) place
  number_is place =
      by (number_of_first (λ (point : CodePoint). point.place == place) (code_points s)) refl
      ∙ ap (or_count (length (code_points s))) (first_of (λ (point : CodePoint). point.place) (code_point s) (λ (placed : Placed). placed.at) (λ placed. refl) (instructions s) place)
      ∙ ap (λ (count : ℕ). or_count count (first_at (offsets_of (instructions s)) place))
      (length-map (instructions s) (code_point s) ∙ sym (length-map (instructions s) (λ (placed : Placed). placed.at)))
    where
      by :
          (found : Option ℕ)
          → number_of_first (λ (point : CodePoint). point.place == place) (code_points s) ≡ found
          → number_at (code_points s) place
          ≡ or_count (length (code_points s)) (number_of_first (λ (point : CodePoint). point.place == place) (code_points s))
      by None is = rw is refl
      by (Some number) is = rw is refl

  pub decoded_are : (instrs : List Placed) → decoded s.part.code ≡ Ok instrs → instrs ≡ instructions s
  decoded_are instrs is = rw is refl

  numbers_are : number_at (code_points s) ≡ number_of (offsets_of (instructions s))
  numbers_are = fun_ext number_is

  run_points : (links : Links) → (method_code links s).points ≡ map (run_placed links (number_of (offsets_of (instructions s))) s) (instructions s)
  run_points links =
      map_twice (run_point links (number_at (code_points s))) (code_point s) (instructions s)
      ∙ ap (λ (number : ℕ → ℕ). map (run_placed links number s) (instructions s)) numbers_are

-- ---- operations

all_one : {X : Type 0} (P : X → Type 0) (x : X) → P x → All P (x ∷ [])
all_one P x has zero other below = has
all_one P x has (suc k) other below = absurd (omega arith)

module _ (code : CodeIn) (offsets : List ℕ) where
  -- one more operation
  pub ops_more :
      (instrs : List Placed) (at : ℕ) (placed : Placed) (made : List RunOp) (op : RunOp)
      → at < length instrs
      → placed ≡ get_or instrs at placed
      → IsOp code.classes (λ links. placed_op links offsets code placed) op
      → OpIsResolved code.classes op
      → AreOps code offsets (take at instrs) made
      → AreOps code offsets (take (at + 1) instrs) (made ++ op ∷ [])
  ops_more instrs at placed made op below item is_op is_resolved are =
      let more : take (at + 1) instrs ≡ take at instrs ++ placed ∷ [] =
      take_more instrs at placed below ∙ ap (λ (p : Placed). take at instrs ++ p ∷ []) (sym item) in
      record {
        same = λ P is.
            let meant = placed_op P.links offsets code in
            map-append op_of made (op ∷ [])
            ∙ ap (λ all. all ++ op_of op ∷ []) (are.same P is)
            ∙ ap (λ o. map meant (take at instrs) ++ o ∷ []) (is_op P is)
            ∙ sym (map-append meant (take at instrs) (placed ∷ []))
            ∙ ap (map meant) (sym more);
        resolved = λ P is. All-append (IsResolved P) made (op ∷ []) (are.resolved P is) (all_one (IsResolved P) op (is_resolved P is));
      }

-- ---- all of it

pub prepared_code :
    (code : CodeIn) (prepared : PreparedMethod) (instrs : List Placed)
    → instrs ≡ instructions (scope_in code)
    → length instrs < 65536
    → prepared.locals ≡ code.part.max_locals
    → AreOps code (offsets_of instrs) instrs prepared.ops.items
    → prepared.offsets.items ≡ offsets_of instrs
    → AreHandlers code.class.pool (offsets_of instrs) code.part.handlers prepared.handlers.items
    → IsPreparedIn code prepared
prepared_code code prepared instrs same few locals are_ops offsets are_handlers = λ P is.
    let s = scope_in code in
    let points : (method_code P.links s).points ≡ map (run_placed P.links (number_of (offsets_of instrs)) s) instrs =
    subst (λ (all : List Placed). (method_code P.links s).points ≡ map (run_placed P.links (number_of (offsets_of all)) s) all) (sym same) (run_points s P.links) in
    record {
      locals = locals;
      few =
          let count : length (method_code P.links s).points ≡ length instrs =
          ap (λ (all : List Point). length all) points ∙ length-map instrs (run_placed P.links (number_of (offsets_of instrs)) s) in
          omega arith;
      ops = are_ops.same P is ∙ sym (ap (map op_at) points ∙ map_twice op_at (run_placed P.links (number_of (offsets_of instrs)) s) instrs);
      resolved = are_ops.resolved P is;
      catches =
          ap (map (catches_around prepared.handlers.items)) offsets
          ∙ map_twice (catches_around prepared.handlers.items) (λ (placed : Placed). placed.at) instrs
          ∙ map_same (λ (placed : Placed). catches_around prepared.handlers.items placed.at)
          (λ (placed : Placed). catches_at_point (run_placed P.links (number_of (offsets_of instrs)) s placed)) instrs
          (λ placed. are_handlers.same placed.at)
          ∙ sym (ap (map catches_at_point) points ∙ map_twice catches_at_point (run_placed P.links (number_of (offsets_of instrs)) s) instrs);
    }
