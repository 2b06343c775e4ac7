-- What is known of the code of a method that was read.
use Rattle.std.proofs.Common.{◌≡◌, ◌==◌, ◌+◌, ◌<◌, ◌≤◌, ltb, ℕ, suc, Bool, true, false, List, [], ◌∷◌, length, map, Option, Some, None, Result, Ok, Err, IfOk, option_map, refl, sym, ap, subst, ◌∙◌, arith, if◌then◌else◌}
use Rattle.std.proofs.lemmas.Bool.{and_parts, ltb-true}
use Rattle.std.proofs.lemmas.List.{length-map}
use Rattle.std.specs.List.{AllByRecursion}
use Rattle.class_model.specs.Checks.{AllHold, Fault}
use Rattle.class_model.specs.Code.{OperandFits}
use Rattle.class_model.specs.Instructions.{decoded}
use Rattle.class_model.specs.Laws.Codes.{code_has}
use Rattle.class_model.specs.Laws.Lists.{AllByRecursion-weaker}
use Rattle.class_model.specs.MethodCode.{code_of}
use Rattle.class_model.specs.OffsetIndexes.{first_at, number_in as number_for}
use Rattle.class_model.specs.Pool.{Constants}
use Rattle.class_model.specs.declared.class_file.CodePart.{CodePart}
use Rattle.class_model.specs.declared.class_file.Method.{Method}
use Rattle.class_model.specs.declared.instr.Instr.{Instr}
use Rattle.class_model.specs.declared.instr.Instr.TheVariants.{Load, Store, Iinc}
use Rattle.class_model.specs.declared.instr.Placed.{Placed}
use Rattle.class_model.specs.declared.memory.NoMemory.{NoMemory}
use Rattle.code_bytes.specs.Codes.{HasInstrs, HasOperands, HaveOperands, IsReadMethod}
use Rattle.code_bytes.specs.Consecutive.{AreConsecutive}
use Rattle.code_bytes.specs.Decoding.{decoding_checks}
use Rattle.expanded_code.specs.Alone.{number_at, number_in}
use Rattle.expanded_code.specs.Laws.NumberedInstrs.{found-instr, or_behind}
use Rattle.flow_code.specs.FlatCode.{HasLocal}
use Rattle.inline_expand.specs.Inner.Hosts.{HasUnits, IsHost}
use Rattle.member_link.specs.Machine.Programs.{number_of_first}
use Rattle.member_link.specs.Scope.{Scope, instructions}

-- ---- lengths

consecutive-few : (from to : ℕ) (instrs : List Placed) → AreConsecutive from instrs to → from + length instrs ≤ to
consecutive-few from to [] are = let same : from ≡ to = are in omega arith
consecutive-few from to (placed ∷ others) are =
    let rest = consecutive-few (placed.at + placed.len) to others are.2 in
    let at : placed.at ≡ from = are.0 in
    let some : 0 < placed.len = are.1 in
    omega arith

-- the instructions of a code that was read are fewer than its bytes may be
pub few-decoded : (code : List ℕ) (result : Result (List Placed) NoMemory) → AllHold (decoding_checks code) → ((instrs : List Placed) → decoded code ≡ Ok instrs → AreConsecutive 0 instrs (length code))
    → IfOk result (λ instrs. decoded code ≡ Ok instrs) → IfOk result (λ instrs. length instrs < 65536)
few-decoded code (Ok instrs) checked consecutive is =
    let below = ltb-true (length code) 65536 (and_parts (ltb 0 (length code)) (ltb (length code) 65536) checked.0).1 in
    let inside = consecutive-few 0 (length code) instrs (consecutive instrs is) in
    omega (arith, below, inside)
few-decoded code (Err fault) checked consecutive is = tt

-- what a code is decoded to are its instructions
pub decoded-are : (s : Scope) (instrs : List Placed) → decoded s.part.code ≡ Ok instrs → instructions s ≡ instrs
decoded-are s instrs is = rw is refl

none-decoded : (s : Scope) (fault : Fault) → decoded s.part.code ≡ Err fault → instructions s ≡ []
none-decoded s fault is = rw is refl

-- ---- local units

has-local : (pool : Constants) (major max_locals : ℕ) (instr : Instr) → OperandFits pool major max_locals instr → HasLocal max_locals instr
has-local pool major max_locals (Load kind local) fits = fits
has-local pool major max_locals (Store kind local) fits = fits
has-local pool major max_locals (Iinc local by) fits = fits
has-local pool major max_locals instr fits = tt

abbrev HaveUnits : ℕ → List Placed → Type 0
HaveUnits max_locals instrs = AllByRecursion (λ (placed : Placed). HasLocal max_locals placed.instr) instrs

pub has-units : (s : Scope) → HaveOperands s.class.pool s.class.major s.part.max_locals (decoded s.part.code) → HasUnits s
has-units s have = of-result (decoded s.part.code) refl have where
  of-result : (result : Result (List Placed) Fault) → decoded s.part.code ≡ result → HaveOperands s.class.pool s.class.major s.part.max_locals result → HasUnits s
  of-result (Ok instrs) is have =
      let each : HaveUnits s.part.max_locals instrs = AllByRecursion-weaker (λ (placed : Placed). OperandFits s.class.pool s.class.major s.part.max_locals placed.instr) (λ (placed : Placed). HasLocal s.part.max_locals placed.instr)
      (λ placed fits. has-local s.class.pool s.class.major s.part.max_locals placed.instr fits) instrs have in
      subst (HaveUnits s.part.max_locals) (sym (decoded-are s instrs is)) each
  of-result (Err fault) is have = subst (HaveUnits s.part.max_locals) (sym (none-decoded s fault is)) tt

-- of a method of a class file that was read
pub read-instrs : (pool : Constants) (method : Method) (part : CodePart) → IsReadMethod pool method → code_of method.attrs ≡ Some part → AllHold (decoding_checks part.code)
read-instrs pool method part read found = code_has HasInstrs (λ (p : CodePart). AllHold (decoding_checks p.code)) (λ name p h. h) method.attrs part read.codes found

pub read-units : (s : Scope) → AllByRecursion (HasOperands s.class.pool s.class.major) s.method.attrs → code_of s.method.attrs ≡ Some s.part → HasUnits s
read-units s operands found =
    has-units s (code_has (HasOperands s.class.pool s.class.major) (λ (p : CodePart). HaveOperands s.class.pool s.class.major p.max_locals (decoded p.code)) (λ name p h. h) s.method.attrs s.part operands found)

-- ---- numbers

inside-more : (here : Bool) (others : Option ℕ) (count number : ℕ) → ((n : ℕ) → others ≡ Some n → n < count) → (if here then Some 0 else option_map suc others) ≡ Some number → number < suc count
inside-more true others count number inside is = let zero_is : 0 ≡ number = cc in omega (arith, zero_is)
inside-more false None count number inside is = absurd cc
inside-more false (Some n) count number inside is =
    let below = inside n refl in
    let next : suc n ≡ number = cc in
    omega (arith, below, next)

first-inside : (offsets : List ℕ) (at number : ℕ) → first_at offsets at ≡ Some number → number < length offsets
first-inside [] at number is = absurd cc
first-inside (offset ∷ offsets) at number is = inside-more (offset == at) (first_at offsets at) (length offsets) number (first-inside offsets at) is

first-same : (at : ℕ) (instrs : List Placed) → first_at (map (λ (placed : Placed). placed.at) instrs) at ≡ number_of_first (λ (placed : Placed). placed.at == at) instrs
first-same at [] = refl
first-same at (placed ∷ instrs) = rw (first-same at instrs) refl

module _ (s : Scope) (instrs : List Placed) (index : List ℕ) (is : IsHost s instrs index) (at : ℕ) where
  found-same : number_for index at ≡ number_of_first (λ (placed : Placed). placed.at == at) instrs
  found-same = is.finds at ∙ first-same at instrs

  at-found : (found : Option ℕ) → number_for index at ≡ found → number_at s at ≡ or_behind (length instrs) found
  at-found found e = ap (λ (all : List Placed). number_in all at) is.are ∙ found-instr instrs at found (sym found-same ∙ e)

  pub number-there : (number : ℕ) → Some number ≡ number_for index at → number ≡ number_at s at
  number-there number e = sym (at-found (Some number) (sym e))

  pub number-none : None ≡ number_for index at → length instrs ≡ number_at s at
  number-none e = sym (at-found None (sym e))

  pub number-few : (number : ℕ) → Some number ≡ number_for index at → number < 65536
  number-few number e =
      let below = first-inside (map (λ (placed : Placed). placed.at) instrs) at number (sym (is.finds at) ∙ sym e) in
      omega (arith, below, length-map instrs (λ (placed : Placed). placed.at), is.few)
