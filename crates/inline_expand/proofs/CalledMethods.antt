-- The call at an offset, and the method of the folder that it runs.
use Rattle.std.proofs.Common.{◌≡◌, ◌==◌, ℕ, zero, suc, Bool, true, false, List, [], ◌∷◌, length, slice_get, Option, Some, None, option_map, if◌then◌else◌, refl, sym, ap, subst, ◌∙◌}
use Rattle.std.proofs.lemmas.Option.{none-some, same_Some}
use Rattle.class_model.specs.Pool.{Constants, constant_at}
use Rattle.class_model.specs.declared.class_file.MethodAt.{MethodAt}
use Rattle.class_model.specs.declared.instr.Instr.{Instr}
use Rattle.class_model.specs.declared.instr.Instr.TheVariants.{Invoke}
use Rattle.class_model.specs.declared.instr.Placed.{Placed}
use Rattle.class_tree.specs.Headers.{Classes, headers_of}
use Rattle.class_tree.specs.Hierarchy.{IsHierarchy}
use Rattle.expanded_code.specs.Alone.{number_at}
use Rattle.expanded_code.specs.Callees.{Calls, IsCall, Runs, StandsAt, instr_at, own_name}
use Rattle.expanded_code.specs.Laws.NumberedInstrs.{found-instr, or_behind}
use Rattle.inline_expand.proofs.DecidedRuns.{HasLaws, runs_once}
use Rattle.inline_expand.proofs.FoundMethods.{stands_once}
use Rattle.inline_expand.specs.Inner.Calls.{Called, DecidesCall, DecidesRun, call_at, called_as, called_by}
use Rattle.member_link.specs.CodedMethods.{placed_at}
use Rattle.member_link.specs.DeclaredMembers.{Declared}
use Rattle.member_link.specs.Machine.Programs.{number_of_first}
use Rattle.member_link.specs.References.{Reference}
use Rattle.member_link.specs.Scope.{Scope, instructions}
use Rattle.member_link.specs.Signatures.{reference_of}

-- ---- instructions by their numbers

placed_first : (at : ℕ) (instrs : List Placed) → placed_at instrs at ≡ slice_get instrs (or_behind (length instrs) (number_of_first (λ (placed : Placed). placed.at == at) instrs))
placed_first at [] = refl
placed_first at (placed ∷ instrs) = by (placed.at == at) (number_of_first (λ (placed : Placed). placed.at == at) instrs) (placed_first at instrs)
  where
    by : (here : Bool) (found : Option ℕ) → placed_at instrs at ≡ slice_get instrs (or_behind (length instrs) found) → (if here then Some placed else placed_at instrs at) ≡ slice_get (placed ∷ instrs) (or_behind (suc (length instrs)) (if here then Some zero else option_map suc found))
    by true found later = refl
    by false None later = later
    by false (Some number) later = later

-- the instruction at an offset is the one of its number
pub placed_by_number : (s : Scope) (at : ℕ) → placed_at (instructions s) at ≡ slice_get (instructions s) (number_at s at)
placed_by_number s at =
    let instrs = instructions s in
    placed_first at instrs ∙ ap (slice_get instrs) (sym (found-instr instrs at (number_of_first (λ (placed : Placed). placed.at == at) instrs) refl))

-- what is read of the instruction of a number is what is read at its offset
pub call_is : (s : Scope) (at : ℕ) (instrs : List Placed) (number : ℕ) → instrs ≡ instructions s → number ≡ number_at s at → (placed : Option Placed) → slice_get instrs number ≡ placed → (pool : Constants) → pool ≡ s.class.pool → (call : Option Called) → call ≡ called_by pool (option_map (λ (p : Placed). p.instr) placed) → call ≡ call_at s at
call_is s at instrs number are is placed read pool own call reads =
    let found : slice_get (instructions s) (number_at s at) ≡ placed = ap (λ (all : List Placed). slice_get all (number_at s at)) (sym are) ∙ ap (slice_get instrs) (sym is) ∙ read in
    let instr : instr_at s at ≡ option_map (λ (p : Placed). p.instr) placed = ap (option_map (λ (p : Placed). p.instr)) (placed_by_number s at ∙ found) in
    reads ∙ ap (λ (constants : Constants). called_by constants (option_map (λ (p : Placed). p.instr) placed)) own ∙ ap (called_by s.class.pool) (sym instr)

-- ---- calls

module _ (s : Scope) (at : ℕ) where
  -- a call is the one that is read there
  pub read_call : {opcode : ℕ} {reference : Reference} → IsCall s at opcode reference → call_at s at ≡ Some (called_as opcode reference)
  read_call {opcode} {reference} is = ap (called_by s.class.pool) is.is ∙ ap (option_map (called_as opcode)) is.names

  named_call : (opcode index count : ℕ) (call : Called) → instr_at s at ≡ Some (Invoke opcode index count) → (found : Option Reference) → reference_of s.class.pool (constant_at s.class.pool index) ≡ found → option_map (called_as opcode) found ≡ Some call → IsCall s at call.opcode call.reference
  named_call opcode index count call is None names e = absurd (none-some call e)
  named_call opcode index count call is (Some reference) names e =
      subst (λ (c : Called). IsCall s at c.opcode c.reference) (same_Some (called_as opcode reference) call e) (record { index = index; count = count; is = is; names = names })

  call_of_instr : (call : Called) (instr : Option Instr) → instr_at s at ≡ instr → called_by s.class.pool instr ≡ Some call → IsCall s at call.opcode call.reference
  call_of_instr call (Some (Invoke opcode index count)) is e = named_call opcode index count call is (reference_of s.class.pool (constant_at s.class.pool index)) refl e
  call_of_instr call other is e = absurd (none-some call e)

  -- and the one that is read stands there
  pub call_stands : (call : Called) → call_at s at ≡ Some call → IsCall s at call.opcode call.reference
  call_stands call e = call_of_instr call (instr_at s at) refl e

-- ---- the method that it runs

module _ (classes : Classes) (s : Scope) (at : ℕ) where
  called_at : (call : Called) → call_at s at ≡ Some call → {callee : MethodAt} → Calls classes s at callee → (method : Declared) × Runs (headers_of classes) (own_name s) call.reference call.opcode method × StandsAt classes callee method
  called_at call read {callee} calls =
      let same : called_as calls.opcode calls.reference ≡ call = same_Some (called_as calls.opcode calls.reference) call (sym (read_call s at calls.is_call) ∙ read) in
      (calls.method, subst (λ (c : Called). Runs (headers_of classes) (own_name s) c.reference c.opcode calls.method) same calls.runs, calls.stands)

  pub decides_call : (call : Called) → call_at s at ≡ Some call → (callee : Option MethodAt) → DecidesRun classes (own_name s) call.reference call.opcode callee → DecidesCall classes s at callee
  decides_call call read (Some callee) run = record { opcode = call.opcode; reference = call.reference; is_call = call_stands s at call read; method = run.method; runs = run.runs; stands = run.stands }
  decides_call call read None none = λ callee calls.
      let at_call = called_at call read calls in
      none callee (record { method = at_call.0; runs = at_call.1; stands = at_call.2 })

  pub calls_once : HasLaws → IsHierarchy (headers_of classes) → (one other : MethodAt) → Calls classes s at one → Calls classes s at other → one ≡ other
  calls_once laws hierarchy one other calls also =
      let call = called_as calls.opcode calls.reference in
      let at_call = called_at call (read_call s at calls.is_call) also in
      let method : calls.method ≡ at_call.0 = runs_once laws calls.runs at_call.1 in
      stands_once classes hierarchy one other (subst (StandsAt classes one) method calls.stands) at_call.2
