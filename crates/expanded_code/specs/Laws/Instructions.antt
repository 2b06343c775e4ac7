-- What stands at an offset of a method: its first instruction there, a `new` and a call.
use Rattle.std.proofs.Common.{◌≡◌, ◌≢◌, ◌==◌, ℕ, zero, suc, Bool, true, false, List, [], ◌∷◌, slice_get, Option, Some, None, option_map, if◌then◌else◌, refl, sym, ap, subst, ◌∙◌}
use Rattle.std.specs.Prelude.{option_and_then}
use Rattle.std.proofs.lemmas.Bool.{eqb-true}
use Rattle.std.proofs.lemmas.Option.{none-some, same_Some}
use Rattle.class_model.specs.PoolChecks.{class_at}
use Rattle.class_model.specs.declared.class_file.MethodAt.{MethodAt}
use Rattle.class_model.specs.declared.instr.Instr.{Instr}
use Rattle.class_model.specs.declared.instr.Instr.TheVariants.{Invoke, New}
use Rattle.class_model.specs.declared.instr.Placed.{Placed}
use Rattle.class_tree.specs.Headers.{Classes, Name}
use Rattle.expanded_code.specs.Callees.{Calls, IsCallee, instr_at, is_callee}
use Rattle.flow_code.specs.TypedFrames.{FolderFrames}
use Rattle.member_link.specs.CodedMethods.{placed_at}
use Rattle.member_link.specs.Machine.Programs.{number_of_first}
use Rattle.member_link.specs.Scope.{Scope, class_of_new, instructions, scope_at}

-- ---- instructions by their offsets

-- the first instruction at an offset
pub record FirstThere (instrs : List Placed) (at : ℕ) (placed : Placed) : Type 0 where
  pub number : ℕ
  pub first : number_of_first (λ (p : Placed). p.at == at) instrs ≡ Some number
  pub is : slice_get instrs number ≡ Some placed
  pub offset : placed.at ≡ at

pub first_there : (instrs : List Placed) (at : ℕ) (placed : Placed) → placed_at instrs at ≡ Some placed → FirstThere instrs at placed
first_there [] at placed is = absurd (none-some placed is)
first_there (first ∷ instrs) at placed is = by (first.at == at) refl is (first_there instrs at placed) where
  by : (b : Bool) → (first.at == at) ≡ b → (if b then Some first else placed_at instrs at) ≡ Some placed
      → (placed_at instrs at ≡ Some placed → FirstThere instrs at placed)
      → FirstThere (first ∷ instrs) at placed
  by true same is later = record {
    number = zero;
    first = rw (same) refl;
    is = is;
    offset = ap (λ (p : Placed). p.at) (sym (same_Some first placed is)) ∙ eqb-true first.at at same;
  }
  by false other is later =
      let there = later is in
      record { number = suc there.number; first = rw (other, there.first) refl; is = there.is; offset = there.offset }

-- the class of the new among these that stands first at an offset
module _ (s : Scope) (at : ℕ) where
  abbrev class_made : Instr → Option Name
  class_made (New index) = class_at s.class.pool index
  class_made other = None

  abbrev new_among : List Placed → Option Name
  new_among [] = None
  new_among (placed ∷ others) = if placed.at == at then class_made placed.instr else new_among others

  abbrev made_by : Option Placed → Option Name
  made_by found = option_and_then (λ (placed : Placed). class_made placed.instr) found

  first_made : (instrs : List Placed) → made_by (placed_at instrs at) ≡ new_among instrs
  first_made [] = refl
  first_made (placed ∷ others) = by (placed.at == at) (first_made others) where
    by : (here : Bool) → made_by (placed_at others at) ≡ new_among others
        → made_by (if here then Some placed else placed_at others at) ≡ (if here then class_made placed.instr else new_among others)
    by true is = refl
    by false is = is

  -- it stands at a number, and no call stands at the offset
  pub record NewThere (class : Name) : Type 0 where
    pub number : ℕ
    pub placed : Placed
    pub is : slice_get (instructions s) number ≡ Some placed
    pub offset : placed.at ≡ at
    pub no_call : (opcode index count : ℕ) → instr_at s at ≢ Some (Invoke opcode index count)

  pub new_there : (class : Name) → class_of_new s at ≡ Some class → NewThere class
  new_there class makes = by (placed_at (instructions s) at) refl (first_made (instructions s) ∙ makes) where
    by : (found : Option Placed) → placed_at (instructions s) at ≡ found → made_by found ≡ Some class → NewThere class
    by None found made = absurd (none-some class made)
    by (Some placed) found made =
        let there = first_there (instructions s) at placed found in
        record {
          number = there.number;
          placed = placed;
          is = there.is;
          offset = there.offset;
          no_call = λ opcode index count call.
              let same : placed.instr ≡ Invoke opcode index count =
              same_Some placed.instr (Invoke opcode index count)
              (sym (ap (option_map (λ (p : Placed). p.instr)) found) ∙ call) in
              none-some class (ap class_made (sym same) ∙ made);
        }

-- ---- calls

-- in place of a call stands the method that it runs
pub calls_of : {classes : Classes} {typed : FolderFrames} {host : ℕ} {from : MethodAt} {at : ℕ} {callee : MethodAt} {s : Scope}
    → IsCallee classes typed host from at callee → scope_at classes from ≡ Some s → Calls classes s at callee
calls_of {classes} {s = s}
    (is_callee from at callee host_class caller scope own frames inner of_host of_caller of_own of_scope of_frames calls may result on_this) is =
    subst (λ (t : Scope). Calls classes t at callee) (same_Some caller s (sym of_caller ∙ is)) calls
