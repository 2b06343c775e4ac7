-- Parts of what stands in flat code: operations that are the same in it, and the points of returns and entries.
use Rattle.std.proofs.Common.{◌≡◌, ℕ, zero, suc, Bool, true, false, List, [], ◌∷◌, map, slice_get, bytes_eq, Option, Some, None, inl, inr, refl, sym, ap, ◌∙◌, if◌then◌else◌}
use Rattle.std.specs.Prelude.{◌⊎◌}
use Rattle.std.proofs.lemmas.Option.{same_Some}
use Rattle.std.proofs.lemmas.Slice.Eq.{bytes_eq-Decides}
use Rattle.std.specs.List.{AllByRecursion}
use Rattle.class_model.specs.Members.{is_text}
use Rattle.class_model.specs.Names.{clinit}
use Rattle.class_model.specs.PoolChecks.{descriptor_at, name_at, text_or_empty}
use Rattle.class_model.specs.declared.class_file.MethodAt.{MethodAt}
use Rattle.class_model.specs.declared.descriptor.FieldType.{FieldType}
use Rattle.class_model.specs.declared.descriptor.FieldType.TheVariants as types
use Rattle.class_model.specs.declared.descriptor.Kind.{Kind}
use Rattle.class_model.specs.declared.frame.Frame.{Frame}
use Rattle.class_model.specs.declared.header.Header.{Header}
use Rattle.class_model.specs.declared.instr.Instr.{Instr}
use Rattle.class_model.specs.declared.instr.Instr.TheVariants.{New, PutField, PutStatic, Return, Store}
use Rattle.class_model.specs.declared.instr.Placed.{Placed}
use Rattle.class_model.specs.declared.pool.Const.{Const as PoolConst}
use Rattle.class_model.specs.declared.pool.Const.TheVariants.{InvokeDynamic}
use Rattle.expanded_code.specs.Expanded.{Argument, Narrowing, callee_of, frame_stored, instr_points, narrowing, own_points, point_in, return_points, set_frame, set_instr, store_points}
use Rattle.expanded_runs.proofs.Runs.CalleeLaws.{IsNew}
use Rattle.expanded_runs.proofs.Runs.FlatOps.{EndsHost, narrowing_ops}
use Rattle.expanded_runs.proofs.Runs.MovedOps.{IsPlainOp, Keeps, Same}
use Rattle.expanded_runs.proofs.Runs.Positions.{Standing}
use Rattle.member_link.specs.Machine.Codes.{dynamic_op, initialises, instr_op, return_op}
use Rattle.member_link.specs.Machine.Ops.{Op, meaningless, put_static, return_nothing, return_value}
use Rattle.member_link.specs.Machine.Programs.{Links, Program}
use Rattle.member_link.specs.References.{Reference}
use Rattle.member_link.specs.RowScope.{RowScope}
use Rattle.same_runs.specs.SameMoves.{moved}
use Rattle.same_runs.specs.SamePrograms.{SameBar, SameOp, same_op}

-- ---- operations

pub static_same : {P Q : Program} {r : Reference} (c d : Bool) (one other : Header) → c ≡ false → d ≡ false
    → SameBar P Q r (initialises c one) (initialises d other)
    → SameOp P Q (put_static r (initialises c one)) (put_static r (initialises d other))
static_same true d one other passed apart bar = absurd cc
static_same false true one other passed apart bar = absurd cc
static_same false false one other passed apart bar = same_op bar

module _ (P Q : Program) (links : Links) (unit : ℕ) (number start : ℕ → ℕ) (one other : RowScope) where
  pub same_return : (result : Option FieldType) (kind : Option Kind)
      → Same P Q links unit number start one other (return_op result kind) (return_op result kind)
  same_return None None = same_op tt
  same_return None (Some kind) = same_op tt
  same_return (Some type) None = same_op tt
  same_return (Some type) (Some kind) = by _ where
    by : (b : Bool) → SameOp P Q (moved unit start (if b then return_value type else meaningless)) (if b then return_value type else meaningless)
    by true = same_op tt
    by false = same_op tt

  pub same_dynamic : (s : RowScope) (c : Option PoolConst)
      → Keeps P Q links unit number start one other (dynamic_op s c) (dynamic_op s c)
  same_dynamic s (Some (InvokeDynamic bootstrap member)) = by (name_at s.pool member) refl (descriptor_at s.pool member) refl where
    by : (name : Option (List ℕ)) → name_at s.pool member ≡ name → (desc : Option (List ℕ)) → descriptor_at s.pool member ≡ desc
        → Keeps P Q links unit number start one other (dynamic_op s (Some (InvokeDynamic bootstrap member)))
        (dynamic_op s (Some (InvokeDynamic bootstrap member)))
    by None n desc d = rw (n) (same_op tt, tt)
    by (Some name) n None d = rw (n, d) (same_op tt, tt)
    by (Some name) n (Some desc) d = rw (n, d) (same_op tt, tt)
  same_dynamic s c = (same_op tt, tt)

pub ends_plain : (chain : List MethodAt) (op : Op) → IsPlainOp op → EndsHost chain op
ends_plain [] op plain = tt
ends_plain (callee ∷ chain) return_nothing plain = absurd plain
ends_plain (callee ∷ chain) (return_value type) plain = absurd plain
ends_plain (callee ∷ chain) op plain = tt

pub all_of : {A : Type 0} (P : A → Type 0) → ((x : A) → P x) → (xs : List A) → AllByRecursion P xs
all_of P each [] = tt
all_of P each (x ∷ xs) = (each x, all_of P each xs)

-- an instruction that stands for itself
abbrev pub IsKeptInstr : Option ℕ → Instr → Type 0
IsKeptInstr (Some behind) (Return kind) = ⊥
IsKeptInstr behind instr = Unit {0}

module _ (p : Standing) (placed : Placed) (frame : Frame) where
  pub kept_points : IsKeptInstr p.setting.behind placed.instr
      → instr_points p.setting placed frame ≡ point_in p.setting placed.at (set_frame p.setting frame) (set_instr p.setting placed.instr) ∷ []
  kept_points kept = by p.setting.behind refl placed.instr refl kept where
    by : (behind : Option ℕ) → p.setting.behind ≡ behind → (instr : Instr) → placed.instr ≡ instr → IsKeptInstr behind instr
        → instr_points p.setting placed frame ≡ point_in p.setting placed.at (set_frame p.setting frame) (set_instr p.setting placed.instr) ∷ []
    by None b instr i kept = rw (b) refl
    by (Some behind) b (Return kind) i kept = absurd kept
    by (Some behind) b instr i kept = rw (b, i) refl

  pub kept_width : IsKeptInstr p.setting.behind placed.instr → own_points (callee_of p.setting) placed.instr ≡ 1
  kept_width kept = by p.setting.behind refl placed.instr refl kept where
    by : (behind : Option ℕ) → p.setting.behind ≡ behind → (instr : Instr) → placed.instr ≡ instr → IsKeptInstr behind instr
        → own_points (callee_of p.setting) placed.instr ≡ 1
    by None b instr i kept = rw (b) refl
    by (Some behind) b (Return kind) i kept = absurd kept
    by (Some behind) b instr i kept = rw (b, i) refl

  pub returned_points : (behind : ℕ) (kind : Option Kind) → p.setting.behind ≡ Some behind → placed.instr ≡ Return kind
      → instr_points p.setting placed frame ≡ return_points p.setting placed.at (set_frame p.setting frame) behind
  returned_points behind kind b i = rw (b, i) refl

-- ---- stores of arguments

pub stored_at : (p : Standing) (at : ℕ) (frame : Frame) (all : List Argument) (i : ℕ) (argument : Argument)
    → slice_get all i ≡ Some argument
    → (typed : Frame) × (slice_get (store_points p.setting at frame all) i ≡ Some (point_in p.setting at typed (Store argument.kind argument.unit)))
stored_at p at frame [] i argument is = absurd cc
stored_at p at frame (first ∷ others) zero argument is =
    (frame, ap (λ (a : Argument). Some (point_in p.setting at frame (Store a.kind a.unit))) (same_Some first argument is))
stored_at p at frame (first ∷ others) (suc i) argument is = stored_at p at (frame_stored frame first) others i argument is

-- ---- narrowing

module _ (links : Links) (number : ℕ → ℕ) (s : RowScope) where
  pub narrowed_by : (result : Option FieldType)
      → narrowing_ops result ≡ map (λ (n : Narrowing). instr_op links number s n.instr) (narrowing result)
  narrowed_by None = refl
  narrowed_by (Some types.Byte) = refl
  narrowed_by (Some types.Short) = refl
  narrowed_by (Some types.Char) = refl
  narrowed_by (Some types.Bool) = refl
  narrowed_by (Some type) = refl

pub clinit_text : (text : Option (List ℕ)) → is_text clinit text ≡ true → bytes_eq (text_or_empty text) clinit ≡ true
clinit_text None is = absurd cc
clinit_text (Some text) is = (bytes_eq-Decides text clinit).1 (sym ((bytes_eq-Decides clinit text).0 is))

-- a new is no store
pub no_store : (instr : Instr) (index : ℕ) → IsNew instr → (instr ≡ PutField index) ⊎ (instr ≡ PutStatic index) → ⊥
no_store instr index new (inl is) = let e : New new.index ≡ PutField index = sym new.is ∙ is in cc
no_store instr index new (inr is) = let e : New new.index ≡ PutStatic index = sym new.is ∙ is in cc
