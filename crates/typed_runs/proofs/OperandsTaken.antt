use Rattle.std.specs.Prelude.{◌≡◌, refl, ℕ, true, List, [], ◌∷◌, drop, take, reverse}
use Rattle.std.proofs.Common.{arith}
use Rattle.class_model.specs.declared.frame.Frame.{Frame}
use Rattle.class_model.specs.declared.frame.VType.{VType}
use Rattle.machine_values.specs.Frames.{MethodState}
use Rattle.machine_values.specs.Heaps.{Heap}
use Rattle.machine_values.specs.declared.frame.RunFrame.{RunFrame}
use Rattle.machine_values.specs.declared.value.Value.{Value}
use Rattle.member_link.specs.Machine.Completions.{Completion}
use Rattle.member_link.specs.Machine.Ops.{Op}
use Rattle.member_link.specs.Machine.Performing.{perform}
use Rattle.member_link.specs.Machine.Programs.{Program}
use Rattle.member_link.specs.Machine.Worlds.{World}
use Rattle.member_link.specs.RowScope.{RowScope}
use Rattle.member_link.specs.Rows.Operands.{Need, AllFit, Fits, topmost}
use Rattle.member_link.specs.Rows.Row.{plain}
use Rattle.typed_runs.proofs.Here.{Here, operands_here}
use Rattle.typed_runs.proofs.Stacks.{Operands}
use Rattle.typed_runs.proofs.Taken.{One, one_of, Two, two_of}
use Rattle.typed_runs.specs.Conforming.{Conforms, AllConform, and_value}
use Rattle.typed_runs.specs.TypedPrograms.{Typings}
use Rattle.typed_runs.specs.TypedWorlds.{StaysTyped}

-- the three values that an instruction takes, and their types
pub record Three (P : Program) (s : RowScope) (h : Heap) (r : RowScope) (first second third : Need) (types : List VType)
    (v x y : Value) : Type 0 where
  pub first_type : VType
  pub second_type : VType
  pub third_type : VType
  pub are_types : types ≡ first_type ∷ second_type ∷ third_type ∷ []
  pub first_fits : Fits r first first_type
  pub second_fits : Fits r second second_type
  pub third_fits : Fits r third third_type
  pub first_conforms : Conforms P s h first_type v
  pub second_conforms : Conforms P s h second_type x
  pub third_conforms : Conforms P s h third_type y

pub three_of : {P : Program} {s : RowScope} {h : Heap} (r : RowScope) (first second third : Need) (types : List VType) {v x y : Value}
    → AllFit r (first ∷ second ∷ third ∷ []) types → AllConform P s h types (v ∷ x ∷ y ∷ [])
    → Three P s h r first second third types v x y
three_of r first second third (t ∷ u ∷ z ∷ []) fit (and_value c (and_value d (and_value e others))) =
    record {
      first_type = t;
      second_type = u;
      third_type = z;
      are_types = refl;
      first_fits = fit.0;
      second_fits = fit.1.0;
      third_fits =
          fit.1.1.0;
      first_conforms = c;
      second_conforms = d;
      third_conforms = e;
    }
three_of r first second third (t ∷ u ∷ z ∷ a ∷ ts) fit all = absurd fit.1.1.1
three_of r first second third (t ∷ u ∷ []) fit all = absurd fit.1.1
three_of r first second third (t ∷ []) fit all = absurd fit.1
three_of r first second third [] fit all = absurd fit

-- ---- what an operation comes to, by the operands that it takes

-- an operation takes so many operands, and what it comes to leaves a typed world
abbrev pub ComesTyped : Program → Typings → World → MethodState → List RunFrame → ℕ → Completion → Type 0
ComesTyped P T w f rest n c = StaysTyped P T w (perform P w f (record f { stack = drop n f.stack }) rest c)

module _ {P : Program} {T : Typings} {w : World} {f : MethodState} {rest : List RunFrame} {s : RowScope} {frame : Frame} {place : ℕ}
    {numbered : ℕ → ℕ} {op : Op} {given : List VType} where
  pub of_one : (need : Need) (h : Here P T w f rest s frame place numbered (plain frame (need ∷ []) given) op true [])
      (work : List Value → Completion)
      → ((v : Value) → One P (T f.at).scope w.memory.heap s need (topmost 1 frame.stack) v → ComesTyped P T w f rest 1 (work (v ∷ [])))
      → ComesTyped P T w f rest 1 (work (reverse (take 1 f.stack)))
  of_one need h work proved = by f.stack refl (operands_here h) where
    by : (stack : List Value) → f.stack ≡ stack → Operands P (T f.at).scope w.memory.heap frame.stack stack 1
        → ComesTyped P T w f rest 1 (work (reverse (take 1 stack)))
    by [] e o = absurd (omega (arith, o.enough))
    by (v ∷ others) e o = proved v (one_of s need (topmost 1 frame.stack) h.holds.operands o.values)

  pub of_two : (first second : Need) (h : Here P T w f rest s frame place numbered (plain frame (first ∷ second ∷ []) given) op true [])
      (work : List Value → Completion)
      → ((v x : Value) → Two P (T f.at).scope w.memory.heap s first second (topmost 2 frame.stack) v x → ComesTyped P T w f rest 2
      (work (v ∷ x ∷ [])))
      → ComesTyped P T w f rest 2 (work (reverse (take 2 f.stack)))
  of_two first second h work proved = by f.stack refl (operands_here h) where
    by : (stack : List Value) → f.stack ≡ stack → Operands P (T f.at).scope w.memory.heap frame.stack stack 2
        → ComesTyped P T w f rest 2 (work (reverse (take 2 stack)))
    by [] e o = absurd (omega (arith, o.enough))
    by (x ∷ []) e o = absurd (omega (arith, o.enough))
    by (x ∷ v ∷ others) e o = proved v x (two_of s first second (topmost 2 frame.stack) h.holds.operands o.values)

  pub of_three : (first second third : Need) (h : Here P T w f rest s frame place numbered (plain frame (first ∷ second ∷ third ∷ []) given)
      op true []) (work : List Value → Completion)
      → ((v x y : Value) → Three P (T f.at).scope w.memory.heap s first second third (topmost 3 frame.stack) v x y
      → ComesTyped P T w f rest 3 (work (v ∷ x ∷ y ∷ [])))
      → ComesTyped P T w f rest 3 (work (reverse (take 3 f.stack)))
  of_three first second third h work proved = by f.stack refl (operands_here h) where
    by : (stack : List Value) → f.stack ≡ stack → Operands P (T f.at).scope w.memory.heap frame.stack stack 3
        → ComesTyped P T w f rest 3 (work (reverse (take 3 stack)))
    by [] e o = absurd (omega (arith, o.enough))
    by (y ∷ []) e o = absurd (omega (arith, o.enough))
    by (y ∷ x ∷ []) e o = absurd (omega (arith, o.enough))
    by (y ∷ x ∷ v ∷ others) e o = proved v x y (three_of s first second third (topmost 3 frame.stack) h.holds.operands o.values)
