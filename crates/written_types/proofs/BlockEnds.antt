-- What a block ends with: a nop keeps each frame, and a goto leads to the block of its target.
use Rattle.std.proofs.Common.{◌≡◌, ◌-◌, ℕ, List, [], ◌∷◌, ◌++◌, drop, length, take, Option, Some, None, refl, sym, ap, subst, ◌∙◌, arith}
use Rattle.std.proofs.lemmas.List.{append-nil}
use Rattle.class_model.specs.declared.frame.Frame.{Frame}
use Rattle.class_model.specs.declared.frame.VType.{VType}
use Rattle.class_model.specs.declared.instr.Instr.TheVariants.{Goto, Nop}
use Rattle.making_code.specs.Items.{WItem, item, plain, to_point}
use Rattle.member_link.specs.Rows.Operands.{AllFit, topmost, under}
use Rattle.plan_flow.specs.Written.Finish.{begins_point}
use Rattle.plan_flow.specs.Written.WrittenCode.{start_of}
use Rattle.written_types.specs.Inner.CarriedFrames.{Carries, ItemHolds, LeadsIn, carries_away, carries_none, carries_on}
use Rattle.written_types.specs.Writing.{Writing, scope_in}

none_dropped : (stack : List VType) (count : ℕ) → count ≡ length stack → drop count stack ≡ []
none_dropped [] count is = rw (is) refl
none_dropped (type ∷ stack) count is = rw (is) (none_dropped stack (length stack) refl)

all_taken : (stack : List VType) (count : ℕ) → count ≡ length stack → take count stack ≡ stack
all_taken [] count is = rw (is) refl
all_taken (type ∷ stack) count is = rw (is) (ap (λ (rest : List VType). type ∷ rest) (all_taken stack (length stack) refl))

pub topmost_none : (stack : List VType) → topmost 0 stack ≡ []
topmost_none stack = none_dropped stack (length stack - 0) (omega arith)

pub under_none : (stack : List VType) → under 0 stack ≡ stack
under_none stack = all_taken stack (length stack - 0) (omega arith)

-- the frame behind an instruction that takes nothing and gives nothing
kept_frame : (frame : Frame) → Some (record { locals = frame.locals; stack = under 0 frame.stack ++ [] }) ≡ Some frame
kept_frame frame =
    ap (λ (stack : List VType). Some (record { locals = frame.locals; stack = stack })) (append-nil (under 0 frame.stack) ∙ under_none frame.stack)

pub nop_holds : (w : Writing) (number : ℕ) (frame : Frame) → ItemHolds w number (item (plain Nop)) frame
nop_holds w number frame = record {
  row = record { operands = subst (AllFit (scope_in w) []) (sym (topmost_none frame.stack)) tt; local = tt; further = tt; access = tt };
  targets = tt;
  handlers = tt;
  access = λ usable. tt;
}

pub nop_carries : (w : Writing) (number : ℕ) (frame : Frame) → Carries w number (item (plain Nop) ∷ []) frame (Some frame)
nop_carries w number frame =
    carries_on number (item (plain Nop)) [] frame frame (Some frame) (nop_holds w number frame) (kept_frame frame)
    (carries_none (ℕ.suc number) frame)

abbrev pub goto_item : ℕ → WItem
goto_item to = record { instr = plain (Goto 0); targets = to_point to ∷ []; catches = [] }

pub goto_carries : (w : Writing) (number to : ℕ) (frame : Frame)
    → LeadsIn w (Some frame) (start_of w.form w.blocks (begins_point to))
    → Carries w number (goto_item to ∷ []) frame None
goto_carries w number to frame leads =
    carries_away number (goto_item to) frame
    (record {
      row = record { operands = subst (AllFit (scope_in w) []) (sym (topmost_none frame.stack)) tt; local = tt; further = tt; access = tt };
      targets = (subst (λ (from : Option Frame). LeadsIn w from (start_of w.form w.blocks (begins_point to))) (sym (kept_frame frame)) leads, tt);
      handlers = tt;
      access = λ usable. tt;
    }) refl
