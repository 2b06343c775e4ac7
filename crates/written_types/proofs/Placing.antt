-- From a frame that fits a state to the blocks that begin with that state, and from the items of a block and its end to the block.
use Rattle.std.proofs.Common.{◌≡◌, ◌+◌, ℕ, suc, List, [], ◌∷◌, ◌++◌, length, Option, Some, refl, sym, ap, subst, ◌∙◌, inl, arith}
use Rattle.std.specs.List.{AllByRecursion, flat_map}
use Rattle.std.proofs.lemmas.Grind.{flat_map-append}
use Rattle.std.proofs.lemmas.Option.{none-some, same_Some}
use Rattle.class_model.specs.declared.frame.Frame.{Frame}
use Rattle.making_code.specs.Items.{WInstr, WItem, carried, constructs, load, makes, plain, store}
use Rattle.member_link.specs.Rows.Assigning.{IsFrameAssignableIn}
use Rattle.plan_flow.specs.Written.Finish.{End, Finished, end_items, goto_end, no_end, nop_end}
use Rattle.plan_flow.specs.Written.FramedCode.{frame_by_item}
use Rattle.making_code.specs.StateFrames.{state_frame}
use Rattle.plan_flow.specs.Written.WrittenCode.{Form, block_items, in_form, short, wide, widened}
use Rattle.virtual_state.specs.States.{State}
use Rattle.written_types.proofs.Given.{BeginsAt, ComesNext, EndCarries, FitsState, StandsFor, frame_at_state}
use Rattle.written_types.specs.Inner.CarriedFrames.{BlockCarries, Carries, FitsBefore, GoesBehind, LeadsIn, carries_away, carries_none, carries_on}
use Rattle.written_types.specs.Writing.{Writing, scope_in}

-- ---- frames that fit

pub fits_before : (w : Writing) (frame : Frame) (one : Finished) (at : ℕ) (state : State)
    → FitsState w frame at state
    → BeginsAt one at state
    → FitsBefore w frame one
fits_before w frame one at state fits begins = record {
  assignable =
      subst (λ (n : ℕ). IsFrameAssignableIn (scope_in w).headers (scope_in w).major frame
      (frame_by_item w.form w.blocks (state_frame w.s.flat n one.block.state))) (sym begins.is_at)
      (subst (λ (x : State). IsFrameAssignableIn (scope_in w).headers (scope_in w).major frame (frame_at_state w at x)) (sym begins.is_state)
      fits.assignable);
  no_this = fits.no_this;
}

pub leads_in : (w : Writing) (frame : Frame) (number at : ℕ) (state : State)
    → FitsState w frame at state
    → StandsFor w number at state
    → LeadsIn w (Some frame) number
leads_in w frame number at state fits stands = record {
  goes = frame;
  is_frame = refl;
  block = stands.block;
  placed = stands.placed;
  fits = fits_before w frame stands.block at state fits stands.begins;
}

pub goes_behind : (w : Writing) (frame : Frame) (behind : List Finished) (at : ℕ) (state : State)
    → FitsState w frame at state
    → ComesNext behind at state
    → GoesBehind w (Some frame) behind
goes_behind w frame behind at state fits comes =
    subst (GoesBehind w (Some frame)) (sym comes.is) (inl (fits_before w frame comes.next at state fits comes.begins))

-- ---- items, one list behind another

pub carries_both : (w : Writing) (number : ℕ) (items more : List WItem) (frame middle : Frame) (goes last : Option Frame)
    → Carries w number items frame goes
    → goes ≡ Some middle
    → Carries w (number + length items) more middle last
    → Carries w number (items ++ more) frame last
carries_both w number [] more frame middle goes last (carries_none other others) is rest =
    subst (λ (n : ℕ). Carries w n more frame last) (the_same (number + 0) number (omega arith))
    (subst (λ (f : Frame). Carries w (number + 0) more f last) (sym (same_Some frame middle is)) rest) where
      the_same : (a b : ℕ) → a ≡ b → a ≡ b
      the_same a b e = e
carries_both w number (first ∷ items) more frame middle goes last (carries_on other one others frame_too next goes_too holds flows more_of) is
    rest =
    carries_on number first (items ++ more) frame next last holds flows
    (carries_both w (suc number) items more next middle goes last more_of is
    (subst (λ (n : ℕ). Carries w n more middle last) (the_same (number + suc (length items)) (suc number + length items) (omega arith)) rest)) where
      the_same : (a b : ℕ) → a ≡ b → a ≡ b
      the_same a b e = e
carries_both w number (first ∷ []) more frame middle goes last (carries_away other one frame_too holds flows) is rest =
    absurd (none-some middle is)

-- ---- items that keep their form

-- an instruction that is not one of a class file
abbrev pub IsMade : WInstr → Type 0
IsMade (carried class instr) = ⊥
IsMade other = Unit {0}

pub one_widened : (one : WItem) → IsMade one.instr → widened one ≡ one ∷ []
one_widened one made = by one.instr refl made where
  by : (instr : WInstr) → one.instr ≡ instr → IsMade instr → widened one ≡ one ∷ []
  by (carried class instr) is made = absurd made
  by (plain instr) is made = rw (is) refl
  by (load kind unit) is made = rw (is) refl
  by (store kind unit) is made = rw (is) refl
  by (makes class) is made = rw (is) refl
  by (constructs class) is made = rw (is) refl

pub same_form : (form : Form) (items : List WItem) → AllByRecursion (λ (one : WItem). IsMade one.instr) items → in_form form items ≡ items
same_form short items all = refl
same_form wide [] all = refl
same_form wide (one ∷ items) all =
    ap (λ (xs : List WItem). xs ++ flat_map widened items) (one_widened one all.0)
    ∙ ap (λ (xs : List WItem). one ∷ xs) (same_form wide items all.1)

end_form : (form : Form) (end : End) → in_form form (end_items end) ≡ end_items end
end_form short end = refl
end_form wide no_end = refl
end_form wide (goto_end to) = refl
end_form wide nop_end = refl

pub in_form_both : (form : Form) (left right : List WItem) → in_form form (left ++ right) ≡ in_form form left ++ in_form form right
in_form_both short left right = refl
in_form_both wide left right = flat_map-append widened left right

-- the items of a block, and those of its end
pub items_and_end : (form : Form) (one : Finished) → block_items form one ≡ in_form form one.block.items ++ end_items one.end
items_and_end form one =
    in_form_both form one.block.items (end_items one.end) ∙ ap (λ (xs : List WItem). in_form form one.block.items ++ xs) (end_form form one.end)

-- ---- blocks

-- the items carry a frame to the end, and the end carries it on
pub block_carries : (w : Writing) (number : ℕ) (one : Finished) (behind : List Finished) (frame middle : Frame)
    → Carries w number (in_form w.form one.block.items) frame (Some middle)
    → EndCarries w (number + length (in_form w.form one.block.items)) one behind middle
    → BlockCarries w number one behind frame
block_carries w number one behind frame middle items end = record {
  last = end.last;
  carries =
      subst (λ (all : List WItem). Carries w number all frame end.last) (sym (items_and_end w.form one))
      (carries_both w number (in_form w.form one.block.items) (end_items one.end) frame middle (Some middle) end.last items refl end.carries);
  goes = end.goes;
}
