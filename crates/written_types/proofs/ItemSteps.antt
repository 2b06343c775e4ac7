-- Single items without jumps and handlers: what each asks of a frame, and the frame behind it.
use Rattle.std.proofs.Common.{◌≡◌, ℕ, suc, Bool, true, false, List, [], ◌∷◌, ◌++◌, length, map, slice_get, Option, Some, None, refl, sym, ap, subst, ◌∙◌}
use Rattle.std.specs.Prelude.{◌&&◌, if◌then◌else◌}
use Rattle.std.proofs.lemmas.Bool.{false≢true}
use Rattle.std.proofs.lemmas.List.{append-nil, length-map}
use Rattle.class_model.specs.declared.descriptor.Kind.{Kind}
use Rattle.class_model.specs.declared.frame.Frame.{Frame}
use Rattle.class_model.specs.declared.frame.VType.{VType}
use Rattle.class_model.specs.declared.instr.Imm.{Imm}
use Rattle.class_model.specs.declared.instr.Instr.TheVariants.{Const, Pure, Shuffle}
use Rattle.class_model.specs.declared.opcodes.TheConstants.{POP}
use Rattle.making_code.specs.Items.{WItem, item, load, plain, store}
use Rattle.making_code.specs.Units.{WUnit, unit_number}
use Rattle.member_link.specs.Rows.ArithmeticRows.{Operation, operation_in, operation_row, pure_operations, type_of_kind}
use Rattle.member_link.specs.Rows.LocalRows.{HasRoom, local_entry, stored, type_of_imm}
use Rattle.member_link.specs.Rows.Operands.{AllFit, Fits, IsOfKind, lowest_of, of_kind, topmost, under}
use Rattle.member_link.specs.Rows.Row.{access_aside, row_frame}
use Rattle.member_link.specs.Rows.ShuffleRows.{Form, Width, form_in, form_row, forms_of, has_width, have_widths, need_of, one, picked, two}
use Rattle.written_types.proofs.BlockEnds.{topmost_none, under_none}
use Rattle.written_types.proofs.SlotFrames.{topmost_is, under_is}
use Rattle.written_types.proofs.Standing.{fit_long}
use Rattle.written_types.specs.HeldRows.{RowFits}
use Rattle.written_types.specs.Inner.CarriedFrames.{Carries, carries_on}
use Rattle.written_types.specs.Writing.{Writing, scope_in}

abbrev pub frame_of : List VType → List VType → Frame
frame_of locals stack = record { locals = locals; stack = stack }

module _ (w : Writing) (number : ℕ) (frame : Frame) (others : List WItem) (last : Option Frame) where
  -- ---- constants

  pub const_carries : (imm : Imm)
      → Carries w (suc number) others (frame_of frame.locals (frame.stack ++ type_of_imm imm ∷ [])) last
      → Carries w number (item (plain (Const imm)) ∷ others) frame last
  const_carries imm rest =
      carries_on number (item (plain (Const imm))) others frame (frame_of frame.locals (frame.stack ++ type_of_imm imm ∷ [])) last
      (record {
        row = record { operands = subst (AllFit (scope_in w) []) (sym (topmost_none frame.stack)) tt; local = tt; further = tt; access = tt };
        targets = tt;
        handlers = tt;
        access = λ usable. tt;
      })
      (ap (λ (low : List VType). Some (frame_of frame.locals (low ++ type_of_imm imm ∷ []))) (under_none frame.stack)) rest

  -- ---- local units

  pub load_carries : (kind : Kind) (unit : WUnit) (type : VType)
      → slice_get frame.locals (unit_number w.s.flat unit) ≡ Some type
      → IsOfKind kind type
      → Carries w (suc number) others (frame_of frame.locals (frame.stack ++ type ∷ [])) last
      → Carries w number (item (load kind unit) ∷ others) frame last
  load_carries kind unit type there of rest =
      carries_on number (item (load kind unit)) others frame (frame_of frame.locals (frame.stack ++ type ∷ [])) last
      (record {
        row = record {
          operands = subst (AllFit (scope_in w) []) (sym (topmost_none frame.stack)) tt;
          local = (type, there, of);
          further = tt;
          access = tt;
        };
        targets = tt;
        handlers = tt;
        access = λ usable. tt;
      })
      (ap (λ (low : List VType). Some (frame_of frame.locals (low ++ local_entry frame.locals (unit_number w.s.flat unit)))) (under_none frame.stack)
      ∙ ap (λ (entry : List VType). Some (frame_of frame.locals (frame.stack ++ entry))) entry_is) rest where
        entry_is : local_entry frame.locals (unit_number w.s.flat unit) ≡ type ∷ []
        entry_is = rw (there) refl

  pub store_carries : (kind : Kind) (unit : WUnit) (low : List VType) (type : VType)
      → frame.stack ≡ low ++ type ∷ []
      → IsOfKind kind type
      → HasRoom kind frame.locals (unit_number w.s.flat unit)
      → Carries w (suc number) others (frame_of (stored (unit_number w.s.flat unit) type frame.locals) low) last
      → Carries w number (item (store kind unit) ∷ others) frame last
  store_carries kind unit low type is of room rest =
      carries_on number (item (store kind unit)) others frame (frame_of (stored (unit_number w.s.flat unit) type frame.locals) low) last
      (record {
        row = record {
          operands = subst (AllFit (scope_in w) (of_kind kind ∷ [])) (sym top) (of, tt);
          local = room;
          further = tt;
          access = tt;
        };
        targets = tt;
        handlers = tt;
        access = λ usable. tt;
      })
      (ap (λ (value : VType). Some (frame_of (stored (unit_number w.s.flat unit) value frame.locals) (under 1 frame.stack ++ []))) lowest
      ∙ ap (λ (stack : List VType). Some (frame_of (stored (unit_number w.s.flat unit) type frame.locals) stack)) stack_is) rest where
        top : topmost 1 frame.stack ≡ type ∷ []
        top = ap (topmost 1) is ∙ topmost_is low (type ∷ []) 1 refl

        lowest : lowest_of 1 frame.stack ≡ type
        lowest = rw (top) refl

        stack_is : under 1 frame.stack ++ [] ≡ low
        stack_is = append-nil (under 1 frame.stack) ∙ ap (under 1) is ∙ under_is low (type ∷ []) 1 refl

  -- ---- arithmetic

  pub pure_carries : (opcode : ℕ) (o : Operation) (low top : List VType)
      → operation_in pure_operations opcode ≡ Some o
      → frame.stack ≡ low ++ top
      → AllFit (scope_in w) (map of_kind o.takes) top
      → Carries w (suc number) others (frame_of frame.locals (low ++ type_of_kind o.gives ∷ [])) last
      → Carries w number (item (plain (Pure opcode)) ∷ others) frame last
  pure_carries opcode o low top found is fit rest =
      carries_on number (item (plain (Pure opcode))) others frame (frame_of frame.locals (low ++ type_of_kind o.gives ∷ [])) last
      (record {
        row = subst (λ (op : Option Operation). RowFits (scope_in w) frame (access_aside (operation_row frame op))) (sym found)
            (record { operands = subst (AllFit (scope_in w) (map of_kind o.takes)) (sym top_is) fit; local = tt; further = tt; access = tt });
        targets = tt;
        handlers = tt;
        access = λ usable. subst (λ (op : Option Operation). (operation_row frame op).access) (sym found) tt;
      })
      (ap (λ (op : Option Operation). row_frame frame (access_aside (operation_row frame op))) found
      ∙ ap (λ (stack : List VType). Some (frame_of frame.locals (stack ++ type_of_kind o.gives ∷ []))) low_is) rest where
        long : length top ≡ length (map of_kind o.takes)
        long = fit_long (scope_in w) (map of_kind o.takes) top fit

        top_is : topmost (length (map of_kind o.takes)) frame.stack ≡ top
        top_is = ap (topmost (length (map of_kind o.takes))) is ∙ topmost_is low top (length (map of_kind o.takes)) long

        low_is : under (length (map of_kind o.takes)) frame.stack ≡ low
        low_is = ap (under (length (map of_kind o.takes))) is ∙ under_is low top (length (map of_kind o.takes)) long

  -- ---- the stack

  fit_widths : (widths : List Width) (top : List VType) → have_widths widths top ≡ true → AllFit (scope_in w) (map need_of widths) top
  fit_widths [] [] fits = tt
  fit_widths [] (type ∷ top) fits = absurd (false≢true fits)
  fit_widths (width ∷ widths) [] fits = absurd (false≢true fits)
  fit_widths (width ∷ widths) (type ∷ top) fits =
      let both = and_is (has_width width type) (have_widths widths top) fits in (of_width width both.0, fit_widths widths top both.1) where
        and_is : (a b : Bool) → (a && b) ≡ true → (a ≡ true) × (b ≡ true)
        and_is true b is = (refl, is)
        and_is false b is = absurd (false≢true is)

        of_width : (width : Width) → has_width width type ≡ true → Fits (scope_in w) (need_of width) type
        of_width one fits = fits
        of_width two fits = fits

  pub shuffle_carries : (opcode : ℕ) (form : Form) (low top : List VType)
      → form_in (forms_of opcode) frame.stack ≡ Some form
      → frame.stack ≡ low ++ top
      → have_widths form.takes top ≡ true
      → Carries w (suc number) others (frame_of frame.locals (low ++ picked top form.gives)) last
      → Carries w number (item (plain (Shuffle opcode)) ∷ others) frame last
  shuffle_carries opcode form low top found is fits rest =
      carries_on number (item (plain (Shuffle opcode))) others frame (frame_of frame.locals (low ++ picked top form.gives)) last
      (record {
        row = subst (λ (one : Option Form). RowFits (scope_in w) frame (access_aside (form_row frame one))) (sym found)
            (record { operands = subst (AllFit (scope_in w) (map need_of form.takes)) (sym top_is) fit; local = tt; further = tt; access = tt });
        targets = tt;
        handlers = tt;
        access = λ usable. subst (λ (one : Option Form). (form_row frame one).access) (sym found) tt;
      })
      (ap (λ (one : Option Form). row_frame frame (access_aside (form_row frame one))) found
      ∙ ap (λ (stack : List VType). Some (frame_of frame.locals (stack ++ picked (topmost (length form.takes) frame.stack) form.gives))) low_is
      ∙ ap (λ (operands : List VType). Some (frame_of frame.locals (low ++ picked operands form.gives))) operands_are) rest where
        fit : AllFit (scope_in w) (map need_of form.takes) top
        fit = fit_widths form.takes top fits

        long : length top ≡ length (map need_of form.takes)
        long = fit_long (scope_in w) (map need_of form.takes) top fit

        top_is : topmost (length (map need_of form.takes)) frame.stack ≡ top
        top_is = ap (topmost (length (map need_of form.takes))) is ∙ topmost_is low top (length (map need_of form.takes)) long

        low_is : under (length (map need_of form.takes)) frame.stack ≡ low
        low_is = ap (under (length (map need_of form.takes))) is ∙ under_is low top (length (map need_of form.takes)) long

        operands_are : topmost (length form.takes) frame.stack ≡ top
        operands_are =
            ap (topmost (length form.takes)) is ∙ topmost_is low top (length form.takes) (long ∙ length-map form.takes need_of)

  pub pop_carries : (low : List VType) (type : VType)
      → frame.stack ≡ low ++ type ∷ []
      → has_width one type ≡ true
      → Carries w (suc number) others (frame_of frame.locals low) last
      → Carries w number (item (plain (Shuffle POP)) ∷ others) frame last
  pop_carries low type is single rest =
      shuffle_carries POP pop low (type ∷ []) found is (ap (λ (b : Bool). b && true) single)
      (subst (λ (stack : List VType). Carries w (suc number) others (frame_of frame.locals stack) last) (sym (append-nil low)) rest) where
        pop : Form
        pop = record { takes = one ∷ []; gives = [] }

        top : topmost 1 frame.stack ≡ type ∷ []
        top = ap (topmost 1) is ∙ topmost_is low (type ∷ []) 1 refl

        found : form_in (forms_of POP) frame.stack ≡ Some pop
        found =
            ap (λ (operands : List VType). if have_widths (one ∷ []) operands then Some pop else None) top
            ∙ ap (λ (b : Bool). if b && true then Some pop else None) single
