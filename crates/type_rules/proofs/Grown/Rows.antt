-- Rows of an instruction in two scopes: what the first asks holds in the second too, and both leave the same.
use Rattle.std.proofs.Common.{◌≡◌, ◌++◌, ◌∙◌, Bool, true, false, cond, List, length, Some, None, refl, sym, ap, subst}
use Rattle.class_model.specs.declared.frame.Frame.{Frame}
use Rattle.class_model.specs.declared.frame.VType.{VType}
use Rattle.class_tree.specs.Laws.Alike.{shapes}
use Rattle.member_link.specs.Bodies.{asked_access}
use Rattle.member_link.specs.BodyTyping.{RowHolds}
use Rattle.member_link.specs.RowScope.{RowScope}
use Rattle.member_link.specs.Rows.Operands.{AllFit, Need, topmost, under}
use Rattle.member_link.specs.Rows.Readings.{Reading, reads_itself, reads_object, reads_pop, row_by}
use Rattle.member_link.specs.Rows.Row.{Row, access_aside, either, row_frame, stack_behind}
use Rattle.type_rules.proofs.Grown.Assigning.{all_fit_still}

pub record KeepsRow (row new : Row) : Type 0 where
  pub takes : new.takes ≡ row.takes
  pub local : row.local → new.local
  pub gives : new.gives ≡ row.gives
  pub further : row.further → new.further
  pub access : row.access → new.access
  pub locals : new.locals ≡ row.locals
  pub becomes : (entries : List VType) → new.becomes entries ≡ row.becomes entries
  pub goes_on : new.goes_on ≡ row.goes_on

pub same_row : (row : Row) → KeepsRow row row
same_row row = record {
  takes = refl;
  local = λ held. held;
  gives = refl;
  further = λ held. held;
  access = λ held. held;
  locals = refl;
  becomes = λ entries. refl;
  goes_on = refl;
}

pub either_kept : (test : Bool) {row new other other_new : Row} → KeepsRow row new → KeepsRow other other_new
    → KeepsRow (either test row other) (either test new other_new)
either_kept true one two = one
either_kept false one two = two

aside_kept : {row new : Row} → KeepsRow row new → KeepsRow (access_aside row) (access_aside new)
aside_kept keeps = record {
  takes = keeps.takes;
  local = keeps.local;
  gives = keeps.gives;
  further = keeps.further;
  access = λ held. held;
  locals = keeps.locals;
  becomes = keeps.becomes;
  goes_on = keeps.goes_on;
}

-- whether access is asked or not
pub asked_kept : (asks : Bool) {row new : Row} → KeepsRow row new → KeepsRow (asked_access asks row) (asked_access asks new)
asked_kept true keeps = keeps
asked_kept false keeps = aside_kept keeps

-- and however the instruction is read
pub read_kept : (reading : Reading) (f : Frame) {row new : Row} → KeepsRow row new → KeepsRow (row_by reading f row) (row_by reading f new)
read_kept reads_itself f keeps = aside_kept keeps
read_kept (reads_object class) f keeps = same_row _
read_kept (reads_pop desc) f keeps = same_row _

-- ---- what follows

module _ (f : Frame) {row new : Row} (keeps : KeepsRow row new) where
  stack_same : stack_behind f new ≡ stack_behind f row
  stack_same =
      ap (λ (gives : List VType). new.becomes (under (length new.takes) f.stack) ++ gives) keeps.gives
      ∙ ap (λ (takes : List Need). new.becomes (under (length takes) f.stack) ++ row.gives) keeps.takes
      ∙ ap (λ (entries : List VType). entries ++ row.gives) (keeps.becomes (under (length row.takes) f.stack))

  framed : List VType → List VType → Frame
  framed locals stack = record { locals = locals; stack = stack }

  pub left_same : row_frame f new ≡ row_frame f row
  unfolding framed
  left_same =
      ap (λ (b : Bool). cond b (Some (framed new.locals (stack_behind f new))) None) keeps.goes_on
      ∙ ap (λ (locals : List VType). cond row.goes_on (Some (framed locals (stack_behind f new))) None) keeps.locals
      ∙ ap (λ (stack : List VType). cond row.goes_on (Some (framed row.locals stack)) None) stack_same

  pub row_held : (s t : RowScope) → shapes s.headers ≡ shapes t.headers → t.max_stack ≡ s.max_stack → RowHolds s f row → RowHolds t f new
  row_held s t same room held = record {
    operands = subst (λ (takes : List Need). AllFit t takes (topmost (length takes) f.stack)) (sym keeps.takes)
        (all_fit_still s t same row.takes (topmost (length row.takes) f.stack) held.operands);
    local = keeps.local held.local;
    depth_fits = rw (stack_same, room) held.depth_fits;
    further = keeps.further held.further;
    access = keeps.access held.access;
  }
