-- Behind a block without items stands one from whose frame its own does not differ, and both are as long.
use Rattle.std.proofs.Common.{◌≡◌, ◌≢◌, ℕ, suc, Bool, true, false, List, [], ◌∷◌, ◌++◌, drop, length, map, slice_get, Option, Some, None, refl, sym, ap, subst, ◌∙◌, inl, inr, arith}
use Rattle.std.specs.List.{AllByRecursion, flat_map}
use Rattle.std.proofs.lemmas.Bool.{false≢true}
use Rattle.std.proofs.lemmas.List.{append_assoc, length-map}
use Rattle.std.proofs.lemmas.Option.{same_Some}
use Rattle.class_model.specs.declared.frame.Frame.{Frame}
use Rattle.class_model.specs.declared.frame.VType.{VType}
use Rattle.class_model.specs.declared.frame.VType.TheVariants.{UninitThis}
use Rattle.class_model.specs.declared.instr.Instr.{Instr}
use Rattle.class_tree.specs.Headers.{Headers}
use Rattle.flow_code.specs.FlatCode.{FlatCode}
use Rattle.making_code.specs.Items.{WInstr, WItem, carried, constructs, load, makes, plain, store}
use Rattle.making_code.specs.Opposites.{opposite_instr}
use Rattle.making_code.specs.StateFrames.{differ}
use Rattle.member_link.specs.Rows.FrameAssignability.{AreAssignable}
use Rattle.plan_flow.specs.Written.Blocks.{Block}
use Rattle.plan_flow.specs.Written.Finish.{End, Finished, comes_to, empty_end, end_items, end_of, finish, finished_items, goto_end, is_empty, no_end, nop_end}
use Rattle.plan_flow.specs.Written.FramedCode.{type_by_item}
use Rattle.plan_flow.specs.Written.WrittenCode.{Form, block_items, in_form, over_goto, short, wide, widened, written_items}
use Rattle.plan_flow.specs.Written.WrittenFrames.{written_frame}
use Rattle.written_types.proofs.AgreeingFrames.{agrees_with_itself}
use Rattle.written_types.proofs.CarriedBlocks.{GoesOn}
use Rattle.written_types.specs.Inner.CarriedFrames.{Agrees, BlockCarries, Carries, GoesBehind, IsFresh, carries_none, frame_in}
use Rattle.written_types.specs.Writing.{Writing}

-- ---- what a block without items ends with

-- what a finished block ends with is decided by those behind it
pub ends_so : (flat : FlatCode) (all : List Block) (front behind : List Finished) (one : Finished)
    → finish flat all ≡ front ++ (one ∷ behind)
    → one.end ≡ end_of flat one.block behind
ends_so flat [] [] behind one is = absurd cc
ends_so flat [] (first ∷ front) behind one is = absurd cc
ends_so flat (block ∷ all) [] behind one is =
    let same : record { block = block; end = end_of flat block (finish flat all) } ≡ one =
    same_Some (record { block = block; end = end_of flat block (finish flat all) }) one (ap (λ (xs : List Finished). slice_get xs 0) is) in
    let rest : finish flat all ≡ behind = ap (drop 1) is in
    ap (λ (x : Finished). x.end) (sym same)
    ∙ ap (λ (xs : List Finished). end_of flat block xs) rest
    ∙ ap (λ (x : Finished). end_of flat x.block behind) same
ends_so flat (block ∷ all) (first ∷ front) behind one is = ends_so flat all front behind one (ap (drop 1) is)

some_over : (one : WItem) (class : ℕ) (found : Option Instr) (rest : List WItem) → is_empty (over_goto one class found ++ rest) ≡ false
some_over one class None rest = refl
some_over one class (Some instr) rest = refl

some_widened : (one : WItem) (rest : List WItem) → is_empty (widened one ++ rest) ≡ false
some_widened one rest = by one.instr refl where
  by : (instr : WInstr) → one.instr ≡ instr → is_empty (widened one ++ rest) ≡ false
  by (carried class instr) is = rw (is) (some_over _ class (opposite_instr instr) rest)
  by (plain instr) is = rw (is) refl
  by (load kind unit) is = rw (is) refl
  by (store kind unit) is = rw (is) refl
  by (makes class) is = rw (is) refl
  by (constructs class) is = rw (is) refl

pub none_in_form : (form : Form) (items : List WItem) → is_empty (in_form form items) ≡ true → items ≡ []
none_in_form form [] empty = refl
none_in_form short (one ∷ items) empty = absurd (false≢true empty)
none_in_form wide (one ∷ items) empty = absurd (false≢true (sym (some_widened one (flat_map widened items)) ∙ empty))

pub empty_items : (items : List WItem) → is_empty items ≡ true → items ≡ []
empty_items [] is = refl
empty_items (one ∷ items) is = absurd (false≢true is)

none_ends : (items : List WItem) (end : End) → items ++ end_items end ≡ [] → (items ≡ []) × (end ≡ no_end)
none_ends [] no_end none = (refl, refl)
none_ends [] (goto_end to) none = absurd cc
none_ends [] nop_end none = absurd cc
none_ends (one ∷ items) end none = absurd cc

-- no frame differs where no nop is written
abbrev SameBehind : FlatCode → Block → List Finished → Type 0
SameBehind flat block [] = Unit {0}
SameBehind flat block (next ∷ others) = differ (written_frame flat block) (written_frame flat next.block) ≡ false

no_nop : (flat : FlatCode) (block : Block) (behind : List Finished) → empty_end flat block behind ≡ no_end → SameBehind flat block behind
no_nop flat block [] is = tt
no_nop flat block (next ∷ others) is = by (differ (written_frame flat block) (written_frame flat next.block)) refl where
  by : (b : Bool) → differ (written_frame flat block) (written_frame flat next.block) ≡ b
      → differ (written_frame flat block) (written_frame flat next.block) ≡ false
  by true differs = let same : nop_end ≡ no_end = sym (rw (differs) refl) ∙ is in absurd cc
  by false none = none

no_end_behind : (flat : FlatCode) (block : Block) (behind : List Finished) → block.items ≡ [] → end_of flat block behind ≡ no_end
    → SameBehind flat block behind
no_end_behind flat block behind none is = by block.leaves refl where
  by_way : (to : ℕ) → block.leaves ≡ Some to → (b : Bool) → comes_to to behind ≡ b → SameBehind flat block behind
  by_way to leaves true comes = no_nop flat block behind (sym (rw (leaves, comes, none) refl) ∙ is)
  by_way to leaves false stays = let same : goto_end to ≡ no_end = sym (rw (leaves, stays) refl) ∙ is in absurd cc

  by : (leaves : Option ℕ) → block.leaves ≡ leaves → SameBehind flat block behind
  by None leaves = no_nop flat block behind (sym (rw (leaves, none) refl) ∙ is)
  by (Some to) leaves = by_way to leaves (comes_to to behind) refl

-- ---- frames that are as long

as_long : (headers : Headers) (lows highs : List VType) → AreAssignable headers lows highs → length lows ≡ length highs
as_long headers [] [] are = refl
as_long headers [] (high ∷ highs) are = absurd are
as_long headers (low ∷ lows) [] are = absurd are
as_long headers (low ∷ lows) (high ∷ highs) are = ap suc (as_long headers lows highs are.1)

record AsLong (one other : Frame) : Type 0 where
  locals : length one.locals ≡ length other.locals
  stack : length one.stack ≡ length other.stack

abbrev LongAs : Writing → Frame → List Finished → Type 0
LongAs w frame [] = ⊥
LongAs w frame (next ∷ others) = AsLong frame (frame_in w next)

-- ---- each block carries its own frame

pub record OwnCarried (w : Writing) : Type 0 where
  pub no_this : (front behind : List Finished) (one : Finished)
      → w.blocks ≡ front ++ (one ∷ behind)
      → AllByRecursion (λ type. type ≢ UninitThis) (frame_in w one).locals
  pub carries : (front behind : List Finished) (one : Finished) (frame : Frame)
      → w.blocks ≡ front ++ (one ∷ behind)
      → Agrees frame (frame_in w one)
      → IsFresh w (length (written_items w.form front)) one frame
      → BlockCarries w (length (written_items w.form front)) one behind frame

carried_none : (w : Writing) (number : ℕ) (items : List WItem) (frame : Frame) (last : Option Frame) → items ≡ [] → Carries w number items frame last
    → last ≡ Some frame
carried_none w number [] frame last none (carries_none other others) = refl
carried_none w number (one ∷ items) frame last none so = absurd cc

goes_empty : (w : Writing) (own : OwnCarried w) (front behind : List Finished) (one : Finished)
    → w.blocks ≡ front ++ (one ∷ behind)
    → is_empty (block_items w.form one) ≡ true
    → GoesBehind w (Some (frame_in w one)) behind
goes_empty w own front behind one is empty =
    subst (λ (last : Option Frame). GoesBehind w last behind)
    (carried_none w (length (written_items w.form front)) (block_items w.form one) (frame_in w one) found.last none found.carries) found.goes where
      none : block_items w.form one ≡ []
      none = empty_items (block_items w.form one) empty

      fresh : IsFresh w (length (written_items w.form front)) one (frame_in w one)
      fresh at above below = let many = ap length none in absurd (omega (arith, above, below, many))

      found : BlockCarries w (length (written_items w.form front)) one behind (frame_in w one)
      found =
          own.carries front behind one (frame_in w one) is
          (record { locals = agrees_with_itself _; stack = agrees_with_itself _; no_this = own.no_this front behind one is }) fresh

through : (w : Writing) (frame other : Frame) (behind : List Finished) → LongAs w frame behind → LongAs w other behind → AsLong frame other
through w frame other [] long also = absurd long
through w frame other (next ∷ behind) long also =
    record { locals = long.locals ∙ sym also.locals; stack = long.stack ∙ sym also.stack }

long_behind : (w : Writing) (own : OwnCarried w) (behind front : List Finished) (frame : Frame)
    → w.blocks ≡ front ++ behind
    → GoesBehind w (Some frame) behind
    → LongAs w frame behind
long_behind w own [] front frame is goes = absurd goes
long_behind w own (next ∷ others) front frame is (inl fits) = record {
  locals = as_long _ _ _ fits.assignable.locals;
  stack = as_long _ _ _ fits.assignable.stack;
}
long_behind w own (next ∷ others) front frame is (inr more) =
    let split = is ∙ sym (append_assoc front (next ∷ []) others) in
    through w frame (frame_in w next) others (long_behind w own others (front ++ (next ∷ [])) frame split more.1)
    (long_behind w own others (front ++ (next ∷ [])) (frame_in w next) split (goes_empty w own front others next is more.0))

-- ---- all

goes_on_by : (w : Writing) (one : Finished) (behind : List Finished) → LongAs w (frame_in w one) behind → SameBehind w.s.flat one.block behind
    → GoesOn w one behind
goes_on_by w one [] long same = absurd long
goes_on_by w one (next ∷ others) long same = record {
  next = next;
  others = others;
  is = refl;
  same = same;
  locals = unmapped _ _ long.locals;
  stack = unmapped _ _ long.stack;
} where
  unmapped : (types others : List VType)
      → length (map (type_by_item w.form w.blocks) types) ≡ length (map (type_by_item w.form w.blocks) others)
      → length types ≡ length others
  unmapped types others long =
      sym (length-map types (type_by_item w.form w.blocks)) ∙ long ∙ length-map others (type_by_item w.form w.blocks)

-- Where each block carries its own frame, those without items go on.
pub empties_go : (w : Writing) (blocks : List Block)
    → w.blocks ≡ finish w.s.flat blocks
    → OwnCarried w
    → (front behind : List Finished) (one : Finished)
    → w.blocks ≡ front ++ (one ∷ behind)
    → is_empty (block_items w.form one) ≡ true
    → GoesOn w one behind
empties_go w blocks finished own front behind one is empty =
    goes_on_by w one behind
    (long_behind w own behind (front ++ (one ∷ [])) (frame_in w one) (is ∙ sym (append_assoc front (one ∷ []) behind))
    (goes_empty w own front behind one is empty))
    (no_end_behind w.s.flat one.block behind parts.0
    (sym (ends_so w.s.flat blocks front behind one (sym finished ∙ is)) ∙ parts.1)) where
      parts : (one.block.items ≡ []) × (one.end ≡ no_end)
      parts = none_ends one.block.items one.end (none_in_form w.form (finished_items one) empty)
