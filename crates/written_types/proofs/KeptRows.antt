-- Rows of instructions that are written as they are: constants, arrays, numbers and jumps.
use Rattle.std.proofs.Common.{◌≡◌, ◌-◌, ℕ, zero, suc, Bool, true, false, List, [], ◌∷◌, ◌++◌, length, map, replicate, Option, Some, None, option_and_then, if◌then◌else◌, refl, sym, ap, subst, ◌∙◌, inl, inr}
use Rattle.std.specs.Prelude.{◌==◌}
use Rattle.std.specs.List.{AllByRecursion}
use Rattle.std.proofs.lemmas.List.{length-map, length-replicate}
use Rattle.std.proofs.lemmas.Option.{none-some, same_Some}
use Rattle.class_model.specs.declared.descriptor.Kind.{Kind}
use Rattle.class_model.specs.declared.descriptor.Kind.TheVariants as kinds
use Rattle.class_model.specs.declared.frame.Frame.{Frame}
use Rattle.class_model.specs.declared.frame.VType.{VType}
use Rattle.class_model.specs.declared.frame.VType.TheVariants as types
use Rattle.class_model.specs.declared.instr.Imm.{Imm}
use Rattle.class_model.specs.declared.instr.Imm.TheVariants as imms
use Rattle.class_model.specs.declared.pool.Const.{Const as Constant}
use Rattle.class_model.specs.declared.pool.Const.TheVariants as consts
use Rattle.class_tree.specs.Headers.{Name}
use Rattle.class_tree.specs.Subtype.{IsArray}
use Rattle.flow_code.specs.ReadTypes.{read_frame}
use Rattle.member_link.specs.RowScope.{RowScope}
use Rattle.member_link.specs.Rows.ArithmeticRows.{Operation, operation_row, type_of_kind}
use Rattle.member_link.specs.Rows.ArrayRows.{Elements, component_type, elements_from, elements_load_row, elements_of, elements_store_row, made_row, need_of_value}
use Rattle.member_link.specs.Rows.LocalRows.{const_row, type_of_const, type_of_imm}
use Rattle.member_link.specs.Rows.Operands.{AllFit, Fits, Need, array_among, array_of_references, initialised, lowest_of, of_kind, topmost}
use Rattle.member_link.specs.Rows.Row.{Row, conditional, either, plain}
use Rattle.member_link.specs.Rows.Table.{jump_row}
use Rattle.plan_flow.specs.PlanRows.{PlanRow, Source, plain_value}
use Rattle.plan_flow.specs.PlanSlots.{changed, slots_from}
use Rattle.plan_flow.specs.PlanTable.{held_from, held_locals, moving, operand, operands_of, throwing}
use Rattle.virtual_state.specs.States.{State}
use Rattle.written_types.proofs.AgreeLists.{AgreeAt}
use Rattle.written_types.proofs.BlockEnds.{topmost_none}
use Rattle.written_types.proofs.NeedsKept.{AreSteady, IsSteadyNeed}
use Rattle.written_types.proofs.OperandRows.{Fit, no_operand}
use Rattle.written_types.proofs.PlainOperands.{IsBarred, IsNone, IsNumber, Sure, plain_operands, sure_counts, sure_numbers}
use Rattle.written_types.proofs.SiteFields.{SitesKnown}
use Rattle.written_types.proofs.StandingFrames.{Cut, RowFollows, Stands, cut, fit_fewer, moved, operands_fit}
use Rattle.written_types.proofs.WrittenTypes.{IsSteady, by_item, entry_types, item_top, steady_item}
use Rattle.written_types.specs.Inner.CarriedFrames.{AgreeIn}
use Rattle.written_types.specs.Writing.{Writing, scope_in}

-- ---- types that are given

imm_steady : (imm : Imm) → IsSteady (type_of_imm imm)
imm_steady imms.Null = tt
imm_steady (imms.Int number) = tt
imm_steady (imms.Long number) = tt
imm_steady (imms.Float bits) = tt
imm_steady (imms.Double bits) = tt

kind_steady : (kind : Kind) → IsSteady (type_of_kind kind)
kind_steady kinds.Int = tt
kind_steady kinds.Long = tt
kind_steady kinds.Float = tt
kind_steady kinds.Double = tt
kind_steady kinds.Ref = tt

component_steady : (type : VType) → IsSteady (component_type type)
component_steady (types.Object name) = tt
component_steady other = tt

const_steady : (constant : Constant) (type : VType) → type_of_const constant ≡ Some type → IsSteady type
const_steady (consts.Integer n) type is = subst IsSteady (same_Some _ type is) tt
const_steady (consts.Float bits) type is = subst IsSteady (same_Some _ type is) tt
const_steady (consts.Long n) type is = subst IsSteady (same_Some _ type is) tt
const_steady (consts.Double bits) type is = subst IsSteady (same_Some _ type is) tt
const_steady (consts.String text) type is = subst IsSteady (same_Some _ type is) tt
const_steady (consts.Class name) type is = subst IsSteady (same_Some _ type is) tt
const_steady (consts.MethodHandle kind reference) type is = subst IsSteady (same_Some _ type is) tt
const_steady (consts.MethodType descriptor) type is = subst IsSteady (same_Some _ type is) tt
const_steady (consts.Utf8 bytes) type is = absurd (none-some type is)
const_steady (consts.Fieldref class member) type is = absurd (none-some type is)
const_steady (consts.Methodref class member) type is = absurd (none-some type is)
const_steady (consts.InterfaceMethodref class member) type is = absurd (none-some type is)
const_steady (consts.NameAndType name desc) type is = absurd (none-some type is)
const_steady (consts.InvokeDynamic bootstrap member) type is = absurd (none-some type is)

component_item : (w : Writing) (type : VType) → component_type (by_item w type) ≡ by_item w (component_type type)
component_item w (types.Uninit at) = refl
component_item w types.Top = refl
component_item w types.Int = refl
component_item w types.Float = refl
component_item w types.Long = refl
component_item w types.Double = refl
component_item w types.Null = refl
component_item w types.UninitThis = refl
component_item w (types.Object name) = refl

-- elements are of a type of values, and their arrays are arrays
abbrev pub SureElements : Option Elements → Type 0
SureElements None = Unit {0}
SureElements (Some e) = IsSteady e.type × AllByRecursion IsArray e.arrays

elements_if : (b : Bool) (one other : Option Elements) → SureElements one → SureElements other → SureElements (if b then one else other)
elements_if true one other first second = first
elements_if false one other first second = second

sure_of : (number : ℕ) → SureElements (elements_of number)
sure_of number =
    elements_if (number == 0) _ _ (tt, ((_, refl), tt)) (elements_if (number == 1) _ _ (tt, ((_, refl), tt))
    (elements_if (number == 2) _ _ (tt, ((_, refl), tt)) (elements_if (number == 3) _ _ (tt, ((_, refl), tt))
    (elements_if (number == 5) _ _ (tt, ((_, refl), ((_, refl), tt))) (elements_if (number == 6) _ _ (tt, ((_, refl), tt))
    (elements_if (number == 7) _ _ (tt, ((_, refl), tt)) tt))))))

pub sure_elements : (first opcode : ℕ) → SureElements (elements_from first opcode)
sure_elements first opcode = elements_if _ None _ tt (sure_of (opcode - first))

value_barred : (type : VType) → IsBarred (need_of_value type)
value_barred types.Long = tt
value_barred types.Float = tt
value_barred types.Double = tt
value_barred other = tt

value_steady : (type : VType) → IsSteadyNeed (need_of_value type)
value_steady types.Long = tt
value_steady types.Float = tt
value_steady types.Double = tt
value_steady other = tt

pub numbers_steady : (all : List Kind) → AreSteady (map of_kind all)
numbers_steady [] = tt
numbers_steady (kind ∷ all) = (tt, numbers_steady all)

pub counts_steady : (count : ℕ) → AreSteady (replicate count (of_kind kinds.Int))
counts_steady zero = tt
counts_steady (suc count) = (tt, counts_steady count)

-- the type of a constant of the pool, if it can be loaded
abbrev pub loaded : Option Constant → Option VType
loaded constant = option_and_then type_of_const constant

-- ---- rows

module _ (w : Writing) (reached : ℕ → Bool) (f : Frame) (before : State) (rest : List VType) (g : Frame) (st : Stands w reached f before rest g)
    (known : SitesKnown w.s) (sc : RowScope) (same : (scope_in w).headers ≡ sc.headers) where
  abbrev rf : Frame
  rf = read_frame w.s.flat f

  abbrev pub Goes : PlanRow → Row → Row → Type 0
  Goes p row written = RowFollows w before rest f g p row written

  pub cut_of : (needs : List Need) → Sure f before needs → AllFit sc needs (topmost (length needs) rf.stack) → Cut w f before g (length needs)
  cut_of needs sure fit =
      cut w reached f before rest g st (length needs) (fit_fewer w reached f before rest g st sc needs fit)
      (plain_operands w.s known reached f before st.standing sc needs sure fit)

  -- with further conditions
  pub kept : (p : PlanRow) (needs : List Need) (count : ℕ) (sources : List Source) (gives given : List VType) (Further Access Wanted Passes : Type 0)
      → length needs ≡ count
      → changed w.s before p.change ≡ []
      → p.locals ≡ held_locals f
      → p.stack ≡ held_from (length f.locals) (length f.stack - count) ++ sources
      → AreSteady needs
      → Sure f before needs
      → AllFit sc needs (topmost (length needs) rf.stack)
      → (Cut w f before g (length needs) → AgreeIn given (entry_types w gives (slots_from w.s before p.change sources)))
      → (Cut w f before g (length needs) → Wanted)
      → Goes p (conditional rf needs gives Further Access) (conditional g needs given Wanted Passes)
  kept p needs count sources gives given Further Access Wanted Passes many still locals_are is steady sure fit agree wanted =
      let c = cut_of needs sure fit in
      record {
        fits = record {
          operands = operands_fit w reached f before rest g st sc same needs steady fit c;
          local = tt;
          further = wanted c;
          access = tt;
        };
        operands = c.top;
        goes = refl;
        unchanged = still;
        follows = λ goes. moved w reached f before rest g st p (length needs) sources gives given locals_are
            (is ∙ ap (λ (n : ℕ). held_from (length f.locals) (length f.stack - n) ++ sources) (sym many)) c (agree c);
      }

  -- it gives nothing, or one value whose type is named neither by a point nor by an item
  pub gives_none : (p : PlanRow) (needs : List Need) (count : ℕ) → length needs ≡ count → changed w.s before p.change ≡ []
      → p.locals ≡ held_locals f
      → p.stack ≡ (moving f count []).stack
      → AreSteady needs
      → Sure f before needs
      → AllFit sc needs (topmost (length needs) rf.stack)
      → Goes p (plain rf needs []) (plain g needs [])
  gives_none p needs count many still locals_are is steady sure fit =
      kept p needs count [] [] [] (Unit {0}) (Unit {0}) (Unit {0}) (Unit {0}) many still locals_are is steady sure fit (λ c. tt) (λ c. tt)

  pub agree_one : (type : VType) → IsSteady type → AgreeIn (type ∷ []) (by_item w type ∷ [])
  agree_one type steady = (inr (sym (steady_item w type steady)), tt)

  pub gives_one : (p : PlanRow) (needs : List Need) (count : ℕ) (type : VType) → length needs ≡ count → changed w.s before p.change ≡ []
      → p.locals ≡ held_locals f
      → p.stack ≡ (moving f count (plain_value ∷ [])).stack
      → IsSteady type
      → AreSteady needs
      → Sure f before needs
      → AllFit sc needs (topmost (length needs) rf.stack)
      → Goes p (plain rf needs (type ∷ [])) (plain g needs (type ∷ []))
  gives_one p needs count type many still locals_are is of_none steady sure fit =
      kept p needs count (plain_value ∷ []) (type ∷ []) (type ∷ []) (Unit {0}) (Unit {0}) (Unit {0}) (Unit {0}) many still locals_are is steady sure fit
      (λ c. agree_one type of_none) (λ c. tt)

  pub imm_kept : (imm : Imm) → Goes (moving f 0 (plain_value ∷ [])) (plain rf [] (type_of_imm imm ∷ [])) (plain g [] (type_of_imm imm ∷ []))
  imm_kept imm = gives_one _ [] 0 (type_of_imm imm) refl refl refl refl (imm_steady imm) tt tt (no_needs rf) where
    no_needs : (h : Frame) → AllFit sc [] (topmost 0 h.stack)
    no_needs h = subst (AllFit sc []) (sym (topmost_none h.stack)) tt

  pub const_kept : (one other : Option Constant) → ((type : VType) → loaded one ≡ Some type → loaded other ≡ Some type)
      → Fit sc rf (const_row rf one)
      → Goes (moving f 0 (plain_value ∷ [])) (const_row rf one) (const_row g other)
  const_kept None other keeps fit = absurd (no_operand sc rf fit)
  const_kept (Some constant) other keeps fit = by (type_of_const constant) refl where
    written : (type : VType) (found : Option Constant) → loaded found ≡ Some type → const_row g found ≡ plain g [] (type ∷ [])
    written type None is = absurd (none-some type is)
    written type (Some last) is = rw is refl

    by : (found : Option VType) → type_of_const constant ≡ found → Goes (moving f 0 (plain_value ∷ [])) (const_row rf (Some constant)) (const_row g other)
    by None none = absurd (no_operand sc rf (rw none at fit))
    by (Some type) some =
        rw (some, written type other (keeps type some))
        (gives_one _ [] 0 type refl refl refl refl (const_steady constant type some) tt tt (subst (AllFit sc []) (sym (topmost_none rf.stack)) tt))

  -- ---- arrays

  -- the lowest operand
  pub lowest_agrees : (count : ℕ) → AgreeIn (topmost count g.stack) (map (by_item w) (topmost count rf.stack))
      → AgreeAt (lowest_of count g.stack) (by_item w (lowest_of count rf.stack))
  lowest_agrees count agree = by (topmost count g.stack) refl (topmost count rf.stack) refl agree where
    by : (ones : List VType) → topmost count g.stack ≡ ones → (others : List VType) → topmost count rf.stack ≡ others
        → AgreeIn ones (map (by_item w) others)
        → AgreeAt (lowest_of count g.stack) (by_item w (lowest_of count rf.stack))
    by [] none [] also both = rw (none, also) (inl refl)
    by [] none (other ∷ others) also both = absurd both
    by (one ∷ ones) some [] also both = absurd both
    by (one ∷ ones) some (other ∷ others) also both = rw (some, also) (both.0)

  reference_component : AllFit sc (array_of_references ∷ of_kind kinds.Int ∷ []) (topmost 2 rf.stack)
      → Fits sc array_of_references (lowest_of 2 rf.stack)
  reference_component fit = by (topmost 2 rf.stack) refl fit where
    by : (entries : List VType) → topmost 2 rf.stack ≡ entries → AllFit sc (array_of_references ∷ of_kind kinds.Int ∷ []) entries
        → Fits sc array_of_references (lowest_of 2 rf.stack)
    by [] are fits = absurd fits
    by (type ∷ entries) are fits = rw are (fits.0)

  component_agrees : Fits sc array_of_references (lowest_of 2 rf.stack) → AgreeAt (lowest_of 2 g.stack) (by_item w (lowest_of 2 rf.stack))
      → AgreeAt (component_type (lowest_of 2 g.stack)) (by_item w (component_type (lowest_of 2 rf.stack)))
  component_agrees fits (inl top) = absurd (subst (Fits sc array_of_references) (item_top w (lowest_of 2 rf.stack) top) fits)
  component_agrees fits (inr is) = inr (ap component_type is ∙ component_item w (lowest_of 2 rf.stack))

  pub array_load_kept : (references : Bool) (found : Option Elements) → SureElements found
      → Fit sc rf (either references (plain rf (array_of_references ∷ of_kind kinds.Int ∷ []) (component_type (lowest_of 2 rf.stack) ∷ []))
      (elements_load_row rf found))
      → Goes (throwing f 2 (plain_value ∷ []))
      (either references (plain rf (array_of_references ∷ of_kind kinds.Int ∷ []) (component_type (lowest_of 2 rf.stack) ∷ []))
      (elements_load_row rf found))
      (either references (plain g (array_of_references ∷ of_kind kinds.Int ∷ []) (component_type (lowest_of 2 g.stack) ∷ []))
      (elements_load_row g found))
  array_load_kept true found sure fit =
      kept _ (array_of_references ∷ of_kind kinds.Int ∷ []) 2 (plain_value ∷ []) _ _ (Unit {0}) (Unit {0}) (Unit {0}) (Unit {0}) refl refl refl refl
      (tt, (tt, tt)) (inl tt, (inl tt, tt)) fit
      (λ c. (component_agrees (reference_component fit) (lowest_agrees 2 c.top), tt)) (λ c. tt)
  array_load_kept false None sure fit = absurd (no_operand sc rf fit)
  array_load_kept false (Some e) sure fit =
      gives_one _ (array_among e.arrays ∷ of_kind kinds.Int ∷ []) 2 e.type refl refl refl refl sure.0 (tt, (tt, tt)) (inl sure.1, (inl tt, tt)) fit

  pub array_store_kept : (p : PlanRow) → changed w.s before p.change ≡ [] → p.locals ≡ held_locals f → p.stack ≡ (moving f 3 []).stack
      → IsNone before (operand f 0)
      → (references : Bool) (found : Option Elements)
      → SureElements found
      → Fit sc rf (either references (plain rf (array_of_references ∷ of_kind kinds.Int ∷ initialised ∷ []) []) (elements_store_row rf found))
      → Goes p (either references (plain rf (array_of_references ∷ of_kind kinds.Int ∷ initialised ∷ []) []) (elements_store_row rf found))
      (either references (plain g (array_of_references ∷ of_kind kinds.Int ∷ initialised ∷ []) []) (elements_store_row g found))
  array_store_kept p still locals_are is none true found sure fit =
      gives_none p (array_of_references ∷ of_kind kinds.Int ∷ initialised ∷ []) 3 refl still locals_are is (tt, (tt, (tt, tt)))
      (inl tt, (inl tt, (inr none, tt))) fit
  array_store_kept p still locals_are is none false None sure fit = absurd (no_operand sc rf fit)
  array_store_kept p still locals_are is none false (Some e) sure fit =
      gives_none p (array_among e.arrays ∷ of_kind kinds.Int ∷ need_of_value e.type ∷ []) 3 refl still locals_are is
      (tt, (tt, (value_steady e.type, tt)))
      (inl sure.1, (inl tt, (inl (value_barred e.type), tt))) fit

  pub made_kept : (counts : ℕ) (one other : Option Name) → ((name : Name) → one ≡ Some name → other ≡ Some name) → Fit sc rf (made_row rf counts one)
      → Goes (throwing f counts (plain_value ∷ [])) (made_row rf counts one) (made_row g counts other)
  made_kept counts None other keeps fit = absurd (no_operand sc rf fit)
  made_kept counts (Some name) other keeps fit =
      rw (keeps name refl)
      (gives_one _ (replicate counts (of_kind kinds.Int)) counts (types.Object name) (length-replicate counts (of_kind kinds.Int)) refl refl refl tt
      (counts_steady counts) (sure_counts f before counts) fit)

  -- ---- numbers and jumps

  pub operation_kept : (p : ℕ → PlanRow) → ((count : ℕ) → changed w.s before (p count).change ≡ [])
      → ((count : ℕ) → (p count).locals ≡ held_locals f)
      → ((count : ℕ) → (p count).stack ≡ (moving f count (plain_value ∷ [])).stack)
      → (found : Option Operation)
      → ((o : Operation) → found ≡ Some o → AllByRecursion IsNumber o.takes)
      → Fit sc rf (operation_row rf found)
      → Goes (p (operands_of found)) (operation_row rf found) (operation_row g found)
  operation_kept p still locals_are is None numbers fit = absurd (no_operand sc rf fit)
  operation_kept p still locals_are is (Some o) numbers fit =
      gives_one (p (length o.takes)) (map of_kind o.takes) (length o.takes) (type_of_kind o.gives) (length-map o.takes of_kind)
      (still (length o.takes)) (locals_are (length o.takes)) (is (length o.takes)) (kind_steady o.gives) (numbers_steady o.takes)
      (sure_numbers f before o.takes (numbers o refl)) fit

  pub jump_kept : (p : PlanRow) (takes : List Need) → changed w.s before p.change ≡ [] → p.locals ≡ held_locals f
      → p.stack ≡ (moving f (length takes) []).stack
      → AreSteady takes
      → Sure f before takes
      → (is_known : Bool)
      → Fit sc rf (jump_row rf is_known takes)
      → Goes p (jump_row rf is_known takes) (jump_row g is_known takes)
  jump_kept p takes still locals_are is steady sure true fit = gives_none p takes (length takes) refl still locals_are is steady sure fit
  jump_kept p takes still locals_are is steady sure false fit = absurd (no_operand sc rf fit)
