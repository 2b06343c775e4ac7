-- Operands of instructions that are written as they are hold no virtual object: their types are none of an object's, or a row asks for them.
use Rattle.std.proofs.Common.{◌≡◌, ◌⊎◌, ◌+◌, ◌-◌, ◌<◌, ℕ, zero, suc, Bool, List, [], ◌∷◌, drop, length, map, replicate, slice_get, Some, refl, sym, ap, subst, ◌∙◌, inl, inr, arith}
use Rattle.std.specs.List.{AllByRecursion}
use Rattle.std.proofs.lemmas.List.{length-drop}
use Rattle.std.proofs.lemmas.Option.{none-some}
use Rattle.class_model.specs.declared.descriptor.Kind.{Kind}
use Rattle.class_model.specs.declared.descriptor.Kind.TheVariants as kinds
use Rattle.class_model.specs.declared.frame.Frame.{Frame}
use Rattle.class_model.specs.declared.frame.VType.{VType}
use Rattle.class_model.specs.declared.frame.VType.TheVariants as types
use Rattle.class_tree.specs.Headers.{IsThere, Name, headers_of}
use Rattle.class_tree.specs.Laws.Above.{above_is_there, hierarchy_is_sound, there_is_no_array}
use Rattle.class_tree.specs.Laws.Arrays.{is_array_of}
use Rattle.class_tree.specs.Subtype.{IsArray, IsReferenceComponent}
use Rattle.flow_code.specs.ReadTypes.{read_frame}
use Rattle.member_link.specs.Assignability.{IsAssignable, IsNameAssignable, from_array, from_null, of_components, of_names, to_class_above, to_interface, to_itself, to_same, to_top}
use Rattle.member_link.specs.RowScope.{RowScope}
use Rattle.member_link.specs.Rows.Operands.{AllFit, Fits, IsAmong, Need, array_among, array_of_references, assignable_or_this, assignable_to, double, initialised, nothing, of_kind, single, some_array, topmost, uninitialised}
use Rattle.plan_flow.specs.Must.{AsksFor}
use Rattle.plan_flow.specs.PlanRows.{PlanRow, Position, any_object}
use Rattle.plan_flow.specs.PlanScope.{PlanScope}
use Rattle.plan_flow.specs.PlanSlots.{held}
use Rattle.plan_flow.specs.PlanTable.{operand, operands_asked, positions}
use Rattle.virtual_state.specs.States.{State}
use Rattle.virtual_state.specs.declared.slot.Slot.{Slot}
use Rattle.virtual_state.specs.declared.slot.Slot.TheVariants.{Plain, Virt}
use Rattle.written_types.proofs.SiteFields.{SitesKnown}
use Rattle.written_types.proofs.SlotTypes.{IsOpen, is_open_type, item_before, open_object, open_top}
use Rattle.written_types.proofs.Standing.{Standing, fit_long, operand_has}
use Rattle.written_types.proofs.StandingFrames.{held_plain}
use Rattle.written_types.specs.FitsTypes.{HasType, IsOfType}

-- ---- types of no object

-- arrays that a row names
abbrev AreArrays : List Name → Type 0
AreArrays names = AllByRecursion IsArray names

-- what is asked is met by no object of a site
abbrev pub IsBarred : Need → Type 0
IsBarred (of_kind kinds.Ref) = ⊥
IsBarred initialised = ⊥
IsBarred (assignable_to wanted) = ⊥
IsBarred (assignable_or_this wanted) = ⊥
IsBarred (array_among names) = AreArrays names
IsBarred single = ⊥
IsBarred need = Unit {0}

among_array : (names : List Name) (name : Name) → AreArrays names → IsAmong names name → IsArray name
among_array [] name all among = absurd among
among_array (first ∷ names) name all (inl same) = subst IsArray (sym same) all.0
among_array (first ∷ names) name all (inr among) = among_array names name all.1 among

component_array : (name component : Name) → IsReferenceComponent name component → IsArray name
component_array name component is = is_array_of is

module _ (s : PlanScope) (known : SitesKnown s) where
  no_array : {name : Name} → IsThere (headers_of s.classes) name → ¬ IsArray name
  no_array {name} there =
      there_is_no_array (headers_of s.classes) (hierarchy_is_sound (headers_of s.classes) known.hierarchy) known.hierarchy.no_array name there

  -- a class is below no array
  below_array : {low high : Name} → IsThere (headers_of s.classes) low → IsNameAssignable (headers_of s.classes) low high → IsArray high → ⊥
  below_array there (to_itself name) is = no_array there is
  below_array there (to_interface low high header flat found interface) is =
      none-some header (sym (known.hierarchy.no_array high is) ∙ found)
  below_array there (to_class_above low high up) is =
      no_array (above_is_there (headers_of s.classes) (hierarchy_is_sound (headers_of s.classes) known.hierarchy) up) is
  below_array there (from_array low high array above) is = no_array there array
  below_array there (of_components low high one other has also names) is = no_array there (is_array_of has)

  object_array : (name : Name) (number : ℕ) → IsOfType s number (types.Object name) → IsArray name → ⊥
  object_array name number is array = by is.assignable refl refl where
    by : {from type : VType} → IsAssignable (headers_of s.classes) from type → from ≡ types.Object is.site.class → type ≡ types.Object name → ⊥
    by (to_same _) same also =
        let own : is.site.class ≡ name = let e = sym same ∙ also in cc in
        no_array (known.there number is.site is.there) (subst IsArray (sym own) array)
    by (to_top _) same also = absurd cc
    by (from_null _) same also = absurd cc
    by (of_names low high names) same also =
        let own : low ≡ is.site.class = let e = same in cc in
        let other : high ≡ name = let e = also in cc in
        below_array (subst (IsThere (headers_of s.classes)) (sym own) (known.there number is.site is.there)) names (subst IsArray (sym other) array)

  barred_open : (sc : RowScope) (need : Need) (type : VType) (number : ℕ) → IsBarred need → IsOpen s type → IsOfType s number type → Fits sc need type → ⊥
  barred_open sc (of_kind kinds.Int) _ number barred open_top is fits = absurd cc
  barred_open sc (of_kind kinds.Long) _ number barred open_top is fits = absurd cc
  barred_open sc (of_kind kinds.Float) _ number barred open_top is fits = absurd cc
  barred_open sc (of_kind kinds.Double) _ number barred open_top is fits = absurd cc
  barred_open sc (of_kind kinds.Int) _ number barred (open_object name) is fits = absurd cc
  barred_open sc (of_kind kinds.Long) _ number barred (open_object name) is fits = absurd cc
  barred_open sc (of_kind kinds.Float) _ number barred (open_object name) is fits = absurd cc
  barred_open sc (of_kind kinds.Double) _ number barred (open_object name) is fits = absurd cc
  barred_open sc (of_kind kinds.Ref) type number barred opened is fits = absurd barred
  barred_open sc initialised type number barred opened is fits = absurd barred
  barred_open sc uninitialised _ number barred open_top is fits = fits
  barred_open sc uninitialised _ number barred (open_object name) is fits = fits
  barred_open sc (assignable_to wanted) type number barred opened is fits = absurd barred
  barred_open sc (assignable_or_this wanted) type number barred opened is fits = absurd barred
  barred_open sc (array_among names) _ number barred open_top is fits = fits
  barred_open sc (array_among names) _ number barred (open_object name) is fits =
      object_array name number is (among_array names name barred fits)
  barred_open sc array_of_references _ number barred open_top is fits = fits
  barred_open sc array_of_references _ number barred (open_object name) is fits =
      object_array name number is (component_array name fits.0 fits.1)
  barred_open sc some_array _ number barred open_top is fits = fits
  barred_open sc some_array _ number barred (open_object name) is fits = object_array name number is fits
  barred_open sc single type number barred opened is fits = absurd barred
  barred_open sc double _ number barred open_top is fits = absurd cc
  barred_open sc double _ number barred (open_object name) is fits = absurd cc
  barred_open sc nothing type number barred opened is fits = fits

  pub not_virtual : (sc : RowScope) (need : Need) (type : VType) (slot : Slot) → IsBarred need → HasType s type slot → Fits sc need type → (number : ℕ)
      → slot ≡ Virt number
      → ⊥
  not_virtual sc need type slot barred has fits number is =
      let of_type : IsOfType s number type = subst (HasType s type) is has in
      barred_open sc need type number barred (is_open_type s of_type) of_type fits

-- ---- operands

-- a place holds no virtual object
abbrev pub IsNone : State → ℕ → Type 0
IsNone before place = (site : ℕ) → held before place ≡ Virt site → ⊥

-- each operand is of a type of no object, or holds none
abbrev pub Sure : Frame → State → List Need → Type 0
Sure f before [] = Unit {0}
Sure f before (need ∷ needs) = (IsBarred need ⊎ IsNone before (operand f (length needs))) × Sure f before needs

same_or_less : (one other : ℕ) → one < suc other → (one ≡ other) ⊎ (one < other)
same_or_less zero zero within = inl refl
same_or_less zero (suc other) within = inr (omega arith)
same_or_less (suc one) zero within = absurd (omega (arith, within))
same_or_less (suc one) (suc other) within = elim (same_or_less one other (omega (arith, within))) [
  | inl same ↦ inl (ap suc same)
  | inr low ↦ inr (omega (arith, low))
]

dropped_next : {A : Type 0} (count : ℕ) (items : List A) (first : A) (rest : List A) → drop count items ≡ first ∷ rest → drop (suc count) items ≡ rest
dropped_next zero [] first rest is = absurd cc
dropped_next zero (item ∷ items) first rest is = cc
dropped_next (suc count) [] first rest is = absurd cc
dropped_next (suc count) (item ∷ items) first rest is = dropped_next count items first rest is

module _ (s : PlanScope) (known : SitesKnown s) (reached : ℕ → Bool) (f : Frame) (before : State) (st : Standing s reached f before) (sc : RowScope) where
  abbrev rf : Frame
  rf = read_frame s.flat f

  pub plain_operands : (needs : List Need) → Sure f before needs → AllFit sc needs (topmost (length needs) rf.stack) → (k : ℕ) → k < length needs
      → held before (operand f k) ≡ Plain
  plain_operands [] sure fit k less = absurd (omega (arith, less))
  plain_operands (need ∷ needs) sure fit k less =
      by (topmost (suc (length needs)) rf.stack) refl fit (plain_operands needs sure.1) where
        by : (entries : List VType) → topmost (suc (length needs)) rf.stack ≡ entries
            → AllFit sc (need ∷ needs) entries
            → (AllFit sc needs (topmost (length needs) rf.stack) → (j : ℕ) → j < length needs → held before (operand f j) ≡ Plain)
            → held before (operand f k) ≡ Plain
        by [] are fits later = absurd fits
        by (type ∷ entries) are fits later = choose (same_or_less k (length needs) less) where
          long : suc (length entries) ≡ length rf.stack - (length rf.stack - suc (length needs))
          long = sym (ap length are) ∙ length-drop (length rf.stack - suc (length needs)) rf.stack

          exact : suc (length entries) ≡ suc (length needs)
          exact = fit_long sc (need ∷ needs) (type ∷ entries) fits

          behind : length rf.stack - length needs ≡ suc (length rf.stack - suc (length needs))
          behind = omega (arith, long, exact)

          next : topmost (length needs) rf.stack ≡ entries
          next =
              ap (λ (n : ℕ). drop n rf.stack) behind
              ∙ dropped_next (length rf.stack - suc (length needs)) rf.stack type entries are

          here : held before (operand f (length needs)) ≡ Plain
          here = held_plain before (operand f (length needs)) none where
            many : length (topmost (suc (length needs)) rf.stack) ≡ suc (length needs)
            many = length-drop (length rf.stack - suc (length needs)) rf.stack ∙ omega (arith, long, exact)

            none : IsNone before (operand f (length needs))
            none = elim sure.0 [
              | inl barred ↦ not_virtual s known sc need type (held before (operand f (length needs))) barred
                  (operand_has s reached f before st (suc (length needs)) 0 (length needs) type many (omega arith)
                  (ap (λ (l : List VType). slice_get l 0) are)) fits.0
              | inr not ↦ not
            ]

          choose : (k ≡ length needs) ⊎ (k < length needs) → held before (operand f k) ≡ Plain
          choose (inl same) = ap (λ (n : ℕ). held before (operand f n)) same ∙ here
          choose (inr low) = later (subst (AllFit sc needs) (sym next) fits.1) k low

-- ---- rows that are sure of their operands

-- by what a row asks
abbrev pub NoneAsked : PlanScope → State → PlanRow → Type 0
NoneAsked s before p =
    (at : ℕ) (position : Position) (site : ℕ) → slice_get (positions p) at ≡ Some position → AsksFor s before position site → ⊥

operand_asked : (f : Frame) (count k : ℕ) → k < count → slice_get (operands_asked f count) (count - (k + 1)) ≡ Some (any_object (operand f k))
operand_asked f zero k less = absurd (omega (arith, less))
operand_asked f (suc count) k less = by (same_or_less k count less) (operand_asked f count k) where
  by : (k ≡ count) ⊎ (k < count)
      → (k < count → slice_get (operands_asked f count) (count - (k + 1)) ≡ Some (any_object (operand f k)))
      → slice_get (operands_asked f (suc count)) (suc count - (k + 1)) ≡ Some (any_object (operand f k))
  by (inl same) rest =
      let first : suc count - (k + 1) ≡ 0 = omega (arith, same) in
      ap (slice_get (operands_asked f (suc count))) first ∙ ap (λ (n : ℕ). Some (any_object (operand f n))) (sym same)
  by (inr low) rest =
      let later : suc count - (k + 1) ≡ suc (count - (k + 1)) = omega (arith, low) in
      ap (slice_get (operands_asked f (suc count))) later ∙ rest low

-- so many operands are handed over
pub handed_none : (s : PlanScope) (before : State) (f : Frame) (p : PlanRow) (count : ℕ) → p.asks ≡ operands_asked f count → NoneAsked s before p
    → (k : ℕ) → k < count
    → IsNone before (operand f k)
handed_none s before f p count asks none k less site virtual =
    none (count - (k + 1)) (any_object (operand f k)) site
    (item_before p.asks _ (count - (k + 1)) (any_object (operand f k))
    (ap (λ (all : List Position). slice_get all (count - (k + 1))) asks ∙ operand_asked f count k less)) virtual

pub sure_none : (f : Frame) (before : State) (needs : List Need) → ((k : ℕ) → k < length needs → IsNone before (operand f k)) → Sure f before needs
sure_none f before [] none = tt
sure_none f before (need ∷ needs) none =
    (inr (none (length needs) (omega arith)), sure_none f before needs (λ k less. none k (omega (arith, less))))

pub sure_counts : (f : Frame) (before : State) (count : ℕ) → Sure f before (replicate count (of_kind kinds.Int))
sure_counts f before zero = tt
sure_counts f before (suc count) = (inl tt, sure_counts f before count)

-- numbers
abbrev pub IsNumber : Kind → Type 0
IsNumber kinds.Ref = ⊥
IsNumber kind = Unit {0}

pub sure_numbers : (f : Frame) (before : State) (all : List Kind) → AllByRecursion IsNumber all → Sure f before (map of_kind all)
sure_numbers f before [] numbers = tt
sure_numbers f before (kind ∷ all) numbers = (inl (barred kind numbers.0), sure_numbers f before all numbers.1) where
  barred : (kind : Kind) → IsNumber kind → IsBarred (of_kind kind)
  barred kinds.Ref is = is
  barred kinds.Int is = tt
  barred kinds.Long is = tt
  barred kinds.Float is = tt
  barred kinds.Double is = tt
