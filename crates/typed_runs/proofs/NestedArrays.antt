use Rattle.std.specs.Prelude.{◌≡◌, ◌≤◌, refl, ℕ, ℤ, zero, suc, pos, negsuc, Bool, true, false, List, [], ◌∷◌, ◌++◌, length, drop, take, replicate, reverse, Option, Some, None, if◌then◌else◌}
use Rattle.std.specs.List.{AllByRecursion}
use Rattle.std.proofs.Common.{arith, ap, sym, ◌∙◌, subst}
use Rattle.std.proofs.lemmas.List.{length-replicate}
use Rattle.class_model.specs.Characters.{left_bracket}
use Rattle.class_model.specs.Code.{HasDimensions}
use Rattle.class_model.specs.declared.descriptor.Kind.TheVariants as kinds
use Rattle.class_model.specs.declared.frame.Frame.{Frame}
use Rattle.class_model.specs.declared.frame.VType.{VType}
use Rattle.class_model.specs.declared.frame.VType.TheVariants as types
use Rattle.class_tree.specs.Headers.{Name}
use Rattle.class_tree.specs.Subtype.{IsArray}
use Rattle.machine_values.specs.Frames.{MethodState}
use Rattle.machine_values.specs.Heaps.{Heap, Made}
use Rattle.machine_values.specs.declared.frame.RunFrame.{RunFrame}
use Rattle.machine_values.specs.declared.value.Value.{Value}
use Rattle.machine_values.specs.declared.value.Value.TheVariants as values
use Rattle.member_link.specs.Machine.ArraySteps.{MadeElements, made_times, nested, Counts, all_counts, negative_count, no_counts, counts_of, is_too_long, arrays_made, gives_arrays, arrays_of_counts}
use Rattle.member_link.specs.Machine.Codes.{naming}
use Rattle.member_link.specs.Machine.Completions.{ends}
use Rattle.member_link.specs.Machine.Ops.{new_arrays}
use Rattle.member_link.specs.Machine.Programs.{Program}
use Rattle.member_link.specs.Machine.Stepping.{op_step}
use Rattle.member_link.specs.Machine.Throwables.{negative_size}
use Rattle.member_link.specs.Machine.Worlds.{World, Memory, with_heap, array_too_long}
use Rattle.member_link.specs.RowScope.{RowScope}
use Rattle.member_link.specs.Rows.ArrayRows.{made_row}
use Rattle.member_link.specs.Rows.Operands.{Need, of_kind, AllFit, topmost}
use Rattle.member_link.specs.Rows.Row.{access_aside, plain}
use Rattle.typed_runs.proofs.Here.{Here, operands_here, worked}
use Rattle.typed_runs.proofs.Kept.{Keeps, keeps_same, keeps_through, shape_kept}
use Rattle.typed_runs.proofs.NamesThere.{component_named_in, names_no_array}
use Rattle.typed_runs.proofs.NewArrays.{ArrayMade, array_made, blank_made, array_itself, array_given}
use Rattle.typed_runs.proofs.OperandsTaken.{ComesTyped}
use Rattle.typed_runs.proofs.Performing.{raises_goes, ends_goes}
use Rattle.typed_runs.proofs.Raising.{raises_size}
use Rattle.typed_runs.proofs.Taken.{an_int_value}
use Rattle.typed_runs.specs.Conforming.{AllConform, by_class, no_values, and_value, to_one, FitsDescriptor, IsTypedMemory, NamesNoArray}
use Rattle.typed_runs.specs.TypedPrograms.{Typings, IsTypedProgram}
use Rattle.typed_runs.specs.TypedWorlds.{StaysTyped}

-- ---- dimensions

-- so many brackets are in front
abbrev pub IsDeep : ℕ → Name → Type 0
IsDeep zero desc = Unit {0}
IsDeep (suc n) desc = (rest : Name) × (desc ≡ left_bracket ∷ rest) × IsDeep n rest

pub deep_of : (n dimensions : ℕ) (text : Name) → n ≤ dimensions → IsDeep n (replicate dimensions left_bracket ++ text)
deep_of zero dimensions text few = tt
deep_of (suc n) zero text few = absurd (omega (arith, few))
deep_of (suc n) (suc dimensions) text few =
    (replicate dimensions left_bracket ++ text, refl, deep_of n dimensions text (omega (arith, few)))

pub is_deep : (n : ℕ) (desc : Name) → HasDimensions desc n → IsDeep n desc
is_deep n desc has = subst (IsDeep n) (sym has.spelled) (deep_of n has.dimensions _ has.enough)

-- ---- arrays of arrays

-- so many arrays that were made one after the other
pub record ArraysMade (P : Program) (m : Memory) (desc : Name) (count : ℕ) (made : MadeElements) : Type 0 where
  pub keep : Keeps m.heap made.heap
  pub typed : IsTypedMemory P (with_heap m made.heap)
  pub as_many : length made.values ≡ count
  pub elements : AllByRecursion (FitsDescriptor P made.heap desc) made.values

module _ (P : Program) (T : Typings) (program : IsTypedProgram P T) where
  pub times_made : (desc : Name) (make : Heap → Made)
      → ((m : Memory) → IsTypedMemory P m → ArrayMade P m (left_bracket ∷ desc) (make m.heap)) → (count : ℕ) (m : Memory)
      → IsTypedMemory P m
      → ArraysMade P m (left_bracket ∷ desc) count (made_times make count m.heap)
  times_made desc make each zero m typed = record { keep = keeps_same m.heap; typed = typed; as_many = refl; elements = tt }
  times_made desc make each (suc count) m typed =
      let one = each m typed in
      let others = times_made desc make each count (with_heap m (make m.heap).heap) one.typed in
      record {
        keep = keeps_through one.keep others.keep;
        typed = others.typed;
        as_many = ap suc others.as_many;
        elements = (to_one (shape_kept others.keep one.shape) (by_class (array_itself P T program (left_bracket ∷ desc))), others.elements);
      }

  pub nested_made : (counts : List ℕ) (desc : Name) (count : ℕ) (m : Memory) → IsTypedMemory P m → IsDeep (suc (length counts)) desc
      → NamesNoArray desc → ArrayMade P m desc (nested desc count counts m.heap)
  nested_made [] desc count m typed deep there = blank_made P m desc count typed (deep.0, deep.1) there
  nested_made (next ∷ counts) desc count m typed deep there =
      by deep.0 deep.2.0 deep.1 deep.2.1 deep.2.2 there (λ d n t below named. nested_made counts d next n t below named) where
        by : (rest inner : Name) → desc ≡ left_bracket ∷ rest → rest ≡ left_bracket ∷ inner → IsDeep (length counts) inner
            → NamesNoArray desc
            → ((d : Name) (n : Memory) → IsTypedMemory P n → IsDeep (suc (length counts)) d → NamesNoArray d
            → ArrayMade P n d (nested d next counts n.heap))
            → ArrayMade P m desc (nested desc count (next ∷ counts) m.heap)
        by rest inner outer is below named each =
            let full : desc ≡ left_bracket ∷ left_bracket ∷ inner = outer ∙ ap (λ r. left_bracket ∷ r) is in
            let there = subst NamesNoArray full named in
            let inside = component_named_in (λ class. ¬ IsArray class) inner there in
            let make : Heap → Made = nested (left_bracket ∷ inner) next counts in
            let all = times_made inner make (λ n t. each (left_bracket ∷ inner) n t (inner, refl, below) inside) count m typed in
            let elements : MadeElements = made_times make count m.heap in
            let after : Memory = with_heap m elements.heap in
            let made =
            array_made P after (left_bracket ∷ left_bracket ∷ inner) count elements.values all.typed (left_bracket ∷ inner, refl) there
            all.as_many all.elements in
            subst (λ d. ArrayMade P m d (nested d count (next ∷ counts) m.heap)) (sym full)
            (record { keep = keeps_through all.keep made.keep; typed = made.typed; len = made.len; shape = made.shape })

-- ---- counts

abbrev pub ints : ℕ → List Need
ints n = replicate n (of_kind kinds.Int)

-- there are so many counts, if none is negative
abbrev pub AreCounts : ℕ → Counts → Type 0
AreCounts n (all_counts counts) = length counts ≡ n
AreCounts n negative_count = Unit {0}
AreCounts n no_counts = ⊥

one_more : (n : ℕ) (i : ℤ) (others : List Value) (c : Counts) → counts_of others ≡ c → AreCounts n c
    → AreCounts (suc n) (counts_of (values.Int i ∷ others))
one_more n (pos count) others (all_counts counts) is are = rw is (ap suc are)
one_more n (pos count) others negative_count is are = rw is tt
one_more n (negsuc count) others (all_counts counts) is are = rw is tt
one_more n (negsuc count) others negative_count is are = rw is tt
one_more n i others no_counts is are = absurd are

pub are_counts : {P : Program} {s : RowScope} {h : Heap} (r : RowScope) (n : ℕ) (ts : List VType) (vs : List Value) → AllFit r (ints n) ts
    → AllConform P s h ts vs → AreCounts n (counts_of vs)
are_counts r zero [] [] fit no_values = refl
are_counts r (suc n) (t ∷ ts) (v ∷ vs) fit (and_value c others) =
    let i = an_int_value fit.0 c in
    subst (λ x. AreCounts (suc n) (counts_of (x ∷ vs))) (sym i.1)
    (one_more n i.0 vs (counts_of vs) refl (are_counts r n ts vs fit.1 others))
are_counts r zero (t ∷ ts) vs fit all = absurd fit
are_counts r (suc n) [] vs fit all = absurd fit
are_counts r zero [] (v ∷ vs) fit all = elim all [ ]
are_counts r (suc n) (t ∷ ts) [] fit all = elim all [ ]

-- ---- multianewarray

module _ {P : Program} {T : Typings} {w : World} {f : MethodState} {rest : List RunFrame} {s : RowScope} {frame : Frame} {place : ℕ}
    {numbered : ℕ → ℕ} where
  pub new_arrays_stays : (desc : Name) (dimensions : ℕ)
      → Here P T w f rest s frame place numbered (plain frame (ints dimensions) (types.Object desc ∷ []))
      (new_arrays desc dimensions) true []
      → StaysTyped P T w (op_step P w f rest (new_arrays desc dimensions))
  new_arrays_stays desc dimensions h =
      let n : ℕ = length (ints dimensions) in
      let operands : List Value = reverse (take n f.stack) in
      let o = operands_here h in
      worked h n (sym many) o.enough
      (by (counts_of operands) (are_counts s dimensions (topmost n frame.stack) operands h.holds.operands o.values)) where
        many : length (ints dimensions) ≡ dimensions
        many = length-replicate dimensions (of_kind kinds.Int)

        by_test : (count : ℕ) (counts : List ℕ) → suc (length counts) ≡ dimensions → (b : Bool)
            → ComesTyped P T w f rest (length (ints dimensions))
            (if b then ends array_too_long
            else gives_arrays w.memory (arrays_made (count ∷ counts)) (nested desc count counts w.memory.heap))
        by_test count counts same true = ends_goes h array_too_long (record f { stack = drop (length (ints dimensions)) f.stack }) (λ e. cc)
        by_test count counts same false =
            let deep = subst (λ n. IsDeep n desc) (sym same) (is_deep dimensions desc h.linked.0) in
            array_given h (arrays_made (count ∷ counts)) (nested desc count counts w.memory.heap)
            (nested_made P T h.typed.program counts desc count w.memory h.typed.memory deep (names_no_array P T h.typed.program desc h.linked.2))

        by : (c : Counts) → AreCounts dimensions c
            → ComesTyped P T w f rest (length (ints dimensions)) (arrays_of_counts w.memory desc c)
        by (all_counts []) are = let some = h.linked.1 in absurd (omega (arith, are, some))
        by (all_counts (count ∷ counts)) are = by_test count counts are (is_too_long 1 (count ∷ counts))
        by negative_count are = raises_goes h negative_size (drop (length (ints dimensions)) f.stack) (raises_size P T h.typed.program)
        by no_counts are = absurd are

  pub named_arrays_stays : (name : Option Name) (dimensions : ℕ)
      → Here P T w f rest s frame place numbered (access_aside (made_row frame dimensions name))
      (naming name (λ n. new_arrays n dimensions)) true []
      → StaysTyped P T w (op_step P w f rest (naming name (λ n. new_arrays n dimensions)))
  named_arrays_stays None dimensions h = absurd h.linked
  named_arrays_stays (Some desc) dimensions h = new_arrays_stays desc dimensions h
