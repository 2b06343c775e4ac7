-- A class that has its field constructor in the written folder: what its Code asks of it holds.
use Rattle.std.proofs.Common.{◌≡◌, ◌≢◌, ◌==◌, ◌+◌, ◌-◌, ◌++◌, ◌≤◌, ◌⊎◌, inl, inr, not, ℕ, zero, suc, nat_le, Bool, true, false, List, [], ◌∷◌, drop, filter, length, take, map, replicate, bytes_eq, if◌then◌else◌, Option, Some, None, option_and_then, IfSome, IsTrue, refl, sym, ap, subst, ◌∙◌, arith}
use Rattle.std.specs.List.{list_any}
use Rattle.std.proofs.lemmas.Bool.{false≢true, leb-true, or_right}
use Rattle.std.proofs.lemmas.List.{length-append}
use Rattle.std.proofs.lemmas.List.Sums.{sum_by-cons, take_while-cons}
use Rattle.std.proofs.lemmas.Option.{none-some, same_Some}
use Rattle.std.proofs.lemmas.Slice.Eq.{bytes_eq-Decides}
use Rattle.class_model.specs.Characters.{boolean_letter, class_letter, left_bracket}
use Rattle.class_model.specs.Descriptors.{brackets, kind_of, parameter_units, parameters_of, type_of, units_of}
use Rattle.class_model.specs.Header.{header_of}
use Rattle.class_model.specs.Pool.{Constants, entries_of}
use Rattle.class_model.specs.declared.descriptor.FieldType.{FieldType}
use Rattle.class_model.specs.declared.descriptor.FieldType.TheVariants.{Named}
use Rattle.class_model.specs.declared.class_file.ClassFile.{ClassFile}
use Rattle.class_model.specs.declared.header.Header.{Header}
use Rattle.class_model.specs.declared.header.Member.{Member}
use Rattle.class_model.specs.declared.pool.Const.{Const}
use Rattle.class_rewrite.specs.Rewriting.Folders.{IsPoolBefore, at_first, behind_kept, behind_rewritten}
use Rattle.class_rewrite.specs.Rewriting.Methods.{IsRewritten, Rewriting, Rewritten}
use Rattle.class_tree.specs.Headers.{Headers, Name, class_named, headers_of}
use Rattle.class_tree.specs.Hierarchy.{IsHierarchy}
use Rattle.class_tree.specs.Laws.Above.{hierarchy_is_rooted, hierarchy_is_sound, object_no_superclass}
use Rattle.class_tree.specs.Laws.Headers.{same_class}
use Rattle.class_tree.specs.Laws.Names.{one_name_first, one_of_first}
use Rattle.class_tree.specs.Layouts.{chain, instance_fields, own_fields, superclasses}
use Rattle.class_tree.specs.Names.{object}
use Rattle.expanded_code.specs.Candidates.{HasRoom}
use Rattle.expanded_code.specs.Laws.SuperChains.{has_superclass, of_each_class, super_there, superclasses_is, superclasses_of_root}
use Rattle.making_code.specs.Constants.{Need, constant_of, grow, index_of, with_constant}
use Rattle.making_code.specs.FieldConstructor.{superclass_of, units_of_fields}
use Rattle.member_link.specs.FieldConstructors.{constructor_descriptor, field_types}
use Rattle.member_link.specs.Laws.FolderClasses.{class_of_folder}
use Rattle.member_link.specs.Laws.ResultTexts.{no_result}
use Rattle.member_link.specs.References.{TypeNames, element_class}
use Rattle.member_link.specs.Signatures.{result_of}
use Rattle.stackmap_emit.specs.FrameConstants.{frames_pool, table_needs}
use Rattle.written_files.specs.FieldConstructors.{IsDescribed}
use Rattle.written_runs.specs.Inner.Setup.{IsSetup, Setup}
use Rattle.written_runs.specs.Laws.AddedConstructors.{AddsToCandidates, IsAddedTo, each_name, of_chain}
use Rattle.written_runs.specs.Laws.Constructs.{fields_above_and_own}
use Rattle.written_runs.specs.Laws.ConstructorTexts.{ReadsParameters, bytes, parameters_are}
use Rattle.written_runs.specs.Laws.KnownConstructors.{fewer_units}

-- ---- the array behind the fields

abbrev element_in : List ℕ → Option Name
element_in [] = None
element_in (first ∷ rest) = if first == class_letter then Some (take (length rest - 1) rest) else None

abbrev element_with : ℕ → Name → Option Name
element_with count name = if count == 0 then Some name else element_in (drop count name)

bracket_more : (rest : List ℕ) → brackets (left_bracket ∷ rest) ≡ suc (brackets rest)
bracket_more rest = ap length (take_while-cons (λ b. b == left_bracket) left_bracket rest)

some_left : (n : ℕ) → (suc n == 0) ≡ false
some_left n = search arith

element_more : (rest : List ℕ) → element_class (left_bracket ∷ rest) ≡ element_in (drop (brackets rest) rest)
element_more rest = ap (λ n. element_with n (left_bracket ∷ rest)) (bracket_more rest) ∙ (rw (some_left (brackets rest)) refl)

-- its element is of a base type
element_none : (dimensions : ℕ) → element_class (replicate (suc dimensions) left_bracket ++ boolean_letter ∷ []) ≡ None
element_none zero = element_more (boolean_letter ∷ [])
element_none (suc dimensions) =
    let rest : List ℕ = replicate dimensions left_bracket ++ boolean_letter ∷ [] in
    element_more (left_bracket ∷ rest) ∙ ap (λ n. element_in (drop n (left_bracket ∷ rest))) (bracket_more rest) ∙ sym (element_more rest)
    ∙ element_none dimensions

-- it names no class
names_none : (dimensions : ℕ) → 1 ≤ dimensions → TypeNames (λ name. ⊥) (Named (replicate dimensions left_bracket ++ boolean_letter ∷ []))
names_none zero some = absurd (omega (arith, some))
names_none (suc dimensions) some = subst (λ (found : Option Name). IfSome found (λ name. ⊥)) (sym (element_none dimensions)) tt

-- ---- units

pub units_same : (fields : List Member) → parameter_units (map (λ (field : Member). type_of field.desc) fields) ≡ units_of_fields fields
units_same [] = refl
units_same (field ∷ fields) =
    sum_by-cons (λ (type : FieldType). units_of (kind_of type)) (type_of field.desc) (map (λ (one : Member). type_of one.desc) fields)
    ∙ ap (λ (n : ℕ). units_of (kind_of (type_of field.desc)) + n) (units_same fields)

-- ---- the class above

pub kept_name : (name : Name) (names : List Name) → IsTrue (list_any (bytes_eq name) names) → bytes_eq name object ≡ false
    → IsTrue (list_any (bytes_eq name) (filter (λ (n : Name). not (bytes_eq n object)) names))
kept_name name [] one other = absurd (false≢true one)
kept_name name (first ∷ names) one other = by (bytes_eq first object) refl (one_of_first first names name one) (λ later. kept_name name names later other) where
  by : (b : Bool) → bytes_eq first object ≡ b → (first ≡ name) ⊎ IsTrue (list_any (bytes_eq name) names)
      → (IsTrue (list_any (bytes_eq name) names) → IsTrue (list_any (bytes_eq name) (filter (λ (n : Name). not (bytes_eq n object)) names)))
      → IsTrue (list_any (bytes_eq name) (filter (λ (n : Name). not (bytes_eq n object)) (first ∷ names)))
  by true e (inl same) rest = absurd (false≢true (sym other ∙ ap (λ (n : Name). bytes_eq n object) (sym same) ∙ e))
  by true e (inr later) rest = rw (e) (rest later)
  by false e (inl same) rest =
      rw (e) (one_name_first name first (filter (λ (n : Name). not (bytes_eq n object)) names) same)
  by false e (inr later) rest =
      rw (e) (or_right (bytes_eq name first) (list_any (bytes_eq name) (filter (λ (n : Name). not (bytes_eq n object)) names)) (rest later))

module _ (headers : Headers) (hierarchy : IsHierarchy headers) where
  -- a class is among its own superclasses
  pub itself : (name : Name) (header : Header) → class_named headers name ≡ Some header → IsTrue (list_any (bytes_eq name) (superclasses headers name))
  itself name header is = by header.super_name refl where
    first : (others : List Name) → IsTrue (list_any (bytes_eq name) (name ∷ others))
    first others = one_name_first name name others refl

    by : (super : Option Name) → header.super_name ≡ super → IsTrue (list_any (bytes_eq name) (superclasses headers name))
    by None none = subst (λ (names : List Name). IsTrue (list_any (bytes_eq name) names)) (sym (superclasses_of_root headers hierarchy name header is none)) (first [])
    by (Some above) some =
        subst (λ (names : List Name). IsTrue (list_any (bytes_eq name) names)) (sym (superclasses_is headers hierarchy name header is above some))
        (first (superclasses headers above))

  -- what is above one of the superclasses is one of them
  abbrev pub HasAbove : Name → Type 0
  HasAbove low =
      (name above : Name) (header : Header) → IsTrue (list_any (bytes_eq name) (superclasses headers low))
      → class_named headers name ≡ Some header
      → header.super_name ≡ Some above
      → IsTrue (list_any (bytes_eq above) (superclasses headers low))

  pub above_there : (low : Name) (low_header : Header) → class_named headers low ≡ Some low_header → HasAbove low
  above_there low low_header there = of_each_class headers hierarchy HasAbove top step low low_header there where
    top : (top_header : Header) → class_named headers object ≡ Some top_header → HasAbove object
    top top_header is name above header one is_name some =
        let none = object_no_superclass headers (hierarchy_is_sound headers hierarchy) (hierarchy_is_rooted headers hierarchy) top_header is in
        elim (one_of_first object [] name (subst (λ (names : List Name). IsTrue (list_any (bytes_eq name) names))
        (superclasses_of_root headers hierarchy object top_header is none) one)) [
          | inl same ↦
              let equal = same_class headers object top_header header is (ap (class_named headers) same ∙ is_name) in
              absurd (none-some above (sym none ∙ ap (λ (h : Header). h.super_name) equal ∙ some))
          | inr never ↦ absurd (false≢true never)
        ]

    step : (name above : Name) (header : Header) → class_named headers name ≡ Some header → name ≢ object → header.super_name ≡ Some above
        → HasAbove above
        → HasAbove name
    step own upper own_header is differ some rest name above header one is_name is_super =
        let whole = superclasses_is headers hierarchy own own_header is upper some in
        let behind : IsTrue (list_any (bytes_eq above) (superclasses headers upper)) → IsTrue (list_any (bytes_eq above) (superclasses headers own)) =
        λ later. subst (λ (names : List Name). IsTrue (list_any (bytes_eq above) names)) (sym whole)
        (or_right (bytes_eq above own) (list_any (bytes_eq above) (superclasses headers upper)) later) in
        elim (one_of_first own (superclasses headers upper) name (subst (λ (names : List Name). IsTrue (list_any (bytes_eq name) names)) whole one)) [
          | inl same ↦
              let equal = same_class headers own own_header header is (ap (class_named headers) same ∙ is_name) in
              let upper_is : upper ≡ above = same_Some upper above (sym some ∙ ap (λ (h : Header). h.super_name) equal ∙ is_super) in
              let high = super_there headers hierarchy own own_header is upper some in
              behind (subst (λ (n : Name). IsTrue (list_any (bytes_eq n) (superclasses headers upper))) upper_is (itself upper high.0 high.1))
          | inr later ↦ behind (rest name above header later is_name is_super)
        ]

-- ---- how long pools are

with_count : (limit most : ℕ) (pool : Constants) (constant : Const) (grown : Constants) → with_constant limit pool constant ≡ Some grown
    → length pool ≤ most
    → limit ≤ most
    → length grown ≤ most
with_count limit most pool constant grown is short low = by (index_of pool constant) refl where
  if_fits : (fits : Bool) → nat_le (length pool + length (entries_of constant)) limit ≡ fits
      → (if fits then Some (pool ++ entries_of constant) else None) ≡ Some grown
      → length grown ≤ most
  if_fits true fits e =
      let both = length-append pool (entries_of constant) in
      let within : length pool + length (entries_of constant) ≤ limit = leb-true (length pool + length (entries_of constant)) limit fits in
      subst (λ (p : Constants). length p ≤ most) (same_Some (pool ++ entries_of constant) grown e) (omega (arith, both, within, low))
  if_fits false fits e = absurd (none-some grown e)

  by : (found : Option ℕ) → index_of pool constant ≡ found → length grown ≤ most
  by (Some index) found =
      let whole : with_constant limit pool constant ≡ Some pool = rw found refl in
      subst (λ (p : Constants). length p ≤ most) (same_Some pool grown (sym whole ∙ is)) short
  by None found =
      let whole : with_constant limit pool constant
      ≡ (if nat_le (length pool + length (entries_of constant)) limit then Some (pool ++ entries_of constant) else None) = rw found refl in
      if_fits (nat_le (length pool + length (entries_of constant)) limit) refl (sym whole ∙ is)

-- a pool that grows has not more than before or than fit
pub grow_count : (limit most : ℕ) (needs : List Need) (pool grown : Constants) → grow limit pool needs ≡ Some grown → length pool ≤ most → limit ≤ most
    → length grown ≤ most
grow_count limit most [] pool grown is short low = subst (λ (p : Constants). length p ≤ most) (same_Some pool grown is) short
grow_count limit most (need ∷ needs) pool grown is short low =
    by (with_constant limit pool (constant_of pool need)) refl is (λ more e less. grow_count limit most needs more grown e less low) where
      by : (found : Option Constants) → with_constant limit pool (constant_of pool need) ≡ found
          → option_and_then (λ (more : Constants). grow limit more needs) found ≡ Some grown
          → ((more : Constants) → grow limit more needs ≡ Some grown → length more ≤ most → length grown ≤ most)
          → length grown ≤ most
      by None e told rest = absurd (none-some grown told)
      by (Some more) e told rest = rest more told (with_count limit most pool (constant_of pool need) more e short low)

module _ (r : Rewriting) (class : ℕ) (file : ClassFile) where
  frames_count : (wide : Bool) (needs : List Need) (pool grown : Constants) (most : ℕ)
      → (if wide then grow 64535 pool needs else Some pool) ≡ Some grown
      → length pool ≤ most
      → 64535 ≤ most
      → length grown ≤ most
  frames_count true needs pool grown most is short low = grow_count 64535 most needs pool grown is short low
  frames_count false needs pool grown most is short low = subst (λ (p : Constants). length p ≤ most) (same_Some pool grown is) short

  pub pool_count : (number : ℕ) (pool : Constants) → IsPoolBefore r class file number pool → length file.pool ≤ 64535 → length pool ≤ 64535
  pool_count zero _ at_first short = short
  pool_count (suc number) pool (behind_kept before has kept) short = pool_count number pool before short
  pool_count (suc number) _ (behind_rewritten {pool = pool} {w = v} before is) short =
      let code : length v.code_pool ≤ 64535 =
      grow_count 64535 64535 _ pool v.code_pool is.coded.grows (pool_count number pool before short) (omega arith) in
      frames_count (nat_le 50 is.host.class.major) (table_needs v.stated) v.code_pool v.pool 64535 is.grows code (omega arith)

-- ---- a class with a field constructor

module _ (u : Setup) (setup : IsSetup u) (hierarchy : IsHierarchy (headers_of u.classes)) (adds : AddsToCandidates u) (reads : ReadsParameters)
    (file : ClassFile) (to : IsAddedTo u setup hierarchy adds file) where
  abbrev headers : Headers
  headers = headers_of u.classes

  abbrev name : Name
  name = (header_of file).name

  candidate_is : class_named headers to.candidate ≡ Some to.is_candidate.header
  candidate_is = class_of_folder headers to.candidate to.is_candidate.header to.is_candidate.found

  -- one of the chain has no more fields
  narrow : (upper : Name) → IsTrue (list_any (bytes_eq upper) (superclasses headers to.candidate)) → parameter_units (field_types headers upper) ≤ 64
  narrow upper one =
      let few = to.is_candidate.narrow in
      let less = fewer_units headers hierarchy to.candidate to.is_candidate.header candidate_is upper one in
      omega (arith, few, less)

  described_of : (upper : Name) → IsTrue (list_any (bytes_eq upper) (chain headers to.candidate)) → IsDescribed headers u.constructor upper
  described_of upper one =
      let room : HasRoom u.classes upper = each_name (HasRoom u.classes) (chain headers to.candidate) upper to.is_candidate.room one in
      let has = room.constructor.has in
      let few = has.few in
      let low : room.constructor.dimensions ≤ 255 = omega (arith, few) in
      let thin = narrow upper (of_chain headers to.candidate upper one).there in
      let is : u.constructor upper ≡ constructor_descriptor headers upper room.constructor.dimensions =
      setup.constructors upper room.constructor.dimensions has in
      let read = parameters_are u.classes setup.tree reads upper room.constructor.dimensions has.some low thin in
      record {
        last = Named (replicate room.constructor.dimensions left_bracket ++ boolean_letter ∷ []);
        is_reference = refl;
        names_none = names_none room.constructor.dimensions has.some;
        parameters = ap parameters_of is ∙ read;
        no_result = ap result_of is
            ∙ no_result (constructor_descriptor headers upper room.constructor.dimensions) _ read
            (bytes u.classes setup.tree reads upper room.constructor.dimensions has.some low thin).spelled refl;
      }

  pub described : IsDescribed headers u.constructor name
  described = described_of name to.of_chain_of

  pub few : units_of_fields (instance_fields headers name) ≤ 64
  few =
      let same = units_same (instance_fields headers name) in
      let thin = narrow name (of_chain headers to.candidate name to.of_chain_of).there in
      omega (arith, same, thin)

  no_top : name ≢ object
  no_top same = false≢true (sym to.no_object ∙ (bytes_eq-Decides name object).1 same)

  pub above : (n : Name) × ((header_of file).super_name ≡ Some n)
  above = has_superclass headers hierarchy name (header_of file) to.named_class no_top

  pub is_above : superclass_of headers name ≡ Some above.0
  is_above = rw (to.named_class) above.1

  pub fields_are : instance_fields headers name ≡ instance_fields headers above.0 ++ own_fields headers name
  fields_are = fields_above_and_own headers hierarchy name (header_of file) to.named_class above.0 above.1

  -- the class above is of the chain too
  pub above_in_chain : above.0 ≢ object → IsTrue (list_any (bytes_eq above.0) (chain headers to.candidate))
  above_in_chain differ =
      let there =
      above_there headers hierarchy to.candidate to.is_candidate.header candidate_is name above.0 (header_of file)
      (of_chain headers to.candidate name to.of_chain_of).there to.named_class above.1 in
      kept_name above.0 (superclasses headers to.candidate) there (apart above.0 differ)
    where
      apart : (n : Name) → n ≢ object → bytes_eq n object ≡ false
      apart n other = by (bytes_eq n object) refl where
        by : (b : Bool) → bytes_eq n object ≡ b → b ≡ false
        by true same = absurd (other ((bytes_eq-Decides n object).0 same))
        by false same = refl

  pub described_above : above.0 ≢ object → IsDescribed headers u.constructor above.0
  described_above differ = described_of above.0 (above_in_chain differ)
