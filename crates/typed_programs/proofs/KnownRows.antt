use Rattle.std.specs.Prelude.{◌≡◌, ◌≤◌, ◌==◌, ◌&&◌, ◌+◌, ◌-◌, refl, ℕ, suc, nat_le, nat_lt, Bool, true, false, List, [], ◌∷◌, ◌++◌, length, take, drop, Option, Some, None, IfSome, if◌then◌else◌}
use Rattle.std.proofs.Common.{arith, ap, sym, ◌∙◌, subst}
use Rattle.std.proofs.lemmas.List.{length_push, take_at}
use Rattle.std.proofs.lemmas.List.Sums.{take_while-cons}
use Rattle.class_model.specs.Characters.{left_bracket, class_letter, semicolon}
use Rattle.class_model.specs.Descriptors.{brackets, named_text}
use Rattle.class_model.specs.declared.descriptor.Kind.{Kind}
use Rattle.class_model.specs.declared.descriptor.Kind.TheVariants as kinds
use Rattle.class_model.specs.declared.frame.Frame.{Frame}
use Rattle.class_model.specs.declared.frame.VType.{VType}
use Rattle.class_model.specs.declared.opcodes.TheConstants.{IALOAD, SALOAD, AALOAD, IASTORE, SASTORE, AASTORE}
use Rattle.class_tree.specs.Headers.{Name, Headers, IsThere}
use Rattle.class_tree.specs.Subtype.{IsArray}
use Rattle.member_link.specs.BodyTyping.{RowHolds}
use Rattle.member_link.specs.Machine.Codes.{same_kind}
use Rattle.member_link.specs.References.{element_class, IsNamedThere}
use Rattle.member_link.specs.RowScope.{RowScope}
use Rattle.member_link.specs.Rows.ArrayRows.{Elements, elements_of, elements_from, elements_load_row, elements_store_row, array_load_row, array_store_row, primitive_array}
use Rattle.member_link.specs.Rows.Operands.{Need, nothing, AllFit}
use Rattle.member_link.specs.Rows.Row.{access_aside, no_row}
use Rattle.member_link.specs.Rows.Table.{jump_row}

-- ---- rows that no instruction has

pub no_operand : (s : RowScope) (ts : List VType) → AllFit s (nothing ∷ []) ts → ⊥
no_operand s [] fit = fit
no_operand s (t ∷ ts) fit = fit.0

pub no_row_holds : (s : RowScope) (frame : Frame) → RowHolds s frame (access_aside (no_row frame)) → ⊥
no_row_holds s frame holds = no_operand s _ holds.operands

pub jump_known : (s : RowScope) (frame : Frame) (b : Bool) (takes : List Need) → RowHolds s frame (access_aside (jump_row frame b takes))
    → b ≡ true
jump_known s frame true takes holds = refl
jump_known s frame false takes holds = absurd (no_row_holds s frame holds)

pub elements_few : (n : ℕ) (e : Elements) → elements_of n ≡ Some e → n ≤ 7
elements_few n e is = grind arith

pub between : (low high opcode : ℕ) → low ≤ opcode → opcode ≤ high → (nat_le low opcode && nat_le opcode high) ≡ true
between low high opcode one other = grind (arith, one, other)

pub elements_between : (first opcode : ℕ) (e : Elements) → elements_from first opcode ≡ Some e → (first ≤ opcode) × (opcode ≤ first + 7)
elements_between first opcode e is = by (nat_lt opcode first) refl where
  by : (b : Bool) → nat_lt opcode first ≡ b → (first ≤ opcode) × (opcode ≤ first + 7)
  by true d = let no : None ≡ Some e = rw d at is in cc
  by false d =
      let few : opcode - first ≤ 7 = elements_few (opcode - first) e (rw d at is) in
      let low : first ≤ opcode = grind (arith, d) in
      (low, omega (arith, low, few))

pub load_known : (s : RowScope) (frame : Frame) (opcode : ℕ) → RowHolds s frame (access_aside (array_load_row frame opcode))
    → (nat_le IALOAD opcode && nat_le opcode SALOAD) ≡ true
load_known s frame opcode holds = by (opcode == AALOAD) refl where
  by_elements : (o : Option Elements) → elements_from IALOAD opcode ≡ o → RowHolds s frame (access_aside (elements_load_row frame o))
      → (nat_le IALOAD opcode && nat_le opcode SALOAD) ≡ true
  by_elements None e h = absurd (no_row_holds s frame h)
  by_elements (Some x) e h = let b = elements_between IALOAD opcode x e in between IALOAD SALOAD opcode b.0 b.1

  by : (b : Bool) → (opcode == AALOAD) ≡ b → (nat_le IALOAD opcode && nat_le opcode SALOAD) ≡ true
  by true e = let same : opcode ≡ AALOAD = search arith in subst (λ o. (nat_le IALOAD o && nat_le o SALOAD) ≡ true) (sym same) refl
  by false e = by_elements (elements_from IALOAD opcode) refl (rw e at holds)

pub store_known : (s : RowScope) (frame : Frame) (opcode : ℕ) → RowHolds s frame (access_aside (array_store_row frame opcode))
    → (nat_le IASTORE opcode && nat_le opcode SASTORE) ≡ true
store_known s frame opcode holds = by (opcode == AASTORE) refl where
  by_elements : (o : Option Elements) → elements_from IASTORE opcode ≡ o → RowHolds s frame (access_aside (elements_store_row frame o))
      → (nat_le IASTORE opcode && nat_le opcode SASTORE) ≡ true
  by_elements None e h = absurd (no_row_holds s frame h)
  by_elements (Some x) e h = let b = elements_between IASTORE opcode x e in between IASTORE SASTORE opcode b.0 b.1

  by : (b : Bool) → (opcode == AASTORE) ≡ b → (nat_le IASTORE opcode && nat_le opcode SASTORE) ≡ true
  by true e = let same : opcode ≡ AASTORE = search arith in subst (λ o. (nat_le IASTORE o && nat_le o SASTORE) ≡ true) (sym same) refl
  by false e = by_elements (elements_from IASTORE opcode) refl (rw e at holds)

pub kind_is_same : (k : Kind) → same_kind k k ≡ true
kind_is_same kinds.Int = refl
kind_is_same kinds.Long = refl
kind_is_same kinds.Float = refl
kind_is_same kinds.Double = refl
kind_is_same kinds.Ref = refl

-- ---- names of arrays

abbrev pub element_in : List ℕ → Option Name
element_in [] = None
element_in (first ∷ rest) = if first == class_letter then Some (take (length rest - 1) rest) else None

abbrev pub element_with : ℕ → Name → Option Name
element_with count name = if count == 0 then Some name else element_in (drop count name)

pub bracket_more : (xs : List ℕ) → brackets (left_bracket ∷ xs) ≡ suc (brackets xs)
bracket_more xs = ap length (take_while-cons (λ b. b == left_bracket) left_bracket xs)

pub bracket_none : (x : ℕ) (xs : List ℕ) → (x == left_bracket) ≡ false → brackets (x ∷ xs) ≡ 0
bracket_none x xs e = ap length (take_while-cons (λ b. b == left_bracket) x xs) ∙ (rw e refl)

pub some_left : (n : ℕ) → (suc n == 0) ≡ false
some_left n = search arith

pub element_more : (xs : List ℕ) → element_class (left_bracket ∷ xs) ≡ element_in (drop (brackets xs) xs)
element_more xs = ap (λ n. element_with n (left_bracket ∷ xs)) (bracket_more xs) ∙ (rw (some_left (brackets xs)) refl)

pub element_none : (x : ℕ) (xs : List ℕ) → (x == left_bracket) ≡ false → element_class (x ∷ xs) ≡ Some (x ∷ xs)
element_none x xs e = ap (λ n. element_with n (x ∷ xs)) (bracket_none x xs e)

pub array_element : (name : Name) → element_class (left_bracket ∷ named_text name) ≡ element_class name
array_element [] = refl
array_element (first ∷ rest) = by (first == left_bracket) refl where
  class_is : take (length (first ∷ rest ++ semicolon ∷ []) - 1) (first ∷ rest ++ semicolon ∷ []) ≡ first ∷ rest
  class_is = take_at (first ∷ rest) (semicolon ∷ []) (length (first ∷ rest ++ semicolon ∷ []) - 1)
      (let e = length_push (first ∷ rest) semicolon in omega (arith, e))

  of_array : (first ≡ left_bracket) → element_class (left_bracket ∷ (first ∷ rest)) ≡ element_class (first ∷ rest)
  of_array same =
      subst (λ x. element_class (left_bracket ∷ (x ∷ rest)) ≡ element_class (x ∷ rest)) (sym same)
      (element_more (left_bracket ∷ rest) ∙ (ap (λ n. element_in (drop n (left_bracket ∷ rest))) (bracket_more rest)
      ∙ sym (element_more rest)))

  by : (b : Bool) → (first == left_bracket) ≡ b → element_class (left_bracket ∷ named_text (first ∷ rest)) ≡ element_class (first ∷ rest)
  by true e = let text : named_text (first ∷ rest) ≡ first ∷ rest = rw e refl in ap (λ t. element_class (left_bracket ∷ t)) text
      ∙ of_array (search arith)
  by false e =
      let text : named_text (first ∷ rest) ≡ class_letter ∷ (first ∷ rest ++ semicolon ∷ []) = rw e refl in
      ap (λ t. element_class (left_bracket ∷ t)) text
      ∙ (element_more (class_letter ∷ (first ∷ rest ++ semicolon ∷ []))
      ∙ (ap (λ n. element_in (drop n (class_letter ∷ (first ∷ rest ++ semicolon ∷ []))))
      (bracket_none class_letter (first ∷ rest ++ semicolon ∷ []) refl)
      ∙ (ap Some class_is ∙ sym (element_none first rest e))))

pub array_there : (headers : Headers) (name : Name) → IsNamedThere headers name → IsNamedThere headers (left_bracket ∷ named_text name)
array_there headers name there = subst (λ o. IfSome o (IsThere headers)) (sym (array_element name)) there

pub primitive_named : (code : ℕ) (name : Name) → primitive_array code ≡ Some name → IsArray name × (element_class name ≡ None)
primitive_named code name is = grind arith
