-- Field constructors as methods, part by part.
use Rattle.std.proofs.Common.{◌≡◌, ◌+◌, ◌++◌, ◌≤◌, ◌<◌, ℕ, List, [], ◌∷◌, codes, length, map, max, slice_get, Some, Result, Ok, Err, IfOk, sym, ap, subst, ◌∙◌, arith}
use Rattle.std.specs.List.{AllByRecursion, flat_map}
use Rattle.std.proofs.lemmas.List.{length-map}
use Rattle.std.proofs.lemmas.Option.{same_Some}
use Rattle.class_model.specs.Members.{PUBLIC}
use Rattle.class_model.specs.Names.{init}
use Rattle.class_model.specs.Pool.{Constants}
use Rattle.class_model.specs.declared.class_file.Attr.TheVariants.{Code}
use Rattle.class_model.specs.declared.class_file.CodePart.{CodePart}
use Rattle.class_model.specs.declared.class_file.Method.{Method}
use Rattle.class_model.specs.declared.header.Header.{Header}
use Rattle.class_model.specs.declared.header.Member.{Member}
use Rattle.class_model.specs.declared.instr.Instr.{Instr}
use Rattle.class_tree.specs.Headers.{Classes, Headers, Name, headers_of}
use Rattle.field_constructors.specs.Inner.FieldWords.{instance_fields_of}
use Rattle.flow_code.specs.declared.reason.KeptFault.{KeptFault}
use Rattle.flow_code.specs.declared.reason.Reason.{Reason}
use Rattle.making_code.specs.Constants.{text_index}
use Rattle.making_code.specs.ConstructorCode.{IsConstructorMethod, SYNTHETIC, bytes_from, depth_of_call, depth_of_stores, indexed_instr}
use Rattle.making_code.specs.FieldConstructor.{CInstr, constructor_items, constructor_method_needs, fields_above, item_needs, superclass_of, units_of_fields}
use Rattle.materialise.specs.Laws.GrownEdits.{full_first, full_then, grows_both, index_later}
use Rattle.constructor_methods.proofs.ConstructLaws.{units_by_descs}
use Rattle.constructor_methods.proofs.ConstructorFields.{units_both}
use Rattle.constructor_methods.proofs.FewNeeds.{items_few, no_more_fields}
use Rattle.constructor_methods.proofs.ShortForms.{all_short}
use Rattle.constructor_methods.specs.ConstructorMethods.{IsFieldConstructor}
use Rattle.materialise.specs.Growing.{Grows, IsFull}
use Rattle.materialise.specs.Indices.{need_of_text}
use Rattle.constructor_methods.specs.Inner.ConstructorWords.{AreNames, Constructs, IsHeaderOf, IsMethodOf, IsPartOf, IsShortForm, descs_above, head_needs, units_of_desc, units_of_descs}
use Rattle.materialise.specs.MadeCode.{DescribesConstructors}
use Rattle.constructor_methods.specs.declared.constructor_method.Names.{Names}
use Rattle.pool_edit.specs.Edits.{Continues, Edit, grown}

-- ---- the depth of the stores

one_deeper : (field : Member) (rest : List Member) (depth : ℕ)
    → max depth (depth_of_stores (field ∷ rest)) ≡ max (max depth (1 + units_of_desc field.desc)) (depth_of_stores rest)
one_deeper field [] depth = omega arith
one_deeper field (other ∷ rest) depth = omega arith

pub stores_step : (depth next : ℕ) (field : Member) (later rest all : List Member) → rest ≡ field ∷ later
    → next ≡ max depth (1 + units_of_desc field.desc)
    → max depth (depth_of_stores rest) ≡ depth_of_stores all
    → max next (depth_of_stores later) ≡ depth_of_stores all
stores_step depth next field later rest all is next_is so_far =
    ap (λ (n : ℕ). max n (depth_of_stores later)) next_is
    ∙ sym (one_deeper field later depth)
    ∙ ap (λ (fields : List Member). max depth (depth_of_stores fields)) (sym is)
    ∙ so_far

-- the greater of two, as the code chooses it
pub raised : (one other : ℕ) → one < other → max one other ≡ other
raised one other less = omega (arith, less)

pub unraised : (one other : ℕ) → other ≤ one → max one other ≡ one
unraised one other most = omega (arith, most)

-- ---- its instructions are short and few

module _ (headers : Headers) (header : Header) (found : IsHeaderOf headers header) (above : List (List ℕ)) (is : above ≡ descs_above headers header)
    (few : units_of_descs above + units_of_fields (instance_fields_of header) ≤ 64)
    (constructor : Name → List ℕ) (old new : Edit) (before instrs : List Instr) (none : before ≡ [])
    (written : Constructs constructor old before (constructor_items headers header.name) new instrs) where
  abbrev items : List CInstr
  items = constructor_items headers header.name

  pub instrs_are : (more : Constants) → instrs ≡ map (indexed_instr (grown new ++ more) constructor) (constructor_items headers header.name)
  instrs_are more =
      written.writes more ∙ ap (λ (front : List Instr). front ++ map (indexed_instr (grown new ++ more) constructor) items) none

  pub instrs_short : AllByRecursion IsShortForm instrs
  instrs_short = subst (AllByRecursion IsShortForm) (sym (instrs_are [])) (all_short (grown new ++ []) constructor headers header.name)

  pub instrs_few : length instrs ≤ 1000
  instrs_few =
      let count : length instrs ≡ length items =
      ap (λ (list : List Instr). length list) (instrs_are []) ∙ length-map items (indexed_instr (grown new ++ []) constructor) in
      let units = ap units_of_descs is ∙ sym (units_by_descs (fields_above headers header.super_name)) in
      let high_fields = no_more_fields (fields_above headers header.super_name) in
      let high = subst (λ (super : _). length (fields_above headers super) ≤ 64) (sym found.super_is) (omega (arith, few, units, high_fields)) in
      let own_few = no_more_fields (instance_fields_of header) in
      let own = subst (λ (fields : List Member). length fields ≤ 64) (sym found.own) (omega (arith, few, own_few)) in
      let all = items_few headers header.name high own in
      omega (arith, count, all)

  -- its code
  pub part_of : (part : CodePart) (call stores : ℕ)
      → part.max_stack ≡ max call stores
      → call ≡ depth_of_call headers header.super_name
      → stores ≡ depth_of_stores (instance_fields_of header)
      → part.max_locals ≡ 2 + units_of_descs above + units_of_fields (instance_fields_of header)
      → part.code ≡ bytes_from 0 instrs
      → part.handlers ≡ []
      → part.attrs ≡ []
      → IsPartOf headers constructor header.name old new part
  part_of part call stores stack call_is stores_is locals code handlers attrs = record {
    grows = written.grows;
    part_is = λ more. record {
      max_stack =
          stack
          ∙ ap (λ (n : ℕ). max n stores) (call_is ∙ ap (depth_of_call headers) (sym found.super_is))
          ∙ ap (λ (n : ℕ). max (depth_of_call headers (superclass_of headers header.name)) n) (stores_is ∙ ap depth_of_stores (sym found.own));
      max_locals =
          let split = ap units_of_fields found.all in
          let both = units_both (fields_above headers header.super_name) (instance_fields_of header) in
          let units = ap units_of_descs is ∙ sym (units_by_descs (fields_above headers header.super_name)) in
          omega (arith, locals, split, both, units);
      code = code ∙ ap (bytes_from 0) (instrs_are more);
      handlers = handlers;
      attrs = attrs;
    };
  }

-- ---- the method

module _ (headers : Headers) (constructor : Name → List ℕ) (class desc : Name) (is : desc ≡ constructor class) (old middle : Edit) where
  pub names_full : (reason : Reason) → IsFull old (head_needs desc) reason → IsFull old (constructor_method_needs headers constructor class) reason
  names_full reason full =
      full_first old (head_needs (constructor class)) (flat_map (item_needs constructor) (constructor_items headers class)) reason
      (subst (λ (text : List ℕ). IsFull old (head_needs text) reason) is full)

  pub part_full : (reason : Reason)
      → Grows old (head_needs desc) middle
      → IsFull middle (flat_map (item_needs constructor) (constructor_items headers class)) reason
      → IsFull old (constructor_method_needs headers constructor class) reason
  part_full reason grows full =
      full_then old middle (head_needs (constructor class)) (flat_map (item_needs constructor) (constructor_items headers class)) reason
      (subst (λ (text : List ℕ). Grows old (head_needs text) middle) is grows) full

  pub method_whole : (new : Edit) (names : Names) (part : CodePart) (method : Method)
      → Grows old (head_needs desc) middle
      → AreNames middle desc names
      → IsPartOf headers constructor class middle new part
      → Continues middle new
      → method.flags ≡ PUBLIC + SYNTHETIC
      → method.name ≡ names.name
      → method.desc ≡ names.desc
      → method.attrs ≡ Code names.code part ∷ []
      → IsMethodOf headers constructor class old new method
  method_whole new names part method grows named written so_far flags name_is desc_is attrs = record {
    grows =
        grows_both old middle new (head_needs (constructor class)) (flat_map (item_needs constructor) (constructor_items headers class))
        (subst (λ (text : List ℕ). Grows old (head_needs text) middle) is grows) written.grows;
    method_is = λ more.
        let init_at = (index_later middle new (need_of_text init) names.name named.name so_far).is more in
        let desc_at = (index_later middle new (need_of_text desc) names.desc named.desc_is so_far).is more in
        let code_at = (index_later middle new (need_of_text (codes "Code")) names.code named.code so_far).is more in
        record {
          flags = flags;
          name = name_is ∙ sym init_at;
          desc = desc_is ∙ sym desc_at ∙ ap (text_index (grown new ++ more)) is;
          part = part;
          attrs = attrs ∙ ap (λ (n : ℕ). Code n part ∷ []) (sym code_at);
          is_part = written.part_is more;
        };
  }

pub made_so : {Q : Method → Type 0} (result : Result Method KeptFault) (names : Names) (part : CodePart)
    → IfOk result (λ method. method.flags ≡ PUBLIC + SYNTHETIC)
    → IfOk result (λ method. (method.name ≡ names.name) × (method.desc ≡ names.desc))
    → IfOk result (λ method. method.attrs ≡ Code names.code part ∷ [])
    → ((method : Method) → method.flags ≡ PUBLIC + SYNTHETIC → method.name ≡ names.name → method.desc ≡ names.desc → method.attrs ≡ Code names.code part ∷ [] → Q method)
    → IfOk result Q
made_so (Err fault) names part flags named attrs holds = tt
made_so (Ok method) names part flags named attrs holds = holds method flags named.0 named.1 attrs

-- that of the class of a number
pub of_number : (classes : Classes) (number : ℕ) (header : Header) (old new : Edit) (method : Method)
    → slice_get (headers_of classes).folder number ≡ Some header
    → ((constructor : Name → List ℕ) → DescribesConstructors classes constructor → IsMethodOf (headers_of classes) constructor header.name old new method)
    → IsFieldConstructor classes number old new method
of_number classes number header old new method is made = record {
  grows = λ other constructor there described.
      subst (λ (one : Header). Grows old (constructor_method_needs (headers_of classes) constructor one.name) new)
      (same_Some header other (sym is ∙ there)) (made constructor described).grows;
  method_is = λ other constructor more there described.
      subst (λ (one : Header). IsConstructorMethod (headers_of classes) constructor one.name (grown new ++ more) method)
      (same_Some header other (sym is ∙ there)) ((made constructor described).method_is more);
}
