-- What written code and its frames and constructors add to a pool has no method handle and no method type.
use Rattle.std.proofs.Common.{◌≡◌, ◌==◌, ◌+◌, ◌++◌, ℕ, nat_le, Bool, true, false, List, [], ◌∷◌, flat_map, length, Option, Some, None, if◌then◌else◌, option_and_then, refl, sym, ap, subst, ◌∙◌}
use Rattle.std.specs.Prelude.{codes}
use Rattle.std.specs.List.{AllByRecursion}
use Rattle.std.proofs.lemmas.Option.{none-some, same_Some}
use Rattle.class_model.specs.Names.{init}
use Rattle.class_model.specs.Methods.{IsHandle}
use Rattle.class_model.specs.Pool.{Constants, constant_at, entries_of}
use Rattle.class_model.specs.PoolChecks.{class_at, descriptor_at, name_at, utf8_at}
use Rattle.class_model.specs.declared.frame.Frame.{Frame}
use Rattle.class_model.specs.declared.frame.VType.{VType}
use Rattle.class_model.specs.declared.frame.VType.TheVariants as types
use Rattle.class_model.specs.declared.pool.Const.{Const}
use Rattle.class_model.specs.declared.pool.Const.TheVariants.{Class, Double, Fieldref, Float, Integer, InterfaceMethodref, InvokeDynamic, Long, MethodHandle, MethodType, Methodref, NameAndType, String, Utf8}
use Rattle.class_rewrite.proofs.SameConstants.{Fails}
use Rattle.class_tree.specs.Headers.{Headers, Name}
use Rattle.class_tree.specs.Steps.{is_method_type}
use Rattle.making_code.specs.Constants.{MemberKind, Need, constant_of, grow, index_of, needs_class, needs_itself, needs_member, needs_name_and_type, needs_of_class, needs_of_constant, needs_of_reference, needs_of_string, needs_string, needs_text, of_field, of_interface_method, of_method, with_constant}
use Rattle.making_code.specs.FieldConstructor.{CInstr, calls_constructor, calls_object, constructor_items, constructor_method_needs, item_needs as constructor_item_needs, puts_field, simple}
use Rattle.making_code.specs.Items.{WCatch, WInstr, WItem, carried, constructs, load, makes, plain, store}
use Rattle.plan_flow.specs.Laws.WrittenBlocks.{holds_of_both}
use Rattle.plan_flow.specs.PlanScope.{PlanScope, pool_of}
use Rattle.plan_flow.specs.Written.WrittenConstants.{carried_needs, catch_needs, code_needs, instr_needs, item_needs, named_index, needs_of_index}
use Rattle.stackmap_emit.specs.FrameConstants.{frame_needs, needs_named, stated_frames, table_needs, type_needs}

-- ---- needs

abbrev pub IsNoHandle : Const → Type 0
IsNoHandle (MethodHandle kind reference) = ⊥
IsNoHandle (MethodType desc) = ⊥
IsNoHandle constant = Unit {0}

abbrev pub NeedsNoHandle : Need → Type 0
NeedsNoHandle (needs_itself constant) = IsNoHandle constant
NeedsNoHandle (needs_class name) = Unit {0}
NeedsNoHandle (needs_string text) = Unit {0}
NeedsNoHandle (needs_name_and_type name desc) = Unit {0}
NeedsNoHandle (needs_member kind class name desc) = Unit {0}

abbrev pub NeedNoHandles : List Need → Type 0
NeedNoHandles needs = AllByRecursion NeedsNoHandle needs

-- one pool begins with another, and has no more method handles and method types
pub record AddsNoHandles (pool grown : Constants) : Type 0 where
  pub more : Constants
  pub is : grown ≡ pool ++ more
  pub none : AllByRecursion (λ (entry : Option Const). ¬ IsHandle entry) more
  pub no_types : AllByRecursion (Fails is_method_type) more

no_more : {A : Type 0} (xs : List A) → xs ≡ xs ++ []
no_more [] = refl
no_more (x ∷ xs) = ap (λ (rest : List _). x ∷ rest) (no_more xs)

joined : {A : Type 0} (xs ys zs : List A) → (xs ++ ys) ++ zs ≡ xs ++ (ys ++ zs)
joined [] ys zs = refl
joined (x ∷ xs) ys zs = ap (λ (rest : List _). x ∷ rest) (joined xs ys zs)

pub adds_nothing : (pool : Constants) → AddsNoHandles pool pool
adds_nothing pool = record { more = []; is = no_more pool; none = tt; no_types = tt }

pub adds_through : (pool grown last : Constants) → AddsNoHandles pool grown → AddsNoHandles grown last → AddsNoHandles pool last
adds_through pool grown last one next = record {
  more = one.more ++ next.more;
  is = next.is ∙ ap (λ (x : Constants). x ++ next.more) one.is ∙ joined pool one.more next.more;
  none = holds_of_both (λ (entry : Option Const). ¬ IsHandle entry) one.more next.more one.none next.none;
  no_types = holds_of_both (Fails is_method_type) one.more next.more one.no_types next.no_types;
}

entries_none : (constant : Const) → IsNoHandle constant → AllByRecursion (λ (entry : Option Const). ¬ IsHandle entry) (entries_of constant)
entries_none (Utf8 text) is = ((λ h. h), tt)
entries_none (Integer number) is = ((λ h. h), tt)
entries_none (Float bits) is = ((λ h. h), tt)
entries_none (Long number) is = ((λ h. h), ((λ h. h), tt))
entries_none (Double bits) is = ((λ h. h), ((λ h. h), tt))
entries_none (Class name) is = ((λ h. h), tt)
entries_none (String text) is = ((λ h. h), tt)
entries_none (Fieldref class member) is = ((λ h. h), tt)
entries_none (Methodref class member) is = ((λ h. h), tt)
entries_none (InterfaceMethodref class member) is = ((λ h. h), tt)
entries_none (NameAndType name desc) is = ((λ h. h), tt)
entries_none (MethodHandle kind reference) is = elim is [ ]
entries_none (MethodType desc) is = elim is [ ]
entries_none (InvokeDynamic bootstrap member) is = ((λ h. h), tt)

entries_no_types : (constant : Const) → IsNoHandle constant → AllByRecursion (Fails is_method_type) (entries_of constant)
entries_no_types (Long number) is = (refl, (tt, tt))
entries_no_types (Double bits) is = (refl, (tt, tt))
entries_no_types (MethodHandle kind reference) is = elim is [ ]
entries_no_types (MethodType desc) is = elim is [ ]
entries_no_types other is = (refl, tt)

constant_none : (pool : Constants) (need : Need) → NeedsNoHandle need → IsNoHandle (constant_of pool need)
constant_none pool (needs_itself constant) is = is
constant_none pool (needs_class name) is = tt
constant_none pool (needs_string text) is = tt
constant_none pool (needs_name_and_type name desc) is = tt
constant_none pool (needs_member of_field class name desc) is = tt
constant_none pool (needs_member of_method class name desc) is = tt
constant_none pool (needs_member of_interface_method class name desc) is = tt

with_none : (limit : ℕ) (pool : Constants) (constant : Const) (grown : Constants) → IsNoHandle constant → with_constant limit pool constant ≡ Some grown
    → AddsNoHandles pool grown
with_none limit pool constant grown none is = by (index_of pool constant) refl where
  if_fits : (fits : Bool) → (if fits then Some (pool ++ entries_of constant) else None) ≡ Some grown → AddsNoHandles pool grown
  if_fits true e = record {
    more = entries_of constant;
    is = sym (same_Some (pool ++ entries_of constant) grown e);
    none = entries_none constant none;
    no_types = entries_no_types constant none;
  }
  if_fits false e = absurd (none-some grown e)

  by : (found : Option ℕ) → index_of pool constant ≡ found → AddsNoHandles pool grown
  by (Some index) found =
      let whole : with_constant limit pool constant ≡ Some pool = rw found refl in
      subst (AddsNoHandles pool) (same_Some pool grown (sym whole ∙ is)) (adds_nothing pool)
  by None found =
      let whole : with_constant limit pool constant
      ≡ (if nat_le (length pool + length (entries_of constant)) limit then Some (pool ++ entries_of constant) else None) = rw found refl in
      if_fits (nat_le (length pool + length (entries_of constant)) limit) (sym whole ∙ is)

-- What a pool grows by is none, if what is needed is none.
pub grow_none : (limit : ℕ) (needs : List Need) (pool grown : Constants) → NeedNoHandles needs → grow limit pool needs ≡ Some grown
    → AddsNoHandles pool grown
grow_none limit [] pool grown none is = subst (AddsNoHandles pool) (same_Some pool grown is) (adds_nothing pool)
grow_none limit (need ∷ needs) pool grown none is = by (with_constant limit pool (constant_of pool need)) refl is (λ more. grow_none limit needs more grown none.1) where
  by : (found : Option Constants) → with_constant limit pool (constant_of pool need) ≡ found
      → option_and_then (λ (more : Constants). grow limit more needs) found ≡ Some grown
      → ((more : Constants) → grow limit more needs ≡ Some grown → AddsNoHandles more grown)
      → AddsNoHandles pool grown
  by None e told rest = absurd (none-some grown told)
  by (Some more) e told rest =
      adds_through pool more grown (with_none limit pool (constant_of pool need) more (constant_none pool need none.0) e) (rest more told)

-- ---- written code

each_none : {A : Type 0} (needs : A → List Need) (items : List A) → ((one : A) → NeedNoHandles (needs one)) → NeedNoHandles (flat_map needs items)
each_none needs [] each = tt
each_none needs (one ∷ items) each = holds_of_both NeedsNoHandle (needs one) (flat_map needs items) (each one) (each_none needs items each)

reference_none : (kind : MemberKind) (class : Option Name) (name desc : Option (List ℕ)) → NeedNoHandles (needs_of_reference kind class name desc)
reference_none kind None name desc = tt
reference_none kind (Some class) None desc = tt
reference_none kind (Some class) (Some name) None = tt
reference_none kind (Some class) (Some name) (Some desc) = (tt, (tt, (tt, (tt, (tt, (tt, tt))))))

index_none : (pool : Constants) (found : Option Const) → NeedNoHandles (needs_of_constant pool found)
index_none pool None = tt
index_none pool (Some (Utf8 text)) = tt
index_none pool (Some (Integer number)) = (tt, tt)
index_none pool (Some (Float bits)) = (tt, tt)
index_none pool (Some (Long number)) = (tt, tt)
index_none pool (Some (Double bits)) = (tt, tt)
index_none pool (Some (Class name)) = by (utf8_at pool name) where
  by : (found : Option (List ℕ)) → NeedNoHandles (needs_of_class found)
  by None = tt
  by (Some text) = (tt, (tt, tt))
index_none pool (Some (String text)) = by (utf8_at pool text) where
  by : (found : Option (List ℕ)) → NeedNoHandles (needs_of_string found)
  by None = tt
  by (Some bytes) = (tt, (tt, tt))
index_none pool (Some (Fieldref class member)) = reference_none of_field (class_at pool class) (name_at pool member) (descriptor_at pool member)
index_none pool (Some (Methodref class member)) = reference_none of_method (class_at pool class) (name_at pool member) (descriptor_at pool member)
index_none pool (Some (InterfaceMethodref class member)) = reference_none of_interface_method (class_at pool class) (name_at pool member) (descriptor_at pool member)
index_none pool (Some (NameAndType name desc)) = tt
index_none pool (Some (MethodHandle kind reference)) = tt
index_none pool (Some (MethodType desc)) = tt
index_none pool (Some (InvokeDynamic bootstrap member)) = tt

module _ (s : PlanScope) (constructor : Name → List ℕ) where
  carried_none : (class : ℕ) (instr : _) → NeedNoHandles (carried_needs s class instr)
  carried_none class instr = by (class == s.flat.host.class) refl where
    named : (index : Option ℕ) → NeedNoHandles (needs_of_index (pool_of s class) index)
    named None = tt
    named (Some index) = index_none (pool_of s class) (constant_at (pool_of s class) index)

    by : (own : Bool) → (class == s.flat.host.class) ≡ own → NeedNoHandles (carried_needs s class instr)
    by true own = rw (own) tt
    by false own = rw (own) (named (named_index instr))

  instr_none : (instr : WInstr) → NeedNoHandles (instr_needs s constructor instr)
  instr_none (carried class instr) = carried_none class instr
  instr_none (plain instr) = tt
  instr_none (load kind unit) = tt
  instr_none (store kind unit) = tt
  instr_none (makes class) = (tt, (tt, tt))
  instr_none (constructs class) = (tt, (tt, (tt, (tt, (tt, (tt, tt))))))

  catch_none : (class : Option Name) → NeedNoHandles (catch_needs class)
  catch_none None = tt
  catch_none (Some class) = (tt, (tt, tt))

  pub code_none : (items : List WItem) → NeedNoHandles (code_needs s constructor items)
  code_none items =
      each_none (item_needs s constructor) items (λ one.
      holds_of_both NeedsNoHandle (instr_needs s constructor one.instr) (flat_map (λ (catch : WCatch). catch_needs catch.class) one.catches)
      (instr_none one.instr) (each_none (λ (catch : WCatch). catch_needs catch.class) one.catches (λ catch. catch_none catch.class)))

-- ---- frames and constructors

type_none : (type : VType) → NeedNoHandles (type_needs type)
type_none (types.Object name) = (tt, (tt, tt))
type_none types.Top = tt
type_none types.Int = tt
type_none types.Float = tt
type_none types.Long = tt
type_none types.Double = tt
type_none types.Null = tt
type_none types.UninitThis = tt
type_none (types.Uninit at) = tt

frame_none : (frame : Option Frame) → NeedNoHandles (frame_needs frame)
frame_none None = tt
frame_none (Some frame) = each_none type_needs (frame.locals ++ frame.stack) type_none

pub table_none : (stated : List (Option Frame)) → NeedNoHandles (table_needs stated)
table_none stated = by (stated_frames stated) where
  by : (frames : List Frame) → NeedNoHandles (needs_named (flat_map frame_needs stated) frames)
  by [] = tt
  by (frame ∷ frames) = (tt, each_none frame_needs stated frame_none)

pub constructor_none : (headers : Headers) (constructor : Name → List ℕ) (class : Name) → NeedNoHandles (constructor_method_needs headers constructor class)
constructor_none headers constructor class =
    holds_of_both NeedsNoHandle (needs_text init ++ needs_text (constructor class) ++ needs_text (codes "Code")) (flat_map (constructor_item_needs constructor) (constructor_items headers class))
    (tt, (tt, (tt, tt)))
    (each_none (constructor_item_needs constructor) (constructor_items headers class) each) where
      each : (instr : CInstr) → NeedNoHandles (constructor_item_needs constructor instr)
      each (simple instr) = tt
      each calls_object = (tt, (tt, (tt, (tt, (tt, (tt, tt))))))
      each (calls_constructor class) = (tt, (tt, (tt, (tt, (tt, (tt, tt))))))
      each (puts_field class name desc) = (tt, (tt, (tt, (tt, (tt, (tt, tt))))))
