-- A pool that keeps what another's indices name, and the checks that are asked of it: a pool that grew at its end is such a one.
use Rattle.std.proofs.Common.{◌≡◌, ◌⊎◌, inl, inr, ℕ, zero, suc, ◌+◌, ◌==◌, not, Bool, true, false, List, [], ◌∷◌, ◌++◌, length, slice_get, Option, Some, None, IfSome, refl, sym, ap, subst, ◌∙◌}
use Rattle.std.specs.Prelude.{IsSome, option_and_then}
use Rattle.class_model.specs.Checks.{Check, Fault, AllHold, asked_if}
use Rattle.class_model.specs.ClassOf.{bootstrap_index_checks}
use Rattle.class_model.specs.Descriptors.{IsReferenceName}
use Rattle.class_model.specs.Laws.Checks.{both_hold, first_holds, others_hold}
use Rattle.class_model.specs.Members.{class_name_checks, super_checks, interfaces_checks}
use Rattle.class_model.specs.Names.{IsClassName, IsFieldName, IsMethodName, init}
use Rattle.class_model.specs.Pool.{Constants, constant_at}
use Rattle.class_model.specs.PoolChecks.{text_of, class_name_of, name_and_type_of, utf8_at, class_at, name_at, descriptor_at, IsClassAt, IsNameAndTypeAt, IsFieldDescriptor, IsMethodDescriptor, IsCalledName, FitsDescriptor, InitIsVoid, member_of, referred_name, IsFieldConstant, IsMethodConstant, IsInterfaceConstant, IsMethodConstantOf, RefersWell, constant_checks, entries_checks}
use Rattle.class_model.specs.Spelling.{constant_bytes}
use Rattle.class_model.specs.declared.pool.Const.{Const}
use Rattle.class_model.specs.declared.pool.Const.TheVariants.{Utf8, Integer, Float, Long, Double, Class, String, Fieldref, Methodref, InterfaceMethodref, NameAndType, MethodHandle, MethodType, InvokeDynamic}

-- ---- what is kept

-- What an index of the old pool names, one of the new pool names too.
pub record Keeps (old new : Constants) : Type 0 where
  pub constant : (index : ℕ) (c : Const) → constant_at old index ≡ Some c → constant_at new index ≡ Some c
  pub name : (index : ℕ) → IsNameAndTypeAt old index → name_at new index ≡ name_at old index
  pub descriptor : (index : ℕ) → IsNameAndTypeAt old index → descriptor_at new index ≡ descriptor_at old index
  pub class : (index : ℕ) → IsClassAt old index → class_at new index ≡ class_at old index
  pub referred : (index : ℕ) → IsSome (option_and_then member_of (constant_at old index)) → referred_name new index ≡ referred_name old index
  pub called : (index class member : ℕ) → constant_at old index ≡ Some (InterfaceMethodref class member) → descriptor_at new member ≡ descriptor_at old member

pub keeps_itself : (pool : Constants) → Keeps pool pool
keeps_itself pool = record {
  constant = λ index c e. e;
  name = λ index h. refl;
  descriptor = λ index h. refl;
  class = λ index h. refl;
  referred = λ index h. refl;
  called = λ index class member e. refl;
}

no_some : (X : Type 0) → ¬ IsSome {T = X} None
no_some X h = absurd cc

-- a fact of an option that is there
pub if_kept : {X : Type 0} (P : X → Type 0) {o n : Option X} → n ≡ o → IfSome o P → IfSome n P
if_kept P e h = subst (λ t. IfSome t P) (sym e) h

module _ {old new : Constants} (keeps : Keeps old new) where
  -- what is read off a constant
  pub then_kept : {X : Type 0} (f : Const → Option X) (index : ℕ) → IsSome (option_and_then f (constant_at old index)) → option_and_then f (constant_at new index) ≡ option_and_then f (constant_at old index)
  then_kept {X} f index h = by (constant_at old index) refl
    where
      by : (o : Option Const) → constant_at old index ≡ o → option_and_then f (constant_at new index) ≡ option_and_then f (constant_at old index)
      by (Some c) e = ap (option_and_then f) (keeps.constant index c e ∙ sym e)
      by None e = absurd (no_some X (subst (λ o. IsSome (option_and_then f o)) e h))

  -- what holds of a constant
  pub fact_kept : (P : Option Const → Type 0) (index : ℕ) → ¬ P None → P (constant_at old index) → P (constant_at new index)
  fact_kept P index none h = by (constant_at old index) refl
    where
      by : (o : Option Const) → constant_at old index ≡ o → P (constant_at new index)
      by (Some c) e = subst P (sym (keeps.constant index c e)) (subst P e h)
      by None e = absurd (none (subst P e h))

  pub utf8_kept : (index : ℕ) → IsSome (utf8_at old index) → utf8_at new index ≡ utf8_at old index
  utf8_kept index h = then_kept text_of index h

  pub utf8_there : (index : ℕ) → IsSome (utf8_at old index) → IsSome (utf8_at new index)
  utf8_there index h = subst (λ t. IsSome t) (sym (utf8_kept index h)) h

  pub class_there : (index : ℕ) → IsClassAt old index → IsClassAt new index
  class_there index h = subst (λ t. IsSome t) (sym (then_kept class_name_of index h)) h

  type_there : (index : ℕ) → IsNameAndTypeAt old index → IsNameAndTypeAt new index
  type_there index h = subst (λ t. IsSome t) (sym (then_kept name_and_type_of index h)) h

  -- ---- method handles

  field_member : (o : Option Const) → IsFieldConstant o → IsSome (option_and_then member_of o)
  field_member (Some (Fieldref class member)) h = refl
  field_member other h = absurd h

  method_member : (o : Option Const) → IsMethodConstant o → IsSome (option_and_then member_of o)
  method_member (Some (Methodref class member)) h = refl
  method_member other h = absurd h

  interface_member : (o : Option Const) → IsInterfaceConstant o → IsSome (option_and_then member_of o)
  interface_member (Some (InterfaceMethodref class member)) h = refl
  interface_member other h = absurd h

  either_member : (major : ℕ) (o : Option Const) → IsMethodConstantOf major o → IsSome (option_and_then member_of o)
  either_member major o (inl h) = method_member o h
  either_member major o (inr h) = interface_member o h.1

  pub field_kept : (index : ℕ) → IsFieldConstant (constant_at old index) → IsFieldConstant (constant_at new index)
  field_kept index h = fact_kept IsFieldConstant index (λ h. h) h

  pub method_kept : (index : ℕ) → IsMethodConstant (constant_at old index) → IsMethodConstant (constant_at new index)
  method_kept index h = fact_kept IsMethodConstant index (λ h. h) h

  pub interface_kept : (index : ℕ) → IsInterfaceConstant (constant_at old index) → IsInterfaceConstant (constant_at new index)
  interface_kept index h = fact_kept IsInterfaceConstant index (λ h. h) h

  pub either_kept : (major index : ℕ) → IsMethodConstantOf major (constant_at old index) → IsMethodConstantOf major (constant_at new index)
  either_kept major index (inl h) = inl (method_kept index h)
  either_kept major index (inr h) = inr (h.0, interface_kept index h.1)

  refers_kept : (major kind reference : ℕ) → RefersWell major old kind reference → RefersWell major new kind reference
  refers_kept major kind reference (inl h) = inl (h.0, h.1, field_kept reference h.2)
  refers_kept major kind reference (inr (inl h)) = inr (inl (h.0, method_kept reference h.1, if_kept _ (keeps.referred reference (method_member _ h.1)) h.2))
  refers_kept major kind reference (inr (inr (inl h))) = inr (inr (inl (h.0, h.1, either_kept major reference h.2, if_kept _ (keeps.referred reference (either_member major _ h.2)) h.3)))
  refers_kept major kind reference (inr (inr (inr (inl h)))) = inr (inr (inr (inl (h.0, method_kept reference h.1, if_kept _ (keeps.referred reference (method_member _ h.1)) h.2))))
  refers_kept major kind reference (inr (inr (inr (inr h)))) = inr (inr (inr (inr (h.0, interface_kept reference h.1, if_kept _ (keeps.referred reference (interface_member _ h.1)) h.2))))

  -- ---- one constant

  called_kept : (major at other class member : ℕ) → AllHold (constant_checks major old at (Methodref class member)) → AllHold (constant_checks major new other (Methodref class member))
  called_kept major at other class member h =
      let name = keeps.name member h.0.1 in
      let descriptor = keeps.descriptor member h.0.1 in (
        (class_there class h.0.0, type_there member h.0.1),
        (
          subst (λ d. IfSome (name_at new member) (IsCalledName d)) (sym descriptor) (if_kept _ name h.1.0),
          (if_kept IsMethodDescriptor descriptor h.1.1.0, tt),
        ),
      )

  -- a name, and what is asked of it with the descriptor
  plain_kept : (member : ℕ) → IsNameAndTypeAt old member → IfSome (name_at old member) (λ name. IsMethodName name × InitIsVoid name (descriptor_at old member))
      → IfSome (name_at new member) (λ name. IsMethodName name × InitIsVoid name (descriptor_at new member))
  plain_kept member there h =
      subst (λ d. IfSome (name_at new member) (λ name. IsMethodName name × InitIsVoid name d)) (sym (keeps.descriptor member there)) (if_kept _ (keeps.name member there) h)

  pub constant_kept : (major at other : ℕ) (c : Const) → AllHold (constant_checks major old at c) → AllHold (constant_checks major new other c)
  constant_kept major at other (Utf8 text) h = h
  constant_kept major at other (Integer number) h = tt
  constant_kept major at other (Float bits) h = tt
  constant_kept major at other (Long number) h = tt
  constant_kept major at other (Double bits) h = tt
  constant_kept major at other (Class name) h = (utf8_there name h.0, (if_kept IsReferenceName (utf8_kept name h.0) h.1.0, tt))
  constant_kept major at other (String text) h = (utf8_there text h.0, tt)
  constant_kept major at other (Fieldref class member) h = (
    (class_there class h.0.0, type_there member h.0.1),
    (if_kept IsFieldName (keeps.name member h.0.1) h.1.0, (if_kept IsFieldDescriptor (keeps.descriptor member h.0.1) h.1.1.0, tt)),
  )
  constant_kept major at other (Methodref class member) h = called_kept major at other class member h
  constant_kept major at other (InterfaceMethodref class member) h = called_kept major at other class member h
  constant_kept major at other (NameAndType name descriptor) h =
      let text = utf8_kept descriptor h.0.1 in (
        (utf8_there name h.0.0, utf8_there descriptor h.0.1),
        (
          subst (λ d. IfSome (utf8_at new name) (FitsDescriptor d)) (sym text) (if_kept _ (utf8_kept name h.0.0) h.1.0),
          (if_kept (λ t. IsFieldDescriptor t ⊎ IsMethodDescriptor t) text h.1.1.0, tt),
        ),
      )
  constant_kept major at other (MethodHandle kind reference) h = (refers_kept major kind reference h.0, tt)
  constant_kept major at other (MethodType descriptor) h = (utf8_there descriptor h.0, (if_kept IsMethodDescriptor (utf8_kept descriptor h.0) h.1.0, tt))
  constant_kept major at other (InvokeDynamic bootstrap member) h = (
    type_there member h.0,
    (plain_kept member h.0 h.1.0, (if_kept IsMethodDescriptor (keeps.descriptor member h.0) h.1.1.0, tt)),
  )

  pub entries_kept : (major at other : ℕ) (entries : Constants) → AllHold (entries_checks major old at entries) → AllHold (entries_checks major new other entries)
  entries_kept major at other [] h = tt
  entries_kept major at other (None ∷ entries) h = entries_kept major at other entries h
  entries_kept major at other (Some c ∷ entries) h =
      let next = at + length (constant_bytes c) in
      let first = constant_checks major old at c in
      let rest = entries_checks major old next entries in
      both_hold (constant_checks major new other c) (entries_checks major new (other + length (constant_bytes c)) entries)
      (constant_kept major at other c (first_holds first rest h)) (entries_kept major next (other + length (constant_bytes c)) entries (others_hold first rest h))

  -- ---- the head

  -- a class that is named by a text
  named_class : (index : ℕ) → IsSome (class_at old index) → IsClassAt old index
  named_class index h = by (option_and_then class_name_of (constant_at old index)) refl
    where
      by : (o : Option ℕ) → option_and_then class_name_of (constant_at old index) ≡ o → IsClassAt old index
      by (Some n) e = rw e refl
      by None e = absurd (no_some (List ℕ) (subst (λ o. IsSome (option_and_then (utf8_at old) o)) e h))

  pub class_kept : (index : ℕ) → IsSome (class_at old index) → class_at new index ≡ class_at old index
  class_kept index h = keeps.class index (named_class index h)

  pub class_name_kept : (at other index : ℕ) → AllHold (class_name_checks old at index) → AllHold (class_name_checks new other index)
  class_name_kept at other index h =
      let same = class_kept index h.0 in
      (subst (λ t. IsSome t) (sym same) h.0, (if_kept IsClassName same h.1.0, tt))

  pub super_kept : (at other index : ℕ) → AllHold (super_checks old at index) → AllHold (super_checks new other index)
  super_kept at other index h = by (not (index == 0)) h
    where
      by : (b : Bool) → AllHold (asked_if b (class_name_checks old at index)) → AllHold (asked_if b (class_name_checks new other index))
      by true h = class_name_kept at other index h
      by false h = tt

  pub interfaces_kept : (at other : ℕ) (indices : List ℕ) → AllHold (interfaces_checks old at indices) → AllHold (interfaces_checks new other indices)
  interfaces_kept at other [] h = tt
  interfaces_kept at other (index ∷ indices) h =
      let first = class_name_checks old at index in
      let rest = interfaces_checks old (at + 2) indices in
      both_hold (class_name_checks new other index) (interfaces_checks new (other + 2) indices)
      (class_name_kept at other index (first_holds first rest h)) (interfaces_kept (at + 2) (other + 2) indices (others_hold first rest h))

-- the numbers of bootstrap methods, at another place
pub dynamics_moved : (count at other : ℕ) (entries : Constants) → AllHold (bootstrap_index_checks count at entries) → AllHold (bootstrap_index_checks count other entries)
dynamics_moved count at other [] h = tt
dynamics_moved count at other (None ∷ entries) h = dynamics_moved count at other entries h
dynamics_moved count at other (Some (InvokeDynamic bootstrap member) ∷ entries) h =
    let len = length (constant_bytes (InvokeDynamic bootstrap member)) in
    (h.0, dynamics_moved count (at + len) (other + len) entries h.1)
dynamics_moved count at other (Some c ∷ entries) h = dynamics_moved count (at + length (constant_bytes c)) (other + length (constant_bytes c)) entries h

-- ---- a pool that grew at its end

grown_constant : (pool more : Constants) (index : ℕ) (c : Const) → constant_at pool index ≡ Some c → constant_at (pool ++ more) index ≡ Some c
grown_constant [] more index c e = absurd cc
grown_constant (entry ∷ pool) more zero c e = e
grown_constant (entry ∷ pool) more (suc index) c e = grown_constant pool more index c e

-- what a constant of a pool whose checks hold is asked
entry_holds : (major : ℕ) (pool : Constants) (at : ℕ) (entries : Constants) (index : ℕ) (c : Const) → AllHold (entries_checks major pool at entries) → constant_at entries index ≡ Some c → (place : ℕ) × AllHold (constant_checks major pool place c)
entry_holds major pool at [] index c h e = absurd cc
entry_holds major pool at (None ∷ entries) zero c h e = absurd cc
entry_holds major pool at (None ∷ entries) (suc index) c h e = entry_holds major pool at entries index c h e
entry_holds major pool at (Some k ∷ entries) zero c h e =
    let same : k ≡ c = cc in
    (at, subst (λ k. AllHold (constant_checks major pool at k)) same (first_holds (constant_checks major pool at k) (entries_checks major pool (at + length (constant_bytes k)) entries) h))
entry_holds major pool at (Some k ∷ entries) (suc index) c h e =
    let next = at + length (constant_bytes k) in
    entry_holds major pool next entries index c (others_hold (constant_checks major pool at k) (entries_checks major pool next entries) h) e

module _ (major : ℕ) (pool more : Constants) (at : ℕ) (holds : AllHold (entries_checks major pool at pool)) where
  abbrev grown : Constants
  grown = pool ++ more

  own : (index : ℕ) (c : Const) → constant_at pool index ≡ Some c → (place : ℕ) × AllHold (constant_checks major pool place c)
  own index c e = entry_holds major pool at pool index c holds e

  text_same : (index : ℕ) → IsSome (utf8_at pool index) → utf8_at grown index ≡ utf8_at pool index
  text_same index h = by (constant_at pool index) refl
    where
      by : (o : Option Const) → constant_at pool index ≡ o → utf8_at grown index ≡ utf8_at pool index
      by (Some c) e = ap (option_and_then text_of) (grown_constant pool more index c e ∙ sym e)
      by None e = absurd (no_some (List ℕ) (subst (λ o. IsSome (option_and_then text_of o)) e h))

  -- an index that names a name and a descriptor
  record TypeSame (index : ℕ) : Type 0 where
    name : name_at grown index ≡ name_at pool index
    descriptor : descriptor_at grown index ≡ descriptor_at pool index

  type_same : (index : ℕ) → IsNameAndTypeAt pool index → TypeSame index
  type_same index h = by (constant_at pool index) refl
    where
      by : (o : Option Const) → constant_at pool index ≡ o → TypeSame index
      by (Some (NameAndType name descriptor)) e =
          let asked = (own index (NameAndType name descriptor) e).1 in
          let same = grown_constant pool more index (NameAndType name descriptor) e in
          let of : Constants → (ℕ × ℕ → ℕ) → Option Const → Option (List ℕ) = λ p part o. option_and_then (λ n. utf8_at p (part n)) (option_and_then name_and_type_of o) in
          record {
            name = ap (of grown (λ n. n.0)) same ∙ text_same name asked.0.0 ∙ sym (ap (of pool (λ n. n.0)) e);
            descriptor = ap (of grown (λ n. n.1)) same ∙ text_same descriptor asked.0.1 ∙ sym (ap (of pool (λ n. n.1)) e);
          }
      by (Some other) e = absurd (no_some (ℕ × ℕ) (subst (λ o. IsSome (option_and_then name_and_type_of o)) e h))
      by None e = absurd (no_some (ℕ × ℕ) (subst (λ o. IsSome (option_and_then name_and_type_of o)) e h))

  class_same : (index : ℕ) → IsClassAt pool index → class_at grown index ≡ class_at pool index
  class_same index h = by (constant_at pool index) refl
    where
      by : (o : Option Const) → constant_at pool index ≡ o → class_at grown index ≡ class_at pool index
      by (Some (Class name)) e =
          let asked = (own index (Class name) e).1 in
          let of : Constants → Option Const → Option (List ℕ) = λ p o. option_and_then (utf8_at p) (option_and_then class_name_of o) in
          ap (of grown) (grown_constant pool more index (Class name) e) ∙ text_same name asked.0 ∙ sym (ap (of pool) e)
      by (Some other) e = absurd (no_some ℕ (subst (λ o. IsSome (option_and_then class_name_of o)) e h))
      by None e = absurd (no_some ℕ (subst (λ o. IsSome (option_and_then class_name_of o)) e h))

  abbrev referred_of : Constants → Option Const → Option (List ℕ)
  referred_of p o = option_and_then (name_at p) (option_and_then member_of o)

  referred_same : (index : ℕ) → IsSome (option_and_then member_of (constant_at pool index)) → referred_name grown index ≡ referred_name pool index
  referred_same index h = by (constant_at pool index) refl
    where
      by : (o : Option Const) → constant_at pool index ≡ o → referred_name grown index ≡ referred_name pool index
      by (Some (Fieldref class member)) e =
          let asked = (own index (Fieldref class member) e).1 in
          ap (referred_of grown) (grown_constant pool more index (Fieldref class member) e) ∙ (type_same member asked.0.1).name ∙ sym (ap (referred_of pool) e)
      by (Some (Methodref class member)) e =
          let asked = (own index (Methodref class member) e).1 in
          ap (referred_of grown) (grown_constant pool more index (Methodref class member) e) ∙ (type_same member asked.0.1).name ∙ sym (ap (referred_of pool) e)
      by (Some (InterfaceMethodref class member)) e =
          let asked = (own index (InterfaceMethodref class member) e).1 in
          ap (referred_of grown) (grown_constant pool more index (InterfaceMethodref class member) e) ∙ (type_same member asked.0.1).name ∙ sym (ap (referred_of pool) e)
      by (Some other) e = absurd (no_some ℕ (subst (λ o. IsSome (option_and_then member_of o)) e h))
      by None e = absurd (no_some ℕ (subst (λ o. IsSome (option_and_then member_of o)) e h))

  pub grown_keeps : Keeps pool grown
  grown_keeps = record {
    constant = λ index c e. grown_constant pool more index c e;
    name = λ index h. (type_same index h).name;
    descriptor = λ index h. (type_same index h).descriptor;
    class = class_same;
    referred = referred_same;
    called = λ index class member e. (type_same member (own index (InterfaceMethodref class member) e).1.0.1).descriptor;
  }
