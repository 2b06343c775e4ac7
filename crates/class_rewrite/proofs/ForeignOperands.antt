-- The operands of an instruction of another class fit in the host: its constant was added to the host's pool by what it means, so that it is of the
-- same sort, of the same class or of the same member.
use Rattle.std.proofs.Common.{◌≡◌, ◌+◌, ◌≤◌, ◌∙◌, inl, inr, ℕ, zero, suc, List, [], ◌∷◌, length, Option, Some, None, IsSome, option_and_then, refl, sym, ap, subst, arith}
use Rattle.std.proofs.lemmas.Bool.{false≢true}
use Rattle.std.proofs.lemmas.Option.{none-some, same_Some}
use Rattle.class_model.specs.Checks.{AllHold}
use Rattle.class_model.specs.Code.{CountsArguments, FitsLocal, IsCalled, IsLoadable, IsLoadable2, OperandFits, member_index, units_behind}
use Rattle.class_model.specs.Laws.Checks.{first_holds, others_hold}
use Rattle.class_model.specs.Pool.{Constants, constant_at}
use Rattle.class_model.specs.PoolChecks.{IsClassAt, IsFieldConstant, IsInterfaceConstant, IsMethodConstant, IsNameAndTypeAt, class_at, class_name_of, constant_checks, descriptor_at, entries_checks, name_and_type_of, name_at, utf8_at}
use Rattle.class_model.specs.Spelling.{constant_bytes}
use Rattle.class_model.specs.declared.descriptor.Kind.{Kind}
use Rattle.class_model.specs.declared.descriptor.Kind.TheVariants as kinds
use Rattle.class_model.specs.declared.instr.Instr.{Instr}
use Rattle.class_model.specs.declared.instr.Instr.TheVariants.{Iinc, Load, Store}
use Rattle.class_model.specs.declared.pool.Const.{Const}
use Rattle.class_model.specs.declared.pool.Const.TheVariants.{Utf8, Integer, Float, Long, Double, Class, String, Fieldref, Methodref, InterfaceMethodref, NameAndType, MethodHandle, MethodType, InvokeDynamic}
use Rattle.class_tree.specs.Headers.{Name}
use Rattle.expanded_code.specs.Callees.{IsNoHandle}
use Rattle.making_code.specs.Constants.{MemberKind, of_field, of_interface_method, of_method, reference_of_kind}
use Rattle.making_code.specs.Laws.MeantConstants.{Means, NamesMember}

-- ---- a constant of a pool that was checked

pub record IsChecked (major : ℕ) (pool : Constants) (constant : Const) : Type 0 where
  pub place : ℕ
  pub hold : AllHold (constant_checks major pool place constant)

pub one_checked : (major : ℕ) (pool : Constants) (at : ℕ) (entries : Constants) → AllHold (entries_checks major pool at entries) → (index : ℕ)
    (constant : Const)
    → constant_at entries index ≡ Some constant
    → IsChecked major pool constant
one_checked major pool at [] hold index constant is = absurd (none-some constant is)
one_checked major pool at (None ∷ entries) hold zero constant is = absurd (none-some constant is)
one_checked major pool at (None ∷ entries) hold (suc index) constant is = one_checked major pool at entries hold index constant is
one_checked major pool at (Some one ∷ entries) hold zero constant is =
    subst (IsChecked major pool) (same_Some one constant is)
    (record { place = at; hold = first_holds (constant_checks major pool at one) (entries_checks major pool (at + length (constant_bytes one)) entries) hold })
one_checked major pool at (Some one ∷ entries) hold (suc index) constant is =
    one_checked major pool (at + length (constant_bytes one)) entries
    (others_hold (constant_checks major pool at one) (entries_checks major pool (at + length (constant_bytes one)) entries) hold) index constant is

the_some : {X : Type 0} (o : Option X) → IsSome o → (x : X) × (o ≡ Some x)
the_some None some = absurd (false≢true some)
the_some (Some x) some = (x, refl)

some_there : {X : Type 0} (o : Option X) (x : X) → o ≡ Some x → IsSome o
some_there o x is = subst IsSome (sym is) refl

-- an instruction has at most so many locals
more_local : (kind : Kind) (local few many : ℕ) → few ≤ many → FitsLocal few kind local → FitsLocal many kind local
more_local kinds.Long local few many less fits = omega (arith, less, fits)
more_local kinds.Double local few many less fits = omega (arith, less, fits)
more_local kinds.Int local few many less fits = omega (arith, less, fits)
more_local kinds.Float local few many less fits = omega (arith, less, fits)
more_local kinds.Ref local few many less fits = omega (arith, less, fits)

pub more_locals : (pool : Constants) (major few many : ℕ) (instr : Instr) → few ≤ many → OperandFits pool major few instr → OperandFits pool major many instr
more_locals pool major few many (Load kind local) less fits = more_local kind local few many less fits
more_locals pool major few many (Store kind local) less fits = more_local kind local few many less fits
more_locals pool major few many (Iinc local by) less fits = more_local kinds.Int local few many less fits
more_locals pool major few many instr less fits = fits

-- ---- what a class file checked means elsewhere

module _ (old_major : ℕ) (old : Constants) (checked : AllHold (entries_checks old_major old 10 old)) (index : ℕ) (pool : Constants) (other : ℕ)
    (means : Means old index pool other) where
  -- the parts of a member that is referred to
  record HasParts (class member : ℕ) : Type 0 where
    of_class : Name
    class_is : class_at old class ≡ Some of_class
    name : List ℕ
    name_is : name_at old member ≡ Some name
    desc : List ℕ
    desc_is : descriptor_at old member ≡ Some desc

  class_read : (class : ℕ) → IsClassAt old class → (name : Name) × (class_at old class ≡ Some name)
  class_read class is = by (constant_at old class) refl where
    by : (found : Option Const) → constant_at old class ≡ found → (name : Name) × (class_at old class ≡ Some name)
    by (Some (Class text)) e =
        let name = the_some (utf8_at old text) (one_checked old_major old 10 old checked class (Class text) e).hold.0 in
        (name.0, rw (e) name.1)
    by None e = absurd (false≢true (subst (λ (c : Option Const). IsSome (option_and_then class_name_of c)) e is))
    by (Some (Utf8 text)) e = absurd (false≢true (subst (λ (c : Option Const). IsSome (option_and_then class_name_of c)) e is))
    by (Some (Integer number)) e = absurd (false≢true (subst (λ (c : Option Const). IsSome (option_and_then class_name_of c)) e is))
    by (Some (Float bits)) e = absurd (false≢true (subst (λ (c : Option Const). IsSome (option_and_then class_name_of c)) e is))
    by (Some (Long number)) e = absurd (false≢true (subst (λ (c : Option Const). IsSome (option_and_then class_name_of c)) e is))
    by (Some (Double bits)) e = absurd (false≢true (subst (λ (c : Option Const). IsSome (option_and_then class_name_of c)) e is))
    by (Some (String text)) e = absurd (false≢true (subst (λ (c : Option Const). IsSome (option_and_then class_name_of c)) e is))
    by (Some (Fieldref class member)) e = absurd (false≢true (subst (λ (c : Option Const). IsSome (option_and_then class_name_of c)) e is))
    by (Some (Methodref class member)) e = absurd (false≢true (subst (λ (c : Option Const). IsSome (option_and_then class_name_of c)) e is))
    by (Some (InterfaceMethodref class member)) e = absurd (false≢true (subst (λ (c : Option Const). IsSome (option_and_then class_name_of c)) e is))
    by (Some (NameAndType name desc)) e = absurd (false≢true (subst (λ (c : Option Const). IsSome (option_and_then class_name_of c)) e is))
    by (Some (MethodHandle kind reference)) e = absurd (false≢true (subst (λ (c : Option Const). IsSome (option_and_then class_name_of c)) e is))
    by (Some (MethodType desc)) e = absurd (false≢true (subst (λ (c : Option Const). IsSome (option_and_then class_name_of c)) e is))
    by (Some (InvokeDynamic bootstrap member)) e = absurd (false≢true (subst (λ (c : Option Const). IsSome (option_and_then class_name_of c)) e is))

  record IsPair (member : ℕ) : Type 0 where
    name : List ℕ
    name_is : name_at old member ≡ Some name
    desc : List ℕ
    desc_is : descriptor_at old member ≡ Some desc

  pair_read : (member : ℕ) → IsNameAndTypeAt old member → IsPair member
  pair_read member is = by (constant_at old member) refl where
    none : (found : Option Const) → option_and_then name_and_type_of found ≡ None → constant_at old member ≡ found → IsPair member
    none found lacks e = absurd (false≢true (subst IsSome (ap (option_and_then name_and_type_of) e ∙ lacks) is))

    by : (found : Option Const) → constant_at old member ≡ found → IsPair member
    by (Some (NameAndType name desc)) e =
        let hold = (one_checked old_major old 10 old checked member (NameAndType name desc) e).hold in
        let one = the_some (utf8_at old name) hold.0.0 in
        let two = the_some (utf8_at old desc) hold.0.1 in
        record { name = one.0; name_is = rw (e) one.1; desc = two.0; desc_is = rw (e) two.1 }
    by None e = none None refl e
    by (Some (Utf8 text)) e = none (Some (Utf8 text)) refl e
    by (Some (Integer number)) e = none (Some (Integer number)) refl e
    by (Some (Float bits)) e = none (Some (Float bits)) refl e
    by (Some (Long number)) e = none (Some (Long number)) refl e
    by (Some (Double bits)) e = none (Some (Double bits)) refl e
    by (Some (Class text)) e = none (Some (Class text)) refl e
    by (Some (String text)) e = none (Some (String text)) refl e
    by (Some (Fieldref class of)) e = none (Some (Fieldref class of)) refl e
    by (Some (Methodref class of)) e = none (Some (Methodref class of)) refl e
    by (Some (InterfaceMethodref class of)) e = none (Some (InterfaceMethodref class of)) refl e
    by (Some (MethodHandle kind reference)) e = none (Some (MethodHandle kind reference)) refl e
    by (Some (MethodType desc)) e = none (Some (MethodType desc)) refl e
    by (Some (InvokeDynamic bootstrap of)) e = none (Some (InvokeDynamic bootstrap of)) refl e

  -- a reference to a member means one
  record IsMeant (kind : MemberKind) (class member : ℕ) : Type 0 where
    old_pair : IsPair member
    of_class : Name
    meant : NamesMember pool other kind of_class old_pair.name old_pair.desc

  member_meant : (kind : MemberKind) (class member : ℕ) → constant_at old index ≡ Some (reference_of_kind kind class member)
      → IsClassAt old class × IsNameAndTypeAt old member
      → IsMeant kind class member
  member_meant kind class member e there =
      let named = class_read class there.0 in
      let pair = pair_read member there.1 in
      record { old_pair = pair; of_class = named.0; meant = means.member kind class member named.0 pair.name pair.desc e named.1 pair.name_is pair.desc_is }

  pub field_fits : IsFieldConstant (constant_at old index) → IsFieldConstant (constant_at pool other)
  field_fits is = by (constant_at old index) refl is where
    by : (found : Option Const) → constant_at old index ≡ found → IsFieldConstant found → IsFieldConstant (constant_at pool other)
    by (Some (Fieldref class member)) e is =
        let one = member_meant of_field class member e (one_checked old_major old 10 old checked index (Fieldref class member) e).hold.0 in
        subst IsFieldConstant (sym one.meant.is) tt
    by None e is = elim is [ ]
    by (Some (Utf8 text)) e is = elim is [ ]
    by (Some (Integer number)) e is = elim is [ ]
    by (Some (Float bits)) e is = elim is [ ]
    by (Some (Long number)) e is = elim is [ ]
    by (Some (Double bits)) e is = elim is [ ]
    by (Some (Class text)) e is = elim is [ ]
    by (Some (String text)) e is = elim is [ ]
    by (Some (Methodref class member)) e is = elim is [ ]
    by (Some (InterfaceMethodref class member)) e is = elim is [ ]
    by (Some (NameAndType name desc)) e is = elim is [ ]
    by (Some (MethodHandle kind reference)) e is = elim is [ ]
    by (Some (MethodType desc)) e is = elim is [ ]
    by (Some (InvokeDynamic bootstrap member)) e is = elim is [ ]

  method_fits : IsMethodConstant (constant_at old index) → IsMethodConstant (constant_at pool other)
  method_fits is = by (constant_at old index) refl is where
    by : (found : Option Const) → constant_at old index ≡ found → IsMethodConstant found → IsMethodConstant (constant_at pool other)
    by (Some (Methodref class member)) e is =
        let one = member_meant of_method class member e (one_checked old_major old 10 old checked index (Methodref class member) e).hold.0 in
        subst IsMethodConstant (sym one.meant.is) tt
    by None e is = elim is [ ]
    by (Some (Utf8 text)) e is = elim is [ ]
    by (Some (Integer number)) e is = elim is [ ]
    by (Some (Float bits)) e is = elim is [ ]
    by (Some (Long number)) e is = elim is [ ]
    by (Some (Double bits)) e is = elim is [ ]
    by (Some (Class text)) e is = elim is [ ]
    by (Some (String text)) e is = elim is [ ]
    by (Some (Fieldref class member)) e is = elim is [ ]
    by (Some (InterfaceMethodref class member)) e is = elim is [ ]
    by (Some (NameAndType name desc)) e is = elim is [ ]
    by (Some (MethodHandle kind reference)) e is = elim is [ ]
    by (Some (MethodType desc)) e is = elim is [ ]
    by (Some (InvokeDynamic bootstrap member)) e is = elim is [ ]

  -- and an interface's has the same descriptor
  interface_fits : IsInterfaceConstant (constant_at old index)
      → IsInterfaceConstant (constant_at pool other)
      × (units_behind pool (member_index (constant_at pool other)) ≡ units_behind old (member_index (constant_at old index)))
  interface_fits is = by (constant_at old index) refl is where
    by : (found : Option Const) → constant_at old index ≡ found → IsInterfaceConstant found
        → IsInterfaceConstant (constant_at pool other)
        × (units_behind pool (member_index (constant_at pool other)) ≡ units_behind old (member_index (constant_at old index)))
    by (Some (InterfaceMethodref class member)) e is =
        let one = member_meant of_interface_method class member e (one_checked old_major old 10 old checked index (InterfaceMethodref class member) e).hold.0 in (
          subst IsInterfaceConstant (sym one.meant.is) tt,
          ap (λ (c : Option Const). units_behind pool (member_index c)) one.meant.is ∙ one.meant.desc_is ∙ sym one.old_pair.desc_is
              ∙ sym (ap (λ (c : Option Const). units_behind old (member_index c)) e),
        )
    by None e is = elim is [ ]
    by (Some (Utf8 text)) e is = elim is [ ]
    by (Some (Integer number)) e is = elim is [ ]
    by (Some (Float bits)) e is = elim is [ ]
    by (Some (Long number)) e is = elim is [ ]
    by (Some (Double bits)) e is = elim is [ ]
    by (Some (Class text)) e is = elim is [ ]
    by (Some (String text)) e is = elim is [ ]
    by (Some (Fieldref class member)) e is = elim is [ ]
    by (Some (Methodref class member)) e is = elim is [ ]
    by (Some (NameAndType name desc)) e is = elim is [ ]
    by (Some (MethodHandle kind reference)) e is = elim is [ ]
    by (Some (MethodType desc)) e is = elim is [ ]
    by (Some (InvokeDynamic bootstrap member)) e is = elim is [ ]

  pub call_fits : (major opcode count : ℕ) → IsCalled old major opcode index count → IsCalled pool major opcode other count
  call_fits major opcode count (inl a) = inl (a.0, method_fits a.1)
  call_fits major opcode count (inr (inl b)) =
      let interface = interface_fits b.1 in
      inr (inl (b.0, interface.0, subst (λ (text : Option (List ℕ)). CountsArguments text count) (sym interface.1) b.2))
  call_fits major opcode count (inr (inr c)) = inr (inr (c.0, elim c.1 [ inl method ↦ inl (method_fits method) | inr interface ↦ inr (interface.0, (interface_fits interface.1).0) ]))

  pub class_fits : IsClassAt old index → IsClassAt pool other × (class_at pool other ≡ class_at old index)
  class_fits is =
      let name = class_read index is in
      let there = means.class name.0 name.1 in
      (of_class there, there ∙ sym name.1) where
        of_class : {name : Name} → class_at pool other ≡ Some name → IsClassAt pool other
        of_class {name} e = by (option_and_then class_name_of (constant_at pool other)) refl where
          by : (o : Option ℕ) → option_and_then class_name_of (constant_at pool other) ≡ o → IsClassAt pool other
          by None none = absurd (none-some name (sym (ap (option_and_then (utf8_at pool)) none) ∙ e))
          by (Some text) some = some_there (option_and_then class_name_of (constant_at pool other)) text some

  pub loads_fit : IsLoadable (constant_at old index) → IsNoHandle (constant_at old index) → IsLoadable (constant_at pool other)
  loads_fit is plain = by (constant_at old index) refl is plain where
    by : (found : Option Const) → constant_at old index ≡ found → IsLoadable found → IsNoHandle found → IsLoadable (constant_at pool other)
    by (Some (Integer number)) e is plain = subst IsLoadable (sym (means.number (Integer number) tt e)) tt
    by (Some (Float bits)) e is plain = subst IsLoadable (sym (means.number (Float bits) tt e)) tt
    by (Some (String text)) e is plain =
        let bytes = the_some (utf8_at old text) (one_checked old_major old 10 old checked index (String text) e).hold.0 in
        subst IsLoadable (sym (means.string text bytes.0 e bytes.1).is) tt
    by (Some (Class text)) e is plain =
        let class = class_fits (rw (e) refl) in of_class (constant_at pool other) class.0 where
          of_class : (found : Option Const) → IsSome (option_and_then class_name_of found) → IsLoadable found
          of_class (Some (Class text)) some = tt
          of_class None some = absurd (false≢true some)
          of_class (Some (Utf8 text)) some = absurd (false≢true some)
          of_class (Some (Integer number)) some = absurd (false≢true some)
          of_class (Some (Float bits)) some = absurd (false≢true some)
          of_class (Some (Long number)) some = absurd (false≢true some)
          of_class (Some (Double bits)) some = absurd (false≢true some)
          of_class (Some (String text)) some = absurd (false≢true some)
          of_class (Some (Fieldref class member)) some = absurd (false≢true some)
          of_class (Some (Methodref class member)) some = absurd (false≢true some)
          of_class (Some (InterfaceMethodref class member)) some = absurd (false≢true some)
          of_class (Some (NameAndType name desc)) some = absurd (false≢true some)
          of_class (Some (MethodHandle kind reference)) some = absurd (false≢true some)
          of_class (Some (MethodType desc)) some = absurd (false≢true some)
          of_class (Some (InvokeDynamic bootstrap member)) some = absurd (false≢true some)
    by (Some (MethodHandle kind reference)) e is plain = elim plain [ ]
    by (Some (MethodType desc)) e is plain = elim plain [ ]
    by None e is plain = elim is [ ]
    by (Some (Utf8 text)) e is plain = elim is [ ]
    by (Some (Long number)) e is plain = elim is [ ]
    by (Some (Double bits)) e is plain = elim is [ ]
    by (Some (Fieldref class member)) e is plain = elim is [ ]
    by (Some (Methodref class member)) e is plain = elim is [ ]
    by (Some (InterfaceMethodref class member)) e is plain = elim is [ ]
    by (Some (NameAndType name desc)) e is plain = elim is [ ]
    by (Some (InvokeDynamic bootstrap member)) e is plain = elim is [ ]

  pub loads2_fit : IsLoadable2 (constant_at old index) → IsLoadable2 (constant_at pool other)
  loads2_fit is = by (constant_at old index) refl is where
    by : (found : Option Const) → constant_at old index ≡ found → IsLoadable2 found → IsLoadable2 (constant_at pool other)
    by (Some (Long number)) e is = subst IsLoadable2 (sym (means.number (Long number) tt e)) tt
    by (Some (Double bits)) e is = subst IsLoadable2 (sym (means.number (Double bits) tt e)) tt
    by None e is = elim is [ ]
    by (Some (Utf8 text)) e is = elim is [ ]
    by (Some (Integer number)) e is = elim is [ ]
    by (Some (Float bits)) e is = elim is [ ]
    by (Some (Class text)) e is = elim is [ ]
    by (Some (String text)) e is = elim is [ ]
    by (Some (Fieldref class member)) e is = elim is [ ]
    by (Some (Methodref class member)) e is = elim is [ ]
    by (Some (InterfaceMethodref class member)) e is = elim is [ ]
    by (Some (NameAndType name desc)) e is = elim is [ ]
    by (Some (MethodHandle kind reference)) e is = elim is [ ]
    by (Some (MethodType desc)) e is = elim is [ ]
    by (Some (InvokeDynamic bootstrap member)) e is = elim is [ ]
