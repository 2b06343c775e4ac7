-- In a hierarchy it is decided which methods count, which are defaults, and which override which.
use Rattle.std.proofs.Common.{◌≡◌, ◌≢◌, ◌⊎◌, ◌&&◌, not, ℕ, Bool, true, false, List, [], ◌∷◌, map, bytes_eq, cond, Option, Some, None, IsTrue, refl, sym, ap, subst, ◌∙◌, inl, inr}
use Rattle.std.proofs.lemmas.Bool.{cases_eq, or_right}
use Rattle.std.proofs.lemmas.Option.{none-some, same_Some}
use Rattle.std.proofs.lemmas.Slice.Eq.{bytes_eq-Decides}
use Rattle.class_model.specs.Members.{has, PUBLIC, STATIC, ABSTRACT}
use Rattle.class_model.specs.Names.{init, clinit}
use Rattle.class_model.specs.declared.header.Header.{Header}
use Rattle.class_model.specs.declared.header.Member.{Member}
use Rattle.class_tree.specs.Headers.{Name, Headers, all_headers, named, class_named}
use Rattle.class_tree.specs.Hierarchy.{IsHierarchy}
use Rattle.class_model.specs.Laws.Decisions.{Decision, mapped, both, either, denied, implied, is_true, is_false}
use Rattle.class_tree.specs.Laws.Decided.{same_bytes, below_decided}
use Rattle.class_tree.specs.Laws.Names.{IsOneName, none_of_none, one_name_first, one_of_first}
use Rattle.class_tree.specs.Names.{object, is_interface}
use Rattle.class_tree.specs.Subtype.{IsBelow}
use Rattle.member_link.specs.DeclaredMembers.{Declared, declared_by, declared, is_inherited, is_open}
use Rattle.member_link.specs.Defaults.{IsSuperinterfaceMethod, IsDefault}
use Rattle.member_link.specs.Methods.{CountsFor}
use Rattle.member_link.specs.Inner.OpenMethods.{OpensPackage}
use Rattle.member_link.specs.Overriding.{MayOverride, Overrides, package_of}
use Rattle.member_link.specs.Selection.{Choice, chosen_method, abstract_choice, several_defaults, ChoosesDefault, the_one, no_default, two_defaults, IsOrOverrides, CountsForSpecial}
use Rattle.member_link.proofs.ChosenAbove.{declared_again}
use Rattle.member_link.proofs.OpenOverriding.{IsOpened, overriding_decided}
use Rattle.member_link.specs.Laws.OwnMembers.{own_of_declared}

-- ---- equality

same_number : (one other : ℕ) → Decision (one ≡ other)
same_number one other = cases_eq one other

abbrev member_of : ℕ → List ℕ → List ℕ → Member
member_of flags name desc = record { flags = flags; name = name; desc = desc }

same_member : (one other : Member) → Decision (one ≡ other)
same_member one other = mapped (λ (same : (one.flags ≡ other.flags) × ((one.name ≡ other.name) × (one.desc ≡ other.desc))).
    ap (λ flags. member_of flags one.name one.desc) same.0 ∙ ap (λ name. member_of other.flags name one.desc) same.1.0 ∙ ap (member_of other.flags other.name) same.1.1)
    (λ same. (ap (λ (m : Member). m.flags) same, (ap (λ (m : Member). m.name) same, ap (λ (m : Member). m.desc) same)))
    (both (same_number one.flags other.flags) (both (same_bytes one.name other.name) (same_bytes one.desc other.desc)))

pub declared_is : (one other : Declared) → one.class ≡ other.class → one.member ≡ other.member → one ≡ other
declared_is one other class member = ap (λ name. declared_by name one.member) class ∙ ap (declared_by other.class) member

pub same_declared : (one other : Declared) → Decision (one ≡ other)
same_declared one other = mapped (λ (same : (one.class ≡ other.class) × (one.member ≡ other.member)). declared_is one other same.0 same.1) (λ same. (ap (λ (d : Declared). d.class) same, ap (λ (d : Declared). d.member) same)) (both (same_bytes one.class other.class) (same_member one.member other.member))

-- an option is this one
is_some_of : {X : Type 0} → ((one other : X) → Decision (one ≡ other)) → (option : Option X) (x : X) → Decision (option ≡ Some x)
is_some_of same None x = inr (λ is. none-some x is)
is_some_of same (Some y) x = mapped (λ is. ap Some is) (λ is. same_Some y x is) (same y x)

-- a property of what an option has
of_some : {X : Type 0} (P : X → Type 0) (option : Option X) → ((x : X) → option ≡ Some x → Decision (P x)) → Decision ((x : X) × (option ≡ Some x) × P x)
of_some P None decide = inr (λ h. none-some h.0 h.1)
of_some P (Some x) decide = mapped (λ p. (x, refl, p)) (λ h. subst P (sym (same_Some x h.0 h.1)) h.2) (decide x refl)

-- ---- the names of all classes

one_named : (name : Name) (headers : List Header) (header : Header) → named name headers ≡ Some header → IsOneName (map (λ (h : Header). h.name) headers) name
one_named name [] header is = absurd (none-some header is)
one_named name (first ∷ headers) header is = by (bytes_eq name first.name) refl is (one_named name headers header)
  where
    by : (b : Bool) → bytes_eq name first.name ≡ b → cond b (Some first) (named name headers) ≡ Some header → (named name headers ≡ Some header → IsOneName (map (λ (h : Header). h.name) headers) name) → IsOneName (map (λ (h : Header). h.name) (first ∷ headers)) name
    by true same here later = one_name_first name first.name (map (λ (h : Header). h.name) headers) (sym ((bytes_eq-Decides name first.name).0 same))
    by false differ there later = or_right _ _ (later there)

some_name : (P : Name → Type 0) → ((name : Name) → Decision (P name)) → (names : List Name) → Decision ((name : Name) × IsOneName names name × P name)
some_name P decide [] = inr (λ h. none_of_none h.0 h.1)
some_name P decide (first ∷ names) = elim (decide first) [
  | inl p ↦ inl (first, one_name_first first first names refl, p)
  | inr fails ↦ mapped (λ h. (h.0, or_right _ _ h.1, h.2)) (λ h. elim (one_of_first first names h.0 h.1) [
    | inl here ↦ absurd (fails (subst P (sym here) h.2))
    | inr there ↦ (h.0, there, h.2)
  ]) (some_name P decide names)
]

-- the method of a name and descriptor of some class
pub record IsNamed (headers : Headers) (name desc : List ℕ) (method : Declared) : Type 0 where
  pub header : Header
  pub found : class_named headers method.class ≡ Some header
  pub declares : declared name desc header.methods ≡ Some method.member

module _ (headers : Headers) (name desc : List ℕ) (P : Declared → Type 0) (decide : (method : Declared) → Decision (P method)) where
  abbrev IsOf : Name → Type 0
  IsOf class = (method : Declared) × IsNamed headers name desc method × P method × (method.class ≡ class)

  of_class : (class : Name) → Decision (IsOf class)
  of_class class = mapped to from (of_some (λ header. (member : Member) × (declared name desc header.methods ≡ Some member) × P (declared_by class member)) (class_named headers class) (λ header is. of_some (λ member. P (declared_by class member)) (declared name desc header.methods) (λ member declares. decide (declared_by class member))))
    where
      to : ((header : Header) × (class_named headers class ≡ Some header) × ((member : Member) × (declared name desc header.methods ≡ Some member) × P (declared_by class member))) → IsOf class
      to h = (declared_by class h.2.0, record { header = h.0; found = h.1; declares = h.2.1 }, h.2.2, refl)

      from : IsOf class → (header : Header) × (class_named headers class ≡ Some header) × ((member : Member) × (declared name desc header.methods ≡ Some member) × P (declared_by class member))
      from h =
          let is = h.1 in (
            is.header,
            ap (class_named headers) (sym h.3) ∙ is.found,
            (h.0.member, is.declares, subst P (ap (λ n. declared_by n h.0.member) h.3) h.2),
          )

  -- it is decided whether a method of this name and descriptor has a property that is decided
  pub some_method : Decision ((method : Declared) × IsNamed headers name desc method × P method)
  some_method = mapped (λ h. (h.2.0, h.2.1, h.2.2)) (λ h.
      let is = h.1 in
      (h.0.class, one_named h.0.class (all_headers headers) is.header is.found, (h.0, is, h.2, refl))) (some_name IsOf of_class (map (λ (h : Header). h.name) (all_headers headers)))

module _ (headers : Headers) (hierarchy : IsHierarchy headers) where
  -- ---- defaults

  module _ (class : Name) (name desc : List ℕ) where
    -- what is asked of the class of a superinterface method
    record IsMethodOfHeader (method : Declared) (header : Header) : Type 0 where
      interface : IsTrue (is_interface header)
      above : IsBelow headers class method.class
      declares : declared name desc header.methods ≡ Some method.member
      inherited : IsTrue (is_inherited method.member)

    of_header : (method : Declared) (header : Header) → Decision (IsMethodOfHeader method header)
    of_header method header = mapped (λ h. record { interface = h.0; above = h.1.0; declares = h.1.1.0; inherited = h.1.1.1 }) (λ (h : IsMethodOfHeader method header). (h.interface, (h.above, (h.declares, h.inherited))))
        (both (is_true (is_interface header)) (both (below_decided headers hierarchy class method.class) (both (is_some_of same_member (declared name desc header.methods) method.member) (is_true (is_inherited method.member)))))

    superinterface_method : (method : Declared) → Decision (IsSuperinterfaceMethod headers class name desc method)
    superinterface_method method = mapped (λ h.
        let is = h.2 in
        record { header = h.0; found = h.1; interface = is.interface; above = is.above; declares = is.declares; inherited = is.inherited }) (λ (is : IsSuperinterfaceMethod headers class name desc method).
        (is.header, is.found, record { interface = is.interface; above = is.above; declares = is.declares; inherited = is.inherited })) (of_some (IsMethodOfHeader method) (class_named headers method.class) (λ header is. of_header method header))

    named_of : (method : Declared) → IsSuperinterfaceMethod headers class name desc method → IsNamed headers name desc method
    named_of method is = record { header = is.header; found = is.found; declares = is.declares }

    abbrev Hides : Declared → Declared → Type 0
    Hides method other = IsSuperinterfaceMethod headers class name desc other × IsBelow headers other.class method.class

    hidden : (method : Declared) → Decision ((other : Declared) × IsNamed headers name desc other × Hides method other)
    hidden method = some_method headers name desc (Hides method) (λ other. both (superinterface_method other) (below_decided headers hierarchy other.class method.class))

    default : (method : Declared) → Decision (IsDefault headers class name desc method)
    default method = mapped (λ h. record { specific = record { of_superinterface = h.0; none_below = λ other is below. h.1.0 (other, named_of other is, (is, below)) }; concrete = h.1.1 })
        (λ (is : IsDefault headers class name desc method). (is.specific.of_superinterface, ((λ h. is.specific.none_below h.0 h.2.0 h.2.1), is.concrete)))
        (both (superinterface_method method) (both (denied (hidden method)) (is_false (has method.member.flags ABSTRACT))))

    -- the default rule always answers
    pub default_chosen : (choice : Choice) × ChoosesDefault headers class name desc choice
    default_chosen = elim (some_method headers name desc (IsDefault headers class name desc) default) [
      | inr none ↦ (abstract_choice, no_default (λ method is. none (method, named_of method is.specific.of_superinterface, is)))
      | inl one ↦ elim (some_method headers name desc (λ other. IsDefault headers class name desc other × (one.0 ≢ other)) (λ other. both (default other) (denied (same_declared one.0 other)))) [
        | inl two ↦ (several_defaults, two_defaults one.0 two.0 one.2 two.2.0 two.2.1)
        | inr single ↦ (
          chosen_method one.0,
          the_one one.0 (record {
            is_default = one.2;
            only = λ other is. elim (same_declared one.0 other) [
              | inl same ↦ sym same
              | inr differ ↦ absurd (single (other, named_of other is.specific.of_superinterface, (is, differ)))
            ];
          }),
        )
      ]
    ]

  -- ---- overriding

  may_override : (low high : Declared) → Decision (MayOverride headers low high)
  may_override low high = mapped (λ h. record { below = h.0; same_name = h.1.0; same_desc = h.1.1.0; low_inherited = h.1.1.1.0; high_inherited = h.1.1.1.1.0; no_init = h.1.1.1.1.1.0; no_clinit = h.1.1.1.1.1.1 })
      (λ (may : MayOverride headers low high). (may.below, (may.same_name, (may.same_desc, (may.low_inherited, (may.high_inherited, (may.no_init, may.no_clinit)))))))
      (both (below_decided headers hierarchy low.class high.class) (both (same_bytes low.member.name high.member.name) (both (same_bytes low.member.desc high.member.desc) (both (is_true (is_inherited low.member)) (both (is_true (is_inherited high.member)) (both (denied (same_bytes high.member.name init)) (denied (same_bytes high.member.name clinit))))))))

  opens_package : (middle high : Declared) → Decision (OpensPackage headers middle high)
  opens_package middle high = mapped (λ h. record { may = h.0; is_open = h.1.0; same_package = h.1.1 }) (λ (opens : OpensPackage headers middle high). (opens.may, (opens.is_open, opens.same_package)))
      (both (may_override middle high) (both (is_true (is_open middle.member)) (same_bytes (package_of middle.class) (package_of high.class))))

  opened : (low high : Declared) → Decision (IsOpened headers low high)
  opened low high = mapped to from (some_method headers low.member.name low.member.desc (λ middle. IsBelow headers low.class middle.class × OpensPackage headers middle high) (λ middle. both (below_decided headers hierarchy low.class middle.class) (opens_package middle high)))
    where
      to : ((middle : Declared) × IsNamed headers low.member.name low.member.desc middle × (IsBelow headers low.class middle.class × OpensPackage headers middle high)) → IsOpened headers low high
      to h =
          let is = h.1 in
          let own = own_of_declared low.member.name low.member.desc is.header.methods h.0.member is.declares in (
            h.0,
            record {
              method = record { header = is.header; found = is.found; declares = declared_again low.member.name low.member.desc is.header.methods h.0.member is.declares };
              below = h.2.0;
              same_name = own.3;
              same_desc = own.4;
            },
            h.2.1,
          )

      from : IsOpened headers low high → (middle : Declared) × IsNamed headers low.member.name low.member.desc middle × (IsBelow headers low.class middle.class × OpensPackage headers middle high)
      from h =
          let above = h.1 in (
            h.0,
            record {
              header = above.method.header;
              found = above.method.found;
              declares = ap (λ n. declared n low.member.desc above.method.header.methods) (sym above.same_name) ∙ ap (λ d. declared h.0.member.name d above.method.header.methods) (sym above.same_desc) ∙ above.method.declares;
            },
            (above.below, h.2),
          )

  pub overrides : (low high : Declared) → Decision (Overrides headers low high)
  overrides low high = mapped (overriding_decided {headers = headers} {low = low} {high = high}).1 (overriding_decided {headers = headers} {low = low} {high = high}).0
      (both (may_override low high) (either (is_true (is_open high.member)) (either (same_bytes (package_of low.class) (package_of high.class)) (opened low high))))

  -- ---- which methods count

  pub counts_for_look_up : (header : Header) (method : Declared) → Decision (CountsFor header method)
  counts_for_look_up header method = implied (is_true (is_interface header)) (either (same_bytes method.class header.name) (is_true (has method.member.flags PUBLIC && not (has method.member.flags STATIC))))

  pub is_or_overrides : (resolved method : Declared) → Decision (IsOrOverrides headers resolved method)
  is_or_overrides resolved method = either (same_declared method resolved) (overrides method resolved)

  -- from an interface upwards
  abbrev PassesObject : Declared → Type 0
  PassesObject method = (method.class ≢ object) ⊎ IsTrue (has method.member.flags PUBLIC)

  abbrev PassesAt : Name → Declared → Type 0
  PassesAt start method = (header : Header) → class_named headers start ≡ Some header → IsTrue (is_interface header) → PassesObject method

  passes_at : (start : Name) (method : Declared) → Decision (PassesAt start method)
  passes_at start method = by (class_named headers start) refl
    where
      by : (found : Option Header) → class_named headers start ≡ found → Decision (PassesAt start method)
      by None none = inl (λ header is. absurd (none-some header (sym none ∙ is)))
      by (Some header) is = mapped (λ (passes : IsTrue (is_interface header) → PassesObject method). λ other other_is kind. passes (ap (λ (h : Header). is_interface h) (same_Some header other (sym is ∙ other_is)) ∙ kind)) (λ all. all header is)
          (implied (is_true (is_interface header)) (either (denied (same_bytes method.class object)) (is_true (has method.member.flags PUBLIC))))

  pub counts_for_special : (start : Name) (method : Declared) → Decision (CountsForSpecial headers start method)
  counts_for_special start method = mapped (λ h. record { of_instance = h.0; at_interface = h.1 }) (λ (counts : CountsForSpecial headers start method). (counts.of_instance, counts.at_interface))
      (both (is_false (has method.member.flags STATIC)) (passes_at start method))
