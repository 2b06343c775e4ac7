use Rattle.std.specs.Prelude.{◌≡◌, ◌≢◌, ◌⊎◌, ◌&&◌, not, refl, ℕ, Bool, true, false, List, [], ◌∷◌, Option, Some, if◌then◌else◌}
use Rattle.std.proofs.Common.{inl, inr, ap, sym, ◌∙◌, subst}
use Rattle.std.proofs.lemmas.Slice.Eq.{bytes_eq-Decides}
use Rattle.class_model.specs.Members.{has, PRIVATE, STATIC, ABSTRACT, PUBLIC}
use Rattle.class_model.specs.Names.{init}
use Rattle.class_model.specs.declared.header.Member.{Member}
use Rattle.class_tree.specs.Headers.{Name, Headers}
use Rattle.class_tree.specs.Names.{is_member}
use Rattle.class_tree.specs.Subtype.{IsDirectlyBelow, superclass, IsBelow, directly, onwards}
use Rattle.member_link.specs.Access.{IsAtOrBelow}
use Rattle.member_link.specs.DeclaredMembers.{Declared, declared_by, IsMethod, declared, own_method}
use Rattle.member_link.specs.Machine.Links.{reference_to, chosen_by, IsChoiceLink, IsSelection}
use Rattle.member_link.specs.Machine.Programs.{Program, Chosen, chosen, headers_in}
use Rattle.member_link.specs.Overriding.{MayOverride, Overrides, overrides_open, overrides_in_package, overrides_through}
use Rattle.member_link.specs.References.{Reference}
use Rattle.member_link.specs.Selection.{Choice, chosen_method, abstract_choice, several_defaults, choice_not_public, choice_of, public_choice_of, ChoosesDefault, the_one, no_default, two_defaults, Chooses, first_upwards, by_default, start_of, IsOrOverrides, Selects, of_private, of_virtual, of_interface, of_initialiser, of_special}
use Rattle.member_link.specs.Upwards.{FirstUpwards, in_itself, in_superclass, in_no_superclass, in_absent_class}
use Rattle.member_link.specs.declared.selection.CallForm.{CallForm}
use Rattle.typed_runs.proofs.Basics.{and_first, and_second, some_of}
use Rattle.typed_runs.specs.TypedPrograms.{Typings, IsTypedProgram}

-- What a selection chooses, whatever the receiver: the method that was found, or one at or above the class where the selection starts, of
-- its name and descriptor.
pub record IsSelected (headers : Headers) (start : Name) (found m : Declared) : Type 0 where
  pub declares : IsMethod headers m
  pub of_object : has m.member.flags STATIC ≡ false
  pub same_name : m.member.name ≡ found.member.name
  pub same_desc : m.member.desc ≡ found.member.desc
  pub above : (m ≡ found) ⊎ IsAtOrBelow headers start m.class

-- ---- a declared member

pub record IsNamed (name desc : List ℕ) (member : Member) : Type 0 where
  pub name_is : member.name ≡ name
  pub desc_is : member.desc ≡ desc

pub declared_is : (name desc : List ℕ) (ms : List Member) (member : Member) → declared name desc ms ≡ Some member
    → IsNamed name desc member
declared_is name desc [] member is = cc
declared_is name desc (m ∷ ms) member is = by (is_member name desc m) refl (λ e. declared_is name desc ms member e) where
  by : (b : Bool) → is_member name desc m ≡ b → (declared name desc ms ≡ Some member → IsNamed name desc member)
      → IsNamed name desc member
  by true e next =
      let one : m ≡ member = some_of (rw e at is) in
      subst (λ x. IsNamed name desc x) one (record {
        name_is = sym ((bytes_eq-Decides name m.name).0 (and_first _ _ e));
        desc_is = sym ((bytes_eq-Decides desc m.desc).0 (and_second _ _ e));
      })
  by false e next = next (rw e at is)

pub declared_again : (name desc : List ℕ) (ms : List Member) (member : Member) → declared name desc ms ≡ Some member
    → declared member.name member.desc ms ≡ Some member
declared_again name desc ms member is =
    let n = declared_is name desc ms member is in
    subst (λ x. declared x member.desc ms ≡ Some member) (sym n.name_is)
    (subst (λ x. declared name x ms ≡ Some member) (sym n.desc_is) is)

pub inherited_is : (private static : Bool) → (not private && not static) ≡ true → static ≡ false
inherited_is false false is = refl
inherited_is false true is = cc
inherited_is true static is = cc

-- ---- upwards, and among defaults

abbrev pub choice_is : Choice → Declared → Declared
choice_is (chosen_method m) other = m
choice_is choice other = other

pub same_choice : (m other : Declared) → choice_of m ≡ chosen_method other → m ≡ other
same_choice m other same = by (has m.member.flags ABSTRACT) same where
  by : (b : Bool) → (if b then abstract_choice else chosen_method m) ≡ chosen_method other → m ≡ other
  by true e = cc
  by false e = ap (λ c. choice_is c m) e

pub same_public_choice : (m other : Declared) → public_choice_of m ≡ chosen_method other → m ≡ other
same_public_choice m other same = by (has m.member.flags PUBLIC) same where
  by : (b : Bool) → (if b then choice_of m else choice_not_public) ≡ chosen_method other → m ≡ other
  by true e = same_choice m other e
  by false e = cc

pub record IsMet (headers : Headers) (Counts : Declared → Type 0) (name desc : List ℕ) (class : Name) (m : Declared) : Type 0 where
  pub declares : IsMethod headers m
  pub named : IsNamed name desc m.member
  pub above : IsAtOrBelow headers class m.class
  pub counts : Counts m

pub met_upwards : {headers : Headers} {Counts : Declared → Type 0} {name desc : List ℕ} {class : Name} {o : Option Declared}
    → FirstUpwards headers Counts name desc class o → (m : Declared) → o ≡ Some m → IsMet headers Counts name desc class m
met_upwards {headers = headers} {Counts = Counts} {name = name} {desc = desc} (in_itself class header member is declares counts) m same =
    let one : declared_by class member ≡ m = some_of same in
    subst (λ x. IsMet headers Counts name desc class x) one (record {
      declares = record { header = header; found = is; declares = declared_again name desc header.methods member declares };
      named = declared_is name desc header.methods member declares;
      above = inl refl;
      counts = counts;
    })
met_upwards {headers = headers} (in_superclass class high header o is passed some rest) m same =
    let met = met_upwards rest m same in
    let step : IsDirectlyBelow headers class high = superclass class high header is some in
    record { declares = met.declares; named = met.named; above = inr (by step met.above); counts = met.counts } where
      by : IsDirectlyBelow headers class high → IsAtOrBelow headers high m.class → IsBelow headers class m.class
      by step (inl e) = directly class m.class (subst (λ n. IsDirectlyBelow headers class n) e step)
      by step (inr up) = onwards class high m.class step up
met_upwards (in_no_superclass class header is passed none) m same = cc
met_upwards (in_absent_class class absent) m same = cc

module _ (headers : Headers) (found : Declared) where
  pub default_selected : {start : Name} {choice : Choice} → ChoosesDefault headers start found.member.name found.member.desc choice
      → (m : Declared) → choice ≡ chosen_method m → IsSelected headers start found m
  default_selected {start = start} (the_one method is) m same =
      let one : method ≡ m = ap (λ c. choice_is c method) same in
      let of = is.is_default.specific.of_superinterface in
      let named = declared_is found.member.name found.member.desc of.header.methods method.member of.declares in
      subst (λ x. IsSelected headers start found x) one (record {
        declares = record {
          header = of.header;
          found = of.found;
          declares =
              declared_again found.member.name found.member.desc of.header.methods method.member of.declares;
        };
        of_object = inherited_is (has method.member.flags PRIVATE) (has method.member.flags STATIC) of.inherited;
        same_name = named.name_is;
        same_desc = named.desc_is;
        above = inr (inr of.above);
      })
  default_selected (no_default none) m same = cc
  default_selected (two_defaults one other is also differ) m same = cc

  pub chosen_selected : {start : Name} {Counts : Declared → Type 0} {of_method : Declared → Choice} {choice : Choice}
      → ((x : Declared) → Counts x → has x.member.flags STATIC ≡ false) → ((x y : Declared) → of_method x ≡ chosen_method y → x ≡ y)
      → Chooses headers Counts of_method start found.member.name found.member.desc choice → (m : Declared) → choice ≡ chosen_method m
      → IsSelected headers start found m
  chosen_selected {start = start} of_object one (first_upwards method up) m same =
      let met = met_upwards up method refl in
      subst (λ x. IsSelected headers start found x) (one method m same) (record {
        declares = met.declares;
        of_object = of_object method met.counts;
        same_name = met.named.name_is;
        same_desc = met.named.desc_is;
        above = inr met.above;
      })
  chosen_selected of_object one (by_default choice none over) m same = default_selected over m same

  module _ (declares : IsMethod headers found) (of_object : has found.member.flags STATIC ≡ false) where
    pub itself_selected : {start : Name} (m : Declared) → choice_of found ≡ chosen_method m → IsSelected headers start found m
    itself_selected {start = start} m same = subst (λ x. IsSelected headers start found x) (same_choice found m same)
        (record { declares = declares; of_object = of_object; same_name = refl; same_desc = refl; above = inl refl })

    pub may_of : {low high : Declared} → Overrides headers low high → MayOverride headers low high
    may_of (overrides_open low high may opens) = may
    may_of (overrides_in_package low high may access same) = may
    may_of (overrides_through low middle high may method one other) = may

    pub overriding_of_object : (x : Declared) → IsOrOverrides headers found x → has x.member.flags STATIC ≡ false
    overriding_of_object x (inl e) = ap (λ (y : Declared). has y.member.flags STATIC) e ∙ of_object
    overriding_of_object x (inr over) = inherited_is (has x.member.flags PRIVATE) (has x.member.flags STATIC) (may_of over).low_inherited

    pub selected : {receiver : Name} {form : CallForm} {choice : Choice} → Selects headers receiver found form choice → (m : Declared)
        → choice ≡ chosen_method m → IsSelected headers (start_of receiver) found m
    selected (of_private is) m same = itself_selected m same
    selected (of_virtual choice free chooses) m same = chosen_selected overriding_of_object same_choice chooses m same
    selected (of_interface choice chooses) m same = chosen_selected (λ x is. is) same_public_choice chooses m same
    selected (of_initialiser is) m same = itself_selected m same
    selected (of_special choice differ chooses) m same = chosen_selected (λ x counts. counts.of_instance) same_choice chooses m same

-- ---- what the links of a program answer

pub own_method_is : (headers : Headers) (m : Declared) → IsMethod headers m
    → own_method headers m.class m.member.name m.member.desc ≡ Some m
own_method_is headers m declares = rw declares.found (rw declares.declares refl)

pub record Selection (headers : Headers) (receiver : Name) (found : Declared) (r : Reference) : Type 0 where
  pub method : Declared
  pub reference : r ≡ reference_to method
  pub is : IsSelected headers (start_of receiver) found method

abbrev pub chosen_reference : Chosen → Reference → Reference
chosen_reference (chosen r) other = r
chosen_reference choice other = other

pub selection : (P : Program) (T : Typings) → IsTypedProgram P T → (receiver : Name) (found : Declared) (form : CallForm)
    → IsMethod (headers_in P) found → has found.member.flags STATIC ≡ false → found.member.name ≢ init
    → (r : Reference) → P.links.select receiver (reference_to found) form ≡ chosen r → Selection (headers_in P) receiver found r
selection P T program receiver found form declares of_object other r same =
    let link : IsChoiceLink (headers_in P) receiver found form (P.links.select receiver (reference_to found) form) =
    subst (λ o. IsSelection (headers_in P) receiver form o (P.links.select receiver (reference_to found) form))
    (own_method_is (headers_in P) found declares) (program.links.select receiver (reference_to found) form other) in
    by link.choice link.selects (sym same ∙ link.same) where
      by : (choice : Choice) → Selects (headers_in P) receiver found form choice → chosen r ≡ chosen_by choice
          → Selection (headers_in P) receiver found r
      by (chosen_method m) selects e = record {
        method = m;
        reference = ap (λ c. chosen_reference c r) e;
        is =
            selected (headers_in P) found declares of_object selects m refl;
      }
      by abstract_choice selects e = cc
      by several_defaults selects e = cc
      by choice_not_public selects e = cc
