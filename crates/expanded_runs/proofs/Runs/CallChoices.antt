-- The method that a call runs in the folder's program, where one is selected.
use Rattle.std.specs.Prelude.{◌≡◌, ◌≢◌, ◌⊎◌, ◌==◌, ◌&&◌, not, refl, ℕ, Bool, true, false, List, [], ◌∷◌, bytes_eq, is_some, Option, Some, None}
use Rattle.std.proofs.Common.{inl, inr, arith, ap, sym, subst, ◌∙◌}
use Rattle.std.proofs.lemmas.Option.{none-some, same_Some}
use Rattle.std.proofs.lemmas.Slice.Eq.{bytes_eq-Decides}
use Rattle.class_model.specs.Characters.{left_bracket}
use Rattle.class_model.specs.Members.{ABSTRACT, has}
use Rattle.class_model.specs.Names.{init}
use Rattle.class_model.specs.declared.header.Header.{Header}
use Rattle.class_model.specs.declared.header.Member.{Member}
use Rattle.class_tree.specs.Headers.{Name, Headers, class_named, named}
use Rattle.class_tree.specs.Laws.Above.{IsSound, hierarchy_is_sound, hierarchy_is_rooted, class_is_climbed, class_is_subtype, class_decides, low_is_there, there_is_no_array}
use Rattle.class_tree.specs.Laws.Headers.{same_class}
use Rattle.class_tree.specs.Names.{is_interface, is_member}
use Rattle.class_tree.specs.Subtype.{IsArray, IsBelow}
use Rattle.expanded_code.specs.Callees.{IsOverriddenByNone}
use Rattle.expanded_runs.proofs.Runs.FolderReceivers.{IsFolderClass, folder_below, folder_named, no_array_under}
use Rattle.member_link.specs.Access.{IsAtOrBelow}
use Rattle.member_link.specs.DeclaredMembers.{Declared, IsMethod, declared, declared_by, own_method}
use Rattle.member_link.specs.Machine.Codes.{special_start}
use Rattle.member_link.specs.Machine.Links.{IsChoiceLink, IsSelection, chosen_by, reference_to}
use Rattle.member_link.specs.Machine.Programs.{Program, chosen, headers_in}
use Rattle.member_link.specs.Overriding.{MayOverride, Overrides, overrides_in_package, overrides_open, overrides_through}
use Rattle.member_link.specs.RowScope.{RowScope}
use Rattle.member_link.specs.Selection.{Choice, Chooses, IsOrOverrides, Selects, by_default, choice_of, chosen_method, first_upwards, of_private, of_virtual, start_of}
use Rattle.member_link.specs.SpecialStart.{IsSuperclassNamed, StartsSpecial, at_named, at_superclass}
use Rattle.member_link.specs.Upwards.{FirstUpwards, in_absent_class, in_itself, in_no_superclass, in_superclass}
use Rattle.member_link.specs.declared.selection.CallForm.{CallForm}
use Rattle.member_link.specs.declared.selection.CallForm.TheVariants.{Special, Virtual}
use Rattle.typed_runs.specs.TypedPrograms.{Typings, IsTypedProgram}

-- ---- a declared member

record IsNamed (name desc : List ℕ) (member : Member) : Type 0 where
  name_is : member.name ≡ name
  desc_is : member.desc ≡ desc

and_first : (a b : Bool) → (a && b) ≡ true → a ≡ true
and_first true b is = refl
and_first false b is = is

and_second : (a b : Bool) → (a && b) ≡ true → b ≡ true
and_second true b is = is
and_second false b is = absurd cc

declared_is : (name desc : List ℕ) (members : List Member) (member : Member) → declared name desc members ≡ Some member → IsNamed name desc member
declared_is name desc [] member is = absurd (none-some member is)
declared_is name desc (first ∷ members) member is = by (is_member name desc first) refl (λ later. declared_is name desc members member later) where
  by : (b : Bool) → is_member name desc first ≡ b → (declared name desc members ≡ Some member → IsNamed name desc member) → IsNamed name desc member
  by true e next = subst (IsNamed name desc) (same_Some first member (rw e at is)) (record {
    name_is = sym ((bytes_eq-Decides name first.name).0 (and_first _ _ e));
    desc_is = sym ((bytes_eq-Decides desc first.desc).0 (and_second _ _ e));
  })
  by false e next = next (rw e at is)

declared_again : (name desc : List ℕ) (members : List Member) (member : Member) → declared name desc members ≡ Some member
    → declared member.name member.desc members ≡ Some member
declared_again name desc members member is =
    let n = declared_is name desc members member is in
    subst (λ x. declared x member.desc members ≡ Some member) (sym n.name_is)
    (subst (λ x. declared name x members ≡ Some member) (sym n.desc_is) is)

-- ---- upwards

-- what a search upwards meets is the method of its name and descriptor in its class, and counts
record IsMet (headers : Headers) (Counts : Declared → Type 0) (m : Declared) : Type 0 where
  declares : IsMethod headers m
  counts : Counts m

met_upwards : {headers : Headers} {Counts : Declared → Type 0} {name desc : List ℕ} {class : Name} {o : Option Declared}
    → FirstUpwards headers Counts name desc class o → (m : Declared) → o ≡ Some m → IsMet headers Counts m
met_upwards {headers = headers} {Counts = Counts} {name = name} {desc = desc} (in_itself class header member is declares counts) m same =
    subst (IsMet headers Counts) (same_Some (declared_by class member) m same) (record {
      declares = record { header = header; found = is; declares = declared_again name desc header.methods member declares };
      counts = counts;
    })
met_upwards (in_superclass class high header o is passed some rest) m same = met_upwards rest m same
met_upwards (in_no_superclass class header is passed none) m same = absurd (none-some m same)
met_upwards (in_absent_class class absent) m same = absurd (none-some m same)

may_of : {headers : Headers} {low high : Declared} → Overrides headers low high → MayOverride headers low high
may_of (overrides_open low high may opens) = may
may_of (overrides_in_package low high may access same) = may
may_of (overrides_through low middle high may method one other) = may

-- the class at which a selection starts, if it is no array
start_is : (name : Name) → ¬ IsArray name → start_of name ≡ name
start_is [] flat = refl
start_is (first ∷ rest) flat = by (first == left_bracket) refl where
  by : (b : Bool) → (first == left_bracket) ≡ b → start_of (first ∷ rest) ≡ first ∷ rest
  by true e = let same : first ≡ left_bracket = search arith in absurd (flat (rest, ap (λ x. x ∷ rest) same))
  by false e = rw e refl

module _ (P : Program) (T : Typings) (program : IsTypedProgram P T) where
  sound : IsSound (headers_in P)
  sound = hierarchy_is_sound (headers_in P) program.hierarchy

  -- a search upwards from a class at or below another one does not pass by a method of that
  never_passed : {Counts : Declared → Type 0} {name desc : List ℕ} {class : Name} {o : Option Declared}
      → FirstUpwards (headers_in P) Counts name desc class o → o ≡ None
      → (d : Name) (above : Header) → class_named (headers_in P) d ≡ Some above → is_interface above ≡ false
      → (member : Member) → declared name desc above.methods ≡ Some member → Counts (declared_by d member)
      → IsAtOrBelow (headers_in P) class d → ⊥
  never_passed (in_itself class header member is declares counts) none d above found kind m declared counts_also under =
      none-some (declared_by class member) (sym none)
  never_passed {Counts = Counts} {name = name} {desc = desc}
      (in_superclass class high header o is passed some rest) none d above found kind m is_declared counts under =
      by under (λ up. never_passed rest none d above found kind m is_declared counts up) where
        by : IsAtOrBelow (headers_in P) class d → (IsAtOrBelow (headers_in P) high d → ⊥) → ⊥
        by (inl e) next =
            let same : above ≡ header =
            same_class (headers_in P) d above header found (subst (λ n. class_named (headers_in P) n ≡ Some header) e is) in
            passed m (subst (λ (h : Header). declared name desc h.methods ≡ Some m) same is_declared)
            (subst (λ n. Counts (declared_by n m)) (sym e) counts)
        by (inr up) next =
            let climbed =
            class_is_climbed (headers_in P) sound (hierarchy_is_rooted (headers_in P) program.hierarchy) up header above is found kind in
            let same : climbed.0 ≡ high = same_Some climbed.0 high (sym climbed.1 ∙ some) in
            next (subst (λ n. IsAtOrBelow (headers_in P) n d) same climbed.2)
  never_passed {Counts = Counts} {name = name} {desc = desc} (in_no_superclass class header is passed none_above) none d above found kind m is_declared counts under = by under where
    by : IsAtOrBelow (headers_in P) class d → ⊥
    by (inl e) =
        let same : above ≡ header = same_class (headers_in P) d above header found (subst (λ n. class_named (headers_in P) n ≡ Some header) e is) in
        passed m (subst (λ (h : Header). declared name desc h.methods ≡ Some m) same is_declared)
        (subst (λ n. Counts (declared_by n m)) (sym e) counts)
    by (inr up) =
        let climbed = class_is_climbed (headers_in P) sound (hierarchy_is_rooted (headers_in P) program.hierarchy) up header above is found kind in
        none-some climbed.0 (sym none_above ∙ climbed.1)
  never_passed (in_absent_class class absent) none d above found kind m is_declared counts (inl e) =
      none-some above (sym (subst (λ n. class_named (headers_in P) n ≡ None) e absent) ∙ found)
  never_passed (in_absent_class class absent) none d above found kind m is_declared counts (inr up) =
      let no : false ≡ true = sym (ap is_some absent) ∙ low_is_there up in absurd cc

  -- ---- what the links answer

  own_method_is : (m : Declared) → IsMethod (headers_in P) m → own_method (headers_in P) m.class m.member.name m.member.desc ≡ Some m
  own_method_is m declares = rw declares.found (rw declares.declares refl)

  -- where one choice alone may be made
  select_is : (receiver : Name) (found : Declared) (form : CallForm) → IsMethod (headers_in P) found → found.member.name ≢ init
      → (choice : Choice) → ((other : Choice) → Selects (headers_in P) receiver found form other → other ≡ choice)
      → P.links.select receiver (reference_to found) form ≡ chosen_by choice
  select_is receiver found form declares other choice only =
      let link : IsChoiceLink (headers_in P) receiver found form (P.links.select receiver (reference_to found) form) =
      subst (λ o. IsSelection (headers_in P) receiver form o (P.links.select receiver (reference_to found) form))
      (own_method_is found declares) (program.links.select receiver (reference_to found) form other) in
      link.same ∙ ap chosen_by (only link.choice link.selects)

  pub special_chosen :
      ((headers : Headers) (receiver : Name) (resolved : Declared) (form : CallForm) (one other : Choice)
      → Selects headers receiver resolved form one → Selects headers receiver resolved form other → one ≡ other)
      → (start : Name) (found m : Declared) → IsMethod (headers_in P) found → found.member.name ≢ init
      → Selects (headers_in P) start found Special (chosen_method m)
      → P.links.select start (reference_to found) Special ≡ chosen (reference_to m)
  special_chosen one start found m declares other selects =
      select_is start found Special declares other (chosen_method m)
      (λ choice also. one (headers_in P) start found Special choice (chosen_method m) also selects)

  module _ (m : Declared) (declares : IsMethod (headers_in P) m) (folder : IsFolderClass P m.class) (concrete : has m.member.flags ABSTRACT ≡ false)
      (none : IsOverriddenByNone (headers_in P) m) where
    itself_chosen : choice_of m ≡ chosen_method m
    itself_chosen = rw concrete refl

    no_other : (x : Declared) → IsMethod (headers_in P) x → Overrides (headers_in P) x m → ⊥
    no_other x is over =
        let numbered = folder_below P T program (may_of over).below folder.number folder.numbered in
        let in_folder : named x.class (headers_in P).folder ≡ Some is.header =
        folder_named x.class P.classes P.library numbered.0 is.header numbered.1 is.found in
        none x (record { header = is.header; found = in_folder; declares = is.declares }) over

    virtual_choice : {receiver : Name} {choice : Choice} → Selects (headers_in P) receiver m Virtual choice
        → IsAtOrBelow (headers_in P) receiver m.class → choice ≡ chosen_method m
    virtual_choice (of_private is) under = itself_chosen
    virtual_choice {receiver = receiver} (of_virtual choice free chooses) under =
        by (subst (λ n. Chooses (headers_in P) (IsOrOverrides (headers_in P) m) choice_of n m.member.name m.member.desc choice)
        (start_is receiver (λ array. no_array_under P T program folder array under)) chooses) where
          itself_or : (x : Declared) → IsMet (headers_in P) (IsOrOverrides (headers_in P) m) x → IsOrOverrides (headers_in P) m x
              → choice_of x ≡ chosen_method m
          itself_or x met (inl e) = ap choice_of e ∙ itself_chosen
          itself_or x met (inr over) = absurd (no_other x met.declares over)

          by : {final : Choice} → Chooses (headers_in P) (IsOrOverrides (headers_in P) m) choice_of receiver m.member.name m.member.desc final
              → final ≡ chosen_method m
          by (first_upwards x up) = let met = met_upwards up x refl in itself_or x met met.counts
          by (by_default final up default) =
              let same : declares.header ≡ folder.header =
              same_class (headers_in P) m.class declares.header folder.header declares.found folder.found in
              absurd (never_passed up refl m.class folder.header folder.found folder.no_interface m.member
              (subst (λ (h : Header). declared m.member.name m.member.desc h.methods ≡ Some m.member) same declares.declares) (inl refl) under)

    -- a method that none overrides is chosen for each receiver at or below its class
    pub virtual_chosen : m.member.name ≢ init → (receiver : Name) → IsAtOrBelow (headers_in P) receiver m.class
        → P.links.select receiver (reference_to m) Virtual ≡ chosen (reference_to m)
    virtual_chosen other receiver under =
        select_is receiver m Virtual declares other (chosen_method m) (λ choice selects. virtual_choice selects under)

  -- ---- where a special call's selection starts

  pub special_start_is : (s : RowScope) → s.headers ≡ headers_in P → class_named (headers_in P) s.own.name ≡ Some s.own → (class start : Name)
      → StartsSpecial (headers_in P) s.own.name class start → special_start P.links s class ≡ start
  special_start_is s headers own class start (at_superclass header _ super is some) =
      let found : class_named s.headers class ≡ Some super.header = ap (λ hs. class_named hs class) headers ∙ super.found in
      let below : P.links.below s.own.name class ≡ true =
      (program.links.below s.own.name class).1 (class_is_subtype (headers_in P) sound program.hierarchy.no_array super.above) in
      let other : bytes_eq s.own.name class ≡ false = differ (bytes_eq s.own.name class) refl super.above in
      let same : s.own.super_name ≡ Some start =
      ap (λ (h : Header). h.super_name) (same_class (headers_in P) s.own.name s.own header own is) ∙ some in
      rw (found, super.no_interface, below, other, same) refl where
        differ : (b : Bool) → bytes_eq s.own.name class ≡ b → IsBelow (headers_in P) s.own.name class → bytes_eq s.own.name class ≡ false
        differ true e up =
            absurd (program.hierarchy.acyclic class (subst (λ n. IsBelow (headers_in P) n class) ((bytes_eq-Decides s.own.name class).0 e) up))
        differ false e up = e
  special_start_is s headers own class start (at_named none) = by (class_named s.headers class) refl where
    super : (header : Header) → class_named s.headers class ≡ Some header
        → (not (is_interface header) && (P.links.below s.own.name class && not (bytes_eq s.own.name class))) ≡ true
        → IsSuperclassNamed (headers_in P) s.own.name class
    super header found test =
        let kind = and_first _ _ test in
        let below : P.links.below s.own.name class ≡ true = and_first _ _ (and_second (not (is_interface header)) _ test) in
        let other : not (bytes_eq s.own.name class) ≡ true =
        and_second (P.links.below s.own.name class) _ (and_second (not (is_interface header)) _ test) in
        record {
          header = header;
          found = ap (λ hs. class_named hs class) (sym headers) ∙ found;
          no_interface = negated (is_interface header) kind;
          above = above_of other ((class_decides (headers_in P) sound program.hierarchy.no_array s.own.name class
              (there_is_no_array (headers_in P) sound program.hierarchy.no_array s.own.name (ap is_some own))).0
              ((program.links.below s.own.name class).0 below));
        } where
          negated : (b : Bool) → not b ≡ true → b ≡ false
          negated true e = absurd cc
          negated false e = refl

          above_of : not (bytes_eq s.own.name class) ≡ true → (s.own.name ≡ class) ⊎ IsBelow (headers_in P) s.own.name class
              → IsBelow (headers_in P) s.own.name class
          above_of other (inl e) = let same = (bytes_eq-Decides s.own.name class).1 e in let no : false ≡ true = rw same at other in absurd cc
          above_of other (inr up) = up

    of_test : (header : Header) → class_named s.headers class ≡ Some header → (b : Bool)
        → (not (is_interface header) && (P.links.below s.own.name class && not (bytes_eq s.own.name class))) ≡ b
        → special_start P.links s class ≡ class
    of_test header found true e = absurd (none (super header found e))
    of_test header found false e = rw (found, e) refl

    by : (found : Option Header) → class_named s.headers class ≡ found → special_start P.links s class ≡ class
    by None e = rw e refl
    by (Some header) e = of_test header e (not (is_interface header) && (P.links.below s.own.name class && not (bytes_eq s.own.name class))) refl
