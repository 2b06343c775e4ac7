use Rattle.std.specs.Prelude.{◌≡◌, refl, ℕ, zero, suc, Bool, true, false, List, [], ◌∷◌, ◌++◌, map, slice_get, bytes_eq, Option, Some, None, is_some, option_map, if◌then◌else◌}
use Rattle.std.proofs.Common.{ap, sym, ◌∙◌, subst}
use Rattle.std.proofs.lemmas.Slice.Eq.{bytes_eq-Decides}
use Rattle.class_model.specs.Members.{has, STATIC}
use Rattle.class_model.specs.declared.header.Header.{Header}
use Rattle.class_model.specs.declared.header.Member.{Member}
use Rattle.class_tree.specs.Headers.{Name, Headers, class_named, named, IsThere}
use Rattle.class_tree.specs.Hierarchy.{IsHierarchy}
use Rattle.class_tree.specs.Names.{is_member}
use Rattle.class_tree.specs.Subtype.{IsSubtype}
use Rattle.member_link.specs.DeclaredMembers.{Declared, declared}
use Rattle.member_link.specs.Fields.{FindsFirst, FindsField, in_no_class, in_class, above_class, in_other_class, absent_class}
use Rattle.member_link.specs.FoundAbove.{IsFieldAbove}
use Rattle.member_link.specs.Machine.FieldSteps.{static_number}
use Rattle.member_link.specs.Machine.Links.{reference_to}
use Rattle.member_link.specs.Machine.Programs.{Program, RunClass, headers_in, folder_number, number_of_first, member_of, first_member, field_of, has_flag}
use Rattle.member_link.specs.Machine.Worlds.{field_desc}
use Rattle.member_link.specs.References.{Reference}
use Rattle.typed_runs.proofs.Basics.{and_first, and_second, some_of}
use Rattle.typed_runs.specs.TypedPoints.{HasField}
use Rattle.typed_runs.specs.TypedPrograms.{Typings, IsTypedProgram}

-- what look-up finds: one field, declared at or above the named class
pub record FieldLaws : Type 0 where
  pub one : (headers : Headers) (class : Name) (name desc : List ℕ) (one other : Option Declared)
      → FindsField headers class name desc one → FindsField headers class name desc other → one ≡ other
  pub above : (headers : Headers) (class : Name) (name desc : List ℕ) (field : Declared)
      → IsHierarchy headers → FindsField headers class name desc (Some field) → IsFieldAbove headers class name desc field

-- ---- members of a class

pub declared_is : (name desc : List ℕ) (ms : List Member) (m : Member) → declared name desc ms ≡ Some m → (m.name ≡ name) × (m.desc ≡ desc)
declared_is name desc [] m is = cc
declared_is name desc (first ∷ ms) m is = by (is_member name desc first) refl (λ e. declared_is name desc ms m e) where
  by : (b : Bool) → is_member name desc first ≡ b → (declared name desc ms ≡ Some m → (m.name ≡ name) × (m.desc ≡ desc))
      → (m.name ≡ name) × (m.desc ≡ desc)
  by true e others =
      let same : first ≡ m = some_of (rw e at is) in
      subst (λ (x : Member). (x.name ≡ name) × (x.desc ≡ desc)) same (
        sym ((bytes_eq-Decides name first.name).0 (and_first (bytes_eq name first.name) (bytes_eq desc first.desc) e)),
        sym ((bytes_eq-Decides desc first.desc).0 (and_second (bytes_eq name first.name) (bytes_eq desc first.desc) e)),
      )
  by false e others = others (rw e at is)

pub first_declared : (r : Reference) (ms : List Member) → first_member r ms ≡ declared r.name r.desc ms
first_declared r [] = refl
first_declared r (m ∷ ms) = ap (λ (o : Option Member). if is_member r.name r.desc m then Some m else o) (first_declared r ms)

pub declared_number : (r : Reference) (ms : List Member) (m : Member) → declared r.name r.desc ms ≡ Some m
    → (n : ℕ) × (number_of_first (member_of r) ms ≡ Some n) × (slice_get ms n ≡ Some m)
declared_number r [] m is = cc
declared_number r (first ∷ ms) m is = by (is_member r.name r.desc first) refl (λ e. declared_number r ms m e) where
  by : (b : Bool) → is_member r.name r.desc first ≡ b
      → (declared r.name r.desc ms ≡ Some m → (n : ℕ) × (number_of_first (member_of r) ms ≡ Some n) × (slice_get ms n ≡ Some m))
      → (n : ℕ) × (number_of_first (member_of r) (first ∷ ms) ≡ Some n) × (slice_get (first ∷ ms) n ≡ Some m)
  by true e others = (zero, rw e refl, rw e at is)
  by false e others = let o = others (rw e at is) in (suc o.0, rw e (rw o.1 refl), o.2)

-- ---- classes of the folder

-- the class of a name is that of the folder with a number
pub record FolderClass (P : Program) (name : Name) (number : ℕ) (header : Header) : Type 0 where
  pub class : RunClass
  pub is_class : slice_get P.classes number ≡ Some class
  pub header_is : class.header ≡ header
  pub in_folder : named name (headers_in P).folder ≡ Some header

abbrev number_in : Name → List RunClass → Option ℕ
number_in name cs = number_of_first (λ (class : RunClass). bytes_eq name class.header.name) cs

abbrev headers_of_classes : List RunClass → List Header
headers_of_classes cs = map (λ (class : RunClass). class.header) cs

-- the same of a list of classes with headers behind them
abbrev StandsIn : Name → List RunClass → ℕ → Header → Type 0
StandsIn name cs n header =
    (class : RunClass) × (slice_get cs n ≡ Some class) × (class.header ≡ header) × (named name (headers_of_classes cs) ≡ Some header)

stands_in : (name : Name) (cs : List RunClass) (library : List Header) (n : ℕ) (header : Header)
    → number_in name cs ≡ Some n → named name (headers_of_classes cs ++ library) ≡ Some header → StandsIn name cs n header
stands_in name [] library n header number is = cc
stands_in name (c ∷ cs) library n header number is =
    by (bytes_eq name c.header.name) refl (λ k same found. stands_in name cs library k header same found) where
      by_rest : (m : Option ℕ) → bytes_eq name c.header.name ≡ false → number_in name cs ≡ m → option_map suc m ≡ Some n
          → ((k : ℕ) → number_in name cs ≡ Some k → StandsIn name cs k header) → StandsIn name (c ∷ cs) n header
      by_rest None other e same rest = cc
      by_rest (Some k) other e same rest =
          let o = rest k e in
          subst (λ j. StandsIn name (c ∷ cs) j header) (some_of same) (o.0, o.1, o.2, rw other o.3)

      by : (b : Bool) → bytes_eq name c.header.name ≡ b
          → ((k : ℕ) → number_in name cs ≡ Some k → named name (headers_of_classes cs ++ library) ≡ Some header → StandsIn name cs k header)
          → StandsIn name (c ∷ cs) n header
      by true e rest =
          let first : zero ≡ n = some_of (rw e at number) in
          let same : c.header ≡ header = some_of (rw e at is) in
          subst (λ j. StandsIn name (c ∷ cs) j header) first (c, refl, same, rw e (ap Some same))
      by false e rest = by_rest (number_in name cs) e refl (rw e at number) (λ k same. rest k same (rw e at is))

pub folder_class : (P : Program) (name : Name) (n : ℕ) (header : Header) → folder_number P name ≡ Some n
    → class_named (headers_in P) name ≡ Some header → FolderClass P name n header
folder_class P name n header number is =
    let f = stands_in name P.classes P.library n header number is in
    record { class = f.0; is_class = f.1; header_is = f.2; in_folder = f.3 }

-- ---- a field that an instruction names

-- the link of the reference, and what is declared there
pub record FieldLinked (P : Program) (r : Reference) (is_static : Bool) : Type 0 where
  pub field : Reference
  pub link : P.links.field r ≡ Some field
  pub same_desc : field.desc ≡ r.desc
  pub header : Header
  pub found : class_named (headers_in P) field.class ≡ Some header
  pub member : Member
  pub declares : declared field.name field.desc header.fields ≡ Some member
  pub static : has member.flags STATIC ≡ is_static
  pub above : IsSubtype (headers_in P) r.class field.class
  pub named_there : IsThere (headers_in P) r.class

nothing_found : (hs : Headers) (name desc : List ℕ) (o : Option Declared) → FindsFirst hs name desc [] o → o ≡ None
nothing_found hs name desc _ in_no_class = refl

-- a field is found through a class that is there
finds_there : (hs : Headers) (class : Name) (name desc : List ℕ) (field : Declared) → FindsField hs class name desc (Some field) → IsThere hs class
finds_there hs class name desc field (in_class _ _ header member is declares) = ap is_some is
finds_there hs class name desc field (above_class _ _ header _ is none finds) = ap is_some is
finds_there hs class name desc field (in_other_class _ _ header _ is none finds others) = ap is_some is
finds_there hs class name desc field (absent_class _ _ _ is others) = absurd (none_some (nothing_found hs name desc (Some field) others)) where
  none_some : Some field ≡ None → ⊥
  none_some e = cc

pub field_linked : (P : Program) (T : Typings) → IsTypedProgram P T → FieldLaws → (r : Reference) (is_static : Bool)
    → HasField (headers_in P) (λ (d : Declared). has d.member.flags STATIC ≡ is_static) r → FieldLinked P r is_static
field_linked P T program laws r is_static f =
    let l = program.links.field r in
    let one : l.found ≡ Some f.field = laws.one (headers_in P) r.class r.name r.desc l.found (Some f.field) l.finds f.finds in
    let a = laws.above (headers_in P) r.class r.name r.desc f.field program.hierarchy f.finds in
    let d = declared_is r.name r.desc a.header.fields f.field.member a.declares in
    record {
      field = reference_to f.field;
      link = l.same ∙ ap (option_map reference_to) one;
      same_desc = d.1;
      header = a.header;
      found = a.found;
      member = f.field.member;
      declares =
          ap (λ (x : List ℕ). declared x f.field.member.desc a.header.fields) d.0 ∙ ap (λ (x : List ℕ). declared r.name x a.header.fields) d.1 ∙ a.declares;
      static = f.form;
      above = a.above;
      named_there = finds_there (headers_in P) r.class r.name r.desc f.field f.finds;
    }

module _ {P : Program} {r : Reference} {is_static : Bool} (l : FieldLinked P r is_static) where
  pub member_is : field_of P l.field ≡ Some l.member
  member_is = rw l.found (first_declared l.field l.header.fields ∙ l.declares)

  pub flag_is : has_flag (field_of P l.field) STATIC ≡ is_static
  flag_is = ap (λ (o : Option Member). has_flag o STATIC) member_is ∙ l.static

  -- its number among the fields of its class, where that is of the folder
  pub number_is : (class : ℕ) → folder_number P l.field.class ≡ Some class
      → (n : ℕ) × (static_number P class l.field ≡ Some n) × (field_desc P class n ≡ r.desc)
  number_is class is =
      let c = folder_class P l.field.class class l.header is l.found in
      let n = declared_number l.field l.header.fields l.member l.declares in
      let at : slice_get c.class.header.fields n.0 ≡ Some l.member = ap (λ (h : Header). slice_get h.fields n.0) c.header_is ∙ n.2 in
      let desc : field_desc P class n.0 ≡ l.member.desc = rw c.is_class (rw at refl) in (
        n.0,
        rw c.is_class (ap (λ (h : Header). number_of_first (member_of l.field) h.fields) c.header_is ∙ n.1),
        desc ∙ (declared_is l.field.name l.field.desc l.header.fields l.member l.declares).1 ∙ l.same_desc,
      )
