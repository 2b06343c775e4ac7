use Rattle.std.specs.Prelude.{◌≡◌, ◌&&◌, ◌||◌, ◌+◌, not, refl, ℕ, suc, ℤ, nat_lt, Bool, true, false, List, [], ◌∷◌, ◌++◌, map, length, bytes_eq, codes, slice_get, Option, Some, None, IsSome, IsTrue, IfSome, option_map, if◌then◌else◌}
use Rattle.std.specs.List.{AllByRecursion, list_any}
use Rattle.std.proofs.Common.{arith, ap, sym, ◌∙◌, subst}
use Rattle.std.proofs.lemmas.Option.{slice_get-map}
use Rattle.std.proofs.lemmas.Slice.Eq.{bytes_eq-Decides}
use Rattle.class_model.specs.Checks.{AllHold}
use Rattle.class_model.specs.ClassOf.{fields_checks, methods_checks, entered, entered_method}
use Rattle.class_model.specs.Descriptors.{type_of}
use Rattle.class_model.specs.Header.{field_member, method_member}
use Rattle.class_model.specs.Laws.Checks.{first_holds, others_hold}
use Rattle.class_model.specs.Laws.ClassFiles.{PartsHold, parts_hold}
use Rattle.class_model.specs.Members.{Signature, has, STATIC, NATIVE, INTERFACE, ABSTRACT, one_visibility, constant_value, IsConstantOf, is_text, is_named, has_named, raw_content, attrs_checks, field_attr_checks, field_signature, field_checks}
use Rattle.class_model.specs.Methods.{Home, home_of, fits_method, method_signature, method_checks, code}
use Rattle.class_model.specs.Names.{clinit, init}
use Rattle.class_model.specs.Pool.{Constants, constant_at}
use Rattle.class_model.specs.PoolChecks.{utf8_at, text_or_empty}
use Rattle.class_model.specs.Instructions.{u2_in}
use Rattle.class_model.specs.Spelling.{field_bytes, method_bytes, attr_bytes}
use Rattle.class_model.specs.declared.class_file.Attr.{Attr}
use Rattle.class_model.specs.declared.class_file.ClassFile.{ClassFile}
use Rattle.class_model.specs.declared.class_file.Field.{Field}
use Rattle.class_model.specs.declared.class_file.Method.{Method}
use Rattle.class_model.specs.declared.header.Member.{Member}
use Rattle.class_model.specs.declared.pool.Const.{Const}
use Rattle.class_model.specs.declared.pool.Const.TheVariants as consts
use Rattle.class_tree.specs.Headers.{Classes, Headers, headers_of, IsClassFile}
use Rattle.class_tree.specs.Trees.{IsTree}
use Rattle.class_model.specs.Laws.Lists.{at_index}
use Rattle.machine_values.specs.declared.value.Value.TheVariants as values
use Rattle.member_link.specs.Machine.Classes.{constant_of, start_of, starts_from, program_of, run_method_of, run_class_of}
use Rattle.member_link.specs.Machine.Programs.{Program, RunClass, RunMethod, Links, StartValue, start_value, start_string, StaticStart}
use Rattle.member_link.specs.Machine.Worlds.{field_desc}
use Rattle.typed_programs.proofs.Folders.{some_of, class_at}
use Rattle.typed_runs.specs.TypedPrograms.{FitsFlags, FitsStart, IsTypedStart, IsTypedClass}

-- ---- flags of methods

pub of_fits : (v c i a b x : Bool) → ((v && (if c then a else b)) && (not i || x)) ≡ true → (c ≡ true → a ≡ true) × (i ≡ true → x ≡ true)
of_fits true true true true b true is = (λ e. refl, λ e. refl)
of_fits true true false true b x is = (λ e. refl, λ e. cc)
of_fits true false true a true true is = (λ e. cc, λ e. refl)
of_fits true false false a true x is = (λ e. cc, λ e. cc)
of_fits v c i a b x is = cc

pub first_of_four : (a b c d : Bool) → (((not a && b) && c) && d) ≡ true → a ≡ false
first_of_four false b c d is = refl
first_of_four true b c d is = cc

pub first_of_two : (a b : Bool) → (a && b) ≡ true → a ≡ true
first_of_two true b is = refl
first_of_two false b is = cc

-- a text that is not empty is there
pub text_there : (o : Option (List ℕ)) (first : ℕ) (rest : List ℕ) → text_or_empty o ≡ first ∷ rest → is_text (first ∷ rest) o ≡ true
text_there None first rest is = cc
text_there (Some t) first rest is = (bytes_eq-Decides (first ∷ rest) t).1 (sym is)

pub fits_flags : (home : Home) (m : Method) → IsTrue (fits_method home m) → FitsFlags (method_member home.pool m)
fits_flags home m fits =
    let both = of_fits (one_visibility m.flags) (is_text clinit (utf8_at home.pool m.name)) (is_text init (utf8_at home.pool m.name))
    (has m.flags STATIC && is_text (codes "()V") (utf8_at home.pool m.desc))
    (not (nat_lt home.major 52 && has home.flags INTERFACE && has_named home.pool code m.attrs) && not
    (has m.flags STATIC && has m.flags ABSTRACT))
    (not (has m.flags STATIC) && not (has m.flags ABSTRACT) && not (has m.flags NATIVE) && not (has home.flags INTERFACE)) fits in
    record {
      of_init = λ e. first_of_four (has m.flags STATIC) (not (has m.flags ABSTRACT)) (not (has m.flags NATIVE))
          (not (has home.flags INTERFACE)) (both.1 (text_there (utf8_at home.pool m.name) _ _ e));
      of_clinit = λ e. first_of_two (has m.flags STATIC) (is_text (codes "()V") (utf8_at home.pool m.desc))
          (both.0 (text_there (utf8_at home.pool m.name) _ _ e));
    }

pub all_fit : (home : Home) (before : List Signature) (at : ℕ) (methods : List Method) → AllHold (methods_checks home before at methods)
    → AllByRecursion FitsFlags (map (method_member home.pool) (map (entered_method home.pool) methods))
all_fit home before at [] all = tt
all_fit home before at (m ∷ methods) all =
    let one = first_holds (method_checks home before at m) (methods_checks home (before ++ method_signature m ∷ [])
    (at + length (method_bytes m)) methods) all in
    let others = others_hold (method_checks home before at m) (methods_checks home (before ++ method_signature m ∷ [])
    (at + length (method_bytes m)) methods) all in
    let fits = fits_flags home m one.0 in (
      record { of_init = fits.of_init; of_clinit = fits.of_clinit },
      all_fit home (before ++ method_signature m ∷ [])
          (at + length (method_bytes m)) methods others,
    )

-- ---- fields

pub static_field : (v i s : Bool) → (v && (not i || s)) ≡ true → i ≡ true → s ≡ true
static_field true true true is e = refl
static_field v i s is e = cc

pub all_static : (pool : Constants) (flags : ℕ) (before : List Signature) (at : ℕ) (fields : List Field)
    → AllHold (fields_checks pool flags before at fields) → has flags INTERFACE ≡ true
    → AllByRecursion (λ (field : Member). IsTrue (has field.flags STATIC)) (map (field_member pool) fields)
all_static pool flags before at [] all is = tt
all_static pool flags before at (f ∷ fields) all is =
    let one = first_holds (field_checks pool flags before at f) (fields_checks pool flags (before ++ field_signature f ∷ [])
    (at + length (field_bytes f)) fields) all in
    let others = others_hold (field_checks pool flags before at f)
    (fields_checks pool flags (before ++ field_signature f ∷ []) (at + length (field_bytes f)) fields) all in (
      static_field (one_visibility f.flags) (has flags INTERFACE) (has f.flags STATIC) one.0 is,
      all_static pool flags
          (before ++ field_signature f ∷ []) (at + length (field_bytes f)) fields others is,
    )

-- ---- what static fields begin with (4.7.2)

pub constant_fits : (pool : Constants) (f : Field) (before : List Attr) (at : ℕ) (attrs : List Attr)
    → AllHold (attrs_checks (field_attr_checks pool f) before at attrs) → has f.flags STATIC ≡ true
    → (c : Const) → constant_of pool attrs ≡ Some c → IfSome (utf8_at pool f.desc) (λ text. IsConstantOf text (Some c))
constant_fits pool f before at [] all static c is = cc
constant_fits pool f before at (attr ∷ attrs) all static c is =
    by (is_named pool constant_value attr) refl
    (constant_fits pool f (before ++ attr ∷ []) (at + length (attr_bytes attr)) attrs
    (others_hold (field_attr_checks pool f before at attr) (attrs_checks (field_attr_checks pool f) (before ++ attr ∷ [])
    (at + length (attr_bytes attr)) attrs) all) static c) where
      by : (b : Bool) → is_named pool constant_value attr ≡ b → (constant_of pool attrs ≡ Some c
          → IfSome (utf8_at pool f.desc) (λ text. IsConstantOf text (Some c)))
          → IfSome (utf8_at pool f.desc) (λ text. IsConstantOf text (Some c))
      by true e next =
          let one = first_holds (field_attr_checks pool f before at attr)
          (attrs_checks (field_attr_checks pool f) (before ++ attr ∷ []) (at + length (attr_bytes attr)) attrs) all in
          let held = rw static at (rw e at one.1) in
          let there : constant_at pool (u2_in (raw_content attr) 0) ≡ Some c = rw e at is in
          subst (λ k. IfSome (utf8_at pool f.desc) (λ text. IsConstantOf text k)) there held.1.0.constant
      by false e next = next (rw e at is)

pub int_start : (text : List ℕ) (n : ℤ) → list_any (bytes_eq text) (codes "I" ∷ codes "S" ∷ codes "C" ∷ codes "B" ∷ codes "Z" ∷ []) ≡ true
    → FitsStart (type_of text) (start_value (values.Int n))
int_start text n is =
    by (bytes_eq text (codes "I")) refl (bytes_eq text (codes "S")) refl (bytes_eq text (codes "C")) refl (bytes_eq text (codes "B")) refl
    (bytes_eq text (codes "Z")) refl where
      fits : (one : List ℕ) → bytes_eq text one ≡ true → FitsStart (type_of one) (start_value (values.Int n))
          → FitsStart (type_of text) (start_value (values.Int n))
      fits one e is = subst (λ t. FitsStart (type_of t) (start_value (values.Int n))) (sym ((bytes_eq-Decides text one).0 e)) is

      by : (a : Bool) → bytes_eq text (codes "I") ≡ a → (b : Bool) → bytes_eq text (codes "S") ≡ b → (c : Bool)
          → bytes_eq text (codes "C") ≡ c → (d : Bool) → bytes_eq text (codes "B") ≡ d → (e : Bool) → bytes_eq text (codes "Z") ≡ e
          → FitsStart (type_of text) (start_value (values.Int n))
      by true p b q c r d s e t = fits (codes "I") p (refl, refl)
      by false p true q c r d s e t = fits (codes "S") q (refl, refl)
      by false p false q true r d s e t = fits (codes "C") r (refl, refl)
      by false p false q false r true s e t = fits (codes "B") s (refl, refl)
      by false p false q false r false s true t = fits (codes "Z") t (refl, refl)
      by false p false q false r false s false t = let no : false ≡ true = rw t at (rw s at (rw r at (rw q at (rw p at is)))) in cc

pub start_fits : (pool : Constants) (desc : Option (List ℕ)) (c : Const) (v : StartValue) → IsSome desc
    → IfSome desc (λ text. IsConstantOf text (Some c)) → start_of pool (Some c) ≡ Some v → FitsStart (type_of (text_or_empty desc)) v
start_fits pool None c v there fits is = cc
start_fits pool (Some text) (consts.Integer n) v there fits is = subst (FitsStart (type_of text)) (some_of is) (int_start text n fits)
start_fits pool (Some text) (consts.Long n) v there fits is = subst (FitsStart (type_of text)) (some_of is)
    (subst (λ t. FitsStart (type_of t) (start_value (values.Long n))) (sym fits) (refl, refl))
start_fits pool (Some text) (consts.Float n) v there fits is = subst (FitsStart (type_of text)) (some_of is)
    (subst (λ t. FitsStart (type_of t) (start_value (values.Float n))) (sym fits) (refl, refl))
start_fits pool (Some text) (consts.Double n) v there fits is = subst (FitsStart (type_of text)) (some_of is)
    (subst (λ t. FitsStart (type_of t) (start_value (values.Double n))) (sym fits) (refl, refl))
start_fits pool (Some text) (consts.String index) v there fits is = by (utf8_at pool index) is where
  by : (o : Option (List ℕ)) → option_map start_string o ≡ Some v → FitsStart (type_of text) v
  by None e = cc
  by (Some x) e = subst (FitsStart (type_of text)) (some_of e) (subst (λ t. FitsStart (type_of t) (start_string x)) (sym fits) refl)
start_fits pool (Some text) c v there fits is = absurd fits

abbrev pub start_list : ℕ → Option StartValue → List StaticStart
start_list n None = []
start_list n (Some v) = record { field = n; value = v } ∷ []

module _ (P : Program) (number : ℕ) (pool : Constants) (flags : ℕ) where
  pub one_start : (f : Field) (n : ℕ) → field_desc P number n ≡ text_or_empty (utf8_at pool f.desc) → (before : List Signature) (at : ℕ)
      → AllHold (field_checks pool flags before at f)
      → (v : StartValue) → (if has f.flags STATIC then start_of pool (constant_of pool f.attrs) else None) ≡ Some v
      → FitsStart (type_of (field_desc P number n)) v
  one_start f n same before at checks v is = rw same (by (has f.flags STATIC) refl (constant_of pool f.attrs) refl) where
    by : (b : Bool) → has f.flags STATIC ≡ b → (c : Option Const) → constant_of pool f.attrs ≡ c
        → FitsStart (type_of (text_or_empty (utf8_at pool f.desc))) v
    by false e c d = let no : None ≡ Some v = rw e at is in cc
    by true e None d = let no : None ≡ Some v = rw d at (rw e at is) in cc
    by true e (Some c) d = start_fits pool (utf8_at pool f.desc) c v checks.1.1.1.1.0
        (constant_fits pool f [] (at + 8) f.attrs checks.1.1.1.1.1.1 e c d) (rw d at (rw e at is))

  pub all_starts : (n : ℕ) (before : List Signature) (at : ℕ) (fields : List Field) → AllHold (fields_checks pool flags before at fields)
      → ((i : ℕ) (f : Field) → slice_get fields i ≡ Some f → field_desc P number (n + i) ≡ text_or_empty (utf8_at pool f.desc))
      → AllByRecursion (IsTypedStart P number) (starts_from pool n fields)
  all_starts n before at [] all descs = tt
  all_starts n before at (f ∷ fields) all descs =
      let one = first_holds (field_checks pool flags before at f) (fields_checks pool flags (before ++ field_signature f ∷ [])
      (at + length (field_bytes f)) fields) all in
      let others = others_hold (field_checks pool flags before at f)
      (fields_checks pool flags (before ++ field_signature f ∷ []) (at + length (field_bytes f)) fields) all in
      let here : field_desc P number n ≡ text_or_empty (utf8_at pool f.desc) = ap (field_desc P number) {x = n} {y = n + 0} (omega arith)
      ∙ descs 0 f refl in
      let rest = all_starts (suc n) (before ++ field_signature f ∷ []) (at + length (field_bytes f)) fields others
      (λ i g there. ap (field_desc P number) {x = suc n + i} {y = n + suc i} (omega arith) ∙ descs (suc i) g there) in
      by (if has f.flags STATIC then start_of pool (constant_of pool f.attrs) else None) (one_start f n here before at one) rest where
        by : (o : Option StartValue) → ((v : StartValue) → o ≡ Some v → FitsStart (type_of (field_desc P number n)) v)
            → AllByRecursion (IsTypedStart P number) (starts_from pool (suc n) fields)
            → AllByRecursion (IsTypedStart P number) (start_list n o ++ starts_from pool (suc n) fields)
        by None fits rest = rest
        by (Some v) fits rest = (fits v refl, rest)

-- ---- a class

pub members_are : (links : Links) (headers : Headers) (file : ClassFile) (methods : List Method)
    → map (λ (m : RunMethod). m.member) (map (run_method_of links headers file) methods) ≡ map (method_member file.pool) methods
members_are links headers file [] = refl
members_are links headers file (m ∷ methods) = ap (λ (rest : List Member). method_member file.pool m ∷ rest)
    (members_are links headers file methods)

module _ (classes : Classes) (links : Links) (tree : IsTree classes) where
  pub file_typed : (number : ℕ) (file : ClassFile) → IsClassFile file
      → slice_get (program_of classes links).classes number ≡ Some (run_class_of links (headers_of classes) file)
      → IsTypedClass (program_of classes links) number (run_class_of links (headers_of classes) file)
  file_typed number file read at =
      subst (λ (f : ClassFile). IsTypedClass (program_of classes links) number (run_class_of links (headers_of classes) f)) (sym read.is)
      (record {
        methods = members_are links (headers_of classes) c (entered read.cut).methods;
        flags = all_fit (home_of read.cut) [] _ read.cut.methods parts.methods;
        of_interface = λ kind. all_static c.pool c.flags [] _ c.fields parts.fields kind;
        starts = all_starts (program_of classes links) number c.pool c.flags 0 [] _ c.fields parts.fields descs;
      }) where
        c : ClassFile
        c = entered read.cut

        parts : PartsHold read.cut
        parts = parts_hold read.cut read.holds

        here : slice_get (program_of classes links).classes number ≡ Some (run_class_of links (headers_of classes) c)
        here = subst (λ (f : ClassFile). slice_get (program_of classes links).classes number ≡ Some (run_class_of links (headers_of classes) f)) read.is at

        descs : (i : ℕ) (f : Field) → slice_get c.fields i ≡ Some f → field_desc (program_of classes links) number (0 + i) ≡ text_or_empty (utf8_at c.pool f.desc)
        descs i f there = ap (field_desc (program_of classes links) number) {x = 0 + i} {y = i} (omega arith)
            ∙ (rw here (rw (slice_get-map (field_member c.pool) c.fields i) (rw there refl)))

  pub class_typed : (number : ℕ) (class : RunClass) → slice_get (program_of classes links).classes number ≡ Some class → IsTypedClass (program_of classes links) number class
  class_typed number class at =
      let f = class_at classes links number class at in
      subst (IsTypedClass (program_of classes links) number) f.2
      (file_typed number f.0 (at_index IsClassFile classes.folder number f.0 tree.folder f.1) (at ∙ ap Some (sym f.2)))
