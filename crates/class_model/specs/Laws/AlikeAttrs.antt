-- Attributes that say the same, one of them kept as its bytes and the other in its parts: methods are asked the same of both.
use Rattle.std.proofs.Common.{◌≡◌, ◌+◌, ◌||◌, ℕ, List, [], ◌∷◌, ◌++◌, length, map, refl, sym, ap, ◌∙◌}
use Rattle.std.specs.List.{flat_map, list_any, AllByRecursion}
use Rattle.std.proofs.lemmas.List.{length-map}
use Rattle.std.proofs.lemmas.List.Folds.{list_any-append}
use Rattle.class_model.specs.Checks.{Check, Fault}
use Rattle.class_model.specs.ClassOf.{methods_checks, class_file_checks}
use Rattle.class_model.specs.Members.{Signature, attr_name, is_named, has_named, attrs_checks}
use Rattle.class_model.specs.Methods.{Home, code, code_content, content_checks, home_of, method_attr_checks, method_checks, method_signature}
use Rattle.class_model.specs.Pool.{Constants}
use Rattle.class_model.specs.Spelling.{u2, attr_bytes, attrs_bytes, method_bytes}
use Rattle.class_model.specs.declared.class_file.Attr.{Attr}
use Rattle.class_model.specs.declared.class_file.ClassFile.{ClassFile}
use Rattle.class_model.specs.declared.class_file.Method.{Method}

-- two attributes of one name, the same bytes and the same parts of a Code
pub record Alike (one other : Attr) : Type 0 where
  pub name : attr_name one ≡ attr_name other
  pub bytes : attr_bytes one ≡ attr_bytes other
  pub content : code_content one ≡ code_content other

module _ (f : Attr → Attr) where
  abbrev pub AllAlike : List Attr → Type 0
  AllAlike attrs = AllByRecursion (λ attr. Alike (f attr) attr) attrs

  -- a method, each of whose attributes is seen as another
  abbrev pub seen_method : Method → Method
  seen_method method = record method { attrs = map f method.attrs }

  abbrev pub MethodAlike : Method → Type 0
  MethodAlike method = AllAlike method.attrs

  -- ---- names and bytes

  same_named :
      (pool : Constants) (name : List ℕ) (attrs : List Attr)
      → AllAlike attrs
      → has_named pool name (map f attrs) ≡ has_named pool name attrs
  same_named pool name [] alike = refl
  same_named pool name (attr ∷ attrs) alike = rw (alike.0.name, same_named pool name attrs alike.1) refl

  same_attrs :
      (attrs : List Attr)
      → AllAlike attrs
      → flat_map attr_bytes (map f attrs) ≡ flat_map attr_bytes attrs
  same_attrs [] alike = refl
  same_attrs (attr ∷ attrs) alike = rw (alike.0.bytes, same_attrs attrs alike.1) refl

  pub same_method :
      (method : Method)
      → MethodAlike method
      → method_bytes (seen_method method) ≡ method_bytes method
  same_method method alike = rw (length-map method.attrs f, same_attrs method.attrs alike) refl

  pub same_methods :
      (methods : List Method)
      → AllByRecursion MethodAlike methods
      → flat_map method_bytes (map seen_method methods) ≡ flat_map method_bytes methods
  same_methods [] alike = refl
  same_methods (method ∷ methods) alike =
      ap (λ (bytes : List ℕ). bytes ++ flat_map method_bytes (map seen_method methods)) (same_method method alike.0)
      ∙ ap (λ (bytes : List ℕ). method_bytes method ++ bytes) (same_methods methods alike.1)

  -- ---- checks

  attr_alike :
      (home : Home) (method : Method) (before others : List Attr) (at : ℕ) (attr : Attr)
      → has_named home.pool code others ≡ has_named home.pool code before
      → Alike (f attr) attr
      → method_attr_checks home (seen_method method) others at (f attr) ≡ method_attr_checks home method before at attr
  attr_alike home method before others at attr same alike = rw (alike.name, alike.content, same) refl

  named_behind :
      (pool : Constants) (before others : List Attr) (attr : Attr)
      → has_named pool code others ≡ has_named pool code before
      → Alike (f attr) attr
      → has_named pool code (others ++ f attr ∷ []) ≡ has_named pool code (before ++ attr ∷ [])
  named_behind pool before others attr same alike =
      list_any-append (is_named pool code) others (f attr ∷ []) ∙ rw (same, alike.name) (sym (list_any-append (is_named pool code) before (attr ∷ [])))

  attrs_alike :
      (home : Home) (method : Method) (before others : List Attr) (at : ℕ) (attrs : List Attr)
      → has_named home.pool code others ≡ has_named home.pool code before
      → AllAlike attrs
      → attrs_checks (method_attr_checks home (seen_method method)) others at (map f attrs) ≡ attrs_checks (method_attr_checks home method) before at attrs
  attrs_alike home method before others at [] same alike = refl
  attrs_alike home method before others at (attr ∷ attrs) same alike =
      let asks = method_attr_checks home (seen_method method) in
      let rest = attrs_alike home method (before ++ attr ∷ []) (others ++ f attr ∷ []) (at + length (attr_bytes attr)) attrs (named_behind home.pool before others attr same alike.0) alike.1 in
      ap (λ (first : List (Check Fault)). first ++ attrs_checks asks (others ++ f attr ∷ []) (at + length (attr_bytes (f attr))) (map f attrs)) (attr_alike home method before others at attr same alike.0)
      ∙ ap (λ (behind : List (Check Fault)). method_attr_checks home method before at attr ++ behind) (ap (λ (bytes : List ℕ). attrs_checks asks (others ++ f attr ∷ []) (at + length bytes) (map f attrs)) alike.0.bytes ∙ rest)

  method_alike :
      (home : Home) (before : List Signature) (at : ℕ) (method : Method)
      → MethodAlike method
      → method_checks home before at (seen_method method) ≡ method_checks home before at method
  method_alike home before at method alike =
      rw (same_named home.pool code method.attrs alike, attrs_alike home method [] [] (at + 8) method.attrs refl alike) refl

  pub methods_alike :
      (home : Home) (before : List Signature) (at : ℕ) (methods : List Method)
      → AllByRecursion MethodAlike methods
      → methods_checks home before at (map seen_method methods)
      ≡ methods_checks home before at methods
  methods_alike home before at [] alike = refl
  methods_alike home before at (method ∷ methods) alike =
      let before_next = before ++ method_signature method ∷ [] in
      let rest = methods_alike home before_next (at + length (method_bytes method)) methods alike.1 in
      ap (λ (first : List (Check Fault)). first ++ methods_checks home before_next (at + length (method_bytes (seen_method method))) (map seen_method methods)) (method_alike home before at method alike.0)
      ∙ ap (λ (behind : List (Check Fault)). method_checks home before at method ++ behind) (ap (λ (bytes : List ℕ). methods_checks home before_next (at + length bytes) (map seen_method methods)) (same_method method alike.0) ∙ rest)

  -- the whole class file
  pub class_alike :
      (c : ClassFile)
      → AllByRecursion MethodAlike c.methods
      → class_file_checks (record c { methods = map seen_method c.methods }) ≡ class_file_checks c
  class_alike c alike = rw (same_methods c.methods alike, methods_alike (home_of c) [] _ c.methods alike) refl
