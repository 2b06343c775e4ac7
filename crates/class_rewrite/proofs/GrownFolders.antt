-- The classes of a written folder have grown, where the descriptors of the field constructors that are added are free.
use Rattle.std.proofs.Common.{◌≡◌, ◌++◌, ℕ, List, [], ◌∷◌, codes, flat_map, slice_get, Some, None, refl, ap, ◌∙◌}
use Rattle.std.specs.List.{AllByRecursion}
use Rattle.class_model.specs.Header.{header_of, method_member}
use Rattle.class_model.specs.Names.{init}
use Rattle.class_model.specs.Pool.{Constants}
use Rattle.class_model.specs.PoolChecks.{utf8_at}
use Rattle.class_model.specs.declared.class_file.ClassFile.{ClassFile}
use Rattle.class_model.specs.declared.class_file.Method.{Method}
use Rattle.making_code.specs.Laws.AddedConstants.{Compares, grow_split}
use Rattle.making_code.specs.Laws.MeantConstants.{grown_text, text_later, text_read}
use Rattle.class_rewrite.specs.Laws.MadeConstructors.{made_is_added}
use Rattle.class_rewrite.specs.Laws.WrittenGrown.{AddedAreNew, class_has_grown, folder_has_grown}
use Rattle.class_rewrite.specs.Optimised.{with_folder}
use Rattle.class_rewrite.specs.Rewriting.Folders.{AddsMethods, IsClassWritten, IsFolderWritten, adds_none, adds_one}
use Rattle.class_rewrite.specs.Rewriting.Methods.{Rewriting}
use Rattle.class_tree.specs.Headers.{Classes, IsClassFile, headers_of}
use Rattle.class_tree.specs.Trees.{IsTree}
use Rattle.making_code.specs.Constants.{grow, needs_text}
use Rattle.making_code.specs.ConstructorCode.{IsConstructorMethod}
use Rattle.making_code.specs.FieldConstructor.{constructor_items, constructor_method_needs, item_needs as constructor_item_needs}
use Rattle.making_code.specs.Laws.GrownPools.{begins_through, grow_begins}
use Rattle.member_link.specs.DeclaredMembers.{declared}
use Rattle.member_link.specs.Machine.Programs.{RunMethod}
use Rattle.type_rules.specs.Grown.{AreGrownClasses, AreGrownHeaders, IsGrownClass, IsNewInitialiser}

module _ (compares : Compares)
    (have_headers : (old new : Classes) → AllByRecursion IsClassFile old.folder → AreGrownClasses old new
    → AreGrownHeaders (headers_of old) (headers_of new))
    (r : Rewriting) (files : List ClassFile) (w : IsFolderWritten r files) (tree : IsTree r.classes)
    (free : (class : ℕ) (file : ClassFile) (method : RunMethod) → slice_get r.classes.folder class ≡ Some file
    → w.s.added class ≡ method ∷ []
    → declared init (r.constructor (header_of file).name) (header_of file).methods ≡ None) where
  -- ---- initialisers that are added

  fresh_one : (class : ℕ) (file also : ClassFile) (method : Method) (pool : Constants) (grown : Constants)
      → declared init (r.constructor (header_of file).name) (header_of file).methods ≡ None
      → also.pool ≡ grown
      → grow 65535 pool (constructor_method_needs (headers_of r.classes) r.constructor (header_of file).name) ≡ Some grown
      → IsConstructorMethod (headers_of r.classes) r.constructor (header_of file).name grown method
      → IsNewInitialiser (header_of file) (method_member also.pool method)
  fresh_one class file also method pool grown undeclared same grows is =
      let code = codes "Code" in
      let desc = r.constructor (header_of file).name in
      let rest = flat_map (constructor_item_needs r.constructor) (constructor_items (headers_of r.classes) (header_of file).name) in
      let p1 = grow_split 65535 pool (needs_text init ++ needs_text desc ++ needs_text code) rest grown grows in
      let p2 = grow_split 65535 pool (needs_text init ++ needs_text desc) (needs_text code) p1.0 p1.1 in
      let p3 = grow_split 65535 pool (needs_text init) (needs_text desc) p2.0 p2.1 in
      let from_p1 = grow_begins 65535 rest p1.0 grown p1.2 in
      let from_p2 = begins_through p2.0 p1.0 grown (grow_begins 65535 (needs_text code) p2.0 p1.0 p2.2) from_p1 in
      let from_p3 = begins_through p3.0 p2.0 grown (grow_begins 65535 (needs_text desc) p3.0 p2.0 p3.2) from_p2 in
      let name_read = text_read compares grown init (text_later p3.0 grown init from_p3 (grown_text compares 65535 pool p3.0 init p3.1)) in
      let desc_read = text_read compares grown desc (text_later p2.0 grown desc from_p2 (grown_text compares 65535 p3.0 p2.0 desc p3.2)) in
      let name_is : utf8_at also.pool method.name ≡ Some init = ap (λ (p : Constants). utf8_at p method.name) same ∙ ap (utf8_at grown) is.name ∙ name_read in
      let desc_is : utf8_at also.pool method.desc ≡ Some desc = ap (λ (p : Constants). utf8_at p method.desc) same ∙ ap (utf8_at grown) is.desc ∙ desc_read in
      record {
        is_init = rw (name_is) refl;
        is_public = rw (is.flags) refl;
        no_protected = rw (is.flags) refl;
        undeclared = rw (desc_is) undeclared;
      }

  added_new : (class : ℕ) (file also : ClassFile) → slice_get r.classes.folder class ≡ Some file → AddedAreNew r w.written w.s class file also
  added_new class file also there is = by is.added is.adds (ap (λ (c : ClassFile). c.pool) is.is) where
    by : {pool last : Constants} (added : List Method) → AddsMethods r w.written file pool last added → also.pool ≡ last
        → AllByRecursion (λ (method : Method). IsNewInitialiser (header_of file) (method_member also.pool method)) added
    by _ (adds_none none) same = tt
    by {pool} {last} _ (adds_one {method = method} made grows is_method) same =
        let undeclared = free class file _ there (made_is_added r files w tree.in_order class file there made) in
        (fresh_one class file also method pool last undeclared same grows is_method, tt)

  -- ---- classes that have grown

  pub class_grown : (class : ℕ) (file also : ClassFile) → slice_get r.classes.folder class ≡ Some file → IsClassWritten r w.written w.s class file also
      → IsGrownClass file also
  class_grown class file also there is = class_has_grown r w.written w.s class file also (added_new class file also there) is

  all_grown : AreGrownClasses r.classes (with_folder r.classes files)
  all_grown = folder_has_grown r files w added_new

  pub headers_grown : AreGrownHeaders (headers_of r.classes) (headers_of (with_folder r.classes files))
  headers_grown = have_headers r.classes (with_folder r.classes files) tree.folder all_grown
