use Rattle.std.proofs.Common.{◌≡◌, ◌<◌, ◌≤◌, ◌++◌, ℕ, true, false, List, is_some, length, not, slice_get, Option, Some, None, option_map, refl, sym, ap, subst, ◌∙◌, arith}
use Rattle.std.proofs.lemmas.Bool.{false≢true}
use Rattle.std.proofs.lemmas.Option.{none-some, same_Some, slice_get-map, slice_get_read}
use Rattle.std.specs.Option.{option_copied}
use Rattle.class_model.specs.Header.{header_of}
use Rattle.class_model.specs.declared.class_file.ClassFile.{ClassFile}
use Rattle.class_model.specs.declared.header.Header.{Header}
use Rattle.class_tree.specs.Headers.{Classes, headers_of, named}
use Rattle.class_tree.specs.Hierarchy.{IsHierarchy}
use Rattle.class_tree.specs.Names.{object}
use Rattle.inline_expand.proofs.FolderNames.{folder_name, object_outside}
use Rattle.inline_expand.proofs.JudgedClasses.{all_fields, header_named, not_fit, not_free, not_narrow, number_within, sound_there}
use Rattle.inline_expand.specs.Inner.CandidateWords.{own_descs, units_of_all}
use Rattle.field_constructors.specs.Constructors.{IsConstructor, IsConstructorAt, field_descs}
use Rattle.member_link.specs.FieldConstructors.{HasFieldConstructor}
use Rattle.inline_expand.proofs.candidates.Candidates.judge_class.Goals as goal

pub bounds-as_slice-number : goal.bounds-as_slice-number
bounds-as_slice-number c =
    let classes = c.args.self.now in
    let hierarchy : IsHierarchy (headers_of classes) = subst (λ (k : Classes). IsHierarchy (headers_of k)) c.self.view_is c.a_tree_is_a_hierarchy.ensures in
    let outside : (header : Header) → named object (headers_of classes).folder ≡ Some header → ⊥ =
    subst (λ (k : Classes). (header : Header) → named object (headers_of k).folder ≡ Some header → ⊥) c.self.view_is (object_outside c.self.inside.tree.now c.folder-folder.ensures.tree) in
    let name = c.args.class.now in
    let number = c.args.number in
    let items : c.as_slice.result.now ≡ classes.folder = c.as_slice.ensures ∙ c.folder.ensures.same ∙ ap (λ (k : Classes). k.folder) c.self.view_is in
    let within : number < length c.as_slice.result.now = subst (λ (files : List ClassFile). number < length files) (sym items) (number_within classes hierarchy name number c.requires.number) in
    within

pub offset_bounds-as_slice-number : goal.offset_bounds-as_slice-number
offset_bounds-as_slice-number c =
    let classes = c.args.self.now in
    let hierarchy : IsHierarchy (headers_of classes) = subst (λ (k : Classes). IsHierarchy (headers_of k)) c.self.view_is c.a_tree_is_a_hierarchy.ensures in
    let outside : (header : Header) → named object (headers_of classes).folder ≡ Some header → ⊥ =
    subst (λ (k : Classes). (header : Header) → named object (headers_of k).folder ≡ Some header → ⊥) c.self.view_is (object_outside c.self.inside.tree.now c.folder-folder.ensures.tree) in
    let name = c.args.class.now in
    let number = c.args.number in
    let items : c.as_slice.result.now ≡ classes.folder = c.as_slice.ensures ∙ c.folder.ensures.same ∙ ap (λ (k : Classes). k.folder) c.self.view_is in
    let within : number < length c.as_slice.result.now = subst (λ (files : List ClassFile). number < length files) (sym items) (number_within classes hierarchy name number c.requires.number) in
    omega (arith, within, c.as_slice.type_inv.1)

pub returns-in_default : goal.returns-in_default
returns-in_default c =
    let classes = c.args.self.now in
    let hierarchy : IsHierarchy (headers_of classes) = subst (λ (k : Classes). IsHierarchy (headers_of k)) c.self.view_is c.a_tree_is_a_hierarchy.ensures in
    let outside : (header : Header) → named object (headers_of classes).folder ≡ Some header → ⊥ =
    subst (λ (k : Classes). (header : Header) → named object (headers_of k).folder ≡ Some header → ⊥) c.self.view_is (object_outside c.self.inside.tree.now c.folder-folder.ensures.tree) in
    let name = c.args.class.now in
    let number = c.args.number in
    let items : c.as_slice.result.now ≡ classes.folder = c.as_slice.ensures ∙ c.folder.ensures.same ∙ ap (λ (k : Classes). k.folder) c.self.view_is in
    let within : number < length c.as_slice.result.now = subst (λ (files : List ClassFile). number < length files) (sym items) (number_within classes hierarchy name number c.requires.number) in
    let file = c.index-as_slice-number.result in
    let there : slice_get classes.folder number ≡ Some file =
    ap (λ (files : List ClassFile). slice_get files number) (sym items) ∙ slice_get_read c.as_slice.result.now (length c.as_slice.result.now) number file refl within c.index-as_slice-number.is in
    let own = header_named classes hierarchy outside name number c.requires.number file there in
    let asked : option_copied c.folder_class.result ≡ named name (headers_of classes).folder = c.folder_class.ensures ∙ ap (λ (k : Classes). named name (headers_of k).folder) c.self.view_is in
    absurd (none-some (header_of file) (ap option_copied (sym c.in_default.is) ∙ asked ∙ own))

pub is_fit-requires-clause-file : goal.is_fit-requires-clause-file
is_fit-requires-clause-file c =
    let classes = c.args.self.now in
    let hierarchy : IsHierarchy (headers_of classes) = subst (λ (k : Classes). IsHierarchy (headers_of k)) c.self.view_is c.a_tree_is_a_hierarchy.ensures in
    let outside : (header : Header) → named object (headers_of classes).folder ≡ Some header → ⊥ =
    subst (λ (k : Classes). (header : Header) → named object (headers_of k).folder ≡ Some header → ⊥) c.self.view_is (object_outside c.self.inside.tree.now c.folder-folder.ensures.tree) in
    let name = c.args.class.now in
    let number = c.args.number in
    let items : c.as_slice.result.now ≡ classes.folder = c.as_slice.ensures ∙ c.folder.ensures.same ∙ ap (λ (k : Classes). k.folder) c.self.view_is in
    let within : number < length c.as_slice.result.now = subst (λ (files : List ClassFile). number < length files) (sym items) (number_within classes hierarchy name number c.requires.number) in
    let file = c.index-as_slice-number.result in
    let there : slice_get classes.folder number ≡ Some file =
    ap (λ (files : List ClassFile). slice_get files number) (sym items) ∙ slice_get_read c.as_slice.result.now (length c.as_slice.result.now) number file refl within c.index-as_slice-number.is in
    record { placed = c.requires.number; there = there }

pub is_fit-requires-clause-header : goal.is_fit-requires-clause-header
is_fit-requires-clause-header c =
    let classes = c.args.self.now in
    let hierarchy : IsHierarchy (headers_of classes) = subst (λ (k : Classes). IsHierarchy (headers_of k)) c.self.view_is c.a_tree_is_a_hierarchy.ensures in
    let outside : (header : Header) → named object (headers_of classes).folder ≡ Some header → ⊥ =
    subst (λ (k : Classes). (header : Header) → named object (headers_of k).folder ≡ Some header → ⊥) c.self.view_is (object_outside c.self.inside.tree.now c.folder-folder.ensures.tree) in
    let name = c.args.class.now in
    let number = c.args.number in
    let items : c.as_slice.result.now ≡ classes.folder = c.as_slice.ensures ∙ c.folder.ensures.same ∙ ap (λ (k : Classes). k.folder) c.self.view_is in
    let within : number < length c.as_slice.result.now = subst (λ (files : List ClassFile). number < length files) (sym items) (number_within classes hierarchy name number c.requires.number) in
    let file = c.index-as_slice-number.result in
    let there : slice_get classes.folder number ≡ Some file =
    ap (λ (files : List ClassFile). slice_get files number) (sym items) ∙ slice_get_read c.as_slice.result.now (length c.as_slice.result.now) number file refl within c.index-as_slice-number.is in
    let own = header_named classes hierarchy outside name number c.requires.number file there in
    let asked : option_copied c.folder_class.result ≡ named name (headers_of classes).folder = c.folder_class.ensures ∙ ap (λ (k : Classes). named name (headers_of k).folder) c.self.view_is in
    let header : c.in-Some.header.now ≡ header_of file = same_Some c.in-Some.header.now (header_of file) (ap option_copied (sym c.in-Some.is) ∙ asked ∙ own) in
    header

pub returns-then-not-is_fit : goal.returns-then-not-is_fit
returns-then-not-is_fit c =
    let classes = c.args.self.now in
    let hierarchy : IsHierarchy (headers_of classes) = subst (λ (k : Classes). IsHierarchy (headers_of k)) c.self.view_is c.a_tree_is_a_hierarchy.ensures in
    let outside : (header : Header) → named object (headers_of classes).folder ≡ Some header → ⊥ =
    subst (λ (k : Classes). (header : Header) → named object (headers_of k).folder ≡ Some header → ⊥) c.self.view_is (object_outside c.self.inside.tree.now c.folder-folder.ensures.tree) in
    let name = c.args.class.now in
    let number = c.args.number in
    let items : c.as_slice.result.now ≡ classes.folder = c.as_slice.ensures ∙ c.folder.ensures.same ∙ ap (λ (k : Classes). k.folder) c.self.view_is in
    let within : number < length c.as_slice.result.now = subst (λ (files : List ClassFile). number < length files) (sym items) (number_within classes hierarchy name number c.requires.number) in
    let file = c.index-as_slice-number.result in
    let there : slice_get classes.folder number ≡ Some file =
    ap (λ (files : List ClassFile). slice_get files number) (sym items) ∙ slice_get_read c.as_slice.result.now (length c.as_slice.result.now) number file refl within c.index-as_slice-number.is in
    let own = header_named classes hierarchy outside name number c.requires.number file there in
    let asked : option_copied c.folder_class.result ≡ named name (headers_of classes).folder = c.folder_class.ensures ∙ ap (λ (k : Classes). named name (headers_of k).folder) c.self.view_is in
    not_fit classes hierarchy outside name number c.requires.number file there c.args.above (c.args.above ++ own_descs (header_of file)) c.requires.above refl
    (λ fit. false≢true (sym c.if-not-is_fit.true ∙ c.is_fit.ensures.1 fit))

pub returns-then-not-are_narrow : goal.returns-then-not-are_narrow
returns-then-not-are_narrow c =
    let classes = c.args.self.now in
    let hierarchy : IsHierarchy (headers_of classes) = subst (λ (k : Classes). IsHierarchy (headers_of k)) c.self.view_is c.a_tree_is_a_hierarchy.ensures in
    let outside : (header : Header) → named object (headers_of classes).folder ≡ Some header → ⊥ =
    subst (λ (k : Classes). (header : Header) → named object (headers_of k).folder ≡ Some header → ⊥) c.self.view_is (object_outside c.self.inside.tree.now c.folder-folder.ensures.tree) in
    let name = c.args.class.now in
    let number = c.args.number in
    let items : c.as_slice.result.now ≡ classes.folder = c.as_slice.ensures ∙ c.folder.ensures.same ∙ ap (λ (k : Classes). k.folder) c.self.view_is in
    let within : number < length c.as_slice.result.now = subst (λ (files : List ClassFile). number < length files) (sym items) (number_within classes hierarchy name number c.requires.number) in
    let file = c.index-as_slice-number.result in
    let there : slice_get classes.folder number ≡ Some file =
    ap (λ (files : List ClassFile). slice_get files number) (sym items) ∙ slice_get_read c.as_slice.result.now (length c.as_slice.result.now) number file refl within c.index-as_slice-number.is in
    let own = header_named classes hierarchy outside name number c.requires.number file there in
    let asked : option_copied c.folder_class.result ≡ named name (headers_of classes).folder = c.folder_class.ensures ∙ ap (λ (k : Classes). named name (headers_of k).folder) c.self.view_is in
    let header : c.in-Some.header.now ≡ header_of file = same_Some c.in-Some.header.now (header_of file) (ap option_copied (sym c.in-Some.is) ∙ asked ∙ own) in
    let fields = c.in_ok-fields.fields in
    let are : fields ≡ c.args.above ++ own_descs (header_of file) = c.in_ok-fields.ensures ∙ ap (λ (h : Header). c.args.above ++ own_descs h) header in
    not_narrow classes hierarchy outside name number c.requires.number file there c.args.above fields c.requires.above are
    (λ narrow. false≢true (sym c.if-not-are_narrow.true ∙ c.are_narrow.ensures.1 (subst (λ (l : List (List ℕ)). units_of_all l ≤ 64) (sym c.as_slice-2.ensures) narrow)))

pub of_fields-requires : goal.of_fields-requires
of_fields-requires c =
    let classes = c.args.self.now in
    let hierarchy : IsHierarchy (headers_of classes) = subst (λ (k : Classes). IsHierarchy (headers_of k)) c.self.view_is c.a_tree_is_a_hierarchy.ensures in
    let outside : (header : Header) → named object (headers_of classes).folder ≡ Some header → ⊥ =
    subst (λ (k : Classes). (header : Header) → named object (headers_of k).folder ≡ Some header → ⊥) c.self.view_is (object_outside c.self.inside.tree.now c.folder-folder.ensures.tree) in
    let name = c.args.class.now in
    let number = c.args.number in
    let items : c.as_slice.result.now ≡ classes.folder = c.as_slice.ensures ∙ c.folder.ensures.same ∙ ap (λ (k : Classes). k.folder) c.self.view_is in
    let within : number < length c.as_slice.result.now = subst (λ (files : List ClassFile). number < length files) (sym items) (number_within classes hierarchy name number c.requires.number) in
    let file = c.index-as_slice-number.result in
    let there : slice_get classes.folder number ≡ Some file =
    ap (λ (files : List ClassFile). slice_get files number) (sym items) ∙ slice_get_read c.as_slice.result.now (length c.as_slice.result.now) number file refl within c.index-as_slice-number.is in
    let own = header_named classes hierarchy outside name number c.requires.number file there in
    let asked : option_copied c.folder_class.result ≡ named name (headers_of classes).folder = c.folder_class.ensures ∙ ap (λ (k : Classes). named name (headers_of k).folder) c.self.view_is in
    let header : c.in-Some.header.now ≡ header_of file = same_Some c.in-Some.header.now (header_of file) (ap option_copied (sym c.in-Some.is) ∙ asked ∙ own) in
    let fields = c.in_ok-fields.fields in
    let are : fields ≡ c.args.above ++ own_descs (header_of file) = c.in_ok-fields.ensures ∙ ap (λ (h : Header). c.args.above ++ own_descs h) header in
    let all = all_fields classes hierarchy outside name number c.requires.number file there c.args.above fields c.requires.above are in
    let of : Classes → Type 0 = λ k. (h : Header) → slice_get (headers_of k).folder number ≡ Some h → c.as_slice-3.result.now ≡ field_descs (headers_of k) h.name in
    subst of (sym (c.self.invariant.2 ∙ c.self.view_is)) (λ h at.
    let same : h ≡ header_of file = same_Some h (header_of file) (sym at ∙ slice_get-map header_of classes.folder number ∙ ap (λ (f : Option ClassFile). option_map header_of f) there) in
    c.as_slice-3.ensures ∙ all ∙ ap (field_descs (headers_of classes)) (sym (ap (λ (h : Header). h.name) same ∙ folder_name (headers_of classes) name (header_of file) own)))

pub returns-then-is_none : goal.returns-then-is_none
returns-then-is_none c =
    let classes = c.args.self.now in
    let hierarchy : IsHierarchy (headers_of classes) = subst (λ (k : Classes). IsHierarchy (headers_of k)) c.self.view_is c.a_tree_is_a_hierarchy.ensures in
    let outside : (header : Header) → named object (headers_of classes).folder ≡ Some header → ⊥ =
    subst (λ (k : Classes). (header : Header) → named object (headers_of k).folder ≡ Some header → ⊥) c.self.view_is (object_outside c.self.inside.tree.now c.folder-folder.ensures.tree) in
    let name = c.args.class.now in
    let number = c.args.number in
    let items : c.as_slice.result.now ≡ classes.folder = c.as_slice.ensures ∙ c.folder.ensures.same ∙ ap (λ (k : Classes). k.folder) c.self.view_is in
    let within : number < length c.as_slice.result.now = subst (λ (files : List ClassFile). number < length files) (sym items) (number_within classes hierarchy name number c.requires.number) in
    let file = c.index-as_slice-number.result in
    let there : slice_get classes.folder number ≡ Some file =
    ap (λ (files : List ClassFile). slice_get files number) (sym items) ∙ slice_get_read c.as_slice.result.now (length c.as_slice.result.now) number file refl within c.index-as_slice-number.is in
    let own = header_named classes hierarchy outside name number c.requires.number file there in
    let asked : option_copied c.folder_class.result ≡ named name (headers_of classes).folder = c.folder_class.ensures ∙ ap (λ (k : Classes). named name (headers_of k).folder) c.self.view_is in
    let header : c.in-Some.header.now ≡ header_of file = same_Some c.in-Some.header.now (header_of file) (ap option_copied (sym c.in-Some.is) ∙ asked ∙ own) in
    let fields = c.in_ok-fields.fields in
    let are : fields ≡ c.args.above ++ own_descs (header_of file) = c.in_ok-fields.ensures ∙ ap (λ (h : Header). c.args.above ++ own_descs h) header in
    let there_named : slice_get (headers_of classes).folder number ≡ Some (header_of file) = slice_get-map header_of classes.folder number ∙ ap (λ (f : Option ClassFile). option_map header_of f) there in
    let own_name : (header_of file).name ≡ name = folder_name (headers_of classes) name (header_of file) own in
    let found : IsConstructor classes name c.in_ok-constructor.constructor =
    subst (λ (n : List ℕ). IsConstructor classes n c.in_ok-constructor.constructor) own_name
    (subst (λ (k : Classes). IsConstructorAt k number c.in_ok-constructor.constructor) (c.self.invariant.2 ∙ c.self.view_is) c.in_ok-constructor.ensures (header_of file) there_named) in
    not_free classes hierarchy outside name number c.requires.number file there c.args.above fields c.requires.above are
    (by c.in_ok-constructor.constructor found (c.is_none.ensures ∙ ap not c.if-is_none.true)) where
      by : (found : Option (List ℕ)) → IsConstructor c.args.self.now c.args.class.now found → is_some found ≡ false → ¬ HasFieldConstructor c.args.self.now c.args.class.now
      by None never is = never
      by (Some desc) may is = absurd cc

pub returns : goal.returns
returns c =
    let classes = c.args.self.now in
    let hierarchy : IsHierarchy (headers_of classes) = subst (λ (k : Classes). IsHierarchy (headers_of k)) c.self.view_is c.a_tree_is_a_hierarchy.ensures in
    let outside : (header : Header) → named object (headers_of classes).folder ≡ Some header → ⊥ =
    subst (λ (k : Classes). (header : Header) → named object (headers_of k).folder ≡ Some header → ⊥) c.self.view_is (object_outside c.self.inside.tree.now c.folder-folder.ensures.tree) in
    let name = c.args.class.now in
    let number = c.args.number in
    let items : c.as_slice.result.now ≡ classes.folder = c.as_slice.ensures ∙ c.folder.ensures.same ∙ ap (λ (k : Classes). k.folder) c.self.view_is in
    let within : number < length c.as_slice.result.now = subst (λ (files : List ClassFile). number < length files) (sym items) (number_within classes hierarchy name number c.requires.number) in
    let file = c.index-as_slice-number.result in
    let there : slice_get classes.folder number ≡ Some file =
    ap (λ (files : List ClassFile). slice_get files number) (sym items) ∙ slice_get_read c.as_slice.result.now (length c.as_slice.result.now) number file refl within c.index-as_slice-number.is in
    let own = header_named classes hierarchy outside name number c.requires.number file there in
    let asked : option_copied c.folder_class.result ≡ named name (headers_of classes).folder = c.folder_class.ensures ∙ ap (λ (k : Classes). named name (headers_of k).folder) c.self.view_is in
    let header : c.in-Some.header.now ≡ header_of file = same_Some c.in-Some.header.now (header_of file) (ap option_copied (sym c.in-Some.is) ∙ asked ∙ own) in
    let fields = c.in_ok-fields.fields in
    let are : fields ≡ c.args.above ++ own_descs (header_of file) = c.in_ok-fields.ensures ∙ ap (λ (h : Header). c.args.above ++ own_descs h) header in
    let there_named : slice_get (headers_of classes).folder number ≡ Some (header_of file) = slice_get-map header_of classes.folder number ∙ ap (λ (f : Option ClassFile). option_map header_of f) there in
    let own_name : (header_of file).name ≡ name = folder_name (headers_of classes) name (header_of file) own in
    let found : IsConstructor classes name c.in_ok-constructor.constructor =
    subst (λ (n : List ℕ). IsConstructor classes n c.in_ok-constructor.constructor) own_name
    (subst (λ (k : Classes). IsConstructorAt k number c.in_ok-constructor.constructor) (c.self.invariant.2 ∙ c.self.view_is) c.in_ok-constructor.ensures (header_of file) there_named) in
    sound_there classes hierarchy outside name number c.requires.number file there c.args.above fields c.requires.above are
    (c.is_fit.ensures.0 c.if-not-is_fit.false) (subst (λ (l : List (List ℕ)). units_of_all l ≤ 64) c.as_slice-2.ensures (c.are_narrow.ensures.0 c.if-not-are_narrow.false))
    (by c.in_ok-constructor.constructor found (c.is_none.ensures ∙ ap not c.if-is_none.false)) where
      by : (found : Option (List ℕ)) → IsConstructor c.args.self.now c.args.class.now found → is_some found ≡ true → HasFieldConstructor c.args.self.now c.args.class.now
      by None never is = absurd cc
      by (Some desc) may is = may.0
