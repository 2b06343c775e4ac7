-- Methods that no end of a final method reaches override no final method.
use Rattle.std.proofs.Common.{◌≡◌, ◌+◌, ◌<◌, ◌≤◌, ℕ, Bool, true, false, cond, List, [], ◌∷◌, ◌++◌, length, replicate, take, set, get_or, slice_get, bit_xor, nat_eq, Option, Some, None, IsTrue, IsFalse, refl, sym, ap, subst, ◌∙◌, inl, inr, arith}
use Rattle.std.specs.List.{All}
use Rattle.std.specs.Map.{lookup}
use Rattle.std.proofs.lemmas.Bool.{cases_Bool, cases_eq, cases_lt, eqb-true}
use Rattle.std.proofs.lemmas.List.{length-set, length-replicate, get_or-set_same, get_or-set_other, get_or-replicate}
use Rattle.std.proofs.lemmas.List.Elements.{All-head, All-tail, All-more}
use Rattle.std.proofs.lemmas.Option.{same_Some, none-some, slice_get_within}
use Rattle.class_model.specs.Members.{has, FINAL}
use Rattle.class_model.specs.declared.header.Header.{Header}
use Rattle.class_model.specs.declared.header.Member.{Member}
use Rattle.class_tree.specs.Headers.{Name, Headers, named}
use Rattle.class_tree.specs.Hierarchy.{IsHierarchy}
use Rattle.class_tree.specs.Laws.Above.{class_is_climbed, above_interface, hierarchy_is_sound, hierarchy_is_rooted}
use Rattle.class_tree.specs.Laws.Headers.{own_name}
use Rattle.class_tree.specs.Names.{is_interface, is_member}
use Rattle.class_tree.specs.Order.{header_at}
use Rattle.class_tree.specs.Subtype.{IsBelow}
use Rattle.class_tree.specs.declared.place.Place.TheVariants.{Folder}
use Rattle.member_link.specs.Declarations.{IsFolderMethod, OverridesNoFinal}
use Rattle.member_link.specs.DeclaredMembers.{Declared, IsMethod, declared_by, declared, is_inherited, is_open}
use Rattle.member_link.specs.Inner.FinalEnds.{texts_key, text_key, signature_key, package_key, key_in, Reaches, Grows, IsFree, IsSweptFrom, IsSwept, IsRaised, AreSweptBelow, AreKnown, AreKnownOf}
use Rattle.member_link.specs.Inner.OpenMethods.{IsAbove, OpensPackage}
use Rattle.member_link.specs.Inner.Spans.{AreSpans, IsSpan}
use Rattle.member_link.specs.Overriding.{MayOverride, Overrides, package_of}
use Rattle.member_link.specs.declared.spans.Span.{Span}
use Rattle.member_link.specs.declared.spans.Spans.{Spans}
use Rattle.member_link.specs.Laws.FolderClasses.{class_of_folder, folder_index}
use Rattle.member_link.proofs.OpenOverriding.{overriding_decided}
use Rattle.member_link.proofs.SpannedClasses.{StandsApart, IsInside, one_more, outside_above, below_is_inside}

-- ---- ends

pub grows_same : (ends : List (ℕ × ℕ)) → Grows ends ends
grows_same ends = record { kept = λ key number far. far }

pub grows_then : {a b c : List (ℕ × ℕ)} → Grows a b → Grows b c → Grows a c
grows_then one more = record { kept = λ key number far. more.kept key number (one.kept key number far) }

-- the end of a key that did not reach so far is put
pub grows_put : {before after : List (ℕ × ℕ)} (key end : ℕ) → ((other : ℕ) → lookup (nat_eq other) after ≡ cond (nat_eq key other) (Some end) (lookup (nat_eq other) before)) → ¬ Reaches before key end → Grows before after
grows_put {before} {after} key end put nearer = record { kept = kept }
  where
    kept : (other number : ℕ) → Reaches before other number → Reaches after other number
    kept other number far = elim (cases_Bool (nat_eq key other)) [
      | inl same ↦ elim (cases_lt far.end end) [
        | inl less ↦ record { end = end; is = put other ∙ ap (λ t. cond t (Some end) (lookup (nat_eq other) before)) same; far = omega (arith, far.far, less) }
        | inr past ↦ absurd (nearer (record { end = far.end; is = subst (λ k. lookup (nat_eq k) before ≡ Some far.end) (sym (eqb-true key other same)) far.is; far = past }))
      ]
      | inr differs ↦ record { end = far.end; is = put other ∙ ap (λ t. cond t (Some end) (lookup (nat_eq other) before)) differs ∙ far.is; far = far.far }
    ]

pub reaches_less : {ends : List (ℕ × ℕ)} {key other number less : ℕ} → key ≡ other → less ≤ number → Reaches ends key number → Reaches ends other less
reaches_less {ends} {less = less} same fewer far =
    subst (λ key. Reaches ends key less) same (record { end = far.end; is = far.is; far = omega (arith, far.far, fewer) })

same_signature : (one other : Member) → one.name ≡ other.name → one.desc ≡ other.desc → signature_key one ≡ signature_key other
same_signature one other name desc = ap (λ name. texts_key name one.desc) name ∙ ap (texts_key other.name) desc

same_key : (class home : Name) (one other : Member) → package_of class ≡ package_of home → one.name ≡ other.name → one.desc ≡ other.desc → key_in (package_key class) one ≡ key_in (package_key home) other
same_key class home one other packages name desc =
    ap (λ key. bit_xor key (package_key class)) (same_signature one other name desc) ∙ ap (λ text. bit_xor (signature_key other) (text_key text)) packages

-- what is free was before
pub free_before : {before after : List (ℕ × ℕ)} {home : ℕ} {span : Span} {member : Member} → Grows before after → IsFree after home span member → IsFree before home span member
free_before grows free = record { of_all = λ far. free.of_all (grows.kept _ _ far); of_package = λ far. free.of_package (grows.kept _ _ far) }

pub swept_more : {a b c d : List (ℕ × ℕ)} {home : ℕ} {span : Span} (member : Member) → Grows a b → Grows c d → IsSweptFrom b c home span member → IsSweptFrom a d home span member
swept_more member before after swept = record {
  open_ = λ inherited final opens. after.kept _ _ (swept.open_ inherited final opens);
  closed = λ inherited final closed. after.kept _ _ (swept.closed inherited final closed);
  through = λ inherited opens. elim (swept.through inherited opens) [
    | inl free ↦ inl (free_before before free)
    | inr far ↦ inr (after.kept _ _ far)
  ];
}

pub still_swept : {headers : Headers} {before after : List (ℕ × ℕ)} {class : Name} {span : Span} (member : Member) → Grows before after → IsSwept headers before class span member → IsSwept headers after class span member
still_swept member grows swept = record {
  open_ = λ inherited final opens. grows.kept _ _ (swept.open_ inherited final opens);
  closed = λ inherited final closed. grows.kept _ _ (swept.closed inherited final closed);
  through = λ inherited opens. elim (swept.through inherited opens) [ inl none ↦ inl none | inr far ↦ inr (grows.kept _ _ far) ];
}

-- ---- what holds of each holds of one that is declared

pub all_declared : (P : Member → Type 0) (name desc : List ℕ) (members : List Member) (member : Member) → declared name desc members ≡ Some member → All P members → P member
all_declared P name desc [] member is all = absurd cc
all_declared P name desc (first ∷ members) member is all = by (is_member name desc first) is (λ later. all_declared P name desc members member later (All-tail P first members all))
  where
    by : (test : Bool) → cond test (Some first) (declared name desc members) ≡ Some member → (declared name desc members ≡ Some member → P member) → P member
    by true is later = subst P (same_Some first member is) (All-head P first members all)
    by false is later = later is

-- ---- methods of the folder by places

module _ (headers : Headers) (apart : StandsApart headers) (hierarchy : IsHierarchy headers) where
  -- the place of the class of a method of the folder
  record IsPlaced (method : Declared) (header : Header) : Type 0 where
    pub index : ℕ
    pub at : header_at headers (Folder index) ≡ Some header
    pub own_name : header.name ≡ method.class

  placed : {method : Declared} (folder : IsFolderMethod headers method) → IsPlaced method folder.header
  placed {method} folder =
      let place = folder_index headers method.class folder.header folder.found in
      let stands = hierarchy.placed method.class (Folder place.0) place.2 in
      let found = class_of_folder headers method.class folder.header folder.found in
      let same = same_Some stands.0 folder.header (sym stands.1.found ∙ found) in
      record { index = place.0; at = stands.1.at ∙ ap Some same; own_name = own_name headers method.class folder.header found }

  -- what is below a class of the folder is one of the folder
  middle_of_folder : {middle high : Declared} → IsMethod headers middle → IsFolderMethod headers high → IsBelow headers middle.class high.class → IsFolderMethod headers middle
  middle_of_folder {middle} {high} method folder up = by (named middle.class headers.folder) refl
    where
      by : (found : Option Header) → named middle.class headers.folder ≡ found → IsFolderMethod headers middle
      by None none = absurd (none-some folder.header (sym (outside_above headers apart up none) ∙ folder.found))
      by (Some header) is =
          let same = same_Some header method.header (sym (class_of_folder headers middle.class header is) ∙ method.found) in
          record { header = method.header; found = is ∙ ap Some same; declares = method.declares }

  -- an interface is not below a class of the folder
  no_interface : {middle high : Declared} (method : IsMethod headers middle) (folder : IsFolderMethod headers high) → IsFalse (is_interface folder.header) → IsBelow headers middle.class high.class → ¬ IsTrue (is_interface method.header)
  no_interface {middle} {high} method folder kind up interface =
      let sound = hierarchy_is_sound headers hierarchy in
      let climbed = class_is_climbed headers sound (hierarchy_is_rooted headers hierarchy) up method.header folder.header method.found (class_of_folder headers high.class folder.header folder.found) kind in
      let top = above_interface headers sound middle.class method.header method.found interface method.header method.found climbed.0 climbed.1 in
      let out = subst (λ name. named name headers.folder ≡ None) (sym top) apart.no_object in
      elim climbed.2 [
        | inl same ↦ none-some folder.header (sym (subst (λ name. named name headers.folder ≡ None) same out) ∙ folder.found)
        | inr more ↦ none-some folder.header (sym (outside_above headers apart more out) ∙ folder.found)
      ]

  module _ (spans : Spans) (are : AreSpans headers spans) (ends : List (ℕ × ℕ)) (number : ℕ) (swept : AreSweptBelow headers spans ends number) (index : ℕ) (header : Header) (at : header_at headers (Folder index) ≡ Some header) (span : Span) (span_is : slice_get spans.of_classes.items index ≡ Some span) (first : span.first ≡ number) (member : Member) where
    abbrev low : Declared
    low = declared_by header.name member

    -- what is said of a method of a class above
    record IsMet (high : Declared) (class : Name) : Type 0 where
      pub own_name : class ≡ high.class
      pub outer : Span
      pub inside : IsInside span outer
      pub is : IsSwept headers ends class outer high.member

    meet : {high : Declared} (folder : IsFolderMethod headers high) → IsFalse (is_interface folder.header) → IsBelow headers header.name high.class → IsMet high folder.header.name
    meet {high} folder kind up =
        let place = placed folder in
        let own = are.each place.index folder.header place.at in
        let below = subst (IsBelow headers header.name) (sym place.own_name) up in
        let inside = below_is_inside headers apart hierarchy spans are place.index folder.header place.at kind own.span own.is index header at below span span_is in
        let all = swept.each place.index folder.header own.span place.at own.is (omega (arith, inside.first, first)) in
        record {
          own_name = place.own_name;
          outer = own.span;
          inside = inside;
          is = all_declared (IsSwept headers ends folder.header.name own.span) high.member.name high.member.desc folder.header.methods high.member folder.declares all;
        }

    reached : (high : Declared) {end : ℕ} → high.member.name ≡ member.name → high.member.desc ≡ member.desc → span.first ≤ end → Reaches ends (signature_key high.member) end → Reaches ends (signature_key member) span.first
    reached high name desc less far = reaches_less (same_signature high.member member name desc) less far

    own_span : IsSpan headers spans index
    own_span = are.each index header at

    ordered : span.first ≤ span.last
    ordered = subst (λ (s : Span). s.first ≤ s.last) (same_Some own_span.span span (sym own_span.is ∙ span_is)) own_span.ordered

    within : span.first < length spans.indices.items
    within = slice_get_within spans.indices.items span.first index (subst (λ (s : Span). slice_get spans.indices.items s.first ≡ Some index) (same_Some own_span.span span (sym own_span.is ∙ span_is)) own_span.numbered)

    -- a final method of an interface
    interface_reaches : {high : Declared} (folder : IsFolderMethod headers high) → IsTrue (is_interface folder.header) → IsTrue (has high.member.flags FINAL) → MayOverride headers low high → Reaches ends (signature_key member) span.first
    interface_reaches {high} folder kind final may =
        let place = placed folder in
        let end = length spans.indices.items in
        let raised = swept.raised.each place.index folder.header place.at kind in
        let far = all_declared (IsRaised ends end) high.member.name high.member.desc folder.header.methods high.member folder.declares raised final in
        reached high (sym may.same_name) (sym may.same_desc) (omega (arith, within)) far

    -- a public or protected final method of a class
    open_reaches : {high : Declared} (folder : IsFolderMethod headers high) → IsFalse (is_interface folder.header) → IsTrue (has high.member.flags FINAL) → MayOverride headers low high → IsTrue (is_open high.member) → Reaches ends (signature_key member) span.first
    open_reaches {high} folder kind final may opens =
        let met = meet folder kind may.below in
        reached high (sym may.same_name) (sym may.same_desc) (omega (arith, ordered, met.inside.last)) (met.is.open_ may.high_inherited final opens)

    -- one of package access of the same package
    closed_reaches : {high : Declared} (folder : IsFolderMethod headers high) → IsFalse (is_interface folder.header) → IsTrue (has high.member.flags FINAL) → MayOverride headers low high → package_of header.name ≡ package_of high.class → IsFalse (is_open high.member) → Reaches ends (key_in (package_key header.name) member) span.first
    closed_reaches {high} folder kind final may packages closed =
        let met = meet folder kind may.below in
        reaches_less (same_key folder.header.name header.name high.member member (ap package_of met.own_name ∙ sym packages) (sym may.same_name) (sym may.same_desc)) (omega (arith, ordered, met.inside.last)) (met.is.closed may.high_inherited final closed)

    -- one that a method between overrides
    through_reaches : {middle high : Declared} (folder : IsFolderMethod headers high) → IsFalse (is_interface folder.header) → IsTrue (has high.member.flags FINAL) → IsAbove headers low middle → OpensPackage headers middle high → Reaches ends (signature_key member) span.first
    through_reaches {middle} {high} folder kind final above opens =
        let method = above.method in
        let between = middle_of_folder method folder opens.may.below in
        let class : IsFalse (is_interface method.header) = elim (cases_Bool (is_interface method.header)) [
          | inl interface ↦ absurd (no_interface method folder kind opens.may.below interface)
          | inr class ↦ class
        ] in
        let same = same_Some between.header method.header (sym (class_of_folder headers middle.class between.header between.found) ∙ method.found) in
        let met = meet between (ap is_interface same ∙ class) above.below in
        elim (met.is.through opens.may.low_inherited opens.is_open) [
          | inl none ↦
              absurd (none high folder final (subst (λ class. Overrides headers (declared_by class middle.member) high) (sym met.own_name) (overriding_decided.1 (opens.may, inr (inl opens.same_package)))))
          | inr far ↦ reached middle above.same_name above.same_desc (omega (arith, ordered, met.inside.last)) far
        ]

    -- a method that no end reaches overrides no final method
    pub free_overrides_none : (IsTrue (is_inherited member) → IsFree ends (package_key header.name) span member) → OverridesNoFinal headers (declared_by header.name member)
    free_overrides_none free = λ high folder final over.
        let both = overriding_decided.0 over in
        let may = both.0 in
        let none = free may.low_inherited in
        elim (cases_Bool (is_interface folder.header)) [
          | inl interface ↦ none.of_all (interface_reaches folder interface final may)
          | inr class ↦ elim both.1 [
            | inl opens ↦ none.of_all (open_reaches folder class final may opens)
            | inr (inl packages) ↦ elim (cases_Bool (is_open high.member)) [
              | inl opens ↦ none.of_all (open_reaches folder class final may opens)
              | inr closed ↦ none.of_package (closed_reaches folder class final may packages closed)
            ]
            | inr (inr opened) ↦ none.of_all (through_reaches folder class final opened.1 opened.2)
          ]
        ]

    -- what a sweep says of a method holds in the folder
    pub is_swept : {before after : List (ℕ × ℕ)} → before ≡ ends → IsSweptFrom before after (package_key header.name) span member → IsSwept headers after header.name span member
    is_swept {before} same swept = record {
      open_ = swept.open_;
      closed = swept.closed;
      through = λ inherited opens. elim (swept.through inherited opens) [
        | inl free ↦ inl (free_overrides_none (λ _. subst (λ ends. IsFree ends (package_key header.name) span member) same free))
        | inr far ↦ inr far
      ];
    }

-- ---- the next class

still_raised : {before after : List (ℕ × ℕ)} {end : ℕ} → Grows before after → (members : List Member) → All (IsRaised before end) members → All (IsRaised after end) members
still_raised grows members all = λ i d less. λ final. grows.kept _ _ (all i d less final)

pub raised_more : {start before after : List (ℕ × ℕ)} {end : ℕ} → (methods : List Member) (i : ℕ) (method : Member) → i < length methods → method ≡ get_or methods i method → Grows start before → Grows before after → All (IsRaised before end) (take i methods) → IsRaised after end method → Grows start after × All (IsRaised after end) (take (i + 1) methods)
raised_more {after = after} {end = end} methods i method within is start grows all raised =
    (grows_then start grows, All-more (IsRaised after end) methods i method within (still_raised grows (take i methods) all) (subst (IsRaised after end) is raised))

pub interfaces_more : (headers : Headers) {before after : List (ℕ × ℕ)} {end : ℕ} → (number : ℕ) → Grows before after → ((index : ℕ) → index < number → (header : Header) → header_at headers (Folder index) ≡ Some header → IsTrue (is_interface header) → All (IsRaised before end) header.methods) → ((header : Header) → header_at headers (Folder number) ≡ Some header → IsTrue (is_interface header) → All (IsRaised after end) header.methods) → (index : ℕ) → index < number + 1 → (header : Header) → header_at headers (Folder index) ≡ Some header → IsTrue (is_interface header) → All (IsRaised after end) header.methods
interfaces_more headers {after = after} {end = end} number grows below here =
    one_more (λ index. (header : Header) → header_at headers (Folder index) ≡ Some header → IsTrue (is_interface header) → All (IsRaised after end) header.methods) number (λ index less header at kind. still_raised grows header.methods (below index less header at kind)) here

pub next_swept : {headers : Headers} {spans : Spans} {before after : List (ℕ × ℕ)} {number : ℕ} → AreSpans headers spans → AreSweptBelow headers spans before number → Grows before after → (index : ℕ) → slice_get spans.indices.items number ≡ Some index → ((header : Header) (span : Span) → header_at headers (Folder index) ≡ Some header → slice_get spans.of_classes.items index ≡ Some span → span.first ≡ number → All (IsSwept headers after header.name span) header.methods) → AreSweptBelow headers spans after (number + 1)
next_swept {headers} {spans} {before} {after} {number} are swept grows index numbered here = record {
  raised = record { each = λ i header at kind. still_raised grows header.methods (swept.raised.each i header at kind) };
  each = each;
}
  where
    each : (i : ℕ) (header : Header) (span : Span) → header_at headers (Folder i) ≡ Some header → slice_get spans.of_classes.items i ≡ Some span → span.first < number + 1 → All (IsSwept headers after header.name span) header.methods
    each i header span at is less = elim (cases_lt span.first number) [
      | inl before ↦ λ k d within. still_swept (get_or header.methods k d) grows (swept.each i header span at is before k d within)
      | inr more ↦
          let own = are.each i header at in
          let first : span.first ≡ number = omega (arith, less, more) in
          let stands : slice_get spans.indices.items span.first ≡ Some i = subst (λ (s : Span). slice_get spans.indices.items s.first ≡ Some i) (same_Some own.span span (sym own.is ∙ is)) own.numbered in
          let same : i ≡ index = same_Some i index (sym stands ∙ ap (slice_get spans.indices.items) first ∙ numbered) in
          here header span (ap (λ i. header_at headers (Folder i)) (sym same) ∙ at) (ap (slice_get spans.of_classes.items) (sym same) ∙ is) first
    ]

-- the count of one class is set
pub known_set : {headers : Headers} {known : List ℕ} → AreKnown headers known → (index : ℕ) (header : Header) (count : ℕ) → header_at headers (Folder index) ≡ Some header → AreKnownOf headers header count → AreKnown headers (set known index count)
known_set {headers} {known} are index header count at of = record { len = length-set known index count ∙ are.len; each = each }
  where
    within : index < length known
    within = omega (arith, slice_get_within headers.folder index header at, are.len)

    each : (i : ℕ) (class : Header) → header_at headers (Folder i) ≡ Some class → AreKnownOf headers class (get_or (set known index count) i 0)
    each i class class_at = elim (cases_eq i index) [
      | inl same ↦
          let one = same_Some header class (sym at ∙ ap (λ i. header_at headers (Folder i)) (sym same) ∙ class_at) in
          let value = ap (λ i. get_or (set known index count) i 0) same ∙ get_or-set_same known index count 0 within in
          subst (AreKnownOf headers class) (sym value) (subst (λ h. AreKnownOf headers h count) one of)
      | inr differs ↦ subst (AreKnownOf headers class) (sym (get_or-set_other known index i count 0 differs)) (are.each i class class_at)
    ]

-- where nothing is known
pub none_known : {headers : Headers} {known : List ℕ} (count : ℕ) → count ≡ length headers.folder → known ≡ replicate count 0 → AreKnown headers known
none_known {headers} {known} count len zeros = record {
  len = ap length zeros ∙ length-replicate count 0 ∙ len;
  each = λ index header at. record {
    each = λ k member is less.
        let none : get_or known index 0 ≡ 0 = ap (λ list. get_or list index 0) zeros ∙ get_or-replicate count index 0 0 (omega (arith, len, slice_get_within headers.folder index header at)) in
        absurd (omega (arith, less, none));
  };
}

-- what stands in front of others
pub front_is : {X : Type 0} (xs ys : List X) (n : ℕ) → length xs ≡ n → take n (xs ++ ys) ≡ xs
front_is {X} xs ys n same = subst (λ n. take n (xs ++ ys) ≡ xs) same (by xs)
  where
    by : (xs : List X) → take (length xs) (xs ++ ys) ≡ xs
    by [] = refl
    by (x ∷ xs) = ap (λ rest. x ∷ rest) (by xs)
