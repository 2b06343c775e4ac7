-- What the items of a method that is rewritten name, and the classes that its handlers catch, pass in the class that is written.
use Rattle.std.proofs.Common.{◌≡◌, ◌≢◌, ◌==◌, ◌+◌, ◌<◌, ◌++◌, not, ℕ, zero, suc, Bool, true, false, List, [], ◌∷◌, bytes_eq, length, map, slice_get, Option, Some, None, IfSome, Result, Ok, refl, sym, ap, subst, ◌∙◌, arith}
use Rattle.std.specs.List.{AllByRecursion}
use Rattle.std.proofs.lemmas.Bool.{false≢true}
use Rattle.std.proofs.lemmas.Bool.Decides.{Decides-eqb}
use Rattle.std.proofs.lemmas.Option.{none-some, same_Some}
use Rattle.std.proofs.lemmas.Slice.Eq.{bytes_eq-Decides}
use Rattle.class_model.specs.Checks.{AllHold, Fault, asked_each, asked_if}
use Rattle.class_model.specs.Code.{OperandFits}
use Rattle.class_model.specs.Header.{header_of, method_member}
use Rattle.class_model.specs.Instructions.{decoded}
use Rattle.class_model.specs.Laws.Checks.{both_hold, first_holds, others_hold}
use Rattle.class_model.specs.Laws.Lists.{at_index}
use Rattle.class_model.specs.Names.{init}
use Rattle.class_model.specs.Pool.{Constants, constant_at}
use Rattle.class_model.specs.PoolChecks.{class_at}
use Rattle.class_model.specs.declared.class_file.ClassFile.{ClassFile}
use Rattle.class_model.specs.declared.class_file.CodePart.{CodePart}
use Rattle.class_model.specs.declared.class_file.Handler.{Handler}
use Rattle.class_model.specs.declared.class_file.Method.{Method}
use Rattle.class_model.specs.declared.class_file.MethodAt.{MethodAt}
use Rattle.class_model.specs.declared.instr.Instr.{Instr}
use Rattle.class_model.specs.declared.instr.Instr.TheVariants.{GetField, Goto, If, If2, IfNull, IfSame, Lookup, New, PutField, Table}
use Rattle.class_model.specs.declared.instr.Placed.{Placed}
use Rattle.class_model.specs.declared.opcodes.TheConstants.{INVOKESPECIAL}
use Rattle.class_model.specs.declared.pool.Const.{Const}
use Rattle.class_model.specs.declared.pool.Const.TheVariants as consts
use Rattle.class_rewrite.proofs.CaughtItems.{CatchIsOf, CatchesAreOf, catches_are_of}
use Rattle.class_rewrite.proofs.ConstructedItems.{StandsAmong, constructed_is_made}
use Rattle.class_rewrite.proofs.FirstEntries.{file_starts, first_is_none}
use Rattle.class_rewrite.proofs.MadeClasses.{itself, kept_name}
use Rattle.class_rewrite.proofs.MadeMembers.{MadeLaws, constructor_passes, each_of}
use Rattle.class_rewrite.proofs.NeededConstants.{CatchMeant, InstrMeant, ItemMeant, written_meant}
use Rattle.class_rewrite.proofs.OpenedFields.{field_opened}
use Rattle.class_rewrite.proofs.PassingUses.{LinkLaws, OpensFor, foreign_passes, opened, scope_uses}
use Rattle.class_rewrite.proofs.StayingIndices.{items_stay}
use Rattle.class_rewrite.proofs.WrittenFolders.{IsRewrittenHost, rewritten_host}
use Rattle.class_rewrite.proofs.WrittenInstrs.{HoldsOfWritten, item_written}
use Rattle.class_rewrite.specs.Inner.ReadyFolders.{IsReadyFolder, IsReadyHost}
use Rattle.class_rewrite.specs.Laws.GrownPools.{rewritten_begins, written_begins}
use Rattle.class_rewrite.specs.Laws.WrittenGrown.{added_begins}
use Rattle.class_rewrite.specs.Optimised.{with_folder}
use Rattle.class_rewrite.specs.Rewriting.Folders.{IsClassWritten, IsFolderWritten, IsMade, IsPoolBefore}
use Rattle.class_rewrite.specs.Rewriting.Methods.{Rewriting, Rewritten}
use Rattle.class_rewrite.specs.Rewriting.Verifying.{IsOfVerified, IsWrittenIn}
use Rattle.class_tree.specs.Headers.{Headers, IsClassFile, IsThere, Name, headers_of, named}
use Rattle.class_tree.specs.Laws.Alike.{alike_shapes, there_alike}
use Rattle.class_tree.specs.Layouts.{superclasses}
use Rattle.class_tree.specs.Names.{object}
use Rattle.code_layout.specs.Layout.{Spelled, item_ranges, len_of, placed_from, placed_items, range_of, ranges_from}
use Rattle.code_layout.specs.PlainItems.{plain_items}
use Rattle.code_layout.specs.declared.emitted.Catch.{Catch as EmittedCatch}
use Rattle.code_layout.specs.declared.emitted.EmitItem.{EmitItem}
use Rattle.expanded_code.specs.CandidateSites.{IsSite}
use Rattle.expanded_code.specs.Callees.{NamesOpen}
use Rattle.expanded_code.specs.Candidates.{IsCandidate}
use Rattle.expanded_runs.specs.CarriedConstants.{CarriesConstants, IsCarriable}
use Rattle.expanded_runs.specs.UsableNames.{AreUsableCatches, IsOfCallee, IsUsable, IsUsableCode, of_callee, of_host, uses_of}
use Rattle.flow_code.specs.FlatCode.{FlatCode}
use Rattle.flow_code.specs.declared.point.FlatInstr.TheVariants.{Of}
use Rattle.flow_code.specs.declared.point.Point.{Point}
use Rattle.flow_code.specs.declared.point.Site.{Site as FlatSite}
use Rattle.making_code.specs.Constants.{constructor_needs, needs_at, of_method}
use Rattle.making_code.specs.IndexedItems.{IndexedItem}
use Rattle.making_code.specs.IndexedMaking.{index_of_last}
use Rattle.making_code.specs.Items.{WCatch, WInstr, WItem, carried, constructs, makes}
use Rattle.making_code.specs.Laws.AddedConstants.{Compares}
use Rattle.making_code.specs.Laws.GrownPools.{Begins, begins_through}
use Rattle.making_code.specs.Laws.MeantConstants.{Means, NamesMember}
use Rattle.making_code.specs.Opposites.{opposite, opposite_instr}
use Rattle.member_link.specs.Access.{IsClassAccessible}
use Rattle.member_link.specs.Declarations.{Site, site_of}
use Rattle.member_link.specs.Forms.{FitsCall, IsInstantiable}
use Rattle.member_link.specs.Laws.FolderClasses.{class_of_folder}
use Rattle.member_link.specs.Laws.Scopes.{scope_is_at}
use Rattle.member_link.specs.LinkedPlaces.{ClassPasses, MethodPasses}
use Rattle.member_link.specs.Machine.Replaced.{map_numbered}
use Rattle.member_link.specs.References.{IsNamedAccessible, IsNamedThere, Reference, element_class, reference_at}
use Rattle.member_link.specs.Scope.{Scope}
use Rattle.member_link.specs.Signatures.{reference_of}
use Rattle.member_link.specs.Targets.{with_targets}
use Rattle.member_link.specs.Uses.{UseScope, class_use_checks, handler_use_checks, instr_use_checks, instrs_checks, method_use_checks, named_class_checks, new_checks}
use Rattle.plan_flow.specs.PlanScope.{PlanScope, pool_of}
use Rattle.plan_flow.specs.Written.Finish.{Finished}
use Rattle.plan_flow.specs.Written.WrittenCode.{jumping_to, target_number, written_items}
use Rattle.plan_flow.specs.Written.WrittenConstants.{catch_index, indexed_instr, indexed_item, indexed_items, named_index, needs_of_index, with_index}
use Rattle.plan_flow.specs.Written.WrittenPrograms.{UsesField, finished_of, plan_scope, reads, writes}
use Rattle.same_runs.specs.ReadyCode.{IsReadyInstr, IsReadyItem}
use Rattle.stackmap_emit.specs.PlacedFrames.{spelled_in}
use Rattle.type_rules.specs.Grown.{IsGrownClass, IsGrownHeader}
use Rattle.written_files.specs.LinkedConstructors.{uses_in}
use Rattle.written_runs.specs.Laws.FolderFacts.{no_folder_object}

-- ---- targets

-- what linking asks of an instruction says nothing of its targets
uses_jump : (u : UseScope) (numbers : List ℕ) (instr : Instr) → AllHold (instr_use_checks u instr) → AllHold (instr_use_checks u (jumping_to numbers instr))
uses_jump u [] instr held = by instr held where
  by : (i : Instr) → AllHold (instr_use_checks u i) → AllHold (instr_use_checks u (jumping_to [] i))
  by (If opcode to) held = tt
  by (If2 opcode to) held = tt
  by (IfSame opcode to) held = tt
  by (IfNull opcode to) held = tt
  by (Goto to) held = tt
  by (Table low default to) held = tt
  by (Lookup default pairs) held = tt
  by _ held = held
uses_jump u (number ∷ numbers) (If opcode to) held = tt
uses_jump u (number ∷ numbers) (If2 opcode to) held = tt
uses_jump u (number ∷ numbers) (IfSame opcode to) held = tt
uses_jump u (number ∷ numbers) (IfNull opcode to) held = tt
uses_jump u (number ∷ numbers) (Goto to) held = tt
uses_jump u (number ∷ numbers) (Table low default to) held = tt
uses_jump u (number ∷ numbers) (Lookup default pairs) held = tt
uses_jump u (number ∷ numbers) _ held = held

uses_target : (u : UseScope) (place : ℕ → ℕ) (instr : Instr) → AllHold (instr_use_checks u instr) → AllHold (instr_use_checks u (with_targets place instr))
uses_target u place (If opcode to) held = tt
uses_target u place (If2 opcode to) held = tt
uses_target u place (IfSame opcode to) held = tt
uses_target u place (IfNull opcode to) held = tt
uses_target u place (Goto to) held = tt
uses_target u place (Table low default to) held = tt
uses_target u place (Lookup default pairs) held = tt
uses_target u place _ held = held

-- ---- lists

within : {A : Type 0} (xs : List A) (n : ℕ) (x : A) → slice_get xs n ≡ Some x → n < length xs
within [] n x is = absurd (none-some x is)
within (y ∷ xs) zero x is = omega arith
within (y ∷ xs) (suc n) x is = let rest = within xs n x is in omega (arith, rest)

gap_behind : (n count : ℕ) → n < count → (gap : ℕ) × (count ≡ suc (n + gap))
gap_behind n zero less = absurd (omega (arith, less))
gap_behind zero (suc count) less = (count, omega arith)
gap_behind (suc n) (suc count) less =
    let rest = gap_behind n count (omega (arith, less)) in
    let same = rest.1 in
    (rest.0, omega (arith, same))

nothing : {A : Type 0} (x : A) (xs : List A) → [] ≡ x ∷ xs → ⊥
nothing x xs e = cc e

head_is : {A : Type 0} {x y : A} {xs ys : List A} → x ∷ xs ≡ y ∷ ys → x ≡ y
head_is e = cc e

tail_is : {A : Type 0} {x y : A} {xs ys : List A} → x ∷ xs ≡ y ∷ ys → xs ≡ ys
tail_is e = cc e

-- ---- laws of the crates below

pub record WrittenLaws : Type 0 where
  pub link : LinkLaws
  pub made : MadeLaws
  pub compares : Compares
  pub site : (old new : ClassFile) (number : ℕ) (method : Method) → IsClassFile old → IsGrownClass old new → slice_get old.methods number ≡ Some method
      → site_of (header_of new) (method_member new.pool method) ≡ site_of (header_of old) (method_member old.pool method)
  pub calls : (u : UseScope) (opcode : ℕ) (constant : Option Const) (reference : Reference)
      → MethodPasses u (FitsCall u.headers opcode constant) reference
      → AllHold (method_use_checks u (FitsCall u.headers opcode constant) reference)

-- a class that may be made: it is there, may be named, and has objects
record IsNewable (headers : Headers) (from class : Name) : Type 0 where
  there : IsNamedThere headers class
  accessible : IsNamedAccessible headers from class
  form : IsInstantiable headers class

newable : (u : UseScope) (index : ℕ) (class : Name) → class_at u.pool index ≡ Some class → AllHold (new_checks u index) → IsNewable u.headers u.site.class class
newable u index class is held =
    let asked = rw (is) at held in
    record { there = asked.0; accessible = asked.1.0; form = asked.1.1.0 }

module _ (laws : WrittenLaws) (r : Rewriting) (files : List ClassFile) (w : IsFolderWritten r files) (verified : IsOfVerified r)
    (ready : IsReadyFolder r files w)
    (at : MethodAt) (v : Rewritten) (host now : Scope) (is : IsWrittenIn r files w at v host now) where
  abbrev before : Headers
  before = headers_of r.classes

  abbrev after : Headers
  after = headers_of (with_folder r.classes files)

  abbrev s : PlanScope
  s = plan_scope r.classes r.links v.one

  abbrev flat : FlatCode
  flat = v.one.flat

  abbrev pool : Constants
  pool = now.class.pool

  abbrev site : Site
  site = site_of (header_of host.class) (method_member host.class.pool host.method)

  -- where the references of the written method stand
  abbrev here : UseScope
  here = record { headers = after; pool = pool; site = site }

  is_one : w.written at ≡ Some v.one
  is_one = w.rewritten.all at v is.is

  known : IsRewrittenHost r at v.one
  known = rewritten_host r files w at v.one is_one

  host_ready : IsReadyHost r at v.one
  host_ready = ready.ready at v.one is_one

  carries : CarriesConstants r.classes flat
  carries = ready.carries at flat known.expanded

  flat_host : flat.host ≡ at
  flat_host = ap (λ (f : FlatCode). f.host) known.expanded.is ∙ known.expanded.own

  file_at : (number : ℕ) (file : ClassFile) → slice_get r.classes.folder number ≡ Some file → IsClassFile file
  file_at number file there = at_index IsClassFile r.classes.folder number file verified.tree.folder there

  is_file : IsClassFile host.class
  is_file = file_at at.class host.class is.of_folder

  class_grown : IsGrownClass host.class now.class
  class_grown = ready.grown at.class host.class now.class is.of_folder is.written

  own_grown : (number : ℕ) (file also : ClassFile) → slice_get r.classes.folder number ≡ Some file
      → IsClassWritten r w.written w.s number file also
      → IsGrownHeader (header_of file) (header_of also)
  own_grown number file also there written = laws.made.declared.header file also (file_at number file there) (ready.grown number file also there written)

  first : constant_at pool 0 ≡ None
  first = first_is_none host.class.pool pool (file_starts host.class is_file) (record { more = class_grown.more; is = class_grown.pool })

  -- ---- the pool

  begins : Begins v.code_pool pool
  begins =
      let same_file : is.is.file ≡ host.class = same_Some is.is.file host.class (sym is.is.is_file ∙ is.of_folder) in
      let before_it : IsPoolBefore r at.class host.class at.method is.is.pool =
      subst (λ (f : ClassFile). IsPoolBefore r at.class f at.method is.is.pool) same_file is.is.before in
      let gap = gap_behind at.method (length host.class.methods) (within host.class.methods at.method host.method is.of_method) in
      let last : IsPoolBefore r at.class host.class (suc (at.method + gap.0)) is.written.code_pool =
      subst (λ (n : ℕ). IsPoolBefore r at.class host.class n is.written.code_pool) gap.1 is.written.before_constructors in
      let through = written_begins r ready.one at.class host.class at.method is.is.pool v before_it is.is.is gap.0 (at.method + gap.0) is.written.code_pool refl last in
      subst (Begins v.code_pool) (sym (ap (λ (c : ClassFile). c.pool) is.written.is))
      (begins_through v.code_pool v.pool is.written.pool (rewritten_begins r at is.is.pool v is.is.is).1
      (begins_through v.pool is.written.code_pool is.written.pool through
      (added_begins r w.written host.class is.written.code_pool is.written.pool is.written.added is.written.adds)))

  abbrev blocks : List Finished
  blocks = finished_of r.classes r.links v.one

  abbrev items : List WItem
  items = written_items v.one.form blocks

  meant : AllByRecursion (ItemMeant s r.constructor pool) items
  meant = written_meant s r.constructor pool laws.compares 64535 v.code_pool begins is.is.pool v.one.form blocks is.is.is.coded.grows

  -- ---- as they are emitted, and where their references stand

  in_class : plain_items v.items ≡ indexed_items s r.constructor pool v.one.form blocks
  in_class =
      is.is.is.coded.items
      ∙ sym (items_stay laws.compares s r.constructor 64535 v.code_pool pool begins is.is.pool v.one.form blocks is.is.is.coded.grows)

  uses_same : uses_in now ≡ here
  uses_same =
      ap (λ (h : Headers). record { headers = h; pool = pool; site = site_of (header_of now.class) (method_member pool now.method) }) is.headers
      ∙ ap (λ (m : Method). record { headers = after; pool = pool; site = site_of (header_of now.class) (method_member pool m) }) is.method
      ∙ ap (λ (one : Site). record { headers = after; pool = pool; site = one })
      (laws.site host.class now.class at.method host.method is_file class_grown is.of_method)

  -- ---- an instruction among the items

  record IsKnownItem (instr : WInstr) : Type 0 where
    number : ℕ
    item : WItem
    is_item : slice_get items number ≡ Some item
    same_instr : item.instr ≡ instr
    meaning : InstrMeant s r.constructor pool instr

  abbrev Passes : WInstr → Type 0
  Passes instr = IsKnownItem instr → AllHold (instr_use_checks here (indexed_instr s r.constructor pool instr))

  ready_instr : (number : ℕ) (point : Point) (class : ℕ) (instr : Instr) → slice_get flat.points number ≡ Some point → point.instr ≡ Of class instr
      → IsReadyInstr r.classes flat.locals class instr
  ready_instr number point class instr there is_instr =
      subst (IsReadyItem r.classes flat.locals) is_instr
      (at_index (λ (one : Point). IsReadyItem r.classes flat.locals one.instr) flat.points number point host_ready.code.points there)

  of_host_class : (class : ℕ) (file : ClassFile) → class ≡ flat.host.class → slice_get r.classes.folder class ≡ Some file → file ≡ host.class
  of_host_class class file same_class there =
      same_Some file host.class
      (sym there ∙ ap (slice_get r.classes.folder) (same_class ∙ ap (λ (a : MethodAt). a.class) flat_host) ∙ is.of_folder)

  -- ---- instructions of the host's class

  module _ (class : ℕ) (instr : Instr) (one : IsReadyInstr r.classes flat.locals class instr) (same_class : class ≡ flat.host.class) where
    file_same : one.file ≡ host.class
    file_same = of_host_class class one.file same_class one.there

    own_fits : OperandFits host.class.pool host.class.major flat.locals instr
    own_fits = subst (λ (f : ClassFile). OperandFits f.pool f.major flat.locals instr) file_same one.operand

    own_asked : AllHold (instr_use_checks (record { headers = before; pool = host.class.pool; site = site }) instr)
    own_asked =
        subst
        (λ (f : ClassFile). AllHold (instr_use_checks (record { headers = before; pool = f.pool; site = site_of (header_of f) (method_member host.class.pool host.method) }) instr))
        file_same (one.linked (method_member host.class.pool host.method))

    own_passes : AllHold (instr_use_checks here instr)
    own_passes = laws.link.linked before after host.class now.class flat.locals instr site ready.headers is_file class_grown own_fits own_asked

    own_still : AllHold (instr_use_checks (record { headers = after; pool = host.class.pool; site = site }) instr)
    own_still =
        laws.link.linked before after host.class host.class flat.locals instr site ready.headers is_file (laws.link.itself host.class) own_fits own_asked

  -- ---- instructions of other classes

  module _ (class : ℕ) (instr : Instr) (u : IsOfCallee r.classes host class instr) where
    abbrev callee : Scope
    callee = record u.scope { headers = before }

    callee_file : IsClassFile callee.class
    callee_file = file_at class u.scope.class u.file

    callee_asked : AllHold (instr_use_checks (scope_uses callee) instr)
    callee_asked = subst (λ (h : Headers). AllHold (instr_use_checks (record (uses_of u.scope) { headers = h }) instr)) u.headers u.linked

    callee_open : NamesOpen callee site.class instr
    callee_open = subst (λ (h : Headers). NamesOpen (record u.scope { headers = h }) (header_of host.class).name instr) u.headers u.open_to

    callee_pool : pool_of s class ≡ u.scope.class.pool
    callee_pool = rw (u.file) refl

    callee_fits : IsReadyInstr r.classes flat.locals class instr → OperandFits callee.class.pool callee.class.major flat.locals instr
    callee_fits one =
        subst (λ (f : ClassFile). OperandFits f.pool f.major flat.locals instr) (same_Some one.file u.scope.class (sym one.there ∙ u.file)) one.operand

    abbrev Opens : Instr → Type 0
    Opens i = OpensFor laws.link callee after site pool callee_file ready.headers first i

    module _ (item : IsKnownItem (carried class instr)) where
      callee_opens : (i : Instr) → instr ≡ i → Opens i
      callee_opens (GetField index) same = λ rf named field found finds finds_also kept private instance of_folder package_same.
          field_opened r files w ready.headers verified.links own_grown laws.link.one_field at v.one host.class item.number item.item class index rf field
          found is_one is.of_folder item.is_item
          (λ used linked. subst (UsesField s used) (sym (item.same_instr ∙ ap (carried class) same)) (reads class index linked))
          (ap (λ (p : Constants). reference_of p (constant_at p index)) callee_pool ∙ named) finds finds_also kept private instance of_folder package_same
      callee_opens (PutField index) same = λ rf named field found finds finds_also kept private instance of_folder package_same.
          field_opened r files w ready.headers verified.links own_grown laws.link.one_field at v.one host.class item.number item.item class index rf field
          found is_one is.of_folder item.is_item
          (λ used linked. subst (UsesField s used) (sym (item.same_instr ∙ ap (carried class) same)) (writes class index linked))
          (ap (λ (p : Constants). reference_of p (constant_at p index)) callee_pool ∙ named) finds finds_also kept private instance of_folder package_same
      callee_opens _ same = tt

      callee_passes : IsReadyInstr r.classes flat.locals class instr → IsCarriable u.scope.class.pool instr → class ≢ flat.host.class
          → AllHold (instr_use_checks here (with_index (index_of_last pool (needs_of_index (pool_of s class) (named_index instr))) instr))
      callee_passes one may foreign =
          subst (λ (p : Constants). AllHold (instr_use_checks here (with_index (index_of_last pool (needs_of_index p (named_index instr))) instr))) (sym callee_pool)
          (foreign_passes laws.link callee after site pool callee_file ready.headers first flat.locals instr (callee_fits one) may
          (λ index named. subst (λ (p : Constants). Means p index pool (index_of_last pool (needs_at p index))) callee_pool (item.meaning foreign index named))
          callee_open (callee_opens instr refl) callee_asked)

  -- ---- each instruction of the flat code

  module _ (usable : IsUsableCode r.classes host flat) where
    carried_passes : (number : ℕ) (point : Point) (class : ℕ) (instr : Instr) → slice_get flat.points number ≡ Some point → point.instr ≡ Of class instr
        → Passes (carried class instr)
    carried_passes number point class instr there is_instr item = by (class == flat.host.class) refl where
      one : IsReadyInstr r.classes flat.locals class instr
      one = ready_instr number point class instr there is_instr

      foreign : class ≢ flat.host.class → IsUsable r.classes host flat point class instr
          → AllHold (instr_use_checks here (with_index (index_of_last pool (needs_of_index (pool_of s class) (named_index instr))) instr))
      foreign other (of_host u) = absurd (other u.own)
      foreign other (of_callee u) =
          callee_passes class instr u item one (carries number point class instr u.scope.class there is_instr u.file other) other

      by : (own : Bool) → (class == flat.host.class) ≡ own → AllHold (instr_use_checks here (indexed_instr s r.constructor pool (carried class instr)))
      by true own = rw (own) (own_passes class instr one ((Decides-eqb class flat.host.class).0 own))
      by false own =
          rw (own)
          (foreign (λ same. false≢true (sym own ∙ (Decides-eqb class flat.host.class).1 same)) (usable number point class instr there is_instr))

    -- ---- what is made

    site_newable : (number : ℕ) (one : FlatSite) → slice_get flat.sites number ≡ Some one → IsNewable after site.class one.class
    site_newable number one is_site = by (usable one.at of.point of.class (New of.index) of.there of.is_new) where
      of : IsSite r.classes flat one
      of = at_index (IsSite r.classes flat) flat.sites number one host_ready.sites.sites is_site

      new_ready : IsReadyInstr r.classes flat.locals of.class (New of.index)
      new_ready = ready_instr one.at of.point of.class (New of.index) of.there of.is_new

      by : IsUsable r.classes host flat of.point of.class (New of.index) → IsNewable after site.class one.class
      by (of_host u) =
          newable (record { headers = after; pool = host.class.pool; site = site }) of.index one.class
          (ap (λ (f : ClassFile). class_at f.pool of.index) (sym (of_host_class of.class of.file u.own of.of_class)) ∙ of.named)
          (own_still of.class (New of.index) new_ready u.own)
      by (of_callee u) =
          let named : class_at u.scope.class.pool of.index ≡ Some one.class =
          ap (λ (f : ClassFile). class_at f.pool of.index) (same_Some u.scope.class of.file (sym u.file ∙ of.of_class)) ∙ of.named in
          let scope : Scope = callee of.class (New of.index) u in
          let found =
          newable (record (scope_uses scope) { headers = after }) of.index one.class named
          (laws.link.linked before after u.scope.class u.scope.class flat.locals (New of.index) (scope_uses scope).site ready.headers
          (callee_file of.class (New of.index) u) (laws.link.itself u.scope.class) (callee_fits of.class (New of.index) u new_ready)
          (callee_asked of.class (New of.index) u)) in
          record {
            there = found.there;
            accessible = opened laws.link scope after site pool (callee_file of.class (New of.index) u) ready.headers first one.class
                (callee_open of.class (New of.index) u one.class named);
            form = found.form;
          }

    made_passes : (number : ℕ) (one : FlatSite) → slice_get flat.sites number ≡ Some one → Passes (makes one.class)
    made_passes number one is_site item =
        let found = site_newable number one is_site in
        let meaning = item.meaning in
        rw (meaning) (found.there, (found.accessible, (found.form, tt)))

    constructed_passes : (number : ℕ) (one : FlatSite) → slice_get flat.sites number ≡ Some one → Passes (constructs one.class)
    constructed_passes number one is_site item =
        let named : NamesMember pool (index_of_last pool (constructor_needs one.class (r.constructor one.class))) of_method one.class init (r.constructor one.class) =
        item.meaning in
        let reference : Reference = record { class = one.class; name = init; desc = r.constructor one.class } in
        let there : reference_at pool named.of_class named.named ≡ Some reference = rw (named.class_is, named.name_is, named.desc_is) refl in
        rw (named.is, there)
        (laws.calls here INVOKESPECIAL (Some (consts.Methodref named.of_class named.named)) reference
        (constructor_passes laws.made r files w verified ready one.class is_made pool site named.of_class named.named
        (site_newable number one is_site).accessible)) where
          among : StandsAmong s (makes one.class) items
          among = constructed_is_made s v.one.form v.one.routes item.number item.item one.class item.is_item item.same_instr

          candidate : IsCandidate r.classes one.class
          candidate = (at_index (IsSite r.classes flat) flat.sites number one host_ready.sites.sites is_site).candidate

          apart : bytes_eq one.class object ≡ false
          apart = by (bytes_eq one.class object) refl where
            by : (b : Bool) → bytes_eq one.class object ≡ b → bytes_eq one.class object ≡ false
            by true same =
                absurd (none-some candidate.header (sym (no_folder_object r.classes verified.tree ready.hierarchy)
                ∙ ap (λ (n : Name). named n before.folder) (sym ((bytes_eq-Decides one.class object).0 same)) ∙ candidate.found))
            by false same = same

          is_made : IsMade r w.written one.class
          is_made = record {
            class = one.class;
            makes = record {
              at = at;
              one = v.one;
              is_written = is_one;
              number = among.number;
              item = among.item;
              is_item = among.is_item;
              makes_it = among.is;
            };
            of_chain = kept_name one.class (superclasses before one.class)
                (itself before ready.hierarchy one.class candidate.header (class_of_folder before one.class candidate.header candidate.found)) apart;
          }

    -- ---- all sorts

    either_class : (class : ℕ) (instr : Instr) → AllHold (instr_use_checks here instr) → ((n : ℕ) → AllHold (instr_use_checks here (with_index n instr)))
        → AllHold (instr_use_checks here (indexed_instr s r.constructor pool (carried class instr)))
    either_class class instr held indexed = by (class == flat.host.class) refl where
      by : (own : Bool) → (class == flat.host.class) ≡ own → AllHold (instr_use_checks here (indexed_instr s r.constructor pool (carried class instr)))
      by true own = rw (own) held
      by false own = rw (own) (indexed (index_of_last pool (needs_of_index (pool_of s class) (named_index instr))))

    abbrev CarriedPasses : ℕ → Instr → Type 0
    CarriedPasses class instr = AllHold (instr_use_checks here (indexed_instr s r.constructor pool (carried class instr)))

    opposite_passes : (class : ℕ) (instr other : Instr) → opposite_instr instr ≡ Some other → CarriedPasses class other
    opposite_passes class (If opcode to) other is =
        subst (CarriedPasses class) (same_Some (If (opposite opcode) to) other is) (either_class class (If (opposite opcode) to) tt (λ n. tt))
    opposite_passes class (If2 opcode to) other is =
        subst (CarriedPasses class) (same_Some (If2 (opposite opcode) to) other is) (either_class class (If2 (opposite opcode) to) tt (λ n. tt))
    opposite_passes class (IfSame opcode to) other is =
        subst (CarriedPasses class) (same_Some (IfSame (opposite opcode) to) other is) (either_class class (IfSame (opposite opcode) to) tt (λ n. tt))
    opposite_passes class (IfNull opcode to) other is =
        subst (CarriedPasses class) (same_Some (IfNull (opposite opcode) to) other is) (either_class class (IfNull (opposite opcode) to) tt (λ n. tt))
    opposite_passes class _ other is = absurd (none-some other is)

    sorts_pass : HoldsOfWritten s Passes
    sorts_pass = record {
      simple = record {
        loads = λ kind unit item. tt;
        stores = λ kind unit item. tt;
        consts = λ value form item. tt;
        pures = λ opcode form item. tt;
        shuffles = λ opcode form item. tt;
      };
      enter = λ item. tt;
      made = made_passes;
      constructed = constructed_passes;
      carries = carried_passes;
      opposite = λ class instr other holds is item. opposite_passes class instr other is;
      goto = λ item. tt;
      nop = λ item. tt;
      null_jump = λ item. tt;
      throw = λ item. tt;
    }

    items_pass : AllByRecursion (λ (one : WItem). AllHold (instr_use_checks here (indexed_instr s r.constructor pool one.instr))) items
    items_pass =
        each_of (λ (one : WItem). AllHold (instr_use_checks here (indexed_instr s r.constructor pool one.instr))) items
        (λ n one got. item_written s Passes sorts_pass v.one.form v.one.routes n one got (record {
          number = n;
          item = one;
          is_item = got;
          same_instr = refl;
          meaning = (at_index (ItemMeant s r.constructor pool) items n one meant got).instr;
        }))

    -- ---- as they are emitted, and laid out

    emitted_pass : (place : ℕ) (given : List EmitItem) (ones : List WItem)
        → plain_items given ≡ map_numbered (indexed_item s r.constructor pool v.one.form blocks) place ones
        → AllByRecursion (λ (one : WItem). AllHold (instr_use_checks here (indexed_instr s r.constructor pool one.instr))) ones
        → AllByRecursion (λ (item : EmitItem). AllHold (instr_use_checks here item.instr)) given
    emitted_pass place [] ones same pass = tt
    emitted_pass place (item ∷ given) [] same pass = absurd (nothing _ _ (sym same))
    emitted_pass place (item ∷ given) (one ∷ ones) same pass =
        let numbers : List ℕ = map (target_number v.one.form blocks place) one.targets in
        let instr : item.instr ≡ jumping_to numbers (indexed_instr s r.constructor pool one.instr) = ap (λ (i : IndexedItem). i.instr) (head_is same) in (
          subst (λ (i : Instr). AllHold (instr_use_checks here i)) (sym instr)
              (uses_jump here numbers (indexed_instr s r.constructor pool one.instr) pass.0),
          emitted_pass (suc place) given ones (tail_is same) pass.1,
        )

    laid_pass : (spelled : Spelled) (place : ℕ → ℕ) (start : ℕ) (given : List EmitItem)
        → AllByRecursion (λ (item : EmitItem). AllHold (instr_use_checks here item.instr)) given
        → AllHold (asked_each (λ (placed : Placed). instr_use_checks here placed.instr) (placed_from spelled place start given))
    laid_pass spelled place start [] pass = tt
    laid_pass spelled place start (item ∷ given) pass =
        both_hold (instr_use_checks here (with_targets place item.instr))
        (asked_each (λ (placed : Placed). instr_use_checks here placed.instr) (placed_from spelled place (start + len_of spelled start item.instr) given))
        (uses_target here place item.instr pass.0) (laid_pass spelled place (start + len_of spelled start item.instr) given pass.1)

    -- ---- the whole

    part_code : decoded now.part.code ≡ Ok (placed_items (spelled_in v.one.form) v.items)
    part_code = ap (λ (p : CodePart). decoded p.code) is.part ∙ ap decoded is.is.is.code ∙ is.is.is.framed.laid.decodes.covers

    -- Every instruction of the written code names what passes.
    pub instrs_linked : AllHold (instrs_checks (uses_in now) (decoded now.part.code))
    instrs_linked =
        subst (λ (u : UseScope). AllHold (instrs_checks u (decoded now.part.code))) (sym uses_same)
        (subst (λ (d : Result (List Placed) Fault). AllHold (instrs_checks here d)) (sym part_code)
        (laid_pass (spelled_in v.one.form) _ 0 v.items (emitted_pass zero v.items items in_class items_pass)))

  -- ---- what handlers catch

  module _ (caught : AreUsableCatches host flat) where
    -- a class that handlers catch passes among the written classes
    class_passes : (name : Name) → ClassPasses (uses_of host) name → AllHold (named_class_checks here name)
    class_passes name passes = (still_there (element_class name) passes.there, (still_accessible (element_class name) passes.accessible, tt)) where
      same_before : host.headers ≡ before
      same_before = (scope_is_at r.classes at host is.is_host).headers

      still_there : (found : Option Name) → IfSome found (IsThere host.headers) → IfSome found (IsThere after)
      still_there None there = there
      still_there (Some class) there =
          there_alike before after (alike_shapes before after (laws.made.declared.alike before after ready.headers)) class
          (subst (λ (h : Headers). IsThere h class) same_before there)

      still_accessible : (found : Option Name) → IfSome found (IsClassAccessible host.headers site.class) → IfSome found (IsClassAccessible after site.class)
      still_accessible None accessible = accessible
      still_accessible (Some class) accessible =
          laws.link.class_access before after site.class class ready.headers
          (subst (λ (h : Headers). IsClassAccessible h site.class class) same_before accessible)

    abbrev IndexPasses : ℕ → Type 0
    IndexPasses index = AllHold (asked_if (not (index == 0)) (class_use_checks here index))

    caught_passes : (class : Option Name) → CatchIsOf flat class → CatchMeant s r.constructor pool class → IndexPasses (catch_index pool class)
    caught_passes None of meaning = tt
    caught_passes (Some name) of meaning = by (not (catch_index pool (Some name) == 0)) where
      by : (b : Bool) → AllHold (asked_if b (class_use_checks here (catch_index pool (Some name))))
      by false = tt
      by true = rw (meaning) (class_passes name (caught of.number of.point of.at of.handler name of.there of.is_handler of.catches))

    abbrev CatchPasses : WCatch → Type 0
    CatchPasses catch = IndexPasses (catch_index pool catch.class)

    one_catches : (catches : List WCatch) → AllByRecursion (λ (catch : WCatch). CatchIsOf flat catch.class) catches
        → AllByRecursion (λ (catch : WCatch). CatchMeant s r.constructor pool catch.class) catches
        → AllByRecursion CatchPasses catches
    one_catches [] of meaning = tt
    one_catches (catch ∷ catches) of meaning = (caught_passes catch.class of.0 meaning.0, one_catches catches of.1 meaning.1)

    items_catch : AllByRecursion (λ (one : WItem). AllByRecursion CatchPasses one.catches) items
    items_catch =
        each_of (λ (one : WItem). AllByRecursion CatchPasses one.catches) items
        (λ n one got. one_catches one.catches (at_index (CatchesAreOf flat) items n one (catches_are_of s v.one.form v.one.routes) got)
        (at_index (ItemMeant s r.constructor pool) items n one meant got).catches)

    same_catches : (place : ℕ) (given : List EmittedCatch) (wanted : List WCatch)
        → map {B = ℕ × ℕ} (λ (catch : EmittedCatch). (catch.to, catch.catch_type)) given
        ≡ map {B = ℕ × ℕ} (λ (catch : WCatch). (target_number v.one.form blocks place catch.to, catch_index pool catch.class)) wanted
        → AllByRecursion CatchPasses wanted
        → AllByRecursion (λ (catch : EmittedCatch). IndexPasses catch.catch_type) given
    same_catches place [] wanted same pass = tt
    same_catches place (one ∷ given) [] same pass = absurd (nothing _ _ (sym same))
    same_catches place (one ∷ given) (want ∷ wanted) same pass =
        let heads : (one.to, one.catch_type) ≡ (target_number v.one.form blocks place want.to, catch_index pool want.class) = head_is same in
        let index : one.catch_type ≡ catch_index pool want.class = ap (λ (p : ℕ × ℕ). p.1) heads in
        (subst IndexPasses (sym index) pass.0, same_catches place given wanted (tail_is same) pass.1)

    emitted_catch : (place : ℕ) (given : List EmitItem) (ones : List WItem)
        → plain_items given ≡ map_numbered (indexed_item s r.constructor pool v.one.form blocks) place ones
        → AllByRecursion (λ (one : WItem). AllByRecursion CatchPasses one.catches) ones
        → AllByRecursion (λ (item : EmitItem). AllByRecursion (λ (catch : EmittedCatch). IndexPasses catch.catch_type) item.catches) given
    emitted_catch place [] ones same pass = tt
    emitted_catch place (item ∷ given) [] same pass = absurd (nothing _ _ (sym same))
    emitted_catch place (item ∷ given) (one ∷ ones) same pass = (
      same_catches place item.catches one.catches (ap (λ (i : IndexedItem). i.catches) (head_is same)) pass.0,
      emitted_catch (suc place) given ones (tail_is same) pass.1,
    )

    ranges_catch : (place : ℕ → ℕ) (start end : ℕ) (given : List EmittedCatch)
        → AllByRecursion (λ (catch : EmittedCatch). IndexPasses catch.catch_type) given
        → AllHold (asked_each (handler_use_checks here) (map (range_of place start end) given))
    ranges_catch place start end [] pass = tt
    ranges_catch place start end (catch ∷ given) pass =
        both_hold (handler_use_checks here (range_of place start end catch)) (asked_each (handler_use_checks here) (map (range_of place start end) given)) pass.0
        (ranges_catch place start end given pass.1)

    asked_both : (ones others : List Handler) → AllHold (asked_each (handler_use_checks here) ones) → AllHold (asked_each (handler_use_checks here) others)
        → AllHold (asked_each (handler_use_checks here) (ones ++ others))
    asked_both [] others one other = other
    asked_both (handler ∷ ones) others one other =
        both_hold (handler_use_checks here handler) (asked_each (handler_use_checks here) (ones ++ others))
        (first_holds (handler_use_checks here handler) (asked_each (handler_use_checks here) ones) one)
        (asked_both ones others (others_hold (handler_use_checks here handler) (asked_each (handler_use_checks here) ones) one) other)

    table_catches : (spelled : Spelled) (place : ℕ → ℕ) (start : ℕ) (given : List EmitItem)
        → AllByRecursion (λ (item : EmitItem). AllByRecursion (λ (catch : EmittedCatch). IndexPasses catch.catch_type) item.catches) given
        → AllHold (asked_each (handler_use_checks here) (ranges_from spelled place start given))
    table_catches spelled place start [] pass = tt
    table_catches spelled place start (item ∷ given) pass =
        let end : ℕ = start + len_of spelled start item.instr in
        asked_both (map (range_of place start end) item.catches) (ranges_from spelled place end given) (ranges_catch place start end item.catches pass.0)
        (table_catches spelled place end given pass.1)

    part_handlers : now.part.handlers ≡ item_ranges (spelled_in v.one.form) v.items
    part_handlers = ap (λ (p : CodePart). p.handlers) is.part ∙ is.is.is.handlers ∙ is.is.is.framed.laid.handlers

    -- Every class that handlers of the written code catch passes.
    pub handlers_linked : AllHold (asked_each (handler_use_checks (uses_in now)) now.part.handlers)
    handlers_linked =
        subst (λ (u : UseScope). AllHold (asked_each (handler_use_checks u) now.part.handlers)) (sym uses_same)
        (subst (λ (table : List Handler). AllHold (asked_each (handler_use_checks here) table)) (sym part_handlers)
        (table_catches (spelled_in v.one.form) _ 0 v.items (emitted_catch zero v.items items in_class items_catch)))
