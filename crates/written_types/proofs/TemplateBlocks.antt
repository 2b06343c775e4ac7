-- The block of an instruction that has a template carries each frame to what is behind it, whichever instruction it is.
use Rattle.std.proofs.Common.{◌≡◌, ℕ, Bool, true, false, List, [], ◌∷◌, ◌++◌, length, slice_get, Option, Some, None, option_and_then, refl, sym, ap, subst, ◌∙◌}
use Rattle.std.specs.Prelude.{◌==◌, ◌&&◌, ◌||◌, if◌then◌else◌}
use Rattle.std.proofs.lemmas.Bool.{false≢true}
use Rattle.std.proofs.lemmas.Option.{none-some}
use Rattle.class_model.specs.Descriptors.{parameters_of}
use Rattle.class_model.specs.Pool.{Constants, constant_at}
use Rattle.class_model.specs.PoolChecks.{class_at}
use Rattle.class_model.specs.declared.instr.Instr.{Instr}
use Rattle.class_model.specs.declared.instr.Instr.TheVariants.{Load, Store, Shuffle, IfSame, IfNull, Goto, GetField, PutField, Invoke, New, Cast, InstanceOf, Enter, Leave}
use Rattle.class_model.specs.declared.opcodes.TheConstants.{INVOKESPECIAL}
use Rattle.class_tree.specs.Headers.{Name}
use Rattle.flow_code.specs.ReadTypes.{is_site_object}
use Rattle.flow_code.specs.declared.point.FlatInstr.{FlatInstr}
use Rattle.flow_code.specs.declared.point.FlatInstr.TheVariants.{Of}
use Rattle.flow_code.specs.declared.point.Point.{Point}
use Rattle.making_code.specs.Items.{WInstr}
use Rattle.member_link.specs.Machine.CallSteps.{is_object_init}
use Rattle.member_link.specs.References.{Reference}
use Rattle.class_model.specs.declared.frame.VType.TheVariants as types
use Rattle.member_link.specs.Rows.MemberRows.{put_field_row, receiver}
use Rattle.member_link.specs.Rows.Operands.{assignable_or_this, assignable_to, topmost}
use Rattle.member_link.specs.Rows.Row.{stack_behind}
use Rattle.member_link.specs.Signatures.{field_type, reference_of}
use Rattle.plan_flow.specs.PlanScope.{field_of, member_of, pool_of, site_at}
use Rattle.plan_flow.specs.PlanSlots.{changed, held, is_open, readable}
use Rattle.plan_flow.specs.PlanTable.{falls_on, operand, put_field_row as plan_put}
use Rattle.plan_flow.specs.Written.Templates.{get_template, init_template, instance_template, is_virtual, new_template, nothing_of, null_template, put_template, same_template, template}
use Rattle.same_runs.specs.ReadyCode.{IsReadyItem}
use Rattle.virtual_state.specs.States.{State, is_present}
use Rattle.virtual_state.specs.declared.slot.Slot.{Slot}
use Rattle.virtual_state.specs.declared.slot.Slot.TheVariants.{Plain, Virt, Unusable}
use Rattle.written_types.proofs.CallRows.{IsObjectInit}
use Rattle.written_types.proofs.DecidedJumps.{goto_template, null_template_carries, same_template_carries}
use Rattle.written_types.proofs.FieldReads.{FieldsNumbered, get_template_carries, named_in}
use Rattle.written_types.proofs.FieldWrites.{put_plain, put_virtual}
use Rattle.written_types.proofs.Given.{EdgesFit, EndsCarry, Given, MakesCarry, entries_in}
use Rattle.written_types.proofs.InitTemplates.{none_virtual, pops_plain, takes_virtual}
use Rattle.written_types.proofs.MadeTemplates.{instance_carries}
use Rattle.written_types.proofs.NewSites.{new_template_carries}
use Rattle.written_types.proofs.ObjectInits.{object_init}
use Rattle.written_types.proofs.RowTable.{same_pool}
use Rattle.written_types.proofs.ShuffleTemplates.{shuffle_template}
use Rattle.written_types.proofs.SiteFields.{SitesKnown}
use Rattle.written_types.proofs.Standing.{all_at}
use Rattle.written_types.proofs.StillTemplates.{cast_template, enter_template, leave_template, load_template, store_template}
use Rattle.written_types.proofs.OperandRows.{Fit, no_operand}
use Rattle.written_types.proofs.TemplateRows.{TwoTypes, as_many, holds_for, nothing_template, operands_are, plan_for, row_for, scope_for, two_types}
use Rattle.written_types.proofs.Templates.{Before, locals_stay, number, read, state}
use Rattle.written_types.specs.Inner.CarriedFrames.{BlockCarries}
use Rattle.written_types.specs.Writing.{Writing}

module _ (w : Writing) (given : Given w) (fit : EdgesFit w given) (ends : EndsCarry w given) (makes : MakesCarry w given) (known : SitesKnown w.s)
    (numbers : FieldsNumbered w) (b : Before w given) (class : ℕ) where
  abbrev now : State
  now = state w given b

  abbrev Carried : Type 0
  Carried = BlockCarries w (number w given b) b.one b.behind b.frame

  no_template : {instrs : List WInstr} → None ≡ Some instrs → Carried
  no_template {instrs} is = absurd (none-some instrs is)

  -- ---- operands that are virtual

  never_unusable : (place : ℕ) → held now place ≡ Unusable → ⊥
  never_unusable place is = by (slice_get now.slots place) is where
    by : (found : Option Slot) → readable found ≡ Unusable → ⊥
    by None is = cc
    by (Some Plain) is = cc
    by (Some (Virt site)) is = cc
    by (Some Unusable) is = cc

  -- where nothing is written of a virtual object
  of_virtual : (place : ℕ) (instrs : List WInstr) → ((site : ℕ) → held now place ≡ Virt site → Carried) → nothing_of (held now place) ≡ Some instrs
      → Carried
  of_virtual place instrs each is = by (held now place) refl where
    by : (slot : Slot) → held now place ≡ slot → Carried
    by (Virt site) is_slot = each site is_slot
    by Plain is_slot = no_template (ap nothing_of (sym is_slot) ∙ is)
    by Unusable is_slot = no_template (ap nothing_of (sym is_slot) ∙ is)

  -- ---- members

  record IsMember (index : ℕ) (found : Option Reference) (field : Reference) : Type 0 where
    r : Reference
    is : found ≡ Some r
    links : w.s.links.field r ≡ Some field

  linked_member : (index : ℕ) (found : Option Reference) (field : Reference) → option_and_then w.s.links.field found ≡ Some field
      → IsMember index found field
  linked_member index None field is = absurd (none-some field is)
  linked_member index (Some r) field is = record { r = r; is = refl; links = is }

  member_named : (index : ℕ) (r : Reference) → member_of w.s class index ≡ Some r → named_in w class index ≡ Some r
  member_named index r is =
      sym (ap (λ (pool : Constants). reference_of pool (constant_at pool index)) (same_pool w.s class)) ∙ is

  get_carries : (index : ℕ) (instrs : List WInstr) → b.point.instr ≡ Of class (GetField index)
      → get_template w.s now (held now (operand b.point.typed 0)) (field_of w.s class index) ≡ Some instrs
      → Carried
  get_carries index instrs is told = by (held now (operand b.point.typed 0)) refl (field_of w.s class index) refl where
    get_of : Slot → Option Reference → Option (List WInstr)
    get_of slot found = get_template w.s now slot found

    by : (slot : Slot) → held now (operand b.point.typed 0) ≡ slot → (found : Option Reference) → field_of w.s class index ≡ found → Carried
    by (Virt site) is_slot (Some field) is_field =
        let member = linked_member index (member_of w.s class index) field is_field in
        get_template_carries w given b fit ends known numbers class index site is is_slot member.r field (member_named index member.r member.is)
        member.links
    by (Virt site) is_slot None is_field =
        no_template ((λ i. get_template w.s now (sym is_slot i) (sym is_field i)) ∙ told)
    by Plain is_slot found is_field = no_template ((λ i. get_template w.s now (sym is_slot i) (sym is_field i)) ∙ told)
    by Unusable is_slot found is_field = no_template ((λ i. get_template w.s now (sym is_slot i) (sym is_field i)) ∙ told)

  -- ---- a virtual object put by a reference that is not linked

  module _ (index site other : ℕ) (is : b.point.instr ≡ Of class (PutField index)) (into : held now (operand b.point.typed 1) ≡ Virt site)
      (value : held now (operand b.point.typed 0) ≡ Virt other) (r : Reference) (named : named_in w class index ≡ Some r)
      (unlinked : field_of w.s class index ≡ None) where
    abbrev i : FlatInstr
    i = Of class (PutField index)

    two : TwoTypes (scope_for w given b i) (assignable_or_this (types.Object r.class)) (assignable_to (field_type r.desc))
        (topmost 2 (read w given b).stack)
    two =
        two_types (scope_for w given b i) (assignable_or_this (types.Object r.class)) (assignable_to (field_type r.desc)) (topmost 2 (read w given b).stack)
        (subst (λ (found : Option Reference). Fit (scope_for w given b i) (read w given b) (put_field_row (scope_for w given b i) (read w given b) found)) named
        (holds_for w given b i is).operands)

    put_unlinked : Carried
    put_unlinked =
        nothing_template w given b fit ends 2 [] []
        (ap (λ (found : FlatInstr). (plan_for w given b found).stack) is
        ∙ ap (λ (found : Option Reference). (plan_put w.s b.point.typed found).stack) unlinked)
        (ap (λ (found : FlatInstr). stack_behind (read w given b) (row_for w given b found)) is
        ∙ ap (λ (found : Option Reference). stack_behind (read w given b) (put_field_row (scope_for w given b i) (read w given b) found)) named)
        (λ j. entries_in (two.is j)
        ((operands_are w given b 2 (as_many w given b 2 (ap length two.is)) ∙ (λ k. into k ∷ value k ∷ [])) j))
        (locals_stay w given b
        (ap (λ (found : FlatInstr). (row_for w given b found).locals) is
        ∙ ap (λ (found : Option Reference). (put_field_row (scope_for w given b i) (read w given b) found).locals) named)
        (ap (λ (found : FlatInstr). (plan_for w given b found).locals) is
        ∙ ap (λ (found : Option Reference). (plan_put w.s b.point.typed found).locals) unlinked)
        (λ one. ap (λ (found : FlatInstr). is_present (changed w.s now (plan_for w given b found).change ++ now.objects) one) is
        ∙ ap (λ (found : Option Reference). is_present (changed w.s now (plan_put w.s b.point.typed found).change ++ now.objects) one) unlinked))
        (rw (is, into, value) refl) (rw (is) refl) (ap falls_on is)
        (ap (λ (found : FlatInstr). is_open now (plan_for w given b found).next) is
        ∙ ap (λ (found : Option Reference). is_open now (plan_put w.s b.point.typed found).next) unlinked)

  put_carries : (index : ℕ) (instrs : List WInstr) → b.point.instr ≡ Of class (PutField index)
      → put_template w.s (held now (operand b.point.typed 1)) (held now (operand b.point.typed 0)) (field_of w.s class index) ≡ Some instrs
      → Carried
  put_carries index instrs is told =
      by (held now (operand b.point.typed 1)) refl (held now (operand b.point.typed 0)) refl (field_of w.s class index) refl where
        as_told : (into value : Slot) (found : Option Reference) → held now (operand b.point.typed 1) ≡ into → held now (operand b.point.typed 0) ≡ value
            → field_of w.s class index ≡ found
            → put_template w.s into value found ≡ Some instrs
        as_told into value found is_into is_value is_field =
            (λ i. put_template w.s (sym is_into i) (sym is_value i) (sym is_field i)) ∙ told

        unlinked : (site other : ℕ) → held now (operand b.point.typed 1) ≡ Virt site → held now (operand b.point.typed 0) ≡ Virt other
            → field_of w.s class index ≡ None
            → (found : Option Reference)
            → named_in w class index ≡ found
            → Carried
        unlinked site other into value none None no_member =
            absurd (no_operand (scope_for w given b (Of class (PutField index))) (read w given b)
            (subst (λ (found : Option Reference). Fit (scope_for w given b (Of class (PutField index))) (read w given b)
            (put_field_row (scope_for w given b (Of class (PutField index))) (read w given b) found)) no_member
            (holds_for w given b (Of class (PutField index)) is).operands))
        unlinked site other into value none (Some r) named = put_unlinked index site other is into value r named none

        by : (into : Slot) → held now (operand b.point.typed 1) ≡ into → (value : Slot) → held now (operand b.point.typed 0) ≡ value
            → (found : Option Reference) → field_of w.s class index ≡ found
            → Carried
        by (Virt site) is_into Plain is_value (Some field) is_field =
            let member = linked_member index (member_of w.s class index) field is_field in
            put_plain w given b fit ends known numbers class index site is is_into member.r field (member_named index member.r member.is) member.links
            is_value
        by (Virt site) is_into (Virt other) is_value (Some field) is_field =
            let member = linked_member index (member_of w.s class index) field is_field in
            put_virtual w given b fit ends known numbers class index site is is_into member.r field (member_named index member.r member.is) member.links
            other is_value
        by (Virt site) is_into (Virt other) is_value None is_field = unlinked site other is_into is_value is_field (named_in w class index) refl
        by (Virt site) is_into Plain is_value None is_field = no_template (as_told (Virt site) Plain None is_into is_value is_field)
        by (Virt site) is_into Unusable is_value found is_field = no_template (as_told (Virt site) Unusable found is_into is_value is_field)
        by Plain is_into value is_value found is_field = no_template (as_told Plain value found is_into is_value is_field)
        by Unusable is_into value is_value found is_field = no_template (as_told Unusable value found is_into is_value is_field)

  -- ---- calls

  ready_init : (opcode index count : ℕ) (r : Reference) → b.point.instr ≡ Of class (Invoke opcode index count) → named_in w class index ≡ Some r
      → is_object_init r ≡ true
      → IsObjectInit opcode r
  ready_init opcode index count r is named object =
      object_init w.s.classes given.setting.tree.holds w.s.flat.locals class opcode index count
      (subst (IsReadyItem w.s.classes w.s.flat.locals) is
      (all_at (λ (p : Point). IsReadyItem w.s.classes w.s.flat.locals p.instr) w.s.flat.points b.at b.point given.setting.ready.points b.here.there)) r named
      object

  -- what the template tells of the call
  abbrev init_test : Reference → Bool
  init_test r =
      is_virtual (held now (operand b.point.typed (length (parameters_of r.desc)))) || is_site_object w.s.flat (receiver b.point.typed r.desc)

  init_told : (special object test : Bool) (made instrs : List WInstr) → (if special && object && test then Some made else None) ≡ Some instrs
      → (object ≡ true) × (test ≡ true)
  init_told true true true made instrs told = (refl, refl)
  init_told true true false made instrs told = absurd (none-some instrs told)
  init_told true false test made instrs told = absurd (none-some instrs told)
  init_told false object test made instrs told = absurd (none-some instrs told)

  init_carries : (opcode index count : ℕ) (instrs : List WInstr) → b.point.instr ≡ Of class (Invoke opcode index count)
      → init_template w.s b.point.typed now (opcode == INVOKESPECIAL) (member_of w.s class index) ≡ Some instrs
      → Carried
  init_carries opcode index count instrs is told = by (member_of w.s class index) refl where
    of_member : (r : Reference) → named_in w class index ≡ Some r → is_object_init r ≡ true → init_test r ≡ true → Carried
    of_member r named object test = with_object calls (is_site_object w.s.flat (receiver b.point.typed r.desc)) refl where
      calls : IsObjectInit opcode r
      calls = ready_init opcode index count r is named object

      at_top : (slot : Slot) → held now (operand b.point.typed 0) ≡ slot
          → is_virtual (held now (operand b.point.typed (length (parameters_of r.desc)))) ≡ is_virtual slot
      at_top slot is_slot =
          ap (λ (n : ℕ). is_virtual (held now (operand b.point.typed n))) (ap length calls.no_parameters) ∙ ap is_virtual is_slot

      of_site : is_site_object w.s.flat (receiver b.point.typed r.desc) ≡ true → (slot : Slot) → held now (operand b.point.typed 0) ≡ slot → Carried
      of_site object_is (Virt site) is_slot = takes_virtual w given b fit ends class opcode index count is r named object calls object_is site is_slot
      of_site object_is Plain is_slot = pops_plain w given b fit ends class opcode index count is r named object calls object_is is_slot
      of_site object_is Unusable is_slot = absurd (never_unusable (operand b.point.typed 0) is_slot)

      of_other : is_site_object w.s.flat (receiver b.point.typed r.desc) ≡ false → (slot : Slot) → held now (operand b.point.typed 0) ≡ slot → Carried
      of_other other (Virt site) is_slot =
          absurd (none_virtual w given b fit ends class opcode index count is r named object calls site is_slot other)
      of_other other Plain is_slot =
          absurd (false≢true (sym (λ i. (at_top Plain is_slot i) || (other i)) ∙ test))
      of_other other Unusable is_slot =
          absurd (false≢true (sym (λ i. (at_top Unusable is_slot i) || (other i)) ∙ test))

      with_object : IsObjectInit opcode r → (b_site : Bool) → is_site_object w.s.flat (receiver b.point.typed r.desc) ≡ b_site → Carried
      with_object known true object_is = of_site object_is (held now (operand b.point.typed 0)) refl
      with_object known false other = of_other other (held now (operand b.point.typed 0)) refl

    by : (found : Option Reference) → member_of w.s class index ≡ found → Carried
    by None none = no_template (ap (init_template w.s b.point.typed now (opcode == INVOKESPECIAL)) (sym none) ∙ told)
    by (Some r) some =
        let both = init_told (opcode == INVOKESPECIAL) (is_object_init r) (init_test r) _ instrs
        (ap (init_template w.s b.point.typed now (opcode == INVOKESPECIAL)) (sym some) ∙ told) in
        of_member r (member_named index r some) both.0 both.1

  -- ---- comparisons and tests

  same_carries : (opcode to : ℕ) (instrs : List WInstr) → b.point.instr ≡ Of class (IfSame opcode to)
      → same_template w.s b.route (held now (operand b.point.typed 1)) (held now (operand b.point.typed 0)) ≡ Some instrs
      → Carried
  same_carries opcode to instrs is told =
      by (is_virtual (held now (operand b.point.typed 1)) || is_virtual (held now (operand b.point.typed 0))) refl told where
        by : (k : Bool) → (is_virtual (held now (operand b.point.typed 1)) || is_virtual (held now (operand b.point.typed 0))) ≡ k
            → same_template w.s b.route (held now (operand b.point.typed 1)) (held now (operand b.point.typed 0)) ≡ Some instrs
            → Carried
        by true folded same = same_template_carries w given b fit ends makes class opcode to is folded
        by false none same = no_template (sym (rw (none) refl) ∙ same)

  null_carries : (opcode to : ℕ) (instrs : List WInstr) → b.point.instr ≡ Of class (IfNull opcode to)
      → null_template w.s b.route (held now (operand b.point.typed 0)) ≡ Some instrs
      → Carried
  null_carries opcode to instrs is told = by (held now (operand b.point.typed 0)) refl where
    by : (slot : Slot) → held now (operand b.point.typed 0) ≡ slot → Carried
    by (Virt site) is_slot = null_template_carries w given b fit ends makes class opcode to site is is_slot
    by Plain is_slot = no_template (ap (null_template w.s b.route) (sym is_slot) ∙ told)
    by Unusable is_slot = no_template (ap (null_template w.s b.route) (sym is_slot) ∙ told)

  instanceof_carries : (index : ℕ) (instrs : List WInstr) → b.point.instr ≡ Of class (InstanceOf index)
      → instance_template w.s (held now (operand b.point.typed 0)) (class_at (pool_of w.s class) index) ≡ Some instrs
      → Carried
  instanceof_carries index instrs is told = by (held now (operand b.point.typed 0)) refl (class_at (pool_of w.s class) index) refl where
    as_told : (slot : Slot) (found : Option Name) → held now (operand b.point.typed 0) ≡ slot → class_at (pool_of w.s class) index ≡ found
        → instance_template w.s slot found ≡ Some instrs
    as_told slot found is_slot named = (λ i. instance_template w.s (sym is_slot i) (sym named i)) ∙ told

    by : (slot : Slot) → held now (operand b.point.typed 0) ≡ slot → (found : Option Name) → class_at (pool_of w.s class) index ≡ found → Carried
    by (Virt site) is_slot (Some name) named = instance_carries w given b fit ends class index site name is is_slot named
    by (Virt site) is_slot None named = no_template (as_told (Virt site) None is_slot named)
    by Plain is_slot found named = no_template (as_told Plain found is_slot named)
    by Unusable is_slot found named = no_template (as_told Unusable found is_slot named)

  new_carries : (index : ℕ) (instrs : List WInstr) → b.point.instr ≡ Of class (New index) → new_template w.s (site_at w.s.flat b.at) ≡ Some instrs
      → Carried
  new_carries index instrs is told = by (site_at w.s.flat b.at) refl where
    by : (found : Option ℕ) → site_at w.s.flat b.at ≡ found → Carried
    by None none = no_template (ap (new_template w.s) (sym none) ∙ told)
    by (Some site) some = new_template_carries w given b fit ends class index site is some

  -- ---- the table

  -- The block of an instruction that has a template.
  pub template_block : (instr : Instr) (instrs : List WInstr) → b.point.instr ≡ Of class instr
      → template w.s b.at b.point.typed now b.route class instr ≡ Some instrs
      → Carried
  template_block (New index) instrs is told = new_carries index instrs is told
  template_block (Load kind local) instrs is told =
      of_virtual local instrs (λ site virtual. load_template w given b fit ends class kind local site is virtual) told
  template_block (Store kind local) instrs is told =
      of_virtual (operand b.point.typed 0) instrs (λ site virtual. store_template w given b fit ends class kind local site is virtual) told
  template_block (Cast index) instrs is told =
      of_virtual (operand b.point.typed 0) instrs (λ site virtual. cast_template w given b fit ends class index site is virtual) told
  template_block Enter instrs is told =
      of_virtual (operand b.point.typed 0) instrs (λ site virtual. enter_template w given b fit ends class site is virtual) told
  template_block Leave instrs is told =
      of_virtual (operand b.point.typed 0) instrs (λ site virtual. leave_template w given b fit ends class site is virtual) told
  template_block (Invoke opcode index count) instrs is told = init_carries opcode index count instrs is told
  template_block (GetField index) instrs is told = get_carries index instrs is told
  template_block (PutField index) instrs is told = put_carries index instrs is told
  template_block (Shuffle opcode) instrs is told = shuffle_template w given fit ends b class opcode is
  template_block (IfNull opcode to) instrs is told = null_carries opcode to instrs is told
  template_block (IfSame opcode to) instrs is told = same_carries opcode to instrs is told
  template_block (InstanceOf index) instrs is told = instanceof_carries index instrs is told
  template_block (Goto to) instrs is told = goto_template w given b fit ends makes class to is
  template_block other instrs is told = no_template told
