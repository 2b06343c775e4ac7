-- What an instruction is written as, case by case.
use Rattle.std.proofs.Common.{◌≡◌, ◌==◌, ◌&&◌, ◌||◌, ◌+◌, ◌-◌, ◌<◌, ◌≤◌, ℕ, suc, min, Bool, true, false, cond, List, [], ◌∷◌, length, slice_get, Option, Some, None, is_some, option_map, option_and_then, refl, sym, ap, subst, ◌∙◌, arith}
use Rattle.std.proofs.lemmas.Option.{none-some, same_Some, slice_get_past}
use Rattle.class_model.specs.Laws.Lists.{drop_item}
use Rattle.class_model.specs.Descriptors.{parameters_of}
use Rattle.class_model.specs.declared.frame.Frame.{Frame}
use Rattle.class_model.specs.declared.frame.VType.{VType}
use Rattle.code_drafts.proofs.CellLaws.{popped_from}
use Rattle.code_drafts.proofs.FieldLaws.{drop_past}
use Rattle.code_drafts.specs.TemplateWords.{IsFieldAt, half_jump, half_plain, template_meant}
use Rattle.code_drafts.specs.declared.template.Template.{Template}
use Rattle.code_drafts.specs.declared.template.Template.TheVariants as variants
use Rattle.flow_code.specs.FlatCode.{FlatCode}
use Rattle.flow_code.specs.ReadTypes.{class_of_site, is_site_object}
use Rattle.flow_code.specs.declared.point.Site.{Site}
use Rattle.making_code.specs.Units.{fields_at}
use Rattle.member_link.specs.Machine.CallSteps.{is_object_init}
use Rattle.member_link.specs.Machine.Layouts.{capped}
use Rattle.member_link.specs.Machine.Programs.{number_of_first}
use Rattle.member_link.specs.References.{Reference}
use Rattle.member_link.specs.Rows.MemberRows.{receiver}
use Rattle.member_link.specs.Rows.Operands.{lowest_of}
use Rattle.plan_flow.specs.PlanScope.{PlanScope, field_number, site_at}
use Rattle.plan_flow.specs.PlanSlots.{field_held, field_in, held, readable}
use Rattle.plan_flow.specs.PlanTable.{operand}
use Rattle.plan_flow.specs.Written.Routes.{Route}
use Rattle.plan_flow.specs.Written.Templates.{cells, get_template, init_template, is_virtual, load_of_field, pops, put_template, same_template}
use Rattle.virtual_state.specs.States.{State, object_of}
use Rattle.virtual_state.specs.declared.slot.Slot.{Slot}
use Rattle.virtual_state.specs.declared.slot.Slot.TheVariants.{Plain, Virt, Unusable}
use Rattle.virtual_state.specs.declared.slot.VObject.{VObject}

-- ---- fields

module _ (s : PlanScope) (f : Frame) (state : State) (route : Route) (site : ℕ) (field : Reference) where
  get_number : (number : Option ℕ) → field_number s site field ≡ number
      → ((exact : ℕ) → number ≡ Some exact → slice_get (fields_at s.flat site) exact ≡ None)
      → Some [] ≡ get_template s state (Virt site) (Some field)
  get_number None is past = sym (by (field_held s state site field) refl) where
    by : (slot : Slot) → field_held s state site field ≡ slot → get_template s state (Virt site) (Some field) ≡ Some []
    by Plain held_is = rw (held_is, is) refl
    by (Virt other) held_is = rw held_is refl
    by Unusable held_is = rw held_is refl
  get_number (Some exact) is past = sym (by (field_held s state site field) refl) where
    by : (slot : Slot) → field_held s state site field ≡ slot → get_template s state (Virt site) (Some field) ≡ Some []
    by Plain held_is = rw (held_is, is) (ap (λ (type : Option _). Some (load_of_field site exact type)) (past exact refl))
    by (Virt other) held_is = rw held_is refl
    by Unusable held_is = rw held_is refl

  -- there is no such field
  pub get_none : (found : Option ℕ) → IsFieldAt s site field found → found ≡ None
      → Some [] ≡ get_template s state (Virt site) (Some field)
  get_none found at none = get_number (field_number s site field) refl (λ exact is. at.none exact none is)

  put_number : (number : Option ℕ) → field_number s site field ≡ number
      → ((exact : ℕ) → number ≡ Some exact → slice_get (fields_at s.flat site) exact ≡ None)
      → Some [] ≡ put_template s (Virt site) Plain (Some field)
  put_number None is past = sym (rw is refl)
  put_number (Some exact) is past = sym (rw is (rw (past exact refl) refl))

  pub put_none : (found : Option ℕ) → IsFieldAt s site field found → found ≡ None
      → Some [] ≡ put_template s (Virt site) Plain (Some field)
  put_none found at none = put_number (field_number s site field) refl (λ exact is. at.none exact none is)

  pub put_some : (found : Option ℕ) (number : ℕ) → IsFieldAt s site field found → found ≡ Some number
      → template_meant s f state route (variants.Store site number) ≡ put_template s (Virt site) Plain (Some field)
  put_some found number at some = sym (rw (at.some number some) refl)

  -- the slot that a field holds
  held_is : (number : ℕ) → field_number s site field ≡ Some number
      → field_held s state site field ≡ readable (option_and_then (λ (object : VObject). slice_get object.fields number) (object_of state.objects site))
  held_is number is = rw is (by (object_of state.objects site) refl) where
    by : (object : Option VObject) → object_of state.objects site ≡ object
        → field_in (object_of state.objects site) (Some number)
        ≡ readable (option_and_then (λ (object : VObject). slice_get object.fields number) (object_of state.objects site))
    by None there = rw there refl
    by (Some object) there = rw there refl

  pub get_virtual : (number other : ℕ) (slot : Option Slot) → field_number s site field ≡ Some number
      → slot ≡ option_and_then (λ (object : VObject). slice_get object.fields number) (object_of state.objects site)
      → slot ≡ Some (Virt other)
      → Some [] ≡ get_template s state (Virt site) (Some field)
  get_virtual number other slot is found virtual =
      let now : field_held s state site field ≡ Virt other = held_is number is ∙ ap readable (sym found ∙ virtual) in
      sym (rw now refl)

  pub get_plain : (number : ℕ) (slot : Option Slot) → field_number s site field ≡ Some number
      → slot ≡ option_and_then (λ (object : VObject). slice_get object.fields number) (object_of state.objects site)
      → readable slot ≡ Plain
      → template_meant s f state route (variants.Load site number) ≡ get_template s state (Virt site) (Some field)
  get_plain number slot is found plain =
      let now : field_held s state site field ≡ Plain = held_is number is ∙ ap readable (sym found) ∙ plain in
      sym (rw (now, is) refl)

-- ---- the numbers of fields, as the code has them

min_low : (exact most number : ℕ) → min exact most ≡ number → number < most → exact ≡ number
min_low exact most number is less = grind (arith, is, less)

min_high : (exact most number count : ℕ) → min exact most ≡ number → count ≤ number → count ≤ exact
min_high exact most number count is high = grind (arith, is, high)

capped_low : (most number : ℕ) (exact : Option ℕ) → Some number ≡ capped most exact → number < most → exact ≡ Some number
capped_low most number None is less = absurd (none-some number (sym is))
capped_low most number (Some exact) is less = ap (λ (n : ℕ). Some n) (min_low exact most number (same_Some (min exact most) number (sym is)) less)

capped_high : (most number count one : ℕ) (exact : Option ℕ) → Some number ≡ capped most exact → count ≤ number → exact ≡ Some one → count ≤ one
capped_high most number count one None is high some = absurd (none-some one some)
capped_high most number count one (Some exact) is high some =
    subst (λ (n : ℕ). count ≤ n) (same_Some exact one some) (min_high exact most number count (same_Some (min exact most) number (sym is)) high)

capped_none : (most one : ℕ) (exact : Option ℕ) → None ≡ capped most exact → exact ≡ Some one → ⊥
capped_none most one None is some = none-some one some
capped_none most one (Some exact) is some = none-some (min exact most) is

pub field_inside : (s : PlanScope) (site most number count : ℕ) (field : Reference)
    → Some number ≡ capped most (field_number s site field)
    → number < count
    → count ≤ most
    → IsFieldAt s site field (Some number)
field_inside s site most number count field is less few = record {
  some = λ one same.
      capped_low most number (field_number s site field) is (omega (arith, less, few)) ∙ same;
  none = λ one gone. absurd (none-some number (sym gone));
}

pub field_outside : (s : PlanScope) (site most number count : ℕ) (field : Reference)
    → Some number ≡ capped most (field_number s site field)
    → count ≤ number
    → count ≡ length (fields_at s.flat site)
    → IsFieldAt s site field None
field_outside s site most number count field is high all = record {
  some = λ one same. absurd (none-some one same);
  none = λ one gone same.
      let past = capped_high most number count one (field_number s site field) is high same in
      slice_get_past (fields_at s.flat site) one (omega (arith, past, all));
}

pub field_nowhere : (s : PlanScope) (site most : ℕ) (field : Reference) → None ≡ capped most (field_number s site field) → IsFieldAt s site field None
field_nowhere s site most field is = record {
  some = λ one same. absurd (none-some one same);
  none = λ one gone same. absurd (capped_none most one (field_number s site field) is same);
}

-- ---- calls

-- the lowest of the topmost entries, as the code looks it up
pub lowest_some : (flat : FlatCode) (stack : List VType) (count at : ℕ) (type : VType) → at ≡ length stack - count → slice_get stack at ≡ Some type
    → is_site_object flat type ≡ is_site_object flat (lowest_of count stack)
lowest_some flat stack count at type place is =
    let there = drop_item stack (length stack - count) type (subst (λ (n : ℕ). slice_get stack n ≡ Some type) place is) in
    rw there refl

pub lowest_none : (flat : FlatCode) (stack : List VType) (count at : ℕ) → at ≡ length stack - count → slice_get stack at ≡ None
    → false ≡ is_site_object flat (lowest_of count stack)
lowest_none flat stack count at place is =
    let there = drop_past stack (length stack - count) (subst (λ (n : ℕ). slice_get stack n ≡ None) place is) in
    rw there refl

some_map : (found : Option ℕ) → is_some (option_map (λ (n : ℕ). suc n) found) ≡ is_some found
some_map None = refl
some_map (Some number) = refl

site_step : (one : Site) (others : List Site) (at : ℕ) (test : Bool) → (one.at == at) ≡ test
    → is_some (number_of_first (λ (site : Site). site.at == at) others) ≡ is_some (class_of_site others at)
    → is_some (number_of_first (λ (site : Site). site.at == at) (one ∷ others)) ≡ is_some (class_of_site (one ∷ others) at)
site_step one others at true is rest = rw is refl
site_step one others at false is rest = rw is (some_map (number_of_first (λ (site : Site). site.at == at) others) ∙ rest)

site_named : (sites : List Site) (at : ℕ) → is_some (number_of_first (λ (site : Site). site.at == at) sites) ≡ is_some (class_of_site sites at)
site_named [] at = refl
site_named (one ∷ others) at = site_step one others at (one.at == at) refl (site_named others at)

-- a site is at a point
pub has_site : (flat : FlatCode) (at : ℕ) (found : Option ℕ) → found ≡ site_at flat at → is_some found ≡ is_some (class_of_site flat.sites at)
has_site flat at found is = ap is_some is ∙ site_named flat.sites at

-- a call of the initialiser of java/lang/Object whose operands are popped, or that is written as it is
abbrev pub init_test : PlanScope → Frame → State → Bool → Reference → Bool
init_test s f state is_special method =
    is_special
    && is_object_init method
    && (is_virtual (held state (operand f (length (parameters_of method.desc)))) || is_site_object s.flat (receiver f method.desc))

pub init_popped : (s : PlanScope) (f : Frame) (state : State) (is_special : Bool) (method : Reference) (count : ℕ)
    → count ≡ length (parameters_of method.desc) + 1
    → init_test s f state is_special method ≡ true
    → Some (popped_from (cells f state) count 0) ≡ init_template s f state is_special (Some method)
init_popped s f state is_special method count same test =
    let next : count ≡ suc (length (parameters_of method.desc)) = omega (arith, same) in
    ap (λ (n : ℕ). Some (popped_from (cells f state) n 0)) next
    ∙ sym (ap (λ (t : Bool). cond t (Some (popped_from (cells f state) (suc (length (parameters_of method.desc))) 0)) None) test)

pub init_kept : (s : PlanScope) (f : Frame) (state : State) (is_special : Bool) (method : Reference)
    → init_test s f state is_special method ≡ false
    → None ≡ init_template s f state is_special (Some method)
init_kept s f state is_special method test =
    sym (ap (λ (t : Bool). cond t (Some (popped_from (cells f state) (suc (length (parameters_of method.desc))) 0)) None) test)

-- ---- comparisons

pub same_virtual : (s : PlanScope) (f : Frame) (state : State) (route : Route) (site : ℕ) (other : Slot) (pops : Bool)
    → pops ≡ half_plain other
    → template_meant s f state route (variants.Jump pops) ≡ same_template s route (Virt site) other
same_virtual s f state route site Plain pops is = ap (λ (b : Bool). template_meant s f state route (variants.Jump b)) is
same_virtual s f state route site (Virt also) pops is = ap (λ (b : Bool). template_meant s f state route (variants.Jump b)) is
same_virtual s f state route site Unusable pops is = ap (λ (b : Bool). template_meant s f state route (variants.Jump b)) is

pub same_plain : (s : PlanScope) (f : Frame) (state : State) (route : Route) (other : Slot) (found : Template)
    → found ≡ half_jump other true
    → template_meant s f state route found ≡ same_template s route Plain other
same_plain s f state route Plain found is = ap (template_meant s f state route) is
same_plain s f state route (Virt site) found is = ap (template_meant s f state route) is
same_plain s f state route Unusable found is = ap (template_meant s f state route) is

pub same_unusable : (s : PlanScope) (f : Frame) (state : State) (route : Route) (other : Slot) (found : Template)
    → found ≡ half_jump other false
    → template_meant s f state route found ≡ same_template s route Unusable other
same_unusable s f state route Plain found is = ap (template_meant s f state route) is
same_unusable s f state route (Virt site) found is = ap (template_meant s f state route) is
same_unusable s f state route Unusable found is = ap (template_meant s f state route) is
