-- The frames of what is written of a method are sound.
use Rattle.std.proofs.Common.{◌≡◌, ◌≢◌, ◌∙◌, ℕ, List, Option, Some, refl, sym, subst}
use Rattle.std.proofs.lemmas.Option.{same_Some}
use Rattle.class_model.specs.Laws.Lists.{at_index}
use Rattle.class_model.specs.declared.class_file.MethodAt.{MethodAt}
use Rattle.class_model.specs.declared.frame.Frame.{Frame}
use Rattle.class_model.specs.declared.instr.Instr.{Instr}
use Rattle.class_rewrite.specs.Inner.Meanings.{AreSoundFrames, Framed, IsFramedFor, IsMeant, IsReady, Meaning, scope}
use Rattle.class_rewrite.specs.Inner.SoundStates.{AreFramedItems, AreSoundStates}
use Rattle.class_tree.specs.Headers.{Classes}
use Rattle.class_tree.specs.Trees.{IsTree}
use Rattle.code_drafts.specs.Emits.{Writing as Drafted}
use Rattle.code_layout.specs.declared.emitted.EmitItem.{EmitItem}
use Rattle.expanded_code.specs.CandidateSites.{HasCandidateSites}
use Rattle.expanded_code.specs.ExpandAnswers.{IsExpanded}
use Rattle.expanded_runs.specs.CarriedConstants.{IsCarriable}
use Rattle.expanded_runs.specs.NamedFrames.{HasFramedNames}
use Rattle.flow_code.specs.FlatCode.{FlatCode, point_at}
use Rattle.flow_code.specs.TypedFrames.{FolderFrames}
use Rattle.flow_code.specs.declared.point.FlatInstr.TheVariants.{Of}
use Rattle.flow_code.specs.declared.point.Point.{Point}
use Rattle.making_code.specs.Laws.GrownPools.{begins_itself}
use Rattle.member_link.specs.Linked.{IsLinked}
use Rattle.member_link.specs.Scope.{Scope}
use Rattle.plan_flow.specs.PlanScope.{pool_of}
use Rattle.same_runs.specs.ReadyCode.{IsReadyCode, IsReadyInstr, IsReadyItem}
use Rattle.stackmap_emit.specs.FramedItems.{finished_by}
use Rattle.type_rules.specs.Verified.{TypesFolder}
use Rattle.written_types.specs.Setting.{Setting}
use Rattle.written_types.specs.Writing.{Writing}

-- laws that are used
pub record FramedLaws : Type 0 where
  pub ready : (of : Drafted) (m : Meaning) → IsMeant of m → IsReady of m
  pub sound : (w : Writing) (items : List EmitItem) (state : ℕ → Option Frame) (frames : List Frame) → AreFramedItems w items state frames
      → AreSoundStates w items state frames
  pub named : (classes : Classes) (typed : FolderFrames) (at : MethodAt) (flat : FlatCode) (s : Scope) → IsTree classes → IsLinked classes
      → TypesFolder classes typed
      → IsExpanded classes typed at flat
      → HasCandidateSites classes flat
      → IsReadyCode classes s flat
      → HasFramedNames classes s flat

module _ (laws : FramedLaws) (of : Drafted) (m : Meaning) (f : Framed) (is : IsFramedFor of m f) where
  ready : IsReady of m
  ready = laws.ready of m is.meant

  abbrev written : Writing
  written = record {
    s = scope of m;
    host = f.host;
    constructor = m.constructor;
    pool = f.pool;
    form = f.form;
    blocks = finished_by (scope of m) f.routes;
    max_stack = 0;
  }

  code : IsReadyCode of.classes f.host of.flat
  code =
      subst (λ (one : Scope). IsReadyCode of.classes one of.flat) (same_Some ready.host f.host (sym ready.is_host ∙ is.is_host)) ready.code

  carried : (place : ℕ) (point : Point) (class : ℕ) (instr : Instr) → point_at of.flat place ≡ Some point → point.instr ≡ Of class instr
      → class ≢ of.flat.host.class
      → IsCarriable (pool_of (scope of m) class) instr
  carried place point class instr there same other =
      let item : IsReadyInstr of.classes of.flat.locals class instr =
      subst (IsReadyItem of.classes of.flat.locals) same
      (at_index (λ (one : Point). IsReadyItem of.classes of.flat.locals one.instr) of.flat.points place point code.points there) in
      rw (item.there) (ready.carries place point class instr item.file there same item.there other)

  setting : Setting written
  setting = record {
    plan = of.plan;
    routes = f.routes;
    tree = is.meant.folder.tree;
    links = is.meant.links;
    ready = code;
    sites = ready.sites;
    for_plans = ready.for_plans;
    carried = carried;
    valid = is.meant.least.valid;
    routed = is.routed;
    blocks = refl;
    constructors = is.meant.constructors;
    before = f.before;
    begins_before = is.begins;
    grown = f.pool;
    grows = is.grows;
    begins = begins_itself f.pool;
  }

  known : AreSoundStates written f.items f.state f.frames
  known =
      laws.sound written f.items f.state f.frames (record {
        setting = setting;
        names =
            laws.named of.classes m.typed m.at of.flat f.host is.meant.folder.tree is.meant.folder.linked is.meant.folder.types is.meant.flat.1 ready.sites
            code;
        items_are = is.items;
        framed = is.framed;
      })

  pub sound_framed : AreSoundFrames of f
  sound_framed = record { texts = known.texts; written = λ laid is_laid short. known.written is.meant.flat.4 laid is_laid }
