-- What written types asks of a method that is rewritten (`Setting`) holds of it, in either form.
use Rattle.std.proofs.Common.{◌≡◌, ◌≢◌, ◌∙◌, ℕ, List, Some, refl, sym, subst}
use Rattle.std.proofs.lemmas.Option.{same_Some}
use Rattle.class_model.specs.Laws.Lists.{at_index}
use Rattle.class_model.specs.declared.class_file.ClassFile.{ClassFile}
use Rattle.class_model.specs.declared.class_file.MethodAt.{MethodAt}
use Rattle.class_model.specs.declared.instr.Instr.{Instr}
use Rattle.class_rewrite.proofs.WrittenFolders.{IsRewrittenHost, rewritten_host}
use Rattle.class_rewrite.specs.Inner.ReadyFolders.{IsReadyFolder, IsReadyHost}
use Rattle.class_rewrite.specs.Laws.GrownPools.{pool_begins}
use Rattle.class_rewrite.specs.Rewriting.Folders.{IsFolderWritten, IsRewrittenAt}
use Rattle.class_rewrite.specs.Rewriting.Methods.{Rewriting, Rewritten}
use Rattle.class_rewrite.specs.Rewriting.Verifying.{IsOfVerified}
use Rattle.expanded_runs.specs.CarriedConstants.{IsCarriable}
use Rattle.flow_code.specs.FlatCode.{point_at}
use Rattle.flow_code.specs.declared.point.FlatInstr.TheVariants.{Of}
use Rattle.flow_code.specs.declared.point.Point.{Point}
use Rattle.making_code.specs.Laws.GrownPools.{Begins, begins_itself}
use Rattle.member_link.specs.Laws.Scopes.{scope_is_at}
use Rattle.member_link.specs.Scope.{Scope, scope_at}
use Rattle.plan_flow.specs.PlanScope.{pool_of}
use Rattle.plan_flow.specs.Written.WrittenCode.{Form}
use Rattle.plan_flow.specs.Written.WrittenPrograms.{finished_of, plan_scope}
use Rattle.same_runs.specs.ReadyCode.{IsReadyCode, IsReadyInstr, IsReadyItem}
use Rattle.written_types.specs.Setting.{Setting}
use Rattle.written_types.specs.Writing.{Writing}

-- a method that is rewritten, in a form, with so much room on the stack
abbrev pub writing : Rewriting → Rewritten → Scope → Form → ℕ → Writing
writing r v host form room = record {
  s = plan_scope r.classes r.links v.one;
  host = host;
  constructor = r.constructor;
  pool = v.code_pool;
  form = form;
  blocks = finished_of r.classes r.links v.one;
  max_stack = room;
}

module _ (r : Rewriting) (files : List ClassFile) (w : IsFolderWritten r files) (verified : IsOfVerified r) (ready : IsReadyFolder r files w)
    (at : MethodAt) (v : Rewritten) (is_at : IsRewrittenAt r at v) (host : Scope) (is_host : scope_at r.classes at ≡ Some host) where
  pub rewritten : IsRewrittenHost r at v.one
  rewritten = rewritten_host r files w at v.one (w.rewritten.all at v is_at)

  pub ready_host : IsReadyHost r at v.one
  ready_host = ready.ready at v.one (w.rewritten.all at v is_at)

  pub code_ready : IsReadyCode r.classes host v.one.flat
  code_ready =
      subst (λ (one : Scope). IsReadyCode r.classes one v.one.flat) (same_Some ready_host.scope host (sym ready_host.is_scope ∙ is_host)) ready_host.code

  carried : (place : ℕ) (point : Point) (of : ℕ) (instr : Instr) → point_at v.one.flat place ≡ Some point → point.instr ≡ Of of instr
      → of ≢ v.one.flat.host.class
      → IsCarriable (pool_of (plan_scope r.classes r.links v.one) of) instr
  carried place point of instr there is other =
      let item : IsReadyInstr r.classes v.one.flat.locals of instr =
      subst (IsReadyItem r.classes v.one.flat.locals) is
      (at_index (λ (one : Point). IsReadyItem r.classes v.one.flat.locals one.instr) v.one.flat.points place point ready_host.code.points there) in
      rw (item.there) (ready.carries at v.one.flat rewritten.expanded place point of instr item.file there is item.there other)

  pool_before : Begins host.class.pool is_at.pool
  pool_before =
      let own = (scope_is_at r.classes at host is_host).of_folder in
      subst (λ (file : ClassFile). Begins file.pool is_at.pool) (same_Some is_at.file host.class (sym is_at.is_file ∙ own))
      (pool_begins r at.class is_at.file at.method is_at.pool is_at.before)

  pub setting : (form : Form) (room : ℕ) → Setting (writing r v host form room)
  setting form room = record {
    plan = rewritten.plan;
    routes = v.one.routes;
    tree = verified.tree;
    links = verified.links;
    ready = code_ready;
    sites = ready_host.sites;
    for_plans = ready_host.for_plans;
    carried = carried;
    valid = rewritten.valid;
    routed = rewritten.routed;
    blocks = refl;
    constructors = w.constructors;
    before = is_at.pool;
    begins_before = pool_before;
    grown = v.code_pool;
    grows = is_at.is.coded.grows;
    begins = begins_itself v.code_pool;
  }
