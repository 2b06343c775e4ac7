-- The lines of a report by what becomes of methods. It is this project's profile.
use Rattle.std.specs.Prelude.{◌≡◌, ◌≢◌, count_by, length}
use Rattle.class_model.specs.declared.class_file.MethodAt.{MethodAt}
use Rattle.class_rewrite.specs.Rewriting.Folders.{HasReasonAt, IsRewrittenAt}
use Rattle.class_rewrite.specs.Rewriting.Methods.{Rewriting, Rewritten}
use Rattle.class_rewrite.specs.declared.report.Line.{Line}
use Rattle.flow_code.specs.declared.reason.Reason.TheVariants as reasons
use Rattle.making_code.specs.CountedItems.{is_enter, site_news}
use Rattle.plan_flow.specs.Written.WrittenPrograms.{items_of}

-- the numbers of a kept method are 0
pub record HasNoNumbers (line : Line) : Type 0 where
  pub sites : line.sites ≡ 0
  pub news : line.news ≡ 0
  pub enters : line.enters ≡ 0
  pub bytes : line.bytes ≡ 0

-- The numbers of a method that is rewritten: the sites of its flat code, the objects of sites that written code makes, the monitors that it enters,
-- each by its instructions, and the bytes of its code.
pub record HasNumbers (r : Rewriting) (w : Rewritten) (line : Line) : Type 0 where
  pub sites : line.sites ≡ length w.one.flat.sites
  pub news : line.news ≡ site_news (items_of r.classes r.links w.one)
  pub enters : line.enters ≡ count_by (λ item. is_enter item.instr) w.items
  pub bytes : line.bytes ≡ length w.part.code

-- the line of a method
pub record IsLineOf (r : Rewriting) (at : MethodAt) (line : Line) : Type 0 where
  pub own : line.at ≡ at
  pub reason : HasReasonAt r at line.reason
  pub kept : line.reason ≢ reasons.Rewritten → HasNoNumbers line
  pub rewritten : (w : Rewritten) → IsRewrittenAt r at w → HasNumbers r w line
