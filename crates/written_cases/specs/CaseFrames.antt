-- The frames of what is written of small flat codes, by the definition of framed code.
use Rattle.std.specs.Prelude.{◌≡◌, ℕ, zero, suc, List, [], ◌∷◌, ◌++◌, Option, Some, None}
use Rattle.class_model.specs.declared.class_file.ClassFile.{ClassFile}
use Rattle.class_model.specs.declared.class_file.CodePart.{CodePart}
use Rattle.class_model.specs.declared.class_file.Method.{Method}
use Rattle.class_model.specs.declared.frame.Frame.{Frame}
use Rattle.class_model.specs.declared.frame.VType.{VType}
use Rattle.class_tree.specs.Headers.{headers_of}
use Rattle.member_link.specs.Bodies.{Body}
use Rattle.member_link.specs.Scope.{Scope}
use Rattle.plan_flow.specs.Written.FramedCode.{IsFramed, body_of_items, flow_into, frame_of_item, greatest_of, is_led_to, stated_by}
use Rattle.written_cases.specs.CaseWords.{Case, Wanted, blocks_in, flat_in, scope_in}

-- The class file and the method of a case, what is written of it, and the greatest depth of its stack; the frames of its items, one each; and
-- those that are stated, by the numbers of the items.
pub record Framed : Type 0 where
  pub case : Case
  pub file : ClassFile
  pub method : Method
  pub wanted : Wanted
  pub max_stack : ℕ
  pub frames : List Frame
  pub stated : List (ℕ × Frame)

abbrev pub having : List VType → List VType → Frame
having locals stack = record { locals = locals; stack = stack }

-- the body of the items reads nothing of the host's own code
abbrev no_code : CodePart
no_code = record { max_stack = 0; max_locals = 0; code = []; handlers = []; attrs = [] }

abbrev host_of : Framed → Scope
host_of one = record {
  headers = headers_of (scope_in one.case).classes;
  class = one.file;
  method = one.method;
  part = no_code;
}

abbrev body_stating : Framed → (ℕ → Option Frame) → Body
body_stating one stated =
    body_of_items (host_of one) (flat_in one.case) one.wanted.pool one.max_stack
    one.wanted.items stated

-- the frame that is stated for an item, by what flows into it
abbrev stated_at : Framed → ℕ → Option Frame
stated_at one number =
    stated_by (is_led_to one.wanted.items number)
    (flow_into (body_stating one (λ number. None)) one.frames number)
    (frame_of_item (flat_in one.case) one.case.form (blocks_in one.case) number)

abbrev pub framed_body : Framed → Body
framed_body one = body_stating one (stated_at one)

-- the frames that are stated for the items from a number on, as many as there are frames
abbrev placed : ℕ → Option Frame → List (ℕ × Frame)
placed number None = []
placed number (Some frame) = (number, frame) ∷ []

abbrev stated_from : Framed → ℕ → List Frame → List (ℕ × Frame)
stated_from one number [] = []
stated_from one number (frame ∷ frames) =
    placed number (stated_at one number) ++ stated_from one (suc number) frames

pub record HasFrames (one : Framed) : Type 0 where
  pub framed : IsFramed (flat_in one.case) one.case.form (blocks_in one.case) one.wanted.items
      (framed_body one) one.frames
  pub stated : stated_from one zero one.frames ≡ one.stated
  pub max_stack : greatest_of (framed_body one).points one.frames ≡ one.max_stack
