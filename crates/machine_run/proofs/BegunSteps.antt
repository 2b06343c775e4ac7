-- The step of a beginning, by what comes first.
use Rattle.std.proofs.Common.{◌≡◌, ℕ, List, Option, Some, None, slice_get, sym, ap, ◌∙◌}
use Rattle.class_model.specs.declared.class_file.MethodAt.{MethodAt}
use Rattle.class_model.specs.declared.header.Header.{Header}
use Rattle.class_tree.specs.Headers.{Classes, headers_of}
use Rattle.machine_values.specs.declared.frame.RunFrame.{RunFrame}
use Rattle.member_link.specs.Machine.Beginnings.{beginning_step, begun_next, come_first, first_unbegun, past_beginning}
use Rattle.member_link.specs.Machine.Programs.{Program}
use Rattle.member_link.specs.Machine.Worlds.{Halt, Memory, World, going}
use Rattle.member_link.specs.TreePrograms.{IsProgram}
use Rattle.machine_run.specs.Outcomes.{ended}
use Rattle.member_link.specs.Laws.ProgramHeaders.{class_with}

pub beginning_is :
    (classes : Classes) (P : Program)
    → IsProgram classes P
    → (class : ℕ) (header : Header) (w : World) (memory : Memory) (rest : List RunFrame) (first : Option ℕ)
    → slice_get (headers_of classes).folder class ≡ Some header
    → memory ≡ w.memory
    → first ≡ first_unbegun P memory (come_first P header)
    → begun_next P class w rest first ≡ beginning_step P class w rest
beginning_is classes P is class header w memory rest first at same_memory same =
    let found = class_with classes P is class header at in
    rw found.1
    (ap (begun_next P class w rest)
    (same
    ∙ ap (λ (m : Memory). first_unbegun P m (come_first P header)) same_memory
    ∙ ap (λ (h : Header). first_unbegun P w.memory (come_first P h)) (sym found.2)))

-- a world that goes on
pub goes_on : (w : World) → w.halt ≡ going → ended going w ≡ w
goes_on w is = ap (λ (halt : Halt). ended halt w) (sym is)

pub past_goes_on :
    (P : Program) (w : World) (rest : List RunFrame) (initialiser : Option MethodAt)
    → w.halt ≡ going
    → ended going (past_beginning P w rest initialiser) ≡ past_beginning P w rest initialiser
past_goes_on P w rest None is = goes_on (past_beginning P w rest None) is
past_goes_on P w rest (Some at) is = goes_on (past_beginning P w rest (Some at)) is
