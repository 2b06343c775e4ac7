use Rattle.std.proofs.Common.{map, string_bytes, Err, refl, ap, subst}
use Rattle.host_tree.specs.declared.call.HostCall.TheVariants.{Print}
use Rattle.pea_top.specs.declared.status.Status.TheVariants.{Done}
use Rattle.host_tree.specs.declared.call.HostCall.TheVariants.{List, Read}
use Rattle.pea_top.specs.Status.{ending}
use Rattle.pea_top.specs.declared.status.Status.{Status}
use Rattle.pea_top.proofs.Complete.{comes, done, fault_behind}
use Rattle.pea_top.proofs.Meanings.{LeavesDoneAt, done_means, left_done}
use Rattle.pea_top.proofs.Outcomes.{outcome_kept, outcome_wider, usage_answered, Rose-behind}
use Rattle.pea_top.proofs.top.pea.Goals as goal

pub returns-in-Ok-clause-left : goal.returns-in-Ok-clause-left
returns-in-Ok-clause-left g c = λ tells. (outcome_kept (map string_bytes c.args.words.now) _ _ ⊥ _ _ Done refl (c.in-Ok.ensures.stop tells)).left

pub returns-in-Err-clause-usage : goal.returns-in-Err-clause-usage
returns-in-Err-clause-usage g c = usage_answered _ _ c.refuse.ensures.answer (λ is. c.in-Err.ensures.usage (ap Err is))

pub returns-in-Err-clause-left : goal.returns-in-Err-clause-left
returns-in-Err-clause-left g c = λ tells.
    let outcome = c.refuse.ensures.outcome (map string_bytes c.args.words.now) (g.H.Host.file c.args.host.now) (g.H.Host.printed c.args.host.now) tells (c.in-Err.ensures.stop tells) in
    (outcome_wider (map string_bytes c.args.words.now) _ _ _ _ _ _ c.refuse.result (Rose-behind (c.in-Err.ensures.counts Print)) outcome).left

pub returns-in-Ok-clause-answered : goal.returns-in-Ok-clause-answered
returns-in-Ok-clause-answered g c = λ answer tells is other no_list no_read.
    absurd (other (c.words_and_files_have_one_answer.ensures (map string_bytes c.args.words.now) (g.H.Host.file c.args.host.now) answer Done is (c.in-Ok.ensures.stop tells).cause))

pub returns-in-Ok-clause-meaning : goal.returns-in-Ok-clause-meaning
returns-in-Ok-clause-meaning g c = λ input output library tells done spelled.
    let left = (outcome_kept (map string_bytes c.args.words.now) _ _ ⊥ _ _ Done refl (c.in-Ok.ensures.stop tells)).left in
    done_means c.bytes_are_one_class_file.ensures c.classes_of_a_tree_are_a_hierarchy.ensures c.words_spell_one_command.ensures (map string_bytes c.args.words.now) input output library _ _ spelled left.0

pub returns-in-Err-clause-answered : goal.returns-in-Err-clause-answered
returns-in-Err-clause-answered g c = λ answer tells is other no_list no_read.
    let outcome = c.refuse.ensures.outcome (map string_bytes c.args.words.now) (g.H.Host.file c.args.host.now) (g.H.Host.printed c.args.host.now) tells (c.in-Err.ensures.stop tells) in
    comes c.words_and_files_have_one_answer.ensures (map string_bytes c.args.words.now) (g.H.Host.file c.args.host.now) answer c.refuse.result is other outcome.cause
    (λ same. no_list (fault_behind _ _ _ c.refuse.ensures.answer (λ call e. c.in-Err.ensures.fault call (ap Err e)) c.refuse.ensures.counts List same))
    (λ same. no_read (fault_behind _ _ _ c.refuse.ensures.answer (λ call e. c.in-Err.ensures.fault call (ap Err e)) c.refuse.ensures.counts Read same))

pub returns-in-Err-clause-complete : goal.returns-in-Err-clause-complete
returns-in-Err-clause-complete g c = λ tells can no_call.
    let outcome = c.refuse.ensures.outcome (map string_bytes c.args.words.now) (g.H.Host.file c.args.host.now) (g.H.Host.printed c.args.host.now) tells (c.in-Err.ensures.stop tells) in
    done c.words_and_files_have_one_answer.ensures (map string_bytes c.args.words.now) (g.H.Host.file c.args.host.now) c.refuse.result can outcome.cause
    (λ call same. no_call call (fault_behind _ _ _ c.refuse.ensures.answer (λ call e. c.in-Err.ensures.fault call (ap Err e)) c.refuse.ensures.counts call same))

pub returns-in-Err-clause-meaning : goal.returns-in-Err-clause-meaning
returns-in-Err-clause-meaning g c = λ input output library tells is spelled.
    let outcome = c.refuse.ensures.outcome (map string_bytes c.args.words.now) (g.H.Host.file c.args.host.now) (g.H.Host.printed c.args.host.now) tells (c.in-Err.ensures.stop tells) in
    let words = map string_bytes c.args.words.now in
    let left = subst (λ (status : Status). LeavesDoneAt words (g.H.Host.file c.args.host.now) (g.H.Host.file c.refuse.new.host) (ending status)) is (left_done words _ _ _ _ _ (ending c.refuse.result) outcome.left) in
    done_means c.bytes_are_one_class_file.ensures c.classes_of_a_tree_are_a_hierarchy.ensures c.words_spell_one_command.ensures words input output library _ _ spelled left
