use Rattle.inline_expand.proofs.Walking.{apart_keys}
use Rattle.inline_expand.proofs.verdicts.Verdicts.judge.Goals as goal

pub returns-clause-ok : goal.returns-clause-ok
returns-clause-ok c = record {
  here = c.in_ok-insert.ensures.updates.1;
  apart = λ other apart. c.in_ok-insert.ensures.updates.2 (other.class, other.method) (apart_keys c.args.at other apart);
}
