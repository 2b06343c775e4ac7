use Rattle.code_bytes.proofs.Parts.{some_parts}
use Rattle.code_bytes.proofs.source.Source.parts.Goals as goal

pub returns-in-Some-get : goal.returns-in-Some-get
returns-in-Some-get g c =
    some_parts g.row.N c.args.count c.args.from c.args.self.now.bytes.now c.in-Some.rest.now c.as_chunks.result.0.now c.in-Some-get.parts.now c.requires
    c.in-Some.ensures.lookup.0.0 c.in-Some.ensures.lookup.0.2 c.as_chunks.ensures.front c.in-Some-get.ensures.lookup.0.1 c.in-Some-get.ensures.lookup.0.2
