use Rattle.pea_top.proofs.top.perform.Goals as goal

pub returns-in-OnFolder-clause-stop : goal.returns-in-OnFolder-clause-stop
returns-in-OnFolder-clause-stop g c = λ words spelled tells. c.read_folder.ensures.stop words (rw c.in-OnFolder.is at spelled) tells

pub returns-in-Listing-clause-stop : goal.returns-in-Listing-clause-stop
returns-in-Listing-clause-stop g c = λ words spelled tells. c.list.ensures.stop words (rw c.in-Listing.is at spelled) tells

pub generated-requires-clause-number : goal.generated-requires-clause-number
generated-requires-clause-number g c = (rw c.in-Generated.is at c.requires).0

pub generated-requires-clause-size : goal.generated-requires-clause-size
generated-requires-clause-size g c = (rw c.in-Generated.is at c.requires).1

pub returns-in-Generated-clause-stop : goal.returns-in-Generated-clause-stop
returns-in-Generated-clause-stop g c = λ words spelled tells. c.generated.ensures.stop words (rw c.in-Generated.is at spelled) tells
