-- Only its methods have codes, and these were read.
use Rattle.class_listing.proofs.CutAttributes.{has_codes}
use Rattle.class_listing.proofs.laws.a_class_file_has_codes.Goals as goal

pub returns : goal.returns
returns c = λ bytes class is. has_codes bytes class is (c.a_class_file_has_read_methods.ensures.methods bytes class is)
