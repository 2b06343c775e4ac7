-- What holds of each holds of this one, and one more is appended.
use Rattle.class_listing.specs.Inner.ListingTexts.{method_text}
use Rattle.class_listing.specs.Listings.{MethodCodes}
use Rattle.class_listing.proofs.PushedTexts.{one_more}
use Rattle.class_listing.proofs.ReadInstrs.{one_of}
use Rattle.class_listing.proofs.members.push_methods.Goals as goal

pub push_method-requires : goal.push_method-requires
push_method-requires c = one_of MethodCodes _ _ _ c.requires c.loop-method-test.true c.method-item.is

pub loop-method-preserved : goal.loop-method-preserved
loop-method-preserved c =
    one_more method_text c.args.methods.now c.loop-method.method-index c.method-item.result c.args.out.now.items c.loop-method.out.items c.push_method.new.out.items c.loop-method-test.true c.method-item.is c.loop-method.invariant c.in_ok-push_method.ensures
