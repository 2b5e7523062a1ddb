use Rattle.settings_keys.specs.Lists.{views}
use Rattle.settings_keys.proofs.ListLemmas.{one_address_more, no_address_there, all_addresses}
use Rattle.settings_keys.proofs.lists.addresses.Goals as goal

pub returns-in-None : goal.returns-in-None
returns-in-None c = record {
  read = no_address_there (views c.args.items.now) _ _ _ _ c.loop-item.invariant c.loop-item-test.true c.item-item.is c.in-None.ensures.read;
}

pub loop-item-preserved : goal.loop-item-preserved
loop-item-preserved c =
    rw c.in_ok-push-in-Some.ensures.written
    (one_address_more (views c.args.items.now) _ _ _ _ _ c.loop-item.invariant c.loop-item-test.true c.item-item.is c.in-Some.ensures.read)

pub returns : goal.returns
returns c = record {
  read = all_addresses (views c.args.items.now) c.args.items.now c.loop-item.item-index _ c.loop-item.invariant c.loop-item-test.false;
}
