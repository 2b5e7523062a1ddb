use Rattle.ule_scenarios.proofs.sndu_packing_tests.an_sndu_begins_after_another_where_two_bytes_have_room.Goals as goal

pub loop-want-init : goal.loop-want-init
loop-want-init g c = c.new-packer.ensures.on_way _
